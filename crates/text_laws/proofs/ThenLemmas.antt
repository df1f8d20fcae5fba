-- The laws of reading one after the other.
use Rattle.std.proofs.Common.{◌≡◌, List, [], ◌∷◌, ◌++◌, refl, sym, ap, ◌∙◌, subst, append_assoc, append-nil, inl, inr}
use Rattle.std.specs.Prelude.{Option}
use Rattle.hs_texts.specs.Pieces.{Piece}
use Rattle.hs_texts.specs.Languages.{Language, Then}
use Rattle.text_laws.specs.Parsers.{done, stuck, Parser, next, go_on, ◌>>=◌}
use Rattle.text_laws.specs.Reads.{Avoids, HasRead, IsStuck, Lives, Reads, Leads}
use Rattle.text_laws.proofs.ListLemmas.{split_at, next_same, went_on, got_stuck, same_value, same_rest, not_both, avoids_none}

-- what is next in a sentence that goes on with a piece of its own
pub leads_on : {A : Type 0} (S : Language A) (behind stops : List Piece) → Leads S behind stops → (b g more others : List Piece) (q : Piece) (y : A) → S b y → b ≡ g ++ q ∷ more → Avoids stops (next (g ++ q ∷ others))
leads_on S behind stops l b g more others q y s e =
    let a : Avoids stops (next (b ++ [])) = l.avoids b [] y s tt in
    let same : next (b ++ []) ≡ next (g ++ q ∷ others) = ap next (append-nil b ∙ e) ∙ next_same g (q ∷ more) (q ∷ others) refl in
    subst (λ (p : Option Piece). Avoids stops p) same a

then_sound : {A B : Type 0} (R : Language A) (S : A → Language B) (p : Parser A) (f : A → Parser B) (F G : List Piece) → Reads R p F → ((x : A) → Reads (S x) (f x) G) → (ps rest : List Piece) (y : B) → (p >>= f) ps ≡ done y rest → HasRead (Then R S) (p >>= f) ps y rest
then_sound R S p f F G r s ps rest y h =
    let a = went_on (p ps) f y rest h in
    let l = r.sound ps a.1 a.0 a.2 in
    let m = (s a.0).sound a.1 rest y a.3 in record {
      front = l.front ++ m.front;
      sentence = record { front = l.front; back = m.front; value = a.0; first = l.sentence; second = m.sentence; joined = refl };
      split = l.split ∙ ap (λ (zs : List Piece). l.front ++ zs) m.split ∙ sym (append_assoc l.front m.front rest);
      local = λ other e.
          rw (append_assoc l.front m.front other)
          (ap (λ r'. go_on r' f) (l.local (m.front ++ other) (next_same m.front other rest e ∙ sym (ap next m.split)))
          ∙ m.local other e);
    }

then_complete : {A B : Type 0} (R : Language A) (S : A → Language B) (p : Parser A) (f : A → Parser B) (F G : List Piece) → Reads R p F → ((x : A) → Reads (S x) (f x) G) → ((x : A) → Leads (S x) G F) → (u rest : List Piece) (y : B) → Then R S u y → Avoids G (next rest) → (p >>= f) (u ++ rest) ≡ done y rest
then_complete R S p f F G r s l u rest y h a =
    rw (h.joined, append_assoc h.front h.back rest)
    (ap (λ r'. go_on r' f) (r.complete h.front (h.back ++ rest) h.value h.first ((l h.value).avoids h.back rest y h.second a))
    ∙ (s h.value).complete h.back rest y h.second a)

-- the first of the two is stuck
pub first_stuck : {A B : Type 0} (R : Language A) (S : A → Language B) (p : Parser A) (F G : List Piece) → Reads R p F → ((x : A) → Leads (S x) G F) → ((x : A) → Lives (S x)) → (ps rest : List Piece) → p ps ≡ stuck rest → IsStuck (Then R S) ps rest
first_stuck R S p F G r l alive ps rest h =
    let k = r.halts ps rest h in
    let b = k.begins in
    let live = alive b.value in record {
      front = k.front;
      split = k.split;
      begins = record {
        more = b.more ++ live.pieces;
        value = live.value;
        sentence = record { front = k.front ++ b.more; back = live.pieces; value = b.value; first = b.sentence; second = live.sentence; joined = sym (append_assoc k.front b.more live.pieces) };
      };
      none = λ q others more y e t.
          elim (split_at t.front t.back k.front more q (sym t.joined)) [
            | inl g ↦
                let a = leads_on (S t.value) G F (l t.value) t.back g.0 more others q y t.second g.2 in
                let c = r.complete t.front (g.0 ++ q ∷ others) t.value t.first a in
                let cut : ps ≡ t.front ++ (g.0 ++ q ∷ others) = k.split ∙ ap (λ (zs : List Piece). k.front ++ zs) e ∙ ap (λ (zs : List Piece). zs ++ q ∷ others) g.1 ∙ append_assoc t.front g.0 (q ∷ others) in
                not_both h (ap p cut ∙ c)
            | inr g ↦ k.none q others g.0 t.value e (subst (λ (zs : List Piece). R zs t.value) g.1 t.first)
          ];
    }

-- the second is stuck behind the first
pub second_stuck : {A B : Type 0} (R : Language A) (S : A → Language B) (p : Parser A) (F G : List Piece) → Reads R p F → ((x : A) → Leads (S x) G F) → (ps mid rest : List Piece) (x : A) → p ps ≡ done x mid → IsStuck (S x) mid rest → IsStuck (Then R S) ps rest
second_stuck R S p F G r l ps mid rest x h k =
    let u = r.sound ps mid x h in
    let b = k.begins in record {
      front = u.front ++ k.front;
      split = u.split ∙ ap (λ (zs : List Piece). u.front ++ zs) k.split ∙ sym (append_assoc u.front k.front rest);
      begins = record {
        more = b.more;
        value = b.value;
        sentence = record { front = u.front; back = k.front ++ b.more; value = x; first = u.sentence; second = b.sentence; joined = append_assoc u.front k.front b.more };
      };
      none = λ q others more y e t.
          let whole : t.front ++ t.back ≡ u.front ++ (k.front ++ q ∷ more) = sym t.joined ∙ append_assoc u.front k.front (q ∷ more) in
          let theirs = r.complete t.front t.back t.value t.first (subst (λ (zs : List Piece). Avoids F (next zs)) (append-nil t.back) ((l t.value).avoids t.back [] y t.second tt)) in
          let ahead : next (k.front ++ q ∷ more) ≡ next mid = next_same k.front (q ∷ more) rest (sym (ap next e)) ∙ sym (ap next k.split) in
          let ours = u.local (k.front ++ q ∷ more) ahead in
          let both = sym theirs ∙ ap p whole ∙ ours in
          k.none q others more y e (subst (λ (zs : List Piece). S x zs y) (same_rest both) (subst (λ z. S z t.back y) (same_value both) t.second));
    }

-- one after the other is read by going on
pub then_reads : {A B : Type 0} (R : Language A) (S : A → Language B) (p : Parser A) (f : A → Parser B) (F G : List Piece) → Reads R p F → ((x : A) → Reads (S x) (f x) G) → ((x : A) → Leads (S x) G F) → Reads (Then R S) (p >>= f) G
then_reads R S p f F G r s l = record {
  sound = then_sound R S p f F G r s;
  complete = then_complete R S p f F G r s l;
  halts = λ ps rest h.
      elim (got_stuck (p ps) f rest h) [
        | inl k ↦ first_stuck R S p F G r l (λ x. (s x).lives) ps rest k
        | inr k ↦ second_stuck R S p F G r l ps k.1 rest k.0 k.2 ((s k.0).halts k.1 rest k.3)
      ];
  lives =
      let a = r.lives in
      let b = (s a.value).lives in record {
        pieces = a.pieces ++ b.pieces;
        value = b.value;
        sentence = record { front = a.pieces; back = b.pieces; value = a.value; first = a.sentence; second = b.sentence; joined = refl };
      };
}

-- the same where anything may stand behind the first
pub then_any : {A B : Type 0} (R : Language A) (S : A → Language B) (p : Parser A) (f : A → Parser B) (G : List Piece) → Reads R p [] → ((x : A) → Reads (S x) (f x) G) → Reads (Then R S) (p >>= f) G
then_any R S p f G r s = then_reads R S p f [] G r s (λ x. record { avoids = λ u rest y h a. avoids_none (next (u ++ rest)) })
