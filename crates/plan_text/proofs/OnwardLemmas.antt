-- The laws of going on behind what may break off.
use Rattle.std.proofs.Common.{◌≡◌, ℕ, List, [], ◌∷◌, ◌++◌, refl, sym, ap, ◌∙◌, subst, append_assoc, append-nil, inl, inr}
use Rattle.std.specs.Prelude.{Option}
use Rattle.hs_texts.specs.Pieces.{Piece}
use Rattle.hs_texts.specs.Languages.{Language, Then}
use Rattle.text_laws.specs.Parsers.{done, stuck, Parser, next, go_on, ◌>>=◌}
use Rattle.text_laws.specs.Reads.{Avoids, HasRead, IsStuck, Lives, Reads, Leads}
use Rattle.text_laws.proofs.ListLemmas.{split_at, next_same, went_on, got_stuck, same_value, same_rest, not_both, avoids_none}
use Rattle.text_laws.proofs.ParserLemmas.{yields_reads}
use Rattle.hs_texts.specs.Kept.{Kept, kept, broken, onward}
use Rattle.plan_text.specs.PlanReading.{onward_at}

-- where a sentence of S follows, p reads R before it as far as it reaches
pub record Joins {A B : Type 0} (R : Language A) (S : A → Language B) (p : Parser A) : Type 0 where
  pub joins : (front back rest other : List Piece) (x : A) (y : B) → R front x → S x back y → next other ≡ next (back ++ rest) → p (front ++ other) ≡ done x other

joined_sound : {A B : Type 0} (R : Language A) (S : A → Language B) (p : Parser A) (f : A → Parser B) (F : List Piece) → Reads R p F → ((x : A) → Reads (S x) (f x) []) → (ps rest : List Piece) (y : B) → (p >>= f) ps ≡ done y rest → HasRead (Then R S) (p >>= f) ps y rest
joined_sound R S p f F r s ps rest y h =
    let a = went_on (p ps) f y rest h in
    let l = r.sound ps a.1 a.0 a.2 in
    let m = (s a.0).sound a.1 rest y a.3 in record {
      front = l.front ++ m.front;
      sentence = record { front = l.front; back = m.front; value = a.0; first = l.sentence; second = m.sentence; joined = refl };
      split = l.split ∙ ap (λ (zs : List Piece). l.front ++ zs) m.split ∙ sym (append_assoc l.front m.front rest);
      local = λ other e.
          rw (append_assoc l.front m.front other)
          (ap (λ r'. go_on r' f) (l.local (m.front ++ other) (next_same m.front other rest e ∙ sym (ap next m.split)))
          ∙ m.local other e);
    }

joined_complete : {A B : Type 0} (R : Language A) (S : A → Language B) (p : Parser A) (f : A → Parser B) → Joins R S p → ((x : A) → Reads (S x) (f x) []) → (u rest : List Piece) (y : B) → Then R S u y → (p >>= f) (u ++ rest) ≡ done y rest
joined_complete R S p f j s u rest y h =
    rw (h.joined, append_assoc h.front h.back rest)
    (ap (λ r'. go_on r' f) (j.joins h.front h.back rest (h.back ++ rest) h.value y h.first h.second refl)
    ∙ (s h.value).complete h.back rest y h.second (avoids_none (next rest)))

-- the first of the two is stuck
first_stuck : {A B : Type 0} (R : Language A) (S : A → Language B) (p : Parser A) (F : List Piece) → Reads R p F → Joins R S p → ((x : A) → Lives (S x)) → (ps rest : List Piece) → p ps ≡ stuck rest → IsStuck (Then R S) ps rest
first_stuck R S p F r j alive ps rest h =
    let k = r.halts ps rest h in
    let b = k.begins in
    let live = alive b.value in record {
      front = k.front;
      split = k.split;
      begins = record {
        more = b.more ++ live.pieces;
        value = live.value;
        sentence = record { front = k.front ++ b.more; back = live.pieces; value = b.value; first = b.sentence; second = live.sentence; joined = sym (append_assoc k.front b.more live.pieces) };
      };
      none = λ q others more y e t.
          elim (split_at t.front t.back k.front more q (sym t.joined)) [
            | inl g ↦
                let ahead : next (g.0 ++ q ∷ others) ≡ next (t.back ++ []) = next_same g.0 (q ∷ others) (q ∷ more) refl ∙ sym (ap next (append-nil t.back ∙ g.2)) in
                let c = j.joins t.front t.back [] (g.0 ++ q ∷ others) t.value y t.first t.second ahead in
                let cut : ps ≡ t.front ++ (g.0 ++ q ∷ others) = k.split ∙ ap (λ (zs : List Piece). k.front ++ zs) e ∙ ap (λ (zs : List Piece). zs ++ q ∷ others) g.1 ∙ append_assoc t.front g.0 (q ∷ others) in
                not_both h (ap p cut ∙ c)
            | inr g ↦ k.none q others g.0 t.value e (subst (λ (zs : List Piece). R zs t.value) g.1 t.first)
          ];
    }

-- the second is stuck behind the first
second_stuck : {A B : Type 0} (R : Language A) (S : A → Language B) (p : Parser A) (F : List Piece) → Reads R p F → Joins R S p → (ps mid rest : List Piece) (x : A) → p ps ≡ done x mid → IsStuck (S x) mid rest → IsStuck (Then R S) ps rest
second_stuck R S p F r j ps mid rest x h k =
    let u = r.sound ps mid x h in
    let b = k.begins in record {
      front = u.front ++ k.front;
      split = u.split ∙ ap (λ (zs : List Piece). u.front ++ zs) k.split ∙ sym (append_assoc u.front k.front rest);
      begins = record {
        more = b.more;
        value = b.value;
        sentence = record { front = u.front; back = k.front ++ b.more; value = x; first = u.sentence; second = b.sentence; joined = append_assoc u.front k.front b.more };
      };
      none = λ q others more y e t.
          let whole : t.front ++ t.back ≡ u.front ++ (k.front ++ q ∷ more) = sym t.joined ∙ append_assoc u.front k.front (q ∷ more) in
          let theirs = j.joins t.front t.back [] t.back t.value y t.first t.second (ap next (sym (append-nil t.back))) in
          let ahead : next (k.front ++ q ∷ more) ≡ next mid = next_same k.front (q ∷ more) rest (sym (ap next e)) ∙ sym (ap next k.split) in
          let ours = u.local (k.front ++ q ∷ more) ahead in
          let both = sym theirs ∙ ap p whole ∙ ours in
          k.none q others more y e (subst (λ (zs : List Piece). S x zs y) (same_rest both) (subst (λ z. S z t.back y) (same_value both) t.second));
    }

-- one after the other is read by going on
joined_reads : {A B : Type 0} (R : Language A) (S : A → Language B) (p : Parser A) (f : A → Parser B) (F : List Piece) → Reads R p F → Joins R S p → ((x : A) → Reads (S x) (f x) []) → Reads (Then R S) (p >>= f) []
joined_reads R S p f F r j s = record {
  sound = joined_sound R S p f F r s;
  complete = λ u rest y h a. joined_complete R S p f j s u rest y h;
  halts = λ ps rest h.
      elim (got_stuck (p ps) f rest h) [
        | inl k ↦ first_stuck R S p F r j (λ x. (s x).lives) ps rest k
        | inr k ↦ second_stuck R S p F r j ps k.1 rest k.0 k.2 ((s k.0).halts k.1 rest k.3)
      ];
  lives =
      let a = r.lives in
      let b = (s a.value).lives in record {
        pieces = a.pieces ++ b.pieces;
        value = b.value;
        sentence = record { front = a.pieces; back = b.pieces; value = a.value; first = a.sentence; second = b.sentence; joined = refl };
      };
}

-- p reads R, and where the text breaks off anything may stand behind it
pub record ReadsKept {A : Type 0} (R : Language (Kept A)) (p : Parser (Kept A)) (F : List Piece) : Type 0 where
  pub reads : Reads R p F
  pub breaks : (u rest : List Piece) (n : ℕ) → R u (broken n) → p (u ++ rest) ≡ done (broken n) rest

onward_join : {A B : Type 0} (R : Language (Kept A)) (S : A → Language (Kept B)) (p : Parser (Kept A)) (F : List Piece) → ReadsKept R p F → ((x : A) → Leads (S x) [] F) → (front back rest other : List Piece) (v : Kept A) (y : Kept B) → R front v → onward S v back y → next other ≡ next (back ++ rest) → p (front ++ other) ≡ done v other
onward_join R S p F r l front back rest other (kept x) y h k e =
    let a : Avoids F (next other) = subst (λ (o : Option Piece). Avoids F o) (sym e) ((l x).avoids back rest y k (avoids_none (next rest))) in
    r.reads.complete front other (kept x) h a
onward_join R S p F r l front back rest other (broken n) y h k e = r.breaks front other n h

pub onward_each : {A B : Type 0} (S : A → Language (Kept B)) (f : A → Parser (Kept B)) → ((x : A) → Reads (S x) (f x) []) → (v : Kept A) → Reads (onward S v) (onward_at f v) []
onward_each S f s (kept x) = s x
onward_each S f s (broken n) = yields_reads (broken n)

-- what may break off is read by going on
pub onward_reads : {A B : Type 0} (R : Language (Kept A)) (S : A → Language (Kept B)) (p : Parser (Kept A)) (f : A → Parser (Kept B)) (F : List Piece) → ReadsKept R p F → ((x : A) → Leads (S x) [] F) → ((x : A) → Reads (S x) (f x) []) → Reads (Then R (onward S)) (p >>= onward_at f) []
onward_reads R S p f F r l s = joined_reads R (onward S) p (onward_at f) F r.reads (record { joins = onward_join R S p F r l }) (onward_each S f s)

-- where nothing need be avoided
pub kept_any : {A : Type 0} (R : Language (Kept A)) (p : Parser (Kept A)) → Reads R p [] → ReadsKept R p []
kept_any R p r = record { reads = r; breaks = λ u rest n h. r.complete u rest (broken n) h (avoids_none (next rest)) }
