-- The laws of reading items one after another.
use Rattle.std.proofs.Common.{◌≡◌, ℕ, zero, suc, ◌<◌, ◌≤◌, List, [], ◌∷◌, ◌++◌, length, Bool, true, false, refl, sym, ap, ◌∙◌, subst, append_assoc, append-nil, length-append, inl, inr, arith}
use Rattle.std.specs.Prelude.{Option, Some, None}
use Rattle.hs_texts.specs.Pieces.{Piece}
use Rattle.hs_texts.specs.Languages.{Language, Then, Many}
use Rattle.text_laws.specs.Parsers.{Read, done, stuck, Parser, next, go_on, yields, items, many}
use Rattle.text_laws.specs.Reads.{Avoids, HasRead, IsStuck, Reads, Leads, Finds, BeginsWith}
use Rattle.text_laws.proofs.ListLemmas.{next_same, went_on, got_stuck, same_value, same_rest, stuck_rest, not_both}
use Rattle.text_laws.proofs.ThenLemmas.{first_stuck, second_stuck}
use Rattle.text_laws.proofs.ChoiceLemmas.{not_found, begins_next}

-- what holds of items that are told from what stands behind them by the piece they begin with
pub record AreItems {A : Type 0} (test : Option Piece → Bool) (s : Piece) (R : Language A) (p : Parser A) (F : List Piece) : Type 0 where
  pub finds : Finds test s
  pub begins : BeginsWith R s
  pub reads : Reads R p F
  pub behind : Avoids F (Some s)

-- put an item in front
abbrev pub in_front : {A : Type 0} → A → Read (List A) → Read (List A)
in_front x r = go_on r (λ xs. yields (x ∷ xs))

items_stop : {A : Type 0} (test : Option Piece → Bool) (p : Parser A) (n : ℕ) (ps : List Piece) → test (next ps) ≡ false → items test p n ps ≡ done [] ps
items_stop test p zero ps h = refl
items_stop test p (suc n) ps h = rw h

items_halt : {A : Type 0} (test : Option Piece → Bool) (p : Parser A) (n : ℕ) (ps rest : List Piece) → test (next ps) ≡ true → p ps ≡ stuck rest → items test p (suc n) ps ≡ stuck rest
items_halt test p n ps rest h k = rw (h, k)

items_more : {A : Type 0} (test : Option Piece → Bool) (p : Parser A) (n : ℕ) (ps rest : List Piece) (x : A) → test (next ps) ≡ true → p ps ≡ done x rest → items test p (suc n) ps ≡ in_front x (items test p n rest)
items_more test p n ps rest x h k = rw (h, k)

-- an item takes a piece at least
pub shorter : {A : Type 0} (test : Option Piece → Bool) (s : Piece) (R : Language A) (p : Parser A) (F : List Piece) → AreItems test s R p F → (ps rest : List Piece) (x : A) → p ps ≡ done x rest → length rest < length ps
shorter test s R p F a ps rest x h =
    let m = a.reads.sound ps rest x h in
    let b = a.begins.begins m.front x m.sentence in
    omega (arith, ap length m.split, length-append m.front rest, ap length b.1)

-- any number that is great enough reads the same
items_enough : {A : Type 0} (test : Option Piece → Bool) (s : Piece) (R : Language A) (p : Parser A) (F : List Piece) → AreItems test s R p F → (m n : ℕ) (ps : List Piece) → length ps ≤ m → length ps ≤ n → items test p m ps ≡ items test p n ps
items_enough test s R p F a zero n [] h k = sym (items_stop test p n [] a.finds.none)
items_enough test s R p F a zero n (q ∷ ps) h k = absurd (omega arith)
items_enough test s R p F a (suc m) zero [] h k = items_stop test p (suc m) [] a.finds.none
items_enough test s R p F a (suc m) zero (q ∷ ps) h k = absurd (omega arith)
items_enough {A} test s R p F a (suc m) (suc n) ps h k =
    elim (test (next ps)) as (λ b. test (next ps) ≡ b → items test p (suc m) ps ≡ items test p (suc n) ps) [
      | false ↦ λ e. items_stop test p (suc m) ps e ∙ sym (items_stop test p (suc n) ps e)
      | true ↦ λ e. elim (p ps) as (λ r. p ps ≡ r → items test p (suc m) ps ≡ items test p (suc n) ps) [
        | stuck rest ↦ λ f. items_halt test p m ps rest e f ∙ sym (items_halt test p n ps rest e f)
        | done x rest ↦ λ f.
            let less = shorter test s R p F a ps rest x f in
            items_more test p m ps rest x e f
            ∙ ap (in_front x) (items_enough test s R p F a m n rest (omega (arith, less)) (omega (arith, less)))
            ∙ sym (items_more test p n ps rest x e f)
      ] refl
    ] refl

-- the three turns of reading items
pub many_stop : {A : Type 0} (test : Option Piece → Bool) (p : Parser A) (ps : List Piece) → test (next ps) ≡ false → many test p ps ≡ done [] ps
unfolding many
many_stop test p ps h = items_stop test p (length ps) ps h

pub many_halt : {A : Type 0} (test : Option Piece → Bool) (p : Parser A) (ps rest : List Piece) → test None ≡ false → test (next ps) ≡ true → p ps ≡ stuck rest → many test p ps ≡ stuck rest
unfolding many
many_halt test p [] rest e h k = absurd (cc (e, h))
many_halt test p (q ∷ ps) rest e h k = items_halt test p (length ps) (q ∷ ps) rest h k

pub many_more : {A : Type 0} (test : Option Piece → Bool) (s : Piece) (R : Language A) (p : Parser A) (F : List Piece) → AreItems test s R p F → (ps rest : List Piece) (x : A) → test (next ps) ≡ true → p ps ≡ done x rest → many test p ps ≡ in_front x (many test p rest)
unfolding many
many_more test s R p F a [] rest x h k = absurd (cc (h, a.finds.none))
many_more test s R p F a (q ∷ ps) rest x h k =
    let less = shorter test s R p F a (q ∷ ps) rest x k in
    items_more test p (length ps) (q ∷ ps) rest x h k
    ∙ ap (in_front x) (items_enough test s R p F a (length ps) (length rest) rest (omega (arith, less)) (omega arith))

-- the items of a sentence behind its first one
abbrev Others : {A : Type 0} → Language A → A → Language (List A)
Others R x ps ys = Many R ps ys

-- sentences of many items begin with the piece, or are empty
many_next : {A : Type 0} (test : Option Piece → Bool) (s : Piece) (R : Language A) (p : Parser A) (F : List Piece) → AreItems test s R p F → (u rest : List Piece) (xs : List A) → Many R u xs → Avoids F (next rest) → Avoids F (next (u ++ rest))
many_next test s R p F a u rest [] h k = subst (λ (zs : List Piece). Avoids F (next (zs ++ rest))) (sym h) k
many_next test s R p F a u rest (x ∷ xs) h k =
    let e : next (u ++ rest) ≡ Some s = ap (λ (zs : List Piece). next (zs ++ rest)) h.4 ∙ ap next (append_assoc h.0 h.1 rest) ∙ begins_next R s a.begins h.0 (h.1 ++ rest) x h.2 in
    subst (λ (o : Option Piece). Avoids F o) (sym e) a.behind

many_leads : {A : Type 0} (test : Option Piece → Bool) (s : Piece) (R : Language A) (p : Parser A) (F : List Piece) → AreItems test s R p F → (x : A) → Leads (Others R x) F F
many_leads test s R p F a x = record { avoids = λ u rest xs h k. many_next test s R p F a u rest xs h k }

-- one item alone
one_item : {A : Type 0} (R : Language A) (u : List Piece) (x : A) → R u x → Many R u (x ∷ [])
one_item R u x h = (u, [], h, refl, sym (append-nil u))

-- the first of the stops is avoided, and the others are
pub avoids_head : (s : Piece) (F : List Piece) (o : Option Piece) → Avoids (s ∷ F) o → Avoids (s ∷ []) o
avoids_head s F None h = tt
avoids_head s F (Some p) h = (h.0, tt)

pub avoids_tail : (s : Piece) (F : List Piece) (o : Option Piece) → Avoids (s ∷ F) o → Avoids F o
avoids_tail s F None h = tt
avoids_tail s F (Some p) h = h.1

no_items : {A : Type 0} (R : Language A) (xs : List A) → [] ≡ xs → Many R [] xs
no_items {A} R xs e = subst (λ (ys : List A). Many R [] ys) e refl

not_empty : (f m : List Piece) (c : Piece) → f ++ c ∷ m ≡ [] → ⊥
not_empty [] m c h = absurd cc
not_empty (q ∷ f) m c h = absurd cc

sound_turn : {A : Type 0} (test : Option Piece → Bool) (s : Piece) (R : Language A) (p : Parser A) (F : List Piece) → AreItems test s R p F → (ps rest : List Piece) (xs : List A) → ((mid last : List Piece) (ys : List A) → length mid < length ps → many test p mid ≡ done ys last → HasRead (Many R) (many test p) mid ys last) → many test p ps ≡ done xs rest → HasRead (Many R) (many test p) ps xs rest
sound_turn {A} test s R p F a ps rest xs again h =
    elim (test (next ps)) as (λ b. test (next ps) ≡ b → HasRead (Many R) (many test p) ps xs rest) [
      | false ↦ λ e.
          let k = sym (many_stop test p ps e) ∙ h in record {
            front = [];
            sentence = no_items R xs (same_value k);
            split = same_rest k;
            local = λ other f. many_stop test p other (ap test (f ∙ sym (ap next (same_rest k))) ∙ e) ∙ ap (λ (ys : List A). done ys other) (same_value k);
          }
      | true ↦ λ e. elim (p ps) as (λ r. p ps ≡ r → HasRead (Many R) (many test p) ps xs rest) [
        | stuck mid ↦ λ f. absurd (not_both (many_halt test p ps mid a.finds.none e f) h)
        | done x mid ↦ λ f.
            let less = shorter test s R p F a ps mid x f in
            let g = went_on (many test p mid) (λ ys. yields (x ∷ ys)) xs rest (sym (many_more test s R p F a ps mid x e f) ∙ h) in
            let first = a.reads.sound ps mid x f in
            let later = again mid g.1 g.0 less g.2 in
            let value : x ∷ g.0 ≡ xs = same_value g.3 in
            let last : g.1 ≡ rest = same_rest g.3 in record {
              front = first.front ++ later.front;
              sentence = subst (λ (ys : List A). Many R (first.front ++ later.front) ys) value (first.front, later.front, first.sentence, later.sentence, refl {a = first.front ++ later.front});
              split = first.split ∙ ap (λ (zs : List Piece). first.front ++ zs) (later.split ∙ ap (λ (zs : List Piece). later.front ++ zs) last) ∙ sym (append_assoc first.front later.front rest);
              local = λ other w.
                  let there : next other ≡ next g.1 = w ∙ sym (ap next last) in
                  let ahead : next (later.front ++ other) ≡ next mid = next_same later.front other g.1 there ∙ sym (ap next later.split) in
                  let on : test (next (first.front ++ (later.front ++ other))) ≡ true = ap test (begins_next R s a.begins first.front (later.front ++ other) x first.sentence) ∙ a.finds.here in
                  rw (append_assoc first.front later.front other)
                  (many_more test s R p F a (first.front ++ (later.front ++ other)) (later.front ++ other) x on (first.local (later.front ++ other) ahead)
                  ∙ ap (in_front x) (later.local other there)
                  ∙ ap (λ (ys : List A). done ys other) value);
            }
      ] refl
    ] refl

many_sound : {A : Type 0} (test : Option Piece → Bool) (s : Piece) (R : Language A) (p : Parser A) (F : List Piece) → AreItems test s R p F → (n : ℕ) (ps rest : List Piece) (xs : List A) → length ps ≤ n → many test p ps ≡ done xs rest → HasRead (Many R) (many test p) ps xs rest
many_sound test s R p F a zero ps rest xs le h = sound_turn test s R p F a ps rest xs (λ mid last ys less k. absurd (omega arith)) h
many_sound test s R p F a (suc n) ps rest xs le h = sound_turn test s R p F a ps rest xs (λ mid last ys less k. many_sound test s R p F a n mid last ys (omega arith) k) h

many_complete : {A : Type 0} (test : Option Piece → Bool) (s : Piece) (R : Language A) (p : Parser A) (F : List Piece) → AreItems test s R p F → (u rest : List Piece) (xs : List A) → Many R u xs → Avoids (s ∷ F) (next rest) → many test p (u ++ rest) ≡ done xs rest
many_complete test s R p F a u rest [] h k = rw h (many_stop test p rest (not_found test s a.finds (next rest) (avoids_head s F (next rest) k)))
many_complete test s R p F a u rest (x ∷ xs) h k =
    rw (h.4, append_assoc h.0 h.1 rest)
    (many_more test s R p F a (h.0 ++ (h.1 ++ rest)) (h.1 ++ rest) x (ap test (begins_next R s a.begins h.0 (h.1 ++ rest) x h.2) ∙ a.finds.here) (a.reads.complete h.0 (h.1 ++ rest) x h.2 (many_next test s R p F a h.1 rest xs h.3 (avoids_tail s F (next rest) k)))
    ∙ ap (in_front x) (many_complete test s R p F a h.1 rest xs h.3 k))

none_many : {A : Type 0} (R : Language A) (f m : List Piece) (c : Piece) (xs : List A) → ((y : List A) → Then R (Others R) (f ++ c ∷ m) y → ⊥) → Many R (f ++ c ∷ m) xs → ⊥
none_many R f m c [] h k = not_empty f m c k
none_many R f m c (x ∷ xs) h k = h xs (record { front = k.0; back = k.1; value = x; first = k.2; second = k.3; joined = k.4 })

many_from_then : {A : Type 0} (R : Language A) (ps rest : List Piece) → IsStuck (Then R (Others R)) ps rest → IsStuck (Many R) ps rest
many_from_then R ps rest k =
    let b = k.begins in
    let t = b.sentence in record {
      front = k.front;
      split = k.split;
      begins = record { more = b.more; value = t.value ∷ b.value; sentence = (t.front, t.back, t.first, t.second, t.joined) };
      none = λ c others more xs e m. none_many R k.front more c xs (λ y t'. k.none c others more y e t') m;
    }

halts_turn : {A : Type 0} (test : Option Piece → Bool) (s : Piece) (R : Language A) (p : Parser A) (F : List Piece) → AreItems test s R p F → (ps rest : List Piece) → ((mid : List Piece) → length mid < length ps → many test p mid ≡ stuck rest → IsStuck (Many R) mid rest) → many test p ps ≡ stuck rest → IsStuck (Many R) ps rest
halts_turn {A} test s R p F a ps rest again h =
    elim (test (next ps)) as (λ b. test (next ps) ≡ b → IsStuck (Many R) ps rest) [
      | false ↦ λ e. absurd (not_both h (many_stop test p ps e))
      | true ↦ λ e. elim (p ps) as (λ r. p ps ≡ r → IsStuck (Many R) ps rest) [
        | stuck mid ↦ λ f.
            let same = stuck_rest (many_halt test p ps mid a.finds.none e f) h in
            many_from_then R ps rest (first_stuck R (Others R) p F F a.reads (many_leads test s R p F a) (λ x. record { pieces = []; value = []; sentence = refl }) ps rest (f ∙ ap (λ (zs : List Piece). stuck zs) same))
        | done x mid ↦ λ f.
            let less = shorter test s R p F a ps mid x f in
            elim (got_stuck (many test p mid) (λ ys. yields (x ∷ ys)) rest (sym (many_more test s R p F a ps mid x e f) ∙ h)) [
              | inl g ↦ many_from_then R ps rest (second_stuck R (Others R) p F F a.reads (many_leads test s R p F a) ps mid rest x f (again mid less g))
              | inr g ↦ absurd (not_both g.3 refl)
            ]
      ] refl
    ] refl

many_halts : {A : Type 0} (test : Option Piece → Bool) (s : Piece) (R : Language A) (p : Parser A) (F : List Piece) → AreItems test s R p F → (n : ℕ) (ps rest : List Piece) → length ps ≤ n → many test p ps ≡ stuck rest → IsStuck (Many R) ps rest
many_halts test s R p F a zero ps rest le h = halts_turn test s R p F a ps rest (λ mid less k. absurd (omega arith)) h
many_halts test s R p F a (suc n) ps rest le h = halts_turn test s R p F a ps rest (λ mid less k. many_halts test s R p F a n mid rest (omega arith) k) h

-- items are read while their first piece is next
pub many_reads : {A : Type 0} (test : Option Piece → Bool) (s : Piece) (R : Language A) (p : Parser A) (F : List Piece) → AreItems test s R p F → Reads (Many R) (many test p) (s ∷ F)
many_reads test s R p F a = record {
  sound = λ ps rest xs h. many_sound test s R p F a (length ps) ps rest xs (omega arith) h;
  complete = many_complete test s R p F a;
  halts = λ ps rest h. many_halts test s R p F a (length ps) ps rest (omega arith) h;
  lives = record { pieces = []; value = []; sentence = refl };
}
