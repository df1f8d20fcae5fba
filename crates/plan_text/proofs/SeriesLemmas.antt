-- The laws of reading items one after another, at each of which the text may break off.
use Rattle.std.proofs.Common.{◌≡◌, ◌⊎◌, ℕ, zero, suc, ◌<◌, ◌≤◌, List, [], ◌∷◌, ◌++◌, length, Bool, true, false, refl, sym, ap, ◌∙◌, subst, append_assoc, append-nil, length-append, inl, inr, arith}
use Rattle.std.specs.Prelude.{Option, Some, None, fold}
use Rattle.hs_texts.specs.Pieces.{Piece}
use Rattle.hs_texts.specs.Languages.{Language, Yields, Then}
use Rattle.text_laws.specs.Parsers.{Read, done, stuck, Parser, next, go_on, yields}
use Rattle.text_laws.specs.Reads.{Avoids, HasRead, IsStuck, Lives, Reads, Leads, BeginsWith}
use Rattle.text_laws.proofs.ListLemmas.{next_same, went_on, got_stuck, same_value, same_rest, stuck_rest, not_both, avoids_none}
use Rattle.text_laws.proofs.ThenLemmas.{first_stuck, second_stuck}
use Rattle.hs_texts.specs.Kept.{Kept, kept, broken, onward, Items, Series}
use Rattle.plan_text.specs.PlanReading.{put, turns, series}
use Rattle.plan_text.proofs.OnwardLemmas.{ReadsKept}

-- what holds of items that are told from what stands behind them by the piece they begin with, one of w
pub record AreKept {A S : Type 0} (test : Option Piece → Bool) (w : List Piece) (R : S → Language (Kept A)) (p : S → Parser (Kept A)) (F : List Piece) : Type 0 where
  pub none : test None ≡ false
  pub begins : (s : S) (u rest : List Piece) (v : Kept A) → R s u v → test (next (u ++ rest)) ≡ true
  pub reads : (s : S) → Reads (R s) (p s) F
  pub behind : (o : Option Piece) → test o ≡ true → Avoids F o
  pub stops : (o : Option Piece) → Avoids w o → (test o ≡ false) × Avoids F o

-- an item in front of what is read
abbrev pub in_front : {A : Type 0} → A → Read (Kept (List A)) → Read (Kept (List A))
in_front x r = go_on r (λ xs. yields (put x xs))

-- Turns, one by one.

turns_stop : {A S : Type 0} (test : Option Piece → Bool) (p : S → Parser (Kept A)) (step : S → A → S) (n : ℕ) (s : S) (ps : List Piece) → test (next ps) ≡ false → turns test p step n s ps ≡ done (kept []) ps
turns_stop test p step zero s ps h = refl
turns_stop test p step (suc n) s ps h = rw h

turns_halt : {A S : Type 0} (test : Option Piece → Bool) (p : S → Parser (Kept A)) (step : S → A → S) (n : ℕ) (s : S) (ps rest : List Piece) → test (next ps) ≡ true → p s ps ≡ stuck rest → turns test p step (suc n) s ps ≡ stuck rest
turns_halt test p step n s ps rest h k = rw (h, k)

turns_break : {A S : Type 0} (test : Option Piece → Bool) (p : S → Parser (Kept A)) (step : S → A → S) (n : ℕ) (s : S) (ps rest : List Piece) (size : ℕ) → test (next ps) ≡ true → p s ps ≡ done (broken size) rest → turns test p step (suc n) s ps ≡ done (broken size) rest
turns_break test p step n s ps rest size h k = rw (h, k)

turns_more : {A S : Type 0} (test : Option Piece → Bool) (p : S → Parser (Kept A)) (step : S → A → S) (n : ℕ) (s : S) (ps rest : List Piece) (x : A) → test (next ps) ≡ true → p s ps ≡ done (kept x) rest → turns test p step (suc n) s ps ≡ in_front x (turns test p step n (step s x) rest)
turns_more test p step n s ps rest x h k = rw (h, k)

some_piece : (test : Option Piece → Bool) (u : List Piece) → test None ≡ false → test (next (u ++ [])) ≡ true → 0 < length u
some_piece test [] n h = absurd (cc (n, h))
some_piece test (q ∷ u) n h = omega arith

-- an item takes a piece at least
pub shorter : {A S : Type 0} (test : Option Piece → Bool) (w : List Piece) (R : S → Language (Kept A)) (p : S → Parser (Kept A)) (F : List Piece) → AreKept test w R p F → (s : S) (ps rest : List Piece) (v : Kept A) → p s ps ≡ done v rest → length rest < length ps
shorter test w R p F a s ps rest v h =
    let m = (a.reads s).sound ps rest v h in
    let some = some_piece test m.front a.none (a.begins s m.front [] v m.sentence) in
    omega (arith, ap length m.split, length-append m.front rest, some)

-- any number that is great enough reads the same
turns_enough : {A S : Type 0} (test : Option Piece → Bool) (w : List Piece) (R : S → Language (Kept A)) (p : S → Parser (Kept A)) (step : S → A → S) (F : List Piece) → AreKept test w R p F → (m n : ℕ) (s : S) (ps : List Piece) → length ps ≤ m → length ps ≤ n → turns test p step m s ps ≡ turns test p step n s ps
turns_enough test w R p step F a zero n s [] h k = sym (turns_stop test p step n s [] a.none)
turns_enough test w R p step F a zero n s (q ∷ ps) h k = absurd (omega arith)
turns_enough test w R p step F a (suc m) zero s [] h k = turns_stop test p step (suc m) s [] a.none
turns_enough test w R p step F a (suc m) zero s (q ∷ ps) h k = absurd (omega arith)
turns_enough {A} {S} test w R p step F a (suc m) (suc n) s ps h k =
    elim (test (next ps)) as (λ b. test (next ps) ≡ b → turns test p step (suc m) s ps ≡ turns test p step (suc n) s ps) [
      | false ↦ λ e. turns_stop test p step (suc m) s ps e ∙ sym (turns_stop test p step (suc n) s ps e)
      | true ↦ λ e. elim (p s ps) as (λ r. p s ps ≡ r → turns test p step (suc m) s ps ≡ turns test p step (suc n) s ps) [
        | stuck rest ↦ λ f. turns_halt test p step m s ps rest e f ∙ sym (turns_halt test p step n s ps rest e f)
        | done v rest ↦ λ f. elim v as (λ u. p s ps ≡ done u rest → turns test p step (suc m) s ps ≡ turns test p step (suc n) s ps) [
          | broken size ↦ λ g. turns_break test p step m s ps rest size e g ∙ sym (turns_break test p step n s ps rest size e g)
          | kept x ↦ λ g.
              let less = shorter test w R p F a s ps rest (kept x) g in
              turns_more test p step m s ps rest x e g
              ∙ ap (in_front x) (turns_enough test w R p step F a m n (step s x) rest (omega (arith, less)) (omega (arith, less)))
              ∙ sym (turns_more test p step n s ps rest x e g)
        ] f
      ] refl
    ] refl

-- The turns of reading all items.

pub series_stop : {A S : Type 0} (test : Option Piece → Bool) (p : S → Parser (Kept A)) (step : S → A → S) (s : S) (ps : List Piece) → test (next ps) ≡ false → series test p step s ps ≡ done (kept []) ps
unfolding series
series_stop test p step s ps h = turns_stop test p step (length ps) s ps h

pub series_halt : {A S : Type 0} (test : Option Piece → Bool) (p : S → Parser (Kept A)) (step : S → A → S) (s : S) (ps rest : List Piece) → test None ≡ false → test (next ps) ≡ true → p s ps ≡ stuck rest → series test p step s ps ≡ stuck rest
unfolding series
series_halt test p step s [] rest e h k = absurd (cc (e, h))
series_halt test p step s (q ∷ ps) rest e h k = turns_halt test p step (length ps) s (q ∷ ps) rest h k

pub series_break : {A S : Type 0} (test : Option Piece → Bool) (p : S → Parser (Kept A)) (step : S → A → S) (s : S) (ps rest : List Piece) (size : ℕ) → test None ≡ false → test (next ps) ≡ true → p s ps ≡ done (broken size) rest → series test p step s ps ≡ done (broken size) rest
unfolding series
series_break test p step s [] rest size e h k = absurd (cc (e, h))
series_break test p step s (q ∷ ps) rest size e h k = turns_break test p step (length ps) s (q ∷ ps) rest size h k

pub series_more : {A S : Type 0} (test : Option Piece → Bool) (w : List Piece) (R : S → Language (Kept A)) (p : S → Parser (Kept A)) (step : S → A → S) (F : List Piece) → AreKept test w R p F → (s : S) (ps rest : List Piece) (x : A) → test (next ps) ≡ true → p s ps ≡ done (kept x) rest → series test p step s ps ≡ in_front x (series test p step (step s x) rest)
unfolding series
series_more test w R p step F a s [] rest x h k = absurd (cc (h, a.none))
series_more test w R p step F a s (q ∷ ps) rest x h k =
    let less = shorter test w R p F a s (q ∷ ps) rest (kept x) k in
    turns_more test p step (length ps) s (q ∷ ps) rest x h k
    ∙ ap (in_front x) (turns_enough test w R p step F a (length ps) (length rest) (step s x) rest (omega (arith, less)) (omega arith))

-- Sentences of such items.

-- an item in front of further ones
more_items : {A S : Type 0} (R : S → Language (Kept A)) (step : S → A → S) (s : S) (f b : List Piece) (x : A) (out : Kept (List A)) → R s f (kept x) → Series R step (step s x) b out → Series R step s (f ++ b) (put x out)
more_items R step s f b x (kept xs) r h = (f, b, r, h, refl)
more_items R step s f b x (broken n) r h = (f ++ h.0, h.1, x ∷ h.2, (f, h.0, r, h.3, refl), h.4, ap (λ (zs : List Piece). f ++ zs) h.5 ∙ sym (append_assoc f h.0 h.1))

-- an item at which the text breaks off
broken_item : {A S : Type 0} (R : S → Language (Kept A)) (step : S → A → S) (s : S) (f : List Piece) (n : ℕ) → R s f (broken n) → Series R step s f (broken n)
broken_item R step s f n r = ([], f, [], refl, r, refl)

broken_next : {A S : Type 0} (test : Option Piece → Bool) (w : List Piece) (R : S → Language (Kept A)) (p : S → Parser (Kept A)) (step : S → A → S) (F : List Piece) → AreKept test w R p F → (s : S) (f b rest : List Piece) (xs : List A) (n : ℕ) → Items R step s f xs → R (fold step s xs) b (broken n) → test (next ((f ++ b) ++ rest)) ≡ true
broken_next test w R p step F a s f b rest [] n h k = rw h (a.begins s b rest (broken n) k)
broken_next test w R p step F a s f b rest (x ∷ xs) n h k =
    ap (λ (zs : List Piece). test (next ((zs ++ b) ++ rest))) h.4
    ∙ ap (λ (zs : List Piece). test (next zs)) (append_assoc (h.0 ++ h.1) b rest ∙ append_assoc h.0 h.1 (b ++ rest))
    ∙ a.begins s h.0 (h.1 ++ (b ++ rest)) (kept x) h.2

-- sentences of such items begin with a piece that is found, or are empty
series_next : {A S : Type 0} (test : Option Piece → Bool) (w : List Piece) (R : S → Language (Kept A)) (p : S → Parser (Kept A)) (step : S → A → S) (F : List Piece) → AreKept test w R p F → (s : S) (u rest : List Piece) (out : Kept (List A)) → Series R step s u out → Avoids F (next rest) → Avoids F (next (u ++ rest))
series_next test w R p step F a s u rest (kept []) h k = subst (λ (zs : List Piece). Avoids F (next (zs ++ rest))) (sym h) k
series_next test w R p step F a s u rest (kept (x ∷ xs)) h k =
    let e : test (next (u ++ rest)) ≡ true = ap (λ (zs : List Piece). test (next (zs ++ rest))) h.4 ∙ ap (λ (zs : List Piece). test (next zs)) (append_assoc h.0 h.1 rest) ∙ a.begins s h.0 (h.1 ++ rest) (kept x) h.2 in
    a.behind (next (u ++ rest)) e
series_next test w R p step F a s u rest (broken n) h k =
    let e : test (next (u ++ rest)) ≡ true = ap (λ (zs : List Piece). test (next (zs ++ rest))) h.5 ∙ broken_next test w R p step F a s h.0 h.1 rest h.2 n h.3 h.4 in
    a.behind (next (u ++ rest)) e

-- what follows an item
abbrev Others : {A S : Type 0} → (S → Language (Kept A)) → (S → A → S) → S → Kept A → Language (Kept (List A))
Others R step s (kept x) = Series R step (step s x)
Others R step s (broken n) = Yields (broken n)

abbrev with_item : {A : Type 0} → Kept A → Kept (List A) → Kept (List A)
with_item (kept x) out = put x out
with_item (broken n) out = broken n

others_avoid : {A S : Type 0} (test : Option Piece → Bool) (w : List Piece) (R : S → Language (Kept A)) (p : S → Parser (Kept A)) (step : S → A → S) (F : List Piece) → AreKept test w R p F → (s : S) (v : Kept A) (u rest : List Piece) (out : Kept (List A)) → Others R step s v u out → Avoids F (next rest) → Avoids F (next (u ++ rest))
others_avoid test w R p step F a s (kept x) u rest out h k = series_next test w R p step F a (step s x) u rest out h k
others_avoid test w R p step F a s (broken n) u rest out h k = subst (λ (zs : List Piece). Avoids F (next (zs ++ rest))) (sym h.0) k

others_lead : {A S : Type 0} (test : Option Piece → Bool) (w : List Piece) (R : S → Language (Kept A)) (p : S → Parser (Kept A)) (step : S → A → S) (F : List Piece) → AreKept test w R p F → (s : S) (v : Kept A) → Leads (Others R step s v) F F
others_lead test w R p step F a s v = record { avoids = others_avoid test w R p step F a s v }

others_live : {A S : Type 0} (R : S → Language (Kept A)) (step : S → A → S) (s : S) (v : Kept A) → Lives (Others R step s v)
others_live R step s (kept x) = record { pieces = []; value = kept []; sentence = refl }
others_live R step s (broken n) = record { pieces = []; value = broken n; sentence = (refl, refl) }

from_then : {A S : Type 0} (R : S → Language (Kept A)) (step : S → A → S) (s : S) (f b : List Piece) (v : Kept A) (out : Kept (List A)) → R s f v → Others R step s v b out → Series R step s (f ++ b) (with_item v out)
from_then R step s f b (kept x) out r h = more_items R step s f b x out r h
from_then R step s f b (broken n) out r h = subst (λ (zs : List Piece). Series R step s zs (broken n)) (sym (ap (λ (zs : List Piece). f ++ zs) h.0 ∙ append-nil f)) (broken_item R step s f n r)

not_empty : (f m : List Piece) (c : Piece) → f ++ c ∷ m ≡ [] → ⊥
not_empty [] m c h = absurd cc
not_empty (q ∷ f) m c h = absurd cc

broken_then : {A S : Type 0} (R : S → Language (Kept A)) (step : S → A → S) (s : S) (u f b : List Piece) (xs : List A) (n : ℕ) → Items R step s f xs → R (fold step s xs) b (broken n) → u ≡ f ++ b → (y : Kept (List A)) × Then (R s) (Others R step s) u y
broken_then R step s u f b [] n h k e = (broken n, record { front = b; back = []; value = broken n; first = k; second = (refl, refl); joined = e ∙ ap (λ (zs : List Piece). zs ++ b) h ∙ sym (append-nil b) })
broken_then R step s u f b (x ∷ xs) n h k e = (
  broken n,
  record {
    front = h.0;
    back = h.1 ++ b;
    value = kept x;
    first = h.2;
    second = (h.1, b, xs, h.3, k, refl);
    joined = e ∙ ap (λ (zs : List Piece). zs ++ b) h.4 ∙ append_assoc h.0 h.1 b;
  },
)

to_then : {A S : Type 0} (R : S → Language (Kept A)) (step : S → A → S) (s : S) (f m : List Piece) (c : Piece) (out : Kept (List A)) → Series R step s (f ++ c ∷ m) out → (y : Kept (List A)) × Then (R s) (Others R step s) (f ++ c ∷ m) y
to_then R step s f m c (kept []) h = absurd (not_empty f m c h)
to_then R step s f m c (kept (x ∷ xs)) h = (kept xs, record { front = h.0; back = h.1; value = kept x; first = h.2; second = h.3; joined = h.4 })
to_then R step s f m c (broken n) h = broken_then R step s (f ++ c ∷ m) h.0 h.1 h.2 n h.3 h.4 h.5

stuck_series : {A S : Type 0} (R : S → Language (Kept A)) (step : S → A → S) (s : S) (ps rest : List Piece) → IsStuck (Then (R s) (Others R step s)) ps rest → IsStuck (Series R step s) ps rest
stuck_series R step s ps rest k =
    let b = k.begins in
    let t = b.sentence in record {
      front = k.front;
      split = k.split;
      begins = record { more = b.more; value = with_item t.value b.value; sentence = subst (λ (zs : List Piece). Series R step s zs (with_item t.value b.value)) (sym t.joined) (from_then R step s t.front t.back t.value b.value t.first t.second) };
      none = λ c others more out e m. let t' = to_then R step s k.front more c out m in k.none c others more t'.0 e t'.1;
    }

-- Sound, complete, and halting where it should.

no_items : {A S : Type 0} (R : S → Language (Kept A)) (step : S → A → S) (s : S) (out : Kept (List A)) → kept [] ≡ out → Series R step s [] out
no_items {A} R step s out e = subst (λ (v : Kept (List A)). Series R step s [] v) e refl

sound_turn : {A S : Type 0} (test : Option Piece → Bool) (w : List Piece) (R : S → Language (Kept A)) (p : S → Parser (Kept A)) (step : S → A → S) (F : List Piece) → AreKept test w R p F → (s : S) (ps rest : List Piece) (out : Kept (List A)) → ((s' : S) (mid last : List Piece) (v : Kept (List A)) → length mid < length ps → series test p step s' mid ≡ done v last → HasRead (Series R step s') (series test p step s') mid v last) → series test p step s ps ≡ done out rest → HasRead (Series R step s) (series test p step s) ps out rest
sound_turn {A} {S} test w R p step F a s ps rest out again h =
    elim (test (next ps)) as (λ b. test (next ps) ≡ b → HasRead (Series R step s) (series test p step s) ps out rest) [
      | false ↦ λ e.
          let k = sym (series_stop test p step s ps e) ∙ h in record {
            front = [];
            sentence = no_items R step s out (same_value k);
            split = same_rest k;
            local = λ other f. series_stop test p step s other (ap test (f ∙ sym (ap next (same_rest k))) ∙ e) ∙ ap (λ (v : Kept (List A)). done v other) (same_value k);
          }
      | true ↦ λ e. elim (p s ps) as (λ r. p s ps ≡ r → HasRead (Series R step s) (series test p step s) ps out rest) [
        | stuck mid ↦ λ f. absurd (not_both (series_halt test p step s ps mid a.none e f) h)
        | done u mid ↦ λ f. elim u as (λ v. p s ps ≡ done v mid → HasRead (Series R step s) (series test p step s) ps out rest) [
          | broken n ↦ λ g.
              let first = (a.reads s).sound ps mid (broken n) g in
              let k = sym (series_break test p step s ps mid n a.none e g) ∙ h in record {
                front = first.front;
                sentence = subst (λ (v : Kept (List A)). Series R step s first.front v) (same_value k) (broken_item R step s first.front n first.sentence);
                split = first.split ∙ ap (λ (zs : List Piece). first.front ++ zs) (same_rest k);
                local = λ other f'.
                    let there : next other ≡ next mid = f' ∙ sym (ap next (same_rest k)) in
                    let on : test (next (first.front ++ other)) ≡ true = a.begins s first.front other (broken n) first.sentence in
                    series_break test p step s (first.front ++ other) other n a.none on (first.local other there) ∙ ap (λ (v : Kept (List A)). done v other) (same_value k);
              }
          | kept x ↦ λ g'.
              let less = shorter test w R p F a s ps mid (kept x) g' in
              let g = went_on (series test p step (step s x) mid) (λ v. yields (put x v)) out rest (sym (series_more test w R p step F a s ps mid x e g') ∙ h) in
              let first = (a.reads s).sound ps mid (kept x) g' in
              let later = again (step s x) mid g.1 g.0 less g.2 in
              let value : put x g.0 ≡ out = same_value g.3 in
              let last : g.1 ≡ rest = same_rest g.3 in record {
                front = first.front ++ later.front;
                sentence = subst (λ (v : Kept (List A)). Series R step s (first.front ++ later.front) v) value (more_items R step s first.front later.front x g.0 first.sentence later.sentence);
                split = first.split ∙ ap (λ (zs : List Piece). first.front ++ zs) (later.split ∙ ap (λ (zs : List Piece). later.front ++ zs) last) ∙ sym (append_assoc first.front later.front rest);
                local = λ other f'.
                    let there : next other ≡ next g.1 = f' ∙ sym (ap next last) in
                    let ahead : next (later.front ++ other) ≡ next mid = next_same later.front other g.1 there ∙ sym (ap next later.split) in
                    let on : test (next (first.front ++ (later.front ++ other))) ≡ true = a.begins s first.front (later.front ++ other) (kept x) first.sentence in
                    rw (append_assoc first.front later.front other)
                    (series_more test w R p step F a s (first.front ++ (later.front ++ other)) (later.front ++ other) x on (first.local (later.front ++ other) ahead)
                    ∙ ap (in_front x) (later.local other there)
                    ∙ ap (λ (v : Kept (List A)). done v other) value);
              }
        ] f
      ] refl
    ] refl

series_sound : {A S : Type 0} (test : Option Piece → Bool) (w : List Piece) (R : S → Language (Kept A)) (p : S → Parser (Kept A)) (step : S → A → S) (F : List Piece) → AreKept test w R p F → (n : ℕ) (s : S) (ps rest : List Piece) (out : Kept (List A)) → length ps ≤ n → series test p step s ps ≡ done out rest → HasRead (Series R step s) (series test p step s) ps out rest
series_sound test w R p step F a zero s ps rest out le h = sound_turn test w R p step F a s ps rest out (λ s' mid last v less k. absurd (omega arith)) h
series_sound test w R p step F a (suc n) s ps rest out le h = sound_turn test w R p step F a s ps rest out (λ s' mid last v less k. series_sound test w R p step F a n s' mid last v (omega arith) k) h

on_item : {A S : Type 0} (test : Option Piece → Bool) (w : List Piece) (R : S → Language (Kept A)) (p : S → Parser (Kept A)) (F : List Piece) → AreKept test w R p F → (s : S) (u rest : List Piece) (v : Kept A) → R s u v → test (next (u ++ rest)) ≡ true
on_item test w R p F a s u rest v h = a.begins s u rest v h

complete_broken : {A S : Type 0} (test : Option Piece → Bool) (w : List Piece) (R : S → Language (Kept A)) (p : S → Parser (Kept A)) (step : S → A → S) (F : List Piece) → AreKept test w R p F → (s : S) (f b rest : List Piece) (xs : List A) (n : ℕ) → Items R step s f xs → R (fold step s xs) b (broken n) → Avoids F (next rest) → series test p step s ((f ++ b) ++ rest) ≡ done (broken n) rest
complete_broken test w R p step F a s f b rest [] n h k v =
    rw h (series_break test p step s (b ++ rest) rest n a.none (on_item test w R p F a s b rest (broken n) k) ((a.reads s).complete b rest (broken n) k v))
complete_broken test w R p step F a s f b rest (x ∷ xs) n h k v =
    let ahead : Avoids F (next ((h.1 ++ b) ++ rest)) = series_next test w R p step F a (step s x) (h.1 ++ b) rest (broken n) (h.1, b, xs, h.3, k, refl) v in
    let e : (f ++ b) ++ rest ≡ h.0 ++ ((h.1 ++ b) ++ rest) = ap (λ (zs : List Piece). (zs ++ b) ++ rest) h.4 ∙ ap (λ (zs : List Piece). zs ++ rest) (append_assoc h.0 h.1 b) ∙ append_assoc h.0 (h.1 ++ b) rest in
    ap (series test p step s) e
    ∙ series_more test w R p step F a s (h.0 ++ ((h.1 ++ b) ++ rest)) ((h.1 ++ b) ++ rest) x (on_item test w R p F a s h.0 ((h.1 ++ b) ++ rest) (kept x) h.2) ((a.reads s).complete h.0 ((h.1 ++ b) ++ rest) (kept x) h.2 ahead)
    ∙ ap (in_front x) (complete_broken test w R p step F a (step s x) h.1 b rest xs n h.3 k v)

complete_items : {A S : Type 0} (test : Option Piece → Bool) (w : List Piece) (R : S → Language (Kept A)) (p : S → Parser (Kept A)) (step : S → A → S) (F : List Piece) → AreKept test w R p F → (s : S) (u rest : List Piece) (xs : List A) → Items R step s u xs → Avoids w (next rest) → series test p step s (u ++ rest) ≡ done (kept xs) rest
complete_items test w R p step F a s u rest [] h k = rw h (series_stop test p step s rest ((a.stops (next rest) k).0))
complete_items test w R p step F a s u rest (x ∷ xs) h k =
    rw (h.4, append_assoc h.0 h.1 rest)
    (series_more test w R p step F a s (h.0 ++ (h.1 ++ rest)) (h.1 ++ rest) x (on_item test w R p F a s h.0 (h.1 ++ rest) (kept x) h.2) ((a.reads s).complete h.0 (h.1 ++ rest) (kept x) h.2 (series_next test w R p step F a (step s x) h.1 rest (kept xs) h.3 ((a.stops (next rest) k).1)))
    ∙ ap (in_front x) (complete_items test w R p step F a (step s x) h.1 rest xs h.3 k))

series_complete : {A S : Type 0} (test : Option Piece → Bool) (w : List Piece) (R : S → Language (Kept A)) (p : S → Parser (Kept A)) (step : S → A → S) (F : List Piece) → AreKept test w R p F → (s : S) (u rest : List Piece) (out : Kept (List A)) → Series R step s u out → Avoids w (next rest) → series test p step s (u ++ rest) ≡ done out rest
series_complete test w R p step F a s u rest (kept xs) h k = complete_items test w R p step F a s u rest xs h k
series_complete test w R p step F a s u rest (broken n) h k = ap (λ (zs : List Piece). series test p step s (zs ++ rest)) h.5 ∙ complete_broken test w R p step F a s h.0 h.1 rest h.2 n h.3 h.4 ((a.stops (next rest) k).1)

halts_turn : {A S : Type 0} (test : Option Piece → Bool) (w : List Piece) (R : S → Language (Kept A)) (p : S → Parser (Kept A)) (step : S → A → S) (F : List Piece) → AreKept test w R p F → (s : S) (ps rest : List Piece) → ((s' : S) (mid : List Piece) → length mid < length ps → series test p step s' mid ≡ stuck rest → IsStuck (Series R step s') mid rest) → series test p step s ps ≡ stuck rest → IsStuck (Series R step s) ps rest
halts_turn {A} {S} test w R p step F a s ps rest again h =
    elim (test (next ps)) as (λ b. test (next ps) ≡ b → IsStuck (Series R step s) ps rest) [
      | false ↦ λ e. absurd (not_both h (series_stop test p step s ps e))
      | true ↦ λ e. elim (p s ps) as (λ r. p s ps ≡ r → IsStuck (Series R step s) ps rest) [
        | stuck mid ↦ λ f.
            let same = stuck_rest (series_halt test p step s ps mid a.none e f) h in
            stuck_series R step s ps rest (first_stuck (R s) (Others R step s) (p s) F F (a.reads s) (others_lead test w R p step F a s) (others_live R step s) ps rest (f ∙ ap (λ (zs : List Piece). stuck zs) same))
        | done u mid ↦ λ f. elim u as (λ v. p s ps ≡ done v mid → IsStuck (Series R step s) ps rest) [
          | broken n ↦ λ g. absurd (not_both h (series_break test p step s ps mid n a.none e g))
          | kept x ↦ λ g.
              let less = shorter test w R p F a s ps mid (kept x) g in
              elim (got_stuck (series test p step (step s x) mid) (λ v. yields (put x v)) rest (sym (series_more test w R p step F a s ps mid x e g) ∙ h)) [
                | inl k ↦ stuck_series R step s ps rest (second_stuck (R s) (Others R step s) (p s) F F (a.reads s) (others_lead test w R p step F a s) ps mid rest (kept x) g (again (step s x) mid less k))
                | inr k ↦ absurd (not_both k.3 refl)
              ]
        ] f
      ] refl
    ] refl

series_halts : {A S : Type 0} (test : Option Piece → Bool) (w : List Piece) (R : S → Language (Kept A)) (p : S → Parser (Kept A)) (step : S → A → S) (F : List Piece) → AreKept test w R p F → (n : ℕ) (s : S) (ps rest : List Piece) → length ps ≤ n → series test p step s ps ≡ stuck rest → IsStuck (Series R step s) ps rest
series_halts test w R p step F a zero s ps rest le h = halts_turn test w R p step F a s ps rest (λ s' mid less k. absurd (omega arith)) h
series_halts test w R p step F a (suc n) s ps rest le h = halts_turn test w R p step F a s ps rest (λ s' mid less k. series_halts test w R p step F a n s' mid rest (omega arith) k) h

-- items are read while one of their first pieces is next, up to one at which the text breaks off
pub series_reads : {A S : Type 0} (test : Option Piece → Bool) (w : List Piece) (R : S → Language (Kept A)) (p : S → Parser (Kept A)) (step : S → A → S) (F : List Piece) → AreKept test w R p F → (s : S) → Reads (Series R step s) (series test p step s) w
series_reads test w R p step F a s = record {
  sound = λ ps rest out h. series_sound test w R p step F a (length ps) s ps rest out (omega arith) h;
  complete = series_complete test w R p step F a s;
  halts = λ ps rest h. series_halts test w R p step F a (length ps) s ps rest (omega arith) h;
  lives = record { pieces = []; value = kept []; sentence = refl };
}

broken_starts : {A S : Type 0} (w : Piece) (R : S → Language (Kept A)) (step : S → A → S) → ((s : S) → BeginsWith (R s) w) → (s : S) (u f b : List Piece) (xs : List A) (n : ℕ) → Items R step s f xs → R (fold step s xs) b (broken n) → u ≡ f ++ b → (v : List Piece) × (u ≡ w ∷ v)
broken_starts w R step begins s u f b [] n h k e = let g = (begins s).begins b (broken n) k in (g.0, e ∙ ap (λ (zs : List Piece). zs ++ b) h ∙ g.1)
broken_starts w R step begins s u f b (x ∷ xs) n h k e = let g = (begins s).begins h.0 (kept x) h.2 in ((g.0 ++ h.1) ++ b, e ∙ ap (λ (zs : List Piece). zs ++ b) (h.4 ∙ ap (λ (zs : List Piece). zs ++ h.1) g.1))

-- such items are none, or begin with the piece
series_starts : {A S : Type 0} (w : Piece) (R : S → Language (Kept A)) (step : S → A → S) → ((s : S) → BeginsWith (R s) w) → (s : S) (u : List Piece) (out : Kept (List A)) → Series R step s u out → (out ≡ kept []) × (u ≡ []) ⊎ (v : List Piece) × (u ≡ w ∷ v)
series_starts w R step begins s u (kept []) h = inl (refl, h)
series_starts w R step begins s u (kept (x ∷ xs)) h = let g = (begins s).begins h.0 (kept x) h.2 in inr (g.0 ++ h.1, h.4 ∙ ap (λ (zs : List Piece). zs ++ h.1) g.1)
series_starts w R step begins s u (broken n) h = inr (broken_starts w R step begins s u h.0 h.1 h.2 n h.3 h.4 h.5)

series_then : {A S B : Type 0} (w : Piece) (R : S → Language (Kept A)) (step : S → A → S) (T : List A → Language (Kept B)) (F : List Piece) → ((s : S) → BeginsWith (R s) w) → Avoids F (Some w) → ((xs : List A) → Leads (T xs) [] F) → (s : S) (u rest : List Piece) (y : Kept B) → Then (Series R step s) (onward T) u y → Avoids F (next (u ++ rest))
series_then {A} {S} {B} w R step T F begins away l s u rest y k =
    elim (series_starts w R step begins s k.front k.value k.first) [
      | inl g ↦
          let t : T [] k.back y = subst (λ (v : Kept (List A)). onward T v k.back y) g.0 k.second in
          let e : u ≡ k.back = k.joined ∙ ap (λ (zs : List Piece). zs ++ k.back) g.1 in
          subst (λ (zs : List Piece). Avoids F (next (zs ++ rest))) (sym e) ((l []).avoids k.back rest y t (avoids_none (next rest)))
      | inr g ↦
          let e : u ≡ w ∷ (g.0 ++ k.back) = k.joined ∙ ap (λ (zs : List Piece). zs ++ k.back) g.1 in
          subst (λ (zs : List Piece). Avoids F (next (zs ++ rest))) (sym e) away
    ]

-- what such items and what follows them begin with
pub leads_series : {A S B : Type 0} (w : Piece) (R : S → Language (Kept A)) (step : S → A → S) (T : List A → Language (Kept B)) (F : List Piece) → ((s : S) → BeginsWith (R s) w) → Avoids F (Some w) → ((xs : List A) → Leads (T xs) [] F) → (s : S) → Leads (Then (Series R step s) (onward T)) [] F
leads_series w R step T F begins away l s = record { avoids = λ u rest y k a. series_then w R step T F begins away l s u rest y k }

-- where the text breaks off, anything may stand behind
pub series_kept : {A S : Type 0} (test : Option Piece → Bool) (w : List Piece) (R : S → Language (Kept A)) (p : S → Parser (Kept A)) (step : S → A → S) → AreKept test w R p [] → (s : S) → ReadsKept (Series R step s) (series test p step s) w
series_kept test w R p step a s = record {
  reads = series_reads test w R p step [] a s;
  breaks = λ u rest n h. ap (λ (zs : List Piece). series test p step s (zs ++ rest)) h.5 ∙ complete_broken test w R p step [] a s h.0 h.1 rest h.2 n h.3 h.4 (avoids_none (next rest));
}
