-- The table as it is made, and what its last state says of the core.
use Rattle.std.proofs.Common.{◌≡◌, ◌≢◌, ℕ, ◌+◌, ◌-◌, ◌%◌, ◌^◌, ◌<◌, ◌≤◌, List, [], ◌∷◌, length, false, refl, sym, ap, ◌∙◌, subst, ⊎_elim, inl, arith, append-nil}
use Rattle.std.proofs.lemmas.Bool.{cases_lt}
use mathlib.Core.Option.{some, some-injective}
use mathlib.Core.Option as maybe
use lib.ListN.{get_elem?}
use Rattle.atomic_table.specs.Table.{State, opening, Final, Seen}
use Rattle.hs_machine.specs.declared.history.Entry.{Entry}
use Rattle.hs_base.specs.declared.mission.Mission.{Mission}
use Rattle.hs_machine.specs.Histories.{IsPrefix}
use Rattle.exec_lock.specs.declared.view.SeatView.{SeatView}
use Rattle.exec_lock.specs.Passes.{placed, of, is_in, covers, size}
use Rattle.exec_lock.specs.Shares.{Ends}
use Rattle.exec_lock.specs.Rule.{Agrees, IsFree, IsHeld, IsKept, first_seat}
use Rattle.exec_lock.proofs.CountLemmas.{total_one, total_two, is_in_least, is_in_not, is_in_where, first_covered}
use Rattle.exec_lock.proofs.NumberLemmas.{size_most, all_covered}
use Rattle.exec_lock.proofs.PrefixLemmas.{prefix_self, prefix_nil, when_zero, when_some, when_nil}
use Rattle.exec_lock.proofs.SeatLemmas.{no_turn, first_only}

-- a number that fits is what its remainder says
pub small_mod : (n k : ℕ) → n ≤ 4294967295 → n % 2 ^ 32 ≡ k → n ≡ k
small_mod n k least e = omega (arith, least, e)

-- remainders add up
pub mod-add : (a b m n : ℕ) → a ≡ m % 2 ^ 32 → b ≡ n % 2 ^ 32 → (a + b) % 2 ^ 32 ≡ (m + n) % 2 ^ 32
mod-add a b m n e f = omega (arith, e, f)

-- what is missing to all numbers
pub away_left : (a n : ℕ) → n ≤ 4294967295 → n ≡ a → a ≢ 4294967295 → (0 < 4294967295 - a) × (4294967295 - a + n ≡ 4294967295)
away_left a n least e ne = (omega (arith, least, e, ne), omega (arith, least, e))

module _ {X : Type 0} (mission_of : X → Mission) (history_of : X → List Entry) (key : X) where
  abbrev Rule : State X SeatView → Type 0
  Rule = IsKept mission_of history_of key

  abbrev base : ℕ
  base = length (history_of key)

  -- the table as it is made keeps the rule
  pub begins_kept : Rule (opening (0 ∷ []) (key ∷ []) (first_seat (mission_of key) (history_of key)))
  begins_kept = record {
    log = history_of key;
    later = [];
    begins = sym (append-nil (history_of key));
    seats = first_only (λ v. Agrees (mission_of key) base (history_of key) [] v) (first_seat (mission_of key) (history_of key)) record {
      opened = λ _. refl;
      seen = prefix_self (history_of key);
      told = prefix_nil (history_of key);
      own = λ n. sym (when_nil (covers n (first_seat (mission_of key) (history_of key)).view));
      fresh = λ n _ _. refl;
      spent = λ n h _. absurd (omega (arith, h));
      holds = λ e. no_turn e;
    };
    once = λ n. omega arith;
    others = λ n _. refl;
    turn = inl record {
      core = key;
      words = refl;
      homes = refl;
      history = refl;
      opening = refl;
      none = first_only (λ v. v.holds ≡ false) (first_seat (mission_of key) (history_of key)) refl;
    };
  }

  -- what a seat answers for, it alone answers for, and it is a number of the first run
  answers_once : (s : State X SeatView) → Rule s → (id : ℕ) (v : SeatView) → get_elem? s.views id ≡ some v → (n : ℕ) → covers n v.view ≤ is_in 0 4294967295 n
  answers_once s k id v at n = let t = total_one n s.views id v at in let o = k.once n in omega (arith, t, o)

  -- where a seat answers for every number, no other has the turn
  free_at_end : (s : State X SeatView) → (k : Rule s) → (id : ℕ) (v : SeatView) → get_elem? s.views id ≡ some v → v.holds ≡ false → size v.view ≡ 4294967295 → IsFree mission_of history_of key s k.log
  free_at_end s k id v at idle all = ⊎_elim (λ f. f) (λ h. absurd (no h)) k.turn
    where
      no : IsHeld mission_of history_of key s k.log → ⊥
      no h =
          let some_number = (k.seats h.holder h.seat h.at).holds h.holding in
          let theirs = first_covered h.seat.view some_number in
          let n : ℕ = h.seat.view.first in
          let low = answers_once s k h.holder h.seat h.at n in
          let inside = is_in_where 0 4294967295 n (omega (arith, theirs, low)) in
          let inside' = inside.1 in
          let mine = all_covered 4294967295 v.view (answers_once s k id v at) all n (omega (arith, inside')) in
          let apart : id ≢ h.holder = λ e. let same : v ≡ h.seat = some-injective _ _ (sym at ∙ (ap (get_elem? s.views) e ∙ h.at)) in no_turn (sym idle ∙ (ap (λ u. u.holds) same ∙ h.holding)) in
          let two = total_two n s.views id h.holder v h.seat apart at h.at in
          let most = is_in_least 0 4294967295 n in
          let o = k.once n in omega (arith, two, most, o, mine, theirs)

  -- where a seat answers for every number, its calls are just the later entries
  ends : (s : State X SeatView) → (k : Rule s) → (id : ℕ) (v : SeatView) → get_elem? s.views id ≡ some v → v.holds ≡ false → size v.view ≡ 4294967295
      → (x : X) × (s.homes ≡ some x ∷ []) × Ends mission_of history_of key v.view x
  ends s k id v at idle all =
      let f = free_at_end s k id v at idle all in
      let m = k.seats id v at in (
        f.core,
        f.homes,
        record {
          opening = f.opening;
          later = k.later;
          history = f.history ∙ k.begins;
          seen = subst (IsPrefix v.view.seen) (sym f.history) m.seen;
          own = λ n. ⊎_elim
              (λ near. sym (m.own n ∙ when_some (covers n v.view) (of n (placed base k.later)) (let c = all_covered 4294967295 v.view (answers_once s k id v at) all n near in omega (arith, c))))
              (λ far. k.others n far ∙ sym (m.own n ∙ when_zero (covers n v.view) (of n (placed base k.later)) (let a = answers_once s k id v at n in let z = is_in_not 0 4294967295 n far in omega (arith, a, z))))
              (cases_lt n 4294967295);
        },
      )

  -- the core in the closed table
  pub closes : (id : ℕ) (v : SeatView) (words : List ℕ) (cores : List X) (x : X) → Final (Seen Rule id v) words cores → v.holds ≡ false → size v.view ≡ 4294967295 → get_elem? cores 0 ≡ some x → Ends mission_of history_of key v.view x
  closes id v words cores x f idle all there =
      let e = ends f.0 f.1.0 id v f.1.1 idle all in
      let home : get_elem? f.0.homes 0 ≡ some (some e.0) = ap (λ (l : List (maybe.Option X)). get_elem? l 0) e.1 in
      let same : e.0 ≡ x = some-injective _ _ (sym (f.4 0 e.0 home) ∙ there) in subst (Ends mission_of history_of key v.view) same e.2

  -- a seat answers for no more numbers than there are
  pub size_at_end : (id : ℕ) (v : SeatView) (words : List ℕ) (cores : List X) → Final (Seen Rule id v) words cores → size v.view ≤ 4294967295
  size_at_end id v words cores f = size_most 4294967295 v.view (answers_once f.0 f.1.0 id v f.1.1)
