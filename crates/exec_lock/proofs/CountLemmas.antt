-- How often seats answer for a number, and how often all together do.
use Rattle.std.proofs.Common.{◌≡◌, ◌≢◌, ℕ, zero, suc, ◌+◌, ◌-◌, ◌<◌, ◌≤◌, List, [], ◌∷◌, ◌++◌, set, refl, sym, ap, arith}
use Rattle.std.proofs.lemmas.Bool.Decides.{nat_tests}
use mathlib.Core.Option.{some, some-ne-none, some-injective}
use lib.ListN.{get_elem?}
use Rattle.exec_lock.specs.declared.view.SeatView.{SeatView}
use Rattle.exec_lock.specs.declared.view.View.{View}
use Rattle.exec_lock.specs.declared.view.Run.{Run}
use Rattle.exec_lock.specs.Passes.{is_in, in_runs, covers, size, size_of, cut_left, cut_right, merged}
use Rattle.exec_lock.specs.Rule.{total, heads}

-- one seat changes: the sum changes by the difference
pub total_set : (n : ℕ) (seats : List SeatView) (i : ℕ) (v w : SeatView) → get_elem? seats i ≡ some v → total n (set seats i w) + covers n v.view ≡ total n seats + covers n w.view
total_set n [] i v w e = absurd (some-ne-none v (sym e))
total_set n (x ∷ xs) zero v w e = let same : covers n x.view ≡ covers n v.view = ap (λ (s : SeatView). covers n s.view) (some-injective _ _ e) in omega (arith, same)
total_set n (x ∷ xs) (suc i) v w e = let r = total_set n xs i v w e in omega (arith, r)

-- one seat is no more than all
pub total_one : (n : ℕ) (seats : List SeatView) (i : ℕ) (v : SeatView) → get_elem? seats i ≡ some v → covers n v.view ≤ total n seats
total_one n [] i v e = absurd (some-ne-none v (sym e))
total_one n (x ∷ xs) zero v e = let same : covers n x.view ≡ covers n v.view = ap (λ (s : SeatView). covers n s.view) (some-injective _ _ e) in omega (arith, same)
total_one n (x ∷ xs) (suc i) v e = let r = total_one n xs i v e in omega (arith, r)

-- two seats together are no more than all
pub total_two : (n : ℕ) (seats : List SeatView) (i j : ℕ) (v u : SeatView) → i ≢ j → get_elem? seats i ≡ some v → get_elem? seats j ≡ some u → covers n v.view + covers n u.view ≤ total n seats
total_two n [] i j v u ne e k = absurd (some-ne-none v (sym e))
total_two n (x ∷ xs) zero zero v u ne e k = absurd (ne refl)
total_two n (x ∷ xs) zero (suc j) v u ne e k =
    let same : covers n x.view ≡ covers n v.view = ap (λ (s : SeatView). covers n s.view) (some-injective _ _ e) in let r = total_one n xs j u k in omega (arith, same, r)
total_two n (x ∷ xs) (suc i) zero v u ne e k =
    let same : covers n x.view ≡ covers n u.view = ap (λ (s : SeatView). covers n s.view) (some-injective _ _ k) in let r = total_one n xs i v e in omega (arith, same, r)
total_two n (x ∷ xs) (suc i) (suc j) v u ne e k = let r = total_two n xs i j v u (λ s. ne (ap suc s)) e k in omega (arith, r)

-- a new seat adds its own
pub total_push : (n : ℕ) (seats : List SeatView) (w : SeatView) → total n (seats ++ w ∷ []) ≡ total n seats + covers n w.view
total_push n [] w = omega arith
total_push n (x ∷ xs) w = let r = total_push n xs w in omega (arith, r)

-- a number is in a run at most once
pub is_in_least : (first count n : ℕ) → is_in first count n ≤ 1
is_in_least first count n = grind (arith, nat_tests)

-- a number from the first on is in the run
pub is_in_here : (first count n : ℕ) → first ≤ n → n < first + count → is_in first count n ≡ 1
is_in_here first count n a b = grind (arith, nat_tests)

-- a number past the run is not in it
pub is_in_not : (first count n : ℕ) → first + count ≤ n → is_in first count n ≡ 0
is_in_not first count n a = grind (arith, nat_tests)

-- a number in the run lies between its ends
pub is_in_where : (first count n : ℕ) → 0 < is_in first count n → (first ≤ n) × (n < first + count)
is_in_where first count n h = grind (arith, nat_tests)

-- an empty run has no number
pub is_in_none : (first count n : ℕ) → count ≡ 0 → is_in first count n ≡ 0
is_in_none first count n e = grind (arith, nat_tests, e)

-- a run in two parts
pub is_in_split : (first a b n : ℕ) → is_in first (a + b) n ≡ is_in first a n + is_in (first + a) b n
is_in_split first a b n = grind (arith, nat_tests)

-- two lists of runs
pub in_runs-append : (n : ℕ) (xs ys : List Run) → in_runs n (xs ++ ys) ≡ in_runs n xs + in_runs n ys
in_runs-append n [] ys = omega arith
in_runs-append n (x ∷ xs) ys = let r = in_runs-append n xs ys in omega (arith, r)

-- the first numbers of two lists of runs
pub heads-append : (n : ℕ) (xs ys : List Run) → heads n (xs ++ ys) ≡ heads n xs + heads n ys
heads-append n [] ys = omega arith
heads-append n (x ∷ xs) ys = let r = heads-append n xs ys in omega (arith, r)

-- a run begins with another number
pub not_head : (first n : ℕ) → heads n (record { first = first; count = 0 } ∷ []) ≡ 0 → first ≢ n
not_head first n e same = absurd (grind (arith, nat_tests, e, same))

size_of-append : (xs ys : List Run) → size_of (xs ++ ys) ≡ size_of xs + size_of ys
size_of-append [] ys = omega arith
size_of-append (x ∷ xs) ys = let r = size_of-append xs ys in omega (arith, r)

-- a pass that took in another answers for the numbers of both
pub size-merged : (v w : View) → size (merged v w) ≡ size v + size w
size-merged v w = let r = size_of-append v.joined (record { first = w.first; count = w.count } ∷ w.joined) in omega (arith, r)

-- a pass with a number answers for its own
pub first_covered : (v : View) → 0 < v.count → 0 < covers v.first v
first_covered v some_number = let h = is_in_here v.first v.count v.first (omega arith) (omega (arith, some_number)) in omega (arith, h)

-- a split shares the numbers out
pub covers-cut : (n k : ℕ) (v : View) → k ≤ v.count → covers n (cut_left k v) + covers n (cut_right k v) ≡ covers n v
covers-cut n k v few =
    let e : (v.count - k) + k ≡ v.count = omega (arith, few) in
    let s = is_in_split v.first (v.count - k) k n in
    let s' : is_in v.first ((v.count - k) + k) n ≡ is_in v.first v.count n = ap (λ m. is_in v.first m n) e in omega (arith, s, s')

-- a join brings them together
pub covers-merged : (n : ℕ) (v w : View) → covers n (merged v w) ≡ covers n v + covers n w
covers-merged n v w = let r = in_runs-append n v.joined (record { first = w.first; count = w.count } ∷ w.joined) in omega (arith, r)

-- a pass with no number and no joined one answers for none
pub covers_none : (n : ℕ) (v : View) → v.count ≡ 0 → v.joined ≡ [] → covers n v ≡ 0
covers_none n v none_run none_joined = let a = is_in_none v.first v.count n none_run in let b = ap (in_runs n) none_joined in omega (arith, a, b)
