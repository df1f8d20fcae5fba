-- A pass that answers for k numbers, each of them below k and each once, answers for them all.
use Rattle.std.proofs.Common.{◌≡◌, ◌≢◌, ℕ, zero, suc, ◌+◌, ◌<◌, ◌≤◌, List, [], ◌∷◌, refl, ap, ◌∙◌, ⊎_elim, arith}
use Rattle.std.proofs.lemmas.Bool.{cases_eq}
use Rattle.std.proofs.lemmas.Bool.Decides.{nat_tests}
use Rattle.exec_lock.specs.declared.view.View.{View}
use Rattle.exec_lock.specs.declared.view.Run.{Run}
use Rattle.exec_lock.specs.Passes.{is_in, in_runs, covers, size, size_of}
use Rattle.exec_lock.proofs.CountLemmas.{is_in_least, is_in_here, is_in_not, is_in_where}

-- f added up below k
abbrev sum_to : ℕ → (ℕ → ℕ) → ℕ
sum_to zero f = 0
sum_to (suc k) f = f k + sum_to k f

sum_add : (k : ℕ) (f g : ℕ → ℕ) → sum_to k (λ n. f n + g n) ≡ sum_to k f + sum_to k g
sum_add zero f g = omega arith
sum_add (suc k) f g = let r = sum_add k f g in omega (arith, r)

sum_same : (k : ℕ) (f g : ℕ → ℕ) → ((n : ℕ) → n < k → f n ≡ g n) → sum_to k f ≡ sum_to k g
sum_same zero f g h = refl
sum_same (suc k) f g h = let r = sum_same k f g (λ n l. h n (omega (arith, l))) in let e = h k (omega arith) in omega (arith, r, e)

sum_zero : (k : ℕ) (f : ℕ → ℕ) → ((n : ℕ) → f n ≡ 0) → sum_to k f ≡ 0
sum_zero zero f h = refl
sum_zero (suc k) f h = let r = sum_zero k f h in let e = h k in omega (arith, r, e)

sum_most : (k : ℕ) (f : ℕ → ℕ) → ((n : ℕ) → f n ≤ 1) → sum_to k f ≤ k
sum_most zero f h = omega arith
sum_most (suc k) f h = let r = sum_most k f h in let e = h k in omega (arith, r, e)

-- terms of at most 1 that add up to k are all 1
sum_full : (k : ℕ) (f : ℕ → ℕ) → ((n : ℕ) → f n ≤ 1) → sum_to k f ≡ k → (n : ℕ) → n < k → f n ≡ 1
sum_full zero f h s n l = absurd (omega (arith, l))
sum_full (suc k) f h s n l =
    let r = sum_most k f h in let e = h k in
    ⊎_elim (λ (same : n ≡ k). ap f same ∙ omega (arith, r, e, s)) (λ ne. sum_full k f h (omega (arith, r, e, s)) n (let ne' : n ≢ k = ne in omega (arith, l, ne'))) (cases_eq n k)

-- a run below k has as many numbers as its count
sum_run : (k first count : ℕ) → first + count ≤ k → sum_to k (is_in first count) ≡ count
sum_run zero first count h = omega (arith, h)
sum_run (suc k) first zero h = let z = sum_zero (suc k) (is_in first 0) (λ n. grind (arith, nat_tests)) in z
sum_run (suc k) first (suc c) h =
    ⊎_elim
    (λ (last : first + c ≡ k).
    let here = is_in_here first (suc c) k (omega (arith, last)) (omega (arith, last)) in
    let same = sum_same k (is_in first (suc c)) (is_in first c) (λ n l. grind (arith, nat_tests, last, l)) in
    let r = sum_run k first c (omega (arith, last)) in omega (arith, here, same, r))
    (λ more.
    let more' : first + c ≢ k = more in
    let none = is_in_not first (suc c) k (omega (arith, more', h)) in
    let r = sum_run k first (suc c) (omega (arith, more', h)) in omega (arith, none, r))
    (cases_eq (first + c) k)

run_sum : (k first count : ℕ) → ((n : ℕ) → is_in first count n ≤ is_in 0 k n) → sum_to k (is_in first count) ≡ count
run_sum k first zero h = sum_zero k (is_in first 0) (λ n. grind (arith, nat_tests))
run_sum k first (suc c) h =
    let here = is_in_here first (suc c) (first + c) (omega arith) (omega arith) in
    let l = h (first + c) in
    let w = is_in_where 0 k (first + c) (omega (arith, here, l)) in
    sum_run k first (suc c) (let w' = w.1 in omega (arith, w'))

runs_sum : (k : ℕ) (rs : List Run) → ((n : ℕ) → in_runs n rs ≤ is_in 0 k n) → sum_to k (λ n. in_runs n rs) ≡ size_of rs
runs_sum k [] h = sum_zero k (λ _. 0) (λ _. refl)
runs_sum k (r ∷ rs) h =
    let a = run_sum k r.first r.count (λ n. let x = h n in omega (arith, x)) in
    let b = runs_sum k rs (λ n. let x = h n in omega (arith, x)) in
    let s = sum_add k (is_in r.first r.count) (λ n. in_runs n rs) in omega (arith, a, b, s)

size_sum : (k : ℕ) (v : View) → ((n : ℕ) → covers n v ≤ is_in 0 k n) → sum_to k (λ n. covers n v) ≡ size v
size_sum k v h =
    let a = run_sum k v.first v.count (λ n. let x = h n in omega (arith, x)) in
    let b = runs_sum k v.joined (λ n. let x = h n in omega (arith, x)) in
    let s = sum_add k (is_in v.first v.count) (λ n. in_runs n v.joined) in omega (arith, a, b, s)

covers_once : (k : ℕ) (v : View) → ((n : ℕ) → covers n v ≤ is_in 0 k n) → (n : ℕ) → covers n v ≤ 1
covers_once k v h n = let a = h n in let b = is_in_least 0 k n in omega (arith, a, b)

-- it answers for k numbers at most
pub size_most : (k : ℕ) (v : View) → ((n : ℕ) → covers n v ≤ is_in 0 k n) → size v ≤ k
size_most k v h = let s = size_sum k v h in let m = sum_most k (λ n. covers n v) (covers_once k v h) in omega (arith, s, m)

-- where it answers for k numbers, it answers for each below k
pub all_covered : (k : ℕ) (v : View) → ((n : ℕ) → covers n v ≤ is_in 0 k n) → size v ≡ k → (n : ℕ) → n < k → covers n v ≡ 1
all_covered k v h e n l = sum_full k (λ m. covers m v) (covers_once k v h) (size_sum k v h ∙ e) n l
