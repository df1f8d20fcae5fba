-- Runs of bytes.
use Rattle.std.proofs.Common.{◌≡◌, ℕ, suc, ◌+◌, ◌-◌, ◌*◌, [], ◌∷◌, ◌++◌, fold, pos, drop-cons, ◌<◌, ◌≤◌, Bool, true, ◌&&◌, List, length, get_or, take, drop, slice_range, sym, ap, ◌∙◌, arith, length-drop}
use Rattle.std.proofs.lemmas.List.{get_or-drop, take-append-drop}
use Rattle.std.proofs.lemmas.List.Folds.{list_all_more}
use Rattle.std.proofs.lemmas.List.Sums.{fold-append, fold_more}
use Rattle.std.proofs.lemmas.Bool.Decides.{nat_tests}
use Rattle.std.specs.List.{list_all}
use Rattle.hs_texts.specs.Pieces.{begins, number_of}
use Rattle.ddl_read.specs.Spelled.{kept_number}

-- one more byte of a run
pub run_more : (test : ℕ → Bool) (text : List ℕ) (i j : ℕ) → i ≤ j → j < length text → list_all test (slice_range text i j) ≡ true → test (get_or text j 0) ≡ true → list_all test (slice_range text i (j + 1)) ≡ true
run_more test text i j le h k t =
    let more : list_all test (take ((j - i) + 1) (drop i text)) ≡ (list_all test (take (j - i) (drop i text)) && test (get_or (drop i text) (j - i) 0)) = list_all_more test (drop i text) (j - i) 0 (omega (arith, length-drop i text)) in
    let here : get_or (drop i text) (j - i) 0 ≡ get_or text j 0 = get_or-drop i text (j - i) 0 ∙ ap (λ (n : ℕ). get_or text n 0) (omega arith) in
    let size : j + 1 - i ≡ (j - i) + 1 = omega arith in
    ap (λ (n : ℕ). list_all test (take n (drop i text))) size ∙ more ∙ ap (λ b. b && test (get_or (drop i text) (j - i) 0)) k ∙ ap test here ∙ t

-- the first byte of a run
pub begins_run : (test : ℕ → Bool) (text : List ℕ) (i j : ℕ) → i < j → j ≤ length text → begins test (slice_range text i j) ≡ test (get_or text i 0)
begins_run test text i j lt le =
    let e : drop i text ≡ get_or text i 0 ∷ drop (suc i) text = drop-cons text i 0 (omega (arith, lt, le)) in
    let n : j - i ≡ suc (j - suc i) = omega (arith, lt) in
    ap (λ (m : ℕ). begins test (take m (drop i text))) n ∙ ap (λ (zs : List ℕ). begins test (take (suc (j - suc i)) zs)) e

-- more digits make no lesser number
grows : (ds : List ℕ) (n : ℕ) → n ≤ fold (λ m d. 10 * m + (d - 48)) n ds
grows [] n = omega arith
grows (d ∷ ds) n = let h = grows ds (10 * n + (d - 48)) in omega (arith, h)

pub number_grows : (ds : List ℕ) (i : ℕ) → number_of (take i ds) ≤ number_of ds
number_grows ds i =
    let whole : fold (λ m d. 10 * m + (d - 48)) 0 (take i ds ++ drop i ds) ≡ fold (λ m d. 10 * m + (d - 48)) (fold (λ m d. 10 * m + (d - 48)) 0 (take i ds)) (drop i ds) = fold-append (λ m d. 10 * m + (d - 48)) 0 (take i ds) (drop i ds) in
    let same : number_of ds ≡ number_of (take i ds ++ drop i ds) = ap number_of (sym (take-append-drop i ds)) in
    omega (arith, grows (drop i ds) (number_of (take i ds)), whole, same)

pub too_large : (ds : List ℕ) → 1000000000 < number_of ds → kept_number ds ≡ pos 1000000001
too_large ds h = grind (arith, nat_tests)

-- one more digit
pub number_more : (ds : List ℕ) (i : ℕ) → i < length ds → number_of (take (i + 1) ds) ≡ 10 * number_of (take i ds) + (get_or ds i 0 - 48)
number_more ds i h = fold_more (λ m d. 10 * m + (d - 48)) 0 ds i 0 h
