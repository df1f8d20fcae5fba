-- Loops over a list whose elements keep a rule with those before them.
use Rattle.std.proofs.Common.{ℕ, suc, ◌+◌, ◌<◌, ◌≤◌, List, [], length, take, drop, get_or, sym, subst, arith}
use Rattle.std.proofs.lemmas.List.{take_more, take_all, length-take-le}
use Rattle.std.proofs.lemmas.Option.{slice_get-get_or}
use Rattle.hs_base.specs.Walks.{EachAfter}
use Rattle.hs_base.specs.Faults.{IsFirstBreak, IsFirstBreakAt}
use Rattle.base_laws.proofs.ListLemmas.{EachAfter-more, slice_get-split}

-- one more element keeps the rule
pub each_more : {X : Type 0} (P : List X → X → Type 0) (xs : List X) (i : ℕ) (d : X) → i < length xs → EachAfter P [] (take i xs) → P (take i xs) (get_or xs i d) → EachAfter P [] (take (i + 1) xs)
each_more P xs i d below h last = subst (EachAfter P []) (sym (take_more xs i d below)) (EachAfter-more P [] (take i xs) (get_or xs i d) h last)

-- all elements do
pub each_all : {X : Type 0} (P : List X → X → Type 0) (xs : List X) (i : ℕ) → length xs ≤ i → EachAfter P [] (take i xs) → EachAfter P [] xs
each_all P xs i past h = subst (EachAfter P []) (take_all i xs past) h

-- the next element is the first that breaks the rule
pub first_break : {X : Type 0} (P : List X → X → Type 0) (xs : List X) (i : ℕ) (d : X) → i < length xs → EachAfter P [] (take i xs) → (P (take i xs) (get_or xs i d) → ⊥) → IsFirstBreak P xs (take i xs) (get_or xs i d)
first_break P xs i d below h broken = record { after = drop (suc i) xs; split = slice_get-split xs i (get_or xs i d) (slice_get-get_or xs i d below); kept = h; broken = broken }

pub first_break_at : {X : Type 0} (P : List X → X → Type 0) (xs : List X) (i : ℕ) (d : X) → i < length xs → EachAfter P [] (take i xs) → (P (take i xs) (get_or xs i d) → ⊥) → IsFirstBreakAt P xs i
first_break_at P xs i d below h broken = (take i xs, get_or xs i d, first_break P xs i d below h broken, sym (length-take-le i xs (omega arith)))
