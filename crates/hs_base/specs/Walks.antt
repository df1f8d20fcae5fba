-- Lists that are read from the front, each element with those before it.
use Rattle.std.specs.Prelude.{◌≢◌, List, [], ◌∷◌, ◌++◌, ⊤}
use Rattle.std.specs.List.{AllByRecursion}

-- P holds of each element after those before it, where `before` stands before the list
abbrev pub EachAfter : {X : Type 0} → (List X → X → Type 0) → List X → List X → Type 0
EachAfter P before [] = ⊤
EachAfter P before (x ∷ xs) = P before x × EachAfter P (before ++ x ∷ []) xs

-- what f gives for each element after those before it, one list after another
abbrev pub join_after : {X Y : Type 0} → (List X → X → List Y) → List X → List X → List Y
join_after f before [] = []
join_after f before (x ∷ xs) = f before x ++ join_after f (before ++ x ∷ []) xs

-- R holds of each element and every later one
abbrev pub IsInOrder : {X : Type 0} → (X → X → Type 0) → List X → Type 0
IsInOrder R xs = EachAfter (λ before x. AllByRecursion (λ b. R b x) before) [] xs

-- no two elements are equal
abbrev pub AreDifferent : {X : Type 0} → List X → Type 0
AreDifferent xs = IsInOrder (λ a b. a ≢ b) xs
