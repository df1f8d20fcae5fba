-- What objects of the outside tell of themselves, where they tell anything.
use Rattle.std.specs.Prelude.{◌≡◌, ℕ, ℤ, ◌+◌, List, [], ◌∷◌, ◌++◌, ⊤, None, Some, Result, MatchResult}
use Rattle.std.specs.declared.option.Option.{Option}
use Rattle.hs_port.specs.declared.failed.Failed.{Failed}
use Rattle.hs_port.specs.declared.device.Answer.{Answer}

-- what was told stays as it was
abbrev pub Stays : {X : Type 0} → Option X → Option X → Type 0
Stays None after = ⊤
Stays (Some x) after = after ≡ Some x

-- what was told changes by f
abbrev pub Changes : {X : Type 0} → (X → X) → Option X → Option X → Type 0
Changes f None after = ⊤
Changes f (Some x) after = after ≡ Some (f x)

-- one tick more where it came, else as many as before
abbrev pub TicksOnce : Option ℕ → Option ℕ → Result Unit Failed → Type 0
TicksOnce before after result = MatchResult result (λ _. Changes (λ n. n + 1) before after) (λ _. Stays before after)

-- one answered poll more where it was answered, else the same polls
abbrev pub AsksOnce : Option (List (ℤ × Answer)) → Option (List (ℤ × Answer)) → ℤ → Result Answer Failed → Type 0
AsksOnce before after at result =
    MatchResult result (λ answer. Changes (λ polls. polls ++ (at, answer) ∷ []) before after) (λ _. Stays before after)
