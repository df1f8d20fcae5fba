-- Scripts that end waiting.
use Rattle.std.proofs.Common.{◌≡◌, true, List, [], ◌∷◌}
use Rattle.hs_base.specs.declared.mission.Step.{Step}
use Rattle.hs_base.specs.declared.mission.Step.TheVariants.{Do, Until}
use Rattle.hs_base.specs.Missions.{ends_waiting}
use Rattle.device_script.specs.Runs.{from_wait}

-- they await a word
pub awaits : (steps : List Step) → ends_waiting steps ≡ true → from_wait steps ≡ [] → ⊥
awaits [] waits none = absurd cc
awaits (Do w amount ∷ []) waits none = absurd cc
awaits (Do w amount ∷ s ∷ steps) waits none = awaits (s ∷ steps) waits none
awaits (Until w ∷ []) waits none = absurd cc
awaits (Until w ∷ s ∷ steps) waits none = absurd cc
