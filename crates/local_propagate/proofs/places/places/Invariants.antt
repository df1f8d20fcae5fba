use Rattle.std.proofs.Common.{◌≡◌, ◌<◌, ℕ, All, get_or, vec_len}
use Rattle.local_propagate.specs.Joined.{leaders_of}
use Rattle.local_propagate.proofs.places.places.Given as goal

abbrev pub invariant-loop-i : goal.invariant-loop-i
invariant-loop-i l = record {
  within : All (λ a. a < vec_len l.places) (leaders_of l.groups);
  each : (j : ℕ) → j < l.i → get_or l.places.items (get_or (leaders_of l.groups) j 0) 0 ≡ j;
}
