-- What the way down to a child does.
use Rattle.std.specs.Prelude.{Bool, Some, false, slice_get, take, true, ℕ, ◌++◌, ◌≡◌}
use Rattle.plan_search.specs.Searched.{plan_at}
use Rattle.plan_search.specs.declared.frames.Frame.{Frame}
use Rattle.search_tree.specs.Partial.{Partial}
use Rattle.search_tree.specs.PartialBounds.{HasSchedule}
use Rattle.search_tree.specs.Resolvers.{parts_of, resolve}
use Rattle.search_tree.specs.declared.flaw.Resolver.{Resolver}
use Rattle.timeline_db.specs.Plannings.{IsOpen, Planning}
use Rattle.timeline_db.specs.declared.shut.Shut.{Shut}
use Rattle.timeline_db.specs.declared.shut.Shut.TheVariants.{Memory}

-- the partial plan of a frame
abbrev pub plan_of : Planning → Frame → Partial
plan_of d f = plan_at d.mission d.begun d.parts f

-- the child of that number is taken if it has a schedule, and else its parent
pub record Descends (f : Frame) (child : ℕ) (old new : Planning) (ahead : Bool) : Type 0 where
  pub mission : new.mission ≡ old.mission
  pub begun : new.begun ≡ old.begun
  pub resolver : Resolver
  pub is_resolver : slice_get f.resolvers child ≡ Some resolver
  pub down : ahead ≡ true → (new.parts ≡ take f.mark old.parts ++ parts_of (plan_of old f) f.flaw resolver) × IsOpen new
  pub shut : ahead ≡ false → (new.parts ≡ take f.mark old.parts) × (HasSchedule old.mission old.begun (resolve (plan_of old f) f.flaw resolver) → ⊥)

-- it was for want of memory
abbrev pub is_memory : Shut → Bool
is_memory Memory = true
is_memory _ = false
