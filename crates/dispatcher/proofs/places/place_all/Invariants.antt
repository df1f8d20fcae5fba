use Rattle.std.proofs.Common.{◌<◌, ℕ, length, get_or}
use Rattle.std.specs.Prelude.{Contains}
use Rattle.hs_base.specs.declared.net.Member.{Member}
use Rattle.hs_base.specs.declared.net.Group.{Group}
use Rattle.hs_base.specs.Dispatch.{stands}
use Rattle.dispatcher.specs.Places.{IsSmall, StandsAt, place_at}
use Rattle.dispatcher.proofs.places.place_all.Given as goal

abbrev pub invariant-loop-i : goal.invariant-loop-i
invariant-loop-i l = record {
  places : (j : ℕ) (g : Group) (m : Member) → j < l.i → j < length l.net.groups → Contains (stands (get_or l.net.groups j g)) m → StandsAt l.net m.point.0 (place_at l.places m.point.0);
  small : (j : ℕ) (g : Group) (m : Member) → j < l.i → j < length l.net.groups → Contains (stands (get_or l.net.groups j g)) m → IsSmall m;
}
