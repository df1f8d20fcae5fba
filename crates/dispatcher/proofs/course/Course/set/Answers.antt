use Rattle.std.proofs.Common.{◌≡◌, ◌∙◌, ◌<◌, ℕ, ap, sym, refl, subst, arith, pos, w64, FitsSigned, to_z, of_z, length, get_or, set, Some, None}
use Rattle.std.specs.Prelude.{ℤ, ◌≤ℤ◌, All}
use Rattle.std.specs.List.{fold}
use Rattle.std.proofs.lemmas.Int.{ints, to_z-of_z}
use Rattle.std.proofs.lemmas.List.{get_or_read, map-set, length-map, length-set}
use Rattle.hs_base.specs.declared.ids.PointId.{PointId}
use Rattle.hs_base.specs.declared.net.Group.{Group}
use Rattle.hs_base.specs.Dispatch.{stands}
use Rattle.local_propagate.specs.Windows.{time_of}
use Rattle.local_propagate.specs.declared.windows.TheConstants.{NEVER}
use Rattle.dispatcher.specs.declared.course.Course.TheInside.{Inside}
use Rattle.dispatcher.specs.declared.places.Place.{Place}
use Rattle.hs_base.specs.Moments.{MayFire}
use Rattle.dispatcher.specs.State.{IsOpen, moment}
use Rattle.dispatcher.specs.Places.{ArePlaces, place_at, no_place, IsNearLeader}
use Rattle.dispatcher.specs.Index.{numbers_of, waited}
use Rattle.dispatcher.specs.Kept.{state_of, IsKept}
use Rattle.dispatcher.proofs.KeptLemmas.{none_from, some_from}
use Rattle.dispatcher.proofs.FireLemmas.{fired_lawful, kept_set_by, kept_known, kept_waits, new_times, new_known, near_members, new_waits, length-waited}
use Rattle.dispatcher.proofs.course.Course.set.Goals.{then-is_none, else-is_none}
use Rattle.dispatcher.proofs.course.Course.set.Goals as goal

-- the tick of what is kept
tick_fits : (d : Inside) → IsKept d → FitsSigned w64 d.tick
tick_fits d k = let zero = k.state.reached.late 0 (pos 0) k.state.reached.origin in omega (arith, ints, zero, k.state.last)

tick_low : (d : Inside) → IsKept d → pos 0 ≤ℤ to_z w64 (of_z w64 d.tick)
tick_low d k = rw (to_z-of_z w64 d.tick (tick_fits d k)) (k.state.reached.late 0 (pos 0) k.state.reached.origin)

-- the place that is read
place_read : (d : Inside) → IsKept d → (x : ℕ) (p : Place) → x < length d.times.items → p ≡ get_or d.places.items x p → p ≡ place_at d.places.items x
place_read d k x p ix read = get_or_read d.places.items x p (omega (arith, ix, k.places.points)) read no_place

pub set-requires-clause-from : goal.set-requires-clause-from
set-requires-clause-from c = tick_low c.self.inside c.self.invariant

pub index_mut-requires-then-is_none : goal.index_mut-requires-then-is_none
index_mut-requires-then-is_none c =
    let d = c.self.inside in
    let k = c.self.invariant in
    let x = c.args.p.0 in
    let is_open : IsOpen (state_of d) x = subst (λ s. IsOpen s x) (sym c.self.view_is) c.requires.open in
    let pl = place_read d k x c.index-place.result.now is_open.below c.index-place.ensures in
    omega (arith, ap (λ (p : Place). p.group) pl, (k.places.each x is_open.below).within, k.known.groups, length-map d.known.items (λ (q : PointId). q.0), d.known.ok.0)

pub wait_group-requires-clause-near : goal.wait_group-requires-clause-near
wait_group-requires-clause-near c =
    let d = c.self.inside in
    let k = c.self.invariant in
    let x = c.args.p.0 in
    let is_open : IsOpen (state_of d) x = subst (λ s. IsOpen s x) (sym c.self.view_is) c.requires.open in
    let may : MayFire (moment (state_of d)) x = subst (λ s. MayFire (moment s) x) (sym c.self.view_is) c.requires.may in
    let pl = place_read d k x c.index-place.result.now is_open.below c.index-place.ensures in
    let read : c.index.result.now ≡ get_or d.net.groups (place_at d.places.items x).group c.index.result.now = c.index.ensures ∙ ap (λ (p : Place). get_or d.net.groups p.group c.index.result.now) pl in
    let near = near_members (state_of d) k.state d.windows d.places.items (numbers_of d.known.items) d.until k.set k.places k.known k.waits x is_open may (ap (λ (p : Place). time_of d.windows p.group) (sym pl) ∙ sym c.time.ensures ∙ none_from c.time.result c.if-is_none.ensures) c.index.result.now in
    subst (λ (g : Group). All (IsNearLeader (length d.until)) (stands g)) (sym read) near

pub wait_group-requires-clause-from : goal.wait_group-requires-clause-from
wait_group-requires-clause-from c = tick_low c.self.inside c.self.invariant

pub set-requires-2 : goal.set-requires-2
set-requires-2 c =
    let d = c.self.inside in
    let k = c.self.invariant in
    let x = c.args.p.0 in
    let is_open : IsOpen (state_of d) x = subst (λ s. IsOpen s x) (sym c.self.view_is) c.requires.open in
    elim c.if-is_none.branch [
      | then-is_none w ↦
          let long = ap (λ (z : Inside). length z.until) w.self-inside-is ∙ ap length w.wait_group.ensures ∙ length-waited (to_z w64 (of_z w64 d.tick)) (stands w.index.result.now) d.until in
          omega (arith, long, is_open.below, k.waits.points)
      | else-is_none w ↦ let long = ap (λ (z : Inside). length z.until) w.self-inside-is in omega (arith, long, is_open.below, k.waits.points)
    ]

pub invariant_of-self : goal.invariant_of-self
invariant_of-self c =
    let d = c.self.inside in
    let k = c.self.invariant in
    let s = state_of d in
    let x = c.args.p.0 in
    let is_open : IsOpen s x = subst (λ s. IsOpen s x) (sym c.self.view_is) c.requires.open in
    let may : MayFire (moment s) x = subst (λ s. MayFire (moment s) x) (sym c.self.view_is) c.requires.may in
    let pl = place_read d k x c.index-place.result.now is_open.below c.index-place.ensures in
    let tk : to_z w64 (of_z w64 d.tick) ≡ d.tick = to_z-of_z w64 d.tick (tick_fits d k) in
    let lawful = fired_lawful s k.state d.windows d.places.items (numbers_of d.known.items) d.until k.set k.places k.known k.waits x is_open may in
    let long = length-set d.times.items x (Some (to_z w64 (of_z w64 d.tick))) in
    elim c.if-is_none.branch [
      | then-is_none w ↦
          let none : time_of d.windows (place_at d.places.items x).group ≡ None = ap (λ (p : Place). time_of d.windows p.group) (sym pl) ∙ sym c.time.ensures ∙ none_from c.time.result w.if-is_none.ensures in
          let group : c.index-place.result.now.group ≡ (place_at d.places.items x).group = ap (λ (p : Place). p.group) pl in
          let times : w.set.new.self.times.items ≡ set d.windows.times.items (place_at d.places.items x).group (Some d.tick) = w.set.ensures.times ∙ rw (group, tk) refl in
          let read : w.index.result.now ≡ get_or d.net.groups (place_at d.places.items x).group w.index.result.now = w.index.ensures ∙ ap (λ z. get_or d.net.groups z w.index.result.now) group in
          let waits = new_waits s k.state d.windows d.places.items (numbers_of d.known.items) d.until k.set k.places k.known k.waits x is_open may none w.set.new.self w.index.result.now times in
          let until : w.wait_group.new.until ≡ fold (waited d.tick) d.until (stands (get_or d.net.groups (place_at d.places.items x).group w.index.result.now)) = w.wait_group.ensures ∙ ap (λ (z : ℤ). fold (waited z) d.until (stands w.index.result.now)) tk ∙ ap (λ (g : Group). fold (waited d.tick) d.until (stands g)) read in
          let known : numbers_of (set d.known.items c.index-place.result.now.group c.args.p) ≡ set (numbers_of d.known.items) (place_at d.places.items x).group x = map-set (λ (q : PointId). q.0) d.known.items c.index-place.result.now.group c.args.p ∙ ap (λ z. set (numbers_of d.known.items) z x) group in
          rw c.set-2.ensures (subst (λ (z : Inside). IsKept (record { net = z.net; windows = z.windows; observed = z.observed; times = z.times; tick = z.tick; places = z.places; known = z.known; until = set z.until x NEVER })) (sym w.self-inside-is) (record {
            state = rw tk lawful;
            set = record { are = w.set.ensures.windows; by = rw tk (new_times s k.state d.windows d.places.items (numbers_of d.known.items) d.until k.set k.places k.known k.waits x is_open may none w.set.new.self.times.items times) };
            places = subst (λ n. ArePlaces n d.net d.places.items) (sym long) k.places;
            known = rw (tk, known) (new_known s k.state d.windows d.places.items (numbers_of d.known.items) d.until k.set k.places k.known k.waits x is_open may none);
            waits = rw (tk, until) waits;
            small = omega (arith, k.small, long);
          }))
      | else-is_none w ↦
          let t = some_from c.time.result w.if-is_none.ensures in
          let is_set : time_of d.windows (place_at d.places.items x).group ≡ Some t.0 = ap (λ (p : Place). time_of d.windows p.group) (sym pl) ∙ sym c.time.ensures ∙ t.1 in
          rw c.set-2.ensures (subst (λ (z : Inside). IsKept (record { net = z.net; windows = z.windows; observed = z.observed; times = z.times; tick = z.tick; places = z.places; known = z.known; until = set z.until x NEVER })) (sym w.self-inside-is) (record {
            state = rw tk lawful;
            set = rw tk (kept_set_by s k.state d.windows d.places.items (numbers_of d.known.items) d.until k.set k.places k.known k.waits x is_open may t.0 is_set);
            places = subst (λ n. ArePlaces n d.net d.places.items) (sym long) k.places;
            known = rw tk (kept_known s k.state d.windows d.places.items (numbers_of d.known.items) d.until k.set k.places k.known k.waits x is_open may t.0 is_set);
            waits = rw tk (kept_waits s k.state d.windows d.places.items (numbers_of d.known.items) d.until k.set k.places k.known k.waits x is_open may t.0 is_set);
            small = omega (arith, k.small, long);
          }))
    ]
