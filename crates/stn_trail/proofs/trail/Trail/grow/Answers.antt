use Rattle.std.proofs.Common.{ℕ, ◌+◌, ◌<◌, ◌∙◌, ap, subst, sym, List, refl, arith}
use Rattle.stn_trail.specs.declared.part.Part.TheVariants.{Grown}
use Rattle.stn_trail.specs.declared.moves.Move.{Move}
use Rattle.stn_trail.specs.Held.{points_of}
use Rattle.stn_trail.specs.History.{IsTrail}
use Rattle.stn_trail.proofs.TrailLemmas.{IsTrail-grown, MeetsList-now, points_push}
use Rattle.stn_trail.proofs.trail.Trail.grow.Goals as goal

pub invariant_of-self-2 : goal.invariant_of-self-2
invariant_of-self-2 c =
    let t = c.self.inside in let few = c.requires in let counted = c.self.invariant.counted in
    let few' : t.count < 131072 = subst (λ (n : ℕ). n < 131072) (sym (counted ∙ ap points_of c.self.view_is)) few in
    let held = c.make_room.new.times.moves.ok.0 in let sized = c.make_room.new.rows.ok.0 in let room = c.in_ok-make_room.ensures.room in
    let h = c.make_room.ensures.wider.trail t.first t.steps.items c.self.invariant in
    rw c.in_ok-push.ensures.items (IsTrail-grown t.first t.count t.steps.items c.make_room.new.rows.items c.make_room.new.times.moves.items c.make_room.new.times.ticks.items _
    (subst (λ (ms : List Move). IsTrail t.first t.count t.steps.items c.make_room.new.rows.items ms c.make_room.new.times.ticks.items) (sym c.make_room.ensures.moves) h) refl (omega arith) (omega arith) few')

pub returns-clause-kept : goal.returns-clause-kept
returns-clause-kept c =
    let t = c.self.inside in
    MeetsList-now t.first (t.count + 1) c.push.new.self.items c.make_room.new.rows.items c.make_room.new.times.moves.items c.make_room.new.times.ticks.items (invariant_of-self-2 c)

pub returns-clause-points : goal.returns-clause-points
returns-clause-points c =
    let t = c.self.inside in
    points_push t.first t.steps.items c.push.new.self.items _ Grown c.in_ok-push.ensures.items refl ∙ ap (λ (n : ℕ). n + 1) (ap points_of c.self.view_is)
