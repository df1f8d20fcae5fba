use Rattle.std.proofs.Common.{◌≡◌, ◌+◌, ◌-◌, ◌++◌, ◌∷◌, [], List, length, Some, None, refl, sym, ap, ◌∙◌, subst, arith}
use Rattle.std.proofs.lemmas.Int.{ints}
use Rattle.std.specs.Prelude.{is_ok, vec_capacity, slice_get}
use Rattle.hs_machine.specs.declared.history.Deed.TheVariants.{Handover}
use Rattle.hs_base.specs.Points.{count, hor}
use Rattle.hs_machine.specs.declared.history.Entry.{Entry}
use Rattle.hs_machine.specs.Machine.{Turn, handover, done}
use Rattle.plan_check.specs.Planned.{Planned}
use Rattle.horizon_handover.specs.Offers.{IsLast}
use Rattle.exec_core.specs.Recorded.{Recorded}
use Rattle.exec_core.specs.Next.{MayTake}
use Rattle.exec_core.proofs.PushLemmas.{pushed}
use Rattle.exec_core.proofs.HandedLemmas.{handed_turn, handed_kept}
use Rattle.exec_core.proofs.exec.Exec.take_in.Goals as goal

pub unwrap-requires : goal.unwrap-requires
unwrap-requires c = c.push.ensures.succeeds (omega (arith, c.in_ok-take_room.ensures.ok, c.entries_of-entries.ensures.some))

pub invariant_of-self-2 : goal.invariant_of-self-2
invariant_of-self-2 c =
    let d = c.self.inside in
    let p = c.args.offer.plan in
    let none : d.live ≡ None = c.in_ok-take_room.ensures.first in
    let may = subst (λ (r : Recorded). MayTake r p) (sym c.self.view_is) c.requires in
    let l = c.launch-live.ensures in
    let e : Entry = record { by = c.args.by; deed = Handover c.unwrap-extension.result c.launch-live.result.net } in
    let items : c.push.new.self.items ≡ d.history.items ++ e ∷ [] = pushed c.push.result c.push.new.self.items c.take_room.new.history.items e (ap is_ok c.unwrap.ensures) c.push.ensures.items ∙ ap (λ (xs : List Entry). xs ++ e ∷ []) c.in_ok-take_room.ensures.items in
    handed_kept d c.self.invariant none p may c.unwrap-extension.result c.launch-live.result.net c.launch-live.result.live.dispatch c.args.by l.checked l.dispatch (subst (IsLast p.plan.extensions) c.unwrap-extension.ensures l.last) l.net
    c.begin.result (c.begin.ensures.plan ∙ l.plan) c.begin.ensures.dispatch (c.begin.ensures.mark ∙ ap (λ (x : Planned). hor x.plan.extensions (length x.plan.extensions)) l.plan)
    (vec_capacity c.push.new.self)
    (λ g is.
    let there = subst (λ (x : Planned). slice_get x.mission.horizons (length x.plan.extensions - 1) ≡ Some g) (sym c.plan.ensures) is in
    omega (arith, ints, c.entries_of-entries.ensures.value g there, ap (λ (x : Planned). count x.plan.extensions) c.plan.ensures, c.in_ok-take_room.ensures.ok, c.in_ok-take_room.ensures.len, d.history.ok.0, c.push.ensures.capacity))
    _ (record { mission = refl; items = items; room = omega (arith, c.in_ok-take_room.ensures.capacity, c.push.ensures.capacity) }) refl c.put.ensures refl

pub returns-clause-ok : goal.returns-clause-ok
returns-clause-ok c =
    let d = c.self.inside in
    let p = c.args.offer.plan in
    let none : d.live ≡ None = c.in_ok-take_room.ensures.first in
    let may = subst (λ (r : Recorded). MayTake r p) (sym c.self.view_is) c.requires in
    let l = c.launch-live.ensures in
    let e : Entry = record { by = c.args.by; deed = Handover c.unwrap-extension.result c.launch-live.result.net } in
    let items : c.push.new.self.items ≡ d.history.items ++ e ∷ [] = pushed c.push.result c.push.new.self.items c.take_room.new.history.items e (ap is_ok c.unwrap.ensures) c.push.ensures.items ∙ ap (λ (xs : List Entry). xs ++ e ∷ []) c.in_ok-take_room.ensures.items in
    let turn = handed_turn d c.self.invariant none p may c.unwrap-extension.result c.launch-live.result.net c.launch-live.result.live.dispatch c.args.by l.checked l.dispatch (subst (IsLast p.plan.extensions) c.unwrap-extension.ensures l.last) l.net in
    subst (λ (r : Recorded). Turn r.mission r.history c.args.by (handover p.mission p.plan.extensions) done c.push.new.self.items) c.self.view_is
    (subst (λ (hh : List Entry). Turn d.mission d.history.items c.args.by (handover p.mission p.plan.extensions) done hh) (sym items) turn)
