-- The last state keeps the rule, and the seat's view is that of the pass.
use Rattle.std.proofs.Common.{◌≡◌, ◌≤◌, ◌%◌, ◌^◌, false, sym, ap, ◌∙◌, subst}
use Rattle.exec_lock.specs.declared.view.SeatView.{SeatView}
use Rattle.exec_lock.specs.declared.view.View.{View}
use Rattle.exec_lock.specs.PassFields.{only_seat}
use Rattle.exec_lock.specs.Passes.{size}
use Rattle.exec_lock.specs.Shares.{Ends, core_shared}
use Rattle.exec_lock.proofs.EndLemmas.{closes, size_at_end, small_mod, away_left}
use Rattle.exec_lock.proofs.shared.Shared.close.Goals as goal

pub returns-then-answered-clause-ok : goal.returns-then-answered-clause-ok
returns-then-answered-clause-ok g c =
    let begun = core_shared c.args.self in
    let last = c.close_with-closed.ensures.values.2 in
    let seat : only_seat c.pass.inside.badge.views ≡ c.seat_of-seat.result.me.0 = ap only_seat c.seat_of-seat.ensures.seat.0 in
    let same : c.seat_of-seat.result.me.0.view ≡ c.args.pass.view = ap (λ (s : SeatView). s.view) (sym seat) ∙ ap (λ h. h.view) c.pass.view_is in
    let idle : c.seat_of-seat.result.me.0.holds ≡ false = ap (λ (s : SeatView). s.holds) (sym seat) ∙ c.pass.invariant.idle in
    let least = size_at_end g.X.Core.opening g.X.Core.history begun _ _ _ _ last in
    let all : size c.seat_of-seat.result.me.0.view ≡ 4294967295 =
    small_mod _ _ least (ap (λ (s : SeatView). size s.view % 2 ^ 32) (sym seat) ∙ sym c.pass.invariant.answered) ∙ c.if-answered.true in (
      ap size (sym same) ∙ all,
      subst (λ (v : View). Ends g.X.Core.opening g.X.Core.history begun v c.take-core.result) same (closes g.X.Core.opening g.X.Core.history begun _ _ _ _ _ last idle all c.take-core.ensures.value),
    )

pub returns-clause-err : goal.returns-clause-err
returns-clause-err g c =
    let last = c.close_with-closed.ensures.values.2 in
    let seat : only_seat c.pass.inside.badge.views ≡ c.seat_of-seat.result.me.0 = ap only_seat c.seat_of-seat.ensures.seat.0 in
    let same : c.seat_of-seat.result.me.0.view ≡ c.args.pass.view = ap (λ (s : SeatView). s.view) (sym seat) ∙ ap (λ h. h.view) c.pass.view_is in
    let least : size c.args.pass.view ≤ 4294967295 = subst (λ (v : View). size v ≤ 4294967295) same (size_at_end g.X.Core.opening g.X.Core.history (core_shared c.args.self) _ _ _ _ last) in
    let all : size c.args.pass.view ≡ c.pass.inside.answered =
    small_mod _ _ least (ap (λ (v : View). size v % 2 ^ 32) (sym (ap (λ h. h.view) c.pass.view_is)) ∙ sym c.pass.invariant.answered) in
    away_left _ _ least all c.if-answered.false
