-- The fields are those of the merged seat.
use Rattle.std.proofs.Common.{◌≡◌, ℕ, ◌%◌, ◌^◌, [], ◌∷◌, sym, ap, ◌∙◌}
use Rattle.exec_lock.specs.declared.view.SeatView.{SeatView}
use Rattle.exec_lock.specs.PassFields.{only_seat}
use Rattle.exec_lock.specs.Passes.{size}
use Rattle.exec_lock.specs.Rule.{seats_merged}
use Rattle.exec_lock.proofs.CountLemmas.{size-merged}
use Rattle.exec_lock.proofs.EndLemmas.{mod-add}
use Rattle.exec_lock.proofs.shared.Shared.join.Goals as goal

pub invariant_of-pass : goal.invariant_of-pass
invariant_of-pass g c =
    let ours : SeatView = only_seat c.pass.inside.badge.views in
    let theirs : SeatView = only_seat c.other.inside.badge.views in
    let ours_is : c.seat_of-seat.result.me.0 ≡ ours = sym (ap only_seat c.seat_of-seat.ensures.seat.0) in
    let theirs_is : c.seat_of-theirs.result.me.0 ≡ theirs = sym (ap only_seat c.seat_of-theirs.ensures.seat.0) in
    let now : only_seat c.into_badge.result.views ≡ seats_merged ours theirs =
    ap only_seat c.into_badge.ensures.2 ∙ (ap (λ m. m.0) c.merge.ensures.merged ∙ λ i. seats_merged (ours_is i) (theirs_is i)) in
    record {
      one = c.into_badge.ensures.2 ∙ ap (λ s. s ∷ []) (sym (ap only_seat c.into_badge.ensures.2));
      first = ap (λ (s : SeatView). s.view.first) now ∙ c.pass.invariant.first;
      count = ap (λ (s : SeatView). s.view.count) now ∙ c.pass.invariant.count;
      some_number = c.pass.invariant.some_number;
      inside = c.pass.invariant.inside;
      answered = mod-add _ _ (size ours.view) (size theirs.view) c.pass.invariant.answered c.other.invariant.answered
          ∙ ap (λ (k : ℕ). k % 2 ^ 32) (sym (size-merged ours.view theirs.view) ∙ sym (ap (λ (s : SeatView). size s.view) now));
      idle = ap (λ (s : SeatView). s.holds) now ∙ c.pass.invariant.idle;
    }
