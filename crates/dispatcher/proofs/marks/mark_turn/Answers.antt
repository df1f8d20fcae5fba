use Rattle.std.proofs.Common.{◌≡◌, ◌<◌, ◌∙◌, sym, subst, to_z, of_z, w64, All}
use Rattle.std.proofs.lemmas.Int.{to_z-of_z}
use Rattle.std.proofs.lemmas.Bool.{OnTrue_at, OnFalse_at, OnTrue_from, OnFalse_from, both_ways}
use Rattle.std.proofs.lemmas.List.{take_all}
use Rattle.std.specs.List.{count_by}
use Rattle.std.specs.Option.{is_none}
use Rattle.dispatcher.specs.Marks.{IsMet, leader_time}
use Rattle.dispatcher.proofs.MarkedLemmas.{turn_new, turn_none}
use Rattle.dispatcher.proofs.marks.mark_turn.Goals.{then-mark_end, else-mark_end}
use Rattle.dispatcher.proofs.marks.mark_turn.Goals as goal

pub loop-i-preserved : goal.loop-i-preserved
loop-i-preserved c =
    let inv = c.loop-i.invariant in
    let r = c.mark_end.ensures in
    elim c.if-mark_end.branch [
      | then-mark_end w ↦ record {
        sound = r.sound;
        fewer = OnTrue_from _ _ (λ e. turn_new _ c.args.marks.now c.loop-i.marks c.mark_end.new.marks c.loop-i.more inv.fewer inv.met (OnTrue_at w.if-mark_end.true r.fewer));
        met = OnFalse_from _ _ (λ e. absurd (both_ways _ e w.more-is));
      }
      | else-mark_end w ↦
          let same = OnFalse_at w.if-mark_end.false r.kept in
          record {
            sound = r.sound;
            fewer = OnTrue_from _ _ (λ e. subst (λ m. count_by is_none m < count_by is_none c.args.marks.now) (sym same) (OnTrue_at (sym w.more-is ∙ e) inv.fewer));
            met = OnFalse_from _ _ (λ e. turn_none c.args.edges.now (leader_time c.args.windows.now c.args.places.now) _ c.loop-i.i c.args.marks.now c.loop-i.marks c.mark_end.new.marks c.loop-i-test.true same
                (OnFalse_at w.if-mark_end.false r.met) (OnFalse_at (sym w.more-is ∙ e) inv.met));
          }
    ]

pub returns-clause-met : goal.returns-clause-met
returns-clause-met c =
    let now : to_z w64 (of_z w64 c.args.now) ≡ c.args.now = to_z-of_z w64 c.args.now c.ranges.now in
    let time = leader_time c.args.windows.now c.args.places.now in
    OnFalse_from _ _ (λ e.
    let both = OnFalse_at e c.loop-i.invariant.met in
    subst (λ z. All (IsMet time z c.loop-i.marks) c.args.edges.now) now
    (subst (λ es. All (IsMet time (to_z w64 (of_z w64 c.args.now)) c.loop-i.marks) es) (take_all c.loop-i.i c.args.edges.now c.loop-i-test.false) both.1))
