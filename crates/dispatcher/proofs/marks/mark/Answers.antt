use Rattle.std.proofs.Common.{◌≡◌, to_z, of_z, w64, All}
use Rattle.std.proofs.lemmas.Int.{to_z-of_z}
use Rattle.std.proofs.lemmas.Bool.{OnFalse_at}
use Rattle.std.proofs.lemmas.List.Elements.{All-contains}
use Rattle.dispatcher.specs.Marks.{AreSound, IsMet, leader_time}
use Rattle.dispatcher.proofs.marks.mark.Goals as goal

pub returns : goal.returns
returns c =
    let now : to_z w64 (of_z w64 c.args.now) ≡ c.args.now = to_z-of_z w64 c.args.now c.ranges.now in
    let time = leader_time c.args.windows.now c.args.places.now in
    let r = c.mark_turn.ensures in
    let marks = c.mark_turn.new.marks in
    let sound : AreSound c.args.edges.now time c.args.now marks = rw now at r.sound in
    let met : All (IsMet time c.args.now marks) c.args.edges.now = rw now at (OnFalse_at c.turns-test.false r.met) in
    record { sound = sound; all = λ e ie. All-contains (IsMet time c.args.now marks) c.args.edges.now e met ie }
