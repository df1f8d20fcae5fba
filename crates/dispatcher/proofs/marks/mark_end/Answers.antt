use Rattle.std.proofs.Common.{◌≡◌, get_or, pos, to_z, of_z, w64, length}
use Rattle.std.specs.Prelude.{Contains}
use Rattle.std.proofs.lemmas.Int.{to_z-of_z}
use Rattle.std.proofs.lemmas.List.Elements.{Contains-get_or, All-contains}
use Rattle.hs_base.specs.declared.net.Bound.{Bound}
use Rattle.hs_base.specs.Schedule.{bound}
use Rattle.dispatcher.specs.Marks.{IsEdge, holder, leader_time}
use Rattle.dispatcher.proofs.MarkedLemmas.{sound_set}
use Rattle.dispatcher.proofs.marks.mark_end.Goals as goal

pub returns-clause-sound : goal.returns-clause-sound
returns-clause-sound c =
    let edges = c.args.edges.now in
    let time = leader_time c.args.windows.now c.args.places.now in
    let same : to_z w64 (of_z w64 c.args.now) ≡ c.args.now = to_z-of_z w64 c.args.now c.ranges.now in
    let e : Bound = get_or edges c.args.i (bound 0 0 (pos 0)) in
    let ie : Contains edges e = Contains-get_or edges c.args.i (bound 0 0 (pos 0)) c.requires.i_in in
    let is : c.holder-held.result ≡ holder time c.args.now c.args.marks.now e = rw same at c.holder-held.ensures in
    sound_set edges time c.args.now c.args.marks.now e c.holder-held.result (All-contains (IsEdge (length c.args.marks.now)) edges e c.requires.edges ie).to c.requires.sound ie is
