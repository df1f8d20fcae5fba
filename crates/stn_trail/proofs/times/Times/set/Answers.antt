use Rattle.std.proofs.Common.{pos, arith, ◌≡◌, to_z, of_z, w64}
use Rattle.std.proofs.lemmas.List.{get_or_read}
use Rattle.std.proofs.lemmas.Int.{ints}
use Rattle.stn_trail.proofs.MoveLemmas.{KeepsPast-moved}
use Rattle.stn_trail.proofs.times.Times.set.Goals as goal

pub returns-clause-past : goal.returns-clause-past
returns-clause-past c =
    let held = c.args.self.now.moves.ok.0 in let sized = c.args.self.now.ticks.ok.0 in
    let read = get_or_read c.args.self.now.ticks.items c.args.point c.index-had.result.now (omega arith) c.index-had.ensures (pos 0) in
    let same : to_z w64 (of_z w64 c.index-had.result.now) ≡ c.index-had.result.now = omega (arith, ints) in
    rw c.in_ok-push.ensures.items (KeepsPast-moved _ _ _ _ _ (omega arith) (rw same read))
