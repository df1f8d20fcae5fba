use Rattle.std.proofs.Common.{arith}
use Rattle.line_view.proofs.LineLemmas.{start_there}
use Rattle.line_view.proofs.current.start_of.Goals as goal

pub time-requires : goal.time-requires
time-requires c =
    let es = c.args.plan.now.plan.extensions in
    omega (arith, c.start-start.ensures.plan es c.index.ensures, c.requires.points, start_there es c.args.token.sv.0 c.args.token.place c.requires.within)
