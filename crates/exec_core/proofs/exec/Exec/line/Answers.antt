use Rattle.std.proofs.Common.{arith}
use Rattle.line_view.specs.Lines.{line_seen}
use Rattle.exec_core.proofs.LineLemmas.{line_lawful}
use Rattle.exec_core.proofs.exec.Exec.line.Goals as goal

pub returns-in-Some-live : goal.returns-in-Some-live
returns-in-Some-live c =
    line_lawful c.self.inside c.self.invariant c.in-Some-live.flight c.in-Some-live.is c.args.self.now c.args.sv.0 (line_seen c.line_of.result) c.self.view_is c.in-None.ensures (omega (arith, c.if-sv-len.false, c.len.ensures)) c.line_of.ensures
