use Rattle.exec_core.proofs.LineLemmas.{own_seen}
use Rattle.exec_core.proofs.exec.Exec.is_own.Goals as goal

pub returns-in-Some : goal.returns-in-Some
returns-in-Some c =
    let same = own_seen c.self.inside c.self.invariant c.in-Some.flight c.in-Some.is c.args.self.now c.args.point.0 c.self.view_is in
    (λ yes_. same.0 (c.is_own.ensures.0 yes_), λ own. c.is_own.ensures.1 (same.1 own))
