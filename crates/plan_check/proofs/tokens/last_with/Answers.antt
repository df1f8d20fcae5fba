use Rattle.std.proofs.Common.{sym, ap, ◌∙◌}
use Rattle.plan_check.specs.Lines.{last_value}
use Rattle.plan_check.proofs.LineLemmas.{last_in_new, last_in_old, last_value-placed}
use Rattle.plan_check.proofs.tokens.last_with.Goals as goal

pub returns-in-Some : goal.returns-in-Some
returns-in-Some c = sym (last_in_new c.args.index.now.tokens c.args.new.now c.args.sv.0 c.in-Some.value (sym c.in-Some.ensures))

pub returns-in-Some-last : goal.returns-in-Some-last
returns-in-Some-last c =
    sym
    (last_in_old c.args.index.now.tokens c.args.new.now c.args.sv.0 (sym c.in_default.ensures)
    ∙ ap last_value (sym c.timeline.ensures.kinds)
    ∙ last_value-placed c.args.sv.0 c.timeline.result.now c.in-Some-last.token.now (sym c.in-Some-last.ensures.value))
