use Rattle.std.proofs.Common.{◌∙◌, sym, subst, true, false}
use Rattle.std.proofs.lemmas.Bool.{OnFalse_at, OnFalse_from, OnTrue_at, OnTrue_from}
use Rattle.sim_run.specs.Told.{known}
use Rattle.sim_run.specs.Parts.{IsScriptOf}
use Rattle.sim_run.proofs.LookLemmas.{looks_begun, looks_broken, looks_own, looks_running, no_script, some_script}
use Rattle.hs_base.specs.Points.{value_of}
use Rattle.sim_run.proofs.attending.attend.Goals as goal

pub returns-then-is_some-clause-goes_on : goal.returns-then-is_some-clause-goes_on
returns-then-is_some-clause-goes_on g c =
    let script = some_script c.args.post.now.script (sym c.is_some.ensures ∙ c.if-is_some.true) in
    looks_running c.args.exec.now c.requires.1.0 c.args.sv c.requires.1.1.0 g.before (known g.D.Device.polls g.D.Device.faults c.args.device.now) c.args.post.now c.requires.1.1.1 script.0 script.1

pub returns-in_default-clause-goes_on : goal.returns-in_default-clause-goes_on
returns-in_default-clause-goes_on g c =
    let none = no_script c.args.post.now.script (sym c.is_some.ensures ∙ c.if-is_some.false) in
    looks_own c.args.exec.now c.requires.1.0 c.args.sv c.requires.1.1.0 g.before (known g.D.Device.polls g.D.Device.faults c.args.device.now) c.args.post.now c.requires.1.1.1 none c.line_at-line.result c.line_at-line.ensures
    (subst (IsScriptOf (value_of c.args.exec.now.mission (record { sv = c.args.sv; value = c.line_at-line.result.value }))) c.in_default.is c.in_ok-script.ensures)

pub returns-clause-goes_on : goal.returns-clause-goes_on
returns-clause-goes_on g c = OnTrue_from c.begin-goes_on.result _ (λ yes_.
    let none = no_script c.args.post.now.script (sym c.is_some.ensures ∙ c.if-is_some.false) in
    let b = OnTrue_at yes_ c.begin-goes_on.ensures.began in
    let now = known g.D.Device.polls g.D.Device.faults c.begin-goes_on.new.device in
    rw (b.0) (looks_begun c.args.exec.now c.requires.1.0 c.args.sv c.requires.1.1.0 g.before (known g.D.Device.polls g.D.Device.faults c.args.device.now) c.args.post.now c.requires.1.1.1 none c.line_at-line.result c.line_at-line.ensures
    now c.in-Some.script c.begin-goes_on.new.script
    (subst (IsScriptOf (value_of c.args.exec.now.mission (record { sv = c.args.sv; value = c.line_at-line.result.value }))) c.in-Some.is c.in_ok-script.ensures)
    c.begin-goes_on.ensures.left b.1))

pub returns-clause-ended : goal.returns-clause-ended
returns-clause-ended g c = OnFalse_from c.begin-goes_on.result _ (λ no_.
    let none = no_script c.args.post.now.script (sym c.is_some.ensures ∙ c.if-is_some.false) in
    let b = OnFalse_at no_ c.begin-goes_on.ensures.broken in
    looks_broken c.args.exec.now c.requires.1.0 c.args.sv c.requires.1.1.0 g.before (known g.D.Device.polls g.D.Device.faults c.args.device.now) c.args.post.now c.requires.1.1.1
    c.begin-goes_on.new.exec (known g.D.Device.polls g.D.Device.faults c.begin-goes_on.new.device) b.1 b.0 (OnFalse_at no_ c.begin-goes_on.ensures.lawful))
