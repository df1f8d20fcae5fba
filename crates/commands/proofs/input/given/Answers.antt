use Rattle.std.proofs.Common.{ℕ, List, subst, inl, inr}
use Rattle.std.proofs.lemmas.Result.{err_from_is_err_and}
use Rattle.hs_texts.specs.Pieces.{IsCutRefusal}
use Rattle.text_laws.specs.Refused.{OrMemory}
use Rattle.text_laws.proofs.RefusalLemmas.{text_or_refused}
use Rattle.hs_texts.specs.PlanSpelling.{IsPlanRefusal}
use Rattle.commands.specs.Inputs.{IsFrontRefusalOf, IsGivenRefusal}
use Rattle.commands.proofs.InputLemmas.{wider}
use Rattle.commands.proofs.input.given.Goals as goal

pub returns-in_err-mission : goal.returns-in_err-mission
returns-in_err-mission c =
    let p = err_from_is_err_and c.from_residual.result c.from_residual.ensures.1 in
    rw (p.1, p.2) (wider (IsFrontRefusalOf c.args.text.now) (IsGivenRefusal c.args.text.now) (λ q k. inl k) c.in_err-mission.field-0.0 c.in_err-mission.ensures)

pub returns-in_err-pieces : goal.returns-in_err-pieces
returns-in_err-pieces c =
    let p = err_from_is_err_and c.from_residual-in_err-pieces.result c.from_residual-in_err-pieces.ensures.1 in
    let front = c.in_ok-mission.ensures.spells in
    rw (p.1, p.2) (wider (IsCutRefusal c.args.text.now) (IsGivenRefusal c.args.text.now) (λ q k. absurd (text_or_refused c.args.text.now front.pieces q front.text k)) c.in_err-pieces.field-0.0 c.in_err-pieces.ensures)

pub returns-in_err-plan : goal.returns-in_err-plan
returns-in_err-plan c =
    let p = err_from_is_err_and c.from_residual-in_err-plan.result c.from_residual-in_err-plan.ensures.1 in
    let m = c.in_ok-mission.mission in
    let used = c.in_ok-mission.used in
    let refused : OrMemory (IsPlanRefusal m c.args.text.now used) c.in_err-plan.field-0.0 = subst (λ (bytes : List ℕ). OrMemory (IsPlanRefusal m bytes used) c.in_err-plan.field-0.0) c.in_ok-pieces.ensures.0 c.in_err-plan.ensures in
    rw (p.1, p.2) (wider (IsPlanRefusal m c.args.text.now used) (IsGivenRefusal c.args.text.now) (λ q k. inr (record { mission = m; used = used; front = c.in_ok-mission.ensures; plan = k })) c.in_err-plan.field-0.0 refused)
