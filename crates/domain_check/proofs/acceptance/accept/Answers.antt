use Rattle.std.proofs.Common.{subst, sym, inl, inr}
use Rattle.std.proofs.lemmas.Result.{err_from_is_err_and}
use Rattle.hs_base.specs.declared.mission.Mission.{Mission}
use Rattle.hs_texts.specs.declared.refusal.Refusal.{Refusal}
use Rattle.hs_texts.specs.MissionMeaning.{Means}
use Rattle.domain_check.proofs.AcceptanceLemmas.{meant}
use Rattle.domain_check.proofs.RuleLemmas.{or_memory, not_meant}
use Rattle.domain_check.proofs.acceptance.accept.Goals as goal

pub returns-in_err-tables-clause-not_meant : goal.returns-in_err-tables-clause-not_meant
returns-in_err-tables-clause-not_meant c =
    let a = c.args.ast.now in
    let e = c.in_err-tables.field-0.0 in
    let p = err_from_is_err_and c.from_residual.result c.from_residual.ensures.1 in
    rw (p.1, p.2) (or_memory (λ (r : Refusal). (m : Mission) → Means a m → ⊥) e (elim c.in_err-tables.ensures.broken [
      | inl memory ↦ inl memory
      | inr first ↦ inr (λ m h. not_meant a e m first h)
    ]))

pub returns-clause-meant : goal.returns-clause-meant
returns-clause-meant c = λ w. subst (Means c.args.ast.now) (sym c.in_ok-grounded.ensures) (meant c.args.ast.now w c.in_ok-tables.ensures.0)
