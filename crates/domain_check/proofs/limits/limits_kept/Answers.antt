use Rattle.std.proofs.Common.{length}
use Rattle.std.specs.Prelude.{nat_le}
use Rattle.std.specs.List.{list_all}
use Rattle.hs_base.specs.declared.limits.TheConstants.{SCRIPT_STEPS, ANSWER_CLAUSES}
use Rattle.hs_texts.specs.declared.ast.AstValue.{AstValue}
use Rattle.hs_texts.specs.declared.ast.AstVar.{AstVar}
use Rattle.domain_check.specs.Tables.{is_short}
use Rattle.domain_check.proofs.EachLemmas.{list_all-flat_map}
use Rattle.domain_check.proofs.limits.limits_kept.Goals as goal

pub returns : goal.returns
returns c =
    let vars = c.args.ast.now.vars in
    cc (
      list_all-flat_map (λ (v : AstValue). nat_le (length v.script) SCRIPT_STEPS) (λ (var : AstVar). var.values) vars,
      list_all-flat_map (λ (v : AstValue). nat_le (length v.answers) ANSWER_CLAUSES) (λ (var : AstVar). var.values) vars,
      list_all-flat_map (λ (v : AstValue). list_all is_short v.answers) (λ (var : AstVar). var.values) vars,
    )
