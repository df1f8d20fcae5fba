use Rattle.std.proofs.Common.{inr}
use Rattle.std.proofs.lemmas.Result.{err_from_is_err_and}
use Rattle.hs_texts.specs.MissionSpelling.{IsMissionRefusal, IsRefusalOf}
use Rattle.text_laws.proofs.WritableLemmas.{spelled_writable}
use Rattle.commands.proofs.InputLemmas.{wider}
use Rattle.commands.proofs.input.whole.Goals as goal

pub returns-in_err-mission : goal.returns-in_err-mission
returns-in_err-mission c =
    let p = err_from_is_err_and c.from_residual-in_err-mission.result c.from_residual-in_err-mission.ensures.1 in
    let a = c.in_ok-ast.ast in
    rw (p.1, p.2) (wider (IsMissionRefusal a) (IsRefusalOf c.args.text.now) (λ q k. inr (a, c.in_ok-ast.ensures, k)) c.in_err-mission.field-0.0 c.in_err-mission.ensures.refused)

pub returns : goal.returns
returns c = record {
  ast = c.in_ok-ast.ast;
  spells = c.in_ok-ast.ensures;
  means = c.in_ok-mission.ensures.meant (spelled_writable c.args.text.now c.in_ok-ast.ast c.in_ok-ast.ensures);
}
