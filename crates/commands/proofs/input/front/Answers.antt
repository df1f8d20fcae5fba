use Rattle.std.proofs.lemmas.Result.{err_from_is_err_and}
use Rattle.text_laws.proofs.WritableLemmas.{front_writable}
use Rattle.commands.proofs.InputLemmas.{no_front}
use Rattle.commands.proofs.input.front.Goals as goal

pub returns-in_err-mission : goal.returns-in_err-mission
returns-in_err-mission c =
    let p = err_from_is_err_and c.from_residual-in_err-mission.result c.from_residual-in_err-mission.ensures.1 in
    rw (p.1, p.2) (no_front c.args.text.now c.in_ok-ast.ast c.in_ok-ast.used c.in_err-mission.field-0.0 c.in_ok-ast.ensures c.in_err-mission.ensures.refused)

pub returns : goal.returns
returns c = record {
  ast = c.in_ok-ast.ast;
  spells = c.in_ok-ast.ensures;
  means = c.in_ok-mission.ensures.meant (front_writable c.args.text.now c.in_ok-ast.ast c.in_ok-ast.used c.in_ok-ast.ensures);
}
