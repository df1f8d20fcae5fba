use Rattle.std.proofs.Common.{◌≡◌, flat_map, drop}
use Rattle.hs_texts.specs.MissionMeaning.{first_seen, words_of_value}
use Rattle.domain_check.specs.Tables.{names_in}
use Rattle.hs_texts.specs.declared.ast.AstVar.{AstVar}
use Rattle.domain_check.proofs.words.add_vars.Given as goal

abbrev pub invariant-loop-var : goal.invariant-loop-var
invariant-loop-var l = first_seen (names_in l.words) (flat_map (λ (var : AstVar). flat_map words_of_value var.values) (drop l.var-index l.vars)) ≡ first_seen (names_in l.fn.words) (flat_map (λ (var : AstVar). flat_map words_of_value var.values) l.vars)
