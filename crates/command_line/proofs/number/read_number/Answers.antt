use Rattle.std.proofs.Common.{◌∙◌, rules}
use Rattle.command_line.proofs.NumberLemmas.{parse_numeral}
use Rattle.command_line.proofs.number.read_number.Goals as goal

pub returns : goal.returns
returns c = c.ok.ensures.value ∙ parse_numeral c.args.text.now _ (search rules) c.parse.ensures.value.0
