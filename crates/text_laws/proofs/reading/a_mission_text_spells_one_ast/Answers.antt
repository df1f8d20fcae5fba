use Rattle.text_laws.proofs.RefusalLemmas.{spelled_one}
use Rattle.text_laws.proofs.reading.a_mission_text_spells_one_ast.Goals as goal

pub returns : goal.returns
returns c = spelled_one
