use Rattle.simulation_laws.proofs.NextLemmas.{line_stays}
use Rattle.simulation_laws.proofs.lines.a_line_stays_while_its_end_is_open.Goals as goal

pub returns : goal.returns
returns c = λ m h e v adds no_plan other. line_stays m h e v adds no_plan other
