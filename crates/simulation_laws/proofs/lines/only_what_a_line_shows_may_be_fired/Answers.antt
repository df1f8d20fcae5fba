use Rattle.simulation_laws.proofs.NextLemmas.{next_shown}
use Rattle.simulation_laws.proofs.lines.only_what_a_line_shows_may_be_fired.Goals as goal

pub returns : goal.returns
returns c = λ m h x run lawful. next_shown m h run x lawful
