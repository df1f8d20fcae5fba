use Rattle.line_view.proofs.CurrentLemmas.{has_current}
use Rattle.line_view.proofs.laws.each_timeline_has_a_current_token.Goals as goal

pub returns : goal.returns
returns c = λ m h v run is var. has_current m h v run is var
