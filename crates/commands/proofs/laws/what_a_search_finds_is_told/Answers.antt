use Rattle.commands.specs.Plans.{IsNetText, IsPlanText}
use Rattle.commands.proofs.SearchLemmas.{searched}
use Rattle.commands.proofs.laws.what_a_search_finds_is_told.Goals as goal

pub returns : goal.returns
returns c = record { plans = searched IsPlanText; nets = searched IsNetText }
