use Rattle.text_laws.proofs.MissionLemmas.{mission_reads}
use Rattle.text_laws.proofs.reading.missions_are_read.Goals as goal

pub returns : goal.returns
returns c = mission_reads
