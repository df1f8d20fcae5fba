use Rattle.text_laws.proofs.WritableLemmas.{spelled_writable}
use Rattle.text_laws.proofs.PrintedLemmas.{canonical_spells}
use Rattle.text_laws.proofs.writing.writable_missions_are_spelled.Goals as goal

pub returns : goal.returns
returns c = record { spelled = spelled_writable; written = canonical_spells }
