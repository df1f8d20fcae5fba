use Rattle.text_laws.proofs.PieceLemmas.{cut_one}
use Rattle.text_laws.proofs.cutting.bytes_are_cut_one_way.Goals as goal

pub returns : goal.returns
returns c = cut_one
