use Rattle.search_tree.proofs.PartLemmas.{adds_part}
use Rattle.search_tree.proofs.RangeLemmas.{part_fit}
use Rattle.search_tree.proofs.SoundLemmas.{sound_part}
use Rattle.search_tree.proofs.UndoLemmas.{undo_done}
use Rattle.search_tree.proofs.laws.a_part_is_done_and_taken_back.Goals as goal

pub returns : goal.returns
returns c = record {
  sound = λ m b p x sound may. sound_part m b p sound x may;
  adds = λ m b p x mission may. adds_part m mission b p x may;
  fit = λ m b p x mission since sound may. part_fit m mission b since p sound x may;
  back = λ m b p x may. undo_done m b p x may;
}
