use Rattle.std.proofs.Common.{arith}
use Rattle.std.proofs.lemmas.List.{take_rest, length-drop}
use Rattle.exec_main.proofs.FrontLemmas.{appends-take}
use Rattle.exec_main.proofs.streams.write_whole.Goals as goal

pub pieces-preserved : goal.pieces-preserved
pieces-preserved g c = record {
  within = omega (arith, simp (take_rest, length-drop) at c.in_ok-at.ensures.bound);
  later = omega (arith, c.in_ok-at.ensures.cause.later);
  taken = appends-take _ _ _ _ _ _ c.pieces.invariant.taken (rw take_rest at c.in_ok-at.ensures.bytes);
}
