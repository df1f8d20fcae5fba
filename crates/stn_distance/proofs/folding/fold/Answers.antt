use Rattle.std.proofs.Common.{sym, arith}
use Rattle.stn_distance.proofs.FoldingLemmas.{folded_bounds-more}
use Rattle.stn_distance.proofs.folding.fold.Goals as goal

pub loop-bound-preserved : goal.loop-bound-preserved
loop-bound-preserved c =
    rw (c.in_ok-push_apart.ensures, c.fold_bound.ensures, c.loop-bound.invariant)
    (sym (folded_bounds-more c.args.folding.now.places.items c.args.folding.now.offsets.items c.args.bounds.now c.loop-bound.bound-index (omega arith)))
