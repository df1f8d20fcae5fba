use Rattle.std.proofs.Common.{◌≡◌, ◌++◌, flat_map, take}
use Rattle.hs_texts.specs.Written.{fix_line}
use Rattle.plan_text.proofs.body.push_fixed.Given as goal

abbrev pub invariant-loop-time : goal.invariant-loop-time
invariant-loop-time l = l.text ≡ l.fn.text ++ flat_map (fix_line l.mission l.index.points) (take l.time-index l.fixed)
