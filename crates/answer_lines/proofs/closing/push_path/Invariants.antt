use Rattle.std.proofs.Common.{◌≡◌, ◌++◌, flat_map, take, codes}
use Rattle.std.specs.Fmt.{decimal}
use Rattle.answer_lines.proofs.closing.push_path.Given as goal

abbrev pub invariant-loop-child : goal.invariant-loop-child
invariant-loop-child l = l.text ≡ l.fn.text ++ flat_map (λ child. codes " " ++ decimal child) (take l.child-index l.path)
