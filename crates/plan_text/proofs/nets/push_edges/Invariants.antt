use Rattle.std.proofs.Common.{◌≡◌, ◌++◌, flat_map, take}
use Rattle.hs_texts.specs.NetText.{edge_line}
use Rattle.plan_text.proofs.nets.push_edges.Given as goal

abbrev pub invariant-loop-edge : goal.invariant-loop-edge
invariant-loop-edge l = l.text ≡ l.fn.text ++ flat_map (edge_line l.mission l.index.points) (take l.edge-index l.edges)
