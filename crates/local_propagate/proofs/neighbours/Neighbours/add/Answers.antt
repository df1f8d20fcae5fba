use Rattle.std.proofs.Common.{◌≡◌, ap, map, length, arith}
use Rattle.std.proofs.lemmas.List.{length-map}
use Rattle.local_propagate.proofs.NeighbourLemmas.{items_pushed}
use Rattle.local_propagate.proofs.neighbours.Neighbours.add.Goals as goal

pub returns-clause-ok : goal.returns-clause-ok
returns-clause-ok c =
    let lists = c.self.inside.lists.items in
    let view : map (λ l. l.items) lists ≡ c.args.self.now = c.self.view_is in
    let long = ap length view in
    rw (← view) (items_pushed lists c.args.group c.index_mut.result.now c.push.new.self c.args.neighbour (omega (arith, length-map lists (λ l. l.items))) c.index_mut.ensures.value c.in_ok-push.ensures.ok)
