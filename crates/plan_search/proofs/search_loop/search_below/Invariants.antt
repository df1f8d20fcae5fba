use Rattle.std.proofs.Common.{◌*◌, ◌+◌, ◌-◌, ◌≡◌, ◌≤◌, length}
use Rattle.plan_search.specs.Searched.{IsSearched}
use Rattle.plan_search.proofs.search_loop.search_below.Given as goal

abbrev pub invariant-nodes : goal.invariant-nodes
invariant-nodes g l = record {
  mission : l.db.mission ≡ l.fn.db.mission;
  begun : l.db.begun ≡ l.fn.db.begun;
  same : l.filter ≡ l.fn.filter;
  searched : IsSearched (g.F.Filter.test l.fn.filter) l.fn.db.mission l.fn.db.begun l.db.parts l.frames l.taken;
  steps : l.steps + 1 ≡ l.fn.steps + l.taken;
  within : l.taken ≤ l.budget;
}

abbrev pub decreases-nodes : goal.decreases-nodes
decreases-nodes g l = 2 * (l.budget - l.taken) + length l.frames
