use Rattle.std.proofs.Common.{◌≡◌, length, None}
use Rattle.std.specs.List.{AllByRecursion}
use Rattle.sim_run.specs.declared.post.Post.{Post}
use Rattle.sim_run.proofs.watch.Watch.begin.Given as goal

abbrev pub invariant-loop-made : goal.invariant-loop-made
invariant-loop-made l = record {
  many : length l.posts.items ≡ l.made;
  none : AllByRecursion (λ (p : Post). p.script ≡ None) l.posts.items;
}
