use Rattle.std.proofs.Common.{◌∷◌, map, take}
use Rattle.sim_run.specs.Watches.{IsFirst}
use Rattle.sim_run.specs.declared.post.Post.{Post}
use Rattle.sim_run.proofs.watch.Watch.next_from.Given as goal

abbrev pub invariant-loop-post : goal.invariant-loop-post
invariant-loop-post l = IsFirst l.from (l.self.mark.0 ∷ map (λ (p : Post). p.end.0) (take l.post-index l.self.posts.items)) l.next
