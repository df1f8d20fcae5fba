use Rattle.std.proofs.Common.{◌≡◌, ℕ, ◌+◌, ◌∷◌, ◌++◌, List, [], map, take, get_or, sym, ap, ◌∙◌, subst, arith}
use Rattle.std.proofs.lemmas.List.{map-append, take_more}
use Rattle.sim_run.specs.Watches.{IsFirst}
use Rattle.sim_run.specs.declared.post.Post.{Post}
use Rattle.sim_run.proofs.watch.Watch.next_from.Goals as goal

pub loop-post-init : goal.loop-post-init
loop-post-init c = c.lesser-next.ensures.first [] (record { behind = tt; low = λ p e. absurd (cc) })

pub loop-post-preserved : goal.loop-post-preserved
loop-post-preserved c =
    let end : Post → ℕ = λ (p : Post). p.end.0 in
    let posts = c.args.self.now.posts.items in
    let i = c.loop-post.post-index in
    let front : List ℕ = c.args.self.now.mark.0 ∷ map end (take i posts) in
    let one : map end (take (i + 1) posts) ≡ map end (take i posts) ++ c.post-item.result.end.0 ∷ [] =
    ap (map end) (take_more posts i c.post-item.result (omega (arith, c.loop-post-test.true, c.as_slice-post-items.ensures.len))) ∙ map-append end (take i posts) (get_or posts i c.post-item.result ∷ []) ∙ ap (λ (p : Post). map end (take i posts) ++ p.end.0 ∷ []) (sym (c.post-item.is ∙ ap (λ (l : List Post). get_or l i c.post-item.result) c.as_slice-post-items.ensures.value)) in
    subst (λ (l : List ℕ). IsFirst c.args.from (c.args.self.now.mark.0 ∷ l) c.lesser-next-in-loop-post.result) (sym one) (c.lesser-next-in-loop-post.ensures.first front c.loop-post.invariant)
