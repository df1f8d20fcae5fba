use Rattle.std.proofs.Common.{refl, arith, sym, ap, ◌∙◌, get_or, reverse, drop, length, ◌≡◌, ◌<◌, ◌++◌, ◌∷◌, []}
use Rattle.std.proofs.lemmas.List.{get_or_read}
use Rattle.std.proofs.lemmas.Grind.{common_steps}
use Rattle.stn_distance.specs.Causes.{bound_at, no_bound}
use Rattle.stn_distance.proofs.TraceLemmas.{OnPath-more, IsRound-closed}
use Rattle.stn_distance.proofs.trace.trace.Goals as goal

pub back-preserved : goal.back-preserved
back-preserved c =
    let h = c.back.invariant in let len = h.places_len in let inside = h.at_in in
    let bounds = c.args.bounds.now in let causes = c.args.causes.now in
    let free : get_or c.back.places.items c.back.at 0 ≡ c.args.count =
    sym (get_or_read c.back.places.items c.back.at _ (omega arith) c.index.ensures 0) ∙ c.back-test.true in
    let size : c.len.result ≡ length c.back.path.items = grind (arith, common_steps) in
    let pushed : c.push.new.self.items ≡ c.back.path.items ++ bound_at bounds (get_or causes c.back.at 0) ∷ [] = c.in_ok-push.ensures.items in
    let caused : get_or causes c.back.at 0 < length bounds = omega arith in
    rw (size, pushed) (OnPath-more c.args.count bounds causes c.args.start c.back.places.items c.back.path.items c.back.at (bound_at bounds (get_or causes c.back.at 0))
    h c.requires.ends free caused refl (c.requires.range (get_or causes c.back.at 0) no_bound caused).from_below)

pub turned-requires : goal.turned-requires
turned-requires c =
    let h = c.back.invariant in let len = h.places_len in let inside = h.at_in in
    let read = get_or_read c.back.places.items c.back.at _ (omega arith) c.index.ensures 0 in
    let read2 = get_or_read c.back.places.items c.back.at _ (omega arith) c.index-2.ensures 0 in
    let m = (h.marked c.back.at inside (λ e. c.back-test.false (read ∙ e))).0 in
    let d = ap (length {A = _}) c.deref.ensures.value in
    omega arith

pub returns-clause-round : goal.returns-clause-round
returns-clause-round c =
    let h = c.back.invariant in let len = h.places_len in let inside = h.at_in in
    let read = get_or_read c.back.places.items c.back.at _ (omega arith) c.index.ensures 0 in
    let read2 = get_or_read c.back.places.items c.back.at _ (omega arith) c.index-2.ensures 0 in
    let is : c.in_ok-round.round.items ≡ reverse (drop (get_or c.back.places.items c.back.at 0) c.back.path.items) =
    c.in_ok-round.ensures ∙ ap (λ xs. reverse (drop c.index-2.result.now xs)) c.deref.ensures.value ∙ ap (λ k. reverse (drop k c.back.path.items)) read2 in
    rw is (IsRound-closed c.args.count c.args.bounds.now c.args.causes.now c.args.start c.back.places.items c.back.path.items c.back.at h (λ e. c.back-test.false (read ∙ e)))
