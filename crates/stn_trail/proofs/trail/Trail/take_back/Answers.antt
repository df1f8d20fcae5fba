use Rattle.std.proofs.Common.{◌∙◌, ap, subst, List, [], take, ◌-◌, length, arith}
use Rattle.std.proofs.lemmas.List.{get_or_read}
use Rattle.hs_base.specs.declared.net.Bound.{Bound}
use Rattle.stn_trail.specs.declared.part.Step.{Step}
use Rattle.stn_trail.specs.History.{IsTrail}
use Rattle.stn_trail.proofs.HistoryLemmas.{IsHistory-back}
use Rattle.stn_trail.proofs.TrailLemmas.{end_below, IsTrail-back_grown, IsTrail-back_added}
use Rattle.stn_trail.proofs.trail.Trail.take_back.Goals as goal

pub rewind-requires : goal.rewind-requires
rewind-requires c =
    let t = c.self.inside in let held = t.times.moves.ok.0 in
    let h = subst (λ (ss : List Step). IsTrail t.first t.count ss t.rows.items t.times.moves.items t.times.ticks.items) c.in-Some.ensures.items c.self.invariant in
    let since = (IsHistory-back t.first c.pop.new.self.items c.in-Some.step t.times.moves.items t.times.ticks.items h.history).0 in omega arith

pub invariant_of-self : goal.invariant_of-self
invariant_of-self c =
    let t = c.self.inside in
    let h = subst (λ (ss : List Step). IsTrail t.first t.count ss t.rows.items t.times.moves.items t.times.ticks.items) c.in-Some.ensures.items c.self.invariant in
    rw (c.rewind.ensures.moves, c.rewind.ensures.now) (IsTrail-back_grown t.first t.count c.pop.new.self.items t.rows.items t.times.moves.items t.times.ticks.items c.in-Some.step h c.in-Grown.is)

pub index_mut-requires : goal.index_mut-requires
index_mut-requires c =
    let t = c.self.inside in let held = t.rows.ok.0 in
    let h = subst (λ (ss : List Step). IsTrail t.first t.count ss t.rows.items t.times.moves.items t.times.ticks.items) c.in-Some.ensures.items c.self.invariant in
    let l = end_below t.first t.count c.pop.new.self.items t.rows.items t.times.moves.items t.times.ticks.items c.in-Some.step c.in-Added.bound h c.in-Added.is in omega arith

pub invariant_of-self-in-Added : goal.invariant_of-self-in-Added
invariant_of-self-in-Added c =
    let t = c.self.inside in
    let h = subst (λ (ss : List Step). IsTrail t.first t.count ss t.rows.items t.times.moves.items t.times.ticks.items) c.in-Some.ensures.items c.self.invariant in
    let l = end_below t.first t.count c.pop.new.self.items t.rows.items t.times.moves.items t.times.ticks.items c.in-Some.step c.in-Added.bound h c.in-Added.is in
    let row = c.pop-in-Added.ensures ∙ ap (λ (xs : List Bound). take (length xs - 1) xs) (get_or_read t.rows.items c.in-Added.bound.to.0 c.index_mut.result.now l c.index_mut.ensures.value []) in
    rw (row, c.rewind.ensures.moves, c.rewind.ensures.now) (IsTrail-back_added t.first t.count c.pop.new.self.items t.rows.items t.times.moves.items t.times.ticks.items c.in-Some.step c.in-Added.bound h c.in-Added.is)
