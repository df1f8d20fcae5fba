use Rattle.std.proofs.Common.{suc, ◌<◌, length, take, drop, ◌≡◌, ◌≢◌, ◌++◌, ◌∷◌, [], List, sym, ap, ◌∙◌, subst}
use Rattle.std.proofs.lemmas.List.Elements.{recursion_from_All}
use Rattle.std.specs.Prelude.{All, Some, slice_get}
use Rattle.hs_base.specs.declared.net.Bound.{Bound}
use Rattle.hs_base.specs.Cycles.{IsNegativeCycle}
use Rattle.hs_base.specs.Schedule.{MeetsList}
use Rattle.stn_distance.specs.Broken.{IfCycle}
use Rattle.stn_distance.specs.declared.broken.Broken.{Broken}
use Rattle.stn_distance.specs.Chains.{IsChain, against}
use Rattle.stn_distance.specs.Ranges.{IsInSearch}
use Rattle.stn_distance.proofs.PathLemmas.{chain_at, chain_forces, free_breaks, free_of, has_added, range_added}
use Rattle.stn_distance.proofs.chain.path.Goals as goal

pub solve_from-requires-clause-range : goal.solve_from-requires-clause-range
solve_from-requires-clause-range c =
    let b = c.args.bound in
    let bounds = c.args.bounds.now in
    let all : c.deref.result.now ≡ bounds ++ against b ∷ [] = c.deref.ensures.value ∙ c.in_ok-all.ensures ∙ ap (λ a. bounds ++ a ∷ []) c.against-added.ensures in
    subst (All (IsInSearch c.args.n)) (sym all) (range_added c.args.n bounds b c.requires.range c.requires.bound)

pub returns-in-Ok-clause-why : goal.returns-in-Ok-clause-why
returns-in-Ok-clause-why c =
    let b = c.args.bound in
    let bounds = c.args.bounds.now in
    let all : c.deref.result.now ≡ bounds ++ against b ∷ [] = c.deref.ensures.value ∙ c.in_ok-all.ensures ∙ ap (λ a. bounds ++ a ∷ []) c.against-added.ensures in
    free_of c.args.n bounds b c.in-Ok.times (subst (λ (l : List Bound). MeetsList c.args.n l c.in-Ok.times) all c.in-Ok.ensures.schedule)

pub returns-in-Ok-clause-forced : goal.returns-in-Ok-clause-forced
returns-in-Ok-clause-forced c =
    let b = c.args.bound in
    let bounds = c.args.bounds.now in
    let all : c.deref.result.now ≡ bounds ++ against b ∷ [] = c.deref.ensures.value ∙ c.in_ok-all.ensures ∙ ap (λ a. bounds ++ a ∷ []) c.against-added.ensures in
    free_breaks c.args.n bounds b c.in-Ok.times (free_of c.args.n bounds b c.in-Ok.times (subst (λ (l : List Bound). MeetsList c.args.n l c.in-Ok.times) all c.in-Ok.ensures.schedule))

pub unreachable-requires : goal.unreachable-requires
unreachable-requires c =
    let bounds = c.args.bounds.now in
    let a = c.against-added.result in
    let all : c.deref.result.now ≡ bounds ++ a ∷ [] = c.deref.ensures.value ∙ c.in_ok-all.ensures in
    let cycle = c.in-Err-Cycle.cycle in
    let found : IsNegativeCycle c.deref.result.now cycle = subst (λ (e : Broken). IfCycle e (IsNegativeCycle c.deref.result.now)) c.in-Err-Cycle.field-0-is c.in-Err-Cycle.ensures.cycle in
    let n : IsNegativeCycle (bounds ++ a ∷ []) cycle = subst (λ (l : List Bound). IsNegativeCycle l cycle) all found in
    let none : All (λ x. x ≢ a) cycle = subst (All (λ x. x ≢ a)) c.as_slice.ensures c.in_default.ensures in
    has_added bounds a c.requires.some.0 c.requires.some.1 cycle n (recursion_from_All (λ x. x ≢ a) cycle none)

pub opened-requires : goal.opened-requires
opened-requires c = subst (λ (l : List Bound). c.in-Some.place < length l) (c.as_slice.ensures ∙ sym c.as_slice-in-Err-Cycle.ensures) c.in-Some.ensures.0

pub returns-in-Err-Cycle-clause-why : goal.returns-in-Err-Cycle-clause-why
returns-in-Err-Cycle-clause-why c =
    let b = c.args.bound in
    let bounds = c.args.bounds.now in
    let all : c.deref.result.now ≡ bounds ++ against b ∷ [] = c.deref.ensures.value ∙ c.in_ok-all.ensures ∙ ap (λ a. bounds ++ a ∷ []) c.against-added.ensures in
    let cycle = c.in-Err-Cycle.cycle in
    let found : IsNegativeCycle c.deref.result.now cycle = subst (λ (e : Broken). IfCycle e (IsNegativeCycle c.deref.result.now)) c.in-Err-Cycle.field-0-is c.in-Err-Cycle.ensures.cycle in
    let n : IsNegativeCycle (bounds ++ against b ∷ []) cycle = subst (λ (l : List Bound). IsNegativeCycle l cycle) all found in
    let here : slice_get cycle c.in-Some.place ≡ Some (against b) = ap (λ (l : List Bound). slice_get l c.in-Some.place) (sym c.as_slice.ensures) ∙ c.in-Some.ensures.1 ∙ ap Some c.against-added.ensures in
    let is = c.in_ok-opened-in-Err-Cycle.ensures ∙ ap (λ (l : List Bound). drop (suc c.in-Some.place) l ++ take c.in-Some.place l) c.as_slice-in-Err-Cycle.ensures in
    subst (IsChain bounds b) (sym is) (chain_at bounds b cycle c.in-Some.place n here)

pub returns-in-Err-Cycle-clause-forced : goal.returns-in-Err-Cycle-clause-forced
returns-in-Err-Cycle-clause-forced c = chain_forces c.args.bounds.now c.args.bound c.in_ok-opened-in-Err-Cycle.field-0 (returns-in-Err-Cycle-clause-why c)
