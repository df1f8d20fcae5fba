use Rattle.std.proofs.Common.{arith, ap, sym, ◌∙◌, map}
use Rattle.std.proofs.lemmas.List.{length-map}
use Rattle.std.proofs.lemmas.Option.{slice_get-get_or}
use Rattle.hs_base.specs.Points.{ending, place_of, timeline_of}
use Rattle.hs_machine.specs.Views.{first_waiting}
use Rattle.dispatcher.specs.State.{time_in}
use Rattle.plan_index.specs.Contents.{Contents}
use Rattle.plan_index.specs.declared.placed.PlacedToken.{PlacedToken}
use Rattle.line_view.proofs.LineLemmas.{row_is, row_size, row_within, waits_within}
use Rattle.line_view.proofs.current.current_place.Goals as goal

pub first_waiting-requires : goal.first_waiting-requires
first_waiting-requires c k d below =
    let es = c.args.plan.now.plan.extensions in
    let v = c.args.sv.0 in
    let row = c.timeline.result.now in
    let kinds = c.timeline.ensures.kinds ∙ ap (λ (x : Contents). timeline_of x.tokens v) c.index.ensures in
    let within = row_within es v row kinds (λ i p at. ap (λ (x : Contents). place_of (ending v i) x.points) (sym c.index.ensures) ∙ c.timeline.ensures.ends i p at) k _ (slice_get-get_or row k d below) below in
    omega (arith, within, c.requires)

pub returns-clause-place : goal.returns-clause-place
returns-clause-place c =
    let es = c.args.plan.now.plan.extensions in
    let v = c.args.sv.0 in
    let row = c.timeline.result.now in
    let kinds = c.timeline.ensures.kinds ∙ ap (λ (x : Contents). timeline_of x.tokens v) c.index.ensures in
    c.first_waiting.ensures ∙ ap (first_waiting (time_in c.args.dispatch.now)) (row_is es v row kinds (λ i p at. ap (λ (x : Contents). place_of (ending v i) x.points) (sym c.index.ensures) ∙ c.timeline.ensures.ends i p at))

pub returns-clause-within : goal.returns-clause-within
returns-clause-within c =
    let es = c.args.plan.now.plan.extensions in
    let v = c.args.sv.0 in
    let row = c.timeline.result.now in
    let kinds = c.timeline.ensures.kinds ∙ ap (λ (x : Contents). timeline_of x.tokens v) c.index.ensures in
    let size = row_size es v row kinds (λ i p at. ap (λ (x : Contents). place_of (ending v i) x.points) (sym c.index.ensures) ∙ c.timeline.ensures.ends i p at) in
    omega (arith, c.first_waiting.ensures, waits_within (time_in c.args.dispatch.now) (map (λ (p : PlacedToken). p.end.0) row), length-map row (λ (p : PlacedToken). p.end.0), size)
