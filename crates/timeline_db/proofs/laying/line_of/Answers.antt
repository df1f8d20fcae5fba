use Rattle.std.proofs.Common.{◌≡◌, ℕ, ◌+◌, ◌∷◌, [], length, map, take, get_or, sym, ap, ◌∙◌, arith}
use Rattle.std.proofs.lemmas.List.{length-map, length-take-le, map-append, take_more}
use Rattle.std.proofs.lemmas.Option.{slice_get-get_or}
use Rattle.hs_base.specs.Points.{ending, place_of}
use Rattle.plan_index.specs.Lines.{kind_in}
use Rattle.plan_index.specs.declared.placed.PlacedToken.{PlacedToken}
use Rattle.timeline_db.proofs.LayingLemmas.{laid_next, length-laid}
use Rattle.timeline_db.specs.Laying.{laid_of}
use Rattle.timeline_db.specs.Lines.{Shown}
use Rattle.timeline_db.proofs.laying.line_of.Goals as goal

abbrev pub no_placed : PlacedToken
no_placed = record { value = record { 0 = 0 }; end = record { 0 = 0 } }

pub push_given-requires : goal.push_given-requires
push_given-requires c =
    let v = c.args.sv.0 in
    let is = c.loop-placed.invariant in
    let ks = map (kind_in v) (take c.loop-placed.placed-index c.timeline-row.result.now) in
    ap (λ (s : Shown). s.given) is ∙ sym (ap (λ (s : Shown). length s.tokens) is ∙ length-laid c.args.index.now.points v 0 ks)

pub loop-placed-preserved : goal.loop-placed-preserved
loop-placed-preserved c =
    let v = c.args.sv.0 in
    let names = c.args.index.now.points in
    let row = c.timeline-row.result.now in
    let i = c.loop-placed.placed-index in
    let p = get_or row i no_placed in
    let ks = map (kind_in v) (take i row) in
    let there = c.loop-placed-test.true in
    let size : length ks ≡ i = length-map (take i row) (kind_in v) ∙ length-take-le i row (omega (arith, there)) in
    let stop : p.end.0 ≡ place_of (ending v (length ks)) names = sym (c.timeline-row.ensures.ends i p (slice_get-get_or row i no_placed there)) ∙ ap (λ (n : ℕ). place_of (ending v n) names) (sym size) in
    laid_next names v ks (kind_in v p) p.end.0 _ _ stop c.loop-placed.invariant c.in_ok-push_given.ensures
    ∙ sym (ap (λ l. laid_of names v l) (ap (map (kind_in v)) (take_more row i no_placed there) ∙ map-append (kind_in v) (take i row) (p ∷ [])))
