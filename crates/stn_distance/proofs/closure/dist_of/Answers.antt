use Rattle.std.proofs.Common.{◌≡◌, ◌∙◌, ℕ, ℤ, List, length, map, All, refl, sym, ap, subst, arith}
use Rattle.std.proofs.lemmas.Int.{ints}
use Rattle.std.specs.List.Sorted.{IsPermutation}
use Rattle.std.proofs.lemmas.List.{get_or_default}
use Rattle.std.proofs.lemmas.List.Sorted.{All-permutation}
use Rattle.hs_base.specs.declared.net.Bound.{Bound}
use Rattle.hs_base.specs.declared.plan.Time.{Time}
use Rattle.hs_base.specs.Schedule.{MeetsList, time_of}
use Rattle.stn_distance.specs.Ranges.{IsInRange, StaysInTime, IsFixed}
use Rattle.stn_distance.specs.Rows.{IsStep, AreRows, items_of}
use Rattle.stn_distance.specs.Folding.{IsFolding, folded_bounds}
use Rattle.stn_distance.specs.Distances.{IsExact}
use Rattle.stn_distance.proofs.RowLemmas.{Sample-from_schedule}
use Rattle.stn_distance.proofs.DistLemmas.{IsTableOf-from_exact}
use Rattle.stn_distance.proofs.FoldedLemmas.{IsFoldingOf, IsFoldingOf-from_fixed, IsStep-rows, StaysInTime-rows, StaysInTime-permuted, Sample-rows, AreSmall-rows, IsExact-from_rows}
use Rattle.stn_distance.proofs.closure.dist_of.Goals as goal

folding_is : (n : ℕ) (bounds : List Bound) (fixed : List Time) (s : List ℤ) (points places : List ℕ) (offsets : List ℤ) → StaysInTime n bounds → All (IsInRange n) bounds → All (IsFixed n bounds) fixed
    → MeetsList n bounds s → IsFolding n fixed points places offsets → IsFoldingOf n bounds points places offsets
folding_is n bounds fixed s points places offsets stays range exact m h =
    IsFoldingOf-from_fixed n bounds fixed points places offsets h range exact (Sample-from_schedule n bounds (time_of s) stays m.times)

pub fold-requires-clause-offsets : goal.fold-requires-clause-offsets
fold-requires-clause-offsets c =
    let f = c.in_ok-folding.folding in let points = f.points.items in let places = f.places.items in let offsets = f.offsets.items in let bounds = c.args.bounds.now in
    let h = folding_is c.args.n bounds c.args.fixed.now c.args.schedule.now points places offsets c.requires.stays c.requires.range c.requires.fixed c.requires.schedule c.in_ok-folding.ensures in
    record {
      size = c.in_ok-folding.ensures.offsets_len;
      low = λ p l. let k = h.low p l in omega (arith, ints);
      high = λ p l. let k = h.high p l in omega (arith, ints);
    }

pub times_of_rows-requires : goal.times_of_rows-requires
times_of_rows-requires c =
    let f = c.in_ok-folding.folding in let points = f.points.items in let places = f.places.items in let offsets = f.offsets.items in let bounds = c.args.bounds.now in
    let h = folding_is c.args.n bounds c.args.fixed.now c.args.schedule.now points places offsets c.requires.stays c.requires.range c.requires.fixed c.requires.schedule c.in_ok-folding.ensures in
    let size = c.requires.schedule.size in
    rw c.deref-2.ensures.value (λ r d l. (let b = h.below r l in let e = get_or_default points r d 0 l in omega arith))

pub rows_of-requires-clause-range : goal.rows_of-requires-clause-range
rows_of-requires-clause-range c =
    let f = c.in_ok-folding.folding in let points = f.points.items in let places = f.places.items in let offsets = f.offsets.items in let bounds = c.args.bounds.now in
    let h = folding_is c.args.n bounds c.args.fixed.now c.args.schedule.now points places offsets c.requires.stays c.requires.range c.requires.fixed c.requires.schedule c.in_ok-folding.ensures in
    let perm : IsPermutation (folded_bounds places offsets bounds) c.deref-3.result.now =
    subst (λ (xs : List Bound). IsPermutation xs c.deref-3.result.now) (c.deref.ensures.value ∙ c.in_ok-folded.ensures) (subst (IsPermutation c.deref.result.now) (sym c.deref-3.ensures.value) c.in_ok-sorted.ensures) in
    let held = f.points.ok.0 in let rows : c.len.result ≡ length points = omega arith in
    rw rows (All-permutation (IsStep (length points)) (folded_bounds places offsets bounds) c.deref-3.result.now perm (IsStep-rows c.args.n bounds points places offsets h))

pub rows_of-requires-clause-stays : goal.rows_of-requires-clause-stays
rows_of-requires-clause-stays c =
    let f = c.in_ok-folding.folding in let points = f.points.items in let places = f.places.items in let offsets = f.offsets.items in let bounds = c.args.bounds.now in
    let h = folding_is c.args.n bounds c.args.fixed.now c.args.schedule.now points places offsets c.requires.stays c.requires.range c.requires.fixed c.requires.schedule c.in_ok-folding.ensures in
    let perm : IsPermutation (folded_bounds places offsets bounds) c.deref-3.result.now =
    subst (λ (xs : List Bound). IsPermutation xs c.deref-3.result.now) (c.deref.ensures.value ∙ c.in_ok-folded.ensures) (subst (IsPermutation c.deref.result.now) (sym c.deref-3.ensures.value) c.in_ok-sorted.ensures) in
    let held = f.points.ok.0 in let rows : c.len.result ≡ length points = omega arith in
    rw rows (StaysInTime-permuted (length points) (folded_bounds places offsets bounds) c.deref-3.result.now perm (StaysInTime-rows c.args.n bounds points places offsets h c.requires.stays))

pub rows_of-requires-clause-sample : goal.rows_of-requires-clause-sample
rows_of-requires-clause-sample c =
    let f = c.in_ok-folding.folding in let points = f.points.items in let places = f.places.items in let offsets = f.offsets.items in let bounds = c.args.bounds.now in
    let h = folding_is c.args.n bounds c.args.fixed.now c.args.schedule.now points places offsets c.requires.stays c.requires.range c.requires.fixed c.requires.schedule c.in_ok-folding.ensures in
    let perm : IsPermutation (folded_bounds places offsets bounds) c.deref-3.result.now =
    subst (λ (xs : List Bound). IsPermutation xs c.deref-3.result.now) (c.deref.ensures.value ∙ c.in_ok-folded.ensures) (subst (IsPermutation c.deref.result.now) (sym c.deref-3.ensures.value) c.in_ok-sorted.ensures) in
    let held = f.points.ok.0 in let rows : c.len.result ≡ length points = omega arith in
    rw rows (Sample-rows c.args.n bounds c.deref-3.result.now points places offsets h c.requires.stays perm)

pub rows_of-requires-clause-potentials : goal.rows_of-requires-clause-potentials
rows_of-requires-clause-potentials c =
    let f = c.in_ok-folding.folding in let points = f.points.items in let places = f.places.items in let offsets = f.offsets.items in let bounds = c.args.bounds.now in
    let h = folding_is c.args.n bounds c.args.fixed.now c.args.schedule.now points places offsets c.requires.stays c.requires.range c.requires.fixed c.requires.schedule c.in_ok-folding.ensures in
    let held = f.points.ok.0 in let rows : c.len.result ≡ length points = omega arith in
    let small = AreSmall-rows c.args.n bounds points c.args.schedule.now c.requires.stays c.requires.schedule h.below in
    let taken : c.deref-4.result.now ≡ map (time_of c.args.schedule.now) points = c.deref-4.ensures.value ∙ c.in_ok-potentials.ensures ∙ ap (map (time_of c.args.schedule.now)) c.deref-2.ensures.value in
    rw (rows, taken) small

pub invariant_of-result : goal.invariant_of-result
invariant_of-result c =
    let f = c.in_ok-folding.folding in let points = f.points.items in let places = f.places.items in let offsets = f.offsets.items in let bounds = c.args.bounds.now in
    let h = folding_is c.args.n bounds c.args.fixed.now c.args.schedule.now points places offsets c.requires.stays c.requires.range c.requires.fixed c.requires.schedule c.in_ok-folding.ensures in
    let perm : IsPermutation (folded_bounds places offsets bounds) c.deref-3.result.now =
    subst (λ (xs : List Bound). IsPermutation xs c.deref-3.result.now) (c.deref.ensures.value ∙ c.in_ok-folded.ensures) (subst (IsPermutation c.deref.result.now) (sym c.deref-3.ensures.value) c.in_ok-sorted.ensures) in
    let held = f.points.ok.0 in let rows : c.len.result ≡ length points = omega arith in
    let g = c.in_ok-folding.ensures in
    let exact : IsExact c.args.n bounds places offsets (items_of c.in_ok-rows.rows.items) =
    IsExact-from_rows c.args.n bounds c.deref-3.result.now points places offsets (items_of c.in_ok-rows.rows.items) c.requires.few.0 c.requires.few.1 g.places_len g.offsets_len h c.requires.stays perm
    (subst (λ (k : ℕ). AreRows k c.deref-3.result.now (items_of c.in_ok-rows.rows.items)) rows c.in_ok-rows.ensures) in
    rw (g.places_len, c.in_ok-bounds.ensures.items) exact

pub returns : goal.returns
returns c =
    let f = c.in_ok-folding.folding in let points = f.points.items in let places = f.places.items in let offsets = f.offsets.items in let bounds = c.args.bounds.now in
    let h = folding_is c.args.n bounds c.args.fixed.now c.args.schedule.now points places offsets c.requires.stays c.requires.range c.requires.fixed c.requires.schedule c.in_ok-folding.ensures in
    let perm : IsPermutation (folded_bounds places offsets bounds) c.deref-3.result.now =
    subst (λ (xs : List Bound). IsPermutation xs c.deref-3.result.now) (c.deref.ensures.value ∙ c.in_ok-folded.ensures) (subst (IsPermutation c.deref.result.now) (sym c.deref-3.ensures.value) c.in_ok-sorted.ensures) in
    let held = f.points.ok.0 in let rows : c.len.result ≡ length points = omega arith in
    let g = c.in_ok-folding.ensures in
    let exact : IsExact c.args.n bounds places offsets (items_of c.in_ok-rows.rows.items) =
    IsExact-from_rows c.args.n bounds c.deref-3.result.now points places offsets (items_of c.in_ok-rows.rows.items) c.requires.few.0 c.requires.few.1 g.places_len g.offsets_len h c.requires.stays perm
    (subst (λ (k : ℕ). AreRows k c.deref-3.result.now (items_of c.in_ok-rows.rows.items)) rows c.in_ok-rows.ensures) in
    rw (g.places_len, c.in_ok-bounds.ensures.items) (record {
      count = refl;
      bounds = refl;
      table = IsTableOf-from_exact c.args.n bounds places offsets (items_of c.in_ok-rows.rows.items) exact;
    })
