use Rattle.std.proofs.Common.{◌∙◌, sym, refl, subst, arith, pos, w64, FitsSigned, length}
use Rattle.std.proofs.lemmas.Int.{ints, to_z-of_z}
use Rattle.dispatcher.specs.Index.{AreSetBy, AreKnown, AreWaits, numbers_of}
use Rattle.dispatcher.proofs.KeptLemmas.{joined}
use Rattle.dispatcher.proofs.BeginLemmas.{by_size, reduced_by, reached_by, places_by, group_known, offset_known, time_known, begun_lawful}
use Rattle.dispatcher.proofs.course.Course.begin.Goals as goal

pub fresh-requires : goal.fresh-requires
fresh-requires c = joined (length c.args.observed) c.args.net c.requires.reduced

pub set_groups-requires-clause-reduced : goal.set_groups-requires-clause-reduced
set_groups-requires-clause-reduced c = reduced_by (length c.args.observed) c.args.net c.requires.reduced c.args.times.now c.args.now c.requires.reached c.len-count.result c.len-count.ensures c.in_ok-times.times.items c.in_ok-times.ensures c.as_slice-2.result.now c.as_slice-2.ensures.value

pub set_groups-requires-clause-reached : goal.set_groups-requires-clause-reached
set_groups-requires-clause-reached c = (c.args.now, reached_by (length c.args.observed) c.args.net c.requires.reduced c.args.times.now c.args.now c.requires.reached c.len-count.result c.len-count.ensures c.in_ok-times.times.items c.in_ok-times.ensures c.as_slice-2.result.now c.as_slice-2.ensures.value)

pub set_groups-requires-clause-places : goal.set_groups-requires-clause-places
set_groups-requires-clause-places c = places_by (length c.args.observed) c.args.net c.requires.reduced c.args.times.now c.args.now c.requires.reached c.len-count.result c.len-count.ensures c.in_ok-times.times.items c.in_ok-times.ensures c.as_slice-2.result.now c.as_slice-2.ensures.value
    c.in_ok-places.places.items c.as_slice.result.now c.as_slice.ensures.value c.in_ok-places.ensures.places

pub waits_of-requires-clause-points : goal.waits_of-requires-clause-points
waits_of-requires-clause-points c = (places_by (length c.args.observed) c.args.net c.requires.reduced c.args.times.now c.args.now c.requires.reached c.len-count.result c.len-count.ensures c.in_ok-times.times.items c.in_ok-times.ensures c.as_slice-4.result.now c.as_slice-4.ensures.value c.in_ok-places.places.items c.as_slice-3.result.now c.as_slice-3.ensures.value c.in_ok-places.ensures.places).points

pub waits_of-requires-clause-groups : goal.waits_of-requires-clause-groups
waits_of-requires-clause-groups c = group_known (length c.args.observed) c.args.net c.requires.reduced c.args.times.now c.args.now c.requires.reached c.len-count.result c.len-count.ensures c.in_ok-times.times.items c.in_ok-times.ensures c.as_slice-4.result.now c.as_slice-4.ensures.value c.as_slice-3.result.now
    (places_by (length c.args.observed) c.args.net c.requires.reduced c.args.times.now c.args.now c.requires.reached c.len-count.result c.len-count.ensures c.in_ok-times.times.items c.in_ok-times.ensures c.as_slice-4.result.now c.as_slice-4.ensures.value c.in_ok-places.places.items c.as_slice-3.result.now c.as_slice-3.ensures.value c.in_ok-places.ensures.places)
    c.set_groups.new.windows (subst (λ z. AreSetBy c.args.net z c.set_groups.new.windows) (c.as_slice-2.ensures.value ∙ sym c.as_slice-4.ensures.value) c.in_ok-known.ensures.set)

pub waits_of-requires-clause-offsets : goal.waits_of-requires-clause-offsets
waits_of-requires-clause-offsets c = offset_known (length c.args.observed) c.args.net c.requires.reduced c.args.times.now c.args.now c.requires.reached c.len-count.result c.len-count.ensures c.in_ok-times.times.items c.in_ok-times.ensures c.as_slice-4.result.now c.as_slice-4.ensures.value c.as_slice-3.result.now
    (places_by (length c.args.observed) c.args.net c.requires.reduced c.args.times.now c.args.now c.requires.reached c.len-count.result c.len-count.ensures c.in_ok-times.times.items c.in_ok-times.ensures c.as_slice-4.result.now c.as_slice-4.ensures.value c.in_ok-places.places.items c.as_slice-3.result.now c.as_slice-3.ensures.value c.in_ok-places.ensures.places)
    c.set_groups.new.windows (subst (λ z. AreSetBy c.args.net z c.set_groups.new.windows) (c.as_slice-2.ensures.value ∙ sym c.as_slice-4.ensures.value) c.in_ok-known.ensures.set)

pub waits_of-requires-clause-set : goal.waits_of-requires-clause-set
waits_of-requires-clause-set c = time_known (length c.args.observed) c.args.net c.requires.reduced c.args.times.now c.args.now c.requires.reached c.len-count.result c.len-count.ensures c.in_ok-times.times.items c.in_ok-times.ensures c.as_slice-4.result.now c.as_slice-4.ensures.value c.as_slice-3.result.now
    (places_by (length c.args.observed) c.args.net c.requires.reduced c.args.times.now c.args.now c.requires.reached c.len-count.result c.len-count.ensures c.in_ok-times.times.items c.in_ok-times.ensures c.as_slice-4.result.now c.as_slice-4.ensures.value c.in_ok-places.places.items c.as_slice-3.result.now c.as_slice-3.ensures.value c.in_ok-places.ensures.places)
    c.set_groups.new.windows (subst (λ z. AreSetBy c.args.net z c.set_groups.new.windows) (c.as_slice-2.ensures.value ∙ sym c.as_slice-4.ensures.value) c.in_ok-known.ensures.set)

pub invariant_of-result : goal.invariant_of-result
invariant_of-result c =
    let by = c.in_ok-times.times.items in
    let zero = c.requires.reached.late 0 (pos 0) c.requires.reached.origin in
    let f : FitsSigned w64 c.args.now = omega (arith, ints, zero, c.requires.last) in
    let size = by_size (length c.args.observed) c.args.net c.requires.reduced c.args.times.now c.args.now c.requires.reached c.len-count.result c.len-count.ensures c.in_ok-times.times.items c.in_ok-times.ensures in
    let places = places_by (length c.args.observed) c.args.net c.requires.reduced c.args.times.now c.args.now c.requires.reached c.len-count.result c.len-count.ensures c.in_ok-times.times.items c.in_ok-times.ensures by refl c.in_ok-places.places.items c.in_ok-places.places.items refl c.in_ok-places.ensures.places in
    record {
      state = rw (to_z-of_z w64 c.args.now f) (begun_lawful (length c.args.observed) c.args.net c.requires.reduced c.args.times.now c.args.now c.requires.reached c.len-count.result c.len-count.ensures c.in_ok-times.times.items c.in_ok-times.ensures c.args.observed refl c.requires.last);
      set = subst (λ z. AreSetBy c.args.net z c.set_groups.new.windows) c.as_slice-2.ensures.value c.in_ok-known.ensures.set;
      places = places;
      known = subst (λ z. AreKnown c.args.net z (numbers_of c.in_ok-known.known.items)) c.as_slice-2.ensures.value c.in_ok-known.ensures.known;
      waits = subst (λ z. AreWaits c.set_groups.new.windows z by c.in_ok-until.until) c.as_slice-3.ensures.value (subst (λ z. AreWaits c.set_groups.new.windows c.as_slice-3.result.now z c.in_ok-until.until) c.as_slice-4.ensures.value c.in_ok-until.ensures);
      small = omega (arith, c.in_ok-places.ensures.small, c.len-count.ensures, size);
    }
