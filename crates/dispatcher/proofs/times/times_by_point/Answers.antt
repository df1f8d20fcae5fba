use Rattle.std.proofs.Common.{◌≡◌, ◌∙◌, ap, arith, length, get_or, pos, w64, FitsSigned, to_z, of_z, rules, Some, None, replicate, take}
use Rattle.std.proofs.lemmas.Int.{to_z-of_z}
use Rattle.std.proofs.lemmas.List.FromFn.{length-map-range_with_len}
use Rattle.hs_base.specs.declared.plan.Time.{Time}
use Rattle.hs_base.specs.Fits.{time_at}
use Rattle.dispatcher.proofs.TimesLemmas.{listed, noted_more, none_noted}
use Rattle.dispatcher.proofs.times.times_by_point.Goals as goal

pub loop-time-init : goal.loop-time-init
loop-time-init c = (let new : c.in_ok-by_point.by_point.items ≡ replicate c.args.count None = search rules in new) ∙ none_noted c.args.count

pub index_mut-requires : goal.index_mut-requires
index_mut-requires c =
    let d : Time = record { point = record { 0 = 0 }; at = pos 0 } in
    let ts = c.args.times.now in
    let k = c.loop-time.time-index in
    let il = c.requires.within (get_or ts k d).point.0 (get_or ts k d).at (listed ts k d c.requires.once c.loop-time-test.true) in
    let long = ap length c.loop-time.invariant in
    omega (arith, il, long, length-map-range_with_len (time_at (take k ts)) 0 c.args.count, c.loop-time.by_point.ok.0)

pub loop-time-preserved : goal.loop-time-preserved
loop-time-preserved c =
    let d : Time = record { point = record { 0 = 0 }; at = pos 0 } in
    let ts = c.args.times.now in
    let k = c.loop-time.time-index in
    let fits : FitsSigned w64 (get_or ts k d).at = search rules in
    let il = c.requires.within (get_or ts k d).point.0 (get_or ts k d).at (listed ts k d c.requires.once c.loop-time-test.true) in
    let at : Some (to_z w64 (of_z w64 (get_or ts k d).at)) ≡ Some (get_or ts k d).at = ap Some (to_z-of_z w64 (get_or ts k d).at fits) in
    let more = noted_more ts k c.args.count d c.requires.once c.loop-time-test.true il in
    rw (c.loop-time.invariant, at) more
