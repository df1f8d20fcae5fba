use Rattle.std.proofs.Common.{◌≡◌, ◌∙◌, ℤ, pos, ◌+ℤ◌, arith, below_more, ◌++◌, ◌∷◌, [], to_z, of_z, w64}
use Rattle.std.proofs.lemmas.Int.{ints}
use Rattle.std.proofs.lemmas.List.{length_push, get_or_push, get_or_append_left}
use Rattle.hs_base.specs.Schedule.{time_of}
use Rattle.stn_distance.proofs.RowLemmas.{Implied-low, origin_low, origin_high, Reaches-by_origin}
use Rattle.stn_distance.proofs.rows.row_by_origin.Goals as goal

pub overflow_add-back : goal.overflow_add-back
overflow_add-back c =
    let o = c.requires.origin in let len = o.row_len in let i = c.loop-time.time-index in
    let low = origin_low c.args.count c.args.bounds.now c.args.origin.now i c.requires.sample (omega arith) o in
    let high = origin_high c.args.count c.args.bounds.now c.args.origin.now i c.requires.stays (omega arith) o in
    let back = Implied-low c.args.count c.args.bounds.now c.args.source 0 c.args.back c.requires.sample c.requires.source (omega arith) c.requires.back in
    let cap = c.requires.back_high in
    omega (arith, ints)

pub loop-time-preserved : goal.loop-time-preserved
loop-time-preserved c =
    let h = c.loop-time.invariant in let len = h.row_len in let xs = c.loop-time.row.items in let i = c.loop-time.time-index in
    let o = c.requires.origin in let olen = o.row_len in
    let low = origin_low c.args.count c.args.bounds.now c.args.origin.now i c.requires.sample (omega arith) o in
    let high = origin_high c.args.count c.args.bounds.now c.args.origin.now i c.requires.stays (omega arith) o in
    let back = Implied-low c.args.count c.args.bounds.now c.args.source 0 c.args.back c.requires.sample c.requires.source (omega arith) c.requires.back in
    let cap = c.requires.back_high in
    let y : ℤ = to_z w64 (of_z w64 (to_z w64 (of_z w64 c.args.back) +ℤ to_z w64 (of_z w64 (time_of c.args.origin.now i)))) in
    rw c.in_ok-push.ensures.items (record {
      row_len = omega (arith, length_push xs y);
      read = below_more (λ v. time_of (xs ++ y ∷ []) v ≡ to_z w64 (of_z w64 c.args.back) +ℤ time_of c.args.origin.now v) i
          (λ v l. get_or_append_left xs (y ∷ []) (pos 0) v (omega arith) ∙ h.read v l)
          (let e : time_of (xs ++ y ∷ []) i ≡ y = get_or_push xs y (pos 0) i len in omega (arith, ints));
    })

pub returns : goal.returns
returns c =
    let h = c.loop-time.invariant in let len = h.row_len in let o = c.requires.origin in let olen = o.row_len in
    let back = Implied-low c.args.count c.args.bounds.now c.args.source 0 c.args.back c.requires.sample c.requires.source (omega arith) c.requires.back in
    let cap = c.requires.back_high in
    Reaches-by_origin c.args.count c.args.bounds.now c.args.source c.args.back c.args.origin.now c.loop-time.row.items c.requires.stays c.requires.source o c.requires.back c.requires.back_high
    (omega arith) (λ v l. (let e = h.read v (omega arith) in omega (arith, ints)))
