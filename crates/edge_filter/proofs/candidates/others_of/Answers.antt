use Rattle.std.proofs.Common.{◌≡◌, ℤ, to_z, of_z, w64, refl, arith}
use Rattle.std.proofs.lemmas.Int.{ints}
use Rattle.hs_base.specs.Schedule.{time_of}
use Rattle.edge_filter.specs.declared.candidates.Candidate.{Candidate}
use Rattle.edge_filter.specs.Candidates.{is_other, IsOther}
use Rattle.edge_filter.proofs.CandidateLemmas.{All-cond, HasOthers-more}
use Rattle.edge_filter.proofs.candidates.others_of.Goals as goal

pub loop-other-preserved : goal.loop-other-preserved
loop-other-preserved c =
    let h = c.loop-other.invariant in let side = c.args.side in let row = c.args.row.now in let a = c.args.place in
    let i = c.loop-other.other in let bs = c.loop-other.others.items in
    let near = c.weight_at-weight.ensures.near in let low = near.0 in let high = near.1 in
    let plain : to_z w64 (of_z w64 c.weight_at-weight.result) ≡ c.weight_at-weight.result = omega (arith, ints) in
    let is : c.weight_at-weight.result ≡ time_of row i = c.weight_at-weight.ensures.weight in
    let key : ℤ = to_z w64 (of_z w64 c.key_of.result) in
    let b : Candidate = record { place = i; weight = time_of row i; key = key } in
    rw (c.in_ok-push_if.ensures, c.is_on_side.ensures, plain, is) (record {
      each = All-cond (IsOther side row a) bs (is_other side a i (time_of row i)) b h.each (λ on. record { within = omega arith; weight = refl; on = on });
      all = HasOthers-more side row a i bs b refl h.all;
    })
