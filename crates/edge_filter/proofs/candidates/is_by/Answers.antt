use Rattle.std.proofs.Common.{◌≡◌, ◌∙◌, Bool, ℤ, ◌+ℤ◌, to_z, of_z, w64, sym, ap, arith}
use Rattle.std.proofs.lemmas.Int.{ints}
use Rattle.std.proofs.lemmas.Bool.{ne_eqb}
use Rattle.std.specs.Prelude.{not, ◌&&◌}
use Rattle.hs_base.specs.Schedule.{time_of}
use Rattle.hs_base.specs.Reduced.{int_eq}
use Rattle.edge_filter.proofs.CandidateLemmas.{word_test}
use Rattle.edge_filter.proofs.candidates.is_by.Goals as goal

pub returns : goal.returns
returns c =
    let b = c.args.candidate.now in let x = c.args.other.now in let r = c.weight_at.result in
    let near = c.weight_at.ensures.near in let low = near.0 in let high = near.1 in
    let hb = c.requires.candidate in let bl = hb.low in let bh = hb.high in let hx = c.requires.other in let xl = hx.low in let xh = hx.high in
    let pr : to_z w64 (of_z w64 r) ≡ r = omega (arith, ints) in
    let pb : to_z w64 (of_z w64 b.weight) ≡ b.weight = omega (arith, ints) in
    rw (pr, pb) (
    word_test (r +ℤ b.weight) x.weight (omega (arith, ints)) (omega (arith, ints)) (omega (arith, ints)) (omega (arith, ints))
    ∙ ap (λ (z : ℤ). int_eq (z +ℤ b.weight) x.weight) c.weight_at.ensures.weight
    ∙ sym (ap (λ (t : Bool). not t && int_eq (time_of c.args.row.now x.place +ℤ b.weight) x.weight) (ne_eqb x.place b.place c.if-other-candidate.false))
    )
