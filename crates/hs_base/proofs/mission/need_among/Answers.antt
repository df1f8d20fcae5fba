use Rattle.std.proofs.Common.{◌≡◌, ◌≤◌, length, take, true, sym, ap, ◌∙◌, arith}
use Rattle.std.proofs.lemmas.Bool.Decides.{nat_tests}
use Rattle.std.proofs.lemmas.Grind.{common_steps}
use Rattle.std.proofs.lemmas.List.{take_all}
use Rattle.std.proofs.lemmas.Option.{slice_get_past}
use Rattle.std.specs.Prelude.{filter, slice_get}
use Rattle.hs_base.specs.Needs.{same_kind}
use Rattle.hs_base.proofs.NeedLemmas.{filter_at}
use Rattle.hs_base.proofs.mission.need_among.Goals as goal

pub returns-then-left-eq0 : goal.returns-then-left-eq0
returns-then-left-eq0 c =
    let passes : same_kind c.need-item.result.of c.args.kind ≡ true = grind (arith, nat_tests, common_steps) in
    let number : length (filter (λ n. same_kind n.of c.args.kind) (take c.loop-need.need-index c.args.needs.now)) ≡ c.args.number = omega (arith, c.loop-need.invariant) in
    sym (filter_at (λ n. same_kind n.of c.args.kind) c.args.needs.now c.loop-need.need-index c.need-item.result c.loop-need-test.true c.need-item.is passes)
    ∙ ap (slice_get (filter (λ n. same_kind n.of c.args.kind) c.args.needs.now)) number

pub returns : goal.returns
returns c =
    let all = take_all c.loop-need.need-index c.args.needs.now c.loop-need-test.false in
    let past : length (filter (λ n. same_kind n.of c.args.kind) c.args.needs.now) ≤ c.args.number = omega (arith, ap (λ l. length (filter (λ n. same_kind n.of c.args.kind) l)) all, c.loop-need.invariant) in
    sym (slice_get_past (filter (λ n. same_kind n.of c.args.kind) c.args.needs.now) c.args.number past)
