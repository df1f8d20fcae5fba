use Rattle.std.proofs.Common.{◌≡◌, ℕ, ◌+◌, ◌<◌, ◌≤◌, true, false, ◌&&◌, ◌||◌, List, length, take, get_or, inl, inr, sym, ap, subst, ◌∙◌, arith}
use Rattle.std.proofs.lemmas.Bool.{cases_lt}
use Rattle.std.proofs.lemmas.List.{take_all}
use Rattle.std.specs.Prelude.{filter}
use Rattle.hs_base.specs.declared.mission.Need.{Need}
use Rattle.hs_base.specs.Needs.{same_kind, needs_of, is_deferrable}
use Rattle.plan_check.specs.Claimed.{is_claimed}
use Rattle.plan_check.specs.Open.{IsOpen}
use Rattle.plan_check.proofs.NeedLemmas.{open_here, not_open_here, number_more, few_numbers, none_past}
use Rattle.plan_check.proofs.needs.open_need.Goals as goal

pub returns-then-not-is_settled : goal.returns-then-not-is_settled
returns-then-not-is_settled c =
    let needs = c.args.mission.now.needs in
    let k = c.args.kind in
    let set = c.args.claims.now.set in
    let t = c.args.token in
    let last = c.args.last in
    let i = c.loop-need.need-index in
    let n = c.need-item.result in
    let inv = c.loop-need.invariant in
    let is : n ≡ get_or needs i n = subst (λ (l : List Need). n ≡ get_or l i n) c.as_slice-need-items.ensures c.need-item.is in
    let below : i < length needs = subst (λ (l : List Need). i < length l) c.as_slice-need-items.ensures c.loop-need-test.true in
    let own : same_kind n.of k ≡ true = sym c.is.ensures ∙ c.if-not-is.false in
    let unsettled : (is_claimed set t c.loop-need.number || (last && is_deferrable n)) ≡ false = sym c.is_settled.ensures ∙ c.if-not-is_settled.true in
    let here = open_here needs k set t last i n below is own (subst (λ (x : ℕ). (is_claimed set t x || (last && is_deferrable n)) ≡ false) inv.number unsettled) in
    (subst (λ (x : ℕ). IsOpen (needs_of c.args.mission.now k) set t last x) (sym inv.number) here, inv.none)

pub loop-need-preserved : goal.loop-need-preserved
loop-need-preserved c =
    let needs = c.args.mission.now.needs in
    let k = c.args.kind in
    let set = c.args.claims.now.set in
    let t = c.args.token in
    let last = c.args.last in
    let i = c.loop-need.need-index in
    let n = c.need-item.result in
    let inv = c.loop-need.invariant in
    let is : n ≡ get_or needs i n = subst (λ (l : List Need). n ≡ get_or l i n) c.as_slice-need-items.ensures c.need-item.is in
    let below : i < length needs = subst (λ (l : List Need). i < length l) c.as_slice-need-items.ensures c.loop-need-test.true in
    let own : same_kind n.of k ≡ true = sym c.is.ensures ∙ c.if-not-is.false in
    let settled : (is_claimed set t c.loop-need.number || (last && is_deferrable n)) ≡ true = sym c.is_settled.ensures ∙ c.if-not-is_settled.false in
    let not_here = not_open_here needs k set t last i n below is own (subst (λ (x : ℕ). (is_claimed set t x || (last && is_deferrable n)) ≡ true) inv.number settled) in
    record {
      number = ap (λ x. x + 1) inv.number ∙ sym (number_more needs k set t last i n below is own);
      none = λ j less o. elim (cases_lt j c.loop-need.number) [
        | inl earlier ↦ inv.none j earlier o
        | inr at ↦ let same : j ≡ c.loop-need.number = omega (arith, less, at) in not_here (subst (λ (x : ℕ). IsOpen (needs_of c.args.mission.now k) set t last x) (same ∙ inv.number) o)
      ];
    }

pub overflow_add-number : goal.overflow_add-number
overflow_add-number c =
    let i = c.loop-need.need-index in
    let below : i < length c.args.mission.now.needs = subst (λ (l : List Need). i < length l) c.as_slice-need-items.ensures c.loop-need-test.true in
    omega (arith, c.loop-need.invariant.number, few_numbers c.args.mission.now.needs c.args.kind i, below, c.requires)

pub returns : goal.returns
returns c = λ i o.
    let needs = c.args.mission.now.needs in
    let all : take c.loop-need.need-index needs ≡ needs = take_all c.loop-need.need-index needs (subst (λ (l : List Need). length l ≤ c.loop-need.need-index) c.as_slice-need-items.ensures c.loop-need-test.false) in
    let size : c.loop-need.number ≡ length (needs_of c.args.mission.now c.args.kind) = c.loop-need.invariant.number ∙ ap (λ l. length (filter (λ (x : Need). same_kind x.of c.args.kind) l)) all in
    elim (cases_lt i c.loop-need.number) [
      | inl earlier ↦ c.loop-need.invariant.none i earlier o
      | inr past ↦ none_past (needs_of c.args.mission.now c.args.kind) c.args.claims.now.set c.args.token c.args.last i (omega (arith, past, size)) o
    ]
