use Rattle.std.proofs.Common.{◌≡◌, ℕ, ◌<◌, ◌≤◌, Some, None, List, length, map, inl, inr, ap, subst, ◌∙◌, sym, arith}
use Rattle.std.proofs.lemmas.Bool.{cases_lt}
use Rattle.std.proofs.lemmas.List.{length-map}
use Rattle.hs_base.specs.declared.mission.Kind.{Kind}
use Rattle.hs_base.specs.Points.{timeline_of}
use Rattle.plan_index.specs.Lines.{kind_in}
use Rattle.plan_check.specs.Open.{IsFirstOpenIn, IsOpenAt, first_looked}
use Rattle.plan_check.proofs.needs.check_needs.Goals as goal

pub returns-in-Some-clause-fault : goal.returns-in-Some-clause-fault
returns-in-Some-clause-fault c =
    let m = c.args.mission.now in
    let set = c.args.claims.now.set in
    let v = c.loop-v.v in
    let row = timeline_of c.args.index.now.tokens v in
    let row_is : map (kind_in v) c.timeline-row.result.now ≡ row = c.timeline-row.ensures.kinds in
    let first_is : c.saturating_sub-first.result ≡ first_looked row c.args.new.now v = omega (arith, c.saturating_sub-first.ensures, c.saturating_sub.ensures, c.count_of.ensures, length-map c.timeline-row.result.now (kind_in v), ap length row_is) in
    let found : IsFirstOpenIn m set (record { 0 = v }) (map (kind_in v) c.timeline-row.result.now) c.saturating_sub-first.result (Some c.in-Some.open) = c.in-Some.ensures in
    let whole : IsFirstOpenIn m set (record { 0 = v }) row (first_looked row c.args.new.now v) (Some c.in-Some.open) = subst (λ (n : ℕ). IsFirstOpenIn m set (record { 0 = v }) row n (Some c.in-Some.open)) first_is (subst (λ (l : List Kind). IsFirstOpenIn m set (record { 0 = v }) l c.saturating_sub-first.result (Some c.in-Some.open)) row_is found) in
    record { here = whole.1; lines_before = c.loop-v.invariant; places_before = whole.2; needs_before = whole.3 }

pub loop-v-preserved : goal.loop-v-preserved
loop-v-preserved c = λ w p i less looked o.
    let m = c.args.mission.now in
    let set = c.args.claims.now.set in
    let tokens = c.args.index.now.tokens in
    let v = c.loop-v.v in
    let row = timeline_of tokens v in
    let row_is : map (kind_in v) c.timeline-row.result.now ≡ row = c.timeline-row.ensures.kinds in
    let first_is : c.saturating_sub-first.result ≡ first_looked row c.args.new.now v = omega (arith, c.saturating_sub-first.ensures, c.saturating_sub.ensures, c.count_of.ensures, length-map c.timeline-row.result.now (kind_in v), ap length row_is) in
    let found : IsFirstOpenIn m set (record { 0 = v }) (map (kind_in v) c.timeline-row.result.now) c.saturating_sub-first.result None = c.in_default.ensures in
    let none : IsFirstOpenIn m set (record { 0 = v }) row (first_looked row c.args.new.now v) None = subst (λ (n : ℕ). IsFirstOpenIn m set (record { 0 = v }) row n None) first_is (subst (λ (l : List Kind). IsFirstOpenIn m set (record { 0 = v }) l c.saturating_sub-first.result None) row_is found) in
    elim (cases_lt w v) [
      | inl earlier ↦ c.loop-v.invariant w p i earlier looked o
      | inr at ↦
          let same : w ≡ v = omega (arith, less, at) in
          none p i (subst (λ (x : ℕ). first_looked (timeline_of tokens x) c.args.new.now x ≤ p) same looked) (subst (λ (x : ℕ). IsOpenAt m set (record { 0 = x }) (timeline_of tokens x) p i) same o)
    ]

pub returns-clause-none : goal.returns-clause-none
returns-clause-none c = λ v p i below looked o. c.loop-v.invariant v p i (let past = c.loop-v-test.false in omega (arith, below, past)) looked o
