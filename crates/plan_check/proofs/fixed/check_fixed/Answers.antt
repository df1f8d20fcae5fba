use Rattle.std.proofs.Common.{◌≡◌, ℕ, ◌<◌, true, false, pos, length, take, get_or, List, inl, sym, subst, ◌∙◌, arith}
use Rattle.hs_base.specs.declared.plan.Time.{Time}
use Rattle.hs_base.specs.Checked.{KeepsFixedAt}
use Rattle.hs_base.specs.Faults.{IsFirstBreakAt}
use Rattle.plan_index.specs.Contents.{Contents, contents_of}
use Rattle.plan_check.specs.Fixing.{MayFix}
use Rattle.plan_check.proofs.LoopLemmas.{first_break_at, each_more}
use Rattle.plan_check.proofs.FixedLemmas.{fixes, fixes_in, rising-push}
use Rattle.plan_check.proofs.fixed.check_fixed.Goals as goal

abbrev pub no_time : Time
no_time = record { point = record { 0 = 0 }; at = pos 0 }

pub returns-then-not-may_fix-clause-fault : goal.returns-then-not-may_fix-clause-fault
returns-then-not-may_fix-clause-fault c =
    let es = c.args.plan.now.extensions in
    let e = c.args.extension.now in
    let fixed = c.as_slice-fixed.result.now in
    let i = c.loop-i.i in
    let broken : KeepsFixedAt es e (take i fixed) (get_or fixed i no_time) → ⊥ = λ h.
    let may = fixes_in es e (take i fixed) c.loop-i.last c.loop-i.invariant.rising (get_or fixed i no_time) h in
    let yes_is : c.may_fix.result ≡ true = c.may_fix.ensures.1 (subst (λ (x : Contents). MayFix x c.loop-i.last e.since (get_or fixed i no_time)) (sym c.requires.index) may) in
    absurd (let contra : true ≡ false = sym yes_is ∙ c.if-not-may_fix.true in cc) in
    (c.requires.before, inl (subst (λ l. IsFirstBreakAt (KeepsFixedAt es e) l i) c.as_slice-fixed.ensures (first_break_at (KeepsFixedAt es e) fixed i no_time c.loop-i-test.true c.loop-i.invariant.kept broken)))

pub loop-i-preserved : goal.loop-i-preserved
loop-i-preserved c =
    let es = c.args.plan.now.extensions in
    let e = c.args.extension.now in
    let fixed = c.as_slice-fixed.result.now in
    let i = c.loop-i.i in
    let t = get_or fixed i no_time in
    let may : MayFix (contents_of es) c.loop-i.last e.since t = subst (λ (x : Contents). MayFix x c.loop-i.last e.since t) c.requires.index (c.may_fix.ensures.0 c.if-not-may_fix.false) in
    let behind = may.behind in
    let number = c.loop-i.invariant.number in
    record {
      kept = each_more (KeepsFixedAt es e) fixed i no_time c.loop-i-test.true c.loop-i.invariant.kept (fixes es e (take i fixed) c.loop-i.last c.loop-i.invariant.rising t may);
      rising = rising-push fixed i no_time c.loop-i.last c.loop-i-test.true c.loop-i.invariant.rising may.behind;
      number = omega (arith, behind, number);
      below = may.below;
    }
