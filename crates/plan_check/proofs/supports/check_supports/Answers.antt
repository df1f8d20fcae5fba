use Rattle.std.proofs.Common.{◌≡◌, ◌+◌, ◌++◌, [], ◌∷◌, List, true, false, take, get_or, sym, ap, subst, ◌∙◌, arith, append_assoc}
use Rattle.std.proofs.lemmas.List.{take_more}
use Rattle.std.proofs.lemmas.Option.{slice_get-get_or}
use Rattle.std.specs.List.{list_any}
use Rattle.std.specs.Prelude.{ℕ, slice_get, Some}
use Rattle.hs_base.specs.declared.mission.Kind.{Kind}
use Rattle.hs_base.specs.declared.mission.Mission.{Mission}
use Rattle.hs_base.specs.declared.plan.Support.{Support}
use Rattle.hs_base.specs.Points.{tokens_of}
use Rattle.hs_base.specs.Checked.{joined, supports_of, KeepsSupportAt}
use Rattle.hs_base.specs.Faults.{IsFirstBreakAt}
use Rattle.plan_check.specs.Claimed.{is_claimed, is_for, AreClaims}
use Rattle.plan_check.specs.Serving.{IsServingIn, IsBehindLast}
use Rattle.plan_check.proofs.LoopLemmas.{first_break_at, each_more}
use Rattle.plan_check.proofs.SupportLemmas.{right_of, kept_next, not_twice, number_fits, counted_next, not_false, not_true}
use Rattle.plan_check.proofs.WithinLemmas.{inside_next}
use Rattle.plan_check.proofs.supports.check_supports.Goals as goal

-- what the test of a support says of it
abbrev IsRightIn : Mission → List Kind → List Support → ℕ → Type 0
IsRightIn m tokens supports i = IsBehindLast supports i × ((s : Support) → slice_get supports i ≡ Some s → IsServingIn m tokens s)

abbrev pub no_support : Support
no_support = record { token = record { sv = record { 0 = 0 }; place = 0 }; need = 0; by = record { sv = record { 0 = 0 }; place = 0 } }

pub returns-then-not-is_right-clause-fault : goal.returns-then-not-is_right-clause-fault
returns-then-not-is_right-clause-fault c =
    let m = c.args.mission.now in
    let es = c.args.plan.now.extensions in
    let e = c.args.extension.now in
    let supports = c.as_slice-supports.result.now in
    let i = c.loop-i.i in
    let kept = c.loop-i.invariant.kept in
    let broken : KeepsSupportAt m es e (take i supports) (get_or supports i no_support) → ⊥ = λ h.
    let yes_is : c.is_right.result ≡ true = c.is_right.ensures.1 (subst (λ (l : List Kind). IsRightIn m l supports i) (sym c.requires.tokens) (right_of m es e supports i no_support c.loop-i-test.true kept h)) in
    absurd (let contra : true ≡ false = sym yes_is ∙ c.if-not-is_right.true in cc) in
    (c.requires.before, subst (λ l. IsFirstBreakAt (KeepsSupportAt m es e) l i) c.as_slice-supports.ensures (first_break_at (KeepsSupportAt m es e) supports i no_support c.loop-i-test.true kept broken))

pub overflow_cast-result : goal.overflow_cast-result
overflow_cast-result c =
    let fits = number_fits c.args.mission.now c.args.plan.now.extensions c.args.extension.now c.as_slice-supports.result.now c.loop-i.i no_support c.loop-i-test.true c.loop-i.invariant.kept c.requires.checked.mission c.requires.checked.rules c.requires.before.1.0 (inside_next c.args.mission.now c.args.plan.now.extensions c.args.extension.now c.requires.checked.rules c.requires.before.1.1.0) c.loop-i.invariant.number in
    omega (arith, fits)

pub overflow_cast-result-then-not-branch : goal.overflow_cast-result-then-not-branch
overflow_cast-result-then-not-branch c =
    let fits = number_fits c.args.mission.now c.args.plan.now.extensions c.args.extension.now c.as_slice-supports.result.now c.loop-i.i no_support c.loop-i-test.true c.loop-i.invariant.kept c.requires.checked.mission c.requires.checked.rules c.requires.before.1.0 (inside_next c.args.mission.now c.args.plan.now.extensions c.args.extension.now c.requires.checked.rules c.requires.before.1.1.0) c.loop-i.invariant.number in
    omega (arith, fits)

pub returns-then-not-branch-clause-fault : goal.returns-then-not-branch-clause-fault
returns-then-not-branch-clause-fault c =
    let m = c.args.mission.now in
    let es = c.args.plan.now.extensions in
    let e = c.args.extension.now in
    let supports = c.as_slice-supports.result.now in
    let i = c.loop-i.i in
    let s = get_or supports i no_support in
    let kept = c.loop-i.invariant.kept in
    let claimed : is_claimed c.loop-i.claims.set s.token s.need ≡ true = not_false (is_claimed c.loop-i.claims.set s.token s.need) (sym c.in_ok-insert.ensures.added ∙ c.if-not-branch.true) in
    let some : list_any (is_for s.token s.need) (supports_of es ++ take i supports) ≡ true = sym (c.loop-i.invariant.claims s.token s.need) ∙ claimed in
    let broken = not_twice m es e supports i no_support c.loop-i-test.true kept some in
    (c.requires.before, subst (λ l. IsFirstBreakAt (KeepsSupportAt m es e) l i) c.as_slice-supports.ensures (first_break_at (KeepsSupportAt m es e) supports i no_support c.loop-i-test.true kept broken))

pub loop-i-preserved : goal.loop-i-preserved
loop-i-preserved c =
    let m = c.args.mission.now in
    let es = c.args.plan.now.extensions in
    let e = c.args.extension.now in
    let supports = c.as_slice-supports.result.now in
    let i = c.loop-i.i in
    let s = get_or supports i no_support in
    let inv = c.loop-i.invariant in
    let right = subst (λ (l : List Kind). IsRightIn m l supports i) c.requires.tokens (c.is_right.ensures.0 c.if-not-is_right.false) in
    let serving : IsServingIn m (tokens_of (joined es e)) s = right.1 s (slice_get-get_or supports i no_support c.loop-i-test.true) in
    let unclaimed : is_claimed c.loop-i.claims.set s.token s.need ≡ false = not_true (is_claimed c.loop-i.claims.set s.token s.need) (sym c.in_ok-insert.ensures.added ∙ c.if-not-branch.false) in
    let none : list_any (is_for s.token s.need) (supports_of es ++ take i supports) ≡ false = sym (inv.claims s.token s.need) ∙ unclaimed in
    let next = kept_next m es e supports i no_support c.loop-i-test.true inv.kept right.0 serving none in
    let more : (supports_of es ++ take i supports) ++ s ∷ [] ≡ supports_of es ++ take (i + 1) supports = append_assoc (supports_of es) (take i supports) (s ∷ []) ∙ ap (λ l. supports_of es ++ l) (sym (take_more supports i no_support c.loop-i-test.true)) in
    record {
      kept = each_more (KeepsSupportAt m es e) supports i no_support c.loop-i-test.true inv.kept next;
      claims = subst (λ (l : List Support). AreClaims l c.insert.new.self.set) more (c.in_ok-insert.ensures.claims (supports_of es ++ take i supports) inv.claims);
      number = counted_next m es e supports i no_support c.loop-i-test.true inv.kept c.requires.checked.mission c.requires.checked.rules c.requires.before.1.0 (inside_next m es e c.requires.checked.rules c.requires.before.1.1.0) inv.number right.0 next.serving;
    }
