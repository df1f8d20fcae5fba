-- A fault excludes a checked plan, and two faults of an extension are of one rule.
use Rattle.std.proofs.Common.{◌≡◌, ◌≢◌, ℕ, ◌<◌, List, [], ◌∷◌, ◌++◌, refl, sym, ap, ◌∙◌, subst, arith, append_assoc, append-nil, inl, inr, Some}
use Rattle.std.proofs.lemmas.Int.{ints}
use Rattle.std.proofs.lemmas.Bool.{cases_lt}
use Rattle.std.specs.Prelude.{Contains, slice_get, ◌-ℤ◌, ◌≤ℤ◌}
use Rattle.std.specs.List.{AllByRecursion, position_or_len}
use Rattle.std.proofs.lemmas.List.Elements.{recursion_from_All}
use Rattle.hs_base.specs.declared.net.Bound.{Bound}
use Rattle.hs_base.specs.declared.mission.Kind.{Kind}
use Rattle.hs_base.specs.declared.mission.Mission.{Mission}
use Rattle.hs_base.specs.declared.plan.Extension.{Extension}
use Rattle.hs_base.specs.declared.fault.Fault.{Fault}
use Rattle.hs_base.specs.declared.fault.Fault.TheVariants.{Base, Limit as OverLimit, Order, Fixed, WrongSupport, Unsupported, Goal as NoGoal, Cycle, Memory as NoMemoryLeft}
use Rattle.hs_base.specs.Walks.{EachAfter}
use Rattle.hs_base.specs.Schedule.{Schedule, Meets, Holds}
use Rattle.hs_base.specs.Cycles.{Leads, total, IsNegativeCycle}
use Rattle.hs_base.specs.Points.{tokens_of}
use Rattle.hs_base.specs.Bounds.{bounds_of}
use Rattle.hs_base.specs.Checked.{joined, HasTokenOf, KeepsOrderAt, KeepsOrder, KeepsFixedAt, KeepsSupportAt, Rule, base, limits, order, fixed, supports, needs, goals, schedule, in_order, same_rule, before, Keeps, KeepsRules, Checked}
use Rattle.hs_base.specs.Faults.{IsFirstBreak, IsFirstBreakAt, IsMissingFirst, IsPassed, rule_of, Names, IsFault}
use Rattle.hs_base.proofs.RuleLemmas.{base_kept, limits_kept, order_kept, fixed_kept, supports_kept, needs_kept, goals_kept}
use Rattle.base_laws.proofs.ListLemmas.{each_at, EachAfter-push, slice_get-take}
use Rattle.base_laws.proofs.PointLemmas.{tokens-push}
use Rattle.plan_laws.proofs.ChainLemmas.{contained_at}

-- what holds of each holds of one between others
each_after_split : {X : Type 0} (P : List X → X → Type 0) (front before : List X) (x : X) (after : List X) → EachAfter P front (before ++ x ∷ after) → P (front ++ before) x
each_after_split P front [] x after h = subst (λ b. P b x) (sym (append-nil front)) h.0
each_after_split P front (y ∷ before) x after h = rw (← append_assoc front (y ∷ []) before) (each_after_split P (front ++ y ∷ []) before x after h.1)

no_break : {X : Type 0} (P : List X → X → Type 0) (xs before : List X) (x : X) → IsFirstBreak P xs before x → EachAfter P [] xs → ⊥
no_break P xs before x b h = b.broken (each_after_split P [] before x b.after (subst (EachAfter P []) b.split h))

pub no_break_at : {X : Type 0} (P : List X → X → Type 0) (xs : List X) (i : ℕ) → IsFirstBreakAt P xs i → EachAfter P [] xs → ⊥
no_break_at P xs i b h = no_break P xs b.0 b.1 b.2 h

-- no first token is missing where the order is kept
none_missing : (m : Mission) (es : List Extension) (e : Extension) (v : ℕ) → IsMissingFirst m es e.tokens v → KeepsOrder m es e → ⊥
none_missing m es e v b h = by_rest b.after refl
  where
    by_rest : (after : List Kind) → b.after ≡ after → ⊥
    by_rest [] none =
        let whole : tokens_of (joined es e) ≡ tokens_of es ++ b.before = tokens-push es e ∙ ap (λ l. tokens_of es ++ l) (b.split ∙ ap (λ l. b.before ++ l) none ∙ append-nil b.before) in
        b.missing.none (subst (λ (l : List Kind). HasTokenOf l v) whole (h.all v b.missing.below))
    by_rest (k ∷ ks) some =
        let tokens : e.tokens ≡ b.before ++ k ∷ ks = b.split ∙ ap (λ l. b.before ++ l) some in
        let here : KeepsOrderAt m es b.before k = each_after_split (KeepsOrderAt m es) [] b.before k ks (subst (EachAfter (KeepsOrderAt m es) []) tokens h.each) in
        let passed : v < k.sv.0 = subst (λ (l : List Kind). IsPassed l v) some b.passed in
        b.missing.none (here.firsts v passed)

-- along bounds that hold the times differ by no more than their sum
along : (s : Schedule) (p : ℕ) (bs : List Bound) (q : ℕ) → AllByRecursion (Holds s) bs → Leads p bs q → (s q -ℤ s p) ≤ℤ total bs
along s p [] q h leads = let same : s p ≡ s q = ap s leads in omega (arith, ints)
along s p (b ∷ bs) q h leads =
    let first : s b.from.0 ≡ s p = ap s leads.0 in
    omega (arith, ints, first, h.0, along s b.to.0 bs q h.1 leads.1)

-- a negative cycle of bounds has no schedule
pub no_cycle : (bounds cycle : List Bound) (s : Schedule) → IsNegativeCycle bounds cycle → Meets bounds s → ⊥
no_cycle bounds cycle s c h =
    let holds = each_given cycle (recursion_from_All (Contains bounds) cycle c.given) in
    absurd (omega (arith, ints, along s c.closed.0 cycle c.closed.0 holds c.closed.1, c.negative))
  where
    each_given : (bs : List Bound) → AllByRecursion (Contains bounds) bs → AllByRecursion (Holds s) bs
    each_given [] g = tt
    each_given (b ∷ bs) g = let at = contained_at bounds b g.0 in (each_at (Holds s) bounds at.0 b h.each at.1, each_given bs g.1)

-- a rule's place in their order
abbrev place : Rule → ℕ
place r = position_or_len (same_rule r) in_order

there : (r : Rule) → slice_get in_order (place r) ≡ Some r
there base = refl
there limits = refl
there order = refl
there fixed = refl
there supports = refl
there needs = refl
there goals = refl
there schedule = refl

same_place : (q r : Rule) → place q ≡ place r → q ≡ r
same_place q r same = let both : Some q ≡ Some r = sym (there q) ∙ ap (slice_get in_order) same ∙ there r in cc

-- what holds of the rules before one holds of each of them
earlier_kept : (P : Rule → Type 0) (q r : Rule) → place q < place r → AllByRecursion P (before r) → P q
earlier_kept P q r less kept = each_at P (before r) (place q) q kept (slice_get-take in_order (place q) (place r) less ∙ there q)

-- the rules of a checked plan's last extension
last_kept : (m : Mission) (es : List Extension) (e : Extension) → Checked m (joined es e) → KeepsRules m es e
last_kept m es e c = (EachAfter-push (KeepsRules m) [] es e c.rules).1

module _ (m : Mission) (es : List Extension) (e : Extension) where
  -- a fault's own rule isn't kept
  pub broken : (f : Fault) → f ≢ NoMemoryLeft → Names m es e f → Keeps m es e (rule_of f) → ⊥
  broken (Base g c) some n rule = n.0 rule
  broken (OverLimit p t) some n rule = n.0 rule
  broken (Order v p) some n rule = elim n [ inl b ↦ no_break (KeepsOrderAt m es) e.tokens b.before b.token b.first rule.each | inr b ↦ none_missing m es e v.0 b.0 rule ]
  broken (Fixed i) some n rule = elim n [ inl b ↦ no_break_at (KeepsFixedAt es e) e.fixed i b rule.each | inr b ↦ b.broken rule.since ]
  broken (WrongSupport i) some n rule = no_break_at (KeepsSupportAt m es e) e.supports i n rule
  broken (Unsupported v p i) some n rule = n.here.broken (rule.each (record { sv = v; place = p }) i n.here.need n.here.is_need)
  broken (NoGoal i) some n rule = n.broken (rule.each i)
  broken (Cycle bs) some n rule = no_cycle (bounds_of m (joined es e)) bs rule.0 n rule.1
  broken NoMemoryLeft some n rule = some refl

  -- the rules of a checked plan's last extension
  rules : Checked m (joined es e) → (r : Rule) → Keeps m es e r
  rules c base = base_kept (last_kept m es e c)
  rules c limits = limits_kept (last_kept m es e c)
  rules c order = order_kept (last_kept m es e c)
  rules c fixed = fixed_kept (last_kept m es e c)
  rules c supports = supports_kept (last_kept m es e c)
  rules c needs = needs_kept (last_kept m es e c)
  rules c goals = goals_kept (last_kept m es e c)
  rules c schedule = (c.schedule, c.meets)

  -- a fault excludes that the plan with the extension is checked
  pub not_checked : (f : Fault) → f ≢ NoMemoryLeft → IsFault m es e f → Checked m (joined es e) → ⊥
  not_checked f some is c = broken f some is.1 (rules c (rule_of f))

  -- two faults are of one rule: the one of an earlier rule would be of a rule that is kept
  pub one_rule : (f g : Fault) → f ≢ NoMemoryLeft → g ≢ NoMemoryLeft → IsFault m es e f → IsFault m es e g → rule_of f ≡ rule_of g
  one_rule f g some_f some_g is_f is_g = elim (cases_lt (place (rule_of f)) (place (rule_of g))) [
    | inl less ↦ absurd (broken f some_f is_f.1 (earlier_kept (Keeps m es e) (rule_of f) (rule_of g) less is_g.0))
    | inr more ↦ elim (cases_lt (place (rule_of g)) (place (rule_of f))) [
      | inl less ↦ absurd (broken g some_g is_g.1 (earlier_kept (Keeps m es e) (rule_of g) (rule_of f) less is_f.0))
      | inr same ↦ let here : place (rule_of f) ≡ place (rule_of g) = omega arith in same_place (rule_of f) (rule_of g) here
    ]
  ]
