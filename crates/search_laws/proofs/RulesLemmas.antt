-- The plan with the extension of a partial plan without flaw is checked.
use Rattle.std.proofs.Common.{◌≡◌, ℕ, zero, suc, ◌+◌, ◌<◌, List, [], ◌∷◌, ◌++◌, append-nil, flat_map, length, length-append, slice_get, Option, Some, None, refl, sym, ap, ◌∙◌, subst, arith, inl, inr}
use Rattle.std.proofs.lemmas.Bool.{cases_lt}
use Rattle.std.proofs.lemmas.Grind.{flat_map-append}
use Rattle.std.proofs.lemmas.Option.{slice_get-get_or, slice_get_past, slice_get_within}
use Rattle.std.specs.List.{AllByRecursion}
use Rattle.std.specs.Prelude.{get_or}
use Rattle.hs_base.specs.Bounds.{goals_of, on_some}
use Rattle.hs_base.specs.Checked.{Checked, IsEntryOf, KeepsBase, KeepsFixed, KeepsFixedAt, KeepsGoals, KeepsLimits, KeepsNeeds, KeepsRules, fixed_of, joined}
use Rattle.hs_base.specs.Points.{tokens_of}
use Rattle.hs_base.specs.Ranges.{whole}
use Rattle.hs_base.specs.Schedule.{Meets, Schedule}
use Rattle.hs_base.specs.declared.mission.Goal.{Goal}
use Rattle.hs_base.specs.declared.mission.Kind.{Kind}
use Rattle.hs_base.specs.declared.mission.Mission.{Mission}
use Rattle.hs_base.specs.declared.plan.Extension.{Extension}
use Rattle.hs_base.specs.declared.plan.TokenRef.{TokenRef}
use Rattle.base_laws.proofs.ListLemmas.{EachAfter-more, each_weaker}
use Rattle.base_laws.proofs.PointLemmas.{tokens-push}
use Rattle.plan_laws.proofs.InsideLemmas.{tokens_inside}
use Rattle.search_laws.proofs.OrderLemmas.{keeps_order}
use Rattle.search_laws.proofs.RiseLemmas.{EachAfter-weaker}
use Rattle.search_laws.proofs.ServedLemmas.{goals_none, served}
use Rattle.search_laws.proofs.SupportLemmas.{keeps_supports, named_kind}
use Rattle.search_laws.proofs.TokenLemmas.{cells_count, given_all, length_kinds}
use Rattle.search_laws.specs.Good.{IsGood}
use Rattle.search_laws.specs.Lawful.{IsLawful, IsWithin}
use Rattle.search_tree.proofs.NodeLemmas.{whole_plan}
use Rattle.search_tree.proofs.PlanOfNode.{plan_meets}
use Rattle.search_tree.specs.Begun.{Begun, number, pending}
use Rattle.search_tree.specs.Extends.{extension, ref_of}
use Rattle.search_tree.specs.Flaws.{flat_map_from, flaws, goal_flaws}
use Rattle.search_tree.specs.Outset.{MayBegin}
use Rattle.search_tree.specs.Partial.{Partial}
use Rattle.search_tree.specs.PartialBounds.{partial_bounds}
use Rattle.search_tree.specs.Renamed.{node_point}
use Rattle.search_tree.specs.Sound.{IsGoalIn, IsIn}
use Rattle.search_tree.specs.declared.held.Held.{Held}

-- the goals' names
pub goal_named : (p : Partial) (w i : ℕ) (os : List (Option Held)) → flat_map_from goal_flaws w os ≡ [] → AllByRecursion (IsGoalIn p) os → i < length os → (x : Held) × (slice_get os i ≡ Some (Some x)) × IsIn p x × (slice_get (flat_map (λ o. on_some o (λ x. ref_of p x ∷ [])) os) i ≡ Some (ref_of p x))
goal_named p w i [] none are below = absurd (omega arith)
goal_named p w i (None ∷ os) none are below = absurd (cc)
goal_named p w zero (Some x ∷ os) none are below = (x, refl, are.0, refl)
goal_named p w (suc i) (Some x ∷ os) none are below = goal_named p (suc w) i os none are.1 (omega arith)

pub all_named : (p : Partial) (w : ℕ) (os : List (Option Held)) → flat_map_from goal_flaws w os ≡ [] → length (flat_map (λ o. on_some o (λ x. ref_of p x ∷ [])) os) ≡ length os
all_named p w [] none = refl
all_named p w (None ∷ os) none = absurd (cc)
all_named p w (Some x ∷ os) none = ap suc (all_named p (suc w) os none)

module _ (m : Mission) (b : Begun) (p : Partial) (t : Schedule) (may : MayBegin m b) (good : IsGood m b p) (lawful : IsLawful m b p) (within : IsWithin b p) (flawless : flaws m b p ≡ []) (meets : Meets (partial_bounds m b p) t) where
  abbrev pub es : List Extension
  es = whole_plan m b p

  keeps_goals : KeepsGoals m b.base (extension m b p)
  keeps_goals = record { each = each }
    where
      each : (i : ℕ) → IsEntryOf es (slice_get (goals_of m (length b.base + 1)) i) (slice_get (extension m b p).goals i)
      each i =
          let size : number b ≡ length b.base + 1 = omega arith in
          let none = goals_none m b p may good lawful flawless in
          let all = all_named p 0 p.goals none in
          subst (λ k. IsEntryOf es (slice_get (goals_of m k) i) (slice_get (extension m b p).goals i)) size (elim (cases_lt i (length p.goals)) [
            | inl below ↦
                let n = goal_named p 0 i p.goals none good.sound.goals below in
                let none_such : Goal = record { kind = (n.0).kind; start = whole; stop = whole } in
                let g : Goal = get_or (goals_of m (number b)) i none_such in
                let wanted : slice_get (goals_of m (number b)) i ≡ Some g = slice_get-get_or (goals_of m (number b)) i none_such (let e = lawful.one_each in omega arith) in
                let kind : (n.0).kind ≡ g.kind = lawful.goals i g n.0 wanted n.1 in
                subst (λ (o : Option Goal). IsEntryOf es o (slice_get (extension m b p).goals i)) (sym wanted) (subst (λ (o : Option TokenRef). IsEntryOf es (Some g) o) (sym n.3) (named_kind m b p t may good lawful flawless meets n.0 n.2 ∙ ap Some kind))
            | inr past ↦
                let no_goal : slice_get (goals_of m (number b)) i ≡ None = slice_get_past (goals_of m (number b)) i (let e = lawful.one_each in omega arith) in
                let no_entry : slice_get (extension m b p).goals i ≡ None = slice_get_past (extension m b p).goals i (omega arith) in
                subst (λ (o : Option Goal). IsEntryOf es o (slice_get (extension m b p).goals i)) (sym no_goal) (subst (λ (o : Option TokenRef). IsEntryOf es None o) (sym no_entry) tt)
          ])

  keeps_limits : KeepsLimits b.base (extension m b p)
  keeps_limits = record {
    tokens = let few = good.few in omega (arith, length_kinds p.rows);
    points =
        let inside = each_weaker (λ (k : Kind). k.sv.0 < length m.vars) (λ (k : Kind). k.sv.0 < length p.rows) (λ k l. let e = good.sound.one_each in omega arith) (tokens_of b.base) (tokens_inside m b.base may.checked.rules) in
        let fixed : fixed_of es ≡ fixed_of b.base ++ b.fixed = flat_map-append (λ (x : Extension). x.fixed) b.base (extension m b p ∷ []) ∙ ap (λ l. fixed_of b.base ++ l) (append-nil b.fixed) in
        omega (arith, within, length_kinds p.rows, cells_count p.rows, given_all b p.rows good.sound.rows inside, length-append b.base (extension m b p ∷ []), ap length (tokens-push b.base (extension m b p)), length-append (tokens_of b.base) (extension m b p).tokens, ap length fixed, length-append (fixed_of b.base) b.fixed);
  }

  keeps_fixed : KeepsFixed b.base (extension m b p)
  keeps_fixed = record {
    each = EachAfter-weaker (KeepsFixedAt b.base (pending b)) (KeepsFixedAt b.base (extension m b p)) (λ before f h. record { not_origin = h.not_origin; below = h.below; new = h.new; rising = h.rising; at = h.at }) [] b.fixed may.fixed.each;
    since = may.fixed.since;
  }

  pub keeps_rules : KeepsRules m b.base (extension m b p)
  keeps_rules =
      let base : KeepsBase m b.base (extension m b p) = record { base = refl; horizon_left = slice_get_within m.horizons (length b.base) may.horizon may.is_horizon } in
      let order = keeps_order m b p t may good lawful flawless meets in
      let supports = keeps_supports m b p t may good lawful flawless meets in
      let needs : KeepsNeeds m (joined b.base (extension m b p)) = record { each = served m b p may good lawful flawless } in
      record { each = (base, (keeps_limits, (order, (keeps_fixed, (supports, (needs, (keeps_goals, tt))))))) }

  pub plan_checked : Checked m (joined b.base (extension m b p))
  plan_checked = record {
    mission = may.checked.mission;
    schedule = λ x. t (node_point m b p x);
    meets = plan_meets m b p t good.sound flawless meets;
    rules = EachAfter-more (KeepsRules m) [] b.base (extension m b p) may.checked.rules keeps_rules;
  }
