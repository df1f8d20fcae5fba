-- The tokens of a plan are of the mission's variables and values.
use Rattle.std.proofs.Common.{◌≡◌, ℕ, ◌<◌, false, nat_eq, List, [], ◌∷◌, ◌++◌, get_or, length, slice_get, take, Option, Some, None, sym, ap, ◌∙◌, subst}
use Rattle.std.proofs.lemmas.Option.{slice_get-get_or, slice_get_within}
use Rattle.std.specs.List.{AllByRecursion}
use Rattle.hs_base.specs.Checked.{Checked, KeepsOrderAt, KeepsRules}
use Rattle.hs_base.specs.Missions.{IsVar}
use Rattle.hs_base.specs.Points.{timeline_of, tokens_of, value_of}
use Rattle.hs_base.specs.Ranges.{whole}
use Rattle.hs_base.specs.Walks.{EachAfter}
use Rattle.hs_base.specs.declared.mission.Kind.{Kind}
use Rattle.hs_base.specs.declared.mission.Mission.{Mission}
use Rattle.hs_base.specs.declared.mission.Value.{Value}
use Rattle.hs_base.specs.declared.mission.Var.{Var}
use Rattle.hs_base.specs.declared.plan.Extension.{Extension}
use Rattle.hs_base.proofs.RuleLemmas.{order_kept}
use Rattle.base_laws.proofs.ListLemmas.{each_at, each_both, snoc_induction}
use Rattle.base_laws.proofs.MissionLemmas.{each_filter}
use Rattle.base_laws.proofs.PointLemmas.{of_variable, tokens-push}
use Rattle.plan_laws.proofs.ChainLemmas.{chained, value_there}

-- what follows from a rule holds of each element that keeps it with those before
pub each_from : {X : Type 0} (P : List X → X → Type 0) (Q : X → Type 0) → ((before : List X) (x : X) → P before x → Q x) → (before xs : List X) → EachAfter P before xs → AllByRecursion Q xs
each_from P Q f before [] h = tt
each_from P Q f before (x ∷ xs) h = (f before x h.0, each_from P Q f (before ++ x ∷ []) xs h.1)

-- the tokens of a plan are of the mission's variables
pub tokens_inside : (m : Mission) (es : List Extension) → EachAfter (KeepsRules m) [] es → AllByRecursion (λ (k : Kind). k.sv.0 < length m.vars) (tokens_of es)
tokens_inside m es rules = snoc_induction (λ es. AllByRecursion (λ (k : Kind). k.sv.0 < length m.vars) (tokens_of es)) (KeepsRules m) step [] es tt rules
  where
    step : (before : List Extension) (e : Extension) → KeepsRules m before e → AllByRecursion (λ (k : Kind). k.sv.0 < length m.vars) (tokens_of before) → AllByRecursion (λ (k : Kind). k.sv.0 < length m.vars) (tokens_of (before ++ e ∷ []))
    step before e r h =
        subst (AllByRecursion (λ (k : Kind). k.sv.0 < length m.vars)) (sym (tokens-push before e))
        (each_both (λ (k : Kind). k.sv.0 < length m.vars) (tokens_of before) e.tokens h
        (each_from (KeepsOrderAt m before) (λ (k : Kind). k.sv.0 < length m.vars) (λ new k o. slice_get_within m.vars k.sv.0 o.var o.is_var) [] e.tokens (order_kept r).each))

-- a token of a checked plan has a value of the mission
pub value_at : (m : Mission) (es : List Extension) → Checked m es → (v i : ℕ) (k : Kind) → slice_get (timeline_of (tokens_of es) v) i ≡ Some k → (value : Value) × (value_of m k ≡ Some value)
value_at m es checked v i k is =
    let variable = of_variable (tokens_of es) v i k is in
    let all = each_filter (λ (k : Kind). k.sv.0 < length m.vars) (λ k. nat_eq k.sv.0 v) (tokens_of es) (tokens_inside m es checked.rules) in
    let below = each_at (λ (k : Kind). k.sv.0 < length m.vars) (timeline_of (tokens_of es) v) i k all is in
    let var = get_or m.vars k.sv.0 (record { name = []; values = []; begin = record { 0 = 0 } }) in
    let is_var : slice_get m.vars k.sv.0 ≡ Some var = slice_get-get_or m.vars k.sv.0 _ below in
    let at_v : slice_get m.vars v ≡ Some var = ap (slice_get m.vars) (sym variable) ∙ is_var in
    let good : IsVar (length m.words) var = each_at (IsVar (length m.words)) m.vars k.sv.0 var checked.mission.vars is_var in
    let inside = value_there (length m.words) var (take i (timeline_of (tokens_of es) v)) k.value.0 good ((chained m es checked.rules).each v i k var is at_v) in
    let value = get_or var.values k.value.0 (record { name = []; lasts = whole; by_device = false; next = []; script = []; answers = [] }) in
    (value, ap (λ (o : Option Var). elim o [ None ↦ None | Some var ↦ slice_get var.values k.value.0 ]) is_var ∙ slice_get-get_or var.values k.value.0 _ inside)
