-- In a checked plan each value may stand where it does.
use Rattle.std.proofs.Common.{◌≡◌, ℕ, suc, ◌<◌, ◌≤◌, pos, nat_eq, List, [], ◌∷◌, ◌++◌, length, take, Some, refl, sym, ap, ◌∙◌, subst, arith, append_assoc, append-nil, inl, inr, length-append}
use Rattle.std.proofs.lemmas.Bool.{cases_lt, cases_Bool, eqb-true}
use Rattle.std.proofs.lemmas.List.{take-append-le, take_at}
use Rattle.std.proofs.lemmas.Option.{slice_get_within, slice_get-get_or}
use Rattle.std.specs.Prelude.{slice_get, Contains}
use Rattle.hs_base.specs.declared.ids.ValId.{ValId}
use Rattle.hs_base.specs.declared.mission.Kind.{Kind}
use Rattle.hs_base.specs.declared.mission.Var.{Var}
use Rattle.hs_base.specs.declared.mission.Mission.{Mission}
use Rattle.hs_base.specs.declared.plan.Extension.{Extension}
use Rattle.hs_base.specs.Walks.{EachAfter}
use Rattle.hs_base.specs.Schedule.{Schedule}
use Rattle.hs_base.specs.Points.{tokens_of, timeline_of, start_at}
use Rattle.hs_base.specs.Timelines.{MayFollow, Continues, IsTimeline, tokens_in}
use Rattle.hs_base.specs.Missions.{IsValue, IsVar}
use Rattle.hs_base.specs.Checked.{MayStandBehind, HasTokenOf, KeepsOrderAt, KeepsRules}
use Rattle.hs_base.proofs.RuleLemmas.{order_kept}
use Rattle.base_laws.proofs.ListLemmas.{each_at, slice_get-append_left, slice_get-middle, snoc_induction}
use Rattle.base_laws.proofs.PointLemmas.{timeline-append, length-timeline_own, timeline_own, timeline_other, tokens-push}

-- each token's value may stand behind those before it on its timeline
pub record Chained (m : Mission) (ts : List Kind) : Type 0 where
  pub each : (v i : ℕ) (k : Kind) (var : Var) → slice_get (timeline_of ts v) i ≡ Some k → slice_get m.vars v ≡ Some var → MayStandBehind var (take i (timeline_of ts v)) k.value.0

-- one more token
pub chained-push : (m : Mission) (ts : List Kind) (t : Kind) (own : Var) → slice_get m.vars t.sv.0 ≡ Some own → MayStandBehind own (timeline_of ts t.sv.0) t.value.0 → Chained m ts → Chained m (ts ++ t ∷ [])
chained-push m ts t own is_own behind h = record { each = each }
  where
    each : (v i : ℕ) (k : Kind) (var : Var) → slice_get (timeline_of (ts ++ t ∷ []) v) i ≡ Some k → slice_get m.vars v ≡ Some var → MayStandBehind var (take i (timeline_of (ts ++ t ∷ []) v)) k.value.0
    each v i k var at is = elim (cases_lt i (length (timeline_of ts v))) [
      | inl old ↦
          let whole = timeline-append ts (t ∷ []) v in
          let there : slice_get (timeline_of ts v) i ≡ Some k = sym (slice_get-append_left (timeline_of ts v) (timeline_of (t ∷ []) v) i old) ∙ ap (λ l. slice_get l i) (sym whole) ∙ at in
          let front : take i (timeline_of (ts ++ t ∷ []) v) ≡ take i (timeline_of ts v) = ap (take i) whole ∙ take-append-le i (timeline_of ts v) (timeline_of (t ∷ []) v) (omega arith) in
          subst (λ (l : List Kind). MayStandBehind var l k.value.0) (sym front) (h.each v i k var there is)
      | inr new ↦ elim (cases_Bool (nat_eq t.sv.0 v)) [
        | inr apart ↦ absurd (omega (arith, slice_get_within (timeline_of (ts ++ t ∷ []) v) i k at, ap length (timeline_other ts t v apart)))
        | inl same ↦ subst (λ (w : ℕ). slice_get (timeline_of (ts ++ t ∷ []) w) i ≡ Some k → slice_get m.vars w ≡ Some var → length (timeline_of ts w) ≤ i → MayStandBehind var (take i (timeline_of (ts ++ t ∷ []) w)) k.value.0) (eqb-true _ _ same) (last i k var) at is new
      ]
    ]
      where
        last : (i : ℕ) (k : Kind) (var : Var) → slice_get (timeline_of (ts ++ t ∷ []) t.sv.0) i ≡ Some k → slice_get m.vars t.sv.0 ≡ Some var → length (timeline_of ts t.sv.0) ≤ i → MayStandBehind var (take i (timeline_of (ts ++ t ∷ []) t.sv.0)) k.value.0
        last i k var at is new =
            let tl = timeline_of ts t.sv.0 in
            let whole : timeline_of (ts ++ t ∷ []) t.sv.0 ≡ tl ++ t ∷ [] = timeline_own ts t in
            let place : i ≡ length tl = omega (arith, slice_get_within (timeline_of (ts ++ t ∷ []) t.sv.0) i k at, length-timeline_own ts t) in
            let found : Some t ≡ Some k = sym (slice_get-middle tl t []) ∙ ap (λ l. slice_get l (length tl)) (sym whole) ∙ ap (slice_get (timeline_of (ts ++ t ∷ []) t.sv.0)) (sym place) ∙ at in
            let same : t ≡ k = cc in
            let vars : Some own ≡ Some var = sym is_own ∙ is in
            let same_var : own ≡ var = cc in
            let front : take i (timeline_of (ts ++ t ∷ []) t.sv.0) ≡ tl = ap (take i) whole ∙ take_at tl (t ∷ []) i (sym place) in
            subst (λ (l : List Kind). MayStandBehind var l k.value.0) (sym front) (subst (λ (x : Kind). MayStandBehind var tl x.value.0) same (subst (λ (x : Var). MayStandBehind x tl t.value.0) same_var behind))

-- one more extension
chained-extension : (m : Mission) (es : List Extension) (e : Extension) → EachAfter (KeepsOrderAt m es) [] e.tokens → Chained m (tokens_of es) → Chained m (tokens_of (es ++ e ∷ []))
chained-extension m es e order h =
    subst (Chained m) (sym (tokens-push es e)) (snoc_induction (λ new. Chained m (tokens_of es ++ new)) (KeepsOrderAt m es) step [] e.tokens (subst (Chained m) (sym (append-nil (tokens_of es))) h) order)
  where
    step : (new : List Kind) (t : Kind) → KeepsOrderAt m es new t → Chained m (tokens_of es ++ new) → Chained m (tokens_of es ++ (new ++ t ∷ []))
    step new t r p = subst (Chained m) (append_assoc (tokens_of es) new (t ∷ [])) (chained-push m (tokens_of es ++ new) t r.var r.is_var r.linked p)

chained_none : (m : Mission) → Chained m []
chained_none m = record { each = λ v i k var at is. absurd (cc) }

-- all extensions
pub chained : (m : Mission) (es : List Extension) → EachAfter (KeepsRules m) [] es → Chained m (tokens_of es)
chained m es rules = snoc_induction (λ es. Chained m (tokens_of es)) (KeepsRules m) (λ before e r h. chained-extension m before e (order_kept r).each h) [] es (chained_none m) rules

-- each timeline of a plan with an extension has a token
pub has_tokens : (m : Mission) (es : List Extension) → EachAfter (KeepsRules m) [] es → (es ≡ [] → ⊥) → (v : ℕ) → v < length m.vars → HasTokenOf (tokens_of es) v
has_tokens m es rules = snoc_induction (λ es. (es ≡ [] → ⊥) → (v : ℕ) → v < length m.vars → HasTokenOf (tokens_of es) v) (KeepsRules m) (λ before e r h some. (order_kept r).all) [] es (λ some. absurd (some refl)) rules

-- what may stand behind others may follow the last of them
behind_last : (var : Var) (front : List Kind) (prev : Kind) (value : ℕ) → MayStandBehind var (front ++ prev ∷ []) value → MayFollow var prev.value.0 value
behind_last var [] prev value h = h
behind_last var (a ∷ []) prev value h = h
behind_last var (a ∷ b ∷ front) prev value h = behind_last var (b ∷ front) prev value h

-- the tokens of a timeline from a place on continue those before it
continues : (m : Mission) (es : List Extension) (s : Schedule) (v : ℕ) (var : Var) → slice_get m.vars v ≡ Some var → Chained m (tokens_of es) → (front : List Kind) (prev : Kind) (ks : List Kind) (i : ℕ) → timeline_of (tokens_of es) v ≡ (front ++ prev ∷ []) ++ ks → i ≡ length (front ++ prev ∷ []) → Continues var prev.value.0 (s (start_at es v i)) (tokens_in es s v i ks)
continues m es s v var is h front prev [] i whole at = tt
continues m es s v var is h front prev (k ∷ ks) i whole at =
    let before = front ++ prev ∷ [] in
    let here : slice_get (timeline_of (tokens_of es) v) i ≡ Some k = ap (λ l. slice_get l i) whole ∙ ap (slice_get (before ++ k ∷ ks)) at ∙ slice_get-middle before k ks in
    let back : take i (timeline_of (tokens_of es) v) ≡ before = ap (take i) whole ∙ take_at before (k ∷ ks) i (sym at) in
    let follows : MayFollow var prev.value.0 k.value.0 = behind_last var front prev k.value.0 (subst (λ (l : List Kind). MayStandBehind var l k.value.0) back (h.each v i k var here is)) in
    let next : timeline_of (tokens_of es) v ≡ (before ++ k ∷ []) ++ ks = whole ∙ sym (append_assoc before (k ∷ []) ks) in
    let count : suc i ≡ length (before ++ k ∷ []) = omega (arith, at, length-append before (k ∷ [])) in
    (refl, follows, continues m es s v var is h before k ks (suc i) next count)

-- the timelines of a checked plan are linked
pub timeline_is : (m : Mission) (es : List Extension) (s : Schedule) (v : ℕ) (var : Var) → slice_get m.vars v ≡ Some var → s 0 ≡ pos 0 → Chained m (tokens_of es) → HasTokenOf (tokens_of es) v → IsTimeline var (tokens_in es s v 0 (timeline_of (tokens_of es) v))
timeline_is m es s v var is zero_at h some = by_case (timeline_of (tokens_of es) v) refl
  where
    by_case : (ks : List Kind) → timeline_of (tokens_of es) v ≡ ks → IsTimeline var (tokens_in es s v 0 ks)
    by_case [] none = absurd (omega (arith, ap length none, some))
    by_case (k ∷ ks) whole =
        let here : slice_get (timeline_of (tokens_of es) v) 0 ≡ Some k = ap (λ l. slice_get l 0) whole in
        let first : MayStandBehind var [] k.value.0 = h.each v 0 k var here is in
        (first, zero_at, continues m es s v var is h [] k ks 1 whole refl)

-- what is contained stands at some index
pub contained_at : {X : Type 0} (xs : List X) (x : X) → Contains xs x → (j : ℕ) × (slice_get xs j ≡ Some x)
contained_at xs x c = (c.0, slice_get-get_or xs c.0 x c.1 ∙ ap Some c.2)

-- a value that may stand somewhere is one of the variable
pub value_there : (words : ℕ) (var : Var) (ks : List Kind) (value : ℕ) → IsVar words var → MayStandBehind var ks value → value < length var.values
value_there words var [] value h behind = omega (arith, behind, h.begin)
value_there words var (k ∷ []) value h behind =
    let is : IsValue words (length var.values) behind.0 = each_at (IsValue words (length var.values)) var.values k.value.0 behind.0 h.values behind.1 in
    let at = contained_at behind.0.next (record { 0 = value }) behind.2 in
    each_at (λ (i : ValId). i.0 < length var.values) behind.0.next at.0 (record { 0 = value }) is.next at.1
value_there words var (k ∷ l ∷ ks) value h behind = value_there words var (l ∷ ks) value h behind
