-- Each schedule of a checked plan makes its timelines legal.
use Rattle.std.proofs.Common.{◌≡◌, ◌⊎◌, ℕ, zero, suc, ◌+◌, ◌-◌, ◌<◌, true, nat_eq, List, [], ◌∷◌, length, take, get_or, Some, refl, sym, ap, ◌∙◌, subst, arith, inl, inr}
use Rattle.std.proofs.lemmas.Int.{ints}
use Rattle.std.proofs.lemmas.Bool.{eqb-true, eq-eqb, and_parts}
use Rattle.std.proofs.lemmas.Option.{slice_get_within, slice_get-map, slice_get-get_or, get_or_from_slice_get}
use Rattle.std.proofs.lemmas.List.FromFn.{length-map-range_with_len}
use Rattle.std.specs.Prelude.{slice_get, Contains, option_map, ◌<ℤ◌}
use Rattle.std.specs.List.{AllByRecursion}
use Rattle.hs_base.specs.declared.mission.Kind.{Kind}
use Rattle.hs_base.specs.declared.mission.Value.{Value}
use Rattle.hs_base.specs.declared.mission.Var.{Var}
use Rattle.hs_base.specs.declared.mission.Choice.{Choice}
use Rattle.hs_base.specs.declared.mission.Need.{Need}
use Rattle.hs_base.specs.declared.mission.Goal.{Goal}
use Rattle.hs_base.specs.declared.mission.Horizon.{Horizon}
use Rattle.hs_base.specs.declared.mission.Mission.{Mission}
use Rattle.hs_base.specs.declared.plan.TokenRef.{TokenRef}
use Rattle.hs_base.specs.declared.plan.Support.{Support}
use Rattle.hs_base.specs.declared.plan.Extension.{Extension}
use Rattle.hs_base.specs.Schedule.{Schedule, numbers_from}
use Rattle.hs_base.specs.Ranges.{InRange}
use Rattle.hs_base.specs.Points.{ending, tokens_of, timeline_of, points_of, place_of, start_at, start, stop, value_of}
use Rattle.hs_base.specs.Needs.{same_kind, need_of, need_at, choice_by, is_deferrable}
use Rattle.hs_base.specs.Bounds.{IsScheduleOf}
use Rattle.hs_base.specs.Timelines.{Token, IsTimeline, LastsRightly, Spans, Relates, StandsAt, IsLastPlace, MeetsGoal, MeetsNeed, Legal, tokens_in, timelines}
use Rattle.hs_base.specs.Missions.{IsVar, IsChoice, IsNeed, IsGoal, IsHorizon}
use Rattle.hs_base.specs.Checked.{supports_of, KeepsNeeds, KeepsRules, Checked}
use Rattle.hs_base.proofs.RuleLemmas.{needs_kept}
use Rattle.base_laws.proofs.ListLemmas.{each_at, snoc_induction}
use Rattle.base_laws.proofs.PointLemmas.{named, of_variable}
use Rattle.plan_laws.proofs.ChainLemmas.{Chained, chained, has_tokens, timeline_is, value_there, contained_at}
use Rattle.plan_laws.proofs.LengthLemmas.{lengths_in, points_in, number_at}
use Rattle.plan_laws.proofs.SpanLemmas.{starts_in, ends_in}
use Rattle.plan_laws.proofs.GoalLemmas.{GoalAt, goals_at}
use Rattle.plan_laws.proofs.NeedLemmas.{ServedAt, all_served, relates, found_passes, found_at, filter_has}

-- token i of variable v in time
abbrev pub in_time : List Extension → Schedule → ℕ → ℕ → Kind → Token
in_time es s v i k = record { value = k.value.0; from = s (start_at es v i); to = s (place_of (ending v i) (points_of es)) }

-- the timelines of the variables
pub line_is : (m : Mission) (es : List Extension) (s : Schedule) (v : ℕ) (line : List Token) → slice_get (timelines m es s) v ≡ Some line → (v < length m.vars) × (line ≡ tokens_in es s v 0 (timeline_of (tokens_of es) v))
line_is m es s v line at =
    let f : ℕ → List Token = λ v. tokens_in es s v 0 (timeline_of (tokens_of es) v) in
    let below : v < length m.vars = omega (arith, slice_get_within (timelines m es s) v line at, length-map-range_with_len f 0 (length m.vars)) in
    let here : slice_get (numbers_from 0 (length m.vars)) v ≡ Some v = number_at 0 (length m.vars) v below ∙ (let e : 0 + v ≡ v = omega arith in ap Some e) in
    let found : Some (f v) ≡ Some line = sym (slice_get-map f (numbers_from 0 (length m.vars)) v ∙ ap (option_map f) here) ∙ at in
    (below, let same : f v ≡ line = cc in sym same)

-- and back
pub line_at : (m : Mission) (es : List Extension) (s : Schedule) (v : ℕ) → v < length m.vars → slice_get (timelines m es s) v ≡ Some (tokens_in es s v 0 (timeline_of (tokens_of es) v))
line_at m es s v below =
    let f : ℕ → List Token = λ v. tokens_in es s v 0 (timeline_of (tokens_of es) v) in
    let here : slice_get (numbers_from 0 (length m.vars)) v ≡ Some v = number_at 0 (length m.vars) v below ∙ (let e : 0 + v ≡ v = omega arith in ap Some e) in
    slice_get-map f (numbers_from 0 (length m.vars)) v ∙ ap (option_map f) here

-- the tokens of a timeline
tokens_in-at : (es : List Extension) (s : Schedule) (v a : ℕ) (ks : List Kind) (i : ℕ) (k : Kind) → slice_get ks i ≡ Some k → slice_get (tokens_in es s v a ks) i ≡ Some (in_time es s v (a + i) k)
tokens_in-at es s v a [] i k is = absurd (cc)
tokens_in-at es s v a (l ∷ ks) zero k is =
    let same : l ≡ k = cc in
    let e : a ≡ a + 0 = omega arith in
    ap (λ (x : Kind). Some (in_time es s v a x)) same ∙ ap (λ j. Some (in_time es s v j k)) e
tokens_in-at es s v a (l ∷ ks) (suc i) k is =
    let e : suc a + i ≡ a + suc i = omega arith in
    tokens_in-at es s v (suc a) ks i k is ∙ ap (λ j. Some (in_time es s v j k)) e

tokens_in-of : (es : List Extension) (s : Schedule) (v a : ℕ) (ks : List Kind) (i : ℕ) (x : Token) → slice_get (tokens_in es s v a ks) i ≡ Some x → (k : Kind) × (slice_get ks i ≡ Some k) × (x ≡ in_time es s v (a + i) k)
tokens_in-of es s v a [] i x is = absurd (cc)
tokens_in-of es s v a (l ∷ ks) zero x is =
    let e : a ≡ a + 0 = omega arith in
    let same : in_time es s v a l ≡ x = cc in
    (l, refl, sym same ∙ ap (λ j. in_time es s v j l) e)
tokens_in-of es s v a (l ∷ ks) (suc i) x is =
    let r = tokens_in-of es s v (suc a) ks i x is in
    let e : suc a + i ≡ a + suc i = omega arith in
    (r.0, r.1, r.2 ∙ ap (λ j. in_time es s v j r.0) e)

length-tokens_in : (es : List Extension) (s : Schedule) (v a : ℕ) (ks : List Kind) → length (tokens_in es s v a ks) ≡ length ks
length-tokens_in es s v a [] = refl
length-tokens_in es s v a (k ∷ ks) = ap suc (length-tokens_in es s v (suc a) ks)

-- what holds at each index holds of each
each_index : {X : Type 0} (P : X → Type 0) (xs : List X) → ((i : ℕ) (x : X) → slice_get xs i ≡ Some x → P x) → AllByRecursion P xs
each_index P [] f = tt
each_index P (x ∷ xs) f = (f 0 x refl, each_index P xs (λ i y is. f (suc i) y is))

-- what follows from two facts of each
each_and : {X : Type 0} (P Q R : X → Type 0) → ((x : X) → P x → Q x → R x) → (xs : List X) → AllByRecursion P xs → AllByRecursion Q xs → AllByRecursion R xs
each_and P Q R f [] p q = tt
each_and P Q R f (x ∷ xs) p q = (f x p.0 q.0, each_and P Q R f xs p.1 q.1)

-- what holds of each holds of the first ones
each_take : {X : Type 0} (P : X → Type 0) (n : ℕ) (xs : List X) → AllByRecursion P xs → AllByRecursion P (take n xs)
each_take P zero xs h = tt
each_take P (suc n) [] h = tt
each_take P (suc n) (x ∷ xs) h = (h.0, each_take P n xs h.1)

-- kinds are the same where variable and value are
same_kind_from : (a b : Kind) → a.sv.0 ≡ b.sv.0 → a.value.0 ≡ b.value.0 → same_kind a b ≡ true
same_kind_from a b v w = rw (v, w, eq-eqb b.sv.0 b.sv.0 refl, eq-eqb b.value.0 b.value.0 refl) refl

same_kind_parts : (a b : Kind) → same_kind a b ≡ true → (a.sv.0 ≡ b.sv.0) × (a.value.0 ≡ b.value.0)
same_kind_parts a b h = let p = and_parts (nat_eq a.sv.0 b.sv.0) (nat_eq a.value.0 b.value.0) h in (eqb-true _ _ p.0, eqb-true _ _ p.1)

-- the value of a token of a variable
value_here : (m : Mission) (k : Kind) (v : ℕ) (var : Var) → k.sv.0 ≡ v → slice_get m.vars v ≡ Some var → value_of m k ≡ slice_get var.values k.value.0
value_here m k v var same is = rw (same, value_of, is) refl

module _ (m : Mission) (es : List Extension) (s : Schedule) (c : Checked m es) (some : es ≡ [] → ⊥) (h : IsScheduleOf m es s) where
  abbrev pub ts : List (List Token)
  ts = timelines m es s

  chain : Chained m (tokens_of es)
  chain = chained m es c.rules

  linked : (v : ℕ) (var : Var) (line : List Token) → slice_get m.vars v ≡ Some var → slice_get ts v ≡ Some line → IsTimeline var line
  linked v var line is at = let l = line_is m es s v line at in subst (IsTimeline var) (sym l.1) (timeline_is m es s v var is h.origin chain (has_tokens m es c.rules some v l.0))

  -- a token of a timeline lasts as long as it may
  lasts : (v : ℕ) (var : Var) (i : ℕ) (k : Kind) → slice_get m.vars v ≡ Some var → slice_get (timeline_of (tokens_of es) v) i ≡ Some k → LastsRightly var (in_time es s v i k)
  lasts v var i k is at =
      let own : IsVar (length m.words) var = each_at (IsVar (length m.words)) m.vars v var c.mission.vars is in
      value_of_it var.values refl (value_there (length m.words) var (take i (timeline_of (tokens_of es) v)) k.value.0 own (chain.each v i k var at is))
    where
      value_of_it : (vs : List Value) → vs ≡ var.values → k.value.0 < length var.values → LastsRightly var (in_time es s v i k)
      value_of_it [] whole below = absurd (omega (arith, ap length whole))
      value_of_it (d ∷ vs) whole below =
          let val = get_or var.values k.value.0 d in
          let there : slice_get var.values k.value.0 ≡ Some val = slice_get-get_or var.values k.value.0 d below in
          let found : value_of m k ≡ Some val = value_here m k v var (of_variable (tokens_of es) v i k at) is ∙ there in
          let ends = (named es).ends_there v i (slice_get_within (timeline_of (tokens_of es) v) i k at) in
          let point = (points_in m s es h).each (place_of (ending v i) (points_of es)) (omega arith) ends in
          ((val, there, (lengths_in m s es h).each v i k val at found), omega (arith, ints, point.1, h.origin))

  lasting : (v : ℕ) (var : Var) (line : List Token) → slice_get m.vars v ≡ Some var → slice_get ts v ≡ Some line → AllByRecursion (LastsRightly var) line
  lasting v var line is at =
      let l = line_is m es s v line at in
      subst (AllByRecursion (LastsRightly var)) (sym l.1) (each_index (LastsRightly var) (tokens_in es s v 0 (timeline_of (tokens_of es) v)) each)
    where
      each : (i : ℕ) (x : Token) → slice_get (tokens_in es s v 0 (timeline_of (tokens_of es) v)) i ≡ Some x → LastsRightly var x
      each i x here =
          let r = tokens_in-of es s v 0 (timeline_of (tokens_of es) v) i x here in
          let e : 0 + i ≡ i = omega arith in
          subst (LastsRightly var) (sym (r.2 ∙ ap (λ j. in_time es s v j r.0) e)) (lasts v var i r.0 is r.1)

  one_each : length ts ≡ length m.vars
  one_each = length-map-range_with_len (λ v. tokens_in es s v 0 (timeline_of (tokens_of es) v)) 0 (length m.vars)

  spanning : (g : Horizon) → slice_get m.horizons (length es - 1) ≡ Some g → AllByRecursion (Spans g.tick) ts
  spanning g is = each_index (Spans g.tick) ts each
    where
      each : (v : ℕ) (line : List Token) → slice_get ts v ≡ Some line → Spans g.tick line
      each v line at =
          let l = line_is m es s v line at in
          let tl = timeline_of (tokens_of es) v in
          subst (Spans g.tick) (sym l.1) (each_index (λ t. t.from <ℤ g.tick) (tokens_in es s v 0 tl) from, to l.0)
        where
          from : (i : ℕ) (x : Token) → slice_get (tokens_in es s v 0 (timeline_of (tokens_of es) v)) i ≡ Some x → x.from <ℤ g.tick
          from i x here =
              let r = tokens_in-of es s v 0 (timeline_of (tokens_of es) v) i x here in
              let e : 0 + i ≡ i = omega arith in
              subst (λ (t : Token). t.from <ℤ g.tick) (sym (r.2 ∙ ap (λ j. in_time es s v j r.0) e)) ((starts_in m s es c.mission h).each g v i is (slice_get_within (timeline_of (tokens_of es) v) i r.0 r.1))

          to : v < length m.vars → (i : ℕ) (last : Token) → slice_get (tokens_in es s v 0 (timeline_of (tokens_of es) v)) i ≡ Some last → suc i ≡ length (tokens_in es s v 0 (timeline_of (tokens_of es) v)) → g.tick <ℤ last.to
          to below i last here size =
              let r = tokens_in-of es s v 0 (timeline_of (tokens_of es) v) i last here in
              let e : 0 + i ≡ i = omega arith in
              subst (λ (t : Token). g.tick <ℤ t.to) (sym (r.2 ∙ ap (λ j. in_time es s v j r.0) e)) ((ends_in m s es h).each g v i is below (size ∙ length-tokens_in es s v 0 (timeline_of (tokens_of es) v)))

  -- a token of the plan stands on its timeline
  stands : (kd k : Kind) (i : ℕ) → kd.sv.0 < length m.vars → slice_get (timeline_of (tokens_of es) kd.sv.0) i ≡ Some k → k.value.0 ≡ kd.value.0 → StandsAt ts kd i (in_time es s kd.sv.0 i k)
  stands kd k i below at value =
      let e : 0 + i ≡ i = omega arith in
      (tokens_in es s kd.sv.0 0 (timeline_of (tokens_of es) kd.sv.0), line_at m es s kd.sv.0 below, tokens_in-at es s kd.sv.0 0 (timeline_of (tokens_of es) kd.sv.0) i k at ∙ ap (λ j. Some (in_time es s kd.sv.0 j k)) e, value)

  goal_met : (g : Goal) → IsGoal m.vars g → GoalAt es s g → MeetsGoal ts g
  goal_met g is q =
      let below = slice_get_within m.vars g.kind.sv.0 is.kind.0 is.kind.1 in
      let same = of_variable (tokens_of es) q.token.sv.0 q.token.place g.kind q.is in
      let at : slice_get (timeline_of (tokens_of es) g.kind.sv.0) q.token.place ≡ Some g.kind = subst (λ (w : ℕ). slice_get (timeline_of (tokens_of es) w) q.token.place ≡ Some g.kind) (sym same) q.is in (
        q.token.place,
        in_time es s g.kind.sv.0 q.token.place g.kind,
        stands g.kind g.kind q.token.place below at refl,
        subst (λ (w : ℕ). InRange g.start (s (start_at es w q.token.place))) (sym same) q.start,
        subst (λ (w : ℕ). InRange g.stop (s (place_of (ending w q.token.place) (points_of es)))) (sym same) q.stop,
      )

  goals : AllByRecursion (λ (g : Horizon). AllByRecursion (MeetsGoal ts) g.goals) (take (length es) m.horizons)
  goals =
      each_and (λ (g : Horizon). IsHorizon m.vars g) (λ (g : Horizon). AllByRecursion (GoalAt es s) g.goals) (λ (g : Horizon). AllByRecursion (MeetsGoal ts) g.goals) of_horizon (take (length es) m.horizons) (each_take (λ (g : Horizon). IsHorizon m.vars g) (length es) m.horizons c.mission.horizons) (goals_at m s es c.rules h).each
    where
      of_horizon : (g : Horizon) → IsHorizon m.vars g → AllByRecursion (GoalAt es s) g.goals → AllByRecursion (MeetsGoal ts) g.goals
      of_horizon g is q = each_and (IsGoal m.vars) (GoalAt es s) (MeetsGoal ts) goal_met g.goals is.goals q

  -- a support serves the need of its token
  need_met : (n : Need) (i : ℕ) (k : Kind) (x : Token) (j : ℕ) (r : Support) → IsNeed m.vars n → x ≡ in_time es s n.of.sv.0 i k → need_at m es (record { sv = n.of.sv; place = i }) j ≡ Some n → r.token ≡ record { sv = n.of.sv; place = i } → r.need ≡ j → ServedAt m s es r → MeetsNeed ts n x
  need_met n i k x j r is x_is need token number q =
      let named_need : Some q.need ≡ Some n = sym q.has_need ∙ ap (λ (t : TokenRef). need_at m es t r.need) token ∙ ap (need_at m es (record { sv = n.of.sv; place = i })) number ∙ need in
      let same_need : q.need ≡ n = cc in
      let found : choice_by n q.kind ≡ Some q.choice = subst (λ (y : Need). choice_by y q.kind ≡ Some q.choice) same_need q.serves in
      let ch = q.choice in
      let there = found_at (λ (y : Choice). same_kind y.by q.kind) n.either ch found in
      let passes : same_kind ch.by q.kind ≡ true = found_passes (λ (y : Choice). same_kind y.by q.kind) n.either ch found in
      let choice : IsChoice m.vars n.of ch = each_at (IsChoice m.vars n.of) n.either there.0 ch is.choices there.1 in
      let below = slice_get_within m.vars ch.by.sv.0 choice.kind.0 choice.kind.1 in
      let parts = same_kind_parts ch.by q.kind passes in
      let variable : ch.by.sv.0 ≡ r.by.sv.0 = parts.0 ∙ of_variable (tokens_of es) r.by.sv.0 r.by.place q.kind q.has_token in
      let at : slice_get (timeline_of (tokens_of es) ch.by.sv.0) r.by.place ≡ Some q.kind = subst (λ (w : ℕ). slice_get (timeline_of (tokens_of es) w) r.by.place ≡ Some q.kind) (sym variable) q.has_token in
      let y = in_time es s ch.by.sv.0 r.by.place q.kind in
      let holds = relates s ch.relation k.value.0 q.kind.value.0 (start es r.token) (stop es r.token) (start es r.by) (stop es r.by) q.holds in
      let with_token = subst (λ (t : TokenRef). Relates ch.relation (record { value = k.value.0; from = s (start es t); to = s (stop es t) }) (record { value = q.kind.value.0; from = s (start es r.by); to = s (stop es r.by) })) token holds in
      let with_by = subst (λ (w : ℕ). Relates ch.relation (in_time es s n.of.sv.0 i k) (record { value = q.kind.value.0; from = s (start_at es w r.by.place); to = s (place_of (ending w r.by.place) (points_of es)) })) (sym variable) with_token in
      (ch, r.by.place, y, (there.0, slice_get_within n.either there.0 ch there.1, get_or_from_slice_get n.either there.0 ch ch there.1), stands ch.by q.kind r.by.place below at (sym parts.1), subst (λ (t : Token). Relates ch.relation t y) (sym x_is) with_by)

  kept : KeepsNeeds m es
  kept = snoc_induction (λ es. (es ≡ [] → ⊥) → KeepsNeeds m es) (KeepsRules m) (λ before e r p some. needs_kept r) [] es (λ some. absurd (some refl)) c.rules some

  needs : (n : Need) (i : ℕ) (x : Token) → Contains m.needs n → StandsAt ts n.of i x → MeetsNeed ts n x ⊎ ((is_deferrable n ≡ true) × IsLastPlace ts n.of i)
  needs n i x has st =
      let v = n.of.sv.0 in
      let tl = timeline_of (tokens_of es) v in
      let l = line_is m es s v st.0 st.1 in
      let r = tokens_in-of es s v 0 tl i x (subst (λ (line : List Token). slice_get line i ≡ Some x) l.1 st.2) in
      let k = r.0 in
      let e : 0 + i ≡ i = omega arith in
      let x_is : x ≡ in_time es s v i k = r.2 ∙ ap (λ j. in_time es s v j k) e in
      let sv_same = of_variable (tokens_of es) v i k r.1 in
      let value_same : k.value.0 ≡ n.of.value.0 = sym (ap (λ (t : Token). t.value) x_is) ∙ st.3 in
      let passes = same_kind_from n.of k (sym sv_same) (sym value_same) in
      let at = contained_at m.needs n has in
      let f = filter_has (λ (q : Need). same_kind q.of k) m.needs at.0 n at.1 passes in
      let is : IsNeed m.vars n = each_at (IsNeed m.vars) m.needs at.0 n c.mission.needs at.1 in
      let need : need_at m es (record { sv = n.of.sv; place = i }) f.0 ≡ Some n = ap (λ o. need_of m o f.0) r.1 ∙ f.1 in
      elim (kept.each (record { sv = n.of.sv; place = i }) f.0 n need) [
        | inl w ↦
            let sup = contained_at (supports_of es) w.0 w.1 in
            let q = each_at (ServedAt m s es) (supports_of es) sup.0 w.0 (all_served m s es c.rules h).each sup.1 in
            inl (need_met n i k x f.0 w.0 is x_is need w.2 w.3 q)
        | inr w ↦ inr (w.0, (st.0, st.1, w.1 ∙ sym (ap length l.1 ∙ length-tokens_in es s v 0 tl)))
      ]

  -- the timelines are legal
  pub legal : Legal m (length es) ts
  legal = record { one_each = one_each; linked = linked; lasting = lasting; spanning = spanning; goals = goals; needs = needs }
