-- What the execution of a point does to how each device stands.
use Rattle.std.proofs.Common.{◌≡◌, ℕ, suc, ◌<◌, true, false, cond, nat_eq, List, [], ◌∷◌, ◌++◌, length, Option, Some, None, refl, sym, ap, ◌∙◌, subst, arith, inl, inr, ◌⊎◌, pos}
use Rattle.std.proofs.lemmas.Int.{ints}
use Rattle.std.proofs.lemmas.Bool.{cases_Bool, eqb-true, eq-eqb}
use Rattle.std.proofs.lemmas.Bool.Decides.{nat_tests}
use Rattle.std.proofs.lemmas.Option.{slice_get_within}
use Rattle.std.specs.Prelude.{ℤ, ◌≤ℤ◌, ◌<ℤ◌, slice_get}
use Rattle.hs_base.specs.declared.ids.PointId.{PointId}
use Rattle.hs_base.specs.declared.mission.Mission.{Mission}
use Rattle.hs_base.specs.declared.plan.Extension.{Extension}
use Rattle.hs_machine.specs.declared.history.Entry.{Entry}
use Rattle.hs_machine.specs.declared.history.Deed.TheVariants.{Report}
use Rattle.hs_base.specs.Walks.{EachAfter}
use Rattle.hs_base.specs.Schedule.{Schedule}
use Rattle.hs_base.specs.Missions.{IsMission}
use Rattle.hs_base.specs.Points.{Point, origin, horizon, ending, points_of, timeline_of, tokens_of}
use Rattle.hs_base.specs.Checked.{KeepsRules}
use Rattle.hs_machine.specs.State.{executed, executes, hands_over, now_of, plan_of, tick_at, watched, FitsState}
use Rattle.base_laws.proofs.PointLemmas.{named}
use Rattle.run_laws.proofs.StateLemmas.{executed-put}
use Rattle.hs_machine.specs.Reports.{Polls, Script}
use Rattle.simulation_laws.specs.Reported.{ends_of_line, report_by, timeline_in}
use Rattle.simulation_laws.proofs.ObservedLemmas.{old_place}
use Rattle.simulation_laws.proofs.HistoryLemmas.{started, scripts_other, scripts_next, begun_to_here}
use Rattle.search_tree.proofs.NameLemmas.{named_at, ending_same}
use Rattle.simulation_laws.proofs.RisingLemmas.{end_at, ends_rise}
use Rattle.simulation_laws.specs.Standing.{Standing, resting, running, Attends, Finishes, IsOpen, Opens, Stands, StandsAnew, StandsOn}
use Rattle.simulation_laws.proofs.AttendLemmas.{just_begun, standing_of, attends_same, attends_fired, attends_reported}
use Rattle.simulation_laws.proofs.BeginLemmas.{started_begins, started_opens}
use Rattle.simulation_laws.proofs.OpenLemmas.{own_end, open_other}

-- the point ends a token of timeline d
pub record IsEndOf (es : List Extension) (d x : ℕ) : Type 0 where
  pub place : ℕ
  pub below : place < length (timeline_in es d)
  pub is : end_at es d place ≡ x

-- it does, or it doesn't
pub end_or_not : (es : List Extension) (d x : ℕ) → IsEndOf es d x ⊎ (IsEndOf es d x → ⊥)
end_or_not es d x = by_name (slice_get (points_of es) x) refl
  where
    -- a point that has another name ends none
    other_name : (o : Option Point) → slice_get (points_of es) x ≡ o → ((i : ℕ) → Some (ending d i) ≡ o → ⊥) → IsEndOf es d x → ⊥
    other_name o at apart e = apart e.place (sym (named_at es d e.place e.below) ∙ ap (λ (y : ℕ). slice_get (points_of es) y) e.is ∙ at)

    of_variable : Option Point → ℕ
    of_variable (Some (ending v i)) = v
    of_variable _ = 0

    by_name : (o : Option Point) → slice_get (points_of es) x ≡ o → IsEndOf es d x ⊎ (IsEndOf es d x → ⊥)
    by_name None at = inr (other_name None at (λ i same. cc))
    by_name (Some origin) at = inr (other_name (Some origin) at (λ i same. cc))
    by_name (Some (horizon k)) at = inr (other_name (Some (horizon k)) at (λ i same. cc))
    by_name (Some (ending v i)) at = elim (cases_Bool (nat_eq v d)) [
      | inl same ↦
          let is : v ≡ d = eqb-true v d same in
          let inside = old_place es x v i (slice_get_within (points_of es) x (ending v i) at) at in
          inl (record {
            place = i;
            below = subst (λ (w : ℕ). i < length (timeline_of (tokens_of es) w)) is inside;
            is = ap (λ (w : ℕ). end_at es w i) (sym is) ∙ (named es).once x (ending v i) at;
          })
      | inr other ↦ inr (other_name (Some (ending v i)) at (λ j same. let e : d ≡ v = (ending_same d j v i same).0 in let no : nat_eq v d ≡ true = eq-eqb v d (sym e) in let f : true ≡ false = sym no ∙ other in cc))
    ]

-- a report of such a point is one of the device, and of another point it is none
pub report_of_end : (h : List Entry) (d : ℕ) (x : PointId) → IsEndOf (plan_of h) d x.0 → report_by d h (Report x) ≡ (x.0, pos (now_of h)) ∷ []
report_of_end h d x e =
    let at : slice_get (points_of (plan_of h)) x.0 ≡ Some (ending d e.place) = ap (λ (y : ℕ). slice_get (points_of (plan_of h)) y) (sym e.is) ∙ named_at (plan_of h) d e.place e.below in
    ap (λ (o : Option Point). cond (ends_of_line d o) ((x.0, pos (now_of h)) ∷ []) []) at ∙ ap (λ b. cond b ((x.0, pos (now_of h)) ∷ []) []) (eq-eqb d d refl)

pub report_of_other : (h : List Entry) (d w : ℕ) (x : PointId) → (d ≡ w → ⊥) → IsEndOf (plan_of h) w x.0 → report_by d h (Report x) ≡ []
report_of_other h d w x apart e =
    let at : slice_get (points_of (plan_of h)) x.0 ≡ Some (ending w e.place) = ap (λ (y : ℕ). slice_get (points_of (plan_of h)) y) (sym e.is) ∙ named_at (plan_of h) w e.place e.below in
    let no : nat_eq w d ≡ false = grind (arith, nat_tests) in
    ap (λ (o : Option Point). cond (ends_of_line d o) ((x.0, pos (now_of h)) ∷ []) []) at ∙ ap (λ b. cond b ((x.0, pos (now_of h)) ∷ []) []) no

-- no point ends tokens of two timelines
pub one_timeline : (es : List Extension) (d w x : ℕ) → (d ≡ w → ⊥) → IsEndOf es w x → IsEndOf es d x → ⊥
one_timeline es d w x apart e f =
    let same : Some (ending d f.place) ≡ Some (ending w e.place) = sym (named_at es d f.place f.below) ∙ ap (λ (y : ℕ). slice_get (points_of es) y) (f.is ∙ sym e.is) ∙ named_at es w e.place e.below in
    apart (ending_same d f.place w e.place same).0

module _ (m : Mission) (h : List Entry) (e : Entry) (x : PointId) (mission : IsMission m) (rules : EachAfter (KeepsRules m) [] (plan_of h)) (late : (y : ℕ) (t : ℤ) → executed h y ≡ Some t → t ≤ℤ tick_at h) (no_plan : hands_over e.deed ≡ None) (ex : executes e.deed ≡ Some x) (free : executed h x.0 ≡ None) (s : Schedule) (fits : FitsState m h s) (now : s x.0 ≡ tick_at h) where
  -- the next end of the timeline is still open
  next_waits : (d i : ℕ) → end_at (plan_of h) d i ≡ x.0 → suc i < length (timeline_in (plan_of h) d) → executed (h ++ e ∷ []) (end_at (plan_of h) d (suc i)) ≡ None
  next_waits d i is more = executed-put h e x (end_at (plan_of h) d (suc i)) ex free ∙ (rw other (waits (executed h (end_at (plan_of h) d (suc i))) refl))
    where
      rise : s (end_at (plan_of h) d i) <ℤ s (end_at (plan_of h) d (suc i))
      rise = ends_rise m mission (plan_of h) rules s fits.meets d i (suc i) (omega arith) more

      other : nat_eq (end_at (plan_of h) d (suc i)) x.0 ≡ false
      other = elim (cases_Bool (nat_eq (end_at (plan_of h) d (suc i)) x.0)) [
        | inl same ↦ absurd (omega (arith, ints, rise, ap s is, ap s (eqb-true _ _ same)))
        | inr apart ↦ apart
      ]

      waits : (o : Option ℤ) → executed h (end_at (plan_of h) d (suc i)) ≡ o → executed h (end_at (plan_of h) d (suc i)) ≡ None
      waits None at = at
      waits (Some t) at = absurd (omega (arith, ints, rise, ap s is, now, fits.past (end_at (plan_of h) d (suc i)) t at, late (end_at (plan_of h) d (suc i)) t at))

  -- a device of whose timeline it ends no token
  pub executed_other : (d : ℕ) (polls : Polls) (k : ℕ) (st : Standing) → (IsEndOf (plan_of h) d x.0 → ⊥) → report_by d h e.deed ≡ [] → Stands m h d polls k st → Stands m (h ++ e ∷ []) d polls k st
  executed_other d polls k st apart quiet a = record {
    attends = attends_same m h e d polls k st (scripts_other m h e x no_plan ex free d (λ i below is. apart (record { place = i; below = below; is = is }))) quiet a.attends;
    opens = still st a.opens;
  }
    where
      still : (st : Standing) → Opens m h d st → Opens m (h ++ e ∷ []) d st
      still resting o = tt
      still (running t left) o = open_other m h e x d t no_plan ex free (λ same. apart (record { place = o.place; below = o.below; is = o.end ∙ same })) o

  -- a device that rests, and whose next token begins
  pub executed_next : (d : ℕ) (polls : Polls) (k : ℕ) → now_of h ≡ k → IsEndOf (plan_of h) d x.0 → report_by d h e.deed ≡ [] → Attends m h d polls k resting → StandsAnew m (h ++ e ∷ []) d polls k
  executed_next d polls k tick end quiet a = (
    standing_of (started m h d end.place x),
    record {
      attends = attends_fired m h e d polls k (started m h d end.place x) (scripts_next m h e x no_plan ex free mission rules late s fits now d end.place end.below end.is) (started_begins m h e x d end.place no_plan ex free end.is mission k (ap pos tick)) quiet a;
      opens = started_opens m h e x d end.place no_plan ex free end.is (next_waits d end.place end.is);
    },
    just_begun k (started m h d end.place x) (started_begins m h e x d end.place no_plan ex free end.is mission k (ap pos tick)),
  )

  -- A Fire: its point is not observed.
  pub fired_keeps : watched m h x.0 ≡ false → ((d : ℕ) → report_by d h e.deed ≡ []) → (d : ℕ) (polls : Polls) (k : ℕ) (st : Standing) → now_of h ≡ k → Stands m h d polls k st → StandsOn m (h ++ e ∷ []) d polls k st
  fired_keeps own quiet d polls k st tick a = elim (end_or_not (plan_of h) d x.0) [
    | inl end ↦ by_standing end st a.attends a.opens
    | inr apart ↦ inl (executed_other d polls k st apart (quiet d) a)
  ]
    where
      by_standing : IsEndOf (plan_of h) d x.0 → (st : Standing) → Attends m h d polls k st → Opens m h d st → StandsOn m (h ++ e ∷ []) d polls k st
      by_standing end resting a o = inr (refl, executed_next d polls k tick end (quiet d) a)
      by_standing end (running t left) a o =
          let here = own_end m h d end.place t o (begun_to_here m h e x no_plan ex free mission rules late s fits now d end.place end.below end.is) end.below in
          let f : true ≡ false = sym o.observed ∙ ap (watched m h) (sym here ∙ end.is) ∙ own in cc

  -- A report by the device whose script has finished.
  pub reported_keeps : (d : ℕ) (polls : Polls) (k : ℕ) (t : Script) → now_of h ≡ k → t.point ≡ x.0 → report_by d h e.deed ≡ (t.point, pos k) ∷ [] → Finishes m h d polls k t → IsOpen m h d t → StandsAnew m (h ++ e ∷ []) d polls k
  reported_keeps d polls k t tick same reports f o =
      let is : end_at (plan_of h) d o.place ≡ x.0 = o.end ∙ same in (
        standing_of (started m h d o.place x),
        record {
          attends = attends_reported m h e d polls k t (started m h d o.place x) (scripts_next m h e x no_plan ex free mission rules late s fits now d o.place o.below is) (started_begins m h e x d o.place no_plan ex free is mission k (ap pos tick)) reports f;
          opens = started_opens m h e x d o.place no_plan ex free is (next_waits d o.place is);
        },
        just_begun k (started m h d o.place x) (started_begins m h e x d o.place no_plan ex free is mission k (ap pos tick)),
      )
