-- What an entry of a run does to the scripts of a device, and to its reports.
use Rattle.std.proofs.Common.{◌≡◌, ◌≢◌, ℕ, zero, suc, ◌-◌, ◌<◌, ◌≤◌, List, [], ◌∷◌, ◌++◌, length, Option, Some, None, refl, sym, ap, ◌∙◌, subst, arith, inl, inr, pos, append-nil}
use Rattle.std.proofs.lemmas.Int.{ints}
use Rattle.std.proofs.lemmas.Bool.{cases_lt, cases_eq}
use Rattle.std.proofs.Math.Path.{fun_ext}
use Rattle.std.specs.Prelude.{ℤ, ◌≤ℤ◌, slice_get}
use Rattle.hs_base.specs.declared.ids.PointId.{PointId}
use Rattle.hs_base.specs.declared.mission.Kind.{Kind}
use Rattle.hs_base.specs.declared.mission.Mission.{Mission}
use Rattle.hs_base.specs.declared.mission.Horizon.{Horizon}
use Rattle.hs_base.specs.declared.plan.Extension.{Extension}
use Rattle.hs_machine.specs.declared.history.Entry.{Entry}
use Rattle.hs_base.specs.Walks.{EachAfter}
use Rattle.hs_base.specs.Schedule.{Schedule}
use Rattle.hs_base.specs.Missions.{IsMission}
use Rattle.hs_base.specs.Fits.{Times, put, time_at}
use Rattle.hs_base.specs.Points.{ending, place_of, points_of, start_at}
use Rattle.hs_base.specs.Bounds.{on_some}
use Rattle.hs_base.specs.Checked.{KeepsRules, Checked}
use Rattle.hs_machine.specs.State.{plan_of, count_at, executed, tick_at, hands_over, executes, FitsState}
use Rattle.hs_machine.specs.Run.{Run}
use Rattle.base_laws.proofs.ListLemmas.{join_after-push}
use Rattle.base_laws.proofs.PointLemmas.{named, ending_kept, points-push, place_after}
use Rattle.plan_laws.proofs.ChainLemmas.{has_tokens}
use Rattle.run_laws.proofs.RunLemmas.{run_fits}
use Rattle.plan_laws.proofs.SpanLemmas.{ends_in}
use Rattle.run_laws.proofs.StateLemmas.{plan_kept, plan_handed, times_kept, executed-put}
use Rattle.hs_machine.specs.Reports.{Script, scripts_of}
use Rattle.simulation_laws.specs.Reported.{timeline_in, report_by, reports_in}
use Rattle.simulation_laws.proofs.RisingLemmas.{end_at, ends_rise, token_below}
use Rattle.simulation_laws.proofs.ScriptLemmas.{script_at, scripts_at, scripts_are, BegunTo, begun_now, begun_same, begun_handed}

-- the reports of a device with one more entry
pub reports-push : (h : List Entry) (e : Entry) (d : ℕ) → reports_in (h ++ e ∷ []) d ≡ reports_in h d ++ report_by d h e.deed
reports-push h e d = join_after-push (λ before (x : Entry). report_by d before x.deed) [] h e

-- an entry that hands nothing over and executes nothing
pub scripts_idle : (m : Mission) (h : List Entry) (e : Entry) (d : ℕ) → hands_over e.deed ≡ None → executes e.deed ≡ None → scripts_of m (h ++ e ∷ []) d ≡ scripts_of m h d
scripts_idle m h e d no_plan no_time =
    scripts_are m (h ++ e ∷ []) d
    ∙ ap (λ (es : List Extension). scripts_at m es (executed (h ++ e ∷ [])) d 0 (timeline_in es d)) (plan_kept h e no_plan)
    ∙ ap (λ (at : Times). scripts_at m (plan_of h) at d 0 (timeline_in (plan_of h) d)) (ap time_at (times_kept h e no_time))
    ∙ sym (scripts_are m h d)

-- the script of the token behind place i that begins now, if there is such a token and a device ends it
abbrev pub started : Mission → List Entry → ℕ → ℕ → PointId → List Script
started m h d i x = on_some (slice_get (timeline_in (plan_of h) d) (suc i)) (λ k. script_at m (plan_of h) (put (executed h) x.0 (tick_at h)) d (suc i) k)

-- an entry that executes a point
module _ (m : Mission) (h : List Entry) (e : Entry) (x : PointId) (no_plan : hands_over e.deed ≡ None) (ex : executes e.deed ≡ Some x) (free : executed h x.0 ≡ None) where
  scripts_put : (d : ℕ) → scripts_of m (h ++ e ∷ []) d ≡ scripts_at m (plan_of h) (put (executed h) x.0 (tick_at h)) d 0 (timeline_in (plan_of h) d)
  scripts_put d =
      scripts_are m (h ++ e ∷ []) d
      ∙ ap (λ (es : List Extension). scripts_at m es (executed (h ++ e ∷ [])) d 0 (timeline_in es d)) (plan_kept h e no_plan)
      ∙ ap (λ (at : Times). scripts_at m (plan_of h) at d 0 (timeline_in (plan_of h) d)) (fun_ext (λ y. executed-put h e x y ex free))

  -- that is no end of the timeline
  pub scripts_other : (d : ℕ) → ((i : ℕ) → i < length (timeline_in (plan_of h) d) → end_at (plan_of h) d i ≡ x.0 → ⊥) → scripts_of m (h ++ e ∷ []) d ≡ scripts_of m h d
  scripts_other d apart = scripts_put d ∙ begun_same m d (plan_of h) (executed h) x.0 (tick_at h) not_start ∙ sym (scripts_are m h d)
    where
      not_start : (j : ℕ) → j < length (timeline_in (plan_of h) d) → start_at (plan_of h) d j ≡ x.0 → ⊥
      not_start zero below same = let f : Some (pos 0) ≡ None = ap (executed h) same ∙ free in cc
      not_start (suc j) below same = apart j (omega (arith, below)) same

  -- that is one
  module _ (mission : IsMission m) (rules : EachAfter (KeepsRules m) [] (plan_of h)) (late : (y : ℕ) (t : ℤ) → executed h y ≡ Some t → t ≤ℤ tick_at h) (s : Schedule) (fits : FitsState m h s) (now : s x.0 ≡ tick_at h) (d i : ℕ) (below : i < length (timeline_in (plan_of h) d)) (is : end_at (plan_of h) d i ≡ x.0) where
    -- the tokens before it have ended, and none behind it has
    pub begun_to_here : BegunTo m d (plan_of h) (executed h) (suc i)
    begun_to_here = record { before = before; behind = behind }
      where
        here : s (end_at (plan_of h) d i) ≡ tick_at h
        here = ap s is ∙ now

        ended : (j : ℕ) → j < i → (o : Option ℤ) → executed h (end_at (plan_of h) d j) ≡ o → (t : ℤ) × (executed h (end_at (plan_of h) d j) ≡ Some t)
        ended j less (Some t) at = (t, at)
        ended j less None at =
            let rise = ends_rise m mission (plan_of h) rules s fits.meets d j i less below in
            let waits = fits.future (end_at (plan_of h) d j) ((named (plan_of h)).ends_there d j (omega (arith, less, below))) at in
            absurd (omega (arith, ints, rise, waits, here))

        before : (j : ℕ) → j < suc i → (t : ℤ) × (executed h (start_at (plan_of h) d j) ≡ Some t)
        before zero less = (pos 0, refl)
        before (suc j) less = ended j (omega (arith, less)) (executed h (end_at (plan_of h) d j)) refl

        waiting : (j : ℕ) → i < j → j < length (timeline_in (plan_of h) d) → (o : Option ℤ) → executed h (end_at (plan_of h) d j) ≡ o → executed h (end_at (plan_of h) d j) ≡ None
        waiting j less inside None at = at
        waiting j less inside (Some t) at =
            let rise = ends_rise m mission (plan_of h) rules s fits.meets d i j less inside in
            let past = fits.past (end_at (plan_of h) d j) t at in
            let early = late (end_at (plan_of h) d j) t at in
            absurd (omega (arith, ints, rise, past, early, here))

        behind : (j : ℕ) → suc i ≤ j → j < length (timeline_in (plan_of h) d) → executed h (start_at (plan_of h) d j) ≡ None
        behind zero low inside = absurd (omega (arith, low))
        behind (suc j) low inside = elim (cases_eq i j) [
          | inl same ↦ ap (λ (k : ℕ). executed h (end_at (plan_of h) d k)) (sym same) ∙ ap (executed h) is ∙ free
          | inr other ↦ waiting j (omega (arith, low, other)) (omega (arith, inside)) (executed h (end_at (plan_of h) d j)) refl
        ]

    -- so the next token's script begins, and is the last one
    pub scripts_next : scripts_of m (h ++ e ∷ []) d ≡ scripts_of m h d ++ started m h d i x
    scripts_next = scripts_put d ∙ next (slice_get (timeline_in (plan_of h) d) (suc i)) refl ∙ ap (λ l. l ++ started m h d i x) (sym (scripts_are m h d))
      where
        next : (o : Option Kind) → slice_get (timeline_in (plan_of h) d) (suc i) ≡ o → scripts_at m (plan_of h) (put (executed h) x.0 (tick_at h)) d 0 (timeline_in (plan_of h) d) ≡ scripts_at m (plan_of h) (executed h) d 0 (timeline_in (plan_of h) d) ++ on_some (slice_get (timeline_in (plan_of h) d) (suc i)) (λ k. script_at m (plan_of h) (put (executed h) x.0 (tick_at h)) d (suc i) k)
        next (Some k) at =
            subst (λ (y : ℕ). scripts_at m (plan_of h) (put (executed h) y (tick_at h)) d 0 (timeline_in (plan_of h) d) ≡ scripts_at m (plan_of h) (executed h) d 0 (timeline_in (plan_of h) d) ++ script_at m (plan_of h) (put (executed h) y (tick_at h)) d (suc i) k) is
            (begun_now m d (plan_of h) (executed h) (suc i) (tick_at h) k at begun_to_here)
            ∙ ap (λ (o : Option Kind). scripts_at m (plan_of h) (executed h) d 0 (timeline_in (plan_of h) d) ++ on_some o (λ k. script_at m (plan_of h) (put (executed h) x.0 (tick_at h)) d (suc i) k)) (sym at)
        next None at =
            begun_same m d (plan_of h) (executed h) x.0 (tick_at h) not_start
            ∙ sym (ap (λ (o : Option Kind). scripts_at m (plan_of h) (executed h) d 0 (timeline_in (plan_of h) d) ++ on_some o (λ k. script_at m (plan_of h) (put (executed h) x.0 (tick_at h)) d (suc i) k)) at ∙ append-nil _)
          where
            not_start : (j : ℕ) → j < length (timeline_in (plan_of h) d) → start_at (plan_of h) d j ≡ x.0 → ⊥
            not_start zero inside same = let f : Some (pos 0) ≡ None = ap (executed h) same ∙ free in cc
            not_start (suc j) inside same = elim (cases_lt j i) [
              | inl less ↦
                  let t = begun_to_here.before (suc j) (omega (arith, less)) in
                  let f : Some t.0 ≡ None = sym t.1 ∙ ap (executed h) same ∙ free in cc
              | inr more ↦ elim (cases_eq i j) [
                | inl same_place ↦ absurd (past_end (subst (λ (k : ℕ). suc k < length (timeline_in (plan_of h) d)) (sym same_place) inside))
                | inr other ↦
                    let rise = ends_rise m mission (plan_of h) rules s fits.meets d i j (omega (arith, more, other)) (omega (arith, inside)) in
                    absurd (omega (arith, ints, rise, ap s is, ap s same))
              ]
            ]
              where
                past_end : suc i < length (timeline_in (plan_of h) d) → ⊥
                past_end more = found (timeline_in (plan_of h) d) (suc i) more at
                  where
                    found : {X : Type 0} (xs : List X) (j : ℕ) → j < length xs → slice_get xs j ≡ None → ⊥
                    found [] j inside none = omega (arith, inside)
                    found (y ∷ ys) zero inside none = cc
                    found (y ∷ ys) (suc j) inside none = found ys j (omega (arith, inside)) none

-- a later handover starts no script
module _ (m : Mission) (h : List Entry) (e : Entry) (x : Extension) (run : Run m h) (within : (y : ℕ) (t : ℤ) → executed h y ≡ Some t → y < count_at h) (late : (y : ℕ) (t : ℤ) → executed h y ≡ Some t → t ≤ℤ tick_at h) (hands : hands_over e.deed ≡ Some x) (quiet : executes e.deed ≡ None) (checked : Checked m (plan_of h ++ x ∷ [])) (front : EachAfter (KeepsRules m) [] (plan_of h)) (some : plan_of h ≢ []) (g : Horizon) (is : slice_get m.horizons (length (plan_of h) - 1) ≡ Some g) (early : tick_at h ≤ℤ g.tick) where
  abbrev more : List Extension
  more = plan_of h ++ x ∷ []

  pub scripts_handed : (d : ℕ) → scripts_of m (h ++ e ∷ []) d ≡ scripts_of m h d
  scripts_handed d =
      scripts_are m (h ++ e ∷ []) d
      ∙ ap (λ (es : List Extension). scripts_at m es (executed (h ++ e ∷ [])) d 0 (timeline_in es d)) (plan_handed h e x hands)
      ∙ ap (λ (at : Times). scripts_at m more at d 0 (timeline_in more d)) (ap time_at (times_kept h e quiet))
      ∙ begun_handed m d (plan_of h) x (executed h) new
      ∙ sym (scripts_are m h d)
    where
      open_ : (y : ℕ) → ((t : ℤ) → executed h y ≡ Some t → ⊥) → executed h y ≡ None
      open_ y never = by_case (executed h y) refl
        where
          by_case : (o : Option ℤ) → executed h y ≡ o → executed h y ≡ None
          by_case None at = at
          by_case (Some t) at = absurd (never t at)

      -- the end of the last token stands behind the horizon
      last_open : (i : ℕ) → d < length m.vars → suc i ≡ length (timeline_in (plan_of h) d) → executed h (end_at (plan_of h) d i) ≡ None
      last_open i below last = open_ (end_at (plan_of h) d i) (λ t at.
          let f = run_fits m h run some in
          let behind = (ends_in m f.s (plan_of h) f.fits.meets).each g d i is below last in
          omega (arith, ints, behind, early, f.fits.past (end_at (plan_of h) d i) t at, late (end_at (plan_of h) d i) t at))

      -- the number of a new token's end is a new one
      new_number : (i : ℕ) → length (timeline_in (plan_of h) d) ≤ i → count_at h ≤ end_at more d i
      new_number i past = omega (arith, ap (place_of (ending d i)) (points-push (plan_of h) x) ∙ place_after (ending d i) (points_of (plan_of h)) _ ((named (plan_of h)).ends_new d i past))

      new : (j : ℕ) → length (timeline_in (plan_of h) d) ≤ j → j < length (timeline_in more d) → executed h (start_at more d j) ≡ None
      new j past inside =
          let below = token_below m checked.mission more checked.rules d j inside in
          let has = has_tokens m (plan_of h) front some d below in
          by_place j past has below
        where
          by_place : (j : ℕ) → length (timeline_in (plan_of h) d) ≤ j → 0 < length (timeline_in (plan_of h) d) → d < length m.vars → executed h (start_at more d j) ≡ None
          by_place zero past has below = absurd (omega (arith, past, has))
          by_place (suc i) past has below = elim (cases_lt i (length (timeline_in (plan_of h) d))) [
            | inl old ↦ ap (executed h) (ending_kept (plan_of h) x d i old) ∙ last_open i below (omega (arith, old, past))
            | inr new_ ↦ open_ (end_at more d i) (λ t at. omega (arith, within (end_at more d i) t at, new_number i (omega (arith, new_))))
          ]
