-- A script that runs is that of its timeline's current token, as long as no report ends it.
use Rattle.std.proofs.Common.{◌≡◌, ℕ, suc, ◌<◌, false, nat_eq, List, [], ◌∷◌, ◌++◌, length, Option, Some, None, refl, sym, ap, ◌∙◌, subst, arith, inl, inr}
use Rattle.std.proofs.lemmas.Bool.{cases_lt, cases_eq}
use Rattle.std.proofs.lemmas.List.{length-append}
use Rattle.std.proofs.lemmas.Bool.Decides.{nat_tests}
use Rattle.std.specs.Prelude.{ℤ}
use Rattle.hs_base.specs.declared.ids.PointId.{PointId}
use Rattle.hs_base.specs.declared.mission.Kind.{Kind}
use Rattle.hs_base.specs.declared.mission.Mission.{Mission}
use Rattle.hs_base.specs.declared.plan.Extension.{Extension}
use Rattle.hs_machine.specs.declared.history.Entry.{Entry}
use Rattle.hs_base.specs.Fits.{put, time_at}
use Rattle.hs_base.specs.Points.{ending, is_observed, place_of, points_of, start_at, timeline_of, tokens_of}
use Rattle.hs_machine.specs.State.{count_at, executed, executes, hands_over, plan_of, tick_at}
use Rattle.base_laws.proofs.PointLemmas.{named, ending_kept, start_kept, tokens-push, timeline-append}
use Rattle.run_laws.proofs.StateLemmas.{plan_kept, plan_handed, times_kept, executed-put}
use Rattle.hs_machine.specs.Reports.{Script}
use Rattle.simulation_laws.specs.Reported.{timeline_in}
use Rattle.simulation_laws.proofs.ObservedLemmas.{observed_kept}
use Rattle.simulation_laws.proofs.RisingLemmas.{end_at}
use Rattle.simulation_laws.proofs.ScriptLemmas.{BegunTo}
use Rattle.simulation_laws.specs.Standing.{IsOpen}

-- The end of its timeline that is executed while it runs is that of its token.
pub own_end : (m : Mission) (h : List Entry) (d i : ℕ) (s : Script) → IsOpen m h d s → BegunTo m d (plan_of h) (executed h) (suc i) → i < length (timeline_in (plan_of h) d) → end_at (plan_of h) d i ≡ s.point
own_end m h d i s o b below = elim (cases_lt i o.place) [
  -- its start would not be executed
  | inl before ↦
      let none = b.behind o.place before o.below in
      let f : Some s.begun ≡ None = sym o.started ∙ none in cc
  | inr not ↦ elim (cases_eq i o.place) [
    | inl same ↦ ap (end_at (plan_of h) d) same ∙ o.end
    -- its end would be
    | inr other ↦
        let t = b.before (suc o.place) (omega (arith, not, other)) in
        let f : Some t.0 ≡ None = sym t.1 ∙ ap (executed h) o.end ∙ o.waits in cc
  ]
]

-- an entry that hands nothing over and executes nothing
pub open_idle : (m : Mission) (h : List Entry) (e : Entry) (d : ℕ) (s : Script) → hands_over e.deed ≡ None → executes e.deed ≡ None → IsOpen m h d s → IsOpen m (h ++ e ∷ []) d s
open_idle m h e d s no_plan no_point o =
    let plan = plan_kept h e no_plan in
    let at = ap time_at (times_kept h e no_point) in
    record {
      place = o.place;
      below = subst (λ (es : List Extension). o.place < length (timeline_in es d)) (sym plan) o.below;
      end = ap (λ (es : List Extension). place_of (ending d o.place) (points_of es)) plan ∙ o.end;
      started = ap (λ (es : List Extension). executed (h ++ e ∷ []) (start_at es d o.place)) plan ∙ ap (λ (t : ℕ → Option ℤ). t (start_at (plan_of h) d o.place)) at ∙ o.started;
      waits = ap (λ (t : ℕ → Option ℤ). t s.point) at ∙ o.waits;
      observed = ap (λ (es : List Extension). is_observed m es s.point) plan ∙ o.observed;
    }

-- an entry that executes another point
pub open_other : (m : Mission) (h : List Entry) (e : Entry) (x : PointId) (d : ℕ) (s : Script) → hands_over e.deed ≡ None → executes e.deed ≡ Some x → executed h x.0 ≡ None → (s.point ≡ x.0 → ⊥) → IsOpen m h d s → IsOpen m (h ++ e ∷ []) d s
open_other m h e x d s no_plan ex free apart o =
    let plan = plan_kept h e no_plan in
    record {
      place = o.place;
      below = subst (λ (es : List Extension). o.place < length (timeline_in es d)) (sym plan) o.below;
      end = ap (λ (es : List Extension). place_of (ending d o.place) (points_of es)) plan ∙ o.end;
      started =
          ap (λ (es : List Extension). executed (h ++ e ∷ []) (start_at es d o.place)) plan ∙ executed-put h e x (start_at (plan_of h) d o.place) ex free
          ∙ kept (start_at (plan_of h) d o.place) (λ same. let f : Some s.begun ≡ None = sym o.started ∙ ap (executed h) same ∙ free in cc) ∙ o.started;
      waits = executed-put h e x s.point ex free ∙ kept s.point apart ∙ o.waits;
      observed = ap (λ (es : List Extension). is_observed m es s.point) plan ∙ o.observed;
    }
  where
    kept : (y : ℕ) → (y ≡ x.0 → ⊥) → put (executed h) x.0 (tick_at h) y ≡ executed h y
    kept y other = let no : nat_eq y x.0 ≡ false = grind (arith, nat_tests) in rw no refl

-- a later handover
pub open_handed : (m : Mission) (h : List Entry) (e : Entry) (x : Extension) (d : ℕ) (s : Script) → hands_over e.deed ≡ Some x → executes e.deed ≡ None → IsOpen m h d s → IsOpen m (h ++ e ∷ []) d s
open_handed m h e x d s hands quiet o =
    let plan = plan_handed h e x hands in
    let at = ap time_at (times_kept h e quiet) in
    let old : s.point < count_at h = subst (λ (y : ℕ). y < count_at h) o.end ((named (plan_of h)).ends_there d o.place o.below) in
    record {
      place = o.place;
      below = subst (λ (es : List Extension). o.place < length (timeline_in es d)) (sym plan) (longer o.below);
      end = ap (λ (es : List Extension). place_of (ending d o.place) (points_of es)) plan ∙ ending_kept (plan_of h) x d o.place o.below ∙ o.end;
      started = ap (λ (es : List Extension). executed (h ++ e ∷ []) (start_at es d o.place)) plan ∙ ap (λ (t : ℕ → Option ℤ). t (start_at (plan_of h ++ x ∷ []) d o.place)) at ∙ ap (executed h) (start_kept (plan_of h) x d o.place (omega (arith, o.below))) ∙ o.started;
      waits = ap (λ (t : ℕ → Option ℤ). t s.point) at ∙ o.waits;
      observed = ap (λ (es : List Extension). is_observed m es s.point) plan ∙ observed_kept m (plan_of h) x s.point old ∙ o.observed;
    }
  where
    longer : o.place < length (timeline_in (plan_of h) d) → o.place < length (timeline_in (plan_of h ++ x ∷ []) d)
    longer below = omega (arith, below, ap (λ (l : List Kind). length (timeline_of l d)) (tokens-push (plan_of h) x) ∙ ap length (timeline-append (tokens_of (plan_of h)) x.tokens d) ∙ length-append (timeline_of (tokens_of (plan_of h)) d) (timeline_of x.tokens d))
