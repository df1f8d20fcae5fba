-- A script that has just begun is open; and what begins with the first plan.
use Rattle.std.proofs.Common.{◌≡◌, ℕ, zero, suc, ◌<◌, ◌≤◌, Bool, true, false, cond, nat_eq, List, [], ◌∷◌, ◌++◌, length, Option, Some, None, refl, sym, ap, ◌∙◌, subst, arith, pos, append-nil}
use Rattle.std.proofs.lemmas.Option.{slice_get_within}
use Rattle.std.proofs.lemmas.Bool.Decides.{nat_tests}
use Rattle.std.proofs.Math.Path.{fun_ext}
use Rattle.std.specs.Prelude.{ℤ, slice_get}
use Rattle.hs_base.specs.declared.ids.PointId.{PointId}
use Rattle.hs_base.specs.declared.mission.Kind.{Kind}
use Rattle.hs_base.specs.declared.mission.Mission.{Mission}
use Rattle.hs_base.specs.declared.mission.Value.{Value}
use Rattle.hs_base.specs.declared.plan.Extension.{Extension}
use Rattle.hs_machine.specs.declared.history.Entry.{Entry}
use Rattle.hs_base.specs.Bounds.{on_some}
use Rattle.hs_base.specs.Fits.{Times, put, time_at}
use Rattle.hs_base.specs.Missions.{IsMission}
use Rattle.hs_base.specs.Points.{ending, device_ends, is_by_device, is_observed, place_of, points_of, start_at, value_of}
use Rattle.hs_machine.specs.State.{executed, executes, hands_over, plan_of, tick_at}
use Rattle.run_laws.proofs.StateLemmas.{plan_kept, plan_handed, times_kept, executed-put}
use Rattle.hs_machine.specs.Reports.{awaited, scripts_of}
use Rattle.simulation_laws.specs.Reported.{timeline_in}
use Rattle.simulation_laws.proofs.HistoryLemmas.{started}
use Rattle.search_tree.proofs.NameLemmas.{named_at}
use Rattle.simulation_laws.proofs.RisingLemmas.{end_at}
use Rattle.simulation_laws.proofs.ScriptLemmas.{script_at, scripts_at, scripts_are, scripts_none}
use Rattle.simulation_laws.specs.Standing.{Opens}
use Rattle.simulation_laws.proofs.AttendLemmas.{standing_of, Begins, script_begins}

-- the script of a token whose start is executed, and whose end is not
pub opens_script : (m : Mission) (h : List Entry) (d j : ℕ) (k : Kind) (t : ℤ) → slice_get (timeline_in (plan_of h) d) j ≡ Some k → executed h (start_at (plan_of h) d j) ≡ Some t → executed h (end_at (plan_of h) d j) ≡ None → Opens m h d (standing_of (script_at m (plan_of h) (executed h) d j k))
opens_script m h d j k t at begun waits = by_value (value_of m k) refl
  where
    below : j < length (timeline_in (plan_of h) d)
    below = slice_get_within (timeline_in (plan_of h) d) j k at

    observed : (v : Value) → value_of m k ≡ Some v → v.by_device ≡ true → is_observed m (plan_of h) (end_at (plan_of h) d j) ≡ true
    observed v is by = ap (device_ends m (plan_of h)) (named_at (plan_of h) d j below) ∙ (rw (at, is, device_ends, is_by_device) by)

    by_flag : (v : Value) → value_of m k ≡ Some v → (b : Bool) → v.by_device ≡ b → Opens m h d (standing_of (cond b (on_some (executed h (start_at (plan_of h) d j)) (λ (t : ℤ). record { point = place_of (ending d j) (points_of (plan_of h)); begun = t; words = awaited v.script } ∷ [])) []))
    by_flag v is false flag = tt
    by_flag v is true flag =
        subst (λ (o : Option ℤ). Opens m h d (standing_of (on_some o (λ (t : ℤ). record { point = place_of (ending d j) (points_of (plan_of h)); begun = t; words = awaited v.script } ∷ [])))) (sym begun)
        (record { place = j; below = below; end = refl; started = begun; waits = waits; observed = observed v is flag })

    by_value : (o : Option Value) → value_of m k ≡ o → Opens m h d (standing_of (on_some o (λ (v : Value). cond v.by_device (on_some (executed h (start_at (plan_of h) d j)) (λ (t : ℤ). record { point = place_of (ending d j) (points_of (plan_of h)); begun = t; words = awaited v.script } ∷ [])) [])))
    by_value None is = tt
    by_value (Some v) is = by_flag v is v.by_device refl

-- behind an entry that executes the end at place i
module _ (m : Mission) (h : List Entry) (e : Entry) (x : PointId) (d i : ℕ) (no_plan : hands_over e.deed ≡ None) (ex : executes e.deed ≡ Some x) (free : executed h x.0 ≡ None) (is : end_at (plan_of h) d i ≡ x.0) where
  times : executed (h ++ e ∷ []) ≡ put (executed h) x.0 (tick_at h)
  times = fun_ext (λ y. executed-put h e x y ex free)

  here : put (executed h) x.0 (tick_at h) (start_at (plan_of h) d (suc i)) ≡ Some (tick_at h)
  here = ap (put (executed h) x.0 (tick_at h)) is ∙ sym (executed-put h e x x.0 ex free) ∙ now
    where
      now : executed (h ++ e ∷ []) x.0 ≡ Some (tick_at h)
      now = executed-put h e x x.0 ex free ∙ put_here (executed h) x.0 (tick_at h)
        where
          put_here : (u : Times) (y : ℕ) (n : ℤ) → put u y n y ≡ Some n
          put_here u y n = grind arith

  pub started_begins : IsMission m → (k : ℕ) → tick_at h ≡ pos k → Begins k (started m h d i x)
  started_begins mission k tick = by_token (slice_get (timeline_in (plan_of h) d) (suc i))
    where
      by_token : (o : Option Kind) → Begins k (on_some o (λ kind. script_at m (plan_of h) (put (executed h) x.0 (tick_at h)) d (suc i) kind))
      by_token None = tt
      by_token (Some kind) = script_begins m mission (plan_of h) (put (executed h) x.0 (tick_at h)) d (suc i) k kind (here ∙ ap Some tick)

  pub started_opens : (suc i < length (timeline_in (plan_of h) d) → executed (h ++ e ∷ []) (end_at (plan_of h) d (suc i)) ≡ None) → Opens m (h ++ e ∷ []) d (standing_of (started m h d i x))
  started_opens waits = by_token (slice_get (timeline_in (plan_of h) d) (suc i)) refl
    where
      plan : plan_of (h ++ e ∷ []) ≡ plan_of h
      plan = plan_kept h e no_plan

      by_token : (o : Option Kind) → slice_get (timeline_in (plan_of h) d) (suc i) ≡ o → Opens m (h ++ e ∷ []) d (standing_of (on_some o (λ kind. script_at m (plan_of h) (put (executed h) x.0 (tick_at h)) d (suc i) kind)))
      by_token None at = tt
      by_token (Some kind) at =
          subst (λ (es : List Extension). Opens m (h ++ e ∷ []) d (standing_of (script_at m es (put (executed h) x.0 (tick_at h)) d (suc i) kind))) plan
          (subst (λ (u : Times). Opens m (h ++ e ∷ []) d (standing_of (script_at m (plan_of (h ++ e ∷ [])) u d (suc i) kind))) times
          (opens_script m (h ++ e ∷ []) d (suc i) kind (tick_at h)
          (ap (λ (es : List Extension). slice_get (timeline_in es d) (suc i)) plan ∙ at)
          (ap (λ (es : List Extension). executed (h ++ e ∷ []) (start_at es d (suc i))) plan ∙ ap (λ (u : Times). u (start_at (plan_of h) d (suc i))) times ∙ here)
          (ap (λ (es : List Extension). executed (h ++ e ∷ []) (end_at es d (suc i))) plan ∙ waits (slice_get_within (timeline_in (plan_of h) d) (suc i) kind at))))

-- before the first plan only Z is executed
pub zero_alone : (n : ℕ) → executed [] (suc n) ≡ None
zero_alone n = let no : nat_eq 0 (suc n) ≡ false = grind (arith, nat_tests) in rw no refl

-- the first plan begins the scripts of the first tokens
pub scripts_first : (m : Mission) (h : List Entry) (e : Entry) (x : Extension) → plan_of h ≡ [] → executed h ≡ executed [] → hands_over e.deed ≡ Some x → executes e.deed ≡ None → (d : ℕ) → scripts_of m (h ++ e ∷ []) d ≡ on_some (slice_get (timeline_in (x ∷ []) d) 0) (script_at m (x ∷ []) (executed []) d 0)
scripts_first m h e x none at hands quiet d =
    scripts_are m (h ++ e ∷ []) d
    ∙ ap (λ (es : List Extension). scripts_at m es (executed (h ++ e ∷ [])) d 0 (timeline_in es d)) (plan_handed h e x hands ∙ ap (λ (es : List Extension). es ++ x ∷ []) none)
    ∙ ap (λ (u : Times). scripts_at m (x ∷ []) u d 0 (timeline_in (x ∷ []) d)) (ap time_at (times_kept h e quiet) ∙ at)
    ∙ first (timeline_in (x ∷ []) d)
  where
    later : (j : ℕ) → 1 ≤ j → executed [] (start_at (x ∷ []) d j) ≡ None
    later zero low = absurd (omega (arith, low))
    later (suc j) low = zero_alone _

    first : (ks : List Kind) → scripts_at m (x ∷ []) (executed []) d 0 ks ≡ on_some (slice_get ks 0) (script_at m (x ∷ []) (executed []) d 0)
    first [] = refl
    first (k ∷ ks) = ap (λ l. script_at m (x ∷ []) (executed []) d 0 k ++ l) (scripts_none m d (x ∷ []) (executed []) 1 ks (λ j low high. later j low)) ∙ append-nil _

-- and each of them begins at tick 0
pub first_begins : (m : Mission) → IsMission m → (x : Extension) (d : ℕ) → Begins 0 (on_some (slice_get (timeline_in (x ∷ []) d) 0) (script_at m (x ∷ []) (executed []) d 0))
first_begins m mission x d = by_token (slice_get (timeline_in (x ∷ []) d) 0)
  where
    by_token : (o : Option Kind) → Begins 0 (on_some o (script_at m (x ∷ []) (executed []) d 0))
    by_token None = tt
    by_token (Some k) = script_begins m mission (x ∷ []) (executed []) d 0 0 k refl
