-- What a run gives the laws of later handovers.
use Rattle.std.proofs.Common.{◌≡◌, ◌≢◌, ℕ, zero, suc, ◌<◌, List, [], ◌∷◌, ◌++◌, length, Some, refl, sym, ap, ◌∙◌, subst, arith, pos}
use Rattle.std.proofs.lemmas.Int.{ints}
use Rattle.std.specs.Prelude.{ℤ, ◌≤ℤ◌, slice_get}
use Rattle.hs_base.specs.declared.mission.Mission.{Mission}
use Rattle.hs_base.specs.declared.net.Net.{Net}
use Rattle.hs_base.specs.declared.plan.Extension.{Extension}
use Rattle.hs_base.specs.Checked.{Checked}
use Rattle.hs_machine.specs.declared.history.Deed.TheVariants.{Handover}
use Rattle.hs_machine.specs.declared.history.Entry.{Entry}
use Rattle.hs_machine.specs.declared.history.Phase.TheVariants.{Running}
use Rattle.hs_machine.specs.Machine.{Replies, done, fire}
use Rattle.hs_machine.specs.Run.{Run}
use Rattle.hs_machine.specs.State.{executed, phase_of, plan_of}
use Rattle.hs_machine.specs.Views.{snapshot_of}
use Rattle.plan_laws.proofs.LengthLemmas.{points_in}
use Rattle.run_laws.proofs.CheckedLemmas.{run_checked}
use Rattle.run_laws.proofs.RunLemmas.{run_fits}
use Rattle.run_laws.proofs.StateLemmas.{plan_handed}
use Rattle.search_tree.specs.Begun.{begun_of}
use Rattle.search_tree.specs.Outset.{MayBegin}
use Rattle.exec_laws.proofs.RunningLemmas.{executed_in}
use Rattle.exec_laws.proofs.StepLemmas.{running}
use Rattle.simulation_laws.proofs.AfterLemmas.{no_fire_by_handover}
use Rattle.simulation_laws.proofs.OutsetLemmas.{snapshot_begins}

-- a plan with one more extension isn't empty
pub some_more : (es : List Extension) (e : Extension) → es ++ e ∷ [] ≢ []
some_more [] e none = absurd (omega (arith, ap length none))
some_more (x ∷ es) e none = absurd (omega (arith, ap length none))

-- a plan that was handed over is checked
pub handed_checked : (m : Mission) (h : List Entry) (by : ℕ) (e : Extension) (n : Net) → Run m (h ++ (record { by = by; deed = Handover e n }) ∷ []) → Checked m (plan_of h ++ e ∷ [])
handed_checked m h by e n run =
    let plan : plan_of (h ++ (record { by = by; deed = Handover e n }) ∷ []) ≡ plan_of h ++ e ∷ [] = plan_handed h (record { by = by; deed = Handover e n }) e refl in
    subst (Checked m) plan (run_checked m (h ++ (record { by = by; deed = Handover e n }) ∷ []) run (λ none. some_more (plan_of h) e (sym plan ∙ none)))

pub fires_before : (m : Mission) (h : List Entry) (by : ℕ) (e : Extension) (n : Net) (x : ℕ) → Run m (h ++ (record { by = by; deed = Handover e n }) ∷ []) → phase_of h ≡ Running → Replies m (h ++ (record { by = by; deed = Handover e n }) ∷ []) (fire x) done → Replies m h (fire x) done
fires_before m h by e n x run is lawful =
    let r = running h is in
    no_fire_by_handover m h e n by x (handed_checked m h by e n run) r.some r.open_mark is lawful

-- no point is executed before tick 0
pub times_low : (m : Mission) (h : List Entry) → Run m h → plan_of h ≢ [] → (x : ℕ) (t : ℤ) → executed h x ≡ Some t → pos 0 ≤ℤ t
times_low m h run some zero t is = let e : Some (pos 0) ≡ Some t = is in let value : pos 0 ≡ t = cc in omega (arith, ints, value)
times_low m h run some (suc x) t is =
    let f = run_fits m h run some in
    let range = (points_in m f.s (plan_of h) f.fits.meets).each (suc x) (omega arith) ((executed_in m h run).within (suc x) t is) in
    omega (arith, ints, range.0, f.fits.past (suc x) t is, f.fits.meets.origin)

-- a list has an element below its length
pub found_below : {X : Type 0} (xs : List X) (i : ℕ) → i < length xs → (x : X) × (slice_get xs i ≡ Some x)
found_below [] i below = absurd (omega (arith, below))
found_below (x ∷ xs) zero below = (x, refl)
found_below (x ∷ xs) (suc i) below = found_below xs i (omega (arith, below))

pub begins_at_snapshot : (m : Mission) (h : List Entry) → Run m h → phase_of h ≡ Running → length (plan_of h) < length m.horizons → MayBegin m (begun_of (snapshot_of m h))
begins_at_snapshot m h run is more =
    let r = running h is in
    let all = executed_in m h run in
    let g = found_below m.horizons (length (plan_of h)) more in
    snapshot_begins m h g.0 run (run_checked m h run r.some) r.some r.open_mark all.within all.late (times_low m h run r.some) g.1
