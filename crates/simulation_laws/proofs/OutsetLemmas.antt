-- A search may begin at the snapshot of a run that goes on.
use Rattle.std.proofs.Common.{◌≡◌, ◌≢◌, ℕ, ◌-◌, ◌<◌, false, List, [], ◌∷◌, length, Some, refl, arith, pos}
use Rattle.std.proofs.lemmas.Int.{ints}
use Rattle.std.specs.Prelude.{ℤ, ◌≤ℤ◌, ◌<ℤ◌, slice_get}
use Rattle.hs_base.specs.declared.mission.Horizon.{Horizon}
use Rattle.hs_base.specs.declared.mission.Mission.{Mission}
use Rattle.hs_base.specs.declared.plan.Extension.{Extension}
use Rattle.hs_machine.specs.declared.history.Entry.{Entry}
use Rattle.hs_base.specs.declared.limits.TheConstants.{LAST}
use Rattle.hs_base.specs.Checked.{Checked}
use Rattle.hs_base.specs.Missions.{IsHorizon}
use Rattle.hs_machine.specs.Run.{Run}
use Rattle.hs_machine.specs.State.{count_at, executed, has_ended, plan_of, tick_at}
use Rattle.hs_machine.specs.Views.{snapshot_of}
use Rattle.base_laws.proofs.ListLemmas.{each_at, in_order}
use Rattle.run_laws.proofs.RunLemmas.{run_fits}
use Rattle.search_tree.specs.Begun.{Begun, begun_of, pending}
use Rattle.search_tree.specs.Outset.{MayBegin}
use Rattle.exec_laws.proofs.EndingLemmas.{last_horizon}
use Rattle.exec_laws.proofs.HorizonLemmas.{before_horizon}
use Rattle.simulation_laws.proofs.SnapshotLemmas.{snapshot_keeps_fixed, snapshot_agrees, snapshot_later}

pub snapshot_begins : (m : Mission) (h : List Entry) (g : Horizon) → Run m h → Checked m (plan_of h) → plan_of h ≢ [] → has_ended h ≡ false → ((x : ℕ) (t : ℤ) → executed h x ≡ Some t → x < count_at h) → ((x : ℕ) (t : ℤ) → executed h x ≡ Some t → t ≤ℤ tick_at h) → ((x : ℕ) (t : ℤ) → executed h x ≡ Some t → pos 0 ≤ℤ t) → slice_get m.horizons (length (plan_of h)) ≡ Some g → MayBegin m (begun_of (snapshot_of m h))
snapshot_begins m h g run checked some open_ within late low is =
    let b : Begun = begun_of (snapshot_of m h) in
    let e : Extension = pending b in
    let f = run_fits m h run some in
    let newest = last_horizon m (plan_of h) checked some in
    let by : tick_at h ≤ℤ newest.0.tick = before_horizon m h newest.0 run some open_ newest.1 in
    let rises : newest.0.tick <ℤ g.tick = in_order (λ (a c : Horizon). a.tick <ℤ c.tick) m.horizons (length (plan_of h) - 1) (length (plan_of h)) newest.0 g checked.mission.rising newest.1 is (omega (arith, some_length (plan_of h) some)) in
    let limit = (each_at (IsHorizon m.vars) m.horizons (length (plan_of h)) g checked.mission.horizons is).tick.1 in
    let last : tick_at h ≤ℤ LAST = omega (arith, ints, by, rises, limit) in
    record {
      checked = checked;
      schedule = f.s;
      ongoing = record {
        meets = f.fits.meets;
        agrees = snapshot_agrees h e within late low refl last m f.s f.fits refl;
        later = snapshot_later h e within late low refl last m f.s f.fits refl;
      };
      fixed = snapshot_keeps_fixed h e within late low refl last refl;
      horizon = g;
      is_horizon = is;
      in_time = omega (arith, ints, by, rises);
      at_first = λ none. absurd (some none);
    }
  where
    some_length : (es : List Extension) → es ≢ [] → 0 < length es
    some_length [] n = absurd (n refl)
    some_length (e ∷ es) n = omega arith
