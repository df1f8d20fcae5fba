-- A flight without devices: each step keeps it, and where none is left it has ended.
use Rattle.std.proofs.Common.{◌≡◌, ◌≢◌, ℕ, ◌<◌, Bool, true, false, List, [], refl, sym, ap, ◌∙◌, subst, arith}
use Rattle.hs_base.specs.declared.ids.PointId.{PointId}
use Rattle.hs_base.specs.declared.mission.Mission.{Mission}
use Rattle.hs_base.specs.declared.plan.Extension.{Extension}
use Rattle.hs_machine.specs.declared.history.Entry.{Entry}
use Rattle.hs_machine.specs.declared.history.Deed.TheVariants.{Fire}
use Rattle.hs_machine.specs.declared.history.Phase.TheVariants.{Ended}
use Rattle.hs_base.specs.Missions.{IsMission}
use Rattle.hs_base.specs.Points.{count}
use Rattle.hs_machine.specs.State.{plan_of, has_ended, phase_of}
use Rattle.hs_machine.specs.Eager.{NoneMayFire}
use Rattle.hs_machine.specs.Machine.{Reply, tick, fire, handover, done, over, Turn, leaves_deed}
use Rattle.exec_laws.proofs.ReplyLemmas.{may_execute}
use Rattle.exec_laws.proofs.StepLemmas.{phase_flying}
use Rattle.flight_laws.specs.Flights.{steps_left, HasNoDevices, IsFlight, IsFlying, AreStill}
use Rattle.flight_laws.proofs.TurnLemmas.{turn_fired, turn_ticked, turn_quiet, tick_goes}
use Rattle.flight_laws.proofs.MeasureLemmas.{fire_fewer, tick_fewer}
use Rattle.flight_laws.proofs.DeviceLemmas.{none_observed}
use Rattle.flight_laws.proofs.FlightLemmas.{flight_handed, flight_fired, flight_ticked}

-- a step of a flight
pub record Steps (m : Mission) (h h2 : List Entry) (points : ℕ) : Type 0 where
  pub flying : IsFlying m h2 points
  pub fewer : steps_left h2 < steps_left h
  pub plan : plan_of h2 ≡ plan_of h

flying_on : (m : Mission) (h h2 : List Entry) (points : ℕ) → IsFlying m h points → IsFlight m (plan_of h) h2 → IsFlying m h2 points
flying_on m h h2 points f flight = record {
  flight = subst (λ (es : List Extension). IsFlight m es h2) (sym flight.plan) flight;
  some = λ (e : plan_of h2 ≡ []). f.some (sym flight.plan ∙ e);
  no_devices = f.no_devices;
  points_are = f.points_are ∙ ap count (sym flight.plan);
}

-- a fire
pub flying_fired : (m : Mission) (h : List Entry) (points by : ℕ) (x : PointId) (h2 : List Entry) → IsFlying m h points → Turn m h by (fire x.0) done h2 → Steps m h h2 points
flying_fired m h points by x h2 f turn =
    let flight = flight_fired m (plan_of h) h by x h2 f.flight turn in
    record {
      flying = flying_on m h h2 points f flight;
      fewer = subst (λ (l : List Entry). steps_left l < steps_left h) (sym (turn_fired m h by x h2 turn)) (fire_fewer m h by x turn.answers.lawful);
      plan = flight.plan;
    }

-- a tick before which no point may be fired
pub flying_ticked : (m : Mission) (h : List Entry) (points by : ℕ) (h2 : List Entry) → IsFlying m h points → NoneMayFire m h → Turn m h by tick done h2 → Steps m h h2 points
flying_ticked m h points by h2 f still turn =
    let flight = flight_ticked m (plan_of h) h by h2 f.flight still turn in
    record {
      flying = flying_on m h h2 points f flight;
      fewer = subst (λ (l : List Entry). steps_left l < steps_left h) (sym (turn_ticked m h by h2 turn)) (tick_fewer m h by f.flight.run turn.answers.lawful);
      plan = flight.plan;
    }

-- where none of its points may be fired, no point may be
pub none_left : (m : Mission) (h : List Entry) (points : ℕ) → IsFlying m h points → AreStill m h points → NoneMayFire m h
none_left m h points f still x lawful =
    let may = may_execute m h (Fire (record { 0 = x })) (record { 0 = x }) (fire x) done lawful (refl, refl) refl in
    still x (omega (arith, f.points_are, may.below)) lawful

-- where no point may be fired and no tick is Done, the flight has ended
pub flying_stops : (m : Mission) (h : List Entry) (points by : ℕ) (reply : Reply) (h2 : List Entry) → IsFlying m h points → NoneMayFire m h → Turn m h by tick reply h2 → reply ≢ done → (phase_of h ≡ Ended) × (h2 ≡ h)
flying_stops m h points by reply h2 f still turn other = by_end (has_ended h) refl
  where
    by_end : (b : Bool) → has_ended h ≡ b → (phase_of h ≡ Ended) × (h2 ≡ h)
    by_end false is = absurd (other (tick_goes m h reply f.flight.run (phase_flying h false f.flight.sound f.some is) still (none_observed m f.no_devices (plan_of h)) turn.answers.lawful))
    by_end true is =
        let ended : phase_of h ≡ Ended = phase_flying h true f.flight.sound f.some is in
        let said : reply ≡ over = rw ended at turn.answers.lawful in
        (ended, turn_quiet m h by tick reply h2 turn (ap leaves_deed said))

-- the first handover
pub flying_handed : (m : Mission) (es : List Extension) (points by : ℕ) (h2 : List Entry) → IsMission m → es ≢ [] → HasNoDevices m → points ≡ count es → Turn m [] by (handover m es) done h2 → IsFlying m h2 points × (plan_of h2 ≡ es)
flying_handed m es points by h2 mission some none size turn =
    let flight = flight_handed m es by m h2 mission turn in (
      record {
        flight = subst (λ (l : List Extension). IsFlight m l h2) (sym flight.plan) flight;
        some = λ (e : plan_of h2 ≡ []). some (sym flight.plan ∙ e);
        no_devices = none;
        points_are = size ∙ ap count (sym flight.plan);
      },
      flight.plan,
    )
