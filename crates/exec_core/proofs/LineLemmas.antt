-- What is shown of a timeline is the machine's reply, and leaves no entry; and which points no device tells.
use Rattle.std.proofs.Common.{◌≡◌, ◌↔◌, ℕ, ◌<◌, Bool, false, List, length, Some, sym, ap, ◌∙◌, subst, arith}
use Rattle.std.proofs.lemmas.Bool.Decides.{nat_tests}
use Rattle.std.specs.Prelude.{ℤ, nat_le}
use Rattle.hs_base.specs.declared.mission.Mission.{Mission}
use Rattle.hs_base.specs.declared.plan.Extension.{Extension}
use Rattle.hs_base.specs.Fits.{Times}
use Rattle.hs_machine.specs.declared.history.Phase.TheVariants.{Running}
use Rattle.hs_machine.specs.Machine.{Replies, line, shown}
use Rattle.hs_machine.specs.State.{executed, phase_of, plan_of}
use Rattle.hs_machine.specs.Views.{line_of}
use Rattle.hs_machine.specs.Views as views
use Rattle.dispatcher.specs.State.{IsOpen, is_observed, time_in}
use Rattle.exec_laws.proofs.StepLemmas.{replies_running}
use Rattle.line_view.specs.Lines.{line_in}
use Rattle.exec_core.specs.Kept.{IsFlying, IsKept}
use Rattle.exec_core.specs.Own.{IsOwn}
use Rattle.exec_core.specs.Recorded.{Recorded}
use Rattle.exec_core.specs.declared.exec.Exec.TheInside.{Inside}
use Rattle.exec_core.specs.declared.flight.Flight.{Flight}
use Rattle.exec_core.proofs.KeptLemmas.{flying}
use Rattle.exec_core.proofs.LawfulLemmas.{running_there, seen}

module _ (d : Inside) (k : IsKept d) (f : Flight) (at : d.live ≡ Some f) where
  -- the line of the flight is that of the history
  line_is : (v : ℕ) → line_in f.plan.mission f.plan.plan.extensions (time_in f.dispatch) f.dispatch.tick v ≡ line_of d.mission d.history.items v
  line_is v =
      let fl = flying d k f at in
      ap (λ (m : Mission). line_in m f.plan.plan.extensions (time_in f.dispatch) f.dispatch.tick v) fl.mission
      ∙ ap (λ (es : List Extension). line_in d.mission es (time_in f.dispatch) f.dispatch.tick v) fl.plan
      ∙ ap (λ (t : Times). line_in d.mission (plan_of d.history.items) t f.dispatch.tick v) fl.follows.times
      ∙ ap (λ (n : ℤ). line_in d.mission (plan_of d.history.items) (executed d.history.items) n v) fl.follows.tick

  pub line_lawful : (r : Recorded) (v : ℕ) (l : views.Line) → seen d ≡ r → phase_of r.history ≡ Running → v < length d.mission.vars → l ≡ line_in f.plan.mission f.plan.plan.extensions (time_in f.dispatch) f.dispatch.tick v → Replies r.mission r.history (line v) (shown l)
  line_lawful r v l is run below shows =
      let there : nat_le (length d.mission.vars) v ≡ false = grind (arith, nat_tests) in
      subst (λ (x : Recorded). Replies x.mission x.history (line v) (shown l)) is
      (replies_running d.mission d.history.items (line v) (shown l) (running_there d k r is run) (rw there (ap shown (shows ∙ line_is v))))

  -- a point is open for the dispatch, and for the history
  pub own_seen : (r : Recorded) (x : ℕ) → seen d ≡ r → (IsOpen f.dispatch x × (is_observed f.dispatch x ≡ false)) ↔ IsOwn r.mission r.history x
  own_seen r x is = subst (λ (y : Recorded). (IsOpen f.dispatch x × (is_observed f.dispatch x ≡ false)) ↔ IsOwn y.mission y.history x) is (there, back)
    where
      fl : IsFlying d.mission d.history.items f
      fl = flying d k f at

      there : IsOpen f.dispatch x × (is_observed f.dispatch x ≡ false) → IsOwn d.mission d.history.items x
      there o = record {
        below = omega (arith, o.0.below, fl.follows.points);
        waits = sym (ap (λ (t : Times). t x) fl.follows.times) ∙ o.0.none;
        own = sym (ap (λ (b : ℕ → Bool). b x) fl.follows.observed) ∙ o.1;
      }

      back : IsOwn d.mission d.history.items x → IsOpen f.dispatch x × (is_observed f.dispatch x ≡ false)
      back o = (record { below = omega (arith, o.below, fl.follows.points); none = ap (λ (t : Times). t x) fl.follows.times ∙ o.waits }, ap (λ (b : ℕ → Bool). b x) fl.follows.observed ∙ o.own)
