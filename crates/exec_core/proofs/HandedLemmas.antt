-- The first handover: its reply, its entry, and what is kept.
use Rattle.std.proofs.Common.{◌≡◌, ◌≢◌, ℕ, ◌+◌, ◌-◌, ◌≤◌, Bool, true, false, List, [], ◌∷◌, ◌++◌, length, Some, None, refl, sym, ap, ◌∙◌, subst, arith, pos, length-append, add-zero}
use Rattle.std.proofs.lemmas.Int.{ints}
use Rattle.std.proofs.lemmas.List.Sums.{count_by-le-length}
use Rattle.std.specs.Prelude.{ℤ, ◌+ℤ◌, ◌≤ℤ◌, slice_get, vec_capacity}
use Rattle.std.specs.Option.{is_none}
use Rattle.hs_base.specs.declared.mission.Horizon.{Horizon}
use Rattle.hs_base.specs.declared.mission.Mission.{Mission}
use Rattle.hs_base.specs.declared.plan.Extension.{Extension}
use Rattle.hs_base.specs.declared.net.Net.{Net}
use Rattle.hs_machine.specs.declared.history.Entry.{Entry}
use Rattle.hs_machine.specs.declared.history.Deed.TheVariants.{Handover}
use Rattle.hs_machine.specs.declared.history.Phase.{Phase}
use Rattle.hs_machine.specs.declared.history.Phase.TheVariants.{Failed}
use Rattle.hs_base.specs.Points.{count, hor, is_observed as ends_by_device}
use Rattle.hs_base.specs.Bounds.{bounds_of}
use Rattle.hs_base.specs.Reduced.{IsReducedOf}
use Rattle.hs_base.specs.Checked.{Checked}
use Rattle.hs_base.specs.Fits.{Times, Fits, time_at}
use Rattle.hs_machine.specs.State.{now_of, plan_of, executed, tick_at, moment_of}
use Rattle.hs_machine.specs.Machine.{handover, done, Replies, IsLeftBy, Turn, base_of, is_over}
use Rattle.hs_machine.specs.Run.{MayAdd}
use Rattle.run_laws.proofs.StateLemmas.{plan_handed, times_kept, now_of-push}
use Rattle.dispatcher.specs.State.{State}
use Rattle.plan_check.specs.Planned.{Planned}
use Rattle.exec_laws.specs.Follows.{Follows}
use Rattle.exec_laws.proofs.StepLemmas.{replies_waiting, turn_added, may_add}
use Rattle.exec_laws.proofs.EndingLemmas.{last_horizon}
use Rattle.horizon_handover.specs.Offers.{beginning}
use Rattle.horizon_handover.proofs.StartLemmas.{start_fits}
use Rattle.exec_core.specs.Next.{MayTake}
use Rattle.exec_core.specs.Room.{HasRoom}
use Rattle.exec_core.specs.Kept.{IsFlying, IsAt, HasRoomFor, IsKept}
use Rattle.exec_core.specs.declared.flight.Flight.{Flight}
use Rattle.exec_core.specs.declared.exec.Exec.TheInside.{Inside}
use Rattle.exec_core.proofs.KeptLemmas.{grounded, grown, Grown, still_sound, phase_if_grounded, phase_if_failed}
use Rattle.exec_core.proofs.LawfulLemmas.{seen}

module _ (d : Inside) (k : IsKept d) (none : d.live ≡ None) (p : Planned) (may : MayTake (seen d) p) (ext : Extension) (net : Net) (s : State) (by : ℕ) (checked : Checked p.mission p.plan.extensions) (disp : Follows (beginning p) s) (last : p.plan.extensions ≡ base_of p.plan.extensions ++ ext ∷ []) (net_is : net ≡ s.net) where
  abbrev m : Mission
  m = d.mission

  abbrev h : List Entry
  h = d.history.items

  abbrev es : List Extension
  es = plan_of h ++ ext ∷ []

  abbrev pub e : Entry
  e = record { by = by; deed = Handover ext net }

  abbrev q : Planned
  q = record { mission = m; plan = record { extensions = es } }

  extensions_are : p.plan.extensions ≡ es
  extensions_are = last ∙ ap (λ (l : List Extension). l ++ ext ∷ []) may.next.1

  same : p ≡ q
  same = ap (λ (x : Mission). record { mission = x; plan = p.plan }) may.mission ∙ ap (λ (l : List Extension). record { mission = m; plan = record { extensions = l } }) extensions_are

  checked_there : Checked m es
  checked_there = subst (λ (x : Planned). Checked x.mission x.plan.extensions) same checked

  disp_there : Follows (beginning q) s
  disp_there = subst (λ (x : Planned). Follows (beginning x) s) same disp

  fits_there : Fits (count es) (bounds_of m es) (executed h) (tick_at h) checked_there.schedule
  fits_there =
      let g = grounded d k none in
      subst (λ (n : ℕ). Fits (count es) (bounds_of m es) (executed h) (pos n) checked_there.schedule) (sym g.now_is) (subst (λ (t : Times). Fits (count es) (bounds_of m es) t (pos 0) checked_there.schedule) (sym g.times) (start_fits q checked_there))

  plan_now : plan_of (h ++ e ∷ []) ≡ es
  plan_now = plan_handed h e ext refl

  some : es ≢ []
  some = λ (x : es ≡ []). absurd (omega (arith, ap length x, length-append (plan_of h) (ext ∷ [])))

  -- nothing has failed
  sound : d.failed ≡ false
  sound = by_case d.failed refl
    where
      by_case : (b : Bool) → d.failed ≡ b → d.failed ≡ false
      by_case false is = is
      by_case true is = absurd (let c : is_over Failed ≡ false = subst (λ (x : Phase). is_over x ≡ false) (phase_if_failed d k is) may.going in cc)

  lawful : Replies m h (handover m es) done
  lawful = replies_waiting m h (handover m es) done (phase_if_grounded d k sound none) refl (refl, (some, ap base_of (sym extensions_are) ∙ may.next.1), (checked_there.schedule, fits_there))

  left : IsLeftBy m (Handover ext net) (handover m es) done
  left = (plan_of h, refl, refl, subst (IsReducedOf (count es) (bounds_of m es)) (sym net_is) disp_there.reduced, checked_there)

  adds : MayAdd m h e
  adds = may_add m h by (handover m es) done (Handover ext net) lawful left

  -- the turn
  pub handed_turn : Turn m h by (handover p.mission p.plan.extensions) done (h ++ e ∷ [])
  handed_turn = subst (λ (x : Planned). Turn m h by (handover x.mission x.plan.extensions) done (h ++ e ∷ [])) (sym same) (turn_added m h by (handover m es) done (Handover ext net) lawful left)

  follows : Follows (moment_of m (h ++ e ∷ [])) s
  follows = record {
    reduced = subst (λ (l : List Extension). IsReducedOf (count l) (bounds_of m l) s.net) (sym plan_now) disp_there.reduced;
    points = disp_there.points ∙ ap count (sym plan_now);
    times = disp_there.times ∙ sym (ap time_at (times_kept h e refl) ∙ (grounded d k none).times);
    observed = disp_there.observed ∙ ap (λ (l : List Extension). ends_by_device m l) (sym plan_now);
    tick = disp_there.tick ∙ ap pos (sym (now_of-push h e ∙ add-zero (now_of h) ∙ (grounded d k none).now_is));
  }

  module _ (f : Flight) (plan_is : f.plan ≡ p) (dispatch_is : f.dispatch ≡ s) (mark_is : f.mark.0 ≡ hor p.plan.extensions (length p.plan.extensions)) where
    flies : IsFlying m (h ++ e ∷ []) f
    flies = record {
      mission = ap (λ (x : Planned). x.mission) (plan_is ∙ same);
      plan = ap (λ (x : Planned). x.plan.extensions) (plan_is ∙ same) ∙ sym plan_now;
      some = λ (x : plan_of (h ++ e ∷ []) ≡ []). some (sym plan_now ∙ x);
      follows = subst (Follows (moment_of m (h ++ e ∷ []))) (sym dispatch_is) follows;
      mark = mark_is ∙ ap (λ (l : List Extension). hor l (length l)) (extensions_are ∙ sym plan_now);
    }

    module _ (room : ℕ) (enough : (g : Horizon) → slice_get p.mission.horizons (length p.plan.extensions - 1) ≡ Some g → (pos (length h + (count p.plan.extensions + 2)) +ℤ g.tick) ≤ℤ pos room) where
      has_room : HasRoom m (h ++ e ∷ []) f.dispatch room
      has_room =
          let g = last_horizon m es checked_there some in
          let need = enough g.0 (subst (λ (x : Planned). slice_get x.mission.horizons (length x.plan.extensions - 1) ≡ Some g.0) (sym same) g.1) in
          record {
            until = g.0.tick;
            is_until = record { horizon = g.0; is = ap (λ (l : List Extension). slice_get m.horizons (length l - 1)) plan_now ∙ g.1; tick = refl };
            enough = omega (
              arith,
              ints,
              need,
              length-append h (e ∷ []),
              count_by-le-length is_none f.dispatch.times,
              ap (λ (x : State). length x.times) dispatch_is,
              disp_there.points,
              ap count extensions_are,
              ap (λ (x : State). x.tick) dispatch_is,
              disp_there.tick,
              (grounded d k none).now_is,
            );
          }

      pub handed_kept : (d2 : Inside) → Grown d d2 e → d2.failed ≡ d.failed → d2.live ≡ Some f → vec_capacity d2.history ≡ room → IsKept d2
      handed_kept d2 grow fail now at =
          grown d d2 e k grow adds (still_sound h e d2.failed (fail ∙ k.failed) refl) (subst (IsAt m (h ++ e ∷ [])) (sym now) flies)
          (λ free. subst (λ o. HasRoomFor m (h ++ e ∷ []) o (vec_capacity d2.history)) (sym now) (subst (HasRoom m (h ++ e ∷ []) f.dispatch) (sym at) has_room))
