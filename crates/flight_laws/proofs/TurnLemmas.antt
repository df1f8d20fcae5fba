-- What a turn of the machine adds to the history, and what it tells where it adds nothing.
use Rattle.std.proofs.Common.{◌≡◌, ◌≢◌, ℕ, Bool, true, false, nat_le, List, [], ◌∷◌, ◌++◌, append-nil, ◌&&◌, Option, Some, None, refl, sym, ap, ◌∙◌, subst}
use Rattle.std.specs.Prelude.{ℤ, MatchOption, option_to_list}
use Rattle.hs_base.specs.declared.ids.PointId.{PointId}
use Rattle.hs_base.specs.declared.mission.Mission.{Mission}
use Rattle.hs_machine.specs.declared.history.Entry.{Entry}
use Rattle.hs_machine.specs.declared.history.Deed.{Deed}
use Rattle.hs_machine.specs.declared.history.Deed.TheVariants.{Tick, Fire, Report, Handover, Stale as StaleDeed, Late, Early, Broken}
use Rattle.hs_machine.specs.declared.history.Phase.TheVariants.{Running}
use Rattle.hs_machine.specs.Run.{Run}
use Rattle.hs_machine.specs.Eager.{NoneMayFire}
use Rattle.hs_machine.specs.State.{count_at, executed, watched, moment_of, phase_of}
use Rattle.hs_machine.specs.Machine.{Event, Reply, tick, fire, report, broken, handover, done, due, not_yet, waits, observed, already, no_point, failed, over, no_net, RefusedIf, OwnReply, TickReply, Replies, IsLeftBy, IsAdded, Turn, is_over, is_waiting, leaves_deed}
use Rattle.exec_laws.proofs.StepLemmas.{run_more}
use Rattle.exec_laws.proofs.RunningLemmas.{due_done}
use Rattle.flight_laws.specs.Flights.{IsUnwatched}

-- one more entry of a pass
abbrev pub with_deed : List Entry → ℕ → Deed → List Entry
with_deed h by d = h ++ record { by = by; deed = d } ∷ []

-- a turn keeps a run
pub turn_run : (m : Mission) (h : List Entry) (by : ℕ) (event : Event) (reply : Reply) (h2 : List Entry) → Run m h → Turn m h by event reply h2 → Run m h2
turn_run m h by event reply h2 run turn = by_case turn.added turn.answers.leaves turn.after
  where
    by_case : (o : Option Entry) → IsAdded m by event reply o → h2 ≡ h ++ option_to_list o → Run m h2
    by_case None quiet after = subst (Run m) (sym (after ∙ append-nil h)) run
    by_case (Some e) left after =
        subst (Run m) (sym after) (run_more m h e run (record { event = event; reply = reply; answers = record { lawful = turn.answers.lawful; leaves = (refl, left.1) } }))

-- a reply that leaves a deed is one that leaves an entry
pub left_loud : (m : Mission) (d : Deed) (event : Event) (reply : Reply) → IsLeftBy m d event reply → leaves_deed reply ≡ true
left_loud m Tick event reply left = rw (left.1) refl
left_loud m (Fire x) event reply left = rw (left.1) refl
left_loud m (Report x) event reply left = rw (left.1) refl
left_loud m (Handover e n) event reply left = rw (left.2) refl
left_loud m (StaleDeed e b p q) event reply left = rw (left.2) refl
left_loud m (Late b) event reply left = rw (left.1) refl
left_loud m (Early b) event reply left = rw (left.1) refl
left_loud m (Broken d) event reply left = rw (left.1) refl

-- an event that is answered without an entry
pub turn_quiet : (m : Mission) (h : List Entry) (by : ℕ) (event : Event) (reply : Reply) (h2 : List Entry) → Turn m h by event reply h2 → leaves_deed reply ≡ false → h2 ≡ h
turn_quiet m h by event reply h2 turn quiet = by_case turn.added turn.answers.leaves turn.after
  where
    by_case : (o : Option Entry) → IsAdded m by event reply o → h2 ≡ h ++ option_to_list o → h2 ≡ h
    by_case None is after = after ∙ append-nil h
    by_case (Some e) left after = absurd (let f : false ≡ true = sym quiet ∙ left_loud m e.deed event reply left.1 in cc)

-- a deed that an event leaves with Done
module _ (m : Mission) (h : List Entry) (by : ℕ) (event : Event) (h2 : List Entry) (turn : Turn m h by event done h2) where
  left_one : (d : Deed) → ((c : Deed) → IsLeftBy m c event done → c ≡ d) → h2 ≡ with_deed h by d
  left_one d only = by_case turn.added turn.answers.leaves turn.after
    where
      by_case : (o : Option Entry) → IsAdded m by event done o → h2 ≡ h ++ option_to_list o → h2 ≡ with_deed h by d
      by_case None is after = absurd (let e : true ≡ false = is in cc)
      by_case (Some e) left after =
          let same : e ≡ record { by = by; deed = d } = ap (λ n. record { by = n; deed = e.deed }) left.0 ∙ ap (λ c. record { by = by; deed = c }) (only e.deed left.1) in
          after ∙ ap (λ (x : Entry). h ++ x ∷ []) same

-- a fire that is Done
pub turn_fired : (m : Mission) (h : List Entry) (by : ℕ) (x : PointId) (h2 : List Entry) → Turn m h by (fire x.0) done h2 → h2 ≡ with_deed h by (Fire x)
turn_fired m h by x h2 turn = left_one m h by (fire x.0) h2 turn (Fire x) only
  where
    only : (c : Deed) → IsLeftBy m c (fire x.0) done → c ≡ Fire x
    only Tick left = absurd (let e : fire x.0 ≡ tick = left.0 in cc)
    only (Fire y) left = let e : fire x.0 ≡ fire y.0 = left.0 in let n : x.0 ≡ y.0 = cc in ap (λ (i : ℕ). Fire (record { 0 = i })) (sym n)
    only (Report y) left = absurd (let e : fire x.0 ≡ report y.0 = left.0 in cc)
    only (Handover e n) left = absurd (let f : fire x.0 ≡ handover m (left.0 ++ e ∷ []) = left.1 in cc)
    only (StaleDeed e b p q) left = absurd (let f : fire x.0 ≡ handover m (left.0 ++ e ∷ []) = left.1 in cc)
    only (Late b) left = absurd (let e : fire x.0 ≡ tick = left.0 in cc)
    only (Early b) left = absurd (let e : fire x.0 ≡ report b.from.0 = left.0 in cc)
    only (Broken d) left = absurd (let e : fire x.0 ≡ broken d.0 = left.0 in cc)

-- a tick that is Done
pub turn_ticked : (m : Mission) (h : List Entry) (by : ℕ) (h2 : List Entry) → Turn m h by tick done h2 → h2 ≡ with_deed h by Tick
turn_ticked m h by h2 turn = left_one m h by tick h2 turn Tick only
  where
    only : (c : Deed) → IsLeftBy m c tick done → c ≡ Tick
    only Tick left = refl
    only (Fire y) left = absurd (let e : tick ≡ fire y.0 = left.0 in cc)
    only (Report y) left = absurd (let e : tick ≡ report y.0 = left.0 in cc)
    only (Handover e n) left = absurd (let f : tick ≡ handover m (left.0 ++ e ∷ []) = left.1 in cc)
    only (StaleDeed e b p q) left = absurd (let f : tick ≡ handover m (left.0 ++ e ∷ []) = left.1 in cc)
    only (Late b) left = absurd (let e : done ≡ failed b = left.1 in cc)
    only (Early b) left = absurd (let e : tick ≡ report b.from.0 = left.0 in cc)
    only (Broken d) left = absurd (let e : tick ≡ broken d.0 = left.0 in cc)

-- a reply that leaves no entry, where the other claim would have left one
pub record Quiet (r : Reply) (Q : Type 0) : Type 0 where
  pub silent : leaves_deed r ≡ false
  pub not : Q → ⊥

refused : (b : Bool) (s r : Reply) (P Q : Type 0) → leaves_deed s ≡ false → s ≢ done → (P → Quiet r Q) → RefusedIf b s r P → Quiet r (RefusedIf b s done Q)
refused true s r P Q silent other rest is = record { silent = ap leaves_deed is ∙ silent; not = λ (e : done ≡ s). other (sym e) }
refused false s r P Q silent other rest is = rest is

open_still : (o : Option ℤ) (r : Reply) (P Q : Type 0) → (P → Quiet r Q) → MatchOption o P (λ t. r ≡ already t) → Quiet r (MatchOption o Q (λ t. done ≡ already t))
open_still None r P Q rest is = rest is
open_still (Some t) r P Q rest is = record { silent = ap leaves_deed is; not = λ (e : done ≡ already t). cc }

-- a fire that isn't Done leaves nothing, and nothing else would have been answered with Done
pub fire_quiet : (m : Mission) (h : List Entry) (x : ℕ) (r : Reply) → r ≢ done → Replies m h (fire x) r → Quiet r (Replies m h (fire x) done)
fire_quiet m h x r other =
    refused (is_over (phase_of h)) over r _ _ refl (λ (e : over ≡ done). cc)
    (refused (is_waiting (phase_of h) && true) no_net r _ _ refl (λ (e : no_net ≡ done). cc)
    (refused (nat_le (count_at h) x) no_point r _ _ refl (λ (e : no_point ≡ done). cc)
    (open_still (executed h x) r _ _
    (refused (watched m h x) observed r _ _ refl (λ (e : observed ≡ done). cc) (own r other)))))
  where
    own : (s : Reply) → s ≢ done → OwnReply (moment_of m h) x s → Quiet s (OwnReply (moment_of m h) x done)
    own (waits y) o f = record { silent = refl; not = λ d. d.0 y f.tied }
    own done o f = absurd (o refl)
    own (not_yet b) o f = record { silent = refl; not = λ d. f.1 d.1 }
    own _ o f = absurd f

-- where no point may be fired and no device ends one, a running state's tick is Done
pub tick_goes : (m : Mission) (h : List Entry) (r : Reply) → Run m h → phase_of h ≡ Running → NoneMayFire m h → IsUnwatched m h → Replies m h tick r → r ≡ done
tick_goes m h r run running still unwatched lawful = by_reply r lawful (rw running at lawful)
  where
    by_reply : (s : Reply) → Replies m h tick s → TickReply (moment_of m h) s → s ≡ done
    by_reply done whole t = refl
    by_reply (due x) whole t = absurd (still x (due_done m h run x whole))
    by_reply (failed b) whole t = absurd (let e : true ≡ false = sym t.2.0.watched ∙ unwatched t.2.0.to in cc)
    by_reply _ whole t = absurd t
