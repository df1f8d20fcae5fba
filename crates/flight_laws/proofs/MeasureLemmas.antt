-- Each fire and each tick leaves fewer steps.
use Rattle.std.proofs.Common.{◌≡◌, ℕ, ◌<◌, ◌≤◌, Bool, true, false, cond, nat_eq, List, [], ◌∷◌, length, Some, None, refl, sym, ap, ◌∙◌, arith, inl, inr, pos}
use Rattle.std.proofs.lemmas.Int.{ints}
use Rattle.std.proofs.lemmas.Bool.Decides.{nat_tests}
use Rattle.std.specs.Prelude.{filter}
use Rattle.std.specs.Option.{is_none}
use Rattle.hs_base.specs.declared.ids.PointId.{PointId}
use Rattle.hs_base.specs.declared.mission.Mission.{Mission}
use Rattle.hs_base.specs.declared.plan.Extension.{Extension}
use Rattle.hs_machine.specs.declared.history.Entry.{Entry}
use Rattle.hs_machine.specs.declared.history.Deed.TheVariants.{Tick, Fire}
use Rattle.hs_base.specs.Missions.{IsHorizon}
use Rattle.hs_base.specs.Points.{count}
use Rattle.hs_base.specs.Fits.{time_at}
use Rattle.hs_base.specs.Schedule.{numbers_from}
use Rattle.hs_machine.specs.State.{now_of, plan_of, count_at, executed}
use Rattle.hs_machine.specs.Machine.{tick, fire, done, Replies}
use Rattle.hs_machine.specs.Run.{Run}
use Rattle.base_laws.proofs.ListLemmas.{each_at}
use Rattle.net_laws.proofs.BetweenLemmas.{Has}
use Rattle.net_laws.proofs.ListLemmas.{numbers_has}
use Rattle.run_laws.proofs.StateLemmas.{plan_kept, times_kept, executed-put, now_of-push}
use Rattle.run_laws.proofs.RunLemmas.{event_reply}
use Rattle.run_laws.proofs.CheckedLemmas.{run_checked}
use Rattle.exec_laws.proofs.ReplyLemmas.{may_execute, done_running}
use Rattle.exec_laws.proofs.StepLemmas.{running}
use Rattle.exec_laws.proofs.HorizonLemmas.{before_tick}
use Rattle.exec_laws.proofs.EndingLemmas.{last_horizon}
use Rattle.flight_laws.specs.Flights.{open_points, steps_left}
use Rattle.flight_laws.proofs.TurnLemmas.{with_deed}

-- what passes one test passes the other too, so no more do
filter_less : (p q : ℕ → Bool) (xs : List ℕ) → ((x : ℕ) → q x ≡ true → p x ≡ true) → length (filter q xs) ≤ length (filter p xs)
filter_less p q [] h = omega arith
filter_less p q (x ∷ xs) h = by_case (filter_less p q xs h) (p x) refl (q x) refl
  where
    by_case : length (filter q xs) ≤ length (filter p xs) → (a : Bool) → p x ≡ a → (b : Bool) → q x ≡ b → length (filter q (x ∷ xs)) ≤ length (filter p (x ∷ xs))
    by_case old true pa true qb = rw (pa, qb) (omega (arith, old))
    by_case old true pa false qb = rw (pa, qb) (omega (arith, old))
    by_case old false pa true qb = absurd (let e : true ≡ false = sym (h x qb) ∙ pa in cc)
    by_case old false pa false qb = rw (pa, qb) old

-- and fewer, where an element passes that one alone
filter_fewer : (p q : ℕ → Bool) (xs : List ℕ) (x : ℕ) → ((y : ℕ) → q y ≡ true → p y ≡ true) → Has xs x → p x ≡ true → q x ≡ false → length (filter q xs) < length (filter p xs)
filter_fewer p q [] x h has passes fails = absurd has
filter_fewer p q (y ∷ xs) x h (inl same) passes fails =
    let pa : p y ≡ true = ap p same ∙ passes in
    let qb : q y ≡ false = ap q same ∙ fails in
    let old : length (filter q xs) ≤ length (filter p xs) = filter_less p q xs h in
    rw (pa, qb) (omega (arith, old))
filter_fewer p q (y ∷ xs) x h (inr later) passes fails = by_case (filter_fewer p q xs x h later passes fails) (p y) refl (q y) refl
  where
    by_case : length (filter q xs) < length (filter p xs) → (a : Bool) → p y ≡ a → (b : Bool) → q y ≡ b → length (filter q (y ∷ xs)) < length (filter p (y ∷ xs))
    by_case old true pa true qb = rw (pa, qb) (omega (arith, old))
    by_case old true pa false qb = rw (pa, qb) (omega (arith, old))
    by_case old false pa true qb = absurd (let e : true ≡ false = sym (h y qb) ∙ pa in cc)
    by_case old false pa false qb = rw (pa, qb) old

-- a fire
pub fire_fewer : (m : Mission) (h : List Entry) (by : ℕ) (x : PointId) → Replies m h (fire x.0) done → steps_left (with_deed h by (Fire x)) < steps_left h
fire_fewer m h by x lawful =
    let may = may_execute m h (Fire x) x (fire x.0) done lawful (refl, refl) refl in
    let shrunk : length (filter (λ y. is_none (executed after y)) (numbers_from 0 (count_at h))) < length (open_points h) =
    filter_fewer (λ y. is_none (executed h y)) (λ y. is_none (executed after y)) (numbers_from 0 (count_at h)) x.0 (λ y. kept y may.none) (numbers_has 0 (count_at h) x.0 (omega arith) (omega (arith, may.below))) (ap is_none may.none) (gone may.none) in
    let same : open_points after ≡ filter (λ y. is_none (executed after y)) (numbers_from 0 (count_at h)) = ap (λ (es : List Extension). filter (λ y. is_none (executed after y)) (numbers_from 0 (count es))) (plan_kept h e refl) in
    omega (arith, now_of-push h e, shrunk, ap length same)
  where
    e : Entry
    e = record { by = by; deed = Fire x }

    after : List Entry
    after = with_deed h by (Fire x)

    kept : (y : ℕ) → executed h x.0 ≡ None → is_none (executed after y) ≡ true → is_none (executed h y) ≡ true
    kept y free is = by_case (nat_eq y x.0) refl
      where
        put_is : is_none (cond (nat_eq y x.0) (Some (pos (now_of h))) (executed h y)) ≡ true
        put_is = sym (ap is_none (executed-put h e x y refl free)) ∙ is

        by_case : (b : Bool) → nat_eq y x.0 ≡ b → is_none (executed h y) ≡ true
        by_case true same = absurd (let f : false ≡ true = rw same at put_is in cc)
        by_case false other = rw other at put_is

    gone : executed h x.0 ≡ None → is_none (executed after x.0) ≡ false
    gone free = let same : nat_eq x.0 x.0 ≡ true = grind (arith, nat_tests) in ap is_none (executed-put h e x x.0 refl free) ∙ rw same refl

-- a tick
pub tick_fewer : (m : Mission) (h : List Entry) (by : ℕ) → Run m h → Replies m h tick done → steps_left (with_deed h by Tick) < steps_left h
tick_fewer m h by run lawful =
    let r = running h (done_running m h tick lawful refl) in
    let checked = run_checked m h run r.some in
    let g = last_horizon m (plan_of h) checked r.some in
    let early = before_tick m h g.0 (event_reply m h tick lawful) r.some r.open_mark g.1 in
    let last = (each_at (IsHorizon m.vars) m.horizons _ g.0 checked.mission.horizons g.1).tick.1 in
    let same : open_points after ≡ open_points h = ap (λ ts. filter (λ y. is_none (time_at ts y)) (numbers_from 0 (count_at after))) (times_kept h e refl) ∙ ap (λ (fs : List Extension). filter (λ y. is_none (executed h y)) (numbers_from 0 (count fs))) (plan_kept h e refl) in
    omega (arith, ints, now_of-push h e, early, last, ap length same)
  where
    e : Entry
    e = record { by = by; deed = Tick }

    after : List Entry
    after = with_deed h by Tick
