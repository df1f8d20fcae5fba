-- A run with devices goes on: a report leaves fewer steps, a settled tick is Done or late, and an eager history stays so.
use Rattle.std.proofs.Common.{◌≡◌, ◌⊎◌, ℕ, zero, suc, ◌+◌, ◌<◌, ◌≤◌, Bool, true, false, cond, nat_eq, List, [], ◌∷◌, ◌++◌, length, Some, None, refl, sym, ap, ◌∙◌, arith, inl, inr, pos}
use Rattle.std.proofs.lemmas.Bool.Decides.{nat_tests}
use Rattle.std.specs.Prelude.{filter, slice_get}
use Rattle.std.specs.Option.{is_none}
use Rattle.hs_base.specs.declared.ids.PointId.{PointId}
use Rattle.hs_base.specs.declared.mission.Mission.{Mission}
use Rattle.hs_base.specs.declared.net.Bound.{Bound}
use Rattle.hs_base.specs.declared.plan.Extension.{Extension}
use Rattle.hs_base.specs.Points.{count}
use Rattle.hs_base.specs.Schedule.{numbers_from}
use Rattle.hs_machine.specs.declared.history.Deed.TheVariants.{Report}
use Rattle.hs_machine.specs.declared.history.Entry.{Entry}
use Rattle.hs_machine.specs.declared.history.Phase.TheVariants.{Running}
use Rattle.hs_machine.specs.Eager.{Eager, NoneMayFire}
use Rattle.hs_machine.specs.Machine.{Reply, Replies, TickReply, done, due, failed, report, tick}
use Rattle.hs_machine.specs.Run.{Run}
use Rattle.hs_machine.specs.State.{count_at, executed, is_tick, moment_of, now_of, phase_of}
use Rattle.base_laws.proofs.ListLemmas.{EachAfter-more}
use Rattle.plan_laws.proofs.LengthLemmas.{number_at}
use Rattle.run_laws.proofs.StateLemmas.{executed-put, now_of-push, plan_kept}
use Rattle.exec_laws.proofs.ReplyLemmas.{may_execute}
use Rattle.exec_laws.proofs.RunningLemmas.{due_done}
use Rattle.flight_laws.specs.Flights.{open_points, steps_left}

-- what passes one test passes the other too, so no more do
filter_less : (p q : ℕ → Bool) (xs : List ℕ) → ((x : ℕ) → q x ≡ true → p x ≡ true) → length (filter q xs) ≤ length (filter p xs)
filter_less p q [] h = omega arith
filter_less p q (x ∷ xs) h = by_case (filter_less p q xs h) (p x) refl (q x) refl
  where
    by_case : length (filter q xs) ≤ length (filter p xs) → (a : Bool) → p x ≡ a → (b : Bool) → q x ≡ b → length (filter q (x ∷ xs)) ≤ length (filter p (x ∷ xs))
    by_case old true pa true qb = rw (pa, qb) (omega (arith, old))
    by_case old true pa false qb = rw (pa, qb) (omega (arith, old))
    by_case old false pa true qb = absurd (let e : true ≡ false = sym (h x qb) ∙ pa in cc)
    by_case old false pa false qb = rw (pa, qb) old

-- and fewer, where an element passes that one alone
filter_fewer : (p q : ℕ → Bool) (xs : List ℕ) (j x : ℕ) → ((y : ℕ) → q y ≡ true → p y ≡ true) → slice_get xs j ≡ Some x → p x ≡ true → q x ≡ false → length (filter q xs) < length (filter p xs)
filter_fewer p q [] j x h at passes fails = absurd (cc)
filter_fewer p q (y ∷ xs) zero x h at passes fails =
    let same : y ≡ x = cc in
    let pa : p y ≡ true = ap p same ∙ passes in
    let qb : q y ≡ false = ap q same ∙ fails in
    let old : length (filter q xs) ≤ length (filter p xs) = filter_less p q xs h in
    rw (pa, qb) (omega (arith, old))
filter_fewer p q (y ∷ xs) (suc j) x h at passes fails = by_case (filter_fewer p q xs j x h at passes fails) (p y) refl (q y) refl
  where
    by_case : length (filter q xs) < length (filter p xs) → (a : Bool) → p y ≡ a → (b : Bool) → q y ≡ b → length (filter q (y ∷ xs)) < length (filter p (y ∷ xs))
    by_case old true pa true qb = rw (pa, qb) (omega (arith, old))
    by_case old true pa false qb = rw (pa, qb) (omega (arith, old))
    by_case old false pa true qb = absurd (let e : true ≡ false = sym (h y qb) ∙ pa in cc)
    by_case old false pa false qb = rw (pa, qb) old

-- a report
pub report_fewer : (m : Mission) (h : List Entry) (by : ℕ) (x : PointId) → Replies m h (report x.0) done → steps_left (h ++ (record { by = by; deed = Report x }) ∷ []) < steps_left h
report_fewer m h by x lawful =
    let may = may_execute m h (Report x) x (report x.0) done lawful (refl, refl) refl in
    let there : slice_get (numbers_from 0 (count_at h)) x.0 ≡ Some x.0 = number_at 0 (count_at h) x.0 may.below ∙ (let z : 0 + x.0 ≡ x.0 = omega arith in ap (λ (k : ℕ). Some k) z) in
    let shrunk : length (filter (λ y. is_none (executed after y)) (numbers_from 0 (count_at h))) < length (open_points h) =
    filter_fewer (λ y. is_none (executed h y)) (λ y. is_none (executed after y)) (numbers_from 0 (count_at h)) x.0 x.0 (λ y. kept y may.none) there (ap is_none may.none) (gone may.none) in
    let same : open_points after ≡ filter (λ y. is_none (executed after y)) (numbers_from 0 (count_at h)) = ap (λ (es : List Extension). filter (λ y. is_none (executed after y)) (numbers_from 0 (count es))) (plan_kept h e refl) in
    omega (arith, now_of-push h e, shrunk, ap length same)
  where
    e : Entry
    e = record { by = by; deed = Report x }

    after : List Entry
    after = h ++ (record { by = by; deed = Report x }) ∷ []

    kept : (y : ℕ) → executed h x.0 ≡ None → is_none (executed after y) ≡ true → is_none (executed h y) ≡ true
    kept y free is = by_case (nat_eq y x.0) refl
      where
        put_is : is_none (cond (nat_eq y x.0) (Some (pos (now_of h))) (executed h y)) ≡ true
        put_is = sym (ap is_none (executed-put h e x y refl free)) ∙ is

        by_case : (b : Bool) → nat_eq y x.0 ≡ b → is_none (executed h y) ≡ true
        by_case true same = absurd (let f : false ≡ true = rw same at put_is in cc)
        by_case false other = rw other at put_is

    gone : executed h x.0 ≡ None → is_none (executed after x.0) ≡ false
    gone free = let same : nat_eq x.0 x.0 ≡ true = grind (arith, nat_tests) in ap is_none (executed-put h e x x.0 refl free) ∙ rw same refl

-- a tick before which no point may be fired
pub tick_answered : (m : Mission) (h : List Entry) (r : Reply) → Run m h → phase_of h ≡ Running → NoneMayFire m h → Replies m h tick r → (r ≡ done) ⊎ ((b : Bound) × (r ≡ failed b))
tick_answered m h r run running still lawful = by_reply r lawful (rw running at lawful)
  where
    by_reply : (s : Reply) → Replies m h tick s → TickReply (moment_of m h) s → (s ≡ done) ⊎ ((b : Bound) × (s ≡ failed b))
    by_reply done whole t = inl refl
    by_reply (due x) whole t = absurd (still x (due_done m h run x whole))
    by_reply (failed b) whole t = inr (b, refl)
    by_reply _ whole t = absurd t

-- one more entry of an eager history
pub eager_other : (m : Mission) (h : List Entry) (e : Entry) → Eager m h → is_tick e.deed ≡ false → Eager m (h ++ e ∷ [])
eager_other m h e eager other = EachAfter-more (λ before x. is_tick x.deed ≡ true → NoneMayFire m before) [] h e eager (λ tick. absurd (let f : true ≡ false = sym tick ∙ other in cc))

pub eager_settled : (m : Mission) (h : List Entry) (e : Entry) → Eager m h → NoneMayFire m h → Eager m (h ++ e ∷ [])
eager_settled m h e eager still = EachAfter-more (λ before x. is_tick x.deed ≡ true → NoneMayFire m before) [] h e eager (λ tick. still)
