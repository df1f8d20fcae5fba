-- How the state changes with one more entry.
use Rattle.std.proofs.Common.{◌≡◌, ℕ, ◌+◌, Bool, true, false, cond, nat_eq, ℤ, pos, List, [], ◌∷◌, ◌++◌, Option, Some, None, refl, ap, ◌∙◌, subst, arith, append_assoc, append-nil, add-zero, add_assoc, inl, inr, take, length, get_or, ◌<◌}
use Rattle.std.proofs.lemmas.Grind.{common_steps}
use Rattle.std.proofs.lemmas.Bool.{cases_Bool, eqb-true}
use Rattle.std.proofs.lemmas.Bool.Decides.{nat_tests}
use Rattle.std.proofs.lemmas.List.{take_more}
use Rattle.std.proofs.lemmas.List.Elements.{filter_map-append}
use Rattle.std.specs.List.{cons_option}
use Rattle.std.specs.Prelude.{map, option_to_list}
use Rattle.hs_base.specs.declared.ids.PointId.{PointId}
use Rattle.hs_base.specs.declared.plan.Time.{Time}
use Rattle.hs_base.specs.declared.plan.Extension.{Extension}
use Rattle.hs_machine.specs.declared.history.Entry.{Entry}
use Rattle.hs_base.specs.Dispatch.{or_else}
use Rattle.hs_base.specs.Fits.{time_at, put, EachOnce}
use Rattle.hs_machine.specs.State.{now_of, times_of, times_from, time_of_entry, ticks_of, executes, hands_over, plan_of, executed}

-- the times of a history with one more entry
pub times_from-push : (n : ℕ) (h : List Entry) (e : Entry) → times_from n (h ++ e ∷ []) ≡ times_from n h ++ time_of_entry (n + now_of h) e
times_from-push n [] e = rw (append-nil, add-zero) refl
times_from-push n (d ∷ h) e = rw (times_from-push (n + ticks_of d) h e, append_assoc, add_assoc) refl

pub times_of-push : (h : List Entry) (e : Entry) → times_of (h ++ e ∷ []) ≡ times_of h ++ time_of_entry (now_of h) e
times_of-push h e = ap (λ l. record { point = record { 0 = 0 }; at = pos 0 } ∷ l) (times_from-push 0 h e ∙ ap (λ n. times_from 0 h ++ time_of_entry n e) (omega arith))

-- the time of a history with one more entry
pub now_of-push : (h : List Entry) (e : Entry) → now_of (h ++ e ∷ []) ≡ now_of h + ticks_of e
now_of-push [] e = grind (arith, common_steps)
now_of-push (d ∷ h) e = grind (arith, common_steps, now_of-push h e)

-- an entry that is no handover keeps the plan
pub plan_kept : (h : List Entry) (e : Entry) → hands_over e.deed ≡ None → plan_of (h ++ e ∷ []) ≡ plan_of h
plan_kept h e none = filter_map-append (λ (x : Entry). hands_over x.deed) h (e ∷ []) ∙ ap (λ o. plan_of h ++ cons_option o []) none ∙ append-nil (plan_of h)

-- a handover adds its extension
pub plan_handed : (h : List Entry) (e : Entry) (x : Extension) → hands_over e.deed ≡ Some x → plan_of (h ++ e ∷ []) ≡ plan_of h ++ x ∷ []
plan_handed h e x some = filter_map-append (λ (y : Entry). hands_over y.deed) h (e ∷ []) ∙ ap (λ o. plan_of h ++ cons_option o []) some

-- the time of a point in two lists of times
pub time_at-append : (ts us : List Time) (x : ℕ) → time_at (ts ++ us) x ≡ or_else (time_at ts x) (time_at us x)
time_at-append [] us x = refl
time_at-append (t ∷ ts) us x =
    elim (cases_Bool (nat_eq t.point.0 x)) [ inl here ↦ rw here refl | inr apart ↦ rw apart (time_at-append ts us x) ]

pub nat_eq-swap : (a b : ℕ) → nat_eq a b ≡ nat_eq b a
nat_eq-swap a b = grind (arith, nat_tests)

some_none : {z : ℤ} → Some z ≡ None → ⊥
some_none e = cc

put_by_case : (o : Option ℤ) (b : Bool) (t : ℤ) → (b ≡ true → o ≡ None) → or_else o (cond b (Some t) None) ≡ cond b (Some t) o
put_by_case None true t free = refl
put_by_case None false t free = refl
put_by_case (Some u) true t free = absurd (some_none (free refl))
put_by_case (Some u) false t free = refl

-- one more executed point at the end of the list
pub time_at-put : (ts : List Time) (x : PointId) (t : ℤ) (y : ℕ) → time_at ts x.0 ≡ None → time_at (ts ++ record { point = x; at = t } ∷ []) y ≡ put (time_at ts) x.0 t y
time_at-put ts x t y free =
    time_at-append ts (record { point = x; at = t } ∷ []) y
    ∙ put_by_case (time_at ts y) (nat_eq x.0 y) t (λ same. subst (λ (z : ℕ). time_at ts z ≡ None) (eqb-true x.0 y same) free)
    ∙ ap (λ b. cond b (Some t) (time_at ts y)) (nat_eq-swap x.0 y)

-- an entry that executes a point
pub times_executed : (h : List Entry) (e : Entry) (x : PointId) → executes e.deed ≡ Some x → times_of (h ++ e ∷ []) ≡ times_of h ++ record { point = x; at = pos (now_of h) } ∷ []
times_executed h e x is = times_of-push h e ∙ ap (λ o. times_of h ++ map (λ (p : PointId). record { point = p; at = pos (now_of h) }) (option_to_list o)) is

pub executed-put : (h : List Entry) (e : Entry) (x : PointId) (y : ℕ) → executes e.deed ≡ Some x → executed h x.0 ≡ None → executed (h ++ e ∷ []) y ≡ put (executed h) x.0 (pos (now_of h)) y
executed-put h e x y is free = ap (λ ts. time_at ts y) (times_executed h e x is) ∙ time_at-put (times_of h) x (pos (now_of h)) y free

-- an entry that executes none
pub times_kept : (h : List Entry) (e : Entry) → executes e.deed ≡ None → times_of (h ++ e ∷ []) ≡ times_of h
times_kept h e none = times_of-push h e ∙ ap (λ o. times_of h ++ map (λ (p : PointId). record { point = p; at = pos (now_of h) }) (option_to_list o)) none ∙ append-nil (times_of h)

-- a point that is not listed may be added
pub EachOnce-push : (ts : List Time) (t : Time) → EachOnce ts → time_at ts t.point.0 ≡ None → EachOnce (ts ++ t ∷ [])
EachOnce-push [] t once new = (refl, tt)
EachOnce-push (u ∷ ts) t once new = elim (cases_Bool (nat_eq u.point.0 t.point.0)) [
  | inl same ↦ absurd (some_none (rw same at new))
  | inr apart ↦
      let back : nat_eq t.point.0 u.point.0 ≡ false = nat_eq-swap t.point.0 u.point.0 ∙ apart in
      (time_at-append ts (t ∷ []) u.point.0 ∙ rw (once.0, back) refl, EachOnce-push ts t once.1 (rw apart at new))
]

-- the time of a loop over a history, one entry on
pub now_more : (h : List Entry) (i : ℕ) (e : Entry) → i < length h → e ≡ get_or h i e → now_of (take (i + 1) h) ≡ now_of (take i h) + ticks_of e
now_more h i e below is = rw (take_more h i e below, ← is) (now_of-push (take i h) e)
