-- The phase of a history whose newest plan's horizon point is known.
use Rattle.std.proofs.Common.{◌≡◌, ◌≢◌, ℕ, ◌+◌, ◌<◌, Bool, true, false, cond, ◌||◌, nat_eq, pos, List, [], ◌∷◌, ◌++◌, length, map, Option, Some, None, option_to_list, is_some, ◌⊎◌, inl, inr, refl, sym, ap, ◌∙◌, arith}
use Rattle.std.specs.List.{list_any}
use Rattle.std.proofs.lemmas.Bool.Decides.{eqb_tells}
use Rattle.hs_base.specs.declared.ids.PointId.{PointId}
use Rattle.hs_base.specs.declared.plan.Time.{Time}
use Rattle.hs_base.specs.declared.plan.Extension.{Extension}
use Rattle.hs_machine.specs.declared.history.Entry.{Entry}
use Rattle.hs_machine.specs.declared.history.Phase.TheVariants.{Waiting, Running, Failed, Ended}
use Rattle.hs_base.specs.Points.{hor}
use Rattle.hs_base.specs.Fits.{time_at}
use Rattle.hs_machine.specs.State.{executes, ticks_of, times_from, times_of, plan_of, has_failed, has_ended, is_empty, phase_of}
use Rattle.journal_text.specs.Stands.{newest_horizon, is_point, executes_point}

-- a plan with a horizon point is not empty, and the point is not the origin
record HasHorizon (es : List Extension) (p : ℕ) : Type 0 where
  some : is_empty es ≡ false
  number : p ≡ hor es (length es)
  later : 0 < p

has_horizon : (es : List Extension) (p : PointId) → newest_horizon es ≡ Some p → HasHorizon es p.0
has_horizon [] p e = cc
has_horizon (x ∷ es) p e =
    let same : record { 0 = hor (x ∷ es) (length (x ∷ es)) } ≡ p = cc in
    let number : p.0 ≡ hor (x ∷ es) (length (x ∷ es)) = ap (λ q. q.0) (sym same) in
    record { some = refl; number = number; later = omega (arith, number) }

is_some-cond : {X : Type 0} (b : Bool) (x : X) (o : Option X) → is_some (cond b (Some x) o) ≡ (b || is_some o)
is_some-cond true x o = refl
is_some-cond false x o = refl

time_at-entry : (n : ℕ) (o : Option PointId) (ts : List Time) (p : ℕ) → is_some (time_at (map (λ (x : PointId). record { point = x; at = pos n }) (option_to_list o) ++ ts) p) ≡ (is_point p o || is_some (time_at ts p))
time_at-entry n None ts p = refl
time_at-entry n (Some x) ts p = is_some-cond (nat_eq x.0 p) (pos n) (time_at ts p)

-- a point has a time where an entry executes it
time_at-from : (n : ℕ) (h : List Entry) (p : ℕ) → is_some (time_at (times_from n h) p) ≡ list_any (λ (e : Entry). executes_point p e.deed) h
time_at-from n [] p = refl
time_at-from n (e ∷ h) p = time_at-entry n (executes e.deed) (times_from (n + ticks_of e) h) p ∙ ap (λ b. executes_point p e.deed || b) (time_at-from (n + ticks_of e) h p)

time_at-times : (h : List Entry) (p : ℕ) → 0 < p → is_some (time_at (times_of h) p) ≡ list_any (λ (e : Entry). executes_point p e.deed) h
time_at-times h p later =
    let other : nat_eq 0 p ≡ false = not_origin (eqb_tells 0 p) in
    is_some-cond (nat_eq 0 p) (pos 0) (time_at (times_from 0 h) p) ∙ ap (λ b. b || is_some (time_at (times_from 0 h) p)) other ∙ time_at-from 0 h p
  where
    not_origin : ((nat_eq 0 p ≡ true) × (0 ≡ p)) ⊎ ((nat_eq 0 p ≡ false) × (0 ≢ p)) → nat_eq 0 p ≡ false
    not_origin (inl t) = absurd (omega (arith, t.1))
    not_origin (inr t) = t.0

pub phase-with_plan : (h : List Entry) (p : PointId) → has_failed h ≡ false → newest_horizon (plan_of h) ≡ Some p → phase_of h ≡ cond (list_any (λ (e : Entry). executes_point p.0 e.deed) h) Ended Running
phase-with_plan h p unfailed newest =
    let plan = has_horizon (plan_of h) p newest in
    let ended : has_ended h ≡ list_any (λ (e : Entry). executes_point p.0 e.deed) h =
    ap (λ x. is_some (time_at (times_of h) x)) (sym plan.number) ∙ time_at-times h p.0 plan.later in
    ap (λ b. cond b Failed (cond (is_empty (plan_of h)) Waiting (cond (has_ended h) Ended Running))) unfailed
    ∙ ap (λ b. cond b Waiting (cond (has_ended h) Ended Running)) plan.some
    ∙ ap (λ b. cond b Ended Running) ended
