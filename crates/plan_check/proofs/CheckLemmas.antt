-- Plans whose rules hold, and the schedules of their bounds.
use Rattle.std.proofs.Common.{◌≡◌, ◌≢◌, ℕ, ◌<◌, List, [], ◌++◌, length, get_or, refl, sym, subst, arith}
use Rattle.std.proofs.lemmas.List.Elements.{All-contains, All-from_recursion, All-weaker}
use Rattle.std.proofs.lemmas.Option.{slice_get-get_or}
use Rattle.std.specs.Prelude.{All, Contains, Err, IfOk, Ok, Result}
use Rattle.std.specs.List.{AllByRecursion}
use Rattle.hs_base.specs.declared.net.Bound.{Bound}
use Rattle.hs_base.specs.declared.mission.Mission.{Mission}
use Rattle.hs_base.specs.declared.plan.Extension.{Extension}
use Rattle.hs_base.specs.declared.fault.Fault.{Fault}
use Rattle.hs_base.specs.declared.fault.Fault.TheVariants.{Base, Limit as OverLimit, Order, Fixed, WrongSupport, Unsupported, Goal as NoGoal, Cycle, Memory as NoMemoryLeft}
use Rattle.hs_base.specs.Schedule.{IsBelow}
use Rattle.hs_base.specs.Walks.{EachAfter}
use Rattle.hs_base.specs.Points.{count}
use Rattle.hs_base.specs.Bounds.{bounds_of, new_bounds}
use Rattle.hs_base.specs.Missions.{IsMission}
use Rattle.hs_base.specs.Checked.{joined, KeepsRules, Checked}
use Rattle.hs_base.specs.Faults.{IsFault}
use Rattle.base_laws.proofs.ListLemmas.{each_at, each_split, join_after-push}
use Rattle.plan_laws.specs.Fit.{IsFit}
use Rattle.plan_laws.proofs.FitLemmas.{bounds_fit}
use Rattle.plan_laws.proofs.FaultLemmas.{no_cycle}
use Rattle.stn_distance.specs.declared.why.Why.{Why}
use Rattle.stn_distance.specs.declared.why.Why.TheVariants.{Chain, Free}
use Rattle.stn_distance.specs.Chains.{IsWhy}
use Rattle.stn_distance.specs.Ranges.{IsInRange}
use Rattle.plan_check.specs.Reasons.{IfChain}
use Rattle.plan_check.specs.Scheduling.{IsCycleFault}

-- the bounds are fit for a search
pub bound_in_range : (m : Mission) (es : List Extension) (bs : List Bound) (points k : ℕ) (d : Bound) → IsMission m → EachAfter (KeepsRules m) [] es → bs ≡ bounds_of m es → points ≡ count es → k < length bs → IsInRange points (get_or bs k d)
bound_in_range m es bs points k d h rules is size below =
    let fit : IsFit (count es) (get_or bs k d) = each_at (IsFit (count es)) bs k (get_or bs k d) (subst (λ (l : List Bound). AllByRecursion (IsFit (count es)) l) (sym is) (bounds_fit m es h rules)) (slice_get-get_or bs k d below) in
    record { from_below = omega (arith, fit.from, size); to_below = omega (arith, fit.to, size); low = fit.least; high = fit.most }

-- the points of its bounds are the plan's
pub chain_below : (m : Mission) (es : List Extension) (chain : List Bound) → IsMission m → EachAfter (KeepsRules m) [] es → All (Contains (bounds_of m es)) chain → All (IsBelow (count es)) chain
chain_below m es chain h rules given =
    let all : All (IsFit (count es)) (bounds_of m es) = All-from_recursion (IsFit (count es)) (bounds_of m es) (bounds_fit m es h rules) in
    All-weaker (Contains (bounds_of m es)) (IsBelow (count es)) (λ b has. (let fit = All-contains (IsFit (count es)) (bounds_of m es) b all has in (fit.from, fit.to))) chain given

-- so are those of a chain, where one is told
pub why_below : {E : Type 0} (m : Mission) (es : List Extension) (b : Bound) (r : Result Why E) → IsMission m → EachAfter (KeepsRules m) [] es → IfOk r (IsWhy (count es) (bounds_of m es) b) → IfOk r (λ why. IfChain why (All (IsBelow (count es))))
why_below m es b (Ok (Chain chain)) h rules is = chain_below m es chain h rules is.given
why_below m es b (Ok (Free times)) h rules is = tt
why_below m es b (Err e) h rules is = tt

-- the bounds of a plan with one more extension
pub bounds-push : (m : Mission) (es : List Extension) (e : Extension) → bounds_of m (joined es e) ≡ bounds_of m es ++ new_bounds m es e
bounds-push m es e = join_after-push (new_bounds m) [] es e

-- those of the extension are fit for a search
pub next_in_range : (m : Mission) (es : List Extension) (e : Extension) (bs : List Bound) (points k : ℕ) (d : Bound) → IsMission m → EachAfter (KeepsRules m) [] (joined es e) → bs ≡ new_bounds m es e → points ≡ count (joined es e) → k < length bs → IsInRange points (get_or bs k d)
next_in_range m es e bs points k d h rules is size below =
    let P : Bound → Type 0 = IsFit (count (joined es e)) in
    let all : AllByRecursion P (bounds_of m es ++ new_bounds m es e) = subst (λ (l : List Bound). AllByRecursion P l) (bounds-push m es e) (bounds_fit m (joined es e) h rules) in
    let own : AllByRecursion P bs = subst (λ (l : List Bound). AllByRecursion P l) (sym is) (each_split P (bounds_of m es) (new_bounds m es e) all).1 in
    let fit : IsFit (count (joined es e)) (get_or bs k d) = each_at P bs k (get_or bs k d) own (slice_get-get_or bs k d below) in
    record { from_below = omega (arith, fit.from, size); to_below = omega (arith, fit.to, size); low = fit.least; high = fit.most }

-- a negative cycle excludes a checked plan
pub cycle_excludes : (m : Mission) (es : List Extension) (f : Fault) → IsCycleFault m es f → f ≢ NoMemoryLeft → Checked m es → ⊥
cycle_excludes m es (Cycle bs) h some c = no_cycle (bounds_of m es) bs c.schedule h c.meets
cycle_excludes m es NoMemoryLeft h some c = absurd (some refl)
cycle_excludes m es (Base g n) h some c = h
cycle_excludes m es (OverLimit p t) h some c = h
cycle_excludes m es (Order v p) h some c = h
cycle_excludes m es (Fixed n) h some c = h
cycle_excludes m es (WrongSupport n) h some c = h
cycle_excludes m es (Unsupported v p n) h some c = h
cycle_excludes m es (NoGoal n) h some c = h

-- where the rules before it are kept it is the first fault
pub cycle_fault : (m : Mission) (es : List Extension) (e : Extension) (f : Fault) → KeepsRules m es e → IsCycleFault m (joined es e) f → IsFault m es e f
cycle_fault m es e (Cycle bs) kept h = (kept.each, h)
cycle_fault m es e NoMemoryLeft kept h = (tt, tt)
cycle_fault m es e (Base g n) kept h = absurd h
cycle_fault m es e (OverLimit p t) kept h = absurd h
cycle_fault m es e (Order v p) kept h = absurd h
cycle_fault m es e (Fixed n) kept h = absurd h
cycle_fault m es e (WrongSupport n) kept h = absurd h
cycle_fault m es e (Unsupported v p n) kept h = absurd h
cycle_fault m es e (NoGoal n) kept h = absurd h
