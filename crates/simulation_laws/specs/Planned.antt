-- Where the plans of a run come from, and when.
use Rattle.std.specs.Prelude.{◌≡◌, ◌≢◌, ◌⊎◌, ℕ, ◌+◌, ◌-◌, Bool, true, false, cond, ℤ, pos, ◌+ℤ◌, ◌≤ℤ◌, List, [], ◌∷◌, ◌++◌, length, map, get_or, is_some, Option, Some, None, IfSome, ⊤}
use Rattle.std.specs.List.{AllByRecursion}
use Rattle.hs_base.specs.declared.mission.Horizon.{Horizon}
use Rattle.hs_base.specs.declared.mission.Mission.{Mission}
use Rattle.hs_base.specs.declared.plan.Extension.{Extension}
use Rattle.hs_base.specs.Walks.{EachAfter, join_after}
use Rattle.hs_machine.specs.declared.history.Deed.{Deed}
use Rattle.hs_machine.specs.declared.history.Deed.TheVariants.{Handover, Stale}
use Rattle.hs_machine.specs.declared.history.Entry.{Entry}
use Rattle.hs_machine.specs.State.{hands_over, is_tick, plan_of, tick_at, ticks_of}
use Rattle.hs_machine.specs.Views.{newly_executed}
use Rattle.search_tree.specs.Begun.{Begun}
use Rattle.search_tree.specs.Search.{FindsWhere}
use Rattle.search_tree.specs.Tree.{plan}

-- the extension that a deed offered, whether it was handed over or stale
abbrev pub offered : Deed → Option Extension
offered (Handover e n) = Some e
offered (Stale e b p q) = Some e
offered _ = None

-- what the planner saw: a front part of the history with the same plan, as the extension's since and fixed say it
pub record IsOfSnapshot (h : List Entry) (e : Extension) : Type 0 where
  pub seen : List Entry
  pub later : List Entry
  pub is : h ≡ seen ++ later
  pub plan : plan_of seen ≡ plan_of h
  pub since : e.since ≡ tick_at seen
  pub fixed : e.fixed ≡ newly_executed seen

-- where the search for it began
abbrev pub begun_with : List Entry → Extension → Begun
begun_with h e = record { base = plan_of h; since = e.since; fixed = e.fixed }

-- the search found it there within so many nodes
pub record IsFound (takes : Mission → List Extension → Type 0) (m : Mission) (nodes : ℕ) (h : List Entry) (e : Extension) : Type 0 where
  pub snapshot : IsOfSnapshot h e
  pub found : FindsWhere takes m (begun_with h e) nodes (plan e)

-- the first plan was given
abbrev pub IsGivenPlan : Option Extension → List Entry → Extension → Type 0
IsGivenPlan given h e = (plan_of h ≡ []) × (given ≡ Some e)

-- the first entry hands the extension over
pub record BeginsWith (h : List Entry) (e : Extension) : Type 0 where
  pub first : Entry
  pub later : List Entry
  pub is : h ≡ first ∷ later
  pub hands : hands_over first.deed ≡ Some e

-- a given plan is handed over first
abbrev pub TakesGiven : Option Extension → List Entry → Type 0
TakesGiven None h = ⊤
TakesGiven (Some e) h = BeginsWith h e

-- each offered plan was found or given
abbrev pub AreFound : (Mission → List Extension → Type 0) → Mission → ℕ → Option Extension → List Entry → Type 0
AreFound takes m nodes given h =
    EachAfter (λ before (x : Entry). IfSome (offered x.deed) (λ e. IsGivenPlan given before e ⊎ IsFound takes m nodes before e)) [] h

-- no tick comes before the first plan
abbrev pub BeginsPlanned : List Entry → Type 0
BeginsPlanned h = EachAfter (λ before (x : Entry). is_tick x.deed ≡ true → plan_of before ≢ []) [] h

-- the time of the newest handover, where the one before was at `last`
abbrev pub handed_from : ℕ → ℕ → List Entry → ℕ
handed_from last now [] = last
handed_from last now (e ∷ h) = handed_from (cond (is_some (hands_over e.deed)) now last) (now + ticks_of e) h

abbrev pub handed_at : List Entry → ℕ
handed_at h = handed_from 0 0 h

-- the tick of a plan's newest horizon
abbrev pub until : Mission → List Extension → ℤ
until m es = get_or (map (λ (g : Horizon). g.tick) m.horizons) (length es - 1) (pos 0)

-- the time is the last tick before the newest horizon
abbrev pub IsLastTick : Mission → List Entry → Type 0
IsLastTick m h = (tick_at h +ℤ pos 1) ≡ until m (plan_of h)

-- a later plan comes after the one before it, and before its horizon
pub record IsInTime (m : Mission) (h : List Entry) (e : Extension) : Type 0 where
  pub low : pos (handed_at h) ≤ℤ e.since
  pub since : e.since ≤ℤ tick_at h
  pub high : (tick_at h +ℤ pos 1) ≤ℤ until m (plan_of h)

-- each later plan does
abbrev pub AreInTime : Mission → List Entry → Type 0
AreInTime m h =
    EachAfter (λ before (x : Entry). plan_of before ≢ [] → IfSome (hands_over x.deed) (IsInTime m before)) [] h

abbrev pub is_stale : Deed → Bool
is_stale (Stale e b p q) = true
is_stale _ = false

-- the numbers of extensions at which a plan was stale
abbrev pub stale_at : List Entry → List ℕ
stale_at h = join_after (λ before (x : Entry). cond (is_stale x.deed) (length (plan_of before) ∷ []) []) [] h

-- a later plan comes just at the last tick before the horizon, and was searched for then
pub record IsOnTime (m : Mission) (h : List Entry) (e : Extension) : Type 0 where
  pub since : e.since ≡ tick_at h
  pub last : IsLastTick m h

-- each later plan does
abbrev pub AreOnTime : Mission → List Entry → Type 0
AreOnTime m h =
    EachAfter (λ before (x : Entry). plan_of before ≢ [] → IfSome (hands_over x.deed) (IsOnTime m before)) [] h

-- the history begins with this plan, and no other one is offered in it
pub record IsOfOnePlan (h : List Entry) (e : Extension) : Type 0 where
  pub first : Entry
  pub later : List Entry
  pub is : h ≡ first ∷ later
  pub hands : hands_over first.deed ≡ Some e
  pub no_more : AllByRecursion (λ (x : Entry). offered x.deed ≡ None) later
