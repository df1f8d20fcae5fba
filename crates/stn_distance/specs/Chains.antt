-- Why a bound holds in each schedule of some bounds, or that it doesn't.
use Rattle.std.specs.Prelude.{◌≢◌, ℕ, List, All, AllPairs, Contains, ℤ, pos, neg_ℤ, ◌-ℤ◌, ◌≤ℤ◌, ◌<ℤ◌}
use Rattle.hs_base.specs.declared.net.Bound.{Bound}
use Rattle.hs_base.specs.Cycles.{Leads, total}
use Rattle.hs_base.specs.Schedule.{MeetsList, Implied, time_of}
use Rattle.stn_distance.specs.declared.why.Why.{Why}
use Rattle.stn_distance.specs.declared.why.Why.TheVariants.{Chain, Free}

-- bounds of the list that lead from the bound's first point to its second, meet no point twice, and sum to no more
pub record IsChain (bounds : List Bound) (b : Bound) (chain : List Bound) : Type 0 where
  pub leads : Leads b.from.0 chain b.to.0
  pub given : All (Contains bounds) chain
  pub distinct : AllPairs (λ x y. x.from ≢ y.from) chain
  pub before : All (λ (x : Bound). x.from ≢ b.to) chain
  pub within : total chain ≤ℤ b.most

-- a schedule of the list, for n points, that breaks the bound
pub record IsFree (n : ℕ) (bounds : List Bound) (b : Bound) (times : List ℤ) : Type 0 where
  pub meets : MeetsList n bounds times
  pub breaks : b.most <ℤ (time_of times b.to.0 -ℤ time_of times b.from.0)

-- a chain that forces the bound, or a schedule that breaks it
abbrev pub IsWhy : ℕ → List Bound → Bound → Why → Type 0
IsWhy n bounds b (Chain chain) = IsChain bounds b chain
IsWhy n bounds b (Free times) = IsFree n bounds b times

-- the schedules keep the bound where a chain is told, and not all do where none is
abbrev pub IsForcedAs : List Bound → Bound → Why → Type 0
IsForcedAs bounds b (Chain chain) = Implied bounds b.from.0 b.to.0 b.most
IsForcedAs bounds b (Free times) = Implied bounds b.from.0 b.to.0 b.most → ⊥

-- the bound that is broken exactly where the other holds
abbrev pub against : Bound → Bound
against b = record { from = b.to; to = b.from; most = neg_ℤ b.most -ℤ pos 1 }
