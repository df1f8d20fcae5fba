-- Why each point has its time, while times are lowered.
use Rattle.std.specs.Prelude.{◌≡◌, ◌≢◌, ℕ, suc, ◌+◌, ◌-◌, ◌*◌, ◌<◌, ◌≤◌, Bool, true, false, List, [], ◌∷◌, length, get_or, sum_by, reverse, All, AllPairs, ℤ, pos, negsuc, neg_ℤ, ◌+ℤ◌, ◌≤ℤ◌, ◌<ℤ◌}
use Rattle.std.specs.List.{AllByRecursion}
use Rattle.hs_base.specs.declared.net.Bound.{Bound}
use Rattle.hs_base.specs.Schedule.{time_of, Holds, HasNoSchedule}
use Rattle.hs_base.specs.Cycles.{IsNegativeCycle}
use Rattle.stn_distance.specs.declared.lowering.Lowering.{Lowering}
use Rattle.stn_distance.specs.declared.lowering.Lowering.TheVariants.{Settled, Lowered, TooLow}
use Rattle.stn_distance.specs.declared.search.Turn.{Turn}
use Rattle.stn_distance.specs.declared.search.Turn.TheVariants as T

abbrev pub no_bound : Bound
no_bound = record { from = record { 0 = 0 }; to = record { 0 = 0 }; most = pos 0 }

abbrev pub bound_at : List Bound → ℕ → Bound
bound_at bounds i = get_or bounds i no_bound

-- the place of a turn's step, forward or backward over n bounds
abbrev pub place : Bool → ℕ → ℕ → ℕ
place true n k = n - 1 - k
place false n k = k

-- The end of b got its time from its start. Where the start was lowered after that, the end is above it by more
pub record IsCause (times : List ℤ) (rank : ℕ → ℕ) (b : Bound) : Type 0 where
  pub above : (time_of times b.from.0 +ℤ b.most) ≤ℤ time_of times b.to.0
  pub later : rank b.to.0 ≤ rank b.from.0 → (time_of times b.from.0 +ℤ b.most) <ℤ time_of times b.to.0

-- each time that was lowered has a cause; the rank tells which of two points was lowered later
pub record Explained (count : ℕ) (bounds : List Bound) (times : List ℤ) (causes : List ℕ) : Type 0 where
  pub times_len : length times ≡ count
  pub causes_len : length causes ≡ count
  pub rank : ℕ → ℕ
  pub top : ℕ
  pub below : (v : ℕ) → v < count → rank v < top
  pub ends : (v : ℕ) → v < count → get_or causes v 0 < length bounds → (bound_at bounds (get_or causes v 0)).to.0 ≡ v
  pub caused : (v : ℕ) → v < count → get_or causes v 0 < length bounds → IsCause times rank (bound_at bounds (get_or causes v 0))
  pub uncaused : (v : ℕ) → v < count → length bounds ≤ get_or causes v 0 → neg_ℤ (pos 4000000000000) ≤ℤ time_of times v

-- how far below 0 a way that meets no point twice can take a time
abbrev pub depth : ℕ → ℕ
depth count = 4000000000000 + (count - 1) * 1000000001

-- no time is lower than that, nor higher than where a search may start
abbrev pub IsAboveFloor : ℕ → List ℤ → Type 0
IsAboveFloor count times = (v : ℕ) → v < count → (neg_ℤ (pos (depth count)) ≤ℤ time_of times v) × (time_of times v ≤ℤ pos 4000000000000)

-- how far a number is above -f
abbrev pub above : ℕ → ℤ → ℕ
above f (pos a) = a + f
above f (negsuc a) = f - suc a

-- how far all times together can still fall
abbrev pub slack : ℕ → List ℤ → ℕ
slack count times = sum_by (above (depth count)) times

-- what a turn over all bounds says
abbrev pub TurnFinds : ℕ → List Bound → List ℤ → List ℤ → Lowering → Type 0
TurnFinds count bounds old new Settled = IsAboveFloor count new × All (Holds (time_of new)) bounds
TurnFinds count bounds old new (Lowered p) = IsAboveFloor count new × (p < count) × (slack count new < slack count old)
TurnFinds count bounds old new (TooLow p) = (p < count) × (time_of new p <ℤ neg_ℤ (pos (depth count)))

-- the bounds lead back from p to q
abbrev pub LeadsBack : ℕ → List Bound → ℕ → Type 0
LeadsBack p [] q = p ≡ q
LeadsBack p (b ∷ bs) q = (b.to.0 ≡ p) × LeadsBack b.from.0 bs q

-- each cause ends where it is noted
abbrev pub AreEnds : ℕ → List Bound → List ℕ → Type 0
AreEnds count bounds causes =
    (length causes ≡ count) × ((v : ℕ) → v < count → get_or causes v 0 < length bounds → (bound_at bounds (get_or causes v 0)).to.0 ≡ v)

-- the bounds are causes that points have now
abbrev pub AreCauses : ℕ → List Bound → List ℕ → List Bound → Type 0
AreCauses count bounds causes path =
    AllByRecursion (λ b. (v : ℕ) × (v < count) × (get_or causes v 0 < length bounds) × (b ≡ bound_at bounds (get_or causes v 0))) path

-- the causes lead back from the start to a point with no cause, over fewer bounds than there are points
pub record RootedAt (count : ℕ) (bounds : List Bound) (causes : List ℕ) (start : ℕ) : Type 0 where
  pub path : List Bound
  pub root : ℕ
  pub root_in : root < count
  pub few : length path < count
  pub leads : LeadsBack start path root
  pub given : AreCauses count bounds causes path
  pub uncaused : length bounds ≤ get_or causes root 0

-- the list is a way along causes that comes back to where it began, seen from its end
pub record IsRound (count : ℕ) (bounds : List Bound) (causes : List ℕ) (cycle : List Bound) : Type 0 where
  pub path : List Bound
  pub is : cycle ≡ reverse path
  pub some : 0 < length path
  pub at : ℕ
  pub leads : LeadsBack at path at
  pub given : AreCauses count bounds causes path
  pub distinct : AllPairs (λ a b. a.from ≢ b.from) cycle

-- what a turn and a look for a round say
abbrev pub TurnSays : ℕ → List Bound → List ℤ → List ℤ → List ℕ → Turn → Type 0
TurnSays count bounds old new causes T.Settled = IsAboveFloor count new × (length new ≡ count) × All (Holds (time_of new)) bounds
TurnSays count bounds old new causes T.Lowered = Explained count bounds new causes × IsAboveFloor count new × (slack count new < slack count old)
TurnSays count bounds old new causes (T.Round c) = IsNegativeCycle bounds c.items × HasNoSchedule bounds
