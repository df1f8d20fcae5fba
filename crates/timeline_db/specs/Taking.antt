-- What is taken back of a board with a part.
use Rattle.std.specs.Prelude.{ℕ, suc, ◌-◌, ◌<◌, ◌≤◌, false, None, length, set, take}
use Rattle.search_tree.specs.declared.part.Part.{Part}
use Rattle.search_tree.specs.declared.part.Part.TheVariants.{Deferred, Finished, Followed, Inserted, Joined, MetGoal, Supported}
use Rattle.timeline_db.specs.Boards.{ChangesRow, HasToken, TakesOut, line_at}
use Rattle.timeline_db.specs.Lines.{with_joined}
use Rattle.timeline_db.specs.Settling.{KeepsRows, Unserves}
use Rattle.timeline_db.specs.declared.board.Board.{Board}

-- the token behind that place is there
pub record HasBehind (d : Board) (v i : ℕ) : Type 0 where
  pub row : v < length d.lines.items
  pub place : suc i < length (line_at d v).tokens

-- a token that brought so many points is there, behind that place
pub record HasPut (d : Board) (v i grown : ℕ) : Type 0 where
  pub behind : HasBehind d v i
  pub points : grown ≤ d.points
  pub added : 0 < d.added
  pub total : 0 < d.total

-- what the part changed is there
abbrev pub Shows : Part → Board → Type 0
Shows (Inserted v i value) d = HasPut d v.0 i 2
Shows (Followed v i value) d = HasPut d v.0 i 1
Shows (Joined v i) d = HasBehind d v.0 i
Shows (Finished v) d = v.0 < length d.lines.items
Shows (Supported t j by) d = HasToken d t
Shows (MetGoal g by) d = g < length d.goals.items
Shows (Deferred t j) d = HasToken d t

-- the part's change is taken back
abbrev pub TakesBack : Part → Board → Board → Type 0
TakesBack (Inserted v i value) old new = TakesOut v.0 i 2 old new
TakesBack (Followed v i value) old new = TakesOut v.0 i 1 old new
TakesBack (Joined v i) old new = ChangesRow v.0 (with_joined (suc i) false (line_at old v.0)) old new
TakesBack (Finished v) old new = ChangesRow v.0 (record (line_at old v.0) { finished = false }) old new
TakesBack (Supported t j by) old new = Unserves t j (take (length old.supports.items - 1) old.supports.items) old.deferred.items old new
TakesBack (MetGoal g by) old new = KeepsRows old.supports.items (set old.goals.items g None) old.deferred.items old new
TakesBack (Deferred t j) old new = Unserves t j old.supports.items (take (length old.deferred.items - 1) old.deferred.items) old new
