-- Passes: their numbers, their calls, and what they have seen of the history.
use Rattle.std.specs.Prelude.{ℕ, suc, ◌+◌, ◌-◌, ◌==◌, ◌&&◌, nat_le, nat_lt, cond, List, [], ◌∷◌, ◌++◌, length, filter, drop}
use Rattle.atomic_table.specs.Seated.{TableId}
use Rattle.hs_machine.specs.declared.history.Entry.{Entry}
use Rattle.hs_base.specs.declared.mission.Mission.{Mission}
use Rattle.exec_lock.specs.declared.view.Placed.{Placed}
use Rattle.exec_lock.specs.declared.view.Run.{Run}
use Rattle.exec_lock.specs.declared.view.View.{View}

-- which shared core a pass belongs to
abbrev pub Which : Type 0
Which = TableId

-- a pass as contracts see it
pub record Held : Type 0 where
  pub shared : Which
  pub view : View

-- the entries with their places, where k entries stand before them
abbrev pub placed : ℕ → List Entry → List Placed
placed k [] = []
placed k (e ∷ es) = record { place = suc k; entry = e } ∷ placed (suc k) es

-- those of one number
abbrev pub of : ℕ → List Placed → List Placed
of n calls = filter (λ c. c.entry.by == n) calls

-- 1 where n is one of the count numbers from first on, else 0
abbrev pub is_in : ℕ → ℕ → ℕ → ℕ
is_in first count n = cond (nat_le first n && nat_lt n (first + count)) 1 0

-- in how many of the runs n is
abbrev pub in_runs : ℕ → List Run → ℕ
in_runs n [] = 0
in_runs n (r ∷ rs) = is_in r.first r.count n + in_runs n rs

-- how often a pass answers for the number n
abbrev pub covers : ℕ → View → ℕ
covers n v = is_in v.first v.count n + in_runs n v.joined

-- how many numbers the runs have
abbrev pub size_of : List Run → ℕ
size_of [] = 0
size_of (r ∷ rs) = r.count + size_of rs

-- how many numbers a pass answers for
abbrev pub size : View → ℕ
size v = v.count + size_of v.joined

-- the longer of two histories
abbrev pub longer : List Entry → List Entry → List Entry
longer xs ys = cond (nat_lt (length xs) (length ys)) ys xs

-- the shorter of two histories
abbrev pub shorter : List Entry → List Entry → List Entry
shorter xs ys = cond (nat_lt (length xs) (length ys)) xs ys

-- the first pass, which has all numbers but the last of 32 bits
abbrev pub first_view : Mission → List Entry → View
first_view mission seen =
    record { opening = mission; first = 0; count = 4294967295; joined = []; calls = []; seen = seen }

-- the pass has found this history, and leaves the one after it
abbrev pub called : View → List Entry → List Entry → View
called v history after =
    record v { seen = after; calls = v.calls ++ placed (length history) (drop (length history) after) }

-- the pass without the last k numbers of its run
abbrev pub cut_left : ℕ → View → View
cut_left k v = record v { count = v.count - k }

-- a new pass with the last k numbers of the run, which has seen as much
abbrev pub cut_right : ℕ → View → View
cut_right k v =
    record { opening = v.opening; first = v.first + (v.count - k); count = k; joined = []; calls = []; seen = v.seen }

-- the pass v after it heard what w has seen
abbrev pub heard : View → View → View
heard v w = record v { seen = longer v.seen w.seen }

-- the pass v after it took in w, with its numbers and calls
abbrev pub merged : View → View → View
merged v w = record v {
  joined = v.joined ++ record { first = w.first; count = w.count } ∷ w.joined;
  calls = v.calls ++ w.calls;
  seen = longer v.seen w.seen;
}
