-- The rule of the table, and what each step on it tells.
use Rattle.std.specs.Prelude.{◌≡◌, ◌⊎◌, ℕ, zero, suc, ◌+◌, ◌<◌, ◌≤◌, ◌==◌, cond, true, false, List, [], ◌∷◌, ◌++◌, length, MatchBool}
use mathlib.Core.Option.{some, none}
use lib.ListN.{get_elem?}
use Rattle.atomic_table.specs.Table.{State, Me, Step}
use Rattle.hs_machine.specs.declared.history.Entry.{Entry}
use Rattle.hs_base.specs.declared.mission.Mission.{Mission}
use Rattle.hs_machine.specs.Histories.{IsPrefix}
use Rattle.exec_lock.specs.declared.view.Placed.{Placed}
use Rattle.exec_lock.specs.declared.view.Run.{Run}
use Rattle.exec_lock.specs.declared.view.SeatView.{SeatView}
use Rattle.exec_lock.specs.Passes.{placed, of, is_in, in_runs, covers, shorter, first_view, called, cut_left, cut_right, heard, merged}

-- how many of the runs begin with n
abbrev pub heads : ℕ → List Run → ℕ
heads n [] = 0
heads n (r ∷ rs) = cond (r.first == n) 1 0 + heads n rs

-- how often all seats together answer for the number n
abbrev pub total : ℕ → List SeatView → ℕ
total n [] = 0
total n (s ∷ ss) = covers n s.view + total n ss

-- xs where k is not 0
abbrev pub when : ℕ → List Placed → List Placed
when zero xs = []
when (suc k) xs = xs

-- what the rule says of one seat, where `later` was added to a history of `base` entries
pub record Agrees (mission : Mission) (base : ℕ) (log later : List Entry) (s : SeatView) : Type 0 where
  -- the mission is that of the core
  pub opened : 0 < s.view.count → s.view.opening ≡ mission
  -- what was seen is a prefix of the history, and what was told one of that
  pub seen : IsPrefix s.view.seen log
  pub told : IsPrefix s.told s.view.seen
  -- the later entries of a number that it answers for are just its calls of that number
  pub own : (n : ℕ) → of n s.view.calls ≡ when (covers n s.view) (of n (placed base later))
  -- no other number of its run, or of a run that it took in, made a call: the first of a run alone does
  pub fresh : (n : ℕ) → s.view.first < n → n < s.view.first + s.view.count → of n s.view.calls ≡ []
  pub spent : (n : ℕ) → 0 < in_runs n s.view.joined → heads n s.view.joined ≡ 0
      → of n s.view.calls ≡ []
  -- a note never has the turn
  pub holds : s.holds ≡ true → 0 < s.view.count

module _ {X : Type 0} (mission_of : X → Mission) (history_of : X → List Entry) (key : X) where
  -- no pass has the turn: the core is at home
  pub record IsFree (s : State X SeatView) (log : List Entry) : Type 0 where
    pub core : X
    pub words : s.words ≡ 0 ∷ []
    pub homes : s.homes ≡ some core ∷ []
    pub history : history_of core ≡ log
    pub opening : mission_of core ≡ mission_of key
    pub none : (j : ℕ) (v : SeatView) → get_elem? s.views j ≡ some v → v.holds ≡ false

  -- one pass has the turn, and has seen the whole history
  pub record IsHeld (s : State X SeatView) (log : List Entry) : Type 0 where
    pub holder : ℕ
    pub seat : SeatView
    pub at : get_elem? s.views holder ≡ some seat
    pub holding : seat.holds ≡ true
    pub words : s.words ≡ 1 ∷ []
    pub homes : s.homes ≡ none ∷ []
    pub only : (j : ℕ) (v : SeatView) → get_elem? s.views j ≡ some v → v.holds ≡ true
        → (j ≡ holder) × (v.view.seen ≡ log)

  -- at every moment between two steps: one history begins with that of the shared core, each seat
  -- agrees with it, each number of the first run has one seat that answers for it, and no other
  -- number has a later entry
  pub record IsKept (s : State X SeatView) : Type 0 where
    pub log : List Entry
    pub later : List Entry
    pub begins : log ≡ history_of key ++ later
    pub seats : (j : ℕ) (v : SeatView) → get_elem? s.views j ≡ some v
        → Agrees (mission_of key) (length (history_of key)) log later v
    pub once : (n : ℕ) → total n s.views ≡ is_in 0 4294967295 n
    pub others : (n : ℕ) → 4294967295 ≤ n → of n (placed (length (history_of key)) later) ≡ []
    pub turn : IsFree s log ⊎ IsHeld s log

-- the seat of the first pass
abbrev pub first_seat : Mission → List Entry → SeatView
first_seat mission seen = record { view = first_view mission seen; told = []; holds = false }

-- a seat that was joined into another
abbrev pub nobody : SeatView
nobody = record {
  view = record {
    opening = record { vars = []; needs = []; horizons = []; words = [] };
    first = 0;
    count = 0;
    joined = [];
    calls = [];
    seen = [];
  };
  told = [];
  holds = false;
}

-- the seat has the turn, and has seen the history
abbrev pub taken : SeatView → List Entry → SeatView
taken s history = record { view = record s.view { seen = history }; told = s.told; holds = true }

-- the seat gives the turn back, and leaves the history
abbrev pub given : SeatView → List Entry → SeatView
given s after = record { view = called s.view s.view.seen after; told = s.told; holds = false }

-- the seat without the last k numbers of its run
abbrev pub seat_left : ℕ → SeatView → SeatView
seat_left k s = record s { view = cut_left k s.view }

-- a new seat with these numbers
abbrev pub seat_right : ℕ → SeatView → SeatView
seat_right k s = record { view = cut_right k s.view; told = []; holds = false }

-- a new seat with no number
abbrev pub note_of : SeatView → SeatView
note_of s = record {
  view = record { opening = s.view.opening; first = 0; count = 0; joined = []; calls = []; seen = s.view.seen };
  told = [];
  holds = false;
}

-- the seat s after it took in the note t
abbrev pub note_heard : SeatView → SeatView → SeatView
note_heard s t = record s { view = heard s.view t.view; told = shorter s.view.seen t.view.seen }

-- the seat s after it took in the seat t
abbrev pub seats_merged : SeatView → SeatView → SeatView
seats_merged s t = record s { view = merged s.view t.view; told = shorter s.view.seen t.view.seen }

module _ {X : Type 0} (mission_of : X → Mission) (history_of : X → List Entry) where
  -- where the word was 0 the seat has the core, of whose history it had seen a prefix
  abbrev pub takes_turn : Step X → Me X SeatView → ℕ → Me X SeatView → Type 0
  takes_turn step me found next = MatchBool (found == 0)
      ((x : X) × IsPrefix me.0.view.seen (history_of x) × (mission_of x ≡ me.0.view.opening)
      × (next ≡ (taken me.0 (history_of x), (0, x) ∷ [])))
      (next ≡ me)

module _ {X : Type 0} (history_of : X → List Entry) where
  -- the core goes home
  abbrev pub gives_turn : Step X → Me X SeatView → ℕ → Me X SeatView → Type 0
  gives_turn step me found next = (x : X) → me.1 ≡ (0, x) ∷ [] → next ≡ (given me.0 (history_of x), [])

-- nothing changes, and what was told is a prefix of what was seen
abbrev pub learns_order : {X : Type 0} → Step X → Me X SeatView → ℕ → Me X SeatView → Type 0
learns_order step me found next = (next ≡ me) × IsPrefix me.0.told me.0.view.seen
