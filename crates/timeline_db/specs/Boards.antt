-- The partial plan, as the code keeps it.
use Rattle.std.specs.Prelude.{◌≡◌, ℕ, suc, ◌+◌, ◌<◌, ◌≤◌, true, [], length, map, set, get_or, insert, remove}
use Rattle.hs_base.specs.declared.plan.TokenRef.{TokenRef}
use Rattle.search_tree.specs.Partial.{Partial}
use Rattle.timeline_db.specs.Lines.{Shown, nothing_held, row_of}
use Rattle.timeline_db.specs.declared.board.Board.{Board}
use Rattle.timeline_db.specs.declared.token.Token.{Token}

-- the partial plan of a board
abbrev pub pictured : Board → Partial
pictured d = record { rows = map row_of d.lines.items; supports = d.supports.items; goals = d.goals.items; deferred = d.deferred.items; points = d.points }

abbrev pub no_line : Shown
no_line = record { tokens = []; given = 0; finished = true }

abbrev pub line_at : Board → ℕ → Shown
line_at d v = get_or d.lines.items v no_line

abbrev pub token_of : Board → TokenRef → Token
token_of d t = get_or (line_at d t.sv.0).tokens t.place nothing_held

-- the token is there
pub record HasToken (d : Board) (t : TokenRef) : Type 0 where
  pub row : t.sv.0 < length d.lines.items
  pub place : t.place < length (line_at d t.sv.0).tokens

-- a token may be put behind that place
pub record HasPlace (d : Board) (v i : ℕ) : Type 0 where
  pub row : v < length d.lines.items
  pub after : (line_at d v).given ≤ suc i
  pub place : suc i ≤ length (line_at d v).tokens

-- all but the rows and the counts stay
pub record KeepsRest (old new : Board) : Type 0 where
  pub supports : new.supports.items ≡ old.supports.items
  pub goals : new.goals.items ≡ old.goals.items
  pub deferred : new.deferred.items ≡ old.deferred.items

-- only the row of that variable changes
pub record ChangesRow (v : ℕ) (s : Shown) (old new : Board) : Type 0 where
  pub lines : new.lines.items ≡ set old.lines.items v s
  pub rest : KeepsRest old new
  pub points : new.points ≡ old.points
  pub added : new.added ≡ old.added
  pub total : new.total ≡ old.total

-- a token comes behind that place, with so many points
pub record Puts (v i : ℕ) (t : Token) (grown : ℕ) (old new : Board) : Type 0 where
  pub lines : new.lines.items ≡ set old.lines.items v (record (line_at old v) { tokens = insert (line_at old v).tokens (suc i) t })
  pub rest : KeepsRest old new
  pub points : new.points ≡ old.points + grown
  pub added : new.added ≡ suc old.added
  pub total : new.total ≡ suc old.total

-- the token behind that place goes
pub record TakesOut (v i grown : ℕ) (old new : Board) : Type 0 where
  pub lines : new.lines.items ≡ set old.lines.items v (record (line_at old v) { tokens = remove (line_at old v).tokens (suc i) })
  pub rest : KeepsRest old new
  pub points : new.points + grown ≡ old.points
  pub added : suc new.added ≡ old.added
  pub total : suc new.total ≡ old.total
