-- How the code notes that a need is settled, or open again.
use Rattle.std.specs.Prelude.{◌≡◌, ℕ, ◌+◌, ◌<◌, ◌≤◌, List, Option}
use Rattle.hs_base.specs.declared.plan.Extension.{Extension}
use Rattle.hs_base.specs.declared.plan.TokenRef.{TokenRef}
use Rattle.search_tree.specs.declared.backing.Backing.{Backing}
use Rattle.search_tree.specs.declared.backing.Deferral.{Deferral}
use Rattle.search_tree.specs.declared.held.Held.{Held}
use Rattle.timeline_db.specs.Boards.{ChangesRow, line_at, token_of}
use Rattle.timeline_db.specs.Lines.{with_unmet}
use Rattle.timeline_db.specs.Serving.{IsFirstUnmet}
use Rattle.timeline_db.specs.declared.board.Board.{Board}

-- the rows and the counts stay, with these supports, goals' tokens and deferred needs
pub record KeepsRows (backed : List Backing) (met : List (Option Held)) (left : List Deferral) (old new : Board) : Type 0 where
  pub lines : new.lines.items ≡ old.lines.items
  pub supports : new.supports.items ≡ backed
  pub goals : new.goals.items ≡ met
  pub deferred : new.deferred.items ≡ left
  pub points : new.points ≡ old.points
  pub added : new.added ≡ old.added
  pub total : new.total ≡ old.total

-- where need j was the token's first open one, the first open one behind it is noted
pub record Settles (es : List Extension) (t : TokenRef) (j : ℕ) (old new : Board) : Type 0 where
  pub later : (token_of old t).unmet ≡ j → (n : ℕ) × IsFirstUnmet es old t (j + 1) n × ChangesRow t.sv.0 (with_unmet t.place n (line_at old t.sv.0)) old new
  pub same : ((token_of old t).unmet ≡ j → ⊥) → new ≡ old

-- need j is noted as the token's first open one, if none before it is open
pub record Reopens (t : TokenRef) (j : ℕ) (old new : Board) : Type 0 where
  pub earlier : j < (token_of old t).unmet → ChangesRow t.sv.0 (with_unmet t.place j (line_at old t.sv.0)) old new
  pub same : (token_of old t).unmet ≤ j → new ≡ old

-- with these supports and deferred needs, need j of the token is settled
pub record Serves (es : List Extension) (t : TokenRef) (j : ℕ) (backed : List Backing) (left : List Deferral) (old new : Board) : Type 0 where
  pub with_it : Board
  pub keeps : KeepsRows backed old.goals.items left old with_it
  pub settles : Settles es t j with_it new

-- with these supports and deferred needs, need j of the token is open again
pub record Unserves (t : TokenRef) (j : ℕ) (backed : List Backing) (left : List Deferral) (old new : Board) : Type 0 where
  pub without_it : Board
  pub keeps : KeepsRows backed old.goals.items left old without_it
  pub reopens : Reopens t j without_it new
