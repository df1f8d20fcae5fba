-- Partial plans of a search: rows of tokens with gaps. A token is named by the point that ends it.
use Rattle.std.specs.Prelude.{Bool, List, None, Option, [], false, get_or, length, map, slice_get, suc, true, ℕ, ◌++◌, ◌+◌, ◌∷◌}
use Rattle.hs_base.specs.Bounds.{goals_of, on_some}
use Rattle.hs_base.specs.Points.{count, start_at, stop, timeline_of, tokens_of}
use Rattle.hs_base.specs.Schedule.{numbers_from}
use Rattle.hs_base.specs.declared.mission.Goal.{Goal}
use Rattle.hs_base.specs.declared.mission.Kind.{Kind}
use Rattle.hs_base.specs.declared.mission.Mission.{Mission}
use Rattle.hs_base.specs.declared.mission.Var.{Var}
use Rattle.hs_base.specs.declared.plan.TokenRef.{TokenRef}
use Rattle.search_tree.specs.Begun.{Begun, number, stub}
use Rattle.search_tree.specs.declared.backing.Backing.{Backing}
use Rattle.search_tree.specs.declared.backing.Deferral.{Deferral}
use Rattle.search_tree.specs.declared.held.Cell.{Cell}
use Rattle.search_tree.specs.declared.held.Held.{Held}

-- a timeline: the tokens of the plan that is extended, then the new ones; no token may come behind a finished one
pub record Row : Type 0 where
  pub given : List Held
  pub added : List Cell
  pub finished : Bool

-- a row for each variable, the needs that are served or left to a later plan, a token or none for each goal, and the
-- number of points
pub record Partial : Type 0 where
  pub rows : List Row
  pub supports : List Backing
  pub goals : List (Option Held)
  pub deferred : List Deferral
  pub points : ℕ

-- the token of that place of a variable
abbrev pub at : ℕ → ℕ → TokenRef
at v i = record { sv = record { 0 = v }; place = i }

abbrev pub kind_of : ℕ → ℕ → Kind
kind_of v value = record { sv = record { 0 = v }; value = record { 0 = value } }

-- the tokens of a row in order; those of the plan that is extended are joined
abbrev pub cells : Row → List Cell
cells r = map (λ h. record { held = h; joined = true }) r.given ++ r.added

abbrev pub no_row : Row
no_row = record { given = []; added = []; finished = true }

abbrev pub row : Partial → ℕ → Row
row p v = get_or p.rows v no_row

abbrev pub nobody : Held
nobody = record { kind = kind_of 0 0; start = 0; stop = 0 }

-- the token of that place of a variable's row
abbrev pub held_at : Partial → ℕ → ℕ → Held
held_at p v i = get_or (map (λ c. c.held) (cells (row p v))) i nobody

abbrev pub held_by : Partial → TokenRef → Held
held_by p t = held_at p t.sv.0 t.place

-- the tokens of a timeline of the plan that is extended, from that place on
abbrev pub held_from : Begun → ℕ → ℕ → List Kind → List Held
held_from b v i [] = []
held_from b v i (k ∷ ks) = record { kind = k; start = start_at b.base v i; stop = stop b.base (at v i) } ∷ held_from b v (suc i) ks

-- the first token of a timeline, where no plan is extended
abbrev pub first_cells : Mission → Begun → ℕ → List Cell
first_cells m b v = on_some (slice_get m.vars v) (λ (var : Var). record { held = record { kind = record { sv = record { 0 = v }; value = var.begin }; start = 0; stop = count (stub b) + v }; joined = true } ∷ [])

abbrev pub first_row : Mission → Begun → ℕ → Row
first_row m b v = elim b.base [
  | [] ↦ record { given = []; added = first_cells m b v; finished = false }
  | (e ∷ es) ↦ record { given = held_from b v 0 (timeline_of (tokens_of b.base) v); added = []; finished = false }
]

-- where the search begins: the tokens of the plan, all joined, or a first token of each variable
abbrev pub begin : Mission → Begun → Partial
begin m b = record {
  rows = map (first_row m b) (numbers_from 0 (length m.vars));
  supports = [];
  goals = map (λ (g : Goal). None) (goals_of m (number b));
  deferred = [];
  points = count (stub b) + (elim b.base [ [] ↦ length m.vars | (e ∷ es) ↦ 0 ]);
}
