-- What the parts do to a partial plan.
use Rattle.std.specs.Prelude.{List, Some, [], false, insert, length, set, suc, true, zero, ℕ, ◌++◌, ◌+◌, ◌-◌, ◌∷◌}
use Rattle.search_tree.specs.Partial.{Partial, Row, held_at, held_by, kind_of}
use Rattle.search_tree.specs.declared.held.Cell.{Cell}
use Rattle.search_tree.specs.declared.part.Part.{Part}
use Rattle.search_tree.specs.declared.part.Part.TheVariants.{Deferred, Finished, Followed, Inserted, Joined, MetGoal, Supported}

-- the element of that place is changed
abbrev pub at_place : {X : Type 0} → (X → X) → ℕ → List X → List X
at_place f i [] = []
at_place f zero (x ∷ xs) = f x ∷ xs
at_place f (suc i) (x ∷ xs) = x ∷ at_place f i xs

-- a token behind place i
abbrev pub put : ℕ → Cell → Row → Row
put i c r = record { given = r.given; added = insert r.added (suc i - length r.given) c; finished = r.finished }

-- the token behind place i is joined to it
abbrev pub close : ℕ → Row → Row
close i r = record { given = r.given; added = at_place (λ (c : Cell). record { held = c.held; joined = true }) (suc i - length r.given) r.added; finished = r.finished }

abbrev pub end_row : Row → Row
end_row r = record { given = r.given; added = r.added; finished = true }

-- a new token with points of its own, behind a gap
abbrev pub gap_cell : Partial → ℕ → ℕ → Cell
gap_cell p v value = record { held = record { kind = kind_of v value; start = p.points; stop = suc p.points }; joined = false }

-- a new token that starts where the one at place i ends
abbrev pub joined_cell : Partial → ℕ → ℕ → ℕ → Cell
joined_cell p v i value = record { held = record { kind = kind_of v value; start = (held_at p v i).stop; stop = p.points }; joined = true }

abbrev pub with_rows : Partial → ℕ → List Row → Partial
with_rows p grown rows = record { rows = rows; supports = p.supports; goals = p.goals; deferred = p.deferred; points = p.points + grown }

abbrev pub do_part : Partial → Part → Partial
do_part p (Inserted v i value) = with_rows p 2 (at_place (put i (gap_cell p v.0 value.0)) v.0 p.rows)
do_part p (Followed v i value) = with_rows p 1 (at_place (put i (joined_cell p v.0 i value.0)) v.0 p.rows)
do_part p (Joined v i) = with_rows p 0 (at_place (close i) v.0 p.rows)
do_part p (Finished v) = with_rows p 0 (at_place end_row v.0 p.rows)
do_part p (Supported t i by) = record {
  rows = p.rows;
  supports = p.supports ++ record { token = held_by p t; need = i; by = held_by p by } ∷ [];
  goals = p.goals;
  deferred = p.deferred;
  points = p.points;
}
do_part p (MetGoal g by) = record { rows = p.rows; supports = p.supports; goals = set p.goals g (Some (held_by p by)); deferred = p.deferred; points = p.points }
do_part p (Deferred t i) = record { rows = p.rows; supports = p.supports; goals = p.goals; deferred = p.deferred ++ record { stop = (held_by p t).stop; need = i } ∷ []; points = p.points }

-- how many points the part brings
abbrev pub grown_by : Part → ℕ
grown_by (Inserted v i value) = 2
grown_by (Followed v i value) = 1
grown_by _ = 0

-- the parts in order
abbrev pub do_parts : Partial → List Part → Partial
do_parts p [] = p
do_parts p (x ∷ xs) = do_parts (do_part p x) xs
