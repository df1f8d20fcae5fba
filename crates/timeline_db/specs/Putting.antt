-- Parts that put a token into a row.
use Rattle.std.specs.Prelude.{◌≡◌, ℕ, suc, List, Option, option_map, slice_get}
use Rattle.search_tree.specs.Partial.{Partial}
use Rattle.search_tree.specs.Parts.{gap_cell, joined_cell}
use Rattle.search_tree.specs.declared.held.Cell.{Cell}
use Rattle.search_tree.specs.declared.part.Part.{Part}
use Rattle.search_tree.specs.declared.part.Part.TheVariants.{Followed, Inserted}
use Rattle.hs_base.specs.declared.ids.SvId.{SvId}
use Rattle.timeline_db.specs.declared.token.Token.{Token}

-- the part puts that token behind place i of a variable, with so many points
abbrev pub IsPutting : Partial → SvId → ℕ → Cell → ℕ → Part → Type 0
IsPutting p v i c grown (Inserted w j value) = (w ≡ v) × (j ≡ i) × (c ≡ gap_cell p w.0 value.0) × (grown ≡ 2)
IsPutting p v i c grown (Followed w j value) = (w ≡ v) × (j ≡ i) × (c ≡ joined_cell p w.0 j value.0) × (grown ≡ 1)
IsPutting p v i c grown _ = ⊥

-- the start of the token behind place i, if there is one
abbrev pub start_behind : List Token → ℕ → Option ℕ
start_behind ts i = option_map (λ (t : Token). t.held.start) (slice_get ts (suc i))
