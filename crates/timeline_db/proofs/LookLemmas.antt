-- The tokens of a partial plan's rows are those of the rows that are kept.
use Rattle.std.proofs.Common.{◌≡◌, ℕ, zero, suc, ◌≤◌, List, [], ◌∷◌, Option, None, Some, length, map, slice_get, refl, sym, ap, ◌∙◌, arith}
use Rattle.std.proofs.lemmas.Option.{get_or_from_slice_get}
use Rattle.std.specs.Option.{IfNone, MatchOption}
use Rattle.hs_base.specs.declared.plan.TokenRef.{TokenRef}
use Rattle.search_tree.proofs.CellLemmas.{held_is, slice_get-map_some}
use Rattle.search_tree.specs.May.{IsThere}
use Rattle.search_tree.specs.Partial.{Partial, cells, held_by, no_row, row}
use Rattle.search_tree.specs.declared.held.Cell.{Cell}
use Rattle.timeline_db.proofs.PictureLemmas.{cells-row}
use Rattle.timeline_db.specs.Lines.{Shown, cell_of, row_of}
use Rattle.timeline_db.specs.Tracked.{IsLine}
use Rattle.timeline_db.specs.declared.token.Token.{Token}

-- the token of that name in the row that is kept
pub token_seen : (p : Partial) (t : TokenRef) (s : Shown) → IsThere p t → row_of s ≡ row p t.sv.0 → IsLine s → (x : Token) × (slice_get s.tokens t.place ≡ Some x) × (x.held ≡ held_by p t)
token_seen p t s there same line =
    let here : row p t.sv.0 ≡ there.row = get_or_from_slice_get p.rows t.sv.0 there.row no_row there.is_row in
    let kept : cells there.row ≡ map cell_of s.tokens = ap cells (sym here) ∙ ap cells (sym same) ∙ cells-row s line.joined in
    let x = slice_get-map_some cell_of s.tokens t.place there.cell (ap (λ (cs : List Cell). slice_get cs t.place) (sym kept) ∙ there.here) in
    (x.0, x.1, ap (λ (c : Cell). c.held) x.2 ∙ sym (held_is p t.sv.0 t.place there.row there.cell there.is_row there.here))

-- where there is no element, the list ends before
pub none_from : {X : Type 0} (xs : List X) (i : ℕ) → slice_get xs i ≡ None → length xs ≤ i
none_from [] i h = omega arith
none_from (x ∷ xs) zero h = absurd (cc)
none_from (x ∷ xs) (suc i) h = let l = none_from xs i h in omega arith

-- a list that ends before has no element there
pub none_past : {X : Type 0} (xs : List X) (i : ℕ) → length xs ≤ i → slice_get xs i ≡ None
none_past [] i h = refl
none_past (x ∷ xs) zero h = absurd (omega arith)
none_past (x ∷ xs) (suc i) h = none_past xs i (omega arith)

-- what follows where there is none
pub if_none : {X : Type 0} (o : Option X) (N P : Type 0) (S : X → Type 0) → MatchOption o N S → (N → P) → IfNone o P
if_none None N P S h f = f h
if_none (Some x) N P S h f = tt
