use Rattle.std.proofs.Common.{◌≡◌, ℕ, ◌<◌, ◌≤◌, ◌+◌, List, [], ◌∷◌, ◌++◌, length, vec_len, drop, set, get_or, ℤ, pos, ◌-ℤ◌, ◌<ℤ◌, ◌≤ℤ◌, ap, ◌∙◌, sym, subst, arith, Contains, get_or-set_other}
use Rattle.std.proofs.lemmas.Int.{ints}
use Rattle.std.proofs.lemmas.List.{drop_more}
use Rattle.std.proofs.lemmas.List.Elements.{Contains-get_or, All-push}
use Rattle.hs_base.specs.declared.net.Bound.{Bound}
use Rattle.hs_base.specs.Schedule.{time_of}
use Rattle.stn_trail.specs.declared.moves.Move.{Move}
use Rattle.stn_trail.specs.declared.times.Times.{Times}
use Rattle.stn_trail.specs.declared.raised.Raised.{Raised}
use Rattle.stn_trail.specs.Moves.{KeepsPast}
use Rattle.stn_trail.specs.Rows.{row_at, IsIn, AreRows}
use Rattle.stn_trail.specs.Covered.{AreCovered, AreBelow}
use Rattle.stn_trail.proofs.CoveredLemmas.{AreCovered-kept, AreCovered-raised}

-- what keeps the past twice keeps it
pub KeepsPast-then : (n k : ℕ) (moves : List Move) (times : List ℤ) (moves' : List Move) (times' : List ℤ) (moves'' : List Move) (times'' : List ℤ)
    → KeepsPast n moves times moves' times' → KeepsPast k moves' times' moves'' times'' → n ≤ k → KeepsPast n moves times moves'' times''
KeepsPast-then n k moves times moves' times' moves'' times'' a b h =
    let e = b.enough in record { enough = omega arith; same = λ j l. b.same j (omega arith) ∙ a.same j l }

-- the loop over a row, before a place: what is left of the row is not yet looked at
pub record IsRaising (rows : List (List Bound)) (point : ℕ) (row : List Bound) (here : ℤ) (place : ℕ) (times : List ℤ) (queue : List Raised) : Type 0 where
  pub row_is : row ≡ row_at rows point
  pub here_is : time_of times point ≡ here
  pub covered : AreCovered rows times queue (drop place row)
  pub below : AreBelow (length rows) queue

-- what a read of a bound falls back on
abbrev pub no_bound : Bound
no_bound = record { from = record { 0 = 0 }; to = record { 0 = 0 }; most = pos 0 }

-- the same, with how the times have moved since the loop began
pub record Raises (rows : List (List Bound)) (point : ℕ) (row : List Bound) (here : ℤ) (place : ℕ) (old new : Times) (queue : List Raised) : Type 0 where
  pub raising : IsRaising rows point row here place new.ticks.items queue
  pub size : vec_len new.ticks ≡ vec_len old.ticks
  pub origin : time_of new.ticks.items 0 ≡ time_of old.ticks.items 0
  pub past : KeepsPast (vec_len old.moves) old.moves.items old.ticks.items new.moves.items new.ticks.items

-- the loop over the queue
pub record Spreads (rows : List (List Bound)) (old new : Times) (queue : List Raised) : Type 0 where
  pub covered : AreCovered rows new.ticks.items queue []
  pub below : AreBelow (length rows) queue
  pub size : vec_len new.ticks ≡ vec_len old.ticks
  pub origin : time_of new.ticks.items 0 ≡ time_of old.ticks.items 0
  pub past : KeepsPast (vec_len old.moves) old.moves.items old.ticks.items new.moves.items new.ticks.items

-- a bound that is read from a row stands in it
pub bound_in_row : (rows : List (List Bound)) (point : ℕ) (row : List Bound) (place : ℕ) (d : Bound) → row ≡ row_at rows point → place < length row
    → Contains (row_at rows point) (get_or row place d)
bound_in_row rows point row place d e l = subst (λ (xs : List Bound). Contains xs (get_or row place d)) e (Contains-get_or row place d l)

-- its start has a row
pub start_below : (rows : List (List Bound)) (point : ℕ) (row : List Bound) (place : ℕ) (d : Bound) → row ≡ row_at rows point → AreRows rows → place < length row
    → (get_or row place d).from.0 < length rows
start_below rows point row place d e r l = r.starts point (get_or row place d) (bound_in_row rows point row place d e l)

-- it stands in the row of its end
pub bound_is_in : (rows : List (List Bound)) (point : ℕ) (row : List Bound) (place : ℕ) (d : Bound) → row ≡ row_at rows point → AreRows rows → place < length row
    → IsIn rows (get_or row place d)
bound_is_in rows point row place d e r l =
    let i = bound_in_row rows point row place d e l in
    subst (λ (v : ℕ). Contains (row_at rows v) (get_or row place d)) (sym (r.ends point (get_or row place d) i)) i

-- its end is the point of the row
pub bound_told : (rows : List (List Bound)) (point : ℕ) (row : List Bound) (place : ℕ) (d : Bound) → row ≡ row_at rows point → AreRows rows → place < length row
    → (let b : Bound = record { from = (get_or row place d).from; to = record { 0 = point }; most = (get_or row place d).most } in b) ≡ get_or row place d
bound_told rows point row place d e r l =
    let b = get_or row place d in
    ap (λ (v : ℕ). let c : Bound = record { from = b.from; to = record { 0 = v }; most = b.most } in c) (sym (r.ends point b (bound_in_row rows point row place d e l)))

-- what is left from a place on, the bound at the place first
left_is : (rows : List (List Bound)) (times : List ℤ) (queue : List Raised) (row : List Bound) (place : ℕ) (d : Bound) → place < length row
    → AreCovered rows times queue (drop place row) → AreCovered rows times queue (get_or row place d ∷ drop (place + 1) row)
left_is rows times queue row place d l h = subst (λ (xs : List Bound). AreCovered rows times queue xs) (drop_more row place d l) h

-- a step of the loop at a bound that is kept
pub IsRaising-kept : (rows : List (List Bound)) (point : ℕ) (row : List Bound) (here : ℤ) (place : ℕ) (times : List ℤ) (queue : List Raised) (d : Bound)
    → IsRaising rows point row here place times queue → AreRows rows → place < length row
    → (here -ℤ (get_or row place d).most) ≤ℤ time_of times (get_or row place d).from.0
    → IsRaising rows point row here (place + 1) times queue
IsRaising-kept rows point row here place times queue d h r l k =
    let b = get_or row place d in
    let e = r.ends point b (bound_in_row rows point row place d h.row_is l) in
    let t : time_of times b.to.0 ≡ here = ap (time_of times) e ∙ h.here_is in
    record {
      row_is = h.row_is;
      here_is = h.here_is;
      covered = AreCovered-kept rows times queue b (drop (place + 1) row) (left_is rows times queue row place d l h.covered) (omega (arith, ints));
      below = h.below;
    }

-- a step of the loop at a bound whose start is raised
pub IsRaising-raised : (rows : List (List Bound)) (point : ℕ) (row : List Bound) (here : ℤ) (place : ℕ) (times : List ℤ) (queue : List Raised) (d : Bound) (z : ℤ)
    → IsRaising rows point row here place times queue → AreRows rows → place < length row → length rows ≤ length times
    → ((get_or row place d).from.0 ≡ point → ⊥)
    → z ≡ here -ℤ (get_or row place d).most → time_of times (get_or row place d).from.0 <ℤ z
    → IsRaising rows point row here (place + 1) (set times (get_or row place d).from.0 z) (queue ++ record { point = (get_or row place d).from.0; time = z } ∷ [])
IsRaising-raised rows point row here place times queue d z h r l size apart due later =
    let b = get_or row place d in
    let i = bound_in_row rows point row place d h.row_is l in
    let e = r.ends point b i in let s = r.starts point b i in
    let t : time_of times b.to.0 ≡ here = ap (time_of times) e ∙ h.here_is in
    record {
      row_is = h.row_is;
      here_is = get_or-set_other times b.from.0 point z (pos 0) (λ q. apart (sym q)) ∙ h.here_is;
      covered = AreCovered-raised rows times queue b (drop (place + 1) row) z (left_is rows times queue row place d l h.covered) (omega arith) (λ q. apart (q ∙ e)) (due ∙ ap (λ (x : ℤ). x -ℤ b.most) (sym t)) later;
      below = record { each = All-push (λ x. x.point < length rows) queue (record { point = b.from.0; time = z }) h.below.each s };
    }
