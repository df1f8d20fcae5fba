-- Rows of tokens that get room, and grow.
use Rattle.std.proofs.Common.{◌≡◌, ◌≢◌, ℕ, zero, suc, ◌+◌, ◌<◌, ◌≤◌, List, [], ◌∷◌, ◌++◌, length, get_or, Some, refl, sym, ap, ◌∙◌, subst, arith, inl, inr, length-append, vec_len, vec_capacity}
use Rattle.std.proofs.lemmas.Bool.{cases_lt, cases_eq}
use Rattle.std.proofs.lemmas.Option.{slice_get_within, slice_get-get_or, slice_get_past}
use Rattle.std.specs.Prelude.{slice_get, slice_set, Option, None}
use Rattle.base_laws.proofs.ListLemmas.{slice_get-append_left, slice_get-middle}
use Rattle.plan_index.specs.declared.placed.PlacedToken.{PlacedToken}
use Rattle.plan_index.specs.declared.placed.Timeline.{Timeline}
use Rattle.plan_index.specs.Lines.{row_of, HasRoom}

-- what a place holds that was written
pub slice_get-set_same : {X : Type 0} (xs : List X) (i : ℕ) (x : X) → i < length xs → slice_get (slice_set xs i x) i ≡ Some x
slice_get-set_same [] i x below = absurd (omega arith)
slice_get-set_same (y ∷ ys) zero x below = refl
slice_get-set_same (y ∷ ys) (suc i) x below = slice_get-set_same ys i x (omega arith)

-- and what any other holds
pub slice_get-set_other : {X : Type 0} (xs : List X) (i j : ℕ) (x : X) → j ≢ i → slice_get (slice_set xs i x) j ≡ slice_get xs j
slice_get-set_other [] i j x apart = refl
slice_get-set_other (y ∷ ys) zero zero x apart = absurd (apart refl)
slice_get-set_other (y ∷ ys) zero (suc j) x apart = refl
slice_get-set_other (y ∷ ys) (suc i) zero x apart = refl
slice_get-set_other (y ∷ ys) (suc i) (suc j) x apart = slice_get-set_other ys i j x (λ same. apart (ap suc same))

-- the tokens of a line that may be there
abbrev pub tokens_of_line : Option Timeline → List PlacedToken
tokens_of_line line = elim line [ None ↦ [] | Some l ↦ l.tokens.items ]

-- an empty line more changes no row
pub row_pushed : (lines : List Timeline) (line : Timeline) (v : ℕ) → line.tokens.items ≡ [] → row_of (lines ++ line ∷ []) v ≡ row_of lines v
row_pushed lines line v none = elim (cases_lt v (length lines)) [
  | inl old ↦ ap tokens_of_line (slice_get-append_left lines (line ∷ []) v old)
  | inr behind ↦ elim (cases_eq v (length lines)) [
    | inl last ↦
        ap (λ i. tokens_of_line (slice_get (lines ++ line ∷ []) i)) last ∙ ap tokens_of_line (slice_get-middle lines line []) ∙ none
        ∙ sym (ap tokens_of_line (slice_get_past lines v behind))
    | inr past ↦
        ap tokens_of_line (slice_get_past (lines ++ line ∷ []) v (omega (arith, length-append lines (line ∷ []))))
        ∙ sym (ap tokens_of_line (slice_get_past lines v behind))
  ]
]

-- and takes no room
pub room_pushed : (lines : List Timeline) (line : Timeline) (v n : ℕ) → HasRoom lines v n → HasRoom (lines ++ line ∷ []) v n
room_pushed lines line v n h = record {
  line = h.line;
  there = slice_get-append_left lines (line ∷ []) v (slice_get_within lines v h.line h.there) ∙ h.there;
  room = h.room;
}

-- a row whose line is replaced
pub row_written : (lines : List Timeline) (k : ℕ) (old new : Timeline) → k < length lines → old ≡ get_or lines k old → new.tokens.items ≡ old.tokens.items → (v : ℕ) → row_of (slice_set lines k new) v ≡ row_of lines v
row_written lines k old new below is same v = elim (cases_eq v k) [
  | inl here ↦
      subst (λ w. row_of (slice_set lines k new) w ≡ row_of lines w) (sym here)
      (ap tokens_of_line (slice_get-set_same lines k new below) ∙ same ∙ ap (λ (l : Timeline). l.tokens.items) is ∙ sym (ap tokens_of_line (slice_get-get_or lines k old below)))
  | inr apart ↦ ap tokens_of_line (slice_get-set_other lines k v new apart)
]

-- the room of a line that is replaced
pub room_written : (lines : List Timeline) (k : ℕ) (new : Timeline) (v m n : ℕ) → k < length lines → ((line : Timeline) → slice_get lines k ≡ Some line → vec_len line.tokens + m ≤ vec_capacity line.tokens → vec_len new.tokens + n ≤ vec_capacity new.tokens) → n ≤ m → HasRoom lines v m → HasRoom (slice_set lines k new) v n
room_written lines k new v m n below room less h = elim (cases_eq v k) [
  | inl here ↦
      let was : slice_get lines k ≡ Some h.line = ap (slice_get lines) (sym here) ∙ h.there in
      record {
        line = new;
        there = ap (slice_get (slice_set lines k new)) here ∙ slice_get-set_same lines k new below;
        room = room h.line was h.room;
      }
  | inr apart ↦ record { line = h.line; there = slice_get-set_other lines k v new apart ∙ h.there; room = omega (arith, h.room, less) }
]

-- a line that got a token has room for one less
pub room_placed : (lines : List Timeline) (k : ℕ) (old new : Timeline) → k < length lines → old ≡ get_or lines k old → vec_len new.tokens ≡ vec_len old.tokens + 1 → vec_capacity new.tokens ≡ vec_capacity old.tokens → (v n : ℕ) → HasRoom lines v (n + 1) → HasRoom (slice_set lines k new) v n
room_placed lines k old new below is longer same v n h = room_written lines k new v (n + 1) n below room (omega arith) h
  where
    room : (line : Timeline) → slice_get lines k ≡ Some line → vec_len line.tokens + (n + 1) ≤ vec_capacity line.tokens → vec_len new.tokens + n ≤ vec_capacity new.tokens
    room line at fits =
        let found : Some line ≡ Some old = sym at ∙ slice_get-get_or lines k old below ∙ ap Some (sym is) in
        let one : line ≡ old = cc in
        let size : vec_len line.tokens ≡ vec_len old.tokens = ap (λ (l : Timeline). vec_len l.tokens) one in
        let limit : vec_capacity line.tokens ≡ vec_capacity old.tokens = ap (λ (l : Timeline). vec_capacity l.tokens) one in
        omega (arith, fits, size, limit, longer, same)

-- a line that got room has what it had
pub room_reserved : (lines : List Timeline) (k : ℕ) (old new : Timeline) → k < length lines → old ≡ get_or lines k old → vec_len new.tokens ≡ vec_len old.tokens → vec_capacity old.tokens ≤ vec_capacity new.tokens → (v n : ℕ) → HasRoom lines v n → HasRoom (slice_set lines k new) v n
room_reserved lines k old new below is size limit v n h = room_written lines k new v n n below room (omega arith) h
  where
    room : (line : Timeline) → slice_get lines k ≡ Some line → vec_len line.tokens + n ≤ vec_capacity line.tokens → vec_len new.tokens + n ≤ vec_capacity new.tokens
    room line at fits =
        let found : Some line ≡ Some old = sym at ∙ slice_get-get_or lines k old below ∙ ap Some (sym is) in
        let one : line ≡ old = cc in
        let was : vec_len line.tokens ≡ vec_len old.tokens = ap (λ (l : Timeline). vec_len l.tokens) one in
        let had : vec_capacity line.tokens ≡ vec_capacity old.tokens = ap (λ (l : Timeline). vec_capacity l.tokens) one in
        omega (arith, fits, was, had, size, limit)

-- room for fewer
pub room_less : (lines : List Timeline) (v m n : ℕ) → n ≤ m → HasRoom lines v m → HasRoom lines v n
room_less lines v m n less h = record { line = h.line; there = h.there; room = omega (arith, h.room, less) }
