-- The winner of a tournament is the least number.
use Rattle.std.proofs.Common.{◌≡◌, ℕ, zero, suc, ◌+◌, ◌-◌, ◌/◌, ◌<◌, ◌≤◌, List, length, sym, ◌∙◌, subst, arith, pos, inl, inr, ◌⊎◌, get_or, drop, refl, ap}
use Rattle.std.proofs.lemmas.Int.{ints, clamps}
use Rattle.std.proofs.lemmas.Bool.{cases_eq, cases_Bool, cases_lt}
use Rattle.std.proofs.lemmas.List.{get_or-drop, length-drop, get_or_default}
use Rattle.std.proofs.lemmas.List.Elements.{Contains-get_or}
use Rattle.std.specs.Prelude.{ℤ, ◌≤ℤ◌, int_lt, Contains}
use Rattle.std.specs.Int.{int_min}
use Rattle.local_propagate.specs.Tournament.{IsTournament}

pub cases_min : (x y : ℤ) → (int_min x y ≡ x) ⊎ (int_min x y ≡ y)
cases_min x y = elim (cases_Bool (int_lt y x)) [ inl e ↦ inr (rw e refl) | inr e ↦ inl (rw e refl) ]

module _ (size : ℕ) (tree : List ℤ) (t : IsTournament size tree) where
  winner_within : (n j : ℕ) → j ≤ n → 1 ≤ j → j < size + size → get_or tree 1 (pos 0) ≤ℤ get_or tree j (pos 0)
  winner_within zero j h i l = absurd (omega arith)
  winner_within (suc n) j h i l = elim (cases_eq j 1) [
    | inl same ↦ rw same (omega (arith, ints))
    | inr other ↦
        let p : ℕ = j / 2 in
        let up = winner_within n p (omega arith) (omega arith) (omega arith) in
        let won = t.won p (omega arith) (omega arith) in
        elim (cases_eq j (p + p)) [
          | inl even ↦ rw even (omega (arith, ints, clamps, up, won))
          | inr uneven ↦ let odd : j ≡ p + p + 1 = omega (arith, uneven) in rw odd (omega (arith, ints, clamps, up, won))
        ]
  ]

  -- the winner is at most each number
  pub winner_least : (i : ℕ) (d : ℤ) → i < length (drop size tree) → get_or tree 1 (pos 0) ≤ℤ get_or (drop size tree) i d
  winner_least i d h =
      let long = length-drop size tree in
      let il : size + i < length tree = omega (arith, t.places) in
      let w = winner_within (size + i) (size + i) (omega arith) (omega (arith, t.places)) (omega (arith, t.places)) in
      rw (get_or-drop, get_or_default tree (size + i) d (pos 0) il) w

  number_at : (j : ℕ) → size ≤ j → j < size + size → Contains (drop size tree) (get_or tree j (pos 0))
  number_at j low high =
      let long = length-drop size tree in
      let at : size + (j - size) ≡ j = omega arith in
      subst (λ z. Contains (drop size tree) z) (get_or-drop size tree (j - size) (pos 0) ∙ ap (λ z. get_or tree z (pos 0)) at) (Contains-get_or (drop size tree) (j - size) (pos 0) (omega (arith, t.places)))

  among_within : (n j : ℕ) → size + size ≤ n + j → 1 ≤ j → j < size + size → Contains (drop size tree) (get_or tree j (pos 0))
  among_within zero j h i l = absurd (omega arith)
  among_within (suc n) j h i l = elim (cases_lt j size) [
    | inr high ↦ number_at j high l
    | inl low ↦
        let won = t.won j i low in
        elim (cases_min (get_or tree (j + j) (pos 0)) (get_or tree (j + j + 1) (pos 0))) [
          | inl e ↦ subst (λ z. Contains (drop size tree) z) (sym (won ∙ e)) (among_within n (j + j) (omega arith) (omega arith) (omega arith))
          | inr e ↦ subst (λ z. Contains (drop size tree) z) (sym (won ∙ e)) (among_within n (j + j + 1) (omega arith) (omega arith) (omega arith))
        ]
  ]

  -- the winner is one of the numbers
  pub winner_among : 0 < size → Contains (drop size tree) (get_or tree 1 (pos 0))
  winner_among h = among_within (size + size) 1 (omega arith) (omega arith) (omega arith)
