-- What narrowing by a list of neighbours leaves of each window.
use Rattle.std.proofs.Common.{◌≡◌, ℕ, ◌+◌, ◌-◌, ◌<◌, ◌≤◌, Bool, true, false, cond, List, [], ◌∷◌, length, zero-add, refl, sym, ap, ◌∙◌, subst, arith, pos, inl, inr, ◌⊎◌, get_or, set, Option, Some, None}
use Rattle.std.proofs.lemmas.Int.{ints, clamps}
use Rattle.std.proofs.lemmas.Bool.{cases_eq, cases_Bool, eq-eqb, ne_eqb}
use Rattle.std.proofs.lemmas.List.{get_or-set_same, get_or-set_other, length-set}
use Rattle.std.proofs.lemmas.List.Sums.{sum_by-cons}
use Rattle.std.specs.Prelude.{ℤ, ◌+ℤ◌, ◌-ℤ◌, ◌≤ℤ◌, ◌&&◌, nat_eq, int_lt}
use Rattle.std.specs.List.{fold, count_by}
use Rattle.std.specs.Int.{int_max, int_min}
use Rattle.std.specs.Option.{is_none}
use Rattle.net_laws.proofs.BetweenLemmas.{Has}
use Rattle.local_propagate.specs.declared.neighbours.Neighbour.{Neighbour}
use Rattle.local_propagate.specs.Narrowed.{raised, lowered, released}
use Rattle.local_propagate.proofs.TournamentLemmas.{cases_min}

cases_max : (x y : ℤ) → (int_max x y ≡ x) ⊎ (int_max x y ≡ y)
cases_max x y = elim (cases_Bool (int_lt y x)) [ inl e ↦ inl (rw e refl) | inr e ↦ inr (rw e refl) ]

module _ (at : ℤ) where
  -- the greatest of an old time and those that the neighbours of number i leave
  pub record Raised (ns : List Neighbour) (old : ℤ) (i : ℕ) (v : ℤ) : Type 0 where
    pub old_in : old ≤ℤ v
    pub each : (n : Neighbour) → Has ns n → n.group ≡ i → (at -ℤ n.most) ≤ℤ v
    pub among : (v ≡ old) ⊎ ((n : Neighbour) × Has ns n × (n.group ≡ i) × (v ≡ at -ℤ n.most))

  pub length-raised : (ns : List Neighbour) (low : List ℤ) → length (fold (raised at) low ns) ≡ length low
  length-raised [] low = refl
  length-raised (n ∷ ns) low = length-raised ns (raised at low n) ∙ length-set low n.group _

  pub raises : (ns : List Neighbour) (low : List ℤ) (i : ℕ) → i < length low → Raised ns (get_or low i (pos 0)) i (get_or (fold (raised at) low ns) i (pos 0))
  raises [] low i ii = record { old_in = omega (arith, ints); each = λ n j. absurd j; among = inl refl }
  raises (n ∷ ns) low i ii =
      let v : ℤ = int_max (get_or low n.group (pos 0)) (at -ℤ n.most) in
      let long : length (set low n.group v) ≡ length low = length-set low n.group v in
      let rest = raises ns (set low n.group v) i (omega (arith, ii)) in
      elim (cases_eq n.group i) [
        | inr other ↦
            let same : get_or (set low n.group v) i (pos 0) ≡ get_or low i (pos 0) = get_or-set_other low n.group i v (pos 0) (λ e. other (sym e)) in
            record {
              old_in = omega (arith, ints, same, rest.old_in);
              each = λ m j at_i. elim j [
                | inl is ↦ absurd (other (ap (λ (z : Neighbour). z.group) is ∙ at_i))
                | inr k ↦ rest.each m k at_i
              ];
              among = elim rest.among [ inl e ↦ inl (e ∙ same) | inr r ↦ inr (r.0, inr r.1, r.2, r.3) ];
            }
        | inl here ↦
            let new : get_or (set low n.group v) i (pos 0) ≡ v = subst (λ z. get_or (set low n.group v) z (pos 0) ≡ v) here (get_or-set_same low n.group v (pos 0) (omega (arith, here, ii))) in
            let was : get_or low n.group (pos 0) ≡ get_or low i (pos 0) = ap (λ z. get_or low z (pos 0)) here in
            record {
              old_in = omega (arith, ints, clamps, new, was, rest.old_in);
              each = λ m j at_i. elim j [
                | inl is ↦ omega (arith, ints, clamps, new, was, rest.old_in, ap (λ (z : Neighbour). z.most) is)
                | inr k ↦ rest.each m k at_i
              ];
              among = elim rest.among [
                | inr r ↦ inr (r.0, inr r.1, r.2, r.3)
                | inl e ↦ elim (cases_max (get_or low n.group (pos 0)) (at -ℤ n.most)) [
                  | inl b ↦ inl (e ∙ new ∙ b ∙ was)
                  | inr b ↦ inr (n, inl refl, here, e ∙ new ∙ b)
                ]
              ];
            }
      ]

  pub raised_elsewhere : (ns : List Neighbour) (low : List ℤ) (i : ℕ) → ((n : Neighbour) → Has ns n → n.group ≡ i → ⊥) → get_or (fold (raised at) low ns) i (pos 0) ≡ get_or low i (pos 0)
  raised_elsewhere [] low i h = refl
  raised_elsewhere (n ∷ ns) low i h = raised_elsewhere ns (raised at low n) i (λ m j. h m (inr j)) ∙ get_or-set_other low n.group i _ (pos 0) (λ e. h n (inl refl) (sym e))

  module _ (times : List (Option ℤ)) where
    -- the least of an old time and those that the neighbours of number i leave
    pub record Lowered (ns : List Neighbour) (old : ℤ) (i : ℕ) (v : ℤ) : Type 0 where
      pub old_in : v ≤ℤ old
      pub each : (n : Neighbour) → Has ns n → n.group ≡ i → v ≤ℤ (at +ℤ n.most)
      pub among : (v ≡ old) ⊎ ((n : Neighbour) × Has ns n × (n.group ≡ i) × (v ≡ at +ℤ n.most))

    length_lowered : (n : Neighbour) (high : List ℤ) → length (lowered times at high n) ≡ length high
    length_lowered n high = elim (cases_Bool (is_none (get_or times n.group None))) [
      | inl e ↦ rw e (length-set high n.group _)
      | inr e ↦ rw e refl
    ]

    pub length-lowered : (ns : List Neighbour) (high : List ℤ) → length (fold (lowered times at) high ns) ≡ length high
    length-lowered [] high = refl
    length-lowered (n ∷ ns) high = length-lowered ns (lowered times at high n) ∙ length_lowered n high

    lowered_other : (n : Neighbour) (high : List ℤ) (i : ℕ) → (n.group ≡ i → ⊥) → get_or (lowered times at high n) i (pos 0) ≡ get_or high i (pos 0)
    lowered_other n high i other = elim (cases_Bool (is_none (get_or times n.group None))) [
      | inl e ↦ rw e (get_or-set_other high n.group i _ (pos 0) (λ same. other (sym same)))
      | inr e ↦ rw e refl
    ]

    lowered_here : (n : Neighbour) (high : List ℤ) (i : ℕ) → i < length high → n.group ≡ i → get_or times i None ≡ None → get_or (lowered times at high n) i (pos 0) ≡ int_min (get_or high i (pos 0)) (at +ℤ n.most)
    lowered_here n high i ii here unset =
        let test : get_or times n.group None ≡ None = ap (λ z. get_or times z None) here ∙ unset in
        rw test (subst (λ z. get_or (set high z (int_min (get_or high z (pos 0)) (at +ℤ n.most))) i (pos 0) ≡ int_min (get_or high i (pos 0)) (at +ℤ n.most)) (sym here) (get_or-set_same high i _ (pos 0) ii))

    pub lowers : (ns : List Neighbour) (high : List ℤ) (i : ℕ) → i < length high → get_or times i None ≡ None → Lowered ns (get_or high i (pos 0)) i (get_or (fold (lowered times at) high ns) i (pos 0))
    lowers [] high i ii unset = record { old_in = omega (arith, ints); each = λ n j. absurd j; among = inl refl }
    lowers (n ∷ ns) high i ii unset =
        let next : List ℤ = lowered times at high n in
        let long : length next ≡ length high = length_lowered n high in
        let rest = lowers ns next i (omega (arith, ii)) unset in
        elim (cases_eq n.group i) [
          | inr other ↦
              let same : get_or next i (pos 0) ≡ get_or high i (pos 0) = lowered_other n high i other in
              record {
                old_in = omega (arith, ints, same, rest.old_in);
                each = λ m j at_i. elim j [
                  | inl is ↦ absurd (other (ap (λ (z : Neighbour). z.group) is ∙ at_i))
                  | inr k ↦ rest.each m k at_i
                ];
                among = elim rest.among [ inl e ↦ inl (e ∙ same) | inr r ↦ inr (r.0, inr r.1, r.2, r.3) ];
              }
          | inl here ↦
              let new : get_or next i (pos 0) ≡ int_min (get_or high i (pos 0)) (at +ℤ n.most) = lowered_here n high i ii here unset in
              record {
                old_in = omega (arith, ints, clamps, new, rest.old_in);
                each = λ m j at_i. elim j [
                  | inl is ↦ omega (arith, ints, clamps, new, rest.old_in, ap (λ (z : Neighbour). z.most) is)
                  | inr k ↦ rest.each m k at_i
                ];
                among = elim rest.among [
                  | inr r ↦ inr (r.0, inr r.1, r.2, r.3)
                  | inl e ↦ elim (cases_min (get_or high i (pos 0)) (at +ℤ n.most)) [
                    | inl b ↦ inl (e ∙ new ∙ b)
                    | inr b ↦ inr (n, inl refl, here, e ∙ new ∙ b)
                  ]
                ];
              }
        ]

    pub lowered_elsewhere : (ns : List Neighbour) (high : List ℤ) (i : ℕ) → ((n : Neighbour) → Has ns n → n.group ≡ i → ⊥) → get_or (fold (lowered times at) high ns) i (pos 0) ≡ get_or high i (pos 0)
    lowered_elsewhere [] high i h = refl
    lowered_elsewhere (n ∷ ns) high i h = lowered_elsewhere ns (lowered times at high n) i (λ m j. h m (inr j)) ∙ lowered_other n high i (h n (inl refl))

    -- what is set stays
    pub lowered_set : (ns : List Neighbour) (high : List ℤ) (i : ℕ) (t : ℤ) → get_or times i None ≡ Some t → get_or (fold (lowered times at) high ns) i (pos 0) ≡ get_or high i (pos 0)
    lowered_set [] high i t h = refl
    lowered_set (n ∷ ns) high i t h = lowered_set ns (lowered times at high n) i t h ∙ elim (cases_eq n.group i) [
      | inr other ↦ lowered_other n high i other
      | inl here ↦ let test : get_or times n.group None ≡ Some t = ap (λ z. get_or times z None) here ∙ h in rw test refl
    ]

-- a negative edge of group i
abbrev pub leaves : ℕ → Neighbour → Bool
leaves i n = nat_eq n.group i && int_lt n.most (pos 0)

length_released : (n : Neighbour) (ws : List ℕ) → length (released ws n) ≡ length ws
length_released n ws = elim (cases_Bool (int_lt n.most (pos 0))) [
  | inl e ↦ rw e (length-set ws n.group _)
  | inr e ↦ rw e refl
]

pub length-released : (ns : List Neighbour) (ws : List ℕ) → length (fold released ws ns) ≡ length ws
length-released [] ws = refl
length-released (n ∷ ns) ws = length-released ns (released ws n) ∙ length_released n ws

-- a count at one more element
pub count_yes : {X : Type 0} (p : X → Bool) (x : X) (xs : List X) → p x ≡ true → count_by p (x ∷ xs) ≡ 1 + count_by p xs
count_yes p x xs h = sum_by-cons (λ z. cond (p z) 1 0) x xs ∙ rw h refl

pub count_no : {X : Type 0} (p : X → Bool) (x : X) (xs : List X) → p x ≡ false → count_by p (x ∷ xs) ≡ count_by p xs
count_no p x xs h = sum_by-cons (λ z. cond (p z) 1 0) x xs ∙ rw h (zero-add (count_by p xs))

-- each count falls by the negative edges of its group
pub releases : (ns : List Neighbour) (ws : List ℕ) (i : ℕ) → i < length ws → count_by (leaves i) ns ≤ get_or ws i 0 → get_or (fold released ws ns) i 0 + count_by (leaves i) ns ≡ get_or ws i 0
releases [] ws i ii h = omega arith
releases (n ∷ ns) ws i ii h =
    let next : List ℕ = released ws n in
    let long : length next ≡ length ws = length_released n ws in
    elim (cases_Bool (int_lt n.most (pos 0))) [
      | inr e ↦
          let none : leaves i n ≡ false = elim (cases_Bool (nat_eq n.group i)) [ inl f ↦ rw (f, e) refl | inr f ↦ rw f refl ] in
          let counted = count_no (leaves i) n ns none in
          let same : next ≡ ws = rw e refl in
          let rest = releases ns next i (omega (arith, ii)) (omega (arith, h, counted, ap (λ z. get_or z i 0) same)) in
          omega (arith, rest, counted, ap (λ z. get_or z i 0) same)
      | inl e ↦ elim (cases_eq n.group i) [
        | inr other ↦
            let none : leaves i n ≡ false = rw (ne_eqb n.group i other) refl in
            let counted = count_no (leaves i) n ns none in
            let same : get_or next i 0 ≡ get_or ws i 0 = rw e (get_or-set_other ws n.group i _ 0 (λ z. other (sym z))) in
            let rest = releases ns next i (omega (arith, ii)) (omega (arith, h, counted, same)) in
            omega (arith, rest, counted, same)
        | inl here ↦
            let one : leaves i n ≡ true = rw (eq-eqb n.group i here, e) refl in
            let counted = count_yes (leaves i) n ns one in
            let new : get_or next i 0 ≡ get_or ws i 0 - 1 = rw e (subst (λ z. get_or (set ws z (get_or ws z 0 - 1)) i 0 ≡ get_or ws i 0 - 1) (sym here) (get_or-set_same ws i _ 0 ii)) in
            let rest = releases ns next i (omega (arith, ii)) (omega (arith, h, counted, new)) in
            omega (arith, rest, counted, new, h)
      ]
    ]
