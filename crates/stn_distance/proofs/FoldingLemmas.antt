-- Folded bounds have the schedules of the bounds.
use Rattle.std.proofs.Common.{◌≡◌, ℕ, ◌+◌, ◌<◌, cond, List, [], ◌∷◌, ◌++◌, length, take, map, Contains, ℤ, pos, refl, sym, ap, ◌∙◌, subst, arith, inl, inr}
use Rattle.std.proofs.lemmas.List.{take_more, map_push, get_or_push, get_or_append_left, length_push}
use Rattle.std.proofs.lemmas.List.Elements.{filter-append}
use Rattle.std.proofs.lemmas.Bool.{cases_eq}
use Rattle.hs_base.specs.declared.net.Bound.{Bound}
use Rattle.hs_base.specs.declared.plan.Time.{Time}
use Rattle.hs_base.specs.Schedule.{time_of}
use Rattle.stn_distance.specs.Causes.{bound_at, no_bound}
use Rattle.stn_distance.specs.Folding.{number_at, IsFolding, is_apart, folded_bound, folded_bounds}

-- ---- One more point

pub IsFolding-origin : (fixed : List Time) → IsFolding 1 fixed (0 ∷ []) (0 ∷ []) (pos 0 ∷ [])
IsFolding-origin fixed = record {
  places_len = refl;
  offsets_len = refl;
  some = omega arith;
  few = omega arith;
  origin = refl;
  below = λ r l. let e : r ≡ 0 = omega arith in rw e (omega arith);
  place_in = λ p l. let e : p ≡ 0 = omega arith in rw e (omega arith);
  home = λ r l. let e : r ≡ 0 = omega arith in rw e refl;
  at_home = λ r l. let e : r ≡ 0 = omega arith in rw e refl;
  each = λ p l. let e : p ≡ 0 = omega arith in inl (rw e (refl, refl));
}

-- the next point is a row of its own
pub IsFolding-row : (n : ℕ) (fixed : List Time) (points places : List ℕ) (offsets : List ℤ) → IsFolding n fixed points places offsets
    → IsFolding (n + 1) fixed (points ++ n ∷ []) (places ++ length points ∷ []) (offsets ++ pos 0 ∷ [])
IsFolding-row n fixed points places offsets h =
    let len = h.places_len in let olen = h.offsets_len in let few = h.few in let some = h.some in
    let rows = length points in
    let points' = points ++ n ∷ [] in let places' = places ++ rows ∷ [] in let offsets' = offsets ++ pos 0 ∷ [] in
    let more = length_push points n in
    let old_point : (r : ℕ) → r < rows → number_at points' r ≡ number_at points r = λ r l. get_or_append_left points (n ∷ []) 0 r l in
    let new_point : number_at points' rows ≡ n = get_or_push points n 0 rows refl in
    let old_place : (p : ℕ) → p < n → number_at places' p ≡ number_at places p = λ p l. get_or_append_left places (rows ∷ []) 0 p (omega arith) in
    let new_place : number_at places' n ≡ rows = get_or_push places rows 0 n len in
    let old_offset : (p : ℕ) → p < n → time_of offsets' p ≡ time_of offsets p = λ p l. get_or_append_left offsets (pos 0 ∷ []) (pos 0) p (omega arith) in
    let new_offset : time_of offsets' n ≡ pos 0 = get_or_push offsets (pos 0) (pos 0) n olen in
    record {
      places_len = omega (arith, length_push places rows);
      offsets_len = omega (arith, length_push offsets (pos 0));
      some = omega arith;
      few = omega arith;
      origin = old_point 0 some ∙ h.origin;
      below = λ r l. elim (cases_eq r rows) [
        | inl e ↦ let new = ap (number_at points') e in omega arith
        | inr d ↦ let old = old_point r (omega arith) in let b = h.below r (omega arith) in omega arith
      ];
      place_in = λ p l. elim (cases_eq p n) [
        | inl e ↦ let new = ap (number_at places') e in omega arith
        | inr d ↦ let old = old_place p (omega arith) in let b = h.place_in p (omega arith) in omega arith
      ];
      home = λ r l. elim (cases_eq r rows) [
        | inl e ↦ ap (λ (x : ℕ). number_at places' (number_at points' x)) e ∙ ap (number_at places') new_point ∙ new_place ∙ sym e
        | inr d ↦ ap (number_at places') (old_point r (omega arith)) ∙ old_place (number_at points r) (h.below r (omega arith)) ∙ h.home r (omega arith)
      ];
      at_home = λ r l. elim (cases_eq r rows) [
        | inl e ↦ ap (λ (x : ℕ). time_of offsets' (number_at points' x)) e ∙ ap (time_of offsets') new_point ∙ new_offset
        | inr d ↦ ap (time_of offsets') (old_point r (omega arith)) ∙ old_offset (number_at points r) (h.below r (omega arith)) ∙ h.at_home r (omega arith)
      ];
      each = λ p l. elim (cases_eq p n) [
        | inl e ↦ inl (ap (λ (x : ℕ). number_at points' (number_at places' x)) e ∙ ap (number_at points') new_place ∙ new_point ∙ sym e, ap (time_of offsets') e ∙ new_offset)
        | inr d ↦ let lp : p < n = omega arith in
            elim (h.each p lp) [
              | inl own ↦ inl (ap (number_at points') (old_place p lp) ∙ old_point (number_at places p) (h.place_in p lp) ∙ own.0, old_offset p lp ∙ own.1)
              | inr set ↦ inr (old_place p lp ∙ set.0, subst (λ (z : ℤ). Contains fixed (record { point = record { 0 = p }; at = z })) (sym (old_offset p lp)) set.1)
            ]
      ];
    }

same_time : (f : Time) (p : ℕ) (z : ℤ) → f.point.0 ≡ p → f.at ≡ z → f ≡ record { point = record { 0 = p }; at = z }
same_time f p z e g = rw (sym e, sym g) refl

-- the next point stands at row 0, at a fixed time
pub IsFolding-fixed : (n : ℕ) (fixed : List Time) (points places : List ℕ) (offsets : List ℤ) (f : Time) → IsFolding n fixed points places offsets
    → Contains fixed f → f.point.0 ≡ n → IsFolding (n + 1) fixed points (places ++ 0 ∷ []) (offsets ++ f.at ∷ [])
IsFolding-fixed n fixed points places offsets f h has at =
    let len = h.places_len in let olen = h.offsets_len in let few = h.few in let some = h.some in
    let places' = places ++ 0 ∷ [] in let offsets' = offsets ++ f.at ∷ [] in
    let old_place : (p : ℕ) → p < n → number_at places' p ≡ number_at places p = λ p l. get_or_append_left places (0 ∷ []) 0 p (omega arith) in
    let new_place : number_at places' n ≡ 0 = get_or_push places 0 0 n len in
    let old_offset : (p : ℕ) → p < n → time_of offsets' p ≡ time_of offsets p = λ p l. get_or_append_left offsets (f.at ∷ []) (pos 0) p (omega arith) in
    let new_offset : time_of offsets' n ≡ f.at = get_or_push offsets f.at (pos 0) n olen in
    record {
      places_len = omega (arith, length_push places 0);
      offsets_len = omega (arith, length_push offsets f.at);
      some = some;
      few = omega arith;
      origin = h.origin;
      below = λ r l. let b = h.below r l in omega arith;
      place_in = λ p l. elim (cases_eq p n) [
        | inl e ↦ let new = ap (number_at places') e in omega arith
        | inr d ↦ let old = old_place p (omega arith) in let b = h.place_in p (omega arith) in omega arith
      ];
      home = λ r l. old_place (number_at points r) (h.below r l) ∙ h.home r l;
      at_home = λ r l. old_offset (number_at points r) (h.below r l) ∙ h.at_home r l;
      each = λ p l. elim (cases_eq p n) [
        | inl e ↦ inr (
          ap (number_at places') e ∙ new_place,
          subst (Contains fixed) (same_time f p (time_of offsets' p) (at ∙ sym e) (sym (ap (time_of offsets') e ∙ new_offset))) has,
        )
        | inr d ↦ let lp : p < n = omega arith in
            elim (h.each p lp) [
              | inl own ↦ inl (ap (number_at points) (old_place p lp) ∙ own.0, old_offset p lp ∙ own.1)
              | inr set ↦ inr (old_place p lp ∙ set.0, subst (λ (z : ℤ). Contains fixed (record { point = record { 0 = p }; at = z })) (sym (old_offset p lp)) set.1)
            ]
      ];
    }

-- ---- One more bound

-- a bound and its fold between different rows, or none
pub folded_bounds-more : (places : List ℕ) (offsets : List ℤ) (bounds : List Bound) (i : ℕ) → i < length bounds
    → folded_bounds places offsets (take (i + 1) bounds)
    ≡ folded_bounds places offsets (take i bounds) ++ cond (is_apart (folded_bound places offsets (bound_at bounds i))) (folded_bound places offsets (bound_at bounds i) ∷ []) []
folded_bounds-more places offsets bounds i l =
    rw (take_more bounds i no_bound l) (rw map_push (filter-append is_apart (map (folded_bound places offsets) (take i bounds)) (folded_bound places offsets (bound_at bounds i) ∷ [])))
