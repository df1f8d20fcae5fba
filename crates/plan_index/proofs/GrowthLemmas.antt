-- The tables of a plan with one more point.
use Rattle.std.proofs.Common.{◌≡◌, ◌≢◌, ◌⊎◌, ℕ, ◌+◌, ◌<◌, ◌≤◌, Bool, true, false, ◌||◌, nat_eq, List, [], ◌∷◌, ◌++◌, length, map, get_or, Some, refl, sym, ap, ◌∙◌, subst, arith, inl, inr, length-append, get_or-set_same, get_or-set_other}
use Rattle.std.proofs.lemmas.Bool.{cases_Bool, cases_lt, cases_eq, eq-eqb}
use Rattle.std.proofs.lemmas.Bool.Decides.{nat_tests}
use Rattle.std.proofs.lemmas.List.{length-map, map_push}
use Rattle.std.proofs.lemmas.Option.{slice_get_within}
use Rattle.std.specs.Prelude.{slice_get, slice_set}
use Rattle.hs_base.specs.declared.ids.PointId.{PointId}
use Rattle.hs_base.specs.declared.mission.Kind.{Kind}
use Rattle.hs_base.specs.declared.plan.Time.{Time}
use Rattle.hs_base.specs.Points.{Point, horizon, ending, timeline_of, ref_after}
use Rattle.base_laws.proofs.ListLemmas.{slice_get-append_left, slice_get-middle}
use Rattle.base_laws.proofs.PointLemmas.{timeline_own, timeline_other}
use Rattle.plan_index.specs.declared.placed.PlacedToken.{PlacedToken}
use Rattle.plan_index.specs.Contents.{end_of}
use Rattle.plan_index.specs.Lines.{kind_in, AreLines}
use Rattle.plan_index.specs.Named.{has_time, AreMarks, AreFlags}

-- what stands at a place also stands there where the list grows
pub still_there : {X : Type 0} (xs ys : List X) (i : ℕ) (x : X) → slice_get xs i ≡ Some x → slice_get (xs ++ ys) i ≡ Some x
still_there xs ys i x at = slice_get-append_left xs ys i (slice_get_within xs i x at) ∙ at

-- what stands in a list with one more: what stood there, or the new one at the end
pub one_more : {X : Type 0} (xs : List X) (y : X) (i : ℕ) (x : X) → slice_get (xs ++ y ∷ []) i ≡ Some x → (slice_get xs i ≡ Some x) ⊎ ((i ≡ length xs) × (y ≡ x))
one_more xs y i x at = elim (cases_lt i (length xs)) [
  | inl old ↦ inl (sym (slice_get-append_left xs (y ∷ []) i old) ∙ at)
  | inr behind ↦
      let within = slice_get_within (xs ++ y ∷ []) i x at in
      let last : i ≡ length xs = omega (arith, behind, within, length-append xs (y ∷ [])) in
      let found : Some y ≡ Some x = sym (slice_get-middle xs y []) ∙ ap (slice_get (xs ++ y ∷ [])) (sym last) ∙ at in
      let same : y ≡ x = cc in
      inr (last, same)
]

-- more points leave the rows and the horizons theirs
pub lines_more : (tokens : List Kind) (points more : List Point) (row : ℕ → List PlacedToken) → AreLines tokens points row → AreLines tokens (points ++ more) row
lines_more tokens points more row h = record { kinds = h.kinds; ends = λ v i p at. still_there points more p.end.0 (ending v i) (h.ends v i p at) }

pub marks_more : (points more : List Point) (horizons : List PointId) → AreMarks points horizons → AreMarks (points ++ more) horizons
marks_more points more horizons h = λ k x at. still_there points more x.0 (horizon (k + 1)) (h k x at)

-- one more horizon
pub marks_push : (points : List Point) (horizons : List PointId) (x : PointId) → x.0 ≡ length points → AreMarks points horizons → AreMarks (points ++ horizon (length horizons + 1) ∷ []) (horizons ++ x ∷ [])
marks_push points horizons x last h = λ k y at. elim (one_more horizons x k y at) [
  | inl old ↦ marks_more points (horizon (length horizons + 1) ∷ []) horizons h k y old
  | inr new ↦
      ap (slice_get (points ++ horizon (length horizons + 1) ∷ [])) (ap (λ (z : PointId). z.0) (sym new.1) ∙ last)
      ∙ slice_get-middle points (horizon (length horizons + 1)) []
      ∙ ap (λ (j : ℕ). Some (horizon (j + 1))) (sym new.0)
]

-- one more token
module _ (tokens : List Kind) (points : List Point) (row to : ℕ → List PlacedToken) (t : Kind) (p : PlacedToken) (value : p.value ≡ t.value) (last : p.end.0 ≡ length points) (own : to t.sv.0 ≡ row t.sv.0 ++ p ∷ []) (others : (v : ℕ) → v ≢ t.sv.0 → to v ≡ row v) (h : AreLines tokens points row) where
  abbrev pub new : Point
  new = end_of (ref_after tokens t)

  not_same : (v : ℕ) → v ≢ t.sv.0 → nat_eq t.sv.0 v ≡ false
  not_same v apart = grind (arith, nat_tests)

  many : length (row t.sv.0) ≡ length (timeline_of tokens t.sv.0)
  many = sym (length-map (row t.sv.0) (kind_in t.sv.0)) ∙ ap length (h.kinds t.sv.0)

  kind_is : kind_in t.sv.0 p ≡ t
  kind_is = ap (λ x. record { sv = t.sv; value = x }) value

  own_kinds : map (kind_in t.sv.0) (to t.sv.0) ≡ timeline_of (tokens ++ t ∷ []) t.sv.0
  own_kinds =
      ap (map (kind_in t.sv.0)) own ∙ map_push (kind_in t.sv.0) (row t.sv.0) p
      ∙ ap (λ l. l ++ kind_in t.sv.0 p ∷ []) (h.kinds t.sv.0)
      ∙ ap (λ k. timeline_of tokens t.sv.0 ++ k ∷ []) kind_is
      ∙ sym (timeline_own tokens t)

  own_ends : (i : ℕ) (q : PlacedToken) → slice_get (to t.sv.0) i ≡ Some q → slice_get (points ++ new ∷ []) q.end.0 ≡ Some (ending t.sv.0 i)
  own_ends i q at = elim (one_more (row t.sv.0) p i q (ap (λ l. slice_get l i) (sym own) ∙ at)) [
    | inl old ↦ still_there points (new ∷ []) q.end.0 (ending t.sv.0 i) (h.ends t.sv.0 i q old)
    | inr fresh ↦
        ap (slice_get (points ++ new ∷ [])) (ap (λ (x : PlacedToken). x.end.0) (sym fresh.1) ∙ last)
        ∙ slice_get-middle points new []
        ∙ ap (λ (j : ℕ). Some (ending t.sv.0 j)) (sym (fresh.0 ∙ many))
  ]

  pub lines_token : AreLines (tokens ++ t ∷ []) (points ++ new ∷ []) to
  lines_token = record {
    kinds = λ v. elim (cases_eq v t.sv.0) [
      | inl same ↦ subst (λ (w : ℕ). map (kind_in w) (to w) ≡ timeline_of (tokens ++ t ∷ []) w) (sym same) own_kinds
      | inr apart ↦ ap (map (kind_in v)) (others v apart) ∙ h.kinds v ∙ sym (timeline_other tokens t v (not_same v apart))
    ];
    ends = λ v i q at. elim (cases_eq v t.sv.0) [
      | inl same ↦
          let here : slice_get (to t.sv.0) i ≡ Some q = ap (λ w. slice_get (to w) i) (sym same) ∙ at in
          subst (λ (w : ℕ). slice_get (points ++ new ∷ []) q.end.0 ≡ Some (ending w i)) (sym same) (own_ends i q here)
      | inr apart ↦ still_there points (new ∷ []) q.end.0 (ending v i) (h.ends v i q (ap (λ l. slice_get l i) (sym (others v apart)) ∙ at))
    ];
  }

-- whether a point has one of the times, with one more
pub has_time-push : (fixed : List Time) (t : Time) (x : ℕ) → has_time (fixed ++ t ∷ []) x ≡ (has_time fixed x || nat_eq t.point.0 x)
has_time-push [] t x = elim (nat_eq t.point.0 x) as (λ b. (b || false) ≡ (false || b)) [ true ↦ refl | false ↦ refl ]
has_time-push (u ∷ us) t x = ap (λ b. nat_eq u.point.0 x || b) (has_time-push us t x) ∙ assoc (nat_eq u.point.0 x) (has_time us x) (nat_eq t.point.0 x)
  where
    assoc : (a b c : Bool) → (a || (b || c)) ≡ ((a || b) || c)
    assoc true b c = refl
    assoc false b c = refl

-- one more time
pub flags_push : (fixed : List Time) (flags : List Bool) (t : Time) → t.point.0 < length flags → AreFlags fixed flags → AreFlags (fixed ++ t ∷ []) (slice_set flags t.point.0 true)
flags_push fixed flags t below h = λ x. elim (cases_eq x t.point.0) [
  | inl here ↦
      let set : get_or (slice_set flags t.point.0 true) x false ≡ true = ap (λ y. get_or (slice_set flags t.point.0 true) y false) here ∙ get_or-set_same flags t.point.0 true false below in
      let is : nat_eq t.point.0 x ≡ true = eq-eqb t.point.0 x (sym here) in
      set ∙ sym (has_time-push fixed t x ∙ ap (λ b. has_time fixed x || b) is ∙ always (has_time fixed x))
  | inr apart ↦
      let not : nat_eq t.point.0 x ≡ false = grind (arith, nat_tests) in
      get_or-set_other flags t.point.0 x true false apart ∙ h x ∙ sym (has_time-push fixed t x ∙ ap (λ b. has_time fixed x || b) not ∙ never (has_time fixed x))
]
  where
    always : (b : Bool) → (b || true) ≡ true
    always true = refl
    always false = refl

    never : (b : Bool) → (b || false) ≡ b
    never true = refl
    never false = refl

-- a timeline has no more tokens than there are
timeline_few : (ts : List Kind) (v : ℕ) → length (timeline_of ts v) ≤ length ts
timeline_few [] v = omega arith
timeline_few (t ∷ ts) v = elim (cases_Bool (nat_eq t.sv.0 v)) [ inl here ↦ rw here (omega (arith, timeline_few ts v)) | inr apart ↦ rw apart (omega (arith, timeline_few ts v)) ]

-- as many tokens are on a row as on its timeline
pub row_many : (tokens : List Kind) (points : List Point) (row : ℕ → List PlacedToken) (v : ℕ) → AreLines tokens points row → length (row v) ≡ length (timeline_of tokens v)
row_many tokens points row v h = sym (length-map (row v) (kind_in v)) ∙ ap length (h.kinds v)

pub row_few : (tokens : List Kind) (points : List Point) (row : ℕ → List PlacedToken) (v : ℕ) → AreLines tokens points row → length (row v) ≤ length tokens
row_few tokens points row v h = omega (arith, row_many tokens points row v h, timeline_few tokens v)
