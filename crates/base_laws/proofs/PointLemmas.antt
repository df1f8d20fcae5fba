-- The points of a plan have names of their own, and keep their numbers.
use Rattle.std.proofs.Common.{◌≡◌, ℕ, zero, suc, ◌+◌, ◌<◌, ◌≤◌, true, false, nat_eq, List, [], ◌∷◌, ◌++◌, length, map, take, Some, refl, sym, ap, ◌∙◌, subst, arith, append_assoc, append-nil, inl, inr, length-append}
use Rattle.std.proofs.lemmas.Grind.{common_steps, flat_map-append}
use Rattle.std.proofs.lemmas.Bool.{cases_Bool, cases_lt, cases_eq, eqb-true, eq-eqb}
use Rattle.std.proofs.lemmas.Bool.Decides.{nat_tests}
use Rattle.std.proofs.lemmas.List.{map_push}
use Rattle.std.proofs.lemmas.List.Elements.{filter-append, filter_passes, recursion_from_All}
use Rattle.std.proofs.lemmas.Option.{slice_get_within, slice_get-map}
use Rattle.std.specs.Prelude.{slice_get, option_map}
use Rattle.hs_base.specs.declared.mission.Kind.{Kind}
use Rattle.hs_base.specs.declared.plan.TokenRef.{TokenRef}
use Rattle.hs_base.specs.declared.plan.Extension.{Extension}
use Rattle.hs_base.specs.Walks.{join_after}
use Rattle.hs_base.specs.Points.{Point, origin, horizon, ending, same_point, tokens_of, timeline_of, ref_after, refs_after, new_points, points_of, count, place_of, start_at, hor}
use Rattle.base_laws.proofs.ListLemmas.{front_induction, join_after-push, join_after-append, join_after-at, each_at, slice_get-append_left, slice_get-append_right, slice_get-middle}

pub same_point_refl : (p : Point) → same_point p p ≡ true
same_point_refl origin = refl
same_point_refl (horizon k) = eq-eqb k k refl
same_point_refl (ending v i) = grind (arith, common_steps, eq-eqb v v refl, eq-eqb i i refl)

-- the first place of a point is in the list, or the list's length
pub place_at_most : (p : Point) (xs : List Point) → place_of p xs ≤ length xs
place_at_most p [] = omega arith
place_at_most p (x ∷ xs) = elim (cases_Bool (same_point p x)) [ inl here ↦ rw here (omega arith) | inr here ↦ rw here (omega (arith, place_at_most p xs)) ]

-- a point that stands somewhere has a place
pub place_within : (p : Point) (xs : List Point) (j : ℕ) → slice_get xs j ≡ Some p → place_of p xs < length xs
place_within p [] j is = absurd (cc)
place_within p (x ∷ xs) zero is =
    let same : x ≡ p = cc in
    rw (← same, same_point_refl x) (omega arith)
place_within p (x ∷ xs) (suc j) is =
    elim (cases_Bool (same_point p x)) [ inl here ↦ rw here (omega arith) | inr here ↦ rw here (omega (arith, place_within p xs j is)) ]

-- a place is kept where the list grows
pub place_kept : (p : Point) (xs ys : List Point) → place_of p xs < length xs → place_of p (xs ++ ys) ≡ place_of p xs
place_kept p [] ys h = absurd (omega arith)
place_kept p (x ∷ xs) ys h = elim (cases_Bool (same_point p x)) [
  | inl here ↦ rw here refl
  | inr here ↦
      let inside : suc (place_of p xs) < suc (length xs) = rw here at h in
      rw here (ap suc (place_kept p xs ys (omega arith)))
]

-- the place of a point that the first list doesn't have
pub place_after : (p : Point) (xs ys : List Point) → place_of p xs ≡ length xs → place_of p (xs ++ ys) ≡ length xs + place_of p ys
place_after p [] ys h = omega arith
place_after p (x ∷ xs) ys h = elim (cases_Bool (same_point p x)) [
  | inl here ↦ absurd (let none : 0 ≡ suc (length xs) = rw here at h in omega arith)
  | inr here ↦
      let inside : suc (place_of p xs) ≡ suc (length xs) = rw here at h in
      rw here (omega (arith, place_after p xs ys (omega arith)))
]

-- one more point: it stands at the end where it is new
pub place_new : (p : Point) (xs : List Point) → place_of p xs ≡ length xs → place_of p (xs ++ p ∷ []) ≡ length xs
place_new p xs fresh =
    let last : place_of p (p ∷ []) ≡ 0 = rw (same_point_refl p) refl in
    omega (arith, place_after p xs (p ∷ []) fresh)

-- and another point that the list doesn't have still isn't there
pub place_other : (p q : Point) (xs : List Point) → same_point p q ≡ false → place_of p xs ≡ length xs → place_of p (xs ++ q ∷ []) ≡ length (xs ++ q ∷ [])
place_other p q xs apart fresh =
    let one : place_of p (q ∷ []) ≡ 1 = rw apart refl in
    omega (arith, place_after p xs (q ∷ []) fresh, length-append xs (q ∷ []))

-- one more point leaves the others in the list
pub place_still : (p q : Point) (xs : List Point) → place_of p xs < length xs → place_of p (xs ++ q ∷ []) < length (xs ++ q ∷ [])
place_still p q xs there = omega (arith, place_kept p xs (q ∷ []) there, length-append xs (q ∷ []))

-- each point stands once, also with one more that is new
pub once_push : (xs : List Point) (q : Point) → place_of q xs ≡ length xs → ((x : ℕ) (p : Point) → slice_get xs x ≡ Some p → place_of p xs ≡ x) → (x : ℕ) (p : Point) → slice_get (xs ++ q ∷ []) x ≡ Some p → place_of p (xs ++ q ∷ []) ≡ x
once_push xs q fresh once x p is = elim (cases_lt x (length xs)) [
  | inl inside ↦
      let old : slice_get xs x ≡ Some p = sym (slice_get-append_left xs (q ∷ []) x inside) ∙ is in
      place_kept p xs (q ∷ []) (place_within p xs x old) ∙ once x p old
  | inr behind ↦
      let within = slice_get_within (xs ++ q ∷ []) x p is in
      let last : x ≡ length xs = omega (arith, within, length-append xs (q ∷ [])) in
      let found : Some q ≡ Some p = sym (slice_get-middle xs q []) ∙ ap (slice_get (xs ++ q ∷ [])) (sym last) ∙ is in
      let same : q ≡ p = cc in
      subst (λ r. place_of r (xs ++ q ∷ []) ≡ x) same (place_new q xs fresh ∙ sym last)
]

-- the timeline of a variable, with more tokens
pub timeline-append : (ts us : List Kind) (v : ℕ) → timeline_of (ts ++ us) v ≡ timeline_of ts v ++ timeline_of us v
timeline-append ts us v = filter-append (λ k. nat_eq k.sv.0 v) ts us

-- with one more of its own
pub length-timeline_own : (ts : List Kind) (k : Kind) → length (timeline_of (ts ++ k ∷ []) k.sv.0) ≡ length (timeline_of ts k.sv.0) + 1
length-timeline_own ts k =
    let one : length (timeline_of (k ∷ []) k.sv.0) ≡ 1 = rw (eq-eqb k.sv.0 k.sv.0 refl) refl in
    omega (arith, ap length (timeline-append ts (k ∷ []) k.sv.0), length-append (timeline_of ts k.sv.0) (timeline_of (k ∷ []) k.sv.0))

-- with one more of another
pub timeline_other : (ts : List Kind) (k : Kind) (v : ℕ) → nat_eq k.sv.0 v ≡ false → timeline_of (ts ++ k ∷ []) v ≡ timeline_of ts v
timeline_other ts k v apart = timeline-append ts (k ∷ []) v ∙ (rw apart (append-nil (timeline_of ts v)))

-- the tokens of a timeline are of its variable
pub of_variable : (ts : List Kind) (v i : ℕ) (k : Kind) → slice_get (timeline_of ts v) i ≡ Some k → k.sv.0 ≡ v
of_variable ts v i k at = eqb-true _ _ (each_at (λ (x : Kind). nat_eq x.sv.0 v ≡ true) (timeline_of ts v) i k (recursion_from_All (λ (x : Kind). nat_eq x.sv.0 v ≡ true) (timeline_of ts v) (filter_passes (λ (x : Kind). nat_eq x.sv.0 v) ts)) at)

-- the name of a token's end
abbrev pub end_point : TokenRef → Point
end_point t = ending t.sv.0 t.place

-- the names of the ends of new tokens
abbrev pub end_points : List Kind → List Kind → List Point
end_points before new = map end_point (refs_after before new)

pub end_points-push : (before new : List Kind) (k : Kind) → end_points before (new ++ k ∷ []) ≡ end_points before new ++ end_point (ref_after (before ++ new) k) ∷ []
end_points-push before new k = ap (map end_point) (join_after-push (λ b k. ref_after b k ∷ []) before new k) ∙ map_push end_point (refs_after before new) (ref_after (before ++ new) k)

-- the points of tokens and of k horizons: each is there, and no others
pub record AreNamed (tokens : List Kind) (k : ℕ) (names : List Point) : Type 0 where
  pub ends_there : (v i : ℕ) → i < length (timeline_of tokens v) → place_of (ending v i) names < length names
  pub ends_new : (v i : ℕ) → length (timeline_of tokens v) ≤ i → place_of (ending v i) names ≡ length names
  pub marks_there : (j : ℕ) → 0 < j → j ≤ k → place_of (horizon j) names < length names
  pub marks_new : (j : ℕ) → k < j → place_of (horizon j) names ≡ length names
  pub once : (x : ℕ) (p : Point) → slice_get names x ≡ Some p → place_of p names ≡ x

named_first : AreNamed [] 0 (origin ∷ [])
named_first = record {
  ends_there = λ v i below. absurd (omega arith);
  ends_new = λ v i below. refl;
  marks_there = λ j some below. absurd (omega arith);
  marks_new = λ j below. refl;
  once = first_once;
}
  where
    first_once : (x : ℕ) (p : Point) → slice_get (origin ∷ []) x ≡ Some p → place_of p (origin ∷ []) ≡ x
    first_once zero p is = let same : origin ≡ p = cc in rw (← same) refl
    first_once (suc x) p is = absurd (cc)

-- one more horizon
pub named_horizon : (tokens : List Kind) (k : ℕ) (names : List Point) → AreNamed tokens k names → AreNamed tokens (k + 1) (names ++ horizon (k + 1) ∷ [])
named_horizon tokens k names h = record {
  ends_there = λ v i below. place_still (ending v i) (horizon (k + 1)) names (h.ends_there v i below);
  ends_new = λ v i below. place_other (ending v i) (horizon (k + 1)) names refl (h.ends_new v i below);
  marks_there = λ j some below. elim (cases_eq j (k + 1)) [
    | inl same ↦
        let new = place_new (horizon (k + 1)) names (h.marks_new (k + 1) (omega arith)) in
        rw same (omega (arith, new, length-append names (horizon (k + 1) ∷ [])))
    | inr apart ↦ place_still (horizon j) (horizon (k + 1)) names (h.marks_there j some (omega arith))
  ];
  marks_new = λ j below. place_other (horizon j) (horizon (k + 1)) names (grind (arith, nat_tests)) (h.marks_new j (omega arith));
  once = once_push names (horizon (k + 1)) (h.marks_new (k + 1) (omega arith)) h.once;
}

-- one more token
pub named_token : (tokens : List Kind) (k : ℕ) (names : List Point) (t : Kind) → AreNamed tokens k names → AreNamed (tokens ++ t ∷ []) k (names ++ end_point (ref_after tokens t) ∷ [])
named_token tokens k names t h = record {
  ends_there = λ v i below. elim (cases_lt i (length (timeline_of tokens v))) [
    | inl old ↦ place_still (ending v i) (end_point (ref_after tokens t)) names (h.ends_there v i old)
    | inr new ↦ elim (cases_Bool (nat_eq t.sv.0 v)) [
      | inl same ↦
          let is : t.sv.0 ≡ v = eqb-true _ _ same in
          let own : length (timeline_of (tokens ++ t ∷ []) v) ≡ length (timeline_of tokens v) + 1 = subst (λ (w : ℕ). length (timeline_of (tokens ++ t ∷ []) w) ≡ length (timeline_of tokens w) + 1) is (length-timeline_own tokens t) in
          let place : i ≡ length (timeline_of tokens v) = omega arith in
          let name : end_point (ref_after tokens t) ≡ ending v i = ap (λ (w : ℕ). ending w (length (timeline_of tokens w))) is ∙ ap (ending v) (sym place) in
          let last = place_new (ending v i) names (h.ends_new v i new) in
          rw name (omega (arith, last, length-append names (ending v i ∷ [])))
      | inr apart ↦ absurd (omega (arith, ap length (timeline_other tokens t v apart)))
    ]
  ];
  ends_new = λ v i below.
      let older : length (timeline_of tokens v) ≤ i = omega (arith, ap length (timeline-append tokens (t ∷ []) v), length-append (timeline_of tokens v) (timeline_of (t ∷ []) v)) in
      place_other (ending v i) (end_point (ref_after tokens t)) names (other v i below) (h.ends_new v i older);
  marks_there = λ j some below. place_still (horizon j) (end_point (ref_after tokens t)) names (h.marks_there j some below);
  marks_new = λ j below. place_other (horizon j) (end_point (ref_after tokens t)) names refl (h.marks_new j below);
  once = once_push names (end_point (ref_after tokens t)) (h.ends_new t.sv.0 (length (timeline_of tokens t.sv.0)) (omega arith)) h.once;
}
  where
    other : (v i : ℕ) → length (timeline_of (tokens ++ t ∷ []) v) ≤ i → same_point (ending v i) (end_point (ref_after tokens t)) ≡ false
    other v i below = elim (cases_eq v t.sv.0) [
      | inl same ↦
          let own : length (timeline_of (tokens ++ t ∷ []) v) ≡ length (timeline_of tokens v) + 1 = subst (λ (w : ℕ). length (timeline_of (tokens ++ t ∷ []) w) ≡ length (timeline_of tokens w) + 1) (sym same) (length-timeline_own tokens t) in
          let place : length (timeline_of tokens v) ≡ length (timeline_of tokens t.sv.0) = ap (λ (w : ℕ). length (timeline_of tokens w)) same in
          grind (arith, nat_tests, common_steps)
      | inr apart ↦ grind (arith, nat_tests, common_steps)
    ]

-- a list of new tokens
pub named_tokens : (tokens : List Kind) (k : ℕ) (names : List Point) (new : List Kind) → AreNamed tokens k names → AreNamed (tokens ++ new) k (names ++ end_points tokens new)
named_tokens tokens k names new h = front_induction (λ (l : List Kind). AreNamed (tokens ++ l) k (names ++ end_points tokens l)) (rw (append-nil, append-nil) h) step new
  where
    step : (l : List Kind) (t : Kind) → AreNamed (tokens ++ l) k (names ++ end_points tokens l) → AreNamed (tokens ++ (l ++ t ∷ [])) k (names ++ end_points tokens (l ++ t ∷ []))
    step l t p =
        let more : names ++ end_points tokens (l ++ t ∷ []) ≡ (names ++ end_points tokens l) ++ end_point (ref_after (tokens ++ l) t) ∷ [] = ap (λ x. names ++ x) (end_points-push tokens l t) ∙ sym (append_assoc names (end_points tokens l) _) in
        subst (λ (x : List Point). AreNamed (tokens ++ (l ++ t ∷ [])) k x) (sym more) (subst (λ (x : List Kind). AreNamed x k ((names ++ end_points tokens l) ++ end_point (ref_after (tokens ++ l) t) ∷ [])) (append_assoc tokens l (t ∷ [])) (named_token (tokens ++ l) k (names ++ end_points tokens l) t p))

pub tokens-push : (before : List Extension) (e : Extension) → tokens_of (before ++ e ∷ []) ≡ tokens_of before ++ e.tokens
tokens-push before e = flat_map-append (λ (x : Extension). x.tokens) before (e ∷ []) ∙ ap (λ l. tokens_of before ++ l) (append-nil e.tokens)

pub points-push : (before : List Extension) (e : Extension) → points_of (before ++ e ∷ []) ≡ points_of before ++ new_points before e
points-push before e = ap (λ l. origin ∷ l) (join_after-push new_points [] before e)

-- the points of the plan with one more extension: its horizon, then its tokens
pub points_parts : (before : List Extension) (e : Extension) → points_of (before ++ e ∷ []) ≡ (points_of before ++ horizon (length before + 1) ∷ []) ++ end_points (tokens_of before) e.tokens
points_parts before e = points-push before e ∙ sym (append_assoc (points_of before) (horizon (length before + 1) ∷ []) (end_points (tokens_of before) e.tokens))

named_extension : (before : List Extension) (e : Extension) → AreNamed (tokens_of before) (length before) (points_of before) → AreNamed (tokens_of (before ++ e ∷ [])) (length (before ++ e ∷ [])) (points_of (before ++ e ∷ []))
named_extension before e h =
    subst (λ (x : List Point). AreNamed (tokens_of (before ++ e ∷ [])) (length (before ++ e ∷ [])) x) (sym (points_parts before e))
    (subst (λ (x : ℕ). AreNamed (tokens_of (before ++ e ∷ [])) x ((points_of before ++ horizon (length before + 1) ∷ []) ++ end_points (tokens_of before) e.tokens)) (sym (length-append before (e ∷ [])))
    (subst (λ (x : List Kind). AreNamed x (length before + 1) ((points_of before ++ horizon (length before + 1) ∷ []) ++ end_points (tokens_of before) e.tokens)) (sym (tokens-push before e))
    (named_tokens (tokens_of before) (length before + 1) (points_of before ++ horizon (length before + 1) ∷ []) e.tokens (named_horizon (tokens_of before) (length before) (points_of before) h))))

-- the points of a plan are those of its horizons and tokens, each once
pub named : (es : List Extension) → AreNamed (tokens_of es) (length es) (points_of es)
named es = front_induction (λ es. AreNamed (tokens_of es) (length es) (points_of es)) named_first named_extension es

pub length-ends : (before new : List Kind) → length (end_points before new) ≡ length new
length-ends before new = front_induction (λ l. length (end_points before l) ≡ length l) refl (λ l t is. ap length (end_points-push before l t) ∙ omega (arith, is, length-append (end_points before l) (end_point (ref_after (before ++ l) t) ∷ []), length-append l (t ∷ []))) new

-- one more extension has a horizon point and the ends of its tokens
pub count-push : (before : List Extension) (e : Extension) → count (before ++ e ∷ []) ≡ count before + 1 + length e.tokens
count-push before e = ap length (points_parts before e) ∙ omega (arith, length-append (points_of before ++ horizon (length before + 1) ∷ []) (end_points (tokens_of before) e.tokens), length-append (points_of before) (horizon (length before + 1) ∷ []), length-ends (tokens_of before) e.tokens)

-- Z, a point for each extension, and one for each token
pub count_is : (es : List Extension) → count es ≡ 1 + length es + length (tokens_of es)
count_is es = front_induction (λ es. count es ≡ 1 + length es + length (tokens_of es)) refl (λ before e is. count-push before e ∙ omega (arith, is, length-append before (e ∷ []), ap length (tokens-push before e), length-append (tokens_of before) e.tokens)) es

-- a token's end keeps its number
pub ending_kept : (before : List Extension) (e : Extension) (v i : ℕ) → i < length (timeline_of (tokens_of before) v) → place_of (ending v i) (points_of (before ++ e ∷ [])) ≡ place_of (ending v i) (points_of before)
ending_kept before e v i below = ap (place_of (ending v i)) (points-push before e) ∙ place_kept (ending v i) (points_of before) (new_points before e) ((named before).ends_there v i below)

-- and so does its start
pub start_kept : (before : List Extension) (e : Extension) (v i : ℕ) → i ≤ length (timeline_of (tokens_of before) v) → start_at (before ++ e ∷ []) v i ≡ start_at before v i
start_kept before e v zero below = refl
start_kept before e v (suc i) below = ending_kept before e v i (omega arith)

-- the number of a new extension's horizon point
pub horizon_number : (before : List Extension) (e : Extension) → hor (before ++ e ∷ []) (length before + 1) ≡ count before
horizon_number before e =
    let new = (named before).marks_new (length before + 1) (omega arith) in
    let names = points_of before ++ horizon (length before + 1) ∷ [] in
    let there : place_of (horizon (length before + 1)) names ≡ count before = place_new (horizon (length before + 1)) (points_of before) new in
    ap (place_of (horizon (length before + 1))) (points_parts before e)
    ∙ place_kept (horizon (length before + 1)) names (end_points (tokens_of before) e.tokens) (omega (arith, there, length-append (points_of before) (horizon (length before + 1) ∷ [])))
    ∙ there

-- a horizon point keeps its number
pub horizon_kept : (before : List Extension) (e : Extension) (j : ℕ) → 0 < j → j ≤ length before → hor (before ++ e ∷ []) j ≡ hor before j
horizon_kept before e j some below = ap (place_of (horizon j)) (points-push before e) ∙ place_kept (horizon j) (points_of before) (new_points before e) ((named before).marks_there j some below)

-- a point keeps its number where the plan grows
pub point_kept : (es fs : List Extension) (p : Point) → place_of p (points_of es) < count es → place_of p (points_of (es ++ fs)) ≡ place_of p (points_of es)
point_kept es fs p there = ap (λ l. place_of p (origin ∷ l)) (join_after-append new_points [] es fs) ∙ place_kept p (points_of es) (join_after new_points es fs) there

-- a point at a number stays there where the plan grows
pub number_kept : (es fs : List Extension) (x : ℕ) → x < count es → slice_get (points_of (es ++ fs)) x ≡ slice_get (points_of es) x
number_kept es fs x below = ap (λ l. slice_get (origin ∷ l) x) (join_after-append new_points [] es fs) ∙ slice_get-append_left (points_of es) (join_after new_points es fs) x below

-- the point of a new token's end
pub new_end_at : (before : List Extension) (e : Extension) (i : ℕ) (k : Kind) → slice_get e.tokens i ≡ Some k → slice_get (points_of (before ++ e ∷ [])) (count before + 1 + i) ≡ Some (end_point (ref_after (tokens_of before ++ take i e.tokens) k))
new_end_at before e i k is =
    let names = points_of before ++ horizon (length before + 1) ∷ [] in
    let size : length names ≡ count before + 1 = length-append (points_of before) (horizon (length before + 1) ∷ []) in
    let ref : slice_get (refs_after (tokens_of before) e.tokens) i ≡ Some (ref_after (tokens_of before ++ take i e.tokens) k) = join_after-at ref_after (tokens_of before) e.tokens i k is in
    ap (λ l. slice_get l (count before + 1 + i)) (points_parts before e)
    ∙ ap (λ n. slice_get (names ++ end_points (tokens_of before) e.tokens) (n + i)) (sym size)
    ∙ slice_get-append_right names (end_points (tokens_of before) e.tokens) i
    ∙ slice_get-map end_point (refs_after (tokens_of before) e.tokens) i
    ∙ ap (option_map end_point) ref

-- the point of a new extension's horizon
pub new_mark_at : (before : List Extension) (e : Extension) → slice_get (points_of (before ++ e ∷ [])) (count before) ≡ Some (horizon (length before + 1))
new_mark_at before e = ap (λ l. slice_get l (count before)) (points-push before e) ∙ slice_get-middle (points_of before) (horizon (length before + 1)) (end_points (tokens_of before) e.tokens)

-- the token of a name
pub token_of_ref : (before after : List Kind) (k : Kind) → slice_get (timeline_of (before ++ k ∷ after) k.sv.0) (length (timeline_of before k.sv.0)) ≡ Some k
token_of_ref before after k =
    ap (λ l. slice_get l (length (timeline_of before k.sv.0))) (timeline-append before (k ∷ after) k.sv.0)
    ∙ (rw (eq-eqb k.sv.0 k.sv.0 refl) (slice_get-middle (timeline_of before k.sv.0) k (timeline_of after k.sv.0)))

-- the timeline of a token's own variable, with that token
pub timeline_own : (ts : List Kind) (t : Kind) → timeline_of (ts ++ t ∷ []) t.sv.0 ≡ timeline_of ts t.sv.0 ++ t ∷ []
timeline_own ts t = timeline-append ts (t ∷ []) t.sv.0 ∙ rw (eq-eqb t.sv.0 t.sv.0 refl) refl

-- a token that the new ones bring has its name among theirs
pub ref_of_new : (ts us : List Kind) (v i : ℕ) → length (timeline_of ts v) ≤ i → i < length (timeline_of (ts ++ us) v) → (j : ℕ) × (slice_get (refs_after ts us) j ≡ Some (record { sv = record { 0 = v }; place = i }))
ref_of_new ts [] v i old new = absurd (let e = ap (λ l. length (timeline_of l v)) (append-nil ts) in omega arith)
ref_of_new ts (u ∷ us) v i old new =
    let more : i < length (timeline_of ((ts ++ u ∷ []) ++ us) v) = rw (append_assoc ts (u ∷ []) us) new in
    let one : length (timeline_of (ts ++ u ∷ []) v) ≡ length (timeline_of ts v) + length (timeline_of (u ∷ []) v) = rw (timeline-append ts (u ∷ []) v) (length-append _ _) in
    elim (cases_lt i (length (timeline_of (ts ++ u ∷ []) v))) [
      | inl first ↦ elim (cases_Bool (nat_eq u.sv.0 v)) [
        | inl same ↦
            let is : u.sv.0 ≡ v = eqb-true _ _ same in
            let single : length (timeline_of (u ∷ []) v) ≡ 1 = rw same refl in
            let place : length (timeline_of ts v) ≡ i = omega arith in
            let name : ℕ → ℕ → TokenRef = λ w n. record { sv = record { 0 = w }; place = n } in
            (0, ap (λ (w : ℕ). Some (name w (length (timeline_of ts w)))) is ∙ ap (λ (n : ℕ). Some (name v n)) place)
        | inr other ↦
            let none : length (timeline_of (u ∷ []) v) ≡ 0 = rw other refl in
            absurd (omega arith)
      ]
      | inr later ↦ let r = ref_of_new (ts ++ u ∷ []) us v i later more in (suc r.0, r.1)
    ]
