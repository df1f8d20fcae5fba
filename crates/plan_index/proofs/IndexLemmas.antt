-- What entries say of a plan.
use Rattle.std.proofs.Common.{◌≡◌, ℕ, zero, suc, ◌+◌, ◌-◌, ◌<◌, ◌≤◌, Bool, true, false, ◌||◌, nat_eq, List, [], ◌∷◌, ◌++◌, length, take, map, Some, None, refl, sym, ap, ◌∙◌, subst, arith, append_assoc, append-nil, length-append}
use Rattle.std.proofs.lemmas.Bool.Decides.{nat_tests}
use Rattle.std.proofs.lemmas.Grind.{flat_map-append}
use Rattle.std.proofs.lemmas.List.{length-map}
use Rattle.std.proofs.lemmas.Option.{slice_get-map, slice_get_past}
use Rattle.std.specs.Prelude.{Option, slice_get, option_map}
use Rattle.hs_base.specs.declared.ids.PointId.{PointId}
use Rattle.hs_base.specs.declared.mission.Kind.{Kind}
use Rattle.hs_base.specs.declared.plan.Time.{Time}
use Rattle.hs_base.specs.declared.plan.TokenRef.{TokenRef}
use Rattle.hs_base.specs.declared.plan.Extension.{Extension}
use Rattle.hs_base.specs.Points.{Point, horizon, ending, same_point, place_of, count, points_of, tokens_of, timeline_of, ref_after, refs_after, start, start_at as starts_at}
use Rattle.hs_base.specs.Bounds.{is_fixed}
use Rattle.hs_base.specs.Checked.{fixed_of, free_points}
use Rattle.base_laws.proofs.ListLemmas.{front_induction, join_after-at, slice_get-append_left, slice_get-append_right, slice_get-middle}
use Rattle.base_laws.proofs.PointLemmas.{AreNamed, named as named_points, end_point, end_points, end_points-push, length-ends, place_other, points_parts, timeline-append, tokens-push, points-push, count_is}
use Rattle.plan_index.specs.declared.placed.PlacedToken.{PlacedToken}
use Rattle.plan_index.specs.declared.entries.Entries.{Entries}
use Rattle.plan_index.specs.Contents.{Contents, contents_of, extended, end_of, start_at, start_of}
use Rattle.plan_index.specs.Lines.{row_of}
use Rattle.plan_index.specs.Named.{named, has_time}
use Rattle.plan_index.specs.Entered.{IsIndex}
use Rattle.plan_index.proofs.GrowthLemmas.{row_many}

-- contents are told apart by their parts
pub same_contents : (c d : Contents) → c.horizons ≡ d.horizons → c.points ≡ d.points → c.tokens ≡ d.tokens → c.fixed ≡ d.fixed → c ≡ d
same_contents c d h p t f =
    let make : ℕ → List _ → List _ → List _ → Contents = λ a b x y. record { horizons = a; points = b; tokens = x; fixed = y } in
    ap (λ a. make a c.points c.tokens c.fixed) h ∙ ap (λ b. make d.horizons b c.tokens c.fixed) p ∙ ap (λ x. make d.horizons d.points x c.fixed) t ∙ ap (λ y. make d.horizons d.points d.tokens y) f

-- what is to know of a plan with one more extension
pub contents_push : (es : List Extension) (e : Extension) → contents_of (es ++ e ∷ []) ≡ extended (contents_of es) e
contents_push es e =
    same_contents (contents_of (es ++ e ∷ [])) (extended (contents_of es) e)
    (length-append es (e ∷ []))
    (points-push es e)
    (tokens-push es e)
    (flat_map-append (λ (x : Extension). x.fixed) es (e ∷ []) ∙ ap (λ l. fixed_of es ++ l) (append-nil e.fixed))

-- Z, a point for each extension, and one for each token
pub points_counted : (s : Entries) → IsIndex s → length s.names.items ≡ 1 + length s.horizons.items + length s.tokens.items
points_counted s h =
    let horizons : length s.horizons.items ≡ length h.plan = ap (λ (c : Contents). c.horizons) h.is in
    let points : map named s.names.items ≡ points_of h.plan = ap (λ (c : Contents). c.points) h.is in
    let tokens : s.tokens.items ≡ tokens_of h.plan = ap (λ (c : Contents). c.tokens) h.is in
    omega (arith, length-map s.names.items named, ap length points, count_is h.plan, horizons, ap length tokens)

-- the points of the entries are those of a plan's horizons and tokens, each once
pub names_of_own : (s : Entries) → IsIndex s → AreNamed s.tokens.items (length s.horizons.items) (map named s.names.items)
names_of_own s h = subst (λ (c : Contents). AreNamed c.tokens c.horizons c.points) (sym h.is) (named_points h.plan)

-- the end of a token that is there
pub end_there : (s : Entries) (v i : ℕ) (p : PlacedToken) → IsIndex s → slice_get (row_of s.lines.items v) i ≡ Some p → place_of (ending v i) (map named s.names.items) ≡ p.end.0
end_there s v i p h at = (names_of_own s h).once p.end.0 (ending v i) (h.lines.ends v i p at)

-- a place that holds nothing is past the end
past_end : {X : Type 0} (xs : List X) (i : ℕ) → slice_get xs i ≡ None → length xs ≤ i
past_end [] i is = omega arith
past_end (x ∷ xs) zero is = absurd (cc)
past_end (x ∷ xs) (suc i) is = omega (arith, past_end xs i is)

-- and of one that isn't
pub end_nowhere : (s : Entries) (v i : ℕ) → IsIndex s → slice_get (row_of s.lines.items v) i ≡ None → place_of (ending v i) (map named s.names.items) ≡ length s.names.items
end_nowhere s v i h none =
    let past = past_end (row_of s.lines.items v) i none in
    (names_of_own s h).ends_new v i (omega (arith, past, row_many s.tokens.items (map named s.names.items) (row_of s.lines.items) v h.lines)) ∙ length-map s.names.items named

-- no plan has a horizon of number 0
pub no_first : (es : List Extension) → place_of (horizon 0) (points_of es) ≡ count es
no_first es = front_induction (λ es. place_of (horizon 0) (points_of es) ≡ count es) refl step es where
  ends : (names : List Point) (before new : List Kind) → place_of (horizon 0) names ≡ length names → place_of (horizon 0) (names ++ end_points before new) ≡ length (names ++ end_points before new)
  ends names before new none =
      front_induction (λ (l : List Kind). place_of (horizon 0) (names ++ end_points before l) ≡ length (names ++ end_points before l))
      (ap (place_of (horizon 0)) (append-nil names) ∙ none ∙ sym (ap length (append-nil names)))
      (λ l t is.
      let new_end = end_point (ref_after (before ++ l) t) in
      let more : names ++ end_points before (l ++ t ∷ []) ≡ (names ++ end_points before l) ++ new_end ∷ [] = ap (λ x. names ++ x) (end_points-push before l t) ∙ sym (append_assoc names (end_points before l) (new_end ∷ [])) in
      ap (place_of (horizon 0)) more ∙ place_other (horizon 0) new_end (names ++ end_points before l) refl is ∙ sym (ap length more))
      new

  step : (before : List Extension) (e : Extension) → place_of (horizon 0) (points_of before) ≡ count before → place_of (horizon 0) (points_of (before ++ e ∷ [])) ≡ count (before ++ e ∷ [])
  step before e none =
      let next = horizon (length before + 1) in
      let apart : same_point (horizon 0) next ≡ false = grind (arith, nat_tests) in
      ap (place_of (horizon 0)) (points_parts before e)
      ∙ ends (points_of before ++ next ∷ []) (tokens_of before) e.tokens (place_other (horizon 0) next (points_of before) apart none)
      ∙ sym (ap length (points_parts before e))

-- a horizon that is there
horizon_there : (s : Entries) (k : ℕ) (x : PointId) → IsIndex s → 0 < k → slice_get s.horizons.items (k - 1) ≡ Some x → place_of (horizon k) (map named s.names.items) ≡ x.0
horizon_there s k x h some at =
    let same : k - 1 + 1 ≡ k = omega arith in
    (names_of_own s h).once x.0 (horizon k) (h.marks (k - 1) x at ∙ ap (λ (j : ℕ). Some (horizon j)) same)

-- and one that isn't
horizon_nowhere : (s : Entries) (k : ℕ) → IsIndex s → 0 < k → slice_get s.horizons.items (k - 1) ≡ None → place_of (horizon k) (map named s.names.items) ≡ length s.names.items
horizon_nowhere s k h some none =
    let past = past_end s.horizons.items (k - 1) none in
    (names_of_own s h).marks_new k (omega (arith, past, some)) ∙ length-map s.names.items named

-- the number of what the marks say, where horizons are counted from 1
pub horizon_marked : (s : Entries) (k : ℕ) (mark : Option PointId) (x : PointId) → IsIndex s → (0 < k → mark ≡ slice_get s.horizons.items (k - 1)) → (k ≡ 0 → mark ≡ None) → mark ≡ Some x → place_of (horizon k) (map named s.names.items) ≡ x.0
horizon_marked s zero mark x h some none is = absurd (let e = none refl in cc (e, is))
horizon_marked s (suc k) mark x h some none is = horizon_there s (suc k) x h (omega arith) (sym (some (omega arith)) ∙ is)

pub horizon_unmarked : (s : Entries) (k : ℕ) (mark : Option PointId) → IsIndex s → (0 < k → mark ≡ slice_get s.horizons.items (k - 1)) → mark ≡ None → place_of (horizon k) (map named s.names.items) ≡ length s.names.items
horizon_unmarked s zero mark h some is =
    let points : map named s.names.items ≡ points_of h.plan = ap (λ (c : Contents). c.points) h.is in
    ap (place_of (horizon 0)) points ∙ no_first h.plan ∙ sym (ap length points) ∙ length-map s.names.items named
horizon_unmarked s (suc k) mark h some is = horizon_nowhere s (suc k) h (omega arith) (sym (some (omega arith)) ∙ is)

-- the points before a further extension keep their numbers
pub point_before : (c : Contents) (e : Extension) (x : ℕ) → x < length c.points → slice_get (extended c e).points x ≡ slice_get c.points x
point_before c e x below = slice_get-append_left c.points _ x below

-- behind them stands its horizon
pub point_of_horizon : (c : Contents) (e : Extension) (x : ℕ) → x ≡ length c.points → slice_get (extended c e).points x ≡ Some (horizon (c.horizons + 1))
point_of_horizon c e x is = ap (slice_get (extended c e).points) is ∙ slice_get-middle c.points (horizon (c.horizons + 1)) (map end_of (refs_after c.tokens e.tokens))

-- and then the ends of its tokens
pub point_of_end : (c : Contents) (e : Extension) (x i : ℕ) → x ≡ length c.points + 1 + i → slice_get (extended c e).points x ≡ slice_get (map end_of (refs_after c.tokens e.tokens)) i
point_of_end c e x i is =
    let mark = horizon (c.horizons + 1) in
    let ends = map end_of (refs_after c.tokens e.tokens) in
    let place : x ≡ length (c.points ++ mark ∷ []) + i = omega (arith, is, length-append c.points (mark ∷ [])) in
    ap (λ (l : List Point). slice_get l x) (sym (append_assoc c.points (mark ∷ []) ends)) ∙ ap (slice_get ((c.points ++ mark ∷ []) ++ ends)) place ∙ slice_get-append_right (c.points ++ mark ∷ []) ends i

-- the end of a further token, by its number among these
pub end_at : (before new : List Kind) (i : ℕ) (k : Kind) (place : ℕ) → slice_get new i ≡ Some k → place ≡ length (timeline_of before k.sv.0) + length (timeline_of (take i new) k.sv.0) → slice_get (map end_of (refs_after before new)) i ≡ Some (ending k.sv.0 place)
end_at before new i k place at is =
    let counted : place ≡ length (timeline_of (before ++ take i new) k.sv.0) = omega (arith, is, ap length (timeline-append before (take i new) k.sv.0), length-append (timeline_of before k.sv.0) (timeline_of (take i new) k.sv.0)) in
    slice_get-map end_of (refs_after before new) i ∙ ap (option_map end_of) (join_after-at ref_after before new i k at) ∙ ap (λ (n : ℕ). Some (ending k.sv.0 n)) (sym counted)

-- there are no more of them than tokens
pub no_end_at : (before new : List Kind) (i : ℕ) → length new ≤ i → slice_get (map end_of (refs_after before new)) i ≡ None
no_end_at before new i past = slice_get_past (map end_of (refs_after before new)) i (omega (arith, past, length-ends before new))

-- whether a point has one of the times of two lists
has_time-append : (xs ys : List Time) (x : ℕ) → has_time (xs ++ ys) x ≡ (has_time xs x || has_time ys x)
has_time-append [] ys x = refl
has_time-append (t ∷ xs) ys x = ap (λ b. nat_eq t.point.0 x || b) (has_time-append xs ys x) ∙ assoc (nat_eq t.point.0 x) (has_time xs x) (has_time ys x)
  where
    assoc : (a b c : Bool) → (a || (b || c)) ≡ ((a || b) || c)
    assoc true b c = refl
    assoc false b c = refl

-- a point that has a time of the plan is one that an extension fixes
pub has_time-of : (es : List Extension) (x : ℕ) → has_time (fixed_of es) x ≡ is_fixed es x
has_time-of [] x = refl
has_time-of (e ∷ es) x = has_time-append e.fixed (fixed_of es) x ∙ ap (λ b. has_time e.fixed x || b) (has_time-of es x)

-- the points less those with a time are the free ones
pub free_are : (es : List Extension) → count es - length (fixed_of es) ≡ free_points es
free_are es = ap (λ n. n - length (fixed_of es)) (count_is es)

-- the start of a token among the points of a plan
pub start_is : (c : Contents) (es : List Extension) (t : TokenRef) → c ≡ contents_of es → start_of c.points t ≡ start es t
start_is c es t is = ap (λ (x : Contents). start_of x.points t) is ∙ by_place t.sv.0 t.place
  where
    by_place : (v i : ℕ) → start_at (points_of es) v i ≡ starts_at es v i
    by_place v zero = refl
    by_place v (suc i) = refl
