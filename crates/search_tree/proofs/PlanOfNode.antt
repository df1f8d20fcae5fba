-- The bounds of the plan with a flawless node's extension, item by item.
use Rattle.std.proofs.Common.{Bool, List, None, Option, Some, [], ap, arith, cond, false, filter, flat_map, get_or, inl, inr, length, length-append, map, nat_eq, neg_ℤ, negsuc, pos, refl, slice_get, subst, suc, sym, true, zero, ℕ, ◌&&◌, ◌++◌, ◌+◌, ◌-◌, ◌<◌, ◌∙◌, ◌∷◌, ◌≡◌, ◌≤◌}
use Rattle.std.proofs.lemmas.Bool.{and_parts, cases_Bool, cases_lt, cond-false, cond-true, eq-eqb, eqb-true, le-ltb, lt-ltb}
use Rattle.std.proofs.lemmas.Int.{ints}
use Rattle.std.proofs.lemmas.Option.{get_or_from_slice_get, slice_get-get_or, slice_get-map}
use Rattle.std.specs.List.{AllByRecursion}
use Rattle.std.specs.Prelude.{option_map}
use Rattle.hs_base.specs.Bounds.{apart, bounds_of, exactly, fixed_bounds, goal_bounds, goals_of, horizon_bounds, is_fixed, last_bound, last_bounds, length_bounds, new_bounds, on_some, point_bounds, relation_bounds, since_bounds, start_bounds, support_bounds, together}
use Rattle.hs_base.specs.Needs.{choice_by, need_at, need_of, needs_of}
use Rattle.hs_base.specs.Points.{Point, count, ending, hor, horizon, new_points, origin, place_of, points_of, refs_after, same_point, start, stop, timeline_of, token_at, tokens_of, value_of}
use Rattle.hs_base.specs.Ranges.{range, whole}
use Rattle.hs_base.specs.Schedule.{Holds, IsBelow, Meets, Schedule, bound, numbers_from}
use Rattle.hs_base.specs.declared.mission.Choice.{Choice}
use Rattle.hs_base.specs.declared.mission.Goal.{Goal}
use Rattle.hs_base.specs.declared.mission.Kind.{Kind}
use Rattle.hs_base.specs.declared.mission.Mission.{Mission}
use Rattle.hs_base.specs.declared.mission.Need.{Need}
use Rattle.hs_base.specs.declared.net.Bound.{Bound}
use Rattle.hs_base.specs.declared.plan.Extension.{Extension}
use Rattle.hs_base.specs.declared.plan.Support.{Support}
use Rattle.hs_base.specs.declared.plan.Time.{Time}
use Rattle.hs_base.specs.declared.plan.TokenRef.{TokenRef}
use Rattle.hs_base.specs.declared.range.Range.{Range}
use Rattle.hs_base.specs.declared.relation.Relation.{Relation}
use Rattle.hs_base.specs.declared.relation.Relation.TheVariants.{After, Before, ContainedBy, Contains as Encloses, Ends, Equals, Meets as MeetsStart, MetBy, Starts}
use Rattle.base_laws.proofs.ListLemmas.{each_at, each_both, each_flat, each_split, each_weaker, join_after-push}
use Rattle.base_laws.proofs.PointLemmas.{points-push, tokens-push}
use Rattle.plan_laws.proofs.LengthLemmas.{number_at}
use Rattle.plan_laws.proofs.ScheduleLemmas.{left, right}
use Rattle.search_tree.proofs.CellLemmas.{given_cell, held_is, length-held, length-map', row_at, slice_get-map_some, slice_get-past, stub_count}
use Rattle.search_tree.proofs.NewNameLemmas.{Names, refs_name}
use Rattle.search_tree.proofs.NodeLemmas.{closed_after, kinds, start_is, stop_is, timeline_is, whole_plan}
use Rattle.search_tree.proofs.RootLemmas.{each_flat_map, each_map, each_number}
use Rattle.search_tree.specs.Begun.{Begun, newest, number, stub}
use Rattle.search_tree.specs.Extends.{extension, place_in, ref_of, supports_at}
use Rattle.search_tree.specs.Flaws.{flat_map_from, flaws, goal_flaws, open_goals, open_needs, open_slots, slots, slots_from}
use Rattle.search_tree.specs.Partial.{Partial, Row, at, cells, row}
use Rattle.search_tree.specs.PartialBounds.{backing_bounds, begun_bounds, finish_bounds, goals_met, last_stop, link_bounds, partial_bounds, row_bounds, token_bounds}
use Rattle.search_tree.specs.Renamed.{named_point, node_point}
use Rattle.search_tree.specs.Sound.{AreRows, IsGoalIn, IsIn, IsRow, IsSound}
use Rattle.search_tree.specs.declared.backing.Backing.{Backing}
use Rattle.search_tree.specs.declared.flaw.Flaw.{Flaw}
use Rattle.search_tree.specs.declared.flaw.Flaw.TheVariants.{Gap as GapFlaw}
use Rattle.search_tree.specs.declared.held.Cell.{Cell}
use Rattle.search_tree.specs.declared.held.Held.{Held}

-- lists
pub append_none : {X : Type 0} (xs ys : List X) → xs ++ ys ≡ [] → (xs ≡ []) × (ys ≡ [])
append_none [] ys h = (refl, h)
append_none (x ∷ xs) ys h = absurd (cc)

pub flat_map_from-none : {X Y : Type 0} (f : ℕ → X → List Y) (w i : ℕ) (xs : List X) (x : X) → flat_map_from f w xs ≡ [] → slice_get xs i ≡ Some x → f (w + i) x ≡ []
flat_map_from-none f w i [] x h is = absurd (cc)
flat_map_from-none f w zero (y ∷ xs) x h is =
    let same : y ≡ x = cc in
    let here : w + 0 ≡ w = omega arith in
    ap (λ n. f n x) here ∙ ap (f w) (sym same) ∙ (append_none (f w y) _ h).0
flat_map_from-none f w (suc i) (y ∷ xs) x h is =
    let there : w + suc i ≡ suc w + i = omega arith in
    ap (λ n. f n x) there ∙ flat_map_from-none f (suc w) i xs x (append_none (f w y) _ h).1 is

map_none : {X Y : Type 0} (f : X → Y) (xs : List X) → map f xs ≡ [] → xs ≡ []
map_none f [] h = refl
map_none f (x ∷ xs) h = absurd (cc)

-- moved bounds
pub apart_moves : (s t : Schedule) (x y x' y' : ℕ) (r : Range) → s x ≡ t x' → s y ≡ t y' → AllByRecursion (Holds t) (apart x' y' r) → AllByRecursion (Holds s) (apart x y r)
apart_moves s t x y x' y' r e f h = (omega (arith, ints, h.0), (omega (arith, ints, h.1.0), tt))

pub on_some_moves : {X : Type 0} (P Q : Bound → Type 0) (o : Option X) (f g : X → List Bound) → ((x : X) → AllByRecursion Q (g x) → AllByRecursion P (f x)) → AllByRecursion Q (on_some o g) → AllByRecursion P (on_some o f)
on_some_moves P Q None f g step h = tt
on_some_moves P Q (Some x) f g step h = step x h

-- a row without slots
cells_done : (finished : Bool) (cs : List Cell) → 0 < length cs → ((c : Cell) → slice_get cs 0 ≡ Some c → (c.joined ≡ true) × (c.held.start ≡ 0)) → slots_from finished cs ≡ [] → (finished ≡ true) × AllByRecursion (λ (c : Cell). c.joined ≡ true) cs
cells_done finished [] some first h = absurd (omega arith)
cells_done finished (c ∷ cs) some first h = let r = closed_after finished 0 cs h in (r.0, ((first c refl).0, r.1))

-- a row's last cell
pub last_cell : (x : ℕ) (cs : List Cell) → 0 < length cs → (c : Cell) × (slice_get cs (length cs - 1) ≡ Some c) × (last_stop x cs ≡ c.held.stop)
last_cell x [] some = absurd (omega arith)
last_cell x (c ∷ []) some = (c, refl, refl)
last_cell x (c ∷ d ∷ cs) some =
    let r = last_cell c.held.stop (d ∷ cs) (omega arith) in
    let e : length (c ∷ d ∷ cs) - 1 ≡ suc (length (d ∷ cs) - 1) = omega arith in
    (r.0, ap (slice_get (c ∷ d ∷ cs)) e ∙ r.1, r.2)

-- the point at the end of a prefix
pub place_same : (p q : Point) (xs ys zs : List Point) → same_point p q ≡ true → (place_of p (xs ++ q ∷ ys) ≡ place_of p (xs ++ q ∷ zs)) × (place_of p (xs ++ q ∷ ys) < suc (length xs))
place_same p q [] ys zs is = rw is (refl, omega arith)
place_same p q (x ∷ xs) ys zs is = elim (cases_Bool (same_point p x)) [
  | inl here ↦ rw here (refl, omega arith)
  | inr there ↦ let r = place_same p q xs ys zs is in rw there (ap suc r.0, omega (arith, r.1))
]

pub fixed_same : (es : List Extension) (e d : Extension) (x : ℕ) → e.fixed ≡ d.fixed → is_fixed (es ++ e ∷ []) x ≡ is_fixed (es ++ d ∷ []) x
fixed_same [] e d x h = rw h refl
fixed_same (f ∷ es) e d x h = rw (fixed_same es e d x h) refl

pub have_rows : (rows : List Row) (b : Begun) (w : ℕ) (rs : List Row) → AreRows b w rs → ((i : ℕ) (r : Row) → slice_get rs i ≡ Some r → slice_get rows (w + i) ≡ Some r) → AllByRecursion (λ k. (r : Row) × (slice_get rows k.sv.0 ≡ Some r)) (flat_map kinds rs)
have_rows rows b w [] h is = tt
have_rows rows b w (r ∷ rs) h is =
    let here : slice_get rows w ≡ Some r = ap (slice_get rows) (omega arith) ∙ is 0 r refl in
    each_both (λ k. (r : Row) × (slice_get rows k.sv.0 ≡ Some r)) (kinds r) (flat_map kinds rs)
    (each_map (λ k. (r : Row) × (slice_get rows k.sv.0 ≡ Some r)) (λ (c : Cell). c.held.kind) r.added
    (each_weaker (λ (c : Cell). c.held.kind.sv.0 ≡ w) (λ (c : Cell). (r : Row) × (slice_get rows c.held.kind.sv.0 ≡ Some r)) (λ c e. (r, ap (slice_get rows) e ∙ here)) r.added h.0.variable))
    (have_rows rows b (suc w) rs h.1 (λ i q at. ap (slice_get rows) (omega arith) ∙ is (suc i) q at))

pub zero_plus : (n : ℕ) → 0 + n ≡ n
zero_plus n = omega arith

pub each_flat_map_from : {X Y : Type 0} (P : Y → Type 0) (f : ℕ → X → List Y) (w : ℕ) (xs : List X) → ((i : ℕ) (x : X) → slice_get xs i ≡ Some x → AllByRecursion P (f (w + i) x)) → AllByRecursion P (flat_map_from f w xs)
each_flat_map_from P f w [] h = tt
each_flat_map_from P f w (x ∷ xs) h =
    let here : w + 0 ≡ w = omega arith in
    each_both P (f w x) (flat_map_from f (suc w) xs) (subst (λ n. AllByRecursion P (f n x)) here (h 0 x refl))
    (each_flat_map_from P f (suc w) xs (λ i y is. let there : w + suc i ≡ suc w + i = omega arith in subst (λ n. AllByRecursion P (f n y)) there (h (suc i) y is)))

pub each_filter : {X : Type 0} (Q : X → Type 0) (test : X → Bool) (xs : List X) → AllByRecursion Q xs → AllByRecursion (λ x. Q x × (test x ≡ true)) (filter test xs)
each_filter Q test [] h = tt
each_filter Q test (x ∷ xs) h = elim (cases_Bool (test x)) [
  | inl yes' ↦ rw yes' ((h.0, yes'), each_filter Q test xs h.1)
  | inr no' ↦ rw no' (each_filter Q test xs h.1)
]

pub each_of_flat : {X Y : Type 0} (P : Y → Type 0) (f : X → List Y) (xs : List X) → AllByRecursion P (flat_map f xs) → AllByRecursion (λ x. AllByRecursion P (f x)) xs
each_of_flat P f [] h = tt
each_of_flat P f (x ∷ xs) h = let r = each_split P (f x) (flat_map f xs) h in (r.0, each_of_flat P f xs r.1)

pub each_two : {X : Type 0} (P Q : X → Type 0) (xs : List X) → AllByRecursion P xs → AllByRecursion Q xs → AllByRecursion (λ x. P x × Q x) xs
each_two P Q [] h g = tt
each_two P Q (x ∷ xs) h g = ((h.0, g.0), each_two P Q xs h.1 g.1)

pub place_found : (x k j : ℕ) (cs : List Cell) (c : Cell) → slice_get cs j ≡ Some c → c.held.stop ≡ x → (i : ℕ) × (d : Cell) × (slice_get cs i ≡ Some d) × (place_in x k cs ≡ k + i) × (d.held.stop ≡ x)
place_found x k j [] c is same = absurd (cc)
place_found x k zero (d ∷ cs) c is same =
    let f : d ≡ c = cc in
    let here : d.held.stop ≡ x = ap (λ (y : Cell). y.held.stop) f ∙ same in
    rw (eq-eqb d.held.stop x here) (0, d, refl, omega arith, here)
place_found x k (suc j) (d ∷ cs) c is same = elim (cases_Bool (nat_eq d.held.stop x)) [
  | inl here ↦ rw here (0, d, refl, omega arith, eqb-true _ _ here)
  | inr there ↦ let r = place_found x (suc k) j cs c is same in rw there (suc r.0, r.1, r.2, r.3 ∙ (omega arith), r.4)
]

pub relation_moves : (s t : Schedule) (r : Relation) (x x' y y' u u' w w' : ℕ) → s x ≡ t u → s x' ≡ t u' → s y ≡ t w → s y' ≡ t w' → AllByRecursion (Holds t) (relation_bounds r u u' w w') → AllByRecursion (Holds s) (relation_bounds r x x' y y')
relation_moves s t (Before r) x x' y y' u u' w w' a b c d h = apart_moves s t y x' w u' r c b h
relation_moves s t (After r) x x' y y' u u' w w' a b c d h = apart_moves s t x y' u w' r a d h
relation_moves s t MeetsStart x x' y y' u u' w w' a b c d h = apart_moves s t y x' w u' (range (pos 0) (pos 0)) c b h
relation_moves s t MetBy x x' y y' u u' w w' a b c d h = apart_moves s t x y' u w' (range (pos 0) (pos 0)) a d h
relation_moves s t (Starts r) x x' y y' u u' w w' a b c d h = apart_moves s t y x w u r c a h
relation_moves s t (Ends r) x x' y y' u u' w w' a b c d h = apart_moves s t y' x' w' u' r d b h
relation_moves s t Equals x x' y y' u u' w w' a b c d h =
    let e = each_split (Holds t) (together w u) (together w' u') h in
    each_both (Holds s) (together y x) (together y' x') (apart_moves s t y x w u (range (pos 0) (pos 0)) c a e.0) (apart_moves s t y' x' w' u' (range (pos 0) (pos 0)) d b e.1)
relation_moves s t (Encloses q r) x x' y y' u u' w w' a b c d h =
    let e = each_split (Holds t) (apart w u q) (apart u' w' r) h in
    each_both (Holds s) (apart y x q) (apart x' y' r) (apart_moves s t y x w u q c a e.0) (apart_moves s t x' y' u' w' r b d e.1)
relation_moves s t (ContainedBy q r) x x' y y' u u' w w' a b c d h =
    let e = each_split (Holds t) (apart u w q) (apart w' u' r) h in
    each_both (Holds s) (apart x y q) (apart y' x' r) (apart_moves s t x y u w q a c e.0) (apart_moves s t y' x' w' u' r d b e.1)

module _ (m : Mission) (b : Begun) (p : Partial) (t : Schedule) (sound : IsSound m b p) (flawless : flaws m b p ≡ []) (meets : Meets (partial_bounds m b p) t) where
  abbrev pub es : List Extension
  es = whole_plan m b p

  abbrev pub moved : Schedule
  moved x = t (node_point m b p x)

  abbrev pub Good : List Bound → Type 0
  Good bs = AllByRecursion (Holds moved) bs

  abbrev pub of_rows : List Bound
  of_rows = flat_map (row_bounds m b) p.rows

  abbrev pub of_supports : List Bound
  of_supports = flat_map (backing_bounds m) p.supports

  abbrev pub of_goals : List Bound
  of_goals = goals_met (goals_of m (number b)) p.goals

  abbrev pub goal_part : List Flaw
  goal_part = open_goals p

  abbrev pub need_part : List Flaw
  need_part = open_needs m b p

  abbrev pub gap_part : List Flaw
  gap_part = open_slots p

  rows_part : Meets (flat_map (row_bounds m b) p.rows) t
  rows_part = right (begun_bounds m b) of_rows (left (begun_bounds m b ++ of_rows) of_supports (left (begun_bounds m b ++ of_rows ++ of_supports) of_goals meets))

  row_part : (v : ℕ) (r : Row) → slice_get p.rows v ≡ Some r → AllByRecursion (Holds t) (row_bounds m b r)
  row_part v r is = each_flat (Holds t) (row_bounds m b) p.rows v r rows_part.each is

  row_is : (v : ℕ) (r : Row) → slice_get p.rows v ≡ Some r → IsRow b v r
  row_is v r is = let e : 0 + v ≡ v = omega arith in subst (λ n. IsRow b n r) e (row_at b 0 v p.rows r sound.rows is)

  pub row_done : (v : ℕ) (r : Row) → slice_get p.rows v ≡ Some r → (r.finished ≡ true) × AllByRecursion (λ (c : Cell). c.joined ≡ true) (cells r)
  row_done v r is =
      let none : gap_part ≡ [] = (append_none (goal_part ++ need_part) gap_part flawless).1 in
      let here = row_is v r is in
      cells_done r.finished (cells r) here.some here.first (map_none _ (slots r) (flat_map_from-none (λ v r. map (GapFlaw (record { 0 = v })) (slots r)) 0 v p.rows r none is))

  -- below the plan's new tokens nothing moves
  stays : (x : ℕ) → x < suc (count b.base) → moved x ≡ t x
  stays x h = let more = stub_count b in ap t (cond-true _ _ _ (lt-ltb x (count (stub b)) (omega arith)))

  all_stay : (bs : List Bound) → AllByRecursion (IsBelow (suc (count b.base))) bs → AllByRecursion (Holds t) bs → Good bs
  all_stay [] below h = tt
  all_stay (x ∷ bs) below h = (omega (arith, ints, h.0, stays x.from.0 below.0.0, stays x.to.0 below.0.1), all_stay bs below.1 h.1)

  begun_part : Meets (begun_bounds m b) t
  begun_part = left (begun_bounds m b) of_rows (left (begun_bounds m b ++ of_rows) of_supports (left (begun_bounds m b ++ of_rows ++ of_supports) of_goals meets))

  base_good : Good (bounds_of m b.base)
  base_good = all_stay (bounds_of m b.base) sound.below (left _ _ (left _ _ (left _ _ (left _ _ begun_part)))).each

  -- the tokens of the extension
  pub record IsNew (x : TokenRef) : Type 0 where
    pub row : Row
    pub is_row : slice_get p.rows x.sv.0 ≡ Some row
    pub cell : Cell
    pub here : slice_get (cells row) x.place ≡ Some cell
    pub kind : token_at es x ≡ Some cell.held.kind
    pub bounds : AllByRecursion (Holds t) (token_bounds m b cell.held)

  is_new : (x : TokenRef) → Names (λ k. (r : Row) × (slice_get p.rows k.sv.0 ≡ Some r)) (tokens_of b.base) (extension m b p).tokens x → IsNew x
  is_new x n =
      let r = n.holds.0 in
      let is : slice_get p.rows x.sv.0 ≡ Some r = ap (slice_get p.rows) (sym n.variable) ∙ n.holds.1 in
      let told : token_at es x ≡ Some n.kind = ap (λ l. slice_get (timeline_of l x.sv.0) x.place) (tokens-push b.base (extension m b p)) ∙ n.here in
      let there : slice_get (map (λ (c : Cell). c.held.kind) (cells r)) x.place ≡ Some n.kind = ap (λ l. slice_get l x.place) (sym (timeline_is m b p x.sv.0 r sound.rows is)) ∙ told in
      let c = slice_get-map_some (λ (c : Cell). c.held.kind) (cells r) x.place n.kind there in
      let many = ap length (row_is x.sv.0 r is).given ∙ length-held b x.sv.0 0 (timeline_of (tokens_of b.base) x.sv.0) in
      let far : length (map given_cell r.given) ≤ x.place = omega (arith, n.added, length-map' given_cell r.given) in
      let in_new : slice_get r.added (x.place - length (map given_cell r.given)) ≡ Some c.0 = sym (slice_get-past (map given_cell r.given) r.added x.place far) ∙ c.1 in
      record {
        row = r;
        is_row = is;
        cell = c.0;
        here = c.1;
        kind = told ∙ ap Some (sym c.2);
        bounds = each_flat (Holds t) (λ (c : Cell). token_bounds m b c.held) r.added _ c.0 (each_split (Holds t) (flat_map (λ (c : Cell). token_bounds m b c.held) r.added) (link_bounds 0 (cells r)) (each_split (Holds t) (flat_map (λ (c : Cell). token_bounds m b c.held) r.added ++ link_bounds 0 (cells r)) (finish_bounds b r) (row_part x.sv.0 r is)).0).0 in_new;
      }

  abbrev pub refs : List TokenRef
  refs = refs_after (tokens_of b.base) (extension m b p).tokens

  all_new : AllByRecursion IsNew refs
  all_new =
      each_weaker (Names (λ k. (r : Row) × (slice_get p.rows k.sv.0 ≡ Some r)) (tokens_of b.base) (extension m b p).tokens) IsNew is_new refs
      (refs_name (λ k. (r : Row) × (slice_get p.rows k.sv.0 ≡ Some r)) (tokens_of b.base) (extension m b p).tokens
      (have_rows p.rows b 0 p.rows sound.rows (λ i r is. ap (slice_get p.rows) (omega arith) ∙ is)))

  new_stop : (x : TokenRef) (n : IsNew x) → moved (stop es x) ≡ t n.cell.held.stop
  new_stop x n = ap t (stop_is m b p x.sv.0 x.place n.row n.cell sound.rows n.is_row n.here)

  links_part : (v : ℕ) (r : Row) → slice_get p.rows v ≡ Some r → AllByRecursion (Holds t) (link_bounds 0 (cells r))
  links_part v r is = (each_split (Holds t) (flat_map (λ (c : Cell). token_bounds m b c.held) r.added) (link_bounds 0 (cells r)) (each_split (Holds t) (flat_map (λ (c : Cell). token_bounds m b c.held) r.added ++ link_bounds 0 (cells r)) (finish_bounds b r) (row_part v r is)).0).1

  new_start : (x : TokenRef) (n : IsNew x) → moved (start es x) ≡ t n.cell.held.start
  new_start x n = start_is m b p t x.sv.0 x.place n.row n.cell sound.rows n.is_row (row_done x.sv.0 n.row n.is_row).1 (links_part x.sv.0 n.row n.is_row) n.here

  -- the new horizon's point
  size : length b.base + 1 ≡ number b
  size = omega arith

  horizon_at : (hor es (number b) ≡ newest b) × (newest b < suc (count b.base))
  horizon_at =
      let name = horizon (number b) in
      let is : same_point name (horizon (length b.base + 1)) ≡ true = eq-eqb (number b) (length b.base + 1) (omega arith) in
      let r = place_same name (horizon (length b.base + 1)) (points_of b.base) [] (map (λ (x : TokenRef). ending x.sv.0 x.place) refs) is in
      let here : hor es (number b) ≡ place_of name (points_of b.base ++ horizon (length b.base + 1) ∷ map (λ (x : TokenRef). ending x.sv.0 x.place) refs) = ap (place_of name) (points-push b.base (extension m b p)) in
      let there : newest b ≡ place_of name (points_of b.base ++ horizon (length b.base + 1) ∷ []) = ap (place_of name) (points-push b.base _) in
      (here ∙ sym r.0 ∙ sym there, omega (arith, r.1, there))

  at_horizon : moved (hor es (number b)) ≡ t (newest b)
  at_horizon = ap moved horizon_at.0 ∙ stays (newest b) horizon_at.1

  at_origin : moved 0 ≡ t 0
  at_origin = stays 0 (omega arith)

  -- a point behind the horizon is a new token's end
  pub record IsFresh (x : ℕ) : Type 0 where
    pub held : Held
    pub same : moved x ≡ t held.stop
    pub bounds : AllByRecursion (Holds t) (token_bounds m b held)

  is_fresh : (x : ℕ) → suc (count b.base) ≤ x → x < count es → IsFresh x
  is_fresh x far near =
      let more = stub_count b in
      let split = points-push b.base (extension m b p) in
      let long = ap length split ∙ length-append (points_of b.base) (new_points b.base (extension m b p)) in
      let there : slice_get (points_of es) x ≡ slice_get (new_points b.base (extension m b p)) (x - count b.base) = ap (λ l. slice_get l x) split ∙ slice_get-past (points_of b.base) (new_points b.base (extension m b p)) x (omega arith) in
      let one_less : x - count b.base ≡ suc (x - suc (count b.base)) = omega arith in
      let name = slice_get-get_or (map (λ (x : TokenRef). ending x.sv.0 x.place) refs) (x - suc (count b.base)) origin (omega (arith, long)) in
      let r = slice_get-map_some (λ (x : TokenRef). ending x.sv.0 x.place) refs (x - suc (count b.base)) _ name in
      let n = each_at IsNew refs (x - suc (count b.base)) r.0 all_new r.1 in
      let told : slice_get (points_of es) x ≡ Some (ending (r.0).sv.0 (r.0).place) = there ∙ ap (slice_get (new_points b.base (extension m b p))) one_less ∙ name ∙ ap Some (sym r.2) in
      record {
        held = n.cell.held;
        same = ap t (cond-false _ _ _ (le-ltb x (count (stub b)) (omega arith)) ∙ ap (named_point p) told ∙ ap (λ (y : Held). y.stop) (held_is p (r.0).sv.0 (r.0).place n.row n.cell n.is_row n.here));
        bounds = n.bounds;
      }

  -- item by item
  horizon_good : Good (horizon_bounds m es (length b.base + 1))
  horizon_good =
      subst (λ k. Good (horizon_bounds m es k)) (sym size)
      (on_some_moves (Holds moved) (Holds t) (slice_get m.horizons (number b - 1)) (λ h. exactly (hor es (number b)) h.tick) (λ h. exactly (newest b) h.tick)
      (λ h holds. apart_moves moved t (hor es (number b)) 0 (newest b) 0 (range h.tick h.tick) at_horizon at_origin holds)
      (right _ _ (left _ _ (left _ _ (left _ _ begun_part)))).each)

  token_parts : (x : Held) → AllByRecursion (Holds t) (token_bounds m b x) → AllByRecursion (Holds t) (apart x.stop 0 whole) × AllByRecursion (Holds t) (on_some (value_of m x.kind) (λ v. apart x.stop x.start v.lasts)) × Holds t (bound (newest b) x.start (negsuc 0)) × Holds t (bound x.stop 0 (neg_ℤ b.since))
  token_parts x h =
      let a = each_split (Holds t) (apart x.start 0 whole ++ apart x.stop 0 whole ++ on_some (value_of m x.kind) (λ v. apart x.stop x.start v.lasts)) (bound (newest b) x.start (negsuc 0) ∷ bound x.stop 0 (neg_ℤ b.since) ∷ []) h in
      let c = each_split (Holds t) (apart x.start 0 whole ++ apart x.stop 0 whole) (on_some (value_of m x.kind) (λ v. apart x.stop x.start v.lasts)) a.0 in
      let d = each_split (Holds t) (apart x.start 0 whole) (apart x.stop 0 whole) c.0 in
      (d.1, c.1, a.1.0, a.1.1.0)

  first_points : Meets (point_bounds (count b.base) 1) t
  first_points = right _ _ (left _ _ (left _ _ begun_part))

  first_point : AllByRecursion (Holds t) (apart (count b.base) 0 whole)
  first_point = (each_split (Holds t) (apart (count b.base) 0 whole) [] first_points.each).0

  point_good : Good (point_bounds (count b.base) (count es - count b.base))
  point_good =
      each_flat_map (Holds moved) (λ x. apart x 0 whole) (numbers_from (count b.base) (count es - count b.base))
      (each_number (λ x. Good (apart x 0 whole)) (count b.base) (count es - count b.base) (λ x low high. elim (cases_lt x (suc (count b.base))) [
        | inl here ↦
            let same : count b.base ≡ x = omega arith in
            apart_moves moved t x 0 (count b.base) 0 whole (ap moved (sym same) ∙ stays (count b.base) (omega arith)) at_origin first_point
        | inr there ↦
            let f = is_fresh x there (omega arith) in
            apart_moves moved t x 0 f.held.stop 0 whole f.same at_origin (token_parts f.held f.bounds).0
      ]))

  length_good : Good (length_bounds m es refs)
  length_good =
      each_flat_map (Holds moved) (λ x. on_some (token_at es x) (λ k. on_some (value_of m k) (λ v. apart (stop es x) (start es x) v.lasts))) refs
      (each_weaker IsNew (λ x. Good (on_some (token_at es x) (λ k. on_some (value_of m k) (λ v. apart (stop es x) (start es x) v.lasts))))
      (λ x n. subst (λ (o : Option Kind). Good (on_some o (λ k. on_some (value_of m k) (λ v. apart (stop es x) (start es x) v.lasts)))) (sym n.kind)
      (on_some_moves (Holds moved) (Holds t) (value_of m n.cell.held.kind) (λ v. apart (stop es x) (start es x) v.lasts) (λ v. apart n.cell.held.stop n.cell.held.start v.lasts)
      (λ v holds. apart_moves moved t (stop es x) (start es x) n.cell.held.stop n.cell.held.start v.lasts (new_stop x n) (new_start x n) holds)
      (token_parts n.cell.held n.bounds).1))
      refs all_new)

  start_good : Good (start_bounds es (length b.base + 1) refs)
  start_good =
      each_map (Holds moved) (λ x. bound (hor es (length b.base + 1)) (start es x) (negsuc 0)) refs
      (each_weaker IsNew (λ x. Holds moved (bound (hor es (length b.base + 1)) (start es x) (negsuc 0)))
      (λ x n.
      let early = (token_parts n.cell.held n.bounds).2 in
      omega (arith, ints, early, new_start x n, ap (λ k. moved (hor es k)) size ∙ at_horizon))
      refs all_new)

  last_good : Good (last_bounds m es (length b.base + 1))
  last_good =
      each_flat_map (Holds moved) (λ v. last_bound es (length b.base + 1) v (length (timeline_of (tokens_of es) v))) (numbers_from 0 (length m.vars))
      (each_number (λ v. Good (last_bound es (length b.base + 1) v (length (timeline_of (tokens_of es) v)))) 0 (length m.vars) (λ v low high.
      let r = get_or p.rows v (record { given = []; added = []; finished = false }) in
      let is : slice_get p.rows v ≡ Some r = slice_get-get_or p.rows v _ (omega (arith, sound.one_each)) in
      let c = last_cell 0 (cells r) (row_is v r is).some in
      let many : length (timeline_of (tokens_of es) v) ≡ length (cells r) = ap length (timeline_is m b p v r sound.rows is) ∙ length-map' (λ (c : Cell). c.held.kind) (cells r) in
      let finishing : AllByRecursion (Holds t) (finish_bounds b r) = (each_split (Holds t) (flat_map (λ (c : Cell). token_bounds m b c.held) r.added ++ link_bounds 0 (cells r)) (finish_bounds b r) (row_part v r is)).1 in
      let finish : Holds t (bound (last_stop 0 (cells r)) (newest b) (negsuc 0)) = (rw (row_done v r is).0 at finishing).0 in
      by_size v r is c.0 c.1 c.2 finish (length (timeline_of (tokens_of es) v)) many))
    where
      by_size : (v : ℕ) (r : Row) → slice_get p.rows v ≡ Some r → (c : Cell) → slice_get (cells r) (length (cells r) - 1) ≡ Some c → last_stop 0 (cells r) ≡ c.held.stop → Holds t (bound (last_stop 0 (cells r)) (newest b) (negsuc 0)) → (n : ℕ) → n ≡ length (cells r) → Good (last_bound es (length b.base + 1) v n)
      by_size v r is c at last finish zero many = tt
      by_size v r is c at last finish (suc i) many =
          let e : i ≡ length (cells r) - 1 = omega arith in
          let here : slice_get (cells r) i ≡ Some c = ap (slice_get (cells r)) e ∙ at in
          let there : moved (place_of (ending v i) (points_of es)) ≡ t (last_stop 0 (cells r)) = ap t (stop_is m b p v i r c sound.rows is here ∙ sym last) in
          (omega (arith, ints, finish, there, ap (λ k. moved (hor es k)) size ∙ at_horizon), tt)

  fixed_good : Good (fixed_bounds b.fixed)
  fixed_good = all_stay (fixed_bounds b.fixed) (fixed_below b.fixed sound.fixed) (right _ _ (left _ _ begun_part)).each
    where
      fixed_below : (fs : List Time) → AllByRecursion (λ (f : Time). f.point.0 < count b.base) fs → AllByRecursion (IsBelow (suc (count b.base))) (fixed_bounds fs)
      fixed_below [] h = tt
      fixed_below (f ∷ fs) h = ((omega arith, omega (arith, h.0)), ((omega (arith, h.0), omega arith), fixed_below fs h.1))

  since_good : Good (since_bounds es b.since)
  since_good =
      each_flat_map (Holds moved) (λ x. cond (is_fixed es x) [] (bound x 0 (neg_ℤ b.since) ∷ [])) (numbers_from 1 (count es - 1))
      (each_number (λ x. Good (cond (is_fixed es x) [] (bound x 0 (neg_ℤ b.since) ∷ []))) 1 (count es - 1) (λ x low high. elim (cases_Bool (is_fixed es x)) [
        | inl fixed ↦ rw fixed tt
        | inr free ↦ rw free (elim (cases_lt x (suc (count b.base))) [
          | inl here ↦
              let more = stub_count b in
              let index : slice_get (numbers_from 1 (count (stub b) - 1)) (x - 1) ≡ Some x = number_at 1 (count (stub b) - 1) (x - 1) (omega arith) ∙ ap Some (omega arith) in
              let had : AllByRecursion (Holds t) (since_bounds (stub b) b.since) = (right _ _ begun_part).each in
              let one = each_flat (Holds t) (λ x. cond (is_fixed (stub b) x) [] (bound x 0 (neg_ℤ b.since) ∷ [])) (numbers_from 1 (count (stub b) - 1)) (x - 1) x had index in
              let free_there : is_fixed (stub b) x ≡ false = sym (fixed_same b.base (extension m b p) _ x refl) ∙ free in
              let holds = (rw free_there at one).0 in
              (omega (arith, ints, holds, stays x here, at_origin), tt)
          | inr there ↦
              let f = is_fresh x there (omega arith) in
              let holds = (token_parts f.held f.bounds).3 in
              (omega (arith, ints, holds, f.same, at_origin), tt)
        ])
      ]))

  -- the token that a name of the extension names
  pub record Refers (x : Held) : Type 0 where
    pub row : Row
    pub is_row : slice_get p.rows x.kind.sv.0 ≡ Some row
    pub cell : Cell
    pub here : slice_get (cells row) (ref_of p x).place ≡ Some cell
    pub held : cell.held ≡ x

  pub refers : (x : Held) → IsIn p x → Refers x
  refers x i =
      let same : row p x.kind.sv.0 ≡ i.row = get_or_from_slice_get p.rows x.kind.sv.0 i.row _ i.is_row in
      let f = place_found x.stop 0 i.place (cells i.row) i.cell i.here (ap (λ (y : Held). y.stop) i.held) in
      let there : slice_get (cells i.row) (place_in x.stop 0 (cells i.row)) ≡ Some f.1 = ap (slice_get (cells i.row)) (f.3 ∙ zero_plus f.0) ∙ f.2 in
      record {
        row = i.row;
        is_row = i.is_row;
        cell = f.1;
        here = ap (λ r. slice_get (cells i.row) (place_in x.stop 0 (cells r))) same ∙ there;
        held = sound.distinct x.kind.sv.0 x.kind.sv.0 (f.1).held x (record { row = i.row; is_row = i.is_row; place = place_in x.stop 0 (cells i.row); cell = f.1; here = there; held = refl }) i f.4;
      }

  ref_stop : (x : Held) → Refers x → moved (stop es (ref_of p x)) ≡ t x.stop
  ref_stop x r = ap t (stop_is m b p x.kind.sv.0 (ref_of p x).place r.row r.cell sound.rows r.is_row r.here ∙ ap (λ (y : Held). y.stop) r.held)

  ref_start : (x : Held) → Refers x → moved (start es (ref_of p x)) ≡ t x.start
  ref_start x r =
      start_is m b p t x.kind.sv.0 (ref_of p x).place r.row r.cell sound.rows r.is_row (row_done x.kind.sv.0 r.row r.is_row).1 (links_part x.kind.sv.0 r.row r.is_row) r.here
      ∙ ap (λ (y : Held). t y.start) r.held

  -- goals
  goals_good : (gs : List Goal) (w : ℕ) (os : List (Option Held)) → flat_map_from goal_flaws w os ≡ [] → AllByRecursion (IsGoalIn p) os → AllByRecursion (Holds t) (goals_met gs os) → Good (goal_bounds es gs (flat_map (λ o. on_some o (λ x. ref_of p x ∷ [])) os))
  goals_good [] w os none are h = tt
  goals_good (g ∷ gs) w [] none are h = tt
  goals_good (g ∷ gs) w (None ∷ os) none are h = absurd (cc)
  goals_good (g ∷ gs) w (Some x ∷ os) none are h =
      let r = refers x are.0 in
      let a = each_split (Holds t) (apart x.start 0 g.start ++ apart x.stop 0 g.stop) (goals_met gs os) h in
      let c = each_split (Holds t) (apart x.start 0 g.start) (apart x.stop 0 g.stop) a.0 in
      each_both (Holds moved) (apart (start es (ref_of p x)) 0 g.start ++ apart (stop es (ref_of p x)) 0 g.stop) (goal_bounds es gs (flat_map (λ o. on_some o (λ x. ref_of p x ∷ [])) os))
      (each_both (Holds moved) (apart (start es (ref_of p x)) 0 g.start) (apart (stop es (ref_of p x)) 0 g.stop)
      (apart_moves moved t (start es (ref_of p x)) 0 x.start 0 g.start (ref_start x r) at_origin c.0)
      (apart_moves moved t (stop es (ref_of p x)) 0 x.stop 0 g.stop (ref_stop x r) at_origin c.1))
      (goals_good gs (suc w) os none are.1 a.1)

  -- supports
  abbrev pub served_by : Support → Option Kind → Option Need → List Bound
  served_by s k o = on_some o (λ n. on_some k (λ k. on_some (choice_by n k) (λ (c : Choice). relation_bounds c.relation (start es s.token) (stop es s.token) (start es s.by) (stop es s.by))))

  abbrev pub OneGood : Support → Type 0
  OneGood s = Good (served_by s (token_at es s.by) (need_at m es s.token s.need))

  abbrev pub named_support : ℕ → ℕ → ℕ → Backing → Support
  named_support v i j s = record { token = at v i; need = j; by = ref_of p s.by }

  backing_good : (s : Backing) → IsIn p s.token → IsIn p s.by → AllByRecursion (Holds t) (backing_bounds m s) → (v i : ℕ) (r : Row) (c : Cell) → slice_get p.rows v ≡ Some r → slice_get (cells r) i ≡ Some c → s.token.stop ≡ c.held.stop → OneGood (named_support v i s.need s)
  backing_good s x y h v i r c is here same =
      let u : Support = named_support v i s.need s in
      let token : s.token ≡ c.held = sound.distinct s.token.kind.sv.0 v s.token c.held x (record { row = r; is_row = is; place = i; cell = c; here = here; held = refl }) same in
      let f = refers s.by y in
      let told : token_at es (at v i) ≡ Some s.token.kind = ap (λ l. slice_get l i) (timeline_is m b p v r sound.rows is) ∙ slice_get-map (λ (c : Cell). c.held.kind) (cells r) i ∙ ap (option_map (λ (c : Cell). c.held.kind)) here ∙ ap (λ (z : Held). Some z.kind) (sym token) in
      let served : token_at es (ref_of p s.by) ≡ Some s.by.kind = ap (λ l. slice_get l (ref_of p s.by).place) (timeline_is m b p s.by.kind.sv.0 f.row sound.rows f.is_row) ∙ slice_get-map (λ (c : Cell). c.held.kind) (cells f.row) (ref_of p s.by).place ∙ ap (option_map (λ (c : Cell). c.held.kind)) f.here ∙ ap (λ (z : Held). Some z.kind) f.held in
      let stops : moved (stop es (at v i)) ≡ t s.token.stop = ap t (stop_is m b p v i r c sound.rows is here) ∙ ap (λ (z : Held). t z.stop) (sym token) in
      let starts : moved (start es (at v i)) ≡ t s.token.start = start_is m b p t v i r c sound.rows is (row_done v r is).1 (links_part v r is) here ∙ ap (λ (z : Held). t z.start) (sym token) in
      let good : Good (served_by u (Some s.by.kind) (slice_get (needs_of m s.token.kind) s.need)) =
      on_some_moves (Holds moved) (Holds t) (slice_get (needs_of m s.token.kind) s.need) (λ n. on_some (choice_by n s.by.kind) (λ (c : Choice). relation_bounds c.relation (start es (at v i)) (stop es (at v i)) (start es (ref_of p s.by)) (stop es (ref_of p s.by)))) (λ n. on_some (choice_by n s.by.kind) (λ (c : Choice). relation_bounds c.relation s.token.start s.token.stop s.by.start s.by.stop))
      (λ n. on_some_moves (Holds moved) (Holds t) (choice_by n s.by.kind) (λ (c : Choice). relation_bounds c.relation (start es (at v i)) (stop es (at v i)) (start es (ref_of p s.by)) (stop es (ref_of p s.by))) (λ (c : Choice). relation_bounds c.relation s.token.start s.token.stop s.by.start s.by.stop)
      (λ q holds. relation_moves moved t q.relation (start es (at v i)) (stop es (at v i)) (start es (ref_of p s.by)) (stop es (ref_of p s.by)) s.token.start s.token.stop s.by.start s.by.stop starts stops (ref_start s.by f) (ref_stop s.by f) holds)) h in
      subst (λ (k : Option Kind). Good (served_by u k (need_at m es u.token u.need))) (sym served)
      (subst (λ (k : Option Kind). Good (served_by u (Some s.by.kind) (need_of m k s.need))) (sym told) good)

  supports_part : AllByRecursion (λ s. AllByRecursion (Holds t) (backing_bounds m s)) p.supports
  supports_part = each_of_flat (Holds t) (backing_bounds m) p.supports (each_split (Holds t) (begun_bounds m b ++ of_rows) of_supports (each_split (Holds t) (begun_bounds m b ++ of_rows ++ of_supports) of_goals meets.each).0).1

  supports_good : AllByRecursion OneGood (extension m b p).supports
  supports_good =
      each_flat_map_from OneGood (λ v r. flat_map_from (supports_at m p v) 0 (cells r)) 0 p.rows (λ v r is.
      each_flat_map_from OneGood (supports_at m p (0 + v)) 0 (cells r) (λ i c here.
      each_flat_map OneGood (λ j. flat_map (λ (s : Backing). named_support (0 + v) (0 + i) j s ∷ []) (filter (λ (s : Backing). nat_eq s.token.stop c.held.stop && nat_eq s.need j) p.supports)) (numbers_from 0 (length (needs_of m c.held.kind)))
      (each_number (λ j. AllByRecursion OneGood (flat_map (λ (s : Backing). named_support (0 + v) (0 + i) j s ∷ []) (filter (λ (s : Backing). nat_eq s.token.stop c.held.stop && nat_eq s.need j) p.supports))) 0 (length (needs_of m c.held.kind)) (λ j low high.
      each_flat_map OneGood (λ (s : Backing). named_support (0 + v) (0 + i) j s ∷ []) (filter (λ (s : Backing). nat_eq s.token.stop c.held.stop && nat_eq s.need j) p.supports)
      (each_weaker _ (λ s. AllByRecursion OneGood (named_support (0 + v) (0 + i) j s ∷ []))
      (λ (s : Backing) (h : ((IsIn p s.token × IsIn p s.by) × AllByRecursion (Holds t) (backing_bounds m s)) × ((nat_eq s.token.stop c.held.stop && nat_eq s.need j) ≡ true)).
      let parts = and_parts (nat_eq s.token.stop c.held.stop) (nat_eq s.need j) h.1 in
      let which : s.need ≡ j = eqb-true _ _ parts.1 in
      let good = backing_good s h.0.0.0 h.0.0.1 h.0.1 v i r c is here (eqb-true _ _ parts.0) in
      (subst (λ n. OneGood (named_support n (0 + i) j s)) (sym (zero_plus v)) (subst (λ n. OneGood (named_support v n j s)) (sym (zero_plus i)) (subst (λ n. OneGood (named_support v i n s)) which good)), tt))
      (filter (λ (s : Backing). nat_eq s.token.stop c.held.stop && nat_eq s.need j) p.supports)
      (each_filter (λ s. (IsIn p s.token × IsIn p s.by) × AllByRecursion (Holds t) (backing_bounds m s)) (λ (s : Backing). nat_eq s.token.stop c.held.stop && nat_eq s.need j) p.supports (each_two (λ (s : Backing). IsIn p s.token × IsIn p s.by) (λ s. AllByRecursion (Holds t) (backing_bounds m s)) p.supports sound.backed supports_part)))))))

  -- the renaming law
  pub plan_meets : Meets (bounds_of m es) moved
  plan_meets = record {
    origin = at_origin ∙ meets.origin;
    each =
        rw (join_after-push (new_bounds m) [] b.base (extension m b p))
        (each_both (Holds moved) (bounds_of m b.base) (new_bounds m b.base (extension m b p)) base_good
        (each_both (Holds moved) _ (since_bounds es b.since)
        (each_both (Holds moved) _ (fixed_bounds b.fixed)
        (each_both (Holds moved) _ (goal_bounds es (goals_of m (length b.base + 1)) (extension m b p).goals)
        (each_both (Holds moved) _ (support_bounds m es (extension m b p).supports)
        (each_both (Holds moved) _ (last_bounds m es (length b.base + 1))
        (each_both (Holds moved) _ (start_bounds es (length b.base + 1) refs)
        (each_both (Holds moved) _ (length_bounds m es refs)
        (each_both (Holds moved) (horizon_bounds m es (length b.base + 1)) (point_bounds (count b.base) (count es - count b.base)) horizon_good point_good)
        length_good) start_good) last_good)
        (each_flat_map (Holds moved) (λ s. served_by s (token_at es s.by) (need_at m es s.token s.need)) (extension m b p).supports supports_good))
        (subst (λ k. Good (goal_bounds es (goals_of m k) (extension m b p).goals)) (sym size) (goals_good (goals_of m (number b)) 0 p.goals goals_none sound.goals (each_split (Holds t) (begun_bounds m b ++ of_rows ++ of_supports) of_goals meets.each).1)))
        fixed_good) since_good));
  }
    where
      goals_none : goal_part ≡ []
      goals_none = (append_none goal_part need_part (append_none (goal_part ++ need_part) gap_part flawless).0).0
