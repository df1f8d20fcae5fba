-- What a part adds to the bounds of a partial plan.
-- the value of a new token is known, and lasts no less than nothing
use Rattle.std.proofs.Common.{List, None, Option, Some, [], ap, arith, cond, false, flat_map, get_or, inl, inr, length, map, negsuc, pos, refl, set, slice_get, subst, suc, sym, true, zero, ℕ, ◌++◌, ◌-◌, ◌<◌, ◌∙◌, ◌∷◌, ◌≡◌, ◌≤ℤ◌, ◌≤◌}
use Rattle.std.proofs.lemmas.Bool.{cases_Bool, cases_lt, false≢true}
use Rattle.std.proofs.lemmas.Int.{ints}
use Rattle.std.proofs.lemmas.List.Edits.{insert-append_right}
use Rattle.std.proofs.lemmas.Option.{get_or_from_slice_get, slice_get-get_or}
use Rattle.std.specs.List.{AllByRecursion}
use Rattle.std.specs.Prelude.{insert}
use Rattle.hs_base.specs.Bounds.{apart, goals_of, on_some, together}
use Rattle.hs_base.specs.Missions.{IsMission}
use Rattle.hs_base.specs.Points.{value_of}
use Rattle.hs_base.specs.Ranges.{whole}
use Rattle.hs_base.specs.Schedule.{Holds, Meets, Schedule, bound}
use Rattle.hs_base.specs.declared.mission.Goal.{Goal}
use Rattle.hs_base.specs.declared.mission.Kind.{Kind}
use Rattle.hs_base.specs.declared.mission.Mission.{Mission}
use Rattle.hs_base.specs.declared.mission.Value.{Value}
use Rattle.hs_base.specs.declared.net.Bound.{Bound}
use Rattle.hs_base.specs.declared.plan.TokenRef.{TokenRef}
use Rattle.base_laws.proofs.ListLemmas.{each_both, each_split}
use Rattle.base_laws.proofs.MissionLemmas.{lasts_low}
use Rattle.search_tree.proofs.CellLemmas.{before_is, given_cell, held_is, length-map', some_before, stop_before}
use Rattle.search_tree.specs.Begun.{Begun, newest, number}
use Rattle.search_tree.specs.May.{IsSlot, MayDo}
use Rattle.search_tree.specs.PartBounds.{Adds, cell_bounds, link}
use Rattle.search_tree.specs.Partial.{Partial, Row, cells, held_at, held_by, kind_of, nobody, row}
use Rattle.search_tree.specs.PartialBounds.{backing_bounds, begun_bounds, finish_bounds, goals_met, last_stop, link_bounds, partial_bounds, row_bounds, token_bounds}
use Rattle.search_tree.specs.Parts.{at_place, close, end_row, gap_cell, joined_cell, put, with_rows}
use Rattle.search_tree.specs.declared.backing.Backing.{Backing}
use Rattle.search_tree.specs.declared.held.Cell.{Cell}
use Rattle.search_tree.specs.declared.held.Held.{Held}
use Rattle.search_tree.specs.declared.part.Part.{Part}
use Rattle.search_tree.specs.declared.part.Part.TheVariants.{Deferred, Finished, Followed, Inserted, Joined, MetGoal, Supported}

pub record Lasting (m : Mission) (k : Kind) : Type 0 where
  pub value : Value
  pub is : value_of m k ≡ Some value
  pub least : pos 0 ≤ℤ value.lasts.low

abbrev pub Both : Type 0 → Type 0 → Type 0
Both A B = (A → B) × (B → A)

abbrev pub All' : Schedule → List Bound → Type 0
All' t bs = AllByRecursion (Holds t) bs

-- one row is changed
pub at_place_adds : (t : Schedule) (f : Row → List Bound) (g : Row → Row) (v : ℕ) (rows : List Row) (r : Row) (extra : Type 0) → slice_get rows v ≡ Some r → Both (All' t (f (g r))) (All' t (f r) × extra) → Both (All' t (flat_map f (at_place g v rows))) (All' t (flat_map f rows) × extra)
at_place_adds t f g v [] r extra is h = absurd (cc)
at_place_adds t f g zero (q ∷ rows) r extra is h =
    let same : q ≡ r = cc in
    let k = subst (λ (x : Row). Both (All' t (f (g x))) (All' t (f x) × extra)) (sym same) h in (
      (λ a. let s = each_split (Holds t) (f (g q)) (flat_map f rows) a in let d = k.0 s.0 in (each_both (Holds t) (f q) (flat_map f rows) d.0 s.1, d.1)),
      λ a. let s = each_split (Holds t) (f q) (flat_map f rows) a.0 in each_both (Holds t) (f (g q)) (flat_map f rows) (k.1 (s.0, a.1)) s.1,
    )
at_place_adds t f g (suc v) (q ∷ rows) r extra is h =
    let k = at_place_adds t f g v rows r extra is h in (
      (λ a. let s = each_split (Holds t) (f q) (flat_map f (at_place g v rows)) a in let d = k.0 s.1 in (each_both (Holds t) (f q) (flat_map f rows) s.0 d.0, d.1)),
      λ a. let s = each_split (Holds t) (f q) (flat_map f rows) a.0 in each_both (Holds t) (f q) (flat_map f (at_place g v rows)) s.0 (k.1 (s.1, a.1)),
    )

link_order : (t : Schedule) (x : ℕ) (c : Cell) → All' t (link x c) → t x ≤ℤ t c.held.start
link_order t x c h = elim (cases_Bool c.joined) [
  | inl shut ↦ let b = rw shut at h in omega (arith, ints, b.0, b.1.0)
  | inr ajar ↦ let b = rw ajar at h in omega (arith, ints, b.0)
]

-- a cell between others
pub link_insert : (t : Schedule) (x : ℕ) (cs : List Cell) (k : ℕ) (c : Cell) → k ≤ length cs → ((d : Cell) → slice_get cs k ≡ Some d → d.joined ≡ false) → t c.held.start ≤ℤ t c.held.stop → Both (All' t (link_bounds x (insert cs k c))) (All' t (link_bounds x cs) × All' t (link (stop_before x cs k) c ++ on_some (slice_get cs k) (λ d. bound d.held.start c.held.stop (pos 0) ∷ [])))
link_insert t x [] zero c below ajar long = ((λ a. (tt, a)), λ a. a.1)
link_insert t x [] (suc k) c below ajar long = absurd (omega arith)
link_insert t x (d ∷ ds) zero c below ajar long =
    let gap : d.joined ≡ false = ajar d refl in (
      (λ a.
          let s = each_split (Holds t) (link x c) (link_bounds c.held.stop (d ∷ ds)) a in
          let o = each_split (Holds t) (link c.held.stop d) (link_bounds d.held.stop ds) s.1 in
          let one : All' t (bound d.held.start c.held.stop (pos 0) ∷ []) = rw gap at o.0 in
          let order = link_order t x c s.0 in
          let was : All' t (link x d) = rw gap (omega (arith, ints, one.0, order, long), tt) in
          (each_both (Holds t) (link x d) (link_bounds d.held.stop ds) was o.1, each_both (Holds t) (link x c) (bound d.held.start c.held.stop (pos 0) ∷ []) s.0 one)),
      λ a.
          let s = each_split (Holds t) (link x d) (link_bounds d.held.stop ds) a.0 in
          let o = each_split (Holds t) (link x c) (bound d.held.start c.held.stop (pos 0) ∷ []) a.1 in
          let one : All' t (link c.held.stop d) = rw gap o.1 in
          each_both (Holds t) (link x c) (link_bounds c.held.stop (d ∷ ds)) o.0 (each_both (Holds t) (link c.held.stop d) (link_bounds d.held.stop ds) one s.1),
    )
link_insert t x (d ∷ ds) (suc k) c below ajar long =
    let r = link_insert t d.held.stop ds k c (omega arith) ajar long in (
      (λ a. let s = each_split (Holds t) (link x d) (link_bounds d.held.stop (insert ds k c)) a in let e = r.0 s.1 in (each_both (Holds t) (link x d) (link_bounds d.held.stop ds) s.0 e.0, e.1)),
      λ a. let s = each_split (Holds t) (link x d) (link_bounds d.held.stop ds) a.0 in each_both (Holds t) (link x d) (link_bounds d.held.stop (insert ds k c)) s.0 (r.1 (s.1, a.1)),
    )

pub each_insert : {X : Type 0} (t : Schedule) (f : X → List Bound) (xs : List X) (k : ℕ) (x : X) → Both (All' t (flat_map f (insert xs k x))) (All' t (flat_map f xs) × All' t (f x))
each_insert t f [] zero x = ((λ a. (tt, (each_split (Holds t) (f x) [] a).0)), λ a. each_both (Holds t) (f x) [] a.1 tt)
each_insert t f [] (suc k) x = ((λ a. (tt, (each_split (Holds t) (f x) [] a).0)), λ a. each_both (Holds t) (f x) [] a.1 tt)
each_insert t f (y ∷ ys) zero x =
    ((λ a. let s = each_split (Holds t) (f x) (flat_map f (y ∷ ys)) a in (s.1, s.0)), λ a. each_both (Holds t) (f x) (flat_map f (y ∷ ys)) a.1 a.0)
each_insert t f (y ∷ ys) (suc k) x =
    let r = each_insert t f ys k x in (
      (λ a. let s = each_split (Holds t) (f y) (flat_map f (insert ys k x)) a in let e = r.0 s.1 in (each_both (Holds t) (f y) (flat_map f ys) s.0 e.0, e.1)),
      λ a. let s = each_split (Holds t) (f y) (flat_map f ys) a.0 in each_both (Holds t) (f y) (flat_map f (insert ys k x)) s.0 (r.1 (s.1, a.1)),
    )

-- the last end stays where something stands behind the new cell
last_stop-insert : (x : ℕ) (cs : List Cell) (k : ℕ) (c : Cell) → k < length cs → last_stop x (insert cs k c) ≡ last_stop x cs
last_stop-insert x [] k c below = absurd (omega arith)
last_stop-insert x (d ∷ ds) zero c below = refl
last_stop-insert x (d ∷ ds) (suc k) c below = last_stop-insert d.held.stop ds k c (omega arith)

pub cells-put : (i : ℕ) (c : Cell) (r : Row) → length r.given ≤ suc i → cells (put i c r) ≡ insert (cells r) (suc i) c
cells-put i c r below = sym (insert-append_right (map given_cell r.given) r.added (length r.given) (suc i) c (length-map' given_cell r.given) below)

at_place-append : {X : Type 0} (f : X → X) (xs ys : List X) (k : ℕ) → length xs ≤ k → at_place f k (xs ++ ys) ≡ xs ++ at_place f (k - length xs) ys
at_place-append f [] ys k below = ap (λ n. at_place f n ys) (omega arith)
at_place-append f (x ∷ xs) ys zero below = absurd (omega arith)
at_place-append f (x ∷ xs) ys (suc k) below =
    let e : suc k - length (x ∷ xs) ≡ k - length xs = omega arith in
    ap (λ l. x ∷ l) (at_place-append f xs ys k (omega arith) ∙ ap (λ n. xs ++ at_place f n ys) (sym e))

abbrev pub shut : Cell → Cell
shut c = record { held = c.held; joined = true }

pub cells-close : (i : ℕ) (r : Row) → length r.given ≤ suc i → cells (close i r) ≡ at_place shut (suc i) (cells r)
cells-close i r below =
    let e = length-map' given_cell r.given in
    sym (at_place-append shut (map given_cell r.given) r.added (suc i) (omega arith) ∙ ap (λ n. map given_cell r.given ++ at_place shut (suc i - n) r.added) e)

same_news : (f : Held → List Bound) (k : ℕ) (cs : List Cell) → flat_map (λ (c : Cell). f c.held) (at_place shut k cs) ≡ flat_map (λ (c : Cell). f c.held) cs
same_news f k [] = refl
same_news f zero (c ∷ cs) = refl
same_news f (suc k) (c ∷ cs) = ap (λ l. f c.held ++ l) (same_news f k cs)

same_last : (x k : ℕ) (cs : List Cell) → last_stop x (at_place shut k cs) ≡ last_stop x cs
same_last x k [] = refl
same_last x zero (c ∷ cs) = refl
same_last x (suc k) (c ∷ cs) = same_last c.held.stop k cs

link_close : (t : Schedule) (x k : ℕ) (cs : List Cell) (d : Cell) → slice_get cs k ≡ Some d → d.joined ≡ false → Both (All' t (link_bounds x (at_place shut k cs))) (All' t (link_bounds x cs) × All' t (together d.held.start (stop_before x cs k)))
link_close t x k [] d is ajar = absurd (cc)
link_close t x zero (c ∷ cs) d is ajar =
    let same : c ≡ d = cc in
    let gap : c.joined ≡ false = ap (λ (y : Cell). y.joined) same ∙ ajar in
    let moved = ap (λ (y : Cell). together y.held.start x) same in (
      (λ a.
          let s = each_split (Holds t) (together c.held.start x) (link_bounds c.held.stop cs) a in
          let was : All' t (link x c) = rw gap (omega (arith, ints, s.0.0, s.0.1.0), tt) in
          (each_both (Holds t) (link x c) (link_bounds c.held.stop cs) was s.1, subst (All' t) moved s.0)),
      λ a.
          let s = each_split (Holds t) (link x c) (link_bounds c.held.stop cs) a.0 in
          each_both (Holds t) (together c.held.start x) (link_bounds c.held.stop cs) (subst (All' t) (sym moved) a.1) s.1,
    )
link_close t x (suc k) (c ∷ cs) d is ajar =
    let r = link_close t c.held.stop k cs d is ajar in (
      (λ a. let s = each_split (Holds t) (link x c) (link_bounds c.held.stop (at_place shut k cs)) a in let e = r.0 s.1 in (each_both (Holds t) (link x c) (link_bounds c.held.stop cs) s.0 e.0, e.1)),
      λ a. let s = each_split (Holds t) (link x c) (link_bounds c.held.stop cs) a.0 in each_both (Holds t) (link x c) (link_bounds c.held.stop (at_place shut k cs)) s.0 (r.1 (s.1, a.1)),
    )

module _ (m : Mission) (b : Begun) (t : Schedule) where
  long_enough : (x : Held) → Lasting m x.kind → All' t (token_bounds m b x) → t x.start ≤ℤ t x.stop
  long_enough x l h =
      let a = each_split (Holds t) (apart x.start 0 whole ++ apart x.stop 0 whole ++ on_some (value_of m x.kind) (λ v. apart x.stop x.start v.lasts)) _ h in
      let c = each_split (Holds t) (apart x.start 0 whole ++ apart x.stop 0 whole) (on_some (value_of m x.kind) (λ v. apart x.stop x.start v.lasts)) a.0 in
      let d : All' t (apart x.stop x.start l.value.lasts) = subst (λ (o : Option Value). All' t (on_some o (λ v. apart x.stop x.start v.lasts))) l.is c.1 in
      let least = l.least in
      omega (arith, ints, d.1.0, least)

  finish_insert : (i : ℕ) (c : Cell) (r : Row) → IsSlot i r → finish_bounds b (put i c r) ≡ finish_bounds b r
  finish_insert i c r s = elim (cases_Bool r.finished) [
    | inl yes' ↦
        let not_end : (suc i ≡ length (cells r)) → ⊥ = λ e. false≢true (sym (s.yet e) ∙ yes') in
        let place = s.place in
        let below : suc i < length (cells r) = elim (cases_lt (suc i) (length (cells r))) [ inl h ↦ h | inr h ↦ absurd (not_end (omega arith)) ] in
        rw yes' (ap (λ n. bound n (newest b) (negsuc 0) ∷ []) (ap (last_stop 0) (cells-put i c r s.after) ∙ last_stop-insert 0 (cells r) (suc i) c below))
    | inr no' ↦ rw no' refl
  ]

  pub row_put : (i : ℕ) (c : Cell) (r : Row) → IsSlot i r → Lasting m c.held.kind → Both (All' t (row_bounds m b (put i c r))) (All' t (row_bounds m b r) × All' t (cell_bounds m b (stop_before 0 (cells r) (suc i)) c (slice_get (cells r) (suc i))))
  row_put i c r s l =
      let news = flat_map (λ (c : Cell). token_bounds m b c.held) r.added in
      let news' = flat_map (λ (c : Cell). token_bounds m b c.held) (insert r.added (suc i - length r.given) c) in
      let links' = link_bounds 0 (cells (put i c r)) in
      let x = stop_before 0 (cells r) (suc i) in
      let behind = on_some (slice_get (cells r) (suc i)) (λ (d : Cell). bound d.held.start c.held.stop (pos 0) ∷ []) in
      let tokens = each_insert t (λ (c : Cell). token_bounds m b c.held) r.added (suc i - length r.given) c in
      let linked : t c.held.start ≤ℤ t c.held.stop → Both (All' t links') (All' t (link_bounds 0 (cells r)) × All' t (link x c ++ behind)) = λ long. subst (λ (l : List Cell). Both (All' t (link_bounds 0 l)) (All' t (link_bounds 0 (cells r)) × All' t (link x c ++ behind))) (sym (cells-put i c r s.after)) (link_insert t 0 (cells r) (suc i) c s.place s.gap long) in
      let ends = finish_insert i c r s in (
        (λ a.
            let u = each_split (Holds t) (news' ++ links') (finish_bounds b (put i c r)) a in
            let w = each_split (Holds t) news' links' u.0 in
            let n = tokens.0 w.0 in
            let k = (linked (long_enough c.held l n.1)).0 w.1 in
            let o = each_split (Holds t) (link x c) behind k.1 in (
              each_both (Holds t) (news ++ link_bounds 0 (cells r)) (finish_bounds b r) (each_both (Holds t) news (link_bounds 0 (cells r)) n.0 k.0) (subst (All' t) ends u.1),
              each_both (Holds t) (token_bounds m b c.held ++ link x c) behind (each_both (Holds t) (token_bounds m b c.held) (link x c) n.1 o.0) o.1,
            )),
        λ a.
            let u = each_split (Holds t) (news ++ link_bounds 0 (cells r)) (finish_bounds b r) a.0 in
            let w = each_split (Holds t) news (link_bounds 0 (cells r)) u.0 in
            let y = each_split (Holds t) (token_bounds m b c.held ++ link x c) behind a.1 in
            let z = each_split (Holds t) (token_bounds m b c.held) (link x c) y.0 in
            each_both (Holds t) (news' ++ links') (finish_bounds b (put i c r)) (each_both (Holds t) news' links' (tokens.1 (w.0, z.0)) ((linked (long_enough c.held l z.0)).1 (w.1, each_both (Holds t) (link x c) behind z.1 y.1))) (subst (All' t) (sym ends) u.1),
      )

  row_close : (i : ℕ) (r : Row) (d : Cell) → length r.given ≤ suc i → slice_get (cells r) (suc i) ≡ Some d → d.joined ≡ false → Both (All' t (row_bounds m b (close i r))) (All' t (row_bounds m b r) × All' t (together d.held.start (stop_before 0 (cells r) (suc i))))
  row_close i r d after is ajar =
      let news = flat_map (λ (c : Cell). token_bounds m b c.held) r.added in
      let news' = flat_map (λ (c : Cell). token_bounds m b c.held) (at_place shut (suc i - length r.given) r.added) in
      let same = same_news (token_bounds m b) (suc i - length r.given) r.added in
      let links' = link_bounds 0 (cells (close i r)) in
      let x = stop_before 0 (cells r) (suc i) in
      let linked : Both (All' t links') (All' t (link_bounds 0 (cells r)) × All' t (together d.held.start x)) = subst (λ (l : List Cell). Both (All' t (link_bounds 0 l)) (All' t (link_bounds 0 (cells r)) × All' t (together d.held.start x))) (sym (cells-close i r after)) (link_close t 0 (suc i) (cells r) d is ajar) in
      let ends : finish_bounds b (close i r) ≡ finish_bounds b r = ap (λ n. cond r.finished (bound n (newest b) (negsuc 0) ∷ []) []) (ap (last_stop 0) (cells-close i r after) ∙ same_last 0 (suc i) (cells r)) in (
        (λ a.
            let u = each_split (Holds t) (news' ++ links') (finish_bounds b (close i r)) a in
            let w = each_split (Holds t) news' links' u.0 in
            let k = linked.0 w.1 in
            (each_both (Holds t) (news ++ link_bounds 0 (cells r)) (finish_bounds b r) (each_both (Holds t) news (link_bounds 0 (cells r)) (subst (All' t) same w.0) k.0) (subst (All' t) ends u.1), k.1)),
        λ a.
            let u = each_split (Holds t) (news ++ link_bounds 0 (cells r)) (finish_bounds b r) a.0 in
            let w = each_split (Holds t) news (link_bounds 0 (cells r)) u.0 in
            each_both (Holds t) (news' ++ links') (finish_bounds b (close i r)) (each_both (Holds t) news' links' (subst (All' t) (sym same) w.0) (linked.1 (w.1, a.1))) (subst (All' t) (sym ends) u.1),
      )

  row_end : (r : Row) → r.finished ≡ false → Both (All' t (row_bounds m b (end_row r))) (All' t (row_bounds m b r) × All' t (bound (last_stop 0 (cells r)) (newest b) (negsuc 0) ∷ []))
  row_end r yet =
      let most = flat_map (λ (c : Cell). token_bounds m b c.held) r.added ++ link_bounds 0 (cells r) in (
        (λ a. let u = each_split (Holds t) most (bound (last_stop 0 (cells r)) (newest b) (negsuc 0) ∷ []) a in (each_both (Holds t) most (finish_bounds b r) u.0 (rw yet tt), u.1)),
        λ a. let u = each_split (Holds t) most (finish_bounds b r) a.0 in each_both (Holds t) most (bound (last_stop 0 (cells r)) (newest b) (negsuc 0) ∷ []) u.0 a.1,
      )

  -- a changed row in the partial plan
  rows_add : (p : Partial) (v grown : ℕ) (r : Row) (g : Row → Row) (more : List Bound) → slice_get p.rows v ≡ Some r → Both (All' t (row_bounds m b (g r))) (All' t (row_bounds m b r) × All' t more) → Both (Meets (partial_bounds m b (with_rows p grown (at_place g v p.rows))) t) (Meets (partial_bounds m b p ++ more) t)
  rows_add p v grown r g more is h =
      let k = at_place_adds t (row_bounds m b) g v p.rows r (All' t more) is h in
      let rows = flat_map (row_bounds m b) p.rows in
      let rows' = flat_map (row_bounds m b) (at_place g v p.rows) in
      let supports = flat_map (backing_bounds m) p.supports in
      let goals = goals_met (goals_of m (number b)) p.goals in (
        (λ a.
            let x = each_split (Holds t) (begun_bounds m b ++ rows' ++ supports) goals a.each in
            let y = each_split (Holds t) (begun_bounds m b ++ rows') supports x.0 in
            let z = each_split (Holds t) (begun_bounds m b) rows' y.0 in
            let e = k.0 z.1 in
            record { origin = a.origin; each = each_both (Holds t) (begun_bounds m b ++ rows ++ supports ++ goals) more (each_both (Holds t) (begun_bounds m b ++ rows ++ supports) goals (each_both (Holds t) (begun_bounds m b ++ rows) supports (each_both (Holds t) (begun_bounds m b) rows z.0 e.0) y.1) x.1) e.1 }),
        λ a.
            let w = each_split (Holds t) (begun_bounds m b ++ rows ++ supports ++ goals) more a.each in
            let x = each_split (Holds t) (begun_bounds m b ++ rows ++ supports) goals w.0 in
            let y = each_split (Holds t) (begun_bounds m b ++ rows) supports x.0 in
            let z = each_split (Holds t) (begun_bounds m b) rows y.0 in
            record { origin = a.origin; each = each_both (Holds t) (begun_bounds m b ++ rows' ++ supports) goals (each_both (Holds t) (begun_bounds m b ++ rows') supports (each_both (Holds t) (begun_bounds m b) rows' z.0 (k.1 (z.1, w.1))) y.1) x.1 },
      )

-- the laws of the parts that change a row
module _ (m : Mission) (b : Begun) (p : Partial) (v i : ℕ) (r : Row) (is : slice_get p.rows v ≡ Some r) where
  row_here : row p v ≡ r
  row_here = get_or_from_slice_get p.rows v r _ is

  before_here : (c : Cell) → slice_get (cells r) i ≡ Some c → stop_before 0 (cells r) (suc i) ≡ (held_at p v i).stop
  before_here c here = before_is 0 (cells r) i c here ∙ ap (λ (y : Held). y.stop) (sym (held_is p v i r c is here))

  put_adds : (grown : ℕ) (c : Cell) (d : Cell) → slice_get (cells r) i ≡ Some d → IsSlot i r → Lasting m c.held.kind → (t : Schedule) → Both (Meets (partial_bounds m b (with_rows p grown (at_place (put i c) v p.rows))) t) (Meets (partial_bounds m b p ++ cell_bounds m b (held_at p v i).stop c (slice_get (cells (row p v)) (suc i))) t)
  put_adds grown c d here s l t =
      let h = row_put m b t i c r s l in
      let h' = subst (λ n. Both (All' t (row_bounds m b (put i c r))) (All' t (row_bounds m b r) × All' t (cell_bounds m b n c (slice_get (cells r) (suc i))))) (before_here d here) h in
      let h'' = subst (λ q. Both (All' t (row_bounds m b (put i c r))) (All' t (row_bounds m b r) × All' t (cell_bounds m b (held_at p v i).stop c (slice_get (cells q) (suc i))))) (sym row_here) h' in
      rows_add m b t p v grown r (put i c) _ is h''

  pub adds_insert : (value : ℕ) (d : Cell) → slice_get (cells r) i ≡ Some d → IsSlot i r → Lasting m (kind_of v value) → Adds m b p (Inserted (record { 0 = v }) i (record { 0 = value }))
  adds_insert value d here s l = record { keeps = λ t. (put_adds 2 (gap_cell p v value) d here s l t).0; tells = λ t. (put_adds 2 (gap_cell p v value) d here s l t).1 }

  pub adds_follow : (value : ℕ) (d : Cell) → slice_get (cells r) i ≡ Some d → IsSlot i r → Lasting m (kind_of v value) → Adds m b p (Followed (record { 0 = v }) i (record { 0 = value }))
  adds_follow value d here s l = record { keeps = λ t. (put_adds 1 (joined_cell p v i value) d here s l t).0; tells = λ t. (put_adds 1 (joined_cell p v i value) d here s l t).1 }

  pub adds_finish : r.finished ≡ false → Adds m b p (Finished (record { 0 = v }))
  adds_finish yet =
      let h : (t : Schedule) → Both (All' t (row_bounds m b (end_row r))) (All' t (row_bounds m b r) × All' t (bound (last_stop 0 (cells (row p v))) (newest b) (negsuc 0) ∷ [])) = λ t. subst (λ q. Both (All' t (row_bounds m b (end_row r))) (All' t (row_bounds m b r) × All' t (bound (last_stop 0 (cells q)) (newest b) (negsuc 0) ∷ []))) (sym row_here) (row_end m b t r yet) in
      record { keeps = λ t. (rows_add m b t p v 0 r end_row _ is (h t)).0; tells = λ t. (rows_add m b t p v 0 r end_row _ is (h t)).1 }

  -- a join, where there is a gap behind place i
  pub adds_join : (c d : Cell) → slice_get (cells r) i ≡ Some c → slice_get (cells r) (suc i) ≡ Some d → d.joined ≡ false → length r.given ≤ suc i → Adds m b p (Joined (record { 0 = v }) i)
  adds_join c d here next ajar after =
      let starts : together d.held.start (stop_before 0 (cells r) (suc i)) ≡ together (held_at p v (suc i)).start (held_at p v i).stop = ap (λ (y : Held). together y.start (stop_before 0 (cells r) (suc i))) (sym (held_is p v (suc i) r d is next)) ∙ ap (together (held_at p v (suc i)).start) (before_here c here) in
      let h : (t : Schedule) → Both (All' t (row_bounds m b (close i r))) (All' t (row_bounds m b r) × All' t (together (held_at p v (suc i)).start (held_at p v i).stop)) = λ t. subst (λ l. Both (All' t (row_bounds m b (close i r))) (All' t (row_bounds m b r) × All' t l)) starts (row_close m b t i r d after next ajar) in
      record { keeps = λ t. (rows_add m b t p v 0 r (close i) _ is (h t)).0; tells = λ t. (rows_add m b t p v 0 r (close i) _ is (h t)).1 }

-- the others
snoc_flat : {X : Type 0} (t : Schedule) (f : X → List Bound) (xs : List X) (x : X) → Both (All' t (flat_map f (xs ++ x ∷ []))) (All' t (flat_map f xs) × All' t (f x))
snoc_flat t f [] x = ((λ a. (tt, (each_split (Holds t) (f x) [] a).0)), λ a. each_both (Holds t) (f x) [] a.1 tt)
snoc_flat t f (y ∷ ys) x =
    let r = snoc_flat t f ys x in (
      (λ a. let s = each_split (Holds t) (f y) (flat_map f (ys ++ x ∷ [])) a in let e = r.0 s.1 in (each_both (Holds t) (f y) (flat_map f ys) s.0 e.0, e.1)),
      λ a. let s = each_split (Holds t) (f y) (flat_map f ys) a.0 in each_both (Holds t) (f y) (flat_map f (ys ++ x ∷ [])) s.0 (r.1 (s.1, a.1)),
    )

set_goal : (t : Schedule) (gs : List Goal) (os : List (Option Held)) (g : ℕ) (x : Held) → slice_get os g ≡ Some None → Both (All' t (goals_met gs (set os g (Some x)))) (All' t (goals_met gs os) × All' t (on_some (slice_get gs g) (λ goal. apart x.start 0 goal.start ++ apart x.stop 0 goal.stop)))
set_goal t [] os g x is = ((λ a. (tt, tt)), λ a. tt)
set_goal t (y ∷ gs) [] g x is = absurd (cc)
set_goal t (y ∷ gs) (Some z ∷ os) zero x is = absurd (cc)
set_goal t (y ∷ gs) (None ∷ os) zero x is =
    ((λ a. let s = each_split (Holds t) (apart x.start 0 y.start ++ apart x.stop 0 y.stop) (goals_met gs os) a in (s.1, s.0)), λ a. each_both (Holds t) (apart x.start 0 y.start ++ apart x.stop 0 y.stop) (goals_met gs os) a.1 a.0)
set_goal t (y ∷ gs) (o ∷ os) (suc g) x is =
    let one = on_some o (λ x. apart x.start 0 y.start ++ apart x.stop 0 y.stop) in
    let r = set_goal t gs os g x is in (
      (λ a. let s = each_split (Holds t) one (goals_met gs (set os g (Some x))) a in let e = r.0 s.1 in (each_both (Holds t) one (goals_met gs os) s.0 e.0, e.1)),
      λ a. let s = each_split (Holds t) one (goals_met gs os) a.0 in each_both (Holds t) one (goals_met gs (set os g (Some x))) s.0 (r.1 (s.1, a.1)),
    )

module _ (m : Mission) (b : Begun) (p : Partial) where
  pub adds_defer : (x : TokenRef) (i : ℕ) → Adds m b p (Deferred x i)
  adds_defer x i = record {
    keeps = λ t h. record { origin = h.origin; each = each_both (Holds t) (partial_bounds m b p) [] h.each tt };
    tells = λ t h. record { origin = h.origin; each = (each_split (Holds t) (partial_bounds m b p) [] h.each).0 };
  }

  pub adds_support : (x : TokenRef) (i : ℕ) (by : TokenRef) → Adds m b p (Supported x i by)
  adds_support x i by =
      let s : Backing = record { token = held_by p x; need = i; by = held_by p by } in
      let most = begun_bounds m b ++ flat_map (row_bounds m b) p.rows in
      let goals = goals_met (goals_of m (number b)) p.goals in
      record {
        keeps = λ t h.
            let u = each_split (Holds t) (most ++ flat_map (backing_bounds m) (p.supports ++ s ∷ [])) goals h.each in
            let w = each_split (Holds t) most (flat_map (backing_bounds m) (p.supports ++ s ∷ [])) u.0 in
            let k = (snoc_flat t (backing_bounds m) p.supports s).0 w.1 in
            record { origin = h.origin; each = each_both (Holds t) (partial_bounds m b p) (backing_bounds m s) (each_both (Holds t) (most ++ flat_map (backing_bounds m) p.supports) goals (each_both (Holds t) most (flat_map (backing_bounds m) p.supports) w.0 k.0) u.1) k.1 };
        tells = λ t h.
            let z = each_split (Holds t) (partial_bounds m b p) (backing_bounds m s) h.each in
            let u = each_split (Holds t) (most ++ flat_map (backing_bounds m) p.supports) goals z.0 in
            let w = each_split (Holds t) most (flat_map (backing_bounds m) p.supports) u.0 in
            record { origin = h.origin; each = each_both (Holds t) (most ++ flat_map (backing_bounds m) (p.supports ++ s ∷ [])) goals (each_both (Holds t) most (flat_map (backing_bounds m) (p.supports ++ s ∷ [])) w.0 ((snoc_flat t (backing_bounds m) p.supports s).1 (w.1, z.1))) u.1 };
      }

  pub adds_goal : (g : ℕ) (by : TokenRef) → slice_get p.goals g ≡ Some None → Adds m b p (MetGoal g by)
  adds_goal g by is =
      let most = begun_bounds m b ++ flat_map (row_bounds m b) p.rows ++ flat_map (backing_bounds m) p.supports in
      let goals = goals_met (goals_of m (number b)) p.goals in
      let goals' = goals_met (goals_of m (number b)) (set p.goals g (Some (held_by p by))) in
      record {
        keeps = λ t h.
            let u = each_split (Holds t) most goals' h.each in
            let k = (set_goal t (goals_of m (number b)) p.goals g (held_by p by) is).0 u.1 in
            record { origin = h.origin; each = each_both (Holds t) (partial_bounds m b p) _ (each_both (Holds t) most goals u.0 k.0) k.1 };
        tells = λ t h.
            let z = each_split (Holds t) (partial_bounds m b p) (on_some (slice_get (goals_of m (number b)) g) (λ goal. apart (held_by p by).start 0 goal.start ++ apart (held_by p by).stop 0 goal.stop)) h.each in
            let u = each_split (Holds t) most goals z.0 in
            record { origin = h.origin; each = each_both (Holds t) most goals' u.0 ((set_goal t (goals_of m (number b)) p.goals g (held_by p by) is).1 (u.1, z.1)) };
      }

-- the value of a new token lasts no less than nothing
lasting : (m : Mission) (v value : ℕ) (known : Value) → IsMission m → value_of m (kind_of v value) ≡ Some known → Lasting m (kind_of v value)
lasting m v value known mission is = record { value = known; is = is; least = lasts_low m (kind_of v value) known mission is }

module _ (m : Mission) (mission : IsMission m) (b : Begun) (p : Partial) where
  place_in_row : (i : ℕ) (r : Row) → IsSlot i r → (d : Cell) × (slice_get (cells r) i ≡ Some d)
  place_in_row i r s = let place = s.place in (get_or (cells r) i (given_cell nobody), slice_get-get_or (cells r) i (given_cell nobody) (omega arith))

  -- a part that may be done adds its bounds
  pub adds_part : (x : Part) → MayDo m b p x → Adds m b p x
  adds_part (Inserted v i value) h =
      let d = place_in_row i h.row h.slot in
      adds_insert m b p v.0 i h.row h.is_row value.0 d.0 d.1 h.slot (lasting m v.0 value.0 h.known mission h.is_known)
  adds_part (Followed v i value) h =
      let d = place_in_row i h.insert.row h.insert.slot in
      adds_follow m b p v.0 i h.insert.row h.insert.is_row value.0 d.0 d.1 h.insert.slot (lasting m v.0 value.0 h.insert.known mission h.insert.is_known)
  adds_part (Joined v i) h =
      let d = some_before (cells h.row) i h.cell h.here in
      adds_join m b p v.0 i h.row h.is_row d.0 h.cell d.1 h.here h.gap h.after
  adds_part (Finished v) h = adds_finish m b p v.0 0 h.row h.is_row h.yet
  adds_part (Supported t i by) h = adds_support m b p t i by
  adds_part (MetGoal g by) h = adds_goal m b p g by h.yet
  adds_part (Deferred t i) h = adds_defer m b p t i
