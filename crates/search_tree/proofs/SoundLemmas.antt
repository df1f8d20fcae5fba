-- The parts keep a partial plan sound.
use Rattle.std.proofs.Common.{List, None, Option, Some, [], ap, arith, false, get_or, inl, inr, length, map, refl, set, slice_get, subst, suc, sym, true, zero, ℕ, ◌+◌, ◌-◌, ◌<◌, ◌∙◌, ◌∷◌, ◌≡◌, ◌≤◌, ◌⊎◌}
use Rattle.std.proofs.lemmas.Bool.{cases_eq, cases_lt}
use Rattle.std.proofs.lemmas.Option.{slice_get-get_or, slice_get-map}
use Rattle.std.specs.List.{AllByRecursion}
use Rattle.std.specs.Prelude.{insert, option_map}
use Rattle.hs_base.specs.Points.{start, timeline_of, tokens_of}
use Rattle.hs_base.specs.declared.mission.Mission.{Mission}
use Rattle.hs_base.specs.declared.plan.TokenRef.{TokenRef}
use Rattle.base_laws.proofs.ListLemmas.{each_at, each_both, each_weaker, slice_get-append_left}
use Rattle.base_laws.proofs.PointLemmas.{of_variable}
use Rattle.search_tree.proofs.CellLemmas.{given_cell, held_is, held_kinds, length-map', row_at, slice_get-map_some, slice_get-past}
use Rattle.search_tree.proofs.PartLemmas.{cells-close, cells-put, shut}
use Rattle.search_tree.specs.Begun.{Begun}
use Rattle.search_tree.specs.May.{IsThere, MayDo}
use Rattle.search_tree.specs.Partial.{Partial, Row, cells, held_at, held_by, kind_of, nobody, row}
use Rattle.search_tree.specs.Parts.{at_place, close, do_part, end_row, put, with_rows}
use Rattle.search_tree.specs.Sound.{AreRows, IsAt, IsGoalIn, IsIn, IsRow, IsSound}
use Rattle.search_tree.specs.declared.backing.Backing.{Backing}
use Rattle.search_tree.specs.declared.held.Cell.{Cell}
use Rattle.search_tree.specs.declared.held.Held.{Held}
use Rattle.search_tree.specs.declared.part.Part.{Part}
use Rattle.search_tree.specs.declared.part.Part.TheVariants.{Deferred, Finished, Followed, Inserted, Joined, MetGoal, Supported}

pub length-at_place : {X : Type 0} (f : X → X) (k : ℕ) (xs : List X) → length (at_place f k xs) ≡ length xs
length-at_place f k [] = refl
length-at_place f zero (x ∷ xs) = refl
length-at_place f (suc k) (x ∷ xs) = ap suc (length-at_place f k xs)

pub at_place_here : {X : Type 0} (f : X → X) (k : ℕ) (xs : List X) (x : X) → slice_get xs k ≡ Some x → slice_get (at_place f k xs) k ≡ Some (f x)
at_place_here f k [] x is = absurd (cc)
at_place_here f zero (y ∷ xs) x is = let same : y ≡ x = cc in ap (λ z. Some (f z)) same
at_place_here f (suc k) (y ∷ xs) x is = at_place_here f k xs x is

pub at_place_there : {X : Type 0} (f : X → X) (k j : ℕ) (xs : List X) → (k ≡ j → ⊥) → slice_get (at_place f k xs) j ≡ slice_get xs j
at_place_there f k j [] other = refl
at_place_there f zero zero (y ∷ xs) other = absurd (other refl)
at_place_there f zero (suc j) (y ∷ xs) other = refl
at_place_there f (suc k) zero (y ∷ xs) other = refl
at_place_there f (suc k) (suc j) (y ∷ xs) other = at_place_there f k j xs (λ e. other (ap suc e))

pub at_place_from : {X : Type 0} (f : X → X) (k : ℕ) (xs : List X) (y : X) → slice_get (at_place f k xs) k ≡ Some y → (x : X) × (slice_get xs k ≡ Some x) × (y ≡ f x)
at_place_from f k [] y is = absurd (cc)
at_place_from f zero (x ∷ xs) y is = let same : f x ≡ y = cc in (x, refl, sym same)
at_place_from f (suc k) (x ∷ xs) y is = at_place_from f k xs y is

inserted : {X : Type 0} (xs : List X) (k j : ℕ) (c d : X) → slice_get (insert xs k c) j ≡ Some d → (d ≡ c) ⊎ ((i : ℕ) × (slice_get xs i ≡ Some d))
inserted [] zero zero c d is = let same : c ≡ d = cc in inl (sym same)
inserted [] zero (suc j) c d is = absurd (cc)
inserted [] (suc k) zero c d is = let same : c ≡ d = cc in inl (sym same)
inserted [] (suc k) (suc j) c d is = absurd (cc)
inserted (x ∷ xs) zero zero c d is = let same : c ≡ d = cc in inl (sym same)
inserted (x ∷ xs) zero (suc j) c d is = inr (j, is)
inserted (x ∷ xs) (suc k) zero c d is = inr (0, is)
inserted (x ∷ xs) (suc k) (suc j) c d is = elim (inserted xs k j c d is) [ inl e ↦ inl e | inr r ↦ inr (suc r.0, r.1) ]

still_in : {X : Type 0} (xs : List X) (k i : ℕ) (c d : X) → slice_get xs i ≡ Some d → (j : ℕ) × (slice_get (insert xs k c) j ≡ Some d)
still_in [] k i c d is = absurd (cc)
still_in (x ∷ xs) zero i c d is = (suc i, is)
still_in (x ∷ xs) (suc k) zero c d is = (0, is)
still_in (x ∷ xs) (suc k) (suc i) c d is = let r = still_in xs k i c d is in (suc r.0, r.1)

first-insert : {X : Type 0} (xs : List X) (k : ℕ) (c : X) → 0 < length xs → slice_get (insert xs (suc k) c) 0 ≡ slice_get xs 0
first-insert [] k c some = absurd (omega arith)
first-insert (x ∷ xs) k c some = refl

length-insert' : {X : Type 0} (xs : List X) (k : ℕ) (c : X) → 0 < length (insert xs k c)
length-insert' [] zero c = omega arith
length-insert' [] (suc k) c = omega arith
length-insert' (x ∷ xs) zero c = omega arith
length-insert' (x ∷ xs) (suc k) c = omega arith

each-insert : {X : Type 0} (P : X → Type 0) (xs : List X) (k : ℕ) (c : X) → AllByRecursion P xs → P c → AllByRecursion P (insert xs k c)
each-insert P [] zero c h g = (g, tt)
each-insert P [] (suc k) c h g = (g, tt)
each-insert P (x ∷ xs) zero c h g = (g, h)
each-insert P (x ∷ xs) (suc k) c h g = (h.0, each-insert P xs k c h.1 g)

each-shut : (P : Held → Type 0) (k : ℕ) (cs : List Cell) → AllByRecursion (λ (c : Cell). P c.held) cs → AllByRecursion (λ (c : Cell). P c.held) (at_place shut k cs)
each-shut P k [] h = tt
each-shut P zero (c ∷ cs) h = h
each-shut P (suc k) (c ∷ cs) h = (h.0, each-shut P k cs h.1)

first-shut : (k : ℕ) (cs : List Cell) → slice_get (at_place shut (suc k) cs) 0 ≡ slice_get cs 0
first-shut k [] = refl
first-shut k (c ∷ cs) = refl

rows_kept : (b : Begun) (g : Row → Row) (w v : ℕ) (rs : List Row) (r : Row) → slice_get rs v ≡ Some r → AreRows b w rs → (IsRow b (w + v) r → IsRow b (w + v) (g r)) → AreRows b w (at_place g v rs)
rows_kept b g w v [] r is h step = absurd (cc)
rows_kept b g w zero (q ∷ rs) r is h step =
    let same : q ≡ r = cc in
    let here : w + 0 ≡ w = omega arith in
    let step' : IsRow b w r → IsRow b w (g r) = subst (λ n. IsRow b n r → IsRow b n (g r)) here step in
    let step'' : IsRow b w q → IsRow b w (g q) = subst (λ x. IsRow b w x → IsRow b w (g x)) (sym same) step' in
    (step'' h.0, h.1)
rows_kept b g w (suc v) (q ∷ rs) r is h step =
    let there : w + suc v ≡ suc w + v = omega arith in
    (h.0, rows_kept b g (suc w) v rs r is h.1 (subst (λ n. IsRow b n r → IsRow b n (g r)) there step))

row_put : (b : Begun) (v i : ℕ) (c : Cell) (r : Row) → length r.given ≤ suc i → c.held.kind.sv.0 ≡ v → IsRow b v r → IsRow b v (put i c r)
row_put b v i c r after own h = record {
  given = h.given;
  variable = each-insert (λ (c : Cell). c.held.kind.sv.0 ≡ v) r.added _ c h.variable own;
  some = subst (λ (l : List Cell). 0 < length l) (sym (cells-put i c r after)) (length-insert' (cells r) (suc i) c);
  first = λ d is. h.first d (sym (first-insert (cells r) i c h.some) ∙ ap (λ l. slice_get l 0) (sym (cells-put i c r after)) ∙ is);
}

row_close : (b : Begun) (v i : ℕ) (r : Row) → length r.given ≤ suc i → IsRow b v r → IsRow b v (close i r)
row_close b v i r after h = record {
  given = h.given;
  variable = each-shut (λ (x : Held). x.kind.sv.0 ≡ v) _ r.added h.variable;
  some = subst (λ (l : List Cell). 0 < length l) (sym (cells-close i r after)) (let e = length-at_place shut (suc i) (cells r) in let s = h.some in omega arith);
  first = λ d is. h.first d (sym (first-shut i (cells r)) ∙ ap (λ l. slice_get l 0) (sym (cells-close i r after)) ∙ is);
}

row_end : (b : Begun) (v : ℕ) (r : Row) → IsRow b v r → IsRow b v (end_row r)
row_end b v r h = record { given = h.given; variable = h.variable; some = h.some; first = h.first }

-- x is a token of the row
pub record InRow (r : Row) (x : Held) : Type 0 where
  pub place : ℕ
  pub cell : Cell
  pub here : slice_get (cells r) place ≡ Some cell
  pub held : cell.held ≡ x

-- what a change of row v does
pub record Changes (b : Begun) (p : Partial) (v grown : ℕ) (r : Row) (g : Row → Row) (New : Held → Type 0) : Type 0 where
  pub is : slice_get p.rows v ≡ Some r
  pub kept : IsRow b v r → IsRow b v (g r)
  pub still : (x : Held) → InRow r x → InRow (g r) x
  pub from : (x : Held) → InRow (g r) x → InRow r x ⊎ New x
  pub one : (x y : Held) → New x → New y → x ≡ y
  pub added : (x : Held) → New x → p.points ≤ x.stop
  pub below : (x : Held) → New x → (x.start < p.points + grown) × (x.stop < p.points + grown)

module _ (m : Mission) (b : Begun) (p : Partial) (v grown : ℕ) (r : Row) (g : Row → Row) (New : Held → Type 0) (ch : Changes b p v grown r g New) (sound : IsSound m b p) where
  abbrev pub after : Partial
  after = with_rows p grown (at_place g v p.rows)

  is_still : (w : ℕ) (x : Held) → IsAt p w x → IsAt after w x
  is_still w x i = elim (cases_eq v w) [
    | inl same ↦
        let at : slice_get p.rows v ≡ Some i.row = ap (slice_get p.rows) same ∙ i.is_row in
        let e : r ≡ i.row = let both : Some r ≡ Some i.row = sym ch.is ∙ at in cc in
        let k = ch.still x (subst (λ q. InRow q x) (sym e) (record { place = i.place; cell = i.cell; here = i.here; held = i.held })) in
        record { row = g r; is_row = ap (slice_get (at_place g v p.rows)) (sym same) ∙ at_place_here g v p.rows r ch.is; place = k.place; cell = k.cell; here = k.here; held = k.held }
    | inr other ↦ record { row = i.row; is_row = at_place_there g v w p.rows other ∙ i.is_row; place = i.place; cell = i.cell; here = i.here; held = i.held }
  ]

  came_from : (w : ℕ) (x : Held) → IsAt after w x → IsAt p w x ⊎ New x
  came_from w x i = elim (cases_eq v w) [
    | inl same ↦
        let f = at_place_from g v p.rows i.row (ap (slice_get (at_place g v p.rows)) same ∙ i.is_row) in
        let e : f.0 ≡ r = let both : Some f.0 ≡ Some r = sym f.1 ∙ ch.is in cc in
        let now : InRow (g r) x = subst (λ q. InRow q x) (f.2 ∙ ap g e) (record { place = i.place; cell = i.cell; here = i.here; held = i.held }) in
        elim (ch.from x now) [
          | inl k ↦ inl (record { row = r; is_row = ap (slice_get p.rows) (sym same) ∙ ch.is; place = k.place; cell = k.cell; here = k.here; held = k.held })
          | inr n ↦ inr n
        ]
    | inr other ↦ inl (record { row = i.row; is_row = sym (at_place_there g v w p.rows other) ∙ i.is_row; place = i.place; cell = i.cell; here = i.here; held = i.held })
  ]

  all_apart : (v w : ℕ) (x y : Held) → IsAt after v x → IsAt after w y → x.stop ≡ y.stop → x ≡ y
  all_apart u w x y i j e = elim (came_from u x i) [
    | inl k ↦ elim (came_from w y j) [
      | inl l ↦ sound.distinct u w x y k l e
      | inr n ↦ absurd (omega (arith, (sound.fresh u x k).1, ch.added y n))
    ]
    | inr n ↦ elim (came_from w y j) [
      | inl l ↦ absurd (omega (arith, (sound.fresh w y l).1, ch.added x n))
      | inr o ↦ ch.one x y n o
    ]
  ]

  goal_still : (o : Option Held) → IsGoalIn p o → IsGoalIn after o
  goal_still None h = tt
  goal_still (Some x) h = is_still x.kind.sv.0 x h

  pub sound_change : IsSound m b after
  sound_change = record {
    one_each = length-at_place g v p.rows ∙ sound.one_each;
    rows = rows_kept b g 0 v p.rows r ch.is sound.rows (let e : v ≡ 0 + v = omega arith in subst (λ n. IsRow b n r → IsRow b n (g r)) e ch.kept);
    below = sound.below;
    fixed = sound.fixed;
    distinct = all_apart;
    fresh = λ u x i. elim (came_from u x i) [
      | inl k ↦ let f = sound.fresh u x k in (omega (arith, f.0), omega (arith, f.1))
      | inr n ↦ ch.below x n
    ];
    above = let a = sound.above in omega arith;
    backed = each_weaker (λ (s : Backing). IsIn p s.token × IsIn p s.by) (λ (s : Backing). IsIn after s.token × IsIn after s.by) (λ s h. (is_still s.token.kind.sv.0 s.token h.0, is_still s.by.kind.sv.0 s.by h.1)) p.supports sound.backed;
    goals = each_weaker (IsGoalIn p) (IsGoalIn after) goal_still p.goals sound.goals;
  }

in_put : (i : ℕ) (c : Cell) (r : Row) → length r.given ≤ suc i → (x : Held) → InRow r x → InRow (put i c r) x
in_put i c r after x k =
    let s = still_in (cells r) (suc i) k.place c k.cell k.here in
    record { place = s.0; cell = k.cell; here = ap (λ l. slice_get l s.0) (cells-put i c r after) ∙ s.1; held = k.held }

from_put : (i : ℕ) (c : Cell) (r : Row) → length r.given ≤ suc i → (x : Held) → InRow (put i c r) x → InRow r x ⊎ (x ≡ c.held)
from_put i c r after x k = elim (inserted (cells r) (suc i) k.place c k.cell (ap (λ l. slice_get l k.place) (sym (cells-put i c r after)) ∙ k.here)) [
  | inl e ↦ inr (sym k.held ∙ ap (λ (y : Cell). y.held) e)
  | inr s ↦ inl (record { place = s.0; cell = k.cell; here = s.1; held = k.held })
]

in_close : (i : ℕ) (r : Row) → length r.given ≤ suc i → (x : Held) → InRow r x → InRow (close i r) x
in_close i r after x k = elim (cases_eq (suc i) k.place) [
  | inl same ↦ record { place = suc i; cell = shut k.cell; here = ap (λ l. slice_get l (suc i)) (cells-close i r after) ∙ at_place_here shut (suc i) (cells r) k.cell (ap (slice_get (cells r)) same ∙ k.here); held = k.held }
  | inr other ↦ record { place = k.place; cell = k.cell; here = ap (λ l. slice_get l k.place) (cells-close i r after) ∙ at_place_there shut (suc i) k.place (cells r) other ∙ k.here; held = k.held }
]

from_close : (i : ℕ) (r : Row) → length r.given ≤ suc i → (x : Held) → InRow (close i r) x → InRow r x ⊎ ⊥
from_close i r after x k = elim (cases_eq (suc i) k.place) [
  | inl same ↦
      let f = at_place_from shut (suc i) (cells r) k.cell (ap (λ l. slice_get l (suc i)) (sym (cells-close i r after)) ∙ ap (slice_get (cells (close i r))) same ∙ k.here) in
      inl (record { place = suc i; cell = f.0; here = f.1; held = ap (λ (y : Cell). y.held) (sym f.2) ∙ k.held })
  | inr other ↦ inl (record { place = k.place; cell = k.cell; here = sym (at_place_there shut (suc i) k.place (cells r) other) ∙ ap (λ l. slice_get l k.place) (sym (cells-close i r after)) ∙ k.here; held = k.held })
]

same_at : (p q : Partial) (v : ℕ) (x : Held) → p.rows ≡ q.rows → IsAt p v x → IsAt q v x
same_at p q v x rows i = record { row = i.row; is_row = ap (λ l. slice_get l v) (sym rows) ∙ i.is_row; place = i.place; cell = i.cell; here = i.here; held = i.held }

each_set : {X : Type 0} (P : X → Type 0) (xs : List X) (i : ℕ) (x : X) → AllByRecursion P xs → P x → AllByRecursion P (set xs i x)
each_set P [] i x h g = tt
each_set P (y ∷ xs) zero x h g = (g, h.1)
each_set P (y ∷ xs) (suc i) x h g = (h.0, each_set P xs i x h.1 g)

module _ (m : Mission) (b : Begun) (p : Partial) (sound : IsSound m b p) where
  put_changes : (v i grown : ℕ) (r : Row) (c : Cell) → slice_get p.rows v ≡ Some r → length r.given ≤ suc i → c.held.kind.sv.0 ≡ v → p.points ≤ c.held.stop → c.held.start < p.points + grown → c.held.stop < p.points + grown → Changes b p v grown r (put i c) (λ x. x ≡ c.held)
  put_changes v i grown r c is after own added start below = record {
    is = is;
    kept = row_put b v i c r after own;
    still = in_put i c r after;
    from = from_put i c r after;
    one = λ x y e f. e ∙ sym f;
    added = λ x e. let s = ap (λ (y : Held). y.stop) e in omega arith;
    below = λ x e. let s = ap (λ (y : Held). y.stop) e in let z = ap (λ (y : Held). y.start) e in (omega arith, omega arith);
  }

  pub sound_insert : (v i value : ℕ) (r : Row) → slice_get p.rows v ≡ Some r → length r.given ≤ suc i → IsSound m b (do_part p (Inserted (record { 0 = v }) i (record { 0 = value })))
  sound_insert v i value r is after =
      let c : Cell = record { held = record { kind = kind_of v value; start = p.points; stop = suc p.points }; joined = false } in
      sound_change m b p v 2 r (put i c) (λ x. x ≡ c.held) (put_changes v i 2 r c is after refl (omega arith) (omega arith) (omega arith)) sound

  pub sound_follow : (v i value : ℕ) (r : Row) (d : Cell) → slice_get p.rows v ≡ Some r → length r.given ≤ suc i → slice_get (cells r) i ≡ Some d → IsSound m b (do_part p (Followed (record { 0 = v }) i (record { 0 = value })))
  sound_follow v i value r d is after here =
      let held = held_is p v i r d is here in
      let old = (sound.fresh v d.held (record { row = r; is_row = is; place = i; cell = d; here = here; held = refl })).1 in
      let from : (held_at p v i).stop ≡ d.held.stop = ap (λ (y : Held). y.stop) held in
      let c : Cell = record { held = record { kind = kind_of v value; start = (held_at p v i).stop; stop = p.points }; joined = true } in
      sound_change m b p v 1 r (put i c) (λ x. x ≡ c.held) (put_changes v i 1 r c is after refl (omega arith) (omega arith) (omega arith)) sound

  pub sound_join : (v i : ℕ) (r : Row) → slice_get p.rows v ≡ Some r → length r.given ≤ suc i → IsSound m b (do_part p (Joined (record { 0 = v }) i))
  sound_join v i r is after = sound_change m b p v 0 r (close i) (λ x. ⊥) (record {
    is = is;
    kept = row_close b v i r after;
    still = in_close i r after;
    from = from_close i r after;
    one = λ x y e f. absurd e;
    added = λ x e. absurd e;
    below = λ x e. absurd e;
  }) sound

  pub sound_finish : (v : ℕ) (r : Row) → slice_get p.rows v ≡ Some r → IsSound m b (do_part p (Finished (record { 0 = v })))
  sound_finish v r is = sound_change m b p v 0 r end_row (λ x. ⊥) (record {
    is = is;
    kept = row_end b v r;
    still = λ x k. record { place = k.place; cell = k.cell; here = k.here; held = k.held };
    from = λ x k. inl (record { place = k.place; cell = k.cell; here = k.here; held = k.held });
    one = λ x y e f. absurd e;
    added = λ x e. absurd e;
    below = λ x e. absurd e;
  }) sound

  pub sound_quiet : (q : Partial) → q.rows ≡ p.rows → q.points ≡ p.points → AllByRecursion (λ (s : Backing). IsIn p s.token × IsIn p s.by) q.supports → AllByRecursion (IsGoalIn p) q.goals → IsSound m b q
  sound_quiet q rows points backed goals = record {
    one_each = ap length rows ∙ sound.one_each;
    rows = subst (AreRows b 0) (sym rows) sound.rows;
    below = sound.below;
    fixed = sound.fixed;
    distinct = λ v w x y i j. sound.distinct v w x y (same_at q p v x rows i) (same_at q p w y rows j);
    fresh = λ v x i. let f = sound.fresh v x (same_at q p v x rows i) in (omega (arith, f.0), omega (arith, f.1));
    above = let a = sound.above in omega arith;
    backed = each_weaker (λ (s : Backing). IsIn p s.token × IsIn p s.by) (λ (s : Backing). IsIn q s.token × IsIn q s.by) (λ s k. (same_at p q _ _ (sym rows) k.0, same_at p q _ _ (sym rows) k.1)) q.supports backed;
    goals = each_weaker (IsGoalIn p) (IsGoalIn q) (goal_same q rows) q.goals goals;
  }
    where
      goal_same : (q : Partial) → q.rows ≡ p.rows → (o : Option Held) → IsGoalIn p o → IsGoalIn q o
      goal_same q rows None k = tt
      goal_same q rows (Some x) k = same_at p q x.kind.sv.0 x (sym rows) k

  pub sound_support : (x : TokenRef) (i : ℕ) (by : TokenRef) → IsIn p (held_by p x) → IsIn p (held_by p by) → IsSound m b (do_part p (Supported x i by))
  sound_support x i by h g = sound_quiet (do_part p (Supported x i by)) refl refl (each_both (λ (s : Backing). IsIn p s.token × IsIn p s.by) p.supports (record { token = held_by p x; need = i; by = held_by p by } ∷ []) sound.backed ((h, g), tt)) sound.goals

  pub sound_goal : (i : ℕ) (by : TokenRef) → IsIn p (held_by p by) → IsSound m b (do_part p (MetGoal i by))
  sound_goal i by g = sound_quiet (do_part p (MetGoal i by)) refl refl sound.backed (each_set (IsGoalIn p) p.goals i (Some (held_by p by)) sound.goals g)

  pub sound_defer : (x : TokenRef) (i : ℕ) → IsSound m b (do_part p (Deferred x i))
  sound_defer x i = sound_quiet (do_part p (Deferred x i)) refl refl sound.backed sound.goals

  -- a place that is there has a token of its row's variable
  row_here : (v : ℕ) (r : Row) → slice_get p.rows v ≡ Some r → IsRow b v r
  row_here v r is = let e : 0 + v ≡ v = omega arith in subst (λ n. IsRow b n r) e (row_at b 0 v p.rows r sound.rows is)

  pub cell_variable : (v i : ℕ) (r : Row) (c : Cell) → IsRow b v r → slice_get (cells r) i ≡ Some c → c.held.kind.sv.0 ≡ v
  cell_variable v i r c row here = elim (cases_lt i (length r.given)) [
    | inl given ↦
        let e = length-map' given_cell r.given in
        let there : slice_get (map given_cell r.given) i ≡ Some c = sym (slice_get-append_left (map given_cell r.given) r.added i (omega arith)) ∙ here in
        let h = slice_get-map_some given_cell r.given i c there in
        let kind : slice_get (timeline_of (tokens_of b.base) v) i ≡ Some (h.0).kind = ap (λ l. slice_get l i) (sym (ap (map (λ (x : Held). x.kind)) row.given ∙ held_kinds b v 0 (timeline_of (tokens_of b.base) v))) ∙ slice_get-map (λ (x : Held). x.kind) r.given i ∙ ap (option_map (λ (x : Held). x.kind)) h.1 in
        ap (λ (y : Cell). y.held.kind.sv.0) (sym h.2) ∙ of_variable (tokens_of b.base) v i (h.0).kind kind
    | inr added ↦
        let e = length-map' given_cell r.given in
        let there : slice_get r.added (i - length (map given_cell r.given)) ≡ Some c = sym (slice_get-past (map given_cell r.given) r.added i (omega arith)) ∙ here in
        each_at (λ (c : Cell). c.held.kind.sv.0 ≡ v) r.added (i - length (map given_cell r.given)) c row.variable there
  ]

  pub in_range : (t : TokenRef) → IsThere p t → IsIn p (held_by p t)
  in_range t h =
      let held : held_by p t ≡ h.cell.held = held_is p t.sv.0 t.place h.row h.cell h.is_row h.here in
      let variable : (held_by p t).kind.sv.0 ≡ t.sv.0 = ap (λ (x : Held). x.kind.sv.0) held ∙ cell_variable t.sv.0 t.place h.row h.cell (row_here t.sv.0 h.row h.is_row) h.here in
      record { row = h.row; is_row = ap (slice_get p.rows) variable ∙ h.is_row; place = t.place; cell = h.cell; here = h.here; held = sym held }

  -- each part that may be done keeps it sound
  pub sound_part : (x : Part) → MayDo m b p x → IsSound m b (do_part p x)
  sound_part (Inserted v i value) h = sound_insert v.0 i value.0 h.row h.is_row h.slot.after
  sound_part (Followed v i value) h =
      let place = h.insert.slot.place in
      sound_follow v.0 i value.0 h.insert.row (get_or (cells h.insert.row) i (given_cell nobody)) h.insert.is_row h.insert.slot.after (slice_get-get_or (cells h.insert.row) i (given_cell nobody) (omega arith))
  sound_part (Joined v i) h = sound_join v.0 i h.row h.is_row h.after
  sound_part (Finished v) h = sound_finish v.0 h.row h.is_row
  sound_part (Supported t i by) h = sound_support t i by (in_range t h.token) (in_range by h.server)
  sound_part (MetGoal g by) h = sound_goal g by (in_range by h.server)
  sound_part (Deferred t i) h = sound_defer t i
