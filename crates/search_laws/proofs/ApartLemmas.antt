-- The ends of a row's tokens are different points, so each stands at one place.
use Rattle.std.proofs.Common.{◌≡◌, ℕ, ℤ, zero, suc, ◌+◌, ◌<◌, ◌≤◌, true, List, [], ◌∷◌, ◌++◌, length, Option, Some, None, map, insert, slice_get, refl, sym, ap, ◌∙◌, subst, arith, inl, inr, append-nil}
use Rattle.std.proofs.lemmas.Bool.{cases_eq}
use Rattle.std.proofs.lemmas.Option.{slice_get_within}
use Rattle.std.specs.List.{AllByRecursion}
use Rattle.hs_base.specs.Bounds.{on_some}
use Rattle.hs_base.specs.Points.{count, ending, place_of, points_of, timeline_of, tokens_of}
use Rattle.hs_base.specs.Schedule.{numbers_from}
use Rattle.hs_base.specs.declared.mission.Mission.{Mission}
use Rattle.hs_base.specs.declared.mission.Var.{Var}
use Rattle.hs_base.specs.declared.plan.Extension.{Extension}
use Rattle.hs_base.specs.declared.plan.Time.{Time}
use Rattle.base_laws.proofs.ListLemmas.{each_at, each_weaker}
use Rattle.search_tree.proofs.CellLemmas.{each_from_at, given_cell, held_from_at, length-held, slice_get-map_some}
use Rattle.search_tree.proofs.NameLemmas.{ending_same, named_at}
use Rattle.search_tree.proofs.PartLemmas.{cells-close, cells-put, shut}
use Rattle.search_tree.proofs.SoundLemmas.{at_place_from, at_place_there}
use Rattle.search_tree.specs.Begun.{Begun, stub}
use Rattle.search_tree.specs.May.{MayDo}
use Rattle.search_tree.specs.Partial.{Partial, Row, begin, cells, first_row, held_from}
use Rattle.search_tree.specs.Parts.{at_place, close, do_part, end_row, gap_cell, joined_cell, put, with_rows}
use Rattle.search_tree.specs.Sound.{IsSound}
use Rattle.search_tree.specs.declared.held.Cell.{Cell}
use Rattle.search_tree.specs.declared.held.Held.{Held}
use Rattle.search_tree.specs.declared.part.Part.{Part}
use Rattle.search_tree.specs.declared.part.Part.TheVariants.{Deferred, Finished, Followed, Inserted, Joined, MetGoal, Supported}
use Rattle.search_laws.specs.Good.{AreApart, Differ, IsSpread}

each-insert : {X : Type 0} (P : X → Type 0) (xs : List X) (k : ℕ) (c : X) → AllByRecursion P xs → P c → AllByRecursion P (insert xs k c)
each-insert P [] zero c h g = (g, tt)
each-insert P [] (suc k) c h g = (g, tt)
each-insert P (x ∷ xs) zero c h g = (g, h)
each-insert P (x ∷ xs) (suc k) c h g = (h.0, each-insert P xs k c h.1 g)

spread-insert : (cs : List Cell) (k : ℕ) (c : Cell) → IsSpread cs → AllByRecursion (λ d. Differ d c) cs → AllByRecursion (Differ c) cs → IsSpread (insert cs k c)
spread-insert [] zero c h f g = (tt, tt)
spread-insert [] (suc k) c h f g = (tt, tt)
spread-insert (x ∷ cs) zero c h f g = (g, h)
spread-insert (x ∷ cs) (suc k) c h f g = (each-insert (Differ x) cs k c h.0 f.0, spread-insert cs k c h.1 f.1 g.1)

each-shut : (P : Held → Type 0) (k : ℕ) (cs : List Cell) → AllByRecursion (λ (c : Cell). P c.held) cs → AllByRecursion (λ (c : Cell). P c.held) (at_place shut k cs)
each-shut P k [] h = tt
each-shut P zero (c ∷ cs) h = h
each-shut P (suc k) (c ∷ cs) h = (h.0, each-shut P k cs h.1)

spread-shut : (k : ℕ) (cs : List Cell) → IsSpread cs → IsSpread (at_place shut k cs)
spread-shut k [] h = tt
spread-shut zero (c ∷ cs) h = h
spread-shut (suc k) (c ∷ cs) h = (each-shut (λ (x : Held). c.held.stop ≡ x.stop → ⊥) k cs h.0, spread-shut k cs h.1)

row_apart : (p : Partial) (v grown : ℕ) (r : Row) (g : Row → Row) → slice_get p.rows v ≡ Some r → (IsSpread (cells r) → IsSpread (cells (g r))) → AreApart p → AreApart (with_rows p grown (at_place g v p.rows))
row_apart p v grown r g is step h = record {
  each = λ w q at. elim (cases_eq v w) [
    | inl same ↦
        let f = at_place_from g v p.rows q (ap (slice_get (at_place g v p.rows)) same ∙ at) in
        let e : f.0 ≡ r = let both : Some f.0 ≡ Some r = sym f.1 ∙ is in cc in
        subst (λ x. IsSpread (cells x)) (sym (f.2 ∙ ap g e)) (step (h.each v r is))
    | inr other ↦ h.each w q (sym (at_place_there g v w p.rows other) ∙ at)
  ];
}

module _ (m : Mission) (b : Begun) (p : Partial) (sound : IsSound m b p) (apart : AreApart p) where
  fresh_cell : (v : ℕ) (r : Row) (c : Cell) → slice_get p.rows v ≡ Some r → p.points ≤ c.held.stop → AllByRecursion (λ (d : Cell). d.held.stop < c.held.stop) (cells r)
  fresh_cell v r c is new = each_from_at (λ (d : Cell). d.held.stop < c.held.stop) (cells r) (λ i d here. let f = (sound.fresh v d.held (record { row = r; is_row = is; place = i; cell = d; here = here; held = refl })).1 in omega arith)

  put_apart : (v i grown : ℕ) (r : Row) (c : Cell) → slice_get p.rows v ≡ Some r → length r.given ≤ suc i → p.points ≤ c.held.stop → AreApart (with_rows p grown (at_place (put i c) v p.rows))
  put_apart v i grown r c is after new =
      let all = fresh_cell v r c is new in
      row_apart p v grown r (put i c) is (λ h. subst (IsSpread) (sym (cells-put i c r after)) (spread-insert (cells r) (suc i) c h
      (each_weaker (λ (d : Cell). d.held.stop < c.held.stop) (λ (d : Cell). Differ d c) (λ d l e. absurd (omega arith)) (cells r) all)
      (each_weaker (λ (d : Cell). d.held.stop < c.held.stop) (λ (d : Cell). Differ c d) (λ d l e. absurd (omega arith)) (cells r) all))) apart

  -- each part keeps them apart
  pub apart_part : (x : Part) → MayDo m b p x → AreApart (do_part p x)
  apart_part (Inserted v i value) h = put_apart v.0 i 2 h.row (gap_cell p v.0 value.0) h.is_row h.slot.after (omega arith)
  apart_part (Followed v i value) h = put_apart v.0 i 1 h.insert.row (joined_cell p v.0 i value.0) h.insert.is_row h.insert.slot.after (omega arith)
  apart_part (Joined v i) h = row_apart p v.0 0 h.row (close i) h.is_row (λ g. subst (IsSpread) (sym (cells-close i h.row h.after)) (spread-shut (suc i) (cells h.row) g)) apart
  apart_part (Finished v) h = row_apart p v.0 0 h.row end_row h.is_row (λ g. g) apart
  apart_part (Supported t i by) h = record { each = apart.each }
  apart_part (MetGoal g by) h = record { each = apart.each }
  apart_part (Deferred t i) h = record { each = apart.each }

-- equal ends stand at one place
pub one_place : (cs : List Cell) (i j : ℕ) (c d : Cell) → IsSpread cs → slice_get cs i ≡ Some c → slice_get cs j ≡ Some d → c.held.stop ≡ d.held.stop → i ≡ j
one_place [] i j c d h is at e = absurd (cc)
one_place (x ∷ cs) zero zero c d h is at e = refl
one_place (x ∷ cs) zero (suc j) c d h is at e = let same : x ≡ c = cc in absurd (each_at (Differ x) cs j d h.0 at (ap (λ (y : Cell). y.held.stop) same ∙ e))
one_place (x ∷ cs) (suc i) zero c d h is at e = let same : x ≡ d = cc in absurd (each_at (Differ x) cs i c h.0 is (ap (λ (y : Cell). y.held.stop) same ∙ sym e))
one_place (x ∷ cs) (suc i) (suc j) c d h is at e = ap suc (one_place cs i j c d h.1 is at e)

spread_at : (cs : List Cell) → ((i j : ℕ) (c d : Cell) → i < j → slice_get cs i ≡ Some c → slice_get cs j ≡ Some d → Differ c d) → IsSpread cs
spread_at [] h = tt
spread_at (c ∷ cs) h = (each_from_at (Differ c) cs (λ i d is. h 0 (suc i) c d (omega arith) refl is), spread_at cs (λ i j d e l f g. h (suc i) (suc j) d e (omega arith) f g))

stop_of : (b : Begun) (v i : ℕ) (c : Cell) → slice_get (map given_cell (held_from b v 0 (timeline_of (tokens_of b.base) v)) ++ []) i ≡ Some c → (i < length (timeline_of (tokens_of b.base) v)) × (c.held.stop ≡ place_of (ending v i) (points_of b.base))
stop_of b v i c here =
    let ks = timeline_of (tokens_of b.base) v in
    let h = slice_get-map_some given_cell (held_from b v 0 ks) i c (ap (λ l. slice_get l i) (sym (append-nil (map given_cell (held_from b v 0 ks)))) ∙ here) in
    let many = length-held b v 0 ks in
    let zero_plus : 0 + i ≡ i = omega arith in
    (omega (arith, slice_get_within (held_from b v 0 ks) i h.0 h.1), ap (λ (y : Cell). y.held.stop) (sym h.2) ∙ held_from_at b v 0 i ks h.0 h.1 ∙ ap (λ n. place_of (ending v n) (points_of b.base)) zero_plus)

given_apart : (b : Begun) (v : ℕ) → IsSpread (map given_cell (held_from b v 0 (timeline_of (tokens_of b.base) v)) ++ [])
given_apart b v = spread_at _ (λ i j c d less is at e.
    let r = stop_of b v i c is in
    let s = stop_of b v j d at in
    let names : Some (ending v i) ≡ Some (ending v j) = sym (named_at b.base v i r.0) ∙ ap (slice_get (points_of b.base)) (sym r.1 ∙ e ∙ s.1) ∙ named_at b.base v j s.0 in
    let same = (ending_same v i v j names).1 in
    absurd (omega arith))

-- a row of one token
single_apart : (o : Option Var) (f : Var → Cell) → IsSpread (on_some o (λ (var : Var). f var ∷ []))
single_apart None f = tt
single_apart (Some var) f = (tt, tt)

-- where a search begins they are apart
pub apart_root : (m : Mission) (b : Begun) → AreApart (begin m b)
apart_root m b = by b.base b.since b.fixed
  where
    by : (base : List Extension) (since : ℤ) (fixed : List Time) → AreApart (begin m (record { base = base; since = since; fixed = fixed }))
    by [] since fixed = record {
      each = λ v q at.
          let b : Begun = record { base = []; since = since; fixed = fixed } in
          let r = slice_get-map_some (first_row m b) (numbers_from 0 (length m.vars)) v q at in
          subst (λ x. IsSpread (cells x)) r.2 (single_apart (slice_get m.vars r.0) (λ (var : Var). record { held = record { kind = record { sv = record { 0 = r.0 }; value = var.begin }; start = 0; stop = count (stub b) + r.0 }; joined = true }));
    }
    by (e ∷ es) since fixed = record {
      each = λ v q at.
          let b : Begun = record { base = e ∷ es; since = since; fixed = fixed } in
          let r = slice_get-map_some (first_row m b) (numbers_from 0 (length m.vars)) v q at in
          subst (λ x. IsSpread (cells x)) r.2 (given_apart b r.0);
    }
