-- At a node without flaw the plan with its extension has the node's tokens.
use Rattle.std.proofs.Common.{Bool, List, Some, [], ap, append-nil, arith, false, flat_map, inl, inr, length, map, nat_eq, refl, slice_get, suc, sym, true, zero, ℕ, ◌++◌, ◌+◌, ◌<◌, ◌∙◌, ◌∷◌, ◌≡◌}
use Rattle.std.proofs.lemmas.Bool.{cases_Bool, cases_lt, cond-false, cond-true, eq-eqb, eqb-true, le-ltb, lt-ltb}
use Rattle.std.proofs.lemmas.Int.{ints}
use Rattle.std.proofs.lemmas.Option.{slice_get_within}
use Rattle.std.specs.List.{AllByRecursion}
use Rattle.hs_base.specs.Points.{count, ending, place_of, points_of, start_at, timeline_of, tokens_of}
use Rattle.hs_base.specs.Schedule.{Holds, Schedule}
use Rattle.hs_base.specs.declared.mission.Kind.{Kind}
use Rattle.hs_base.specs.declared.mission.Mission.{Mission}
use Rattle.hs_base.specs.declared.plan.Extension.{Extension}
use Rattle.base_laws.proofs.ListLemmas.{slice_get-append_left}
use Rattle.base_laws.proofs.PointLemmas.{ending_kept, named, timeline-append, tokens-push}
use Rattle.search_tree.proofs.CellLemmas.{before_is, given_cell, held_from_at, held_is, held_kinds, length-held, length-map', row_at, slice_get-map_some, some_before, stop_before, stub_count}
use Rattle.search_tree.proofs.NameLemmas.{named_at}
use Rattle.search_tree.proofs.NewNameLemmas.{new_is_behind}
use Rattle.search_tree.proofs.PartLemmas.{shut}
use Rattle.search_tree.specs.Begun.{Begun, stub}
use Rattle.search_tree.specs.Extends.{extension}
use Rattle.search_tree.specs.Flaws.{slots_after}
use Rattle.search_tree.specs.Partial.{Partial, Row, cells, held_from}
use Rattle.search_tree.specs.PartialBounds.{link_bounds}
use Rattle.search_tree.specs.Renamed.{named_point, node_point}
use Rattle.search_tree.specs.Sound.{AreRows}
use Rattle.search_tree.specs.declared.held.Cell.{Cell}
use Rattle.search_tree.specs.declared.held.Held.{Held}

-- the new tokens of rows
abbrev pub kinds : Row → List Kind
kinds r = map (λ (c : Cell). c.held.kind) r.added

all_of : (v : ℕ) (cs : List Cell) → AllByRecursion (λ (c : Cell). c.held.kind.sv.0 ≡ v) cs → timeline_of (map (λ (c : Cell). c.held.kind) cs) v ≡ map (λ (c : Cell). c.held.kind) cs
all_of v [] h = refl
all_of v (c ∷ cs) h = rw (eq-eqb c.held.kind.sv.0 v h.0) (ap (λ l. c.held.kind ∷ l) (all_of v cs h.1))

none_of : (v w : ℕ) (cs : List Cell) → (w ≡ v → ⊥) → AllByRecursion (λ (c : Cell). c.held.kind.sv.0 ≡ w) cs → timeline_of (map (λ (c : Cell). c.held.kind) cs) v ≡ []
none_of v w [] d h = refl
none_of v w (c ∷ cs) d h = elim (cases_Bool (nat_eq c.held.kind.sv.0 v)) [
  | inl same ↦ absurd (d (sym h.0 ∙ eqb-true _ _ same))
  | inr other ↦ rw other (none_of v w cs d h.1)
]

none_after : (b : Begun) (v w : ℕ) (rs : List Row) → v < w → AreRows b w rs → timeline_of (flat_map kinds rs) v ≡ []
none_after b v w [] less h = refl
none_after b v w (r ∷ rs) less h =
    timeline-append (kinds r) (flat_map kinds rs) v
    ∙ (rw (none_of v w r.added (λ e. absurd (omega arith)) h.0.variable, none_after b v (suc w) rs (omega arith) h.1) refl)

pub timeline_new : (b : Begun) (w i : ℕ) (rs : List Row) (r : Row) → AreRows b w rs → slice_get rs i ≡ Some r → timeline_of (flat_map kinds rs) (w + i) ≡ kinds r
timeline_new b w i [] r h is = absurd (cc)
timeline_new b w zero (q ∷ rs) r h is =
    let same : q ≡ r = cc in
    let here : w + 0 ≡ w = omega arith in
    rw here (timeline-append (kinds q) (flat_map kinds rs) w ∙ rw (all_of w q.added h.0.variable, none_after b w (suc w) rs (omega arith) h.1) (append-nil (kinds q) ∙ ap kinds same))
timeline_new b w (suc i) (q ∷ rs) r h is =
    let there : w + suc i ≡ suc w + i = omega arith in
    rw there (timeline-append (kinds q) (flat_map kinds rs) (suc w + i) ∙ rw (none_of (suc w + i) w q.added (λ e. absurd (omega arith)) h.0.variable) (timeline_new b (suc w) i rs r h.1 is))

map-both : {X Y : Type 0} (f : X → Y) (xs ys : List X) → map f (xs ++ ys) ≡ map f xs ++ map f ys
map-both f [] ys = refl
map-both f (x ∷ xs) ys = ap (λ l. f x ∷ l) (map-both f xs ys)

map-map : {X Y Z : Type 0} (f : X → Y) (g : Y → Z) (xs : List X) → map g (map f xs) ≡ map (λ x. g (f x)) xs
map-map f g [] = refl
map-map f g (x ∷ xs) = ap (λ l. g (f x) ∷ l) (map-map f g xs)

module _ (m : Mission) (b : Begun) (p : Partial) where
  abbrev pub whole_plan : List Extension
  whole_plan = b.base ++ extension m b p ∷ []

  -- the plan's tokens of a variable are those of its row
  pub timeline_is : (v : ℕ) (r : Row) → AreRows b 0 p.rows → slice_get p.rows v ≡ Some r → timeline_of (tokens_of whole_plan) v ≡ map (λ (c : Cell). c.held.kind) (cells r)
  timeline_is v r h is =
      let row = row_at b 0 v p.rows r h is in
      let zero_plus : 0 + v ≡ v = omega arith in
      let added : timeline_of (flat_map kinds p.rows) v ≡ kinds r = rw zero_plus at (timeline_new b 0 v p.rows r h is) in
      let base : map (λ (h : Held). h.kind) r.given ≡ timeline_of (tokens_of b.base) v = ap (map (λ (h : Held). h.kind)) (rw zero_plus at row.given) ∙ held_kinds b v 0 (timeline_of (tokens_of b.base) v) in
      ap (λ l. timeline_of l v) (tokens-push b.base (extension m b p)) ∙ timeline-append (tokens_of b.base) (flat_map kinds p.rows) v
      ∙ rw (added, ← base) (sym (map-both (λ (c : Cell). c.held.kind) (map given_cell r.given) r.added ∙ ap (λ l. l ++ kinds r) (map-map given_cell (λ (c : Cell). c.held.kind) r.given)))

-- all cells but the first are joined, and the row is finished, where there is no slot
pub closed_after : (finished : Bool) (i : ℕ) (cs : List Cell) → slots_after finished i cs ≡ [] → (finished ≡ true) × AllByRecursion (λ (c : Cell). c.joined ≡ true) cs
closed_after true i [] h = (refl, tt)
closed_after false i [] h = absurd (cc)
closed_after finished i (c ∷ cs) h = elim (cases_Bool c.joined) [
  | inl shut ↦ let r = closed_after finished (suc i) cs (rw shut at h) in (r.0, (shut, r.1))
  | inr ajar ↦ let f : i ∷ slots_after finished (suc i) cs ≡ [] = rw ajar at h in absurd (cc)
]

links_hold : (t : Schedule) (x : ℕ) (cs : List Cell) (i : ℕ) (c : Cell) → AllByRecursion (λ (c : Cell). c.joined ≡ true) cs → AllByRecursion (Holds t) (link_bounds x cs) → slice_get cs i ≡ Some c → t c.held.start ≡ t (stop_before x cs i)
links_hold t x [] i c j h is = absurd (cc)
links_hold t x (d ∷ cs) zero c j h is =
    let same : d ≡ c = cc in
    let both = rw j.0 at h in
    let at : t d.held.start ≡ t x = omega (arith, ints, both.0, both.1.0) in
    ap (λ (y : Cell). t y.held.start) (sym same) ∙ at
links_hold t x (d ∷ cs) (suc i) c j h is =
    let both = rw j.0 at h in
    links_hold t d.held.stop cs i c j.1 both.1.1 is

module _ (m : Mission) (b : Begun) (p : Partial) where
  -- a token's end in the plan is its end in the node
  pub stop_is : (v i : ℕ) (r : Row) (c : Cell) → AreRows b 0 p.rows → slice_get p.rows v ≡ Some r → slice_get (cells r) i ≡ Some c → node_point m b p (place_of (ending v i) (points_of (whole_plan m b p))) ≡ c.held.stop
  stop_is v i r c h is here =
      let zero_plus : 0 + v ≡ v = omega arith in
      let given : r.given ≡ held_from b v 0 (timeline_of (tokens_of b.base) v) = rw zero_plus at (row_at b 0 v p.rows r h is).given in
      let many : length r.given ≡ length (timeline_of (tokens_of b.base) v) = ap length given ∙ length-held b v 0 (timeline_of (tokens_of b.base) v) in
      let more = stub_count b in
      elim (cases_lt i (length r.given)) [
        | inl before ↦
            let in_old : slice_get (map given_cell r.given) i ≡ Some c = sym (slice_get-append_left (map given_cell r.given) r.added i (omega (arith, length-map' given_cell r.given))) ∙ here in
            let x = slice_get-map_some given_cell r.given i c in_old in
            let stop_here : (x.0).stop ≡ place_of (ending v (0 + i)) (points_of b.base) = held_from_at b v 0 i (timeline_of (tokens_of b.base) v) x.0 (ap (λ l. slice_get l i) (sym given) ∙ x.1) in
            let zero_and : 0 + i ≡ i = omega arith in
            let same : c.held.stop ≡ place_of (ending v i) (points_of b.base) = ap (λ (y : Cell). y.held.stop) (sym x.2) ∙ stop_here ∙ ap (λ n. place_of (ending v n) (points_of b.base)) zero_and in
            let kept = ending_kept b.base (extension m b p) v i (omega arith) in
            let below = (named b.base).ends_there v i (omega arith) in
            cond-true _ _ _ (lt-ltb (place_of (ending v i) (points_of (whole_plan m b p))) (count (stub b)) (omega arith)) ∙ kept ∙ sym same
        | inr after ↦
            let far = new_is_behind b.base (extension m b p) v i (omega arith) in
            let long : i < length (timeline_of (tokens_of (whole_plan m b p)) v) = omega (arith, ap length (timeline_is m b p v r h is), length-map' (λ (c : Cell). c.held.kind) (cells r), slice_get_within (cells r) i c here) in
            cond-false _ _ _ (le-ltb (place_of (ending v i) (points_of (whole_plan m b p))) (count (stub b)) (omega arith))
            ∙ ap (named_point p) (named_at (whole_plan m b p) v i long) ∙ ap (λ (y : Held). y.stop) (held_is p v i r c is here)
      ]

  pub start_is : (t : Schedule) (v i : ℕ) (r : Row) (c : Cell) → AreRows b 0 p.rows → slice_get p.rows v ≡ Some r → AllByRecursion (λ (c : Cell). c.joined ≡ true) (cells r) → AllByRecursion (Holds t) (link_bounds 0 (cells r)) → slice_get (cells r) i ≡ Some c → t (node_point m b p (start_at (whole_plan m b p) v i)) ≡ t c.held.start
  start_is t v zero r c h is joined holds here =
      let more = stub_count b in
      ap t (cond-true _ _ _ (lt-ltb 0 (count (stub b)) (omega arith))) ∙ sym (links_hold t 0 (cells r) 0 c joined holds here)
  start_is t v (suc j) r c h is joined holds here =
      let before = some_before (cells r) j c here in
      ap t (stop_is v j r before.0 h is before.1 ∙ sym (before_is 0 (cells r) j before.0 before.1)) ∙ sym (links_hold t 0 (cells r) (suc j) c joined holds here)
