-- What a flaw that is listed says of a partial plan.
use Rattle.std.proofs.Common.{◌≡◌, ℕ, zero, suc, ◌+◌, ◌-◌, ◌<◌, ◌≤◌, true, false, Bool, List, [], ◌∷◌, ◌++◌, append-nil, append_assoc, cond, get_or, length, length-append, map, slice_get, Option, Some, None, refl, sym, ap, ◌∙◌, subst, arith, inl, inr}
use Rattle.std.proofs.lemmas.Bool.{cases_Bool, cases_lt, false≢true}
use Rattle.std.proofs.lemmas.Option.{slice_get-get_or, slice_get-map, slice_get_within}
use Rattle.std.specs.List.{AllByRecursion}
use Rattle.std.specs.Prelude.{option_map}
use Rattle.hs_base.specs.Needs.{needs_of}
use Rattle.hs_base.specs.Schedule.{numbers_from}
use Rattle.hs_base.specs.declared.mission.Mission.{Mission}
use Rattle.base_laws.proofs.ListLemmas.{each_at, each_weaker, slice_get-append_left}
use Rattle.plan_laws.proofs.LengthLemmas.{number_is}
use Rattle.search_laws.proofs.HasLemmas.{Has, has_either, of_flat_map, of_flat_map_from, of_map}
use Rattle.search_tree.proofs.CellLemmas.{given_cell, held_is, length-map', slice_get-past}
use Rattle.search_tree.proofs.PlanOfNode.{zero_plus}
use Rattle.search_tree.specs.Begun.{Begun}
use Rattle.search_tree.specs.Flaws.{flat_map_from, flaws, goal_flaws, is_served, needs_open, open_goals, open_needs, open_slots, slots, slots_after, slots_from}
use Rattle.search_tree.specs.May.{IsSlot, IsThere}
use Rattle.search_tree.specs.Partial.{Partial, Row, at, cells, held_by, nobody}
use Rattle.search_tree.specs.declared.flaw.Flaw.{Flaw}
use Rattle.search_tree.specs.declared.flaw.Flaw.TheVariants.{Gap as GapFlaw, Goal as GoalFlaw, Need as NeedFlaw}
use Rattle.search_tree.specs.declared.held.Cell.{Cell}
use Rattle.search_tree.specs.declared.held.Held.{Held}

-- the only element
pub has_one : {X : Type 0} (x y : X) → Has (x ∷ []) y → x ≡ y
has_one x y (zero, is) = let e : Some x ≡ Some y = is in cc
has_one x y (suc j, is) = absurd (cc)

-- a place behind which a list of tokens has a gap or its open end
pub record SlotIn (finished : Bool) (all : List Cell) (i : ℕ) : Type 0 where
  pub place : suc i ≤ length all
  pub gap : (d : Cell) → slice_get all (suc i) ≡ Some d → d.joined ≡ false
  pub yet : suc i ≡ length all → finished ≡ false

maybe_first : {X : Type 0} (P : X → Type 0) (s : Bool) (x : X) (rest : List X) → (s ≡ false → P x) → AllByRecursion P rest → AllByRecursion P (cond s [] (x ∷ []) ++ rest)
maybe_first P true x rest f h = h
maybe_first P false x rest f h = (f refl, h)

slots_in : (finished : Bool) (before cs : List Cell) (k : ℕ) → length before ≡ suc k → AllByRecursion (SlotIn finished (before ++ cs)) (slots_after finished k cs)
slots_in true before [] k long = tt
slots_in false before [] k long =
    let whole = ap length (append-nil before) in
    (record { place = omega arith; gap = λ d is. let w = slice_get_within (before ++ []) (suc k) d is in absurd (omega arith); yet = λ e. refl }, tt)
slots_in finished before (c ∷ cs) k long =
    let more : AllByRecursion (SlotIn finished (before ++ c ∷ cs)) (slots_after finished (suc k) cs) = subst (λ l. AllByRecursion (SlotIn finished l) (slots_after finished (suc k) cs)) (append_assoc before (c ∷ []) cs) (slots_in finished (before ++ c ∷ []) cs (suc k) (length-append before (c ∷ []) ∙ (omega arith))) in
    maybe_first (SlotIn finished (before ++ c ∷ cs)) c.joined k (slots_after finished (suc k) cs) (λ ajar.
    let whole = length-append before (c ∷ cs) in
    let first : suc k - length before ≡ 0 = omega arith in
    let here : slice_get (before ++ c ∷ cs) (suc k) ≡ Some c = slice_get-past before (c ∷ cs) (suc k) (omega arith) ∙ ap (slice_get (c ∷ cs)) first in
    record { place = omega arith; gap = λ d is. let e : Some c ≡ Some d = sym here ∙ is in let f : c ≡ d = cc in ap (λ (y : Cell). y.joined) (sym f) ∙ ajar; yet = λ e. absurd (omega arith) }) more

slots_of : (finished : Bool) (cs : List Cell) → AllByRecursion (SlotIn finished cs) (slots_from finished cs)
slots_of finished [] = tt
slots_of finished (c ∷ cs) = slots_in finished (c ∷ []) cs 0 refl

not_given : (r : Row) (i : ℕ) → SlotIn r.finished (cells r) i → length r.given ≤ suc i
not_given r i s = elim (cases_lt (suc i) (length r.given)) [
  | inl below ↦
      let h = get_or r.given (suc i) nobody in
      let there : slice_get (map given_cell r.given) (suc i) ≡ Some (given_cell h) = slice_get-map given_cell r.given (suc i) ∙ ap (option_map given_cell) (slice_get-get_or r.given (suc i) nobody below) in
      let e = length-map' given_cell r.given in
      let here : slice_get (cells r) (suc i) ≡ Some (given_cell h) = slice_get-append_left (map given_cell r.given) r.added (suc i) (omega arith) ∙ there in
      absurd (false≢true (sym (s.gap (given_cell h) here)))
  | inr far ↦ far
]

-- the slots of a row are slots
pub slots_are : (r : Row) → AllByRecursion (λ i. IsSlot i r) (slots r)
slots_are r = each_weaker (SlotIn r.finished (cells r)) (λ i. IsSlot i r) (λ i s. record { after = not_given r i s; place = s.place; gap = s.gap; yet = s.yet }) (slots r) (slots_of r.finished (cells r))

pub slot_is : (r : Row) (i : ℕ) → Has (slots r) i → IsSlot i r
slot_is r i h = each_at (λ i. IsSlot i r) (slots r) h.0 i (slots_are r) h.1

-- the row has a slot there
pub record HasSlot (p : Partial) (v i : ℕ) : Type 0 where
  pub row : Row
  pub is_row : slice_get p.rows v ≡ Some row
  pub slot : IsSlot i row

module _ (m : Mission) (b : Begun) (p : Partial) where
  -- the goal has no token; a need of a token that is there isn't served; there is a slot
  abbrev pub IsFlaw : Flaw → Type 0
  IsFlaw (GoalFlaw i) = slice_get p.goals i ≡ Some None
  IsFlaw (NeedFlaw t j) = IsThere p t × (is_served b p (held_by p t) j ≡ false) × (j < length (needs_of m (held_by p t).kind))
  IsFlaw (GapFlaw v i) = HasSlot p v.0 i

  goal_is : (i : ℕ) (o : Option Held) (f : Flaw) → slice_get p.goals i ≡ Some o → Has (goal_flaws i o) f → IsFlaw f
  goal_is i None f is h = subst IsFlaw (has_one (GoalFlaw i) f h) is
  goal_is i (Some x) f is h = absurd (let e : slice_get [] h.0 ≡ Some f = h.1 in cc)

  need_is : (v i : ℕ) (r : Row) (c : Cell) (f : Flaw) → slice_get p.rows v ≡ Some r → slice_get (cells r) i ≡ Some c → Has (needs_open m b p v i c) f → IsFlaw f
  need_is v i r c f is here h =
      let j = of_flat_map (λ j. cond (is_served b p c.held j) [] (NeedFlaw (at v i) j ∷ [])) (numbers_from 0 (length (needs_of m c.held.kind))) f h in
      elim (cases_Bool (is_served b p c.held j.0)) [
        | inl served ↦ absurd (let e : Has [] f = rw served at j.2 in let g : slice_get [] e.0 ≡ Some f = e.1 in cc)
        | inr unserved ↦
            let e : Has (NeedFlaw (at v i) j.0 ∷ []) f = rw unserved at j.2 in
            let held = held_is p v i r c is here in
            let number = number_is 0 (length (needs_of m c.held.kind)) j.1.0 j.0 j.1.1 in
            let below : j.0 < length (needs_of m (held_by p (at v i)).kind) = omega (arith, number.0, number.1, ap (λ (x : Held). length (needs_of m x.kind)) held) in
            subst IsFlaw (has_one (NeedFlaw (at v i) j.0) f e) (record { row = r; is_row = is; cell = c; here = here }, ap (λ (x : Held). is_served b p x j.0) held ∙ unserved, below)
      ]

  slot_here : (v : ℕ) (r : Row) (f : Flaw) → slice_get p.rows v ≡ Some r → Has (map (GapFlaw (record { 0 = v })) (slots r)) f → IsFlaw f
  slot_here v r f is h =
      let s = of_map (GapFlaw (record { 0 = v })) (slots r) f h in
      subst IsFlaw s.2 (record { row = r; is_row = is; slot = slot_is r s.0 s.1 })

  pub flaw_is : (f : Flaw) → Has (flaws m b p) f → IsFlaw f
  flaw_is f h = elim (has_either (open_goals p ++ open_needs m b p) (open_slots p) f h) [
    | inl front ↦ elim (has_either (open_goals p) (open_needs m b p) f front) [
      | inl goal ↦
          let g = of_flat_map_from goal_flaws 0 p.goals f goal in
          goal_is (0 + g.0) g.1 f (ap (slice_get p.goals) (zero_plus g.0) ∙ g.2) g.3
      | inr need ↦
          let v = of_flat_map_from (λ v (r : Row). flat_map_from (needs_open m b p v) 0 (cells r)) 0 p.rows f need in
          let i = of_flat_map_from (needs_open m b p (0 + v.0)) 0 (cells v.1) f v.3 in
          need_is (0 + v.0) (0 + i.0) v.1 i.1 f (ap (slice_get p.rows) (zero_plus v.0) ∙ v.2) (ap (slice_get (cells v.1)) (zero_plus i.0) ∙ i.2) i.3
    ]
    | inr slot ↦
        let v = of_flat_map_from (λ v (r : Row). map (GapFlaw (record { 0 = v })) (slots r)) 0 p.rows f slot in
        slot_here (0 + v.0) v.1 f (ap (slice_get p.rows) (zero_plus v.0) ∙ v.2) v.3
  ]
