-- The new tokens of a partial plan without flaw keep the order of plans.
use Rattle.std.proofs.Common.{◌≡◌, ℕ, suc, ◌+◌, ◌<◌, ◌≤◌, true, false, List, [], ◌∷◌, ◌++◌, append-nil, append_assoc, flat_map, length, length-append, map, slice_get, Some, nat_eq, refl, sym, ap, ◌∙◌, subst, arith, inl, inr}
use Rattle.std.proofs.lemmas.Bool.{cases_Bool, cases_lt, eq-eqb, eqb-true}
use Rattle.std.proofs.lemmas.Option.{slice_get-get_or, slice_get_within}
use Rattle.std.specs.List.{AllByRecursion}
use Rattle.std.specs.Prelude.{get_or}
use Rattle.hs_base.specs.Checked.{HasTokenOf, KeepsOrder, KeepsOrderAt, MayStandBehind}
use Rattle.hs_base.specs.Points.{timeline_of, tokens_of}
use Rattle.hs_base.specs.Schedule.{Meets, Schedule}
use Rattle.hs_base.specs.Walks.{EachAfter}
use Rattle.hs_base.specs.declared.mission.Kind.{Kind}
use Rattle.hs_base.specs.declared.mission.Mission.{Mission}
use Rattle.base_laws.proofs.ListLemmas.{each_both, each_split, each_weaker}
use Rattle.base_laws.proofs.PointLemmas.{timeline-append}
use Rattle.search_laws.proofs.GivenLemmas.{row_here}
use Rattle.search_laws.proofs.LinkLemmas.{stands}
use Rattle.search_laws.specs.Good.{IsGood}
use Rattle.search_laws.specs.Lawful.{AreLinked, IsLawful}
use Rattle.search_tree.proofs.CellLemmas.{given_cell, held_kinds, length-map'}
use Rattle.search_tree.proofs.NodeLemmas.{kinds, timeline_is}
use Rattle.search_tree.proofs.PlanOfNode.{row_done, zero_plus}
use Rattle.search_tree.proofs.RootLemmas.{each_map}
use Rattle.search_tree.specs.Begun.{Begun}
use Rattle.search_tree.specs.Extends.{extension}
use Rattle.search_tree.specs.Flaws.{flaws}
use Rattle.search_tree.specs.Outset.{MayBegin}
use Rattle.search_tree.specs.Partial.{Partial, Row, cells}
use Rattle.search_tree.specs.PartialBounds.{partial_bounds}
use Rattle.search_tree.specs.declared.held.Cell.{Cell}
use Rattle.search_tree.specs.declared.held.Held.{Held}

-- one list after another
pub EachAfter-append : {X : Type 0} (P : List X → X → Type 0) (before xs ys : List X) → EachAfter P before xs → EachAfter P (before ++ xs) ys → EachAfter P before (xs ++ ys)
EachAfter-append P before [] ys h k = subst (λ l. EachAfter P l ys) (append-nil before) k
EachAfter-append P before (x ∷ xs) ys h k = (h.0, EachAfter-append P (before ++ x ∷ []) xs ys h.1 (subst (λ l. EachAfter P l ys) (sym (append_assoc before (x ∷ []) xs)) k))

-- a list's tokens of a variable are all of them, or none
all_of : (v : ℕ) (ks : List Kind) → AllByRecursion (λ (k : Kind). k.sv.0 ≡ v) ks → timeline_of ks v ≡ ks
all_of v [] h = refl
all_of v (k ∷ ks) h = rw (eq-eqb k.sv.0 v h.0) (ap (λ l. k ∷ l) (all_of v ks h.1))

none_of : (v : ℕ) (ks : List Kind) → AllByRecursion (λ (k : Kind). k.sv.0 < v) ks → timeline_of ks v ≡ []
none_of v [] h = refl
none_of v (k ∷ ks) h = elim (cases_Bool (nat_eq k.sv.0 v)) [
  | inl same ↦ let e : k.sv.0 ≡ v = eqb-true _ _ same in let less = h.0 in absurd (omega arith)
  | inr other ↦ rw other (none_of v ks h.1)
]

abbrev pub kind_in : Cell → Kind
kind_in c = c.held.kind

given_kinds : (hs : List Held) → map kind_in (map given_cell hs) ≡ map (λ (h : Held). h.kind) hs
given_kinds [] = refl
given_kinds (h ∷ hs) = ap (λ l. h.kind ∷ l) (given_kinds hs)

map-append : {X Y : Type 0} (f : X → Y) (xs ys : List X) → map f (xs ++ ys) ≡ map f xs ++ map f ys
map-append f [] ys = refl
map-append f (x ∷ xs) ys = ap (λ l. f x ∷ l) (map-append f xs ys)

-- a token more
token-more : (ts us : List Kind) (v : ℕ) → HasTokenOf ts v → HasTokenOf (ts ++ us) v
token-more ts us v h = omega (arith, ap length (timeline-append ts us v), length-append (timeline_of ts v) (timeline_of us v), h)

module _ (m : Mission) (b : Begun) (p : Partial) (t : Schedule) (may : MayBegin m b) (good : IsGood m b p) (lawful : IsLawful m b p) (flawless : flaws m b p ≡ []) (meets : Meets (partial_bounds m b p) t) where
  -- the base plan's tokens of a row
  base_kinds : (w : ℕ) (r : Row) → slice_get p.rows w ≡ Some r → map kind_in (map given_cell r.given) ≡ timeline_of (tokens_of b.base) w
  base_kinds w r is = given_kinds r.given ∙ ap (map (λ (h : Held). h.kind)) (row_here m b p may good w r is).given ∙ held_kinds b w 0 (timeline_of (tokens_of b.base) w)

  -- the tokens of variable w among those up to some of its row
  line_is : (w : ℕ) (r : Row) (before : List Kind) (front : List Cell) → slice_get p.rows w ≡ Some r → AllByRecursion (λ (k : Kind). k.sv.0 < w) before → AllByRecursion (λ (c : Cell). c.held.kind.sv.0 ≡ w) front → timeline_of (tokens_of b.base ++ (before ++ map kind_in front)) w ≡ map kind_in (map given_cell r.given ++ front)
  line_is w r before front is low own =
      timeline-append (tokens_of b.base) (before ++ map kind_in front) w
      ∙ ap (λ l. timeline_of (tokens_of b.base) w ++ l) (timeline-append before (map kind_in front) w ∙ ap (λ l. l ++ timeline_of (map kind_in front) w) (none_of w before low) ∙ all_of w (map kind_in front) (each_map (λ (k : Kind). k.sv.0 ≡ w) kind_in front own))
      ∙ ap (λ l. l ++ map kind_in front) (sym (base_kinds w r is))
      ∙ sym (map-append kind_in (map given_cell r.given) front)

  -- a new token after those before it
  order_at : (w : ℕ) (r : Row) (before : List Kind) (front : List Cell) (c : Cell) (rest : List Cell) → slice_get p.rows w ≡ Some r → r.added ≡ front ++ c ∷ rest → AllByRecursion (λ (k : Kind). k.sv.0 < w) before → ((v : ℕ) → v < w → HasTokenOf (tokens_of b.base ++ before) v) → KeepsOrderAt m b.base (before ++ map kind_in front) c.held.kind
  order_at w r before front c rest is whole low firsts =
      let row = row_here m b p may good w r is in
      let split = each_split (λ (c : Cell). c.held.kind.sv.0 ≡ w) front (c ∷ rest) (subst (AllByRecursion (λ (c : Cell). c.held.kind.sv.0 ≡ w)) whole row.variable) in
      let own : c.held.kind.sv.0 ≡ w = split.1.0 in
      let var = get_or m.vars w (record { name = []; values = []; begin = record { 0 = 0 } }) in
      let below = slice_get_within p.rows w r is in
      let is_var : slice_get m.vars w ≡ Some var = slice_get-get_or m.vars w _ (let e = good.sound.one_each in omega arith) in
      let all : cells r ≡ (map given_cell r.given ++ front) ++ c ∷ rest = ap (λ l. map given_cell r.given ++ l) whole ∙ sym (append_assoc (map given_cell r.given) front (c ∷ rest)) in
      let joined = (each_split (λ (c : Cell). c.joined ≡ true) (map given_cell r.given ++ front) (c ∷ rest) (subst (AllByRecursion (λ (c : Cell). c.joined ≡ true)) all (row_done m b p t good.sound flawless meets w r is).1)).1.0 in
      let behind : MayStandBehind var (map kind_in (map given_cell r.given ++ front)) c.held.kind.value.0 = stands var (map given_cell r.given ++ front) c rest (subst (AreLinked var) all (lawful.linked w r var is is_var)) joined in
      record {
        grouped = each_both (λ (k : Kind). k.sv.0 ≤ c.held.kind.sv.0) before (map kind_in front)
            (each_weaker (λ (k : Kind). k.sv.0 < w) (λ (k : Kind). k.sv.0 ≤ c.held.kind.sv.0) (λ k l. omega arith) before low)
            (each_map (λ (k : Kind). k.sv.0 ≤ c.held.kind.sv.0) kind_in front (each_weaker (λ (d : Cell). d.held.kind.sv.0 ≡ w) (λ (d : Cell). d.held.kind.sv.0 ≤ c.held.kind.sv.0) (λ d e. omega arith) front split.0));
        firsts = λ v less. subst (λ l. HasTokenOf l v) (append_assoc (tokens_of b.base) before (map kind_in front)) (token-more (tokens_of b.base ++ before) (map kind_in front) v (firsts v (omega arith)));
        var = var;
        is_var = ap (slice_get m.vars) own ∙ is_var;
        linked = subst (λ (l : List Kind). MayStandBehind var l c.held.kind.value.0) (sym (ap (timeline_of (tokens_of b.base ++ (before ++ map kind_in front))) own ∙ line_is w r before front is low split.0)) behind;
      }

  -- the new tokens of one row
  order_row : (w : ℕ) (r : Row) (before : List Kind) → slice_get p.rows w ≡ Some r → AllByRecursion (λ (k : Kind). k.sv.0 < w) before → ((v : ℕ) → v < w → HasTokenOf (tokens_of b.base ++ before) v) → (front rest : List Cell) → r.added ≡ front ++ rest → EachAfter (KeepsOrderAt m b.base) (before ++ map kind_in front) (map kind_in rest)
  order_row w r before is low firsts front [] whole = tt
  order_row w r before is low firsts front (c ∷ rest) whole = (
    order_at w r before front c rest is whole low firsts,
    subst (λ l. EachAfter (KeepsOrderAt m b.base) l (map kind_in rest)) (ap (λ l. before ++ l) (map-append kind_in front (c ∷ [])) ∙ sym (append_assoc before (map kind_in front) (c.held.kind ∷ [])))
        (order_row w r before is low firsts (front ++ c ∷ []) rest (whole ∙ sym (append_assoc front (c ∷ []) rest))),
  )

  -- each row has a token
  row_token : (w : ℕ) (r : Row) (before : List Kind) → slice_get p.rows w ≡ Some r → AllByRecursion (λ (k : Kind). k.sv.0 < w) before → HasTokenOf (tokens_of b.base ++ (before ++ kinds r)) w
  row_token w r before is low =
      let row = row_here m b p may good w r is in
      let some = row.some in
      omega (arith, ap length (line_is w r before r.added is low row.variable), length-map' kind_in (cells r))

  -- the new tokens of the rows from w on
  order_rows : (w : ℕ) (rs : List Row) (before : List Kind) → ((i : ℕ) (r : Row) → slice_get rs i ≡ Some r → slice_get p.rows (w + i) ≡ Some r) → AllByRecursion (λ (k : Kind). k.sv.0 < w) before → ((v : ℕ) → v < w → HasTokenOf (tokens_of b.base ++ before) v) → EachAfter (KeepsOrderAt m b.base) before (flat_map kinds rs)
  order_rows w [] before at low firsts = tt
  order_rows w (r ∷ rs) before at low firsts =
      let is : slice_get p.rows w ≡ Some r = ap (slice_get p.rows) (omega arith) ∙ at 0 r refl in
      let row = row_here m b p may good w r is in
      EachAfter-append (KeepsOrderAt m b.base) before (kinds r) (flat_map kinds rs)
      (subst (λ l. EachAfter (KeepsOrderAt m b.base) l (kinds r)) (append-nil before) (order_row w r before is low firsts [] r.added refl))
      (order_rows (suc w) rs (before ++ kinds r) (λ i q there. ap (slice_get p.rows) (omega arith) ∙ at (suc i) q there)
      (each_both (λ (k : Kind). k.sv.0 < suc w) before (kinds r) (each_weaker (λ (k : Kind). k.sv.0 < w) (λ (k : Kind). k.sv.0 < suc w) (λ k l. omega arith) before low)
      (each_map (λ (k : Kind). k.sv.0 < suc w) kind_in r.added (each_weaker (λ (c : Cell). c.held.kind.sv.0 ≡ w) (λ (c : Cell). c.held.kind.sv.0 < suc w) (λ c e. omega arith) r.added row.variable)))
      (λ v less. elim (cases_lt v w) [
        | inl before_it ↦ subst (λ l. HasTokenOf l v) (append_assoc (tokens_of b.base) before (kinds r)) (token-more (tokens_of b.base ++ before) (kinds r) v (firsts v before_it))
        | inr not ↦ let e : w ≡ v = omega arith in subst (HasTokenOf (tokens_of b.base ++ (before ++ kinds r))) e (row_token w r before is low)
      ]))

  pub keeps_order : KeepsOrder m b.base (extension m b p)
  keeps_order = record {
    each = order_rows 0 p.rows [] (λ i r is. ap (slice_get p.rows) (zero_plus i) ∙ is) tt (λ v less. absurd (omega arith));
    all = λ v below.
        let r = get_or p.rows v (record { given = []; added = []; finished = false }) in
        let is : slice_get p.rows v ≡ Some r = slice_get-get_or p.rows v _ (let e = good.sound.one_each in omega arith) in
        let some = (row_here m b p may good v r is).some in
        omega (arith, ap length (timeline_is m b p v r good.sound.rows is), length-map' kind_in (cells r));
  }
