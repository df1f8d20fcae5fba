-- A table of distances, from rows that are exact.
use Rattle.std.proofs.Common.{Vec, Global, neg_ℤ, ◌≡◌, ℕ, ◌<◌, ◌≤◌, List, [], length, get_or, map, All, ℤ, pos, ◌+ℤ◌, ◌-ℤ◌, ◌≤ℤ◌, refl, sym, ap, ◌∙◌, subst, arith}
use Rattle.std.proofs.lemmas.Int.{ints, by_lt_z}
use Rattle.std.proofs.lemmas.List.{get_or_read, get_or-map, length-map}
use Rattle.std.proofs.lemmas.List.FromFn.{get_or-map-range_with_len}
use Rattle.std.proofs.lemmas.List.Elements.{All-weaker, recursion_from_All, Contains-get_or}
use Rattle.hs_base.specs.declared.net.Bound.{Bound}
use Rattle.hs_base.specs.Schedule.{time_of, IsBelow, Holds, Meets, Implied, Tight, numbers_from}
use Rattle.hs_base.specs.Reduced.{Table, IsTableOf}
use Rattle.stn_distance.specs.Ranges.{IsInRange}
use Rattle.stn_distance.proofs.RowLemmas.{Implied-step}
use Rattle.stn_distance.specs.Rows.{items_of}
use Rattle.stn_distance.specs.Folding.{number_at}
use Rattle.stn_distance.specs.Distances.{weight, rows_of_table, folded_weight, IsExact}

-- the rows of a table give its weights
pub row-read : (n : ℕ) (d : Table) (p q : ℕ) → p < n → q < n → time_of (get_or (rows_of_table n d) p []) q ≡ d p q
row-read n d p q lp lq =
    ap (λ (row : List ℤ). time_of row q) (get_or-map-range_with_len (λ p. map (d p) (numbers_from 0 n)) 0 n p p [] lp (omega arith))
    ∙ get_or-map-range_with_len (d p) 0 n q q (pos 0) lq (omega arith)

-- a tight weight from a point to itself is 0
Tight-self : (bounds : List Bound) (p : ℕ) (w : ℤ) → Tight bounds p p w → w ≡ pos 0
Tight-self bounds p w h =
    let low : w ≤ℤ pos 0 = h.least (pos 0) (record { holds = λ t m. omega (arith, ints) }) in
    by_lt_z w (pos 0) (λ less.
    (let all : Implied bounds p p (w -ℤ pos 1) = record { holds = λ t m. let i = h.implied.holds t m in absurd (omega (arith, ints)) } in
    let e = h.least (w -ℤ pos 1) all in absurd (omega (arith, ints))))
    (λ high. omega (arith, ints))

-- the distances from point 0 are a schedule
Meets-weights : (n : ℕ) (bounds : List Bound) (d : Table) → 1 ≤ n → All (IsInRange n) bounds → ((p q : ℕ) → p < n → q < n → Tight bounds p q (d p q)) → Meets bounds (d 0)
Meets-weights n bounds d some range tight = record {
  origin = Tight-self bounds 0 (d 0 0) (tight 0 0 some some);
  each = recursion_from_All (Holds (d 0)) bounds (λ k e l.
      (let b = get_or bounds k e in let r = range k e l in
      let from = tight 0 b.from.0 some r.from_below in let to = tight 0 b.to.0 some r.to_below in
      let far = to.least (d 0 b.from.0 +ℤ b.most) (Implied-step bounds 0 b (d 0 b.from.0) (d 0 b.from.0 +ℤ b.most) (Contains-get_or bounds k e l) from.implied refl) in
      omega (arith, ints)));
}

pub IsTableOf-from_exact : (n : ℕ) (bounds : List Bound) (places : List ℕ) (offsets : List ℤ) (rows : List (List ℤ)) → IsExact n bounds places offsets rows
    → IsTableOf n bounds (weight (record { count = n; bounds = bounds; rows = rows_of_table n (folded_weight places offsets rows) }))
IsTableOf-from_exact n bounds places offsets rows h =
    let d = folded_weight places offsets rows in let table = rows_of_table n d in
    let tight : (p q : ℕ) → p < n → q < n → Tight bounds p q (time_of (get_or table p []) q) = λ p q lp lq. subst (Tight bounds p q) (sym (row-read n d p q lp lq)) (h.tight p q lp lq) in
    record {
      below = recursion_from_All (IsBelow n) bounds (All-weaker (IsInRange n) (IsBelow n) (λ b r. (r.from_below, r.to_below)) bounds h.range);
      some = λ q. time_of (get_or table 0 []) q;
      meets = Meets-weights n bounds (λ p q. time_of (get_or table p []) q) h.some h.range tight;
      tight = tight;
      after_origin = h.stays.after_origin;
      before_last = h.stays.before_last;
    }

-- ---- Reading the distance of two points

rows_len : (rows : List (Vec ℤ Global)) → length (items_of rows) ≡ length rows
rows_len rows = length-map rows (λ (row : Vec ℤ Global). row.items)

pub row_in : (n : ℕ) (bounds : List Bound) (places : List ℕ) (offsets : List ℤ) (rows : List (Vec ℤ Global)) (p place : ℕ) → IsExact n bounds places offsets (items_of rows)
    → p < n → place ≡ get_or places p place → place < length rows
row_in n bounds places offsets rows p place h lp e =
    let len = h.places_len in let l = rows_len rows in let i = h.place_in p lp in
    let read = get_or_read places p place (omega arith) e 0 in omega arith

row_is : (n : ℕ) (bounds : List Bound) (places : List ℕ) (offsets : List ℤ) (rows : List (Vec ℤ Global)) (p place : ℕ) (row : Vec ℤ Global) → IsExact n bounds places offsets (items_of rows)
    → p < n → place ≡ get_or places p place → row ≡ get_or rows place row → get_or (items_of rows) (number_at places p) [] ≡ row.items
row_is n bounds places offsets rows p place row h lp e r =
    let len = h.places_len in
    ap (λ (k : ℕ). get_or (items_of rows) k []) (sym (get_or_read places p place (omega arith) e 0))
    ∙ get_or-map (λ (row : Vec ℤ Global). row.items) rows place row [] (row_in n bounds places offsets rows p place h lp e)
    ∙ ap (λ (row : Vec ℤ Global). row.items) (sym r)

pub apart_in : (n : ℕ) (bounds : List Bound) (places : List ℕ) (offsets : List ℤ) (rows : List (Vec ℤ Global)) (p q place place2 : ℕ) (row : Vec ℤ Global) → IsExact n bounds places offsets (items_of rows)
    → p < n → q < n → place ≡ get_or places p place → row ≡ get_or rows place row → place2 ≡ get_or places q place2 → place2 < length row.items
apart_in n bounds places offsets rows p q place place2 row h lp lq e r e2 =
    let len = h.places_len in let i = h.place_in q lq in
    let read = get_or_read places q place2 (omega arith) e2 0 in
    let long = ap (λ (row : List ℤ). length row) (row_is n bounds places offsets rows p place row h lp e r) in
    let l = h.row_len (number_at places p) (h.place_in p lp) in omega arith

pub apart_is : (n : ℕ) (bounds : List Bound) (places : List ℕ) (offsets : List ℤ) (rows : List (Vec ℤ Global)) (p q place place2 : ℕ) (row : Vec ℤ Global) (apart : ℤ) → IsExact n bounds places offsets (items_of rows)
    → p < n → q < n → place ≡ get_or places p place → row ≡ get_or rows place row → place2 ≡ get_or places q place2 → apart ≡ get_or row.items place2 apart
    → time_of (get_or (items_of rows) (number_at places p) []) (number_at places q) ≡ apart
apart_is n bounds places offsets rows p q place place2 row apart h lp lq e r e2 a =
    let len = h.places_len in
    ap (λ (row : List ℤ). time_of row (number_at places q)) (row_is n bounds places offsets rows p place row h lp e r)
    ∙ ap (time_of row.items) (sym (get_or_read places q place2 (omega arith) e2 0))
    ∙ sym (get_or_read row.items place2 apart (apart_in n bounds places offsets rows p q place place2 row h lp lq e r e2) a (pos 0))

-- a distance is within LAST of 0
pub Tight-low : (n : ℕ) (bounds : List Bound) (places : List ℕ) (offsets : List ℤ) (rows : List (List ℤ)) (p q : ℕ) → IsExact n bounds places offsets rows → p < n → q < n
    → neg_ℤ (pos 1000000000) ≤ℤ folded_weight places offsets rows p q
Tight-low n bounds places offsets rows p q h lp lq =
    let d = folded_weight places offsets rows in
    let m = Meets-weights n bounds d h.some h.range h.tight in let o = m.origin in
    let i = (h.tight p q lp lq).implied.holds (d 0) m in
    let a = (h.stays.after_origin q lq).holds (d 0) m in let b = (h.stays.before_last p lp).holds (d 0) m in omega (arith, ints)

pub Tight-high : (n : ℕ) (bounds : List Bound) (places : List ℕ) (offsets : List ℤ) (rows : List (List ℤ)) (p q : ℕ) → IsExact n bounds places offsets rows → p < n → q < n
    → folded_weight places offsets rows p q ≤ℤ pos 1000000000
Tight-high n bounds places offsets rows p q h lp lq =
    (h.tight p q lp lq).least (pos 1000000000) (record {
      holds = λ t m. (let a = (h.stays.after_origin p lp).holds t m in let b = (h.stays.before_last q lq).holds t m in omega (arith, ints));
    })
