-- Rows of distances: any relaxation keeps what holds of every schedule, and a row that keeps all bounds is exact.
use Rattle.std.proofs.Common.{◌++◌, Vec, Global, below_more, replicate, ◌≡◌, ℕ, ◌+◌, ◌<◌, ◌≤◌, List, [], ◌∷◌, length, get_or, set, All, Contains, ℤ, pos, negsuc, neg_ℤ, ◌+ℤ◌, ◌-ℤ◌, ◌≤ℤ◌, ◌<ℤ◌, refl, sym, ap, ◌∙◌, subst, arith, inl, inr, get_or-set_same, get_or-set_other, length-set}
use Rattle.std.proofs.lemmas.Int.{ints}
use Rattle.std.proofs.lemmas.List.{map_push, get_or_push, get_or_append_left, length-map, length-replicate, get_or-replicate}
use Rattle.std.proofs.lemmas.List.Sums.{sum_by-set}
use Rattle.std.proofs.lemmas.List.Elements.{All-contains, All-from_recursion, recursion_from_All, Contains-get_or}
use Rattle.std.proofs.lemmas.Bool.{cases_eq}
use Rattle.hs_base.specs.declared.net.Bound.{Bound}
use Rattle.hs_base.specs.Schedule.{Schedule, time_of, Holds, Meets, Implied}
use Rattle.stn_distance.specs.Ranges.{StaysInTime}
use Rattle.stn_distance.specs.Causes.{above, bound_at, no_bound}
use Rattle.stn_distance.specs.Rows.{IsStep, Sample, Reaches, Returns, room, IsRow, items_of}
use Rattle.stn_distance.proofs.CauseLemmas.{above-lt}

-- a schedule keeps each of its bounds
pub Holds-given : (bounds : List Bound) (t : Schedule) (b : Bound) → Meets bounds t → Contains bounds b → Holds t b
Holds-given bounds t b m c = All-contains (Holds t) bounds b (All-from_recursion (Holds t) bounds m.each) c

-- what holds of every schedule is at least -LAST
pub Implied-low : (count : ℕ) (bounds : List Bound) (p q : ℕ) (w : ℤ) → Sample count bounds → p < count → q < count → Implied bounds p q w
    → negsuc 999999999 ≤ℤ w
Implied-low count bounds p q w s lp lq h =
    let i = h.holds s.schedule s.meets in let a = s.high p lp in let b = s.low q lq in omega (arith, ints)

-- the bound b takes what holds of its start to its end
pub Implied-step : (bounds : List Bound) (p : ℕ) (b : Bound) (w z : ℤ)
    → Contains bounds b → Implied bounds p b.from.0 w → z ≡ w +ℤ b.most → Implied bounds p b.to.0 z
Implied-step bounds p b w z c h e = record { holds = λ t m. let i = h.holds t m in let k = Holds-given bounds t b m c in omega (arith, ints) }

pub Reaches-lowered : (count : ℕ) (bounds : List Bound) (p : ℕ) (row : List ℤ) (b : Bound) (z : ℤ)
    → Reaches count bounds p row → Contains bounds b → b.from.0 < count → b.to.0 < count
    → z ≡ time_of row b.from.0 +ℤ b.most → z <ℤ time_of row b.to.0 → Reaches count bounds p (set row b.to.0 z)
Reaches-lowered count bounds p row b z h c lf lt e low =
    let len = h.row_len in
    let own : (q : ℕ) → q ≡ b.to.0 → time_of (set row b.to.0 z) q ≡ z = λ q same. rw same (get_or-set_same row b.to.0 z (pos 0) (omega arith)) in
    let other : (q : ℕ) → (q ≡ b.to.0 → ⊥) → time_of (set row b.to.0 z) q ≡ time_of row q = λ q n. get_or-set_other row b.to.0 q z (pos 0) n in
    record {
      row_len = length-set row b.to.0 z ∙ len;
      implied = λ q l. elim (cases_eq q b.to.0) [
        | inl same ↦ subst (λ (k : ℕ). Implied bounds p k (time_of (set row b.to.0 z) k)) (sym same)
            (subst (Implied bounds p b.to.0) (sym (own b.to.0 refl)) (Implied-step bounds p b (time_of row b.from.0) z c (h.implied b.from.0 lf) e))
        | inr n ↦ subst (Implied bounds p q) (sym (other q n)) (h.implied q l)
      ];
      high = λ q l. elim (cases_eq q b.to.0) [
        | inl same ↦ let o = own q same in let k = h.high b.to.0 lt in omega (arith, ints)
        | inr n ↦ let o = other q n in let k = h.high q l in omega (arith, ints)
      ];
      source = (let s = h.source in elim (cases_eq p b.to.0) [
        | inl same ↦ let o = own p same in let w : time_of row p ≡ time_of row b.to.0 = ap (time_of row) same in omega (arith, ints)
        | inr n ↦ let o = other p n in omega (arith, ints)
      ]);
    }

pub room-set : (row : List ℤ) (v : ℕ) (z : ℤ) → v < length row → negsuc 999999999 ≤ℤ z → z <ℤ time_of row v → room (set row v z) < room row
room-set row v z l h lt =
    let e = sum_by-set (above 1000000000) row v z (pos 0) l in
    let s = above-lt 1000000000 (time_of row v) z h lt in omega arith

-- times that keep the bounds are a schedule, once they are moved to stand at 0 at the origin
pub Meets-moved : (bounds : List Bound) (row : List ℤ) → All (Holds (time_of row)) bounds → Meets bounds (λ v. time_of row v -ℤ time_of row 0)
Meets-moved bounds row h = record {
  origin = omega (arith, ints);
  each = recursion_from_All (Holds (λ v. time_of row v -ℤ time_of row 0)) bounds (λ k d l. let b = get_or bounds k d in let x : Holds (time_of row) b = h k d l in omega (arith, ints));
}

-- a row that keeps the bounds holds the distances
pub IsRow-kept : (count : ℕ) (bounds : List Bound) (p : ℕ) (row : List ℤ) → p < count → Sample count bounds
    → Reaches count bounds p row → All (Holds (time_of row)) bounds → IsRow count bounds p row
IsRow-kept count bounds p row lp s h k =
    let meets = Meets-moved bounds row k in
    record {
      row_len = h.row_len;
      tight = λ q lq. record {
        implied = h.implied q lq;
        least = λ v i. (let w = i.holds (λ v. time_of row v -ℤ time_of row 0) meets in let src = h.source in
            let zero = (h.implied p lp).holds s.schedule s.meets in omega (arith, ints));
      };
    }

-- ---- The start of a row, and a schedule in range

pub stays_low : (count : ℕ) (bounds : List Bound) → StaysInTime count bounds → (t : Schedule) → Meets bounds t → (v : ℕ) → v < count → pos 0 ≤ℤ t v
stays_low count bounds h t m v l = let i = (h.after_origin v l).holds t m in let o = m.origin in omega (arith, ints)

pub stays_high : (count : ℕ) (bounds : List Bound) → StaysInTime count bounds → (t : Schedule) → Meets bounds t → (v : ℕ) → v < count → t v ≤ℤ pos 1000000000
stays_high count bounds h t m v l = let i = (h.before_last v l).holds t m in let o = m.origin in omega (arith, ints)

pub Sample-from_schedule : (count : ℕ) (bounds : List Bound) (t : Schedule) → StaysInTime count bounds → Meets bounds t → Sample count bounds
Sample-from_schedule count bounds t h m = record { schedule = t; meets = m; low = stays_low count bounds h t m; high = stays_high count bounds h t m }

pub Reaches-start : (count : ℕ) (bounds : List Bound) (p : ℕ) (row : List ℤ) → StaysInTime count bounds → p < count → row ≡ set (replicate count (pos 2000000000)) p (pos 0)
    → Reaches count bounds p row
Reaches-start count bounds p row h lp e =
    let all = replicate count (pos 2000000000) in
    let len : length all ≡ count = length-replicate count (pos 2000000000) in
    let own : time_of row p ≡ pos 0 = rw e (get_or-set_same all p (pos 0) (pos 0) (omega arith)) in
    let other : (q : ℕ) → q < count → (q ≡ p → ⊥) → time_of row q ≡ pos 2000000000 = λ q l n. rw e (get_or-set_other all p q (pos 0) (pos 0) n ∙ get_or-replicate count q (pos 2000000000) (pos 0) l) in
    record {
      row_len = rw e (length-set all p (pos 0) ∙ len);
      implied = λ q l. record {
        holds = λ t m. (let a = stays_high count bounds h t m q l in let b = stays_low count bounds h t m p lp in
            elim (cases_eq q p) [
              | inl same ↦ let o : time_of row q ≡ time_of row p = ap (time_of row) same in let w : t q ≡ t p = ap t same in omega (arith, ints)
              | inr n ↦ let o = other q l n in omega (arith, ints)
            ]);
      };
      high = λ q l. elim (cases_eq q p) [
        | inl same ↦ let o : time_of row q ≡ time_of row p = ap (time_of row) same in omega (arith, ints)
        | inr n ↦ let o = other q l n in omega (arith, ints)
      ];
      source = omega (arith, ints);
    }

-- a row that starts with the ways through the first point
pub Reaches-by_origin : (count : ℕ) (bounds : List Bound) (p : ℕ) (w : ℤ) (origin row : List ℤ) → StaysInTime count bounds → p < count
    → IsRow count bounds 0 origin → Implied bounds p 0 w → w ≤ℤ pos 0
    → length row ≡ count → ((v : ℕ) → v < count → time_of row v ≡ w +ℤ time_of origin v)
    → Reaches count bounds p (set row p (pos 0))
Reaches-by_origin count bounds p w origin row h lp o i cap len read =
    let own : time_of (set row p (pos 0)) p ≡ pos 0 = get_or-set_same row p (pos 0) (pos 0) (omega arith) in
    let other : (q : ℕ) → (q ≡ p → ⊥) → time_of (set row p (pos 0)) q ≡ time_of row q = λ q n. get_or-set_other row p q (pos 0) (pos 0) n in
    record {
      row_len = length-set row p (pos 0) ∙ len;
      implied = λ q l. record {
        holds = λ t m. elim (cases_eq q p) [
          | inl same ↦ let e1 = ap (time_of (set row p (pos 0))) same in let e2 = ap t same in omega (arith, ints)
          | inr n ↦ let e = other q n in let r = read q l in let x = i.holds t m in let y = (o.tight q l).implied.holds t m in omega (arith, ints)
        ];
      };
      high = λ q l. elim (cases_eq q p) [
        | inl same ↦ let e1 = ap (time_of (set row p (pos 0))) same in omega (arith, ints)
        | inr n ↦ let e = other q n in let r = read q l in let y = (o.tight q l).least (pos 1000000000) (h.before_last q l) in omega (arith, ints)
      ];
      source = omega (arith, ints);
    }

pub origin_high : (count : ℕ) (bounds : List Bound) (origin : List ℤ) (q : ℕ) → StaysInTime count bounds → q < count → IsRow count bounds 0 origin
    → time_of origin q ≤ℤ pos 1000000000
origin_high count bounds origin q h l o = (o.tight q l).least (pos 1000000000) (h.before_last q l)

pub origin_low : (count : ℕ) (bounds : List Bound) (origin : List ℤ) (q : ℕ) → Sample count bounds → q < count → IsRow count bounds 0 origin
    → negsuc 999999999 ≤ℤ time_of origin q
origin_low count bounds origin q s l o = Implied-low count bounds 0 q (time_of origin q) s (omega arith) l (o.tight q l).implied

-- ---- Rows, one after another

pub items_of-more : (P : ℕ → List ℤ → Type 0) (xs : List (Vec ℤ Global)) (y : Vec ℤ Global) (n : ℕ) → length xs ≡ n
    → ((p : ℕ) → p < n → P p (get_or (items_of xs) p [])) → P n y.items
    → (p : ℕ) → p < n + 1 → P p (get_or (items_of (xs ++ y ∷ [])) p [])
items_of-more P xs y n e h here =
    let len : length (items_of xs) ≡ n = length-map xs (λ (row : Vec ℤ Global). row.items) ∙ e in
    let push : items_of (xs ++ y ∷ []) ≡ items_of xs ++ y.items ∷ [] = map_push (λ (row : Vec ℤ Global). row.items) xs y in
    below_more (λ p. P p (get_or (items_of (xs ++ y ∷ [])) p [])) n
    (λ p l. subst (P p) (sym (ap (λ (rows : List (List ℤ)). get_or rows p []) push ∙ get_or_append_left (items_of xs) (y.items ∷ []) [] p (omega arith))) (h p l))
    (subst (P n) (sym (ap (λ (rows : List (List ℤ)). get_or rows n []) push ∙ get_or_push (items_of xs) y.items [] n len)) here)

-- ---- What a step over the bound numbered i may count on

pub record StepFacts (count : ℕ) (bounds : List Bound) (p : ℕ) (row : List ℤ) (b : Bound) : Type 0 where
  pub has : Contains bounds b
  pub from_in : b.from.0 < count
  pub to_in : b.to.0 < count
  pub most_high : b.most ≤ℤ pos 3000000000
  pub most_low : neg_ℤ (pos 3000000000) ≤ℤ b.most
  pub from_low : negsuc 999999999 ≤ℤ time_of row b.from.0
  pub from_high : time_of row b.from.0 ≤ℤ pos 2000000000
  pub to_low : negsuc 999999999 ≤ℤ time_of row b.to.0
  pub to_high : time_of row b.to.0 ≤ℤ pos 2000000000
  pub sum_low : negsuc 999999999 ≤ℤ (time_of row b.from.0 +ℤ b.most)

pub StepFacts-at : (count : ℕ) (bounds : List Bound) (p : ℕ) (row : List ℤ) (i : ℕ) → i < length bounds → p < count
    → All (IsStep count) bounds → Sample count bounds → Reaches count bounds p row → StepFacts count bounds p row (bound_at bounds i)
StepFacts-at count bounds p row i li lp range s h =
    let r = range i no_bound li in
    let b = bound_at bounds i in
    let has : Contains bounds b = Contains-get_or bounds i no_bound li in
    record {
      has = has;
      from_in = r.from_below;
      to_in = r.to_below;
      most_high = r.high;
      most_low = r.low;
      from_low = Implied-low count bounds p b.from.0 (time_of row b.from.0) s lp r.from_below (h.implied b.from.0 r.from_below);
      from_high = h.high b.from.0 r.from_below;
      to_low = Implied-low count bounds p b.to.0 (time_of row b.to.0) s lp r.to_below (h.implied b.to.0 r.to_below);
      to_high = h.high b.to.0 r.to_below;
      sum_low = Implied-low count bounds p b.to.0 (time_of row b.from.0 +ℤ b.most) s lp r.to_below
          (Implied-step bounds p b (time_of row b.from.0) (time_of row b.from.0 +ℤ b.most) has (h.implied b.from.0 r.from_below) refl);
    }

-- ---- The column: the way back to the first point

Implied-step_back : (bounds : List Bound) (b : Bound) (w z : ℤ)
    → Contains bounds b → Implied bounds b.to.0 0 w → z ≡ w +ℤ b.most → Implied bounds b.from.0 0 z
Implied-step_back bounds b w z c h e = record { holds = λ t m. let i = h.holds t m in let k = Holds-given bounds t b m c in omega (arith, ints) }

pub Returns-lowered : (count : ℕ) (bounds : List Bound) (column : List ℤ) (b : Bound) (z : ℤ)
    → Returns count bounds column → Contains bounds b → b.from.0 < count → b.to.0 < count
    → z ≡ time_of column b.to.0 +ℤ b.most → z <ℤ time_of column b.from.0 → Returns count bounds (set column b.from.0 z)
Returns-lowered count bounds column b z h c lf lt e low =
    let len = h.column_len in
    let own : (q : ℕ) → q ≡ b.from.0 → time_of (set column b.from.0 z) q ≡ z = λ q same. rw same (get_or-set_same column b.from.0 z (pos 0) (omega arith)) in
    let other : (q : ℕ) → (q ≡ b.from.0 → ⊥) → time_of (set column b.from.0 z) q ≡ time_of column q = λ q n. get_or-set_other column b.from.0 q z (pos 0) n in
    record {
      column_len = length-set column b.from.0 z ∙ len;
      back = λ q l. elim (cases_eq q b.from.0) [
        | inl same ↦ subst (λ (k : ℕ). Implied bounds k 0 (time_of (set column b.from.0 z) k)) (sym same)
            (subst (Implied bounds b.from.0 0) (sym (own b.from.0 refl)) (Implied-step_back bounds b (time_of column b.to.0) z c (h.back b.to.0 lt) e))
        | inr n ↦ subst (Implied bounds q 0) (sym (other q n)) (h.back q l)
      ];
      cap = λ q l. elim (cases_eq q b.from.0) [
        | inl same ↦ let o = own q same in let k = h.cap b.from.0 lf in omega (arith, ints)
        | inr n ↦ let o = other q n in let k = h.cap q l in omega (arith, ints)
      ];
    }

pub Returns-start : (count : ℕ) (bounds : List Bound) → StaysInTime count bounds → Returns count bounds (replicate count (pos 0))
Returns-start count bounds h =
    let read : (v : ℕ) → v < count → time_of (replicate count (pos 0)) v ≡ pos 0 = λ v l. get_or-replicate count v (pos 0) (pos 0) l in
    record {
      column_len = length-replicate count (pos 0);
      back = λ p l. subst (Implied bounds p 0) (sym (read p l)) (h.after_origin p l);
      cap = λ p l. (let r = read p l in omega (arith, ints));
    }

pub record BackFacts (count : ℕ) (bounds : List Bound) (column : List ℤ) (b : Bound) : Type 0 where
  pub has : Contains bounds b
  pub from_in : b.from.0 < count
  pub to_in : b.to.0 < count
  pub most_high : b.most ≤ℤ pos 3000000000
  pub most_low : neg_ℤ (pos 3000000000) ≤ℤ b.most
  pub to_low : negsuc 999999999 ≤ℤ time_of column b.to.0
  pub to_high : time_of column b.to.0 ≤ℤ pos 0
  pub from_low : negsuc 999999999 ≤ℤ time_of column b.from.0
  pub from_high : time_of column b.from.0 ≤ℤ pos 0
  pub sum_low : negsuc 999999999 ≤ℤ (time_of column b.to.0 +ℤ b.most)

pub BackFacts-at : (count : ℕ) (bounds : List Bound) (column : List ℤ) (i : ℕ) → i < length bounds → 1 ≤ count
    → All (IsStep count) bounds → Sample count bounds → Returns count bounds column → BackFacts count bounds column (bound_at bounds i)
BackFacts-at count bounds column i li some range s h =
    let r = range i no_bound li in
    let b = bound_at bounds i in
    let has : Contains bounds b = Contains-get_or bounds i no_bound li in
    record {
      has = has;
      from_in = r.from_below;
      to_in = r.to_below;
      most_high = r.high;
      most_low = r.low;
      to_low = Implied-low count bounds b.to.0 0 (time_of column b.to.0) s r.to_below some (h.back b.to.0 r.to_below);
      to_high = h.cap b.to.0 r.to_below;
      from_low = Implied-low count bounds b.from.0 0 (time_of column b.from.0) s r.from_below some (h.back b.from.0 r.from_below);
      from_high = h.cap b.from.0 r.from_below;
      sum_low = Implied-low count bounds b.from.0 0 (time_of column b.to.0 +ℤ b.most) s r.from_below some
          (Implied-step_back bounds b (time_of column b.to.0) (time_of column b.to.0 +ℤ b.most) has (h.back b.to.0 r.to_below) refl);
    }
