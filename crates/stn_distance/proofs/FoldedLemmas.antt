-- The schedules of folded bounds are those of the bounds, so their distances give those of all points.
use Rattle.std.proofs.Common.{◌≡◌, ℕ, ◌<◌, ◌≤◌, Bool, true, false, cond, not, List, [], ◌∷◌, length, get_or, map, All, Contains, ℤ, pos, ◌+ℤ◌, ◌-ℤ◌, ◌≤ℤ◌, sym, ap, ◌∙◌, arith, inl, inr}
use Rattle.std.proofs.lemmas.Int.{ints}
use Rattle.std.specs.List.{AllByRecursion}
use Rattle.std.specs.List.Sorted.{IsPermutation}
use Rattle.std.proofs.lemmas.List.{get_or-map, length-map}
use Rattle.std.proofs.lemmas.List.Elements.{All-contains, All-from_recursion, recursion_from_All}
use Rattle.std.proofs.lemmas.List.Sorted.{All-permutation, IsPermutation-sym}
use Rattle.std.proofs.lemmas.Bool.{cases_eq, ne_eqb}
use Rattle.hs_base.specs.declared.net.Bound.{Bound}
use Rattle.hs_base.specs.declared.plan.Time.{Time}
use Rattle.hs_base.specs.Schedule.{Schedule, time_of, Holds, Meets, MeetsList, Implied, Tight}
use Rattle.stn_distance.specs.Ranges.{IsInRange, StaysInTime, IsFixed}
use Rattle.stn_distance.specs.Rows.{IsStep, Sample, AreRows, AreSmall}
use Rattle.stn_distance.specs.Folding.{number_at, IsFolding, is_apart, folded_bound, folded_bounds, spread_times}
use Rattle.stn_distance.specs.Distances.{IsExact}
use Rattle.stn_distance.proofs.RowLemmas.{Sample-from_schedule, stays_low, stays_high, Implied-low}

-- how points stand on rows, for every schedule of the bounds
pub record IsFoldingOf (n : ℕ) (bounds : List Bound) (points places : List ℕ) (offsets : List ℤ) : Type 0 where
  pub origin : number_at points 0 ≡ 0
  pub some : 0 < length points
  pub below : (r : ℕ) → r < length points → number_at points r < n
  pub place_in : (p : ℕ) → p < n → number_at places p < length points
  pub home : (r : ℕ) → r < length points → number_at places (number_at points r) ≡ r
  pub at_home : (r : ℕ) → r < length points → time_of offsets (number_at points r) ≡ pos 0
  pub stands : (t : Schedule) → Meets bounds t → (p : ℕ) → p < n → t p ≡ t (number_at points (number_at places p)) +ℤ time_of offsets p
  pub low : (p : ℕ) → p < n → pos 0 ≤ℤ time_of offsets p
  pub high : (p : ℕ) → p < n → time_of offsets p ≤ℤ pos 1000000000
  pub range : AllByRecursion (IsInRange n) bounds
  pub sample : Sample n bounds

-- a fixed point stands at its time
at_time : (n : ℕ) (bounds : List Bound) (f : Time) (t : Schedule) → IsFixed n bounds f → Meets bounds t → t f.point.0 ≡ f.at
at_time n bounds f t h m = let a = h.not_after.holds t m in let b = h.not_before.holds t m in let o = m.origin in omega (arith, ints)

pub IsFoldingOf-from_fixed : (n : ℕ) (bounds : List Bound) (fixed : List Time) (points places : List ℕ) (offsets : List ℤ)
    → IsFolding n fixed points places offsets → All (IsInRange n) bounds → All (IsFixed n bounds) fixed → Sample n bounds → IsFoldingOf n bounds points places offsets
IsFoldingOf-from_fixed n bounds fixed points places offsets h range exact sample =
    let set : (p : ℕ) → (t : Schedule) → Meets bounds t → Contains fixed (record { point = record { 0 = p }; at = time_of offsets p }) → t p ≡ time_of offsets p =
    λ p t m has. at_time n bounds (record { point = record { 0 = p }; at = time_of offsets p }) t (All-contains (IsFixed n bounds) fixed (record { point = record { 0 = p }; at = time_of offsets p }) exact has) m in
    record {
      origin = h.origin;
      some = h.some;
      below = h.below;
      place_in = h.place_in;
      home = h.home;
      at_home = h.at_home;
      stands = λ t m p l. elim (h.each p l) [
        | inl own ↦ let same = ap t own.0 in let zero = own.1 in omega (arith, ints)
        | inr f ↦ let here = set p t m f.1 in let row = ap (λ (r : ℕ). t (number_at points r)) f.0 in let first = ap t h.origin in let o = m.origin in omega (arith, ints)
      ];
      low = λ p l. elim (h.each p l) [
        | inl own ↦ let zero = own.1 in omega (arith, ints)
        | inr f ↦ let here = set p sample.schedule sample.meets f.1 in let s = sample.low p l in omega (arith, ints)
      ];
      high = λ p l. elim (h.each p l) [
        | inl own ↦ let zero = own.1 in omega (arith, ints)
        | inr f ↦ let here = set p sample.schedule sample.meets f.1 in let s = sample.high p l in omega (arith, ints)
      ];
      range = recursion_from_All (IsInRange n) bounds range;
      sample = sample;
    }

-- ---- Schedules of rows and of points

cons_kept : (P : Bound → Type 0) (c : Bool) (x : Bound) (xs : List Bound) → P x → AllByRecursion P xs → AllByRecursion P (cond c (x ∷ xs) xs)
cons_kept P true x xs h hs = (h, hs)
cons_kept P false x xs h hs = hs

kept_head : (P : Bound → Type 0) (c : Bool) (x : Bound) (xs : List Bound) → AllByRecursion P (cond c (x ∷ xs) xs) → c ≡ true → P x
kept_head P true x xs h e = h.0
kept_head P false x xs h e = cc

kept_tail : (P : Bound → Type 0) (c : Bool) (x : Bound) (xs : List Bound) → AllByRecursion P (cond c (x ∷ xs) xs) → AllByRecursion P xs
kept_tail P true x xs h = h.1
kept_tail P false x xs h = h

rows_keep : (n : ℕ) (bounds : List Bound) (points places : List ℕ) (offsets : List ℤ) → IsFoldingOf n bounds points places offsets → (t : Schedule) → Meets bounds t
    → (bs : List Bound) → AllByRecursion (IsInRange n) bs → AllByRecursion (Holds t) bs → AllByRecursion (Holds (λ r. t (number_at points r))) (folded_bounds places offsets bs)
rows_keep n bounds points places offsets h t m [] r k = tt
rows_keep n bounds points places offsets h t m (b ∷ bs) r k =
    cons_kept (Holds (λ r. t (number_at points r))) (is_apart (folded_bound places offsets b)) (folded_bound places offsets b) (folded_bounds places offsets bs)
    (let r0 = r.0 in let k0 = k.0 in let f = h.stands t m b.from.0 r0.from_below in let to = h.stands t m b.to.0 r0.to_below in omega (arith, ints))
    (rows_keep n bounds points places offsets h t m bs r.1 k.1)

pub Meets-rows : (n : ℕ) (bounds : List Bound) (points places : List ℕ) (offsets : List ℤ) → IsFoldingOf n bounds points places offsets → (t : Schedule) → Meets bounds t
    → Meets (folded_bounds places offsets bounds) (λ r. t (number_at points r))
Meets-rows n bounds points places offsets h t m = record {
  origin = ap t h.origin ∙ m.origin;
  each = rows_keep n bounds points places offsets h t m bounds h.range m.each;
}

points_keep : (n : ℕ) (bounds : List Bound) (points places : List ℕ) (offsets : List ℤ) → IsFoldingOf n bounds points places offsets → (t s : Schedule) → Meets bounds t
    → (bs : List Bound) → AllByRecursion (IsInRange n) bs → AllByRecursion (Holds t) bs → AllByRecursion (Holds s) (folded_bounds places offsets bs) → AllByRecursion (Holds (spread_times places offsets s)) bs
points_keep n bounds points places offsets h t s m [] r k g = tt
points_keep n bounds points places offsets h t s m (b ∷ bs) r k g =
    let r0 = r.0 in let k0 = k.0 in let from = number_at places b.from.0 in let to = number_at places b.to.0 in (
      elim (cases_eq from to) [
        | inl same ↦
            let one = ap s same in let row = ap (λ (r : ℕ). t (number_at points r)) same in
            let f = h.stands t m b.from.0 r0.from_below in let e = h.stands t m b.to.0 r0.to_below in omega (arith, ints)
        | inr apart ↦
            let here : Holds s (folded_bound places offsets b) = kept_head (Holds s) (is_apart (folded_bound places offsets b)) (folded_bound places offsets b) (folded_bounds places offsets bs) g (ap not (ne_eqb from to apart)) in
            omega (arith, ints)
      ],
      points_keep n bounds points places offsets h t s m bs r.1 k.1 (kept_tail (Holds s) (is_apart (folded_bound places offsets b)) (folded_bound places offsets b) (folded_bounds places offsets bs) g),
    )

pub Meets-points : (n : ℕ) (bounds : List Bound) (points places : List ℕ) (offsets : List ℤ) → IsFoldingOf n bounds points places offsets → (s : Schedule) → Meets (folded_bounds places offsets bounds) s
    → Meets bounds (spread_times places offsets s)
Meets-points n bounds points places offsets h s m = record {
  origin = (let row = ap s (ap (number_at places) (sym h.origin) ∙ h.home 0 h.some) in let off = ap (time_of offsets) (sym h.origin) ∙ h.at_home 0 h.some in let o = m.origin in omega (arith, ints));
  each = points_keep n bounds points places offsets h h.sample.schedule s h.sample.meets bounds h.range h.sample.meets.each m.each;
}

-- ---- The conditions of rows

-- the point of a row has the row's time
at_row : (n : ℕ) (bounds : List Bound) (points places : List ℕ) (offsets : List ℤ) → IsFoldingOf n bounds points places offsets → (s : Schedule) (r : ℕ) → r < length points
    → spread_times places offsets s (number_at points r) ≡ s r
at_row n bounds points places offsets h s r l = let e = ap s (h.home r l) in let z = h.at_home r l in omega (arith, ints)

pub StaysInTime-rows : (n : ℕ) (bounds : List Bound) (points places : List ℕ) (offsets : List ℤ) → IsFoldingOf n bounds points places offsets → StaysInTime n bounds
    → StaysInTime (length points) (folded_bounds places offsets bounds)
StaysInTime-rows n bounds points places offsets h stays = record {
  after_origin = λ r l. record {
    holds = λ s m. (let t = Meets-points n bounds points places offsets h s m in let o = t.origin in let z = m.origin in
        let a = (stays.after_origin (number_at points r) (h.below r l)).holds (spread_times places offsets s) t in let e = at_row n bounds points places offsets h s r l in omega (arith, ints));
  };
  before_last = λ r l. record {
    holds = λ s m. (let t = Meets-points n bounds points places offsets h s m in let o = t.origin in let z = m.origin in
        let a = (stays.before_last (number_at points r) (h.below r l)).holds (spread_times places offsets s) t in let e = at_row n bounds points places offsets h s r l in omega (arith, ints));
  };
}

steps : (n : ℕ) (bounds : List Bound) (points places : List ℕ) (offsets : List ℤ) → IsFoldingOf n bounds points places offsets → (bs : List Bound) → AllByRecursion (IsInRange n) bs
    → AllByRecursion (IsStep (length points)) (folded_bounds places offsets bs)
steps n bounds points places offsets h [] r = tt
steps n bounds points places offsets h (b ∷ bs) r =
    let r0 = r.0 in
    let f0 = h.low b.from.0 r0.from_below in let f1 = h.high b.from.0 r0.from_below in let t0 = h.low b.to.0 r0.to_below in let t1 = h.high b.to.0 r0.to_below in
    cons_kept (IsStep (length points)) (is_apart (folded_bound places offsets b)) (folded_bound places offsets b) (folded_bounds places offsets bs)
    (record {
      from_below = h.place_in b.from.0 r0.from_below;
      to_below = h.place_in b.to.0 r0.to_below;
      low = omega (arith, ints);
      high = omega (arith, ints);
    })
    (steps n bounds points places offsets h bs r.1)

pub IsStep-rows : (n : ℕ) (bounds : List Bound) (points places : List ℕ) (offsets : List ℤ) → IsFoldingOf n bounds points places offsets
    → All (IsStep (length points)) (folded_bounds places offsets bounds)
IsStep-rows n bounds points places offsets h =
    All-from_recursion (IsStep (length points)) (folded_bounds places offsets bounds) (steps n bounds points places offsets h bounds h.range)

pub AreSmall-rows : (n : ℕ) (bounds : List Bound) (points : List ℕ) (s : List ℤ) → StaysInTime n bounds → MeetsList n bounds s → ((r : ℕ) → r < length points → number_at points r < n)
    → AreSmall (length points) (map (time_of s) points)
AreSmall-rows n bounds points s stays m below =
    let read : (r : ℕ) → r < length points → time_of (map (time_of s) points) r ≡ time_of s (number_at points r) = λ r l. get_or-map (time_of s) points r 0 (pos 0) l in
    record {
      size = length-map points (time_of s);
      low = λ r l. let e = read r l in let k = stays_low n bounds stays (time_of s) m.times (number_at points r) (below r l) in omega (arith, ints);
      high = λ r l. let e = read r l in let k = stays_high n bounds stays (time_of s) m.times (number_at points r) (below r l) in omega (arith, ints);
    }

-- ---- Distances

Tight-points : (n : ℕ) (bounds : List Bound) (points places : List ℕ) (offsets : List ℤ) (p q : ℕ) (w : ℤ) → IsFoldingOf n bounds points places offsets → p < n → q < n
    → Tight (folded_bounds places offsets bounds) (number_at places p) (number_at places q) w → Tight bounds p q ((w +ℤ time_of offsets q) -ℤ time_of offsets p)
Tight-points n bounds points places offsets p q w h lp lq tight = record {
  implied = record {
    holds = λ t m. (let i = tight.implied.holds (λ r. t (number_at points r)) (Meets-rows n bounds points places offsets h t m) in
        let a = h.stands t m p lp in let b = h.stands t m q lq in omega (arith, ints));
  };
  least = λ v i.
      (let all : Implied (folded_bounds places offsets bounds) (number_at places p) (number_at places q) ((v +ℤ time_of offsets p) -ℤ time_of offsets q) =
      record { holds = λ s m. let j = i.holds (spread_times places offsets s) (Meets-points n bounds points places offsets h s m) in omega (arith, ints) } in
      let l = tight.least ((v +ℤ time_of offsets p) -ℤ time_of offsets q) all in omega (arith, ints));
}

-- ---- The same bounds in another order

Meets-permuted : (bounds other : List Bound) (t : Schedule) → IsPermutation bounds other → Meets bounds t → Meets other t
Meets-permuted bounds other t p m = record { origin = m.origin; each = recursion_from_All (Holds t) other (All-permutation (Holds t) bounds other p (All-from_recursion (Holds t) bounds m.each)) }

Implied-permuted : (bounds other : List Bound) (p q : ℕ) (w : ℤ) → IsPermutation bounds other → Implied bounds p q w → Implied other p q w
Implied-permuted bounds other p q w perm i = record { holds = λ t m. i.holds t (Meets-permuted other bounds t (IsPermutation-sym bounds other perm) m) }

Tight-permuted : (bounds other : List Bound) (p q : ℕ) (w : ℤ) → IsPermutation bounds other → Tight other p q w → Tight bounds p q w
Tight-permuted bounds other p q w perm t = record {
  implied = Implied-permuted other bounds p q w (IsPermutation-sym bounds other perm) t.implied;
  least = λ v i. t.least v (Implied-permuted bounds other p q v perm i);
}

pub StaysInTime-permuted : (n : ℕ) (bounds other : List Bound) → IsPermutation bounds other → StaysInTime n bounds → StaysInTime n other
StaysInTime-permuted n bounds other perm h = record {
  after_origin = λ p l. Implied-permuted bounds other p 0 (pos 0) perm (h.after_origin p l);
  before_last = λ p l. Implied-permuted bounds other 0 p (pos 1000000000) perm (h.before_last p l);
}

pub Sample-rows : (n : ℕ) (bounds other : List Bound) (points places : List ℕ) (offsets : List ℤ) → IsFoldingOf n bounds points places offsets → StaysInTime n bounds
    → IsPermutation (folded_bounds places offsets bounds) other → Sample (length points) other
Sample-rows n bounds other points places offsets h stays perm =
    Sample-from_schedule (length points) other (λ r. h.sample.schedule (number_at points r)) (StaysInTime-permuted (length points) (folded_bounds places offsets bounds) other perm (StaysInTime-rows n bounds points places offsets h stays))
    (Meets-permuted (folded_bounds places offsets bounds) other (λ r. h.sample.schedule (number_at points r)) perm (Meets-rows n bounds points places offsets h h.sample.schedule h.sample.meets))

-- rows that are exact for the folded bounds are for all points
pub IsExact-from_rows : (n : ℕ) (bounds other : List Bound) (points places : List ℕ) (offsets : List ℤ) (rows : List (List ℤ)) → 1 ≤ n → n ≤ 131072 → length places ≡ n → length offsets ≡ n
    → IsFoldingOf n bounds points places offsets → StaysInTime n bounds → IsPermutation (folded_bounds places offsets bounds) other → AreRows (length points) other rows
    → IsExact n bounds places offsets rows
IsExact-from_rows n bounds other points places offsets rows some few len olen h stays perm exact =
    let count = exact.rows_len in
    let folded = folded_bounds places offsets bounds in
    let late = StaysInTime-permuted (length points) folded other perm (StaysInTime-rows n bounds points places offsets h stays) in
    let sample = Sample-rows n bounds other points places offsets h stays perm in
    record {
      places_len = len;
      offsets_len = olen;
      some = some;
      few = few;
      place_in = λ p l. let i = h.place_in p l in omega arith;
      row_len = λ r l. (exact.each r (omega arith)).row_len ∙ sym count;
      offset_low = h.low;
      offset_high = h.high;
      low = λ r s lr ls. let lr2 : r < length points = omega arith in let ls2 : s < length points = omega arith in
          let k = Implied-low (length points) other r s (time_of (get_or rows r []) s) sample lr2 ls2 ((exact.each r lr2).tight s ls2).implied in omega (arith, ints);
      high = λ r s lr ls. let lr2 : r < length points = omega arith in let ls2 : s < length points = omega arith in
          ((exact.each r lr2).tight s ls2).least (pos 1000000000) (record {
            holds = λ t m. (let o = m.origin in let a = (late.after_origin r lr2).holds t m in let b = (late.before_last s ls2).holds t m in omega (arith, ints));
          });
      range = All-from_recursion (IsInRange n) bounds h.range;
      stays = stays;
      tight = λ p q lp lq. Tight-points n bounds points places offsets p q (time_of (get_or rows (number_at places p) []) (number_at places q)) h lp lq
          (Tight-permuted folded other (number_at places p) (number_at places q) (time_of (get_or rows (number_at places p) []) (number_at places q)) perm ((exact.each (number_at places p) (h.place_in p lp)).tight (number_at places q) (h.place_in q lq)));
    }
