-- A negative cycle of bounds that have a schedule, and of one bound more, turned so that this one stands first.
use Rattle.std.proofs.Common.{◌≡◌, ◌≢◌, ℕ, suc, List, [], ◌∷◌, ◌++◌, sym, ap, subst, arith, inl, inr, take, drop, ℤ}
use Rattle.std.proofs.lemmas.Int.{ints}
use Rattle.std.proofs.lemmas.List.Elements.{recursion_from_All, All-from_recursion, All-push, Contains-push_cases}
use Rattle.std.proofs.lemmas.List.Kept.{AllPairs-cons}
use Rattle.std.specs.Prelude.{All, AllPairs, Contains, Some, slice_get, ⊤}
use Rattle.std.specs.List.{AllByRecursion}
use Rattle.base_laws.proofs.ListLemmas.{each_both, each_split, each_weaker, slice_get-split}
use Rattle.hs_base.specs.declared.net.Bound.{Bound}
use Rattle.hs_base.specs.Schedule.{Schedule, Meets, MeetsList, Holds, Implied, time_of}
use Rattle.hs_base.specs.Cycles.{Leads, IsNegativeCycle}
use Rattle.stn_distance.specs.Chains.{IsChain, IsFree, against}
use Rattle.stn_distance.specs.Ranges.{IsInRange, IsInSearch}
use Rattle.stn_distance.proofs.CauseLemmas.{HasNoSchedule-from_cycle, Holds-given, IsInSearch-all, telescopes, total-append}

-- each pair, by recursion
abbrev Pairs : (Bound → Bound → Type 0) → List Bound → Type 0
Pairs R [] = ⊤
Pairs R (x ∷ xs) = AllByRecursion (R x) xs × Pairs R xs

pairs_of : (R : Bound → Bound → Type 0) (xs : List Bound) → AllPairs R xs → Pairs R xs
pairs_of R [] h = tt
pairs_of R (x ∷ xs) h = (
  recursion_from_All (R x) xs (λ j d below. h 0 (suc j) d (omega arith) (omega (arith, below))),
  pairs_of R xs (λ i j d less below. h (suc i) (suc j) d (omega (arith, less)) (omega (arith, below))),
)

pairs_back : (R : Bound → Bound → Type 0) (xs : List Bound) → Pairs R xs → AllPairs R xs
pairs_back R [] h = λ i j d less below. absurd (omega (arith, below))
pairs_back R (x ∷ xs) h = AllPairs-cons R x xs (All-from_recursion (R x) xs h.0) (pairs_back R xs h.1)

abbrev Differ : Bound → Bound → Type 0
Differ x y = x.from ≢ y.from

-- the pairs of the two parts around a bound, and those across
record Turned (front back : List Bound) (a : Bound) : Type 0 where
  pairs : Pairs Differ (back ++ front)
  of_front : AllByRecursion (λ (x : Bound). x.from ≢ a.from) front
  of_back : AllByRecursion (λ (x : Bound). x.from ≢ a.from) back

pairs_append : (xs ys : List Bound) → Pairs Differ xs → Pairs Differ ys → AllByRecursion (λ x. AllByRecursion (Differ x) ys) xs → Pairs Differ (xs ++ ys)
pairs_append [] ys p q c = q
pairs_append (x ∷ xs) ys p q c = (each_both (Differ x) xs ys p.0 c.0, pairs_append xs ys p.1 q c.1)

-- what each of xs has with each of ys, each of ys has with each of xs
crossed : (xs ys : List Bound) → AllByRecursion (λ x. AllByRecursion (Differ x) ys) xs → AllByRecursion (λ y. AllByRecursion (Differ y) xs) ys
crossed xs [] c = tt
crossed xs (y ∷ ys) c = (
  each_weaker (λ x. AllByRecursion (Differ x) (y ∷ ys)) (λ (x : Bound). y.from ≢ x.from) (λ x h same. h.0 (sym same)) xs c,
  crossed xs ys (each_weaker (λ x. AllByRecursion (Differ x) (y ∷ ys)) (λ x. AllByRecursion (Differ x) ys) (λ x h. h.1) xs c),
)

-- the pairs of two lists behind each other
pairs_parts : (xs ys : List Bound) → Pairs Differ (xs ++ ys) → Pairs Differ xs × (Pairs Differ ys × AllByRecursion (λ x. AllByRecursion (Differ x) ys) xs)
pairs_parts [] ys p = (tt, (p, tt))
pairs_parts (x ∷ xs) ys p =
    let r = pairs_parts xs ys p.1 in
    let e = each_split (Differ x) xs ys p.0 in
    ((e.0, r.0), (r.1.0, (e.1, r.1.1)))

turned : (front back : List Bound) (a : Bound) → Pairs Differ (front ++ a ∷ back) → Turned front back a
turned front back a p =
    let r = pairs_parts front (a ∷ back) p in
    record {
      pairs = pairs_append back front r.1.0.1 r.0 (crossed front back (each_weaker (λ x. AllByRecursion (Differ x) (a ∷ back)) (λ x. AllByRecursion (Differ x) back) (λ x h. h.1) front r.1.1));
      of_front = each_weaker (λ x. AllByRecursion (Differ x) (a ∷ back)) (λ (x : Bound). x.from ≢ a.from) (λ x h. h.0) front r.1.1;
      of_back = each_weaker (Differ a) (λ (x : Bound). x.from ≢ a.from) (λ x h same. h (sym same)) back r.1.0.0;
    }

leads_parts : (p : ℕ) (front : List Bound) (a : Bound) (back : List Bound) (q : ℕ) → Leads p (front ++ a ∷ back) q → Leads p front a.from.0 × Leads a.to.0 back q
leads_parts p [] a back q l = (sym l.0, l.1)
leads_parts p (x ∷ front) a back q l = let r = leads_parts x.to.0 front a back q l.1 in ((l.0, r.0), r.1)

leads_on : (p : ℕ) (xs : List Bound) (q : ℕ) (ys : List Bound) (r : ℕ) → Leads p xs q → Leads q ys r → Leads p (xs ++ ys) r
leads_on p [] q ys r l k = subst (λ (n : ℕ). Leads n ys r) (sym l) k
leads_on p (x ∷ xs) q ys r l k = (l.0, leads_on x.to.0 xs q ys r l.1 k)

-- bounds that begin elsewhere are those of the list
old_ones : (bounds : List Bound) (a : Bound) (c : List Bound) → AllByRecursion (Contains (bounds ++ a ∷ [])) c → AllByRecursion (λ (x : Bound). x.from ≢ a.from) c → AllByRecursion (Contains bounds) c
old_ones bounds a [] h k = tt
old_ones bounds a (x ∷ c) h k = (
  elim (Contains-push_cases bounds a x h.0) [
    | inl old ↦ old
    | inr new ↦ absurd (k.0 (ap (λ (y : Bound). y.from) (sym new)))
  ],
  old_ones bounds a c h.1 k.1,
)

-- so are all, where the added one is not among them
only_old : (bounds : List Bound) (a : Bound) (c : List Bound) → AllByRecursion (Contains (bounds ++ a ∷ [])) c → AllByRecursion (λ (x : Bound). x ≢ a) c → AllByRecursion (Contains bounds) c
only_old bounds a [] h k = tt
only_old bounds a (x ∷ c) h k = (
  elim (Contains-push_cases bounds a x h.0) [
    | inl old ↦ old
    | inr new ↦ absurd (k.0 (sym new))
  ],
  only_old bounds a c h.1 k.1,
)

-- a negative cycle has the added bound
pub has_added : (bounds : List Bound) (a : Bound) (s : Schedule) → Meets bounds s → (cycle : List Bound) → IsNegativeCycle (bounds ++ a ∷ []) cycle → AllByRecursion (λ (x : Bound). x ≢ a) cycle → ⊥
has_added bounds a s meets cycle c none =
    let old = only_old bounds a cycle (recursion_from_All (Contains (bounds ++ a ∷ [])) cycle c.given) none in
    (HasNoSchedule-from_cycle bounds cycle (record { given = All-from_recursion (Contains bounds) cycle old; closed = c.closed; distinct = c.distinct; negative = c.negative })).none s meets

-- what is left of a negative cycle without the added bound, from behind it on, is a chain
pub chain_of_cycle : (bounds : List Bound) (b : Bound) (front back : List Bound) → IsNegativeCycle (bounds ++ against b ∷ []) (front ++ against b ∷ back) → IsChain bounds b (back ++ front)
chain_of_cycle bounds b front back c =
    let parts = each_split (Contains (bounds ++ against b ∷ [])) front (against b ∷ back) (recursion_from_All (Contains (bounds ++ against b ∷ [])) (front ++ against b ∷ back) c.given) in
    let t = turned front back (against b) (pairs_of Differ (front ++ against b ∷ back) c.distinct) in
    let l = leads_parts c.closed.0 front (against b) back c.closed.0 c.closed.1 in
    let apart = each_both (λ (x : Bound). x.from ≢ b.to) back front t.of_back t.of_front in
    record {
      leads = leads_on b.from.0 back c.closed.0 front b.to.0 l.1 l.0;
      given = All-from_recursion (Contains bounds) (back ++ front) (each_both (Contains bounds) back front (old_ones bounds (against b) back parts.1.1 t.of_back) (old_ones bounds (against b) front parts.0 t.of_front));
      distinct = pairs_back Differ (back ++ front) t.pairs;
      before = All-from_recursion (λ (x : Bound). x.from ≢ b.to) (back ++ front) apart;
      within = omega (arith, ints, c.negative, total-append front (against b ∷ back), total-append back front);
    }

-- the same, of a cycle with the added bound at a place
pub chain_at : (bounds : List Bound) (b : Bound) (cycle : List Bound) (i : ℕ) → IsNegativeCycle (bounds ++ against b ∷ []) cycle → slice_get cycle i ≡ Some (against b) → IsChain bounds b (drop (suc i) cycle ++ take i cycle)
chain_at bounds b cycle i c at = chain_of_cycle bounds b (take i cycle) (drop (suc i) cycle) (subst (IsNegativeCycle (bounds ++ against b ∷ [])) (slice_get-split cycle i (against b) at) c)

-- a chain forces its bound
pub chain_forces : (bounds : List Bound) (b : Bound) (chain : List Bound) → IsChain bounds b chain → Implied bounds b.from.0 b.to.0 b.most
chain_forces bounds b chain c = record {
  holds = λ t m. (let far = telescopes t chain b.from.0 b.to.0 (Holds-given t bounds m.each chain (recursion_from_All (Contains bounds) chain c.given)) c.leads in omega (arith, ints, far, c.within));
}

-- a schedule with the added bound breaks the bound
pub free_of : (n : ℕ) (bounds : List Bound) (b : Bound) (times : List ℤ) → MeetsList n (bounds ++ against b ∷ []) times → IsFree n bounds b times
free_of n bounds b times m =
    let each = each_split (Holds (time_of times)) bounds (against b ∷ []) m.times.each in
    record {
      meets = record { size = m.size; times = record { origin = m.times.origin; each = each.0 } };
      breaks = (let h = each.1.0 in omega (arith, ints));
    }

-- a bound that a schedule breaks isn't forced
pub free_breaks : (n : ℕ) (bounds : List Bound) (b : Bound) (times : List ℤ) → IsFree n bounds b times → Implied bounds b.from.0 b.to.0 b.most → ⊥
free_breaks n bounds b times f i = absurd (omega (arith, ints, f.breaks, i.holds (time_of times) f.meets.times))

-- the bounds with the added one are in the range of a search
pub range_added : (n : ℕ) (bounds : List Bound) (b : Bound) → All (IsInRange n) bounds → IsInRange n b → All (IsInSearch n) (bounds ++ against b ∷ [])
range_added n bounds b range r = All-push (IsInSearch n) bounds (against b) (IsInSearch-all n bounds range) (record { from_below = r.to_below; to_below = r.from_below; low = (let h = r.high in omega (arith, ints)); high = (let l = r.low in omega (arith, ints)) })
