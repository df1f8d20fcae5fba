-- Lowering a point keeps the causes explained; causes that lead back to their point are a negative cycle.
use Rattle.std.proofs.Common.{replicate, All, Contains, reverse, zero, suc, ◌-◌, ◌*◌, neg_ℤ, ◌≡◌, ℕ, ◌+◌, ◌<◌, ◌≤◌, Bool, true, false, cond, eqb, List, [], ◌∷◌, ◌++◌, length, get_or, set, drop, ℤ, pos, negsuc, ◌+ℤ◌, ◌-ℤ◌, ◌≤ℤ◌, ◌<ℤ◌, refl, sym, ap, ◌∙◌, subst, arith, inl, inr, get_or-set_same, get_or-set_other, length-set}
use Rattle.std.specs.List.{AllByRecursion}
use Rattle.std.proofs.lemmas.Int.{ints}
use Rattle.std.proofs.lemmas.Grind.{reverse_onto}
use Rattle.std.proofs.lemmas.List.{length-replicate, get_or-replicate, get_or_default}
use Rattle.std.proofs.lemmas.List.Elements.{All-from_recursion, recursion_from_All, All-contains, All-weaker, Contains-get_or}
use Rattle.std.proofs.lemmas.List.Sorted.{All-permutation, IsPermutation-reverse}
use lib.Signed.{clash_ℤ}
use Rattle.std.proofs.lemmas.List.Sums.{sum_by-set}
use Rattle.std.proofs.lemmas.Bool.{cases_eq, cases_lt, eq-eqb, ne_eqb}
use Rattle.hs_base.specs.declared.net.Bound.{Bound}
use Rattle.hs_base.specs.Schedule.{Schedule, time_of, Holds, MeetsList, HasNoSchedule}
use Rattle.hs_base.specs.Cycles.{Leads, total, IsNegativeCycle}
use Rattle.stn_distance.specs.Ranges.{IsInRange, IsInSearch, IsStart, IsNear}
use Rattle.stn_distance.specs.Causes.{LeadsBack, AreCauses, IsRound, RootedAt, no_bound, above, depth, slack, IsAboveFloor, bound_at, IsCause, Explained, place}

-- the ranks after v was lowered
abbrev raised : (ℕ → ℕ) → ℕ → ℕ → ℕ → ℕ
raised rank v top x = cond (eqb x v) top (rank x)

raised-at : (rank : ℕ → ℕ) (v top x : ℕ) → x ≡ v → raised rank v top x ≡ top
raised-at rank v top x e = ap (λ b. cond b top (rank x)) (eq-eqb x v e)

raised-other : (rank : ℕ → ℕ) (v top x : ℕ) → (x ≡ v → ⊥) → raised rank v top x ≡ rank x
raised-other rank v top x n = ap (λ b. cond b top (rank x)) (ne_eqb x v n)

at-set : (times : List ℤ) (v : ℕ) (z : ℤ) (x : ℕ) → v < length times → x ≡ v → time_of (set times v z) x ≡ z
at-set times v z x l e = rw e (get_or-set_same times v z (pos 0) l)

-- a lowered point: its own cause
cause-own : (count : ℕ) (times : List ℤ) (rank : ℕ → ℕ) (top : ℕ) (b : Bound) (z : ℤ)
    → length times ≡ count → b.from.0 < count → b.to.0 < count → rank b.from.0 < top
    → z ≡ time_of times b.from.0 +ℤ b.most → z <ℤ time_of times b.to.0
    → IsCause (set times b.to.0 z) (raised rank b.to.0 top) b
cause-own count times rank top b z len f t below e lt =
    let own : time_of (set times b.to.0 z) b.to.0 ≡ z = at-set times b.to.0 z b.to.0 (omega arith) refl in
    elim (cases_eq b.from.0 b.to.0) [
      | inl same ↦
          let s : time_of (set times b.to.0 z) b.from.0 ≡ z = at-set times b.to.0 z b.from.0 (omega arith) same in
          let o : time_of times b.from.0 ≡ time_of times b.to.0 = ap (time_of times) same in
          record { above = omega (arith, ints); later = λ _. omega (arith, ints) }
      | inr other ↦
          let s : time_of (set times b.to.0 z) b.from.0 ≡ time_of times b.from.0 = get_or-set_other times b.to.0 b.from.0 z (pos 0) other in
          let r : raised rank b.to.0 top b.from.0 ≡ rank b.from.0 = raised-other rank b.to.0 top b.from.0 other in
          let r2 : raised rank b.to.0 top b.to.0 ≡ top = raised-at rank b.to.0 top b.to.0 refl in
          record { above = omega (arith, ints); later = λ h. absurd (omega arith) }
    ]

-- a lowered point: the causes of the others
cause-other : (count : ℕ) (times : List ℤ) (rank : ℕ → ℕ) (top : ℕ) (v : ℕ) (z : ℤ) (c : Bound)
    → length times ≡ count → v < count → z <ℤ time_of times v → (c.to.0 ≡ v → ⊥)
    → IsCause times rank c → IsCause (set times v z) (raised rank v top) c
cause-other count times rank top v z c len lv lt other h =
    let same_end : time_of (set times v z) c.to.0 ≡ time_of times c.to.0 = get_or-set_other times v c.to.0 z (pos 0) other in
    elim (cases_eq c.from.0 v) [
      | inl same ↦
          let s : time_of (set times v z) c.from.0 ≡ z = at-set times v z c.from.0 (omega arith) same in
          let o : time_of times c.from.0 ≡ time_of times v = ap (time_of times) same in
          let a = h.above in
          record { above = omega (arith, ints); later = λ _. omega (arith, ints) }
      | inr apart ↦
          let s : time_of (set times v z) c.from.0 ≡ time_of times c.from.0 = get_or-set_other times v c.from.0 z (pos 0) apart in
          let r : raised rank v top c.from.0 ≡ rank c.from.0 = raised-other rank v top c.from.0 apart in
          let r2 : raised rank v top c.to.0 ≡ rank c.to.0 = raised-other rank v top c.to.0 other in
          let a = h.above in
          record { above = omega (arith, ints); later = λ k. let l = h.later (omega arith) in omega (arith, ints) }
    ]

-- the bound numbered i lowers its end to z
pub Explained-lowered : (count : ℕ) (bounds : List Bound) (times : List ℤ) (causes : List ℕ) (i : ℕ) (b : Bound) (z : ℤ)
    → Explained count bounds times causes → i < length bounds → b ≡ bound_at bounds i
    → b.from.0 < count → b.to.0 < count
    → z ≡ time_of times b.from.0 +ℤ b.most → z <ℤ time_of times b.to.0
    → Explained count bounds (set times b.to.0 z) (set causes b.to.0 i)
Explained-lowered count bounds times causes i b z h li eb lf lt ez low =
    let v = b.to.0 in
    record {
      times_len = length-set times v z ∙ h.times_len;
      causes_len = length-set causes v i ∙ h.causes_len;
      rank = raised h.rank v h.top;
      top = h.top + 1;
      below = λ x lx. elim (cases_eq x v) [
        | inl e ↦ let r = raised-at h.rank v h.top x e in omega arith
        | inr n ↦ let r = raised-other h.rank v h.top x n in let o = h.below x lx in omega arith
      ];
      ends = λ x lx c. elim (cases_eq x v) [
        | inl e ↦ let own : get_or (set causes v i) x 0 ≡ i = rw e (get_or-set_same causes v i 0 (let q = h.causes_len in omega arith)) in
            ap (λ (k : ℕ). (bound_at bounds k).to.0) own ∙ ap (λ (y : Bound). y.to.0) (sym eb) ∙ sym e
        | inr n ↦ let keep : get_or (set causes v i) x 0 ≡ get_or causes x 0 = get_or-set_other causes v x i 0 n in
            ap (λ (k : ℕ). (bound_at bounds k).to.0) keep ∙ h.ends x lx (omega arith)
      ];
      caused = λ x lx c. elim (cases_eq x v) [
        | inl e ↦ let own : get_or (set causes v i) x 0 ≡ i = rw e (get_or-set_same causes v i 0 (let q = h.causes_len in omega arith)) in
            subst (λ (y : Bound). IsCause (set times v z) (raised h.rank v h.top) y) (eb ∙ ap (bound_at bounds) (sym own))
            (cause-own count times h.rank h.top b z h.times_len lf lt (h.below b.from.0 lf) ez low)
        | inr n ↦ let keep : get_or (set causes v i) x 0 ≡ get_or causes x 0 = get_or-set_other causes v x i 0 n in
            let old = h.caused x lx (omega arith) in let end = h.ends x lx (omega arith) in
            subst (λ (k : ℕ). IsCause (set times v z) (raised h.rank v h.top) (bound_at bounds k)) (sym keep)
            (cause-other count times h.rank h.top v z (bound_at bounds (get_or causes x 0)) h.times_len lt low (λ q. n (sym end ∙ q)) old)
      ];
      uncaused = λ x lx c. elim (cases_eq x v) [
        | inl e ↦ let own : get_or (set causes v i) x 0 ≡ i = rw e (get_or-set_same causes v i 0 (let q = h.causes_len in omega arith)) in
            absurd (omega arith)
        | inr n ↦ let keep : get_or (set causes v i) x 0 ≡ get_or causes x 0 = get_or-set_other causes v x i 0 n in
            (let o : time_of (set times v z) x ≡ time_of times x = get_or-set_other times v x z (pos 0) n in let was = h.uncaused x lx (omega arith) in omega (arith, ints))
      ];
    }

-- ---- Chains of causes, from a point back

abbrev pub Causes : List ℤ → (ℕ → ℕ) → List Bound → Type 0
Causes times rank [] = Unit {0}
Causes times rank (b ∷ bs) = IsCause times rank b × Causes times rank bs

pub descends : (times : List ℤ) (rank : ℕ → ℕ) (b : Bound) (bs : List Bound) (p q : ℕ)
    → Causes times rank (b ∷ bs) → LeadsBack p (b ∷ bs) q
    → ((total (b ∷ bs) +ℤ time_of times q) ≤ℤ time_of times p)
    × (rank p ≤ rank q → (total (b ∷ bs) +ℤ time_of times q) <ℤ time_of times p)
descends times rank b [] p q c l =
    let h = c.0 in let a = h.above in
    let e1 : time_of times b.to.0 ≡ time_of times p = ap (time_of times) l.0 in
    let e2 : time_of times b.from.0 ≡ time_of times q = ap (time_of times) l.1 in
    let r1 = ap rank l.0 in let r2 = ap rank l.1 in
    (omega (arith, ints), λ k. let s = h.later (omega arith) in omega (arith, ints))
descends times rank b (d ∷ ds) p q c l =
    let h = c.0 in let a = h.above in
    let e1 : time_of times b.to.0 ≡ time_of times p = ap (time_of times) l.0 in
    let r1 = ap rank l.0 in
    let ih = descends times rank d ds b.from.0 q c.1 l.1 in let i0 = ih.0 in (
      omega (arith, ints),
      λ k. elim (cases_lt (rank b.from.0) (rank b.to.0)) [
        | inl lo ↦ let s = ih.1 (omega arith) in omega (arith, ints)
        | inr hi ↦ let s = h.later hi in omega (arith, ints)
      ],
    )

-- causes that lead back to where they began sum below 0
pub negative_round : (times : List ℤ) (rank : ℕ → ℕ) (b : Bound) (bs : List Bound) (p : ℕ)
    → Causes times rank (b ∷ bs) → LeadsBack p (b ∷ bs) p → total (b ∷ bs) <ℤ pos 0
negative_round times rank b bs p c l = let s = (descends times rank b bs p p c l).1 (omega arith) in omega (arith, ints)

pub LeadsBack-push : (p : ℕ) (xs : List Bound) (q : ℕ) (b : Bound) → LeadsBack p xs q → b.to.0 ≡ q → LeadsBack p (xs ++ b ∷ []) b.from.0
LeadsBack-push p [] q b l e = (e ∙ sym l, refl)
LeadsBack-push p (x ∷ xs) q b l e = (l.0, LeadsBack-push x.from.0 xs q b l.1 e)

pub LeadsBack-drop : (p : ℕ) (xs : List Bound) (q k : ℕ) → LeadsBack p xs q → k < length xs → LeadsBack (bound_at xs k).to.0 (drop k xs) q
LeadsBack-drop p [] q k l h = absurd (omega arith)
LeadsBack-drop p (x ∷ xs) q zero l h = (refl, l.1)
LeadsBack-drop p (x ∷ xs) q (suc k) l h = LeadsBack-drop x.from.0 xs q k l.1 (omega arith)

Leads-push : (p : ℕ) (xs : List Bound) (q : ℕ) (b : Bound) → Leads p xs q → b.from.0 ≡ q → Leads p (xs ++ b ∷ []) b.to.0
Leads-push p [] q b l e = (e ∙ sym l, refl)
Leads-push p (x ∷ xs) q b l e = (l.0, Leads-push x.to.0 xs q b l.1 e)

-- the sums of two lists
pub total-append : (xs ys : List Bound) → total (xs ++ ys) ≡ total xs +ℤ total ys
total-append [] ys = omega (arith, ints)
total-append (x ∷ xs) ys = let ih = total-append xs ys in omega (arith, ints)

pub above-lt : (f : ℕ) (y z : ℤ) → neg_ℤ (pos f) ≤ℤ z → z <ℤ y → above f z < above f y
above-lt f (pos a) (pos b) h l = omega (arith, ints)
above-lt f (pos a) (negsuc b) h l = let g : suc b ≤ f = omega (arith, ints) in omega (arith, ints)
above-lt f (negsuc a) (pos b) h l = absurd (omega (arith, ints))
above-lt f (negsuc a) (negsuc b) h l = let g : suc b ≤ f = omega (arith, ints) in let k : a < b = omega (arith, ints) in omega arith

pub slack-set : (count : ℕ) (times : List ℤ) (v : ℕ) (z : ℤ) → v < length times → neg_ℤ (pos (depth count)) ≤ℤ z → z <ℤ time_of times v
    → slack count (set times v z) < slack count times
slack-set count times v z l h lt =
    let f = depth count in
    let e = sum_by-set (above f) times v z (pos 0) l in
    let s = above-lt f (time_of times v) z h lt in
    omega arith

pub IsAboveFloor-set : (count : ℕ) (times : List ℤ) (v : ℕ) (z : ℤ) → length times ≡ count → v < count → IsAboveFloor count times
    → neg_ℤ (pos (depth count)) ≤ℤ z → z <ℤ time_of times v → IsAboveFloor count (set times v z)
IsAboveFloor-set count times v z len lv w h lt x lx = elim (cases_eq x v) [
  | inl e ↦ let s = at-set times v z x (omega arith) e in let o = (w v lv).1 in (omega (arith, ints), omega (arith, ints))
  | inr n ↦ let s : time_of (set times v z) x ≡ time_of times x = get_or-set_other times v x z (pos 0) n in let o = w x lx in let o1 = o.1 in let o0 = o.0 in (omega (arith, ints), omega (arith, ints))
]

-- ---- A round is a negative cycle

Leads-reverse : (p : ℕ) (xs : List Bound) (q : ℕ) → LeadsBack p xs q → Leads q (reverse xs) p
Leads-reverse p [] q l = sym l
Leads-reverse p (x ∷ xs) q l = rw (reverse_onto xs x []) (subst (λ (k : ℕ). Leads q (reverse xs ++ x ∷ []) k) l.0 (Leads-push q (reverse xs) x.from.0 x (Leads-reverse x.from.0 xs q l.1) refl))

total-reverse : (xs : List Bound) → total (reverse xs) ≡ total xs
total-reverse [] = refl
total-reverse (x ∷ xs) = rw (reverse_onto xs x []) (let e = total-append (reverse xs) (x ∷ []) in let ih = total-reverse xs in omega (arith, ints))

Causes-from_given : (count : ℕ) (bounds : List Bound) (times : List ℤ) (causes : List ℕ) (h : Explained count bounds times causes) (path : List Bound)
    → AreCauses count bounds causes path → Causes times h.rank path
Causes-from_given count bounds times causes h [] g = tt
Causes-from_given count bounds times causes h (x ∷ xs) g =
    let e = g.0 in
    (subst (IsCause times h.rank) (sym e.3) (h.caused e.0 e.1 e.2), Causes-from_given count bounds times causes h xs g.1)

Given-from_causes : (count : ℕ) (bounds : List Bound) (causes : List ℕ) (path : List Bound)
    → AreCauses count bounds causes path → AllByRecursion (Contains bounds) path
Given-from_causes count bounds causes [] g = tt
Given-from_causes count bounds causes (x ∷ xs) g =
    let e = g.0 in let at = get_or causes e.0 0 in
    (subst (Contains bounds) (sym e.3) (Contains-get_or bounds at no_bound e.2), Given-from_causes count bounds causes xs g.1)

pub IsNegativeCycle-from_round : (count : ℕ) (bounds : List Bound) (times : List ℤ) (causes : List ℕ) (cycle : List Bound)
    → Explained count bounds times causes → IsRound count bounds causes cycle → IsNegativeCycle bounds cycle
IsNegativeCycle-from_round count bounds times causes cycle h r =
    let given : All (Contains bounds) (reverse r.path) = All-permutation (Contains bounds) r.path (reverse r.path) (IsPermutation-reverse r.path) (All-from_recursion (Contains bounds) r.path (Given-from_causes count bounds causes r.path r.given)) in
    let neg : total r.path <ℤ pos 0 = negative_of times h.rank r.path r.at (Causes-from_given count bounds times causes h r.path r.given) r.leads r.some in
    let e = total-reverse r.path in
    record {
      given = rw r.is given;
      closed = (r.at, rw r.is (Leads-reverse r.at r.path r.at r.leads));
      distinct = r.distinct;
      negative = rw r.is (omega (arith, ints));
    }
  where
    negative_of : (times : List ℤ) (rank : ℕ → ℕ) (path : List Bound) (p : ℕ) → Causes times rank path → LeadsBack p path p → 0 < length path → total path <ℤ pos 0
    negative_of times rank [] p c l s = absurd (omega arith)
    negative_of times rank (b ∷ bs) p c l s = negative_round times rank b bs p c l

-- ---- No schedule keeps a negative cycle

-- along bounds that hold the times differ by no more than their sum
pub telescopes : (t : Schedule) (xs : List Bound) (p q : ℕ) → AllByRecursion (Holds t) xs → Leads p xs q → t q ≤ℤ (t p +ℤ total xs)
telescopes t [] p q k l = let e = ap t l in omega (arith, ints)
telescopes t (x ∷ xs) p q k l =
    let ih = telescopes t xs x.to.0 q k.1 l.1 in let k0 = k.0 in let e : t x.from.0 ≡ t p = ap t l.0 in omega (arith, ints)

pub Holds-given : (t : Schedule) (bounds : List Bound) → AllByRecursion (Holds t) bounds → (xs : List Bound) → AllByRecursion (Contains bounds) xs → AllByRecursion (Holds t) xs
Holds-given t bounds k [] g = tt
Holds-given t bounds k (x ∷ xs) g = (All-contains (Holds t) bounds x (All-from_recursion (Holds t) bounds k) g.0, Holds-given t bounds k xs g.1)

-- no schedule keeps a negative cycle
pub HasNoSchedule-from_cycle : (bounds cycle : List Bound) → IsNegativeCycle bounds cycle → HasNoSchedule bounds
HasNoSchedule-from_cycle bounds cycle n = record {
  none = λ t m.
      let p = n.closed.0 in
      let far = telescopes t cycle p p (Holds-given t bounds m.each cycle (recursion_from_All (Contains bounds) cycle n.given)) n.closed.1 in
      let neg = n.negative in
      clash_ℤ {X = ⊥} neg (omega (arith, ints));
}

-- ---- A point whose causes lead to a root is not low

length_total : (count : ℕ) (bounds : List Bound) → All (IsInSearch count) bounds → (xs : List Bound) → AllByRecursion (Contains bounds) xs
    → neg_ℤ (pos (length xs * 1000000001)) ≤ℤ total xs
length_total count bounds r [] g = omega (arith, ints)
length_total count bounds r (x ∷ xs) g =
    let ih = length_total count bounds r xs g.1 in let e = All-contains (IsInSearch count) bounds x r g.0 in omega (arith, ints)

pub not_low : (count : ℕ) (bounds : List Bound) (times : List ℤ) (causes : List ℕ) (start : ℕ)
    → Explained count bounds times causes → All (IsInSearch count) bounds → RootedAt count bounds causes start → neg_ℤ (pos (depth count)) ≤ℤ time_of times start
not_low count bounds times causes start h r t =
    let l = length_total count bounds r t.path (Given-from_causes count bounds causes t.path t.given) in
    let zero_root = h.uncaused t.root t.root_in t.uncaused in
    let few = t.few in
    let d = falls times h.rank t.path start t.root (Causes-from_given count bounds times causes h t.path t.given) t.leads in
    omega (arith, ints)
  where
    falls : (times : List ℤ) (rank : ℕ → ℕ) (path : List Bound) (p q : ℕ) → Causes times rank path → LeadsBack p path q → (total path +ℤ time_of times q) ≤ℤ time_of times p
    falls times rank [] p q c l = let e = ap (time_of times) l in omega (arith, ints)
    falls times rank (b ∷ bs) p q c l = (descends times rank b bs p q c l).0

-- ---- The start and the end of the search

pub Explained-start : (count : ℕ) (bounds : List Bound) (times : List ℤ) → IsStart count times → Explained count bounds times (replicate count (length bounds))
Explained-start count bounds times start =
    let read : (v : ℕ) → v < count → get_or (replicate count (length bounds)) v 0 ≡ length bounds = λ v l. get_or-replicate count v (length bounds) 0 l in
    record {
      times_len = start.size;
      causes_len = length-replicate count (length bounds);
      rank = λ _. 0;
      top = 1;
      below = λ v l. omega arith;
      ends = λ v l c. absurd (let r = read v l in omega arith);
      caused = λ v l c. absurd (let r = read v l in omega arith);
      uncaused = λ v l c. start.low v l;
    }

pub IsAboveFloor-start : (count : ℕ) (times : List ℤ) → IsStart count times → IsAboveFloor count times
IsAboveFloor-start count times start v l = let low = start.low v l in (omega (arith, ints), start.high v l)

pub IsStart-zero : (count : ℕ) → IsStart count (replicate count (pos 0))
IsStart-zero count =
    let read : (v : ℕ) → v < count → time_of (replicate count (pos 0)) v ≡ pos 0 = λ v l. get_or-replicate count v (pos 0) (pos 0) l in
    record { size = length-replicate count (pos 0); low = λ v l. let r = read v l in omega (arith, ints); high = λ v l. let r = read v l in omega (arith, ints) }

-- times that keep the bounds are a schedule, once they are moved to stand at 0 at the origin
pub MeetsList-moved : (count : ℕ) (bounds : List Bound) (times new : List ℤ)
    → 1 ≤ count → length times ≡ count → length new ≡ length times → All (IsInSearch count) bounds → All (Holds (time_of times)) bounds
    → ((v : ℕ) → v < length times → time_of new v ≡ time_of times v -ℤ time_of times 0) → MeetsList count bounds new
MeetsList-moved count bounds times new some len same range keeps moved = record {
  size = same ∙ len;
  times = record {
    origin = (let m = moved 0 (omega arith) in omega (arith, ints));
    each = recursion_from_All (Holds (time_of new)) bounds (λ k d l.
        (let r = range k d l in let h = keeps k d l in
        let b = get_or bounds k d in
        let f = r.from_below in let t = r.to_below in
        let mf = moved b.from.0 (omega arith) in let mt = moved b.to.0 (omega arith) in omega (arith, ints)));
  };
}

-- the bounds that all steps of a turn meet are all bounds
pub All-from_turn : (P : Bound → Type 0) (bounds : List Bound) (backward : Bool) → ((k : ℕ) → k < length bounds → P (bound_at bounds (place backward (length bounds) k))) → All P bounds
All-from_turn P bounds true h i d l =
    let e : place true (length bounds) (length bounds - 1 - i) ≡ i = omega arith in
    subst P (ap (bound_at bounds) e ∙ get_or_default bounds i no_bound d l) (h (length bounds - 1 - i) (omega arith))
All-from_turn P bounds false h i d l = subst P (get_or_default bounds i no_bound d l) (h i l)

pub IsNear-moved : (count : ℕ) (times new : List ℤ) → 1 ≤ count → count ≤ 131072 → length times ≡ count → length new ≡ length times → IsAboveFloor count times
    → ((v : ℕ) → v < length times → time_of new v ≡ time_of times v -ℤ time_of times 0) → IsNear count new
IsNear-moved count times new some few len same floor moved =
    let o = floor 0 (omega arith) in let o0 = o.0 in let o1 = o.1 in
    record {
      size = same ∙ len;
      low = λ v l. (let m = moved v (omega arith) in let w = floor v l in let w0 = w.0 in let w1 = w.1 in omega (arith, ints));
      high = λ v l. (let m = moved v (omega arith) in let w = floor v l in let w0 = w.0 in let w1 = w.1 in omega (arith, ints));
    }

-- a bound in the range of bounds is in that of a search
pub IsInSearch-all : (n : ℕ) (bounds : List Bound) → All (IsInRange n) bounds → All (IsInSearch n) bounds
IsInSearch-all n bounds range = All-weaker (IsInRange n) (IsInSearch n) (λ b r. record { from_below = r.from_below; to_below = r.to_below; low = (let l = r.low in omega (arith, ints)); high = r.high }) bounds range
