-- What shows the conditions of distances: bounds that the list contains.
use Rattle.std.proofs.Common.{ℕ, ◌<◌, List, Contains, ℤ, pos, neg_ℤ, ap, arith, inl, inr}
use Rattle.std.proofs.lemmas.Int.{ints}
use Rattle.std.proofs.lemmas.Bool.{cases_eq}
use Rattle.std.proofs.lemmas.List.Elements.{All-from_recursion, All-contains}
use Rattle.hs_base.specs.declared.limits.TheConstants.{LAST}
use Rattle.hs_base.specs.declared.net.Bound.{Bound}
use Rattle.hs_base.specs.declared.plan.Time.{Time}
use Rattle.hs_base.specs.Schedule.{bound, Holds, Implied}
use Rattle.stn_distance.specs.Ranges.{StaysInTime, IsFixed}

-- a bound of the list is implied
pub Implied-contained : (bounds : List Bound) (p q : ℕ) (w : ℤ) → Contains bounds (bound p q w) → Implied bounds p q w
Implied-contained bounds p q w c = record { holds = λ t m. All-contains (Holds t) bounds (bound p q w) (All-from_recursion (Holds t) bounds m.each) c }

-- a list that holds each point but the first within 0 to LAST of the first
pub StaysInTime-contained : (n : ℕ) (bounds : List Bound)
    → ((p : ℕ) → 0 < p → p < n → Contains bounds (bound p 0 (pos 0)) × Contains bounds (bound 0 p LAST)) → StaysInTime n bounds
StaysInTime-contained n bounds h = record {
  after_origin = λ p l. elim (cases_eq p 0) [
    | inl e ↦ record { holds = λ t m. let s = ap t e in omega (arith, ints) }
    | inr d ↦ Implied-contained bounds p 0 (pos 0) (h p (omega arith) l).0
  ];
  before_last = λ p l. elim (cases_eq p 0) [
    | inl e ↦ record { holds = λ t m. let s = ap t e in omega (arith, ints) }
    | inr d ↦ Implied-contained bounds 0 p LAST (h p (omega arith) l).1
  ];
}

-- a list that holds a point at exactly its time
pub IsFixed-contained : (n : ℕ) (bounds : List Bound) (f : Time) → f.point.0 < n
    → Contains bounds (bound f.point.0 0 (neg_ℤ f.at)) → Contains bounds (bound 0 f.point.0 f.at) → IsFixed n bounds f
IsFixed-contained n bounds f l before after = record {
  below = l;
  not_before = Implied-contained bounds f.point.0 0 (neg_ℤ f.at) before;
  not_after = Implied-contained bounds 0 f.point.0 f.at after;
}
