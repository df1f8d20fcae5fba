-- Schedules as lists and as functions, and tight weights from distances.
use Rattle.std.proofs.Common.{◌≡◌, ℕ, zero, suc, ◌+◌, ◌<◌, List, [], ◌∷◌, ◌++◌, length, refl, ap, ◌∙◌, arith, pos, get_or}
use Rattle.std.proofs.lemmas.Int.{ints}
use Rattle.std.specs.Prelude.{ℤ, ◌-ℤ◌, map}
use Rattle.std.specs.List.{AllByRecursion}
use Rattle.hs_base.specs.declared.net.Bound.{Bound}
use Rattle.hs_base.specs.Schedule.{Schedule, Meets, MeetsList, Holds, Implied, Tight, time_of, IsBelow, numbers_from}
use Rattle.base_laws.proofs.ListLemmas.{each_split}

-- a schedule of two lists of bounds is one of the first, and one of the second
pub left : (a b : List Bound) {s : Schedule} → Meets (a ++ b) s → Meets a s
left a b {s} h = record { origin = h.origin; each = (each_split (Holds s) a b h.each).0 }

pub right : (a b : List Bound) {s : Schedule} → Meets (a ++ b) s → Meets b s
right a b {s} h = record { origin = h.origin; each = (each_split (Holds s) a b h.each).1 }

time-at : (t : Schedule) (from n p : ℕ) → p < n → get_or (map t (numbers_from from n)) p (pos 0) ≡ t (from + p)
time-at t from zero p h = absurd (omega arith)
time-at t from (suc n) zero h = ap t (omega arith)
time-at t from (suc n) (suc p) h = time-at t (from + 1) n p (omega arith) ∙ ap t (omega arith)

length-times : (t : Schedule) (from n : ℕ) → length (map t (numbers_from from n)) ≡ n
length-times t from zero = refl
length-times t from (suc n) = ap suc (length-times t (from + 1) n)

-- the times of the first c points, as a list
abbrev pub first_times : ℕ → Schedule → List ℤ
first_times c t = map t (numbers_from 0 c)

time_of-first : (t : Schedule) (c p : ℕ) → p < c → time_of (first_times c t) p ≡ t p
time_of-first t c p h = time-at t 0 c p h ∙ ap t (omega arith)

each_first : (t : Schedule) (c : ℕ) (k : List Bound) → AllByRecursion (IsBelow c) k → AllByRecursion (Holds t) k → AllByRecursion (Holds (time_of (first_times c t))) k
each_first t c [] b h = tt
each_first t c (x ∷ k) b h = (omega (arith, ints, h.0, time_of-first t c x.from.0 b.0.0, time_of-first t c x.to.0 b.0.1), each_first t c k b.1 h.1)

-- the first c times of a schedule are one as a list
pub first_meets : (t : Schedule) (c : ℕ) (k : List Bound) → 0 < c → AllByRecursion (IsBelow c) k → Meets k t → MeetsList c k (first_times c t)
first_meets t c k some below h = record {
  size = length-times t 0 c;
  times = record { origin = time_of-first t c 0 some ∙ h.origin; each = each_first t c k below h.each };
}

-- a shift keeps each bound
shift : (d : Schedule) (z : ℤ) (k : List Bound) → AllByRecursion (Holds d) k → AllByRecursion (Holds (λ x. d x -ℤ z)) k
shift d z [] h = tt
shift d z (b ∷ k) h = (omega (arith, ints, h.0), shift d z k h.1)

-- distances from p, which meet each bound and are implied, are tight
pub tight_from_distances : (k : List Bound) (p q : ℕ) (d : Schedule) → d p ≡ pos 0 → AllByRecursion (Holds d) k → Implied k p q (d q) → Tight k p q (d q)
tight_from_distances k p q d start each implied = record {
  implied = implied;
  least = λ v h. omega (arith, ints, start, h.holds (λ x. d x -ℤ d 0) (record { origin = omega (arith, ints); each = shift d (d 0) k each }));
}
