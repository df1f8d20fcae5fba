-- The small network is the reduced one of its bounds, and nothing but Z is executed in it at 0.
use Rattle.std.proofs.Common.{◌≡◌, ℕ, zero, suc, ◌<◌, List, [], ◌∷◌, get_or, Some, None, refl, sym, ap, ◌∙◌, subst, arith, rules, pos, inl, inr}
use Rattle.std.specs.Prelude.{ℤ, negsuc, ◌≤ℤ◌, ◌-ℤ◌, nat_eq}
use Rattle.std.proofs.lemmas.Int.{ints}
use Rattle.std.proofs.lemmas.Bool.{cases_Bool, eqb-true}
use Rattle.hs_base.specs.declared.limits.TheConstants.{LAST}
use Rattle.hs_base.specs.declared.net.Net.{Net}
use Rattle.hs_base.specs.declared.plan.Time.{Time}
use Rattle.hs_base.specs.Schedule.{Schedule, Meets, Tight, time_of}
use Rattle.hs_base.specs.Network.{spread}
use Rattle.hs_base.specs.Reduced.{Table, IsTableOf, IsReducedOf}
use Rattle.hs_base.specs.Fits.{time_at}
use Rattle.hs_base.specs.Dispatch.{IsReached}
use Rattle.net_tests.specs.Samples.{chain}

-- its tight weights
abbrev weights : List (List ℤ)
weights =
    (pos 0 ∷ pos 5 ∷ pos 8 ∷ pos 8 ∷ []) ∷ (negsuc 0 ∷ pos 0 ∷ pos 3 ∷ pos 3 ∷ [])
    ∷ (negsuc 2 ∷ negsuc 1 ∷ pos 0 ∷ pos 0 ∷ []) ∷ (negsuc 2 ∷ negsuc 1 ∷ pos 0 ∷ pos 0 ∷ []) ∷ []

abbrev table : Table
table p q = get_or (get_or weights p []) q (pos 0)

-- the schedule in which each point stands as early as it may, and that in which each stands as late as it
-- may after the one before
abbrev early : Schedule
early = time_of (pos 0 ∷ pos 1 ∷ pos 3 ∷ pos 3 ∷ [])

abbrev late : Schedule
late = time_of (pos 0 ∷ pos 5 ∷ pos 8 ∷ pos 8 ∷ [])

meets_early : Meets (spread chain) early
meets_early = record { origin = refl; each = search rules }

meets_late : Meets (spread chain) late
meets_late = record { origin = refl; each = search rules }

-- a weight that every schedule keeps and some schedule reaches is tight
tight_by : {p q : ℕ} {w : ℤ} (s : Schedule) → Meets (spread chain) s → s q -ℤ s p ≡ w → ((t : Schedule) → Meets (spread chain) t → (t q -ℤ t p) ≤ℤ w) → Tight (spread chain) p q w
tight_by s m is holds = record { implied = record { holds = holds }; least = λ v i. omega (arith, ints, i.holds s m, is) }

tight : (p q : ℕ) → p < 4 → q < 4 → Tight (spread chain) p q (table p q)
tight zero zero a b = tight_by early meets_early refl (λ t m. omega (arith, ints))
tight zero (suc zero) a b = tight_by late meets_late refl (λ t m. omega (arith, ints, m.each.0))
tight zero (suc (suc zero)) a b = tight_by late meets_late refl (λ t m. omega (arith, ints, m.each.0, m.each.1.1.0))
tight zero (suc (suc (suc zero))) a b = tight_by late meets_late refl (λ t m. omega (arith, ints, m.each.0, m.each.1.1.0, m.each.1.1.1.1.0))
tight zero (suc (suc (suc (suc q)))) a b = absurd (omega (arith, b))
tight (suc zero) zero a b = tight_by early meets_early refl (λ t m. omega (arith, ints, m.each.1.0))
tight (suc zero) (suc zero) a b = tight_by early meets_early refl (λ t m. omega (arith, ints))
tight (suc zero) (suc (suc zero)) a b = tight_by late meets_late refl (λ t m. omega (arith, ints, m.each.1.1.0))
tight (suc zero) (suc (suc (suc zero))) a b = tight_by late meets_late refl (λ t m. omega (arith, ints, m.each.1.1.0, m.each.1.1.1.1.0))
tight (suc zero) (suc (suc (suc (suc q)))) a b = absurd (omega (arith, b))
tight (suc (suc zero)) zero a b = tight_by early meets_early refl (λ t m. omega (arith, ints, m.each.1.1.1.0, m.each.1.0))
tight (suc (suc zero)) (suc zero) a b = tight_by early meets_early refl (λ t m. omega (arith, ints, m.each.1.1.1.0))
tight (suc (suc zero)) (suc (suc zero)) a b = tight_by early meets_early refl (λ t m. omega (arith, ints))
tight (suc (suc zero)) (suc (suc (suc zero))) a b = tight_by early meets_early refl (λ t m. omega (arith, ints, m.each.1.1.1.1.0))
tight (suc (suc zero)) (suc (suc (suc (suc q)))) a b = absurd (omega (arith, b))
tight (suc (suc (suc zero))) zero a b = tight_by early meets_early refl (λ t m. omega (arith, ints, m.each.1.1.1.1.1.0, m.each.1.1.1.0, m.each.1.0))
tight (suc (suc (suc zero))) (suc zero) a b = tight_by early meets_early refl (λ t m. omega (arith, ints, m.each.1.1.1.1.1.0, m.each.1.1.1.0))
tight (suc (suc (suc zero))) (suc (suc zero)) a b = tight_by early meets_early refl (λ t m. omega (arith, ints, m.each.1.1.1.1.1.0))
tight (suc (suc (suc zero))) (suc (suc (suc zero))) a b = tight_by early meets_early refl (λ t m. omega (arith, ints))
tight (suc (suc (suc zero))) (suc (suc (suc (suc q)))) a b = absurd (omega (arith, b))
tight (suc (suc (suc (suc p)))) q a b = absurd (omega (arith, a))

-- the weights to Z and from it
to_origin : (p : ℕ) → p < 4 → table p 0 ≤ℤ pos 0
to_origin zero a = omega (arith, ints)
to_origin (suc zero) a = omega (arith, ints)
to_origin (suc (suc zero)) a = omega (arith, ints)
to_origin (suc (suc (suc zero))) a = omega (arith, ints)
to_origin (suc (suc (suc (suc p)))) a = absurd (omega (arith, a))

from_origin : (p : ℕ) → p < 4 → table 0 p ≤ℤ LAST
from_origin zero a = omega (arith, ints)
from_origin (suc zero) a = omega (arith, ints)
from_origin (suc (suc zero)) a = omega (arith, ints)
from_origin (suc (suc (suc zero))) a = omega (arith, ints)
from_origin (suc (suc (suc (suc p)))) a = absurd (omega (arith, a))

chain_table : IsTableOf 4 (spread chain) table
chain_table = record {
  below = search rules;
  some = early;
  meets = meets_early;
  tight = tight;
  after_origin = λ p a. record { holds = λ t m. omega (arith, ints, (tight p 0 a (omega arith)).implied.holds t m, to_origin p a) };
  before_last = λ p a. record { holds = λ t m. omega (arith, ints, (tight 0 p (omega arith) a).implied.holds t m, from_origin p a) };
}

chain_reduced : IsReducedOf 4 (spread chain) chain
chain_reduced = record { table = table; tight = chain_table; is = refl }

-- the same of an equal network, of so many points
pub reduced_chain : (c : ℕ) (n : Net) → c ≡ 4 → n ≡ chain → IsReducedOf c (spread n) n
reduced_chain c n four is = subst (λ (x : Net). IsReducedOf c (spread x) x) (sym is) (subst (λ (k : ℕ). IsReducedOf k (spread chain) chain) (sym four) chain_reduced)

-- Z at time 0
abbrev origin : List Time
origin = record { point = record { 0 = 0 }; at = pos 0 } ∷ []

only_origin : (x : ℕ) (t : ℤ) → time_at origin x ≡ Some t → (x ≡ 0) × (t ≡ pos 0)
only_origin x t is = elim (cases_Bool (nat_eq 0 x)) [
  | inl same ↦
      let g : Some (pos 0) ≡ Some t = rw same at is in
      let w : pos 0 ≡ t = cc in
      (sym (eqb-true 0 x same), sym w)
  | inr other ↦ absurd (let g : None ≡ Some t = rw other at is in cc)
]

chain_reached : IsReached 4 chain (time_at origin) (pos 0)
chain_reached = record {
  origin = refl;
  within = λ x t at. omega (arith, (only_origin x t at).0);
  late = λ x t at. omega (arith, ints, (only_origin x t at).1);
  some = early;
  fits = record {
    meets = meets_early;
    past = λ x t at. let o = only_origin x t at in ap early o.0 ∙ sym o.1;
    future = λ x below free. omega (arith, ints, (tight x 0 below (omega arith)).implied.holds early meets_early, to_origin x below);
  };
}

pub reached_chain : (c : ℕ) (n : Net) → c ≡ 4 → n ≡ chain → IsReached c n (time_at origin) (pos 0)
reached_chain c n four is = subst (λ (x : Net). IsReached c x (time_at origin) (pos 0)) (sym is) (subst (λ (k : ℕ). IsReached k chain (time_at origin) (pos 0)) (sym four) chain_reached)
