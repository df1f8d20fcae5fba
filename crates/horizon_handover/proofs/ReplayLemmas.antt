-- Executing the points of a list in the order of their times.
use Rattle.std.proofs.Common.{◌≡◌, ℕ, ◌+◌, ◌<◌, ◌≤◌, nat_eq, List, [], ◌∷◌, ◌++◌, Option, Some, None, refl, ap, ◌∙◌, arith, inl, inr}
use Rattle.std.proofs.lemmas.Int.{ints}
use Rattle.std.proofs.lemmas.Bool.{cases_Bool}
use Rattle.std.specs.Prelude.{ℤ, ◌≤ℤ◌}
use Rattle.std.specs.List.{AllByRecursion}
use Rattle.hs_base.specs.declared.net.Bound.{Bound}
use Rattle.hs_base.specs.declared.plan.Time.{Time}
use Rattle.hs_base.specs.Schedule.{Schedule}
use Rattle.hs_base.specs.Fits.{time_at, Fits}
use Rattle.hs_base.specs.Dispatch.{or_else}
use Rattle.run_laws.proofs.StateLemmas.{time_at-append}

front_time : (front rest : List Time) (x : ℕ) (u : ℤ) → time_at front x ≡ Some u → time_at (front ++ rest) x ≡ Some u
front_time front rest x u is = time_at-append front rest x ∙ ap (λ (o : Option ℤ). or_else o (time_at rest x)) is

rest_time : (front rest : List Time) (x : ℕ) → time_at front x ≡ None → time_at (front ++ rest) x ≡ time_at rest x
rest_time front rest x is = time_at-append front rest x ∙ ap (λ (o : Option ℤ). or_else o (time_at rest x)) is

-- a time of a list is none before all of them
not_before : (ts : List Time) (n : ℤ) (x : ℕ) (u : ℤ) → AllByRecursion (λ (t : Time). n ≤ℤ t.at) ts → time_at ts x ≡ Some u → n ≤ℤ u
not_before [] n x u all is = absurd (let e : None ≡ Some u = is in cc)
not_before (t ∷ ts) n x u all is = elim (cases_Bool (nat_eq t.point.0 x)) [
  | inl same ↦ let e : Some t.at ≡ Some u = rw same at is in let v : t.at ≡ u = cc in omega (arith, ints, v, all.0)
  | inr other ↦ not_before ts n x u all.1 (rw other at is)
]

-- a schedule that fits all times fits those up to a time before the others
pub part_fits : (c : ℕ) (k : List Bound) (front rest : List Time) (n t : ℤ) (s : Schedule) → Fits c k (time_at (front ++ rest)) n s → t ≤ℤ n → AllByRecursion (λ (u : Time). t ≤ℤ u.at) rest → Fits c k (time_at front) t s
part_fits c k front rest n t s f less all = record {
  meets = f.meets;
  past = λ x u is. f.past x u (front_time front rest x u is);
  future = λ x below free. by_case x below free (time_at rest x) refl;
}
  where
    by_case : (x : ℕ) → x < c → time_at front x ≡ None → (o : Option ℤ) → time_at rest x ≡ o → t ≤ℤ s x
    by_case x below free None is = let later = f.future x below (rest_time front rest x free ∙ is) in omega (arith, ints, later, less)
    by_case x below free (Some u) is = let there = f.past x u (rest_time front rest x free ∙ is) in let late = not_before rest t x u all is in omega (arith, ints, there, late)
