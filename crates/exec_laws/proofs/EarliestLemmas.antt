-- When some schedule fits, by the tight weights alone: the earliest one over the executed times, and now for all others.
use Rattle.std.proofs.Common.{◌≡◌, ℕ, ◌<◌, ◌≤◌, List, Option, Some, None, refl, ap, arith, pos}
use Rattle.std.proofs.lemmas.Int.{ints}
use Rattle.std.specs.Prelude.{ℤ, ◌-ℤ◌, ◌≤ℤ◌, unwrap_or}
use Rattle.hs_base.specs.declared.net.Bound.{Bound}
use Rattle.hs_base.specs.Schedule.{Schedule, numbers_from}
use Rattle.hs_base.specs.Reduced.{Table, IsTable, IsTableOf}
use Rattle.hs_base.specs.Fits.{Times, Fits}
use Rattle.exec_laws.specs.Allowing.{floor, AllowsAll}
use Rattle.net_laws.proofs.BetweenLemmas.{Has}
use Rattle.net_laws.proofs.ListLemmas.{has_numbers, numbers_has}
use Rattle.net_laws.proofs.ExactLemmas.{meets_keeps, keeps_meets, table_of}
use Rattle.net_laws.proofs.LeaderLemmas.{earliest, earliest_above, earliest_least, earliest_step}

module _ (c : ℕ) (k : List Bound) (d : Table) (t : IsTableOf c k d) (at : Times) (n : ℤ) where
  floor_of : (x : ℕ) (u : ℤ) → at x ≡ Some u → floor at n x ≡ u
  floor_of x u is = ap (λ o. unwrap_or o n) is

  floor_free : (x : ℕ) → at x ≡ None → floor at n x ≡ n
  floor_free x is = ap (λ o. unwrap_or o n) is

  -- a fitting schedule allows all
  pub allowed : (s : Schedule) → Fits c k at n s → AllowsAll c d at n
  allowed s f = record { each = each }
    where
      each : (p q : ℕ) (u : ℤ) → p < c → q < c → at p ≡ Some u → (floor at n q -ℤ u) ≤ℤ d p q
      each p q u pc qc is =
          let step = (meets_keeps c k d t.tight s f.meets).step p q pc qc in
          let here = f.past p u is in
          by_case (at q) refl step here
        where
          by_case : (o : Option ℤ) → at q ≡ o → (s q -ℤ s p) ≤ℤ d p q → s p ≡ u → (floor at n q -ℤ u) ≤ℤ d p q
          by_case None free step here = omega (arith, ints, step, here, floor_free q free, f.future q qc free)
          by_case (Some v) set step here = omega (arith, ints, step, here, floor_of q v set, f.past q v set)

  -- where all is allowed the earliest times fit
  pub earliest_fits : at 0 ≡ Some (pos 0) → ((x : ℕ) (u : ℤ) → at x ≡ Some u → x < c) → AllowsAll c d at n → Fits c k at n (earliest d (floor at n) 0 (numbers_from 0 c))
  earliest_fits origin within allows = record {
    meets = keeps_meets c k d t.below t.tight way (past 0 (pos 0) origin) (record { step = λ p q pc qc. earliest_step d (floor at n) 0 points p q (web.triangle p q 0 pc qc some) (λ y i. web.triangle p q y pc qc (below y i)) });
    past = past;
    future = λ x xc free. omega (arith, ints, floor_free x free, web.self x xc, earliest_above d (floor at n) 0 points x x (among x xc));
  }
    where
      points : List ℕ
      points = numbers_from 0 c

      way : Schedule
      way = earliest d (floor at n) 0 (numbers_from 0 c)

      web : IsTable c d
      web = table_of c k d t

      some : 0 < c
      some = within 0 (pos 0) origin

      below : (y : ℕ) → Has points y → y < c
      below y i = omega (arith, (has_numbers 0 c y i).1)

      among : (y : ℕ) → y < c → Has points y
      among y yc = numbers_has 0 c y (omega arith) (omega (arith, yc))

      past : (x : ℕ) (u : ℤ) → at x ≡ Some u → way x ≡ u
      past x u is =
          let xc = within x u is in
          let first = allows.each x 0 u xc some is in
          let low : earliest d (floor at n) 0 points x ≤ℤ u = earliest_least d (floor at n) 0 points x u (omega (arith, ints, first)) (λ y i. let a = allows.each x y u xc (below y i) is in omega (arith, ints, a)) in
          omega (arith, ints, low, floor_of x u is, web.self x xc, earliest_above d (floor at n) 0 points x x (among x xc))
