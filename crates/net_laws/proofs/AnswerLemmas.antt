-- Bounds for answers: why a point may not be executed, and which bound is late.
use Rattle.std.proofs.Common.{◌≡◌, ℕ, ◌<◌, List, sym, ◌∙◌, subst, arith, inl, inr, ◌⊎◌, ◌↔◌, Some, None}
use Rattle.std.proofs.lemmas.Int.{ints}
use Rattle.std.specs.Prelude.{ℤ, ◌+ℤ◌, ◌≤ℤ◌, Contains}
use Rattle.hs_base.specs.declared.net.Bound.{Bound}
use Rattle.hs_base.specs.declared.net.Net.{Net}
use Rattle.hs_base.specs.Schedule.{Schedule, Tight}
use Rattle.hs_base.specs.Network.{spread}
use Rattle.hs_base.specs.Reduced.{IsTable, IsReducedOf, reduced}
use Rattle.hs_base.specs.Fits.{Times, Fits, MayBeNow, MayTick, IsForced, Forbids}
use Rattle.hs_base.specs.Dispatch.{IsEnabled, IsReached, Marked, by_set, by_mark}
use Rattle.net_laws.proofs.ExactLemmas.{exact, table_of}
use Rattle.net_laws.proofs.DecidingLemmas.{may_or_broken, held_point}

-- what fits the bounds fits their reduced network
pub fits_both : (c : ℕ) (k : List Bound) (net : Net) → IsReducedOf c k net → (at : Times) (n : ℤ) (s : Schedule) → Fits c k at n s ↔ Fits c (spread net) at n s
fits_both c k net is at n s =
    let e = exact c k net is s in
    (λ f. record { meets = e.1 f.meets; past = f.past; future = f.future }, λ f. record { meets = e.0 f.meets; past = f.past; future = f.future })

pub may_both : (c : ℕ) (k : List Bound) (net : Net) → IsReducedOf c k net → (at : Times) (n : ℤ) (x : ℕ) → MayBeNow c k at n x ↔ MayBeNow c (spread net) at n x
may_both c k net is at n x = (
  λ m. record { s = m.s; fits = (fits_both c k net is at n m.s).0 m.fits; here = m.here },
  λ m. record { s = m.s; fits = (fits_both c k net is at n m.s).1 m.fits; here = m.here },
)

pub tick_both : (c : ℕ) (k : List Bound) (net : Net) → IsReducedOf c k net → (at : Times) (n : ℤ) → MayTick c k at n ↔ MayTick c (spread net) at n
tick_both c k net is at n = (
  λ m. record { s = m.s; fits = (fits_both c k net is at n m.s).0 m.fits; later = m.later },
  λ m. record { s = m.s; fits = (fits_both c k net is at n m.s).1 m.fits; later = m.later },
)

pub forced_both : (c : ℕ) (k : List Bound) (net : Net) → IsReducedOf c k net → (at : Times) (n : ℤ) (x : ℕ) → IsForced c k at n x ↔ IsForced c (spread net) at n x
forced_both c k net is at n x = (
  λ m. record { each = λ s f. m.each s ((fits_both c k net is at n s).1 f) },
  λ m. record { each = λ s f. m.each s ((fits_both c k net is at n s).0 f) },
)

-- times that agree at the ends of the edges decide alike
module _ (edges : List Bound) (time other : Times) (n : ℤ) (agree : (e : Bound) → Contains edges e → (time e.from.0 ≡ other e.from.0) × (time e.to.0 ≡ other e.to.0)) where
  pub marked_agree : (u : ℕ) → Marked edges time n u → Marked edges other n u
  marked_agree _ (by_set e t ie is_set none tight) = by_set e t ie (sym (agree e ie).0 ∙ is_set) (sym (agree e ie).1 ∙ none) tight
  marked_agree _ (by_mark e ie mark none flat) = by_mark e ie (marked_agree e.from.0 mark) (sym (agree e ie).1 ∙ none) flat

  pub enabled_agree : (a : ℕ) → IsEnabled edges time n a → IsEnabled edges other n a
  enabled_agree a h e ie from neg = let go = h e ie from neg in record { at = go.at; set = sym (agree e ie).1 ∙ go.set; gone = go.gone }

module _ (c : ℕ) (net : Net) (is : IsReducedOf c (spread net) net) (at : Times) (n : ℤ) (now : IsReached c net at n) where
  abbrev table : IsTable c is.table
  table = table_of c (spread net) is.table is.tight

  abbrev there : IsReached c (reduced c is.table) at n
  there = subst (λ (z : Net). IsReached c z at n) is.is now

  pub fire_or_bound : (x : ℕ) → x < c → at x ≡ None → MayBeNow c (spread net) at n x ⊎ Forbids c (spread net) at n x
  fire_or_bound x ix none = elim (may_or_broken c is.table table at n there x ix none) [
    | inl may ↦ inl (subst (λ (z : Net). MayBeNow c (spread z) at n x) (sym is.is) may)
    | inr r ↦ inr (record { to = r.0; most = is.table x r.0; below = r.1; tight = is.tight.tight x r.0 ix r.1; broken = r.2 })
  ]

  pub bound_bars : (x : ℕ) → x < c → Forbids c (spread net) at n x → MayBeNow c (spread net) at n x → ⊥
  bound_bars x ix f may =
      let w = f.tight.implied.holds may.s may.fits.meets in
      elim f.broken [
        | inl r ↦ omega (arith, ints, w, r.2, may.here, may.fits.past f.to r.0 r.1)
        | inr r ↦ omega (arith, ints, w, r.1, may.here, may.fits.future f.to f.below r.0)
      ]

  pub held : (x : ℕ) → x < c → at x ≡ None → IsForced c (spread net) at n x → (p : ℕ) × (u : ℤ) × (w : ℤ) × (at p ≡ Some u) × Tight (spread net) p x w × ((u +ℤ w) ≤ℤ n)
  held x ix none h =
      let r = held_point c is.table table at n there x ix none (subst (λ (z : Net). IsForced c (spread z) at n x) is.is h) in
      (r.0, r.1, is.table r.0 x, r.3, is.tight.tight r.0 x r.2 ix, r.4)
