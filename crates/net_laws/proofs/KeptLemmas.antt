-- Each dominated edge is dominated by a kept one, and kept edges say what all edges say.
use Rattle.std.proofs.Common.{◌≢◌, ℕ, zero, suc, ◌+◌, ◌<◌, List, length, ap, arith, pos, inl, inr, ◌⊎◌}
use Rattle.std.proofs.lemmas.Int.{ints}
use Rattle.std.proofs.lemmas.Bool.{cases_eq, cases_Bool}
use Rattle.std.specs.Prelude.{ℤ, ◌-ℤ◌, ◌≤ℤ◌, ◌<ℤ◌, int_le}
use Rattle.hs_base.specs.Schedule.{Schedule}
use Rattle.hs_base.specs.Reduced.{Table, between}
use Rattle.net_laws.proofs.BetweenLemmas.{Has, Web, Through, Dominates, IsKept, kept_or, through_first, through_last, through_start, through_end, smaller_first, smaller_last, int_le-true, int_le-false}

-- two signs
pub cases_sign : (x : ℤ) → (pos 0 ≤ℤ x) ⊎ (x <ℤ pos 0)
cases_sign x = elim (cases_Bool (int_le (pos 0) x)) [ inl e ↦ inl (int_le-true _ _ e) | inr e ↦ inr (int_le-false _ _ e) ]

-- a kept edge to e whose weight is not negative, from a point on a shortest path from a to e
pub record LastKept (d : Table) (ls : List ℕ) (a e : ℕ) : Type 0 where
  pub at : ℕ
  pub has : Has ls at
  pub through : Through d a e at
  pub kept : IsKept d ls at e
  pub upper : pos 0 ≤ℤ d at e

-- a kept edge from a whose weight is negative, to a point on a shortest path from a to e
pub record FirstKept (d : Table) (ls : List ℕ) (a e : ℕ) : Type 0 where
  pub at : ℕ
  pub has : Has ls at
  pub through : Through d a e at
  pub kept : IsKept d ls a at
  pub lower : d a at <ℤ pos 0

module _ (d : Table) (ls : List ℕ) (web : Web d ls) where
  pub upper_transitive : (a e b p : ℕ) → Has ls a → Has ls e → Has ls b → Has ls p → pos 0 ≤ℤ d a e → Dominates d a e b → Dominates d b e p → Dominates d a e p
  upper_transitive a e b p ia ie ib ip sign h k =
      let r = through_last d ls web a e b p ia ie ib ip h.first h.through k.through in
      record { first = r.1; last = k.last; through = r.0; upper = λ s. k.upper (h.upper s); lower = λ s. absurd (omega (arith, ints)) }

  pub lower_transitive : (a e b p : ℕ) → Has ls a → Has ls e → Has ls b → Has ls p → d a e <ℤ pos 0 → Dominates d a e b → Dominates d a b p → Dominates d a e p
  lower_transitive a e b p ia ie ib ip sign h k =
      let r = through_first d ls web a e b p ia ie ib ip h.last h.through k.through in
      record { first = k.first; last = r.1; through = r.0; upper = λ s. absurd (omega (arith, ints)); lower = λ s. k.lower (h.lower s) }

  last_within : (m a e : ℕ) → length (between d ls a e) < m → Has ls a → Has ls e → a ≢ e → pos 0 ≤ℤ d a e → LastKept d ls a e
  last_within zero a e size ia ie apart sign = absurd (omega arith)
  last_within (suc m) a e size ia ie apart sign = elim (kept_or d ls a e apart) [
    | inl kept ↦ record { at = a; has = ia; through = through_start d ls web a e ia; kept = kept; upper = sign }
    | inr h ↦
        let r = last_within m h.0 e (omega (arith, smaller_last d ls web a e h.0 ia ie h.1 h.2.first h.2.through)) h.1 ie h.2.last (h.2.upper sign) in
        record { at = r.at; has = r.has; through = (through_last d ls web a e h.0 r.at ia ie h.1 r.has h.2.first h.2.through r.through).0; kept = r.kept; upper = r.upper }
  ]

  pub last_kept : (a e : ℕ) → Has ls a → Has ls e → a ≢ e → pos 0 ≤ℤ d a e → LastKept d ls a e
  last_kept a e ia ie apart sign = last_within (length (between d ls a e) + 1) a e (omega arith) ia ie apart sign

  first_within : (m a e : ℕ) → length (between d ls a e) < m → Has ls a → Has ls e → a ≢ e → d a e <ℤ pos 0 → FirstKept d ls a e
  first_within zero a e size ia ie apart sign = absurd (omega arith)
  first_within (suc m) a e size ia ie apart sign = elim (kept_or d ls a e apart) [
    | inl kept ↦ record { at = e; has = ie; through = through_end d ls web a e ie; kept = kept; lower = sign }
    | inr h ↦
        let r = first_within m a h.0 (omega (arith, smaller_first d ls web a e h.0 ia ie h.1 h.2.last h.2.through)) ia h.1 h.2.first (h.2.lower sign) in
        record { at = r.at; has = r.has; through = (through_first d ls web a e h.0 r.at ia ie h.1 r.has h.2.last h.2.through r.through).0; kept = r.kept; lower = r.lower }
  ]

  pub first_kept : (a e : ℕ) → Has ls a → Has ls e → a ≢ e → d a e <ℤ pos 0 → FirstKept d ls a e
  first_kept a e ia ie apart sign = first_within (length (between d ls a e) + 1) a e (omega arith) ia ie apart sign

  -- a dominated edge is dominated by a kept one
  pub dominated_by_kept : (a e b : ℕ) → Has ls a → Has ls e → Has ls b → Dominates d a e b → (p : ℕ) × Has ls p × Dominates d a e p × ((pos 0 ≤ℤ d a e → IsKept d ls p e) × (d a e <ℤ pos 0 → IsKept d ls a p))
  dominated_by_kept a e b ia ie ib h = elim (cases_sign (d a e)) [
    | inl sign ↦
        let r = last_kept b e ib ie h.last (h.upper sign) in
        let t = through_last d ls web a e b r.at ia ie ib r.has h.first h.through r.through in
        (r.at, r.has, record { first = t.1; last = r.kept.apart; through = t.0; upper = λ s. r.upper; lower = λ s. absurd (omega (arith, ints)) }, (λ s. r.kept, λ s. absurd (omega (arith, ints))))
    | inr sign ↦
        let r = first_kept a b ia ib h.first (h.lower sign) in
        let t = through_first d ls web a e b r.at ia ie ib r.has h.last h.through r.through in
        (r.at, r.has, record { first = r.kept.apart; last = t.1; through = t.0; upper = λ s. absurd (omega (arith, ints)); lower = λ s. r.lower }, (λ s. absurd (omega (arith, ints)), λ s. r.kept))
  ]

  -- what the kept edges say of times, all edges say
  module _ (t : Schedule) (kept : (a e : ℕ) → Has ls a → Has ls e → IsKept d ls a e → (t e -ℤ t a) ≤ℤ d a e) where
    all_within : (m a e : ℕ) → length (between d ls a e) < m → Has ls a → Has ls e → a ≢ e → (t e -ℤ t a) ≤ℤ d a e
    all_within zero a e size ia ie apart = absurd (omega arith)
    all_within (suc m) a e size ia ie apart = elim (kept_or d ls a e apart) [
      | inl k ↦ kept a e ia ie k
      | inr h ↦
          let one = all_within m a h.0 (omega (arith, smaller_first d ls web a e h.0 ia ie h.1 h.2.last h.2.through)) ia h.1 h.2.first in
          let two = all_within m h.0 e (omega (arith, smaller_last d ls web a e h.0 ia ie h.1 h.2.first h.2.through)) h.1 ie h.2.last in
          omega (arith, ints, one, two, h.2.through.sum)
    ]

    pub all_from_kept : (a e : ℕ) → Has ls a → Has ls e → (t e -ℤ t a) ≤ℤ d a e
    all_from_kept a e ia ie = elim (cases_eq a e) [
      | inl same ↦ omega (arith, ints, ap t same, ap (d a) same, web.self a ia)
      | inr apart ↦ all_within (length (between d ls a e) + 1) a e (omega arith) ia ie apart
    ]
