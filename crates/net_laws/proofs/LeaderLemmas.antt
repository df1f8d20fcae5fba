-- Times of leaders: what the kept edges between set and unset ones decide.
use Rattle.std.proofs.Common.{◌≡◌, ℕ, zero, suc, ◌+◌, ◌<◌, List, [], ◌∷◌, length, refl, sym, ap, arith, pos, subst, inl, inr, ◌⊎◌, Option, Some, None}
use Rattle.std.proofs.lemmas.Int.{ints, clamps}
use Rattle.std.proofs.lemmas.Bool.{cases_eq}
use Rattle.std.specs.Prelude.{ℤ, ◌+ℤ◌, ◌-ℤ◌, ◌≤ℤ◌, ◌<ℤ◌}
use Rattle.std.specs.Int.{int_max}
use Rattle.hs_base.specs.Reduced.{Table, between}
use Rattle.hs_base.specs.Fits.{Times}
use Rattle.hs_base.specs.Dispatch.{LetsGo}
use Rattle.net_laws.proofs.BetweenLemmas.{Has, Web, IsKept, kept_or, smaller_first, smaller_last}
use Rattle.net_laws.proofs.KeptLemmas.{last_kept, first_kept}

pub cases_Option : {X : Type 0} (o : Option X) → (o ≡ None) ⊎ ((x : X) × (o ≡ Some x))
cases_Option None = inl refl
cases_Option (Some x) = inr (x, refl)

-- at time n some leaders have their times, and s is a way for all of them
pub record Situation (d : Table) (ls : List ℕ) (time : Times) (n : ℤ) (s : ℕ → ℤ) : Type 0 where
  pub holds : (a e : ℕ) → Has ls a → Has ls e → (s e -ℤ s a) ≤ℤ d a e
  pub past : (a : ℕ) (t : ℤ) → Has ls a → time a ≡ Some t → s a ≡ t
  pub late : (a : ℕ) (t : ℤ) → Has ls a → time a ≡ Some t → t ≤ℤ n
  pub future : (a : ℕ) → Has ls a → time a ≡ None → n ≤ℤ s a

-- the leaders that the kept edges force to n
pub data MarkedLeader (d : Table) (ls : List ℕ) (time : Times) (n : ℤ) : ℕ → Type 0 where
  by_set : (q u : ℕ) (t : ℤ) → Has ls q → Has ls u → time q ≡ Some t → time u ≡ None → IsKept d ls q u → t +ℤ d q u ≡ n → MarkedLeader d ls time n u
  by_mark : (v u : ℕ) → Has ls v → Has ls u → MarkedLeader d ls time n v → time u ≡ None → IsKept d ls v u → d v u ≡ pos 0 → MarkedLeader d ls time n u

module _ (d : Table) (ls : List ℕ) (web : Web d ls) (time : Times) (n : ℤ) (s : ℕ → ℤ) (now : Situation d ls time n s) where
  -- the kept negative edges alone
  pub lets_all : (a : ℕ) → Has ls a → ((b : ℕ) → Has ls b → IsKept d ls a b → d a b <ℤ pos 0 → LetsGo time n b (d a b))
      → (y : ℕ) → Has ls y → d a y <ℤ pos 0 → LetsGo time n y (d a y)
  lets_all a ia kept y iy sign = elim (cases_eq a y) [
    | inl same ↦ absurd (omega (arith, ints, web.self a ia, ap (d a) same))
    | inr apart ↦
        let k = first_kept d ls web a y ia iy apart sign in
        let go = kept k.at k.has k.kept k.lower in
        let here = now.past k.at go.at k.has go.set in
        let far = now.holds k.at y k.has iy in
        elim (cases_Option (time y)) [
          | inl none ↦ absurd (omega (arith, ints, k.through.sum, here, far, go.gone, now.future y iy none))
          | inr some ↦ record { at = some.0; set = some.1; gone = omega (arith, ints, k.through.sum, here, far, go.gone, now.past y some.0 iy some.1) }
        ]
  ]

  -- the kept edges from set leaders to unset ones alone
  reach_within : (m : ℕ) (q u : ℕ) (t : ℤ) → length (between d ls q u) < m → Has ls q → Has ls u → time q ≡ Some t → time u ≡ None
      → ((q u : ℕ) (t : ℤ) → Has ls q → Has ls u → time q ≡ Some t → time u ≡ None → IsKept d ls q u → (n +ℤ pos 1) ≤ℤ (t +ℤ d q u))
      → (n +ℤ pos 1) ≤ℤ (t +ℤ d q u)
  reach_within zero q u t size iq iu set none kept = absurd (omega arith)
  reach_within (suc m) q u t size iq iu set none kept = elim (cases_eq q u) [
    | inl same ↦ absurd (cc)
    | inr apart ↦ elim (kept_or d ls q u apart) [
      | inl k ↦ kept q u t iq iu set none k
      | inr h ↦
          let upper = h.2.upper (omega (arith, ints, now.late q t iq set, now.past q t iq set, now.holds q u iq iu, now.future u iu none)) in
          elim (cases_Option (time h.0)) [
            | inl unset ↦ omega (arith, ints, h.2.through.sum, upper, reach_within m q h.0 t (omega (arith, smaller_first d ls web q u h.0 iq iu h.1 h.2.last h.2.through)) iq h.1 set unset kept)
            | inr some ↦ omega (
              arith,
              ints,
              h.2.through.sum,
              now.past q t iq set,
              now.past h.0 some.0 h.1 some.1,
              now.holds q h.0 iq h.1,
              reach_within m h.0 u some.0 (omega (arith, smaller_last d ls web q u h.0 iq iu h.1 h.2.first h.2.through)) h.1 iu some.1 none kept,
            )
          ]
    ]
  ]

  pub reach_all : ((q u : ℕ) (t : ℤ) → Has ls q → Has ls u → time q ≡ Some t → time u ≡ None → IsKept d ls q u → (n +ℤ pos 1) ≤ℤ (t +ℤ d q u))
      → (q u : ℕ) (t : ℤ) → Has ls q → Has ls u → time q ≡ Some t → time u ≡ None → (n +ℤ pos 1) ≤ℤ (t +ℤ d q u)
  reach_all kept q u t iq iu set none = reach_within (length (between d ls q u) + 1) q u t (omega arith) iq iu set none kept

  -- a leader that a set one holds at n is marked
  mark_within : (m : ℕ) (q u : ℕ) (t : ℤ) → length (between d ls q u) < m → Has ls q → Has ls u → time q ≡ Some t → time u ≡ None → t +ℤ d q u ≡ n → MarkedLeader d ls time n u
  mark_within zero q u t size iq iu set none tight = absurd (omega arith)
  mark_within (suc m) q u t size iq iu set none tight = elim (cases_eq q u) [
    | inl same ↦ absurd (cc)
    | inr apart ↦
        let k = last_kept d ls web q u iq iu apart (omega (arith, ints, tight, now.late q t iq set)) in
        elim (cases_eq q k.at) [
          | inl same ↦ by_set q u t iq iu set none (subst (λ z. IsKept d ls z u) (sym same) k.kept) tight
          | inr other ↦ elim (cases_Option (time k.at)) [
            | inl unset ↦
                let first = now.future k.at k.has unset in
                let past = now.past q t iq set in
                let far = now.holds q k.at iq k.has in
                by_mark k.at u k.has iu
                (mark_within m q k.at t (omega (arith, smaller_first d ls web q u k.at iq iu k.has k.kept.apart k.through)) iq k.has set unset (omega (arith, ints, k.through.sum, first, past, far, tight, k.upper)))
                none k.kept (omega (arith, ints, k.through.sum, first, past, far, tight, k.upper))
            | inr some ↦ mark_within m k.at u some.0 (omega (arith, smaller_last d ls web q u k.at iq iu k.has other k.through)) k.has iu some.1 none
                (omega (arith, ints, k.through.sum, tight, now.past q t iq set, now.past k.at some.0 k.has some.1, now.holds q k.at iq k.has, now.holds k.at u k.has iu, now.future u iu none))
          ]
        ]
  ]

  pub mark_all : (q u : ℕ) (t : ℤ) → Has ls q → Has ls u → time q ≡ Some t → time u ≡ None → t +ℤ d q u ≡ n → MarkedLeader d ls time n u
  mark_all q u t iq iu set none tight = mark_within (length (between d ls q u) + 1) q u t (omega arith) iq iu set none tight

-- what is marked stands at n in each way
pub marked_now : (d : Table) (ls : List ℕ) (time : Times) (n : ℤ) (s : ℕ → ℤ) → Situation d ls time n s → (u : ℕ) → MarkedLeader d ls time n u → s u ≡ n
marked_now d ls time n s now _ (by_set q u t iq iu set none kept tight) = omega (arith, ints, now.past q t iq set, now.holds q u iq iu, now.future u iu none, tight)
marked_now d ls time n s now _ (by_mark v u iv iu mark none kept nil) = omega (arith, ints, marked_now d ls time n s now v mark, now.holds v u iv iu, now.future u iu none, nil)

-- the earliest times over floors of the leaders
abbrev pub earliest : Table → (ℕ → ℤ) → ℕ → List ℕ → ℕ → ℤ
earliest d low z [] x = low z -ℤ d x z
earliest d low z (y ∷ ys) x = int_max (low y -ℤ d x y) (earliest d low z ys x)

module _ (d : Table) (low : ℕ → ℤ) (z : ℕ) where
  pub earliest_above : (ls : List ℕ) (x y : ℕ) → Has ls y → (low y -ℤ d x y) ≤ℤ earliest d low z ls x
  earliest_above [] x y i = absurd i
  earliest_above (k ∷ ks) x y i = elim i [
    | inl e ↦ omega (arith, ints, clamps, ap low e, ap (d x) e)
    | inr j ↦ omega (arith, ints, clamps, earliest_above ks x y j)
  ]

  pub earliest_from : (ls : List ℕ) (x : ℕ) → (low z -ℤ d x z) ≤ℤ earliest d low z ls x
  earliest_from [] x = omega (arith, ints)
  earliest_from (k ∷ ks) x = omega (arith, ints, clamps, earliest_from ks x)

  pub earliest_least : (ls : List ℕ) (x : ℕ) (v : ℤ) → (low z -ℤ d x z) ≤ℤ v → ((y : ℕ) → Has ls y → (low y -ℤ d x y) ≤ℤ v) → earliest d low z ls x ≤ℤ v
  earliest_least [] x v h k = h
  earliest_least (y ∷ ys) x v h k = omega (arith, ints, clamps, k y (inl refl), earliest_least ys x v h (λ w i. k w (inr i)))

  -- they keep each distance
  pub earliest_step : (ls : List ℕ) (p q : ℕ) → d p z ≤ℤ (d p q +ℤ d q z) → ((y : ℕ) → Has ls y → d p y ≤ℤ (d p q +ℤ d q y)) → (earliest d low z ls q -ℤ earliest d low z ls p) ≤ℤ d p q
  earliest_step ls p q h k =
      let below : earliest d low z ls q ≤ℤ (earliest d low z ls p +ℤ d p q) = earliest_least ls q (earliest d low z ls p +ℤ d p q)
      (omega (arith, ints, h, earliest_from ls p)) (λ y i. omega (arith, ints, k y i, earliest_above ls p y i)) in
      omega (arith, ints, below)
