-- What is noted of tokens stays right where rows change.
use Rattle.std.proofs.Common.{◌≡◌, ℕ, zero, suc, ◌<◌, ◌≤◌, Bool, true, false, List, [], ◌∷◌, Some, length, insert, remove, set, slice_get, nat_eq, refl, sym, ap, ◌∙◌, subst, inl, inr, arith, ◌⊎◌}
use Rattle.std.proofs.lemmas.Bool.{cases_lt}
use Rattle.std.proofs.lemmas.Bool.Decides.{nat_tests}
use Rattle.std.specs.List.{AllByRecursion, list_any}
use Rattle.std.specs.Prelude.{◌&&◌, ◌||◌}
use Rattle.hs_base.specs.Checked.{supports_of}
use Rattle.hs_base.specs.Needs.{needs_of}
use Rattle.hs_base.specs.Points.{ending, points_of, stop}
use Rattle.hs_base.specs.declared.mission.Mission.{Mission}
use Rattle.hs_base.specs.declared.plan.Support.{Support}
use Rattle.base_laws.proofs.ListLemmas.{each_weaker}
use Rattle.search_tree.specs.Begun.{Begun}
use Rattle.search_tree.specs.Flaws.{is_served}
use Rattle.search_tree.specs.Partial.{Partial}
use Rattle.search_tree.specs.Sound.{IsIn}
use Rattle.search_tree.specs.declared.backing.Backing.{Backing}
use Rattle.search_tree.specs.declared.backing.Deferral.{Deferral}
use Rattle.search_tree.specs.declared.held.Held.{Held}
use Rattle.search_laws.specs.Good.{IsGood}
use Rattle.timeline_db.specs.Lines.{Shown}
use Rattle.timeline_db.specs.Tracked.{AreTracked, IsLine, IsTracked, was_served}
use Rattle.timeline_db.specs.declared.token.Token.{Token}
use Rattle.base_laws.proofs.PointLemmas.{place_at_most}

-- where an element of a changed list comes from
pub from-insert : {X : Type 0} (xs : List X) (k : ℕ) (x y : X) (i : ℕ) → slice_get (insert xs k x) i ≡ Some y → (y ≡ x) ⊎ ((j : ℕ) × (slice_get xs j ≡ Some y))
from-insert [] zero x y zero h = let e : x ≡ y = cc in inl (sym e)
from-insert [] zero x y (suc i) h = absurd (cc)
from-insert [] (suc k) x y zero h = let e : x ≡ y = cc in inl (sym e)
from-insert [] (suc k) x y (suc i) h = absurd (cc)
from-insert (z ∷ xs) zero x y zero h = let e : x ≡ y = cc in inl (sym e)
from-insert (z ∷ xs) zero x y (suc i) h = inr (i, h)
from-insert (z ∷ xs) (suc k) x y zero h = inr (0, h)
from-insert (z ∷ xs) (suc k) x y (suc i) h = elim (from-insert xs k x y i h) [ inl e ↦ inl e | inr g ↦ inr (suc g.0, g.1) ]

pub from-set : {X : Type 0} (xs : List X) (k : ℕ) (x y : X) (i : ℕ) → slice_get (set xs k x) i ≡ Some y → ((y ≡ x) × (i ≡ k)) ⊎ (slice_get xs i ≡ Some y)
from-set [] zero x y i h = inr h
from-set [] (suc k) x y i h = inr h
from-set (z ∷ xs) zero x y zero h = let e : x ≡ y = cc in inl (sym e, refl)
from-set (z ∷ xs) zero x y (suc i) h = inr h
from-set (z ∷ xs) (suc k) x y zero h = inr h
from-set (z ∷ xs) (suc k) x y (suc i) h = elim (from-set xs k x y i h) [ inl e ↦ inl (e.0, ap suc e.1) | inr g ↦ inr g ]

pub from-remove : {X : Type 0} (xs : List X) (k : ℕ) (y : X) (i : ℕ) → slice_get (remove xs k) i ≡ Some y → (j : ℕ) × (slice_get xs j ≡ Some y)
from-remove [] zero y i h = absurd (cc)
from-remove [] (suc k) y i h = absurd (cc)
from-remove (z ∷ xs) zero y i h = (suc i, h)
from-remove (z ∷ xs) (suc k) y zero h = (0, h)
from-remove (z ∷ xs) (suc k) y (suc i) h = let g = from-remove xs k y i h in (suc g.0, g.1)

-- a token that differs in nothing that is noted of needs
pub record IsLike (u t : Token) : Type 0 where
  pub held : t.held ≡ u.held
  pub needs : t.needs ≡ u.needs
  pub unmet : t.unmet ≡ u.unmet

pub like_tracked : (m : Mission) (b : Begun) (p : Partial) (u t : Token) → IsLike u t → IsTracked m b p u → IsTracked m b p t
like_tracked m b p u t e h =
    let needs = e.needs in
    let unmet = e.unmet in
    let most = h.most in
    record {
      most = omega arith;
      needs = λ l. needs ∙ h.needs (omega arith) ∙ ap (λ (x : Held). length (needs_of m x.kind)) (sym e.held);
      served = λ j l. subst (λ (x : Held). is_served b p x j ≡ true) (sym e.held) (h.served j (omega arith));
      unserved = λ l. subst (λ (x : Held). is_served b p x t.unmet ≡ false) (sym e.held) (subst (λ (n : ℕ). is_served b p u.held n ≡ false) (sym unmet) (h.unserved (omega arith)));
      all = λ d j l. subst (λ (x : Held). was_served b x j ≡ true) (sym e.held) (h.all (omega arith) j (subst (λ (x : Held). j < length (needs_of m x.kind)) e.held l));
    }

pub or_first : (a c : Bool) → a ≡ true → (a || c) ≡ true
or_first true c e = refl
or_first false c e = absurd (cc)

-- where none of a token's needs is open, all are served
pub all_served : (m : Mission) (b : Begun) (p : Partial) (t : Token) → IsTracked m b p t → t.unmet ≡ t.needs → (j : ℕ) → j < length (needs_of m t.held.kind) → is_served b p t.held j ≡ true
all_served m b p t h none j l = elim (cases_lt 0 t.needs) [
  | inl some ↦ let n = h.needs some in h.served j (omega arith)
  | inr all ↦ or_first _ _ (or_first (was_served b t.held j) _ (h.all (omega arith) j l))
]

-- no element passes the test
pub none_any : {X : Type 0} (test : X → Bool) (xs : List X) → AllByRecursion (λ x. test x ≡ false) xs → list_any test xs ≡ false
none_any test [] h = refl
none_any test (x ∷ xs) h = by (test x) h.0 (none_any test xs h.1)
  where
    by : (b : Bool) → b ≡ false → list_any test xs ≡ false → (b || list_any test xs) ≡ false
    by true e f = e
    by false e f = f

-- the test of two numbers that differ
pub unlike : (a c : ℕ) (d : Bool) → (a ≡ c → ⊥) → (nat_eq a c && d) ≡ false
unlike a c d h = by (nat_eq a c) refl
  where
    same : nat_eq a c ≡ true → a ≡ c
    same e = grind (arith, nat_tests)

    by : (e : Bool) → nat_eq a c ≡ e → (nat_eq a c && d) ≡ false
    by true e = absurd (h (same e))
    by false e = ap (λ (x : Bool). x && d) e

-- nothing serves a new token
pub fresh_unserved : (m : Mission) (b : Begun) (p : Partial) (x : Held) (j : ℕ) → IsGood m b p → p.points ≤ x.stop → is_served b p x j ≡ false
fresh_unserved m b p x j good fresh =
    let above = good.sound.above in
    let base : list_any (λ (s : Support). nat_eq (stop b.base s.token) x.stop && nat_eq s.need j) (supports_of b.base) ≡ false =
    none_any (λ (s : Support). nat_eq (stop b.base s.token) x.stop && nat_eq s.need j) (supports_of b.base) (all_of (supports_of b.base) (λ s. unlike (stop b.base s.token) x.stop (nat_eq s.need j) (λ e. absurd (let most = place_at_most (ending s.token.sv.0 s.token.place) (points_of b.base) in omega arith)))) in
    let new : list_any (λ (s : Backing). nat_eq s.token.stop x.stop && nat_eq s.need j) p.supports ≡ false =
    none_any (λ (s : Backing). nat_eq s.token.stop x.stop && nat_eq s.need j) p.supports (each_weaker (λ (s : Backing). IsIn p s.token × IsIn p s.by) (λ (s : Backing). (nat_eq s.token.stop x.stop && nat_eq s.need j) ≡ false) (λ s at. unlike s.token.stop x.stop (nat_eq s.need j) (λ e. absurd (let f = good.sound.fresh s.token.kind.sv.0 s.token at.0 in omega (arith, f.1)))) p.supports good.sound.backed) in
    let left : list_any (λ (d : Deferral). nat_eq d.stop x.stop && nat_eq d.need j) p.deferred ≡ false =
    none_any (λ (d : Deferral). nat_eq d.stop x.stop && nat_eq d.need j) p.deferred (each_weaker (λ (d : Deferral). d.stop < p.points) (λ (d : Deferral). (nat_eq d.stop x.stop && nat_eq d.need j) ≡ false) (λ d at. unlike d.stop x.stop (nat_eq d.need j) (λ e. absurd (omega arith))) p.deferred good.left) in
    rw (base, new, left) refl
  where
    all_of : {X : Type 0} {P : X → Type 0} (xs : List X) → ((x : X) → P x) → AllByRecursion P xs
    all_of [] h = tt
    all_of (x ∷ xs) h = (h x, all_of xs h)

pub new_tracked : (m : Mission) (b : Begun) (p q : Partial) (t : Token) → IsGood m b p → p.points ≤ t.held.stop → t.unmet ≡ 0 → t.needs ≡ length (needs_of m t.held.kind) → ((j : ℕ) → is_served b q t.held j ≡ is_served b p t.held j) → IsTracked m b q t
new_tracked m b p q t good fresh none all same = record {
  most = omega arith;
  needs = λ l. all;
  served = λ j l. absurd (omega arith);
  unserved = λ l. same t.unmet ∙ fresh_unserved m b p t.held t.unmet good fresh;
  all = λ e j l. absurd (omega arith);
}

-- one row is changed, and needs are served as before
pub tracked_row : (m : Mission) (b : Begun) (p q : Partial) (lines : List Shown) (v : ℕ) (s : Shown) → AreTracked m b p lines → ((t : Token) → IsTracked m b p t → IsTracked m b q t) → IsLine s → ((i : ℕ) (t : Token) → slice_get s.tokens i ≡ Some t → IsTracked m b q t) → AreTracked m b q (set lines v s)
tracked_row m b p q lines v s h keep line each = record {
  line = λ w r at. elim (from-set lines v s r w at) [
    | inl e ↦ subst IsLine (sym e.0) line
    | inr old ↦ h.line w r old
  ];
  each = λ w i r t at here. elim (from-set lines v s r w at) [
    | inl e ↦ each i t (ap (λ (x : Shown). slice_get x.tokens i) (sym e.0) ∙ here)
    | inr old ↦ keep t (h.each w i r t old here)
  ];
}
