-- Which supports of an extension are right.
use Rattle.std.proofs.Common.{◌≡◌, ℕ, zero, suc, ◌+◌, ◌*◌, ◌<◌, ◌≤◌, false, true, Bool, ◌||◌, not, nat_eq, List, [], ◌∷◌, ◌++◌, length, take, get_or, Some, refl, sym, ap, ◌∙◌, subst, arith, inl, inr, cond, length-append}
use Rattle.std.proofs.lemmas.Bool.{cases_Bool, eqb-true, eq-eqb}
use Rattle.std.proofs.lemmas.Bool.Decides.{nat_tests}
use Rattle.std.proofs.lemmas.Grind.{common_steps}
use Rattle.std.proofs.lemmas.List.{take_more}
use Rattle.std.proofs.lemmas.Option.{slice_get-get_or, slice_get_within, get_or_from_slice_get}
use Rattle.std.specs.Prelude.{slice_get, ◌⊎◌, Contains, filter}
use Rattle.std.specs.List.{AllByRecursion, list_any}
use Rattle.hs_base.specs.declared.mission.Kind.{Kind}
use Rattle.hs_base.specs.declared.plan.TokenRef.{TokenRef}
use Rattle.hs_base.specs.declared.mission.Need.{Need}
use Rattle.hs_base.specs.declared.plan.Support.{Support}
use Rattle.hs_base.specs.declared.plan.Extension.{Extension}
use Rattle.hs_base.specs.declared.mission.Mission.{Mission}
use Rattle.hs_base.specs.Walks.{EachAfter}
use Rattle.hs_base.specs.Points.{tokens_of, timeline_of}
use Rattle.hs_base.specs.Needs.{same_kind, needs_of}
use Rattle.hs_base.specs.Checked.{joined, supports_of, IsServing, IsSameNeed, IsNeedBefore, KeepsSupportAt, KeepsRules, KeepsLimits}
use Rattle.hs_base.specs.Missions.{IsMission}
use Rattle.plan_laws.proofs.NeedLemmas.{need_found}
use Rattle.base_laws.proofs.PointLemmas.{tokens-push}
use Rattle.plan_check.proofs.WithinLemmas.{AreInside, supports-push, few_tokens}
use Rattle.base_laws.proofs.ListLemmas.{each_weaker, each_both, each_at, EachAfter-push, slice_get-take, each_after_at}
use Rattle.plan_laws.proofs.ChainLemmas.{contained_at}
use Rattle.plan_check.specs.Claimed.{is_for}
use Rattle.plan_check.specs.Serving.{IsServingIn, IsBehindLast}
use Rattle.plan_check.proofs.LineLemmas.{below_vars}

-- a right support by the tokens of the plan
pub serves : (m : Mission) (es : List Extension) (s : Support) → IsServingIn m (tokens_of es) s → IsServing m es s
serves m es s h = record { need = h.need; has_need = h.has_need; kind = h.kind; has_token = h.has_token; choice = h.choice; serves = h.serves }

pub serves_in : (m : Mission) (es : List Extension) (s : Support) → IsServing m es s → IsServingIn m (tokens_of es) s
serves_in m es s h = record { need = h.need; has_need = h.has_need; kind = h.kind; has_token = h.has_token; choice = h.choice; serves = h.serves }

-- the order of needs
pub before_chain : (a b c : Support) → IsNeedBefore a.token a.need b.token b.need → IsNeedBefore b.token b.need c.token c.need → IsNeedBefore a.token a.need c.token c.need
before_chain a b c (inl x) (inl y) = inl (omega (arith, x, y))
before_chain a b c (inl x) (inr y) = inl (omega (arith, x, y.0))
before_chain a b c (inr x) (inl y) = inl (omega (arith, x.0, y))
before_chain a b c (inr x) (inr y) = inr (omega (arith, x.0, y.0), places x.1 y.1)
  where
    places : (a.token.place < b.token.place) ⊎ ((a.token.place ≡ b.token.place) × (a.need < b.need)) → (b.token.place < c.token.place) ⊎ ((b.token.place ≡ c.token.place) × (b.need < c.need)) → (a.token.place < c.token.place) ⊎ ((a.token.place ≡ c.token.place) × (a.need < c.need))
    places (inl p) (inl q) = inl (omega (arith, p, q))
    places (inl p) (inr q) = inl (omega (arith, p, q.0))
    places (inr p) (inl q) = inl (omega (arith, p.0, q))
    places (inr p) (inr q) = inr (omega (arith, p.0, q.0), omega (arith, p.1, q.1))

pub not_before_self : (t : TokenRef) (i : ℕ) → IsNeedBefore t i t i → ⊥
not_before_self t i (inl x) = absurd (omega (arith, x))
not_before_self t i (inr x) = elim x.1 [ inl p ↦ absurd (omega (arith, p)) | inr q ↦ let less = q.1 in absurd (omega (arith, less)) ]

-- what a support is for, as a test
is_for_true : (t : TokenRef) (i : ℕ) (s : Support) → is_for t i s ≡ true → (s.token ≡ t) × (s.need ≡ i)
is_for_true t i s h =
    let sv : s.token.sv.0 ≡ t.sv.0 = eqb-true _ _ (grind (arith, common_steps, nat_tests, h)) in
    let place : s.token.place ≡ t.place = eqb-true _ _ (grind (arith, common_steps, nat_tests, h)) in
    let need : s.need ≡ i = eqb-true _ _ (grind (arith, common_steps, nat_tests, h)) in
    (ap (λ (v : ℕ). record { sv = record { 0 = v }; place = s.token.place }) sv ∙ ap (λ (p : ℕ). record { sv = t.sv; place = p }) place, need)

pub is_for_same : (t : TokenRef) (i : ℕ) (s : Support) → s.token ≡ t → s.need ≡ i → is_for t i s ≡ true
is_for_same t i s token need = subst (λ (u : TokenRef). is_for u i s ≡ true) token (subst (λ (j : ℕ). is_for s.token j s ≡ true) need (grind (arith, common_steps, eq-eqb s.token.sv.0 s.token.sv.0 refl, eq-eqb s.token.place s.token.place refl, eq-eqb s.need s.need refl)))

-- none of the supports is for it
pub none_for : (supports : List Support) (s : Support) → list_any (is_for s.token s.need) supports ≡ false → AllByRecursion (λ (r : Support). IsSameNeed r s → ⊥) supports
none_for [] s h = tt
none_for (r ∷ rs) s h = elim (cases_Bool (is_for s.token s.need r)) [
  | inl is ↦ absurd (let no : true ≡ false = rw is at h in cc)
  | inr not_is ↦ ((λ same. absurd (let is = is_for_same s.token s.need r same.0 same.1 in let no : true ≡ false = sym is ∙ not_is in cc)), none_for rs s (rw not_is at h))
]

-- an element at a place is in the list
pub contains_from : {X : Type 0} (xs : List X) (j : ℕ) (x : X) → slice_get xs j ≡ Some x → Contains xs x
contains_from xs j x is = (j, slice_get_within xs j x is, get_or_from_slice_get xs j x x is)

-- one of them is
some_at : (supports : List Support) (t : TokenRef) (i : ℕ) → list_any (is_for t i) supports ≡ true → (j : ℕ) × (s : Support) × (slice_get supports j ≡ Some s) × (s.token ≡ t) × (s.need ≡ i)
some_at [] t i h = absurd (cc)
some_at (r ∷ rs) t i h = elim (cases_Bool (is_for t i r)) [
  | inl is ↦ let same = is_for_true t i r is in (0, r, refl, same.0, same.1)
  | inr not_is ↦ let later = some_at rs t i (rw not_is at h) in (suc later.0, later.1, later.2, later.3, later.4)
]

pub some_for : (supports : List Support) (t : TokenRef) (i : ℕ) → list_any (is_for t i) supports ≡ true → (s : Support) × Contains supports s × (s.token ≡ t) × (s.need ≡ i)
some_for supports t i h = let at = some_at supports t i h in (at.1, contains_from supports at.0 at.1 at.2, at.3, at.4)

for_some_at : (supports : List Support) (t : TokenRef) (i j : ℕ) (s : Support) → slice_get supports j ≡ Some s → s.token ≡ t → s.need ≡ i → list_any (is_for t i) supports ≡ true
for_some_at [] t i j s is token need = absurd (cc)
for_some_at (r ∷ rs) t i zero s is token need =
    let same : r ≡ s = cc in
    let here : is_for t i r ≡ true = is_for_same t i r (ap (λ (x : Support). x.token) same ∙ token) (ap (λ (x : Support). x.need) same ∙ need) in
    rw here refl
for_some_at (r ∷ rs) t i (suc j) s is token need = elim (cases_Bool (is_for t i r)) [ inl here ↦ rw here refl | inr not_here ↦ rw not_here (for_some_at rs t i j s is token need) ]

pub for_some : (supports : List Support) (t : TokenRef) (i : ℕ) (s : Support) → Contains supports s → s.token ≡ t → s.need ≡ i → list_any (is_for t i) supports ≡ true
for_some supports t i s has token need = let at = contained_at supports s has in for_some_at supports t i at.0 s at.1 token need

-- a list of pieces has what one of them has
pub any-append : {X : Type 0} (p : X → Bool) (xs ys : List X) → list_any p (xs ++ ys) ≡ (list_any p xs || list_any p ys)
any-append p [] ys = refl
any-append p (x ∷ xs) ys = elim (p x) as (λ v. (v || list_any p (xs ++ ys)) ≡ ((v || list_any p xs) || list_any p ys)) [ true ↦ refl | false ↦ any-append p xs ys ]

-- the rank of a need among those of 16 variables with fewer than 131,072 tokens of fewer than 257 needs each
abbrev pub rank : Support → ℕ
rank s = s.token.sv.0 * 67108864 + s.token.place * 512 + s.need

pub rank_rises : (r s : Support) → r.token.place < 131072 → r.need < 512 → s.token.place < 131072 → s.need < 512 → IsNeedBefore r.token r.need s.token s.need → rank r < rank s
rank_rises r s a b c d (inl x) = omega (arith, a, b, c, d, x)
rank_rises r s a b c d (inr x) = elim x.1 [ inl p ↦ let v = x.0 in omega (arith, a, b, c, d, v, p) | inr q ↦ let v = x.0 in let w = q.0 in let n = q.1 in omega (arith, a, b, c, d, v, w, n) ]

-- a right support behind the one before it
module _ (m : Mission) (es : List Extension) (e : Extension) where
  -- what the one before it comes behind, it comes behind too
  pub rising : (supports : List Support) (i : ℕ) (d : Support) → i < length supports → EachAfter (KeepsSupportAt m es e) [] (take i supports) → IsBehindLast supports i → AllByRecursion (λ (r : Support). IsNeedBefore r.token r.need (get_or supports i d).token (get_or supports i d).need) (take i supports)
  rising supports zero d below kept behind = tt
  rising supports (suc i) d below kept behind =
      let r = behind.0 in
      let s = behind.1 in
      let at_r : get_or supports i d ≡ r = get_or_from_slice_get supports i r d behind.2 in
      let at_s : get_or supports (suc i) d ≡ s = get_or_from_slice_get supports (suc i) s d behind.3 in
      let one : suc i ≡ i + 1 = omega arith in
      let split : take (suc i) supports ≡ take i supports ++ r ∷ [] = ap (λ n. take n supports) one ∙ take_more supports i d (omega arith) ∙ ap (λ x. take i supports ++ x ∷ []) at_r in
      let older = (EachAfter-push (KeepsSupportAt m es e) [] (take i supports) r (subst (EachAfter (KeepsSupportAt m es e) []) split kept)).1 in
      let P : Support → Type 0 = λ x. IsNeedBefore x.token x.need s.token s.need in
      subst (λ (z : Support). AllByRecursion (λ (x : Support). IsNeedBefore x.token x.need z.token z.need) (take (suc i) supports)) (sym at_s)
      (subst (AllByRecursion P) (sym split)
      (each_both P (take i supports) (r ∷ []) (each_weaker (λ (x : Support). IsNeedBefore x.token x.need r.token r.need) P (λ x less. before_chain x r s less behind.4) (take i supports) older.rising) (behind.4, tt)))

  -- and the other way round
  pub behind_last : (supports : List Support) (i : ℕ) (d : Support) → i < length supports → AllByRecursion (λ (r : Support). IsNeedBefore r.token r.need (get_or supports i d).token (get_or supports i d).need) (take i supports) → IsBehindLast supports i
  behind_last supports zero d below h = tt
  behind_last supports (suc i) d below h =
      let r = get_or supports i d in
      let at_r : slice_get supports i ≡ Some r = slice_get-get_or supports i d (omega arith) in
      let at_s : slice_get supports (suc i) ≡ Some (get_or supports (suc i) d) = slice_get-get_or supports (suc i) d below in
      let inside : slice_get (take (suc i) supports) i ≡ Some r = slice_get-take supports i (suc i) (omega arith) ∙ at_r in
      (r, get_or supports (suc i) d, at_r, at_s, each_at (λ (x : Support). IsNeedBefore x.token x.need (get_or supports (suc i) d).token (get_or supports (suc i) d).need) (take (suc i) supports) i r h inside)

-- one more support
pub claims_push : (p : Support → Bool) (before : List Support) (s : Support) (next test was : Bool) → next ≡ cond test true was → was ≡ list_any p before → test ≡ p s → next ≡ list_any p (before ++ s ∷ [])
claims_push p before s next test was is old same =
    is
    ∙ ap (λ b. cond b true was) same
    ∙ ap (λ b. cond (p s) true b) old
    ∙ by_test (p s) (list_any p before)
    ∙ sym (any-append p before (s ∷ []))
  where
    by_test : (a b : Bool) → cond a true b ≡ (b || (a || false))
    by_test true true = refl
    by_test true false = refl
    by_test false true = refl
    by_test false false = refl

-- supports of one more extension, and of all
pub supports_more : (es : List Extension) (i : ℕ) (d : Extension) → i < length es → supports_of (take (i + 1) es) ≡ supports_of (take i es) ++ (get_or es i d).supports
supports_more es i d below = ap supports_of (take_more es i d below) ∙ supports-push (take i es) (get_or es i d)

or_false : (a b : Bool) → (a || b) ≡ false → (a ≡ false) × (b ≡ false)
or_false true b h = absurd (cc)
or_false false b h = (refl, h)

or_true : (a b : Bool) → (a || b) ≡ true → (a ≡ true) ⊎ (b ≡ true)
or_true true b h = inl refl
or_true false b h = inr h

-- the next support of the extension
module _ (m : Mission) (es : List Extension) (e : Extension) (supports : List Support) (i : ℕ) (d : Support) (below : i < length supports) (kept : EachAfter (KeepsSupportAt m es e) [] (take i supports)) where
  abbrev pub next : Support
  next = get_or supports i d

  abbrev pub earlier : List Support
  earlier = supports_of es ++ take i supports

  pub right_of : KeepsSupportAt m es e (take i supports) next → IsBehindLast supports i × ((s : Support) → slice_get supports i ≡ Some s → IsServingIn m (tokens_of (joined es e)) s)
  right_of h = (
    behind_last m es e supports i d below h.rising,
    λ s at. let same : get_or supports i d ≡ s = get_or_from_slice_get supports i s d at in subst (IsServingIn m (tokens_of (joined es e))) same (serves_in m (joined es e) next h.serving),
  )

  -- it is new where no earlier one is for the same need
  pub kept_next : IsBehindLast supports i → IsServingIn m (tokens_of (joined es e)) next → list_any (is_for next.token next.need) earlier ≡ false → KeepsSupportAt m es e (take i supports) next
  kept_next behind serving none =
      let parts = or_false (list_any (is_for next.token next.need) (supports_of es)) (list_any (is_for next.token next.need) (take i supports)) (sym (any-append (is_for next.token next.need) (supports_of es) (take i supports)) ∙ none) in
      record {
        serving = serves m (joined es e) next serving;
        new = none_for (supports_of es) next parts.0;
        rising = rising m es e supports i d below kept behind;
      }

  pub not_twice : list_any (is_for next.token next.need) earlier ≡ true → KeepsSupportAt m es e (take i supports) next → ⊥
  not_twice some h = elim (or_true (list_any (is_for next.token next.need) (supports_of es)) (list_any (is_for next.token next.need) (take i supports)) (sym (any-append (is_for next.token next.need) (supports_of es) (take i supports)) ∙ some)) [
    | inl old ↦ let at = some_at (supports_of es) next.token next.need old in each_at (λ (r : Support). IsSameNeed r next → ⊥) (supports_of es) at.0 at.1 h.new at.2 (at.3, at.4)
    | inr new ↦
        let at = some_at (take i supports) next.token next.need new in
        let less = each_at (λ (r : Support). IsNeedBefore r.token r.need next.token next.need) (take i supports) at.0 at.1 h.rising at.2 in
        not_before_self next.token next.need (subst (λ (t : TokenRef). IsNeedBefore t next.need next.token next.need) at.3 (subst (λ (n : ℕ). IsNeedBefore at.1.token n next.token next.need) at.4 less))
  ]

-- what a right support is for is in range
pub record IsInReach (s : Support) : Type 0 where
  pub variable : s.token.sv.0 < 16
  pub place : s.token.place < 131072
  pub need : s.need < 512

few_filter : {X : Type 0} (p : X → Bool) (xs : List X) → length (filter p xs) ≤ length xs
few_filter p [] = omega arith
few_filter p (x ∷ xs) = elim (cases_Bool (p x)) [ inl passes ↦ rw passes (let less = few_filter p xs in omega (arith, less)) | inr fails ↦ rw fails (let less = few_filter p xs in omega (arith, less)) ]

pub reach_of : (m : Mission) (es : List Extension) (e : Extension) (s : Support) → IsMission m → EachAfter (KeepsRules m) [] es → KeepsLimits es e → AreInside m (joined es e) → IsServing m (joined es e) s → IsInReach s
reach_of m es e s h rules limits inside serving =
    let found = need_found m (joined es e) s.token s.need serving.need serving.has_need in
    let here = slice_get_within (timeline_of (tokens_of (joined es e)) s.token.sv.0) s.token.place found.0 found.1 in
    let number = slice_get_within (needs_of m found.0) s.need serving.need found.2 in
    let few = few_filter (λ (n : Need). same_kind n.of found.0) m.needs in
    let needs = h.few_needs in
    let tokens = few_tokens m h es rules in
    let new = limits.tokens in
    let all = few_filter (λ (k : Kind). nat_eq k.sv.0 s.token.sv.0) (tokens_of (joined es e)) in
    let vars = h.few_vars in
    record {
      variable = let below = below_vars (length m.vars) (tokens_of (joined es e)) s.token.sv.0 inside (omega (arith, here)) in omega (arith, below, vars);
      place = omega (arith, here, all, tokens, new, ap length (tokens-push es e), length-append (tokens_of es) e.tokens);
      need = omega (arith, number, few, needs);
    }

pub rank_below : (s : Support) → IsInReach s → rank s < 1073741824
rank_below s h = let a = h.variable in let b = h.place in let c = h.need in omega (arith, a, b, c)

-- each support's rank is at least its place: so far for the last one
abbrev pub AreCounted : List Support → ℕ → Type 0
AreCounted supports i = (j : ℕ) (s : Support) → suc j ≡ i → slice_get supports j ≡ Some s → j ≤ rank s

module _ (m : Mission) (es : List Extension) (e : Extension) (supports : List Support) (i : ℕ) (d : Support) (below : i < length supports) (kept : EachAfter (KeepsSupportAt m es e) [] (take i supports)) (h : IsMission m) (rules : EachAfter (KeepsRules m) [] es) (limits : KeepsLimits es e) (inside : AreInside m (joined es e)) where
  reach_at : (j : ℕ) (s : Support) → j < i → slice_get supports j ≡ Some s → IsInReach s
  reach_at j s less at = reach_of m es e s h rules limits inside (each_after_at (KeepsSupportAt m es e) [] (take i supports) j s kept (slice_get-take supports j i less ∙ at)).serving

  -- so the number of a support fits a field
  pub number_fits : AreCounted supports i → i < 4294967296
  number_fits c = by_case i refl
    where
      by_case : (n : ℕ) → n ≡ i → i < 4294967296
      by_case zero is = omega (arith, is)
      by_case (suc j) is =
          let s = get_or supports j d in
          let at : slice_get supports j ≡ Some s = slice_get-get_or supports j d (omega (arith, is, below)) in
          let most = rank_below s (reach_at j s (omega (arith, is)) at) in
          let least = c j s is at in
          omega (arith, is, least, most)

  pub counted_next : AreCounted supports i → IsBehindLast supports i → IsServing m (joined es e) (get_or supports i d) → AreCounted supports (i + 1)
  counted_next c behind serving j s is at = by_case i refl
    where
      by_case : (n : ℕ) → n ≡ i → j ≤ rank s
      by_case zero at_zero = omega (arith, is, at_zero)
      by_case (suc k) at_more =
          let b : IsBehindLast supports (suc k) = subst (IsBehindLast supports) (sym at_more) behind in
          let r = b.0 in
          let n = b.1 in
          let place : suc k ≡ j = omega (arith, is, at_more) in
          let found : Some n ≡ Some s = sym b.3 ∙ ap (slice_get supports) place ∙ at in
          let same : n ≡ s = cc in
          let next : get_or supports i d ≡ n = get_or_from_slice_get supports i n d (ap (slice_get supports) (sym at_more) ∙ b.3) in
          let reach_n = subst IsInReach next (reach_of m es e (get_or supports i d) h rules limits inside serving) in
          let reach_r = reach_at k r (omega (arith, at_more)) b.2 in
          let rises = rank_rises r n reach_r.place reach_r.need reach_n.place reach_n.need b.4 in
          let least = c k r at_more b.2 in
          subst (λ (x : Support). j ≤ rank x) same (omega (arith, place, rises, least))

pub not_false : (b : Bool) → not b ≡ false → b ≡ true
not_false true h = refl
not_false false h = sym h

pub not_true : (b : Bool) → not b ≡ true → b ≡ false
not_true true h = sym h
not_true false h = refl
