-- A text that breaks off has the pieces that may not stand there.
use Rattle.std.proofs.Common.{◌≡◌, ℕ, ◌+◌, ◌-◌, ◌≤◌, ℤ, List, [], ◌∷◌, ◌++◌, length, Bool, true, false, cond, ap, length-append, inl, inr, nat_eq, arith}
use Rattle.std.specs.Prelude.{fold}
use Rattle.hs_base.specs.declared.mission.Mission.{Mission}
use Rattle.hs_texts.specs.Pieces.{Piece}
use Rattle.hs_texts.specs.Languages.{Language, Yields, Then, Many, Keyword, Number}
use Rattle.hs_texts.specs.declared.written.WrittenPoint.{WrittenPoint}
use Rattle.hs_texts.specs.declared.written.WrittenPoint.TheVariants.{Origin}
use Rattle.hs_texts.specs.declared.written.WrittenTime.{WrittenTime}
use Rattle.hs_texts.specs.declared.written.WrittenKind.{WrittenKind}
use Rattle.hs_texts.specs.declared.written.WrittenSupport.{WrittenSupport}
use Rattle.hs_texts.specs.declared.written.WrittenToken.{WrittenToken}
use Rattle.hs_texts.specs.declared.written.WrittenExtension.{WrittenExtension}
use Rattle.hs_texts.specs.Kept.{Kept, kept, broken, onward, Series}
use Rattle.hs_texts.specs.PlanGrammar.{may_be_fixed, point_size, Exactly, OneMore, PointText, FixedAt, FixText, NewTokenText, SupportText, GoalToken, GoalText, BodyEnd, BodyBack, BodyText, Extended, ExtensionBack, ExtensionText, PlanEnd, PlanBack, PlanGrammar}

pub record Sized {A : Type 0} (R : Language (Kept A)) : Type 0 where
  pub sized : (u : List Piece) (n : ℕ) → R u (broken n) → n ≤ length u

pub sized_kept : {A : Type 0} (x : A) → Sized (Yields (kept x))
sized_kept x = record { sized = λ u n h. absurd (never n x h.1) } where
  never : {A : Type 0} (n : ℕ) (x : A) → broken n ≡ kept x → ⊥
  never n x e = cc

pub sized_then : {A B : Type 0} (R : Language A) (S : A → Language (Kept B)) → ((x : A) → Sized (S x)) → Sized (Then R S)
sized_then R S s = record { sized = λ u n h. let k = (s h.value).sized h.back n h.second in omega (arith, ap length h.joined, length-append h.front h.back, k) }

onward_size : {A B : Type 0} (R : Language (Kept A)) (S : A → Language (Kept B)) → Sized R → ((x : A) → Sized (S x)) → (f b : List Piece) (v : Kept A) (n : ℕ) → R f v → onward S v b (broken n) → n ≤ length f + length b
onward_size R S r s f b (kept x) n h k = let l = (s x).sized b n k in omega (arith, l)
onward_size R S r s f b (broken i) n h k = let l = r.sized f i h in let e : n ≡ i = cc (k.1) in omega (arith, l, e)

pub sized_onward : {A B : Type 0} (R : Language (Kept A)) (S : A → Language (Kept B)) → Sized R → ((x : A) → Sized (S x)) → Sized (Then R (onward S))
sized_onward R S r s = record { sized = λ u n h. let k = onward_size R S r s h.front h.back h.value n h.first h.second in omega (arith, ap length h.joined, length-append h.front h.back, k) }

pub sized_series : {A S : Type 0} (R : S → Language (Kept A)) (step : S → A → S) → ((s : S) → Sized (R s)) → (s : S) → Sized (Series R step s)
sized_series R step r s = record { sized = λ u n h. let k = (r (fold step s h.2)).sized h.1 n h.4 in omega (arith, ap length h.5, length-append h.0 h.1, k) }

-- a point has the pieces of its size
pub point_sized : (u : List Piece) (p : WrittenPoint) → PointText u p → length u ≡ point_size p
point_sized u p (inl h) =
    let e : p ≡ Origin = h.second.1 in
    omega (arith, ap length h.joined, length-append h.front h.back, ap length h.first.1, ap length h.second.0, ap point_size e)
point_sized u p (inr (inl h)) =
    let k = h.second in
    omega (arith, ap length h.joined, length-append h.front h.back, ap length h.first.1, ap length k.joined, length-append k.front k.back, ap length k.first.1, ap length k.second.0, ap point_size k.second.1)
point_sized u p (inr (inr h)) =
    let k = h.first in let l = k.second in
    omega (arith, ap length h.joined, length-append h.front h.back, ap length h.second.0, ap point_size h.second.1, ap length k.joined, length-append k.front k.back, ap length k.first.1, ap length l.joined, length-append l.front l.back, ap length l.first.1, ap length l.second.0)

fix_back_size : (m : Mission) (es : List WrittenExtension) (f b : List Piece) (p : WrittenPoint) (n : ℕ) (t : Bool) → PointText f p → cond t (FixedAt p) (Yields (broken (point_size p))) b (broken n) → n ≤ length f + length b
fix_back_size m es f b p n true h k = let l = (sized_then Number _ (λ at. sized_kept (record { point = p; at = at }))).sized b n k in omega (arith, l)
fix_back_size m es f b p n false h k = let e : n ≡ point_size p = cc (k.1) in omega (arith, e, point_sized f p h)

sized_fix : (m : Mission) (es : List WrittenExtension) → Sized (FixText m es)
sized_fix m es = record {
  sized = λ u n h.
      let t = h.second in
      let k = fix_back_size m es t.front t.back t.value n (may_be_fixed m es t.value) t.first t.second in
      omega (arith, ap length h.joined, length-append h.front h.back, ap length t.joined, length-append t.front t.back, k);
}

one_at_least : {A : Type 0} (b : Bool) (x : A) (n : ℕ) → broken n ≡ cond b (kept x) (broken 1) → n ≤ 1
one_at_least true x n e = absurd cc
one_at_least false x n e = let k : n ≡ 1 = cc (e) in omega (arith, k)

one_otherwise : {A : Type 0} (b : Bool) (x : A) (n : ℕ) → broken n ≡ cond b (broken 1) (kept x) → n ≤ 1
one_otherwise true x n e = let k : n ≡ 1 = cc (e) in omega (arith, k)
one_otherwise false x n e = absurd cc

pub sized_exactly : (k : ℕ) → Sized (Exactly k)
sized_exactly k = record { sized = λ u n h. let l = one_at_least (nat_eq h.value k) tt n h.second.1 in omega (arith, ap length h.joined, length-append h.front h.back, ap length h.first.1, l) }

pub sized_one_more : Sized OneMore
sized_one_more = record { sized = λ u n h. let l = one_otherwise (nat_eq h.value 0) (h.value - 1) n h.second.1 in omega (arith, ap length h.joined, length-append h.front h.back, ap length h.first.1, l) }

sized_goal : (n : ℕ) → Sized (GoalText n)
sized_goal n = sized_then (Keyword "goal") _ (λ _. sized_onward (Exactly n) GoalToken (sized_exactly n) (λ _. sized_then _ _ (λ token. sized_kept token)))

sized_body_end : (since : ℤ) (fixed : List WrittenTime) (tokens : List WrittenKind) (supports : List WrittenSupport) (goals : List WrittenToken) → Sized (BodyEnd since fixed tokens supports goals)
sized_body_end since fixed tokens supports goals = sized_then (Keyword "close") _ (λ _. sized_kept _)

sized_body_back : (since : ℤ) (fixed : List WrittenTime) → Sized (BodyBack since fixed)
sized_body_back since fixed =
    sized_then (Many NewTokenText) _ (λ tokens. sized_then (Many SupportText) _ (λ supports.
    sized_onward (Series GoalText (λ n goal. n + 1) 0) (BodyEnd since fixed tokens supports) (sized_series GoalText (λ n goal. n + 1) sized_goal 0) (sized_body_end since fixed tokens supports)))

pub sized_body : (m : Mission) (es : List WrittenExtension) → Sized (BodyText m es)
sized_body m es =
    sized_then (Keyword "since") _ (λ _. sized_then Number _ (λ since.
    sized_onward (Series (FixText m) (λ before time. before) es) (BodyBack since) (sized_series (FixText m) (λ before time. before) (sized_fix m) es) (sized_body_back since)))

sized_extension : (m : Mission) (es : List WrittenExtension) → Sized (ExtensionText m es)
sized_extension m es =
    sized_then (Keyword "extension") _ (λ _.
    sized_onward OneMore (ExtensionBack m es) sized_one_more (λ base.
    sized_onward (BodyText m es) (Extended base) (sized_body m es) (λ body. sized_kept _)))

sized_plan_back : (m : Mission) (u : Unit {0}) → Sized (PlanBack m u)
sized_plan_back m u = sized_onward (Series (ExtensionText m) (λ before e. before ++ e ∷ []) []) PlanEnd (sized_series (ExtensionText m) (λ before e. before ++ e ∷ []) (sized_extension m) []) (λ es. sized_then (Keyword "end") _ (λ _. sized_kept es))

pub sized_plan : (m : Mission) → Sized (PlanGrammar m)
sized_plan m =
    sized_then (Keyword "hsts") _ (λ _. sized_then (Keyword "plan") _ (λ _.
    sized_onward (Exactly 1) (PlanBack m) (sized_exactly 1) (sized_plan_back m)))
