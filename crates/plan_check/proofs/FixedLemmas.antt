-- Which points an extension may fix.
use Rattle.std.proofs.Common.{◌≡◌, ℕ, ◌+◌, ◌<◌, ◌≤◌, List, [], ◌∷◌, ◌++◌, length, take, get_or, refl, sym, ◌∙◌, subst, arith}
use Rattle.std.proofs.lemmas.List.{take_more}
use Rattle.std.specs.List.{AllByRecursion}
use Rattle.hs_base.specs.declared.plan.Time.{Time}
use Rattle.hs_base.specs.declared.plan.Extension.{Extension}
use Rattle.hs_base.specs.Checked.{KeepsFixedAt}
use Rattle.base_laws.proofs.ListLemmas.{each_weaker, each_both}
use Rattle.plan_index.specs.Contents.{contents_of}
use Rattle.plan_index.proofs.IndexLemmas.{has_time-of}
use Rattle.plan_check.specs.Fixing.{MayFix}

-- the point of the last entry
abbrev pub latest : List Time → ℕ
latest [] = 0
latest (t ∷ []) = t.point.0
latest (t ∷ u ∷ ts) = latest (u ∷ ts)

latest-push : (ts : List Time) (t : Time) → latest (ts ++ t ∷ []) ≡ t.point.0
latest-push [] t = refl
latest-push (x ∷ []) t = refl
latest-push (x ∷ y ∷ ts) t = latest-push (y ∷ ts) t

latest_below : (ts : List Time) (n : ℕ) → 0 < n → AllByRecursion (λ (b : Time). b.point.0 < n) ts → latest ts < n
latest_below [] n some h = some
latest_below (t ∷ []) n some h = h.0
latest_below (t ∷ u ∷ ts) n some h = latest_below (u ∷ ts) n some h.1

-- the entries so far rise up to the last one, and are no more than its number
pub record AreRising (ts : List Time) (last : ℕ) : Type 0 where
  pub latest : last ≡ latest ts
  pub each : AllByRecursion (λ (b : Time). b.point.0 ≤ last) ts

pub rising_none : AreRising [] 0
rising_none = record { latest = refl; each = tt }

pub rising-push : (ts : List Time) (i : ℕ) (d : Time) (last : ℕ) → i < length ts → AreRising (take i ts) last → last < (get_or ts i d).point.0 → AreRising (take (i + 1) ts) (get_or ts i d).point.0
rising-push ts i d last below h at =
    let t = get_or ts i d in
    let P : Time → Type 0 = λ b. b.point.0 ≤ t.point.0 in
    subst (λ (l : List Time). AreRising l t.point.0) (sym (take_more ts i d below)) (record {
      latest = sym (latest-push (take i ts) t);
      each = each_both P (take i ts) (t ∷ []) (each_weaker (λ (b : Time). b.point.0 ≤ last) P (λ b less. omega (arith, less, at)) (take i ts) h.each) (omega arith, tt);
    })

module _ (es : List Extension) (e : Extension) (before : List Time) (last : ℕ) (rising : AreRising before last) where
  pub fixes : (t : Time) → MayFix (contents_of es) last e.since t → KeepsFixedAt es e before t
  fixes t h = record {
    not_origin = let b = h.behind in omega (arith, b);
    below = h.below;
    new = sym (has_time-of es t.point.0) ∙ h.new;
    rising = each_weaker (λ (b : Time). b.point.0 ≤ last) (λ (b : Time). b.point.0 < t.point.0) (λ b less. let at = h.behind in omega (arith, less, at)) before rising.each;
    at = (h.low, h.high);
  }

  pub fixes_in : (t : Time) → KeepsFixedAt es e before t → MayFix (contents_of es) last e.since t
  fixes_in t h = record {
    behind = let most = latest_below before t.point.0 h.not_origin h.rising in omega (arith, most, rising.latest);
    below = h.below;
    new = has_time-of es t.point.0 ∙ h.new;
    low = h.at.0;
    high = h.at.1;
  }
