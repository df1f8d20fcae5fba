-- The text of a plan spells it.
use Rattle.std.proofs.Common.{◌≡◌, ◌≤◌, ℕ, ◌+◌, ◌<◌, List, [], ◌∷◌, ◌++◌, length, flat_map, sym, subst, length-append, arith, codes}
use Rattle.std.proofs.lemmas.Int.{ints}
use Rattle.std.specs.List.{AllByRecursion}
use Rattle.std.specs.Fmt.{decimal, signed_decimal}
use Rattle.hs_base.specs.declared.limits.TheConstants.{TEXT_BYTES}
use Rattle.hs_base.specs.declared.mission.Kind.{Kind}
use Rattle.hs_base.specs.declared.mission.Mission.{Mission}
use Rattle.hs_base.specs.declared.plan.TokenRef.{TokenRef}
use Rattle.hs_base.specs.declared.plan.Time.{Time}
use Rattle.hs_base.specs.declared.plan.Extension.{Extension}
use Rattle.hs_base.specs.Missions.{IsKindOf}
use Rattle.hs_base.specs.Walks.{EachAfter, join_after}
use Rattle.hs_base.specs.Points.{count, points_of, tokens_of}
use Rattle.hs_texts.specs.Written.{fix_line, token_line, support_line, goal_line, goal_lines, body_in}
use Rattle.hs_texts.specs.PlanText.{extension_text, plan_text}
use Rattle.hs_texts.specs.PlanSpelling.{PlanSpells}
use Rattle.text_laws.specs.WritablePlans.{IsWritableFix, IsWritableExtension, IsWritablePlan, written_plan}
use Rattle.base_laws.proofs.ListLemmas.{each_both}
use Rattle.base_laws.proofs.PointLemmas.{count_is, count-push, tokens-push}
use Rattle.std.proofs.lemmas.Option.{slice_get_within}
use Rattle.text_laws.proofs.WritesLemmas.{text_written, each}
use Rattle.text_laws.proofs.PlanPrintedLemmas.{HasPoint, IsWritableBody, AreWritable, plan_written}
use Rattle.text_laws.proofs.PlanMeaningLemmas.{IsKnown, has_point, number_may_be_fixed, IsMeant, extensions_mean}

-- A text has at least a byte for each line.

lines_long : {A : Type 0} (f : A → List ℕ) (xs : List A) → ((x : A) → 0 < length (f x)) → length xs ≤ length (flat_map f xs)
lines_long f [] h = omega arith
lines_long f (x ∷ xs) h = omega (arith, h x, lines_long f xs h, length-append (f x) (flat_map f xs))

goals_long : (m : Mission) (n : ℕ) (ts : List TokenRef) → length ts ≤ length (goal_lines m n ts)
goals_long m n [] = omega arith
goals_long m n (t ∷ ts) =
    let some : 0 < length (goal_line m n t) = omega arith in
    omega (arith, some, goals_long m (n + 1) ts, length-append (goal_line m n t) (goal_lines m (n + 1) ts))

-- the lengths of the parts of a body
parts_long : (a b c d e f g h : List ℕ) → length (a ++ b ++ c ++ d ++ e ++ f ++ g ++ h) ≡ length (a ++ b ++ c ++ d) + length e + length f + length g + length h
parts_long a b c d e f g h =
    omega (arith, length-append (a ++ b ++ c ++ d) e, length-append (a ++ b ++ c ++ d ++ e) f, length-append (a ++ b ++ c ++ d ++ e ++ f) g, length-append (a ++ b ++ c ++ d ++ e ++ f ++ g) h)

-- bytes that have a line for each token and each goal
pub record AreLong (e : Extension) (bytes : List ℕ) : Type 0 where
  pub tokens : length e.tokens < length bytes
  pub goals : length e.goals ≤ length bytes

pub body_long : (m : Mission) (before : List Extension) (e : Extension) → AreLong e (body_in m (points_of before) e)
body_long m before e =
    let ps = points_of before in
    let parts = parts_long (codes "since ") (signed_decimal e.since) (codes "\n") (flat_map (fix_line m ps) e.fixed) (flat_map (token_line m) e.tokens) (flat_map (support_line m) e.supports) (goal_lines m 0 e.goals) (codes "close\n") in
    let tokens = lines_long (token_line m) e.tokens (λ k. omega arith) in
    let goals = goals_long m 0 e.goals in
    record { tokens = omega (arith, parts, tokens); goals = omega (arith, parts, goals) }

-- with more bytes in front too
pub longer : (e : Extension) (front bytes : List ℕ) → AreLong e bytes → AreLong e (front ++ bytes)
longer e front bytes h = let size = length-append front bytes in record { tokens = omega (arith, size, h.tokens); goals = omega (arith, size, h.goals) }

-- Each extension can be written and is meant.

known_tokens : (m : Mission) (ts : List Kind) → AllByRecursion (IsKindOf m.vars) ts → AllByRecursion (IsKnown m) ts
known_tokens m ts h = each (λ k j. slice_get_within m.vars k.sv.0 j.0 j.1) ts h

-- the tokens of a plan with one extension more are known
pub known_more : (m : Mission) (before : List Extension) (e : Extension) → AllByRecursion (IsKnown m) (tokens_of before) → AllByRecursion (IsKindOf m.vars) e.tokens → AllByRecursion (IsKnown m) (tokens_of (before ++ e ∷ []))
known_more m before e known h = subst (λ (ts : List Kind). AllByRecursion (IsKnown m) ts) (sym (tokens-push before e)) (each_both (IsKnown m) (tokens_of before) e.tokens known (known_tokens m e.tokens h))

-- points of a plan of known tokens can be written
pub point_of : (m : Mission) (es : List Extension) → AllByRecursion (IsKnown m) (tokens_of es) → count es ≤ 1000000000 → (p : ℕ) → p < count es → HasPoint m (points_of es) p
point_of m es known few p below = has_point m es p known few (omega (arith, few, count_is es)) below

pub record Fits (m : Mission) (before : List Extension) (e : Extension) : Type 0 where
  pub written : AreWritable m before e
  pub meant : IsMeant m before e

pub extension_fits : (m : Mission) (before : List Extension) (e : Extension) → AllByRecursion (IsKnown m) (tokens_of before) → count before ≤ 1000000000 → length e.goals ≤ 1000000000 → IsWritableExtension m before e → Fits m before e
extension_fits m before e known few goals x =
    let point : (t : Time) → IsWritableFix before t → HasPoint m (points_of before) t.point.0 = λ t k. point_of m before known few t.point.0 k.below in
    let base : e.base + 1 ≤ 1000000000 = omega (arith, ints, x.base) in
    let body : IsWritableBody m before e = record {
      since = x.since;
      fixed = each (λ t k. let p = point t k in record { point = p; fixable = number_may_be_fixed m before t.point.0 k.not_origin p; at = k.at }) e.fixed x.fixed;
      tokens = x.tokens;
      supports = x.supports;
      goals = x.goals;
      few_goals = goals;
    } in
    record {
      written = record { base = base; body = body };
      meant = record { fixed = each point e.fixed x.fixed; tokens = x.tokens; supports = x.supports; goals = x.goals };
    }

record AreBoth (m : Mission) (before es : List Extension) : Type 0 where
  written : EachAfter (AreWritable m) before es
  meant : EachAfter (IsMeant m) before es

extensions_both : (m : Mission) (before es : List Extension) → AllByRecursion (IsKnown m) (tokens_of before) → count before + length (join_after (extension_text m) before es) ≤ 1000000000 → EachAfter (IsWritableExtension m) before es → AreBoth m before es
extensions_both m before [] known few h = record { written = tt; meant = tt }
extensions_both m before (e ∷ es) known few h =
    let long = longer e (codes "extension " ++ decimal (e.base + 1) ++ codes "\n") (body_in m (points_of before) e) (body_long m before e) in
    let size = length-append (extension_text m before e) (join_after (extension_text m) (before ++ e ∷ []) es) in
    let fits = extension_fits m before e known (omega (arith, few)) (omega (arith, few, size, long.goals)) h.0 in
    let later = extensions_both m (before ++ e ∷ []) es (known_more m before e known h.0.tokens) (omega (arith, few, size, long.tokens, count-push before e)) h.1 in
    record { written = (fits.written, later.written); meant = (fits.meant, later.meant) }

-- the text of a plan spells it, where it isn't too long
pub plan_spelled : (m : Mission) (es : List Extension) → IsWritablePlan m es → length (plan_text m es) ≤ TEXT_BYTES → PlanSpells m (plan_text m es) 0 es
plan_spelled m es h short =
    let lines = join_after (extension_text m) [] es in
    let size = length-append (codes "hsts plan 1\n" ++ lines) (codes "end\n") in
    let inner = length-append (codes "hsts plan 1\n") lines in
    let both = extensions_both m [] es tt (omega (arith, short, size, inner)) h.each in
    let t = text_written (plan_written m es h.mission both.written) short in
    record {
      written = written_plan m es;
      is_plan = record { pieces = t.0; is_text = t.1; sentence = t.2 };
      means = extensions_mean m [] es h.mission both.meant;
    }
