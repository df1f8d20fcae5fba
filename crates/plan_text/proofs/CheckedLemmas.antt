-- The names and numbers of a checked plan are such that texts can spell them.
use Rattle.std.proofs.Common.{◌≡◌, ℕ, suc, ◌+◌, ◌*◌, ◌≤◌, pos, nat_eq, List, [], ◌∷◌, ◌++◌, length, Option, Some, None, refl, sym, ap, subst, arith, length-append}
use Rattle.std.proofs.lemmas.Int.{ints}
use Rattle.std.proofs.lemmas.List.{length_push}
use Rattle.std.proofs.lemmas.List.Sums.{count_by-le-length, length-filter}
use Rattle.std.proofs.lemmas.Option.{slice_get_within}
use Rattle.std.specs.Prelude.{◌≤ℤ◌, slice_get}
use Rattle.std.specs.List.{AllByRecursion}
use Rattle.hs_base.specs.declared.limits.TheConstants.{LAST}
use Rattle.hs_base.specs.declared.mission.Goal.{Goal}
use Rattle.hs_base.specs.declared.mission.Kind.{Kind}
use Rattle.hs_base.specs.declared.mission.Mission.{Mission}
use Rattle.hs_base.specs.declared.mission.Need.{Need}
use Rattle.hs_base.specs.declared.plan.Extension.{Extension}
use Rattle.hs_base.specs.declared.plan.Support.{Support}
use Rattle.hs_base.specs.declared.plan.Time.{Time}
use Rattle.hs_base.specs.declared.plan.TokenRef.{TokenRef}
use Rattle.hs_base.specs.Bounds.{goals_of}
use Rattle.hs_base.specs.Checked.{Checked, KeepsRules, KeepsOrderAt, KeepsFixed, KeepsFixedAt, KeepsSupportAt, KeepsGoals, IsEntryOf, joined}
use Rattle.hs_base.proofs.RuleLemmas.{base_kept, limits_kept, order_kept, fixed_kept, supports_kept, goals_kept}
use Rattle.hs_base.specs.Missions.{IsKindOf, IsMission, IsVar}
use Rattle.hs_base.specs.Needs.{needs_of, same_kind}
use Rattle.hs_base.specs.Points.{tokens_of, timeline_of, token_at}
use Rattle.hs_base.specs.Walks.{EachAfter}
use Rattle.base_laws.proofs.ListLemmas.{each_at, each_both}
use Rattle.base_laws.proofs.MissionLemmas.{each_filter}
use Rattle.base_laws.proofs.PointLemmas.{of_variable, tokens-push}
use Rattle.plan_laws.proofs.ChainLemmas.{value_there}
use Rattle.plan_laws.proofs.NeedLemmas.{need_found}
use Rattle.text_laws.specs.WritablePlans.{IsWritableToken, IsWritableSupport, IsWritableFix, IsWritableExtension, IsWritablePlan}

-- a plan's tokens are values of the mission, and few
record HasKinds (m : Mission) (es : List Extension) : Type 0 where
  kinds : AllByRecursion (IsKindOf m.vars) (tokens_of es)
  few : length (tokens_of es) ≤ length es * 128
  extensions : length es ≤ 1000

new_kinds : (m : Mission) (es : List Extension) (new ks : List Kind) → IsMission m → EachAfter (KeepsOrderAt m es) new ks → AllByRecursion (IsKindOf m.vars) ks
new_kinds m es new [] h order = tt
new_kinds m es new (k ∷ ks) h order =
    let at = order.0 in
    let var : IsVar (length m.words) at.var = each_at (IsVar (length m.words)) m.vars k.sv.0 at.var h.vars at.is_var in
    ((at.var, at.is_var, value_there (length m.words) at.var (timeline_of (tokens_of es ++ new) k.sv.0) k.value.0 var at.linked), new_kinds m es (new ++ k ∷ []) ks h order.1)

kinds-push : (m : Mission) (es : List Extension) (e : Extension) → IsMission m → KeepsRules m es e → HasKinds m es → HasKinds m (es ++ e ∷ [])
kinds-push m es e h rules p =
    let more = tokens-push es e in
    let one = length_push es e in
    let sum : length (tokens_of es ++ e.tokens) ≡ length (tokens_of es) + length e.tokens = length-append (tokens_of es) e.tokens in
    let tokens : length e.tokens ≤ 128 = (limits_kept rules).tokens in
    let horizons : length m.horizons ≤ 1000 = h.few_horizons in
    record {
      kinds = subst (AllByRecursion (IsKindOf m.vars)) (sym more) (each_both (IsKindOf m.vars) (tokens_of es) e.tokens p.kinds (new_kinds m es [] e.tokens h (order_kept rules).each));
      few = omega (arith, ap length more, sum, tokens, one, p.few);
      extensions = omega (arith, one, horizons, (base_kept rules).horizon_left);
    }

-- a token of the plan
token_writable : (m : Mission) (es : List Extension) (t : TokenRef) (k : Kind) → HasKinds m es → token_at es t ≡ Some k → IsWritableToken m t
token_writable m es t k p at =
    let line = timeline_of (tokens_of es) t.sv.0 in
    let own : AllByRecursion (IsKindOf m.vars) line = each_filter (IsKindOf m.vars) (λ (x : Kind). nat_eq x.sv.0 t.sv.0) (tokens_of es) p.kinds in
    let kind : IsKindOf m.vars k = each_at (IsKindOf m.vars) line t.place k own at in
    let within = slice_get_within m.vars k.sv.0 kind.0 kind.1 in
    let same : k.sv.0 ≡ t.sv.0 = of_variable (tokens_of es) t.sv.0 t.place k at in
    let place = slice_get_within line t.place k at in
    let size : length line ≤ length (tokens_of es) = omega (arith, length-filter (λ (x : Kind). nat_eq x.sv.0 t.sv.0) (tokens_of es), count_by-le-length (λ (x : Kind). nat_eq x.sv.0 t.sv.0) (tokens_of es)) in
    let low : t.place ≤ 128000 = omega (arith, place, size, p.few, p.extensions) in
    record { known = omega (arith, within, same); place = omega (arith, ints, low) }

fixes_writable : (es : List Extension) (e : Extension) (before ts : List Time) → KeepsFixed es e → EachAfter (KeepsFixedAt es e) before ts → AllByRecursion (IsWritableFix es) ts
fixes_writable es e before [] h each = tt
fixes_writable es e before (t ∷ ts) h each =
    let at = each.0 in
    let low : pos 0 ≤ℤ t.at = at.at.0 in
    let high : t.at ≤ℤ LAST = omega (arith, ints, at.at.1, h.since.1) in
    (record { not_origin = at.not_origin; below = at.below; at = (low, high) }, fixes_writable es e (before ++ t ∷ []) ts h each.1)

few_needs : (m : Mission) (k : Kind) (i : ℕ) (n : Need) → IsMission m → slice_get (needs_of m k) i ≡ Some n → pos i ≤ℤ LAST
few_needs m k i n h at =
    let most : length m.needs ≤ 256 = h.few_needs in
    let low : i ≤ 256 = omega (arith, slice_get_within (needs_of m k) i n at, length-filter (λ (x : Need). same_kind x.of k) m.needs, count_by-le-length (λ (x : Need). same_kind x.of k) m.needs, most) in
    omega (arith, ints, low)

supports_writable : (m : Mission) (es : List Extension) (e : Extension) (before ss : List Support) → IsMission m → HasKinds m (joined es e) → EachAfter (KeepsSupportAt m es e) before ss → AllByRecursion (IsWritableSupport m) ss
supports_writable m es e before [] h p each = tt
supports_writable m es e before (s ∷ ss) h p each =
    let serving = each.0.serving in
    let found = need_found m (joined es e) s.token s.need serving.need serving.has_need in (
      record {
        token = token_writable m (joined es e) s.token found.0 p found.1;
        need = few_needs m found.0 s.need serving.need h found.2;
        by = token_writable m (joined es e) s.by serving.kind p serving.has_token;
      },
      supports_writable m es e (before ++ s ∷ []) ss h p each.1,
    )

each_from : {X : Type 0} (P : X → Type 0) (xs : List X) → ((i : ℕ) (x : X) → slice_get xs i ≡ Some x → P x) → AllByRecursion P xs
each_from P [] h = tt
each_from P (x ∷ xs) h = (h 0 x refl, each_from P xs (λ i y at. h (suc i) y at))

-- what is entered for a goal is a token
entry_token : (es : List Extension) (o : Option Goal) (p : Option TokenRef) (t : TokenRef) → IsEntryOf es o p → p ≡ Some t → (k : Kind) × (token_at es t ≡ Some k)
entry_token es None None t h at = absurd cc
entry_token es None (Some u) t h at = absurd h
entry_token es (Some g) None t h at = absurd h
entry_token es (Some g) (Some u) t h at =
    let same : u ≡ t = cc in
    (g.kind, subst (λ (x : TokenRef). token_at es x ≡ Some g.kind) same h)

goals_writable : (m : Mission) (es : List Extension) (e : Extension) → HasKinds m (joined es e) → KeepsGoals m es e → AllByRecursion (IsWritableToken m) e.goals
goals_writable m es e p goals = each_from (IsWritableToken m) e.goals (λ i t at.
    let entry = entry_token (joined es e) (slice_get (goals_of m (length es + 1)) i) (slice_get e.goals i) t (goals.each i) at in
    token_writable m (joined es e) t entry.0 p entry.1)

extensions_writable : (m : Mission) (before es : List Extension) → IsMission m → HasKinds m before → EachAfter (KeepsRules m) before es → EachAfter (IsWritableExtension m) before es
extensions_writable m before [] h p rules = tt
extensions_writable m before (e ∷ es) h p rules =
    let r = rules.0 in
    let more = kinds-push m before e h r p in
    let same : e.base ≡ length before = (base_kept r).base in
    let low : e.base ≤ 1000 = omega (arith, same, p.extensions) in (
      record {
        base = omega (arith, ints, low);
        since = (fixed_kept r).since;
        fixed = fixes_writable before e [] e.fixed (fixed_kept r) (fixed_kept r).each;
        tokens = new_kinds m before [] e.tokens h (order_kept r).each;
        supports = supports_writable m before e [] e.supports h more (supports_kept r);
        goals = goals_writable m before e more (goals_kept r);
      },
      extensions_writable m (before ++ e ∷ []) es h more rules.1,
    )

-- a checked plan is writable
pub checked_writable : (m : Mission) (es : List Extension) → Checked m es → IsWritablePlan m es
checked_writable m es c = record {
  mission = c.mission;
  each = extensions_writable m [] es c.mission (record { kinds = tt; few = omega arith; extensions = omega arith }) c.rules;
}
