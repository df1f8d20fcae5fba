-- Where a new token may stand.
use Rattle.std.proofs.Common.{◌≡◌, ℕ, suc, ◌+◌, ◌<◌, ◌≤◌, List, [], ◌∷◌, ◌++◌, length, take, drop, get_or, Some, refl, sym, ap, ◌∙◌, subst, arith, inl, inr, append-nil, length-append, nat_eq, ◌^◌}
use Rattle.std.proofs.lemmas.Bool.{cases_Bool}
use Rattle.std.proofs.lemmas.List.{take_more, take_all, length-take}
use Rattle.std.proofs.lemmas.Option.{slice_get_within, slice_get-get_or}
use Rattle.std.specs.Prelude.{slice_get}
use Rattle.hs_base.specs.declared.mission.Var.{Var}
use Rattle.std.specs.List.{AllByRecursion}
use Rattle.hs_base.specs.declared.mission.Kind.{Kind}
use Rattle.hs_base.specs.declared.ids.SvId.{SvId}
use Rattle.hs_base.specs.declared.plan.Extension.{Extension}
use Rattle.hs_base.specs.declared.mission.Mission.{Mission}
use Rattle.hs_base.specs.declared.fault.Fault.{Fault}
use Rattle.hs_base.specs.declared.fault.Fault.TheVariants.{Base, Limit as OverLimit, Order, Fixed, WrongSupport, Unsupported, Goal as NoGoal, Cycle, Memory as NoMemoryLeft}
use Rattle.hs_base.specs.Walks.{EachAfter}
use Rattle.hs_base.specs.Points.{tokens_of, timeline_of}
use Rattle.hs_base.specs.Checked.{joined, HasTokenOf, MayStandBehind, KeepsOrderAt, KeepsOrder, KeepsLimits, order, KeepsBefore, KeepsRules}
use Rattle.hs_base.specs.Missions.{IsMission}
use Rattle.hs_base.specs.Faults.{IsMissingFirst, IsMisplaced, IsFault}
use Rattle.base_laws.proofs.ListLemmas.{each_weaker, each_both, slice_get-split}
use Rattle.base_laws.proofs.PointLemmas.{tokens-push}
use Rattle.plan_check.specs.Lines.{size_of}
use Rattle.plan_check.specs.Standing.{MayStand, NoneMissing, IsStandFault}
use Rattle.plan_check.proofs.LoopLemmas.{first_break, each_more}
use Rattle.plan_check.proofs.WithinLemmas.{few_tokens}

-- the variable of the last token
abbrev pub latest : List Kind → ℕ
latest [] = 0
latest (k ∷ []) = k.sv.0
latest (k ∷ l ∷ ks) = latest (l ∷ ks)

pub latest-push : (ks : List Kind) (k : Kind) → latest (ks ++ k ∷ []) ≡ k.sv.0
latest-push [] k = refl
latest-push (x ∷ []) k = refl
latest-push (x ∷ y ∷ ks) k = latest-push (y ∷ ks) k

latest_most : (ks : List Kind) (n : ℕ) → AllByRecursion (λ (b : Kind). b.sv.0 ≤ n) ks → latest ks ≤ n
latest_most [] n h = omega arith
latest_most (k ∷ []) n h = h.0
latest_most (k ∷ l ∷ ks) n h = latest_most (l ∷ ks) n h.1

-- the new tokens are of no greater variable than the last one
pub record AreGrouped (new : List Kind) (lowest : ℕ) : Type 0 where
  pub latest : lowest ≡ latest new
  pub each : AllByRecursion (λ (b : Kind). b.sv.0 ≤ lowest) new

pub grouped_none : AreGrouped [] 0
grouped_none = record { latest = refl; each = tt }

pub grouped-push : (tokens : List Kind) (i : ℕ) (d : Kind) (lowest : ℕ) → i < length tokens → AreGrouped (take i tokens) lowest → lowest ≤ (get_or tokens i d).sv.0 → AreGrouped (take (i + 1) tokens) (get_or tokens i d).sv.0
grouped-push tokens i d lowest below h at =
    let k = get_or tokens i d in
    let P : Kind → Type 0 = λ b. b.sv.0 ≤ k.sv.0 in
    subst (λ (l : List Kind). AreGrouped l k.sv.0) (sym (take_more tokens i d below)) (record {
      latest = sym (latest-push (take i tokens) k);
      each = each_both P (take i tokens) (k ∷ []) (each_weaker (λ (b : Kind). b.sv.0 ≤ lowest) P (λ b less. omega (arith, less, at)) (take i tokens) h.each) (omega arith, tt);
    })

module _ (m : Mission) (es : List Extension) (new : List Kind) (lowest : ℕ) where
  abbrev pub so_far : List Kind
  so_far = tokens_of es ++ new

  pub stands : (k : Kind) → AreGrouped new lowest → NoneMissing so_far (length m.vars) k.sv.0 → MayStand m so_far lowest k → KeepsOrderAt m es new k
  stands k g missing may = record {
    grouped = each_weaker (λ (b : Kind). b.sv.0 ≤ lowest) (λ (b : Kind). b.sv.0 ≤ k.sv.0) (λ b less. let at = may.grouped in omega (arith, less, at)) new g.each;
    firsts = λ v less. missing v (let there = slice_get_within m.vars k.sv.0 may.var may.is_var in omega (arith, there, less)) less;
    var = may.var;
    is_var = may.is_var;
    linked = may.linked;
  }

  pub stands_in : (k : Kind) → AreGrouped new lowest → KeepsOrderAt m es new k → MayStand m so_far lowest k
  stands_in k g h = record {
    grouped = let most = latest_most new k.sv.0 h.grouped in omega (arith, most, g.latest);
    var = h.var;
    is_var = h.is_var;
    linked = h.linked;
  }

-- why the next token may not stand is the fault of the extension
module _ (m : Mission) (es : List Extension) (e : Extension) (tokens : List Kind) (is : tokens ≡ e.tokens) (i : ℕ) (d : Kind) (lowest : ℕ) (below : i < length tokens) (g : AreGrouped (take i tokens) lowest) (kept : EachAfter (KeepsOrderAt m es) [] (take i tokens)) where
  abbrev pub next : Kind
  next = get_or tokens i d

  abbrev pub before_next : List Kind
  before_next = tokens_of es ++ take i tokens

  misplaced : (v place : ℕ) → (MayStand m before_next lowest next → ⊥) → NoneMissing before_next (length m.vars) next.sv.0 → v ≡ next.sv.0 → place ≡ size_of before_next next.sv.0 → IsMisplaced m es tokens v place
  misplaced v place broken firsts is_v is_place = record {
    before = take i tokens;
    token = next;
    first = first_break (KeepsOrderAt m es) tokens i d below kept (λ h. broken (stands_in m es (take i tokens) lowest next g h));
    firsts = firsts;
    variable = is_v;
    is_place = is_place ∙ ap (size_of before_next) (sym is_v);
  }

  missing : (v : ℕ) → v < length m.vars → timeline_of before_next v ≡ [] → ((w : ℕ) → w < v → 0 < size_of before_next w) → v < next.sv.0 → IsMissingFirst m es tokens v
  missing v there none firsts passed = record {
    before = take i tokens;
    after = next ∷ drop (suc i) tokens;
    split = slice_get-split tokens i next (slice_get-get_or tokens i d below);
    kept = kept;
    missing = record { below = there; none = λ some. let size = ap length none in omega (arith, some, size); firsts = firsts };
    passed = passed;
  }

  pub stand_fault : (f : Fault) → KeepsBefore m es e order → IsStandFault m before_next lowest next f → IsFault m es e f
  stand_fault (Order v place) before (inl b) = (before, inr (subst (λ (l : List Kind). IsMissingFirst m es l v.0) is (missing v.0 b.below b.none b.firsts b.smaller), b.is_place))
  stand_fault (Order v place) before (inr b) = (before, inl (subst (λ (l : List Kind). IsMisplaced m es l v.0 place) is (misplaced v.0 place b.broken b.firsts b.variable b.is_place)))
  stand_fault (Base g c) before b = absurd b
  stand_fault (OverLimit p t) before b = absurd b
  stand_fault (Fixed n) before b = absurd b
  stand_fault (WrongSupport n) before b = absurd b
  stand_fault (Unsupported v p n) before b = absurd b
  stand_fault (NoGoal n) before b = absurd b
  stand_fault (Cycle bs) before b = absurd b
  stand_fault NoMemoryLeft before b = absurd b

  -- the next token stands
  pub next_kept : NoneMissing before_next (length m.vars) next.sv.0 → MayStand m before_next lowest next → EachAfter (KeepsOrderAt m es) [] (take (i + 1) tokens)
  next_kept firsts may = each_more (KeepsOrderAt m es) tokens i d below kept (stands m es (take i tokens) lowest next g firsts may)

-- after all tokens none is missing, or the first one is
module _ (m : Mission) (es : List Extension) (e : Extension) (kept : EachAfter (KeepsOrderAt m es) [] e.tokens) where
  pub order_kept : ((v : ℕ) → v < length m.vars → 0 < size_of (tokens_of es ++ e.tokens) v) → KeepsOrder m es e
  order_kept h = record { each = kept; all = λ v below. subst (λ (l : List Kind). HasTokenOf l v) (sym (tokens-push es e)) (h v below) }

  pub order_missing : (v : SvId) → v.0 < length m.vars → timeline_of (tokens_of es ++ e.tokens) v.0 ≡ [] → ((w : ℕ) → w < v.0 → 0 < size_of (tokens_of es ++ e.tokens) w) → KeepsBefore m es e order → IsFault m es e (Order v 0)
  order_missing v there none firsts before = (
    before,
    inr (
      record {
        before = e.tokens;
        after = [];
        split = sym (append-nil e.tokens);
        kept = kept;
        missing = record { below = there; none = λ some. let long = ap length none in omega (arith, some, long); firsts = firsts };
        passed = tt;
      },
      refl,
    ),
  )

few_of : (tokens : List Kind) (v : ℕ) → size_of tokens v ≤ length tokens
few_of [] v = omega arith
few_of (k ∷ ks) v = elim (cases_Bool (nat_eq k.sv.0 v)) [ inl own ↦ rw own (let less = few_of ks v in omega (arith, less)) | inr other ↦ rw other (let less = few_of ks v in omega (arith, less)) ]

-- a timeline has few tokens
pub row_few : (m : Mission) (es : List Extension) (e : Extension) (tokens : List Kind) (i v : ℕ) → IsMission m → EachAfter (KeepsRules m) [] es → KeepsLimits es e → tokens ≡ e.tokens → size_of (tokens_of es ++ take i tokens) v < 2 ^ 32
row_few m es e tokens i v h rules limits is =
    let few = few_tokens m h es rules in
    let most = limits.tokens in
    let part = few_of (tokens_of es ++ take i tokens) v in
    omega (arith, few, most, part, length-append (tokens_of es) (take i tokens), length-take i tokens, ap length is)

-- also with all tokens of the extension
pub row_few_all : (m : Mission) (es : List Extension) (e : Extension) (v : ℕ) → IsMission m → EachAfter (KeepsRules m) [] es → KeepsLimits es e → size_of (tokens_of (joined es e)) v < 2 ^ 32
row_few_all m es e v h rules limits =
    let few = few_tokens m h es rules in
    let most = limits.tokens in
    let part = few_of (tokens_of (joined es e)) v in
    omega (arith, few, most, part, ap length (tokens-push es e), length-append (tokens_of es) e.tokens)
