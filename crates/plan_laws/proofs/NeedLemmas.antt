-- In a schedule of a checked plan every support keeps its relation.
use Rattle.std.proofs.Common.{◌≡◌, ℕ, zero, suc, Bool, true, List, [], ◌∷◌, ◌++◌, Option, Some, None, refl, sym, ap, ◌∙◌, subst, arith, append-nil, inl, inr}
use Rattle.std.proofs.lemmas.Int.{ints}
use Rattle.std.proofs.lemmas.Bool.{cases_Bool}
use Rattle.std.proofs.lemmas.Grind.{flat_map-append}
use Rattle.std.specs.Prelude.{slice_get, find, filter}
use Rattle.std.specs.List.{AllByRecursion}
use Rattle.hs_base.specs.declared.relation.Relation.{Relation}
use Rattle.hs_base.specs.declared.relation.Relation.TheVariants.{Before, After, Meets as MeetsStart, MetBy, Starts, Ends, Equals, Contains as Encloses, ContainedBy}
use Rattle.hs_base.specs.declared.mission.Kind.{Kind}
use Rattle.hs_base.specs.declared.mission.Choice.{Choice}
use Rattle.hs_base.specs.declared.mission.Need.{Need}
use Rattle.hs_base.specs.declared.mission.Mission.{Mission}
use Rattle.hs_base.specs.declared.plan.TokenRef.{TokenRef}
use Rattle.hs_base.specs.declared.plan.Support.{Support}
use Rattle.hs_base.specs.declared.plan.Extension.{Extension}
use Rattle.hs_base.specs.Walks.{EachAfter}
use Rattle.hs_base.specs.Schedule.{Schedule, Meets, Holds}
use Rattle.hs_base.specs.Points.{start, stop, token_at}
use Rattle.hs_base.specs.Needs.{needs_of, need_of, need_at, choice_by}
use Rattle.hs_base.specs.Bounds.{on_some, relation_bounds, new_bounds, IsScheduleOf, support_bounds}
use Rattle.hs_base.specs.Timelines.{Relates}
use Rattle.hs_base.specs.Checked.{KeepsRules, KeepsSupportAt, supports_of}
use Rattle.hs_base.proofs.RuleLemmas.{supports_kept}
use Rattle.base_laws.proofs.ListLemmas.{each_split, each_both, each_weaker, snoc_induction, EachAfter-both}
use Rattle.plan_laws.proofs.LengthLemmas.{in_range, support_part, each_extension}
use Rattle.plan_laws.proofs.GoalLemmas.{token_kept, stop_kept, begin_kept}

-- the bounds of a relation say that it holds in time
pub relates : (s : Schedule) (r : Relation) (a b x x' y y' : ℕ) → AllByRecursion (Holds s) (relation_bounds r x x' y y') → Relates r (record { value = a; from = s x; to = s x' }) (record { value = b; from = s y; to = s y' })
relates s (Before r) a b x x' y y' h = in_range s y x' r h
relates s (After r) a b x x' y y' h = in_range s x y' r h
relates s MeetsStart a b x x' y y' h = omega (arith, ints, h.0, h.1.0)
relates s MetBy a b x x' y y' h = omega (arith, ints, h.0, h.1.0)
relates s (Starts r) a b x x' y y' h = in_range s y x r h
relates s (Ends r) a b x x' y y' h = in_range s y' x' r h
relates s Equals a b x x' y y' h = (omega (arith, ints, h.0, h.1.0), omega (arith, ints, h.1.1.0, h.1.1.1.0))
relates s (Encloses r q) a b x x' y y' h = (in_range s y x r (h.0, (h.1.0, tt)), in_range s x' y' q h.1.1)
relates s (ContainedBy r q) a b x x' y y' h = (in_range s x y r (h.0, (h.1.0, tt)), in_range s y' x' q h.1.1)

-- a need that is found is one of a token
pub need_found : (m : Mission) (es : List Extension) (t : TokenRef) (i : ℕ) (n : Need) → need_at m es t i ≡ Some n → (k : Kind) × (token_at es t ≡ Some k) × (slice_get (needs_of m k) i ≡ Some n)
need_found m es t i n is = by_case (token_at es t) refl is
  where
    by_case : (o : Option Kind) → token_at es t ≡ o → need_of m o i ≡ Some n → (k : Kind) × (token_at es t ≡ Some k) × (slice_get (needs_of m k) i ≡ Some n)
    by_case None none at = absurd (cc)
    by_case (Some k) some at = (k, some, at)

-- the support's tokens are in the relation that its choice asks for
pub record ServedAt (m : Mission) (s : Schedule) (es : List Extension) (r : Support) : Type 0 where
  pub need : Need
  pub has_need : need_at m es r.token r.need ≡ Some need
  pub kind : Kind
  pub has_token : token_at es r.by ≡ Some kind
  pub choice : Choice
  pub serves : choice_by need kind ≡ Some choice
  pub holds : AllByRecursion (Holds s) (relation_bounds choice.relation (start es r.token) (stop es r.token) (start es r.by) (stop es r.by))

served_kept : (m : Mission) (s : Schedule) (before : List Extension) (e : Extension) (r : Support) → ServedAt m s before r → ServedAt m s (before ++ e ∷ []) r
served_kept m s before e r h =
    let es = before ++ e ∷ [] in
    let f = need_found m before r.token r.need h.need h.has_need in
    record {
      need = h.need;
      has_need = ap (λ o. need_of m o r.need) (token_kept before e r.token f.0 f.1) ∙ f.2;
      kind = h.kind;
      has_token = token_kept before e r.by h.kind h.has_token;
      choice = h.choice;
      serves = h.serves;
      holds =
          subst (λ (x : ℕ). AllByRecursion (Holds s) (relation_bounds h.choice.relation x (stop es r.token) (start es r.by) (stop es r.by))) (sym (begin_kept before e r.token f.0 f.1))
          (subst (λ (x : ℕ). AllByRecursion (Holds s) (relation_bounds h.choice.relation (start before r.token) x (start es r.by) (stop es r.by))) (sym (stop_kept before e r.token f.0 f.1))
          (subst (λ (x : ℕ). AllByRecursion (Holds s) (relation_bounds h.choice.relation (start before r.token) (stop before r.token) x (stop es r.by))) (sym (begin_kept before e r.by h.kind h.has_token))
          (subst (λ (x : ℕ). AllByRecursion (Holds s) (relation_bounds h.choice.relation (start before r.token) (stop before r.token) (start before r.by) x)) (sym (stop_kept before e r.by h.kind h.has_token)) h.holds)));
    }

-- the supports of one extension
served_new : (m : Mission) (s : Schedule) (before : List Extension) (e : Extension) (front rs : List Support) → EachAfter (KeepsSupportAt m before e) front rs → AllByRecursion (Holds s) (support_bounds m (before ++ e ∷ []) rs) → AllByRecursion (ServedAt m s (before ++ e ∷ [])) rs
served_new m s before e front [] rules h = tt
served_new m s before e front (r ∷ rs) rules h =
    let es = before ++ e ∷ [] in
    let g = rules.0.serving in
    let parts = each_split (Holds s) _ (support_bounds m es rs) h in
    let with_need = subst (λ (o : Option Need). AllByRecursion (Holds s) (on_some o (λ n. on_some (token_at es r.by) (λ k. on_some (choice_by n k) (λ (c : Choice). relation_bounds c.relation (start es r.token) (stop es r.token) (start es r.by) (stop es r.by)))))) g.has_need parts.0 in
    let with_token = subst (λ (o : Option Kind). AllByRecursion (Holds s) (on_some o (λ k. on_some (choice_by g.need k) (λ (c : Choice). relation_bounds c.relation (start es r.token) (stop es r.token) (start es r.by) (stop es r.by))))) g.has_token with_need in
    let with_choice = subst (λ (o : Option Choice). AllByRecursion (Holds s) (on_some o (λ (c : Choice). relation_bounds c.relation (start es r.token) (stop es r.token) (start es r.by) (stop es r.by)))) g.serves with_token in (
      record { need = g.need; has_need = g.has_need; kind = g.kind; has_token = g.has_token; choice = g.choice; serves = g.serves; holds = with_choice },
      served_new m s before e (front ++ r ∷ []) rs rules.1 parts.1,
    )

pub record AllServed (m : Mission) (s : Schedule) (es : List Extension) : Type 0 where
  pub each : AllByRecursion (ServedAt m s es) (supports_of es)

served-push : (m : Mission) (s : Schedule) (before : List Extension) (e : Extension) → KeepsRules m before e → Meets (new_bounds m before e) s → AllServed m s before → AllServed m s (before ++ e ∷ [])
served-push m s before e rules h p =
    let es = before ++ e ∷ [] in
    let more : supports_of es ≡ supports_of before ++ e.supports = flat_map-append (λ (x : Extension). x.supports) before (e ∷ []) ∙ ap (λ l. supports_of before ++ l) (append-nil e.supports) in
    let old = each_weaker (ServedAt m s before) (ServedAt m s es) (served_kept m s before e) (supports_of before) p.each in
    let new = served_new m s before e [] e.supports (supports_kept rules) (support_part m s before e h).each in
    record { each = subst (λ (l : List Support). AllByRecursion (ServedAt m s es) l) (sym more) (each_both (ServedAt m s es) (supports_of before) e.supports old new) }

none_served : (m : Mission) (s : Schedule) → AllServed m s []
none_served m s = record { each = tt }

-- all supports of a plan
pub all_served : (m : Mission) (s : Schedule) (es : List Extension) → EachAfter (KeepsRules m) [] es → IsScheduleOf m es s → AllServed m s es
all_served m s es rules h = snoc_induction (AllServed m s) (λ b e. KeepsRules m b e × Meets (new_bounds m b e) s) (λ b e r p. served-push m s b e r.0 r.1 p) [] es (none_served m s) (EachAfter-both (KeepsRules m) (λ b e. Meets (new_bounds m b e) s) [] es rules (each_extension m s [] es h))

-- what is found passes the test
pub found_passes : {X : Type 0} (p : X → Bool) (xs : List X) (x : X) → find p xs ≡ Some x → p x ≡ true
found_passes p [] x is = absurd (cc)
found_passes p (y ∷ xs) x is = elim (cases_Bool (p y)) [
  | inl here ↦
      let found : Some y ≡ Some x = rw here at is in
      let same : y ≡ x = cc in
      ap p (sym same) ∙ here
  | inr fails ↦ found_passes p xs x (rw fails at is)
]

-- and is one of the list
pub found_at : {X : Type 0} (p : X → Bool) (xs : List X) (x : X) → find p xs ≡ Some x → (j : ℕ) × (slice_get xs j ≡ Some x)
found_at p [] x is = absurd (cc)
found_at p (y ∷ xs) x is = elim (cases_Bool (p y)) [
  | inl here ↦
      let found : Some y ≡ Some x = rw here at is in
      (0, found)
  | inr fails ↦ let r = found_at p xs x (rw fails at is) in (suc r.0, r.1)
]

-- an element that passes is one of those that do
pub filter_has : {X : Type 0} (p : X → Bool) (xs : List X) (i : ℕ) (x : X) → slice_get xs i ≡ Some x → p x ≡ true → (j : ℕ) × (slice_get (filter p xs) j ≡ Some x)
filter_has p [] i x is passes = absurd (cc)
filter_has p (y ∷ xs) zero x is passes =
    let same : y ≡ x = cc in
    let here : p y ≡ true = ap p same ∙ passes in
    (0, rw here (ap Some same))
filter_has p (y ∷ xs) (suc i) x is passes =
    let r = filter_has p xs i x is passes in
    elim (cases_Bool (p y)) [ inl here ↦ (suc r.0, rw here r.1) | inr fails ↦ (r.0, rw fails r.1) ]
