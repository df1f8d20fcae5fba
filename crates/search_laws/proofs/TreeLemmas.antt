-- Every node of a search's tree is made by parts that were allowed, so that each plan that is found is checked.
use Rattle.std.proofs.Common.{◌≡◌, ◌⊎◌, ℕ, ℤ, ◌+◌, ◌<◌, false, List, [], ◌∷◌, ◌++◌, length, slice_get, Some, refl, sym, ap, ◌∙◌, subst, inl, inr}
use Rattle.std.proofs.lemmas.Bool.{false≢true}
use Rattle.std.proofs.lemmas.Option.{slice_get-map}
use Rattle.std.specs.List.{AllByRecursion}
use Rattle.std.specs.Prelude.{option_map}
use Rattle.hs_base.specs.Checked.{Checked, joined}
use Rattle.hs_base.specs.Schedule.{numbers_from}
use Rattle.hs_base.specs.declared.mission.Mission.{Mission}
use Rattle.hs_base.specs.declared.plan.Extension.{Extension}
use Rattle.hs_base.specs.declared.plan.Time.{Time}
use Rattle.plan_laws.proofs.LengthLemmas.{number_at}
use Rattle.search_laws.proofs.AllowedLemmas.{parts_allowed}
use Rattle.search_laws.proofs.FlawLemmas.{flaw_is}
use Rattle.search_laws.proofs.GoodLemmas.{good_all, good_root}
use Rattle.search_laws.proofs.HasLemmas.{Has}
use Rattle.search_laws.proofs.LawfulLemmas.{lawful_all, root_lawful}
use Rattle.search_laws.proofs.ResolverLemmas.{resolver_is, resolvers_within}
use Rattle.search_laws.proofs.RulesLemmas.{plan_checked}
use Rattle.search_laws.proofs.TokenLemmas.{within_all}
use Rattle.search_laws.proofs.WalkLemmas.{finds_same, finds_same_at, walk_keeps}
use Rattle.search_laws.specs.Good.{AreAllowed, IsGood}
use Rattle.search_laws.specs.Lawful.{IsLawful, IsWithin}
use Rattle.search_tree.proofs.PlanOfNode.{each_flat_map_from, row_done, zero_plus}
use Rattle.search_tree.specs.Begun.{Begun}
use Rattle.search_tree.specs.Flaws.{flat_map_from, flaws}
use Rattle.search_tree.specs.Outset.{MayBegin}
use Rattle.search_tree.specs.Partial.{Partial, Row, begin, first_row}
use Rattle.search_tree.specs.PartialBounds.{HasSchedule}
use Rattle.search_tree.specs.Resolvers.{parts_of, resolve, resolvers}
use Rattle.search_tree.specs.Search.{FindsPlan, FindsPlanAt, FindsWhere, FindsWhereAt, IsFinished, IsTaken, Kids, Node, offspring, root}
use Rattle.search_tree.specs.Tree.{Found, Preorder, plan}
use Rattle.search_tree.specs.declared.flaw.Flaw.{Flaw}
use Rattle.search_tree.specs.declared.flaw.Resolver.{Resolver}

-- the parts of a resolver of a flaw may be done
pub resolver_allowed : (m : Mission) (b : Begun) (p : Partial) (f : Flaw) (r : Resolver) → MayBegin m b → IsGood m b p → Has (flaws m b p) f → Has (resolvers m b p f) r → AreAllowed m b p (parts_of p f r)
resolver_allowed m b p f r may good flaw has = parts_allowed m b p may.checked.mission good.sound f r (flaw_is m b p f flaw) (resolver_is m b p f r (resolvers_within m b p f r has).1)

-- where a search begins each timeline is open
root_open : (m : Mission) (b : Begun) (v : ℕ) → v < length m.vars → (r : Row) × (slice_get (begin m b).rows v ≡ Some r) × (r.finished ≡ false)
root_open m b v below = (first_row m b v, slice_get-map (first_row m b) (numbers_from 0 (length m.vars)) v ∙ ap (option_map (first_row m b)) (number_at 0 (length m.vars) v below ∙ ap Some (zero_plus v)), by b.base b.since b.fixed)
  where
    by : (base : List Extension) (since : ℤ) (fixed : List Time) → (first_row m (record { base = base; since = since; fixed = fixed }) v).finished ≡ false
    by [] since fixed = refl
    by (e ∷ es) since fixed = refl

-- and so it has a flaw
root_flawed : (m : Mission) (b : Begun) → MayBegin m b → HasSchedule m b (begin m b) → flaws m b (begin m b) ≡ [] → ⊥
root_flawed m b may has flawless =
    let r = root_open m b 0 may.checked.mission.some_vars in
    let done = (row_done m b (begin m b) has.schedule (good_root m b may).sound flawless has.meets 0 r.0 r.1).0 in
    false≢true (sym r.2 ∙ done)

-- the parts of a node were allowed, and but for the root it is within the limits
pub record IsMade (m : Mission) (b : Begun) (n : Node) : Type 0 where
  pub good : IsGood m b n.plan
  pub lawful : IsLawful m b n.plan
  pub within : (n.plan ≡ begin m b) ⊎ IsWithin b n.plan

module _ (m : Mission) (b : Begun) (may : MayBegin m b) where
  pub root_made : IsMade m b (root m b)
  root_made = record { good = good_root m b may; lawful = root_lawful m b may; within = inl refl }

  pub child_made : (n : Node) (f : Flaw) (r : Resolver) (path : List ℕ) → IsMade m b n → Has (flaws m b n.plan) f → Has (resolvers m b n.plan f) r → IsMade m b (record { path = path; plan = resolve n.plan f r })
  child_made n f r path h flaw has =
      let parts = parts_of n.plan f r in
      let allowed = resolver_allowed m b n.plan f r may h.good flaw has in
      record {
        good = good_all m b n.plan parts allowed h.good;
        lawful = lawful_all m b n.plan parts allowed h.good h.lawful;
        within = inr (within_all m b n.plan parts allowed (resolvers_within m b n.plan f r has).0);
      }

  offspring_made : (n : Node) → IsMade m b n → AllByRecursion (IsMade m b) (offspring m b n)
  offspring_made n h = by (flaws m b n.plan) refl
    where
      by : (fs : List Flaw) → flaws m b n.plan ≡ fs → AllByRecursion (IsMade m b) (elim fs [ [] ↦ [] | (f ∷ fs) ↦ flat_map_from (λ i r. record { path = n.path ++ i ∷ []; plan = resolve n.plan f r } ∷ []) 0 (resolvers m b n.plan f) ])
      by [] is = tt
      by (f ∷ fs) is = each_flat_map_from (IsMade m b) (λ i r. record { path = n.path ++ i ∷ []; plan = resolve n.plan f r } ∷ []) 0 (resolvers m b n.plan f) (λ i r at. (child_made n f r (n.path ++ (0 + i) ∷ []) h (0, ap (λ l. slice_get l 0) is) (i, at), tt))

  pub kids_made : (n : Node) (ns : List Node) → IsMade m b n → Kids m b n ns → AllByRecursion (IsMade m b) ns
  kids_made n ns h (inl k) = subst (AllByRecursion (IsMade m b)) (sym k.1) (offspring_made n h)
  kids_made n ns h (inr k) = subst (AllByRecursion (IsMade m b)) (sym k.1) tt

  -- each node of a walk
  pub walk_made : (vs rest : List Node) → Preorder (Kids m b) (root m b ∷ []) vs rest → AllByRecursion (IsMade m b) vs × AllByRecursion (IsMade m b) rest
  walk_made vs rest walk = walk_keeps (Kids m b) (IsMade m b) kids_made (root m b ∷ []) vs rest walk (root_made, tt)

  -- a finished node's plan is checked
  pub finished_checked : (n : Node) (e : Extension) → IsMade m b n → IsFinished m b n e → Checked m (joined b.base e)
  finished_checked n e h f = subst (λ e. Checked m (joined b.base e)) (sym f.is) (elim h.within [
    | inl first ↦ absurd (root_flawed m b may (subst (HasSchedule m b) first f.schedule) (ap (flaws m b) (sym first) ∙ f.flawless))
    | inr within ↦ plan_checked m b n.plan f.schedule.schedule may h.good h.lawful within f.flawless f.schedule.meets
  ])

  pub found_checked : (limit : ℕ) (e : Extension) → FindsPlan m b limit (plan e) → Checked m (joined b.base e)
  found_checked limit e f = finished_checked f.1 e (walk_made f.0 (f.1 ∷ f.2) f.3).1.0 f.5

  pub found_where_checked : (takes : Mission → List Extension → Type 0) (limit : ℕ) (e : Extension) → FindsWhere takes m b limit (plan e) → Checked m (joined b.base e)
  found_where_checked takes limit e f = finished_checked f.1 e (walk_made f.0 (f.1 ∷ f.2) f.3).1.0 f.5.finished

module _ (m : Mission) (b : Begun) where
  -- where every plan is taken, a search of plans that are taken is a search of plans
  pub all_taken : (takes : Mission → List Extension → Type 0) → ((es : List Extension) → takes m es) → (limit : ℕ) (found : Found Extension) → FindsPlan m b limit found → FindsWhere takes m b limit found
  all_taken takes all limit found f = finds_same (Kids m b) (IsFinished m b) (IsTaken takes m b) (λ n. n.path) (λ n e h. record { finished = h; taken = all (joined b.base e) }) (λ n e h. h.finished) (root m b) limit found f

  pub none_left_out : (takes : Mission → List Extension → Type 0) → ((es : List Extension) → takes m es) → (limit : ℕ) (found : Found Extension) → FindsWhere takes m b limit found → FindsPlan m b limit found
  none_left_out takes all limit found f = finds_same (Kids m b) (IsTaken takes m b) (IsFinished m b) (λ n. n.path) (λ n e h. h.finished) (λ n e h. record { finished = h; taken = all (joined b.base e) }) (root m b) limit found f

  pub none_left_out_at : (takes : Mission → List Extension → Type 0) → ((es : List Extension) → takes m es) → (nodes : ℕ) (found : Found Extension) → FindsWhereAt takes m b nodes found → FindsPlanAt m b nodes found
  none_left_out_at takes all nodes found f = finds_same_at (Kids m b) (IsTaken takes m b) (IsFinished m b) (λ n. n.path) (λ n e h. h.finished) (λ n e h. record { finished = h; taken = all (joined b.base e) }) (root m b) nodes found f
