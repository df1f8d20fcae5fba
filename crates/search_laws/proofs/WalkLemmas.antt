-- Walks through trees in preorder.
use Rattle.std.proofs.Common.{◌≡◌, ◌+◌, ◌<◌, ℕ, zero, suc, List, [], ◌∷◌, ◌++◌, length, refl, sym, ap, subst, arith, inl, inr}
use Rattle.std.proofs.lemmas.Bool.{cases_lt}
use Rattle.std.specs.List.{AllByRecursion}
use Rattle.base_laws.proofs.ListLemmas.{each_both, each_weaker}
use Rattle.search_tree.specs.Tree.{Finds, FindsAt, Found, NoneEnds, Preorder, budget, no_plan, plan}

-- one more node in preorder
pub preorder_more : {N : Type 0} (K : N → List N → Type 0) (f vs rest : List N) (n : N) (ns : List N) → Preorder K f vs (n ∷ rest) → K n ns → Preorder K f (vs ++ n ∷ []) (ns ++ rest)
preorder_more K f [] rest n ns p k = subst (λ f. Preorder K f (n ∷ []) (ns ++ rest)) (sym p) (refl, (ns, k, refl))
preorder_more K [] (v ∷ vs) rest n ns p k = absurd p
preorder_more K (x ∷ f) (v ∷ vs) rest n ns p k = (p.0, (p.1.0, p.1.1, preorder_more K (p.1.0 ++ f) vs rest n ns p.1.2 k))

-- what children have from their parents holds of all nodes of a walk
module _ {N : Type 0} (K : N → List N → Type 0) (P : N → Type 0) (keeps : (n : N) (ns : List N) → P n → K n ns → AllByRecursion P ns) where
  pub walk_keeps : (f vs rest : List N) → Preorder K f vs rest → AllByRecursion P f → AllByRecursion P vs × AllByRecursion P rest
  walk_keeps f [] rest p h = (tt, subst (AllByRecursion P) p h)
  walk_keeps [] (v ∷ vs) rest p h = absurd p
  walk_keeps (n ∷ f) (v ∷ vs) rest p h =
      let r = walk_keeps (p.1.0 ++ f) vs rest p.1.2 (each_both P p.1.0 f (keeps n p.1.0 h.0 p.1.1) h.1) in
      ((subst P (sym p.0) h.0, r.0), r.1)

-- a search whose ends are the same finds the same
module _ {N E : Type 0} (K : N → List N → Type 0) (F G : N → E → Type 0) (path : N → List ℕ) where
  none_same : ((n : N) (e : E) → G n e → F n e) → (vs : List N) → NoneEnds K F path vs → NoneEnds K G path vs
  none_same back vs h = each_weaker (λ n. (e : E) → F n e → ⊥) (λ n. (e : E) → G n e → ⊥) (λ n f e g. f e (back n e g)) vs h

  pub finds_same : ((n : N) (e : E) → F n e → G n e) → ((n : N) (e : E) → G n e → F n e) → (root : N) (b : ℕ) (found : Found E) → Finds K F path root b found → Finds K G path root b found
  finds_same to back root b (plan e) h = (h.0, h.1, h.2, h.3, none_same back h.0 h.4, to h.1 e h.5, h.6)
  finds_same to back root b no_plan h = (h.0, h.1, none_same back h.0 h.2, h.3)
  finds_same to back root b (budget p) h = (h.0, h.1, h.2, h.3, none_same back h.0 h.4, h.5, h.6)

  pub finds_same_at : ((n : N) (e : E) → F n e → G n e) → ((n : N) (e : E) → G n e → F n e) → (root : N) (nodes : ℕ) (found : Found E) → FindsAt K F path root nodes found → FindsAt K G path root nodes found
  finds_same_at to back root nodes found h = (
    finds_same to back root nodes found h.0,
    λ fewer below. let r = h.1 fewer below in (r.0, finds_same to back root fewer (budget r.0) r.1),
  )

module _ {N E : Type 0} (K : N → List N → Type 0) (F : N → E → Type 0) (path : N → List ℕ) where
  -- the front part of a walk
  walk_front : (f vs rest : List N) (k : ℕ) → Preorder K f vs rest → NoneEnds K F path vs → k < length vs → (ws : List N) × (n : N) × (more : List N) × Preorder K f ws (n ∷ more) × NoneEnds K F path ws × (length ws ≡ k)
  walk_front f [] rest k p none below = absurd (omega arith)
  walk_front [] (v ∷ vs) rest k p none below = absurd p
  walk_front (n ∷ f) (v ∷ vs) rest zero p none below = ([], n, f, refl, tt, refl)
  walk_front (n ∷ f) (v ∷ vs) rest (suc k) p none below =
      let r = walk_front (p.1.0 ++ f) vs rest k p.1.2 none.1 (omega arith) in
      (v ∷ r.0, r.1, r.2, (p.0, (p.1.0, p.1.1, r.3)), (none.0, r.4), ap suc r.5)

  module _ (root : N) (vs rest : List N) (p : Preorder K (root ∷ []) vs rest) (none : NoneEnds K F path vs) where
    -- with fewer nodes the budget ends on the walk
    ends_before : (fewer : ℕ) → fewer < length vs → (at : List ℕ) × Finds K F path root fewer (budget at)
    ends_before fewer below =
        let r = walk_front (root ∷ []) vs rest fewer p none below in
        (path r.1, (r.0, r.1, r.2, r.3, r.4, r.5, refl))

    -- the walk leads to the end of a budget, or through the whole tree
    pub leads_to_budget : (n : N) (more : List N) → rest ≡ n ∷ more → FindsAt K F path root (length vs) (budget (path n))
    leads_to_budget n more is = ((vs, n, more, subst (Preorder K (root ∷ []) vs) is p, none, refl, refl), ends_before)

    pub leads_to_none : rest ≡ [] → FindsAt K F path root (length vs) no_plan
    leads_to_none is = ((vs, subst (Preorder K (root ∷ []) vs) is p, none, omega arith), ends_before)

    -- its next node ends the search
    pub leads_to_plan : (n : N) (more : List N) (e : E) → rest ≡ n ∷ more → F n e → FindsAt K F path root (length vs + 1) (plan e)
    leads_to_plan n more e is ends = (
      (vs, n, more, subst (Preorder K (root ∷ []) vs) is p, none, ends, omega arith),
      λ fewer below. elim (cases_lt fewer (length vs)) [
        | inl on ↦ ends_before fewer on
        | inr all ↦
            let same : length vs ≡ fewer = omega arith in
            (path n, (vs, n, more, subst (Preorder K (root ∷ []) vs) is p, none, same, refl))
      ],
    )
