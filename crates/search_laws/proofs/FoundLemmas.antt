-- A search finds one answer.
use Rattle.std.proofs.Common.{◌≡◌, ◌⊎◌, ℕ, ◌+◌, List, [], ◌∷◌, ◌++◌, length, refl, sym, ap, ◌∙◌, subst, arith, inl, inr, length-append}
use Rattle.std.specs.Prelude.{get_or}
use Rattle.search_tree.specs.Tree.{Finds, Found, NoneEnds, Preorder, budget, no_plan, plan}

module _ {N E : Type 0} (K : N → List N → Type 0) (F : N → E → Type 0) (path : N → List ℕ) (one_kids : (n : N) (xs ys : List N) → K n xs → K n ys → xs ≡ ys) (one_end : (n : N) (d e : E) → F n d → F n e → d ≡ e) where
  -- the walk ws goes on where vs ends
  record GoesOn (vs ws rest other : List N) : Type 0 where
    more : List N
    is : ws ≡ vs ++ more
    on : Preorder K rest more other

  -- of two walks through a forest one begins with the other
  one_walk : (f vs ws rest other : List N) → Preorder K f vs rest → Preorder K f ws other → GoesOn vs ws rest other ⊎ GoesOn ws vs other rest
  one_walk f [] ws rest other p q = inl (record { more = ws; is = refl; on = subst (λ g. Preorder K g ws other) p q })
  one_walk f (v ∷ vs) [] rest other p q = inr (record { more = v ∷ vs; is = refl; on = subst (λ g. Preorder K g (v ∷ vs) rest) q p })
  one_walk [] (v ∷ vs) (w ∷ ws) rest other p q = absurd p
  one_walk (n ∷ f) (v ∷ vs) (w ∷ ws) rest other p q =
      let same : v ≡ w = p.0 ∙ sym q.0 in
      let kids : p.1.0 ≡ q.1.0 = one_kids n p.1.0 q.1.0 p.1.1 q.1.1 in
      elim (one_walk (q.1.0 ++ f) vs ws rest other (subst (λ ns. Preorder K (ns ++ f) vs rest) kids p.1.2) q.1.2) [
        | inl l ↦ inl (record { more = l.more; is = ap (λ x. x ∷ ws) (sym same) ∙ ap (λ l. v ∷ l) l.is; on = l.on })
        | inr l ↦ inr (record { more = l.more; is = ap (λ x. x ∷ vs) same ∙ ap (λ l. w ∷ l) l.is; on = l.on })
      ]

  none_in : (vs ws : List N) (n : N) (e : E) → NoneEnds K F path (vs ++ n ∷ ws) → F n e → ⊥
  none_in [] ws n e h f = h.0 e f
  none_in (v ∷ vs) ws n e h f = none_in vs ws n e h.1 f

  -- the walk ws, on which no node ends the search, doesn't pass one that does
  ends_here : (vs ws rest other : List N) (n : N) (e : E) (l : GoesOn vs ws (n ∷ rest) other) → NoneEnds K F path ws → F n e → l.more ≡ []
  ends_here vs ws rest other n e l none f = by_more l.more l.is l.on
    where
      by_more : (more : List N) → ws ≡ vs ++ more → Preorder K (n ∷ rest) more other → more ≡ []
      by_more [] is on = refl
      by_more (w ∷ more) is on = absurd (none_in vs more n e (subst (λ x. NoneEnds K F path (vs ++ x ∷ more)) on.0 (subst (NoneEnds K F path) is none)) f)

  -- where nothing more is walked the same trees are left
  same_rest : (vs ws rest other : List N) (l : GoesOn vs ws rest other) → l.more ≡ [] → rest ≡ other
  same_rest vs ws rest other l none = subst (λ more. Preorder K rest more other) none l.on

  longer : (vs ws rest other : List N) (l : GoesOn vs ws rest other) → length ws ≡ length vs + length l.more
  longer vs ws rest other l = ap length l.is ∙ length-append vs l.more

  no_more : (more : List N) → length more ≡ 0 → more ≡ []
  no_more [] is = refl
  no_more (w ∷ more) is = absurd (omega (arith, is))

  -- nothing is walked of no tree
  none_walked : (more other : List N) → Preorder K [] more other → other ≡ []
  none_walked [] other on = sym on
  none_walked (w ∷ more) other on = absurd on

  first_same : (m n : N) (ms ns : List N) → m ∷ ms ≡ n ∷ ns → m ≡ n
  first_same m n ms ns e = ap (λ l. get_or l 0 m) e

  never_empty : (n : N) (ns : List N) → n ∷ ns ≡ [] → ⊥
  never_empty n ns e = omega (arith, ap length e)

  module _ (root : N) (b : ℕ) where
    plan_plan : (d e : E) → Finds K F path root b (plan d) → Finds K F path root b (plan e) → d ≡ e
    plan_plan d e p q = elim (one_walk (root ∷ []) p.0 q.0 (p.1 ∷ p.2) (q.1 ∷ q.2) p.3 q.3) [
      | inl l ↦
          let at = first_same p.1 q.1 p.2 q.2 (same_rest p.0 q.0 (p.1 ∷ p.2) (q.1 ∷ q.2) l (ends_here p.0 q.0 p.2 (q.1 ∷ q.2) p.1 d l q.4 p.5)) in
          one_end q.1 d e (subst (λ n. F n d) at p.5) q.5
      | inr l ↦
          let at = first_same q.1 p.1 q.2 p.2 (same_rest q.0 p.0 (q.1 ∷ q.2) (p.1 ∷ p.2) l (ends_here q.0 p.0 q.2 (p.1 ∷ p.2) q.1 e l p.4 q.5)) in
          one_end p.1 d e p.5 (subst (λ n. F n e) at q.5)
    ]

    plan_none : (e : E) → Finds K F path root b (plan e) → Finds K F path root b no_plan → ⊥
    plan_none e p q = elim (one_walk (root ∷ []) p.0 q.0 (p.1 ∷ p.2) [] p.3 q.1) [
      | inl l ↦ never_empty p.1 p.2 (same_rest p.0 q.0 (p.1 ∷ p.2) [] l (ends_here p.0 q.0 p.2 [] p.1 e l q.2 p.5))
      | inr l ↦ never_empty p.1 p.2 (none_walked l.more (p.1 ∷ p.2) l.on)
    ]

    plan_budget : (e : E) (at : List ℕ) → Finds K F path root b (plan e) → Finds K F path root b (budget at) → ⊥
    plan_budget e at p q = elim (one_walk (root ∷ []) p.0 q.0 (p.1 ∷ p.2) (q.1 ∷ q.2) p.3 q.3) [
      | inl l ↦ omega (arith, longer p.0 q.0 (p.1 ∷ p.2) (q.1 ∷ q.2) l, ap length (ends_here p.0 q.0 p.2 (q.1 ∷ q.2) p.1 e l q.4 p.5), p.6, q.5)
      | inr l ↦ omega (arith, longer q.0 p.0 (q.1 ∷ q.2) (p.1 ∷ p.2) l, p.6, q.5)
    ]

    none_budget : (at : List ℕ) → Finds K F path root b no_plan → Finds K F path root b (budget at) → ⊥
    none_budget at p q = elim (one_walk (root ∷ []) p.0 q.0 [] (q.1 ∷ q.2) p.1 q.3) [
      | inl l ↦ never_empty q.1 q.2 (none_walked l.more (q.1 ∷ q.2) l.on)
      | inr l ↦
          let none = no_more l.more (omega (arith, longer q.0 p.0 (q.1 ∷ q.2) [] l, p.3, q.5)) in
          never_empty q.1 q.2 (same_rest q.0 p.0 (q.1 ∷ q.2) [] l none)
    ]

    budget_budget : (at to : List ℕ) → Finds K F path root b (budget at) → Finds K F path root b (budget to) → at ≡ to
    budget_budget at to p q = elim (one_walk (root ∷ []) p.0 q.0 (p.1 ∷ p.2) (q.1 ∷ q.2) p.3 q.3) [
      | inl l ↦
          let none = no_more l.more (omega (arith, longer p.0 q.0 (p.1 ∷ p.2) (q.1 ∷ q.2) l, p.5, q.5)) in
          p.6 ∙ ap path (first_same p.1 q.1 p.2 q.2 (same_rest p.0 q.0 (p.1 ∷ p.2) (q.1 ∷ q.2) l none)) ∙ sym q.6
      | inr l ↦
          let none = no_more l.more (omega (arith, longer q.0 p.0 (q.1 ∷ q.2) (p.1 ∷ p.2) l, p.5, q.5)) in
          p.6 ∙ ap path (sym (first_same q.1 p.1 q.2 p.2 (same_rest q.0 p.0 (q.1 ∷ q.2) (p.1 ∷ p.2) l none))) ∙ sym q.6
    ]

    pub finds_one : (f g : Found E) → Finds K F path root b f → Finds K F path root b g → f ≡ g
    finds_one (plan d) (plan e) p q = ap (λ x. plan x) (plan_plan d e p q)
    finds_one (plan d) no_plan p q = absurd (plan_none d p q)
    finds_one (plan d) (budget to) p q = absurd (plan_budget d to p q)
    finds_one no_plan (plan e) p q = absurd (plan_none e q p)
    finds_one no_plan no_plan p q = refl
    finds_one no_plan (budget to) p q = absurd (none_budget to p q)
    finds_one (budget at) (plan e) p q = absurd (plan_budget e at q p)
    finds_one (budget at) no_plan p q = absurd (none_budget at q p)
    finds_one (budget at) (budget to) p q = ap (λ x. budget x) (budget_budget at to p q)
