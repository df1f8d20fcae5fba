-- The laws of dominance, in the words of the definitions.
use Rattle.std.proofs.Common.{◌≡◌, ◌≢◌, ℕ, true, false, List, refl, pos}
use Rattle.std.proofs.lemmas.Bool.{false_from_ne_true}
use Rattle.std.specs.Prelude.{◌≤ℤ◌, ◌<ℤ◌, Contains}
use Rattle.hs_base.specs.declared.net.Bound.{Bound}
use Rattle.hs_base.specs.Schedule.{bound}
use Rattle.hs_base.specs.Reduced.{Table, IsTableOf, leaders, is_between, between, dominates, edges_of}
use Rattle.net_laws.proofs.BetweenLemmas.{Web, dominates_from, dominates_to, through_from, from_through, through_first, through_last}
use Rattle.net_laws.proofs.KeptLemmas.{upper_transitive, lower_transitive, dominated_by_kept}
use Rattle.net_laws.proofs.ListLemmas.{has_from, contains_from, has_filter, filter_has}
use Rattle.net_laws.proofs.GroupLemmas.{leaders_web}
use Rattle.net_laws.proofs.ExactLemmas.{table_of, edge_has}

pub irreflexive : (d : Table) (a e : ℕ) → (dominates d a e a ≡ false) × (dominates d a e e ≡ false)
irreflexive d a e = (false_from_ne_true _ (λ h. (dominates_from d a e a h).first refl), false_from_ne_true _ (λ h. (dominates_from d a e e h).last refl))

module _ (c : ℕ) (k : List Bound) (d : Table) where
  web : IsTableOf c k d → Web d (leaders c d)
  web is = leaders_web c d (table_of c k d is)

  pub nested_first : (a e b x : ℕ) → IsTableOf c k d → Contains (leaders c d) a → Contains (leaders c d) e → Contains (between d (leaders c d) a e) b → b ≢ e → Contains (between d (leaders c d) a b) x → Contains (between d (leaders c d) a e) x × (x ≢ e)
  nested_first a e b x is ia ie ib apart ix =
      let hb = has_filter (is_between d a e) (leaders c d) b (has_from (between d (leaders c d) a e) b ib) in
      let hx = has_filter (is_between d a b) (leaders c d) x (has_from (between d (leaders c d) a b) x ix) in
      let r = through_first d (leaders c d) (web is) a e b x (has_from (leaders c d) a ia) (has_from (leaders c d) e ie) hb.0 hx.0 apart (through_from d a e b hb.1) (through_from d a b x hx.1) in
      (contains_from (between d (leaders c d) a e) x (filter_has (is_between d a e) (leaders c d) x hx.0 (from_through d a e x r.0)), r.1)

  pub nested_last : (a e b x : ℕ) → IsTableOf c k d → Contains (leaders c d) a → Contains (leaders c d) e → Contains (between d (leaders c d) a e) b → a ≢ b → Contains (between d (leaders c d) b e) x → Contains (between d (leaders c d) a e) x × (a ≢ x)
  nested_last a e b x is ia ie ib apart ix =
      let hb = has_filter (is_between d a e) (leaders c d) b (has_from (between d (leaders c d) a e) b ib) in
      let hx = has_filter (is_between d b e) (leaders c d) x (has_from (between d (leaders c d) b e) x ix) in
      let r = through_last d (leaders c d) (web is) a e b x (has_from (leaders c d) a ia) (has_from (leaders c d) e ie) hb.0 hx.0 apart (through_from d a e b hb.1) (through_from d b e x hx.1) in
      (contains_from (between d (leaders c d) a e) x (filter_has (is_between d a e) (leaders c d) x hx.0 (from_through d a e x r.0)), r.1)

  pub upper : (a e b p : ℕ) → IsTableOf c k d → Contains (leaders c d) a → Contains (leaders c d) e → Contains (leaders c d) b → Contains (leaders c d) p → pos 0 ≤ℤ d a e → dominates d a e b ≡ true → dominates d b e p ≡ true → dominates d a e p ≡ true
  upper a e b p is ia ie ib ip sign h l = dominates_to d a e p (upper_transitive d (leaders c d) (web is) a e b p (has_from _ a ia) (has_from _ e ie) (has_from _ b ib) (has_from _ p ip) sign (dominates_from d a e b h) (dominates_from d b e p l))

  pub lower : (a e b p : ℕ) → IsTableOf c k d → Contains (leaders c d) a → Contains (leaders c d) e → Contains (leaders c d) b → Contains (leaders c d) p → d a e <ℤ pos 0 → dominates d a e b ≡ true → dominates d a b p ≡ true → dominates d a e p ≡ true
  lower a e b p is ia ie ib ip sign h l = dominates_to d a e p (lower_transitive d (leaders c d) (web is) a e b p (has_from _ a ia) (has_from _ e ie) (has_from _ b ib) (has_from _ p ip) sign (dominates_from d a e b h) (dominates_from d a b p l))

  pub kept_upper : (a e b : ℕ) → IsTableOf c k d → Contains (leaders c d) a → Contains (leaders c d) e → Contains (leaders c d) b → pos 0 ≤ℤ d a e → dominates d a e b ≡ true → (p : ℕ) × (dominates d a e p ≡ true) × Contains (edges_of d (leaders c d)) (bound p e (d p e))
  kept_upper a e b is ia ie ib sign h =
      let r = dominated_by_kept d (leaders c d) (web is) a e b (has_from _ a ia) (has_from _ e ie) (has_from _ b ib) (dominates_from d a e b h) in
      (r.0, dominates_to d a e r.0 r.2, contains_from _ _ (edge_has d (leaders c d) r.0 e r.1 (has_from _ e ie) (r.3.0 sign)))

  pub kept_lower : (a e b : ℕ) → IsTableOf c k d → Contains (leaders c d) a → Contains (leaders c d) e → Contains (leaders c d) b → d a e <ℤ pos 0 → dominates d a e b ≡ true → (p : ℕ) × (dominates d a e p ≡ true) × Contains (edges_of d (leaders c d)) (bound a p (d a p))
  kept_lower a e b is ia ie ib sign h =
      let r = dominated_by_kept d (leaders c d) (web is) a e b (has_from _ a ia) (has_from _ e ie) (has_from _ b ib) (dominates_from d a e b h) in
      (r.0, dominates_to d a e r.0 r.2, contains_from _ _ (edge_has d (leaders c d) a r.0 (has_from _ a ia) r.1 (r.3.1 sign)))
