-- The supports of a partial plan without flaw keep the rules of supports.
use Rattle.std.proofs.Common.{◌≡◌, ℕ, ◌+◌, ◌≤◌, true, Bool, List, [], ◌∷◌, filter, flat_map, length, slice_get, Option, Some, nat_eq, ◌&&◌, refl, sym, ap, ◌∙◌, subst, inl, inr}
use Rattle.std.proofs.lemmas.Bool.{and_parts, eqb-true}
use Rattle.std.proofs.lemmas.Option.{slice_get-map}
use Rattle.std.specs.List.{AllByRecursion}
use Rattle.std.specs.Prelude.{option_map, ⊤}
use Rattle.hs_base.specs.Checked.{IsNeedBefore, IsSameNeed, IsServing, KeepsSupportAt, KeepsSupports, supports_of}
use Rattle.hs_base.specs.Needs.{need_of, needs_of}
use Rattle.hs_base.specs.Points.{stop, token_at}
use Rattle.hs_base.specs.Schedule.{Meets, Schedule, numbers_from}
use Rattle.hs_base.specs.declared.mission.Kind.{Kind}
use Rattle.hs_base.specs.declared.mission.Mission.{Mission}
use Rattle.hs_base.specs.declared.plan.Extension.{Extension}
use Rattle.hs_base.specs.declared.plan.Support.{Support}
use Rattle.hs_base.specs.declared.plan.TokenRef.{TokenRef}
use Rattle.base_laws.proofs.ListLemmas.{each_at, each_weaker}
use Rattle.search_laws.proofs.GivenLemmas.{IsGiven, given_support}
use Rattle.search_laws.proofs.RiseLemmas.{EachAfter-weaker, Rises, after_from, rises_by_number, rises_by_place, rises_filter, rises_from}
use Rattle.search_laws.specs.Good.{IsGood}
use Rattle.search_laws.specs.Lawful.{AreForOthers, IsBacking, IsForNew, IsLawful}
use Rattle.search_tree.proofs.CellLemmas.{each_from_at, given_cell}
use Rattle.search_tree.proofs.NodeLemmas.{timeline_is, whole_plan}
use Rattle.search_tree.proofs.PlanOfNode.{each_filter, each_flat_map_from, each_two, refers, zero_plus}
use Rattle.search_tree.proofs.RootLemmas.{each_flat_map, each_number}
use Rattle.search_tree.specs.Begun.{Begun}
use Rattle.search_tree.specs.Extends.{extension, ref_of, supports_at}
use Rattle.search_tree.specs.Flaws.{flat_map_from, flaws}
use Rattle.search_tree.specs.Outset.{MayBegin}
use Rattle.search_tree.specs.Partial.{Partial, Row, at, cells}
use Rattle.search_tree.specs.PartialBounds.{partial_bounds}
use Rattle.search_tree.specs.Sound.{IsIn}
use Rattle.search_tree.specs.declared.backing.Backing.{Backing}
use Rattle.search_tree.specs.declared.held.Cell.{Cell}
use Rattle.search_tree.specs.declared.held.Held.{Held}

abbrev pub named : Partial → ℕ → ℕ → ℕ → Backing → Support
named p v i j s = record { token = at v i; need = j; by = ref_of p s.by }

abbrev pub is_of : Cell → ℕ → Backing → Bool
is_of c j s = nat_eq s.token.stop c.held.stop && nat_eq s.need j

-- supports of one need are at most one
at_most_one : {Y : Type 0} (R : Y → Y → Type 0) (f : Backing → Y) (x j : ℕ) (ys : List Backing) → Rises AreForOthers ys → AllByRecursion (λ (s : Backing). (s.token.stop ≡ x) × (s.need ≡ j)) ys → Rises R (flat_map (λ s. f s ∷ []) ys)
at_most_one R f x j [] h g = tt
at_most_one R f x j (s ∷ []) h g = (tt, tt)
at_most_one R f x j (s ∷ r ∷ ys) h g = absurd (h.0.0 (g.0.0 ∙ sym g.1.0.0) (g.0.1 ∙ sym g.1.0.1))

-- the support's token is named before the other's, or it is the same token and an earlier need
abbrev pub RisesTo : Support → Support → Type 0
RisesTo r s = IsNeedBefore r.token r.need s.token s.need

module _ (m : Mission) (b : Begun) (p : Partial) (lawful : IsLawful m b p) where
  rising_at : (v i : ℕ) (c : Cell) → Rises RisesTo (supports_at m p v i c) × AllByRecursion (λ (s : Support). ((s.token.sv.0 ≡ v) × (s.token.place ≡ i)) × (0 ≤ s.need)) (supports_at m p v i c)
  rising_at v i c = rises_by_number RisesTo (λ (s : Support). (s.token.sv.0 ≡ v) × (s.token.place ≡ i)) (λ s. s.need) (λ s r h g l. inr (h.0 ∙ sym g.0, inr (h.1 ∙ sym g.1, l))) (λ j. flat_map (λ (s : Backing). named p v i j s ∷ []) (filter (is_of c j) p.supports)) 0 (length (needs_of m c.held.kind)) (λ j.
      let ys = filter (is_of c j) p.supports in
      let all = each_weaker (λ (s : Backing). ⊤ × (is_of c j s ≡ true)) (λ (s : Backing). (s.token.stop ≡ c.held.stop) × (s.need ≡ j)) (λ s k. let q = and_parts (nat_eq s.token.stop c.held.stop) (nat_eq s.need j) k.1 in (eqb-true _ _ q.0, eqb-true _ _ q.1)) ys (each_filter (λ (s : Backing). ⊤) (is_of c j) p.supports (each_from_at (λ (s : Backing). ⊤) p.supports (λ k s is. tt))) in (
        at_most_one RisesTo (named p v i j) c.held.stop j ys (rises_filter AreForOthers (is_of c j) p.supports (rises_from AreForOthers p.supports lawful.apart)) all,
        each_flat_map (λ (s : Support). ((s.token.sv.0 ≡ v) × (s.token.place ≡ i)) × (s.need ≡ j)) (λ (s : Backing). named p v i j s ∷ []) ys (each_from_at (λ (s : Backing). AllByRecursion (λ (s : Support). ((s.token.sv.0 ≡ v) × (s.token.place ≡ i)) × (s.need ≡ j)) (named p v i j s ∷ [])) ys (λ k s is. (((refl, refl), refl), tt))),
      ))

  -- they rise by token and need
  pub supports_rise : Rises RisesTo (extension m b p).supports
  supports_rise = (rises_by_place RisesTo (λ s. ⊤) (λ s. s.token.sv.0) (λ s r h g l. inl l) (λ v (r : Row). flat_map_from (supports_at m p v) 0 (cells r)) 0 p.rows (λ v r is.
      let inner = rises_by_place RisesTo (λ (s : Support). s.token.sv.0 ≡ 0 + v) (λ s. s.token.place) (λ s r h g l. inr (h ∙ sym g, inl l)) (supports_at m p (0 + v)) 0 (cells r) (λ i c here.
      let k = rising_at (0 + v) (0 + i) c in
      (k.0, each_weaker (λ (s : Support). ((s.token.sv.0 ≡ 0 + v) × (s.token.place ≡ 0 + i)) × (0 ≤ s.need)) (λ (s : Support). (s.token.sv.0 ≡ 0 + v) × (s.token.place ≡ 0 + i)) (λ s q. q.0) (supports_at m p (0 + v) (0 + i) c) k.1)) in
      (inner.0, each_weaker (λ (s : Support). (s.token.sv.0 ≡ 0 + v) × (0 ≤ s.token.place)) (λ (s : Support). ⊤ × (s.token.sv.0 ≡ 0 + v)) (λ s q. (tt, q.0)) (flat_map_from (supports_at m p (0 + v)) 0 (cells r)) inner.1))).0

  -- what holds of each support by its token's place
  pub each_support : (P : Support → Type 0) → ((v i j : ℕ) (r : Row) (c : Cell) (s : Backing) → slice_get p.rows v ≡ Some r → slice_get (cells r) i ≡ Some c → slice_get p.supports j ≡ Some s → s.token.stop ≡ c.held.stop → P (named p v i s.need s)) → AllByRecursion P (extension m b p).supports
  each_support P h =
      each_flat_map_from P (λ v (r : Row). flat_map_from (supports_at m p v) 0 (cells r)) 0 p.rows (λ v r is.
      each_flat_map_from P (supports_at m p (0 + v)) 0 (cells r) (λ i c here.
      each_flat_map P (λ j. flat_map (λ (s : Backing). named p (0 + v) (0 + i) j s ∷ []) (filter (is_of c j) p.supports)) (numbers_from 0 (length (needs_of m c.held.kind)))
      (each_number (λ j. AllByRecursion P (flat_map (λ (s : Backing). named p (0 + v) (0 + i) j s ∷ []) (filter (is_of c j) p.supports))) 0 (length (needs_of m c.held.kind)) (λ j low high.
      each_flat_map P (λ (s : Backing). named p (0 + v) (0 + i) j s ∷ []) (filter (is_of c j) p.supports)
      (each_weaker (λ (s : Backing). ((k : ℕ) × (slice_get p.supports k ≡ Some s)) × (is_of c j s ≡ true)) (λ (s : Backing). AllByRecursion P (named p (0 + v) (0 + i) j s ∷ []))
      (λ (s : Backing) (q : ((k : ℕ) × (slice_get p.supports k ≡ Some s)) × (is_of c j s ≡ true)).
      let parts = and_parts (nat_eq s.token.stop c.held.stop) (nat_eq s.need j) q.1 in
      let which : s.need ≡ j = eqb-true _ _ parts.1 in
      let good = h v i q.0.0 r c s is here q.0.1 (eqb-true _ _ parts.0) in
      (subst (λ n. P (named p n (0 + i) j s)) (sym (zero_plus v)) (subst (λ n. P (named p v n j s)) (sym (zero_plus i)) (subst (λ n. P (named p v i n s)) which good)), tt))
      (filter (is_of c j) p.supports)
      (each_filter (λ (s : Backing). (k : ℕ) × (slice_get p.supports k ≡ Some s)) (is_of c j) p.supports (each_from_at (λ (s : Backing). (k : ℕ) × (slice_get p.supports k ≡ Some s)) p.supports (λ k s at_k. (k, at_k)))))))))

module _ (m : Mission) (b : Begun) (p : Partial) (t : Schedule) (may : MayBegin m b) (good : IsGood m b p) (lawful : IsLawful m b p) (flawless : flaws m b p ≡ []) (meets : Meets (partial_bounds m b p) t) where
  abbrev pub es : List Extension
  es = whole_plan m b p

  -- the kind of the token that a name names
  pub named_kind : (x : Held) → IsIn p x → token_at es (ref_of p x) ≡ Some x.kind
  named_kind x i =
      let f = refers m b p t good.sound flawless meets x i in
      ap (λ l. slice_get l (ref_of p x).place) (timeline_is m b p x.kind.sv.0 f.row good.sound.rows f.is_row) ∙ slice_get-map (λ (c : Cell). c.held.kind) (cells f.row) (ref_of p x).place ∙ ap (option_map (λ (c : Cell). c.held.kind)) f.here ∙ ap (λ (y : Held). Some y.kind) f.held

  serving : AllByRecursion (IsServing m es) (extension m b p).supports
  serving = each_support m b p lawful (IsServing m es) (λ v i j r c s is here at_j same.
      let w = each_at (IsBacking m) p.supports j s lawful.backed at_j in
      let k = each_at (λ (s : Backing). IsIn p s.token × IsIn p s.by) p.supports j s good.sound.backed at_j in
      let token : s.token ≡ c.held = good.sound.distinct s.token.kind.sv.0 v s.token c.held k.0 (record { row = r; is_row = is; place = i; cell = c; here = here; held = refl }) same in
      let told : token_at es (at v i) ≡ Some s.token.kind = ap (λ l. slice_get l i) (timeline_is m b p v r good.sound.rows is) ∙ slice_get-map (λ (c : Cell). c.held.kind) (cells r) i ∙ ap (option_map (λ (c : Cell). c.held.kind)) here ∙ ap (λ (z : Held). Some z.kind) (sym token) in
      record {
        need = w.need;
        has_need = ap (λ (o : Option Kind). need_of m o s.need) told ∙ w.is_need;
        kind = s.by.kind;
        has_token = named_kind s.by k.1;
        choice = w.choice;
        serves = w.serves;
      })

  new : AllByRecursion (λ (s : Support). AllByRecursion (λ (r : Support). IsSameNeed r s → ⊥) (supports_of b.base)) (extension m b p).supports
  new = each_support m b p lawful (λ s. AllByRecursion (λ (r : Support). IsSameNeed r s → ⊥) (supports_of b.base)) (λ v i j r c s is here at_j same.
      each_from_at (λ (o : Support). IsSameNeed o (named p v i s.need s) → ⊥) (supports_of b.base) (λ k o at_k q.
      let fresh = each_at (IsForNew b) p.supports j s lawful.new at_j in
      let g : IsGiven b p o.token = given_support m b p may good o (k, at_k) in
      let row : g.row ≡ r = let both : Some g.row ≡ Some r = sym g.is_row ∙ ap (λ (x : TokenRef). slice_get p.rows x.sv.0) q.0 ∙ is in cc in
      let there : slice_get (cells r) i ≡ Some (given_cell g.held) = ap (λ (x : Row). slice_get (cells x) i) (sym row) ∙ ap (λ (x : TokenRef). slice_get (cells g.row) x.place) (sym q.0) ∙ g.here in
      let cell : given_cell g.held ≡ c = let both : Some (given_cell g.held) ≡ Some c = sym there ∙ here in cc in
      each_at (λ (o : Support). stop b.base o.token ≡ s.token.stop → o.need ≡ s.need → ⊥) (supports_of b.base) k o fresh at_k (sym g.is ∙ ap (λ (y : Cell). y.held.stop) cell ∙ sym same) q.1))

  pub keeps_supports : KeepsSupports m b.base (extension m b p)
  keeps_supports = EachAfter-weaker (λ before s. (IsServing m es s × AllByRecursion (λ (r : Support). IsSameNeed r s → ⊥) (supports_of b.base)) × AllByRecursion (λ r. RisesTo r s) before) (KeepsSupportAt m b.base (extension m b p)) (λ before s h. record { serving = h.0.0; new = h.0.1; rising = h.1 }) [] (extension m b p).supports
      (after_from (λ s. IsServing m es s × AllByRecursion (λ (r : Support). IsSameNeed r s → ⊥) (supports_of b.base)) RisesTo [] (extension m b p).supports (each_two (IsServing m es) (λ s. AllByRecursion (λ (r : Support). IsSameNeed r s → ⊥) (supports_of b.base)) (extension m b p).supports serving new) (supports_rise m b p lawful) tt)
