-- In a partial plan without flaw every need of the plan is served, or may wait.
use Rattle.std.proofs.Common.{◌≡◌, ℕ, suc, ◌+◌, ◌<◌, true, false, List, [], ◌∷◌, ◌++◌, append-nil, cond, filter, flat_map, length, slice_get, Some, nat_eq, ◌&&◌, refl, sym, ap, ◌∙◌, subst, arith, inl, inr}
use Rattle.std.proofs.lemmas.Bool.{and_parts, cases_Bool, eqb-true, or_cases}
use Rattle.std.proofs.lemmas.Grind.{flat_map-append}
use Rattle.std.proofs.lemmas.Option.{slice_get-get_or, slice_get_within}
use Rattle.std.specs.List.{AllByRecursion}
use Rattle.std.specs.Prelude.{get_or}
use Rattle.hs_base.specs.Checked.{IsServed, supports_of}
use Rattle.hs_base.specs.Needs.{is_deferrable, need_at, needs_of}
use Rattle.hs_base.specs.Points.{stop, timeline_of, token_at, tokens_of}
use Rattle.hs_base.specs.Schedule.{numbers_from}
use Rattle.hs_base.specs.declared.mission.Kind.{Kind}
use Rattle.hs_base.specs.declared.mission.Mission.{Mission}
use Rattle.hs_base.specs.declared.mission.Need.{Need}
use Rattle.hs_base.specs.declared.plan.Extension.{Extension}
use Rattle.hs_base.specs.declared.plan.Support.{Support}
use Rattle.hs_base.specs.declared.plan.TokenRef.{TokenRef}
use Rattle.base_laws.proofs.ListLemmas.{each_at, each_both, each_weaker}
use Rattle.base_laws.proofs.MissionLemmas.{each_filter}
use Rattle.base_laws.proofs.PointLemmas.{of_variable, tokens-push}
use Rattle.plan_laws.proofs.LengthLemmas.{number_at}
use Rattle.plan_laws.proofs.NeedLemmas.{need_found}
use Rattle.plan_laws.proofs.InsideLemmas.{tokens_inside}
use Rattle.search_laws.proofs.ApartLemmas.{one_place}
use Rattle.search_laws.proofs.GivenLemmas.{given_support, row_here, same_token}
use Rattle.search_laws.proofs.HasLemmas.{Has, any_true, contains, has_filter, has_flat, has_from, has_left, has_right}
use Rattle.search_laws.specs.Good.{IsGood}
use Rattle.search_laws.specs.Lawful.{IsLawful, IsLeft}
use Rattle.search_tree.proofs.CellLemmas.{length-map', slice_get-map_some}
use Rattle.search_tree.proofs.NodeLemmas.{timeline_is, whole_plan}
use Rattle.search_tree.proofs.PlanOfNode.{append_none, flat_map_from-none, have_rows, zero_plus}
use Rattle.search_tree.proofs.SoundLemmas.{cell_variable}
use Rattle.search_tree.specs.Begun.{Begun}
use Rattle.search_tree.specs.Extends.{extension, ref_of, supports_at}
use Rattle.search_tree.specs.Flaws.{flat_map_from, flaws, is_served, needs_open, open_goals, open_needs, open_slots}
use Rattle.search_tree.specs.Outset.{MayBegin}
use Rattle.search_tree.specs.Partial.{Partial, Row, at, cells}
use Rattle.search_tree.specs.Sound.{IsAt}
use Rattle.search_tree.specs.declared.backing.Backing.{Backing}
use Rattle.search_tree.specs.declared.backing.Deferral.{Deferral}
use Rattle.search_tree.specs.declared.flaw.Flaw.{Flaw}
use Rattle.search_tree.specs.declared.flaw.Flaw.TheVariants.{Need as NeedFlaw}
use Rattle.search_tree.specs.declared.held.Cell.{Cell}
use Rattle.search_tree.specs.declared.held.Held.{Held}

pub supports-push : (es : List Extension) (e : Extension) → supports_of (es ++ e ∷ []) ≡ supports_of es ++ e.supports
supports-push es e = flat_map-append (λ (x : Extension). x.supports) es (e ∷ []) ∙ ap (λ l. supports_of es ++ l) (append-nil e.supports)

module _ (m : Mission) (b : Begun) (p : Partial) (may : MayBegin m b) (good : IsGood m b p) (lawful : IsLawful m b p) (flawless : flaws m b p ≡ []) where
  abbrev pub es : List Extension
  es = whole_plan m b p

  -- no goal, need or slot is open
  pub goals_none : open_goals p ≡ []
  goals_none = (append_none (open_goals p) (open_needs m b p) (append_none (open_goals p ++ open_needs m b p) (open_slots p) flawless).0).0

  pub needs_none : open_needs m b p ≡ []
  needs_none = (append_none (open_goals p) (open_needs m b p) (append_none (open_goals p ++ open_needs m b p) (open_slots p) flawless).0).1

  -- the new tokens are of the mission's variables
  pub new_inside : AllByRecursion (λ (k : Kind). k.sv.0 < length m.vars) (extension m b p).tokens
  new_inside = each_weaker (λ (k : Kind). (r : Row) × (slice_get p.rows k.sv.0 ≡ Some r)) (λ (k : Kind). k.sv.0 < length m.vars) (λ k h. let w = slice_get_within p.rows k.sv.0 h.0 h.1 in let e = good.sound.one_each in omega arith) (extension m b p).tokens (have_rows p.rows b 0 p.rows good.sound.rows (λ i r is. ap (slice_get p.rows) (zero_plus i) ∙ is))

  pub all_inside : AllByRecursion (λ (k : Kind). k.sv.0 < length m.vars) (tokens_of es)
  all_inside = subst (AllByRecursion (λ (k : Kind). k.sv.0 < length m.vars)) (sym (tokens-push b.base (extension m b p))) (each_both (λ (k : Kind). k.sv.0 < length m.vars) (tokens_of b.base) (extension m b p).tokens (tokens_inside m b.base may.checked.rules) new_inside)

  -- a token of the plan, in its row
  pub token_here : (t : TokenRef) (k : Kind) → token_at es t ≡ Some k → (r : Row) × (slice_get p.rows t.sv.0 ≡ Some r) × ((c : Cell) × (slice_get (cells r) t.place ≡ Some c) × (c.held.kind ≡ k))
  token_here t k is =
      let variable = of_variable (tokens_of es) t.sv.0 t.place k is in
      let inside = each_at (λ (k : Kind). k.sv.0 < length m.vars) (timeline_of (tokens_of es) t.sv.0) t.place k (each_filter (λ (k : Kind). k.sv.0 < length m.vars) (λ k. nat_eq k.sv.0 t.sv.0) (tokens_of es) all_inside) is in
      let r = get_or p.rows t.sv.0 (record { given = []; added = []; finished = false }) in
      let is_row : slice_get p.rows t.sv.0 ≡ Some r = slice_get-get_or p.rows t.sv.0 _ (let e = good.sound.one_each in omega arith) in
      (r, is_row, slice_get-map_some (λ (c : Cell). c.held.kind) (cells r) t.place k (ap (λ l. slice_get l t.place) (sym (timeline_is m b p t.sv.0 r good.sound.rows is_row)) ∙ is))

  pub need_served : (v i j : ℕ) (r : Row) (c : Cell) → slice_get p.rows v ≡ Some r → slice_get (cells r) i ≡ Some c → j < length (needs_of m c.held.kind) → is_served b p c.held j ≡ true
  need_served v i j r c is here below =
      let row : flat_map_from (needs_open m b p (0 + v)) 0 (cells r) ≡ [] = flat_map_from-none (λ v (r : Row). flat_map_from (needs_open m b p v) 0 (cells r)) 0 v p.rows r needs_none is in
      let cell : needs_open m b p (0 + v) (0 + i) c ≡ [] = flat_map_from-none (needs_open m b p (0 + v)) 0 i (cells r) c row here in
      elim (cases_Bool (is_served b p c.held j)) [
        | inl served ↦ served
        | inr unserved ↦
            let flaw : Has (needs_open m b p (0 + v) (0 + i) c) (NeedFlaw (at (0 + v) (0 + i)) j) = has_flat (λ j. cond (is_served b p c.held j) [] (NeedFlaw (at (0 + v) (0 + i)) j ∷ [])) (numbers_from 0 (length (needs_of m c.held.kind))) j (NeedFlaw (at (0 + v) (0 + i)) j) (j, number_at 0 (length (needs_of m c.held.kind)) j below ∙ ap Some (zero_plus j)) (rw unserved (0, refl)) in
            let g : slice_get [] flaw.0 ≡ Some (NeedFlaw (at (0 + v) (0 + i)) j) = ap (λ (l : List Flaw). slice_get l flaw.0) (sym cell) ∙ flaw.1 in
            absurd (cc)
      ]

  -- served in the plan that is extended
  by_given : (v i j : ℕ) (r : Row) (c : Cell) (n : Need) → slice_get p.rows v ≡ Some r → slice_get (cells r) i ≡ Some c → (o : Support) → Has (supports_of b.base) o → stop b.base o.token ≡ c.held.stop → o.need ≡ j → IsServed m es (at v i) j n
  by_given v i j r c n is here o has same which =
      inl (o, contains (supports_of es) o (subst (λ (l : List Support). Has l o) (sym (supports-push b.base (extension m b p))) (has_left (supports_of b.base) (extension m b p).supports o has)), same_token m b p may good o.token v i r c (given_support m b p may good o has) is here same, which)

  -- served by a new support
  pub by_new : (v i j : ℕ) (r : Row) (c : Cell) (n : Need) → slice_get p.rows v ≡ Some r → slice_get (cells r) i ≡ Some c → j < length (needs_of m c.held.kind) → (s : Backing) → Has p.supports s → (nat_eq s.token.stop c.held.stop && nat_eq s.need j) ≡ true → IsServed m es (at v i) j n
  by_new v i j r c n is here below s has fits =
      let test = λ (s : Backing). nat_eq s.token.stop c.held.stop && nat_eq s.need j in
      let name : Support = record { token = at (0 + v) (0 + i); need = j; by = ref_of p s.by } in
      let one : Has (supports_at m p (0 + v) (0 + i) c) name = has_flat (λ j. flat_map (λ (s : Backing). record { token = at (0 + v) (0 + i); need = j; by = ref_of p s.by } ∷ []) (filter (λ (s : Backing). nat_eq s.token.stop c.held.stop && nat_eq s.need j) p.supports)) (numbers_from 0 (length (needs_of m c.held.kind))) j name (j, number_at 0 (length (needs_of m c.held.kind)) j below ∙ ap Some (zero_plus j)) (has_flat (λ (s : Backing). record { token = at (0 + v) (0 + i); need = j; by = ref_of p s.by } ∷ []) (filter test p.supports) s name (has_filter test p.supports s has fits) (0, refl)) in
      let all : Has (extension m b p).supports name = has_from (λ v (r : Row). flat_map_from (supports_at m p v) 0 (cells r)) 0 v p.rows r name is (has_from (supports_at m p (0 + v)) 0 i (cells r) c name here one) in
      let whole : Has (supports_of es) name = subst (λ (l : List Support). Has l name) (sym (supports-push b.base (extension m b p))) (has_right (supports_of b.base) (extension m b p).supports name all) in
      inl (name, contains (supports_of es) name whole, ap (λ x. at x (0 + i)) (zero_plus v) ∙ ap (at v) (zero_plus i), refl)

  -- left to a later plan
  by_left : (v i j : ℕ) (r : Row) (c : Cell) (n : Need) → slice_get p.rows v ≡ Some r → slice_get (cells r) i ≡ Some c → slice_get (needs_of m c.held.kind) j ≡ Some n → (d : Deferral) → IsLeft m p d → d.stop ≡ c.held.stop → d.need ≡ j → IsServed m es (at v i) j n
  by_left v i j r c n is here wants d l same which =
      let mine : IsAt p l.variable l.token = record { row = l.row; is_row = l.is_row; place = l.ends.place; cell = l.ends.cell; here = l.ends.here; held = l.ends.held } in
      let its : IsAt p v c.held = record { row = r; is_row = is; place = i; cell = c; here = here; held = refl } in
      let held : l.token ≡ c.held = good.sound.distinct l.variable v l.token c.held mine its (l.is ∙ same) in
      let first : l.ends.cell.held.kind.sv.0 ≡ l.variable = cell_variable m b p good.sound l.variable l.ends.place l.row l.ends.cell (row_here m b p may good l.variable l.row l.is_row) l.ends.here in
      let second : c.held.kind.sv.0 ≡ v = cell_variable m b p good.sound v i r c (row_here m b p may good v r is) here in
      let variable : l.variable ≡ v = sym first ∙ ap (λ (y : Held). y.kind.sv.0) (l.ends.held ∙ held) ∙ second in
      let row : l.row ≡ r = let both : Some l.row ≡ Some r = sym l.is_row ∙ ap (slice_get p.rows) variable ∙ is in cc in
      let there : slice_get (cells r) l.ends.place ≡ Some l.ends.cell = ap (λ (q : Row). slice_get (cells q) l.ends.place) (sym row) ∙ l.ends.here in
      let place : l.ends.place ≡ i = one_place (cells r) l.ends.place i l.ends.cell c (good.apart.each v r is) there here (ap (λ (y : Held). y.stop) (l.ends.held ∙ held)) in
      let last : suc i ≡ length (cells r) = ap suc (sym place) ∙ l.ends.last ∙ ap (λ (q : Row). length (cells q)) row in
      let need : l.need ≡ n = let both : Some l.need ≡ Some n = sym l.is_need ∙ ap (λ (y : Held). slice_get (needs_of m y.kind) d.need) held ∙ ap (slice_get (needs_of m c.held.kind)) which ∙ wants in cc in
      inr (ap is_deferrable (sym need) ∙ l.may_wait, last ∙ sym (ap length (timeline_is m b p v r good.sound.rows is) ∙ length-map' (λ (c : Cell). c.held.kind) (cells r)))

  served_here : (v i j : ℕ) (r : Row) (c : Cell) (n : Need) → slice_get p.rows v ≡ Some r → slice_get (cells r) i ≡ Some c → slice_get (needs_of m c.held.kind) j ≡ Some n → IsServed m es (at v i) j n
  served_here v i j r c n is here wants =
      let below = slice_get_within (needs_of m c.held.kind) j n wants in
      elim (or_cases _ _ (need_served v i j r c is here below)) [
        | inl first ↦ elim (or_cases _ _ first) [
          | inl old ↦
              let s = any_true (λ (s : Support). nat_eq (stop b.base s.token) c.held.stop && nat_eq s.need j) (supports_of b.base) old in
              let a = and_parts (nat_eq (stop b.base (s.0).token) c.held.stop) (nat_eq (s.0).need j) s.2 in
              by_given v i j r c n is here s.0 s.1 (eqb-true _ _ a.0) (eqb-true _ _ a.1)
          | inr fresh ↦
              let s = any_true (λ (s : Backing). nat_eq s.token.stop c.held.stop && nat_eq s.need j) p.supports fresh in
              by_new v i j r c n is here below s.0 s.1 s.2
        ]
        | inr late ↦
            let d = any_true (λ (d : Deferral). nat_eq d.stop c.held.stop && nat_eq d.need j) p.deferred late in
            let a = and_parts (nat_eq (d.0).stop c.held.stop) (nat_eq (d.0).need j) d.2 in
            by_left v i j r c n is here wants d.0 (each_at (IsLeft m p) p.deferred d.1.0 d.0 lawful.left d.1.1) (eqb-true _ _ a.0) (eqb-true _ _ a.1)
      ]

  pub served : (t : TokenRef) (j : ℕ) (n : Need) → need_at m es t j ≡ Some n → IsServed m es t j n
  served t j n is =
      let f = need_found m es t j n is in
      let h = token_here t f.0 f.1 in
      served_here t.sv.0 t.place j h.0 h.2.0 n h.1 h.2.1 (ap (λ k. slice_get (needs_of m k) j) h.2.2 ∙ f.2)
