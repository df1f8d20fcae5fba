-- Parts that are allowed keep the rules of plans.
use Rattle.std.proofs.Common.{◌≡◌, ◌⊎◌, ℕ, ℤ, zero, suc, ◌+◌, ◌≤◌, true, false, Bool, List, [], ◌∷◌, length, insert, set, slice_get, Option, Some, None, refl, sym, ap, ◌∙◌, subst, arith, inl, inr, nat_eq, ◌&&◌, ◌||◌}
use Rattle.std.proofs.lemmas.Bool.{cases_Bool, cases_eq, eq-eqb, false≢true}
use Rattle.std.proofs.lemmas.List.{length-set}
use Rattle.std.proofs.lemmas.Option.{slice_get-get_or}
use Rattle.std.specs.List.{AllByRecursion, list_any}
use Rattle.std.specs.Prelude.{Contains, get_or}
use Rattle.hs_base.specs.Bounds.{goals_of, on_some}
use Rattle.hs_base.specs.Checked.{supports_of}
use Rattle.hs_base.specs.Points.{count, stop, timeline_of, tokens_of}
use Rattle.hs_base.specs.Schedule.{numbers_from}
use Rattle.hs_base.specs.Timelines.{MayFollow}
use Rattle.hs_base.specs.declared.ids.ValId.{ValId}
use Rattle.hs_base.specs.declared.mission.Goal.{Goal}
use Rattle.hs_base.specs.declared.mission.Mission.{Mission}
use Rattle.hs_base.specs.declared.mission.Var.{Var}
use Rattle.hs_base.specs.declared.plan.Extension.{Extension}
use Rattle.hs_base.specs.declared.plan.Support.{Support}
use Rattle.hs_base.specs.declared.plan.Time.{Time}
use Rattle.hs_base.specs.declared.plan.TokenRef.{TokenRef}
use Rattle.base_laws.proofs.ListLemmas.{EachAfter-more, each_both, each_weaker}
use Rattle.plan_laws.proofs.ChainLemmas.{chained}
use Rattle.search_laws.proofs.LinkLemmas.{given_linked, linked-insert, linked-shut, may_follow, value_of_cell}
use Rattle.search_laws.proofs.GoodLemmas.{good_part}
use Rattle.search_laws.specs.Good.{AreAllowed, IsGood}
use Rattle.search_laws.specs.Lawful.{AreForOthers, AreLinked, IsBacking, IsEnd, IsForNew, IsLawful, IsLeft}
use Rattle.search_tree.proofs.CellLemmas.{held_is, length-map', row_at, slice_get-map_some, some_before}
use Rattle.search_tree.proofs.BeginLemmas.{number_is}
use Rattle.search_tree.proofs.PartLemmas.{cells-close, cells-put, shut}
use Rattle.search_tree.proofs.SoundLemmas.{at_place_from, at_place_here, at_place_there, cell_variable, length-at_place}
use Rattle.search_tree.specs.Begun.{Begun, number, stub}
use Rattle.search_tree.specs.May.{IsSlot, MayDefer, MayDo, MayMeet, MaySupport}
use Rattle.search_tree.specs.Outset.{MayBegin}
use Rattle.search_tree.specs.Partial.{Partial, Row, begin, cells, first_row, held_at, held_by}
use Rattle.search_tree.specs.Parts.{at_place, close, do_part, do_parts, end_row, gap_cell, joined_cell, put, with_rows}
use Rattle.search_tree.specs.Resolvers.{next_of}
use Rattle.search_tree.specs.Sound.{IsRow}
use Rattle.search_tree.specs.declared.backing.Backing.{Backing}
use Rattle.search_tree.specs.declared.backing.Deferral.{Deferral}
use Rattle.search_tree.specs.declared.held.Cell.{Cell}
use Rattle.search_tree.specs.declared.held.Held.{Held}
use Rattle.search_tree.specs.declared.part.Part.{Part}
use Rattle.search_tree.specs.declared.part.Part.TheVariants.{Deferred, Finished, Followed, Inserted, Joined, MetGoal, Supported}

-- a place in a list with one more element before it
pub slice_get-insert_past : {X : Type 0} (xs : List X) (i j : ℕ) (c : X) → i ≤ j → slice_get (insert xs i c) (suc j) ≡ slice_get xs j
slice_get-insert_past [] zero j c from = refl
slice_get-insert_past [] (suc i) zero c from = absurd (omega arith)
slice_get-insert_past [] (suc i) (suc j) c from = refl
slice_get-insert_past (x ∷ xs) zero j c from = refl
slice_get-insert_past (x ∷ xs) (suc i) zero c from = absurd (omega arith)
slice_get-insert_past (x ∷ xs) (suc i) (suc j) c from = slice_get-insert_past xs i j c (omega arith)

pub length-insert_one : {X : Type 0} (xs : List X) (i : ℕ) (c : X) → length (insert xs i c) ≡ suc (length xs)
length-insert_one [] zero c = refl
length-insert_one [] (suc i) c = refl
length-insert_one (x ∷ xs) zero c = refl
length-insert_one (x ∷ xs) (suc i) c = ap suc (length-insert_one xs i c)

-- an element that is set
pub set_here : {X : Type 0} (xs : List X) (k : ℕ) (x y : X) → slice_get xs k ≡ Some y → slice_get (set xs k x) k ≡ Some x
set_here [] k x y is = absurd (cc)
set_here (z ∷ xs) zero x y is = refl
set_here (z ∷ xs) (suc k) x y is = set_here xs k x y is

pub set_there : {X : Type 0} (xs : List X) (k i : ℕ) (x : X) → (k ≡ i → ⊥) → slice_get (set xs k x) i ≡ slice_get xs i
set_there [] k i x other = refl
set_there (z ∷ xs) zero zero x other = absurd (other refl)
set_there (z ∷ xs) zero (suc i) x other = refl
set_there (z ∷ xs) (suc k) zero x other = refl
set_there (z ∷ xs) (suc k) (suc i) x other = set_there xs k i x (λ e. other (ap suc e))

-- a test that no element passes
pub none_passes : {X : Type 0} (test : X → Bool) (xs : List X) → list_any test xs ≡ false → AllByRecursion (λ x. test x ≡ false) xs
none_passes test [] h = tt
none_passes test (x ∷ xs) h = elim (cases_Bool (test x)) [
  | inl passes ↦ let f : true ≡ false = rw passes at h in absurd (false≢true (sym f))
  | inr fails ↦ (fails, none_passes test xs (rw fails at h))
]

-- neither of two
pub neither : (x y : Bool) → (x || y) ≡ false → (x ≡ false) × (y ≡ false)
neither true y h = absurd (false≢true (sym h))
neither false y h = (refl, h)

-- the end of a row stays its end
end-put : (i : ℕ) (c : Cell) (r : Row) (x : Held) → IsSlot i r → IsEnd r x → IsEnd (put i c r) x
end-put i c r x slot e =
    let whole = cells-put i c r slot.after in
    let ajar : suc i ≡ length (cells r) → ⊥ = λ at. false≢true (sym (slot.yet at) ∙ e.done) in
    let place = slot.place in
    let inside : suc i ≤ e.place = by_case (cases_eq (suc i) (length (cells r))) ajar place e.last in
    record {
      done = e.done;
      place = suc e.place;
      last = omega (arith, ap length whole, length-insert_one (cells r) (suc i) c, e.last);
      cell = e.cell;
      here = ap (λ l. slice_get l (suc e.place)) whole ∙ slice_get-insert_past (cells r) (suc i) e.place c inside ∙ e.here;
      held = e.held;
    }
  where
    by_case : {i n k : ℕ} → (suc i ≡ n) ⊎ (suc i ≡ n → ⊥) → (suc i ≡ n → ⊥) → suc i ≤ n → suc k ≡ n → suc i ≤ k
    by_case (inl same) ajar place last = absurd (ajar same)
    by_case (inr other) ajar place last = omega arith

end-close : (i : ℕ) (r : Row) (x : Held) → length r.given ≤ suc i → IsEnd r x → IsEnd (close i r) x
end-close i r x after e =
    let whole = cells-close i r after in
    let long : length (cells (close i r)) ≡ length (cells r) = ap length whole ∙ length-at_place shut (suc i) (cells r) in
    elim (cases_eq (suc i) e.place) [
      | inl same ↦ record {
        done = e.done;
        place = e.place;
        last = omega (arith, e.last);
        cell = shut e.cell;
        here = ap (λ l. slice_get l e.place) whole ∙ ap (λ n. slice_get (at_place shut n (cells r)) e.place) same ∙ at_place_here shut e.place (cells r) e.cell e.here;
        held = e.held;
      }
      | inr other ↦ record {
        done = e.done;
        place = e.place;
        last = omega (arith, e.last);
        cell = e.cell;
        here = ap (λ l. slice_get l e.place) whole ∙ at_place_there shut (suc i) e.place (cells r) other ∙ e.here;
        held = e.held;
      }
    ]

-- one row is changed
module _ (m : Mission) (b : Begun) (p : Partial) (h : IsLawful m b p) (v grown : ℕ) (r : Row) (g : Row → Row) (is : slice_get p.rows v ≡ Some r) where
  left_changed : ((x : Held) → IsEnd r x → IsEnd (g r) x) → (d : Deferral) → IsLeft m p d → IsLeft m (with_rows p grown (at_place g v p.rows)) d
  left_changed keeps d l = elim (cases_eq v l.variable) [
    | inl same ↦
        let there : slice_get p.rows v ≡ Some l.row = ap (slice_get p.rows) same ∙ l.is_row in
        let e : l.row ≡ r = let both : Some l.row ≡ Some r = sym there ∙ is in cc in
        record {
          token = l.token;
          variable = v;
          row = g r;
          is_row = at_place_here g v p.rows r is;
          ends = keeps l.token (subst (λ (q : Row). IsEnd q l.token) e l.ends);
          is = l.is;
          need = l.need;
          is_need = l.is_need;
          may_wait = l.may_wait;
        }
    | inr other ↦ record {
      token = l.token;
      variable = l.variable;
      row = l.row;
      is_row = at_place_there g v l.variable p.rows other ∙ l.is_row;
      ends = l.ends;
      is = l.is;
      need = l.need;
      is_need = l.is_need;
      may_wait = l.may_wait;
    }
  ]

  pub lawful_changed : ((var : Var) → slice_get m.vars v ≡ Some var → AreLinked var (cells r) → AreLinked var (cells (g r))) → ((x : Held) → IsEnd r x → IsEnd (g r) x) → IsLawful m b (with_rows p grown (at_place g v p.rows))
  lawful_changed links keeps = record {
    linked = λ w q var at own. elim (cases_eq v w) [
      | inl same ↦
          let f = at_place_from g v p.rows q (ap (slice_get (at_place g v p.rows)) same ∙ at) in
          let e : f.0 ≡ r = let both : Some f.0 ≡ Some r = sym f.1 ∙ is in cc in
          subst (λ (x : Row). AreLinked var (cells x)) (sym (f.2 ∙ ap g e)) (links var (ap (slice_get m.vars) same ∙ own) (h.linked v r var is (ap (slice_get m.vars) same ∙ own)))
      | inr other ↦ h.linked w q var (sym (at_place_there g v w p.rows other) ∙ at) own
    ];
    backed = h.backed;
    apart = h.apart;
    new = h.new;
    one_each = h.one_each;
    goals = h.goals;
    left = each_weaker (IsLeft m p) (IsLeft m (with_rows p grown (at_place g v p.rows))) (left_changed keeps) p.deferred h.left;
  }

-- the same rows
pub left_same : (m : Mission) (p q : Partial) → q.rows ≡ p.rows → (d : Deferral) → IsLeft m p d → IsLeft m q d
left_same m p q rows d l = record {
  token = l.token;
  variable = l.variable;
  row = l.row;
  is_row = ap (λ rs. slice_get rs l.variable) rows ∙ l.is_row;
  ends = l.ends;
  is = l.is;
  need = l.need;
  is_need = l.is_need;
  may_wait = l.may_wait;
}

module _ (m : Mission) (b : Begun) (p : Partial) (g : IsGood m b p) (h : IsLawful m b p) where
  row_of : (v : ℕ) (r : Row) → slice_get p.rows v ≡ Some r → IsRow b v r
  row_of v r is = let e : 0 + v ≡ v = omega arith in subst (λ n. IsRow b n r) e (row_at b 0 v p.rows r g.sound.rows is)

  -- what may follow the token at a place
  next_value : (v i : ℕ) (r : Row) (a : Cell) (var : Var) (value : ValId) → slice_get p.rows v ≡ Some r → slice_get (cells r) i ≡ Some a → slice_get m.vars v ≡ Some var → Contains (next_of m (held_at p v i).kind) value → MayFollow var (value_of_cell a) value.0
  next_value v i r a var value is here own next =
      let variable = cell_variable m b p g.sound v i r a (row_of v r is) here in
      may_follow m var a.held.kind value (ap (slice_get m.vars) variable ∙ own) (subst (λ (x : Held). Contains (next_of m x.kind) value) (held_is p v i r a is here) next)

  lawful_put : (v i grown : ℕ) (r : Row) (c : Cell) → slice_get p.rows v ≡ Some r → IsSlot i r → ((var : Var) (a : Cell) → slice_get m.vars v ≡ Some var → slice_get (cells r) i ≡ Some a → c.joined ≡ true → MayFollow var (value_of_cell a) (value_of_cell c)) → IsLawful m b (with_rows p grown (at_place (put i c) v p.rows))
  lawful_put v i grown r c is slot follows =
      let a = get_or (cells r) i c in
      let place = slot.place in
      let here : slice_get (cells r) i ≡ Some a = slice_get-get_or (cells r) i c (omega arith) in
      lawful_changed m b p h v grown r (put i c) is
      (λ var own linked. subst (AreLinked var) (sym (cells-put i c r slot.after)) (linked-insert var (cells r) i a c linked here place (follows var a own here) slot.gap))
      (λ x e. end-put i c r x slot e)

  lawful_join : (v i : ℕ) (r : Row) (d : Cell) → slice_get p.rows v ≡ Some r → length r.given ≤ suc i → slice_get (cells r) (suc i) ≡ Some d → Contains (next_of m (held_at p v i).kind) d.held.kind.value → IsLawful m b (with_rows p 0 (at_place (close i) v p.rows))
  lawful_join v i r d is after there next =
      let a = some_before (cells r) i d there in
      lawful_changed m b p h v 0 r (close i) is
      (λ var own linked. subst (AreLinked var) (sym (cells-close i r after)) (linked-shut var (cells r) i a.0 d linked a.1 there (next_value v i r a.0 var d.held.kind.value is a.1 own next)))
      (λ x e. end-close i r x after e)

  lawful_finish : (v : ℕ) (r : Row) → slice_get p.rows v ≡ Some r → IsLawful m b (with_rows p 0 (at_place end_row v p.rows))
  lawful_finish v r is = lawful_changed m b p h v 0 r end_row is (λ var own linked. linked) (λ x e. record { done = refl; place = e.place; last = e.last; cell = e.cell; here = e.here; held = e.held })

  lawful_support : (t : TokenRef) (i : ℕ) (by : TokenRef) → MaySupport m b p t i by → IsLawful m b (do_part p (Supported t i by))
  lawful_support t i by may =
      let x = held_by p t in
      let s : Backing = record { token = x; need = i; by = held_by p by } in
      let front = neither _ _ may.yet in
      let parts = neither _ _ front.0 in
      record {
        linked = h.linked;
        backed = each_both (IsBacking m) p.supports (s ∷ []) h.backed (record { need = may.need; is_need = may.is_need; choice = may.choice; serves = may.serves }, tt);
        apart = EachAfter-more (λ before r. AllByRecursion (λ q. AreForOthers q r) before) [] p.supports s h.apart
            (each_weaker (λ (r : Backing). (nat_eq r.token.stop x.stop && nat_eq r.need i) ≡ false) (λ r. AreForOthers r s) (λ r fails. differs r.token.stop x.stop r.need i fails) p.supports (none_passes (λ (r : Backing). nat_eq r.token.stop x.stop && nat_eq r.need i) p.supports parts.1));
        new = each_both (IsForNew b) p.supports (s ∷ []) h.new
            (each_weaker (λ (o : Support). (nat_eq (stop b.base o.token) x.stop && nat_eq o.need i) ≡ false) (λ (o : Support). stop b.base o.token ≡ x.stop → o.need ≡ i → ⊥) (λ o fails. differs (stop b.base o.token) x.stop o.need i fails) (supports_of b.base) (none_passes (λ (o : Support). nat_eq (stop b.base o.token) x.stop && nat_eq o.need i) (supports_of b.base) parts.0), tt);
        one_each = h.one_each;
        goals = h.goals;
        left = each_weaker (IsLeft m p) (IsLeft m (do_part p (Supported t i by))) (left_same m p (do_part p (Supported t i by)) refl) p.deferred h.left;
      }
    where
      differs : (a c d e : ℕ) → (nat_eq a c && nat_eq d e) ≡ false → a ≡ c → d ≡ e → ⊥
      differs a c d e fails same also = let f : true ≡ false = rw (eq-eqb a c same, eq-eqb d e also) at fails in false≢true (sym f)

  lawful_goal : (k : ℕ) (by : TokenRef) → MayMeet m b p k by → IsLawful m b (do_part p (MetGoal k by))
  lawful_goal k by may = record {
    linked = h.linked;
    backed = h.backed;
    apart = h.apart;
    new = h.new;
    one_each = length-set p.goals k (Some (held_by p by)) ∙ h.one_each;
    goals = λ i goal x wanted is. elim (cases_eq k i) [
      | inl same ↦
          let there : slice_get (set p.goals k (Some (held_by p by))) i ≡ Some (Some (held_by p by)) = ap (slice_get (set p.goals k (Some (held_by p by)))) (sym same) ∙ set_here p.goals k (Some (held_by p by)) None may.yet in
          let e : held_by p by ≡ x = let both : Some (Some (held_by p by)) ≡ Some (Some x) = sym there ∙ is in cc in
          let f : may.goal ≡ goal = let both : Some may.goal ≡ Some goal = sym may.is_goal ∙ ap (slice_get (goals_of m (number b))) same ∙ wanted in cc in
          ap (λ (y : Held). y.kind) (sym e) ∙ may.kind ∙ ap (λ (y : Goal). y.kind) f
      | inr other ↦ h.goals i goal x wanted (sym (set_there p.goals k i (Some (held_by p by)) other) ∙ is)
    ];
    left = each_weaker (IsLeft m p) (IsLeft m (do_part p (MetGoal k by))) (left_same m p (do_part p (MetGoal k by)) refl) p.deferred h.left;
  }

  lawful_defer : (t : TokenRef) (i : ℕ) → MayDefer m b p t i → IsLawful m b (do_part p (Deferred t i))
  lawful_defer t i may = record {
    linked = h.linked;
    backed = h.backed;
    apart = h.apart;
    new = h.new;
    one_each = h.one_each;
    goals = h.goals;
    left = each_both (IsLeft m (do_part p (Deferred t i))) p.deferred (record { stop = (held_by p t).stop; need = i } ∷ [])
        (each_weaker (IsLeft m p) (IsLeft m (do_part p (Deferred t i))) (left_same m p (do_part p (Deferred t i)) refl) p.deferred h.left) (
          record {
            token = held_by p t;
            variable = t.sv.0;
            row = may.token.row;
            is_row = may.token.is_row;
            ends = record { done = may.done; place = t.place; last = may.last; cell = may.token.cell; here = may.token.here; held = sym (held_is p t.sv.0 t.place may.token.row may.token.cell may.token.is_row may.token.here) };
            is = refl;
            need = may.need;
            is_need = may.is_need;
            may_wait = may.may_wait;
          },
          tt,
        );
  }

  -- each part that may be done keeps the rules
  pub lawful_part : (x : Part) → MayDo m b p x → IsLawful m b (do_part p x)
  lawful_part (Inserted v i value) may = lawful_put v.0 i 2 may.row (gap_cell p v.0 value.0) may.is_row may.slot (λ var a own here joined. absurd (false≢true joined))
  lawful_part (Followed v i value) may = lawful_put v.0 i 1 may.insert.row (joined_cell p v.0 i value.0) may.insert.is_row may.insert.slot (λ var a own here joined. next_value v.0 i may.insert.row a var value may.insert.is_row here own may.next)
  lawful_part (Joined v i) may = lawful_join v.0 i may.row may.cell may.is_row may.after may.here may.next
  lawful_part (Finished v) may = lawful_finish v.0 may.row may.is_row
  lawful_part (Supported t i by) may = lawful_support t i by may
  lawful_part (MetGoal k by) may = lawful_goal k by may
  lawful_part (Deferred t i) may = lawful_defer t i may

-- where a search begins
root_linked : (m : Mission) (b : Begun) (may : MayBegin m b) (v : ℕ) (r : Row) (var : Var) → slice_get (begin m b).rows v ≡ Some r → slice_get m.vars v ≡ Some var → AreLinked var (cells r)
root_linked m b may v r var at own =
    let f = slice_get-map_some (first_row m b) (numbers_from 0 (length m.vars)) v r at in
    let n = number_is 0 (length m.vars) v f.0 f.1 in
    let same : f.0 ≡ v = omega (arith, n.0) in
    subst (λ (q : Row). AreLinked var (cells q)) (ap (first_row m b) (sym same) ∙ f.2) (by b.base b.since b.fixed may)
  where
    single : (var : Var) (v x : ℕ) (o : Option Var) → o ≡ Some var → AreLinked var (on_some o (λ (var : Var). record { held = record { kind = record { sv = record { 0 = v }; value = var.begin }; start = 0; stop = x }; joined = true } ∷ []))
    single var v x None is = absurd (cc)
    single var v x (Some w) is = let same : w ≡ var = cc in (ap (λ (y : Var). y.begin.0) same, tt)

    by : (base : List Extension) (since : ℤ) (fixed : List Time) → MayBegin m (record { base = base; since = since; fixed = fixed }) → AreLinked var (cells (first_row m (record { base = base; since = since; fixed = fixed }) v))
    by [] since fixed may = single var v (count (stub (record { base = []; since = since; fixed = fixed })) + v) (slice_get m.vars v) own
    by (e ∷ es) since fixed may = given_linked var (record { base = e ∷ es; since = since; fixed = fixed }) v 0 (timeline_of (tokens_of (e ∷ es)) v) (λ i k is. (chained m (e ∷ es) may.checked.rules).each v i k var is own)

pub root_lawful : (m : Mission) (b : Begun) → MayBegin m b → IsLawful m b (begin m b)
root_lawful m b may = record {
  linked = root_linked m b may;
  backed = tt;
  apart = tt;
  new = tt;
  one_each = length-map' (λ (g : Goal). None) (goals_of m (number b));
  goals = λ i g x wanted is. let f = slice_get-map_some (λ (g : Goal). None) (goals_of m (number b)) i (Some x) is in let no : None ≡ Some x = f.2 in absurd (cc);
  left = tt;
}

-- and after each part that was allowed
pub lawful_all : (m : Mission) (b : Begun) (p : Partial) (xs : List Part) → AreAllowed m b p xs → IsGood m b p → IsLawful m b p → IsLawful m b (do_parts p xs)
lawful_all m b p [] h g l = l
lawful_all m b p (x ∷ xs) h g l = lawful_all m b (do_part p x) xs h.1 (good_part m b p x h.0.0 h.0.1 g) (lawful_part m b p g l x h.0.0)
