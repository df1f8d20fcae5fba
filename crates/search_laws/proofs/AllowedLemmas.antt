-- The parts of a resolver of a listed flaw may be done.
use Rattle.std.proofs.Common.{◌≡◌, ℕ, zero, suc, ◌+◌, ◌-◌, ◌<◌, ◌≤◌, true, false, Bool, List, [], ◌∷◌, get_or, insert, length, nat_eq, pos, slice_get, Option, Some, None, refl, sym, ap, ◌∙◌, subst, arith, inl, inr}
use Rattle.std.proofs.lemmas.Bool.{cases_Bool, cases_eq, eq-eqb, eqb-true}
use Rattle.std.proofs.lemmas.Option.{get_or_from_slice_get, slice_get-get_or}
use Rattle.std.specs.List.{AllByRecursion}
use Rattle.std.specs.Prelude.{Contains, find, ⊤}
use Rattle.hs_base.specs.Bounds.{goals_of, on_some}
use Rattle.hs_base.specs.Missions.{IsChoice, IsGoal, IsKindOf, IsMission, IsValue, IsVar}
use Rattle.hs_base.specs.Needs.{choice_by, needs_of, same_kind}
use Rattle.hs_base.specs.Points.{value_of}
use Rattle.hs_base.specs.declared.ids.SvId.{SvId}
use Rattle.hs_base.specs.declared.ids.ValId.{ValId}
use Rattle.hs_base.specs.declared.mission.Choice.{Choice}
use Rattle.hs_base.specs.declared.mission.Goal.{Goal}
use Rattle.hs_base.specs.declared.mission.Horizon.{Horizon}
use Rattle.hs_base.specs.declared.mission.Kind.{Kind}
use Rattle.hs_base.specs.declared.mission.Mission.{Mission}
use Rattle.hs_base.specs.declared.mission.Need.{Need}
use Rattle.hs_base.specs.declared.mission.Value.{Value}
use Rattle.hs_base.specs.declared.mission.Var.{Var}
use Rattle.hs_base.specs.declared.plan.TokenRef.{TokenRef}
use Rattle.base_laws.proofs.ListLemmas.{each_at}
use Rattle.base_laws.proofs.MissionLemmas.{horizon_is, need_is, value_found}
use Rattle.search_laws.proofs.FlawLemmas.{HasSlot, IsFlaw}
use Rattle.search_laws.proofs.HasLemmas.{Has, any_true, contains}
use Rattle.search_laws.proofs.ResolverLemmas.{ForChoice, ForGoal, ForNeed, ForSlot, IsDefer, IsFollow, IsJoin, IsResolver, kinds_same}
use Rattle.search_laws.specs.Good.{AreAllowed}
use Rattle.search_tree.proofs.CellLemmas.{held_is, row_at}
use Rattle.search_tree.proofs.PartLemmas.{cells-put}
use Rattle.search_tree.proofs.PlanOfNode.{each_filter}
use Rattle.search_tree.proofs.SoundLemmas.{at_place_here, at_place_there, cell_variable}
use Rattle.search_tree.specs.Begun.{Begun, number}
use Rattle.search_tree.specs.Flaws.{is_served}
use Rattle.search_tree.specs.May.{IsThere, MayInsert}
use Rattle.search_tree.specs.Partial.{Partial, Row, at, cells, held_at, held_by, kind_of, no_row, row}
use Rattle.search_tree.specs.Parts.{do_part, end_row, gap_cell, put}
use Rattle.search_tree.specs.Resolvers.{next_of, parts_of}
use Rattle.search_tree.specs.Sound.{IsRow, IsSound}
use Rattle.search_tree.specs.declared.flaw.Flaw.{Flaw}
use Rattle.search_tree.specs.declared.flaw.Flaw.TheVariants.{Gap as GapFlaw, Goal as GoalFlaw, Need as NeedFlaw}
use Rattle.search_tree.specs.declared.flaw.Resolver.{Resolver}
use Rattle.search_tree.specs.declared.held.Cell.{Cell}
use Rattle.search_tree.specs.declared.held.Held.{Held}
use Rattle.search_tree.specs.declared.part.Part.TheVariants.{Finished, Inserted}

insert_here : {X : Type 0} (xs : List X) (i : ℕ) (x : X) → i ≤ length xs → slice_get (insert xs i x) i ≡ Some x
insert_here [] zero x below = refl
insert_here [] (suc i) x below = absurd (omega arith)
insert_here (y ∷ xs) zero x below = refl
insert_here (y ∷ xs) (suc i) x below = insert_here xs i x (omega arith)

-- a test that some element passes finds one
find_has : {X : Type 0} (test : X → Bool) (xs : List X) (j : ℕ) (x : X) → slice_get xs j ≡ Some x → test x ≡ true → (y : X) × (find test xs ≡ Some y)
find_has test [] j x is passes = absurd (cc)
find_has test (y ∷ xs) zero x is passes = let same : y ≡ x = cc in let here : test y ≡ true = ap test same ∙ passes in (y, rw here refl)
find_has test (y ∷ xs) (suc j) x is passes = let r = find_has test xs j x is passes in elim (cases_Bool (test y)) [ inl here ↦ (y, rw here refl) | inr fails ↦ (r.0, rw fails r.1) ]

pub same_refl : (k : Kind) → same_kind k k ≡ true
same_refl k = rw (eq-eqb k.sv.0 k.sv.0 refl, eq-eqb k.value.0 k.value.0 refl) refl

-- a kind of a mission has a value
known_value : (m : Mission) (k : Kind) → IsKindOf m.vars k → (v : Value) × (value_of m k ≡ Some v)
known_value m k is =
    let v = get_or (is.0).values k.value.0 (record { name = []; lasts = record { low = pos 0; high = pos 0 }; by_device = false; next = []; script = []; answers = [] }) in
    (v, ap (λ (o : Option Var). elim o [ None ↦ None | Some var ↦ slice_get var.values k.value.0 ]) is.1 ∙ slice_get-get_or (is.0).values k.value.0 _ is.2)

-- a value that may follow is one of its variable
next_known : (m : Mission) (k : Kind) (n : ValId) → IsMission m → Has (next_of m k) n → (v : Value) × (value_of m (kind_of k.sv.0 n.0) ≡ Some v)
next_known m k n mission has = by_case (value_of m k) refl has
  where
    by_case : (o : Option Value) → value_of m k ≡ o → Has (next_of m k) n → (v : Value) × (value_of m (kind_of k.sv.0 n.0) ≡ Some v)
    by_case None none has = let h : Has [] n = rw none at has in let e : slice_get [] h.0 ≡ Some n = h.1 in absurd (cc)
    by_case (Some v) some has =
        let f = value_found m k v some in
        let var : IsVar (length m.words) f.0 = each_at (IsVar (length m.words)) m.vars k.sv.0 f.0 mission.vars f.1 in
        let value : IsValue (length m.words) (length (f.0).values) v = each_at (IsValue (length m.words) (length (f.0).values)) (f.0).values k.value.0 v var.values f.2 in
        let here : Has v.next n = rw some at has in
        let below = each_at (λ (i : ValId). i.0 < length (f.0).values) v.next here.0 n value.next here.1 in
        known_value m (kind_of k.sv.0 n.0) (f.0, f.1, below)

module _ (m : Mission) (b : Begun) (p : Partial) (mission : IsMission m) (sound : IsSound m b p) where
  row_of : (v : ℕ) (r : Row) → slice_get p.rows v ≡ Some r → IsRow b v r
  row_of v r is = let e : 0 + v ≡ v = omega arith in subst (λ n. IsRow b n r) e (row_at b 0 v p.rows r sound.rows is)

  row_same : (v : ℕ) (r : Row) → slice_get p.rows v ≡ Some r → row p v ≡ r
  row_same v r is = get_or_from_slice_get p.rows v r no_row is

  -- the token is of its row's variable
  own_variable : (t : TokenRef) → IsThere p t → (held_by p t).kind.sv.0 ≡ t.sv.0
  own_variable t h = ap (λ (x : Held). x.kind.sv.0) (held_is p t.sv.0 t.place h.row h.cell h.is_row h.here) ∙ cell_variable m b p sound t.sv.0 t.place h.row h.cell (row_of t.sv.0 h.row h.is_row) h.here

  -- a token more, behind a place
  module _ (v : SvId) (i : ℕ) (value : ValId) (slot : HasSlot p v.0 i) where
    abbrev pub longer : Partial
    longer = do_part p (Inserted v i value)

    abbrev pub added : Cell
    added = gap_cell p v.0 value.0

    new_there : IsThere longer (at v.0 (suc i))
    new_there =
        let place = slot.slot.place in
        record {
          row = put i added slot.row;
          is_row = at_place_here (put i added) v.0 p.rows slot.row slot.is_row;
          cell = added;
          here = ap (λ l. slice_get l (suc i)) (cells-put i added slot.row slot.slot.after) ∙ insert_here (cells slot.row) (suc i) added place;
        }

    new_kind : (held_by longer (at v.0 (suc i))).kind ≡ kind_of v.0 value.0
    unfolding new_there
    new_kind = ap (λ (x : Held). x.kind) (held_is longer v.0 (suc i) new_there.row added new_there.is_row new_there.here)

    -- tokens of other variables stay where they are
    still_there : (t : TokenRef) → (v.0 ≡ t.sv.0 → ⊥) → IsThere p t → IsThere longer t
    still_there t other h = record { row = h.row; is_row = at_place_there (put i added) v.0 t.sv.0 p.rows other ∙ h.is_row; cell = h.cell; here = h.here }

    still_held : (t : TokenRef) (other : v.0 ≡ t.sv.0 → ⊥) (h : IsThere p t) → held_by longer t ≡ held_by p t
    unfolding still_there
    still_held t other h = held_is longer t.sv.0 t.place h.row h.cell (still_there t other h).is_row h.here ∙ sym (held_is p t.sv.0 t.place h.row h.cell h.is_row h.here)

    may_insert : (known : Value) → value_of m (kind_of v.0 value.0) ≡ Some known → MayInsert m p v i value
    may_insert known is = record { row = slot.row; is_row = slot.is_row; slot = slot.slot; known = known; is_known = is }

  -- for a goal
  goal_is : (i : ℕ) (g : Goal) → slice_get (goals_of m (number b)) i ≡ Some g → IsGoal m.vars g
  goal_is i g is = by_case (slice_get m.horizons (number b - 1)) refl is
    where
      by_case : (o : Option Horizon) → slice_get m.horizons (number b - 1) ≡ o → slice_get (on_some o (λ (h : Horizon). h.goals)) i ≡ Some g → IsGoal m.vars g
      by_case None none at = absurd (cc)
      by_case (Some h) some at = each_at (IsGoal m.vars) h.goals i g (horizon_is m (number b - 1) h mission some).goals at

  allowed_goal : (i : ℕ) (r : Resolver) → slice_get p.goals i ≡ Some None → ForGoal m b p i r → AreAllowed m b p (parts_of p (GoalFlaw i) r)
  allowed_goal i r yet f = elim f.wants [
    | inl c ↦ subst (λ r. AreAllowed m b p (parts_of p (GoalFlaw i) r)) (sym c.is) ((record { goal = f.goal; is_goal = f.is_goal; yet = yet; server = c.there; kind = c.kind }, tt), tt)
    | inr n ↦
        let k = f.goal.kind in
        let is_goal = goal_is i f.goal f.is_goal in
        let known = known_value m k is_goal.kind in
        subst (λ r. AreAllowed m b p (parts_of p (GoalFlaw i) r)) (sym n.is) (
          (may_insert k.sv n.place k.value n.at known.0 known.1, n.room),
          ((record { goal = f.goal; is_goal = f.is_goal; yet = yet; server = new_there k.sv n.place k.value n.at; kind = new_kind k.sv n.place k.value n.at }, tt), tt),
        )
  ]

  -- for a need
  need_choice : (t : TokenRef) (j : ℕ) (n : Need) (c : Choice) → slice_get (needs_of m (held_by p t).kind) j ≡ Some n → Has n.either c → IsChoice m.vars n.of c
  need_choice t j n c is has = each_at (IsChoice m.vars n.of) n.either has.0 c (need_is m (held_by p t).kind j n mission is).choices has.1

  other_row : (t : TokenRef) (j : ℕ) (n : Need) (c : Choice) → IsThere p t → slice_get (needs_of m (held_by p t).kind) j ≡ Some n → Has n.either c → c.by.sv.0 ≡ t.sv.0 → ⊥
  other_row t j n c there is has same =
      let k = (held_by p t).kind in
      let of : n.of ≡ k = kinds_same n.of k (each_at (λ (n : Need). ⊤ × (same_kind n.of k ≡ true)) (needs_of m k) j n (each_filter (λ (n : Need). ⊤) (λ (n : Need). same_kind n.of k) m.needs (all_true m.needs)) is).1 in
      (need_choice t j n c is has).other_variable (same ∙ sym (own_variable t there) ∙ ap (λ (k : Kind). k.sv.0) (sym of))
    where
      all_true : (ns : List Need) → AllByRecursion (λ (n : Need). ⊤) ns
      all_true [] = tt
      all_true (n ∷ ns) = (tt, all_true ns)

  serves : (n : Need) (c : Choice) (k : Kind) → Has n.either c → k ≡ c.by → (d : Choice) × (choice_by n k ≡ Some d)
  serves n c k has is = find_has (λ (c : Choice). same_kind c.by k) n.either has.0 c has.1 (ap (same_kind c.by) is ∙ same_refl c.by)

  allowed_choice : (t : TokenRef) (j : ℕ) (n : Need) (r : Resolver) → IsThere p t → is_served b p (held_by p t) j ≡ false → slice_get (needs_of m (held_by p t).kind) j ≡ Some n → ForChoice b p n r → AreAllowed m b p (parts_of p (NeedFlaw t j) r)
  allowed_choice t j n r there yet is f = elim f.wants [
    | inl c ↦
        let d = serves n f.choice (held_by p c.by).kind f.one c.kind in
        subst (λ r. AreAllowed m b p (parts_of p (NeedFlaw t j) r)) (sym c.is) ((record { token = there; need = n; is_need = is; yet = yet; server = c.there; choice = d.0; serves = d.1 }, tt), tt)
    | inr c ↦
        let k = f.choice.by in
        let known = known_value m k (need_choice t j n f.choice is f.one).kind in
        let other = other_row t j n f.choice there is f.one in
        let held = still_held k.sv c.place k.value c.at t other there in
        let d = serves n f.choice (held_by (longer k.sv c.place k.value c.at) (at k.sv.0 (suc c.place))).kind f.one (new_kind k.sv c.place k.value c.at) in
        subst (λ r. AreAllowed m b p (parts_of p (NeedFlaw t j) r)) (sym c.is) (
          (may_insert k.sv c.place k.value c.at known.0 known.1, c.room),
          (
            (
              record {
                token = still_there k.sv c.place k.value c.at t other there;
                need = n;
                is_need = ap (λ (x : Held). slice_get (needs_of m x.kind) j) held ∙ is;
                yet = ap (λ (x : Held). is_served b p x j) held ∙ yet;
                server = new_there k.sv c.place k.value c.at;
                choice = d.0;
                serves = d.1;
              },
              tt,
            ),
            tt,
          ),
        )
  ]

  -- a need that is left to a later plan
  allowed_defer : (t : TokenRef) (j : ℕ) (n : Need) → (there : IsThere p t) → is_served b p (held_by p t) j ≡ false → slice_get (needs_of m (held_by p t).kind) j ≡ Some n → (r : Resolver) → IsDefer p t n r → AreAllowed m b p (parts_of p (NeedFlaw t j) r)
  allowed_defer t j n there yet is r f =
      let same = row_same t.sv.0 there.row there.is_row in
      let last : suc t.place ≡ length (cells there.row) = f.last ∙ ap (λ (q : Row). length (cells q)) same in
      subst (λ r. AreAllowed m b p (parts_of p (NeedFlaw t j) r)) (sym f.is) (elim (cases_Bool (row p t.sv.0).finished) [
        | inl done ↦ rw done ((record { token = there; last = last; done = ap (λ (q : Row). q.finished) (sym same) ∙ done; need = n; is_need = is; yet = yet; may_wait = f.may_wait }, tt), tt)
        | inr ajar ↦
            let yet_open : there.row.finished ≡ false = ap (λ (q : Row). q.finished) (sym same) ∙ ajar in
            let q : Partial = do_part p (Finished t.sv) in
            let here : IsThere q t = record { row = end_row there.row; is_row = at_place_here end_row t.sv.0 p.rows there.row there.is_row; cell = there.cell; here = there.here } in
            let held : held_by q t ≡ held_by p t = held_is q t.sv.0 t.place (end_row there.row) there.cell here.is_row there.here ∙ sym (held_is p t.sv.0 t.place there.row there.cell there.is_row there.here) in
            rw ajar (
              (record { row = there.row; is_row = there.is_row; yet = yet_open }, tt),
              ((record { token = here; last = last; done = refl; need = n; is_need = ap (λ (x : Held). slice_get (needs_of m x.kind) j) held ∙ is; yet = ap (λ (x : Held). is_served b p x j) held ∙ yet; may_wait = f.may_wait }, tt), tt),
            )
      ])

  allowed_need : (t : TokenRef) (j : ℕ) (r : Resolver) → IsThere p t → is_served b p (held_by p t) j ≡ false → ForNeed m b p t j r → AreAllowed m b p (parts_of p (NeedFlaw t j) r)
  allowed_need t j r there yet f = elim f.ways [
    | inl c ↦ allowed_choice t j f.need r there yet f.is_need c
    | inr d ↦ allowed_defer t j f.need there yet f.is_need r d
  ]

  -- for a slot
  allowed_join : (v : SvId) (i : ℕ) (slot : HasSlot p v.0 i) (r : Resolver) → IsJoin m p v.0 i r → AreAllowed m b p (parts_of p (GapFlaw v i) r)
  allowed_join v i slot r f =
      let same = row_same v.0 slot.row slot.is_row in
      let place = slot.slot.place in
      let more : suc i ≡ length (cells slot.row) → ⊥ = λ e. f.more (e ∙ ap (λ (q : Row). length (cells q)) (sym same)) in
      let nothing : Cell = record { held = held_at p v.0 i; joined = false } in
      let d = get_or (cells slot.row) (suc i) nothing in
      let here : slice_get (cells slot.row) (suc i) ≡ Some d = slice_get-get_or (cells slot.row) (suc i) nothing (less (suc i) (length (cells slot.row)) place more) in
      let n = any_true (λ (n : ValId). nat_eq n.0 (held_at p v.0 (suc i)).kind.value.0) (next_of m (held_at p v.0 i).kind) f.next in
      let value : n.0 ≡ d.held.kind.value = ap (λ x. record { 0 = x }) (eqb-true _ _ n.2 ∙ ap (λ (x : Held). x.kind.value.0) (held_is p v.0 (suc i) slot.row d slot.is_row here)) in
      subst (λ r. AreAllowed m b p (parts_of p (GapFlaw v i) r)) (sym f.is) (
        (
          record {
            row = slot.row;
            is_row = slot.is_row;
            after = slot.slot.after;
            cell = d;
            here = here;
            gap = slot.slot.gap d here;
            next = subst (Contains (next_of m (held_at p v.0 i).kind)) value (contains (next_of m (held_at p v.0 i).kind) n.0 n.1);
          },
          tt,
        ),
        tt,
      )
    where
      less : (a n : ℕ) → a ≤ n → (a ≡ n → ⊥) → a < n
      less a n below other = elim (cases_eq a n) [ inl same ↦ absurd (other same) | inr differ ↦ omega arith ]

  allowed_follow : (v : SvId) (i : ℕ) (slot : HasSlot p v.0 i) (r : Resolver) → IsFollow m b p v.0 i r → AreAllowed m b p (parts_of p (GapFlaw v i) r)
  allowed_follow v i slot r f =
      let place = slot.slot.place in
      let nothing : Cell = record { held = held_at p v.0 i; joined = false } in
      let a = get_or (cells slot.row) i nothing in
      let here : slice_get (cells slot.row) i ≡ Some a = slice_get-get_or (cells slot.row) i nothing (omega arith) in
      let variable : (held_at p v.0 i).kind.sv.0 ≡ v.0 = own_variable (at v.0 i) (record { row = slot.row; is_row = slot.is_row; cell = a; here = here }) in
      let known = next_known m (held_at p v.0 i).kind f.value mission f.next in
      subst (λ r. AreAllowed m b p (parts_of p (GapFlaw v i) r)) (sym f.is) (
        (
          record {
            insert = may_insert v i f.value slot known.0 (ap (λ x. value_of m (kind_of x f.value.0)) (sym variable) ∙ known.1);
            next = contains (next_of m (held_at p v.0 i).kind) f.value f.next;
          },
          f.room,
        ),
        tt,
      )

  allowed_slot : (v : SvId) (i : ℕ) (slot : HasSlot p v.0 i) (r : Resolver) → ForSlot m b p v.0 i r → AreAllowed m b p (parts_of p (GapFlaw v i) r)
  allowed_slot v i slot r f = elim f [
    | inl close ↦ elim close [
      | inl end ↦
          let last : suc i ≡ length (cells slot.row) = end.last ∙ ap (λ (q : Row). length (cells q)) (row_same v.0 slot.row slot.is_row) in
          subst (λ r. AreAllowed m b p (parts_of p (GapFlaw v i) r)) (sym end.is) ((record { row = slot.row; is_row = slot.is_row; yet = slot.slot.yet last }, tt), tt)
      | inr join ↦ allowed_join v i slot r join
    ]
    | inr follow ↦ allowed_follow v i slot r follow
  ]

  -- the parts of a resolver may be done, one after another
  pub parts_allowed : (f : Flaw) (r : Resolver) → IsFlaw m b p f → IsResolver m b p f r → AreAllowed m b p (parts_of p f r)
  parts_allowed (GoalFlaw i) r h k = allowed_goal i r h k
  parts_allowed (NeedFlaw t j) r h k = allowed_need t j r h.0 h.1 k
  parts_allowed (GapFlaw v i) r h k = allowed_slot v i h r k
