-- What a resolver that is listed says.
use Rattle.std.proofs.Common.{◌≡◌, ◌⊎◌, ℕ, zero, suc, ◌+◌, ◌≤◌, true, false, Bool, List, [], ◌∷◌, ◌++◌, cond, flat_map, get_or, length, map, nat_eq, nat_le, slice_get, Option, Some, None, ◌&&◌, refl, sym, ap, ◌∙◌, arith, inl, inr}
use Rattle.std.proofs.lemmas.Bool.{and_parts, cases_lt, eq-eqb, eqb-true, false≢true}
use Rattle.std.proofs.lemmas.Bool.Decides.{nat_tests}
use Rattle.std.proofs.lemmas.Option.{slice_get-get_or}
use Rattle.hs_base.specs.Bounds.{goals_of, on_some}
use Rattle.hs_base.specs.Needs.{is_deferrable, needs_of, same_kind}
use Rattle.hs_base.specs.declared.limits.TheConstants.{FREE_POINTS}
use Rattle.hs_base.specs.declared.ids.ValId.{ValId}
use Rattle.hs_base.specs.declared.mission.Choice.{Choice}
use Rattle.hs_base.specs.declared.mission.Goal.{Goal}
use Rattle.hs_base.specs.declared.mission.Kind.{Kind}
use Rattle.hs_base.specs.declared.mission.Mission.{Mission}
use Rattle.hs_base.specs.declared.mission.Need.{Need}
use Rattle.hs_base.specs.declared.plan.TokenRef.{TokenRef}
use Rattle.search_laws.proofs.FlawLemmas.{HasSlot, has_one, slot_is}
use Rattle.search_laws.proofs.HasLemmas.{Has, has_either, of_flat_map, of_flat_map_from, of_map}
use Rattle.search_laws.specs.Lawful.{IsWithin}
use Rattle.search_tree.proofs.CellLemmas.{held_is}
use Rattle.search_tree.proofs.PlanOfNode.{zero_plus}
use Rattle.search_tree.specs.Begun.{Begun, number}
use Rattle.search_tree.specs.Flaws.{flat_map_from, slots}
use Rattle.search_tree.specs.May.{IsThere}
use Rattle.search_tree.specs.Partial.{Partial, Row, at, cells, held_at, held_by, no_row, row}
use Rattle.search_tree.specs.Resolvers.{follows, free_with, growing, has_room, is_last, may_join, next_of, resolved, resolvers, wanted}
use Rattle.search_tree.specs.declared.flaw.Flaw.{Flaw}
use Rattle.search_tree.specs.declared.flaw.Flaw.TheVariants.{Gap as GapFlaw, Goal as GoalFlaw, Need as NeedFlaw}
use Rattle.search_tree.specs.declared.flaw.Resolver.{Resolver}
use Rattle.search_tree.specs.declared.flaw.Resolver.TheVariants.{Connect, Defer, Finish, Follow, Insert, Join}
use Rattle.search_tree.specs.declared.held.Cell.{Cell}
use Rattle.search_tree.specs.declared.held.Held.{Held}

pub has_none : {X : Type 0} (x : X) → Has [] x → ⊥
has_none x h = absurd (let e : slice_get [] h.0 ≡ Some x = h.1 in cc)

-- an element of a list that is there under a condition
pub has_if : {X : Type 0} (s : Bool) (xs : List X) (x : X) → Has (cond s xs []) x → (s ≡ true) × Has xs x
has_if true xs x h = (refl, h)
has_if false xs x h = absurd (has_none x h)

pub has_cond : {X : Type 0} (s : Bool) (xs ys : List X) (x : X) → Has (cond s xs ys) x → ((s ≡ true) × Has xs x) ⊎ ((s ≡ false) × Has ys x)
has_cond true xs ys x h = inl (refl, h)
has_cond false xs ys x h = inr (refl, h)

pub has_some : {X Y : Type 0} (o : Option X) (f : X → List Y) (y : Y) → Has (on_some o f) y → (x : X) × (o ≡ Some x) × Has (f x) y
has_some None f y h = absurd (has_none y h)
has_some (Some x) f y h = (x, refl, h)

pub kinds_same : (a k : Kind) → same_kind a k ≡ true → a ≡ k
kinds_same a k h =
    let parts = and_parts (nat_eq a.sv.0 k.sv.0) (nat_eq a.value.0 k.value.0) h in
    ap (λ v. record { sv = record { 0 = v }; value = a.value }) (eqb-true _ _ parts.0) ∙ ap (λ v. record { sv = k.sv; value = record { 0 = v } }) (eqb-true _ _ parts.1)

-- a row with a token or a slot is one of the plan's
row_is : (p : Partial) (v : ℕ) → (slice_get p.rows v ≡ Some (row p v)) ⊎ (row p v ≡ no_row)
row_is p v = elim (cases_lt v (length p.rows)) [ inl below ↦ inl (slice_get-get_or p.rows v no_row below) | inr past ↦ inr (beyond p.rows v past) ]
  where
    beyond : (rows : List Row) (v : ℕ) → length rows ≤ v → get_or rows v no_row ≡ no_row
    beyond [] v past = refl
    beyond (r ∷ rows) zero past = absurd (omega arith)
    beyond (r ∷ rows) (suc v) past = beyond rows v (omega arith)

-- a token of the kind serves, or a new one is put into a slot
pub record IsConnect (p : Partial) (k : Kind) (r : Resolver) : Type 0 where
  pub by : TokenRef
  pub is : r ≡ Connect by
  pub there : IsThere p by
  pub kind : (held_by p by).kind ≡ k

pub record IsInsert (b : Begun) (p : Partial) (k : Kind) (r : Resolver) : Type 0 where
  pub place : ℕ
  pub is : r ≡ Insert k.sv place k.value
  pub room : has_room b p ≡ true
  pub at : HasSlot p k.sv.0 place

abbrev pub IsWanted : Begun → Partial → Kind → Resolver → Type 0
IsWanted b p k r = IsConnect p k r ⊎ IsInsert b p k r

pub wanted_is : (b : Begun) (p : Partial) (k : Kind) (r : Resolver) → Has (wanted b p k) r → IsWanted b p k r
wanted_is b p k r h = elim (row_is p k.sv.0) [
  | inl is ↦ there is
  | inr none ↦
      let f : Has (growing b p []) r = rw none at h in
      absurd (has_none r (has_if (has_room b p) [] r f).1)
]
  where
    connects : List Resolver
    connects = flat_map_from (λ i (c : Cell). cond (same_kind c.held.kind k) (Connect (at k.sv.0 i) ∷ []) []) 0 (cells (row p k.sv.0))

    inserts : List Resolver
    inserts = map (λ i. Insert k.sv i k.value) (slots (row p k.sv.0))

    there : slice_get p.rows k.sv.0 ≡ Some (row p k.sv.0) → IsWanted b p k r
    there is = elim (has_either connects (growing b p inserts) r h) [
      | inl old ↦
          let c = of_flat_map_from (λ i (c : Cell). cond (same_kind c.held.kind k) (Connect (at k.sv.0 i) ∷ []) []) 0 (cells (row p k.sv.0)) r old in
          let one = has_if (same_kind (c.1).held.kind k) (Connect (at k.sv.0 (0 + c.0)) ∷ []) r c.3 in
          let here : slice_get (cells (row p k.sv.0)) (0 + c.0) ≡ Some c.1 = ap (slice_get (cells (row p k.sv.0))) (zero_plus c.0) ∙ c.2 in
          inl (record {
            by = at k.sv.0 (0 + c.0);
            is = sym (has_one (Connect (at k.sv.0 (0 + c.0))) r one.1);
            there = record { row = row p k.sv.0; is_row = is; cell = c.1; here = here };
            kind = ap (λ (x : Held). x.kind) (held_is p k.sv.0 (0 + c.0) (row p k.sv.0) c.1 is here) ∙ kinds_same (c.1).held.kind k one.0;
          })
      | inr new ↦
          let g = has_if (has_room b p) inserts r new in
          let s = of_map (λ i. Insert k.sv i k.value) (slots (row p k.sv.0)) r g.1 in
          inr (record { place = s.0; is = sym s.2; room = g.0; at = record { row = row p k.sv.0; is_row = is; slot = slot_is (row p k.sv.0) s.0 s.1 } })
    ]

-- for a goal: a token of its kind
pub record ForGoal (m : Mission) (b : Begun) (p : Partial) (i : ℕ) (r : Resolver) : Type 0 where
  pub goal : Goal
  pub is_goal : slice_get (goals_of m (number b)) i ≡ Some goal
  pub wants : IsWanted b p goal.kind r

-- for a need: a token of one of its choices, or it is left to a later plan
pub record ForChoice (b : Begun) (p : Partial) (n : Need) (r : Resolver) : Type 0 where
  pub choice : Choice
  pub one : Has n.either choice
  pub wants : IsWanted b p choice.by r

pub record IsDefer (p : Partial) (t : TokenRef) (n : Need) (r : Resolver) : Type 0 where
  pub is : r ≡ Defer
  pub may_wait : is_deferrable n ≡ true
  pub last : suc t.place ≡ length (cells (row p t.sv.0))

pub record ForNeed (m : Mission) (b : Begun) (p : Partial) (t : TokenRef) (j : ℕ) (r : Resolver) : Type 0 where
  pub need : Need
  pub is_need : slice_get (needs_of m (held_by p t).kind) j ≡ Some need
  pub ways : ForChoice b p need r ⊎ IsDefer p t need r

-- for a slot: its closing, or a token that may follow
pub record IsFinish (p : Partial) (v i : ℕ) (r : Resolver) : Type 0 where
  pub is : r ≡ Finish
  pub last : suc i ≡ length (cells (row p v))

pub record IsJoin (m : Mission) (p : Partial) (v i : ℕ) (r : Resolver) : Type 0 where
  pub is : r ≡ Join
  pub more : suc i ≡ length (cells (row p v)) → ⊥
  pub next : may_join m (held_at p v i) (held_at p v (suc i)) ≡ true

pub record IsFollow (m : Mission) (b : Begun) (p : Partial) (v i : ℕ) (r : Resolver) : Type 0 where
  pub value : ValId
  pub is : r ≡ Follow value
  pub room : has_room b p ≡ true
  pub next : Has (next_of m (held_at p v i).kind) value

abbrev pub ForSlot : Mission → Begun → Partial → ℕ → ℕ → Resolver → Type 0
ForSlot m b p v i r = (IsFinish p v i r ⊎ IsJoin m p v i r) ⊎ IsFollow m b p v i r

abbrev pub IsResolver : Mission → Begun → Partial → Flaw → Resolver → Type 0
IsResolver m b p (GoalFlaw i) r = ForGoal m b p i r
IsResolver m b p (NeedFlaw t j) r = ForNeed m b p t j r
IsResolver m b p (GapFlaw v i) r = ForSlot m b p v.0 i r

module _ (m : Mission) (b : Begun) (p : Partial) where
  last_is : (t : TokenRef) → is_last p t ≡ true → suc t.place ≡ length (cells (row p t.sv.0))
  last_is t h = eqb-true _ _ h

  for_need : (t : TokenRef) (j : ℕ) (r : Resolver) → Has (resolved m b p (NeedFlaw t j)) r → ForNeed m b p t j r
  for_need t j r h =
      let n = has_some (slice_get (needs_of m (held_by p t).kind) j) (λ (n : Need). flat_map (λ (c : Choice). wanted b p c.by) n.either ++ cond (is_deferrable n && is_last p t) (Defer ∷ []) []) r h in
      let ways = has_either (flat_map (λ (c : Choice). wanted b p c.by) (n.0).either) (cond (is_deferrable n.0 && is_last p t) (Defer ∷ []) []) r n.2 in
      record {
        need = n.0;
        is_need = n.1;
        ways = elim ways [
          | inl serve ↦ let c = of_flat_map (λ (c : Choice). wanted b p c.by) (n.0).either r serve in inl (record { choice = c.0; one = c.1; wants = wanted_is b p (c.0).by r c.2 })
          | inr wait ↦
              let d = has_if (is_deferrable n.0 && is_last p t) (Defer ∷ []) r wait in
              let parts = and_parts (is_deferrable n.0) (is_last p t) d.0 in
              inr (record { is = sym (has_one Defer r d.1); may_wait = parts.0; last = last_is t parts.1 })
        ];
      }

  for_slot : (v i : ℕ) (r : Resolver) → Has (resolved m b p (GapFlaw (record { 0 = v }) i)) r → ForSlot m b p v i r
  for_slot v i r h = elim (has_either (cond (is_last p (at v i)) (Finish ∷ []) (cond (may_join m (held_at p v i) (held_at p v (suc i))) (Join ∷ []) [])) (follows m b p (held_at p v i)) r h) [
    | inl close ↦ elim (has_cond (is_last p (at v i)) (Finish ∷ []) (cond (may_join m (held_at p v i) (held_at p v (suc i))) (Join ∷ []) []) r close) [
      | inl end ↦ inl (inl (record { is = sym (has_one Finish r end.1); last = last_is (at v i) end.0 }))
      | inr gap ↦
          let j = has_if (may_join m (held_at p v i) (held_at p v (suc i))) (Join ∷ []) r gap.1 in
          inl (inr (record { is = sym (has_one Join r j.1); more = λ e. false≢true (sym gap.0 ∙ eq-eqb _ _ e); next = j.0 }))
    ]
    | inr follow ↦
        let f = has_if (has_room b p) (map (λ (n : ValId). Follow n) (next_of m (held_at p v i).kind)) r follow in
        let n = of_map (λ (n : ValId). Follow n) (next_of m (held_at p v i).kind) r f.1 in
        inr (record { value = n.0; is = sym n.2; room = f.0; next = n.1 })
  ]

  pub resolver_is : (f : Flaw) (r : Resolver) → Has (resolved m b p f) r → IsResolver m b p f r
  resolver_is (GoalFlaw i) r h = let g = has_some (slice_get (goals_of m (number b)) i) (λ (g : Goal). wanted b p g.kind) r h in record { goal = g.0; is_goal = g.1; wants = wanted_is b p (g.0).kind r g.2 }
  resolver_is (NeedFlaw t j) r h = for_need t j r h
  resolver_is (GapFlaw v i) r h = for_slot v.0 i r h

  -- where there is a resolver the plan is within the limit
  pub resolvers_within : (f : Flaw) (r : Resolver) → Has (resolvers m b p f) r → IsWithin b p × Has (resolved m b p f) r
  resolvers_within f r h =
      let g = has_if (nat_le (free_with b p 0) FREE_POINTS) (resolved m b p f) r h in
      (le_from (free_with b p 0) FREE_POINTS g.0, g.1)
    where
      le_from : (a c : ℕ) → nat_le a c ≡ true → a ≤ c
      le_from a c h = grind (arith, nat_tests)
