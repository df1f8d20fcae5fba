-- A flaw has few resolvers, so that the numbers of children fit.
use Rattle.std.proofs.Common.{◌≡◌, ◌≢◌, ℕ, zero, suc, ◌+◌, ◌*◌, ◌<◌, ◌≤◌, true, false, Bool, List, [], ◌∷◌, ◌++◌, cond, filter, flat_map, length, length-append, map, nat_eq, nat_le, not, slice_get, Option, Some, None, ◌&&◌, ◌⊎◌, refl, sym, ap, ◌∙◌, subst, arith, inl, inr}
use Rattle.std.proofs.lemmas.Bool.{cases_Bool, cases_eq, eq-eqb, eqb-true, false≢true}
use Rattle.std.specs.List.{AllByRecursion}
use Rattle.hs_base.specs.Bounds.{goals_of, on_some}
use Rattle.hs_base.specs.Missions.{IsNeed, IsValue, IsVar}
use Rattle.hs_base.specs.Needs.{is_deferrable, needs_of, same_kind}
use Rattle.hs_base.specs.Points.{value_of}
use Rattle.hs_base.specs.declared.limits.TheConstants.{FREE_POINTS}
use Rattle.hs_base.specs.declared.ids.ValId.{ValId}
use Rattle.hs_base.specs.declared.mission.Choice.{Choice}
use Rattle.hs_base.specs.declared.mission.Goal.{Goal}
use Rattle.hs_base.specs.declared.mission.Kind.{Kind}
use Rattle.hs_base.specs.declared.mission.Mission.{Mission}
use Rattle.hs_base.specs.declared.mission.Need.{Need}
use Rattle.hs_base.specs.declared.mission.Value.{Value}
use Rattle.base_laws.proofs.ListLemmas.{each_at, each_weaker}
use Rattle.base_laws.proofs.MissionLemmas.{need_is, value_found}
use Rattle.compat_resolve.proofs.LineLemmas.{few_cells}
use Rattle.search_laws.proofs.RiseLemmas.{Rises, rises_filter, rises_from}
use Rattle.search_laws.specs.Good.{IsGood}
use Rattle.search_tree.proofs.CellLemmas.{length-map'}
use Rattle.search_tree.proofs.RootLemmas.{each_map}
use Rattle.search_tree.specs.Begun.{Begun, number}
use Rattle.search_tree.specs.Flaws.{flat_map_from, slots, slots_after, slots_from}
use Rattle.search_tree.specs.Outset.{MayBegin}
use Rattle.search_tree.specs.Partial.{Partial, at, cells, held_at, held_by, row}
use Rattle.search_tree.specs.Resolvers.{follows, free_with, growing, has_room, is_last, may_join, next_of, resolved, resolvers, wanted}
use Rattle.search_tree.specs.declared.flaw.Flaw.{Flaw}
use Rattle.search_tree.specs.declared.flaw.Flaw.TheVariants.{Gap as GapFlaw, Goal as GoalFlaw, Need as NeedFlaw}
use Rattle.search_tree.specs.declared.flaw.Resolver.{Resolver}
use Rattle.search_tree.specs.declared.flaw.Resolver.TheVariants.{Connect, Defer, Finish, Follow, Insert, Join}
use Rattle.search_tree.specs.declared.held.Cell.{Cell}

-- different numbers below n are at most n
abbrev without : ℕ → List ℕ → List ℕ
without n xs = filter (λ x. not (nat_eq x n)) xs

without_none : (n : ℕ) (xs : List ℕ) → AllByRecursion (λ x. n ≢ x) xs → length (without n xs) ≡ length xs
without_none n [] h = refl
without_none n (x ∷ xs) h = elim (cases_Bool (nat_eq x n)) [
  | inl same ↦ absurd (h.0 (sym (eqb-true x n same)))
  | inr other ↦ rw other (ap suc (without_none n xs h.1))
]

without_one : (n : ℕ) (xs : List ℕ) → Rises (λ a b. a ≢ b) xs → length xs ≤ suc (length (without n xs))
without_one n [] h = omega arith
without_one n (x ∷ xs) h = elim (cases_Bool (nat_eq x n)) [
  | inl same ↦ let e : x ≡ n = eqb-true x n same in let all = without_none n xs (subst (λ y. AllByRecursion (λ z. y ≢ z) xs) e h.0) in rw same (omega arith)
  | inr other ↦ let rest = without_one n xs h.1 in rw other (omega arith)
]

without_apart : (n : ℕ) (P : ℕ → Type 0) (xs : List ℕ) → AllByRecursion P xs → AllByRecursion (λ x. P x × (x ≢ n)) (without n xs)
without_apart n P [] h = tt
without_apart n P (x ∷ xs) h = elim (cases_Bool (nat_eq x n)) [
  | inl same ↦ rw same (without_apart n P xs h.1)
  | inr other ↦ rw other ((h.0, λ e. no (eq-eqb x n e) other), without_apart n P xs h.1)
]
  where
    no : {b : Bool} → b ≡ true → b ≡ false → ⊥
    no t f = false≢true (sym f ∙ t)

without_rises : (n : ℕ) (xs : List ℕ) → Rises (λ a b. a ≢ b) xs → Rises (λ a b. a ≢ b) (without n xs)
without_rises n xs h = rises_filter (λ a b. a ≢ b) (λ x. not (nat_eq x n)) xs h

few_below : (n : ℕ) (xs : List ℕ) → Rises (λ a b. a ≢ b) xs → AllByRecursion (λ x. x < n) xs → length xs ≤ n
few_below zero [] h below = omega arith
few_below zero (x ∷ xs) h below = let b = below.0 in absurd (omega arith)
few_below (suc n) xs h below =
    let rest = few_below n (without n xs) (without_rises n xs h) (each_weaker (λ x. (x < suc n) × (x ≢ n)) (λ x. x < n) (λ x k. less x n k.0 k.1 (cases_eq x n)) (without n xs) (without_apart n (λ x. x < suc n) xs below)) in
    let one = without_one n xs h in
    omega arith
  where
    less : (x n : ℕ) → x < suc n → (x ≢ n) → (x ≡ n) ⊎ (x ≡ n → ⊥) → x < n
    less x n below other (inl same) = absurd (other same)
    less x n below other (inr differ) = omega arith

rises_map : {X Y : Type 0} (f : X → Y) (xs : List X) → ((a b : X) → f a ≡ f b → a ≡ b) → Rises (λ a b. a ≢ b) xs → Rises (λ a b. a ≢ b) (map f xs)
rises_map f [] one h = tt
rises_map f (x ∷ xs) one h = (each_map (λ y. f x ≢ y) f xs (each_weaker (λ y. x ≢ y) (λ y. f x ≢ f y) (λ y d e. d (one x y e)) xs h.0), rises_map f xs one h.1)

-- the lists that resolvers come from
flat_few : {X Y : Type 0} (f : ℕ → X → List Y) (w : ℕ) (xs : List X) → ((i : ℕ) (x : X) → length (f i x) ≤ 1) → length (flat_map_from f w xs) ≤ length xs
flat_few f w [] h = omega arith
flat_few f w (x ∷ xs) h = let one = h w x in let rest = flat_few f (suc w) xs h in omega (arith, length-append (f w x) (flat_map_from f (suc w) xs))

if_few : {X : Type 0} (s : Bool) (xs : List X) → length (cond s xs []) ≤ length xs
if_few true xs = omega arith
if_few false xs = omega arith

if_few_else : {X : Type 0} (s : Bool) (xs ys : List X) (n : ℕ) → length xs ≤ n → length ys ≤ n → length (cond s xs ys) ≤ n
if_few_else true xs ys n h k = h
if_few_else false xs ys n h k = k

slots_after_few : (finished : Bool) (i : ℕ) (cs : List Cell) → length (slots_after finished i cs) ≤ suc (length cs)
slots_after_few true i [] = omega arith
slots_after_few false i [] = omega arith
slots_after_few finished i (c ∷ cs) =
    let one = if_few_else c.joined [] (i ∷ []) 1 (omega arith) (omega arith) in
    let rest = slots_after_few finished (suc i) cs in
    omega (arith, length-append (cond c.joined [] (i ∷ [])) (slots_after finished (suc i) cs))

slots_few : (finished : Bool) (cs : List Cell) → length (slots_from finished cs) ≤ length cs
slots_few finished [] = omega arith
slots_few finished (c ∷ cs) = slots_after_few finished 0 cs

module _ (m : Mission) (b : Begun) (p : Partial) (may : MayBegin m b) (good : IsGood m b p) where
  wanted_few : (k : Kind) → length (wanted b p k) ≤ 262144
  wanted_few k =
      let cs = cells (row p k.sv.0) in
      let f : ℕ → Cell → List Resolver = λ i c. cond (same_kind c.held.kind k) (Connect (at k.sv.0 i) ∷ []) [] in
      let news : List Resolver = map (λ i. Insert k.sv i k.value) (slots (row p k.sv.0)) in
      let few = few_cells m b p may good k.sv.0 in
      omega (arith, length-append (flat_map_from f 0 cs) (growing b p news), flat_few f 0 cs (λ i c. if_few (same_kind c.held.kind k) (Connect (at k.sv.0 i) ∷ [])), if_few (has_room b p) news, length-map' (λ i. Insert k.sv i k.value) (slots (row p k.sv.0)), slots_few (row p k.sv.0).finished cs)

  choices_few : (cs : List Choice) → length (flat_map (λ (c : Choice). wanted b p c.by) cs) ≤ 262144 * length cs
  choices_few [] = omega arith
  choices_few (c ∷ cs) = omega (arith, length-append (wanted b p c.by) (flat_map (λ (c : Choice). wanted b p c.by) cs), wanted_few c.by, choices_few cs)

  next_few : (k : Kind) → length (next_of m k) ≤ 256
  next_few k = by (value_of m k) refl
    where
      by : (o : Option Value) → value_of m k ≡ o → length (next_of m k) ≤ 256
      by None none = rw none (omega arith)
      by (Some v) some =
          let f = value_found m k v some in
          let var : IsVar (length m.words) f.0 = each_at (IsVar (length m.words)) m.vars k.sv.0 f.0 may.checked.mission.vars f.1 in
          let value : IsValue (length m.words) (length (f.0).values) v = each_at (IsValue (length m.words) (length (f.0).values)) (f.0).values k.value.0 v var.values f.2 in
          let numbers : length (map (λ (i : ValId). i.0) v.next) ≤ length (f.0).values = few_below (length (f.0).values) (map (λ (i : ValId). i.0) v.next) (rises_map (λ (i : ValId). i.0) v.next (λ a b e. ap (λ x. record { 0 = x }) e) (rises_from (λ a b. a ≢ b) v.next value.next_differ)) (each_map (λ x. x < length (f.0).values) (λ (i : ValId). i.0) v.next value.next) in
          let most = var.few_values in
          rw some (omega (arith, length-map' (λ (i : ValId). i.0) v.next))

  resolved_few : (f : Flaw) → length (resolved m b p f) ≤ 4194304
  resolved_few (GoalFlaw i) = by (slice_get (goals_of m (number b)) i)
    where
      by : (o : Option Goal) → length (on_some o (λ (g : Goal). wanted b p g.kind)) ≤ 4194304
      by None = omega arith
      by (Some g) = omega (arith, wanted_few g.kind)
  resolved_few (NeedFlaw t j) = by (slice_get (needs_of m (held_by p t).kind) j) refl
    where
      by : (o : Option Need) → slice_get (needs_of m (held_by p t).kind) j ≡ o → length (on_some o (λ (n : Need). flat_map (λ (c : Choice). wanted b p c.by) n.either ++ cond (is_deferrable n && is_last p t) (Defer ∷ []) [])) ≤ 4194304
      by None none = omega arith
      by (Some n) some =
          let need : IsNeed m.vars n = need_is m (held_by p t).kind j n may.checked.mission some in
          let most = need.few_choices in
          omega (arith, length-append (flat_map (λ (c : Choice). wanted b p c.by) n.either) (cond (is_deferrable n && is_last p t) (Defer ∷ []) []), choices_few n.either, if_few (is_deferrable n && is_last p t) (Defer ∷ []))
  resolved_few (GapFlaw v i) =
      let next = next_of m (held_at p v.0 i).kind in
      let rest = follows m b p (held_at p v.0 i) in
      let close = cond (is_last p (at v.0 i)) (Finish ∷ []) (cond (may_join m (held_at p v.0 i) (held_at p v.0 (suc i))) (Join ∷ []) []) in
      let one = if_few (may_join m (held_at p v.0 i) (held_at p v.0 (suc i))) (Join ∷ []) in
      let first = if_few_else (is_last p (at v.0 i)) (Finish ∷ []) (cond (may_join m (held_at p v.0 i) (held_at p v.0 (suc i))) (Join ∷ []) []) 1 (omega arith) one in
      omega (arith, length-append close rest, if_few (has_room b p) (map (λ n. Follow n) next), length-map' (λ n. Follow n) next, next_few (held_at p v.0 i).kind)

  pub resolvers_few : (f : Flaw) → length (resolvers m b p f) ≤ 4194304
  resolvers_few f = let all = resolved_few f in let some = if_few (nat_le (free_with b p 0) FREE_POINTS) (resolved m b p f) in omega arith
