-- Trails that grow by the points and bounds of an extension.
use Rattle.std.proofs.Common.{◌≡◌, ℕ, ◌+◌, ◌<◌, List, [], ◌∷◌, ◌++◌, length, take, drop, get_or, Some, sym, ap, ◌∙◌, subst, append_assoc, append-nil, arith}
use Rattle.std.proofs.lemmas.List.{take_more, take-append-drop}
use Rattle.std.proofs.lemmas.Option.{slice_get_within}
use Rattle.std.specs.Prelude.{slice_get, Contains}
use Rattle.hs_base.specs.declared.net.Bound.{Bound}
use Rattle.hs_base.specs.Cycles.{IsNegativeCycle}
use Rattle.base_laws.proofs.ListLemmas.{slice_get-append_left}
use Rattle.plan_laws.proofs.ChainLemmas.{contained_at}
use Rattle.stn_distance.specs.Broken.{IfCycle}
use Rattle.stn_distance.specs.declared.broken.Broken.{Broken}
use Rattle.stn_distance.specs.declared.broken.Broken.TheVariants.{Cycle, Memory}
use Rattle.stn_trail.proofs.PartLemmas.{added-append}
use Rattle.stn_trail.specs.Held.{Appends, Held, IsFresh, bounds_of, points_of, added, grown}
use Rattle.stn_trail.specs.declared.part.Part.TheVariants.{Added, Grown}
use Rattle.plan_check.proofs.SupportLemmas.{contains_from}

-- a point more leaves the bounds
pub bounds_grown : (a b : Held) → Appends Grown a b → bounds_of b ≡ bounds_of a
bounds_grown a b h = ap added h.parts ∙ added-append a.parts (Grown ∷ []) ∙ append-nil (bounds_of a)

-- the bounds with one more of a list
pub bounds_more : (bs : List Bound) (i : ℕ) (d : Bound) (a b c : Held) → i < length bs → bounds_of b ≡ bounds_of a ++ take i bs → Appends (Added (get_or bs i d)) b c → bounds_of c ≡ bounds_of a ++ take (i + 1) bs
bounds_more bs i d a b c below was h =
    ap added h.parts ∙ added-append b.parts (Added (get_or bs i d) ∷ [])
    ∙ ap (λ (l : List Bound). l ++ get_or bs i d ∷ []) was
    ∙ append_assoc (bounds_of a) (take i bs) (get_or bs i d ∷ [])
    ∙ ap (λ (l : List Bound). bounds_of a ++ l) (sym (take_more bs i d below))

-- what the front of a list contains the list contains
contains_front : {X : Type 0} (xs ys : List X) (x : X) → Contains xs x → Contains (xs ++ ys) x
contains_front xs ys x has =
    let at = contained_at xs x has in
    contains_from (xs ++ ys) at.0 x (slice_get-append_left xs ys at.0 (slice_get_within xs at.0 x at.1) ∙ at.1)

-- a cycle of the front of a list is one of the list
pub cycle_front : (xs ys cycle : List Bound) → IsNegativeCycle xs cycle → IsNegativeCycle (xs ++ ys) cycle
cycle_front xs ys cycle h = record { given = λ k d below. contains_front xs ys (get_or cycle k d) (h.given k d below); closed = h.closed; distinct = h.distinct; negative = h.negative }

-- what is told of a refused bound is told of all
pub cycle_at : (bs : List Bound) (i : ℕ) (d : Bound) (a b : Held) (broken : Broken) → i < length bs → bounds_of b ≡ bounds_of a ++ take i bs → IfCycle broken (IsNegativeCycle (bounds_of b ++ get_or bs i d ∷ [])) → IfCycle broken (IsNegativeCycle (bounds_of a ++ bs))
cycle_at bs i d a b Memory below was h = h
cycle_at bs i d a b (Cycle cycle) below was h =
    let front : bounds_of b ++ get_or bs i d ∷ [] ≡ bounds_of a ++ take (i + 1) bs =
    ap (λ (l : List Bound). l ++ get_or bs i d ∷ []) was ∙ append_assoc (bounds_of a) (take i bs) (get_or bs i d ∷ []) ∙ ap (λ (l : List Bound). bounds_of a ++ l) (sym (take_more bs i d below)) in
    let whole : (bounds_of a ++ take (i + 1) bs) ++ drop (i + 1) bs ≡ bounds_of a ++ bs = append_assoc (bounds_of a) (take (i + 1) bs) (drop (i + 1) bs) ∙ ap (λ (l : List Bound). bounds_of a ++ l) (take-append-drop (i + 1) bs) in
    subst (λ (l : List Bound). IsNegativeCycle l cycle) whole (cycle_front (bounds_of a ++ take (i + 1) bs) (drop (i + 1) bs) cycle (subst (λ (l : List Bound). IsNegativeCycle l cycle) front h))

-- a fresh trail has its points and no bound
pub fresh_points : (n : ℕ) (t : Held) → IsFresh n t → points_of t ≡ n
fresh_points n t h = omega (arith, h.first, ap grown h.parts)

pub fresh_bounds : (n : ℕ) (t : Held) → IsFresh n t → bounds_of t ≡ []
fresh_bounds n t h = ap added h.parts
