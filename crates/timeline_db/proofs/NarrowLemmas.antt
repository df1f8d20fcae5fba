-- The bounds below LAST have the schedules of all, where the points stand within 0 to LAST.
use Rattle.std.proofs.Common.{◌≡◌, ℕ, ℤ, Bool, true, false, cond, List, [], ◌∷◌, ◌++◌, Option, None, Some, slice_get, pos, refl, arith}
use Rattle.std.proofs.lemmas.Int.{ints}
use Rattle.std.specs.List.{AllByRecursion}
use Rattle.std.specs.Prelude.{◌≤ℤ◌, int_lt}
use Rattle.hs_base.specs.Bounds.{apart, on_some, relation_bounds}
use Rattle.hs_base.specs.Needs.{choice_by, needs_of}
use Rattle.hs_base.specs.Ranges.{InRange, range, whole}
use Rattle.hs_base.specs.Schedule.{Schedule}
use Rattle.hs_base.specs.declared.limits.TheConstants.{LAST}
use Rattle.hs_base.specs.declared.mission.Choice.{Choice}
use Rattle.hs_base.specs.declared.mission.Goal.{Goal}
use Rattle.hs_base.specs.declared.mission.Mission.{Mission}
use Rattle.hs_base.specs.declared.mission.Need.{Need}
use Rattle.hs_base.specs.declared.net.Bound.{Bound}
use Rattle.hs_base.specs.declared.range.Range.{Range}
use Rattle.hs_base.specs.declared.relation.Relation.{Relation}
use Rattle.hs_base.specs.declared.relation.Relation.TheVariants.{After, Before, ContainedBy, Contains as Encloses, Ends, Equals, Meets as MeetsStart, MetBy, Starts}
use Rattle.base_laws.proofs.ListLemmas.{each_both}
use Rattle.base_laws.proofs.MissionLemmas.{each_filter}
use Rattle.search_tree.proofs.PartLemmas.{All', Both}
use Rattle.search_tree.specs.PartialBounds.{backing_bounds}
use Rattle.search_tree.specs.declared.backing.Backing.{Backing}
use Rattle.search_tree.specs.declared.held.Held.{Held}
use Rattle.timeline_db.specs.Kept.{goal_kept, narrow}

-- both points of a bound stand within 0 to LAST
pub record IsWhole (t : Schedule) (d : Bound) : Type 0 where
  pub from : InRange whole (t d.from.0)
  pub to : InRange whole (t d.to.0)

-- both points of a token stand within 0 to LAST
pub record IsWithin (t : Schedule) (x : Held) : Type 0 where
  pub start : InRange whole (t x.start)
  pub stop : InRange whole (t x.stop)

one_more : (t : Schedule) (d : Bound) (xs ys : List Bound) (b : Bool) → int_lt d.most LAST ≡ b → IsWhole t d → Both (All' t xs) (All' t ys) → Both (All' t (d ∷ xs)) (All' t (cond b (d ∷ ys) ys))
one_more t d xs ys true e h k = (λ a. (a.0, k.0 a.1), λ a. (a.0, k.1 a.1))
one_more t d xs ys false e h k =
    let more = not_less d.most e in
    (λ a. k.0 a.1, λ a. (omega (arith, ints, h.from.0, h.to.1), k.1 a))
  where
    not_less : (z : ℤ) → int_lt z LAST ≡ false → LAST ≤ℤ z
    not_less z e = grind (arith, ints)

-- the bounds that are left out are kept
pub narrow_both : (t : Schedule) (bs : List Bound) → AllByRecursion (IsWhole t) bs → Both (All' t bs) (All' t (narrow bs))
narrow_both t [] h = (λ k. k, λ k. k)
narrow_both t (d ∷ bs) h = one_more t d bs (narrow bs) (int_lt d.most LAST) refl h.0 (narrow_both t bs h.1)

-- what holds of all bounds holds of those below LAST
pub narrow_each : (P : Bound → Type 0) (bs : List Bound) → AllByRecursion P bs → AllByRecursion P (narrow bs)
narrow_each P bs h = each_filter P (λ (b : Bound). int_lt b.most LAST) bs h

on_each : {X : Type 0} (P : Bound → Type 0) (o : Option X) (f : X → List Bound) → ((x : X) → AllByRecursion P (f x)) → AllByRecursion P (on_some o f)
on_each P None f h = tt
on_each P (Some x) f h = h x

module _ (t : Schedule) where
  apart_whole : (x y : ℕ) (r : Range) → InRange whole (t x) → InRange whole (t y) → AllByRecursion (IsWhole t) (apart x y r)
  apart_whole x y r a b = (record { from = b; to = a }, (record { from = a; to = b }, tt))

  two_whole : (x y z w : ℕ) (r s : Range) → InRange whole (t x) → InRange whole (t y) → InRange whole (t z) → InRange whole (t w) → AllByRecursion (IsWhole t) (apart x y r ++ apart z w s)
  two_whole x y z w r s a b c d = each_both (IsWhole t) (apart x y r) (apart z w s) (apart_whole x y r a b) (apart_whole z w s c d)

  relation_whole : (r : Relation) (x x' y y' : ℕ) → InRange whole (t x) → InRange whole (t x') → InRange whole (t y) → InRange whole (t y') → AllByRecursion (IsWhole t) (relation_bounds r x x' y y')
  relation_whole (Before r) x x' y y' a b c d = apart_whole y x' r c b
  relation_whole (After r) x x' y y' a b c d = apart_whole x y' r a d
  relation_whole MeetsStart x x' y y' a b c d = apart_whole y x' (range (pos 0) (pos 0)) c b
  relation_whole MetBy x x' y y' a b c d = apart_whole x y' (range (pos 0) (pos 0)) a d
  relation_whole (Starts r) x x' y y' a b c d = apart_whole y x r c a
  relation_whole (Ends r) x x' y y' a b c d = apart_whole y' x' r d b
  relation_whole Equals x x' y y' a b c d = two_whole y x y' x' (range (pos 0) (pos 0)) (range (pos 0) (pos 0)) c a d b
  relation_whole (Encloses r s) x x' y y' a b c d = two_whole y x x' y' r s c a b d
  relation_whole (ContainedBy r s) x x' y y' a b c d = two_whole x y y' x' r s a c d b

  -- a support's bounds are between the points of its tokens
  pub backing_whole : (m : Mission) (s : Backing) → IsWithin t s.token → IsWithin t s.by → AllByRecursion (IsWhole t) (backing_bounds m s)
  backing_whole m s x y =
      on_each (IsWhole t) (slice_get (needs_of m s.token.kind) s.need) (λ (n : Need). on_some (choice_by n s.by.kind) (λ (c : Choice). relation_bounds c.relation s.token.start s.token.stop s.by.start s.by.stop)) (λ n.
      on_each (IsWhole t) (choice_by n s.by.kind) (λ (c : Choice). relation_bounds c.relation s.token.start s.token.stop s.by.start s.by.stop) (λ c.
      relation_whole c.relation s.token.start s.token.stop s.by.start s.by.stop x.start x.stop y.start y.stop))

  -- a goal's bounds are between the points of its token and point 0
  pub goal_whole : (o : Option Goal) (x : Held) → InRange whole (t 0) → IsWithin t x → AllByRecursion (IsWhole t) (on_some o (λ (g : Goal). goal_kept g x))
  goal_whole o x origin h = on_each (IsWhole t) o (λ (g : Goal). goal_kept g x) (λ g. two_whole x.start 0 x.stop 0 g.start g.stop h.start origin h.stop origin)
