-- The flaws of a partial plan.
use Rattle.std.specs.List.{list_any}
use Rattle.std.specs.Prelude.{Bool, List, None, Option, Some, [], cond, flat_map, length, map, nat_eq, suc, ℕ, ◌&&◌, ◌++◌, ◌||◌, ◌∷◌}
use Rattle.hs_base.specs.Checked.{supports_of}
use Rattle.hs_base.specs.Needs.{needs_of}
use Rattle.hs_base.specs.Points.{stop}
use Rattle.hs_base.specs.Schedule.{numbers_from}
use Rattle.hs_base.specs.declared.mission.Mission.{Mission}
use Rattle.hs_base.specs.declared.plan.Support.{Support}
use Rattle.search_tree.specs.Begun.{Begun}
use Rattle.search_tree.specs.Partial.{Partial, Row, at, cells}
use Rattle.search_tree.specs.declared.backing.Backing.{Backing}
use Rattle.search_tree.specs.declared.backing.Deferral.{Deferral}
use Rattle.search_tree.specs.declared.flaw.Flaw.{Flaw}
use Rattle.search_tree.specs.declared.flaw.Flaw.TheVariants.{Gap as GapFlaw, Goal as GoalFlaw, Need as NeedFlaw}
use Rattle.search_tree.specs.declared.held.Cell.{Cell}
use Rattle.search_tree.specs.declared.held.Held.{Held}

-- what f gives for each element and its place, from that place on
abbrev pub flat_map_from : {X Y : Type 0} → (ℕ → X → List Y) → ℕ → List X → List Y
flat_map_from f i [] = []
flat_map_from f i (x ∷ xs) = f i x ++ flat_map_from f (suc i) xs

-- gaps, and the open end, each by the place of the token before it
abbrev pub slots_after : Bool → ℕ → List Cell → List ℕ
slots_after finished i [] = cond finished [] (i ∷ [])
slots_after finished i (c ∷ cs) = cond c.joined [] (i ∷ []) ++ slots_after finished (suc i) cs

abbrev pub slots_from : Bool → List Cell → List ℕ
slots_from finished [] = []
slots_from finished (c ∷ cs) = slots_after finished 0 cs

abbrev pub slots : Row → List ℕ
slots r = slots_from r.finished (cells r)

-- need j of the token is served in the plan that is extended or in this one, or left to a later one: what
-- earlier plans left doesn't count
abbrev pub is_served : Begun → Partial → Held → ℕ → Bool
is_served b p x j =
    list_any (λ (s : Support). nat_eq (stop b.base s.token) x.stop && nat_eq s.need j) (supports_of b.base)
    || list_any (λ (s : Backing). nat_eq s.token.stop x.stop && nat_eq s.need j) p.supports || list_any (λ (d : Deferral). nat_eq d.stop x.stop && nat_eq d.need j) p.deferred

abbrev pub needs_open : Mission → Begun → Partial → ℕ → ℕ → Cell → List Flaw
needs_open m b p v i c =
    flat_map (λ j. cond (is_served b p c.held j) [] (NeedFlaw (at v i) j ∷ [])) (numbers_from 0 (length (needs_of m c.held.kind)))

abbrev pub goal_flaws : ℕ → Option Held → List Flaw
goal_flaws i None = GoalFlaw i ∷ []
goal_flaws i (Some x) = []

-- the goals without a token, by number
abbrev pub open_goals : Partial → List Flaw
open_goals p = flat_map_from goal_flaws 0 p.goals

-- the needs that are not served, by variable, place and number
abbrev pub open_needs : Mission → Begun → Partial → List Flaw
open_needs m b p = flat_map_from (λ v (r : Row). flat_map_from (needs_open m b p v) 0 (cells r)) 0 p.rows

-- the gaps and open ends, by variable and place
abbrev pub open_slots : Partial → List Flaw
open_slots p = flat_map_from (λ v r. map (GapFlaw (record { 0 = v })) (slots r)) 0 p.rows

-- all flaws, the first one first
abbrev pub flaws : Mission → Begun → Partial → List Flaw
flaws m b p = open_goals p ++ open_needs m b p ++ open_slots p
