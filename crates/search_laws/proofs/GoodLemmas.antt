-- Parts that are allowed keep a partial plan good.
use Rattle.std.proofs.Common.{◌≡◌, ℕ, suc, ◌+◌, ◌-◌, ◌<◌, ◌≤◌, List, [], ◌∷◌, ◌++◌, length, true, refl, arith}
use Rattle.std.specs.List.{AllByRecursion}
use Rattle.hs_base.specs.declared.mission.Mission.{Mission}
use Rattle.base_laws.proofs.ListLemmas.{each_both, each_weaker}
use Rattle.search_tree.proofs.RootLemmas.{root_sound}
use Rattle.search_tree.proofs.SizeLemmas.{few_all, few_new_root, new_changed, new_inserted, room_for, small_part, small_root}
use Rattle.search_tree.proofs.SoundLemmas.{in_range, length-at_place, sound_part}
use Rattle.search_tree.specs.Begun.{Begun}
use Rattle.search_tree.specs.May.{HasRoom, MayDo}
use Rattle.search_tree.specs.Outset.{MayBegin}
use Rattle.search_tree.specs.Partial.{Partial, begin, held_by}
use Rattle.search_tree.specs.Parts.{close, do_part, do_parts, end_row, gap_cell, joined_cell}
use Rattle.search_tree.specs.Resolvers.{new_tokens}
use Rattle.search_tree.specs.declared.backing.Deferral.{Deferral}
use Rattle.search_tree.specs.declared.held.Cell.{Cell}
use Rattle.search_tree.specs.declared.part.Part.{Part}
use Rattle.search_tree.specs.declared.part.Part.TheVariants.{Deferred, Finished, Followed, Inserted, Joined, MetGoal, Supported}
use Rattle.search_laws.proofs.ApartLemmas.{apart_part, apart_root}
use Rattle.search_laws.specs.Good.{AreAllowed, IsGood}

pub good_root : (m : Mission) (b : Begun) → MayBegin m b → IsGood m b (begin m b)
good_root m b may = record { sound = root_sound m b may; small = small_root m b; few = few_new_root m b may; apart = apart_root m b; left = tt }

few_part : (m : Mission) (b : Begun) (p : Partial) (x : Part) → MayDo m b p x → HasRoom b p x → new_tokens p ≤ 128 → new_tokens (do_part p x) ≤ 128
few_part m b p (Inserted v i value) h room few = omega (arith, room_for b p room, new_inserted m b p v.0 i (gap_cell p v.0 value.0) h.row h.is_row)
few_part m b p (Followed v i value) h room few = omega (arith, room_for b p room, new_inserted m b p v.0 i (joined_cell p v.0 i value.0) h.insert.row h.insert.is_row)
few_part m b p (Joined v i) h room few = let e = new_changed (close i) 0 v.0 p.rows h.row h.is_row (λ q. omega (arith, length-at_place (λ (c : Cell). record { held = c.held; joined = true }) (suc i - length q.given) q.added)) in omega arith
few_part m b p (Finished v) h room few = let e = new_changed end_row 0 v.0 p.rows h.row h.is_row (λ q. omega arith) in omega arith
few_part m b p (Supported t i by) h room few = few
few_part m b p (MetGoal g by) h room few = few
few_part m b p (Deferred t i) h room few = few

pub left_more : (n k : ℕ) (ds : List Deferral) → n ≤ k → AllByRecursion (λ (d : Deferral). d.stop < n) ds → AllByRecursion (λ (d : Deferral). d.stop < k) ds
left_more n k ds l h = each_weaker (λ (d : Deferral). d.stop < n) (λ (d : Deferral). d.stop < k) (λ d e. omega arith) ds h

left_part : (m : Mission) (b : Begun) (p : Partial) (x : Part) → MayDo m b p x → IsGood m b p → AllByRecursion (λ (d : Deferral). d.stop < (do_part p x).points) (do_part p x).deferred
left_part m b p (Inserted v i value) h g = left_more p.points (p.points + 2) p.deferred (omega arith) g.left
left_part m b p (Followed v i value) h g = left_more p.points (p.points + 1) p.deferred (omega arith) g.left
left_part m b p (Joined v i) h g = left_more p.points (p.points + 0) p.deferred (omega arith) g.left
left_part m b p (Finished v) h g = left_more p.points (p.points + 0) p.deferred (omega arith) g.left
left_part m b p (Supported t i by) h g = g.left
left_part m b p (MetGoal k by) h g = g.left
left_part m b p (Deferred t i) h g =
    let at = in_range m b p g.sound t h.token in
    each_both (λ (d : Deferral). d.stop < p.points) p.deferred (record { stop = (held_by p t).stop; need = i } ∷ []) g.left ((g.sound.fresh (held_by p t).kind.sv.0 (held_by p t) at).1, tt)

pub good_part : (m : Mission) (b : Begun) (p : Partial) (x : Part) → MayDo m b p x → HasRoom b p x → IsGood m b p → IsGood m b (do_part p x)
good_part m b p x may room g = record {
  sound = sound_part m b p g.sound x may;
  small = small_part m b p x may g.small;
  few = few_part m b p x may room g.few;
  apart = apart_part m b p g.sound g.apart x may;
  left = left_part m b p x may g;
}

pub good_all : (m : Mission) (b : Begun) (p : Partial) (xs : List Part) → AreAllowed m b p xs → IsGood m b p → IsGood m b (do_parts p xs)
good_all m b p [] h g = g
good_all m b p (x ∷ xs) h g = good_all m b (do_part p x) xs h.1 (good_part m b p x h.0.0 h.0.1 g)

-- it has no more than 131,072 points
pub good_points : (m : Mission) (b : Begun) (p : Partial) → MayBegin m b → IsGood m b p → p.points ≤ 131072
good_points m b p may g = few_all m b p may g.small g.few

-- the parts one after another
pub do_parts-append : (p : Partial) (xs ys : List Part) → do_parts p (xs ++ ys) ≡ do_parts (do_parts p xs) ys
do_parts-append p [] ys = refl
do_parts-append p (x ∷ xs) ys = do_parts-append (do_part p x) xs ys

pub allowed-push : (m : Mission) (b : Begun) (p : Partial) (xs : List Part) (x : Part) → AreAllowed m b p xs → MayDo m b (do_parts p xs) x → HasRoom b (do_parts p xs) x → AreAllowed m b p (xs ++ x ∷ [])
allowed-push m b p [] x h may room = ((may, room), tt)
allowed-push m b p (y ∷ xs) x h may room = (h.0, allowed-push m b (do_part p y) xs x h.1 may room)

-- and what was allowed before the last one
pub allowed-front : (m : Mission) (b : Begun) (p : Partial) (xs ys : List Part) → AreAllowed m b p (xs ++ ys) → AreAllowed m b p xs × AreAllowed m b (do_parts p xs) ys
allowed-front m b p [] ys h = (tt, h)
allowed-front m b p (x ∷ xs) ys h = let r = allowed-front m b (do_part p x) xs ys h.1 in ((h.0, r.0), r.1)

-- more that may be done after it
pub allowed-append : (m : Mission) (b : Begun) (p : Partial) (xs ys : List Part) → AreAllowed m b p xs → AreAllowed m b (do_parts p xs) ys → AreAllowed m b p (xs ++ ys)
allowed-append m b p [] ys h k = k
allowed-append m b p (x ∷ xs) ys h k = (h.0, allowed-append m b (do_part p x) xs ys h.1 k)
