-- What the calls of a Db that serve and leave needs and meet goals know, and what they tell.
use Rattle.std.proofs.Common.{◌≡◌, ℕ, suc, ◌<◌, false, List, [], ◌∷◌, ◌++◌, None, Some, length, set, slice_get, sym, ap, ◌∙◌, subst, arith}
use Rattle.std.proofs.lemmas.Option.{slice_get-get_or, slice_get_within}
use Rattle.hs_base.specs.Bounds.{goals_of, on_some}
use Rattle.hs_base.specs.Needs.{needs_of}
use Rattle.hs_base.specs.declared.mission.Goal.{Goal}
use Rattle.hs_base.specs.declared.mission.Mission.{Mission}
use Rattle.hs_base.specs.declared.net.Bound.{Bound}
use Rattle.hs_base.specs.declared.plan.Extension.{Extension}
use Rattle.hs_base.specs.declared.plan.Support.{Support}
use Rattle.hs_base.specs.declared.plan.TokenRef.{TokenRef}
use Rattle.search_tree.specs.Begun.{number}
use Rattle.search_tree.specs.Flaws.{is_served}
use Rattle.search_tree.specs.May.{IsThere}
use Rattle.search_tree.specs.Partial.{Partial, held_by}
use Rattle.search_tree.specs.PartialBounds.{backing_bounds}
use Rattle.search_tree.specs.declared.backing.Backing.{Backing}
use Rattle.search_tree.specs.declared.held.Held.{Held}
use Rattle.search_tree.specs.declared.part.Part.TheVariants.{Deferred, MetGoal, Supported}
use Rattle.timeline_db.proofs.DoingLemmas.{IsHeldIn, begun_in, may_in, mid_gains, mid_steps, seen_in}
use Rattle.timeline_db.proofs.OwnLemmas.{token_shown}
use Rattle.timeline_db.proofs.SettleLemmas.{need_counted}
use Rattle.timeline_db.proofs.SupportLemmas.{db_deferred, db_met, db_supported}
use Rattle.timeline_db.specs.Boards.{HasToken, line_at, no_line, token_of}
use Rattle.timeline_db.specs.Databases.{IsDb}
use Rattle.timeline_db.specs.Drafts.{Takes}
use Rattle.timeline_db.specs.Kept.{goal_kept, kept_bounds, narrow}
use Rattle.timeline_db.specs.Lines.{nothing_held}
use Rattle.timeline_db.specs.Plannings.{MayDoNow, Planning, partial_of}
use Rattle.timeline_db.specs.Settling.{KeepsRows, Serves}
use Rattle.timeline_db.specs.declared.board.Board.{Board}
use Rattle.timeline_db.specs.declared.db.Db.TheInside.{Inside}
use Rattle.timeline_db.specs.declared.draft.Draft.{Draft}

module _ (i : Inside) (d : IsHeldIn i) (s : Planning) (seen : seen_in i ≡ s) where
  there : (t : TokenRef) → IsThere (partial_of (seen_in i)) t → HasToken i.draft.board t × (held_by (partial_of (seen_in i)) t ≡ (token_of i.draft.board t).held)
  there t h = token_shown i.draft.board (partial_of (seen_in i)) d.shows d.tracked.line t h

  counted : (t : TokenRef) (j : ℕ) → IsThere (partial_of (seen_in i)) t → j < length (needs_of i.base.mission (held_by (partial_of (seen_in i)) t).kind) → is_served (begun_in i) (partial_of (seen_in i)) (held_by (partial_of (seen_in i)) t) j ≡ false → j < (token_of i.draft.board t).needs
  counted t j h less yet =
      let board = i.draft.board in
      let at = there t h in
      need_counted i.base.mission (begun_in i) (partial_of (seen_in i)) (token_of board t) j
      (d.tracked.each t.sv.0 t.place (line_at board t.sv.0) (token_of board t) (slice_get-get_or board.lines.items t.sv.0 no_line at.0.row) (slice_get-get_or (line_at board t.sv.0).tokens t.place nothing_held at.0.place))
      (subst (λ (x : Held). j < length (needs_of i.base.mission x.kind)) at.1 less)
      (subst (λ (x : Held). is_served (begun_in i) (partial_of (seen_in i)) x j ≡ false) at.1 yet)

  -- a support
  module _ (x : Support) (may : MayDoNow s (Supported x.token x.need x.by)) where
    pub support_token : HasToken i.draft.board x.token
    support_token = (there x.token (may_in i d s seen (Supported x.token x.need x.by) may).token).0

    pub support_by : HasToken i.draft.board x.by
    support_by = (there x.by (may_in i d s seen (Supported x.token x.need x.by) may).server).0

    pub support_need : x.need < (token_of i.draft.board x.token).needs
    support_need =
        let can = may_in i d s seen (Supported x.token x.need x.by) may in
        counted x.token x.need can.token (slice_get_within (needs_of i.base.mission (held_by (partial_of (seen_in i)) x.token).kind) x.need can.need can.is_need) can.yet

    pub support_made : (made : List Bound) (n : Mission) → made ≡ narrow (backing_bounds n (record { token = (token_of i.draft.board x.token).held; need = x.need; by = (token_of i.draft.board x.by).held })) → n ≡ i.base.mission
        → made ≡ kept_bounds i.base.mission (begun_in i) (partial_of (seen_in i)) (Supported x.token x.need x.by)
    support_made made n is same =
        let can = may_in i d s seen (Supported x.token x.need x.by) may in
        let backing : Held → Held → Backing = λ y z. record { token = y; need = x.need; by = z } in
        is ∙ ap (λ (k : Mission). narrow (backing_bounds k (backing (token_of i.draft.board x.token).held (token_of i.draft.board x.by).held))) same
        ∙ ap (λ (y : Held). narrow (backing_bounds i.base.mission (backing y (token_of i.draft.board x.by).held))) (sym (there x.token can.token).1)
        ∙ ap (λ (y : Held). narrow (backing_bounds i.base.mission (backing (held_by (partial_of (seen_in i)) x.token) y))) (sym (there x.by can.server).1)

    pub supported_in : (mid new : Draft) → mid.board ≡ i.draft.board → mid.course ≡ i.draft.course → mid.made.items ≡ kept_bounds i.base.mission (begun_in i) (partial_of (seen_in i)) (Supported x.token x.need x.by)
        → Takes (Supported x.token x.need x.by) 0 mid.made.items mid new → (es : List Extension) → es ≡ i.base.plan.extensions
        → Serves es x.token x.need (mid.board.supports.items ++ record { token = (token_of mid.board x.token).held; need = x.need; by = (token_of mid.board x.by).held } ∷ []) mid.board.deferred.items mid.board new.board
        → IsDb i.base.mission (begun_in i) i.tick new.board new.course.steps.items new.course.trail
    supported_in mid new board course made takes es same c =
        let part = Supported x.token x.need x.by in
        let can = may_in i d s seen part may in
        db_supported i.base.mission (begun_in i) i.tick i.draft.board new.board i.draft.course.steps.items new.course.steps.items i.draft.course.trail new.course.trail d x.token x.need x.by can
        (mid_gains i.base.mission (begun_in i) i.tick i.draft mid d board course part can made 0 new takes)
        (mid_steps i.base.mission (begun_in i) i.tick i.draft mid d board course part can made 0 new takes)
        (subst (λ (y : Board). Serves i.base.plan.extensions x.token x.need (y.supports.items ++ record { token = (token_of y x.token).held; need = x.need; by = (token_of y x.by).held } ∷ []) y.deferred.items y new.board) board
        (subst (λ (l : List Extension). Serves l x.token x.need (mid.board.supports.items ++ record { token = (token_of mid.board x.token).held; need = x.need; by = (token_of mid.board x.by).held } ∷ []) mid.board.deferred.items mid.board new.board) same c))

  -- a need that is left
  module _ (t : TokenRef) (j : ℕ) (may : MayDoNow s (Deferred t j)) where
    pub defer_token : HasToken i.draft.board t
    defer_token = (there t (may_in i d s seen (Deferred t j) may).token).0

    pub defer_need : j < (token_of i.draft.board t).needs
    defer_need =
        let can = may_in i d s seen (Deferred t j) may in
        counted t j can.token (slice_get_within (needs_of i.base.mission (held_by (partial_of (seen_in i)) t).kind) j can.need can.is_need) can.yet

    pub deferred_in : (mid new : Draft) → mid.board ≡ i.draft.board → mid.course ≡ i.draft.course → mid.made.items ≡ []
        → Takes (Deferred t j) 0 mid.made.items mid new → (es : List Extension) → es ≡ i.base.plan.extensions
        → Serves es t j mid.board.supports.items (mid.board.deferred.items ++ record { stop = (token_of mid.board t).held.stop; need = j } ∷ []) mid.board new.board
        → IsDb i.base.mission (begun_in i) i.tick new.board new.course.steps.items new.course.trail
    deferred_in mid new board course made takes es same c =
        let can = may_in i d s seen (Deferred t j) may in
        db_deferred i.base.mission (begun_in i) i.tick i.draft.board new.board i.draft.course.steps.items new.course.steps.items i.draft.course.trail new.course.trail d t j can
        (mid_gains i.base.mission (begun_in i) i.tick i.draft mid d board course (Deferred t j) can made 0 new takes)
        (mid_steps i.base.mission (begun_in i) i.tick i.draft mid d board course (Deferred t j) can made 0 new takes)
        (subst (λ (y : Board). Serves i.base.plan.extensions t j y.supports.items (y.deferred.items ++ record { stop = (token_of y t).held.stop; need = j } ∷ []) y new.board) board
        (subst (λ (l : List Extension). Serves l t j mid.board.supports.items (mid.board.deferred.items ++ record { stop = (token_of mid.board t).held.stop; need = j } ∷ []) mid.board new.board) same c))

  -- a goal
  module _ (g : ℕ) (by : TokenRef) (may : MayDoNow s (MetGoal g by)) where
    pub goal_by : HasToken i.draft.board by
    goal_by = (there by (may_in i d s seen (MetGoal g by) may).server).0

    pub goal_there : g < length i.draft.board.goals.items
    goal_there =
        let can = may_in i d s seen (MetGoal g by) may in
        let shown = ap (λ (p : Partial). length p.goals) d.shows in
        omega (arith, slice_get_within (partial_of (seen_in i)).goals g None can.yet)

    pub goal_made : (made : List Bound) (n : Mission) (k : ℕ) → made ≡ narrow (on_some (slice_get (goals_of n (suc k)) g) (λ (goal : Goal). goal_kept goal (token_of i.draft.board by).held)) → n ≡ i.base.mission → k ≡ length i.base.plan.extensions
        → made ≡ kept_bounds i.base.mission (begun_in i) (partial_of (seen_in i)) (MetGoal g by)
    goal_made made n k is same many =
        let can = may_in i d s seen (MetGoal g by) may in
        is ∙ ap (λ (z : Mission). narrow (on_some (slice_get (goals_of z (suc k)) g) (λ (goal : Goal). goal_kept goal (token_of i.draft.board by).held))) same
        ∙ ap (λ (z : ℕ). narrow (on_some (slice_get (goals_of i.base.mission (suc z)) g) (λ (goal : Goal). goal_kept goal (token_of i.draft.board by).held))) many
        ∙ ap (λ (y : Held). narrow (on_some (slice_get (goals_of i.base.mission (number (begun_in i))) g) (λ (goal : Goal). goal_kept goal y))) (sym (there by can.server).1)

    pub met_in : (mid new : Draft) → mid.board ≡ i.draft.board → mid.course ≡ i.draft.course → mid.made.items ≡ kept_bounds i.base.mission (begun_in i) (partial_of (seen_in i)) (MetGoal g by)
        → Takes (MetGoal g by) 0 mid.made.items mid new
        → KeepsRows mid.board.supports.items (set mid.board.goals.items g (Some (token_of mid.board by).held)) mid.board.deferred.items mid.board new.board
        → IsDb i.base.mission (begun_in i) i.tick new.board new.course.steps.items new.course.trail
    met_in mid new board course made takes k =
        let can = may_in i d s seen (MetGoal g by) may in
        db_met i.base.mission (begun_in i) i.tick i.draft.board new.board i.draft.course.steps.items new.course.steps.items i.draft.course.trail new.course.trail d g by can
        (mid_gains i.base.mission (begun_in i) i.tick i.draft mid d board course (MetGoal g by) can made 0 new takes)
        (mid_steps i.base.mission (begun_in i) i.tick i.draft mid d board course (MetGoal g by) can made 0 new takes)
        (subst (λ (y : Board). KeepsRows y.supports.items (set y.goals.items g (Some (token_of y by).held)) y.deferred.items y new.board) board k)
