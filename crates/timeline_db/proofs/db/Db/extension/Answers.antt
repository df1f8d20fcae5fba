use Rattle.std.proofs.Common.{◌≡◌, List, length, drop, flat_map, map, w64, FitsSigned, to_z, of_z, subst, ap, ◌∙◌, arith}
use Rattle.std.proofs.lemmas.Int.{ints, to_z-of_z}
use Rattle.hs_base.specs.declared.mission.Mission.{Mission}
use Rattle.hs_base.specs.declared.plan.Extension.{Extension}
use Rattle.hs_base.specs.declared.plan.Plan.{Plan}
use Rattle.search_tree.specs.Extends.{extension}
use Rattle.search_tree.specs.Flaws.{flat_map_from}
use Rattle.timeline_db.proofs.ExtendingLemmas.{extension_is, lines_there}
use Rattle.timeline_db.proofs.FewLemmas.{lines_db}
use Rattle.timeline_db.specs.Boards.{pictured}
use Rattle.timeline_db.specs.Extending.{late_supports}
use Rattle.timeline_db.specs.Lines.{Shown}
use Rattle.timeline_db.specs.Plannings.{Planning, partial_of}
use Rattle.timeline_db.specs.declared.token.Token.{Token}
use Rattle.timeline_db.proofs.db.Db.extension.Goals as goal

pub named_supports-requires-clause-lines : goal.named_supports-requires-clause-lines
named_supports-requires-clause-lines c = lines_there _ _ _ c.self.inside.draft.board _ _ c.self.invariant

pub named_supports-requires-clause-few : goal.named_supports-requires-clause-few
named_supports-requires-clause-few c = let few = lines_db _ _ _ c.self.inside.draft.board _ _ c.self.invariant in omega arith

pub named_goals-requires : goal.named_goals-requires
named_goals-requires c = lines_there _ _ _ c.self.inside.draft.board _ _ c.self.invariant

pub returns : goal.returns
returns c =
    let board = c.self.inside.draft.board in
    let from = c.self.invariant.begins.fixed.since in
    let fits : FitsSigned w64 c.self.inside.since = omega (arith, ints, from.0, from.1) in
    let e : Extension = record {
      base = c.len.result;
      since = to_z w64 (of_z w64 c.self.inside.since);
      fixed = c.in_ok-copy.field-0;
      tokens = c.in_ok-new_kinds.field-0;
      supports = c.in_ok-named_supports.field-0;
      goals = c.in_ok-named_goals.field-0;
    } in
    subst (λ (p : Planning). e ≡ extension p.mission p.begun (partial_of p)) c.self.view_is
    (extension_is _ _ _ board _ _ c.self.invariant e
    (c.len.ensures ∙ ap length (ap (λ (x : Plan). x.extensions) c.plan.ensures.plan))
    (to_z-of_z w64 c.self.inside.since fits)
    c.in_ok-copy.ensures
    (c.in_ok-new_kinds.ensures ∙ ap (λ (ls : List Shown). flat_map (λ (s : Shown). map (λ (t : Token). t.held.kind) (drop s.given s.tokens)) ls) c.deref.ensures.value)
    (c.in_ok-named_supports.ensures ∙ ap (λ (m : Mission). flat_map_from (late_supports m (pictured board)) 0 board.lines.items) c.mission-mission.ensures.mission)
    c.in_ok-named_goals.ensures)
