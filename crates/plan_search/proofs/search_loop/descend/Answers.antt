use Rattle.std.proofs.Common.{Some, ap, sym, ◌∙◌}
use Rattle.std.proofs.lemmas.Option.{slice_get-get_or}
use Rattle.search_tree.specs.PartialBounds.{HasSchedule}
use Rattle.search_tree.specs.Resolvers.{resolve}
use Rattle.timeline_db.specs.Plannings.{partial_of}
use Rattle.plan_search.proofs.TurnLemmas.{cycle_only, goes_down, parent_lists, stays_up}
use Rattle.plan_search.proofs.search_loop.descend.Goals as goal

pub apply-requires-clause-listed : goal.apply-requires-clause-listed
apply-requires-clause-listed c = parent_lists c.args.db.now c.undo.new.self c.args.frame.now c.args.child c.index.result.now c.undo.ensures.left c.requires.listed (slice_get-get_or c.args.frame.now.resolvers c.args.child c.index.result.now c.requires.child ∙ ap Some (sym c.index.ensures))

pub returns-in-Ok : goal.returns-in-Ok
returns-in-Ok c = goes_down c.args.db.now c.undo.new.self c.apply.new.db c.args.frame.now c.args.child c.index.result.now c.undo.ensures.left (slice_get-get_or c.args.frame.now.resolvers c.args.child c.index.result.now c.requires.child ∙ ap Some (sym c.index.ensures)) c.in-Ok.ensures.done c.in-Ok.ensures.kept

pub returns-else-is_memory : goal.returns-else-is_memory
returns-else-is_memory c =
    let back = c.undo.new.self in
    stays_up c.args.db.now back c.apply.new.db c.args.frame.now c.args.child c.index.result.now c.undo.ensures.left (slice_get-get_or c.args.frame.now.resolvers c.args.child c.index.result.now c.requires.child ∙ ap Some (sym c.index.ensures)) c.in-Err.ensures.same
    (cycle_only c.in-Err.shut (HasSchedule back.mission back.begun (resolve (partial_of back) c.args.frame.now.flaw c.index.result.now) → ⊥) (sym c.is_memory.ensures ∙ c.if-is_memory.false) c.in-Err.ensures.shut)
