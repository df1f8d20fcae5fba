use Rattle.std.proofs.Common.{◌++◌, ◌∷◌, [], List, slice_get, ap, sym, ◌∙◌}
use Rattle.std.proofs.lemmas.Option.{slice_get-get_or}
use Rattle.hs_base.specs.declared.plan.TokenRef.{TokenRef}
use Rattle.search_tree.specs.declared.backing.Backing.{Backing}
use Rattle.timeline_db.proofs.ExtendingLemmas.{named_more, named_same}
use Rattle.timeline_db.specs.Boards.{pictured}
use Rattle.timeline_db.proofs.board.Board.push_supports.Goals.{then-backing-stop+then-backing-need+in_ok-push, else-backing-stop, else-backing-stop-via-then-backing-stop+else-backing-need, else-backing-stop-via-else-backing-stop}
use Rattle.timeline_db.proofs.board.Board.push_supports.Goals as goal

pub loop-backing-preserved : goal.loop-backing-preserved
loop-backing-preserved c =
    let i = c.loop-backing.backing-index in
    let ss = c.args.self.now.supports.items in
    let here = ap (λ (l : List Backing). slice_get l i) (sym c.deref-backing-items.ensures.value) ∙ slice_get-get_or c.deref-backing-items.result.now i _ c.loop-backing-test.true in
    elim c.if-backing-stop.branch [
      | then-backing-stop+then-backing-need+in_ok-push w ↦
          w.supports-is ∙ w.in_ok-push.ensures.ok
          ∙ ap (λ (y : TokenRef). c.loop-backing.supports ++ record { token = c.args.name; need = c.args.need; by = y } ∷ []) w.name_of.ensures
          ∙ named_more (pictured c.args.self.now) c.args.name c.args.stop c.args.need c.loop-backing.supports c.args.supports.now ss i _ here c.loop-backing.invariant w.if-backing-stop.true w.if-backing-need.true
      | else-backing-stop w ↦
          w.supports-is ∙ named_same (pictured c.args.self.now) c.args.name c.args.stop c.args.need c.loop-backing.supports c.args.supports.now ss i _ here c.loop-backing.invariant
          (elim w.else-backing-stop.branch [
            | else-backing-stop-via-then-backing-stop+else-backing-need u ↦ λ ends which. u.if-backing-need.false which
            | else-backing-stop-via-else-backing-stop u ↦ λ ends which. u.if-backing-stop.false ends
          ])
    ]
