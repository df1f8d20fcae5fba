use Rattle.std.proofs.Common.{◌≡◌, ◌∷◌, [], ◌++◌, sym, ap, ◌∙◌, subst, arith}
use Rattle.plan_index.specs.declared.placed.Timeline.{Timeline}
use Rattle.plan_index.specs.Lines.{row_of, HasRoom}
use Rattle.plan_index.proofs.LineLemmas.{row_pushed, room_pushed}
use Rattle.plan_index.proofs.placed.grow_lines.Goals as goal

pub returns-in_err-push-clause-room : goal.returns-in_err-push-clause-room
returns-in_err-push-clause-room c = λ v n h. subst (λ l. HasRoom l v n) (sym c.in_err-push.ensures.items) (c.loop.invariant.room v n h)

pub loop-preserved : goal.loop-preserved
loop-preserved c =
    let line : Timeline = record { tokens = c.new.result } in
    let lines = c.loop.lines.items in
    let pushed : c.push.new.self.items ≡ lines ++ line ∷ [] = c.in_ok-push.ensures.items in
    record {
      size = omega (arith, c.in_ok-push.ensures.len, c.loop.invariant.size);
      kept = λ v. ap (λ l. row_of l v) pushed ∙ row_pushed lines line v c.new.ensures.items ∙ c.loop.invariant.kept v;
      room = λ v n h. subst (λ l. HasRoom l v n) (sym pushed) (room_pushed lines line v n (c.loop.invariant.room v n h));
    }
