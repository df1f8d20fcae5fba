use Rattle.std.proofs.Common.{[], ◌∷◌, ◌++◌, arith, pos}
use Rattle.std.proofs.lemmas.List.{length_push}
use Rattle.stn_trail.proofs.TrailLemmas.{Widens-same, Widens-times, Widens-row}
use Rattle.stn_trail.proofs.trail.make_room.Goals as goal
use Rattle.stn_trail.proofs.trail.make_room.Goals.{then-len-count-2+in_ok-grow, else-len-count-2}

pub returns-in_err-push-clause-wider : goal.returns-in_err-push-clause-wider
returns-in_err-push-clause-wider c =
    let old = c.args.times.now in let sized = old.ticks.ok.0 in let room = c.requires.0 in let room' = c.requires.1 in
    elim c.if-len-count-2.branch [
      | then-len-count-2+in_ok-grow w ↦ rw (c.in_err-push.ensures.items, w.times-is, w.in_ok-grow.ensures.now)
          (Widens-times c.args.count old.moves.items c.args.rows.now.items old.ticks.items _ (omega arith) sized old.inside)
      | else-len-count-2 w ↦ rw (c.in_err-push.ensures.items, w.times-is) (Widens-same c.args.count old.moves.items c.args.rows.now.items old.ticks.items)
    ]

pub returns-clause-wider : goal.returns-clause-wider
returns-clause-wider c =
    let old = c.args.times.now in let sized = old.ticks.ok.0 in let sized' = c.args.rows.now.ok.0 in let room = c.requires.0 in let room' = c.requires.1 in
    let many = c.if-len-count.false in
    elim c.if-len-count-2.branch [
      | then-len-count-2+in_ok-grow w ↦ rw (c.in_ok-push.ensures.items, c.new.ensures, w.times-is, w.in_ok-grow.ensures.now)
          (let longer = length_push old.ticks.items (pos 0) in
          Widens-row c.args.count old.moves.items c.args.rows.now.items old.ticks.items (old.ticks.items ++ pos 0 ∷ [])
          (Widens-times c.args.count old.moves.items c.args.rows.now.items old.ticks.items _ (omega arith) sized old.inside) (omega arith))
      | else-len-count-2 w ↦ let more = w.if-len-count-2.false in rw (c.in_ok-push.ensures.items, c.new.ensures, w.times-is)
          (Widens-row c.args.count old.moves.items c.args.rows.now.items old.ticks.items old.ticks.items (Widens-same c.args.count old.moves.items c.args.rows.now.items old.ticks.items) (omega arith))
    ]
