use Rattle.std.proofs.Common.{◌≡◌, ◌<◌, length, pos, arith, rules, w64, FitsSigned, ap, drop}
use Rattle.std.proofs.lemmas.Int.{to_z-of_z}
use Rattle.std.proofs.lemmas.List.{get_or_read, length-drop}
use Rattle.local_propagate.proofs.TournamentLemmas.{winner_least, winner_among}
use Rattle.local_propagate.proofs.minima.Minima.least.Goals as goal

pub returns-clause-bound : goal.returns-clause-bound
returns-clause-bound c =
    let m = c.self.inside in
    let view : drop m.size m.tree.items ≡ c.args.self.now = c.self.view_is in
    let fits : FitsSigned w64 c.index.result.now = search rules in
    let long = ap length view in
    let il : 1 < length m.tree.items = omega (arith, c.self.invariant.places, length-drop m.size m.tree.items) in
    let is = get_or_read m.tree.items 1 c.index.result.now il c.index.ensures (pos 0) in
    rw (to_z-of_z w64 c.index.result.now fits, is, ← view) (winner_least m.size m.tree.items c.self.invariant)

pub returns-clause-reached : goal.returns-clause-reached
returns-clause-reached c =
    let m = c.self.inside in
    let view : drop m.size m.tree.items ≡ c.args.self.now = c.self.view_is in
    let fits : FitsSigned w64 c.index.result.now = search rules in
    let long = ap length view in
    let il : 1 < length m.tree.items = omega (arith, c.self.invariant.places, length-drop m.size m.tree.items) in
    let is = get_or_read m.tree.items 1 c.index.result.now il c.index.ensures (pos 0) in
    rw (to_z-of_z w64 c.index.result.now fits, is, ← view) (winner_among m.size m.tree.items c.self.invariant (omega (arith, c.self.invariant.places, length-drop m.size m.tree.items)))
