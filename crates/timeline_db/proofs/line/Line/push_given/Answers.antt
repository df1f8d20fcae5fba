use Rattle.std.proofs.Common.{true, ap, arith}
use Rattle.timeline_db.specs.Lines.{how_many, is_gap, is_waiting}
use Rattle.timeline_db.proofs.CountLemmas.{how_many-push}
use Rattle.timeline_db.proofs.line.Line.push_given.Goals as goal

pub invariant_of-self-inside-2 : goal.invariant_of-self-inside-2
invariant_of-self-inside-2 c =
    let t = c.self.inside in
    let e = c.in_ok-push.ensures.items in
    (omega (arith, ap (how_many is_gap) e, how_many-push is_gap t.tokens.items (record { held = record { kind = c.args.kind; start = c.end-start.result; stop = c.args.stop }; joined = true; needs = 0; unmet = 0 })), (omega (arith, ap (how_many is_waiting) e, how_many-push is_waiting t.tokens.items (record { held = record { kind = c.args.kind; start = c.end-start.result; stop = c.args.stop }; joined = true; needs = 0; unmet = 0 })), tt))
