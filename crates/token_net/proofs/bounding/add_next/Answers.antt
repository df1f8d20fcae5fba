use Rattle.std.proofs.Common.{length, ap, arith}
use Rattle.plan_index.specs.Contents.{Contents}
use Rattle.token_net.proofs.ExtensionLemmas.{points_more}
use Rattle.token_net.proofs.bounding.add_next.Goals as goal

pub add_last_extension-requires-clause-room : goal.add_last_extension-requires-clause-room
add_last_extension-requires-clause-room c =
    omega (arith, points_more c.args.index.now c.args.extension.now, ap (λ (x : Contents). length x.points) c.in_ok-extend.ensures.ok)

pub add_last_extension-requires-clause-small : goal.add_last_extension-requires-clause-small
add_last_extension-requires-clause-small c =
    omega (arith, points_more c.args.index.now c.args.extension.now, ap (λ (x : Contents). length x.points) c.in_ok-extend.ensures.ok, c.requires.small)
