use Rattle.std.proofs.Common.{◌+◌, ◌<◌, take, sym, arith}
use Rattle.hs_texts.specs.Pieces.{number_of}
use Rattle.ddl_read.proofs.ByteLemmas.{number_grows, number_more, too_large}
use Rattle.ddl_read.proofs.number.number_of.Goals as goal

pub returns-then-number : goal.returns-then-number
returns-then-number c =
    let ds = c.args.digits.now in
    let i = c.digits.digit-index in
    let grown = number_grows ds (i + 1) in
    let more = number_more ds i (omega arith) in
    let read : 1000000000 < number_of (take (i + 1) ds) = omega (arith, more, c.digits.invariant.0) in
    sym (too_large ds (omega (arith, grown, read)))
