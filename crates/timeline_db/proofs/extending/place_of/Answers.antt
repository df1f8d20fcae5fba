use Rattle.std.proofs.Common.{List, slice_get, sym, ap, ◌∙◌}
use Rattle.std.proofs.lemmas.Option.{slice_get-get_or}
use Rattle.timeline_db.proofs.ExtendingLemmas.{place_found}
use Rattle.timeline_db.specs.declared.token.Token.{Token}
use Rattle.timeline_db.proofs.extending.place_of.Goals as goal

pub returns-then-token-stop : goal.returns-then-token-stop
returns-then-token-stop c =
    let i = c.loop-place.place in
    let ts = c.args.line.now.tokens in
    let here = ap (λ (l : List Token). slice_get l i) (sym c.tokens-token-items.ensures) ∙ slice_get-get_or c.tokens-token-items.result.now i _ c.loop-place-test.true in
    sym (c.loop-place.invariant.0 ∙ place_found c.args.stop ts i _ here c.if-token-stop.true)
