use Rattle.std.proofs.Common.{◌≡◌, List, Some, length, get_or, ap, ◌∙◌, arith}
use Rattle.std.proofs.lemmas.Option.{get_or_from_slice_get, slice_get_within}
use Rattle.search_tree.specs.declared.held.Held.{Held}
use Rattle.timeline_db.proofs.LookLemmas.{token_seen}
use Rattle.timeline_db.specs.Plannings.{partial_of}
use Rattle.timeline_db.specs.declared.token.Token.{Token}
use Rattle.timeline_db.proofs.db.Db.kind.Goals as goal

pub returns-in_err-get : goal.returns-in_err-get
returns-in_err-get c =
    let x = token_seen (partial_of c.args.self.now) c.args.token c.in_ok-line.line.now c.requires c.in_ok-line.ensures.some.0 c.in_ok-line.ensures.some.1 in
    let inside = slice_get_within c.in_ok-line.line.now.tokens c.args.token.place x.0 x.1 in
    let past = c.in_err-get.ensures.lookup.3 in
    absurd (omega (arith, ap length c.tokens.ensures))

pub returns : goal.returns
returns c =
    let x = token_seen (partial_of c.args.self.now) c.args.token c.in_ok-line.line.now c.requires c.in_ok-line.ensures.some.0 c.in_ok-line.ensures.some.1 in
    let got = c.in_ok-get.field-0.now in
    let same : got ≡ x.0 = c.in_ok-get.ensures.lookup.1 ∙ ap (λ (ts : List Token). get_or ts c.args.token.place got) c.tokens.ensures ∙ get_or_from_slice_get c.in_ok-line.line.now.tokens c.args.token.place x.0 got x.1 in
    ap (λ (y : Token). Some y.held.kind) same ∙ ap (λ (y : Held). Some y.kind) x.2
