use Rattle.std.proofs.Common.{◌≡◌, ◌∙◌, Err, IfOk, List, None, Option, Some, map, string_bytes, subst, sym}
use Rattle.std.specs.Option.{ok_or}
use Rattle.std.specs.Result.{IsErrAnd}
use Rattle.clap.specs.Values.{kind_of}
use Rattle.command_line.specs.Unasked.{unasked_by}
use Rattle.command_line.specs.Words.{Word, words_of}
use Rattle.command_line.specs.declared.request.Request.{Request}
use Rattle.command_line.specs.declared.unasked.Unasked.TheVariants.{Usage}
use Rattle.command_line.proofs.ParseLemmas.{parsed_asks, refused_asks}
use Rattle.command_line.proofs.words.words_of.Goals as goal

pub returns-in_err-matches-clause-refused : goal.returns-in_err-matches-clause-refused
returns-in_err-matches-clause-refused c = λ usage.
    let e = c.in_err-matches.field-0.0 in
    let is : Usage ≡ unasked_by (kind_of e) = subst (λ r. IsErrAnd r (λ u. u ≡ unasked_by (kind_of e))) usage c.from_residual-in_err-matches.ensures.1 in
    refused_asks (map string_bytes c.args.words.now) _ e c.in_ok-line.ensures c.in_err-matches.ensures.kinds (sym is)

-- a request that was read is the one asked for, and where none was read none is
given_back : (words : List Word) (read : Option Request) → read ≡ words_of words → IfOk (ok_or read Usage) (λ request. words_of words ≡ Some request)
given_back words None is = tt
given_back words (Some request) is = sym is

nothing_read : (words : List Word) (read : Option Request) → read ≡ words_of words → ok_or read Usage ≡ Err Usage → words_of words ≡ None
nothing_read words None is refused = sym is
nothing_read words (Some request) is refused = cc

pub returns-clause-asked : goal.returns-clause-asked
returns-clause-asked c =
    let words : List Word = map string_bytes c.args.words.now in
    let read : c.request_in.result ≡ words_of words = c.request_in.ensures
    ∙ parsed_asks words _ c.in_ok-matches.matches c.in_ok-line.ensures c.in_ok-matches.ensures.kinds c.in_ok-matches.ensures.matches in
    subst (λ r. IfOk r (λ request. words_of words ≡ Some request)) (sym c.ok_or.ensures.value) (given_back words c.request_in.result read)

pub returns-clause-refused : goal.returns-clause-refused
returns-clause-refused c = λ refused.
    let words : List Word = map string_bytes c.args.words.now in
    let read : c.request_in.result ≡ words_of words = c.request_in.ensures
    ∙ parsed_asks words _ c.in_ok-matches.matches c.in_ok-line.ensures c.in_ok-matches.ensures.kinds c.in_ok-matches.ensures.matches in
    nothing_read words c.request_in.result read (sym c.ok_or.ensures.value ∙ refused)
