use Rattle.std.proofs.Common.{ℕ, ◌≡◌, false, Some, slice_get, subst, arith}
use Rattle.timeline_db.specs.Lines.{Shown, is_waiting}
use Rattle.timeline_db.specs.declared.token.Token.{Token}
use Rattle.timeline_db.proofs.CountLemmas.{none_counted}
use Rattle.timeline_db.proofs.line.Line.first_waiting.Goals as goal

pub returns-then-self-eq0 : goal.returns-then-self-eq0
returns-then-self-eq0 c =
    subst (λ (s : Shown). (i : ℕ) (t : Token) → slice_get s.tokens i ≡ Some t → is_waiting t ≡ false) c.self.view_is
    (none_counted is_waiting c.self.inside.tokens.items (let e = c.if-self-eq0.true in let f = c.self.inside.waiting_counted in omega arith))
