use Rattle.std.proofs.Common.{ℕ, ◌≡◌, ◌<◌, false, Some, slice_get}
use Rattle.timeline_db.specs.Lines.{is_waiting}
use Rattle.timeline_db.specs.declared.token.Token.{Token}
use Rattle.timeline_db.proofs.line.Line.first_waiting.Given as goal

abbrev pub invariant-loop-place : goal.invariant-loop-place
invariant-loop-place l = (i : ℕ) (t : Token) → i < l.place → slice_get l.self.tokens i ≡ Some t → is_waiting t ≡ false
