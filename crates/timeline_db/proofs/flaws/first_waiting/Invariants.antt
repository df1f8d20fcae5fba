use Rattle.std.proofs.Common.{ℕ, ◌≡◌, ◌<◌, false, Some, slice_get}
use Rattle.timeline_db.specs.Lines.{Shown, is_waiting}
use Rattle.timeline_db.specs.declared.token.Token.{Token}
use Rattle.timeline_db.proofs.flaws.first_waiting.Given as goal

abbrev pub invariant-loop-sv : goal.invariant-loop-sv
invariant-loop-sv l = (v i : ℕ) (s : Shown) (u : Token) → v < l.sv → slice_get l.lines v ≡ Some s → slice_get s.tokens i ≡ Some u → is_waiting u ≡ false
