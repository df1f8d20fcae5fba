-- The first token with an open need, as the code finds it.
use Rattle.std.specs.Prelude.{◌≡◌, ◌<◌, List, None, Option, Some, false, slice_get, true, ℕ}
use Rattle.hs_base.specs.declared.plan.TokenRef.{TokenRef}
use Rattle.timeline_db.specs.Lines.{Shown, is_waiting}
use Rattle.timeline_db.specs.declared.token.Token.{Token}

-- the token is the first with an open need, and that is its first one
pub record IsFirstWaiting (lines : List Shown) (t : TokenRef) (j : ℕ) : Type 0 where
  pub line : Shown
  pub is_line : slice_get lines t.sv.0 ≡ Some line
  pub token : Token
  pub here : slice_get line.tokens t.place ≡ Some token
  pub waits : is_waiting token ≡ true
  pub need : j ≡ token.unmet
  pub rows_before : (v i : ℕ) (s : Shown) (u : Token) → v < t.sv.0 → slice_get lines v ≡ Some s → slice_get s.tokens i ≡ Some u → is_waiting u ≡ false
  pub places_before : (i : ℕ) (u : Token) → i < t.place → slice_get line.tokens i ≡ Some u → is_waiting u ≡ false

-- the first token with an open need, with that need, or there is none
abbrev pub IsFirstWaitingIn : List Shown → Option (TokenRef × ℕ) → Type 0
IsFirstWaitingIn lines None = (v i : ℕ) (s : Shown) (u : Token) → slice_get lines v ≡ Some s → slice_get s.tokens i ≡ Some u → is_waiting u ≡ false
IsFirstWaitingIn lines (Some w) = IsFirstWaiting lines w.0 w.1
