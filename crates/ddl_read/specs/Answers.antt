-- What the reader's methods answer.
use Rattle.std.specs.Prelude.{◌≡◌, List, Result, Ok, Err}
use Rattle.hs_texts.specs.Pieces.{Piece as Spelling}
use Rattle.text_laws.specs.Parsers.{Read, done, stuck}
use Rattle.ddl_read.specs.declared.unread.Unread.{Unread}
use Rattle.ddl_read.specs.declared.unread.Unread.TheVariants.{Text, Memory}

-- what a call answered and left is what reading gives, unless memory ran out
abbrev pub Gives : {X : Type 0} → Result X Unread → List Spelling → Read X → Type 0
Gives (Ok x) rest read = read ≡ done x rest
Gives (Err Text) rest read = read ≡ stuck rest
Gives (Err Memory) rest read = Unit {0}
