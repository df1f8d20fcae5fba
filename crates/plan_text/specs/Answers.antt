-- What the methods that read plans answer.
use Rattle.std.specs.Prelude.{◌≡◌, List, Result, Ok, Err}
use Rattle.hs_texts.specs.Pieces.{Piece as Spelling}
use Rattle.text_laws.specs.Parsers.{Read, done, stuck}
use Rattle.ddl_read.specs.declared.unread.Unread.{Unread}
use Rattle.ddl_read.specs.declared.unread.Unread.TheVariants.{Text as NoText, Memory as NoMemory}
use Rattle.plan_text.specs.declared.stop.Stop.{Stop}
use Rattle.plan_text.specs.declared.stop.Stop.TheVariants.{Text, Pieces, Memory}
use Rattle.hs_texts.specs.Kept.{Kept, kept, broken}

abbrev pub stop_of : Unread → Stop
stop_of NoText = Text
stop_of NoMemory = Memory

-- what a call answered and left is what reading gives, unless memory ran out
abbrev pub Gives : {X : Type 0} → Result X Stop → List Spelling → Read X → Type 0
Gives (Ok x) rest read = read ≡ done x rest
Gives (Err Text) rest read = read ≡ stuck rest
Gives (Err (Pieces size)) rest read = ⊥
Gives (Err Memory) rest read = Unit {0}

-- the same where the text may break off
abbrev pub Keeps : {X : Type 0} → Result X Stop → List Spelling → Read (Kept X) → Type 0
Keeps (Ok x) rest read = read ≡ done (kept x) rest
Keeps (Err Text) rest read = read ≡ stuck rest
Keeps (Err (Pieces size)) rest read = read ≡ done (broken size) rest
Keeps (Err Memory) rest read = Unit {0}
