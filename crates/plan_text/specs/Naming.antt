-- What the functions that look names up answer.
use Rattle.std.specs.Prelude.{◌≡◌, ℕ, ◌+◌, List, [], length, Result, Ok, Err}
use Rattle.hs_texts.specs.declared.refusal.Refusal.{Refusal}
use Rattle.text_laws.specs.Refused.{OrMemory}
use Rattle.hs_texts.specs.KeptTexts.{IsFirstUnknown}
use Rattle.hs_texts.specs.declared.written.WrittenExtension.{WrittenExtension}
use Rattle.hs_texts.specs.PlanGrammar.{token_names}

-- none of the names is unknown and the answer is what P says, or the refusal gives the first of them
abbrev pub Resolves : {X : Type 0} → Result X Refusal → List (List ℕ) → (X → Type 0) → Type 0
Resolves (Ok x) unknown P = (unknown ≡ []) × P x
Resolves (Err r) unknown P = OrMemory (IsFirstUnknown unknown) r

-- the number of points of a written plan: Z, and one for each extension and each token
abbrev pub point_count : List WrittenExtension → ℕ
point_count ws = 1 + length ws + length (token_names ws)
