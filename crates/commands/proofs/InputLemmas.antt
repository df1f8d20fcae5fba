-- What is read of a text, and why it is refused.
use Rattle.std.proofs.Common.{◌≢◌, ℕ, List, refl, inr}
use Rattle.hs_texts.specs.declared.ast.Ast.{Ast}
use Rattle.hs_texts.specs.declared.refusal.Refusal.{Refusal}
use Rattle.hs_texts.specs.declared.refusal.Refusal.TheVariants.{NotUtf8, Char, Expected, Number, Trailing, Twice, Unknown, Range, Limit, NoBegin, Horizons, SameVar, SameBy, Memory}
use Rattle.hs_texts.specs.MissionSpelling.{SpellsFront, IsMissionRefusal}
use Rattle.text_laws.specs.Refused.{OrMemory}
use Rattle.commands.specs.Inputs.{IsFrontRefusalOf, IsRefused, IsTold}
use Rattle.commands.specs.declared.status.Status.{Status}

-- what a condition allows, or the want of memory, a wider one allows too
pub wider : (P Q : Refusal → Type 0) → ((r : Refusal) → P r → Q r) → (r : Refusal) → OrMemory P r → OrMemory Q r
wider P Q f (NotUtf8 at) h = f (NotUtf8 at) h
wider P Q f (Char at) h = f (Char at) h
wider P Q f (Expected at) h = f (Expected at) h
wider P Q f (Number at) h = f (Number at) h
wider P Q f (Trailing at) h = f (Trailing at) h
wider P Q f (Twice name) h = f (Twice name) h
wider P Q f (Unknown name) h = f (Unknown name) h
wider P Q f (Range item) h = f (Range item) h
wider P Q f (Limit which) h = f (Limit which) h
wider P Q f (NoBegin name) h = f (NoBegin name) h
wider P Q f (Horizons item) h = f (Horizons item) h
wider P Q f (SameVar item) h = f (SameVar item) h
wider P Q f (SameBy item) h = f (SameBy item) h
wider P Q f Memory h = tt

-- a refusal that isn't the want of memory is due
pub due : (P : Refusal → Type 0) (r : Refusal) → OrMemory P r → r ≢ Memory → P r
due P (NotUtf8 at) h some = h
due P (Char at) h some = h
due P (Expected at) h some = h
due P (Number at) h some = h
due P (Trailing at) h some = h
due P (Twice name) h some = h
due P (Unknown name) h some = h
due P (Range item) h some = h
due P (Limit which) h some = h
due P (NoBegin name) h some = h
due P (Horizons item) h some = h
due P (SameVar item) h some = h
due P (SameBy item) h some = h
due P Memory h some = absurd (some refl)

-- and told by its line
pub told : (P : Refusal → Type 0) (r : Refusal) (status : Status) (text : List ℕ) → OrMemory P r → IsTold r status text → IsRefused P text
told P r status text h t = record { refusal = r; why = due P r h t.some; line = t.line }

-- no mission in front of a text, or one that breaks a rule
pub no_front : (bytes : List ℕ) (a : Ast) (n : ℕ) (r : Refusal) → SpellsFront bytes a n → OrMemory (IsMissionRefusal a) r → OrMemory (IsFrontRefusalOf bytes) r
no_front bytes a n r s h = wider (IsMissionRefusal a) (IsFrontRefusalOf bytes) (λ q k. inr (a, n, s, k)) r h
