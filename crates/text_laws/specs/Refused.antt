-- Answers that may also want memory.
use Rattle.hs_texts.specs.declared.refusal.Refusal.{Refusal}
use Rattle.hs_texts.specs.declared.refusal.Refusal.TheVariants.{Memory}

-- a refusal that the condition allows, or the want of memory
abbrev pub OrMemory : (Refusal → Type 0) → Refusal → Type 0
OrMemory P Memory = Unit {0}
OrMemory P r = P r
