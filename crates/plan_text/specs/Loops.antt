-- Loops that read items at which the text may break off.
use Rattle.std.specs.Prelude.{List, ◌++◌}
use Rattle.text_laws.specs.Parsers.{Read, go_on, yields}
use Rattle.hs_texts.specs.Kept.{Kept, kept, broken}

abbrev pub prepend : {A : Type 0} → List A → Kept (List A) → Kept (List A)
prepend front (kept xs) = kept (front ++ xs)
prepend front (broken n) = broken n

-- items that were read before stand in front
abbrev pub with_front : {A : Type 0} → List A → Read (Kept (List A)) → Read (Kept (List A))
with_front front r = go_on r (λ out. yields (prepend front out))
