-- Loops that read items.
use Rattle.std.specs.Prelude.{List, ◌++◌}
use Rattle.text_laws.specs.Parsers.{Read, go_on, yields}

-- items that were read before stand in front
abbrev pub with_front : {A : Type 0} → List A → Read (List A) → Read (List A)
with_front front r = go_on r (λ xs. yields (front ++ xs))
