use Rattle.std.proofs.Common.{◌≡◌, ◌++◌, flat_map, map, drop, codes}
use Rattle.hs_texts.specs.CanonicalText.{apart, said_text}
use Rattle.ddl_print.proofs.scripts.push_words.Given as goal

abbrev pub invariant-loop-said : goal.invariant-loop-said
invariant-loop-said l = l.text ++ flat_map (λ y. codes ", " ++ y) (map said_text (drop l.said-index l.rest)) ≡ l.fn.text ++ apart (codes ", ") (map said_text l.words)
