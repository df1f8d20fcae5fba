use Rattle.std.proofs.Common.{◌∙◌, ◌++◌, ◌∷◌, [], ap, List, ℕ, not, cond}
use Rattle.std.specs.List.{list_any}
use Rattle.std.specs.Str.{bytes_eq}
use Rattle.std.specs.Borrow.{Bor}
use Rattle.hs_texts.specs.MissionRefusals.{is_among}
use Rattle.domain_check.proofs.NumberLemmas.{among_keys, names_inserted, names_of_keys}
use Rattle.domain_check.proofs.names.Names.add.Goals as goal

pub returns-clause-added : goal.returns-clause-added
returns-clause-added c =
    let keys = c.args.self.now.set.keys in
    c.in_ok-added.ensures.added
    ∙ ap (λ (n : List ℕ). not (list_any (λ (k : Bor (List ℕ)). bytes_eq n k.now) keys)) c.as_bytes.ensures
    ∙ ap not (among_keys c.args.name.now keys)

pub returns-clause-names : goal.returns-clause-names
returns-clause-names c =
    let keys = c.args.self.now.set.keys in
    ap names_of_keys c.in_ok-added.ensures.keys
    ∙ names_inserted keys c.as_bytes.result
    ∙ ap (λ (n : List ℕ). cond (is_among (names_of_keys keys) n) (names_of_keys keys) (names_of_keys keys ++ n ∷ [])) c.as_bytes.ensures
