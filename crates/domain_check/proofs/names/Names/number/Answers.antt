use Rattle.std.proofs.Common.{◌∙◌, ap, sym, List, ℕ}
use Rattle.domain_check.specs.Numbering.{number_in}
use Rattle.domain_check.proofs.NumberLemmas.{found_number, number_behind, names_of_keys}
use Rattle.domain_check.proofs.names.Names.number.Goals as goal

pub returns-in-Some : goal.returns-in-Some
returns-in-Some c =
    let keys = c.args.self.now.set.keys in
    found_number c.as_bytes.result.now keys c.in-Some.number (sym c.get_index_of.ensures.index ∙ c.in-Some.is)
    ∙ ap (λ (n : List ℕ). number_in (names_of_keys keys) n) c.as_bytes.ensures

pub returns-in-None : goal.returns-in-None
returns-in-None c =
    let keys = c.args.self.now.set.keys in
    c.len.ensures.len ∙ number_behind c.as_bytes.result.now keys (sym c.get_index_of.ensures.index ∙ c.in-None.is)
    ∙ ap (λ (n : List ℕ). number_in (names_of_keys keys) n) c.as_bytes.ensures
