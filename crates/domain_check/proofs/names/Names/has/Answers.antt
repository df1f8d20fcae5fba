use Rattle.std.proofs.Common.{◌∙◌, ap, List, ℕ}
use Rattle.std.specs.List.{list_any}
use Rattle.std.specs.Str.{bytes_eq}
use Rattle.std.specs.Borrow.{Bor}
use Rattle.domain_check.proofs.NumberLemmas.{among_keys}
use Rattle.domain_check.proofs.names.Names.has.Goals as goal

pub returns : goal.returns
returns c =
    let keys = c.args.self.now.set.keys in
    c.contains.ensures
    ∙ ap (λ (n : List ℕ). list_any (λ (k : Bor (List ℕ)). bytes_eq n k.now) keys) c.as_bytes.ensures
    ∙ among_keys c.args.name.now keys
