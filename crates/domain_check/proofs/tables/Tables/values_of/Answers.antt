use Rattle.std.proofs.Common.{◌≡◌, ◌∙◌, ◌<◌, ◌≤◌, ap, subst, ℕ, List, length, get_or}
use Rattle.hs_texts.specs.declared.ast.AstVar.{AstVar}
use Rattle.hs_texts.specs.MissionMeaning.{var_names, value_names}
use Rattle.domain_check.specs.Numbering.{number_in}
use Rattle.domain_check.specs.Tables.{names_in}
use Rattle.domain_check.proofs.NumberLemmas.{named_within, named_beyond}
use Rattle.domain_check.proofs.tables.Tables.values_of.Goals as goal

pub returns-then-place-self : goal.returns-then-place-self
returns-then-place-self c =
    let t = c.args.self.now in
    let vars = t.written.now in
    let name = c.args.name.now in
    let e : c.number-place.result ≡ number_in (var_names vars) name = c.number-place.ensures ∙ ap (λ (ns : List (List ℕ)). number_in ns name) t.var_names in
    named_within vars name (names_in c.values_at.result.now) (subst (λ (n : ℕ). n < length vars) e c.if-place-self.true) (λ (var : AstVar). c.values_at.ensures var ∙ ap (λ (n : ℕ). value_names (get_or vars n var)) e)

pub returns : goal.returns
returns c =
    let t = c.args.self.now in
    let vars = t.written.now in
    let name = c.args.name.now in
    let e : c.number-place.result ≡ number_in (var_names vars) name = c.number-place.ensures ∙ ap (λ (ns : List (List ℕ)). number_in ns name) t.var_names in
    named_beyond vars name (subst (λ (n : ℕ). length vars ≤ n) e c.if-place-self.false)
