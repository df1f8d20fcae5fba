use Rattle.std.proofs.Common.{◌≡◌, ◌∙◌, List, [], ◌∷◌, ap, sym, subst, length, cond}
use Rattle.std.proofs.lemmas.Result.{err_from_is_err_and}
use Rattle.std.specs.Prelude.{filter}
use Rattle.hs_texts.specs.declared.ast.AstHorizon.{AstHorizon}
use Rattle.hs_texts.specs.declared.ast.AstNeed.{AstNeed}
use Rattle.hs_texts.specs.declared.ast.AstVar.{AstVar}
use Rattle.hs_texts.specs.declared.refusal.Refusal.TheVariants.{Twice, NoBegin, Horizons, SameVar, SameBy}
use Rattle.hs_base.specs.Walks.{join_after}
use Rattle.hs_texts.specs.MissionMeaning.{var_names}
use Rattle.hs_texts.specs.MissionRefusals.{twice_names, var_again, names_without_begin, lacks_begin, early_horizons, is_early, places, asks_itself, asks_twice}
use Rattle.domain_check.specs.Checking.{IsRefused}
use Rattle.domain_check.proofs.RuleLemmas.{refused_twice, refused_unknown, refused_range, refused_limit, refused_begin, refused_horizon, refused_variable, refused_choice}
use Rattle.domain_check.proofs.acceptance.checked.Goals as goal

pub returns-in_err-tables : goal.returns-in_err-tables
returns-in_err-tables c =
    let p = err_from_is_err_and c.from_residual.result c.from_residual.ensures.1 in
    rw (p.1, p.2) (refused_twice c.args.ast.now c.in_err-tables.field-0.0
    (subst (λ (vs : List AstVar). IsRefused Twice (join_after var_again [] vs) c.in_err-tables.field-0.0) c.as_slice.ensures c.in_err-tables.ensures))

pub returns-in_err-check_names : goal.returns-in_err-check_names
returns-in_err-check_names c =
    let twice : twice_names c.args.ast.now ≡ [] = ap (join_after var_again []) (sym c.as_slice.ensures) ∙ c.in_ok-tables.ensures.0 in
    let p = err_from_is_err_and c.from_residual-in_err-check_names.result c.from_residual-in_err-check_names.ensures.1 in
    rw (p.1, p.2) (refused_unknown c.args.ast.now c.in_err-check_names.field-0.0 twice c.in_err-check_names.ensures)

pub returns-in_err-check_ranges : goal.returns-in_err-check_ranges
returns-in_err-check_ranges c =
    let twice : twice_names c.args.ast.now ≡ [] = ap (join_after var_again []) (sym c.as_slice.ensures) ∙ c.in_ok-tables.ensures.0 in
    let p = err_from_is_err_and c.from_residual-in_err-check_ranges.result c.from_residual-in_err-check_ranges.ensures.1 in
    rw (p.1, p.2) (refused_range c.args.ast.now c.in_err-check_ranges.field-0.0 twice c.in_ok-check_names.ensures c.in_err-check_ranges.ensures)

pub returns-in_err-check_limits : goal.returns-in_err-check_limits
returns-in_err-check_limits c =
    let twice : twice_names c.args.ast.now ≡ [] = ap (join_after var_again []) (sym c.as_slice.ensures) ∙ c.in_ok-tables.ensures.0 in
    let p = err_from_is_err_and c.from_residual-in_err-check_limits.result c.from_residual-in_err-check_limits.ensures.1 in
    rw (p.1, p.2) (refused_limit c.args.ast.now c.in_err-check_limits.field-0.0 twice c.in_ok-check_names.ensures c.in_ok-check_ranges.ensures c.in_err-check_limits.ensures)

pub returns-in_err-check_begins : goal.returns-in_err-check_begins
returns-in_err-check_begins c =
    let twice : twice_names c.args.ast.now ≡ [] = ap (join_after var_again []) (sym c.as_slice.ensures) ∙ c.in_ok-tables.ensures.0 in
    let p = err_from_is_err_and c.from_residual-in_err-check_begins.result c.from_residual-in_err-check_begins.ensures.1 in
    rw (p.1, p.2) (refused_begin c.args.ast.now c.in_err-check_begins.field-0.0 twice c.in_ok-check_names.ensures c.in_ok-check_ranges.ensures c.in_ok-check_limits.ensures (subst (λ (vs : List AstVar). IsRefused NoBegin (var_names (filter lacks_begin vs)) c.in_err-check_begins.field-0.0) c.as_slice-2.ensures c.in_err-check_begins.ensures))

pub returns-in_err-check_horizons : goal.returns-in_err-check_horizons
returns-in_err-check_horizons c =
    let twice : twice_names c.args.ast.now ≡ [] = ap (join_after var_again []) (sym c.as_slice.ensures) ∙ c.in_ok-tables.ensures.0 in
    let begins : names_without_begin c.args.ast.now ≡ [] = ap (λ (vs : List AstVar). var_names (filter lacks_begin vs)) (sym c.as_slice-2.ensures) ∙ c.in_ok-check_begins.ensures in
    let p = err_from_is_err_and c.from_residual-in_err-check_horizons.result c.from_residual-in_err-check_horizons.ensures.1 in
    rw (p.1, p.2) (refused_horizon c.args.ast.now c.in_err-check_horizons.field-0.0 twice c.in_ok-check_names.ensures c.in_ok-check_ranges.ensures c.in_ok-check_limits.ensures begins (subst (λ (hs : List AstHorizon). IsRefused Horizons (join_after (λ before (h : AstHorizon). cond (is_early before h) (length before ∷ []) []) [] hs) c.in_err-check_horizons.field-0.0) c.as_slice-3.ensures c.in_err-check_horizons.ensures))

pub returns-in_err-check_variables : goal.returns-in_err-check_variables
returns-in_err-check_variables c =
    let twice : twice_names c.args.ast.now ≡ [] = ap (join_after var_again []) (sym c.as_slice.ensures) ∙ c.in_ok-tables.ensures.0 in
    let begins : names_without_begin c.args.ast.now ≡ [] = ap (λ (vs : List AstVar). var_names (filter lacks_begin vs)) (sym c.as_slice-2.ensures) ∙ c.in_ok-check_begins.ensures in
    let horizons : early_horizons c.args.ast.now ≡ [] = ap (join_after (λ before (h : AstHorizon). cond (is_early before h) (length before ∷ []) []) []) (sym c.as_slice-3.ensures) ∙ c.in_ok-check_horizons.ensures in
    let p = err_from_is_err_and c.from_residual-in_err-check_variables.result c.from_residual-in_err-check_variables.ensures.1 in
    rw (p.1, p.2) (refused_variable c.args.ast.now c.in_err-check_variables.field-0.0 twice c.in_ok-check_names.ensures c.in_ok-check_ranges.ensures c.in_ok-check_limits.ensures begins horizons (subst (λ (ns : List AstNeed). IsRefused SameVar (places asks_itself ns) c.in_err-check_variables.field-0.0) c.as_slice-4.ensures c.in_err-check_variables.ensures))

pub returns-in_err-check_choices : goal.returns-in_err-check_choices
returns-in_err-check_choices c =
    let twice : twice_names c.args.ast.now ≡ [] = ap (join_after var_again []) (sym c.as_slice.ensures) ∙ c.in_ok-tables.ensures.0 in
    let begins : names_without_begin c.args.ast.now ≡ [] = ap (λ (vs : List AstVar). var_names (filter lacks_begin vs)) (sym c.as_slice-2.ensures) ∙ c.in_ok-check_begins.ensures in
    let horizons : early_horizons c.args.ast.now ≡ [] = ap (join_after (λ before (h : AstHorizon). cond (is_early before h) (length before ∷ []) []) []) (sym c.as_slice-3.ensures) ∙ c.in_ok-check_horizons.ensures in
    let variables : places asks_itself c.args.ast.now.needs ≡ [] = ap (places asks_itself) (sym c.as_slice-4.ensures) ∙ c.in_ok-check_variables.ensures in
    let p = err_from_is_err_and c.from_residual-in_err-check_choices.result c.from_residual-in_err-check_choices.ensures.1 in
    rw (p.1, p.2) (refused_choice c.args.ast.now c.in_err-check_choices.field-0.0 twice c.in_ok-check_names.ensures c.in_ok-check_ranges.ensures c.in_ok-check_limits.ensures begins horizons variables (subst (λ (ns : List AstNeed). IsRefused SameBy (places (λ (n : AstNeed). asks_twice n.either) ns) c.in_err-check_choices.field-0.0) c.as_slice-5.ensures c.in_err-check_choices.ensures))
