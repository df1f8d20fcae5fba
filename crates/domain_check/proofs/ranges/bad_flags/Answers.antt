use Rattle.std.proofs.Common.{◌≡◌, ◌∙◌, ◌++◌, ap, sym, List, Bool, map, flat_map, append_assoc}
use Rattle.std.proofs.lemmas.List.{map-append}
use Rattle.hs_texts.specs.declared.ast.AstChoice.{AstChoice}
use Rattle.hs_texts.specs.declared.ast.AstHorizon.{AstHorizon}
use Rattle.hs_texts.specs.declared.ast.AstNeed.{AstNeed}
use Rattle.hs_texts.specs.declared.ast.AstValue.{AstValue}
use Rattle.hs_texts.specs.declared.ast.AstVar.{AstVar}
use Rattle.hs_base.specs.declared.range.Range.{Range}
use Rattle.hs_texts.specs.MissionRefusals.{is_exchanged, is_no_duration, ranges_of_relation, ranges_of_goal}
use Rattle.domain_check.proofs.ranges.bad_flags.Goals as goal

abbrev of_vars : List AstVar → List Range
of_vars vars = flat_map (λ (var : AstVar). flat_map (λ (v : AstValue). v.lasts) var.values) vars

abbrev of_needs : List AstNeed → List Range
of_needs needs = flat_map (λ (n : AstNeed). flat_map (λ (c : AstChoice). ranges_of_relation c.relation) n.either) needs

abbrev of_horizons : List AstHorizon → List Range
of_horizons horizons = flat_map (λ (h : AstHorizon). flat_map ranges_of_goal h.goals) horizons

pub returns : goal.returns
returns c =
    let a = c.args.ast.now in
    let vars : c.push_vars.new.bad ≡ map is_no_duration (of_vars a.vars) =
    c.in_ok-push_vars.ensures ∙ ap (λ (b : List Bool). b ++ map is_no_duration (of_vars c.as_slice.result.now)) c.new-bad.ensures ∙ ap (λ (s : List AstVar). map is_no_duration (of_vars s)) c.as_slice.ensures in
    let needs : c.push_needs.new.bad ≡ map is_no_duration (of_vars a.vars) ++ map is_exchanged (of_needs a.needs) =
    c.in_ok-push_needs.ensures ∙ ap (λ (b : List Bool). b ++ map is_exchanged (of_needs c.as_slice-2.result.now)) vars ∙ ap (λ (s : List AstNeed). map is_no_duration (of_vars a.vars) ++ map is_exchanged (of_needs s)) c.as_slice-2.ensures in
    c.in_ok-push_horizons.ensures
    ∙ ap (λ (b : List Bool). b ++ map is_exchanged (of_horizons c.as_slice-3.result.now)) needs
    ∙ ap (λ (s : List AstHorizon). (map is_no_duration (of_vars a.vars) ++ map is_exchanged (of_needs a.needs)) ++ map is_exchanged (of_horizons s)) c.as_slice-3.ensures
    ∙ append_assoc (map is_no_duration (of_vars a.vars)) (map is_exchanged (of_needs a.needs)) (map is_exchanged (of_horizons a.horizons))
    ∙ ap (λ (l : List Bool). map is_no_duration (of_vars a.vars) ++ l) (sym (map-append is_exchanged (of_needs a.needs) (of_horizons a.horizons)))
