use Rattle.std.proofs.Common.{◌≡◌, get_or, ap, sym, ◌∙◌}
use Rattle.std.specs.Prelude.{Some, None}
use Rattle.hs_base.specs.declared.mission.Var.{Var}
use Rattle.plan_text.specs.SoFar.{variable_at, value_at}
use Rattle.plan_text.proofs.NamingLemmas.{variable_below, kind_found, kind_without_variable, kind_without_value}
use Rattle.plan_text.proofs.naming.kind_of.Goals as goal

pub returns-in_default : goal.returns-in_default
returns-in_default c = kind_without_variable c.args.mission.now c.args.written.now c.in_ok-copy.field-0 (ap (λ vs. variable_at vs c.args.written.now.sv) (sym c.as_slice-vars.ensures) ∙ sym c.variable_at.ensures ∙ c.in_default.is) c.in_ok-copy.ensures

pub returns-in_ok-number_of-in-Some-value_at-2 : goal.returns-in_ok-number_of-in-Some-value_at-2
returns-in_ok-number_of-in-Some-value_at-2 c =
    let m = c.args.mission.now in
    let w = c.args.written.now in
    let found : variable_at m.vars w.sv ≡ Some c.in-Some.sv = ap (λ vs. variable_at vs w.sv) (sym c.as_slice-vars.ensures) ∙ sym c.variable_at.ensures ∙ c.in-Some.is in
    let var = c.index-vars-sv.result in
    let is : var ≡ get_or m.vars c.in-Some.sv var = c.index-vars-sv.is ∙ ap (λ vs. get_or vs c.in-Some.sv var) c.as_slice-vars.ensures in
    let value : value_at var.values w.value ≡ Some c.in-Some-value_at.value = ap (λ (v : Var). value_at v.values w.value) c.index-vars-sv.is ∙ ap (λ vs. value_at vs w.value) (sym c.as_slice.ensures) ∙ sym c.value_at.ensures ∙ c.in-Some-value_at.is in
    kind_found m w c.in-Some.sv c.in-Some-value_at.value c.in_ok-number_of-in-Some-value_at.field-0 c.in_ok-number_of-in-Some-value_at-2.field-0 var found (variable_below m w.sv c.in-Some.sv found) is value c.in_ok-number_of-in-Some-value_at.ensures c.in_ok-number_of-in-Some-value_at-2.ensures

pub returns-in_ok-copy-in-None : goal.returns-in_ok-copy-in-None
returns-in_ok-copy-in-None c =
    let m = c.args.mission.now in
    let w = c.args.written.now in
    let found : variable_at m.vars w.sv ≡ Some c.in-Some.sv = ap (λ vs. variable_at vs w.sv) (sym c.as_slice-vars.ensures) ∙ sym c.variable_at.ensures ∙ c.in-Some.is in
    let var = c.index-vars-sv.result in
    let is : var ≡ get_or m.vars c.in-Some.sv var = c.index-vars-sv.is ∙ ap (λ vs. get_or vs c.in-Some.sv var) c.as_slice-vars.ensures in
    let value : value_at var.values w.value ≡ None = ap (λ (v : Var). value_at v.values w.value) c.index-vars-sv.is ∙ ap (λ vs. value_at vs w.value) (sym c.as_slice.ensures) ∙ sym c.value_at.ensures ∙ c.in-None.is in
    kind_without_value m w c.in_ok-copy-in-None.field-0 c.in-Some.sv var found (variable_below m w.sv c.in-Some.sv found) is value c.in_ok-copy-in-None.ensures
