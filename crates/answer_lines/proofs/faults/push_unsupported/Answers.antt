use Rattle.std.proofs.Common.{◌≡◌, ◌++◌, OnOk, ap, ◌∙◌, codes, subst, append_assoc}
use Rattle.std.specs.Fmt.{decimal}
use Rattle.hs_texts.specs.Written.{variable_name}
use Rattle.answer_lines.proofs.faults.push_unsupported.Goals as goal

pub returns : goal.returns
returns c =
    let name = variable_name c.args.mission.now c.args.sv.0 in
    let numbers = codes " " ++ decimal c.args.place ++ codes " " ++ decimal c.args.need ++ codes "\n" in
    let named = c.in_ok-push_variable.ensures ∙ ap (λ t. t ++ name) c.in_ok-push_bytes.ensures.ok in
    let regroup : c.args.text.now ++ codes "3 unsupported " ++ name ++ numbers ≡ c.args.text.now ++ (codes "3 unsupported " ++ name ++ codes " " ++ decimal c.args.place ++ codes " " ++ decimal c.args.need ++ codes "\n") =
    simp append_assoc in
    subst (λ t. OnOk c.push_pair.result (c.push_pair.new.text ≡ t)) (ap (λ t. t ++ numbers) named ∙ regroup) c.push_pair.ensures
