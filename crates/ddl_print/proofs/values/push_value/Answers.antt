use Rattle.std.proofs.Common.{◌≡◌, ◌++◌, OnOk, List, ℕ, [], cond, codes, flat_map, ap, ◌∙◌, subst, append_assoc}
use Rattle.hs_texts.specs.CanonicalText.{next_text, lasts_text, script_line, answers_line}
use Rattle.ddl_print.proofs.values.push_value.Goals as goal

-- what grew part by part has all parts at its end
grown : (t a b c d e f g h t1 t2 t3 t4 t5 t6 t7 : List ℕ) → t1 ≡ t ++ a → t2 ≡ t1 ++ b → t3 ≡ t2 ++ c → t4 ≡ t3 ++ d → t5 ≡ t4 ++ e → t6 ≡ t5 ++ f → t7 ≡ t6 ++ g → t7 ++ h ≡ t ++ (a ++ b ++ c ++ d ++ e ++ f ++ g ++ h)
grown t a b c d e f g h t1 t2 t3 t4 t5 t6 t7 e1 e2 e3 e4 e5 e6 e7 =
    let regroup : t ++ a ++ b ++ c ++ d ++ e ++ f ++ g ++ h ≡ t ++ (a ++ b ++ c ++ d ++ e ++ f ++ g ++ h) = simp append_assoc in
    ap (λ x. x ++ h) (e7 ∙ ap (λ x. x ++ g) (e6 ∙ ap (λ x. x ++ f) (e5 ∙ ap (λ x. x ++ e) (e4 ∙ ap (λ x. x ++ d) (e3 ∙ ap (λ x. x ++ c) (e2 ∙ ap (λ x. x ++ b) e1)))))) ∙ regroup

pub returns : goal.returns
returns c =
    let v = c.args.value.now in
    let device = cond v.by_device (script_line v.script ++ flat_map answers_line v.answers) [] in
    let name = c.in_ok-push_bytes-2.ensures.ok ∙ ap (λ x. c.push_bytes.new.self ++ x) c.as_bytes.ensures in
    let lasts = c.in_ok-push_lasts.ensures ∙ ap (λ x. c.push_bytes-3.new.self ++ lasts_text x) c.as_slice.ensures in
    let next = c.in_ok-push_next.ensures ∙ ap (λ x. c.push_by_device.new.text ++ next_text x) c.as_slice-2.ensures in
    let all =
    grown c.args.text.now (codes "value ") v.name (codes " ") (lasts_text v.lasts) (cond v.by_device (codes " by device") []) (next_text v.next) (codes "\n") device
    c.push_bytes.new.self c.push_bytes-2.new.self c.push_bytes-3.new.self c.push_lasts.new.text c.push_by_device.new.text c.push_next.new.text c.push_bytes-4.new.self
    c.in_ok-push_bytes.ensures.ok name c.in_ok-push_bytes-3.ensures.ok lasts c.in_ok-push_by_device.ensures next c.in_ok-push_bytes-4.ensures.ok in
    subst (λ t. OnOk c.push_device_lines.result (c.push_device_lines.new.text ≡ t)) all c.push_device_lines.ensures
