use Rattle.std.proofs.Common.{◌≡◌, ◌∙◌, ap, sym, subst, List, ℕ, map, flat_map, OnOk}
use Rattle.hs_texts.specs.declared.ast.AstSaid.{AstSaid}
use Rattle.hs_texts.specs.declared.ast.AstStep.{AstStep}
use Rattle.hs_texts.specs.MissionMeaning.{first_seen, step_word}
use Rattle.domain_check.specs.Tables.{names_in, words_said}
use Rattle.domain_check.proofs.LoopLemmas.{first_seen-append}
use Rattle.domain_check.proofs.words.add_value.Goals as goal

pub returns : goal.returns
returns c =
    let v = c.args.value.now in
    let answers = ap (λ (s : List (List AstSaid)). first_seen (names_in c.add_steps.new.words) (flat_map words_said s)) c.as_slice-2.ensures in
    let steps = c.in_ok-add_steps.ensures ∙ ap (λ (s : List AstStep). first_seen (names_in c.args.words.now) (map step_word s)) c.as_slice.ensures in
    let both = answers ∙ ap (λ (s : List (List ℕ)). first_seen s (flat_map words_said v.answers)) steps ∙ sym (first_seen-append (names_in c.args.words.now) (map step_word v.script) (flat_map words_said v.answers)) in
    subst (λ (t : List (List ℕ)). OnOk c.add_answers.result (names_in c.add_answers.new.words ≡ t)) both c.add_answers.ensures
