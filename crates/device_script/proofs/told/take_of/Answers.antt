use Rattle.std.proofs.Common.{arith, sym, ◌∙◌, ap, ◌<◌, [], get_or, set, length}
use Rattle.device_script.specs.Sayings.{next_clause, clauses_after}
use Rattle.device_script.specs.Telling.{coming, all_coming}
use Rattle.device_script.proofs.SayingLemmas.{taken_words, taken_next}
use Rattle.device_script.proofs.told.take_of.Goals as goal

pub returns-clause-words : goal.returns-clause-words
returns-clause-words c =
    let within : c.args.value < length c.in-Some.turns.items = omega (arith, c.if-value-len.false, c.len.ensures) in
    taken_words c.in-Some.turns.items c.args.value c.index_mut.result.now c.take_clause.new.turns within c.take_clause.result
    (c.take_clause.ensures.words ∙ ap (λ t. next_clause (coming t)) c.index_mut.ensures.value)
    ∙ ap (λ v. next_clause (get_or (all_coming v) c.args.value [])) (sym c.in-Some.is)

pub returns-clause-next : goal.returns-clause-next
returns-clause-next c =
    let within : c.args.value < length c.in-Some.turns.items = omega (arith, c.if-value-len.false, c.len.ensures) in
    taken_next c.in-Some.turns.items c.args.value c.index_mut.result.now c.take_clause.new.turns within
    (c.take_clause.ensures.next ∙ ap (λ t. clauses_after (coming t)) c.index_mut.ensures.value)
    ∙ ap (λ v. set (all_coming v) c.args.value (clauses_after (get_or (all_coming v) c.args.value []))) (sym c.in-Some.is)
