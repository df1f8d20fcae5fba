use Rattle.std.proofs.Common.{w64, refl, sym, ◌∙◌, ap, subst, ◌+◌, ◌≡◌, [], List, Some, drop}
use Rattle.std.proofs.lemmas.Bool.{false≢true}
use Rattle.std.proofs.lemmas.Int.{to_z-of_z}
use Rattle.hs_base.specs.declared.mission.Said.{Said}
use Rattle.device_script.specs.Sayings.{Saying, IsDue, IsQuiet, Says}
use Rattle.device_script.specs.Telling.{saying_of, words_at}
use Rattle.device_script.proofs.SayingLemmas.{drop_word, drop_none}
use Rattle.device_script.proofs.told.Told.next_word.Goals as goal

pub returns-in_default-word : goal.returns-in_default-word
returns-in_default-word c =
    let w = c.in-Some.running in
    let words : List Said = words_at c.self.inside.values w.value w.clause in
    let none : drop w.spoken words ≡ [] = drop_none words w.spoken (sym c.word_at-word.ensures.word ∙ c.in_default-word.is) in
    let same : saying_of (record { values = c.self.inside.values; running = Some w }) ≡ c.args.self.now = ap (λ r. saying_of (record { values = c.self.inside.values; running = r })) (sym c.in-Some.is) ∙ c.self.view_is in
    (subst (λ (s : Saying). IsQuiet s.since c.args.now s.left) same (subst (IsQuiet w.begun c.args.now) (sym none) tt), same)

pub returns-then-not-is_due : goal.returns-then-not-is_due
returns-then-not-is_due c =
    let w = c.in-Some.running in
    let words : List Said = words_at c.self.inside.values w.value w.clause in
    let next = drop_word words w.spoken c.in-Some-word.said (sym c.word_at-word.ensures.word ∙ c.in-Some-word.is) in
    let same : saying_of (record { values = c.self.inside.values; running = Some w }) ≡ c.args.self.now = ap (λ r. saying_of (record { values = c.self.inside.values; running = r })) (sym c.in-Some.is) ∙ c.self.view_is in
    let early : IsDue w.begun c.args.now c.in-Some-word.said → ⊥ = λ due. false≢true (c.if-not-is_due.ensures.1 (subst (λ n. IsDue w.begun n c.in-Some-word.said) (sym (to_z-of_z w64 c.args.now c.ranges.now)) due)) in
    (subst (λ (s : Saying). IsQuiet s.since c.args.now s.left) same (subst (IsQuiet w.begun c.args.now) (sym next) early), same)

pub returns : goal.returns
returns c =
    let w = c.in-Some.running in
    let words : List Said = words_at c.self.inside.values w.value w.clause in
    let next = drop_word words w.spoken c.in-Some-word.said (sym c.word_at-word.ensures.word ∙ c.in-Some-word.is) in
    let same : saying_of (record { values = c.self.inside.values; running = Some w }) ≡ c.args.self.now = ap (λ r. saying_of (record { values = c.self.inside.values; running = r })) (sym c.in-Some.is) ∙ c.self.view_is in
    let due : IsDue w.begun c.args.now c.in-Some-word.said = subst (λ n. IsDue w.begun n c.in-Some-word.said) (to_z-of_z w64 c.args.now c.ranges.now) (c.if-not-is_due.ensures.0 refl) in
    subst (λ (s : Saying). Says s c.args.now c.in-Some-word.said.word (saying_of (record { values = c.self.inside.values; running = Some (record w { spoken = w.spoken + 1 }) }))) same
    (record { delay = c.in-Some-word.said.delay; next = next; due = due; rest = refl })
