-- The words of a mission.
use Rattle.std.proofs.Common.{◌≡◌, ◌≢◌, ℕ, false, List, [], ◌∷◌, ◌++◌, map, flat_map, Some, codes, refl, inl, inr, lit≤}
use Rattle.std.proofs.lemmas.Bool.{cases_Bool}
use Rattle.std.specs.Prelude.{slice_get}
use Rattle.std.specs.List.{AllByRecursion}
use Rattle.std.specs.Str.{bytes_eq}
use Rattle.hs_texts.specs.declared.ast.Ast.{Ast}
use Rattle.hs_texts.specs.declared.ast.AstStep.TheVariants.{Do as AstDo, Until as AstUntil}
use Rattle.hs_texts.specs.declared.ast.AstSaid.{AstSaid}
use Rattle.hs_texts.specs.declared.ast.AstStep.{AstStep}
use Rattle.hs_texts.specs.declared.ast.AstValue.{AstValue}
use Rattle.hs_texts.specs.declared.ast.AstVar.{AstVar}
use Rattle.hs_base.specs.Names.{IsName}
use Rattle.hs_base.specs.Walks.{AreDifferent}
use Rattle.hs_texts.specs.MissionMeaning.{step_word, words_of_value, words_of, word_table, first_seen}
use Rattle.hs_texts.specs.MissionRefusals.{is_among}
use Rattle.base_laws.proofs.ListLemmas.{each_both, each_weaker, EachAfter-more}
use Rattle.text_laws.specs.Writable.{IsWritableStep, IsWritableSaid, AreWritableAnswers, IsWritableValue, IsWritableVar}
use Rattle.domain_check.proofs.EachLemmas.{each_fails}
use Rattle.domain_check.proofs.MeaningLemmas.{part_each}
use Rattle.domain_check.proofs.DifferLemmas.{other_names}

-- what holds of the words seen and of the further ones holds of all
seen_each : (P : List ℕ → Type 0) (seen ws : List (List ℕ)) → AllByRecursion P seen → AllByRecursion P ws → AllByRecursion P (first_seen seen ws)
seen_each P seen [] h k = h
seen_each P seen (w ∷ ws) h k = elim (cases_Bool (is_among seen w)) [
  | inl again ↦ rw again (seen_each P seen ws h k.1)
  | inr fresh ↦ rw fresh (seen_each P (seen ++ w ∷ []) ws (each_both P seen (w ∷ []) h (k.0, tt)) k.1)
]

-- they are different
seen_different : (seen ws : List (List ℕ)) → AreDifferent seen → AreDifferent (first_seen seen ws)
seen_different seen [] h = h
seen_different seen (w ∷ ws) h = elim (cases_Bool (is_among seen w)) [
  | inl again ↦ rw again (seen_different seen ws h)
  | inr fresh ↦
      let apart : AllByRecursion (λ y. y ≢ w) seen = each_weaker (λ y. bytes_eq w y ≡ false) (λ y. y ≢ w) (other_names w) seen (each_fails (bytes_eq w) seen fresh) in
      let more : AreDifferent (seen ++ w ∷ []) = EachAfter-more (λ before x. AllByRecursion (λ y. y ≢ x) before) [] seen w h apart in
      rw fresh (seen_different (seen ++ w ∷ []) ws more)
]

-- the first one stays
seen_first : (x : List ℕ) (seen ws : List (List ℕ)) → slice_get (first_seen (x ∷ seen) ws) 0 ≡ Some x
seen_first x seen [] = refl
seen_first x seen (w ∷ ws) = elim (cases_Bool (is_among (x ∷ seen) w)) [
  | inl again ↦ rw again (seen_first x seen ws)
  | inr fresh ↦ rw fresh (seen_first x (seen ++ w ∷ []) ws)
]

done_named : IsName (codes "done")
done_named = record { begins = refl; bytes = refl; short = lit≤ tt; free = refl }

step_named : (s : AstStep) → IsWritableStep s → IsName (step_word s)
step_named (AstDo ordered amount) h = h.0
step_named (AstUntil awaited) h = h

steps_named : (ss : List AstStep) → AllByRecursion IsWritableStep ss → AllByRecursion IsName (map step_word ss)
steps_named [] h = tt
steps_named (s ∷ ss) h = (step_named s h.0, steps_named ss h.1)

said_named : (said : List AstSaid) → AllByRecursion IsWritableSaid said → AllByRecursion IsName (map (λ (s : AstSaid). s.word) said)
said_named [] h = tt
said_named (s ∷ said) h = (h.0.named, said_named said h.1)

value_named : (v : AstValue) → IsWritableValue v → AllByRecursion IsName (words_of_value v)
value_named v h =
    each_both IsName (map step_word v.script) (flat_map (λ (said : List AstSaid). map (λ (s : AstSaid). s.word) said) v.answers) (steps_named v.script h.steps)
    (part_each IsName (λ (said : List AstSaid). map (λ (s : AstSaid). s.word) said) v.answers (each_weaker AreWritableAnswers (λ (said : List AstSaid). AllByRecursion IsName (map (λ (s : AstSaid). s.word) said)) (λ said k. said_named said k.each) v.answers h.answers))

words_named : (vars : List AstVar) → AllByRecursion IsWritableVar vars → AllByRecursion IsName (flat_map (λ (var : AstVar). flat_map words_of_value var.values) vars)
words_named vars h =
    part_each IsName (λ (var : AstVar). flat_map words_of_value var.values) vars
    (each_weaker IsWritableVar (λ (var : AstVar). AllByRecursion IsName (flat_map words_of_value var.values))
    (λ (var : AstVar) k. part_each IsName words_of_value var.values (each_weaker IsWritableValue (λ v. AllByRecursion IsName (words_of_value v)) value_named var.values k.values)) vars h)

-- the table has different names, `done` first
pub table_named : (a : Ast) → AllByRecursion IsWritableVar a.vars → AllByRecursion IsName (word_table a)
table_named a h = seen_each IsName (codes "done" ∷ []) (words_of a) (done_named, tt) (words_named a.vars h)

pub table_different : (a : Ast) → AreDifferent (word_table a)
table_different a = seen_different (codes "done" ∷ []) (words_of a) (tt, tt)

pub table_first : (a : Ast) → slice_get (word_table a) 0 ≡ Some (codes "done")
table_first a = seen_first (codes "done") [] (words_of a)
