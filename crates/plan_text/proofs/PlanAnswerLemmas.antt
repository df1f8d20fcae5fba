-- A plan's text has one answer: the plan that it spells, or one refusal.
use Rattle.std.proofs.Common.{◌≡◌, ℕ, List, [], subst}
use Rattle.hs_base.specs.declared.mission.Mission.{Mission}
use Rattle.hs_base.specs.declared.plan.Extension.{Extension}
use Rattle.hs_texts.specs.declared.refusal.Refusal.{Refusal}
use Rattle.hs_texts.specs.declared.written.WrittenExtension.{WrittenExtension}
use Rattle.hs_texts.specs.PlanGrammar.{PlanGrammar}
use Rattle.plan_text.specs.PlanReading.{plan_at}
use Rattle.hs_texts.specs.PlanSpelling.{PlanSpells, IsPlanRefusal, ExtensionsMean, unknown_in_plan}
use Rattle.plan_text.proofs.PlanReadLemmas.{plan_reads}
use Rattle.plan_text.proofs.KeptAnswerLemmas.{text_one, refusal_one as named_one, known_or_refusal}
use Rattle.plan_text.proofs.MeaningLemmas.{plan_known, extensions_one}

-- a text has one refusal
pub refusal_one : (m : Mission) (bytes : List ℕ) (i : ℕ) (r s : Refusal) → IsPlanRefusal m bytes i r → IsPlanRefusal m bytes i s → r ≡ s
refusal_one m bytes i r s h k = named_one (PlanGrammar m) (plan_at m) (plan_reads m) (unknown_in_plan m) bytes i r s h k

-- a text that spells a plan isn't refused
pub spelled_or_refusal : (m : Mission) (bytes : List ℕ) (i : ℕ) (es : List Extension) (r : Refusal) → PlanSpells m bytes i es → IsPlanRefusal m bytes i r → ⊥
spelled_or_refusal m bytes i es r s h = known_or_refusal (PlanGrammar m) (plan_at m) (plan_reads m) (unknown_in_plan m) bytes i s.written r s.is_plan (plan_known m [] s.written es s.means) h

-- and spells one alone
pub plan_one : (m : Mission) (bytes : List ℕ) (i : ℕ) (es fs : List Extension) → PlanSpells m bytes i es → PlanSpells m bytes i fs → es ≡ fs
plan_one m bytes i es fs s t =
    let e = text_one (PlanGrammar m) (plan_at m) (plan_reads m) bytes i s.written t.written s.is_plan t.is_plan in
    extensions_one m [] t.written es fs (subst (λ (ws : List WrittenExtension). ExtensionsMean m [] ws es) e s.means) t.means
