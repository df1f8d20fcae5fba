-- A checked plan has no flaw, and another one first flaw.
use Rattle.std.proofs.Common.{◌≡◌, ◌≢◌, ℕ, suc, ◌<◌, List, [], ◌∷◌, ◌++◌, take, drop, Some, sym, ap, ◌∙◌, subst, arith, inl, inr, append_assoc, append-nil}
use Rattle.std.proofs.lemmas.Bool.{cases_lt}
use Rattle.std.proofs.lemmas.List.{take-take}
use Rattle.std.specs.Prelude.{◌⊎◌, slice_get}
use Rattle.hs_base.specs.declared.mission.Mission.{Mission}
use Rattle.hs_base.specs.declared.plan.Extension.{Extension}
use Rattle.hs_base.specs.declared.fault.Fault.{Fault}
use Rattle.hs_base.specs.declared.fault.Fault.TheVariants.{Memory as NoMemoryLeft}
use Rattle.hs_base.specs.Checked.{joined, schedule, KeepsRules, Checked}
use Rattle.hs_base.specs.Faults.{rule_of, IsFault}
use Rattle.base_laws.proofs.ListLemmas.{EachAfter-push, front_induction, slice_get-split, slice_get-take}
use Rattle.plan_laws.proofs.PlanLemmas.{restricts}
use Rattle.plan_laws.proofs.FaultLemmas.{not_checked}
use Rattle.plan_laws.proofs.OneFaultLemmas.{one_fault}
use Rattle.commands.specs.Checks.{IsFlaw, IsFaulty}

without_last : (m : Mission) (es : List Extension) (e : Extension) → Checked m (es ++ e ∷ []) → Checked m es
without_last m es e c = record { mission = c.mission; schedule = c.schedule; meets = restricts m es e c.schedule c.meets; rules = (EachAfter-push (KeepsRules m) [] es e c.rules).0 }

-- the front of a checked plan is checked
pub front_checked : (m : Mission) (es fs : List Extension) → Checked m (es ++ fs) → Checked m es
front_checked m es fs =
    front_induction (λ (xs : List Extension). Checked m (es ++ xs) → Checked m es)
    (λ c. subst (λ (l : List Extension). Checked m l) (append-nil es) c)
    (λ before e kept c. kept (without_last m (es ++ before) e (subst (λ (l : List Extension). Checked m l) (sym (append_assoc es before (e ∷ []))) c)))
    fs

-- and so is that up to an extension
up_to : (m : Mission) (es : List Extension) (i : ℕ) (e : Extension) → slice_get es i ≡ Some e → Checked m es → Checked m (joined (take i es) e)
up_to m es i e at c =
    let split : es ≡ joined (take i es) e ++ drop (suc i) es = slice_get-split es i e at ∙ sym (append_assoc (take i es) (e ∷ []) (drop (suc i) es)) in
    front_checked m (joined (take i es) e) (drop (suc i) es) (subst (λ (l : List Extension). Checked m l) split c)

pub checked_or_faulty : (m : Mission) (es : List Extension) (text : List ℕ) → Checked m es → IsFaulty m es text → ⊥
checked_or_faulty m es text c f = not_checked m (take f.place es) f.flaw.extension f.fault f.some f.flaw.first (up_to m es f.place f.flaw.extension f.flaw.is c)

-- no flaw stands before a plan's first one
none_earlier : (m : Mission) (es : List Extension) (i j : ℕ) (f g : Fault) → f ≢ NoMemoryLeft → IsFlaw m es i f → IsFlaw m es j g → i < j → ⊥
none_earlier m es i j f g some a b less =
    let at : slice_get (take j es) i ≡ Some a.extension = slice_get-take es i j less ∙ a.is in
    let front : take i (take j es) ≡ take i es = take-take i j es (omega (arith, less)) in
    let c : Checked m (joined (take i es) a.extension) = subst (λ (l : List Extension). Checked m (joined l a.extension)) front (up_to m (take j es) i a.extension at b.sound) in
    not_checked m (take i es) a.extension f some a.first c

-- a plan's first flaws are at one place, and of one fault or of cycles
pub one_flaw : (m : Mission) (es : List Extension) (i j : ℕ) (f g : Fault) → f ≢ NoMemoryLeft → g ≢ NoMemoryLeft → IsFlaw m es i f → IsFlaw m es j g → (i ≡ j) × ((f ≡ g) ⊎ ((rule_of f ≡ schedule) × (rule_of g ≡ schedule)))
one_flaw m es i j f g some_f some_g a b = elim (cases_lt i j) [
  | inl less ↦ absurd (none_earlier m es i j f g some_f a b less)
  | inr more ↦ elim (cases_lt j i) [
    | inl less ↦ absurd (none_earlier m es j i g f some_g b a less)
    | inr same ↦
        let place : i ≡ j = omega arith in
        let both : Some b.extension ≡ Some a.extension = sym b.is ∙ ap (slice_get es) (sym place) ∙ a.is in
        let extension : b.extension ≡ a.extension = cc in
        let first : IsFault m (take i es) a.extension g = subst (λ (x : Extension). IsFault m (take i es) x g) extension (subst (λ (n : ℕ). IsFault m (take n es) b.extension g) (sym place) b.first) in
        (place, one_fault m (take i es) a.extension f g some_f some_g a.first first)
  ]
]
