-- A plan up to its first flaw.
use Rattle.std.proofs.Common.{◌≡◌, ℕ, suc, zero, ◌+◌, ◌<◌, ◌^◌, List, [], ◌∷◌, take, length, Some, sym, ap, ◌∙◌, subst, arith, add-one}
use Rattle.std.specs.Prelude.{slice_get}
use Rattle.std.proofs.lemmas.List.{length-take-le}
use Rattle.std.proofs.lemmas.Option.{slice_get_within}
use Rattle.hs_base.specs.declared.mission.Mission.{Mission}
use Rattle.hs_base.specs.declared.plan.Extension.{Extension}
use Rattle.hs_base.specs.declared.fault.Fault.{Fault}
use Rattle.hs_base.specs.declared.fault.Fault.TheVariants.{Base, Limit as OverLimit, Order, Fixed, WrongSupport, Unsupported, Goal as NoGoal, Cycle, Memory as NoMemoryLeft}
use Rattle.hs_base.specs.Points.{count}
use Rattle.hs_base.specs.Checked.{joined, Checked}
use Rattle.hs_base.specs.Faults.{IsFault}
use Rattle.hs_texts.specs.RefusalText.{fault_text}
use Rattle.base_laws.proofs.PointLemmas.{count-push}
use Rattle.plan_check.proofs.WithinLemmas.{few_points}
use Rattle.answer_lines.specs.Naming.{NamesPoints}
use Rattle.commands.specs.Checks.{IsFlaw}

-- the plan up to an extension ends with it
take_at : (es : List Extension) (i : ℕ) (e : Extension) → slice_get es i ≡ Some e → take (suc i) es ≡ joined (take i es) e
take_at [] i e h = absurd cc
take_at (x ∷ es) zero e h = ap (λ (y : Extension). y ∷ []) cc
take_at (x ∷ es) (suc i) e h = ap (λ (l : List Extension). x ∷ l) (take_at es i e h)

pub take_next : (es : List Extension) (i : ℕ) (e : Extension) → slice_get es i ≡ Some e → take (i + 1) es ≡ joined (take i es) e
take_next es i e h = rw add-one (take_at es i e h)

-- the plan with an extension of which a cycle is told has few points
few_named : (m : Mission) (es : List Extension) (e : Extension) (fault : Fault) → Checked m es → IsFault m es e fault → NamesPoints fault → count (joined es e) < 2 ^ 32
few_named m es e (Cycle bs) c f named =
    let tokens = f.0.1.0.tokens in
    let few = few_points m c.mission es c.rules in
    omega (arith, tokens, few, count-push es e)
few_named m es e (Base g n) c f named = absurd named
few_named m es e (OverLimit p t) c f named = absurd named
few_named m es e (Order v p) c f named = absurd named
few_named m es e (Fixed n) c f named = absurd named
few_named m es e (WrongSupport n) c f named = absurd named
few_named m es e (Unsupported v p n) c f named = absurd named
few_named m es e (NoGoal n) c f named = absurd named
few_named m es e NoMemoryLeft c f named = absurd named

pub few_at_flaw : (m : Mission) (es : List Extension) (place : ℕ) (fault : Fault) → IsFlaw m es place fault → NamesPoints fault → count (take (place + 1) es) < 2 ^ 32
few_at_flaw m es place fault f named = subst (λ (l : List Extension). count l < 2 ^ 32) (sym (take_next es place f.extension f.is)) (few_named m (take place es) f.extension fault f.sound f.first named)

-- the lines of a flaw's fault
pub told_at_flaw : (m : Mission) (es : List Extension) (place : ℕ) (fault : Fault) (text : List ℕ) → IsFlaw m es place fault → text ≡ fault_text m (take (place + 1) es) (length (take (place + 1) es)) fault → text ≡ fault_text m (take (place + 1) es) (place + 1) fault
told_at_flaw m es place fault text f e =
    let within = slice_get_within es place f.extension f.is in
    let size : length (take (place + 1) es) ≡ place + 1 = length-take-le (place + 1) es (omega (arith, within)) in
    e ∙ ap (λ (n : ℕ). fault_text m (take (place + 1) es) n fault) size

-- a further extension that is checked
pub checked_next : (m n : Mission) (es before next : List Extension) (i : ℕ) (e : Extension) → n ≡ m → before ≡ take i es → next ≡ joined before e → slice_get es i ≡ Some e → Checked n next → (next ≡ take (i + 1) es) × Checked m (take (i + 1) es)
checked_next m n es before next i e same old new at c =
    let is : next ≡ take (i + 1) es = new ∙ ap (λ (l : List Extension). joined l e) old ∙ sym (take_next es i e at) in
    (is, subst (λ (x : Mission). Checked x (take (i + 1) es)) same (subst (λ (l : List Extension). Checked n l) is c))

-- a fault of a further extension is the plan's first flaw
pub flaw_next : (m n : Mission) (es before : List Extension) (i : ℕ) (e : Extension) (fault : Fault) → n ≡ m → before ≡ take i es → slice_get es i ≡ Some e → Checked m (take i es) → IsFault n before e fault → IsFlaw m es i fault
flaw_next m n es before i e fault same old at c f = record {
  extension = e;
  is = at;
  sound = c;
  first = subst (λ (x : Mission). IsFault x (take i es) e fault) same (subst (λ (l : List Extension). IsFault n l e fault) old f);
}
