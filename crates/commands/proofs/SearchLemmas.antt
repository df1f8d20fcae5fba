-- What is told of the search of a first plan.
use Rattle.std.proofs.Common.{◌≡◌, ℕ, List, [], refl, sym, subst, inl, inr, None}
use Rattle.hs_base.specs.declared.mission.Mission.{Mission}
use Rattle.hs_base.specs.declared.plan.Extension.{Extension}
use Rattle.hs_base.specs.Checked.{Checked}
use Rattle.simulation_laws.specs.Ended.{Heard}
use Rattle.search_tree.specs.Tree.{Found, plan, no_plan, budget}
use Rattle.search_laws.proofs.OneLemmas.{one_plan}
use Rattle.plan_search.specs.declared.unplanned.Unplanned.{Unplanned}
use Rattle.plan_search.specs.declared.unplanned.Unplanned.TheVariants.{NoPlan as NoneAtAll, Budget as NodesEnded, Memory as NoMemoryLeft}
use Rattle.plan_search.specs.First.{FindsFirst, IsPlanned, IsUnplanned, outset}
use Rattle.commands.specs.Inputs.{IsWhole}
use Rattle.commands.specs.Plans.{Tells}
use Rattle.commands.specs.Searches.{IsToldOf, Searches}
use Rattle.commands.specs.Runs.{IsSimTold}
use Rattle.commands.specs.Sims.{HasOneHorizon, Sims}
use Rattle.commands.specs.Untold.{IsToldWhy}
use Rattle.commands.specs.declared.status.Status.{Status}
use Rattle.commands.specs.declared.status.Status.TheVariants.{Done}
use Rattle.commands.proofs.WholeLemmas.{whole_one, whole_or_refused, whole_in_front, whole_or_given, whole_or_run_refused}

-- a plan that is found and told
pub plan_told : (m : Mission) (nodes : ℕ) (head : List ℕ) (What : List Extension → List ℕ → Type 0) (es : List Extension) (status : Status) (text : List ℕ) → IsPlanned m nodes es → status ≡ Done → What es text → Searches m nodes head What status text
plan_told m nodes head What es status text p done told = record {
  found = plan p.extension;
  finds = p.found;
  told = (done, subst (λ (l : List Extension). Checked m l) p.is p.checked, subst (λ (l : List Extension). What l text) p.is told);
}

-- it is told why there is none
pub none_told : (m : Mission) (nodes : ℕ) (head : List ℕ) (What : List Extension → List ℕ → Type 0) (why : Unplanned) (status : Status) (text : List ℕ) → IsUnplanned m nodes why → IsToldWhy why head status text → Searches m nodes head What status text
none_told m nodes head What NoneAtAll status text u t = record { found = no_plan; finds = u; told = (t.told, t.line) }
none_told m nodes head What (NodesEnded path) status text u t = record { found = budget path; finds = u; told = (t.told, t.line) }
none_told m nodes head What NoMemoryLeft status text u t = absurd (t.some refl)

-- what is told is told of what is found
pub told_of_found : (m : Mission) (nodes : ℕ) (head : List ℕ) (What : List Extension → List ℕ → Type 0) (found : Found Extension) (status : Status) (text : List ℕ) → FindsFirst m nodes found → Searches m nodes head What status text → IsToldOf m head What found status text
told_of_found m nodes head What found status text f s = subst (λ (x : Found Extension). IsToldOf m head What x status text) (one_plan m outset nodes s.found found s.finds f) s.told

-- a command that searches tells what is found for an accepted mission
pub searched : (What : Mission → List Extension → List ℕ → Type 0) (nodes : ℕ) (bytes text : List ℕ) (m : Mission) (found : Found Extension) (status : Status) → IsWhole bytes m → FindsFirst m nodes found → Tells What nodes bytes status text → IsToldOf m [] (What m) found status text
searched What nodes bytes text m found status h f (inl s) =
    let same = whole_one bytes s.mission m s.whole h in
    told_of_found m nodes [] (What m) found status text f (subst (λ (x : Mission). Searches x nodes [] (What x) status text) same s.searches)
searched What nodes bytes text m found status h f (inr r) = absurd (whole_or_refused bytes m r.1.refusal h r.1.why)

-- a mission of one horizon alone is run by a plan that is searched for
pub run_alone : (nodes : ℕ) (heard : List Heard) (bytes text : List ℕ) (m : Mission) (status : Status) → IsWhole bytes m → HasOneHorizon m → Sims nodes heard bytes status text → IsSimTold nodes None heard m status text
run_alone nodes heard bytes text m status h one (inl (inl r)) = absurd (whole_or_given bytes m r.mission r.plan h r.given)
run_alone nodes heard bytes text m status h one (inl (inr u)) =
    let same = whole_in_front bytes m u.mission u.used h u.front in
    elim u.runs [
      | inl s ↦ subst (λ (x : Mission). IsSimTold nodes None heard x status text) (sym same) s.1
      | inr o ↦ absurd (o.several (subst HasOneHorizon same one))
    ]
run_alone nodes heard bytes text m status h one (inr r) = absurd (whole_or_run_refused bytes m r.1.refusal h r.1.why)
