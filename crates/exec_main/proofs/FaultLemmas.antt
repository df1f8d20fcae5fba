-- What a device fault is told of.
use Rattle.std.proofs.Common.{◌≡◌, ℕ, List, [], sym, ◌∙◌, subst, inl, inr}
use Rattle.hs_base.specs.declared.mission.Mission.{Mission}
use Rattle.hs_base.specs.declared.plan.Extension.{Extension}
use Rattle.command_line.specs.declared.request.Command.{Command}
use Rattle.command_line.specs.declared.request.Command.TheVariants.{Print, Plan, Check, Net, Sim, Drill, Fly}
use Rattle.search_tree.specs.Tree.{Found, plan, no_plan, budget}
use Rattle.simulation_laws.specs.Ended.{Heard, RoseAt}
use Rattle.commands.specs.Checks.{Checks, Judges}
use Rattle.commands.specs.Plans.{IsNetText, IsPlanText, Tells}
use Rattle.commands.specs.Prints.{Prints}
use Rattle.commands.specs.Searches.{IsToldOf}
use Rattle.commands.specs.Sims.{Runs, RunsAlone, Sims}
use Rattle.commands.specs.declared.status.Status.{Status}
use Rattle.commands.specs.declared.status.Status.TheVariants.{DeviceFault}
use Rattle.commands.proofs.EndLemmas.{fault_rose}
use Rattle.exec_main.specs.Ground.{Makes}

none_printed : (bytes text : List ℕ) (status : Status) → status ≡ DeviceFault → Prints bytes status text → ⊥
none_printed bytes text status is p = subst (λ (s : Status). Prints bytes s text) is p

none_checked : (bytes text : List ℕ) (status : Status) → status ≡ DeviceFault → Checks bytes status text → ⊥
none_checked bytes text status is (inl j) = subst (λ (s : Status). Judges j.mission j.plan s text) is j.judges
none_checked bytes text status is (inr r) = absurd (let e = sym is ∙ r.0 in cc)

none_told : (m : Mission) (head : List ℕ) (What : List Extension → List ℕ → Type 0) (found : Found Extension) (text : List ℕ) (status : Status) → status ≡ DeviceFault → IsToldOf m head What found status text → ⊥
none_told m head What (plan e) text status is t = absurd (let e = sym is ∙ t.0 in cc)
none_told m head What no_plan text status is t = absurd (let e = sym is ∙ t.0 in cc)
none_told m head What (budget path) text status is t = absurd (let e = sym is ∙ t.0 in cc)

none_searched : (What : Mission → List Extension → List ℕ → Type 0) (nodes : ℕ) (bytes text : List ℕ) (status : Status) → status ≡ DeviceFault → Tells What nodes bytes status text → ⊥
none_searched What nodes bytes text status is (inl s) = none_told s.mission [] (What s.mission) s.searches.found text status is s.searches.told
none_searched What nodes bytes text status is (inr r) = absurd (let e = sym is ∙ r.0 in cc)

run_rose : (nodes : ℕ) (heard : List Heard) (m : Mission) (es : List Extension) (text : List ℕ) (status : Status) → status ≡ DeviceFault → Runs nodes heard m es status text → (d : ℕ) × RoseAt heard d
run_rose nodes heard m es text status is (inl (inl r)) = fault_rose nodes _ heard m status text r.told is
run_rose nodes heard m es text status is (inl (inr r)) = absurd (let e = sym is ∙ r.refused in cc)
run_rose nodes heard m es text status is (inr u) = absurd (let e = sym is ∙ u.refused in cc)

alone_rose : (nodes : ℕ) (heard : List Heard) (m : Mission) (text : List ℕ) (status : Status) → status ≡ DeviceFault → RunsAlone nodes heard m status text → (d : ℕ) × RoseAt heard d
alone_rose nodes heard m text status is (inl r) = fault_rose nodes _ heard m status text r.1 is
alone_rose nodes heard m text status is (inr u) = absurd (let e = sym is ∙ u.refused in cc)

sim_rose : (nodes : ℕ) (heard : List Heard) (bytes text : List ℕ) (status : Status) → status ≡ DeviceFault → Sims nodes heard bytes status text → (d : ℕ) × RoseAt heard d
sim_rose nodes heard bytes text status is (inl (inl r)) = run_rose nodes heard r.mission r.plan text status is r.runs
sim_rose nodes heard bytes text status is (inl (inr a)) = alone_rose nodes heard a.mission text status is a.runs
sim_rose nodes heard bytes text status is (inr r) = absurd (let e = sym is ∙ r.0 in cc)

-- where it is told, a device has counted a fault
pub made_rose : (c : Command) (nodes : ℕ) (heard : List Heard) (bytes text : List ℕ) (status : Status) → status ≡ DeviceFault → Makes c nodes heard bytes status text → (d : ℕ) × RoseAt heard d
made_rose Print nodes heard bytes text status is h = absurd (none_printed bytes text status is h)
made_rose Check nodes heard bytes text status is h = absurd (none_checked bytes text status is h)
made_rose Plan nodes heard bytes text status is h = absurd (none_searched IsPlanText nodes bytes text status is h)
made_rose Net nodes heard bytes text status is h = absurd (none_searched IsNetText nodes bytes text status is h)
made_rose Sim nodes heard bytes text status is h = sim_rose nodes heard bytes text status is h
made_rose Drill nodes heard bytes text status is h = absurd h
made_rose Fly nodes heard bytes text status is h = absurd h
