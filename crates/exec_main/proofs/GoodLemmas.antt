-- What comes of good inputs.
use Rattle.std.proofs.Common.{◌≡◌, ℕ, ◌≤◌, List, [], ◌∷◌, ◌++◌, length, length-append, append-nil, sym, ap, ◌∙◌, subst, arith, inl, inr}
use Rattle.std.specs.Prelude.{Some, None}
use Rattle.std.specs.declared.option.Option.{Option}
use Rattle.hs_base.specs.declared.limits.TheConstants.{TEXT_BYTES}
use Rattle.hs_texts.specs.declared.ast.Ast.{Ast}
use Rattle.hs_base.specs.declared.mission.Mission.{Mission}
use Rattle.hs_base.specs.declared.plan.Extension.{Extension}
use Rattle.hs_texts.specs.CanonicalText.{canonical}
use Rattle.hs_base.specs.Checked.{Checked}
use Rattle.hs_texts.specs.ClosingText.{checked_line}
use Rattle.search_tree.specs.Tree.{Found}
use Rattle.plan_search.specs.First.{FindsFirst}
use Rattle.command_line.specs.declared.request.Command.{Command}
use Rattle.command_line.specs.declared.request.Command.TheVariants.{Print, Plan, Check, Net, Sim}
use Rattle.command_line.specs.declared.request.Request.{Request}
use Rattle.commands.specs.Checks.{IsFaulty}
use Rattle.commands.specs.Inputs.{IsGiven, IsWhole}
use Rattle.commands.specs.Plans.{IsNetText, IsPlanText}
use Rattle.commands.specs.Searches.{IsToldOf}
use Rattle.commands.specs.Prints.{IsAccepted}
use Rattle.commands.specs.Runs.{IsSimTold}
use Rattle.commands.specs.Sims.{HasOneHorizon}
use Rattle.simulation_laws.specs.Ended.{Heard}
use Rattle.commands.specs.declared.status.Status.{Status}
use Rattle.commands.specs.declared.status.Status.TheVariants.{Done, PlanRefused}
use Rattle.commands.proofs.AnswerLemmas.{printed, sound, faulted, run_by_plan, unrun}
use Rattle.commands.proofs.SearchLemmas.{searched, run_alone}
use Rattle.exec_main.specs.Streams.{Reads}
use Rattle.exec_main.specs.Ground.{Makes, Delivers, Writes, WritesSuch}

-- what was read of bytes that aren't too long is all of them
whole : (bytes read : List ℕ) (left : Option (List ℕ)) → length bytes ≤ TEXT_BYTES → Reads (Some bytes) left read → read ≡ bytes
whole bytes read None short r = absurd r.taken
whole bytes read (Some rest) short r = elim r.whole [
  | inl ends ↦ sym (r.taken ∙ ap (λ l. read ++ l) ends ∙ append-nil read)
  | inr long ↦ absurd (omega (arith, short, long, ap length r.taken ∙ length-append read rest))
]

-- what is due is written with its own status and text
due_is : (result : ℕ) (status : Status) (taken taken_after : Option (List ℕ)) (text due : List ℕ) → (status ≡ Done) × (text ≡ due) → Writes result status taken taken_after text → Writes result Done taken taken_after due
due_is result status taken taken_after text due e w =
    subst (λ (s : Status). Writes result s taken taken_after due) e.0 (subst (λ (l : List ℕ). Writes result status taken taken_after l) e.1 w)

-- what the command makes of the bytes
made : (q : Request) (heard : List Heard) (c : Command) (bytes : List ℕ) (result : ℕ) (left taken taken_after : Option (List ℕ)) → q.command ≡ c → length bytes ≤ TEXT_BYTES → (d : Delivers q heard result (Some bytes) left taken taken_after) → Makes c q.budget heard bytes d.status d.text
made q heard c bytes result left taken taken_after is short d =
    subst (λ (x : Command). Makes x q.budget heard bytes d.status d.text) is
    (subst (λ (l : List ℕ). Makes q.command q.budget heard l d.status d.text) (whole bytes d.due.bytes left short d.due.read) d.due.answers)

pub accepted_printed : (q : Request) (heard : List Heard) (bytes : List ℕ) (a : Ast) (result : ℕ) (left taken taken_after : Option (List ℕ)) → q.command ≡ Print → IsAccepted bytes a → Delivers q heard result (Some bytes) left taken taken_after → Writes result Done taken taken_after (canonical a)
accepted_printed q heard bytes a result left taken taken_after is h d =
    due_is result d.status taken taken_after d.text (canonical a) (printed bytes d.text a d.status h (made q heard Print bytes result left taken taken_after is h.spells.text.short d)) d.written

pub checked_told : (q : Request) (heard : List Heard) (bytes : List ℕ) (m : Mission) (es : List Extension) (result : ℕ) (left taken taken_after : Option (List ℕ)) → q.command ≡ Check → IsGiven bytes m es → Checked m es → Delivers q heard result (Some bytes) left taken taken_after → Writes result Done taken taken_after (checked_line (length es))
checked_told q heard bytes m es result left taken taken_after is g c d =
    due_is result d.status taken taken_after d.text (checked_line (length es)) (sound bytes d.text m es d.status g c (made q heard Check bytes result left taken taken_after is g.mission.spells.text.short d)) d.written

pub run_by_plan_told : (q : Request) (heard : List Heard) (bytes : List ℕ) (m : Mission) (e : Extension) (result : ℕ) (left taken taken_after : Option (List ℕ)) → q.command ≡ Sim → IsGiven bytes m (e ∷ []) → HasOneHorizon m → Checked m (e ∷ []) → Delivers q heard result (Some bytes) left taken taken_after → WritesSuch (IsSimTold q.budget (Some e) heard m) result taken taken_after
run_by_plan_told q heard bytes m e result left taken taken_after is g one c d =
    (d.status, d.text, run_by_plan q.budget heard bytes d.text m e d.status g one c (made q heard Sim bytes result left taken taken_after is g.mission.spells.text.short d), d.written)

-- a text of a faulty plan is written with its status
faulty_is : (m : Mission) (es : List Extension) (result : ℕ) (status : Status) (taken taken_after : Option (List ℕ)) (text : List ℕ) → (status ≡ PlanRefused) × IsFaulty m es text → Writes result status taken taken_after text → (due : List ℕ) × IsFaulty m es due × Writes result PlanRefused taken taken_after due
faulty_is m es result status taken taken_after text e w = (text, e.1, subst (λ (s : Status). Writes result s taken taken_after text) e.0 w)

pub faulty_told : (q : Request) (heard : List Heard) (bytes : List ℕ) (m : Mission) (es : List Extension) (result : ℕ) (left taken taken_after : Option (List ℕ)) → q.command ≡ Check → IsGiven bytes m es → (Checked m es → ⊥) → Delivers q heard result (Some bytes) left taken taken_after → (text : List ℕ) × IsFaulty m es text × Writes result PlanRefused taken taken_after text
faulty_told q heard bytes m es result left taken taken_after is g breaks d =
    faulty_is m es result d.status taken taken_after d.text (faulted bytes d.text m es d.status g breaks (made q heard Check bytes result left taken taken_after is g.mission.spells.text.short d)) d.written

pub faulty_unrun : (q : Request) (heard : List Heard) (bytes : List ℕ) (m : Mission) (es : List Extension) (result : ℕ) (left taken taken_after : Option (List ℕ)) → q.command ≡ Sim → IsGiven bytes m es → HasOneHorizon m → length es ≡ 1 → (Checked m es → ⊥) → Delivers q heard result (Some bytes) left taken taken_after → (text : List ℕ) × IsFaulty m es text × Writes result PlanRefused taken taken_after text
faulty_unrun q heard bytes m es result left taken taken_after is g one single breaks d =
    faulty_is m es result d.status taken taken_after d.text (unrun q.budget heard bytes d.text m es d.status g one single breaks (made q heard Sim bytes result left taken taken_after is g.mission.spells.text.short d)) d.written

pub plan_told : (q : Request) (heard : List Heard) (bytes : List ℕ) (m : Mission) (found : Found Extension) (result : ℕ) (left taken taken_after : Option (List ℕ)) → q.command ≡ Plan → IsWhole bytes m → FindsFirst m q.budget found → Delivers q heard result (Some bytes) left taken taken_after → WritesSuch (IsToldOf m [] (IsPlanText m) found) result taken taken_after
plan_told q heard bytes m found result left taken taken_after is h f d =
    (d.status, d.text, searched IsPlanText q.budget bytes d.text m found d.status h f (made q heard Plan bytes result left taken taken_after is h.spells.text.short d), d.written)

pub net_told : (q : Request) (heard : List Heard) (bytes : List ℕ) (m : Mission) (found : Found Extension) (result : ℕ) (left taken taken_after : Option (List ℕ)) → q.command ≡ Net → IsWhole bytes m → FindsFirst m q.budget found → Delivers q heard result (Some bytes) left taken taken_after → WritesSuch (IsToldOf m [] (IsNetText m) found) result taken taken_after
net_told q heard bytes m found result left taken taken_after is h f d =
    (d.status, d.text, searched IsNetText q.budget bytes d.text m found d.status h f (made q heard Net bytes result left taken taken_after is h.spells.text.short d), d.written)

pub run_alone_told : (q : Request) (heard : List Heard) (bytes : List ℕ) (m : Mission) (result : ℕ) (left taken taken_after : Option (List ℕ)) → q.command ≡ Sim → IsWhole bytes m → HasOneHorizon m → Delivers q heard result (Some bytes) left taken taken_after → WritesSuch (IsSimTold q.budget None heard m) result taken taken_after
run_alone_told q heard bytes m result left taken taken_after is h one d =
    (d.status, d.text, run_alone q.budget heard bytes d.text m d.status h one (made q heard Sim bytes result left taken taken_after is h.spells.text.short d), d.written)
