use Rattle.std.proofs.Common.{◌≡◌, ℕ, List, ◌++◌, length, refl, sym, ap, ◌∙◌, subst}
use Rattle.hs_texts.specs.ClosingText.{budget_line}
use Rattle.sim_run.specs.Runs.{HasFront, attempts_of}
use Rattle.sim_run.specs.declared.run.Planned.{Planned}
use Rattle.commands.specs.Runs.{IsClosed}
use Rattle.commands.specs.declared.status.Status.TheVariants.{Budget}
use Rattle.commands.proofs.EndLemmas.{closed_budget}
use Rattle.commands.proofs.telling.push_closing.Goals as goal

pub returns-in-All : goal.returns-in-All
returns-in-All c = rw (c.in-All.is) c.push_end.ensures

pub returns-in_ok-push_budget-in-Budget : goal.returns-in_ok-push_budget-in-Budget
returns-in_ok-push_budget-in-Budget c nodes given heard r =
    let m = c.args.flown.now.exec.mission in
    let h = c.args.flown.now.exec.history in
    let head = c.args.text.now in
    let text = c.push_budget.new.text in
    let after = c.in-Budget.front in
    let path = c.in-Budget.path in
    let front : after ≡ length h = subst (λ (p : Planned). HasFront (length h) p) c.in-Budget.is c.requires.front in
    let line : text ≡ head ++ budget_line after path = c.in_ok-push_budget-in-Budget.ensures ∙ ap (λ (l : List ℕ). head ++ budget_line after l) c.as_slice.ensures in
    subst (λ (p : Planned). IsClosed heard m h (attempts_of p) head Budget text) (sym c.in-Budget.is) (closed_budget m nodes given heard h head text Budget after path front refl line)
