use Rattle.plan_text.proofs.CheckedLemmas.{checked_writable}
use Rattle.plan_text.proofs.laws.checked_plans_are_writable.Goals as goal

pub returns : goal.returns
returns c = checked_writable
