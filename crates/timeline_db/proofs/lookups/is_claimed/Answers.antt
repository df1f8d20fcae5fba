use Rattle.std.proofs.Common.{sym, ◌∙◌, rules, tests}
use Rattle.std.proofs.lemmas.Iterator.{YieldsList-from_slice}
use Rattle.std.proofs.lemmas.Iterator.Search.{any_from_yields_List}
use Rattle.std.specs.List.{list_any}
use Rattle.hs_base.specs.declared.plan.Extension.{Extension}
use Rattle.timeline_db.proofs.ClaimLemmas.{any_flat}
use Rattle.timeline_db.specs.Claims.{is_claim}
use Rattle.timeline_db.proofs.lookups.is_claimed.Goals as goal

pub returns : goal.returns
returns c =
    any_from_yields_List (λ (e : Extension). list_any (is_claim c.args.token c.args.need) e.supports) _ _ _ c.any.ensures.ran (YieldsList-from_slice c.args.extensions.now cc) (λ x b q k. search (rules, tests))
    ∙ sym (any_flat (is_claim c.args.token c.args.need) (λ (e : Extension). e.supports) c.args.extensions.now)
