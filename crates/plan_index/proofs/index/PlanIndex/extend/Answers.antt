use Rattle.std.proofs.Common.{◌∙◌, sym, ap, length, map}
use Rattle.plan_index.specs.Contents.{extended}
use Rattle.plan_index.specs.Entered.{contents}
use Rattle.plan_index.specs.Named.{named}
use Rattle.plan_index.proofs.IndexLemmas.{same_contents, contents_push}
use Rattle.plan_index.proofs.index.PlanIndex.extend.Goals as goal

pub returns-clause-plan : goal.returns-clause-plan
returns-clause-plan c = λ es is.
    let kept = c.in_ok-reserve.ensures.kept in
    let same = same_contents (contents c.reserve.new.self) (contents c.self.inside.entries) (ap length kept.horizons) (ap (map named) kept.names) kept.tokens kept.fixed in
    c.add.ensures.contents ∙ ap (λ x. extended x c.args.extension.now) (same ∙ c.self.view_is ∙ is) ∙ sym (contents_push es c.args.extension.now)
