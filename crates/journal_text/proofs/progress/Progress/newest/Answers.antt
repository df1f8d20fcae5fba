use Rattle.std.proofs.Common.{◌∙◌, ap}
use Rattle.hs_base.specs.Points.{horizon, place_of}
use Rattle.plan_index.specs.Contents.{Contents}
use Rattle.journal_text.proofs.StandLemmas.{newest_none, newest_some}
use Rattle.journal_text.proofs.progress.Progress.newest.Goals as goal

pub returns-then-horizons-eq0 : goal.returns-then-horizons-eq0
returns-then-horizons-eq0 c = λ es is. newest_none es c.horizons-horizons.result (c.horizons-horizons.ensures ∙ ap (λ (x : Contents). x.horizons) is) c.if-horizons-eq0.true

pub returns : goal.returns
returns c = λ es is.
    let n = c.horizons-horizons.result in
    newest_some es n c.horizon.result (c.horizons-horizons.ensures ∙ ap (λ (x : Contents). x.horizons) is) c.if-horizons-eq0.false (c.horizon.ensures ∙ ap (λ (x : Contents). place_of (horizon n) x.points) is)
