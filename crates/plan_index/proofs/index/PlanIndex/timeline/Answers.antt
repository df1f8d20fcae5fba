use Rattle.std.proofs.Common.{◌∙◌, sym, ap, map}
use Rattle.std.specs.Prelude.{slice_get}
use Rattle.hs_base.specs.Points.{ending, place_of, timeline_of}
use Rattle.plan_index.specs.Contents.{Contents}
use Rattle.plan_index.specs.Lines.{kind_in}
use Rattle.plan_index.proofs.IndexLemmas.{end_there}
use Rattle.plan_index.proofs.index.PlanIndex.timeline.Goals as goal

pub returns-clause-kinds : goal.returns-clause-kinds
returns-clause-kinds c =
    ap (map (kind_in c.args.sv.0)) c.line.ensures ∙ c.self.invariant.lines.kinds c.args.sv.0 ∙ ap (λ (x : Contents). timeline_of x.tokens c.args.sv.0) c.self.view_is

pub returns-clause-ends : goal.returns-clause-ends
returns-clause-ends c = λ i p at.
    ap (λ (x : Contents). place_of (ending c.args.sv.0 i) x.points) (sym c.self.view_is)
    ∙ end_there c.self.inside.entries c.args.sv.0 i p c.self.invariant (ap (λ l. slice_get l i) (sym c.line.ensures) ∙ at)
