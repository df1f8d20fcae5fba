use Rattle.std.proofs.Common.{sym, ap, ◌∙◌}
use Rattle.std.specs.Prelude.{slice_get}
use Rattle.hs_base.specs.declared.mission.Kind.{Kind}
use Rattle.hs_base.specs.Points.{timeline_of, tokens_of}
use Rattle.plan_index.specs.Contents.{Contents}
use Rattle.line_view.proofs.LineLemmas.{none_mapped}
use Rattle.line_view.proofs.current.value_of.Goals as goal

pub returns-in-None : goal.returns-in-None
returns-in-None c =
    let es = c.args.plan.now.plan.extensions in
    let v = c.args.token.sv.0 in
    sym (none_mapped (λ (k : Kind). k.value.0) (timeline_of (tokens_of es) v) c.args.token.place 0
    (sym (c.token.ensures ∙ ap (λ (x : Contents). slice_get (timeline_of x.tokens v) c.args.token.place) c.index.ensures) ∙ c.in-None.is))
