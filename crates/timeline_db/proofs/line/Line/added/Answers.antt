use Rattle.std.proofs.Common.{◌-◌, List, drop, length, ap, ◌∙◌, arith}
use Rattle.std.proofs.lemmas.List.{length-drop, take_all}
use Rattle.timeline_db.specs.Lines.{Shown}
use Rattle.timeline_db.specs.declared.token.Token.{Token}
use Rattle.timeline_db.proofs.line.Line.added.Goals as goal

pub returns : goal.returns
returns c =
    let ts = c.as_slice.result.now in
    let g = c.self.inside.given in
    take_all (length ts - g) (drop g ts) (omega (arith, length-drop g ts)) ∙ ap (λ (l : List Token). drop g l) c.as_slice.ensures.value ∙ ap (λ (s : Shown). drop s.given s.tokens) c.self.view_is
