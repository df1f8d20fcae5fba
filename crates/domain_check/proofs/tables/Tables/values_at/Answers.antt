use Rattle.std.proofs.Common.{◌∙◌, ap}
use Rattle.hs_texts.specs.declared.ast.AstVar.{AstVar}
use Rattle.hs_texts.specs.MissionMeaning.{value_names}
use Rattle.domain_check.specs.Tables.{names_in}
use Rattle.domain_check.proofs.NumberLemmas.{get_or-same_images}
use Rattle.domain_check.proofs.tables.Tables.values_at.Goals as goal

pub returns : goal.returns
returns c = λ (var : AstVar).
    let t = c.args.self.now in
    ap names_in c.index.ensures ∙ get_or-same_images names_in value_names t.values t.written.now c.args.place c.index.result.now var t.value_names c.requires
