use Rattle.std.proofs.Common.{sym, ap, ◌∙◌, ℕ, get_or}
use Rattle.std.proofs.lemmas.Bool.{eq-eqb}
use Rattle.hs_base.specs.declared.mission.Kind.{Kind}
use Rattle.plan_check.proofs.LineLemmas.{last_own, last_other, differ}
use Rattle.plan_check.proofs.tokens.last_of.Goals.{then-kind-sv, else-kind-sv}
use Rattle.plan_check.proofs.tokens.last_of.Goals as goal

abbrev pub no_kind : Kind
no_kind = record { sv = record { 0 = 0 }; value = record { 0 = 0 } }

pub loop-kind-preserved : goal.loop-kind-preserved
loop-kind-preserved c =
    let ks = c.args.tokens.now in
    let i = c.loop-kind.kind-index in
    let k = get_or ks i no_kind in
    elim c.if-kind-sv.branch [
      | then-kind-sv w ↦ w.last-is ∙ sym (last_own ks i no_kind c.args.sv.0 c.loop-kind-test.true (eq-eqb k.sv.0 c.args.sv.0 w.if-kind-sv.true))
      | else-kind-sv w ↦ w.last-is ∙ c.loop-kind.invariant ∙ sym (last_other ks i no_kind c.args.sv.0 c.loop-kind-test.true (differ k.sv.0 c.args.sv.0 w.if-kind-sv.false))
    ]
