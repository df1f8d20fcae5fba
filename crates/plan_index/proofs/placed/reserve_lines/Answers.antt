use Rattle.std.proofs.Common.{◌≡◌, length, get_or, sym, ap, ◌∙◌, subst, arith, inl, inr}
use Rattle.std.proofs.lemmas.Bool.{cases_lt}
use Rattle.std.proofs.lemmas.List.{get_or_default}
use Rattle.hs_base.specs.declared.mission.Kind.{Kind}
use Rattle.plan_index.specs.Lines.{HasRoom}
use Rattle.plan_index.proofs.placed.reserve_lines.Goals as goal

pub loop-kind-preserved : goal.loop-kind-preserved
loop-kind-preserved c = record {
  kept = λ v. c.reserve_line.ensures.kept v ∙ c.loop-kind.invariant.kept v;
  room = λ j d below. elim (cases_lt j c.loop-kind.kind-index) [
    | inl old ↦ c.reserve_line.ensures.room (get_or c.args.tokens.now j d).sv.0 (length c.args.tokens.now) (c.loop-kind.invariant.room j d old)
    | inr new ↦
        let last : j ≡ c.loop-kind.kind-index = omega (arith, below, new) in
        let none : Kind = record { sv = record { 0 = 0 }; value = record { 0 = 0 } } in
        let same : get_or c.args.tokens.now c.loop-kind.kind-index none ≡ get_or c.args.tokens.now j d = get_or_default c.args.tokens.now c.loop-kind.kind-index none d c.loop-kind-test.true ∙ ap (λ i. get_or c.args.tokens.now i d) (sym last) in
        subst (λ (k : Kind). HasRoom c.reserve_line.new.lines.items k.sv.0 (length c.args.tokens.now)) same c.in_ok-reserve_line.ensures.there
  ];
}

pub returns-clause-room : goal.returns-clause-room
returns-clause-room c = λ j d below. c.loop-kind.invariant.room j d (omega (arith, below, c.loop-kind-test.false))
