use Rattle.std.proofs.Common.{◌≡◌, ◌+◌, length, take, map, get_or, nat_eq, sym, ap, ◌∙◌, arith}
use Rattle.std.proofs.lemmas.List.{length-map, length-take-le}
use Rattle.std.proofs.lemmas.List.Sums.{count_by-le-length, length-filter}
use Rattle.std.proofs.lemmas.Option.{slice_get-get_or}
use Rattle.hs_base.specs.declared.mission.Kind.{Kind}
use Rattle.hs_base.specs.Points.{timeline_of}
use Rattle.plan_index.specs.Contents.{Contents}
use Rattle.plan_index.specs.Lines.{row_of}
use Rattle.plan_index.specs.Named.{named}
use Rattle.plan_index.proofs.GrowthLemmas.{row_many, row_few}
use Rattle.plan_index.proofs.IndexLemmas.{points_counted, end_at, no_end_at}
use Rattle.plan_index.proofs.index.PlanIndex.new_end.Goals as goal

pub returns-then-i-tokens : goal.returns-then-i-tokens
returns-then-i-tokens c = sym (no_end_at c.args.self.now.tokens c.args.tokens.now c.args.i c.if-i-tokens.true)

pub overflow_cast-result : goal.overflow_cast-result
overflow_cast-result c =
    let s = c.self.inside.entries in
    let none : Kind = record { sv = record { 0 = 0 }; value = record { 0 = 0 } } in
    let v = (get_or c.args.tokens.now c.args.i none).sv.0 in
    let front = take c.args.i c.args.tokens.now in
    let row = row_few s.tokens.items (map named s.names.items) (row_of s.lines.items) v c.self.invariant.lines in
    let earlier = count_by-le-length (λ (k : Kind). nat_eq k.sv.0 v) front in
    omega (
      arith,
      row,
      ap length c.line-before.ensures,
      earlier,
      c.count_of-earlier.ensures,
      length-take-le c.args.i c.args.tokens.now (omega (arith, c.if-i-tokens.false)),
      points_counted s c.self.invariant,
      length-map s.names.items named,
      ap (λ (x : Contents). length x.points) c.self.view_is,
      c.requires,
    )

pub returns : goal.returns
returns c =
    let s = c.self.inside.entries in
    let none : Kind = record { sv = record { 0 = 0 }; value = record { 0 = 0 } } in
    let k : Kind = get_or c.args.tokens.now c.args.i none in
    let front = take c.args.i c.args.tokens.now in
    let before : length c.line-before.result.now ≡ length (timeline_of c.args.self.now.tokens k.sv.0) =
    ap length c.line-before.ensures ∙ row_many s.tokens.items (map named s.names.items) (row_of s.lines.items) k.sv.0 c.self.invariant.lines ∙ ap (λ (x : Contents). length (timeline_of x.tokens k.sv.0)) c.self.view_is in
    let earlier : c.count_of-earlier.result ≡ length (timeline_of front k.sv.0) = c.count_of-earlier.ensures ∙ sym (length-filter (λ (x : Kind). nat_eq x.sv.0 k.sv.0) front) in
    sym (end_at c.args.self.now.tokens c.args.tokens.now c.args.i k (length c.line-before.result.now + c.count_of-earlier.result) (slice_get-get_or c.args.tokens.now c.args.i none (omega (arith, c.if-i-tokens.false))) (omega (arith, before, earlier)))
