use Rattle.std.proofs.Common.{◌≡◌, ◌+◌, ◌∷◌, [], ◌++◌, length, map, sym, ap, ◌∙◌, subst, arith, append_assoc}
use Rattle.std.specs.Prelude.{All}
use Rattle.hs_base.specs.Points.{horizon, refs_after}
use Rattle.plan_index.specs.Contents.{Contents, end_of, extended}
use Rattle.plan_index.specs.Entered.{contents}
use Rattle.plan_index.specs.Lines.{row_of, HasRoom, AreLines}
use Rattle.plan_index.specs.Named.{named, AreMarks}
use Rattle.plan_index.proofs.GrowthLemmas.{lines_more, marks_more}
use Rattle.plan_index.proofs.IndexLemmas.{same_contents, contents_push, points_counted}
use Rattle.plan_index.proofs.entries.Entries.add.Goals as goal

pub add_horizon-requires-clause-fewer : goal.add_horizon-requires-clause-fewer
add_horizon-requires-clause-fewer c = omega (arith, points_counted c.args.self.now c.requires.index)

pub add_tokens-requires-clause-room : goal.add_tokens-requires-clause-room
add_tokens-requires-clause-room c = subst (λ ts. All (λ k. HasRoom c.args.self.now.lines.items k.sv.0 (length ts)) ts) (sym c.as_slice-tokens.ensures) c.requires.room.lines

pub add_tokens-requires-clause-fewer : goal.add_tokens-requires-clause-fewer
add_tokens-requires-clause-fewer c = omega (arith, points_counted c.args.self.now c.requires.index, c.add_horizon.ensures.many)

pub add_tokens-requires-clause-lines : goal.add_tokens-requires-clause-lines
add_tokens-requires-clause-lines c =
    let s = c.args.self.now in
    subst (λ ps. AreLines s.tokens.items ps (row_of s.lines.items)) (sym c.add_horizon.ensures.names) (lines_more s.tokens.items (map named s.names.items) (horizon (length s.horizons.items + 1) ∷ []) (row_of s.lines.items) c.requires.index.lines)

pub returns-clause-index : goal.returns-clause-index
returns-clause-index c =
    let s = c.args.self.now in
    let e = c.args.extension.now in
    let ends = map end_of (refs_after s.tokens.items e.tokens) in
    let points : map named c.add_tokens.new.names.items ≡ map named c.add_horizon.new.names.items ++ ends = c.add_tokens.ensures.names ∙ ap (λ ts. map named c.add_horizon.new.names.items ++ map end_of (refs_after s.tokens.items ts)) c.as_slice-tokens.ensures in
    let all : map named c.add_tokens.new.names.items ≡ map named s.names.items ++ horizon (length s.horizons.items + 1) ∷ ends =
    points ∙ ap (λ ps. ps ++ ends) c.add_horizon.ensures.names ∙ append_assoc (map named s.names.items) (horizon (length s.horizons.items + 1) ∷ []) ends in
    let tokens : c.add_tokens.new.tokens.items ≡ s.tokens.items ++ e.tokens = c.add_tokens.ensures.tokens ∙ ap (λ ts. s.tokens.items ++ ts) c.as_slice-tokens.ensures in
    let fixed : c.add_times.new.fixed.items ≡ s.fixed.items ++ e.fixed = c.add_times.ensures.fixed ∙ ap (λ ts. s.fixed.items ++ ts) c.as_slice.ensures in
    let new : Contents = record { horizons = length c.add_horizon.new.horizons.items; points = map named c.add_tokens.new.names.items; tokens = c.add_tokens.new.tokens.items; fixed = c.add_times.new.fixed.items } in
    let grown : new ≡ extended (contents s) e = same_contents new (extended (contents s) e) c.add_horizon.ensures.horizons all tokens fixed in
    record {
      plan = c.requires.index.plan ++ e ∷ [];
      is = grown ∙ ap (λ x. extended x e) c.requires.index.is ∙ sym (contents_push c.requires.index.plan e);
      small = omega (arith, c.add_tokens.ensures.many, c.add_horizon.ensures.many, c.requires.small, ap length c.as_slice-tokens.ensures);
      lines = c.add_tokens.ensures.lines;
      marks = subst (λ ps. AreMarks ps c.add_horizon.new.horizons.items) (sym points) (marks_more (map named c.add_horizon.new.names.items) ends c.add_horizon.new.horizons.items c.add_horizon.ensures.marks);
      flags = c.add_times.ensures.flags;
    }
