use Rattle.std.proofs.Common.{◌≡◌, ◌<◌, ℕ, length, get_or}
use Rattle.hs_base.specs.declared.mission.Kind.{Kind}
use Rattle.plan_index.specs.Lines.{row_of, HasRoom}
use Rattle.plan_index.proofs.placed.reserve_lines.Given as goal

abbrev pub invariant-loop-kind : goal.invariant-loop-kind
invariant-loop-kind l = record {
  kept : (v : ℕ) → row_of l.lines.items v ≡ row_of l.fn.lines.items v;
  room : (j : ℕ) (d : Kind) → j < l.kind-index → HasRoom l.lines.items (get_or l.tokens j d).sv.0 (length l.tokens);
}
