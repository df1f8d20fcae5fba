use Rattle.std.proofs.Common.{◌≡◌, ℕ, vec_len}
use Rattle.plan_index.specs.Lines.{row_of, HasRoom}
use Rattle.plan_index.proofs.placed.grow_lines.Given as goal

abbrev pub invariant-loop : goal.invariant-loop
invariant-loop l = record {
  size : vec_len l.lines ≡ l.counter;
  kept : (v : ℕ) → row_of l.lines.items v ≡ row_of l.fn.lines.items v;
  room : (v n : ℕ) → HasRoom l.fn.lines.items v n → HasRoom l.lines.items v n;
}
