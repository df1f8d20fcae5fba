use Rattle.std.proofs.Common.{◌≡◌, ◌+◌, ◌-◌, ◌<◌, ℕ, ◌++◌, take, map, length, get_or, vec_len, vec_capacity}
use Rattle.hs_base.specs.declared.mission.Kind.{Kind}
use Rattle.hs_base.specs.Points.{refs_after}
use Rattle.plan_index.specs.Contents.{end_of}
use Rattle.plan_index.specs.Lines.{row_of, HasRoom, AreLines}
use Rattle.plan_index.specs.Named.{named}
use Rattle.plan_index.proofs.growing.add_tokens.Given as goal

abbrev pub invariant-loop-kind : goal.invariant-loop-kind
invariant-loop-kind l = record {
  many : vec_len l.names ≡ vec_len l.fn.names + l.kind-index;
  names_room : vec_capacity l.names ≡ vec_capacity l.fn.names;
  more : vec_len l.tokens ≡ vec_len l.fn.tokens + l.kind-index;
  tokens_room : vec_capacity l.tokens ≡ vec_capacity l.fn.tokens;
  room : (j : ℕ) (d : Kind) → j < length l.new → HasRoom l.lines.items (get_or l.new j d).sv.0 (length l.new - l.kind-index);
  names : map named l.names.items ≡ map named l.fn.names.items ++ map end_of (refs_after l.fn.tokens.items (take l.kind-index l.new));
  tokens : l.tokens.items ≡ l.fn.tokens.items ++ take l.kind-index l.new;
  lines : AreLines l.tokens.items (map named l.names.items) (row_of l.lines.items);
}
