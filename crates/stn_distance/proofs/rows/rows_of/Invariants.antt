use Rattle.std.proofs.Common.{◌≡◌, ℕ, ◌<◌, length, get_or, []}
use Rattle.stn_distance.specs.Rows.{IsRow, items_of}
use Rattle.stn_distance.proofs.rows.rows_of.Given as goal

abbrev pub invariant-loop-source : goal.invariant-loop-source
invariant-loop-source l = record {
  rows_len : length l.rows.items ≡ l.source;
  each : (p : ℕ) → p < l.source → IsRow l.count l.bounds p (get_or (items_of l.rows.items) p []);
}
