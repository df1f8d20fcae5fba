use Rattle.std.proofs.Common.{◌≤◌, vec_len}
use Rattle.std.specs.Io.KnownBytes.{Consumes}
use Rattle.hs_base.specs.declared.limits.TheConstants.{TEXT_BYTES}
use Rattle.exec_main.proofs.streams.read_whole.Given as goal

abbrev pub invariant-loop-turn : goal.invariant-loop-turn
invariant-loop-turn g l = record {
  turns : l.turn ≤ vec_len l.text;
  short : vec_len l.text ≤ TEXT_BYTES;
  later : g.S.Source.faults l.fn.source ≤ g.S.Source.faults l.source;
  read : Consumes (g.S.Source.left l.fn.source) (g.S.Source.left l.source) l.text.items;
}
