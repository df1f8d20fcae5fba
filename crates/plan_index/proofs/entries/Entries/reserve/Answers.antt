use Rattle.std.proofs.Common.{◌≡◌, ◌<◌, length, ap, subst, arith}
use Rattle.std.specs.Prelude.{All, vec_len}
use Rattle.plan_index.specs.Lines.{HasRoom}
use Rattle.plan_index.proofs.entries.Entries.reserve.Goals as goal

pub returns-clause-room : goal.returns-clause-room
returns-clause-room c =
    let tokens : length c.as_slice-tokens.result.now ≡ length c.args.extension.now.tokens = ap length c.as_slice-tokens.ensures in
    let times : length c.as_slice-times.result.now ≡ length c.args.extension.now.fixed = ap length c.as_slice-times.ensures in
    record {
      names = omega (arith, c.in_ok-reserve.ensures.ok, tokens);
      horizons = omega (arith, c.in_ok-reserve-2.ensures.ok);
      tokens = omega (arith, c.in_ok-reserve-3.ensures.ok, tokens);
      fixed = omega (arith, c.in_ok-reserve-4.ensures.ok, times);
      lines = subst (λ ts. All (λ k. HasRoom c.reserve_lines.new.lines.items k.sv.0 (length ts)) ts) c.as_slice-tokens.ensures c.in_ok-reserve_lines.ensures.room;
      flags = subst (λ ts. All (λ t. t.point.0 < vec_len c.reserve_flags.new.flags) ts) c.as_slice-times.ensures c.in_ok-reserve_flags.ensures.there;
    }
