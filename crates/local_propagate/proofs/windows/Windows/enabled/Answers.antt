use Rattle.std.proofs.Common.{◌≡◌, ◌∙◌, sym, arith, rules, tests}
use Rattle.std.proofs.lemmas.List.{get_or_read}
use Rattle.local_propagate.specs.Joined.{leader_at}
use Rattle.local_propagate.specs.Windows.{set_times}
use Rattle.local_propagate.proofs.FreshLemmas.{count_zero_set, set_count_zero}
use Rattle.local_propagate.proofs.windows.Windows.enabled.Goals as goal

pub returns : goal.returns
returns c =
    let w = c.args.self.now in
    let net = c.args._net.now in
    let of = c.requires.windows in
    let is = get_or_read w.waits.items c.args.group c.index.result.now (omega (arith, w.counts, c.requires.group)) c.index.ensures 0 ∙ of.waits c.args.group (omega (arith, c.requires.group, of.groups)) in (
      λ h. count_zero_set net.edges (set_times net w) (leader_at net c.args.group) (sym is ∙ (let z : c.index.result.now ≡ 0 = search (rules, tests) in z)),
      λ h. let z : c.index.result.now ≡ 0 = is ∙ set_count_zero net.edges (set_times net w) (leader_at net c.args.group) h in search (rules, tests),
    )
