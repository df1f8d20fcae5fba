use Rattle.std.proofs.Common.{◌≡◌, ◌∙◌, ap, sym, refl, arith, length, set, Some, w64, to_z, of_z}
use Rattle.std.specs.Prelude.{ℤ}
use Rattle.std.proofs.lemmas.Int.{to_z-of_z}
use Rattle.std.proofs.lemmas.List.{length-set, with_items_is}
use Rattle.local_propagate.specs.declared.windows.TheConstants.{NEVER}
use Rattle.local_propagate.proofs.NarrowLemmas.{length-raised, length-lowered, length-released}
use Rattle.local_propagate.proofs.WindowsLemmas.{near_after, near_before, settled}
use Rattle.local_propagate.proofs.windows.Windows.set.Goals as goal

pub lower-requires-clause-near : goal.lower-requires-clause-near
lower-requires-clause-near c =
    let w = c.args.self.now in
    let long = ap length c.set.ensures in
    let same : length c.set.new.self ≡ length w.times.items = omega (arith, long, length-set w.high c.args.group NEVER, w.highs) in
    rw (same, c.of.ensures) (near_after c.args._net.now w c.requires.windows c.args.group c.requires.group)

pub raise-requires-clause-near : goal.raise-requires-clause-near
raise-requires-clause-near c =
    let w = c.args.self.now in
    rw (c.as_mut_slice.ensures.value, w.lows, c.of-2.ensures) (near_before c.args._net.now w c.requires.windows c.args.group c.requires.group)

pub release-requires : goal.release-requires
release-requires c = record {
  near = let w = c.args.self.now in rw (c.as_mut_slice-2.ensures.value, w.counts, c.of-3.ensures) (near_before c.args._net.now w c.requires.windows c.args.group c.requires.group);
}

pub invariant_of-self : goal.invariant_of-self
invariant_of-self c =
    let w = c.args.self.now in
    let times = length-set w.times.items c.args.group (Some (to_z w64 (of_z w64 c.args.at))) in
    let low = ap length c.raise.ensures ∙ length-raised _ c.of-2.result.now c.as_mut_slice.result.now ∙ ap length c.as_mut_slice.ensures.value in
    let waits = ap length c.release.ensures ∙ length-released c.of-3.result.now c.as_mut_slice-2.result.now ∙ ap length c.as_mut_slice-2.ensures.value in
    let high = ap length c.lower.ensures ∙ length-lowered _ _ c.of.result.now c.set.new.self ∙ ap length c.set.ensures ∙ length-set w.high c.args.group NEVER in
    record {
      lows = ap length (with_items_is w.low c.raise.new.low (low ∙ sym w.low.ok.0)) ∙ low ∙ w.lows ∙ sym times;
      highs = high ∙ w.highs ∙ sym times;
      counts = ap length (with_items_is w.waits c.release.new.waits (waits ∙ sym w.waits.ok.0)) ∙ waits ∙ w.counts ∙ sym times;
    }

pub returns : goal.returns
returns c =
    let w = c.args.self.now in
    let g = c.args.group in
    let at : to_z w64 (of_z w64 c.args.at) ≡ c.args.at = to_z-of_z w64 c.args.at c.ranges.at in
    let low = ap length c.raise.ensures ∙ length-raised _ c.of-2.result.now c.as_mut_slice.result.now ∙ ap length c.as_mut_slice.ensures.value in
    let waits = ap length c.release.ensures ∙ length-released c.of-3.result.now c.as_mut_slice-2.result.now ∙ ap length c.as_mut_slice-2.ensures.value in
    let r = settled c.args._net.now w c.requires.windows g c.requires.group c.args.at c.requires.unset _ (ap (λ (z : ℤ). set w.times.items g (Some z)) at)
    (with_items_is w.low c.raise.new.low (low ∙ sym w.low.ok.0) ∙ c.raise.ensures ∙ rw (c.as_mut_slice.ensures.value, c.of-2.ensures, at) refl)
    (c.lower.ensures ∙ rw (c.as_slice.ensures.value, c.of.ensures, c.set.ensures, at) refl)
    (with_items_is w.waits c.release.new.waits (waits ∙ sym w.waits.ok.0) ∙ c.release.ensures ∙ rw (c.as_mut_slice-2.ensures.value, c.of-3.ensures) refl)
    refl refl in
    record { windows = r.windows; times = ap (λ (z : ℤ). set w.times.items g (Some z)) at; others = r.others }
