use Rattle.std.proofs.Common.{Option, ◌+◌, below_more, ◌≡◌, ℕ, ◌<◌, length, ℤ, pos, ◌+ℤ◌, to_z, of_z, w64, arith, get_or-set_same, refl, set, None, Some, MatchOption, subst}
use Rattle.std.proofs.lemmas.Int.{ints}
use Rattle.hs_base.specs.Schedule.{time_of, Holds}
use Rattle.stn_distance.specs.Causes.{no_bound, bound_at, slack, place}
use Rattle.stn_distance.proofs.CauseLemmas.{Explained-lowered, slack-set, IsAboveFloor-set, All-from_turn}
use Rattle.stn_distance.proofs.lowering.lower_all.Goals as goal
use Rattle.stn_distance.proofs.lowering.lower_all.Goals.{then-reached-times+else-reached-floor, else-reached-times}

-- the sum, as the code computes it
abbrev reach : ℤ → ℤ → ℤ
reach t m = to_z w64 (of_z w64 (to_z w64 (of_z w64 t) +ℤ to_z w64 (of_z w64 m)))

one_more : (K : ℕ → Type 0) (i : ℕ) (P : ℕ → Type 0) (o : Option ℕ) → MatchOption o ((k : ℕ) → k < i → K k) P → K i → MatchOption o ((k : ℕ) → k < i + 1 → K k) P
one_more K i P None h here = below_more K i h here
one_more K i P (Some p) h here = h

pub overflow_add-reached : goal.overflow_add-reached
overflow_add-reached c =
    let i = c.place_of-i.result in let inside = c.place_of-i.ensures.within in
    let r = c.requires.range i no_bound inside in
    let b = bound_at c.args.bounds.now i in
    let from = r.from_below in
    let w = c.loop-step.invariant.floor b.from.0 from in let w0 = w.0 in let w1 = w.1 in
    omega (arith, ints)

pub returns-then-reached-floor-clause-explained : goal.returns-then-reached-floor-clause-explained
returns-then-reached-floor-clause-explained c =
    let i = c.place_of-i.result in let inside = c.place_of-i.ensures.within in
    let r = c.requires.range i no_bound inside in
    let b = bound_at c.args.bounds.now i in
    let from = r.from_below in let to = r.to_below in
    let w = c.loop-step.invariant.floor b.from.0 from in let w0 = w.0 in let w1 = w.1 in
    let v = c.loop-step.invariant.floor b.to.0 to in let v0 = v.0 in let v1 = v.1 in
    let lower = c.if-reached-times.true in
    Explained-lowered c.args.count c.args.bounds.now c.loop-step.times c.loop-step.causes i b (reach (time_of c.loop-step.times b.from.0) b.most) c.loop-step.invariant.explained inside refl from to
    (omega (arith, ints)) (omega (arith, ints))

pub returns-then-reached-floor-clause-found : goal.returns-then-reached-floor-clause-found
returns-then-reached-floor-clause-found c =
    let i = c.place_of-i.result in let inside = c.place_of-i.ensures.within in
    let r = c.requires.range i no_bound inside in
    let b = bound_at c.args.bounds.now i in
    let from = r.from_below in let to = r.to_below in
    let w = c.loop-step.invariant.floor b.from.0 from in let w0 = w.0 in let w1 = w.1 in
    let low = c.if-reached-floor.true in
    let len = c.loop-step.invariant.explained.times_len in
    let z = reach (time_of c.loop-step.times b.from.0) b.most in
    let own = get_or-set_same c.loop-step.times b.to.0 z (pos 0) (omega arith) in
    (to, omega (arith, ints))

pub loop-step-preserved : goal.loop-step-preserved
loop-step-preserved c =
    let i = c.place_of-i.result in let inside = c.place_of-i.ensures.within in
    let r = c.requires.range i no_bound inside in
    let bounds = c.args.bounds.now in let times = c.loop-step.times in let count = c.args.count in
    let b = bound_at bounds i in
    let from = r.from_below in let to = r.to_below in
    let w = c.loop-step.invariant.floor b.from.0 from in let w0 = w.0 in let w1 = w.1 in
    let v = c.loop-step.invariant.floor b.to.0 to in let v0 = v.0 in let v1 = v.1 in
    let len = c.loop-step.invariant.explained.times_len in
    let z = reach (time_of times b.from.0) b.most in
    let is : z ≡ time_of times b.from.0 +ℤ b.most = omega (arith, ints) in
    let less = c.loop-step.invariant.less in
    elim c.if-reached-times.branch [
      | then-reached-times+else-reached-floor s ↦
          let low = s.if-reached-times.true in let high = s.if-reached-floor.false in
          let drops : slack count (set times b.to.0 z) < slack count times = slack-set count times b.to.0 z (omega arith) (omega (arith, ints)) (omega (arith, ints)) in
          rw (s.times-is, s.causes-is, s.lowered-is) (record {
            explained = Explained-lowered count bounds times c.loop-step.causes i b z c.loop-step.invariant.explained inside refl from to is (omega (arith, ints));
            floor = IsAboveFloor-set count times b.to.0 z len to c.loop-step.invariant.floor (omega (arith, ints)) (omega (arith, ints));
            less = omega arith;
            so_far = (to, omega arith);
          })
      | else-reached-times s ↦
          let high = s.if-reached-times.false in
          let here : Holds (time_of times) b = omega (arith, ints) in
          let e = c.place_of-i.ensures.place in
          rw (s.times-is, s.causes-is, s.lowered-is) (record {
            explained = c.loop-step.invariant.explained;
            floor = c.loop-step.invariant.floor;
            less = less;
            so_far = one_more (λ k. Holds (time_of times) (bound_at bounds (place c.args.backward (length bounds) k))) c.loop-step.step _ c.loop-step.lowered c.loop-step.invariant.so_far
                (subst (λ j. Holds (time_of times) (bound_at bounds j)) e here);
          })
    ]

pub returns-in-None-clause-found : goal.returns-in-None-clause-found
returns-in-None-clause-found c =
    let bounds = c.args.bounds.now in let times = c.loop-step.times in
    let kept : MatchOption None ((k : ℕ) → k < c.loop-step.step → Holds (time_of times) (bound_at bounds (place c.args.backward (length bounds) k))) (λ p. (p < c.args.count) × (slack c.args.count times < slack c.args.count c.args.times.now)) =
    rw c.in-None.is at c.loop-step.invariant.so_far in
    (c.loop-step.invariant.floor, All-from_turn (Holds (time_of times)) bounds c.args.backward (λ k l. kept k (omega arith)))
