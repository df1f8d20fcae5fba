use Rattle.std.proofs.Common.{List, ℕ, ℤ, ◌<◌, ◌-ℤ◌, arith, ◌≡◌, ◌∙◌, length, ap}
use Rattle.std.proofs.lemmas.List.{take_at}
use Rattle.hs_base.specs.Schedule.{time_of}
use Rattle.stn_distance.proofs.CauseLemmas.{Explained-start, IsAboveFloor-start, MeetsList-moved, IsNear-moved}
use Rattle.stn_distance.proofs.search.solve_from.Goals as goal

pub turns-init : goal.turns-init
turns-init c =
    let f = c.in_ok-causes.ensures.items_if_clones_equal (λ _ x. x) in
    rw f (record {
      explained = Explained-start c.args.n c.args.bounds.now c.args.start.items c.requires.start;
      floor = IsAboveFloor-start c.args.n c.args.start.items c.requires.start;
    })

pub returns-clause-schedule : goal.returns-clause-schedule
returns-clause-schedule c =
    let says = rw c.in-Settled.is at c.in_ok-turn_over.ensures in
    let says1 = says.1 in
    let before = c.turns.invariant.explained.times_len in
    let held = c.turns.times.ok.0 in
    let start : c.deref_mut-2.result.now ≡ c.turn_over.new.times = c.deref_mut-2.ensures.value ∙ take_at c.turn_over.new.times _ _ (omega arith) in
    let same_length = ap (λ (xs : List ℤ). length xs) start in
    let kept = c.from_origin.auto.times in
    let end : c.from_vec-2.result ≡ c.from_origin.new.times = c.from_vec-2.ensures ∙ take_at c.from_origin.new.times _ _ (omega arith) in
    let moved : (v : ℕ) → v < length c.turn_over.new.times → time_of c.from_origin.new.times v ≡ time_of c.turn_over.new.times v -ℤ time_of c.turn_over.new.times 0 = rw start at c.from_origin.ensures in
    rw end (MeetsList-moved c.args.n c.args.bounds.now c.turn_over.new.times c.from_origin.new.times (omega arith) says.1 (omega arith) c.requires.range says.2 moved)

pub returns-clause-near : goal.returns-clause-near
returns-clause-near c =
    let says = rw c.in-Settled.is at c.in_ok-turn_over.ensures in
    let says1 = says.1 in
    let before = c.turns.invariant.explained.times_len in
    let held = c.turns.times.ok.0 in
    let start : c.deref_mut-2.result.now ≡ c.turn_over.new.times = c.deref_mut-2.ensures.value ∙ take_at c.turn_over.new.times _ _ (omega arith) in
    let same_length = ap (λ (xs : List ℤ). length xs) start in
    let kept = c.from_origin.auto.times in
    let end : c.from_vec-2.result ≡ c.from_origin.new.times = c.from_vec-2.ensures ∙ take_at c.from_origin.new.times _ _ (omega arith) in
    let moved : (v : ℕ) → v < length c.turn_over.new.times → time_of c.from_origin.new.times v ≡ time_of c.turn_over.new.times v -ℤ time_of c.turn_over.new.times 0 = rw start at c.from_origin.ensures in
    rw end (IsNear-moved c.args.n c.turn_over.new.times c.from_origin.new.times c.requires.few.0 c.requires.few.1 says.1 (omega arith) says.0 moved)
