use Rattle.std.proofs.Common.{◌≡◌, ap, sym, ◌∙◌, arith, get_or}
use Rattle.std.proofs.lemmas.List.{get_or-map, length-map}
use Rattle.hs_base.specs.declared.net.Group.{Group}
use Rattle.local_propagate.specs.Joined.{leaders_of}
use Rattle.local_propagate.proofs.JoinedLemmas.{fill_more, filled}
use Rattle.local_propagate.proofs.places.places.Goals as goal

pub index_mut-requires : goal.index_mut-requires
index_mut-requires c =
    let gs = c.args.groups.now in
    let i = c.loop-i.i in
    let here : get_or (leaders_of gs) i 0 ≡ c.index-groups-i.result.leader.0 = get_or-map (λ (g : Group). g.leader.0) gs i c.index-groups-i.result 0 c.loop-i-test.true ∙ ap (λ (g : Group). g.leader.0) (sym c.index-groups-i.is) in
    omega (arith, here, c.loop-i.invariant.within i 0 (omega (arith, length-map gs (λ (g : Group). g.leader.0), c.loop-i-test.true)))

pub loop-i-preserved : goal.loop-i-preserved
loop-i-preserved c =
    let gs = c.args.groups.now in
    let i = c.loop-i.i in
    let here : get_or (leaders_of gs) i 0 ≡ c.index-groups-i.result.leader.0 = get_or-map (λ (g : Group). g.leader.0) gs i c.index-groups-i.result 0 c.loop-i-test.true ∙ ap (λ (g : Group). g.leader.0) (sym c.index-groups-i.is) in
    let within = c.loop-i.invariant.within i 0 (omega (arith, length-map gs (λ (g : Group). g.leader.0), c.loop-i-test.true)) in
    record {
      within = c.loop-i.invariant.within;
      each = rw here at (fill_more (leaders_of gs) c.loop-i.places.items i c.requires (omega (arith, length-map gs (λ (g : Group). g.leader.0), c.loop-i-test.true)) (omega (arith, within, c.loop-i.places.ok.0)) c.loop-i.invariant.each);
    }

pub returns : goal.returns
returns c = filled (leaders_of c.args.groups.now) c.loop-i.places.items c.requires (λ k d h. omega (arith, c.loop-i.invariant.within k d h, c.loop-i.places.ok.0)) (λ j h. c.loop-i.invariant.each j (omega (arith, h, length-map c.args.groups.now (λ (g : Group). g.leader.0), c.loop-i-test.false)))
