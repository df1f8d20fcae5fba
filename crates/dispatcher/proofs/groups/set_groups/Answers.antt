use Rattle.std.proofs.Common.{◌≡◌, ◌∙◌, ◌<◌, ap, sym, subst, arith, get_or, length, map, None, [], ◌∷◌, inl, inr}
use Rattle.std.proofs.lemmas.Bool.{cases_eq}
use Rattle.std.proofs.lemmas.List.{length-map, get_or_default, length_push, get_or-map, get_or_push, get_or_append_left, map_push, same_lists}
use Rattle.hs_base.specs.declared.ids.PointId.{PointId}
use Rattle.hs_base.specs.declared.net.Group.{Group}
use Rattle.hs_base.specs.Dispatch.{group_time}
use Rattle.local_propagate.specs.Windows.{time_of, times_of}
use Rattle.dispatcher.specs.State.{times_in}
use Rattle.dispatcher.specs.Index.{Knows, numbers_of}
use Rattle.dispatcher.proofs.groups.set_groups.Goals as goal

pub loop-i-preserved : goal.loop-i-preserved
loop-i-preserved c =
    let i = c.loop-i.i in
    let inv = c.loop-i.invariant in
    let r = c.set_group.ensures in
    let at = times_in c.args.times.now in
    let groups = c.args.net.now.groups in
    let items = ap numbers_of c.in_ok-push.ensures.items ∙ map_push (λ (q : PointId). q.0) c.loop-i.known.items c.set_group.result in
    let size : length (numbers_of c.loop-i.known.items) ≡ i = length-map c.loop-i.known.items (λ (q : PointId). q.0) ∙ inv.size in
    record {
      windows = r.windows;
      times = λ j g jj. elim (cases_eq j i) [
        | inl same ↦ subst (λ z. time_of c.set_group.new.windows z ≡ group_time at (get_or groups z g)) (sym same) (r.own g)
        | inr other ↦ r.others j other ∙ inv.times j g (omega (arith, jj, other))
      ];
      unset = λ j jj. r.others j (omega (arith, jj)) ∙ inv.unset j (omega (arith, jj));
      size = ap length c.in_ok-push.ensures.items ∙ length_push c.loop-i.known.items c.set_group.result ∙ omega (arith, inv.size);
      knows = λ j jj. elim (cases_eq j i) [
        | inl same ↦
            let here : get_or (numbers_of c.push.new.self.items) i 0 ≡ c.set_group.result.0 = ap (λ z. get_or z i 0) items ∙ get_or_push (numbers_of c.loop-i.known.items) c.set_group.result.0 0 i size in
            subst (λ z. Knows c.args.net.now c.args.times.now z (get_or (numbers_of c.push.new.self.items) z 0)) (sym same) (subst (Knows c.args.net.now c.args.times.now i) (sym here) r.knows)
        | inr other ↦
            let there : get_or (numbers_of c.push.new.self.items) j 0 ≡ get_or (numbers_of c.loop-i.known.items) j 0 = ap (λ z. get_or z j 0) items ∙ get_or_append_left (numbers_of c.loop-i.known.items) (c.set_group.result.0 ∷ []) 0 j (omega (arith, size, jj, other)) in
            subst (Knows c.args.net.now c.args.times.now j) (sym there) (inv.knows j (omega (arith, jj, other)))
      ];
    }

pub returns-clause-set : goal.returns-clause-set
returns-clause-set c =
    let inv = c.loop-i.invariant in
    let groups = c.args.net.now.groups in
    let at = times_in c.args.times.now in
    let none : Group = record { leader = record { 0 = 0 }; members = [] } in
    record {
      are = inv.windows;
      by = same_lists (times_of c.loop-i.windows) (map (group_time at) groups) (inv.windows.groups ∙ sym (length-map groups (group_time at))) (λ j d jj.
          let ij : j < length groups = omega (arith, jj, inv.windows.groups) in
          get_or_default (times_of c.loop-i.windows) j d None jj ∙ inv.times j none (omega (arith, ij, c.loop-i-test.false, c.len-i-end.ensures)) ∙ sym (get_or-map (group_time at) groups j none d ij));
    }

pub returns-clause-known : goal.returns-clause-known
returns-clause-known c =
    let inv = c.loop-i.invariant in
    record {
      groups = length-map c.loop-i.known.items (λ (q : PointId). q.0) ∙ inv.size ∙ omega (arith, c.loop-i-test.false, c.loop-i.auto.i-end, c.len-i-end.ensures);
      each = λ i g t ii is. inv.knows i (omega (arith, ii, c.loop-i-test.false, c.len-i-end.ensures)) g t is;
    }
