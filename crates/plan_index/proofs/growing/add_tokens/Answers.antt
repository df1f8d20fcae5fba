use Rattle.std.proofs.Common.{◌≡◌, ◌+◌, ◌-◌, ℕ, ◌∷◌, [], ◌++◌, length, map, take, get_or, sym, ap, ◌∙◌, subst, arith, append_assoc, append-nil, refl}
use Rattle.std.proofs.lemmas.List.{length-map, map_push, take_more}
use Rattle.hs_base.specs.declared.mission.Kind.{Kind}
use Rattle.hs_base.specs.Points.{timeline_of, ref_after, refs_after, ending}
use Rattle.base_laws.proofs.PointLemmas.{end_points-push}
use Rattle.plan_index.specs.declared.placed.PlacedToken.{PlacedToken}
use Rattle.plan_index.specs.declared.point_name.PointName.TheVariants.{End}
use Rattle.plan_index.specs.Contents.{end_of}
use Rattle.plan_index.specs.Lines.{row_of, HasRoom, AreLines}
use Rattle.plan_index.specs.Named.{named}
use Rattle.plan_index.proofs.LineLemmas.{room_less}
use Rattle.plan_index.proofs.GrowthLemmas.{lines_token, row_many, row_few}
use Rattle.plan_index.proofs.growing.add_tokens.Goals as goal

abbrev pub no_kind : Kind
no_kind = record { sv = record { 0 = 0 }; value = record { 0 = 0 } }

pub loop-kind-init : goal.loop-kind-init
loop-kind-init c = record {
  many = omega arith;
  names_room = refl;
  more = omega arith;
  tokens_room = refl;
  room = λ j d below. room_less c.args.lines.now.items (get_or c.args.new.now j d).sv.0 (length c.args.new.now) (length c.args.new.now - 0) (omega arith) (c.requires.room j d below);
  names = sym (append-nil (map named c.args.names.now.items));
  tokens = sym (append-nil c.args.tokens.now.items);
  lines = c.requires.lines;
}

pub place-place-requires-clause-room : goal.place-place-requires-clause-room
place-place-requires-clause-room c =
    let j = c.loop-kind.kind-index in
    room_less c.loop-kind.lines.items (get_or c.args.new.now j no_kind).sv.0 (length c.args.new.now - j) 1 (omega (arith, c.loop-kind-test.true)) (c.loop-kind.invariant.room j no_kind c.loop-kind-test.true)

pub place-place-requires-clause-few : goal.place-place-requires-clause-few
place-place-requires-clause-few c =
    let j = c.loop-kind.kind-index in
    let t = get_or c.args.new.now j no_kind in
    let few = row_few c.loop-kind.tokens.items (map named c.loop-kind.names.items) (row_of c.loop-kind.lines.items) t.sv.0 c.loop-kind.invariant.lines in
    omega (arith, few, c.loop-kind.invariant.more, c.requires.fewer, c.requires.small, c.loop-kind-test.true)

pub loop-kind-preserved : goal.loop-kind-preserved
loop-kind-preserved c =
    let j = c.loop-kind.kind-index in
    let new = c.args.new.now in
    let t = get_or new j no_kind in
    let old = c.args.tokens.now.items in
    let ts = c.loop-kind.tokens.items in
    let names = c.loop-kind.names.items in
    let points = map named names in
    let more : take (j + 1) new ≡ take j new ++ t ∷ [] = take_more new j no_kind c.loop-kind-test.true in
    let p : PlacedToken = record { value = t.value; end = record { 0 = c.len.result } } in
    let place : c.place-place.result ≡ length (timeline_of ts t.sv.0) = c.place-place.ensures.place ∙ row_many ts points (row_of c.loop-kind.lines.items) t.sv.0 c.loop-kind.invariant.lines in
    let tokens_are : c.push_reserved-in-loop-kind.new.self.items ≡ ts ++ t ∷ [] = c.push_reserved-in-loop-kind.ensures.items in
    let names_are : map named c.push_reserved.new.self.items ≡ points ++ end_of (ref_after ts t) ∷ [] =
    ap (map named) c.push_reserved.ensures.items ∙ map_push named names (End (record { sv = t.sv; place = c.place-place.result }))
    ∙ ap (λ (i : ℕ). points ++ ending t.sv.0 i ∷ []) place in
    let ref : end_of (ref_after ts t) ≡ end_of (ref_after (old ++ take j new) t) = ap (λ l. end_of (ref_after l t)) c.loop-kind.invariant.tokens in
    let lines : AreLines (ts ++ t ∷ []) (points ++ end_of (ref_after ts t) ∷ []) (row_of c.place-place.new.lines.items) =
    lines_token ts points (row_of c.loop-kind.lines.items) (row_of c.place-place.new.lines.items) t p refl (omega (arith, c.len.ensures, length-map names named)) c.place-place.ensures.own c.place-place.ensures.others c.loop-kind.invariant.lines in
    record {
      many = omega (arith, c.push_reserved.ensures.len, c.loop-kind.invariant.many);
      names_room = c.push_reserved.ensures.capacity ∙ c.loop-kind.invariant.names_room;
      more = omega (arith, c.push_reserved-in-loop-kind.ensures.len, c.loop-kind.invariant.more);
      tokens_room = c.push_reserved-in-loop-kind.ensures.capacity ∙ c.loop-kind.invariant.tokens_room;
      room = λ i d below.
          let left : length new - j ≡ (length new - (j + 1)) + 1 = omega (arith, c.loop-kind-test.true) in
          c.place-place.ensures.room (get_or new i d).sv.0 (length new - (j + 1)) (subst (λ (n : ℕ). HasRoom c.loop-kind.lines.items (get_or new i d).sv.0 n) left (c.loop-kind.invariant.room i d below));
      names =
          names_are ∙ ap (λ q. points ++ q ∷ []) ref
          ∙ ap (λ ps. ps ++ end_of (ref_after (old ++ take j new) t) ∷ []) c.loop-kind.invariant.names
          ∙ append_assoc (map named c.args.names.now.items) (map end_of (refs_after old (take j new))) (end_of (ref_after (old ++ take j new) t) ∷ [])
          ∙ ap (λ ps. map named c.args.names.now.items ++ ps) (sym (ap (λ l. map end_of (refs_after old l)) more ∙ end_points-push old (take j new) t));
      tokens =
          tokens_are ∙ ap (λ l. l ++ t ∷ []) c.loop-kind.invariant.tokens ∙ append_assoc old (take j new) (t ∷ []) ∙ ap (λ l. old ++ l) (sym more);
      lines = subst (λ l. AreLines l (map named c.push_reserved.new.self.items) (row_of c.place-place.new.lines.items)) (sym tokens_are) (subst (λ l. AreLines (ts ++ t ∷ []) l (row_of c.place-place.new.lines.items)) (sym names_are) lines);
    }
