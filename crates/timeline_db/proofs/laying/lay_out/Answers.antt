use Rattle.std.proofs.Common.{ℕ, suc, ◌+◌, List, length, flat_map, drop, slice_get, refl, sym, ap, ◌∙◌, subst, arith}
use Rattle.hs_base.specs.Bounds.{goals_of}
use Rattle.hs_base.specs.declared.mission.Goal.{Goal}
use Rattle.hs_base.specs.declared.mission.Mission.{Mission}
use Rattle.plan_check.proofs.WithinLemmas.{few_points}
use Rattle.plan_check.specs.Seen.{seen}
use Rattle.plan_index.specs.Contents.{Contents}
use Rattle.search_tree.specs.Begun.{begun_of}
use Rattle.timeline_db.proofs.CountedLemmas.{added_begun, added_few, shows_begun, total_begun, total_few}
use Rattle.timeline_db.specs.Lines.{Shown}
use Rattle.timeline_db.proofs.laying.lay_out.Goals as goal

pub count_added-added-requires-clause-given : goal.count_added-added-requires-clause-given
count_added-added-requires-clause-given c = λ v s is.
    let b = begun_of (seen c.args.snapshot.now) in
    let outset = c.in_ok-lines.ensures b refl in
    (outset.tracked.line v s (ap (λ (l : List Shown). slice_get l v) (sym c.deref.ensures.value) ∙ is)).within

pub count_added-added-requires-clause-few : goal.count_added-added-requires-clause-few
count_added-added-requires-clause-few c =
    let b = begun_of (seen c.args.snapshot.now) in
    let m = c.args.snapshot.now.plan.mission in
    let items = c.in_ok-lines.lines.items in
    let outset = c.in_ok-lines.ensures b refl in
    omega (arith, added_few m b c.requires items outset, ap (λ (l : List Shown). length (flat_map (λ (s : Shown). drop s.given s.tokens) l)) c.deref.ensures.value)

pub count_tokens-total-requires : goal.count_tokens-total-requires
count_tokens-total-requires c =
    let b = begun_of (seen c.args.snapshot.now) in
    let m = c.args.snapshot.now.plan.mission in
    let items = c.in_ok-lines.lines.items in
    let outset = c.in_ok-lines.ensures b refl in
    omega (arith, total_few m b c.requires items outset, ap (λ (l : List Shown). length (flat_map (λ (s : Shown). s.tokens) l)) c.deref-2.ensures.value)

pub overflow_cast-result : goal.overflow_cast-result
overflow_cast-result c = omega (arith, few_points c.args.snapshot.now.plan.mission c.requires.checked.mission c.args.snapshot.now.plan.plan.extensions c.requires.checked.rules, c.points.ensures ∙ ap (λ (x : Contents). length x.points) c.index-index.ensures)

pub overflow_add-result : goal.overflow_add-result
overflow_add-result c = omega (arith, few_points c.args.snapshot.now.plan.mission c.requires.checked.mission c.args.snapshot.now.plan.plan.extensions c.requires.checked.rules, c.points.ensures ∙ ap (λ (x : Contents). length x.points) c.index-index.ensures)

pub overflow_cast-result-2 : goal.overflow_cast-result-2
overflow_cast-result-2 c =
    let b = begun_of (seen c.args.snapshot.now) in
    let m = c.args.snapshot.now.plan.mission in
    let items = c.in_ok-lines.lines.items in
    let outset = c.in_ok-lines.ensures b refl in
    omega (arith, added_few m b c.requires items outset, ap (λ (l : List Shown). length (flat_map (λ (s : Shown). drop s.given s.tokens) l)) c.deref.ensures.value, c.count_added-added.ensures)

pub overflow_add-result-2 : goal.overflow_add-result-2
overflow_add-result-2 c =
    let b = begun_of (seen c.args.snapshot.now) in
    let m = c.args.snapshot.now.plan.mission in
    let items = c.in_ok-lines.lines.items in
    let outset = c.in_ok-lines.ensures b refl in
    omega (
      arith,
      added_few m b c.requires items outset,
      ap (λ (l : List Shown). length (flat_map (λ (s : Shown). drop s.given s.tokens) l)) c.deref.ensures.value,
      c.count_added-added.ensures,
      few_points m c.requires.checked.mission c.args.snapshot.now.plan.plan.extensions c.requires.checked.rules,
      c.points.ensures ∙ ap (λ (x : Contents). length x.points) c.index-index.ensures,
    )

pub returns-clause-shows : goal.returns-clause-shows
returns-clause-shows c =
    let b = begun_of (seen c.args.snapshot.now) in
    let m = c.args.snapshot.now.plan.mission in
    let items = c.in_ok-lines.lines.items in
    let outset = c.in_ok-lines.ensures b refl in
    let added = c.count_added-added.ensures ∙ ap (λ (l : List Shown). length (flat_map (λ (s : Shown). drop s.given s.tokens) l)) c.deref.ensures.value ∙ added_begun m b c.requires items outset in
    let goals =
    c.count_goals.ensures ∙ ap (λ (x : Mission). length {A = Goal} (goals_of x (suc c.horizons.result))) c.mission-mission.ensures.mission
    ∙ ap (λ (n : ℕ). length {A = Goal} (goals_of m (suc n))) (c.horizons.ensures ∙ ap (λ (x : Contents). x.horizons) c.index-index.ensures) in
    shows_begun m b c.requires items outset
    (record {
      lines = c.in_ok-lines.lines;
      supports = c.new.result;
      goals = c.in_ok-open_goals.field-0;
      deferred = c.new-2.result;
      points = c.points.result + 1 + c.count_added-added.result;
      added = c.count_added-added.result;
      total = c.count_tokens-total.result;
    }) c.count_goals.result refl c.new.ensures.items goals c.in_ok-open_goals.ensures c.new-2.ensures.items
    (omega (arith, added, c.points.ensures ∙ ap (λ (x : Contents). length x.points) c.index-index.ensures))

pub returns-clause-counts : goal.returns-clause-counts
returns-clause-counts c =
    let b = begun_of (seen c.args.snapshot.now) in
    let m = c.args.snapshot.now.plan.mission in
    let items = c.in_ok-lines.lines.items in
    let outset = c.in_ok-lines.ensures b refl in
    record {
      added = c.count_added-added.ensures ∙ ap (λ (l : List Shown). length (flat_map (λ (s : Shown). drop s.given s.tokens) l)) c.deref.ensures.value ∙ added_begun m b c.requires items outset;
      total = c.count_tokens-total.ensures ∙ ap (λ (l : List Shown). length (flat_map (λ (s : Shown). s.tokens) l)) c.deref-2.ensures.value ∙ total_begun m b c.requires items outset;
    }
