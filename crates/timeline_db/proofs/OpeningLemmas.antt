-- The bounds with which a search begins, and that it begins well.
use Rattle.std.proofs.Common.{◌≡◌, ℕ, ℤ, zero, suc, ◌+◌, ◌*◌, ◌-◌, ◌<◌, ◌≤◌, Bool, true, false, cond, ◌||◌, nat_eq, List, [], ◌∷◌, ◌++◌, All, Option, Some, length, map, drop, flat_map, get_or, slice_get, pos, neg_ℤ, to_z, of_z, w64, refl, sym, ap, ◌∙◌, subst, append-nil, length-append, arith}
use Rattle.std.proofs.lemmas.Int.{ints, to_z-of_z}
use Rattle.std.specs.List.{AllByRecursion, list_any}
use Rattle.std.specs.Prelude.{◌≤ℤ◌}
use Rattle.hs_base.specs.Bounds.{apart, bounds_of, exactly, fixed_bounds, horizon_bounds, is_fixed, on_some, point_bounds, since_bounds}
use Rattle.hs_base.specs.Checked.{KeepsFixedAt, KeepsRules, fixed_of}
use Rattle.hs_base.proofs.RuleLemmas.{base_kept, limits_kept, fixed_kept}
use Rattle.hs_base.specs.Points.{count, tokens_of}
use Rattle.hs_base.specs.Ranges.{InRange, whole}
use Rattle.hs_base.specs.Schedule.{Meets, Schedule, bound, numbers_from}
use Rattle.hs_base.specs.Walks.{EachAfter}
use Rattle.hs_base.specs.declared.mission.Horizon.{Horizon}
use Rattle.hs_base.specs.declared.mission.Mission.{Mission}
use Rattle.hs_base.specs.declared.net.Bound.{Bound}
use Rattle.hs_base.specs.declared.plan.Extension.{Extension}
use Rattle.hs_base.specs.declared.plan.Time.{Time}
use Rattle.base_laws.proofs.ListLemmas.{each_split, snoc_induction}
use Rattle.base_laws.proofs.PointLemmas.{count_is, tokens-push}
use Rattle.plan_laws.proofs.InsideLemmas.{each_from}
use Rattle.plan_check.proofs.WithinLemmas.{fixed-push}
use Rattle.plan_index.specs.Named.{has_time}
use Rattle.plan_check.specs.Planned.{Planned}
use Rattle.plan_laws.specs.Fit.{IsFit}
use Rattle.search_tree.proofs.CellLemmas.{stub_count}
use Rattle.search_tree.proofs.RangeLemmas.{root_fit}
use Rattle.search_tree.proofs.RootLemmas.{newest_is, root_keeps, root_meets, root_schedule}
use Rattle.search_tree.proofs.SizeLemmas.{few_at_root}
use Rattle.search_tree.specs.Begun.{Begun, newest, number, stub}
use Rattle.search_tree.specs.Outset.{MayBegin}
use Rattle.search_tree.specs.Partial.{Row, begin}
use Rattle.search_tree.specs.PartialBounds.{HasSchedule, begun_bounds, root_bounds, token_bounds}
use Rattle.search_tree.specs.Parts.{do_parts}
use Rattle.search_tree.specs.declared.held.Cell.{Cell}
use Rattle.stn_distance.specs.Ranges.{IsInRange}
use Rattle.stn_trail.specs.Held.{Held as Trailed}
use Rattle.stn_trail.specs.declared.part.Part.TheVariants.{Added}
use Rattle.timeline_db.proofs.TimeLemmas.{tick_is, tick_whole}
use Rattle.timeline_db.specs.Boards.{pictured}
use Rattle.timeline_db.specs.Databases.{IsCounted, IsDb, parts_of}
use Rattle.timeline_db.specs.Kept.{tick_of}
use Rattle.timeline_db.specs.Laying.{AreOutset}
use Rattle.timeline_db.specs.Lines.{Shown, cell_of, row_of}
use Rattle.timeline_db.specs.Opening.{line_bounds}
use Rattle.timeline_db.specs.declared.board.Board.{Board}
use Rattle.timeline_db.specs.declared.course.Step.{Step}
use Rattle.plan_check.proofs.SupportLemmas.{any-append}
use Rattle.hs_base.specs.Missions.{IsHorizon, IsMission}
use Rattle.plan_check.proofs.WithinLemmas.{none_checked}

pub fixed_below : (es : List Extension) (e : Extension) (ts : List Time) → EachAfter (KeepsFixedAt es e) [] ts → AllByRecursion (λ (t : Time). t.point.0 < count es) ts
fixed_below es e ts h = each_from (KeepsFixedAt es e) (λ (t : Time). t.point.0 < count es) (λ b t f. f.below) [] ts h

flat_same : {X Y : Type 0} (f g : X → List Y) (xs : List X) → ((x : X) → f x ≡ g x) → flat_map f xs ≡ flat_map g xs
flat_same f g [] h = refl
flat_same f g (x ∷ xs) h = ap (λ l. l ++ flat_map f xs) (h x) ∙ ap (λ l. g x ++ l) (flat_same f g xs h)

flat_of_map : {X Y Z : Type 0} (f : Y → List Z) (g : X → Y) (xs : List X) → flat_map f (map g xs) ≡ flat_map (λ x. f (g x)) xs
flat_of_map f g [] = refl
flat_of_map f g (x ∷ xs) = ap (λ l. f (g x) ++ l) (flat_of_map f g xs)

in_range : (n : ℕ) (bs : List Bound) (k : ℕ) (d : Bound) → AllByRecursion (IsFit n) bs → k < length bs → IsInRange n (get_or bs k d)
in_range n [] k d h l = absurd (omega arith)
in_range n (x ∷ bs) zero d h l = record { from_below = h.0.from; to_below = h.0.to; low = h.0.least; high = h.0.most }
in_range n (x ∷ bs) (suc k) d h l = in_range n bs k d h.1 (omega arith)

-- a time fits 64 bits
pub whole_fits : (z : ℤ) → InRange whole z → to_z w64 (of_z w64 z) ≡ z
whole_fits z h = to_z-of_z w64 z (omega (arith, ints, h.0, h.1))

module _ (m : Mission) (b : Begun) (may : MayBegin m b) where
  -- what is known without a new token
  begun_is : (mark : ℕ) (tick : ℤ) → mark ≡ count b.base → tick ≡ tick_of m b → bounds_of m b.base ++ exactly mark tick ++ apart mark 0 whole ++ fixed_bounds b.fixed ++ since_bounds (stub b) b.since ≡ begun_bounds m b
  begun_is mark tick is_mark is_tick =
      let less : number b - 1 ≡ length b.base = omega arith in
      let is : slice_get m.horizons (number b - 1) ≡ Some may.horizon = ap (slice_get m.horizons) less ∙ may.is_horizon in
      let one : exactly mark tick ≡ horizon_bounds m (stub b) (number b) =
      ap (λ (x : ℕ). exactly x tick) (is_mark ∙ sym (newest_is b)) ∙ ap (exactly (newest b)) (is_tick ∙ tick_is m b may)
      ∙ sym (ap (λ (o : Option Horizon). on_some o (λ (h : Horizon). exactly (newest b) h.tick)) is) in
      let two : apart mark 0 whole ≡ point_bounds (count b.base) 1 = ap (λ (x : ℕ). apart x 0 whole) is_mark in
      ap (λ (l : List Bound). bounds_of m b.base ++ l ++ apart mark 0 whole ++ fixed_bounds b.fixed ++ since_bounds (stub b) b.since) one
      ∙ ap (λ (l : List Bound). bounds_of m b.base ++ horizon_bounds m (stub b) (number b) ++ l ++ fixed_bounds b.fixed ++ since_bounds (stub b) b.since) two

  -- as they are made
  pub begun_made : (mark : ℕ) (tick : ℤ) (fixed : List Time) (one two three four five : List Bound) → mark ≡ count b.base → tick ≡ tick_of m b → fixed ≡ b.fixed
      → one ≡ bounds_of m b.base → two ≡ one ++ exactly mark tick → three ≡ two ++ apart mark 0 whole → four ≡ three ++ fixed_bounds fixed → five ≡ four ++ since_bounds (stub b) b.since → five ≡ begun_bounds m b
  begun_made mark tick fixed one two three four five is_mark is_tick is_fixed a c d e f =
      f
      ∙ ap (λ (l : List Bound). l ++ since_bounds (stub b) b.since)
      (e ∙ ap (λ (l : List Time). three ++ fixed_bounds l) is_fixed ∙ ap (λ (l : List Bound). l ++ fixed_bounds b.fixed) (d ∙ ap (λ (l : List Bound). l ++ apart mark 0 whole) (c ∙ ap (λ (l : List Bound). l ++ exactly mark tick) a)))
      ∙ begun_is mark tick is_mark is_tick

  -- the bounds of new tokens
  line_is : (s : Shown) → line_bounds m (newest b) b.since s ≡ flat_map (λ (c : Cell). token_bounds m b c.held) (row_of s).added
  line_is s = sym (flat_of_map (λ (c : Cell). token_bounds m b c.held) cell_of (drop s.given s.tokens))

  pub lines_are : (mark : ℕ) (lines : List Shown) → mark ≡ count b.base → map row_of lines ≡ (begin m b).rows → begun_bounds m b ++ flat_map (line_bounds m mark b.since) lines ≡ root_bounds m b (begin m b)
  lines_are mark lines is rows =
      ap (λ (x : ℕ). begun_bounds m b ++ flat_map (line_bounds m x b.since) lines) (is ∙ sym (newest_is b))
      ∙ ap (λ (l : List Bound). begun_bounds m b ++ l)
      (flat_same (line_bounds m (newest b) b.since) (λ (s : Shown). flat_map (λ (c : Cell). token_bounds m b c.held) (row_of s).added) lines line_is
      ∙ sym (flat_of_map (λ (r : Row). flat_map (λ (c : Cell). token_bounds m b c.held) r.added) row_of lines)
      ∙ ap (flat_map (λ (r : Row). flat_map (λ (c : Cell). token_bounds m b c.held) r.added)) rows)

  -- they are between the points that are there
  pub root_range : (points : ℕ) (made : List Bound) → points ≡ (begin m b).points → made ≡ root_bounds m b (begin m b) → All (IsInRange points) made
  root_range points made size is = subst (λ (l : List Bound). All (IsInRange points) l) (sym is) (subst (λ (n : ℕ). All (IsInRange n) (root_bounds m b (begin m b))) (sym size) (λ k d l. in_range (begin m b).points (root_bounds m b (begin m b)) k d (root_fit m b may) l))

  -- they have a schedule
  pub root_kept : (made : List Bound) → made ≡ root_bounds m b (begin m b) → (t : Schedule) × Meets made t
  root_kept made is = (root_schedule m b may, subst (λ (l : List Bound). Meets l (root_schedule m b may)) (sym is) (root_keeps m b (root_schedule m b may) (root_meets m b may)))

  pub root_few : (points : ℕ) → points ≡ (begin m b).points → (1 ≤ points) × (points ≤ 131072)
  root_few points size = (omega (arith, size, stub_count b, at_least b.base), omega (arith, size, few_at_root m b may))
    where
      at_least : (es : List Extension) → count (stub b) ≤ count (stub b) + (elim es [ [] ↦ length m.vars | (e ∷ es) ↦ 0 ])
      at_least [] = omega arith
      at_least (e ∷ es) = omega arith

  -- a search begins with no part done
  pub db_begun : (tick : ℤ) (board : Board) (trail : Trailed) → tick ≡ tick_of m b → AreOutset m b board.lines.items → pictured board ≡ begin m b → IsCounted (begin m b) board
      → trail.first ≡ board.points → trail.parts ≡ map (λ c. Added c) (root_bounds m b (begin m b)) → IsDb m b tick board [] trail
  db_begun tick board trail is_tick outset shows counts first parts = record {
    begins = may;
    horizon = is_tick;
    allowed = tt;
    shows = shows;
    counts = counts;
    tracked = outset.tracked;
    course = record { first = first ∙ ap (λ p. p.points) shows; parts = parts ∙ sym (append-nil (map (λ c. Added c) (root_bounds m b (begin m b)))); marks = λ k s is. absurd (cc) };
  }

  -- the same of copies
  pub db_copied : (p : Planned) (since tick : ℤ) (fixed : List Time) (board : Board) (steps : List Step) (trail : Trailed) → p.mission ≡ m → p.plan.extensions ≡ b.base → since ≡ b.since → fixed ≡ b.fixed → tick ≡ tick_of m b
      → AreOutset m b board.lines.items → pictured board ≡ begin m b → IsCounted (begin m b) board → trail.first ≡ board.points → trail.parts ≡ map (λ c. Added c) (root_bounds m b (begin m b)) → steps ≡ []
      → IsDb p.mission (record { base = p.plan.extensions; since = since; fixed = fixed }) tick board steps trail
  db_copied p since tick fixed board steps trail is_m is_base is_since is_fixed is_tick outset shows counts first parts none =
      subst (λ (x : Mission). IsDb x (record { base = p.plan.extensions; since = since; fixed = fixed }) tick board steps trail) (sym is_m)
      (subst (λ (es : List Extension). IsDb m (record { base = es; since = since; fixed = fixed }) tick board steps trail) (sym is_base)
      (subst (λ (z : ℤ). IsDb m (record { base = b.base; since = z; fixed = fixed }) tick board steps trail) (sym is_since)
      (subst (λ (ts : List Time). IsDb m (record { base = b.base; since = b.since; fixed = ts }) tick board steps trail) (sym is_fixed)
      (subst (λ (l : List Step). IsDb m b tick board l trail) (sym none) (db_begun tick board trail is_tick outset shows counts first parts)))))

  pub open_copied : (p : Planned) (since : ℤ) (fixed : List Time) (steps : List Step) → p.mission ≡ m → p.plan.extensions ≡ b.base → since ≡ b.since → fixed ≡ b.fixed → steps ≡ []
      → HasSchedule p.mission (record { base = p.plan.extensions; since = since; fixed = fixed }) (do_parts (begin p.mission (record { base = p.plan.extensions; since = since; fixed = fixed })) (parts_of steps))
  open_copied p since fixed steps is_m is_base is_since is_fixed none =
      subst (λ (x : Mission). HasSchedule x (record { base = p.plan.extensions; since = since; fixed = fixed }) (do_parts (begin x (record { base = p.plan.extensions; since = since; fixed = fixed })) (parts_of steps))) (sym is_m)
      (subst (λ (es : List Extension). HasSchedule m (record { base = es; since = since; fixed = fixed }) (do_parts (begin m (record { base = es; since = since; fixed = fixed })) (parts_of steps))) (sym is_base)
      (subst (λ (z : ℤ). HasSchedule m (record { base = b.base; since = z; fixed = fixed }) (do_parts (begin m (record { base = b.base; since = z; fixed = fixed })) (parts_of steps))) (sym is_since)
      (subst (λ (ts : List Time). HasSchedule m (record { base = b.base; since = b.since; fixed = ts }) (do_parts (begin m (record { base = b.base; since = b.since; fixed = ts })) (parts_of steps))) (sym is_fixed)
      (subst (λ (l : List Step). HasSchedule m b (do_parts (begin m b) (parts_of l))) (sym none) (record { schedule = root_schedule m b may; meets = root_meets m b may })))))

-- times of fixed points are no less than 0
pub fixed_times : (es : List Extension) (e : Extension) (ts : List Time) → EachAfter (KeepsFixedAt es e) [] ts → AllByRecursion (λ (t : Time). pos 0 ≤ℤ t.at) ts
fixed_times es e ts h = each_from (KeepsFixedAt es e) (λ (t : Time). pos 0 ≤ℤ t.at) (λ b t f. f.at.0) [] ts h

-- so does the tick of a horizon
pub tick_fits : (m : Mission) (b : Begun) → MayBegin m b → (z : ℤ) → z ≡ tick_of m b → to_z w64 (of_z w64 z) ≡ z
tick_fits m b may z is = let h = tick_whole m b may in to_z-of_z w64 z (omega (arith, ints, is, h.0, h.1))

begins_with : (m : Mission) → IsMission m → (hs : List Horizon) → m.horizons ≡ hs → 0 < length hs → AllByRecursion (IsHorizon m.vars) hs → MayBegin m (record { base = []; since = pos 0; fixed = [] })
begins_with m h [] is some each = absurd (omega (arith, some))
begins_with m h (x ∷ hs) is some each = record {
  checked = none_checked m h;
  schedule = λ y. pos 0;
  ongoing = record { meets = record { origin = refl; each = tt }; agrees = tt; later = λ y above below free. absurd (omega (arith, above, below)) };
  fixed = record { each = tt; since = (omega (arith, ints), omega (arith, ints)) };
  horizon = x;
  is_horizon = ap (λ (l : List Horizon). slice_get l 0) is;
  in_time = omega (arith, ints, each.0.tick.0);
  at_first = λ e. refl;
}

-- a search may begin with any mission to which nothing has happened yet
pub begins_anywhere : (m : Mission) → IsMission m → MayBegin m (record { base = []; since = pos 0; fixed = [] })
begins_anywhere m h = begins_with m h m.horizons refl h.some_horizons h.horizons

pub begins_alike : (m : Mission) (b : Begun) → IsMission m → b.base ≡ [] → b.since ≡ pos 0 → b.fixed ≡ [] → MayBegin m b
begins_alike m b h base since fixed =
    subst (λ (l : List Extension). MayBegin m (record { base = l; since = b.since; fixed = b.fixed })) (sym base)
    (subst (λ (z : ℤ). MayBegin m (record { base = []; since = z; fixed = b.fixed })) (sym since) (subst (λ (l : List Time). MayBegin m (record { base = []; since = pos 0; fixed = l })) (sym fixed) (begins_anywhere m h)))
