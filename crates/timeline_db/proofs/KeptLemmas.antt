-- The bounds that a part puts on the trail have the same schedules as its own.
use Rattle.std.proofs.Common.{◌≡◌, ℕ, ℤ, Bool, true, false, cond, List, [], ◌∷◌, ◌++◌, Option, None, Some, pos, negsuc, neg_ℤ, refl, sym, subst, arith}
use Rattle.std.proofs.lemmas.Int.{ints}
use Rattle.std.specs.Prelude.{◌&&◌, ◌+ℤ◌, ◌-ℤ◌, ◌≤ℤ◌, int_le, int_lt, option_map}
use Rattle.hs_base.specs.Bounds.{apart, on_some}
use Rattle.hs_base.specs.Missions.{IsMission}
use Rattle.hs_base.specs.Points.{value_of}
use Rattle.hs_base.specs.Ranges.{InRange, IsRange, whole}
use Rattle.hs_base.specs.Schedule.{Holds, Schedule, bound}
use Rattle.hs_base.specs.declared.limits.TheConstants.{LAST}
use Rattle.hs_base.specs.declared.mission.Kind.{Kind}
use Rattle.hs_base.specs.declared.mission.Mission.{Mission}
use Rattle.hs_base.specs.declared.mission.Value.{Value}
use Rattle.hs_base.specs.declared.net.Bound.{Bound}
use Rattle.hs_base.specs.declared.range.Range.{Range}
use Rattle.base_laws.proofs.ListLemmas.{each_both, each_split}
use Rattle.base_laws.proofs.MissionLemmas.{value_is}
use Rattle.search_tree.proofs.PartLemmas.{All', Both}
use Rattle.search_tree.specs.Begun.{Begun, newest}
use Rattle.search_tree.specs.PartBounds.{cell_bounds, link}
use Rattle.search_tree.specs.PartialBounds.{token_bounds}
use Rattle.search_tree.specs.declared.held.Cell.{Cell}
use Rattle.search_tree.specs.declared.held.Held.{Held}
use Rattle.timeline_db.specs.Kept.{from_since, kept_cell, lasting, lasting_within, until_last}

-- how long a value of a mission lasts is a range
pub lasts_range : (m : Mission) (k : Kind) (v : Value) → IsMission m → value_of m k ≡ Some v → IsRange (pos 1) v.lasts
lasts_range m k v h is = (value_is m k v h is).1.lasts

-- what is known of the times around a new token
pub record IsKnown (b : Begun) (t : Schedule) (tick : ℤ) (x : ℕ) : Type 0 where
  pub origin : t 0 ≡ pos 0
  pub mark : t (newest b) ≡ tick
  pub at : InRange whole tick
  pub since : InRange whole b.since
  pub before : InRange whole (t x)

lasting_keeps : (t : Schedule) (x : Held) (r : Range) → All' t (apart x.stop x.start r) → All' t (lasting x r)
lasting_keeps t x r h = (h.1.0, by (int_lt r.high LAST))
  where
    by : (b : Bool) → All' t (cond b (bound x.start x.stop r.high ∷ []) [])
    by true = (h.0, tt)
    by false = tt

lasting_tells : (t : Schedule) (x : Held) (r : Range) → pos 0 ≤ℤ t x.start → t x.stop ≤ℤ LAST → All' t (lasting x r) → All' t (apart x.stop x.start r)
lasting_tells t x r low high h = (top (int_lt r.high LAST) refl (h.1), (h.0, tt))
  where
    not_less : (z : ℤ) → int_lt z LAST ≡ false → LAST ≤ℤ z
    not_less z e = grind (arith, ints)

    top : (b : Bool) → int_lt r.high LAST ≡ b → All' t (cond b (bound x.start x.stop r.high ∷ []) []) → Holds t (bound x.start x.stop r.high)
    top true e k = k.0
    top false e k = let more = not_less r.high e in omega (arith, ints)

unless_met : (t : Schedule) (b : Bool) (d : Bound) → Holds t d → All' t (cond b [] (d ∷ []))
unless_met t true d h = tt
unless_met t false d h = (h, tt)

within_keeps : (t : Schedule) (tick since : ℤ) (x : Held) (r : Range) → Holds t (bound 0 x.stop LAST) → Holds t (bound x.stop 0 (neg_ℤ since)) → All' t (apart x.stop x.start r) → All' t (lasting_within tick since x r)
within_keeps t tick since x r last from h =
    each_both (Holds t) (lasting x r ++ until_last tick x r) (from_since since x r)
    (each_both (Holds t) (lasting x r) (until_last tick x r) (lasting_keeps t x r h) (unless_met t (int_lt r.high LAST && int_le (tick -ℤ pos 1 +ℤ r.high) LAST) (bound 0 x.stop LAST) last))
    (unless_met t (int_le since r.low) (bound x.stop 0 (neg_ℤ since)) from)

-- a token that starts within 0 and the tick keeps what its length implies
within_tells : (t : Schedule) (tick since : ℤ) (x : Held) (r : Range) → t 0 ≡ pos 0 → pos 0 ≤ℤ t x.start → Holds t (bound 0 x.start (tick -ℤ pos 1)) → All' t (lasting_within tick since x r)
    → Holds t (bound 0 x.stop LAST) × Holds t (bound x.stop 0 (neg_ℤ since)) × All' t (apart x.stop x.start r)
within_tells t tick since x r origin low before h =
    let s = each_split (Holds t) (lasting x r ++ until_last tick x r) (from_since since x r) h in
    let l = each_split (Holds t) (lasting x r) (until_last tick x r) s.0 in
    let last = until (int_lt r.high LAST) (int_le (tick -ℤ pos 1 +ℤ r.high) LAST) refl refl l.0.1 l.1 in
    (last, from (int_le since r.low) refl l.0.0 s.1, lasting_tells t x r low (omega (arith, ints)) l.0)
  where
    fits : (y z : ℤ) → int_le y z ≡ true → y ≤ℤ z
    fits y z e = grind (arith, ints)

    until : (a b : Bool) → int_lt r.high LAST ≡ a → int_le (tick -ℤ pos 1 +ℤ r.high) LAST ≡ b → All' t (cond a (bound x.start x.stop r.high ∷ []) []) → All' t (cond (a && b) [] (bound 0 x.stop LAST ∷ [])) → Holds t (bound 0 x.stop LAST)
    until true true e f l k = let most = l.0 in let less = fits (tick -ℤ pos 1 +ℤ r.high) LAST f in omega (arith, ints)
    until true false e f l k = k.0
    until false b e f l k = k.0

    from : (b : Bool) → int_le since r.low ≡ b → Holds t (bound x.stop x.start (neg_ℤ r.low)) → All' t (cond b [] (bound x.stop 0 (neg_ℤ since) ∷ [])) → Holds t (bound x.stop 0 (neg_ℤ since))
    from true e l k = let less = fits since r.low e in omega (arith, ints)
    from false e l k = k.0

next_both : (t : Schedule) (stop : ℕ) (o : Option Cell) → Both (All' t (on_some o (λ (d : Cell). bound d.held.start stop (pos 0) ∷ []))) (All' t (on_some (option_map (λ (c : Cell). c.held.start) o) (λ y. bound y stop (pos 0) ∷ [])))
next_both t stop None = (λ h. h, λ h. h)
next_both t stop (Some d) = (λ h. h, λ h. h)

module _ (m : Mission) (b : Begun) (t : Schedule) (tick : ℤ) (x : ℕ) (known : IsKnown b t tick x) (c : Cell) (o : Option Cell) (v : Value) (is : value_of m c.held.kind ≡ Some v) where
  abbrev next : Option ℕ
  next = option_map (λ (c : Cell). c.held.start) o

  abbrev lengths : List Bound
  lengths = on_some (value_of m c.held.kind) (λ (v : Value). apart c.held.stop c.held.start v.lasts)

  abbrev kept_lengths : List Bound
  kept_lengths = on_some (value_of m c.held.kind) (λ (v : Value). lasting_within tick b.since c.held v.lasts)

  abbrev behind : List Bound
  behind = on_some o (λ (d : Cell). bound d.held.start c.held.stop (pos 0) ∷ [])

  abbrev kept_behind : List Bound
  kept_behind = on_some next (λ y. bound y c.held.stop (pos 0) ∷ [])

  abbrev ends : List Bound
  ends = apart c.held.start 0 whole ++ apart c.held.stop 0 whole

  abbrev edges : List Bound
  edges = bound (newest b) c.held.start (negsuc 0) ∷ bound c.held.stop 0 (neg_ℤ b.since) ∷ []

  -- the parts of a new token's bounds
  pub record Split : Type 0 where
    pub ends_met : All' t ends
    pub lengths_met : All' t lengths
    pub edges_met : All' t edges
    pub link_met : All' t (link x c)
    pub behind_met : All' t behind

  split : All' t (cell_bounds m b x c o) → Split
  split h =
      let a = each_split (Holds t) (token_bounds m b c.held ++ link x c) behind h in
      let l = each_split (Holds t) (token_bounds m b c.held) (link x c) a.0 in
      let e = each_split (Holds t) (ends ++ lengths) edges l.0 in
      let f = each_split (Holds t) ends lengths e.0 in
      record { ends_met = f.0; lengths_met = f.1; edges_met = e.1; link_met = l.1; behind_met = a.1 }

  join : Split → All' t (cell_bounds m b x c o)
  join s =
      each_both (Holds t) (token_bounds m b c.held ++ link x c) behind
      (each_both (Holds t) (token_bounds m b c.held) (link x c)
      (each_both (Holds t) (ends ++ lengths) edges (each_both (Holds t) ends lengths s.ends_met s.lengths_met) s.edges_met) s.link_met) s.behind_met

  abbrev kept_link : List Bound
  kept_link = cond c.joined [] (bound c.held.start x (pos 0) ∷ [])

  pub record KeptSplit : Type 0 where
    pub start_met : Holds t (bound 0 c.held.start (tick -ℤ pos 1))
    pub link_met : All' t kept_link
    pub lengths_met : All' t kept_lengths
    pub behind_met : All' t kept_behind

  kept_split : All' t (kept_cell m tick b.since x c next) → KeptSplit
  kept_split h =
      let first = bound 0 c.held.start (tick -ℤ pos 1) ∷ [] in
      let a = each_split (Holds t) (first ++ kept_link ++ kept_lengths) kept_behind h in
      let l = each_split (Holds t) (first ++ kept_link) kept_lengths a.0 in
      let s = each_split (Holds t) first kept_link l.0 in
      record { start_met = s.0.0; link_met = s.1; lengths_met = l.1; behind_met = a.1 }

  kept_join : KeptSplit → All' t (kept_cell m tick b.since x c next)
  kept_join s =
      let first = bound 0 c.held.start (tick -ℤ pos 1) ∷ [] in
      each_both (Holds t) (first ++ kept_link ++ kept_lengths) kept_behind
      (each_both (Holds t) (first ++ kept_link) kept_lengths (each_both (Holds t) first kept_link (s.start_met, tt) s.link_met) s.lengths_met) s.behind_met

  cell_keeps : (All' t (link x c) → All' t kept_link) → All' t (cell_bounds m b x c o) → All' t (kept_cell m tick b.since x c next)
  cell_keeps links h =
      let s = split h in
      let origin = known.origin in
      let mark = known.mark in
      let before = s.edges_met.0 in
      kept_join (record {
        start_met = omega (arith, ints);
        link_met = links s.link_met;
        lengths_met = subst (λ (w : Option Value). All' t (on_some w (λ (v : Value). lasting_within tick b.since c.held v.lasts))) (sym is) (within_keeps t tick b.since c.held v.lasts s.ends_met.1.1.0 s.edges_met.1.0 (subst (λ (w : Option Value). All' t (on_some w (λ (v : Value). apart c.held.stop c.held.start v.lasts))) is s.lengths_met));
        behind_met = (next_both t c.held.stop o).0 s.behind_met;
      })

  cell_tells : (All' t kept_link → pos 0 ≤ℤ t c.held.start) → (All' t kept_link → All' t (link x c)) → All' t (kept_cell m tick b.since x c next) → All' t (cell_bounds m b x c o)
  cell_tells starts links h =
      let s = kept_split h in
      let origin = known.origin in
      let mark = known.mark in
      let tick_low = known.at.0 in
      let tick_high = known.at.1 in
      let since_low = known.since.0 in
      let low : pos 0 ≤ℤ t c.held.start = starts s.link_met in
      let before = s.start_met in
      let lasts = within_tells t tick b.since c.held v.lasts origin low before (subst (λ (w : Option Value). All' t (on_some w (λ (v : Value). lasting_within tick b.since c.held v.lasts))) is s.lengths_met) in
      let last = lasts.0 in
      let from = lasts.1 in
      join (record {
        ends_met = (omega (arith, ints), (omega (arith, ints), (omega (arith, ints), (omega (arith, ints), tt))));
        lengths_met = subst (λ (w : Option Value). All' t (on_some w (λ (v : Value). apart c.held.stop c.held.start v.lasts))) (sym is) lasts.2;
        edges_met = (omega (arith, ints), (from, tt));
        link_met = links s.link_met;
        behind_met = (next_both t c.held.stop o).1 s.behind_met;
      })

-- a new token behind a gap
pub gap_both : (m : Mission) (b : Begun) (t : Schedule) (tick : ℤ) (x : ℕ) → IsKnown b t tick x → (h : Held) (o : Option Cell) (v : Value) → value_of m h.kind ≡ Some v
    → Both (All' t (cell_bounds m b x (record { held = h; joined = false }) o)) (All' t (kept_cell m tick b.since x (record { held = h; joined = false }) (option_map (λ (c : Cell). c.held.start) o)))
gap_both m b t tick x known h o v is = (
  cell_keeps m b t tick x known (record { held = h; joined = false }) o v is (λ l. l),
  cell_tells m b t tick x known (record { held = h; joined = false }) o v is (λ l. let k = l.0 in let low = known.before.0 in omega (arith, ints)) (λ l. l),
)

-- a new token that starts at the point x
pub joined_both : (m : Mission) (b : Begun) (t : Schedule) (tick : ℤ) (h : Held) → IsKnown b t tick h.start → (o : Option Cell) (v : Value) → value_of m h.kind ≡ Some v
    → Both (All' t (cell_bounds m b h.start (record { held = h; joined = true }) o)) (All' t (kept_cell m tick b.since h.start (record { held = h; joined = true }) (option_map (λ (c : Cell). c.held.start) o)))
joined_both m b t tick h known o v is = (
  cell_keeps m b t tick h.start known (record { held = h; joined = true }) o v is (λ l. tt),
  cell_tells m b t tick h.start known (record { held = h; joined = true }) o v is (λ l. known.before.0) (λ l. (omega (arith, ints), (omega (arith, ints), tt))),
)
