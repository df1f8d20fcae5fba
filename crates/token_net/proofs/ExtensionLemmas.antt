-- The bounds of an extension by the index are its bounds.
use Rattle.std.proofs.Common.{◌≡◌, ℕ, zero, suc, ◌+◌, ◌-◌, ◌<◌, cond, List, [], ◌∷◌, ◌++◌, length, map, take, get_or, Some, refl, sym, ap, ◌∙◌, arith, length-append}
use Rattle.std.proofs.lemmas.List.{drop-map, take_more}
use Rattle.std.proofs.lemmas.Option.{slice_get-get_or}
use Rattle.std.specs.List.{AllByRecursion}
use Rattle.std.specs.Prelude.{drop, slice_get, flat_map, negsuc, neg_ℤ, ℤ}
use Rattle.hs_base.specs.declared.mission.Value.{Value}
use Rattle.hs_base.specs.declared.mission.Choice.{Choice}
use Rattle.hs_base.specs.declared.mission.Goal.{Goal}
use Rattle.hs_base.specs.declared.mission.Horizon.{Horizon}
use Rattle.hs_base.specs.declared.mission.Mission.{Mission}
use Rattle.hs_base.specs.declared.plan.TokenRef.{TokenRef}
use Rattle.hs_base.specs.declared.plan.Support.{Support}
use Rattle.hs_base.specs.declared.plan.Time.{Time}
use Rattle.hs_base.specs.declared.plan.Extension.{Extension}
use Rattle.hs_base.specs.Schedule.{bound, numbers_from}
use Rattle.hs_base.specs.Points.{horizon, count, points_of, tokens_of, timeline_of, refs_after, hor, start, stop, value_of, token_at}
use Rattle.hs_base.specs.Needs.{need_of, choice_by}
use Rattle.hs_base.specs.Bounds.{apart, exactly, on_some, relation_bounds, is_fixed, length_bounds, start_bounds, last_bound, last_bounds, support_bounds, goal_bounds, since_bounds, new_bounds, bounds_of}
use Rattle.hs_base.specs.Checked.{fixed_of}
use Rattle.base_laws.proofs.ListLemmas.{each_at, each_flat, join_after-push}
use Rattle.base_laws.proofs.PointLemmas.{horizon_number, end_points, length-ends, points_parts}
use Rattle.plan_index.specs.declared.point_name.PointName.{PointName}
use Rattle.plan_index.specs.declared.point_name.PointName.TheVariants.{Origin, Horizon as HorizonName, End}
use Rattle.plan_index.specs.Contents.{Contents, contents_of, extended, end_of}
use Rattle.plan_index.specs.Named.{named}
use Rattle.plan_index.proofs.IndexLemmas.{has_time-of, start_is}
use Rattle.token_net.specs.Items.{first_of, tokens_ended, length_item, length_items, start_items, after_horizon, last_item, last_items, support_item, support_items, goal_items, since_item, since_items, extension_items}

-- two functions that agree give the same
flat_same : {X Y : Type 0} (f g : X → List Y) → ((x : X) → f x ≡ g x) → (xs : List X) → flat_map f xs ≡ flat_map g xs
flat_same f g same [] = refl
flat_same f g same (x ∷ xs) = ap (λ l. l ++ flat_map f xs) (same x) ∙ ap (λ l. g x ++ l) (flat_same f g same xs)

map_same : {X Y : Type 0} (f g : X → Y) → ((x : X) → f x ≡ g x) → (xs : List X) → map f xs ≡ map g xs
map_same f g same [] = refl
map_same f g same (x ∷ xs) = ap (λ y. y ∷ map f xs) (same x) ∙ ap (λ l. g x ∷ l) (map_same f g same xs)

module _ (m : Mission) (es : List Extension) where
  start_same : (t : TokenRef) → first_of (contents_of es) t ≡ start es t
  start_same t = start_is (contents_of es) es t refl

  pub lengths_same : (new : List TokenRef) → length_items m (contents_of es) new ≡ length_bounds m es new
  lengths_same new = flat_same (length_item m (contents_of es)) _ (λ t. ap (λ x. on_some (token_at es t) (λ k. on_some (value_of m k) (λ (v : Value). apart (stop es t) x v.lasts))) (start_same t)) new

  pub starts_same : (k : ℕ) (new : List TokenRef) → start_items (contents_of es) (hor es k) new ≡ start_bounds es k new
  starts_same k new = map_same (λ t. bound (hor es k) (first_of (contents_of es) t) (negsuc 0)) (λ t. bound (hor es k) (start es t) (negsuc 0)) (λ t. ap (λ x. bound (hor es k) x (negsuc 0)) (start_same t)) new

  pub lasts_same : (k : ℕ) → last_items (contents_of es) (hor es k) (length m.vars) ≡ last_bounds m es k
  lasts_same k = flat_same (last_item (contents_of es) (hor es k)) (λ v. last_bound es k v (length (timeline_of (tokens_of es) v))) (λ v. by_size v (length (timeline_of (tokens_of es) v))) (numbers_from 0 (length m.vars))
    where
      by_size : (v size : ℕ) → after_horizon (points_of es) (hor es k) v size ≡ last_bound es k v size
      by_size v zero = refl
      by_size v (suc i) = refl

  pub supports_same : (supports : List Support) → support_items m (contents_of es) supports ≡ support_bounds m es supports
  supports_same supports = flat_same (support_item m (contents_of es)) _ each supports
    where
      each : (s : Support) → support_item m (contents_of es) s ≡ on_some (need_of m (token_at es s.token) s.need) (λ need. on_some (token_at es s.by) (λ k. on_some (choice_by need k) (λ (c : Choice). relation_bounds c.relation (start es s.token) (stop es s.token) (start es s.by) (stop es s.by))))
      each s =
          ap (λ x. on_some (need_of m (token_at es s.token) s.need) (λ need. on_some (token_at es s.by) (λ k. on_some (choice_by need k) (λ (c : Choice). relation_bounds c.relation x (stop es s.token) (first_of (contents_of es) s.by) (stop es s.by))))) (start_same s.token)
          ∙ ap (λ x. on_some (need_of m (token_at es s.token) s.need) (λ need. on_some (token_at es s.by) (λ k. on_some (choice_by need k) (λ (c : Choice). relation_bounds c.relation (start es s.token) (stop es s.token) x (stop es s.by))))) (start_same s.by)

  pub goals_same : (gs : List Goal) (ts : List TokenRef) → goal_items (contents_of es) gs ts ≡ goal_bounds es gs ts
  goals_same [] ts = refl
  goals_same (g ∷ gs) [] = refl
  goals_same (g ∷ gs) (t ∷ ts) =
      ap (λ x. (apart x 0 g.start ++ apart (stop es t) 0 g.stop) ++ goal_items (contents_of es) gs ts) (start_same t)
      ∙ ap (λ l. apart (start es t) 0 g.start ++ apart (stop es t) 0 g.stop ++ l) (goals_same gs ts)

  pub since_same : (since : ℤ) → since_items (contents_of es) since ≡ since_bounds es since
  since_same since = flat_same (since_item (contents_of es) since) (λ x. cond (is_fixed es x) [] (bound x 0 (neg_ℤ since) ∷ [])) (λ x. ap (λ b. cond b [] (bound x 0 (neg_ℤ since) ∷ [])) (has_time-of es x)) (numbers_from 1 (count es - 1))

both : {X : Type 0} {a b c d : List X} → a ≡ b → c ≡ d → a ++ c ≡ b ++ d
both {b = b} {c = c} p q = ap (λ l. l ++ c) p ∙ ap (λ l. b ++ l) q

-- the bounds of an extension by the index of the plan with it
pub extension_same : (m : Mission) (before : List Extension) (e : Extension) → extension_items m (contents_of (before ++ e ∷ [])) (length before) (count before) (refs_after (tokens_of before) e.tokens) e ≡ new_bounds m before e
extension_same m before e =
    let es = before ++ e ∷ [] in
    let k = length before + 1 in
    let c = contents_of es in
    let refs = refs_after (tokens_of before) e.tokens in
    let at : length before ≡ k - 1 = omega arith in
    let mark : count before ≡ hor es k = sym (horizon_number before e) in
    both (both (both (both (both (both (both (both
    (ap (λ x. on_some (slice_get m.horizons (length before)) (λ (g : Horizon). exactly x g.tick)) mark ∙ ap (λ i. on_some (slice_get m.horizons i) (λ (g : Horizon). exactly (hor es k) g.tick)) at)
    refl)
    (lengths_same m es refs))
    (ap (λ x. start_items c x refs) mark ∙ starts_same m es k refs))
    (ap (λ x. last_items c x (length m.vars)) mark ∙ lasts_same m es k))
    (supports_same m es e.supports))
    (goals_same m es (on_some (slice_get m.horizons (length before)) (λ (g : Horizon). g.goals)) e.goals ∙ ap (λ i. goal_bounds es (on_some (slice_get m.horizons i) (λ (g : Horizon). g.goals)) e.goals) at))
    refl)
    (since_same m es e.since)

-- names of the ends of tokens name these tokens
pub ended_are : (names : List PointName) (refs : List TokenRef) → map named names ≡ map end_of refs → tokens_ended names ≡ refs
ended_are [] [] is = refl
ended_are [] (r ∷ refs) is = absurd (cc)
ended_are (n ∷ names) [] is = absurd (cc)
ended_are (n ∷ names) (r ∷ refs) is =
    let first : named n ≡ end_of r = cc in
    let rest : map named names ≡ map end_of refs = cc in
    by_name n first ∙ ap (λ l. r ∷ l) (ended_are names refs rest)
  where
    by_name : (n : PointName) → named n ≡ end_of r → tokens_ended (n ∷ names) ≡ r ∷ tokens_ended names
    by_name Origin first = absurd (cc)
    by_name (HorizonName k) first = absurd (cc)
    by_name (End t) first =
        let variable : t.sv.0 ≡ r.sv.0 = cc in
        let place : t.place ≡ r.place = cc in
        let make : ℕ → ℕ → TokenRef = λ v i. record { sv = record { 0 = v }; place = i } in
        let same : t ≡ r = ap (λ v. make v t.place) variable ∙ ap (make r.sv.0) place in
        ap (λ x. x ∷ tokens_ended names) same

-- what stands behind a list
drop_behind : {X : Type 0} (xs ys : List X) → drop (length xs) (xs ++ ys) ≡ ys
drop_behind [] ys = refl
drop_behind (x ∷ xs) ys = drop_behind xs ys

-- the tokens that end behind the points of the plan before and the new horizon's are the new ones
pub newest_are : (before : List Extension) (e : Extension) (names : List PointName) → map named names ≡ points_of (before ++ e ∷ []) → tokens_ended (drop (count before + 1) names) ≡ refs_after (tokens_of before) e.tokens
newest_are before e names is =
    let front = points_of before ++ horizon (length before + 1) ∷ [] in
    let size : length front ≡ count before + 1 = length-append (points_of before) (horizon (length before + 1) ∷ []) in
    ended_are (drop (count before + 1) names) (refs_after (tokens_of before) e.tokens)
    (sym (drop-map named (count before + 1) names) ∙ ap (drop (count before + 1)) (is ∙ points_parts before e) ∙ ap (λ n. drop n (front ++ end_points (tokens_of before) e.tokens)) (sym size) ∙ drop_behind front (end_points (tokens_of before) e.tokens))

-- the points with one more extension
pub points_more : (c : Contents) (e : Extension) → length (extended c e).points ≡ length c.points + length e.tokens + 1
points_more c e =
    let refs = refs_after c.tokens e.tokens in
    omega (arith, length-append c.points (horizon (c.horizons + 1) ∷ map end_of refs), length-ends c.tokens e.tokens)

-- the bounds up to one extension more
pub bounds_more : (m : Mission) (es : List Extension) (k : ℕ) (e : Extension) → k < length es → e ≡ get_or es k e → bounds_of m (take (k + 1) es) ≡ bounds_of m (take k es) ++ new_bounds m (take k es) e
bounds_more m es k e below is = ap (bounds_of m) (take_more es k e below ∙ ap (λ f. take k es ++ f ∷ []) (sym is)) ∙ join_after-push (new_bounds m) [] (take k es) e

-- what holds of all fixed times holds of those of one extension
pub fixed_each : (P : Time → Type 0) (es : List Extension) (i : ℕ) (e : Extension) (j : ℕ) (t : Time) → AllByRecursion P (fixed_of es) → i < length es → e ≡ get_or es i e → j < length e.fixed → P (get_or e.fixed j t)
fixed_each P es i e j t h below is inside =
    let here : slice_get es i ≡ Some e = slice_get-get_or es i e below ∙ ap Some (sym is) in
    each_at P e.fixed j (get_or e.fixed j t) (each_flat P (λ (x : Extension). x.fixed) es i e h here) (slice_get-get_or e.fixed j t inside)
