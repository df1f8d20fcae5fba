-- The trail of a Db, and the parts that were done.
use Rattle.std.proofs.Common.{◌≡◌, ℕ, suc, ◌+◌, ◌-◌, List, [], ◌∷◌, ◌++◌, Some, length, map, replicate, take, slice_get, refl, sym, ap, ◌∙◌, subst, append_assoc, append-nil, length-append, inl, inr, arith}
use Rattle.std.proofs.lemmas.Bool.{cases_lt}
use Rattle.std.proofs.lemmas.List.{map-append, take-append-le}
use Rattle.std.proofs.lemmas.Option.{slice_get_within}
use Rattle.std.proofs.Math.Seq.{take-append_seam}
use Rattle.hs_base.specs.Schedule.{HasNoSchedule, time_of}
use Rattle.hs_base.specs.declared.mission.Mission.{Mission}
use Rattle.hs_base.specs.declared.net.Bound.{Bound}
use Rattle.base_laws.proofs.ListLemmas.{slice_get-append_left, slice_get-middle}
use Rattle.search_tree.proofs.CellLemmas.{slice_get-past}
use Rattle.search_tree.proofs.RootLemmas.{root_keeps, root_tells}
use Rattle.search_tree.specs.Begun.{Begun}
use Rattle.search_tree.specs.May.{MayDo}
use Rattle.search_tree.specs.Outset.{MayBegin}
use Rattle.search_tree.specs.Partial.{Partial, begin}
use Rattle.search_tree.specs.PartialBounds.{HasSchedule, partial_bounds, root_bounds}
use Rattle.search_tree.specs.Parts.{do_part, do_parts, grown_by}
use Rattle.search_tree.specs.declared.part.Part.{Part}
use Rattle.search_tree.specs.declared.part.Part.TheVariants.{Deferred, Finished, Followed, Inserted, Joined, MetGoal, Supported}
use Rattle.stn_trail.proofs.PartLemmas.{added-append, grown-append}
use Rattle.stn_trail.specs.Held.{IsKept, Leaves, added, bounds_of, grown, points_of, Held as Trailed}
use Rattle.stn_trail.specs.declared.part.Part.{Part as TrailPart}
use Rattle.stn_trail.specs.declared.part.Part.TheVariants.{Added, Grown}
use Rattle.timeline_db.proofs.CourseLemmas.{added-grown, added-map, grown-grown, grown-map}
use Rattle.search_laws.proofs.GoodLemmas.{good_all, good_root}
use Rattle.timeline_db.proofs.SameLemmas.{AreSame, same_part, same_parts}
use Rattle.timeline_db.specs.Courses.{Gains, parts_with}
use Rattle.timeline_db.specs.Databases.{IsCourse, brought_by, parts_of, trail_parts}
use Rattle.search_laws.specs.Good.{AreAllowed}
use Rattle.timeline_db.specs.Kept.{kept_bounds, kept_of}
use Rattle.timeline_db.specs.declared.course.Step.{Step}

added-with : (n : ℕ) (bs : List Bound) → added (parts_with n bs) ≡ bs
added-with n bs = added-append (replicate n Grown) (map (λ b. Added b) bs) ∙ ap (λ (l : List Bound). l ++ added (map (λ b. Added b) bs)) (added-grown n) ∙ added-map bs

grown-with : (n : ℕ) (bs : List Bound) → grown (parts_with n bs) ≡ n
grown-with n bs = omega (arith, grown-append (replicate n Grown) (map (λ b. Added b) bs), grown-grown n, grown-map bs)

added-brought : (m : Mission) (b : Begun) (p : Partial) (xs : List Part) → added (brought_by m b p xs) ≡ kept_of m b p xs
added-brought m b p [] = refl
added-brought m b p (x ∷ xs) =
    added-append (parts_with (grown_by x) (kept_bounds m b p x)) (brought_by m b (do_part p x) xs)
    ∙ ap (λ (l : List Bound). l ++ added (brought_by m b (do_part p x) xs)) (added-with (grown_by x) (kept_bounds m b p x))
    ∙ ap (λ (l : List Bound). kept_bounds m b p x ++ l) (added-brought m b (do_part p x) xs)

-- the bounds of the trail's parts
pub added-trail : (m : Mission) (b : Begun) (xs : List Part) → added (trail_parts m b xs) ≡ root_bounds m b (begin m b) ++ kept_of m b (begin m b) xs
added-trail m b xs =
    added-append (map (λ c. Added c) (root_bounds m b (begin m b))) (brought_by m b (begin m b) xs)
    ∙ ap (λ (l : List Bound). l ++ added (brought_by m b (begin m b) xs)) (added-map (root_bounds m b (begin m b)))
    ∙ ap (λ (l : List Bound). root_bounds m b (begin m b) ++ l) (added-brought m b (begin m b) xs)

points-part : (p : Partial) (x : Part) → (do_part p x).points ≡ p.points + grown_by x
points-part p (Inserted v i value) = refl
points-part p (Followed v i value) = refl
points-part p (Joined v i) = refl
points-part p (Finished v) = refl
points-part p (Supported t i by) = omega arith
points-part p (MetGoal g by) = omega arith
points-part p (Deferred t i) = omega arith

grown-brought : (m : Mission) (b : Begun) (p : Partial) (xs : List Part) → p.points + grown (brought_by m b p xs) ≡ (do_parts p xs).points
grown-brought m b p [] = omega arith
grown-brought m b p (x ∷ xs) =
    omega (arith, grown-append (parts_with (grown_by x) (kept_bounds m b p x)) (brought_by m b (do_part p x) xs), grown-with (grown_by x) (kept_bounds m b p x), points-part p x, grown-brought m b (do_part p x) xs)

-- the trail has the partial plan's points
pub points_shown : (m : Mission) (b : Begun) (steps : List Step) (trail : Trailed) → IsCourse m b steps trail → points_of trail ≡ (do_parts (begin m b) (parts_of steps)).points
points_shown m b steps trail c =
    omega (arith, c.first, ap grown c.parts, grown-append (map (λ c. Added c) (root_bounds m b (begin m b))) (brought_by m b (begin m b) (parts_of steps)), grown-map (root_bounds m b (begin m b)), grown-brought m b (begin m b) (parts_of steps))

-- and the schedules of its bounds
pub same_shown : (m : Mission) (b : Begun) (steps : List Step) (trail : Trailed) → MayBegin m b → AreAllowed m b (begin m b) (parts_of steps) → IsCourse m b steps trail
    → AreSame (bounds_of trail) (partial_bounds m b (do_parts (begin m b) (parts_of steps)))
same_shown m b steps trail may allowed c =
    subst (λ (l : List Bound). AreSame l (partial_bounds m b (do_parts (begin m b) (parts_of steps)))) (sym (ap added c.parts ∙ added-trail m b (parts_of steps)))
    (same_parts m b may (begin m b) (good_root m b may) (parts_of steps) allowed (root_bounds m b (begin m b)) (record { keeps = root_tells m b; tells = root_keeps m b }))

-- a kept trail gives the partial plan a schedule
pub open_shown : (m : Mission) (b : Begun) (steps : List Step) (trail : Trailed) → MayBegin m b → AreAllowed m b (begin m b) (parts_of steps) → IsCourse m b steps trail → IsKept trail
    → HasSchedule m b (do_parts (begin m b) (parts_of steps))
open_shown m b steps trail may allowed c kept = record { schedule = time_of trail.times; meets = (same_shown m b steps trail may allowed c).keeps (time_of trail.times) kept.times }

-- a part whose bounds the trail refuses has no schedule
pub shut_shown : (m : Mission) (b : Begun) (steps : List Step) (trail : Trailed) (x : Part) → MayBegin m b → AreAllowed m b (begin m b) (parts_of steps) → IsCourse m b steps trail
    → MayDo m b (do_parts (begin m b) (parts_of steps)) x → HasNoSchedule (bounds_of trail ++ kept_bounds m b (do_parts (begin m b) (parts_of steps)) x)
    → HasSchedule m b (do_part (do_parts (begin m b) (parts_of steps)) x) → ⊥
shut_shown m b steps trail x may allowed c does none has =
    let p = do_parts (begin m b) (parts_of steps) in
    let good = good_all m b (begin m b) (parts_of steps) allowed (good_root m b may) in
    let both = same_part m b may p good x does (bounds_of trail) (same_shown m b steps trail may allowed c) in
    none.none has.schedule (both.tells has.schedule has.meets)

brought-append : (m : Mission) (b : Begun) (p : Partial) (xs ys : List Part) → brought_by m b p (xs ++ ys) ≡ brought_by m b p xs ++ brought_by m b (do_parts p xs) ys
brought-append m b p [] ys = refl
brought-append m b p (x ∷ xs) ys =
    ap (λ (l : List TrailPart). parts_with (grown_by x) (kept_bounds m b p x) ++ l) (brought-append m b (do_part p x) xs ys)
    ∙ sym (append_assoc (parts_with (grown_by x) (kept_bounds m b p x)) (brought_by m b (do_part p x) xs) (brought_by m b (do_parts (do_part p x) xs) ys))

-- the trail's parts of parts in order
pub trail-append : (m : Mission) (b : Begun) (xs ys : List Part) → trail_parts m b (xs ++ ys) ≡ trail_parts m b xs ++ brought_by m b (do_parts (begin m b) xs) ys
trail-append m b xs ys =
    let root = map (λ c. Added c) (root_bounds m b (begin m b)) in
    ap (λ (l : List TrailPart). root ++ l) (brought-append m b (begin m b) xs ys) ∙ sym (append_assoc root (brought_by m b (begin m b) xs) (brought_by m b (do_parts (begin m b) xs) ys))

pub parts-push : (steps : List Step) (s : Step) → parts_of (steps ++ s ∷ []) ≡ parts_of steps ++ s.part ∷ []
parts-push steps s = map-append (λ (s : Step). s.part) steps (s ∷ [])

pub length-parts : (steps : List Step) → length (parts_of steps) ≡ length steps
length-parts [] = refl
length-parts (s ∷ steps) = ap suc (length-parts steps)

-- one part more
pub course_pushed : (m : Mission) (b : Begun) (steps steps' : List Step) (trail trail' : Trailed) (x : Part) → IsCourse m b steps trail
    → Gains (parts_with (grown_by x) (kept_bounds m b (do_parts (begin m b) (parts_of steps)) x)) trail trail' → steps' ≡ steps ++ record { part = x; mark = length trail.parts } ∷ []
    → IsCourse m b steps' trail'
course_pushed m b steps steps' trail trail' x c g e = subst (λ (l : List Step). IsCourse m b l trail') (sym e) (record {
  first = g.first ∙ c.first;
  parts =
      g.parts ∙ ap (λ (l : List TrailPart). l ++ brought) c.parts
      ∙ ap (λ (l : List TrailPart). trail_parts m b (parts_of steps) ++ l) (sym (append-nil brought))
      ∙ sym (trail-append m b (parts_of steps) (x ∷ [])) ∙ ap (trail_parts m b) (sym (parts-push steps new));
  marks = λ k s is. elim (cases_lt k (length steps)) [
    | inl old ↦
        let at : slice_get steps k ≡ Some s = sym (slice_get-append_left steps (new ∷ []) k old) ∙ is in
        let front : take k (parts_of (steps ++ new ∷ [])) ≡ take k (parts_of steps) = ap (take k) (parts-push steps new) ∙ take-append-le k (parts_of steps) (x ∷ []) (let l = length-parts steps in omega arith) in
        c.marks k s at ∙ ap (λ (l : List Part). length (trail_parts m b l)) (sym front)
    | inr now ↦
        let within = slice_get_within (steps ++ new ∷ []) k s is in
        let size = length-append steps (new ∷ []) in
        let last : k ≡ length steps = omega arith in
        let at : slice_get (new ∷ []) (k - length steps) ≡ Some s = sym (slice_get-past steps (new ∷ []) k now) ∙ is in
        let zero' : k - length steps ≡ 0 = omega arith in
        let same : Some new ≡ Some s = ap (slice_get (new ∷ [])) (sym zero') ∙ at in
        let is_new : new ≡ s = cc in
        let front : take k (parts_of (steps ++ new ∷ [])) ≡ parts_of steps =
        ap (take k) (parts-push steps new) ∙ ap (λ (n : ℕ). take n (parts_of steps ++ x ∷ [])) (last ∙ sym (length-parts steps)) ∙ take-append_seam (parts_of steps) (x ∷ []) in
        ap (λ (y : Step). y.mark) (sym is_new) ∙ ap length c.parts ∙ ap (λ (l : List Part). length (trail_parts m b l)) (sym front)
  ];
})
  where
    new : Step
    new = record { part = x; mark = length trail.parts }

    brought : List TrailPart
    brought = parts_with (grown_by x) (kept_bounds m b (do_parts (begin m b) (parts_of steps)) x)

-- one part less
pub course_back : (m : Mission) (b : Begun) (front : List Step) (s : Step) (trail trail' : Trailed) → IsCourse m b (front ++ s ∷ []) trail → Leaves s.mark trail trail' → IsCourse m b front trail'
course_back m b front s trail trail' c l = record {
  first = l.first ∙ c.first;
  parts =
      let last : slice_get (front ++ s ∷ []) (length front) ≡ Some s = slice_get-middle front s [] in
      let mark : s.mark ≡ length (trail_parts m b (parts_of front)) =
      c.marks (length front) s last ∙ ap (λ (xs : List Part). length (trail_parts m b xs)) (ap (take (length front)) (parts-push front s) ∙ ap (λ (n : ℕ). take n (parts_of front ++ s.part ∷ [])) (sym (length-parts front)) ∙ take-append_seam (parts_of front) (s.part ∷ [])) in
      l.parts ∙ ap (take s.mark) (c.parts ∙ ap (trail_parts m b) (parts-push front s) ∙ trail-append m b (parts_of front) (s.part ∷ []))
      ∙ ap (λ (n : ℕ). take n (trail_parts m b (parts_of front) ++ brought_by m b (do_parts (begin m b) (parts_of front)) (s.part ∷ []))) mark
      ∙ take-append_seam (trail_parts m b (parts_of front)) (brought_by m b (do_parts (begin m b) (parts_of front)) (s.part ∷ []));
  marks = λ k q is.
      let inside = slice_get_within front k q is in
      let at : slice_get (front ++ s ∷ []) k ≡ Some q = slice_get-append_left front (s ∷ []) k inside ∙ is in
      let same : take k (parts_of (front ++ s ∷ [])) ≡ take k (parts_of front) = ap (take k) (parts-push front s) ∙ take-append-le k (parts_of front) (s.part ∷ []) (let n = length-parts front in omega arith) in
      c.marks k q at ∙ ap (λ (xs : List Part). length (trail_parts m b xs)) same;
}
