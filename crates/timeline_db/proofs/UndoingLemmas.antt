-- What a Db knows where it takes its last part back, and what it tells.
use Rattle.std.proofs.Common.{◌≡◌, ℕ, zero, suc, ◌-◌, ◌<◌, ◌≤◌, List, [], ◌∷◌, ◌++◌, Some, length, take, get_or, slice_get, refl, sym, ap, ◌∙◌, subst, arith}
use Rattle.std.proofs.lemmas.Option.{slice_get-get_or}
use Rattle.search_tree.specs.declared.part.Part.{Part}
use Rattle.search_tree.specs.declared.part.Part.TheVariants.{Finished}
use Rattle.stn_trail.specs.Held.{Leaves}
use Rattle.timeline_db.proofs.BackLemmas.{db_back, last_mark, last_shown}
use Rattle.timeline_db.proofs.DbLemmas.{length-parts}
use Rattle.timeline_db.proofs.DoingLemmas.{IsHeldIn, begun_in, seen_in}
use Rattle.timeline_db.specs.Databases.{IsDb, parts_of}
use Rattle.timeline_db.specs.Plannings.{Planning}
use Rattle.timeline_db.specs.Taking.{Shows, TakesBack}
use Rattle.timeline_db.specs.declared.course.Step.{Step}
use Rattle.timeline_db.specs.declared.db.Db.TheInside.{Inside}
use Rattle.timeline_db.specs.declared.draft.Draft.{Draft}

-- the last element stands behind the others
pub split_last : {X : Type 0} (xs : List X) (x : X) → slice_get xs (length xs - 1) ≡ Some x → xs ≡ take (length xs - 1) xs ++ x ∷ []
split_last [] x e = absurd (cc)
split_last (y ∷ []) x e = let same : y ≡ x = cc in ap (λ z. z ∷ []) same
split_last (y ∷ z ∷ ys) x e =
    let n : length (y ∷ z ∷ ys) - 1 ≡ suc (length (z ∷ ys) - 1) = omega arith in
    let at : slice_get (z ∷ ys) (length (z ∷ ys) - 1) ≡ Some x = ap (slice_get (y ∷ z ∷ ys)) (sym n) ∙ e in
    ap (λ l. y ∷ l) (split_last (z ∷ ys) x at) ∙ ap (λ k. take k (y ∷ z ∷ ys) ++ x ∷ []) (sym n)

-- the first parts
pub parts-take : (n : ℕ) (steps : List Step) → parts_of (take n steps) ≡ take n (parts_of steps)
parts-take zero steps = refl
parts-take (suc n) [] = refl
parts-take (suc n) (s ∷ steps) = ap (λ (l : List Part). s.part ∷ l) (parts-take n steps)

-- the last one of some steps
pub some_last : (steps : List Step) → 0 < length steps → (s : Step) × (slice_get steps (length steps - 1) ≡ Some s)
some_last steps some =
    let d : Step = record { part = Finished (record { 0 = 0 }); mark = 0 } in
    (get_or steps (length steps - 1) d, slice_get-get_or steps (length steps - 1) d (omega arith))

-- the same with other parts
abbrev pub with_parts : Planning → List Part → Planning
with_parts p l = record { mission = p.mission; begun = p.begun; parts = l }

module _ (i : Inside) (d : IsHeldIn i) where
  -- a Db with its last step apart
  apart : (s : Step) → slice_get i.draft.course.steps.items (length i.draft.course.steps.items - 1) ≡ Some s
      → IsDb i.base.mission (begun_in i) i.tick i.draft.board (take (length i.draft.course.steps.items - 1) i.draft.course.steps.items ++ s ∷ []) i.draft.course.trail
  apart s at = subst (λ (l : List Step). IsDb i.base.mission (begun_in i) i.tick i.draft.board l i.draft.course.trail) (split_last i.draft.course.steps.items s at) d

  pub back_mark : (s : Step) → slice_get i.draft.course.steps.items (length i.draft.course.steps.items - 1) ≡ Some s → s.mark ≤ length i.draft.course.trail.parts
  back_mark s at = last_mark i.base.mission (begun_in i) i.tick i.draft.board (take (length i.draft.course.steps.items - 1) i.draft.course.steps.items) s i.draft.course.trail (apart s at)

  pub back_shows : (s : Step) → slice_get i.draft.course.steps.items (length i.draft.course.steps.items - 1) ≡ Some s → Shows s.part i.draft.board
  back_shows s at = last_shown i.base.mission (begun_in i) i.tick i.draft.board (take (length i.draft.course.steps.items - 1) i.draft.course.steps.items) s i.draft.course.trail (apart s at)

  -- without its last part
  pub back_in : (new : Draft) → 0 < length i.draft.course.steps.items → new.course.steps.items ≡ take (length i.draft.course.steps.items - 1) i.draft.course.steps.items
      → ((s : Step) → slice_get i.draft.course.steps.items (length i.draft.course.steps.items - 1) ≡ Some s → TakesBack s.part i.draft.board new.board)
      → ((s : Step) → slice_get i.draft.course.steps.items (length i.draft.course.steps.items - 1) ≡ Some s → Leaves s.mark i.draft.course.trail new.course.trail)
      → IsDb i.base.mission (begun_in i) i.tick new.board new.course.steps.items new.course.trail
  back_in new some steps board trail =
      let s = some_last i.draft.course.steps.items some in
      subst (λ (l : List Step). IsDb i.base.mission (begun_in i) i.tick new.board l new.course.trail) (sym steps)
      (db_back i.base.mission (begun_in i) i.tick i.draft.board (take (length i.draft.course.steps.items - 1) i.draft.course.steps.items) s.0 i.draft.course.trail (apart s.0 s.1) new.board new.course.trail (board s.0 s.1) (trail s.0 s.1))

  module _ (p : Planning) (seen : seen_in i ≡ p) where
    pub some_steps : 0 < length p.parts → 0 < length i.draft.course.steps.items
    some_steps some = let e = ap (λ (q : Planning). length q.parts) seen in let n = length-parts i.draft.course.steps.items in omega arith

    -- what its callers see of that
    pub back_view : (steps : List Step) → steps ≡ take (length i.draft.course.steps.items - 1) i.draft.course.steps.items → with_parts (seen_in i) (parts_of steps) ≡ with_parts p (take (length p.parts - 1) p.parts)
    back_view steps e =
        let old = i.draft.course.steps.items in
        let less : parts_of steps ≡ take (length (parts_of old) - 1) (parts_of old) = ap parts_of e ∙ parts-take (length old - 1) old ∙ ap (λ (n : ℕ). take (n - 1) (parts_of old)) (sym (length-parts old)) in
        ap (with_parts (seen_in i)) less ∙ ap (λ (q : Planning). with_parts q (take (length q.parts - 1) q.parts)) seen
