-- A part undone gives what was before it.
use Rattle.std.proofs.Common.{List, None, Option, Some, [], ap, arith, false, length, map, refl, set, slice_get, suc, sym, take, zero, ℕ, ◌++◌, ◌+◌, ◌-◌, ◌∙◌, ◌∷◌, ◌≡◌, ◌≤◌}
use Rattle.std.specs.Prelude.{insert, remove}
use Rattle.hs_base.specs.declared.mission.Mission.{Mission}
use Rattle.hs_base.specs.declared.plan.TokenRef.{TokenRef}
use Rattle.search_tree.proofs.CellLemmas.{given_cell, length-cells, length-map', slice_get-past}
use Rattle.search_tree.proofs.PartLemmas.{shut}
use Rattle.search_tree.specs.Begun.{Begun}
use Rattle.search_tree.specs.May.{MayDo}
use Rattle.search_tree.specs.Partial.{Partial, Row}
use Rattle.search_tree.specs.Parts.{at_place, close, do_part, end_row, put}
use Rattle.search_tree.specs.Undo.{go_on, part_at, take_out, undo_part}
use Rattle.search_tree.specs.declared.held.Cell.{Cell}
use Rattle.search_tree.specs.declared.part.Part.{Part}
use Rattle.search_tree.specs.declared.part.Part.TheVariants.{Deferred, Finished, Followed, Inserted, Joined, MetGoal, Supported}

pub remove-insert : {X : Type 0} (xs : List X) (k : ℕ) (x : X) → k ≤ length xs → remove (insert xs k x) k ≡ xs
remove-insert [] zero x below = refl
remove-insert [] (suc k) x below = absurd (omega arith)
remove-insert (y ∷ ys) zero x below = refl
remove-insert (y ∷ ys) (suc k) x below = ap (λ l. y ∷ l) (remove-insert ys k x (omega arith))

twice : {X : Type 0} (f g : X → X) (v : ℕ) (xs : List X) (x : X) → slice_get xs v ≡ Some x → g (f x) ≡ x → at_place g v (at_place f v xs) ≡ xs
twice f g v [] x is e = refl
twice f g zero (y ∷ xs) x is e = let same : y ≡ x = cc in ap (λ z. z ∷ xs) (ap (λ z. g (f z)) same ∙ e ∙ sym same)
twice f g (suc v) (y ∷ xs) x is e = ap (λ l. y ∷ l) (twice f g v xs x is e)

no_less : (n k : ℕ) → (n + k) - k ≡ n
no_less n k = omega arith

take_back : {X : Type 0} (xs : List X) (x : X) → take (length (xs ++ x ∷ []) - 1) (xs ++ x ∷ []) ≡ xs
take_back [] x = refl
take_back (y ∷ []) x = refl
take_back (y ∷ z ∷ ys) x =
    let e : length (y ∷ z ∷ (ys ++ x ∷ [])) - 1 ≡ suc (length (z ∷ (ys ++ x ∷ [])) - 1) = omega arith in
    ap (λ n. take n (y ∷ z ∷ (ys ++ x ∷ []))) e ∙ ap (λ l. y ∷ l) (take_back (z ∷ ys) x)

unset : {X : Type 0} (os : List (Option X)) (g : ℕ) (x : X) → slice_get os g ≡ Some None → set (set os g (Some x)) g None ≡ os
unset [] g x is = absurd (cc)
unset (o ∷ os) zero x is = let same : o ≡ None = cc in ap (λ z. z ∷ os) (sym same)
unset (o ∷ os) (suc g) x is = ap (λ l. o ∷ l) (unset os g x is)

remade : (p q : Partial) → p.rows ≡ q.rows → p.supports ≡ q.supports → p.goals ≡ q.goals → p.deferred ≡ q.deferred → p.points ≡ q.points → p ≡ q
remade p q a b c d e = ap (λ x. record { rows = x; supports = p.supports; goals = p.goals; deferred = p.deferred; points = p.points }) a ∙ ap (λ x. record { rows = q.rows; supports = x; goals = p.goals; deferred = p.deferred; points = p.points }) b ∙ ap (λ x. record { rows = q.rows; supports = q.supports; goals = x; deferred = p.deferred; points = p.points }) c ∙ ap (λ x. record { rows = q.rows; supports = q.supports; goals = q.goals; deferred = x; points = p.points }) d ∙ ap (λ x. record { rows = q.rows; supports = q.supports; goals = q.goals; deferred = q.deferred; points = x }) e

put_back : (i : ℕ) (c : Cell) (r : Row) → suc i - length r.given ≤ length r.added → take_out i (put i c r) ≡ r
put_back i c r below = ap (λ l. record { given = r.given; added = l; finished = r.finished }) (remove-insert r.added (suc i - length r.given) c below)

abbrev parted : Cell → Cell
parted c = record { held = c.held; joined = false }

shut_apart : (k : ℕ) (cs : List Cell) (d : Cell) → slice_get cs k ≡ Some d → d.joined ≡ false → at_place parted k (at_place shut k cs) ≡ cs
shut_apart k cs d is gap = twice shut parted k cs d is (ap (λ j. record { held = d.held; joined = j }) (sym gap))

module _ (p : Partial) where
  pub undo_insert : (v i value : ℕ) (r : Row) → slice_get p.rows v ≡ Some r → suc i - length r.given ≤ length r.added → undo_part (do_part p (Inserted (record { 0 = v }) i (record { 0 = value }))) (Inserted (record { 0 = v }) i (record { 0 = value })) ≡ p
  undo_insert v i value r is below = remade _ p (twice (put i _) (take_out i) v p.rows r is (put_back i _ r below)) refl refl refl (no_less p.points 2)

  pub undo_follow : (v i value : ℕ) (r : Row) → slice_get p.rows v ≡ Some r → suc i - length r.given ≤ length r.added → undo_part (do_part p (Followed (record { 0 = v }) i (record { 0 = value }))) (Followed (record { 0 = v }) i (record { 0 = value })) ≡ p
  undo_follow v i value r is below = remade _ p (twice (put i _) (take_out i) v p.rows r is (put_back i _ r below)) refl refl refl (no_less p.points 1)

  pub undo_join : (v i : ℕ) (r : Row) (d : Cell) → slice_get p.rows v ≡ Some r → slice_get r.added (suc i - length r.given) ≡ Some d → d.joined ≡ false → undo_part (do_part p (Joined (record { 0 = v }) i)) (Joined (record { 0 = v }) i) ≡ p
  undo_join v i r d is here gap = remade _ p (twice (close i) (part_at i) v p.rows r is (ap (λ l. record { given = r.given; added = l; finished = r.finished }) (shut_apart (suc i - length r.given) r.added d here gap))) refl refl refl (no_less p.points 0)

  pub undo_finish : (v : ℕ) (r : Row) → slice_get p.rows v ≡ Some r → r.finished ≡ false → undo_part (do_part p (Finished (record { 0 = v }))) (Finished (record { 0 = v })) ≡ p
  undo_finish v r is yet = remade _ p (twice end_row go_on v p.rows r is (ap (λ f. record { given = r.given; added = r.added; finished = f }) (sym yet))) refl refl refl (no_less p.points 0)

  pub undo_support : (t : TokenRef) (i : ℕ) (by : TokenRef) → undo_part (do_part p (Supported t i by)) (Supported t i by) ≡ p
  undo_support t i by = remade _ p refl (take_back p.supports _) refl refl refl

  pub undo_goal : (g : ℕ) (by : TokenRef) → slice_get p.goals g ≡ Some None → undo_part (do_part p (MetGoal g by)) (MetGoal g by) ≡ p
  undo_goal g by is = remade _ p refl refl (unset p.goals g _ is) refl refl

  pub undo_defer : (t : TokenRef) (i : ℕ) → undo_part (do_part p (Deferred t i)) (Deferred t i) ≡ p
  undo_defer t i = remade _ p refl refl refl (take_back p.deferred _) refl

module _ (m : Mission) (b : Begun) (p : Partial) where
  -- a part that was done is undone
  pub undo_done : (x : Part) → MayDo m b p x → undo_part (do_part p x) x ≡ p
  undo_done (Inserted v i value) h = let e = length-cells h.row in let s = h.slot.place in undo_insert p v.0 i value.0 h.row h.is_row (omega arith)
  undo_done (Followed v i value) h = let e = length-cells h.insert.row in let s = h.insert.slot.place in undo_follow p v.0 i value.0 h.insert.row h.insert.is_row (omega arith)
  undo_done (Joined v i) h =
      let e = length-map' given_cell h.row.given in
      let after = h.after in
      let there : slice_get h.row.added (suc i - length (map given_cell h.row.given)) ≡ Some h.cell = sym (slice_get-past (map given_cell h.row.given) h.row.added (suc i) (omega arith)) ∙ h.here in
      undo_join p v.0 i h.row h.cell h.is_row (ap (λ n. slice_get h.row.added (suc i - n)) (sym e) ∙ there) h.gap
  undo_done (Finished v) h = undo_finish p v.0 h.row h.is_row h.yet
  undo_done (Supported t i by) h = undo_support p t i by
  undo_done (MetGoal g by) h = undo_goal p g by h.yet
  undo_done (Deferred t i) h = undo_defer p t i
