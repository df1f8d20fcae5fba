-- How the row of a partial plan changes with the row that the code keeps.
use Rattle.std.proofs.Common.{◌≡◌, ℕ, zero, suc, ◌-◌, ◌≤◌, Bool, true, false, List, [], ◌∷◌, ◌++◌, length, take, drop, insert, remove, map, set, get_or, refl, sym, ap, ◌∙◌, arith}
use Rattle.std.specs.List.{AllByRecursion}
use Rattle.search_tree.specs.Partial.{Row, cells}
use Rattle.search_tree.specs.Parts.{at_place, put, close}
use Rattle.search_tree.specs.Undo.{take_out, part_at}
use Rattle.search_tree.specs.declared.held.Cell.{Cell}
use Rattle.search_tree.specs.declared.held.Held.{Held}
use Rattle.timeline_db.specs.Lines.{Shown, cell_of, row_of, nothing_held, with_joined, with_unmet}
use Rattle.timeline_db.specs.declared.token.Token.{Token}

pub take-insert : {X : Type 0} (xs : List X) (g k : ℕ) (x : X) → g ≤ k → k ≤ length xs → take g (insert xs k x) ≡ take g xs
take-insert xs zero k x h l = refl
take-insert [] (suc g) k x h l = absurd (omega arith)
take-insert (y ∷ xs) (suc g) zero x h l = absurd (omega arith)
take-insert (y ∷ xs) (suc g) (suc k) x h l = ap (λ ys. y ∷ ys) (take-insert xs g k x (omega arith) (omega arith))

map-insert : {X Y : Type 0} (f : X → Y) (x : X) (xs : List X) (k : ℕ) → map f (insert xs k x) ≡ insert (map f xs) k (f x)
map-insert f x [] zero = refl
map-insert f x [] (suc k) = refl
map-insert f x (y ∷ xs) zero = refl
map-insert f x (y ∷ xs) (suc k) = ap (λ ys. f y ∷ ys) (map-insert f x xs k)

drop-insert : {X Y : Type 0} (f : X → Y) (xs : List X) (g k : ℕ) (x : X) → g ≤ k → k ≤ length xs → map f (drop g (insert xs k x)) ≡ insert (map f (drop g xs)) (k - g) (f x)
drop-insert f xs zero k x h l = let e : k ≡ k - 0 = omega arith in map-insert f x xs k ∙ ap (λ n. insert (map f xs) n (f x)) e
drop-insert f [] (suc g) k x h l = absurd (omega arith)
drop-insert f (y ∷ xs) (suc g) zero x h l = absurd (omega arith)
drop-insert f (y ∷ xs) (suc g) (suc k) x h l = let e : suc k - suc g ≡ k - g = omega arith in drop-insert f xs g k x (omega arith) (omega arith) ∙ ap (λ n. insert (map f (drop g xs)) n (f x)) (sym e)

remove-nil : {X : Type 0} (k : ℕ) → remove {X = X} [] k ≡ []
remove-nil zero = refl
remove-nil (suc k) = refl

pub take-remove : {X : Type 0} (xs : List X) (g k : ℕ) → g ≤ k → take g (remove xs k) ≡ take g xs
take-remove xs zero k h = refl
take-remove [] (suc g) k h = ap (take (suc g)) (remove-nil k)
take-remove (y ∷ xs) (suc g) zero h = absurd (omega arith)
take-remove (y ∷ xs) (suc g) (suc k) h = ap (λ ys. y ∷ ys) (take-remove xs g k (omega arith))

map-remove : {X Y : Type 0} (f : X → Y) (xs : List X) (k : ℕ) → map f (remove xs k) ≡ remove (map f xs) k
map-remove f [] k = ap (map f) (remove-nil k) ∙ sym (remove-nil k)
map-remove f (y ∷ xs) zero = refl
map-remove f (y ∷ xs) (suc k) = ap (λ ys. f y ∷ ys) (map-remove f xs k)

drop-remove : {X Y : Type 0} (f : X → Y) (xs : List X) (g k : ℕ) → g ≤ k → map f (drop g (remove xs k)) ≡ remove (map f (drop g xs)) (k - g)
drop-remove f xs zero k h = let e : k ≡ k - 0 = omega arith in map-remove f xs k ∙ ap (λ n. remove (map f xs) n) e
drop-remove f [] (suc g) k h = ap (λ ys. map f (drop (suc g) ys)) (remove-nil k) ∙ sym (remove-nil (k - suc g))
drop-remove f (y ∷ xs) (suc g) zero h = absurd (omega arith)
drop-remove f (y ∷ xs) (suc g) (suc k) h = let e : suc k - suc g ≡ k - g = omega arith in drop-remove f xs g k (omega arith) ∙ ap (λ n. remove (map f (drop g xs)) n) (sym e)

take-set : {X Y : Type 0} (f : X → Y) (xs : List X) (g k : ℕ) (x d : X) → f x ≡ f (get_or xs k d) → map f (take g (set xs k x)) ≡ map f (take g xs)
take-set f xs zero k x d e = refl
take-set f [] (suc g) zero x d e = refl
take-set f [] (suc g) (suc k) x d e = refl
take-set f (y ∷ xs) (suc g) zero x d e = ap (λ z. z ∷ map f (take g xs)) e
take-set f (y ∷ xs) (suc g) (suc k) x d e = ap (λ ys. f y ∷ ys) (take-set f xs g k x d e)

map-set : {X Y : Type 0} (f : X → Y) (h : Y → Y) (x d : X) (xs : List X) (k : ℕ) → f x ≡ h (f (get_or xs k d)) → map f (set xs k x) ≡ at_place h k (map f xs)
map-set f h x d [] zero e = refl
map-set f h x d [] (suc k) e = refl
map-set f h x d (y ∷ xs) zero e = ap (λ z. z ∷ map f xs) e
map-set f h x d (y ∷ xs) (suc k) e = ap (λ ys. f y ∷ ys) (map-set f h x d xs k e)

drop-set : {X Y : Type 0} (f : X → Y) (h : Y → Y) (xs : List X) (g k : ℕ) (x d : X) → g ≤ k → f x ≡ h (f (get_or xs k d)) → map f (drop g (set xs k x)) ≡ at_place h (k - g) (map f (drop g xs))
drop-set f h xs zero k x d l e = let s : k ≡ k - 0 = omega arith in map-set f h x d xs k e ∙ ap (λ n. at_place h n (map f xs)) s
drop-set f h [] (suc g) zero x d l e = absurd (omega arith)
drop-set f h [] (suc g) (suc k) x d l e = refl
drop-set f h (y ∷ xs) (suc g) zero x d l e = absurd (omega arith)
drop-set f h (y ∷ xs) (suc g) (suc k) x d l e = let s : suc k - suc g ≡ k - g = omega arith in drop-set f h xs g k x d (omega arith) e ∙ ap (λ n. at_place h n (map f (drop g xs))) (sym s)

-- a change that keeps what f sees
still-map : {X Y : Type 0} (f : X → Y) (x d : X) (xs : List X) (k : ℕ) → f x ≡ f (get_or xs k d) → map f (set xs k x) ≡ map f xs
still-map f x d [] zero e = refl
still-map f x d [] (suc k) e = refl
still-map f x d (y ∷ xs) zero e = ap (λ z. z ∷ map f xs) e
still-map f x d (y ∷ xs) (suc k) e = ap (λ ys. f y ∷ ys) (still-map f x d xs k e)

still-set : {X Y : Type 0} (f : X → Y) (xs : List X) (g k : ℕ) (x d : X) → f x ≡ f (get_or xs k d) → map f (drop g (set xs k x)) ≡ map f (drop g xs)
still-set f xs zero k x d e = still-map f x d xs k e
still-set f [] (suc g) zero x d e = refl
still-set f [] (suc g) (suc k) x d e = refl
still-set f (y ∷ xs) (suc g) zero x d e = refl
still-set f (y ∷ xs) (suc g) (suc k) x d e = still-set f xs g k x d e

-- a row has as many given tokens as its line
pub given_length : (s : Shown) → s.given ≤ length s.tokens → length (row_of s).given ≡ s.given
given_length s h = by s.tokens s.given h
  where
    by : (ts : List Token) (g : ℕ) → g ≤ length ts → length (map (λ (t : Token). t.held) (take g ts)) ≡ g
    by ts zero h = refl
    by [] (suc g) h = absurd (omega arith)
    by (t ∷ ts) (suc g) h = ap suc (by ts g (omega arith))

module _ (s : Shown) (within : s.given ≤ length s.tokens) (i : ℕ) (after : s.given ≤ suc i) where
  -- a token is put in
  pub row-put : (t : Token) → suc i ≤ length s.tokens → row_of (record s { tokens = insert s.tokens (suc i) t }) ≡ put i (cell_of t) (row_of s)
  row-put t h =
      let a = ap (λ (ts : List Token). map (λ (t : Token). t.held) ts) (take-insert s.tokens s.given (suc i) t after h) in
      let b = drop-insert cell_of s.tokens s.given (suc i) t after h ∙ ap (λ n. insert (map cell_of (drop s.given s.tokens)) (suc i - n) (cell_of t)) (sym (given_length s within)) in
      ap (λ (g : List Held). let r : Row = record { given = g; added = map cell_of (drop s.given (insert s.tokens (suc i) t)); finished = s.finished } in r) a
      ∙ ap (λ (cs : List Cell). let r : Row = record { given = (row_of s).given; added = cs; finished = s.finished } in r) b

  -- a token is taken out
  pub row-take_out : row_of (record s { tokens = remove s.tokens (suc i) }) ≡ take_out i (row_of s)
  row-take_out =
      let a = ap (λ (ts : List Token). map (λ (t : Token). t.held) ts) (take-remove s.tokens s.given (suc i) after) in
      let b = drop-remove cell_of s.tokens s.given (suc i) after ∙ ap (λ n. remove (map cell_of (drop s.given s.tokens)) (suc i - n)) (sym (given_length s within)) in
      ap (λ (g : List Held). let r : Row = record { given = g; added = map cell_of (drop s.given (remove s.tokens (suc i))); finished = s.finished } in r) a
      ∙ ap (λ (cs : List Cell). let r : Row = record { given = (row_of s).given; added = cs; finished = s.finished } in r) b

  row-joined : (j : Bool) → row_of (with_joined (suc i) j s) ≡ record { given = (row_of s).given; added = at_place (λ (c : Cell). record { held = c.held; joined = j }) (suc i - length (row_of s).given) (row_of s).added; finished = s.finished }
  row-joined j =
      let t : Token = record (get_or s.tokens (suc i) nothing_held) { joined = j } in
      let a = take-set (λ (t : Token). t.held) s.tokens s.given (suc i) t nothing_held refl in
      let b = drop-set cell_of (λ (c : Cell). record { held = c.held; joined = j }) s.tokens s.given (suc i) t nothing_held after refl ∙ ap (λ n. at_place (λ (c : Cell). record { held = c.held; joined = j }) (suc i - n) (map cell_of (drop s.given s.tokens))) (sym (given_length s within)) in
      ap (λ (g : List Held). let r : Row = record { given = g; added = map cell_of (drop s.given (set s.tokens (suc i) t)); finished = s.finished } in r) a
      ∙ ap (λ (cs : List Cell). let r : Row = record { given = (row_of s).given; added = cs; finished = s.finished } in r) b

  -- a gap is closed, or opened again
  pub row-close : row_of (with_joined (suc i) true s) ≡ close i (row_of s)
  row-close = row-joined true

  pub row-part : row_of (with_joined (suc i) false s) ≡ part_at i (row_of s)
  row-part = row-joined false

-- needs are no part of the row
pub row-unmet : (s : Shown) (i n : ℕ) → row_of (with_unmet i n s) ≡ row_of s
row-unmet s i n =
    let t : Token = record (get_or s.tokens i nothing_held) { unmet = n } in
    let a = take-set (λ (t : Token). t.held) s.tokens s.given i t nothing_held refl in
    let b = still-set cell_of s.tokens s.given i t nothing_held refl in
    ap (λ (g : List Held). let r : Row = record { given = g; added = map cell_of (drop s.given (set s.tokens i t)); finished = s.finished } in r) a
    ∙ ap (λ (cs : List Cell). let r : Row = record { given = (row_of s).given; added = cs; finished = s.finished } in r) b

-- one row is changed
pub rows-set : (rows : List Shown) (v : ℕ) (s d : Shown) (f : Row → Row) → row_of s ≡ f (row_of (get_or rows v d)) → map row_of (set rows v s) ≡ at_place f v (map row_of rows)
rows-set [] v s d f e = refl
rows-set (r ∷ rows) zero s d f e = ap (λ (x : Row). x ∷ map row_of rows) e
rows-set (r ∷ rows) (suc v) s d f e = ap (λ (xs : List Row). row_of r ∷ xs) (rows-set rows v s d f e)

-- or none
pub rows-still : (rows : List Shown) (v : ℕ) (s d : Shown) → row_of s ≡ row_of (get_or rows v d) → map row_of (set rows v s) ≡ map row_of rows
rows-still [] v s d e = refl
rows-still (r ∷ rows) zero s d e = ap (λ (x : Row). x ∷ map row_of rows) e
rows-still (r ∷ rows) (suc v) s d e = ap (λ (xs : List Row). row_of r ∷ xs) (rows-still rows v s d e)

-- the cells of a row, where the tokens of the plan that is extended are joined
pub cells-row : (s : Shown) → AllByRecursion (λ (t : Token). t.joined ≡ true) (take s.given s.tokens) → cells (row_of s) ≡ map cell_of s.tokens
cells-row s h = by s.tokens s.given h
  where
    by : (ts : List Token) (g : ℕ) → AllByRecursion (λ (t : Token). t.joined ≡ true) (take g ts) → map (λ (x : Held). let c : Cell = record { held = x; joined = true } in c) (map (λ (t : Token). t.held) (take g ts)) ++ map cell_of (drop g ts) ≡ map cell_of ts
    by ts zero h = refl
    by [] (suc g) h = refl
    by (t ∷ ts) (suc g) h =
        ap (λ (cs : List Cell). let c : Cell = record { held = t.held; joined = true } in c ∷ cs) (by ts g h.1)
        ∙ ap (λ (j : Bool). let c : Cell = record { held = t.held; joined = j } in c ∷ map cell_of ts) (sym h.0)
