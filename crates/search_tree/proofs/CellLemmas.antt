-- The tokens of rows.
use Rattle.std.proofs.Common.{List, Some, [], ap, arith, length, length-append, map, refl, slice_get, subst, suc, sym, true, zero, ℕ, ◌++◌, ◌+◌, ◌-◌, ◌<◌, ◌∙◌, ◌∷◌, ◌≡◌, ◌≤◌}
use Rattle.std.proofs.lemmas.Option.{get_or_from_slice_get, slice_get-map}
use Rattle.std.specs.List.{AllByRecursion}
use Rattle.std.specs.Prelude.{option_map}
use Rattle.hs_base.specs.Points.{count, ending, horizon, place_of, points_of, start_at, timeline_of, tokens_of}
use Rattle.hs_base.specs.declared.mission.Kind.{Kind}
use Rattle.hs_base.specs.declared.plan.Extension.{Extension}
use Rattle.base_laws.proofs.PointLemmas.{named, points-push}
use Rattle.search_tree.specs.Begun.{Begun, stub}
use Rattle.search_tree.specs.Partial.{Partial, Row, cells, held_at, held_from, row}
use Rattle.search_tree.specs.Sound.{AreRows, IsRow}
use Rattle.search_tree.specs.declared.held.Cell.{Cell}
use Rattle.search_tree.specs.declared.held.Held.{Held}

abbrev pub given_cell : Held → Cell
given_cell h = record { held = h; joined = true }

pub row_at : (b : Begun) (w i : ℕ) (rs : List Row) (r : Row) → AreRows b w rs → slice_get rs i ≡ Some r → IsRow b (w + i) r
row_at b w i [] r h is = absurd (cc)
row_at b w zero (q ∷ rs) r h is =
    let same : q ≡ r = cc in
    let here : w ≡ w + 0 = omega arith in
    subst (λ n. IsRow b n r) here (subst (IsRow b w) same h.0)
row_at b w (suc i) (q ∷ rs) r h is =
    let there : suc w + i ≡ w + suc i = omega arith in
    subst (λ n. IsRow b n r) there (row_at b (suc w) i rs r h.1 is)

pub held_kinds : (b : Begun) (v i : ℕ) (ks : List Kind) → map (λ (h : Held). h.kind) (held_from b v i ks) ≡ ks
held_kinds b v i [] = refl
held_kinds b v i (k ∷ ks) = ap (λ l. k ∷ l) (held_kinds b v (suc i) ks)

-- the end before the i-th cell
abbrev pub stop_before : ℕ → List Cell → ℕ → ℕ
stop_before x cs zero = x
stop_before x [] (suc i) = x
stop_before x (c ∷ cs) (suc i) = stop_before c.held.stop cs i

pub before_is : (x : ℕ) (cs : List Cell) (i : ℕ) (d : Cell) → slice_get cs i ≡ Some d → stop_before x cs (suc i) ≡ d.held.stop
before_is x [] i d is = absurd (cc)
before_is x (c ∷ cs) zero d is = let same : c ≡ d = cc in ap (λ (y : Cell). y.held.stop) same
before_is x (c ∷ cs) (suc i) d is = before_is c.held.stop cs i d is

pub some_before : {X : Type 0} (xs : List X) (i : ℕ) (x : X) → slice_get xs (suc i) ≡ Some x → (y : X) × (slice_get xs i ≡ Some y)
some_before [] i x is = absurd (cc)
some_before (y ∷ xs) zero x is = (y, refl)
some_before (y ∷ xs) (suc i) x is = some_before xs i x is

pub held_from_at : (b : Begun) (v j i : ℕ) (ks : List Kind) (h : Held) → slice_get (held_from b v j ks) i ≡ Some h → (h.stop ≡ place_of (ending v (j + i)) (points_of b.base))
held_from_at b v j i [] h is = absurd (cc)
held_from_at b v j zero (k ∷ ks) h is =
    let here : j + 0 ≡ j = omega arith in
    let same : record { kind = k; start = start_at b.base v j; stop = place_of (ending v j) (points_of b.base) } ≡ h = cc in
    ap (λ (y : Held). y.stop) (sym same) ∙ ap (λ n. place_of (ending v n) (points_of b.base)) (sym here)
held_from_at b v j (suc i) (k ∷ ks) h is =
    let there : j + suc i ≡ suc j + i = omega arith in
    held_from_at b v (suc j) i ks h is ∙ ap (λ n. place_of (ending v n) (points_of b.base)) (sym there)

pub held_from_start : (b : Begun) (v j i : ℕ) (ks : List Kind) (h : Held) → slice_get (held_from b v j ks) i ≡ Some h → h.start ≡ start_at b.base v (j + i)
held_from_start b v j i [] h is = absurd (cc)
held_from_start b v j zero (k ∷ ks) h is =
    let here : j + 0 ≡ j = omega arith in
    let same : record { kind = k; start = start_at b.base v j; stop = place_of (ending v j) (points_of b.base) } ≡ h = cc in
    ap (λ (y : Held). y.start) (sym same) ∙ ap (start_at b.base v) (sym here)
held_from_start b v j (suc i) (k ∷ ks) h is =
    let there : j + suc i ≡ suc j + i = omega arith in
    held_from_start b v (suc j) i ks h is ∙ ap (start_at b.base v) (sym there)

pub start_at_below : (es : List Extension) (v i : ℕ) → i ≤ length (timeline_of (tokens_of es) v) → start_at es v i < count es
start_at_below es v zero inside = omega arith
start_at_below es v (suc i) inside = (named es).ends_there v i (omega arith)

pub length-held : (b : Begun) (v i : ℕ) (ks : List Kind) → length (held_from b v i ks) ≡ length ks
length-held b v i [] = refl
length-held b v i (k ∷ ks) = ap suc (length-held b v (suc i) ks)

pub length-map' : {X Y : Type 0} (f : X → Y) (xs : List X) → length (map f xs) ≡ length xs
length-map' f [] = refl
length-map' f (x ∷ xs) = ap suc (length-map' f xs)

pub slice_get-map_some : {X Y : Type 0} (f : X → Y) (xs : List X) (i : ℕ) (y : Y) → slice_get (map f xs) i ≡ Some y → (x : X) × (slice_get xs i ≡ Some x) × (f x ≡ y)
slice_get-map_some f [] i y is = absurd (cc)
slice_get-map_some f (x ∷ xs) zero y is = (x, refl, cc)
slice_get-map_some f (x ∷ xs) (suc i) y is = slice_get-map_some f xs i y is

pub stub_count : (b : Begun) → count (stub b) ≡ suc (count b.base)
stub_count b = ap length (points-push b.base _) ∙ length-append (points_of b.base) (horizon (length b.base + 1) ∷ []) ∙ (omega arith)

-- the token at a place
pub held_is : (p : Partial) (v i : ℕ) (r : Row) (c : Cell) → slice_get p.rows v ≡ Some r → slice_get (cells r) i ≡ Some c → held_at p v i ≡ c.held
held_is p v i r c is here =
    let row_is : row p v ≡ r = get_or_from_slice_get p.rows v r _ is in
    rw row_is (get_or_from_slice_get (map (λ (c : Cell). c.held) (cells r)) i c.held _ (slice_get-map (λ (c : Cell). c.held) (cells r) i ∙ ap (option_map (λ (c : Cell). c.held)) here))

-- a place in the second part
pub slice_get-past : {X : Type 0} (xs ys : List X) (i : ℕ) → length xs ≤ i → slice_get (xs ++ ys) i ≡ slice_get ys (i - length xs)
slice_get-past [] ys i h = ap (slice_get ys) (omega arith)
slice_get-past (x ∷ xs) ys zero h = absurd (omega arith)
slice_get-past (x ∷ xs) ys (suc i) h = slice_get-past xs ys i (omega arith) ∙ ap (slice_get ys) (omega arith)

pub length-cells : (r : Row) → length (cells r) ≡ length r.given + length r.added
length-cells r = length-append (map given_cell r.given) r.added ∙ ap (λ n. n + length r.added) (length-map' given_cell r.given)

-- what is shown at each place holds of each
pub each_from_at : {X : Type 0} (P : X → Type 0) (xs : List X) → ((i : ℕ) (x : X) → slice_get xs i ≡ Some x → P x) → AllByRecursion P xs
each_from_at P [] f = tt
each_from_at P (x ∷ xs) f = (f 0 x refl, each_from_at P xs (λ i y is. f (suc i) y is))
