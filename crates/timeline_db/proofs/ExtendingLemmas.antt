-- The extension of a partial plan, from its tokens, supports and goals as the code keeps them.
use Rattle.std.proofs.Common.{◌≡◌, ℕ, ℤ, zero, suc, ◌+◌, ◌-◌, ◌<◌, ◌≤◌, Bool, true, false, nat_eq, ◌&&◌, List, [], ◌∷◌, ◌++◌, append-nil, Some, cond, length, take, drop, filter, flat_map, map, slice_get, refl, sym, ap, ◌∙◌, inl, inr, arith}
use Rattle.std.proofs.lemmas.Bool.{and_parts, cases_Bool, cases_eq, eq-eqb, eqb-true, false≢true, ne_eqb}
use Rattle.std.proofs.lemmas.List.{append_assoc, flat_map_more, get_or_past, take_more}
use Rattle.std.proofs.lemmas.List.Elements.{filter-append}
use Rattle.std.proofs.lemmas.Option.{get_or_from_slice_get, slice_get-get_or, slice_get-map, slice_get_within}
use Rattle.std.specs.List.{AllByRecursion, list_any}
use Rattle.std.specs.Prelude.{get_or, option_map}
use Rattle.hs_base.specs.Bounds.{on_some}
use Rattle.hs_base.specs.Checked.{supports_of}
use Rattle.hs_base.specs.Needs.{needs_of}
use Rattle.hs_base.specs.Points.{ending, place_of, points_of, stop, timeline_of, tokens_of}
use Rattle.hs_base.specs.Schedule.{numbers_from}
use Rattle.hs_base.specs.declared.mission.Kind.{Kind}
use Rattle.hs_base.specs.declared.mission.Mission.{Mission}
use Rattle.hs_base.specs.declared.plan.Extension.{Extension}
use Rattle.hs_base.specs.declared.plan.Support.{Support}
use Rattle.hs_base.specs.declared.plan.Time.{Time}
use Rattle.hs_base.specs.declared.plan.TokenRef.{TokenRef}
use Rattle.base_laws.proofs.ListLemmas.{each_both, each_weaker, slice_get-append_left}
use Rattle.search_tree.proofs.CellLemmas.{given_cell, held_from_at, held_kinds, length-held, length-map', row_at, slice_get-map_some}
use Rattle.search_tree.proofs.RootLemmas.{each_number}
use Rattle.search_tree.specs.Begun.{Begun}
use Rattle.search_tree.specs.Extends.{extension, place_in, ref_of, supports_at}
use Rattle.search_tree.specs.Flaws.{flat_map_from}
use Rattle.search_tree.specs.May.{MayDo}
use Rattle.search_tree.specs.Partial.{Partial, Row, begin, cells, held_by, held_from, no_row, row}
use Rattle.search_tree.specs.Parts.{do_part, do_parts}
use Rattle.search_tree.specs.declared.backing.Backing.{Backing}
use Rattle.search_tree.specs.declared.held.Cell.{Cell}
use Rattle.search_tree.specs.declared.held.Held.{Held}
use Rattle.search_tree.specs.declared.part.Part.{Part}
use Rattle.search_tree.specs.declared.part.Part.TheVariants.{Deferred, Finished, Followed, Inserted, Joined, MetGoal, Supported}
use Rattle.stn_trail.specs.Held.{Held as Trailed}
use Rattle.token_net.proofs.ItemLemmas.{numbers_more}
use Rattle.timeline_db.proofs.FewLemmas.{good_db, line_db, row_db, size_db}
use Rattle.timeline_db.proofs.OutsetLemmas.{base_serves, needs_served}
use Rattle.timeline_db.proofs.PictureLemmas.{cells-row}
use Rattle.timeline_db.proofs.StepLemmas.{given_shown}
use Rattle.timeline_db.specs.Boards.{pictured}
use Rattle.timeline_db.specs.Databases.{IsDb, parts_of}
use Rattle.timeline_db.specs.Extending.{AreShort, late_supports, named_from}
use Rattle.search_laws.specs.Good.{AreAllowed}
use Rattle.timeline_db.specs.Lines.{Shown, cell_of, row_of}
use Rattle.timeline_db.specs.Tracked.{IsLine}
use Rattle.timeline_db.specs.declared.board.Board.{Board}
use Rattle.timeline_db.specs.declared.course.Step.{Step}
use Rattle.timeline_db.specs.declared.token.Token.{Token}
use Rattle.timeline_db.proofs.SettleLemmas.{or_none}

-- the rest of a list begins with the element of that place
pub drop_at : {X : Type 0} (xs : List X) (i : ℕ) (x : X) → slice_get xs i ≡ Some x → drop i xs ≡ x ∷ drop (suc i) xs
drop_at [] i x is = absurd (cc)
drop_at (y ∷ xs) zero x is = let same : y ≡ x = cc in ap (λ z. z ∷ xs) same
drop_at (y ∷ xs) (suc i) x is = drop_at xs i x is

-- and there is none behind the last place
pub drop_past : {X : Type 0} (xs : List X) (i : ℕ) → length xs ≤ i → drop i xs ≡ []
drop_past [] zero h = refl
drop_past [] (suc i) h = refl
drop_past (x ∷ xs) zero h = absurd (omega arith)
drop_past (x ∷ xs) (suc i) h = drop_past xs i (omega arith)

-- what was read of a list is there
pub seen_at : {X : Type 0} (read xs : List X) (i : ℕ) (x : X) → read ≡ xs → i < length read → x ≡ get_or read i x → slice_get xs i ≡ Some x
seen_at read xs i x same below is = ap (λ (l : List _). slice_get l i) (sym same) ∙ slice_get-get_or read i x below ∙ ap Some (sym is)

-- the token of a place ends at the point, or it is a later one
pub place_found : (x : ℕ) (ts : List Token) (i : ℕ) (t : Token) → slice_get ts i ≡ Some t → t.held.stop ≡ x → place_in x i (map cell_of (drop i ts)) ≡ i
place_found x ts i t is here = ap (λ (l : List Token). place_in x i (map cell_of l)) (drop_at ts i t is) ∙ ap (λ (b : Bool). cond b i (place_in x (suc i) (map cell_of (drop (suc i) ts)))) (eq-eqb t.held.stop x here)

pub place_later : (x : ℕ) (ts : List Token) (i : ℕ) (t : Token) → slice_get ts i ≡ Some t → nat_eq t.held.stop x ≡ false → place_in x i (map cell_of (drop i ts)) ≡ place_in x (suc i) (map cell_of (drop (suc i) ts))
place_later x ts i t is other = ap (λ (l : List Token). place_in x i (map cell_of l)) (drop_at ts i t is) ∙ ap (λ (b : Bool). cond b i (place_in x (suc i) (map cell_of (drop (suc i) ts)))) other

pub place_none : (x : ℕ) (ts : List Token) (i : ℕ) → length ts ≤ i → place_in x i (map cell_of (drop i ts)) ≡ i
place_none x ts i past = ap (λ (l : List Token). place_in x i (map cell_of l)) (drop_past ts i past)

pub place_most : (x i : ℕ) (cs : List Cell) → place_in x i cs ≤ i + length cs
place_most x i [] = omega arith
place_most x i (c ∷ cs) = by (nat_eq c.held.stop x) (place_most x (suc i) cs)
  where
    by : (b : Bool) → place_in x (suc i) cs ≤ suc i + length cs → cond b i (place_in x (suc i) cs) ≤ i + suc (length cs)
    by true h = omega arith
    by false h = omega arith

-- the kinds of new tokens
pub kinds_are : (lines : List Shown) → flat_map (λ (s : Shown). map (λ (t : Token). t.held.kind) (drop s.given s.tokens)) lines ≡ flat_map (λ (r : Row). map (λ (c : Cell). c.held.kind) r.added) (map row_of lines)
kinds_are [] = refl
kinds_are (s ∷ lines) =
    ap (λ (l : List Kind). l ++ flat_map (λ (s : Shown). map (λ (t : Token). t.held.kind) (drop s.given s.tokens)) lines) (by (drop s.given s.tokens))
    ∙ ap (λ (l : List Kind). map (λ (c : Cell). c.held.kind) (map cell_of (drop s.given s.tokens)) ++ l) (kinds_are lines)
  where
    by : (ts : List Token) → map (λ (t : Token). t.held.kind) ts ≡ map (λ (c : Cell). c.held.kind) (map cell_of ts)
    by [] = refl
    by (t ∷ ts) = ap (λ (l : List Kind). t.held.kind ∷ l) (by ts)

-- the first elements give nothing
pub flat_late : {X Y : Type 0} (f : ℕ → X → List Y) (w n : ℕ) (xs : List X) → ((i : ℕ) (x : X) → i < n → slice_get xs i ≡ Some x → f (w + i) x ≡ []) → flat_map_from f w xs ≡ flat_map_from f (w + n) (drop n xs)
flat_late f w zero xs none = let here : w ≡ w + 0 = omega arith in ap (λ k. flat_map_from f k xs) here
flat_late f w (suc n) [] none = refl
flat_late f w (suc n) (x ∷ xs) none =
    let here : w ≡ w + 0 = omega arith in
    let there : suc w + n ≡ w + suc n = omega arith in
    let first : f w x ≡ [] = ap (λ k. f k x) here ∙ none 0 x (omega arith) refl in
    ap (λ (l : List _). l ++ flat_map_from f (suc w) xs) first
    ∙ flat_late f (suc w) n xs (λ i z less is. let next : suc w + i ≡ w + suc i = omega arith in ap (λ k. f k z) next ∙ none (suc i) z (omega arith) is)
    ∙ ap (λ k. flat_map_from f k (drop n xs)) there

-- what was found so far, and what is left to find: one element more
pub flat_step : {X Y : Type 0} (f : ℕ → X → List Y) (found all : List Y) (i : ℕ) (xs : List X) (x : X) → slice_get xs i ≡ Some x → found ++ flat_map_from f i (drop i xs) ≡ all → found ++ f i x ++ flat_map_from f (i + 1) (drop (i + 1) xs) ≡ all
flat_step f found all i xs x is h =
    let next : i + 1 ≡ suc i = omega arith in
    ap (λ n. found ++ f i x ++ flat_map_from f n (drop n xs)) next
    ∙ append_assoc found (f i x) (flat_map_from f (suc i) (drop (suc i) xs)) ∙ ap (λ (l : List _). found ++ flat_map_from f i l) (sym (drop_at xs i x is)) ∙ h

-- and where none is left
pub flat_end : {X Y : Type 0} (f : ℕ → X → List Y) (found all : List Y) (i : ℕ) (xs : List X) → length xs ≤ i → found ++ flat_map_from f i (drop i xs) ≡ all → found ≡ all
flat_end f found all i xs past h = sym (append-nil found) ∙ ap (λ (l : List _). found ++ flat_map_from f i l) (sym (drop_past xs i past)) ∙ h

-- lists by place, made of like elements
pub flat_same : {X Y Z : Type 0} (f : ℕ → X → List Z) (g : ℕ → Y → List Z) (h : X → Y) (w : ℕ) (xs : List X) → ((i : ℕ) (x : X) → slice_get xs i ≡ Some x → f (w + i) x ≡ g (w + i) (h x)) → flat_map_from f w xs ≡ flat_map_from g w (map h xs)
flat_same f g h w [] same = refl
flat_same f g h w (x ∷ xs) same =
    let here : w ≡ w + 0 = omega arith in
    let first : f w x ≡ g w (h x) = ap (λ k. f k x) here ∙ same 0 x refl ∙ ap (λ k. g k (h x)) (sym here) in
    ap (λ (l : List _). l ++ flat_map_from f (suc w) xs) first
    ∙ ap (λ (l : List _). g w (h x) ++ l) (flat_same f g h (suc w) xs (λ i z is. let next : suc w + i ≡ w + suc i = omega arith in ap (λ k. f k z) next ∙ same (suc i) z is ∙ ap (λ k. g k (h z)) (sym next)))

-- no element gives anything
flat_none : {X Y : Type 0} (f : X → List Y) (xs : List X) → AllByRecursion (λ x. f x ≡ []) xs → flat_map f xs ≡ []
flat_none f [] none = refl
flat_none f (x ∷ xs) none = ap (λ (l : List _). l ++ flat_map f xs) none.0 ∙ flat_none f xs none.1

filter_none : {X : Type 0} (test : X → Bool) (xs : List X) → AllByRecursion (λ x. test x ≡ false) xs → filter test xs ≡ []
filter_none test [] none = refl
filter_none test (x ∷ xs) none = ap (λ (b : Bool). cond b (x ∷ filter test xs) (filter test xs)) none.0 ∙ filter_none test xs none.1

-- the place of a token in its row
pub place_line : (board : Board) (v x : ℕ) (s : Shown) → slice_get board.lines.items v ≡ Some s → IsLine s → place_in x 0 (map cell_of s.tokens) ≡ place_in x 0 (cells (row (pictured board) v))
place_line board v x s is line =
    let at : slice_get (map row_of board.lines.items) v ≡ Some (row_of s) = slice_get-map row_of board.lines.items v ∙ ap (option_map row_of) is in
    let same : row (pictured board) v ≡ row_of s = get_or_from_slice_get (map row_of board.lines.items) v (row_of s) no_row at in
    sym (ap (λ (r : Row). place_in x 0 (cells r)) same ∙ ap (place_in x 0) (cells-row s line.joined))

pub place_nowhere : (board : Board) (v x : ℕ) → length board.lines.items ≤ v → 0 ≡ place_in x 0 (cells (row (pictured board) v))
place_nowhere board v x past =
    let none : row (pictured board) v ≡ no_row = get_or_past (map row_of board.lines.items) v no_row (omega (arith, length-map' row_of board.lines.items)) in
    sym (ap (λ (r : Row). place_in x 0 (cells r)) none)

take_at : {X : Type 0} (xs : List X) (i : ℕ) (x : X) → slice_get xs i ≡ Some x → take (i + 1) xs ≡ take i xs ++ x ∷ []
take_at xs i x is = take_more xs i x (slice_get_within xs i x is) ∙ ap (λ y. take i xs ++ y ∷ []) (get_or_from_slice_get xs i x x is)

differs : (a x b j : ℕ) → (a ≡ x → b ≡ j → ⊥) → (nat_eq a x && nat_eq b j) ≡ false
differs a x b j other = elim (cases_eq a x) [
  | inl same ↦ ap (λ (c : Bool). c && nat_eq b j) (eq-eqb a x same) ∙ ne_eqb b j (other same)
  | inr apart ↦ ap (λ (c : Bool). c && nat_eq b j) (ne_eqb a x apart)
]

-- one support more: it is for the need, or not
module _ (p : Partial) (t : TokenRef) (x j : ℕ) (found before : List Support) (ss : List Backing) (i : ℕ) (s : Backing) (is : slice_get ss i ≡ Some s) (h : found ≡ before ++ named_from p t x j (take i ss)) where
  abbrev test : Backing → Bool
  test s = nat_eq s.token.stop x && nat_eq s.need j

  abbrev name : Backing → List Support
  name s = record { token = t; need = j; by = ref_of p s.by } ∷ []

  one_more : filter test (take (i + 1) ss) ≡ filter test (take i ss) ++ cond (test s) (s ∷ []) []
  one_more = ap (filter test) (take_at ss i s is) ∙ filter-append test (take i ss) (s ∷ [])

  pub named_more : s.token.stop ≡ x → s.need ≡ j → found ++ record { token = t; need = j; by = ref_of p s.by } ∷ [] ≡ before ++ named_from p t x j (take (i + 1) ss)
  named_more ends which =
      let passes : test s ≡ true = ap (λ (b : Bool). b && nat_eq s.need j) (eq-eqb s.token.stop x ends) ∙ eq-eqb s.need j which in
      ap (λ (l : List Support). l ++ name s) h
      ∙ flat_map_more name before (filter test (take i ss)) s
      ∙ ap (λ (l : List Backing). before ++ flat_map name l) (ap (λ (b : Bool). filter test (take i ss) ++ cond b (s ∷ []) []) (sym passes) ∙ sym one_more)

  pub named_same : (s.token.stop ≡ x → s.need ≡ j → ⊥) → found ≡ before ++ named_from p t x j (take (i + 1) ss)
  named_same other =
      let fails : test s ≡ false = differs s.token.stop x s.need j other in
      h ∙ ap (λ (l : List Backing). before ++ flat_map name l) (sym (append-nil (filter test (take i ss))) ∙ ap (λ (b : Bool). filter test (take i ss) ++ cond b (s ∷ []) []) (sym fails) ∙ sym one_more)

-- the supports of one need more
pub needs_step : (f : ℕ → List Support) (found before : List Support) (n : ℕ) → found ≡ before ++ flat_map f (numbers_from 0 n) → found ++ f n ≡ before ++ flat_map f (numbers_from 0 (n + 1))
needs_step f found before n h =
    let zero_plus : 0 + n ≡ n = omega arith in
    ap (λ (l : List Support). l ++ f n) h
    ∙ flat_map_more f before (numbers_from 0 n) n
    ∙ ap (λ (l : List ℕ). before ++ flat_map f l) (sym (numbers_more 0 n ∙ ap (λ k. numbers_from 0 n ++ k ∷ []) zero_plus))

-- an extension is what its fields are
extension_same : (e f : Extension) → e.base ≡ f.base → e.since ≡ f.since → e.fixed ≡ f.fixed → e.tokens ≡ f.tokens → e.supports ≡ f.supports → e.goals ≡ f.goals → e ≡ f
extension_same e f base since fixed tokens supports goals =
    ap (λ (x : ℕ). let z : Extension = record { base = x; since = e.since; fixed = e.fixed; tokens = e.tokens; supports = e.supports; goals = e.goals } in z) base
    ∙ ap (λ (x : ℤ). let z : Extension = record { base = f.base; since = x; fixed = e.fixed; tokens = e.tokens; supports = e.supports; goals = e.goals } in z) since
    ∙ ap (λ (x : List Time). let z : Extension = record { base = f.base; since = f.since; fixed = x; tokens = e.tokens; supports = e.supports; goals = e.goals } in z) fixed
    ∙ ap (λ (x : List Kind). let z : Extension = record { base = f.base; since = f.since; fixed = f.fixed; tokens = x; supports = e.supports; goals = e.goals } in z) tokens
    ∙ ap (λ (x : List Support). let z : Extension = record { base = f.base; since = f.since; fixed = f.fixed; tokens = f.tokens; supports = x; goals = e.goals } in z) supports
    ∙ ap (λ (x : List TokenRef). let z : Extension = record { base = f.base; since = f.since; fixed = f.fixed; tokens = f.tokens; supports = f.supports; goals = x } in z) goals

-- the plan that is extended serves none of the needs that these supports are for
abbrev pub AreUnclaimed : Begun → List Backing → Type 0
AreUnclaimed b ss = AllByRecursion (λ (s : Backing). list_any (λ (o : Support). nat_eq (stop b.base o.token) s.token.stop && nat_eq o.need s.need) (supports_of b.base) ≡ false) ss

unclaimed_part : (m : Mission) (b : Begun) (p : Partial) (x : Part) → MayDo m b p x → AreUnclaimed b p.supports → AreUnclaimed b (do_part p x).supports
unclaimed_part m b p (Inserted v i value) may h = h
unclaimed_part m b p (Followed v i value) may h = h
unclaimed_part m b p (Joined v i) may h = h
unclaimed_part m b p (Finished v) may h = h
unclaimed_part m b p (Supported t i by) may h =
    let s : Backing = record { token = held_by p t; need = i; by = held_by p by } in
    each_both (λ (s : Backing). list_any (λ (o : Support). nat_eq (stop b.base o.token) s.token.stop && nat_eq o.need s.need) (supports_of b.base) ≡ false) p.supports (s ∷ []) h (or_none _ _ (or_none _ _ may.yet), tt)
unclaimed_part m b p (MetGoal g by) may h = h
unclaimed_part m b p (Deferred t i) may h = h

pub unclaimed_parts : (m : Mission) (b : Begun) (p : Partial) (xs : List Part) → AreAllowed m b p xs → AreUnclaimed b p.supports → AreUnclaimed b (do_parts p xs).supports
unclaimed_parts m b p [] may h = h
unclaimed_parts m b p (x ∷ xs) may h = unclaimed_parts m b (do_part p x) xs may.1 (unclaimed_part m b p x may.0.0 h)

module _ (m : Mission) (b : Begun) (tick : ℤ) (board : Board) (steps : List Step) (trail : Trailed) (d : IsDb m b tick board steps trail) where
  abbrev plan : Partial
  plan = do_parts (begin m b) (parts_of steps)

  unclaimed : AreUnclaimed b plan.supports
  unclaimed = unclaimed_parts m b (begin m b) (parts_of steps) d.allowed tt

  -- a support is for no need that the plan that is extended serves
  none_for : (x : Held) (j : ℕ) → base_serves m b d.begins.checked x.stop j ≡ true → filter (λ (s : Backing). nat_eq s.token.stop x.stop && nat_eq s.need j) plan.supports ≡ []
  none_for x j serves =
      filter_none (λ (s : Backing). nat_eq s.token.stop x.stop && nat_eq s.need j) plan.supports
      (each_weaker (λ (s : Backing). base_serves m b d.begins.checked s.token.stop s.need ≡ false) (λ (s : Backing). (nat_eq s.token.stop x.stop && nat_eq s.need j) ≡ false) (λ s none. elim (cases_Bool (nat_eq s.token.stop x.stop && nat_eq s.need j)) [
        | inl same ↦
            let parts = and_parts (nat_eq s.token.stop x.stop) (nat_eq s.need j) same in
            let e : s.token.stop ≡ x.stop = eqb-true _ _ parts.0 in
            let f : s.need ≡ j = eqb-true _ _ parts.1 in
            let g : true ≡ false = sym serves ∙ ap (λ n. base_serves m b d.begins.checked n j) (sym e) ∙ ap (base_serves m b d.begins.checked s.token.stop) (sym f) ∙ none in
            absurd (false≢true (sym g))
        | inr differ ↦ differ
      ]) plan.supports unclaimed)

  -- a token of the plan that is extended has no support, unless it is its timeline's last
  none_early : (v i : ℕ) (r : Row) (c : Cell) → slice_get plan.rows v ≡ Some r → slice_get (cells r) i ≡ Some c → suc i < length r.given → supports_at m plan v i c ≡ []
  none_early v i r c is here less =
      let row = row_at b 0 v plan.rows r (good_db m b tick board steps trail d).sound.rows is in
      let line = timeline_of (tokens_of b.base) (0 + v) in
      let given : r.given ≡ held_from b (0 + v) 0 line = row.given in
      let size : length r.given ≡ length line = ap (λ (l : List Held). length l) given ∙ length-held b (0 + v) 0 line in
      let there : slice_get (map given_cell r.given) i ≡ Some c = sym (slice_get-append_left (map given_cell r.given) r.added i (omega (arith, length-map' given_cell r.given))) ∙ here in
      let x = slice_get-map_some given_cell r.given i c there in
      let at : slice_get (held_from b (0 + v) 0 line) i ≡ Some x.0 = ap (λ (l : List Held). slice_get l i) (sym given) ∙ x.1 in
      let held : x.0 ≡ c.held = ap (λ (y : Cell). y.held) x.2 in
      let kind : slice_get line i ≡ Some c.held.kind = ap (λ (l : List Kind). slice_get l i) (sym (held_kinds b (0 + v) 0 line)) ∙ slice_get-map (λ (h : Held). h.kind) (held_from b (0 + v) 0 line) i ∙ ap (option_map (λ (h : Held). h.kind)) at ∙ ap (λ (y : Held). Some y.kind) held in
      let zero_plus : 0 + i ≡ i = omega arith in
      let ends : c.held.stop ≡ place_of (ending (0 + v) i) (points_of b.base) = ap (λ (y : Held). y.stop) (sym held) ∙ held_from_at b (0 + v) 0 i line x.0 at ∙ ap (λ n. place_of (ending (0 + v) n) (points_of b.base)) zero_plus in
      flat_none (λ j. flat_map (λ (s : Backing). record { token = record { sv = record { 0 = v }; place = i }; need = j; by = ref_of plan s.by } ∷ []) (filter (λ (s : Backing). nat_eq s.token.stop c.held.stop && nat_eq s.need j) plan.supports)) (numbers_from 0 (length (needs_of m c.held.kind)))
      (each_number (λ j. flat_map (λ (s : Backing). record { token = record { sv = record { 0 = v }; place = i }; need = j; by = ref_of plan s.by } ∷ []) (filter (λ (s : Backing). nat_eq s.token.stop c.held.stop && nat_eq s.need j) plan.supports) ≡ []) 0 (length (needs_of m c.held.kind)) (λ j low high.
      ap (λ (l : List Backing). flat_map (λ (s : Backing). let o : Support = record { token = record { sv = record { 0 = v }; place = i }; need = j; by = ref_of plan s.by } in o ∷ []) l)
      (none_for c.held j (ap (λ n. base_serves m b d.begins.checked n j) ends ∙ needs_served m b d.begins.checked (0 + v) i j c.held.kind kind (omega arith) (omega arith)))))

  -- the supports of a line are those of its row
  late_are : (v : ℕ) (s : Shown) → slice_get board.lines.items v ≡ Some s → late_supports m plan v s ≡ flat_map_from (supports_at m plan v) 0 (cells (row_of s))
  late_are v s is =
      let line = line_db m b tick board steps trail d v s is in
      let row = row_db m b tick board steps trail d v s is in
      let cs : cells (row_of s) ≡ map cell_of s.tokens = cells-row s line.joined in
      let zero_plus : 0 + (s.given - 1) ≡ s.given - 1 = omega arith in
      let many = given_shown s line in
      sym (
      flat_late (supports_at m plan v) 0 (s.given - 1) (cells (row_of s)) (λ i c less here. let plus : 0 + i ≡ i = omega arith in ap (λ n. supports_at m plan v n c) plus ∙ none_early v i (row_of s) c row here (omega arith))
      ∙ ap (λ n. flat_map_from (supports_at m plan v) n (drop (s.given - 1) (cells (row_of s)))) zero_plus
      ∙ ap (λ (l : List Cell). flat_map_from (supports_at m plan v) (s.given - 1) (drop (s.given - 1) l)) cs)

  -- the supports that are named are those of the partial plan
  pub supports_are : flat_map_from (late_supports m (pictured board)) 0 board.lines.items ≡ (extension m b plan).supports
  supports_are =
      ap (λ (p : Partial). flat_map_from (late_supports m p) 0 board.lines.items) d.shows
      ∙ flat_same (late_supports m plan) (λ v (r : Row). flat_map_from (supports_at m plan v) 0 (cells r)) row_of 0 board.lines.items (λ v s is. let zero_plus : 0 + v ≡ v = omega arith in ap (λ n. late_supports m plan n s) zero_plus ∙ late_are v s is ∙ ap (λ n. flat_map_from (supports_at m plan n) 0 (cells (row_of s))) (sym zero_plus))
      ∙ ap (flat_map_from (λ v (r : Row). flat_map_from (supports_at m plan v) 0 (cells r)) 0) (ap (λ (p : Partial). p.rows) d.shows)

  -- the rows can be searched for a token
  pub lines_there : AreShort board.lines.items
  lines_there v s is =
      let size = size_db m b tick board steps trail d v s is in
      (line_db m b tick board steps trail d v s is, omega (arith, size.1))

  -- an extension with what was found is that of the partial plan
  pub extension_is : (e : Extension) → e.base ≡ length b.base → e.since ≡ b.since → e.fixed ≡ b.fixed → e.tokens ≡ flat_map (λ (s : Shown). map (λ (t : Token). t.held.kind) (drop s.given s.tokens)) board.lines.items → e.supports ≡ flat_map_from (late_supports m (pictured board)) 0 board.lines.items → e.goals ≡ flat_map (λ o. on_some o (λ x. ref_of (pictured board) x ∷ [])) board.goals.items → e ≡ extension m b plan
  extension_is e base since fixed tokens supports goals =
      let kinds : e.tokens ≡ (extension m b plan).tokens = tokens ∙ kinds_are board.lines.items ∙ ap (λ (p : Partial). flat_map (λ (r : Row). map (λ (c : Cell). c.held.kind) r.added) p.rows) d.shows in
      let backed : e.supports ≡ (extension m b plan).supports = supports ∙ supports_are in
      let met : e.goals ≡ (extension m b plan).goals = goals ∙ ap (λ (p : Partial). flat_map (λ o. on_some o (λ x. ref_of p x ∷ [])) p.goals) d.shows in
      extension_same e (extension m b plan) base since fixed kinds backed met
