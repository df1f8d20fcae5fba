-- The first elements of the lists of flaws.
use Rattle.std.proofs.Common.{◌≡◌, ℕ, zero, suc, ◌+◌, ◌-◌, ◌<◌, ◌≤◌, Bool, true, false, cond, not, List, [], ◌∷◌, ◌++◌, Option, None, Some, length, map, flat_map, slice_get, refl, sym, ap, ◌∙◌, subst, inl, inr, ◌⊎◌, arith}
use Rattle.std.proofs.lemmas.Bool.{cases_lt}
use Rattle.std.proofs.lemmas.Bool.Decides.{nat_tests}
use Rattle.std.proofs.lemmas.Option.{slice_get-get_or, slice_get-map}
use Rattle.std.specs.Prelude.{get_or, is_some, option_map}
use Rattle.hs_base.specs.Needs.{needs_of}
use Rattle.hs_base.specs.Schedule.{numbers_from}
use Rattle.hs_base.specs.declared.mission.Mission.{Mission}
use Rattle.hs_base.specs.declared.plan.TokenRef.{TokenRef}
use Rattle.search_tree.proofs.CellLemmas.{slice_get-map_some}
use Rattle.search_tree.specs.Begun.{Begun}
use Rattle.search_tree.specs.Flaws.{flat_map_from, goal_flaws, is_served, needs_open, open_needs, slots, slots_after, slots_from}
use Rattle.search_tree.specs.Partial.{Partial, Row, at, cells}
use Rattle.search_tree.specs.declared.flaw.Flaw.{Flaw}
use Rattle.search_tree.specs.declared.flaw.Flaw.TheVariants.{Gap as GapFlaw, Goal as GoalFlaw, Need as NeedFlaw}
use Rattle.search_tree.specs.declared.held.Cell.{Cell}
use Rattle.search_tree.specs.declared.held.Held.{Held}
use Rattle.timeline_db.proofs.PictureLemmas.{cells-row}
use Rattle.timeline_db.proofs.TrackLemmas.{all_served}
use Rattle.timeline_db.specs.Heads.{IsHead}
use Rattle.timeline_db.specs.Lines.{IsFirstOf, Shown, cell_of, is_gap, is_waiting, row_of}
use Rattle.timeline_db.specs.Tracked.{AreTracked, IsLine, IsTracked}
use Rattle.timeline_db.specs.Waiting.{IsFirstWaiting, IsFirstWaitingIn}
use Rattle.timeline_db.specs.declared.token.Token.{Token}
use Rattle.search_tree.proofs.CellLemmas.{length-map'}
use Rattle.plan_check.proofs.SupportLemmas.{not_false, not_true}

pub head_append : {Y : Type 0} (xs ys : List Y) (y : Y) → IsHead xs y → IsHead (xs ++ ys) y
head_append [] ys y h = let e : [] ≡ y ∷ h.rest = h.is in absurd (cc)
head_append (x ∷ xs) ys y h =
    let e : x ∷ xs ≡ y ∷ h.rest = h.is in
    let same : x ≡ y = cc in
    record { rest = xs ++ ys; is = ap (λ z. z ∷ (xs ++ ys)) same }

-- the first element that gives something gives the head
pub head_flat : {X Y : Type 0} (f : ℕ → X → List Y) (i : ℕ) (xs : List X) (k : ℕ) (x : X) (y : Y) → slice_get xs k ≡ Some x → IsHead (f (i + k) x) y → ((j : ℕ) (z : X) → j < k → slice_get xs j ≡ Some z → f (i + j) z ≡ []) → IsHead (flat_map_from f i xs) y
head_flat f i [] k x y is h none = absurd (cc)
head_flat f i (z ∷ xs) zero x y is h none =
    let same : x ≡ z = cc in
    let here : i + 0 ≡ i = omega arith in
    head_append (f i z) (flat_map_from f (suc i) xs) y (subst (λ n. IsHead (f n z) y) here (subst (λ w. IsHead (f (i + 0) w) y) same h))
head_flat f i (z ∷ xs) (suc k) x y is h none =
    let here : i + 0 ≡ i = omega arith in
    let there : i + suc k ≡ suc i + k = omega arith in
    let first : f i z ≡ [] = ap (λ n. f n z) (sym here) ∙ none 0 z (omega arith) refl in
    let later = head_flat f (suc i) xs k x y is (subst (λ n. IsHead (f n x) y) there h) (λ j w l at. let next : suc i + j ≡ i + suc j = omega arith in ap (λ n. f n w) next ∙ none (suc j) w (omega arith) at) in
    subst (λ (ys : List _). IsHead (ys ++ flat_map_from f (suc i) xs) y) (sym first) later

-- where no element gives anything there is nothing
pub none_flat : {X Y : Type 0} (f : ℕ → X → List Y) (i : ℕ) (xs : List X) → ((j : ℕ) (z : X) → slice_get xs j ≡ Some z → f (i + j) z ≡ []) → flat_map_from f i xs ≡ []
none_flat f i [] none = refl
none_flat f i (z ∷ xs) none =
    let here : i + 0 ≡ i = omega arith in
    let first : f i z ≡ [] = ap (λ n. f n z) (sym here) ∙ none 0 z refl in
    ap (λ (ys : List _). ys ++ flat_map_from f (suc i) xs) first ∙ none_flat f (suc i) xs (λ j w at. let next : suc i + j ≡ i + suc j = omega arith in ap (λ n. f n w) next ∙ none (suc j) w at)

-- the goals without a token
pub goal_open : (os : List (Option Held)) (k : ℕ) → slice_get os k ≡ Some None → ((j : ℕ) (o : Option Held) → j < k → slice_get os j ≡ Some o → goal_flaws j o ≡ []) → IsHead (flat_map_from goal_flaws 0 os) (GoalFlaw k)
goal_open os k is none =
    let here : 0 + k ≡ k = omega arith in
    head_flat goal_flaws 0 os k None (GoalFlaw k) is (record { rest = []; is = ap (λ (n : ℕ). GoalFlaw n ∷ []) here }) (λ j o l at. let there : 0 + j ≡ j = omega arith in ap (λ (n : ℕ). goal_flaws n o) there ∙ none j o l at)

none_of : (o : Option Held) (b : Bool) → is_some o ≡ not b → b ≡ true → o ≡ None
none_of None b e f = refl
none_of (Some x) true e f = absurd (cc)
none_of (Some x) false e f = absurd (cc)

some_of : (j : ℕ) (o : Option Held) (b : Bool) → is_some o ≡ not b → b ≡ false → goal_flaws j o ≡ []
some_of j None true e f = absurd (cc)
some_of j None false e f = absurd (cc)
some_of j (Some x) b e f = refl

pub goal_none : (os : List (Option Held)) (k : ℕ) (b : Bool) → k < length os → is_some (get_or os k None) ≡ not b → b ≡ true → slice_get os k ≡ Some None
goal_none os k b below e f = slice_get-get_or os k None below ∙ ap Some (none_of (get_or os k None) b e f)

pub goal_more : (os : List (Option Held)) (k : ℕ) (b : Bool) → k < length os → is_some (get_or os k None) ≡ not b → b ≡ false → ((j : ℕ) (o : Option Held) → j < k → slice_get os j ≡ Some o → goal_flaws j o ≡ []) → (j : ℕ) (o : Option Held) → j < k + 1 → slice_get os j ≡ Some o → goal_flaws j o ≡ []
goal_more os k b below e f before j o less is = elim (cases_lt j k) [
  | inl old ↦ before j o old is
  | inr new ↦
      let at : j ≡ k = omega arith in
      let found : Some o ≡ Some (get_or os k None) = sym is ∙ ap (slice_get os) at ∙ slice_get-get_or os k None below in
      let same : o ≡ get_or os k None = cc in
      ap (goal_flaws j) same ∙ some_of j (get_or os k None) b e f
]

-- gaps, and the open end
head_gap : (finished : Bool) (i : ℕ) (cs : List Cell) (k : ℕ) (c : Cell) → slice_get cs k ≡ Some c → c.joined ≡ false → ((j : ℕ) (d : Cell) → j < k → slice_get cs j ≡ Some d → d.joined ≡ true) → IsHead (slots_after finished i cs) (i + k)
head_gap finished i [] k c is gap before = absurd (cc)
head_gap finished i (x ∷ cs) zero c is gap before =
    let same : x ≡ c = cc in
    let open' : x.joined ≡ false = ap (λ (y : Cell). y.joined) same ∙ gap in
    let here : i ≡ i + 0 = omega arith in
    record { rest = slots_after finished (suc i) cs; is = ap (λ (b : Bool). cond b [] (i ∷ []) ++ slots_after finished (suc i) cs) open' ∙ ap (λ (n : ℕ). n ∷ slots_after finished (suc i) cs) here }
head_gap finished i (x ∷ cs) (suc k) c is gap before =
    let shut = before 0 x (omega arith) refl in
    let there : suc i + k ≡ i + suc k = omega arith in
    subst (λ (b : Bool). IsHead (cond b [] (i ∷ []) ++ slots_after finished (suc i) cs) (i + suc k)) (sym shut)
    (subst (λ (n : ℕ). IsHead (slots_after finished (suc i) cs) n) there (head_gap finished (suc i) cs k c is gap (λ j d l at. before (suc j) d (omega arith) at)))

no_gap : (finished : Bool) (i : ℕ) (cs : List Cell) → ((j : ℕ) (d : Cell) → slice_get cs j ≡ Some d → d.joined ≡ true) → slots_after finished i cs ≡ cond finished [] ((i + length cs) ∷ [])
no_gap finished i [] all = let here : i ≡ i + 0 = omega arith in ap (λ (n : ℕ). cond finished [] (n ∷ [])) here
no_gap finished i (x ∷ cs) all =
    let shut = all 0 x refl in
    let there : suc i + length cs ≡ i + suc (length cs) = omega arith in
    ap (λ (b : Bool). cond b [] (i ∷ []) ++ slots_after finished (suc i) cs) shut
    ∙ no_gap finished (suc i) cs (λ j d at. all (suc j) d at)
    ∙ ap (λ (n : ℕ). cond finished [] (n ∷ [])) there

-- a row with tokens, of which the first is joined
module _ (s : Shown) (line : IsLine s) where
  slots_is : (cs : List Cell) → map cell_of s.tokens ≡ cs → slots (row_of s) ≡ slots_from s.finished cs
  slots_is cs e = ap (slots_from s.finished) (cells-row s line.joined ∙ e)

  joined_before : (j : ℕ) (d : Cell) → slice_get (map cell_of s.tokens) j ≡ Some d → ((t : Token) → slice_get s.tokens j ≡ Some t → is_gap t ≡ false) → d.joined ≡ true
  joined_before j d at none =
      let x = slice_get-map_some cell_of s.tokens j d at in
      ap (λ (c : Cell). c.joined) (sym x.2) ∙ not_false (x.0).joined (none x.0 x.1)

  -- the place before the first gap
  pub slot_at : (k : ℕ) → ((t : Token) → slice_get s.tokens 0 ≡ Some t → t.joined ≡ true) → IsFirstOf is_gap s.tokens (Some k) → (0 < k) × IsHead (slots (row_of s)) (k - 1)
  slot_at k first h = by s.tokens refl k first h
    where
      by : (ts : List Token) → s.tokens ≡ ts → (k : ℕ) → ((t : Token) → slice_get s.tokens 0 ≡ Some t → t.joined ≡ true) → IsFirstOf is_gap s.tokens (Some k) → (0 < k) × IsHead (slots (row_of s)) (k - 1)
      by [] e k first h = let is : slice_get [] k ≡ Some (h.0).0 = ap (λ (l : List Token). slice_get l k) (sym e) ∙ (h.0).1 in absurd (cc)
      by (t ∷ ts) e zero first h =
          let t' = (h.0).0 in
          let joined = first t' (h.0).1 in
          let gap = not_true t'.joined (h.0).2 in
          let f : true ≡ false = sym joined ∙ gap in
          absurd (cc)
      by (t ∷ ts) e (suc k) first h =
          let t' = (h.0).0 in
          let is : slice_get ts k ≡ Some t' = ap (λ (l : List Token). slice_get l (suc k)) (sym e) ∙ (h.0).1 in
          let cell : slice_get (map cell_of ts) k ≡ Some (cell_of t') = slice_get-map cell_of ts k ∙ ap (option_map cell_of) is in
          let less : suc k - 1 ≡ 0 + k = omega arith in (
            omega arith,
            subst (λ (l : List ℕ). IsHead l (suc k - 1)) (sym (slots_is (map cell_of (t ∷ ts)) (ap (map cell_of) e)))
                (subst (λ (n : ℕ). IsHead (slots_after s.finished 0 (map cell_of ts)) n) (sym less)
                (head_gap s.finished 0 (map cell_of ts) k (cell_of t') cell (not_true t'.joined (h.0).2)
                (λ j d l at. joined_before (suc j) d (ap (λ (q : List Token). slice_get (map cell_of q) (suc j)) e ∙ at) (λ u here. h.1 (suc j) u (omega arith) here)))),
          )

  -- without gap: the last place, where the end is open
  pub slot_end : 0 < length s.tokens → IsFirstOf is_gap s.tokens None → slots (row_of s) ≡ cond s.finished [] ((length s.tokens - 1) ∷ [])
  slot_end some h = by s.tokens refl some
    where
      by : (ts : List Token) → s.tokens ≡ ts → 0 < length s.tokens → slots (row_of s) ≡ cond s.finished [] ((length s.tokens - 1) ∷ [])
      by [] e some = absurd (omega (arith, ap (λ (l : List Token). length l) e))
      by (t ∷ ts) e some =
          let size : 0 + length (map cell_of ts) ≡ length s.tokens - 1 = omega (arith, ap (λ (l : List Token). length l) e, length-map' cell_of ts) in
          slots_is (map cell_of (t ∷ ts)) (ap (map cell_of) e)
          ∙ no_gap s.finished 0 (map cell_of ts) (λ j d at. joined_before (suc j) d (ap (λ (q : List Token). slice_get (map cell_of q) (suc j)) e ∙ at) (λ u here. h (suc j) u here))
          ∙ ap (λ (n : ℕ). cond s.finished [] (n ∷ [])) size

-- the flaws of slots, by row
abbrev pub slot_flaws : ℕ → Row → List Flaw
slot_flaws v r = map (GapFlaw (record { 0 = v })) (slots r)

pub head_map : {X Y : Type 0} (f : X → Y) (xs : List X) (x : X) → IsHead xs x → IsHead (map f xs) (f x)
head_map f xs x h = record { rest = map f h.rest; is = ap (map f) h.is }

-- the first row with a slot
pub slot_first : (lines : List Shown) (v i : ℕ) (s : Shown) → slice_get lines v ≡ Some s → IsHead (slots (row_of s)) i → ((w : ℕ) (q : Shown) → w < v → slice_get lines w ≡ Some q → slots (row_of q) ≡ []) → IsHead (flat_map_from slot_flaws 0 (map row_of lines)) (GapFlaw (record { 0 = v }) i)
slot_first lines v i s is head before =
    let here : 0 + v ≡ v = omega arith in
    head_flat slot_flaws 0 (map row_of lines) v (row_of s) (GapFlaw (record { 0 = v }) i) (slice_get-map row_of lines v ∙ ap (option_map row_of) is)
    (subst (λ (n : ℕ). IsHead (slot_flaws n (row_of s)) (GapFlaw (record { 0 = v }) i)) (sym here) (head_map (GapFlaw (record { 0 = v })) (slots (row_of s)) i head))
    (λ w r l at. let q = slice_get-map_some row_of lines w r at in ap (λ (x : Row). slot_flaws (0 + w) x) (sym q.2) ∙ ap (map (GapFlaw (record { 0 = 0 + w }))) (before w q.0 l q.1))

pub slot_none : (lines : List Shown) → ((w : ℕ) (q : Shown) → slice_get lines w ≡ Some q → slots (row_of q) ≡ []) → flat_map_from slot_flaws 0 (map row_of lines) ≡ []
slot_none lines none = none_flat slot_flaws 0 (map row_of lines) (λ w r at. let q = slice_get-map_some row_of lines w r at in ap (λ (x : Row). slot_flaws (0 + w) x) (sym q.2) ∙ ap (map (GapFlaw (record { 0 = 0 + w }))) (none w q.0 q.1))

-- the open needs of a token
needs_from : (test : ℕ → Bool) (f : ℕ → Flaw) (a n k : ℕ) → a ≤ k → k < a + n → test k ≡ false → ((j : ℕ) → a ≤ j → j < k → test j ≡ true) → IsHead (flat_map (λ j. cond (test j) [] (f j ∷ [])) (numbers_from a n)) (f k)
needs_from test f a zero k low high open' before = absurd (omega arith)
needs_from test f a (suc n) k low high open' before = elim (cases_eq' a k low) [
  | inl same ↦
      let here : test a ≡ false = ap test same ∙ open' in
      let rest = flat_map (λ j. cond (test j) [] (f j ∷ [])) (numbers_from (a + 1) n) in
      record { rest = rest; is = ap (λ (b : Bool). cond b [] (f a ∷ []) ++ rest) here ∙ ap (λ (x : ℕ). f x ∷ rest) same }
  | inr less ↦
      let here : test a ≡ true = before a (omega arith) less in
      let rest = flat_map (λ j. cond (test j) [] (f j ∷ [])) (numbers_from (a + 1) n) in
      subst (λ (b : Bool). IsHead (cond b [] (f a ∷ []) ++ rest) (f k)) (sym here) (needs_from test f (a + 1) n k (omega arith) (omega arith) open' (λ j l h. before j (omega arith) h))
]
  where
    cases_eq' : (a k : ℕ) → a ≤ k → (a ≡ k) ⊎ (a < k)
    cases_eq' a k low = elim (cases_lt a k) [ inl less ↦ inr less | inr most ↦ inl (omega arith) ]

needs_none : (test : ℕ → Bool) (f : ℕ → Flaw) (a n : ℕ) → ((j : ℕ) → a ≤ j → j < a + n → test j ≡ true) → flat_map (λ j. cond (test j) [] (f j ∷ [])) (numbers_from a n) ≡ []
needs_none test f a zero all = refl
needs_none test f a (suc n) all =
    let rest = flat_map (λ j. cond (test j) [] (f j ∷ [])) (numbers_from (a + 1) n) in
    ap (λ (b : Bool). cond b [] (f a ∷ []) ++ rest) (all a (omega arith) (omega arith)) ∙ needs_none test f (a + 1) n (λ j l h. all j (omega arith) (omega arith))

waits_less : (t : Token) → is_waiting t ≡ true → t.unmet < t.needs
waits_less t h = grind (arith, nat_tests)

rests_most : (t : Token) → is_waiting t ≡ false → t.needs ≤ t.unmet
rests_most t h = grind (arith, nat_tests)

module _ (m : Mission) (b : Begun) (p : Partial) where
  token_open : (v i : ℕ) (t : Token) → IsTracked m b p t → is_waiting t ≡ true → IsHead (needs_open m b p v i (cell_of t)) (NeedFlaw (at v i) t.unmet)
  token_open v i t h waits =
      let less = waits_less t waits in
      needs_from (is_served b p t.held) (NeedFlaw (at v i)) 0 (length (needs_of m t.held.kind)) t.unmet (omega arith) (let n = h.needs (omega arith) in omega arith) (h.unserved less) (λ j l k. h.served j k)

  token_rests : (v i : ℕ) (t : Token) → IsTracked m b p t → is_waiting t ≡ false → needs_open m b p v i (cell_of t) ≡ []
  token_rests v i t h rests =
      let most = rests_most t rests in
      let all = h.most in
      needs_none (is_served b p t.held) (NeedFlaw (at v i)) 0 (length (needs_of m t.held.kind)) (λ j l k. all_served m b p t h (omega arith) j (omega arith))

  abbrev row_needs : ℕ → Row → List Flaw
  row_needs v r = flat_map_from (needs_open m b p v) 0 (cells r)

  module _ (lines : List Shown) (tracked : AreTracked m b p lines) where
    cells_at : (v : ℕ) (s : Shown) → slice_get lines v ≡ Some s → cells (row_of s) ≡ map cell_of s.tokens
    cells_at v s is = cells-row s (tracked.line v s is).joined

    row_rests : (v n : ℕ) (s : Shown) → slice_get lines v ≡ Some s → ((i : ℕ) (t : Token) → slice_get s.tokens i ≡ Some t → is_waiting t ≡ false) → row_needs n (row_of s) ≡ []
    row_rests v n s is rests =
        ap (λ (cs : List Cell). flat_map_from (needs_open m b p n) 0 cs) (cells_at v s is)
        ∙ none_flat (needs_open m b p n) 0 (map cell_of s.tokens) (λ i c here. let x = slice_get-map_some cell_of s.tokens i c here in ap (λ (y : Cell). needs_open m b p n (0 + i) y) (sym x.2) ∙ token_rests n (0 + i) x.0 (tracked.each v i s x.0 is x.1) (rests i x.0 x.1))

    rows_rest : (v : ℕ) (r : Row) → slice_get (map row_of lines) v ≡ Some r → ((i : ℕ) (s : Shown) (t : Token) → slice_get lines v ≡ Some s → slice_get s.tokens i ≡ Some t → is_waiting t ≡ false) → row_needs (0 + v) r ≡ []
    rows_rest v r is rests =
        let q = slice_get-map_some row_of lines v r is in
        ap (λ (x : Row). row_needs (0 + v) x) (sym q.2) ∙ row_rests v (0 + v) q.0 q.1 (λ i t here. rests i q.0 t q.1 here)

    -- the first open need
    pub need_first : (t : TokenRef) (j : ℕ) → p.rows ≡ map row_of lines → IsFirstWaiting lines t j → IsHead (open_needs m b p) (NeedFlaw t j)
    need_first t j rows h =
        let v = t.sv.0 in
        let i = t.place in
        let tracks = tracked.each v i h.line h.token h.is_line h.here in
        let open' : IsHead (needs_open m b p v i (cell_of h.token)) (NeedFlaw t j) = subst (λ (n : ℕ). IsHead (needs_open m b p v i (cell_of h.token)) (NeedFlaw t n)) (sym h.need) (token_open v i h.token tracks h.waits) in
        let here : 0 + v ≡ v = omega arith in
        let there : 0 + i ≡ i = omega arith in
        let row : IsHead (row_needs v (row_of h.line)) (NeedFlaw t j) =
        subst (λ (cs : List Cell). IsHead (flat_map_from (needs_open m b p v) 0 cs) (NeedFlaw t j)) (sym (cells_at v h.line h.is_line))
        (head_flat (needs_open m b p v) 0 (map cell_of h.line.tokens) i (cell_of h.token) (NeedFlaw t j) (slice_get-map cell_of h.line.tokens i ∙ ap (option_map cell_of) h.here)
        (subst (λ (n : ℕ). IsHead (needs_open m b p v n (cell_of h.token)) (NeedFlaw t j)) (sym there) open')
        (λ k c l at. let x = slice_get-map_some cell_of h.line.tokens k c at in ap (λ (y : Cell). needs_open m b p v (0 + k) y) (sym x.2) ∙ token_rests v (0 + k) x.0 (tracked.each v k h.line x.0 h.is_line x.1) (h.places_before k x.0 l x.1))) in
        subst (λ (rs : List Row). IsHead (flat_map_from row_needs 0 rs) (NeedFlaw t j)) (sym rows)
        (head_flat row_needs 0 (map row_of lines) v (row_of h.line) (NeedFlaw t j) (slice_get-map row_of lines v ∙ ap (option_map row_of) h.is_line)
        (subst (λ (n : ℕ). IsHead (row_needs n (row_of h.line)) (NeedFlaw t j)) (sym here) row)
        (λ w r l at. rows_rest w r at (λ k s u is here. h.rows_before w k s u l is here)))

    pub need_none : p.rows ≡ map row_of lines → IsFirstWaitingIn lines None → open_needs m b p ≡ []
    need_none rows h = ap (flat_map_from row_needs 0) rows ∙ none_flat row_needs 0 (map row_of lines) (λ w r at. rows_rest w r at (λ k s u is here. h w k s u is here))
