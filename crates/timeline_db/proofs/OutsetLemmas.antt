-- The timelines with which a search begins, and what is noted of their tokens.
use Rattle.std.proofs.Common.{◌≡◌, ℕ, ℤ, zero, suc, ◌+◌, ◌-◌, ◌<◌, Bool, true, false, nat_eq, List, [], ◌∷◌, Option, None, Some, length, take, drop, map, set, get_or, slice_get, refl, sym, ap, ◌∙◌, subst, inl, inr, ◌⊎◌, length-set, get_or-set_same, arith}
use Rattle.std.proofs.lemmas.Bool.{cases_eq, cases_lt, eq-eqb}
use Rattle.std.proofs.lemmas.List.{drop-map, take-map}
use Rattle.std.proofs.lemmas.Option.{get_or_from_slice_get, slice_get-get_or, slice_get_within}
use Rattle.std.specs.List.{AllByRecursion, list_any}
use Rattle.std.specs.Prelude.{◌&&◌, ◌||◌}
use Rattle.hs_base.specs.Bounds.{on_some}
use Rattle.hs_base.specs.Checked.{Checked, IsServed, supports_of}
use Rattle.hs_base.specs.Needs.{need_at, need_of, needs_of}
use Rattle.hs_base.specs.Points.{Point, ending, place_of, points_of, start_at, stop, timeline_of, tokens_of}
use Rattle.hs_base.specs.Schedule.{numbers_from}
use Rattle.hs_base.specs.declared.mission.Kind.{Kind}
use Rattle.hs_base.specs.declared.mission.Mission.{Mission}
use Rattle.hs_base.specs.declared.mission.Need.{Need}
use Rattle.hs_base.specs.declared.mission.Var.{Var}
use Rattle.hs_base.specs.declared.plan.Extension.{Extension}
use Rattle.hs_base.specs.declared.plan.Support.{Support}
use Rattle.hs_base.specs.declared.plan.Time.{Time}
use Rattle.plan_check.proofs.WithinLemmas.{all_needs}
use Rattle.plan_laws.proofs.ChainLemmas.{contained_at}
use Rattle.search_tree.specs.Begun.{Begun}
use Rattle.search_tree.specs.Flaws.{is_served}
use Rattle.search_tree.specs.Partial.{Row, at, begin, first_cells, first_row, held_from}
use Rattle.search_tree.specs.declared.held.Cell.{Cell}
use Rattle.search_tree.specs.declared.held.Held.{Held}
use Rattle.plan_index.proofs.IndexLemmas.{start_is}
use Rattle.plan_index.specs.Contents.{contents_of, start_at as start_among}
use Rattle.timeline_db.proofs.LayingLemmas.{laid, laid_at, length-laid, set_here}
use Rattle.timeline_db.specs.Laying.{AreFirst, AreLaid, AreOutset, IsFirstUnclaimed, NotesAll, NotesLast, first_token, laid_from, laid_line}
use Rattle.timeline_db.specs.Lines.{Shown, cell_of, nothing_held, row_of, with_needs}
use Rattle.timeline_db.specs.Tracked.{IsLine, IsTracked}
use Rattle.timeline_db.specs.declared.token.Token.{Token}
use Rattle.timeline_db.proofs.PictureLemmas.{row-unmet}
use Rattle.search_laws.proofs.LawfulLemmas.{set_there}
use Rattle.timeline_db.proofs.ClaimLemmas.{claims_same}

-- rows by variable
pub rows_by : (lines : List Shown) (w n : ℕ) (f : ℕ → Row) → length lines ≡ n → ((i : ℕ) (s : Shown) → slice_get lines i ≡ Some s → row_of s ≡ f (w + i)) → map row_of lines ≡ map f (numbers_from w n)
rows_by [] w zero f size each = refl
rows_by [] w (suc n) f size each = absurd (omega arith)
rows_by (s ∷ lines) w zero f size each = absurd (omega arith)
rows_by (s ∷ lines) w (suc n) f size each =
    let here : w + 0 ≡ w = omega arith in
    ap (λ (r : Row). r ∷ map row_of lines) (each 0 s refl ∙ ap f here)
    ∙ ap (λ (rs : List Row). f w ∷ rs) (rows_by lines (w + 1) n f (omega arith) (λ i q is. let there : w + suc i ≡ w + 1 + i = omega arith in each (suc i) q is ∙ ap f there))

still : {X Y : Type 0} (f : X → Y) (xs : List X) (k : ℕ) (x d : X) → f x ≡ f (get_or xs k d) → map f (set xs k x) ≡ map f xs
still f [] zero x d e = refl
still f [] (suc k) x d e = refl
still f (y ∷ xs) zero x d e = ap (λ z. z ∷ map f xs) e
still f (y ∷ xs) (suc k) x d e = ap (λ ys. f y ∷ ys) (still f xs k x d e)

-- a row by its tokens
row_like : (s : Shown) (ts : List Token) → map (λ (t : Token). t.held) ts ≡ map (λ (t : Token). t.held) s.tokens → map cell_of ts ≡ map cell_of s.tokens → row_of (record s { tokens = ts }) ≡ row_of s
row_like s ts held cell =
    let given : map (λ (t : Token). t.held) (take s.given ts) ≡ map (λ (t : Token). t.held) (take s.given s.tokens) = sym (take-map (λ (t : Token). t.held) s.given ts) ∙ ap (take s.given) held ∙ take-map (λ (t : Token). t.held) s.given s.tokens in
    let added : map cell_of (drop s.given ts) ≡ map cell_of (drop s.given s.tokens) = sym (drop-map cell_of s.given ts) ∙ ap (drop s.given) cell ∙ drop-map cell_of s.given s.tokens in
    ap (λ (g : List Held). let r : Row = record { given = g; added = map cell_of (drop s.given ts); finished = s.finished } in r) given
    ∙ ap (λ (cs : List Cell). let r : Row = record { given = (row_of s).given; added = cs; finished = s.finished } in r) added

row_needs : (s : Shown) (i n : ℕ) → row_of (with_needs i n s) ≡ row_of s
row_needs s i n =
    let t : Token = record (get_or s.tokens i nothing_held) { needs = n } in
    row_like s (set s.tokens i t) (still (λ (t : Token). t.held) s.tokens i t nothing_held refl) (still cell_of s.tokens i t nothing_held refl)

joined_set : (xs : List Token) (g k : ℕ) (x : Token) → x.joined ≡ true → AllByRecursion (λ (t : Token). t.joined ≡ true) (take g xs) → AllByRecursion (λ (t : Token). t.joined ≡ true) (take g (set xs k x))
joined_set xs zero k x e h = tt
joined_set [] (suc g) zero x e h = tt
joined_set [] (suc g) (suc k) x e h = tt
joined_set (y ∷ xs) (suc g) zero x e h = (e, h.1)
joined_set (y ∷ xs) (suc g) (suc k) x e h = (h.0, joined_set xs g k x e h.1)

-- a timeline of the plan
joined_laid : (names : List Point) (v i g : ℕ) (ks : List Kind) → AllByRecursion (λ (t : Token). t.joined ≡ true) (take g (laid_from names v i ks))
joined_laid names v i zero ks = tt
joined_laid names v i (suc g) [] = tt
joined_laid names v i (suc g) (k ∷ ks) = (refl, joined_laid names v (suc i) g ks)

pub line_laid : (tokens : List Kind) (names : List Point) (v : ℕ) → IsLine (laid_line tokens names v)
line_laid tokens names v = record {
  within = omega (arith, length-laid names v 0 (timeline_of tokens v));
  joined = joined_laid names v 0 (length (timeline_of tokens v)) (timeline_of tokens v);
}

held_laid : (b : Begun) (v i : ℕ) (ks : List Kind) → map (λ (t : Token). t.held) (laid_from (points_of b.base) v i ks) ≡ held_from b v i ks
held_laid b v i [] = refl
held_laid b v i (k ∷ ks) =
    ap (λ (x : ℕ). let h : Held = record { kind = k; start = x; stop = stop b.base (at v i) } in h ∷ map (λ (t : Token). t.held) (laid_from (points_of b.base) v (suc i) ks)) (start_is (contents_of b.base) b.base (at v i) refl)
    ∙ ap (λ (l : List Held). let h : Held = record { kind = k; start = start_at b.base v i; stop = stop b.base (at v i) } in h ∷ l) (held_laid b v (suc i) ks)

take_whole : {X : Type 0} (xs : List X) (n : ℕ) → length xs ≡ n → take n xs ≡ xs
take_whole [] zero e = refl
take_whole [] (suc n) e = absurd (omega arith)
take_whole (x ∷ xs) zero e = absurd (omega arith)
take_whole (x ∷ xs) (suc n) e = ap (λ l. x ∷ l) (take_whole xs n (omega arith))

drop_whole : {X : Type 0} (xs : List X) (n : ℕ) → length xs ≡ n → drop n xs ≡ []
drop_whole [] zero e = refl
drop_whole [] (suc n) e = refl
drop_whole (x ∷ xs) zero e = absurd (omega arith)
drop_whole (x ∷ xs) (suc n) e = drop_whole xs n (omega arith)

pub row_laid : (b : Begun) (v : ℕ) → row_of (laid_line (tokens_of b.base) (points_of b.base) v) ≡ record { given = held_from b v 0 (timeline_of (tokens_of b.base) v); added = []; finished = false }
row_laid b v =
    let ks = timeline_of (tokens_of b.base) v in
    let ts = laid_from (points_of b.base) v 0 ks in
    let size = length-laid (points_of b.base) v 0 ks in
    ap (λ (l : List Token). let r : Row = record { given = map (λ (t : Token). t.held) l; added = map cell_of (drop (length ks) ts); finished = false } in r) (take_whole ts (length ks) size)
    ∙ ap (λ (l : List Token). let r : Row = record { given = map (λ (t : Token). t.held) ts; added = map cell_of l; finished = false } in r) (drop_whole ts (length ks) size)
    ∙ ap (λ (l : List Held). let r : Row = record { given = l; added = []; finished = false } in r) (held_laid b v 0 ks)

-- a line whose needs are noted
module _ (m : Mission) (es : List Extension) (v : ℕ) (r : Shown) (notes : NotesLast m es v (laid_line (tokens_of es) (points_of es) v) r) where
  abbrev ks : List Kind
  ks = timeline_of (tokens_of es) v

  abbrev s : Shown
  s = laid_line (tokens_of es) (points_of es) v

  abbrev here : Kind → ℕ → Token
  here k i = laid k (start_among (points_of es) v i) (place_of (ending v i) (points_of es))

  at_laid : (i : ℕ) (k : Kind) → slice_get ks i ≡ Some k → slice_get s.tokens i ≡ Some (here k i)
  at_laid i k is = let zero_plus : 0 + i ≡ i = omega arith in laid_at (points_of es) v 0 ks i k is ∙ ap (λ (n : ℕ). Some (here k n)) zero_plus

  -- its tokens: the last one's needs are noted
  abbrev pub Noted : ℕ → Token → Type 0
  Noted i u = (k : Kind) × (slice_get ks i ≡ Some k) × (((suc i < length ks) × (u ≡ here k i)) ⊎ ((suc i ≡ length ks) × ((n : ℕ) × IsFirstUnclaimed es (at v i) (length (needs_of m k)) n × (u ≡ record (here k i) { needs = length (needs_of m k); unmet = n }))))

  size : length s.tokens ≡ length ks
  size = length-laid (points_of es) v 0 ks

  abbrev no_kind : Kind
  no_kind = record { sv = record { 0 = 0 }; value = record { 0 = 0 } }

  by_last : (last : ℕ) → length ks ≡ suc last → (i : ℕ) (u : Token) → slice_get r.tokens i ≡ Some u → Noted i u
  by_last last many i u is =
      let k = get_or ks last no_kind in
      let is_last : slice_get ks last ≡ Some k = slice_get-get_or ks last no_kind (omega arith) in
      let before : length ks - 1 ≡ last = omega arith in
      let t = here k last in
      let t_at : slice_get s.tokens (length ks - 1) ≡ Some t = ap (slice_get s.tokens) before ∙ at_laid last k is_last in
      let g = notes.last t (omega arith) t_at in
      let c = length (needs_of m k) in
      let x : Token = record (get_or s.tokens (length ks - 1) nothing_held) { needs = c } in
      let xs = set s.tokens (length ks - 1) x in
      let y : Token = record (get_or xs (length ks - 1) nothing_held) { unmet = g.0 } in
      let tokens : r.tokens ≡ set xs (length ks - 1) y = ap (λ (q : Shown). q.tokens) g.2 in
      let at_r : slice_get (set xs (length ks - 1) y) i ≡ Some u = ap (λ (l : List Token). slice_get l i) (sym tokens) ∙ is in
      elim (cases_eq (length ks - 1) i) [
        | inl same ↦
            let many_xs : length ks - 1 < length xs = omega (arith, length-set s.tokens (length ks - 1) x, size) in
            let found : Some y ≡ Some u = sym (set_here xs (length ks - 1) y many_xs) ∙ ap (slice_get (set xs (length ks - 1) y)) same ∙ at_r in
            let is_y : y ≡ u = cc in
            let was : get_or xs (length ks - 1) nothing_held ≡ x = get_or-set_same s.tokens (length ks - 1) x nothing_held (omega (arith, size)) in
            let was_t : get_or s.tokens (length ks - 1) nothing_held ≡ t = get_or_from_slice_get s.tokens (length ks - 1) t nothing_held t_at in
            let here_is : i ≡ last = omega arith in
            let new : u ≡ record (here k i) { needs = c; unmet = g.0 } =
            sym is_y
            ∙ ap (λ (q : Token). let w : Token = record q { unmet = g.0 } in w) was
            ∙ ap (λ (q : Token). let w : Token = record { held = q.held; joined = q.joined; needs = c; unmet = g.0 } in w) was_t
            ∙ ap (λ (n : ℕ). let w : Token = record (here k n) { needs = c; unmet = g.0 } in w) (sym here_is) in
            let first : IsFirstUnclaimed es (at v i) c g.0 = subst (λ (n : ℕ). IsFirstUnclaimed es (at v n) c g.0) same g.1 in
            (k, ap (slice_get ks) here_is ∙ is_last, inr (omega arith, (g.0, first, new)))
        | inr apart ↦
            let old : slice_get s.tokens i ≡ Some u = sym (set_there xs (length ks - 1) i y apart ∙ set_there s.tokens (length ks - 1) i x apart) ∙ at_r in
            let inside = slice_get_within s.tokens i u old in
            let j = get_or ks i no_kind in
            let is_j : slice_get ks i ≡ Some j = slice_get-get_or ks i no_kind (omega (arith, size)) in
            let found : Some u ≡ Some (here j i) = sym old ∙ at_laid i j is_j in
            let same : u ≡ here j i = cc in
            let less : suc i < length ks = less_of i last many apart (omega (arith, size)) in
            (j, is_j, inl (less, same))
      ]
    where
      less_of : (i last : ℕ) → length ks ≡ suc last → ((length ks - 1 ≡ i) → ⊥) → i < length ks → suc i < length ks
      less_of i last many apart inside = elim (cases_lt (suc i) (length ks)) [ inl less ↦ less | inr most ↦ absurd (apart (omega arith)) ]

  pub noted : (i : ℕ) (u : Token) → slice_get r.tokens i ≡ Some u → Noted i u
  noted i u is = by (length ks) refl
    where
      by : (n : ℕ) → length ks ≡ n → Noted i u
      by zero none =
          let same = notes.none none in
          let old : slice_get s.tokens i ≡ Some u = ap (λ (q : Shown). slice_get q.tokens i) (sym same) ∙ is in
          absurd (omega (arith, slice_get_within s.tokens i u old, size))
      by (suc last) many = by_last last many i u is

  pub row_noted : row_of r ≡ row_of s
  row_noted = by (length ks) refl
    where
      by : (n : ℕ) → length ks ≡ n → row_of r ≡ row_of s
      by zero none = ap row_of (notes.none none)
      by (suc last) many =
          let k = get_or ks last no_kind in
          let before : length ks - 1 ≡ last = omega arith in
          let t_at : slice_get s.tokens (length ks - 1) ≡ Some (here k last) = ap (slice_get s.tokens) before ∙ at_laid last k (slice_get-get_or ks last no_kind (omega arith)) in
          let g = notes.last (here k last) (omega arith) t_at in
          let c = length (needs_of m k) in
          ap row_of g.2 ∙ row-unmet (with_needs (length ks - 1) c s) (length ks - 1) g.0 ∙ row_needs s (length ks - 1) c

  pub line_noted : IsLine r
  line_noted = by (length ks) refl
    where
      by : (n : ℕ) → length ks ≡ n → IsLine r
      by zero none = subst IsLine (sym (notes.none none)) (line_laid (tokens_of es) (points_of es) v)
      by (suc last) many =
          let k = get_or ks last no_kind in
          let before : length ks - 1 ≡ last = omega arith in
          let t_at : slice_get s.tokens (length ks - 1) ≡ Some (here k last) = ap (slice_get s.tokens) before ∙ at_laid last k (slice_get-get_or ks last no_kind (omega arith)) in
          let g = notes.last (here k last) (omega arith) t_at in
          let c = length (needs_of m k) in
          let x : Token = record (get_or s.tokens (length ks - 1) nothing_held) { needs = c } in
          let xs = set s.tokens (length ks - 1) x in
          let y : Token = record (get_or xs (length ks - 1) nothing_held) { unmet = g.0 } in
          let was_t : get_or s.tokens (length ks - 1) nothing_held ≡ here k last = get_or_from_slice_get s.tokens (length ks - 1) (here k last) nothing_held t_at in
          let x_joined : x.joined ≡ true = ap (λ (q : Token). q.joined) was_t in
          let y_joined : y.joined ≡ true = ap (λ (q : Token). q.joined) (get_or-set_same s.tokens (length ks - 1) x nothing_held (omega (arith, size))) ∙ x_joined in
          let l = line_laid (tokens_of es) (points_of es) v in
          subst IsLine (sym g.2) (record {
            within = let w = l.within in omega (arith, length-set s.tokens (length ks - 1) x, length-set xs (length ks - 1) y);
            joined = joined_set xs (length ks) (length ks - 1) y y_joined (joined_set s.tokens (length ks) (length ks - 1) x x_joined l.joined);
          })

any_at : {X : Type 0} (f : X → Bool) (xs : List X) (i : ℕ) (x : X) → slice_get xs i ≡ Some x → f x ≡ true → list_any f xs ≡ true
any_at f [] i x is e = absurd (cc)
any_at f (y ∷ xs) zero x is e = let same : y ≡ x = cc in ap (λ (z : _). f z || list_any f xs) same ∙ ap (λ (c : Bool). c || list_any f xs) e
any_at f (y ∷ xs) (suc i) x is e = ap (λ (c : Bool). f y || c) (any_at f xs i x is e) ∙ or_true (f y)
  where
    or_true : (c : Bool) → (c || true) ≡ true
    or_true true = refl
    or_true false = refl

-- the supports of the plan, and the needs that they are for
module _ (m : Mission) (b : Begun) (checked : Checked m b.base) where
  -- a support of the plan that is extended is for need j of the token that ends there
  abbrev pub base_serves : ℕ → ℕ → Bool
  base_serves x j = list_any (λ (s : Support). nat_eq (stop b.base s.token) x && nat_eq s.need j) (supports_of b.base)

  pub served_first : (x : Held) (j : ℕ) → is_served b (begin m b) x j ≡ base_serves x.stop j
  served_first x j = by (base_serves x.stop j)
    where
      by : (c : Bool) → (c || false || false) ≡ c
      by true = refl
      by false = refl

  -- the needs of a token that isn't the last of its timeline are served
  pub needs_served : (v i j : ℕ) (k : Kind) → slice_get (timeline_of (tokens_of b.base) v) i ≡ Some k → suc i < length (timeline_of (tokens_of b.base) v) → j < length (needs_of m k) → base_serves (place_of (ending v i) (points_of b.base)) j ≡ true
  needs_served v i j k is less below =
      let n = get_or (needs_of m k) j no_need in
      let has : slice_get (needs_of m k) j ≡ Some n = slice_get-get_or (needs_of m k) j no_need below in
      let found : need_at m b.base (at v i) j ≡ Some n = ap (λ (o : Option Kind). need_of m o j) is ∙ has in
      by n ((all_needs m checked.mission b.base checked.rules).each (at v i) j n found)
    where
      no_need : Need
      no_need = record { of = record { sv = record { 0 = 0 }; value = record { 0 = 0 } }; either = [] }

      by : (n : Need) → IsServed m b.base (at v i) j n → base_serves (place_of (ending v i) (points_of b.base)) j ≡ true
      by n (inl h) =
          let s = h.0 in
          let c = contained_at (supports_of b.base) s h.1 in
          let e : stop b.base s.token ≡ place_of (ending v i) (points_of b.base) = ap (stop b.base) h.2 in
          any_at (λ (s : Support). nat_eq (stop b.base s.token) (place_of (ending v i) (points_of b.base)) && nat_eq s.need j) (supports_of b.base) c.0 s c.1 (ap (λ (c : Bool). c && nat_eq s.need j) (eq-eqb _ _ e) ∙ eq-eqb _ _ h.3)
      by n (inr h) = absurd (let l = h.1 in omega arith)

  -- what is noted of a token of the plan is right
  pub token_tracked : (v : ℕ) (r : Shown) (notes : NotesLast m b.base v (laid_line (tokens_of b.base) (points_of b.base) v) r) (i : ℕ) (u : Token) → slice_get r.tokens i ≡ Some u → IsTracked m b (begin m b) u
  token_tracked v r notes i u is =
      let g = noted m b.base v r notes i u is in
      by g.0 g.1 g.2
    where
      here : Kind → Token
      here k = laid k (start_among (points_of b.base) v i) (place_of (ending v i) (points_of b.base))

      early : (k : Kind) → slice_get (timeline_of (tokens_of b.base) v) i ≡ Some k → suc i < length (timeline_of (tokens_of b.base) v) → IsTracked m b (begin m b) (here k)
      early k is' less = record {
        most = omega arith;
        needs = λ l. absurd (omega arith);
        served = λ j l. absurd (omega arith);
        unserved = λ l. absurd (omega arith);
        all = λ e j l. needs_served v i j k is' less l;
      }

      late : (k : Kind) (n : ℕ) → slice_get (timeline_of (tokens_of b.base) v) i ≡ Some k → IsFirstUnclaimed b.base (at v i) (length (needs_of m k)) n → IsTracked m b (begin m b) (record (here k) { needs = length (needs_of m k); unmet = n })
      late k n is first =
          let there = slice_get_within (timeline_of (tokens_of b.base) v) i k is in
          let most = first.most in
          record {
            most = most;
            needs = λ l. refl;
            served = λ j l. served_first (here k).held j ∙ sym (claims_same m b.base checked (at v i) (place_of (ending v i) (points_of b.base)) j there refl) ∙ first.claimed j l;
            unserved = λ l. served_first (here k).held n ∙ sym (claims_same m b.base checked (at v i) (place_of (ending v i) (points_of b.base)) n there refl) ∙ first.unclaimed l;
            all = λ e j l. absurd (omega arith);
          }

      by : (k : Kind) → slice_get (timeline_of (tokens_of b.base) v) i ≡ Some k → ((suc i < length (timeline_of (tokens_of b.base) v)) × (u ≡ here k)) ⊎ ((suc i ≡ length (timeline_of (tokens_of b.base) v)) × ((n : ℕ) × IsFirstUnclaimed b.base (at v i) (length (needs_of m k)) n × (u ≡ record (here k) { needs = length (needs_of m k); unmet = n }))) → IsTracked m b (begin m b) u
      by k is' (inl h) = subst (IsTracked m b (begin m b)) (sym h.1) (early k is' h.0)
      by k is' (inr h) = subst (IsTracked m b (begin m b)) (sym h.1.2) (late k h.1.0 is' h.1.1)

-- the lines of a plan, noted, are the rows with which a search begins
pub outset_later : (m : Mission) (b : Begun) (old lines : List Shown) → Checked m b.base → (b.base ≡ [] → ⊥) → AreLaid (length m.vars) (tokens_of b.base) (points_of b.base) old → NotesAll m b.base old lines → AreOutset m b lines
outset_later m b old lines checked some laid notes = record {
  rows = rows_by lines 0 (length m.vars) (first_row m b) (notes.size ∙ laid.size) (λ v r is. let f = from v r is in let zero_plus : v ≡ 0 + v = omega arith in row_noted m b.base v r f ∙ row_laid b v ∙ given_row b.base refl v ∙ ap (first_row m b) zero_plus);
  tracked = record {
    line = λ v r is. line_noted m b.base v r (from v r is);
    each = λ v i r u is here. token_tracked m b checked v r (from v r is) i u here;
  };
}
  where
    from : (v : ℕ) (r : Shown) → slice_get lines v ≡ Some r → NotesLast m b.base v (laid_line (tokens_of b.base) (points_of b.base) v) r
    from v r is =
        let inside = slice_get_within lines v r is in
        let s = get_or old v r in
        let at : slice_get old v ≡ Some s = slice_get-get_or old v r (omega (arith, notes.size)) in
        let g = notes.each v s at in
        let found : Some g.0 ≡ Some r = sym g.1 ∙ is in
        let same : g.0 ≡ r = cc in
        subst (λ (q : Shown). NotesLast m b.base v q r) (laid.each v s at) (subst (λ (q : Shown). NotesLast m b.base v s q) same g.2)

    given_row : (es : List Extension) → b.base ≡ es → (v : ℕ) → record { given = held_from b v 0 (timeline_of (tokens_of b.base) v); added = []; finished = false } ≡ first_row m b v
    given_row [] e v = absurd (some e)
    given_row (x ∷ es) e v = sym (ap (λ (l : List Extension). let r : Row = elim l [ [] ↦ record { given = []; added = first_cells m b v; finished = false } | (y ∷ ys) ↦ record { given = held_from b v 0 (timeline_of (tokens_of b.base) v); added = []; finished = false } ] in r) e)

-- first tokens alone
first_tracked : (m : Mission) (since : ℤ) (fixed : List Time) (stop' v i : ℕ) (o : Option Var) (u : Token) → slice_get (on_some o (λ var. first_token m stop' v var ∷ [])) i ≡ Some u → IsTracked m (record { base = []; since = since; fixed = fixed }) (begin m (record { base = []; since = since; fixed = fixed })) u
first_tracked m since fixed stop' v i None u is = absurd (cc)
first_tracked m since fixed stop' v zero (Some var) u is =
    let same : first_token m stop' v var ≡ u = cc in
    subst (IsTracked m (record { base = []; since = since; fixed = fixed }) (begin m (record { base = []; since = since; fixed = fixed }))) same (record {
      most = omega arith;
      needs = λ l. refl;
      served = λ j l. absurd (omega arith);
      unserved = λ l. refl;
      all = λ e j l. absurd (omega arith);
    })
first_tracked m since fixed stop' v (suc i) (Some var) u is = absurd (cc)

first_is : (m : Mission) (since : ℤ) (fixed : List Time) (v : ℕ) (o : Option Var) → map cell_of (on_some o (λ var. first_token m (2 + v) v var ∷ [])) ≡ on_some o (λ var. record { held = record { kind = record { sv = record { 0 = v }; value = var.begin }; start = 0; stop = 2 + v }; joined = true } ∷ [])
first_is m since fixed v None = refl
first_is m since fixed v (Some var) = refl

pub outset_first : (m : Mission) (b : Begun) (lines : List Shown) → b.base ≡ [] → AreFirst m 2 lines → AreOutset m b lines
outset_first m b lines none h = by b.base b.since b.fixed none
  where
    by : (base : List Extension) (since : ℤ) (fixed : List Time) → base ≡ [] → AreOutset m (record { base = base; since = since; fixed = fixed }) lines
    by (e ∷ es) since fixed none = absurd (cc)
    by [] since fixed none =
        let b : Begun = record { base = []; since = since; fixed = fixed } in
        record {
          rows = rows_by lines 0 (length m.vars) (first_row m b) h.size (λ v s is.
              let zero_plus : v ≡ 0 + v = omega arith in
              ap row_of (h.each v s is)
              ∙ ap (λ (cs : List Cell). let r : Row = record { given = []; added = cs; finished = false } in r) (first_is m since fixed v (slice_get m.vars v))
              ∙ ap (first_row m b) zero_plus);
          tracked = record {
            line = λ v s is. subst IsLine (sym (h.each v s is)) (record { within = omega arith; joined = tt });
            each = λ v i s u is here. first_tracked m since fixed (2 + v) v i (slice_get m.vars v) u (ap (λ (q : Shown). slice_get q.tokens i) (sym (h.each v s is)) ∙ here);
          };
        }
