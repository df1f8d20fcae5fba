-- What is noted of tokens where one more need is served or left, and where it is open again.
use Rattle.std.proofs.Common.{◌≡◌, ℕ, zero, suc, ◌+◌, ◌<◌, ◌≤◌, Bool, true, false, List, [], ◌∷◌, Some, length, map, set, take, get_or, slice_get, nat_eq, refl, sym, ap, ◌∙◌, subst, inl, inr, arith, ◌⊎◌, length-set}
use Rattle.std.proofs.lemmas.Bool.{and_from, and_right, cases_eq, cases_lt, eq-eqb, ne_eqb}
use Rattle.std.proofs.lemmas.Option.{get_or_from_slice_get, slice_get-map}
use Rattle.std.specs.List.{AllByRecursion}
use Rattle.std.specs.Prelude.{◌&&◌, ◌||◌, option_map}
use Rattle.hs_base.specs.Needs.{needs_of}
use Rattle.hs_base.specs.declared.mission.Mission.{Mission}
use Rattle.search_tree.proofs.CellLemmas.{row_at}
use Rattle.search_tree.proofs.SoundLemmas.{cell_variable}
use Rattle.search_tree.specs.Begun.{Begun}
use Rattle.search_tree.specs.Flaws.{is_served}
use Rattle.search_tree.specs.Partial.{Partial, Row, cells}
use Rattle.search_tree.specs.Sound.{IsAt, IsRow, IsSound}
use Rattle.search_tree.specs.declared.held.Cell.{Cell}
use Rattle.search_tree.specs.declared.held.Held.{Held}
use Rattle.search_laws.proofs.ApartLemmas.{one_place}
use Rattle.timeline_db.proofs.PictureLemmas.{cells-row}
use Rattle.timeline_db.proofs.TrackLemmas.{or_first, unlike}
use Rattle.search_laws.specs.Good.{AreApart}
use Rattle.timeline_db.specs.Lines.{Shown, cell_of, nothing_held, row_of, with_unmet}
use Rattle.timeline_db.specs.Tracked.{AreTracked, IsLine, IsTracked, was_served}
use Rattle.timeline_db.specs.declared.token.Token.{Token}

pub or_none : (a c : Bool) → (a || c) ≡ false → a ≡ false
or_none true c e = absurd (cc)
or_none false c e = refl

or_false : (a c : Bool) → c ≡ false → (a || c) ≡ a
or_false true false e = refl
or_false false false e = refl
or_false a true e = absurd (cc)

or_true : (a c : Bool) → c ≡ true → (a || c) ≡ true
or_true true true e = refl
or_true false true e = refl
or_true a false e = absurd (cc)

-- needs are served alike
pub same_tracked : (m : Mission) (b : Begun) (p q : Partial) (t : Token) → ((k : ℕ) → is_served b q t.held k ≡ is_served b p t.held k) → IsTracked m b p t → IsTracked m b q t
same_tracked m b p q t same h = record {
  most = h.most;
  needs = h.needs;
  served = λ k l. same k ∙ h.served k l;
  unserved = λ l. same t.unmet ∙ h.unserved l;
  all = h.all;
}

-- q serves what p does, and need j of the token that ends at x
module _ (m : Mission) (b : Begun) (p q : Partial) (x j : ℕ) (one : (y : Held) (k : ℕ) → is_served b q y k ≡ (is_served b p y k || (nat_eq x y.stop && nat_eq j k))) where
  -- the needs of another token
  pub others_same : (y : Held) → (x ≡ y.stop → ⊥) → (k : ℕ) → is_served b q y k ≡ is_served b p y k
  others_same y apart k = one y k ∙ or_false (is_served b p y k) (nat_eq x y.stop && nat_eq j k) (unlike x y.stop (nat_eq j k) apart)

  -- another need of the token
  rest_same : (y : Held) (k : ℕ) → (j ≡ k → ⊥) → is_served b q y k ≡ is_served b p y k
  rest_same y k other = one y k ∙ or_false (is_served b p y k) (nat_eq x y.stop && nat_eq j k) (and_right (nat_eq x y.stop) (nat_eq j k) (ne_eqb j k other))

  still_served : (y : Held) (k : ℕ) → is_served b p y k ≡ true → is_served b q y k ≡ true
  still_served y k e = one y k ∙ or_first (is_served b p y k) (nat_eq x y.stop && nat_eq j k) e

  now_served : (y : Held) → x ≡ y.stop → is_served b q y j ≡ true
  now_served y ends = one y j ∙ or_true (is_served b p y j) (nat_eq x y.stop && nat_eq j j) (and_from (nat_eq x y.stop) (nat_eq j j) (eq-eqb x y.stop ends) (eq-eqb j j refl))

  not_before : (y : Held) (k : ℕ) → is_served b q y k ≡ false → is_served b p y k ≡ false
  not_before y k e = or_none (is_served b p y k) (nat_eq x y.stop && nat_eq j k) (sym (one y k) ∙ e)

  -- the need was the token's first open one
  pub tracked_later : (t : Token) (n : ℕ) → x ≡ t.held.stop → IsTracked m b p t → t.unmet ≡ j → j < t.needs → j + 1 ≤ n → n ≤ t.needs → ((k : ℕ) → j + 1 ≤ k → k < n → is_served b q t.held k ≡ true) → (n < t.needs → is_served b q t.held n ≡ false)
      → IsTracked m b q (record t { unmet = n })
  tracked_later t n ends h was less low most served unserved = record {
    most = most;
    needs = h.needs;
    served = λ k l. elim (cases_lt k j) [
      | inl before ↦ still_served t.held k (h.served k (omega arith))
      | inr from ↦ elim (cases_eq j k) [
        | inl same ↦ subst (λ (i : ℕ). is_served b q t.held i ≡ true) same (now_served t.held ends)
        | inr other ↦ served k (omega arith) l
      ]
    ];
    unserved = unserved;
    all = h.all;
  }

  -- an earlier need of the token is open
  pub tracked_still : (t : Token) → IsTracked m b p t → (t.unmet ≡ j → ⊥) → IsTracked m b q t
  tracked_still t h other = record {
    most = h.most;
    needs = h.needs;
    served = λ k l. still_served t.held k (h.served k l);
    unserved = λ l. rest_same t.held t.unmet (λ e. other (sym e)) ∙ h.unserved l;
    all = h.all;
  }

  -- the need is open again, and is the token's first one
  pub tracked_earlier : (t : Token) → IsTracked m b q t → is_served b p t.held j ≡ false → j < t.unmet → IsTracked m b p (record t { unmet = j })
  tracked_earlier t h is_open less = record {
    most = let k = h.most in omega arith;
    needs = h.needs;
    served = λ k l. sym (rest_same t.held k (λ e. absurd (omega arith))) ∙ h.served k (omega arith);
    unserved = λ l. is_open;
    all = h.all;
  }

  -- an earlier one stays so
  pub tracked_stays : (t : Token) → IsTracked m b q t → t.unmet ≤ j → IsTracked m b p t
  tracked_stays t h less = record {
    most = h.most;
    needs = h.needs;
    served = λ k l. sym (rest_same t.held k (λ e. absurd (omega arith))) ∙ h.served k l;
    unserved = λ l. not_before t.held t.unmet (h.unserved l);
    all = h.all;
  }

-- an open need is one of those that are counted
pub need_counted : (m : Mission) (b : Begun) (p : Partial) (t : Token) (j : ℕ) → IsTracked m b p t → j < length (needs_of m t.held.kind) → is_served b p t.held j ≡ false → j < t.needs
need_counted m b p t j h less yet = elim (cases_lt 0 t.needs) [
  | inl some ↦ let e = h.needs some in omega arith
  | inr none ↦
      let all : is_served b p t.held j ≡ true = or_first _ _ (or_first (was_served b t.held j) _ (h.all (omega arith) j less)) in
      let never : true ≡ false = sym all ∙ yet in
      absurd (cc)
]

joined_set : (ts : List Token) (g i n : ℕ) → AllByRecursion (λ (t : Token). t.joined ≡ true) (take g ts) → AllByRecursion (λ (t : Token). t.joined ≡ true) (take g (set ts i (record (get_or ts i nothing_held) { unmet = n })))
joined_set ts zero i n h = tt
joined_set [] (suc g) zero n h = tt
joined_set [] (suc g) (suc i) n h = tt
joined_set (t ∷ ts) (suc g) zero n h = h
joined_set (t ∷ ts) (suc g) (suc i) n h = (h.0, joined_set ts g i n h.1)

pub line_unmet : (s : Shown) (i n : ℕ) → IsLine s → IsLine (with_unmet i n s)
line_unmet s i n h = record {
  within = let w = h.within in let l = length-set s.tokens i (record (get_or s.tokens i nothing_held) { unmet = n }) in omega arith;
  joined = joined_set s.tokens s.given i n h.joined;
}

-- where an element of a list comes from in which one is set
pub set_from : {X : Type 0} (xs : List X) (k : ℕ) (x y : X) (i : ℕ) → slice_get (set xs k x) i ≡ Some y → ((i ≡ k) × (y ≡ x)) ⊎ ((i ≡ k → ⊥) × (slice_get xs i ≡ Some y))
set_from [] zero x y i h = absurd (cc)
set_from [] (suc k) x y i h = absurd (cc)
set_from (z ∷ xs) zero x y zero h = let e : x ≡ y = cc in inl (refl, sym e)
set_from (z ∷ xs) zero x y (suc i) h = inr (λ e. absurd (omega arith), h)
set_from (z ∷ xs) (suc k) x y zero h = inr (λ e. absurd (omega arith), h)
set_from (z ∷ xs) (suc k) x y (suc i) h = elim (set_from xs k x y i h) [ inl e ↦ inl (ap suc e.0, e.1) | inr g ↦ inr (λ e. g.0 (omega arith), g.1) ]

-- the rows show a sound partial plan
module _ (m : Mission) (b : Begun) (p : Partial) (sound : IsSound m b p) (apart : AreApart p) (lines : List Shown) (shows : map row_of lines ≡ p.rows) (line : (v : ℕ) (s : Shown) → slice_get lines v ≡ Some s → IsLine s) where
  pub row_of_line : (v : ℕ) (s : Shown) → slice_get lines v ≡ Some s → slice_get p.rows v ≡ Some (row_of s)
  row_of_line v s is = ap (λ (rs : List Row). slice_get rs v) (sym shows) ∙ slice_get-map row_of lines v ∙ ap (option_map row_of) is

  pub cell_of_line : (v i : ℕ) (s : Shown) (t : Token) → slice_get lines v ≡ Some s → slice_get s.tokens i ≡ Some t → slice_get (cells (row_of s)) i ≡ Some (cell_of t)
  cell_of_line v i s t is here = ap (λ (cs : List Cell). slice_get cs i) (cells-row s (line v s is).joined) ∙ slice_get-map cell_of s.tokens i ∙ ap (option_map cell_of) here

  pub at_line : (v i : ℕ) (s : Shown) (t : Token) → slice_get lines v ≡ Some s → slice_get s.tokens i ≡ Some t → IsAt p v t.held
  at_line v i s t is here = record { row = row_of s; is_row = row_of_line v s is; place = i; cell = cell_of t; here = cell_of_line v i s t is here; held = refl }

  pub is_row : (v : ℕ) (s : Shown) → slice_get lines v ≡ Some s → IsRow b v (row_of s)
  is_row v s is = let e : 0 + v ≡ v = omega arith in subst (λ (n : ℕ). IsRow b n (row_of s)) e (row_at b 0 v p.rows (row_of s) sound.rows (row_of_line v s is))

  variable_is : (v i : ℕ) (s : Shown) (t : Token) → slice_get lines v ≡ Some s → slice_get s.tokens i ≡ Some t → t.held.kind.sv.0 ≡ v
  variable_is v i s t is here = cell_variable m b p sound v i (row_of s) (cell_of t) (is_row v s is) (cell_of_line v i s t is here)

  -- each end stands at one place
  pub same_place : (v i w k : ℕ) (s r : Shown) (t u : Token) → slice_get lines v ≡ Some s → slice_get s.tokens i ≡ Some t → slice_get lines w ≡ Some r → slice_get r.tokens k ≡ Some u → t.held.stop ≡ u.held.stop → (v ≡ w) × (i ≡ k)
  same_place v i w k s r t u is here at there e =
      let held : t.held ≡ u.held = sound.distinct v w t.held u.held (at_line v i s t is here) (at_line w k r u at there) e in
      let rows : v ≡ w = sym (variable_is v i s t is here) ∙ ap (λ (x : Held). x.kind.sv.0) held ∙ variable_is w k r u at there in
      let both : Some s ≡ Some r = sym is ∙ ap (slice_get lines) rows ∙ at in
      let same : s ≡ r = cc in
      (rows, one_place (cells (row_of s)) i k (cell_of t) (cell_of u) (apart.each v (row_of s) (row_of_line v s is)) (cell_of_line v i s t is here) (ap (λ (z : Shown). slice_get (cells (row_of z)) k) same ∙ cell_of_line w k r u at there) e)

  -- q serves the needs of all but the token at one place as p does
  module _ (q : Partial) (h : AreTracked m b p lines) (v i : ℕ) (s : Shown) (t : Token) (is : slice_get lines v ≡ Some s) (here : slice_get s.tokens i ≡ Some t) (other : (y : Held) → (t.held.stop ≡ y.stop → ⊥) → (k : ℕ) → is_served b q y k ≡ is_served b p y k) where
    tracked_other : (w k : ℕ) (r : Shown) (u : Token) → slice_get lines w ≡ Some r → slice_get r.tokens k ≡ Some u → ((v ≡ w) × (i ≡ k) → ⊥) → IsTracked m b q u
    tracked_other w k r u at there apart_from = same_tracked m b p q u (other u.held (λ e. apart_from (same_place v i w k s r t u is here at there e))) (h.each w k r u at there)

    -- the token's first open need is noted anew
    pub tracked_set : (n : ℕ) → IsTracked m b q (record t { unmet = n }) → AreTracked m b q (set lines v (with_unmet i n s))
    tracked_set n own =
        let was : get_or s.tokens i nothing_held ≡ t = get_or_from_slice_get s.tokens i t nothing_held here in
        let now : Token = record (get_or s.tokens i nothing_held) { unmet = n } in
        let own' : IsTracked m b q now = subst (λ (u : Token). IsTracked m b q (record u { unmet = n })) (sym was) own in
        record {
          line = λ w r at. elim (set_from lines v (with_unmet i n s) r w at) [
            | inl e ↦ subst IsLine (sym e.1) (line_unmet s i n (line v s is))
            | inr old ↦ line w r old.1
          ];
          each = λ w k r u at there. elim (set_from lines v (with_unmet i n s) r w at) [
            | inl e ↦ elim (set_from s.tokens i now u k (ap (λ (x : Shown). slice_get x.tokens k) (sym e.1) ∙ there)) [
              | inl f ↦ subst (IsTracked m b q) (sym f.1) own'
              | inr old ↦ tracked_other v k s u is old.1 (λ g. old.0 (sym g.1))
            ]
            | inr old ↦ tracked_other w k r u old.1 there (λ g. old.0 (sym g.0))
          ];
        }

    -- or stays
    pub tracked_kept : IsTracked m b q t → AreTracked m b q lines
    tracked_kept own = record {
      line = line;
      each = λ w k r u at there. elim (cases_eq v w) [
        | inl row ↦ elim (cases_eq i k) [
          | inl place ↦
              let both : Some s ≡ Some r = sym is ∙ ap (slice_get lines) row ∙ at in
              let same : s ≡ r = cc in
              let found : Some t ≡ Some u = sym here ∙ ap (λ (x : Shown). slice_get x.tokens i) same ∙ ap (slice_get r.tokens) place ∙ there in
              let token : t ≡ u = cc in
              subst (IsTracked m b q) token own
          | inr apart_from ↦ tracked_other w k r u at there (λ g. apart_from g.1)
        ]
        | inr apart_from ↦ tracked_other w k r u at there (λ g. apart_from g.0)
      ];
    }
