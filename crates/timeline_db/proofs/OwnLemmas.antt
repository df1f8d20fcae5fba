-- The code finds by its name what the plan that is extended serves of a token.
use Rattle.std.proofs.Common.{◌≡◌, ℕ, ◌+◌, ◌<◌, ◌≤◌, Bool, true, false, List, Some, length, length-append, map, get_or, slice_get, nat_eq, nat_lt, refl, sym, ap, ◌∙◌, subst, inl, inr, arith}
use Rattle.std.proofs.lemmas.Bool.{cases_lt, le-ltb, lt-ltb}
use Rattle.std.proofs.lemmas.Option.{get_or_from_slice_get, slice_get-get_or, slice_get_within}
use Rattle.std.specs.List.{list_any}
use Rattle.std.specs.Prelude.{◌&&◌, ◌||◌}
use Rattle.hs_base.specs.Checked.{Checked, supports_of}
use Rattle.hs_base.specs.Points.{ending, place_of, points_of, stop, timeline_of, token_at, tokens_of}
use Rattle.hs_base.specs.declared.mission.Kind.{Kind}
use Rattle.hs_base.specs.declared.mission.Mission.{Mission}
use Rattle.hs_base.specs.declared.plan.Extension.{Extension}
use Rattle.hs_base.specs.declared.plan.Support.{Support}
use Rattle.hs_base.specs.declared.plan.TokenRef.{TokenRef}
use Rattle.base_laws.proofs.ListLemmas.{each_at, each_weaker, slice_get-append_left}
use Rattle.base_laws.proofs.MissionLemmas.{each_filter}
use Rattle.base_laws.proofs.PointLemmas.{of_variable}
use Rattle.plan_laws.proofs.InsideLemmas.{tokens_inside}
use Rattle.search_tree.proofs.CellLemmas.{held_from_at, held_is, length-held, length-map', row_at, slice_get-map_some}
use Rattle.search_tree.proofs.SoundLemmas.{cell_variable}
use Rattle.search_tree.specs.Begun.{Begun}
use Rattle.search_tree.specs.Flaws.{is_served}
use Rattle.search_tree.specs.May.{IsThere}
use Rattle.search_tree.specs.Outset.{MayBegin}
use Rattle.search_tree.specs.Partial.{Partial, Row, at, cells, held_by, held_from, no_row, nobody}
use Rattle.search_tree.specs.Sound.{IsRow, IsSound}
use Rattle.search_tree.specs.declared.backing.Backing.{Backing}
use Rattle.search_tree.specs.declared.backing.Deferral.{Deferral}
use Rattle.search_tree.specs.declared.held.Cell.{Cell}
use Rattle.search_tree.specs.declared.held.Held.{Held}
use Rattle.search_laws.proofs.ApartLemmas.{one_place}
use Rattle.timeline_db.proofs.PictureLemmas.{cells-row}
use Rattle.timeline_db.proofs.SettleLemmas.{at_line, cell_of_line, is_row, row_of_line}
use Rattle.timeline_db.proofs.StepLemmas.{given_shown, line_shown}
use Rattle.timeline_db.proofs.TrackLemmas.{none_any, unlike}
use Rattle.timeline_db.specs.Boards.{HasToken, line_at, no_line, pictured, token_of}
use Rattle.timeline_db.specs.Claims.{is_claim}
use Rattle.search_laws.specs.Good.{AreApart}
use Rattle.timeline_db.specs.Lines.{Shown, cell_of, nothing_held, row_of}
use Rattle.timeline_db.specs.Serving.{is_served_at}
use Rattle.timeline_db.specs.Tracked.{IsLine, was_served}
use Rattle.timeline_db.specs.declared.board.Board.{Board}
use Rattle.timeline_db.proofs.ClaimLemmas.{IsNamed, claims_same, supports_named}

-- a token of a checked plan is of a variable of the mission
pub variable_there : (m : Mission) (es : List Extension) (t : TokenRef) (k : Kind) → Checked m es → token_at es t ≡ Some k → t.sv.0 < length m.vars
variable_there m es t k c is =
    let below = each_at (λ (k : Kind). k.sv.0 < length m.vars) (timeline_of (tokens_of es) t.sv.0) t.place k (each_filter (λ (k : Kind). k.sv.0 < length m.vars) (λ (k : Kind). nat_eq k.sv.0 t.sv.0) (tokens_of es) (tokens_inside m es c.rules)) is in
    let own = of_variable (tokens_of es) t.sv.0 t.place k is in
    omega arith

or_turn : (s d g : Bool) → ((s || d) || g) ≡ ((g || s) || d)
or_turn true true true = refl
or_turn true true false = refl
or_turn true false true = refl
or_turn true false false = refl
or_turn false true true = refl
or_turn false true false = refl
or_turn false false true = refl
or_turn false false false = refl

-- a row's tokens of the plan that is extended
module _ (b : Begun) (v : ℕ) (r : Row) (h : IsRow b v r) where
  given_many : length r.given ≡ length (timeline_of (tokens_of b.base) v)
  given_many = ap length h.given ∙ length-held b v 0 (timeline_of (tokens_of b.base) v)

  given_stop : (i : ℕ) (c : Cell) → i < length r.given → slice_get (cells r) i ≡ Some c → c.held.stop ≡ stop b.base (at v i)
  given_stop i c inside here =
      let size = length-map' (λ (x : Held). let c : Cell = record { held = x; joined = true } in c) r.given in
      let front : slice_get (map (λ (x : Held). let c : Cell = record { held = x; joined = true } in c) r.given) i ≡ Some c = sym (slice_get-append_left (map (λ (x : Held). let c : Cell = record { held = x; joined = true } in c) r.given) r.added i (omega arith)) ∙ here in
      let x = slice_get-map_some (λ (x : Held). let c : Cell = record { held = x; joined = true } in c) r.given i c front in
      let from : slice_get (held_from b v 0 (timeline_of (tokens_of b.base) v)) i ≡ Some x.0 = ap (λ (l : List Held). slice_get l i) (sym h.given) ∙ x.1 in
      let zero_plus : 0 + i ≡ i = omega arith in
      ap (λ (y : Cell). y.held.stop) (sym x.2) ∙ held_from_at b v 0 i (timeline_of (tokens_of b.base) v) x.0 from ∙ ap (λ (n : ℕ). place_of (ending v n) (points_of b.base)) zero_plus

  given_there : (i : ℕ) → i < length r.given → (c : Cell) × (slice_get (cells r) i ≡ Some c)
  given_there i inside =
      let d : Cell = record { held = nobody; joined = true } in
      let size = length-append (map (λ (x : Held). let c : Cell = record { held = x; joined = true } in c) r.given) r.added in
      let many = length-map' (λ (x : Held). let c : Cell = record { held = x; joined = true } in c) r.given in
      (get_or (cells r) i d, slice_get-get_or (cells r) i d (omega arith))

pub some_same : {X : Type 0} {x y : X} → Some x ≡ Some y → x ≡ y
some_same e = cc

one_row : (m : Mission) (b : Begun) (p : Partial) → IsSound m b p → (v : ℕ) (q : Row) → slice_get p.rows v ≡ Some q → IsRow b v q
one_row m b p sound v q is = let e : 0 + v ≡ v = omega arith in subst (λ (n : ℕ). IsRow b n q) e (row_at b 0 v p.rows q sound.rows is)

-- the token that a board keeps at a place of the partial plan that it shows
pub token_shown : (d : Board) (p : Partial) → pictured d ≡ p → ((v : ℕ) (s : Shown) → slice_get d.lines.items v ≡ Some s → IsLine s) → (t : TokenRef) → IsThere p t → HasToken d t × (held_by p t ≡ (token_of d t).held)
token_shown d p shows line t h =
    let l = line_shown d t.sv.0 h.row (ap (λ (q : Partial). slice_get q.rows t.sv.0) shows ∙ h.is_row) in
    let cells_are : cells h.row ≡ map cell_of (line_at d t.sv.0).tokens = ap cells (sym l.1) ∙ cells-row (line_at d t.sv.0) (line t.sv.0 (line_at d t.sv.0) l.0).joined in
    let x = slice_get-map_some cell_of (line_at d t.sv.0).tokens t.place h.cell (ap (λ (cs : List Cell). slice_get cs t.place) (sym cells_are) ∙ h.here) in
    let e : token_of d t ≡ x.0 = get_or_from_slice_get (line_at d t.sv.0).tokens t.place x.0 nothing_held x.1 in (
      record { row = slice_get_within d.lines.items t.sv.0 (line_at d t.sv.0) l.0; place = slice_get_within (line_at d t.sv.0).tokens t.place x.0 x.1 },
      held_is p t.sv.0 t.place h.row h.cell h.is_row h.here ∙ ap (λ (c : Cell). c.held) (sym (ap cell_of e ∙ x.2)),
    )

-- what the board finds of a token's needs is so of the partial plan that it shows
module _ (m : Mission) (b : Begun) (may : MayBegin m b) (p : Partial) (sound : IsSound m b p) (apart : AreApart p) (d : Board) (shows : pictured d ≡ p) (line : (v : ℕ) (s : Shown) → slice_get d.lines.items v ≡ Some s → IsLine s) (t : TokenRef) (has : HasToken d t) where
  rows_are : map row_of d.lines.items ≡ p.rows
  rows_are = ap (λ (q : Partial). q.rows) shows

  pub line_is : slice_get d.lines.items t.sv.0 ≡ Some (line_at d t.sv.0)
  line_is = slice_get-get_or d.lines.items t.sv.0 no_line has.row

  pub token_is : slice_get (line_at d t.sv.0).tokens t.place ≡ Some (token_of d t)
  token_is = slice_get-get_or (line_at d t.sv.0).tokens t.place nothing_held has.place

  row_is : slice_get p.rows t.sv.0 ≡ Some (row_of (line_at d t.sv.0))
  row_is = row_of_line m b p sound apart d.lines.items rows_are line t.sv.0 (line_at d t.sv.0) line_is

  cell_is : slice_get (cells (row_of (line_at d t.sv.0))) t.place ≡ Some (cell_of (token_of d t))
  cell_is = cell_of_line m b p sound apart d.lines.items rows_are line t.sv.0 t.place (line_at d t.sv.0) (token_of d t) line_is token_is

  own_row : IsRow b t.sv.0 (row_of (line_at d t.sv.0))
  own_row = is_row m b p sound apart d.lines.items rows_are line t.sv.0 (line_at d t.sv.0) line_is

  many : length (row_of (line_at d t.sv.0)).given ≡ (line_at d t.sv.0).given
  many = given_shown (line_at d t.sv.0) (line t.sv.0 (line_at d t.sv.0) line_is)

  -- no support of the plan is for a new token
  other_end : (line_at d t.sv.0).given ≤ t.place → (r : Support) → IsNamed b.base r → stop b.base r.token ≡ (token_of d t).held.stop → ⊥
  other_end new r named e =
      let v = r.token.sv.0 in
      let i = r.token.place in
      let x = (token_of d t).held in
      let mine = row_of (line_at d t.sv.0) in
      let below : v < length m.vars = variable_there m b.base r.token named.kind may.checked named.is in
      let q : Row = get_or p.rows v no_row in
      let q_is : slice_get p.rows v ≡ Some q = slice_get-get_or p.rows v no_row (let o = sound.one_each in omega arith) in
      let its = one_row m b p sound v q q_is in
      let inside : i < length q.given = let w = slice_get_within (timeline_of (tokens_of b.base) v) i named.kind named.is in let g = given_many b v q its in omega arith in
      let c = given_there b v q its i inside in
      let stops : c.0.held.stop ≡ x.stop = given_stop b v q its i c.0 inside c.1 ∙ e in
      let held : c.0.held ≡ x = sound.distinct v t.sv.0 c.0.held x (record { row = q; is_row = q_is; place = i; cell = c.0; here = c.1; held = refl }) (at_line m b p sound apart d.lines.items rows_are line t.sv.0 t.place (line_at d t.sv.0) (token_of d t) line_is token_is) stops in
      let rows : v ≡ t.sv.0 = sym (cell_variable m b p sound v i q c.0 its c.1) ∙ ap (λ (y : Held). y.kind.sv.0) held ∙ cell_variable m b p sound t.sv.0 t.place mine (cell_of (token_of d t)) own_row cell_is in
      let same : q ≡ mine = some_same (sym q_is ∙ ap (slice_get p.rows) rows ∙ row_is) in
      let places : i ≡ t.place = one_place (cells q) i t.place c.0 (cell_of (token_of d t)) (apart.each v q q_is) c.1 (ap (λ (z : Row). slice_get (cells z) t.place) same ∙ cell_is) stops in
      let size = ap (λ (z : Row). length z.given) same in
      absurd (omega (arith, many, size, inside, places))

  -- what the plan that is extended serves
  claimed : (k : ℕ) → (nat_lt t.place (line_at d t.sv.0).given && list_any (is_claim t k) (supports_of b.base)) ≡ was_served b (token_of d t).held k
  claimed k = elim (cases_lt t.place (line_at d t.sv.0).given) [
    | inl given ↦
        let x = (token_of d t).held.stop in
        let inside : t.place < length (row_of (line_at d t.sv.0)).given = omega (arith, many) in
        let there : t.place < length (timeline_of (tokens_of b.base) t.sv.0) = let g = given_many b t.sv.0 (row_of (line_at d t.sv.0)) own_row in omega arith in
        let ends : x ≡ stop b.base t = given_stop b t.sv.0 (row_of (line_at d t.sv.0)) own_row t.place (cell_of (token_of d t)) inside cell_is in
        ap (λ (c : Bool). c && list_any (is_claim t k) (supports_of b.base)) (lt-ltb t.place (line_at d t.sv.0).given given)
        ∙ claims_same m b.base may.checked t x k there ends
    | inr new ↦
        let x = (token_of d t).held.stop in
        ap (λ (c : Bool). c && list_any (is_claim t k) (supports_of b.base)) (le-ltb t.place (line_at d t.sv.0).given new)
        ∙ sym (none_any (λ (s : Support). nat_eq (stop b.base s.token) x && nat_eq s.need k) (supports_of b.base)
        (each_weaker (IsNamed b.base) (λ (s : Support). (nat_eq (stop b.base s.token) x && nat_eq s.need k) ≡ false) (λ s named. unlike (stop b.base s.token) x (nat_eq s.need k) (other_end new s named)) (supports_of b.base) (supports_named m b.base may.checked)))
  ]

  -- and this one, or leaves to a later one
  pub served_at : (k : ℕ) → is_served_at b.base d t (token_of d t).held.stop k ≡ is_served b p (token_of d t).held k
  served_at k =
      let x = (token_of d t).held.stop in
      let backed : List Backing → Bool = λ ss. list_any (λ (s : Backing). nat_eq s.token.stop x && nat_eq s.need k) ss in
      let left : List Deferral → Bool = λ es. list_any (λ (e : Deferral). nat_eq e.stop x && nat_eq e.need k) es in
      ap (λ (c : Bool). (backed d.supports.items || left d.deferred.items) || c) (claimed k)
      ∙ or_turn (backed d.supports.items) (left d.deferred.items) (was_served b (token_of d t).held k)
      ∙ ap (λ (ss : List Backing). (was_served b (token_of d t).held k || backed ss) || left d.deferred.items) (ap (λ (q : Partial). q.supports) shows)
      ∙ ap (λ (es : List Deferral). (was_served b (token_of d t).held k || backed p.supports) || left es) (ap (λ (q : Partial). q.deferred) shows)
