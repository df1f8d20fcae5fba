-- What holds of the timelines of a partial plan whose parts were allowed.
use Rattle.std.proofs.Common.{◌≡◌, ◌⊎◌, ℕ, zero, suc, ◌+◌, ◌-◌, ◌<◌, ◌≤◌, ◌^◌, true, false, List, [], ◌∷◌, length, map, slice_get, Some, refl, sym, ap, ◌∙◌, subst, arith, inl, inr}
use Rattle.std.proofs.lemmas.Bool.{cases_lt, false≢true}
use Rattle.std.proofs.lemmas.Option.{get_or_from_slice_get, slice_get-get_or, slice_get-map, slice_get_within}
use Rattle.std.specs.List.{AllByRecursion}
use Rattle.std.specs.Prelude.{get_or, option_map}
use Rattle.hs_base.specs.declared.mission.Mission.{Mission}
use Rattle.hs_base.specs.declared.ids.SvId.{SvId}
use Rattle.hs_base.specs.declared.plan.TokenRef.{TokenRef}
use Rattle.search_laws.proofs.FlawLemmas.{HasSlot, IsFlaw, flaw_is}
use Rattle.search_laws.proofs.GoodLemmas.{good_all, good_root}
use Rattle.search_laws.specs.Good.{AreAllowed, IsGood}
use Rattle.search_tree.proofs.CellLemmas.{each_from_at, length-map', row_at}
use Rattle.search_tree.proofs.SoundLemmas.{cell_variable}
use Rattle.search_tree.specs.Begun.{Begun}
use Rattle.search_tree.specs.Flaws.{flaws}
use Rattle.search_tree.specs.May.{IsThere}
use Rattle.search_tree.specs.Outset.{MayBegin}
use Rattle.search_tree.specs.Partial.{Partial, Row, begin, cells, no_row, row}
use Rattle.search_tree.specs.Sound.{IsRow}
use Rattle.search_tree.specs.declared.flaw.Flaw.{Flaw}
use Rattle.search_tree.specs.declared.flaw.Flaw.TheVariants.{Gap as GapFlaw, Need as NeedFlaw}
use Rattle.timeline_db.specs.Heads.{IsHead}
use Rattle.timeline_db.specs.Lines.{Shown, cell_of, row_of}
use Rattle.timeline_db.specs.Plannings.{Planning, partial_of}
use Rattle.timeline_db.specs.Tracked.{IsLine}
use Rattle.timeline_db.specs.declared.token.Token.{Token}
use Rattle.timeline_db.proofs.PictureLemmas.{cells-row}
use Rattle.timeline_db.proofs.TotalLemmas.{row_few}

-- the partial plan that allowed parts made is good
pub made_good : (d : Planning) → MayBegin d.mission d.begun → AreAllowed d.mission d.begun (begin d.mission d.begun) d.parts → IsGood d.mission d.begun (partial_of d)
made_good d may allowed = good_all d.mission d.begun (begin d.mission d.begun) d.parts allowed (good_root d.mission d.begun may)

module _ (m : Mission) (b : Begun) (p : Partial) (may : MayBegin m b) (good : IsGood m b p) where
  row_is : (v : ℕ) → (slice_get p.rows v ≡ Some (row p v)) ⊎ (row p v ≡ no_row)
  row_is v = elim (cases_lt v (length p.rows)) [ inl below ↦ inl (slice_get-get_or p.rows v no_row below) | inr past ↦ inr (beyond p.rows v past) ]
    where
      beyond : (rows : List Row) (v : ℕ) → length rows ≤ v → get_or rows v no_row ≡ no_row
      beyond [] v past = refl
      beyond (r ∷ rows) zero past = absurd (omega arith)
      beyond (r ∷ rows) (suc v) past = beyond rows v (omega arith)

  row_of_plan : (v : ℕ) (r : Row) → slice_get p.rows v ≡ Some r → IsRow b v r
  row_of_plan v r is = let e : 0 + v ≡ v = omega arith in subst (λ n. IsRow b n r) e (row_at b 0 v p.rows r good.sound.rows is)

  -- a row has few tokens
  pub few_cells : (v : ℕ) → length (cells (row p v)) ≤ 131072
  few_cells v = elim (row_is v) [
    | inl is ↦ let few = row_few m b p may good v (row p v) is in omega arith
    | inr none ↦ rw none (omega arith)
  ]

  module _ (v : ℕ) (s : Shown) (line : IsLine s) (shows : row_of s ≡ row p v) where
    shown : cells (row p v) ≡ map cell_of s.tokens
    shown = ap cells (sym shows) ∙ cells-row s line.joined

    pub few_tokens : length s.tokens < 2 ^ 32
    few_tokens = let few = few_cells v in omega (arith, ap length shown, length-map' cell_of s.tokens)

    pub own_tokens : AllByRecursion (λ (t : Token). t.held.kind.sv.0 ≡ v) s.tokens
    own_tokens = each_from_at (λ (t : Token). t.held.kind.sv.0 ≡ v) s.tokens (λ i t here.
        let there : slice_get (cells (row p v)) i ≡ Some (cell_of t) = ap (λ l. slice_get l i) shown ∙ slice_get-map cell_of s.tokens i ∙ ap (option_map cell_of) here in
        elim (row_is v) [
          | inl is ↦ cell_variable m b p good.sound v i (row p v) (cell_of t) (row_of_plan v (row p v) is) there
          | inr none ↦ let f : slice_get [] i ≡ Some (cell_of t) = ap (λ (r : Row). slice_get (cells r) i) (sym none) ∙ there in absurd (cc)
        ])

    pub some_tokens : s.finished ≡ false → 0 < length s.tokens
    some_tokens ajar = elim (row_is v) [
      | inl is ↦ let some = (row_of_plan v (row p v) is).some in omega (arith, ap length shown, length-map' cell_of s.tokens)
      | inr none ↦ absurd (false≢true (sym ajar ∙ ap (λ (r : Row). r.finished) (shows ∙ none)))
    ]

    pub all_shown : cells (row p v) ≡ map cell_of s.tokens
    all_shown = shown

    pub end_shown : (row p v).finished ≡ s.finished
    end_shown = ap (λ (r : Row). r.finished) (sym shows)

  -- there is no row of a variable that the mission hasn't
  pub no_line : (v : ℕ) → length m.vars ≤ v → row p v ≡ no_row
  no_line v past = elim (row_is v) [
    | inl is ↦ let w = slice_get_within p.rows v (row p v) is in let e = good.sound.one_each in absurd (omega arith)
    | inr none ↦ none
  ]

-- what the first flaw says
head_is : (d : Planning) (f : Flaw) → IsHead (flaws d.mission d.begun (partial_of d)) f → IsFlaw d.mission d.begun (partial_of d) f
head_is d f h = flaw_is d.mission d.begun (partial_of d) f (0, ap (λ l. slice_get l 0) h.is)

pub need_there : (d : Planning) (f : Flaw) (t : TokenRef) (j : ℕ) → IsHead (flaws d.mission d.begun (partial_of d)) f → f ≡ NeedFlaw t j → IsThere (partial_of d) t
need_there d f t j h is = (subst (IsFlaw d.mission d.begun (partial_of d)) is (head_is d f h)).0

pub slot_there : (d : Planning) (f : Flaw) (v : SvId) (i : ℕ) → IsHead (flaws d.mission d.begun (partial_of d)) f → f ≡ GapFlaw v i → i < length (cells (row (partial_of d) v.0))
slot_there d f v i h is =
    let s : HasSlot (partial_of d) v.0 i = subst (IsFlaw d.mission d.begun (partial_of d)) is (head_is d f h) in
    let place = s.slot.place in
    let same = ap (λ (r : Row). length (cells r)) (get_or_from_slice_get (partial_of d).rows v.0 s.row no_row s.is_row) in
    omega arith
