use Rattle.std.proofs.Common.{◌≡◌, ◌∙◌, ℕ, ◌<◌, Bool, false, ℤ, List, [], length, get_or, map, sym, ap, subst, arith, All, Contains}
use Rattle.std.proofs.lemmas.List.{ext_get_or, get_or-map, length-map}
use Rattle.std.proofs.lemmas.List.Elements.{All-contains, Contains-get_or}
use Rattle.stn_distance.specs.Distances.{weight}
use Rattle.stn_distance.specs.Rows.{items_of}
use Rattle.edge_filter.specs.declared.candidates.Candidate.{Candidate}
use Rattle.edge_filter.specs.Sides.{is_kept_on, along}
use Rattle.edge_filter.specs.Weights.{IsRow}
use Rattle.edge_filter.specs.Candidates.{IsPlaced, IsOther, HasOthers, AreNarrowed}
use Rattle.edge_filter.proofs.CandidateLemmas.{grid_row, own_row, placed_others, kept_tells}
use Rattle.edge_filter.proofs.filter.kept_on.Goals as goal

pub others_of-requires-clause-middles : goal.others_of-requires-clause-middles
others_of-requires-clause-middles c =
    let row : IsRow (length c.args.rows.now) c.row_of.result.now = grid_row (length c.args.rows.now) (items_of c.args.rows.now) c.args.place c.row_of.result.now c.requires.rows c.requires.place c.row_of.ensures in
    c.requires.middles ∙ sym row.long

pub others_of-requires-clause-row : goal.others_of-requires-clause-row
others_of-requires-clause-row c = own_row (length c.args.rows.now) c.row_of.result.now (grid_row (length c.args.rows.now) (items_of c.args.rows.now) c.args.place c.row_of.result.now c.requires.rows c.requires.place c.row_of.ensures)

pub narrowed-requires-clause-others : goal.narrowed-requires-clause-others
narrowed-requires-clause-others c =
    subst (λ (bs : List Candidate). All (IsPlaced (length c.args.rows.now)) bs) (sym c.deref.ensures.value)
    (placed_others c.args.side c.row_of.result.now c.args.place (length c.args.rows.now) c.in_ok-others.others.items
    (grid_row (length c.args.rows.now) (items_of c.args.rows.now) c.args.place c.row_of.result.now c.requires.rows c.requires.place c.row_of.ensures) c.in_ok-others.ensures.each)

pub unpassed-requires-clause-candidates : goal.unpassed-requires-clause-candidates
unpassed-requires-clause-candidates c =
    let given = c.deref.result.now in let bs = c.deref-2.result.now in let n = length c.args.rows.now in
    let placed : All (IsPlaced n) given =
    subst (λ (xs : List Candidate). All (IsPlaced n) xs) (sym c.deref.ensures.value)
    (placed_others c.args.side c.row_of.result.now c.args.place n c.in_ok-others.others.items (grid_row (length c.args.rows.now) (items_of c.args.rows.now) c.args.place c.row_of.result.now c.requires.rows c.requires.place c.row_of.ensures) c.in_ok-others.ensures.each) in
    λ k e l.
    All-contains (IsPlaced n) given (get_or bs k e) placed
    (c.in_ok-candidates.ensures.each (get_or bs k e) (subst (λ (xs : List Candidate). Contains xs (get_or bs k e)) c.deref-2.ensures.value (Contains-get_or bs k e l)))

pub returns : goal.returns
returns c = λ d ls h e.
    (let side = c.args.side in let a = c.args.place in let rows = items_of c.args.rows.now in let marks = c.in_ok-marks.ensures in
    let given = c.deref.result.now in let bs = c.deref-2.result.now in
    let rows_long : length rows ≡ length c.args.rows.now = length-map c.args.rows.now (λ row. row.items) in
    let long : length rows ≡ length ls = ap (λ (rs : List (List ℤ)). length rs) e ∙ length-map ls (λ b. map (along side (weight d) b) ls) in
    let within = c.requires.place in
    let la : a < length ls = omega arith in
    let others : All (IsOther side (get_or rows a []) a) given =
    subst (λ (row : List ℤ). All (IsOther side row a) given) c.row_of.ensures (subst (λ (xs : List Candidate). All (IsOther side c.row_of.result.now a) xs) (sym c.deref.ensures.value) c.in_ok-others.ensures.each) in
    let has : HasOthers side (get_or rows a []) a (length (get_or rows a [])) given =
    subst (λ (row : List ℤ). HasOthers side row a (length row) given) c.row_of.ensures
    (subst (λ (xs : List Candidate). HasOthers side c.row_of.result.now a (length c.row_of.result.now) xs) (sym c.deref.ensures.value) c.in_ok-others.ensures.all) in
    let narrowed : AreNarrowed rows given bs = subst (λ (xs : List Candidate). AreNarrowed rows given xs) (sym c.deref-2.ensures.value) c.in_ok-candidates.ensures in
    let test : ℕ → Bool = is_kept_on side (weight d) ls (get_or ls a 0) in
    ext_get_or false c.in_ok-marks.marks.items (map test ls) (marks.long ∙ long ∙ sym (length-map ls test))
    (λ i l.
    (let marks_long = marks.long in
    let li : i < length ls = omega arith in
    marks.each i (omega arith) ∙ kept_tells side d ls a rows given bs h e la others has narrowed i li ∙ sym (get_or-map test ls i 0 false li))))
