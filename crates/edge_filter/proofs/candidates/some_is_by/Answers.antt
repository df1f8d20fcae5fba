use Rattle.std.proofs.Common.{ℕ, pos, length, get_or, sym, subst, arith}
use Rattle.stn_distance.specs.Rows.{items_of}
use Rattle.edge_filter.specs.declared.candidates.Candidate.{Candidate}
use Rattle.edge_filter.specs.Weights.{IsRow}
use Rattle.edge_filter.specs.Candidates.{IsPlaced}
use Rattle.edge_filter.proofs.CandidateLemmas.{grid_row, own_row}
use Rattle.edge_filter.proofs.candidates.some_is_by.Goals as goal

abbrev none : Candidate
none = record { place = 0; weight = pos 0; key = pos 0 }

pub is_by-requires-clause-row : goal.is_by-requires-clause-row
is_by-requires-clause-row c =
    let b : Candidate = get_or c.args.candidates.now c.loop-candidate.candidate-index none in
    let placed : IsPlaced (length c.args.rows.now) b = c.requires.candidates c.loop-candidate.candidate-index none (omega arith) in
    own_row (length c.args.rows.now) c.row_of.result.now (grid_row (length c.args.rows.now) (items_of c.args.rows.now) b.place c.row_of.result.now c.requires.rows placed.within c.row_of.ensures)

pub is_by-requires-clause-candidate : goal.is_by-requires-clause-candidate
is_by-requires-clause-candidate c =
    let b : Candidate = get_or c.args.candidates.now c.loop-candidate.candidate-index none in
    let placed : IsPlaced (length c.args.rows.now) b = c.requires.candidates c.loop-candidate.candidate-index none (omega arith) in
    let row : IsRow (length c.args.rows.now) c.row_of.result.now = grid_row (length c.args.rows.now) (items_of c.args.rows.now) b.place c.row_of.result.now c.requires.rows placed.within c.row_of.ensures in
    subst (λ (n : ℕ). IsPlaced n b) (sym row.long) placed

pub is_by-requires-clause-other : goal.is_by-requires-clause-other
is_by-requires-clause-other c =
    let b : Candidate = get_or c.args.candidates.now c.loop-candidate.candidate-index none in
    let placed : IsPlaced (length c.args.rows.now) b = c.requires.candidates c.loop-candidate.candidate-index none (omega arith) in
    let row : IsRow (length c.args.rows.now) c.row_of.result.now = grid_row (length c.args.rows.now) (items_of c.args.rows.now) b.place c.row_of.result.now c.requires.rows placed.within c.row_of.ensures in
    subst (λ (n : ℕ). IsPlaced n c.args.other.now) (sym row.long) c.requires.other
