use Rattle.std.proofs.Common.{◌≡◌, ◌∙◌, ℕ, ◌<◌, ℤ, List, [], length, get_or, Contains, sym, ap, subst}
use Rattle.std.specs.Prelude.{filter}
use Rattle.std.proofs.lemmas.List.Elements.{All-contains, Contains-get_or}
use Rattle.stn_distance.specs.Rows.{items_of}
use Rattle.edge_filter.specs.declared.candidates.Candidate.{Candidate}
use Rattle.edge_filter.specs.Weights.{IsRow}
use Rattle.edge_filter.specs.Candidates.{IsPlaced, is_left}
use Rattle.edge_filter.proofs.CandidateLemmas.{IsNarrowing, IsNarrowing-more, grid_row, left_shorter}
use Rattle.edge_filter.proofs.candidates.narrowed.Goals as goal

pub row_of-requires : goal.row_of-requires
row_of-requires c =
    let b = c.in-Some.candidate in
    let there : Contains c.candidates.waiting.items b = subst (λ (xs : List Candidate). Contains xs b) c.deref.ensures.value c.in-Some.ensures in
    (All-contains (IsPlaced (length c.args.rows.now)) c.args.others.now b c.requires.others (c.candidates.invariant.from b there)).within

pub left_by-requires-clause-waiting : goal.left_by-requires-clause-waiting
left_by-requires-clause-waiting c =
    let n = length c.args.rows.now in let b = c.in-Some.candidate in let waiting = c.deref-in-Some.result.now in
    let there : Contains c.candidates.waiting.items b = subst (λ (xs : List Candidate). Contains xs b) c.deref.ensures.value c.in-Some.ensures in
    let placed = All-contains (IsPlaced n) c.args.others.now b c.requires.others (c.candidates.invariant.from b there) in
    let row : IsRow n c.row_of.result.now = grid_row n (items_of c.args.rows.now) b.place c.row_of.result.now c.requires.rows placed.within c.row_of.ensures in
    λ k e l.
    (let x = get_or waiting k e in
    let given = c.candidates.invariant.from x (subst (λ (xs : List Candidate). Contains xs x) c.deref-in-Some.ensures.value (Contains-get_or waiting k e l)) in
    subst (λ (m : ℕ). IsPlaced m x) (sym row.long) (All-contains (IsPlaced n) c.args.others.now x c.requires.others given))

pub left_by-requires-clause-candidate : goal.left_by-requires-clause-candidate
left_by-requires-clause-candidate c =
    let n = length c.args.rows.now in let b = c.in-Some.candidate in
    let there : Contains c.candidates.waiting.items b = subst (λ (xs : List Candidate). Contains xs b) c.deref.ensures.value c.in-Some.ensures in
    let placed = All-contains (IsPlaced n) c.args.others.now b c.requires.others (c.candidates.invariant.from b there) in
    let row : IsRow n c.row_of.result.now = grid_row n (items_of c.args.rows.now) b.place c.row_of.result.now c.requires.rows placed.within c.row_of.ensures in
    subst (λ (m : ℕ). IsPlaced m b) (sym row.long) placed

pub candidates-smaller : goal.candidates-smaller
candidates-smaller c =
    let b = c.in-Some.candidate in let waiting = c.candidates.waiting.items in let row = c.row_of.result.now in
    let there : Contains waiting b = subst (λ (xs : List Candidate). Contains xs b) c.deref.ensures.value c.in-Some.ensures in
    subst (λ (xs : List Candidate). length xs < length waiting) (sym (c.in_ok-waiting-2.ensures ∙ ap (filter (is_left row b)) c.deref-in-Some.ensures.value)) (left_shorter row waiting b there)

pub candidates-preserved : goal.candidates-preserved
candidates-preserved c =
    let b = c.in-Some.candidate in let waiting = c.candidates.waiting.items in let bs = c.candidates.candidates.items in let row = c.row_of.result.now in
    let rows = items_of c.args.rows.now in let given = c.args.others.now in
    let there : Contains waiting b = subst (λ (xs : List Candidate). Contains xs b) c.deref.ensures.value c.in-Some.ensures in
    let left = filter (is_left (get_or rows b.place []) b) waiting in
    let is : c.in_ok-waiting-2.waiting.items ≡ left =
    c.in_ok-waiting-2.ensures ∙ ap (filter (is_left row b)) c.deref-in-Some.ensures.value ∙ ap (λ (r : List ℤ). filter (is_left r b) waiting) c.row_of.ensures in
    subst (λ (xs : List Candidate). IsNarrowing rows given xs c.push.new.self.items) (sym is)
    (subst (λ (xs : List Candidate). IsNarrowing rows given left xs) (sym c.in_ok-push.ensures.items) (IsNarrowing-more rows given waiting bs b there c.candidates.invariant))
