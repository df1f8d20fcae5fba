use Rattle.std.proofs.Common.{◌∙◌, ◌++◌, ◌∷◌, [], Bool, List, cond, pos, get_or, take, sym, ap, arith}
use Rattle.std.specs.Prelude.{filter}
use Rattle.std.proofs.lemmas.List.{take_more}
use Rattle.std.proofs.lemmas.List.Elements.{filter-append}
use Rattle.edge_filter.specs.declared.candidates.Candidate.{Candidate}
use Rattle.edge_filter.specs.Candidates.{is_left}
use Rattle.edge_filter.proofs.candidates.left_by.Goals as goal

pub loop-next-preserved : goal.loop-next-preserved
loop-next-preserved c =
    let waiting = c.args.waiting.now in let i = c.loop-next.next-index in let p : Candidate → Bool = is_left c.args.row.now c.args.candidate.now in
    let none : Candidate = record { place = 0; weight = pos 0; key = pos 0 } in let x : Candidate = get_or waiting i none in
    rw (c.in_ok-push_if.ensures, c.is_left.ensures) (
    ap (λ (bs : List Candidate). bs ++ cond (p x) (x ∷ []) []) c.loop-next.invariant ∙ sym (filter-append p (take i waiting) (x ∷ [])) ∙ ap (filter p) (sym (take_more waiting i none (omega arith)))
    )
