use Rattle.std.proofs.Common.{◌∙◌, [], List, ap, sym, subst, get_or}
use Rattle.std.proofs.lemmas.List.{get_or_read}
use Rattle.hs_base.specs.declared.net.Bound.{Bound}
use Rattle.stn_trail.specs.Rows.{IsIn}
use Rattle.stn_trail.specs.declared.moves.Cause.{Cause}
use Rattle.stn_trail.proofs.RaisingLemmas.{no_bound, bound_is_in, bound_told}
use Rattle.stn_trail.proofs.cycle.cause_of.Goals as goal

pub returns-clause-is : goal.returns-clause-is
returns-clause-is c =
    let row = c.as_slice-row.ensures ∙ get_or_read c.args.rows.now _ _ c.if-to-rows.false c.index-rows-to.is [] in
    let cause : Cause = get_or c.args.causes.now c.args.point (record { to = 0; place = 0 }) in
    bound_told c.args.rows.now cause.to c.as_slice-row.result.now cause.place no_bound row c.requires.rows c.if-place-row.false ∙ ap (λ (bs : List Bound). get_or bs cause.place no_bound) row

pub returns-clause-given : goal.returns-clause-given
returns-clause-given c =
    let row = c.as_slice-row.ensures ∙ get_or_read c.args.rows.now _ _ c.if-to-rows.false c.index-rows-to.is [] in
    subst (IsIn c.args.rows.now) (sym (bound_told c.args.rows.now _ c.as_slice-row.result.now _ no_bound row c.requires.rows c.if-place-row.false))
    (bound_is_in c.args.rows.now _ c.as_slice-row.result.now _ no_bound row c.requires.rows c.if-place-row.false)
