use Rattle.std.proofs.Common.{◌≡◌, ℤ, ◌++◌, List, OnOk, ap, ◌∙◌, subst, append_assoc}
use Rattle.hs_base.specs.declared.net.Bound.{Bound}
use Rattle.timeline_db.proofs.OpeningLemmas.{whole_fits}
use Rattle.timeline_db.specs.Kept.{from_since, lasting, until_last}
use Rattle.timeline_db.proofs.bounding.push_within.Goals as goal

pub returns : goal.returns
returns c =
    let x = c.args.held in
    let r = c.args.lasts in
    let tick = c.args.outlook.tick in
    let since = c.args.outlook.since in
    let made = c.args.made.now.items in
    let last = until_last tick x r in
    let from = from_since since x r in
    let ended =
    c.in_ok-push_until_last.ensures
    ∙ ap (λ (z : ℤ). c.push_lasts.new.made.items ++ until_last z x r) (whole_fits tick c.requires.tick)
    ∙ ap (λ (l : List Bound). l ++ last) c.in_ok-push_lasts.ensures in
    let all =
    ap (λ (z : ℤ). c.push_until_last.new.made.items ++ from_since z x r) (whole_fits since c.requires.since)
    ∙ ap (λ (l : List Bound). l ++ from) (ended ∙ append_assoc made (lasting x r) last)
    ∙ append_assoc made (lasting x r ++ last) from in
    subst (λ (l : List Bound). OnOk c.push_from_since.result (c.push_from_since.new.made.items ≡ l)) all c.push_from_since.ensures
