-- The table as it is made keeps the rule.
use Rattle.std.proofs.Common.{rules, ◌≡◌, [], ◌∷◌, sym, subst}
use Rattle.atomic_table.specs.Table.{opening}
use Rattle.exec_lock.specs.Rule.{first_seat, IsKept}
use Rattle.exec_lock.proofs.EndLemmas.{begins_kept}
use Rattle.exec_lock.proofs.shared.Shared.begin.Goals as goal

pub new-requires : goal.new-requires
new-requires g c =
    let x = c.of-about.result.value in
    let items : c.push.new.self.items ≡ x ∷ [] = search rules in
    subst (λ l. IsKept g.X.Core.opening g.X.Core.history x (opening (0 ∷ []) l (first_seat (g.X.Core.opening x) (g.X.Core.history x)))) (sym items) (begins_kept g.X.Core.opening g.X.Core.history x)
