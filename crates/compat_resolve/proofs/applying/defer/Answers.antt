use Rattle.std.proofs.Common.{Bool, List, [], cond, subst, sym, ◌++◌, ◌∷◌, ◌∙◌}
use Rattle.search_tree.specs.declared.part.Part.{Part}
use Rattle.search_tree.specs.declared.part.Part.TheVariants.{Deferred, Finished}
use Rattle.compat_resolve.specs.Applied.{MayDoParts}
use Rattle.compat_resolve.proofs.ApplyLemmas.{allowed_then, prolongs_none}
use Rattle.compat_resolve.proofs.applying.defer.Goals as goal

pub defer-requires-in-Ok : goal.defer-requires-in-Ok
defer-requires-in-Ok c =
    let both : MayDoParts c.args.db.now (Finished c.args.token.sv ∷ Deferred c.args.token c.args.need ∷ []) = subst (λ (f : Bool). MayDoParts c.args.db.now (cond {A = List Part} f [] (Finished c.args.token.sv ∷ []) ++ Deferred c.args.token c.args.need ∷ [])) (sym c.is_finished.ensures ∙ c.if-is_finished.false) c.requires in
    (allowed_then c.args.db.now c.finish.new.self (Finished c.args.token.sv) (Deferred c.args.token c.args.need ∷ []) c.in-Ok.ensures.does both.1).0.0

pub returns-in-Err-clause-more : goal.returns-in-Err-clause-more
returns-in-Err-clause-more c = prolongs_none c.args.db.now c.finish.new.self c.in-Err.ensures.same
