use Rattle.std.proofs.Common.{◌≡◌, ◌+◌, ◌++◌, [], ◌∷◌, List, take, get_or, sym, ap, subst, ◌∙◌, append_assoc}
use Rattle.std.proofs.lemmas.List.{take_more}
use Rattle.hs_base.specs.declared.plan.Support.{Support}
use Rattle.plan_check.specs.Claimed.{AreClaims}
use Rattle.plan_check.proofs.claims.Claims.insert_all.Goals as goal

abbrev pub no_support : Support
no_support = record { token = record { sv = record { 0 = 0 }; place = 0 }; need = 0; by = record { sv = record { 0 = 0 }; place = 0 } }

pub loop-support-preserved : goal.loop-support-preserved
loop-support-preserved c = λ before h.
    let supports = c.args.supports.now in
    let i = c.loop-support.support-index in
    let more : (before ++ take i supports) ++ get_or supports i no_support ∷ [] ≡ before ++ take (i + 1) supports = append_assoc before (take i supports) (get_or supports i no_support ∷ []) ∙ ap (λ l. before ++ l) (sym (take_more supports i no_support c.loop-support-test.true)) in
    subst (λ (l : List Support). AreClaims l c.insert.new.self.set) more (c.in_ok-insert.ensures.claims (before ++ take i supports) (c.loop-support.invariant before h))
