-- A push that has room.
use Rattle.std.proofs.Common.{◌≡◌, cond, List, [], ◌∷◌, ◌++◌, ap, ◌∙◌}
use Rattle.std.specs.Prelude.{IsOk, is_ok}
use Rattle.std.specs.declared.result.Result.{Result}

pub pushed : {X U E : Type 0} (r : Result U E) (new old : List X) (x : X) → IsOk r → new ≡ cond (is_ok r) (old ++ x ∷ []) old → new ≡ old ++ x ∷ []
pushed r new old x ok is = is ∙ ap (λ b. cond b (old ++ x ∷ []) old) ok
