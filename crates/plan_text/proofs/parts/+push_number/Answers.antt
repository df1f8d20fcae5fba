use Rattle.std.proofs.Common.{◌≡◌, ◌++◌, ◌<◌, ◌+◌, ◌^◌, ◌%◌, ◌/◌, [], ◌∷◌, arith}
use Rattle.std.specs.Fmt.{decimal}
use Rattle.std.proofs.lemmas.Fmt.{decimal_step, decimal_digit}
use Rattle.std.proofs.lemmas.Grind.{common_steps}
use Rattle.plan_text.proofs.parts.+push_number.Goals as goal
use Rattle.plan_text.proofs.parts.+push_number.Goals.{then-number-ge10+in_ok-push_number, else-number-ge10}

pub returns : goal.returns
returns t c =
    let small : c.args.number < 2 ^ 64 = omega arith in
    elim c.if-number-ge10.branch [
      | then-number-ge10+in_ok-push_number w ↦
          let e : decimal c.args.number ≡ decimal (c.args.number / 10) ++ ((48 + c.args.number % 10) ∷ []) = decimal_step c.args.number (omega arith) small in
          grind (arith, common_steps)
      | else-number-ge10 w ↦
          let e : decimal c.args.number ≡ (48 + c.args.number) ∷ [] = decimal_digit c.args.number (omega arith) in
          grind (arith, common_steps)
    ]
