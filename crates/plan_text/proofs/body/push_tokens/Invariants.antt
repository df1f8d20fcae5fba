use Rattle.std.proofs.Common.{◌≡◌, ◌++◌, flat_map, take}
use Rattle.hs_texts.specs.Written.{token_line}
use Rattle.plan_text.proofs.body.push_tokens.Given as goal

abbrev pub invariant-loop-token : goal.invariant-loop-token
invariant-loop-token l = l.text ≡ l.fn.text ++ flat_map (token_line l.mission) (take l.token-index l.tokens)
