-- Reading a plan from left to right, one definition a nonterminal.
use Rattle.std.specs.Prelude.{ℕ, zero, suc, ◌+◌, ◌-◌, nat_eq, ℤ, Bool, cond, List, [], ◌∷◌, ◌++◌, length, Option, codes}
use Rattle.hs_base.specs.declared.mission.Mission.{Mission}
use Rattle.hs_texts.specs.Pieces.{Piece}
use Rattle.hs_texts.specs.PlanGrammar.{count_says}
use Rattle.text_laws.specs.Parsers.{done, Parser, next, go_on, ◌>>=◌, yields, one, is_word, choose, many, keyword, number, after}
use Rattle.text_laws.specs.MissionReading.{name_at}
use Rattle.hs_texts.specs.declared.written.WrittenPoint.{WrittenPoint}
use Rattle.hs_texts.specs.declared.written.WrittenPoint.TheVariants.{Origin, Horizon, End}
use Rattle.hs_texts.specs.declared.written.WrittenToken.{WrittenToken}
use Rattle.hs_texts.specs.declared.written.WrittenTime.{WrittenTime}
use Rattle.hs_texts.specs.declared.written.WrittenKind.{WrittenKind}
use Rattle.hs_texts.specs.declared.written.WrittenSupport.{WrittenSupport}
use Rattle.hs_texts.specs.declared.written.WrittenBody.{WrittenBody}
use Rattle.hs_texts.specs.declared.written.WrittenExtension.{WrittenExtension}
use Rattle.hs_texts.specs.Kept.{Kept, kept, broken}
use Rattle.hs_texts.specs.PlanGrammar.{may_be_fixed, point_size}

-- goes on behind a value
abbrev pub onward_at : {A B : Type 0} → (A → Parser (Kept B)) → Kept A → Parser (Kept B)
onward_at f (kept x) = f x
onward_at f (broken n) = yields (broken n)

-- an item in front of further ones
abbrev pub put : {A : Type 0} → A → Kept (List A) → Kept (List A)
put x (kept xs) = kept (x ∷ xs)
put x (broken n) = broken n

-- items while one is next; n is at least the number of pieces
abbrev pub turns : {A S : Type 0} → (Option Piece → Bool) → (S → Parser (Kept A)) → (S → A → S) → ℕ → S → Parser (Kept (List A))
turns test p step zero s ps = done (kept []) ps
turns test p step (suc n) s ps = cond (test (next ps)) (go_on (p s ps) (onward_at (λ x rest. go_on (turns test p step n (step s x) rest) (λ xs. yields (put x xs))))) (done (kept []) ps)

unfoldable pub series : {A S : Type 0} → (Option Piece → Bool) → (S → Parser (Kept A)) → (S → A → S) → S → Parser (Kept (List A))
series test p step s ps = turns test p step (length ps) s ps

unfoldable pub count_at : Parser ℕ
count_at = one count_says

unfoldable pub exactly_at : ℕ → Parser (Kept (Unit {0}))
exactly_at n = do
  k ← count_at
  yields (cond (nat_eq k n) (kept tt) (broken 1))

unfoldable pub one_more_at : Parser (Kept ℕ)
one_more_at = do
  k ← count_at
  yields (cond (nat_eq k 0) (broken 1) (kept (k - 1)))

unfoldable pub token_at : Parser WrittenToken
token_at = do
  sv ← name_at 1
  place ← count_at
  yields (record { sv = sv; place = place })

unfoldable pub horizon_point_at : Parser WrittenPoint
horizon_point_at = do
  k ← count_at
  yields (Horizon k)

unfoldable pub end_point_at : Parser WrittenPoint
end_point_at = do
  token ← token_at
  yields (End token)

unfoldable pub point_at : Parser WrittenPoint
point_at =
    choose (is_word (codes "Z")) (after "Z" (yields Origin))
    (choose (is_word (codes "H")) (after "H" horizon_point_at) end_point_at)

unfoldable pub fixed_at : WrittenPoint → Parser (Kept WrittenTime)
fixed_at point = do
  at ← number
  yields (kept (record { point = point; at = at }))

unfoldable pub fix_at : Mission → List WrittenExtension → Parser (Kept WrittenTime)
fix_at m es = do
  _ ← keyword "fix"
  point ← point_at
  cond (may_be_fixed m es point) (fixed_at point) (yields (broken (point_size point)))

unfoldable pub new_token_at : Parser WrittenKind
new_token_at = do
  _ ← keyword "token"
  sv ← name_at 1
  value ← name_at 1
  yields (record { sv = sv; value = value })

unfoldable pub support_at : Parser WrittenSupport
support_at = do
  _ ← keyword "support"
  token ← token_at
  need ← count_at
  by ← token_at
  yields (record { token = token; need = need; by = by })

unfoldable pub goal_token_at : Unit {0} → Parser (Kept WrittenToken)
goal_token_at _ = do
  token ← token_at
  yields (kept token)

unfoldable pub goal_at : ℕ → Parser (Kept WrittenToken)
goal_at n = do
  _ ← keyword "goal"
  number ← exactly_at n
  onward_at goal_token_at number

unfoldable pub body_end_at : ℤ → List WrittenTime → List WrittenKind → List WrittenSupport → List WrittenToken → Parser (Kept WrittenBody)
body_end_at since fixed tokens supports goals = do
  _ ← keyword "close"
  yields (kept (record { since = since; fixed = fixed; tokens = tokens; supports = supports; goals = goals }))

unfoldable pub fixed_points_at : Mission → List WrittenExtension → Parser (Kept (List WrittenTime))
fixed_points_at m es = series (is_word (codes "fix")) (fix_at m) (λ before time. before) es

unfoldable pub goals_at : Parser (Kept (List WrittenToken))
goals_at = series (is_word (codes "goal")) goal_at (λ n goal. n + 1) 0

unfoldable pub body_back_at : ℤ → List WrittenTime → Parser (Kept WrittenBody)
body_back_at since fixed = do
  tokens ← many (is_word (codes "token")) new_token_at
  supports ← many (is_word (codes "support")) support_at
  goals ← goals_at
  onward_at (body_end_at since fixed tokens supports) goals

unfoldable pub body_at : Mission → List WrittenExtension → Parser (Kept WrittenBody)
body_at m es = do
  _ ← keyword "since"
  since ← number
  fixed ← fixed_points_at m es
  onward_at (body_back_at since) fixed

unfoldable pub extended_at : ℕ → WrittenBody → Parser (Kept WrittenExtension)
extended_at base body = yields (kept (record { base = base; body = body }))

unfoldable pub extension_back_at : Mission → List WrittenExtension → ℕ → Parser (Kept WrittenExtension)
extension_back_at m es base = do
  body ← body_at m es
  onward_at (extended_at base) body

unfoldable pub extension_at : Mission → List WrittenExtension → Parser (Kept WrittenExtension)
extension_at m es = do
  _ ← keyword "extension"
  base ← one_more_at
  onward_at (extension_back_at m es) base

unfoldable pub plan_end_at : List WrittenExtension → Parser (Kept (List WrittenExtension))
plan_end_at es = do
  _ ← keyword "end"
  yields (kept es)

unfoldable pub extensions_at : Mission → Parser (Kept (List WrittenExtension))
extensions_at m = series (is_word (codes "extension")) (extension_at m) (λ before e. before ++ e ∷ []) []

unfoldable pub plan_back_at : Mission → Unit {0} → Parser (Kept (List WrittenExtension))
plan_back_at m _ = do
  extensions ← extensions_at m
  onward_at plan_end_at extensions

unfoldable pub plan_at : Mission → Parser (Kept (List WrittenExtension))
plan_at m = do
  _ ← keyword "hsts"
  _ ← keyword "plan"
  version ← exactly_at 1
  onward_at (plan_back_at m) version
