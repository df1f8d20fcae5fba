-- Reading a mission from left to right, one definition a nonterminal.
use Rattle.std.specs.Prelude.{ℕ, cond, nat_eq, ℤ, List, [], ◌∷◌, ◌++◌, Option, Some, None, codes, flat_map, false, true}
use Rattle.hs_base.specs.declared.limits.TheConstants.{LAST}
use Rattle.hs_base.specs.declared.range.Range.{Range}
use Rattle.hs_base.specs.declared.relation.Relation.{Relation}
use Rattle.hs_base.specs.declared.relation.Relation.TheVariants.{Before, After, Meets, MetBy, Starts, Ends, Equals, Contains, ContainedBy}
use Rattle.hs_texts.specs.declared.ast.Ast.{Ast}
use Rattle.hs_texts.specs.declared.ast.AstChoice.{AstChoice}
use Rattle.hs_texts.specs.declared.ast.AstGoal.{AstGoal}
use Rattle.hs_texts.specs.declared.ast.AstHorizon.{AstHorizon}
use Rattle.hs_texts.specs.declared.ast.AstKind.{AstKind}
use Rattle.hs_texts.specs.declared.ast.AstNeed.{AstNeed}
use Rattle.hs_texts.specs.declared.ast.AstSaid.{AstSaid}
use Rattle.hs_texts.specs.declared.ast.AstStep.{AstStep}
use Rattle.hs_texts.specs.declared.ast.AstStep.TheVariants.{Do, Until}
use Rattle.hs_texts.specs.declared.ast.AstValue.{AstValue}
use Rattle.hs_texts.specs.declared.ast.AstVar.{AstVar}
use Rattle.hs_texts.specs.declared.ast.Use.{Use}
use Rattle.hs_base.specs.Ranges.{range, whole}
use Rattle.hs_texts.specs.MissionText.{version_says, name_says, until_done}
use Rattle.text_laws.specs.Parsers.{Parser, ◌>>=◌, yields, one, is_word, choose, many, keyword, sign, number, after, maybe_after, several, apart}

unfoldable pub version_at : Parser ℕ
version_at = one version_says

unfoldable pub name_at : ℕ → Parser (List ℕ)
name_at v = one (name_says v)

unfoldable pub limit_at : Parser ℤ
limit_at = choose (is_word (codes "inf")) (after "inf" (yields LAST)) number

unfoldable pub range_at : Parser Range
range_at = do
  _ ← sign "["
  low ← limit_at
  _ ← sign ","
  high ← limit_at
  _ ← sign "]"
  yields (range low high)

unfoldable pub use_at : ℕ → Parser Use
use_at v = do
  name ← name_at v
  yields (record { name = name; args = [] })

unfoldable pub kind_at : ℕ → Parser AstKind
kind_at v = do
  sv ← name_at v
  _ ← sign "."
  value ← use_at v
  yields (record { sv = sv; value = value })

unfoldable pub uses_at : ℕ → Parser (List Use)
uses_at v = apart "," (use_at v)

unfoldable pub next_at : ℕ → Parser (List Use)
next_at v = maybe_after "then" (uses_at v) []

unfoldable pub do_at : ℕ → Parser AstStep
do_at v = do
  _ ← keyword "do"
  ordered ← name_at v
  amount ← number
  _ ← sign ";"
  yields (Do ordered amount)

unfoldable pub until_at : ℕ → Parser AstStep
until_at v = do
  _ ← keyword "until"
  awaited ← name_at v
  yields (Until awaited)

unfoldable pub part_at : ℕ → Parser (List AstStep)
part_at v = do
  orders ← many (is_word (codes "do")) (do_at v)
  last ← until_at v
  yields (orders ++ last ∷ [])

unfoldable pub parts_at : ℕ → Parser (List AstStep)
parts_at v = do
  parts ← apart ";" (part_at v)
  yields (flat_map (λ steps. steps) parts)

unfoldable pub script_at : ℕ → Parser (List AstStep)
script_at v = maybe_after "script" (parts_at v) until_done

unfoldable pub said_at : ℕ → Parser AstSaid
said_at v = do
  delay ← number
  said ← name_at v
  yields (record { delay = delay; word = said })

unfoldable pub answers_at : ℕ → Parser (List AstSaid)
answers_at v = after "answers" (apart "," (said_at v))

unfoldable pub plain_at : ℕ → List ℕ → Range → Parser AstValue
plain_at v name lasts = do
  next ← next_at v
  yields (record { name = name; params = []; lasts = lasts ∷ []; by_device = false; next = next; script = []; answers = [] })

unfoldable pub device_at : ℕ → List ℕ → Range → Parser AstValue
device_at v name lasts = do
  _ ← keyword "by"
  _ ← keyword "device"
  next ← next_at v
  script ← script_at v
  answers ← many (is_word (codes "answers")) (answers_at v)
  yields (record { name = name; params = []; lasts = lasts ∷ []; by_device = true; next = next; script = script; answers = answers })

unfoldable pub value_at : ℕ → Parser AstValue
value_at v = do
  _ ← keyword "value"
  name ← name_at v
  lasts ← range_at
  choose (is_word (codes "by")) (device_at v name lasts) (plain_at v name lasts)

unfoldable pub some_use_at : ℕ → Parser (Option Use)
some_use_at v = do
  value ← use_at v
  yields (Some value)

unfoldable pub begin_at : ℕ → Parser (Option Use)
begin_at v = maybe_after "begin" (some_use_at v) None

unfoldable pub var_at : ℕ → Parser AstVar
var_at v = do
  _ ← keyword "var"
  name ← name_at v
  values ← several "value" (value_at v)
  begin ← begin_at v
  yields (record { name = name; values = values; begin = begin })

unfoldable pub one_range : (Range → Relation) → Parser Relation
one_range related = do
  within ← range_at
  yields (related within)

unfoldable pub two_ranges : (Range → Range → Relation) → Parser Relation
two_ranges related = do
  start ← range_at
  stop ← range_at
  yields (related start stop)

unfoldable pub relation_at : Parser Relation
relation_at =
    choose (is_word (codes "before")) (after "before" (one_range Before))
    (choose (is_word (codes "after")) (after "after" (one_range After))
    (choose (is_word (codes "meets")) (after "meets" (yields Meets))
    (choose (is_word (codes "met_by")) (after "met_by" (yields MetBy))
    (choose (is_word (codes "starts")) (after "starts" (one_range Starts))
    (choose (is_word (codes "ends")) (after "ends" (one_range Ends))
    (choose (is_word (codes "equals")) (after "equals" (yields Equals))
    (choose (is_word (codes "contains")) (after "contains" (two_ranges Contains))
    (after "contained_by" (two_ranges ContainedBy)))))))))

unfoldable pub choice_at : ℕ → Parser AstChoice
choice_at v = do
  relation ← relation_at
  by ← kind_at v
  yields (record { relation = relation; by = by })

unfoldable pub further_at : ℕ → Parser (List AstChoice)
further_at v = cond (nat_eq v 1) (yields []) (many (is_word (codes "or")) (after "or" (choice_at v)))

unfoldable pub choices_at : ℕ → Parser (List AstChoice)
choices_at v = do
  first ← choice_at v
  others ← further_at v
  yields (first ∷ others)

unfoldable pub need_at : ℕ → Parser AstNeed
need_at v = do
  _ ← keyword "need"
  of ← kind_at v
  either ← choices_at v
  yields (record { of = of; either = either })

unfoldable pub goal_at : ℕ → Parser AstGoal
goal_at v = do
  _ ← keyword "goal"
  kind ← kind_at v
  start ← maybe_after "start" range_at whole
  stop ← maybe_after "stop" range_at whole
  yields (record { kind = kind; start = start; stop = stop })

unfoldable pub horizon_at : ℕ → Parser AstHorizon
horizon_at v = do
  _ ← keyword "horizon"
  tick ← number
  goals ← many (is_word (codes "goal")) (goal_at v)
  yields (record { tick = tick; goals = goals })

unfoldable pub clauses_at : ℕ → Parser Ast
clauses_at v = do
  vars ← several "var" (var_at v)
  needs ← many (is_word (codes "need")) (need_at v)
  horizons ← several "horizon" (horizon_at v)
  _ ← keyword "end"
  yields (record { version = v; sorts = []; vars = vars; needs = needs; horizons = horizons })

unfoldable pub mission_at : Parser Ast
mission_at = do
  _ ← keyword "hsts"
  v ← version_at
  clauses_at v
