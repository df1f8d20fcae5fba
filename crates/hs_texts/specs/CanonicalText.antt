-- The one text in which a mission is printed.
use Rattle.std.specs.Prelude.{ℕ, ℤ, pos, cond, Bool, false, ◌&&◌, List, [], ◌∷◌, ◌++◌, map, flat_map, Option, Some, None, codes}
use Rattle.std.specs.Fmt.{decimal, signed_decimal}
use Rattle.std.specs.Str.{bytes_eq}
use Rattle.hs_base.specs.declared.limits.TheConstants.{LAST}
use Rattle.hs_base.specs.declared.range.Range.{Range}
use Rattle.hs_base.specs.declared.relation.Relation.{Relation}
use Rattle.hs_base.specs.declared.relation.Relation.TheVariants.{Before, After as AfterEnd, Meets as MeetsStart, MetBy, Starts, Ends, Equals, Contains as Encloses, ContainedBy}
use Rattle.hs_texts.specs.Types.{Ast, AstChoice, AstDo, AstGoal, AstHorizon, AstKind, AstNeed, AstSaid, AstStep, AstUntil, AstValue, AstVar, Use}
use Rattle.hs_base.specs.Reduced.{int_eq}

-- what stands between the items of a list
abbrev pub apart : List ℕ → List (List ℕ) → List ℕ
apart sign [] = []
apart sign (x ∷ xs) = x ++ flat_map (λ y. sign ++ y) xs

-- a limit of a range
abbrev pub limit_text : ℤ → List ℕ
limit_text z = cond (int_eq z LAST) (codes "inf") (signed_decimal z)

abbrev pub range_text : Range → List ℕ
range_text r = codes "[" ++ limit_text r.low ++ codes "," ++ limit_text r.high ++ codes "]"

abbrev pub is_whole : Range → Bool
is_whole r = int_eq r.low (pos 0) && int_eq r.high LAST

abbrev pub use_text : Use → List ℕ
use_text u = u.name

abbrev pub kind_text : AstKind → List ℕ
kind_text k = k.sv ++ codes "." ++ use_text k.value

-- the values that may follow
abbrev pub next_text : List Use → List ℕ
next_text [] = []
next_text (u ∷ us) = codes " then " ++ apart (codes ", ") (map use_text (u ∷ us))

abbrev pub step_text : AstStep → List ℕ
step_text (AstDo ordered amount) = codes "do " ++ ordered ++ codes " " ++ signed_decimal amount
step_text (AstUntil awaited) = codes "until " ++ awaited

abbrev pub is_until_done : List AstStep → Bool
is_until_done (AstUntil awaited ∷ []) = bytes_eq awaited (codes "done")
is_until_done _ = false

-- the line of a script that is more than `until done`
abbrev pub script_line : List AstStep → List ℕ
script_line steps = cond (is_until_done steps) [] (codes "script " ++ apart (codes "; ") (map step_text steps) ++ codes "\n")

abbrev pub said_text : AstSaid → List ℕ
said_text s = signed_decimal s.delay ++ codes " " ++ s.word

abbrev pub answers_line : List AstSaid → List ℕ
answers_line said = codes "answers " ++ apart (codes ", ") (map said_text said) ++ codes "\n"

-- how long a value lasts: one range
abbrev pub lasts_text : List Range → List ℕ
lasts_text ranges = apart (codes " ") (map range_text ranges)

-- the lines of a value
abbrev pub value_lines : AstValue → List ℕ
value_lines v =
    codes "value " ++ v.name ++ codes " " ++ lasts_text v.lasts ++ cond v.by_device (codes " by device") [] ++ next_text v.next ++ codes "\n"
    ++ cond v.by_device (script_line v.script ++ flat_map answers_line v.answers) []

abbrev pub begin_line : Option Use → List ℕ
begin_line None = []
begin_line (Some u) = codes "begin " ++ use_text u ++ codes "\n"

abbrev pub var_lines : AstVar → List ℕ
var_lines var = codes "var " ++ var.name ++ codes "\n" ++ flat_map value_lines var.values ++ begin_line var.begin

abbrev pub relation_text : Relation → List ℕ
relation_text (Before r) = codes "before " ++ range_text r
relation_text (AfterEnd r) = codes "after " ++ range_text r
relation_text MeetsStart = codes "meets"
relation_text MetBy = codes "met_by"
relation_text (Starts r) = codes "starts " ++ range_text r
relation_text (Ends r) = codes "ends " ++ range_text r
relation_text Equals = codes "equals"
relation_text (Encloses r s) = codes "contains " ++ range_text r ++ codes " " ++ range_text s
relation_text (ContainedBy r s) = codes "contained_by " ++ range_text r ++ codes " " ++ range_text s

abbrev pub choice_text : AstChoice → List ℕ
choice_text c = relation_text c.relation ++ codes " " ++ kind_text c.by

abbrev pub need_line : AstNeed → List ℕ
need_line n = codes "need " ++ kind_text n.of ++ codes " " ++ apart (codes " or ") (map choice_text n.either) ++ codes "\n"

-- a goal's range behind its keyword, unless it is `[0,inf]`
abbrev pub goal_range : List ℕ → Range → List ℕ
goal_range keyword r = cond (is_whole r) [] (keyword ++ range_text r)

abbrev pub goal_line : AstGoal → List ℕ
goal_line g = codes "goal " ++ kind_text g.kind ++ goal_range (codes " start ") g.start ++ goal_range (codes " stop ") g.stop ++ codes "\n"

abbrev pub horizon_lines : AstHorizon → List ℕ
horizon_lines h = codes "horizon " ++ signed_decimal h.tick ++ codes "\n" ++ flat_map goal_line h.goals

-- the text
abbrev pub canonical : Ast → List ℕ
canonical a =
    codes "hsts " ++ decimal a.version ++ codes "\n"
    ++ flat_map var_lines a.vars
    ++ flat_map need_line a.needs
    ++ flat_map horizon_lines a.horizons
    ++ codes "end\n"
