-- The rules that a written mission may break: for each number all refusals, in text order.
use Rattle.std.specs.Prelude.{ℕ, ◌-◌, pos, int_le, int_lt, Bool, true, false, cond, not, ◌&&◌, ◌||◌, nat_le, List, [], ◌∷◌, ◌++◌, length, map, filter, filter_map, flat_map, find, slice_get, Some, None}
use Rattle.std.specs.List.{list_any, list_all}
use Rattle.std.specs.Str.{bytes_eq}
use Rattle.hs_base.specs.declared.limits.TheConstants.{LAST_HORIZON, VARIABLES, VALUES, NEEDS, HORIZONS, GOALS, SCRIPT_STEPS, ANSWER_CLAUSES, ANSWERS, CHOICES}
use Rattle.hs_base.specs.declared.range.Range.{Range}
use Rattle.hs_base.specs.declared.relation.Relation.{Relation}
use Rattle.hs_base.specs.declared.relation.Relation.TheVariants.{Before, After as AfterEnd, Meets as MeetsStart, MetBy, Starts, Ends, Equals, Contains as Encloses, ContainedBy}
use Rattle.hs_texts.specs.Types.{Ast, AstChoice, AstGoal, AstHorizon, AstKind, AstNeed, AstValue, AstVar, Use, Refusal, Twice, Unknown, BadRange, Limit, NoBegin, Horizons, SameVar, SameBy}
use Rattle.hs_base.specs.Walks.{join_after}
use Rattle.hs_texts.specs.CanonicalText.{is_whole}
use Rattle.hs_texts.specs.MissionMeaning.{var_names, value_names}

-- whether a name is one of these
abbrev pub is_among : List (List ℕ) → List ℕ → Bool
is_among names name = list_any (bytes_eq name) names

-- the places at which the test is passed
abbrev pub places : {X : Type 0} → (X → Bool) → List X → List ℕ
places test xs = join_after (λ before x. cond (test x) (length before ∷ []) []) [] xs

-- 6: names that stand before already

-- a name that is one of those before it
abbrev pub again : List (List ℕ) → List ℕ → List (List ℕ)
again before name = cond (is_among before name) (name ∷ []) []

abbrev pub names_again : List (List ℕ) → List (List ℕ)
names_again names = join_after again [] names

abbrev pub next_names : AstValue → List (List ℕ)
next_names v = map (λ (u : Use). u.name) v.next

abbrev pub value_again : List AstValue → AstValue → List (List ℕ)
value_again before v = again (map (λ (w : AstValue). w.name) before) v.name ++ names_again (next_names v)

abbrev pub var_again : List AstVar → AstVar → List (List ℕ)
var_again before var = again (var_names before) var.name ++ join_after value_again [] var.values

abbrev pub twice_names : Ast → List (List ℕ)
twice_names a = join_after var_again [] a.vars

-- 7: unknown names

abbrev pub unknown_in : List (List ℕ) → List ℕ → List (List ℕ)
unknown_in known name = cond (is_among known name) [] (name ∷ [])

abbrev pub begin_names : AstVar → List (List ℕ)
begin_names var = elim var.begin [ None ↦ [] | Some u ↦ u.name ∷ [] ]

abbrev pub unknown_in_var : AstVar → List (List ℕ)
unknown_in_var var = flat_map (unknown_in (value_names var)) (flat_map next_names var.values ++ begin_names var)

-- of x.y: x, where no variable has that name, or y, where it is no value of x
abbrev pub unknown_in_kind : List AstVar → AstKind → List (List ℕ)
unknown_in_kind vars k = elim (find (λ (var : AstVar). bytes_eq k.sv var.name) vars) [ None ↦ k.sv ∷ [] | Some var ↦ unknown_in (value_names var) k.value.name ]

abbrev pub kinds_of_need : AstNeed → List AstKind
kinds_of_need n = n.of ∷ map (λ (c : AstChoice). c.by) n.either

abbrev pub kinds_of : Ast → List AstKind
kinds_of a = flat_map kinds_of_need a.needs ++ flat_map (λ (h : AstHorizon). map (λ (g : AstGoal). g.kind) h.goals) a.horizons

abbrev pub unknown_names : Ast → List (List ℕ)
unknown_names a = flat_map unknown_in_var a.vars ++ flat_map (unknown_in_kind a.vars) (kinds_of a)

-- 8: ranges whose limits are exchanged, and durations below 1

abbrev pub is_exchanged : Range → Bool
is_exchanged r = int_lt r.high r.low

abbrev pub is_no_duration : Range → Bool
is_no_duration r = is_exchanged r || int_lt r.low (pos 1)

abbrev pub ranges_of_relation : Relation → List Range
ranges_of_relation (Before r) = r ∷ []
ranges_of_relation (AfterEnd r) = r ∷ []
ranges_of_relation MeetsStart = []
ranges_of_relation MetBy = []
ranges_of_relation (Starts r) = r ∷ []
ranges_of_relation (Ends r) = r ∷ []
ranges_of_relation Equals = []
ranges_of_relation (Encloses r s) = r ∷ s ∷ []
ranges_of_relation (ContainedBy r s) = r ∷ s ∷ []

-- the ranges of a goal that count: not `[0,inf]`
abbrev pub ranges_of_goal : AstGoal → List Range
ranges_of_goal g = filter (λ r. not (is_whole r)) (g.start ∷ g.stop ∷ [])

abbrev pub durations : Ast → List Range
durations a = flat_map (λ (var : AstVar). flat_map (λ (v : AstValue). v.lasts) var.values) a.vars

abbrev pub distances : Ast → List Range
distances a =
    flat_map (λ (n : AstNeed). flat_map (λ (c : AstChoice). ranges_of_relation c.relation) n.either) a.needs
    ++ flat_map (λ (h : AstHorizon). flat_map ranges_of_goal h.goals) a.horizons

-- all ranges in text order, each with whether it breaks the rule
abbrev pub bad_ranges : Ast → List ℕ
bad_ranges a = places (λ bad. bad) (map is_no_duration (durations a) ++ map is_exchanged (distances a))

-- 9: limits, each with whether the mission keeps it

abbrev pub from_one_to : ℕ → ℕ → Bool
from_one_to most n = nat_le 1 n && nat_le n most

abbrev pub all_values : Ast → List AstValue
all_values a = flat_map (λ (var : AstVar). var.values) a.vars

abbrev pub limits_kept : Ast → List (ℕ × Bool)
limits_kept a =
    (2, from_one_to VARIABLES (length a.vars))
    ∷ (3, list_all (λ (var : AstVar). from_one_to VALUES (length var.values)) a.vars)
    ∷ (4, nat_le (length a.needs) NEEDS)
    ∷ (5, from_one_to HORIZONS (length a.horizons))
    ∷ (6, list_all (λ (h : AstHorizon). int_le (pos 1) h.tick && int_le h.tick LAST_HORIZON) a.horizons)
    ∷ (7, list_all (λ (h : AstHorizon). nat_le (length h.goals) GOALS) a.horizons)
    ∷ (8, list_all (λ (v : AstValue). nat_le (length v.script) SCRIPT_STEPS) (all_values a))
    ∷ (9, list_all (λ (v : AstValue). nat_le (length v.answers) ANSWER_CLAUSES) (all_values a))
    ∷ (10, list_all (λ (v : AstValue). list_all (λ said. nat_le (length said) ANSWERS) v.answers) (all_values a))
    ∷ (11, list_all (λ (n : AstNeed). from_one_to CHOICES (length n.either)) a.needs)
    ∷ []

abbrev pub passed_limits : Ast → List ℕ
passed_limits a = filter_map (λ (l : ℕ × Bool). cond l.1 None (Some l.0)) (limits_kept a)

-- 10: variables without a value to begin with

abbrev pub lacks_begin : AstVar → Bool
lacks_begin var = elim var.begin [ None ↦ true | Some u ↦ false ]

abbrev pub names_without_begin : Ast → List (List ℕ)
names_without_begin a = var_names (filter lacks_begin a.vars)

-- 11: horizons that aren't later than the one before

abbrev pub is_early : List AstHorizon → AstHorizon → Bool
is_early before h = elim (slice_get before (length before - 1)) [ None ↦ false | Some last ↦ int_le h.tick last.tick ]

abbrev pub early_horizons : Ast → List ℕ
early_horizons a = join_after (λ before h. cond (is_early before h) (length before ∷ []) []) [] a.horizons

-- 12: needs that ask for a token of their own variable

abbrev pub asks_itself : AstNeed → Bool
asks_itself n = list_any (λ (c : AstChoice). bytes_eq c.by.sv n.of.sv) n.either

-- 13: needs of which two choices ask for one kind

abbrev pub same_written_kind : AstKind → AstKind → Bool
same_written_kind a b = bytes_eq a.sv b.sv && bytes_eq a.value.name b.value.name

abbrev pub asks_twice : List AstChoice → Bool
asks_twice [] = false
asks_twice (c ∷ cs) = list_any (λ (d : AstChoice). same_written_kind c.by d.by) cs || asks_twice cs

-- all refusals, the lowest number first and of one number in text order
abbrev pub refusals : Ast → List Refusal
refusals a =
    map Twice (twice_names a)
    ++ map Unknown (unknown_names a)
    ++ map BadRange (bad_ranges a)
    ++ map Limit (passed_limits a)
    ++ map NoBegin (names_without_begin a)
    ++ map Horizons (early_horizons a)
    ++ map SameVar (places asks_itself a.needs)
    ++ map SameBy (places (λ (n : AstNeed). asks_twice n.either) a.needs)
