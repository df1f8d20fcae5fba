-- Each nonterminal of the mission text is read by its parser.
use Rattle.std.proofs.Common.{◌≡◌, ℕ, ℤ, List, [], ◌∷◌, ◌++◌, true, false, not, cond, refl, sym, subst, nat_eq}
use Rattle.std.specs.Prelude.{Some, None, codes}
use Rattle.std.specs.Str.{byte}
use Rattle.std.specs.List.{list_any, list_all}
use Prim.Native.String.{String}
use Rattle.hs_base.specs.declared.limits.TheConstants.{LAST}
use Rattle.hs_base.specs.declared.range.Range.{Range}
use Rattle.hs_base.specs.declared.relation.Relation.{Relation}
use Rattle.hs_base.specs.declared.relation.Relation.TheVariants.{Before, After as AfterEnd, Meets, MetBy, Starts, Ends, Equals, Contains, ContainedBy}
use Rattle.hs_texts.specs.declared.ast.AstSaid.{AstSaid}
use Rattle.hs_texts.specs.declared.ast.AstValue.{AstValue}
use Rattle.hs_texts.specs.declared.ast.AstHorizon.{AstHorizon}
use Rattle.hs_texts.specs.declared.ast.Ast.{Ast}
use Rattle.hs_base.specs.Names.{is_name}
use Rattle.hs_base.specs.Ranges.{range, whole}
use Rattle.hs_texts.specs.Pieces.{Piece, word, number as digits, symbol}
use Rattle.hs_texts.specs.Languages.{Language, Yields, Then, ◌∣◌, Maybe, Many, Several, Keyword, Sign, Number, After, Behind, Apart, number_says}
use Rattle.hs_texts.specs.MissionText.{version_says, VersionText, name_says, NameText, LimitText, RangeText, UseText, KindText, NextText, DoText, UntilText, PartText, PartsText, ScriptText, SaidText, AnswersText, PlainText, DeviceText, ValueText, SomeUseText, BeginText, VarText, OneRange, TwoRanges, RelationText, ChoiceText, FurtherChoices, ChoicesText, NeedText, GoalText, HorizonText, ClausesText, MissionText, until_done}
use Rattle.text_laws.specs.Parsers.{Parser, next, yields, is_word, is_sign, choose, many, keyword, sign, number, after, behind, maybe_after, several, apart}
use Rattle.text_laws.specs.Reads.{Avoids, Reads, Leads, BeginsWith}
use Rattle.text_laws.specs.MissionReading.{version_at, name_at, limit_at, range_at, use_at, kind_at, uses_at, next_at, do_at, until_at, part_at, parts_at, script_at, said_at, answers_at, plain_at, device_at, value_at, some_use_at, begin_at, var_at, one_range, two_ranges, relation_at, choice_at, further_at, choices_at, need_at, goal_at, horizon_at, clauses_at, mission_at}
use Rattle.text_laws.proofs.ParserLemmas.{one_reads, yields_reads}
use Rattle.text_laws.proofs.ThenLemmas.{then_reads, then_any}
use Rattle.text_laws.proofs.ChoiceLemmas.{choose_reads}
use Rattle.text_laws.proofs.ManyLemmas.{AreItems, many_reads}
use Rattle.text_laws.proofs.FollowLemmas.{same_piece, Covers, covers_test, weaken, StartsIn, leads_begin, leads_yields, leads_either, leads_then, leads_many, leads_starts, begins_then, begins_keyword, keyword_reads, sign_reads, number_reads, finds_word, starts_after, starts_either, after_reads, keyed_items, parted_items, maybe_reads, several_reads, apart_reads}

-- nothing is read, and these may not stand behind it
nothing : {A : Type 0} (value : A) (G : List Piece) → Reads (Yields value) (yields value) G
nothing value G = weaken (Yields value) (yields value) G [] (covers_test G [] refl) (yields_reads value)

pub version_reads : Reads VersionText version_at []
unfolding version_at
version_reads = one_reads version_says (record { pieces = digits (49 ∷ []) ∷ []; value = 1; sentence = (digits (49 ∷ []), refl, refl) })

pub name_reads : (v : ℕ) → Reads (NameText v) (name_at v) []
unfolding name_at is_name
name_reads v = one_reads (name_says v) (record { pieces = word (97 ∷ []) ∷ []; value = 97 ∷ []; sentence = (word (97 ∷ []), refl, refl) })

number_is_no_word : (w : List ℕ) (p : Piece) (x : ℤ) → number_says p ≡ Some x → Avoids (word w ∷ []) (Some p)
number_is_no_word w (digits ds) x h = ((λ e. absurd cc), tt)
number_is_no_word w (word v) x h = absurd cc
number_is_no_word w (symbol c) x h = absurd cc

number_leads : (w : List ℕ) (G : List Piece) → Leads Number G (word w ∷ [])
number_leads w G = record { avoids = λ u rest x h a. subst (λ (zs : List Piece). Avoids (word w ∷ []) (next (zs ++ rest))) (sym h.1) (number_is_no_word w h.0 x h.2) }

pub limit_reads : Reads LimitText limit_at []
unfolding limit_at
limit_reads = choose_reads (is_word (codes "inf")) (word (codes "inf")) (After "inf" (Yields LAST)) Number (after "inf" (yields LAST)) number [] (finds_word "inf") (begins_then _ _ _ (begins_keyword "inf")) (after_reads "inf" _ _ [] (yields_reads LAST)) number_reads (number_leads (codes "inf") [])

pub range_reads : Reads RangeText range_at []
unfolding range_at
range_reads =
    then_any (Sign "[") _ (sign "[") _ [] (sign_reads "[") (λ _.
    then_any LimitText _ limit_at _ [] limit_reads (λ low.
    then_any (Sign ",") _ (sign ",") _ [] (sign_reads ",") (λ _.
    then_any LimitText _ limit_at _ [] limit_reads (λ high.
    then_any (Sign "]") _ (sign "]") _ [] (sign_reads "]") (λ _. yields_reads (range low high))))))

pub use_reads : (v : ℕ) → Reads (UseText v) (use_at v) []
unfolding use_at
use_reads v = then_any (NameText v) _ (name_at v) _ [] (name_reads v) (λ name. yields_reads _)

pub kind_reads : (v : ℕ) → Reads (KindText v) (kind_at v) []
unfolding kind_at
kind_reads v =
    then_any (NameText v) _ (name_at v) _ [] (name_reads v) (λ sv.
    then_any (Sign ".") _ (sign ".") _ [] (sign_reads ".") (λ _.
    then_any (UseText v) _ (use_at v) _ [] (use_reads v) (λ value. yields_reads _)))

-- The pieces that may not stand behind a nonterminal.

abbrev pub kw : String → Piece
kw w = word (codes w)

abbrev pub sg : String → Piece
sg c = symbol (byte c)

abbrev pub next_stops : List Piece
next_stops = kw "then" ∷ sg "," ∷ []

abbrev pub script_stops : List Piece
script_stops = kw "script" ∷ sg ";" ∷ []

abbrev pub answers_stops : List Piece
answers_stops = kw "answers" ∷ sg "," ∷ []

abbrev pub device_stops : List Piece
device_stops = kw "then" ∷ sg "," ∷ kw "script" ∷ sg ";" ∷ kw "answers" ∷ []

abbrev pub value_stops : List Piece
value_stops = kw "by" ∷ device_stops

abbrev pub values_stops : List Piece
values_stops = kw "value" ∷ value_stops

abbrev pub var_stops : List Piece
var_stops = kw "begin" ∷ values_stops

abbrev pub goal_stops : List Piece
goal_stops = kw "start" ∷ kw "stop" ∷ []

abbrev pub horizon_stops : List Piece
horizon_stops = kw "goal" ∷ goal_stops

pub use_items : (v : ℕ) → AreItems (is_sign (byte ",")) (sg ",") (Behind "," (UseText v)) (behind "," (use_at v)) []
use_items v = parted_items "," (UseText v) (use_at v) [] (use_reads v) refl

pub next_reads : (v : ℕ) → Reads (NextText v) (next_at v) next_stops
unfolding next_at uses_at
next_reads v =
    maybe_reads "then" (Apart "," (UseText v)) (uses_at v) [] next_stops
    (weaken (Apart "," (UseText v)) (uses_at v) next_stops (sg "," ∷ []) (covers_test _ _ refl) (apart_reads "," (UseText v) (use_at v) [] (use_reads v) refl))
    (covers_test _ _ refl)

pub do_reads : (v : ℕ) → Reads (DoText v) (do_at v) []
unfolding do_at
do_reads v =
    then_any (Keyword "do") _ (keyword "do") _ [] (keyword_reads "do") (λ _.
    then_any (NameText v) _ (name_at v) _ [] (name_reads v) (λ ordered.
    then_any Number _ number _ [] number_reads (λ amount.
    then_any (Sign ";") _ (sign ";") _ [] (sign_reads ";") (λ _. yields_reads _))))

pub until_reads : (v : ℕ) → Reads (UntilText v) (until_at v) []
unfolding until_at
until_reads v =
    then_any (Keyword "until") _ (keyword "until") _ [] (keyword_reads "until") (λ _.
    then_any (NameText v) _ (name_at v) _ [] (name_reads v) (λ awaited. yields_reads _))

begins_do : (v : ℕ) → BeginsWith (DoText v) (kw "do")
begins_do v = begins_then (Keyword "do") _ (kw "do") (begins_keyword "do")

pub do_items : (v : ℕ) → AreItems (is_word (codes "do")) (kw "do") (DoText v) (do_at v) []
do_items v = keyed_items "do" (DoText v) (do_at v) [] (begins_do v) (do_reads v) refl

pub part_reads : (v : ℕ) → Reads (PartText v) (part_at v) []
unfolding part_at
part_reads v =
    then_reads (Many (DoText v)) _ (many (is_word (codes "do")) (do_at v)) _ (kw "do" ∷ []) []
    (many_reads (is_word (codes "do")) (kw "do") (DoText v) (do_at v) [] (do_items v))
    (λ orders. then_any (UntilText v) _ (until_at v) _ [] (until_reads v) (λ last. yields_reads _))
    (λ orders. leads_begin (Then (UntilText v) (λ last. Yields (orders ++ last ∷ []))) (kw "until") [] (kw "do" ∷ []) (begins_then (UntilText v) _ (kw "until") (begins_then (Keyword "until") _ (kw "until") (begins_keyword "until"))) refl)

pub part_items : (v : ℕ) → AreItems (is_sign (byte ";")) (sg ";") (Behind ";" (PartText v)) (behind ";" (part_at v)) []
part_items v = parted_items ";" (PartText v) (part_at v) [] (part_reads v) refl

pub parts_reads : (v : ℕ) → Reads (PartsText v) (parts_at v) (sg ";" ∷ [])
unfolding parts_at
parts_reads v =
    then_reads (Apart ";" (PartText v)) _ (apart ";" (part_at v)) _ (sg ";" ∷ []) (sg ";" ∷ []) (apart_reads ";" (PartText v) (part_at v) [] (part_reads v) refl) (λ parts. nothing _ _) (λ parts. leads_yields _ _ _ (covers_test _ _ refl))

pub script_reads : (v : ℕ) → Reads (ScriptText v) (script_at v) script_stops
unfolding script_at
script_reads v = maybe_reads "script" (PartsText v) (parts_at v) until_done script_stops (weaken (PartsText v) (parts_at v) script_stops (sg ";" ∷ []) (covers_test _ _ refl) (parts_reads v)) (covers_test _ _ refl)

pub said_reads : (v : ℕ) → Reads (SaidText v) (said_at v) []
unfolding said_at
said_reads v =
    then_any Number _ number _ [] number_reads (λ delay.
    then_any (NameText v) _ (name_at v) _ [] (name_reads v) (λ said. yields_reads _))

pub said_items : (v : ℕ) → AreItems (is_sign (byte ",")) (sg ",") (Behind "," (SaidText v)) (behind "," (said_at v)) []
said_items v = parted_items "," (SaidText v) (said_at v) [] (said_reads v) refl

pub answers_reads : (v : ℕ) → Reads (AnswersText v) (answers_at v) (sg "," ∷ [])
unfolding answers_at
answers_reads v = after_reads "answers" _ _ (sg "," ∷ []) (apart_reads "," (SaidText v) (said_at v) [] (said_reads v) refl)

begins_answers : (v : ℕ) → BeginsWith (AnswersText v) (kw "answers")
begins_answers v = begins_then (Keyword "answers") _ (kw "answers") (begins_keyword "answers")

pub answers_items : (v : ℕ) → AreItems (is_word (codes "answers")) (kw "answers") (AnswersText v) (answers_at v) (sg "," ∷ [])
answers_items v = keyed_items "answers" (AnswersText v) (answers_at v) (sg "," ∷ []) (begins_answers v) (answers_reads v) refl

pub all_answers_reads : (v : ℕ) → Reads (Many (AnswersText v)) (many (is_word (codes "answers")) (answers_at v)) answers_stops
all_answers_reads v = many_reads (is_word (codes "answers")) (kw "answers") (AnswersText v) (answers_at v) (sg "," ∷ []) (answers_items v)

pub plain_reads : (v : ℕ) (name : List ℕ) (lasts : Range) → Reads (PlainText v name lasts) (plain_at v name lasts) next_stops
unfolding plain_at
plain_reads v name lasts = then_reads (NextText v) _ (next_at v) _ next_stops next_stops (next_reads v) (λ next'. nothing _ _) (λ next'. leads_yields _ _ _ (covers_test _ _ refl))

-- `answers` clauses are no stop of what stands before them
answers_lead : (v : ℕ) (f : List (List AstSaid) → AstValue) (F : List Piece) → list_any (λ s. same_piece s (kw "answers")) F ≡ false → Covers device_stops F → Leads (Then (Many (AnswersText v)) (λ answers. Yields (f answers))) device_stops F
answers_lead v f F h c = leads_then (Many (AnswersText v)) (λ answers. Yields (f answers)) device_stops F F (leads_many (AnswersText v) (kw "answers") F F (begins_answers v) h (record { keeps = λ o k. k })) (λ answers. leads_yields (f answers) device_stops F c)

script_leads : (v : ℕ) → Leads (ScriptText v) next_stops next_stops
script_leads v =
    leads_either (After "script" (PartsText v)) (Yields until_done) next_stops next_stops
    (leads_begin (After "script" (PartsText v)) (kw "script") next_stops next_stops (begins_then (Keyword "script") _ (kw "script") (begins_keyword "script")) refl)
    (leads_yields until_done next_stops next_stops (covers_test _ _ refl))

pub device_reads : (v : ℕ) (name : List ℕ) (lasts : Range) → Reads (DeviceText v name lasts) (device_at v name lasts) device_stops
unfolding device_at
device_reads v name lasts =
    then_any (Keyword "by") _ (keyword "by") _ device_stops (keyword_reads "by") (λ _.
    then_any (Keyword "device") _ (keyword "device") _ device_stops (keyword_reads "device") (λ _.
    then_reads (NextText v) _ (next_at v) _ next_stops device_stops (next_reads v)
    (λ next'. then_reads (ScriptText v) _ (script_at v) _ script_stops device_stops (script_reads v)
    (λ script. then_reads (Many (AnswersText v)) _ (many (is_word (codes "answers")) (answers_at v)) _ answers_stops device_stops (all_answers_reads v) (λ answers. nothing _ _) (λ answers. leads_yields _ _ _ (covers_test _ _ refl)))
    (λ script. answers_lead v _ script_stops refl (covers_test _ _ refl)))
    (λ next'. leads_then (ScriptText v) _ device_stops next_stops next_stops (script_leads v) (λ script. answers_lead v _ next_stops refl (covers_test _ _ refl)))))

next_leads : (v : ℕ) → Leads (NextText v) (kw "by" ∷ []) (kw "by" ∷ [])
next_leads v =
    leads_either (After "then" (Apart "," (UseText v))) (Yields []) (kw "by" ∷ []) (kw "by" ∷ [])
    (leads_begin (After "then" (Apart "," (UseText v))) (kw "then") (kw "by" ∷ []) (kw "by" ∷ []) (begins_then (Keyword "then") _ (kw "then") (begins_keyword "then")) refl)
    (leads_yields [] (kw "by" ∷ []) (kw "by" ∷ []) (covers_test _ _ refl))

pub value_reads : (v : ℕ) → Reads (ValueText v) (value_at v) value_stops
unfolding value_at
value_reads v =
    then_any (Keyword "value") _ (keyword "value") _ value_stops (keyword_reads "value") (λ _.
    then_any (NameText v) _ (name_at v) _ value_stops (name_reads v) (λ name.
    then_any RangeText _ range_at _ value_stops range_reads (λ lasts.
    choose_reads (is_word (codes "by")) (kw "by") (DeviceText v name lasts) (PlainText v name lasts) (device_at v name lasts) (plain_at v name lasts) value_stops (finds_word "by")
    (begins_then (Keyword "by") _ (kw "by") (begins_keyword "by"))
    (weaken (DeviceText v name lasts) (device_at v name lasts) value_stops device_stops (covers_test _ _ refl) (device_reads v name lasts))
    (weaken (PlainText v name lasts) (plain_at v name lasts) value_stops next_stops (covers_test _ _ refl) (plain_reads v name lasts))
    (leads_then (NextText v) _ value_stops (kw "by" ∷ []) (kw "by" ∷ []) (next_leads v) (λ next'. leads_yields _ value_stops (kw "by" ∷ []) (covers_test _ _ refl))))))

pub some_use_reads : (v : ℕ) → Reads (SomeUseText v) (some_use_at v) []
unfolding some_use_at
some_use_reads v = then_any (UseText v) _ (use_at v) _ [] (use_reads v) (λ value. yields_reads _)

pub begin_reads : (v : ℕ) → Reads (BeginText v) (begin_at v) (kw "begin" ∷ [])
unfolding begin_at
begin_reads v = maybe_reads "begin" (SomeUseText v) (some_use_at v) None (kw "begin" ∷ []) (weaken (SomeUseText v) (some_use_at v) (kw "begin" ∷ []) [] (covers_test _ _ refl) (some_use_reads v)) (covers_test _ _ refl)

begins_value : (v : ℕ) → BeginsWith (ValueText v) (kw "value")
begins_value v = begins_then (Keyword "value") _ (kw "value") (begins_keyword "value")

pub value_items : (v : ℕ) → AreItems (is_word (codes "value")) (kw "value") (ValueText v) (value_at v) value_stops
value_items v = keyed_items "value" (ValueText v) (value_at v) value_stops (begins_value v) (value_reads v) refl

begin_leads : (v : ℕ) → Leads (BeginText v) values_stops values_stops
begin_leads v =
    leads_either (After "begin" (SomeUseText v)) (Yields None) values_stops values_stops
    (leads_begin (After "begin" (SomeUseText v)) (kw "begin") values_stops values_stops (begins_then (Keyword "begin") _ (kw "begin") (begins_keyword "begin")) refl)
    (leads_yields None values_stops values_stops (covers_test _ _ refl))

pub var_reads : (v : ℕ) → Reads (VarText v) (var_at v) var_stops
unfolding var_at
var_reads v =
    then_any (Keyword "var") _ (keyword "var") _ var_stops (keyword_reads "var") (λ _.
    then_any (NameText v) _ (name_at v) _ var_stops (name_reads v) (λ name.
    then_reads (Several (ValueText v)) _ (several "value" (value_at v)) _ values_stops var_stops (several_reads "value" (ValueText v) (value_at v) value_stops (begins_value v) (value_reads v) refl)
    (λ values. then_reads (BeginText v) _ (begin_at v) _ (kw "begin" ∷ []) var_stops (begin_reads v) (λ begin'. nothing _ _) (λ begin'. leads_yields _ _ _ (covers_test _ _ refl)))
    (λ values. leads_then (BeginText v) _ var_stops values_stops values_stops (begin_leads v) (λ begin'. leads_yields _ var_stops values_stops (covers_test _ _ refl)))))

one_range_reads : (f : Range → Relation) → Reads (OneRange f) (one_range f) []
unfolding one_range
one_range_reads f = then_any RangeText _ range_at _ [] range_reads (λ within. yields_reads _)

two_ranges_reads : (f : Range → Range → Relation) → Reads (TwoRanges f) (two_ranges f) []
unfolding two_ranges
two_ranges_reads f = then_any RangeText _ range_at _ [] range_reads (λ start. then_any RangeText _ range_at _ [] range_reads (λ stop. yields_reads _))

-- a relation's word, or else one of further ones
relation_or : (w : String) (R S : Language Relation) (p q : Parser Relation) (ss : List Piece) → Reads R p [] → Reads S q [] → StartsIn S ss → list_all (λ s. list_all (λ f. not (same_piece f s)) (kw w ∷ [])) ss ≡ true → Reads (After w R ∣ S) (choose (is_word (codes w)) (after w p) q) []
relation_or w R S p q ss r o t h = choose_reads (is_word (codes w)) (kw w) (After w R) S (after w p) q [] (finds_word w) (begins_then (Keyword w) _ (kw w) (begins_keyword w)) (after_reads w R p [] r) o (leads_starts S ss [] (kw w ∷ []) t h)

abbrev Relation8 : Language Relation
Relation8 = After "contains" (TwoRanges Contains) ∣ After "contained_by" (TwoRanges ContainedBy)

abbrev Relation7 : Language Relation
Relation7 = After "equals" (Yields Equals) ∣ Relation8

abbrev Relation6 : Language Relation
Relation6 = After "ends" (OneRange Ends) ∣ Relation7

abbrev Relation5 : Language Relation
Relation5 = After "starts" (OneRange Starts) ∣ Relation6

abbrev Relation4 : Language Relation
Relation4 = After "met_by" (Yields MetBy) ∣ Relation5

abbrev Relation3 : Language Relation
Relation3 = After "meets" (Yields Meets) ∣ Relation4

abbrev Relation2 : Language Relation
Relation2 = After "after" (OneRange AfterEnd) ∣ Relation3

starts8 : StartsIn Relation8 (kw "contains" ∷ kw "contained_by" ∷ [])
starts8 = starts_either _ _ _ _ (starts_after "contains" _) (starts_after "contained_by" _)

starts7 : StartsIn Relation7 (kw "equals" ∷ kw "contains" ∷ kw "contained_by" ∷ [])
starts7 = starts_either _ _ _ _ (starts_after "equals" _) starts8

starts6 : StartsIn Relation6 (kw "ends" ∷ kw "equals" ∷ kw "contains" ∷ kw "contained_by" ∷ [])
starts6 = starts_either _ _ _ _ (starts_after "ends" _) starts7

starts5 : StartsIn Relation5 (kw "starts" ∷ kw "ends" ∷ kw "equals" ∷ kw "contains" ∷ kw "contained_by" ∷ [])
starts5 = starts_either _ _ _ _ (starts_after "starts" _) starts6

starts4 : StartsIn Relation4 (kw "met_by" ∷ kw "starts" ∷ kw "ends" ∷ kw "equals" ∷ kw "contains" ∷ kw "contained_by" ∷ [])
starts4 = starts_either _ _ _ _ (starts_after "met_by" _) starts5

starts3 : StartsIn Relation3 (kw "meets" ∷ kw "met_by" ∷ kw "starts" ∷ kw "ends" ∷ kw "equals" ∷ kw "contains" ∷ kw "contained_by" ∷ [])
starts3 = starts_either _ _ _ _ (starts_after "meets" _) starts4

starts2 : StartsIn Relation2 (kw "after" ∷ kw "meets" ∷ kw "met_by" ∷ kw "starts" ∷ kw "ends" ∷ kw "equals" ∷ kw "contains" ∷ kw "contained_by" ∷ [])
starts2 = starts_either _ _ _ _ (starts_after "after" _) starts3

pub relation_reads : Reads RelationText relation_at []
unfolding relation_at
relation_reads =
    relation_or "before" (OneRange Before) Relation2 _ _ _ (one_range_reads Before) (
    relation_or "after" (OneRange AfterEnd) Relation3 _ _ _ (one_range_reads AfterEnd) (
    relation_or "meets" (Yields Meets) Relation4 _ _ _ (yields_reads Meets) (
    relation_or "met_by" (Yields MetBy) Relation5 _ _ _ (yields_reads MetBy) (
    relation_or "starts" (OneRange Starts) Relation6 _ _ _ (one_range_reads Starts) (
    relation_or "ends" (OneRange Ends) Relation7 _ _ _ (one_range_reads Ends) (
    relation_or "equals" (Yields Equals) Relation8 _ _ _ (yields_reads Equals) (
    relation_or "contains" (TwoRanges Contains) (After "contained_by" (TwoRanges ContainedBy)) _ _ _ (two_ranges_reads Contains)
    (after_reads "contained_by" _ _ [] (two_ranges_reads ContainedBy)) (starts_after "contained_by" _) refl)
    starts8 refl) starts7 refl) starts6 refl) starts5 refl) starts4 refl) starts3 refl) starts2 refl

pub choice_reads : (v : ℕ) → Reads (ChoiceText v) (choice_at v) []
unfolding choice_at
choice_reads v = then_any RelationText _ relation_at _ [] relation_reads (λ relation. then_any (KindText v) _ (kind_at v) _ [] (kind_reads v) (λ by. yields_reads _))

pub choice_items : (v : ℕ) → AreItems (is_word (codes "or")) (kw "or") (After "or" (ChoiceText v)) (after "or" (choice_at v)) []
choice_items v = keyed_items "or" (After "or" (ChoiceText v)) (after "or" (choice_at v)) [] (begins_then (Keyword "or") _ (kw "or") (begins_keyword "or")) (after_reads "or" _ _ [] (choice_reads v)) refl

more_choices_reads : (v : ℕ) → Reads (Many (After "or" (ChoiceText v))) (many (is_word (codes "or")) (after "or" (choice_at v))) (kw "or" ∷ [])
more_choices_reads v = many_reads (is_word (codes "or")) (kw "or") (After "or" (ChoiceText v)) (after "or" (choice_at v)) [] (choice_items v)

pub further_reads : (v : ℕ) → Reads (FurtherChoices v) (further_at v) (kw "or" ∷ [])
unfolding further_at
further_reads v =
    elim (nat_eq v 1) as (λ b. Reads (cond b (Yields []) (Many (After "or" (ChoiceText v)))) (cond b (yields []) (many (is_word (codes "or")) (after "or" (choice_at v)))) (kw "or" ∷ [])) [
      | true ↦ nothing [] (kw "or" ∷ [])
      | false ↦ more_choices_reads v
    ]

pub choices_reads : (v : ℕ) → Reads (ChoicesText v) (choices_at v) (kw "or" ∷ [])
unfolding choices_at
choices_reads v =
    then_any (ChoiceText v) _ (choice_at v) _ (kw "or" ∷ []) (choice_reads v) (λ first.
    then_reads (FurtherChoices v) _ (further_at v) _ (kw "or" ∷ []) (kw "or" ∷ []) (further_reads v) (λ others. nothing _ _) (λ others. leads_yields _ _ _ (covers_test _ _ refl)))

pub need_reads : (v : ℕ) → Reads (NeedText v) (need_at v) (kw "or" ∷ [])
unfolding need_at
need_reads v =
    then_any (Keyword "need") _ (keyword "need") _ (kw "or" ∷ []) (keyword_reads "need") (λ _.
    then_any (KindText v) _ (kind_at v) _ (kw "or" ∷ []) (kind_reads v) (λ of.
    then_reads (ChoicesText v) _ (choices_at v) _ (kw "or" ∷ []) (kw "or" ∷ []) (choices_reads v) (λ either. nothing _ _) (λ either. leads_yields _ _ _ (covers_test _ _ refl))))

-- a goal's range leads to no stop of another one
stop_leads : Leads (Maybe (After "stop" RangeText) whole) goal_stops (kw "start" ∷ [])
stop_leads =
    leads_either (After "stop" RangeText) (Yields whole) goal_stops (kw "start" ∷ [])
    (leads_begin (After "stop" RangeText) (kw "stop") goal_stops (kw "start" ∷ []) (begins_then (Keyword "stop") _ (kw "stop") (begins_keyword "stop")) refl)
    (leads_yields whole goal_stops (kw "start" ∷ []) (covers_test _ _ refl))

pub goal_reads : (v : ℕ) → Reads (GoalText v) (goal_at v) goal_stops
unfolding goal_at
goal_reads v =
    then_any (Keyword "goal") _ (keyword "goal") _ goal_stops (keyword_reads "goal") (λ _.
    then_any (KindText v) _ (kind_at v) _ goal_stops (kind_reads v) (λ kind.
    then_reads (Maybe (After "start" RangeText) whole) _ (maybe_after "start" range_at whole) _ (kw "start" ∷ []) goal_stops (maybe_reads "start" RangeText range_at whole (kw "start" ∷ []) (weaken RangeText range_at (kw "start" ∷ []) [] (covers_test _ _ refl) range_reads) (covers_test _ _ refl))
    (λ start. then_reads (Maybe (After "stop" RangeText) whole) _ (maybe_after "stop" range_at whole) _ (kw "stop" ∷ []) goal_stops (maybe_reads "stop" RangeText range_at whole (kw "stop" ∷ []) (weaken RangeText range_at (kw "stop" ∷ []) [] (covers_test _ _ refl) range_reads) (covers_test _ _ refl)) (λ stop. nothing _ _) (λ stop. leads_yields _ _ _ (covers_test _ _ refl)))
    (λ start. leads_then (Maybe (After "stop" RangeText) whole) _ goal_stops goal_stops (kw "start" ∷ []) stop_leads (λ stop. leads_yields _ _ _ (covers_test _ _ refl)))))

begins_goal : (v : ℕ) → BeginsWith (GoalText v) (kw "goal")
begins_goal v = begins_then (Keyword "goal") _ (kw "goal") (begins_keyword "goal")

pub goal_items : (v : ℕ) → AreItems (is_word (codes "goal")) (kw "goal") (GoalText v) (goal_at v) goal_stops
goal_items v = keyed_items "goal" (GoalText v) (goal_at v) goal_stops (begins_goal v) (goal_reads v) refl

pub horizon_reads : (v : ℕ) → Reads (HorizonText v) (horizon_at v) horizon_stops
unfolding horizon_at
horizon_reads v =
    then_any (Keyword "horizon") _ (keyword "horizon") _ horizon_stops (keyword_reads "horizon") (λ _.
    then_any Number _ number _ horizon_stops number_reads (λ tick.
    then_reads (Many (GoalText v)) _ (many (is_word (codes "goal")) (goal_at v)) _ horizon_stops horizon_stops (many_reads (is_word (codes "goal")) (kw "goal") (GoalText v) (goal_at v) goal_stops (goal_items v)) (λ goals. nothing _ _) (λ goals. leads_yields _ _ _ (covers_test _ _ refl))))

begins_var : (v : ℕ) → BeginsWith (VarText v) (kw "var")
begins_var v = begins_then (Keyword "var") _ (kw "var") (begins_keyword "var")

begins_need : (v : ℕ) → BeginsWith (NeedText v) (kw "need")
begins_need v = begins_then (Keyword "need") _ (kw "need") (begins_keyword "need")

begins_horizon : (v : ℕ) → BeginsWith (HorizonText v) (kw "horizon")
begins_horizon v = begins_then (Keyword "horizon") _ (kw "horizon") (begins_keyword "horizon")

pub var_items : (v : ℕ) → AreItems (is_word (codes "var")) (kw "var") (VarText v) (var_at v) var_stops
var_items v = keyed_items "var" (VarText v) (var_at v) var_stops (begins_var v) (var_reads v) refl

pub need_items : (v : ℕ) → AreItems (is_word (codes "need")) (kw "need") (NeedText v) (need_at v) (kw "or" ∷ [])
need_items v = keyed_items "need" (NeedText v) (need_at v) (kw "or" ∷ []) (begins_need v) (need_reads v) refl

pub horizon_items : (v : ℕ) → AreItems (is_word (codes "horizon")) (kw "horizon") (HorizonText v) (horizon_at v) horizon_stops
horizon_items v = keyed_items "horizon" (HorizonText v) (horizon_at v) horizon_stops (begins_horizon v) (horizon_reads v) refl

abbrev vars_stops : List Piece
vars_stops = kw "var" ∷ var_stops

abbrev needs_stops : List Piece
needs_stops = kw "need" ∷ kw "or" ∷ []

abbrev horizons_stops : List Piece
horizons_stops = kw "horizon" ∷ horizon_stops

begins_horizons : (v : ℕ) (f : List AstHorizon → Ast) → BeginsWith (Then (Several (HorizonText v)) (λ horizons. Then (Keyword "end") (λ _. Yields (f horizons)))) (kw "horizon")
begins_horizons v f = begins_then (Several (HorizonText v)) _ (kw "horizon") (begins_then (HorizonText v) _ (kw "horizon") (begins_horizon v))

pub clauses_reads : (v : ℕ) → Reads (ClausesText v) (clauses_at v) []
unfolding clauses_at
clauses_reads v =
    then_reads (Several (VarText v)) _ (several "var" (var_at v)) _ vars_stops [] (several_reads "var" (VarText v) (var_at v) var_stops (begins_var v) (var_reads v) refl)
    (λ vars. then_reads (Many (NeedText v)) _ (many (is_word (codes "need")) (need_at v)) _ needs_stops [] (many_reads (is_word (codes "need")) (kw "need") (NeedText v) (need_at v) (kw "or" ∷ []) (need_items v))
    (λ needs. then_reads (Several (HorizonText v)) _ (several "horizon" (horizon_at v)) _ horizons_stops [] (several_reads "horizon" (HorizonText v) (horizon_at v) horizon_stops (begins_horizon v) (horizon_reads v) refl)
    (λ horizons. then_any (Keyword "end") _ (keyword "end") _ [] (keyword_reads "end") (λ _. yields_reads _))
    (λ horizons. leads_begin _ (kw "end") [] horizons_stops (begins_then (Keyword "end") _ (kw "end") (begins_keyword "end")) refl))
    (λ needs. leads_begin _ (kw "horizon") [] needs_stops (begins_horizons v _) refl))
    (λ vars. leads_then (Many (NeedText v)) _ [] vars_stops vars_stops (leads_many (NeedText v) (kw "need") vars_stops vars_stops (begins_need v) refl (covers_test _ _ refl)) (λ needs. leads_begin _ (kw "horizon") [] vars_stops (begins_horizons v _) refl))

pub mission_reads : Reads MissionText mission_at []
unfolding mission_at
mission_reads =
    then_any (Keyword "hsts") _ (keyword "hsts") _ [] (keyword_reads "hsts") (λ _.
    then_any VersionText _ version_at _ [] version_reads (λ v. clauses_reads v))
