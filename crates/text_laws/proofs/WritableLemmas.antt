-- What a text spells is writable.
use Rattle.std.proofs.Common.{◌≡◌, ℕ, ◌<◌, ◌≤◌, ℤ, pos, Bool, true, false, cond, not, ◌||◌, ◌&&◌, List, [], ◌∷◌, ◌++◌, length, flat_map, refl, sym, ap, ◌∙◌, subst, append-nil, nat_eq, inl, inr, arith, codes, ◌⊎◌, zero, suc, take}
use Rattle.std.proofs.lemmas.Int.{ints}
use Rattle.std.specs.Prelude.{Option, Some, None, nat_le, int_lt}
use Rattle.std.specs.List.{list_all, list_any, AllByRecursion}
use Rattle.std.proofs.lemmas.Bool.{and_parts, cases_Bool}
use Rattle.std.proofs.lemmas.Bool.Decides.{nat_tests}
use Prim.Native.String.{String}
use Rattle.hs_base.specs.declared.limits.TheConstants.{LAST, NAME_BYTES}
use Rattle.hs_base.specs.declared.range.Range.{Range}
use Rattle.hs_base.specs.declared.relation.Relation.{Relation}
use Rattle.hs_base.specs.declared.relation.Relation.TheVariants.{Before, After as AfterEnd, Starts, Ends, Contains as Encloses, ContainedBy}
use Rattle.hs_texts.specs.declared.ast.Ast.{Ast}
use Rattle.hs_texts.specs.declared.ast.AstChoice.{AstChoice}
use Rattle.hs_texts.specs.declared.ast.AstStep.{AstStep}
use Rattle.hs_texts.specs.declared.ast.AstStep.TheVariants.{Do as AstDo, Until as AstUntil}
use Rattle.hs_base.specs.Names.{IsName, is_name, is_name_byte, begins_small, is_reserved}
use Rattle.hs_base.specs.Ranges.{whole, InRange}
use Rattle.hs_texts.specs.Pieces.{Piece, word, number as digits, symbol, is_large, number_of, Placed, pieces_of}
use Rattle.hs_texts.specs.Languages.{Language, One, Yields, Then, ◌∣◌, Maybe, Many, Several, Keyword, Number, After, Apart, number_says}
use Rattle.hs_texts.specs.MissionText.{version_says, name_says, NameText, LimitText, RangeText, UseText, KindText, NextText, DoText, UntilText, PartText, PartsText, ScriptText, SaidText, AnswersText, PlainText, DeviceText, ValueText, BeginText, VarText, OneRange, TwoRanges, RelationText, ChoiceText, FurtherChoices, ChoicesText, NeedText, GoalText, HorizonText, MissionText}
use Rattle.hs_texts.specs.MissionSpelling.{Spells, SpellsFront}
use Rattle.text_laws.specs.Writable.{AreLimits, IsBareUse, IsBareKind, IsWritableStep, ends_awaiting, IsWritableSaid, AreWritableAnswers, IsWritableValue, IsWritableBegin, IsWritableVar, HasLimits, IsWritableChoice, IsWritableNeed, IsWritableGoal, IsWritableHorizon, IsWritable}

-- Values that sentences without large numbers give.

pub record Gives {A : Type 0} (R : Language A) (W : A → Type 0) : Type 0 where
  pub gives : (ps : List Piece) (x : A) → list_any is_large ps ≡ false → R ps x → W x

small_parts : (a b : List Piece) → list_any is_large (a ++ b) ≡ false → (list_any is_large a ≡ false) × (list_any is_large b ≡ false)
small_parts [] b h = (refl, h)
small_parts (p ∷ a) b h =
    let here : is_large p ≡ false = grind arith in
    let later : list_any is_large (a ++ b) ≡ false = grind arith in
    let parts = small_parts a b later in
    (rw (here, parts.0) refl, parts.1)

pub gives_any : {A : Type 0} {R : Language A} → Gives R (λ x. Unit {0})
gives_any = record { gives = λ ps x h s. tt }

pub gives_yields : {A : Type 0} {W : A → Type 0} {value : A} → W value → Gives (Yields value) W
gives_yields {A} {W} {value} w = record { gives = λ ps x h s. subst (λ (z : A). W z) (sym s.1) w }

pub gives_then : {A B : Type 0} {R : Language A} {S : A → Language B} {V : A → Type 0} {W : B → Type 0} → Gives R V → ((x : A) → V x → Gives (S x) W) → Gives (Then R S) W
gives_then {A} {B} {R} {S} {V} {W} r s = record {
  gives = λ ps y h t.
      let small = small_parts t.front t.back (subst (λ (qs : List Piece). list_any is_large qs ≡ false) t.joined h) in
      (s t.value (r.gives t.front t.value small.0 t.first)).gives t.back y small.1 t.second;
}

pub gives_either : {A : Type 0} {R S : Language A} {W : A → Type 0} → Gives R W → Gives S W → Gives (R ∣ S) W
gives_either r s = record { gives = λ ps x h t. elim t [ inl k ↦ r.gives ps x h k | inr k ↦ s.gives ps x h k ] }

many_give : {A : Type 0} (R : Language A) (W : A → Type 0) → Gives R W → (ps : List Piece) (xs : List A) → list_any is_large ps ≡ false → Many R ps xs → AllByRecursion W xs
many_give R W r ps [] h k = tt
many_give R W r ps (x ∷ xs) h k =
    let small = small_parts k.0 k.1 (subst (λ (qs : List Piece). list_any is_large qs ≡ false) k.4 h) in
    (r.gives k.0 x small.0 k.2, many_give R W r k.1 xs small.1 k.3)

pub gives_many : {A : Type 0} {R : Language A} {W : A → Type 0} → Gives R W → Gives (Many R) (AllByRecursion W)
gives_many {A} {R} {W} r = record { gives = many_give R W r }

-- one or more that are so
pub record AreSome {A : Type 0} (W : A → Type 0) (xs : List A) : Type 0 where
  pub some : 0 < length xs
  pub each : AllByRecursion W xs

pub gives_several : {A : Type 0} {R : Language A} {W : A → Type 0} → Gives R W → Gives (Several R) (AreSome W)
gives_several r = gives_then r (λ x h. gives_then (gives_many r) (λ xs k. gives_yields (record { some = omega arith; each = (h, k) })))

-- what stands behind a keyword or a symbol
pub gives_behind : {B : Type 0} {R : Language (Unit {0})} {S : Unit {0} → Language B} {W : B → Type 0} → Gives (S tt) W → Gives (Then R S) W
gives_behind s = gives_then gives_any (λ x h. s)

pub gives_apart : {A : Type 0} {R : Language A} {W : A → Type 0} (c : String) → Gives R W → Gives (Apart c R) (AreSome W)
gives_apart c r = gives_then r (λ x h. gives_then (gives_many (gives_behind r)) (λ xs k. gives_yields (record { some = omega arith; each = (h, k) })))

one_small : (p : Piece) (ps : List Piece) → ps ≡ p ∷ [] → list_any is_large ps ≡ false → is_large p ≡ false
one_small p ps e h = let k : list_any is_large (p ∷ []) ≡ false = subst (λ (qs : List Piece). list_any is_large qs ≡ false) e h in grind arith

pub gives_one : {A : Type 0} {says : Piece → Option A} {W : A → Type 0} → ((p : Piece) (x : A) → is_large p ≡ false → says p ≡ Some x → W x) → Gives (One says) W
gives_one f = record { gives = λ ps x h s. f s.0 x (one_small s.0 ps s.1 h) s.2 }

-- Names and numbers.

some_same : {A : Type 0} {x y : A} → Some x ≡ Some y → x ≡ y
some_same h = cc

in_whole : (n : ℕ) (x : ℤ) → Some (pos n) ≡ Some x → int_lt LAST (pos n) ≡ false → InRange whole x
in_whole n x e h =
    let k : InRange whole (pos n) = (omega (arith, ints), grind (arith, ints)) in
    subst (λ (z : ℤ). InRange whole z) (some_same e) k

number_said : (p : Piece) (x : ℤ) → is_large p ≡ false → number_says p ≡ Some x → InRange whole x
number_said (word w) x h s = absurd cc
number_said (symbol c) x h s = absurd cc
number_said (digits ds) x h s = let low : int_lt LAST (pos (number_of ds)) ≡ false = grind arith in in_whole (number_of ds) x s low

number_gives : Gives Number (InRange whole)
number_gives = gives_one number_said

not_true : (b : Bool) → not b ≡ true → b ≡ false
not_true true h = absurd cc
not_true false h = refl

at_most : (n k : ℕ) → nat_le n k ≡ true → n ≤ k
at_most n k h = grind (arith, nat_tests)

pub name_from_test : (w : List ℕ) → is_name w ≡ true → IsName w
unfolding is_name
name_from_test w h =
    let a = and_parts (begins_small w && list_all is_name_byte w && nat_le (length w) NAME_BYTES) (not (is_reserved w)) h in
    let b = and_parts (begins_small w && list_all is_name_byte w) (nat_le (length w) NAME_BYTES) a.0 in
    let c = and_parts (begins_small w) (list_all is_name_byte w) b.0 in
    record { begins = c.0; bytes = c.1; short = at_most (length w) NAME_BYTES b.1; free = not_true (is_reserved w) a.1 }

said_name : (w x : List ℕ) (b : Bool) → cond b (Some w) None ≡ Some x → (b ≡ true) × (w ≡ x)
said_name w x true h = (refl, some_same h)
said_name w x false h = absurd cc

name_said : (v : ℕ) (p : Piece) (x : List ℕ) → is_large p ≡ false → name_says v p ≡ Some x → IsName x
name_said v (word w) x h s = let k = said_name w x (is_name w) s in subst (λ (z : List ℕ). IsName z) k.1 (name_from_test w k.0)
name_said v (symbol c) x h s = absurd cc
name_said v (digits ds) x h s = absurd cc

name_gives : (v : ℕ) → Gives (NameText v) IsName
name_gives v = gives_one (name_said v)

limit_gives : Gives LimitText (InRange whole)
limit_gives = gives_either (gives_behind (gives_yields (omega (arith, ints), omega (arith, ints)))) number_gives

range_gives : Gives RangeText AreLimits
range_gives = gives_behind (gives_then limit_gives (λ low h. gives_behind (gives_then limit_gives (λ high k. gives_behind (gives_yields (record { low = h; high = k }))))))

use_gives : (v : ℕ) → Gives (UseText v) IsBareUse
use_gives v = gives_then (name_gives v) (λ name h. gives_yields (record { name = h; bare = refl }))

kind_gives : (v : ℕ) → Gives (KindText v) IsBareKind
kind_gives v = gives_then (name_gives v) (λ sv h. gives_behind (gives_then (use_gives v) (λ value k. gives_yields (record { sv = h; value = k }))))

next_gives : (v : ℕ) → Gives (NextText v) (AllByRecursion IsBareUse)
next_gives v = gives_either (record { gives = λ ps x h s. ((gives_behind {R = Keyword "then"} {S = λ _. Apart "," (UseText v)} (gives_apart "," (use_gives v))).gives ps x h s).each }) (gives_yields tt)

-- Scripts.

pub record IsWritableScript (steps : List AstStep) : Type 0 where
  pub each : AllByRecursion IsWritableStep steps
  pub waits : ends_awaiting steps ≡ true

ends_more : (s : AstStep) (steps : List AstStep) → ends_awaiting steps ≡ true → ends_awaiting (s ∷ steps) ≡ true
ends_more s [] h = absurd cc
ends_more (AstDo ordered amount) (t ∷ steps) h = h
ends_more (AstUntil awaited) (t ∷ steps) h = h

in_front : (front back : List AstStep) → AllByRecursion IsWritableStep front → IsWritableScript back → IsWritableScript (front ++ back)
in_front [] back h k = k
in_front (s ∷ front) back h k = let later = in_front front back h.1 k in record { each = (h.0, later.each); waits = ends_more s (front ++ back) later.waits }

all_parts : (part : List AstStep) (parts : List (List AstStep)) → IsWritableScript part → AllByRecursion IsWritableScript parts → IsWritableScript (part ++ flat_map (λ steps. steps) parts)
all_parts part [] h k = subst (λ (zs : List AstStep). IsWritableScript zs) (sym (append-nil part)) h
all_parts part (next ∷ parts) h k = in_front part (next ++ flat_map (λ steps. steps) parts) h.each (all_parts next parts k.0 k.1)

some_parts : (parts : List (List AstStep)) → AreSome IsWritableScript parts → IsWritableScript (flat_map (λ steps. steps) parts)
some_parts [] h = let none : 0 < 0 = h.some in absurd (omega arith)
some_parts (part ∷ parts) h = all_parts part parts h.each.0 h.each.1

do_gives : (v : ℕ) → Gives (DoText v) IsWritableStep
do_gives v = gives_behind (gives_then (name_gives v) (λ ordered h. gives_then number_gives (λ amount k. gives_behind (gives_yields (h, k)))))

until_gives : (v : ℕ) → Gives (UntilText v) (λ s. IsWritableScript (s ∷ []))
until_gives v = gives_behind (gives_then (name_gives v) (λ awaited h. gives_yields (record { each = (h, tt); waits = refl })))

part_gives : (v : ℕ) → Gives (PartText v) IsWritableScript
part_gives v = gives_then (gives_many (do_gives v)) (λ orders h. gives_then (until_gives v) (λ last k. gives_yields (in_front orders (last ∷ []) h k)))

parts_gives : (v : ℕ) → Gives (PartsText v) IsWritableScript
parts_gives v = gives_then (gives_apart ";" (part_gives v)) (λ parts h. gives_yields (some_parts parts h))

done_is_a_name : IsName (codes "done")
done_is_a_name = record { begins = refl; bytes = refl; short = omega arith; free = refl }

script_gives : (v : ℕ) → Gives (ScriptText v) IsWritableScript
script_gives v = gives_either (gives_behind (parts_gives v)) (gives_yields (record { each = (done_is_a_name, tt); waits = refl }))

-- Answers.

said_gives : (v : ℕ) → Gives (SaidText v) IsWritableSaid
said_gives v = gives_then number_gives (λ delay h. gives_then (name_gives v) (λ said k. gives_yields (record { delay = h; named = k })))

answers_gives : (v : ℕ) → Gives (AnswersText v) AreWritableAnswers
answers_gives v = gives_behind (record { gives = λ ps x h s. let k = (gives_apart "," (said_gives v)).gives ps x h s in record { some = k.some; each = k.each } })

-- Values and variables.

plain_gives : (v : ℕ) (name : List ℕ) (lasts : Range) → IsName name → AreLimits lasts → Gives (PlainText v name lasts) IsWritableValue
plain_gives v name lasts h l = gives_then (next_gives v) (λ next n. gives_yields (record {
  name = h;
  no_params = refl;
  lasts = lasts;
  only = refl;
  limits = l;
  next = n;
  steps = tt;
  waits = λ e. absurd cc;
  answers = tt;
  no_script = λ e. refl;
  no_answers = λ e. refl;
}))

device_gives : (v : ℕ) (name : List ℕ) (lasts : Range) → IsName name → AreLimits lasts → Gives (DeviceText v name lasts) IsWritableValue
device_gives v name lasts h l = gives_behind (gives_behind (gives_then (next_gives v) (λ next n. gives_then (script_gives v) (λ script s. gives_then (gives_many (answers_gives v)) (λ answers a. gives_yields (record {
  name = h;
  no_params = refl;
  lasts = lasts;
  only = refl;
  limits = l;
  next = n;
  steps = s.each;
  waits = λ e. s.waits;
  answers = a;
  no_script = λ e. absurd cc;
  no_answers = λ e. absurd cc;
}))))))

value_gives : (v : ℕ) → Gives (ValueText v) IsWritableValue
value_gives v = gives_behind (gives_then (name_gives v) (λ name h. gives_then range_gives (λ lasts l. gives_either (device_gives v name lasts h l) (plain_gives v name lasts h l))))

begin_gives : (v : ℕ) → Gives (BeginText v) IsWritableBegin
begin_gives v = gives_either (gives_behind (gives_then (use_gives v) (λ value h. gives_yields h))) (gives_yields tt)

var_gives : (v : ℕ) → Gives (VarText v) IsWritableVar
var_gives v = gives_behind (gives_then (name_gives v) (λ name h. gives_then (gives_several (value_gives v)) (λ values k. gives_then (begin_gives v) (λ begin b. gives_yields (record { name = h; some_values = k.some; values = k.each; begin = b })))))

-- Needs.

one_range_gives : (related : Range → Relation) → ((r : Range) → AreLimits r → HasLimits (related r)) → Gives (OneRange related) HasLimits
one_range_gives related f = gives_then range_gives (λ r h. gives_yields (f r h))

two_ranges_give : (related : Range → Range → Relation) → ((a b : Range) → AreLimits a → AreLimits b → HasLimits (related a b)) → Gives (TwoRanges related) HasLimits
two_ranges_give related f = gives_then range_gives (λ a h. gives_then range_gives (λ b k. gives_yields (f a b h k)))

relation_gives : Gives RelationText HasLimits
relation_gives =
    gives_either (gives_behind (one_range_gives Before (λ r h. h)))
    (gives_either (gives_behind (one_range_gives AfterEnd (λ r h. h)))
    (gives_either (gives_behind (gives_yields tt))
    (gives_either (gives_behind (gives_yields tt))
    (gives_either (gives_behind (one_range_gives Starts (λ r h. h)))
    (gives_either (gives_behind (one_range_gives Ends (λ r h. h)))
    (gives_either (gives_behind (gives_yields tt))
    (gives_either (gives_behind (two_ranges_give Encloses (λ a b h k. (h, k))))
    (gives_behind (two_ranges_give ContainedBy (λ a b h k. (h, k)))))))))))

choice_gives : (v : ℕ) → Gives (ChoiceText v) IsWritableChoice
choice_gives v = gives_then relation_gives (λ relation h. gives_then (kind_gives v) (λ by k. gives_yields (record { limits = h; by = k })))

record AreFurther (v : ℕ) (cs : List AstChoice) : Type 0 where
  none : v ≡ 1 → length cs ≡ 0
  each : AllByRecursion IsWritableChoice cs

further_gives : (v : ℕ) → Gives (FurtherChoices v) (AreFurther v)
further_gives v = elim (cases_Bool (nat_eq v 1)) [
  | inl e ↦ rw e (gives_yields (record { none = λ one'. refl; each = tt }))
  | inr e ↦ rw e (record { gives = λ ps cs h s. record { none = λ one'. absurd (grind (arith, nat_tests)); each = (gives_many {R = After "or" (ChoiceText v)} (gives_behind (choice_gives v))).gives ps cs h s } })
]

record AreChoices (v : ℕ) (cs : List AstChoice) : Type 0 where
  some : 0 < length cs
  single : v ≡ 1 → length cs ≡ 1
  each : AllByRecursion IsWritableChoice cs

choices_give : (v : ℕ) → Gives (ChoicesText v) (AreChoices v)
choices_give v = gives_then (choice_gives v) (λ first h. gives_then (further_gives v) (λ others k. gives_yields (record { some = omega arith; single = λ e. omega (arith, k.none e); each = (h, k.each) })))

need_gives : (v : ℕ) → Gives (NeedText v) (IsWritableNeed v)
need_gives v = gives_behind (gives_then (kind_gives v) (λ of h. gives_then (choices_give v) (λ either k. gives_yields (record { of = h; some_choices = k.some; single = k.single; choices = k.each }))))

-- Horizons.

whole_limits : AreLimits whole
whole_limits = record { low = (omega (arith, ints), omega (arith, ints)); high = (omega (arith, ints), omega (arith, ints)) }

maybe_range_gives : (w : String) → Gives (Maybe (After w RangeText) whole) AreLimits
maybe_range_gives w = gives_either (gives_behind range_gives) (gives_yields whole_limits)

goal_gives : (v : ℕ) → Gives (GoalText v) IsWritableGoal
goal_gives v = gives_behind (gives_then (kind_gives v) (λ kind h. gives_then (maybe_range_gives "start") (λ start k. gives_then (maybe_range_gives "stop") (λ stop l. gives_yields (record { kind = h; start = k; stop = l })))))

horizon_gives : (v : ℕ) → Gives (HorizonText v) IsWritableHorizon
horizon_gives v = gives_behind (gives_then number_gives (λ tick h. gives_then (gives_many (goal_gives v)) (λ goals k. gives_yields (record { tick = h; goals = k }))))

-- The mission.

said_version : (n x : ℕ) → cond (nat_eq n 1 || nat_eq n 2) (Some n) None ≡ Some x → (x ≡ 1) ⊎ (x ≡ 2)
said_version n x h = elim (cases_Bool (nat_eq n 1)) [
  | inl e ↦
      let k : Some n ≡ Some x = rw e at h in
      let one' : n ≡ 1 = grind (arith, nat_tests) in
      inl (sym (some_same k) ∙ one')
  | inr e ↦ elim (cases_Bool (nat_eq n 2)) [
    | inl f ↦
        let k : Some n ≡ Some x = rw (e, f) at h in
        let two' : n ≡ 2 = grind (arith, nat_tests) in
        inr (sym (some_same k) ∙ two')
    | inr f ↦ let k : None ≡ Some x = rw (e, f) at h in absurd cc
  ]
]

version_said : (p : Piece) (x : ℕ) → is_large p ≡ false → version_says p ≡ Some x → (x ≡ 1) ⊎ (x ≡ 2)
version_said (word w) x h s = absurd cc
version_said (symbol c) x h s = absurd cc
version_said (digits ds) x h s = said_version (number_of ds) x s

mission_gives : Gives MissionText IsWritable
mission_gives = gives_behind (gives_then (gives_one version_said) (λ v h.
    gives_then (gives_several (var_gives v)) (λ vars a.
    gives_then (gives_many (need_gives v)) (λ needs b.
    gives_then (gives_several (horizon_gives v)) (λ horizons c.
    gives_behind (gives_yields (record { version = h; no_sorts = refl; some_vars = a.some; vars = a.each; needs = b; some_horizons = c.some; horizons = c.each })))))))

small_pieces : (ps : List Placed) → list_any (λ p. is_large p.piece) ps ≡ list_any is_large (pieces_of ps)
small_pieces [] = refl
small_pieces (p ∷ ps) = ap (λ (b : Bool). is_large p.piece || b) (small_pieces ps)

-- what a text spells is writable
pub spelled_writable : (bytes : List ℕ) (a : Ast) → Spells bytes a → IsWritable a
spelled_writable bytes a h = mission_gives.gives (pieces_of h.pieces) a (sym (small_pieces h.pieces) ∙ h.text.small) h.sentence

small_front : (ps : List Piece) (n : ℕ) → list_any is_large ps ≡ false → list_any is_large (take n ps) ≡ false
small_front ps zero h = refl
small_front [] (suc n) h = refl
small_front (p ∷ ps) (suc n) h = elim (cases_Bool (is_large p)) [
  | inl large ↦ absurd (let k : true ≡ false = rw large at h in cc)
  | inr small ↦ let k : list_any is_large ps ≡ false = rw small at h in rw small (small_front ps n k)
]

-- and so is what its front spells
pub front_writable : (bytes : List ℕ) (a : Ast) (n : ℕ) → SpellsFront bytes a n → IsWritable a
front_writable bytes a n h = mission_gives.gives (take n (pieces_of h.pieces)) a (small_front (pieces_of h.pieces) n (sym (small_pieces h.pieces) ∙ h.text.small)) h.sentence
