-- Each clause of the canonical text is written as its nonterminal has it.
use Rattle.std.proofs.Common.{◌≡◌, ◌≤◌, ℕ, ◌<◌, ℤ, pos, Bool, true, false, List, [], ◌∷◌, ◌++◌, length, map, flat_map, refl, sym, ap, ◌∙◌, subst, append_assoc, append-nil, nat_eq, inl, inr, arith, codes}
use Rattle.std.proofs.lemmas.Int.{ints}
use Rattle.std.specs.Prelude.{◌&&◌, Option, Some, None, ◌⊎◌, nat_le}
use Rattle.std.specs.List.{list_all, AllByRecursion}
use Rattle.std.specs.Fmt.{decimal, signed_decimal}
use Rattle.std.proofs.lemmas.Slice.Eq.{bytes_eq-Decides}
use Rattle.std.proofs.lemmas.Bool.{and_parts, cases_Bool}
use Rattle.std.proofs.lemmas.Bool.Decides.{nat_tests}
use Rattle.hs_base.specs.declared.limits.TheConstants.{TEXT_BYTES, LAST, NAME_BYTES}
use Rattle.hs_base.specs.declared.range.Range.{Range}
use Rattle.hs_base.specs.declared.relation.Relation.{Relation}
use Rattle.hs_base.specs.declared.relation.Relation.TheVariants.{Before, After as AfterEnd, Meets as MeetsStart, MetBy, Starts, Ends, Equals, Contains as Encloses, ContainedBy}
use Rattle.hs_texts.specs.declared.ast.Ast.{Ast}
use Rattle.hs_texts.specs.declared.ast.AstChoice.{AstChoice}
use Rattle.hs_texts.specs.declared.ast.AstGoal.{AstGoal}
use Rattle.hs_texts.specs.declared.ast.AstHorizon.{AstHorizon}
use Rattle.hs_texts.specs.declared.ast.AstKind.{AstKind}
use Rattle.hs_texts.specs.declared.ast.AstNeed.{AstNeed}
use Rattle.hs_texts.specs.declared.ast.AstSaid.{AstSaid}
use Rattle.hs_texts.specs.declared.ast.AstStep.{AstStep}
use Rattle.hs_texts.specs.declared.ast.AstStep.TheVariants.{Do as AstDo, Until as AstUntil}
use Rattle.hs_texts.specs.declared.ast.AstValue.{AstValue}
use Rattle.hs_texts.specs.declared.ast.AstVar.{AstVar}
use Rattle.hs_texts.specs.declared.ast.Use.{Use}
use Rattle.hs_base.specs.Names.{IsName, is_name, is_name_byte, is_small_letter, begins_small}
use Rattle.hs_base.specs.Ranges.{range, whole, InRange}
use Rattle.hs_base.specs.Reduced.{int_eq}
use Rattle.hs_texts.specs.Pieces.{Piece, word, begins, is_letter, is_word_byte}
use Rattle.hs_texts.specs.Languages.{Language, Yields, Then, Maybe, Many, ◌>>=◌, Keyword, Sign, After, Behind}
use Rattle.hs_texts.specs.MissionText.{version_says, VersionText, name_says, NameText, LimitText, RangeText, UseText, KindText, NextText, DoText, UntilText, PartText, PartsText, ScriptText, SaidText, AnswersText, PlainText, DeviceText, ValueText, BeginText, VarText, OneRange, TwoRanges, RelationText, ChoiceText, FurtherChoices, ChoicesText, NeedText, GoalText, HorizonText, MissionText, until_done}
use Rattle.hs_texts.specs.CanonicalText.{apart, limit_text, range_text, is_whole, use_text, kind_text, next_text, step_text, is_until_done, script_line, said_text, answers_line, lasts_text, value_lines, begin_line, var_lines, relation_text, choice_text, need_line, goal_range, goal_line, horizon_lines, canonical}
use Rattle.text_laws.specs.Writable.{AreLimits, IsBareUse, IsBareKind, IsWritableStep, ends_awaiting, IsWritableSaid, AreWritableAnswers, IsWritableValue, IsWritableBegin, IsWritableVar, HasLimits, IsWritableChoice, IsWritableNeed, IsWritableGoal, IsWritableHorizon, IsWritable}
use Rattle.hs_texts.specs.MissionSpelling.{Spells}
use Rattle.text_laws.specs.Writes.{Writes, MayFollow}
use Rattle.text_laws.proofs.WritesLemmas.{text_written, nothing, line_end, three, four, five, seven, eight, loosened, seen_as, left, right, respelled, spaced, next_line, ended, followed, closed_then, yielded, is_word_text, word_written, decimal_written, number_written, keyword, keyed, keyed_between, sign, signed, lines, some_lines, separated, separated_begin, parted, each}

-- Names and numbers.

letter_small : (c : ℕ) → is_small_letter c ≡ true → is_letter c ≡ true
letter_small c h = grind (arith, nat_tests)

byte_of_name : (c : ℕ) → is_name_byte c ≡ true → is_word_byte c ≡ true
byte_of_name c h = grind (arith, nat_tests)

name_begins : (w : List ℕ) → begins_small w ≡ true → begins is_letter w ≡ true
name_begins [] h = absurd cc
name_begins (c ∷ cs) h = letter_small c h

both_true : (a b : Bool) → a ≡ true → b ≡ true → (a && b) ≡ true
both_true a b h k = rw (h, k) refl

name_bytes : (w : List ℕ) → list_all is_name_byte w ≡ true → list_all is_word_byte w ≡ true
name_bytes [] h = refl
name_bytes (c ∷ cs) h = both_true _ _ (byte_of_name c (and_parts _ _ h).0) (name_bytes cs (and_parts _ _ h).1)

name_is_word : (w : List ℕ) → IsName w → is_word_text w ≡ true
name_is_word w h = rw (name_begins w h.begins, name_bytes w h.bytes) refl

pub name_test : (w : List ℕ) → IsName w → is_name w ≡ true
unfolding is_name
name_test w h = let short : nat_le (length w) NAME_BYTES ≡ true = grind (arith, nat_tests, h.short) in rw (h.begins, h.bytes, short, h.free) refl

name_said : (v : ℕ) (w : List ℕ) → IsName w → name_says v (word w) ≡ Some w
name_said v w h = rw (name_test w h) refl

pub name_written : (v : ℕ) (w : List ℕ) → IsName w → Writes (NameText v) false w w
name_written v w h = word_written (name_says v) w w (name_is_word w h) (name_said v w h)

same_int : (a b : ℤ) → int_eq a b ≡ true → a ≡ b
same_int a b h = grind (arith, ints)

limit_written : (z : ℤ) → InRange whole z → Writes LimitText false (limit_text z) z
limit_written z h = elim (cases_Bool (int_eq z LAST)) [
  | inl e ↦ rw e (left (yielded (keyword "inf" refl) (same_int z LAST e)))
  | inr e ↦ rw e (right (number_written z h))
]

range_written : (r : Range) → AreLimits r → Writes RangeText true (range_text r) r
range_written r h =
    respelled (five (codes "[") (limit_text r.low) (codes ",") (limit_text r.high) (codes "]")) refl
    (signed "[" refl refl (followed (limit_written r.low h.low) (λ behind a. refl)
    (signed "," refl refl (followed (limit_written r.high h.high) (λ behind a. refl)
    (yielded (sign "]" refl refl) refl)))))

same_use : (u : Use) → u.args ≡ [] → u ≡ record { name = u.name; args = [] }
same_use u h = grind arith

use_written : (v : ℕ) (u : Use) → IsBareUse u → Writes (UseText v) false (use_text u) u
use_written v u h = yielded (name_written v u.name h.name) (same_use u h.bare)

kind_written : (v : ℕ) (k : AstKind) → IsBareKind k → Writes (KindText v) false (kind_text k) k
kind_written v k h =
    respelled (three k.sv (codes ".") (use_text k.value)) refl
    (followed (name_written v k.sv h.sv) (λ behind a. refl) (signed "." refl refl (yielded (use_written v k.value h.value) refl)))

-- What may follow a value.

next_written : (v : ℕ) (next : List Use) → AllByRecursion IsBareUse next → Writes (NextText v) false (next_text next) next
next_written v [] h = right (loosened (nothing refl))
next_written v (u ∷ us) h = left (keyed_between "then" " then " refl refl (parted "," ", " use_text (u ∷ us) refl refl (omega arith) (each (use_written v) (u ∷ us) h)))

next_begins : (next : List Use) (rest behind : List ℕ) → begins is_word_byte (rest ++ behind) ≡ false → begins is_word_byte ((next_text next ++ rest) ++ behind) ≡ false
next_begins [] rest behind h = h
next_begins (u ∷ us) rest behind h = refl

-- Scripts.

-- the parts of a script: the first one, and others behind semicolons
record Parts (v : ℕ) (ps : List Piece) (steps : List AstStep) : Type 0 where
  front : List Piece
  back : List Piece
  part : List AstStep
  others : List (List AstStep)
  first : PartText v front part
  more : Many (Behind ";" (PartText v)) back others
  joined : ps ≡ front ++ back
  flat : steps ≡ part ++ flat_map (λ steps. steps) others

are_parts : (v : ℕ) (ps : List Piece) (steps : List AstStep) → Parts v ps steps → PartsText v ps steps
are_parts v ps steps h = record {
  front = ps;
  back = [];
  value = h.part ∷ h.others;
  first = record {
    front = h.front;
    back = h.back;
    value = h.part;
    first = h.first;
    second = record { front = h.back; back = []; value = h.others; first = h.more; second = (refl, refl); joined = sym (append-nil h.back) };
    joined = h.joined;
  };
  second = (refl, h.flat);
  joined = sym (append-nil ps);
}

parts_of : (v : ℕ) (ps : List Piece) (steps : List AstStep) → PartsText v ps steps → Parts v ps steps
parts_of v ps steps h =
    let a = h.first in
    let m = a.second in
    let all : ps ≡ h.front = h.joined ∙ ap (λ (zs : List Piece). h.front ++ zs) h.second.0 ∙ append-nil h.front in
    let last : a.back ≡ m.front = m.joined ∙ ap (λ (zs : List Piece). m.front ++ zs) m.second.0 ∙ append-nil m.front in record {
      front = a.front;
      back = m.front;
      part = a.value;
      others = m.value;
      first = a.first;
      more = m.first;
      joined = all ∙ a.joined ∙ ap (λ (zs : List Piece). a.front ++ zs) last;
      flat = h.second.1 ∙ ap (flat_map (λ steps. steps)) m.second.1;
    }

-- a step that awaits a word is a part
until_part : (v : ℕ) (u : List Piece) (s : AstStep) → UntilText v u s → PartText v u (s ∷ [])
until_part v u s h = record {
  front = [];
  back = u;
  value = [];
  first = refl;
  second = record { front = u; back = []; value = s; first = h; second = (refl, refl); joined = sym (append-nil u) };
  joined = refl;
}

abbrev UntilAlone : ℕ → Language (List AstStep)
UntilAlone v = do
  last ← UntilText v
  Yields (last ∷ [])

until_alone : (v : ℕ) (ps : List Piece) (steps : List AstStep) → UntilAlone v ps steps → PartsText v ps steps
until_alone v ps steps h =
    are_parts v ps steps (record { front = h.front; back = h.back; part = h.value ∷ []; others = []; first = until_part v h.front h.value h.first; more = h.second.0; joined = h.joined; flat = h.second.1 })

-- a part in front of others
abbrev UntilFirst : ℕ → Language (List AstStep)
UntilFirst v = do
  first ← UntilText v
  _ ← Sign ";"
  steps ← PartsText v
  Yields (first ∷ steps)

until_first : (v : ℕ) (ps : List Piece) (steps : List AstStep) → UntilFirst v ps steps → PartsText v ps steps
until_first v ps steps h =
    let b = h.second in
    let c = b.second in
    let k = parts_of v c.front c.value c.first in
    let last : c.back ≡ [] = c.second.0 in
    let behind : c.front ++ c.back ≡ k.front ++ k.back = ap (λ (zs : List Piece). c.front ++ zs) last ∙ append-nil c.front ∙ k.joined in
    are_parts v ps steps (record {
      front = h.front;
      back = (b.front ++ k.front) ++ k.back;
      part = h.value ∷ [];
      others = k.part ∷ k.others;
      first = until_part v h.front h.value h.first;
      more = (b.front ++ k.front, k.back, record { front = b.front; back = k.front; value = b.value; first = b.first; second = k.first; joined = refl }, k.more, refl);
      joined = h.joined ∙ ap (λ (zs : List Piece). h.front ++ zs) (b.joined ∙ ap (λ (zs : List Piece). b.front ++ zs) (c.joined ∙ behind) ∙ sym (append_assoc b.front k.front k.back));
      flat = c.second.1 ∙ ap (λ (zs : List AstStep). h.value ∷ zs) k.flat;
    })

-- an order in front of the first part
abbrev OrderFirst : ℕ → Language (List AstStep)
OrderFirst v = do
  first ← DoText v
  steps ← PartsText v
  Yields (first ∷ steps)

order_part : (v : ℕ) (u w : List Piece) (s : AstStep) (steps : List AstStep) → DoText v u s → PartText v w steps → PartText v (u ++ w) (s ∷ steps)
order_part v u w s steps h k =
    let l = k.second in record {
      front = u ++ k.front;
      back = k.back;
      value = s ∷ k.value;
      first = (u, k.front, h, k.first, refl);
      second = record { front = l.front; back = l.back; value = l.value; first = l.first; second = (l.second.0, ap (λ (zs : List AstStep). s ∷ zs) l.second.1); joined = l.joined };
      joined = ap (λ (zs : List Piece). u ++ zs) k.joined ∙ sym (append_assoc u k.front k.back);
    }

order_first : (v : ℕ) (ps : List Piece) (steps : List AstStep) → OrderFirst v ps steps → PartsText v ps steps
order_first v ps steps h =
    let c = h.second in
    let k = parts_of v c.front c.value c.first in
    let behind : c.front ++ c.back ≡ k.front ++ k.back = ap (λ (zs : List Piece). c.front ++ zs) c.second.0 ∙ append-nil c.front ∙ k.joined in
    are_parts v ps steps (record {
      front = h.front ++ k.front;
      back = k.back;
      part = h.value ∷ k.part;
      others = k.others;
      first = order_part v h.front k.front h.value k.part h.first k.first;
      more = k.more;
      joined = h.joined ∙ ap (λ (zs : List Piece). h.front ++ zs) (c.joined ∙ behind) ∙ sym (append_assoc h.front k.front k.back);
      flat = c.second.1 ∙ ap (λ (zs : List AstStep). h.value ∷ zs) k.flat;
    })

until_written : (v : ℕ) (awaited : List ℕ) → IsName awaited → Writes (UntilText v) false (step_text (AstUntil awaited)) (AstUntil awaited)
until_written v awaited h = keyed "until" "until " refl refl (yielded (name_written v awaited h) refl)

do_written : (v : ℕ) (ordered : List ℕ) (amount : ℤ) → IsName ordered → InRange whole amount → Writes (DoText v) true (codes "do " ++ (ordered ++ (codes " " ++ (signed_decimal amount ++ codes ";")))) (AstDo ordered amount)
do_written v ordered amount h k =
    keyed "do" "do " refl refl (followed (name_written v ordered h) (λ behind a. refl)
    (spaced (followed (number_written amount k) (λ behind a. refl) (yielded (sign ";" refl refl) refl))))

semicolon : (a b : List ℕ) → codes ";" ++ (codes " " ++ (a ++ b)) ≡ (codes "; " ++ a) ++ b
semicolon a b = refl

regrouped : (a w s d c more : List ℕ) → (a ++ (w ++ (s ++ (d ++ c)))) ++ more ≡ (a ++ w ++ s ++ d) ++ (c ++ more)
regrouped a w s d c more = simp append_assoc

steps_written : (v : ℕ) (steps : List AstStep) → AllByRecursion IsWritableStep steps → ends_awaiting steps ≡ true → Writes (PartsText v) false (apart (codes "; ") (map step_text steps)) steps
steps_written v [] h k = absurd cc
steps_written v (AstDo ordered amount ∷ []) h k = absurd cc
steps_written v (AstUntil awaited ∷ []) h k =
    respelled (sym (append-nil (step_text (AstUntil awaited)))) refl (seen_as {R = UntilAlone v} (λ ps. until_alone v ps (AstUntil awaited ∷ [])) (yielded (until_written v awaited h.0) refl))
steps_written v (AstUntil awaited ∷ t ∷ steps) h k =
    let later = steps_written v (t ∷ steps) h.1 k in
    let others = flat_map (λ (y : List ℕ). codes "; " ++ y) (map step_text steps) in
    let text = ap (λ (zs : List ℕ). step_text (AstUntil awaited) ++ zs) (semicolon (step_text t) others) in
    respelled text refl (seen_as {R = UntilFirst v} (λ ps. until_first v ps (AstUntil awaited ∷ t ∷ steps)) (followed (until_written v awaited h.0) (λ behind a. refl) (signed ";" refl refl (spaced (yielded later refl)))))
steps_written v (AstDo ordered amount ∷ t ∷ steps) h k =
    let later = steps_written v (t ∷ steps) h.1 k in
    let others = flat_map (λ (y : List ℕ). codes "; " ++ y) (map step_text steps) in
    let text =
    regrouped (codes "do ") ordered (codes " ") (signed_decimal amount) (codes ";") (codes " " ++ (step_text t ++ others))
    ∙ ap (λ (zs : List ℕ). step_text (AstDo ordered amount) ++ zs) (semicolon (step_text t) others) in
    respelled text refl (seen_as {R = OrderFirst v} (λ ps. order_first v ps (AstDo ordered amount ∷ t ∷ steps)) (closed_then (do_written v ordered amount h.0.0 h.0.1) (spaced (yielded later refl))))

default_script : (steps : List AstStep) → is_until_done steps ≡ true → steps ≡ until_done
default_script [] h = absurd cc
default_script (AstUntil awaited ∷ []) h = ap (λ (w : List ℕ). AstUntil w ∷ []) ((bytes_eq-Decides awaited (codes "done")).0 h)
default_script (AstDo ordered amount ∷ steps) h = absurd cc
default_script (AstUntil awaited ∷ s ∷ steps) h = absurd cc

script_written : (v : ℕ) (steps : List AstStep) → AllByRecursion IsWritableStep steps → ends_awaiting steps ≡ true → Writes (ScriptText v) true (script_line steps) steps
script_written v steps h k = elim (cases_Bool (is_until_done steps)) [
  | inl e ↦ rw e (right (nothing (default_script steps e)))
  | inr e ↦ rw e (respelled (three (codes "script ") (apart (codes "; ") (map step_text steps)) (codes "\n")) refl (left (keyed "script" "script " refl refl (ended (steps_written v steps h k)))))
]

-- Answers.

said_written : (v : ℕ) (s : AstSaid) → IsWritableSaid s → Writes (SaidText v) false (said_text s) s
said_written v s h =
    respelled (three (signed_decimal s.delay) (codes " ") s.word) refl
    (followed (number_written s.delay h.delay) (λ behind a. refl) (spaced (yielded (name_written v s.word h.named) refl)))

answers_written : (v : ℕ) (said : List AstSaid) → AreWritableAnswers said → Writes (AnswersText v) true (answers_line said) said
answers_written v said h =
    respelled (three (codes "answers ") (apart (codes ", ") (map said_text said)) (codes "\n")) refl
    (keyed "answers" "answers " refl refl (ended (parted "," ", " said_text said refl refl h.some (each (said_written v) said h.each))))

-- Values and variables.

abbrev plain_value : List ℕ → Range → List Use → AstValue
plain_value name lasts next = record { name = name; params = []; lasts = lasts ∷ []; by_device = false; next = next; script = []; answers = [] }

abbrev device_value : List ℕ → Range → List Use → List AstStep → List (List AstSaid) → AstValue
device_value name lasts next script answers = record { name = name; params = []; lasts = lasts ∷ []; by_device = true; next = next; script = script; answers = answers }

lasts_written : (r : Range) → AreLimits r → Writes RangeText true (lasts_text (r ∷ [])) r
lasts_written r h = respelled (sym (append-nil (range_text r))) refl (range_written r h)

plain_written : (v : ℕ) (name : List ℕ) (lasts : Range) (next : List Use) → IsName name → AreLimits lasts → AllByRecursion IsBareUse next → Writes (ValueText v) true (value_lines (plain_value name lasts next)) (plain_value name lasts next)
plain_written v name lasts next h l n =
    let plain : Writes (PlainText v name lasts) true (next_text next ++ codes "\n") (plain_value name lasts next) = followed (next_written v next n) (λ behind a. refl) (line_end refl) in
    respelled (eight (codes "value ") name (codes " ") (lasts_text (lasts ∷ [])) [] (next_text next) (codes "\n") []) refl
    (keyed "value" "value " refl refl (followed (name_written v name h) (λ behind a. refl) (spaced (closed_then (lasts_written lasts l) (right plain)))))

-- the words between a value's range and what may follow it
by_device : {B : Type 0} {S : Unit {0} → Language B} {y : B} (u : List ℕ) → ((behind : List ℕ) → MayFollow true behind → begins is_word_byte (u ++ behind) ≡ false) → Writes (S tt) true u y → Writes (Then (Keyword "by") (λ _. Then (Keyword "device") S)) true (codes " by device" ++ u) y
by_device u f w = keyed_between "by" " by " refl refl (followed (keyword "device" refl) f w)

device_written : (v : ℕ) (name : List ℕ) (lasts : Range) (next : List Use) (script : List AstStep) (answers : List (List AstSaid)) → IsName name → AreLimits lasts → AllByRecursion IsBareUse next → AllByRecursion IsWritableStep script → ends_awaiting script ≡ true → AllByRecursion AreWritableAnswers answers → Writes (ValueText v) true (value_lines (device_value name lasts next script answers)) (device_value name lasts next script answers)
device_written v name lasts next script answers h l n s w a =
    let lines' = script_line script ++ flat_map answers_line answers in
    let device : Writes (DeviceText v name lasts) true (codes " by device" ++ (next_text next ++ (codes "\n" ++ lines'))) (device_value name lasts next script answers) =
    by_device (next_text next ++ (codes "\n" ++ lines')) (λ behind b. next_begins next (codes "\n" ++ lines') behind refl)
    (followed (next_written v next n) (λ behind b. refl)
    (next_line (closed_then (script_written v script s w) (yielded (lines answers_line answers (each (answers_written v) answers a)) refl)))) in
    respelled (eight (codes "value ") name (codes " ") (lasts_text (lasts ∷ [])) (codes " by device") (next_text next) (codes "\n") lines') refl
    (keyed "value" "value " refl refl (followed (name_written v name h) (λ behind b. refl) (spaced (closed_then (lasts_written lasts l) (left device)))))

same_plain : (x : AstValue) (lasts : Range) → x.params ≡ [] → x.lasts ≡ lasts ∷ [] → x.by_device ≡ false → x.script ≡ [] → x.answers ≡ [] → plain_value x.name lasts x.next ≡ x
same_plain x lasts p l b s a = grind arith

same_device : (x : AstValue) (lasts : Range) → x.params ≡ [] → x.lasts ≡ lasts ∷ [] → x.by_device ≡ true → device_value x.name lasts x.next x.script x.answers ≡ x
same_device x lasts p l b = grind arith

value_written : (v : ℕ) (x : AstValue) → IsWritableValue x → Writes (ValueText v) true (value_lines x) x
value_written v x h = elim (cases_Bool x.by_device) [
  | inl d ↦ subst (λ (z : AstValue). Writes (ValueText v) true (value_lines z) z) (same_device x h.lasts h.no_params h.only d) (device_written v x.name h.lasts x.next x.script x.answers h.name h.limits h.next h.steps (h.waits d) h.answers)
  | inr p ↦ subst (λ (z : AstValue). Writes (ValueText v) true (value_lines z) z) (same_plain x h.lasts h.no_params h.only p (h.no_script p) (h.no_answers p)) (plain_written v x.name h.lasts x.next h.name h.limits h.next)
]

begin_written : (v : ℕ) (begin : Option Use) → IsWritableBegin begin → Writes (BeginText v) true (begin_line begin) begin
begin_written v None h = right (nothing refl)
begin_written v (Some u) h = respelled (three (codes "begin ") (use_text u) (codes "\n")) refl (left (keyed "begin" "begin " refl refl (ended (yielded (use_written v u h) refl))))

var_written : (v : ℕ) (x : AstVar) → IsWritableVar x → Writes (VarText v) true (var_lines x) x
var_written v x h =
    respelled (five (codes "var ") x.name (codes "\n") (flat_map value_lines x.values) (begin_line x.begin)) refl
    (keyed "var" "var " refl refl (followed (name_written v x.name h.name) (λ behind a. refl)
    (next_line (closed_then (some_lines value_lines x.values h.some_values (each (value_written v) x.values h.values)) (yielded (begin_written v x.begin h.begin) refl)))))

-- Needs.

one_range_written : (related : Range → Relation) (r : Range) → AreLimits r → Writes (OneRange related) false (range_text r) (related r)
one_range_written related r h = yielded (loosened (range_written r h)) refl

two_ranges_written : (related : Range → Range → Relation) (a b : Range) → AreLimits a → AreLimits b → Writes (TwoRanges related) false (range_text a ++ (codes " " ++ range_text b)) (related a b)
two_ranges_written related a b h k = closed_then (range_written a h) (spaced (yielded (loosened (range_written b k)) refl))

relation_written : (relation : Relation) → HasLimits relation → Writes RelationText false (relation_text relation) relation
relation_written (Before r) h = left (keyed "before" "before " refl refl (one_range_written Before r h))
relation_written (AfterEnd r) h = right (left (keyed "after" "after " refl refl (one_range_written AfterEnd r h)))
relation_written MeetsStart h = right (right (left (yielded (keyword "meets" refl) refl)))
relation_written MetBy h = right (right (right (left (yielded (keyword "met_by" refl) refl))))
relation_written (Starts r) h = right (right (right (right (left (keyed "starts" "starts " refl refl (one_range_written Starts r h))))))
relation_written (Ends r) h = right (right (right (right (right (left (keyed "ends" "ends " refl refl (one_range_written Ends r h)))))))
relation_written Equals h = right (right (right (right (right (right (left (yielded (keyword "equals" refl) refl)))))))
relation_written (Encloses a b) h = respelled (four (codes "contains ") (range_text a) (codes " ") (range_text b)) refl (right (right (right (right (right (right (right (left (keyed "contains" "contains " refl refl (two_ranges_written Encloses a b h.0 h.1))))))))))
relation_written (ContainedBy a b) h = respelled (four (codes "contained_by ") (range_text a) (codes " ") (range_text b)) refl (right (right (right (right (right (right (right (right (keyed "contained_by" "contained_by " refl refl (two_ranges_written ContainedBy a b h.0 h.1))))))))))

choice_written : (v : ℕ) (c : AstChoice) → IsWritableChoice c → Writes (ChoiceText v) false (choice_text c) c
choice_written v c h =
    respelled (three (relation_text c.relation) (codes " ") (kind_text c.by)) refl
    (followed (relation_written c.relation h.limits) (λ behind a. refl) (spaced (yielded (kind_written v c.by h.by) refl)))

abbrev or_text : List ℕ → List ℕ
or_text choice = codes " or " ++ choice

no_others : (cs : List AstChoice) → length cs ≡ 0 → [] ≡ cs
no_others [] h = refl
no_others (c ∷ cs) h = absurd (omega arith)

further_written : (v : ℕ) (cs : List AstChoice) → (v ≡ 1 → length cs ≡ 0) → AllByRecursion IsWritableChoice cs → Writes (FurtherChoices v) false (flat_map or_text (map choice_text cs)) cs
further_written v cs single h = elim (cases_Bool (nat_eq v 1)) [
  | inl e ↦
      let one : v ≡ 1 = grind (arith, nat_tests) in
      subst (λ (zs : List AstChoice). Writes (FurtherChoices v) false (flat_map or_text (map choice_text zs)) zs) (no_others cs (single one)) (rw e (loosened (nothing refl)))
  | inr e ↦ rw e (separated or_text choice_text cs (λ y more. refl) (each (λ c k. keyed_between "or" " or " refl refl (choice_written v c k)) cs h))
]

choices_written : (v : ℕ) (cs : List AstChoice) → 0 < length cs → (v ≡ 1 → length cs ≡ 1) → AllByRecursion IsWritableChoice cs → Writes (ChoicesText v) false (apart (codes " or ") (map choice_text cs)) cs
choices_written v [] some single h = absurd (omega arith)
choices_written v (c ∷ cs) some single h =
    followed (choice_written v c h.0) (λ behind a. separated_begin or_text (map choice_text cs) behind (λ y more. refl) a)
    (yielded (further_written v cs (λ e. omega (arith, single e)) h.1) refl)

need_written : (v : ℕ) (n : AstNeed) → IsWritableNeed v n → Writes (NeedText v) true (need_line n) n
need_written v n h =
    respelled (five (codes "need ") (kind_text n.of) (codes " ") (apart (codes " or ") (map choice_text n.either)) (codes "\n")) refl
    (keyed "need" "need " refl refl (followed (kind_written v n.of h.of) (λ behind a. refl)
    (spaced (followed (choices_written v n.either h.some_choices h.single h.choices) (λ behind a. refl) (line_end refl)))))

-- Horizons.

same_range : (r : Range) (low high : ℤ) → r.low ≡ low → r.high ≡ high → r ≡ range low high
same_range r low high e f = grind arith

whole_is : (r : Range) → is_whole r ≡ true → r ≡ whole
whole_is r h = let parts = and_parts _ _ h in same_range r (pos 0) LAST (same_int r.low (pos 0) parts.0) (same_int r.high LAST parts.1)

start_written : (r : Range) → AreLimits r → Writes (Maybe (After "start" RangeText) whole) true (goal_range (codes " start ") r) r
start_written r h = elim (cases_Bool (is_whole r)) [
  | inl e ↦ rw e (right (nothing (whole_is r e)))
  | inr e ↦ rw e (left (keyed_between "start" " start " refl refl (range_written r h)))
]

stop_written : (r : Range) → AreLimits r → Writes (Maybe (After "stop" RangeText) whole) true (goal_range (codes " stop ") r) r
stop_written r h = elim (cases_Bool (is_whole r)) [
  | inl e ↦ rw e (right (nothing (whole_is r e)))
  | inr e ↦ rw e (left (keyed_between "stop" " stop " refl refl (range_written r h)))
]

goal_begins : (keyword : List ℕ) (r : Range) (rest behind : List ℕ) → ((more : List ℕ) → begins is_word_byte (keyword ++ more) ≡ false) → begins is_word_byte (rest ++ behind) ≡ false → begins is_word_byte ((goal_range keyword r ++ rest) ++ behind) ≡ false
goal_begins keyword r rest behind k h = elim (cases_Bool (is_whole r)) [
  | inl e ↦ rw e h
  | inr e ↦ rw (e, append_assoc (keyword ++ range_text r) rest behind, append_assoc keyword (range_text r) (rest ++ behind)) (k (range_text r ++ (rest ++ behind)))
]

goal_written : (v : ℕ) (g : AstGoal) → IsWritableGoal g → Writes (GoalText v) true (goal_line g) g
goal_written v g h =
    let start = goal_range (codes " start ") g.start in
    let stop = goal_range (codes " stop ") g.stop in
    let ends : (behind : List ℕ) → begins is_word_byte ((start ++ (stop ++ codes "\n")) ++ behind) ≡ false = λ behind.
    goal_begins (codes " start ") g.start (stop ++ codes "\n") behind (λ more. refl) (goal_begins (codes " stop ") g.stop (codes "\n") behind (λ more. refl) refl) in
    respelled (five (codes "goal ") (kind_text g.kind) start stop (codes "\n")) refl
    (keyed "goal" "goal " refl refl (followed (kind_written v g.kind h.kind) (λ behind a. ends behind)
    (closed_then (start_written g.start h.start) (closed_then (stop_written g.stop h.stop) (line_end refl)))))

horizon_written : (v : ℕ) (h : AstHorizon) → IsWritableHorizon h → Writes (HorizonText v) true (horizon_lines h) h
horizon_written v h k =
    respelled (four (codes "horizon ") (signed_decimal h.tick) (codes "\n") (flat_map goal_line h.goals)) refl
    (keyed "horizon" "horizon " refl refl (followed (number_written h.tick k.tick) (λ behind a. refl)
    (next_line (yielded (lines goal_line h.goals (each (goal_written v) h.goals k.goals)) refl))))

-- The mission.

first_version : Writes VersionText false (decimal 1) 1
first_version = decimal_written version_says 1 1 (omega arith) (λ ds e. rw e refl)

second_version : Writes VersionText false (decimal 2) 2
second_version = decimal_written version_says 2 2 (omega arith) (λ ds e. rw e refl)

version_written : (v : ℕ) → (v ≡ 1) ⊎ (v ≡ 2) → Writes VersionText false (decimal v) v
version_written v h = elim h [
  | inl e ↦ subst (λ (n : ℕ). Writes VersionText false (decimal n) n) (sym e) first_version
  | inr e ↦ subst (λ (n : ℕ). Writes VersionText false (decimal n) n) (sym e) second_version
]

same_mission : (a : Ast) → a.sorts ≡ [] → a ≡ record { version = a.version; sorts = []; vars = a.vars; needs = a.needs; horizons = a.horizons }
same_mission a h = grind arith

end_written : {x y : Ast} → y ≡ x → Writes (Then (Keyword "end") (λ _. Yields x)) true (codes "end\n") y
end_written e = followed (keyword "end" refl) (λ behind b. refl) (line_end e)

-- the canonical text is written
pub mission_written : (a : Ast) → IsWritable a → Writes MissionText true (canonical a) a
mission_written a h =
    respelled (seven (codes "hsts ") (decimal a.version) (codes "\n") (flat_map var_lines a.vars) (flat_map need_line a.needs) (flat_map horizon_lines a.horizons) (codes "end\n")) refl
    (keyed "hsts" "hsts " refl refl (followed (version_written a.version h.version) (λ behind b. refl)
    (next_line (closed_then (some_lines var_lines a.vars h.some_vars (each (var_written a.version) a.vars h.vars))
    (closed_then (lines need_line a.needs (each (need_written a.version) a.needs h.needs))
    (closed_then (some_lines horizon_lines a.horizons h.some_horizons (each (horizon_written a.version) a.horizons h.horizons))
    (end_written (same_mission a h.no_sorts))))))))

-- and so it spells the mission, where it isn't too long
pub canonical_spells : (a : Ast) → IsWritable a → length (canonical a) ≤ TEXT_BYTES → Spells (canonical a) a
canonical_spells a h short = let t = text_written (mission_written a h) short in record { pieces = t.0; text = t.1; sentence = t.2 }
