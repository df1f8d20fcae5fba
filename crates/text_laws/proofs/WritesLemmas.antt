-- Sentences written from their parts.
use Rattle.std.proofs.Common.{◌≡◌, ℕ, ◌<◌, ◌≤◌, ℤ, pos, negsuc, Bool, true, false, ◌&&◌, List, [], ◌∷◌, ◌++◌, length, map, flat_map, refl, sym, ap, ◌∙◌, subst, append_assoc, append-nil, length-append, nat_eq, inl, inr, arith, codes}
use Rattle.std.proofs.lemmas.Int.{ints}
use Rattle.std.specs.Prelude.{Option, Some, ◌+◌, ◌-◌, ◌*◌, ◌^◌, fold, nat_lt, int_lt}
use Rattle.std.proofs.Common.{rules}
use Rattle.std.proofs.lemmas.Str.Parse.{IsNumeralModel, numerals_by_fold}
use Rattle.std.proofs.lemmas.Fmt.{digits_decimal, digits_value-decimal, decimal_nonempty, length-decimal-le}
use Rattle.std.specs.List.{list_all, AllByRecursion}
use Rattle.std.specs.Str.{byte}
use Rattle.std.specs.Fmt.{decimal, signed_decimal}
use Rattle.std.proofs.lemmas.Slice.Eq.{bytes_eq-Decides}
use Rattle.std.proofs.lemmas.Bool.{and_parts}
use Rattle.std.proofs.lemmas.Bool.Decides.{nat_tests}
use Prim.Native.String.{String}
use Rattle.hs_base.specs.declared.limits.TheConstants.{LAST, TEXT_BYTES}
use Rattle.hs_base.specs.Ranges.{whole, InRange}
use Rattle.hs_texts.specs.Pieces.{Piece, word, number as digits, symbol, begins, is_letter, is_digit, is_symbol, is_space, is_word_byte, is_large, number_of, Placed, IsTextOf, pieces_of}
use Rattle.hs_texts.specs.Languages.{Language, One, Yields, Then, ◌∣◌, Many, Several, Keyword, Sign, Number, Behind, Apart, word_says, symbol_says, number_says}
use Rattle.hs_texts.specs.Kept.{Kept, kept, Series}
use Rattle.hs_texts.specs.CanonicalText.{apart}
use Rattle.text_laws.specs.Writes.{IsCutInto, MayFollow, Writes}
use Rattle.text_laws.proofs.WrittenLemmas.{cut_nothing, cut_space, cut_piece, cut_is_text, space_ends, symbol_ends, ends_number}

-- Nothing, and other bytes that mean the same.

-- nothing is written for what no piece says
pub nothing : {A : Type 0} {x y : A} → y ≡ x → Writes (Yields x) true [] y
nothing e = record { pieces = []; sentence = (refl, e); cut = λ end behind qs a le k. k }

-- the last line feed
pub line_end : {A : Type 0} {x y : A} → y ≡ x → Writes (Yields x) true (codes "\n") y
line_end e = record { pieces = []; sentence = (refl, e); cut = λ end behind qs a le k. cut_space end 10 behind qs refl k }

any_may_follow : (closed : Bool) (behind : List ℕ) → MayFollow false behind → MayFollow closed behind
any_may_follow true behind h = tt
any_may_follow false behind h = h

-- what is closed may stand where it need not be
pub loosened : {A : Type 0} {R : Language A} {closed : Bool} {bytes : List ℕ} {x : A} → Writes R closed bytes x → Writes R false bytes x
loosened {A} {R} {closed} {bytes} {x} w = record {
  pieces = w.pieces;
  sentence = w.sentence;
  cut = λ end behind qs a le k. w.cut end behind qs (any_may_follow closed behind a) le k;
}

-- the pieces are a sentence of another language too
pub seen_as : {A : Type 0} {R S : Language A} {closed : Bool} {bytes : List ℕ} {x : A} → ((ps : List Piece) → R ps x → S ps x) → Writes R closed bytes x → Writes S closed bytes x
seen_as f w = record { pieces = w.pieces; sentence = f w.pieces w.sentence; cut = w.cut }

pub left : {A : Type 0} {R S : Language A} {closed : Bool} {bytes : List ℕ} {x : A} → Writes R closed bytes x → Writes (R ∣ S) closed bytes x
left w = record { pieces = w.pieces; sentence = inl w.sentence; cut = w.cut }

pub right : {A : Type 0} {R S : Language A} {closed : Bool} {bytes : List ℕ} {x : A} → Writes S closed bytes x → Writes (R ∣ S) closed bytes x
right w = record { pieces = w.pieces; sentence = inr w.sentence; cut = w.cut }

-- the same bytes and the same value under other names
pub respelled : {A : Type 0} {R : Language A} {closed : Bool} {a b : List ℕ} {x y : A} → a ≡ b → x ≡ y → Writes R closed a x → Writes R closed b y
respelled {A} {R} {closed} {a} {b} {x} {y} e f w = subst (λ (z : A). Writes R closed b z) f (subst (λ (bytes : List ℕ). Writes R closed bytes x) e w)

-- Parts one after the other, as they are read and as they are written.

pub three : (a b c : List ℕ) → a ++ (b ++ c) ≡ a ++ b ++ c
three a b c = simp append_assoc

pub four : (a b c d : List ℕ) → a ++ (b ++ (c ++ d)) ≡ a ++ b ++ c ++ d
four a b c d = simp append_assoc

pub five : (a b c d e : List ℕ) → a ++ (b ++ (c ++ (d ++ e))) ≡ a ++ b ++ c ++ d ++ e
five a b c d e = simp append_assoc

pub six : (a b c d e f : List ℕ) → a ++ (b ++ (c ++ (d ++ (e ++ f)))) ≡ a ++ b ++ c ++ d ++ e ++ f
six a b c d e f = simp append_assoc

pub seven : (a b c d e f g : List ℕ) → a ++ (b ++ (c ++ (d ++ (e ++ (f ++ g))))) ≡ a ++ b ++ c ++ d ++ e ++ f ++ g
seven a b c d e f g = simp append_assoc

pub eight : (a b c d e f g h : List ℕ) → a ++ (b ++ (c ++ (d ++ (e ++ (f ++ (g ++ h)))))) ≡ a ++ b ++ c ++ d ++ e ++ f ++ g ++ h
eight a b c d e f g h = simp append_assoc

-- Spaces.

fits_behind : (a b : List ℕ) (end : ℕ) → length (a ++ b) ≤ end → length b ≤ end
fits_behind a b end h = omega (arith, length-append a b)

fits_less : (c : ℕ) (a : List ℕ) (end : ℕ) → length (c ∷ a) ≤ end → length a ≤ end
fits_less c a end h = omega arith

-- a space in front
before : {A : Type 0} {R : Language A} {closed : Bool} {bytes : List ℕ} {x : A} (c : ℕ) → is_space c ≡ true → Writes R closed bytes x → Writes R closed (c ∷ bytes) x
before {A} {R} {closed} {bytes} {x} c h w = record {
  pieces = w.pieces;
  sentence = w.sentence;
  cut = λ end behind qs a le k. cut_space end c (bytes ++ behind) (w.pieces ++ qs) h (w.cut end behind qs a (fits_less c (bytes ++ behind) end le) k);
}

pub spaced : {A : Type 0} {R : Language A} {closed : Bool} {bytes : List ℕ} {x : A} → Writes R closed bytes x → Writes R closed (codes " " ++ bytes) x
spaced w = before 32 refl w

-- a line feed in front
pub next_line : {A : Type 0} {R : Language A} {closed : Bool} {bytes : List ℕ} {x : A} → Writes R closed bytes x → Writes R closed (codes "\n" ++ bytes) x
next_line w = before 10 refl w

space_may_follow : (closed : Bool) (c : ℕ) (behind : List ℕ) → is_space c ≡ true → MayFollow closed (c ∷ behind)
space_may_follow true c behind h = tt
space_may_follow false c behind h = space_ends c h

-- a line feed at the end closes
pub ended : {A : Type 0} {R : Language A} {closed : Bool} {bytes : List ℕ} {x : A} → Writes R closed bytes x → Writes R true (bytes ++ codes "\n") x
ended {A} {R} {closed} {bytes} {x} w = record {
  pieces = w.pieces;
  sentence = w.sentence;
  cut = λ end behind qs a le k.
      let same : (bytes ++ codes "\n") ++ behind ≡ bytes ++ (10 ∷ behind) = append_assoc bytes (10 ∷ []) behind in
      let fits : length (bytes ++ (10 ∷ behind)) ≤ end = subst (λ (zs : List ℕ). length zs ≤ end) same le in
      let after : IsCutInto end (10 ∷ behind) qs = cut_space end 10 behind qs refl k in
      subst (λ (zs : List ℕ). IsCutInto end zs (w.pieces ++ qs)) (sym same) (w.cut end (10 ∷ behind) qs (space_may_follow closed 10 behind refl) fits after);
}

-- One after the other.

pub followed : {A B : Type 0} {R : Language A} {S : A → Language B} {k l : Bool} {t u : List ℕ} {x : A} {y : B} → Writes R k t x → ((behind : List ℕ) → MayFollow l behind → MayFollow k (u ++ behind)) → Writes (S x) l u y → Writes (Then R S) l (t ++ u) y
followed {A} {B} {R} {S} {k} {l} {t} {u} {x} {y} v f w = record {
  pieces = v.pieces ++ w.pieces;
  sentence = record { front = v.pieces; back = w.pieces; value = x; first = v.sentence; second = w.sentence; joined = refl };
  cut = λ end behind qs a le c.
      let same : (t ++ u) ++ behind ≡ t ++ (u ++ behind) = append_assoc t u behind in
      let fits : length (t ++ (u ++ behind)) ≤ end = subst (λ (zs : List ℕ). length zs ≤ end) same le in
      let after : IsCutInto end (u ++ behind) (w.pieces ++ qs) = w.cut end behind qs a (fits_behind t (u ++ behind) end fits) c in
      let both : IsCutInto end (t ++ (u ++ behind)) (v.pieces ++ (w.pieces ++ qs)) = v.cut end (u ++ behind) (w.pieces ++ qs) (f behind a) fits after in
      subst (λ (zs : List ℕ). IsCutInto end zs ((v.pieces ++ w.pieces) ++ qs)) (sym same)
      (subst (λ (ps : List Piece). IsCutInto end (t ++ (u ++ behind)) ps) (sym (append_assoc v.pieces w.pieces qs)) both);
}

-- behind what is closed
pub closed_then : {A B : Type 0} {R : Language A} {S : A → Language B} {l : Bool} {t u : List ℕ} {x : A} {y : B} → Writes R true t x → Writes (S x) l u y → Writes (Then R S) l (t ++ u) y
closed_then v w = followed v (λ behind a. tt) w

-- what was written is all
pub yielded : {A B : Type 0} {R : Language A} {f : A → B} {k : Bool} {t : List ℕ} {x : A} {y : B} → Writes R k t x → y ≡ f x → Writes (Then R (λ z. Yields (f z))) k t y
yielded {A} {B} {R} {f} {k} {t} {x} {y} w e = record {
  pieces = w.pieces;
  sentence = record { front = w.pieces; back = []; value = x; first = w.sentence; second = (refl, e); joined = sym (append-nil w.pieces) };
  cut = w.cut;
}

-- what was written is all, since no piece is left to say
pub and_nothing : {A B : Type 0} {R : Language A} {S : A → Language B} {k : Bool} {t : List ℕ} {x : A} {y : B} → Writes R k t x → S x [] y → Writes (Then R S) k t y
and_nothing {A} {B} {R} {S} {k} {t} {x} {y} w e = record {
  pieces = w.pieces;
  sentence = record { front = w.pieces; back = []; value = x; first = w.sentence; second = e; joined = sym (append-nil w.pieces) };
  cut = w.cut;
}

-- Single pieces.

says_word : (w : List ℕ) → word_says w (word w) ≡ Some tt
says_word w = rw ((bytes_eq-Decides w w).1 refl) refl

says_symbol : (c : ℕ) → symbol_says c (symbol c) ≡ Some tt
says_symbol c = let same : nat_eq c c ≡ true = grind (arith, nat_tests) in rw same refl

-- the bytes of a word
abbrev pub is_word_text : List ℕ → Bool
is_word_text bs = begins is_letter bs && list_all is_word_byte bs

pub word_written : {A : Type 0} (says : Piece → Option A) (w : List ℕ) (x : A) → is_word_text w ≡ true → says (word w) ≡ Some x → Writes (One says) false w x
word_written says w x h s = record {
  pieces = word w ∷ [];
  sentence = (word w, refl, s);
  cut = λ end behind qs a le k. cut_piece end (word w) behind qs ((and_parts _ _ h).0, (and_parts _ _ h).1, a) refl le k;
}

pub digits_written : {A : Type 0} (says : Piece → Option A) (ds : List ℕ) (x : A) → begins is_digit ds ≡ true → list_all is_digit ds ≡ true → is_large (digits ds) ≡ false → says (digits ds) ≡ Some x → Writes (One says) false ds x
digits_written says ds x b h small s = record {
  pieces = digits ds ∷ [];
  sentence = (digits ds, refl, s);
  cut = λ end behind qs a le k. cut_piece end (digits ds) behind qs (b, h, ends_number behind a) small le k;
}

pub keyword : (w : String) → is_word_text (codes w) ≡ true → Writes (Keyword w) false (codes w) tt
keyword w h = word_written (word_says (codes w)) (codes w) tt h (says_word (codes w))

symbol_written : (c : String) → is_symbol (byte c) ≡ true → Writes (Sign c) true (byte c ∷ []) tt
symbol_written c h = record {
  pieces = symbol (byte c) ∷ [];
  sentence = (symbol (byte c), refl, says_symbol (byte c));
  cut = λ end behind qs a le k. cut_piece end (symbol (byte c)) behind qs h refl le k;
}

pub sign : (c : String) → codes c ≡ byte c ∷ [] → is_symbol (byte c) ≡ true → Writes (Sign c) true (codes c) tt
sign c e h = respelled (sym e) refl (symbol_written c h)

-- a symbol and what follows
pub signed : {B : Type 0} {S : Unit {0} → Language B} {l : Bool} {u : List ℕ} {y : B} (c : String) → codes c ≡ byte c ∷ [] → is_symbol (byte c) ≡ true → Writes (S tt) l u y → Writes (Then (Sign c) S) l (codes c ++ u) y
signed c e h v = closed_then (sign c e h) v

-- a keyword with a space behind it, and what follows
pub keyed : {B : Type 0} {S : Unit {0} → Language B} {l : Bool} {u : List ℕ} {y : B} (w spelled : String) → is_word_text (codes w) ≡ true → codes spelled ≡ codes w ++ 32 ∷ [] → Writes (S tt) l u y → Writes (Then (Keyword w) S) l (codes spelled ++ u) y
keyed {B} {S} {l} {u} {y} w spelled h e v = respelled (sym (ap (λ (zs : List ℕ). zs ++ u) e ∙ append_assoc (codes w) (32 ∷ []) u)) refl (followed (keyword w h) (λ behind a. refl) (spaced v))

-- a keyword with a space on both sides, and what follows
pub keyed_between : {B : Type 0} {S : Unit {0} → Language B} {l : Bool} {u : List ℕ} {y : B} (w spelled : String) → is_word_text (codes w) ≡ true → codes spelled ≡ 32 ∷ (codes w ++ 32 ∷ []) → Writes (S tt) l u y → Writes (Then (Keyword w) S) l (codes spelled ++ u) y
keyed_between {B} {S} {l} {u} {y} w spelled h e v =
    let text : codes " " ++ (codes w ++ (codes " " ++ u)) ≡ codes spelled ++ u = sym (ap (λ (zs : List ℕ). zs ++ u) e ∙ ap (λ (zs : List ℕ). 32 ∷ zs) (append_assoc (codes w) (32 ∷ []) u)) in
    respelled text refl (spaced (followed (keyword w h) (λ behind a. refl) (spaced v)))

-- Lists.

pub no_more : {A : Type 0} (R : Language A) → Writes (Many R) true [] []
no_more R = record { pieces = []; sentence = refl; cut = λ end behind qs a le k. k }

-- one more in front
pub in_front : {A : Type 0} {R : Language A} {k l : Bool} {t u : List ℕ} {x : A} {xs : List A} → Writes R k t x → ((behind : List ℕ) → MayFollow l behind → MayFollow k (u ++ behind)) → Writes (Many R) l u xs → Writes (Many R) l (t ++ u) (x ∷ xs)
unfolding followed yielded
in_front {A} {R} {k} {l} {t} {u} {x} {xs} v f w =
    let both : Writes (Then R (λ z. Then (Many R) (λ zs. Yields (z ∷ zs)))) l (t ++ u) (x ∷ xs) = followed v f (yielded w refl) in record {
      pieces = both.pieces;
      sentence = (v.pieces, w.pieces, v.sentence, w.sentence, refl);
      cut = both.cut;
    }

-- lines one after the other
pub lines : {A : Type 0} {R : Language A} (f : A → List ℕ) (xs : List A) → AllByRecursion (λ x. Writes R true (f x) x) xs → Writes (Many R) true (flat_map f xs) xs
lines {A} {R} f [] h = no_more R
lines f (x ∷ xs) h = in_front h.0 (λ behind a. tt) (lines f xs h.1)

pub some_lines : {A : Type 0} {R : Language A} (f : A → List ℕ) (xs : List A) → 0 < length xs → AllByRecursion (λ x. Writes R true (f x) x) xs → Writes (Several R) true (flat_map f xs) xs
some_lines f [] some h = absurd (omega arith)
some_lines f (x ∷ xs) some h = closed_then h.0 (yielded (lines f xs h.1) refl)

-- items, each behind what no word goes on with
pub separated_begin : (g : List ℕ → List ℕ) (items : List (List ℕ)) (behind : List ℕ) → ((y more : List ℕ) → begins is_word_byte (g y ++ more) ≡ false) → begins is_word_byte behind ≡ false → begins is_word_byte (flat_map g items ++ behind) ≡ false
separated_begin g [] behind h a = a
separated_begin g (y ∷ items) behind h a = rw (append_assoc (g y) (flat_map g items) behind) (h y (flat_map g items ++ behind))

pub separated : {A : Type 0} {R : Language A} (g : List ℕ → List ℕ) (f : A → List ℕ) (xs : List A) → ((y more : List ℕ) → begins is_word_byte (g y ++ more) ≡ false) → AllByRecursion (λ x. Writes R false (g (f x)) x) xs → Writes (Many R) false (flat_map g (map f xs)) xs
separated {A} {R} g f [] b h = loosened (no_more R)
separated g f (x ∷ xs) b h = in_front h.0 (λ behind a. separated_begin g (map f xs) behind b a) (separated g f xs b h.1)

-- Items, each in the language that what was reached asks for.

pub no_item : {A S : Type 0} (R : S → Language (Kept A)) (step : S → A → S) (s : S) → Writes (Series R step s) true [] (kept [])
no_item R step s = record { pieces = []; sentence = refl; cut = λ end behind qs a le k. k }

-- one more in front
pub item_first : {A S : Type 0} (R : S → Language (Kept A)) (step : S → A → S) (s : S) {t u : List ℕ} {x : A} {xs : List A} → Writes (R s) true t (kept x) → Writes (Series R step (step s x)) true u (kept xs) → Writes (Series R step s) true (t ++ u) (kept (x ∷ xs))
unfolding followed
item_first {A} {S} R step s {t} {u} {x} {xs} v w =
    let both : Writes (Then (R s) (λ item. Series R step (step s x))) true (t ++ u) (kept xs) = followed v (λ behind a. tt) w in
    record { pieces = both.pieces; sentence = (v.pieces, w.pieces, v.sentence, w.sentence, refl); cut = both.cut }

-- lines of items that are written under other names, and leave what was reached
pub item_lines : {A B S : Type 0} (R : S → Language (Kept B)) (s : S) (f : A → List ℕ) (g : A → B) (xs : List A) → AllByRecursion (λ x. Writes (R s) true (f x) (kept (g x))) xs → Writes (Series R (λ before item. before) s) true (flat_map f xs) (kept (map g xs))
item_lines R s f g [] h = no_item R (λ before item. before) s
item_lines R s f g (x ∷ xs) h = item_first R (λ before item. before) s h.0 (item_lines R s f g xs h.1)

-- what holds of each
pub each : {A : Type 0} {P Q : A → Type 0} → ((x : A) → P x → Q x) → (xs : List A) → AllByRecursion P xs → AllByRecursion Q xs
each f [] h = tt
each f (x ∷ xs) h = (f x h.0, each f xs h.1)

-- items with a symbol and a space between them
pub parted : {A : Type 0} {R : Language A} (c spelled : String) (f : A → List ℕ) (xs : List A) → is_symbol (byte c) ≡ true → codes spelled ≡ byte c ∷ 32 ∷ [] → 0 < length xs → AllByRecursion (λ x. Writes R false (f x) x) xs → Writes (Apart c R) false (apart (codes spelled) (map f xs)) xs
parted c spelled f [] h e some w = absurd (omega arith)
parted {A} {R} c spelled f (x ∷ xs) h e some w =
    let g = λ (y : List ℕ). codes spelled ++ y in
    let b : (y more : List ℕ) → begins is_word_byte (g y ++ more) ≡ false = λ y more. rw e (symbol_ends (byte c) h) in
    let item : (z : A) → Writes R false (f z) z → Writes (Behind c R) false (g (f z)) z = λ z k. rw e (closed_then (symbol_written c h) (spaced k)) in
    let others : Writes (Many (Behind c R)) false (flat_map g (map f xs)) xs = separated g f xs b (each item xs w.1) in
    followed w.0 (λ behind a. separated_begin g (map f xs) behind b a) (yielded others refl)

-- Numbers.

own : IsNumeralModel (λ ds. list_all is_digit ds ≡ true) number_of
own = numerals_by_fold _ (search rules) (fold (λ n d. 10 * n + (d - 48))) (search rules)

decimal_begins : (n : ℕ) → n < 2 ^ 64 → begins is_digit (decimal n) ≡ true
decimal_begins n h = first (decimal n) (decimal_nonempty n h) (digits_decimal own n h) where
  first : (ds : List ℕ) → 0 < length ds → list_all is_digit ds ≡ true → begins is_digit ds ≡ true
  first [] some k = absurd (omega arith)
  first (d ∷ ds) some k = (and_parts _ _ k).0

decimal_small : (n : ℕ) → n ≤ 1000000000 → is_large (digits (decimal n)) ≡ false
decimal_small n h =
    let few : length (decimal n) ≤ 10 = length-decimal-le 10 n (omega arith) (omega arith) (omega arith) in
    let value : number_of (decimal n) ≡ n = digits_value-decimal own n (omega arith) in
    let short : nat_lt 10 (length (decimal n)) ≡ false = grind (arith, nat_tests) in
    let low : int_lt LAST (pos n) ≡ false = grind (arith, ints) in
    rw (short, value, low) refl

-- digits are written for a number that they say
pub decimal_written : {A : Type 0} (says : Piece → Option A) (n : ℕ) (x : A) → n ≤ 1000000000 → ((ds : List ℕ) → number_of ds ≡ n → says (digits ds) ≡ Some x) → Writes (One says) false (decimal n) x
decimal_written says n x h s =
    let fits : n < 2 ^ 64 = omega arith in
    digits_written says (decimal n) x (decimal_begins n fits) (digits_decimal own n fits) (decimal_small n h) (s (decimal n) (digits_value-decimal own n fits))

pub number_written : (z : ℤ) → InRange whole z → Writes Number false (signed_decimal z) z
number_written (pos n) h = decimal_written number_says n (pos n) (omega (arith, ints, h.1)) (λ ds e. ap (λ (m : ℕ). Some (pos m)) e)
number_written (negsuc n) h = absurd (omega (arith, ints, h.0))

-- Whole texts.

pub text_written : {A : Type 0} {R : Language A} {bytes : List ℕ} {x : A} → Writes R true bytes x → length bytes ≤ TEXT_BYTES → (ps : List Placed) × IsTextOf bytes ps × R (pieces_of ps) x
text_written {A} {R} {bytes} {x} w short =
    let whole = w.cut (length bytes) [] [] tt (subst (λ (zs : List ℕ). length zs ≤ length bytes) (sym (append-nil bytes)) (omega arith)) (cut_nothing (length bytes)) in
    let cut : IsCutInto (length bytes) bytes w.pieces = subst (λ (ps : List Piece). IsCutInto (length bytes) bytes ps) (append-nil w.pieces) (subst (λ (zs : List ℕ). IsCutInto (length bytes) zs (w.pieces ++ [])) (append-nil bytes) whole) in
    (cut.placed, cut_is_text bytes w.pieces short cut, subst (λ (ps : List Piece). R ps x) (sym cut.these) w.sentence)
