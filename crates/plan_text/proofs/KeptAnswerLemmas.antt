-- A text of known names has one answer: the sentence that it is, or one refusal.
use Rattle.std.proofs.Common.{◌≡◌, ℕ, List, [], ◌∷◌, drop, length, sym, ap, ◌∙◌, subst}
use Rattle.hs_texts.specs.declared.refusal.Refusal.{Refusal}
use Rattle.hs_texts.specs.declared.refusal.Refusal.TheVariants.{NotUtf8, Char, Expected, Number, Trailing, Twice, Unknown, Range, Limit, NoBegin, Horizons, SameVar, SameBy, Memory}
use Rattle.hs_texts.specs.Pieces.{Placed, pieces_of, place_in}
use Rattle.hs_texts.specs.Languages.{Language}
use Rattle.text_laws.specs.Parsers.{Parser}
use Rattle.text_laws.specs.Reads.{Reads}
use Rattle.text_laws.proofs.PieceLemmas.{cut_one}
use Rattle.text_laws.proofs.AnswerLemmas.{sentence_one}
use Rattle.hs_texts.specs.Kept.{Kept, kept, IsRefused, IsBehind}
use Rattle.hs_texts.specs.KeptTexts.{IsKeptText, IsRefusedIn, IsBehindIn, IsUnknownIn, IsNamedRefusal}
use Rattle.plan_text.proofs.OneAnswerLemmas.{refused_one, spelled_or_refused, spelled_or_behind, refused_or_behind, behind_one}

kept_one : {A : Type 0} {x y : A} → kept x ≡ kept y → x ≡ y
kept_one h = cc

-- a text is one sentence
pub text_one : {A : Type 0} (R : Language (Kept A)) (p : Parser (Kept A)) → Reads R p [] → (bytes : List ℕ) (i : ℕ) (x y : A) → IsKeptText R bytes i x → IsKeptText R bytes i y → x ≡ y
text_one R p r bytes i x y h k =
    let e = cut_one bytes h.pieces k.pieces h.is_text.cut k.is_text.cut in
    kept_one (sentence_one R p r (pieces_of (drop i k.pieces)) (kept x) (kept y) (subst (λ (qs : List Placed). R (pieces_of (drop i qs)) (kept x)) e h.sentence) k.sentence)

expected_place : {A : Type 0} (R : Language (Kept A)) (p : Parser (Kept A)) → Reads R p [] → (bytes : List ℕ) (i a b : ℕ) → IsRefusedIn R bytes i a → IsRefusedIn R bytes i b → a ≡ b
expected_place R p r bytes i a b h k =
    let e = cut_one bytes h.pieces k.pieces h.is_text.cut k.is_text.cut in
    let n = refused_one R p r (pieces_of (drop i k.pieces)) h.index k.index (subst (λ (qs : List Placed). IsRefused R (pieces_of (drop i qs)) h.index) e h.refused) k.refused in
    h.place ∙ ap (λ (qs : List Placed). place_in (length bytes) (drop i qs) h.index) e ∙ ap (place_in (length bytes) (drop i k.pieces)) n ∙ sym k.place

trailing_place : {A : Type 0} (R : Language (Kept A)) (p : Parser (Kept A)) → Reads R p [] → (bytes : List ℕ) (i a b : ℕ) → IsBehindIn R bytes i a → IsBehindIn R bytes i b → a ≡ b
trailing_place R p r bytes i a b h k =
    let e = cut_one bytes h.pieces k.pieces h.is_text.cut k.is_text.cut in
    let n = behind_one R p r (pieces_of (drop i k.pieces)) h.index k.index (subst (λ (qs : List Placed). IsBehind R (pieces_of (drop i qs)) h.index) e h.behind) k.behind in
    h.place ∙ ap (λ (qs : List Placed). place_in (length bytes) (drop i qs) h.index) e ∙ ap (place_in (length bytes) (drop i k.pieces)) n ∙ sym k.place

expected_or_trailing : {A : Type 0} (R : Language (Kept A)) (p : Parser (Kept A)) → Reads R p [] → (bytes : List ℕ) (i a b : ℕ) → IsRefusedIn R bytes i a → IsBehindIn R bytes i b → ⊥
expected_or_trailing R p r bytes i a b h k =
    let e = cut_one bytes h.pieces k.pieces h.is_text.cut k.is_text.cut in
    refused_or_behind R p r (pieces_of (drop i k.pieces)) h.index k.index (subst (λ (qs : List Placed). IsRefused R (pieces_of (drop i qs)) h.index) e h.refused) k.behind

text_or_expected : {A : Type 0} (R : Language (Kept A)) (p : Parser (Kept A)) → Reads R p [] → (bytes : List ℕ) (i a : ℕ) (x : A) → IsKeptText R bytes i x → IsRefusedIn R bytes i a → ⊥
text_or_expected R p r bytes i a x h k =
    let e = cut_one bytes h.pieces k.pieces h.is_text.cut k.is_text.cut in
    spelled_or_refused R p r (pieces_of (drop i k.pieces)) k.index x (subst (λ (qs : List Placed). R (pieces_of (drop i qs)) (kept x)) e h.sentence) k.refused

text_or_trailing : {A : Type 0} (R : Language (Kept A)) (p : Parser (Kept A)) → Reads R p [] → (bytes : List ℕ) (i a : ℕ) (x : A) → IsKeptText R bytes i x → IsBehindIn R bytes i a → ⊥
text_or_trailing R p r bytes i a x h k =
    let e = cut_one bytes h.pieces k.pieces h.is_text.cut k.is_text.cut in
    spelled_or_behind R p r (pieces_of (drop i k.pieces)) k.index x (subst (λ (qs : List Placed). R (pieces_of (drop i qs)) (kept x)) e h.sentence) k.behind

same_first : (a b : List ℕ) (xs ys names : List (List ℕ)) → names ≡ a ∷ xs → names ≡ b ∷ ys → a ≡ b
same_first a b xs ys names h k = cc

none_first : (a : List ℕ) (xs names : List (List ℕ)) → names ≡ [] → names ≡ a ∷ xs → ⊥
none_first a xs names h k = absurd cc

unknown_one : {A : Type 0} (R : Language (Kept A)) (p : Parser (Kept A)) → Reads R p [] → (f : A → List (List ℕ)) (bytes : List ℕ) (i : ℕ) (a b : List ℕ) → IsUnknownIn R f bytes i a → IsUnknownIn R f bytes i b → a ≡ b
unknown_one R p r f bytes i a b h k =
    let e = text_one R p r bytes i h.written k.written h.is_text k.is_text in
    same_first a b h.first.0 k.first.0 (f k.written) (ap f (sym e) ∙ h.first.1) k.first.1

-- the kinds of refusals
data Cause {A : Type 0} (R : Language (Kept A)) (f : A → List (List ℕ)) (bytes : List ℕ) (i : ℕ) : Refusal → Type 0 where
  by_expected : (at : ℕ) → IsRefusedIn R bytes i at → Cause R f bytes i (Expected at)
  by_trailing : (at : ℕ) → IsBehindIn R bytes i at → Cause R f bytes i (Trailing at)
  by_unknown : (name : List ℕ) → IsUnknownIn R f bytes i name → Cause R f bytes i (Unknown name)

cause_of : {A : Type 0} (R : Language (Kept A)) (f : A → List (List ℕ)) (bytes : List ℕ) (i : ℕ) (r : Refusal) → IsNamedRefusal R f bytes i r → Cause R f bytes i r
cause_of R f bytes i (Expected at) h = by_expected at h
cause_of R f bytes i (Trailing at) h = by_trailing at h
cause_of R f bytes i (Unknown name) h = by_unknown name h
cause_of R f bytes i (NotUtf8 a) h = absurd h
cause_of R f bytes i (Char a) h = absurd h
cause_of R f bytes i (Number a) h = absurd h
cause_of R f bytes i (Twice a) h = absurd h
cause_of R f bytes i (Range a) h = absurd h
cause_of R f bytes i (Limit a) h = absurd h
cause_of R f bytes i (NoBegin a) h = absurd h
cause_of R f bytes i (Horizons a) h = absurd h
cause_of R f bytes i (SameVar a) h = absurd h
cause_of R f bytes i (SameBy a) h = absurd h
cause_of R f bytes i Memory h = absurd h

cause_one : {A : Type 0} (R : Language (Kept A)) (p : Parser (Kept A)) → Reads R p [] → (f : A → List (List ℕ)) (bytes : List ℕ) (i : ℕ) (c d : Refusal) → Cause R f bytes i c → Cause R f bytes i d → c ≡ d
cause_one R p r f bytes i c d (by_expected a h) (by_expected b k) = ap Expected (expected_place R p r bytes i a b h k)
cause_one R p r f bytes i c d (by_trailing a h) (by_trailing b k) = ap Trailing (trailing_place R p r bytes i a b h k)
cause_one R p r f bytes i c d (by_unknown a h) (by_unknown b k) = ap Unknown (unknown_one R p r f bytes i a b h k)
cause_one R p r f bytes i c d (by_expected a h) (by_trailing b k) = absurd (expected_or_trailing R p r bytes i a b h k)
cause_one R p r f bytes i c d (by_trailing a h) (by_expected b k) = absurd (expected_or_trailing R p r bytes i b a k h)
cause_one R p r f bytes i c d (by_expected a h) (by_unknown b k) = absurd (text_or_expected R p r bytes i a k.written k.is_text h)
cause_one R p r f bytes i c d (by_unknown a h) (by_expected b k) = absurd (text_or_expected R p r bytes i b h.written h.is_text k)
cause_one R p r f bytes i c d (by_trailing a h) (by_unknown b k) = absurd (text_or_trailing R p r bytes i a k.written k.is_text h)
cause_one R p r f bytes i c d (by_unknown a h) (by_trailing b k) = absurd (text_or_trailing R p r bytes i b h.written h.is_text k)

-- a text has one refusal
pub refusal_one : {A : Type 0} (R : Language (Kept A)) (p : Parser (Kept A)) → Reads R p [] → (f : A → List (List ℕ)) (bytes : List ℕ) (i : ℕ) (c d : Refusal) → IsNamedRefusal R f bytes i c → IsNamedRefusal R f bytes i d → c ≡ d
refusal_one R p r f bytes i c d h k = cause_one R p r f bytes i c d (cause_of R f bytes i c h) (cause_of R f bytes i d k)

known_or_cause : {A : Type 0} (R : Language (Kept A)) (p : Parser (Kept A)) → Reads R p [] → (f : A → List (List ℕ)) (bytes : List ℕ) (i : ℕ) (x : A) (c : Refusal) → IsKeptText R bytes i x → f x ≡ [] → Cause R f bytes i c → ⊥
known_or_cause R p r f bytes i x c s e (by_expected a h) = text_or_expected R p r bytes i a x s h
known_or_cause R p r f bytes i x c s e (by_trailing a h) = text_or_trailing R p r bytes i a x s h
known_or_cause R p r f bytes i x c s e (by_unknown a h) =
    let same = text_one R p r bytes i x h.written s h.is_text in
    none_first a h.first.0 (f h.written) (ap f (sym same) ∙ e) h.first.1

-- a sentence of known names isn't refused
pub known_or_refusal : {A : Type 0} (R : Language (Kept A)) (p : Parser (Kept A)) → Reads R p [] → (f : A → List (List ℕ)) (bytes : List ℕ) (i : ℕ) (x : A) (c : Refusal) → IsKeptText R bytes i x → f x ≡ [] → IsNamedRefusal R f bytes i c → ⊥
known_or_refusal R p r f bytes i x c s e h = known_or_cause R p r f bytes i x c s e (cause_of R f bytes i c h)
