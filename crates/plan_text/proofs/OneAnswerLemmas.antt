-- A plan's text has one answer.
use Rattle.std.proofs.Common.{◌≡◌, ℕ, ◌+◌, List, [], length, take, drop, refl, sym, ap, ◌∙◌, subst, append-nil, inl, inr, arith, length-drop}
use Rattle.std.proofs.lemmas.Bool.{cases_lt}
use Rattle.std.proofs.lemmas.List.{take-append-drop}
use Rattle.hs_texts.specs.Pieces.{Piece}
use Rattle.hs_texts.specs.Languages.{Language, IsExpected, IsTrailing}
use Rattle.text_laws.specs.Parsers.{Parser, done, next}
use Rattle.text_laws.specs.Reads.{Reads}
use Rattle.text_laws.proofs.ListLemmas.{avoids_none, same_rest}
use Rattle.text_laws.proofs.AnswerLemmas.{all_taken, spelled_or_expected, spelled_or_trailing, expected_one, expected_or_trailing, trailing_one}
use Rattle.hs_texts.specs.Kept.{Kept, kept, broken, IsBroken, IsRefused, IsBehind}

front_read : {A : Type 0} (R : Language A) (p : Parser A) → Reads R p [] → (ps : List Piece) (n : ℕ) (x : A) → R (take n ps) x → p ps ≡ done x (drop n ps)
front_read R p r ps n x h = ap p (sym (take-append-drop n ps)) ∙ r.complete (take n ps) (drop n ps) x h (avoids_none (next (drop n ps)))

whole_read : {A : Type 0} (R : Language A) (p : Parser A) → Reads R p [] → (ps : List Piece) (x : A) → R ps x → p ps ≡ done x []
whole_read R p r ps x h = ap p (sym (append-nil ps)) ∙ r.complete ps [] x h (avoids_none (next []))

kept_or_broken : {A : Type 0} {a b : List Piece} {x : A} {n : ℕ} → done (kept x) a ≡ done (broken n) b → ⊥
kept_or_broken h = cc

same_size : {A : Type 0} {a b : List Piece} (x y : Kept A) (m n : ℕ) → x ≡ broken m → y ≡ broken n → done x a ≡ done y b → m ≡ n
same_size x y m n h k e = cc

-- what breaks off is expected nowhere else
expected_or_broken : {A : Type 0} (R : Language (Kept A)) (p : Parser (Kept A)) → Reads R p [] → (ps : List Piece) (m n : ℕ) → IsExpected R ps m → IsBroken R ps n → ⊥
expected_or_broken R p r ps m n e b =
    elim (cases_lt (n + b.size) (length ps)) [
      | inl lt ↦ expected_or_trailing R p r ps m (n + b.size) e (record { within = lt; value = broken b.size; sentence = b.sentence })
      | inr ge ↦ spelled_or_expected R ps m (broken b.size) (subst (λ (zs : List Piece). R zs (broken b.size)) (all_taken ps (n + b.size) ge) b.sentence) e
    ]

broken_one : {A : Type 0} (R : Language (Kept A)) (p : Parser (Kept A)) → Reads R p [] → (ps : List Piece) (m n : ℕ) → IsBroken R ps m → IsBroken R ps n → m ≡ n
broken_one R p r ps m n b c =
    let e = sym (front_read R p r ps (m + b.size) (broken b.size) b.sentence) ∙ front_read R p r ps (n + c.size) (broken c.size) c.sentence in
    let s = same_size (broken b.size) (broken c.size) b.size c.size refl refl e in
    omega (arith, s, ap length (same_rest e), length-drop (m + b.size) ps, length-drop (n + c.size) ps, b.within, c.within)

-- the piece that is refused is one
pub refused_one : {A : Type 0} (R : Language (Kept A)) (p : Parser (Kept A)) → Reads R p [] → (ps : List Piece) (m n : ℕ) → IsRefused R ps m → IsRefused R ps n → m ≡ n
refused_one R p r ps m n (inl e) (inl f) = expected_one R ps m n e f
refused_one R p r ps m n (inl e) (inr b) = absurd (expected_or_broken R p r ps m n e b)
refused_one R p r ps m n (inr b) (inl e) = absurd (expected_or_broken R p r ps n m e b)
refused_one R p r ps m n (inr b) (inr c) = broken_one R p r ps m n b c

-- pieces that are a whole sentence have none
pub spelled_or_refused : {A : Type 0} (R : Language (Kept A)) (p : Parser (Kept A)) → Reads R p [] → (ps : List Piece) (n : ℕ) (x : A) → R ps (kept x) → IsRefused R ps n → ⊥
spelled_or_refused R p r ps n x h (inl e) = spelled_or_expected R ps n (kept x) h e
spelled_or_refused R p r ps n x h (inr b) = kept_or_broken (sym (whole_read R p r ps (kept x) h) ∙ front_read R p r ps (n + b.size) (broken b.size) b.sentence)

is_trailing : {A : Type 0} (R : Language (Kept A)) (ps : List Piece) (n : ℕ) → IsBehind R ps n → IsTrailing R ps n
is_trailing R ps n b = record { within = b.within; value = kept b.value; sentence = b.sentence }

pub spelled_or_behind : {A : Type 0} (R : Language (Kept A)) (p : Parser (Kept A)) → Reads R p [] → (ps : List Piece) (n : ℕ) (x : A) → R ps (kept x) → IsBehind R ps n → ⊥
spelled_or_behind R p r ps n x h b = spelled_or_trailing R p r ps n (kept x) h (is_trailing R ps n b)

-- nor has a whole sentence in front
pub refused_or_behind : {A : Type 0} (R : Language (Kept A)) (p : Parser (Kept A)) → Reads R p [] → (ps : List Piece) (m n : ℕ) → IsRefused R ps m → IsBehind R ps n → ⊥
refused_or_behind R p r ps m n (inl e) b = expected_or_trailing R p r ps m n e (is_trailing R ps n b)
refused_or_behind R p r ps m n (inr c) b = kept_or_broken (sym (front_read R p r ps n (kept b.value) b.sentence) ∙ front_read R p r ps (m + c.size) (broken c.size) c.sentence)

pub behind_one : {A : Type 0} (R : Language (Kept A)) (p : Parser (Kept A)) → Reads R p [] → (ps : List Piece) (m n : ℕ) → IsBehind R ps m → IsBehind R ps n → m ≡ n
behind_one R p r ps m n b c = trailing_one R p r ps m n (is_trailing R ps m b) (is_trailing R ps n c)
