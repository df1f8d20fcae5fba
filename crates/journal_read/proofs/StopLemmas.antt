-- The pieces of a text by their numbers, and the last four of them.
use Rattle.std.proofs.Common.{◌≡◌, ℕ, zero, suc, ◌+◌, ◌-◌, ◌≤◌, true, List, [], ◌∷◌, length, refl, sym, ap, ◌∙◌, subst, arith, Option, Some, None, length-drop}
use Rattle.std.specs.Prelude.{ℤ, drop, slice_get, codes}
use Rattle.std.proofs.lemmas.Slice.Eq.{bytes_eq-Decides}
use Rattle.base_laws.proofs.ListLemmas.{each_at}
use Rattle.ddl_read.specs.declared.piece.Piece.{Piece as Kept}
use Rattle.ddl_read.specs.declared.piece.PieceKind.{PieceKind}
use Rattle.ddl_read.specs.declared.piece.PieceKind.TheVariants.{Word, Number, Symbol}
use Rattle.ddl_read.specs.Cutting.{IsCut}
use Rattle.ddl_read.specs.Spelled.{IsSmall, IsSmallNumber, bytes_of_piece, spelling, spelling_of, spellings}
use Rattle.ddl_read.proofs.ReadLemmas.{are_spelled}
use Rattle.hs_texts.specs.Pieces.{Piece, word, number, symbol}
use Rattle.text_laws.specs.Parsers.{is_word, next}
use Rattle.log_laws.specs.LogText.{phase_text}
use Rattle.journal_read.specs.declared.stop.Stop.{Stop}
use Rattle.journal_read.specs.Stops.{EndsWithStop, IsNumberAt, IsWordAt}

-- the piece of a number is the next one behind those before it
pub next_at : (ps : List Piece) (i : ℕ) → next (drop i ps) ≡ slice_get ps i
next_at [] zero = refl
next_at [] (suc i) = refl
next_at (p ∷ ps) zero = refl
next_at (p ∷ ps) (suc i) = next_at ps i

-- a piece is the word that it is told to be
pub word_is : (w : List ℕ) (o : Option Piece) → is_word w o ≡ true → o ≡ Some (word w)
word_is w None is = absurd (cc)
word_is w (Some (word v)) is = ap (λ (l : List ℕ). Some (word l)) ((bytes_eq-Decides v w).0 is)
word_is w (Some (number ds)) is = absurd (cc)
word_is w (Some (symbol c)) is = absurd (cc)

pub is_that : (w : List ℕ) (o : Option Piece) → o ≡ Some (word w) → is_word w o ≡ true
is_that w o is = subst (λ (p : Option Piece). is_word w p ≡ true) (sym is) ((bytes_eq-Decides w w).1 refl)

shift : (k j : ℕ) → suc k + j ≡ suc (k + j)
shift k j = omega arith

-- four pieces from a number on, to the end
pub last_four : (ps : List Piece) (k : ℕ) (a b c d : Piece) → k + 4 ≡ length ps → slice_get ps k ≡ Some a → slice_get ps (k + 1) ≡ Some b → slice_get ps (k + 2) ≡ Some c → slice_get ps (k + 3) ≡ Some d → drop k ps ≡ a ∷ b ∷ c ∷ d ∷ []
last_four [] k a b c d size is1 is2 is3 is4 = absurd (omega (arith, size))
last_four (p ∷ ps) (suc k) a b c d size is1 is2 is3 is4 =
    last_four ps k a b c d (omega (arith, size)) is1 (subst (λ (n : ℕ). slice_get (p ∷ ps) n ≡ Some b) (shift k 1) is2) (subst (λ (n : ℕ). slice_get (p ∷ ps) n ≡ Some c) (shift k 2) is3) (subst (λ (n : ℕ). slice_get (p ∷ ps) n ≡ Some d) (shift k 3) is4)
last_four (p ∷ []) zero a b c d size is1 is2 is3 is4 = absurd (omega (arith, size))
last_four (p ∷ q ∷ []) zero a b c d size is1 is2 is3 is4 = absurd (omega (arith, size))
last_four (p ∷ q ∷ r ∷ []) zero a b c d size is1 is2 is3 is4 = absurd (omega (arith, size))
last_four (p ∷ q ∷ r ∷ s ∷ []) zero a b c d size is1 is2 is3 is4 = cc
last_four (p ∷ q ∷ r ∷ s ∷ t ∷ ps) zero a b c d size is1 is2 is3 is4 = absurd (omega (arith, size))

-- so they stand there
pub record Stand (ps : List Piece) (k : ℕ) (a b c d : Piece) : Type 0 where
  pub first : slice_get ps k ≡ Some a
  pub second : slice_get ps (k + 1) ≡ Some b
  pub third : slice_get ps (k + 2) ≡ Some c
  pub fourth : slice_get ps (k + 3) ≡ Some d

pub four_stand : (ps : List Piece) (k : ℕ) (a b c d : Piece) → drop k ps ≡ a ∷ b ∷ c ∷ d ∷ [] → Stand ps k a b c d
four_stand [] zero a b c d is = absurd (let e : [] ≡ a ∷ b ∷ c ∷ d ∷ [] = is in cc)
four_stand [] (suc k) a b c d is = absurd (let e : [] ≡ a ∷ b ∷ c ∷ d ∷ [] = is in cc)
four_stand (p ∷ ps) (suc k) a b c d is =
    let s = four_stand ps k a b c d is in
    record {
      first = s.first;
      second = ap (slice_get (p ∷ ps)) (shift k 1) ∙ s.second;
      third = ap (slice_get (p ∷ ps)) (shift k 2) ∙ s.third;
      fourth = ap (slice_get (p ∷ ps)) (shift k 3) ∙ s.fourth;
    }
four_stand (p ∷ ps) zero a b c d is = record {
  first = ap (λ (l : List Piece). slice_get l 0) is;
  second = ap (λ (l : List Piece). slice_get l 1) is;
  third = ap (λ (l : List Piece). slice_get l 2) is;
  fourth = ap (λ (l : List Piece). slice_get l 3) is;
}

-- what ends with a stop line has four pieces
pub four_pieces : (ps : List Piece) (s : Stop) → EndsWithStop ps s → 4 ≤ length ps
four_pieces ps s e = omega (arith, ap length e.line, length-drop (length ps - 4) ps)

-- and they stand at its end
pub stop_stands : (ps : List Piece) (s : Stop) (k : ℕ) → k ≡ length ps - 4 → (e : EndsWithStop ps s) → Stand ps k (word (codes "stop")) (word (phase_text s.phase)) (word (codes "at")) (number e.digits)
stop_stands ps s k is e = four_stand ps k _ _ _ _ (ap (λ (n : ℕ). drop n ps) is ∙ e.line)

-- a stop line that stands at the end
pub ends_so : (ps : List Piece) (s : Stop) (k : ℕ) → k + 4 ≡ length ps → IsWordAt ps k (codes "stop") → IsWordAt ps (k + 1) (phase_text s.phase) → IsWordAt ps (k + 2) (codes "at") → IsNumberAt ps (k + 3) s.at → EndsWithStop ps s
ends_so ps s k size first second third fourth =
    let last : length ps - 4 ≡ k = omega (arith, size) in
    record {
      digits = fourth.digits;
      line = ap (λ (n : ℕ). drop n ps) last ∙ last_four ps k _ _ _ _ size first second third fourth.piece;
      at = fourth.is;
    }

-- what a kept piece spells
told : (text : List ℕ) (ps : List Kept) (i : ℕ) (p : Kept) → slice_get ps i ≡ Some p → slice_get (spellings text ps) i ≡ Some (spelling_of text p)
told text [] i p there = absurd (cc)
told text (q ∷ ps) zero p there = let e : Some q ≡ Some p = there in let same : q ≡ p = cc in ap (λ (x : Kept). Some (spelling_of text x)) same
told text (q ∷ ps) (suc i) p there = told text ps i p there

-- a piece that is kept as a number is that number
pub number_there : (text : List ℕ) (ps : List Kept) (i : ℕ) (p : Kept) (n : ℤ) → IsCut text ps → slice_get ps i ≡ Some p → p.kind ≡ Number n → IsNumberAt (spellings text ps) i n
number_there text ps i p n cut there kind = record {
  digits = bytes_of_piece text p;
  piece = told text ps i p there ∙ ap (λ (k : PieceKind). Some (spelling k (bytes_of_piece text p))) kind;
  is = subst (λ (k : PieceKind). IsSmallNumber k (bytes_of_piece text p)) kind (each_at (IsSmall text) ps i p (are_spelled text ps cut) there).1;
}

-- and one that is kept otherwise is none
pub no_number : (text : List ℕ) (ps : List Kept) (i : ℕ) (p : Kept) → slice_get ps i ≡ Some p → ((n : ℤ) → p.kind ≡ Number n → ⊥) → (n : ℤ) → IsNumberAt (spellings text ps) i n → ⊥
no_number text ps i p there other n is =
    let same : Some (spelling p.kind (bytes_of_piece text p)) ≡ Some (number is.digits) = sym (told text ps i p there) ∙ is.piece in
    by_kind p.kind refl same
  where
    by_kind : (k : PieceKind) → p.kind ≡ k → Some (spelling k (bytes_of_piece text p)) ≡ Some (number is.digits) → ⊥
    by_kind Word kind same = absurd (let e : Some (word (bytes_of_piece text p)) ≡ Some (number is.digits) = same in cc)
    by_kind (Number m) kind same = other m kind
    by_kind (Symbol c) kind same = absurd (let e : Some (symbol c) ≡ Some (number is.digits) = same in cc)
