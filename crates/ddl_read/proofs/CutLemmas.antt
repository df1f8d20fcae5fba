-- What stands behind a gap, and the pieces that were cut so far.
use Rattle.std.proofs.Common.{◌≡◌, ℕ, zero, suc, not, nat_eq, ◌+◌, ◌-◌, ◌<◌, ◌≤◌, Bool, true, false, List, [], ◌∷◌, ◌++◌, length, get_or, map, take, drop, slice_range, refl, sym, ap, ◌∙◌, subst, arith, drop-cons, length-append, length-drop, drop-drop}
use Rattle.std.specs.List.{AllByRecursion}
use Rattle.std.proofs.lemmas.List.{take-append-drop}
use Rattle.std.specs.List.{list_any}
use Rattle.std.specs.Str.{IsUtf8}
use Rattle.std.proofs.lemmas.List.{map-append, length-map}
use Rattle.std.specs.Prelude.{cond, ◌||◌, pos, ◌+ℤ◌, int_lt, slice_get, Some}
use Rattle.std.proofs.lemmas.Bool.Decides.{nat_tests}
use Rattle.hs_base.specs.declared.limits.TheConstants.{LAST, TEXT_BYTES}
use Rattle.hs_texts.specs.Pieces.{Piece as Spelling, word, number, symbol, number_of, is_large, is_space, IsBadNumber, Placed, IsPiece, begins, bytes_of, begins_no_piece, after_gap, StandsFirst, Cuts, AreCut, IsBadChar}
use Rattle.ddl_read.specs.declared.piece.Piece.{Piece}
use Rattle.ddl_read.specs.declared.piece.PieceKind.{PieceKind}
use Rattle.ddl_read.specs.declared.piece.PieceKind.TheVariants.{Word, Number, Symbol}
use Rattle.ddl_read.specs.Spelled.{spelling, bytes_of_piece, placed, KeepsNumber, IsSpelled}
use Rattle.ddl_read.specs.Cutting.{Ends, IsBadNext, AreFirst, AreAll, is_too_large, IsFirstLarge, IsCut}

-- a piece of these bytes stands behind the gap
pub piece_ends : (text : List ℕ) (from at end : ℕ) (kind : PieceKind) → after_gap false (drop from text) ≡ drop at text → from ≤ at → at < end → end ≤ length text → bytes_of (spelling kind (slice_range text at end)) ≡ slice_range text at end → IsPiece (spelling kind (slice_range text at end)) (drop end text) → KeepsNumber kind (slice_range text at end) → Ends text from (record { place = at; length = end - at; kind = kind }) end
piece_ends text from at end kind gap le lt in' bytes longest kept =
    let cut : take (end - at) (drop at text) ++ drop (end - at) (drop at text) ≡ drop at text = take-append-drop (end - at) (drop at text) in
    let back : drop (end - at) (drop at text) ≡ drop end text = drop-drop (end - at) at text ∙ ap (λ (n : ℕ). drop n text) (omega (arith, lt)) in
    let whole : bytes_of (spelling kind (slice_range text at end)) ++ drop end text ≡ drop at text = ap (λ (zs : List ℕ). zs ++ drop end text) bytes ∙ ap (λ (zs : List ℕ). take (end - at) (drop at text) ++ zs) (sym back) ∙ cut in record {
      after = omega (arith, le, lt);
      within = in';
      first = record {
        spelled = gap ∙ sym whole;
        longest = longest;
        placed = omega (arith, ap length whole, length-drop at text, lt, in');
      };
      spelled = record { within = omega (arith, lt, in'); kept = kept };
    }

-- a byte that begins no piece stands there
pub bad_stands : (text : List ℕ) (from at : ℕ) → after_gap false (drop from text) ≡ drop at text → at < length text → begins begins_no_piece (drop at text) ≡ true → IsBadNext text from at
bad_stands text from at gap lt bad =
    let e : drop at text ≡ get_or text at 0 ∷ drop (suc at) text = drop-cons text at 0 lt in record {
      char = get_or text at 0;
      behind = drop (suc at) text;
      next = gap ∙ e;
      bad = ap (begins begins_no_piece) (sym e) ∙ bad;
      place = omega (arith, ap length e, length-drop at text);
    }

-- one more piece behind those that were cut
cuts_push : (end : ℕ) (bytes rest behind : List ℕ) (ps : List Placed) (p : Placed) → Cuts end bytes ps rest → StandsFirst end rest p behind → Cuts end bytes (ps ++ p ∷ []) behind
cuts_push end bytes rest behind [] p h k = (behind, subst (λ (zs : List ℕ). StandsFirst end zs p behind) (sym h) k, refl)
cuts_push end bytes rest behind (q ∷ ps) p h k = (h.0, h.1, cuts_push end h.0 rest behind ps p h.2 k)

spelled_push : (text : List ℕ) (ps : List Piece) (p : Piece) → AllByRecursion (IsSpelled text) ps → IsSpelled text p → AllByRecursion (IsSpelled text) (ps ++ p ∷ [])
spelled_push text [] p h k = (k, tt)
spelled_push text (q ∷ ps) p h k = (h.0, spelled_push text ps p h.1 k)

placed_push : (text : List ℕ) (ps : List Piece) (p : Piece) → map (placed text) (ps ++ p ∷ []) ≡ map (placed text) ps ++ placed text p ∷ []
placed_push text [] p = refl
placed_push text (q ∷ ps) p = ap (λ (zs : List Placed). placed text q ∷ zs) (placed_push text ps p)

-- before the first piece nothing is cut
pub none_cut : (text : List ℕ) → AreFirst text [] 0
none_cut text = record { within = omega arith; cuts = refl; spelled = tt }

-- one more piece
pub one_more : (text : List ℕ) (ps : List Piece) (from end : ℕ) (p : Piece) → AreFirst text ps from → Ends text from p end → AreFirst text (ps ++ p ∷ []) end
one_more text ps from end p h k = record {
  within = k.within;
  cuts = subst (λ (zs : List Placed). Cuts (length text) text zs (drop end text)) (sym (placed_push text ps p)) (cuts_push (length text) text (drop from text) (drop end text) (map (placed text) ps) (placed text p) h.cuts k.first);
  spelled = spelled_push text ps p h.spelled k.spelled;
}

-- all pieces
pub all_cut : (text : List ℕ) (ps : List Piece) (from : ℕ) → AreFirst text ps from → after_gap false (drop from text) ≡ [] → AreAll text ps
all_cut text ps from h e = record { cut = record { rest = drop from text; cuts = h.cuts; ends = e }; spelled = h.spelled }

-- the first bad character
pub bad_char : (text : List ℕ) (ps : List Piece) (from at : ℕ) → AreFirst text ps from → IsBadNext text from at → IsBadChar text at
bad_char text ps from at h k = record {
  before = map (placed text) ps;
  rest = drop from text;
  char = k.char;
  behind = k.behind;
  cuts = h.cuts;
  next = k.next;
  bad = k.bad;
  place = k.place;
}

-- Numbers that are too large.

-- a number is kept as a larger one than LAST where it is too large
large_kept : (ds : List ℕ) (b : Bool) → is_large (number ds) ≡ b → int_lt LAST (cond b (LAST +ℤ pos 1) (pos (number_of ds))) ≡ b
large_kept ds true e = refl
large_kept ds false e = grind (arith, nat_tests)

large_kind : (k : PieceKind) (bytes : List ℕ) → KeepsNumber k bytes → is_too_large k ≡ is_large (spelling k bytes)
large_kind Word bytes e = refl
large_kind (Number n) bytes e = rw e (large_kept bytes (is_large (number bytes)) refl)
large_kind (Symbol c) bytes e = refl

-- some piece is too large where a kept one is
any_large : (text : List ℕ) (ps : List Piece) → AllByRecursion (IsSpelled text) ps → list_any (λ p. is_large p.piece) (map (placed text) ps) ≡ list_any (λ p. is_too_large p.kind) ps
any_large text [] h = refl
any_large text (p ∷ ps) h =
    ap (λ b. b || list_any (λ q. is_large q.piece) (map (placed text) ps)) (sym (large_kind p.kind (bytes_of_piece text p) (h.0).kept))
    ∙ ap (λ b. is_too_large p.kind || b) (any_large text ps h.1)

split_index : (ps : List Piece) (i : ℕ) (p : Piece) → slice_get ps i ≡ Some p → ps ≡ take i ps ++ p ∷ drop (suc i) ps
split_index [] zero p h = absurd cc
split_index [] (suc i) p h = absurd cc
split_index (q ∷ ps) zero p h = let e : q ≡ p = cc in ap (λ (z : Piece). z ∷ ps) e
split_index (q ∷ ps) (suc i) p h = ap (λ (zs : List Piece). q ∷ zs) (split_index ps i p h)

spelled_front : (text : List ℕ) (ps : List Piece) (i : ℕ) → AllByRecursion (IsSpelled text) ps → AllByRecursion (IsSpelled text) (take i ps)
spelled_front text [] zero h = tt
spelled_front text [] (suc i) h = tt
spelled_front text (p ∷ ps) zero h = tt
spelled_front text (p ∷ ps) (suc i) h = (h.0, spelled_front text ps i h.1)

spelled_index : (text : List ℕ) (ps : List Piece) (i : ℕ) (p : Piece) → AllByRecursion (IsSpelled text) ps → slice_get ps i ≡ Some p → IsSpelled text p
spelled_index text [] zero p h e = absurd cc
spelled_index text [] (suc i) p h e = absurd cc
spelled_index text (q ∷ ps) zero p h e = let k : q ≡ p = cc in subst (λ (z : Piece). IsSpelled text z) k h.0
spelled_index text (q ∷ ps) (suc i) p h e = spelled_index text ps i p h.1 e

placed_append : (text : List ℕ) (ps qs : List Piece) → map (placed text) (ps ++ qs) ≡ map (placed text) ps ++ map (placed text) qs
placed_append text ps qs = map-append (placed text) ps qs

-- the first number that is too large
pub bad_number : (text : List ℕ) (ps : List Piece) (at : ℕ) → AreAll text ps → IsFirstLarge ps at → IsBadNumber text at
bad_number text ps at h k = record {
  before = map (placed text) (take k.index ps);
  large = placed text k.piece;
  after = map (placed text) (drop (suc k.index) ps);
  cut = subst (λ (zs : List Placed). AreCut text zs) (ap (map (placed text)) (split_index ps k.index k.piece k.here) ∙ placed_append text (take k.index ps) (k.piece ∷ drop (suc k.index) ps)) h.cut;
  first = any_large text (take k.index ps) (spelled_front text ps k.index h.spelled) ∙ k.before;
  bad = sym (large_kind k.piece.kind (bytes_of_piece text k.piece) (spelled_index text ps k.index k.piece h.spelled k.here).kept) ∙ k.large;
  place = k.place;
}

-- pieces without such a number are those of a text
pub is_cut : (text : List ℕ) (ps : List Piece) → length text ≤ TEXT_BYTES → IsUtf8 text → AreAll text ps → list_any (λ p. is_too_large p.kind) ps ≡ false → IsCut text ps
is_cut text ps short utf8 h small = record {
  is_text = record { short = short; utf8 = utf8; cut = h.cut; small = any_large text ps h.spelled ∙ small };
  spelled = h.spelled;
}

-- Each piece takes a byte.

gap_shrinks : (b : Bool) (bytes : List ℕ) → length (after_gap b bytes) ≤ length bytes
gap_shrinks b [] = omega arith
gap_shrinks true (c ∷ cs) = let h = gap_shrinks (not (nat_eq c 10)) cs in omega (arith, h)
gap_shrinks false (c ∷ cs) =
    let h = gap_shrinks false cs in
    let k = gap_shrinks true cs in
    elim (is_space c) as (λ s. length (cond s (after_gap false cs) (cond (nat_eq c 35) (after_gap true cs) (c ∷ cs))) ≤ length (c ∷ cs)) [
      | true ↦ omega (arith, h)
      | false ↦ elim (nat_eq c 35) as (λ s. length (cond s (after_gap true cs) (c ∷ cs)) ≤ length (c ∷ cs)) [ true ↦ omega (arith, k) | false ↦ omega arith ]
    ]

takes_byte : (p : Spelling) (behind : List ℕ) → IsPiece p behind → 0 < length (bytes_of p)
takes_byte (word []) behind h = absurd cc
takes_byte (word (c ∷ cs)) behind h = omega arith
takes_byte (number []) behind h = absurd cc
takes_byte (number (c ∷ cs)) behind h = omega arith
takes_byte (symbol c) behind h = omega arith

cuts_count : (end : ℕ) (bytes rest : List ℕ) (ps : List Placed) → Cuts end bytes ps rest → length ps + length rest ≤ length bytes
cuts_count end bytes rest [] h = omega (arith, ap length h)
cuts_count end bytes rest (p ∷ ps) h =
    let k = cuts_count end h.0 rest ps h.2 in
    omega (arith, k, gap_shrinks false bytes, ap length h.1.spelled, length-append (bytes_of p.piece) h.0, takes_byte p.piece h.0 h.1.longest)

-- a text has no more pieces than bytes
pub few_pieces : (text : List ℕ) (ps : List Piece) → IsCut text ps → length ps ≤ TEXT_BYTES
few_pieces text ps h =
    let k = cuts_count (length text) text h.is_text.cut.rest (map (placed text) ps) h.is_text.cut.cuts in
    omega (arith, k, h.is_text.short, length-map {B = Placed} ps (placed text))
