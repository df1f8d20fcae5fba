-- From what was read of the pieces to what the bytes spell.
use Rattle.std.proofs.Common.{◌≡◌, ℕ, zero, suc, drop, ◌+◌, ◌<◌, ◌≤◌, false, List, [], ◌∷◌, length, map, take, refl, sym, ap, ◌∙◌, subst, arith}
use Rattle.std.specs.Prelude.{pos, cond}
use Rattle.std.specs.List.{AllByRecursion, list_any}
use Rattle.std.proofs.lemmas.List.{length-map}
use Rattle.hs_texts.specs.declared.ast.Ast.{Ast}
use Rattle.hs_texts.specs.Pieces.{Piece as Spelling, Placed, number_of, is_large, pieces_of, place_in}
use Rattle.hs_texts.specs.Languages.{IsExpected}
use Rattle.hs_texts.specs.MissionText.{MissionText}
use Rattle.hs_texts.specs.MissionSpelling.{Spells, SpellsFront, IsExpectedIn, IsTrailingIn}
use Rattle.text_laws.specs.Parsers.{done, stuck}
use Rattle.text_laws.specs.MissionReading.{mission_at}
use Rattle.text_laws.proofs.PieceLemmas.{cut_one}
use Rattle.text_laws.proofs.MissionLemmas.{mission_reads}
use Rattle.text_laws.proofs.AnswerLemmas.{all_taken, read_front_spells, stuck_is_expected, done_left, stuck_left}
use Rattle.ddl_read.specs.declared.piece.Piece.{Piece}
use Rattle.ddl_read.specs.declared.piece.PieceKind.{PieceKind}
use Rattle.ddl_read.specs.declared.piece.PieceKind.TheVariants.{Word, Number, Symbol}
use Rattle.ddl_read.specs.Spelled.{placed, spelling, spellings, bytes_of_piece, KeepsNumber, IsSmallNumber, IsSpelled, AreSpelled}
use Rattle.ddl_read.specs.Cutting.{IsCut}

small_kind : (k : PieceKind) (bytes : List ℕ) → is_large (spelling k bytes) ≡ false → KeepsNumber k bytes → IsSmallNumber k bytes
small_kind Word bytes e h = tt
small_kind (Number n) bytes e h = h ∙ ap (λ b. cond b (pos 1000000001) (pos (number_of bytes))) e
small_kind (Symbol c) bytes e h = tt

small_each : (text : List ℕ) (ps : List Piece) → AllByRecursion (IsSpelled text) ps → list_any (λ p. is_large p.piece) (map (placed text) ps) ≡ false → AreSpelled text ps
small_each text [] h e = tt
small_each text (p ∷ ps) h e = (((h.0).within, small_kind p.kind (bytes_of_piece text p) (grind arith) (h.0).kept), small_each text ps h.1 (grind arith))

-- the pieces of a text are spelled as they are kept
pub are_spelled : (text : List ℕ) (ps : List Piece) → IsCut text ps → AreSpelled text ps
are_spelled text ps h = small_each text ps h.spelled h.is_text.small

-- and so are those from a number on
pub spelled_drop : (text : List ℕ) (i : ℕ) (ps : List Piece) → AreSpelled text ps → AreSpelled text (drop i ps)
spelled_drop text zero ps h = h
spelled_drop text (suc i) [] h = h
spelled_drop text (suc i) (p ∷ ps) h = spelled_drop text i ps h.1

same_pieces : (text : List ℕ) (ps : List Piece) → pieces_of (map (placed text) ps) ≡ spellings text ps
same_pieces text [] = refl
same_pieces text (p ∷ ps) = ap (λ (zs : List Spelling). spelling p.kind (bytes_of_piece text p) ∷ zs) (same_pieces text ps)

count_same : (text : List ℕ) (ps : List Piece) → length (spellings text ps) ≡ length ps
count_same text [] = refl
count_same text (p ∷ ps) = let h = count_same text ps in omega (arith, h)

-- no more pieces are left than there were
pub left_of_read : (text : List ℕ) (ps : List Piece) (rest : List Spelling) (a : Ast) → mission_at (spellings text ps) ≡ done a rest → length rest ≤ length ps
left_of_read text ps rest a h = omega (arith, done_left MissionText mission_at mission_reads (spellings text ps) rest a h, count_same text ps)

pub left_of_stuck : (text : List ℕ) (ps : List Piece) (rest : List Spelling) → mission_at (spellings text ps) ≡ stuck rest → length rest ≤ length ps
left_of_stuck text ps rest h = omega (arith, stuck_left MissionText mission_at mission_reads (spellings text ps) rest h, count_same text ps)

-- what was read is spelled at the front
pub spells_front : (text : List ℕ) (ps : List Piece) (rest : List Spelling) (a : Ast) (n : ℕ) → IsCut text ps → mission_at (spellings text ps) ≡ done a rest → n + length rest ≡ length ps → SpellsFront text a n
spells_front text ps rest a n h e l =
    let s = read_front_spells MissionText mission_at mission_reads (spellings text ps) rest a n e (l ∙ sym (count_same text ps)) in record {
      pieces = map (placed text) ps;
      text = h.is_text;
      within = omega (arith, l, length-map {B = Placed} ps (placed text));
      sentence = subst (λ (zs : List Spelling). MissionText (take n zs) a) (sym (same_pieces text ps)) s;
    }

-- where reading is stuck, the next piece is expected
pub expected_in : (text : List ℕ) (ps : List Piece) (rest : List Spelling) (n at : ℕ) → IsCut text ps → mission_at (spellings text ps) ≡ stuck rest → n + length rest ≡ length ps → at ≡ place_in (length text) (map (placed text) ps) n → IsExpectedIn text at
expected_in text ps rest n at h e l p = record {
  pieces = map (placed text) ps;
  text = h.is_text;
  expected = record {
    index = n;
    expected = subst (λ (zs : List Spelling). IsExpected MissionText zs n) (sym (same_pieces text ps)) (stuck_is_expected MissionText mission_at mission_reads (spellings text ps) rest n e (l ∙ sym (count_same text ps)));
    place = p;
  };
}

-- a mission of all pieces is the text's
pub spells_whole : (text : List ℕ) (ps : List Piece) (a : Ast) (n : ℕ) → IsCut text ps → SpellsFront text a n → length ps ≤ n → Spells text a
spells_whole text ps a n h s le =
    let e = cut_one text s.pieces (map (placed text) ps) s.text.cut h.is_text.cut in
    let size : length (pieces_of s.pieces) ≤ n = omega (arith, ap (λ (zs : List Placed). length (pieces_of zs)) e, ap length (same_pieces text ps), count_same text ps, le) in record {
      pieces = s.pieces;
      text = s.text;
      sentence = subst (λ (zs : List Spelling). MissionText zs a) (all_taken (pieces_of s.pieces) n size) s.sentence;
    }

-- a mission of fewer pieces has one behind it
pub trailing_in : (text : List ℕ) (ps : List Piece) (a : Ast) (n at : ℕ) → IsCut text ps → SpellsFront text a n → n < length ps → at ≡ place_in (length text) (map (placed text) ps) n → IsTrailingIn text at
trailing_in text ps a n at h s lt p =
    let e = cut_one text s.pieces (map (placed text) ps) s.text.cut h.is_text.cut in record {
      pieces = map (placed text) ps;
      text = h.is_text;
      trailing = record {
        index = n;
        trailing = record {
          within = omega (arith, ap length (same_pieces text ps), count_same text ps, lt);
          value = a;
          sentence = subst (λ (qs : List Placed). MissionText (take n (pieces_of qs)) a) e s.sentence;
        };
        place = p;
      };
    }

-- the pieces that a reader begins with are those that were cut
pub begins_with : (text bytes : List ℕ) (ps qs : List Piece) (r : List Spelling) → r ≡ spellings bytes qs → bytes ≡ text → qs ≡ ps → spellings text ps ≡ r
begins_with text bytes ps qs r e b p = sym (e ∙ ap (λ (zs : List ℕ). spellings zs qs) b ∙ ap (λ (zs : List Piece). spellings text zs) p)
