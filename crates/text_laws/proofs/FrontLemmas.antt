-- What stands in front of a text is one written mission, or is refused.
use Rattle.std.proofs.Common.{◌≡◌, ℕ, List, length, take, drop, refl, sym, ap, ◌∙◌, subst, inl, inr, arith, length-drop}
use Rattle.std.proofs.lemmas.Bool.{cases_lt}
use Rattle.std.proofs.lemmas.List.{take-append-drop, length-map}
use Rattle.hs_texts.specs.declared.ast.Ast.{Ast}
use Rattle.hs_texts.specs.declared.refusal.Refusal.{Refusal}
use Rattle.hs_texts.specs.declared.refusal.Refusal.TheVariants.{NotUtf8, Char, Expected, Number, Trailing, Twice, Unknown, Range, Limit, NoBegin, Horizons, SameVar, SameBy, Memory}
use Rattle.hs_texts.specs.Pieces.{Piece, Placed, pieces_of, place_in}
use Rattle.hs_texts.specs.MissionText.{MissionText}
use Rattle.hs_texts.specs.MissionSpelling.{SpellsFront, IsTrailingIn, IsFrontRefusal, IsReadRefusal, Spells}
use Rattle.text_laws.specs.Parsers.{done, next}
use Rattle.text_laws.specs.MissionReading.{mission_at}
use Rattle.text_laws.proofs.ListLemmas.{avoids_none, same_value, same_rest}
use Rattle.text_laws.proofs.MissionLemmas.{mission_reads}
use Rattle.text_laws.proofs.PieceLemmas.{cut_one}
use Rattle.text_laws.proofs.AnswerLemmas.{all_taken}
use Rattle.text_laws.proofs.RefusalLemmas.{read_refusal_one, spelled_or_refused}

read_in_front : (ps : List Piece) (a : Ast) (n : ℕ) → MissionText (take n ps) a → mission_at ps ≡ done a (drop n ps)
read_in_front ps a n h = ap mission_at (sym (take-append-drop n ps)) ∙ mission_reads.complete (take n ps) (drop n ps) a h (avoids_none (next (drop n ps)))

-- one Ast stands in front, and takes so many pieces
pub front_one : (bytes : List ℕ) (a b : Ast) (n k : ℕ) → SpellsFront bytes a n → SpellsFront bytes b k → (a ≡ b) × (n ≡ k)
front_one bytes a b n k s t =
    let e = cut_one bytes s.pieces t.pieces s.text.cut t.text.cut in
    let ps = pieces_of t.pieces in
    let left : mission_at ps ≡ done a (drop n ps) = read_in_front ps a n (subst (λ (qs : List Placed). MissionText (take n (pieces_of qs)) a) e s.sentence) in
    let right : mission_at ps ≡ done b (drop k ps) = read_in_front ps b k t.sentence in
    let rest : drop n ps ≡ drop k ps = same_rest (sym left ∙ right) in
    let size : length ps ≡ length t.pieces = length-map {B = Piece} t.pieces (λ (p : Placed). p.piece) in
    (same_value (sym left ∙ right), omega (arith, ap length rest, length-drop n ps, length-drop k ps, s.within, t.within, ap length e, size))

-- a front's refusal is one of the whole text
as_read : (bytes : List ℕ) (r : Refusal) → IsFrontRefusal bytes r → IsReadRefusal bytes r
as_read bytes (NotUtf8 at) h = h
as_read bytes (Char at) h = h
as_read bytes (Expected at) h = h
as_read bytes (Number at) h = h
as_read bytes (Trailing at) h = absurd h
as_read bytes (Twice name) h = h
as_read bytes (Unknown name) h = h
as_read bytes (Range item) h = h
as_read bytes (Limit which) h = h
as_read bytes (NoBegin name) h = h
as_read bytes (Horizons item) h = h
as_read bytes (SameVar item) h = h
as_read bytes (SameBy item) h = h
as_read bytes Memory h = h

-- what stands in front isn't refused
pub front_or_refused : (bytes : List ℕ) (a : Ast) (n : ℕ) (r : Refusal) → SpellsFront bytes a n → IsFrontRefusal bytes r → ⊥
front_or_refused bytes a n r s h =
    let ps = pieces_of s.pieces in
    elim (cases_lt n (length ps)) [
      | inl less ↦
          let at = place_in (length bytes) s.pieces n in
          let behind : IsTrailingIn bytes at = record { pieces = s.pieces; text = s.text; trailing = record { index = n; trailing = record { within = less; value = a; sentence = s.sentence }; place = refl } } in
          subst (λ (q : Refusal). IsFrontRefusal bytes q) (read_refusal_one bytes r (Trailing at) (as_read bytes r h) behind) h
      | inr more ↦
          let whole : Spells bytes a = record { pieces = s.pieces; text = s.text; sentence = subst (λ (qs : List Piece). MissionText qs a) (all_taken ps n more) s.sentence } in
          spelled_or_refused bytes a r whole (as_read bytes r h)
    ]
