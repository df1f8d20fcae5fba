-- From what was read of the pieces to what the text spells.
use Rattle.std.proofs.Common.{◌≡◌, ℕ, zero, suc, drop, ◌+◌, ◌-◌, ◌<◌, ◌≤◌, List, [], ◌∷◌, length, map, refl, sym, ap, ◌∙◌, subst, inl, inr, length-append, length-drop, arith}
use Rattle.std.proofs.lemmas.List.{length-map}
use Rattle.hs_texts.specs.Pieces.{Piece as Spelling, Placed, pieces_of, place_in}
use Rattle.hs_texts.specs.Languages.{Language}
use Rattle.text_laws.specs.Parsers.{done, stuck, Parser}
use Rattle.text_laws.specs.Reads.{Reads}
use Rattle.text_laws.proofs.AnswerLemmas.{read_front_spells, read_whole_spells, stuck_is_expected, done_left, stuck_left}
use Rattle.ddl_read.specs.declared.piece.Piece.{Piece}
use Rattle.ddl_read.specs.Spelled.{placed, spelling, spellings, bytes_of_piece}
use Rattle.ddl_read.specs.Cutting.{IsCut}
use Rattle.hs_texts.specs.Kept.{Kept, kept, broken, IsRefused, IsBehind}
use Rattle.hs_texts.specs.KeptTexts.{IsKeptText, IsRefusedIn, IsBehindIn}
use Rattle.plan_text.proofs.SizeLemmas.{Sized}

same_pieces : (text : List ℕ) (i : ℕ) (ps : List Piece) → pieces_of (drop i (map (placed text) ps)) ≡ spellings text (drop i ps)
same_pieces text zero [] = refl
same_pieces text zero (p ∷ ps) = ap (λ (zs : List Spelling). spelling p.kind (bytes_of_piece text p) ∷ zs) (same_pieces text zero ps)
same_pieces text (suc i) [] = refl
same_pieces text (suc i) (p ∷ ps) = same_pieces text i ps

spelled_length : (text : List ℕ) (ps : List Piece) → length (spellings text ps) ≡ length ps
spelled_length text [] = refl
spelled_length text (p ∷ ps) = let h = spelled_length text ps in omega (arith, h)

-- the pieces that were read, and those that are left
record Shares (text : List ℕ) (i : ℕ) (ps : List Piece) (n left : ℕ) : Type 0 where
  pub shared : n + left ≡ length (spellings text (drop i ps))

placed_length : (text : List ℕ) (i : ℕ) (ps : List Piece) → length (drop i (map (placed text) ps)) ≡ length (spellings text (drop i ps))
placed_length text i ps = sym (length-map {B = Spelling} (drop i (map (placed text) ps)) (λ p. p.piece)) ∙ ap length (same_pieces text i ps)

-- so many pieces before the end
place_drop : (end i n left : ℕ) (ps : List Placed) → n + left ≡ length (drop i ps) → place_in end (drop i ps) n ≡ place_in end ps (length ps - left)
place_drop end zero n left ps h = let e : n ≡ length ps - left = omega (arith, h) in ap (place_in end ps) e
place_drop end (suc i) n left [] h = let e : n ≡ 0 - left = omega (arith, h) in ap (place_in end []) e
place_drop end (suc i) n left (p ∷ ps) h =
    let few : left ≤ length ps = omega (arith, h, length-drop i ps) in
    let e : suc (length ps) - left ≡ suc (length ps - left) = omega (arith, few) in
    place_drop end i n left ps h ∙ sym (ap (place_in end (p ∷ ps)) e)

place_left : (text : List ℕ) (i n left : ℕ) (ps : List Piece) → n + left ≡ length (spellings text (drop i ps)) → place_in (length text) (map (placed text) ps) (length ps - left) ≡ place_in (length text) (drop i (map (placed text) ps)) n
place_left text i n left ps h =
    ap (λ (k : ℕ). place_in (length text) (map (placed text) ps) (k - left)) (sym (length-map {B = Placed} ps (placed text)))
    ∙ sym (place_drop (length text) i n left (map (placed text) ps) (h ∙ sym (placed_length text i ps)))

-- no more pieces are left than there were
pub few_spelled : (text : List ℕ) (i : ℕ) (ps : List Piece) → length (spellings text (drop i ps)) ≤ length ps
few_spelled text i ps = omega (arith, spelled_length text (drop i ps), length-drop i ps)

-- Reading R by p.

pub left_of_read : {A : Type 0} (R : Language (Kept A)) (p : Parser (Kept A)) → Reads R p [] → (text : List ℕ) (i : ℕ) (ps : List Piece) (rest : List Spelling) (x : A) → p (spellings text (drop i ps)) ≡ done (kept x) rest → length rest ≤ length ps
left_of_read R p r text i ps rest x h = omega (arith, done_left R p r (spellings text (drop i ps)) rest (kept x) h, few_spelled text i ps)

pub left_of_stuck : {A : Type 0} (R : Language (Kept A)) (p : Parser (Kept A)) → Reads R p [] → (text : List ℕ) (i : ℕ) (ps : List Piece) (rest : List Spelling) → p (spellings text (drop i ps)) ≡ stuck rest → length rest ≤ length ps
left_of_stuck R p r text i ps rest h = omega (arith, stuck_left R p r (spellings text (drop i ps)) rest h, few_spelled text i ps)

-- the pieces that may not stand there were read
broken_size : {A : Type 0} (R : Language (Kept A)) (p : Parser (Kept A)) → Reads R p [] → Sized R → (qs rest : List Spelling) (size : ℕ) → p qs ≡ done (broken size) rest → size + length rest ≤ length qs
broken_size R p r z qs rest size h =
    let k = r.sound qs rest (broken size) h in
    let l = z.sized k.front size k.sentence in
    omega (arith, ap length k.split, length-append k.front rest, l)

pub left_of_broken : {A : Type 0} (R : Language (Kept A)) (p : Parser (Kept A)) → Reads R p [] → Sized R → (text : List ℕ) (i : ℕ) (ps : List Piece) (rest : List Spelling) (size : ℕ) → p (spellings text (drop i ps)) ≡ done (broken size) rest → length rest + size ≤ length ps
left_of_broken R p r z text i ps rest size h = omega (arith, broken_size R p r z (spellings text (drop i ps)) rest size h, few_spelled text i ps)

nothing_left : (rest : List Spelling) → length rest ≤ 0 → rest ≡ []
nothing_left [] h = refl
nothing_left (q ∷ rest) h = absurd (omega (arith, h))

-- all pieces were read
pub is_kept_text : {A : Type 0} (R : Language (Kept A)) (p : Parser (Kept A)) → Reads R p [] → (text : List ℕ) (i : ℕ) (ps : List Piece) (rest : List Spelling) (x : A) → IsCut text ps → p (spellings text (drop i ps)) ≡ done (kept x) rest → length rest ≤ 0 → IsKeptText R text i x
is_kept_text R p r text i ps rest x c h e =
    let whole = read_whole_spells R p r (spellings text (drop i ps)) (kept x) (h ∙ ap (λ (zs : List Spelling). done (kept x) zs) (nothing_left rest e)) in record {
      pieces = map (placed text) ps;
      is_text = c.is_text;
      sentence = subst (λ (zs : List Spelling). R zs (kept x)) (sym (same_pieces text i ps)) whole;
    }

-- some are left
pub is_trailing : {A : Type 0} (R : Language (Kept A)) (p : Parser (Kept A)) → Reads R p [] → (text : List ℕ) (i at : ℕ) (ps : List Piece) (rest : List Spelling) (x : A) → IsCut text ps → p (spellings text (drop i ps)) ≡ done (kept x) rest → 0 < length rest → at ≡ place_in (length text) (map (placed text) ps) (length ps - length rest) → IsBehindIn R text i at
is_trailing R p r text i at ps rest x c h some e =
    let qs = spellings text (drop i ps) in
    let few = done_left R p r qs rest (kept x) h in
    let n = length qs - length rest in
    let l : n + length rest ≡ length qs = omega (arith, few) in
    let front = read_front_spells R p r qs rest (kept x) n h l in record {
      pieces = map (placed text) ps;
      is_text = c.is_text;
      index = n;
      behind = subst (λ (zs : List Spelling). IsBehind R zs n) (sym (same_pieces text i ps)) (record { within = omega (arith, l, some); value = x; sentence = front });
      place = e ∙ place_left text i n (length rest) ps l;
    }

-- no sentence goes on
pub is_expected : {A : Type 0} (R : Language (Kept A)) (p : Parser (Kept A)) → Reads R p [] → (text : List ℕ) (i at : ℕ) (ps : List Piece) (rest : List Spelling) → IsCut text ps → p (spellings text (drop i ps)) ≡ stuck rest → at ≡ place_in (length text) (map (placed text) ps) (length ps - length rest) → IsRefusedIn R text i at
is_expected R p r text i at ps rest c h e =
    let qs = spellings text (drop i ps) in
    let few = stuck_left R p r qs rest h in
    let n = length qs - length rest in
    let l : n + length rest ≡ length qs = omega (arith, few) in
    let x = stuck_is_expected R p r qs rest n h l in record {
      pieces = map (placed text) ps;
      is_text = c.is_text;
      index = n;
      refused = subst (λ (zs : List Spelling). IsRefused R zs n) (sym (same_pieces text i ps)) (inl x);
      place = e ∙ place_left text i n (length rest) ps l;
    }

-- the text breaks off
pub is_broken : {A : Type 0} (R : Language (Kept A)) (p : Parser (Kept A)) → Reads R p [] → Sized R → (text : List ℕ) (i at size : ℕ) (ps : List Piece) (rest : List Spelling) → IsCut text ps → p (spellings text (drop i ps)) ≡ done (broken size) rest → at ≡ place_in (length text) (map (placed text) ps) (length ps - (length rest + size)) → IsRefusedIn R text i at
is_broken R p r z text i at size ps rest c h e =
    let qs = spellings text (drop i ps) in
    let few = broken_size R p r z qs rest size h in
    let n = length qs - (length rest + size) in
    let l : (n + size) + length rest ≡ length qs = omega (arith, few) in
    let l' : n + (length rest + size) ≡ length qs = omega (arith, few) in
    let front = read_front_spells R p r qs rest (broken size) (n + size) h l in record {
      pieces = map (placed text) ps;
      is_text = c.is_text;
      index = n;
      refused = subst (λ (zs : List Spelling). IsRefused R zs n) (sym (same_pieces text i ps)) (inr (record { size = size; within = omega (arith, l); sentence = front }));
      place = e ∙ place_left text i n (length rest + size) ps l';
    }
