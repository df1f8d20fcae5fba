-- What a parser's answer says of the pieces, and that they have one answer.
use Rattle.std.proofs.Common.{◌≡◌, ℕ, zero, suc, ◌+◌, ◌<◌, ◌≤◌, List, [], ◌∷◌, ◌++◌, length, take, drop, refl, sym, ap, ◌∙◌, subst, append_assoc, append-nil, length-append, inl, inr, arith, length-take, length-drop}
use Rattle.std.proofs.lemmas.Bool.{cases_lt}
use Rattle.std.proofs.Math.Seq.{take-append_seam, take-append-add}
use Rattle.std.proofs.lemmas.List.{take-append-drop, take-take}
use Rattle.hs_texts.specs.Pieces.{Piece}
use Rattle.hs_texts.specs.Languages.{Language, BeginsSentence, IsExpected, IsTrailing}
use Rattle.text_laws.specs.Parsers.{done, stuck, Parser, next}
use Rattle.text_laws.specs.Reads.{IsStuck, Reads}
use Rattle.text_laws.proofs.ListLemmas.{avoids_none, not_both, same_value, same_rest}

pub all_taken : (ps : List Piece) (n : ℕ) → length ps ≤ n → take n ps ≡ ps
all_taken [] zero h = refl
all_taken [] (suc n) h = refl
all_taken (q ∷ ps) zero h = absurd (omega arith)
all_taken (q ∷ ps) (suc n) h = ap (λ (zs : List Piece). q ∷ zs) (all_taken ps n (omega arith))

-- the pieces before the rest
front_of : (ps front rest : List Piece) (n : ℕ) → ps ≡ front ++ rest → n + length rest ≡ length ps → take n ps ≡ front
front_of ps front rest n e h =
    let l : length front ≡ n = omega (arith, ap length e, length-append front rest) in
    ap (λ (m : ℕ). take m ps) (sym l) ∙ ap (λ (zs : List Piece). take (length front) zs) e ∙ take-append_seam front rest

-- a sentence is read whole
reads_whole : {A : Type 0} (R : Language A) (p : Parser A) → Reads R p [] → (ps : List Piece) (x : A) → R ps x → p ps ≡ done x []
reads_whole R p r ps x h = ap p (sym (append-nil ps)) ∙ r.complete ps [] x h tt

reads_front : {A : Type 0} (R : Language A) (p : Parser A) → Reads R p [] → (ps rest : List Piece) (x : A) → R ps x → p (ps ++ rest) ≡ done x rest
reads_front R p r ps rest x h = r.complete ps rest x h (avoids_none (next rest))

-- what was read stands in front
pub read_front_spells : {A : Type 0} (R : Language A) (p : Parser A) → Reads R p [] → (ps rest : List Piece) (x : A) (n : ℕ) → p ps ≡ done x rest → n + length rest ≡ length ps → R (take n ps) x
read_front_spells R p r ps rest x n h l =
    let m = r.sound ps rest x h in
    subst (λ (zs : List Piece). R zs x) (sym (front_of ps m.front rest n m.split l)) m.sentence

-- where nothing is left, all is spelled
pub read_whole_spells : {A : Type 0} (R : Language A) (p : Parser A) → Reads R p [] → (ps : List Piece) (x : A) → p ps ≡ done x [] → R ps x
read_whole_spells R p r ps x h =
    let m = r.sound ps [] x h in
    subst (λ (zs : List Piece). R zs x) (sym (m.split ∙ append-nil m.front)) m.sentence

-- where pieces are left, the first of them is too much
pub read_leaves_trailing : {A : Type 0} (R : Language A) (p : Parser A) → Reads R p [] → (ps rest : List Piece) (x : A) (n : ℕ) → p ps ≡ done x rest → 0 < length rest → n + length rest ≡ length ps → IsTrailing R ps n
read_leaves_trailing R p r ps rest x n h some l = record { within = omega (arith, some, l); value = x; sentence = read_front_spells R p r ps rest x n h l }

no_piece_left : {A : Type 0} (R : Language A) (ps rest : List Piece) (n : ℕ) → (k : IsStuck R ps rest) → n + length rest ≡ length ps → n < length ps → BeginsSentence R (take (n + 1) ps) → ⊥
no_piece_left R ps [] n k l lt b = absurd (omega (arith, l, lt))
no_piece_left R ps (q ∷ others) n k l lt b =
    let f : length k.front ≡ n = omega (arith, ap length k.split, length-append k.front (q ∷ others)) in
    let e : take (n + 1) ps ≡ k.front ++ q ∷ [] = ap (λ (zs : List Piece). take (n + 1) zs) k.split ∙ ap (λ (m : ℕ). take (m + 1) (k.front ++ q ∷ others)) (sym f) ∙ take-append-add k.front (q ∷ others) 1 in
    k.none q others b.more b.value refl (subst (λ (zs : List Piece). R zs b.value) (ap (λ (zs : List Piece). zs ++ b.more) e ∙ append_assoc k.front (q ∷ []) b.more) b.sentence)

-- where reading is stuck, no sentence goes on
pub stuck_is_expected : {A : Type 0} (R : Language A) (p : Parser A) → Reads R p [] → (ps rest : List Piece) (n : ℕ) → p ps ≡ stuck rest → n + length rest ≡ length ps → IsExpected R ps n
stuck_is_expected R p r ps rest n h l =
    let k = r.halts ps rest h in
    let e = front_of ps k.front rest n k.split l in record {
      within = omega (arith, l);
      before = subst (λ (zs : List Piece). BeginsSentence R zs) (sym e) k.begins;
      after = no_piece_left R ps rest n k l;
      none = λ x s. not_both h (ap p k.split ∙ reads_front R p r k.front rest x (subst (λ (zs : List Piece). R zs x) e s));
    }

-- Of two answers at most one is right.

-- fewer pieces begin what more of them do
fewer_begin : {A : Type 0} (R : Language A) (ps : List Piece) (m n : ℕ) → m ≤ n → BeginsSentence R (take n ps) → BeginsSentence R (take m ps)
fewer_begin R ps m n h b =
    let e : take n ps ≡ take m ps ++ drop m (take n ps) = sym (take-append-drop m (take n ps)) ∙ ap (λ (zs : List Piece). zs ++ drop m (take n ps)) (take-take m n ps h) in record {
      more = drop m (take n ps) ++ b.more;
      value = b.value;
      sentence = subst (λ (zs : List Piece). R zs b.value) (ap (λ (zs : List Piece). zs ++ b.more) e ∙ append_assoc (take m ps) (drop m (take n ps)) b.more) b.sentence;
    }

sentence_begins : {A : Type 0} (R : Language A) (ps : List Piece) (n : ℕ) (x : A) → R (take n ps) x → BeginsSentence R (take n ps)
sentence_begins R ps n x h = record { more = []; value = x; sentence = subst (λ (zs : List Piece). R zs x) (sym (append-nil (take n ps))) h }

-- pieces that are a sentence have no piece that is expected
pub spelled_or_expected : {A : Type 0} (R : Language A) (ps : List Piece) (n : ℕ) (x : A) → R ps x → IsExpected R ps n → ⊥
spelled_or_expected R ps n x h e =
    elim (cases_lt n (length ps)) [
      | inl lt ↦
          let whole : R (take (length ps) ps) x = subst (λ (zs : List Piece). R zs x) (sym (all_taken ps (length ps) (omega arith))) h in
          e.after lt (fewer_begin R ps (n + 1) (length ps) (omega (arith, lt)) (sentence_begins R ps (length ps) x whole))
      | inr ge ↦ e.none x (subst (λ (zs : List Piece). R zs x) (sym (all_taken ps n ge)) h)
    ]

-- nor one that is too much
pub spelled_or_trailing : {A : Type 0} (R : Language A) (p : Parser A) → Reads R p [] → (ps : List Piece) (n : ℕ) (x : A) → R ps x → IsTrailing R ps n → ⊥
spelled_or_trailing R p r ps n x h t =
    let a = reads_whole R p r ps x h in
    let b = ap p (sym (take-append-drop n ps)) ∙ reads_front R p r (take n ps) (drop n ps) t.value t.sentence in
    let none : drop n ps ≡ [] = sym (same_rest (sym a ∙ b)) in
    absurd (omega (arith, ap length none, length-drop n ps, t.within))

-- the piece that is expected is one
pub expected_one : {A : Type 0} (R : Language A) (ps : List Piece) (m n : ℕ) → IsExpected R ps m → IsExpected R ps n → m ≡ n
expected_one R ps m n h k =
    elim (cases_lt m n) [
      | inl lt ↦ absurd (h.after (omega (arith, lt, k.within)) (fewer_begin R ps (m + 1) n (omega (arith, lt)) k.before))
      | inr ge ↦ elim (cases_lt n m) [
        | inl lt ↦ absurd (k.after (omega (arith, lt, h.within)) (fewer_begin R ps (n + 1) m (omega (arith, lt)) h.before))
        | inr le ↦ omega (arith, ge, le)
      ]
    ]

-- a piece is expected, or one is too much
pub expected_or_trailing : {A : Type 0} (R : Language A) (p : Parser A) → Reads R p [] → (ps : List Piece) (m n : ℕ) → IsExpected R ps m → IsTrailing R ps n → ⊥
expected_or_trailing R p r ps m n h t =
    elim (cases_lt m n) [
      | inl lt ↦ h.after (omega (arith, lt, t.within)) (fewer_begin R ps (m + 1) n (omega (arith, lt)) (sentence_begins R ps n t.value t.sentence))
      | inr ge ↦ elim (cases_lt n m) [
        | inl lt ↦
            let b = h.before in
            let a = reads_whole R p r (take m ps ++ b.more) b.value b.sentence in
            let e : take m ps ≡ take n ps ++ drop n (take m ps) = sym (take-append-drop n (take m ps)) ∙ ap (λ (zs : List Piece). zs ++ drop n (take m ps)) (take-take n m ps (omega (arith, lt))) in
            let c = ap p (ap (λ (zs : List Piece). zs ++ b.more) e ∙ append_assoc (take n ps) (drop n (take m ps)) b.more) ∙ reads_front R p r (take n ps) (drop n (take m ps) ++ b.more) t.value t.sentence in
            let none : drop n (take m ps) ++ b.more ≡ [] = sym (same_rest (sym a ∙ c)) in
            absurd (omega (arith, ap length none, length-append (drop n (take m ps)) b.more, length-drop n (take m ps), length-take m ps, h.within, lt))
        | inr le ↦ let same : m ≡ n = omega (arith, ge, le) in h.none t.value (subst (λ (k : ℕ). R (take k ps) t.value) (sym same) t.sentence)
      ]
    ]

-- the piece that is too much is one
pub trailing_one : {A : Type 0} (R : Language A) (p : Parser A) → Reads R p [] → (ps : List Piece) (m n : ℕ) → IsTrailing R ps m → IsTrailing R ps n → m ≡ n
trailing_one R p r ps m n h k =
    let a = ap p (sym (take-append-drop m ps)) ∙ reads_front R p r (take m ps) (drop m ps) h.value h.sentence in
    let b = ap p (sym (take-append-drop n ps)) ∙ reads_front R p r (take n ps) (drop n ps) k.value k.sentence in
    let e : drop m ps ≡ drop n ps = same_rest (sym a ∙ b) in
    omega (arith, ap length e, length-drop m ps, length-drop n ps, h.within, k.within)

-- pieces are one sentence at most
pub sentence_one : {A : Type 0} (R : Language A) (p : Parser A) → Reads R p [] → (ps : List Piece) (x y : A) → R ps x → R ps y → x ≡ y
sentence_one R p r ps x y h k = same_value (sym (reads_whole R p r ps x h) ∙ reads_whole R p r ps y k)

-- what is left is no more than there was
pub done_left : {A : Type 0} (R : Language A) (p : Parser A) → Reads R p [] → (ps rest : List Piece) (x : A) → p ps ≡ done x rest → length rest ≤ length ps
done_left R p r ps rest x h = let m = r.sound ps rest x h in omega (arith, ap length m.split, length-append m.front rest)

pub stuck_left : {A : Type 0} (R : Language A) (p : Parser A) → Reads R p [] → (ps rest : List Piece) → p ps ≡ stuck rest → length rest ≤ length ps
stuck_left R p r ps rest h = let m = r.halts ps rest h in omega (arith, ap length m.split, length-append m.front rest)
