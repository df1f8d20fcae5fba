-- The turns of a loop that reads items at which the text may break off.
use Rattle.std.proofs.Common.{◌≡◌, ℕ, Bool, true, false, List, [], ◌∷◌, ◌++◌, refl, sym, ap, ◌∙◌, append_assoc, append-nil}
use Rattle.std.specs.Prelude.{Option, Err}
use Rattle.hs_texts.specs.Pieces.{Piece as Spelling}
use Rattle.hs_texts.specs.Languages.{Language}
use Rattle.text_laws.specs.Parsers.{Read, done, stuck, Parser, next}
use Rattle.hs_texts.specs.Kept.{Kept, kept, broken}
use Rattle.plan_text.specs.PlanReading.{series}
use Rattle.plan_text.specs.Loops.{with_front}
use Rattle.plan_text.specs.Answers.{Gives, Keeps}
use Rattle.plan_text.specs.declared.stop.Stop.{Stop}
use Rattle.plan_text.specs.declared.stop.Stop.TheVariants.{Text, Pieces, Memory}
use Rattle.plan_text.proofs.SeriesLemmas.{AreKept, in_front, series_stop, series_halt, series_break, series_more}

front_put : {A : Type 0} (front : List A) (x : A) (rest : List Spelling) (out : Kept (List A)) → with_front front (in_front x (done out rest)) ≡ with_front (front ++ x ∷ []) (done out rest)
front_put front x rest (kept xs) = ap (λ ys. done (kept ys) rest) (sym (append_assoc front (x ∷ []) xs))
front_put front x rest (broken n) = refl

front_more : {A : Type 0} (front : List A) (x : A) (r : Read (Kept (List A))) → with_front front (in_front x r) ≡ with_front (front ++ x ∷ []) r
front_more front x (done out rest) = front_put front x rest out
front_more front x (stuck rest) = refl

-- before the first turn
pub front_none : {A : Type 0} (r : Read (Kept (List A))) → with_front [] r ≡ r
front_none (done (kept xs) rest) = refl
front_none (done (broken n) rest) = refl
front_none (stuck rest) = refl

-- a turn that reads an item
pub turn_more : {A S : Type 0} (test : Option Spelling → Bool) (w : List Spelling) (R : S → Language (Kept A)) (p : S → Parser (Kept A)) (step : S → A → S) (F : List Spelling) → AreKept test w R p F → (s : S) (front : List A) (ps rest : List Spelling) (x : A) (whole : Read (Kept (List A))) → test (next ps) ≡ true → p s ps ≡ done (kept x) rest → with_front front (series test p step s ps) ≡ whole → with_front (front ++ x ∷ []) (series test p step (step s x) rest) ≡ whole
turn_more test w R p step F a s front ps rest x whole h k e = sym (front_more front x (series test p step (step s x) rest)) ∙ ap (with_front front) (sym (series_more test w R p step F a s ps rest x h k)) ∙ e

-- the turn that finds no item
pub turn_stop : {A S : Type 0} (test : Option Spelling → Bool) (p : S → Parser (Kept A)) (step : S → A → S) (s : S) (front : List A) (ps : List Spelling) (whole : Read (Kept (List A))) → test (next ps) ≡ false → with_front front (series test p step s ps) ≡ whole → whole ≡ done (kept front) ps
turn_stop test p step s front ps whole h e = sym e ∙ ap (with_front front) (series_stop test p step s ps h) ∙ ap (λ ys. done (kept ys) ps) (append-nil front)

-- the turn that is stuck in an item
pub turn_fail : {A S : Type 0} (test : Option Spelling → Bool) (w : List Spelling) (R : S → Language (Kept A)) (p : S → Parser (Kept A)) (step : S → A → S) (F : List Spelling) → AreKept test w R p F → (s : S) (front : List A) (ps rest : List Spelling) (whole : Read (Kept (List A))) → test (next ps) ≡ true → p s ps ≡ stuck rest → with_front front (series test p step s ps) ≡ whole → whole ≡ stuck rest
turn_fail test w R p step F a s front ps rest whole h k e = sym e ∙ ap (with_front front) (series_halt test p step s ps rest a.none h k)

-- the turn at whose item the text breaks off
pub turn_break : {A S : Type 0} (test : Option Spelling → Bool) (w : List Spelling) (R : S → Language (Kept A)) (p : S → Parser (Kept A)) (step : S → A → S) (F : List Spelling) → AreKept test w R p F → (s : S) (front : List A) (ps rest : List Spelling) (n : ℕ) (whole : Read (Kept (List A))) → test (next ps) ≡ true → p s ps ≡ done (broken n) rest → with_front front (series test p step s ps) ≡ whole → whole ≡ done (broken n) rest
turn_break test w R p step F a s front ps rest n whole h k e = sym e ∙ ap (with_front front) (series_break test p step s ps rest n a.none h k)

-- errors that are handed on

pub gives_err : {X Y : Type 0} (e : Stop) (rest : List Spelling) (r : Read X) (q : Read Y) → (r ≡ stuck rest → q ≡ stuck rest) → Gives (Err e) rest r → Gives (Err e) rest q
gives_err Text rest r q f h = f h
gives_err (Pieces n) rest r q f h = h
gives_err Memory rest r q f h = tt

pub keeps_err : {X Y : Type 0} (e : Stop) (rest : List Spelling) (r : Read (Kept X)) (q : Read (Kept Y)) → (r ≡ stuck rest → q ≡ stuck rest) → ((n : ℕ) → r ≡ done (broken n) rest → q ≡ done (broken n) rest) → Keeps (Err e) rest r → Keeps (Err e) rest q
keeps_err Text rest r q f g h = f h
keeps_err (Pieces n) rest r q f g h = g n h
keeps_err Memory rest r q f g h = tt
