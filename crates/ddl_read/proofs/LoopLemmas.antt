-- The turns of a loop that reads items.
use Rattle.std.proofs.Common.{◌≡◌, Bool, true, false, List, [], ◌∷◌, ◌++◌, refl, sym, ap, ◌∙◌, append_assoc, append-nil}
use Rattle.std.specs.Prelude.{Option, Err}
use Rattle.hs_texts.specs.Pieces.{Piece as Spelling}
use Rattle.hs_texts.specs.Languages.{Language}
use Rattle.text_laws.specs.Parsers.{Read, done, stuck, Parser, next, many}
use Rattle.text_laws.proofs.ManyLemmas.{AreItems, in_front, many_stop, many_halt, many_more}
use Rattle.ddl_read.specs.Loops.{with_front}
use Rattle.ddl_read.specs.Answers.{Gives}
use Rattle.ddl_read.specs.declared.unread.Unread.{Unread}
use Rattle.ddl_read.specs.declared.unread.Unread.TheVariants.{Text, Memory}

front_more : {A : Type 0} (front : List A) (x : A) (r : Read (List A)) → with_front front (in_front x r) ≡ with_front (front ++ x ∷ []) r
front_more front x (done xs rest) = ap (λ ys. done ys rest) (sym (append_assoc front (x ∷ []) xs))
front_more front x (stuck rest) = refl

-- a turn that reads an item
pub turn_more : {A : Type 0} (test : Option Spelling → Bool) (s : Spelling) (R : Language A) (p : Parser A) (F : List Spelling) → AreItems test s R p F → (front : List A) (ps rest : List Spelling) (x : A) (whole : Read (List A)) → test (next ps) ≡ true → p ps ≡ done x rest → with_front front (many test p ps) ≡ whole → with_front (front ++ x ∷ []) (many test p rest) ≡ whole
turn_more test s R p F a front ps rest x whole h k e = sym (front_more front x (many test p rest)) ∙ ap (with_front front) (sym (many_more test s R p F a ps rest x h k)) ∙ e

-- the turn that finds no item
pub turn_stop : {A : Type 0} (test : Option Spelling → Bool) (p : Parser A) (front : List A) (ps : List Spelling) (whole : Read (List A)) → test (next ps) ≡ false → with_front front (many test p ps) ≡ whole → whole ≡ done front ps
turn_stop test p front ps whole h e = sym e ∙ ap (with_front front) (many_stop test p ps h) ∙ ap (λ ys. done ys ps) (append-nil front)

-- the turn that is stuck in an item
pub turn_fail : {A : Type 0} (test : Option Spelling → Bool) (s : Spelling) (R : Language A) (p : Parser A) (F : List Spelling) → AreItems test s R p F → (front : List A) (ps rest : List Spelling) (whole : Read (List A)) → test (next ps) ≡ true → p ps ≡ stuck rest → with_front front (many test p ps) ≡ whole → whole ≡ stuck rest
turn_fail test s R p F a front ps rest whole h k e = sym e ∙ ap (with_front front) (many_halt test p ps rest a.finds.none h k)

-- an error that is handed on
pub gives_err : {X Y : Type 0} (e : Unread) (rest : List Spelling) (r : Read X) (q : Read Y) → (r ≡ stuck rest → q ≡ stuck rest) → Gives (Err e) rest r → Gives (Err e) rest q
gives_err Text rest r q f h = f h
gives_err Memory rest r q f h = tt
