-- The laws of reading one piece, nothing, and one after the other.
use Rattle.std.proofs.Common.{◌≡◌, List, [], ◌∷◌, ◌++◌, refl, sym, ap, subst}
use Rattle.std.specs.Prelude.{Option, Some, None}
use Rattle.hs_texts.specs.Pieces.{Piece}
use Rattle.hs_texts.specs.Languages.{One, Yields}
use Rattle.text_laws.specs.Parsers.{done, stuck, yields, one, said}
use Rattle.text_laws.specs.Reads.{HasRead, IsStuck, Lives, Reads}
use Rattle.text_laws.proofs.ListLemmas.{same_value, same_rest, not_both}

said_done : {A : Type 0} (o : Option A) (p : Piece) (ps rest : List Piece) (x : A) → said o p ps ≡ done x rest → (o ≡ Some x) × (ps ≡ rest)
said_done None p ps rest x h = absurd cc
said_done (Some y) p ps rest x h = (ap Some (same_value h), same_rest h)

said_stuck : {A : Type 0} (o : Option A) (p : Piece) (ps rest : List Piece) → said o p ps ≡ stuck rest → (o ≡ None) × (p ∷ ps ≡ rest)
said_stuck None p ps rest h = (refl, cc)
said_stuck (Some y) p ps rest h = absurd cc

one_sound : {A : Type 0} (says : Piece → Option A) (ps rest : List Piece) (x : A) → one says ps ≡ done x rest → HasRead (One says) (one says) ps x rest
one_sound says [] rest x h = absurd (not_both refl h)
one_sound says (p ∷ ps) rest x h =
    let k = said_done (says p) p ps rest x h in record {
      front = p ∷ [];
      sentence = (p, refl, k.0);
      split = ap (λ (zs : List Piece). p ∷ zs) k.1;
      local = λ other e. ap (λ o. said o p other) k.0;
    }

one_complete : {A : Type 0} (says : Piece → Option A) (u rest : List Piece) (x : A) → One says u x → one says (u ++ rest) ≡ done x rest
one_complete says u rest x h = rw h.1 (ap (λ o. said o h.0 rest) h.2)

one_none : {A : Type 0} (says : Piece → Option A) (p : Piece) (ps more : List Piece) (x : A) → says p ≡ None → One says (p ∷ more) x → ⊥
one_none says p ps more x n h = let e : p ≡ h.0 = cc (h.1) in let k : says h.0 ≡ None = subst (λ (q : Piece). says q ≡ None) e n in cc (k, h.2)

one_stuck : {A : Type 0} (says : Piece → Option A) → Lives (One says) → (ps rest : List Piece) → one says ps ≡ stuck rest → IsStuck (One says) ps rest
one_stuck says l [] rest h = let e : [] ≡ rest = cc in record {
  front = [];
  split = e;
  begins = record { more = l.pieces; value = l.value; sentence = l.sentence };
  none = λ p others more x k s. absurd (cc (e, k));
}
one_stuck says l (p ∷ ps) rest h = let k = said_stuck (says p) p ps rest h in record {
  front = [];
  split = k.1;
  begins = record { more = l.pieces; value = l.value; sentence = l.sentence };
  none = λ q others more x e s. let same : p ≡ q = cc (k.1, e) in one_none says p ps more x k.0 (subst (λ (z : Piece). One says (z ∷ more) x) (sym same) s);
}

-- one piece is read as what it says
pub one_reads : {A : Type 0} (says : Piece → Option A) → Lives (One says) → Reads (One says) (one says) []
one_reads says l = record {
  sound = one_sound says;
  complete = λ u rest x h a. one_complete says u rest x h;
  halts = one_stuck says l;
  lives = l;
}

-- nothing is read as nothing
pub yields_reads : {A : Type 0} (value : A) → Reads (Yields value) (yields value) []
yields_reads value = record {
  sound = λ ps rest x h. record {
    front = [];
    sentence = (refl, sym (same_value h));
    split = same_rest h;
    local = λ other e. ap (λ y. done y other) (same_value h);
  };
  complete = λ u rest x h a. rw (h.0, h.1) refl;
  halts = λ ps rest h. absurd (not_both h refl);
  lives = record { pieces = []; value = value; sentence = (refl, refl) };
}
