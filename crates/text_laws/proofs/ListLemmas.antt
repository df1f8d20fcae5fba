-- Lists of pieces, what is next in them, and what a parser answers.
use Rattle.std.proofs.Common.{◌≡◌, ◌⊎◌, List, [], ◌∷◌, ◌++◌, Bool, true, false, cond, refl, sym, ap, ◌∙◌, inl, inr}
use Rattle.std.specs.Prelude.{Option, Some, None}
use Rattle.hs_texts.specs.Pieces.{Piece}
use Rattle.text_laws.specs.Parsers.{Read, done, stuck, Parser, next, go_on}
use Rattle.text_laws.specs.Reads.{Avoids}

-- one piece of two cuts of the same list stands in the one's front or in its back
pub split_at : (a b f m : List Piece) (c : Piece) → a ++ b ≡ f ++ c ∷ m → ((g : List Piece) × (f ≡ a ++ g) × (b ≡ g ++ c ∷ m)) ⊎ ((g : List Piece) × (a ≡ f ++ c ∷ g))
split_at [] b f m c h = inl (f, refl, h)
split_at (x ∷ a) b [] m c h = let e : x ≡ c = cc in inr (a, ap (λ (z : Piece). z ∷ a) e)
split_at (x ∷ a) b (y ∷ f) m c h =
    let e : x ≡ y = cc in
    let t : a ++ b ≡ f ++ c ∷ m = cc in
    elim (split_at a b f m c t) [
      | inl k ↦ inl (k.0, ap (λ (z : Piece). z ∷ f) (sym e) ∙ ap (λ (zs : List Piece). x ∷ zs) k.1, k.2)
      | inr k ↦ inr (k.0, ap (λ (z : Piece). z ∷ a) e ∙ ap (λ (zs : List Piece). y ∷ zs) k.1)
    ]

-- what is next behind the same pieces is the same
pub next_same : (u a b : List Piece) → next a ≡ next b → next (u ++ a) ≡ next (u ++ b)
next_same [] a b h = h
next_same (p ∷ u) a b h = refl

-- nothing is avoided
pub avoids_none : (p : Option Piece) → Avoids [] p
avoids_none None = tt
avoids_none (Some p) = tt

-- a choice by a test
pub chosen : {X : Type 0} (b : Bool) (x y z : X) → cond b x y ≡ z → (b ≡ true) × (x ≡ z) ⊎ (b ≡ false) × (y ≡ z)
chosen true x y z h = inl (refl, h)
chosen false x y z h = inr (refl, h)

-- going on was done: it was done before
pub went_on : {A B : Type 0} (r : Read A) (f : A → Parser B) (y : B) (rest : List Piece) → go_on r f ≡ done y rest → (x : A) × (mid : List Piece) × (r ≡ done x mid) × (f x mid ≡ done y rest)
went_on (done x mid) f y rest h = (x, mid, refl, h)
went_on (stuck mid) f y rest h = absurd cc

-- going on is stuck: before, or there
pub got_stuck : {A B : Type 0} (r : Read A) (f : A → Parser B) (rest : List Piece) → go_on r f ≡ stuck rest → (r ≡ stuck rest) ⊎ ((x : A) × (mid : List Piece) × (r ≡ done x mid) × (f x mid ≡ stuck rest))
got_stuck (done x mid) f rest h = inr (x, mid, refl, h)
got_stuck (stuck mid) f rest h = inl cc

-- two readings are one
pub same_value : {A : Type 0} {x y : A} {a b : List Piece} → done x a ≡ done y b → x ≡ y
same_value h = cc

pub same_rest : {A : Type 0} {x y : A} {a b : List Piece} → done x a ≡ done y b → a ≡ b
same_rest h = cc

pub stuck_rest : {A : Type 0} {r : Read A} {a b : List Piece} → r ≡ stuck a → r ≡ stuck b → a ≡ b
stuck_rest h k = cc

pub not_both : {A : Type 0} {r : Read A} {x : A} {a b : List Piece} → r ≡ stuck a → r ≡ done x b → ⊥
not_both h k = absurd cc
