-- On how many extensions two plans agree.
use Rattle.std.proofs.Common.{◌≡◌, ◌≢◌, ℕ, zero, suc, ◌+◌, ◌-◌, ◌<◌, ◌≤◌, List, [], ◌∷◌, ◌++◌, length, take, get_or, refl, ap, ◌∙◌, arith, length-append}
use Rattle.std.proofs.Math.Seq.{take-append_seam}
use Rattle.hs_base.specs.declared.plan.Extension.{Extension}
use Rattle.hs_machine.specs.Machine.{AgreeOn, base_of}

-- up to the first that differ
pub agree_at : (xs ys : List Extension) (i : ℕ) (d : Extension) → take i xs ≡ take i ys → i < length xs → i < length ys → get_or xs i d ≢ get_or ys i d → AgreeOn xs ys i
agree_at [] ys i d same below under apart = absurd (omega (arith, below))
agree_at (x ∷ xs) [] i d same below under apart = absurd (omega (arith, under))
agree_at (x ∷ xs) (y ∷ ys) zero d same below under apart = apart
agree_at (x ∷ xs) (y ∷ ys) (suc i) d same below under apart =
    let heads : x ≡ y = cc in
    let rests : take i xs ≡ take i ys = cc in
    (heads, agree_at xs ys i d rests (omega (arith, below)) (omega (arith, under)) apart)

-- up to the end of one of them
pub agree_left : (xs ys : List Extension) → take (length xs) xs ≡ take (length xs) ys → length xs ≤ length ys → AgreeOn xs ys (length xs)
agree_left [] ys same less = refl
agree_left (x ∷ xs) [] same less = absurd (omega (arith, less))
agree_left (x ∷ xs) (y ∷ ys) same less =
    let heads : x ≡ y = cc in
    let rests : take (length xs) xs ≡ take (length xs) ys = cc in
    (heads, agree_left xs ys rests (omega (arith, less)))

pub agree_right : (xs ys : List Extension) → take (length ys) xs ≡ take (length ys) ys → length ys ≤ length xs → AgreeOn xs ys (length ys)
agree_right [] [] same less = refl
agree_right [] (y ∷ ys) same less = absurd (omega (arith, less))
agree_right (x ∷ xs) [] same less = refl
agree_right (x ∷ xs) (y ∷ ys) same less =
    let heads : x ≡ y = cc in
    let rests : take (length ys) xs ≡ take (length ys) ys = cc in
    (heads, agree_right xs ys rests (omega (arith, less)))

-- two plans that agree on all of both are one
pub agree_whole : (xs ys : List Extension) (n : ℕ) → AgreeOn xs ys n → n ≡ length xs → n ≡ length ys → xs ≡ ys
agree_whole [] [] n h a b = refl
agree_whole [] (y ∷ ys) n h a b = absurd (omega (arith, a, b))
agree_whole (x ∷ xs) [] n h a b = absurd (omega (arith, a, b))
agree_whole (x ∷ xs) (y ∷ ys) zero h a b = absurd (omega (arith, a))
agree_whole (x ∷ xs) (y ∷ ys) (suc n) h a b =
    let rests = agree_whole xs ys n h.1 (omega (arith, a)) (omega (arith, b)) in
    let heads : x ≡ y = h.0 in
    cc

-- a plan agrees with itself on all
pub agree_self : (xs : List Extension) (n : ℕ) → AgreeOn xs xs n → n ≡ length xs
agree_self [] n h = h
agree_self (x ∷ xs) zero h = absurd (h refl)
agree_self (x ∷ xs) (suc n) h = let r = agree_self xs n h.1 in omega (arith, r)

-- and with none on none
pub agree_none : (xs : List Extension) → AgreeOn xs [] 0
agree_none [] = refl
agree_none (x ∷ xs) = refl

-- what stands before a plan's last extension
pub base_is : (base : List Extension) (e : Extension) → base_of (base ++ e ∷ []) ≡ base
base_is base e = ap (λ n. take n (base ++ e ∷ [])) (omega (arith, length-append base (e ∷ []))) ∙ take-append_seam base (e ∷ [])

pub agree_at_most : (xs ys : List Extension) (n : ℕ) → AgreeOn xs ys n → n ≤ length xs
agree_at_most [] ys n h = omega (arith, h)
agree_at_most (x ∷ xs) [] n h = omega (arith, h)
agree_at_most (x ∷ xs) (y ∷ ys) zero h = omega arith
agree_at_most (x ∷ xs) (y ∷ ys) (suc n) h = omega (arith, agree_at_most xs ys n h.1)

pub empty_of : {X : Type 0} (xs : List X) → length xs ≡ 0 → xs ≡ []
empty_of [] is = refl
empty_of (x ∷ xs) is = absurd (omega (arith, is))
