-- Horizons that come one after the other.
use Rattle.std.proofs.Common.{◌≡◌, suc, ◌-◌, false, List, [], ◌∷◌, ◌++◌, length, Some, refl, sym, ap, ◌∙◌, arith}
use Rattle.std.proofs.lemmas.Int.{ints}
use Rattle.std.specs.Prelude.{◌≤ℤ◌, ◌<ℤ◌, ℤ, int_le, slice_get}
use Rattle.std.specs.List.{AllByRecursion}
use Rattle.hs_texts.specs.declared.ast.AstHorizon.{AstHorizon}
use Rattle.hs_base.specs.Walks.{EachAfter, IsInOrder}
use Rattle.hs_texts.specs.MissionRefusals.{is_early}
use Rattle.base_laws.proofs.ListLemmas.{each_both, each_weaker}

-- the last of those before it
last_of : (b : List AstHorizon) (l : AstHorizon) → slice_get (b ++ l ∷ []) (length (b ++ l ∷ []) - 1) ≡ Some l
last_of b l = ap (slice_get (b ++ l ∷ [])) (count b) ∙ at_end b
  where
    count : (b : List AstHorizon) → length (b ++ l ∷ []) - 1 ≡ length b
    count [] = refl
    count (x ∷ b) = let k : length (b ++ l ∷ []) ≡ suc (length b) = more b in omega arith
      where
        more : (b : List AstHorizon) → length (b ++ l ∷ []) ≡ suc (length b)
        more [] = refl
        more (y ∷ b) = ap suc (more b)

    at_end : (b : List AstHorizon) → slice_get (b ++ l ∷ []) (length b) ≡ Some l
    at_end [] = refl
    at_end (x ∷ b) = at_end b

early_after : (b : List AstHorizon) (l h : AstHorizon) → is_early (b ++ l ∷ []) h ≡ int_le h.tick l.tick
early_after b l h = rw (last_of b l, is_early) refl

later : (x y : ℤ) → int_le y x ≡ false → x <ℤ y
later x y h = grind (arith, ints)

not_early : (x y : ℤ) → x <ℤ y → int_le y x ≡ false
not_early x y h = grind (arith, ints)

-- each is later than the one before: then it is later than all before
rising_after : (b : List AstHorizon) (l : AstHorizon) (hs : List AstHorizon) → AllByRecursion (λ (x : AstHorizon). x.tick ≤ℤ l.tick) b → EachAfter (λ b h. is_early b h ≡ false) (b ++ l ∷ []) hs → EachAfter (λ b (h : AstHorizon). AllByRecursion (λ (x : AstHorizon). x.tick <ℤ h.tick) b) (b ++ l ∷ []) hs
rising_after b l [] low h = tt
rising_after b l (x ∷ hs) low h =
    let above : l.tick <ℤ x.tick = later l.tick x.tick (sym (early_after b l x) ∙ h.0) in (
      each_both (λ (y : AstHorizon). y.tick <ℤ x.tick) b (l ∷ []) (each_weaker (λ (y : AstHorizon). y.tick ≤ℤ l.tick) (λ (y : AstHorizon). y.tick <ℤ x.tick) (λ y k. below y.tick l.tick x.tick k above) b low) (above, tt),
      rising_after (b ++ l ∷ []) x hs
          (each_both (λ (y : AstHorizon). y.tick ≤ℤ x.tick) b (l ∷ []) (each_weaker (λ (y : AstHorizon). y.tick ≤ℤ l.tick) (λ (y : AstHorizon). y.tick ≤ℤ x.tick) (λ y k. up_to y.tick l.tick x.tick k above) b low) (most l.tick x.tick above, tt))
          h.1,
    )
  where
    below : (x y z : ℤ) → x ≤ℤ y → y <ℤ z → x <ℤ z
    below x y z h k = omega (arith, ints)

    up_to : (x y z : ℤ) → x ≤ℤ y → y <ℤ z → x ≤ℤ z
    up_to x y z h k = omega (arith, ints)

    most : (y z : ℤ) → y <ℤ z → y ≤ℤ z
    most y z k = omega (arith, ints)

pub rising : (hs : List AstHorizon) → EachAfter (λ b h. is_early b h ≡ false) [] hs → IsInOrder (λ (a b : AstHorizon). a.tick <ℤ b.tick) hs
rising [] h = tt
rising (x ∷ hs) h = (tt, rising_after [] x hs tt h.1)

none_early_after : (b : List AstHorizon) (l : AstHorizon) (hs : List AstHorizon) → EachAfter (λ b (h : AstHorizon). AllByRecursion (λ (x : AstHorizon). x.tick <ℤ h.tick) b) (b ++ l ∷ []) hs → EachAfter (λ b h. is_early b h ≡ false) (b ++ l ∷ []) hs
none_early_after b l [] h = tt
none_early_after b l (x ∷ hs) h = (early_after b l x ∙ not_early l.tick x.tick (last_below b h.0), none_early_after (b ++ l ∷ []) x hs h.1)
  where
    last_below : (b : List AstHorizon) → AllByRecursion (λ (y : AstHorizon). y.tick <ℤ x.tick) (b ++ l ∷ []) → l.tick <ℤ x.tick
    last_below [] k = k.0
    last_below (y ∷ b) k = last_below b k.1

pub none_early : (hs : List AstHorizon) → IsInOrder (λ (a b : AstHorizon). a.tick <ℤ b.tick) hs → EachAfter (λ b h. is_early b h ≡ false) [] hs
none_early [] h = tt
none_early (x ∷ hs) h = (refl, none_early_after [] x hs h.1)
