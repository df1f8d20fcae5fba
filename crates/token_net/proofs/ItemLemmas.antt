-- One more element of what the items go over.
use Rattle.std.proofs.Common.{◌≡◌, ℕ, zero, suc, ◌+◌, ◌-◌, ◌<◌, ◌≤◌, List, [], ◌∷◌, ◌++◌, length, take, get_or, refl, sym, ap, ◌∙◌, arith, append_assoc, append-nil}
use Rattle.std.proofs.lemmas.List.{take_more, take_all, get_or_default}
use Rattle.std.proofs.lemmas.Grind.{flat_map-append}
use Rattle.std.specs.Prelude.{flat_map, min}
use Rattle.hs_base.specs.declared.mission.Goal.{Goal}
use Rattle.hs_base.specs.declared.plan.TokenRef.{TokenRef}
use Rattle.hs_base.specs.Schedule.{numbers_from}
use Rattle.plan_index.specs.Contents.{Contents}
use Rattle.token_net.specs.Items.{goal_item, goal_items}

-- what the elements up to an index give
pub flat_more : {X Y : Type 0} (f : X → List Y) (xs : List X) (i : ℕ) (x : X) → i < length xs → x ≡ get_or xs i x → flat_map f (take (i + 1) xs) ≡ flat_map f (take i xs) ++ f x
flat_more f xs i x below is =
    ap (flat_map f) (take_more xs i x below ∙ ap (λ y. take i xs ++ y ∷ []) (sym is)) ∙ flat_map-append f (take i xs) (x ∷ []) ∙ ap (λ l. flat_map f (take i xs) ++ l) (append-nil (f x))

-- one more number
pub numbers_more : (a n : ℕ) → numbers_from a (n + 1) ≡ numbers_from a n ++ (a + n) ∷ []
numbers_more a zero = let e : a + 0 ≡ a = omega arith in ap (λ x. x ∷ []) (sym e)
numbers_more a (suc n) =
    let e : suc n + 1 ≡ suc (n + 1) = omega arith in
    let last : a + 1 + n ≡ a + suc n = omega arith in
    ap (numbers_from a) e ∙ ap (λ l. a ∷ l) (numbers_more (a + 1) n ∙ ap (λ x. numbers_from (a + 1) n ++ x ∷ []) last)

-- what the numbers from a up to x give
pub flat_numbers : {Y : Type 0} (f : ℕ → List Y) (a x : ℕ) → a ≤ x → flat_map f (numbers_from a (x + 1 - a)) ≡ flat_map f (numbers_from a (x - a)) ++ f x
flat_numbers f a x below =
    let size : x + 1 - a ≡ x - a + 1 = omega arith in
    let last : a + (x - a) ≡ x = omega arith in
    ap (λ n. flat_map f (numbers_from a n)) size
    ∙ ap (flat_map f) (numbers_more a (x - a))
    ∙ flat_map-append f (numbers_from a (x - a)) ((a + (x - a)) ∷ [])
    ∙ ap (λ l. flat_map f (numbers_from a (x - a)) ++ l) (append-nil (f (a + (x - a))) ∙ ap f last)

-- what the numbers below x give, and x
pub flat_counted : {Y : Type 0} (f : ℕ → List Y) (x : ℕ) → flat_map f (numbers_from 0 (x + 1)) ≡ flat_map f (numbers_from 0 x) ++ f x
flat_counted f x =
    let last : 0 + x ≡ x = omega arith in
    ap (flat_map f) (numbers_more 0 x) ∙ flat_map-append f (numbers_from 0 x) ((0 + x) ∷ []) ∙ ap (λ l. flat_map f (numbers_from 0 x) ++ l) (append-nil (f (0 + x)) ∙ ap f last)

-- one more goal and its entry
pub goals_more : (c : Contents) (gs : List Goal) (ts : List TokenRef) (i : ℕ) (g : Goal) (t : TokenRef) → i < length gs → i < length ts → g ≡ get_or gs i g → t ≡ get_or ts i t → goal_items c (take (i + 1) gs) (take (i + 1) ts) ≡ goal_items c (take i gs) (take i ts) ++ goal_item c g t
goals_more c [] ts i g t below under is at = absurd (omega arith)
goals_more c (h ∷ gs) [] i g t below under is at = absurd (omega arith)
goals_more c (h ∷ gs) (u ∷ ts) zero g t below under is at = rw (is, at) (append-nil (goal_item c h u))
goals_more c (h ∷ gs) (u ∷ ts) (suc i) g t below under is at =
    let e : suc i + 1 ≡ suc (i + 1) = omega arith in
    ap (λ j. goal_items c (take j (h ∷ gs)) (take j (u ∷ ts))) e
    ∙ ap (λ l. goal_item c h u ++ l) (goals_more c gs ts i g t (omega arith) (omega arith) is at)
    ∙ sym (append_assoc (goal_item c h u) (goal_items c (take i gs) (take i ts)) (goal_item c g t))

pub goals_more_at : (c : Contents) (gs : List Goal) (ts : List TokenRef) (i : ℕ) (g : Goal) (t : TokenRef) → i < length gs → i < length ts → goal_items c (take (i + 1) gs) (take (i + 1) ts) ≡ goal_items c (take i gs) (take i ts) ++ goal_item c (get_or gs i g) (get_or ts i t)
goals_more_at c gs ts i g t below under = goals_more c gs ts i (get_or gs i g) (get_or ts i t) below under (get_or_default gs i g (get_or gs i g) below) (get_or_default ts i t (get_or ts i t) under)

-- all goals that have an entry
pub goals_all : (c : Contents) (gs : List Goal) (ts : List TokenRef) (i : ℕ) → min (length gs) (length ts) ≤ i → goal_items c (take i gs) (take i ts) ≡ goal_items c gs ts
goals_all c [] ts i all = ap (λ l. goal_items c l (take i ts)) (take_all i [] (omega arith))
goals_all c (g ∷ gs) [] i all = by_size i
  where
    by_size : (i : ℕ) → goal_items c (take i (g ∷ gs)) (take i []) ≡ []
    by_size zero = refl
    by_size (suc i) = refl
goals_all c (g ∷ gs) (t ∷ ts) zero all = absurd (omega arith)
goals_all c (g ∷ gs) (t ∷ ts) (suc i) all = ap (λ l. goal_item c g t ++ l) (goals_all c gs ts i (omega arith))

-- what is added at the end of what was made
pub grown : {X : Type 0} (new made old part more all : List X) → new ≡ made ++ more → made ≡ old ++ part → all ≡ part ++ more → new ≡ old ++ all
grown new made old part more all is was adds = is ∙ ap (λ l. l ++ more) was ∙ append_assoc old part more ∙ ap (λ l. old ++ l) (sym adds)

-- one part more at the end of what was made
pub and_then : {X : Type 0} (old new part next more : List X) → new ≡ old ++ part → next ≡ new ++ more → next ≡ old ++ (part ++ more)
and_then old new part next more was is = is ∙ ap (λ l. l ++ more) was ∙ append_assoc old part more
