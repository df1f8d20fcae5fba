-- What loops have pushed and seen.
use Rattle.std.proofs.Common.{◌≡◌, ℕ, cond, List, [], ◌∷◌, ◌++◌, ◌+◌, ◌<◌, length, map, flat_map, take, drop, get_or, refl, sym, ap, ◌∙◌, append_assoc, append-nil}
use Rattle.std.proofs.lemmas.Grind.{flat_map-append}
use Rattle.std.proofs.lemmas.List.{at_drop_more, take_more, map-append}
use Rattle.std.specs.List.{list_any}
use Rattle.std.specs.Str.{bytes_eq}
use Rattle.hs_texts.specs.MissionMeaning.{first_seen}

-- what is pushed of one element after the other
pub pushed : {X Z B : Type 0} (f : Z → B) (g : X → List Z) (front made more : List B) (xs : List X) (i : ℕ) (x : X) → i < length xs → x ≡ get_or xs i x → made ≡ front ++ map f (flat_map g (take i xs)) → more ≡ made ++ map f (g x) → more ≡ front ++ map f (flat_map g (take (i + 1) xs))
pushed f g front made more xs i x within is so_far step =
    let before = flat_map g (take i xs) in
    let last : flat_map g (take (i + 1) xs) ≡ before ++ g x =
    ap (flat_map g) (take_more xs i x within ∙ ap (λ y. take i xs ++ y ∷ []) (sym is)) ∙ flat_map-append g (take i xs) (x ∷ []) ∙ ap (λ l. before ++ l) (append-nil (g x)) in
    step ∙ ap (λ l. l ++ map f (g x)) so_far ∙ append_assoc front (map f before) (map f (g x))
    ∙ ap (λ l. front ++ l) (sym (map-append f before (g x))) ∙ ap (λ l. front ++ map f l) (sym last)

-- the words seen of one list after the other
pub first_seen-append : (seen xs ys : List (List ℕ)) → first_seen seen (xs ++ ys) ≡ first_seen (first_seen seen xs) ys
first_seen-append seen [] ys = refl
first_seen-append seen (w ∷ xs) ys = first_seen-append (cond (list_any (bytes_eq w) seen) seen (seen ++ w ∷ [])) xs ys

pub seen_at : {X : Type 0} (g : X → List (List ℕ)) (seen more : List (List ℕ)) (xs : List X) (i : ℕ) (x : X) → i < length xs → x ≡ get_or xs i x → more ≡ first_seen seen (g x) → first_seen more (flat_map g (drop (i + 1) xs)) ≡ first_seen seen (flat_map g (drop i xs))
seen_at g seen more xs i x within is step =
    let rest = flat_map g (drop (i + 1) xs) in
    ap (λ s. first_seen s rest) step ∙ sym (first_seen-append seen (g x) rest)
    ∙ sym (ap (first_seen seen) (at_drop_more (flat_map g) xs i x within ∙ ap (λ y. flat_map g (y ∷ drop (i + 1) xs)) (sym is)))
