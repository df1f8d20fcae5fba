-- Lists that are read from the front, with one more element at their end.
use Rattle.std.proofs.Common.{◌≡◌, ◌<◌, ◌+◌, ℕ, get_or, subst, ap, sym, ◌∙◌, length, take, List, [], ◌∷◌, ◌++◌, append_assoc}
use Rattle.std.proofs.lemmas.List.{take_more}
use Rattle.hs_base.specs.Walks.{join_after}
use Rattle.base_laws.proofs.ListLemmas.{join_after-push}

-- a front with the element that a loop reads behind it, where xs is the list that it goes over
pub take-next : {X : Type 0} (xs ys : List X) (i : ℕ) (x : X) → ys ≡ xs → i < length ys → x ≡ get_or ys i x → take (i + 1) xs ≡ take i xs ++ x ∷ []
take-next xs ys i x same h e = subst (λ zs. take (i + 1) zs ≡ take i zs ++ x ∷ []) same (take_more ys i x h ∙ ap (λ y. take i ys ++ y ∷ []) (sym e))

-- a text that has what f gives for the elements so far, and then the part of the next one
pub join_after-next : {X Y : Type 0} (f : List X → X → List Y) (before : List X) (x : X) (start text part next : List Y) → text ≡ start ++ join_after f [] before → next ≡ text ++ part → part ≡ f before x → next ≡ start ++ join_after f [] (before ++ x ∷ [])
join_after-next f before x start text part next so_far grown is =
    grown ∙ ap (λ t. t ++ part) so_far ∙ append_assoc start (join_after f [] before) part
    ∙ ap (λ t. start ++ t) (ap (λ p. join_after f [] before ++ p) is ∙ sym (join_after-push f [] before x))
