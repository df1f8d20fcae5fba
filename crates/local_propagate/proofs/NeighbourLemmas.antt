-- Lists of neighbours that grow at one group.
use Rattle.std.proofs.Common.{◌≡◌, ℕ, ◌<◌, ◌∷◌, [], ◌++◌, List, length, ap, sym, ◌∙◌, get_or, map, set}
use Rattle.std.proofs.lemmas.List.{map-set, get_or-map}
use Rattle.smallvec.specs.SmallVec.{SmallVec}

-- the items of one list after a push
pub items_pushed : {X : Type 0} (lists : List (SmallVec X)) (i : ℕ) (old new : SmallVec X) (x : X) → i < length lists → old ≡ get_or lists i old → new.items ≡ old.items ++ x ∷ []
    → map (λ l. l.items) (set lists i new) ≡ set (map (λ l. l.items) lists) i (get_or (map (λ l. l.items) lists) i [] ++ x ∷ [])
items_pushed {X} lists i old new x h read pushed =
    let items : SmallVec X → List X = λ l. l.items in
    let at : get_or (map items lists) i [] ≡ old.items = get_or-map items lists i old [] h ∙ ap items (sym read) in
    map-set items lists i new ∙ ap (set (map items lists) i) (pushed ∙ ap (λ z. z ++ x ∷ []) (sym at))
