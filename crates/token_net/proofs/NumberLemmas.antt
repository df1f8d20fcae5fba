-- The numbers of horizon points.
use Rattle.std.proofs.Common.{◌≡◌, ℕ, ◌+◌, ◌-◌, ◌<◌, ◌≤◌, List, [], ◌∷◌, ◌++◌, length, take, drop, get_or, Some, sym, ap, ◌∙◌, arith}
use Rattle.std.proofs.lemmas.List.{take_more, take-append-drop, length-take-le, get_or_default}
use Rattle.std.specs.Prelude.{slice_get}
use Rattle.hs_base.specs.declared.plan.Extension.{Extension}
use Rattle.hs_base.specs.Points.{horizon, count, points_of, hor}
use Rattle.base_laws.proofs.PointLemmas.{named, count-push, new_mark_at, number_kept}
pub use Rattle.plan_index.proofs.CountLemmas.{count_more, count_below, room}

-- an extension stands between those before it and those behind it
pub split_at : (es : List Extension) (i : ℕ) (e : Extension) → i < length es → e ≡ get_or es i e → es ≡ (take i es ++ e ∷ []) ++ drop (i + 1) es
split_at es i e below is = sym (take-append-drop (i + 1) es) ∙ ap (λ l. l ++ drop (i + 1) es) (take_more es i e below ∙ ap (λ x. take i es ++ x ∷ []) (sym is))

-- the point of a number in an extension
number_in : (es : List Extension) (i : ℕ) (e : Extension) (x : ℕ) → i < length es → e ≡ get_or es i e → x < count (take i es ++ e ∷ []) → slice_get (points_of es) x ≡ slice_get (points_of (take i es ++ e ∷ [])) x
number_in es i e x below is inside = ap (λ l. slice_get (points_of l) x) (split_at es i e below is) ∙ number_kept (take i es ++ e ∷ []) (drop (i + 1) es) x inside

-- the number of a horizon point
pub mark_number : (es : List Extension) (i : ℕ) (e : Extension) → i < length es → e ≡ get_or es i e → hor es (i + 1) ≡ count (take i es)
mark_number es i e below is =
    let size : length (take i es) ≡ i = length-take-le i es (omega arith) in
    let inside : count (take i es) < count (take i es ++ e ∷ []) = omega (arith, count-push (take i es) e) in
    (named es).once (count (take i es)) (horizon (i + 1)) (number_in es i e _ below is inside ∙ new_mark_at (take i es) e ∙ ap (λ n. Some (horizon (n + 1))) size)

-- the same, where the plan has that horizon
pub mark_of : (es : List Extension) (k : ℕ) → 1 ≤ k → k ≤ length es → hor es k ≡ count (take (k - 1) es)
mark_of [] k some below = absurd (omega arith)
mark_of (e ∷ es) k some below =
    let at : k - 1 < length (e ∷ es) = omega arith in
    let next : k - 1 + 1 ≡ k = omega arith in
    ap (hor (e ∷ es)) (sym next) ∙ mark_number (e ∷ es) (k - 1) (get_or (e ∷ es) (k - 1) e) at (get_or_default (e ∷ es) (k - 1) e (get_or (e ∷ es) (k - 1) e) at)
