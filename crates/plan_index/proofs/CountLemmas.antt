-- Numbers of points by counting extensions and tokens.
use Rattle.std.proofs.Common.{◌≡◌, ℕ, ◌+◌, ◌<◌, ◌≤◌, List, [], ◌∷◌, ◌++◌, length, take, drop, get_or, sym, ap, ◌∙◌, arith, append_assoc, append-nil}
use Rattle.std.proofs.lemmas.List.{take_more, take-append-drop}
use Rattle.hs_base.specs.declared.plan.Extension.{Extension}
use Rattle.hs_base.specs.Points.{count}
use Rattle.base_laws.proofs.ListLemmas.{front_induction}
use Rattle.base_laws.proofs.PointLemmas.{count-push}

-- the points of one extension more
pub count_more : (es : List Extension) (i : ℕ) (e : Extension) → i < length es → e ≡ get_or es i e → count (take (i + 1) es) ≡ count (take i es) + 1 + length e.tokens
count_more es i e below is = ap count (take_more es i e below ∙ ap (λ x. take i es ++ x ∷ []) (sym is)) ∙ count-push (take i es) e

count_at_most : (es fs : List Extension) → count es ≤ count (es ++ fs)
count_at_most es fs = front_induction (λ fs. count es ≤ count (es ++ fs)) (rw (append-nil es) (omega arith)) (λ l x h. omega (arith, h, ap count (sym (append_assoc es l (x ∷ []))), count-push (es ++ l) x)) fs

-- some first extensions have no more points than all
pub count_below : (es : List Extension) (i : ℕ) → count (take i es) ≤ count es
count_below es i = omega (arith, count_at_most (take i es) (drop i es), ap count (take-append-drop i es))

-- the points of an extension are among all
pub room : (es : List Extension) (i : ℕ) (e : Extension) → i < length es → e ≡ get_or es i e → count (take i es) + 1 + length e.tokens ≤ count es
room es i e below is = omega (arith, count_more es i e below is, count_below es (i + 1))
