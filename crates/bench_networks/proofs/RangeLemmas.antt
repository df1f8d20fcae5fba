-- Ranges of points, and bounds beside them.
use Rattle.std.proofs.Common.{◌≡◌, ℕ, ◌+◌, pos, List, [], ◌∷◌, ◌++◌, Contains, subst, arith, inl, inr}
use Rattle.std.proofs.lemmas.Bool.{cases_lt}
use Rattle.std.proofs.lemmas.List.Elements.{Contains-append_left, Contains-push}
use Rattle.hs_base.specs.declared.limits.TheConstants.{LAST}
use Rattle.hs_base.specs.declared.net.Bound.{Bound}
use Rattle.hs_base.specs.Schedule.{bound}
use Rattle.bench_networks.specs.Ranges.{HasRanges}

pub HasRanges-push : (n : ℕ) (bounds : List Bound) (b : Bound) → HasRanges n bounds → HasRanges n (bounds ++ b ∷ [])
HasRanges-push n bounds b h = record {
  each = λ p some l. (Contains-append_left bounds (b ∷ []) (bound p 0 (pos 0)) (h.each p some l).0, Contains-append_left bounds (b ∷ []) (bound 0 p LAST) (h.each p some l).1);
}

pub HasRanges-more : (n : ℕ) (bounds : List Bound) → HasRanges n bounds → HasRanges (n + 1) ((bounds ++ bound n 0 (pos 0) ∷ []) ++ bound 0 n LAST ∷ [])
HasRanges-more n bounds h =
    let first = bounds ++ bound n 0 (pos 0) ∷ [] in
    let kept = HasRanges-push n first (bound 0 n LAST) (HasRanges-push n bounds (bound n 0 (pos 0)) h) in
    record {
      each = λ p some l. elim (cases_lt p n) [
        | inl early ↦ kept.each p some early
        | inr late ↦
            let e : n ≡ p = omega arith in
            subst (λ (k : ℕ). Contains (first ++ bound 0 n LAST ∷ []) (bound k 0 (pos 0)) × Contains (first ++ bound 0 n LAST ∷ []) (bound 0 k LAST)) e
            (Contains-append_left first (bound 0 n LAST ∷ []) (bound n 0 (pos 0)) (Contains-push bounds (bound n 0 (pos 0))), Contains-push first (bound 0 n LAST))
      ];
    }
