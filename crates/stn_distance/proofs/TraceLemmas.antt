use Rattle.std.proofs.Common.{zero, suc, ◌-◌, ◌==◌, ◌≡◌, ℕ, ◌+◌, ◌<◌, cond, List, [], ◌∷◌, ◌++◌, length, get_or, set, drop, reverse, refl, sym, ap, ◌∙◌, subst, arith, inl, inr, get_or-set_same, get_or-set_other, length-set, length-drop, count_by, get_or-drop}
use Rattle.std.specs.List.{AllByRecursion}
use Rattle.std.proofs.lemmas.List.{length-reverse, get_or_default, get_or_push, get_or_append_left, get_or-reverse, length_push}
use Rattle.std.proofs.lemmas.List.Sums.{sum_by-set}
use Rattle.std.proofs.lemmas.Bool.{cases_eq, cases_lt, eq-eqb, ne_eqb}
use Rattle.hs_base.specs.declared.net.Bound.{Bound}
use Rattle.hs_base.specs.declared.ids.PointId.{PointId}
use Rattle.stn_distance.specs.Causes.{LeadsBack, no_bound, bound_at, AreEnds, AreCauses, IsRound}
use Rattle.stn_distance.proofs.CauseLemmas.{LeadsBack-push, LeadsBack-drop}

-- the way back so far, and where each point stands on it (`count` where it does not)
pub record OnPath (count : ℕ) (bounds : List Bound) (causes : List ℕ) (start : ℕ) (places : List ℕ) (path : List Bound) (at : ℕ) : Type 0 where
  pub places_len : length places ≡ count
  pub at_in : at < count
  pub counted : count_by (λ x. x == count) places + length path ≡ count
  pub leads : LeadsBack start path at
  pub given : AreCauses count bounds causes path
  pub marked : (v : ℕ) → v < count → (get_or places v 0 ≡ count → ⊥) → (get_or places v 0 < length path) × ((bound_at path (get_or places v 0)).to.0 ≡ v)
  pub placed : (k : ℕ) → k < length path → get_or places (bound_at path k).to.0 0 ≡ k

AllByRecursion-push : (P : Bound → Type 0) (xs : List Bound) (x : Bound) → AllByRecursion P xs → P x → AllByRecursion P (xs ++ x ∷ [])
AllByRecursion-push P [] x h p = (p, tt)
AllByRecursion-push P (y ∷ ys) x h p = (h.0, AllByRecursion-push P ys x h.1 p)

AllByRecursion-drop : (P : Bound → Type 0) (xs : List Bound) (k : ℕ) → AllByRecursion P xs → AllByRecursion P (drop k xs)
AllByRecursion-drop P xs zero h = h
AllByRecursion-drop P [] (suc k) h = h
AllByRecursion-drop P (y ∷ ys) (suc k) h = AllByRecursion-drop P ys k h.1

LeadsBack-next : (p : ℕ) (xs : List Bound) (q i : ℕ) → LeadsBack p xs q → i + 1 < length xs → (bound_at xs i).from.0 ≡ (bound_at xs (i + 1)).to.0
LeadsBack-next p [] q i l h = absurd (omega arith)
LeadsBack-next p (x ∷ []) q i l h = absurd (omega arith)
LeadsBack-next p (x ∷ (y ∷ ys)) q zero l h = sym l.1.0
LeadsBack-next p (x ∷ (y ∷ ys)) q (suc i) l h = let e : suc i + 1 ≡ suc (i + 1) = omega arith in rw e (LeadsBack-next x.from.0 (y ∷ ys) q i l.1 (omega arith))

LeadsBack-last : (p : ℕ) (xs : List Bound) (q i : ℕ) → LeadsBack p xs q → i + 1 ≡ length xs → (bound_at xs i).from.0 ≡ q
LeadsBack-last p [] q i l h = absurd (omega arith)
LeadsBack-last p (x ∷ []) q zero l h = l.1
LeadsBack-last p (x ∷ []) q (suc i) l h = absurd (omega arith)
LeadsBack-last p (x ∷ (y ∷ ys)) q zero l h = absurd (omega arith)
LeadsBack-last p (x ∷ (y ∷ ys)) q (suc i) l h = LeadsBack-last x.from.0 (y ∷ ys) q i l.1 (omega arith)

-- one more point has a place
marks : (count : ℕ) (places : List ℕ) (at n : ℕ) → at < length places → get_or places at 0 ≡ count → (n ≡ count → ⊥)
    → count_by (λ x. x == count) (set places at n) + 1 ≡ count_by (λ x. x == count) places
marks count places at n l e d =
    let f : ℕ → ℕ = λ x. cond (x == count) 1 0 in
    let s = sum_by-set f places at n 0 l in
    let one : f (get_or places at 0) ≡ 1 = ap (λ b. cond b 1 0) (eq-eqb (get_or places at 0) count e) in
    let none : f n ≡ 0 = ap (λ b. cond b 1 0) (ne_eqb n count d) in
    omega arith

pub OnPath-more : (count : ℕ) (bounds : List Bound) (causes : List ℕ) (start : ℕ) (places : List ℕ) (path : List Bound) (at : ℕ) (b : Bound)
    → OnPath count bounds causes start places path at → AreEnds count bounds causes
    → get_or places at 0 ≡ count → get_or causes at 0 < length bounds → b ≡ bound_at bounds (get_or causes at 0) → b.from.0 < count
    → OnPath count bounds causes start (set places at (length path)) (path ++ b ∷ []) b.from.0
OnPath-more count bounds causes start places path at b h ends free caused eb inside =
    let len = h.places_len in let lt = h.at_in in let counted = h.counted in
    -- a point is free, so the way is short
    let short : length path < count = (let m = marks count places at (count + 1) (omega arith) free (λ e. omega arith) in omega arith) in
    let m = marks count places at (length path) (omega arith) free (λ e. omega arith) in
    let at_end : b.to.0 ≡ at = ap (λ (y : Bound). y.to.0) eb ∙ ends.1 at lt caused in
    let longer = length_push path b in
    record {
      places_len = length-set places at (length path) ∙ len;
      at_in = inside;
      counted = omega arith;
      leads = LeadsBack-push start path at b h.leads at_end;
      given = AllByRecursion-push (λ y. (v : ℕ) × (v < count) × (get_or causes v 0 < length bounds) × (y ≡ bound_at bounds (get_or causes v 0))) path b h.given (at, lt, caused, eb);
      marked = λ v lv n. elim (cases_eq v at) [
        | inl e ↦
            let own : get_or (set places at (length path)) v 0 ≡ length path = rw e (get_or-set_same places at (length path) 0 (omega arith)) in
            let read : bound_at (path ++ b ∷ []) (length path) ≡ b = get_or_push path b no_bound (length path) refl in
            (omega arith, ap (λ (k : ℕ). (bound_at (path ++ b ∷ []) k).to.0) own ∙ ap (λ (y : Bound). y.to.0) read ∙ at_end ∙ sym e)
        | inr d ↦
            let keep : get_or (set places at (length path)) v 0 ≡ get_or places v 0 = get_or-set_other places at v (length path) 0 d in
            let old = h.marked v lv (λ q. n (keep ∙ q)) in
            let old0 = old.0 in
            let read : bound_at (path ++ b ∷ []) (get_or places v 0) ≡ bound_at path (get_or places v 0) = get_or_append_left path (b ∷ []) no_bound (get_or places v 0) old0 in
            (omega arith, ap (λ (k : ℕ). (bound_at (path ++ b ∷ []) k).to.0) keep ∙ ap (λ (y : Bound). y.to.0) read ∙ old.1)
      ];
      placed = λ k lk. elim (cases_lt k (length path)) [
        | inl early ↦
            let read : bound_at (path ++ b ∷ []) k ≡ bound_at path k = get_or_append_left path (b ∷ []) no_bound k early in
            let old = h.placed k early in
            let apart : (bound_at path k).to.0 ≡ at → ⊥ = λ q. (let w : get_or places (bound_at path k).to.0 0 ≡ count = ap (λ (x : ℕ). get_or places x 0) q ∙ free in omega arith) in
            ap (λ (y : Bound). get_or (set places at (length path)) y.to.0 0) read ∙ get_or-set_other places at (bound_at path k).to.0 (length path) 0 apart ∙ old
        | inr late ↦
            let last : k ≡ length path = omega arith in
            let read : bound_at (path ++ b ∷ []) k ≡ b = get_or_push path b no_bound k (sym last) in
            ap (λ (y : Bound). get_or (set places at (length path)) y.to.0 0) read ∙ ap (λ (x : ℕ). get_or (set places at (length path)) x 0) at_end
            ∙ get_or-set_same places at (length path) 0 (omega arith) ∙ sym last
      ];
    }

pub OnPath-falls : (count : ℕ) (bounds : List Bound) (causes : List ℕ) (start : ℕ) (places : List ℕ) (path : List Bound) (at : ℕ)
    → OnPath count bounds causes start places path at → get_or places at 0 ≡ count
    → length path < count
OnPath-falls count bounds causes start places path at h free =
    let len = h.places_len in let lt = h.at_in in let counted = h.counted in
    let m = marks count places at (count + 1) (omega arith) free (λ e. omega arith) in omega arith

pub IsRound-closed : (count : ℕ) (bounds : List Bound) (causes : List ℕ) (start : ℕ) (places : List ℕ) (path : List Bound) (at : ℕ)
    → OnPath count bounds causes start places path at → (get_or places at 0 ≡ count → ⊥)
    → IsRound count bounds causes (reverse (drop (get_or places at 0) path))
IsRound-closed count bounds causes start places path at h taken =
    let k = get_or places at 0 in
    let m = h.marked at h.at_in taken in let m0 = m.0 in
    let rest = drop k path in
    let len = length-drop k path in
    -- where the bound numbered i begins is where the next one ends
    let place : ℕ → ℕ = λ i. get_or places (bound_at path i).from.0 0 in
    let next : (i : ℕ) → i + 1 < length path → place i ≡ i + 1 = λ i l. ap (λ (x : ℕ). get_or places x 0) (LeadsBack-next start path at i h.leads l) ∙ h.placed (i + 1) l in
    let last : (i : ℕ) → i + 1 ≡ length path → place i ≡ k = λ i l. ap (λ (x : ℕ). get_or places x 0) (LeadsBack-last start path at i h.leads l) in
    record {
      path = rest;
      is = refl;
      some = omega arith;
      at = at;
      leads = subst (λ (x : ℕ). LeadsBack x rest at) m.1 (LeadsBack-drop start path at k h.leads m0);
      given = AllByRecursion-drop (λ y. (v : ℕ) × (v < count) × (get_or causes v 0 < length bounds) × (y ≡ bound_at bounds (get_or causes v 0))) path k h.given;
      distinct = λ i j d lij lj same.
          let rl = length-reverse rest in
          let a = length rest - 1 - i in let b = length rest - 1 - j in
          let ea : get_or (reverse rest) i d ≡ bound_at path (k + a) = get_or-reverse rest i d (omega arith) ∙ get_or-drop k path a d ∙ get_or_default path (k + a) d no_bound (omega arith) in
          let eb : get_or (reverse rest) j d ≡ bound_at path (k + b) = get_or-reverse rest j d (omega arith) ∙ get_or-drop k path b d ∙ get_or_default path (k + b) d no_bound (omega arith) in
          let both : place (k + a) ≡ place (k + b) =
          ap (λ (y : Bound). get_or places y.from.0 0) (sym ea) ∙ ap (λ (q : PointId). get_or places q.0 0) same ∙ ap (λ (y : Bound). get_or places y.from.0 0) eb in
          let there = next (k + b) (omega arith) in
          elim (cases_lt (k + a + 1) (length path)) [
            | inl mid ↦ let here = next (k + a) mid in omega arith
            | inr end ↦ let here = last (k + a) (omega arith) in omega arith
          ];
    }
