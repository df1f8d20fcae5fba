-- Times by point, as they are noted one by one.
use Rattle.std.proofs.Common.{◌≡◌, ◌≢◌, ℕ, zero, suc, ◌+◌, ◌<◌, List, [], ◌∷◌, length, refl, sym, ap, ◌∙◌, arith, add-one, inl, inr, get_or, set, take, map, replicate, Option, Some, None}
use Rattle.std.proofs.lemmas.Bool.{cases_eq, cases_lt, eq-eqb, ne_eqb}
use Rattle.std.proofs.lemmas.List.{get_or-set_same, get_or-set_other, get_or_past, length-set, length-replicate, get_or-replicate, same_lists}
use Rattle.std.proofs.lemmas.List.FromFn.{get_or-map-range_with_len, length-map-range_with_len}
use Rattle.std.specs.Prelude.{ℤ}
use Rattle.hs_base.specs.declared.plan.Time.{Time}
use Rattle.hs_base.specs.Schedule.{numbers_from}
use Rattle.hs_base.specs.Fits.{time_at, EachOnce, put}
use Rattle.net_laws.proofs.LeaderLemmas.{cases_Option}
use Rattle.dispatcher.specs.State.{times_in}
use Rattle.dispatcher.proofs.KeptLemmas.{function_is}

-- a point without a time is not listed
unlisted : (ts : List Time) (x k : ℕ) (d : Time) → time_at ts x ≡ None → k < length ts → (get_or ts k d).point.0 ≢ x
unlisted [] x k d h kk = absurd (omega (arith, kk))
unlisted (t ∷ ts) x zero d h kk = λ same. absurd (let g : Some t.at ≡ None = rw (eq-eqb t.point.0 x same) at h in cc)
unlisted (t ∷ ts) x (suc k) d h kk = elim (cases_eq t.point.0 x) [
  | inl same ↦ absurd (let g : Some t.at ≡ None = rw (eq-eqb t.point.0 x same) at h in cc)
  | inr other ↦ unlisted ts x k d (rw (ne_eqb t.point.0 x other) at h) (omega (arith, kk))
]

-- one more time
time_at_suc : (ts : List Time) (k x : ℕ) (d : Time) → EachOnce ts → k < length ts → time_at (take (suc k) ts) x ≡ put (time_at (take k ts)) (get_or ts k d).point.0 (get_or ts k d).at x
time_at_suc [] k x d once kk = absurd (omega (arith, kk))
time_at_suc (t ∷ ts) zero x d once kk = elim (cases_eq t.point.0 x) [
  | inl same ↦ rw (eq-eqb t.point.0 x same, eq-eqb x t.point.0 (sym same)) refl
  | inr other ↦ rw (ne_eqb t.point.0 x other, ne_eqb x t.point.0 (λ e. other (sym e))) refl
]
time_at_suc (t ∷ ts) (suc k) x d once kk =
    let rest = time_at_suc ts k x d once.1 (omega (arith, kk)) in
    elim (cases_eq t.point.0 x) [
      | inr other ↦ rw (ne_eqb t.point.0 x other) rest
      | inl same ↦
          let apart : x ≢ (get_or ts k d).point.0 = λ e. unlisted ts t.point.0 k d once.0 (omega (arith, kk)) (sym e ∙ sym same) in
          rw (eq-eqb t.point.0 x same, ne_eqb x (get_or ts k d).point.0 apart) refl
    ]

time_at_more : (ts : List Time) (k x : ℕ) (d : Time) → EachOnce ts → k < length ts → time_at (take (k + 1) ts) x ≡ put (time_at (take k ts)) (get_or ts k d).point.0 (get_or ts k d).at x
time_at_more ts k x d once kk = rw add-one (time_at_suc ts k x d once kk)

-- what is listed has its time
pub listed : (ts : List Time) (k : ℕ) (d : Time) → EachOnce ts → k < length ts → time_at ts (get_or ts k d).point.0 ≡ Some (get_or ts k d).at
listed [] k d once kk = absurd (omega (arith, kk))
listed (t ∷ ts) zero d once kk = rw (eq-eqb t.point.0 t.point.0 refl) refl
listed (t ∷ ts) (suc k) d once kk =
    let q : Time = get_or ts k d in
    let apart : t.point.0 ≢ q.point.0 = λ e. unlisted ts t.point.0 k d once.0 (omega (arith, kk)) (sym e) in
    rw (ne_eqb t.point.0 q.point.0 apart) (listed ts k d once.1 (omega (arith, kk)))

pub noted_more : (ts : List Time) (k c : ℕ) (d : Time) → EachOnce ts → k < length ts → (get_or ts k d).point.0 < c
    → set (map (time_at (take k ts)) (numbers_from 0 c)) (get_or ts k d).point.0 (Some (get_or ts k d).at) ≡ map (time_at (take (k + 1) ts)) (numbers_from 0 c)
noted_more ts k c d once kk il =
    let old : List (Option ℤ) = map (time_at (take k ts)) (numbers_from 0 c) in
    let q : Time = get_or ts k d in
    let long : length old ≡ c = length-map-range_with_len (time_at (take k ts)) 0 c in
    let set_long : length (set old q.point.0 (Some q.at)) ≡ length old = length-set old q.point.0 (Some q.at) in
    same_lists (set old q.point.0 (Some q.at)) (map (time_at (take (k + 1) ts)) (numbers_from 0 c)) (set_long ∙ long ∙ sym (length-map-range_with_len (time_at (take (k + 1) ts)) 0 c)) (λ x e ix.
    let jx : x < c = omega (arith, ix, set_long, long) in
    let new : get_or (map (time_at (take (k + 1) ts)) (numbers_from 0 c)) x e ≡ put (time_at (take k ts)) q.point.0 q.at x = get_or-map-range_with_len (time_at (take (k + 1) ts)) 0 c x x e jx (omega arith) ∙ time_at_more ts k x d once kk in
    elim (cases_eq x q.point.0) [
      | inl same ↦ ap (λ z. get_or (set old q.point.0 (Some q.at)) z e) same ∙ get_or-set_same old q.point.0 (Some q.at) e (omega (arith, il, long)) ∙ sym (new ∙ rw (eq-eqb x q.point.0 same) refl)
      | inr other ↦ get_or-set_other old q.point.0 x (Some q.at) e other ∙ get_or-map-range_with_len (time_at (take k ts)) 0 c x x e jx (omega arith) ∙ sym (new ∙ rw (ne_eqb x q.point.0 other) refl)
    ])

-- no time yet
pub none_noted : (c : ℕ) → replicate c None ≡ map (time_at []) (numbers_from 0 c)
none_noted c = same_lists (replicate c None) (map (time_at []) (numbers_from 0 c)) (length-replicate c None ∙ sym (length-map-range_with_len (time_at []) 0 c))
    (λ x d ix. let jx : x < c = omega (arith, ix, length-replicate {A = Option ℤ} c None) in get_or-replicate c x None d jx ∙ sym (get_or-map-range_with_len (time_at []) 0 c x x d jx (omega arith)))

-- the times of the points are those of the list
pub times_are : (ts : List Time) (c : ℕ) → ((x : ℕ) (t : ℤ) → time_at ts x ≡ Some t → x < c) → times_in (map (time_at ts) (numbers_from 0 c)) ≡ time_at ts
times_are ts c within = function_is (times_in (map (time_at ts) (numbers_from 0 c))) (time_at ts) (λ x. elim (cases_lt x c) [
  | inl below ↦ get_or-map-range_with_len (time_at ts) 0 c x x None below (omega arith)
  | inr above ↦ get_or_past (map (time_at ts) (numbers_from 0 c)) x None (omega (arith, above, length-map-range_with_len (time_at ts) 0 c)) ∙ elim (cases_Option (time_at ts x)) [
    | inl none ↦ sym none
    | inr some ↦ absurd (omega (arith, above, within x some.0 some.1))
  ]
])
