-- Candidates for kept edges: only dominated edges are dropped, and candidates alone decide.
use Rattle.std.proofs.Common.{◌≡◌, ◌≢◌, ℕ, ◌+◌, ◌<◌, Bool, true, false, cond, List, [], ◌∷◌, ◌++◌, length, get_or, map, All, Contains, ℤ, pos, ◌+ℤ◌, to_z, of_z, w64, refl, sym, ap, ◌∙◌, subst, arith, inl, inr}
use Rattle.std.proofs.lemmas.Int.{ints}
use Rattle.std.proofs.lemmas.Bool.{cases_Bool, both_ways, and_parts, and_from, or_left, or_right, eqb-true, eqb-false, eq-eqb, not-true, not_from_false, ne_eqb, cases_eq, cases_lt}
use Rattle.std.proofs.lemmas.List.{get_or-map, length-map, get_or_default}
use Rattle.std.proofs.lemmas.List.Elements.{All-push, All-append, All-nil, All-contains, Contains-get_or, Contains-append_left, Contains-push, Contains-push_cases}
use Rattle.std.proofs.lemmas.List.Folds.{list_any-append}
use Rattle.std.specs.Prelude.{◌⊎◌, neg_ℤ, ◌≤ℤ◌, filter, int_lt, int_le, not, ◌&&◌, nat_eq}
use Rattle.std.specs.List.{list_any}
use Rattle.hs_base.specs.Schedule.{time_of}
use Rattle.hs_base.specs.Reduced.{Table, int_eq, is_kept}
use Rattle.stn_distance.specs.Distances.{Distances, weight}
use Rattle.net_laws.proofs.BetweenLemmas.{Has, Web, some_passes as some_has, none_passes, kept_or, kept_from, kept_to, filter_smaller, int_eq-true, eq_int_eq, int_le-true, int_lt-true, le_int_le, lt_int_lt}
use Rattle.net_laws.proofs.KeptLemmas.{dominated_by_kept}
use Rattle.net_laws.proofs.ListLemmas.{has_from, contains_from, has_filter, filter_has}
use Rattle.edge_filter.specs.declared.side.Side.{Side}
use Rattle.edge_filter.specs.declared.side.Side.TheVariants.{Incoming, Outgoing}
use Rattle.edge_filter.specs.declared.candidates.Candidate.{Candidate}
use Rattle.edge_filter.specs.Sides.{along, has_sign, is_on, is_kept_at, is_kept_on}
use Rattle.edge_filter.specs.Marks.{AreLeaders}
use Rattle.edge_filter.specs.Weights.{IsRow, IsGrid, weights_on}
use Rattle.edge_filter.specs.Candidates.{is_other, IsOther, HasOthers, IsPlaced, passes, some_passes, is_left, IsSettled, AreNarrowed, is_unpassed}
use Rattle.edge_filter.proofs.MarkLemmas.{leaders_are_web, leaders_apart}

-- ---- Rows and their weights

-- a test of two weights of a machine's words
pub word_test : (s w : ℤ) → neg_ℤ (pos 4000000000) ≤ℤ s → s ≤ℤ pos 4000000000 → neg_ℤ (pos 4000000000) ≤ℤ w → w ≤ℤ pos 4000000000 → nat_eq (of_z w64 s) (of_z w64 w) ≡ int_eq s w
word_test s w sl sh wl wh =
    let ps : to_z w64 (of_z w64 s) ≡ s = omega (arith, ints) in
    let pw : to_z w64 (of_z w64 w) ≡ w = omega (arith, ints) in
    elim (cases_Bool (int_eq s w)) [
      | inl e ↦ eq-eqb (of_z w64 s) (of_z w64 w) (ap (of_z w64) (int_eq-true s w e)) ∙ sym e
      | inr n ↦ ne_eqb (of_z w64 s) (of_z w64 w) (λ h. both_ways (int_eq s w) n (eq_int_eq s w (sym ps ∙ ap (to_z w64) h ∙ pw))) ∙ sym n
    ]

pub grid_row : (n : ℕ) (grid : List (List ℤ)) (k : ℕ) (row : List ℤ) → IsGrid n grid → k < n → row ≡ get_or grid k [] → IsRow n row
grid_row n grid k row h l e = let long = h.long in subst (IsRow n) (sym e) (h.rows k [] (omega arith))

pub own_row : (n : ℕ) (row : List ℤ) → IsRow n row → IsRow (length row) row
own_row n row h = subst (λ (m : ℕ). IsRow m row) (sym h.long) h

-- ---- One more of the others

pub All-cond : {X : Type 0} (P : X → Type 0) (xs : List X) (b : Bool) (x : X) → All P xs → (b ≡ true → P x) → All P (xs ++ cond b (x ∷ []) [])
All-cond P xs true x h p = All-push P xs x h (p refl)
All-cond P xs false x h p = All-append P xs [] h (All-nil P)

pub HasOthers-more : (side : Side) (row : List ℤ) (a i : ℕ) (bs : List Candidate) (b : Candidate) → b.place ≡ i → HasOthers side row a i bs
    → HasOthers side row a (i + 1) (bs ++ cond (is_other side a i (time_of row i)) (b ∷ []) [])
HasOthers-more side row a i bs b same h = record {
  all = λ j l on. elim (cases_lt j i) [
    | inl early ↦ let r = h.all j early on in (r.0, Contains-append_left bs (cond (is_other side a i (time_of row i)) (b ∷ []) []) r.0 r.1, r.2)
    | inr late ↦
        let e : j ≡ i = omega arith in
        let there : is_other side a i (time_of row i) ≡ true = subst (λ (k : ℕ). is_other side a k (time_of row k) ≡ true) e on in
        (b, subst (λ (t : Bool). Contains (bs ++ cond t (b ∷ []) []) b) (sym there) (Contains-push bs b), same ∙ sym e)
  ];
}

pub placed_others : (side : Side) (row : List ℤ) (a n : ℕ) (bs : List Candidate) → IsRow n row → All (IsOther side row a) bs → All (IsPlaced n) bs
placed_others side row a n bs h each k e l =
    let o = each k e l in let near = h.near (get_or bs k e).place (pos 0) o.within in
    let w = o.weight in let long = h.long in let within = o.within in let low = near.low in let high = near.high in
    record { within = omega arith; low = omega (arith, ints); high = omega (arith, ints) }

-- ---- One more candidate

-- the others that wait, and the candidates so far
pub record IsNarrowing (rows : List (List ℤ)) (given waiting bs : List Candidate) : Type 0 where
  pub from : (b : Candidate) → Contains waiting b → Contains given b
  pub each : (b : Candidate) → Contains bs b → Contains given b
  pub settled : (x : Candidate) → Contains given x → Contains waiting x ⊎ IsSettled rows bs x

IsSettled-pushed : (rows : List (List ℤ)) (bs : List Candidate) (b x : Candidate) → IsSettled rows bs x → IsSettled rows (bs ++ b ∷ []) x
IsSettled-pushed rows bs b x (inl h) = inl (h.0, Contains-append_left bs (b ∷ []) h.0 h.1, h.2)
IsSettled-pushed rows bs b x (inr h) =
    inr (list_any-append (passes rows x) bs (b ∷ []) ∙ or_left (list_any (passes rows x) bs) (list_any (passes rows x) (b ∷ [])) h)

pub IsNarrowing-start : (rows : List (List ℤ)) (given : List Candidate) → IsNarrowing rows given given []
IsNarrowing-start rows given = record { from = λ b i. i; each = λ b i. absurd (has_from [] b i); settled = λ x i. inl i }

-- one that isn't left is settled
IsSettled-gone : (rows : List (List ℤ)) (bs : List Candidate) (b x : Candidate) → is_left (get_or rows b.place []) b x ≡ false → IsSettled rows (bs ++ b ∷ []) x
IsSettled-gone rows bs b x gone = elim (cases_Bool (nat_eq x.place b.place)) [
  | inl same ↦ inl (b, Contains-push bs b, sym (eqb-true x.place b.place same))
  | inr apart ↦ elim (cases_Bool (passes rows x b)) [
    | inr off ↦ absurd (both_ways (is_left (get_or rows b.place []) b x) gone (and_from (not (nat_eq x.place b.place)) (not (passes rows x b)) (not_from_false (nat_eq x.place b.place) apart) (not_from_false (passes rows x b) off)))
    | inl by ↦ inr (list_any-append (passes rows x) bs (b ∷ []) ∙ or_right (list_any (passes rows x) bs) (list_any (passes rows x) (b ∷ [])) (or_left (passes rows x b) false by))
  ]
]

pub IsNarrowing-more : (rows : List (List ℤ)) (given waiting bs : List Candidate) (b : Candidate) → Contains waiting b → IsNarrowing rows given waiting bs
    → IsNarrowing rows given (filter (is_left (get_or rows b.place []) b) waiting) (bs ++ b ∷ [])
IsNarrowing-more rows given waiting bs b ib h =
    let p = is_left (get_or rows b.place []) b in
    record {
      from = λ x i. h.from x (contains_from waiting x (has_filter p waiting x (has_from (filter p waiting) x i)).0);
      each = λ x i. elim (Contains-push_cases bs b x i) [
        | inl j ↦ h.each x j
        | inr e ↦ subst (λ (y : Candidate). Contains given y) e (h.from b ib)
      ];
      settled = λ x i. elim (h.settled x i) [
        | inl w ↦ elim (cases_Bool (p x)) [
          | inl left ↦ inl (contains_from (filter p waiting) x (filter_has p waiting x (has_from waiting x w) left))
          | inr gone ↦ inr (IsSettled-gone rows bs b x gone)
        ]
        | inr s ↦ inr (IsSettled-pushed rows bs b x s)
      ];
    }

filter_whole : {X : Type 0} (xs : List X) → filter (λ _. true) xs ≡ xs
filter_whole [] = refl
filter_whole (x ∷ xs) = ap (λ ys. x ∷ ys) (filter_whole xs)

-- the candidate itself isn't left
pub left_shorter : (row : List ℤ) (waiting : List Candidate) (b : Candidate) → Contains waiting b → length (filter (is_left row b) waiting) < length waiting
left_shorter row waiting b ib =
    let gone : is_left row b b ≡ false = rw (eq-eqb b.place b.place refl) refl in
    subst (λ (xs : List Candidate). length (filter (is_left row b) waiting) < length xs) (filter_whole waiting)
    (filter_smaller (is_left row b) (λ _. true) waiting (λ x i e. refl) b (has_from waiting b ib) gone refl)

-- ---- Only dominated edges are dropped

-- the edge of x, dominated by b, isn't kept
Dominates-on : (side : Side) (d : Table) (a x b : ℕ) → is_on side d a x ≡ true → is_on side d a b ≡ true → x ≢ b → along side d b x +ℤ along side d a b ≡ along side d a x
    → (ls : List ℕ) → Has ls b → is_kept_at side d ls a x ≡ true → ⊥
Dominates-on Incoming d a x b hx hb apart sum ls ib kept =
    let onx = and_parts (not (nat_eq x a)) (int_le (pos 0) (d x a)) hx in let onb = and_parts (not (nat_eq b a)) (int_le (pos 0) (d b a)) hb in
    let high = int_le-true (pos 0) (d x a) onx.1 in
    (kept_from d ls x a kept).alone b ib (record {
      first = apart;
      last = eqb-false b a (not-true (nat_eq b a) onb.0);
      through = record { sum = sum };
      upper = λ s. int_le-true (pos 0) (d b a) onb.1;
      lower = λ s. absurd (omega (arith, ints));
    })
Dominates-on Outgoing d a x b hx hb apart sum ls ib kept =
    let onx = and_parts (not (nat_eq x a)) (int_lt (d a x) (pos 0)) hx in let onb = and_parts (not (nat_eq b a)) (int_lt (d a b) (pos 0)) hb in
    let low = int_lt-true (d a x) (pos 0) onx.1 in
    (kept_from d ls a x kept).alone b ib (record {
      first = λ e. eqb-false b a (not-true (nat_eq b a) onb.0) (sym e);
      last = λ e. apart (sym e);
      through = record { sum = omega (arith, ints) };
      upper = λ s. absurd (omega (arith, ints));
      lower = λ s. int_lt-true (d a b) (pos 0) onb.1;
    })

-- ---- Candidates alone decide

-- a kept edge that dominates that of x, on the same side
kept_dominator : (side : Side) (d : Table) (ls : List ℕ) (a x : ℕ) → Web d ls → Has ls a → Has ls x → is_on side d a x ≡ true → is_kept_at side d ls a x ≡ false
    → (p : ℕ) × Has ls p × (is_on side d a p ≡ true) × (is_kept_at side d ls a p ≡ true) × (x ≢ p) × (along side d p x +ℤ along side d a p ≡ along side d a x)
kept_dominator Incoming d ls a x web ia ix hx none =
    let onx = and_parts (not (nat_eq x a)) (int_le (pos 0) (d x a)) hx in
    let high = int_le-true (pos 0) (d x a) onx.1 in
    elim (kept_or d ls x a (eqb-false x a (not-true (nat_eq x a) onx.0))) [
      | inl k ↦ absurd (both_ways (is_kept d ls x a) none (kept_to d ls x a k))
      | inr h ↦
          let r = dominated_by_kept d ls web x a h.0 ix ia h.1 h.2 in let dom = r.2 in let t = dom.through.sum in
          (r.0, r.1, and_from (not (nat_eq r.0 a)) (int_le (pos 0) (d r.0 a)) (not_from_false (nat_eq r.0 a) (ne_eqb r.0 a dom.last)) (le_int_le (pos 0) (d r.0 a) (dom.upper high)), kept_to d ls r.0 a (r.3.0 high), dom.first, t)
    ]
kept_dominator Outgoing d ls a x web ia ix hx none =
    let onx = and_parts (not (nat_eq x a)) (int_lt (d a x) (pos 0)) hx in
    let low = int_lt-true (d a x) (pos 0) onx.1 in
    elim (kept_or d ls a x (λ e. eqb-false x a (not-true (nat_eq x a) onx.0) (sym e))) [
      | inl k ↦ absurd (both_ways (is_kept d ls a x) none (kept_to d ls a x k))
      | inr h ↦
          let r = dominated_by_kept d ls web a x h.0 ia ix h.1 h.2 in let dom = r.2 in let t = dom.through.sum in (
            r.0,
            r.1,
            and_from (not (nat_eq r.0 a)) (int_lt (d a r.0) (pos 0)) (not_from_false (nat_eq r.0 a) (ne_eqb r.0 a (λ e. dom.first (sym e)))) (lt_int_lt (d a r.0) (pos 0) (dom.lower low)),
            kept_to d ls a r.0 (r.3.1 low),
            λ e. dom.last (sym e),
            omega (arith, ints),
          )
    ]

some_from : {X : Type 0} (p : X → Bool) (xs : List X) (x : X) → Contains xs x → p x ≡ true → list_any p xs ≡ true
some_from p xs x i h = elim (cases_Bool (list_any p xs)) [ inl e ↦ e | inr e ↦ absurd (both_ways (p x) (none_passes p xs e x (has_from xs x i)) h) ]

kept_apart : (side : Side) (d : Table) (ls : List ℕ) (a x : ℕ) → is_kept_at side d ls a x ≡ true → x ≢ a
kept_apart Incoming d ls a x h = (kept_from d ls x a h).apart
kept_apart Outgoing d ls a x h = λ e. (kept_from d ls a x h).apart (sym e)

module _ (side : Side) (dv : Distances) (ls : List ℕ) (a : ℕ) (rows : List (List ℤ)) (given bs : List Candidate) (leaders : AreLeaders dv ls)
    (is : rows ≡ weights_on side (weight dv) ls ls) (la : a < length ls) (others : All (IsOther side (get_or rows a []) a) given)
    (has : HasOthers side (get_or rows a []) a (length (get_or rows a [])) given) (narrowed : AreNarrowed rows given bs) where
  read : (j k : ℕ) → j < length ls → k < length ls → time_of (get_or rows j []) k ≡ along side (weight dv) (get_or ls j 0) (get_or ls k 0)
  read j k lj lk =
      ap (λ (rs : List (List ℤ)). time_of (get_or rs j []) k) is
      ∙ ap (λ (row : List ℤ). get_or row k (pos 0)) (get_or-map (λ b. map (along side (weight dv) b) ls) ls j 0 [] lj)
      ∙ get_or-map (along side (weight dv) (get_or ls j 0)) ls k 0 (pos 0) lk

  row_long : length (get_or rows a []) ≡ length ls
  row_long =
      ap (λ (rs : List (List ℤ)). length (get_or rs a [])) is
      ∙ ap (λ (row : List ℤ). length row) (get_or-map (λ b. map (along side (weight dv) b) ls) ls a 0 [] la)
      ∙ length-map ls (along side (weight dv) (get_or ls a 0))

  same_test : (k : ℕ) → k < length ls → nat_eq k a ≡ nat_eq (get_or ls k 0) (get_or ls a 0)
  same_test k lk = elim (cases_eq k a) [
    | inl e ↦ eq-eqb k a e ∙ sym (eq-eqb (get_or ls k 0) (get_or ls a 0) (ap (λ (j : ℕ). get_or ls j 0) e))
    | inr n ↦ ne_eqb k a n ∙ sym (ne_eqb (get_or ls k 0) (get_or ls a 0) (λ e. n (leaders_apart dv ls leaders k a lk la e)))
  ]

  on_is : (k : ℕ) (w : ℤ) → k < length ls → w ≡ along side (weight dv) (get_or ls a 0) (get_or ls k 0) → is_other side a k w ≡ is_on side (weight dv) (get_or ls a 0) (get_or ls k 0)
  on_is k w lk e = ap (λ (t : Bool). not t && has_sign side w) (same_test k lk) ∙ ap (λ (z : ℤ). not (nat_eq (get_or ls k 0) (get_or ls a 0)) && has_sign side z) e

  -- what another one says of its edge
  record Told (b : Candidate) : Type 0 where
    pub below : b.place < length ls
    pub weight_is : b.weight ≡ along side (weight dv) (get_or ls a 0) (get_or ls b.place 0)
    pub on : is_on side (weight dv) (get_or ls a 0) (get_or ls b.place 0) ≡ true

  told : (b : Candidate) → Contains given b → Told b
  told b i =
      let o = All-contains (IsOther side (get_or rows a []) a) given b others i in
      let long = row_long in let within = o.within in
      let l : b.place < length ls = omega arith in
      let w = o.weight ∙ read a b.place la l in
      record { below = l; weight_is = w; on = sym (on_is b.place b.weight l w) ∙ o.on }

  -- one that passes by another dominates it
  passed : (x b : Candidate) → Told x → Told b → passes rows x b ≡ true → is_kept_at side (weight dv) ls (get_or ls a 0) (get_or ls x.place 0) ≡ true → ⊥
  passed x b tx tb by kept =
      let parts = and_parts (not (nat_eq x.place b.place)) (int_eq (time_of (get_or rows b.place []) x.place +ℤ b.weight) x.weight) by in
      let sum = int_eq-true (time_of (get_or rows b.place []) x.place +ℤ b.weight) x.weight parts.1 in
      let r = read b.place x.place tb.below tx.below in let wx = tx.weight_is in let wb = tb.weight_is in
      Dominates-on side (weight dv) (get_or ls a 0) (get_or ls x.place 0) (get_or ls b.place 0) tx.on tb.on
      (λ e. eqb-false x.place b.place (not-true (nat_eq x.place b.place) parts.0) (leaders_apart dv ls leaders x.place b.place tx.below tb.below e))
      (omega (arith, ints)) ls (has_from ls (get_or ls b.place 0) (Contains-get_or ls b.place 0 tb.below)) kept

  unpassed : (x : Candidate) → Told x → is_kept_at side (weight dv) ls (get_or ls a 0) (get_or ls x.place 0) ≡ true → some_passes rows bs x ≡ false
  unpassed x tx kept = elim (cases_Bool (some_passes rows bs x)) [
    | inr off ↦ off
    | inl by ↦
        let b = some_has (passes rows x) bs by in
        absurd (passed x b.0 tx (told b.0 (narrowed.each b.0 (contains_from bs b.0 b.1))) b.2 kept)
  ]

  -- a kept edge on the side has a candidate
  candidate : (i : ℕ) → i < length ls → is_on side (weight dv) (get_or ls a 0) (get_or ls i 0) ≡ true → is_kept_at side (weight dv) ls (get_or ls a 0) (get_or ls i 0) ≡ true
      → (b : Candidate) × Contains bs b × (b.place ≡ i)
  candidate i li on kept =
      let long = row_long in
      let o = has.all i (omega arith) (on_is i (time_of (get_or rows a []) i) li (read a i la li) ∙ on) in
      let same : o.0.place ≡ i = o.2 in
      elim (narrowed.settled o.0 o.1) [
        | inl c ↦ (c.0, c.1, c.2 ∙ same)
        | inr by ↦ absurd (both_ways (some_passes rows bs o.0) (unpassed o.0 (told o.0 o.1) (subst (λ (j : ℕ). is_kept_at side (weight dv) ls (get_or ls a 0) (get_or ls j 0) ≡ true) (sym same) kept)) by)
      ]

  kept_if : (i : ℕ) → i < length ls → list_any (is_unpassed rows bs i) bs ≡ true → is_kept_on side (weight dv) ls (get_or ls a 0) (get_or ls i 0) ≡ true
  kept_if i li h =
      let d = weight dv in let p = get_or ls a 0 in let x = get_or ls i 0 in
      let found = some_has (is_unpassed rows bs i) bs h in let b : Candidate = found.0 in
      let parts = and_parts (nat_eq b.place i) (not (some_passes rows bs b)) found.2 in
      let same : b.place ≡ i = eqb-true b.place i parts.0 in
      let tb = told b (narrowed.each b (contains_from bs b found.1)) in
      let on : is_on side d p x ≡ true = subst (λ (j : ℕ). is_on side d p (get_or ls j 0) ≡ true) same tb.on in
      let sign = (and_parts (not (nat_eq x p)) (has_sign side (along side d p x)) on).1 in
      elim (cases_Bool (is_kept_at side d ls p x)) [
        | inl kept ↦ and_from (is_kept_at side d ls p x) (has_sign side (along side d p x)) kept sign
        | inr none ↦
            let y = kept_dominator side d ls p x (leaders_are_web dv ls leaders) (has_from ls p (Contains-get_or ls a 0 la)) (has_from ls x (Contains-get_or ls i 0 li)) on none in
            let there = contains_from ls y.0 y.1 in
            let at : get_or ls there.0 0 ≡ y.0 = get_or_default ls there.0 0 y.0 there.1 ∙ there.2 in
            let c = candidate there.0 there.1 (subst (λ (z : ℕ). is_on side d p z ≡ true) (sym at) y.2) (subst (λ (z : ℕ). is_kept_at side d ls p z ≡ true) (sym at) y.3) in
            let tc = told c.0 (narrowed.each c.0 c.1) in
            let lc : get_or ls c.0.place 0 ≡ y.0 = ap (λ (j : ℕ). get_or ls j 0) c.2 ∙ at in
            let lb : get_or ls b.place 0 ≡ x = ap (λ (j : ℕ). get_or ls j 0) same in
            let far : b.place ≢ c.0.place = λ e. y.4 (sym lb ∙ ap (λ (j : ℕ). get_or ls j 0) e ∙ lc) in
            let r : time_of (get_or rows c.0.place []) b.place ≡ along side d y.0 x = read c.0.place b.place tc.below tb.below ∙ ap (λ (z : ℕ). along side d z (get_or ls b.place 0)) lc ∙ ap (along side d y.0) lb in
            let wc : c.0.weight ≡ along side d p y.0 = tc.weight_is ∙ ap (along side d p) lc in
            let wb : b.weight ≡ along side d p x = tb.weight_is ∙ ap (along side d p) lb in
            let s = y.5 in
            let by : passes rows b c.0 ≡ true = and_from (not (nat_eq b.place c.0.place)) (int_eq (time_of (get_or rows c.0.place []) b.place +ℤ c.0.weight) b.weight)
            (not_from_false (nat_eq b.place c.0.place) (ne_eqb b.place c.0.place far)) (eq_int_eq (time_of (get_or rows c.0.place []) b.place +ℤ c.0.weight) b.weight (omega (arith, ints))) in
            absurd (both_ways (some_passes rows bs b) (not-true (some_passes rows bs b) parts.1) (some_from (passes rows b) bs c.0 c.1 by))
      ]

  if_kept : (i : ℕ) → i < length ls → is_kept_on side (weight dv) ls (get_or ls a 0) (get_or ls i 0) ≡ true → list_any (is_unpassed rows bs i) bs ≡ true
  if_kept i li h =
      let d = weight dv in let p = get_or ls a 0 in let x = get_or ls i 0 in
      let parts = and_parts (is_kept_at side d ls p x) (has_sign side (along side d p x)) h in
      let on : is_on side d p x ≡ true = and_from (not (nat_eq x p)) (has_sign side (along side d p x)) (not_from_false (nat_eq x p) (ne_eqb x p (kept_apart side d ls p x parts.0))) parts.1 in
      let c = candidate i li on parts.0 in
      let none = unpassed c.0 (told c.0 (narrowed.each c.0 c.1)) (subst (λ (j : ℕ). is_kept_at side d ls p (get_or ls j 0) ≡ true) (sym c.2) parts.0) in
      some_from (is_unpassed rows bs i) bs c.0 c.1 (and_from (nat_eq c.0.place i) (not (some_passes rows bs c.0)) (eq-eqb c.0.place i c.2) (not_from_false (some_passes rows bs c.0) none))

  -- the edge is kept on the side exactly where a candidate stands there by which none passes
  pub kept_tells : (i : ℕ) → i < length ls → list_any (is_unpassed rows bs i) bs ≡ is_kept_on side (weight dv) ls (get_or ls a 0) (get_or ls i 0)
  kept_tells i li = elim (cases_Bool (list_any (is_unpassed rows bs i) bs)) [
    | inl yes_ ↦ yes_ ∙ sym (kept_if i li yes_)
    | inr no_ ↦ elim (cases_Bool (is_kept_on side (weight dv) ls (get_or ls a 0) (get_or ls i 0))) [
      | inl kept ↦ absurd (both_ways (list_any (is_unpassed rows bs i) bs) no_ (if_kept i li kept))
      | inr none ↦ no_ ∙ sym none
    ]
  ]
