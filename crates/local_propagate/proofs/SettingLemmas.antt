-- What setting one group makes of the windows of a network.
use Rattle.std.proofs.Common.{◌≡◌, ◌≢◌, ℕ, zero, suc, ◌+◌, ◌<◌, false, List, [], ◌∷◌, length, refl, sym, ap, ◌∙◌, arith, pos, inl, inr, get_or, set, filter, Option, Some, None}
use Rattle.std.proofs.lemmas.Bool.{cases_eq, cases_Bool, eq-eqb, ne_eqb, eqb-true}
use Rattle.std.proofs.lemmas.List.{length-map}
use Rattle.std.specs.Prelude.{ℤ, ◌+ℤ◌, ◌-ℤ◌, ◌&&◌, nat_eq, int_lt, Contains}
use Rattle.std.specs.List.{count_by}
use Rattle.std.specs.Option.{is_none}
use Rattle.hs_base.specs.declared.net.Bound.{Bound}
use Rattle.hs_base.specs.declared.net.Group.{Group}
use Rattle.hs_base.specs.Fits.{Times, put}
use Rattle.hs_base.specs.Dispatch.{lookup_time}
use Rattle.hs_base.specs.Windows.{IsLow, IsHigh}
use Rattle.net_laws.proofs.BetweenLemmas.{Has}
use Rattle.net_laws.proofs.ListLemmas.{has_from, contains_from, has_map, map_has, has_filter, filter_has}
use Rattle.net_laws.proofs.WindowLemmas.{low_set, high_set}
use Rattle.local_propagate.specs.declared.neighbours.Neighbour.{Neighbour}
use Rattle.local_propagate.specs.Joined.{leaders_of, place_of, AreDifferent, after_of, before_of}
use Rattle.local_propagate.specs.Windows.{waits_at}
use Rattle.local_propagate.proofs.JoinedLemmas.{different_tail, place_at, stands_at}
use Rattle.local_propagate.proofs.NarrowLemmas.{Raised, Lowered, leaves, count_yes, count_no}

-- the time of the leader at i is the i-th
pub lookup_at : (gs : List Group) (os : List (Option ℤ)) (i : ℕ) → AreDifferent (leaders_of gs) → i < length gs → lookup_time gs os (get_or (leaders_of gs) i 0) ≡ get_or os i None
lookup_at [] os i h ii = absurd (omega (arith, ii))
lookup_at (g ∷ gs) [] i h ii = refl
lookup_at (g ∷ gs) (o ∷ os) zero h ii = rw (eq-eqb g.leader.0 g.leader.0 refl) refl
lookup_at (g ∷ gs) (o ∷ os) (suc i) h ii = elim (cases_eq g.leader.0 (get_or (leaders_of gs) i 0)) [
  | inl same ↦ absurd (let z : 0 ≡ suc i = h.each 0 (suc i) (omega arith) (omega (arith, ii, length-map gs (λ (x : Group). x.leader.0))) same in cc)
  | inr other ↦ rw (ne_eqb g.leader.0 (get_or (leaders_of gs) i 0) other) (lookup_at gs os i (different_tail g.leader.0 (leaders_of gs) h) (omega (arith, ii)))
]

-- one more set group
pub lookup_set : (gs : List Group) (os : List (Option ℤ)) (i : ℕ) (t : ℤ) (x : ℕ) → AreDifferent (leaders_of gs) → i < length gs → i < length os
    → lookup_time gs (set os i (Some t)) x ≡ put (lookup_time gs os) (get_or (leaders_of gs) i 0) t x
lookup_set [] os i t x h ii jj = absurd (omega (arith, ii))
lookup_set (g ∷ gs) [] i t x h ii jj = absurd (omega (arith, jj))
lookup_set (g ∷ gs) (o ∷ os) zero t x h ii jj = elim (cases_eq x g.leader.0) [
  | inl same ↦ rw (eq-eqb x g.leader.0 same, eq-eqb g.leader.0 x (sym same)) refl
  | inr other ↦ rw (ne_eqb x g.leader.0 other, ne_eqb g.leader.0 x (λ e. other (sym e))) refl
]
lookup_set (g ∷ gs) (o ∷ os) (suc i) t x h ii jj =
    let a : ℕ = get_or (leaders_of gs) i 0 in
    let rest = lookup_set gs os i t x (different_tail g.leader.0 (leaders_of gs) h) (omega (arith, ii)) (omega (arith, jj)) in
    elim (cases_eq g.leader.0 x) [
      | inr other ↦ rw (ne_eqb g.leader.0 x other) rest
      | inl same ↦
          let apart : x ≢ a = λ e. absurd (let z : 0 ≡ suc i = h.each 0 (suc i) (omega arith) (omega (arith, ii, length-map gs (λ (y : Group). y.leader.0))) (same ∙ e) in cc) in
          rw (eq-eqb g.leader.0 x same, ne_eqb x a apart) refl
    ]

-- windows look at the times of leaders alone
pub low_agree : (edges : List Bound) (time other : Times) (a : ℕ) (v : ℤ) → ((x : ℕ) → time x ≡ other x) → IsLow edges other a v → IsLow edges time a v
low_agree edges time other a v same low = record {
  start = low.start;
  covers = λ e t ie from set. low.covers e t ie from (sym (same e.to.0) ∙ set);
  among = elim low.among [ inl z ↦ inl z | inr r ↦ inr (r.0, r.1, r.2, r.3, same r.0.to.0 ∙ r.4, r.5) ];
}

pub high_agree : (edges : List Bound) (time other : Times) (a : ℕ) (v : ℤ) → ((x : ℕ) → time x ≡ other x) → IsHigh edges other a v → IsHigh edges time a v
high_agree edges time other a v same high = record {
  start = high.start;
  covers = λ e t ie to set. high.covers e t ie to (sym (same e.from.0) ∙ set);
  among = elim high.among [ inl z ↦ inl z | inr r ↦ inr (r.0, r.1, r.2, r.3, same r.0.from.0 ∙ r.4, r.5) ];
}

module _ (ls : List ℕ) (edges : List Bound) (h : AreDifferent ls) where
  -- the edges that a neighbour stands for
  pub has_after : (a : ℕ) (n : Neighbour) → Has (after_of ls edges a) n → (e : Bound) × Contains edges e × (e.from.0 ≡ a) × (place_of ls e.to.0 ≡ n.group) × (e.most ≡ n.most)
  has_after a n i =
      let r = has_map (λ (e : Bound). record { group = place_of ls e.to.0; most = e.most }) (filter (λ (e : Bound). nat_eq e.from.0 a) edges) n i in
      let f = has_filter (λ (e : Bound). nat_eq e.from.0 a) edges r.0 r.1 in
      (r.0, contains_from edges r.0 f.0, eqb-true _ _ f.1, ap (λ (z : Neighbour). z.group) r.2, ap (λ (z : Neighbour). z.most) r.2)

  pub after_has : (a : ℕ) (e : Bound) → Contains edges e → e.from.0 ≡ a → Has (after_of ls edges a) (record { group = place_of ls e.to.0; most = e.most })
  after_has a e ie from = map_has (λ (e : Bound). record { group = place_of ls e.to.0; most = e.most }) (filter (λ (e : Bound). nat_eq e.from.0 a) edges) e (filter_has (λ (e : Bound). nat_eq e.from.0 a) edges e (has_from edges e ie) (eq-eqb _ _ from))

  pub has_before : (a : ℕ) (n : Neighbour) → Has (before_of ls edges a) n → (e : Bound) × Contains edges e × (e.to.0 ≡ a) × (place_of ls e.from.0 ≡ n.group) × (e.most ≡ n.most)
  has_before a n i =
      let r = has_map (λ (e : Bound). record { group = place_of ls e.from.0; most = e.most }) (filter (λ (e : Bound). nat_eq e.to.0 a) edges) n i in
      let f = has_filter (λ (e : Bound). nat_eq e.to.0 a) edges r.0 r.1 in
      (r.0, contains_from edges r.0 f.0, eqb-true _ _ f.1, ap (λ (z : Neighbour). z.group) r.2, ap (λ (z : Neighbour). z.most) r.2)

  pub before_has : (a : ℕ) (e : Bound) → Contains edges e → e.to.0 ≡ a → Has (before_of ls edges a) (record { group = place_of ls e.from.0; most = e.most })
  before_has a e ie to = map_has (λ (e : Bound). record { group = place_of ls e.from.0; most = e.most }) (filter (λ (e : Bound). nat_eq e.to.0 a) edges) e (filter_has (λ (e : Bound). nat_eq e.to.0 a) edges e (has_from edges e ie) (eq-eqb _ _ to))

  -- which leader stands at a place
  pub at_place : (b i : ℕ) → Contains ls b → place_of ls b ≡ i → b ≡ get_or ls i 0
  at_place b i ib p = sym (stands_at ls b h ib).is ∙ ap (λ z. get_or ls z 0) p

  pub place_is : (b i : ℕ) → i < length ls → b ≡ get_or ls i 0 → place_of ls b ≡ i
  place_is b i ii is = ap (place_of ls) is ∙ place_at ls i h ii

  module _ (ends : (e : Bound) → Contains edges e → Contains ls e.from.0 × Contains ls e.to.0) (time : Times) (a : ℕ) (t : ℤ) (unset : time a ≡ None) (i : ℕ) (ii : i < length ls) where
    pub low_now : (old v : ℤ) → IsLow edges time (get_or ls i 0) old → Raised t (before_of ls edges a) old i v → IsLow edges (put time a t) (get_or ls i 0) v
    low_now old v low r = low_set edges time a t unset (get_or ls i 0) old v low r.old_in
        (λ e ie from to. r.each (record { group = place_of ls e.from.0; most = e.most }) (before_has a e ie to) (place_is e.from.0 i ii from))
        (elim r.among [
          | inl e ↦ inl e
          | inr m ↦ let f = has_before a m.0 m.1 in inr (f.0, f.1, at_place f.0.from.0 i (ends f.0 f.1).0 (f.3 ∙ m.2), f.2, m.3 ∙ ap (λ z. t -ℤ z) (sym f.4))
        ])

    pub high_now : (times : List (Option ℤ)) (old v : ℤ) → IsHigh edges time (get_or ls i 0) old → Lowered t times (after_of ls edges a) old i v → IsHigh edges (put time a t) (get_or ls i 0) v
    high_now times old v high r = high_set edges time a t unset (get_or ls i 0) old v high r.old_in
        (λ e ie to from. r.each (record { group = place_of ls e.to.0; most = e.most }) (after_has a e ie from) (place_is e.to.0 i ii to))
        (elim r.among [
          | inl e ↦ inl e
          | inr m ↦ let f = has_after a m.0 m.1 in inr (f.0, f.1, at_place f.0.to.0 i (ends f.0 f.1).1 (f.3 ∙ m.2), f.2, m.3 ∙ ap (λ z. t +ℤ z) (sym f.4))
        ])

-- the negative edges to unset groups, counted before and after
pub waits_now : (ls : List ℕ) → AreDifferent ls → (time next : Times) (a : ℕ) (t : ℤ) → time a ≡ None → ((x : ℕ) → next x ≡ put time a t x) → (i : ℕ) → i < length ls → (es : List Bound) → ((e : Bound) → Has es e → Contains ls e.from.0)
    → count_by (waits_at next (get_or ls i 0)) es + count_by (leaves i) (before_of ls es a) ≡ count_by (waits_at time (get_or ls i 0)) es
waits_now ls h time next a t unset same i ii [] ends = refl
waits_now ls h time next a t unset same i ii (e ∷ es) ends =
    let rest = waits_now ls h time next a t unset same i ii es (λ f j. ends f (inr j)) in
    let x : ℕ = get_or ls i 0 in
    let n : Neighbour = record { group = place_of ls e.from.0; most = e.most } in
    elim (cases_eq e.to.0 a) [
      | inr other ↦
          let there : next e.to.0 ≡ time e.to.0 = same e.to.0 ∙ rw (ne_eqb e.to.0 a other) refl in
          let left_out : before_of ls (e ∷ es) a ≡ before_of ls es a = rw (ne_eqb e.to.0 a other) refl in
          let skipped = ap (count_by (leaves i)) left_out in
          let alike : waits_at next x e ≡ waits_at time x e = ap (λ o. nat_eq e.from.0 x && (int_lt e.most (pos 0) && is_none o)) there in
          elim (cases_Bool (waits_at time x e)) [
            | inl yes_ ↦ omega (arith, rest, skipped, count_yes (waits_at time x) e es yes_, count_yes (waits_at next x) e es (alike ∙ yes_))
            | inr no_ ↦ omega (arith, rest, skipped, count_no (waits_at time x) e es no_, count_no (waits_at next x) e es (alike ∙ no_))
          ]
      | inl is ↦
          let there : next e.to.0 ≡ Some t = same e.to.0 ∙ rw (eq-eqb e.to.0 a is) refl in
          let was : time e.to.0 ≡ None = ap time is ∙ unset in
          let taken : before_of ls (e ∷ es) a ≡ n ∷ before_of ls es a = rw (eq-eqb e.to.0 a is) refl in
          let one_more = ap (count_by (leaves i)) taken in
          let here : nat_eq n.group i ≡ nat_eq e.from.0 x = elim (cases_eq e.from.0 x) [
            | inl f ↦ eq-eqb n.group i (ap (place_of ls) f ∙ place_at ls i h ii) ∙ sym (eq-eqb e.from.0 x f)
            | inr f ↦ ne_eqb n.group i (λ p. f (sym (stands_at ls e.from.0 h (ends e (inl refl))).is ∙ ap (λ z. get_or ls z 0) p)) ∙ sym (ne_eqb e.from.0 x f)
          ] in
          let gone : waits_at next x e ≡ false = rw there (elim (cases_Bool (nat_eq e.from.0 x)) [
            | inr f ↦ rw f refl
            | inl f ↦ elim (cases_Bool (int_lt e.most (pos 0))) [ inl g ↦ rw (f, g) refl | inr g ↦ rw (f, g) refl ]
          ]) in
          let alike : leaves i n ≡ waits_at time x e = rw (here, was) (elim (cases_Bool (nat_eq e.from.0 x)) [
            | inr f ↦ rw f refl
            | inl f ↦ elim (cases_Bool (int_lt e.most (pos 0))) [ inl g ↦ rw (f, g) refl | inr g ↦ rw (f, g) refl ]
          ]) in
          elim (cases_Bool (waits_at time x e)) [
            | inl yes_ ↦ omega (arith, rest, one_more, count_yes (waits_at time x) e es yes_, count_no (waits_at next x) e es gone, count_yes (leaves i) n (before_of ls es a) (alike ∙ yes_))
            | inr no_ ↦ omega (arith, rest, one_more, count_no (waits_at time x) e es no_, count_no (waits_at next x) e es gone, count_no (leaves i) n (before_of ls es a) (alike ∙ no_))
          ]
    ]
