-- Places as they are noted group by group.
use Rattle.std.proofs.Common.{◌≡◌, ℕ, ◌+◌, ◌^◌, ◌<◌, ◌≤◌, List, [], ◌∷◌, length, refl, sym, ap, ◌∙◌, subst, arith, pos, inl, inr, get_or, set, All}
use Rattle.std.proofs.lemmas.Bool.{cases_eq, cases_lt}
use Rattle.std.proofs.lemmas.List.{length-set, get_or-set_same, get_or-set_other, get_or_default}
use Rattle.std.proofs.lemmas.List.Elements.{Contains-get_or, All-from_get_or}
use Rattle.std.specs.Prelude.{Contains}
use Rattle.std.specs.List.{fold}
use Rattle.hs_base.specs.declared.net.Member.{Member}
use Rattle.hs_base.specs.declared.net.Group.{Group}
use Rattle.hs_base.specs.declared.net.Net.{Net}
use Rattle.hs_base.specs.Network.{spread}
use Rattle.hs_base.specs.Reduced.{IsReducedOf}
use Rattle.hs_base.specs.Dispatch.{stands}
use Rattle.net_laws.proofs.BetweenLemmas.{Has}
use Rattle.net_laws.proofs.ListLemmas.{has_from, contains_from}
use Rattle.net_laws.proofs.DispatchLemmas.{each_stands}
use Rattle.net_laws.proofs.NetworkLemmas.{offset_within}
use Rattle.dispatcher.specs.declared.places.Place.{Place}
use Rattle.dispatcher.specs.Places.{ArePlaces, IsNearLeader, IsSmall, StandsAt, member, no_place, place_at, placed}

pub length-placed : (i : ℕ) (ms : List Member) (ps : List Place) → length (fold (placed i) ps ms) ≡ length ps
length-placed i [] ps = refl
length-placed i (m ∷ ms) ps = length-placed i ms (placed i ps m) ∙ length-set ps m.point.0 (record { group = i; offset = m.offset })

-- what holds of a place, and of each new one, holds of it afterwards
placed_keeps : (P : Place → Type 0) (i : ℕ) (ms : List Member) (ps : List Place) (x : ℕ) → x < length ps → P (place_at ps x) → ((m : Member) → Has ms m → m.point.0 ≡ x → P (record { group = i; offset = m.offset })) → P (place_at (fold (placed i) ps ms) x)
placed_keeps P i [] ps x ix h each = h
placed_keeps P i (m ∷ ms) ps x ix h each =
    let q : Place = record { group = i; offset = m.offset } in
    placed_keeps P i ms (placed i ps m) x (omega (arith, ix, length-set ps m.point.0 q)) (elim (cases_eq m.point.0 x) [
      | inl same ↦ subst P (sym (ap (λ z. place_at (set ps z q) x) same ∙ get_or-set_same ps x q no_place ix)) (each m (inl refl) same)
      | inr other ↦ subst P (sym (get_or-set_other ps m.point.0 x q no_place (λ e. other (sym e)))) h
    ]) (λ l j. each l (inr j))

placed_in : (P : Place → Type 0) (i : ℕ) (ms : List Member) (ps : List Place) (x : ℕ) → x < length ps → ((m : Member) → Has ms m → m.point.0 ≡ x → P (record { group = i; offset = m.offset })) → (m : Member) → Has ms m → m.point.0 ≡ x → P (place_at (fold (placed i) ps ms) x)
placed_in P i [] ps x ix each m j at_x = absurd j
placed_in P i (k ∷ ms) ps x ix each m j at_x =
    let q : Place = record { group = i; offset = k.offset } in
    let long = length-set ps k.point.0 q in
    elim (cases_eq k.point.0 x) [
      | inl same ↦ placed_keeps P i ms (placed i ps k) x (omega (arith, ix, long)) (subst P (sym (ap (λ z. place_at (set ps z q) x) same ∙ get_or-set_same ps x q no_place ix)) (each k (inl refl) same)) (λ l h. each l (inr h))
      | inr other ↦ elim j [
        | inl is ↦ absurd (other (ap (λ (z : Member). z.point.0) is ∙ at_x))
        | inr h ↦ placed_in P i ms (placed i ps k) x (omega (arith, ix, long)) (λ l g. each l (inr g)) m h at_x
      ]
    ]

module _ (c : ℕ) (net : Net) (is : IsReducedOf c (spread net) net) where
  -- the members of a group are near it
  pub near_group : (i n : ℕ) (d : Group) → i < length net.groups → n ≡ c → All (IsNearLeader n) (stands (get_or net.groups i d))
  near_group i n d ii same = All-from_get_or (IsNearLeader n) (stands (get_or net.groups i d)) (record { point = record { 0 = 0 }; offset = pos 0 }) (λ k kk.
      let o = offset_within c net is (get_or net.groups i d) (get_or (stands (get_or net.groups i d)) k (record { point = record { 0 = 0 }; offset = pos 0 })) (Contains-get_or net.groups i d ii) (Contains-get_or (stands (get_or net.groups i d)) k (record { point = record { 0 = 0 }; offset = pos 0 }) kk) in
      record { below = omega (arith, o.below, same); low = o.low; high = o.high })

  stands_there : (i : ℕ) (d : Group) (x : ℕ) → i < length net.groups → (m : Member) → Has (stands (get_or net.groups i d)) m → m.point.0 ≡ x → StandsAt net x (record { group = i; offset = m.offset })
  stands_there i d x ii m im at_x = record {
    within = ii;
    stands = λ g.
        let same : get_or net.groups i d ≡ get_or net.groups i g = get_or_default net.groups i d g ii in
        subst (λ z. Contains (stands (get_or net.groups i g)) (member z m.offset)) at_x (contains_from (stands (get_or net.groups i g)) m (subst (λ z. Has (stands z) m) same im));
  }

  -- one more group is placed
  pub group_placed : (i : ℕ) (d : Group) (ps : List Place) → i < length net.groups → length ps ≡ c
      → ((j : ℕ) (g : Group) (m : Member) → j < i → j < length net.groups → Contains (stands (get_or net.groups j g)) m → StandsAt net m.point.0 (place_at ps m.point.0))
      → (j : ℕ) (g : Group) (m : Member) → j < i + 1 → j < length net.groups → Contains (stands (get_or net.groups j g)) m → StandsAt net m.point.0 (place_at (fold (placed i) ps (stands (get_or net.groups i d))) m.point.0)
  group_placed i d ps ii long before j g m ji jj im =
      let o = offset_within c net is (get_or net.groups j g) m (Contains-get_or net.groups j g jj) im in
      let il : m.point.0 < length ps = omega (arith, o.below, long) in
      elim (cases_eq j i) [
        | inr other ↦ placed_keeps (StandsAt net m.point.0) i (stands (get_or net.groups i d)) ps m.point.0 il (before j g m (omega (arith, other)) jj im) (stands_there i d m.point.0 ii)
        | inl same ↦
            let there : get_or net.groups j g ≡ get_or net.groups i d = ap (λ z. get_or net.groups z g) same ∙ get_or_default net.groups i g d ii in
            placed_in (StandsAt net m.point.0) i (stands (get_or net.groups i d)) ps m.point.0 il (stands_there i d m.point.0 ii) m (subst (λ z. Has (stands z) m) there (has_from (stands (get_or net.groups j g)) m im)) refl
      ]

  -- all groups are placed, so all points are
  pub all_placed : (ps : List Place) → length ps ≡ c → ((j : ℕ) (g : Group) (m : Member) → j < length net.groups → Contains (stands (get_or net.groups j g)) m → StandsAt net m.point.0 (place_at ps m.point.0)) → ArePlaces c net ps
  all_placed ps long each = record {
    points = long;
    each = λ x ix.
        let r = each_stands c net is x ix in
        let there : get_or net.groups r.2.0 r.0 ≡ r.0 = r.2.2 in
        subst (λ z. StandsAt net z (place_at ps z)) r.4 (each r.2.0 r.0 r.1 r.2.1 (subst (λ z. Contains (stands z) r.1) (sym there) r.3));
  }

  -- all points have numbers of 32 bits, so there are not more
  pub all_small : ((j : ℕ) (g : Group) (m : Member) → j < length net.groups → Contains (stands (get_or net.groups j g)) m → IsSmall m) → c ≤ 2 ^ 32
  all_small each = elim (cases_lt (2 ^ 32) c) [
    | inr few ↦ few
    | inl many ↦
        let r = each_stands c net is (2 ^ 32) many in
        let there : get_or net.groups r.2.0 r.0 ≡ r.0 = r.2.2 in
        absurd (omega (arith, r.4, each r.2.0 r.0 r.1 r.2.1 (subst (λ z. Contains (stands z) r.1) (sym there) r.3)))
  ]
