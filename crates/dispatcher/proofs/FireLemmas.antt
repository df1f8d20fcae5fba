-- What the execution of a point makes of a state and its index.
use Rattle.std.proofs.Common.{◌≡◌, ◌≢◌, ℕ, ◌<◌, List, [], ◌∷◌, length, refl, sym, ap, ◌∙◌, subst, arith, pos, inl, inr, get_or, set, map, All, Option, Some, None}
use Rattle.std.proofs.lemmas.Int.{ints}
use Rattle.std.proofs.lemmas.Bool.{cases_eq, eq-eqb, ne_eqb}
use Rattle.std.proofs.lemmas.List.{length-map, length-set, get_or-map, get_or-set_same, get_or-set_other, same_lists}
use Rattle.std.proofs.lemmas.List.Elements.{Contains-get_or, All-from_get_or}
use Rattle.std.specs.Prelude.{ℤ, ◌+ℤ◌, ◌-ℤ◌, Contains}
use Rattle.std.specs.List.{fold}
use Rattle.hs_base.specs.declared.net.Member.{Member}
use Rattle.hs_base.specs.declared.net.Group.{Group}
use Rattle.hs_base.specs.Network.{spread}
use Rattle.hs_base.specs.Reduced.{IsReducedOf}
use Rattle.hs_base.specs.Fits.{Times, put}
use Rattle.hs_base.specs.Dispatch.{stands, group_time, IsReached}
use Rattle.net_laws.proofs.BetweenLemmas.{Has}
use Rattle.net_laws.proofs.ListLemmas.{has_from, contains_from}
use Rattle.net_laws.proofs.TimeLemmas.{time_by_none}
use Rattle.net_laws.proofs.DispatchLemmas.{set as set_law, member as member_law}
use Rattle.net_laws.proofs.StepLemmas.{fired as after_fire}
use Rattle.net_laws.proofs.MoveLemmas.{group_fired, other_fired}
use Rattle.net_laws.proofs.NetworkLemmas.{offset_within, stands_once}
use Rattle.local_propagate.specs.declared.windows.Windows.{Windows}
use Rattle.local_propagate.specs.declared.windows.TheConstants.{NEVER}
use Rattle.local_propagate.specs.Windows.{time_of}
use Rattle.dispatcher.specs.declared.places.Place.{Place}
use Rattle.hs_base.specs.Moments.{MayFire}
use Rattle.dispatcher.specs.State.{State, IsLawful, IsOpen, fired, points, time_in, times_in, moment}
use Rattle.dispatcher.specs.Places.{ArePlaces, IsNearLeader, member, place_at}
use Rattle.dispatcher.specs.Index.{AreSetBy, AreKnown, AreWaits, waited}
use Rattle.dispatcher.proofs.KeptLemmas.{function_is, number_is, place_is, time_of_group}

-- a list of times with one more
pub times_put : (ts : List (Option ℤ)) (x : ℕ) (t : ℤ) → x < length ts → times_in (set ts x (Some t)) ≡ put (times_in ts) x t
times_put ts x t ix = function_is (times_in (set ts x (Some t))) (put (times_in ts) x t) (λ y. elim (cases_eq y x) [
  | inl same ↦ rw (eq-eqb y x same) (subst (λ z. get_or (set ts x (Some t)) z None ≡ Some t) (sym same) (get_or-set_same ts x (Some t) None ix))
  | inr other ↦ rw (ne_eqb y x other) (get_or-set_other ts x y (Some t) None other)
])

put_here : (at : Times) (x : ℕ) (t : ℤ) → put at x t x ≡ Some t
put_here at x t = rw (eq-eqb x x refl) refl

put_there : (at : Times) (x y : ℕ) (t : ℤ) → y ≢ x → put at x t y ≡ at y
put_there at x y t other = rw (ne_eqb y x other) refl

-- the waits of the members of a group
pub length-waited : (t : ℤ) (ms : List Member) (until : List ℤ) → length (fold (waited t) until ms) ≡ length until
length-waited t [] until = refl
length-waited t (m ∷ ms) until = length-waited t ms (waited t until m) ∙ length-set until m.point.0 (t +ℤ m.offset)

waited_out : (t : ℤ) (ms : List Member) (until : List ℤ) (x : ℕ) (d : ℤ) → ((m : Member) → Has ms m → m.point.0 ≢ x) → get_or (fold (waited t) until ms) x d ≡ get_or until x d
waited_out t [] until x d h = refl
waited_out t (m ∷ ms) until x d h = waited_out t ms (waited t until m) x d (λ l j. h l (inr j)) ∙ get_or-set_other until m.point.0 x (t +ℤ m.offset) d (λ e. h m (inl refl) (sym e))

-- a wait that is right stays right
waited_kept : (t o : ℤ) (ms : List Member) (until : List ℤ) (x : ℕ) (d : ℤ) → x < length until → ((m : Member) → Has ms m → m.point.0 ≡ x → m.offset ≡ o) → get_or until x d ≡ t +ℤ o → get_or (fold (waited t) until ms) x d ≡ t +ℤ o
waited_kept t o [] until x d ix h is = is
waited_kept t o (m ∷ ms) until x d ix h is =
    waited_kept t o ms (waited t until m) x d (omega (arith, ix, length-set until m.point.0 (t +ℤ m.offset))) (λ l j. h l (inr j)) (elim (cases_eq m.point.0 x) [
      | inl same ↦ subst (λ z. get_or (set until z (t +ℤ m.offset)) x d ≡ t +ℤ o) (sym same) (get_or-set_same until x (t +ℤ m.offset) d ix ∙ ap (λ z. t +ℤ z) (h m (inl refl) same))
      | inr other ↦ get_or-set_other until m.point.0 x (t +ℤ m.offset) d (λ e. other (sym e)) ∙ is
    ])

waited_in : (t o : ℤ) (ms : List Member) (until : List ℤ) (x : ℕ) (d : ℤ) → x < length until → ((m : Member) → Has ms m → m.point.0 ≡ x → m.offset ≡ o) → (m : Member) → Has ms m → m.point.0 ≡ x → get_or (fold (waited t) until ms) x d ≡ t +ℤ o
waited_in t o [] until x d ix h m i at_x = absurd i
waited_in t o (k ∷ ms) until x d ix h m i at_x =
    let long = length-set until k.point.0 (t +ℤ k.offset) in
    elim (cases_eq k.point.0 x) [
      | inl same ↦ waited_kept t o ms (waited t until k) x d (omega (arith, ix, long)) (λ l j. h l (inr j))
          (subst (λ z. get_or (set until z (t +ℤ k.offset)) x d ≡ t +ℤ o) (sym same) (get_or-set_same until x (t +ℤ k.offset) d ix ∙ ap (λ z. t +ℤ z) (h k (inl refl) same)))
      | inr other ↦ elim i [
        | inl is ↦ absurd (other (ap (λ (z : Member). z.point.0) is ∙ at_x))
        | inr j ↦ waited_in t o ms (waited t until k) x d (omega (arith, ix, long)) (λ l j. h l (inr j)) m j at_x
      ]
    ]

module _ (s : State) (law : IsLawful s) (w : Windows) (places : List Place) (known : List ℕ) (until : List ℤ)
    (by : AreSetBy s.net s.times w) (are : ArePlaces (points s) s.net places) (knows : AreKnown s.net s.times known) (waits : AreWaits w places s.times until)
    (x : ℕ) (is_open : IsOpen s x) (may : MayFire (moment s) x) where
  abbrev at : Times
  at = time_in s

  abbrev n : ℤ
  n = s.tick

  abbrev c : ℕ
  c = points s

  abbrev p : Place
  p = place_at places x

  abbrev next : State
  next = fired s x

  abbrev me : Member
  me = member x p.offset

  no_group : Group
  no_group = record { leader = record { 0 = 0 }; members = [] }

  group_in : (d : Group) → Contains s.net.groups (get_or s.net.groups p.group d)
  group_in d = Contains-get_or s.net.groups p.group d (are.each x is_open.below).within

  me_in : (d : Group) → Contains (stands (get_or s.net.groups p.group d)) me
  me_in d = (are.each x is_open.below).stands d

  at_next : times_in (set s.times x (Some n)) ≡ put at x n
  at_next = times_put s.times x n is_open.below

  long : length (set s.times x (Some n)) ≡ points s
  long = length-set s.times x (Some n)

  -- the state stays lawful
  pub fired_lawful : IsLawful (fired s x)
  fired_lawful =
      let r = after_fire c s.net at n law.reached x is_open.below is_open.none may in
      record {
        reduced = subst (λ z. IsReducedOf z (spread s.net) s.net) (sym long) law.reduced;
        observed = law.observed ∙ sym long;
        reached = subst (λ z. IsReached z s.net (times_in (set s.times x (Some n))) n) (sym long) (subst (λ z. IsReached c s.net z n) (sym at_next) r);
        last = law.last;
      }

  -- the group of the point has now its time
  own : (d : Group) → group_time (times_in (set s.times x (Some n))) (get_or s.net.groups p.group d) ≡ Some (n -ℤ p.offset)
  own d = ap (λ z. group_time z (get_or s.net.groups p.group d)) at_next ∙ group_fired c s.net law.reduced at n law.reached (get_or s.net.groups p.group d) me (group_in d) (me_in d) is_open.none may

  other : (i : ℕ) (d : Group) → i < length s.net.groups → i ≢ p.group → group_time (times_in (set s.times x (Some n))) (get_or s.net.groups i d) ≡ group_time at (get_or s.net.groups i d)
  other i d ii apart =
      let g : Group = get_or s.net.groups p.group d in
      let h : Group = get_or s.net.groups i d in
      ap (λ z. group_time z h) at_next ∙ other_fired c s.net law.reduced at n law.reached g me (group_in d) (me_in d) is_open.none may h (Contains-get_or s.net.groups i d ii)
      (λ same. apart (number_is c s.net law.reduced i p.group d d ii (are.each x is_open.below).within same))

  -- a set group keeps its time
  same_time : (d : Group) (t : ℤ) → group_time at (get_or s.net.groups p.group d) ≡ Some t → n -ℤ p.offset ≡ t
  same_time d t set_at =
      let stood = set_law c s.net at n law.reduced law.reached (get_or s.net.groups p.group d) me t (group_in d) (me_in d) set_at may.s may.fits in
      omega (arith, ints, stood, may.here)

  -- a group that is not set is set at now
  offset_zero : (d : Group) → group_time at (get_or s.net.groups p.group d) ≡ None → p.offset ≡ pos 0
  offset_zero d none = (((member_law c s.net at n law.reduced law.reached (get_or s.net.groups p.group d) me (group_in d) (me_in d) none).1).0 may).0

  -- known points stay known, and a new one is
  known_kept : (i : ℕ) (d : Group) (t : ℤ) → i < length s.net.groups → group_time at (get_or s.net.groups i d) ≡ Some t
      → (o : ℤ) × Contains (stands (get_or s.net.groups i d)) (member (get_or known i 0) o) × (times_in (set s.times x (Some n)) (get_or known i 0) ≡ Some (t +ℤ o))
  known_kept i d t ii set_at =
      let k = knows.each i d t ii set_at in
      let apart : get_or known i 0 ≢ x = λ same. absurd (let f : at (get_or known i 0) ≡ None = ap at same ∙ is_open.none in let g = k.2 in cc) in
      (k.0, k.1, ap (λ z. z (get_or known i 0)) at_next ∙ put_there at x (get_or known i 0) n apart ∙ k.2)

  -- the new index of a point of a set group
  module _ (t : ℤ) (is_set : time_of w p.group ≡ Some t) where
    set_at : (d : Group) → group_time at (get_or s.net.groups p.group d) ≡ Some t
    set_at d = sym (time_of_group s.net s.times at w by.are by.by p.group d (are.each x is_open.below).within) ∙ is_set

    group_kept : (i : ℕ) (d : Group) → i < length s.net.groups → group_time (times_in (set s.times x (Some n))) (get_or s.net.groups i d) ≡ group_time at (get_or s.net.groups i d)
    group_kept i d ii = elim (cases_eq i p.group) [
      | inr apart ↦ other i d ii apart
      | inl same ↦ subst (λ z. group_time (times_in (set s.times x (Some n))) (get_or s.net.groups z d) ≡ group_time at (get_or s.net.groups z d)) (sym same) (own d ∙ ap Some (same_time d t (set_at d)) ∙ sym (set_at d))
    ]

    pub kept_set_by : AreSetBy s.net (set s.times x (Some n)) w
    kept_set_by = record {
      are = by.are;
      by = by.by ∙ same_lists (map (group_time at) s.net.groups) (map (group_time (times_in (set s.times x (Some n)))) s.net.groups)
          (length-map s.net.groups (group_time at) ∙ sym (length-map s.net.groups (group_time (times_in (set s.times x (Some n))))))
          (λ i d il.
          let ii : i < length s.net.groups = omega (arith, il, length-map s.net.groups (group_time at)) in
          get_or-map (group_time at) s.net.groups i no_group d ii ∙ sym (group_kept i no_group ii) ∙ sym (get_or-map (group_time (times_in (set s.times x (Some n)))) s.net.groups i no_group d ii));
    }

    pub kept_known : AreKnown s.net (set s.times x (Some n)) known
    kept_known = record { groups = knows.groups; each = λ i d u ii is. known_kept i d u ii (sym (group_kept i d ii) ∙ is) }

    pub kept_waits : AreWaits w places (set s.times x (Some n)) (set until x NEVER)
    kept_waits = record {
      points = length-set until x NEVER ∙ waits.points ∙ sym long;
      each = λ y d iy. elim (cases_eq y x) [
        | inl same ↦
            let here : times_in (set s.times x (Some n)) y ≡ Some n = ap (λ z. z y) at_next ∙ ap (put at x n) same ∙ put_here at x n in
            ap (λ z. get_or (set until x NEVER) z d) same ∙ get_or-set_same until x NEVER d (omega (arith, is_open.below, waits.points)) ∙ rw here refl
        | inr apart ↦
            let there : times_in (set s.times x (Some n)) y ≡ at y = ap (λ z. z y) at_next ∙ put_there at x y n apart in
            get_or-set_other until x y NEVER d apart ∙ waits.each y d (omega (arith, iy, long)) ∙ rw there refl
      ];
    }

  -- the new index of a point of a group that is not set
  module _ (none : time_of w p.group ≡ None) where
    unset : (d : Group) → group_time at (get_or s.net.groups p.group d) ≡ None
    unset d = sym (time_of_group s.net s.times at w by.are by.by p.group d (are.each x is_open.below).within) ∙ none

    own_now : (d : Group) → group_time (times_in (set s.times x (Some n))) (get_or s.net.groups p.group d) ≡ Some n
    own_now d = own d ∙ ap Some (omega (arith, ints, offset_zero d (unset d)))

    pub new_times : (times : List (Option ℤ)) → times ≡ set w.times.items p.group (Some n) → times ≡ map (group_time (times_in (set s.times x (Some n)))) s.net.groups
    new_times times is = is ∙ same_lists (set w.times.items p.group (Some n)) (map (group_time (times_in (set s.times x (Some n)))) s.net.groups)
        (length-set w.times.items p.group (Some n) ∙ by.are.groups ∙ sym (length-map s.net.groups (group_time (times_in (set s.times x (Some n))))))
        (λ i d il.
        let ii : i < length s.net.groups = omega (arith, il, length-set w.times.items p.group (Some n), by.are.groups) in
        let read = get_or-map (group_time (times_in (set s.times x (Some n)))) s.net.groups i no_group d ii in
        elim (cases_eq i p.group) [
          | inl same ↦ ap (λ z. get_or (set w.times.items p.group (Some n)) z d) same ∙ get_or-set_same w.times.items p.group (Some n) d (omega (arith, (are.each x is_open.below).within, by.are.groups)) ∙ sym (own_now no_group)
              ∙ ap (λ z. group_time (times_in (set s.times x (Some n))) (get_or s.net.groups z no_group)) (sym same) ∙ sym read
          | inr apart ↦ get_or-set_other w.times.items p.group i (Some n) d apart ∙ ap (λ z. get_or z i d) by.by ∙ get_or-map (group_time at) s.net.groups i no_group d ii ∙ sym (other i no_group ii apart) ∙ sym read
        ])

    pub new_known : AreKnown s.net (set s.times x (Some n)) (set known p.group x)
    new_known = record {
      groups = length-set known p.group x ∙ knows.groups;
      each = λ i d t ii is. elim (cases_eq i p.group) [
        | inl same ↦
            let here : get_or (set known p.group x) i 0 ≡ x = ap (λ z. get_or (set known p.group x) z 0) same ∙ get_or-set_same known p.group x 0 (omega (arith, (are.each x is_open.below).within, knows.groups)) in
            let now : Some n ≡ Some t = sym (own_now d) ∙ ap (λ z. group_time (times_in (set s.times x (Some n))) (get_or s.net.groups z d)) (sym same) ∙ is in
            let v : n ≡ t = cc in
            let sum : n ≡ t +ℤ pos 0 = omega (arith, ints, v) in
            let me_zero : member x p.offset ≡ member x (pos 0) = ap (member x) (offset_zero d (unset d)) in (
              pos 0,
              rw here (subst (λ z. Contains (stands (get_or s.net.groups z d)) (member x (pos 0))) (sym same) (subst (λ m. Contains (stands (get_or s.net.groups p.group d)) m) me_zero (me_in d))),
              rw here (ap (λ z. z x) at_next ∙ put_here at x n ∙ ap Some sum),
            )
        | inr apart ↦
            let there : get_or (set known p.group x) i 0 ≡ get_or known i 0 = get_or-set_other known p.group i x 0 apart in
            let k = known_kept i d t ii (sym (other i d ii apart) ∙ is) in
            (k.0, rw there k.1, rw there k.2)
      ];
    }

    pub near_members : (d : Group) → All (IsNearLeader (length until)) (stands (get_or s.net.groups p.group d))
    near_members d = All-from_get_or (IsNearLeader (length until)) (stands (get_or s.net.groups p.group d)) me (λ i ii.
        let o = offset_within c s.net law.reduced (get_or s.net.groups p.group d) (get_or (stands (get_or s.net.groups p.group d)) i me) (group_in d) (Contains-get_or (stands (get_or s.net.groups p.group d)) i me ii) in
        record { below = omega (arith, o.below, waits.points); low = o.low; high = o.high })

    pub new_waits : (v : Windows) (d : Group) → v.times.items ≡ set w.times.items p.group (Some n) → AreWaits v places (set s.times x (Some n)) (set (fold (waited n) until (stands (get_or s.net.groups p.group d))) x NEVER)
    new_waits v d is = record {
      points = length-set (fold (waited n) until (stands (get_or s.net.groups p.group d))) x NEVER ∙ length-waited n (stands (get_or s.net.groups p.group d)) until ∙ waits.points ∙ sym long;
      each = λ y e iy.
          let ms : List Member = stands (get_or s.net.groups p.group d) in
          let all : List ℤ = fold (waited n) until ms in
          let all_long : length all ≡ length until = length-waited n ms until in
          let il : y < points s = omega (arith, iy, long) in
          let q : Place = place_at places y in
          elim (cases_eq y x) [
            | inl same ↦
                let here : times_in (set s.times x (Some n)) y ≡ Some n = ap (λ z. z y) at_next ∙ ap (put at x n) same ∙ put_here at x n in
                ap (λ z. get_or (set all x NEVER) z e) same ∙ get_or-set_same all x NEVER e (omega (arith, is_open.below, waits.points, all_long)) ∙ rw here refl
            | inr apart ↦
                let there : times_in (set s.times x (Some n)) y ≡ at y = ap (λ z. z y) at_next ∙ put_there at x y n apart in
                get_or-set_other all x y NEVER e apart ∙ elim (cases_eq q.group p.group) [
                  | inl mine ↦
                      let new : time_of v q.group ≡ Some n = ap (λ z. get_or z q.group None) is ∙ ap (λ z. get_or (set w.times.items p.group (Some n)) z None) mine ∙ get_or-set_same w.times.items p.group (Some n) None (omega (arith, (are.each x is_open.below).within, by.are.groups)) in
                      let im : Contains ms (member y q.offset) = subst (λ z. Contains (stands (get_or s.net.groups z d)) (member y q.offset)) mine ((are.each y il).stands d) in
                      let open_y : at y ≡ None = time_by_none at ms (unset d) (member y q.offset) (has_from ms (member y q.offset) im) in
                      let waits_here : get_or all y e ≡ n +ℤ q.offset = waited_in n q.offset ms until y e (omega (arith, il, waits.points)) (λ m j at_y.
                      (stands_once c s.net law.reduced (get_or s.net.groups p.group d) (get_or s.net.groups p.group d) m (member y q.offset) (group_in d) (group_in d) (contains_from ms m j) im at_y).1) (member y q.offset) (has_from ms (member y q.offset) im) refl in
                      waits_here ∙ rw (there, open_y, new) refl
                  | inr theirs ↦
                      let old : time_of v q.group ≡ time_of w q.group = ap (λ z. get_or z q.group None) is ∙ get_or-set_other w.times.items p.group q.group (Some n) None theirs in
                      let kept : get_or all y e ≡ get_or until y e = waited_out n ms until y e (λ m j at_y.
                      let k = place_is c s.net law.reduced places are (get_or s.net.groups p.group d) m (group_in d) (contains_from ms m j) in
                      let same_group : (place_at places m.point.0).group ≡ p.group = number_is c s.net law.reduced (place_at places m.point.0).group p.group (get_or s.net.groups p.group d) d k.within (are.each x is_open.below).within (ap (λ (z : Group). z.leader.0) k.group) in
                      theirs (ap (λ z. (place_at places z).group) (sym at_y) ∙ same_group)) in
                      kept ∙ waits.each y e il ∙ rw (there, old) refl
                ]
          ];
    }
