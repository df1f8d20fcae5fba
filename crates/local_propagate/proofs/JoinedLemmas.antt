-- Groups by number, and the lists of their neighbours as they are made edge by edge.
use Rattle.std.proofs.Common.{◌≡◌, ◌≢◌, ℕ, zero, suc, ◌+◌, ◌<◌, ◌≤◌, true, false, List, [], ◌∷◌, ◌++◌, length, refl, sym, ap, ◌∙◌, subst, arith, inl, inr, get_or, set, take, map, filter, replicate, All}
use Rattle.std.proofs.lemmas.Bool.{cases_eq, eq-eqb, ne_eqb}
use Rattle.std.proofs.lemmas.List.{get_or-set_same, get_or-set_other, length-set, length-map, get_or-map, get_or_default, same_lists, map-append, append-nil, map_more}
use Rattle.std.proofs.lemmas.List.Elements.{filter_more, All-push, All-map, All-filter, All-weaker, All-contains_itself, Contains-get_or}
use Rattle.std.specs.Prelude.{nat_eq, Contains}
use Rattle.hs_base.specs.declared.net.Bound.{Bound}
use Rattle.hs_base.specs.declared.net.Group.{Group}
use Rattle.hs_base.specs.declared.net.Net.{Net}
use Rattle.local_propagate.specs.declared.neighbours.Neighbour.{Neighbour}
use Rattle.local_propagate.specs.Joined.{leaders_of, place_of, Joins, AreDifferent, IsJoined, ArePlaces, IsNear}

pub different_tail : (l : ℕ) (ls : List ℕ) → AreDifferent (l ∷ ls) → AreDifferent ls
different_tail l ls h = record { each = λ i j ii jj same. omega (arith, h.each (suc i) (suc j) (omega (arith, ii)) (omega (arith, jj)) same) }

-- the place of the leader at i is i
pub place_at : (ls : List ℕ) (i : ℕ) → AreDifferent ls → i < length ls → place_of ls (get_or ls i 0) ≡ i
place_at [] i h ii = absurd (omega (arith, ii))
place_at (l ∷ ls) zero h ii = rw (eq-eqb l l refl) refl
place_at (l ∷ ls) (suc i) h ii = elim (cases_eq l (get_or ls i 0)) [
  | inl same ↦ absurd (let z : 0 ≡ suc i = h.each 0 (suc i) (omega (arith, ii)) ii same in cc)
  | inr other ↦ rw (ne_eqb l (get_or ls i 0) other) (ap suc (place_at ls i (different_tail l ls h) (omega (arith, ii))))
]

-- a leader stands at its place
pub record StandsAt (ls : List ℕ) (a i : ℕ) : Type 0 where
  pub within : i < length ls
  pub is : get_or ls i 0 ≡ a

pub index_of : (ls : List ℕ) (a : ℕ) → Contains ls a → (i : ℕ) × StandsAt ls a i
index_of ls a h = (h.0, record { within = h.1; is = get_or_default ls h.0 0 a h.1 ∙ h.2 })

pub stands_at : (ls : List ℕ) (a : ℕ) → AreDifferent ls → Contains ls a → StandsAt ls a (place_of ls a)
stands_at ls a h i =
    let r = index_of ls a i in
    let p : place_of ls a ≡ r.0 = ap (place_of ls) (sym r.1.is) ∙ place_at ls r.0 h r.1.within in
    subst (StandsAt ls a) (sym p) r.1

-- places are filled group by group
pub fill_more : (ls places : List ℕ) (i : ℕ) → AreDifferent ls → i < length ls → get_or ls i 0 < length places → ((j : ℕ) → j < i → get_or places (get_or ls j 0) 0 ≡ j)
    → (j : ℕ) → j < i + 1 → get_or (set places (get_or ls i 0) i) (get_or ls j 0) 0 ≡ j
fill_more ls places i h ii il each j jj = elim (cases_eq j i) [
  | inl same ↦ rw same (get_or-set_same places (get_or ls i 0) i 0 il)
  | inr other ↦
      let jl : j < i = omega (arith, other) in
      let apart : get_or ls j 0 ≢ get_or ls i 0 = λ same. other (h.each j i (omega arith) ii same) in
      get_or-set_other places (get_or ls i 0) (get_or ls j 0) i 0 apart ∙ each j jl
]

pub filled : (ls places : List ℕ) → AreDifferent ls → All (λ a. a < length places) ls → ((j : ℕ) → j < length ls → get_or places (get_or ls j 0) 0 ≡ j) → ArePlaces ls places
filled ls places h within each = record {
  within = λ a i. let r = index_of ls a i in omega (arith, within r.0 0 r.1.within, r.1.is);
  each = λ a i.
      let r = index_of ls a i in
      subst (λ z. get_or places z 0 ≡ place_of ls z) r.1.is (each r.0 r.1.within ∙ sym (place_at ls r.0 h r.1.within));
}

-- the lists by one end of the edges
module _ (ls : List ℕ) (end : Bound → ℕ) (next : Bound → Neighbour) where
  abbrev pub list_by : List Bound → ℕ → List Neighbour
  list_by edges a = map next (filter (λ e. nat_eq (end e) a) edges)

  here_more : (edges : List Bound) (k a : ℕ) (d : Bound) → k < length edges → end (get_or edges k d) ≡ a → list_by (take (k + 1) edges) a ≡ list_by (take k edges) a ++ next (get_or edges k d) ∷ []
  here_more edges k a d kk is =
      let test : nat_eq (end (get_or edges k d)) a ≡ true = eq-eqb _ _ is in
      ap (map next) (filter_more (λ e. nat_eq (end e) a) edges k d kk ∙ rw test refl) ∙ map-append next (filter (λ e. nat_eq (end e) a) (take k edges)) (get_or edges k d ∷ [])

  there_more : (edges : List Bound) (k a : ℕ) (d : Bound) → k < length edges → end (get_or edges k d) ≢ a → list_by (take (k + 1) edges) a ≡ list_by (take k edges) a
  there_more edges k a d kk other =
      let test : nat_eq (end (get_or edges k d)) a ≡ false = ne_eqb _ _ other in
      ap (map next) (filter_more (λ e. nat_eq (end e) a) edges k d kk ∙ rw test (append-nil (filter (λ e. nat_eq (end e) a) (take k edges))))

  pub list_more : (edges : List Bound) (k : ℕ) (d : Bound) → AreDifferent ls → k < length edges → Contains ls (end (get_or edges k d))
      → set (map (list_by (take k edges)) ls) (place_of ls (end (get_or edges k d))) (get_or (map (list_by (take k edges)) ls) (place_of ls (end (get_or edges k d))) [] ++ next (get_or edges k d) ∷ []) ≡ map (list_by (take (k + 1) edges)) ls
  list_more edges k d h kk ie =
      let e : Bound = get_or edges k d in
      let p : ℕ = place_of ls (end e) in
      let at = stands_at ls (end e) h ie in
      let old : List (List Neighbour) = map (list_by (take k edges)) ls in
      let new : List (List Neighbour) = map (list_by (take (k + 1) edges)) ls in
      let old_long : length old ≡ length ls = length-map ls (list_by (take k edges)) in
      let new_long : length new ≡ length ls = length-map ls (list_by (take (k + 1) edges)) in
      let v : List Neighbour = get_or old p [] ++ next e ∷ [] in
      let set_long : length (set old p v) ≡ length old = length-set old p v in
      same_lists (set old p v) new (omega arith) (λ i dl il.
      let ii : i < length ls = omega (arith, il) in
      let read : get_or new i dl ≡ list_by (take (k + 1) edges) (get_or ls i 0) = get_or-map (list_by (take (k + 1) edges)) ls i 0 dl ii in
      let was : get_or old i dl ≡ list_by (take k edges) (get_or ls i 0) = get_or-map (list_by (take k edges)) ls i 0 dl ii in
      elim (cases_eq i p) [
        | inl same ↦
            let was_p : get_or old p [] ≡ list_by (take k edges) (get_or ls p 0) = get_or-map (list_by (take k edges)) ls p 0 [] at.within in
            ap (λ z. get_or (set old p v) z dl) same ∙ get_or-set_same old p v dl (omega (arith, at.within)) ∙ ap (λ z. z ++ next e ∷ []) was_p
            ∙ sym (here_more edges k (get_or ls p 0) d kk (sym at.is)) ∙ ap (λ z. list_by (take (k + 1) edges) (get_or ls z 0)) (sym same) ∙ sym read
        | inr other ↦
            let apart : end e ≢ get_or ls i 0 = λ is. other (h.each i p ii at.within (sym is ∙ sym at.is)) in
            get_or-set_other old p i v dl other ∙ was ∙ sym (there_more edges k (get_or ls i 0) d kk apart) ∙ sym read
      ])

  pub list_next : (edges : List Bound) (k : ℕ) (d : Bound) → AreDifferent ls → k < length edges → Contains ls (end (get_or edges k d)) → (lists : List (List Neighbour)) (p : ℕ) (n : Neighbour)
      → lists ≡ map (list_by (take k edges)) ls → p ≡ place_of ls (end (get_or edges k d)) → n ≡ next (get_or edges k d) → set lists p (get_or lists p [] ++ n ∷ []) ≡ map (list_by (take (k + 1) edges)) ls
  list_next edges k d h kk ie lists p n is_lists is_p is_n = rw (is_lists, is_p, is_n) (list_more edges k d h kk ie)

  pub list_near : (edges : List Bound) (a : ℕ) → ((e : Bound) → Contains edges e → IsNear (length ls) (next e)) → All (IsNear (length ls)) (list_by edges a)
  list_near edges a h = All-map (IsNear (length ls)) next (filter (λ e. nat_eq (end e) a) edges) (All-filter (λ e. nat_eq (end e) a) (λ e. IsNear (length ls) (next e)) edges (All-weaker (Contains edges) (λ e. IsNear (length ls) (next e)) h edges (All-contains_itself edges)))

-- an edge of the network, by its number
pub edge_at : (net : Net) (edges : List Bound) (k : ℕ) (d : Bound) → IsJoined net → edges ≡ net.edges → k < length edges → Joins (leaders_of net.groups) (get_or edges k d)
edge_at net edges k d h same kk = h.edges (get_or edges k d) (subst (λ z. Contains z (get_or edges k d)) same (Contains-get_or edges k d kk))

-- no edge gives no neighbour
pub replicate_is_map : {X Y : Type 0} (y : Y) (n : ℕ) (xs : List X) → length xs ≡ n → replicate n y ≡ map (λ (x : X). y) xs
replicate_is_map y zero [] h = refl
replicate_is_map y (suc n) [] h = absurd (cc)
replicate_is_map y zero (x ∷ xs) h = absurd (cc)
replicate_is_map y (suc n) (x ∷ xs) h = ap (λ z. y ∷ z) (replicate_is_map y n xs (omega (arith, h)))

-- one more leader below a number
pub leaders_more : (gs : List Group) (i old new : ℕ) (g : Group) → i < length gs → g ≡ get_or gs i g → All (λ a. a < old) (leaders_of (take i gs)) → old ≤ new → g.leader.0 < new → All (λ a. a < new) (leaders_of (take (i + 1) gs))
leaders_more gs i old new g ii read all up here =
    let one : leaders_of (take (i + 1) gs) ≡ leaders_of (take i gs) ++ (get_or gs i g).leader.0 ∷ [] = map_more (λ (z : Group). z.leader.0) gs i g ii in
    let is : (get_or gs i g).leader.0 ≡ g.leader.0 = ap (λ (z : Group). z.leader.0) (sym read) in
    rw one (All-push (λ a. a < new) (leaders_of (take i gs)) (get_or gs i g).leader.0 (All-weaker (λ a. a < old) (λ a. a < new) (λ a h. omega (arith, h, up)) (leaders_of (take i gs)) all) (omega (arith, is, here)))
