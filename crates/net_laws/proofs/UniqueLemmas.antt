-- Bounds have one reduced network.
use Rattle.std.proofs.Common.{◌≡◌, ℕ, ◌<◌, Bool, List, [], ◌∷◌, refl, sym, ap, ◌∙◌, arith, inl, inr}
use Rattle.std.proofs.lemmas.Int.{ints}
use Rattle.std.specs.Prelude.{not, ◌&&◌, ◌||◌, nat_eq, filter, map, flat_map}
use Rattle.std.specs.List.{list_any, list_all}
use Rattle.hs_base.specs.declared.net.Bound.{Bound}
use Rattle.hs_base.specs.declared.net.Member.{Member}
use Rattle.hs_base.specs.declared.net.Net.{Net}
use Rattle.hs_base.specs.Schedule.{numbers_from, bound}
use Rattle.hs_base.specs.Reduced.{Table, IsReducedOf, are_rigid, leads_over, is_leader, leaders, group_of, dominates, is_kept, edges_from, edges_of, reduced}
use Rattle.net_laws.proofs.BetweenLemmas.{Has}
use Rattle.net_laws.proofs.ListLemmas.{has_filter, has_numbers}

filter_same : {X : Type 0} (p q : X → Bool) (xs : List X) → ((x : X) → Has xs x → p x ≡ q x) → filter p xs ≡ filter q xs
filter_same p q [] h = refl
filter_same p q (y ∷ ys) h = let rest = filter_same p q ys (λ x i. h x (inr i)) in rw (h y (inl refl), rest) refl

map_same : {X Y : Type 0} (f g : X → Y) (xs : List X) → ((x : X) → Has xs x → f x ≡ g x) → map f xs ≡ map g xs
map_same f g [] h = refl
map_same f g (y ∷ ys) h = let rest = map_same f g ys (λ x i. h x (inr i)) in rw (h y (inl refl), rest) refl

flat_map_same : {X Y : Type 0} (f g : X → List Y) (xs : List X) → ((x : X) → Has xs x → f x ≡ g x) → flat_map f xs ≡ flat_map g xs
flat_map_same f g [] h = refl
flat_map_same f g (y ∷ ys) h = let rest = flat_map_same f g ys (λ x i. h x (inr i)) in rw (h y (inl refl), rest) refl

any_same : {X : Type 0} (p q : X → Bool) (xs : List X) → ((x : X) → Has xs x → p x ≡ q x) → list_any p xs ≡ list_any q xs
any_same p q [] h = refl
any_same p q (y ∷ ys) h = let rest = any_same p q ys (λ x i. h x (inr i)) in rw (h y (inl refl), rest) refl

all_same : {X : Type 0} (p q : X → Bool) (xs : List X) → ((x : X) → Has xs x → p x ≡ q x) → list_all p xs ≡ list_all q xs
all_same p q [] h = refl
all_same p q (y ∷ ys) h = let rest = all_same p q ys (λ x i. h x (inr i)) in rw (h y (inl refl), rest) refl

module _ (c : ℕ) (d e : Table) (agree : (p q : ℕ) → p < c → q < c → d p q ≡ e p q) where
  below : (x : ℕ) → Has (numbers_from 0 c) x → x < c
  below x i = omega (arith, (has_numbers 0 c x i).1)

  rigid_same : (p q : ℕ) → p < c → q < c → are_rigid d p q ≡ are_rigid e p q
  rigid_same p q ip iq = rw (agree p q ip iq, agree q p iq ip) refl

  leads_same : (p q : ℕ) → p < c → q < c → leads_over d p q ≡ leads_over e p q
  leads_same p q ip iq = rw (agree p q ip iq) refl

  leaders_same : leaders c d ≡ leaders c e
  leaders_same = filter_same (is_leader c d) (is_leader c e) (numbers_from 0 c) (λ p i.
      all_same (λ q. not (are_rigid d p q) || leads_over d p q) (λ q. not (are_rigid e p q) || leads_over e p q) (numbers_from 0 c)
      (λ q j. rw (rigid_same p q (below p i) (below q j), leads_same p q (below p i) (below q j)) refl))

  leader_below : (x : ℕ) → Has (leaders c e) x → x < c
  leader_below x i = below x (has_filter (is_leader c e) (numbers_from 0 c) x i).0

  group_same : (p : ℕ) → p < c → group_of c d p ≡ group_of c e p
  group_same p ip =
      let one : filter (λ q. are_rigid d p q && not (nat_eq p q)) (numbers_from 0 c) ≡ filter (λ q. are_rigid e p q && not (nat_eq p q)) (numbers_from 0 c) =
      filter_same (λ q. are_rigid d p q && not (nat_eq p q)) (λ q. are_rigid e p q && not (nat_eq p q)) (numbers_from 0 c) (λ q j. rw (rigid_same p q ip (below q j)) refl) in
      let two : map (λ q. (record { point = record { 0 = q }; offset = d p q })) (filter (λ q. are_rigid e p q && not (nat_eq p q)) (numbers_from 0 c))
      ≡ map (λ q. (record { point = record { 0 = q }; offset = e p q })) (filter (λ q. are_rigid e p q && not (nat_eq p q)) (numbers_from 0 c)) =
      map_same {Y = Member} (λ q. record { point = record { 0 = q }; offset = d p q }) (λ q. record { point = record { 0 = q }; offset = e p q }) (filter (λ q. are_rigid e p q && not (nat_eq p q)) (numbers_from 0 c))
      (λ q j. rw (agree p q ip (below q (has_filter (λ q. are_rigid e p q && not (nat_eq p q)) (numbers_from 0 c) q j).0)) refl) in
      rw (one, two) refl

  dominates_same : (a b x : ℕ) → a < c → b < c → x < c → dominates d a b x ≡ dominates e a b x
  dominates_same a b x ia ib ix = rw (agree a x ia ix, agree x b ix ib, agree a b ia ib) refl

  kept_same : (a b : ℕ) → a < c → b < c → is_kept d (leaders c e) a b ≡ is_kept e (leaders c e) a b
  kept_same a b ia ib =
      let any : list_any (dominates d a b) (leaders c e) ≡ list_any (dominates e a b) (leaders c e) =
      any_same (dominates d a b) (dominates e a b) (leaders c e) (λ x i. dominates_same a b x ia ib (leader_below x i)) in
      rw any refl

  edges_same : edges_of d (leaders c e) ≡ edges_of e (leaders c e)
  edges_same = flat_map_same (edges_from d (leaders c e)) (edges_from e (leaders c e)) (leaders c e) (λ a ia.
      let one : filter (is_kept d (leaders c e) a) (leaders c e) ≡ filter (is_kept e (leaders c e) a) (leaders c e) =
      filter_same (is_kept d (leaders c e) a) (is_kept e (leaders c e) a) (leaders c e) (λ b ib. kept_same a b (leader_below a ia) (leader_below b ib)) in
      let two : map (λ b. bound a b (d a b)) (filter (is_kept e (leaders c e) a) (leaders c e)) ≡ map (λ b. bound a b (e a b)) (filter (is_kept e (leaders c e) a) (leaders c e)) =
      map_same (λ b. bound a b (d a b)) (λ b. bound a b (e a b)) (filter (is_kept e (leaders c e) a) (leaders c e))
      (λ b j. rw (agree a b (leader_below a ia) (leader_below b (has_filter (is_kept e (leaders c e) a) (leaders c e) b j).0)) refl) in
      ap (map (λ b. bound a b (d a b))) one ∙ two)

  groups_same : map (group_of c d) (leaders c e) ≡ map (group_of c e) (leaders c e)
  groups_same = map_same (group_of c d) (group_of c e) (leaders c e) (λ a ia. group_same a (leader_below a ia))

  pub reduced_same : reduced c d ≡ reduced c e
  reduced_same =
      let one : reduced c d ≡ record { groups = map (group_of c d) (leaders c e); edges = edges_of d (leaders c e) } =
      ap (λ ls. record { groups = map (group_of c d) ls; edges = edges_of d ls }) leaders_same in
      let two : (record { groups = map (group_of c d) (leaders c e); edges = edges_of d (leaders c e) }) ≡ reduced c e =
      rw (groups_same, edges_same) refl in
      one ∙ two

pub one_network : (c : ℕ) (k : List Bound) (m n : Net) → IsReducedOf c k m → IsReducedOf c k n → m ≡ n
one_network c k m n im jn = im.is ∙ reduced_same c im.table jn.table (λ p q ip iq.
    let a = im.tight.tight p q ip iq in
    let b = jn.tight.tight p q ip iq in
    omega (arith, ints, a.least (jn.table p q) b.implied, b.least (im.table p q) a.implied)) ∙ sym jn.is
