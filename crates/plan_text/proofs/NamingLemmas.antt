-- Names and the numbers of what they name.
use Rattle.std.proofs.Common.{◌≡◌, ℕ, zero, suc, ◌+◌, ◌<◌, ◌≤◌, Bool, true, false, cond, ◌||◌, List, [], ◌∷◌, ◌++◌, length, map, take, get_or, refl, sym, ap, ◌∙◌, subst, append-nil, arith}
use Rattle.std.specs.Prelude.{Option, Some, None, slice_get, find, flat_map}
use Rattle.std.specs.List.{AllZip, list_any, position, position_from}
use Rattle.std.specs.Str.{bytes_eq}
use Rattle.std.proofs.lemmas.Iterator.Adapters.{position_from-zero}
use Rattle.std.proofs.lemmas.Slice.Eq.{bytes_eq-Decides}
use Rattle.std.proofs.lemmas.List.{take_more}
use Rattle.std.proofs.lemmas.Grind.{flat_map-append}
use Rattle.hs_base.specs.declared.mission.Mission.{Mission}
use Rattle.hs_base.specs.declared.mission.Value.{Value}
use Rattle.hs_base.specs.declared.mission.Var.{Var}
use Rattle.hs_texts.specs.declared.refusal.Refusal.{Refusal}
use Rattle.hs_texts.specs.declared.refusal.Refusal.TheVariants.{NotUtf8, Char, Expected, Number, Trailing, Twice, Unknown, Range, Limit, NoBegin, Horizons, SameVar, SameBy, Memory}
use Rattle.hs_texts.specs.MissionMeaning.{IsNumberOf}
use Rattle.hs_texts.specs.MissionRefusals.{unknown_in}
use Rattle.text_laws.specs.Refused.{OrMemory}
use Rattle.hs_texts.specs.PlanSpelling.{names_of}
use Rattle.hs_texts.specs.declared.written.WrittenKind.{WrittenKind}
use Rattle.hs_texts.specs.KeptTexts.{IsFirstUnknown}
use Rattle.hs_texts.specs.PlanSpelling.{KindMeans, unknown_in_kind}
use Rattle.plan_text.specs.SoFar.{variable_at, value_at}

-- Where a name stands first.

abbrev is_named : {X : Type 0} → (X → List ℕ) → List ℕ → X → Bool
is_named f name x = bytes_eq (f x) name

pub record Found {X : Type 0} (f : X → List ℕ) (name : List ℕ) (xs : List X) (i v : ℕ) : Type 0 where
  pub place : ℕ
  pub is_place : v ≡ i + place
  pub number : IsNumberOf (map f xs) name place
  pub item : find (is_named f name) xs ≡ slice_get xs place
  pub among : list_any (bytes_eq name) (map f xs) ≡ true

next_found : {X : Type 0} (f : X → List ℕ) (name : List ℕ) (x : X) (xs : List X) (i v : ℕ) → bytes_eq (f x) name ≡ false → Found f name xs (i + 1) v → Found f name (x ∷ xs) i v
next_found f name x xs i v e h = record {
  place = suc h.place;
  is_place = omega (arith, h.is_place);
  number = record { here = h.number.here; first = first };
  item = rw e h.item;
  among = ap (λ b. bytes_eq name (f x) || b) h.among ∙ or_true (bytes_eq name (f x));
} where
  or_true : (b : Bool) → (b || true) ≡ true
  or_true true = refl
  or_true false = refl

  first : (j : ℕ) → slice_get (f x ∷ map f xs) j ≡ Some name → suc h.place ≤ j
  first zero k = let s : f x ≡ name = cc in absurd (cc (e, (bytes_eq-Decides (f x) name).1 s))
  first (suc j) k = let l = h.number.first j k in omega (arith, l)

first_found : {X : Type 0} (f : X → List ℕ) (name : List ℕ) (x : X) (xs : List X) (i : ℕ) → bytes_eq (f x) name ≡ true → Found f name (x ∷ xs) i i
first_found f name x xs i e =
    let s : f x ≡ name = (bytes_eq-Decides (f x) name).0 e in record {
      place = 0;
      is_place = omega arith;
      number = record { here = ap Some s; first = λ j k. omega arith };
      item = rw e refl;
      among = ap (λ b. b || list_any (bytes_eq name) (map f xs)) ((bytes_eq-Decides name (f x)).1 (sym s));
    }

found_from : {X : Type 0} (f : X → List ℕ) (name : List ℕ) (i : ℕ) (xs : List X) (v : ℕ) → position_from (is_named f name) i xs ≡ Some v → Found f name xs i v
found_from f name i [] v h = absurd cc
found_from f name i (x ∷ xs) v h =
    elim (bytes_eq (f x) name) as (λ b. bytes_eq (f x) name ≡ b → Found f name (x ∷ xs) i v) [
      | true ↦ λ e. let k : i ≡ v = cc (ap (λ b. cond b (Some i) (position_from (is_named f name) (i + 1) xs)) (sym e) ∙ h) in subst (λ (u : ℕ). Found f name (x ∷ xs) i u) k (first_found f name x xs i e)
      | false ↦ λ e. next_found f name x xs i v e (found_from f name (i + 1) xs v (ap (λ b. cond b (Some i) (position_from (is_named f name) (i + 1) xs)) (sym e) ∙ h))
    ] refl

pub record Missing {X : Type 0} (f : X → List ℕ) (name : List ℕ) (xs : List X) : Type 0 where
  pub item : find (is_named f name) xs ≡ None
  pub among : list_any (bytes_eq name) (map f xs) ≡ false

missing_from : {X : Type 0} (f : X → List ℕ) (name : List ℕ) (i : ℕ) (xs : List X) → position_from (is_named f name) i xs ≡ None → Missing f name xs
missing_from f name i [] h = record { item = refl; among = refl }
missing_from f name i (x ∷ xs) h =
    elim (bytes_eq (f x) name) as (λ b. bytes_eq (f x) name ≡ b → Missing f name (x ∷ xs)) [
      | true ↦ λ e. absurd (cc (ap (λ b. cond b (Some i) (position_from (is_named f name) (i + 1) xs)) (sym e) ∙ h))
      | false ↦ λ e.
          let m = missing_from f name (i + 1) xs (ap (λ b. cond b (Some i) (position_from (is_named f name) (i + 1) xs)) (sym e) ∙ h) in record {
            item = rw e m.item;
            among = ap (λ b. b || list_any (bytes_eq name) (map f xs)) (turned (f x) name e) ∙ m.among;
          }
    ] refl
  where
    turned : (a b : List ℕ) → bytes_eq a b ≡ false → bytes_eq b a ≡ false
    turned a b e = elim (bytes_eq b a) as (λ t. bytes_eq b a ≡ t → bytes_eq b a ≡ false) [
      | true ↦ λ k. absurd (cc (e, (bytes_eq-Decides a b).1 (sym ((bytes_eq-Decides b a).0 k))))
      | false ↦ λ k. k
    ] refl

pub found_at : {X : Type 0} (f : X → List ℕ) (name : List ℕ) (xs : List X) (v : ℕ) → position (is_named f name) xs ≡ Some v → Found f name xs 0 v
found_at f name xs v h = found_from f name 0 xs v (sym (position_from-zero (is_named f name) xs) ∙ h)

pub missing_at : {X : Type 0} (f : X → List ℕ) (name : List ℕ) (xs : List X) → position (is_named f name) xs ≡ None → Missing f name xs
missing_at f name xs h = missing_from f name 0 xs (sym (position_from-zero (is_named f name) xs) ∙ h)

-- Variables.

pub sv_found : (m : Mission) (name : List ℕ) (v n : ℕ) → variable_at m.vars name ≡ Some v → n ≡ v → (unknown_in (names_of m) name ≡ []) × IsNumberOf (names_of m) name n
sv_found m name v n h e =
    let f = found_at (λ (x : Var). x.name) name m.vars v h in
    let place : f.place ≡ n = omega (arith, f.is_place, e) in
    (ap (λ b. cond b [] (name ∷ [])) f.among, subst (λ (i : ℕ). IsNumberOf (names_of m) name i) place f.number)

pub sv_missing : (m : Mission) (name copied : List ℕ) → variable_at m.vars name ≡ None → copied ≡ name → (others : List (List ℕ)) × (unknown_in (names_of m) name ≡ copied ∷ others)
sv_missing m name copied h e =
    let f = missing_at (λ (x : Var). x.name) name m.vars h in
    ([], ap (λ b. cond b [] (name ∷ [])) f.among ∙ ap (λ (n : List ℕ). n ∷ []) (sym e))

-- the variable of a place that is found
var_there : (m : Mission) (name : List ℕ) (v : ℕ) (d : Var) → variable_at m.vars name ≡ Some v → v < length m.vars → (find (λ (x : Var). bytes_eq x.name name) m.vars ≡ Some (get_or m.vars v d)) × (slice_get m.vars v ≡ Some (get_or m.vars v d))
var_there m name v d h below =
    let f = found_at (λ (x : Var). x.name) name m.vars v h in
    let place : f.place ≡ v = omega (arith, f.is_place) in
    let here = slice_get-get_or m.vars v d below in
    (f.item ∙ ap (slice_get m.vars) place ∙ here, here)
  where
    slice_get-get_or : (xs : List Var) (i : ℕ) (d : Var) → i < length xs → slice_get xs i ≡ Some (get_or xs i d)
    slice_get-get_or [] i d l = absurd (omega (arith, l))
    slice_get-get_or (x ∷ xs) zero d l = refl
    slice_get-get_or (x ∷ xs) (suc i) d l = slice_get-get_or xs i d (omega (arith, l))

-- Kinds.

pub kind_found : (m : Mission) (w : WrittenKind) (v u a b : ℕ) (var : Var) → variable_at m.vars w.sv ≡ Some v → v < length m.vars → var ≡ get_or m.vars v var → value_at var.values w.value ≡ Some u → a ≡ v → b ≡ u → (unknown_in_kind m w ≡ []) × KindMeans m w (record { sv = record { 0 = a }; value = record { 0 = b } })
kind_found m w v u a b var h below is k e f =
    let s = sv_found m w.sv v a h e in
    let g = found_at (λ (x : Value). x.name) w.value var.values u k in
    let t = var_there m w.sv v var h below in
    let place : g.place ≡ b = omega (arith, g.is_place, f) in
    let found : find (λ (x : Var). bytes_eq x.name w.sv) m.vars ≡ Some var = t.0 ∙ ap Some (sym is) in
    let there : slice_get m.vars a ≡ Some var = ap (slice_get m.vars) e ∙ t.1 ∙ ap Some (sym is) in (
      ap (λ (o : Option Var). elim o [ None ↦ w.sv ∷ [] | Some x ↦ unknown_in (map (λ (y : Value). y.name) x.values) w.value ]) found ∙ ap (λ b. cond b [] (w.value ∷ [])) g.among,
      record { sv = s.1; var = var; there = there; value = subst (λ (i : ℕ). IsNumberOf (map (λ (y : Value). y.name) var.values) w.value i) place g.number },
    )

pub kind_without_variable : (m : Mission) (w : WrittenKind) (copied : List ℕ) → variable_at m.vars w.sv ≡ None → copied ≡ w.sv → (others : List (List ℕ)) × (unknown_in_kind m w ≡ copied ∷ others)
kind_without_variable m w copied h e =
    let f = missing_at (λ (x : Var). x.name) w.sv m.vars h in
    ([], ap (λ (o : Option Var). elim o [ None ↦ w.sv ∷ [] | Some x ↦ unknown_in (map (λ (y : Value). y.name) x.values) w.value ]) f.item ∙ ap (λ (n : List ℕ). n ∷ []) (sym e))

pub kind_without_value : (m : Mission) (w : WrittenKind) (copied : List ℕ) (v : ℕ) (var : Var) → variable_at m.vars w.sv ≡ Some v → v < length m.vars → var ≡ get_or m.vars v var → value_at var.values w.value ≡ None → copied ≡ w.value → (others : List (List ℕ)) × (unknown_in_kind m w ≡ copied ∷ others)
kind_without_value m w copied v var h below is k e =
    let g = missing_at (λ (x : Value). x.name) w.value var.values k in
    let t = var_there m w.sv v var h below in
    let found : find (λ (x : Var). bytes_eq x.name w.sv) m.vars ≡ Some var = t.0 ∙ ap Some (sym is) in
    ([], ap (λ (o : Option Var). elim o [ None ↦ w.sv ∷ [] | Some x ↦ unknown_in (map (λ (y : Value). y.name) x.values) w.value ]) found ∙ ap (λ b. cond b [] (w.value ∷ [])) g.among ∙ ap (λ (n : List ℕ). n ∷ []) (sym e))

-- First unknown names.

-- of a list of names and more, where the list has one
pub unknown_front : (names more : List (List ℕ)) (r : Refusal) → OrMemory (IsFirstUnknown names) r → OrMemory (IsFirstUnknown (names ++ more)) r
unknown_front names more (Unknown n) h = (h.0 ++ more, ap (λ (ns : List (List ℕ)). ns ++ more) h.1)
unknown_front names more (NotUtf8 a) h = h
unknown_front names more (Char a) h = h
unknown_front names more (Expected a) h = h
unknown_front names more (Number a) h = h
unknown_front names more (Trailing a) h = h
unknown_front names more (Twice a) h = h
unknown_front names more (Range a) h = h
unknown_front names more (Limit a) h = h
unknown_front names more (NoBegin a) h = h
unknown_front names more (Horizons a) h = h
unknown_front names more (SameVar a) h = h
unknown_front names more (SameBy a) h = h
unknown_front names more Memory h = tt

-- and where it has none
pub unknown_back : (names more : List (List ℕ)) (r : Refusal) → names ≡ [] → OrMemory (IsFirstUnknown more) r → OrMemory (IsFirstUnknown (names ++ more)) r
unknown_back names more r e h = subst (λ (ns : List (List ℕ)). OrMemory (IsFirstUnknown (ns ++ more)) r) (sym e) h

pub both_known : (a b : List (List ℕ)) → a ≡ [] → b ≡ [] → a ++ b ≡ []
both_known a b h k = ap (λ (ns : List (List ℕ)). ns ++ b) h ∙ k

-- Lists that are looked up one by one.

pub zip_push : {A B : Type 0} (P : A → B → Type 0) (xs : List A) (ys : List B) (x : A) (y : B) → AllZip P xs ys → P x y → AllZip P (xs ++ x ∷ []) (ys ++ y ∷ [])
zip_push P [] [] x y h k = (k, tt)
zip_push P [] (z ∷ ys) x y h k = absurd h
zip_push P (z ∷ xs) [] x y h k = absurd h
zip_push P (z ∷ xs) (w ∷ ys) x y h k = (h.0, zip_push P xs ys x y h.1 k)

-- those before place i are looked up
pub record LookedUp {A B : Type 0} (P : A → B → Type 0) (f : A → List (List ℕ)) (xs : List A) (i : ℕ) (ys : List B) : Type 0 where
  pub means : AllZip P (take i xs) ys
  pub known : flat_map f (take i xs) ≡ []

-- a list around one of its elements
pub take_split : {A : Type 0} (xs : List A) (i : ℕ) (d : A) → i < length xs → (back : List A) × (xs ≡ take i xs ++ get_or xs i d ∷ back)
take_split [] i d h = absurd (omega (arith, h))
take_split (x ∷ xs) zero d h = (xs, refl)
take_split (x ∷ xs) (suc i) d h = let r = take_split xs i d (omega (arith, h)) in (r.0, ap (λ zs. x ∷ zs) r.1)

-- the first unknown name of one is that of all
pub unknown_item : {A : Type 0} (f : A → List (List ℕ)) (xs : List A) (i : ℕ) (x : A) (r : Refusal) → flat_map f (take i xs) ≡ [] → i < length xs → x ≡ get_or xs i x → OrMemory (IsFirstUnknown (f x)) r → OrMemory (IsFirstUnknown (flat_map f xs)) r
unknown_item {A} f xs i x r known h is u =
    let s = take_split xs i x h in
    let here : OrMemory (IsFirstUnknown (f (get_or xs i x))) r = subst (λ (y : A). OrMemory (IsFirstUnknown (f y)) r) is u in
    let e : flat_map f xs ≡ flat_map f (take i xs) ++ (f (get_or xs i x) ++ flat_map f s.0) = ap (flat_map f) s.1 ∙ flat_map-append f (take i xs) (get_or xs i x ∷ s.0) in
    subst (λ (ns : List (List ℕ)). OrMemory (IsFirstUnknown ns) r) (sym e) (unknown_back (flat_map f (take i xs)) _ r known (unknown_front (f (get_or xs i x)) (flat_map f s.0) r here))

pub known_push : {A : Type 0} (f : A → List (List ℕ)) (xs : List A) (i : ℕ) (x : A) → flat_map f (take i xs) ≡ [] → i < length xs → x ≡ get_or xs i x → f x ≡ [] → flat_map f (take (i + 1) xs) ≡ []
known_push f xs i x known h is k =
    ap (flat_map f) (take_more xs i x h) ∙ flat_map-append f (take i xs) (get_or xs i x ∷ []) ∙ both_known _ _ known (ap (λ y. f y ++ []) (sym is) ∙ append-nil (f x) ∙ k)

-- one more is looked up
pub looked_push : {A B : Type 0} (P : A → B → Type 0) (f : A → List (List ℕ)) (xs : List A) (i : ℕ) (ys : List B) (x : A) (y : B) (zs : List B) → LookedUp P f xs i ys → i < length xs → x ≡ get_or xs i x → (f x ≡ []) × P x y → zs ≡ ys ++ y ∷ [] → LookedUp P f xs (i + 1) zs
looked_push {A} {B} P f xs i ys x y zs l h is k e =
    let means : AllZip P (take i xs ++ get_or xs i x ∷ []) (ys ++ y ∷ []) = zip_push P (take i xs) ys (get_or xs i x) y l.means (subst (λ (z : A). P z y) is k.1) in
    record {
      means = subst (λ (ws : List B). AllZip P (take (i + 1) xs) ws) (sym e) (subst (λ (vs : List A). AllZip P vs (ys ++ y ∷ [])) (sym (take_more xs i x h)) means);
      known = known_push f xs i x l.known h is k.0;
    }

-- a number of a variable is one of its places
pub number_below : (m : Mission) (name : List ℕ) (v : ℕ) → IsNumberOf (names_of m) name v → v < length m.vars
number_below m name v n = there m.vars v n.here where
  there : (vars : List Var) (i : ℕ) → slice_get (map (λ (x : Var). x.name) vars) i ≡ Some name → i < length vars
  there [] i h = absurd cc
  there (x ∷ vars) zero h = omega arith
  there (x ∷ vars) (suc i) h = let l = there vars i h in omega (arith, l)

pub variable_below : (m : Mission) (name : List ℕ) (v : ℕ) → variable_at m.vars name ≡ Some v → v < length m.vars
variable_below m name v h = number_below m name v (sv_found m name v v h refl).1
