-- Which needs are served, by claims.
use Rattle.std.proofs.Common.{◌≡◌, ℕ, zero, suc, ◌+◌, ◌<◌, ◌≤◌, false, true, Bool, ◌&&◌, ◌||◌, nat_eq, List, [], ◌∷◌, length, map, take, get_or, Some, refl, sym, ap, ◌∙◌, subst, arith, inl, inr, length-append, cond}
use Rattle.std.proofs.lemmas.Bool.{cases_Bool, cases_lt, eqb-true, eq-eqb}
use Rattle.std.proofs.lemmas.Grind.{common_steps}
use Rattle.std.proofs.lemmas.List.{length-take}
use Rattle.std.proofs.lemmas.Option.{slice_get_within}
use Rattle.std.specs.Prelude.{slice_get, ◌⊎◌, Contains, filter}
use Rattle.std.specs.List.{list_any}
use Rattle.std.specs.HashSet as bag
use Rattle.hs_base.specs.declared.mission.Kind.{Kind}
use Rattle.hs_base.specs.declared.ids.SvId.{SvId}
use Rattle.hs_base.specs.declared.plan.TokenRef.{TokenRef}
use Rattle.hs_base.specs.declared.mission.Need.{Need}
use Rattle.hs_base.specs.declared.plan.Support.{Support}
use Rattle.hs_base.specs.declared.plan.Extension.{Extension}
use Rattle.hs_base.specs.declared.mission.Mission.{Mission}
use Rattle.hs_base.specs.declared.fault.Fault.{Fault}
use Rattle.hs_base.specs.declared.fault.Fault.TheVariants.{Base, Limit as OverLimit, Order, Fixed, WrongSupport, Unsupported, Goal as NoGoal, Cycle, Memory as NoMemoryLeft}
use Rattle.hs_base.specs.Points.{tokens_of, timeline_of, token_at}
use Rattle.hs_base.specs.Needs.{same_kind, needs_of, need_of, need_at, is_deferrable}
use Rattle.hs_base.specs.Checked.{joined, supports_of, IsServed, IsNeedBefore, KeepsNeeds, needs as needs_rule, KeepsBefore}
use Rattle.hs_base.specs.Faults.{IsUnserved, IsFirstUnserved, IsFault}
use Rattle.base_laws.proofs.ListLemmas.{slice_get-append_left}
use Rattle.base_laws.proofs.PointLemmas.{timeline-append, tokens-push}
use Rattle.plan_laws.proofs.NeedLemmas.{need_found}
use Rattle.plan_laws.proofs.ChainLemmas.{contained_at}
use Rattle.hs_base.proofs.NeedLemmas.{filter_at}
use Rattle.std.proofs.lemmas.List.Filters.{length-filter_more}
use Rattle.plan_check.specs.Claimed.{is_claimed, is_for, AreClaims}
use Rattle.plan_check.specs.Open.{IsOpen, IsOpenAt, first_looked, HasNoneOpen, IsFirstOpenOf, IsOpenFault}
use Rattle.plan_check.specs.declared.claims.Claim.{Claim}
use Rattle.plan_check.proofs.WithinLemmas.{AreInside, supports-push}
use Rattle.plan_check.proofs.SupportLemmas.{some_for, for_some, contains_from}
use Rattle.plan_check.proofs.LineLemmas.{below_vars}

module _ {S : Type 0} (m : Mission) (es : List Extension) (e : Extension) (set : bag.HashSet Claim S) (inside : AreInside m (joined es e)) (claims : AreClaims (supports_of (joined es e)) set) (base : KeepsNeeds m es) where
  abbrev pub all : List Extension
  all = joined es e

  abbrev pub line : ℕ → List Kind
  line v = timeline_of (tokens_of (joined es e)) v

  -- the timelines of the plan before the extension
  old_size : (v : ℕ) → length (timeline_of (tokens_of all) v) ≡ length (timeline_of (tokens_of es) v) + length (timeline_of e.tokens v)
  old_size v = ap length (ap (λ l. timeline_of l v) (tokens-push es e) ∙ timeline-append (tokens_of es) e.tokens v) ∙ length-append (timeline_of (tokens_of es) v) (timeline_of e.tokens v)

  old_token : (t : TokenRef) → t.place < length (timeline_of (tokens_of es) t.sv.0) → token_at all t ≡ token_at es t
  old_token t old = ap (λ l. slice_get l t.place) (ap (λ l. timeline_of l t.sv.0) (tokens-push es e) ∙ timeline-append (tokens_of es) e.tokens t.sv.0) ∙ slice_get-append_left (timeline_of (tokens_of es) t.sv.0) (timeline_of e.tokens t.sv.0) t.place old

  -- a support of the plan is one of the plan with the extension
  old_support : (s : Support) → Contains (supports_of es) s → Contains (supports_of all) s
  old_support s has =
      let at = contained_at (supports_of es) s has in
      contains_from (supports_of all) at.0 s (ap (λ l. slice_get l at.0) (supports-push es e) ∙ slice_get-append_left (supports_of es) e.supports at.0 (slice_get_within (supports_of es) at.0 s at.1) ∙ at.1)

  -- a token with another behind it in the plan before is served
  old_served : (t : TokenRef) (i : ℕ) (n : Need) → t.place + 1 < length (timeline_of (tokens_of es) t.sv.0) → need_at m all t i ≡ Some n → IsServed m all t i n
  old_served t i n old is = elim (base.each t i n (ap (λ k. need_of m k i) (sym (old_token t (omega arith))) ∙ is)) [
    | inl s ↦ inl (s.0, old_support s.0 s.1, s.2, s.3)
    | inr w ↦ let last = w.1 in absurd (omega (arith, last, old))
  ]

  abbrev pub IsLooked : TokenRef → ℕ → Type 0
  IsLooked t i = (t.sv.0 < length m.vars) × (first_looked (line t.sv.0) e.tokens t.sv.0 ≤ t.place) × IsOpenAt m set t.sv (line t.sv.0) t.place i

  -- a need of a token is served, or it is open and looked at
  pub served_or_open : (t : TokenRef) (i : ℕ) (n : Need) → need_at m all t i ≡ Some n → IsServed m all t i n ⊎ IsLooked t i
  served_or_open t i n is = elim (cases_lt (t.place + 1) (length (timeline_of (tokens_of es) t.sv.0))) [
    | inl old ↦ inl (old_served t i n old is)
    | inr looked ↦ elim (cases_Bool (list_any (is_for t i) (supports_of all))) [
      | inl some ↦ inl (inl (some_for (supports_of all) t i some))
      | inr none ↦ elim (cases_Bool (nat_eq (t.place + 1) (length (line t.sv.0)) && is_deferrable n)) [
        | inl waits ↦
            let last : t.place + 1 ≡ length (line t.sv.0) = eqb-true _ _ (grind (arith, common_steps, waits)) in
            let may : is_deferrable n ≡ true = grind (arith, common_steps, waits) in
            inl (inr (may, omega (arith, last)))
        | inr not_waits ↦
            let found = need_found m all t i n is in
            let token : slice_get (line t.sv.0) t.place ≡ Some found.0 = found.1 in
            inr (
              below_vars (length m.vars) (tokens_of all) t.sv.0 inside (let there = slice_get_within (line t.sv.0) t.place found.0 token in omega (arith, there)),
              omega (arith, looked, old_size t.sv.0),
              record { kind = found.0; is_kind = token; unserved = record { need = n; is_need = found.2; unclaimed = claims t i ∙ none; not_waiting = not_waits } },
            )
      ]
    ]
  ]

  -- an open need is not served
  pub open_unserved : (v : SvId) (p i : ℕ) → IsOpenAt m set v (line v.0) p i → IsUnserved m all (record { sv = v; place = p }) i
  open_unserved v p i h = record { need = h.unserved.need; is_need = is; broken = not_served }
    where
      t : TokenRef
      t = record { sv = v; place = p }

      is : need_at m all (record { sv = v; place = p }) i ≡ Some h.unserved.need
      is = ap (λ k. need_of m k i) (h.is_kind) ∙ h.unserved.is_need

      not_served : IsServed m all (record { sv = v; place = p }) i h.unserved.need → ⊥
      not_served (inl s) = absurd (let yes_is : true ≡ false = sym (for_some (supports_of all) (record { sv = v; place = p }) i s.0 s.1 s.2 s.3) ∙ sym (claims (record { sv = v; place = p }) i) ∙ h.unserved.unclaimed in cc)
      not_served (inr w) =
          let last : p + 1 ≡ length (line v.0) = let at = w.1 in omega (arith, at) in
          let test : nat_eq (p + 1) (length (line v.0)) ≡ true = eq-eqb (p + 1) (length (line v.0)) last in
          let both : (nat_eq (p + 1) (length (line v.0)) && is_deferrable h.unserved.need) ≡ true = rw (test, w.0) refl in
          absurd (let contra : true ≡ false = sym both ∙ h.unserved.not_waiting in cc)

  pub needs_kept : HasNoneOpen m set (tokens_of all) e.tokens → KeepsNeeds m all
  needs_kept h = record { each = λ t i n is. elim (served_or_open t i n is) [ inl served ↦ served | inr left ↦ absurd (h t.sv.0 t.place i left.0 left.1 left.2) ] }

  looked_of : (t : TokenRef) (i : ℕ) → IsUnserved m all t i → IsLooked t i
  looked_of t i h = elim (served_or_open t i h.need h.is_need) [ inl served ↦ absurd (h.broken served) | inr left ↦ left ]

  pub first_unserved : (v : SvId) (p i : ℕ) → IsFirstOpenOf m set (tokens_of all) e.tokens v p i → IsFirstUnserved m all (record { sv = v; place = p }) i
  first_unserved v p i h = record { here = open_unserved v p i h.here; first = none_before }
    where
      none_before : (u : TokenRef) (j : ℕ) → IsUnserved m all u j → IsNeedBefore u j (record { sv = v; place = p }) i → ⊥
      none_before u j is (inl less) = let o = looked_of u j is in h.lines_before u.sv.0 u.place j less o.1 o.2
      none_before u j is (inr same) = let o = looked_of u j is in by_place same.1
        where
          line_is : line u.sv.0 ≡ line v.0
          line_is = ap (line) same.0

          first_is : first_looked (line v.0) e.tokens v.0 ≤ u.place
          first_is = subst (λ (w : ℕ). first_looked (line w) e.tokens w ≤ u.place) same.0 (looked_of u j is).1

          open_is : IsOpenAt m set v (line v.0) u.place j
          open_is = subst (λ (w : ℕ). IsOpenAt m set (record { 0 = w }) (line w) u.place j) same.0 (looked_of u j is).2

          by_place : (u.place < p) ⊎ ((u.place ≡ p) × (j < i)) → ⊥
          by_place (inl less) = h.places_before u.place j first_is less open_is
          by_place (inr at) = h.needs_before j at.1 (subst (λ (x : ℕ). IsOpenAt m set v (line v.0) x j) at.0 open_is)

  pub open_fault : (f : Fault) → KeepsBefore m es e needs_rule → IsOpenFault m set (tokens_of all) e.tokens f → IsFault m es e f
  open_fault (Unsupported v p i) before h = (before, first_unserved v p i h)
  open_fault (Base g c) before h = absurd h
  open_fault (OverLimit p t) before h = absurd h
  open_fault (Order v p) before h = absurd h
  open_fault (Fixed n) before h = absurd h
  open_fault (WrongSupport n) before h = absurd h
  open_fault (NoGoal n) before h = absurd h
  open_fault (Cycle bs) before h = absurd h
  open_fault NoMemoryLeft before h = absurd h

or_parts : (a b : Bool) → (a || b) ≡ false → (a ≡ false) × (b ≡ false)
or_parts true b h = absurd (cc)
or_parts false b h = (refl, h)

-- the next need of the kind
module _ {S : Type 0} (needs : List Need) (k : Kind) (set : bag.HashSet Claim S) (t : TokenRef) (last : Bool) (i : ℕ) (n : Need) (below : i < length needs) (is : n ≡ get_or needs i n) (own : same_kind n.of k ≡ true) where
  abbrev pub number : ℕ
  number = length (filter (λ (x : Need). same_kind x.of k) (take i needs))

  abbrev pub own_needs : List Need
  own_needs = filter (λ (x : Need). same_kind x.of k) needs

  at_number : slice_get own_needs number ≡ Some n
  at_number = filter_at (λ (x : Need). same_kind x.of k) needs i n below is own

  pub open_here : (is_claimed set t number || (last && is_deferrable n)) ≡ false → IsOpen own_needs set t last number
  open_here h = let parts = or_parts (is_claimed set t number) (last && is_deferrable n) h in record { need = n; is_need = at_number; unclaimed = parts.0; not_waiting = parts.1 }

  pub not_open_here : (is_claimed set t number || (last && is_deferrable n)) ≡ true → IsOpen own_needs set t last number → ⊥
  not_open_here h o =
      let same : Some o.need ≡ Some n = sym o.is_need ∙ at_number in
      let is_n : o.need ≡ n = cc in
      let waits : (last && is_deferrable n) ≡ false = subst (λ (x : Need). (last && is_deferrable x) ≡ false) is_n o.not_waiting in
      let both : (is_claimed set t number || (last && is_deferrable n)) ≡ false = ap (λ b. b || (last && is_deferrable n)) o.unclaimed ∙ waits in
      absurd (let contra : true ≡ false = sym h ∙ both in cc)

  -- the number of the one behind it
  pub number_more : length (filter (λ (x : Need). same_kind x.of k) (take (i + 1) needs)) ≡ number + 1
  number_more = length-filter_more (λ (x : Need). same_kind x.of k) needs i n below ∙ ap (λ (x : Need). number + cond (same_kind x.of k) 1 0) (sym is) ∙ ap (λ b. number + cond b 1 0) own

-- a need of another kind
pub number_still : (needs : List Need) (k : Kind) (i : ℕ) (n : Need) → i < length needs → n ≡ get_or needs i n → same_kind n.of k ≡ false → length (filter (λ (x : Need). same_kind x.of k) (take (i + 1) needs)) ≡ length (filter (λ (x : Need). same_kind x.of k) (take i needs))
number_still needs k i n below is other =
    length-filter_more (λ (x : Need). same_kind x.of k) needs i n below
    ∙ ap (λ (x : Need). length (filter (λ (y : Need). same_kind y.of k) (take i needs)) + cond (same_kind x.of k) 1 0) (sym is)
    ∙ ap (λ b. length (filter (λ (y : Need). same_kind y.of k) (take i needs)) + cond b 1 0) other
    ∙ omega arith

-- there are no more than those of all kinds so far
pub few_numbers : (needs : List Need) (k : Kind) (i : ℕ) → length (filter (λ (x : Need). same_kind x.of k) (take i needs)) ≤ i
few_numbers needs k i = let a = few (take i needs) in omega (arith, a, length-take i needs)
  where
    few : (xs : List Need) → length (filter (λ (x : Need). same_kind x.of k) xs) ≤ length xs
    few [] = omega arith
    few (x ∷ xs) = elim (cases_Bool (same_kind x.of k)) [ inl passes ↦ rw passes (let less = few xs in omega (arith, less)) | inr fails ↦ rw fails (let less = few xs in omega (arith, less)) ]

-- past all needs of the kind there is none
pub none_past : {S : Type 0} (needs : List Need) (set : bag.HashSet Claim S) (t : TokenRef) (last : Bool) (i : ℕ) → length needs ≤ i → IsOpen needs set t last i → ⊥
none_past needs set t last i past o = let there = slice_get_within needs i o.need o.is_need in omega (arith, there, past)

-- a need of the token at a place
module _ {S : Type 0} (m : Mission) (set : bag.HashSet Claim S) (v : SvId) (row : List Kind) (place : ℕ) (k : Kind) (here : slice_get row place ≡ Some k) where
  abbrev pub token : TokenRef
  token = record { sv = v; place = place }

  abbrev pub is_last : Bool
  is_last = nat_eq (place + 1) (length row)

  pub open_at : (i : ℕ) → IsOpen (needs_of m k) set token is_last i → IsOpenAt m set v row place i
  open_at i o = record { kind = k; is_kind = here; unserved = o }

  pub at_open : (i : ℕ) → IsOpenAt m set v row place i → IsOpen (needs_of m k) set token is_last i
  at_open i o =
      let same : Some o.kind ≡ Some k = sym o.is_kind ∙ here in
      let is : o.kind ≡ k = cc in
      subst (λ (l : Kind). IsOpen (needs_of m l) set token is_last i) is o.unserved

-- an element of what a list is made into
pub slice_get-mapped : {X Y : Type 0} (f : X → Y) (xs : List X) (i : ℕ) (x : X) → slice_get xs i ≡ Some x → slice_get (map f xs) i ≡ Some (f x)
slice_get-mapped f [] i x is = absurd (cc)
slice_get-mapped f (y ∷ xs) zero x is = let same : y ≡ x = cc in ap (λ z. Some (f z)) same
slice_get-mapped f (y ∷ xs) (suc i) x is = slice_get-mapped f xs i x is
