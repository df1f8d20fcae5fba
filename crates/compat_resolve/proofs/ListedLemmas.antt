-- How lists of resolvers grow.
use Rattle.std.proofs.Common.{◌≡◌, ℕ, suc, ◌+◌, ◌-◌, ◌<◌, ◌≤◌, true, false, Bool, List, [], ◌∷◌, ◌++◌, append-nil, append_assoc, cond, drop, length, map, nat_eq, slice_get, None, Option, Some, ◌&&◌, ◌⊎◌, refl, sym, ap, ◌∙◌, arith, inl, inr}
use Rattle.std.proofs.lemmas.Bool.{cases_Bool, cases_lt, eq-eqb, eqb-true}
use Rattle.std.proofs.lemmas.Option.{get_or_from_slice_get, slice_get-get_or, slice_get-map, slice_get_past, slice_get_within}
use Rattle.std.specs.List.{AllByRecursion, list_any}
use Rattle.std.specs.Prelude.{get_or, option_map}
use Rattle.base_laws.proofs.ListLemmas.{each_at}
use Rattle.compat_resolve.specs.Listed.{closing, connects, inserts}
use Rattle.hs_base.specs.Needs.{same_kind}
use Rattle.hs_base.specs.declared.ids.SvId.{SvId}
use Rattle.hs_base.specs.declared.ids.ValId.{ValId}
use Rattle.hs_base.specs.declared.mission.Kind.{Kind}
use Rattle.hs_base.specs.declared.mission.Mission.{Mission}
use Rattle.hs_base.specs.declared.plan.TokenRef.{TokenRef}
use Rattle.search_tree.specs.Begun.{Begun}
use Rattle.search_tree.specs.Flaws.{slots, slots_after, slots_from}
use Rattle.search_tree.specs.Partial.{Partial, Row, at, cells, held_at, no_row, nobody, row}
use Rattle.search_tree.specs.Resolvers.{growing, has_room, is_last, may_join, next_of, resolved, wanted}
use Rattle.search_tree.specs.declared.flaw.Flaw.TheVariants.{Gap as GapFlaw}
use Rattle.search_tree.specs.declared.flaw.Resolver.{Resolver}
use Rattle.search_tree.specs.declared.flaw.Resolver.TheVariants.{Connect, Finish, Follow, Insert, Join}
use Rattle.search_tree.specs.declared.held.Cell.{Cell}
use Rattle.search_tree.specs.declared.held.Held.{Held}
use Rattle.timeline_db.specs.Lines.{Shown, cell_of, nothing_held}
use Rattle.timeline_db.specs.declared.token.Token.{Token}
use Rattle.std.proofs.lemmas.List.{map-append}
use Rattle.search_tree.proofs.CellLemmas.{length-map'}
use Rattle.timeline_db.proofs.ExtendingLemmas.{drop_at, drop_past}

-- the slots behind tokens: the gaps, and the open end
slots_both : (finished : Bool) (i : ℕ) (cs : List Cell) → slots_after finished i cs ≡ slots_after true i cs ++ cond finished [] ((i + length cs) ∷ [])
slots_both finished i [] = let e : i + 0 ≡ i = omega arith in ap (λ n. cond finished [] (n ∷ [])) (sym e)
slots_both finished i (c ∷ cs) =
    let e : suc i + length cs ≡ i + suc (length cs) = omega arith in
    ap (λ l. cond c.joined [] (i ∷ []) ++ l) (slots_both finished (suc i) cs ∙ ap (λ n. slots_after true (suc i) cs ++ cond finished [] (n ∷ [])) e)
    ∙ sym (append_assoc (cond c.joined [] (i ∷ [])) (slots_after true (suc i) cs) (cond finished [] ((i + suc (length cs)) ∷ [])))

pub slots_end : (finished : Bool) (cs : List Cell) → 0 < length cs → slots_from finished cs ≡ slots_from true cs ++ cond finished [] ((length cs - 1) ∷ [])
slots_end finished [] some = absurd (omega arith)
slots_end finished (c ∷ cs) some = let e : 0 + length cs ≡ suc (length cs) - 1 = omega arith in slots_both finished 0 cs ∙ ap (λ n. slots_after true 0 cs ++ cond finished [] (n ∷ [])) e

pub no_slots : slots_from true [] ≡ []
no_slots = refl

-- the token at a place serves, or doesn't
pub connects_more : (k : Kind) (i : ℕ) (ts : List Token) (t : Token) → slice_get ts i ≡ Some t → t.held.kind.sv.0 ≡ k.sv.0 → t.held.kind.value.0 ≡ k.value.0 → connects k i (drop i (map cell_of ts)) ≡ Connect (at k.sv.0 i) ∷ connects k (suc i) (drop (suc i) (map cell_of ts))
connects_more k i ts t is variable value =
    let here = slice_get-map cell_of ts i ∙ ap (option_map cell_of) is in
    let same : same_kind t.held.kind k ≡ true = rw (eq-eqb t.held.kind.sv.0 k.sv.0 variable, eq-eqb t.held.kind.value.0 k.value.0 value) refl in
    ap (connects k i) (drop_at (map cell_of ts) i (cell_of t) here) ∙ ap (λ s. cond s (Connect (at k.sv.0 i) ∷ []) [] ++ connects k (suc i) (drop (suc i) (map cell_of ts))) same

pub connects_less : (k : Kind) (i : ℕ) (ts : List Token) (t : Token) → slice_get ts i ≡ Some t → (t.held.kind.value.0 ≡ k.value.0 → ⊥) → connects k i (drop i (map cell_of ts)) ≡ connects k (suc i) (drop (suc i) (map cell_of ts))
connects_less k i ts t is other =
    let here = slice_get-map cell_of ts i ∙ ap (option_map cell_of) is in
    let differ : same_kind t.held.kind k ≡ false = not_both (nat_eq t.held.kind.sv.0 k.sv.0) (nat_eq t.held.kind.value.0 k.value.0) (λ e. other (eqb-true _ _ e)) in
    ap (connects k i) (drop_at (map cell_of ts) i (cell_of t) here) ∙ ap (λ s. cond s (Connect (at k.sv.0 i) ∷ []) [] ++ connects k (suc i) (drop (suc i) (map cell_of ts))) differ
  where
    not_both : (x y : Bool) → (y ≡ true → ⊥) → (x && y) ≡ false
    not_both false y h = refl
    not_both true true h = absurd (h refl)
    not_both true false h = refl

-- the token at a place stands behind a gap, or doesn't
pub slots_more : (i : ℕ) (ts : List Token) (t : Token) → slice_get ts i ≡ Some t → 0 < i → slots_after true (i - 1) (drop i (map cell_of ts)) ≡ cond t.joined [] ((i - 1) ∷ []) ++ slots_after true i (drop (suc i) (map cell_of ts))
slots_more i ts t is some =
    let here = slice_get-map cell_of ts i ∙ ap (option_map cell_of) is in
    let e : suc (i - 1) ≡ i = omega arith in
    ap (slots_after true (i - 1)) (drop_at (map cell_of ts) i (cell_of t) here) ∙ ap (λ n. cond t.joined [] ((i - 1) ∷ []) ++ slots_after true n (drop (suc i) (map cell_of ts))) e

-- where the loop over gaps begins
pub slots_begin : (ts : List Token) → slots_after true 0 (drop 1 (map cell_of ts)) ≡ slots_from true (map cell_of ts)
slots_begin [] = refl
slots_begin (t ∷ ts) = refl

-- a turn of the loop over tokens that are there
pub connects_hit : (k : Kind) (i : ℕ) (ts : List Token) (d : Token) (list next total : List Resolver) → i < length ts → AllByRecursion (λ (t : Token). t.held.kind.sv.0 ≡ k.sv.0) ts → (get_or ts i d).held.kind.value.0 ≡ k.value.0 → list ++ connects k i (drop i (map cell_of ts)) ≡ total → next ≡ list ++ Connect (at k.sv.0 i) ∷ [] → next ++ connects k (i + 1) (drop (i + 1) (map cell_of ts)) ≡ total
connects_hit k i ts d list next total below own value inv push =
    let t = get_or ts i d in
    let is : slice_get ts i ≡ Some t = slice_get-get_or ts i d below in
    let e : suc i ≡ i + 1 = omega arith in
    ap (λ l. l ++ connects k (i + 1) (drop (i + 1) (map cell_of ts))) push
    ∙ append_assoc list (Connect (at k.sv.0 i) ∷ []) (connects k (i + 1) (drop (i + 1) (map cell_of ts)))
    ∙ ap (λ n. list ++ Connect (at k.sv.0 i) ∷ connects k n (drop n (map cell_of ts))) (sym e)
    ∙ ap (λ l. list ++ l) (sym (connects_more k i ts t is (each_at (λ (t : Token). t.held.kind.sv.0 ≡ k.sv.0) ts i t own is) value)) ∙ inv

pub connects_miss : (k : Kind) (i : ℕ) (ts : List Token) (d : Token) (list next total : List Resolver) → i < length ts → ((get_or ts i d).held.kind.value.0 ≡ k.value.0 → ⊥) → list ++ connects k i (drop i (map cell_of ts)) ≡ total → next ≡ list → next ++ connects k (i + 1) (drop (i + 1) (map cell_of ts)) ≡ total
connects_miss k i ts d list next total below other inv same =
    let t = get_or ts i d in
    let is : slice_get ts i ≡ Some t = slice_get-get_or ts i d below in
    let e : suc i ≡ i + 1 = omega arith in
    ap (λ l. l ++ connects k (i + 1) (drop (i + 1) (map cell_of ts))) same
    ∙ ap (λ n. list ++ connects k n (drop n (map cell_of ts))) (sym e)
    ∙ ap (λ l. list ++ l) (sym (connects_less k i ts t is other)) ∙ inv

-- a turn of the loop over gaps
pub gaps_hit : (k : Kind) (i : ℕ) (ts : List Token) (d : Token) (list next total : List Resolver) → i < length ts → 1 ≤ i → (get_or ts i d).joined ≡ false → list ++ inserts k (slots_after true (i - 1) (drop i (map cell_of ts))) ≡ total → next ≡ list ++ Insert k.sv (i - 1) k.value ∷ [] → next ++ inserts k (slots_after true ((i + 1) - 1) (drop (i + 1) (map cell_of ts))) ≡ total
gaps_hit k i ts d list next total below some gap inv push =
    let t = get_or ts i d in
    let is : slice_get ts i ≡ Some t = slice_get-get_or ts i d below in
    let e : suc i ≡ i + 1 = omega arith in
    let f : (i + 1) - 1 ≡ i = omega arith in
    ap (λ l. l ++ inserts k (slots_after true ((i + 1) - 1) (drop (i + 1) (map cell_of ts)))) push
    ∙ append_assoc list (Insert k.sv (i - 1) k.value ∷ []) (inserts k (slots_after true ((i + 1) - 1) (drop (i + 1) (map cell_of ts))))
    ∙ ap (λ n. list ++ Insert k.sv (i - 1) k.value ∷ inserts k (slots_after true n (drop (i + 1) (map cell_of ts)))) f
    ∙ ap (λ n. list ++ Insert k.sv (i - 1) k.value ∷ inserts k (slots_after true i (drop n (map cell_of ts)))) (sym e)
    ∙ ap (λ j. list ++ inserts k (cond j [] ((i - 1) ∷ []) ++ slots_after true i (drop (suc i) (map cell_of ts)))) (sym gap)
    ∙ ap (λ l. list ++ inserts k l) (sym (slots_more i ts t is (omega arith))) ∙ inv

pub gaps_miss : (k : Kind) (i : ℕ) (ts : List Token) (d : Token) (list next total : List Resolver) → i < length ts → 1 ≤ i → (get_or ts i d).joined ≡ true → list ++ inserts k (slots_after true (i - 1) (drop i (map cell_of ts))) ≡ total → next ≡ list → next ++ inserts k (slots_after true ((i + 1) - 1) (drop (i + 1) (map cell_of ts))) ≡ total
gaps_miss k i ts d list next total below some shut inv same =
    let t = get_or ts i d in
    let is : slice_get ts i ≡ Some t = slice_get-get_or ts i d below in
    let e : suc i ≡ i + 1 = omega arith in
    let f : (i + 1) - 1 ≡ i = omega arith in
    ap (λ l. l ++ inserts k (slots_after true ((i + 1) - 1) (drop (i + 1) (map cell_of ts)))) same
    ∙ ap (λ n. list ++ inserts k (slots_after true n (drop (i + 1) (map cell_of ts)))) f
    ∙ ap (λ n. list ++ inserts k (slots_after true i (drop n (map cell_of ts)))) (sym e)
    ∙ ap (λ j. list ++ inserts k (cond j [] ((i - 1) ∷ []) ++ slots_after true i (drop (suc i) (map cell_of ts)))) (sym shut)
    ∙ ap (λ l. list ++ inserts k l) (sym (slots_more i ts t is (omega arith))) ∙ inv

pub gaps_end : (k : Kind) (i : ℕ) (ts : List Token) (list total : List Resolver) → length ts ≤ i → list ++ inserts k (slots_after true (i - 1) (drop i (map cell_of ts))) ≡ total → list ≡ total
gaps_end k i ts list total past inv =
    let none = drop_past (map cell_of ts) i (omega (arith, length-map' cell_of ts)) in
    sym (append-nil list) ∙ ap (λ cs. list ++ inserts k (slots_after true (i - 1) cs)) (sym none) ∙ inv

-- the open end comes behind the gaps
pub inserts_done : (k : Kind) (ts us : List Token) (finished : Bool) (old mid new : List Resolver) (n : ℕ) → finished ≡ false → 0 < length ts → us ≡ ts → mid ≡ old ++ inserts k (slots_from true (map cell_of us)) → n ≡ length ts → new ≡ mid ++ Insert k.sv (n - 1) k.value ∷ [] → new ≡ old ++ inserts k (slots_from finished (map cell_of ts))
inserts_done k ts us finished old mid new n ajar some same gaps size push =
    let long = length-map' cell_of ts in
    let e : n - 1 ≡ length (map cell_of ts) - 1 = omega arith in
    let all : slots_from finished (map cell_of ts) ≡ slots_from true (map cell_of ts) ++ (length (map cell_of ts) - 1) ∷ [] = slots_end finished (map cell_of ts) (omega arith) ∙ ap (λ f. slots_from true (map cell_of ts) ++ cond f [] ((length (map cell_of ts) - 1) ∷ [])) ajar in
    push ∙ ap (λ l. l ++ Insert k.sv (n - 1) k.value ∷ []) (gaps ∙ ap (λ l. old ++ inserts k (slots_from true (map cell_of l))) same)
    ∙ append_assoc old (inserts k (slots_from true (map cell_of ts))) (Insert k.sv (n - 1) k.value ∷ [])
    ∙ ap (λ i. old ++ (inserts k (slots_from true (map cell_of ts)) ++ Insert k.sv i k.value ∷ [])) e
    ∙ ap (λ l. old ++ l) (sym (map-append (λ i. Insert k.sv i k.value) (slots_from true (map cell_of ts)) ((length (map cell_of ts) - 1) ∷ [])))
    ∙ ap (λ l. old ++ inserts k l) (sym all)

-- the tokens that could serve, where there is room for one more, and where there isn't
module _ (b : Begun) (p : Partial) (k : Kind) (s : Shown) (shown : cells (row p k.sv.0) ≡ map cell_of s.tokens) (ends : (row p k.sv.0).finished ≡ s.finished) where
  pub wanted_room : (us : List Token) (old mid new : List Resolver) → has_room b p ≡ true → us ≡ s.tokens → mid ≡ old ++ connects k 0 (map cell_of us) → new ≡ mid ++ inserts k (slots_from s.finished (map cell_of s.tokens)) → new ≡ old ++ wanted b p k
  wanted_room us old mid new room same first second =
      second ∙ ap (λ l. l ++ inserts k (slots_from s.finished (map cell_of s.tokens))) (first ∙ ap (λ l. old ++ connects k 0 (map cell_of l)) same)
      ∙ append_assoc old (connects k 0 (map cell_of s.tokens)) (inserts k (slots_from s.finished (map cell_of s.tokens)))
      ∙ ap (λ cs. old ++ (connects k 0 cs ++ inserts k (slots_from s.finished cs))) (sym shown)
      ∙ ap (λ f. old ++ (connects k 0 (cells (row p k.sv.0)) ++ inserts k (slots_from f (cells (row p k.sv.0))))) (sym ends)
      ∙ ap (λ r. old ++ (connects k 0 (cells (row p k.sv.0)) ++ cond r (inserts k (slots (row p k.sv.0))) [])) (sym room)

  pub wanted_full : (us : List Token) (old new : List Resolver) → has_room b p ≡ false → us ≡ s.tokens → new ≡ old ++ connects k 0 (map cell_of us) → new ≡ old ++ wanted b p k
  wanted_full us old new full same first =
      first ∙ ap (λ l. old ++ connects k 0 (map cell_of l)) same ∙ ap (λ cs. old ++ connects k 0 cs) (sym shown)
      ∙ ap (λ l. old ++ l) (sym (append-nil (connects k 0 (cells (row p k.sv.0)))))
      ∙ ap (λ r. old ++ (connects k 0 (cells (row p k.sv.0)) ++ cond r (inserts k (slots (row p k.sv.0))) [])) (sym full)

pub wanted_none : (b : Begun) (p : Partial) (k : Kind) (old : List Resolver) → row p k.sv.0 ≡ no_row → old ≡ old ++ wanted b p k
wanted_none b p k old none = elim (cases_Bool (has_room b p)) [ inl room ↦ rw (none, room) (sym (append-nil old)) | inr full ↦ rw (none, full) (sym (append-nil old)) ]

-- whether a token is the last of its timeline
pub last_shown : (p : Partial) (t : TokenRef) (n : ℕ) → n ≡ length (cells (row p t.sv.0)) → nat_eq (t.place + 1) n ≡ is_last p t
last_shown p t n size = let e : t.place + 1 ≡ suc t.place = omega arith in ap (λ k. nat_eq k n) e ∙ ap (nat_eq (suc t.place)) size

pub last_none : (p : Partial) (t : TokenRef) → row p t.sv.0 ≡ no_row → false ≡ is_last p t
last_none p t none = elim (cases_Bool (is_last p t)) [
  | inl yes' ↦ let e : suc t.place ≡ length (cells (row p t.sv.0)) = eqb-true _ _ yes' in let f = ap (λ (r : Row). length (cells r)) none in absurd (omega arith)
  | inr no' ↦ sym no'
]

-- the closing of a gap or an open end
pub closing_end : (ts : List Token) (i : ℕ) (next : List ValId) (old new : List Resolver) → length ts ≤ i + 1 → new ≡ old ++ Finish ∷ [] → new ≡ old ++ closing (map cell_of ts) i next
closing_end ts i next old new past push =
    let none : slice_get (map cell_of ts) (suc i) ≡ None = slice_get_past (map cell_of ts) (suc i) (omega (arith, length-map' cell_of ts)) in
    push ∙ ap (λ (o : Option Cell). old ++ elim o [ None ↦ Finish ∷ [] | Some d ↦ cond (list_any (λ (n : ValId). nat_eq n.0 d.held.kind.value.0) next) (Join ∷ []) [] ]) (sym none)

closing_some : (ts : List Token) (i : ℕ) (d : Token) (next : List ValId) → i + 1 < length ts → closing (map cell_of ts) i next ≡ cond (list_any (λ (n : ValId). nat_eq n.0 (get_or ts (i + 1) d).held.kind.value.0) next) (Join ∷ []) []
closing_some ts i d next below =
    let e : suc i ≡ i + 1 = omega arith in
    let some : slice_get (map cell_of ts) (suc i) ≡ Some (cell_of (get_or ts (i + 1) d)) = ap (slice_get (map cell_of ts)) e ∙ slice_get-map cell_of ts (i + 1) ∙ ap (option_map cell_of) (slice_get-get_or ts (i + 1) d below) in
    ap (λ (o : Option Cell). elim o [ None ↦ Finish ∷ [] | Some d ↦ cond (list_any (λ (n : ValId). nat_eq n.0 d.held.kind.value.0) next) (Join ∷ []) [] ]) some

pub closing_join : (ts : List Token) (i : ℕ) (d : Token) (next : List ValId) (old new : List Resolver) → i + 1 < length ts → list_any (λ (n : ValId). nat_eq n.0 (get_or ts (i + 1) d).held.kind.value.0) next ≡ true → new ≡ old ++ Join ∷ [] → new ≡ old ++ closing (map cell_of ts) i next
closing_join ts i d next old new below yes' push = push ∙ ap (λ r. old ++ cond r (Join ∷ []) []) (sym yes') ∙ ap (λ l. old ++ l) (sym (closing_some ts i d next below))

pub closing_none : (ts : List Token) (i : ℕ) (d : Token) (next : List ValId) (old : List Resolver) → i + 1 < length ts → list_any (λ (n : ValId). nat_eq n.0 (get_or ts (i + 1) d).held.kind.value.0) next ≡ false → old ≡ old ++ closing (map cell_of ts) i next
closing_none ts i d next old below no' = sym (append-nil old) ∙ ap (λ r. old ++ cond r (Join ∷ []) []) (sym no') ∙ ap (λ l. old ++ l) (sym (closing_some ts i d next below))

-- the ways to fill a slot
module _ (m : Mission) (b : Begun) (p : Partial) (v : SvId) (i : ℕ) (ts : List Token) (shown : cells (row p v.0) ≡ map cell_of ts) where
  held_here : (j : ℕ) (c : Cell) → slice_get (cells (row p v.0)) j ≡ Some c → held_at p v.0 j ≡ c.held
  held_here j c is = get_or_from_slice_get (map (λ (c : Cell). c.held) (cells (row p v.0))) j c.held nobody (slice_get-map (λ (c : Cell). c.held) (cells (row p v.0)) j ∙ ap (option_map (λ (c : Cell). c.held)) is)

  slot_closing : (next : List ValId) → next ≡ next_of m (held_at p v.0 i).kind → i < length ts → closing (map cell_of ts) i next ≡ cond (is_last p (at v.0 i)) (Finish ∷ []) (cond (may_join m (held_at p v.0 i) (held_at p v.0 (suc i))) (Join ∷ []) [])
  slot_closing next is below = by_case (slice_get (map cell_of ts) (suc i)) refl
    where
      by_case : (o : Option Cell) → slice_get (map cell_of ts) (suc i) ≡ o → closing (map cell_of ts) i next ≡ cond (is_last p (at v.0 i)) (Finish ∷ []) (cond (may_join m (held_at p v.0 i) (held_at p v.0 (suc i))) (Join ∷ []) [])
      by_case None none =
          let last : is_last p (at v.0 i) ≡ true = eq-eqb (suc i) (length (cells (row p v.0))) (ends_here (cases_lt (suc i) (length ts)) none) in
          ap (λ (o : Option Cell). elim o [ None ↦ Finish ∷ [] | Some d ↦ cond (list_any (λ (n : ValId). nat_eq n.0 d.held.kind.value.0) next) (Join ∷ []) [] ]) none ∙ ap (λ l. cond l (Finish ∷ []) (cond (may_join m (held_at p v.0 i) (held_at p v.0 (suc i))) (Join ∷ []) [])) (sym last)
        where
          ends_here : (suc i < length ts) ⊎ (length ts ≤ suc i) → slice_get (map cell_of ts) (suc i) ≡ None → suc i ≡ length (cells (row p v.0))
          ends_here (inl more) none =
              let t = get_or ts (suc i) nothing_held in
              let some : slice_get (map cell_of ts) (suc i) ≡ Some (cell_of t) = slice_get-map cell_of ts (suc i) ∙ ap (option_map cell_of) (slice_get-get_or ts (suc i) nothing_held more) in
              let f : None ≡ Some (cell_of t) = sym none ∙ some in
              absurd (cc)
          ends_here (inr past) none = omega (arith, ap length shown, length-map' cell_of ts)
      by_case (Some d) some =
          let there : slice_get (cells (row p v.0)) (suc i) ≡ Some d = ap (λ l. slice_get l (suc i)) shown ∙ some in
          let within = slice_get_within (cells (row p v.0)) (suc i) d there in
          let more : is_last p (at v.0 i) ≡ false = not_last (cases_Bool (is_last p (at v.0 i))) within in
          let value : (held_at p v.0 (suc i)) ≡ d.held = held_here (suc i) d there in
          ap (λ (o : Option Cell). elim o [ None ↦ Finish ∷ [] | Some d ↦ cond (list_any (λ (n : ValId). nat_eq n.0 d.held.kind.value.0) next) (Join ∷ []) [] ]) some
          ∙ ap (λ l. cond (list_any (λ (n : ValId). nat_eq n.0 d.held.kind.value.0) l) (Join ∷ []) []) is ∙ ap (λ (x : Held). cond (list_any (λ (n : ValId). nat_eq n.0 x.kind.value.0) (next_of m (held_at p v.0 i).kind)) (Join ∷ []) []) (sym value)
          ∙ ap (λ l. cond l (Finish ∷ []) (cond (may_join m (held_at p v.0 i) (held_at p v.0 (suc i))) (Join ∷ []) [])) (sym more)
        where
          not_last : (is_last p (at v.0 i) ≡ true) ⊎ (is_last p (at v.0 i) ≡ false) → suc i < length (cells (row p v.0)) → is_last p (at v.0 i) ≡ false
          not_last (inl yes') within = let e : suc i ≡ length (cells (row p v.0)) = eqb-true _ _ yes' in absurd (omega arith)
          not_last (inr no') within = no'

  pub slot_resolved : (us : List Token) (d : Token) (next : List ValId) (old mid new : List Resolver) → us ≡ ts → i < length ts → next ≡ next_of m (get_or us i d).held.kind → mid ≡ old ++ closing (map cell_of us) i next → new ≡ mid ++ growing b p (map (λ n. Follow n) next) → new ≡ old ++ resolved m b p (GapFlaw v i)
  slot_resolved us d next old mid new same below is first second =
      let here : slice_get (cells (row p v.0)) i ≡ Some (cell_of (get_or ts i d)) = ap (λ l. slice_get l i) shown ∙ slice_get-map cell_of ts i ∙ ap (option_map cell_of) (slice_get-get_or ts i d below) in
      let kind : next ≡ next_of m (held_at p v.0 i).kind = is ∙ ap (λ l. next_of m (get_or l i d).held.kind) same ∙ ap (λ (x : Held). next_of m x.kind) (sym (held_here i (cell_of (get_or ts i d)) here)) in
      let rest = growing b p (map (λ n. Follow n) (next_of m (held_at p v.0 i).kind)) in
      second ∙ ap (λ l. mid ++ growing b p (map (λ n. Follow n) l)) kind
      ∙ ap (λ l. l ++ rest) (first ∙ ap (λ l. old ++ closing (map cell_of l) i next) same ∙ ap (λ l. old ++ l) (slot_closing next kind below))
      ∙ append_assoc old (cond (is_last p (at v.0 i)) (Finish ∷ []) (cond (may_join m (held_at p v.0 i) (held_at p v.0 (suc i))) (Join ∷ []) [])) rest
