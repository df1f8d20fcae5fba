-- What calls and meetings of a pass do, and where its entries lie.
use Rattle.std.proofs.Common.{◌≡◌, ℕ, zero, suc, ◌+◌, ◌≤◌, ◌==◌, List, [], ◌∷◌, ◌++◌, length, Bool, true, false, sym, ap, ◌∙◌, subst, ⊎_elim, inl, inr, if◌then◌else◌, arith, length-append, append-nil, append_assoc, Some}
use Rattle.std.specs.Prelude.{drop, slice_get, filter}
use Rattle.std.proofs.lemmas.Bool.{cases_Bool}
use Rattle.std.proofs.lemmas.Bool.Decides.{nat_tests}
use Rattle.std.proofs.Math.Seq.{drop-append_seam, drop-length}
use Rattle.hs_machine.specs.declared.history.Entry.{Entry}
use Rattle.hs_machine.specs.Histories.{IsPrefix}
use Rattle.exec_lock.specs.declared.view.Placed.{Placed}
use Rattle.exec_lock.specs.declared.view.View.{View}
use Rattle.exec_lock.specs.Passes.{Held, placed, of, heard}
use Rattle.exec_lock.specs.Shares.{Calls}
use Rattle.exec_lock.specs.Works.{front, GoesOn, LieIn, Rests, Works, together, Alternates}
use Rattle.exec_lock.proofs.PrefixLemmas.{prefix_trans}

-- a call makes an entry past the old front at most
pub works_by_call : (Turn : List Entry → List Entry → Type 0) (p q : Held) → q.shared ≡ p.shared → Calls Turn p.view q.view → Works (front p) (front q) p q
works_by_call Turn p q shared call = ⊎_elim stays grows call.appended
  where
    h : List Entry
    h = call.history

    goes : IsPrefix h q.view.seen → GoesOn p q
    goes more = record {
      shared = shared;
      opening = ap (λ (v : View). v.opening) call.view;
      first = ap (λ (v : View). v.first) call.view;
      count = ap (λ (v : View). v.count) call.view;
      joined = ap (λ (v : View). v.joined) call.view;
      seen = prefix_trans p.view.seen h q.view.seen call.begins more;
    }

    calls : q.view.calls ≡ p.view.calls ++ placed (length h) (drop (length h) q.view.seen)
    calls = ap (λ (v : View). v.calls) call.view

    stays : q.view.seen ≡ h → Works (front p) (front q) p q
    stays e = record {
      goes = goes ([], e ∙ sym (append-nil h));
      new = [];
      calls = calls ∙ ap (λ l. p.view.calls ++ placed (length h) l) (ap (drop (length h)) e ∙ drop-length h);
      places = tt;
    }

    grows : (e : Entry) × (e.by ≡ p.view.first) × (q.view.seen ≡ h ++ e ∷ []) → Works (front p) (front q) p q
    grows x =
        let before = ap length call.begins.1 ∙ length-append p.view.seen call.begins.0 in
        let after = ap length x.2 ∙ length-append h (x.0 ∷ []) in record {
          goes = goes (x.0 ∷ [], x.2);
          new = placed (length h) (x.0 ∷ []);
          calls = calls ∙ ap (λ l. p.view.calls ++ placed (length h) l) (ap (drop (length h)) x.2 ∙ drop-append_seam h (x.0 ∷ []));
          places = ((omega (arith, before), omega (arith, after)), tt);
        }

-- a pass that meets another makes no call
pub rests_by_meet : (p q other : Held) → q ≡ record { shared = p.shared; view = heard p.view other.view } → IsPrefix p.view.seen q.view.seen → Rests p q
rests_by_meet p q other is more = record {
  goes = record {
    shared = ap (λ (z : Held). z.shared) is;
    opening = ap (λ (z : Held). z.view.opening) is;
    first = ap (λ (z : Held). z.view.first) is;
    count = ap (λ (z : Held). z.view.count) is;
    joined = ap (λ (z : Held). z.view.joined) is;
    seen = more;
  };
  calls = ap (λ (z : Held). z.view.calls) is;
}

-- a pass goes on and on
pub goes_trans : (p q r : Held) → GoesOn p q → GoesOn q r → GoesOn p r
goes_trans p q r a b = record {
  shared = b.shared ∙ a.shared;
  opening = b.opening ∙ a.opening;
  first = b.first ∙ a.first;
  count = b.count ∙ a.count;
  joined = b.joined ∙ a.joined;
  seen = prefix_trans p.view.seen q.view.seen r.view.seen a.seen b.seen;
}

-- fronts never fall
pub front_goes : (p q : Held) → GoesOn p q → front p ≤ front q
front_goes p q g = let e = ap length g.seen.1 ∙ length-append p.view.seen g.seen.0 in omega (arith, e)

-- entries between two places lie between places further out
pub lie_wider : (a b low high : ℕ) (calls : List Placed) → low ≤ a → b ≤ high → LieIn a b calls → LieIn low high calls
lie_wider a b low high [] l h all = tt
lie_wider a b low high (c ∷ cs) l h all = let x = all.0.0 in let y = all.0.1 in ((omega (arith, x, l), omega (arith, y, h)), lie_wider a b low high cs l h all.1)

-- entries of two parts one after another
pub lie-append : (low high : ℕ) (xs ys : List Placed) → LieIn low high xs → LieIn low high ys → LieIn low high (xs ++ ys)
lie-append low high [] ys a b = b
lie-append low high (x ∷ xs) ys a b = (a.0, lie-append low high xs ys a.1 b)

-- what a pass did in two parts
pub works_trans : (low mid high : ℕ) (p q r : Held) → low ≤ mid → mid ≤ high → Works low mid p q → Works mid high q r → Works low high p r
works_trans low mid high p q r l h a b = record {
  goes = goes_trans p q r a.goes b.goes;
  new = a.new ++ b.new;
  calls = b.calls ∙ (ap (λ l. l ++ b.new) a.calls ∙ append_assoc p.view.calls a.new b.new);
  places = lie-append low high a.new b.new (lie_wider low mid low high a.new (omega arith) h a.places) (lie_wider mid high low high b.new l (omega arith) b.places);
}

-- a pass that makes no call works between any places
pub works_at_rest : (low high : ℕ) (p q : Held) → Rests p q → Works low high p q
works_at_rest low high p q r = record { goes = r.goes; new = []; calls = r.calls ∙ sym (append-nil p.view.calls); places = tt }

-- one part and its tick come behind the others
pub alternates-push : (low a b high : ℕ) (parts ticks : List (List Placed)) (part tick : List Placed) → Alternates low parts ticks a → LieIn a b part → LieIn b high tick → a ≤ b → b ≤ high → Alternates low (parts ++ part ∷ []) (ticks ++ tick ∷ []) high
alternates-push low a b high [] [] part tick alt lp lt le le' = (b, high, lie_wider a b low b part alt (omega arith) lp, lt, omega (arith, alt, le), le', omega arith)
alternates-push low a b high [] (t ∷ ts) part tick alt lp lt le le' = absurd alt
alternates-push low a b high (c ∷ cs) [] part tick alt lp lt le le' = absurd alt
alternates-push low a b high (c ∷ cs) (t ∷ ts) part tick alt lp lt le le' = (alt.0, alt.1, alt.2, alt.3, alt.4, alt.5, alternates-push alt.1 a b high cs ts part tick alt.6 lp lt le le')

-- the calls of one part more
pub together-push : (parts : List (List Placed)) (part : List Placed) → together (parts ++ part ∷ []) ≡ together parts ++ part
together-push [] part = append-nil part
together-push (p ∷ ps) part = ap (λ l. p ++ l) (together-push ps part) ∙ sym (append_assoc p (together ps) part)

-- x stands in the list
abbrev At : {X : Type 0} → List X → X → Type 0
At xs x = (i : ℕ) × (slice_get xs i ≡ Some x)

stays_in : {X : Type 0} (p : X → Bool) (xs : List X) (i : ℕ) (x : X) → slice_get xs i ≡ Some x → p x ≡ true → At (filter p xs) x
stays_in p [] i x e t = absurd (cc)
stays_in p (y ∷ ys) zero x e t = let same : y ≡ x = cc in let t' : p y ≡ true = ap p same ∙ t in (0, rw t' (ap Some same))
stays_in p (y ∷ ys) (suc i) x e t = let r = stays_in p ys i x e t in elim (cases_Bool (p y)) [ inl h ↦ (suc r.0, rw h r.1) | inr h ↦ (r.0, rw h r.1) ]

came : {X : Type 0} (y : X) (ys zs : List X) (b : Bool) → ((j : ℕ) (x : X) → slice_get zs j ≡ Some x → At ys x) → (j : ℕ) (x : X) → slice_get (if b then y ∷ zs else zs) j ≡ Some x → At (y ∷ ys) x
came y ys zs true more zero x e = let same : y ≡ x = cc in (0, ap Some same)
came y ys zs true more (suc j) x e = let r = more j x e in (suc r.0, r.1)
came y ys zs false more j x e = let r = more j x e in (suc r.0, r.1)

comes_from : {X : Type 0} (p : X → Bool) (xs : List X) (j : ℕ) (x : X) → slice_get (filter p xs) j ≡ Some x → At xs x
comes_from p [] j x e = absurd (cc)
comes_from p (y ∷ ys) j x e = came y ys (filter p ys) (p y) (comes_from p ys) j x e

place_of : (base : ℕ) (later : List Entry) (i : ℕ) (e : Entry) → slice_get later i ≡ Some e → slice_get (placed base later) i ≡ Some (record { place = base + suc i; entry = e })
place_of base [] i e h = absurd (cc)
place_of base (x ∷ xs) zero e h = let same : x ≡ e = cc in let n : suc base ≡ base + 1 = omega arith in λ k. Some (record { place = n k; entry = same k })
place_of base (x ∷ xs) (suc i) e h = let n : suc base + suc i ≡ base + suc (suc i) = omega arith in place_of (suc base) xs i e h ∙ ap (λ m. Some (record { place = m; entry = e })) n

-- where the later entries of each number are just these calls, each later entry is one of them, at its place
pub later_called : (base : ℕ) (later : List Entry) (calls : List Placed) → ((n : ℕ) → of n (placed base later) ≡ of n calls) → (i : ℕ) (e : Entry) → slice_get later i ≡ Some e
    → (j : ℕ) × (slice_get calls j ≡ Some (record { place = base + suc i; entry = e }))
later_called base later calls own i e h =
    let c : Placed = record { place = base + suc i; entry = e } in
    let mine : (e.by == e.by) ≡ true = grind (arith, nat_tests) in
    let a = stays_in (λ (d : Placed). d.entry.by == e.by) (placed base later) i c (place_of base later i e h) mine in
    comes_from (λ (d : Placed). d.entry.by == e.by) calls a.0 c (subst (λ l. slice_get l a.0 ≡ Some c) (own e.by) a.1)
