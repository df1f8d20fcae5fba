-- Values that may follow each other, along a row.
use Rattle.std.proofs.Common.{◌≡◌, ℕ, zero, suc, ◌≤◌, true, false, List, [], ◌∷◌, ◌++◌, length, map, insert, slice_get, take, Option, Some, None, refl, sym, ap, ◌∙◌, subst, arith}
use Rattle.std.proofs.lemmas.Bool.{false≢true}
use Rattle.std.specs.Prelude.{Contains}
use Rattle.hs_base.specs.Checked.{MayStandBehind}
use Rattle.hs_base.specs.Points.{value_of}
use Rattle.hs_base.specs.Timelines.{MayFollow}
use Rattle.hs_base.specs.declared.ids.ValId.{ValId}
use Rattle.hs_base.specs.declared.mission.Kind.{Kind}
use Rattle.hs_base.specs.declared.mission.Mission.{Mission}
use Rattle.hs_base.specs.declared.mission.Value.{Value}
use Rattle.hs_base.specs.declared.mission.Var.{Var}
use Rattle.base_laws.proofs.MissionLemmas.{value_found}
use Rattle.search_laws.specs.Lawful.{AreLinked, Continue}
use Rattle.search_tree.proofs.CellLemmas.{given_cell}
use Rattle.search_tree.proofs.PartLemmas.{shut}
use Rattle.search_tree.specs.Begun.{Begun}
use Rattle.search_tree.specs.Partial.{held_from}
use Rattle.search_tree.specs.Parts.{at_place}
use Rattle.search_tree.specs.Resolvers.{next_of}
use Rattle.search_tree.specs.declared.held.Cell.{Cell}

abbrev pub value_of_cell : Cell → ℕ
value_of_cell c = c.held.kind.value.0

-- the value before the i-th cell, where x is the one before the first
abbrev pub value_before : ℕ → List Cell → ℕ → ℕ
value_before x cs zero = x
value_before x [] (suc i) = x
value_before x (c ∷ cs) (suc i) = value_before (value_of_cell c) cs i

value_is : (x : ℕ) (cs : List Cell) (i : ℕ) (c : Cell) → slice_get cs i ≡ Some c → value_before x cs (suc i) ≡ value_of_cell c
value_is x [] i c is = absurd (cc)
value_is x (d ∷ cs) zero c is = let same : d ≡ c = cc in ap value_of_cell same
value_is x (d ∷ cs) (suc i) c is = value_is (value_of_cell d) cs i c is

-- a cell before a gap or the end
continue-insert : (var : Var) (x : ℕ) (cs : List Cell) (i : ℕ) (c : Cell) → Continue var x cs → i ≤ length cs → (c.joined ≡ true → MayFollow var (value_before x cs i) (value_of_cell c)) → ((d : Cell) → slice_get cs i ≡ Some d → d.joined ≡ false) → Continue var x (insert cs i c)
continue-insert var x [] zero c h below new gap = (new, tt)
continue-insert var x [] (suc i) c h below new gap = absurd (omega arith)
continue-insert var x (d ∷ cs) zero c h below new gap = (new, ((λ joined. absurd (false≢true (sym (gap d refl) ∙ joined))), h.1))
continue-insert var x (d ∷ cs) (suc i) c h below new gap = (h.0, continue-insert var (value_of_cell d) cs i c h.1 (omega arith) new gap)

pub linked-insert : (var : Var) (cs : List Cell) (i : ℕ) (b c : Cell) → AreLinked var cs → slice_get cs i ≡ Some b → suc i ≤ length cs → (c.joined ≡ true → MayFollow var (value_of_cell b) (value_of_cell c)) → ((d : Cell) → slice_get cs (suc i) ≡ Some d → d.joined ≡ false) → AreLinked var (insert cs (suc i) c)
linked-insert var [] i b c h is below new gap = absurd (cc)
linked-insert var (a ∷ cs) i b c h is below new gap = (h.0, continue-insert var (value_of_cell a) cs i c h.1 (omega arith) (λ joined. subst (λ x. MayFollow var x (value_of_cell c)) (sym (value_is 0 (a ∷ cs) i b is)) (new joined)) gap)

-- a gap that is closed
continue-shut : (var : Var) (x : ℕ) (cs : List Cell) (i : ℕ) (c : Cell) → Continue var x cs → slice_get cs i ≡ Some c → MayFollow var (value_before x cs i) (value_of_cell c) → Continue var x (at_place shut i cs)
continue-shut var x [] i c h is new = absurd (cc)
continue-shut var x (d ∷ cs) zero c h is new =
    let same : c ≡ d = cc in
    ((λ joined. subst (λ (y : Cell). MayFollow var x (value_of_cell y)) same new), h.1)
continue-shut var x (d ∷ cs) (suc i) c h is new = (h.0, continue-shut var (value_of_cell d) cs i c h.1 is new)

pub linked-shut : (var : Var) (cs : List Cell) (i : ℕ) (b c : Cell) → AreLinked var cs → slice_get cs i ≡ Some b → slice_get cs (suc i) ≡ Some c → MayFollow var (value_of_cell b) (value_of_cell c) → AreLinked var (at_place shut (suc i) cs)
linked-shut var [] i b c h is next new = absurd (cc)
linked-shut var (a ∷ cs) i b c h is next new = (h.0, continue-shut var (value_of_cell a) cs i c h.1 next (subst (λ x. MayFollow var x (value_of_cell c)) (sym (value_is 0 (a ∷ cs) i b is)) new))

-- a value that may follow a token's may follow it in its variable
pub may_follow : (m : Mission) (var : Var) (k : Kind) (value : ValId) → slice_get m.vars k.sv.0 ≡ Some var → Contains (next_of m k) value → MayFollow var k.value.0 value.0
may_follow m var k value is has = by_case (value_of m k) refl has
  where
    by_case : (o : Option Value) → value_of m k ≡ o → Contains (next_of m k) value → MayFollow var k.value.0 value.0
    by_case None none has = let h : Contains [] value = rw none at has in absurd (omega (arith, h.1))
    by_case (Some v) some has =
        let f = value_found m k v some in
        let same : f.0 ≡ var = let both : Some f.0 ≡ Some var = sym f.1 ∙ is in cc in
        (v, subst (λ (x : Var). slice_get x.values k.value.0 ≡ Some v) same f.2, rw some at has)

-- the tokens of a plan that keeps its rules are linked
given_continue : (var : Var) (b : Begun) (v i : ℕ) (prev : Kind) (ks : List Kind) → ((j : ℕ) (k : Kind) → slice_get ks j ≡ Some k → MayStandBehind var (prev ∷ take j ks) k.value.0) → Continue var prev.value.0 (map given_cell (held_from b v i ks) ++ [])
given_continue var b v i prev [] h = tt
given_continue var b v i prev (k ∷ ks) h = ((λ joined. h 0 k refl), given_continue var b v (suc i) k ks (λ j l is. h (suc j) l is))

pub given_linked : (var : Var) (b : Begun) (v i : ℕ) (ks : List Kind) → ((j : ℕ) (k : Kind) → slice_get ks j ≡ Some k → MayStandBehind var (take j ks) k.value.0) → AreLinked var (map given_cell (held_from b v i ks) ++ [])
given_linked var b v i [] h = tt
given_linked var b v i (k ∷ ks) h = (h 0 k refl, given_continue var b v (suc i) k ks (λ j l is. h (suc j) l is))

-- a joined token may stand behind those before it
stands_behind : (var : Var) (a : Cell) (xs : List Cell) (c : Cell) (ys : List Cell) → Continue var (value_of_cell a) (xs ++ c ∷ ys) → c.joined ≡ true → MayStandBehind var (a.held.kind ∷ map (λ (c : Cell). c.held.kind) xs) (value_of_cell c)
stands_behind var a [] c ys h joined = h.0 joined
stands_behind var a (x ∷ xs) c ys h joined = stands_behind var x xs c ys h.1 joined

pub stands : (var : Var) (xs : List Cell) (c : Cell) (ys : List Cell) → AreLinked var (xs ++ c ∷ ys) → c.joined ≡ true → MayStandBehind var (map (λ (c : Cell). c.held.kind) xs) (value_of_cell c)
stands var [] c ys h joined = h.0
stands var (x ∷ xs) c ys h joined = stands_behind var x xs c ys h.1 joined
