-- Rows of marks tell the kept edges.
use Rattle.std.proofs.Common.{◌≡◌, ℕ, set, arith, ◌+◌, ◌<◌, Bool, true, false, cond, Vec, Global, List, [], ◌∷◌, ◌++◌, length, get_or, take, map, All, Contains, ℤ, pos, refl, sym, ap, ◌∙◌, subst, inl, inr}
use Rattle.std.proofs.lemmas.Bool.{cases_Bool, cases_eq, and_from, and_right, or_right, eq-eqb, ne_eqb}
use Rattle.std.proofs.lemmas.List.{get_or-map, get_or-set_same, get_or-set_other, length-map, length-set}
use Rattle.std.proofs.lemmas.List.Elements.{Contains-get_or}
use Rattle.std.proofs.lemmas.List.Folds.{list_any_more}
use Rattle.std.specs.Prelude.{filter, int_le, int_lt, not, nat_eq, ◌&&◌, ◌||◌}
use Rattle.hs_base.specs.declared.net.Net.{Net}
use Rattle.hs_base.specs.Schedule.{bound}
use Rattle.hs_base.specs.Reduced.{Table, IsReducedOf, leaders, group_of, is_kept, reduced}
use Rattle.stn_distance.specs.Distances.{Distances, weight}
use Rattle.net_laws.proofs.BetweenLemmas.{Web, int_le-false, lt_int_lt}
use Rattle.net_laws.proofs.ListLemmas.{has_from}
use Rattle.net_laws.proofs.GroupLemmas.{has_leader, leaders_web}
use Rattle.net_laws.proofs.ExactLemmas.{table_of, reduced_again}
use Rattle.net_laws.proofs.NetworkLemmas.{leaders_differ}
use Rattle.rigid_contract.proofs.AmongLemmas.{map_filter_more}
use Rattle.edge_filter.specs.declared.side.Side.{Side}
use Rattle.edge_filter.specs.declared.side.Side.TheVariants.{Incoming, Outgoing}
use Rattle.edge_filter.specs.declared.candidates.Candidate.{Candidate}
use Rattle.edge_filter.specs.Sides.{is_kept_on}
use Rattle.edge_filter.specs.Candidates.{some_passes, is_unpassed, AreMarked}
use Rattle.edge_filter.specs.Marks.{AreLeaders, leaders_in, rows_in, mark_at, marks_on}

-- ---- Leaders

pub leader_below : (dv : Distances) (ls : List ℕ) (x : ℕ) → AreLeaders dv ls → Contains ls x → x < dv.count
leader_below dv ls x h i = (has_leader dv.count (weight dv) (table_of dv.count dv.bounds (weight dv) h.table) x (has_from (leaders dv.count (weight dv)) x (subst (λ (ys : List ℕ). Contains ys x) h.are i))).0

pub leaders_below : (dv : Distances) (ls : List ℕ) → AreLeaders dv ls → All (λ p. p < dv.count) ls
leaders_below dv ls h k d l = leader_below dv ls (get_or ls k d) h (Contains-get_or ls k d l)

pub leaders_are_web : (dv : Distances) (ls : List ℕ) → AreLeaders dv ls → Web (weight dv) ls
leaders_are_web dv ls h = subst (Web (weight dv)) (sym h.are) (leaders_web dv.count (weight dv) (table_of dv.count dv.bounds (weight dv) h.table))

pub leaders_in-groups : (c : ℕ) (d : Table) (ls : List ℕ) → leaders_in (map (group_of c d) ls) ≡ ls
leaders_in-groups c d [] = refl
leaders_in-groups c d (x ∷ xs) = ap (λ ys. x ∷ ys) (leaders_in-groups c d xs)

or_none : (b : Bool) → (b || false) ≡ b
or_none true = refl
or_none false = refl

-- no two of them are one
pub leaders_apart : (dv : Distances) (ls : List ℕ) → AreLeaders dv ls → (i j : ℕ) → i < length ls → j < length ls → get_or ls i 0 ≡ get_or ls j 0 → i ≡ j
leaders_apart dv ls h i j li lj same =
    let net : Net = reduced dv.count (weight dv) in
    let is : IsReducedOf dv.count dv.bounds net = record { table = weight dv; tight = h.table; is = refl } in
    let e : ls ≡ leaders_in net.groups = h.are ∙ sym (leaders_in-groups dv.count (weight dv) (leaders dv.count (weight dv))) in
    leaders_differ dv.count net (reduced_again dv.count dv.bounds net is) i j (subst (λ (xs : List ℕ). i < length xs) e li) (subst (λ (xs : List ℕ). j < length xs) e lj)
    (subst (λ (xs : List ℕ). get_or xs i 0 ≡ get_or xs j 0) e same)

-- ---- Marks

either_long : (p : Bool) (marks : List Bool) (i : ℕ) → length (cond p marks (set marks i true)) ≡ length marks
either_long true marks i = refl
either_long false marks i = length-set marks i true

either_at : (p : Bool) (marks : List Bool) (k i : ℕ) → k < length marks → get_or (cond p marks (set marks k true)) i false ≡ (get_or marks i false || (nat_eq k i && not p))
either_at true marks k i l = rw (and_right (nat_eq k i) false refl) (sym (or_none (get_or marks i false)))
either_at false marks k i l = elim (cases_eq i k) [
  | inl e ↦ rw e (get_or-set_same marks k true false l ∙ sym (or_right (get_or marks k false) (nat_eq k k && true) (and_from (nat_eq k k) true (eq-eqb k k refl) refl)))
  | inr n ↦ rw (ne_eqb k i (λ e. n (sym e))) (get_or-set_other marks k i true false n ∙ sym (or_none (get_or marks i false)))
]

-- the marks with one more candidate
pub AreMarked-more : (rows : List (List ℤ)) (bs : List Candidate) (k : ℕ) (none : Candidate) (marks next : List Bool) → k < length bs → AreMarked rows bs (take k bs) marks
    → (get_or bs k none).place < length rows → next ≡ cond (some_passes rows bs (get_or bs k none)) marks (set marks (get_or bs k none).place true)
    → AreMarked rows bs (take (k + 1) bs) next
AreMarked-more rows bs k none marks next lk h lp e =
    let b = get_or bs k none in
    let long = h.long in
    record {
      long = ap (λ (xs : List Bool). length xs) e ∙ either_long (some_passes rows bs b) marks b.place ∙ long;
      each = λ i li.
          ap (λ (xs : List Bool). get_or xs i false) e ∙ either_at (some_passes rows bs b) marks b.place i (omega arith)
          ∙ ap (λ (x : Bool). x || is_unpassed rows bs i b) (h.each i li) ∙ sym (list_any_more (is_unpassed rows bs i) bs k none lk);
    }

pub row_long : (side : Side) (d : Table) (ls : List ℕ) (rows : List (Vec Bool Global)) → rows_in rows ≡ marks_on side d ls ls → length rows ≡ length ls
row_long side d ls rows e = sym (length-map rows (λ (row : Vec Bool Global). row.items)) ∙ ap (λ (xs : List (List Bool)). length xs) e ∙ length-map ls (λ a. map (is_kept_on side d ls a) ls)

mark_read : (side : Side) (d : Table) (ls : List ℕ) (i j : ℕ) → i < length ls → j < length ls → mark_at (marks_on side d ls ls) i j ≡ is_kept_on side d ls (get_or ls i 0) (get_or ls j 0)
mark_read side d ls i j li lj =
    ap (λ (row : List Bool). get_or row j false) (get_or-map (λ a. map (is_kept_on side d ls a) ls) ls i 0 [] li)
    ∙ get_or-map (is_kept_on side d ls (get_or ls i 0)) ls j 0 false lj

either_sign : (k : Bool) (w : ℤ) → ((k && int_le (pos 0) w) || (k && int_lt w (pos 0))) ≡ k
either_sign false w = refl
either_sign true w = elim (cases_Bool (int_le (pos 0) w)) [
  | inl e ↦ rw e refl
  | inr e ↦ rw (e, lt_int_lt w (pos 0) (int_le-false (pos 0) w e)) refl
]

-- the marks on both sides tell whether the edge is kept
pub marks_tell : (d : Table) (ls : List ℕ) (incoming outgoing : List (List Bool)) (i j : ℕ) → i < length ls → j < length ls
    → incoming ≡ marks_on Incoming d ls ls → outgoing ≡ marks_on Outgoing d ls ls
    → (mark_at incoming j i || mark_at outgoing i j) ≡ is_kept d ls (get_or ls i 0) (get_or ls j 0)
marks_tell d ls incoming outgoing i j li lj e f =
    ap (λ (rows : List (List Bool)). mark_at rows j i || mark_at outgoing i j) e ∙ ap (λ (rows : List (List Bool)). mark_at (marks_on Incoming d ls ls) j i || mark_at rows i j) f
    ∙ ap (λ (b : Bool). b || mark_at (marks_on Outgoing d ls ls) i j) (mark_read Incoming d ls j i lj li)
    ∙ ap (λ (b : Bool). is_kept_on Incoming d ls (get_or ls j 0) (get_or ls i 0) || b) (mark_read Outgoing d ls i j li lj)
    ∙ either_sign (is_kept d ls (get_or ls i 0) (get_or ls j 0)) (d (get_or ls i 0) (get_or ls j 0))

-- the kept edges from a, with one more leader
pub edges_more : (d : Table) (ls : List ℕ) (a j : ℕ) → j < length ls
    → map (λ e. bound a e (d a e)) (filter (is_kept d ls a) (take (j + 1) ls))
    ≡ map (λ e. bound a e (d a e)) (filter (is_kept d ls a) (take j ls)) ++ cond (is_kept d ls a (get_or ls j 0)) (bound a (get_or ls j 0) (d a (get_or ls j 0)) ∷ []) []
edges_more d ls a j l = map_filter_more (λ e. bound a e (d a e)) (is_kept d ls a) ls j 0 l
