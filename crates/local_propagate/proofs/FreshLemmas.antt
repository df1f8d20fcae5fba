-- The windows of a network of which no group is set, and what counts of waits say.
use Rattle.std.proofs.Common.{◌≡◌, ℕ, zero, suc, ◌<◌, false, List, [], ◌∷◌, length, refl, sym, ap, ◌∙◌, arith, pos, inl, inr, ◌⊎◌, get_or, map, replicate, All, None}
use Rattle.std.proofs.lemmas.Bool.{cases_eq, cases_Bool, eq-eqb, ne_eqb, both_ways}
use Rattle.std.proofs.lemmas.List.{length-map, length-replicate, get_or-map, get_or-replicate, get_or_default}
use Rattle.std.specs.Prelude.{ℤ, ◌≤ℤ◌, nat_eq, int_lt, Contains}
use Rattle.std.specs.List.{count_by}
use Rattle.hs_base.specs.declared.limits.TheConstants.{LAST}
use Rattle.hs_base.specs.declared.net.Bound.{Bound}
use Rattle.hs_base.specs.declared.net.Group.{Group}
use Rattle.hs_base.specs.declared.net.Net.{Net}
use Rattle.hs_base.specs.Fits.{Times}
use Rattle.hs_base.specs.Dispatch.{lookup_time}
use Rattle.hs_base.specs.Windows.{AreSet}
use Rattle.net_laws.proofs.BetweenLemmas.{Has, int_lt-true, lt_int_lt}
use Rattle.net_laws.proofs.LeaderLemmas.{cases_Option}
use Rattle.net_laws.proofs.ListLemmas.{has_from, contains_from}
use Rattle.net_laws.proofs.WindowLemmas.{low_none, high_none}
use Rattle.local_propagate.specs.declared.neighbours.Neighbour.{Neighbour}
use Rattle.local_propagate.specs.declared.windows.Windows.{Windows}
use Rattle.local_propagate.specs.declared.windows.TheConstants.{NEVER}
use Rattle.local_propagate.specs.Joined.{IsJoined, leaders_of, leader_at, place_of, after_of, before_of}
use Rattle.local_propagate.specs.Narrowed.{is_negative}
use Rattle.local_propagate.specs.Windows.{AreWindowsOf, time_of, high_of, set_times, waits_at}
use Rattle.local_propagate.proofs.NarrowLemmas.{count_yes, count_no}

none_set : (gs : List Group) (n x : ℕ) → lookup_time gs (replicate n None) x ≡ None
none_set [] n x = refl
none_set (g ∷ gs) zero x = refl
none_set (g ∷ gs) (suc n) x = elim (cases_Bool (nat_eq g.leader.0 x)) [
  | inl e ↦ rw e refl
  | inr e ↦ rw e (none_set gs n x)
]

count_after : (ls : List ℕ) (time : Times) (x : ℕ) → ((y : ℕ) → time y ≡ None) → (es : List Bound) → count_by is_negative (after_of ls es x) ≡ count_by (waits_at time x) es
count_after ls time x none [] = refl
count_after ls time x none (e ∷ es) =
    let n : Neighbour = record { group = place_of ls e.to.0; most = e.most } in
    let rest = count_after ls time x none es in
    let unset = none e.to.0 in
    elim (cases_Bool (nat_eq e.from.0 x)) [
      | inr f ↦
          let skipped = ap (count_by is_negative) (let s : after_of ls (e ∷ es) x ≡ after_of ls es x = rw f refl in s) in
          omega (arith, rest, skipped, count_no (waits_at time x) e es (rw f refl))
      | inl f ↦
          let taken = ap (count_by is_negative) (let s : after_of ls (e ∷ es) x ≡ n ∷ after_of ls es x = rw f refl in s) in
          elim (cases_Bool (int_lt e.most (pos 0))) [
            | inl g ↦ omega (arith, rest, taken, count_yes is_negative n (after_of ls es x) g, count_yes (waits_at time x) e es (rw (f, g, unset) refl))
            | inr g ↦ omega (arith, rest, taken, count_no is_negative n (after_of ls es x) g, count_no (waits_at time x) e es (rw (f, g) refl))
          ]
    ]

pub fresh_windows : (net : Net) (w : Windows) → IsJoined net → w.times.items ≡ replicate (length net.groups) None → w.low.items ≡ replicate (length net.groups) (pos 0) → w.high ≡ replicate (length net.groups) LAST
    → w.after ≡ map (after_of (leaders_of net.groups) net.edges) (leaders_of net.groups) → w.before ≡ map (before_of (leaders_of net.groups) net.edges) (leaders_of net.groups)
    → w.waits.items ≡ map (count_by is_negative) w.after → AreWindowsOf net w
fresh_windows net w joined times low high after before waits =
    let ls : List ℕ = leaders_of net.groups in
    let groups : length ls ≡ length net.groups = length-map net.groups (λ (z : Group). z.leader.0) in
    let none : (x : ℕ) → set_times net w x ≡ None = λ x. rw times (none_set net.groups (length net.groups) x) in
    record {
      joined = joined;
      groups = ap length times ∙ length-replicate (length net.groups) None;
      after = after;
      before = before;
      low = λ i ii. rw (low, get_or-replicate (length net.groups) i (pos 0) (pos 0) ii) (low_none net.edges (set_times net w) (leader_at net i) none);
      high = λ i ii unset. rw (high, get_or-replicate (length net.groups) i LAST (pos 0) ii) (high_none net.edges (set_times net w) (leader_at net i) none);
      never = λ i t ii is. absurd (let h : time_of w i ≡ None = ap (λ z. get_or z i None) times ∙ get_or-replicate (length net.groups) i None None ii in cc);
      waits = λ i ii.
          let jj : i < length ls = omega (arith, ii, groups) in
          let lists : List (List Neighbour) = map (after_of ls net.edges) ls in
          let long : length lists ≡ length ls = length-map ls (after_of ls net.edges) in
          ap (λ z. get_or z i 0) (waits ∙ ap (map (count_by is_negative)) after) ∙ get_or-map (count_by is_negative) lists i [] 0 (omega (arith, jj, long)) ∙ ap (count_by is_negative) (get_or-map (after_of ls net.edges) ls i 0 [] jj)
          ∙ count_after ls (set_times net w) (leader_at net i) none net.edges;
    }

-- no negative edge leads to an unset leader exactly where none is counted
none_waits : (time : Times) (a : ℕ) (es : List Bound) → count_by (waits_at time a) es ≡ 0 → (e : Bound) → Has es e → waits_at time a e ≡ false
none_waits time a [] h e i = absurd i
none_waits time a (k ∷ es) h e i = elim (cases_Bool (waits_at time a k)) [
  | inl y ↦ absurd (omega (arith, h, count_yes (waits_at time a) k es y))
  | inr n ↦ elim i [
    | inl is ↦ ap (waits_at time a) (sym is) ∙ n
    | inr j ↦ none_waits time a es (omega (arith, h, count_no (waits_at time a) k es n)) e j
  ]
]

no_waits : (time : Times) (a : ℕ) (es : List Bound) → ((e : Bound) → Has es e → waits_at time a e ≡ false) → count_by (waits_at time a) es ≡ 0
no_waits time a [] h = refl
no_waits time a (k ∷ es) h = omega (arith, count_no (waits_at time a) k es (h k (inl refl)), no_waits time a es (λ e i. h e (inr i)))

pub count_zero_set : (edges : List Bound) (time : Times) (a : ℕ) → count_by (waits_at time a) edges ≡ 0 → AreSet edges time a
count_zero_set edges time a h e ie from neg = elim (cases_Option (time e.to.0)) [
  | inr some ↦ some
  | inl none ↦ absurd (both_ways (waits_at time a e) (none_waits time a edges h e (has_from edges e ie)) (rw (eq-eqb e.from.0 a from, lt_int_lt e.most (pos 0) neg, none) refl))
]

pub set_count_zero : (edges : List Bound) (time : Times) (a : ℕ) → AreSet edges time a → count_by (waits_at time a) edges ≡ 0
set_count_zero edges time a h = no_waits time a edges (λ e i. elim (cases_eq e.from.0 a) [
  | inr other ↦ rw (ne_eqb e.from.0 a other) refl
  | inl from ↦ elim (cases_Bool (int_lt e.most (pos 0))) [
    | inr g ↦ rw (eq-eqb e.from.0 a from, g) refl
    | inl g ↦ let s = h e (contains_from edges e i) from (int_lt-true e.most (pos 0) g) in rw (eq-eqb e.from.0 a from, g, s.1) refl
  ]
])

-- the least of the stored times is that of the unset groups, or none is unset
pub record IsLeastHigh (w : Windows) (v : ℤ) : Type 0 where
  pub bound : (i : ℕ) → i < length w.times.items → time_of w i ≡ None → v ≤ℤ high_of w i
  pub reached : (v ≡ NEVER) ⊎ ((i : ℕ) × (i < length w.times.items) × (time_of w i ≡ None) × (v ≡ high_of w i))

pub least_stored : (net : Net) (w : Windows) (v : ℤ) → AreWindowsOf net w → All (λ x. v ≤ℤ x) w.high → Contains w.high v → IsLeastHigh w v
least_stored net w v of all among = record {
  bound = λ i ii none. rw none (all i (pos 0) (omega (arith, ii, w.highs)));
  reached =
      let at : get_or w.high among.0 (pos 0) ≡ v = get_or_default w.high among.0 (pos 0) v among.1 ∙ among.2 in
      elim (cases_Option (time_of w among.0)) [
        | inr some ↦ inl (sym at ∙ of.never among.0 some.0 (omega (arith, among.1, w.highs, of.groups)) some.1)
        | inl none ↦ inr (among.0, omega (arith, among.1, w.highs), none, rw none (sym at))
      ];
}
