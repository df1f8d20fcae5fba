-- What the whole run of a plan is, and one that had no plan.
use Rattle.std.proofs.Common.{◌≡◌, ℕ, zero, suc, ◌+◌, ◌<◌, ◌≤◌, ◌-◌, List, [], ◌∷◌, ◌++◌, append-nil, length, map, take, drop, Option, Some, None, refl, sym, ap, ◌∙◌, subst, arith, inl, inr}
use Rattle.std.proofs.lemmas.Bool.{cases_lt}
use Rattle.std.proofs.lemmas.List.{length-map, length-take, take-append-drop}
use Rattle.std.proofs.lemmas.Option.{slice_get_past, slice_get_within}
use Rattle.base_laws.proofs.ListLemmas.{slice_get-append_left, slice_get-append_right, slice_get-take}
use Rattle.plan_check.proofs.NeedLemmas.{slice_get-mapped}
use Rattle.hs_port.specs.Causes.{Rose}
use Rattle.std.specs.Prelude.{slice_get}
use Rattle.hs_base.specs.declared.ids.SvId.{SvId}
use Rattle.hs_base.specs.declared.mission.Mission.{Mission}
use Rattle.hs_machine.specs.declared.history.Deed.TheVariants.{Broken}
use Rattle.hs_machine.specs.declared.history.Entry.{Entry}
use Rattle.hs_machine.specs.Reports.{Polls}
use Rattle.search_tree.specs.Tree.{plan}
use Rattle.plan_check.specs.Planned.{Planned as Plan}
use Rattle.exec_core.specs.Recorded.{Recorded}
use Rattle.simulation_laws.specs.Attended.{IsAttended}
use Rattle.simulation_laws.specs.Ended.{Adds, AreAdded, Heard, RoseAt}
use Rattle.simulation_laws.specs.Ending.{EndsWith}
use Rattle.sim_run.specs.Told.{HasTold, Known, known}
use Rattle.sim_run.specs.Manned.{AreServed}
use Rattle.sim_run.specs.Parts.{IsFlown}
use Rattle.sim_run.specs.Runs.{IsFlight, told}

slice_get_some : {X : Type 0} (xs : List X) (i : ℕ) → i < length xs → (x : X) × (slice_get xs i ≡ Some x)
slice_get_some [] i below = absurd (omega (arith, below))
slice_get_some (x ∷ xs) zero below = (x, refl)
slice_get_some (x ∷ xs) (suc i) below = slice_get_some xs i (omega (arith, below))

-- a device that stands in both lists
pub record IsTold {D : Type 0} (polls : D → Option Polls) (faults : D → ℕ) (xs ys : List D) (d : ℕ) (x : Heard) : Type 0 where
  pub was : D
  pub is : D
  pub before_at : slice_get xs d ≡ Some was
  pub now_at : slice_get ys d ≡ Some is
  pub heard : x ≡ record { before = polls was; after = polls is; faults = faults was; faults_after = faults is }

module _ {D : Type 0} (polls : D → Option Polls) (faults : D → ℕ) where
  pub told_is : (xs ys : List D) (d : ℕ) (x : Heard) → slice_get (told polls faults xs ys) d ≡ Some x → IsTold polls faults xs ys d x
  told_is [] ys d x at = absurd (cc)
  told_is (a ∷ xs) [] d x at = absurd (cc)
  told_is (a ∷ xs) (b ∷ ys) zero x at = record { was = a; is = b; before_at = refl; now_at = refl; heard = let e : Some (record { before = polls a; after = polls b; faults = faults a; faults_after = faults b }) ≡ Some x = at in let f : record { before = polls a; after = polls b; faults = faults a; faults_after = faults b } ≡ x = cc in sym f }
  told_is (a ∷ xs) (b ∷ ys) (suc d) x at =
      let t = told_is xs ys d x at in
      record { was = t.was; is = t.is; before_at = t.before_at; now_at = t.now_at; heard = t.heard }

  pub told_at : (xs ys : List D) (d : ℕ) (a b : D) → slice_get xs d ≡ Some a → slice_get ys d ≡ Some b → slice_get (told polls faults xs ys) d ≡ Some (record { before = polls a; after = polls b; faults = faults a; faults_after = faults b })
  told_at [] ys d a b at to = absurd (cc)
  told_at (x ∷ xs) [] d a b at to = absurd (cc)
  told_at (x ∷ xs) (y ∷ ys) zero a b at to =
      let e : x ≡ a = cc in
      let f : y ≡ b = cc in
      ap (λ (z : D). Some (record { before = polls z; after = polls y; faults = faults z; faults_after = faults y })) e ∙ ap (λ (z : D). Some (record { before = polls a; after = polls z; faults = faults a; faults_after = faults z })) f
  told_at (x ∷ xs) (y ∷ ys) (suc d) a b at to = told_at xs ys d a b at to

-- the answers of a device that stands in both lists, and none of another number
module _ (m : Mission) (h : List Entry) (before now : List Known) (served : AreServed m h before now) where
  polls_by : (d : ℕ) (o : Option Known) → slice_get before d ≡ o → (p : Option Known) → slice_get now d ≡ p → Polls
  polls_by d (Some was) at (Some is) to = (served d was is at to).polls
  polls_by d None at p to = []
  polls_by d (Some was) at None to = []

  answers : ℕ → Polls
  answers d = polls_by d (slice_get before d) refl (slice_get now d) refl

  none_by : (d : ℕ) (o : Option Known) (at : slice_get before d ≡ o) (p : Option Known) (to : slice_get now d ≡ p) → o ≡ None → polls_by d o at p to ≡ []
  unfolding polls_by
  none_by d None at p to none = refl
  none_by d (Some was) at p to none = absurd (cc)

  served_by : (d : ℕ) (was is : Known) (o : Option Known) (at : slice_get before d ≡ o) (p : Option Known) (to : slice_get now d ≡ p) → o ≡ Some was → p ≡ Some is → HasTold was is (polls_by d o at p to) × IsAttended m h d (polls_by d o at p to)
  unfolding polls_by
  served_by d was is None at p to first second = absurd (cc)
  served_by d was is (Some a) at None to first second = absurd (cc)
  served_by d was is (Some a) at (Some b) to first second =
      let one : a ≡ was = cc in
      let other : b ≡ is = cc in
      (subst (λ (k : Known). HasTold was k (served d a b at to).polls) other (subst (λ (k : Known). HasTold k b (served d a b at to).polls) one (served d a b at to).told), (served d a b at to).attended)

  has_none : (d : ℕ) → slice_get before d ≡ None → answers d ≡ []
  unfolding answers polls_by
  has_none d none = none_by d (slice_get before d) refl (slice_get now d) refl none

  has_served : (d : ℕ) (was is : Known) → slice_get before d ≡ Some was → slice_get now d ≡ Some is → HasTold was is (answers d) × IsAttended m h d (answers d)
  unfolding answers polls_by
  has_served d was is at to = served_by d was is (slice_get before d) refl (slice_get now d) refl at to

-- a device that wasn't called
pub adds_nothing : (o : Option Polls) → Adds o o []
adds_nothing None = tt
adds_nothing (Some l) = ap (λ (k : Polls). Some k) (sym (append-nil l))

module _ {D : Type 0} (polls : D → Option Polls) (faults : D → ℕ) (p : Plan) (olds news : List D) (n : ℕ) (r : Recorded) (count_is : n ≡ length p.mission.vars) (few : n ≤ length olds) (many : length news ≡ n) (f : IsFlown p (map (known polls faults) (take n olds)) (map (known polls faults) news) r) where
  vars_are : length r.mission.vars ≡ n
  vars_are = ap (λ (m : Mission). length m.vars) f.mission ∙ sym count_is

  front_size : length (take n olds) ≡ n
  front_size = length-take n olds ∙ omega (arith, few)

  polls_of : ℕ → Polls
  polls_of = answers r.mission r.history (map (known polls faults) (take n olds)) (map (known polls faults) news) f.over.served

  -- devices of the mission
  was_at : (d : ℕ) (x : D) → d < n → slice_get olds d ≡ Some x → slice_get (map (known polls faults) (take n olds)) d ≡ Some (known polls faults x)
  was_at d x below at = slice_get-mapped (known polls faults) (take n olds) d x (slice_get-take olds d n below ∙ at)

  is_at : (d : ℕ) (x : D) → d < n → slice_get (news ++ drop n olds) d ≡ Some x → slice_get (map (known polls faults) news) d ≡ Some (known polls faults x)
  is_at d x below at = slice_get-mapped (known polls faults) news d x (sym (slice_get-append_left news (drop n olds) d (omega (arith, below, many))) ∙ at)

  -- and the others
  behind : (d : ℕ) → n ≤ d → slice_get (news ++ drop n olds) d ≡ slice_get olds d
  behind d high =
      let j : ℕ = d - n in
      let here : d ≡ length news + j = omega (arith, high, many) in
      let there : d ≡ length (take n olds) + j = omega (arith, high, front_size) in
      ap (slice_get (news ++ drop n olds)) here ∙ slice_get-append_right news (drop n olds) j
      ∙ sym (ap (λ (l : List D). slice_get l d) (sym (take-append-drop n olds)) ∙ ap (slice_get (take n olds ++ drop n olds)) there ∙ slice_get-append_right (take n olds) (drop n olds) j)

  all_added : AreAdded (told polls faults olds (news ++ drop n olds)) polls_of
  unfolding polls_of
  all_added d x at =
      let t = told_is polls faults olds (news ++ drop n olds) d x at in
      subst (λ (y : Heard). Adds y.before y.after (polls_of d)) (sym t.heard) (elim (cases_lt d n) [
        | inl below ↦ (has_served r.mission r.history (map (known polls faults) (take n olds)) (map (known polls faults) news) f.over.served d (known polls faults t.was) (known polls faults t.is) (was_at d t.was below t.before_at) (is_at d t.is below t.now_at)).0.adds
        | inr not_below ↦
            let high : n ≤ d = omega (arith, not_below) in
            let same : t.was ≡ t.is = let e : Some t.was ≡ Some t.is = sym t.before_at ∙ sym (behind d high) ∙ t.now_at in cc in
            let none : polls_of d ≡ [] = has_none r.mission r.history (map (known polls faults) (take n olds)) (map (known polls faults) news) f.over.served d (slice_get_past (map (known polls faults) (take n olds)) d (omega (arith, high, length-map (take n olds) (known polls faults), front_size))) in
            subst (λ (l : Polls). Adds (polls t.was) (polls t.is) l) (sym none) (subst (λ (y : D). Adds (polls t.was) (polls y) []) same (adds_nothing (polls t.was)))
      ])

  all_attended : (d : ℕ) → d < length r.mission.vars → IsAttended r.mission r.history d (polls_of d)
  unfolding polls_of
  all_attended d there =
      let below : d < n = omega (arith, there, vars_are) in
      let first = slice_get_some olds d (omega (arith, below, few)) in
      let second = slice_get_some news d (omega (arith, below, many)) in
      (has_served r.mission r.history (map (known polls faults) (take n olds)) (map (known polls faults) news) f.over.served d (known polls faults first.0) (known polls faults second.0) (was_at d first.0 below first.1) (slice_get-mapped (known polls faults) news d second.0 second.1)).1

  all_broken : (v : SvId) → EndsWith r.history (Broken v) → RoseAt (told polls faults olds (news ++ drop n olds)) v.0
  all_broken v ends =
      let risen = f.over.broken v ends in
      let below : v.0 < n = omega (arith, slice_get_within (map (known polls faults) news) v.0 risen.is risen.now_at, length-map news (known polls faults), many) in
      let first = slice_get_some olds v.0 (omega (arith, below, few)) in
      let second = slice_get_some news v.0 (omega (arith, below, many)) in
      let was_is : known polls faults first.0 ≡ risen.was = let e : Some (known polls faults first.0) ≡ Some risen.was = sym (was_at v.0 first.0 below first.1) ∙ risen.before_at in cc in
      let is_is : known polls faults second.0 ≡ risen.is = let e : Some (known polls faults second.0) ≡ Some risen.is = sym (slice_get-mapped (known polls faults) news v.0 second.0 second.1) ∙ risen.now_at in cc in
      record {
        device = record { before = polls first.0; after = polls second.0; faults = faults first.0; faults_after = faults second.0 };
        is = told_at polls faults olds (news ++ drop n olds) v.0 first.0 second.0 first.1 (slice_get-append_left news (drop n olds) v.0 (omega (arith, below, many)) ∙ second.1);
        rose = subst (λ (k : Known). Rose (faults first.0) k.faults) (sym is_is) (subst (λ (k : Known). Rose k.faults risen.is.faults) (sym was_is) risen.rose);
      }

  pub flight_is : IsFlight p (told polls faults olds (news ++ drop n olds)) r
  flight_is = record {
    mission = f.mission;
    extension = f.extension;
    plan = f.plan;
    one = f.one;
    is_run = f.over.is_run;
    over = f.over.over;
    polls = polls_of;
    added = all_added;
    attended = all_attended;
    broken = all_broken;
  }
