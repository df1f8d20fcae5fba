-- A device does what the line of its timeline shows.
use Rattle.std.proofs.Common.{◌≡◌, ◌≢◌, ℕ, zero, suc, ◌+◌, ◌-◌, ◌<◌, ◌≤◌, Bool, true, false, cond, nat_eq, List, [], ◌∷◌, ◌++◌, length, map, take, get_or, Option, Some, None, refl, sym, ap, ◌∙◌, subst, arith, inl, inr, pos, is_some}
use Rattle.std.proofs.lemmas.Int.{ints}
use Rattle.std.proofs.lemmas.Bool.{cases_lt, cases_eq, cases_Bool, eqb-true}
use Rattle.std.specs.Prelude.{ℤ, slice_get, unwrap_or}
use Rattle.std.specs.List.{AllByRecursion}
use Rattle.hs_base.specs.declared.ids.PointId.{PointId}
use Rattle.hs_base.specs.declared.ids.WordId.{WordId}
use Rattle.hs_base.specs.declared.mission.Kind.{Kind}
use Rattle.hs_base.specs.declared.mission.Mission.{Mission}
use Rattle.hs_base.specs.declared.mission.Value.{Value}
use Rattle.hs_base.specs.declared.plan.Extension.{Extension}
use Rattle.hs_base.specs.Bounds.{on_some}
use Rattle.hs_base.specs.Checked.{Checked}
use Rattle.hs_base.specs.Fits.{Times, put, time_at}
use Rattle.hs_base.specs.Points.{device_ends, is_by_device, points_of, start_at, tokens_of, value_of}
use Rattle.hs_base.specs.Schedule.{numbers_from}
use Rattle.hs_machine.specs.declared.history.Deed.{Deed}
use Rattle.hs_machine.specs.declared.history.Deed.TheVariants.{Tick, Fire, Report, Handover, Stale, Late, Early, Broken}
use Rattle.hs_machine.specs.declared.history.Entry.{Entry}
use Rattle.hs_machine.specs.declared.history.Phase.TheVariants.{Running}
use Rattle.hs_machine.specs.Reports.{Polls, Script, awaited, performed_after, scripts_of}
use Rattle.hs_machine.specs.Run.{MayAdd, Run}
use Rattle.hs_machine.specs.State.{executed, executes, has_failed, is_failure, now_of, phase_of, plan_of, tick_at, watched}
use Rattle.hs_machine.specs.Views.{ends_of, first_waiting, line_of}
use Rattle.base_laws.proofs.ListLemmas.{each_both, each_split, each_weaker, snoc_induction}
use Rattle.base_laws.proofs.PointLemmas.{named, of_variable}
use Rattle.plan_laws.proofs.ChainLemmas.{has_tokens}
use Rattle.plan_laws.proofs.LengthLemmas.{number_at}
use Rattle.plan_laws.proofs.SpanLemmas.{ends_in}
use Rattle.run_laws.proofs.CheckedLemmas.{run_checked}
use Rattle.run_laws.proofs.RunLemmas.{HasFit, fresh, run_fits}
use Rattle.run_laws.proofs.StateLemmas.{executed-put, times_kept}
use Rattle.search_tree.proofs.NameLemmas.{named_at}
use Rattle.exec_laws.proofs.EndingLemmas.{last_horizon}
use Rattle.exec_laws.proofs.HorizonLemmas.{before_horizon}
use Rattle.exec_laws.proofs.RunningLemmas.{executed_in}
use Rattle.exec_laws.proofs.StepLemmas.{failed_more, running as in_flight}
use Rattle.simulation_laws.proofs.HandedLemmas.{found_below}
use Rattle.simulation_laws.proofs.RisingLemmas.{end_at, ends_rise, token_value}
use Rattle.simulation_laws.specs.Hearing.{IsOver, Rests, last_finish, told_by}
use Rattle.simulation_laws.specs.Reported.{ends_of_line, report_by, reports_in, timeline_in}
use Rattle.simulation_laws.specs.Standing.{IsOpen, Standing, Stands, StandsByLine, resting, running, script_on}
use Rattle.simulation_laws.proofs.HearLemmas.{performed-append, told-push}
use Rattle.simulation_laws.proofs.HistoryLemmas.{reports-push}
use Rattle.simulation_laws.proofs.ScriptLemmas.{BegunTo, current_last, script_at, scripts_are, scripts_at}

-- The first of some points that waits.
pub waits_first : (at : Times) (xs : List ℕ) (x : ℕ) → slice_get xs (first_waiting at xs) ≡ Some x → at x ≡ None
waits_first at [] x is = absurd (cc)
waits_first at (y ∷ ys) x is = by_case (at y) refl is (λ rest. waits_first at ys x rest)
  where
    by_case : (o : Option ℤ) → at y ≡ o → slice_get (y ∷ ys) (cond (is_some o) (suc (first_waiting at ys)) 0) ≡ Some x → (slice_get ys (first_waiting at ys) ≡ Some x → at x ≡ None) → at x ≡ None
    by_case (Some t) here is old = old is
    by_case None here is old = let same : y ≡ x = cc in ap at (sym same) ∙ here

pub done_before : (at : Times) (xs : List ℕ) (j x : ℕ) → j < first_waiting at xs → slice_get xs j ≡ Some x → (t : ℤ) × (at x ≡ Some t)
done_before at [] j x less is = absurd (omega (arith, less))
done_before at (y ∷ ys) zero x less is = by_case (at y) refl less
  where
    by_case : (o : Option ℤ) → at y ≡ o → 0 < cond (is_some o) (suc (first_waiting at ys)) 0 → (t : ℤ) × (at x ≡ Some t)
    by_case None here less = absurd (omega (arith, less))
    by_case (Some t) here less = let same : y ≡ x = cc in (t, ap at (sym same) ∙ here)
done_before at (y ∷ ys) (suc i) x less is = by_case (at y) less (λ rest. done_before at ys i x rest is)
  where
    by_case : (o : Option ℤ) → suc i < cond (is_some o) (suc (first_waiting at ys)) 0 → (i < first_waiting at ys → (t : ℤ) × (at x ≡ Some t)) → (t : ℤ) × (at x ≡ Some t)
    by_case None less old = absurd (omega (arith, less))
    by_case (Some t) less old = old (omega (arith, less))

pub waits_by : (at : Times) (xs : List ℕ) (j x : ℕ) → slice_get xs j ≡ Some x → at x ≡ None → first_waiting at xs ≤ j
waits_by at [] j x is none = omega arith
waits_by at (y ∷ ys) zero x is none =
    let same : y ≡ x = cc in
    let here : at y ≡ None = ap at same ∙ none in
    rw here (omega arith)
waits_by at (y ∷ ys) (suc i) x is none = by_case (at y) (waits_by at ys i x is none)
  where
    by_case : (o : Option ℤ) → first_waiting at ys ≤ i → cond (is_some o) (suc (first_waiting at ys)) 0 ≤ suc i
    by_case None low = omega arith
    by_case (Some t) low = omega (arith, low)

-- an element of a list that each gives
map_at : {X Y : Type 0} (f : X → Y) (xs : List X) (i : ℕ) (x : X) → slice_get xs i ≡ Some x → slice_get (map f xs) i ≡ Some (f x)
map_at f [] i x is = absurd (cc)
map_at f (y ∷ ys) zero x is = let same : y ≡ x = cc in ap (λ z. Some (f z)) same
map_at f (y ∷ ys) (suc i) x is = map_at f ys i x is

found_is : {X : Type 0} (xs : List X) (i : ℕ) (x d : X) → slice_get xs i ≡ Some x → get_or xs i d ≡ x
found_is [] i x d is = absurd (cc)
found_is (y ∷ ys) zero x d is = cc
found_is (y ∷ ys) (suc i) x d is = found_is ys i x d is

pub end_there : (es : List Extension) (d i : ℕ) → i < length (timeline_in es d) → slice_get (ends_of es d) i ≡ Some (end_at es d i)
end_there es d i below =
    let same : 0 + i ≡ i = omega arith in
    map_at (end_at es d) (numbers_from 0 (length (timeline_in es d))) i i (number_at 0 (length (timeline_in es d)) i below ∙ ap (λ (k : ℕ). Some k) same)

-- the last element of a list
abbrev last_of : {X : Type 0} → List X → X → X
last_of [] d = d
last_of (x ∷ xs) d = last_of xs x

last-append : {X : Type 0} (xs : List X) (y d : X) → last_of (xs ++ y ∷ []) d ≡ y
last-append [] y d = refl
last-append (x ∷ xs) y d = last-append xs y x

one_last : {X : Type 0} (xs ys : List X) (x y : X) → xs ++ x ∷ [] ≡ ys ++ y ∷ [] → x ≡ y
one_last xs ys x y same = sym (last-append xs x x) ∙ ap (λ l. last_of l x) same ∙ last-append ys y x

-- What is executed stays so.
put_other : (at : Times) (x y : ℕ) (n t : ℤ) → at x ≡ None → at y ≡ Some t → put at x n y ≡ Some t
put_other at x y n t free is = elim (cases_Bool (nat_eq y x)) [
  | inl same ↦ absurd (let f : Some t ≡ None = sym is ∙ ap at (eqb-true y x same) ∙ free in cc)
  | inr other ↦ rw other is
]

pub put_apart : (at : Times) (x y : ℕ) (n : ℤ) → (y ≡ x → ⊥) → put at x n y ≡ at y
put_apart at x y n apart = elim (cases_Bool (nat_eq y x)) [
  | inl same ↦ absurd (apart (eqb-true y x same))
  | inr other ↦ rw other refl
]

put_here : (at : Times) (x : ℕ) (n : ℤ) → put at x n x ≡ Some n
put_here at x n = grind arith

pub executed_stays : (m : Mission) (h : List Entry) (e : Entry) → MayAdd m h e → (y : ℕ) (t : ℤ) → executed h y ≡ Some t → executed (h ++ e ∷ []) y ≡ Some t
executed_stays m h e adds y t is = by_case (executes e.deed) refl
  where
    by_case : (o : Option PointId) → executes e.deed ≡ o → executed (h ++ e ∷ []) y ≡ Some t
    by_case None quiet = ap (λ ts. time_at ts y) (times_kept h e quiet) ∙ is
    by_case (Some x) ex =
        let free : executed h x.0 ≡ None = fresh m h e.deed x _ _ adds.answers.lawful adds.answers.leaves.1 ex in
        executed-put h e x y ex free ∙ put_other (executed h) x.0 y (tick_at h) t free is

-- each report's point is executed
abbrev AreDone : List Entry → List (ℕ × ℤ) → Type 0
AreDone h reports = AllByRecursion (λ (r : ℕ × ℤ). (t : ℤ) × (executed h r.0 ≡ Some t)) reports

done_if : (h : List Entry) (x : ℕ) (n : ℤ) (b : Bool) → ((t : ℤ) × (executed h x ≡ Some t)) → AreDone h (cond b ((x, n) ∷ []) [])
done_if h x n true t = (t, tt)
done_if h x n false t = tt

report_done : (m : Mission) (h : List Entry) (e : Entry) (x : PointId) (d : ℕ) → MayAdd m h e → executes e.deed ≡ Some x → AreDone (h ++ e ∷ []) (report_by d h (Report x))
report_done m h e x d adds ex =
    let free : executed h x.0 ≡ None = fresh m h e.deed x _ _ adds.answers.lawful adds.answers.leaves.1 ex in
    done_if (h ++ e ∷ []) x.0 (pos (now_of h)) (ends_of_line d (slice_get (points_of (plan_of h)) x.0)) (tick_at h, executed-put h e x x.0 ex free ∙ put_here (executed h) x.0 (tick_at h))

deed_done : (m : Mission) (h : List Entry) (e : Entry) (d : ℕ) → MayAdd m h e → is_failure e.deed ≡ false → (x : Deed) → e.deed ≡ x → AreDone (h ++ e ∷ []) (report_by d h x)
deed_done m h e d adds sound (Report x) is = report_done m h e x d adds (ap executes is)
deed_done m h e d adds sound (Early b) is = absurd (let f : true ≡ false = sym (ap is_failure is) ∙ sound in cc)
deed_done m h e d adds sound Tick is = tt
deed_done m h e d adds sound (Fire x) is = tt
deed_done m h e d adds sound (Handover x n) is = tt
deed_done m h e d adds sound (Stale x b p q) is = tt
deed_done m h e d adds sound (Late b) is = tt
deed_done m h e d adds sound (Broken v) is = tt

-- a sound history before an entry, and the entry
sound_before : (h : List Entry) (e : Entry) → has_failed (h ++ e ∷ []) ≡ false → (has_failed h ≡ false) × (is_failure e.deed ≡ false)
sound_before h e sound = by_case (has_failed h) refl (sym (failed_more h e) ∙ sound)
  where
    by_case : (b : Bool) → has_failed h ≡ b → cond b true (is_failure e.deed) ≡ false → (has_failed h ≡ false) × (is_failure e.deed ≡ false)
    by_case true is rest = absurd (let f : true ≡ false = rest in cc)
    by_case false is rest = (is, rest)

reports_done : (m : Mission) (h : List Entry) (d : ℕ) → Run m h → has_failed h ≡ false → AreDone h (reports_in h d)
reports_done m h d run = snoc_induction (λ h. has_failed h ≡ false → AreDone h (reports_in h d)) (MayAdd m) step [] h (λ sound. tt) run.entries
  where
    step : (before : List Entry) (e : Entry) → MayAdd m before e → (has_failed before ≡ false → AreDone before (reports_in before d)) → has_failed (before ++ e ∷ []) ≡ false → AreDone (before ++ e ∷ []) (reports_in (before ++ e ∷ []) d)
    step before e adds had sound =
        let s = sound_before before e sound in
        subst (AreDone (before ++ e ∷ [])) (sym (reports-push before e d))
        (each_both (λ (r : ℕ × ℤ). (t : ℤ) × (executed (before ++ e ∷ []) r.0 ≡ Some t)) (reports_in before d) (report_by d before e.deed)
        (each_weaker (λ (r : ℕ × ℤ). (t : ℤ) × (executed before r.0 ≡ Some t)) (λ (r : ℕ × ℤ). (t : ℤ) × (executed (before ++ e ∷ []) r.0 ≡ Some t)) (λ r is. (is.0, executed_stays m before e adds r.0 is.0 is.1)) (reports_in before d) (had s.0))
        (deed_done m before e d adds s.1 e.deed refl))

-- A script that is over was told.
told_last : (front : List Script) (s : Script) (polls : Polls) (k : ℕ) → Rests (front ++ s ∷ []) polls (pos k) → (at : ℤ) × (told_by (front ++ s ∷ []) polls ≡ told_by front polls ++ (s.point, at) ∷ [])
told_last front s polls k rests =
    let over = subst (AllByRecursion (IsOver (pos k))) (performed-append (pos 0) front (s ∷ []) polls) rests.over in
    let own = (each_split (IsOver (pos k)) (performed_after (pos 0) front polls) (performed_after (last_finish (pos 0) front polls) (s ∷ []) polls) over).1.0 in
    (own.at, told-push front s polls ∙ ap (λ (o : Option ℤ). told_by front polls ++ on_some o (λ at. (s.point, at) ∷ [])) own.is)

-- A running state, in which each timeline has a current token.
module _ (m : Mission) (h : List Entry) (run : Run m h) (is : phase_of h ≡ Running) (d : ℕ) (var : d < length m.vars) where
  some : plan_of h ≢ []
  some = (in_flight h is).some

  checked : Checked m (plan_of h)
  checked = run_checked m h run some

  fit : HasFit m h
  fit = run_fits m h run some

  abbrev n : ℕ
  n = length (timeline_in (plan_of h) d)

  abbrev i : ℕ
  i = first_waiting (executed h) (ends_of (plan_of h) d)

  has : 0 < length (timeline_in (plan_of h) d)
  has = has_tokens m (plan_of h) checked.rules some d var

  -- the end of its last token is open
  last_waits : executed h (end_at (plan_of h) d (n - 1)) ≡ None
  last_waits = by_case (executed h (end_at (plan_of h) d (n - 1))) refl
    where
      by_case : (o : Option ℤ) → executed h (end_at (plan_of h) d (n - 1)) ≡ o → executed h (end_at (plan_of h) d (n - 1)) ≡ None
      by_case None at = at
      by_case (Some t) at =
          let g = last_horizon m (plan_of h) checked some in
          let last : suc (n - 1) ≡ n = omega (arith, has) in
          let behind = (ends_in m fit.s (plan_of h) fit.fits.meets).each g.0 d (n - 1) g.1 var last in
          let early = before_horizon m h g.0 run some (in_flight h is).open_mark g.1 in
          absurd (omega (arith, ints, behind, early, fit.fits.past (end_at (plan_of h) d (n - 1)) t at, (executed_in m h run).late (end_at (plan_of h) d (n - 1)) t at))

  pub below : i < n
  below =
      let low = waits_by (executed h) (ends_of (plan_of h) d) (n - 1) (end_at (plan_of h) d (n - 1)) (end_there (plan_of h) d (n - 1) (omega (arith, has))) last_waits in
      omega (arith, low, has)

  pub waits : executed h (end_at (plan_of h) d i) ≡ None
  waits = waits_first (executed h) (ends_of (plan_of h) d) (end_at (plan_of h) d i) (end_there (plan_of h) d i below)

  before : (j : ℕ) → j < i → (t : ℤ) × (executed h (end_at (plan_of h) d j) ≡ Some t)
  before j less = done_before (executed h) (ends_of (plan_of h) d) j (end_at (plan_of h) d j) less (end_there (plan_of h) d j (omega (arith, less, below)))

  later : (j : ℕ) → i < j → j < n → executed h (end_at (plan_of h) d j) ≡ None
  later j less inside = by_case (executed h (end_at (plan_of h) d j)) refl
    where
      by_case : (o : Option ℤ) → executed h (end_at (plan_of h) d j) ≡ o → executed h (end_at (plan_of h) d j) ≡ None
      by_case None at = at
      by_case (Some t) at =
          let rise = ends_rise m checked.mission (plan_of h) checked.rules fit.s fit.fits.meets d i j less inside in
          let now = fit.fits.future (end_at (plan_of h) d i) ((named (plan_of h)).ends_there d i below) waits in
          absurd (omega (arith, ints, rise, now, fit.fits.past (end_at (plan_of h) d j) t at, (executed_in m h run).late (end_at (plan_of h) d j) t at))

  -- the starts up to its place are executed, and no other one
  begun_to : BegunTo m d (plan_of h) (executed h) (suc i)
  begun_to = record { before = starts; behind = others }
    where
      starts : (j : ℕ) → j < suc i → (t : ℤ) × (executed h (start_at (plan_of h) d j) ≡ Some t)
      starts zero less = (pos 0, refl)
      starts (suc j) less = before j (omega (arith, less))

      others : (j : ℕ) → suc i ≤ j → j < length (timeline_in (plan_of h) d) → executed h (start_at (plan_of h) d j) ≡ None
      others zero low inside = absurd (omega (arith, low))
      others (suc j) low inside = elim (cases_eq i j) [
        | inl same ↦ ap (λ (k : ℕ). executed h (end_at (plan_of h) d k)) (sym same) ∙ waits
        | inr other ↦ later j (omega (arith, low, other)) (omega (arith, inside))
      ]

  -- the token, its value, and the time of its start
  token : (k : Kind) × (slice_get (timeline_in (plan_of h) d) i ≡ Some k)
  token = found_below (timeline_in (plan_of h) d) i below

  module _ (k : Kind) (is_kind : slice_get (timeline_in (plan_of h) d) i ≡ Some k) (v : Value) (is_value : value_of m k ≡ Some v) (t : ℤ) (started : executed h (start_at (plan_of h) d i) ≡ Some t) where
    value_shown : value_of m (record { sv = record { 0 = d }; value = record { 0 = (line_of m h d).value } }) ≡ Some v
    value_shown =
        let shown : (line_of m h d).value ≡ k.value.0 = found_is (map (λ (x : Kind). x.value.0) (timeline_in (plan_of h) d)) i k.value.0 0 (map_at (λ (x : Kind). x.value.0) (timeline_in (plan_of h) d) i k is_kind) in
        ap (λ (a : ℕ). value_of m (record { sv = record { 0 = d }; value = record { 0 = a } })) shown
        ∙ ap (λ (a : ℕ). value_of m (record { sv = record { 0 = a }; value = record { 0 = k.value.0 } })) (sym (of_variable (tokens_of (plan_of h)) d i k is_kind))
        ∙ is_value

    watched_so : watched m h (end_at (plan_of h) d i) ≡ v.by_device
    watched_so = ap (device_ends m (plan_of h)) (named_at (plan_of h) d i below) ∙ (rw (is_kind, is_value, device_ends, is_by_device) refl)

    start_shown : (line_of m h d).start ≡ t
    start_shown = ap (λ (o : Option ℤ). unwrap_or o (pos 0)) started

    abbrev script_from : Value → ℤ → List Script
    script_from u a = record { point = end_at (plan_of h) d i; begun = a; words = awaited u.script } ∷ []

    token_script : v.by_device ≡ true → script_at m (plan_of h) (executed h) d i k ≡ script_on (line_of m h d) v ∷ []
    token_script by =
        ap (λ (o : Option Value). on_some o (λ (u : Value). cond u.by_device (on_some (executed h (start_at (plan_of h) d i)) (script_from u)) [])) is_value
        ∙ ap (λ (b : Bool). cond b (on_some (executed h (start_at (plan_of h) d i)) (script_from v)) []) by
        ∙ ap (λ (o : Option ℤ). on_some o (script_from v)) started
        ∙ ap (script_from v) (sym start_shown)

    abbrev front : List Script
    front = scripts_at m (plan_of h) (executed h) d 0 (take i (timeline_in (plan_of h) d))

    scripts_to : v.by_device ≡ true → scripts_of m h d ≡ front ++ script_on (line_of m h d) v ∷ []
    scripts_to by = scripts_are m h d ∙ current_last m d (plan_of h) (executed h) i k is_kind begun_to ∙ ap (λ l. front ++ l) (token_script by)

    module _ (polls : Polls) (tick : ℕ) where
      runs_it : v.by_device ≡ true → (st : Standing) → Stands m h d polls tick st → (left : List WordId) × (st ≡ running (script_on (line_of m h d) v) left)
      runs_it by resting a =
          let rests : Rests (front ++ script_on (line_of m h d) v ∷ []) polls (pos tick) = subst (λ (ss : List Script). Rests ss polls (pos tick)) (scripts_to by) a.attends.standing in
          let told = told_last front (script_on (line_of m h d) v) polls tick rests in
          let reports : reports_in h d ≡ told_by front polls ++ ((line_of m h d).end, told.0) ∷ [] = a.attends.told ∙ ap (λ (ss : List Script). told_by ss polls) (scripts_to by) ∙ told.1 in
          let done = (each_split (λ (r : ℕ × ℤ). (u : ℤ) × (executed h r.0 ≡ Some u)) (told_by front polls) (((line_of m h d).end, told.0) ∷ []) (subst (AreDone h) reports (reports_done m h d run (in_flight h is).sound))).1.0 in
          let f : None ≡ Some done.0 = sym waits ∙ done.1 in
          absurd (cc)
      runs_it by (running s left) a =
          let same : s ≡ script_on (line_of m h d) v = one_last a.attends.standing.front front s (script_on (line_of m h d) v) (sym a.attends.standing.is ∙ scripts_to by) in
          (left, ap (λ (x : Script). running x left) same)

      rests_there : v.by_device ≡ false → (st : Standing) → Stands m h d polls tick st → st ≡ resting
      rests_there own resting a = refl
      rests_there own (running s left) a =
          let o = a.opens in
          let place : i ≡ o.place = at_place o in
          let seen : true ≡ v.by_device = sym o.observed ∙ ap (watched m h) (sym o.end ∙ ap (end_at (plan_of h) d) (sym place)) ∙ watched_so in
          absurd (let f : true ≡ false = seen ∙ own in cc)
        where
          at_place : (o : IsOpen m h d s) → i ≡ o.place
          at_place o = elim (cases_lt i o.place) [
            | inl past ↦ absurd (let f : Some s.begun ≡ None = sym o.started ∙ begun_to.behind o.place past o.below in cc)
            | inr not ↦ elim (cases_eq i o.place) [
              | inl same ↦ same
              | inr other ↦
                  let u = before o.place (omega (arith, not, other)) in
                  absurd (let f : Some u.0 ≡ None = sym u.1 ∙ ap (executed h) o.end ∙ o.waits in cc)
            ]
          ]

      shown : (st : Standing) → Stands m h d polls tick st → StandsByLine m h d st
      shown st a = elim (cases_Bool v.by_device) [
        | inl by ↦ record { value = v; is_value = value_shown; does = rw by (runs_it by st a) }
        | inr own ↦ record { value = v; is_value = value_shown; does = rw own (rests_there own st a) }
      ]

  -- the device stands as the line shows
  pub stands_by_line : (polls : Polls) (tick : ℕ) (st : Standing) → Stands m h d polls tick st → StandsByLine m h d st
  stands_by_line polls tick st a =
      let k = token in
      let v = token_value m checked.mission (plan_of h) checked.rules d i k.0 k.1 in
      let t = begun_to.before i (omega arith) in
      shown k.0 k.1 v.0 v.1 t.0 t.1 polls tick st a
