-- In a running state each timeline has a token that has started and hasn't ended.
use Rattle.std.proofs.Common.{◌≡◌, ◌≢◌, ℕ, zero, suc, ◌-◌, ◌<◌, ◌≤◌, cond, List, [], ◌∷◌, length, is_some, Option, Some, None, refl, sym, ap, ◌∙◌, arith, pos}
use Rattle.std.proofs.lemmas.Int.{ints}
use Rattle.std.specs.Prelude.{ℤ, slice_get, unwrap_or}
use Rattle.hs_base.specs.declared.mission.Mission.{Mission}
use Rattle.hs_base.specs.Checked.{Checked}
use Rattle.hs_base.specs.Fits.{Times}
use Rattle.hs_base.specs.Points.{ending, place_of, points_of, start_at, timeline_of, tokens_of}
use Rattle.hs_machine.specs.declared.history.Entry.{Entry}
use Rattle.hs_machine.specs.declared.history.Phase.TheVariants.{Running}
use Rattle.hs_machine.specs.Run.{Run}
use Rattle.hs_machine.specs.State.{executed, phase_of, plan_of}
use Rattle.hs_machine.specs.Views.{ends_of, first_waiting, line_of}
use Rattle.plan_laws.proofs.ChainLemmas.{has_tokens}
use Rattle.plan_laws.proofs.SpanLemmas.{ends_in}
use Rattle.run_laws.proofs.CheckedLemmas.{run_checked}
use Rattle.run_laws.proofs.RunLemmas.{HasFit, run_fits}
use Rattle.exec_laws.proofs.EndingLemmas.{last_horizon}
use Rattle.exec_laws.proofs.HorizonLemmas.{before_horizon}
use Rattle.exec_laws.proofs.RunningLemmas.{executed_in}
use Rattle.exec_laws.proofs.StepLemmas.{running}
use Rattle.line_view.specs.Current.{HasCurrent}
use Rattle.line_view.proofs.LineLemmas.{end_shown}

-- The first of some points that waits: it does, those before it don't, and no other one that waits comes before it.
waits_first : (at : Times) (xs : List ℕ) (x : ℕ) → slice_get xs (first_waiting at xs) ≡ Some x → at x ≡ None
waits_first at [] x is = absurd (cc)
waits_first at (y ∷ ys) x is = by_case (at y) refl is (λ rest. waits_first at ys x rest)
  where
    by_case : (o : Option ℤ) → at y ≡ o → slice_get (y ∷ ys) (cond (is_some o) (suc (first_waiting at ys)) 0) ≡ Some x → (slice_get ys (first_waiting at ys) ≡ Some x → at x ≡ None) → at x ≡ None
    by_case (Some t) here is old = old is
    by_case None here is old = let same : x ≡ y = cc in ap at same ∙ here

done_before : (at : Times) (xs : List ℕ) (j x : ℕ) → j < first_waiting at xs → slice_get xs j ≡ Some x → (t : ℤ) × (at x ≡ Some t)
done_before at [] j x less is = absurd (cc)
done_before at (y ∷ ys) j x less is = by_place j (at y) refl less is (λ i. done_before at ys i x)
  where
    by_place : (j : ℕ) (o : Option ℤ) → at y ≡ o → j < cond (is_some o) (suc (first_waiting at ys)) 0 → slice_get (y ∷ ys) j ≡ Some x → ((i : ℕ) → i < first_waiting at ys → slice_get ys i ≡ Some x → (t : ℤ) × (at x ≡ Some t)) → (t : ℤ) × (at x ≡ Some t)
    by_place j None here less is old = absurd (omega (arith, less))
    by_place zero (Some t) here less is old = let same : x ≡ y = cc in (t, ap at same ∙ here)
    by_place (suc i) (Some t) here less is old = old i (omega (arith, less)) is

waits_by : (at : Times) (xs : List ℕ) (j x : ℕ) → slice_get xs j ≡ Some x → at x ≡ None → first_waiting at xs ≤ j
waits_by at [] j x is none = absurd (cc)
waits_by at (y ∷ ys) zero x is none = let same : y ≡ x = cc in let here : at y ≡ None = ap at same ∙ none in rw here (omega arith)
waits_by at (y ∷ ys) (suc i) x is none = by_case (at y) (waits_by at ys i x is none)
  where
    by_case : (o : Option ℤ) → first_waiting at ys ≤ i → cond (is_some o) (suc (first_waiting at ys)) 0 ≤ suc i
    by_case None low = omega arith
    by_case (Some t) low = omega (arith, low)

module _ (m : Mission) (h : List Entry) (v : ℕ) (run : Run m h) (is : phase_of h ≡ Running) (var : v < length m.vars) where
  some : plan_of h ≢ []
  some = (running h is).some

  checked : Checked m (plan_of h)
  checked = run_checked m h run some

  fit : HasFit m h
  fit = run_fits m h run some

  abbrev n : ℕ
  n = length (timeline_of (tokens_of (plan_of h)) v)

  abbrev end_at : ℕ → ℕ
  end_at i = place_of (ending v i) (points_of (plan_of h))

  has : 0 < n
  has = has_tokens m (plan_of h) checked.rules some v var

  -- its last token ends behind the newest horizon, which is still to come
  last_waits : executed h (end_at (n - 1)) ≡ None
  last_waits = by_case (executed h (end_at (n - 1))) refl
    where
      by_case : (o : Option ℤ) → executed h (end_at (n - 1)) ≡ o → executed h (end_at (n - 1)) ≡ None
      by_case None at = at
      by_case (Some t) at =
          let g = last_horizon m (plan_of h) checked some in
          let last : suc (n - 1) ≡ n = omega (arith, has) in
          let behind = (ends_in m fit.s (plan_of h) fit.fits.meets).each g.0 v (n - 1) g.1 var last in
          let early = before_horizon m h g.0 run some (running h is).open_mark g.1 in
          absurd (omega (arith, ints, behind, early, fit.fits.past (end_at (n - 1)) t at, (executed_in m h run).late (end_at (n - 1)) t at))

  below : (line_of m h v).place < n
  below =
      let low = waits_by (executed h) (ends_of (plan_of h) v) (n - 1) (end_at (n - 1)) (end_shown (plan_of h) v (n - 1) (omega (arith, has))) last_waits in
      omega (arith, low, has)

  start_done : (i : ℕ) → i ≤ (line_of m h v).place → (t : ℤ) × (executed h (start_at (plan_of h) v i) ≡ Some t)
  start_done zero low = (pos 0, refl)
  start_done (suc j) low = done_before (executed h) (ends_of (plan_of h) v) j (end_at j) (omega (arith, low)) (end_shown (plan_of h) v j (omega (arith, low, below)))

  pub has_current : HasCurrent m h v
  has_current =
      let t = start_done (line_of m h v).place (omega arith) in
      record {
        there = below;
        started = t.1 ∙ ap Some (ap (λ (o : Option ℤ). unwrap_or o (pos 0)) (sym t.1));
        waits = waits_first (executed h) (ends_of (plan_of h) v) (end_at (line_of m h v).place) (end_shown (plan_of h) v (line_of m h v).place below);
      }
