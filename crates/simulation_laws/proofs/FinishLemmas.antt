-- A script finishes with the answer that leaves nothing to await.
use Rattle.std.proofs.Common.{◌≡◌, ◌≢◌, ◌⊎◌, true, false, List, [], ◌∷◌, ◌++◌, length, Some, None, refl, sym, ap, ◌∙◌, arith, inl, inr}
use Rattle.std.proofs.lemmas.Int.{ints}
use Rattle.std.proofs.lemmas.Bool.{cases_Bool}
use Rattle.std.specs.Prelude.{ℤ, int_le, ◌<ℤ◌}
use Rattle.hs_base.specs.declared.ids.WordId.{WordId}
use Rattle.hs_base.specs.declared.mission.Step.{Step}
use Rattle.hs_base.specs.declared.mission.Step.TheVariants.{Do, Until}
use Rattle.hs_base.specs.Missions.{ends_waiting}
use Rattle.hs_machine.specs.Reports.{Polls, awaited, still_awaited, is_none_left, finish}
use Rattle.hs_port.specs.declared.device.Answer.{Answer}
use Rattle.device_script.specs.Runs.{Stage, begun, from_wait, hearing, IsStage}
use Rattle.simulation_laws.specs.Alike.{AreAlike, answers_after, heard}
use Rattle.simulation_laws.proofs.RunnerLemmas.{begun_awaits, begun_stage, hears_awaited, hears_stage, left_none}

-- where nothing is left, nothing ever is
none_stays : (s : Stage) (answers : List Answer) → s.left ≡ [] → (heard s answers).left ≡ []
none_stays s [] none = none
none_stays s (answer ∷ answers) none = none_stays (hearing s answer) answers (still (s.left) none)
  where
    still : (left : List Step) → left ≡ [] → (hearing (record { ready = s.ready; left = left }) answer).left ≡ []
    still [] e = refl
    still (step ∷ steps) e = absurd (omega (arith, ap length e))

none_left : (ws : List WordId) → ws ≡ [] → is_none_left ws ≡ true
none_left [] none = refl
none_left (w ∷ ws) none = absurd (omega (arith, ap length none))

some_left : (ws : List WordId) → ws ≢ [] → is_none_left ws ≡ false
some_left [] some = absurd (some refl)
some_left (w ∷ ws) some = refl

-- a list is empty, or it isn't
none_or_some : (left : List Step) → (left ≡ []) ⊎ (left ≢ [])
none_or_some [] = inl refl
none_or_some (step ∷ steps) = inr (λ none. absurd (omega (arith, ap length none)))

-- one answer leaves nothing to await, or something
module _ (s : Stage) (stage : IsStage s) (answer : Answer) where
  ends_now : (hearing s answer).left ≡ [] → is_none_left (still_awaited (awaited s.left) answer) ≡ true
  ends_now none = none_left _ (sym (hears_awaited s stage answer) ∙ ap awaited none)

  goes_on : (hearing s answer).left ≢ [] → is_none_left (still_awaited (awaited s.left) answer) ≡ false
  goes_on some = some_left _ (λ none. some (left_none (hearing s answer) (hears_stage s stage answer) (hears_awaited s stage answer ∙ none)))

-- what is said of a stage and the words that it awaits
abbrev Alike : Stage → ℤ → Polls → Type 0
Alike s t polls =
    ((finish t (awaited s.left) polls ≡ None) × ((heard s (answers_after t polls)).left ≢ []))
    ⊎ ((at : ℤ) × (finish t (awaited s.left) polls ≡ Some at) × ((heard s (answers_after t polls)).left ≡ []))

alike : (t : ℤ) (polls : Polls) (s : Stage) → IsStage s → s.left ≢ [] → Alike s t polls
alike t [] s stage some = inl (refl, some)
alike t (p ∷ polls) s stage some = elim (cases_Bool (int_le p.0 t)) [
  | inl early ↦ rw early (alike t polls s stage some)
  | inr late ↦ elim (none_or_some (hearing s p.1).left) [
    | inl none ↦ inr (p.0, rw (late, ends_now s stage p.1 none) refl, rw late (none_stays (hearing s p.1) (answers_after t polls) none))
    | inr more ↦
        let next : Alike (hearing s p.1) t polls = alike t polls (hearing s p.1) (hears_stage s stage p.1) more in
        let on : finish t (awaited s.left) (p ∷ polls) ≡ finish t (awaited (hearing s p.1).left) polls =
        rw (late, goes_on s stage p.1 more) (ap (λ ws. finish t ws polls) (sym (hears_awaited s stage p.1))) in
        elim next [
          | inl w ↦ inl (on ∙ w.0, rw late w.1)
          | inr f ↦ inr (f.0, on ∙ f.1, rw late f.2)
        ]
  ]
]

-- the answer that leaves nothing
ends : (t : ℤ) (polls : Polls) (s : Stage) → IsStage s → (at : ℤ) (answer : Answer) → t <ℤ at → (heard s (answers_after t polls)).left ≢ [] → (hearing (heard s (answers_after t polls)) answer).left ≡ [] → finish t (awaited s.left) (polls ++ (at, answer) ∷ []) ≡ Some at
ends t [] s stage at answer late some none =
    let after : int_le at t ≡ false = grind (arith, ints, late) in
    rw (after, ends_now s stage answer none) refl
ends t (p ∷ polls) s stage at answer late some none = elim (cases_Bool (int_le p.0 t)) [
  | inl early ↦ rw early (ends t polls s stage at answer late (rw early at some) (rw early at none))
  | inr later ↦
      let some_more : (heard (hearing s p.1) (answers_after t polls)).left ≢ [] = rw later at some in
      let more : (hearing s p.1).left ≢ [] = λ e. some_more (none_stays (hearing s p.1) (answers_after t polls) e) in
      let next = ends t polls (hearing s p.1) (hears_stage s stage p.1) at answer late some_more (rw later at none) in
      rw (later, goes_on s stage p.1 more) (ap (λ ws. finish t ws (polls ++ (at, answer) ∷ [])) (sym (hears_awaited s stage p.1)) ∙ next)
]

-- a script that ends with a word awaits one
waits : (steps : List Step) → ends_waiting steps ≡ true → from_wait steps ≢ []
waits [] is none = cc
waits (Do word amount ∷ []) is none = cc
waits (Do word amount ∷ step ∷ steps) is none = waits (step ∷ steps) is none
waits (Until word ∷ []) is none = absurd (omega (arith, ap length none))
waits (Until word ∷ step ∷ steps) is none = absurd (omega (arith, ap length none))

-- the laws, of a script from its beginning on
module _ (steps : List Step) (t : ℤ) (polls : Polls) (ends_so : ends_waiting steps ≡ true) where
  pub finishes_alike : AreAlike steps t polls
  finishes_alike = elim (alike t polls (begun steps) (begun_stage steps) (waits steps ends_so)) [
    | inl w ↦ inl (ap (λ ws. finish t ws polls) (sym (begun_awaits steps)) ∙ w.0, w.1)
    | inr f ↦ inr (f.0, ap (λ ws. finish t ws polls) (sym (begun_awaits steps)) ∙ f.1, f.2)
  ]

  pub finishes_last : (at : ℤ) (answer : Answer) → t <ℤ at → (heard (begun steps) (answers_after t polls)).left ≢ [] → (hearing (heard (begun steps) (answers_after t polls)) answer).left ≡ [] → finish t (awaited steps) (polls ++ (at, answer) ∷ []) ≡ Some at
  finishes_last at answer late some none = ap (λ ws. finish t ws (polls ++ (at, answer) ∷ [])) (sym (begun_awaits steps)) ∙ ends t polls (begun steps) (begun_stage steps) at answer late some none
