-- The orders of a script are those of the steps that it has passed.
use Rattle.std.proofs.Common.{◌≡◌, nat_eq, List, [], ◌∷◌, ◌++◌, refl, sym, ap, ◌∙◌, append_assoc, inl, inr}
use Rattle.std.proofs.lemmas.Bool.{cases_Bool}
use Rattle.std.specs.Prelude.{ℤ}
use Rattle.hs_base.specs.declared.ids.WordId.{WordId}
use Rattle.hs_base.specs.declared.mission.Step.{Step}
use Rattle.hs_base.specs.declared.mission.Step.TheVariants.{Do, Until}
use Rattle.hs_port.specs.declared.device.Answer.{Answer}
use Rattle.hs_port.specs.declared.device.Answer.TheVariants.{Quiet, Said}
use Rattle.device_script.specs.Runs.{Orders, Stage, begun, from_wait, go_on, hearing, orders_in, orders_to}
use Rattle.device_script.specs.Passed.{HasCome}
use Rattle.device_script.proofs.StageLemmas.{orders-append}

-- the steps in front of the first awaited word
abbrev front_of : List Step → List Step
front_of [] = []
front_of (Do word amount ∷ steps) = Do word amount ∷ front_of steps
front_of (Until word ∷ steps) = []

parts : (steps : List Step) → steps ≡ front_of steps ++ from_wait steps
parts [] = refl
parts (Do word amount ∷ steps) = ap (λ l. Do word amount ∷ l) (parts steps)
parts (Until word ∷ steps) = refl

front_orders : (steps : List Step) → orders_to steps ≡ orders_in (front_of steps)
front_orders [] = refl
front_orders (Do word amount ∷ steps) = ap (λ (l : Orders). (word, amount) ∷ l) (front_orders steps)
front_orders (Until word ∷ steps) = refl

pub come_begun : (steps : List Step) → HasCome steps [] (begun steps)
come_begun steps = record { passed = front_of steps; is = parts steps; orders = front_orders steps }

-- the script goes on behind a word
come_on : (steps : List Step) (given ready : Orders) (word : WordId) (left : List Step) → HasCome steps given (record { ready = ready; left = Until word ∷ left }) → HasCome steps given (go_on ready left)
come_on steps given ready word left h = record {
  passed = h.passed ++ Until word ∷ front_of left;
  is = h.is ∙ ap (λ l. h.passed ++ Until word ∷ l) (parts left) ∙ sym (append_assoc h.passed (Until word ∷ front_of left) (from_wait left));
  orders =
      sym (append_assoc given ready (orders_to left)) ∙ ap (λ l. l ++ orders_to left) h.orders ∙ ap (λ l. orders_in h.passed ++ l) (front_orders left)
      ∙ sym (orders-append h.passed (Until word ∷ front_of left));
}

come_after : (steps : List Step) (given ready : Orders) (left : List Step) (answer : Answer) → HasCome steps given (record { ready = ready; left = left }) → HasCome steps given (hearing (record { ready = ready; left = left }) answer)
come_after steps given ready [] answer h = h
come_after steps given ready (Do word amount ∷ left) answer h = h
come_after steps given ready (Until word ∷ left) Quiet h = h
come_after steps given ready (Until word ∷ left) (Said said) h = elim (cases_Bool (nat_eq said.0 word.0)) [
  | inl same ↦ rw same (come_on steps given ready word left h)
  | inr other ↦ rw other h
]

pub come_heard : (steps : List Step) (given : Orders) (s : Stage) (answer : Answer) → HasCome steps given s → HasCome steps given (hearing s answer)
come_heard steps given s answer h = come_after steps given s.ready s.left answer (record { passed = h.passed; is = h.is; orders = h.orders })

pub come_given : (steps : List Step) (given ready : Orders) (s : Stage) (order : WordId × ℤ) → HasCome steps given s → s.ready ≡ order ∷ ready → HasCome steps (given ++ order ∷ []) (record { ready = ready; left = s.left })
come_given steps given ready s order h is = record {
  passed = h.passed;
  is = h.is;
  orders = append_assoc given (order ∷ []) ready ∙ ap (λ (l : Orders). given ++ l) (sym is) ∙ h.orders;
}
