-- The steps of a script from one to another.
use Rattle.std.proofs.Common.{◌≡◌, ℕ, zero, suc, ◌+◌, ◌-◌, ◌<◌, ◌≤◌, List, [], ◌∷◌, ◌++◌, length, take, drop, get_or, refl, sym, ap, ◌∙◌, arith, append_assoc, nat_eq, cond, false}
use Rattle.std.proofs.lemmas.List.{drop-drop}
use Rattle.std.proofs.lemmas.Bool.{eq-eqb}
use Rattle.std.proofs.lemmas.Bool.Decides.{nat_tests}
use Rattle.std.specs.Prelude.{ℤ}
use Rattle.hs_base.specs.declared.ids.WordId.{WordId}
use Rattle.hs_base.specs.declared.mission.Step.{Step}
use Rattle.hs_base.specs.declared.mission.Step.TheVariants.{Do, Until}
use Rattle.hs_port.specs.declared.device.Answer.{Answer}
use Rattle.hs_port.specs.declared.device.Answer.TheVariants.{Said}
use Rattle.device_script.specs.Runs.{Orders, Stage, orders_to, from_wait, order_in, orders_in, go_on, after_answer, hearing, stage_at}
use Rattle.std.specs.Prelude.{MatchOption, is_some, true}

pub orders-append : (xs ys : List Step) → orders_in (xs ++ ys) ≡ orders_in xs ++ orders_in ys
orders-append [] ys = refl
orders-append (Do word amount ∷ xs) ys = ap (λ (l : Orders). (word, amount) ∷ l) (orders-append xs ys)
orders-append (Until word ∷ xs) ys = orders-append xs ys

-- the step of a number, in front of those behind it
pub drop_step : (xs : List Step) (i : ℕ) (d : Step) → i < length xs → drop i xs ≡ get_or xs i d ∷ drop (suc i) xs
drop_step [] i d below = absurd (omega arith)
drop_step (x ∷ xs) zero d below = refl
drop_step (x ∷ xs) (suc i) d below = drop_step xs i d (omega arith)

-- one more step
pub take_step : (xs : List Step) (i : ℕ) (d : Step) → i < length xs → take (suc i) xs ≡ take i xs ++ get_or xs i d ∷ []
take_step [] i d below = absurd (omega arith)
take_step (x ∷ xs) zero d below = refl
take_step (x ∷ xs) (suc i) d below = ap (λ l. x ∷ l) (take_step xs i d (omega arith))

take_none : (b : ℕ) → take b (let none : List Step = [] in none) ≡ []
take_none zero = refl
take_none (suc b) = refl

take_split : (a b : ℕ) (xs : List Step) → take (a + b) xs ≡ take a xs ++ take b (drop a xs)
take_split zero b xs = let e : 0 + b ≡ b = omega arith in ap (λ n. take n xs) e
take_split (suc a) b [] = let e : suc a + b ≡ suc (a + b) = omega arith in ap (λ n. take n []) e ∙ sym (take_none b)
take_split (suc a) b (x ∷ xs) = let e : suc a + b ≡ suc (a + b) = omega arith in ap (λ n. take n (x ∷ xs)) e ∙ ap (λ l. x ∷ l) (take_split a b xs)

-- the steps between two numbers, the first of them apart
between_step : (xs : List Step) (i j : ℕ) (d : Step) → i < j → j ≤ length xs → take (j - i) (drop i xs) ≡ get_or xs i d ∷ take (j - suc i) (drop (suc i) xs)
between_step xs i j d less within =
    let e : j - i ≡ suc (j - suc i) = omega (arith, less) in
    ap (λ n. take n (drop i xs)) e ∙ ap (take (suc (j - suc i))) (drop_step xs i d (omega (arith, less, within)))

-- those between the first and the last of three numbers
between_parts : (xs : List Step) (i j k : ℕ) → i ≤ j → j ≤ k → take (k - i) (drop i xs) ≡ take (j - i) (drop i xs) ++ take (k - j) (drop j xs)
between_parts xs i j k low high =
    let e : k - i ≡ (j - i) + (k - j) = omega (arith, low, high) in
    let f : i + (j - i) ≡ j = omega (arith, low) in
    ap (λ n. take n (drop i xs)) e ∙ take_split (j - i) (k - j) (drop i xs) ∙ ap (λ l. take (j - i) (drop i xs) ++ take (k - j) l) (drop-drop (j - i) i xs ∙ ap (λ n. drop n xs) f)

-- a step that is an order
pub do_more : (xs : List Step) (from i : ℕ) (word : WordId) (amount : ℤ) (d : Step) → from ≤ i → i < length xs → get_or xs i d ≡ Do word amount → from_wait (drop i xs) ≡ from_wait (drop from xs) → orders_in (take (i - from) (drop from xs)) ++ orders_to (drop i xs) ≡ orders_to (drop from xs)
    → (from_wait (drop (i + 1) xs) ≡ from_wait (drop from xs)) × (orders_in (take (i + 1 - from) (drop from xs)) ++ orders_to (drop (i + 1) xs) ≡ orders_to (drop from xs))
do_more xs from i word amount d low below is wait orders =
    let here : drop i xs ≡ Do word amount ∷ drop (suc i) xs = drop_step xs i d below ∙ ap (λ s. s ∷ drop (suc i) xs) is in
    let one : i + 1 ≡ suc i = omega arith in
    let parts : take (i + 1 - from) (drop from xs) ≡ take (i - from) (drop from xs) ++ take (i + 1 - i) (drop i xs) = between_parts xs from i (i + 1) low (omega arith) in
    let single : take (i + 1 - i) (drop i xs) ≡ Do word amount ∷ [] = (let e : i + 1 - i ≡ 1 = omega arith in ap (λ n. take n (drop i xs)) e) ∙ ap (take 1) here in (
      ap (λ n. from_wait (drop n xs)) one ∙ sym (ap from_wait here) ∙ wait,
      ap (λ l. orders_in l ++ orders_to (drop (i + 1) xs)) (parts ∙ ap (λ l. take (i - from) (drop from xs) ++ l) single)
          ∙ ap (λ l. l ++ orders_to (drop (i + 1) xs)) (orders-append (take (i - from) (drop from xs)) (Do word amount ∷ []))
          ∙ append_assoc (orders_in (take (i - from) (drop from xs))) ((word, amount) ∷ []) (orders_to (drop (i + 1) xs))
          ∙ ap (λ n. orders_in (take (i - from) (drop from xs)) ++ (word, amount) ∷ orders_to (drop n xs)) one
          ∙ ap (λ l. orders_in (take (i - from) (drop from xs)) ++ orders_to l) (sym here)
          ∙ orders,
    )

-- the next order that is reached
pub order_next : (xs : List Step) (given reached : ℕ) (word : WordId) (amount : ℤ) (d : Step) → given < reached → reached ≤ length xs → get_or xs given d ≡ Do word amount → orders_in (take (reached - given) (drop given xs)) ≡ (word, amount) ∷ orders_in (take (reached - (given + 1)) (drop (given + 1) xs))
order_next xs given reached word amount d less within is =
    let one : suc given ≡ given + 1 = omega arith in
    ap orders_in (between_step xs given reached d less within ∙ ap (λ s. s ∷ take (reached - suc given) (drop (suc given) xs)) is)
    ∙ ap (λ n. (word, amount) ∷ orders_in (take (reached - n) (drop n xs))) one

-- a word that was heard is passed by
pub wait_passed : (xs : List Step) (given reached : ℕ) (word : WordId) (d : Step) → given < reached → reached ≤ length xs → get_or xs given d ≡ Until word → stage_at xs (given + 1) reached ≡ stage_at xs given reached
wait_passed xs given reached word d less within is =
    let one : suc given ≡ given + 1 = omega arith in
    let same : orders_in (take (reached - given) (drop given xs)) ≡ orders_in (take (reached - (given + 1)) (drop (given + 1) xs)) =
    ap orders_in (between_step xs given reached d less within ∙ ap (λ s. s ∷ take (reached - suc given) (drop (suc given) xs)) is)
    ∙ ap (λ n. orders_in (take (reached - n) (drop n xs))) one in
    ap (λ (o : Orders). record { ready = o; left = drop reached xs }) (sym same)

-- the awaited word is heard
module _ (xs : List Step) (given reached : ℕ) (d : Step) (low : given ≤ reached) (below : reached < length xs) where
  pub word_heard : (next : ℕ) (said word : WordId) → get_or xs reached d ≡ Until word → said.0 ≡ word.0 → reached + 1 ≤ next → drop next xs ≡ from_wait (drop (reached + 1) xs) → orders_in (take (next - (reached + 1)) (drop (reached + 1) xs)) ≡ orders_to (drop (reached + 1) xs) → stage_at xs given next ≡ hearing (stage_at xs given reached) (Said said)
  word_heard next said word is same later wait orders =
      let one : reached + 1 ≡ suc reached = omega arith in
      let here : drop reached xs ≡ Until word ∷ drop (suc reached) xs = drop_step xs reached d below ∙ ap (λ s. s ∷ drop (suc reached) xs) is in
      let passed : take (next - reached) (drop reached xs) ≡ Until word ∷ take (next - (reached + 1)) (drop (suc reached) xs) = (let e : next - reached ≡ suc (next - (reached + 1)) = omega (arith, later) in ap (λ n. take n (drop reached xs)) e) ∙ ap (take (suc (next - (reached + 1)))) here in
      let ready : orders_in (take (next - given) (drop given xs)) ≡ orders_in (take (reached - given) (drop given xs)) ++ orders_to (drop (suc reached) xs) =
      ap orders_in (between_parts xs given reached next low (omega (arith, later)) ∙ ap (λ l. take (reached - given) (drop given xs) ++ l) passed)
      ∙ orders-append (take (reached - given) (drop given xs)) (Until word ∷ take (next - (reached + 1)) (drop (suc reached) xs))
      ∙ ap (λ n. orders_in (take (reached - given) (drop given xs)) ++ orders_in (take (next - (reached + 1)) (drop n xs))) (sym one)
      ∙ ap (λ l. orders_in (take (reached - given) (drop given xs)) ++ l) orders
      ∙ ap (λ n. orders_in (take (reached - given) (drop given xs)) ++ orders_to (drop n xs)) one in
      ap (λ (o : Orders). record { ready = o; left = drop next xs }) ready
      ∙ ap (λ (l : List Step). record { ready = orders_in (take (reached - given) (drop given xs)) ++ orders_to (drop (suc reached) xs); left = l }) (wait ∙ ap (λ n. from_wait (drop n xs)) one)
      ∙ sym (ap (λ l. after_answer (orders_in (take (reached - given) (drop given xs))) l (Said said)) here ∙ ap (λ b. cond b (go_on (orders_in (take (reached - given) (drop given xs))) (drop (suc reached) xs)) (record { ready = orders_in (take (reached - given) (drop given xs)); left = Until word ∷ drop (suc reached) xs })) (eq-eqb said.0 word.0 same))

  -- another word is
  pub word_dropped : (said word : WordId) → get_or xs reached d ≡ Until word → (said.0 ≡ word.0 → ⊥) → stage_at xs given reached ≡ hearing (stage_at xs given reached) (Said said)
  word_dropped said word is other =
      let here : drop reached xs ≡ Until word ∷ drop (suc reached) xs = drop_step xs reached d below ∙ ap (λ s. s ∷ drop (suc reached) xs) is in
      let apart : nat_eq said.0 word.0 ≡ false = grind (arith, nat_tests) in
      ap (λ (l : List Step). record { ready = orders_in (take (reached - given) (drop given xs)); left = l }) here
      ∙ sym (ap (λ l. after_answer (orders_in (take (reached - given) (drop given xs))) l (Said said)) here ∙ ap (λ b. cond b (go_on (orders_in (take (reached - given) (drop given xs))) (drop (suc reached) xs)) (record { ready = orders_in (take (reached - given) (drop given xs)); left = Until word ∷ drop (suc reached) xs })) apart)

  -- no word is awaited
  pub order_waits : (answer : Answer) (word : WordId) (amount : ℤ) → get_or xs reached d ≡ Do word amount → stage_at xs given reached ≡ hearing (stage_at xs given reached) answer
  order_waits answer word amount is =
      let here : drop reached xs ≡ Do word amount ∷ drop (suc reached) xs = drop_step xs reached d below ∙ ap (λ s. s ∷ drop (suc reached) xs) is in
      ap (λ (l : List Step). record { ready = orders_in (take (reached - given) (drop given xs)); left = l }) here
      ∙ sym (ap (λ l. after_answer (orders_in (take (reached - given) (drop given xs))) l answer) here)

-- a number at which a step is left is that of a step
pub step_left : (xs : List Step) (i : ℕ) → (drop i xs ≡ [] → ⊥) → i < length xs
step_left [] zero some = absurd (some refl)
step_left [] (suc i) some = absurd (some refl)
step_left (x ∷ xs) zero some = omega arith
step_left (x ∷ xs) (suc i) some = omega (arith, step_left xs i some)

-- and where none is left, it is their number
pub none_left : (xs : List Step) (i : ℕ) → i ≤ length xs → drop i xs ≡ [] → i ≡ length xs
none_left [] zero within none = refl
none_left [] (suc i) within none = absurd (omega (arith, within))
none_left (x ∷ xs) zero within none = absurd (omega (arith, ap length none))
none_left (x ∷ xs) (suc i) within none = ap suc (none_left xs i (omega (arith, within)) none)

-- what is given next, where a step is one that is reached
module _ (xs : List Step) (given reached : ℕ) (s : Stage) (less : given < reached) (within : reached ≤ length xs) (same : stage_at xs given reached ≡ s) where
  pub order_given : (step : Step) → get_or xs given step ≡ step → is_some (order_in step) ≡ true → MatchOption (order_in step) ((s.ready ≡ []) × (stage_at xs (given + 1) reached ≡ s)) (λ o. (s.ready ≡ o ∷ orders_in (take (reached - (given + 1)) (drop (given + 1) xs))) × (drop reached xs ≡ s.left))
  order_given (Do word amount) is some = (
    sym (ap (λ (z : Stage). z.ready) same) ∙ order_next xs given reached word amount (Do word amount) less within is,
    ap (λ (z : Stage). z.left) same,
  )
  order_given (Until word) is some = absurd (grind (arith, some))

  pub none_given : (step : Step) → get_or xs given step ≡ step → is_some (order_in step) ≡ false → stage_at xs (given + 1) reached ≡ s
  none_given (Do word amount) is none = absurd (grind (arith, none))
  none_given (Until word) is none = wait_passed xs given reached word (Until word) less within is ∙ same
