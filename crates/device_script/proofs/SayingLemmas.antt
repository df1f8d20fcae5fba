-- Clauses in turn, and words in turn.
use Rattle.std.proofs.Common.{◌≡◌, ℕ, ℤ, ◌+◌, ◌-◌, ◌<◌, ◌≤◌, zero, suc, min, List, [], ◌∷◌, ◌++◌, length, map, set, get_or, drop, refl, sym, ap, subst, ◌∙◌, append_assoc, arith, Some, None, slice_get}
use Rattle.std.proofs.lemmas.List.{get_or-map, map-set, get_or_past, map-append, get_or-set_same, length-map}
use Rattle.hs_base.specs.declared.mission.Said.{Said}
use Rattle.hs_base.specs.declared.ids.WordId.{WordId}
use Rattle.hs_port.specs.declared.device.Answer.TheVariants.{Quiet}
use Rattle.device_script.specs.Sayings.{Answers, Clauses, Saying, Says, HasHeard, begins, next_clause, clauses_after, clauses_behind}
use Rattle.device_script.specs.declared.told.Turns.{Turns}
use Rattle.device_script.specs.Telling.{coming}

-- the clause of a number is the next one from there on
pub clause_here : (cs : Clauses) (i : ℕ) → get_or cs i [] ≡ next_clause (drop i cs)
clause_here [] zero = refl
clause_here [] (suc i) = refl
clause_here (c ∷ cs) zero = refl
clause_here (c ∷ cs) (suc i) = clause_here cs i

-- a clause that isn't the last one makes room for the one after it
pub clauses_more : (cs : Clauses) (i : ℕ) → i + 1 < length cs → drop (i + 1) cs ≡ clauses_after (drop i cs)
clauses_more cs i below = let one : i + 1 ≡ suc i = omega arith in ap (λ n. drop n cs) one ∙ more cs i below
  where
    more : (cs : Clauses) (i : ℕ) → i + 1 < length cs → drop (suc i) cs ≡ clauses_after (drop i cs)
    more [] i below = absurd (omega (arith, below))
    more (c ∷ []) i below = absurd (omega (arith, below))
    more (c ∷ d ∷ cs) zero below = refl
    more (c ∷ d ∷ cs) (suc i) below = more (d ∷ cs) i (omega (arith, below))

-- the last one stays
pub clauses_last : (cs : Clauses) (i : ℕ) → length cs ≤ i + 1 → drop i cs ≡ clauses_after (drop i cs)
clauses_last [] zero last = refl
clauses_last [] (suc i) last = refl
clauses_last (c ∷ []) zero last = refl
clauses_last (c ∷ []) (suc i) last = clauses_last [] i (omega (arith, last))
clauses_last (c ∷ d ∷ cs) zero last = absurd (omega (arith, last))
clauses_last (c ∷ d ∷ cs) (suc i) last = clauses_last (d ∷ cs) i (omega (arith, last))

-- what is written past the end is written nowhere
pub set_past : {X : Type 0} (xs : List X) (i : ℕ) (x : X) → length xs ≤ i → set xs i x ≡ xs
set_past [] i x past = refl
set_past (y ∷ xs) zero x past = absurd (omega (arith, past))
set_past (y ∷ xs) (suc i) x past = ap (λ l. y ∷ l) (set_past xs i x (omega (arith, past)))

-- a word that is there stands before those behind it
pub drop_word : {X : Type 0} (xs : List X) (i : ℕ) (x : X) → slice_get xs i ≡ Some x → drop i xs ≡ x ∷ drop (i + 1) xs
drop_word {X} xs i x is = let one : suc i ≡ i + 1 = omega arith in here xs i is ∙ ap (λ n. x ∷ drop n xs) one
  where
    here : (xs : List X) (i : ℕ) → slice_get xs i ≡ Some x → drop i xs ≡ x ∷ drop (suc i) xs
    here [] i is = absurd (grind (arith, is))
    here (y ∷ xs) zero is = grind (arith, is)
    here (y ∷ xs) (suc i) is = here xs i is

-- where there is none, none is left
pub drop_none : {X : Type 0} (xs : List X) (i : ℕ) → slice_get xs i ≡ None → drop i xs ≡ []
drop_none [] zero is = refl
drop_none [] (suc i) is = refl
drop_none (y ∷ xs) zero is = absurd (grind (arith, is))
drop_none (y ∷ xs) (suc i) is = drop_none xs i is

-- a value's next clause is taken
module _ (turns : List Turns) (value : ℕ) (d taken : Turns) (within : value < length turns) where
  pub taken_words : (clause : ℕ) → get_or taken.clauses clause [] ≡ next_clause (coming (get_or turns value d)) → get_or (get_or (map (λ (t : Turns). t.clauses) (set turns value taken)) value []) clause [] ≡ next_clause (get_or (map coming turns) value [])
  taken_words clause words =
      ap (λ l. get_or (get_or l value []) clause []) (map-set (λ (t : Turns). t.clauses) turns value taken)
      ∙ ap (λ l. get_or l clause []) (get_or-set_same (map (λ (t : Turns). t.clauses) turns) value taken.clauses [] (rw (length-map turns (λ (t : Turns). t.clauses)) within))
      ∙ words
      ∙ ap next_clause (sym (get_or-map coming turns value d [] within))

  pub taken_next : coming taken ≡ clauses_after (coming (get_or turns value d)) → map coming (set turns value taken) ≡ set (map coming turns) value (clauses_after (get_or (map coming turns) value []))
  taken_next next =
      map-set coming turns value taken
      ∙ ap (λ c. set (map coming turns) value c) (next ∙ ap clauses_after (sym (get_or-map coming turns value d [] within)))

-- the words that were heard and those that are left are the clause
pub heard_begun : (value : ℕ) (now : ℤ) (s : Saying) → HasHeard (next_clause (get_or s.values value [])) [] (begins value now s)
heard_begun value now s = record { said = []; is = refl; words = refl }

pub heard_waiting : (clause : List Said) (heard : List WordId) (s after : Saying) (now : ℤ) → HasHeard clause heard s → Answers s now Quiet after → HasHeard clause heard after
heard_waiting clause heard s after now h quiet = subst (HasHeard clause heard) (sym quiet.1) h

pub heard_more : (clause : List Said) (heard : List WordId) (s after : Saying) (now : ℤ) (word : WordId) → HasHeard clause heard s → Says s now word after → HasHeard clause (heard ++ word ∷ []) after
heard_more clause heard s after now word h says =
    let one : Said = record { delay = says.delay; word = word } in
    record {
      said = h.said ++ one ∷ [];
      is = h.is ∙ ap (λ l. h.said ++ l) says.next ∙ sym (append_assoc h.said (one ∷ []) after.left);
      words = ap (λ l. l ++ word ∷ []) h.words ∙ sym (map-append (λ (w : Said). w.word) h.said (one ∷ []));
    }

-- the begin of number n, from 0, takes the clause of that number, or the last one
pub clause_of_begin : (cs : Clauses) (n : ℕ) → next_clause (clauses_behind n cs) ≡ get_or cs (min n (length cs - 1)) []
clause_of_begin [] n = none n ∙ sym (get_or_past [] (min n (0 - 1)) [] (omega arith))
  where
    none : (n : ℕ) → next_clause (clauses_behind n []) ≡ []
    none zero = refl
    none (suc n) = none n
clause_of_begin (c ∷ []) n = last n ∙ (let e : 0 ≡ min n (1 - 1) = grind arith in ap (λ k. get_or (c ∷ []) k []) e)
  where
    last : (n : ℕ) → next_clause (clauses_behind n (c ∷ [])) ≡ c
    last zero = refl
    last (suc n) = last n
clause_of_begin (c ∷ d ∷ cs) zero = let e : 0 ≡ min 0 (length (c ∷ d ∷ cs) - 1) = grind arith in ap (λ k. get_or (c ∷ d ∷ cs) k []) e
clause_of_begin (c ∷ d ∷ cs) (suc n) =
    let e : suc (min n (length (d ∷ cs) - 1)) ≡ min (suc n) (length (c ∷ d ∷ cs) - 1) = grind arith in
    clause_of_begin (d ∷ cs) n ∙ ap (λ k. get_or (c ∷ d ∷ cs) k []) e
