-- A longer list of answers: what was finished stays so, and what runs hears one answer more.
use Rattle.std.proofs.Common.{◌≡◌, ◌≢◌, ℕ, zero, suc, ◌+◌, ◌<◌, ◌≤◌, Bool, true, false, cond, ◌&&◌, ◌||◌, List, [], ◌∷◌, ◌++◌, map, Option, Some, None, refl, sym, ap, ◌∙◌, subst, arith, inl, inr, pos, append-nil}
use Rattle.std.proofs.lemmas.Int.{ints, clamps}
use Rattle.std.proofs.lemmas.Bool.{cases_Bool}
use Rattle.std.proofs.lemmas.List.{map-append}
use Rattle.std.proofs.lemmas.List.Elements.{filter-append}
use Rattle.std.proofs.lemmas.Grind.{flat_map-append}
use Rattle.std.proofs.lemmas.List.FromFn.{map-range_with_len_more}
use Rattle.std.specs.Prelude.{ℤ, int_le, int_lt, ◌≤ℤ◌, ◌<ℤ◌, filter, flat_map}
use Rattle.std.specs.Int.{int_max}
use Rattle.std.specs.List.{AllByRecursion, list_any}
use Rattle.hs_base.specs.declared.ids.WordId.{WordId}
use Rattle.hs_base.specs.Bounds.{on_some}
use Rattle.hs_base.specs.Dispatch.{or_else}
use Rattle.hs_base.specs.Schedule.{numbers_from}
use Rattle.hs_port.specs.declared.device.Answer.{Answer}
use Rattle.hs_machine.specs.Reports.{Polls, Script, Performed, still_awaited, is_none_left, finish, latest, performed_after, is_running, is_by}
use Rattle.base_laws.proofs.ListLemmas.{each_both}
use Rattle.simulation_laws.specs.Hearing.{left_after, last_finish, IsOver, Rests, Runs, AreBy, runs_at, AskedTo, told_by}

-- The finish of a longer list of answers: that of its front, or else what the rest brings to what is still awaited.
pub finish-append : (after : ℤ) (ws : List WordId) (xs ys : Polls) → finish after ws (xs ++ ys) ≡ or_else (finish after ws xs) (finish after (left_after after ws xs) ys)
finish-append after ws [] ys = refl
finish-append after ws (p ∷ xs) ys = elim (cases_Bool (int_le p.0 after)) [
  | inl early ↦ rw early (finish-append after ws xs ys)
  | inr late ↦ rw late (elim (cases_Bool (is_none_left (still_awaited ws p.1))) [
    | inl none ↦ rw none refl
    | inr some ↦ rw some (finish-append after (still_awaited ws p.1) xs ys)
  ])
]

pub left_after-append : (after : ℤ) (ws : List WordId) (xs ys : Polls) → left_after after ws (xs ++ ys) ≡ left_after after (left_after after ws xs) ys
left_after-append after ws [] ys = refl
left_after-append after ws (p ∷ xs) ys = elim (cases_Bool (int_le p.0 after)) [
  | inl early ↦ rw early (left_after-append after ws xs ys)
  | inr late ↦ rw late (left_after-append after (still_awaited ws p.1) xs ys)
]

le_true : (a b : ℤ) → a ≤ℤ b → int_le a b ≡ true
le_true a b h = grind (arith, ints)

le_false : (a b : ℤ) → b <ℤ a → int_le a b ≡ false
le_false a b h = grind (arith, ints)

lt_true : (a b : ℤ) → a <ℤ b → int_lt a b ≡ true
lt_true a b h = grind (arith, ints)

lt_false : (a b : ℤ) → b ≤ℤ a → int_lt a b ≡ false
lt_false a b h = grind (arith, ints)

-- answers that all come at a tick or before are not heard after it
pub finish_deaf : (after : ℤ) (ws : List WordId) (xs : Polls) → AreBy after xs → finish after ws xs ≡ None
finish_deaf after ws [] h = refl
finish_deaf after ws (p ∷ xs) h = rw (le_true p.0 after h.0) (finish_deaf after ws xs h.1)

pub left_deaf : (after : ℤ) (ws : List WordId) (xs : Polls) → AreBy after xs → left_after after ws xs ≡ ws
left_deaf after ws [] h = refl
left_deaf after ws (p ∷ xs) h = rw (le_true p.0 after h.0) (left_deaf after ws xs h.1)

-- more scripts are performed after the others
pub performed-append : (before : ℤ) (ss ts : List Script) (polls : Polls) → performed_after before (ss ++ ts) polls ≡ performed_after before ss polls ++ performed_after (last_finish before ss polls) ts polls
performed-append before [] ts polls = refl
performed-append before (s ∷ ss) ts polls = ap (λ l. record { script = s; finish = finish (int_max before s.begun) s.words polls } ∷ l) (performed-append (latest before (finish (int_max before s.begun) s.words polls)) ss ts polls)

-- what is over stays as it is with more answers
pub over_stays : (before n : ℤ) (ss : List Script) (xs ys : Polls) → AllByRecursion (IsOver n) (performed_after before ss xs) → (performed_after before ss (xs ++ ys) ≡ performed_after before ss xs) × (last_finish before ss (xs ++ ys) ≡ last_finish before ss xs)
over_stays before n [] xs ys h = (refl, refl)
over_stays before n (s ∷ ss) xs ys h =
    let same : finish (int_max before s.begun) s.words (xs ++ ys) ≡ finish (int_max before s.begun) s.words xs = finish-append (int_max before s.begun) s.words xs ys ∙ ap (λ o. or_else o (finish (int_max before s.begun) (left_after (int_max before s.begun) s.words xs) ys)) h.0.is ∙ sym h.0.is in
    let r = over_stays (latest before (finish (int_max before s.begun) s.words xs)) n ss xs ys h.1 in (
      ap (λ o. record { script = s; finish = o } ∷ performed_after (latest before o) ss (xs ++ ys)) same ∙ ap (λ l. record { script = s; finish = finish (int_max before s.begun) s.words xs } ∷ l) r.0,
      ap (λ o. last_finish (latest before o) ss (xs ++ ys)) same ∙ r.1,
    )

max_right : (a b : ℤ) → b ≤ℤ int_max a b
max_right a b = omega (arith, ints, clamps)

max_by : (a b n : ℤ) → a ≤ℤ n → b ≤ℤ n → int_max a b ≤ℤ n
max_by a b n h k = omega (arith, ints, clamps)

pub by_weaker : (a b : ℤ) (xs : Polls) → a ≤ℤ b → AreBy a xs → AreBy b xs
by_weaker a b [] le h = tt
by_weaker a b (p ∷ xs) le h = (omega (arith, ints, le, h.0), by_weaker a b xs le h.1)

pub over_weaker : (m n : ℤ) (ps : List Performed) → m ≤ℤ n → AllByRecursion (IsOver m) ps → AllByRecursion (IsOver n) ps
over_weaker m n [] le h = tt
over_weaker m n (p ∷ ps) le h = (record { at = h.0.at; is = h.0.is; by = omega (arith, ints, le, h.0.by) }, over_weaker m n ps le h.1)

-- the last finish of scripts that are over
last_by : (before n : ℤ) (ss : List Script) (polls : Polls) → before ≤ℤ n → AllByRecursion (IsOver n) (performed_after before ss polls) → last_finish before ss polls ≤ℤ n
last_by before n [] polls le h = le
last_by before n (s ∷ ss) polls le h = last_by (latest before (finish (int_max before s.begun) s.words polls)) n ss polls (later (finish (int_max before s.begun) s.words polls) h.0.at h.0.is h.0.by) h.1
  where
    later : (o : Option ℤ) (at : ℤ) → o ≡ Some at → at ≤ℤ n → latest before o ≤ℤ n
    later None at is by = le
    later (Some u) at is by = let same : u ≡ at = cc in omega (arith, ints, same, by)

-- what scripts tell, one more of them
pub told-push : (ss : List Script) (s : Script) (polls : Polls) → told_by (ss ++ s ∷ []) polls ≡ told_by ss polls ++ on_some (finish (int_max (last_finish (pos 0) ss polls) s.begun) s.words polls) (λ at. (s.point, at) ∷ [])
told-push ss s polls =
    ap (flat_map (λ (p : Performed). on_some p.finish (λ at. (p.script.point, at) ∷ []))) (performed-append (pos 0) ss (s ∷ []) polls)
    ∙ flat_map-append (λ (p : Performed). on_some p.finish (λ at. (p.script.point, at) ∷ [])) (performed_after (pos 0) ss polls) _
    ∙ ap (λ l. told_by ss polls ++ l) (append-nil _)

any-append : {X : Type 0} (p : X → Bool) (xs ys : List X) → list_any p (xs ++ ys) ≡ (list_any p xs || list_any p ys)
any-append p [] ys = refl
any-append p (x ∷ xs) ys = elim (cases_Bool (p x)) [ inl yes_ ↦ rw yes_ refl | inr no_ ↦ rw no_ (any-append p xs ys) ]

-- whether scripts run at a tick, one more of them
runs-push : (ss : List Script) (s : Script) (polls : Polls) (t : ℤ) → runs_at (ss ++ s ∷ []) polls t ≡ (runs_at ss polls t || is_running t (record { script = s; finish = finish (int_max (last_finish (pos 0) ss polls) s.begun) s.words polls }))
runs-push ss s polls t =
    ap (list_any (is_running t)) (performed-append (pos 0) ss (s ∷ []) polls)
    ∙ any-append (is_running t) (performed_after (pos 0) ss polls) _
    ∙ ap (λ b. runs_at ss polls t || b) (last (is_running t (record { script = s; finish = finish (int_max (last_finish (pos 0) ss polls) s.begun) s.words polls })))
  where
    last : (b : Bool) → (b || false) ≡ b
    last true = refl
    last false = refl

-- ticks of a range that pass two tests alike
ticks_same : (p q : ℤ → Bool) (from n : ℕ) → ((k : ℕ) → from ≤ k → k < from + n → p (pos k) ≡ q (pos k)) → filter p (map pos (numbers_from from n)) ≡ filter q (map pos (numbers_from from n))
ticks_same p q from zero h = refl
ticks_same p q from (suc n) h =
    let rest = ticks_same p q (from + 1) n (λ k low high. h k (omega (arith, low)) (omega (arith, high))) in
    ap (λ b. cond b (pos from ∷ filter p (map pos (numbers_from (from + 1) n))) (filter p (map pos (numbers_from (from + 1) n)))) (h from (omega arith) (omega arith))
    ∙ ap (λ l. cond (q (pos from)) (pos from ∷ l) l) rest

ticks-push : (k : ℕ) → map pos (numbers_from 1 (suc k)) ≡ map pos (numbers_from 1 k) ++ pos (suc k) ∷ []
ticks-push k = let one : suc k ≡ k + 1 = omega arith in ap (λ n. map pos (numbers_from 1 n)) one ∙ map-range_with_len_more pos 1 k (suc k) (omega arith)

-- one more tick that is asked at, or not
asked_more : (p : ℤ → Bool) (k : ℕ) (b : Bool) → p (pos (suc k)) ≡ b → filter p (map pos (numbers_from 1 (suc k))) ≡ filter p (map pos (numbers_from 1 k)) ++ cond b (pos (suc k) ∷ []) []
asked_more p k b is = ap (filter p) (ticks-push k) ∙ filter-append p (map pos (numbers_from 1 k)) (pos (suc k) ∷ []) ∙ ap (λ c. filter p (map pos (numbers_from 1 k)) ++ cond c (pos (suc k) ∷ []) []) is

-- No script runs any more at a later tick.
rest_still : (n t : ℤ) (ps : List Performed) → AllByRecursion (IsOver n) ps → n <ℤ t → list_any (is_running t) ps ≡ false
rest_still n t [] h less = refl
rest_still n t (p ∷ ps) h less =
    let done : is_by t p.finish ≡ false = ap (is_by t) h.0.is ∙ le_false t h.0.at (omega (arith, ints, less, h.0.by)) in
    elim (cases_Bool (int_lt p.script.begun t)) [
      | inl begun ↦ rw (begun, done) (rest_still n t ps h.1 less)
      | inr not ↦ rw not (rest_still n t ps h.1 less)
    ]

-- a device that rests isn't asked at the next tick
pub asked_rest : (ss : List Script) (polls : Polls) (k : ℕ) → Rests ss polls (pos k) → AskedTo k ss polls → AskedTo (suc k) ss polls
asked_rest ss polls k r asked =
    asked ∙ sym (asked_more (runs_at ss polls) k false (rest_still (pos k) (pos (suc k)) (performed_after (pos 0) ss polls) r.over (omega (arith, ints))) ∙ append-nil _)

-- a device that rests begins a script
module _ (ss : List Script) (polls : Polls) (n : ℤ) (s : Script) (r : Rests ss polls n) (old : AreBy n polls) (now : s.begun ≡ n) where
  deaf : AreBy (int_max (last_finish (pos 0) ss polls) s.begun) polls
  deaf = by_weaker n (int_max (last_finish (pos 0) ss polls) s.begun) polls (omega (arith, ints, now, max_right (last_finish (pos 0) ss polls) s.begun)) old

  pub begins : s.words ≢ [] → Runs (ss ++ s ∷ []) polls n s s.words
  begins some = record {
    front = ss;
    is = refl;
    rests = r;
    begun = omega (arith, ints, now);
    unfinished = finish_deaf (int_max (last_finish (pos 0) ss polls) s.begun) s.words polls deaf;
    left_is = sym (left_deaf (int_max (last_finish (pos 0) ss polls) s.begun) s.words polls deaf);
    some = some;
  }

  pub told_begun : told_by (ss ++ s ∷ []) polls ≡ told_by ss polls
  told_begun = told-push ss s polls ∙ ap (λ o. told_by ss polls ++ on_some o (λ at. (s.point, at) ∷ [])) (finish_deaf (int_max (last_finish (pos 0) ss polls) s.begun) s.words polls deaf) ∙ append-nil _

  pub asked_begun : (k : ℕ) → n ≡ pos k → AskedTo k ss polls → AskedTo k (ss ++ s ∷ []) polls
  asked_begun k is asked = asked ∙ ticks_same (runs_at ss polls) (runs_at (ss ++ s ∷ []) polls) 1 k (λ j low high.
      let late : int_lt s.begun (pos j) ≡ false = lt_false s.begun (pos j) (omega (arith, ints, now, is, high)) in
      sym (runs-push ss s polls (pos j) ∙ rw late (or_no (runs_at ss polls (pos j)))))
    where
      or_no : (b : Bool) → (b || false) ≡ b
      or_no true = refl
      or_no false = refl

-- a device that runs a script answers once more
module _ (ss : List Script) (polls : Polls) (k : ℕ) (s : Script) (left : List WordId) (r : Runs ss polls (pos k) s left) (old : AreBy (pos k) polls) (answer : Answer) where
  abbrev pub longer : Polls
  longer = polls ++ (pos (suc k), answer) ∷ []

  after : ℤ
  after = int_max (last_finish (pos 0) r.front polls) s.begun

  early : int_max (last_finish (pos 0) r.front polls) s.begun ≤ℤ pos k
  early = max_by (last_finish (pos 0) r.front polls) s.begun (pos k) (last_by (pos 0) (pos k) r.front polls (omega (arith, ints)) r.rests.over) r.begun

  stays : (performed_after (pos 0) r.front longer ≡ performed_after (pos 0) r.front polls) × (last_finish (pos 0) r.front longer ≡ last_finish (pos 0) r.front polls)
  stays = over_stays (pos 0) (pos k) r.front polls ((pos (suc k), answer) ∷ []) r.rests.over

  heard : finish (int_max (last_finish (pos 0) r.front polls) s.begun) s.words longer ≡ cond (is_none_left (still_awaited left answer)) (Some (pos (suc k))) None
  heard =
      let late : int_le (pos (suc k)) (int_max (last_finish (pos 0) r.front polls) s.begun) ≡ false = le_false (pos (suc k)) (int_max (last_finish (pos 0) r.front polls) s.begun) (omega (arith, ints, early)) in
      finish-append (int_max (last_finish (pos 0) r.front polls) s.begun) s.words polls ((pos (suc k), answer) ∷ [])
      ∙ ap (λ o. or_else o (finish (int_max (last_finish (pos 0) r.front polls) s.begun) (left_after (int_max (last_finish (pos 0) r.front polls) s.begun) s.words polls) ((pos (suc k), answer) ∷ []))) r.unfinished
      ∙ ap (λ ws. finish (int_max (last_finish (pos 0) r.front polls) s.begun) ws ((pos (suc k), answer) ∷ [])) (sym r.left_is)
      ∙ (rw late refl)

  heard_now : finish (int_max (last_finish (pos 0) r.front longer) s.begun) s.words longer ≡ cond (is_none_left (still_awaited left answer)) (Some (pos (suc k))) None
  heard_now = ap (λ b. finish (int_max b s.begun) s.words longer) stays.1 ∙ heard

  rests_on : Rests r.front longer (pos (suc k))
  rests_on = record { over = subst (AllByRecursion (IsOver (pos (suc k)))) (sym stays.0) (over_weaker (pos k) (pos (suc k)) (performed_after (pos 0) r.front polls) (omega (arith, ints)) r.rests.over) }

  -- words are still awaited
  pub runs_on : still_awaited left answer ≢ [] → Runs ss longer (pos (suc k)) s (still_awaited left answer)
  runs_on some = record {
    front = r.front;
    is = r.is;
    rests = rests_on;
    begun = omega (arith, ints, r.begun);
    unfinished = heard_now ∙ ap (λ b. cond b (Some (pos (suc k))) None) (some_left (still_awaited left answer) some);
    left_is =
        let late : int_le (pos (suc k)) (int_max (last_finish (pos 0) r.front polls) s.begun) ≡ false = le_false (pos (suc k)) (int_max (last_finish (pos 0) r.front polls) s.begun) (omega (arith, ints, early)) in
        sym (ap (λ b. left_after (int_max b s.begun) s.words longer) stays.1
        ∙ left_after-append (int_max (last_finish (pos 0) r.front polls) s.begun) s.words polls ((pos (suc k), answer) ∷ [])
        ∙ (rw late (ap (λ ws. still_awaited ws answer) (sym r.left_is))));
    some = some;
  }
    where
      some_left : (ws : List WordId) → ws ≢ [] → is_none_left ws ≡ false
      some_left [] n = absurd (n refl)
      some_left (w ∷ ws) n = refl

  -- none is
  pub rests_now : still_awaited left answer ≡ [] → Rests ss longer (pos (suc k))
  rests_now none = record { over = subst (λ (l : List Script). AllByRecursion (IsOver (pos (suc k))) (performed_after (pos 0) l longer)) (sym r.is) (subst (AllByRecursion (IsOver (pos (suc k)))) (sym (performed-append (pos 0) r.front (s ∷ []) longer)) (each_both (IsOver (pos (suc k))) (performed_after (pos 0) r.front longer) _ rests_on.over (record { at = pos (suc k); is = heard_now ∙ ap (λ ws. cond (is_none_left ws) (Some (pos (suc k))) None) none; by = omega (arith, ints) }, tt))) }

  -- what is told
  told_front : told_by r.front longer ≡ told_by r.front polls
  told_front = ap (flat_map (λ (p : Performed). on_some p.finish (λ at. (p.script.point, at) ∷ []))) stays.0

  told_before : told_by ss polls ≡ told_by r.front polls
  told_before = ap (λ (l : List Script). told_by l polls) r.is ∙ told-push r.front s polls ∙ ap (λ o. told_by r.front polls ++ on_some o (λ at. (s.point, at) ∷ [])) r.unfinished ∙ append-nil _

  pub told_now : told_by ss longer ≡ told_by ss polls ++ cond (is_none_left (still_awaited left answer)) ((s.point, pos (suc k)) ∷ []) []
  told_now =
      ap (λ (l : List Script). told_by l longer) r.is ∙ told-push r.front s longer ∙ ap (λ o. told_by r.front longer ++ on_some o (λ at. (s.point, at) ∷ [])) heard_now
      ∙ ap (λ l. l ++ on_some {Y = ℕ × ℤ} (cond (is_none_left (still_awaited left answer)) (Some (pos (suc k))) None) (λ at. (s.point, at) ∷ [])) (told_front ∙ sym told_before)
      ∙ ap (λ l. told_by ss polls ++ l) (by_case (is_none_left (still_awaited left answer)))
    where
      by_case : (b : Bool) → on_some {Y = ℕ × ℤ} (cond b (Some (pos (suc k))) None) (λ at. (s.point, at) ∷ []) ≡ cond b ((s.point, pos (suc k)) ∷ []) []
      by_case true = refl
      by_case false = refl

  -- at a tick the script runs where it began before and isn't over by then
  run_then : (l : Polls) (t : ℤ) (o : Option ℤ) → performed_after (pos 0) r.front l ≡ performed_after (pos 0) r.front polls → finish (int_max (last_finish (pos 0) r.front l) s.begun) s.words l ≡ o → is_by t o ≡ true → runs_at ss l t ≡ (list_any (is_running t) (performed_after (pos 0) r.front polls) || int_lt s.begun t)
  run_then l t o same is by =
      ap (λ (q : List Script). runs_at q l t) r.is ∙ runs-push r.front s l t
      ∙ ap (λ ps. list_any (is_running t) ps || is_running t (record { script = s; finish = finish (int_max (last_finish (pos 0) r.front l) s.begun) s.words l })) same
      ∙ ap (λ u. list_any (is_running t) (performed_after (pos 0) r.front polls) || is_running t (record { script = s; finish = u })) is
      ∙ ap (λ b. list_any (is_running t) (performed_after (pos 0) r.front polls) || (int_lt s.begun t && b)) by
      ∙ ap (λ b. list_any (is_running t) (performed_after (pos 0) r.front polls) || b) (and_true (int_lt s.begun t))
    where
      and_true : (b : Bool) → (b && true) ≡ b
      and_true true = refl
      and_true false = refl

  by_now : (t : ℤ) (b : Bool) → t ≤ℤ pos (suc k) → is_by t (cond b (Some (pos (suc k))) None) ≡ true
  by_now t true le = le_true t (pos (suc k)) le
  by_now t false le = refl

  -- the device was asked at this tick
  pub asked_now : AskedTo k ss polls → AskedTo (suc k) ss longer
  asked_now asked =
      map-append (λ p. p.0) polls ((pos (suc k), answer) ∷ [])
      ∙ ap (λ l. l ++ pos (suc k) ∷ []) (asked ∙ ticks_same (runs_at ss polls) (runs_at ss longer) 1 k (λ j low high.
      run_then polls (pos j) None refl r.unfinished refl
      ∙ sym (run_then longer (pos j) (cond (is_none_left (still_awaited left answer)) (Some (pos (suc k))) None) stays.0 heard_now (by_now (pos j) (is_none_left (still_awaited left answer)) (omega (arith, ints, high))))))
      ∙ sym (asked_more (runs_at ss longer) k true here)
    where
      or_true : (b : Bool) → (b || true) ≡ true
      or_true true = refl
      or_true false = refl

      here : runs_at ss longer (pos (suc k)) ≡ true
      here =
          run_then longer (pos (suc k)) (cond (is_none_left (still_awaited left answer)) (Some (pos (suc k))) None) stays.0 heard_now (by_now (pos (suc k)) (is_none_left (still_awaited left answer)) (omega (arith, ints)))
          ∙ ap (λ b. list_any (is_running (pos (suc k))) (performed_after (pos 0) r.front polls) || b) (lt_true s.begun (pos (suc k)) (omega (arith, ints, r.begun)))
          ∙ or_true (list_any (is_running (pos (suc k))) (performed_after (pos 0) r.front polls))
