-- How the scripts of a device change with an entry of the history.
use Rattle.std.proofs.Common.{◌≡◌, ℕ, zero, suc, ◌+◌, ◌<◌, ◌≤◌, cond, nat_eq, List, [], ◌∷◌, ◌++◌, length, take, drop, Option, Some, None, refl, sym, ap, ◌∙◌, arith, inl, inr, append_assoc, append-nil, length-append}
use Rattle.std.proofs.lemmas.Bool.{cases_Bool, cases_lt, eqb-true, eq-eqb}
use Rattle.std.proofs.lemmas.List.{length-drop, length-take-le}
use Rattle.std.proofs.lemmas.Option.{slice_get_within}
use Rattle.std.specs.Prelude.{ℤ, slice_get}
use Rattle.hs_base.specs.declared.mission.Kind.{Kind}
use Rattle.hs_base.specs.declared.mission.Mission.{Mission}
use Rattle.hs_base.specs.declared.mission.Value.{Value}
use Rattle.hs_base.specs.declared.plan.Extension.{Extension}
use Rattle.hs_machine.specs.declared.history.Entry.{Entry}
use Rattle.hs_base.specs.Bounds.{on_some}
use Rattle.hs_base.specs.Fits.{Times, put}
use Rattle.hs_base.specs.Points.{origin, ending, place_of, points_of, start_at, tokens_of, timeline_of, value_of}
use Rattle.hs_machine.specs.State.{plan_of, executed}
use Rattle.hs_machine.specs.Reports.{Script, awaited, script_of, scripts_from, scripts_of}
use Rattle.base_laws.proofs.ListLemmas.{slice_get-split}
use Rattle.base_laws.proofs.PointLemmas.{ending_kept, start_kept, tokens-push, timeline-append}
use Rattle.search_tree.proofs.NameLemmas.{named_at, ending_same}
use Rattle.simulation_laws.specs.Reported.{timeline_in}

-- the script of the token at place i of timeline d, by the plan and the executed times
abbrev pub script_at : Mission → List Extension → Times → ℕ → ℕ → Kind → List Script
script_at m es at d i k = on_some (value_of m k) (λ (v : Value). cond v.by_device
    (on_some (at (start_at es d i)) (λ t. record { point = place_of (ending d i) (points_of es); begun = t; words = awaited v.script } ∷ []))
    [])

-- those of the tokens from place i on
abbrev pub scripts_at : Mission → List Extension → Times → ℕ → ℕ → List Kind → List Script
scripts_at m es at d i [] = []
scripts_at m es at d i (k ∷ ks) = script_at m es at d i k ++ scripts_at m es at d (suc i) ks

-- the starts of two places of a timeline are two points
starts_differ_in : (es : List Extension) (d i j : ℕ) → i < j → j < length (timeline_in es d) → start_at es d i ≡ start_at es d j → ⊥
starts_differ_in es d zero (suc j) less below e =
    let there : Some origin ≡ Some (ending d j) = ap (λ (x : ℕ). slice_get (points_of es) x) e ∙ named_at es d j (omega (arith, below)) in
    no_origin there
  where
    no_origin : Some origin ≡ Some (ending d j) → ⊥
    no_origin h = cc
starts_differ_in es d (suc i) (suc j) less below e =
    let same : Some (ending d i) ≡ Some (ending d j) = sym (named_at es d i (omega (arith, less, below))) ∙ ap (λ (x : ℕ). slice_get (points_of es) x) e ∙ named_at es d j (omega (arith, below)) in
    absurd (omega (arith, less, (ending_same d i d j same).1))
starts_differ_in es d i zero less below e = absurd (omega (arith, less))

-- the definition by the plan and the executed times
pub scripts_are : (m : Mission) (h : List Entry) (d : ℕ) → scripts_of m h d ≡ scripts_at m (plan_of h) (executed h) d 0 (timeline_in (plan_of h) d)
scripts_are m h d = walk 0 (timeline_in (plan_of h) d)
  where
    walk : (i : ℕ) (ks : List Kind) → scripts_from m h d i ks ≡ scripts_at m (plan_of h) (executed h) d i ks
    walk i [] = refl
    walk i (k ∷ ks) = ap (λ l. script_of m h d i k ++ l) (walk (suc i) ks)

module _ (m : Mission) (d : ℕ) where
  scripts-append : (es : List Extension) (at : Times) (i : ℕ) (xs ys : List Kind) → scripts_at m es at d i (xs ++ ys) ≡ scripts_at m es at d i xs ++ scripts_at m es at d (i + length xs) ys
  scripts-append es at i [] ys = let e : i ≡ i + 0 = omega arith in ap (λ n. scripts_at m es at d n ys) e
  scripts-append es at i (k ∷ xs) ys =
      let e : suc i + length xs ≡ i + suc (length xs) = omega arith in
      ap (λ l. script_at m es at d i k ++ l) (scripts-append es at (suc i) xs ys ∙ ap (λ n. scripts_at m es at d (suc i) xs ++ scripts_at m es at d n ys) e)
      ∙ sym (append_assoc (script_at m es at d i k) (scripts_at m es at d (suc i) xs) (scripts_at m es at d (i + suc (length xs)) ys))

  -- the same starts and ends give the same scripts
  script_same : (es fs : List Extension) (at to : Times) (i : ℕ) (k : Kind) → at (start_at es d i) ≡ to (start_at fs d i) → place_of (ending d i) (points_of es) ≡ place_of (ending d i) (points_of fs) → script_at m es at d i k ≡ script_at m fs to d i k
  script_same es fs at to i k start end =
      ap (λ (o : Option ℤ). on_some (value_of m k) (λ (v : Value). cond v.by_device (on_some o (λ t. record { point = place_of (ending d i) (points_of es); begun = t; words = awaited v.script } ∷ [])) [])) start
      ∙ ap (λ (x : ℕ). on_some (value_of m k) (λ (v : Value). cond v.by_device (on_some (to (start_at fs d i)) (λ t. record { point = x; begun = t; words = awaited v.script } ∷ [])) [])) end

  scripts_same : (es fs : List Extension) (at to : Times) (i : ℕ) (ks : List Kind) → ((j : ℕ) → i ≤ j → j < i + length ks → at (start_at es d j) ≡ to (start_at fs d j)) → ((j : ℕ) → i ≤ j → j < i + length ks → place_of (ending d j) (points_of es) ≡ place_of (ending d j) (points_of fs)) → scripts_at m es at d i ks ≡ scripts_at m fs to d i ks
  scripts_same es fs at to i [] starts ends = refl
  scripts_same es fs at to i (k ∷ ks) starts ends =
      ap (λ l. l ++ scripts_at m es at d (suc i) ks) (script_same es fs at to i k (starts i (omega arith) (omega arith)) (ends i (omega arith) (omega arith)))
      ∙ ap (λ l. script_at m fs to d i k ++ l) (scripts_same es fs at to (suc i) ks (λ j low high. starts j (omega (arith, low)) (omega (arith, high))) (λ j low high. ends j (omega (arith, low)) (omega (arith, high))))

  -- where no start is executed nothing has begun
  pub script_none : (es : List Extension) (at : Times) (i : ℕ) (k : Kind) → at (start_at es d i) ≡ None → script_at m es at d i k ≡ []
  script_none es at i k none =
      ap (λ (o : Option ℤ). on_some (value_of m k) (λ (v : Value). cond v.by_device (on_some o (λ t. record { point = place_of (ending d i) (points_of es); begun = t; words = awaited v.script } ∷ [])) [])) none
      ∙ by_value (value_of m k)
    where
      by_value : (o : Option Value) → on_some o (λ (v : Value). cond v.by_device (on_some {Y = Script} None (λ t. record { point = place_of (ending d i) (points_of es); begun = t; words = awaited v.script } ∷ [])) []) ≡ []
      by_value None = refl
      by_value (Some v) = elim (cases_Bool v.by_device) [ inl by ↦ rw by refl | inr own ↦ rw own refl ]

  pub scripts_none : (es : List Extension) (at : Times) (i : ℕ) (ks : List Kind) → ((j : ℕ) → i ≤ j → j < i + length ks → at (start_at es d j) ≡ None) → scripts_at m es at d i ks ≡ []
  scripts_none es at i [] none = refl
  scripts_none es at i (k ∷ ks) none =
      ap (λ l. l ++ scripts_at m es at d (suc i) ks) (script_none es at i k (none i (omega arith) (omega arith)))
      ∙ scripts_none es at (suc i) ks (λ j low high. none j (omega (arith, low)) (omega (arith, high)))

  -- Of the tokens' starts those before place q are executed, and no other one.
  pub record BegunTo (es : List Extension) (at : Times) (q : ℕ) : Type 0 where
    pub before : (j : ℕ) → j < q → (t : ℤ) × (at (start_at es d j) ≡ Some t)
    pub behind : (j : ℕ) → q ≤ j → j < length (timeline_in es d) → at (start_at es d j) ≡ None

  -- the start of the token at place q is executed now: its script is the last
  module _ (es : List Extension) (at : Times) (q : ℕ) (n : ℤ) (k : Kind) (is : slice_get (timeline_in es d) q ≡ Some k) (b : BegunTo es at q) where
    x : ℕ
    x = start_at es d q

    others : (j : ℕ) → (start_at es d j ≡ start_at es d q → ⊥) → put at (start_at es d q) n (start_at es d j) ≡ at (start_at es d j)
    others j apart = elim (cases_Bool (nat_eq (start_at es d j) (start_at es d q))) [
      | inl same ↦ absurd (apart (eqb-true _ _ same))
      | inr other ↦ rw other refl
    ]

    -- starts of other places are other points
    earlier : (j : ℕ) → j < q → start_at es d j ≡ start_at es d q → ⊥
    earlier j less same =
        let t = b.before j less in
        let none = b.behind q (omega arith) (slice_get_within (timeline_in es d) q k is) in
        let f : Some t.0 ≡ None = sym t.1 ∙ ap at same ∙ none in cc

    later : (j : ℕ) → q < j → j < length (timeline_in es d) → start_at es d j ≡ start_at es d q → ⊥
    later j less below same = starts_differ_in es d q j less below (sym same)

    abbrev to : Times
    to = put at (start_at es d q) n

    front_size : length (take q (timeline_in es d)) ≡ q
    front_size = length-take-le q (timeline_in es d) (omega (arith, slice_get_within (timeline_in es d) q k is))

    back_size : suc q + length (drop (suc q) (timeline_in es d)) ≡ length (timeline_in es d)
    back_size = omega (arith, length-drop (suc q) (timeline_in es d), slice_get_within (timeline_in es d) q k is)

    front_same : scripts_at m es to d 0 (take q (timeline_in es d)) ≡ scripts_at m es at d 0 (take q (timeline_in es d))
    front_same = scripts_same es es to at 0 (take q (timeline_in es d)) (λ j low high. others j (earlier j (omega (arith, high, front_size)))) (λ j low high. refl)

    back_now : scripts_at m es to d (suc q) (drop (suc q) (timeline_in es d)) ≡ []
    back_now = scripts_none es to (suc q) (drop (suc q) (timeline_in es d)) (λ j low high. let inside : j < length (timeline_in es d) = omega (arith, high, back_size) in others j (later j (omega (arith, low)) inside) ∙ b.behind j (omega (arith, low)) inside)

    back_before : scripts_at m es at d q (k ∷ drop (suc q) (timeline_in es d)) ≡ []
    back_before = scripts_none es at q (k ∷ drop (suc q) (timeline_in es d)) (λ j low high. b.behind j low (omega (arith, high, back_size)))

    parts : (u : Times) → scripts_at m es u d 0 (timeline_in es d) ≡ scripts_at m es u d 0 (take q (timeline_in es d)) ++ scripts_at m es u d q (k ∷ drop (suc q) (timeline_in es d))
    parts u =
        ap (scripts_at m es u d 0) (slice_get-split (timeline_in es d) q k is)
        ∙ scripts-append es u 0 (take q (timeline_in es d)) (k ∷ drop (suc q) (timeline_in es d))
        ∙ (let at_q : 0 + length (take q (timeline_in es d)) ≡ q = omega (arith, front_size) in ap (λ i. scripts_at m es u d 0 (take q (timeline_in es d)) ++ scripts_at m es u d i (k ∷ drop (suc q) (timeline_in es d))) at_q)

    pub begun_now : scripts_at m es to d 0 (timeline_in es d) ≡ scripts_at m es at d 0 (timeline_in es d) ++ script_at m es to d q k
    begun_now =
        parts to
        ∙ ap (λ l. l ++ scripts_at m es to d q (k ∷ drop (suc q) (timeline_in es d))) front_same
        ∙ ap (λ l. scripts_at m es at d 0 (take q (timeline_in es d)) ++ (script_at m es to d q k ++ l)) back_now
        ∙ ap (λ l. scripts_at m es at d 0 (take q (timeline_in es d)) ++ l) (append-nil (script_at m es to d q k))
        ∙ ap (λ l. l ++ script_at m es to d q k) (sym (parts at ∙ ap (λ l. scripts_at m es at d 0 (take q (timeline_in es d)) ++ l) back_before ∙ append-nil _))

    -- and one more is executed
    pub begun_to : BegunTo es to (suc q)
    begun_to = record {
      before = λ j less. elim (cases_lt j q) [
        | inl old ↦ let t = b.before j old in (t.0, others j (earlier j old) ∙ t.1)
        | inr here ↦ let same : j ≡ q = omega (arith, less, here) in (n, ap (λ i. to (start_at es d i)) same ∙ put_here)
      ];
      behind = λ j low inside. others j (later j (omega (arith, low)) inside) ∙ b.behind j (omega (arith, low)) inside;
    }
      where
        put_here : put at (start_at es d q) n (start_at es d q) ≡ Some n
        put_here = rw (eq-eqb (start_at es d q) (start_at es d q) refl) refl

  -- where those up to place q are executed, the script of the token there is the last
  module _ (es : List Extension) (at : Times) (q : ℕ) (k : Kind) (is : slice_get (timeline_in es d) q ≡ Some k) (b : BegunTo es at (suc q)) where
    pub current_last : scripts_at m es at d 0 (timeline_in es d) ≡ scripts_at m es at d 0 (take q (timeline_in es d)) ++ script_at m es at d q k
    current_last =
        let inside = slice_get_within (timeline_in es d) q k is in
        let front_size : length (take q (timeline_in es d)) ≡ q = length-take-le q (timeline_in es d) (omega (arith, inside)) in
        let back_size : suc q + length (drop (suc q) (timeline_in es d)) ≡ length (timeline_in es d) = omega (arith, length-drop (suc q) (timeline_in es d), inside) in
        let at_q : 0 + length (take q (timeline_in es d)) ≡ q = omega (arith, front_size) in
        ap (scripts_at m es at d 0) (slice_get-split (timeline_in es d) q k is)
        ∙ scripts-append es at 0 (take q (timeline_in es d)) (k ∷ drop (suc q) (timeline_in es d))
        ∙ ap (λ i. scripts_at m es at d 0 (take q (timeline_in es d)) ++ scripts_at m es at d i (k ∷ drop (suc q) (timeline_in es d))) at_q
        ∙ ap (λ l. scripts_at m es at d 0 (take q (timeline_in es d)) ++ (script_at m es at d q k ++ l)) (scripts_none es at (suc q) (drop (suc q) (timeline_in es d)) (λ j low high. b.behind j low (omega (arith, high, back_size))))
        ∙ ap (λ l. scripts_at m es at d 0 (take q (timeline_in es d)) ++ l) (append-nil (script_at m es at d q k))

  -- a point that starts no token of the timeline changes nothing
  pub begun_same : (es : List Extension) (at : Times) (y : ℕ) (n : ℤ) → ((j : ℕ) → j < length (timeline_in es d) → start_at es d j ≡ y → ⊥) → scripts_at m es (put at y n) d 0 (timeline_in es d) ≡ scripts_at m es at d 0 (timeline_in es d)
  begun_same es at y n apart = scripts_same es es (put at y n) at 0 (timeline_in es d) (λ j low high. elim (cases_Bool (nat_eq (start_at es d j) y)) [
    | inl same ↦ absurd (apart j (omega (arith, high)) (eqb-true _ _ same))
    | inr other ↦ rw other refl
  ]) (λ j low high. refl)

  -- a later extension, before which no start of its tokens is executed
  pub begun_handed : (es : List Extension) (e : Extension) (at : Times) → ((j : ℕ) → length (timeline_in es d) ≤ j → j < length (timeline_in (es ++ e ∷ []) d) → at (start_at (es ++ e ∷ []) d j) ≡ None) → scripts_at m (es ++ e ∷ []) at d 0 (timeline_in (es ++ e ∷ []) d) ≡ scripts_at m es at d 0 (timeline_in es d)
  begun_handed es e at new =
      let line = timeline_in es d in
      let more = timeline_of e.tokens d in
      let whole : timeline_in (es ++ e ∷ []) d ≡ line ++ more = ap (λ (l : List Kind). timeline_of l d) (tokens-push es e) ∙ timeline-append (tokens_of es) e.tokens d in
      let size = ap length whole ∙ length-append line more in
      ap (scripts_at m (es ++ e ∷ []) at d 0) whole
      ∙ scripts-append (es ++ e ∷ []) at 0 line more
      ∙ ap (λ l. l ++ scripts_at m (es ++ e ∷ []) at d (0 + length line) more) (scripts_same (es ++ e ∷ []) es at at 0 line (λ j low high. ap at (start_kept es e d j (omega (arith, high)))) (λ j low high. ending_kept es e d j (omega (arith, high))))
      ∙ ap (λ l. scripts_at m es at d 0 line ++ l) (scripts_none (es ++ e ∷ []) at (0 + length line) more (λ j low high. new j (omega (arith, low)) (omega (arith, high, size))))
      ∙ append-nil _
