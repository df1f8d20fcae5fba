-- The words of a log tell its history.
use Rattle.std.proofs.Common.{◌≡◌, ℕ, ◌+◌, ◌≤◌, cond, List, [], ◌∷◌, ◌++◌, map, refl, sym, ap, ◌∙◌, subst, append_assoc, append-nil, arith, codes, inl, inr, ◌⊎◌}
use Rattle.std.proofs.lemmas.List.Elements.{filter_map-append}
use Rattle.std.specs.List.{cons_option}
use Rattle.std.specs.Fmt.{decimal}
use Rattle.hs_base.specs.declared.mission.Mission.{Mission}
use Rattle.hs_base.specs.declared.plan.Extension.{Extension}
use Rattle.hs_base.specs.Missions.{IsMission}
use Rattle.hs_base.specs.Walks.{EachAfter, join_after}
use Rattle.hs_machine.specs.declared.history.Deed.{Deed}
use Rattle.hs_machine.specs.declared.history.Deed.TheVariants.{Tick, Fire, Report, Handover, Stale, Late, Early, Broken}
use Rattle.hs_machine.specs.declared.history.Entry.{Entry}
use Rattle.hs_machine.specs.declared.history.Phase.{Phase}
use Rattle.hs_machine.specs.declared.history.Phase.TheVariants.{Waiting, Running, Failed, Ended}
use Rattle.hs_machine.specs.State.{hands_over, is_tick, ticks_of, now_of, plan_of, phase_of}
use Rattle.log_laws.specs.LogText.{phase_text, stop_text, entry_text, log_text}
use Rattle.run_laws.proofs.StateLemmas.{now_of-push, plan_kept}
use Rattle.base_laws.proofs.ListLemmas.{each_weaker}
use Rattle.text_laws.proofs.PlanPrintedLemmas.{HasPoint}
use Rattle.hs_base.specs.declared.plan.Time.{Time}
use Rattle.hs_base.specs.Points.{points_of}
use Rattle.journal_laws.proofs.WordLemmas.{Word, IsWord, words, then_end, decimal_word}
use Rattle.journal_laws.proofs.TextLemmas.{Words, time_words, deed_words, deed_then, IsSpelledBody, IsSpelledDeed}
use Rattle.journal_laws.proofs.PrefixLemmas.{head, tail, number_one, IsToldBody}
use Rattle.journal_laws.proofs.DeedLemmas.{ticks, other, IsToldDeed, kind_of, kind_by, kind_told, deed_one}

-- an entry that is told behind those before it
pub record IsToldEntry (m : Mission) (before : List Entry) (e : Entry) : Type 0 where
  pub now : now_of before ≤ 1000000000
  pub deed : IsToldDeed m (plan_of before) e.deed

-- the last line's words
abbrev pub stop_words : List Entry → Words
stop_words h = codes "stop" ∷ phase_text (phase_of h) ∷ time_words (now_of h) ([] ∷ [])

-- the words of entries behind those before them, and of the last line
abbrev pub rest_words : Mission → List Entry → List Entry → Words
rest_words m before [] = stop_words before
rest_words m before (e ∷ h) = deed_words m (now_of before) (plan_of before) e.deed (rest_words m (before ++ e ∷ []) h)

-- a deed is a tick or another one
tick_or : (d : Deed) → (d ≡ Tick) ⊎ (kind_of d ≡ ticks → ⊥)
tick_or Tick = inl refl
tick_or (Fire x) = inr (λ e. absurd cc)
tick_or (Report x) = inr (λ e. absurd cc)
tick_or (Handover x n) = inr (λ e. absurd cc)
tick_or (Stale x b p q) = inr (λ e. absurd cc)
tick_or (Late b) = inr (λ e. absurd cc)
tick_or (Early b) = inr (λ e. absurd cc)
tick_or (Broken v) = inr (λ e. absurd cc)

-- what an entry makes of the plan
plan_push : (h : List Entry) (e : Entry) → plan_of (h ++ e ∷ []) ≡ plan_of h ++ cons_option (hands_over e.deed) []
plan_push h e = filter_map-append (λ (x : Entry). hands_over x.deed) h (e ∷ [])

-- behind a tick
after_tick : (m : Mission) (before : List Entry) (e : Entry) (h : List Entry) → e.deed ≡ Tick → rest_words m before (e ∷ h) ≡ rest_words m (before ++ e ∷ []) h
after_tick m before e h is = ap (λ (d : Deed). deed_words m (now_of before) (plan_of before) d (rest_words m (before ++ e ∷ []) h)) is

tick_now : (before : List Entry) (e : Entry) → e.deed ≡ Tick → now_of (before ++ e ∷ []) ≡ now_of before + 1
tick_now before e is = now_of-push before e ∙ ap (λ (d : Deed). now_of before + cond (is_tick d) 1 0) is

tick_plan : (before : List Entry) (e : Entry) → e.deed ≡ Tick → plan_of (before ++ e ∷ []) ≡ plan_of before
tick_plan before e is = plan_kept before e (ap hands_over is)

-- no deed is of another kind
no_other : (d : Deed) → kind_of d ≡ other → ⊥
no_other Tick k = absurd cc
no_other (Fire y) k = absurd cc
no_other (Report y) k = absurd cc
no_other (Handover y n) k = absurd cc
no_other (Stale y b p q) k = absurd cc
no_other (Late b) k = absurd cc
no_other (Early b) k = absurd cc
no_other (Broken v) k = absurd cc

-- the last line is no deed's
stop_kind : (h : List Entry) → kind_by (stop_words h) ≡ other
stop_kind h = refl

-- what follows a last line's words is a last line, of that time, behind ticks alone
only_ticks : (m : Mission) (before h : List Entry) (now : ℕ) (front : Word) → now ≤ 1000000000 → EachAfter (IsToldEntry m) before h → now_of (before ++ h) ≤ 1000000000 → rest_words m before h ≡ codes "stop" ∷ front ∷ time_words now ([] ∷ []) → now_of before ≤ now
only_ticks m before [] now front few told all e =
    let last : now_of before ≤ 1000000000 = subst (λ (x : List Entry). now_of x ≤ 1000000000) (append-nil before) all in
    let one = number_one (now_of before) now last few (head (tail (tail (tail e)))) in
    omega (arith, one)
only_ticks m before (x ∷ h) now front few told all e = elim (tick_or x.deed) [
  | inl is ↦
      let later = only_ticks m (before ++ x ∷ []) h now front few told.1 (subst (λ (l : List Entry). now_of l ≤ 1000000000) (sym (append_assoc before (x ∷ []) h)) all) (sym (after_tick m before x h is) ∙ e) in
      omega (arith, later, tick_now before x is)
  | inr some ↦
      let kind : kind_of x.deed ≡ other = sym (kind_told m (now_of before) (plan_of before) x.deed (rest_words m (before ++ x ∷ []) h) told.0.deed some) ∙ ap kind_by e in
      absurd (no_other x.deed kind)
]

-- deeds behind a history that are told by one that isn't a tick come no earlier than now
comes_later : (m : Mission) (before h : List Entry) (now : ℕ) (d : Deed) (s : Words) → IsMission m → now ≤ 1000000000 → EachAfter (IsToldEntry m) before h → IsToldDeed m (plan_of before) d → (kind_of d ≡ ticks → ⊥) → rest_words m before h ≡ deed_words m now (plan_of before) d s → now_of before ≤ now
comes_later m before [] now d s i few told h some e =
    let kind : other ≡ kind_of d = ap kind_by e ∙ kind_told m now (plan_of before) d s h some in
    absurd (no_other d (sym kind))
comes_later m before (x ∷ l) now d s i few told h some e = elim (tick_or x.deed) [
  | inl is ↦
      let plan = tick_plan before x is in
      let there = subst (λ (es : List Extension). rest_words m (before ++ x ∷ []) l ≡ deed_words m now es d s) (sym plan) (sym (after_tick m before x l is) ∙ e) in
      let later = comes_later m (before ++ x ∷ []) l now d s i few told.1 (subst (λ (es : List Extension). IsToldDeed m es d) (sym plan) h) some there in
      omega (arith, later, tick_now before x is)
  | inr other_some ↦
      let one = deed_one m i (now_of before) now told.0.now few (plan_of before) x.deed d (rest_words m (before ++ x ∷ []) l) s told.0.deed h other_some some e in
      omega (arith, one.0)
]

-- two histories with one rest, behind histories of one plan and one time
module _ (m : Mission) (i : IsMission m) where
  ends_first : (b c : List Entry) (y : Entry) (g : List Entry) → now_of b ≡ now_of c → now_of b ≤ 1000000000 → EachAfter (IsToldEntry m) c (y ∷ g) → now_of (c ++ y ∷ g) ≤ 1000000000 → stop_words b ≡ rest_words m c (y ∷ g) → ⊥
  ends_first b c y g now few told all e = elim (tick_or y.deed) [
    | inl is ↦
        let later = only_ticks m (c ++ y ∷ []) g (now_of b) (phase_text (phase_of b)) few told.1 (subst (λ (l : List Entry). now_of l ≤ 1000000000) (sym (append_assoc c (y ∷ []) g)) all) (sym (after_tick m c y g is) ∙ sym e) in
        omega (arith, later, tick_now c y is, now)
    | inr some ↦
        let kind : other ≡ kind_of y.deed = ap kind_by e ∙ kind_told m (now_of c) (plan_of c) y.deed (rest_words m (c ++ y ∷ []) g) told.0.deed some in
        no_other y.deed (sym kind)
  ]

  ticks_first : (b c : List Entry) (x y : Entry) (h g : List Entry) → plan_of b ≡ plan_of c → now_of b ≡ now_of c → EachAfter (IsToldEntry m) b (x ∷ h) → EachAfter (IsToldEntry m) c (y ∷ g) → x.deed ≡ Tick → (kind_of y.deed ≡ ticks → ⊥) → rest_words m b (x ∷ h) ≡ rest_words m c (y ∷ g) → ⊥
  ticks_first b c x y h g plan now told told2 is some e =
      let rest = rest_words m (c ++ y ∷ []) g in
      let more : plan_of (b ++ x ∷ []) ≡ plan_of c = tick_plan b x is ∙ plan in
      let there = subst (λ (es : List Extension). rest_words m (b ++ x ∷ []) h ≡ deed_words m (now_of c) es y.deed rest) (sym more) (sym (after_tick m b x h is) ∙ e) in
      let later = comes_later m (b ++ x ∷ []) h (now_of c) y.deed rest i told2.0.now told.1 (subst (λ (es : List Extension). IsToldDeed m es y.deed) (sym more) told2.0.deed) some there in
      omega (arith, later, tick_now b x is, now)

  same_deed : (x y : Entry) (h g : List Entry) → x.deed ≡ y.deed → map (λ (e : Entry). e.deed) h ≡ map (λ (e : Entry). e.deed) g → map (λ (e : Entry). e.deed) (x ∷ h) ≡ map (λ (e : Entry). e.deed) (y ∷ g)
  same_deed x y h g first later = ap (λ (d : Deed). d ∷ map (λ (e : Entry). e.deed) h) first ∙ ap (λ (l : List Deed). y.deed ∷ l) later

  pub same_deeds : (b c h g : List Entry) → plan_of b ≡ plan_of c → now_of b ≡ now_of c → EachAfter (IsToldEntry m) b h → EachAfter (IsToldEntry m) c g → now_of (b ++ h) ≤ 1000000000 → now_of (c ++ g) ≤ 1000000000 → rest_words m b h ≡ rest_words m c g → map (λ (e : Entry). e.deed) h ≡ map (λ (e : Entry). e.deed) g
  same_deeds b c [] [] plan now told told2 all all2 e = refl
  same_deeds b c [] (y ∷ g) plan now told told2 all all2 e =
      absurd (ends_first b c y g now (subst (λ (l : List Entry). now_of l ≤ 1000000000) (append-nil b) all) told2 all2 e)
  same_deeds b c (x ∷ h) [] plan now told told2 all all2 e =
      absurd (ends_first c b x h (sym now) (subst (λ (l : List Entry). now_of l ≤ 1000000000) (append-nil c) all2) told all (sym e))
  same_deeds b c (x ∷ h) (y ∷ g) plan now told told2 all all2 e =
      let all_on = subst (λ (l : List Entry). now_of l ≤ 1000000000) (sym (append_assoc b (x ∷ []) h)) all in
      let all2_on = subst (λ (l : List Entry). now_of l ≤ 1000000000) (sym (append_assoc c (y ∷ []) g)) all2 in
      let on : (first : x.deed ≡ y.deed) → rest_words m (b ++ x ∷ []) h ≡ rest_words m (c ++ y ∷ []) g → map (λ (z : Entry). z.deed) (x ∷ h) ≡ map (λ (z : Entry). z.deed) (y ∷ g) =
      λ first rest. same_deed x y h g first (same_deeds (b ++ x ∷ []) (c ++ y ∷ []) h g (plan_behind b c x y plan first) (now_behind b c x y now first) told.1 told2.1 all_on all2_on rest) in
      elim (tick_or x.deed) [
        | inl is ↦ elim (tick_or y.deed) [
          | inl is2 ↦ on (is ∙ sym is2) (sym (after_tick m b x h is) ∙ e ∙ after_tick m c y g is2)
          | inr some2 ↦ absurd (ticks_first b c x y h g plan now told told2 is some2 e)
        ]
        | inr some ↦ elim (tick_or y.deed) [
          | inl is2 ↦ absurd (ticks_first c b y x g h (sym plan) (sym now) told2 told is2 some (sym e))
          | inr some2 ↦
              let there = subst (λ (es : List Extension). deed_words m (now_of b) es x.deed (rest_words m (b ++ x ∷ []) h) ≡ rest_words m c (y ∷ g)) plan e in
              let one = deed_one m i (now_of b) (now_of c) told.0.now told2.0.now (plan_of c) x.deed y.deed (rest_words m (b ++ x ∷ []) h) (rest_words m (c ++ y ∷ []) g)
              (subst (λ (es : List Extension). IsToldDeed m es x.deed) plan told.0.deed) told2.0.deed some some2 there in
              on one.1 one.2
        ]
      ]
    where
      plan_behind : (b c : List Entry) (x y : Entry) → plan_of b ≡ plan_of c → x.deed ≡ y.deed → plan_of (b ++ x ∷ []) ≡ plan_of (c ++ y ∷ [])
      plan_behind b c x y plan first =
          plan_push b x ∙ ap (λ (es : List Extension). es ++ cons_option (hands_over x.deed) []) plan
          ∙ ap (λ (d : Deed). plan_of c ++ cons_option (hands_over d) []) first ∙ sym (plan_push c y)

      now_behind : (b c : List Entry) (x y : Entry) → now_of b ≡ now_of c → x.deed ≡ y.deed → now_of (b ++ x ∷ []) ≡ now_of (c ++ y ∷ [])
      now_behind b c x y now first =
          now_of-push b x ∙ ap (λ n. n + ticks_of x) now ∙ ap (λ (d : Deed). now_of c + cond (is_tick d) 1 0) first ∙ sym (now_of-push c y)

-- The words of a log's text.

told_body : (m : Mission) (es : List Extension) (e : Extension) → IsToldBody m es e → IsSpelledBody m (points_of es) e
told_body m es e h = record { fixed = each_weaker _ (λ (t : Time). HasPoint m (points_of es) t.point.0) (λ t p. p.0) e.fixed h.fixed; tokens = h.tokens; supports = h.supports; goals = h.goals }

told_spelled : (m : Mission) (es : List Extension) (d : Deed) → IsToldDeed m es d → IsSpelledDeed m es d
told_spelled m es Tick h = tt
told_spelled m es (Fire x) h = h
told_spelled m es (Report x) h = h
told_spelled m es (Handover e n) h = told_body m es e h.0.body
told_spelled m es (Stale e b p q) h = (told_body m es e h.0.body, record { from = h.1.from; to = h.1.to })
told_spelled m es (Late b) h = record { from = h.from; to = h.to }
told_spelled m es (Early b) h = record { from = h.from; to = h.to }
told_spelled m es (Broken v) h = h

phase_word : (p : Phase) → IsWord (phase_text p)
phase_word Waiting = search
phase_word Running = search
phase_word Failed = search
phase_word Ended = search

stop_parts : (p now : List ℕ) → (p ++ (codes " at " ++ now)) ++ codes "\n" ≡ p ++ 32 ∷ (codes "at " ++ (now ++ 10 ∷ []))
stop_parts p now = simp append_assoc

stop_then : (p : Phase) (now : ℕ) → words (stop_text p now) ≡ codes "stop" ∷ phase_text p ∷ time_words now ([] ∷ [])
stop_then p now =
    ap (λ (l : List ℕ). codes "stop" ∷ words l) (stop_parts (phase_text p) (decimal now))
    ∙ ap (λ (l : Words). codes "stop" ∷ l) (then_end (phase_text p) 32 (codes "at " ++ (decimal now ++ 10 ∷ [])) (phase_word p) refl
    ∙ ap (λ (l : Words). phase_text p ∷ codes "at" ∷ l) (then_end (decimal now) 10 [] (decimal_word now) refl))

abbrev last_line : List Entry → List ℕ
last_line h = stop_text (phase_of h) (now_of h)

rest_then : (m : Mission) (before h : List Entry) → IsMission m → EachAfter (IsToldEntry m) before h → words (join_after (entry_text m) before h ++ last_line (before ++ h)) ≡ rest_words m before h
rest_then m before [] i told = ap (λ (l : List Entry). words (last_line l)) (append-nil before) ∙ stop_then (phase_of before) (now_of before)
rest_then m before (e ∷ h) i told =
    let more = before ++ e ∷ [] in
    let later = join_after (entry_text m) more h ++ last_line (before ++ e ∷ h) in
    let same : before ++ e ∷ h ≡ more ++ h = sym (append_assoc before (e ∷ []) h) in
    ap words (append_assoc (entry_text m before e) (join_after (entry_text m) more h) (last_line (before ++ e ∷ h)))
    ∙ deed_then m (now_of before) (plan_of before) e.deed later i (told_spelled m (plan_of before) e.deed told.0.deed)
    ∙ ap (deed_words m (now_of before) (plan_of before) e.deed) (ap (λ (l : List Entry). words (join_after (entry_text m) more h ++ last_line l)) same ∙ rest_then m more h i told.1)

-- a history that is told
pub record IsTold (m : Mission) (h : List Entry) : Type 0 where
  pub mission : IsMission m
  pub now : now_of h ≤ 1000000000
  pub each : EachAfter (IsToldEntry m) [] h

log_then : (m : Mission) (h : List Entry) → IsTold m h → words (log_text m h) ≡ codes "hsts" ∷ codes "log" ∷ codes "1" ∷ rest_words m [] h
log_then m h t = ap (λ (l : Words). codes "hsts" ∷ codes "log" ∷ codes "1" ∷ l) (rest_then m [] h t.mission t.each)

-- two such histories with one log have the same deeds
pub one_log : (m : Mission) (h g : List Entry) → IsTold m h → IsTold m g → log_text m h ≡ log_text m g → map (λ (e : Entry). e.deed) h ≡ map (λ (e : Entry). e.deed) g
one_log m h g t u e =
    same_deeds m t.mission [] [] h g refl refl t.each u.each t.now u.now (tail (tail (tail (sym (log_then m h t) ∙ ap words e ∙ log_then m g u))))
