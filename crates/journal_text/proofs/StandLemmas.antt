-- The state after one more entry.
use Rattle.std.proofs.Common.{◌≡◌, ℕ, ◌+◌, ◌≤◌, ◌<◌, ◌^◌, take, drop, Bool, true, false, cond, List, [], ◌∷◌, ◌++◌, length, filter_map, Option, Some, None, option_to_list, refl, sym, ap, ◌∙◌, arith}
use Rattle.std.specs.List.{cons_option}
use Rattle.std.proofs.lemmas.Grind.{flat_map-append}
use Rattle.std.proofs.lemmas.List.{append-nil, length-append, take-append-drop}
use Rattle.std.proofs.lemmas.List.Elements.{filter_map-append}
use Rattle.hs_base.specs.declared.ids.PointId.{PointId}
use Rattle.hs_base.specs.declared.plan.Extension.{Extension}
use Rattle.hs_base.specs.declared.net.Net.{Net}
use Rattle.hs_machine.specs.declared.history.Deed.{Deed}
use Rattle.hs_machine.specs.declared.history.Deed.TheVariants.{Tick, Fire, Report, Handover, Stale, Late, Early, Broken}
use Rattle.hs_machine.specs.declared.history.Entry.{Entry}
use Rattle.hs_base.specs.Points.{tokens_of, hor, count}
use Rattle.hs_machine.specs.State.{is_tick, hands_over, ticks_of, now_of, plan_of}
use Rattle.base_laws.proofs.PointLemmas.{count_is, count-push}
use Rattle.plan_index.specs.Contents.{Contents, contents_of}
use Rattle.journal_text.specs.Stands.{newest_horizon, StandsAt}

pub now_of-push : (h : List Entry) (e : Entry) → now_of (h ++ e ∷ []) ≡ now_of h + ticks_of e
now_of-push [] e = omega arith
now_of-push (x ∷ h) e = omega (arith, now_of-push h e)

cons_option-nil : {X : Type 0} (o : Option X) → cons_option o [] ≡ option_to_list o
cons_option-nil None = refl
cons_option-nil (Some x) = refl

pub plan_of-push : (h : List Entry) (e : Entry) → plan_of (h ++ e ∷ []) ≡ plan_of h ++ option_to_list (hands_over e.deed)
plan_of-push h e =
    let handed = λ (x : Entry). hands_over x.deed in
    filter_map-append handed h (e ∷ []) ∙ ap (λ es. filter_map handed h ++ es) (cons_option-nil (hands_over e.deed))

-- the newest horizon by the number of horizons
pub newest_none : (es : List Extension) (n : ℕ) → n ≡ length es → n ≡ 0 → None ≡ newest_horizon es
newest_none [] n many none = refl
newest_none (x ∷ es) n many none = absurd (omega (arith, many, none))

pub newest_some : (es : List Extension) (n : ℕ) (p : PointId) → n ≡ length es → (n ≡ 0 → ⊥) → p.0 ≡ hor es n → Some p ≡ newest_horizon es
newest_some [] n p many some at = absurd (some many)
newest_some (x ∷ es) n p many some at = ap (λ k. Some (record { 0 = k })) (at ∙ ap (hor (x ∷ es)) many)

pub stands-tick : (t : ℕ) (c : Contents) (h : List Entry) (e : Entry) → StandsAt t c h → e.deed ≡ Tick → StandsAt (t + 1) c (h ++ e ∷ [])
stands-tick t c h e s is =
    let plan : plan_of (h ++ e ∷ []) ≡ plan_of h = plan_of-push h e ∙ ap (λ d. plan_of h ++ option_to_list (hands_over d)) is ∙ append-nil (plan_of h) in
    record {
      tick_is = ap (λ k. k + 1) s.tick_is ∙ sym (now_of-push h e ∙ ap (λ d. now_of h + cond (is_tick d) 1 0) is);
      index_is = s.index_is ∙ ap contents_of (sym plan);
    }

pub stands-handover : (t : ℕ) (c d : Contents) (h : List Entry) (e : Entry) (x : Extension) (net : Net) → StandsAt t c h → e.deed ≡ Handover x net → d ≡ contents_of (plan_of h ++ x ∷ []) → StandsAt t d (h ++ e ∷ [])
stands-handover t c d h e x net s is grown =
    let plan : plan_of (h ++ e ∷ []) ≡ plan_of h ++ x ∷ [] = plan_of-push h e ∙ ap (λ d. plan_of h ++ option_to_list (hands_over d)) is in
    record {
      tick_is = s.tick_is ∙ sym (now_of-push h e ∙ ap (λ d. now_of h + cond (is_tick d) 1 0) is ∙ omega arith);
      index_is = grown ∙ ap contents_of (sym plan);
    }

-- neither a tick nor a handover
record IsOther (d : Deed) : Type 0 where
  tick : is_tick d ≡ false
  extension : hands_over d ≡ None

is_other : (d : Deed) → (d ≡ Tick → ⊥) → ((x : Extension) (net : Net) → d ≡ Handover x net → ⊥) → IsOther d
is_other Tick t n = absurd (t refl)
is_other (Fire x) t n = record { tick = refl; extension = refl }
is_other (Report x) t n = record { tick = refl; extension = refl }
is_other (Handover x net) t n = absurd (n x net refl)
is_other (Stale x b from to) t n = record { tick = refl; extension = refl }
is_other (Late b) t n = record { tick = refl; extension = refl }
is_other (Early b) t n = record { tick = refl; extension = refl }
is_other (Broken d) t n = record { tick = refl; extension = refl }

pub stands-other : (t : ℕ) (c : Contents) (h : List Entry) (e : Entry) → StandsAt t c h → (e.deed ≡ Tick → ⊥) → ((x : Extension) (net : Net) → e.deed ≡ Handover x net → ⊥) → StandsAt t c (h ++ e ∷ [])
stands-other t c h e s no_tick no_handover =
    let other = is_other e.deed no_tick no_handover in
    let plan : plan_of (h ++ e ∷ []) ≡ plan_of h = plan_of-push h e ∙ ap (λ o. plan_of h ++ option_to_list o) other.extension ∙ append-nil (plan_of h) in
    record {
      tick_is = s.tick_is ∙ sym (now_of-push h e ∙ ap (λ b. now_of h + cond b 1 0) other.tick ∙ omega arith);
      index_is = s.index_is ∙ ap contents_of (sym plan);
    }

-- each tick is an entry
pub now_of-le : (h : List Entry) → now_of h ≤ length h
now_of-le [] = omega arith
now_of-le (e ∷ h) = omega (arith, now_of-le h, one (is_tick e.deed))
  where
    one : (b : Bool) → cond b 1 0 ≤ 1
    one true = omega arith
    one false = omega arith

count-front : (es xs : List Extension) → count es ≤ count (es ++ xs)
count-front es xs =
    omega (arith, count_is es, count_is (es ++ xs), length-append es xs, ap length (flat_map-append (λ (x : Extension). x.tokens) es xs), length-append (tokens_of es) (tokens_of xs))

-- a front of a history has no more points
pub count-take : (h : List Entry) (i : ℕ) → count (plan_of (take i h)) ≤ count (plan_of h)
count-take h i =
    let whole : plan_of h ≡ plan_of (take i h) ++ plan_of (drop i h) =
    ap plan_of (sym (take-append-drop i h)) ∙ filter_map-append (λ (x : Entry). hands_over x.deed) (take i h) (drop i h) in
    omega (arith, ap count whole, count-front (plan_of (take i h)) (plan_of (drop i h)))

-- there is a number for each point of a plan that is handed over
pub fewer-handed : (h : List Entry) (i : ℕ) (e : Entry) (c : Contents) (x : Extension) → take (i + 1) h ≡ take i h ++ e ∷ [] → c ≡ contents_of (plan_of (take i h)) → hands_over e.deed ≡ Some x → count (plan_of h) < 2 ^ 32 → length c.points + length x.tokens + 1 < 2 ^ 32
fewer-handed h i e c x next is handed few =
    let plan : plan_of (take (i + 1) h) ≡ plan_of (take i h) ++ x ∷ [] =
    ap plan_of next ∙ plan_of-push (take i h) e ∙ ap (λ o. plan_of (take i h) ++ option_to_list o) handed in
    omega (arith, ap (λ (d : Contents). length d.points) is, ap count plan, count-push (plan_of (take i h)) x, count-take h (i + 1))

-- and for each of its horizons
pub fewer-horizons : (h : List Entry) (i : ℕ) (c : Contents) → c ≡ contents_of (plan_of (take i h)) → count (plan_of h) < 2 ^ 32 → c.horizons < 2 ^ 32
fewer-horizons h i c is few = omega (arith, ap (λ (d : Contents). d.horizons) is, count_is (plan_of (take i h)), count-take h i)
