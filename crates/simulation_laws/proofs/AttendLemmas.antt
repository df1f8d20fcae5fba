-- What each step of a run does to how a device stands.
use Rattle.simulation_laws.proofs.ScriptLemmas.{script_at}
use Rattle.std.proofs.Common.{◌≡◌, ◌≢◌, ℕ, suc, ◌-◌, Bool, true, false, cond, List, [], ◌∷◌, ◌++◌, length, Option, Some, None, refl, sym, ap, ◌∙◌, subst, arith, inl, inr, pos, append-nil}
use Rattle.std.proofs.lemmas.Int.{ints}
use Rattle.std.specs.Prelude.{ℤ, ◌≤ℤ◌, ⊤}
use Rattle.hs_base.specs.declared.ids.WordId.{WordId}
use Rattle.hs_base.specs.declared.mission.Kind.{Kind}
use Rattle.hs_base.specs.declared.mission.Mission.{Mission}
use Rattle.hs_base.specs.declared.mission.Step.{Step}
use Rattle.hs_base.specs.declared.mission.Step.TheVariants.{Do, Until}
use Rattle.hs_base.specs.declared.mission.Value.{Value}
use Rattle.hs_base.specs.declared.plan.Extension.{Extension}
use Rattle.hs_base.specs.declared.net.Bound.{Bound}
use Rattle.hs_machine.specs.declared.history.Entry.{Entry}
use Rattle.hs_machine.specs.declared.history.Deed.{Deed}
use Rattle.hs_machine.specs.declared.history.Deed.TheVariants.{Fire, Early}
use Rattle.hs_base.specs.Bounds.{on_some}
use Rattle.hs_base.specs.Fits.{Times}
use Rattle.hs_base.specs.Missions.{IsMission, ends_waiting}
use Rattle.hs_base.specs.Points.{ending, place_of, points_of, start_at, value_of}
use Rattle.hs_machine.specs.State.{executes, hands_over, now_of}
use Rattle.base_laws.proofs.ListLemmas.{each_both}
use Rattle.base_laws.proofs.MissionLemmas.{value_is}
use Rattle.hs_port.specs.declared.device.Answer.{Answer}
use Rattle.hs_machine.specs.Reports.{Polls, Script, awaited, still_awaited, is_none_left, scripts_of}
use Rattle.simulation_laws.specs.Reported.{report_by, reports_in}
use Rattle.simulation_laws.specs.Hearing.{AreBy, AskedTo, Rests, Runs, told_by}
use Rattle.simulation_laws.proofs.HearLemmas.{by_weaker, over_weaker, asked_rest, begins, told_begun, asked_begun, runs_on, rests_now, told_now, asked_now}
use Rattle.simulation_laws.proofs.HistoryLemmas.{reports-push, scripts_idle}
use Rattle.simulation_laws.specs.Attended.{IsAttended}
use Rattle.simulation_laws.specs.Ending.{EndsByDevice}
use Rattle.simulation_laws.specs.Standing.{Standing, resting, running, IsStanding, Attends, Finishes, HasJustBegun}

-- none, or one script that begins at tick k and waits for something
abbrev pub Begins : ℕ → List Script → Type 0
Begins k [] = ⊤
Begins k (s ∷ []) = (s.begun ≡ pos k) × (s.words ≢ [])
Begins k (s ∷ t ∷ scripts) = ⊥

-- the standing with these new scripts
abbrev pub standing_of : List Script → Standing
standing_of [] = resting
standing_of (s ∷ scripts) = running s s.words

pub just_begun : (k : ℕ) (new : List Script) → Begins k new → HasJustBegun k (standing_of new)
just_begun k [] b = tt
just_begun k (s ∷ []) b = (b.0, refl)
just_begun k (s ∷ t ∷ new) b = absurd b

-- an entry that begins no script of the device, and is no report of it
pub attends_same : (m : Mission) (h : List Entry) (e : Entry) (d : ℕ) (polls : Polls) (k : ℕ) (st : Standing) → scripts_of m (h ++ e ∷ []) d ≡ scripts_of m h d → report_by d h e.deed ≡ [] → Attends m h d polls k st → Attends m (h ++ e ∷ []) d polls k st
attends_same m h e d polls k st same quiet a = record {
  standing = subst (λ (ss : List Script). IsStanding ss polls k st) (sym same) a.standing;
  by = a.by;
  asked = subst (λ (ss : List Script). AskedTo k ss polls) (sym same) a.asked;
  told = reports-push h e d ∙ ap (λ l. reports_in h d ++ l) quiet ∙ append-nil _ ∙ a.told ∙ ap (λ (ss : List Script). told_by ss polls) (sym same);
}

-- an entry that hands nothing over, executes nothing and tells no report of the device
pub attends_idle : (m : Mission) (h : List Entry) (e : Entry) (d : ℕ) (polls : Polls) (k : ℕ) (st : Standing) → hands_over e.deed ≡ None → executes e.deed ≡ None → report_by d h e.deed ≡ [] → Attends m h d polls k st → Attends m (h ++ e ∷ []) d polls k st
attends_idle m h e d polls k st no_plan no_point quiet a = attends_same m h e d polls k st (scripts_idle m h e d no_plan no_point) quiet a

-- a device that rests isn't asked at the next tick
pub attends_unasked : (m : Mission) (h : List Entry) (d : ℕ) (polls : Polls) (k : ℕ) → Attends m h d polls k resting → Attends m h d polls (suc k) resting
attends_unasked m h d polls k a = record {
  standing = record { over = over_weaker (pos k) (pos (suc k)) _ (omega (arith, ints)) a.standing.over };
  by = by_weaker (pos k) (pos (suc k)) polls (omega (arith, ints)) a.by;
  asked = asked_rest (scripts_of m h d) polls k a.standing a.asked;
  told = a.told;
}

-- a device that runs a script is asked at the next tick
module _ (m : Mission) (h : List Entry) (d : ℕ) (polls : Polls) (k : ℕ) (s : Script) (left : List WordId) (a : Attends m h d polls k (running s left)) (answer : Answer) where
  by_now : AreBy (pos (suc k)) (polls ++ (pos (suc k), answer) ∷ [])
  by_now = each_both (λ (p : ℤ × Answer). p.0 ≤ℤ pos (suc k)) polls ((pos (suc k), answer) ∷ []) (by_weaker (pos k) (pos (suc k)) polls (omega (arith, ints)) a.by) (omega (arith, ints), tt)

  some_left : (ws : List WordId) → ws ≢ [] → is_none_left ws ≡ false
  some_left [] n = absurd (n refl)
  some_left (w ∷ ws) n = refl

  -- and the script goes on
  pub attends_on : still_awaited left answer ≢ [] → Attends m h d (polls ++ (pos (suc k), answer) ∷ []) (suc k) (running s (still_awaited left answer))
  attends_on some = record {
    standing = runs_on (scripts_of m h d) polls k s left a.standing a.by answer some;
    by = by_now;
    asked = asked_now (scripts_of m h d) polls k s left a.standing a.by answer a.asked;
    told =
        a.told
        ∙ sym (told_now (scripts_of m h d) polls k s left a.standing a.by answer
        ∙ ap (λ b. told_by (scripts_of m h d) polls ++ cond b ((s.point, pos (suc k)) ∷ []) []) (some_left (still_awaited left answer) some)
        ∙ append-nil _);
  }

  -- or it finishes
  pub finishes : still_awaited left answer ≡ [] → Finishes m h d (polls ++ (pos (suc k), answer) ∷ []) (suc k) s
  finishes none = record {
    rests = rests_now (scripts_of m h d) polls k s left a.standing a.by answer none;
    by = by_now;
    asked = asked_now (scripts_of m h d) polls k s left a.standing a.by answer a.asked;
    told =
        told_now (scripts_of m h d) polls k s left a.standing a.by answer
        ∙ ap (λ ws. told_by (scripts_of m h d) polls ++ cond (is_none_left ws) ((s.point, pos (suc k)) ∷ []) []) none
        ∙ ap (λ l. l ++ (s.point, pos (suc k)) ∷ []) (sym a.told);
  }

-- a device that rests begins a script, or none
module _ (m : Mission) (h : List Entry) (d : ℕ) (polls : Polls) (k : ℕ) (ss : List Script) (r : Rests ss polls (pos k)) (old : AreBy (pos k) polls) (asked : AskedTo k ss polls) (told : reports_in h d ≡ told_by ss polls) where
  pub begins_more : (new : List Script) → scripts_of m h d ≡ ss ++ new → Begins k new → Attends m h d polls k (standing_of new)
  begins_more [] is b = record {
    standing = subst (λ (ts : List Script). Rests ts polls (pos k)) (sym (is ∙ append-nil ss)) r;
    by = old;
    asked = subst (λ (ts : List Script). AskedTo k ts polls) (sym (is ∙ append-nil ss)) asked;
    told = told ∙ ap (λ (ts : List Script). told_by ts polls) (sym (is ∙ append-nil ss));
  }
  begins_more (s ∷ []) is b = record {
    standing = subst (λ (ts : List Script). Runs ts polls (pos k) s s.words) (sym is) (begins ss polls (pos k) s r old b.0 b.1);
    by = old;
    asked = subst (λ (ts : List Script). AskedTo k ts polls) (sym is) (asked_begun ss polls (pos k) s r old b.0 k refl asked);
    told = told ∙ sym (ap (λ (ts : List Script). told_by ts polls) is ∙ told_begun ss polls (pos k) s r old b.0);
  }
  begins_more (s ∷ t ∷ new) is b = absurd b

-- an entry that executes the end of a token of the device's timeline, where it rests and isn't reported: a Fire
pub attends_fired : (m : Mission) (h : List Entry) (e : Entry) (d : ℕ) (polls : Polls) (k : ℕ) (new : List Script) → scripts_of m (h ++ e ∷ []) d ≡ scripts_of m h d ++ new → Begins k new → report_by d h e.deed ≡ [] → Attends m h d polls k resting → Attends m (h ++ e ∷ []) d polls k (standing_of new)
attends_fired m h e d polls k new is b quiet a =
    begins_more m (h ++ e ∷ []) d polls k (scripts_of m h d) a.standing a.by a.asked (reports-push h e d ∙ ap (λ l. reports_in h d ++ l) quiet ∙ append-nil _ ∙ a.told) new is b

-- the report of the script that has finished
pub attends_reported : (m : Mission) (h : List Entry) (e : Entry) (d : ℕ) (polls : Polls) (k : ℕ) (s : Script) (new : List Script) → scripts_of m (h ++ e ∷ []) d ≡ scripts_of m h d ++ new → Begins k new → report_by d h e.deed ≡ (s.point, pos k) ∷ [] → Finishes m h d polls k s → Attends m (h ++ e ∷ []) d polls k (standing_of new)
attends_reported m h e d polls k s new is b reports f =
    begins_more m (h ++ e ∷ []) d polls k (scripts_of m h d) f.rests f.by f.asked (reports-push h e d ∙ ap (λ l. reports_in h d ++ l) reports ∙ sym f.told) new is b

-- a script by device waits for something
waits_for : (steps : List Step) → ends_waiting steps ≡ true → awaited steps ≢ []
waits_for [] ends none = cc
waits_for (Do w amount ∷ []) ends none = cc
waits_for (Until w ∷ []) ends none = absurd (omega (arith, ap length none))
waits_for (Do w amount ∷ t ∷ steps) ends none = waits_for (t ∷ steps) ends none
waits_for (Until w ∷ t ∷ steps) ends none = absurd (omega (arith, ap length none))

-- the script of a token whose start is executed at tick k begins then
pub script_begins : (m : Mission) → IsMission m → (es : List Extension) (at : Times) (d j k : ℕ) (kind : Kind) → at (start_at es d j) ≡ Some (pos k) → Begins k (script_at m es at d j kind)
script_begins m mission es at d j k kind now = by_value (value_of m kind) refl
  where
    by_flag : (v : Value) → value_of m kind ≡ Some v → (b : Bool) → v.by_device ≡ b → Begins k (cond b (on_some (at (start_at es d j)) (λ (t : ℤ). record { point = place_of (ending d j) (points_of es); begun = t; words = awaited v.script } ∷ [])) [])
    by_flag v is false flag = tt
    by_flag v is true flag = rw now (refl, waits_for v.script ((value_is m kind v mission is).1.waits flag))

    by_value : (o : Option Value) → value_of m kind ≡ o → Begins k (on_some o (λ (v : Value). cond v.by_device (on_some (at (start_at es d j)) (λ (t : ℤ). record { point = place_of (ending d j) (points_of es); begun = t; words = awaited v.script } ∷ [])) []))
    by_value None is = tt
    by_value (Some v) is = by_flag v is v.by_device refl

-- At the end. A device that was asked up to the time now.
pub attended : (m : Mission) (h : List Entry) (d : ℕ) (polls : Polls) (st : Standing) → Attends m h d polls (now_of h) st → IsAttended m h d polls
attended m h d polls st a = record { reported = a.told; asked = inl a.asked }

-- one that was asked up to the tick before, where another device ended the run
pub attended_before : (m : Mission) (h : List Entry) (d : ℕ) (polls : Polls) (k : ℕ) (st : Standing) → suc k ≡ now_of h → EndsByDevice h → Attends m h d polls k st → IsAttended m h d polls
attended_before m h d polls k st now ends a =
    let is : k ≡ now_of h - 1 = omega (arith, now) in
    record { reported = a.told; asked = inr (ends, subst (λ (n : ℕ). AskedTo n (scripts_of m h d) polls) is a.asked) }

-- and the one whose report came early
pub attended_early : (m : Mission) (h : List Entry) (e : Entry) (b : Bound) (d : ℕ) (polls : Polls) (k : ℕ) (s : Script) → now_of (h ++ e ∷ []) ≡ k → e.deed ≡ Early b → report_by d h (Early b) ≡ (s.point, pos k) ∷ [] → Finishes m h d polls k s → IsAttended m (h ++ e ∷ []) d polls
attended_early m h e b d polls k s now early tells f =
    let same : scripts_of m (h ++ e ∷ []) d ≡ scripts_of m h d = scripts_idle m h e d (ap hands_over early) (ap executes early) in
    record {
      reported =
          reports-push h e d ∙ ap (λ (x : Deed). reports_in h d ++ report_by d h x) early ∙ ap (λ l. reports_in h d ++ l) tells
          ∙ sym f.told ∙ ap (λ (ss : List Script). told_by ss polls) (sym same);
      asked = inl (subst (λ (n : ℕ). AskedTo n (scripts_of m (h ++ e ∷ []) d) polls) (sym now) (subst (λ (ss : List Script). AskedTo k ss polls) (sym same) f.asked));
    }
