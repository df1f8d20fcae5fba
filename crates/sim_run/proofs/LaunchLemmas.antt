-- The first handover, and what comes of its run.
use Rattle.std.proofs.Common.{◌≡◌, ◌≢◌, ℕ, ◌+◌, ◌-◌, true, false, Bool, List, [], ◌∷◌, ◌++◌, length, take, Option, Some, None, refl, sym, ap, ◌∙◌, subst, arith}
use Rattle.std.specs.Prelude.{option_to_list}
use Rattle.hs_base.specs.declared.mission.Mission.{Mission}
use Rattle.hs_base.specs.declared.net.Net.{Net}
use Rattle.hs_base.specs.declared.plan.Extension.{Extension}
use Rattle.hs_base.specs.Checked.{Checked}
use Rattle.hs_machine.specs.declared.history.Deed.{Deed}
use Rattle.hs_machine.specs.declared.history.Deed.TheVariants.{Tick, Fire, Report, Handover, Stale as StaleDeed, Late, Early, Broken}
use Rattle.hs_machine.specs.declared.history.Entry.{Entry}
use Rattle.hs_machine.specs.declared.history.Phase.TheVariants.{Running}
use Rattle.hs_machine.specs.Eager.{Eager}
use Rattle.hs_machine.specs.Machine.{HandoverReply, IsAdded, IsLeftBy, IsNext, Turn, broken, done, failed, fire, handover, report, stale, tick}
use Rattle.hs_machine.specs.Run.{Run}
use Rattle.hs_machine.specs.State.{has_ended, has_failed, now_of, phase_of, plan_of}
use Rattle.base_laws.proofs.ListLemmas.{each_at}
use Rattle.device_script.specs.Runs.{Stage}
use Rattle.plan_check.specs.Planned.{Planned}
use Rattle.exec_laws.proofs.StepLemmas.{phase_flying}
use Rattle.flight_laws.proofs.TurnLemmas.{turn_run}
use Rattle.horizon_handover.proofs.StartLemmas.{start_fits}
use Rattle.exec_core.specs.Recorded.{Recorded}
use Rattle.exec_core.specs.Replies.{reply_of}
use Rattle.exec_core.specs.declared.reply.Reply.{Reply}
use Rattle.exec_core.specs.declared.reply.Reply.TheVariants.{Done, Memory, NotNext, OtherMission, Stale}
use Rattle.simulation_laws.specs.Ending.{EndsWith}
use Rattle.simulation_laws.specs.Standing.{HasJustBegun}
use Rattle.simulation_laws.proofs.EndLemmas.{fires_last}
use Rattle.simulation_laws.proofs.StandLemmas.{stands_first}
use Rattle.sim_run.specs.Told.{Known}
use Rattle.sim_run.specs.Manned.{IsManned, IsRunAt}
use Rattle.sim_run.specs.Moves.{GoesOn, IsGoing, IsOver}
use Rattle.sim_run.specs.Parts.{IsBegun, IsCrewed, IsFlown, IsLaunched}
use Rattle.sim_run.specs.Watches.{IsUnmanned}
use Rattle.sim_run.specs.declared.post.Post.{Post}
use Rattle.sim_run.specs.declared.watch.Watch.{Watch}
use Rattle.sim_run.proofs.MoveLemmas.{ends_once}
use Rattle.sim_run.proofs.ToldLemmas.{told_none}

-- a checked plan of one extension is the next one of an empty history
is_next : (es : List Extension) → length es ≡ 1 → IsNext [] es
is_next es one = ((λ e. omega (arith, one, ap length e)), ap (λ n. take (n - 1) es) one)

-- it is taken at the beginning, unless memory is wanting
pub taken_at_first : (p q : Planned) (old new : Recorded) (by : ℕ) (reply : Reply) → Checked p.mission p.plan.extensions → length p.plan.extensions ≡ 1 → q ≡ p → old ≡ record { mission = p.mission; history = [] } → Turn old.mission old.history by (handover q.mission q.plan.extensions) (reply_of reply) new.history → reply ≢ Done → reply ≢ Memory → ⊥
taken_at_first p q old new by reply checked one same is turn not_done not_memory =
    let begins : Turn p.mission [] by (handover p.mission p.plan.extensions) (reply_of reply) new.history = rw (same, is) at turn in
    by_reply reply begins.answers.lawful not_done not_memory
  where
    by_reply : (r : Reply) → HandoverReply p.mission [] p.mission p.plan.extensions (reply_of r) → r ≢ Done → r ≢ Memory → ⊥
    by_reply Done lawful d e = d refl
    by_reply Memory lawful d e = e refl
    by_reply OtherMission lawful d e = lawful refl
    by_reply (NotNext current agree) lawful d e = lawful.1.0 (is_next p.plan.extensions one)
    by_reply (Stale b from to) lawful d e = lawful.2 checked.schedule (start_fits p checked)
    by_reply _ lawful d e = lawful

-- one extension behind others makes one, so there are no others
alone : (es : List Extension) (x : Extension) → length (es ++ x ∷ []) ≡ 1 → es ≡ []
alone [] x one = refl
alone (y ∷ []) x one = absurd (omega (arith, one))
alone (y ∷ z ∷ es) x one = absurd (omega (arith, one))

-- the entry that the first handover leaves
record IsFirstEntry (m : Mission) (es : List Extension) (h : List Entry) : Type 0 where
  extension : Extension
  net : Net
  plan : es ≡ extension ∷ []
  is : h ≡ (record { by = 0; deed = Handover extension net }) ∷ []

first_entry : (m : Mission) (es : List Extension) (h : List Entry) → length es ≡ 1 → Turn m [] 0 (handover m es) done h → IsFirstEntry m es h
first_entry m es h one turn = by_case turn.added turn.answers.leaves turn.after
  where
    with_deed : (by : ℕ) (d : Deed) → by ≡ 0 → IsLeftBy m d (handover m es) done → h ≡ (record { by = by; deed = d }) ∷ [] → IsFirstEntry m es h
    with_deed by (Handover x n) zero left after =
        let plan : es ≡ left.0 ++ x ∷ [] = let e : handover m es ≡ handover m (left.0 ++ x ∷ []) = left.1 in cc in
        let none : left.0 ≡ [] = alone left.0 x (ap length (sym plan) ∙ one) in
        record { extension = x; net = n; plan = plan ∙ ap (λ l. l ++ x ∷ []) none; is = after ∙ ap (λ (i : ℕ). (record { by = i; deed = Handover x n }) ∷ []) zero }
    with_deed by Tick zero left after = absurd (let e : handover m es ≡ tick = left.0 in cc)
    with_deed by (Fire x) zero left after = absurd (let e : handover m es ≡ fire x.0 = left.0 in cc)
    with_deed by (Report x) zero left after = absurd (let e : handover m es ≡ report x.0 = left.0 in cc)
    with_deed by (StaleDeed x b p q) zero left after = absurd (let e : done ≡ stale b p q = left.2 in cc)
    with_deed by (Late b) zero left after = absurd (let e : done ≡ failed b = left.1 in cc)
    with_deed by (Early b) zero left after = absurd (let e : done ≡ failed b = left.1 in cc)
    with_deed by (Broken v) zero left after = absurd (let e : handover m es ≡ broken v.0 = left.0 in cc)

    by_case : (o : Option Entry) → IsAdded m 0 (handover m es) done o → h ≡ [] ++ option_to_list o → IsFirstEntry m es h
    by_case None is after = absurd (let e : true ≡ false = is in cc)
    by_case (Some e) left after = with_deed e.by e.deed left.0 left.1 after

-- the first handover that is Done launches its plan
pub launched : (p q : Planned) (old new : Recorded) (reply : Reply) → Checked p.mission p.plan.extensions → length p.plan.extensions ≡ 1 → q ≡ p → old ≡ record { mission = p.mission; history = [] } → new.mission ≡ old.mission → Turn old.mission old.history 0 (handover q.mission q.plan.extensions) (reply_of reply) new.history → reply ≡ Done → IsLaunched p new
launched p q old new reply checked one same is mission turn answer = record {
  mission = named;
  extension = f.extension;
  plan = f.plan;
  begun = record { net = f.net; is = f.is; going = going };
}
  where
    begins : Turn p.mission [] 0 (handover p.mission p.plan.extensions) done new.history
    begins = rw (same, is, answer) at turn

    named : new.mission ≡ p.mission
    named = mission ∙ ap (λ (r : Recorded). r.mission) is

    f : IsFirstEntry p.mission p.plan.extensions new.history
    f = first_entry p.mission p.plan.extensions new.history one (rw (same, is, answer) at turn)

    run : Run p.mission new.history
    run = turn_run p.mission [] 0 (handover p.mission p.plan.extensions) done new.history (record { mission = checked.mission; entries = tt }) (rw (same, is, answer) at turn)

    sound : has_failed new.history ≡ false
    sound = ap has_failed f.is

    some : plan_of new.history ≢ []
    some none = let e : f.extension ∷ [] ≡ [] = sym (ap plan_of f.is) ∙ none in cc

    ends : EndsWith new.history (Handover f.extension f.net)
    ends = record { before = []; by = 0; is = f.is }

    by_end : (b : Bool) → has_ended new.history ≡ b → phase_of new.history ≡ Running
    by_end false at = phase_flying new.history false sound some at
    by_end true at = absurd (let e : Handover f.extension f.net ≡ Fire _ = ends_once new.history _ _ ends (fires_last p.mission new.history run (phase_flying new.history true sound some at)) in cc)

    going : IsGoing new
    going = record { is_run = record { run = subst (λ (m : Mission). Run m new.history) (sym named) run; eager = subst (Eager new.mission) (sym f.is) ((λ t. absurd (cc)), tt) }; running = by_end (has_ended new.history) refl }

-- a launched run's devices stand, before any timeline was looked at
pub launched_crewed : (r : Recorded) (x : Extension) (now : List Known) (w : Watch) → IsBegun r x → length now ≡ length r.mission.vars → IsUnmanned (length now) w → IsCrewed (HasJustBegun (now_of r.history)) r now now w.posts.items
launched_crewed r x now w l many unmanned = record {
  going = l.going;
  posts_are = unmanned.many ∙ many;
  now_are = sym unmanned.many;
  before_are = sym unmanned.many;
  manned = λ d was is post low high was_at is_at post_at.
      let none : post.script ≡ None = each_at (λ (p : Post). p.script ≡ None) w.posts.items d post unmanned.none post_at in
      let same : was ≡ is = let e : Some was ≡ Some is = sym was_at ∙ is_at in cc in
      let anew = stands_first r.mission 0 x l.net (subst (Run r.mission) l.is l.going.is_run.run) d in
      subst (λ (k : Known). IsManned (HasJustBegun (now_of r.history)) r.mission r.history d (now_of r.history) was k post) same
      (subst (λ (h : List Entry). IsManned (HasJustBegun (now_of h)) r.mission h d (now_of h) was was post) (sym l.is) (record {
        polls = [];
        told = told_none was;
        standing = anew.0;
        stands = anew.1;
        run = subst (λ (o : Option Stage). IsRunAt (HasJustBegun 0) post.end o anew.0) (sym none) anew.2;
      }));
}

-- the run of a launched plan
pub flown : (p : Planned) (before now : List Known) (old new : Recorded) → IsLaunched p old → GoesOn old new → IsOver before now new → IsFlown p before now new
flown p before now old new l g over = record {
  mission = g.mission ∙ l.mission;
  extension = l.extension;
  plan = l.plan;
  one = record { first = record { by = 0; deed = Handover l.extension l.begun.net }; later = g.more; is = g.is ∙ ap (λ h. h ++ g.more) l.begun.is; hands = refl; no_more = g.no_plan };
  over = over;
}
