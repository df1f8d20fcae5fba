-- A device and its post as a timeline is looked at.
use Rattle.std.proofs.Common.{◌≡◌, ℕ, Bool, true, false, List, [], Option, Some, None, refl, sym, ap, ◌∙◌, subst, inl, pos}
use Rattle.std.specs.Prelude.{◌<◌, length, is_some, MatchBool}
use Rattle.hs_base.specs.declared.ids.SvId.{SvId}
use Rattle.hs_base.specs.declared.ids.WordId.{WordId}
use Rattle.hs_base.specs.declared.mission.Step.{Step}
use Rattle.hs_base.specs.Points.{value_of}
use Rattle.hs_machine.specs.declared.history.Deed.TheVariants.{Broken}
use Rattle.hs_machine.specs.Machine.{Replies, broken, done}
use Rattle.hs_machine.specs.Reports.{Script, awaited}
use Rattle.hs_machine.specs.State.{now_of}
use Rattle.hs_machine.specs.Views.{line_of}
use Rattle.hs_machine.specs.Views as views
use Rattle.device_script.specs.Runs.{Stage, begun, from_wait}
use Rattle.line_view.specs.Lines.{line_seen}
use Rattle.line_view.specs.declared.shown.Line.{Line}
use Rattle.exec_core.specs.Recorded.{Recorded, recording}
use Rattle.simulation_laws.specs.Standing.{HasJustBegun, Standing, StandsByLine, resting, running, script_on}
use Rattle.simulation_laws.proofs.LineLemmas.{stands_by_line}
use Rattle.simulation_laws.proofs.RunnerLemmas.{begun_awaits, begun_stage}
use Rattle.sim_run.specs.Told.{HasFailed, HasTold, Known}
use Rattle.sim_run.specs.Manned.{IsManned, IsRunAt, rests}
use Rattle.sim_run.specs.Moves.{IsGoing}
use Rattle.sim_run.specs.Parts.{HasEnded, IsLookedAt, IsScriptOf}
use Rattle.sim_run.specs.declared.post.Post.{Post}
use Rattle.sim_run.proofs.DeedLemmas.{ended_broken}
use Rattle.sim_run.proofs.PostLemmas.{with_script}
use Rattle.sim_run.proofs.ToldLemmas.{rose_later, told_same}

pub some_script : (o : Option Stage) → is_some o ≡ true → (stage : Stage) × (o ≡ Some stage)
some_script None is = absurd (cc)
some_script (Some stage) is = (stage, refl)

pub no_script : (o : Option Stage) → is_some o ≡ false → o ≡ None
no_script None is = refl
no_script (Some stage) is = absurd (cc)

-- a device that runs the script of a value is ended by a device
does_run : (b : Bool) (P : Type 0) (st : Standing) (s : Script) (left : List WordId) → st ≡ running s left → MatchBool b P (st ≡ resting) → P
does_run true P st s left is does = does
does_run false P st s left is does = absurd (let e : running s left ≡ resting = sym is ∙ does in cc)

module _ (r : Recorded) (going : IsGoing r) (v : SvId) (there : v.0 < length r.mission.vars) (before mid : Known) (post : Post) (x : IsManned (HasJustBegun (now_of r.history)) r.mission r.history v.0 (now_of r.history) before mid post) where
  by_line : StandsByLine r.mission r.history v.0 x.standing
  by_line = stands_by_line r.mission r.history going.is_run.run going.running v.0 there x.polls (now_of r.history) x.standing x.stands

  -- a script runs already
  pub looks_running : (stage : Stage) → post.script ≡ Some stage → IsLookedAt v.0 r r before mid post
  looks_running stage some = by_standing x.standing refl (subst (λ (o : Option Stage). IsRunAt (HasJustBegun (now_of r.history)) post.end o x.standing) some x.run)
    where
      by_standing : (st : Standing) → x.standing ≡ st → IsRunAt (HasJustBegun (now_of r.history)) post.end (Some stage) x.standing → IsLookedAt v.0 r r before mid post
      by_standing resting is run = absurd (subst (IsRunAt (HasJustBegun (now_of r.history)) post.end (Some stage)) is run)
      by_standing (running s left) is run =
          let mine = subst (IsRunAt (HasJustBegun (now_of r.history)) post.end (Some stage)) is run in
          let shown = does_run by_line.value.by_device ((ws : List WordId) × (x.standing ≡ running (script_on (line_of r.mission r.history v.0) by_line.value) ws)) x.standing s left is by_line.does in
          let same : running s left ≡ running (script_on (line_of r.mission r.history v.0) by_line.value) shown.0 = sym is ∙ shown.1 in
          let one : s ≡ script_on (line_of r.mission r.history v.0) by_line.value = cc in
          record {
            same = refl;
            manned = record { polls = x.polls; told = x.told; standing = x.standing; stands = x.stands; run = subst (λ (o : Option Stage). IsRunAt rests post.end o x.standing) (sym some) (subst (IsRunAt rests post.end (Some stage)) (sym is) mine) };
            watched = sym mine.1 ∙ ap (λ (t : Script). t.point) one;
          }

  module _ (none : post.script ≡ None) (shown : Line) (seen : line_seen shown ≡ line_of r.mission r.history v.0) where
    anew : HasJustBegun (now_of r.history) x.standing
    anew = subst (λ (o : Option Stage). IsRunAt (HasJustBegun (now_of r.history)) post.end o x.standing) none x.run

    end_is : shown.end.0 ≡ (line_of r.mission r.history v.0).end
    end_is = ap (λ (l : views.Line). l.end) seen

    value_is : value_of r.mission (record { sv = v; value = shown.value }) ≡ Some by_line.value
    value_is = ap (λ (n : ℕ). value_of r.mission (record { sv = v; value = record { 0 = n } })) (ap (λ (l : views.Line). l.value) seen) ∙ by_line.is_value

    -- no device ends its token
    pub looks_own : IsScriptOf (value_of r.mission (record { sv = v; value = shown.value })) None → IsLookedAt v.0 r r before mid (with_script shown.end post.script)
    looks_own own = subst (λ (o : Option Stage). IsLookedAt v.0 r r before mid (with_script shown.end o)) (sym none) (record {
      same = refl;
      manned = record { polls = x.polls; told = x.told; standing = x.standing; stands = x.stands; run = by_case by_line.value.by_device (rw value_is at own) by_line.does };
      watched = end_is;
    })
      where
        by_case : (b : Bool) → MatchBool b (None ≡ Some (begun by_line.value.script)) (◌≡◌ {A = Option Stage} None None) → MatchBool b ((left : List WordId) × (x.standing ≡ running (script_on (line_of r.mission r.history v.0) by_line.value) left)) (x.standing ≡ resting) → x.standing ≡ resting
        by_case true other does = absurd (let e : None ≡ Some (begun by_line.value.script) = other in cc)
        by_case false other does = does

    -- one does, and its script begins
    pub looks_begun : (now : Known) (first stage : Stage) → IsScriptOf (value_of r.mission (record { sv = v; value = shown.value })) (Some first) → stage.left ≡ first.left → HasTold mid now [] → IsLookedAt v.0 r r before now (with_script shown.end (Some stage))
    looks_begun now first stage own left_is told = record {
      same = refl;
      manned = record { polls = x.polls; told = told_same before mid now x.polls x.told told; standing = x.standing; stands = x.stands; run = runs by_line.value.by_device (rw value_is at own) by_line.does };
      watched = end_is;
    }
      where
        runs : (b : Bool) → MatchBool b (Some first ≡ Some (begun by_line.value.script)) (Some first ≡ None) → MatchBool b ((left : List WordId) × (x.standing ≡ running (script_on (line_of r.mission r.history v.0) by_line.value) left)) (x.standing ≡ resting) → IsRunAt rests shown.end (Some stage) x.standing
        runs false other does = absurd (let e : Some first ≡ None = other in cc)
        runs true is does =
            let s = script_on (line_of r.mission r.history v.0) by_line.value in
            let first_is : first ≡ begun by_line.value.script = cc in
            let steps_are : stage.left ≡ (begun by_line.value.script).left = left_is ∙ ap (λ (g : Stage). g.left) first_is in
            let just : ((s.begun ≡ pos (now_of r.history)) × (does.0 ≡ s.words)) = subst (HasJustBegun (now_of r.history)) does.1 anew in
            subst (IsRunAt rests shown.end (Some stage)) (sym does.1) (
              record {
                stage_is = record { stops = subst (λ (l : List Step). from_wait l ≡ l) (sym steps_are) (begun_stage by_line.value.script).stops };
                awaits = ap awaited steps_are ∙ begun_awaits by_line.value.script ∙ sym just.1;
              },
              sym end_is,
            )

  -- the device failed
  pub looks_broken : (new : Recorded) (now : Known) → HasFailed mid now → new ≡ recording r 0 (Broken v) → Replies r.mission r.history (broken v.0) done → HasEnded v.0 r new before now
  looks_broken new now failed is lawful = ended_broken v r new before now x.polls (now_of r.history) x.standing going there (told_same before mid now x.polls x.told failed.told) x.stands (inl refl) (rose_later before.faults mid.faults now.faults x.told.faults failed.rose) is lawful
