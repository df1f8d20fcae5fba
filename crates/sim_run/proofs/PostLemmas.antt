-- A post hears an answer of its device.
use Rattle.std.proofs.Common.{◌≡◌, ◌≢◌, ℕ, suc, ◌-◌, ◌<◌, List, [], ◌∷◌, ◌++◌, Option, Some, None, refl, sym, ap, ◌∙◌, subst, arith, pos}
use Rattle.hs_base.specs.declared.ids.PointId.{PointId}
use Rattle.hs_base.specs.declared.ids.WordId.{WordId}
use Rattle.hs_base.specs.declared.mission.Mission.{Mission}
use Rattle.hs_base.specs.declared.mission.Step.{Step}
use Rattle.hs_machine.specs.declared.history.Entry.{Entry}
use Rattle.hs_machine.specs.Reports.{Polls, Script, awaited, still_awaited}
use Rattle.device_script.specs.Runs.{IsStage, Stage, from_wait}
use Rattle.simulation_laws.specs.Standing.{Finishes, IsOpen, Standing, Stands, resting, running}
use Rattle.simulation_laws.proofs.RunnerLemmas.{hears_awaited, hears_stage, left_none}
use Rattle.simulation_laws.proofs.StandLemmas.{stands_no_more, stands_on, stands_unasked}
use Rattle.sim_run.specs.Told.{HasAnswered, HasTold, Known}
use Rattle.sim_run.specs.Manned.{Awaits, IsManned, IsRunAt, rests}
use Rattle.sim_run.specs.declared.post.Post.{Post}
use Rattle.sim_run.proofs.ToldLemmas.{told_told}

abbrev pub with_script : PointId → Option Stage → Post
with_script end script = record { end = end; script = script }

-- a device whose script has finished, up to that end, and whose report is due
pub record IsDue (m : Mission) (h : List Entry) (d k : ℕ) (before now : Known) (end : PointId) : Type 0 where
  pub polls : Polls
  pub told : HasTold before now polls
  pub script : Script
  pub finishes : Finishes m h d polls k script
  pub opens : IsOpen m h d script
  pub ends : script.point ≡ end.0

-- a script that awaits something has steps left
pub awaits_some : (m : Mission) (h : List Entry) (d k : ℕ) (before now : Known) (end : PointId) (stage : Stage) → IsManned rests m h d k before now (with_script end (Some stage)) → stage.left ≢ []
awaits_some m h d k before now end stage x none = by_standing x.standing x.stands x.run
  where
    by_standing : (st : Standing) → Stands m h d x.polls k st → IsRunAt rests end (Some stage) st → ⊥
    by_standing resting s r = r
    by_standing (running t left) s r = s.attends.standing.some (sym r.0.awaits ∙ ap awaited none)

module _ (m : Mission) (h : List Entry) (d k : ℕ) (before mid now : Known) (end : PointId) (stage new : Stage) (x : IsManned rests m h d k before mid (with_script end (Some stage))) (a : HasAnswered mid now stage new (pos (suc k))) where
  abbrev after : Polls
  after = x.polls ++ (pos (suc k), a.answer) ∷ []

  heard_is : (left : List WordId) → Awaits stage left → awaited new.left ≡ still_awaited left a.answer
  heard_is left w = ap awaited a.hears ∙ hears_awaited stage w.stage_is a.answer ∙ ap (λ (l : List WordId). still_awaited l a.answer) w.awaits

  new_stage : (left : List WordId) → Awaits stage left → IsStage new
  new_stage left w = record { stops = subst (λ (l : List Step). from_wait l ≡ l) (sym a.hears) (hears_stage stage w.stage_is a.answer).stops }

  -- the script goes on
  pub heard_on : new.left ≢ [] → IsManned rests m h d (suc k) before now (with_script end (Some new))
  heard_on some = by_standing x.standing x.stands x.run
    where
      by_standing : (st : Standing) → Stands m h d x.polls k st → IsRunAt rests end (Some stage) st → IsManned rests m h d (suc k) before now (with_script end (Some new))
      by_standing resting s r = absurd r
      by_standing (running t left) s r =
          let stage_is = new_stage left r.0 in
          record {
            polls = after;
            told = told_told before mid now x.polls ((pos (suc k), a.answer) ∷ []) x.told a.told;
            standing = running t (still_awaited left a.answer);
            stands = stands_on m h d x.polls k t left a.answer s (λ none. some (left_none new stage_is (heard_is left r.0 ∙ none)));
            run = (record { stage_is = stage_is; awaits = heard_is left r.0 }, r.1);
          }

  -- or has finished
  pub heard_last : new.left ≡ [] → IsDue m h d (suc k) before now end
  heard_last none = by_standing x.standing x.stands x.run
    where
      by_standing : (st : Standing) → Stands m h d x.polls k st → IsRunAt rests end (Some stage) st → IsDue m h d (suc k) before now end
      by_standing resting s r = absurd r
      by_standing (running t left) s r =
          let f = stands_no_more m h d x.polls k t left a.answer s (sym (heard_is left r.0) ∙ ap awaited none) in
          record { polls = after; told = told_told before mid now x.polls ((pos (suc k), a.answer) ∷ []) x.told a.told; script = t; finishes = f.0; opens = f.1; ends = r.1 }

-- a device that runs no script isn't asked
pub unasked : (m : Mission) (h : List Entry) (d k : ℕ) (before now : Known) (end : PointId) → IsManned rests m h d k before now (with_script end None) → IsManned rests m h d (suc k) before now (with_script end None)
unasked m h d k before now end x = record {
  polls = x.polls;
  told = x.told;
  standing = resting;
  stands = stands_unasked m h d x.polls k (subst (Stands m h d x.polls k) x.run x.stands);
  run = refl;
}

-- the same of a post at tick n
module _ (m : Mission) (h : List Entry) (d n : ℕ) (later : 0 < n) (before mid : Known) (post : Post) (x : IsManned rests m h d (n - 1) before mid post) where
  next : suc (n - 1) ≡ n
  next = omega (arith, later)

  pub quiet_at : post.script ≡ None → IsManned rests m h d n before mid post
  quiet_at none =
      let y = unasked m h d (n - 1) before mid post.end (subst (λ (o : Option Stage). IsManned rests m h d (n - 1) before mid (with_script post.end o)) none x) in
      let z = subst (λ (o : Option Stage). IsManned rests m h d (suc (n - 1)) before mid (with_script post.end o)) (sym none) y in
      subst (λ (k : ℕ). IsManned rests m h d k before mid post) next z

  module _ (stage : Stage) (some : post.script ≡ Some stage) where
    scripted : IsManned rests m h d (n - 1) before mid (with_script post.end (Some stage))
    scripted = subst (λ (o : Option Stage). IsManned rests m h d (n - 1) before mid (with_script post.end o)) some x

    pub some_left : stage.left ≢ []
    some_left = awaits_some m h d (n - 1) before mid post.end stage scripted

    module _ (now : Known) (new : Stage) (a : HasAnswered mid now stage new (pos n)) where
      answered : HasAnswered mid now stage new (pos (suc (n - 1)))
      answered = subst (λ (k : ℕ). HasAnswered mid now stage new (pos k)) (sym next) a

      pub on_at : new.left ≢ [] → IsManned rests m h d n before now (with_script post.end (Some new))
      on_at goes = subst (λ (k : ℕ). IsManned rests m h d k before now (with_script post.end (Some new))) next (heard_on m h d (n - 1) before mid now post.end stage new scripted answered goes)

      pub due_at : new.left ≡ [] → IsDue m h d n before now post.end
      due_at none = subst (λ (k : ℕ). IsDue m h d k before now post.end) next (heard_last m h d (n - 1) before mid now post.end stage new scripted answered none)
