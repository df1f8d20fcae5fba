-- The devices of a run one by one, and all together.
use Rattle.std.proofs.Common.{◌≡◌, ◌≢◌, ℕ, suc, ◌+◌, ◌-◌, ◌<◌, List, length, Option, Some, None, sym, ◌∙◌, subst, arith, inl, inr}
use Rattle.std.proofs.lemmas.Bool.{cases_lt}
use Rattle.std.specs.Prelude.{slice_get, slice_set}
use Rattle.hs_base.specs.declared.ids.PointId.{PointId}
use Rattle.hs_base.specs.declared.mission.Mission.{Mission}
use Rattle.hs_machine.specs.declared.history.Entry.{Entry}
use Rattle.hs_machine.specs.Reports.{Polls}
use Rattle.hs_machine.specs.State.{now_of}
use Rattle.plan_index.proofs.LineLemmas.{slice_get-set_other, slice_get-set_same}
use Rattle.device_script.specs.Runs.{Stage}
use Rattle.simulation_laws.specs.Ending.{EndsByDevice}
use Rattle.simulation_laws.specs.Standing.{Attends, HasJustBegun, Standing, Stands, resting, running}
use Rattle.simulation_laws.proofs.AttendLemmas.{attended, attended_before}
use Rattle.sim_run.specs.Told.{Known}
use Rattle.sim_run.specs.Manned.{AreManned, IsManned, IsRunAt, IsServed, rests}
use Rattle.sim_run.specs.declared.post.Post.{Post}

-- a post runs what it ran where a device may idle otherwise
pub run_weaker : (I J : Standing → Type 0) → ((st : Standing) → I st → J st) → (end : PointId) (script : Option Stage) (st : Standing) → IsRunAt I end script st → IsRunAt J end script st
run_weaker I J weaker end None st r = weaker st r
run_weaker I J weaker end (Some stage) resting r = r
run_weaker I J weaker end (Some stage) (running s left) r = r

-- a device that stands on
pub stands_on : (I J : Standing → Type 0) → ((st : Standing) → I st → J st) → (m : Mission) (h h2 : List Entry) (d k : ℕ) (was is : Known) (post : Post) → ((polls : Polls) (st : Standing) → Stands m h d polls k st → Stands m h2 d polls k st) → IsManned I m h d k was is post → IsManned J m h2 d k was is post
stands_on I J weaker m h h2 d k was is post keeps x = record { polls = x.polls; told = x.told; standing = x.standing; stands = keeps x.polls x.standing x.stands; run = run_weaker I J weaker post.end post.script x.standing x.run }

-- a device that rests has begun nothing
pub rests_anew : (k : ℕ) (st : Standing) → rests st → HasJustBegun k st
rests_anew k st is = subst (HasJustBegun k) (sym is) tt

-- an element of a list in which one was written
pub at_other : {X : Type 0} (xs : List X) (i d : ℕ) (x y : X) → d ≢ i → slice_get (slice_set xs i x) d ≡ Some y → slice_get xs d ≡ Some y
at_other xs i d x y apart at = sym (slice_get-set_other xs i d x apart) ∙ at

pub at_this : {X : Type 0} (xs : List X) (i : ℕ) (x y : X) → i < length xs → slice_get (slice_set xs i x) i ≡ Some y → x ≡ y
at_this xs i x y below at = let same : Some x ≡ Some y = sym (slice_get-set_same xs i x below) ∙ at in cc

-- one device more
pub one_more : (a i : ℕ) (I : Standing → Type 0) (m : Mission) (h : List Entry) (k : ℕ) (before now : List Known) (posts : List Post) (x : Known) (p : Post) → i < length now → i < length posts → AreManned a i I m h k before now posts → ((was : Known) → slice_get before i ≡ Some was → IsManned I m h i k was x p) → AreManned a (i + 1) I m h k before (slice_set now i x) (slice_set posts i p)
one_more a i I m h k before now posts x p there here all this d was is post low high was_at is_at post_at = elim (cases_lt d i) [
  | inl less ↦
      let apart : d ≢ i = λ e. omega (arith, less, e) in
      all d was is post low less was_at (at_other now i d x is apart is_at) (at_other posts i d p post apart post_at)
  | inr not_less ↦
      let same : d ≡ i = omega (arith, high, not_less) in
      let known_is : x ≡ is = at_this now i x is there (rw same at is_at) in
      let post_is : p ≡ post = at_this posts i p post here (rw same at post_at) in
      let y : IsManned I m h i k was x p = this was (rw same at was_at) in
      let z : IsManned I m h i k was is p = subst (λ (n : Known). IsManned I m h i k was n p) known_is y in
      let w : IsManned I m h i k was is post = subst (λ (n : Post). IsManned I m h i k was is n) post_is z in
      subst (λ (n : ℕ). IsManned I m h n k was is post) (sym same) w
]

-- the devices behind it are as they were
pub others_left : (i b : ℕ) (I : Standing → Type 0) (m : Mission) (h : List Entry) (k : ℕ) (before now : List Known) (posts : List Post) (x : Known) (p : Post) → AreManned i b I m h k before now posts → AreManned (i + 1) b I m h k before (slice_set now i x) (slice_set posts i p)
others_left i b I m h k before now posts x p all d was is post low high was_at is_at post_at =
    let apart : d ≢ i = λ e. omega (arith, low, e) in
    all d was is post (omega (arith, low)) high was_at (at_other now i d x is apart is_at) (at_other posts i d p post apart post_at)

-- a device that was asked by the last tick is served at the end
pub served_now : (I : Standing → Type 0) (m : Mission) (h : List Entry) (d k : ℕ) (was is : Known) (post : Post) → k ≡ now_of h → IsManned I m h d k was is post → IsServed m h d was is
served_now I m h d k was is post here x = record { polls = x.polls; told = x.told; attended = attended m h d x.polls x.standing (subst (λ (n : ℕ). Attends m h d x.polls n x.standing) here x.stands.attends) }

-- and one that wasn't, where a device ended the run
pub served_before : (I : Standing → Type 0) (m : Mission) (h : List Entry) (d k : ℕ) (was is : Known) (post : Post) → suc k ≡ now_of h → EndsByDevice h → IsManned I m h d k was is post → IsServed m h d was is
served_before I m h d k was is post next ends x = record { polls = x.polls; told = x.told; attended = attended_before m h d x.polls k x.standing next ends x.stands.attends }
