-- The timelines of a run, of which some were looked at.
use Rattle.std.proofs.Common.{◌≡◌, ◌≢◌, ℕ, ◌+◌, ◌-◌, ◌<◌, List, length, get_or, Some, sym, ◌∙◌, subst, arith, inl, inr}
use Rattle.std.proofs.lemmas.Bool.{cases_lt}
use Rattle.std.proofs.lemmas.List.{length-set}
use Rattle.std.proofs.lemmas.Option.{slice_get_within, slice_get-get_or}
use Rattle.std.specs.Prelude.{slice_get, slice_set}
use Rattle.hs_base.specs.declared.ids.SvId.{SvId}
use Rattle.hs_base.specs.declared.mission.Mission.{Mission}
use Rattle.hs_machine.specs.State.{now_of}
use Rattle.hs_port.specs.Causes.{Rose}
use Rattle.plan_index.proofs.LineLemmas.{slice_get-set_same}
use Rattle.exec_core.specs.Recorded.{Recorded}
use Rattle.simulation_laws.specs.Standing.{HasJustBegun, Standing}
use Rattle.sim_run.specs.Told.{HasRisen, Known}
use Rattle.sim_run.specs.Manned.{AreManned, AreServed, AreWatched, IsManned, IsServed, IsWatched, rests}
use Rattle.sim_run.specs.Moves.{GoesOn, IsGoing, IsOver}
use Rattle.sim_run.specs.Parts.{AreLookedAt, HasEnded, IsCrewed, IsLookedAt}
use Rattle.sim_run.specs.declared.post.Post.{Post}
use Rattle.sim_run.proofs.CrewLemmas.{at_other, at_this, one_more, others_left, served_now, stands_on}

-- the first i timelines were looked at
pub record AreLooking (i : ℕ) (r : Recorded) (before now : List Known) (posts : List Post) : Type 0 where
  pub going : IsGoing r
  pub posts_are : length posts ≡ length r.mission.vars
  pub now_are : length now ≡ length posts
  pub before_are : length before ≡ length posts
  pub done : AreManned 0 i rests r.mission r.history (now_of r.history) before now posts
  pub watched : AreWatched 0 i r.mission r.history posts
  pub left : AreManned i (length posts) (HasJustBegun (now_of r.history)) r.mission r.history (now_of r.history) before now posts

pub looking_begins : (r : Recorded) (before now : List Known) (posts : List Post) → IsCrewed (HasJustBegun (now_of r.history)) r before now posts → AreLooking 0 r before now posts
looking_begins r before now posts x = record {
  going = x.going;
  posts_are = x.posts_are;
  now_are = x.now_are;
  before_are = x.before_are;
  done = λ d was is post low high. absurd (omega (arith, high));
  watched = λ d post low high. absurd (omega (arith, high));
  left = x.manned;
}

pub looking_done : (r r2 : Recorded) (before now : List Known) (posts : List Post) → r2 ≡ r → AreLooking (length now) r before now posts → AreLookedAt r r2 before now posts
looking_done r r2 before now posts same x = record {
  same = same;
  crewed = record {
    going = x.going;
    posts_are = x.posts_are;
    now_are = x.now_are;
    before_are = x.before_are;
    manned = subst (λ (n : ℕ). AreManned 0 n rests r.mission r.history (now_of r.history) before now posts) x.now_are x.done;
  };
  watched = subst (λ (n : ℕ). AreWatched 0 n r.mission r.history posts) x.now_are x.watched;
}

module _ (i : ℕ) (r : Recorded) (before now : List Known) (posts : List Post) (x : AreLooking i r before now posts) (below : i < length posts) (known : Known) (post : Post) where
  here : i < length now
  here = omega (arith, below, x.now_are)

  pub looking_on : ((was : Known) → slice_get before i ≡ Some was → IsLookedAt i r r was known post) → AreLooking (i + 1) r before (slice_set now i known) (slice_set posts i post)
  looking_on looked = record {
    going = x.going;
    posts_are = length-set posts i post ∙ x.posts_are;
    now_are = length-set now i known ∙ x.now_are ∙ sym (length-set posts i post);
    before_are = x.before_are ∙ sym (length-set posts i post);
    done = one_more 0 i rests r.mission r.history (now_of r.history) before now posts known post here below x.done (λ was at. (looked was at).manned);
    watched = watched;
    left = subst (λ (n : ℕ). AreManned (i + 1) n (HasJustBegun (now_of r.history)) r.mission r.history (now_of r.history) before (slice_set now i known) (slice_set posts i post)) (sym (length-set posts i post)) (others_left i (length posts) (HasJustBegun (now_of r.history)) r.mission r.history (now_of r.history) before now posts known post x.left);
  }
    where
      one : IsLookedAt i r r (get_or before i known) known post
      one = looked (get_or before i known) (slice_get-get_or before i known (omega (arith, below, x.before_are)))

      watched : AreWatched 0 (i + 1) r.mission r.history (slice_set posts i post)
      watched d p low high at = elim (cases_lt d i) [
        | inl less ↦ x.watched d p low less (at_other posts i d post p (λ e. omega (arith, less, e)) at)
        | inr not_less ↦
            let same : d ≡ i = omega (arith, high, not_less) in
            let post_is : post ≡ p = at_this posts i post p below (rw same at at) in
            subst (λ (n : ℕ). IsWatched r.mission r.history n p) (sym same) (subst (IsWatched r.mission r.history i) post_is one.watched)
      ]

  -- the device ended the run
  pub looking_over : (r2 : Recorded) → ((was : Known) → slice_get before i ≡ Some was → HasEnded i r r2 was known) → GoesOn r r2 × IsOver before (slice_set now i known) r2
  looking_over r2 ended = (
    one.goes_on,
    record {
      is_run = one.is_run;
      over = one.over;
      served = subst (λ (m : Mission). AreServed m r2.history before (slice_set now i known)) (sym one.goes_on.mission) each;
      broken = λ v ends. risen v (one.broken v ends);
    },
  )
    where
      n : ℕ
      n = now_of r.history

      one : HasEnded i r r2 (get_or before i known) known
      one = ended (get_or before i known) (slice_get-get_or before i known (omega (arith, below, x.before_are)))

      served : (I : Standing → Type 0) (d : ℕ) (was is : Known) (p : Post) → d ≢ i → IsManned I r.mission r.history d (now_of r.history) was is p → IsServed r.mission r2.history d was is
      served I d was is p apart y =
          served_now I r.mission r2.history d (now_of r.history) was is p (sym one.same_tick)
          (stands_on I I (λ st r. r) r.mission r.history r2.history d (now_of r.history) was is p (λ polls st. one.others d polls (now_of r.history) st apart) y)

      each : AreServed r.mission r2.history before (slice_set now i known)
      each d was is was_at is_at = elim (cases_lt d i) [
        | inl less ↦
            let apart : d ≢ i = λ e. omega (arith, less, e) in
            let old = at_other now i d known is apart is_at in
            let p_at = slice_get-get_or posts d post (omega (arith, less, below)) in
            served rests d was is (get_or posts d post) apart (x.done d was is (get_or posts d post) (omega arith) less was_at old p_at)
        | inr not_less ↦ elim (cases_lt i d) [
          | inl more ↦
              let apart : d ≢ i = λ e. omega (arith, more, e) in
              let old = at_other now i d known is apart is_at in
              let inside : d < length posts = omega (arith, slice_get_within now d is old, x.now_are) in
              let p_at = slice_get-get_or posts d post inside in
              served (HasJustBegun (now_of r.history)) d was is (get_or posts d post) apart (x.left d was is (get_or posts d post) (omega (arith, more)) inside was_at old p_at)
          | inr not_more ↦
              let same : d ≡ i = omega (arith, not_less, not_more) in
              let known_is : known ≡ is = at_this now i known is here (rw same at is_at) in
              let y : IsServed r.mission r2.history i was known = (ended was (rw same at was_at)).served in
              rw same (subst (λ (k : Known). IsServed r.mission r2.history i was k) known_is y)
        ]
      ]

      risen : (v : SvId) → (v.0 ≡ i) × Rose (get_or before i known).faults known.faults → HasRisen before (slice_set now i known) v.0
      risen v (same, rose) = rw same (record {
        was = get_or before i known;
        is = known;
        before_at = slice_get-get_or before i known (omega (arith, below, x.before_are));
        now_at = slice_get-set_same now i known here;
        rose = rose;
      })

-- the next device is one of those that weren't looked at
pub looking_next : (i : ℕ) (r : Recorded) (before now : List Known) (posts : List Post) (unknown known : Known) (post : Post) → AreLooking i r before now posts → i < length posts → slice_get now i ≡ Some known → slice_get posts i ≡ Some post → IsManned (HasJustBegun (now_of r.history)) r.mission r.history i (now_of r.history) (get_or before i unknown) known post
looking_next i r before now posts unknown known post x below now_at post_at = x.left i (get_or before i unknown) known post (omega arith) below (slice_get-get_or before i unknown (omega (arith, below, x.before_are))) now_at post_at
