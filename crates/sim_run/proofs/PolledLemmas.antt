-- The devices of a tick, of which some were polled.
use Rattle.std.proofs.Common.{◌≡◌, ◌≢◌, ℕ, ◌+◌, ◌-◌, ◌<◌, List, length, map, get_or, Some, refl, sym, ap, ◌∙◌, subst, arith, inl, inr}
use Rattle.std.proofs.lemmas.Bool.{cases_lt}
use Rattle.std.proofs.lemmas.List.{length-map, length-set, map-set, set-get_or}
use Rattle.std.proofs.lemmas.Option.{slice_get_within, slice_get-get_or}
use Rattle.std.specs.Prelude.{slice_get, slice_set}
use Rattle.hs_base.specs.declared.ids.PointId.{PointId}
use Rattle.hs_base.specs.declared.ids.SvId.{SvId}
use Rattle.hs_base.specs.declared.mission.Mission.{Mission}
use Rattle.hs_machine.specs.State.{now_of}
use Rattle.hs_port.specs.Causes.{Rose}
use Rattle.plan_check.proofs.NeedLemmas.{slice_get-mapped}
use Rattle.plan_index.proofs.LineLemmas.{slice_get-set_same}
use Rattle.exec_core.specs.Recorded.{Recorded}
use Rattle.simulation_laws.specs.Standing.{HasJustBegun, Standing}
use Rattle.sim_run.specs.Told.{HasRisen, Known}
use Rattle.sim_run.specs.Manned.{AreManned, AreServed, AreWatched, IsManned, IsServed, rests}
use Rattle.sim_run.specs.Moves.{GoesOn, IsGoing, IsOver}
use Rattle.sim_run.specs.Parts.{HasEnded, IsAsked, IsCrewed, IsReady, IsTicked, Watches}
use Rattle.sim_run.specs.declared.polling.Polled.{Polled}
use Rattle.sim_run.specs.declared.polling.Polled.TheVariants.{Over, Quiet, Reported}
use Rattle.sim_run.specs.declared.post.Post.{Post}
use Rattle.sim_run.specs.declared.watch.Watch.{Watch}
use Rattle.sim_run.proofs.MoveLemmas.{goes_then, stays}
use Rattle.sim_run.proofs.CrewLemmas.{at_other, at_this, one_more, others_left, rests_anew, served_before, served_now, stands_on}

-- what a device without a script may do, once some were polled
abbrev pub idles_by : Polled → ℕ → Standing → Type 0
idles_by Quiet k st = rests st
idles_by _ k st = HasJustBegun k st

idles_anew : (polled : Polled) (k : ℕ) (st : Standing) → idles_by polled k st → HasJustBegun k st
idles_anew Quiet k st r = rests_anew k st r
idles_anew Reported k st r = r
idles_anew Over k st r = r

-- the first i devices were polled at this tick
pub record ArePolled (i : ℕ) (polled : Polled) (first r : Recorded) (before now : List Known) (posts_before posts : List Post) : Type 0 where
  pub going : IsGoing r
  pub goes_on : GoesOn first r
  pub tick : now_of r.history ≡ now_of first.history
  pub later : 0 < now_of first.history
  pub quiet : polled ≡ Quiet → r ≡ first
  pub not_over : polled ≢ Over
  pub posts_are : length posts ≡ length r.mission.vars
  pub now_are : length now ≡ length posts
  pub before_are : length before ≡ length posts
  pub done : AreManned 0 i (idles_by polled (now_of first.history)) r.mission r.history (now_of first.history) before now posts
  pub left : AreManned i (length posts) rests r.mission r.history (now_of first.history - 1) before now posts
  pub ends : map (λ (p : Post). p.end) posts ≡ map (λ (p : Post). p.end) posts_before

pub polled_begins : (r : Recorded) (before now : List Known) (w : Watch) → IsTicked r before now w → ArePolled 0 Quiet r r before now w.posts.items w.posts.items
polled_begins r before now w t = record {
  going = t.going;
  goes_on = stays r;
  tick = refl;
  later = t.tick;
  quiet = λ q. refl;
  not_over = λ (e : Quiet ≡ Over). cc;
  posts_are = t.posts_are;
  now_are = t.now_are;
  before_are = t.before_are;
  done = λ d was is post low high. absurd (omega (arith, high));
  left = t.manned;
  ends = refl;
}

module _ (i : ℕ) (polled : Polled) (first r : Recorded) (before now : List Known) (posts_before posts : List Post) (x : ArePolled i polled first r before now posts_before posts) (below : i < length posts) (known : Known) (post : Post) where
  here : i < length now
  here = omega (arith, below, x.now_are)

  -- its post ends where it ended
  same_ends : ((old : Post) → slice_get posts i ≡ Some old → post.end ≡ old.end) → map (λ (p : Post). p.end) (slice_set posts i post) ≡ map (λ (p : Post). p.end) posts_before
  same_ends same =
      let at = slice_get-get_or posts i post below in
      map-set (λ (p : Post). p.end) posts i post ∙ ap (λ (e : PointId). slice_set (map (λ (p : Post). p.end) posts) i e) (same (get_or posts i post) at) ∙ sym (map-set (λ (p : Post). p.end) posts i (get_or posts i post)) ∙ ap (map (λ (p : Post). p.end)) (set-get_or posts i post) ∙ x.ends

  -- its script goes on, or none runs
  pub polled_quiet : ((was : Known) → slice_get before i ≡ Some was → IsManned rests r.mission r.history i (now_of r.history) was known post) → ((old : Post) → slice_get posts i ≡ Some old → post.end ≡ old.end) → ArePolled (i + 1) polled first r before (slice_set now i known) posts_before (slice_set posts i post)
  polled_quiet manned same = record {
    going = x.going;
    goes_on = x.goes_on;
    tick = x.tick;
    later = x.later;
    quiet = x.quiet;
    not_over = x.not_over;
    posts_are = length-set posts i post ∙ x.posts_are;
    now_are = length-set now i known ∙ x.now_are ∙ sym (length-set posts i post);
    before_are = x.before_are ∙ sym (length-set posts i post);
    done = one_more 0 i (idles_by polled (now_of first.history)) r.mission r.history (now_of first.history) before now posts known post here below x.done (λ was at. this was (manned was at));
    left = subst (λ (n : ℕ). AreManned (i + 1) n rests r.mission r.history (now_of first.history - 1) before (slice_set now i known) (slice_set posts i post)) (sym (length-set posts i post)) (others_left i (length posts) rests r.mission r.history (now_of first.history - 1) before now posts known post x.left);
    ends = same_ends same;
  }
    where
      idle : (p : Polled) (st : Standing) → rests st → idles_by p (now_of first.history) st
      idle Quiet st r = r
      idle Reported st r = rests_anew (now_of first.history) st r
      idle Over st r = rests_anew (now_of first.history) st r

      this : (was : Known) → IsManned rests r.mission r.history i (now_of r.history) was known post → IsManned (idles_by polled (now_of first.history)) r.mission r.history i (now_of first.history) was known post
      this was y = stands_on rests (idles_by polled (now_of first.history)) (idle polled) r.mission r.history r.history i (now_of first.history) was known post (λ polls st s. s) (subst (λ (n : ℕ). IsManned rests r.mission r.history i n was known post) x.tick y)

  -- its script has finished, and was reported
  pub polled_reported : (r2 : Recorded) → ((was : Known) → slice_get before i ≡ Some was → IsAsked i r r2 was known post) → ((old : Post) → slice_get posts i ≡ Some old → post.end ≡ old.end) → ArePolled (i + 1) Reported first r2 before (slice_set now i known) posts_before (slice_set posts i post)
  polled_reported r2 asked same = record {
    going = one.going;
    goes_on = goes_then first r r2 x.goes_on one.goes_on;
    tick = one.same_tick ∙ x.tick;
    later = x.later;
    quiet = λ (e : Reported ≡ Quiet). absurd (cc);
    not_over = λ (e : Reported ≡ Over). cc;
    posts_are = length-set posts i post ∙ x.posts_are ∙ ap (λ (m : Mission). length m.vars) (sym mission);
    now_are = length-set now i known ∙ x.now_are ∙ sym (length-set posts i post);
    before_are = x.before_are ∙ sym (length-set posts i post);
    done = subst (λ (m : Mission). AreManned 0 (i + 1) anew m r2.history n before (slice_set now i known) (slice_set posts i post)) (sym mission)
        (one_more 0 i anew r.mission r2.history n before now posts known post here below before_it (λ was at. subst (λ (t : ℕ). IsManned (HasJustBegun t) r.mission r2.history i t was known post) x.tick (asked was at).manned));
    left = subst (λ (m : Mission). AreManned (i + 1) (length (slice_set posts i post)) rests m r2.history (n - 1) before (slice_set now i known) (slice_set posts i post)) (sym mission)
        (subst (λ (b : ℕ). AreManned (i + 1) b rests r.mission r2.history (n - 1) before (slice_set now i known) (slice_set posts i post)) (sym (length-set posts i post)) behind_it);
    ends = same_ends same;
  }
    where
      n : ℕ
      n = now_of first.history

      anew : Standing → Type 0
      anew = HasJustBegun (now_of first.history)

      one : IsAsked i r r2 (get_or before i known) known post
      one = asked (get_or before i known) (slice_get-get_or before i known (omega (arith, below, x.before_are)))

      mission : r2.mission ≡ r.mission
      mission = one.goes_on.mission

      before_it : AreManned 0 i anew r.mission r2.history n before now posts
      before_it d was is p low high was_at is_at p_at = stands_on (idles_by polled n) anew (idles_anew polled n) r.mission r.history r2.history d n was is p (λ polls st. one.others d polls n st (λ e. omega (arith, high, e))) (x.done d was is p low high was_at is_at p_at)

      behind_it : AreManned (i + 1) (length posts) rests r.mission r2.history (n - 1) before (slice_set now i known) (slice_set posts i post)
      behind_it d was is p low high was_at is_at p_at =
          let apart : d ≢ i = λ e. omega (arith, low, e) in
          stands_on rests rests (λ st r. r) r.mission r.history r2.history d (n - 1) was is p (λ polls st. one.others d polls (n - 1) st apart) (x.left d was is p (omega (arith, low)) high was_at (at_other now i d known is apart is_at) (at_other posts i d post p apart p_at))

  -- the device ended the run
  pub polled_over : (r2 : Recorded) → ((was : Known) → slice_get before i ≡ Some was → HasEnded i r r2 was known) → GoesOn first r2 × IsOver before (slice_set now i known) r2
  polled_over r2 ended = (
    goes_then first r r2 x.goes_on one.goes_on,
    record {
      is_run = one.is_run;
      over = one.over;
      served = subst (λ (m : Mission). AreServed m r2.history before (slice_set now i known)) (sym one.goes_on.mission) each;
      broken = λ v ends. risen v (one.broken v ends);
    },
  )
    where
      n : ℕ
      n = now_of first.history

      one : HasEnded i r r2 (get_or before i known) known
      one = ended (get_or before i known) (slice_get-get_or before i known (omega (arith, below, x.before_are)))

      each : AreServed r.mission r2.history before (slice_set now i known)
      each d was is was_at is_at = elim (cases_lt d i) [
        | inl less ↦
            let apart : d ≢ i = λ e. omega (arith, less, e) in
            let old = at_other now i d known is apart is_at in
            let p_at = slice_get-get_or posts d post (omega (arith, less, below)) in
            let y = x.done d was is (get_or posts d post) (omega arith) less was_at old p_at in
            served_now (idles_by polled n) r.mission r2.history d n was is (get_or posts d post) (sym (one.same_tick ∙ x.tick))
            (stands_on (idles_by polled n) (idles_by polled n) (λ st r. r) r.mission r.history r2.history d n was is (get_or posts d post) (λ polls st. one.others d polls n st apart) y)
        | inr not_less ↦ elim (cases_lt i d) [
          | inl more ↦
              let apart : d ≢ i = λ e. omega (arith, more, e) in
              let old = at_other now i d known is apart is_at in
              let inside : d < length posts = omega (arith, slice_get_within now d is old, x.now_are) in
              let p_at = slice_get-get_or posts d post inside in
              let y = x.left d was is (get_or posts d post) (omega (arith, more)) inside was_at old p_at in
              served_before rests r.mission r2.history d (n - 1) was is (get_or posts d post) (omega (arith, x.later, one.same_tick, x.tick)) one.by_device
              (stands_on rests rests (λ st r. r) r.mission r.history r2.history d (n - 1) was is (get_or posts d post) (λ polls st. one.others d polls (n - 1) st apart) y)
          | inr not_more ↦
              let same : d ≡ i = omega (arith, not_less, not_more) in
              let known_is : known ≡ is = at_this now i known is here (rw same at is_at) in
              let y : IsServed r.mission r2.history i was known = (ended was (rw same at was_at)).served in
              rw same (subst (λ (k : Known). IsServed r.mission r2.history i was k) known_is y)
        ]
      ]

      risen : (v : SvId) → (v.0 ≡ i) × Rose (get_or before i known).faults known.faults → HasRisen before (slice_set now i known) v.0
      risen v (same, rose) = rw same (record {
        was = get_or before i known;
        is = known;
        before_at = slice_get-get_or before i known (omega (arith, below, x.before_are));
        now_at = slice_get-set_same now i known here;
        rose = rose;
      })

-- all of them were
module _ (polled : Polled) (first r : Recorded) (before now : List Known) (w w2 : Watch) (x : ArePolled (length now) polled first r before now w.posts.items w2.posts.items) where
  all : length now ≡ length w2.posts.items
  all = x.now_are

  pub polled_still : polled ≡ Quiet → Watches first.mission first.history w → w2.mark ≡ w.mark → (r ≡ first) × IsReady r before now w2
  polled_still q watches mark = (
    x.quiet q,
    record {
      crewed = record {
        going = x.going;
        posts_are = x.posts_are;
        now_are = x.now_are;
        before_are = x.before_are;
        manned = λ d was is p low high was_at is_at p_at. stands_on (idles_by polled (now_of first.history)) rests (λ st. subst (λ (o : Polled). idles_by o (now_of first.history) st → rests st) (sym q) (λ i. i)) r.mission r.history r.history d (now_of r.history) was is p (λ polls st s. s)
            (subst (λ (n : ℕ). IsManned (idles_by polled (now_of first.history)) r.mission r.history d n was is p) (sym x.tick) (x.done d was is p low (omega (arith, high, all)) was_at is_at p_at));
      };
      watches = subst (λ (y : Recorded). Watches y.mission y.history w2) (sym (x.quiet q)) (still, ap (λ (p : PointId). p.0) mark ∙ watches.1);
    },
  )
    where
      still : AreWatched 0 (length w2.posts.items) first.mission first.history w2.posts.items
      still d p low high at =
          let size : length w2.posts.items ≡ length w.posts.items = sym (length-map w2.posts.items (λ (q : Post). q.end)) ∙ ap length x.ends ∙ length-map w.posts.items (λ (q : Post). q.end) in
          let old_at = slice_get-get_or w.posts.items d p (omega (arith, high, size)) in
          let same : Some p.end ≡ Some (get_or w.posts.items d p).end =
          sym (slice_get-mapped (λ (q : Post). q.end) w2.posts.items d p at) ∙ ap (λ (l : List PointId). slice_get l d) x.ends ∙ slice_get-mapped (λ (q : Post). q.end) w.posts.items d (get_or w.posts.items d p) old_at in
          let end : p.end ≡ (get_or w.posts.items d p).end = cc in
          ap (λ (e : PointId). e.0) end ∙ watches.0 d (get_or w.posts.items d p) low (omega (arith, high, size)) old_at

  pub polled_anew : polled ≡ Reported → GoesOn first r × IsCrewed (HasJustBegun (now_of r.history)) r before now w2.posts.items
  polled_anew is = (
    x.goes_on,
    record {
      going = x.going;
      posts_are = x.posts_are;
      now_are = x.now_are;
      before_are = x.before_are;
      manned = λ d was is p low high was_at is_at p_at. subst (λ (n : ℕ). IsManned (HasJustBegun n) r.mission r.history d n was is p) (sym x.tick)
          (stands_on (idles_by polled (now_of first.history)) (HasJustBegun (now_of first.history)) (idles_anew polled (now_of first.history)) r.mission r.history r.history d (now_of first.history) was is p (λ polls st s. s) (x.done d was is p low (omega (arith, high, all)) was_at is_at p_at));
    },
  )
