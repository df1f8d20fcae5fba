-- The time that executed points give their leader.
use Rattle.std.proofs.Common.{◌≡◌, ℕ, ◌<◌, List, length, refl, sym, ap, ◌∙◌, arith, pos, inl, inr, get_or, drop, Option, Some, None}
use Rattle.std.proofs.lemmas.Int.{ints}
use Rattle.std.proofs.lemmas.List.{drop_more}
use Rattle.std.proofs.lemmas.List.Elements.{Contains-get_or}
use Rattle.std.specs.Prelude.{ℤ, ◌-ℤ◌, ◌≤ℤ◌, MatchOption}
use Rattle.hs_base.specs.declared.limits.TheConstants.{LAST}
use Rattle.hs_base.specs.declared.net.Net.{Net}
use Rattle.hs_base.specs.Network.{spread}
use Rattle.hs_base.specs.Reduced.{IsReducedOf}
use Rattle.hs_base.specs.declared.net.Member.{Member}
use Rattle.hs_base.specs.declared.net.Group.{Group}
use Rattle.hs_base.specs.Fits.{Times}
use Rattle.hs_base.specs.Dispatch.{stands, time_by, group_time, IsReached}
use Rattle.net_laws.proofs.ListLemmas.{has_from, contains_from}
use Rattle.dispatcher.specs.declared.groups.Told.{Told}
use Rattle.dispatcher.specs.State.{times_in}
use Rattle.dispatcher.specs.Index.{IsTold}

-- the first executed point is found
pub told_here : (times : List (Option ℤ)) (ms : List Member) (k : ℕ) (m : Member) (t : ℤ) → k < length ms → time_by (times_in times) (drop k ms) ≡ time_by (times_in times) ms → times_in times (get_or ms k m).point.0 ≡ Some t
    → IsTold times ms (t -ℤ (get_or ms k m).offset) (get_or ms k m).point.0
told_here times ms k m t kk same is = record {
  time = sym same ∙ ap (time_by (times_in times)) (drop_more ms k m kk) ∙ rw is refl;
  member = get_or ms k m;
  among = Contains-get_or ms k m kk;
  is = refl;
  executed = is ∙ ap Some (omega (arith, ints));
}

pub told_by_leader : (times : List (Option ℤ)) (g : Group) (t : ℤ) → times_in times g.leader.0 ≡ Some t → IsTold times (stands g) t g.leader.0
told_by_leader times g t is = record {
  time = rw is (ap Some (omega (arith, ints)));
  member = record { point = g.leader; offset = pos 0 };
  among = contains_from (stands g) (record { point = g.leader; offset = pos 0 }) (inl refl);
  is = refl;
  executed = is ∙ ap Some (omega (arith, ints));
}

pub told_by_member : (times : List (Option ℤ)) (g : Group) (t : ℤ) (q : ℕ) → times_in times g.leader.0 ≡ None → IsTold times g.members t q → IsTold times (stands g) t q
told_by_member times g t q none told = record {
  time = rw none told.time;
  member = told.member;
  among = contains_from (stands g) told.member (inr (has_from g.members told.member told.among));
  is = told.is;
  executed = told.executed;
}

pub told_after : (times : List (Option ℤ)) (g : Group) (r : Option Told) → times_in times g.leader.0 ≡ None → MatchOption r (time_by (times_in times) g.members ≡ None) (λ t. IsTold times g.members t.at t.by.0)
    → MatchOption r (group_time (times_in times) g ≡ None) (λ t. IsTold times (stands g) t.at t.by.0)
told_after times g None none h = rw none h
told_after times g (Some t) none h = told_by_member times g t.at t.by.0 none h

module _ (c : ℕ) (net : Net) (is : IsReducedOf c (spread net) net) (at : Times) (n : ℤ) (now : IsReached c net at n) where
  -- executed times are within LAST
  pub times_within : (x : ℕ) (t : ℤ) → at x ≡ Some t → (pos 0 ≤ℤ t) × (t ≤ℤ LAST)
  times_within x t e =
      let f = now.fits.meets in
      let ix = now.within x t e in
      let s = now.fits.past x t e in (
        omega (arith, ints, s, f.origin, (is.tight.after_origin x ix).holds now.some f),
        omega (arith, ints, s, f.origin, (is.tight.before_last x ix).holds now.some f),
      )
