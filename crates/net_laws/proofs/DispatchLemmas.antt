-- What kept edges decide, in the words of the definitions.
use Rattle.std.proofs.Common.{◌≡◌, ℕ, ◌<◌, sym, subst, ◌↔◌, Some, None, pos}
use Rattle.std.specs.Prelude.{ℤ, ◌+ℤ◌, Contains, map}
use Rattle.hs_base.specs.declared.net.Member.{Member}
use Rattle.hs_base.specs.declared.net.Group.{Group}
use Rattle.hs_base.specs.declared.net.Net.{Net}
use Rattle.hs_base.specs.Schedule.{Schedule}
use Rattle.hs_base.specs.Network.{spread}
use Rattle.hs_base.specs.Reduced.{IsTable, IsReducedOf, leaders, group_of, reduced}
use Rattle.hs_base.specs.Fits.{Times, Fits, MayBeNow, MayTick, IsForced}
use Rattle.hs_base.specs.Dispatch.{stands, group_time, leader_times, IsEnabled, IsFree, Marked, IsReached}
use Rattle.net_laws.proofs.ListLemmas.{contains_from, map_has}
use Rattle.net_laws.proofs.GroupLemmas.{leader_of}
use Rattle.net_laws.proofs.ExactLemmas.{table_of}
use Rattle.net_laws.proofs.TimeLemmas.{in_stands}
use Rattle.net_laws.proofs.DecidingLemmas.{may_fire_when_enabled, may_tick_when_free, forced_when_marked, members_follow, members_of_set}

module _ (c : ℕ) (net : Net) where
  module _ (at : Times) (n : ℤ) (is : IsReducedOf c (spread net) net) (now : IsReached c net at n) where
    abbrev table : IsTable c is.table
    table = table_of c (spread net) is.table is.tight

    abbrev there : IsReached c (reduced c is.table) at n
    there = subst (λ (z : Net). IsReached c z at n) is.is now

    pub fire : (g : Group) → Contains net.groups g → group_time at g ≡ None → MayBeNow c (spread net) at n g.leader.0 ↔ IsEnabled net.edges (leader_times net.groups at) n g.leader.0
    fire = subst (λ (z : Net). (g : Group) → Contains z.groups g → group_time at g ≡ None → MayBeNow c (spread z) at n g.leader.0 ↔ IsEnabled z.edges (leader_times z.groups at) n g.leader.0) (sym is.is) (may_fire_when_enabled c is.table table at n there)

    pub tick : MayTick c (spread net) at n ↔ IsFree net at n
    tick = subst (λ (z : Net). MayTick c (spread z) at n ↔ IsFree z at n) (sym is.is) (may_tick_when_free c is.table table at n there)

    pub forced : (g : Group) → Contains net.groups g → group_time at g ≡ None → IsForced c (spread net) at n g.leader.0 ↔ Marked net.edges (leader_times net.groups at) n g.leader.0
    forced = subst (λ (z : Net). (g : Group) → Contains z.groups g → group_time at g ≡ None → IsForced c (spread z) at n g.leader.0 ↔ Marked z.edges (leader_times z.groups at) n g.leader.0) (sym is.is) (forced_when_marked c is.table table at n there)

    pub member : (g : Group) (m : Member) → Contains net.groups g → Contains (stands g) m → group_time at g ≡ None
        → (IsForced c (spread net) at n m.point.0 ↔ ((m.offset ≡ pos 0) × IsForced c (spread net) at n g.leader.0))
        × (MayBeNow c (spread net) at n m.point.0 ↔ ((m.offset ≡ pos 0) × MayBeNow c (spread net) at n g.leader.0))
    member = subst (λ (z : Net). (g : Group) (m : Member) → Contains z.groups g → Contains (stands g) m → group_time at g ≡ None
        → (IsForced c (spread z) at n m.point.0 ↔ ((m.offset ≡ pos 0) × IsForced c (spread z) at n g.leader.0))
        × (MayBeNow c (spread z) at n m.point.0 ↔ ((m.offset ≡ pos 0) × MayBeNow c (spread z) at n g.leader.0))) (sym is.is) (members_follow c is.table table at n there)

    pub set : (g : Group) (m : Member) (t : ℤ) → Contains net.groups g → Contains (stands g) m → group_time at g ≡ Some t → (s : Schedule) → Fits c (spread net) at n s → s m.point.0 ≡ t +ℤ m.offset
    set = subst (λ (z : Net). (g : Group) (m : Member) (t : ℤ) → Contains z.groups g → Contains (stands g) m → group_time at g ≡ Some t → (s : Schedule) → Fits c (spread z) at n s → s m.point.0 ≡ t +ℤ m.offset) (sym is.is) (members_of_set c is.table table at n there)

  pub each_stands : IsReducedOf c (spread net) net → (x : ℕ) → x < c → (g : Group) × (m : Member) × Contains net.groups g × Contains (stands g) m × (m.point.0 ≡ x)
  each_stands is x ix =
      let l = leader_of c is.table (table_of c (spread net) is.table is.tight) x ix in
      let m = in_stands c is.table l.at x ix l.rigid in
      let g = group_of c is.table l.at in
      (g, m.0, subst (λ (z : Net). Contains z.groups g) (sym is.is) (contains_from (map (group_of c is.table) (leaders c is.table)) g (map_has (group_of c is.table) (leaders c is.table) l.at l.has)), contains_from (stands g) m.0 m.1, m.2)
