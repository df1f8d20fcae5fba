-- Moments that are alike: what is decided in one is decided in the other.
use Rattle.std.proofs.Common.{◌≡◌, ℕ, Bool, true, false, not, nat_le, List, Option, Some, None, sym, subst}
use Rattle.std.specs.Prelude.{ℤ, MatchOption}
use Rattle.hs_base.specs.declared.net.Bound.{Bound}
use Rattle.hs_base.specs.Schedule.{Schedule, Implied, Tight}
use Rattle.hs_base.specs.Fits.{Times, Fits}
use Rattle.hs_base.specs.Moments.{Moment, MayFire, MayGoOn, MustFire, IsTied, IsLeastTied, IsUntied, Bars, IsLate, HaveSame, AreAlike}
use Rattle.hs_machine.specs.Machine.{Reply, done, due, not_yet, waits, observed, not_observed, already, no_point, failed, RefusedIf, PointReply, TickReply, OwnReply, ToldReply, FireReply, ReportReply}

pub swapped : (k l : List Bound) → HaveSame k l → HaveSame l k
swapped k l same = record { there = same.back; back = same.there }

pub turned : (v w : Moment) → AreAlike v w → AreAlike w v
turned v w a = record { points = sym a.points; schedules = swapped v.bounds w.bounds a.schedules; at = sym a.at; tick = sym a.tick; observed = sym a.observed }

implied : (k l : List Bound) → HaveSame k l → (p q : ℕ) (w : ℤ) → Implied k p q w → Implied l p q w
implied k l same p q w i = record { holds = λ s f. i.holds s (same.back s f) }

tight : (k l : List Bound) → HaveSame k l → (p q : ℕ) (w : ℤ) → Tight k p q w → Tight l p q w
tight k l same p q w t = record { implied = implied k l same p q w t.implied; least = λ v i. t.least v (implied l k (swapped k l same) p q v i) }

fits : (k l : List Bound) → HaveSame k l → (c : ℕ) (at : Times) (n : ℤ) (s : Schedule) → Fits c k at n s → Fits c l at n s
fits k l same c at n s f = record { meets = same.there s f.meets; past = f.past; future = f.future }

-- The same moment with other bounds.
abbrev with_bounds : Moment → List Bound → Moment
with_bounds w k = record w { bounds = k }

tied : (w : Moment) (k l : List Bound) → HaveSame k l → (x y : ℕ) → IsTied (with_bounds w k) x y → IsTied (with_bounds w l) x y
tied w k l same x y t = record { below = t.below; watched = t.watched; waiting = t.waiting; other = t.other; together = record { each = λ s f. t.together.each s (same.back s f) } }

module _ (w : Moment) (k l : List Bound) (same : HaveSame k l) where
  back : HaveSame l k
  back = swapped k l same

  fires : (x : ℕ) → MayFire (with_bounds w k) x → MayFire (with_bounds w l) x
  fires x may = record { s = may.s; fits = fits k l same w.points w.at w.tick may.s may.fits; here = may.here }

  goes_on : MayGoOn (with_bounds w k) → MayGoOn (with_bounds w l)
  goes_on may = record { s = may.s; fits = fits k l same w.points w.at w.tick may.s may.fits; later = may.later }

  must : (x : ℕ) → MustFire (with_bounds w k) x → MustFire (with_bounds w l) x
  must x d = record {
    below = d.below;
    none = d.none;
    forced = record { each = λ s f. d.forced.each s (fits l k back w.points w.at w.tick s f) };
    free = d.free;
    untied = λ y t. d.untied y (tied w l k back x y t);
  }

  least : (x y : ℕ) → IsLeastTied (with_bounds w k) x y → IsLeastTied (with_bounds w l) x y
  least x y t = record { tied = tied w k l same x y t.tied; least = λ z u. t.least z (tied w l k back x z u) }

  untied : (x : ℕ) → IsUntied (with_bounds w k) x → IsUntied (with_bounds w l) x
  untied x none y t = none y (tied w l k back x y t)

  bars : (x : ℕ) (b : Bound) → Bars (with_bounds w k) x b → Bars (with_bounds w l) x b
  bars x b f = (record { to = f.0.to; most = f.0.most; below = f.0.below; tight = tight k l same x f.0.to f.0.most f.0.tight; broken = f.0.broken }, f.1)

  late : (b : Bound) → IsLate (with_bounds w k) b → IsLate (with_bounds w l) b
  late b f = (record { from = f.0.from; to = f.0.to; most = f.0.most; at_from = f.0.at_from; set = f.0.set; watched = f.0.watched; open_to = f.0.open_to; tight = tight k l same f.0.from f.0.to f.0.most f.0.tight; late = f.0.late }, f.1)

-- The replies.
refused_if : (b : Bool) (refusal reply : Reply) (P Q : Type 0) → (P → Q) → RefusedIf b refusal reply P → RefusedIf b refusal reply Q
refused_if true refusal reply P Q g r = r
refused_if false refusal reply P Q g r = g r

if_open : (o : Option ℤ) (reply : Reply) (P Q : Type 0) → (P → Q) → MatchOption o P (λ t. reply ≡ already t) → MatchOption o Q (λ t. reply ≡ already t)
if_open None reply P Q g r = g r
if_open (Some t) reply P Q g r = r

-- a reply about a point, with another rest
pub point_reply : (w : Moment) (x : ℕ) (r : Reply) (P Q : Type 0) → (P → Q) → PointReply w x r P → PointReply w x r Q
point_reply w x r P Q g = refused_if (nat_le w.points x) no_point r (MatchOption (w.at x) P (λ t. r ≡ already t)) (MatchOption (w.at x) Q (λ t. r ≡ already t)) (if_open (w.at x) r P Q g)

module _ (w : Moment) (k l : List Bound) (same : HaveSame k l) where
  ticks : (r : Reply) → TickReply (with_bounds w k) r → TickReply (with_bounds w l) r
  ticks done d = goes_on w k l same d
  ticks (due x) d = (λ may. d.0 (goes_on w l k (swapped k l same) may), must w k l same x d.1)
  ticks (failed b) d = (λ may. d.0 (goes_on w l k (swapped k l same) may), λ x m. d.1 x (must w l k (swapped k l same) x m), late w k l same b d.2)
  ticks _ d = absurd d

  owns : (x : ℕ) (r : Reply) → OwnReply (with_bounds w k) x r → OwnReply (with_bounds w l) x r
  owns x (waits y) d = least w k l same x y d
  owns x done d = (untied w k l same x d.0, fires w k l same x d.1)
  owns x (not_yet b) d = (untied w k l same x d.0, λ may. d.1 (fires w l k (swapped k l same) x may), bars w k l same x b d.2)
  owns x _ d = absurd d

  tells : (x : ℕ) (r : Reply) → ToldReply (with_bounds w k) x r → ToldReply (with_bounds w l) x r
  tells x done d = fires w k l same x d
  tells x (failed b) d = (λ may. d.0 (fires w l k (swapped k l same) x may), bars w k l same x b d.1)
  tells x _ d = absurd d

  fire_replies : (x : ℕ) (r : Reply) → FireReply (with_bounds w k) x r → FireReply (with_bounds w l) x r
  fire_replies x r d =
      point_reply (with_bounds w k) x r (RefusedIf (w.observed x) observed r (OwnReply (with_bounds w k) x r)) (RefusedIf (w.observed x) observed r (OwnReply (with_bounds w l) x r))
      (refused_if (w.observed x) observed r (OwnReply (with_bounds w k) x r) (OwnReply (with_bounds w l) x r) (owns x r)) d

  report_replies : (x : ℕ) (r : Reply) → ReportReply (with_bounds w k) x r → ReportReply (with_bounds w l) x r
  report_replies x r d =
      point_reply (with_bounds w k) x r (RefusedIf (not (w.observed x)) not_observed r (ToldReply (with_bounds w k) x r)) (RefusedIf (not (w.observed x)) not_observed r (ToldReply (with_bounds w l) x r))
      (refused_if (not (w.observed x)) not_observed r (ToldReply (with_bounds w k) x r) (ToldReply (with_bounds w l) x r) (tells x r)) d

module _ (v w : Moment) (a : AreAlike v w) where
  -- what holds in the one moment holds in the other with the bounds of the first
  carried : (P : Moment → Type 0) → P v → P (with_bounds w v.bounds)
  carried P p =
      subst (λ o. P (record { points = w.points; bounds = v.bounds; at = w.at; tick = w.tick; observed = o })) a.observed
      (subst (λ n. P (record { points = w.points; bounds = v.bounds; at = w.at; tick = n; observed = v.observed })) a.tick
      (subst (λ t. P (record { points = w.points; bounds = v.bounds; at = t; tick = v.tick; observed = v.observed })) a.at
      (subst (λ c. P (record { points = c; bounds = v.bounds; at = v.at; tick = v.tick; observed = v.observed })) a.points p)))

  pub may_fire : (x : ℕ) → MayFire v x → MayFire w x
  may_fire x d = fires w v.bounds w.bounds a.schedules x (carried (λ u. MayFire u x) d)

  pub may_go_on : MayGoOn v → MayGoOn w
  may_go_on d = goes_on w v.bounds w.bounds a.schedules (carried MayGoOn d)

  pub must_fire : (x : ℕ) → MustFire v x → MustFire w x
  must_fire x d = must w v.bounds w.bounds a.schedules x (carried (λ u. MustFire u x) d)

  pub is_late : (b : Bound) → IsLate v b → IsLate w b
  is_late b d = late w v.bounds w.bounds a.schedules b (carried (λ u. IsLate u b) d)

  pub tick_reply : (r : Reply) → TickReply v r → TickReply w r
  tick_reply r d = ticks w v.bounds w.bounds a.schedules r (carried (λ u. TickReply u r) d)

  pub fire_reply : (x : ℕ) (r : Reply) → FireReply v x r → FireReply w x r
  fire_reply x r d = fire_replies w v.bounds w.bounds a.schedules x r (carried (λ u. FireReply u x r) d)

  pub report_reply : (x : ℕ) (r : Reply) → ReportReply v x r → ReportReply w x r
  report_reply x r d = report_replies w v.bounds w.bounds a.schedules x r (carried (λ u. ReportReply u x r) d)
