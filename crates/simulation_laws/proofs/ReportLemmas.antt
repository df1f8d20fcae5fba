-- The report of an open script is Done, or comes early.
use Rattle.std.proofs.Common.{◌≡◌, ◌⊎◌, ℕ, ◌<◌, true, false, nat_le, List, None, refl, ap, subst, inl, inr, arith}
use Rattle.std.proofs.lemmas.Bool.Decides.{nat_tests}
use Rattle.hs_base.specs.declared.mission.Mission.{Mission}
use Rattle.hs_base.specs.declared.net.Bound.{Bound}
use Rattle.hs_base.specs.Moments.{Moment}
use Rattle.hs_machine.specs.declared.history.Entry.{Entry}
use Rattle.hs_machine.specs.declared.history.Phase.TheVariants.{Running}
use Rattle.hs_machine.specs.Machine.{Reply, Replies, ToldReply, done, failed, report}
use Rattle.hs_machine.specs.Reports.{Script}
use Rattle.hs_machine.specs.State.{count_at, executed, moment_of, phase_of, plan_of, watched}
use Rattle.base_laws.proofs.PointLemmas.{named}
use Rattle.simulation_laws.specs.Standing.{IsOpen}

told_reply : (m : Mission) (h : List Entry) (x : ℕ) (r : Reply) → phase_of h ≡ Running → x < count_at h → executed h x ≡ None → watched m h x ≡ true → Replies m h (report x) r → ToldReply (moment_of m h) x r
told_reply m h x r is below free seen lawful =
    let there : nat_le (count_at h) x ≡ false = grind (arith, nat_tests) in
    rw (is, there, free, seen) at lawful

by_reply : (w : Moment) (x : ℕ) (r : Reply) → ToldReply w x r → (r ≡ done) ⊎ ((b : Bound) × (r ≡ failed b) × (b.from.0 ≡ x))
by_reply w x done t = inl refl
by_reply w x (failed b) t = inr (b, refl, ap (λ (c : Bound). c.from.0) t.1.1)
by_reply w x _ t = absurd t

pub open_reported : (m : Mission) (h : List Entry) (d : ℕ) (s : Script) (r : Reply) → phase_of h ≡ Running → IsOpen m h d s → Replies m h (report s.point) r → (r ≡ done) ⊎ ((b : Bound) × (r ≡ failed b) × (b.from.0 ≡ s.point))
open_reported m h d s r is o lawful =
    let below : s.point < count_at h = subst (λ (x : ℕ). x < count_at h) o.end ((named (plan_of h)).ends_there d o.place o.below) in
    by_reply (moment_of m h) s.point r (told_reply m h s.point r is below o.waits o.observed lawful)
