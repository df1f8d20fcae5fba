-- The schedule machine: one event, its reply, and the entry that it leaves.
use Rattle.std.specs.Prelude.{◌≡◌, ◌≢◌, ◌⊎◌, ℕ, zero, suc, ◌-◌, Bool, true, false, not, ◌&&◌, nat_le, ℤ, List, [], ◌∷◌, ◌++◌, length, take, Option, Some, None, MatchBool, MatchOption, option_to_list, ⊤}
use Rattle.hs_base.specs.declared.net.Bound.{Bound}
use Rattle.hs_base.specs.declared.plan.Extension.{Extension}
use Rattle.hs_base.specs.declared.mission.Mission.{Mission}
use Rattle.hs_machine.specs.Types.{Entry, Deed, Tick, Fire, Report, Handover, Stale, Late, Early, Broken, Phase, Waiting, Failed, Ended}
use Rattle.hs_base.specs.Schedule.{Schedule}
use Rattle.hs_base.specs.Points.{count}
use Rattle.hs_base.specs.Bounds.{bounds_of}
use Rattle.hs_base.specs.Reduced.{IsReducedOf}
use Rattle.hs_base.specs.Checked.{Checked}
use Rattle.hs_base.specs.Fits.{Fits, Breaks}
use Rattle.hs_base.specs.Moments.{Moment, MayFire, MayGoOn, MustFire, IsLeastTied, IsUntied, Bars, IsLate}
use Rattle.hs_machine.specs.State.{plan_of, executed, tick_at, moment_of, phase_of}
use Rattle.hs_base.specs.Snapshots.{Snapshot}
use Rattle.hs_machine.specs.Views.{snapshot_of, Line, line_of}

-- a handover names the mission that the plan was checked for, and the whole plan
pub data Event : Type 0 where
  tick : Event
  fire : ℕ → Event
  report : ℕ → Event
  broken : ℕ → Event
  handover : Mission → List Extension → Event
  look : Event
  line : ℕ → Event

pub data Reply : Type 0 where
  done : Reply
  due : ℕ → Reply
  not_yet : Bound → Reply
  waits : ℕ → Reply
  observed : Reply
  not_observed : Reply
  already : ℤ → Reply
  no_point : Reply
  failed : Bound → Reply
  stale : Bound → ℤ → ℤ → Reply
  not_next : ℕ → ℕ → Reply
  over : Reply
  no_net : Reply
  other_mission : Reply
  seen : Snapshot → Reply
  shown : Line → Reply
  memory : Reply

-- where the test holds the reply is that refusal, and otherwise the rest decides
abbrev pub RefusedIf : Bool → Reply → Reply → Type 0 → Type 0
RefusedIf test refusal reply rest = MatchBool test (reply ≡ refusal) rest

-- a reply about a point: it has to exist, and not to be executed yet
abbrev pub PointReply : Moment → ℕ → Reply → Type 0 → Type 0
PointReply w x reply rest = RefusedIf (nat_le w.points x) no_point reply (MatchOption (w.at x) rest (λ t. reply ≡ already t))

-- the reply to a tick
abbrev pub TickReply : Moment → Reply → Type 0
TickReply w done = MayGoOn w
TickReply w (due x) = (MayGoOn w → ⊥) × MustFire w x
TickReply w (failed b) = (MayGoOn w → ⊥) × ((x : ℕ) → MustFire w x → ⊥) × IsLate w b
TickReply w _ = ⊥

-- the reply to the fire of a point that is not observed, and to the report of one that is
abbrev pub OwnReply : Moment → ℕ → Reply → Type 0
OwnReply w x (waits y) = IsLeastTied w x y
OwnReply w x done = IsUntied w x × MayFire w x
OwnReply w x (not_yet b) = IsUntied w x × (MayFire w x → ⊥) × Bars w x b
OwnReply w x _ = ⊥

abbrev pub ToldReply : Moment → ℕ → Reply → Type 0
ToldReply w x done = MayFire w x
ToldReply w x (failed b) = (MayFire w x → ⊥) × Bars w x b
ToldReply w x _ = ⊥

-- the reply to the fire of any point, and to its report
abbrev pub FireReply : Moment → ℕ → Reply → Type 0
FireReply w x reply = PointReply w x reply (RefusedIf (w.observed x) observed reply (OwnReply w x reply))

abbrev pub ReportReply : Moment → ℕ → Reply → Type 0
ReportReply w x reply = PointReply w x reply (RefusedIf (not (w.observed x)) not_observed reply (ToldReply w x reply))

-- the plan without its last extension
abbrev pub base_of : List Extension → List Extension
base_of es = take (length es - 1) es

-- the plan is the newest one with one more extension
abbrev pub IsNext : List Extension → List Extension → Type 0
IsNext newest es = (es ≢ []) × (base_of es ≡ newest)

-- the lists agree on so many leading extensions, and on no more
abbrev pub AgreeOn : List Extension → List Extension → ℕ → Type 0
AgreeOn [] ys n = n ≡ 0
AgreeOn (x ∷ xs) [] n = n ≡ 0
AgreeOn (x ∷ xs) (y ∷ ys) zero = x ≢ y
AgreeOn (x ∷ xs) (y ∷ ys) (suc n) = (x ≡ y) × AgreeOn xs ys n

-- the plan is not the next one: the newest has so many extensions, of which it has so many leading ones
abbrev pub IsNotNext : List Extension → List Extension → ℕ → ℕ → Type 0
IsNotNext newest es current agree = (IsNext newest es → ⊥) × (current ≡ length newest) × AgreeOn newest (base_of es) agree

-- s is a schedule of the offered plan that agrees with the past
abbrev pub FitsOffer : Mission → List Entry → List Extension → Schedule → Type 0
FitsOffer m h es s = Fits (count es) (bounds_of m es) (executed h) (tick_at h) s

abbrev pub HandoverReply : Mission → List Entry → Mission → List Extension → Reply → Type 0
HandoverReply m h m2 es memory = ⊤
HandoverReply m h m2 es other_mission = m2 ≢ m
HandoverReply m h m2 es (not_next current agree) = (m2 ≡ m) × IsNotNext (plan_of h) es current agree
HandoverReply m h m2 es (stale b p q) = (m2 ≡ m) × IsNext (plan_of h) es × ((s : Schedule) → FitsOffer m h es s → ⊥) × Breaks (count es) (bounds_of m es) (executed h) (tick_at h) b p q
HandoverReply m h m2 es done = (m2 ≡ m) × IsNext (plan_of h) es × ((s : Schedule) × FitsOffer m h es s)
HandoverReply m h m2 es _ = ⊥

-- a reply about a variable: it has to exist
abbrev pub VariableReply : Mission → ℕ → Reply → Type 0 → Type 0
VariableReply m v reply rest = RefusedIf (nat_le (length m.vars) v) no_point reply rest

-- the reply to each event that the phase allows
abbrev pub EventReply : Mission → List Entry → Event → Reply → Type 0
EventReply m h tick reply = TickReply (moment_of m h) reply
EventReply m h (fire x) reply = FireReply (moment_of m h) x reply
EventReply m h (report x) reply = ReportReply (moment_of m h) x reply
EventReply m h (broken d) reply = VariableReply m d reply (reply ≡ done)
EventReply m h (handover m2 es) reply = HandoverReply m h m2 es reply
EventReply m h look reply = (reply ≡ memory) ⊎ (reply ≡ seen (snapshot_of m h))
EventReply m h (line v) reply = VariableReply m v reply (reply ≡ shown (line_of m h v))

abbrev pub is_over : Phase → Bool
is_over Failed = true
is_over Ended = true
is_over _ = false

abbrev pub is_waiting : Phase → Bool
is_waiting Waiting = true
is_waiting _ = false

-- an event that asks for a plan
abbrev pub needs_net : Event → Bool
needs_net tick = true
needs_net (fire x) = true
needs_net (report x) = true
needs_net (line v) = true
needs_net _ = false

-- the replies that the machine may give: the first line that applies decides
abbrev pub Replies : Mission → List Entry → Event → Reply → Type 0
Replies m h event reply = RefusedIf (is_over (phase_of h)) over reply (RefusedIf (is_waiting (phase_of h) && needs_net event) no_net reply (EventReply m h event reply))

-- the event and the reply that leave a deed; a plan that is handed over, or found to be stale, is checked
abbrev pub IsLeftBy : Mission → Deed → Event → Reply → Type 0
IsLeftBy m Tick event reply = (event ≡ tick) × (reply ≡ done)
IsLeftBy m (Fire x) event reply = (event ≡ fire x.0) × (reply ≡ done)
IsLeftBy m (Report x) event reply = (event ≡ report x.0) × (reply ≡ done)
IsLeftBy m (Handover e n) event reply =
    (es : List Extension) × (event ≡ handover m (es ++ e ∷ [])) × (reply ≡ done) × IsReducedOf (count (es ++ e ∷ [])) (bounds_of m (es ++ e ∷ [])) n × Checked m (es ++ e ∷ [])
IsLeftBy m (Stale e b p q) event reply = (es : List Extension) × (event ≡ handover m (es ++ e ∷ [])) × (reply ≡ stale b p q) × Checked m (es ++ e ∷ [])
IsLeftBy m (Late b) event reply = (event ≡ tick) × (reply ≡ failed b)
IsLeftBy m (Early b) event reply = (event ≡ report b.from.0) × (reply ≡ failed b)
IsLeftBy m (Broken d) event reply = (event ≡ broken d.0) × (reply ≡ done)

-- a reply that leaves an entry
abbrev pub leaves_deed : Reply → Bool
leaves_deed done = true
leaves_deed (failed b) = true
leaves_deed (stale b p q) = true
leaves_deed _ = false

-- the entry that a reply leaves, if it leaves one
abbrev pub IsAdded : Mission → ℕ → Event → Reply → Option Entry → Type 0
IsAdded m by event reply None = leaves_deed reply ≡ false
IsAdded m by event reply (Some e) = (e.by ≡ by) × IsLeftBy m e.deed event reply

-- a reply that the machine may give, and the entry that it adds
pub record Answers (m : Mission) (h : List Entry) (by : ℕ) (event : Event) (reply : Reply) (added : Option Entry) : Type 0 where
  pub lawful : Replies m h event reply
  pub leaves : IsAdded m by event reply added

-- the machine takes the history h and an event to the reply and the history h2
pub record Turn (m : Mission) (h : List Entry) (by : ℕ) (event : Event) (reply : Reply) (h2 : List Entry) : Type 0 where
  pub added : Option Entry
  pub answers : Answers m h by event reply added
  pub after : h2 ≡ h ++ option_to_list added
