-- The grammar of logs' texts, with the rules on points and numbers in it.
use Rattle.std.specs.Prelude.{◌≡◌, ℕ, ◌+◌, ◌-◌, ℤ, neg_ℤ, cond, List, [], ◌∷◌, ◌++◌, length}
use Rattle.hs_base.specs.declared.mission.Mission.{Mission}
use Rattle.hs_machine.specs.declared.history.Phase.{Phase}
use Rattle.hs_machine.specs.declared.history.Phase.TheVariants.{Waiting, Running, Failed, Ended}
use Rattle.hs_texts.specs.declared.written.WrittenPoint.{WrittenPoint}
use Rattle.hs_texts.specs.declared.written.WrittenPoint.TheVariants.{Horizon, End}
use Rattle.hs_texts.specs.declared.written.WrittenBody.{WrittenBody}
use Rattle.hs_texts.specs.declared.written.WrittenExtension.{WrittenExtension}
use Rattle.hs_texts.specs.Languages.{Language, Yields, ◌>>=◌, ◌∣◌, Keyword, Number, After, Behind}
use Rattle.hs_texts.specs.Kept.{Kept, kept, broken, onward, Series}
use Rattle.hs_texts.specs.PlanGrammar.{Name, Count, has_point, point_size, Exactly, OneMore, TokenText, PointText, BodyText}
use Rattle.log_laws.specs.declared.written.WrittenBound.{WrittenBound}
use Rattle.log_laws.specs.declared.written.WrittenMiss.{WrittenMiss}
use Rattle.log_laws.specs.declared.written.WrittenDeed.{WrittenDeed}
use Rattle.log_laws.specs.declared.written.WrittenDeed.TheVariants.{Handover, Stale, Fire, Report, Late, Early, Broken}
use Rattle.log_laws.specs.declared.written.WrittenEntry.{WrittenEntry}
use Rattle.log_laws.specs.declared.written.WrittenLog.{WrittenLog}

-- signed := [ "-" ] number
abbrev pub Negated : Language ℤ
Negated = do
  n ← Number
  Yields (neg_ℤ n)

abbrev pub Signed : Language ℤ
Signed = Behind "-" Negated ∣ Number

-- Points of the plan that was handed over last.

-- a point that the plan has; another may not stand there, with its last pieces, so many
abbrev pub held : Mission → List WrittenExtension → ℕ → WrittenPoint → Kept WrittenPoint
held m es size point = cond (has_point m es point) (kept point) (broken size)

abbrev pub PointOf : Mission → List WrittenExtension → Language (Kept WrittenPoint)
PointOf m es = do
  point ← PointText
  Yields (held m es (point_size point) point)

-- the end of a token
abbrev pub TokenOf : Mission → List WrittenExtension → Language (Kept WrittenPoint)
TokenOf m es = do
  token ← TokenText
  Yields (held m es 2 (End token))

-- a horizon by its number
abbrev pub HorizonOf : Mission → List WrittenExtension → Language (Kept WrittenPoint)
HorizonOf m es = do
  k ← Count
  Yields (held m es 1 (Horizon k))

-- bound := point "to" point "most" signed
abbrev pub BoundMost : WrittenPoint → WrittenPoint → Language (Kept WrittenBound)
BoundMost from to = do
  _ ← Keyword "most"
  most ← Signed
  Yields (kept (record { from = from; to = to; most = most }))

abbrev pub BoundTo : Mission → List WrittenExtension → WrittenPoint → Language (Kept WrittenBound)
BoundTo m es from = do
  _ ← Keyword "to"
  to ← PointOf m es
  onward (BoundMost from) to

abbrev pub BoundOf : Mission → List WrittenExtension → Language (Kept WrittenBound)
BoundOf m es = PointOf m es >>= onward (BoundTo m es)

-- the same, between any points
abbrev pub BoundText : Language WrittenBound
BoundText = do
  from ← PointText
  _ ← Keyword "to"
  to ← PointText
  _ ← Keyword "most"
  most ← Signed
  Yields (record { from = from; to = to; most = most })

-- Entries; es is the plan that was handed over last.

-- what a deed says, "at" number
abbrev pub Timed : WrittenDeed → Language (Kept WrittenEntry)
Timed deed = do
  _ ← Keyword "at"
  at ← Number
  Yields (kept (record { at = at; deed = deed }))

abbrev pub TimedText : {A : Type 0} → Language (Kept A) → (A → WrittenDeed) → Language (Kept WrittenEntry)
TimedText R deed = R >>= onward (λ said. Timed (deed said))

-- a name, on which there is no rule
abbrev pub AnyName : Language (Kept (List ℕ))
AnyName = do
  name ← Name
  Yields (kept name)

-- "handover" number "at" number "groups" number "edges" number body, where the first number is one more than the base
abbrev pub Handed : ℕ → ℤ → ℕ → ℕ → WrittenBody → Language (Kept WrittenEntry)
Handed base at groups edges body = Yields (kept (record { at = at; deed = Handover (record { base = base; body = body }) groups edges }))

abbrev pub HandoverBack : Mission → List WrittenExtension → ℕ → Language (Kept WrittenEntry)
HandoverBack m es base = do
  _ ← Keyword "at"
  at ← Number
  _ ← Keyword "groups"
  groups ← Count
  _ ← Keyword "edges"
  edges ← Count
  body ← BodyText m es
  onward (Handed base at groups edges) body

abbrev pub HandoverText : Mission → List WrittenExtension → Language (Kept WrittenEntry)
HandoverText m es = After "handover" (OneMore >>= onward (HandoverBack m es))

-- bound "times" number number body
abbrev pub Missed : WrittenBound → ℤ → ℤ → WrittenBody → Language (Kept WrittenMiss)
Missed bound from to body = Yields (kept (record { bound = bound; from_time = from; to_time = to; body = body }))

abbrev pub MissText : Mission → List WrittenExtension → Language (Kept WrittenMiss)
MissText m es = do
  bound ← BoundText
  _ ← Keyword "times"
  from ← Number
  to ← Number
  body ← BodyText m es
  onward (Missed bound from to) body

-- a value, and the number of its pieces
pub record Counted (A : Type 0) : Type 0 where
  pub value : A
  pub size : ℕ

abbrev pub CountedText : {A : Type 0} → Language (Kept A) → Language (Kept (Counted A))
CountedText R ps (kept c) = R ps (kept c.value) × (c.size ≡ length ps)
CountedText R ps (broken n) = R ps (broken n)

-- the points of the bound are points of the plan with the body, which stands behind them: one that isn't may not stand there, with all pieces from it on
abbrev pub stale_entry : Mission → List WrittenExtension → ℕ → ℤ → Counted WrittenMiss → Kept WrittenEntry
stale_entry m es base at c =
    let miss = c.value in
    let extension : WrittenExtension = record { base = base; body = miss.body } in
    cond (has_point m (es ++ extension ∷ []) miss.bound.from)
    (cond (has_point m (es ++ extension ∷ []) miss.bound.to)
    (kept (record { at = at; deed = Stale extension miss.bound miss.from_time miss.to_time }))
    (broken (c.size - (point_size miss.bound.from + 1))))
    (broken c.size)

-- "stale" number "at" number "bound" bound "times" number number body, where the first number is one more than the base
abbrev pub StaleEnd : Mission → List WrittenExtension → ℕ → ℤ → Counted WrittenMiss → Language (Kept WrittenEntry)
StaleEnd m es base at c = Yields (stale_entry m es base at c)

abbrev pub StaleBack : Mission → List WrittenExtension → ℕ → Language (Kept WrittenEntry)
StaleBack m es base = do
  _ ← Keyword "at"
  at ← Number
  _ ← Keyword "bound"
  miss ← CountedText (MissText m es)
  onward (StaleEnd m es base at) miss

abbrev pub StaleText : Mission → List WrittenExtension → Language (Kept WrittenEntry)
StaleText m es = After "stale" (OneMore >>= onward (StaleBack m es))

-- an entry
abbrev pub EntryText : Mission → List WrittenExtension → Language (Kept WrittenEntry)
EntryText m es =
    HandoverText m es ∣ StaleText m es
    ∣ After "fire" (TimedText (TokenOf m es) Fire) ∣ After "report" (TimedText (TokenOf m es) Report)
    ∣ After "horizon" (TimedText (HorizonOf m es) Fire) ∣ After "late" (TimedText (BoundOf m es) Late)
    ∣ After "early" (TimedText (BoundOf m es) Early) ∣ After "broken" (TimedText AnyName Broken)

-- the plan behind a deed: a handover adds to it
abbrev pub handed_over : List WrittenExtension → WrittenDeed → List WrittenExtension
handed_over es (Handover extension groups edges) = es ++ extension ∷ []
handed_over es _ = es

abbrev pub plan_behind : List WrittenExtension → WrittenEntry → List WrittenExtension
plan_behind es e = handed_over es e.deed

-- phase := "waiting" | "running" | "failed" | "ended"
abbrev pub PhaseText : Language Phase
PhaseText = After "waiting" (Yields Waiting) ∣ After "running" (Yields Running) ∣ After "failed" (Yields Failed) ∣ After "ended" (Yields Ended)

-- log := "hsts" "log" 1 entry* "stop" phase "at" number
abbrev pub LogEnd : List WrittenEntry → Language (Kept WrittenLog)
LogEnd entries = do
  _ ← Keyword "stop"
  phase ← PhaseText
  _ ← Keyword "at"
  at ← Number
  Yields (kept (record { entries = entries; phase = phase; at = at }))

abbrev pub LogBack : Mission → Unit {0} → Language (Kept WrittenLog)
LogBack m _ = do
  entries ← Series (EntryText m) plan_behind []
  onward LogEnd entries

abbrev pub LogGrammar : Mission → Language (Kept WrittenLog)
LogGrammar m = do
  _ ← Keyword "hsts"
  _ ← Keyword "log"
  version ← Exactly 1
  onward (LogBack m) version
