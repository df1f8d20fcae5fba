-- Reading a log from left to right, one definition a nonterminal.
use Rattle.std.specs.Prelude.{ℕ, ◌-◌, ℤ, neg_ℤ, Bool, ◌||◌, List, [], length, Option, codes}
use Rattle.std.specs.Str.{byte}
use Rattle.hs_base.specs.declared.mission.Mission.{Mission}
use Rattle.hs_machine.specs.declared.history.Phase.{Phase}
use Rattle.hs_machine.specs.declared.history.Phase.TheVariants.{Waiting, Running, Failed, Ended}
use Rattle.hs_texts.specs.declared.written.WrittenPoint.{WrittenPoint}
use Rattle.hs_texts.specs.declared.written.WrittenPoint.TheVariants.{Horizon, End}
use Rattle.hs_texts.specs.declared.written.WrittenBody.{WrittenBody}
use Rattle.hs_texts.specs.declared.written.WrittenExtension.{WrittenExtension}
use Rattle.hs_texts.specs.Pieces.{Piece}
use Rattle.hs_texts.specs.Kept.{Kept, kept, broken}
use Rattle.hs_texts.specs.PlanGrammar.{point_size}
use Rattle.text_laws.specs.Parsers.{Parser, go_on, ◌>>=◌, yields, is_word, is_sign, choose, keyword, number, after, behind}
use Rattle.text_laws.specs.MissionReading.{name_at}
use Rattle.plan_text.specs.PlanReading.{onward_at, series, count_at, exactly_at, one_more_at, token_at, point_at, body_at}
use Rattle.log_laws.specs.declared.written.WrittenBound.{WrittenBound}
use Rattle.log_laws.specs.declared.written.WrittenMiss.{WrittenMiss}
use Rattle.log_laws.specs.declared.written.WrittenDeed.{WrittenDeed}
use Rattle.log_laws.specs.declared.written.WrittenDeed.TheVariants.{Handover, Fire, Report, Late, Early, Broken}
use Rattle.log_laws.specs.declared.written.WrittenEntry.{WrittenEntry}
use Rattle.log_laws.specs.declared.written.WrittenLog.{WrittenLog}
use Rattle.log_laws.specs.LogGrammar.{held, Counted, stale_entry, plan_behind}

unfoldable pub negated_at : Parser ℤ
negated_at = do
  n ← number
  yields (neg_ℤ n)

unfoldable pub signed_at : Parser ℤ
signed_at = choose (is_sign (byte "-")) (behind "-" negated_at) number

-- Points of the plan that was handed over last.

unfoldable pub point_of_at : Mission → List WrittenExtension → Parser (Kept WrittenPoint)
point_of_at m es = do
  point ← point_at
  yields (held m es (point_size point) point)

unfoldable pub token_of_at : Mission → List WrittenExtension → Parser (Kept WrittenPoint)
token_of_at m es = do
  token ← token_at
  yields (held m es 2 (End token))

unfoldable pub horizon_of_at : Mission → List WrittenExtension → Parser (Kept WrittenPoint)
horizon_of_at m es = do
  k ← count_at
  yields (held m es 1 (Horizon k))

unfoldable pub bound_most_at : WrittenPoint → WrittenPoint → Parser (Kept WrittenBound)
bound_most_at from to = do
  _ ← keyword "most"
  most ← signed_at
  yields (kept (record { from = from; to = to; most = most }))

unfoldable pub bound_to_at : Mission → List WrittenExtension → WrittenPoint → Parser (Kept WrittenBound)
bound_to_at m es from = do
  _ ← keyword "to"
  to ← point_of_at m es
  onward_at (bound_most_at from) to

unfoldable pub bound_of_at : Mission → List WrittenExtension → Parser (Kept WrittenBound)
bound_of_at m es = point_of_at m es >>= onward_at (bound_to_at m es)

-- a bound between any points
unfoldable pub bound_at : Parser WrittenBound
bound_at = do
  from ← point_at
  _ ← keyword "to"
  to ← point_at
  _ ← keyword "most"
  most ← signed_at
  yields (record { from = from; to = to; most = most })

-- Entries.

unfoldable pub timed_at : WrittenDeed → Parser (Kept WrittenEntry)
timed_at deed = do
  _ ← keyword "at"
  at ← number
  yields (kept (record { at = at; deed = deed }))

unfoldable pub any_name_at : Parser (Kept (List ℕ))
any_name_at = do
  name ← name_at 1
  yields (kept name)

unfoldable pub handed_at : ℕ → ℤ → ℕ → ℕ → WrittenBody → Parser (Kept WrittenEntry)
handed_at base at groups edges body = yields (kept (record { at = at; deed = Handover (record { base = base; body = body }) groups edges }))

unfoldable pub handover_back_at : Mission → List WrittenExtension → ℕ → Parser (Kept WrittenEntry)
handover_back_at m es base = do
  _ ← keyword "at"
  at ← number
  _ ← keyword "groups"
  groups ← count_at
  _ ← keyword "edges"
  edges ← count_at
  body ← body_at m es
  onward_at (handed_at base at groups edges) body

unfoldable pub handover_number_at : Mission → List WrittenExtension → Parser (Kept WrittenEntry)
handover_number_at m es = one_more_at >>= onward_at (handover_back_at m es)

unfoldable pub missed_at : WrittenBound → ℤ → ℤ → WrittenBody → Parser (Kept WrittenMiss)
missed_at bound from to body = yields (kept (record { bound = bound; from_time = from; to_time = to; body = body }))

unfoldable pub miss_at : Mission → List WrittenExtension → Parser (Kept WrittenMiss)
miss_at m es = do
  bound ← bound_at
  _ ← keyword "times"
  from ← number
  to ← number
  body ← body_at m es
  onward_at (missed_at bound from to) body

-- a value and the number of its pieces
abbrev pub with_size : {A : Type 0} → ℕ → Kept A → Kept (Counted A)
with_size n (kept x) = kept (record { value = x; size = n })
with_size n (broken k) = broken k

unfoldable pub counted_at : {A : Type 0} → Parser (Kept A) → Parser (Kept (Counted A))
counted_at p ps = go_on (p ps) (λ v rest. yields (with_size (length ps - length rest) v) rest)

unfoldable pub stale_end_at : Mission → List WrittenExtension → ℕ → ℤ → Counted WrittenMiss → Parser (Kept WrittenEntry)
stale_end_at m es base at c = yields (stale_entry m es base at c)

unfoldable pub stale_back_at : Mission → List WrittenExtension → ℕ → Parser (Kept WrittenEntry)
stale_back_at m es base = do
  _ ← keyword "at"
  at ← number
  _ ← keyword "bound"
  miss ← counted_at (miss_at m es)
  onward_at (stale_end_at m es base at) miss

unfoldable pub stale_number_at : Mission → List WrittenExtension → Parser (Kept WrittenEntry)
stale_number_at m es = one_more_at >>= onward_at (stale_back_at m es)

unfoldable pub handover_at : Mission → List WrittenExtension → Parser (Kept WrittenEntry)
handover_at m es = after "handover" (handover_number_at m es)

unfoldable pub stale_at : Mission → List WrittenExtension → Parser (Kept WrittenEntry)
stale_at m es = after "stale" (stale_number_at m es)

unfoldable pub fire_at : Mission → List WrittenExtension → Parser (Kept WrittenEntry)
fire_at m es = after "fire" (token_of_at m es >>= onward_at (λ point. timed_at (Fire point)))

unfoldable pub report_at : Mission → List WrittenExtension → Parser (Kept WrittenEntry)
report_at m es = after "report" (token_of_at m es >>= onward_at (λ point. timed_at (Report point)))

unfoldable pub pass_at : Mission → List WrittenExtension → Parser (Kept WrittenEntry)
pass_at m es = after "horizon" (horizon_of_at m es >>= onward_at (λ point. timed_at (Fire point)))

unfoldable pub late_at : Mission → List WrittenExtension → Parser (Kept WrittenEntry)
late_at m es = after "late" (bound_of_at m es >>= onward_at (λ bound. timed_at (Late bound)))

unfoldable pub early_at : Mission → List WrittenExtension → Parser (Kept WrittenEntry)
early_at m es = after "early" (bound_of_at m es >>= onward_at (λ bound. timed_at (Early bound)))

unfoldable pub broken_at : Parser (Kept WrittenEntry)
broken_at = after "broken" (any_name_at >>= onward_at (λ name. timed_at (Broken name)))

unfoldable pub entry_at : Mission → List WrittenExtension → Parser (Kept WrittenEntry)
entry_at m es =
    choose (is_word (codes "handover")) (handover_at m es)
    (choose (is_word (codes "stale")) (stale_at m es)
    (choose (is_word (codes "fire")) (fire_at m es)
    (choose (is_word (codes "report")) (report_at m es)
    (choose (is_word (codes "horizon")) (pass_at m es)
    (choose (is_word (codes "late")) (late_at m es)
    (choose (is_word (codes "early")) (early_at m es) broken_at))))))

-- whether an entry begins there
abbrev pub is_entry : Option Piece → Bool
is_entry o =
    is_word (codes "handover") o || is_word (codes "stale") o || is_word (codes "fire") o || is_word (codes "report") o
    || is_word (codes "horizon") o || is_word (codes "late") o || is_word (codes "early") o || is_word (codes "broken") o

unfoldable pub phase_at : Parser Phase
phase_at =
    choose (is_word (codes "waiting")) (after "waiting" (yields Waiting))
    (choose (is_word (codes "running")) (after "running" (yields Running))
    (choose (is_word (codes "failed")) (after "failed" (yields Failed)) (after "ended" (yields Ended))))

unfoldable pub log_end_at : List WrittenEntry → Parser (Kept WrittenLog)
log_end_at entries = do
  _ ← keyword "stop"
  phase ← phase_at
  _ ← keyword "at"
  at ← number
  yields (kept (record { entries = entries; phase = phase; at = at }))

unfoldable pub entries_at : Mission → Parser (Kept (List WrittenEntry))
entries_at m = series is_entry (entry_at m) plan_behind []

unfoldable pub log_back_at : Mission → Unit {0} → Parser (Kept WrittenLog)
log_back_at m _ = do
  entries ← entries_at m
  onward_at log_end_at entries

unfoldable pub log_at : Mission → Parser (Kept WrittenLog)
log_at m = do
  _ ← keyword "hsts"
  _ ← keyword "log"
  version ← exactly_at 1
  onward_at (log_back_at m) version
