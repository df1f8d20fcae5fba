-- The text of a log is written as its nonterminals have it.
use Rattle.std.proofs.Common.{◌≡◌, ◌≤◌, ℕ, suc, ◌+◌, ◌-◌, ◌<◌, ℤ, pos, negsuc, Bool, true, false, cond, List, [], ◌∷◌, ◌++◌, length, refl, sym, ap, ◌∙◌, subst, append_assoc, arith, codes}
use Rattle.std.proofs.lemmas.Int.{ints}
use Rattle.std.specs.Prelude.{Some, neg_ℤ}
use Rattle.std.specs.Fmt.{decimal, signed_decimal, digits}
use Rattle.hs_base.specs.declared.limits.TheConstants.{LAST}
use Rattle.hs_base.specs.declared.mission.Mission.{Mission}
use Rattle.hs_base.specs.declared.net.Bound.{Bound}
use Rattle.hs_base.specs.declared.net.Net.{Net}
use Rattle.hs_base.specs.declared.plan.Extension.{Extension}
use Rattle.hs_machine.specs.declared.history.Deed.TheVariants.{Handover, Stale, Late, Early}
use Rattle.hs_machine.specs.declared.history.Phase.{Phase}
use Rattle.hs_machine.specs.declared.history.Phase.TheVariants.{Waiting, Running, Failed, Ended}
use Rattle.hs_machine.specs.declared.history.Entry.{Entry}
use Rattle.hs_base.specs.Missions.{IsMission}
use Rattle.hs_base.specs.Ranges.{range, whole, InRange}
use Rattle.hs_base.specs.Walks.{join_after}
use Rattle.hs_base.specs.Points.{Point, horizon, ending, points_of}
use Rattle.hs_machine.specs.State.{now_of, phase_of}
use Rattle.hs_texts.specs.declared.written.WrittenPoint.{WrittenPoint}
use Rattle.hs_texts.specs.declared.written.WrittenPoint.TheVariants.{Horizon, End}
use Rattle.hs_texts.specs.declared.written.WrittenExtension.{WrittenExtension}
use Rattle.hs_texts.specs.Languages.{Language}
use Rattle.hs_texts.specs.Kept.{Kept, kept, broken, Series}
use Rattle.hs_texts.specs.Written.{variable_name, spelled_point, point_in, bound_text, body_in}
use Rattle.hs_texts.specs.PlanGrammar.{has_point, point_size}
use Rattle.log_laws.specs.LogText.{at_text, fired_text, deed_text, phase_text, stop_text, entry_text, log_text}
use Rattle.log_laws.specs.declared.written.WrittenMiss.{WrittenMiss}
use Rattle.log_laws.specs.declared.written.WrittenDeed.{WrittenDeed}
use Rattle.log_laws.specs.declared.written.WrittenDeed.TheVariants.{Handover as handed, Stale as went_stale, Fire as fired, Report as reported, Late as too_late, Early as too_early, Broken as broke}
use Rattle.log_laws.specs.declared.written.WrittenEntry.{WrittenEntry}
use Rattle.log_laws.specs.LogGrammar.{Signed, PointOf, TokenOf, HorizonOf, BoundOf, BoundText, TimedText, MissText, CountedText, stale_entry, EntryText, plan_behind, PhaseText, LogGrammar}
use Rattle.text_laws.specs.Writes.{Writes}
use Rattle.text_laws.specs.WritablePlans.{written_at, written_body, written_extension, written_plan}
use Rattle.log_laws.specs.WritableLogs.{written_bound, written_entry, written_entries, written_log}
use Rattle.text_laws.proofs.WritesLemmas.{three, five, left, right, respelled, spaced, next_line, ended, followed, closed_then, yielded, and_nothing, number_written, keyword, keyed, keyed_between, signed}
use Rattle.text_laws.proofs.PlanPrintedLemmas.{variable_written, count_written, exactly_written, one_more_written, numbered_written, token_end_written, HasPoint, IsWritableBody, body_written, written_plan-push}
use Rattle.text_laws.proofs.PlanMeaningLemmas.{number_had}

-- Bounds.

-- a minus stands directly before its number
signed_written : (z : ℤ) → InRange (range (neg_ℤ LAST) LAST) z → Writes Signed false (signed_decimal z) z
signed_written (pos n) h = right (number_written (pos n) (omega (arith, ints), h.1))
signed_written (negsuc n) h = left (signed "-" refl refl (yielded (number_written (pos (suc n)) (omega (arith, ints), omega (arith, ints, h.0))) refl))

-- the points and the weight of a bound can be written
pub record IsSpellable (m : Mission) (ps : List Point) (b : Bound) : Type 0 where
  pub from : HasPoint m ps b.from.0
  pub to : HasPoint m ps b.to.0
  pub most : InRange (range (neg_ℤ LAST) LAST) b.most

bound_written : (m : Mission) (es : List Extension) (b : Bound) → IsMission m → IsSpellable m (points_of es) b → Writes BoundText false (bound_text m es b) (written_bound m es b)
bound_written m es b i h =
    let ps = points_of es in
    respelled (five (point_in m ps b.from.0) (codes " to ") (point_in m ps b.to.0) (codes " most ") (signed_decimal b.most)) refl
    (followed (numbered_written m ps b.from.0 i h.from) (λ behind a. refl) (keyed_between "to" " to " refl refl
    (followed (numbered_written m ps b.to.0 i h.to) (λ behind a. refl) (keyed_between "most" " most " refl refl (yielded (signed_written b.most h.most) refl)))))

-- a point that the plan has may stand
held_is : (m : Mission) (ws : List WrittenExtension) (size : ℕ) (point : WrittenPoint) → has_point m ws point ≡ true → kept point ≡ cond (has_point m ws point) (kept point) (broken size)
held_is m ws size point h = sym (ap (λ (b : Bool). cond b (kept point) (broken size)) h)

point_written : (m : Mission) (es : List Extension) (p : ℕ) → IsMission m → HasPoint m (points_of es) p → Writes (PointOf m (written_plan m es)) false (point_in m (points_of es) p) (kept (written_at m (points_of es) p))
point_written m es p i h =
    let point = written_at m (points_of es) p in
    yielded (numbered_written m (points_of es) p i h) (held_is m (written_plan m es) (point_size point) point (number_had m es p h))

-- a bound between points of the plan
held_written : (m : Mission) (es : List Extension) (b : Bound) → IsMission m → IsSpellable m (points_of es) b → Writes (BoundOf m (written_plan m es)) false (bound_text m es b) (kept (written_bound m es b))
held_written m es b i h =
    let ps = points_of es in
    respelled (five (point_in m ps b.from.0) (codes " to ") (point_in m ps b.to.0) (codes " most ") (signed_decimal b.most)) refl
    (followed (point_written m es b.from.0 i h.from) (λ behind a. refl) (keyed_between "to" " to " refl refl
    (followed (point_written m es b.to.0 i h.to) (λ behind a. refl) (keyed_between "most" " most " refl refl (yielded (signed_written b.most h.most) refl)))))

-- Entries behind the plan es.

time_in_whole : (now : ℕ) → now ≤ 1000000000 → InRange whole (pos now)
time_in_whole now h = (omega (arith, ints), omega (arith, ints, h))

-- what a deed says, and its time
timed : {A : Type 0} {R : Language (Kept A)} {deed : A → WrittenDeed} {t : List ℕ} {x : A} (now : ℕ) → now ≤ 1000000000 → Writes R false t (kept x) → Writes (TimedText R deed) true (t ++ (codes " at " ++ (decimal now ++ codes "\n"))) (kept (written_entry now (deed x)))
timed now h w = followed w (λ behind a. refl) (keyed_between "at" " at " refl refl (ended (yielded (number_written (pos now) (time_in_whole now h)) refl)))

-- a keyword, what it says, and the time
timed_parts : (a b c d e : List ℕ) → a ++ (b ++ (c ++ (d ++ e))) ≡ (a ++ b) ++ (c ++ d) ++ e
timed_parts a b c d e = simp append_assoc

-- the end of a variable's token
abbrev pub written_end : Mission → ℕ → ℕ → WrittenPoint
written_end m v i = End (record { sv = variable_name m v; place = i })

token_held : (m : Mission) (ws : List WrittenExtension) (v i : ℕ) → IsMission m → v < length m.vars → i ≤ 1000000000 → has_point m ws (written_end m v i) ≡ true → Writes (TokenOf m ws) false (spelled_point m (ending v i)) (kept (written_end m v i))
token_held m ws v j i h few had = yielded (token_end_written m v j i h few) (held_is m ws 2 (written_end m v j) had)

horizon_held : (m : Mission) (ws : List WrittenExtension) (k : ℕ) → k ≤ 1000000000 → has_point m ws (Horizon k) ≡ true → Writes (HorizonOf m ws) false (decimal k) (kept (Horizon k))
horizon_held m ws k few had = yielded (count_written k few) (held_is m ws 1 (Horizon k) had)

pub fire_written : (m : Mission) (ws : List WrittenExtension) (now v i : ℕ) → IsMission m → now ≤ 1000000000 → v < length m.vars → i ≤ 1000000000 → has_point m ws (written_end m v i) ≡ true → Writes (EntryText m ws) true (fired_text m (Some (ending v i)) ++ at_text now ++ codes "\n") (kept (written_entry now (fired (written_end m v i))))
fire_written m ws now v j i t h few had =
    respelled (timed_parts (codes "fire ") (spelled_point m (ending v j)) (codes " at ") (decimal now) (codes "\n")) refl
    (right (right (left (keyed "fire" "fire " refl refl (timed {deed = fired} now t (token_held m ws v j i h few had))))))

pub report_written : (m : Mission) (ws : List WrittenExtension) (now v i : ℕ) → IsMission m → now ≤ 1000000000 → v < length m.vars → i ≤ 1000000000 → has_point m ws (written_end m v i) ≡ true → Writes (EntryText m ws) true (codes "report " ++ spelled_point m (ending v i) ++ at_text now ++ codes "\n") (kept (written_entry now (reported (written_end m v i))))
report_written m ws now v j i t h few had =
    respelled (timed_parts (codes "report ") (spelled_point m (ending v j)) (codes " at ") (decimal now) (codes "\n")) refl
    (right (right (right (left (keyed "report" "report " refl refl (timed {deed = reported} now t (token_held m ws v j i h few had)))))))

pub pass_written : (m : Mission) (ws : List WrittenExtension) (now k : ℕ) → now ≤ 1000000000 → k ≤ 1000000000 → has_point m ws (Horizon k) ≡ true → Writes (EntryText m ws) true (fired_text m (Some (horizon k)) ++ at_text now ++ codes "\n") (kept (written_entry now (fired (Horizon k))))
pass_written m ws now k t few had =
    respelled (timed_parts (codes "horizon ") (decimal k) (codes " at ") (decimal now) (codes "\n")) refl
    (right (right (right (right (left (keyed "horizon" "horizon " refl refl (timed {deed = fired} now t (horizon_held m ws k few had))))))))

pub late_written : (m : Mission) (now : ℕ) (es : List Extension) (b : Bound) → IsMission m → now ≤ 1000000000 → IsSpellable m (points_of es) b → Writes (EntryText m (written_plan m es)) true (deed_text m now es (Late b)) (kept (written_entry now (too_late (written_bound m es b))))
late_written m now es b i t h =
    respelled (timed_parts (codes "late ") (bound_text m es b) (codes " at ") (decimal now) (codes "\n")) refl
    (right (right (right (right (right (left (keyed "late" "late " refl refl (timed {deed = too_late} now t (held_written m es b i h)))))))))

pub early_written : (m : Mission) (now : ℕ) (es : List Extension) (b : Bound) → IsMission m → now ≤ 1000000000 → IsSpellable m (points_of es) b → Writes (EntryText m (written_plan m es)) true (deed_text m now es (Early b)) (kept (written_entry now (too_early (written_bound m es b))))
early_written m now es b i t h =
    respelled (timed_parts (codes "early ") (bound_text m es b) (codes " at ") (decimal now) (codes "\n")) refl
    (right (right (right (right (right (right (left (keyed "early" "early " refl refl (timed {deed = too_early} now t (held_written m es b i h))))))))))

pub broken_written : (m : Mission) (ws : List WrittenExtension) (now v : ℕ) → IsMission m → now ≤ 1000000000 → v < length m.vars → Writes (EntryText m ws) true (codes "broken " ++ variable_name m v ++ at_text now ++ codes "\n") (kept (written_entry now (broke (variable_name m v))))
broken_written m ws now v i t h =
    respelled (timed_parts (codes "broken ") (variable_name m v) (codes " at ") (decimal now) (codes "\n")) refl
    (right (right (right (right (right (right (right (keyed "broken" "broken " refl refl (timed {deed = broke} now t (yielded (variable_written m v i h) refl))))))))))

handover_parts : (a b c d s g h i j k body : List ℕ) → a ++ (b ++ (c ++ (d ++ (s ++ (g ++ (h ++ (i ++ (j ++ (k ++ body))))))))) ≡ a ++ b ++ (c ++ d) ++ s ++ (g ++ h ++ i ++ j) ++ k ++ body
handover_parts a b c d s g h i j k body = simp append_assoc

pub handover_written : (m : Mission) (now : ℕ) (es : List Extension) (e : Extension) (net : Net) → IsMission m → now ≤ 1000000000 → e.base + 1 ≤ 1000000000 → length net.groups ≤ 1000000000 → length net.edges ≤ 1000000000 → IsWritableBody m es e → Writes (EntryText m (written_plan m es)) true (deed_text m now es (Handover e net)) (kept (written_entry now (handed (written_extension m es e) (length net.groups) (length net.edges))))
handover_written m now es e net i t b g n h =
    respelled (handover_parts (codes "handover ") (decimal (e.base + 1)) (codes " at ") (decimal now) (codes " ") (codes "groups ") (decimal (length net.groups)) (codes " edges ") (decimal (length net.edges)) (codes "\n") (body_in m (points_of es) e)) refl
    (left (keyed "handover" "handover " refl refl (followed (one_more_written e.base b) (λ behind a. refl)
    (keyed_between "at" " at " refl refl (followed (number_written (pos now) (time_in_whole now t)) (λ behind a. refl)
    (spaced (keyed "groups" "groups " refl refl (followed (count_written (length net.groups) g) (λ behind a. refl)
    (keyed_between "edges" " edges " refl refl (followed (count_written (length net.edges) n) (λ behind a. refl)
    (next_line (and_nothing (body_written m es e i h) (refl, refl)))))))))))))

-- Stale plans.

stale_parts : (a b c d e f g h s i j body : List ℕ) → a ++ (b ++ (c ++ (d ++ (e ++ (f ++ (g ++ (h ++ (s ++ (i ++ (j ++ body)))))))))) ≡ a ++ b ++ (c ++ d) ++ e ++ f ++ g ++ h ++ s ++ i ++ j ++ body
stale_parts a b c d e f g h s i j body = simp append_assoc

-- a bound of the plan with the extension e
abbrev missed : Mission → List Extension → Extension → Bound → ℤ → ℤ → WrittenMiss
missed m es e b from to = record { bound = written_bound m (es ++ e ∷ []) b; from_time = from; to_time = to; body = written_body m es e }

-- the bound, its times and the body
abbrev miss_text : Mission → List Extension → Extension → Bound → ℤ → ℤ → List ℕ
miss_text m es e b from to = bound_text m (es ++ e ∷ []) b ++ (codes " times " ++ (signed_decimal from ++ (codes " " ++ (signed_decimal to ++ (codes "\n" ++ body_in m (points_of es) e)))))

miss_written : (m : Mission) (es : List Extension) (e : Extension) (b : Bound) (from to : ℤ) → IsMission m → IsSpellable m (points_of (es ++ e ∷ [])) b → InRange whole from → InRange whole to → IsWritableBody m es e → Writes (MissText m (written_plan m es)) true (miss_text m es e b from to) (kept (missed m es e b from to))
miss_written m es e b from to i k f g h =
    followed (bound_written m (es ++ e ∷ []) b i k) (λ behind a. refl)
    (keyed_between "times" " times " refl refl (followed (number_written from f) (λ behind a. refl)
    (spaced (followed (number_written to g) (λ behind a. refl)
    (next_line (and_nothing (body_written m es e i h) (refl, refl)))))))

-- the pieces are counted
counted : {A : Type 0} {R : Language (Kept A)} {k : Bool} {t : List ℕ} {x : A} (w : Writes R k t (kept x)) → Writes (CountedText R) k t (kept (record { value = x; size = length w.pieces }))
counted w = record { pieces = w.pieces; sentence = (w.sentence, refl); cut = w.cut }

-- the plan with the extension has the points of the bound
entry_is : (m : Mission) (now : ℕ) (es : List Extension) (e : Extension) (b : Bound) (from to : ℤ) (size : ℕ) → IsSpellable m (points_of (es ++ e ∷ [])) b → kept (written_entry now (went_stale (written_extension m es e) (written_bound m (es ++ e ∷ []) b) from to)) ≡ stale_entry m (written_plan m es) e.base (pos now) (record { value = missed m es e b from to; size = size })
entry_is m now es e b from to size k =
    let more = es ++ e ∷ [] in
    let at = λ (p : ℕ). written_at m (points_of more) p in
    let entry = written_entry now (went_stale (written_extension m es e) (written_bound m more b) from to) in
    let there : (p : ℕ) → HasPoint m (points_of more) p → has_point m (written_plan m es ++ written_extension m es e ∷ []) (at p) ≡ true =
    λ p h. subst (λ (ws : List WrittenExtension). has_point m ws (at p) ≡ true) (written_plan-push m es e) (number_had m more p h) in
    let second : Kept WrittenEntry = broken (size - (point_size (at b.from.0) + 1)) in
    let had = has_point m (written_plan m es ++ written_extension m es e ∷ []) (at b.to.0) in
    sym (ap (λ (t : Bool). cond t (cond had (kept entry) second) (broken size)) (there b.from.0 k.from) ∙ ap (λ (t : Bool). cond t (kept entry) second) (there b.to.0 k.to))

pub stale_written : (m : Mission) (now : ℕ) (es : List Extension) (e : Extension) (b : Bound) (from to : ℤ) → IsMission m → now ≤ 1000000000 → e.base + 1 ≤ 1000000000 → IsSpellable m (points_of (es ++ e ∷ [])) b → InRange whole from → InRange whole to → IsWritableBody m es e → Writes (EntryText m (written_plan m es)) true (deed_text m now es (Stale e b from to)) (kept (written_entry now (went_stale (written_extension m es e) (written_bound m (es ++ e ∷ []) b) from to)))
stale_written m now es e b from to i t n k f g h =
    let miss = miss_written m es e b from to i k f g h in
    respelled (stale_parts (codes "stale ") (decimal (e.base + 1)) (codes " at ") (decimal now) (codes " bound ") (bound_text m (es ++ e ∷ []) b) (codes " times ") (signed_decimal from) (codes " ") (signed_decimal to) (codes "\n") (body_in m (points_of es) e)) refl
    (right (left (keyed "stale" "stale " refl refl (followed (one_more_written e.base n) (λ behind a. refl)
    (keyed_between "at" " at " refl refl (followed (number_written (pos now) (time_in_whole now t)) (λ behind a. refl)
    (keyed_between "bound" " bound " refl refl (and_nothing (counted miss) (refl, entry_is m now es e b from to (length miss.pieces) k)))))))))

-- The log.

phase_written : (p : Phase) → Writes PhaseText false (phase_text p) p
phase_written Waiting = left (yielded (keyword "waiting" refl) refl)
phase_written Running = right (left (yielded (keyword "running" refl) refl))
phase_written Failed = right (right (left (yielded (keyword "failed" refl) refl)))
phase_written Ended = right (right (right (yielded (keyword "ended" refl) refl)))

log_line : (u : List ℕ) → codes "hsts " ++ (codes "log " ++ (decimal 1 ++ (codes "\n" ++ u))) ≡ codes "hsts log 1\n" ++ u
unfolding digits
log_line u = refl

-- the log's text is written where its entries are
pub log_written : (m : Mission) (h : List Entry) → now_of h ≤ 1000000000 → Writes (Series (EntryText m) plan_behind []) true (join_after (entry_text m) [] h) (kept (written_entries m [] h)) → Writes (LogGrammar m) true (log_text m h) (kept (written_log m h))
log_written m h t k =
    let lines = join_after (entry_text m) [] h in
    let now = now_of h in
    let stop = codes "stop " ++ (phase_text (phase_of h) ++ (codes " at " ++ (decimal now ++ codes "\n"))) in
    let last : lines ++ stop ≡ lines ++ stop_text (phase_of h) now = ap (λ (zs : List ℕ). lines ++ zs) (timed_parts (codes "stop ") (phase_text (phase_of h)) (codes " at ") (decimal now) (codes "\n")) in
    respelled (log_line (lines ++ stop) ∙ ap (λ (zs : List ℕ). codes "hsts log 1\n" ++ zs) last ∙ three (codes "hsts log 1\n") lines (stop_text (phase_of h) now)) refl
    (keyed "hsts" "hsts " refl refl (keyed "log" "log " refl refl (followed (exactly_written 1 (omega arith)) (λ behind a. refl)
    (next_line (closed_then k (keyed "stop" "stop " refl refl (followed (phase_written (phase_of h)) (λ behind a. refl)
    (keyed_between "at" " at " refl refl (ended (yielded (number_written (pos now) (time_in_whole now t)) refl))))))))))
