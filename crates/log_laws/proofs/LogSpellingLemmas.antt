-- The text of a log is a sentence of its grammar.
use Rattle.std.proofs.Common.{◌≡◌, ◌≤◌, ℕ, ◌+◌, ◌<◌, ℤ, true, List, [], ◌∷◌, ◌++◌, length, map, filter_map, Option, Some, None, option_to_list, refl, sym, ap, ◌∙◌, subst, append-nil, length-append, arith, codes}
use Rattle.std.proofs.lemmas.Int.{ints}
use Rattle.std.proofs.lemmas.List.Elements.{filter_map-append}
use Rattle.std.specs.Prelude.{slice_get}
use Rattle.std.specs.List.{AllByRecursion, cons_option}
use Rattle.std.specs.Fmt.{decimal, signed_decimal}
use Rattle.hs_base.specs.declared.limits.TheConstants.{TEXT_BYTES}
use Rattle.hs_base.specs.declared.mission.Mission.{Mission}
use Rattle.hs_base.specs.declared.net.Bound.{Bound}
use Rattle.hs_base.specs.declared.net.Net.{Net}
use Rattle.hs_base.specs.declared.plan.Extension.{Extension}
use Rattle.hs_machine.specs.declared.history.Deed.{Deed}
use Rattle.hs_machine.specs.declared.history.Deed.TheVariants.{Tick, Fire, Report, Handover, Stale, Late, Early, Broken}
use Rattle.hs_machine.specs.declared.history.Entry.{Entry}
use Rattle.hs_base.specs.Missions.{IsMission}
use Rattle.hs_base.specs.Walks.{EachAfter, join_after}
use Rattle.hs_base.specs.Points.{Point, origin, horizon, ending, count, points_of, tokens_of}
use Rattle.hs_machine.specs.State.{hands_over, now_of, plan_of, phase_of}
use Rattle.hs_texts.specs.declared.written.WrittenPoint.{WrittenPoint}
use Rattle.hs_texts.specs.declared.written.WrittenPoint.TheVariants.{Origin}
use Rattle.hs_texts.specs.declared.written.WrittenExtension.{WrittenExtension}
use Rattle.hs_texts.specs.Kept.{kept, Series}
use Rattle.hs_texts.specs.Written.{variable_name, spelled_point, body_in, bound_text}
use Rattle.hs_texts.specs.NetText.{counts_text}
use Rattle.log_laws.specs.LogText.{at_text, fired_text, deed_text, entry_text, stop_text, log_text}
use Rattle.log_laws.specs.declared.written.WrittenDeed.{WrittenDeed}
use Rattle.log_laws.specs.declared.written.WrittenDeed.TheVariants.{Stale as went_stale, Fire as fired, Report as reported, Late as too_late, Early as too_early, Broken as broke}
use Rattle.log_laws.specs.declared.written.WrittenEntry.{WrittenEntry}
use Rattle.log_laws.specs.LogGrammar.{EntryText, plan_behind}
use Rattle.text_laws.specs.Writes.{Writes}
use Rattle.text_laws.specs.WritablePlans.{written_point, written_at, written_extension, written_plan}
use Rattle.log_laws.specs.WritableLogs.{IsWritableBound, IsWritableDeed, IsWritableEntry, IsWritableHistory, written_bound, written_deeds, written_entry, written_entries, written_log, IsLogText}
use Rattle.base_laws.proofs.PointLemmas.{count-push, named}
use Rattle.std.proofs.lemmas.Option.{slice_get_within}
use Rattle.text_laws.proofs.WritesLemmas.{text_written, no_item, item_first, respelled}
use Rattle.text_laws.proofs.PlanPrintedLemmas.{IsWritablePoint, HasPoint, written_plan-push}
use Rattle.text_laws.proofs.PlanMeaningLemmas.{IsKnown, point_had}
use Rattle.text_laws.proofs.PlanSpellingLemmas.{body_long, longer, known_more, point_of, extension_fits}
use Rattle.log_laws.proofs.LogPrintedLemmas.{IsSpellable, written_end, fire_written, report_written, pass_written, late_written, early_written, broken_written, handover_written, stale_written, log_written}

-- The plan behind an entry.

cons_option-nil : {X : Type 0} (o : Option X) → cons_option o [] ≡ option_to_list o
cons_option-nil None = refl
cons_option-nil (Some x) = refl

plan_of-push : (h : List Entry) (e : Entry) → plan_of (h ++ e ∷ []) ≡ plan_of h ++ option_to_list (hands_over e.deed)
plan_of-push h e =
    let handed = λ (x : Entry). hands_over x.deed in
    filter_map-append handed h (e ∷ []) ∙ ap (λ (es : List Extension). filter_map handed h ++ es) (cons_option-nil (hands_over e.deed))

-- the plan with what a deed hands over
abbrev plan_with : List Extension → Deed → List Extension
plan_with es d = es ++ option_to_list (hands_over d)

-- the text writes these entries behind the plan es
abbrev WritesEntries : Mission → List Extension → List ℕ → List WrittenEntry → Type 0
WritesEntries m es text entries = Writes (Series (EntryText m) plan_behind (written_plan m es)) true text (kept entries)

-- A deed behind the plan es: its text is written in front of what later entries write.

record DeedFits (m : Mission) (now : ℕ) (es : List Extension) (d : Deed) : Type 0 where
  writes : (text : List ℕ) (later : List WrittenEntry) → WritesEntries m (plan_with es d) text later → WritesEntries m es (deed_text m now es d ++ text) (map (written_entry now) (written_deeds m es d) ++ later)
  known : AllByRecursion (IsKnown m) (tokens_of (plan_with es d))
  size : count (plan_with es d) ≤ count es + length (deed_text m now es d)

-- a deed that hands nothing over writes one entry
one_fits : (m : Mission) (now : ℕ) (es : List Extension) (d : Deed) (w : WrittenDeed) → hands_over d ≡ None → AllByRecursion (IsKnown m) (tokens_of es) → written_deeds m es d ≡ w ∷ [] → Writes (EntryText m (written_plan m es)) true (deed_text m now es d) (kept (written_entry now w)) → plan_behind (written_plan m es) (written_entry now w) ≡ written_plan m es → DeedFits m now es d
one_fits m now es d w none known is writes stays =
    let same = ap (λ (o : Option Extension). es ++ option_to_list o) none ∙ append-nil es in
    record {
      writes = λ text later h.
          let after : WritesEntries m es text later = subst (λ (zs : List Extension). WritesEntries m zs text later) same h in
          let behind : Writes (Series (EntryText m) plan_behind (plan_behind (written_plan m es) (written_entry now w))) true text (kept later) =
          subst (λ (ws : List WrittenExtension). Writes (Series (EntryText m) plan_behind ws) true text (kept later)) (sym stays) after in
          subst (λ (ws : List WrittenDeed). WritesEntries m es (deed_text m now es d ++ text) (map (written_entry now) ws ++ later)) (sym is)
          (item_first (EntryText m) plan_behind (written_plan m es) writes behind);
      known = subst (λ (zs : List Extension). AllByRecursion (IsKnown m) (tokens_of zs)) (sym same) known;
      size = subst (λ (zs : List Extension). count zs ≤ count es + length (deed_text m now es d)) (sym same) (omega arith);
    }

-- a tick writes nothing
tick_fits : (m : Mission) (now : ℕ) (es : List Extension) → AllByRecursion (IsKnown m) (tokens_of es) → DeedFits m now es Tick
tick_fits m now es known = record {
  writes = λ text later h. subst (λ (zs : List Extension). WritesEntries m zs text later) (append-nil es) h;
  known = subst (λ (zs : List Extension). AllByRecursion (IsKnown m) (tokens_of zs)) (sym (append-nil es)) known;
  size = subst (λ (zs : List Extension). count zs ≤ count es + 0) (sym (append-nil es)) (omega arith);
}

-- a point by its number is written by its name
at_is : (m : Mission) (es : List Extension) (x : ℕ) (p : Point) → slice_get (points_of es) x ≡ Some p → written_at m (points_of es) x ≡ written_point m p
at_is m es x p there = ap (λ (o : Option Point). elim o [ Some name ↦ written_point m name | None ↦ Origin ]) there

fire_fits : (m : Mission) (now : ℕ) (es : List Extension) (x : ℕ) → IsMission m → now ≤ 1000000000 → AllByRecursion (IsKnown m) (tokens_of es) → 0 < x → HasPoint m (points_of es) x → DeedFits m now es (Fire (record { 0 = x }))
fire_fits m now es x i t known some h = by_point h.point h.there h.writable where
  at_point : (p : Point) → slice_get (points_of es) x ≡ Some p → Writes (EntryText m (written_plan m es)) true (fired_text m (Some p) ++ at_text now ++ codes "\n") (kept (written_entry now (fired (written_point m p)))) → DeedFits m now es (Fire (record { 0 = x }))
  at_point p there writes =
      one_fits m now es (Fire (record { 0 = x })) (fired (written_point m p)) refl known (ap (λ (w : WrittenPoint). fired w ∷ []) (at_is m es x p there))
      (respelled (ap (λ (o : Option Point). fired_text m o ++ at_text now ++ codes "\n") (sym there)) refl writes) refl

  by_point : (p : Point) → slice_get (points_of es) x ≡ Some p → IsWritablePoint m p → DeedFits m now es (Fire (record { 0 = x }))
  by_point origin there w = absurd (omega (arith, some, (named es).once x origin there))
  by_point (horizon k) there w = at_point (horizon k) there (pass_written m (written_plan m es) now k t w (point_had m es x (horizon k) there))
  by_point (ending v j) there w = at_point (ending v j) there (fire_written m (written_plan m es) now v j i t w.0 w.1 (point_had m es x (ending v j) there))

report_fits : (m : Mission) (now : ℕ) (es : List Extension) (x v j : ℕ) → IsMission m → now ≤ 1000000000 → AllByRecursion (IsKnown m) (tokens_of es) → v < length m.vars → j ≤ 1000000000 → slice_get (points_of es) x ≡ Some (ending v j) → DeedFits m now es (Report (record { 0 = x }))
report_fits m now es x v j i t known h few there =
    let text : codes "report " ++ spelled_point m (ending v j) ++ at_text now ++ codes "\n" ≡ deed_text m now es (Report (record { 0 = x })) =
    ap (λ (o : Option Point). codes "report " ++ elim o [ Some name ↦ spelled_point m name | None ↦ [] ] ++ at_text now ++ codes "\n") (sym there) in
    one_fits m now es (Report (record { 0 = x })) (reported (written_end m v j)) refl known (ap (λ (w : WrittenPoint). reported w ∷ []) (at_is m es x (ending v j) there))
    (respelled text refl (report_written m (written_plan m es) now v j i t h few (point_had m es x (ending v j) there))) refl

spellable : (m : Mission) (es : List Extension) (b : Bound) → AllByRecursion (IsKnown m) (tokens_of es) → count es ≤ 1000000000 → IsWritableBound es b → IsSpellable m (points_of es) b
spellable m es b known few h = record { from = point_of m es known few b.from.0 h.from; to = point_of m es known few b.to.0 h.to; most = h.most }

late_fits : (m : Mission) (now : ℕ) (es : List Extension) (b : Bound) → IsMission m → now ≤ 1000000000 → AllByRecursion (IsKnown m) (tokens_of es) → count es ≤ 1000000000 → IsWritableBound es b → DeedFits m now es (Late b)
late_fits m now es b i t known few h = one_fits m now es (Late b) (too_late (written_bound m es b)) refl known refl (late_written m now es b i t (spellable m es b known few h)) refl

early_fits : (m : Mission) (now : ℕ) (es : List Extension) (b : Bound) → IsMission m → now ≤ 1000000000 → AllByRecursion (IsKnown m) (tokens_of es) → count es ≤ 1000000000 → IsWritableBound es b → DeedFits m now es (Early b)
early_fits m now es b i t known few h = one_fits m now es (Early b) (too_early (written_bound m es b)) refl known refl (early_written m now es b i t (spellable m es b known few h)) refl

handover_fits : (m : Mission) (now : ℕ) (es : List Extension) (e : Extension) (net : Net) → IsMission m → now ≤ 1000000000 → AllByRecursion (IsKnown m) (tokens_of es) → count es + length (deed_text m now es (Handover e net)) ≤ 1000000000 → IsWritableDeed m es (Handover e net) → DeedFits m now es (Handover e net)
handover_fits m now es e net i t known few h =
    let body = body_in m (points_of es) e in
    let long = longer e (codes "handover " ++ decimal (e.base + 1) ++ at_text now ++ codes " " ++ counts_text net ++ codes "\n") body (body_long m es e) in
    let fits = extension_fits m es e known (omega (arith, few)) (omega (arith, few, long.goals)) h.0 in
    let writes = handover_written m now es e net i t fits.written.base (omega (arith, ints, h.1)) (omega (arith, ints, h.2)) fits.written.body in
    record {
      writes = λ text later k.
          item_first (EntryText m) plan_behind (written_plan m es) writes
          (subst (λ (ws : List WrittenExtension). Writes (Series (EntryText m) plan_behind ws) true text (kept later)) (written_plan-push m es e) k);
      known = known_more m es e known h.0.tokens;
      size = omega (arith, long.tokens, count-push es e);
    }

stale_fits : (m : Mission) (now : ℕ) (es : List Extension) (e : Extension) (b : Bound) (from' to' : ℤ) → IsMission m → now ≤ 1000000000 → AllByRecursion (IsKnown m) (tokens_of es) → count es + length (deed_text m now es (Stale e b from' to')) ≤ 1000000000 → IsWritableDeed m es (Stale e b from' to') → DeedFits m now es (Stale e b from' to')
stale_fits m now es e b from' to' i t known few h =
    let body = body_in m (points_of es) e in
    let more = es ++ e ∷ [] in
    let front = codes "stale " ++ decimal (e.base + 1) ++ at_text now ++ codes " bound " ++ bound_text m more b ++ codes " times " ++ signed_decimal from' ++ codes " " ++ signed_decimal to' ++ codes "\n" in
    let long = longer e front body (body_long m es e) in
    let fits = extension_fits m es e known (omega (arith, few)) (omega (arith, few, long.goals)) h.0 in
    let s = spellable m more b (known_more m es e known h.0.tokens) (omega (arith, few, long.tokens, count-push es e)) h.1 in
    one_fits m now es (Stale e b from' to') (went_stale (written_extension m es e) (written_bound m more b) from' to') refl known refl
    (stale_written m now es e b from' to' i t fits.written.base s h.2 h.3 fits.written.body) refl

broken_fits : (m : Mission) (now : ℕ) (es : List Extension) (v : ℕ) → IsMission m → now ≤ 1000000000 → AllByRecursion (IsKnown m) (tokens_of es) → v < length m.vars → DeedFits m now es (Broken (record { 0 = v }))
broken_fits m now es v i t known h = one_fits m now es (Broken (record { 0 = v })) (broke (variable_name m v)) refl known refl (broken_written m (written_plan m es) now v i t h) refl

-- the end of a token can be written
token_end : (m : Mission) (es : List Extension) (x v j : ℕ) → HasPoint m (points_of es) x → slice_get (points_of es) x ≡ Some (ending v j) → (v < length m.vars) × (j ≤ 1000000000)
token_end m es x v j h there =
    let same : h.point ≡ ending v j = some_point (sym h.there ∙ there) in
    subst (λ (p : Point). IsWritablePoint m p) same h.writable
  where
    some_point : {p q : Point} → Some p ≡ Some q → p ≡ q
    some_point e = cc

deed_fits : (m : Mission) (now : ℕ) (es : List Extension) (d : Deed) → IsMission m → now ≤ 1000000000 → AllByRecursion (IsKnown m) (tokens_of es) → count es + length (deed_text m now es d) ≤ 1000000000 → IsWritableDeed m es d → DeedFits m now es d
deed_fits m now es Tick i t known few h = tick_fits m now es known
deed_fits m now es (Fire x) i t known few h = fire_fits m now es x.0 i t known h.0 (point_of m es known (omega (arith, few)) x.0 h.1)
deed_fits m now es (Report x) i t known few h =
    let there = h.2 in
    let p = point_of m es known (omega (arith, few)) x.0 (slice_get_within (points_of es) x.0 (ending h.0 h.1) there) in
    let w = token_end m es x.0 h.0 h.1 p there in
    report_fits m now es x.0 h.0 h.1 i t known w.0 w.1 there
deed_fits m now es (Handover e net) i t known few h = handover_fits m now es e net i t known few h
deed_fits m now es (Stale e b from' to') i t known few h = stale_fits m now es e b from' to' i t known few h
deed_fits m now es (Late b) i t known few h = late_fits m now es b i t known (omega (arith, few)) h
deed_fits m now es (Early b) i t known few h = early_fits m now es b i t known (omega (arith, few)) h
deed_fits m now es (Broken v) i t known few h = broken_fits m now es v.0 i t known h

-- Histories.

history_written : (m : Mission) (before h : List Entry) → IsMission m → AllByRecursion (IsKnown m) (tokens_of (plan_of before)) → count (plan_of before) + length (join_after (entry_text m) before h) ≤ 1000000000 → EachAfter (IsWritableEntry m) before h → WritesEntries m (plan_of before) (join_after (entry_text m) before h) (written_entries m before h)
history_written m before [] i known few k = no_item (EntryText m) plan_behind (written_plan m (plan_of before))
history_written m before (e ∷ h) i known few k =
    let es = plan_of before in
    let now = now_of before in
    let text = entry_text m before e in
    let rest = join_after (entry_text m) (before ++ e ∷ []) h in
    let entries = written_entries m (before ++ e ∷ []) h in
    let size = length-append text rest in
    let fits = deed_fits m now es e.deed i (omega (arith, ints, k.0.now)) known (omega (arith, few, size)) k.0.deed in
    let push = plan_of-push before e in
    let more : AllByRecursion (IsKnown m) (tokens_of (plan_of (before ++ e ∷ []))) = subst (λ (zs : List Extension). AllByRecursion (IsKnown m) (tokens_of zs)) (sym push) fits.known in
    let later = history_written m (before ++ e ∷ []) h i more (omega (arith, few, size, fits.size, ap count push)) k.1 in
    fits.writes rest entries (subst (λ (zs : List Extension). WritesEntries m zs rest entries) push later)

-- the text of a log is a sentence of its grammar, where it isn't too long
pub log_is_text : (m : Mission) (h : List Entry) → IsWritableHistory m h → length (log_text m h) ≤ TEXT_BYTES → IsLogText m (log_text m h) 0 (written_log m h)
log_is_text m h k short =
    let lines = join_after (entry_text m) [] h in
    let size = length-append (codes "hsts log 1\n" ++ lines) (stop_text (phase_of h) (now_of h)) in
    let inner = length-append (codes "hsts log 1\n") lines in
    let entries = history_written m [] h k.mission tt (omega (arith, short, size, inner)) k.each in
    let t = text_written (log_written m h (omega (arith, ints, k.now)) entries) short in
    record { pieces = t.0; is_text = t.1; sentence = t.2 }
