-- The text of a history's log spells what is noted of it.
use Rattle.std.proofs.Common.{◌≡◌, ◌≤◌, ℕ, ◌+◌, ◌<◌, ℤ, List, [], ◌∷◌, ◌++◌, length, map, filter_map, Option, Some, None, option_to_list, refl, sym, ap, ◌∙◌, subst, append-nil, length-append, arith, codes}
use Rattle.std.proofs.lemmas.Int.{ints}
use Rattle.std.proofs.lemmas.List.Elements.{filter_map-append}
use Rattle.std.proofs.lemmas.Option.{slice_get_within}
use Rattle.std.specs.Prelude.{pos}
use Rattle.std.specs.List.{AllByRecursion, cons_option}
use Rattle.std.specs.Fmt.{decimal, signed_decimal}
use Rattle.hs_base.specs.declared.limits.TheConstants.{TEXT_BYTES}
use Rattle.hs_base.specs.declared.mission.Mission.{Mission}
use Rattle.hs_base.specs.declared.net.Bound.{Bound}
use Rattle.hs_base.specs.declared.net.Net.{Net}
use Rattle.hs_base.specs.declared.plan.Extension.{Extension}
use Rattle.hs_machine.specs.declared.history.Deed.{Deed}
use Rattle.hs_machine.specs.declared.history.Deed.TheVariants.{Tick, Fire, Report, Handover, Stale, Late, Early, Broken}
use Rattle.hs_machine.specs.declared.history.Entry.{Entry}
use Rattle.hs_base.specs.Missions.{IsMission}
use Rattle.hs_base.specs.Walks.{EachAfter, join_after}
use Rattle.hs_base.specs.Points.{ending, count, points_of, tokens_of}
use Rattle.hs_base.specs.declared.plan.Time.{Time}
use Rattle.hs_base.specs.declared.plan.TokenRef.{TokenRef}
use Rattle.hs_machine.specs.State.{hands_over, now_of, plan_of, phase_of}
use Rattle.hs_texts.specs.Written.{variable_name, body_in, bound_text}
use Rattle.hs_texts.specs.NetText.{counts_text}
use Rattle.hs_texts.specs.MissionMeaning.{IsNumberOf}
use Rattle.hs_texts.specs.PlanSpelling.{names_of, PointMeans}
use Rattle.log_laws.specs.LogText.{at_text, deed_text, entry_text, stop_text, log_text}
use Rattle.log_laws.specs.declared.written.WrittenDeed.{WrittenDeed}
use Rattle.log_laws.specs.declared.written.WrittenDeed.TheVariants.{Handover as handed, Stale as went_stale, Fire as fired, Report as reported, Late as too_late, Early as too_early, Broken as broke}
use Rattle.log_laws.specs.declared.written.WrittenEntry.{WrittenEntry}
use Rattle.log_laws.specs.WritableLogs.{IsWritableBound, IsWritableDeed, IsWritableEntry, IsWritableHistory, written_bound, written_deeds, written_entry, written_entries, written_log}
use Rattle.log_laws.proofs.LogSpellingLemmas.{log_is_text}
use Rattle.text_laws.specs.WritablePlans.{written_at, written_extension}
use Rattle.base_laws.proofs.PointLemmas.{count-push}
use Rattle.text_laws.proofs.PlanPrintedLemmas.{HasPoint}
use Rattle.text_laws.proofs.PlanMeaningLemmas.{IsKnown, extension_means}
use Rattle.text_laws.proofs.PlanSpellingLemmas.{body_long, longer, known_more, point_of, extension_fits}
use Rattle.journal_read.specs.declared.noted.Noted.{Noted}
use Rattle.journal_read.specs.LogSpelling.{BoundMeans, EntryMeans, EntriesMean, LogSpells, plan_after}
use Rattle.journal_read.specs.NotedLogs.{noted_deeds, noted_entries, noted_of}

-- The plan behind an entry.

cons_option-nil : {X : Type 0} (o : Option X) → cons_option o [] ≡ option_to_list o
cons_option-nil None = refl
cons_option-nil (Some x) = refl

plan_of-push : (h : List Entry) (e : Entry) → plan_of (h ++ e ∷ []) ≡ plan_of h ++ option_to_list (hands_over e.deed)
plan_of-push h e =
    let handed = λ (x : Entry). hands_over x.deed in
    filter_map-append handed h (e ∷ []) ∙ ap (λ (es : List Extension). filter_map handed h ++ es) (cons_option-nil (hands_over e.deed))

-- the plan with what a deed hands over
abbrev plan_with : List Extension → Deed → List Extension
plan_with es d = es ++ option_to_list (hands_over d)

-- Points and names, as those of an extension that fixes the point, or has a token of the variable as its goal.

abbrev fixing : List Time → List TokenRef → Extension
fixing fixed goals = record { base = 0; since = pos 0; fixed = fixed; tokens = []; supports = []; goals = goals }

at_means : (m : Mission) (es : List Extension) (x : ℕ) → IsMission m → HasPoint m (points_of es) x → PointMeans m es (written_at m (points_of es) x) x
at_means m es x i h = (extension_means m es (fixing (record { point = record { 0 = x }; at = pos 0 } ∷ []) []) i (record { fixed = (h, tt); tokens = tt; supports = tt; goals = tt })).fixed.0.point

name_means : (m : Mission) (es : List Extension) (v : ℕ) → IsMission m → v < length m.vars → IsNumberOf (names_of m) (variable_name m v) v
name_means m es v i h = (extension_means m es (fixing [] (record { sv = record { 0 = v }; place = 0 } ∷ [])) i (record { fixed = tt; tokens = tt; supports = tt; goals = (record { known = h; place = omega (arith, ints) }, tt) })).goals.0.sv

bound_means : (m : Mission) (es : List Extension) (b : Bound) → IsMission m → AllByRecursion (IsKnown m) (tokens_of es) → count es ≤ 1000000000 → IsWritableBound es b → BoundMeans m es (written_bound m es b) b
bound_means m es b i known few h = record {
  from = at_means m es b.from.0 i (point_of m es known few b.from.0 h.from);
  to = at_means m es b.to.0 i (point_of m es known few b.to.0 h.to);
  most = refl;
}

-- A deed behind the plan es: what is noted of it stands in front of what is noted of later entries.

record DeedMeant (m : Mission) (now : ℕ) (es : List Extension) (d : Deed) : Type 0 where
  means : (ws : List WrittenEntry) (ns : List Noted) → EntriesMean m (plan_with es d) ws ns → EntriesMean m es (map (written_entry now) (written_deeds m es d) ++ ws) (noted_deeds now d ++ ns)
  known : AllByRecursion (IsKnown m) (tokens_of (plan_with es d))
  size : count (plan_with es d) ≤ count es + length (deed_text m now es d)

-- a deed that hands nothing over is one entry
one_meant : (m : Mission) (now : ℕ) (es : List Extension) (d : Deed) (w : WrittenDeed) (n : Noted) → hands_over d ≡ None → AllByRecursion (IsKnown m) (tokens_of es) → written_deeds m es d ≡ w ∷ [] → noted_deeds now d ≡ n ∷ [] → EntryMeans m es (written_entry now w) n → plan_after es n.what ≡ es → DeedMeant m now es d
one_meant m now es d w n none known is noted entry stays =
    let same = ap (λ (o : Option Extension). es ++ option_to_list o) none ∙ append-nil es in
    record {
      means = λ ws ns h.
          let after : EntriesMean m (plan_after es n.what) ws ns = subst (λ (zs : List Extension). EntriesMean m zs ws ns) (same ∙ sym stays) h in
          subst (λ (vs : List WrittenDeed). EntriesMean m es (map (written_entry now) vs ++ ws) (noted_deeds now d ++ ns)) (sym is)
          (subst (λ (ks : List Noted). EntriesMean m es (written_entry now w ∷ ws) (ks ++ ns)) (sym noted) (entry, after));
      known = subst (λ (zs : List Extension). AllByRecursion (IsKnown m) (tokens_of zs)) (sym same) known;
      size = subst (λ (zs : List Extension). count zs ≤ count es + length (deed_text m now es d)) (sym same) (omega arith);
    }

abbrev noted_one : ℕ → Deed → Noted
noted_one now d = record { at = pos now; what = d; groups = 0; edges = 0 }

tick_meant : (m : Mission) (now : ℕ) (es : List Extension) → AllByRecursion (IsKnown m) (tokens_of es) → DeedMeant m now es Tick
tick_meant m now es known = record {
  means = λ ws ns h. subst (λ (zs : List Extension). EntriesMean m zs ws ns) (append-nil es) h;
  known = subst (λ (zs : List Extension). AllByRecursion (IsKnown m) (tokens_of zs)) (sym (append-nil es)) known;
  size = subst (λ (zs : List Extension). count zs ≤ count es + 0) (sym (append-nil es)) (omega arith);
}

handover_meant : (m : Mission) (now : ℕ) (es : List Extension) (e : Extension) (net : Net) → IsMission m → AllByRecursion (IsKnown m) (tokens_of es) → count es + length (deed_text m now es (Handover e net)) ≤ 1000000000 → IsWritableDeed m es (Handover e net) → DeedMeant m now es (Handover e net)
handover_meant m now es e net i known few h =
    let long = longer e (codes "handover " ++ decimal (e.base + 1) ++ at_text now ++ codes " " ++ counts_text net ++ codes "\n") (body_in m (points_of es) e) (body_long m es e) in
    let fits = extension_fits m es e known (omega (arith, few)) (omega (arith, few, long.goals)) h.0 in
    record {
      means = λ ws ns k. (record { at = refl; what = (e, extension_means m es e i fits.meant, refl); groups = refl; edges = refl }, k);
      known = known_more m es e known h.0.tokens;
      size = omega (arith, long.tokens, count-push es e);
    }

stale_meant : (m : Mission) (now : ℕ) (es : List Extension) (e : Extension) (b : Bound) (from' to' : ℤ) → IsMission m → AllByRecursion (IsKnown m) (tokens_of es) → count es + length (deed_text m now es (Stale e b from' to')) ≤ 1000000000 → IsWritableDeed m es (Stale e b from' to') → DeedMeant m now es (Stale e b from' to')
stale_meant m now es e b from' to' i known few h =
    let more = es ++ e ∷ [] in
    let front = codes "stale " ++ decimal (e.base + 1) ++ at_text now ++ codes " bound " ++ bound_text m more b ++ codes " times " ++ signed_decimal from' ++ codes " " ++ signed_decimal to' ++ codes "\n" in
    let long = longer e front (body_in m (points_of es) e) (body_long m es e) in
    let fits = extension_fits m es e known (omega (arith, few)) (omega (arith, few, long.goals)) h.0 in
    let bound = bound_means m more b i (known_more m es e known h.0.tokens) (omega (arith, few, long.tokens, count-push es e)) h.1 in
    one_meant m now es (Stale e b from' to') (went_stale (written_extension m es e) (written_bound m more b) from' to') (noted_one now (Stale e b from' to')) refl known refl refl
    (record { at = refl; what = (e, b, extension_means m es e i fits.meant, bound, refl); groups = refl; edges = refl }) refl

deed_meant : (m : Mission) (now : ℕ) (es : List Extension) (d : Deed) → IsMission m → AllByRecursion (IsKnown m) (tokens_of es) → count es + length (deed_text m now es d) ≤ 1000000000 → IsWritableDeed m es d → DeedMeant m now es d
deed_meant m now es Tick i known few h = tick_meant m now es known
deed_meant m now es (Fire x) i known few h =
    one_meant m now es (Fire x) (fired (written_at m (points_of es) x.0)) (noted_one now (Fire x)) refl known refl refl
    (record { at = refl; what = (x, at_means m es x.0 i (point_of m es known (omega (arith, few)) x.0 h.1), refl); groups = refl; edges = refl }) refl
deed_meant m now es (Report x) i known few h =
    let there = h.2 in
    let p = point_of m es known (omega (arith, few)) x.0 (slice_get_within (points_of es) x.0 (ending h.0 h.1) there) in
    one_meant m now es (Report x) (reported (written_at m (points_of es) x.0)) (noted_one now (Report x)) refl known refl refl
    (record { at = refl; what = (x, at_means m es x.0 i p, refl); groups = refl; edges = refl }) refl
deed_meant m now es (Handover e net) i known few h = handover_meant m now es e net i known few h
deed_meant m now es (Stale e b from' to') i known few h = stale_meant m now es e b from' to' i known few h
deed_meant m now es (Late b) i known few h =
    one_meant m now es (Late b) (too_late (written_bound m es b)) (noted_one now (Late b)) refl known refl refl
    (record { at = refl; what = (b, bound_means m es b i known (omega (arith, few)) h, refl); groups = refl; edges = refl }) refl
deed_meant m now es (Early b) i known few h =
    one_meant m now es (Early b) (too_early (written_bound m es b)) (noted_one now (Early b)) refl known refl refl
    (record { at = refl; what = (b, bound_means m es b i known (omega (arith, few)) h, refl); groups = refl; edges = refl }) refl
deed_meant m now es (Broken v) i known few h =
    one_meant m now es (Broken v) (broke (variable_name m v.0)) (noted_one now (Broken v)) refl known refl refl
    (record { at = refl; what = (v, name_means m es v.0 i h, refl); groups = refl; edges = refl }) refl

-- Histories.

history_meant : (m : Mission) (before h : List Entry) → IsMission m → AllByRecursion (IsKnown m) (tokens_of (plan_of before)) → count (plan_of before) + length (join_after (entry_text m) before h) ≤ 1000000000 → EachAfter (IsWritableEntry m) before h → EntriesMean m (plan_of before) (written_entries m before h) (noted_entries before h)
history_meant m before [] i known few k = tt
history_meant m before (e ∷ h) i known few k =
    let es = plan_of before in
    let now = now_of before in
    let size = length-append (entry_text m before e) (join_after (entry_text m) (before ++ e ∷ []) h) in
    let meant = deed_meant m now es e.deed i known (omega (arith, few, size)) k.0.deed in
    let push = plan_of-push before e in
    let more : AllByRecursion (IsKnown m) (tokens_of (plan_of (before ++ e ∷ []))) = subst (λ (zs : List Extension). AllByRecursion (IsKnown m) (tokens_of zs)) (sym push) meant.known in
    let later = history_meant m (before ++ e ∷ []) h i more (omega (arith, few, size, meant.size, ap count push)) k.1 in
    meant.means (written_entries m (before ++ e ∷ []) h) (noted_entries (before ++ e ∷ []) h) (subst (λ (zs : List Extension). EntriesMean m zs (written_entries m (before ++ e ∷ []) h) (noted_entries (before ++ e ∷ []) h)) push later)

-- the text of a log spells what is noted of the history, where it isn't too long
pub log_spelled : (m : Mission) (h : List Entry) → IsWritableHistory m h → length (log_text m h) ≤ TEXT_BYTES → LogSpells m (log_text m h) 0 (noted_of h)
log_spelled m h k short =
    let lines = join_after (entry_text m) [] h in
    let size = length-append (codes "hsts log 1\n" ++ lines) (stop_text (phase_of h) (now_of h)) in
    let inner = length-append (codes "hsts log 1\n") lines in
    record { written = written_log m h; is_log = log_is_text m h k short; means = history_meant m [] h k.mission tt (omega (arith, short, size, inner)) k.each }
