-- Each nonterminal of a log's text is read by its parser.
use Rattle.std.proofs.Common.{◌≡◌, ℕ, ◌+◌, ◌-◌, ℤ, List, [], ◌∷◌, ◌++◌, length, true, false, not, refl, sym, ap, ◌∙◌, subst, length-append, inl, inr, arith}
use Rattle.std.specs.Prelude.{Option, Some, None, codes}
use Rattle.std.specs.List.{list_all}
use Rattle.std.specs.Str.{byte}
use Prim.Native.String.{String}
use Rattle.hs_base.specs.declared.mission.Mission.{Mission}
use Rattle.hs_machine.specs.declared.history.Phase.TheVariants.{Waiting, Running, Failed, Ended}
use Rattle.hs_texts.specs.Pieces.{Piece, word, number as digits, symbol}
use Rattle.hs_texts.specs.Languages.{Language, Yields, Then, ◌∣◌, Keyword, Sign, Number, After, Behind, number_says}
use Rattle.hs_texts.specs.Kept.{Kept, kept, broken, onward, Series}
use Rattle.hs_texts.specs.PlanGrammar.{Name, Count, OneMore, Exactly, TokenText, PointText, BodyText}
use Rattle.hs_texts.specs.declared.written.WrittenPoint.{WrittenPoint}
use Rattle.hs_texts.specs.declared.written.WrittenBody.{WrittenBody}
use Rattle.hs_texts.specs.declared.written.WrittenExtension.{WrittenExtension}
use Rattle.text_laws.specs.Parsers.{Parser, done, stuck, next, go_on, ◌>>=◌, yields, is_word, is_sign, choose, keyword, number, after, behind}
use Rattle.text_laws.specs.Reads.{Avoids, HasRead, IsStuck, Reads, Leads}
use Rattle.text_laws.specs.MissionReading.{name_at}
use Rattle.text_laws.proofs.ParserLemmas.{yields_reads}
use Rattle.text_laws.proofs.ThenLemmas.{then_any}
use Rattle.text_laws.proofs.ChoiceLemmas.{choose_reads, not_found, begins_next}
use Rattle.text_laws.proofs.ListLemmas.{avoids_none, went_on, got_stuck, same_value, same_rest}
use Rattle.text_laws.proofs.FollowLemmas.{same_piece, StartsIn, leads_begin, leads_starts, starts_after, starts_either, begins_then, begins_sign, keyword_reads, number_reads, finds_word, finds_sign, after_reads, behind_reads}
use Rattle.text_laws.proofs.MissionLemmas.{kw, name_reads}
use Rattle.plan_text.specs.PlanReading.{onward_at, series, count_at, exactly_at, one_more_at, token_at, point_at, body_at}
use Rattle.plan_text.proofs.OnwardLemmas.{onward_each, onward_reads}
use Rattle.plan_text.proofs.SeriesLemmas.{AreKept, series_kept}
use Rattle.plan_text.proofs.PlanReadLemmas.{count_reads, exactly_reads, one_more_reads, token_reads, point_reads, body_reads, begins_word}
use Rattle.log_laws.specs.declared.written.WrittenBound.{WrittenBound}
use Rattle.log_laws.specs.declared.written.WrittenMiss.{WrittenMiss}
use Rattle.log_laws.specs.declared.written.WrittenDeed.{WrittenDeed}
use Rattle.log_laws.specs.declared.written.WrittenDeed.TheVariants.{Fire, Report, Late, Early, Broken}
use Rattle.log_laws.specs.declared.written.WrittenEntry.{WrittenEntry}
use Rattle.log_laws.specs.LogGrammar.{Negated, Signed, PointOf, TokenOf, HorizonOf, BoundMost, BoundTo, BoundOf, BoundText, Timed, TimedText, AnyName, Handed, HandoverBack, Missed, MissText, Counted, CountedText, StaleEnd, StaleBack, StaleText, EntryText, plan_behind, PhaseText, LogEnd, LogBack, LogGrammar}
use Rattle.journal_read.specs.LogReading.{negated_at, signed_at, point_of_at, token_of_at, horizon_of_at, bound_most_at, bound_to_at, bound_of_at, bound_at, timed_at, any_name_at, handed_at, handover_back_at, handover_number_at, missed_at, miss_at, with_size, counted_at, stale_end_at, stale_back_at, stale_number_at, handover_at, stale_at, fire_at, report_at, pass_at, late_at, early_at, broken_at, entry_at, is_entry, phase_at, log_end_at, entries_at, log_back_at, log_at}

-- Numbers that may be below 0.

negated_reads : Reads Negated negated_at []
unfolding negated_at
negated_reads = then_any Number _ number _ [] number_reads (λ n. yields_reads _)

number_is_no_sign : (c : ℕ) (p : Piece) (x : ℤ) → number_says p ≡ Some x → Avoids (symbol c ∷ []) (Some p)
number_is_no_sign c (digits ds) x h = ((λ e. cc), tt)
number_is_no_sign c (word w) x h = absurd cc
number_is_no_sign c (symbol s) x h = absurd cc

number_leads : (c : ℕ) → Leads Number [] (symbol c ∷ [])
number_leads c = record { avoids = λ u rest x h a. rw h.1 (number_is_no_sign c h.0 x h.2) }

pub signed_reads : Reads Signed signed_at []
unfolding signed_at
signed_reads = choose_reads (is_sign (byte "-")) (symbol (byte "-")) (Behind "-" Negated) Number (behind "-" negated_at) number [] (finds_sign "-") (begins_then (Sign "-") _ (symbol (byte "-")) (begins_sign "-")) (behind_reads "-" Negated negated_at [] negated_reads) number_reads (number_leads (byte "-"))

-- Points and bounds.

point_of_reads : (m : Mission) (es : List WrittenExtension) → Reads (PointOf m es) (point_of_at m es) []
unfolding point_of_at
point_of_reads m es = then_any PointText _ point_at _ [] point_reads (λ point. yields_reads _)

token_of_reads : (m : Mission) (es : List WrittenExtension) → Reads (TokenOf m es) (token_of_at m es) []
unfolding token_of_at
token_of_reads m es = then_any TokenText _ token_at _ [] token_reads (λ token. yields_reads _)

horizon_of_reads : (m : Mission) (es : List WrittenExtension) → Reads (HorizonOf m es) (horizon_of_at m es) []
unfolding horizon_of_at
horizon_of_reads m es = then_any Count _ count_at _ [] count_reads (λ k. yields_reads _)

bound_most_reads : (from to : WrittenPoint) → Reads (BoundMost from to) (bound_most_at from to) []
unfolding bound_most_at
bound_most_reads from to =
    then_any (Keyword "most") _ (keyword "most") _ [] (keyword_reads "most") (λ _.
    then_any Signed _ signed_at _ [] signed_reads (λ most. yields_reads _))

bound_to_reads : (m : Mission) (es : List WrittenExtension) (from : WrittenPoint) → Reads (BoundTo m es from) (bound_to_at m es from) []
unfolding bound_to_at
bound_to_reads m es from =
    then_any (Keyword "to") _ (keyword "to") _ [] (keyword_reads "to") (λ _.
    then_any (PointOf m es) (onward (BoundMost from)) (point_of_at m es) (onward_at (bound_most_at from)) [] (point_of_reads m es) (onward_each (BoundMost from) (bound_most_at from) (bound_most_reads from)))

bound_of_reads : (m : Mission) (es : List WrittenExtension) → Reads (BoundOf m es) (bound_of_at m es) []
unfolding bound_of_at
bound_of_reads m es = then_any (PointOf m es) (onward (BoundTo m es)) (point_of_at m es) (onward_at (bound_to_at m es)) [] (point_of_reads m es) (onward_each (BoundTo m es) (bound_to_at m es) (bound_to_reads m es))

bound_reads : Reads BoundText bound_at []
unfolding bound_at
bound_reads =
    then_any PointText _ point_at _ [] point_reads (λ from.
    then_any (Keyword "to") _ (keyword "to") _ [] (keyword_reads "to") (λ _.
    then_any PointText _ point_at _ [] point_reads (λ to.
    then_any (Keyword "most") _ (keyword "most") _ [] (keyword_reads "most") (λ _.
    then_any Signed _ signed_at _ [] signed_reads (λ most. yields_reads _)))))

-- What a deed says, and its time.

timed_reads : (deed : WrittenDeed) → Reads (Timed deed) (timed_at deed) []
unfolding timed_at
timed_reads deed =
    then_any (Keyword "at") _ (keyword "at") _ [] (keyword_reads "at") (λ _.
    then_any Number _ number _ [] number_reads (λ at. yields_reads _))

timed_text : {A : Type 0} (R : Language (Kept A)) (p : Parser (Kept A)) → Reads R p [] → (deed : A → WrittenDeed) → Reads (TimedText R deed) (p >>= onward_at (λ said. timed_at (deed said))) []
timed_text R p r deed = then_any R (onward (λ said. Timed (deed said))) p (onward_at (λ said. timed_at (deed said))) [] r (onward_each (λ said. Timed (deed said)) (λ said. timed_at (deed said)) (λ said. timed_reads (deed said)))

any_name_reads : Reads AnyName any_name_at []
unfolding any_name_at
any_name_reads = then_any Name _ (name_at 1) _ [] (name_reads 1) (λ name. yields_reads _)

-- Handovers.

handed_reads : (base : ℕ) (at : ℤ) (groups edges : ℕ) (body : WrittenBody) → Reads (Handed base at groups edges body) (handed_at base at groups edges body) []
unfolding handed_at
handed_reads base at groups edges body = yields_reads _

handover_back_reads : (m : Mission) (es : List WrittenExtension) (base : ℕ) → Reads (HandoverBack m es base) (handover_back_at m es base) []
unfolding handover_back_at
handover_back_reads m es base =
    then_any (Keyword "at") _ (keyword "at") _ [] (keyword_reads "at") (λ _.
    then_any Number _ number _ [] number_reads (λ at.
    then_any (Keyword "groups") _ (keyword "groups") _ [] (keyword_reads "groups") (λ _.
    then_any Count _ count_at _ [] count_reads (λ groups.
    then_any (Keyword "edges") _ (keyword "edges") _ [] (keyword_reads "edges") (λ _.
    then_any Count _ count_at _ [] count_reads (λ edges.
    then_any (BodyText m es) (onward (Handed base at groups edges)) (body_at m es) (onward_at (handed_at base at groups edges)) [] (body_reads m es) (onward_each (Handed base at groups edges) (handed_at base at groups edges) (handed_reads base at groups edges))))))))

handover_number_reads : (m : Mission) (es : List WrittenExtension) → Reads (Then OneMore (onward (HandoverBack m es))) (handover_number_at m es) []
unfolding handover_number_at
handover_number_reads m es = then_any OneMore (onward (HandoverBack m es)) one_more_at (onward_at (handover_back_at m es)) [] one_more_reads (onward_each (HandoverBack m es) (handover_back_at m es) (handover_back_reads m es))

-- Plans that came too late.

missed_reads : (bound : WrittenBound) (from to : ℤ) (body : WrittenBody) → Reads (Missed bound from to body) (missed_at bound from to body) []
unfolding missed_at
missed_reads bound from to body = yields_reads _

pub miss_reads : (m : Mission) (es : List WrittenExtension) → Reads (MissText m es) (miss_at m es) []
unfolding miss_at
miss_reads m es =
    then_any BoundText _ bound_at _ [] bound_reads (λ bound.
    then_any (Keyword "times") _ (keyword "times") _ [] (keyword_reads "times") (λ _.
    then_any Number _ number _ [] number_reads (λ from.
    then_any Number _ number _ [] number_reads (λ to.
    then_any (BodyText m es) (onward (Missed bound from to)) (body_at m es) (onward_at (missed_at bound from to)) [] (body_reads m es) (onward_each (Missed bound from to) (missed_at bound from to) (missed_reads bound from to))))))

-- A value and the number of its pieces.

abbrev uncounted : {A : Type 0} → Kept (Counted A) → Kept A
uncounted (kept c) = kept c.value
uncounted (broken n) = broken n

text_in : {A : Type 0} (R : Language (Kept A)) (u : List Piece) (v : Kept (Counted A)) → CountedText R u v → R u (uncounted v)
text_in R u (kept c) h = h.0
text_in R u (broken n) h = h

counted_in : {A : Type 0} (R : Language (Kept A)) (u : List Piece) (v : Kept A) → R u v → CountedText R u (with_size (length u) v)
counted_in R u (kept x) h = (h, refl)
counted_in R u (broken n) h = h

counted_one : {A : Type 0} (R : Language (Kept A)) (u : List Piece) (v : Kept (Counted A)) → CountedText R u v → with_size (length u) (uncounted v) ≡ v
counted_one R u (kept c) h = ap (λ (n : ℕ). kept (record { value = c.value; size = n })) (sym h.1)
counted_one R u (broken n) h = refl

counted_done : {A : Type 0} (p : Parser (Kept A)) (ps rest : List Piece) (v : Kept A) → p ps ≡ done v rest → counted_at p ps ≡ done (with_size (length ps - length rest) v) rest
unfolding counted_at
counted_done p ps rest v h = ap (λ r. go_on r (λ x others. yields (with_size (length ps - length others) x) others)) h

counted_front : {A : Type 0} (p : Parser (Kept A)) (u rest : List Piece) (v : Kept A) → p (u ++ rest) ≡ done v rest → counted_at p (u ++ rest) ≡ done (with_size (length u) v) rest
counted_front p u rest v h =
    let n : length (u ++ rest) - length rest ≡ length u = omega (arith, length-append u rest) in
    counted_done p (u ++ rest) rest v h ∙ ap (λ (k : ℕ). done (with_size k v) rest) n

counted_sound : {A : Type 0} (R : Language (Kept A)) (p : Parser (Kept A)) → Reads R p [] → (ps rest : List Piece) (x : Kept (Counted A)) → counted_at p ps ≡ done x rest → HasRead (CountedText R) (counted_at p) ps x rest
unfolding counted_at
counted_sound {A} R p r ps rest x h =
    let a = went_on (p ps) (λ v others. yields (with_size (length ps - length others) v) others) x rest h in
    let m = r.sound ps a.1 a.0 a.2 in
    let same = same_rest a.3 in
    let n : length ps - length a.1 ≡ length m.front = omega (arith, ap length m.split, length-append m.front a.1) in
    let is : with_size (length m.front) a.0 ≡ x = ap (λ (k : ℕ). with_size k a.0) (sym n) ∙ same_value a.3 in record {
      front = m.front;
      sentence = subst (λ (z : Kept (Counted A)). CountedText R m.front z) is (counted_in R m.front a.0 m.sentence);
      split = m.split ∙ ap (λ (zs : List Piece). m.front ++ zs) same;
      local = λ other e. counted_front p m.front other a.0 (m.local other (e ∙ ap next (sym same))) ∙ ap (λ z. done z other) is;
    }

counted_halts : {A : Type 0} (R : Language (Kept A)) (p : Parser (Kept A)) → Reads R p [] → (ps rest : List Piece) → counted_at p ps ≡ stuck rest → IsStuck (CountedText R) ps rest
unfolding counted_at
counted_halts R p r ps rest h =
    elim (got_stuck (p ps) (λ v others. yields (with_size (length ps - length others) v) others) rest h) [
      | inl k ↦
          let s = r.halts ps rest k in record {
            front = s.front;
            split = s.split;
            begins = record { more = s.begins.more; value = with_size (length (s.front ++ s.begins.more)) s.begins.value; sentence = counted_in R (s.front ++ s.begins.more) s.begins.value s.begins.sentence };
            none = λ q others more x e t. s.none q others more (uncounted x) e (text_in R _ x t);
          }
      | inr k ↦ absurd (never k.3)
    ]
  where
    never : {B : Type 0} {x : B} {a b : List Piece} → done x a ≡ stuck b → ⊥
    never e = cc

counted_reads : {A : Type 0} (R : Language (Kept A)) (p : Parser (Kept A)) → Reads R p [] → Reads (CountedText R) (counted_at p) []
counted_reads R p r = record {
  sound = counted_sound R p r;
  complete = λ u rest x h a. counted_front p u rest (uncounted x) (r.complete u rest (uncounted x) (text_in R u x h) a) ∙ ap (λ z. done z rest) (counted_one R u x h);
  halts = counted_halts R p r;
  lives = record { pieces = r.lives.pieces; value = with_size (length r.lives.pieces) r.lives.value; sentence = counted_in R r.lives.pieces r.lives.value r.lives.sentence };
}

stale_end_reads : (m : Mission) (es : List WrittenExtension) (base : ℕ) (at : ℤ) (c : Counted WrittenMiss) → Reads (StaleEnd m es base at c) (stale_end_at m es base at c) []
unfolding stale_end_at
stale_end_reads m es base at c = yields_reads _

stale_back_reads : (m : Mission) (es : List WrittenExtension) (base : ℕ) → Reads (StaleBack m es base) (stale_back_at m es base) []
unfolding stale_back_at
stale_back_reads m es base =
    then_any (Keyword "at") _ (keyword "at") _ [] (keyword_reads "at") (λ _.
    then_any Number _ number _ [] number_reads (λ at.
    then_any (Keyword "bound") _ (keyword "bound") _ [] (keyword_reads "bound") (λ _.
    then_any (CountedText (MissText m es)) (onward (StaleEnd m es base at)) (counted_at (miss_at m es)) (onward_at (stale_end_at m es base at)) [] (counted_reads (MissText m es) (miss_at m es) (miss_reads m es)) (onward_each (StaleEnd m es base at) (stale_end_at m es base at) (stale_end_reads m es base at)))))

stale_number_reads : (m : Mission) (es : List WrittenExtension) → Reads (Then OneMore (onward (StaleBack m es))) (stale_number_at m es) []
unfolding stale_number_at
stale_number_reads m es = then_any OneMore (onward (StaleBack m es)) one_more_at (onward_at (stale_back_at m es)) [] one_more_reads (onward_each (StaleBack m es) (stale_back_at m es) (stale_back_reads m es))

-- An entry by its first word.

by_word : {A : Type 0} (w : String) (R S : Language A) (p q : Parser A) (ss : List Piece) → Reads R p [] → Reads S q [] → StartsIn S ss → list_all (λ s. list_all (λ f. not (same_piece f s)) (kw w ∷ [])) ss ≡ true → Reads (After w R ∣ S) (choose (is_word (codes w)) (after w p) q) []
by_word w R S p q ss r s b t = choose_reads (is_word (codes w)) (kw w) (After w R) S (after w p) q [] (finds_word w) (begins_word w _) (after_reads w R p [] r) s (leads_starts S ss [] (kw w ∷ []) b t)

-- the words that entries begin with, from one of them on
abbrev words_from_broken : List Piece
words_from_broken = kw "broken" ∷ []

abbrev words_from_early : List Piece
words_from_early = kw "early" ∷ words_from_broken

abbrev words_from_late : List Piece
words_from_late = kw "late" ∷ words_from_early

abbrev words_from_horizon : List Piece
words_from_horizon = kw "horizon" ∷ words_from_late

abbrev words_from_report : List Piece
words_from_report = kw "report" ∷ words_from_horizon

abbrev words_from_fire : List Piece
words_from_fire = kw "fire" ∷ words_from_report

abbrev words_from_stale : List Piece
words_from_stale = kw "stale" ∷ words_from_fire

abbrev entry_words : List Piece
entry_words = kw "handover" ∷ words_from_stale

entry_reads : (m : Mission) (es : List WrittenExtension) → Reads (EntryText m es) (entry_at m es) []
unfolding entry_at handover_at stale_at fire_at report_at pass_at late_at early_at broken_at
entry_reads m es =
    let fire = timed_text (TokenOf m es) (token_of_at m es) (token_of_reads m es) Fire in
    let report = timed_text (TokenOf m es) (token_of_at m es) (token_of_reads m es) Report in
    let pass = timed_text (HorizonOf m es) (horizon_of_at m es) (horizon_of_reads m es) Fire in
    let late = timed_text (BoundOf m es) (bound_of_at m es) (bound_of_reads m es) Late in
    let early = timed_text (BoundOf m es) (bound_of_at m es) (bound_of_reads m es) Early in
    let broke = timed_text AnyName any_name_at any_name_reads Broken in
    let s8 = starts_after "broken" (TimedText AnyName Broken) in
    let s7 = starts_either (After "early" (TimedText (BoundOf m es) Early)) _ (kw "early") _ (starts_after "early" _) s8 in
    let s6 = starts_either (After "late" (TimedText (BoundOf m es) Late)) _ (kw "late") _ (starts_after "late" _) s7 in
    let s5 = starts_either (After "horizon" (TimedText (HorizonOf m es) Fire)) _ (kw "horizon") _ (starts_after "horizon" _) s6 in
    let s4 = starts_either (After "report" (TimedText (TokenOf m es) Report)) _ (kw "report") _ (starts_after "report" _) s5 in
    let s3 = starts_either (After "fire" (TimedText (TokenOf m es) Fire)) _ (kw "fire") _ (starts_after "fire" _) s4 in
    let s2 = starts_either (StaleText m es) _ (kw "stale") _ (starts_after "stale" _) s3 in
    by_word "handover" _ _ _ _ _ (handover_number_reads m es)
    (by_word "stale" _ _ _ _ _ (stale_number_reads m es)
    (by_word "fire" _ _ _ _ _ fire
    (by_word "report" _ _ _ _ _ report
    (by_word "horizon" _ _ _ _ _ pass
    (by_word "late" _ _ _ _ _ late
    (by_word "early" _ _ _ _ _ early (after_reads "broken" _ _ [] broke) s8 refl) s7 refl) s6 refl) s5 refl) s4 refl) s3 refl) s2 refl

-- an entry begins with one of the words
word_next : {A : Type 0} (w : String) (R : Language A) (u rest : List Piece) (x : A) → is_entry (Some (kw w)) ≡ true → After w R u x → is_entry (next (u ++ rest)) ≡ true
word_next w R u rest x t h = ap is_entry (begins_next (After w R) (kw w) (begins_word w _) u rest x h) ∙ t

entry_begins : (m : Mission) (es : List WrittenExtension) (u rest : List Piece) (v : Kept WrittenEntry) → EntryText m es u v → is_entry (next (u ++ rest)) ≡ true
entry_begins m es u rest v (inl h) = word_next "handover" _ u rest v refl h
entry_begins m es u rest v (inr (inl h)) = word_next "stale" _ u rest v refl h
entry_begins m es u rest v (inr (inr (inl h))) = word_next "fire" _ u rest v refl h
entry_begins m es u rest v (inr (inr (inr (inl h)))) = word_next "report" _ u rest v refl h
entry_begins m es u rest v (inr (inr (inr (inr (inl h))))) = word_next "horizon" _ u rest v refl h
entry_begins m es u rest v (inr (inr (inr (inr (inr (inl h)))))) = word_next "late" _ u rest v refl h
entry_begins m es u rest v (inr (inr (inr (inr (inr (inr (inl h))))))) = word_next "early" _ u rest v refl h
entry_begins m es u rest v (inr (inr (inr (inr (inr (inr (inr h))))))) = word_next "broken" _ u rest v refl h

-- a piece that is none of them begins none
avoided : (s : Piece) (ss : List Piece) (p : Piece) → Avoids (s ∷ ss) (Some p) → (s ≡ p → ⊥) × Avoids ss (Some p)
avoided s ss p h = h

not_word : (w : String) (p : Piece) → (kw w ≡ p → ⊥) → is_word (codes w) (Some p) ≡ false
not_word w p n = not_found (is_word (codes w)) (kw w) (finds_word w) (Some p) (n, tt)

no_entry : (o : Option Piece) → Avoids entry_words o → is_entry o ≡ false
no_entry None a = refl
no_entry (Some p) a =
    let a1 = avoided (kw "handover") words_from_stale p a in
    let a2 = avoided (kw "stale") words_from_fire p a1.1 in
    let a3 = avoided (kw "fire") words_from_report p a2.1 in
    let a4 = avoided (kw "report") words_from_horizon p a3.1 in
    let a5 = avoided (kw "horizon") words_from_late p a4.1 in
    let a6 = avoided (kw "late") words_from_early p a5.1 in
    let a7 = avoided (kw "early") words_from_broken p a6.1 in
    let a8 = avoided (kw "broken") [] p a7.1 in
    rw (not_word "handover" p a1.0, not_word "stale" p a2.0, not_word "fire" p a3.0, not_word "report" p a4.0, not_word "horizon" p a5.0, not_word "late" p a6.0, not_word "early" p a7.0, not_word "broken" p a8.0) refl

pub entry_series : (m : Mission) → AreKept is_entry entry_words (EntryText m) (entry_at m) []
entry_series m = record {
  none = refl;
  begins = λ es u rest v h. entry_begins m es u rest v h;
  reads = entry_reads m;
  behind = λ o h. avoids_none o;
  stops = λ o a. (no_entry o a, avoids_none o);
}

-- Logs.

phase_reads : Reads PhaseText phase_at []
unfolding phase_at
phase_reads =
    let s4 = starts_after "ended" (Yields Ended) in
    let s3 = starts_either (After "failed" (Yields Failed)) _ (kw "failed") _ (starts_after "failed" _) s4 in
    let s2 = starts_either (After "running" (Yields Running)) _ (kw "running") _ (starts_after "running" _) s3 in
    by_word "waiting" _ _ _ _ _ (yields_reads Waiting)
    (by_word "running" _ _ _ _ _ (yields_reads Running)
    (by_word "failed" _ _ _ _ _ (yields_reads Failed) (after_reads "ended" _ _ [] (yields_reads Ended)) s4 refl) s3 refl) s2 refl

log_end_reads : (entries : List WrittenEntry) → Reads (LogEnd entries) (log_end_at entries) []
unfolding log_end_at
log_end_reads entries =
    then_any (Keyword "stop") _ (keyword "stop") _ [] (keyword_reads "stop") (λ _.
    then_any PhaseText _ phase_at _ [] phase_reads (λ phase.
    then_any (Keyword "at") _ (keyword "at") _ [] (keyword_reads "at") (λ _.
    then_any Number _ number _ [] number_reads (λ at. yields_reads _))))

log_back_reads : (m : Mission) (u : Unit {0}) → Reads (LogBack m u) (log_back_at m u) []
unfolding log_back_at entries_at
log_back_reads m u =
    onward_reads (Series (EntryText m) plan_behind []) LogEnd (series is_entry (entry_at m) plan_behind []) log_end_at entry_words
    (series_kept is_entry entry_words (EntryText m) (entry_at m) plan_behind (entry_series m) [])
    (λ es. leads_begin (LogEnd es) (kw "stop") [] entry_words (begins_word "stop" _) refl)
    log_end_reads

-- a log's text is read from left to right
pub log_reads : (m : Mission) → Reads (LogGrammar m) (log_at m) []
unfolding log_at
log_reads m =
    then_any (Keyword "hsts") _ (keyword "hsts") _ [] (keyword_reads "hsts") (λ _.
    then_any (Keyword "log") _ (keyword "log") _ [] (keyword_reads "log") (λ _.
    then_any (Exactly 1) (onward (LogBack m)) (exactly_at 1) (onward_at (log_back_at m)) [] (exactly_reads 1) (onward_each (LogBack m) (log_back_at m) (log_back_reads m))))
