-- A log that breaks off has the pieces that may not stand there.
use Rattle.std.proofs.Common.{◌≡◌, ℕ, ◌+◌, ◌-◌, ◌≤◌, ℤ, List, [], ◌∷◌, ◌++◌, length, Bool, true, false, cond, ap, length-append, inl, inr, arith}
use Prim.Native.String.{String}
use Rattle.hs_base.specs.declared.mission.Mission.{Mission}
use Rattle.hs_texts.specs.Pieces.{Piece}
use Rattle.hs_texts.specs.Languages.{Language, Then, ◌∣◌, Keyword, Number, After}
use Rattle.hs_texts.specs.Kept.{Kept, kept, broken, onward, Series}
use Rattle.hs_texts.specs.PlanGrammar.{Count, Name, has_point, point_size, Exactly, OneMore, TokenText, BodyText}
use Rattle.hs_texts.specs.declared.written.WrittenPoint.{WrittenPoint}
use Rattle.hs_texts.specs.declared.written.WrittenPoint.TheVariants.{Horizon, End}
use Rattle.hs_texts.specs.declared.written.WrittenToken.{WrittenToken}
use Rattle.hs_texts.specs.declared.written.WrittenExtension.{WrittenExtension}
use Rattle.plan_text.proofs.SizeLemmas.{Sized, sized_kept, sized_then, sized_onward, sized_series, point_sized, sized_exactly, sized_one_more, sized_body}
use Rattle.log_laws.specs.declared.written.WrittenMiss.{WrittenMiss}
use Rattle.log_laws.specs.declared.written.WrittenDeed.{WrittenDeed}
use Rattle.log_laws.specs.declared.written.WrittenDeed.TheVariants.{Stale, Fire, Report, Late, Early, Broken}
use Rattle.log_laws.specs.declared.written.WrittenEntry.{WrittenEntry}
use Rattle.log_laws.specs.LogGrammar.{Signed, PointOf, TokenOf, HorizonOf, BoundMost, BoundTo, BoundOf, BoundText, Timed, TimedText, AnyName, Handed, HandoverBack, Missed, MissText, Counted, CountedText, stale_entry, StaleEnd, StaleBack, EntryText, plan_behind, PhaseText, LogEnd, LogBack, LogGrammar}

sized_either : {A : Type 0} (R S : Language (Kept A)) → Sized R → Sized S → Sized (R ∣ S)
sized_either R S r s = record { sized = λ u n h. elim h [ inl k ↦ r.sized u n k | inr k ↦ s.sized u n k ] }

sized_after : {A : Type 0} (w : String) (R : Language (Kept A)) → Sized R → Sized (After w R)
sized_after w R r = sized_then (Keyword w) (λ _. R) (λ _. r)

-- Points of the plan.

held_size : {A : Type 0} (b : Bool) (x : A) (s n : ℕ) → broken n ≡ cond b (kept x) (broken s) → n ≡ s
held_size true x s n e = absurd cc
held_size false x s n e = cc

token_sized : (u : List Piece) (t : WrittenToken) → TokenText u t → length u ≡ 2
token_sized u t h =
    let l = h.second in
    omega (arith, ap length h.joined, length-append h.front h.back, ap length h.first.1, ap length l.joined, length-append l.front l.back, ap length l.first.1, ap length l.second.0)

sized_point : (m : Mission) (es : List WrittenExtension) → Sized (PointOf m es)
sized_point m es = record {
  sized = λ u n h.
      let e = held_size (has_point m es h.value) h.value (point_size h.value) n h.second.1 in
      omega (arith, ap length h.joined, length-append h.front h.back, point_sized h.front h.value h.first, e);
}

sized_token : (m : Mission) (es : List WrittenExtension) → Sized (TokenOf m es)
sized_token m es = record {
  sized = λ u n h.
      let e = held_size (has_point m es (End h.value)) (End h.value) 2 n h.second.1 in
      omega (arith, ap length h.joined, length-append h.front h.back, token_sized h.front h.value h.first, e);
}

sized_horizon : (m : Mission) (es : List WrittenExtension) → Sized (HorizonOf m es)
sized_horizon m es = record {
  sized = λ u n h.
      let e = held_size (has_point m es (Horizon h.value)) (Horizon h.value) 1 n h.second.1 in
      omega (arith, ap length h.joined, length-append h.front h.back, ap length h.first.1, e);
}

sized_bound_most : (from to : WrittenPoint) → Sized (BoundMost from to)
sized_bound_most from to = sized_then (Keyword "most") _ (λ _. sized_then Signed _ (λ most. sized_kept _))

sized_bound_to : (m : Mission) (es : List WrittenExtension) (from : WrittenPoint) → Sized (BoundTo m es from)
sized_bound_to m es from = sized_then (Keyword "to") _ (λ _. sized_onward (PointOf m es) (BoundMost from) (sized_point m es) (sized_bound_most from))

sized_bound : (m : Mission) (es : List WrittenExtension) → Sized (BoundOf m es)
sized_bound m es = sized_onward (PointOf m es) (BoundTo m es) (sized_point m es) (sized_bound_to m es)

-- Entries.

sized_timed : {A : Type 0} (R : Language (Kept A)) (deed : A → WrittenDeed) → Sized R → Sized (TimedText R deed)
sized_timed R deed r = sized_onward R (λ said. Timed (deed said)) r (λ said. sized_then (Keyword "at") _ (λ _. sized_then Number _ (λ at. sized_kept _)))

sized_any_name : Sized AnyName
sized_any_name = sized_then Name _ (λ name. sized_kept name)

sized_handover_back : (m : Mission) (es : List WrittenExtension) (base : ℕ) → Sized (HandoverBack m es base)
sized_handover_back m es base =
    sized_then (Keyword "at") _ (λ _. sized_then Number _ (λ at. sized_then (Keyword "groups") _ (λ _. sized_then Count _ (λ groups.
    sized_then (Keyword "edges") _ (λ _. sized_then Count _ (λ edges.
    sized_onward (BodyText m es) (Handed base at groups edges) (sized_body m es) (λ body. sized_kept _)))))))

sized_miss : (m : Mission) (es : List WrittenExtension) → Sized (MissText m es)
sized_miss m es =
    sized_then BoundText _ (λ bound. sized_then (Keyword "times") _ (λ _. sized_then Number _ (λ from. sized_then Number _ (λ to.
    sized_onward (BodyText m es) (Missed bound from to) (sized_body m es) (λ body. sized_kept _)))))

chosen_size : {A : Type 0} (a b : Bool) (x : A) (s t n : ℕ) → t ≤ s → broken n ≡ cond a (cond b (kept x) (broken t)) (broken s) → n ≤ s
chosen_size true true x s t n l e = absurd cc
chosen_size true false x s t n l e = let k : n ≡ t = cc in omega (arith, k, l)
chosen_size false b x s t n l e = let k : n ≡ s = cc in omega (arith, k)

stale_size : (m : Mission) (es : List WrittenExtension) (base : ℕ) (at : ℤ) (c : Counted WrittenMiss) (n : ℕ) → broken n ≡ stale_entry m es base at c → n ≤ c.size
stale_size m es base at c n e =
    let miss = c.value in
    let extension : WrittenExtension = record { base = base; body = miss.body } in
    chosen_size (has_point m (es ++ extension ∷ []) miss.bound.from) (has_point m (es ++ extension ∷ []) miss.bound.to) (record { at = at; deed = Stale extension miss.bound miss.from_time miss.to_time }) c.size (c.size - (point_size miss.bound.from + 1)) n (omega arith) e

stale_end_size : (m : Mission) (es : List WrittenExtension) (base : ℕ) (at : ℤ) (f b : List Piece) (v : Kept (Counted WrittenMiss)) (n : ℕ) → CountedText (MissText m es) f v → onward (StaleEnd m es base at) v b (broken n) → n ≤ length f + length b
stale_end_size m es base at f b (kept c) n h k = let l = stale_size m es base at c n k.1 in omega (arith, l, h.1)
stale_end_size m es base at f b (broken i) n h k = let l = (sized_miss m es).sized f i h in let e : n ≡ i = cc (k.1) in omega (arith, l, e)

sized_stale_end : (m : Mission) (es : List WrittenExtension) (base : ℕ) (at : ℤ) → Sized (Then (CountedText (MissText m es)) (onward (StaleEnd m es base at)))
sized_stale_end m es base at = record { sized = λ u n h. let k = stale_end_size m es base at h.front h.back h.value n h.first h.second in omega (arith, ap length h.joined, length-append h.front h.back, k) }

sized_stale_back : (m : Mission) (es : List WrittenExtension) (base : ℕ) → Sized (StaleBack m es base)
sized_stale_back m es base = sized_then (Keyword "at") _ (λ _. sized_then Number _ (λ at. sized_then (Keyword "bound") _ (λ _. sized_stale_end m es base at)))

sized_entry : (m : Mission) (es : List WrittenExtension) → Sized (EntryText m es)
sized_entry m es =
    sized_either _ _ (sized_after "handover" _ (sized_onward OneMore (HandoverBack m es) sized_one_more (sized_handover_back m es)))
    (sized_either _ _ (sized_after "stale" _ (sized_onward OneMore (StaleBack m es) sized_one_more (sized_stale_back m es)))
    (sized_either _ _ (sized_after "fire" _ (sized_timed (TokenOf m es) Fire (sized_token m es)))
    (sized_either _ _ (sized_after "report" _ (sized_timed (TokenOf m es) Report (sized_token m es)))
    (sized_either _ _ (sized_after "horizon" _ (sized_timed (HorizonOf m es) Fire (sized_horizon m es)))
    (sized_either _ _ (sized_after "late" _ (sized_timed (BoundOf m es) Late (sized_bound m es)))
    (sized_either _ _ (sized_after "early" _ (sized_timed (BoundOf m es) Early (sized_bound m es)))
    (sized_after "broken" _ (sized_timed AnyName Broken sized_any_name))))))))

-- Logs.

sized_log_end : (entries : List WrittenEntry) → Sized (LogEnd entries)
sized_log_end entries = sized_then (Keyword "stop") _ (λ _. sized_then PhaseText _ (λ phase. sized_then (Keyword "at") _ (λ _. sized_then Number _ (λ at. sized_kept _))))

sized_log_back : (m : Mission) (u : Unit {0}) → Sized (LogBack m u)
sized_log_back m u = sized_onward (Series (EntryText m) plan_behind []) LogEnd (sized_series (EntryText m) plan_behind (sized_entry m) []) sized_log_end

pub sized_log : (m : Mission) → Sized (LogGrammar m)
sized_log m =
    sized_then (Keyword "hsts") _ (λ _. sized_then (Keyword "log") _ (λ _.
    sized_onward (Exactly 1) (LogBack m) (sized_exactly 1) (sized_log_back m)))
