-- A log's text has one answer: the entries that it spells, or one refusal.
use Rattle.std.proofs.Common.{◌≡◌, ℕ, ℤ, List, [], ◌∷◌, ◌++◌, sym, ap, ◌∙◌, subst, refl}
use Rattle.hs_base.specs.declared.ids.PointId.{PointId}
use Rattle.hs_base.specs.declared.ids.SvId.{SvId}
use Rattle.hs_base.specs.declared.mission.Mission.{Mission}
use Rattle.hs_base.specs.declared.net.Bound.{Bound}
use Rattle.hs_base.specs.declared.plan.Extension.{Extension}
use Rattle.hs_machine.specs.declared.history.Deed.{Deed}
use Rattle.hs_machine.specs.declared.history.Deed.TheVariants.{Fire, Report, Handover, Stale, Late, Early, Broken}
use Rattle.hs_texts.specs.declared.refusal.Refusal.{Refusal}
use Rattle.hs_texts.specs.PlanSpelling.{names_of}
use Rattle.plan_text.proofs.KeptAnswerLemmas.{text_one, refusal_one as named_one, known_or_refusal}
use Rattle.plan_text.proofs.MeaningLemmas.{known_name, point_known, extension_known, number_one, point_one, extension_one}
use Rattle.plan_text.proofs.NamingLemmas.{both_known}
use Rattle.log_laws.specs.declared.written.WrittenBound.{WrittenBound}
use Rattle.log_laws.specs.declared.written.WrittenDeed.{WrittenDeed}
use Rattle.log_laws.specs.declared.written.WrittenDeed.TheVariants.{Handover as handed, Stale as went_stale, Fire as fired, Report as reported, Late as too_late, Early as too_early, Broken as broke}
use Rattle.log_laws.specs.declared.written.WrittenEntry.{WrittenEntry}
use Rattle.log_laws.specs.LogGrammar.{LogGrammar}
use Rattle.journal_read.specs.declared.noted.Noted.{Noted}
use Rattle.journal_read.specs.LogReading.{log_at}
use Rattle.journal_read.specs.LogSpelling.{BoundMeans, DeedMeans, EntryMeans, EntriesMean, no_net, plan_after, unknown_in_bound, unknown_in_deed, unknown_in_entries, unknown_in_log, LogSpells, IsLogRefusal}
use Rattle.journal_read.proofs.LogReadLemmas.{log_reads}

-- What means something has known names.

bound_known : (m : Mission) (es : List Extension) (w : WrittenBound) (b : Bound) → BoundMeans m es w b → unknown_in_bound m w ≡ []
bound_known m es w b h = both_known _ _ (point_known m es w.from b.from.0 h.from) (point_known m es w.to b.to.0 h.to)

deed_known : (m : Mission) (es : List Extension) (w : WrittenDeed) (d : Deed) → DeedMeans m es w d → unknown_in_deed m w ≡ []
deed_known m es (handed w groups edges) d h = extension_known m es w h.0 h.1
deed_known m es (went_stale w c from' to') d h = both_known _ _ (bound_known m (es ++ h.0 ∷ []) c h.1 h.3) (extension_known m es w h.0 h.2)
deed_known m es (fired w) d h = point_known m es w h.0.0 h.1
deed_known m es (reported w) d h = point_known m es w h.0.0 h.1
deed_known m es (too_late c) d h = bound_known m es c h.0 h.1
deed_known m es (too_early c) d h = bound_known m es c h.0 h.1
deed_known m es (broke name) d h = known_name (names_of m) name h.0.0 h.1

entries_known : (m : Mission) (es : List Extension) (ws : List WrittenEntry) (ns : List Noted) → EntriesMean m es ws ns → unknown_in_entries m ws ≡ []
entries_known m es [] [] h = refl
entries_known m es [] (n ∷ ns) h = absurd h
entries_known m es (w ∷ ws) [] h = absurd h
entries_known m es (w ∷ ws) (n ∷ ns) h = both_known _ _ (deed_known m es w.deed n.what h.0.what) (entries_known m (plan_after es n.what) ws ns h.1)

-- One meaning.

bound_one : (m : Mission) (es : List Extension) (w : WrittenBound) (b c : Bound) → BoundMeans m es w b → BoundMeans m es w c → b ≡ c
bound_one m es w b c h k = same b c (point_one m es w.from b.from.0 c.from.0 h.from k.from) (point_one m es w.to b.to.0 c.to.0 h.to k.to) (h.most ∙ sym k.most) where
  make : ℕ → ℕ → ℤ → Bound
  make from to most = record { from = record { 0 = from }; to = record { 0 = to }; most = most }

  same : (b c : Bound) → b.from.0 ≡ c.from.0 → b.to.0 ≡ c.to.0 → b.most ≡ c.most → b ≡ c
  same b c f t w = ap (λ i. make i b.to.0 b.most) f ∙ ap (λ i. make c.from.0 i b.most) t ∙ ap (make c.from.0 c.to.0) w

same_point : (x y : PointId) → x.0 ≡ y.0 → x ≡ y
same_point x y e = ap make e where
  make : ℕ → PointId
  make p = record { 0 = p }

same_variable : (v u : SvId) → v.0 ≡ u.0 → v ≡ u
same_variable v u e = ap make e where
  make : ℕ → SvId
  make i = record { 0 = i }

deed_one : (m : Mission) (es : List Extension) (w : WrittenDeed) (d f : Deed) → DeedMeans m es w d → DeedMeans m es w f → d ≡ f
deed_one m es (handed w groups edges) d f h k = h.2 ∙ ap (λ (e : Extension). Handover e no_net) (extension_one m es w h.0 k.0 h.1 k.1) ∙ sym k.2
deed_one m es (went_stale w c from' to') d f h k =
    let e = extension_one m es w h.0 k.0 h.2 k.2 in
    let b = bound_one m (es ++ k.0 ∷ []) c h.1 k.1 (subst (λ (x : Extension). BoundMeans m (es ++ x ∷ []) c h.1) e h.3) k.3 in
    h.4 ∙ ap (λ (x : Extension). Stale x h.1 from' to') e ∙ ap (λ (x : Bound). Stale k.0 x from' to') b ∙ sym k.4
deed_one m es (fired w) d f h k = h.2 ∙ ap Fire (same_point h.0 k.0 (point_one m es w h.0.0 k.0.0 h.1 k.1)) ∙ sym k.2
deed_one m es (reported w) d f h k = h.2 ∙ ap Report (same_point h.0 k.0 (point_one m es w h.0.0 k.0.0 h.1 k.1)) ∙ sym k.2
deed_one m es (too_late c) d f h k = h.2 ∙ ap Late (bound_one m es c h.0 k.0 h.1 k.1) ∙ sym k.2
deed_one m es (too_early c) d f h k = h.2 ∙ ap Early (bound_one m es c h.0 k.0 h.1 k.1) ∙ sym k.2
deed_one m es (broke name) d f h k = h.2 ∙ ap Broken (same_variable h.0 k.0 (number_one (names_of m) name h.0.0 k.0.0 h.1 k.1)) ∙ sym k.2

entry_one : (m : Mission) (es : List Extension) (w : WrittenEntry) (n o : Noted) → EntryMeans m es w n → EntryMeans m es w o → n ≡ o
entry_one m es w n o h k = same n o (h.at ∙ sym k.at) (deed_one m es w.deed n.what o.what h.what k.what) (h.groups ∙ sym k.groups) (h.edges ∙ sym k.edges) where
  make : ℤ → Deed → ℕ → ℕ → Noted
  make at what groups edges = record { at = at; what = what; groups = groups; edges = edges }

  same : (n o : Noted) → n.at ≡ o.at → n.what ≡ o.what → n.groups ≡ o.groups → n.edges ≡ o.edges → n ≡ o
  same n o a d g e =
      ap (λ i. make i n.what n.groups n.edges) a ∙ ap (λ i. make o.at i n.groups n.edges) d
      ∙ ap (λ i. make o.at o.what i n.edges) g ∙ ap (make o.at o.what o.groups) e

entries_one : (m : Mission) (es : List Extension) (ws : List WrittenEntry) (ns os : List Noted) → EntriesMean m es ws ns → EntriesMean m es ws os → ns ≡ os
entries_one m es [] [] [] h k = refl
entries_one m es [] (n ∷ ns) os h k = absurd h
entries_one m es [] [] (o ∷ os) h k = absurd k
entries_one m es (w ∷ ws) [] os h k = absurd h
entries_one m es (w ∷ ws) (n ∷ ns) [] h k = absurd k
entries_one m es (w ∷ ws) (n ∷ ns) (o ∷ os) h k =
    let e = entry_one m es w n o h.0 k.0 in
    let rest = entries_one m (plan_after es o.what) ws ns os (subst (λ (x : Noted). EntriesMean m (plan_after es x.what) ws ns) e h.1) k.1 in
    ap (λ (x : Noted). x ∷ ns) e ∙ ap (λ (xs : List Noted). o ∷ xs) rest

-- a text has one refusal
pub refusal_one : (m : Mission) (bytes : List ℕ) (i : ℕ) (r s : Refusal) → IsLogRefusal m bytes i r → IsLogRefusal m bytes i s → r ≡ s
refusal_one m bytes i r s h k = named_one (LogGrammar m) (log_at m) (log_reads m) (unknown_in_log m) bytes i r s h k

-- a text that spells a log isn't refused
pub spelled_or_refusal : (m : Mission) (bytes : List ℕ) (i : ℕ) (ns : List Noted) (r : Refusal) → LogSpells m bytes i ns → IsLogRefusal m bytes i r → ⊥
spelled_or_refusal m bytes i ns r s h = known_or_refusal (LogGrammar m) (log_at m) (log_reads m) (unknown_in_log m) bytes i s.written r s.is_log (entries_known m [] s.written.entries ns s.means) h

-- and spells one alone
pub log_one : (m : Mission) (bytes : List ℕ) (i : ℕ) (ns os : List Noted) → LogSpells m bytes i ns → LogSpells m bytes i os → ns ≡ os
log_one m bytes i ns os s t =
    let e = text_one (LogGrammar m) (log_at m) (log_reads m) bytes i s.written t.written s.is_log t.is_log in
    entries_one m [] t.written.entries ns os (subst (λ l. EntriesMean m [] l.entries ns) e s.means) t.means
