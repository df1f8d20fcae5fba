-- Which pieces of a text spell which entries of a mission's log, and why others are refused.
use Rattle.std.specs.Prelude.{◌≡◌, ℕ, List, [], ◌∷◌, ◌++◌, flat_map, fold}
use Rattle.hs_base.specs.declared.ids.PointId.{PointId}
use Rattle.hs_base.specs.declared.ids.SvId.{SvId}
use Rattle.hs_base.specs.declared.mission.Mission.{Mission}
use Rattle.hs_base.specs.declared.net.Bound.{Bound}
use Rattle.hs_base.specs.declared.net.Net.{Net}
use Rattle.hs_base.specs.declared.plan.Extension.{Extension}
use Rattle.hs_machine.specs.declared.history.Deed.{Deed}
use Rattle.hs_machine.specs.declared.history.Deed.TheVariants.{Fire, Report, Handover, Stale, Late, Early, Broken}
use Rattle.hs_texts.specs.declared.refusal.Refusal.{Refusal}
use Rattle.hs_texts.specs.MissionMeaning.{IsNumberOf}
use Rattle.hs_texts.specs.MissionRefusals.{unknown_in}
use Rattle.hs_texts.specs.KeptTexts.{IsNamedRefusal, IsKeptRefusal}
use Rattle.hs_texts.specs.PlanSpelling.{names_of, PointMeans, ExtensionMeans, unknown_in_point, unknown_in_body}
use Rattle.log_laws.specs.declared.written.WrittenBound.{WrittenBound}
use Rattle.log_laws.specs.declared.written.WrittenDeed.{WrittenDeed}
use Rattle.log_laws.specs.declared.written.WrittenDeed.TheVariants.{Handover as handed, Stale as went_stale, Fire as fired, Report as reported, Late as too_late, Early as too_early, Broken as broke}
use Rattle.log_laws.specs.declared.written.WrittenEntry.{WrittenEntry}
use Rattle.log_laws.specs.declared.written.WrittenLog.{WrittenLog}
use Rattle.log_laws.specs.LogGrammar.{LogGrammar}
use Rattle.log_laws.specs.WritableLogs.{IsLogText}
use Rattle.journal_read.specs.declared.noted.Noted.{Noted}

-- Each name as its number, behind the plan es.

pub record BoundMeans (m : Mission) (es : List Extension) (w : WrittenBound) (b : Bound) : Type 0 where
  pub from : PointMeans m es w.from b.from.0
  pub to : PointMeans m es w.to b.to.0
  pub most : b.most ≡ w.most

-- a network of no group and no edge, of which the log has the counts alone
abbrev pub no_net : Net
no_net = record { groups = []; edges = [] }

abbrev pub DeedMeans : Mission → List Extension → WrittenDeed → Deed → Type 0
DeedMeans m es (handed w groups edges) d = (e : Extension) × ExtensionMeans m es w e × (d ≡ Handover e no_net)
DeedMeans m es (went_stale w c from to) d = (e : Extension) × (b : Bound) × ExtensionMeans m es w e × BoundMeans m (es ++ e ∷ []) c b × (d ≡ Stale e b from to)
DeedMeans m es (fired w) d = (x : PointId) × PointMeans m es w x.0 × (d ≡ Fire x)
DeedMeans m es (reported w) d = (x : PointId) × PointMeans m es w x.0 × (d ≡ Report x)
DeedMeans m es (too_late c) d = (b : Bound) × BoundMeans m es c b × (d ≡ Late b)
DeedMeans m es (too_early c) d = (b : Bound) × BoundMeans m es c b × (d ≡ Early b)
DeedMeans m es (broke name) d = (v : SvId) × IsNumberOf (names_of m) name v.0 × (d ≡ Broken v)

-- the counts of a handover's network
abbrev pub groups_in : WrittenDeed → ℕ
groups_in (handed w groups edges) = groups
groups_in _ = 0

abbrev pub edges_in : WrittenDeed → ℕ
edges_in (handed w groups edges) = edges
edges_in _ = 0

pub record EntryMeans (m : Mission) (es : List Extension) (w : WrittenEntry) (n : Noted) : Type 0 where
  pub at : n.at ≡ w.at
  pub what : DeedMeans m es w.deed n.what
  pub groups : n.groups ≡ groups_in w.deed
  pub edges : n.edges ≡ edges_in w.deed

-- the plan behind a deed: a handover adds to it
abbrev pub plan_after : List Extension → Deed → List Extension
plan_after es (Handover e net) = es ++ e ∷ []
plan_after es _ = es

-- the plan behind entries: their handovers in turn
abbrev pub plan_in : List Noted → List Extension
plan_in ns = fold (λ (es : List Extension) (n : Noted). plan_after es n.what) [] ns

-- entries one after another
abbrev pub EntriesMean : Mission → List Extension → List WrittenEntry → List Noted → Type 0
EntriesMean m es [] [] = Unit {0}
EntriesMean m es (w ∷ ws) (n ∷ ns) = EntryMeans m es w n × EntriesMean m (plan_after es n.what) ws ns
EntriesMean m es _ _ = ⊥

-- The names that the mission doesn't have, in text order.

abbrev pub unknown_in_bound : Mission → WrittenBound → List (List ℕ)
unknown_in_bound m b = unknown_in_point m b.from ++ unknown_in_point m b.to

abbrev pub unknown_in_deed : Mission → WrittenDeed → List (List ℕ)
unknown_in_deed m (handed w groups edges) = unknown_in_body m w.body
unknown_in_deed m (went_stale w b from to) = unknown_in_bound m b ++ unknown_in_body m w.body
unknown_in_deed m (fired w) = unknown_in_point m w
unknown_in_deed m (reported w) = unknown_in_point m w
unknown_in_deed m (too_late b) = unknown_in_bound m b
unknown_in_deed m (too_early b) = unknown_in_bound m b
unknown_in_deed m (broke name) = unknown_in (names_of m) name

abbrev pub unknown_in_entries : Mission → List WrittenEntry → List (List ℕ)
unknown_in_entries m ws = flat_map (λ (w : WrittenEntry). unknown_in_deed m w.deed) ws

abbrev pub unknown_in_log : Mission → WrittenLog → List (List ℕ)
unknown_in_log m l = unknown_in_entries m l.entries

-- The pieces of a text from number i on.

-- they spell these entries
pub record LogSpells (m : Mission) (bytes : List ℕ) (i : ℕ) (ns : List Noted) : Type 0 where
  pub written : WrittenLog
  pub is_log : IsLogText m bytes i written
  pub means : EntriesMean m [] written.entries ns

-- why they are no log's text
abbrev pub IsLogTextRefusal : Mission → List ℕ → ℕ → Refusal → Type 0
IsLogTextRefusal m bytes i r = IsKeptRefusal (LogGrammar m) bytes i r

-- why they spell no log: the first piece that no log goes on with, the first behind a whole log, or the first name that the mission doesn't have
abbrev pub IsLogRefusal : Mission → List ℕ → ℕ → Refusal → Type 0
IsLogRefusal m bytes i r = IsNamedRefusal (LogGrammar m) (unknown_in_log m) bytes i r
