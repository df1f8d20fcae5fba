-- Which pieces of a text spell which plan of a mission, and why others are refused.
use Rattle.std.specs.Prelude.{◌≡◌, ℕ, List, [], ◌∷◌, ◌++◌, map, flat_map, find, slice_get, Some, None}
use Rattle.std.specs.List.{AllZip}
use Rattle.std.specs.Str.{bytes_eq}
use Rattle.hs_base.specs.declared.plan.Extension.{Extension}
use Rattle.hs_base.specs.declared.mission.Kind.{Kind}
use Rattle.hs_base.specs.declared.mission.Mission.{Mission}
use Rattle.hs_base.specs.declared.plan.Support.{Support}
use Rattle.hs_base.specs.declared.plan.Time.{Time}
use Rattle.hs_base.specs.declared.plan.TokenRef.{TokenRef}
use Rattle.hs_base.specs.declared.mission.Value.{Value}
use Rattle.hs_base.specs.declared.mission.Var.{Var}
use Rattle.hs_texts.specs.Types.{Refusal, WrittenPoint, Origin, Horizon, End, WrittenToken, WrittenTime, WrittenKind, WrittenSupport, WrittenBody, WrittenExtension}
use Rattle.hs_base.specs.Points.{horizon, ending, place_of, points_of}
use Rattle.hs_texts.specs.MissionMeaning.{IsNumberOf}
use Rattle.hs_texts.specs.MissionRefusals.{unknown_in}
use Rattle.hs_texts.specs.KeptTexts.{IsKeptText, IsKeptRefusal, IsNamedRefusal}
use Rattle.hs_texts.specs.PlanGrammar.{PlanGrammar}

abbrev pub names_of : Mission → List (List ℕ)
names_of m = map (λ (v : Var). v.name) m.vars

-- Each name as its number.

pub record TokenMeans (m : Mission) (w : WrittenToken) (t : TokenRef) : Type 0 where
  pub sv : IsNumberOf (names_of m) w.sv t.sv.0
  pub place : t.place ≡ w.place

pub record KindMeans (m : Mission) (w : WrittenKind) (k : Kind) : Type 0 where
  pub sv : IsNumberOf (names_of m) w.sv k.sv.0
  pub var : Var
  pub there : slice_get m.vars k.sv.0 ≡ Some var
  pub value : IsNumberOf (map (λ (v : Value). v.name) var.values) w.value k.value.0

-- the number of a point in the plan es
abbrev pub PointMeans : Mission → List Extension → WrittenPoint → ℕ → Type 0
PointMeans m es Origin p = p ≡ 0
PointMeans m es (Horizon k) p = p ≡ place_of (horizon k) (points_of es)
PointMeans m es (End t) p = (v : ℕ) × IsNumberOf (names_of m) t.sv v × (p ≡ place_of (ending v t.place) (points_of es))

pub record TimeMeans (m : Mission) (es : List Extension) (w : WrittenTime) (t : Time) : Type 0 where
  pub point : PointMeans m es w.point t.point.0
  pub at : t.at ≡ w.at

pub record SupportMeans (m : Mission) (w : WrittenSupport) (s : Support) : Type 0 where
  pub token : TokenMeans m w.token s.token
  pub need : s.need ≡ w.need
  pub by : TokenMeans m w.by s.by

-- an extension of the plan es
pub record ExtensionMeans (m : Mission) (es : List Extension) (w : WrittenExtension) (e : Extension) : Type 0 where
  pub base : e.base ≡ w.base
  pub since : e.since ≡ w.body.since
  pub fixed : AllZip (TimeMeans m es) w.body.fixed e.fixed
  pub tokens : AllZip (KindMeans m) w.body.tokens e.tokens
  pub supports : AllZip (SupportMeans m) w.body.supports e.supports
  pub goals : AllZip (TokenMeans m) w.body.goals e.goals

abbrev pub ExtensionsMean : Mission → List Extension → List WrittenExtension → List Extension → Type 0
ExtensionsMean m es [] [] = Unit {0}
ExtensionsMean m es (w ∷ ws) (e ∷ more) = ExtensionMeans m es w e × ExtensionsMean m (es ++ e ∷ []) ws more
ExtensionsMean m es _ _ = ⊥

-- The names that the mission doesn't have, in text order.

abbrev pub unknown_in_point : Mission → WrittenPoint → List (List ℕ)
unknown_in_point m (End t) = unknown_in (names_of m) t.sv
unknown_in_point m _ = []

abbrev pub unknown_in_time : Mission → WrittenTime → List (List ℕ)
unknown_in_time m w = unknown_in_point m w.point

-- a variable, or else its value
abbrev pub unknown_in_kind : Mission → WrittenKind → List (List ℕ)
unknown_in_kind m k =
    elim (find (λ (v : Var). bytes_eq v.name k.sv) m.vars) [
      | None ↦ k.sv ∷ []
      | Some var ↦ unknown_in (map (λ (v : Value). v.name) var.values) k.value
    ]

abbrev pub unknown_in_token : Mission → WrittenToken → List (List ℕ)
unknown_in_token m t = unknown_in (names_of m) t.sv

abbrev pub unknown_in_support : Mission → WrittenSupport → List (List ℕ)
unknown_in_support m s = unknown_in_token m s.token ++ unknown_in_token m s.by

abbrev pub unknown_in_body : Mission → WrittenBody → List (List ℕ)
unknown_in_body m b =
    flat_map (unknown_in_time m) b.fixed
    ++ flat_map (unknown_in_kind m) b.tokens
    ++ flat_map (unknown_in_support m) b.supports
    ++ flat_map (unknown_in_token m) b.goals

abbrev pub unknown_in_plan : Mission → List WrittenExtension → List (List ℕ)
unknown_in_plan m ws = flat_map (λ (w : WrittenExtension). unknown_in_body m w.body) ws

-- The pieces of a text from number i on.

-- they are a plan's text
abbrev pub IsPlanText : Mission → List ℕ → ℕ → List WrittenExtension → Type 0
IsPlanText m bytes i ws = IsKeptText (PlanGrammar m) bytes i ws

-- why they are no plan's text
abbrev pub IsTextRefusal : Mission → List ℕ → ℕ → Refusal → Type 0
IsTextRefusal m bytes i r = IsKeptRefusal (PlanGrammar m) bytes i r

-- they spell the plan
pub record PlanSpells (m : Mission) (bytes : List ℕ) (i : ℕ) (es : List Extension) : Type 0 where
  pub written : List WrittenExtension
  pub is_plan : IsPlanText m bytes i written
  pub means : ExtensionsMean m [] written es

-- why they spell no plan: the first piece that no plan goes on with, the first behind a whole plan, or the first name that the mission doesn't have
abbrev pub IsPlanRefusal : Mission → List ℕ → ℕ → Refusal → Type 0
IsPlanRefusal m bytes i r = IsNamedRefusal (PlanGrammar m) (unknown_in_plan m) bytes i r
