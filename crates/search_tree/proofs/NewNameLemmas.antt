-- What the names of new tokens name.
use Rattle.std.proofs.Common.{List, Some, [], ap, append_assoc, arith, length, length-append, refl, slice_get, subst, ℕ, ◌++◌, ◌<◌, ◌∙◌, ◌∷◌, ◌≡◌, ◌≤◌}
use Rattle.std.proofs.lemmas.Bool.{eq-eqb}
use Rattle.std.specs.List.{AllByRecursion}
use Rattle.hs_base.specs.Points.{count, ending, new_points, place_of, points_of, ref_after, refs_after, timeline_of, tokens_of}
use Rattle.hs_base.specs.declared.mission.Kind.{Kind}
use Rattle.hs_base.specs.declared.plan.Extension.{Extension}
use Rattle.hs_base.specs.declared.plan.TokenRef.{TokenRef}
use Rattle.base_laws.proofs.ListLemmas.{each_weaker, slice_get-middle}
use Rattle.base_laws.proofs.PointLemmas.{named, place_after, points-push, timeline-append}

-- what a name of a new token names
pub record Names (P : Kind → Type 0) (ts us : List Kind) (t : TokenRef) : Type 0 where
  pub kind : Kind
  pub here : slice_get (timeline_of (ts ++ us) t.sv.0) t.place ≡ Some kind
  pub added : length (timeline_of ts t.sv.0) ≤ t.place
  pub variable : kind.sv.0 ≡ t.sv.0
  pub holds : P kind

names_more : (P : Kind → Type 0) (ts : List Kind) (u : Kind) (us : List Kind) (t : TokenRef) → Names P (ts ++ u ∷ []) us t → Names P ts (u ∷ us) t
names_more P ts u us t n = record {
  kind = n.kind;
  here = subst (λ (l : List Kind). slice_get (timeline_of l t.sv.0) t.place ≡ Some n.kind) (append_assoc ts (u ∷ []) us) n.here;
  added = let e = ap length (timeline-append ts (u ∷ []) t.sv.0) ∙ length-append (timeline_of ts t.sv.0) (timeline_of (u ∷ []) t.sv.0) in omega (arith, n.added);
  variable = n.variable;
  holds = n.holds;
}

names_first : (P : Kind → Type 0) (ts : List Kind) (u : Kind) (us : List Kind) → P u → Names P ts (u ∷ us) (ref_after ts u)
names_first P ts u us h = record {
  kind = u;
  here =
      let split : timeline_of (u ∷ us) u.sv.0 ≡ u ∷ timeline_of us u.sv.0 = rw (eq-eqb u.sv.0 u.sv.0 refl) refl in
      ap (λ l. slice_get l (length (timeline_of ts u.sv.0))) (timeline-append ts (u ∷ us) u.sv.0 ∙ ap (λ l. timeline_of ts u.sv.0 ++ l) split) ∙ slice_get-middle (timeline_of ts u.sv.0) u (timeline_of us u.sv.0);
  added = omega arith;
  variable = refl;
  holds = h;
}

pub refs_name : (P : Kind → Type 0) (ts us : List Kind) → AllByRecursion P us → AllByRecursion (Names P ts us) (refs_after ts us)
refs_name P ts [] h = tt
refs_name P ts (u ∷ us) h = (
  names_first P ts u us h.0,
  each_weaker (Names P (ts ++ u ∷ []) us) (Names P ts (u ∷ us)) (names_more P ts u us) (refs_after (ts ++ u ∷ []) us) (refs_name P (ts ++ u ∷ []) us h.1),
)

-- the new tokens' ends stand behind the horizon
pub new_is_behind : (es : List Extension) (e : Extension) (v i : ℕ) → length (timeline_of (tokens_of es) v) ≤ i → count es < place_of (ending v i) (points_of (es ++ e ∷ []))
new_is_behind es e v i far =
    let at = ap (place_of (ending v i)) (points-push es e) ∙ place_after (ending v i) (points_of es) (new_points es e) ((named es).ends_new v i far) in
    omega arith
