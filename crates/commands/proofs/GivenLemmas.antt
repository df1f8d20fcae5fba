-- A mission and the plan that follows it are one, and aren't refused.
use Rattle.std.proofs.Common.{◌≡◌, ℕ, zero, suc, ◌≤◌, List, [], ◌∷◌, ◌++◌, length, map, drop, refl, sym, ap, ◌∙◌, subst, inl, inr, arith}
use Rattle.std.proofs.lemmas.List.{length-map}
use Rattle.hs_base.specs.declared.mission.Mission.{Mission}
use Rattle.hs_base.specs.declared.plan.Extension.{Extension}
use Rattle.hs_texts.specs.declared.refusal.Refusal.{Refusal}
use Rattle.hs_texts.specs.Pieces.{Piece, Placed, pieces_of}
use Rattle.text_laws.proofs.PieceLemmas.{cut_one}
use Rattle.ddl_read.specs.declared.piece.Piece.{Piece as CutPiece}
use Rattle.ddl_read.specs.Spelled.{placed}
use Rattle.ddl_read.specs.Cutting.{IsCut}
use Rattle.hs_texts.specs.declared.written.WrittenExtension.{WrittenExtension}
use Rattle.hs_texts.specs.Kept.{Kept, kept}
use Rattle.hs_texts.specs.PlanGrammar.{PlanGrammar}
use Rattle.hs_texts.specs.PlanSpelling.{PlanSpells}
use Rattle.plan_text.proofs.PlanAnswerLemmas.{plan_one, spelled_or_refusal}
use Rattle.commands.specs.Inputs.{IsInFront, EndsAt, IsGiven, IsBehindRefusal, IsGivenRefusal}
use Rattle.commands.proofs.FrontLemmas.{in_front_one, in_front_or_refused}

pub given_one : (bytes : List ℕ) (m n : Mission) (es fs : List Extension) → IsGiven bytes m es → IsGiven bytes n fs → (m ≡ n) × (es ≡ fs)
given_one bytes m n es fs g h =
    let e = in_front_one bytes m n g.used h.used g.mission h.mission in
    let plan : PlanSpells n bytes h.used es = subst (λ (x : Mission). PlanSpells x bytes h.used es) e.0 (subst (λ (i : ℕ). PlanSpells m bytes i es) e.1 g.plan) in
    (e.0, plan_one n bytes h.used es fs plan h.plan)

-- a plan that follows isn't refused
pub behind_or_refused : (bytes : List ℕ) (m : Mission) (es : List Extension) (r : Refusal) → IsGiven bytes m es → IsBehindRefusal bytes r → ⊥
behind_or_refused bytes m es r g b =
    let e = in_front_one bytes m b.mission g.used b.used g.mission b.front in
    let plan : PlanSpells b.mission bytes b.used es = subst (λ (x : Mission). PlanSpells x bytes b.used es) e.0 (subst (λ (i : ℕ). PlanSpells m bytes i es) e.1 g.plan) in
    spelled_or_refusal b.mission bytes b.used es r plan b.plan

-- nor is it with its mission
pub given_or_refused : (bytes : List ℕ) (m : Mission) (es : List Extension) (r : Refusal) → IsGiven bytes m es → IsGivenRefusal bytes r → ⊥
given_or_refused bytes m es r g (inl f) = in_front_or_refused bytes m g.used r g.mission f
given_or_refused bytes m es r g (inr b) = behind_or_refused bytes m es r g b

none_left : (ps : List Placed) (n : ℕ) → length ps ≤ n → drop n ps ≡ []
none_left [] zero h = refl
none_left [] (suc n) h = refl
none_left (p ∷ ps) zero h = absurd (omega arith)
none_left (p ∷ ps) (suc n) h = none_left ps n (omega arith)

-- no pieces are no plan
no_plan : (m : Mission) (ps : List Piece) (x : Kept (List WrittenExtension)) → ps ≡ [] → PlanGrammar m ps x → ⊥
no_plan m ps x e t =
    let none : [] ≡ (t.first.0 ∷ []) ++ t.back = sym e ∙ t.joined ∙ ap (λ (zs : List Piece). zs ++ t.back) t.first.1 in
    absurd cc

-- where a plan follows, the text doesn't end
pub plan_behind : (bytes : List ℕ) (m : Mission) (used : ℕ) (es : List Extension) → PlanSpells m bytes used es → EndsAt bytes used → ⊥
plan_behind bytes m used es s h =
    let p = s.is_plan in
    let e = cut_one bytes p.pieces h.pieces p.is_text.cut h.text.cut in
    let none : drop used p.pieces ≡ [] = none_left p.pieces used (omega (arith, ap length e, h.all)) in
    no_plan m (pieces_of (drop used p.pieces)) (kept s.written) (ap pieces_of none) p.sentence

-- a mission alone has no plan
pub given_or_alone : (bytes : List ℕ) (m n : Mission) (used : ℕ) (es : List Extension) → IsGiven bytes m es → IsInFront bytes n used → EndsAt bytes used → ⊥
given_or_alone bytes m n used es g f h =
    let e = in_front_one bytes m n g.used used g.mission f in
    plan_behind bytes m g.used es g.plan (subst (λ (i : ℕ). EndsAt bytes i) (sym e.1) h)

-- The pieces that a text is cut into.

-- where all are used, the text ends
pub ends_at : (bytes : List ℕ) (ps : List CutPiece) (used : ℕ) → IsCut bytes ps → used ≡ length ps → EndsAt bytes used
ends_at bytes ps used h e = record { pieces = map (placed bytes) ps; text = h.is_text; all = length-map {B = Placed} ps (placed bytes) ∙ sym e }

-- and else it goes on
pub goes_on : (bytes : List ℕ) (ps : List CutPiece) (used : ℕ) → IsCut bytes ps → (used ≡ length ps → ⊥) → EndsAt bytes used → ⊥
goes_on bytes ps used h other k =
    let e = cut_one bytes k.pieces (map (placed bytes) ps) k.text.cut h.is_text.cut in
    other (sym k.all ∙ ap length e ∙ length-map {B = Placed} ps (placed bytes))
