-- A text that is an accepted mission and nothing else.
use Rattle.std.proofs.Common.{◌≡◌, ℕ, List, length, refl, sym, subst, inl, inr, arith}
use Rattle.std.proofs.lemmas.List.{length-map}
use Rattle.hs_texts.specs.declared.ast.Ast.{Ast}
use Rattle.hs_base.specs.declared.mission.Mission.{Mission}
use Rattle.hs_base.specs.declared.plan.Extension.{Extension}
use Rattle.hs_texts.specs.declared.refusal.Refusal.{Refusal}
use Rattle.hs_texts.specs.Pieces.{Piece, Placed, pieces_of}
use Rattle.hs_texts.specs.MissionMeaning.{Means}
use Rattle.hs_texts.specs.MissionSpelling.{IsMissionRefusal, IsRefusalOf}
use Rattle.hs_texts.specs.MissionText.{MissionText}
use Rattle.text_laws.proofs.AnswerLemmas.{all_taken}
use Rattle.text_laws.proofs.RefusalLemmas.{spelled_one, spelled_or_refused}
use Rattle.domain_check.proofs.RuleLemmas.{not_meant}
use Rattle.commands.specs.Inputs.{IsWhole, IsInFront, EndsAt, IsGiven}
use Rattle.commands.specs.Sims.{IsRunRefusal}
use Rattle.domain_check.proofs.MeansLemmas.{means_one}
use Rattle.commands.proofs.FrontLemmas.{in_front_one, in_front_or_refused}
use Rattle.commands.proofs.GivenLemmas.{given_or_alone}

-- it is one mission
pub whole_one : (bytes : List ℕ) (m n : Mission) → IsWhole bytes m → IsWhole bytes n → m ≡ n
whole_one bytes m n h k = means_one k.ast m n (subst (λ (a : Ast). Means a m) (spelled_one bytes h.ast k.ast h.spells k.spells) h.means) k.means

-- and isn't refused
pub whole_or_refused : (bytes : List ℕ) (m : Mission) (r : Refusal) → IsWhole bytes m → IsRefusalOf bytes r → ⊥
whole_or_refused bytes m r h (inl k) = spelled_or_refused bytes h.ast r h.spells k
whole_or_refused bytes m r h (inr k) = not_meant h.ast r m (subst (λ (a : Ast). IsMissionRefusal a r) (spelled_one bytes k.0 h.ast k.1 h.spells) k.2) h.means

-- it stands in front, in all pieces
in_front : (bytes : List ℕ) (m : Mission) (h : IsWhole bytes m) → IsInFront bytes m (length h.spells.pieces)
in_front bytes m h =
    let ps = h.spells.pieces in
    let size : length (pieces_of ps) ≡ length ps = length-map {B = Piece} ps (λ (p : Placed). p.piece) in
    record {
      ast = h.ast;
      spells = record {
        pieces = ps;
        text = h.spells.text;
        within = omega arith;
        sentence = subst (λ (qs : List Piece). MissionText qs h.ast) (sym (all_taken (pieces_of ps) (length ps) (omega (arith, size)))) h.spells.sentence;
      };
      means = h.means;
    }

-- where the text ends
ends : (bytes : List ℕ) (m : Mission) (h : IsWhole bytes m) → EndsAt bytes (length h.spells.pieces)
ends bytes m h = record { pieces = h.spells.pieces; text = h.spells.text; all = refl }

-- it is what stands in front
pub whole_in_front : (bytes : List ℕ) (m n : Mission) (used : ℕ) → IsWhole bytes m → IsInFront bytes n used → m ≡ n
whole_in_front bytes m n used h f = (in_front_one bytes m n (length h.spells.pieces) used (in_front bytes m h) f).0

-- no plan follows it
pub whole_or_given : (bytes : List ℕ) (m n : Mission) (es : List Extension) → IsWhole bytes m → IsGiven bytes n es → ⊥
whole_or_given bytes m n es h g = given_or_alone bytes n m (length h.spells.pieces) es g (in_front bytes m h) (ends bytes m h)

-- and it isn't refused as the input of a run
pub whole_or_run_refused : (bytes : List ℕ) (m : Mission) (r : Refusal) → IsWhole bytes m → IsRunRefusal bytes r → ⊥
whole_or_run_refused bytes m r h (inl f) = in_front_or_refused bytes m (length h.spells.pieces) r (in_front bytes m h) f
whole_or_run_refused bytes m r h (inr n) =
    let e = in_front_one bytes m n.behind.mission (length h.spells.pieces) n.behind.used (in_front bytes m h) n.behind.front in
    n.some (subst (λ (i : ℕ). EndsAt bytes i) e.1 (ends bytes m h))
