-- What stands in front of a text is one mission, or is refused.
use Rattle.std.proofs.Common.{◌≡◌, ℕ, List, subst, inl, inr}
use Rattle.hs_texts.specs.declared.ast.Ast.{Ast}
use Rattle.hs_base.specs.declared.mission.Mission.{Mission}
use Rattle.hs_texts.specs.declared.refusal.Refusal.{Refusal}
use Rattle.hs_texts.specs.MissionMeaning.{Means}
use Rattle.hs_texts.specs.MissionSpelling.{IsMissionRefusal}
use Rattle.domain_check.proofs.RuleLemmas.{not_meant}
use Rattle.commands.specs.Inputs.{IsInFront, IsFrontRefusalOf}
use Rattle.domain_check.proofs.MeansLemmas.{means_one}
use Rattle.text_laws.proofs.FrontLemmas.{front_one, front_or_refused}

-- an accepted mission in front isn't refused
pub in_front_or_refused : (bytes : List ℕ) (m : Mission) (used : ℕ) (r : Refusal) → IsInFront bytes m used → IsFrontRefusalOf bytes r → ⊥
in_front_or_refused bytes m used r f (inl h) = front_or_refused bytes f.ast used r f.spells h
in_front_or_refused bytes m used r f (inr h) =
    let e = front_one bytes h.0 f.ast h.1 used h.2 f.spells in
    not_meant f.ast r m (subst (λ (a : Ast). IsMissionRefusal a r) e.0 h.3) f.means

-- and it is one
pub in_front_one : (bytes : List ℕ) (m n : Mission) (used others : ℕ) → IsInFront bytes m used → IsInFront bytes n others → (m ≡ n) × (used ≡ others)
in_front_one bytes m n used others f g =
    let e = front_one bytes f.ast g.ast used others f.spells g.spells in
    (means_one g.ast m n (subst (λ (a : Ast). Means a m) e.0 f.means) g.means, e.1)
