-- The search of a plan finds one answer.
use Rattle.std.proofs.Common.{◌≡◌, ℕ, List, sym, ◌∙◌, inl, inr}
use Rattle.hs_base.specs.declared.mission.Mission.{Mission}
use Rattle.hs_base.specs.declared.plan.Extension.{Extension}
use Rattle.search_tree.specs.Begun.{Begun}
use Rattle.search_tree.specs.Search.{FindsPlan, FindsWhere, IsFinished, IsTaken, Kids, Node, root}
use Rattle.search_tree.specs.Tree.{Found}
use Rattle.search_laws.proofs.FoundLemmas.{finds_one}

kids_one : (m : Mission) (b : Begun) (n : Node) (xs ys : List Node) → Kids m b n xs → Kids m b n ys → xs ≡ ys
kids_one m b n xs ys (inl p) (inl q) = p.1 ∙ sym q.1
kids_one m b n xs ys (inl p) (inr q) = absurd (q.0 p.0)
kids_one m b n xs ys (inr p) (inl q) = absurd (p.0 q.0)
kids_one m b n xs ys (inr p) (inr q) = p.1 ∙ sym q.1

pub one_plan : (m : Mission) (b : Begun) (limit : ℕ) (f g : Found Extension) → FindsPlan m b limit f → FindsPlan m b limit g → f ≡ g
one_plan m b limit f g p q = finds_one (Kids m b) (IsFinished m b) (λ n. n.path) (kids_one m b) (λ n d e h k. h.is ∙ sym k.is) (root m b) limit f g p q

-- whichever plans it takes
pub one_taken : (takes : Mission → List Extension → Type 0) (m : Mission) (b : Begun) (limit : ℕ) (f g : Found Extension) → FindsWhere takes m b limit f → FindsWhere takes m b limit g → f ≡ g
one_taken takes m b limit f g p q = finds_one (Kids m b) (IsTaken takes m b) (λ n. n.path) (kids_one m b) (λ n d e h k. h.finished.is ∙ sym k.finished.is) (root m b) limit f g p q
