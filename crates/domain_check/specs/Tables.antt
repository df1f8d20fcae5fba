-- The names that tables hold.
use Rattle.std.specs.Prelude.{◌≡◌, ℕ, Bool, List, length, map, nat_le, Some}
use Rattle.std.specs.Borrow.{Bor}
use Rattle.hs_texts.specs.declared.ast.AstChoice.{AstChoice}
use Rattle.hs_texts.specs.declared.ast.AstGoal.{AstGoal}
use Rattle.hs_texts.specs.declared.ast.AstKind.{AstKind}
use Rattle.hs_texts.specs.declared.ast.AstSaid.{AstSaid}
use Rattle.hs_base.specs.declared.limits.TheConstants.{ANSWERS}
use Rattle.hs_texts.specs.declared.ast.AstValue.{AstValue}
use Rattle.hs_texts.specs.declared.ast.AstVar.{AstVar}
use Rattle.hs_texts.specs.declared.ast.Use.{Use}
use Rattle.hs_texts.specs.MissionMeaning.{value_names}
use Rattle.domain_check.specs.Numbering.{var_named}
use Rattle.domain_check.specs.declared.names.Names.{Names}

-- the names in the order in which they were added
abbrev pub names_in : Names → List (List ℕ)
names_in n = map (λ (b : Bor (List ℕ)). b.now) n.set.keys

abbrev pub names_of_uses : List Use → List (List ℕ)
names_of_uses us = map (λ (u : Use). u.name) us

abbrev pub names_of_values : List AstValue → List (List ℕ)
names_of_values vs = map (λ (v : AstValue). v.name) vs

abbrev pub kinds_of_choices : List AstChoice → List AstKind
kinds_of_choices cs = map (λ (c : AstChoice). c.by) cs

abbrev pub kinds_of_goals : List AstGoal → List AstKind
kinds_of_goals gs = map (λ (g : AstGoal). g.kind) gs

-- the first variable of that name has values of these names
pub record IsNamed (vars : List AstVar) (name : List ℕ) (names : List (List ℕ)) : Type 0 where
  pub var : AstVar
  pub here : var_named vars name ≡ Some var
  pub values : names ≡ value_names var

-- the words of an `answers` clause
abbrev pub words_said : List AstSaid → List (List ℕ)
words_said said = map (λ (s : AstSaid). s.word) said

-- the clause keeps its limit
abbrev pub is_short : List AstSaid → Bool
is_short said = nat_le (length said) ANSWERS
