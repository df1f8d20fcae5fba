-- Where a new token may stand, by the tokens before it.
use Rattle.std.specs.Prelude.{◌≡◌, ◌⊎◌, ℕ, ◌<◌, ◌≤◌, List, [], length, slice_get, Some}
use Rattle.hs_base.specs.declared.mission.Kind.{Kind}
use Rattle.hs_base.specs.declared.mission.Var.{Var}
use Rattle.hs_base.specs.declared.mission.Mission.{Mission}
use Rattle.hs_base.specs.declared.fault.Fault.{Fault}
use Rattle.hs_base.specs.declared.fault.Fault.TheVariants.{Order}
use Rattle.hs_base.specs.Points.{timeline_of}
use Rattle.hs_base.specs.Checked.{MayStandBehind}
use Rattle.plan_check.specs.Lines.{size_of}

-- the token is of no smaller variable than the one before it, and its value may stand behind its timeline
pub record MayStand (m : Mission) (tokens : List Kind) (lowest : ℕ) (k : Kind) : Type 0 where
  pub grouped : lowest ≤ k.sv.0
  pub var : Var
  pub is_var : slice_get m.vars k.sv.0 ≡ Some var
  pub linked : MayStandBehind var (timeline_of tokens k.sv.0) k.value.0

-- smaller ones of so many variables have tokens
abbrev pub NoneMissing : List Kind → ℕ → ℕ → Type 0
NoneMissing tokens vars v = (w : ℕ) → w < vars → w < v → 0 < size_of tokens w

-- a smaller variable is the first without tokens
pub record IsMissingBefore (tokens : List Kind) (vars : ℕ) (k : Kind) (v place : ℕ) : Type 0 where
  pub below : v < vars
  pub smaller : v < k.sv.0
  pub none : timeline_of tokens v ≡ []
  pub firsts : (w : ℕ) → w < v → 0 < size_of tokens w
  pub is_place : place ≡ 0

-- the token may not stand there, and none is missing before it
pub record IsMisplacedIn (m : Mission) (tokens : List Kind) (lowest : ℕ) (k : Kind) (v place : ℕ) : Type 0 where
  pub broken : MayStand m tokens lowest k → ⊥
  pub firsts : NoneMissing tokens (length m.vars) k.sv.0
  pub variable : v ≡ k.sv.0
  pub is_place : place ≡ size_of tokens k.sv.0

-- why the token may not come next
abbrev pub IsStandFault : Mission → List Kind → ℕ → Kind → Fault → Type 0
IsStandFault m tokens lowest k (Order v place) = IsMissingBefore tokens (length m.vars) k v.0 place ⊎ IsMisplacedIn m tokens lowest k v.0 place
IsStandFault m tokens lowest k _ = ⊥
