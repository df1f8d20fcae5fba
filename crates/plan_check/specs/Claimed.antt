-- The needs of tokens that supports are for, as a set has them.
use Rattle.std.specs.Prelude.{◌≡◌, ℕ, Bool, ◌&&◌, nat_eq, List}
use Rattle.std.specs.List.{list_any}
use Rattle.std.specs.HashSet as bag
use Rattle.hs_base.specs.declared.plan.TokenRef.{TokenRef}
use Rattle.hs_base.specs.declared.plan.Support.{Support}
use Rattle.plan_check.specs.declared.claims.Claim.{Claim}

abbrev pub same_claim : Claim → Claim → Bool
same_claim a b = nat_eq a.sv b.sv && (nat_eq a.place b.place && nat_eq a.need b.need)

abbrev pub is_claimed : {S : Type 0} → bag.HashSet Claim S → TokenRef → ℕ → Bool
is_claimed set t i = bag.contains same_claim set (record { sv = t.sv.0; place = t.place; need = i })

-- the support is for need i of token t
abbrev pub is_for : TokenRef → ℕ → Support → Bool
is_for t i s = nat_eq s.token.sv.0 t.sv.0 && (nat_eq s.token.place t.place && nat_eq s.need i)

-- the set has what these supports are for
abbrev pub AreClaims : {S : Type 0} → List Support → bag.HashSet Claim S → Type 0
AreClaims supports set = (t : TokenRef) (i : ℕ) → is_claimed set t i ≡ list_any (is_for t i) supports
