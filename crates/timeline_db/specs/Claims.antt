-- The needs that supports are for.
use Rattle.std.specs.Prelude.{ℕ, Bool, ◌&&◌, nat_eq}
use Rattle.hs_base.specs.declared.plan.Support.{Support}
use Rattle.hs_base.specs.declared.plan.TokenRef.{TokenRef}

-- the support is for need j of the token
abbrev pub is_claim : TokenRef → ℕ → Support → Bool
is_claim t j s = nat_eq s.token.sv.0 t.sv.0 && nat_eq s.token.place t.place && nat_eq s.need j
