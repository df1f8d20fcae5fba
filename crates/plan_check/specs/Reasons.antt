-- What is told of a chain.
use Rattle.std.specs.Prelude.{List, ⊤}
use Rattle.hs_base.specs.declared.net.Bound.{Bound}
use Rattle.stn_distance.specs.declared.why.Why.{Why}
use Rattle.stn_distance.specs.declared.why.Why.TheVariants.{Chain, Free}

-- P holds of the chain, where there is one
abbrev pub IfChain : Why → (List Bound → Type 0) → Type 0
IfChain (Chain chain) P = P chain
IfChain (Free times) P = ⊤
