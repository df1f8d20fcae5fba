-- The small network's groups are joined by its edges.
use Rattle.std.proofs.Common.{◌≡◌, ℕ, zero, suc, ◌<◌, get_or, refl, sym, ◌∙◌, subst, arith}
use Rattle.std.proofs.lemmas.List.Elements.{All-contains, All-from_recursion}
use Rattle.std.proofs.lemmas.Int.{ints}
use Rattle.std.specs.List.{AllByRecursion}
use Rattle.hs_base.specs.declared.net.Net.{Net}
use Rattle.local_propagate.specs.Joined.{IsJoined, Joins, AreDifferent, leaders_of}
use Rattle.net_tests.specs.Samples.{chain, chain_edges, chain_groups}

own_number : (i : ℕ) → i < 3 → get_or (leaders_of chain_groups) i 0 ≡ i
own_number zero below = refl
own_number (suc zero) below = refl
own_number (suc (suc zero)) below = refl
own_number (suc (suc (suc i))) below = absurd (omega (arith, below))

different : AreDifferent (leaders_of chain_groups)
different = record { each = λ i j a b same. sym (own_number i a) ∙ same ∙ own_number j b }

edges_join : AllByRecursion (Joins (leaders_of chain_groups)) chain_edges
edges_join = (
  record { from = (0, omega arith, refl); to = (1, omega arith, refl); apart = λ e. omega (arith, e); low = omega (arith, ints); high = omega (arith, ints) },
  (
    record { from = (1, omega arith, refl); to = (0, omega arith, refl); apart = λ e. omega (arith, e); low = omega (arith, ints); high = omega (arith, ints) },
    (
      record { from = (1, omega arith, refl); to = (2, omega arith, refl); apart = λ e. omega (arith, e); low = omega (arith, ints); high = omega (arith, ints) },
      (
        record { from = (2, omega arith, refl); to = (1, omega arith, refl); apart = λ e. omega (arith, e); low = omega (arith, ints); high = omega (arith, ints) },
        tt,
      ),
    ),
  ),
)

chain_joined : IsJoined chain
chain_joined = record {
  leaders = different;
  edges = λ e is. All-contains (Joins (leaders_of chain_groups)) chain_edges e (All-from_recursion (Joins (leaders_of chain_groups)) chain_edges edges_join) is;
}

-- the same of an equal one
pub joined_chain : (n : Net) → n ≡ chain → IsJoined n
joined_chain n is = subst (λ (x : Net). IsJoined x) (sym is) chain_joined
