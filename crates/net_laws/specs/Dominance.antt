-- Laws of the leaders between two leaders and of dominance (Muscettola, Morris, Tsamardinos 1998), each
-- of a table of tight weights and of leaders a, e, b, p.
use Rattle.std.specs.Prelude.{◌≡◌, ◌≢◌, ℕ, true, pos, ◌≤ℤ◌, ◌<ℤ◌, List, Contains}
use Rattle.hs_base.specs.declared.net.Bound.{Bound}
use Rattle.hs_base.specs.Schedule.{bound}
use Rattle.hs_base.specs.Reduced.{Table, IsTableOf, leaders, between, dominates, edges_of}

-- the law holds at every two leaders of every table of tight weights
abbrev pub OfLeaders : (List ℕ → Table → ℕ → ℕ → Type 0) → Type 0
OfLeaders Law = (c : ℕ) (k : List Bound) (d : Table) (a e : ℕ) → IsTableOf c k d → Contains (leaders c d) a → Contains (leaders c d) e → Law (leaders c d) d a e

-- what stands between a and b, where b stands between a and e, stands between a and e, and isn't e
abbrev pub NestsFirst : List ℕ → Table → ℕ → ℕ → Type 0
NestsFirst ls d a e = (b x : ℕ) → Contains (between d ls a e) b → b ≢ e → Contains (between d ls a b) x → Contains (between d ls a e) x × (x ≢ e)

-- what stands between b and e, where b stands between a and e, stands between a and e, and isn't a
abbrev pub NestsLast : List ℕ → Table → ℕ → ℕ → Type 0
NestsLast ls d a e = (b x : ℕ) → Contains (between d ls a e) b → a ≢ b → Contains (between d ls b e) x → Contains (between d ls a e) x × (a ≢ x)

-- of edges to e that aren't negative, dominance is transitive
abbrev pub UpperComposes : List ℕ → Table → ℕ → ℕ → Type 0
UpperComposes ls d a e = (b p : ℕ) → Contains ls b → Contains ls p → pos 0 ≤ℤ d a e → dominates d a e b ≡ true → dominates d b e p ≡ true → dominates d a e p ≡ true

-- of negative edges from a, dominance is transitive
abbrev pub LowerComposes : List ℕ → Table → ℕ → ℕ → Type 0
LowerComposes ls d a e = (b p : ℕ) → Contains ls b → Contains ls p → d a e <ℤ pos 0 → dominates d a e b ≡ true → dominates d a b p ≡ true → dominates d a e p ≡ true

-- a dominated edge that isn't negative is dominated by a kept one
abbrev pub UpperIsKept : List ℕ → Table → ℕ → ℕ → Type 0
UpperIsKept ls d a e = (b : ℕ) → Contains ls b → pos 0 ≤ℤ d a e → dominates d a e b ≡ true → (p : ℕ) × (dominates d a e p ≡ true) × Contains (edges_of d ls) (bound p e (d p e))

-- a dominated negative edge is dominated by a kept one
abbrev pub LowerIsKept : List ℕ → Table → ℕ → ℕ → Type 0
LowerIsKept ls d a e = (b : ℕ) → Contains ls b → d a e <ℤ pos 0 → dominates d a e b ≡ true → (p : ℕ) × (dominates d a e p ≡ true) × Contains (edges_of d ls) (bound a p (d a p))
