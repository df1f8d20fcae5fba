-- What a pass did between two moments, by how much of the history it had seen.
use Rattle.std.specs.Prelude.{◌≡◌, ℕ, ◌<◌, ◌≤◌, List, [], ◌∷◌, ◌++◌, length}
use Rattle.std.specs.List.{AllByRecursion}
use Rattle.hs_machine.specs.Histories.{IsPrefix}
use Rattle.exec_lock.specs.declared.view.Placed.{Placed}
use Rattle.exec_lock.specs.Passes.{Held}

-- how much of the history the pass has seen
abbrev pub front : Held → ℕ
front p = length p.view.seen

-- it is the same pass, with the same numbers, and has seen no less
pub record GoesOn (p q : Held) : Type 0 where
  pub shared : q.shared ≡ p.shared
  pub opening : q.view.opening ≡ p.view.opening
  pub first : q.view.first ≡ p.view.first
  pub count : q.view.count ≡ p.view.count
  pub joined : q.view.joined ≡ p.view.joined
  pub seen : IsPrefix p.view.seen q.view.seen

-- the entries lie after place `low` and not after place `high`
abbrev pub LieIn : ℕ → ℕ → List Placed → Type 0
LieIn low high calls = AllByRecursion (λ (c : Placed). (low < c.place) × (c.place ≤ high)) calls

-- the pass goes on and made no call
pub record Rests (p q : Held) : Type 0 where
  pub goes : GoesOn p q
  pub calls : q.view.calls ≡ p.view.calls

-- the pass goes on, and its new calls lie between these places
pub record Works (low high : ℕ) (p q : Held) : Type 0 where
  pub goes : GoesOn p q
  pub new : List Placed
  pub calls : q.view.calls ≡ p.view.calls ++ new
  pub places : LieIn low high new

-- the calls of all parts
abbrev pub together : List (List Placed) → List Placed
together [] = []
together (part ∷ parts) = part ++ together parts

-- each part lies before its tick, and after the tick before it
abbrev pub Alternates : ℕ → List (List Placed) → List (List Placed) → ℕ → Type 0
Alternates low [] [] high = low ≤ high
Alternates low [] (tick ∷ ticks) high = ⊥
Alternates low (part ∷ parts) [] high = ⊥
Alternates low (part ∷ parts) (tick ∷ ticks) high =
    (mid : ℕ) × (next : ℕ) × LieIn low mid part × LieIn mid next tick × (low ≤ mid) × (mid ≤ next) × Alternates next parts ticks high
