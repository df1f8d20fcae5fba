-- Needs that no support serves and that may not wait, by the tokens.
use Rattle.std.specs.Prelude.{◌≡◌, ℕ, ◌+◌, ◌-◌, ◌<◌, ◌≤◌, Bool, false, ◌&&◌, nat_eq, List, length, slice_get, Option, Some, None}
use Rattle.std.specs.HashSet as bag
use Rattle.hs_base.specs.declared.ids.SvId.{SvId}
use Rattle.hs_base.specs.declared.mission.Kind.{Kind}
use Rattle.hs_base.specs.declared.mission.Need.{Need}
use Rattle.hs_base.specs.declared.mission.Mission.{Mission}
use Rattle.hs_base.specs.declared.plan.TokenRef.{TokenRef}
use Rattle.hs_base.specs.declared.fault.Fault.{Fault}
use Rattle.hs_base.specs.declared.fault.Fault.TheVariants.{Unsupported}
use Rattle.hs_base.specs.Points.{timeline_of}
use Rattle.hs_base.specs.Needs.{needs_of, is_deferrable}
use Rattle.plan_check.specs.Claimed.{is_claimed}
use Rattle.plan_check.specs.declared.claims.Claim.{Claim}
use Rattle.plan_check.specs.declared.needs.OpenNeed.{OpenNeed}

-- need i of the token is there, no support is for it, and it may not wait
pub record IsOpen {S : Type 0} (needs : List Need) (set : bag.HashSet Claim S) (t : TokenRef) (last : Bool) (i : ℕ) : Type 0 where
  pub need : Need
  pub is_need : slice_get needs i ≡ Some need
  pub unclaimed : is_claimed set t i ≡ false
  pub not_waiting : (last && is_deferrable need) ≡ false

-- the first open need, or none is
abbrev pub IsFirstOpen : {S : Type 0} → List Need → bag.HashSet Claim S → TokenRef → Bool → Option ℕ → Type 0
IsFirstOpen needs set t last None = (i : ℕ) → IsOpen needs set t last i → ⊥
IsFirstOpen needs set t last (Some i) = IsOpen needs set t last i × ((j : ℕ) → j < i → IsOpen needs set t last j → ⊥)

-- need i of the token at that place of the row is open
pub record IsOpenAt {S : Type 0} (m : Mission) (set : bag.HashSet Claim S) (sv : SvId) (row : List Kind) (place i : ℕ) : Type 0 where
  pub kind : Kind
  pub is_kind : slice_get row place ≡ Some kind
  pub unserved : IsOpen (needs_of m kind) set (record { sv = sv; place = place }) (nat_eq (place + 1) (length row)) i

-- the first open need of a row from a place on, or none is
abbrev pub IsFirstOpenIn : {S : Type 0} → Mission → bag.HashSet Claim S → SvId → List Kind → ℕ → Option OpenNeed → Type 0
IsFirstOpenIn m set sv row first None = (p i : ℕ) → first ≤ p → IsOpenAt m set sv row p i → ⊥
IsFirstOpenIn m set sv row first (Some o) = (first ≤ o.place) × IsOpenAt m set sv row o.place o.need × ((p i : ℕ) → first ≤ p → p < o.place → IsOpenAt m set sv row p i → ⊥) × ((i : ℕ) → i < o.need → IsOpenAt m set sv row o.place i → ⊥)

-- the places that are looked at: those of new tokens, and the last one before them
abbrev pub first_looked : List Kind → List Kind → ℕ → ℕ
first_looked row new v = length row - length (timeline_of new v) - 1

-- no looked-at need of so many variables is open
abbrev pub HasNoneOpen : {S : Type 0} → Mission → bag.HashSet Claim S → List Kind → List Kind → Type 0
HasNoneOpen m set tokens new = (v p i : ℕ) → v < length m.vars → first_looked (timeline_of tokens v) new v ≤ p → IsOpenAt m set (record { 0 = v }) (timeline_of tokens v) p i → ⊥

-- the need is open, and no looked-at one before it is
pub record IsFirstOpenOf {S : Type 0} (m : Mission) (set : bag.HashSet Claim S) (tokens : List Kind) (new : List Kind) (v : SvId) (place i : ℕ) : Type 0 where
  pub here : IsOpenAt m set v (timeline_of tokens v.0) place i
  pub lines_before : (w p j : ℕ) → w < v.0 → first_looked (timeline_of tokens w) new w ≤ p → IsOpenAt m set (record { 0 = w }) (timeline_of tokens w) p j → ⊥
  pub places_before : (p j : ℕ) → first_looked (timeline_of tokens v.0) new v.0 ≤ p → p < place → IsOpenAt m set v (timeline_of tokens v.0) p j → ⊥
  pub needs_before : (j : ℕ) → j < i → IsOpenAt m set v (timeline_of tokens v.0) place j → ⊥

abbrev pub IsOpenFault : {S : Type 0} → Mission → bag.HashSet Claim S → List Kind → List Kind → Fault → Type 0
IsOpenFault m set tokens new (Unsupported v place i) = IsFirstOpenOf m set tokens new v place i
IsOpenFault m set tokens new _ = ⊥
