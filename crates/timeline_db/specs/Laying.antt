-- The timelines with which a search begins, as the code lays them.
use Rattle.std.specs.Prelude.{◌≡◌, ◌+◌, ◌-◌, ◌<◌, ◌≤◌, false, true, zero, suc, List, Some, [], ◌∷◌, length, map, slice_get, ℕ}
use Rattle.std.specs.List.{list_any}
use Rattle.hs_base.specs.Bounds.{on_some}
use Rattle.hs_base.specs.Checked.{supports_of}
use Rattle.hs_base.specs.Needs.{needs_of}
use Rattle.hs_base.specs.Points.{Point, ending, place_of, timeline_of}
use Rattle.hs_base.specs.declared.mission.Kind.{Kind}
use Rattle.hs_base.specs.declared.mission.Mission.{Mission}
use Rattle.hs_base.specs.declared.mission.Var.{Var}
use Rattle.hs_base.specs.declared.plan.Extension.{Extension}
use Rattle.hs_base.specs.declared.plan.TokenRef.{TokenRef}
use Rattle.plan_index.specs.Contents.{start_at}
use Rattle.search_tree.specs.Begun.{Begun}
use Rattle.search_tree.specs.Partial.{at, begin}
use Rattle.timeline_db.specs.Claims.{is_claim}
use Rattle.timeline_db.specs.Lines.{Shown, row_of, with_needs, with_unmet}
use Rattle.timeline_db.specs.Tracked.{AreTracked}
use Rattle.timeline_db.specs.declared.token.Token.{Token}

-- the tokens of a timeline from that place on, with no need noted, where points have these names
abbrev pub laid_from : List Point → ℕ → ℕ → List Kind → List Token
laid_from names v i [] = []
laid_from names v i (k ∷ ks) = record { held = record { kind = k; start = start_at names v i; stop = place_of (ending v i) names }; joined = true; needs = 0; unmet = 0 } ∷ laid_from names v (suc i) ks

-- the timeline of variable v with these tokens
abbrev pub laid_of : List Point → ℕ → List Kind → Shown
laid_of names v ks = record { tokens = laid_from names v 0 ks; given = length ks; finished = false }

-- the timeline of variable v among these tokens
abbrev pub laid_line : List Kind → List Point → ℕ → Shown
laid_line tokens names v = laid_of names v (timeline_of tokens v)

-- the lines are the timelines of these tokens, one for each of so many variables
pub record AreLaid (vars : ℕ) (tokens : List Kind) (names : List Point) (lines : List Shown) : Type 0 where
  pub size : length lines ≡ vars
  pub each : (v : ℕ) (s : Shown) → slice_get lines v ≡ Some s → s ≡ laid_line tokens names v

-- the first token of a variable, which ends at that point
abbrev pub first_token : Mission → ℕ → ℕ → Var → Token
first_token m stop v var =
    let k : Kind = record { sv = record { 0 = v }; value = var.begin } in
    record { held = record { kind = k; start = 0; stop = stop }; joined = true; needs = length (needs_of m k); unmet = 0 }

-- a first token alone
abbrev pub first_line : Mission → ℕ → ℕ → Shown
first_line m first v = record { tokens = on_some (slice_get m.vars v) (λ var. first_token m (first + v) v var ∷ []); given = 0; finished = false }

-- the lines have the first tokens of the variables, the first of which ends at that point
pub record AreFirst (m : Mission) (first : ℕ) (lines : List Shown) : Type 0 where
  pub size : length lines ≡ length m.vars
  pub each : (v : ℕ) (s : Shown) → slice_get lines v ≡ Some s → s ≡ first_line m first v

-- n is the first of so many needs of the token that no support of the plan is for, or their number
pub record IsFirstUnclaimed (es : List Extension) (t : TokenRef) (needs n : ℕ) : Type 0 where
  pub most : n ≤ needs
  pub claimed : (j : ℕ) → j < n → list_any (is_claim t j) (supports_of es) ≡ true
  pub unclaimed : n < needs → list_any (is_claim t n) (supports_of es) ≡ false

-- the needs of the last token of the plan are noted, if the line of variable v has one
pub record NotesLast (m : Mission) (es : List Extension) (v : ℕ) (old new : Shown) : Type 0 where
  pub none : old.given ≡ 0 → new ≡ old
  pub last : (t : Token) → 0 < old.given → slice_get old.tokens (old.given - 1) ≡ Some t → (n : ℕ) × IsFirstUnclaimed es (at v (old.given - 1)) (length (needs_of m t.held.kind)) n × (new ≡ with_unmet (old.given - 1) n (with_needs (old.given - 1) (length (needs_of m t.held.kind)) old))

-- so it is of each line
pub record NotesAll (m : Mission) (es : List Extension) (old new : List Shown) : Type 0 where
  pub size : length new ≡ length old
  pub each : (v : ℕ) (s : Shown) → slice_get old v ≡ Some s → (r : Shown) × (slice_get new v ≡ Some r) × NotesLast m es v s r

-- the lines are the rows with which a search begins, with the needs of their tokens noted
pub record AreOutset (m : Mission) (b : Begun) (lines : List Shown) : Type 0 where
  pub rows : map row_of lines ≡ (begin m b).rows
  pub tracked : AreTracked m b (begin m b) lines
