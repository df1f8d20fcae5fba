-- Which needs are served, as the code finds it.
use Rattle.std.specs.List.{list_any}
use Rattle.std.specs.Prelude.{◌≡◌, ℕ, ◌<◌, ◌≤◌, Bool, true, false, ◌&&◌, ◌||◌, nat_eq, nat_lt, List}
use Rattle.hs_base.specs.Checked.{supports_of}
use Rattle.hs_base.specs.declared.plan.Extension.{Extension}
use Rattle.hs_base.specs.declared.plan.TokenRef.{TokenRef}
use Rattle.search_tree.specs.declared.backing.Backing.{Backing}
use Rattle.search_tree.specs.declared.backing.Deferral.{Deferral}
use Rattle.timeline_db.specs.Boards.{line_at, token_of}
use Rattle.timeline_db.specs.Claims.{is_claim}
use Rattle.timeline_db.specs.declared.board.Board.{Board}

-- the board serves need j of the token that ends there, or leaves it to a later plan
abbrev pub is_settled : Board → ℕ → ℕ → Bool
is_settled d x j = list_any (λ (s : Backing). nat_eq s.token.stop x && nat_eq s.need j) d.supports.items || list_any (λ (e : Deferral). nat_eq e.stop x && nat_eq e.need j) d.deferred.items

-- or the plan that is extended does
abbrev pub is_served_at : List Extension → Board → TokenRef → ℕ → ℕ → Bool
is_served_at es d t x j = is_settled d x j || (nat_lt t.place (line_at d t.sv.0).given && list_any (is_claim t j) (supports_of es))

-- n is the first need of the token from that one on that is open, or their number
pub record IsFirstUnmet (es : List Extension) (d : Board) (t : TokenRef) (from n : ℕ) : Type 0 where
  pub low : from ≤ n
  pub served : (j : ℕ) → from ≤ j → j < n → is_served_at es d t (token_of d t).held.stop j ≡ true
  pub unserved : n < (token_of d t).needs → is_served_at es d t (token_of d t).held.stop n ≡ false
  pub most : from ≤ (token_of d t).needs → n ≤ (token_of d t).needs
