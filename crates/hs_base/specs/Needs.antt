-- The needs of tokens, and the choices that serve them.
use Rattle.std.specs.Prelude.{ℕ, Bool, true, false, ◌&&◌, nat_eq, List, filter, find, slice_get, Option, Some, None}
use Rattle.std.specs.List.{list_any}
use Rattle.hs_base.specs.Types.{Relation, Before, MeetsStart, Kind, TokenRef, Choice, Need, Extension, Mission}
use Rattle.hs_base.specs.Points.{token_at}

abbrev pub same_kind : Kind → Kind → Bool
same_kind a b = nat_eq a.sv.0 b.sv.0 && nat_eq a.value.0 b.value.0

-- the needs of a kind, in text order: a need's number counts these
abbrev pub needs_of : Mission → Kind → List Need
needs_of m k = filter (λ n. same_kind n.of k) m.needs

abbrev pub need_of : Mission → Option Kind → ℕ → Option Need
need_of m None i = None
need_of m (Some k) i = slice_get (needs_of m k) i

-- the need of that number of a token
abbrev pub need_at : Mission → List Extension → TokenRef → ℕ → Option Need
need_at m es t i = need_of m (token_at es t) i

-- the choice of a need that a token of this kind serves
abbrev pub choice_by : Need → Kind → Option Choice
choice_by n k = find (λ c. same_kind c.by k) n.either

-- a relation to a token that may come in a later plan
abbrev pub may_wait : Relation → Bool
may_wait (Before r) = true
may_wait MeetsStart = true
may_wait _ = false

-- a need that may be deferred while its token is the last of its timeline
abbrev pub is_deferrable : Need → Bool
is_deferrable n = list_any (λ c. may_wait c.relation) n.either
