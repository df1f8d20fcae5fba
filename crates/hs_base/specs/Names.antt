-- The names that texts may give.
use Rattle.std.specs.Prelude.{◌≡◌, ℕ, ◌≤◌, Bool, true, false, not, ◌&&◌, ◌||◌, nat_eq, nat_le, List, [], ◌∷◌, length, codes}
use Rattle.std.specs.List.{list_any, list_all}
use Rattle.std.specs.Cmp.Lexicographic.{pointwise}
use Rattle.hs_base.specs.Types.{NAME_BYTES}

-- the words that mean something in the texts
abbrev pub reserved : List (List ℕ)
reserved =
    codes "hsts" ∷ codes "var" ∷ codes "value" ∷ codes "by" ∷ codes "device" ∷ codes "then" ∷ codes "script" ∷ codes "do"
    ∷ codes "until" ∷ codes "answers" ∷ codes "begin" ∷ codes "need" ∷ codes "before" ∷ codes "after" ∷ codes "meets"
    ∷ codes "met_by" ∷ codes "starts" ∷ codes "ends" ∷ codes "equals" ∷ codes "contains" ∷ codes "contained_by"
    ∷ codes "horizon" ∷ codes "goal" ∷ codes "start" ∷ codes "stop" ∷ codes "end" ∷ codes "inf" ∷ codes "or" ∷ []

abbrev pub is_reserved : List ℕ → Bool
is_reserved name = list_any (pointwise nat_eq name) reserved

-- a letter from a to z
abbrev pub is_small_letter : ℕ → Bool
is_small_letter c = nat_le 97 c && nat_le c 122

-- such a letter, a digit or the underscore
abbrev pub is_name_byte : ℕ → Bool
is_name_byte c = is_small_letter c || (nat_le 48 c && nat_le c 57) || nat_eq c 95

abbrev pub begins_small : List ℕ → Bool
begins_small [] = false
begins_small (c ∷ cs) = is_small_letter c

pub record IsName (name : List ℕ) : Type 0 where
  pub begins : begins_small name ≡ true
  pub bytes : list_all is_name_byte name ≡ true
  pub short : length name ≤ NAME_BYTES
  pub free : is_reserved name ≡ false

-- the same as a test
unfoldable pub is_name : List ℕ → Bool
is_name name = begins_small name && list_all is_name_byte name && nat_le (length name) NAME_BYTES && not (is_reserved name)
