-- What the program's words ask for: one command, and the options `--budget N`, `--seed N` and
-- `--size N` in any order, each at most once.
use Rattle.std.specs.Prelude.{◌&&◌, ◌||◌, ℕ, Bool, List, [], ◌∷◌, map, filter, length, drop}
use Rattle.std.specs.Prelude.{Option, Some, None, option_map, option_and_then, codes, nat_eq}
use Rattle.std.specs.Prelude.{nat_le, if◌then◌else◌}
use Rattle.std.specs.List.{after_first, before_first, list_all, list_any, starts_with}
use Rattle.std.specs.Str.{bytes_eq}
use Rattle.std.specs.Str.Parse.{digits_value}
use Rattle.std.specs.Char.{is_ascii_digit}
use Rattle.command_line.specs.declared.request.Command.{Command}
use Rattle.command_line.specs.declared.request.Command.TheVariants as command
use Rattle.command_line.specs.declared.request.Request.{Request}

-- a word, as its bytes
abbrev pub Word : Type 0
Word = List ℕ

-- ---- the words of a line

-- the name of an option
abbrev pub is_option : Word → Bool
is_option name = bytes_eq name (codes "budget")
    || (bytes_eq name (codes "seed") || bytes_eq name (codes "size"))

-- the word begins with this text
abbrev pub begins_with : Word → Word → Bool
begins_with word text = starts_with nat_eq word text

-- the byte `=`
abbrev pub is_equals_sign : ℕ → Bool
is_equals_sign byte = nat_eq byte 61

-- what a word is where no option waits for its value: `--`, `--NAME`, `--NAME=VALUE`, any other
-- word that begins with a hyphen, or a plain word
pub data Piece : Type 0 where
  end_of_options : Piece
  option : Word → Piece
  option_with : Word → Word → Piece
  hyphened : Piece
  plain : Word → Piece

-- the piece of what follows `--`
abbrev pub long_piece : Word → Piece
long_piece text =
    if list_any is_equals_sign text
    then option_with (before_first is_equals_sign text) (after_first is_equals_sign text)
    else option text

-- the piece of a word
abbrev pub piece_of : Word → Piece
piece_of word =
    if bytes_eq word (codes "--") then end_of_options
    else (if begins_with word (codes "--") then long_piece (drop 2 word)
    else (if begins_with word (codes "-") then hyphened else plain word))

-- a value under its name: an option's, or `command` for a word that stands alone
abbrev pub Given : Type 0
Given = Word × Word

-- one more value, before those that the rest of the words gives
abbrev pub give : Word → Word → Option (List Given) → Option (List Given)
give name value = option_map (λ more. (name, value) ∷ more)

-- after `--` each word stands alone, whatever it begins with
abbrev pub given_alone : List Word → List Given
given_alone = map (λ word. (codes "command", word))

-- what a piece and the rest of the words give, by what `next` gives of the rest where an option
-- waits for its value or none does
abbrev pub given_by : Piece → List Word → (Option Word → Option (List Given)) → Option (List Given)
given_by end_of_options rest next = Some (given_alone rest)
given_by (option name) rest next = if is_option name then next (Some name) else None
given_by (option_with name value) rest next =
    if is_option name then give name value (next None) else None
given_by hyphened rest next = None
given_by (plain word) rest next = give (codes "command") word (next None)

-- the values that the words give, in their order, where an option may wait for the next word, which
-- is its value and doesn't begin with a hyphen; nothing where the words are no such line
unfoldable pub given_in : Option Word → List Word → Option (List Given)
given_in None [] = Some []
given_in (Some name) [] = None
given_in None (word ∷ rest) = given_by (piece_of word) rest (λ waiting. given_in waiting rest)
given_in (Some name) (word ∷ rest) =
    if begins_with word (codes "-") then None else give name word (given_in None rest)

-- ---- values

-- what stands beside the word in a table
abbrev pub named_command : List (Word × Command) → Word → Option Command
named_command [] word = None
named_command (c ∷ rest) word = if bytes_eq word c.0 then Some c.1 else named_command rest word

-- the command that a word names
abbrev pub command_of : Word → Option Command
command_of = named_command ((codes "print", command.Print) ∷ (codes "plan", command.Plan)
    ∷ (codes "check", command.Check) ∷ (codes "net", command.Net) ∷ (codes "sim", command.Sim)
    ∷ (codes "drill", command.Drill) ∷ (codes "fly", command.Fly) ∷ [])

-- the word is 1 to 19 decimal digits and nothing else
abbrev pub is_numeral : Word → Bool
is_numeral word = nat_le 1 (length word) && (nat_le (length word) 19 && list_all is_ascii_digit word)

-- the number that a numeral spells
abbrev pub number_of : Word → Option ℕ
number_of word = if is_numeral word then Some (digits_value 10 word) else None

-- the same where it is one of 1 to `most`
abbrev pub number_up_to : ℕ → Word → Option ℕ
number_up_to most word = option_and_then (λ n.
    if nat_le 1 n && nat_le n most then Some n else None) (number_of word)

-- a budget, a seed and a size, as their values are read
abbrev pub budget_of : Word → Option ℕ
budget_of = number_up_to 1000000

abbrev pub seed_of : Word → Option (Option ℕ)
seed_of word = option_map (λ n. Some n) (number_of word)

abbrev pub size_of : Word → Option ℕ
size_of = number_up_to 1000

-- and what they are where they aren't given
abbrev pub budget_if_absent : ℕ
budget_if_absent = 100000

abbrev pub seed_if_absent : Option ℕ
seed_if_absent = None

abbrev pub size_if_absent : ℕ
size_if_absent = 40

-- ---- the request

-- the values given under a name
abbrev pub values_of : Word → List Given → List Word
values_of name given = map (λ g. g.1) (filter (λ g. bytes_eq g.0 name) given)

-- what the only value is read as, where there is exactly one
abbrev pub once : {X : Type 0} → (Word → Option X) → List Word → Option X
once read (value ∷ []) = read value
once read _ = None

-- the same, and the default where there is none
abbrev pub once_or : {X : Type 0} → X → (Word → Option X) → List Word → Option X
once_or default read [] = Some default
once_or default read (value ∷ more) = once read (value ∷ more)

-- the request, where each of its parts was read
abbrev pub request_of : Option Command → Option ℕ → Option (Option ℕ) → Option ℕ → Option Request
request_of (Some command) (Some budget) (Some seed) (Some size) =
    Some (record { command = command; budget = budget; seed = seed; size = size })
request_of _ _ _ _ = None

-- what values ask for: exactly one command, and each option at most once
abbrev pub asked_by : List Given → Option Request
asked_by given = request_of (once command_of (values_of (codes "command") given))
    (once_or budget_if_absent budget_of (values_of (codes "budget") given))
    (once_or seed_if_absent seed_of (values_of (codes "seed") given))
    (once_or size_if_absent size_of (values_of (codes "size") given))

-- what the words after the program's name ask for, or nothing where they are refused
unfoldable pub words_of : List Word → Option Request
words_of words = option_and_then asked_by (given_in None words)
