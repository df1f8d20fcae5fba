-- The line of words as `clap` is told of it: a positional `command`, and three options with a value.
use Rattle.std.specs.Prelude.{true, Some, codes}
use Rattle.clap.specs.Words.{App, Rule, Text, new_app, new_rule, with_rule}

-- an option with a long name
abbrev pub option_rule : Text → Rule
option_rule name = record (new_rule name) { long = Some name }

-- a line with no argument: all its words are given, and `--help` is none of them
abbrev pub bare_line : App
bare_line = record (new_app (codes "hsts")) {
  top = record (new_app (codes "hsts")).top { no_binary_name = true; disable_help_flag = true };
}

-- the line with its arguments
abbrev pub line_app : App
line_app = with_rule (with_rule (with_rule (with_rule bare_line (new_rule (codes "command")))
    (option_rule (codes "budget"))) (option_rule (codes "seed"))) (option_rule (codes "size"))
