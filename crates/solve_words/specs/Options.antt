-- The options behind `solve` as their parser knows them.
use Rattle.std.specs.Prelude.{ℕ, Bool, List, Some, true, codes}
use Rattle.std.specs.List.{list_any}
use Rattle.std.specs.Str.{bytes_eq}
use Rattle.clap.specs.declared.builder.action.ArgAction.TheVariants.{SetTrue}
use Rattle.clap.specs.Words.{App, Rule, new_app, new_rule, with_rule}
use Rattle.clap.specs.Simple.{on_top}

-- an option with a value
abbrev pub option_rule : List ℕ → Rule
option_rule name = record (new_rule name) { long = Some name }

-- an option without one
abbrev pub flag_rule : List ℕ → Rule
flag_rule name = record (new_rule name) { long = Some name; action = Some SetTrue }

-- no program's name comes first, and no help is offered
abbrev pub bare_app : App
bare_app = on_top (λ s. record s { no_binary_name = true; disable_help_flag = true }) (new_app (codes "solve"))

abbrev pub with_options : App → App
with_options app = with_rule (with_rule (with_rule app (option_rule (codes "workers"))) (option_rule (codes "steps"))) (option_rule (codes "demo"))

abbrev pub with_flags : App → App
with_flags app = with_rule (with_rule (with_rule (with_rule app (flag_rule (codes "table"))) (flag_rule (codes "local"))) (flag_rule (codes "thorough"))) (flag_rule (codes "turns"))

-- the positional argument, the three options with a number and the four flags
abbrev pub options_app : App
options_app = with_flags (with_options (with_rule bare_app (new_rule (codes "JOURNAL"))))

-- whether a word is `--`, and whether one of the words is
abbrev pub is_separator : List ℕ → Bool
is_separator word = bytes_eq word (codes "--")

abbrev pub has_separator : List (List ℕ) → Bool
has_separator = list_any is_separator
