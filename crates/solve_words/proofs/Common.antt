-- The names that most proofs of this crate cite, passed on from one place. Declares nothing.
pub use Rattle.std.proofs.Common.{◌≡◌, ◌∙◌, sym, ap, ap₂, refl, ℕ, zero, suc, Bool, true, false, List, [], ◌∷◌, length, codes, Option, Some, None, ◌+◌, ◌*◌, ◌^◌, ◌<◌, ◌≤◌, leb, ◌&&◌, Result, Err, subst, arith, nat_le, mul-le-mul_right, mul_assoc, mul_comm, fold, ◌≢◌, inl, inr, ◌++◌, map, cond, option_map, ◌-◌, take, drop, get_or, string_bytes, Global}
pub use Rattle.std.proofs.lemmas.Bool.{false≢true, not-true, leb-true, and_parts, cases_Bool, eqb-true, true≢false, cases_eq, or_parts}
pub use Rattle.std.proofs.lemmas.List.{append-nil, map-append, append_assoc, take_all}
pub use Rattle.std.proofs.lemmas.Result.{IfOk-weaker}
pub use Rattle.std.proofs.lemmas.Slice.Eq.{bytes_eq-Decides}
pub use Rattle.std.specs.Char.{is_ascii_digit, digit_value}
pub use Rattle.std.specs.List.{list_all, flat_map}
pub use Rattle.std.specs.Option.{option_map_or, option_to_list}
pub use Rattle.std.specs.Prelude.{◌==◌, if◌then◌else◌, IfSome, slice_get, ◌||◌, is_some, option_and_then, count_by, find, not, ◌⊎◌}
pub use Rattle.std.specs.Str.{bytes_eq, chars}
pub use Rattle.std.specs.Str.Parse.{digits_value, digits_value_after, AllDigits, IsNumeral, ParsesUnsigned, without_leading_plus}
pub use Rattle.clap.proofs.WalkLemmas.{bundle_ends, first_value-rows, list_any-map, one_text-rows}
pub use Rattle.clap.specs.Faults.{bundle_fault, bundle_step_fault, flag_word_fault, other_fault, settle_fault, step_fault, turn_fault, word_fault, check_fault, default_fault, entered_fault, fault_of, use_fault, long_fault, react_fault, is_simple_and_free}
unfoldable pub use Rattle.clap.specs.Faults.{flags_fault, defaults_fault, walk_fault}
pub use Rattle.clap.specs.Kinds.{Kinds, or_else, HasKind, IsAmong}
pub use Rattle.clap.specs.Lexer.{long_of, short_of, name_and_value}
pub use Rattle.clap.specs.Simple.{built, entered, matches_of, filled, Shape, with_index, app_of_fields, on_top, is_simple}
pub use Rattle.clap.specs.Values.{kind_of}
pub use Rattle.clap.specs.Walk.{after_flag, after_step, Held, idle, long_or_other, option, Outcome, plain, plain_word, positional_held, Row, settled, positional, short_or_plain, Step, subcommand_met, subcommand_or_other, Text, trailing, value, Waiting, word_met, finished, has_row, Walk, with_default, one_of, first_of, more_values, reading_by, row_text, at_row, Rule, used, with_values, without, arg_by_long, reacted, rows_of}
unfoldable pub use Rattle.clap.specs.Walk.{walked}
pub use Rattle.clap.specs.Words.{new_rule, rule_of, with_rule, App, app_of}
pub use Rattle.clap.specs.declared.builder.arg.Arg.{Arg}
pub use Rattle.clap.specs.declared.parser.matches.ValueSource.TheVariants.{DefaultValue, CommandLine}
pub use Rattle.solve_words.specs.Asked.{asked, given}
pub use Rattle.solve_words.specs.Options.{options_app, has_separator, flag_rule, option_rule, with_options, with_flags, is_separator}
pub use Rattle.solve_words.specs.Words.{demo, flag, is_journal, journal, local, number, Part, Setting, steps, table, thorough, turns, workers, is_number, Flag, asked_in, budget_in, demonstration_of, digits_in, from_number, method_of, number_in, over_journal, path_in, search_on, workers_in, AreSpelled, Asked, Give, Given, IsFoundIn, IsGivenBy, IsReadAs, IsSpelled, is_flag, name_of, name_of_flag, Asks, IsWithin, asked_by, method_in, number_within}
