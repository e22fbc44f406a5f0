-- The names that most proofs of this crate cite, passed on from one place. Declares nothing.
pub use Rattle.std.proofs.Common.{◌≡◌, [], ◌∷◌, map, refl, ℕ, ◌+◌, ◌%◌, ◌≤◌, Bool, true, false, not, ◌||◌, ◌==◌, nat_lt, cond, List, ◌++◌, length, sym, ap, ◌∙◌, arith, None, Bor, Option, option_map, find, ◌&&◌, String, BTreeMap, Global, string_bytes, Some, is_some, option_and_then, zero, suc, take, min, IsUtf8, ◌^◌, ◌<◌, All, decimal, append-nil, Result, Ok, Err, codes, IsTrue, ◌*◌, drop, subst, rules}
pub use Rattle.std.proofs.lemmas.Bool.{le-ltb, not-false, and_parts}
pub use Rattle.std.proofs.lemmas.Bool.Decides.{nat_tests}
pub use Rattle.std.proofs.lemmas.Fmt.{IsAscii-decimal, length-decimal-le}
pub use Rattle.std.proofs.lemmas.List.{length-map, length-append, length-take}
pub use Rattle.std.proofs.lemmas.List.Elements.{All-from_recursion, All-head, All-tail, All-nil, All-cons}
pub use Rattle.std.proofs.lemmas.Result.{IfOk-weaker}
pub use Rattle.std.proofs.lemmas.Str.{utf8_valid_len-IsUtf8, IsUtf8-append, IsUtf8-from_ascii, IsUtf8-from_is_utf8, is_utf8-from_IsUtf8, utf8_valid_len_le}
pub use Rattle.std.specs.List.{enumerate_from, zip, list_all}
pub use Rattle.std.specs.Option.{option_map_or, option_copied}
pub use Rattle.std.specs.Prelude.{if◌then◌else◌, count_by}
pub use Rattle.std.specs.Str.Lossy.{utf8_valid_len}
pub use Rattle.break_rules.proofs.Ranges.{ranges_from_none}
pub use Rattle.break_rules.specs.Breaks.{legal_lists}
pub use Rattle.break_rules.specs.Causes.{first_cause}
pub use Rattle.break_rules.specs.Ranges.{IsTotal, IsLunch, IsRule}
pub use Rattle.break_rules.specs.declared.Lunch.{Lunch}
pub use Rattle.break_rules.specs.declared.Rule.{Rule}
pub use Rattle.json.proofs.Printed.Utf8.{are_ascii, IsUtf8-are_ascii, IsUtf8-quoted}
pub use Rattle.json.specs.Print.{quoted, escape}
unfoldable pub use Rattle.json.specs.Print.{escape_byte}
pub use Rattle.serde_json.specs.Data.{Data, unsigned, negative, float, null, boolean, number, string, array, object, Items, no_items, item, Members, no_members, member, put}
pub use Rattle.serde_json.specs.Read.{read, of_json, of_items, of_members, max_depth}
pub use Rattle.serde_json.specs.View.{view, items_view, members_view}
pub use Rattle.serde_json.specs.Written.{compact_text, items_text, members_text, comma_if, outline, items_outline, members_outline, has_float, items_have_float}
pub use Rattle.serde_json.specs.declared.value.Value.{Value}
pub use Rattle.shift_instance.specs.Faults.{period_causes, need_cause, band_cause, band_causes, wanted_causes, size_causes, types_causes, part_causes, instance_causes, Answers}
pub use Rattle.shift_instance.specs.Kind.{Kind}
pub use Rattle.shift_instance.specs.Names.{is_name, is_name_byte}
pub use Rattle.shift_instance.specs.Problem.{below, day_slots, shift_list, Problem}
pub use Rattle.shift_instance.specs.Valid.{IsValid, IsKind}
pub use Rattle.instance_json.specs.Canonical.{items_data, number_data, total_data, lunch_data, is_banded, document_stating, list_data, with_bands}
unfoldable pub use Rattle.instance_json.specs.Canonical.{rule_data, kind_data, weights_data, document_data, canonical_text}
pub use Rattle.instance_json.specs.Departures.{first_some}
unfoldable pub use Rattle.instance_json.specs.Departures.{shown, document_departure, object_departure, type_departure}
pub use Rattle.instance_json.specs.Document.{items_at, number_up_to, total_of, lunch_of}
unfoldable pub use Rattle.instance_json.specs.Document.{problem_of, document_fields, weights_fields, type_fields, breaks_fields, rule_of, kind_of}
pub use Rattle.instance_json.specs.Fields.{data_list, member_names, whole, are_numbers, is_wide, is_row, are_rows, names_of, is_known}
pub use Rattle.instance_json.specs.Generated.{draw, need_of, next_state, drawn, is_busy, draws_before, hour_rule}
unfoldable pub use Rattle.instance_json.specs.Generated.{state_after, needs_of, generated}
pub use Rattle.instance_json.specs.Reading.{IsAnswer, refusal_of}
unfoldable pub use Rattle.instance_json.specs.Reading.{value_of, problem_reading, value_reading, reading_of}
pub use Rattle.instance_json.specs.declared.ReadRefusal.TheVariants.{TooLong, NotJson, Missing, UnknownField, WrongKind, Invalid, NoMemory}
