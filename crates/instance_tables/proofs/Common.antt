-- The names that most proofs of this crate cite, passed on from one place. Declares nothing.
pub use Rattle.std.proofs.Common.{◌≡◌, ℕ, ◌++◌, IfOk, List, sym, ap, ◌∙◌, subst, arith, take, codes, string_bytes, [], ◌∷◌, Bool, true, false, if◌then◌else◌}
pub use Rattle.std.proofs.lemmas.List.{flat_map_more, append-nil}
pub use Rattle.std.specs.List.{flat_map}
pub use Rattle.csv.specs.Writing.{default_writer, row_text}
pub use Rattle.shift_instance.specs.Kind.{Kind}
pub use Rattle.shift_instance.specs.Problem.{below, slots}
pub use Rattle.instance_tables.specs.RuleRows.{lunch_text, total_text, rule_columns, rules_text, entries_text, rule_fields}
unfoldable pub use Rattle.instance_tables.specs.RuleRows.{rule_row}
pub use Rattle.instance_tables.specs.Settings.{need_columns, need_fields, need_text}
pub use Rattle.instance_tables.specs.Types.{type_row, is_plain}
