-- The names that most proofs of this crate cite, passed on from one place. Declares nothing.
pub use Rattle.std.proofs.Common.{◌≡◌, ◌++◌, map, take, string_bytes, ℕ, List, sym, ap, ◌∙◌, arith, ◌-◌, fold, length, max, ◌≤◌, Bor, IfOk, subst, replicate}
pub use Rattle.std.proofs.lemmas.List.{flat_map_more, take_all}
pub use Rattle.std.specs.List.{flat_map}
pub use Rattle.csv.specs.Writing.{default_writer, row_text}
pub use Rattle.shift_instance.proofs.Ranges.{below_next}
pub use Rattle.shift_instance.specs.Problem.{below}
pub use Rattle.rota_table.specs.Fields.{break_fields, lacking_fields, break_columns, first_columns, rota_columns}
pub use Rattle.rota_table.specs.Lines.{most_breaks, rota_text, row_records, duty_record}
