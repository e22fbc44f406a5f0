-- The names that most proofs of this crate cite, passed on from one place. Declares nothing.
pub use Rattle.std.proofs.Common.{◌≡◌, ℕ, zero, suc, ◌+◌, ◌*◌, ◌/◌, ◌%◌, ◌≤◌, Bool, true, false, ◌==◌, ◌&&◌, not, List, [], ◌∷◌, ◌++◌, length, refl, subst, arith, nat_lt, nat_le, Option, Some, None, codes, eqb, sym, ap, ◌∙◌, take, string_bytes, ◌<◌, get_or}
pub use Rattle.std.proofs.lemmas.List.Elements.{All-nil, All-cons, All-append, All-get_or}
pub use Rattle.std.specs.Fmt.{decimal, digits_onto, digit_glyph}
unfoldable pub use Rattle.std.specs.Fmt.{digits}
pub use Rattle.std.specs.List.{flat_map, list_all}
pub use Rattle.std.specs.Option.{option_map_or}
pub use Rattle.std.specs.Prelude.{slice_get}
pub use Rattle.certificate.specs.Departing.{IsLine, IsNote, Spells}
pub use Rattle.shift_instance.specs.Problem.{Problem, Kind, shift_list}
pub use Rattle.shift_instance.specs.Valid.{IsKind, IsValid}
pub use Rattle.shift_instance.specs.declared.Row.{Row}
pub use Rattle.rota_writer.specs.Table.{two_digits, clock, period_text, break_text, breaks_text, name_of, day_number, crew_text, line_of, row_table_line, table_text}
