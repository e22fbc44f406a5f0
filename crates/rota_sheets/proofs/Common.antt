-- The names that most proofs of this crate cite, passed on from one place. Declares nothing.
pub use Rattle.std.proofs.Common.{◌≡◌, ℕ, ◌+◌, ◌<◌, ◌≤◌, Option, None, Some, List, [], ◌∷◌, ◌++◌, length, get_or, map, take, sym, ap, ◌∙◌, refl, Bool, true, cond, replicate, count_by, arith, false, filter, append-nil, rules, subst, ◌==◌, ◌*◌}
pub use Rattle.std.proofs.lemmas.List.{map_more, take_all, flat_map_more}
pub use Rattle.std.proofs.lemmas.List.Sorted.{answers_always}
pub use Rattle.std.specs.List.{flat_map, list_any}
pub use Rattle.std.specs.List.Sorted.{IsPermutation}
pub use Rattle.std.specs.Option.{option_map_or}
pub use Rattle.std.specs.Prelude.{IsSomeAnd, slice_get}
pub use Rattle.break_rules.specs.declared.Rule.{Rule}
pub use Rattle.plan_tables.proofs.RowDuties.{row_at}
pub use Rattle.plan_tables.specs.Tallies.{starts_on}
pub use Rattle.shift_instance.specs.Problem.{Problem, shift_list, slot_of, below}
pub use Rattle.shift_instance.specs.Rota.{are_legal_rows, duty_of, rota_of, is_used}
pub use Rattle.shift_instance.specs.declared.Duty.{Duty}
pub use Rattle.shift_instance.specs.declared.Row.{Row}
pub use Rattle.shift_instance.specs.declared.Shift.{Shift}
pub use Rattle.rota_sheets.specs.Heads.{shift_with_number, starts_with}
pub use Rattle.rota_sheets.specs.TakenBreaks.{breaks_of_row, taken_break}
pub use Rattle.rota_sheets.specs.declared.breaks.TakenBreak.{TakenBreak}
pub use Rattle.rota_sheets.specs.declared.heads.UsedShift.{UsedShift}
