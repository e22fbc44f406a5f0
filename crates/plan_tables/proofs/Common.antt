-- The names that most proofs of this crate cite, passed on from one place. Declares nothing.
pub use Rattle.std.proofs.Common.{◌≡◌, ℕ, List, ◌++◌, Result, OnOk, ap, subst, ◌∙◌, append_assoc, ◌+◌, ◌<◌, [], ◌∷◌, length, get_or, take, sym, arith, zero, suc, ◌-◌, Bool, true, false, ◌==◌, ◌&&◌, cond, replicate, refl, eqb-true, append-nil, encode_utf8, ◌*◌, ◌≤◌, map, add-one, sum_by, filter, All, count_by, nat_lt, zero-add, string_bytes, rules, Bor, fold, max, codes, IfOk, ◌^◌}
pub use Rattle.std.proofs.lemmas.Bool.{lt-ltb, ne_eqb}
pub use Rattle.std.proofs.lemmas.List.{flat_map_more, take_more, length-take-le, length-append, length-replicate, map-append, map_more, length-map, take_all}
pub use Rattle.std.proofs.lemmas.List.Elements.{All-nil, All-append, All-filter, All-from_get_or, All-head, All-tail, All-same}
pub use Rattle.std.proofs.lemmas.List.Sums.{sum_by_push, sum_by-cons, count_by-le-length}
pub use Rattle.std.proofs.lemmas.Result.{IfOk-weaker}
pub use Rattle.std.specs.Fmt.{decimal, format_spec, styled_decimal}
unfoldable pub use Rattle.std.specs.Fmt.{char_count, padded_integral}
pub use Rattle.std.specs.List.{enumerate_from, flat_map, repeat, range_with_len, list_any}
pub use Rattle.csv.specs.Writing.{default_writer, row_text}
pub use Rattle.rota_cost.proofs.Counting.{legal_rows_parts, row_duty}
pub use Rattle.shift_instance.proofs.Ranges.{range_next, below_next, sum_below_more}
pub use Rattle.shift_instance.specs.Problem.{Problem, shift_list, slots, below, need_at, need_max_at}
pub use Rattle.shift_instance.specs.Rota.{duty_of, rota_of, are_legal_rows, is_legal_rota, cost, shifts_used, is_used, cover}
pub use Rattle.shift_instance.specs.declared.Duty.{Duty}
pub use Rattle.shift_instance.specs.declared.Row.{Row}
pub use Rattle.plan_tables.specs.Attendance.{unbroken, over_at, under_at}
unfoldable pub use Rattle.plan_tables.specs.Columns.{at_right}
pub use Rattle.plan_tables.specs.Costliest.{costly_slot, costs, falling_cmp}
pub use Rattle.plan_tables.specs.DutyLines.{last_columns, longest_name, row_line}
unfoldable pub use Rattle.plan_tables.specs.DutyLines.{duties_head}
pub use Rattle.plan_tables.specs.Records.{cover_text, slot_columns, slot_fields, duties_text, duty_columns, duty_record}
pub use Rattle.plan_tables.specs.Starting.{IsKnown, by_start, starts_in}
pub use Rattle.plan_tables.specs.SummaryLines.{costly_line, day_line}
unfoldable pub use Rattle.plan_tables.specs.SummaryLines.{cost_lines, days_head, wanted_employees, wanted_hours}
pub use Rattle.plan_tables.specs.Tallies.{excess_part, shifts_part, shortage_part, day_summary, starts_on}
pub use Rattle.plan_tables.specs.declared.costliest.CostlySlot.{CostlySlot}
pub use Rattle.plan_tables.specs.declared.summary.DaySummary.{DaySummary}
