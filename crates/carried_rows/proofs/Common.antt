-- The names that most proofs of this crate cite, passed on from one place. Declares nothing.
pub use Rattle.std.proofs.Common.{◌≡◌, inl, inr, ℕ, zero, suc, ◌+◌, ◌-◌, ◌<◌, ◌≤◌, true, false, ◌&&◌, ◌||◌, ◌==◌, List, [], ◌∷◌, ◌++◌, min, filter, refl, sym, ◌∙◌, subst, arith, eqb-true, eq-eqb, nat_lt, sum_by, Option, Some, None, cond, length, drop, nat_le, ◌⊎◌, Bool, slice_index_or, ap, append_assoc}
pub use Rattle.std.proofs.lemmas.Bool.{and_parts, and_from, or_left, or_right, cases_lt, cases_eq, cond_both, false≢true, lt-ltb, ltb-true, le-leb, or_cases}
pub use Rattle.std.proofs.lemmas.List.{drop_more, flat_map_more, length-map}
pub use Rattle.std.specs.List.{flat_map, range_with_len, list_all, zip, find}
pub use Rattle.std.specs.Option.{option_map_or}
pub use Rattle.break_rules.proofs.Lists.{from_flat_map, from_filter, from_below, all_at, all_from}
pub use Rattle.break_rules.proofs.Ordered.{Sorted-flat_map, Sorted-filter, Sorted-range}
pub use Rattle.break_rules.specs.Breaks.{is_less_list, same_break, is_less_break}
pub use Rattle.break_rules.specs.Lists.{Has, Sorted}
pub use Rattle.rota_cost.proofs.Counting.{legal_rows_parts}
pub use Rattle.shift_instance.proofs.Ranges.{below_next}
pub use Rattle.shift_instance.specs.Problem.{Problem, below, shift_list}
pub use Rattle.shift_instance.specs.Rota.{is_list_of, is_before, is_legal_duty, is_legal_rota, is_on, heads_on, duty_of, rota_of, are_legal_rows}
pub use Rattle.shift_instance.specs.declared.Row.{Row}
pub use Rattle.carried_rows.specs.Carrying.{like_of, goes_to, moved, fitted, carried_on, carried_to, carried_of, carried, is_like}
