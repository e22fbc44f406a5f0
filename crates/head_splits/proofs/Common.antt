-- The names that most proofs of this crate cite, passed on from one place. Declares nothing.
pub use Rattle.std.proofs.Common.{◌≡◌, ℕ, ℤ, pos, ◌+ℤ◌, ◌≤ℤ◌, Bool, true, false, cond, not, ◌&&◌, ◌==◌, List, [], ◌∷◌, map, refl, sym, ap, ◌∙◌, subst, arith, eqb-true, eq-eqb, inl, inr, zero, suc, ◌+◌, ◌<◌, ◌≤◌, ◌++◌, length, nat_lt, Option, Some, None, ◌-◌, ◌*◌, negsuc, neg_ℤ, ◌-ℤ◌, ◌*ℤ◌, ◌||◌, fold, nat_le, replicate, take, drop, filter, append_assoc, append-nil, ◌⊎◌, min, max, get_or, set, Result, Ok, Err, slice_index_or}
pub use Rattle.std.proofs.lemmas.Bool.{cases_Bool, false≢true, and_parts, and_from, lt-ltb, leb-true, ltb-true, cond_both, cases_lt, and_left, le-ltb, or_left, or_right, le-leb, or_cases, or_parts, not-true, leb-false, ltb-false, and_cases, not_from_false, not-false}
pub use Rattle.std.proofs.lemmas.Grind.{flat_map-append}
pub use Rattle.std.proofs.lemmas.Int.{ints, clamps}
pub use Rattle.std.proofs.lemmas.List.{length-append, take-append-drop, map-append, take_all, take-append-le, take_more}
pub use Rattle.std.proofs.lemmas.List.Folds.{list_all-append, find-append, flat_map-map}
pub use Rattle.std.proofs.lemmas.List.Sums.{AllPass-from_list_all, fold_push, sum_by-cons, sum_by-le-sum_by}
pub use Rattle.std.specs.List.{zip, list_all, count_by, flat_map, find, range_with_len, list_any}
pub use Rattle.std.specs.Option.{option_map_or, unwrap_or, option_or}
pub use Rattle.std.specs.Prelude.{slice_get, ◌↔◌, int_le, sum_by, IsSomeAnd, is_some, IfOk}
pub use Rattle.break_rules.proofs.Counts.{count_by_same, count_by_none, count_by_at_most, sum_by_same, sum_by_if, count_by-flat_map, count_by-replicate}
pub use Rattle.break_rules.proofs.LegalLists.{legal_in_order, few_breaks, live_rest, live_from, same_list_decides, begins_rest, begins_from, no_longer_list, same_break_decides, from_legal_lists, Has-legal_lists, StandInOrder, Has-all_lists, short}
pub use Rattle.break_rules.proofs.Lists.{Has-map, from_map, all_at, any_some, any_none, from_below, from_flat_map, all_from, from_replicate, same_tests, Has-flat_map, from_filter, Has-filter, Has-append_left, Has-append_right, Has-append_cases, Has-below, any_at}
pub use Rattle.break_rules.proofs.Ordered.{Sorted-filter, Sorted-flat_map, Sorted-breaks, Sorted-legal_lists, IsLess, IsLessBreak, less_apart, Sorted-map}
pub use Rattle.break_rules.proofs.Reaching.{rest_first, find_here, find_none}
pub use Rattle.break_rules.proofs.Sums.{int_sum_by-same, int_sum_by-map, int_sum_by-filter, greatest_bounds, greatest_reached, int_sum_by-le, int_sum_by-add, int_sum_by_zero, int_sum_by_swap, int_sum_by_if, int_sum_by_pick_below, int_sum_by_pos, within_range, within_free_range, rounded_up_least}
pub use Rattle.break_rules.specs.Breaks.{begins_with, is_legal, is_live, same_list, same_break, is_less_break, is_less_list, legal_lists, breaks_between, live_lists, break_lists, end_of}
pub use Rattle.break_rules.specs.Lists.{Has, Sorted}
pub use Rattle.break_rules.specs.Sums.{int_sum_by, greatest, rounded_up}
pub use Rattle.break_rules.specs.declared.Break.{Break}
pub use Rattle.break_rules.specs.declared.Rule.{Rule}
pub use Rattle.list_walks.specs.Stands.{Walks, AreWaysOn}
pub use Rattle.list_walks.specs.declared.steps.WalkWay.{WalkWay}
pub use Rattle.shift_instance.proofs.AllDuties.{Has-all_duties, from_all_duties, no_count, once_in_duties, adjacent, rows_of_counts, IsBefore, Sorted-all_duties}
pub use Rattle.shift_instance.proofs.Rotas.{Has-lists_of, from_lists_of, legal_duties, heads_within, legal_duty_parts, slice_get_below}
pub use Rattle.shift_instance.specs.AllDuties.{all_duties, row_of}
pub use Rattle.shift_instance.specs.Problem.{Problem, shift_list, slots, need_at, need_max_at, below}
pub use Rattle.shift_instance.specs.Rota.{lists_of, is_shift_and, works, is_on, heads_on, is_legal_rota, cover, slot_cost, is_used, shifts_used, cost, same_duty, count_of, is_list_of, is_legal_duty, is_before, rota_of, are_legal_rows, live_lists_of}
pub use Rattle.shift_instance.specs.Worth.{earned, worth, IsBest, price_of}
pub use Rattle.shift_instance.specs.declared.Duty.{Duty}
pub use Rattle.shift_instance.specs.declared.Row.{Row}
pub use Rattle.shift_instance.specs.declared.Shift.{Shift}
pub use Rattle.head_splits.specs.Below.{is_open, lists_below, duties_below, rows_of, IsWalked, AreWalksOf, StandsOn, IsClear, shift_duties}
pub use Rattle.head_splits.specs.Bound.{is_nil, signed_price, bonus, reduced, best_value, entries_of, is_forced, day_value, free_day_value, term, wanted_at, worth_at, slot_worth, cut_worth, total, bound_of, is_slot_price, is_cut_price, are_prices}
pub use Rattle.head_splits.specs.Cuts.{holds, class_count, same_class, keeps_to, meets_cut, meets, raised, lowered, low, high, whole_class, least_high}
pub use Rattle.head_splits.specs.Ranges.{class_at, same_place, range_in, AreRanges}
pub use Rattle.head_splits.specs.Settled.{class_of, is_settled, is_live_class, IsSettledClass, without_duties, of_fixed_number, of_settled_extensions, settled_plan, is_empty, split_class, span, prefixes, is_closed, is_fixed, fixed_count, settled_rows, live_classes}
pub use Rattle.head_splits.specs.declared.Class.{Class}
pub use Rattle.head_splits.specs.declared.Cut.{Cut}
pub use Rattle.head_splits.specs.declared.Prices.{Prices}
pub use Rattle.head_splits.specs.declared.Side.{Side}
pub use Rattle.head_splits.specs.declared.Side.TheVariants.{AtMost, AtLeast}
pub use Rattle.head_splits.specs.declared.table.Place.{Place}
pub use Rattle.head_splits.specs.declared.table.RangeTable.{RangeTable}
