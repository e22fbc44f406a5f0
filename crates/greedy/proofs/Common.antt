-- The names that most proofs of this crate cite, passed on from one place. Declares nothing.
pub use Rattle.std.proofs.Common.{◌≡◌, inl, inr, ℕ, zero, suc, ◌+◌, ◌*◌, ◌≤◌, ℤ, pos, neg_ℤ, ◌+ℤ◌, ◌≤ℤ◌, ◌<ℤ◌, Bool, true, false, cond, not, Option, Some, None, List, [], ◌∷◌, refl, sym, ap, ◌∙◌, subst, arith, ◌<◌, negsuc, ◌-ℤ◌, ◌++◌, length, length-set, get_or, set, ◌-◌, ◌/◌, ◌%◌, ◌*ℤ◌, ◌&&◌, ◌||◌, ◌==◌, sum_by, nat_lt, eq-eqb, nat_le, map, filter, ◌⊎◌, take, drop, length-append, to_z, of_z, rules, below_more, Vec, Global}
pub use Rattle.std.proofs.Math.Nat.{mul-le-mul_right}
pub use Rattle.std.proofs.lemmas.Bool.{cases_Bool, false≢true, cases_eq, cases_lt, and_parts, eqb-true, lt-ltb, le-ltb, and_from, le-leb, ne_eqb, ltb-true, or_cases, ltb-false}
pub use Rattle.std.proofs.lemmas.Int.{ints, to_z-of_z}
pub use Rattle.std.proofs.lemmas.List.{get_or-replicate, get_or-set_same, get_or-set_other, get_or_past, get_or_read, append-nil}
pub use Rattle.std.proofs.lemmas.List.Folds.{list_any-append}
pub use Rattle.std.proofs.lemmas.List.FromFn.{get_or-map-range_with_len, length-map-range_with_len}
pub use Rattle.std.proofs.lemmas.List.Sums.{sum_by-cons, sum_by_push}
pub use Rattle.std.proofs.lemmas.Nat.{div-mul-add, mod-mul-add, mul-add-lt, mod_below}
pub use Rattle.std.proofs.lemmas.Result.{on_ok_weaker, IfOk-weaker}
pub use Rattle.std.specs.Int.{w64}
pub use Rattle.std.specs.List.{list_any, find, list_all, count_by, range_with_len, flat_map, zip}
pub use Rattle.std.specs.Option.{option_map_or}
pub use Rattle.std.specs.Prelude.{int_lt, slice_get, MatchOption, replicate, All, IfSome, is_some, IsSomeAnd, MatchBool, unwrap_or, ◌↔◌, IsTrue, FitsSigned}
pub use Rattle.break_rules.proofs.Counts.{count_by-append, count_by_same, count_by_none, sum_by_same, count_by_at_most, count_by-below, any_by_count, Has-from_count, sum_by_if, count_by-flat_map, count_by-replicate, count_by-map}
pub use Rattle.break_rules.proofs.Lists.{any_some, any_none, from_below, any_at, same_tests, Has-append_cases, from_map, from_filter, all_at, all_from, Has-below, from_flat_map, from_replicate, Has-map, Has-filter}
pub use Rattle.break_rules.proofs.Once.{cond_same, count_by_and}
pub use Rattle.break_rules.proofs.Ordered.{IsLess, Sorted-map, Sorted-filter, less_apart}
pub use Rattle.break_rules.proofs.Sums.{int_sum_by-cons, int_sum_by-same, int_sum_by-add, int_sum_by_swap, int_sum_by_if, int_sum_by_zero, mul-suc, mul-zero, int_sum_by-le}
pub use Rattle.break_rules.specs.Breaks.{works_at, is_legal, is_less_list}
pub use Rattle.break_rules.specs.Lists.{Has, Sorted}
pub use Rattle.break_rules.specs.Sums.{int_sum_by}
pub use Rattle.break_rules.specs.declared.Break.{Break}
pub use Rattle.break_rules.specs.declared.Rule.{Rule}
pub use Rattle.price_sums.specs.Along.{sum_at, price_in, AreSmallPrices, AreSums}
pub use Rattle.price_sums.specs.Days.{sums_on, AreSumsByDay, Priced}
pub use Rattle.pricing.specs.Days.{IsMostOn, AreMostByDay}
pub use Rattle.rota_cost.proofs.Lengths.{legal_length}
pub use Rattle.shift_instance.proofs.Alike.{same_duty_decides, AreAlike, alike_from_counts, alike_cost, alike_legal}
pub use Rattle.shift_instance.proofs.AllDuties.{Sorted-lists_of, adjacent, from_all_duties, no_count, once_in_duties, rows_of_counts, IsBefore, Sorted-all_duties}
pub use Rattle.shift_instance.proofs.Ranges.{int_sum_below_more, below_next}
pub use Rattle.shift_instance.proofs.Rotas.{Has-lists_of, from_lists_of, heads_within, legal_duties, legal_duty_parts}
pub use Rattle.shift_instance.proofs.Shifts.{some_at, Has_at, shift_within, get_or_some, is_some_and_at}
pub use Rattle.shift_instance.specs.AllDuties.{all_duties, row_of}
pub use Rattle.shift_instance.specs.Problem.{Problem, slots, shift_list, below, day_slots, need_at, need_max_at, slot_of}
pub use Rattle.shift_instance.specs.Rota.{lists_of, is_list_of, works, is_used, cover, slot_cost, shifts_used, cost, same_duty, count_of, is_on, heads_on, is_legal_duty, is_legal_rota, duty_of, is_before, rota_of, are_legal_rows}
pub use Rattle.shift_instance.specs.Valid.{IsValid}
pub use Rattle.shift_instance.specs.Worth.{price_of, earned, worth, IsBest}
pub use Rattle.shift_instance.specs.declared.Duty.{Duty}
pub use Rattle.shift_instance.specs.declared.Row.{Row}
pub use Rattle.shift_instance.specs.declared.Shift.{Shift}
pub use Rattle.greedy.specs.Bounds.{AreBounds, bound_at}
pub use Rattle.greedy.specs.Drafts.{Leads, IsDraft, heads_at, with_one_more, LeadsToGreedy}
pub use Rattle.greedy.specs.Greedy.{duty, earned_with, is_greatest, value_on, best_duty, marginal_price, rows_of, first_greatest, is_wanted, AreRowsAfterRounds, IsAfterRounds}
unfoldable pub use Rattle.greedy.specs.Greedy.{best_list, counts, gain, marginal_prices, new_duties, next_shift, day_value, used_list, greedy_after, greedy_rota, greedy_rows}
pub use Rattle.greedy.specs.Kept.{AreAllKnown, AreKnown, AreNoHigher, IsKnown, KeepsEach, price_total, AreKept}
pub use Rattle.greedy.specs.Sizes.{IsWithin, ArePrices}
