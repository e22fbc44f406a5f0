-- The names that most proofs of this crate cite, passed on from one place. Declares nothing.
pub use Rattle.std.proofs.Common.{◌≡◌, ℕ, ◌*◌, ◌<◌, ◌≤◌, Bool, true, ◌&&◌, ◌==◌, not, List, length, sym, ap, ◌∙◌, subst, arith, nat_le, eq-eqb, inl, inr, zero, false, cond, ◌||◌, [], ◌∷◌, ◌++◌, map, filter, drop, replicate, refl, nat_lt, Option, Some, None, ◌+◌, get_or, suc, ◌/◌, take, ◌⊎◌, ◌-◌, MatchOption, Bor, append_assoc, length-append, ◌%◌, ℤ, pos, ◌+ℤ◌, ◌*ℤ◌, ◌^◌}
pub use Rattle.std.proofs.Math.Nat.{mul-le-mul, mul-le-mul_right}
pub use Rattle.std.proofs.lemmas.Bool.{and_parts, and_from, le-leb, eqb-true, or_left, or_right, cases_Bool, false≢true, lt-ltb, cond_both, ltb-false, ltb-true, or_cases, or_parts, leb-true, not-false, cases_lt, cases_order, le-ltb}
pub use Rattle.std.proofs.lemmas.Int.{ints}
pub use Rattle.std.proofs.lemmas.List.{drop_more, append-nil, map_push, map-append, length-map}
pub use Rattle.std.proofs.lemmas.List.Elements.{All-nil, All-cons, All-weaker}
pub use Rattle.std.proofs.lemmas.Option.{slice_get_read, slice_get_within, get_or_from_slice_get, slice_get-get_or}
pub use Rattle.std.specs.Arc.{arc_value}
pub use Rattle.std.specs.Bool.{Decides}
pub use Rattle.std.specs.List.{list_all, count_by, flat_map, zip, enumerate_from, range_with_len, list_any}
pub use Rattle.std.specs.Option.{option_map_or}
pub use Rattle.std.specs.Prelude.{sum_by, slice_get, IsSomeAnd, All, if◌then◌else◌, IfSome}
pub use Rattle.break_graph.specs.Graph.{IsGraph}
pub use Rattle.break_graph.specs.declared.Node.{Node}
pub use Rattle.break_rules.proofs.Causes.{no_cause, NoCause, none_from_no_cause, first_left, first_right}
pub use Rattle.break_rules.proofs.Counts.{count_by_same, sum_by_same, all_by_count, all_from_count, any_by_count, any_from_count, count_by_alike, count_by_none, count_by-flat_map, count_by-map, count_by-below, count_by_at_most, count_by-replicate}
pub use Rattle.break_rules.proofs.LegalLists.{same_list_decides, Has-legal_lists, from_legal_lists}
pub use Rattle.break_rules.proofs.Lists.{all_from, same_tests, from_map, Has-map, from_flat_map, Has-flat_map, Has-below, from_below, any_none, any_some, all_at, from_replicate, any_at, from_range}
pub use Rattle.break_rules.proofs.Ranges.{ranges_from_none}
pub use Rattle.break_rules.proofs.Sums.{int_sum_by-same, int_sum_by_swap, int_sum_by_if, int_sum_by_zero, int_sum_by_pick_below, mul-suc, int_sum_by-append}
pub use Rattle.break_rules.specs.Breaks.{same_list, is_legal, legal_lists, is_less_list, works_at}
pub use Rattle.break_rules.specs.Causes.{first_cause}
pub use Rattle.break_rules.specs.Lists.{Has, Sorted}
pub use Rattle.break_rules.specs.RuleFaults.{rule_causes}
pub use Rattle.break_rules.specs.Sums.{int_sum_by}
pub use Rattle.break_rules.specs.declared.Break.{Break}
pub use Rattle.break_rules.specs.declared.Rule.{Rule}
pub use Rattle.shift_instance.specs.Faults.{is_slot_minutes, period_causes, need_cause, band_cause, band_causes, wanted_causes, size_causes, cause_of_kind, kind_causes, types_causes, part_causes, Answers}
unfoldable pub use Rattle.shift_instance.specs.Faults.{instance_causes}
pub use Rattle.shift_instance.specs.Graphs.{AreGraphs, AreGraphsOf}
pub use Rattle.shift_instance.specs.Kind.{Kind}
pub use Rattle.shift_instance.specs.Listing.{shift_at, starting, shifts_of, IsListed}
pub use Rattle.shift_instance.specs.Problem.{Problem, slots, shift_list, below, slot_of, day_slots, need_at, need_max_at, shifts_of_kind, from_to}
pub use Rattle.shift_instance.specs.Rota.{same_duty, count_of, is_on, heads_on, is_legal_duty, is_legal_rota, works, cover, slot_cost, is_used, shifts_used, cost, lists_of, is_list_of, is_before, rota_of, are_legal_rows, duty_of}
pub use Rattle.shift_instance.specs.Valid.{IsValid, IsKind, IsInside, IsShift}
pub use Rattle.shift_instance.specs.declared.Duty.{Duty}
pub use Rattle.shift_instance.specs.declared.InstanceFault.TheVariants.{SlotMinutes, Days, NeedLength, NeedTooLarge, Weight, Heads, Types, StartRange, LengthRange, TooManyShifts, Name, BandLength, Band, NoMemory}
pub use Rattle.shift_instance.specs.declared.Row.{Row}
pub use Rattle.shift_instance.specs.declared.Shift.{Shift}
