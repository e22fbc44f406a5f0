-- The names that most proofs of this crate cite, passed on from one place. Declares nothing.
pub use Rattle.std.proofs.Common.{◌≡◌, ℕ, ◌+◌, ◌-◌, ◌≤◌, List, [], ◌∷◌, ◌++◌, length, refl, sym, ap, subst, ◌∙◌, Option, Some, None, arith, ◌⊎◌, inl, inr, Bool, true, false, cond, ◌&&◌, ◌==◌, not, nat_le, max, ℤ, ◌+ℤ◌, ◌≤ℤ◌, append_assoc, append-nil, zero, suc, ◌<◌, min, set, fold, Vec, Global, Result, Ok, Err, nat_lt, ◌^◌, pos, map, ◌*◌, ◌-ℤ◌, take, get_or, FitsSigned, to_z, of_z, drop, slice_index_or, length-set, rules, reverse}
pub use Rattle.std.proofs.Math.Seq.{set-append_seam, get_or-append_seam}
pub use Rattle.std.proofs.lemmas.Bool.{not-true, false≢true, and_from, and_parts, le-leb, false_from_ne_true, cases_lt, and_right, cases_Bool, lt-ltb, ltb-true, eqb-true, le-ltb}
pub use Rattle.std.proofs.lemmas.Int.{ints, clamps, fits_signed_from_abs, to_z-of_z}
pub use Rattle.std.proofs.lemmas.List.{length-append, set-append_left, get_or-set_same, get_or-set_other, take_more, get_or_default, take_all, map-append, length-map, get_or-map, get_or_append_left, nil_from_length}
pub use Rattle.std.proofs.lemmas.List.Sums.{fold-append}
pub use Rattle.std.proofs.lemmas.Option.{slice_get_within, slice_get_past, slice_get_read}
pub use Rattle.std.proofs.lemmas.Result.{err_from_is_err_and, IfOk-weaker}
pub use Rattle.std.specs.Int.{int_max, w64, w128}
pub use Rattle.std.specs.Int.RustNames.{unsigned_abs}
pub use Rattle.std.specs.List.{flat_map, find, range_with_len, zip, list_all}
pub use Rattle.std.specs.Option.{option_map, option_map_or, option_and_then, option_or, option_flatten, unwrap_or}
pub use Rattle.std.specs.Prelude.{slice_get, IsSomeAnd, IfOk, MatchOption, is_some, IsOk, ◌↔◌, IsTrue, ⊤, vec_len}
pub use Rattle.bound_sums.proofs.Pairs.{pairs_from, sum_next}
pub use Rattle.bound_sums.proofs.Priced.{signed_small, slots_small, cut_small}
pub use Rattle.bound_sums.proofs.Sizes.{sum_size, added_fits, added, added_small, fits}
pub use Rattle.bound_sums.specs.Kept.{has_prefix_cut}
pub use Rattle.bound_sums.specs.Values.{IsValue}
pub use Rattle.break_graph.specs.Graph.{live_nexts, IsGraph, StandsAt, node_at}
pub use Rattle.break_graph.specs.declared.Edge.{Edge}
pub use Rattle.break_layers.specs.Rests.{IsMostEarned}
pub use Rattle.break_layers.specs.declared.ways.Way.{Way}
pub use Rattle.break_rules.proofs.LegalLists.{live_rest, no_longer_list, from_legal_lists, live_from, same_break_decides}
pub use Rattle.break_rules.proofs.Lists.{Has-append_cases, Has-append_left, Has-append_right, Has-filter, same_tests, Has-map, from_map, from_below, from_filter, any_at, any_none, any_some}
pub use Rattle.break_rules.proofs.Reaching.{rest_first, walk_on}
pub use Rattle.break_rules.proofs.Sizes.{abs_sub, abs_add}
pub use Rattle.break_rules.proofs.Sums.{int_sum_by-same, greatest_bounds, greatest_reached, int_sum_by_zero}
pub use Rattle.break_rules.specs.Breaks.{is_legal, is_live, legal_lists, works_at, end_of, begins_with, same_break}
pub use Rattle.break_rules.specs.Lists.{Has}
pub use Rattle.break_rules.specs.Ranges.{IsRule}
pub use Rattle.break_rules.specs.Sums.{int_sum_by, greatest}
pub use Rattle.break_rules.specs.Walk.{nexts_of, spot_of, end_of_all, is_walk}
pub use Rattle.break_rules.specs.declared.Break.{Break}
pub use Rattle.break_rules.specs.declared.Rule.{Rule}
pub use Rattle.break_rules.specs.declared.Spot.{Spot}
pub use Rattle.certificate.specs.Accepted.{nodes_after, nodes_of, is_split, node_line, node_of, least_floor, is_plan, is_accepted}
pub use Rattle.certificate.specs.declared.proof_lines.Line.{Line}
pub use Rattle.certificate.specs.declared.proof_lines.Line.TheVariants.{Split, Settled}
pub use Rattle.head_splits.proofs.Walked.{more_walked, stop_walked, whole_walked, duty, both_ok, index_get, flat_map_taken, flat_map_split, whole_duties, part_duties, closed_walked, clear_more, stands_next, none_walked}
pub use Rattle.head_splits.proofs.WholeWalk.{next_walked, stopped, settled_where_none, open_where_some, shift_days, no_duties}
pub use Rattle.head_splits.specs.Below.{IsWalked, IsClear, duties_below, is_open, StandsOn, shift_duties}
pub use Rattle.head_splits.specs.Bound.{are_prices, bound_of, is_nil, reduced, bonus, signed_price, is_cut_price}
pub use Rattle.head_splits.specs.Cuts.{low, high, meets}
pub use Rattle.head_splits.specs.Nodes.{Node, new_node, with_floor, with_split, settled_floor, child}
pub use Rattle.head_splits.specs.Settled.{is_settled, settled_rows, settled_plan, class_of}
pub use Rattle.head_splits.specs.declared.Class.{Class}
pub use Rattle.head_splits.specs.declared.Cut.{Cut}
pub use Rattle.head_splits.specs.declared.Prices.{Prices}
pub use Rattle.list_walks.specs.declared.steps.WalkWay.{WalkWay}
pub use Rattle.price_sums.specs.Along.{Completes, sum_at, price_in, earned_from, AreSums, ArePricesOf, resumes, AreSmallPrices}
pub use Rattle.price_sums.specs.Days.{sums_on, AreSumsByDay, Priced}
pub use Rattle.shift_instance.proofs.Shifts.{is_some_and_at, is_some_and_from, Has_at, shift_short}
pub use Rattle.shift_instance.specs.AllDuties.{all_duties, row_of}
pub use Rattle.shift_instance.specs.Problem.{Problem, below, slots, shift_list}
pub use Rattle.shift_instance.specs.Rota.{cost, rota_of, are_legal_rows, is_legal_rota, lists_of, is_list_of}
pub use Rattle.shift_instance.specs.declared.Duty.{Duty}
pub use Rattle.shift_instance.specs.declared.Row.{Row}
pub use Rattle.shift_instance.specs.declared.Shift.{Shift}
pub use Rattle.shift_instance.specs.declared.TheConstants.{TOP}
pub use Rattle.cert_check.specs.Below.{duty_with, bonuses, whole_worth, is_further, goes_further}
pub use Rattle.cert_check.specs.Floors.{line_floor, gives_floor, given_floor, IsFindingOf, AreFindings}
pub use Rattle.cert_check.specs.Judged.{bad_line, line_cause, bound_cause, cost_cause, plan_cause, cause_of, IsRefused, IsFirstBad}
pub use Rattle.cert_check.specs.Passed.{IsPassed}
pub use Rattle.cert_check.specs.Rests.{Through, IsGreatest, IsGreatestOf, greater_of, rest_worth, AreValues, worth_with_start}
pub use Rattle.cert_check.specs.Tree.{cuts_at, cuts_with, node_with, nodes_in, ArePartsOlder, IsCutAbove}
pub use Rattle.cert_check.specs.Walks.{AreWays, IsAtNode, IsAtSpot}
pub use Rattle.cert_check.specs.declared.tree.KeptNode.{KeptNode}
pub use Rattle.cert_check.specs.declared.tree.Part.{Part}
