-- The names that most proofs of this crate cite, passed on from one place. Declares nothing.
pub use Rattle.std.proofs.Common.{◌≡◌, inl, inr, ℤ, ◌+ℤ◌, ◌≤ℤ◌, true, false, ◌&&◌, List, [], ◌∷◌, sym, ◌∙◌, arith, ◌⊎◌, ℕ, zero, suc, ◌+◌, ◌<◌, ◌≤◌, get_or, pos, ◌++◌, length, take, refl, ap, subst, append_assoc, Option, ◌≢◌, ◌*◌, ◌-ℤ◌, ◌==◌, map, append-nil, Some, FitsSigned, eq-eqb, Bool, None, int_lt, to_z, of_z, ◌^◌, ◌-◌, cond, ◌||◌, drop, add-one, length-append, nat_lt, filter, nat_le, leb-true, fold, Result, Ok, Err, rules, eqb-true}
pub use Rattle.std.proofs.Math.ListN.{get_or-append}
pub use Rattle.std.proofs.Math.Seq.{get_or-append_seam}
pub use Rattle.std.proofs.lemmas.Bool.{and_parts, or_cases, or_left, false≢true, cases_Bool, false_from_ne_true, ne_eqb, cases_lt, or_parts, cond_both, and_from, ltb-true, lt-ltb, or_right, or_from, and_left, cases_order, cond-true, cond-false, le-leb, lt-leb}
pub use Rattle.std.proofs.lemmas.Bool.Decides.{Decides-int_eq}
pub use Rattle.std.proofs.lemmas.Int.{ints, fits_signed_from_abs, to_z-of_z}
pub use Rattle.std.proofs.lemmas.List.{length-set, get_or-set_other, take-append-drop, take_at, take_more, take_all, length-map, drop_more, drop_all, get_or-map}
pub use Rattle.std.proofs.lemmas.List.Elements.{All-set, All-tail, All-get_or}
pub use Rattle.std.proofs.lemmas.List.Sums.{fold-append, length-filter, sum_by-take-drop, count_by_more_yes, count_by_more_no}
pub use Rattle.std.proofs.lemmas.Map.Keys.{IsDistinct-head, IsDistinct-tail}
pub use Rattle.std.specs.Arc.{arc_value}
pub use Rattle.std.specs.Int.{w64, int_max}
pub use Rattle.std.specs.Int.RustNames.{unsigned_abs}
pub use Rattle.std.specs.List.{list_any, AllByRecursion, count_by, range_with_len}
unfoldable pub use Rattle.std.specs.List.{IsDistinct}
pub use Rattle.std.specs.Option.{option_map_or, unwrap_or}
pub use Rattle.std.specs.Ordering.{int_eq}
pub use Rattle.std.specs.Prelude.{IfOk, slice_get, slice_set, All, IsSomeAnd, MatchOption, IsTrue, IfSome}
pub use mir.Syntax.{w128}
pub use Rattle.break_graph.specs.Graph.{IsGraph, StandsAt, node_at}
pub use Rattle.break_graph.specs.declared.Edge.{Edge}
pub use Rattle.break_graph.specs.declared.Node.{Node}
pub use Rattle.break_layers.proofs.Reach.{same_or, worth_size}
pub use Rattle.break_layers.specs.Rests.{IsBestRest, IsBestFrom, IsBestList, Priced, rest_worth, IsBestTail, IsMostEarned}
pub use Rattle.break_layers.specs.Ways.{live_stops}
pub use Rattle.break_layers.specs.declared.ways.Way.{Way}
pub use Rattle.break_rules.proofs.LegalLists.{live_from, no_longer_list, begins_from, Has-legal_lists, from_legal_lists, begins_rest, same_break_decides, live_rest, same_list_decides}
pub use Rattle.break_rules.proofs.Lists.{any_some, Has-append_cases, Has-map, from_map, Has-filter, Has-append_left, Has-append_right, any_at, any_none, same_tests, from_filter, from_range, from_below}
pub use Rattle.break_rules.proofs.Ordered.{less_apart, Sorted-filter, Sorted-breaks, IsLessBreak, IsLess, Sorted-legal_lists}
pub use Rattle.break_rules.proofs.Reaching.{rest_first, has_middle, live_back, live_legal, live_walks}
pub use Rattle.break_rules.proofs.Sizes.{abs_add}
pub use Rattle.break_rules.proofs.Steps.{bounds, from_next}
pub use Rattle.break_rules.proofs.Sums.{int_sum_by-same, int_sum_by-cons, int_sum_by-append}
pub use Rattle.break_rules.specs.Bonuses.{bonus_of, share_of}
pub use Rattle.break_rules.specs.Breaks.{same_break, is_less_list, is_less_break, is_legal, is_live, begins_with, end_of, legal_lists, same_list, works_at}
pub use Rattle.break_rules.specs.Lists.{Has, Sorted}
pub use Rattle.break_rules.specs.Ranges.{IsRule}
pub use Rattle.break_rules.specs.Walk.{end_of_all, nexts_of, spot_of, is_walk, may_follow, is_walk_from}
pub use Rattle.break_rules.specs.declared.Break.{Break}
pub use Rattle.break_rules.specs.declared.Rule.{Rule}
pub use Rattle.break_rules.specs.declared.Spot.{Spot}
pub use Rattle.indexmap.specs.IndexSet.{insert_key}
pub use Rattle.patterns.specs.Bonuses.{with_added}
pub use Rattle.price_sums.proofs.Prices.{kept_worth, some_at, kept_small}
pub use Rattle.price_sums.proofs.Stretches.{earned_more, earned_end, earned_small, spaced_rest, resumes_behind, resumes_skip, Spaced, difference_fits, sum_more, sum_fits, sum_last, whole_fits, earned_size, spaced_list}
pub use Rattle.price_sums.specs.Along.{Completes, price_in, earned_from, sum_at, AreSums, resumes, AreSmallPrices, ArePricesOf}
pub use Rattle.price_sums.specs.Days.{sums_on, AreSumsByDay}
pub use Rattle.shift_instance.specs.Problem.{Problem, slot_of, shift_list, slots, day_slots, below}
pub use Rattle.shift_instance.specs.Rota.{is_list_of}
pub use Rattle.shift_instance.specs.Valid.{IsValid, IsShift}
pub use Rattle.shift_instance.specs.Worth.{price_of, IsBest, worth, earned}
pub use Rattle.shift_instance.specs.declared.Duty.{Duty}
pub use Rattle.shift_instance.specs.declared.Shift.{Shift}
pub use Rattle.pricing.specs.Days.{IsMostOn, AreMostByDay, AreBestByDay, IsBestBy, best_at}
pub use Rattle.pricing.specs.Found.{IsLegal, worth_of, IsFound, Covers, Keeps, CoversFrom, CoversAlong, IsBestFound, leads_further, is_better, IsLeaving, AreBestAround}
pub use Rattle.pricing.specs.Keeping.{AreBeginnings, HaveSamePrice, IsLastChange, IsBeginning, HaveFirst, IsGraphKept, nodes_of, AreValuesAbove, AreTables, AreKeptAbove, AreRestsKept, IsFoundAt, AreEnoughAround, IsBestStop, Reaches, better_way, is_named, IsBestWay, IsBestEdge}
pub use Rattle.pricing.specs.Tables.{repriced, NameNone, NameNoneAbove, HaveSpotsUpTo, HaveBeginnings, AreStepsUpTo, Tabled, MeanTheSame, IsShiftOf}
pub use Rattle.pricing.specs.Values.{IsValue, AreValues, reach_of, AreFit, IsMostReached, IsFirstWith, LeadsOn, AreBestRests, priced_of, PricedNodes}
pub use Rattle.pricing.specs.declared.anew.KeptSearch.{KeptSearch}
pub use Rattle.pricing.specs.declared.anew.KeptSearch.TheVariants.{OverGraph, ByLayers}
pub use Rattle.pricing.specs.declared.found.Found.{Found}
