-- The names that most proofs of this crate cite, passed on from one place. Declares nothing.
pub use Rattle.std.proofs.Common.{◌≡◌, ◌≢◌, inl, inr, ℕ, ◌+◌, ◌-◌, ◌*◌, ◌<◌, ◌≤◌, ℤ, ◌+ℤ◌, ◌-ℤ◌, ◌≤ℤ◌, true, false, List, [], ◌∷◌, ◌++◌, sym, ap, ◌∙◌, subst, arith, append-nil, FitsSigned, length, ◌&&◌, refl, Bool, cond, Option, Some, None, map, filter, zero, suc, eq-eqb, if◌then◌else◌, ◌==◌, get_or, nat_le, sum_by, ◌⊎◌, ◌<ℤ◌, append_assoc, min, pos, take, drop, bit_or, rules, to_z, of_z, length-append, IsTrue, length-set, bit_and, ◌%◌, ◌/◌}
pub use Rattle.std.proofs.Math.ListN.{get_or-append, set}
pub use Rattle.std.proofs.Math.Nat.{mul-le-mul_right}
pub use Rattle.std.proofs.Math.Seq.{get_or-append_seam, take-append_seam}
pub use Rattle.std.proofs.lemmas.Bool.{false≢true, false_from_ne_true, cases_lt, and_parts, or_cases, or_left, cases_Bool, and_left, eqb-true, ne_eqb, or_right, and_from, le-leb, lt-ltb, leb-true, cond_both, and_right, lt-leb}
pub use Rattle.std.proofs.lemmas.Int.{ints, fits_signed_from_abs, to_z-of_z}
pub use Rattle.std.proofs.lemmas.List.{map-append, get_or-map, get_or-set_same, get_or-set_other, get_or_past, length-map, map-set, map-id, map_push, drop_more, take_more}
pub use Rattle.std.proofs.lemmas.List.Sums.{sum_by-cons, fold-append}
pub use Rattle.std.proofs.lemmas.Result.{IfOk-weaker}
pub use Rattle.std.specs.Int.{w64, int_max}
pub use Rattle.std.specs.Int.RustNames.{unsigned_abs}
pub use Rattle.std.specs.List.{list_any}
pub use Rattle.std.specs.Prelude.{MatchOption, is_some, slice_get, int_lt}
pub use Rattle.break_rules.proofs.LegalLists.{live_rest, no_longer_list, live_from, legal_parts, same_break_decides}
pub use Rattle.break_rules.proofs.Lists.{Has-append_cases, any_none, any_some}
pub use Rattle.break_rules.proofs.Reaching.{walk_small, rest_first, has_middle, live_walks, walk_on, is_walk-more, not_live, walk_broken, walk_longer}
pub use Rattle.break_rules.proofs.Sizes.{abs_sub, abs_add}
pub use Rattle.break_rules.proofs.Steps.{Bounds, bounds, from_next, spot_more, spot_with, total_small, has_next}
pub use Rattle.break_rules.specs.Breaks.{is_legal, is_live, total_of, is_less_break, is_less_list, same_break, end_of, is_lunch, is_rested, keeps_ends, total_in}
pub use Rattle.break_rules.specs.Lists.{Has, Sorted}
pub use Rattle.break_rules.specs.Ranges.{IsRule}
pub use Rattle.break_rules.specs.Walk.{end_of_all, is_walk, spot_of, nexts_of, bits_of, may_follow, is_walk_from}
pub use Rattle.break_rules.specs.declared.Break.{Break}
pub use Rattle.break_rules.specs.declared.Lunch.{Lunch}
pub use Rattle.break_rules.specs.declared.Rule.{Rule}
pub use Rattle.break_rules.specs.declared.Spot.{Spot}
pub use Rattle.price_sums.proofs.Stretches.{earned_end, spaced_rest, earned_more, earned_small, resumes_behind}
pub use Rattle.price_sums.specs.Along.{sum_at, AreSums, resumes, Completes, price_in, earned_from}
pub use Rattle.break_layers.specs.Layered.{IsValueOrNothing, AreLayersBefore, AreLayers, layer_number, layer_count, layer_of, layer_place, reach_worth, CompletesWith, IsReachOfAll, IsReachBy, IsMostOrNothing, longest_work_of, size_limit_of, IsSizeIn, AreSizesIn, IsInWindow, behind_worth, IsBehindBy, IsBehindAt, IsReachAt, IsReachOfSizes, IsRaised}
pub use Rattle.break_layers.specs.Rests.{IsMost, rest_worth, IsMostEarned, IsBestRest, IsBestTail, IsBestFrom, IsBestList, LeadsOn, Priced}
pub use Rattle.break_layers.specs.Ways.{way_by, live_stops}
pub use Rattle.break_layers.specs.Windows.{number_in, IsMostIn}
pub use Rattle.break_layers.specs.declared.layers.Layer.{Layer}
pub use Rattle.break_layers.specs.declared.ways.Way.{Way}
pub use Rattle.break_layers.specs.declared.windows.TheConstants.{NOTHING}
