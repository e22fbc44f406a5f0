-- The names that most proofs of this crate cite, passed on from one place. Declares nothing.
pub use Rattle.std.proofs.Common.{◌≡◌, inl, ℕ, true, List, [], ◌∷◌, drop, refl, sym, subst, suc, ◌+◌, ◌*◌, ◌/◌, ◌%◌, ◌<◌, ◌≤◌, ◌^◌, get_or, take, zero, Bool, false, ◌||◌, length, ap, ◌∙◌, arith, bit_or, if◌then◌else◌, ◌++◌, None, Some, inr, cond, ◌==◌, not, map, replicate, filter, sum_by, eq-eqb, ◌⊎◌, ◌-◌, ◌&&◌, append_assoc, append-nil, Option, MatchOption, slice_get, nat_le, nat_lt, slice_index_or, fold, is_some, ℤ, pos, negsuc, ◌+ℤ◌, ◌-ℤ◌, ◌≤ℤ◌, max, min, ◌*ℤ◌, IsTrue, vec_len}
pub use Rattle.std.proofs.lemmas.Bool.{and_from, false≢true, cases_Bool, cond_both, cases_eq, ne_eqb, and_parts, or_left, or_right, cases_lt, cond-true, cond-false, leb-true, ltb-true, eqb-true, le-ltb, lt-ltb, or_cases, or_from, and_left, and_right, le-leb, or_parts, ltb-false, not-false, cases_cond}
pub use Rattle.std.proofs.lemmas.Int.{ints, clamps}
pub use Rattle.std.proofs.lemmas.List.{at_drop_more, drop_all, length-drop, take_more, drop_more, take-append-drop, at_drop_all, take_all}
pub use Rattle.std.proofs.lemmas.List.Elements.{All-nil, All-cons, recursion_from_All}
pub use Rattle.std.proofs.lemmas.List.Sums.{sum_by-cons, sum_by-append, fold-append}
pub use Rattle.std.proofs.lemmas.Slice.Eq.{slice_eq-Decides, starts_is}
pub use Rattle.std.specs.Bool.{Decides}
pub use Rattle.std.specs.Cmp.Lexicographic.{pointwise}
pub use Rattle.std.specs.List.{list_all, list_any, zip, flat_map, range_with_len, count_by, find, AllByRecursion}
pub use Rattle.std.specs.Prelude.{All, int_lt}
pub use Rattle.break_rules.specs.Breaks.{same_list, is_less_list, is_legal, legal_lists, is_live, total_of, work_periods, works_at, same_break, is_less_break, breaks_between, end_of, begins_with, work_periods_from, keeps_ends, has_work, has_size, is_rested, is_lunched, break_lists, is_lunch, total_in}
pub use Rattle.break_rules.specs.Causes.{first_cause}
pub use Rattle.break_rules.specs.Lists.{Has, Sorted}
pub use Rattle.break_rules.specs.Live.{IsLeastLegal, place_of, AreKnown, AreLive, Setting}
pub use Rattle.break_rules.specs.Next.{IsAt, shortest_of}
pub use Rattle.break_rules.specs.Plain.{plain_rule}
pub use Rattle.break_rules.specs.Ranges.{IsTotal, IsLunch, IsRule}
pub use Rattle.break_rules.specs.RuleFaults.{is_range, has_room, is_large_total, is_large_lunch}
unfoldable pub use Rattle.break_rules.specs.RuleFaults.{rule_causes}
pub use Rattle.break_rules.specs.Walk.{bits_of, may_follow, nexts_of, spot_of, is_walk, end_of_all, breaks_left, is_walk_from, may_end}
pub use Rattle.break_rules.specs.declared.Break.{Break}
pub use Rattle.break_rules.specs.declared.Lunch.{Lunch}
pub use Rattle.break_rules.specs.declared.Rule.{Rule}
pub use Rattle.break_rules.specs.declared.Spot.{Spot}
