-- The names that most proofs of this crate cite, passed on from one place. Declares nothing.
pub use Rattle.std.proofs.Common.{◌≡◌, ℕ, ◌+◌, ◌*◌, ℤ, pos, Bool, true, false, cond, ◌||◌, List, [], ◌∷◌, ◌++◌, length, map, replicate, append-nil, Option, Some, None, refl, sym, ap, ◌∙◌, subst, arith, ◌≤◌, neg_ℤ, ◌+ℤ◌, ◌-ℤ◌, ◌*ℤ◌, ◌≤ℤ◌, not, ◌&&◌, ◌==◌, nat_lt, nat_le, min, eq-eqb, zero, suc, ◌^◌, ◌<◌, get_or, FitsSigned, to_z, of_z, take, append_assoc, sum_by, inl, inr, length-append, All, rules}
pub use Rattle.std.proofs.lemmas.Bool.{false≢true, and_from, and_parts, cases_Bool, cases_eq, lt-ltb, ltb-true, leb-true}
pub use Rattle.std.proofs.lemmas.Grind.{flat_map-append}
pub use Rattle.std.proofs.lemmas.Int.{ints, clamps, fits_signed_from_abs, to_z-of_z, unsigned_abs-mul}
pub use Rattle.std.proofs.lemmas.List.{length-map, length-replicate, map-append, take_all, take_more}
pub use Rattle.std.proofs.lemmas.List.Elements.{All-append, All-same}
pub use Rattle.std.proofs.lemmas.List.FromFn.{map-range_with_len_more, length-range_with_len}
pub use Rattle.std.specs.Int.{int_max, int_min}
pub use Rattle.std.specs.Int.RustNames.{unsigned_abs}
pub use Rattle.std.specs.List.{find, flat_map, list_all, zip, list_any, range_with_len}
pub use Rattle.std.specs.Option.{option_map_or, option_to_list}
pub use Rattle.std.specs.Prelude.{int_lt, int_le, unwrap_or}
pub use mir.Syntax.{w64, w128}
pub use Rattle.bound_sums.proofs.Pairs.{pairs_from, pairs_next}
pub use Rattle.bound_sums.proofs.Priced.{slot_small, cut_small}
pub use Rattle.bound_sums.proofs.Sizes.{fits, added, added_small}
pub use Rattle.break_rules.proofs.Lists.{all_from, from_map, Has-below, from_below, any_at, any_some}
pub use Rattle.break_rules.specs.Sums.{greatest, int_sum_by}
pub use Rattle.break_rules.specs.declared.Break.{Break}
pub use Rattle.dual_bound.specs.BestLists.{is_greatest, IsBestOn}
unfoldable pub use Rattle.dual_bound.specs.BestLists.{best_list}
pub use Rattle.dual_bound.specs.Pricer.{Pricing}
pub use Rattle.head_splits.specs.Bound.{are_prices, best_value, free_day_value, is_forced, is_nil, reduced, is_cut_price, is_slot_price}
pub use Rattle.head_splits.specs.Cuts.{low, high, whole_class, class_count}
pub use Rattle.head_splits.specs.declared.Cut.{Cut}
pub use Rattle.head_splits.specs.declared.Prices.{Prices}
pub use Rattle.rota_cost.proofs.Marks.{IsFor, IsMarked, unmarked, marked_skip, marked_more, marked_all}
pub use Rattle.rota_cost.specs.Working.{working}
pub use Rattle.shift_instance.specs.Problem.{Problem, shift_list, below, slots, need_at, need_max_at}
pub use Rattle.shift_instance.specs.Rota.{duty_of, lists_of, rota_of, cover, works}
pub use Rattle.shift_instance.specs.Worth.{price_of}
pub use Rattle.shift_instance.specs.declared.Duty.{Duty}
pub use Rattle.shift_instance.specs.declared.Row.{Row}
pub use Rattle.advisers.specs.Forced.{balance_price, forced_of, forced_on}
unfoldable pub use Rattle.advisers.specs.Forced.{forced_prices, forced_rota}
pub use Rattle.advisers.specs.Rounds.{IsRound, IsSearched, Leads, better, pricing_in, valued_of}
pub use Rattle.advisers.specs.Solutions.{is_chosen, number_of, number_on}
unfoldable pub use Rattle.advisers.specs.Solutions.{duties_of, duties_on, solution}
pub use Rattle.advisers.specs.Subgradient.{brought_into, next_cut_price, next_slot_price, stepped, target_at, step_in, value_in}
unfoldable pub use Rattle.advisers.specs.Subgradient.{first_prices, next_prices, best_prices, greatest_round, prices_in, rounds_made}
pub use Rattle.advisers.specs.declared.rounds.Valued.{Valued}
