-- The names that most proofs of this crate cite, passed on from one place. Declares nothing.
pub use Rattle.std.proofs.Common.{◌≡◌, inl, inr, ℕ, ◌^◌, ◌≤◌, ℤ, ◌≤ℤ◌, ◌<ℤ◌, Bool, true, false, cond, not, List, [], ◌∷◌, length, Option, Some, None, refl, sym, ap, ◌∙◌, subst, arith, ◌&&◌, ◌==◌, map, ◌+◌, nat_le, ◌++◌, ◌<◌, get_or, All, append_assoc, pos, suc, take, set, ◌/◌, zero, ◌*◌, drop, length-append}
pub use Rattle.std.proofs.Math.Seq.{take-suc, set-append_seam, map-set_same}
pub use Rattle.std.proofs.lemmas.Bool.{cases_Bool, false≢true, or_parts, not-false, not_from_true, and_parts, cases_eq, ne_eqb, eq-eqb}
pub use Rattle.std.proofs.lemmas.Int.{ints, to_z-of_z, fits_signed_from_abs}
pub use Rattle.std.proofs.lemmas.List.{get_or_default, map-append, length-map, length-set, get_or-set_other, with_items_is, length-take-le}
pub use Rattle.std.proofs.lemmas.List.Elements.{All-nil, All-cons, All-append, All-tail, All-set, AllWithin-more_set}
pub use Rattle.std.specs.Int.RustNames.{unsigned_abs}
pub use Rattle.std.specs.List.{list_any, find, zip, filter, list_all, enumerate_from, range_with_len, AllWithin}
pub use Rattle.std.specs.Prelude.{int_lt, slice_get, MatchOption, slice_set, Vec, IsTrue, IsSomeAnd, IfOk}
pub use Rattle.std.specs.Vec.{with_items}
pub use Rattle.std.specs.declared.alloc.Global.{Global}
pub use mir.Syntax.{w128, w64}
pub use Rattle.bound_sums.proofs.Pairs.{pairs_from, pairs_next}
pub use Rattle.bound_sums.proofs.Priced.{cut_limit, signed_small, slot_small, cut_small, slots_small}
pub use Rattle.bound_sums.proofs.Sizes.{sum_size, fits}
pub use Rattle.bound_sums.specs.Values.{IsValue, AreValues}
pub use Rattle.break_rules.proofs.Lists.{any_some, any_none, from_map, from_filter, all_at}
pub use Rattle.break_rules.specs.Causes.{first_cause}
pub use Rattle.break_rules.specs.Lists.{Has, Sorted}
pub use Rattle.break_rules.specs.declared.Break.{Break}
pub use Rattle.head_splits.proofs.Best.{reduced_is_worth, best_is_value}
pub use Rattle.head_splits.proofs.Priced.{priced}
pub use Rattle.head_splits.proofs.Walked.{map_ok}
pub use Rattle.head_splits.specs.Bound.{are_prices, entries_of, is_nil, is_slot_price, is_cut_price, signed_price}
pub use Rattle.head_splits.specs.Cuts.{meets, low, high}
pub use Rattle.head_splits.specs.Nodes.{settled_floor}
pub use Rattle.head_splits.specs.Settled.{is_empty, settled_plan, settled_rows, is_live_class}
pub use Rattle.head_splits.specs.Settling.{IsSettle}
pub use Rattle.head_splits.specs.declared.Cut.{Cut}
pub use Rattle.head_splits.specs.declared.Prices.{Prices}
pub use Rattle.price_sums.specs.Days.{Priced}
pub use Rattle.pricing.proofs.Followed.{each_more}
pub use Rattle.pricing.specs.Days.{AreMostByDay, IsMostOn, AreBestByDay, best_at}
pub use Rattle.pricing.specs.Tables.{repriced, Tabled, MeanTheSame}
pub use Rattle.shift_instance.proofs.Rotas.{Has-lists_of, from_lists_of}
pub use Rattle.shift_instance.specs.Problem.{Problem, shift_list, slots, below}
pub use Rattle.shift_instance.specs.Rota.{is_list_of, lists_of, cost, rota_of, are_legal_rows, is_legal_rota, works}
pub use Rattle.shift_instance.specs.Valid.{IsValid}
pub use Rattle.shift_instance.specs.Worth.{worth, IsBest, price_of, earned}
pub use Rattle.dual_bound.specs.BestLists.{is_greatest, value_with, IsBestOn}
unfoldable pub use Rattle.dual_bound.specs.BestLists.{best_list}
pub use Rattle.dual_bound.specs.Faults.{size_causes, slot_causes, cut_causes, cut_cause, slot_cause}
unfoldable pub use Rattle.dual_bound.specs.Faults.{price_causes}
pub use Rattle.dual_bound.specs.KeptTables.{AreKept, AreKeptOrNone, AreKeptBelow, AreTablesBelow, IsKept, IsAt, place_of, AreAllKept}
pub use Rattle.dual_bound.specs.Pricer.{AreBestsOf, AreBests, AreAllBests, IsPriced, Pricing, AreBestsBelow}
pub use Rattle.dual_bound.specs.Proved.{Proving, IsProved}
pub use Rattle.dual_bound.specs.Settling.{IsPlan, Settling, IsSettledNode}
pub use Rattle.dual_bound.specs.declared.day_tables.DayTables.{DayTables}
