-- The names that most proofs of this crate cite, passed on from one place. Declares nothing.
pub use Rattle.std.proofs.Common.{◌≡◌, ◌⊎◌, inl, inr, ℕ, ◌+◌, ◌*◌, ◌<◌, ◌≤◌, ℤ, pos, ◌≤ℤ◌, Bool, true, false, cond, List, [], ◌∷◌, length, set, get_or, refl, sym, ◌∙◌, subst, arith, Option, Some, None, suc, drop, ap, ◌+ℤ◌, zero, neg_ℤ, not, ◌||◌, ◌==◌, nat_le, All, ◌-ℤ◌, ◌*ℤ◌, ◌^◌, FitsSigned, to_z, of_z, ◌&&◌, fold, ◌-◌, map, length-set, nat_lt}
pub use Rattle.std.proofs.Math.Nat.{mul-le-mul}
pub use Rattle.std.proofs.lemmas.Bool.{false≢true, cases_eq, cases_lt, and_parts, leb-true, or_parts, eqb-true}
pub use Rattle.std.proofs.lemmas.Bool.Decides.{Decides-int_eq}
pub use Rattle.std.proofs.lemmas.Int.{ints, fits_signed_from_abs, to_z-of_z}
pub use Rattle.std.proofs.lemmas.List.Elements.{All-from_get_or}
pub use Rattle.std.proofs.lemmas.Slice.Eq.{slice_eq-Decides}
pub use Rattle.std.specs.Int.{int_max, int_min}
pub use Rattle.std.specs.Int.RustNames.{unsigned_abs}
pub use Rattle.std.specs.List.{zip, list_all, list_any}
pub use Rattle.std.specs.Prelude.{slice_get, MatchOption, is_some, int_le}
pub use mir.Syntax.{w128, w64}
pub use Rattle.break_rules.proofs.Sizes.{abs_within, abs_add}
pub use Rattle.break_rules.proofs.Sums.{int_sum_by-cons, int_sum_by-same}
pub use Rattle.break_rules.specs.Breaks.{same_list, works_at, begins_with}
pub use Rattle.break_rules.specs.Sums.{int_sum_by, greatest}
pub use Rattle.break_rules.specs.declared.Rule.{Rule}
pub use Rattle.head_splits.proofs.Priced.{le_from_test, priced}
pub use Rattle.head_splits.specs.Bound.{is_nil, signed_price, is_slot_price, is_cut_price, are_prices, is_forced, day_value, free_day_value, term, bonus, reduced, cut_worth, worth_at, slot_worth}
pub use Rattle.head_splits.specs.Cuts.{low, high, whole_class, raised, lowered, least_high, same_class}
pub use Rattle.head_splits.specs.declared.Cut.{Cut}
pub use Rattle.head_splits.specs.declared.Prices.{Prices}
pub use Rattle.price_sums.specs.Along.{sum_at, AreSmallPrices, price_in}
pub use Rattle.price_sums.specs.Days.{sums_on, AreSumsByDay, Priced}
pub use Rattle.shift_instance.proofs.Ranges.{int_sum_below_more, any_below_more}
pub use Rattle.shift_instance.specs.Problem.{Problem, day_slots, shift_list, slot_of, slots, below}
pub use Rattle.shift_instance.specs.Rota.{lists_of, works}
pub use Rattle.shift_instance.specs.Valid.{IsValid}
pub use Rattle.shift_instance.specs.Worth.{price_of, earned}
pub use Rattle.shift_instance.specs.declared.Shift.{Shift}
pub use Rattle.bound_sums.specs.Kept.{has_prefix_cut, IsKept, mark, AreMarks, of_slots, KeepsEach}
pub use Rattle.bound_sums.specs.Values.{AreValues, IsValue}
