-- The names that most proofs of this crate cite, passed on from one place. Declares nothing.
pub use Rattle.std.proofs.Common.{◌≡◌, ◌⊎◌, inl, inr, ℕ, zero, suc, ◌+◌, ◌%◌, ◌*◌, ◌^◌, ◌<◌, ◌≤◌, ℤ, pos, ◌+ℤ◌, ◌-ℤ◌, List, [], ◌∷◌, ◌++◌, length, sym, ap, ◌∙◌, subst, arith, Some, Option, to_z, of_z, get_or, FitsSigned, ◌-◌, Bool, true, false, cond, ◌&&◌, ◌||◌, ◌==◌, not, refl, nat_le, nat_lt, fold, sum_by, take, drop, set, length-append, length-set}
pub use Rattle.std.proofs.Math.Nat.{add-mod, mod-mod}
pub use Rattle.std.proofs.lemmas.Int.{ints, fits_signed_from_abs, to_z-of_z}
pub use Rattle.std.proofs.lemmas.List.{get_or_append_left, get_or_push, get_or-take, get_or-drop, get_or_past, get_or-set_same, get_or-set_other, length-map, length-take, map-append}
pub use Rattle.std.proofs.lemmas.Nat.{mod_below}
pub use Rattle.std.specs.Int.{w64, int_max}
pub use Rattle.std.specs.Int.RustNames.{unsigned_abs}
pub use Rattle.std.specs.Prelude.{IsSomeAnd, slice_get}
pub use Rattle.break_rules.proofs.Sizes.{abs_add, abs_sub}
pub use Rattle.break_rules.specs.declared.Rule.{Rule}
pub use Rattle.shift_instance.specs.Problem.{Problem, day_slots, slots, slot_of, shift_list}
pub use Rattle.shift_instance.specs.Worth.{price_of}
pub use Rattle.shift_instance.specs.declared.Shift.{Shift}
pub use Rattle.price_sums.specs.Along.{sum_at, price_in, AreSmallPrices, AreSums, resumes, earned_from, Completes, ArePricesOf}
pub use Rattle.price_sums.specs.Days.{sums_on, Priced, AreDaySums, AreSumsByDay}
