-- The names that most proofs of this crate cite, passed on from one place. Declares nothing.
pub use Rattle.std.proofs.Common.{◌≡◌, ◌⊎◌, inl, inr, ℕ, zero, suc, ◌+◌, ◌*◌, ◌/◌, ◌%◌, ◌<◌, ◌≤◌, Bool, true, false, not, ◌==◌, nat_lt, List, [], ◌∷◌, ◌++◌, length, get_or, Option, Some, None, refl, sym, ap, ◌∙◌, subst, arith, cond, ◌&&◌, ℤ, pos, ◌+ℤ◌, ◌*ℤ◌, ◌≤ℤ◌, sum_by, neg_ℤ, FitsSigned, to_z, of_z, w64, rules, map}
pub use Rattle.std.proofs.lemmas.Bool.{cases_Bool, ltb-true, lt-ltb, ltb-false, le-ltb, false≢true, MatchBool-at_false, OnFalse_at, MatchBool-at_true}
pub use Rattle.std.proofs.lemmas.Int.{ints, to_z-of_z}
pub use Rattle.std.proofs.lemmas.Nat.{div-mul-add, mod-mul-add, mul-add-lt, div_below, mod_below}
pub use Rattle.std.proofs.lemmas.Result.{IfOk-weaker}
pub use Rattle.std.specs.Bool.{OnFalse}
pub use Rattle.std.specs.Prelude.{slice_get, IfSome, IsTrue, MatchBool, MatchOption, All, unsigned_abs}
pub use Rattle.break_rules.proofs.Causes.{no_cause, none_from_no_cause}
pub use Rattle.break_rules.specs.Causes.{first_cause}
pub use Rattle.break_rules.specs.declared.Break.{Break}
pub use Rattle.greedy.proofs.BestLists.{worth_none, best_found, earned_small, none_at, found_at, best_missing}
pub use Rattle.greedy.proofs.Rounding.{prices_small}
pub use Rattle.greedy.specs.Greedy.{duty, best_list, earned_with, marginal_price, marginal_prices, greedy_rows}
pub use Rattle.greedy.specs.Sizes.{IsWithin}
pub use Rattle.local_moves.proofs.Reshifts.{unused_by_count, pair_parts, used_by_count}
pub use Rattle.local_moves.specs.Drafting.{Drafting}
pub use Rattle.local_moves.specs.Moves.{Answers, AreSameDuties, is_known, pair_causes, move_causes, moved, fee}
pub use Rattle.local_moves.specs.declared.moves.Move.{Move}
pub use Rattle.local_moves.specs.declared.moves.Move.TheVariants.{Add, Drop, Rebreak, Reshift}
pub use Rattle.rota_cost.proofs.Duties.{with_pushed, with_removed, used_same, used_more}
pub use Rattle.rota_cost.specs.Counted.{duties_of}
pub use Rattle.rota_cost.specs.Cover.{without}
pub use Rattle.shift_instance.proofs.Alike.{alike_from_counts, alike_cost}
pub use Rattle.shift_instance.specs.Problem.{Problem, shift_list, slots, below}
pub use Rattle.shift_instance.specs.Rota.{same_duty, count_of, heads_on, is_list_of, is_used, duty_of, rota_of, cost, is_on, works, cover, slot_cost, shifts_used, are_legal_rows}
pub use Rattle.shift_instance.specs.declared.Duty.{Duty}
pub use Rattle.shift_instance.specs.declared.Row.{Row}
pub use Rattle.descents.specs.Descending.{IsNoGain, IsLocalOptimum, IsDutyOptimal, IsBestRebreak, IsOptimalAt, IsPlace, places}
pub use Rattle.descents.specs.Evening.{IsEvenedBy, IsEvener, unevenness, squared_distance}
pub use Rattle.descents.specs.declared.descending.Part.{Part}
pub use Rattle.descents.specs.declared.descending.Part.TheVariants.{Rows, Shifts, Days}
