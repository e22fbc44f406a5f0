-- The names that most proofs of this crate cite, passed on from one place. Declares nothing.
pub use Rattle.std.proofs.Common.{◌≡◌, inl, inr, ℕ, zero, suc, ◌+◌, ◌*◌, ◌<◌, ◌≤◌, true, ◌&&◌, List, [], ◌∷◌, length, take, drop, get_or, replicate, refl, sym, ap, ◌∙◌, subst, arith, sum_by, nat_lt, ◌-◌, ◌^◌, Bool, false, cond, ◌==◌, ◌++◌, append-nil, set, eq-eqb, length-set, get_or-set_same, get_or-set_other, ◌/◌, ◌%◌, count_by, Option, Some, None, ◌||◌, nat_le, append_assoc, add-one, rules}
pub use Rattle.std.proofs.Math.Nat.{mul-le-mul, mul-le-mul_left, mul-le-mul_right}
pub use Rattle.std.proofs.lemmas.Bool.{and_parts, false≢true, cases_eq, ne_eqb, and_from, lt-ltb, le-ltb, eqb-true, cases_Bool, cases_order, and_right, and_left, le-leb, ltb-true, ltb-false, not-false, not_from_true, or_cases, cases_lt}
pub use Rattle.std.proofs.lemmas.List.{take_all, get_or-replicate, length-replicate, drop_all, take_more}
pub use Rattle.std.proofs.lemmas.List.Folds.{list_all-append, list_any-append}
pub use Rattle.std.proofs.lemmas.List.FromFn.{length-range_with_len}
pub use Rattle.std.proofs.lemmas.List.Sums.{sum_by_more, sum_by_more_le, count_by-le-length, sum_by-cons, sum_by_push, sum_by-append}
pub use Rattle.std.proofs.lemmas.Nat.{mul-add-lt, div-mul-add, mod-mul-add}
pub use Rattle.std.proofs.raw_atomic.Walks.{proved}
pub use Rattle.std.specs.List.{list_all, zip, list_any}
pub use Rattle.std.specs.Option.{option_map_or, option_or}
pub use Rattle.std.specs.Prelude.{slice_get, IsSomeAnd, Result, Ok, Err, MatchResult, IsOk, IsTrue, ◌↔◌}
pub use base.Fml.{ftrue}
pub use denote.Builtin.{RefOf}
pub use denote.Exit.{yes}
pub use denote.RattleType.{Valss, owns}
pub use denote.Ref.{shr_vals, shr_Tells}
pub use denote.Signature.{plain, types_at}
pub use denote.Steps.{nothing}
pub use denote.Struct.Struct.{within}
pub use denote.Triple.Entry.{alive}
pub use denote.Triple.Walked.{Stays, walk_of, says, stay_dropped, Goes-dropped, ends_at}
pub use mir.Syntax.{named}
pub use mir.Val.{Val, vstruct, vnil}
pub use types.ByLocal.{alloc_all, pass_all, free_all, look_at, sets}
pub use types.Kit.{‵, raw, ◌⊛◌, ◌$◌, ◌∵◌, !, qed, done, keep, move, split, fjoin, fpack, feq_i, suffices}
pub use types.Part.{agg}
pub use types.Run.{enter, no_more, returns}
pub use Rattle.break_rules.proofs.Counts.{sum_by_same, count_by_none, any_by_count, any_from_count, count_by_at_most, count_by_same, count_by-below}
pub use Rattle.break_rules.proofs.Lists.{Has-flat_map, all_at, from_below, any_at, Has-below, any_some, any_none, same_tests, Has-append_right, all_from}
pub use Rattle.break_rules.specs.Breaks.{works_at, is_less_list}
pub use Rattle.break_rules.specs.Lists.{Has}
pub use Rattle.break_rules.specs.declared.Rule.{Rule}
pub use Rattle.shift_instance.proofs.Alike.{same_duty_decides, alike_cost, alike_from_counts}
pub use Rattle.shift_instance.proofs.Offsets.{same_offset}
pub use Rattle.shift_instance.proofs.Ranges.{any_below_more, sum_below_more}
pub use Rattle.shift_instance.proofs.Rotas.{legal_duties, LegalDuty, heads_within}
pub use Rattle.shift_instance.proofs.RowCounts.{cover_rows, heads_rows, any_rows}
pub use Rattle.shift_instance.proofs.Shifts.{Has_at, shift_within, some_at, is_some_and_at, shift_short}
pub use Rattle.shift_instance.specs.Problem.{Problem, shift_list, slots, below, day_slots, slot_of, need_at, need_max_at}
pub use Rattle.shift_instance.specs.Rota.{is_legal_rota, rota_of, duty_of, cover, slot_cost, shifts_used, cost, are_legal_rows, is_before, count_of, works, is_used, is_on, heads_on, same_duty, is_list_of, is_legal_duty}
pub use Rattle.shift_instance.specs.Valid.{IsValid}
pub use Rattle.shift_instance.specs.declared.Duty.{Duty}
pub use Rattle.shift_instance.specs.declared.Row.{Row}
pub use Rattle.shift_instance.specs.declared.Shift.{Shift}
pub use Rattle.rota_cost.specs.Counted.{IsCounted, changed, duties_of, shift_cost, slots_cost}
pub use Rattle.rota_cost.specs.Cover.{without, Covering}
pub use Rattle.rota_cost.specs.RowFaults.{heads_of, is_in_order, row_causes, fault_from, row_fault}
pub use Rattle.rota_cost.specs.Run.{IsLater, IsRun}
pub use Rattle.rota_cost.specs.Working.{working}
pub use Rattle.rota_cost.specs.contracts.covered.Covered.{the_row, the_type}
