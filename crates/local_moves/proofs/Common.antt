-- The names that most proofs of this crate cite, passed on from one place. Declares nothing.
pub use Rattle.std.proofs.Common.{◌≡◌, ◌⊎◌, inl, inr, ℕ, ◌+◌, ◌<◌, ◌≤◌, Bool, true, false, cond, not, ◌&&◌, ◌==◌, nat_lt, List, [], ◌∷◌, ◌++◌, Option, Some, refl, sym, ap, ◌∙◌, subst, arith, eqb-true, eq-eqb, zero, suc, length, get_or, take, drop, set, add-one, ◌||◌, map, ◌*◌, replicate, append_assoc, append-nil, max, filter, None, ◌-◌, ◌/◌, ◌%◌, nat_le, IfOk, rules, vec_capacity, vec_len}
pub use Rattle.std.proofs.lemmas.Bool.{and_parts, and_from, cases_Bool, ltb-true, ltb-false, false≢true, cases_lt, ne_eqb, lt-ltb, le-ltb, or_cases, or_left, or_right, cases_eq, le-leb}
pub use Rattle.std.proofs.lemmas.List.{length-map, length-append, length-replicate, get_or-set_same, get_or-set_other, get_or_read}
pub use Rattle.std.proofs.lemmas.List.Sums.{sum_by-cons, sum_by_push}
pub use Rattle.std.proofs.lemmas.Nat.{mul-add-lt, div-mul-add, mod-mul-add}
pub use Rattle.std.proofs.lemmas.Option.{slice_get_read}
pub use Rattle.std.specs.List.{count_by, list_all, zip}
pub use Rattle.std.specs.Prelude.{slice_get, unwrap_or, MatchResult, OnOk}
pub use Rattle.break_rules.proofs.Causes.{no_cause}
pub use Rattle.break_rules.proofs.Counts.{count_by-append, count_by-replicate, count_by_at_most, count_by_none, count_by_same, count_by-map, any_by_count, any_from_count, all_by_count, all_from_count, Has-from_count}
pub use Rattle.break_rules.proofs.Lists.{Has-append_cases, from_map, Has-below, from_filter, all_from, all_at, any_some, any_at}
pub use Rattle.break_rules.specs.Breaks.{is_legal, same_break, is_less_break, is_less_list}
pub use Rattle.break_rules.specs.Causes.{first_cause}
pub use Rattle.break_rules.specs.Lists.{Has, Sorted}
pub use Rattle.break_rules.specs.declared.Break.{Break}
pub use Rattle.greedy.proofs.Growing.{few_duties, draft_add, rows_room}
pub use Rattle.greedy.proofs.PlanRows.{rows_alike, rows_legal, rota_costs}
pub use Rattle.greedy.proofs.RowSteps.{rows_more, alike_is}
pub use Rattle.greedy.specs.Drafts.{IsDraft, with_one_more, heads_at}
pub use Rattle.greedy.specs.Greedy.{rows_of, duty}
pub use Rattle.rota_cost.proofs.Counting.{legal_rows_parts, row_duty}
pub use Rattle.rota_cost.proofs.Coverage.{costs_below, split_count}
pub use Rattle.rota_cost.proofs.Duties.{with_pushed, with_removed, IsWith}
pub use Rattle.rota_cost.specs.Counted.{duties_of}
pub use Rattle.rota_cost.specs.Cover.{without, Covering}
pub use Rattle.shift_instance.proofs.Alike.{same_duty_decides, AreAlike, alike_legal, alike_from_counts}
pub use Rattle.shift_instance.proofs.Rotas.{heads_within, legal_duties, from_lists_of, legal_duty_parts}
pub use Rattle.shift_instance.proofs.Shifts.{some_at, Has_at, kind_of}
pub use Rattle.shift_instance.specs.AllDuties.{row_of}
pub use Rattle.shift_instance.specs.Problem.{Problem, shift_list, below}
pub use Rattle.shift_instance.specs.Rota.{same_duty, count_of, is_on, heads_on, is_list_of, is_legal_duty, is_legal_rota, are_legal_rows, rota_of, duty_of, cost, cover, works, is_before, is_used, lists_of}
pub use Rattle.shift_instance.specs.declared.Duty.{Duty}
pub use Rattle.shift_instance.specs.declared.Row.{Row}
pub use Rattle.local_moves.specs.Changes.{is_place, are_distinct, IsDone, IsTied, with_place, with_places, completed}
pub use Rattle.local_moves.specs.Drafting.{Drafting, IsExchanged}
pub use Rattle.local_moves.specs.Moves.{Answers, AreSameDuties, of_shift, list_after, reshifted, is_known, greatest, most_heads, pair_causes, heads_causes, move_causes, moved}
pub use Rattle.local_moves.specs.Places.{IsBefore, AreBefore, IsNotBefore, with_one_less}
pub use Rattle.local_moves.specs.declared.changes.Change.{Change}
pub use Rattle.local_moves.specs.declared.moves.Move.TheVariants.{Add, Drop, Rebreak}
pub use Rattle.local_moves.specs.declared.moves.MoveFault.TheVariants.{UnknownShift, Day, Breaks, Absent, HeadsOver, OtherKind, NotNear, NoMemory}
