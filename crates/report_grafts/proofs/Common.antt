-- The names that most proofs of this crate cite, passed on from one place. Declares nothing.
pub use Rattle.std.proofs.Common.{◌≡◌, ℕ, zero, suc, ◌+◌, ◌*◌, ◌<◌, ◌≤◌, true, false, ◌==◌, List, [], ◌∷◌, length, refl, sym, ◌∙◌, subst, arith, Option, Some, None, inl, inr, max, cond, ◌&&◌, not, ◌++◌, map, set, ap, append_assoc, ◌^◌, min, Bool, ◌⊎◌, nat_le, nat_lt, ◌-◌, ◌/◌, ◌%◌, ◌||◌, reverse, rules}
pub use Rattle.std.proofs.lemmas.Bool.{false≢true, cases_eq, eq-eqb, ne_eqb, and_parts, and_from, not-true, not-false, cases_Bool, leb-true, le-leb, lt-leb, eqb-true, eqb-false, ltb-true, ltb-false, cond_both, cases_lt, or_left, or_right}
pub use Rattle.std.proofs.lemmas.List.{length-set, length_push, length-append, flat_map_more, append-nil, reverse-append}
pub use Rattle.std.proofs.lemmas.Option.{slice_get_within, slice_get_past, slice_get_read}
pub use Rattle.std.proofs.lemmas.Result.{err_from_is_err_and}
pub use Rattle.std.specs.List.{list_any, AllByRecursion, flat_map}
pub use Rattle.std.specs.Option.{option_map_or, option_and_then, option_or, unwrap_or}
pub use Rattle.std.specs.Prelude.{slice_get, IsSomeAnd, All, IfSome}
pub use Rattle.break_rules.proofs.Lists.{Has-append_cases, Has-flat_map, from_flat_map, Has-below, from_below, all_at, all_from}
pub use Rattle.break_rules.specs.Lists.{Has}
pub use Rattle.cert_check.specs.Judged.{cause_of, IsRefused, bad_line, line_cause, bound_cause, plan_cause}
pub use Rattle.cert_check.specs.declared.judged.Refused.{Refused}
pub use Rattle.cert_check.specs.declared.judged.Refused.TheVariants.{BadSplit, BadPrice, NotSettled, BoundTooHigh, BadPlan, WrongCost, NoMemory}
pub use Rattle.certificate.specs.Accepted.{is_accepted, is_split, node_line, node_of, nodes_after, nodes_of, least_floor, is_bound, is_plan}
pub use Rattle.certificate.specs.declared.Cert.{Cert}
pub use Rattle.certificate.specs.declared.CertStatus.TheVariants.{Optimal, Stopped, Bound}
pub use Rattle.certificate.specs.declared.proof_lines.Line.{Line}
pub use Rattle.certificate.specs.declared.proof_lines.Line.TheVariants.{Split, Priced, Settled}
pub use Rattle.head_splits.proofs.Nodes.{NodesSound, Has-slice_get, from_set, priced_sound, settled_sound, split_sound, floor_at, floor_from, root_sound}
pub use Rattle.head_splits.specs.Bound.{are_prices, bound_of, is_nil}
pub use Rattle.head_splits.specs.Cuts.{meets, class_count, meets_cut, whole_class}
pub use Rattle.head_splits.specs.Nodes.{Node, new_node, child, with_floor, with_split, settled_floor}
pub use Rattle.head_splits.specs.Settled.{is_settled, is_empty, settled_plan}
pub use Rattle.head_splits.specs.declared.Class.{Class}
pub use Rattle.head_splits.specs.declared.Cut.{Cut}
pub use Rattle.head_splits.specs.declared.Side.TheVariants.{AtMost, AtLeast}
pub use Rattle.shift_instance.specs.Problem.{Problem, shift_list, below}
pub use Rattle.shift_instance.specs.Rota.{cost, is_legal_rota, are_legal_rows, heads_on, lists_of, rota_of}
pub use Rattle.shift_instance.specs.declared.Duty.{Duty}
pub use Rattle.shift_instance.specs.declared.Row.{Row}
pub use Rattle.shift_instance.specs.declared.TheConstants.{TOP}
pub use Rattle.report_grafts.specs.Branches.{branches_of, cuts_at, MakeNodes, is_split_at, at_most, at_least, MadeParts, AreBranches}
pub use Rattle.report_grafts.specs.Faults.{HasEnd, IsEndFault, IsExportFault, IsGraftFault, HasOpenEnd, TellsBound}
pub use Rattle.report_grafts.specs.Grafted.{nodes_made, grafted_number, grafted_line, grafted_lines, grafted_plan, found_by, AreGood, status_of}
pub use Rattle.report_grafts.specs.Pins.{pins_on, pins_of_shift, pins_of, HaveSameHeads, PinsFixHeads}
pub use Rattle.report_grafts.specs.Run.{Run, IsSound, divisions, is_division, floor_up_to, IsBest, top, is_finished}
pub use Rattle.report_grafts.specs.declared.branches.Branch.{Branch}
