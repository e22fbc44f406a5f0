-- The names that most proofs of this crate cite, passed on from one place. Declares nothing.
pub use Rattle.std.proofs.Common.{◌≡◌, ◌⊎◌, inl, inr, ℕ, ◌+◌, ◌<◌, ◌≤◌, Bool, true, cond, nat_le, List, [], ◌∷◌, length, refl, sym, ap, ◌∙◌, subst, arith, Option, Some, None, ◌*◌, ◌^◌, leb, ◌&&◌, Result, Err, mul-le-mul_right, mul_assoc, mul_comm, false, min, ◌==◌, zero, suc, ◌++◌, map, max, not, Vec, Global, take, string_bytes}
pub use Rattle.std.proofs.lemmas.Bool.{and_parts, false≢true, leb-true, eqb-true, cond_both}
pub use Rattle.std.proofs.lemmas.List.{length-append, length-map, length_push}
pub use Rattle.std.specs.List.{list_all, flat_map, range_with_len, AllByRecursion}
pub use Rattle.std.specs.Option.{option_map, option_and_then, option_or, option_map_or}
pub use Rattle.std.specs.Prelude.{slice_get, IfSome, IsFalse, IsSome, IsSomeAnd, IsTrue, Ok, codes, zip}
pub use Rattle.certificate.specs.Accepted.{is_accepted, is_bound, is_plan, least_floor, nodes_after, nodes_of}
pub use Rattle.certificate.specs.Departing.{Spells}
pub use Rattle.certificate.specs.LineText.{line_text, lines_text, proof_line, HasSlot, break_text, row_line}
pub use Rattle.certificate.specs.Text.{cert_lines, plan_lines, proof_lines, rows_of, Agrees, AgreesWith}
pub use Rattle.certificate.specs.declared.Cert.{Cert}
pub use Rattle.certificate.specs.declared.proof_lines.Line.{Line}
pub use Rattle.check_runs.specs.Check.{IsReportOf, Met, WhyUnjudged, SinkMet, SourceMet}
pub use Rattle.head_splits.proofs.Walked.{map_ok}
pub use Rattle.head_splits.specs.Bound.{is_nil, are_prices, bound_of, is_slot_price, is_cut_price}
pub use Rattle.head_splits.specs.Nodes.{Node, new_node, with_floor}
pub use Rattle.head_splits.specs.declared.Cut.{Cut}
pub use Rattle.report_grafts.proofs.Lines.{first_good, one_good, cond_some}
pub use Rattle.report_grafts.proofs.Plans.{tree_of, made_is}
pub use Rattle.report_grafts.specs.Faults.{HasOpenEnd, IsExportFault, IsGraftFault}
pub use Rattle.report_grafts.specs.Grafted.{nodes_made, grafted_line, grafted_lines}
pub use Rattle.report_grafts.specs.Pins.{pins_of, pins_of_shift, pins_on}
pub use Rattle.report_grafts.specs.Run.{Run, is_finished, IsSound, top, IsBest, divisions}
pub use Rattle.report_grafts.specs.declared.fault.GraftFault.{GraftFault}
pub use Rattle.report_grafts.specs.declared.fault.GraftFault.TheVariants.{NoNode, IsSplit, OtherCuts, NoRows}
pub use Rattle.shift_instance.specs.Problem.{Problem, shift_list, below, slots}
pub use Rattle.shift_instance.specs.Rota.{are_legal_rows, cost, is_legal_rota, rota_of, heads_on, lists_of}
pub use Rattle.shift_instance.specs.Valid.{IsValid}
pub use Rattle.shift_instance.specs.declared.Row.{Row}
pub use Rattle.shift_instance.specs.declared.TheConstants.{TOP}
pub use Rattle.subtree_search.proofs.Sound.{steps_hold}
pub use Rattle.subtree_search.specs.Stepping.{IsGreedyRun, IsSearched}
pub use Rattle.graft_runs.specs.Running.{EndsWith, Told}
pub use Rattle.graft_runs.specs.Runs.{Ends, EndsOver, Explains, IsFaultOf, ReadsInstance, Writes, limit_of, GrowsBelow, GrowsGreedily, IsGrownText, IsSearch, ArePlannedAnew, CostsAtLeast, IsPlannedAnew}
pub use Rattle.graft_runs.specs.Texts.{IsNamed, fault_text, breaks_lines, open_line}
pub use Rattle.graft_runs.specs.Words.{request_of, is_number, Asked}
pub use Rattle.graft_runs.specs.declared.status.GraftStatus.{GraftStatus}
pub use Rattle.graft_runs.specs.declared.status.GraftStatus.TheVariants.{Written, Refused, Usage, Input, Bundle, ReadFault, WriteFault, NoMemory}
pub use Rattle.graft_runs.specs.declared.words.Command.{Command}
