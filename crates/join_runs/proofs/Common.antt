-- The names that most proofs of this crate cite, passed on from one place. Declares nothing.
pub use Rattle.std.proofs.Common.{◌≡◌, inl, inr, ℕ, ◌+◌, ◌*◌, ◌^◌, ◌<◌, ◌≤◌, nat_le, true, List, [], ◌∷◌, ◌++◌, length, map, cond, refl, sym, ap, ◌∙◌, subst, append_assoc, arith, Option, Some, None, suc, zero, get_or, ◌⊎◌, take, max, ◌&&◌, ◌==◌, not, string_bytes, drop}
pub use Rattle.std.proofs.lemmas.Bool.{and_parts, cases_eq, false≢true, cases_lt, eqb-true}
pub use Rattle.std.proofs.lemmas.List.{append_cancel_left, length-append, length-map, take-append-le, take_at, length_push}
pub use Rattle.std.proofs.lemmas.Option.{slice_get_within}
pub use Rattle.std.specs.List.{list_all, AllByRecursion}
pub use Rattle.std.specs.Option.{option_and_then, option_or, option_map}
pub use Rattle.std.specs.Prelude.{slice_get, IsFalse, IsSomeAnd, IfSome, IsSome, Ok, Err, codes, zip}
pub use Rattle.cert_check.specs.Judged.{bound_cause, cause_of, line_cause, plan_cause}
pub use Rattle.certificate.specs.Accepted.{is_accepted, is_bound, is_plan, least_floor, node_of, nodes_after, nodes_of}
pub use Rattle.certificate.specs.Departing.{Spells}
pub use Rattle.certificate.specs.LineText.{line_text, lines_text, proof_line, HasSlot}
pub use Rattle.certificate.specs.Text.{cert_text, Agrees, AgreesWith, cert_lines, plan_lines, proof_lines, rows_of}
pub use Rattle.certificate.specs.declared.Cert.{Cert}
pub use Rattle.certificate.specs.declared.proof_lines.Line.{Line}
pub use Rattle.check_runs.specs.Check.{IsReportOf, WhyUnjudged, SinkMet, SourceMet}
pub use Rattle.head_splits.specs.Nodes.{Node, new_node, with_floor}
pub use Rattle.head_splits.specs.declared.Cut.{Cut}
pub use Rattle.instance_input.specs.Unread.{IsReadAs}
pub use Rattle.report_grafts.proofs.Lines.{after_append, counted_lines, first_good, one_good, cond_some}
pub use Rattle.report_grafts.proofs.Places.{front_get, set_same, set_other, last_get}
pub use Rattle.report_grafts.proofs.Plans.{tree_of}
pub use Rattle.report_grafts.specs.Grafted.{grafted_line, grafted_lines, grafted_number, nodes_made}
pub use Rattle.report_grafts.specs.Run.{divisions}
pub use Rattle.report_joins.specs.Faults.{Departs, GoesOnAt, IsPartFault, LeavesNode}
pub use Rattle.report_joins.specs.Joined.{AreJoined, GoesOn, IsPart, IsPlanBelow, Joined, JoinsPart, alone, IsJoinedCert}
pub use Rattle.report_joins.specs.Joined.AreJoined.{none, one_more}
pub use Rattle.report_joins.specs.declared.fault.PartFault.{PartFault}
pub use Rattle.report_joins.specs.declared.fault.PartFault.TheVariants.{OtherLines, NothingFurther, NoEnd, OtherNode, OtherPlan, SameNode, TooMany}
pub use Rattle.shift_instance.specs.Problem.{Problem, slots}
pub use Rattle.shift_instance.specs.Valid.{IsValid}
pub use Rattle.join_runs.specs.Running.{AreAllJoined, IsAllJoined, IsPartEnd, IsUnjoined, JoinsReport, Told}
pub use Rattle.join_runs.specs.Runs.{IsJoinedText, AreReportsOf, EndsOver, Explains, IsCauseOf, IsNoPart, Met, EndsWith, HasCommand, PartsMet}
pub use Rattle.join_runs.specs.Status.{EndsBeforeParts}
pub use Rattle.join_runs.specs.Texts.{IsNamedFault, HasPlace, IsNamed, part_text, refused_text, IsNamedRefusal}
pub use Rattle.join_runs.specs.Words.{join_of, Asked}
pub use Rattle.check_runs.specs.Words.{is_file}
pub use Rattle.join_runs.specs.declared.status.JoinStatus.{JoinStatus}
pub use Rattle.join_runs.specs.declared.status.JoinStatus.TheVariants.{Written, Refused, NoPart, Usage, Input, Bundle, ReadFault, WriteFault, NoMemory}
pub use Rattle.join_runs.specs.declared.status.PartCause.{PartCause}
