-- The names that most proofs of this crate cite, passed on from one place. Declares nothing.
pub use Rattle.std.proofs.Common.{◌≡◌, ◌⊎◌, ℕ, ◌<◌, ◌≤◌, Bool, true, false, ◌&&◌, nat_le, List, [], ◌∷◌, refl, sym, ap, ◌∙◌, subst, arith, Option, Some, None, zero, suc, ◌+◌, ◌*◌, max, cond, not, ◌++◌, length, map, set, append_assoc, inl, inr, ◌^◌, nat_lt, ◌==◌, ◌≢◌, take, get_or, ◌-◌, ◌/◌, rules}
pub use Rattle.std.proofs.lemmas.Bool.{and_from, and_parts, cases_Bool, le-leb, leb-true, lt-leb, ne_eqb, cond_both, eq-eqb, eqb-true, false≢true}
pub use Rattle.std.proofs.lemmas.Bool.Decides.{Decides-eqb, Decides-int_eq}
pub use Rattle.std.proofs.lemmas.List.{append-nil, length-set, length-append, length-map, map-append}
pub use Rattle.std.proofs.lemmas.Option.{slice_get_within}
pub use Rattle.std.proofs.lemmas.Result.{err_from_is_err_and}
pub use Rattle.std.proofs.lemmas.Slice.Eq.{slice_eq-Decides}
pub use Rattle.std.specs.List.{list_any, AllByRecursion}
pub use Rattle.std.specs.Option.{option_map, option_map_or, option_and_then, unwrap_or}
pub use Rattle.std.specs.Prelude.{IsFalse, IsTrue, slice_get, IsSomeAnd, All}
pub use Rattle.break_rules.specs.Lists.{Has}
pub use Rattle.certificate.specs.Accepted.{is_accepted, is_bound, is_plan, least_floor, nodes_of, is_split, node_line, node_of, nodes_after}
pub use Rattle.certificate.specs.KeptLines.{Reads}
pub use Rattle.certificate.specs.declared.Cert.{Cert}
pub use Rattle.certificate.specs.declared.proof_lines.Line.{Line}
pub use Rattle.certificate.specs.declared.proof_lines.Line.TheVariants.{Split, Priced, Settled}
pub use Rattle.head_splits.proofs.Nodes.{root_sound, Has-slice_get}
pub use Rattle.head_splits.specs.Nodes.{Node, new_node, child, with_floor, with_split, settled_floor}
pub use Rattle.report_grafts.proofs.Grafts.{branches_few, branches_number, fit_rest, grafted_more}
pub use Rattle.report_grafts.proofs.Lines.{after_append, counted_lines, FloorsFrom, floors_of, least_from, least_top, lines_from, lines_sound, named_lines}
pub use Rattle.report_grafts.proofs.Places.{front_get, set_same, set_other}
pub use Rattle.report_grafts.proofs.Plans.{found_is, made_is, accepted_agrees}
pub use Rattle.report_grafts.specs.Branches.{branches_of}
pub use Rattle.report_grafts.specs.Grafted.{grafted_line, grafted_lines, grafted_number, nodes_made, status_of}
pub use Rattle.report_grafts.specs.Run.{divisions}
pub use Rattle.report_nodes.specs.Made.{with_below, HasRoom}
pub use Rattle.shift_instance.specs.Problem.{Problem}
pub use Rattle.shift_instance.specs.declared.Row.{Row}
pub use Rattle.report_joins.specs.Faults.{IsEnd, IsLineFault, IsPartFault, IsReadFault, IsRefusal, Departs, GoesOnAt, IsElsewhere, LeavesNode}
pub use Rattle.report_joins.specs.Joined.{Joined, GoesOn, IsJoinedCert, IsJoining, IsPart, IsPlanBelow, JoinsPart, alone, cheaper_plan, with_part}
pub use Rattle.report_joins.specs.Numbers.{with_node}
pub use Rattle.report_joins.specs.Runs.{IsReadPart, IsRunOf, MakesBelow, IsDeparture, IsLeft, LeavesRun}
pub use Rattle.report_joins.specs.declared.fault.PartFault.{PartFault}
pub use Rattle.report_joins.specs.declared.fault.PartFault.TheVariants.{Refused, OtherLines, NothingFurther, NoEnd, OtherNode, OtherPlan, SameNode, TooMany, NoMemory}
