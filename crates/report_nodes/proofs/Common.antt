-- The names that most proofs of this crate cite, passed on from one place. Declares nothing.
pub use Rattle.std.proofs.Common.{◌≡◌, inl, inr, ℕ, zero, suc, ◌+◌, ◌*◌, ◌<◌, ◌≤◌, ◌^◌, max, Bool, true, false, cond, ◌&&◌, not, List, [], ◌∷◌, ◌++◌, length, get_or, drop, set, refl, sym, ap, ◌∙◌, subst, append_assoc, arith, Option, Some, None, rules, fold, min, take}
pub use Rattle.std.specs.Option.{option_and_then, option_map, option_map_or}
pub use Rattle.std.specs.Prelude.{slice_get, IsSomeAnd}
pub use Rattle.certificate.specs.Accepted.{is_accepted, is_split, node_line, node_of, nodes_after}
pub use Rattle.certificate.specs.declared.proof_lines.Line.{Line}
pub use Rattle.head_splits.specs.Nodes.{Node, new_node, child, with_floor, with_split}
pub use Rattle.head_splits.specs.declared.Side.TheVariants.{AtMost, AtLeast}
pub use Rattle.report_nodes.specs.Listed.{is_open, listed, top_of}
unfoldable pub use Rattle.report_nodes.specs.Listed.{open_from}
pub use Rattle.report_nodes.specs.declared.listing.OpenNode.{OpenNode}
