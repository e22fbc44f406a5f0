-- The names that most proofs of this crate cite, passed on from one place. Declares nothing.
pub use Rattle.std.proofs.Common.{◌≡◌, ◌⊎◌, inl, inr, ℕ, ◌+◌, ◌<◌, ◌≤◌, Bool, true, false, cond, ◌&&◌, ◌||◌, ◌==◌, not, nat_lt, List, [], ◌∷◌, length, refl, sym, ap, ◌∙◌, subst, arith, get_or, Some, eq-eqb, ◌-◌, heap_items, rules}
pub use Rattle.std.proofs.lemmas.Bool.{false≢true, or_cases, and_from, and_parts, cases_Bool, cases_lt, eqb-true, le-ltb, lt-ltb, ltb-false, ltb-true, or_left, or_right}
pub use Rattle.std.specs.List.{filter, list_all, list_any}
pub use Rattle.std.specs.Prelude.{slice_get}
pub use Rattle.open_nodes.specs.Listed.{has_node, is_before, is_listed, with_entry, Entry, Rises, OpenView}
