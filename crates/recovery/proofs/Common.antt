-- The names that most proofs of this crate cite, passed on from one place. Declares nothing.
pub use Rattle.std.proofs.Common.{◌≡◌, ◌∙◌, ℕ, ℤ, List, ap, ◌⊎◌, inl, inr, zero, suc, ◌+◌, ◌-◌, ◌*◌, ◌/◌, ◌%◌, ◌<◌, ◌≤◌, Bool, true, false, cond, ◌&&◌, ◌==◌, nat_lt, [], ◌∷◌, ◌++◌, length, fold, reverse, refl, sym, subst, append_assoc, arith, Option, Some, map, take, drop, get_or, Vec, Global, max, not, nat_le, None, set, rules}
pub use Rattle.std.proofs.lemmas.Bool.{eqb-true, eqb-false, lt-ltb, and_from, false≢true, le-leb, and_parts, ltb-true}
pub use Rattle.std.proofs.lemmas.List.{length-append, append-nil, take_all, take_more, map_more, map-append, length-map, take-map}
pub use Rattle.std.proofs.lemmas.List.Elements.{same_from_all_zip, All-from_recursion, recursion_from_All}
pub use Rattle.std.proofs.lemmas.List.Sums.{fold-append}
pub use Rattle.std.proofs.lemmas.Option.{get_or_from_slice_get, slice_get_read, slice_get_within}
pub use Rattle.std.specs.List.{AllZip, AllByRecursion}
pub use Rattle.std.specs.Option.{option_map_or, option_and_then}
pub use Rattle.std.specs.Prelude.{slice_get, IfErr, IfOk, IsSomeAnd, MatchResult, Result, Ok, Err, IfSome, IsSome, IsTrue, All}
pub use Rattle.head_splits.specs.Bound.{are_prices, bound_of}
pub use Rattle.head_splits.specs.Cuts.{low, high}
pub use Rattle.head_splits.specs.Nodes.{settled_floor, with_floor, with_split, Node, child}
pub use Rattle.head_splits.specs.Settled.{is_live_class, is_settled}
pub use Rattle.head_splits.specs.declared.Class.{Class}
pub use Rattle.head_splits.specs.declared.Cut.{Cut}
pub use Rattle.head_splits.specs.declared.Prices.{Prices}
pub use Rattle.post_codec.proofs.Batches.{none_spelled, spell_next}
pub use Rattle.post_codec.proofs.Formats.{one_list_by}
pub use Rattle.post_codec.specs.Batches.{joined, SpellPostsBy}
pub use Rattle.post_codec.specs.Spelling.{SpellsBy, CanSpellPost, CountsFitRow, FitsPost, FitsRow, Spells, EachSpellsOnce}
pub use Rattle.post_codec.specs.declared.fault.CodecFault.TheVariants.{Departs}
pub use Rattle.post_codec.specs.declared.post.Post.{Post}
pub use Rattle.post_codec.specs.declared.post.Post.TheVariants.{Plan, Priced, Settled, Split}
pub use Rattle.post_codec.specs.declared.price_width.PriceWidth.{PriceWidth}
pub use Rattle.post_codec.specs.declared.price_width.PriceWidth.TheVariants.{Five, Eight}
pub use Rattle.search_core.proofs.Closed.{after_parts}
pub use Rattle.search_core.proofs.Runs.{book_after-append}
pub use Rattle.search_core.proofs.Sound.{at_node_some, bind_some, cond_some}
pub use Rattle.search_core.proofs.Taking.{Taking, not_next, taking_more, taking_stops}
pub use Rattle.search_core.specs.Book.{Book, opening, at_node, is_open, priced, settled, step, book_after, book_of, is_better}
pub use Rattle.search_core.specs.State.{StateView, value_of}
pub use Rattle.search_core.specs.Taking.{Takes, IsRefused}
pub use Rattle.shift_instance.specs.Problem.{Problem}
pub use Rattle.shift_instance.specs.Valid.{IsValid}
pub use Rattle.recovery.specs.CutTree.{cut_of, nodes_in, AreOlder}
pub use Rattle.recovery.specs.Findings.{AreFoundIn, is_ready, Divides, IsBound, IsFoundAt, IsFoundIn, IsSettledAt}
pub use Rattle.recovery.specs.Folding.{fault_at, RecordStops, TakesRecord}
pub use Rattle.recovery.specs.Migrating.{CanRespell, SpellSame}
pub use Rattle.recovery.specs.NodeCuts.{cuts_at, divided, with_parts, nodes_of, nodes_after}
pub use Rattle.recovery.specs.Reads.{all_posts, posts_in, AreAllFound, AreReads, IsReadOf, Outcome}
pub use Rattle.recovery.specs.Records.{MakeBookBy, MakeBook}
pub use Rattle.recovery.specs.Refusals.{RefusesBy, IsCause, IsFirstRejectedBy}
pub use Rattle.recovery.specs.declared.cut_tree.Division.{Division}
pub use Rattle.recovery.specs.declared.fault.RebuildFault.{RebuildFault}
pub use Rattle.recovery.specs.declared.fault.RebuildFault.TheVariants.{NoMemory, Rejected}
pub use Rattle.recovery.specs.declared.fault.Why.{Why}
pub use Rattle.recovery.specs.declared.fault.Why.TheVariants.{Codec, Step}
