-- The names that most proofs of this crate cite, passed on from one place. Declares nothing.
pub use Rattle.std.proofs.Common.{◌≡◌, ℕ, zero, suc, ◌+◌, ◌<◌, List, [], ◌∷◌, ◌++◌, length, map, take, get_or, refl, sym, ◌∙◌, ap, subst, arith, ◌⊎◌, inl, inr, ℤ, ◌-◌, ◌^◌, ◌≤◌, Bool, true, false, cond, ltb, Result, Ok, Err, length-append, negsuc, pos, eqb, drop, append_assoc, length-take}
pub use Rattle.std.proofs.lemmas.Bool.{ltb-true, ne_eqb, cases_eq, eq-eqb, eqb-true, cases_lt, lt-ltb, le-ltb, ltb-false}
pub use Rattle.std.proofs.lemmas.Grind.{common_steps}
pub use Rattle.std.proofs.lemmas.List.{append-nil, map_more, take_at, take_all, drop_at, take-append-drop, get_or-drop, get_or-take, get_or_past}
pub use Rattle.std.proofs.lemmas.List.Concat.{flat_map-append, flat_map-cons}
pub use Rattle.std.proofs.lemmas.List.Elements.{All-from_recursion, recursion_from_All, All-more}
pub use Rattle.std.proofs.lemmas.Result.{err_from_is_err_and}
pub use Rattle.std.specs.Int.{w16, w32, w64, from_le_bytes}
pub use Rattle.std.specs.List.{AllZip, flat_map, AllByRecursion}
pub use Rattle.std.specs.Prelude.{Vec, IfErr, IfOk, All}
pub use Rattle.std.specs.declared.alloc.Global.{Global}
pub use Rattle.post_codec.specs.Fields.{break_fields, breaks_fields, row_fields, rows_fields, class_fields, slots_fields, cuts_fields, prices_fields, post_fields, posts_fields, bytes_of, AreFirstFields, DepartAt, IsFaultOf, GivesPosts}
pub use Rattle.post_codec.specs.Reading.{Reader, ◌then◌, byte_at, number_at, to_break, to_row, to_class, to_slot, price_at, to_prices, to_plan, to_priced, to_split, to_settled, ended, by_offset, whole, reading, IsRead, ◌>>=◌, made, counted, sized_at, Stops}
unfoldable pub use Rattle.post_codec.specs.Reading.{break_at, breaks_at, row_at, rows_at, class_at, slot_at, slots_at, cuts_at, prices_at, plan_at, priced_at, split_at, settled_at, post_at, posts_at, times}
pub use Rattle.post_codec.specs.Spelling.{SpellsBy, EachSpellsOnce, break_bytes, breaks_bytes, row_bytes, rows_bytes, class_bytes, bytes_in, room, twos_complement, slot_bytes, slots_bytes, cuts_bytes, prices_bytes, post_bytes, spelling_by, FitsBreak, FitsBreaks, FitsRow, FitsRows, FitsClass, FitsSlot, FitsCut, FitsSlots, FitsCuts, FitsPrices, FitsPost, FitsPosts, spelling, half}
unfoldable pub use Rattle.post_codec.specs.Spelling.{u16_bytes, u32_bytes, u64_bytes, price_bytes}
pub use Rattle.post_codec.specs.declared.fault.CodecFault.{CodecFault}
pub use Rattle.post_codec.specs.declared.post.Post.{Post}
pub use Rattle.post_codec.specs.declared.post.Post.TheVariants.{Plan, Priced, Split, Settled}
pub use Rattle.post_codec.specs.declared.price_width.PriceWidth.{PriceWidth}
pub use Rattle.post_codec.specs.declared.price_width.PriceWidth.TheVariants.{Five, Eight}
