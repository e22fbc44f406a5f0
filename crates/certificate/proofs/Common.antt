-- The names that most proofs of this crate cite, passed on from one place. Declares nothing.
pub use Rattle.std.proofs.Common.{◌≡◌, ℕ, ◌≤◌, max, Bool, true, false, cond, ◌&&◌, not, List, [], ◌∷◌, refl, subst, arith, nat_le, Option, Some, None, ◌<◌, ◌++◌, length, sym, ap, ◌∙◌, append_assoc, inl, inr, ◌-◌, ◌^◌, map, option_map, codes, eqb, get_or, le_refl, ◌+◌, take, Result, Ok, Err, length-append, zero, suc, leb, ℤ, pos, neg_ℤ, ◌*◌, ◌/◌, ◌%◌, drop, FitsSigned, ltb, drop-cons, negsuc, string_bytes, rules}
pub use Rattle.std.proofs.lemmas.Bool.{and_parts, leb-true, eqb-true, not-true, false≢true, cases_lt, ltb-true, lt-ltb, eq-eqb, cases_Bool, le-ltb, ne_eqb, eqb-false, le-leb, and_from, ltb-false}
pub use Rattle.std.proofs.lemmas.Fmt.{decimal_is_IsNumeral, decimal_digit, first_decimal, decimal-digits_value, parse-decimal, IsAscii-decimal, decimal_step, decimal_nonempty}
pub use Rattle.std.proofs.lemmas.Grind.{flat_map-append, common_steps}
pub use Rattle.std.proofs.lemmas.Int.{to_z-of_z}
pub use Rattle.std.proofs.lemmas.List.{append-nil, take_at, take_more, map-append, take_all, drop_at, take-append-drop, length-take, get_or-take, drop-drop, length-drop}
pub use Rattle.std.proofs.lemmas.List.Elements.{All-nil, All-head, All-tail, All-append, All-take, All-weaker, All-from_recursion, recursion_from_All, All-cons, filter_map-append, All-push, All-from_get_or, All-more}
pub use Rattle.std.proofs.lemmas.List.Splits.{slice_split_at, slice_split_none, join_with_byte-slice_split, length-slice_split}
pub use Rattle.std.proofs.lemmas.List.Sums.{position_or_len_is, fails_before_first, sum_by-append}
pub use Rattle.std.proofs.lemmas.Result.{err_from_is_err_and}
pub use Rattle.std.proofs.lemmas.Str.Parse.{IsNumeralModel, numerals_by_value, tells_digits, digit_at, without_leading_plus_none}
pub use Rattle.std.specs.Fmt.{decimal, signed_decimal}
pub use Rattle.std.specs.Int.{w64}
pub use Rattle.std.specs.List.{AllByRecursion, position, position_or_len, cons_option, flat_map, slice_split, join_with_byte, count_by, sum_by}
pub use Rattle.std.specs.Prelude.{slice_get, ◌==◌, All, bytes_eq, nat_lt}
pub use Rattle.std.specs.Str.Parse.{digits_value, AllDigits, IsNumeral, ParsesUnsigned, without_leading_plus}
pub use Rattle.break_rules.specs.declared.Break.{Break}
pub use Rattle.post_codec.specs.Reading.{Stops, Reader}
pub use Rattle.post_codec.specs.declared.fault.Stop.{Stop}
pub use Rattle.post_codec.specs.declared.fault.Stop.TheVariants.{Memory, Left}
pub use Rattle.post_codec.specs.declared.post.Post.{Post}
pub use Rattle.shift_instance.specs.declared.Row.{Row}
pub use Rattle.certificate.specs.Departing.{IsLine, IsNote, IsText, Begins, DepartBehind, EachIsWritten, EachSpellsOnce, EachBeginsAlike, EachDepartsOnce, Spells, IsFaultOf}
pub use Rattle.certificate.specs.History.{line_of, lines_of}
pub use Rattle.certificate.specs.LineText.{Line, lines_text, breaks_text, row_line, proof_line, HasSlot, FitsBreak, FitsRow, FitsLine, line_text, joined, joined_or_dash, break_text}
pub use Rattle.certificate.specs.Reading.{status_word_in, allows_cost, allows_bound, go_together, or_zero, plan_of, to_cert, begins_note, AreNotes, LeaveNotes, AnswersNotes, IsStopped, InLines, InNotes, AnswersWhole}
unfoldable pub use Rattle.certificate.specs.Reading.{number_or_dash, status_in, cost_in, bound_in, count_in, opening_at, limits_at, rows_at, proof_at, closing_at, cert_at}
pub use Rattle.certificate.specs.Text.{cert_lines, proof_lines, status_text, rows_of, AgreesWith, HasText}
unfoldable pub use Rattle.certificate.specs.Text.{cert_text}
pub use Rattle.certificate.specs.Words.{number_in, word_in, line_at, Words, given, each_in, parts_in, parts_or_dash, rest_of, later, or_fault, on_line, next, made, Misses, begins_number, both_sides, IsSlotsBefore, to_break, to_row, kept, behind, led_by, behind_or, led_or, minus, to_split, to_priced, has_slot}
unfoldable pub use Rattle.certificate.specs.Words.{times, any_line_in, proof_line_in, cut_at, plain_number, slots_in, cuts_in, break_in, breaks_in, row_in, slot_price_in, split_in, priced_in, settled_in, proof_count_in}
pub use Rattle.certificate.specs.declared.Cert.{Cert}
pub use Rattle.certificate.specs.declared.proof_lines.Line.TheVariants.{Split, Priced, Settled}
