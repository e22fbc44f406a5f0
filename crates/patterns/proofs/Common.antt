-- The names that most proofs of this crate cite, passed on from one place. Declares nothing.
pub use Rattle.std.proofs.Common.{◌≡◌, inl, inr, ℕ, ◌+◌, ◌*◌, ◌^◌, ◌<◌, ◌≤◌, ℤ, pos, ◌+ℤ◌, Bool, true, false, cond, List, [], ◌∷◌, ◌++◌, map, length, take, get_or, refl, sym, ap, ◌∙◌, subst, arith, Option, Some, FitsSigned, to_z, of_z, ◌⊎◌, drop, append_assoc, append-nil, length-append}
pub use Rattle.std.proofs.lemmas.Bool.{cases_Bool, cond-true, cond-false, false≢true, false_from_ne_true}
pub use Rattle.std.proofs.lemmas.Int.{ints, fits_signed_from_abs, to_z-of_z}
pub use Rattle.std.proofs.lemmas.List.{take_more, take_all}
pub use mir.Syntax.{w128, w64}
pub use Rattle.break_rules.proofs.LegalLists.{same_list_decides, begins_rest, begins_from}
pub use Rattle.break_rules.specs.Bonuses.{share_of, bonus_of}
pub use Rattle.break_rules.specs.Breaks.{same_list, begins_with}
pub use Rattle.break_rules.specs.declared.Break.{Break}
pub use Rattle.patterns.specs.Bonuses.{with_added, AreSmall, Bonuses}
