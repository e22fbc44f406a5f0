-- The names that most proofs of this crate cite, passed on from one place. Declares nothing.
pub use Rattle.std.proofs.Common.{◌≡◌, ℕ, ◌+◌, List, [], ◌∷◌, All, length, sym, refl, ap, ◌∙◌, subst, arith, Option, Some, None, ◌≢◌, ◌⊎◌, zero, suc, ◌≤◌, eqb, cond, Bool, true, false, ◌++◌, set, inl, inr, ⊎_elim, append_assoc, append-nil, ne_eqb, eq-eqb, ◌-◌, ◌*◌, ◌<◌, ◌^◌, map, length-append, ◌%◌, drop, get_or, length-set, get_or-set_same, get_or-set_other, vec_capacity, vec_len, rules}
pub use Rattle.std.specs.Prelude.{MatchOption, option_to_list}
pub use lib.ListN.{get_elem?}
pub use mathlib.Core.Option.{some, some-injective, some-ne-none, none}
pub use Rattle.atomic_table.specs.Seated.{TableId}
pub use Rattle.atomic_table.specs.Table.{Final, Seen, Me, State, keeps, takes, gives, stepped, Allows, Splits, Joins, opening, rest}
pub use Rattle.turn_lock.specs.Passes.{of_number, AddsAtMostOne, IsPrefix}
pub use Rattle.turn_lock.specs.Seats.{SeatView, new_seat, new_seats}
pub use Rattle.turn_lock.specs.Turning.{Fits, IsRuled, one_if, times_in, total, AreKnown, dealer, dealt, drew, entered, first_of, fresh_from, gathers, making, part_of, seen_as, IsInside, IsOutside, after_turn, claims, first_view, for_seat, fresh, hears, left_view, note_of, spent, At, Compared, GoesInside, IsHome, IsOut}
pub use Rattle.turn_lock.specs.declared.pass.Pass.{Pass}
pub use Rattle.turn_lock.specs.declared.view.Part.{Part}
pub use Rattle.turn_lock.specs.declared.view.View.{View}
