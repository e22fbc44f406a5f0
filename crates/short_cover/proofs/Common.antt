-- The names that most proofs of this crate cite, passed on from one place. Declares nothing.
pub use Rattle.std.proofs.Common.{◌≡◌, ℕ, ◌+◌, ◌<◌, ◌≤◌, Bool, true, false, cond, nat_le, nat_lt, Option, None, Some, List, [], ◌∷◌, ◌++◌, All, Contains, sym, ap, ◌∙◌, subst, arith, refl, add-one, append-nil, map, filter, zero-add, length, ◌-◌, rules}
pub use Rattle.std.proofs.lemmas.Bool.{le-ltb, leb-false, leb-true, lt-ltb}
pub use Rattle.std.specs.Option.{option_map_or}
pub use Rattle.std.specs.Prelude.{IfSome, IsSomeAnd, slice_get}
pub use Rattle.shift_instance.specs.Problem.{Problem, need_at, below}
pub use Rattle.shift_instance.specs.Rota.{cover}
pub use Rattle.shift_instance.specs.declared.Duty.{Duty}
pub use Rattle.short_cover.specs.LeastCovers.{IsLeastAmong, IsLeastCover, wanted_slots, IsLeastOn}
pub use Rattle.short_cover.specs.ShortSlots.{is_short, short_slot}
pub use Rattle.short_cover.specs.declared.least.LeastCover.{LeastCover}
pub use Rattle.short_cover.specs.declared.short.ShortSlot.{ShortSlot}
