-- The names that most proofs of this crate cite, passed on from one place. Declares nothing.
pub use Rattle.std.proofs.Common.{◌≡◌, inl, inr, ℕ, suc, ◌+◌, ◌-◌, ◌<◌, ◌≤◌, max, Bool, true, false, cond, List, [], ◌∷◌, ◌++◌, filter, fold, refl, sym, ap, ◌∙◌, arith, sum_by, ◌*◌, ℤ, pos, ◌+ℤ◌, ◌≤ℤ◌, not, ◌&&◌, ◌==◌, replicate, subst, count_by, nat_lt, eq-eqb, All, get_or-set_same, get_or-set_other, get_or, take, drop, to_z, of_z, length}
pub use Rattle.std.proofs.lemmas.Bool.{cases_Bool, false≢true, cases_eq, ne_eqb, and_parts, and_from, lt-ltb}
pub use Rattle.std.proofs.lemmas.List.Elements.{All-set, All-replicate, All-nil, All-cons, All-head, All-tail, All-filter, All-get_or, All-push}
pub use Rattle.std.proofs.lemmas.List.Sums.{fold-append, sum_by-cons, sum_by_more_le}
pub use Rattle.std.specs.List.{list_any, range_with_len, enumerate_from, flat_map}
pub use Rattle.std.specs.Prelude.{IsTrue, IsSomeAnd, Option, slice_get, unsigned_abs, if◌then◌else◌}
pub use Rattle.break_rules.proofs.Lists.{any_some, any_at, Has-range, from_range, from_below}
pub use Rattle.break_rules.specs.Breaks.{works_at, is_live, total_in}
pub use Rattle.break_rules.specs.Lists.{Has}
pub use Rattle.break_rules.specs.declared.Rule.{Rule}
pub use Rattle.shift_instance.proofs.Ranges.{below_next, range_next}
pub use Rattle.shift_instance.specs.Kind.{Kind}
pub use Rattle.shift_instance.specs.Problem.{below, Problem, slots, need_at, shift_list, slot_of, need_max_at}
pub use Rattle.shift_instance.specs.Rota.{is_legal_duty, is_legal_rota, is_list_of, works, cover, slot_cost, cost}
pub use Rattle.shift_instance.specs.Worth.{price_of, earned, worth, IsBest}
pub use Rattle.shift_instance.specs.declared.Duty.{Duty}
pub use Rattle.instance_warnings.specs.Breaks.{has_lists, with_total}
pub use Rattle.instance_warnings.specs.Odd.{odd_kind, most_break, odd_lunch, parted}
pub use Rattle.instance_warnings.specs.Reached.{is_reached, is_missed, unreached, unreached_cost, unit_prices, IsReaching, AreLegal, AvoidsOn, Avoids, AvoidsShift}
