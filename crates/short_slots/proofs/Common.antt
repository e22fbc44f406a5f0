-- The names that most proofs of this crate cite, passed on from one place. Declares nothing.
pub use Rattle.std.proofs.Common.{◌≡◌, inl, inr, ℕ, zero, suc, ◌+◌, ◌-◌, ◌*◌, ◌<◌, ◌≤◌, Bool, true, false, cond, ◌==◌, nat_le, List, [], ◌∷◌, ◌++◌, length, refl, ap, ◌∙◌, subst, arith, sum_by, count_by, ◌⊎◌, max, to_z, of_z, w64, ℤ, pos, ◌+ℤ◌, ◌≤ℤ◌, nat_lt, get_or, sym, Option, Some}
pub use Rattle.std.proofs.Math.Nat.{mul-le-mul_left}
pub use Rattle.std.proofs.lemmas.Bool.{cases_Bool, cases_lt, and_parts, and_from, eqb-true, le-leb, false≢true, lt-ltb}
pub use Rattle.std.proofs.lemmas.List.Sums.{sum_by-cons}
pub use Rattle.std.specs.Prelude.{unsigned_abs, MatchOption}
pub use Rattle.break_rules.proofs.Lists.{Has-append_cases, all_at, all_from, from_below}
pub use Rattle.break_rules.specs.declared.Break.{Break}
pub use Rattle.pricing.specs.Days.{AreMostByDay, IsMostOn}
pub use Rattle.shift_instance.proofs.Rotas.{heads_within, legal_duty_parts}
pub use Rattle.shift_instance.specs.Problem.{Problem, slots, need_at, need_max_at, shift_list, below}
pub use Rattle.shift_instance.specs.Rota.{works, cover, slot_cost, shifts_used, cost, is_on, heads_on, is_legal_duty, is_legal_rota, is_list_of}
pub use Rattle.shift_instance.specs.declared.Duty.{Duty}
pub use Rattle.short_slots.specs.Worked.{worked_slots, IsMostWorked, enough_shortage, ones, IsMostOf}
