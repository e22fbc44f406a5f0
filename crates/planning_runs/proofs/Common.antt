-- The names that most proofs of this crate cite, passed on from one place. Declares nothing.
pub use Rattle.std.proofs.Common.{◌≡◌, MatchResult, Ok, Err, Result, inl, inr, ℕ, ◌≤◌, Bool, cond, ◌&&◌, ◌==◌, List, refl, sym, ap, subst, arith, nat_le, Option, Some, ◌∙◌, length, IsTrue}
pub use Rattle.certificate.proofs.Alone.{written}
pub use Rattle.certificate.specs.Accepted.{is_bound, is_plan, is_accepted}
pub use Rattle.certificate.specs.Departing.{Spells}
pub use Rattle.certificate.specs.Text.{Agrees, AgreesWith}
pub use Rattle.certificate.specs.declared.Cert.{Cert}
pub use Rattle.shift_instance.specs.Rota.{cost, rota_of, are_legal_rows}
pub use Rattle.shift_instance.specs.declared.Row.{Row}
pub use Rattle.planning_runs.specs.Causes.{IsFor, end_cause}
pub use Rattle.planning_runs.specs.declared.refusal.Cause.TheVariants.{NoMemory, Journal, System, Words}
