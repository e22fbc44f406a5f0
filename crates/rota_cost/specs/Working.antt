-- What rows add to the cover of a slot.
use Rattle.std.specs.Prelude.{ℕ, if◌then◌else◌}
use Rattle.shift_instance.specs.declared.Row.{Row}
use Rattle.shift_instance.specs.Problem.{Problem}
use Rattle.shift_instance.specs.Rota.{works, duty_of}

-- the duties of a row that work in a slot
abbrev pub working : Problem → ℕ → Row → ℕ
working i t r = if works i (duty_of r) t then r.count else 0
