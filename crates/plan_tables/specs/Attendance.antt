-- Who is at work in a slot, and who is on break there.
use Rattle.std.specs.Prelude.{◌≡◌, ℕ, ◌-◌, List, [], map}
use Rattle.shift_instance.specs.declared.Duty.{Duty}
use Rattle.shift_instance.specs.Problem.{Problem, need_at, need_max_at}
use Rattle.shift_instance.specs.Rota.{cover}
use Rattle.rota_cost.specs.Cover.{Covering}

-- a duty as it would be if it had no break
abbrev pub unbroken : Duty → Duty
unbroken d = record { shift = d.shift; day = d.day; breaks = [] }

-- the duties on break in a slot: those that would work there if they had no break, less those that do work there
abbrev pub on_break : Problem → List Duty → ℕ → ℕ
on_break i rota t = cover i (map unbroken rota) t - cover i rota t

-- the employees in a slot above its band
abbrev pub over_at : Problem → List Duty → ℕ → ℕ
over_at i rota t = cover i rota t - need_max_at i t

-- the employees that a slot lacks to its need
abbrev pub under_at : Problem → List Duty → ℕ → ℕ
under_at i rota t = need_at i t - cover i rota t

-- the second cover has the duties of the first, each without its breaks
pub record IsAttendance (working unbroken_working : Covering) : Type 0 where
  pub instance : unbroken_working.instance ≡ working.instance
  pub duties : unbroken_working.duties ≡ map unbroken working.duties
