-- The slots in which fewer employees work than are needed.
use Rattle.std.specs.Prelude.{ℕ, ◌-◌, Bool, nat_lt, List, map, filter}
use Rattle.std.specs.List.Sorted.{IsPermutation, IsSorted}
use Rattle.std.specs.Ordering.{nat_cmp, ordering_then}
use Rattle.std.specs.declared.cmp.Ordering.{Ordering}
use Rattle.shift_instance.specs.declared.Duty.{Duty}
use Rattle.shift_instance.specs.Problem.{Problem, slots, need_at, below}
use Rattle.shift_instance.specs.Rota.{cover}
use Rattle.plan_tables.specs.Attendance.{on_break}
use Rattle.short_cover.specs.declared.short.ShortSlot.{ShortSlot}

-- a slot with its need, how many work there and how many are on break
abbrev pub short_slot : Problem → List Duty → ℕ → ShortSlot
short_slot i rota t = record { slot = t; wanted = need_at i t; working = cover i rota t; on_break = on_break i rota t }

-- whether fewer work in a slot than its need
abbrev pub is_short : ShortSlot → Bool
is_short s = nat_lt s.working s.wanted

-- the short slots of the planning period, from the first
abbrev pub short_slots : Problem → List Duty → List ShortSlot
short_slots i rota = filter is_short (map (short_slot i rota) (below (slots i)))

-- how many employees a slot lacks to its need
abbrev pub missing : ShortSlot → ℕ
missing s = s.wanted - s.working

-- the slot that lacks more employees first, of equal ones the one with fewer at work, and of equal ones the earlier
abbrev pub worst_cmp : ShortSlot → ShortSlot → Ordering
worst_cmp a b = ordering_then (ordering_then (nat_cmp (missing b) (missing a)) (nat_cmp a.working b.working)) (nat_cmp a.slot b.slot)

-- these are the short slots, each once, the worst first
pub record AreWorstFirst (i : Problem) (rota : List Duty) (found : List ShortSlot) : Type 0 where
  pub all : IsPermutation (short_slots i rota) found
  pub worst_first : IsSorted worst_cmp found
