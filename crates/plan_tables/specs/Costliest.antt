-- The slots that cost most.
use Rattle.std.specs.Prelude.{◌≡◌, ℕ, Bool, nat_lt, List, map, filter, take}
use Rattle.std.specs.List.Sorted.{IsPermutation, IsSortedByKey, IsStableByKey}
use Rattle.std.specs.Ordering.{nat_cmp}
use Rattle.std.specs.declared.cmp.Ordering.{Ordering}
use Rattle.shift_instance.specs.declared.Duty.{Duty}
use Rattle.shift_instance.specs.Problem.{Problem, slots, need_at, need_max_at, below}
use Rattle.shift_instance.specs.Rota.{cover, slot_cost}
use Rattle.plan_tables.specs.declared.costliest.CostlySlot.{CostlySlot}

-- a slot with its band, how many work there and what it costs
abbrev pub costly_slot : Problem → List Duty → ℕ → CostlySlot
costly_slot i rota t = record { slot = t; wanted = need_at i t; wanted_max = need_max_at i t; working = cover i rota t; cost = slot_cost i t (cover i rota t) }

-- whether a slot costs something
abbrev pub costs : CostlySlot → Bool
costs s = nat_lt 0 s.cost

-- the slots that cost something, from the first
abbrev pub costly_slots : Problem → List Duty → List CostlySlot
costly_slots i rota = filter costs (map (costly_slot i rota) (below (slots i)))

-- the greater cost first
abbrev pub falling_cmp : ℕ → ℕ → Ordering
falling_cmp a b = nat_cmp b a

-- these are the first of all slots that cost something, by falling cost, equal ones in their order of time
pub record AreCostliest (i : Problem) (rota : List Duty) (most : ℕ) (found : List CostlySlot) : Type 0 where
  pub ranked : List CostlySlot
  pub all : IsPermutation (costly_slots i rota) ranked
  pub falling : IsSortedByKey (λ s. s.cost) falling_cmp ranked
  pub stable : IsStableByKey (λ s. s.cost) falling_cmp (costly_slots i rota) ranked
  pub first : found ≡ take most ranked
