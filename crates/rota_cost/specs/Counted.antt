-- The numbers that a cover keeps of its duties.
use Rattle.std.specs.Prelude.{◌≡◌, ℕ, ◌+◌, ◌-◌, ◌*◌, ◌^◌, ◌<◌, ◌≤◌, ◌==◌, List, length, sum_by, count_by, slice_index, if◌then◌else◌}
use Rattle.shift_instance.specs.declared.Duty.{Duty}
use Rattle.shift_instance.specs.Problem.{Problem, slots, shift_list, below}
use Rattle.shift_instance.specs.Rota.{cover, slot_cost, shifts_used}
use Rattle.shift_instance.specs.Valid.{IsValid}
use Rattle.rota_cost.specs.declared.cover.Change.{Change}
use Rattle.rota_cost.specs.declared.cover.Change.TheVariants.{More, Less}

-- a number of duties after one more or one less of them
abbrev pub changed : Change → ℕ → ℕ
changed More n = n + 1
changed Less n = n - 1

-- the cost of excess and shortage where that many duties work in each slot
abbrev pub slots_cost : Problem → List ℕ → ℕ
slots_cost i counts = sum_by (λ t. slot_cost i t (slice_index counts t)) (below (slots i))

-- the duties of a shift
abbrev pub duties_of : List Duty → ℕ → ℕ
duties_of duties s = count_by (λ d. d.shift == s) duties

-- what a shift costs that has that many duties
abbrev pub shift_cost : Problem → ℕ → ℕ
shift_cost i n = if n == 0 then 0 else i.shift

-- how many of some duties work in each slot and how many are of each shift, and the two parts of their cost
pub record IsCounted (i : Problem) (duties : List Duty) (working shifts : List ℕ) (slot_part shift_part : ℕ) : Type 0 where
  pub valid : IsValid i
  pub few : length duties ≤ 2 ^ 31
  pub all_slots : length working ≡ slots i
  pub all_shifts : length shifts ≡ length (shift_list i)
  pub covered : (t : ℕ) → t < slots i → slice_index working t ≡ cover i duties t
  pub manned : (s : ℕ) → s < length (shift_list i) → slice_index shifts s ≡ duties_of duties s
  pub excess_and_shortage : slot_part ≡ slots_cost i working
  pub used : shift_part ≡ i.shift * shifts_used i duties
