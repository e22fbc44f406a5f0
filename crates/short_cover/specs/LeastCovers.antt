-- The least cover of a day.
use Rattle.std.specs.Prelude.{◌≡◌, ℕ, ◌≤◌, nat_lt, List, [], filter, Option, MatchOption}
use Rattle.std.specs.List.{All, Contains}
use Rattle.shift_instance.specs.declared.Duty.{Duty}
use Rattle.shift_instance.specs.Problem.{Problem, need_at}
use Rattle.shift_instance.specs.Rota.{cover}
use Rattle.plan_tables.specs.Tallies.{slots_of_day}
use Rattle.short_cover.specs.declared.least.LeastCover.{LeastCover}

-- those of some slots in which somebody is wanted
abbrev pub wanted_slots : Problem → List ℕ → List ℕ
wanted_slots i ts = filter (λ t. nat_lt 0 (need_at i t)) ts

-- the earliest of those with the fewest employees at work, among the slots in which somebody is wanted
pub record IsLeastCover (i : Problem) (rota : List Duty) (ts : List ℕ) (found : LeastCover) : Type 0 where
  pub among : Contains (wanted_slots i ts) found.slot
  pub wanted : found.wanted ≡ need_at i found.slot
  pub working : found.working ≡ cover i rota found.slot
  pub fewest : All (λ t. found.working ≤ cover i rota t) (wanted_slots i ts)
  pub earliest : All (λ t. cover i rota t ≤ found.working → found.slot ≤ t) (wanted_slots i ts)

-- the least cover of some slots, and none where nobody is wanted in them
abbrev pub IsLeastAmong : Problem → List Duty → List ℕ → Option LeastCover → Type 0
IsLeastAmong i rota ts found = MatchOption found (wanted_slots i ts ≡ []) (IsLeastCover i rota ts)

-- the least cover of a day, counted from 0
abbrev pub IsLeastOn : Problem → List Duty → ℕ → Option LeastCover → Type 0
IsLeastOn i rota day found = IsLeastAmong i rota (slots_of_day i day) found
