-- The slots in which some legal duty works. Source: this project's profile.
use Rattle.std.specs.Prelude.{◌≡◌, ℕ, ℤ, pos, ◌<◌, ◌*◌, Bool, false, not, ◌&&◌, nat_lt, List, All, length, filter, replicate, slice_set, sum_by, IsTrue}
use Rattle.std.specs.List.{list_any}
use Rattle.break_rules.specs.declared.Break.{Break}
use Rattle.shift_instance.specs.declared.Duty.{Duty}
use Rattle.shift_instance.specs.AllDuties.{all_duties}
use Rattle.shift_instance.specs.Problem.{Problem, slots, shift_list, need_at, below}
use Rattle.shift_instance.specs.Rota.{is_legal_duty, is_list_of, works}

-- whether some legal duty works in a slot
abbrev pub is_reached : Problem → ℕ → Bool
is_reached i t = list_any (λ d. works i d t) (all_duties i)

-- whether a slot has a need and no legal duty works in it
abbrev pub is_missed : Problem → ℕ → Bool
is_missed i t = nat_lt 0 (need_at i t) && not (is_reached i t)

-- the slots with a need in which no legal duty works
abbrev pub unreached : Problem → List ℕ
unreached i = filter (is_missed i) (below (slots i))

-- what these slots cost at least: the shortage of their whole needs
abbrev pub unreached_cost : Problem → ℕ
unreached_cost i = sum_by (λ t. i.shortage * need_at i t) (unreached i)

-- prices of 1 for a slot and of 0 for all others
abbrev pub unit_prices : Problem → ℕ → List ℤ
unit_prices i t = slice_set (replicate (slots i) (pos 0)) t (pos 1)

-- a duty is legal and works in a slot
pub record IsReaching (i : Problem) (t : ℕ) (d : Duty) : Type 0 where
  pub legal : IsTrue (is_legal_duty i d)
  pub works : IsTrue (works i d t)

-- duties are legal
abbrev pub AreLegal : Problem → List Duty → Type 0
AreLegal i duties = All (λ d. IsTrue (is_legal_duty i d)) duties

-- no legal duty of a shift on a day works in a slot
abbrev pub AvoidsOn : Problem → ℕ → ℕ → ℕ → Type 0
AvoidsOn i t s day = (list : List Break) → IsTrue (is_list_of i s list) → works i (record { shift = s; day = day; breaks = list }) t ≡ false

-- no legal duty of a shift works in a slot
abbrev pub AvoidsShift : Problem → ℕ → ℕ → Type 0
AvoidsShift i t s = (day : ℕ) → day < i.days → AvoidsOn i t s day

-- no legal duty works in a slot
abbrev pub Avoids : Problem → ℕ → Type 0
Avoids i t = (s : ℕ) → s < length (shift_list i) → AvoidsShift i t s
