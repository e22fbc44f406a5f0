-- In how many slots duties work, and from which weight of shortage on one more duty pays wherever a slot is short.
-- Source: this project's profile.
use Rattle.std.specs.Prelude.{◌≡◌, ℕ, ℤ, pos, ◌+◌, ◌*◌, ◌≤◌, List, replicate, count_by, IsTrue}
use Rattle.shift_instance.specs.declared.Duty.{Duty}
use Rattle.shift_instance.specs.Problem.{Problem, slots, below}
use Rattle.shift_instance.specs.Rota.{works, is_legal_duty}

-- the slots in which a duty works
abbrev pub worked_slots : Problem → Duty → ℕ
worked_slots i d = count_by (λ t. works i d t) (below (slots i))

-- the most slots in which a legal duty works, and 0 where no duty is legal: the least number that none of them exceeds
pub record IsMostWorked (i : Problem) (most : ℕ) : Type 0 where
  pub each : (d : Duty) → IsTrue (is_legal_duty i d) → worked_slots i d ≤ most
  pub least : (n : ℕ) → ((d : Duty) → IsTrue (is_legal_duty i d) → worked_slots i d ≤ n) → most ≤ n

-- one more than a duty of that many slots costs at most where it brings nothing but excess and a further shift
abbrev pub enough_shortage : Problem → ℕ → ℕ
enough_shortage i most = i.excess * most + i.shift + 1

-- prices of 1 for all slots, at which a duty is worth the slots in which it works
abbrev pub ones : Problem → List ℤ
ones i = replicate (slots i) (pos 1)

-- the same as of all legal duties, of those of a shift
pub record IsMostOf (i : Problem) (s : ℕ) (most : ℕ) : Type 0 where
  pub each : (d : Duty) → IsTrue (is_legal_duty i d) → d.shift ≡ s → worked_slots i d ≤ most
  pub least : (n : ℕ) → ((d : Duty) → IsTrue (is_legal_duty i d) → d.shift ≡ s → worked_slots i d ≤ n) → most ≤ n
