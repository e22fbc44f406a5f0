-- The class to split is live, and the number by which it is split lies in its range.
use Rattle.dual_bound.proofs.Common.{◌≡◌, ℕ, ◌+◌, ◌/◌, ◌<◌, ◌≤◌, arith, List, subst, IsTrue, IsSomeAnd, Problem, Cut, low, high, is_live_class, IsSettle}
use Rattle.head_splits.specs.declared.Class.{Class}
use Rattle.head_splits.specs.declared.Settle.TheVariants.{Unsettled}
use Rattle.head_splits.proofs.Splits.{split_law}

half : (low high m : ℕ) → low < high → m ≡ (low + high) / 2 → (low ≤ m) × (m < high)
half low high m less is = (omega arith, omega arith)

pub splits_live : (i : Problem) (cuts : List Cut) (class : Class) (m : ℕ) → IsSettle i cuts (Unsettled class m) → IsTrue (is_live_class i class) × (low cuts class ≤ m) × (m < high i cuts class)
splits_live i cuts class m s =
    let law = subst (λ o. IsSomeAnd o (λ c. IsTrue (is_live_class i c) × (low cuts c < high i cuts c))) s.1 (split_law i cuts s.0) in
    let h = half (low cuts class) (high i cuts class) m law.1 s.2 in
    (law.0, h.0, h.1)
