-- A value that stands in contracts alone.
use Rattle.worker_gate.proofs.Common.{◌≡◌, ℕ, ap, refl, Snapshot, root_at}

-- two that stand for one value are one
pub same_snapshot : {B : Type 0} (s t : Snapshot B) → s.value ≡ t.value → s ≡ t
same_snapshot s t e = ap (λ v. record { marker = s.marker; value = v }) e

-- so are two roots
pub same_root : {B : Type 0} (s t : Snapshot B) (m n : ℕ) → s.value ≡ t.value → m ≡ n → root_at s m ≡ root_at t n
same_root s t m n e f = rw (same_snapshot s t e, f) refl
