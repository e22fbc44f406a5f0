use Rattle.cert_check.proofs.Common.{◌≡◌, ◌<◌, ℕ, length, AreSums, sums_on, AreValues}
use Rattle.cert_check.proofs.rests.set_rest_lanes.Given as goal

abbrev pub invariant-loop-k : goal.invariant-loop-k
invariant-loop-k l = record {
  many : length l.lanes.items ≡ l.k;
  known : (day : ℕ) → day < 8 → AreSums l.len (sums_on day l.sums) → AreValues l.rule l.len (sums_on day l.sums) l.graph l.k (sums_on day l.lanes.items);
}
