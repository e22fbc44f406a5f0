use Rattle.cert_check.proofs.Common.{ℕ, ◌<◌, ◌+◌, List, map, take, Break, Edge, StandsAt, node_at, sum_at, AreSums, sums_on, worth_with_start, Through, AreValues, IsGreatest}
use Rattle.cert_check.proofs.rests.most_with_start.Given as goal

abbrev pub invariant-loop-edge : goal.invariant-loop-edge
invariant-loop-edge l =
    (day : ℕ) → day < 8 → AreSums l.len (sums_on day l.sums) → AreValues l.rule l.len (sums_on day l.sums) l.graph l.k (sums_on day l.values) → (list : List Break) → StandsAt l.rule l.len l.graph l.k list
    → IsGreatest (Through l.rule l.len list (map (λ (e : Edge). e.stop) (take (l.edge-index + 1) (node_at l.graph l.k).edges))) (worth_with_start (sums_on day l.sums) l.rule l.len list) (sum_at l.most day)
