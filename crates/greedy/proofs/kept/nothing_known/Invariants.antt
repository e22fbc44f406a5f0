use Rattle.greedy.proofs.Common.{◌≡◌, length, None, replicate}
use Rattle.std.proofs.Common.{All}
use Rattle.greedy.proofs.kept.nothing_known.Given as goal

abbrev pub invariant-shifts : goal.invariant-shifts
invariant-shifts l = record {
  many : length l.known.items ≡ l._shift;
  all : All (λ days. days ≡ replicate 8 None) l.known.items;
}
