use Rattle.cert_check.proofs.Common.{◌≡◌, length}
use Rattle.bound_sums.specs.Values.{AreValues}
use Rattle.cert_check.proofs.terms.values_by_layers.Given as goal

abbrev pub invariant-loop-day : goal.invariant-loop-day
invariant-loop-day l = record {
  many : length l.values ≡ 8;
  known : AreValues l.instance l.cuts l.prices l.shift l.day l.values;
}
