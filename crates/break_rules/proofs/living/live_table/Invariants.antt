use Rattle.break_rules.proofs.Common.{◌≡◌, vec_len, AreKnown}
use Rattle.break_rules.proofs.living.live_table.Given as goal

abbrev pub invariant-loop-place : goal.invariant-loop-place
invariant-loop-place l = record {
  many : vec_len l.table ≡ l.place;
  known : AreKnown l.rule l.len l.place l.table.items;
}
