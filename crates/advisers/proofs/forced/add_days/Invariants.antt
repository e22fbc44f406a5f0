use Rattle.advisers.proofs.Common.{◌≡◌, ◌++◌, ◌+◌, ◌*◌, ◌^◌, ◌≤◌, length, flat_map, below, forced_on}
use Rattle.advisers.proofs.forced.add_days.Given as goal

abbrev pub invariant-loop-day : goal.invariant-loop-day
invariant-loop-day l = record {
  instance : l.cover.instance ≡ l.fn.cover.instance;
  duties : l.cover.duties ≡ l.fn.cover.duties ++ flat_map (forced_on l.instance l.cuts l.shift) (below l.day);
  few : length l.cover.duties ≤ length l.fn.cover.duties + l.day * 2 ^ 16;
}
