use Rattle.advisers.proofs.Common.{◌≡◌, ◌*◌, ◌^◌, ◌≤◌, length, flat_map, below, forced_of}
use Rattle.advisers.proofs.forced.forced_cover.Given as goal

abbrev pub invariant-loop-shift : goal.invariant-loop-shift
invariant-loop-shift l = record {
  instance : l.cover.instance ≡ l.instance;
  duties : l.cover.duties ≡ flat_map (forced_of l.instance l.cuts) (below l.shift);
  few : length l.cover.duties ≤ l.shift * 2 ^ 19;
}
