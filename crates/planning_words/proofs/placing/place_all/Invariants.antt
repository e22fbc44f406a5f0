use Rattle.std.proofs.Common.{◌≡◌, ◌<◌, ℕ, None}
use Rattle.planning_words.specs.Folder.{Held, Goes, OnTheWay}
use Rattle.planning_words.proofs.placing.place_all.Given as goal

abbrev pub invariant-loop-file : goal.invariant-loop-file
invariant-loop-file g l = record {
  goes : Goes (g.F.Folder.holds l.fn.folder) (g.F.Folder.holds l.folder) (g.F.Folder.passed l.fn.folder) (g.F.Folder.passed l.folder) OnTheWay;
  placed : (held : Held) → g.F.Folder.holds l.folder held → (k : ℕ) → k < l.file → held.fresh k ≡ None;
}
