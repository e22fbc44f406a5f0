use Rattle.std.proofs.Common.{◌≡◌, ◌<◌, ℕ, Some, map}
use Rattle.planning_words.specs.Folder.{Held, Goes, IsBegun, plan_at}
use Rattle.planning_words.proofs.placing.write_all.Given as goal

abbrev pub invariant-loop-file : goal.invariant-loop-file
invariant-loop-file g l = record {
  goes : Goes (g.F.Folder.holds l.fn.folder) (g.F.Folder.holds l.folder) (g.F.Folder.passed l.fn.folder) (g.F.Folder.passed l.folder) IsBegun;
  written : (held : Held) → g.F.Folder.holds l.folder held → (k : ℕ) → k < l.file → held.fresh k ≡ Some (plan_at (map (λ file. file.now) l.files) k);
}
