use Rattle.recovery.proofs.Common.{◌≡◌, length, take, AreFoundIn}
use Rattle.recovery.proofs.findings.findings_of.Given as goal

abbrev pub invariant-loop-post : goal.invariant-loop-post
invariant-loop-post l = record {
  buffers : l.buffers ≡ l.instance;
  found : AreFoundIn l.instance l.tree (take l.post-index l.posts) l.all.items;
  count : length l.all.items ≡ l.post-index;
}
