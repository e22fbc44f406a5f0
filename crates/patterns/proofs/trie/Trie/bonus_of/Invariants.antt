use Rattle.patterns.proofs.Common.{◌≡◌, take, bonus_of}
use Rattle.patterns.proofs.trie.Trie.bonus_of.Given as goal

abbrev pub invariant-loop-end : goal.invariant-loop-end
invariant-loop-end l = l.sum ≡ bonus_of l.self.entries (take l.end l.list)
