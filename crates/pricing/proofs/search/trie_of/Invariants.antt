use Rattle.pricing.proofs.Common.{◌≡◌, List, take, true, Break, bonus_of, leads_further}
use Rattle.pricing.proofs.search.trie_of.Given as goal

abbrev pub invariant-loop-prefix : goal.invariant-loop-prefix
invariant-loop-prefix l = record {
  count : l.trie.additions ≡ l.prefix-index;
  sums : (list : List Break) → bonus_of l.trie.entries list ≡ bonus_of (take l.prefix-index l.bonus) list;
  prefixes : (front : List Break) → leads_further l.trie.entries front ≡ true → leads_further (take l.prefix-index l.bonus) front ≡ true;
  kept : (front : List Break) → leads_further (take l.prefix-index l.bonus) front ≡ true → leads_further l.trie.entries front ≡ true;
}
