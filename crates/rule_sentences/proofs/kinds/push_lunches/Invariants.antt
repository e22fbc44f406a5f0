use Rattle.std.proofs.Common.{◌≡◌, ◌++◌, drop}
use Rattle.std.specs.List.{flat_map}
use Rattle.rule_sentences.specs.Clauses.{lunch_clauses}
use Rattle.rule_sentences.proofs.kinds.push_lunches.Given as goal

abbrev pub invariant-loop-lunch : goal.invariant-loop-lunch
invariant-loop-lunch l = l.list.items ++ flat_map (lunch_clauses l.kind) (drop l.lunch-index l.lunches) ≡ l.fn.list.items ++ flat_map (lunch_clauses l.kind) l.lunches
