use Rattle.std.proofs.Common.{◌≡◌, ◌++◌, drop}
use Rattle.std.specs.List.{flat_map}
use Rattle.rule_sentences.specs.Clauses.{later_total}
use Rattle.rule_sentences.proofs.kinds.push_totals.Given as goal

abbrev pub invariant-loop-entry : goal.invariant-loop-entry
invariant-loop-entry l = l.list.items ++ flat_map (later_total l.kind) (drop l.entry-index l.totals) ≡ l.fn.list.items ++ flat_map (later_total l.kind) l.totals
