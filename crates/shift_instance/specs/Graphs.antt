-- The graphs of break lists that an instance keeps.
use Rattle.std.specs.Prelude.{◌≡◌, ℕ, ◌+◌, List, slice_get, Some}
use Rattle.break_rules.specs.declared.Rule.{Rule}
use Rattle.break_graph.specs.declared.Node.{Node}
use Rattle.break_graph.specs.Graph.{IsGraph}
use Rattle.shift_instance.specs.Kind.{Kind}

-- two rules have the same distances from both ends and the same lengths of work
abbrev pub HaveSameTimes : Rule → Rule → Type 0
HaveSameTimes rule other =
    (rule.lead ≡ other.lead) × (rule.tail ≡ other.tail) × (rule.work_min ≡ other.work_min) × (rule.work_max ≡ other.work_max) × (rule.long_work ≡ other.long_work) × (rule.long_rest ≡ other.long_rest)

-- two rules have the same totals and the same lunch entries
abbrev pub HaveSameLists : Rule → Rule → Type 0
HaveSameLists rule other = (rule.totals ≡ other.totals) × (rule.lunches ≡ other.lunches)

-- graphs of a type's rule, by length from the least on
abbrev pub AreGraphsOf : Kind → List (List Node) → Type 0
AreGraphsOf kind graphs = (j : ℕ) (nodes : List Node) → slice_get graphs j ≡ Some nodes → IsGraph kind.rule (kind.len_min + j) nodes

-- graphs of the types, by type
abbrev pub AreGraphs : List Kind → List (List (List Node)) → Type 0
AreGraphs kinds graphs = (k : ℕ) (kind : Kind) (of : List (List Node)) → slice_get kinds k ≡ Some kind → slice_get graphs k ≡ Some of → AreGraphsOf kind of
