-- What judging some proof lines leaves of the judgement on those behind them.
use Rattle.std.specs.Prelude.{◌≡◌, ⊤, ℕ, ◌+◌, List, ◌++◌, length, Some}
use Rattle.shift_instance.specs.Problem.{Problem}
use Rattle.head_splits.specs.Nodes.{Node}
use Rattle.certificate.specs.declared.proof_lines.Line.{Line}
use Rattle.certificate.specs.Accepted.{nodes_after}
use Rattle.cert_check.specs.declared.judged.Refused.{Refused}
use Rattle.cert_check.specs.declared.judged.Refused.TheVariants.{NoMemory}
use Rattle.cert_check.specs.Judged.{line_cause}

-- some lines behind others are good, whatever comes behind them: what that makes, and its first cause, are those for the nodes that they make
pub record GoesOn (i : Problem) (old : List Node) (before : ℕ) (lines : List Line) (new : List Node) : Type 0 where
  pub nodes : (rest : List Line) → nodes_after i old (lines ++ rest) ≡ nodes_after i new rest
  pub cause : (rest : List Line) → line_cause i old (before + 1) (lines ++ rest) ≡ line_cause i new (before + length lines + 1) rest

-- one of some lines behind others is the first that isn't good, whatever comes behind them; or it was out of memory
abbrev pub StopsIn : Problem → List Node → ℕ → List Line → Refused → Type 0
StopsIn i old before lines NoMemory = ⊤
StopsIn i old before lines why = (rest : List Line) → line_cause i old (before + 1) (lines ++ rest) ≡ Some why
