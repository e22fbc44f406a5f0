-- The floors that proof lines give, and what is found of them before the lines are judged.
use Rattle.std.specs.Prelude.{◌≡◌, ⊤, ℕ, max, Bool, true, false, IfSome, List, [], ◌∷◌, Option, Some, None, if◌then◌else◌}
use Rattle.shift_instance.specs.Problem.{Problem}
use Rattle.head_splits.specs.declared.Cut.{Cut}
use Rattle.head_splits.specs.declared.Prices.{Prices}
use Rattle.head_splits.specs.Bound.{are_prices, bound_of}
use Rattle.head_splits.specs.Nodes.{Node, settled_floor}
use Rattle.head_splits.specs.Settled.{is_settled}
use Rattle.certificate.specs.declared.proof_lines.Line.{Line}
use Rattle.certificate.specs.declared.proof_lines.Line.TheVariants.{Split, Priced, Settled}
use Rattle.cert_check.specs.declared.findings.Finding.{Finding}

-- the bound of a price set for some cuts
abbrev pub price_floor : Problem → List Cut → Prices → Option ℕ
price_floor i cuts prices = if are_prices i cuts prices then Some (bound_of i cuts prices) else None

-- the floor that a line gives a node with these cuts, and none where it gives none
abbrev pub line_floor : Problem → List Cut → Line → Option ℕ
line_floor i cuts (Split k class m) = None
line_floor i cuts (Priced k prices) = price_floor i cuts prices
line_floor i cuts (Settled k) = if is_settled i cuts then Some (settled_floor i cuts) else None

-- whether a line gives its node a floor where it is good
abbrev pub gives_floor : Line → Bool
gives_floor (Split k class m) = false
gives_floor (Priced k prices) = true
gives_floor (Settled k) = true

-- the floor of a node that a line gives one: prices only raise it
abbrev pub given_floor : Node → Line → ℕ → ℕ
given_floor n (Split k class m) floor = floor
given_floor n (Priced k prices) floor = max n.floor floor
given_floor n (Settled k) floor = floor

-- what was found of a line, where something was, is the floor that it gives a node with the cuts for which it was found
abbrev pub IsFindingOf : Problem → Line → Option Finding → Type 0
IsFindingOf i line found = IfSome found (λ f. f.floor ≡ line_floor i f.cuts line)

-- the same of lines, as far as something was looked for
abbrev pub AreFindings : Problem → List Line → List (Option Finding) → Type 0
AreFindings i [] founds = ⊤
AreFindings i (line ∷ lines) [] = ⊤
AreFindings i (line ∷ lines) (found ∷ founds) = IsFindingOf i line found × AreFindings i lines founds
