-- Proof lines for other nodes.
use Rattle.std.specs.Prelude.{ℕ}
use Rattle.certificate.specs.declared.proof_lines.Line.{Line}
use Rattle.certificate.specs.declared.proof_lines.Line.TheVariants.{Split, Priced, Settled}

-- a line for another node
abbrev pub with_node : ℕ → Line → Line
with_node k (Split old class m) = Split k class m
with_node k (Priced old prices) = Priced k prices
with_node k (Settled old) = Settled k
