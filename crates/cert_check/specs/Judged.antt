-- Why a certificate isn't accepted. Source: this project's profile.
use Rattle.std.specs.Prelude.{◌≡◌, ⊤, ℕ, ◌+◌, ◌==◌, nat_le, IsFalse, List, [], ◌∷◌, Option, Some, None, if◌then◌else◌}
use Rattle.std.specs.Option.{option_map, option_map_or, option_and_then, option_or}
use Rattle.shift_instance.specs.declared.Row.{Row}
use Rattle.shift_instance.specs.Problem.{Problem}
use Rattle.shift_instance.specs.Rota.{cost, rota_of}
use Rattle.rota_cost.specs.RowFaults.{row_fault, row_of}
use Rattle.head_splits.specs.Nodes.{Node, new_node}
use Rattle.certificate.specs.declared.Cert.{Cert}
use Rattle.certificate.specs.declared.proof_lines.Line.{Line}
use Rattle.certificate.specs.declared.proof_lines.Line.TheVariants.{Split, Priced, Settled}
use Rattle.certificate.specs.Accepted.{nodes_after, nodes_of, least_floor, is_accepted}
use Rattle.cert_check.specs.declared.judged.Refused.{Refused}
use Rattle.cert_check.specs.declared.judged.Refused.TheVariants.{BadSplit, BadPrice, NotSettled, BoundTooHigh, BadPlan, WrongCost, NoMemory}

-- what is answered of a line of that number that isn't good
abbrev pub bad_line : Line → ℕ → Refused
bad_line (Split k class m) number = BadSplit number
bad_line (Priced k prices) number = BadPrice number
bad_line (Settled k) number = NotSettled number

-- the first line that isn't good for the nodes that those before it make, the first of the lines being that of a number
abbrev pub line_cause : Problem → List Node → ℕ → List Line → Option Refused
line_cause i nodes number [] = None
line_cause i nodes number (line ∷ lines) =
    option_map_or (λ next. line_cause i next (number + 1) lines) (nodes_after i nodes (line ∷ [])) (Some (bad_line line number))

-- a bound above what good lines find
abbrev pub bound_cause : Problem → List Line → ℕ → Option Refused
bound_cause i lines bound =
    option_and_then (λ nodes. if nat_le bound (least_floor nodes) then None else Some (BoundTooHigh bound (least_floor nodes))) (nodes_of i lines)

-- another cost than the one that is claimed
abbrev pub cost_cause : ℕ → ℕ → Option Refused
cost_cause claimed found = if found == claimed then None else Some (WrongCost claimed found)

-- the first bad row of a plan, or its cost where that isn't the one that is claimed
abbrev pub plan_cause : Problem → Option (ℕ × List Row) → Option Refused
plan_cause i None = None
plan_cause i (Some p) = option_or (option_map (λ fault. BadPlan (row_of fault)) (row_fault i p.1)) (cost_cause p.0 (cost i (rota_of p.1)))

-- the first cause: a line, then the bound, then the plan
abbrev pub cause_of : Problem → Cert → Option Refused
cause_of i c = option_or (line_cause i (new_node [] ∷ []) 1 c.lines) (option_or (bound_cause i c.lines c.bound) (plan_cause i c.plan))

-- a refusal names the first cause, and the certificate isn't accepted; or it was out of memory
abbrev pub IsRefused : Problem → Cert → Refused → Type 0
IsRefused i c NoMemory = ⊤
IsRefused i c why = (cause_of i c ≡ Some why) × IsFalse (is_accepted i c)

-- a refusal names the first line that isn't good; or it was out of memory
abbrev pub IsFirstBad : Problem → List Line → Refused → Type 0
IsFirstBad i lines NoMemory = ⊤
IsFirstBad i lines why = line_cause i (new_node [] ∷ []) 1 lines ≡ Some why
