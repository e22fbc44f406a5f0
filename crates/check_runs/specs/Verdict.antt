-- What a command says of a report. Source: this project's profile.
use Rattle.std.specs.Prelude.{◌≡◌, ℕ, ◌≤◌, Bool, IsTrue, List, [], ◌++◌, Option, Some, None, codes}
use Rattle.std.specs.Option.{option_map, option_map_or}
use Rattle.std.specs.Fmt.{decimal}
use Rattle.shift_instance.specs.declared.Duty.{Duty}
use Rattle.shift_instance.specs.declared.Row.{Row}
use Rattle.shift_instance.specs.Problem.{Problem}
use Rattle.shift_instance.specs.Rota.{are_legal_rows, cost, is_legal_rota, rota_of}
use Rattle.certificate.specs.declared.Cert.{Cert}
use Rattle.certificate.specs.Accepted.{is_accepted}
use Rattle.cert_check.specs.declared.judged.Refused.{Refused}
use Rattle.cert_check.specs.declared.judged.Refused.TheVariants.{BadSplit, BadPrice, NotSettled, BoundTooHigh, BadPlan, WrongCost, NoMemory}
use Rattle.cert_check.specs.Judged.{cause_of}
use Rattle.check_runs.specs.declared.words.Command.{Command}
use Rattle.check_runs.specs.declared.words.Command.TheVariants.{Check, Recount}
use Rattle.check_runs.specs.Recount.{are_accepted, recount_text}

-- the rows of a certificate's plan, where it has one
abbrev pub plan_rows : Cert → Option (List Row)
plan_rows c = option_map (λ p. p.1) c.plan

-- the cost of a certificate's plan, where it has one
abbrev pub plan_cost : Cert → Option ℕ
plan_cost c = option_map (λ p. p.0) c.plan

-- a cost, and `-` where there is none
abbrev pub cost_word : Option ℕ → List ℕ
cost_word None = codes "-"
cost_word (Some claimed) = decimal claimed

-- what is said of an accepted certificate with that cost and that bound
abbrev pub accepted_text : Option ℕ → ℕ → List ℕ
accepted_text claimed bound = codes "accepted cost " ++ (cost_word claimed ++ (codes " bound " ++ decimal bound))

-- what is said of the first cause why a certificate isn't accepted; running out of memory is none
abbrev pub refused_text : Refused → List ℕ
refused_text (BadSplit line) = codes "refused 1 " ++ decimal line
refused_text (BadPrice line) = codes "refused 2 " ++ decimal line
refused_text (NotSettled line) = codes "refused 3 " ++ decimal line
refused_text (BoundTooHigh claimed found) = codes "refused 4 " ++ (decimal claimed ++ (codes " " ++ decimal found))
refused_text (BadPlan row) = codes "refused 5 " ++ decimal row
refused_text (WrongCost claimed found) = codes "refused 6 " ++ (decimal claimed ++ (codes " " ++ decimal found))
refused_text NoMemory = []

-- a refusal that isn't running out of memory
abbrev pub IsCause : Refused → Type 0
IsCause why = why ≡ NoMemory → ⊥

-- what a check says of a certificate: that it is accepted, or the first cause why it isn't
abbrev pub check_text : Problem → Cert → List ℕ
check_text i c = option_map_or refused_text (cause_of i c) (accepted_text (plan_cost c) c.bound)

-- what a command says of a certificate
abbrev pub verdict_text : Command → Problem → Cert → List ℕ
verdict_text Check i c = check_text i c
verdict_text Recount i c = recount_text i (plan_rows c)

-- whether a command accepts a certificate
abbrev pub accepts : Command → Problem → Cert → Bool
accepts Check i c = is_accepted i c
accepts Recount i c = are_accepted i (plan_rows c)

-- every legal rota costs at least the bound of a certificate
abbrev pub BoundIsTrue : Problem → Cert → Type 0
BoundIsTrue i c = (rota : List Duty) → IsTrue (is_legal_rota i rota) → c.bound ≤ cost i rota

-- the rows of a certificate, where it has a plan, are legal and cost what it claims
abbrev pub PlanIsTrue : Problem → Cert → Type 0
PlanIsTrue i c = (claimed : ℕ) (rows : List Row) → c.plan ≡ Some (claimed, rows) → IsTrue (are_legal_rows i rows) × (cost i (rota_of rows) ≡ claimed)

-- what an accepted certificate shows: by a check that its bound and its plan are true; a recount looks at no bound and at no claim
abbrev pub Shows : Command → Problem → Cert → Type 0
Shows Check i c = BoundIsTrue i c × PlanIsTrue i c
Shows Recount i c = Unit {0}
