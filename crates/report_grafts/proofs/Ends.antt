-- Which nodes of a tree are unsplit, and why a run isn't grafted.
use Rattle.report_grafts.proofs.Common.{◌≡◌, ℕ, zero, suc, ◌+◌, ◌*◌, ◌<◌, ◌≤◌, true, false, ◌==◌, List, [], ◌∷◌, length, refl, sym, ◌∙◌, subst, arith, Option, Some, None, slice_get, IsSomeAnd, list_any, option_map_or, false≢true, Problem, Cut, Node, Cert, is_accepted, Refused, BadSplit, BadPrice, NotSettled, BoundTooHigh, BadPlan, WrongCost, NoMemory, cause_of, IsRefused, Branch, branches_of, cuts_at, MakeNodes, HasEnd, IsEndFault, IsExportFault, IsGraftFault, nodes_made}
use Rattle.report_grafts.specs.declared.fault.GraftFault.{GraftFault}
use Rattle.report_grafts.specs.declared.fault.GraftFault.TheVariants.{Refused as RefusedFault, NoNode, IsSplit, OtherCuts, NoRows, NoMemory as NoMemoryFault}
use Rattle.report_grafts.proofs.Plans.{tree_made}

-- ---- one node

split_in : (o : Option Node) → option_map_or (λ (n : Node). n.split) o false ≡ true → IsSomeAnd o (λ (n : Node). n.split ≡ true)
split_in None e = absurd (false≢true e)
split_in (Some n) e = e

inside : (nodes : List Node) (k : ℕ) → k < length nodes → slice_get nodes k ≡ None → ⊥
inside [] k h e = absurd (omega arith)
inside (n ∷ nodes) zero h e = absurd (cc)
inside (n ∷ nodes) (suc k) h e = inside nodes k (omega arith) e

-- ---- the refusal of a certificate

-- the splits of an accepted certificate make its nodes
pub judged_made : (i : Problem) (c : Cert) (branches : List Branch) → is_accepted i c ≡ true → branches ≡ branches_of c.lines → MakeNodes [] branches (nodes_made i c.lines)
judged_made i c branches accepted is = subst (λ (bs : List Branch). MakeNodes [] bs (nodes_made i c.lines)) (sym is) (tree_made i c accepted)

-- ---- faults

-- and why nothing is grafted there
pub export_grafted : (i : Problem) (c : Cert) (node : ℕ) (base : List Cut) (why : GraftFault) → IsExportFault i c node why → IsGraftFault i c node base why
export_grafted i c node base (RefusedFault why) f = f
export_grafted i c node base (NoNode k) f = f
export_grafted i c node base (IsSplit k) f = f
export_grafted i c node base (OtherCuts at) f = absurd f
export_grafted i c node base NoRows f = absurd f
export_grafted i c node base NoMemoryFault f = tt
