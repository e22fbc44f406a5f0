-- The certificate of a run that is grafted into another certificate is accepted, and has no lesser bound.
use Rattle.report_grafts.proofs.Common.{◌≡◌, ◌⊎◌, inl, inr, ℕ, ◌+◌, ◌*◌, ◌<◌, ◌≤◌, Bool, true, false, cond, ◌==◌, nat_le, nat_lt, List, [], ◌∷◌, length, map, refl, sym, ap, ◌∙◌, subst, arith, Option, Some, None, slice_get, IsSomeAnd, IfSome, option_map_or, option_and_then, option_or, unwrap_or, and_parts, and_from, leb-true, le-leb, lt-leb, eqb-true, eqb-false, eq-eqb, ltb-true, ltb-false, cases_Bool, cond_both, false≢true, Row, TOP, Problem, cost, rota_of, are_legal_rows, is_legal_rota, Cut, Node, new_node, root_sound, Cert, Optimal, Stopped, Line, nodes_after, nodes_of, least_floor, is_bound, is_plan, is_accepted, Refused, BadSplit, BadPrice, NotSettled, BoundTooHigh, BadPlan, WrongCost, NoMemory, bad_line, line_cause, bound_cause, plan_cause, cause_of, IsRefused, Run, IsBest, divisions, branches_of, MakeNodes, HasEnd, TellsBound, nodes_made, grafted_line, grafted_lines, grafted_plan, found_by, status_of, AreGood}
use Rattle.rota_cost.specs.Costed.{Costing, IsCosted}
use Rattle.certificate.specs.Text.{AgreesWith}
use Rattle.certificate.proofs.Acceptance.{bounds, plans}
use Rattle.report_grafts.proofs.Lines.{FloorsFrom, first_good, after_append, lines_sound, lines_from, floors_of, least_top, least_from, counted_lines, one_good}
use Rattle.report_grafts.proofs.Follows.{follows_root, follows_lines}
use Rattle.report_grafts.proofs.Trees.{made_lines}

-- ---- an accepted certificate

tree_some : (p : List Node → Bool) (o : Option (List Node)) → option_map_or p o false ≡ true → (nodes : List Node) × (o ≡ Some nodes) × (p nodes ≡ true)
tree_some p None h = absurd (false≢true h)
tree_some p (Some nodes) h = (nodes, refl, h)

pub tree_of : (i : Problem) (c : Cert) → is_accepted i c ≡ true → (nodes : List Node) × (nodes_of i c.lines ≡ Some nodes) × (nat_le c.bound (least_floor nodes) ≡ true)
tree_of i c h = tree_some (λ nodes. nat_le c.bound (least_floor nodes)) (nodes_of i c.lines) (and_parts (is_bound i c.lines c.bound) (is_plan i c.plan) h).0

pub made_is : (i : Problem) (lines : List Line) (nodes : List Node) → nodes_of i lines ≡ Some nodes → nodes_made i lines ≡ nodes
made_is i lines nodes e = ap (λ (o : Option (List Node)). unwrap_or o []) e

-- its splits make its nodes
pub tree_made : (i : Problem) (c : Cert) → is_accepted i c ≡ true → MakeNodes [] (branches_of c.lines) (nodes_made i c.lines)
tree_made i c h =
    let t = tree_of i c h in
    subst (MakeNodes [] (branches_of c.lines)) (sym (made_is i c.lines t.0 t.1)) (made_lines i [] t.0 c.lines t.1)

-- ---- the lines

some_of : (o : Option Node) (P : Node → Type 0) → IsSomeAnd o P → (n : Node) × (o ≡ Some n) × P n
some_of None P h = absurd h
some_of (Some n) P h = (n, refl, h)

-- a run's lines behind those of a certificate, at an unsplit node that has the run's cuts
pub graft_good : (i : Problem) (whole : Cert) (node : ℕ) (base : List Cut) (run : List Line) (last : List Node) → is_accepted i whole ≡ true → HasEnd (nodes_made i whole.lines) node base → nodes_after i (new_node base ∷ []) run ≡ Some last
    → (grown : List Node) × (nodes_of i (grafted_lines whole.lines node run) ≡ Some grown) × (whole.bound ≤ least_floor grown)
graft_good i whole node base run last accepted end good =
    let t = tree_of i whole accepted in
    let nodes = t.0 in
    let splits = divisions whole.lines in
    let there : HasEnd nodes node base = subst (λ (ns : List Node). HasEnd ns node base) (made_is i whole.lines nodes t.1) end in
    let n = some_of (slice_get nodes node) (λ (n : Node). (n.split ≡ false) × (n.cuts ≡ base)) there in
    let counted : length nodes ≡ 1 + 2 * splits = counted_lines i (new_node [] ∷ []) nodes whole.lines t.1 in
    let odd : length nodes ≡ 2 * splits + 1 = omega arith in
    let start = follows_root splits node base nodes n.0 odd n.1 n.2.0 n.2.1 in
    let g = follows_lines i node splits (new_node base ∷ []) last nodes run start good in
    let joined : nodes_of i (grafted_lines whole.lines node run) ≡ Some g.0 = after_append i (new_node [] ∷ []) nodes whole.lines (map (grafted_line node splits) run) t.1 ∙ g.1 in
    let sound = lines_sound i [] (new_node [] ∷ []) nodes whole.lines (root_sound i []) t.1 in
    let claimed : whole.bound ≤ least_floor nodes = leb-true whole.bound (least_floor nodes) t.2 in
    let most : least_floor nodes ≤ TOP = least_top nodes in
    let top : whole.bound ≤ TOP = omega arith in
    let low : FloorsFrom whole.bound nodes = λ m has unsplit. let f : least_floor nodes ≤ m.floor = floors_of nodes m has unsplit in let r : whole.bound ≤ m.floor = omega arith in r in
    let after = lines_from i [] whole.bound nodes g.0 (map (grafted_line node splits) run) top sound low g.1 in
    (g.0, joined, least_from whole.bound TOP g.0 top after)

pub found_is : (i : Problem) (lines : List Line) (nodes : List Node) → nodes_of i lines ≡ Some nodes → found_by i lines ≡ least_floor nodes
found_is i lines nodes e = ap least_floor (made_is i lines nodes e)

-- what is found by good lines is a bound
pub found_bounds : (i : Problem) (lines : List Line) (nodes : List Node) (bound : ℕ) → nodes_of i lines ≡ Some nodes → bound ≡ found_by i lines → is_bound i lines bound ≡ true
found_bounds i lines nodes bound e is =
    let low : bound ≤ least_floor nodes = let same : bound ≡ least_floor nodes = is ∙ found_is i lines nodes e in omega arith in
    ap (λ (o : Option (List Node)). option_map_or (λ ns. nat_le bound (least_floor ns)) o false) e ∙ le-leb bound (least_floor nodes) low

-- ---- the plan

plan_of_best : (i : Problem) (best : Costing) → best.instance ≡ i → IsCosted best → is_plan i (Some (best.cost, best.rows)) ≡ true
plan_of_best i best same costed =
    let legal : are_legal_rows i best.rows ≡ true = subst (λ (j : Problem). are_legal_rows j best.rows ≡ true) same costed.legal in
    let exact : cost i (rota_of best.rows) ≡ best.cost = sym (subst (λ (j : Problem). best.cost ≡ cost j (rota_of best.rows)) same costed.exact) in
    and_from (are_legal_rows i best.rows) (cost i (rota_of best.rows) == best.cost) legal (eq-eqb (cost i (rota_of best.rows)) best.cost exact)

-- the cheaper of two plans that are legal at their costs is so
pub plan_kept : (i : Problem) (r : Run) (plan : Option (ℕ × List Row)) (best : Option Costing) → r.instance ≡ i → IfSome best (IsBest r) → is_plan i plan ≡ true → is_plan i (grafted_plan plan best) ≡ true
plan_kept i r None best same b h = refl
plan_kept i r (Some p) None same b h = h
plan_kept i r (Some p) (Some best) same b h =
    cond_both (nat_lt best.cost p.0) (Some (best.cost, best.rows)) (Some p) (λ x. is_plan i x ≡ true)
    (λ _. plan_of_best i best (b.same ∙ same) b.costed) (λ _. h)

-- ---- the status

below_or_same : (a b : ℕ) → a ≤ b → (a < b) ⊎ (a ≡ b)
below_or_same a b h =
    elim (cases_Bool (nat_lt a b)) [
      | inl t ↦ inl (ltb-true a b t)
      | inr f ↦ let ge : b ≤ a = ltb-false a b f in inr (omega arith)
    ]

status_agrees : (plan : Option (ℕ × List Row)) (bound : ℕ) → ((p : ℕ × List Row) → plan ≡ Some p → bound ≤ p.0) → AgreesWith (status_of plan bound) plan bound
status_agrees None bound h = tt
status_agrees (Some p) bound h =
    elim (cases_Bool (p.0 == bound)) [
      | inl e ↦ subst (λ (x : Bool). AgreesWith (cond x Optimal Stopped) (Some p) bound) (sym e) (eqb-true p.0 bound e)
      | inr e ↦
          let le : bound ≤ p.0 = h p refl in
          let apart = eqb-false p.0 bound e in
          let less : bound < p.0 = elim (below_or_same bound p.0 le) [ inl l ↦ l | inr s ↦ absurd (apart (sym s)) ] in
          subst (λ (x : Bool). AgreesWith (cond x Optimal Stopped) (Some p) bound) (sym e) less
    ]

-- the status of an accepted certificate, by its cost and its bound, agrees with them
pub accepted_agrees : (i : Problem) (c : Cert) → is_accepted i c ≡ true → c.status ≡ status_of c.plan c.bound → AgreesWith c.status c.plan c.bound
accepted_agrees i c accepted is =
    subst (λ s. AgreesWith s c.plan c.bound) (sym is) (status_agrees c.plan c.bound (λ p e.
    let plan = plans i c accepted p e in
    let legal = (and_parts _ (is_legal_rota i (rota_of p.1)) plan.0).1 in
    let low : c.bound ≤ cost i (rota_of p.1) = bounds i c accepted (rota_of p.1) legal in
    let exact : cost i (rota_of p.1) ≡ p.0 = plan.1 in
    omega arith))

-- ---- what the checker finds

no_line_cause : (i : Problem) (nodes last : List Node) (number : ℕ) (lines : List Line) → nodes_after i nodes lines ≡ Some last → line_cause i nodes number lines ≡ None
no_line_cause i nodes last number [] e = refl
no_line_cause i nodes last number (line ∷ lines) e =
    let r = first_good i nodes last line lines e in
    ap (λ (o : Option (List Node)). option_map_or (λ next. line_cause i next (number + 1) lines) o (Some (bad_line line number))) (one_good i nodes r.0 line [] r.1)
    ∙ no_line_cause i r.0 last (number + 1) lines r.2

-- where more is claimed of good lines than any lines show, the checker tells what they show
pub claim_cause : (i : Problem) (c : Cert) (nodes : List Node) → nodes_of i c.lines ≡ Some nodes → TOP < c.bound → cause_of i c ≡ Some (BoundTooHigh c.bound (found_by i c.lines))
claim_cause i c nodes e high =
    let most : least_floor nodes ≤ TOP = least_top nodes in
    let less : least_floor nodes < c.bound = omega arith in
    ap (λ (o : Option Refused). option_or o (option_or (bound_cause i c.lines c.bound) (plan_cause i c.plan))) (no_line_cause i (new_node [] ∷ []) nodes 1 c.lines e)
    ∙ ap (λ (o : Option (List Node)). option_or (option_and_then (λ ns. cond (nat_le c.bound (least_floor ns)) None (Some (BoundTooHigh c.bound (least_floor ns)))) o) (plan_cause i c.plan)) e
    ∙ ap (λ b. option_or (cond b None (Some (BoundTooHigh c.bound (least_floor nodes)))) (plan_cause i c.plan)) (lt-leb c.bound (least_floor nodes) less)
    ∙ ap (λ n. Some (BoundTooHigh c.bound n)) (sym (found_is i c.lines nodes e))

-- so it isn't accepted
pub claim_refused : (i : Problem) (c : Cert) → AreGood i c.lines → TOP < c.bound → cause_of i c ≡ None → ⊥
claim_refused i c good high e = let f : None ≡ Some (BoundTooHigh c.bound (found_by i c.lines)) = sym e ∙ claim_cause i c good.0 good.1 high in absurd (cc)

pub claim_tells : (i : Problem) (c : Cert) (why : Refused) → AreGood i c.lines → TOP < c.bound → IsRefused i c why → TellsBound (found_by i c.lines) why
claim_tells i c (BadSplit line) good high r = let f : Some (BadSplit line) ≡ Some (BoundTooHigh c.bound (found_by i c.lines)) = sym r.0 ∙ claim_cause i c good.0 good.1 high in absurd (cc)
claim_tells i c (BadPrice line) good high r = let f : Some (BadPrice line) ≡ Some (BoundTooHigh c.bound (found_by i c.lines)) = sym r.0 ∙ claim_cause i c good.0 good.1 high in absurd (cc)
claim_tells i c (NotSettled line) good high r = let f : Some (NotSettled line) ≡ Some (BoundTooHigh c.bound (found_by i c.lines)) = sym r.0 ∙ claim_cause i c good.0 good.1 high in absurd (cc)
claim_tells i c (BoundTooHigh claimed found) good high r = let f : Some (BoundTooHigh claimed found) ≡ Some (BoundTooHigh c.bound (found_by i c.lines)) = sym r.0 ∙ claim_cause i c good.0 good.1 high in cc
claim_tells i c (BadPlan row) good high r = let f : Some (BadPlan row) ≡ Some (BoundTooHigh c.bound (found_by i c.lines)) = sym r.0 ∙ claim_cause i c good.0 good.1 high in absurd (cc)
claim_tells i c (WrongCost claimed found) good high r = let f : Some (WrongCost claimed found) ≡ Some (BoundTooHigh c.bound (found_by i c.lines)) = sym r.0 ∙ claim_cause i c good.0 good.1 high in absurd (cc)
claim_tells i c NoMemory good high r = tt
