-- What a line makes, and the first cause.
use Rattle.cert_check.proofs.Common.{◌≡◌, ◌⊎◌, inl, inr, ℕ, ◌+◌, ◌≤◌, Bool, true, false, cond, ◌&&◌, ◌==◌, not, nat_le, max, List, [], ◌∷◌, refl, sym, ap, subst, ◌∙◌, Option, Some, None, slice_get, IsSomeAnd, option_map, option_map_or, option_and_then, option_or, not-true, false≢true, and_from, and_parts, le-leb, Row, Problem, cost, rota_of, are_legal_rows, is_some_and_at, Class, Cut, Prices, are_prices, bound_of, is_settled, Node, new_node, with_floor, with_split, settled_floor, Line, Split, Settled, is_split, node_line, node_of, nodes_after, nodes_of, least_floor, is_plan, is_accepted, bad_line, line_cause, bound_cause, cost_cause, plan_cause, cause_of, IsRefused, IsFirstBad}
use Rattle.rota_cost.specs.declared.RowFault.{RowFault}
use Rattle.rota_cost.specs.RowFaults.{row_fault, row_of}
use Rattle.rota_cost.proofs.RowLaw.{legal_from_none, none_from_legal}
use Rattle.certificate.specs.declared.Cert.{Cert}
use Rattle.certificate.specs.declared.proof_lines.Line.TheVariants.{Priced}
use Rattle.cert_check.specs.declared.judged.Refused.{Refused}
use Rattle.cert_check.specs.declared.judged.Refused.TheVariants.{BadSplit, BadPrice, NotSettled, BoundTooHigh, BadPlan, WrongCost, NoMemory}

-- ---- one line

itself : {X : Type 0} (o : Option X) → option_and_then (λ x. Some x) o ≡ o
itself None = refl
itself (Some x) = refl

one_line : (i : Problem) (nodes : List Node) (line : Line) → nodes_after i nodes (line ∷ []) ≡ option_and_then (λ n. node_line i nodes n line) (slice_get nodes (node_of line))
one_line i nodes line = itself (option_and_then (λ n. node_line i nodes n line) (slice_get nodes (node_of line)))

-- an unsplit node is there
unsplit_in : (o : Option Node) → option_map_or (λ (n : Node). not n.split) o false ≡ true → (n : Node) × (o ≡ Some n) × (n.split ≡ false)
unsplit_in None h = absurd (false≢true h)
unsplit_in (Some n) h = (n, refl, not-true n.split h)

pub unsplit_node : (nodes : List Node) (k : ℕ) → option_map_or (λ (n : Node). not n.split) (slice_get nodes k) false ≡ true → (n : Node) × (slice_get nodes k ≡ Some n) × (n.split ≡ false)
unsplit_node nodes k h = unsplit_in (slice_get nodes k) h

split_line : (i : Problem) (nodes : List Node) (n : Node) (line : Line) → not n.split ≡ false → node_line i nodes n line ≡ None
split_line i nodes n (Split k class m) h = ap (λ b. cond (b && is_split i class m) (Some (with_split nodes k n class m)) None) h
split_line i nodes n (Priced k prices) h = ap (λ b. cond (b && are_prices i n.cuts prices) (Some (with_floor nodes k n (max n.floor (bound_of i n.cuts prices)))) None) h
split_line i nodes n (Settled k) h = ap (λ b. cond (b && is_settled i n.cuts) (Some (with_floor nodes k n (settled_floor i n.cuts))) None) h

no_line : (i : Problem) (nodes : List Node) (line : Line) (o : Option Node) → option_map_or (λ (n : Node). not n.split) o false ≡ false → option_and_then (λ n. node_line i nodes n line) o ≡ None
no_line i nodes line None h = refl
no_line i nodes line (Some n) h = split_line i nodes n line h

-- a line for a node that isn't there or is split isn't good
pub no_node : (i : Problem) (nodes : List Node) (line : Line) → option_map_or (λ (n : Node). not n.split) (slice_get nodes (node_of line)) false ≡ false → nodes_after i nodes (line ∷ []) ≡ None
no_node i nodes line h = one_line i nodes line ∙ no_line i nodes line (slice_get nodes (node_of line)) h

at_node : (i : Problem) (nodes : List Node) (line : Line) (n : Node) → slice_get nodes (node_of line) ≡ Some n → nodes_after i nodes (line ∷ []) ≡ node_line i nodes n line
at_node i nodes line n e = one_line i nodes line ∙ ap (option_and_then (λ n. node_line i nodes n line)) e

-- a line for an unsplit node, by what else it asks
asked : {X : Type 0} (n : Node) (b c : Bool) (o : Option X) → n.split ≡ false → b ≡ c → cond (not n.split && b) o None ≡ cond c o None
asked n b c o h e = ap (λ s. cond (not s && b) o None) h ∙ ap (λ b. cond b o None) e

pub price_good : (i : Problem) (nodes new : List Node) (k : ℕ) (prices : Prices) (cuts : List Cut) (bound : ℕ) → option_map_or (λ (n : Node). not n.split) (slice_get nodes k) false ≡ true
    → IsSomeAnd (slice_get nodes k) (λ (n : Node). cuts ≡ n.cuts) → are_prices i cuts prices ≡ true → bound ≡ bound_of i cuts prices
    → IsSomeAnd (slice_get nodes k) (λ (n : Node). new ≡ with_floor nodes k n (max n.floor bound)) → nodes_after i nodes (Priced k prices ∷ []) ≡ Some new
price_good i nodes new k prices cuts bound u c h v s =
    let n = unsplit_node nodes k u in
    let same : cuts ≡ n.0.cuts = is_some_and_at (slice_get nodes k) (λ (n : Node). cuts ≡ n.cuts) n.0 n.1 c in
    let made : new ≡ with_floor nodes k n.0 (max n.0.floor bound) = is_some_and_at (slice_get nodes k) (λ (n : Node). new ≡ with_floor nodes k n (max n.floor bound)) n.0 n.1 s in
    at_node i nodes (Priced k prices) n.0 n.1
    ∙ asked n.0 (are_prices i n.0.cuts prices) true (Some (with_floor nodes k n.0 (max n.0.floor (bound_of i n.0.cuts prices)))) n.2 (ap (λ (cuts : List Cut). are_prices i cuts prices) (sym same) ∙ h)
    ∙ ap Some (sym (made ∙ ap (λ b. with_floor nodes k n.0 (max n.0.floor b)) (v ∙ ap (λ (cuts : List Cut). bound_of i cuts prices) same)))

settled_found : (i : Problem) (cuts : List Cut) (floor : ℕ) (b : Bool) → cond b (Some (settled_floor i cuts)) None ≡ Some floor → (b ≡ true) × (settled_floor i cuts ≡ floor)
settled_found i cuts floor true e = let same : settled_floor i cuts ≡ floor = cc in (refl, same)
settled_found i cuts floor false e = absurd (cc)

not_found : (i : Problem) (cuts : List Cut) (b : Bool) → cond b (Some (settled_floor i cuts)) None ≡ None → b ≡ false
not_found i cuts true e = absurd (cc)
not_found i cuts false e = refl

pub settle_bad : (i : Problem) (nodes : List Node) (k : ℕ) (cuts : List Cut) (found : Option ℕ) → option_map_or (λ (n : Node). not n.split) (slice_get nodes k) false ≡ true
    → IsSomeAnd (slice_get nodes k) (λ (n : Node). cuts ≡ n.cuts) → found ≡ cond (is_settled i cuts) (Some (settled_floor i cuts)) None → found ≡ None
    → nodes_after i nodes (Settled k ∷ []) ≡ None
settle_bad i nodes k cuts found u c f h =
    let n = unsplit_node nodes k u in
    let same : cuts ≡ n.0.cuts = is_some_and_at (slice_get nodes k) (λ (n : Node). cuts ≡ n.cuts) n.0 n.1 c in
    at_node i nodes (Settled k) n.0 n.1
    ∙ asked n.0 (is_settled i n.0.cuts) false (Some (with_floor nodes k n.0 (settled_floor i n.0.cuts))) n.2 (ap (is_settled i) (sym same) ∙ not_found i cuts (is_settled i cuts) (sym f ∙ h))

pub settle_good : (i : Problem) (nodes new : List Node) (k : ℕ) (cuts : List Cut) (found : Option ℕ) (floor : ℕ) → option_map_or (λ (n : Node). not n.split) (slice_get nodes k) false ≡ true
    → IsSomeAnd (slice_get nodes k) (λ (n : Node). cuts ≡ n.cuts) → found ≡ cond (is_settled i cuts) (Some (settled_floor i cuts)) None → found ≡ Some floor
    → IsSomeAnd (slice_get nodes k) (λ (n : Node). new ≡ with_floor nodes k n floor) → nodes_after i nodes (Settled k ∷ []) ≡ Some new
settle_good i nodes new k cuts found floor u c f h s =
    let n = unsplit_node nodes k u in
    let same : cuts ≡ n.0.cuts = is_some_and_at (slice_get nodes k) (λ (n : Node). cuts ≡ n.cuts) n.0 n.1 c in
    let made : new ≡ with_floor nodes k n.0 floor = is_some_and_at (slice_get nodes k) (λ (n : Node). new ≡ with_floor nodes k n floor) n.0 n.1 s in
    let is = settled_found i cuts floor (is_settled i cuts) (sym f ∙ h) in
    at_node i nodes (Settled k) n.0 n.1
    ∙ asked n.0 (is_settled i n.0.cuts) true (Some (with_floor nodes k n.0 (settled_floor i n.0.cuts))) n.2 (ap (is_settled i) (sym same) ∙ is.0)
    ∙ ap Some (sym (made ∙ ap (with_floor nodes k n.0) (sym is.1 ∙ ap (settled_floor i) same)))

-- ---- the lines

line_step : (i : Problem) (nodes : List Node) (line : Line) (lines : List Line) (o : Option (List Node)) → nodes_after i nodes (line ∷ []) ≡ o → nodes_after i nodes (line ∷ lines) ≡ option_and_then (λ next. nodes_after i next lines) o
line_step i nodes line lines o e = ap (option_and_then (λ next. nodes_after i next lines)) (sym (one_line i nodes line) ∙ e)

pub good_cause : (i : Problem) (nodes next : List Node) (number : ℕ) (line : Line) (lines : List Line) → nodes_after i nodes (line ∷ []) ≡ Some next → line_cause i nodes number (line ∷ lines) ≡ line_cause i next (number + 1) lines
good_cause i nodes next number line lines e = ap (λ (o : Option (List Node)). option_map_or (λ next. line_cause i next (number + 1) lines) o (Some (bad_line line number))) e

pub good_nodes : (i : Problem) (nodes next : List Node) (line : Line) (lines : List Line) → nodes_after i nodes (line ∷ []) ≡ Some next → nodes_after i nodes (line ∷ lines) ≡ nodes_after i next lines
good_nodes i nodes next line lines e = line_step i nodes line lines (Some next) e

some_or_none : {X : Type 0} (o : Option X) → (o ≡ None) ⊎ ((x : X) × (o ≡ Some x))
some_or_none None = inl refl
some_or_none (Some x) = inr (x, refl)

no_nodes : (i : Problem) (nodes : List Node) (number : ℕ) (lines : List Line) (why : Refused) → line_cause i nodes number lines ≡ Some why → nodes_after i nodes lines ≡ None
no_nodes i nodes number [] why e = absurd (cc)
no_nodes i nodes number (line ∷ lines) why e =
    elim (some_or_none (nodes_after i nodes (line ∷ []))) [
      | inl none ↦ line_step i nodes line lines None none
      | inr s ↦ good_nodes i nodes s.0 line lines s.1 ∙ no_nodes i s.0 (number + 1) lines why (sym (good_cause i nodes s.0 number line lines s.1) ∙ e)
    ]

-- ---- a certificate

refused : (i : Problem) (c : Cert) (why : Refused) → cause_of i c ≡ Some why → is_accepted i c ≡ false → IsRefused i c why
refused i c (BadSplit line) e h = (e, h)
refused i c (BadPrice line) e h = (e, h)
refused i c (NotSettled line) e h = (e, h)
refused i c (BoundTooHigh claimed found) e h = (e, h)
refused i c (BadPlan row) e h = (e, h)
refused i c (WrongCost claimed found) e h = (e, h)
refused i c NoMemory e h = tt

by_line : (i : Problem) (c : Cert) (why : Refused) → line_cause i (new_node [] ∷ []) 1 c.lines ≡ Some why → IsRefused i c why
by_line i c why e =
    refused i c why
    (ap (λ (o : Option Refused). option_or o (option_or (bound_cause i c.lines c.bound) (plan_cause i c.plan))) e)
    (ap (λ (o : Option (List Node)). option_map_or (λ nodes. nat_le c.bound (least_floor nodes)) o false && is_plan i c.plan) (no_nodes i (new_node [] ∷ []) 1 c.lines why e))

pub line_refused : (i : Problem) (c : Cert) (why : Refused) → IsFirstBad i c.lines why → IsRefused i c why
line_refused i c (BadSplit line) e = by_line i c (BadSplit line) e
line_refused i c (BadPrice line) e = by_line i c (BadPrice line) e
line_refused i c (NotSettled line) e = by_line i c (NotSettled line) e
line_refused i c (BoundTooHigh claimed found) e = by_line i c (BoundTooHigh claimed found) e
line_refused i c (BadPlan row) e = by_line i c (BadPlan row) e
line_refused i c (WrongCost claimed found) e = by_line i c (WrongCost claimed found) e
line_refused i c NoMemory e = tt

-- the cause of good lines, by whether the bound keeps to what they find
cause_behind : (i : Problem) (c : Cert) (nodes : List Node) (b : Bool) → line_cause i (new_node [] ∷ []) 1 c.lines ≡ None → nodes_of i c.lines ≡ Some nodes → nat_le c.bound (least_floor nodes) ≡ b
    → cause_of i c ≡ option_or (cond b None (Some (BoundTooHigh c.bound (least_floor nodes)))) (plan_cause i c.plan)
cause_behind i c nodes b e n h =
    ap (λ (o : Option Refused). option_or o (option_or (bound_cause i c.lines c.bound) (plan_cause i c.plan))) e
    ∙ ap (λ (o : Option (List Node)). option_or (option_and_then (λ nodes. cond (nat_le c.bound (least_floor nodes)) None (Some (BoundTooHigh c.bound (least_floor nodes)))) o) (plan_cause i c.plan)) n
    ∙ ap (λ b. option_or (cond b None (Some (BoundTooHigh c.bound (least_floor nodes)))) (plan_cause i c.plan)) h

accepted_behind : (i : Problem) (c : Cert) (nodes : List Node) (b : Bool) → nodes_of i c.lines ≡ Some nodes → nat_le c.bound (least_floor nodes) ≡ b → is_accepted i c ≡ (b && is_plan i c.plan)
accepted_behind i c nodes b n h =
    ap (λ (o : Option (List Node)). option_map_or (λ nodes. nat_le c.bound (least_floor nodes)) o false && is_plan i c.plan) n
    ∙ ap (λ b. b && is_plan i c.plan) h

-- a plan is legal at its cost exactly where there is no cause
option_or_none : {X : Type 0} (o p : Option X) → option_or o p ≡ None → (o ≡ None) × (p ≡ None)
option_or_none None p e = (refl, e)
option_or_none (Some x) p e = absurd (cc)

mapped_none : {X Y : Type 0} (f : X → Y) (o : Option X) → option_map f o ≡ None → o ≡ None
mapped_none f None e = refl
mapped_none f (Some x) e = absurd (cc)

cost_same : (claimed found : ℕ) (b : Bool) → cond b None (Some (WrongCost claimed found)) ≡ None → b ≡ true
cost_same claimed found true e = refl
cost_same claimed found false e = absurd (cc)

pub plan_good : (i : Problem) (plan : Option (ℕ × List Row)) → plan_cause i plan ≡ None → is_plan i plan ≡ true
plan_good i None e = refl
plan_good i (Some p) e =
    let found = cost i (rota_of p.1) in
    let o = option_or_none (option_map (λ (fault : RowFault). BadPlan (row_of fault)) (row_fault i p.1)) (cost_cause p.0 found) e in
    and_from (are_legal_rows i p.1) (found == p.0)
    (legal_from_none i p.1 (mapped_none (λ (fault : RowFault). BadPlan (row_of fault)) (row_fault i p.1) o.0))
    (cost_same p.0 found (found == p.0) o.1)

plan_bool : (i : Problem) (plan : Option (ℕ × List Row)) (b : Bool) → is_plan i plan ≡ b → (why : Refused) → plan_cause i plan ≡ Some why → is_plan i plan ≡ false
plan_bool i plan false e why h = e
plan_bool i None true e why h = absurd (cc)
plan_bool i (Some p) true e why h =
    let found = cost i (rota_of p.1) in
    let a = and_parts (are_legal_rows i p.1) (found == p.0) e in
    let none : plan_cause i (Some p) ≡ None =
    ap (λ o. option_or (option_map (λ (fault : RowFault). BadPlan (row_of fault)) o) (cost_cause p.0 found)) (none_from_legal i p.1 a.0) ∙ ap (λ b. cond b None (Some (WrongCost p.0 found))) a.1 in
    let both : None ≡ Some why = sym none ∙ h in
    absurd (cc)

pub plan_bad : (i : Problem) (plan : Option (ℕ × List Row)) (why : Refused) → plan_cause i plan ≡ Some why → is_plan i plan ≡ false
plan_bad i plan why h = plan_bool i plan (is_plan i plan) refl why h

pub plan_refused : (i : Problem) (c : Cert) (nodes : List Node) (why : Refused) → line_cause i (new_node [] ∷ []) 1 c.lines ≡ None → nodes_of i c.lines ≡ Some nodes → nat_le c.bound (least_floor nodes) ≡ true
    → plan_cause i c.plan ≡ Some why → IsRefused i c why
plan_refused i c nodes why e n h p = refused i c why (cause_behind i c nodes true e n h ∙ p) (accepted_behind i c nodes true n h ∙ plan_bad i c.plan why p)

pub all_good : (i : Problem) (c : Cert) (nodes : List Node) → line_cause i (new_node [] ∷ []) 1 c.lines ≡ None → nodes_of i c.lines ≡ Some nodes → nat_le c.bound (least_floor nodes) ≡ true
    → plan_cause i c.plan ≡ None → (cause_of i c ≡ None) × (is_accepted i c ≡ true)
all_good i c nodes e n h p = (cause_behind i c nodes true e n h ∙ p, accepted_behind i c nodes true n h ∙ plan_good i c.plan p)

-- the same, as a check comes to it
pub check_good : (i : Problem) (c : Cert) (nodes : List Node) (found : ℕ) → nodes_of i c.lines ≡ Some nodes → line_cause i (new_node [] ∷ []) 1 c.lines ≡ None
    → found ≡ least_floor nodes → c.bound ≤ found → plan_cause i c.plan ≡ None → is_accepted i c ≡ true
check_good i c nodes found n e f h p = (all_good i c nodes e n (le-leb c.bound (least_floor nodes) (subst (λ k. c.bound ≤ k) f h)) p).1

pub check_plan : (i : Problem) (c : Cert) (nodes : List Node) (found : ℕ) (why : Refused) → nodes_of i c.lines ≡ Some nodes → line_cause i (new_node [] ∷ []) 1 c.lines ≡ None
    → found ≡ least_floor nodes → c.bound ≤ found → plan_cause i c.plan ≡ Some why → IsRefused i c why
check_plan i c nodes found why n e f h p = plan_refused i c nodes why e n (le-leb c.bound (least_floor nodes) (subst (λ k. c.bound ≤ k) f h)) p
