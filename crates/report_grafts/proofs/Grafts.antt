-- A run that is grafted: its lines fit, and the certificate is accepted.
use Rattle.report_grafts.proofs.Common.{◌≡◌, ℕ, suc, ◌+◌, ◌*◌, ◌^◌, ◌<◌, ◌≤◌, true, List, [], ◌∷◌, ◌++◌, length, map, sym, ap, ◌∙◌, subst, append_assoc, arith, Some, All, AllByRecursion, and_parts, and_from, Problem, Cut, Node, new_node, Cert, Line, Split, Priced, Settled, node_of, nodes_after, nodes_of, least_floor, is_bound, is_plan, is_accepted, Branch, Run, IsSound, divisions, branches_of, MakeNodes, HasEnd, HasOpenEnd, nodes_made, grafted_line, grafted_lines, grafted_plan, found_by, AreGood}
use Rattle.std.proofs.lemmas.List.Elements.{All-from_recursion}
use Rattle.report_grafts.proofs.Lines.{counted_lines, divisions_cons, named_lines}
use Rattle.report_grafts.proofs.Trees.{branches_counted}
use Rattle.report_grafts.proofs.Plans.{graft_good, found_is, found_bounds, plan_kept}

-- ---- numbers that fit

divisions_few : (lines : List Line) → divisions lines ≤ length lines
divisions_few [] = omega arith
divisions_few (Split k class m ∷ lines) =
    let rest : divisions lines ≤ length lines = divisions_few lines in
    let more : divisions (Split k class m ∷ lines) ≡ 1 + divisions lines = divisions_cons (Split k class m) lines in
    omega (arith, rest, more)
divisions_few (Priced k prices ∷ lines) = let rest : divisions lines ≤ length lines = divisions_few lines in omega (arith, rest)
divisions_few (Settled k ∷ lines) = let rest : divisions lines ≤ length lines = divisions_few lines in omega (arith, rest)

-- the splits of some lines are no more than the lines
pub branches_few : (lines : List Line) (branches : List Branch) → branches ≡ branches_of lines → length branches ≤ length lines
branches_few lines branches e =
    let same : length branches ≡ length (branches_of lines) = ap length e in
    let counted : length (branches_of lines) ≡ divisions lines = branches_counted lines in
    let few : divisions lines ≤ length lines = divisions_few lines in
    omega (arith, same, counted, few)

pub branches_number : (lines : List Line) (branches : List Branch) → branches ≡ branches_of lines → length branches ≡ divisions lines
branches_number lines branches e = ap length e ∙ branches_counted lines

wider : (splits : ℕ) (lines : List Line) → splits ≤ 2 ^ 28 → AllByRecursion (λ line. node_of line < 2000000001) lines → AllByRecursion (λ line. node_of line + 2 * splits < 2 ^ 32) lines
wider splits [] few h = tt
wider splits (line ∷ lines) few h = (omega (arith, few, h.0), wider splits lines few h.1)

-- the numbers of a run's nodes fit where there are few splits before them
pub run_fits : (r : Run) (splits : ℕ) → IsSound r → splits ≤ 2 ^ 28 → All (λ line. node_of line + 2 * splits < 2 ^ 32) r.lines
run_fits r splits s few =
    let counted : length s.nodes ≡ 1 + 2 * divisions r.lines = counted_lines r.instance (new_node r.base ∷ []) s.nodes r.lines s.good in
    let most : divisions r.lines ≤ 10 ^ 9 = s.few in
    let within : length s.nodes ≤ 2000000001 = omega (arith, counted, most) in
    All-from_recursion (λ line. node_of line + 2 * splits < 2 ^ 32) r.lines (wider splits r.lines few (named_lines r.instance (new_node r.base ∷ []) s.nodes r.lines 2000000001 s.good within))

-- ---- the certificate

graft_of : (i : Problem) (whole : Cert) (node : ℕ) (r : Run) → HasOpenEnd i whole node r.base → IsSound r → r.instance ≡ i
    → (grown : List Node) × (nodes_of i (grafted_lines whole.lines node r.lines) ≡ Some grown) × (whole.bound ≤ least_floor grown)
graft_of i whole node r end s same =
    graft_good i whole node r.base r.lines s.nodes end.0 end.1 (subst (λ (j : Problem). nodes_after j (new_node r.base ∷ []) r.lines ≡ Some s.nodes) same s.good)

pub lines_good : (i : Problem) (whole : Cert) (node : ℕ) (r : Run) (lines : List Line) → HasOpenEnd i whole node r.base → IsSound r → r.instance ≡ i → lines ≡ grafted_lines whole.lines node r.lines → AreGood i lines
lines_good i whole node r lines end s same is = let g = graft_of i whole node r end s same in (g.0, ap (nodes_of i) is ∙ g.1)

pub graft_accepted : (i : Problem) (whole : Cert) (node : ℕ) (r : Run) (c : Cert) → HasOpenEnd i whole node r.base → IsSound r → r.instance ≡ i
    → c.lines ≡ grafted_lines whole.lines node r.lines → c.plan ≡ grafted_plan whole.plan r.best → c.bound ≡ found_by i c.lines → is_accepted i c ≡ true
graft_accepted i whole node r c end s same lines plan bound =
    let g = graft_of i whole node r end s same in
    let good : nodes_of i c.lines ≡ Some g.0 = ap (nodes_of i) lines ∙ g.1 in
    let old : is_plan i whole.plan ≡ true = (and_parts (is_bound i whole.lines whole.bound) (is_plan i whole.plan) end.0).1 in
    let kept : is_plan i c.plan ≡ true = ap (is_plan i) plan ∙ plan_kept i r whole.plan r.best same s.best old in
    and_from (is_bound i c.lines c.bound) (is_plan i c.plan) (found_bounds i c.lines g.0 c.bound good bound) kept

pub graft_better : (i : Problem) (whole : Cert) (node : ℕ) (r : Run) (c : Cert) → HasOpenEnd i whole node r.base → IsSound r → r.instance ≡ i
    → c.lines ≡ grafted_lines whole.lines node r.lines → c.bound ≡ found_by i c.lines → whole.bound ≤ c.bound
graft_better i whole node r c end s same lines bound =
    let g = graft_of i whole node r end s same in
    let is : c.bound ≡ least_floor g.0 = bound ∙ found_is i c.lines g.0 (ap (nodes_of i) lines ∙ g.1) in
    let low : whole.bound ≤ least_floor g.0 = g.2 in
    omega (arith, is, low)

-- ---- one line after another

pub grafted_more : (node splits : ℕ) (list pushed goal : List Line) (line : Line) (reader rest : List Line) → pushed ≡ list ++ grafted_line node splits line ∷ [] → reader ≡ line ∷ rest
    → list ++ map (grafted_line node splits) reader ≡ goal → pushed ++ map (grafted_line node splits) rest ≡ goal
grafted_more node splits list pushed goal line reader rest p r h =
    ap (λ (ls : List Line). ls ++ map (grafted_line node splits) rest) p
    ∙ append_assoc list (grafted_line node splits line ∷ []) (map (grafted_line node splits) rest)
    ∙ ap (λ (ls : List Line). list ++ map (grafted_line node splits) ls) (sym r) ∙ h

pub fit_rest : (splits : ℕ) (line : Line) (reader rest : List Line) → reader ≡ line ∷ rest → All (λ line. node_of line + 2 * splits < 2 ^ 32) reader → All (λ line. node_of line + 2 * splits < 2 ^ 32) rest
fit_rest splits line reader rest r h =
    let all : All (λ line. node_of line + 2 * splits < 2 ^ 32) (line ∷ rest) = subst (λ (ls : List Line). All (λ line. node_of line + 2 * splits < 2 ^ 32) ls) r h in
    λ k d less. all (suc k) d (omega (arith, less))

-- ---- what a graft has

-- a place of the tree with as many splits as the certificate has gives the grafted lines
pub lines_are : (whole : List Line) (node splits : ℕ) (run seen lines : List Line) → lines ≡ whole ++ map (grafted_line node splits) seen → seen ≡ run → splits ≡ divisions whole → lines ≡ grafted_lines whole node run
lines_are whole node splits run seen lines is same number =
    is ∙ ap (λ (ls : List Line). whole ++ map (grafted_line node splits) ls) same ∙ ap (λ n. whole ++ map (grafted_line node n) run) number

-- the exported node has the run's cuts
pub open_end : (i : Problem) (whole : Cert) (node : ℕ) (cuts base : List Cut) (branches : List Branch) → is_accepted i whole ≡ true → MakeNodes [] branches (nodes_made i whole.lines)
    → ((nodes : List Node) → MakeNodes [] branches nodes → HasEnd nodes node cuts) → cuts ≡ base → HasOpenEnd i whole node base
open_end i whole node cuts base branches accepted made end same =
    (accepted, subst (HasEnd (nodes_made i whole.lines) node) same (end (nodes_made i whole.lines) made))

pub splits_few : (whole : List Line) (branches : List Branch) (splits : ℕ) → branches ≡ branches_of whole → splits ≡ length branches → length whole ≤ 2 ^ 28 → splits ≤ 2 ^ 28
splits_few whole branches splits is counted few =
    let no_more : length branches ≤ length whole = branches_few whole branches is in
    omega (arith, no_more, counted, few)
