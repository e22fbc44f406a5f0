-- A grafted certificate has a text.
use Rattle.graft_runs.proofs.Common.{◌≡◌, ℕ, ◌+◌, ◌*◌, ◌^◌, ◌<◌, ◌≤◌, max, true, ◌&&◌, ◌==◌, not, List, [], ◌∷◌, ◌++◌, length, map, ap, arith, nat_le, Option, Some, None, zip, list_all, AllByRecursion, option_map_or, and_parts, eqb-true, length-append, length-map, Row, TOP, Problem, slots, IsValid, are_legal_rows, cost, is_legal_rota, rota_of, Cut, are_prices, bound_of, is_slot_price, is_cut_price, Node, new_node, with_floor, Cert, Line, is_accepted, is_bound, is_plan, nodes_after, HasSlot, rows_of, Agrees, AgreesWith, grafted_line, grafted_lines, Run, divisions, cond_some, first_good, tree_of, IsSearched, steps_hold, limit_of}
use Rattle.std.proofs.lemmas.List.Elements.{All-from_recursion}
use Rattle.rota_cost.proofs.Coverage.{costs_below}
use Rattle.head_splits.specs.declared.Prices.{Prices}
use Rattle.certificate.specs.declared.proof_lines.Line.TheVariants.{Split, Priced, Settled}
use Rattle.search_core.proofs.Fits.{rows_fit}

-- prices for an instance are some
some_prices : (i : Problem) (cuts : List Cut) (prices : Prices) → IsValid i → are_prices i cuts prices ≡ true → 0 < length prices.slots
some_prices i cuts prices valid h =
    let p4 = and_parts (nat_le 1 prices.q && nat_le prices.q 10000 && (length prices.slots == slots i) && list_all (is_slot_price i prices.q) prices.slots && (length prices.cuts == length cuts)) (list_all is_cut_price (zip cuts prices.cuts)) h in
    let p3 = and_parts (nat_le 1 prices.q && nat_le prices.q 10000 && (length prices.slots == slots i) && list_all (is_slot_price i prices.q) prices.slots) (length prices.cuts == length cuts) p4.0 in
    let p2 = and_parts (nat_le 1 prices.q && nat_le prices.q 10000 && (length prices.slots == slots i)) (list_all (is_slot_price i prices.q) prices.slots) p3.0 in
    let p1 = and_parts (nat_le 1 prices.q && nat_le prices.q 10000) (length prices.slots == slots i) p2.0 in
    let all : length prices.slots ≡ slots i = eqb-true _ _ p1.1 in
    let some : 0 < slots i = valid.some_slots in
    omega arith

-- good lines have a price for some slot
lines_slots : (i : Problem) (nodes last : List Node) (lines : List Line) → IsValid i → nodes_after i nodes lines ≡ Some last → AllByRecursion HasSlot lines
lines_slots i nodes last [] valid e = tt
lines_slots i nodes last (Split k class m ∷ lines) valid e =
    let r = first_good i nodes last (Split k class m) lines e in
    (tt, lines_slots i r.0 last lines valid r.2)
lines_slots i nodes last (Priced k prices ∷ lines) valid e =
    let r = first_good i nodes last (Priced k prices) lines e in
    let n = r.1.node in
    let q = cond_some (not n.split && are_prices i n.cuts prices) (with_floor nodes k n (max n.floor (bound_of i n.cuts prices))) r.0 r.1.made in
    let p = and_parts (not n.split) (are_prices i n.cuts prices) q.0 in
    (some_prices i n.cuts prices valid p.1, lines_slots i r.0 last lines valid r.2)
lines_slots i nodes last (Settled k ∷ lines) valid e =
    let r = first_good i nodes last (Settled k) lines e in
    (tt, lines_slots i r.0 last lines valid r.2)

-- an accepted plan has few rows
rows_few : (i : Problem) (plan : Option (ℕ × List Row)) → IsValid i → is_plan i plan ≡ true → length (rows_of plan) < 2 ^ 32
rows_few i None valid e = omega arith
rows_few i (Some p) valid e = (rows_fit i p.1 valid (and_parts (are_legal_rows i p.1) (cost i (rota_of p.1) == p.0) e).0).0

-- what an accepted certificate's plan costs is no more than TOP
pub limit_small : (i : Problem) (whole : Cert) → IsValid i → is_accepted i whole ≡ true → limit_of whole ≤ TOP
limit_small i whole valid e = of_plan whole.plan (and_parts (is_bound i whole.lines whole.bound) (is_plan i whole.plan) e).1
  where
    of_plan : (plan : Option (ℕ × List Row)) → is_plan i plan ≡ true → option_map_or (λ p. p.0) plan TOP ≤ TOP
    of_plan None h = omega arith
    of_plan (Some p) h =
        let both = and_parts (are_legal_rows i p.1) (cost i (rota_of p.1) == p.0) h in
        let legal : is_legal_rota i (rota_of p.1) ≡ true = (and_parts _ (is_legal_rota i (rota_of p.1)) both.0).1 in
        let below : cost i (rota_of p.1) < 1000000000000000 = costs_below i (rota_of p.1) valid legal in
        let same : cost i (rota_of p.1) ≡ p.0 = eqb-true _ _ both.1 in
        omega (arith, below, same)

-- a run of steps has at most two lines for each
run_lines : (i : Problem) (base : List Cut) (limit budget : ℕ) (r : Run) → IsValid i → IsSearched i base limit budget r → length r.lines ≤ 2 * budget
run_lines i base limit budget r valid s =
    let h = steps_hold i base limit s.search valid s.steps in
    let long : length s.search.lines + 0 ≤ 2 * s.search.taken = h.long in
    let lines : length r.lines ≡ length s.search.lines = ap (λ (x : Run). length x.lines) s.run in
    let taken : r.taken ≡ s.search.taken = ap (λ (x : Run). x.taken) s.run in
    let within = s.within in
    omega (arith, long, lines, taken, within)

-- an accepted certificate of the lines of another and of a run of steps has a text, where its status agrees
pub grown_agrees : (i : Problem) (whole c : Cert) (node steps : ℕ) (base : List Cut) (r : Run) → IsValid i → length whole.lines ≤ 2 ^ 28 → steps ≤ 10 ^ 9 → IsSearched i base (limit_of whole) steps r
    → is_accepted i c ≡ true → c.lines ≡ grafted_lines whole.lines node r.lines → AgreesWith c.status c.plan c.bound → Agrees c
grown_agrees i whole c node steps base r valid few small s accepted lines agrees =
    let both = and_parts (is_bound i c.lines c.bound) (is_plan i c.plan) accepted in
    let tree = tree_of i c accepted in
    let splits = divisions whole.lines in
    let all : length (whole.lines ++ map (grafted_line node splits) r.lines) ≡ length whole.lines + length (map (grafted_line node splits) r.lines) = length-append whole.lines (map (grafted_line node splits) r.lines) in
    let same : length (map (grafted_line node splits) r.lines) ≡ length r.lines = length-map r.lines (grafted_line node splits) in
    let long = run_lines i base (limit_of whole) steps r valid s in
    let is : length c.lines ≡ length (grafted_lines whole.lines node r.lines) = ap (λ (ls : List Line). length ls) lines in
    record {
      status = agrees;
      few = rows_few i c.plan valid both.1;
      few_lines = omega (arith, all, same, long, is, few, small);
      slots = All-from_recursion HasSlot c.lines (lines_slots i (new_node [] ∷ []) tree.0 c.lines valid tree.1);
    }
