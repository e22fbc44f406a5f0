-- A joined certificate has a text.
use Rattle.join_runs.proofs.Common.{◌≡◌, ℕ, ◌^◌, ◌<◌, ◌≤◌, max, true, ◌&&◌, ◌==◌, not, List, [], ◌∷◌, length, arith, nat_le, Option, Some, None, zip, list_all, AllByRecursion, and_parts, eqb-true, Problem, slots, IsValid, Cut, Node, new_node, with_floor, Cert, Line, is_accepted, is_bound, is_plan, nodes_after, HasSlot, rows_of, Agrees, AgreesWith, cond_some, first_good, tree_of}
use Rattle.std.proofs.lemmas.List.Elements.{All-from_recursion}
use Rattle.shift_instance.specs.declared.Row.{Row}
use Rattle.shift_instance.specs.Rota.{are_legal_rows, cost, rota_of}
use Rattle.head_splits.specs.declared.Prices.{Prices}
use Rattle.head_splits.specs.Bound.{are_prices, bound_of, is_slot_price, is_cut_price}
use Rattle.certificate.specs.declared.proof_lines.Line.TheVariants.{Split, Priced, Settled}
use Rattle.search_core.proofs.Fits.{rows_fit}

-- prices for an instance are some
some_prices : (i : Problem) (cuts : List Cut) (prices : Prices) → IsValid i → are_prices i cuts prices ≡ true → 0 < length prices.slots
some_prices i cuts prices valid h =
    let p4 = and_parts (nat_le 1 prices.q && nat_le prices.q 10000 && (length prices.slots == slots i) && list_all (is_slot_price i prices.q) prices.slots && (length prices.cuts == length cuts)) (list_all is_cut_price (zip cuts prices.cuts)) h in
    let p3 = and_parts (nat_le 1 prices.q && nat_le prices.q 10000 && (length prices.slots == slots i) && list_all (is_slot_price i prices.q) prices.slots) (length prices.cuts == length cuts) p4.0 in
    let p2 = and_parts (nat_le 1 prices.q && nat_le prices.q 10000 && (length prices.slots == slots i)) (list_all (is_slot_price i prices.q) prices.slots) p3.0 in
    let p1 = and_parts (nat_le 1 prices.q && nat_le prices.q 10000) (length prices.slots == slots i) p2.0 in
    let all : length prices.slots ≡ slots i = eqb-true _ _ p1.1 in
    let some : 0 < slots i = valid.some_slots in
    omega arith

-- good lines have a price for some slot
lines_slots : (i : Problem) (nodes last : List Node) (lines : List Line) → IsValid i → nodes_after i nodes lines ≡ Some last → AllByRecursion HasSlot lines
lines_slots i nodes last [] valid e = tt
lines_slots i nodes last (Split k class m ∷ lines) valid e =
    let r = first_good i nodes last (Split k class m) lines e in
    (tt, lines_slots i r.0 last lines valid r.2)
lines_slots i nodes last (Priced k prices ∷ lines) valid e =
    let r = first_good i nodes last (Priced k prices) lines e in
    let n = r.1.node in
    let q = cond_some (not n.split && are_prices i n.cuts prices) (with_floor nodes k n (max n.floor (bound_of i n.cuts prices))) r.0 r.1.made in
    let p = and_parts (not n.split) (are_prices i n.cuts prices) q.0 in
    (some_prices i n.cuts prices valid p.1, lines_slots i r.0 last lines valid r.2)
lines_slots i nodes last (Settled k ∷ lines) valid e =
    let r = first_good i nodes last (Settled k) lines e in
    (tt, lines_slots i r.0 last lines valid r.2)

-- an accepted plan has few rows
rows_few : (i : Problem) (plan : Option (ℕ × List Row)) → IsValid i → is_plan i plan ≡ true → length (rows_of plan) < 2 ^ 32
rows_few i None valid e = omega arith
rows_few i (Some p) valid e = (rows_fit i p.1 valid (and_parts (are_legal_rows i p.1) (cost i (rota_of p.1) == p.0) e).0).0

-- an accepted certificate of few lines has a text, where its status agrees
pub accepted_text : (i : Problem) (c : Cert) → IsValid i → is_accepted i c ≡ true → length c.lines ≤ 2 ^ 30 → AgreesWith c.status c.plan c.bound → Agrees c
accepted_text i c valid accepted few agrees =
    let both = and_parts (is_bound i c.lines c.bound) (is_plan i c.plan) accepted in
    let tree = tree_of i c accepted in
    record {
      status = agrees;
      few = rows_few i c.plan valid both.1;
      few_lines = omega (arith, few);
      slots = All-from_recursion HasSlot c.lines (lines_slots i (new_node [] ∷ []) tree.0 c.lines valid tree.1);
    }
