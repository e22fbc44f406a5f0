-- Steps keep a search sound.
use Rattle.subtree_search.proofs.Common.{◌≡◌, inl, inr, ℕ, zero, suc, ◌+◌, ◌*◌, ◌^◌, ◌<◌, ◌≤◌, Bool, true, false, cond, ◌&&◌, not, List, [], ◌∷◌, ◌++◌, length, set, refl, sym, ap, ◌∙◌, subst, append_assoc, arith, nat_lt, Option, Some, None, slice_get, IsTrue, IfSome, MatchOption, option_map_or, and_parts, and_from, lt-ltb, le-leb, ltb-true, cond_both, false≢true, length_push, append-nil, sum_by-append, slice_get_within, Has, Problem, shift_list, IsValid, rota_of, is_shift_and, Costing, IsCosted, Class, Cut, Prices, AtMost, AtLeast, are_prices, meets, high, is_empty, is_settled, Node, new_node, child, with_split, settled_floor, Has-slice_get, from_set, high_most, Split, Priced, Settled, Splitting, Settling, IsPlan, is_division, is_pricing, divisions, pricings, IsBest, IsSound, after_append, counted_lines, one_good, set_same, Searching, divided, is_open, offered, opening, priced, settled, top, top_of, priced_node, run_of, AreSteps, IsClose, IsDivision, IsOffer, IsSettlement, IsStep, by_price, by_division, by_settling, none, one_more}
use Rattle.break_rules.specs.Breaks.{is_live}
use Rattle.break_rules.proofs.Lists.{Has-append_cases}
use Rattle.certificate.specs.declared.proof_lines.Line.{Line}
use Rattle.certificate.specs.Accepted.{is_split, node_line, node_of, nodes_after}
use Rattle.search_core.proofs.Fits.{class_few}
use Rattle.subtree_search.proofs.Chosen.{open_parts}

-- a rota that a search may keep
abbrev pub IsKept : Problem → List Cut → ℕ → Costing → Type 0
IsKept i base limit b = (b.instance ≡ i) × IsCosted b × IsTrue (meets (rota_of b.rows) base) × (b.cost < limit)

-- a list begins with another one
abbrev pub Begins : List Cut → List Cut → Type 0
Begins base cuts = (rest : List Cut) × (cuts ≡ base ++ rest)

begins_more : (base cuts : List Cut) (cut : Cut) → Begins base cuts → Begins base (cuts ++ cut ∷ [])
begins_more base cuts cut b = (b.0 ++ cut ∷ [], ap (λ (cs : List Cut). cs ++ cut ∷ []) b.1 ∙ append_assoc base b.0 (cut ∷ []))

-- What holds of a search below some cuts. The spare number is 1 between the price of a node and what closes it, and else 0.
pub record Holds (i : Problem) (base : List Cut) (limit : ℕ) (s : Searching) (spare : ℕ) : Type 0 where
  pub based : s.base ≡ base
  pub limited : s.limit ≡ limit
  pub good : nodes_after i (new_node base ∷ []) s.lines ≡ Some s.nodes
  pub few : divisions s.lines + spare ≤ s.taken
  pub long : length s.lines + spare ≤ 2 * s.taken
  pub counted : pricings s.lines ≡ s.taken
  pub deep : (n : Node) → Has s.nodes n → length n.cuts + spare ≤ length base + s.taken
  pub below : (n : Node) → Has s.nodes n → Begins base n.cuts
  pub best : IfSome s.best (IsKept i base limit)

-- ---- a line more

line_added : (i : Problem) (start nodes next : List Node) (lines : List Line) (line : Line) (n : Node) → nodes_after i start lines ≡ Some nodes → slice_get nodes (node_of line) ≡ Some n → node_line i nodes n line ≡ Some next
    → nodes_after i start (lines ++ line ∷ []) ≡ Some next
line_added i start nodes next lines line n good at made =
    after_append i start nodes lines (line ∷ []) good ∙ one_good i nodes next line [] (record { node = n; at = at; made = made })

division_added : (lines : List Line) (line : Line) → divisions (lines ++ line ∷ []) ≡ divisions lines + divisions (line ∷ [])
division_added lines line = sum_by-append (λ x. cond (is_division x) 1 0) lines (line ∷ [])

pricing_added : (lines : List Line) (line : Line) → pricings (lines ++ line ∷ []) ≡ pricings lines + pricings (line ∷ [])
pricing_added lines line = sum_by-append (λ x. cond (is_pricing x) 1 0) lines (line ∷ [])

-- ---- plans

top_most : (limit : ℕ) (best : Option Costing) → top_of limit best ≤ limit
top_most limit None = omega arith
top_most limit (Some b) = omega arith

pub holds_offered : (i : Problem) (base : List Cut) (limit : ℕ) (s : Searching) (plan : Option Costing) (spare : ℕ) → Holds i base limit s spare → IsOffer i plan → Holds i base limit (offered s plan) spare
holds_offered i base limit s None spare h o = h
holds_offered i base limit s (Some p) spare h o =
    cond_both (meets (rota_of p.rows) s.base && nat_lt p.cost (top s)) (record s { best = Some p }) s (λ (t : Searching). Holds i base limit t spare)
    (λ e.
    let q = and_parts (meets (rota_of p.rows) s.base) (nat_lt p.cost (top s)) e in
    let less : p.cost < top s = ltb-true p.cost (top s) q.1 in
    let most : top s ≤ s.limit = top_most s.limit s.best in
    let same : s.limit ≡ limit = h.limited in
    record {
      based = h.based;
      limited = h.limited;
      good = h.good;
      few = h.few;
      long = h.long;
      counted = h.counted;
      deep = h.deep;
      below = h.below;
      best = (o.0, o.1, subst (λ (cs : List Cut). meets (rota_of p.rows) cs ≡ true) h.based q.0, omega (arith, less, most, same));
    })
    (λ e. h)

pub offered_nodes : (s : Searching) (plan : Option Costing) → (offered s plan).nodes ≡ s.nodes
offered_nodes s None = refl
offered_nodes s (Some p) = cond_both (meets (rota_of p.rows) s.base && nat_lt p.cost (top s)) (record s { best = Some p }) s (λ (t : Searching). t.nodes ≡ s.nodes) (λ e. refl) (λ e. refl)

-- ---- prices

pub holds_priced : (i : Problem) (base : List Cut) (limit : ℕ) (s : Searching) (k : ℕ) (n : Node) (prices : Prices) → Holds i base limit s 0 → slice_get s.nodes k ≡ Some n → n.split ≡ false → are_prices i n.cuts prices ≡ true
    → Holds i base limit (priced i k n prices s) 1
holds_priced i base limit s k n prices h at unsplit lawful =
    let y : Node = priced_node i n prices in
    let good : not n.split && are_prices i n.cuts prices ≡ true = and_from _ _ (ap not unsplit) lawful in
    let made : node_line i s.nodes n (Priced k prices) ≡ Some (set s.nodes k y) = ap (λ b. cond b (Some (set s.nodes k y)) None) good in
    let l : length (s.lines ++ Priced k prices ∷ []) ≡ length s.lines + 1 = length_push s.lines (Priced k prices) in
    let d : divisions (s.lines ++ Priced k prices ∷ []) ≡ divisions s.lines + 0 = division_added s.lines (Priced k prices) in
    let c : pricings (s.lines ++ Priced k prices ∷ []) ≡ pricings s.lines + 1 = pricing_added s.lines (Priced k prices) in
    let few = h.few in
    let long = h.long in
    let counted = h.counted in
    record {
      based = h.based;
      limited = h.limited;
      good = line_added i (new_node base ∷ []) s.nodes (set s.nodes k y) s.lines (Priced k prices) n h.good at made;
      few = omega (arith, d, few);
      long = omega (arith, l, long);
      counted = omega (arith, c, counted);
      deep = λ x there.
          elim (from_set s.nodes k y x there) [
            | inl e ↦
                let old : length n.cuts + 0 ≤ length base + s.taken = h.deep n (Has-slice_get s.nodes k n at) in
                subst (λ (z : Node). length z.cuts + 1 ≤ length base + (s.taken + 1)) e (omega (arith, old))
            | inr m ↦ let old : length x.cuts + 0 ≤ length base + s.taken = h.deep x m in omega (arith, old)
          ];
      below = λ x there.
          elim (from_set s.nodes k y x there) [
            | inl e ↦ subst (λ (z : Node). Begins base z.cuts) e (h.below n (Has-slice_get s.nodes k n at))
            | inr m ↦ h.below x m
          ];
      best = h.best;
    }

-- ---- splits

there_short : {X : Type 0} (xs : List X) (k : ℕ) (p : X → Bool) → option_map_or p (slice_get xs k) false ≡ true → k < length xs
there_short [] k p h = absurd (false≢true h)
there_short (x ∷ xs) zero p h = omega arith
there_short (x ∷ xs) (suc k) p h = let rest : k < length xs = there_short xs k p h in omega (arith, rest)

-- a split by the number of a live class is a good line
pub division_good : {advised : Option Splitting} → (i : Problem) (cuts : List Cut) (class : Class) (m : ℕ) → IsValid i → IsDivision i cuts advised class m → (is_split i class m ≡ true) × (m < 200)
division_good i cuts class m valid d =
    let p = and_parts (nat_lt class.day i.days) (is_shift_and i class.shift (λ x. is_live x.1 x.0.len class.prefix)) d.live in
    let shift : class.shift < length (shift_list i) = there_short (shift_list i) class.shift (λ x. is_live x.1 x.0.len class.prefix) p.1 in
    let few : length class.prefix ≤ 48 = class_few i class valid d.live in
    let most : high i cuts class ≤ i.heads = high_most cuts class i.heads in
    let heads : i.heads ≤ 200 = valid.heads in
    let below : m < high i cuts class = d.high in
    let small : m ≤ 200 = omega (arith, below, most, heads) in
    (and_from _ _ (and_from _ _ (and_from _ _ (lt-ltb _ _ shift) p.0) (le-leb _ _ few)) (le-leb _ _ small), omega (arith, below, most, heads))

pub holds_divided : (i : Problem) (base : List Cut) (limit : ℕ) (s : Searching) (k : ℕ) (n : Node) (class : Class) (m : ℕ) → Holds i base limit s 1 → slice_get s.nodes k ≡ Some n → n.split ≡ false → is_split i class m ≡ true
    → Holds i base limit (divided k n class m s) 0
holds_divided i base limit s k n class m h at unsplit lawful =
    let y : Node = record n { split = true } in
    let left = child n class AtMost m in
    let right = child n class AtLeast (m + 1) in
    let next = with_split s.nodes k n class m in
    let good : not n.split && is_split i class m ≡ true = and_from _ _ (ap not unsplit) lawful in
    let made : node_line i s.nodes n (Split k class m) ≡ Some next = ap (λ b. cond b (Some next) None) good in
    let l : length (s.lines ++ Split k class m ∷ []) ≡ length s.lines + 1 = length_push s.lines (Split k class m) in
    let d : divisions (s.lines ++ Split k class m ∷ []) ≡ divisions s.lines + 1 = division_added s.lines (Split k class m) in
    let c : pricings (s.lines ++ Split k class m ∷ []) ≡ pricings s.lines + 0 = pricing_added s.lines (Split k class m) in
    let few = h.few in
    let long = h.long in
    let counted = h.counted in
    let old : length n.cuts + 1 ≤ length base + s.taken = h.deep n (Has-slice_get s.nodes k n at) in
    let one : length left.cuts ≡ length n.cuts + 1 = length_push n.cuts _ in
    let two : length right.cuts ≡ length n.cuts + 1 = length_push n.cuts _ in
    record {
      based = h.based;
      limited = h.limited;
      good = line_added i (new_node base ∷ []) s.nodes next s.lines (Split k class m) n h.good at made;
      few = omega (arith, d, few);
      long = omega (arith, l, long);
      counted = omega (arith, c, counted);
      deep = λ x there.
          elim (Has-append_cases (set s.nodes k y) (left ∷ right ∷ []) x there) [
            | inl front ↦
                elim (from_set s.nodes k y x front) [
                  | inl e ↦ subst (λ (z : Node). length z.cuts + 0 ≤ length base + s.taken) e (omega (arith, old))
                  | inr q ↦ let more : length x.cuts + 1 ≤ length base + s.taken = h.deep x q in omega (arith, more)
                ]
            | inr new ↦
                elim new [
                  | inl e ↦ subst (λ (z : Node). length z.cuts + 0 ≤ length base + s.taken) e (omega (arith, old, one))
                  | inr last ↦
                      elim last [
                        | inl e ↦ subst (λ (z : Node). length z.cuts + 0 ≤ length base + s.taken) e (omega (arith, old, two))
                        | inr none_left ↦ absurd none_left
                      ]
                ]
          ];
      below = λ x there.
          elim (Has-append_cases (set s.nodes k y) (left ∷ right ∷ []) x there) [
            | inl front ↦
                elim (from_set s.nodes k y x front) [
                  | inl e ↦ subst (λ (z : Node). Begins base z.cuts) e (h.below n (Has-slice_get s.nodes k n at))
                  | inr q ↦ h.below x q
                ]
            | inr new ↦
                elim new [
                  | inl e ↦ subst (λ (z : Node). Begins base z.cuts) e (begins_more base n.cuts _ (h.below n (Has-slice_get s.nodes k n at)))
                  | inr last ↦
                      elim last [
                        | inl e ↦ subst (λ (z : Node). Begins base z.cuts) e (begins_more base n.cuts _ (h.below n (Has-slice_get s.nodes k n at)))
                        | inr none_left ↦ absurd none_left
                      ]
                ]
          ];
      best = h.best;
    }

-- ---- settled nodes

pub holds_less : (i : Problem) (base : List Cut) (limit : ℕ) (s : Searching) → Holds i base limit s 1 → Holds i base limit s 0
holds_less i base limit s h =
    let few = h.few in
    let long = h.long in
    record {
      based = h.based;
      limited = h.limited;
      good = h.good;
      few = omega (arith, few);
      long = omega (arith, long);
      counted = h.counted;
      deep = λ n there. let old : length n.cuts + 1 ≤ length base + s.taken = h.deep n there in omega (arith, old);
      below = h.below;
      best = h.best;
    }

pub holds_settled : (i : Problem) (base : List Cut) (limit : ℕ) (s : Searching) (k : ℕ) (n : Node) → Holds i base limit s 1 → slice_get s.nodes k ≡ Some n → n.split ≡ false → is_settled i n.cuts ≡ true
    → Holds i base limit (settled i k n s) 0
holds_settled i base limit s k n h at unsplit all =
    let y : Node = record n { floor = settled_floor i n.cuts } in
    let good : not n.split && is_settled i n.cuts ≡ true = and_from _ _ (ap not unsplit) all in
    let made : node_line i s.nodes n (Settled k) ≡ Some (set s.nodes k y) = ap (λ b. cond b (Some (set s.nodes k y)) None) good in
    let l : length (s.lines ++ Settled k ∷ []) ≡ length s.lines + 1 = length_push s.lines (Settled k) in
    let d : divisions (s.lines ++ Settled k ∷ []) ≡ divisions s.lines + 0 = division_added s.lines (Settled k) in
    let c : pricings (s.lines ++ Settled k ∷ []) ≡ pricings s.lines + 0 = pricing_added s.lines (Settled k) in
    let few = h.few in
    let long = h.long in
    let counted = h.counted in
    let after : Holds i base limit (record s { nodes = set s.nodes k y; lines = s.lines ++ Settled k ∷ [] }) 0 = record {
      based = h.based;
      limited = h.limited;
      good = line_added i (new_node base ∷ []) s.nodes (set s.nodes k y) s.lines (Settled k) n h.good at made;
      few = omega (arith, d, few);
      long = omega (arith, l, long);
      counted = omega (arith, c, counted);
      deep = λ x there.
          elim (from_set s.nodes k y x there) [
            | inl e ↦ subst (λ (z : Node). length z.cuts + 0 ≤ length base + s.taken) e ((holds_less i base limit s h).deep n (Has-slice_get s.nodes k n at))
            | inr m ↦ (holds_less i base limit s h).deep x m
          ];
      below = λ x there.
          elim (from_set s.nodes k y x there) [
            | inl e ↦ subst (λ (z : Node). Begins base z.cuts) e (h.below n (Has-slice_get s.nodes k n at))
            | inr m ↦ h.below x m
          ];
      best = h.best;
    } in
    cond_both (is_open (top s) n) (record s { nodes = set s.nodes k y; lines = s.lines ++ Settled k ∷ [] }) s (λ (t : Searching). Holds i base limit t 0) (λ e. after) (λ e. holds_less i base limit s h)

-- ---- a step

settled_offer : (i : Problem) (cuts : List Cut) (node : Settling) → IsSettlement i cuts node → IsOffer i node.plan
settled_offer i cuts node st = of_plan node.plan st.settled.plan
  where
    of_plan : (o : Option Costing) → MatchOption o (is_empty node.instance node.cuts ≡ true) (IsPlan node.instance node.cuts) → IsOffer i o
    of_plan None m = tt
    of_plan (Some p) m = (m.instance ∙ st.instance, m.costed)

close_holds : {advised : Option Splitting} → (i : Problem) (base : List Cut) (limit k : ℕ) (n : Node) (s t : Searching) → IsValid i → Holds i base limit s 1 → slice_get s.nodes k ≡ Some n → n.split ≡ false → IsClose i advised k n s t → Holds i base limit t 0
close_holds i base limit k n s t valid h at unsplit (by_price shut) = holds_less i base limit s h
close_holds i base limit k n s t valid h at unsplit (by_division class m open_one left d) = holds_divided i base limit s k n class m h at unsplit (division_good i n.cuts class m valid d).0
close_holds i base limit k n s t valid h at unsplit (by_settling node open_one st) =
    let fixed : is_settled i n.cuts ≡ true = subst (λ (cs : List Cut). is_settled i cs ≡ true) st.below (subst (λ (j : Problem). is_settled j node.cuts ≡ true) st.instance st.settled.settled) in
    holds_settled i base limit (offered s node.plan) k n (holds_offered i base limit s node.plan 1 h (settled_offer i n.cuts node st)) (ap (λ (ns : List Node). slice_get ns k) (offered_nodes s node.plan) ∙ at) unsplit fixed

pub step_holds : (i : Problem) (base : List Cut) (limit : ℕ) (s t : Searching) → IsValid i → Holds i base limit s 0 → IsStep i s t → Holds i base limit t 0
step_holds i base limit s t valid h st =
    let k = st.number in
    let n = st.node in
    let unsplit : n.split ≡ false = (open_parts (top s) n st.step.next.opens).0 in
    let at : slice_get (offered s st.step.plan).nodes k ≡ Some n = ap (λ (ns : List Node). slice_get ns k) (offered_nodes s st.step.plan) ∙ st.step.next.there in
    close_holds i base limit k (priced_node i n st.step.prices) (priced i k n st.step.prices (offered s st.step.plan)) t valid
    (holds_priced i base limit (offered s st.step.plan) k n st.step.prices (holds_offered i base limit s st.step.plan 0 h st.step.offer) at unsplit st.step.lawful)
    (set_same (offered s st.step.plan).nodes k n (priced_node i n st.step.prices) at) unsplit st.step.close

opening_holds : (i : Problem) (base : List Cut) (limit : ℕ) → Holds i base limit (opening base limit) 0
opening_holds i base limit = record {
  based = refl;
  limited = refl;
  good = refl;
  few = omega arith;
  long = omega arith;
  counted = refl;
  deep = λ n there. elim there [ inl e ↦ subst (λ (z : Node). length z.cuts + 0 ≤ length base + 0) e (omega arith) | inr none_left ↦ absurd none_left ];
  below = λ n there. elim there [ inl e ↦ subst (λ (z : Node). Begins base z.cuts) e ([], sym (append-nil base)) | inr none_left ↦ absurd none_left ];
  best = tt;
}

pub steps_hold : (i : Problem) (base : List Cut) (limit : ℕ) (s : Searching) → IsValid i → AreSteps i base limit s → Holds i base limit s 0
steps_hold i base limit s valid none = opening_holds i base limit
steps_hold i base limit s valid (one_more r t before st) = step_holds i base limit r t valid (steps_hold i base limit r valid before) st

-- ---- what follows

best_is : (i : Problem) (s : Searching) (best : Option Costing) → IfSome best (IsKept i s.base s.limit) → IfSome best (IsBest (run_of i s))
best_is i s None b = tt
best_is i s (Some c) b = record { same = b.0; costed = b.1; meets = b.2; less = b.3 }

-- the run of a search is sound
pub run_sound : (i : Problem) (base : List Cut) (limit : ℕ) (s : Searching) → IsValid i → AreSteps i base limit s → s.taken ≤ 10 ^ 9 → IsSound (run_of i s)
run_sound i base limit s valid steps small =
    let h = steps_hold i base limit s valid steps in
    let few = h.few in
    record {
      nodes = s.nodes;
      good = subst (λ (cs : List Cut). nodes_after i (new_node cs ∷ []) s.lines ≡ Some s.nodes) (sym h.based) h.good;
      few = omega (arith, few, small);
      best = best_is i s s.best (subst (λ (cs : List Cut). IfSome s.best (IsKept i cs s.limit)) (sym h.based) (subst (λ l. IfSome s.best (IsKept i base l)) (sym h.limited) h.best));
      taken = sym h.counted;
      floor = refl;
    }

-- its nodes have small numbers and few cuts
pub number_small : (i : Problem) (base : List Cut) (limit : ℕ) (s : Searching) (k : ℕ) (n : Node) → Holds i base limit s 0 → s.taken ≤ 10 ^ 9 → slice_get s.nodes k ≡ Some n → k < 2 ^ 32
number_small i base limit s k n h small at =
    let all : length s.nodes ≡ 1 + 2 * divisions s.lines = counted_lines i (new_node base ∷ []) s.nodes s.lines h.good in
    let within : k < length s.nodes = slice_get_within s.nodes k n at in
    let few = h.few in
    omega (arith, all, within, few, small)

pub cuts_few : (i : Problem) (base : List Cut) (limit : ℕ) (s : Searching) (k : ℕ) (n : Node) → Holds i base limit s 0 → s.taken ≤ 10 ^ 9 → length base ≤ 2 ^ 28 → slice_get s.nodes k ≡ Some n → length n.cuts ≤ 2 ^ 33
cuts_few i base limit s k n h small short at =
    let deep : length n.cuts + 0 ≤ length base + s.taken = h.deep n (Has-slice_get s.nodes k n at) in
    omega (arith, deep, small, short)
