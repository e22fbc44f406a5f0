-- Good proof lines, one by one and one after another.
use Rattle.report_grafts.proofs.Common.{◌≡◌, inl, inr, ℕ, ◌+◌, ◌*◌, ◌<◌, ◌≤◌, min, max, Bool, true, false, cond, ◌&&◌, not, List, [], ◌∷◌, ◌++◌, length, set, refl, sym, ap, ◌∙◌, subst, arith, Option, Some, None, slice_get, AllByRecursion, option_and_then, and_parts, not-true, not-false, cases_Bool, length-set, length-append, slice_get_within, Has, Has-append_cases, Duty, TOP, Problem, cost, is_legal_rota, Cut, AtMost, AtLeast, meets, are_prices, bound_of, is_settled, is_empty, settled_plan, Node, child, with_floor, with_split, settled_floor, NodesSound, Has-slice_get, from_set, priced_sound, settled_sound, split_sound, floor_at, floor_from, Line, Split, Priced, Settled, is_split, node_line, node_of, nodes_after, least_floor, is_division, divisions, floor_up_to}
use Rattle.std.proofs.lemmas.List.Sums.{sum_by-cons}

pub cond_some : {X : Type 0} (c : Bool) (x y : X) → cond c (Some x) None ≡ Some y → (c ≡ true) × (x ≡ y)
cond_some true x y e = let same : x ≡ y = cc in (refl, same)
cond_some false x y e = absurd (cc)

bind_some : {X Y : Type 0} (f : X → Option Y) (o : Option X) (y : Y) → option_and_then f o ≡ Some y → (x : X) × (o ≡ Some x) × (f x ≡ Some y)
bind_some f None y e = absurd (cc)
bind_some f (Some x) y e = (x, refl, e)

-- a line that is good: its node is there, and it makes the next nodes
pub record Good (i : Problem) (nodes next : List Node) (line : Line) : Type 0 where
  pub node : Node
  pub at : slice_get nodes (node_of line) ≡ Some node
  pub made : node_line i nodes node line ≡ Some next

-- the first of some good lines
pub first_good : (i : Problem) (nodes last : List Node) (line : Line) (lines : List Line) → nodes_after i nodes (line ∷ lines) ≡ Some last
    → (next : List Node) × Good i nodes next line × (nodes_after i next lines ≡ Some last)
first_good i nodes last line lines e =
    let r = bind_some (λ next. nodes_after i next lines) (option_and_then (λ n. node_line i nodes n line) (slice_get nodes (node_of line))) last e in
    let t = bind_some (λ n. node_line i nodes n line) (slice_get nodes (node_of line)) r.0 r.1 in
    (r.0, record { node = t.0; at = t.1; made = t.2 }, r.2)

pub one_good : (i : Problem) (nodes next : List Node) (line : Line) (lines : List Line) → Good i nodes next line → nodes_after i nodes (line ∷ lines) ≡ nodes_after i next lines
one_good i nodes next line lines g =
    ap (λ o. option_and_then (λ next. nodes_after i next lines) (option_and_then (λ n. node_line i nodes n line) o)) g.at
    ∙ ap (λ o. option_and_then (λ next. nodes_after i next lines) o) g.made

-- further lines after good ones
pub after_append : (i : Problem) (nodes mid : List Node) (xs ys : List Line) → nodes_after i nodes xs ≡ Some mid → nodes_after i nodes (xs ++ ys) ≡ nodes_after i mid ys
after_append i nodes mid [] ys e = let same : nodes ≡ mid = cc in ap (λ ns. nodes_after i ns ys) same
after_append i nodes mid (x ∷ xs) ys e =
    let r = first_good i nodes mid x xs e in
    one_good i nodes r.0 x (xs ++ ys) r.1 ∙ after_append i r.0 mid xs ys r.2

-- ---- how a good line changes the nodes

-- an unsplit node gets another floor, which is no smaller where the nodes are sound
pub record Lifted (i : Problem) (nodes next : List Node) (k : ℕ) (n : Node) : Type 0 where
  pub floor : ℕ
  pub unsplit : n.split ≡ false
  pub is : next ≡ with_floor nodes k n floor

pub priced_lifts : (i : Problem) (nodes next : List Node) (k : ℕ) (prices : _) (n : Node) → node_line i nodes n (Priced k prices) ≡ Some next → Lifted i nodes next k n
priced_lifts i nodes next k prices n e =
    let q = cond_some (not n.split && are_prices i n.cuts prices) (with_floor nodes k n (max n.floor (bound_of i n.cuts prices))) next e in
    let p = and_parts (not n.split) (are_prices i n.cuts prices) q.0 in
    record { floor = max n.floor (bound_of i n.cuts prices); unsplit = not-true n.split p.0; is = sym q.1 }

pub settled_lifts : (i : Problem) (nodes next : List Node) (k : ℕ) (n : Node) → node_line i nodes n (Settled k) ≡ Some next → Lifted i nodes next k n
settled_lifts i nodes next k n e =
    let q = cond_some (not n.split && is_settled i n.cuts) (with_floor nodes k n (settled_floor i n.cuts)) next e in
    let p = and_parts (not n.split) (is_settled i n.cuts) q.0 in
    record { floor = settled_floor i n.cuts; unsplit = not-true n.split p.0; is = sym q.1 }

-- ---- sound nodes

line_sound : (i : Problem) (base : List Cut) (nodes next : List Node) (n : Node) (line : Line) → NodesSound i base nodes → slice_get nodes (node_of line) ≡ Some n → node_line i nodes n line ≡ Some next → NodesSound i base next
line_sound i base nodes next n (Split k class m) s at e =
    let q = cond_some (not n.split && is_split i class m) (with_split nodes k n class m) next e in
    subst (NodesSound i base) q.1 (split_sound i base nodes k class m n s at)
line_sound i base nodes next n (Priced k prices) s at e =
    let q = cond_some (not n.split && are_prices i n.cuts prices) (with_floor nodes k n (max n.floor (bound_of i n.cuts prices))) next e in
    let p = and_parts (not n.split) (are_prices i n.cuts prices) q.0 in
    subst (NodesSound i base) q.1 (priced_sound i base nodes k n prices s at (not-true n.split p.0) p.1)
line_sound i base nodes next n (Settled k) s at e =
    let q = cond_some (not n.split && is_settled i n.cuts) (with_floor nodes k n (settled_floor i n.cuts)) next e in
    let p = and_parts (not n.split) (is_settled i n.cuts) q.0 in
    subst (NodesSound i base) q.1 (settled_sound i base nodes k n s at (not-true n.split p.0) p.1)

pub lines_sound : (i : Problem) (base : List Cut) (nodes last : List Node) (lines : List Line) → NodesSound i base nodes → nodes_after i nodes lines ≡ Some last → NodesSound i base last
lines_sound i base nodes last [] s e = let same : nodes ≡ last = cc in subst (NodesSound i base) same s
lines_sound i base nodes last (line ∷ lines) s e =
    let r = first_good i nodes last line lines e in
    lines_sound i base r.0 last lines (line_sound i base nodes r.0 r.1.node line s r.1.at r.1.made) r.2

-- ---- floors that are no less than a number

-- each unsplit node has a floor of at least that much
abbrev pub FloorsFrom : ℕ → List Node → Type 0
FloorsFrom b nodes = (n : Node) → Has nodes n → n.split ≡ false → b ≤ n.floor

-- what a settled node's rotas cost isn't below a floor that each of them costs
settled_from : (i : Problem) (n : Node) (b : ℕ) → b ≤ TOP → b ≤ n.floor → ((rota : List Duty) → is_legal_rota i rota ≡ true → meets rota n.cuts ≡ true → n.floor ≤ cost i rota) → b ≤ settled_floor i n.cuts
settled_from i n b top low sound =
    elim (cases_Bool (is_empty i n.cuts)) [
      | inl e ↦ subst (λ (x : Bool). b ≤ cond x TOP (cost i (settled_plan i n.cuts))) (sym e) top
      | inr e ↦
          let p = and_parts (is_legal_rota i (settled_plan i n.cuts)) (meets (settled_plan i n.cuts) n.cuts) (not-false _ e) in
          let there : n.floor ≤ cost i (settled_plan i n.cuts) = sound (settled_plan i n.cuts) p.0 p.1 in
          let enough : b ≤ cost i (settled_plan i n.cuts) = omega arith in
          subst (λ (x : Bool). b ≤ cond x TOP (cost i (settled_plan i n.cuts))) (sym e) enough
    ]

lifted_from : (b floor : ℕ) (nodes : List Node) (k : ℕ) (n : Node) → FloorsFrom b nodes → b ≤ floor → FloorsFrom b (with_floor nodes k n floor)
lifted_from b floor nodes k n h le x there unsplit =
    elim (from_set nodes k (record n { floor = floor }) x there) [
      | inl e ↦ subst (λ (y : Node). b ≤ y.floor) e le
      | inr old ↦ h x old unsplit
    ]

split_from : (b : ℕ) (nodes : List Node) (k : ℕ) (n : Node) (class : _) (m : ℕ) → FloorsFrom b nodes → b ≤ n.floor → FloorsFrom b (with_split nodes k n class m)
split_from b nodes k n class m h le x there unsplit =
    let left = child n class AtMost m in
    let right = child n class AtLeast (m + 1) in
    elim (Has-append_cases (set nodes k (record n { split = true })) (left ∷ right ∷ []) x there) [
      | inl old ↦ elim (from_set nodes k (record n { split = true }) x old) [
        | inl e ↦ subst (λ (y : Node). b ≤ y.floor) e le
        | inr t ↦ h x t unsplit
      ]
      | inr new ↦ elim new [
        | inl e ↦ subst (λ (y : Node). b ≤ y.floor) e le
        | inr new' ↦ elim new' [
          | inl e ↦ subst (λ (y : Node). b ≤ y.floor) e le
          | inr none ↦ absurd none
        ]
      ]
    ]

line_from : (i : Problem) (base : List Cut) (b : ℕ) (nodes next : List Node) (n : Node) (line : Line) → b ≤ TOP → NodesSound i base nodes → FloorsFrom b nodes → slice_get nodes (node_of line) ≡ Some n → node_line i nodes n line ≡ Some next → FloorsFrom b next
line_from i base b nodes next n (Split k class m) top s h at e =
    let q = cond_some (not n.split && is_split i class m) (with_split nodes k n class m) next e in
    let p = and_parts (not n.split) (is_split i class m) q.0 in
    let low : b ≤ n.floor = h n (Has-slice_get nodes k n at) (not-true n.split p.0) in
    subst (FloorsFrom b) q.1 (split_from b nodes k n class m h low)
line_from i base b nodes next n (Priced k prices) top s h at e =
    let q = cond_some (not n.split && are_prices i n.cuts prices) (with_floor nodes k n (max n.floor (bound_of i n.cuts prices))) next e in
    let p = and_parts (not n.split) (are_prices i n.cuts prices) q.0 in
    let low : b ≤ n.floor = h n (Has-slice_get nodes k n at) (not-true n.split p.0) in
    subst (FloorsFrom b) q.1 (lifted_from b (max n.floor (bound_of i n.cuts prices)) nodes k n h (omega arith))
line_from i base b nodes next n (Settled k) top s h at e =
    let q = cond_some (not n.split && is_settled i n.cuts) (with_floor nodes k n (settled_floor i n.cuts)) next e in
    let p = and_parts (not n.split) (is_settled i n.cuts) q.0 in
    let there = Has-slice_get nodes k n at in
    let low : b ≤ n.floor = h n there (not-true n.split p.0) in
    subst (FloorsFrom b) q.1 (lifted_from b (settled_floor i n.cuts) nodes k n h (settled_from i n b top low (s.floors n there)))

-- good lines on sound nodes lower no floor
pub lines_from : (i : Problem) (base : List Cut) (b : ℕ) (nodes last : List Node) (lines : List Line) → b ≤ TOP → NodesSound i base nodes → FloorsFrom b nodes → nodes_after i nodes lines ≡ Some last → FloorsFrom b last
lines_from i base b nodes last [] top s h e = let same : nodes ≡ last = cc in subst (FloorsFrom b) same h
lines_from i base b nodes last (line ∷ lines) top s h e =
    let r = first_good i nodes last line lines e in
    lines_from i base b r.0 last lines top
    (line_sound i base nodes r.0 r.1.node line s r.1.at r.1.made)
    (line_from i base b nodes r.0 r.1.node line top s h r.1.at r.1.made) r.2

pub floors_of : (nodes : List Node) → FloorsFrom (least_floor nodes) nodes
floors_of nodes n there unsplit = floor_at TOP nodes n there unsplit

pub least_top : (nodes : List Node) → least_floor nodes ≤ TOP
least_top nodes = floor_from TOP nodes

pub least_from : (b f : ℕ) (nodes : List Node) → b ≤ f → FloorsFrom b nodes → b ≤ floor_up_to f nodes
least_from b f [] le h = le
least_from b f (n ∷ nodes) le h =
    let first : b ≤ cond n.split f (min f n.floor) =
    elim (cases_Bool n.split) [
      | inl t ↦ subst (λ (x : Bool). b ≤ cond x f (min f n.floor)) (sym t) le
      | inr e ↦ let low : b ≤ n.floor = h n (inl refl) e in let both : b ≤ min f n.floor = omega arith in subst (λ (x : Bool). b ≤ cond x f (min f n.floor)) (sym e) both
    ] in
    least_from b (cond n.split f (min f n.floor)) nodes first (λ m t. h m (inr t))

-- ---- numbers of nodes

counted_line : (i : Problem) (nodes next : List Node) (n : Node) (line : Line) → node_line i nodes n line ≡ Some next → length next ≡ length nodes + 2 * divisions (line ∷ [])
counted_line i nodes next n (Split k class m) e =
    let q = cond_some (not n.split && is_split i class m) (with_split nodes k n class m) next e in
    let a = length-append (set nodes k (record n { split = true })) (child n class AtMost m ∷ child n class AtLeast (m + 1) ∷ []) in
    let b = length-set nodes k (record n { split = true }) in
    let c : length (with_split nodes k n class m) ≡ length nodes + 2 * 1 = omega (arith, a, b) in
    subst (λ (xs : List Node). length xs ≡ length nodes + 2 * 1) q.1 c
counted_line i nodes next n (Priced k prices) e =
    let l = priced_lifts i nodes next k prices n e in
    let b = length-set nodes k (record n { floor = l.floor }) in
    subst (λ (xs : List Node). length xs ≡ length nodes + 2 * 0) (sym l.is) (omega (arith, b))
counted_line i nodes next n (Settled k) e =
    let l = settled_lifts i nodes next k n e in
    let b = length-set nodes k (record n { floor = l.floor }) in
    subst (λ (xs : List Node). length xs ≡ length nodes + 2 * 0) (sym l.is) (omega (arith, b))

pub divisions_cons : (line : Line) (lines : List Line) → divisions (line ∷ lines) ≡ divisions (line ∷ []) + divisions lines
divisions_cons line lines =
    let d : ℕ = cond (is_division line) 1 0 in
    let a : divisions (line ∷ lines) ≡ d + divisions lines = sum_by-cons (λ x. cond (is_division x) 1 0) line lines in
    let b : divisions (line ∷ []) ≡ d + 0 = sum_by-cons (λ x. cond (is_division x) 1 0) line [] in
    omega (arith, a, b)

-- each split makes two nodes
pub counted_lines : (i : Problem) (nodes last : List Node) (lines : List Line) → nodes_after i nodes lines ≡ Some last → length last ≡ length nodes + 2 * divisions lines
counted_lines i nodes last [] e = let same : nodes ≡ last = cc in let l : length nodes ≡ length last = ap length same in omega arith
counted_lines i nodes last (line ∷ lines) e =
    let r = first_good i nodes last line lines e in
    let a : length r.0 ≡ length nodes + 2 * divisions (line ∷ []) = counted_line i nodes r.0 r.1.node line r.1.made in
    let b : length last ≡ length r.0 + 2 * divisions lines = counted_lines i r.0 last lines r.2 in
    let c : divisions (line ∷ lines) ≡ divisions (line ∷ []) + divisions lines = divisions_cons line lines in
    omega arith

-- good lines name nodes that are there at last
pub named_lines : (i : Problem) (nodes last : List Node) (lines : List Line) (most : ℕ) → nodes_after i nodes lines ≡ Some last → length last ≤ most → AllByRecursion (λ line. node_of line < most) lines
named_lines i nodes last [] most e h = tt
named_lines i nodes last (line ∷ lines) most e h =
    let r = first_good i nodes last line lines e in
    let within : node_of line < length nodes = slice_get_within nodes (node_of line) r.1.node r.1.at in
    let a : length last ≡ length nodes + 2 * divisions (line ∷ lines) = counted_lines i nodes last (line ∷ lines) e in
    (omega arith, named_lines i r.0 last lines most r.2 h)
