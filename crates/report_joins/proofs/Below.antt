-- A run of a node alone, and the same run in a tree in which that node stands.
use Rattle.report_joins.proofs.Common.{◌≡◌, ℕ, zero, suc, ◌+◌, ◌*◌, ◌<◌, ◌≤◌, max, Bool, true, false, cond, ◌&&◌, not, List, [], ◌∷◌, ◌++◌, length, map, set, refl, sym, ap, ◌∙◌, append_assoc, arith, Option, Some, None, slice_get, option_and_then, option_map, ne_eqb, append-nil, length-set, slice_get_within, Problem, Node, new_node, child, with_floor, with_split, settled_floor, Line, Split, Priced, Settled, is_split, node_line, node_of, nodes_after, nodes_of, grafted_line, grafted_lines, grafted_number, divisions, after_append, counted_lines, front_get, set_same, with_below}
use Rattle.head_splits.specs.declared.Side.TheVariants.{AtMost, AtLeast}
use Rattle.head_splits.specs.Bound.{are_prices, bound_of}
use Rattle.head_splits.specs.Settled.{is_settled}

-- ---- places of lists

past_get : {X : Type 0} (xs ys : List X) (j k : ℕ) → j ≡ length xs + k → slice_get (xs ++ ys) j ≡ slice_get ys k
past_get [] ys j k e = ap (slice_get ys) (omega (arith, e))
past_get (x ∷ xs) ys zero k e = absurd (omega (arith, e))
past_get (x ∷ xs) ys (suc j) k e = past_get xs ys j k (omega (arith, e))

past_set : {X : Type 0} (xs ys : List X) (j k : ℕ) (y : X) → j ≡ length xs + k → set (xs ++ ys) j y ≡ xs ++ set ys k y
past_set [] ys j k y e = ap (λ n. set ys n y) (omega (arith, e))
past_set (x ∷ xs) ys zero k y e = absurd (omega (arith, e))
past_set (x ∷ xs) ys (suc j) k y e = ap (λ zs. x ∷ zs) (past_set xs ys j k y (omega (arith, e)))

front_set : {X : Type 0} (xs ys : List X) (k : ℕ) (y : X) → k < length xs → set (xs ++ ys) k y ≡ set xs k y ++ ys
front_set [] ys k y h = absurd (omega arith)
front_set (x ∷ xs) ys zero y h = refl
front_set (x ∷ xs) ys (suc k) y h = ap (λ zs. x ∷ zs) (front_set xs ys k y (omega arith))

set_twice : {X : Type 0} (xs : List X) (k : ℕ) (x y : X) → set (set xs k x) k y ≡ set xs k y
set_twice [] k x y = refl
set_twice (z ∷ xs) zero x y = refl
set_twice (z ∷ xs) (suc k) x y = ap (λ zs. z ∷ zs) (set_twice xs k x y)

-- an element that is written over itself
pub set_over : {X : Type 0} (xs : List X) (k : ℕ) (x : X) → slice_get xs k ≡ Some x → set xs k x ≡ xs
set_over [] k x e = refl
set_over (z ∷ xs) zero x e = let same : z ≡ x = cc in ap (λ y. y ∷ xs) (sym same)
set_over (z ∷ xs) (suc k) x e = ap (λ zs. z ∷ zs) (set_over xs k x e)

-- ---- numbers

number_more : (node splits k : ℕ) → grafted_number node splits (suc k) ≡ suc k + 2 * splits
number_more node splits k = ap (λ b. cond b node (suc k + 2 * splits)) (ne_eqb (suc k) 0 (λ e. omega (arith, e)))

-- a number past those of the tree is that of a node of the run
pub number_of : (node splits n k : ℕ) → 0 < k → n ≡ k + 2 * splits → n ≡ grafted_number node splits k
number_of node splits n zero some e = absurd (omega (arith, some))
number_of node splits n (suc k) some e = e ∙ sym (number_more node splits k)

-- another number isn't
pub elsewhere : (node splits n : ℕ) → (n ≡ node → ⊥) → n ≤ 2 * splits → (k : ℕ) → n ≡ grafted_number node splits k → ⊥
elsewhere node splits n other few zero e = other e
elsewhere node splits n other few (suc k) e = let f : n ≡ suc k + 2 * splits = e ∙ number_more node splits k in omega (arith, f, few)

pub line_number : (node splits : ℕ) (line : Line) → node_of (grafted_line node splits line) ≡ grafted_number node splits (node_of line)
line_number node splits (Split k class m) = refl
line_number node splits (Priced k prices) = refl
line_number node splits (Settled k) = refl

-- ---- a tree with what a run made of one of its nodes

-- a tree with so many splits in which a node stands
pub record Stands (splits : ℕ) (tree : List Node) (k : ℕ) (top : Node) : Type 0 where
  pub counted : length tree ≡ 2 * splits + 1
  pub at : slice_get tree k ≡ Some top

below_get : (splits : ℕ) (tree : List Node) (k : ℕ) (top : Node) (run : List Node) (m : ℕ) → Stands splits tree k top → 0 < length run → slice_get (with_below tree k run) (grafted_number k splits m) ≡ slice_get run m
below_get splits tree k top [] m s some = absurd (omega arith)
below_get splits tree k top (r ∷ rest) zero s some =
    let within : k < length tree = slice_get_within tree k top s.at in
    let long : length (set tree k r) ≡ length tree = length-set tree k r in
    front_get (set tree k r) rest k (omega (arith, within, long)) ∙ set_same tree k top r s.at
below_get splits tree k top (r ∷ rest) (suc m) s some =
    let long : length (set tree k r) ≡ length tree = length-set tree k r in
    let counted : length tree ≡ 2 * splits + 1 = s.counted in
    ap (slice_get (set tree k r ++ rest)) (number_more k splits m) ∙ past_get (set tree k r) rest (suc m + 2 * splits) m (omega (arith, long, counted))

below_set : (splits : ℕ) (tree : List Node) (k : ℕ) (top : Node) (run : List Node) (m : ℕ) (y : Node) → Stands splits tree k top → 0 < length run
    → set (with_below tree k run) (grafted_number k splits m) y ≡ with_below tree k (set run m y)
below_set splits tree k top [] m y s some = absurd (omega arith)
below_set splits tree k top (r ∷ rest) zero y s some =
    let within : k < length tree = slice_get_within tree k top s.at in
    let long : length (set tree k r) ≡ length tree = length-set tree k r in
    front_set (set tree k r) rest k y (omega (arith, within, long)) ∙ ap (λ (ns : List Node). ns ++ rest) (set_twice tree k r y)
below_set splits tree k top (r ∷ rest) (suc m) y s some =
    let long : length (set tree k r) ≡ length tree = length-set tree k r in
    let counted : length tree ≡ 2 * splits + 1 = s.counted in
    ap (λ n. set (set tree k r ++ rest) n y) (number_more k splits m) ∙ past_set (set tree k r) rest (suc m + 2 * splits) m y (omega (arith, long, counted))

below_push : (tree : List Node) (k : ℕ) (run more : List Node) → 0 < length run → with_below tree k run ++ more ≡ with_below tree k (run ++ more)
below_push tree k [] more some = absurd (omega arith)
below_push tree k (r ∷ rest) more some = append_assoc (set tree k r) rest more

-- ---- lines

mapped : {X Y : Type 0} (f : X → Y) (b : Bool) (x : X) (y : Y) → y ≡ f x → cond b (Some y) None ≡ option_map f (cond b (Some x) None)
mapped f true x y e = ap Some e
mapped f false x y e = refl

below_line : (i : Problem) (splits : ℕ) (tree : List Node) (k : ℕ) (top : Node) (run : List Node) (n : Node) (line : Line) → Stands splits tree k top → 0 < length run
    → node_line i (with_below tree k run) n (grafted_line k splits line) ≡ option_map (with_below tree k) (node_line i run n line)
below_line i splits tree k top run n (Split j class m) s some =
    let x : Node = record n { split = true } in
    let parts = child n class AtMost m ∷ child n class AtLeast (m + 1) ∷ [] in
    let long : length (set run j x) ≡ length run = length-set run j x in
    mapped (with_below tree k) (not n.split && is_split i class m) (with_split run j n class m) (with_split (with_below tree k run) (grafted_number k splits j) n class m)
    (ap (λ (ns : List Node). ns ++ parts) (below_set splits tree k top run j x s some) ∙ below_push tree k (set run j x) parts (omega (arith, long, some)))
below_line i splits tree k top run n (Priced j prices) s some =
    let floor = max n.floor (bound_of i n.cuts prices) in
    mapped (with_below tree k) (not n.split && are_prices i n.cuts prices) (with_floor run j n floor) (with_floor (with_below tree k run) (grafted_number k splits j) n floor)
    (below_set splits tree k top run j (record n { floor = floor }) s some)
below_line i splits tree k top run n (Settled j) s some =
    let floor = settled_floor i n.cuts in
    mapped (with_below tree k) (not n.split && is_settled i n.cuts) (with_floor run j n floor) (with_floor (with_below tree k run) (grafted_number k splits j) n floor)
    (below_set splits tree k top run j (record n { floor = floor }) s some)

then_line : (i : Problem) (splits : ℕ) (tree : List Node) (k : ℕ) (top : Node) (run : List Node) (line : Line) (o : Option Node) → Stands splits tree k top → 0 < length run
    → option_and_then (λ n. node_line i (with_below tree k run) n (grafted_line k splits line)) o ≡ option_map (with_below tree k) (option_and_then (λ n. node_line i run n line) o)
then_line i splits tree k top run line None s some = refl
then_line i splits tree k top run line (Some n) s some = below_line i splits tree k top run n line s some

then_mapped : {X Y W Z : Type 0} (f : X → Y) (g : Y → Option Z) (h : X → Option W) (f' : W → Z) (o : Option X) → ((x : X) → o ≡ Some x → g (f x) ≡ option_map f' (h x)) → option_and_then g (option_map f o) ≡ option_map f' (option_and_then h o)
then_mapped f g h f' None e = refl
then_mapped f g h f' (Some x) e = e x refl

some_after : (i : Problem) (run next : List Node) (line : Line) → option_and_then (λ n. node_line i run n line) (slice_get run (node_of line)) ≡ Some next → 0 < length run → 0 < length next
some_after i run next line e some =
    let one : nodes_after i run (line ∷ []) ≡ Some next = ap (λ (o : Option (List Node)). option_and_then (λ ns. nodes_after i ns []) o) e in
    let counted : length next ≡ length run + 2 * divisions (line ∷ []) = counted_lines i run next (line ∷ []) one in
    omega (arith, counted, some)

-- lines make the same of a node alone as of the node in a tree
below_lines : (i : Problem) (splits : ℕ) (tree : List Node) (k : ℕ) (top : Node) (run : List Node) (lines : List Line) → Stands splits tree k top → 0 < length run
    → nodes_after i (with_below tree k run) (map (grafted_line k splits) lines) ≡ option_map (with_below tree k) (nodes_after i run lines)
below_lines i splits tree k top run [] s some = refl
below_lines i splits tree k top run (line ∷ lines) s some =
    let t = with_below tree k run in
    let g = grafted_line k splits line in
    let o = option_and_then (λ n. node_line i run n line) (slice_get run (node_of line)) in
    let place : slice_get t (node_of g) ≡ slice_get run (node_of line) = ap (slice_get t) (line_number k splits line) ∙ below_get splits tree k top run (node_of line) s some in
    ap (λ (x : Option Node). option_and_then (λ next. nodes_after i next (map (grafted_line k splits) lines)) (option_and_then (λ n. node_line i t n g) x)) place
    ∙ ap (λ (x : Option (List Node)). option_and_then (λ next. nodes_after i next (map (grafted_line k splits) lines)) x) (then_line i splits tree k top run line (slice_get run (node_of line)) s some)
    ∙ then_mapped (with_below tree k) (λ next. nodes_after i next (map (grafted_line k splits) lines)) (λ next. nodes_after i next lines) (with_below tree k) o
    (λ next e. below_lines i splits tree k top next lines s (some_after i run next line e some))

-- a node of a tree, and the tree with that node
with_itself : (tree : List Node) (k : ℕ) (top : Node) → slice_get tree k ≡ Some top → with_below tree k (top ∷ []) ≡ tree
with_itself tree k top at = append-nil (set tree k top) ∙ set_over tree k top at

pub stands : (i : Problem) (lines : List Line) (tree : List Node) (k : ℕ) (top : Node) → nodes_of i lines ≡ Some tree → slice_get tree k ≡ Some top → Stands (divisions lines) tree k top
stands i lines tree k top made at = record {
  counted = let counted : length tree ≡ 1 + 2 * divisions lines = counted_lines i (new_node [] ∷ []) tree lines made in omega (arith, counted);
  at = at;
}

-- what the lines of a run make behind those of a tree, is what they make of the node alone
pub grafted_after : (i : Problem) (lines : List Line) (tree : List Node) (k : ℕ) (top : Node) (run : List Line) → nodes_of i lines ≡ Some tree → slice_get tree k ≡ Some top
    → nodes_after i tree (map (grafted_line k (divisions lines)) run) ≡ option_map (with_below tree k) (nodes_after i (top ∷ []) run)
grafted_after i lines tree k top run made at =
    ap (λ (ns : List Node). nodes_after i ns (map (grafted_line k (divisions lines)) run)) (sym (with_itself tree k top at))
    ∙ below_lines i (divisions lines) tree k top (top ∷ []) run (stands i lines tree k top made at) (omega arith)

pub grafted_nodes : (i : Problem) (lines : List Line) (tree : List Node) (k : ℕ) (top : Node) (run : List Line) → nodes_of i lines ≡ Some tree → slice_get tree k ≡ Some top
    → nodes_of i (grafted_lines lines k run) ≡ option_map (with_below tree k) (nodes_after i (top ∷ []) run)
grafted_nodes i lines tree k top run made at =
    after_append i (new_node [] ∷ []) tree lines (map (grafted_line k (divisions lines)) run) made ∙ grafted_after i lines tree k top run made at
