-- A tree into which a run is grafted, line by line beside the run's own tree.
use Rattle.report_grafts.proofs.Common.{◌≡◌, inl, inr, ℕ, zero, suc, ◌+◌, ◌*◌, ◌<◌, ◌≤◌, max, true, false, cond, ◌&&◌, not, List, [], ◌∷◌, ◌++◌, length, map, set, refl, sym, ap, ◌∙◌, subst, append_assoc, arith, Some, None, slice_get, cases_eq, eq-eqb, ne_eqb, length-set, length_push, slice_get_within, Problem, Class, Cut, AtMost, AtLeast, are_prices, bound_of, is_settled, Node, new_node, child, with_floor, with_split, settled_floor, Line, Split, Priced, Settled, is_split, node_line, node_of, nodes_after, grafted_number, grafted_line}
use Rattle.head_splits.specs.declared.Side.{Side}
use Rattle.report_grafts.proofs.Places.{front_get, last_get, set_same, set_other, pushed_get, same_some}
use Rattle.report_grafts.proofs.Lines.{Good, cond_some, first_good, one_good}

-- ---- numbers

number_more : (node splits k : ℕ) → 0 < k → grafted_number node splits k ≡ k + 2 * splits
number_more node splits k h = ap (λ b. cond b node (k + 2 * splits)) (ne_eqb k 0 (λ e. omega (arith, h, e)))

number_zero : (node splits k : ℕ) → k ≡ 0 → grafted_number node splits k ≡ node
number_zero node splits k h = ap (λ b. cond b node (k + 2 * splits)) (eq-eqb k 0 h)

number_apart : (node splits j k : ℕ) → node ≤ 2 * splits → (j ≡ k → ⊥) → grafted_number node splits j ≡ grafted_number node splits k → ⊥
number_apart node splits j k there h e =
    elim (cases_eq j 0) [
      | inl zero_j ↦
          elim (cases_eq k 0) [
            | inl zero_k ↦ h (zero_j ∙ sym zero_k)
            | inr more_k ↦
                let f : node ≡ k + 2 * splits = sym (number_zero node splits j zero_j) ∙ e ∙ number_more node splits k (omega (arith, more_k)) in
                omega (arith, f, there, more_k)
          ]
      | inr more_j ↦
          elim (cases_eq k 0) [
            | inl zero_k ↦
                let f : j + 2 * splits ≡ node = sym (number_more node splits j (omega (arith, more_j))) ∙ e ∙ number_zero node splits k zero_k in
                omega (arith, f, there, more_j)
            | inr more_k ↦
                let f : j + 2 * splits ≡ k + 2 * splits = sym (number_more node splits j (omega (arith, more_j))) ∙ e ∙ number_more node splits k (omega (arith, more_k)) in
                h (omega (arith, f))
          ]
    ]

-- ---- the two trees

-- the node of a run of that number stands in the tree under its number there, with the same cuts, and is split where that is
pub record Stands (tree : List Node) (number : ℕ) (r : Node) : Type 0 where
  pub node : Node
  pub at : slice_get tree number ≡ Some node
  pub cuts : node.cuts ≡ r.cuts
  pub split : node.split ≡ r.split

pub record Follows (node splits : ℕ) (run tree : List Node) : Type 0 where
  pub counted : length tree ≡ length run + 2 * splits
  pub some : 0 < length run
  pub there : node ≤ 2 * splits
  pub same : (k : ℕ) (r : Node) → slice_get run k ≡ Some r → Stands tree (grafted_number node splits k) r

stands_root : (splits node : ℕ) (base : List Cut) (tree : List Node) (n : Node) → slice_get tree node ≡ Some n → n.split ≡ false → n.cuts ≡ base
    → (k : ℕ) (r : Node) → slice_get (new_node base ∷ []) k ≡ Some r → Stands tree (grafted_number node splits k) r
stands_root splits node base tree n at unsplit cuts zero r e =
    let same : new_node base ≡ r = same_some _ _ e in
    subst (Stands tree node) same (record { node = n; at = at; cuts = cuts; split = unsplit })
stands_root splits node base tree n at unsplit cuts (suc k) r e = absurd (cc)

-- a node of a tree, and the run's node 0 at it
pub follows_root : (splits node : ℕ) (base : List Cut) (tree : List Node) (n : Node) → length tree ≡ 2 * splits + 1 → slice_get tree node ≡ Some n → n.split ≡ false → n.cuts ≡ base → Follows node splits (new_node base ∷ []) tree
follows_root splits node base tree n counted at unsplit cuts = record {
  counted = omega arith;
  some = omega arith;
  there = let within : node < length tree = slice_get_within tree node n at in omega arith;
  same = stands_root splits node base tree n at unsplit cuts;
}

-- a node is written over in both
follows_set : (node splits : ℕ) (run tree : List Node) (k : ℕ) (r t x y : Node) → Follows node splits run tree → slice_get run k ≡ Some r → slice_get tree (grafted_number node splits k) ≡ Some t
    → y.cuts ≡ x.cuts → y.split ≡ x.split → Follows node splits (set run k x) (set tree (grafted_number node splits k) y)
follows_set node splits run tree k r t x y f atr att cuts split =
    let number = grafted_number node splits in
    let one : length (set run k x) ≡ length run = length-set run k x in
    let other : length (set tree (number k) y) ≡ length tree = length-set tree (number k) y in
    let counted = f.counted in
    let some = f.some in
    record {
      counted = omega (arith, counted, one, other);
      some = omega (arith, some, one);
      there = f.there;
      same = λ j s e.
          elim (cases_eq j k) [
            | inl same ↦
                let written : slice_get (set run k x) k ≡ Some s = subst (λ n. slice_get (set run k x) n ≡ Some s) same e in
                let is : x ≡ s = same_some x s (sym (set_same run k r x atr) ∙ written) in
                subst (λ n. Stands (set tree (number k) y) (number n) s) (sym same)
                (subst (Stands (set tree (number k) y) (number k)) is (record { node = y; at = set_same tree (number k) t y att; cuts = cuts; split = split }))
            | inr apart ↦
                let old = f.same j s (sym (set_other run k j x apart) ∙ e) in
                record { node = old.node; at = set_other tree (number k) (number j) y (number_apart node splits j k f.there apart) ∙ old.at; cuts = old.cuts; split = old.split }
          ];
    }

-- a node is added to both
follows_push : (node splits : ℕ) (run tree : List Node) (x y : Node) → Follows node splits run tree → y.cuts ≡ x.cuts → y.split ≡ x.split → Follows node splits (run ++ x ∷ []) (tree ++ y ∷ [])
follows_push node splits run tree x y f cuts split =
    let number = grafted_number node splits in
    let one : length (run ++ x ∷ []) ≡ length run + 1 = length_push run x in
    let other : length (tree ++ y ∷ []) ≡ length tree + 1 = length_push tree y in
    let counted = f.counted in
    let some = f.some in
    record {
      counted = omega (arith, counted, one, other);
      some = omega (arith, one);
      there = f.there;
      same = λ j s e.
          elim (pushed_get run x j s e) [
            | inl new ↦
                let place : number j ≡ length tree = number_more node splits j (omega (arith, new.1, some)) ∙ omega (arith, new.1, counted) in
                subst (Stands (tree ++ y ∷ []) (number j)) new.0
                (record { node = y; at = ap (slice_get (tree ++ y ∷ [])) place ∙ last_get tree y []; cuts = cuts; split = split })
            | inr old ↦
                let t = f.same j s old.1 in
                record { node = t.node; at = front_get tree (y ∷ []) (number j) (slice_get_within tree (number j) t.node t.at) ∙ t.at; cuts = t.cuts; split = t.split }
          ];
    }

-- a node is split in both
follows_split : (node splits : ℕ) (run tree : List Node) (k : ℕ) (r t : Node) (class : Class) (m : ℕ) → Follows node splits run tree → slice_get run k ≡ Some r → slice_get tree (grafted_number node splits k) ≡ Some t
    → t.cuts ≡ r.cuts → Follows node splits (with_split run k r class m) (with_split tree (grafted_number node splits k) t class m)
follows_split node splits run tree k r t class m f atr att cuts =
    let number = grafted_number node splits in
    let olds = set run k (record r { split = true }) in
    let news = set tree (number k) (record t { split = true }) in
    let cut : Side → ℕ → Cut = λ side n. record { class = class; side = side; m = n } in
    let more : (side : Side) (n : ℕ) → (child t class side n).cuts ≡ (child r class side n).cuts = λ side n. ap (λ (cs : List Cut). cs ++ cut side n ∷ []) cuts in
    let a = follows_set node splits run tree k r t (record r { split = true }) (record t { split = true }) f atr att cuts refl in
    let b = follows_push node splits olds news (child r class AtMost m) (child t class AtMost m) a (more AtMost m) refl in
    let c = follows_push node splits (olds ++ child r class AtMost m ∷ []) (news ++ child t class AtMost m ∷ []) (child r class AtLeast (m + 1)) (child t class AtLeast (m + 1)) b (more AtLeast (m + 1)) refl in
    subst (λ (ns : List Node). Follows node splits ns (with_split tree (number k) t class m)) (append_assoc olds (child r class AtMost m ∷ []) (child r class AtLeast (m + 1) ∷ []))
    (subst (Follows node splits ((olds ++ child r class AtMost m ∷ []) ++ child r class AtLeast (m + 1) ∷ [])) (append_assoc news (child t class AtMost m ∷ []) (child t class AtLeast (m + 1) ∷ [])) c)

-- ---- lines

-- what a good line of the run makes of the tree
record Grown (i : Problem) (node splits : ℕ) (next tree : List Node) (line : Line) : Type 0 where
  pub tree_after : List Node
  pub good : Good i tree tree_after (grafted_line node splits line)
  pub follows : Follows node splits next tree_after

follows_line : (i : Problem) (node splits : ℕ) (run next tree : List Node) (r : Node) (line : Line) → Follows node splits run tree → slice_get run (node_of line) ≡ Some r → node_line i run r line ≡ Some next → Grown i node splits next tree line
follows_line i node splits run next tree r (Split k class m) f at made =
    let t = f.same k r at in
    let number = grafted_number node splits in
    let q = cond_some (not r.split && is_split i class m) (with_split run k r class m) next made in
    let good : not t.node.split && is_split i class m ≡ true = ap (λ b. not b && is_split i class m) t.split ∙ q.0 in
    record {
      tree_after = with_split tree (number k) t.node class m;
      good = record { node = t.node; at = t.at; made = ap (λ b. cond b (Some (with_split tree (number k) t.node class m)) None) good };
      follows = subst (λ (ns : List Node). Follows node splits ns (with_split tree (number k) t.node class m)) q.1 (follows_split node splits run tree k r t.node class m f at t.at t.cuts);
    }
follows_line i node splits run next tree r (Priced k prices) f at made =
    let t = f.same k r at in
    let number = grafted_number node splits in
    let q = cond_some (not r.split && are_prices i r.cuts prices) (with_floor run k r (max r.floor (bound_of i r.cuts prices))) next made in
    let floor = max t.node.floor (bound_of i t.node.cuts prices) in
    let good : not t.node.split && are_prices i t.node.cuts prices ≡ true = ap (λ b. not b && are_prices i t.node.cuts prices) t.split ∙ ap (λ (cs : List Cut). not r.split && are_prices i cs prices) t.cuts ∙ q.0 in
    record {
      tree_after = with_floor tree (number k) t.node floor;
      good = record { node = t.node; at = t.at; made = ap (λ b. cond b (Some (with_floor tree (number k) t.node floor)) None) good };
      follows = subst (λ (ns : List Node). Follows node splits ns (with_floor tree (number k) t.node floor)) q.1
          (follows_set node splits run tree k r t.node (record r { floor = max r.floor (bound_of i r.cuts prices) }) (record t.node { floor = floor }) f at t.at t.cuts t.split);
    }
follows_line i node splits run next tree r (Settled k) f at made =
    let t = f.same k r at in
    let number = grafted_number node splits in
    let q = cond_some (not r.split && is_settled i r.cuts) (with_floor run k r (settled_floor i r.cuts)) next made in
    let floor = settled_floor i t.node.cuts in
    let good : not t.node.split && is_settled i t.node.cuts ≡ true = ap (λ b. not b && is_settled i t.node.cuts) t.split ∙ ap (λ (cs : List Cut). not r.split && is_settled i cs) t.cuts ∙ q.0 in
    record {
      tree_after = with_floor tree (number k) t.node floor;
      good = record { node = t.node; at = t.at; made = ap (λ b. cond b (Some (with_floor tree (number k) t.node floor)) None) good };
      follows = subst (λ (ns : List Node). Follows node splits ns (with_floor tree (number k) t.node floor)) q.1
          (follows_set node splits run tree k r t.node (record r { floor = settled_floor i r.cuts }) (record t.node { floor = floor }) f at t.at t.cuts t.split);
    }

-- the lines of a run are good lines of the tree that it is grafted into
pub follows_lines : (i : Problem) (node splits : ℕ) (run last tree : List Node) (lines : List Line) → Follows node splits run tree → nodes_after i run lines ≡ Some last
    → (grown : List Node) × (nodes_after i tree (map (grafted_line node splits) lines) ≡ Some grown)
follows_lines i node splits run last tree [] f e = (tree, refl)
follows_lines i node splits run last tree (line ∷ lines) f e =
    let r = first_good i run last line lines e in
    let g = follows_line i node splits run r.0 tree r.1.node line f r.1.at r.1.made in
    let rest = follows_lines i node splits r.0 last g.tree_after lines g.follows r.2 in
    (rest.0, one_good i tree g.tree_after (grafted_line node splits line) (map (grafted_line node splits) lines) g.good ∙ rest.1)
