-- The nodes that good lines make, by the splits among them.
use Rattle.report_grafts.proofs.Common.{◌≡◌, inl, inr, ℕ, zero, suc, ◌+◌, ◌-◌, ◌*◌, ◌/◌, ◌%◌, ◌<◌, ◌≤◌, Bool, true, false, cond, ◌&&◌, ◌||◌, ◌==◌, not, nat_lt, nat_le, List, [], ◌∷◌, ◌++◌, length, set, reverse, refl, sym, ap, ◌∙◌, subst, append_assoc, arith, Option, Some, slice_get, list_any, option_map_or, and_parts, leb-true, cases_eq, cases_lt, eq-eqb, ne_eqb, eqb-true, eqb-false, cond_both, or_left, or_right, length-set, length-append, length_push, append-nil, reverse-append, slice_get_within, slice_get_past, Problem, shift_list, Class, Cut, AtMost, AtLeast, Node, new_node, child, with_split, Line, Split, Priced, Settled, is_split, nodes_after, divisions, Branch, branches_of, cuts_at, is_split_at, at_most, at_least, MadeParts, MakeNodes, AreBranches}
use Rattle.std.proofs.lemmas.List.Folds.{list_any-append}
use Rattle.report_grafts.proofs.Places.{last_get, set_same, set_other, pushed_get, part_after_set, part_in_front}
use Rattle.report_grafts.proofs.Lines.{Lifted, cond_some, divisions_cons, first_good, priced_lifts, settled_lifts}

abbrev names : ℕ → Branch → Bool
names x b = b.node == x

-- ---- a node with another floor

made_set : (base : List Cut) (branches : List Branch) (nodes : List Node) (k : ℕ) (n y : Node) → MakeNodes base branches nodes → slice_get nodes k ≡ Some n → y.cuts ≡ n.cuts → y.split ≡ n.split → MakeNodes base branches (set nodes k y)
made_set base branches nodes k n y h at cuts split =
    let same : (x : ℕ) → cuts_at (set nodes k y) x ≡ cuts_at nodes x = λ x. part_after_set (λ (n : Node). n.cuts) [] nodes k n y x at cuts in
    record {
      counted = length-set nodes k y ∙ h.counted;
      root = same 0 ∙ h.root;
      parts = λ q b e.
          let p = h.parts q b e in
          record {
            older = p.older;
            small = p.small;
            first = same (2 * q + 1) ∙ p.first ∙ ap (λ (cs : List Cut). cs ++ at_most b ∷ []) (sym (same b.node));
            second = same (2 * q + 2) ∙ p.second ∙ ap (λ (cs : List Cut). cs ++ at_least b ∷ []) (sym (same b.node));
          };
      split = λ x. part_after_set (λ (n : Node). n.split) false nodes k n y x at split ∙ h.split x;
    }

-- ---- a node that is split

-- two unsplit nodes at the end
ends_unsplit : (xs : List Node) (a b : Node) (x : ℕ) → a.split ≡ false → b.split ≡ false → length xs ≤ x → is_split_at (xs ++ a ∷ b ∷ []) x ≡ false
ends_unsplit [] a b zero e f h = e
ends_unsplit [] a b (suc zero) e f h = f
ends_unsplit [] a b (suc (suc x)) e f h = refl
ends_unsplit (z ∷ xs) a b zero e f h = absurd (omega arith)
ends_unsplit (z ∷ xs) a b (suc x) e f h = ends_unsplit xs a b x e f (omega arith)

or_none : (x y : Bool) → y ≡ false → (x || (y || false)) ≡ x
or_none true y e = refl
or_none false y e = ap (λ b. b || false) e

past_unsplit : (nodes : List Node) (x : ℕ) → length nodes ≤ x → is_split_at nodes x ≡ false
past_unsplit nodes x h = ap (λ (o : Option Node). option_map_or (λ (n : Node). n.split) o false) (slice_get_past nodes x h)

made_split : (base : List Cut) (branches : List Branch) (nodes : List Node) (k : ℕ) (n : Node) (class : Class) (m : ℕ) → MakeNodes base branches nodes → slice_get nodes k ≡ Some n → m ≤ 200
    → MakeNodes base (branches ++ record { node = k; class = class; m = m } ∷ []) (with_split nodes k n class m)
made_split base branches nodes k n class m h at small =
    let b : Branch = record { node = k; class = class; m = m } in
    let y : Node = record n { split = true } in
    let olds = set nodes k y in
    let left = child n class AtMost m in
    let right = child n class AtLeast (m + 1) in
    let all = olds ++ left ∷ right ∷ [] in
    let counted : length nodes ≡ 2 * length branches + 1 = h.counted in
    let within : k < length nodes = slice_get_within nodes k n at in
    let long : length olds ≡ length nodes = length-set nodes k y in
    let more : length (branches ++ b ∷ []) ≡ length branches + 1 = length_push branches b in
    let sum : length all ≡ length olds + 2 = length-append olds (left ∷ right ∷ []) in
    let same : (x : ℕ) → x < length nodes → cuts_at all x ≡ cuts_at nodes x =
    λ x less. part_in_front (λ (n : Node). n.cuts) [] olds (left ∷ right ∷ []) x (omega (arith, long, less)) ∙ part_after_set (λ (n : Node). n.cuts) [] nodes k n y x at refl in
    let here : cuts_at nodes k ≡ n.cuts = ap (λ (o : Option Node). option_map_or (λ (n : Node). n.cuts) o []) at in
    let one : cuts_at all (length olds) ≡ left.cuts = ap (λ (o : Option Node). option_map_or (λ (n : Node). n.cuts) o []) (last_get olds left (right ∷ [])) in
    let two : cuts_at all (length (olds ++ left ∷ [])) ≡ right.cuts =
    ap (λ (ns : List Node). cuts_at ns (length (olds ++ left ∷ []))) (sym (append_assoc olds (left ∷ []) (right ∷ [])))
    ∙ ap (λ (o : Option Node). option_map_or (λ (n : Node). n.cuts) o []) (last_get (olds ++ left ∷ []) right []) in
    let pushed : length (olds ++ left ∷ []) ≡ length olds + 1 = length_push olds left in
    let new_parts : (q : ℕ) → q ≡ length branches → MadeParts all q b =
    λ q e. record {
      older = let le : k < length nodes = within in omega (arith, le, counted, e);
      small = small;
      first = ap (cuts_at all) (omega (arith, long, counted, e)) ∙ one ∙ ap (λ (cs : List Cut). cs ++ at_most b ∷ []) (sym (same k within ∙ here));
      second = ap (cuts_at all) (omega (arith, long, counted, e, pushed)) ∙ two ∙ ap (λ (cs : List Cut). cs ++ at_least b ∷ []) (sym (same k within ∙ here));
    } in
    record {
      counted = omega (arith, sum, long, counted, more);
      root = same 0 (omega (arith, counted)) ∙ h.root;
      parts = λ q d e.
          elim (pushed_get branches b q d e) [
            | inl new ↦ subst (MadeParts all q) new.0 (new_parts q new.1)
            | inr old ↦
                let p = h.parts q d old.1 in
                let before : q < length branches = old.0 in
                let older : d.node < 2 * q + 1 = p.older in
                record {
                  older = older;
                  small = p.small;
                  first = same (2 * q + 1) (omega (arith, before, counted)) ∙ p.first ∙ ap (λ (cs : List Cut). cs ++ at_most d ∷ []) (sym (same d.node (omega (arith, before, counted, older))));
                  second = same (2 * q + 2) (omega (arith, before, counted)) ∙ p.second ∙ ap (λ (cs : List Cut). cs ++ at_least d ∷ []) (sym (same d.node (omega (arith, before, counted, older))));
                }
          ];
      split = λ x.
          elim (cases_eq x k) [
            | inl e ↦
                subst (λ z. is_split_at all z ≡ list_any (names z) (branches ++ b ∷ [])) (sym e)
                (part_in_front (λ (n : Node). n.split) false olds (left ∷ right ∷ []) k (omega (arith, long, within))
                ∙ ap (λ (o : Option Node). option_map_or (λ (n : Node). n.split) o false) (set_same nodes k n y at)
                ∙ sym (list_any-append (names k) branches (b ∷ []) ∙ or_right (list_any (names k) branches) (names k b || false) (or_left (names k b) false (eq-eqb k k refl))))
            | inr apart ↦
                let rest : list_any (names x) (branches ++ b ∷ []) ≡ list_any (names x) branches =
                list_any-append (names x) branches (b ∷ []) ∙ or_none (list_any (names x) branches) (names x b) (ne_eqb k x (λ e. apart (sym e))) in
                elim (cases_lt x (length nodes)) [
                  | inl less ↦
                      part_in_front (λ (n : Node). n.split) false olds (left ∷ right ∷ []) x (omega (arith, long, less))
                      ∙ ap (λ (o : Option Node). option_map_or (λ (n : Node). n.split) o false) (set_other nodes k x y apart)
                      ∙ h.split x ∙ sym rest
                  | inr past ↦ ends_unsplit olds left right x refl refl (omega (arith, long, past)) ∙ sym (past_unsplit nodes x past) ∙ h.split x ∙ sym rest
                ]
          ];
    }

-- ---- lines

made_floor : (i : Problem) (base : List Cut) (branches : List Branch) (nodes next : List Node) (k : ℕ) (n : Node) → MakeNodes base branches nodes → slice_get nodes k ≡ Some n → Lifted i nodes next k n → MakeNodes base branches next
made_floor i base branches nodes next k n h at l =
    subst (MakeNodes base branches) (sym l.is) (made_set base branches nodes k n (record n { floor = l.floor }) h at refl refl)

made_lines_from : (i : Problem) (base : List Cut) (branches : List Branch) (nodes last : List Node) (lines : List Line) → MakeNodes base branches nodes → nodes_after i nodes lines ≡ Some last → MakeNodes base (branches ++ branches_of lines) last
made_lines_from i base branches nodes last [] h e =
    let same : nodes ≡ last = cc in
    subst (λ (bs : List Branch). MakeNodes base bs last) (sym (append-nil branches)) (subst (MakeNodes base branches) same h)
made_lines_from i base branches nodes last (Split k class m ∷ lines) h e =
    let r = first_good i nodes last (Split k class m) lines e in
    let n = r.1.node in
    let b : Branch = record { node = k; class = class; m = m } in
    let q = cond_some (not n.split && is_split i class m) (with_split nodes k n class m) r.0 r.1.made in
    let p = and_parts (not n.split) (is_split i class m) q.0 in
    let small = and_parts (nat_lt class.shift (length (shift_list i)) && nat_lt class.day i.days && nat_le (length class.prefix) 48) (nat_le m 200) p.1 in
    let next = subst (MakeNodes base (branches ++ b ∷ [])) q.1 (made_split base branches nodes k n class m h r.1.at (leb-true m 200 small.1)) in
    subst (λ (bs : List Branch). MakeNodes base bs last) (append_assoc branches (b ∷ []) (branches_of lines)) (made_lines_from i base (branches ++ b ∷ []) r.0 last lines next r.2)
made_lines_from i base branches nodes last (Priced k prices ∷ lines) h e =
    let r = first_good i nodes last (Priced k prices) lines e in
    made_lines_from i base branches r.0 last lines (made_floor i base branches nodes r.0 k r.1.node h r.1.at (priced_lifts i nodes r.0 k prices r.1.node r.1.made)) r.2
made_lines_from i base branches nodes last (Settled k ∷ lines) h e =
    let r = first_good i nodes last (Settled k) lines e in
    made_lines_from i base branches r.0 last lines (made_floor i base branches nodes r.0 k r.1.node h r.1.at (settled_lifts i nodes r.0 k r.1.node r.1.made)) r.2

root_split : (base : List Cut) (x : ℕ) → is_split_at (new_node base ∷ []) x ≡ false
root_split base zero = refl
root_split base (suc x) = refl

root_made : (base : List Cut) → MakeNodes base [] (new_node base ∷ [])
root_made base = record {
  counted = omega arith;
  root = refl;
  parts = λ q b e. absurd (cc);
  split = root_split base;
}

-- the splits of good lines make the nodes
pub made_lines : (i : Problem) (base : List Cut) (last : List Node) (lines : List Line) → nodes_after i (new_node base ∷ []) lines ≡ Some last → MakeNodes base (branches_of lines) last
made_lines i base last lines e = made_lines_from i base [] (new_node base ∷ []) last lines (root_made base) e

-- there are as many as lines that split a node
pub branches_counted : (lines : List Line) → length (branches_of lines) ≡ divisions lines
branches_counted [] = refl
branches_counted (Split k class m ∷ lines) =
    let rest : length (branches_of lines) ≡ divisions lines = branches_counted lines in
    let more : divisions (Split k class m ∷ lines) ≡ 1 + divisions lines = divisions_cons (Split k class m) lines in
    omega (arith, rest, more)
branches_counted (Priced k prices ∷ lines) = branches_counted lines
branches_counted (Settled k ∷ lines) = branches_counted lines

-- ---- the cuts of a node

-- the cut that a node of a split has beside those of the node that was split
abbrev pub part_cut : Bool → Branch → Cut
part_cut first b = cond first (at_most b) (at_least b)

-- one step up from a node, by the split that made it
pub cuts_step : (base : List Cut) (branches : List Branch) (nodes : List Node) (at q : ℕ) (first : Bool) (b : Branch) → MakeNodes base branches nodes → slice_get branches q ≡ Some b → at ≡ cond first (2 * q + 1) (2 * q + 2)
    → cuts_at nodes at ≡ cuts_at nodes b.node ++ part_cut first b ∷ []
cuts_step base branches nodes at q true b h e is = ap (cuts_at nodes) is ∙ (h.parts q b e).first
cuts_step base branches nodes at q false b h e is = ap (cuts_at nodes) is ∙ (h.parts q b e).second

pub cuts_gone : (base : List Cut) (branches : List Branch) (nodes : List Node) (at q : ℕ) (first : Bool) (b : Branch) (list goal : List Cut) → MakeNodes base branches nodes → slice_get branches q ≡ Some b → at ≡ cond first (2 * q + 1) (2 * q + 2)
    → cuts_at nodes at ++ reverse list ≡ goal → cuts_at nodes b.node ++ reverse (list ++ part_cut first b ∷ []) ≡ goal
cuts_gone base branches nodes at q first b list goal h e is before =
    ap (λ (cs : List Cut). cuts_at nodes b.node ++ cs) (reverse-append list (part_cut first b ∷ []))
    ∙ sym (append_assoc (cuts_at nodes b.node) (part_cut first b ∷ []) (reverse list))
    ∙ ap (λ (cs : List Cut). cs ++ reverse list) (sym (cuts_step base branches nodes at q first b h e is)) ∙ before

-- the node above is older
pub node_falls : (base : List Cut) (branches : List Branch) (nodes : List Node) (at q : ℕ) (first : Bool) (b : Branch) → MakeNodes base branches nodes → slice_get branches q ≡ Some b → at ≡ cond first (2 * q + 1) (2 * q + 2) → b.node < at
node_falls base branches nodes at q true b h e is = let older : b.node < 2 * q + 1 = (h.parts q b e).older in omega arith
node_falls base branches nodes at q false b h e is = let older : b.node < 2 * q + 1 = (h.parts q b e).older in omega arith

pub small_number : (branches : List Branch) (q : ℕ) (b : Branch) → AreBranches branches → slice_get branches q ≡ Some b → b.m ≤ 200
small_number branches q b made e = (made.1.parts q b e).small

-- the number of the split that made a node, and which of its parts that is
pub halves : (at : ℕ) → 0 < at → at ≡ cond (at % 2 == 1) (2 * ((at - 1) / 2) + 1) (2 * ((at - 1) / 2) + 2)
halves at h =
    cond_both (at % 2 == 1) (2 * ((at - 1) / 2) + 1) (2 * ((at - 1) / 2) + 2) (λ z. at ≡ z)
    (λ e. let odd : at % 2 ≡ 1 = eqb-true (at % 2) 1 e in omega arith)
    (λ e. let even = eqb-false (at % 2) 1 e in omega (arith, even))
