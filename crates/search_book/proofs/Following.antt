-- What the posts of a step leave of a book beside its node.
use Rattle.search_book.proofs.Common.{◌≡◌, ◌≢◌, ℕ, zero, suc, ◌+◌, ◌<◌, ◌≤◌, max, Bool, true, false, cond, ◌&&◌, ◌==◌, not, List, [], ◌∷◌, ◌++◌, length, set, refl, sym, ap, ◌∙◌, subst, arith, nat_le, nat_lt, Option, Some, None, slice_get, and_parts, ltb-true, Problem, Class, low, high, Node, child, with_floor, with_split, settled_floor, Post, Plan, Priced, Split, Settled, StepPosts, ByPrice, Book, is_open, is_node_and, priced, divided, settled, is_better, step, book_after, close_posts, plan_of, plan_posts, posts_of, where_open, slice_get_front, slice_get_other, at_node_some, bind_some, cond_some, Follows}
use Rattle.search_core.specs.declared.step_posts.Close.TheVariants.{Split as CloseBySplit, Settled as CloseAsSettled}
use Rattle.std.proofs.lemmas.List.{length-append, length-set}
use Rattle.shift_instance.specs.declared.Row.{Row}
use Rattle.shift_instance.specs.Rota.{are_legal_rows, cost, rota_of}
use Rattle.rota_cost.specs.Costed.{Costing}
use Rattle.head_splits.specs.declared.Prices.{Prices}
use Rattle.head_splits.specs.declared.Side.TheVariants.{AtMost, AtLeast}
use Rattle.head_splits.specs.Bound.{are_prices, bound_of}
use Rattle.head_splits.specs.Settled.{is_live_class, is_settled}
use Rattle.search_core.specs.declared.step_posts.Close.{Close}
use Rattle.search_core.proofs.Closed.{parts}

pub node_at : {X : Type 0} (xs : List X) (j : ℕ) → j < length xs → (x : X) × (slice_get xs j ≡ Some x)
node_at [] j h = absurd (omega (arith, h))
node_at (x ∷ xs) zero h = (x, refl)
node_at (x ∷ xs) (suc j) h = node_at xs j (omega (arith, h))

unmoved : (x more : ℕ) (b : Book) → Follows x more b b
unmoved x more b = record { cost = omega arith; others = λ j other low. refl; least = omega arith; most = omega arith }

further : (x m n : ℕ) (b c d : Book) → Follows x m b c → Follows x n c d → Follows x (m + n) b d
further x m n b c d f g =
    let cost = f.cost in
    let cost' = g.cost in
    let least = f.least in
    let least' = g.least in
    let most = f.most in
    let most' = g.most in
    record {
      cost = omega (arith, cost, cost');
      others = λ j other low. g.others j other (omega (arith, low, least)) ∙ f.others j other low;
      least = omega (arith, least, least');
      most = omega (arith, most, most');
    }

-- a node that gets another floor or is split, with so many more behind the others
changed : (b : Book) (x : ℕ) (n : Node) (more : List Node) → Follows x (length more) b (record b { nodes = set b.nodes x n ++ more })
changed b x n more =
    let olds : List Node = set b.nodes x n in
    let l : length olds ≡ length b.nodes = length-set b.nodes x n in
    let a : length (olds ++ more) ≡ length olds + length more = length-append olds more in
    record {
      cost = omega arith;
      others = λ j other low.
          let at = node_at b.nodes j low in
          slice_get_front olds more j at.0 (slice_get_other b.nodes x j n other ∙ at.1) ∙ sym at.1;
      least = omega (arith, l, a);
      most = omega (arith, l, a);
    }

refloored : (b : Book) (x : ℕ) (n : Node) → Follows x 0 b (record b { nodes = set b.nodes x n })
refloored b x n =
    let l : length (set b.nodes x n) ≡ length b.nodes = length-set b.nodes x n in
    record {
      cost = omega arith;
      others = λ j other low. slice_get_other b.nodes x j n other;
      least = omega (arith, l);
      most = omega (arith, l);
    }

plan_follows : (i : Problem) (b c : Book) (w x n : ℕ) (rows : List Row) → step i b (Plan w rows n) ≡ Some c → Follows x 0 b c
plan_follows i b c w x n rows e =
    let r = cond_some (is_better i b rows n) (record b { best = rows; cost = n }) c e in
    let p = and_parts (are_legal_rows i rows && (cost i (rota_of rows) == n)) (nat_lt n b.cost) r.0 in
    let less : n < b.cost = ltb-true n b.cost p.1 in
    subst (Follows x 0 b) r.1 (record { cost = omega (arith, less); others = λ j other low. refl; least = omega arith; most = omega arith })

priced_follows : (i : Problem) (b c : Book) (w x : ℕ) (prices : Prices) → step i b (Priced w x prices) ≡ Some c → Follows x 0 b c
priced_follows i b c w x prices e =
    let r = at_node_some b c x (priced i b x prices) e in
    let n = r.0 in
    let floor : ℕ = max n.floor (bound_of i n.cuts prices) in
    let q = cond_some (not n.split && are_prices i n.cuts prices) (with_floor b.nodes x n floor) r.2 r.3 in
    subst (Follows x 0 b) (ap (λ (l : List Node). record b { nodes = l }) q.1 ∙ r.4) (refloored b x (record n { floor = floor }))

split_follows : (i : Problem) (b c : Book) (w x m : ℕ) (class : Class) → step i b (Split w x class m) ≡ Some c → Follows x 2 b c
split_follows i b c w x m class e =
    let r = at_node_some b c x (divided i b x class m) e in
    let n = r.0 in
    let q = cond_some (is_open b n && is_live_class i class && nat_le (low n.cuts class) m && nat_lt m (high i n.cuts class)) (with_split b.nodes x n class m) r.2 r.3 in
    subst (Follows x 2 b) (ap (λ (l : List Node). record b { nodes = l }) q.1 ∙ r.4)
    (changed b x (record n { split = true }) (child n class AtMost m ∷ child n class AtLeast (m + 1) ∷ []))

settled_follows : (i : Problem) (b c : Book) (w x : ℕ) → step i b (Settled w x) ≡ Some c → Follows x 0 b c
settled_follows i b c w x e =
    let r = at_node_some b c x (settled i b x) e in
    let n = r.0 in
    let q = cond_some (not n.split && is_settled i n.cuts) (with_floor b.nodes x n (settled_floor i n.cuts)) r.2 r.3 in
    subst (Follows x 0 b) (ap (λ (l : List Node). record b { nodes = l }) q.1 ∙ r.4) (refloored b x (record n { floor = settled_floor i n.cuts }))

-- ---- one post or none

no_posts : (i : Problem) (b c : Book) (x more : ℕ) → book_after i b [] ≡ Some c → Follows x more b c
no_posts i b c x more e = let same : b ≡ c = cc (e) in subst (Follows x more b) same (unmoved x more b)

one_where : (i : Problem) (b c : Book) (x more : ℕ) (post : Post) (t : Bool) → (step i b post ≡ Some c → Follows x more b c) → book_after i b (cond t (post ∷ []) []) ≡ Some c → Follows x more b c
one_where i b c x more post true follows e =
    let r = bind_some (λ next. book_after i next []) (step i b post) c e in
    let last = r.2 in
    let same : r.0 ≡ c = cc (last) in
    follows (r.1 ∙ ap Some same)
one_where i b c x more post false follows e = no_posts i b c x more e

plans_follow : (i : Problem) (b c d : Book) (w x : ℕ) (plan : Option Costing) → book_after i b (plan_posts w plan d) ≡ Some c → Follows x 0 b c
plans_follow i b c d w x None e = no_posts i b c x 0 e
plans_follow i b c d w x (Some p) e = one_where i b c x 0 (Plan w p.rows p.cost) (nat_lt p.cost d.cost) (plan_follows i b c w x p.cost p.rows) e

more_follows : (x : ℕ) (b c : Book) → Follows x 0 b c → Follows x 2 b c
more_follows x b c f =
    let most = f.most in
    record { cost = f.cost; others = f.others; least = f.least; most = omega (arith, most) }

close_follows : (i : Problem) (b c : Book) (w x : ℕ) (close : Close) → book_after i b (close_posts w x close b) ≡ Some c → Follows x 2 b c
close_follows i b c w x ByPrice e = no_posts i b c x 2 e
close_follows i b c w x (CloseBySplit class m) e = one_where i b c x 2 (Split w x class m) (is_node_and b x (is_open b)) (split_follows i b c w x m class) e
close_follows i b c w x (CloseAsSettled node) e = more_follows x b c (one_where i b c x 0 (Settled w x) (is_node_and b x (is_open b)) (settled_follows i b c w x) e)

-- ---- the posts of a step
pub step_follows : (i : Problem) (b c : Book) (w : ℕ) (step : StepPosts) → book_after i b (posts_of i b w step) ≡ Some c → Follows step.node 2 b c
step_follows i b c w step e =
    let p = parts i b c w step e in
    let x = step.node in
    let one = plans_follow i b p.planned b w x step.plan p.plan in
    let two = plans_follow i p.planned p.plans p.planned w x (plan_of step.close) p.settled in
    let three = one_where i p.plans p.prices x 0 (Priced w x step.proved.prices) (is_node_and p.plans x (is_open p.plans)) (priced_follows i p.plans p.prices w x step.proved.prices) p.priced in
    let four = close_follows i p.prices c w x step.close p.closed in
    further x 0 2 b p.prices c (further x 0 0 b p.plans p.prices (further x 0 0 b p.planned p.plans one two) three) four
