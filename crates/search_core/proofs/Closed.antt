-- Nodes that aren't open stay so under the posts of a step.
use Rattle.search_core.proofs.Common.{◌≡◌, inl, inr, ℕ, zero, suc, ◌+◌, ◌<◌, ◌≤◌, Bool, true, false, cond, ◌&&◌, ◌==◌, not, List, [], ◌∷◌, ◌++◌, set, refl, sym, ap, ◌∙◌, subst, arith, max, nat_le, nat_lt, Option, Some, None, slice_get, option_map_or, and_parts, not-true, false≢true, ltb-true, ltb-false, le-ltb, cases_eq, append-nil, Row, Problem, are_legal_rows, cost, rota_of, Costing, Class, Prices, AtMost, AtLeast, low, high, are_prices, bound_of, Node, child, with_floor, with_split, settled_floor, is_live_class, is_settled, Post, Plan, Priced, Split, Settled, StepPosts, Close, ByPrice, Book, is_open, is_node_and, priced, divided, settled, is_better, step, book_after, book_then, close_posts, plan_of, plan_posts, posts_of, where_open}
use Rattle.search_core.specs.declared.step_posts.Close.TheVariants.{Split as CloseBySplit, Settled as CloseAsSettled}
use Rattle.search_core.proofs.Sound.{cond_some, bind_some, at_node_some}
use Rattle.search_core.proofs.Runs.{book_after-append, slice_get_other, slice_get_front}

-- whether the node of that number is there and isn't open
abbrev pub is_closed : Book → ℕ → Bool
is_closed b j = is_node_and b j (λ n. not (is_open b n))

-- whether there is a node of that number
abbrev pub is_there : Book → ℕ → Bool
is_there b j = is_node_and b j (λ n. true)

-- each node of a book is there in another, and isn't open there if it isn't here
abbrev pub StayClosed : Book → Book → Type 0
StayClosed b c = (j : ℕ) → (is_closed b j ≡ true → is_closed c j ≡ true) × (is_there b j ≡ true → is_there c j ≡ true)

pub some_node : {X : Type 0} (p : X → Bool) (o : Option X) → option_map_or p o false ≡ true → (x : X) × (o ≡ Some x) × (p x ≡ true)
some_node p None h = absurd (false≢true h)
some_node p (Some x) h = (x, refl, h)

pub node_is : {X : Type 0} (p : X → Bool) (o : Option X) (x : X) → o ≡ Some x → p x ≡ true → option_map_or p o false ≡ true
node_is p o x e h = ap (λ m. option_map_or p m false) e ∙ h

pub node_not : {X : Type 0} (p : X → Bool) (o : Option X) (x : X) → o ≡ Some x → p x ≡ false → option_map_or p o false ≡ false
node_not p o x e h = ap (λ m. option_map_or p m false) e ∙ h

-- a node isn't open and closed
not_both : (b : Book) (k : ℕ) → is_node_and b k (is_open b) ≡ true → is_closed b k ≡ true → ⊥
not_both b k opened shut =
    let r = some_node (is_open b) (slice_get b.nodes k) opened in
    let s : not (is_open b r.0) ≡ true = sym (ap (λ (m : Option Node). option_map_or (λ n. not (is_open b n)) m false) r.1) ∙ shut in
    false≢true (sym (not-true (is_open b r.0) s) ∙ r.2)

-- a node that is there and not open
pub closed_now : (c : Book) (k : ℕ) → is_node_and c k (is_open c) ≡ false → is_there c k ≡ true → is_closed c k ≡ true
closed_now c k shut there =
    let m = some_node (λ (n : Node). true) (slice_get c.nodes k) there in
    let no : is_open c m.0 ≡ false = sym (ap (λ (o : Option Node). option_map_or (is_open c) o false) m.1) ∙ shut in
    node_is (λ (n : Node). not (is_open c n)) (slice_get c.nodes k) m.0 m.1 (ap not no)

-- a node that isn't open at a cost isn't at a lower one
still_closed : (s : Bool) (floor high low : ℕ) → low ≤ high → not (not s && nat_lt floor high) ≡ true → not (not s && nat_lt floor low) ≡ true
still_closed true floor high low less h = refl
still_closed false floor high low less h =
    let far : high ≤ floor = ltb-false floor high (not-true (nat_lt floor high) h) in
    ap not (le-ltb floor low (let e : low ≤ floor = omega arith in e))

-- ---- one post

plan_keeps : (i : Problem) (b c : Book) (w n : ℕ) (rows : List Row) → step i b (Plan w rows n) ≡ Some c → StayClosed b c
plan_keeps i b c w n rows e j =
    let r = cond_some (is_better i b rows n) (record b { best = rows; cost = n }) c e in
    let p = and_parts (are_legal_rows i rows && (cost i (rota_of rows) == n)) (nat_lt n b.cost) r.0 in
    let less : n < b.cost = ltb-true n b.cost p.1 in
    let next : Book = record b { best = rows; cost = n } in (
      λ h.
          let m = some_node (λ (x : Node). not (is_open b x)) (slice_get b.nodes j) h in
          let stays : not (is_open next m.0) ≡ true = still_closed m.0.split m.0.floor b.cost n (let l : n ≤ b.cost = omega arith in l) m.2 in
          subst (λ (d : Book). is_closed d j ≡ true) r.1 (node_is (λ (x : Node). not (is_open next x)) (slice_get next.nodes j) m.0 m.1 stays),
      λ h. subst (λ (d : Book). is_there d j ≡ true) r.1 h,
    )

pub at_set : {X : Type 0} (xs : List X) (k : ℕ) (x y : X) → slice_get xs k ≡ Some x → slice_get (set xs k y) k ≡ Some y
at_set [] k x y e = absurd (cc)
at_set (z ∷ xs) zero x y e = refl
at_set (z ∷ xs) (suc k) x y e = at_set xs k x y e

-- a post that changes one open node and may add others
node_keeps : (b : Book) (k : ℕ) (x : Node) (more : List Node) → is_node_and b k (is_open b) ≡ true → StayClosed b (record b { nodes = set b.nodes k x ++ more })
node_keeps b k x more opened j =
    let nodes : List Node = set b.nodes k x ++ more in (
      λ h.
          let m = some_node (λ (y : Node). not (is_open b y)) (slice_get b.nodes j) h in
          elim (cases_eq j k) [
            | inl same ↦ absurd (not_both b k opened (subst (λ z. is_closed b z ≡ true) same h))
            | inr other ↦
                let there : slice_get nodes j ≡ Some m.0 = slice_get_front (set b.nodes k x) more j m.0 (slice_get_other b.nodes k j x other ∙ m.1) in
                node_is (λ (y : Node). not (is_open b y)) (slice_get nodes j) m.0 there m.2
          ],
      λ h.
          let m = some_node (λ (y : Node). true) (slice_get b.nodes j) h in
          elim (cases_eq j k) [
            | inl same ↦
                let at : slice_get b.nodes k ≡ Some m.0 = subst (λ z. slice_get b.nodes z ≡ Some m.0) same m.1 in
                let there : slice_get nodes k ≡ Some x = slice_get_front (set b.nodes k x) more k x (at_set b.nodes k m.0 x at) in
                subst (λ z. option_map_or (λ (n : Node). true) (slice_get nodes z) false ≡ true) (sym same) (node_is (λ (y : Node). true) (slice_get nodes k) x there refl)
            | inr other ↦
                let there : slice_get nodes j ≡ Some m.0 = slice_get_front (set b.nodes k x) more j m.0 (slice_get_other b.nodes k j x other ∙ m.1) in
                node_is (λ (y : Node). true) (slice_get nodes j) m.0 there refl
          ],
    )

floor_keeps : (b : Book) (k : ℕ) (x : Node) → is_node_and b k (is_open b) ≡ true → StayClosed b (record b { nodes = set b.nodes k x })
floor_keeps b k x opened = subst (λ (l : List Node). StayClosed b (record b { nodes = l })) (append-nil (set b.nodes k x)) (node_keeps b k x [] opened)

priced_keeps : (i : Problem) (b c : Book) (w k : ℕ) (prices : Prices) → is_node_and b k (is_open b) ≡ true → step i b (Priced w k prices) ≡ Some c → StayClosed b c
priced_keeps i b c w k prices opened e =
    let r = at_node_some b c k (priced i b k prices) e in
    let n = r.0 in
    let floor : ℕ = max n.floor (bound_of i n.cuts prices) in
    let q = cond_some (not n.split && are_prices i n.cuts prices) (with_floor b.nodes k n floor) r.2 r.3 in
    subst (StayClosed b) (ap (λ (l : List Node). record b { nodes = l }) q.1 ∙ r.4) (floor_keeps b k (record n { floor = floor }) opened)

split_keeps : (i : Problem) (b c : Book) (w k m : ℕ) (class : Class) → is_node_and b k (is_open b) ≡ true → step i b (Split w k class m) ≡ Some c → StayClosed b c
split_keeps i b c w k m class opened e =
    let r = at_node_some b c k (divided i b k class m) e in
    let n = r.0 in
    let q = cond_some (is_open b n && is_live_class i class && nat_le (low n.cuts class) m && nat_lt m (high i n.cuts class)) (with_split b.nodes k n class m) r.2 r.3 in
    subst (StayClosed b) (ap (λ (l : List Node). record b { nodes = l }) q.1 ∙ r.4)
    (node_keeps b k (record n { split = true }) (child n class AtMost m ∷ child n class AtLeast (m + 1) ∷ []) opened)

settled_keeps : (i : Problem) (b c : Book) (w k : ℕ) → is_node_and b k (is_open b) ≡ true → step i b (Settled w k) ≡ Some c → StayClosed b c
settled_keeps i b c w k opened e =
    let r = at_node_some b c k (settled i b k) e in
    let n = r.0 in
    let q = cond_some (not n.split && is_settled i n.cuts) (with_floor b.nodes k n (settled_floor i n.cuts)) r.2 r.3 in
    subst (StayClosed b) (ap (λ (l : List Node). record b { nodes = l }) q.1 ∙ r.4) (floor_keeps b k (record n { floor = settled_floor i n.cuts }) opened)

-- ---- posts in order

no_posts : (i : Problem) (b c : Book) → book_after i b [] ≡ Some c → StayClosed b c
no_posts i b c e = let same : b ≡ c = cc in subst (StayClosed b) same (λ j. (λ h. h, λ h. h))

one_post : (i : Problem) (b c : Book) (post : Post) → book_after i b (post ∷ []) ≡ Some c → step i b post ≡ Some c
one_post i b c post e =
    let r = bind_some (λ next. book_after i next []) (step i b post) c e in
    let same : r.0 ≡ c = cc (r.2) in
    r.1 ∙ ap Some same

plan_where : (i : Problem) (b c : Book) (w : ℕ) (p : Costing) (t : Bool) → book_after i b (cond t (Plan w p.rows p.cost ∷ []) []) ≡ Some c → StayClosed b c
plan_where i b c w p true e = plan_keeps i b c w p.cost p.rows (one_post i b c (Plan w p.rows p.cost) e)
plan_where i b c w p false e = no_posts i b c e

plans_keep : (i : Problem) (b c d : Book) (w : ℕ) (plan : Option Costing) → book_after i b (plan_posts w plan d) ≡ Some c → StayClosed b c
plans_keep i b c d w None e = no_posts i b c e
plans_keep i b c d w (Some p) e =
    plan_where i b c w p (nat_lt p.cost d.cost) e

open_where : (i : Problem) (b c : Book) (post : Post) (t : Bool) → (t ≡ true → step i b post ≡ Some c → StayClosed b c) → book_after i b (cond t (post ∷ []) []) ≡ Some c → StayClosed b c
open_where i b c post true keeps e = keeps refl (one_post i b c post e)
open_where i b c post false keeps e = no_posts i b c e

open_keeps : (i : Problem) (b c : Book) (k : ℕ) (post : Post) → (is_node_and b k (is_open b) ≡ true → step i b post ≡ Some c → StayClosed b c) → book_after i b (where_open k post b) ≡ Some c → StayClosed b c
open_keeps i b c k post keeps e = open_where i b c post (is_node_and b k (is_open b)) keeps e

close_keeps : (i : Problem) (b c : Book) (w k : ℕ) (close : Close) → book_after i b (close_posts w k close b) ≡ Some c → StayClosed b c
close_keeps i b c w k ByPrice e = no_posts i b c e
close_keeps i b c w k (CloseBySplit class m) e = open_keeps i b c k (Split w k class m) (split_keeps i b c w k m class) e
close_keeps i b c w k (CloseAsSettled node) e = open_keeps i b c k (Settled w k) (settled_keeps i b c w k) e

-- ---- the posts of a step

pub then_is : (i : Problem) (b c : Book) (posts : List Post) → book_after i b posts ≡ Some c → book_then i b posts ≡ c
then_is i b c posts e = ap (λ (o : Option Book). option_map_or (λ (d : Book). d) o b) e

pub after_parts : (i : Problem) (b c : Book) (xs ys : List Post) → book_after i b (xs ++ ys) ≡ Some c → (d : Book) × (book_after i b xs ≡ Some d) × (book_after i d ys ≡ Some c)
after_parts i b c xs ys e = bind_some (λ d. book_after i d ys) (book_after i b xs) c (sym (book_after-append i b xs ys) ∙ e)

-- a step whose posts are allowed, part by part
pub record Parts (i : Problem) (b c : Book) (w : ℕ) (step : StepPosts) : Type 0 where
  pub planned : Book
  pub plans : Book
  pub prices : Book
  pub plan : book_after i b (plan_posts w step.plan b) ≡ Some planned
  pub settled : book_after i planned (plan_posts w (plan_of step.close) planned) ≡ Some plans
  pub both : book_after i b (plan_posts w step.plan b ++ plan_posts w (plan_of step.close) planned) ≡ Some plans
  pub priced : book_after i plans (where_open step.node (Priced w step.node step.proved.prices) plans) ≡ Some prices
  pub closed : book_after i prices (close_posts w step.node step.close prices) ≡ Some c
  pub posts : posts_of i b w step ≡ ((plan_posts w step.plan b ++ plan_posts w (plan_of step.close) planned) ++ where_open step.node (Priced w step.node step.proved.prices) plans) ++ close_posts w step.node step.close prices

pub parts : (i : Problem) (b c : Book) (w : ℕ) (step : StepPosts) → book_after i b (posts_of i b w step) ≡ Some c → Parts i b c w step
parts i b c w step e =
    let k = step.node in
    let first : List Post = plan_posts w step.plan b in
    let b1 : Book = book_then i b first in
    let second : List Post = plan_posts w (plan_of step.close) b1 in
    let b2 : Book = book_then i b (first ++ second) in
    let third : List Post = where_open k (Priced w k step.proved.prices) b2 in
    let b3 : Book = book_then i b ((first ++ second) ++ third) in
    let r3 = after_parts i b c ((first ++ second) ++ third) (close_posts w k step.close b3) e in
    let r2 = after_parts i b r3.0 (first ++ second) third r3.1 in
    let r1 = after_parts i b r2.0 first second r2.1 in
    let s1 : b1 ≡ r1.0 = then_is i b r1.0 first r1.1 in
    let s2 : b2 ≡ r2.0 = then_is i b r2.0 (first ++ second) r2.1 in
    let s3 : b3 ≡ r3.0 = then_is i b r3.0 ((first ++ second) ++ third) r3.1 in
    let plan_at : Book → List Post = λ d. plan_posts w (plan_of step.close) d in
    let price_at : Book → List Post = λ d. where_open k (Priced w k step.proved.prices) d in
    let close_at : Book → List Post = λ d. close_posts w k step.close d in
    record {
      planned = r1.0;
      plans = r2.0;
      prices = r3.0;
      plan = r1.1;
      settled = subst (λ (l : List Post). book_after i r1.0 l ≡ Some r2.0) (ap plan_at s1) r1.2;
      both = subst (λ (l : List Post). book_after i b (first ++ l) ≡ Some r2.0) (ap plan_at s1) r2.1;
      priced = subst (λ (l : List Post). book_after i r2.0 l ≡ Some r3.0) (ap price_at s2) r2.2;
      closed = subst (λ (l : List Post). book_after i r3.0 l ≡ Some c) (ap close_at s3) r3.2;
      posts = ap (λ (l : List Post). ((first ++ l) ++ third) ++ close_at b3) (ap plan_at s1)
          ∙ ap (λ (l : List Post). ((first ++ plan_at r1.0) ++ l) ++ close_at b3) (ap price_at s2)
          ∙ ap (λ (l : List Post). ((first ++ plan_at r1.0) ++ price_at r2.0) ++ l) (ap close_at s3);
    }

pub step_keeps : (i : Problem) (b c : Book) (w : ℕ) (step : StepPosts) → book_after i b (posts_of i b w step) ≡ Some c → StayClosed b c
step_keeps i b c w step e j =
    let p = parts i b c w step e in
    let k = step.node in
    let one = plans_keep i b p.planned b w step.plan p.plan j in
    let two = plans_keep i p.planned p.plans p.planned w (plan_of step.close) p.settled j in
    let three = open_keeps i p.plans p.prices k (Priced w k step.proved.prices) (priced_keeps i p.plans p.prices w k step.proved.prices) p.priced j in
    let four = close_keeps i p.prices c w k step.close p.closed j in
    (λ h. four.0 (three.0 (two.0 (one.0 h))), λ h. four.1 (three.1 (two.1 (one.1 h))))
