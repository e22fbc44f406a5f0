-- A step that is closed by its price leaves its node closed, where the floor and the best cost are those of the take.
use Rattle.worker_gate.proofs.Common.{◌≡◌, inl, inr, ℕ, ◌<◌, ◌≤◌, Bool, true, false, cond, ◌&&◌, not, List, [], ◌∷◌, ◌++◌, refl, sym, ap, ◌∙◌, subst, arith, min, max, nat_lt, Option, Some, None, eq-eqb, slice_get, IfSome, and_from, cases_Bool, ltb-true, ltb-false, le-ltb, Problem, Costing, IsCosted, IsProved, Cut, are_prices, bound_of, Node, with_floor, Post, Plan, Priced, StepPosts, ByPrice, floor_of_node, leaves_open, Book, is_better, is_node_and, is_open, priced, book_after, cuts_in, after_step, book_then, plan_posts, posts_of, where_open, Fits, at_set, node_not, some_node, then_is, book_after-append, cost_to_reach}
use Rattle.search_core.specs.Book.{step as step_to}
use Rattle.std.specs.Option.{option_map_or, option_and_then}
use Rattle.shift_instance.specs.Rota.{are_legal_rows, cost, rota_of}
use Rattle.search_core.proofs.Stepped.{posts_by_price}

-- the book after the post of a plan
record Planned (i : Problem) (b : Book) (w : ℕ) (plan : Option Costing) : Type 0 where
  after : Book
  folds : book_after i b (plan_posts w plan b) ≡ Some after
  nodes : after.nodes ≡ b.nodes
  cost : after.cost ≡ cost_to_reach b.cost plan

plan_step : (i : Problem) (b : Book) (w : ℕ) (p : Costing) → p.instance ≡ i → IsCosted p → nat_lt p.cost b.cost ≡ true → step_to i b (Plan w p.rows p.cost) ≡ Some (record b { best = p.rows; cost = p.cost })
plan_step i b w p same costed less =
    let legal : are_legal_rows i p.rows ≡ true = subst (λ (j : Problem). are_legal_rows j p.rows ≡ true) same costed.legal in
    let exact : p.cost ≡ cost i (rota_of p.rows) = costed.exact ∙ ap (λ (j : Problem). cost j (rota_of p.rows)) same in
    let better : is_better i b p.rows p.cost ≡ true = and_from _ _ (and_from _ _ legal (eq-eqb _ _ (sym exact))) less in
    ap (λ (t : Bool). cond t (Some (record b { best = p.rows; cost = p.cost })) None) better

plan_made : (i : Problem) (b : Book) (w : ℕ) (plan : Option Costing) → IfSome plan (λ p. p.instance ≡ i) → IfSome plan IsCosted → Planned i b w plan
plan_made i b w None same costed = record { after = b; folds = refl; nodes = refl; cost = refl }
plan_made i b w (Some p) same costed =
    let post : Post = Plan w p.rows p.cost in
    elim (cases_Bool (nat_lt p.cost b.cost)) [
      | inl hit ↦
          let next : Book = record b { best = p.rows; cost = p.cost } in
          let one : book_after i b (post ∷ []) ≡ Some next = ap (option_and_then (λ (d : Book). book_after i d [])) (plan_step i b w p same costed hit) in
          let less : p.cost < b.cost = ltb-true p.cost b.cost hit in
          record {
            after = next;
            folds = ap (λ (t : Bool). book_after i b (cond t (post ∷ []) [])) hit ∙ one;
            nodes = refl;
            cost = let e : p.cost ≡ min b.cost p.cost = omega arith in e;
          }
      | inr miss ↦
          let more : b.cost ≤ p.cost = ltb-false p.cost b.cost miss in
          record {
            after = b;
            folds = ap (λ (t : Bool). book_after i b (cond t (post ∷ []) [])) miss;
            nodes = refl;
            cost = let e : b.cost ≡ min b.cost p.cost = omega arith in e;
          }
    ]

price_step : (i : Problem) (b : Book) (w k : ℕ) (step : StepPosts) (n : Node) → slice_get b.nodes k ≡ Some n → n.split ≡ false → step.proved.instance ≡ i → IsProved step.proved → step.proved.cuts ≡ n.cuts
    → step_to i b (Priced w k step.proved.prices) ≡ Some (record b { nodes = with_floor b.nodes k n (max n.floor step.proved.bound) })
price_step i b w k step n at unsplit same proved cuts =
    let prices = step.proved.prices in
    let passes : are_prices i n.cuts prices ≡ true =
    subst (λ (l : List Cut). are_prices i l prices ≡ true) cuts (subst (λ (j : Problem). are_prices j step.proved.cuts prices ≡ true) same proved.passes) in
    let exact : step.proved.bound ≡ bound_of i n.cuts prices =
    proved.exact ∙ ap (λ (j : Problem). bound_of j step.proved.cuts prices) same ∙ ap (λ (l : List Cut). bound_of i l prices) cuts in
    let may : not n.split && are_prices i n.cuts prices ≡ true = and_from _ _ (ap not unsplit) passes in
    let next : ℕ → Book = λ floor. record b { nodes = with_floor b.nodes k n floor } in
    let made : Option Node → Option Book = λ o. option_and_then (λ (nodes : List Node). Some (record b { nodes = nodes })) (option_and_then (priced i b k prices) o) in
    ap made at
    ∙ ap (λ (t : Bool). option_and_then (λ (nodes : List Node). Some (record b { nodes = nodes })) (cond t (Some (with_floor b.nodes k n (max n.floor (bound_of i n.cuts prices)))) None)) may
    ∙ ap (λ v. Some (next (max n.floor v))) (sym exact)

split_not : (s below : Bool) → (not s && below) ≡ true → s ≡ false
split_not true below h = absurd (cc h)
split_not false below h = refl

not_below : (s : Bool) (floor cost : ℕ) → cost ≤ floor → (not s && nat_lt floor cost) ≡ false
not_below true floor cost far = refl
not_below false floor cost far = le-ltb floor cost far

pub closes : (i : Problem) (b : Book) (w : ℕ) (step : StepPosts) → step.close ≡ ByPrice → Fits i step → IfSome step.plan IsCosted → IsProved step.proved → step.proved.cuts ≡ cuts_in b.nodes step.node
    → is_node_and b step.node (is_open b) ≡ true → cost_to_reach b.cost step.plan ≤ max (floor_of_node b step.node) step.proved.bound → leaves_open i b w step ≡ false
closes i b w step is fits costed proved cuts opened reach =
    let k = step.node in
    let found = some_node (is_open b) (slice_get b.nodes k) opened in
    let n : Node = found.0 in
    let p = plan_made i b w step.plan fits.plan costed in
    let d : Book = p.after in
    let first : book_then i b (plan_posts w step.plan b) ≡ d = then_is i b d (plan_posts w step.plan b) p.folds in
    let at : slice_get d.nodes k ≡ Some n = ap (λ (l : List Node). slice_get l k) p.nodes ∙ found.1 in
    let unsplit : n.split ≡ false = split_not n.split (nat_lt n.floor b.cost) found.2 in
    let of_node : step.proved.cuts ≡ n.cuts = cuts ∙ ap (λ (o : Option Node). option_map_or (λ m. m.cuts) o []) found.1 in
    let floor : floor_of_node b k ≡ n.floor = ap (λ (o : Option Node). option_map_or (λ m. m.floor) o 0) found.1 in
    let far : d.cost ≤ max n.floor step.proved.bound = subst (λ c. c ≤ max n.floor step.proved.bound) (sym p.cost) (subst (λ f. cost_to_reach b.cost step.plan ≤ max f step.proved.bound) floor reach) in
    let posts : posts_of i b w step ≡ plan_posts w step.plan b ++ where_open k (Priced w k step.proved.prices) d =
    sym (posts_by_price i b w step is) ∙ ap (λ (c : Book). plan_posts w step.plan b ++ where_open k (Priced w k step.proved.prices) c) first in
    let joined : (ys : List Post) → book_after i b (plan_posts w step.plan b ++ ys) ≡ book_after i d ys =
    λ ys. book_after-append i b (plan_posts w step.plan b) ys ∙ ap (option_and_then (λ (c : Book). book_after i c ys)) p.folds in
    let leaves : Book → Bool = λ c. is_node_and c k (is_open c) in
    elim (cases_Bool (is_node_and d k (is_open d))) [
      | inl hit ↦
          let next : Book = record d { nodes = with_floor d.nodes k n (max n.floor step.proved.bound) } in
          let post : Post = Priced w k step.proved.prices in
          let one : book_after i d (where_open k post d) ≡ Some next =
          ap (λ (t : Bool). book_after i d (cond t (post ∷ []) [])) hit ∙ ap (option_and_then (λ (c : Book). book_after i c [])) (price_step i d w k step n at unsplit fits.proved proved of_node) in
          let after : after_step i b w step ≡ next = ap (book_then i b) posts ∙ then_is i b next (plan_posts w step.plan b ++ where_open k post d) (joined (where_open k post d) ∙ one) in
          let shut : is_open next (record n { floor = max n.floor step.proved.bound }) ≡ false = not_below n.split (max n.floor step.proved.bound) d.cost far in
          ap leaves after ∙ node_not (is_open next) (slice_get next.nodes k) (record n { floor = max n.floor step.proved.bound }) (at_set d.nodes k n (record n { floor = max n.floor step.proved.bound }) at) shut
      | inr miss ↦
          let none : book_after i d (where_open k (Priced w k step.proved.prices) d) ≡ Some d = ap (λ (t : Bool). book_after i d (cond t (Priced w k step.proved.prices ∷ []) [])) miss in
          let after : after_step i b w step ≡ d = ap (book_then i b) posts ∙ then_is i b d (plan_posts w step.plan b ++ where_open k (Priced w k step.proved.prices) d) (joined (where_open k (Priced w k step.proved.prices) d) ∙ none) in
          ap leaves after ∙ miss
    ]
