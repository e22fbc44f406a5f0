-- A step leaves its node closed, unless it is closed by its bound alone.
use Rattle.search_core.proofs.Common.{◌≡◌, ℕ, List, [], length, Option, None, Some, Bool, true, false, cond, ◌&&◌, not, refl, sym, ◌∙◌, ap, subst, arith, ◌<◌, ◌≤◌, nat_lt, Err, IfOk, IfSome, IsTrue, MatchOption, Ok, Result, slice_get, option_map_or, and_parts, false≢true, le-ltb, ltb-false, ltb-true, not-true, IsProved, IsPlan, IsSettledNode, Settling, Class, Cut, are_prices, bound_of, Node, settled_floor, is_empty, is_settled, settled_plan, Post, Priced, Costing, IsCosted, Problem, cost, is_legal_rota, rota_of, IsValid, slice_get_below, TOP, StepPosts, ByPrice, floor_of_node, leaves_open, Book, book_after, is_node_and, is_open, IsSound, cuts_in, StepDraft, after_step, book_then, followed_by, plan_posts, posts_of, where_open, Fits, FitsClose, best_with, floor_with, Drafts, IsAfter, IsDraft, LeavesOpen, Makes}
use Rattle.search_core.specs.declared.step_posts.Close.TheVariants.{Split as CloseBySplit, Settled as CloseAsSettled}
use Rattle.dual_bound.proofs.PlanFloor.{plan_floor}
use Rattle.rota_cost.proofs.Coverage.{costs_below}
use Rattle.search_core.proofs.Appends.{makes_fold}
use Rattle.search_core.proofs.Drafts.{plan_stage, price_stage, settled_stage, split_stage}
use Rattle.search_core.proofs.Stepped.{plan_instance, posts_as_settled, posts_by_split}

and_false : (s : Bool) → (not s && false) ≡ false
and_false true = refl
and_false false = refl

not_and : (s : Bool) → (not s && s) ≡ false
not_and true = refl
not_and false = refl

-- ---- what posts for a node make of a book
module _ (i : Problem) (b : Book) (k : ℕ) (cuts : List Cut) (posts : List Post) (best floor : ℕ) (s : Bool) where
  pub then_of : (a : IsAfter i b k cuts posts best floor s) → book_then i b posts ≡ a.after
  then_of a = ap (λ (o : Option Book). option_map_or (λ c. c) o b) a.folds

  pub open_of : IsAfter i b k cuts posts best floor s → is_node_and (book_then i b posts) k (is_open (book_then i b posts)) ≡ (not s && nat_lt floor best)
  open_of a =
      ap (λ (c : Book). is_node_and c k (is_open c)) (then_of a)
      ∙ ap (λ (o : Option Node). option_map_or (is_open a.after) o false) a.at
      ∙ ap (λ (t : Bool). not t && nat_lt a.node.floor a.after.cost) a.split_is
      ∙ ap (λ (f : ℕ). not s && nat_lt f a.after.cost) (sym a.floor_is)
      ∙ ap (λ (n : ℕ). not s && nat_lt floor n) (sym a.best_is)

  pub closed_of : IsAfter i b k cuts posts best floor s → best ≤ floor → is_node_and (book_then i b posts) k (is_open (book_then i b posts)) ≡ false
  closed_of a more = open_of a ∙ ap (λ (t : Bool). not s && t) (le-ltb floor best more) ∙ and_false s

  pub cost_of : IsAfter i b k cuts posts best floor s → best ≡ (book_then i b posts).cost
  cost_of a = a.best_is ∙ ap (λ (c : Book). c.cost) (sym (then_of a))

  pub floor_is_of : IsAfter i b k cuts posts best floor s → floor ≡ floor_of_node (book_then i b posts) k
  floor_is_of a =
      a.floor_is ∙ sym (ap (λ (o : Option Node). option_map_or (λ n. n.floor) o 0) a.at) ∙ ap (λ (c : Book). floor_of_node c k) (sym (then_of a))

-- ---- the best cost after plans
with_cases : (t : Bool) (c best : ℕ) → nat_lt c best ≡ t → (cond t c best ≤ best) × (cond t c best ≤ c)
with_cases true c best e = let less : c < best = ltb-true c best e in (omega arith, omega arith)
with_cases false c best e = let more : best ≤ c = ltb-false c best e in (omega arith, more)

with_most : (plan : Option Costing) (best : ℕ) → best_with plan best ≤ best
with_most None best = omega arith
with_most (Some p) best = (with_cases (nat_lt p.cost best) p.cost best refl).0

with_plan : (p : Costing) (best : ℕ) → best_with (Some p) best ≤ p.cost
with_plan p best = (with_cases (nat_lt p.cost best) p.cost best refl).1

plan_costed : (plan : Option Costing) (j : Problem) (cuts : List Cut) (A : Type 0) → MatchOption plan A (IsPlan j cuts) → IfSome plan IsCosted
plan_costed None j cuts A h = tt
plan_costed (Some p) j cuts A h = h.costed

-- the best cost with the plan of a settled node isn't above the floor that the node gets
settled_least : (i : Problem) (cuts : List Cut) (plan : Option Costing) (best : ℕ) → MatchOption plan (is_empty i cuts ≡ true) (IsPlan i cuts) → best < TOP → best_with plan best ≤ settled_floor i cuts
settled_least i cuts None best h below =
    let top : settled_floor i cuts ≡ TOP = ap (λ (t : Bool). cond t TOP (cost i (settled_plan i cuts))) h in
    omega arith
settled_least i cuts (Some p) best h below =
    let floor : p.cost ≡ settled_floor i cuts = plan_floor i cuts (Some p) p refl h in
    let least : best_with (Some p) best ≤ p.cost = with_plan p best in
    omega arith

floor_least : (t : Bool) (f floor best : ℕ) → best ≤ f → nat_lt floor best ≡ t → best ≤ cond t f floor
floor_least true f floor best least e = least
floor_least false f floor best least e = ltb-false floor best e

-- ---- steps that are closed by a split, or as settled
module _ (i : Problem) (b : Book) (w : ℕ) (step : StepPosts) (best floor : ℕ) (fits : Fits i step) (costed : IfSome step.plan IsCosted) (proved : IsProved step.proved) (a : IsAfter i b step.node step.proved.cuts [] best floor false) where
  passes : IsTrue (are_prices i step.proved.cuts step.proved.prices)
  passes = subst (λ (j : Problem). IsTrue (are_prices j step.proved.cuts step.proved.prices)) fits.proved proved.passes

  exact : step.proved.bound ≡ bound_of i step.proved.cuts step.proved.prices
  exact = proved.exact ∙ ap (λ (j : Problem). bound_of j step.proved.cuts step.proved.prices) fits.proved

  pub closed_by_split : (class : Class) (m : ℕ) → step.close ≡ CloseBySplit class m → leaves_open i b w step ≡ false
  closed_by_split class m is =
      let k = step.node in
      let p = step.proved in
      let close = subst (FitsClose i p.cuts) is fits.close in
      let best' : ℕ = best_with step.plan best in
      let floor' : ℕ = floor_with p.bound best' floor in
      let planned : List Post = plan_posts w step.plan b in
      let priced : List Post = followed_by i b planned (where_open k (Priced w k p.prices)) in
      let one = plan_stage i b k p.cuts [] best floor w step.plan a costed fits.plan in
      let two = price_stage i b k p.cuts planned best' floor w p.prices p.bound one passes exact in
      let three = split_stage i b k p.cuts priced best' floor' w class m two close.0 close.1 close.2 in
      let last = subst (λ (l : List Post). IsAfter i b k p.cuts l best' floor' (nat_lt floor' best')) (posts_by_split i b w step class m is) three in
      open_of i b k p.cuts _ best' floor' (nat_lt floor' best') last ∙ not_and (nat_lt floor' best')

  pub closed_as_settled : (node : Settling) → step.close ≡ CloseAsSettled node → IsSettledNode node → best < TOP → leaves_open i b w step ≡ false
  closed_as_settled node is sealed below =
      let k = step.node in
      let p = step.proved in
      let close = subst (FitsClose i p.cuts) is fits.close in
      let best' : ℕ = best_with step.plan best in
      let best'' : ℕ = best_with node.plan best' in
      let floor' : ℕ = floor_with p.bound best'' floor in
      let fixed : ℕ = settled_floor i p.cuts in
      let plan : MatchOption node.plan (is_empty i p.cuts ≡ true) (IsPlan i p.cuts) =
      subst (λ (j : Problem). MatchOption node.plan (is_empty j p.cuts ≡ true) (IsPlan j p.cuts)) close.0
      (subst (λ (l : List Cut). MatchOption node.plan (is_empty node.instance l ≡ true) (IsPlan node.instance l)) close.1 sealed.plan) in
      let settled : IsTrue (is_settled i p.cuts) = subst (λ (j : Problem). IsTrue (is_settled j p.cuts)) close.0 (subst (λ (l : List Cut). IsTrue (is_settled node.instance l)) close.1 sealed.settled) in
      let first : List Post = plan_posts w step.plan b in
      let both : List Post = followed_by i b first (plan_posts w node.plan) in
      let priced : List Post = followed_by i b both (where_open k (Priced w k p.prices)) in
      let one = plan_stage i b k p.cuts [] best floor w step.plan a costed fits.plan in
      let two = plan_stage i b k p.cuts first best' floor w node.plan one (plan_costed node.plan i p.cuts _ plan) (plan_instance i i p.cuts node.plan _ plan refl) in
      let three = price_stage i b k p.cuts both best'' floor w p.prices p.bound two passes exact in
      let four = settled_stage i b k p.cuts priced best'' floor' w fixed three settled refl in
      let last = subst (λ (l : List Post). IsAfter i b k p.cuts l best'' (cond (nat_lt floor' best'') fixed floor') false) (posts_as_settled i b w step node is) four in
      let most : best' ≤ best = with_most step.plan best in
      let least : best'' ≤ fixed = settled_least i p.cuts node.plan best' plan (omega arith) in
      closed_of i b k p.cuts _ best'' (cond (nat_lt floor' best'') fixed floor') false last (floor_least (nat_lt floor' best'') fixed floor' best'' least refl)

-- ---- a step over a book, before its posts
node_where : (p : Node → Bool) (o : Option Node) → option_map_or p o false ≡ true → (n : Node) × (o ≡ Some n) × (p n ≡ true)
node_where p None h = absurd (false≢true h)
node_where p (Some n) h = (n, refl, h)

pub unsplit_there : (b : Book) (k : ℕ) → is_node_and b k (λ n. not n.split) ≡ true → k < length b.nodes
unsplit_there b k unsplit = let n = node_where (λ n. not n.split) (slice_get b.nodes k) unsplit in slice_get_below b.nodes k n.0 n.1

pub before_of : (i : Problem) (b : Book) (k : ℕ) (cuts : List Cut) (best floor : ℕ) → is_node_and b k (λ n. not n.split) ≡ true → cuts ≡ cuts_in b.nodes k → best ≡ b.cost → floor ≡ floor_of_node b k → IsAfter i b k cuts [] best floor false
before_of i b k cuts best floor unsplit same cost_is low =
    let n = node_where (λ n. not n.split) (slice_get b.nodes k) unsplit in
    record {
      after = b;
      folds = refl;
      best_is = cost_is;
      node = n.0;
      at = n.1;
      cuts_are = sym (same ∙ ap (λ (o : Option Node). option_map_or (λ n. n.cuts) o []) n.1);
      floor_is = low ∙ ap (λ (o : Option Node). option_map_or (λ n. n.floor) o 0) n.1;
      split_is = not-true n.0.split n.2;
    }

-- the best cost is below the number that stands for no cost
pub cost_below : (i : Problem) (b : Book) → IsValid i → IsSound i b → b.cost < TOP
cost_below i b valid s =
    let legal : is_legal_rota i (rota_of b.best) ≡ true = (and_parts _ (is_legal_rota i (rota_of b.best)) s.legal).1 in
    subst (λ (n : ℕ). n < TOP) s.exact (costs_below i (rota_of b.best) valid legal)

-- ---- a draft of a step over a book
is_drafted : (i : Problem) (b : Book) (w : ℕ) (step : StepPosts) (d : StepDraft) (s : Bool) → IsDraft i b step.node step.proved.cuts (posts_of i b w step) d s → length d.posts.items ≤ 4 → Drafts i b w step d
is_drafted i b w step d s m few =
    let posts = posts_of i b w step in
    let folds : book_after i b posts ≡ Some m.made.0 = ap (book_after i b) (sym m.posts_are) ∙ makes_fold i b d.posts.items d.values.items m.made.0 m.made.1 in
    let made : m.made.0 ≡ after_step i b w step = sym (ap (λ (o : Option Book). option_map_or (λ (c : Book). c) o b) folds) in
    record {
      posts = m.posts_are;
      makes = subst (Makes i b d.posts.items d.values.items) made m.made.1;
      best = cost_of i b step.node step.proved.cuts posts d.best d.floor s m.state;
      floor = floor_is_of i b step.node step.proved.cuts posts d.best d.floor s m.state;
      few = few;
    }

pub drafted : {E : Type 0} (r : Result StepDraft E) (i : Problem) (b : Book) (w best floor : ℕ) (step : StepPosts)
    → IfOk r (λ d. (i : Problem) (b : Book) → IsValid i → Fits i step → IsAfter i b step.node step.proved.cuts [] best floor false → (s : Bool) × IsDraft i b step.node step.proved.cuts (posts_of i b w step) d s)
    → IfOk r (λ d. length d.posts.items ≤ 4) → IsValid i → Fits i step → IsAfter i b step.node step.proved.cuts [] best floor false → IfOk r (Drafts i b w step)
drafted (Err e) i b w best floor step drafts few valid fits after = tt
drafted (Ok d) i b w best floor step drafts few valid fits after = let m = drafts i b valid fits after in is_drafted i b w step d m.0 m.1 few

-- whether the node of a step stays open
pub still_open : (o : Option (ℕ × ℕ)) (i : Problem) (b : Book) (best floor : ℕ) (step : StepPosts)
    → IfSome o (λ p. (step.close ≡ ByPrice) × ((i : Problem) (b : Book) (w : ℕ) → Fits i step → IsAfter i b step.node step.proved.cuts [] best floor false → LeavesOpen i b w step p.0 p.1))
    → Fits i step → IsAfter i b step.node step.proved.cuts [] best floor false
    → IfSome o (λ p. (step.close ≡ ByPrice) × ((w : ℕ) → LeavesOpen i b w step p.0 p.1))
still_open None i b best floor step told fits after = tt
still_open (Some p) i b best floor step told fits after = (told.0, λ w. told.1 i b w fits after)
