-- The posts of a step, by how it closes its node.
use Rattle.search_core.proofs.Common.{◌≡◌, ℕ, List, [], Option, None, Some, false, refl, sym, ◌∙◌, ap, subst, ◌<◌, ◌≤◌, nat_lt, IfSome, IsTrue, MatchOption, option_map_or, le-ltb, lt-ltb, IsProved, are_prices, bound_of, Node, floor_of_node, leaves_open, append-nil, Problem, Costing, IsCosted, IsPlan, Settling, Cut, Class, Post, Priced, Split, Settled, StepPosts, Close, ByPrice, Book, book_then, Fits, close_posts, followed_by, plan_of, plan_posts, posts_of, where_open, StepDraft, best_with, floor_with, IsAfter, IsDraft, LeavesOpen, Makes}
use Rattle.search_core.specs.declared.step_posts.Close.TheVariants.{Split as CloseBySplit, Settled as CloseAsSettled}
use Rattle.search_core.proofs.Drafts.{open_is, plan_stage, price_stage, then_is}

module _ (i : Problem) (b : Book) (w : ℕ) (step : StepPosts) where
  abbrev priced : Book → List Post
  priced = where_open step.node (Priced w step.node step.proved.prices)

  abbrev planned : List Post
  planned = plan_posts w step.plan b

  abbrev closed_by : Close → List Post
  closed_by close = followed_by i b (followed_by i b (followed_by i b planned (plan_posts w (plan_of close))) priced) (close_posts w step.node close)

  pub posts_by_price : step.close ≡ ByPrice → followed_by i b planned priced ≡ posts_of i b w step
  posts_by_price is =
      sym (ap closed_by is ∙ append-nil _ ∙ ap (λ (l : List Post). followed_by i b l priced) (append-nil planned))

  pub posts_by_split : (class : Class) (m : ℕ) → step.close ≡ CloseBySplit class m → followed_by i b (followed_by i b planned priced) (where_open step.node (Split w step.node class m)) ≡ posts_of i b w step
  posts_by_split class m is =
      sym (ap closed_by is ∙ ap (λ (l : List Post). followed_by i b (followed_by i b l priced) (where_open step.node (Split w step.node class m))) (append-nil planned))

  pub posts_as_settled : (node : Settling) → step.close ≡ CloseAsSettled node → followed_by i b (followed_by i b (followed_by i b planned (plan_posts w node.plan)) priced) (where_open step.node (Settled w step.node)) ≡ posts_of i b w step
  posts_as_settled node is = sym (ap closed_by is)

-- a draft without posts
pub draft_start : (i : Problem) (b : Book) (k : ℕ) (cuts : List Cut) (d : StepDraft) → d.posts.items ≡ [] → d.values.items ≡ [] → IsAfter i b k cuts [] d.best d.floor false → IsDraft i b k cuts [] d false
draft_start i b k cuts d none empty after = record {
  posts_are = none;
  made = (b, subst (λ (l : List Post). Makes i b l d.values.items b) (sym none) (subst (λ (ns : List ℕ). Makes i b [] ns b) (sym empty) refl));
  state = after;
}

-- the plan of a settled node is for its instance
pub plan_instance : (i j : Problem) (cuts : List Cut) (plan : Option Costing) (A : Type 0) → MatchOption plan A (IsPlan j cuts) → j ≡ i → IfSome plan (λ p. p.instance ≡ i)
plan_instance i j cuts None A is same = tt
plan_instance i j cuts (Some p) A is same = is.instance ∙ same

-- ---- a step that is closed by its bound
pub after_by_price : (i : Problem) (b : Book) (w : ℕ) (step : StepPosts) (best floor : ℕ) → step.close ≡ ByPrice → Fits i step → IfSome step.plan IsCosted → IsProved step.proved → IsAfter i b step.node step.proved.cuts [] best floor false
    → IsAfter i b step.node step.proved.cuts (posts_of i b w step) (best_with step.plan best) (floor_with step.proved.bound (best_with step.plan best) floor) false
after_by_price i b w step best floor is fits costed proved a =
    let p = step.proved in
    let passes : IsTrue (are_prices i p.cuts p.prices) = subst (λ (j : Problem). IsTrue (are_prices j p.cuts p.prices)) fits.proved proved.passes in
    let exact : p.bound ≡ bound_of i p.cuts p.prices = proved.exact ∙ ap (λ (j : Problem). bound_of j p.cuts p.prices) fits.proved in
    let one = plan_stage i b step.node p.cuts [] best floor w step.plan a costed fits.plan in
    let two = price_stage i b step.node p.cuts (plan_posts w step.plan b) (best_with step.plan best) floor w p.prices p.bound one passes exact in
    subst (λ (l : List Post). IsAfter i b step.node p.cuts l (best_with step.plan best) (floor_with p.bound (best_with step.plan best) floor) false) (posts_by_price i b w step is) two

pub leaves_is : (i : Problem) (b : Book) (w : ℕ) (step : StepPosts) (best floor : ℕ) → IsAfter i b step.node step.proved.cuts (posts_of i b w step) best floor false → leaves_open i b w step ≡ nat_lt floor best
leaves_is i b w step best floor a = open_is i b step.node step.proved.cuts (posts_of i b w step) best floor a

pub leaves_with : (i : Problem) (b : Book) (w : ℕ) (step : StepPosts) (best floor : ℕ) → IsAfter i b step.node step.proved.cuts (posts_of i b w step) best floor false → floor < best → LeavesOpen i b w step floor best
leaves_with i b w step best floor a less =
    let same : book_then i b (posts_of i b w step) ≡ a.after = then_is i b step.node step.proved.cuts (posts_of i b w step) best floor a in
    let there : floor_of_node a.after step.node ≡ a.node.floor = ap (λ (o : Option Node). option_map_or (λ n. n.floor) o 0) a.at in (
      leaves_is i b w step best floor a ∙ lt-ltb floor best less,
      a.floor_is ∙ sym there ∙ ap (λ (c : Book). floor_of_node c step.node) (sym same),
      a.best_is ∙ ap (λ (c : Book). c.cost) (sym same),
    )

pub leaves_none : (i : Problem) (b : Book) (w : ℕ) (step : StepPosts) (best floor : ℕ) → IsAfter i b step.node step.proved.cuts (posts_of i b w step) best floor false → best ≤ floor → leaves_open i b w step ≡ false
leaves_none i b w step best floor a more = leaves_is i b w step best floor a ∙ le-ltb floor best more
