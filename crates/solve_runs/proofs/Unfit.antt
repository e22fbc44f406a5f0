-- A book that has no open node is given no posts by a step. So where a journal has no room for the posts of a step, a node is open.
use Rattle.solve_runs.proofs.Common.{◌≡◌, ℕ, zero, suc, ◌<◌, ◌≤◌, Bool, true, false, cond, ◌&&◌, ◌==◌, not, nat_lt, List, [], ◌∷◌, ◌++◌, length, refl, sym, ap, ◌∙◌, subst, arith, Option, Some, None, slice_get, IsSome, list_all, option_map_or, and_parts, eqb-true, false≢true, ltb-true, not-true, Problem, are_legal_rows, cost, is_legal_rota, rota_of, Node, Post, Plan, Priced, Split, Settled, StepPosts, Book, book_after, book_of, is_better, is_finished, is_node_and, is_open, step, IsSound, close_posts, plan_of, plan_posts, posts_of, where_open, finished_best, bind_some, cond_some, fold_sound}
use Rattle.rota_cost.specs.Costed.{Costing}
use Rattle.search_core.specs.declared.step_posts.Close.{Close}
use Rattle.search_core.specs.declared.step_posts.Close.TheVariants.{ByPrice, Split as CloseBySplit, Settled as CloseAsSettled}
use Rattle.search_core.proofs.Closed.{parts}
use Rattle.search_core.proofs.Runs.{front_folds}

none_passes : (p : Node → Bool) (ns : List Node) (k : ℕ) → list_all (λ n. not (p n)) ns ≡ true → option_map_or p (slice_get ns k) false ≡ false
none_passes p [] k h = refl
none_passes p (n ∷ ns) zero h = not-true (p n) (and_parts (not (p n)) (list_all (λ n. not (p n)) ns) h).0
none_passes p (n ∷ ns) (suc k) h = none_passes p ns k (and_parts (not (p n)) (list_all (λ n. not (p n)) ns) h).1

module _ (i : Problem) (b : Book) (sound : IsSound i b) (finished : is_finished b ≡ true) where
  none_open : (k : ℕ) → is_node_and b k (is_open b) ≡ false
  none_open k = none_passes (is_open b) b.nodes k finished

  -- it allows no plan, since none is cheaper than its best
  no_cheaper : (c : Book) (w : ℕ) (p : Costing) → book_after i b (Plan w p.rows p.cost ∷ []) ≡ Some c → ⊥
  no_cheaper c w p e =
      let r = bind_some (λ next. book_after i next []) (step i b (Plan w p.rows p.cost)) c e in
      let better = cond_some (is_better i b p.rows p.cost) (record b { best = p.rows; cost = p.cost }) r.0 r.1 in
      let both = and_parts (are_legal_rows i p.rows && (cost i (rota_of p.rows) == p.cost)) (nat_lt p.cost b.cost) better.0 in
      let rows = and_parts (are_legal_rows i p.rows) (cost i (rota_of p.rows) == p.cost) both.0 in
      let legal : is_legal_rota i (rota_of p.rows) ≡ true = (and_parts _ (is_legal_rota i (rota_of p.rows)) rows.0).1 in
      let least : b.cost ≤ cost i (rota_of p.rows) = finished_best i b (rota_of p.rows) sound finished legal in
      let exact : cost i (rota_of p.rows) ≡ p.cost = eqb-true (cost i (rota_of p.rows)) p.cost rows.1 in
      let less : p.cost < b.cost = ltb-true p.cost b.cost both.1 in
      absurd (omega (arith, least, exact, less))

  plan_where : (c : Book) (w : ℕ) (p : Costing) (t : Bool) → book_after i b (cond t (Plan w p.rows p.cost ∷ []) []) ≡ Some c → (cond t (Plan w p.rows p.cost ∷ []) [] ≡ []) × (c ≡ b)
  plan_where c w p true e = absurd (no_cheaper c w p e)
  plan_where c w p false e = (refl, sym (cc (e)))

  no_plan : (c : Book) (w : ℕ) (plan : Option Costing) → book_after i b (plan_posts w plan b) ≡ Some c → (plan_posts w plan b ≡ []) × (c ≡ b)
  no_plan c w None e = (refl, sym (cc (e)))
  no_plan c w (Some p) e = plan_where c w p (nat_lt p.cost b.cost) e

  no_post : (k : ℕ) (post : Post) → where_open k post b ≡ []
  no_post k post = ap (λ (t : Bool). cond t (post ∷ []) []) (none_open k)

  no_close : (w k : ℕ) (close : Close) → close_posts w k close b ≡ []
  no_close w k ByPrice = refl
  no_close w k (CloseBySplit class m) = no_post k (Split w k class m)
  no_close w k (CloseAsSettled node) = no_post k (Settled w k)

  after_none : (c : Book) (posts : List Post) → posts ≡ [] → book_after i b posts ≡ Some c → c ≡ b
  after_none c posts none e = let s : Some b ≡ Some c = subst (λ (l : List Post). book_after i b l ≡ Some c) none e in sym (cc (s))

  -- so a step gives it nothing
  no_posts : (c : Book) (w : ℕ) (s : StepPosts) → book_after i b (posts_of i b w s) ≡ Some c → posts_of i b w s ≡ []
  no_posts c w s e =
      let p = parts i b c w s e in
      let plan_at : Book → List Post = λ d. plan_posts w (plan_of s.close) d in
      let price_at : Book → List Post = λ d. where_open s.node (Priced w s.node s.proved.prices) d in
      let close_at : Book → List Post = λ d. close_posts w s.node s.close d in
      let one = no_plan p.planned w s.plan p.plan in
      let second : book_after i b (plan_at b) ≡ Some p.plans = subst (λ (d : Book). book_after i d (plan_at d) ≡ Some p.plans) one.1 p.settled in
      let two = no_plan p.plans w (plan_of s.close) second in
      let third : book_after i b (price_at b) ≡ Some p.prices = subst (λ (d : Book). book_after i d (price_at d) ≡ Some p.prices) two.1 p.priced in
      let three : price_at b ≡ [] = no_post s.node (Priced w s.node s.proved.prices) in
      let last : p.prices ≡ b = after_none p.prices (price_at b) three third in
      p.posts ∙ ap (λ (l : List Post). ((l ++ plan_at p.planned) ++ price_at p.plans) ++ close_at p.prices) one.0
      ∙ ap (λ (l : List Post). (l ++ price_at p.plans) ++ close_at p.prices) (ap plan_at one.1 ∙ two.0)
      ∙ ap (λ (l : List Post). l ++ close_at p.prices) (ap price_at two.1 ∙ three)
      ∙ ap close_at last ∙ no_close w s.node s.close

is_not : (t : Bool) → (t ≡ true → ⊥) → t ≡ false
is_not false never = refl
is_not true never = absurd (never refl)

there_is : (o : Option Book) → IsSome o → (c : Book) × (o ≡ Some c)
there_is None some = absurd (false≢true some)
there_is (Some c) some = (c, refl)

-- a book that allows the posts of a step behind those that made it has an open node, where the step has posts
pub unfit_open : (i : Problem) (history posts : List Post) (b : Book) (w : ℕ) (s : StepPosts) → book_of i history ≡ Some b → posts ≡ posts_of i b w s → 0 < length posts → IsSome (book_of i (history ++ posts))
    → is_finished b ≡ false
unfit_open i history posts b w s folds are some allowed = is_not (is_finished b) (λ finished.
    let c = there_is (book_of i (history ++ posts)) allowed in
    let front = front_folds i history posts c.0 c.1 in
    let same : Some front.0 ≡ Some b = sym front.1 ∙ folds in
    let at : front.0 ≡ b = cc (same) in
    let after : book_after i b posts ≡ Some c.0 = subst (λ (d : Book). book_after i d posts ≡ Some c.0) at front.2 in
    let none : posts ≡ [] = are ∙ no_posts i b (fold_sound i history b folds) finished c.0 w s (subst (λ (l : List Post). book_after i b l ≡ Some c.0) are after) in
    let many : length posts ≡ 0 = ap length none in
    absurd (omega (arith, some, many)))
