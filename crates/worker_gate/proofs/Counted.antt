-- A step for an open node posts a plan or prices.
use Rattle.worker_gate.proofs.Common.{◌≡◌, ◌⊎◌, inl, inr, ℕ, ◌+◌, ◌≤◌, Bool, true, false, cond, List, [], ◌∷◌, ◌++◌, refl, sym, ap, ◌∙◌, subst, arith, nat_lt, Option, Some, None, count_by, Problem, Costing, Prices, Post, Plan, Priced, StepPosts, Book, is_open, is_node_and, book_then, close_posts, followed_by, plan_of, plan_posts, posts_of, where_open, is_plan_or_prices}
use Rattle.break_rules.proofs.Counts.{count_by-append}

abbrev counted : List Post → ℕ
counted posts = count_by is_plan_or_prices posts

pub counted_append : (xs ys : List Post) → counted (xs ++ ys) ≡ counted xs + counted ys
counted_append xs ys = count_by-append is_plan_or_prices xs ys

plans_none : (w : ℕ) (plan : Option Costing) (b : Book) → (plan_posts w plan b ≡ []) ⊎ (1 ≤ counted (plan_posts w plan b))
plans_none w None b = inl refl
plans_none w (Some p) b = elim (nat_lt p.cost b.cost) as (λ t. (cond t (Plan w p.rows p.cost ∷ []) [] ≡ []) ⊎ (1 ≤ counted (cond t (Plan w p.rows p.cost ∷ []) []))) [ true ↦ inr (omega arith) | false ↦ inl refl ]

open_counts : (k : ℕ) (w : ℕ) (prices : Prices) (b : Book) → is_node_and b k (is_open b) ≡ true → 1 ≤ counted (where_open k (Priced w k prices) b)
open_counts k w prices b opened = subst (λ (t : Bool). 1 ≤ counted (cond t (Priced w k prices ∷ []) [])) (sym opened) (omega arith)

module _ (i : Problem) (b : Book) where
  -- what some posts count is counted with those behind them
  counts_on : (posts : List Post) (next : Book → List Post) → 1 ≤ counted posts → 1 ≤ counted (followed_by i b posts next)
  counts_on posts next some =
      let both : counted (posts ++ next (book_then i b posts)) ≡ counted posts + counted (next (book_then i b posts)) = counted_append posts (next (book_then i b posts)) in
      let more : 1 ≤ counted (posts ++ next (book_then i b posts)) = omega arith in
      more

  -- behind no posts stand those for the book as it is
  after_none : (posts : List Post) (next : Book → List Post) → posts ≡ [] → followed_by i b posts next ≡ next b
  after_none posts next none = ap (λ (l : List Post). followed_by i b l next) none

  pub step_counts : (w : ℕ) (step : StepPosts) → is_node_and b step.node (is_open b) ≡ true → 1 ≤ counted (posts_of i b w step)
  step_counts w step opened =
      let first : List Post = plan_posts w step.plan b in
      let settled : Book → List Post = plan_posts w (plan_of step.close) in
      let priced : Book → List Post = where_open step.node (Priced w step.node step.proved.prices) in
      let plans : List Post = followed_by i b first settled in
      counts_on (followed_by i b plans priced) (close_posts w step.node step.close)
      (elim (plans_none w step.plan b) [
        | inr more ↦ counts_on plans priced (counts_on first settled more)
        | inl none ↦
            let same : plans ≡ settled b = after_none first settled none in
            elim (plans_none w (plan_of step.close) b) [
              | inr more ↦ counts_on plans priced (subst (λ (l : List Post). 1 ≤ counted l) (sym same) more)
              | inl nothing ↦ subst (λ (l : List Post). 1 ≤ counted l) (sym (after_none plans priced (same ∙ nothing))) (open_counts step.node w step.proved.prices b opened)
            ]
      ])
