-- Sums over slots one after another, and the parts of a cost.
use Rattle.plan_tables.proofs.Common.{◌≡◌, ℕ, ◌+◌, ◌*◌, List, [], ◌∷◌, ap, ◌∙◌, arith, sum_by, add-one, range_with_len, sum_by_push, sum_by-cons, Duty, Problem, slots, below, cost, shifts_used, range_next, over_at, under_at}

-- a sum over one slot more
pub sum_range_more : (f : ℕ → ℕ) (a n : ℕ) → sum_by f (range_with_len a (n + 1)) ≡ sum_by f (range_with_len a n) + f (a + n)
sum_range_more f a n = ap (λ (k : ℕ). sum_by f (range_with_len a k)) (add-one n) ∙ ap (sum_by f) (range_next a n) ∙ sum_by_push f (range_with_len a n) (a + n)

-- a sum of two numbers at their weights is the two sums at their weights
sum_weighted : (e s : ℕ) (o u : ℕ → ℕ) (ts : List ℕ) → sum_by (λ t. e * o t + s * u t) ts ≡ e * sum_by o ts + s * sum_by u ts
sum_weighted e s o u [] = omega arith
sum_weighted e s o u (t ∷ ts) =
    let all : sum_by (λ t. e * o t + s * u t) (t ∷ ts) ≡ (e * o t + s * u t) + sum_by (λ t. e * o t + s * u t) ts = sum_by-cons (λ t. e * o t + s * u t) t ts in
    let over : e * sum_by o (t ∷ ts) ≡ e * o t + e * sum_by o ts = ap (λ (n : ℕ). e * n) (sum_by-cons o t ts) ∙ grind arith in
    let under : s * sum_by u (t ∷ ts) ≡ s * u t + s * sum_by u ts = ap (λ (n : ℕ). s * n) (sum_by-cons u t ts) ∙ grind arith in
    let rest = sum_weighted e s o u ts in
    omega arith

-- what a rota costs is the sum of its three parts
pub cost_parts : (i : Problem) (rota : List Duty) → cost i rota ≡ i.excess * sum_by (over_at i rota) (below (slots i)) + i.shortage * sum_by (under_at i rota) (below (slots i)) + i.shift * shifts_used i rota
cost_parts i rota = ap (λ (n : ℕ). n + i.shift * shifts_used i rota) (sum_weighted i.excess i.shortage (over_at i rota) (under_at i rota) (below (slots i)))
