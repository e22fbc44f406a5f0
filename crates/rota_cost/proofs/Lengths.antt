-- How many duties a legal rota can have.
use Rattle.rota_cost.proofs.Common.{◌≡◌, inl, inr, ℕ, ◌+◌, ◌*◌, ◌/◌, ◌%◌, ◌<◌, ◌≤◌, Bool, true, cond, ◌==◌, List, [], ◌∷◌, length, refl, sym, ap, ◌∙◌, arith, count_by, nat_lt, eq-eqb, and_from, lt-ltb, eqb-true, sum_by-cons, mul-add-lt, div-mul-add, mod-mul-add, Has, count_by_at_most, Duty, Problem, shift_list, is_on, heads_on, is_legal_rota, heads_within, legal_duties}
use Rattle.rota_cost.proofs.Coverage.{count_below}

-- where at most m elements have each number below n, at most n times m have a number below n
count_keys : {X : Type 0} (key : X → ℕ) (n m : ℕ) (xs : List X) → ((k : ℕ) → k < n → count_by (λ x. key x == k) xs ≤ m) → count_by (λ x. nat_lt (key x) n) xs ≤ n * m
count_keys {X} key n m xs h = count_below {X = X} (λ x. true) key n m xs h

count_all : {X : Type 0} (p : X → Bool) (xs : List X) → ((x : X) → Has xs x → p x ≡ true) → count_by p xs ≡ length xs
count_all p [] h = refl
count_all {X} p (x ∷ xs) h =
    let a : count_by p (x ∷ xs) ≡ cond (p x) 1 0 + count_by p xs = sum_by-cons (λ x. cond (p x) 1 0) x xs in
    let b : ◌≡◌ {A = ℕ} (cond (p x) 1 0) 1 = ap (λ t. cond t 1 0) (h x (inl refl)) in
    let c : count_by p xs ≡ length xs = count_all p xs (λ y i. h y (inr i)) in
    omega arith

-- at most as many duties as each shift may have on each day
pub legal_length : (i : Problem) (rota : List Duty) → is_legal_rota i rota ≡ true → length rota ≤ length (shift_list i) * i.days * i.heads
legal_length i rota h =
    let key : Duty → ℕ = λ d. d.shift * i.days + d.day in
    let n = length (shift_list i) * i.days in
    let all : count_by (λ d. nat_lt (key d) n) rota ≡ length rota = count_all (λ d. nat_lt (key d) n) rota (λ d m.
    let l = legal_duties i rota h d m in
    let small : d.shift * i.days + d.day < i.days * length (shift_list i) = mul-add-lt d.shift i.days d.day (length (shift_list i)) l.shift l.day in
    lt-ltb (key d) n (omega arith)) in
    let most : count_by (λ d. nat_lt (key d) n) rota ≤ n * i.heads = count_keys key n i.heads rota (λ k small.
    let within : heads_on rota (k / i.days) (k % i.days) ≤ i.heads = heads_within i rota h (k / i.days) (k % i.days) in
    let one : count_by (λ d. key d == k) rota ≤ heads_on rota (k / i.days) (k % i.days) = count_by_at_most (λ d. key d == k) (is_on (k / i.days) (k % i.days)) rota (λ d m e.
    let l = legal_duties i rota h d m in
    let at : key d ≡ k = eqb-true (key d) k e in
    let s : d.shift ≡ k / i.days = sym (div-mul-add d.shift i.days d.day l.day) ∙ ap (λ (j : ℕ). j / i.days) at in
    let t : d.day ≡ k % i.days = sym (mod-mul-add d.shift i.days d.day l.day) ∙ ap (λ (j : ℕ). j % i.days) at in
    and_from (d.shift == (k / i.days)) (d.day == (k % i.days)) (eq-eqb _ _ s) (eq-eqb _ _ t)) in
    omega arith) in
    omega arith
