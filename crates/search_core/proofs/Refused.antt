-- A post for which a fault applies isn't allowed.
use Rattle.search_core.proofs.Common.{◌≡◌, ◌≢◌, ◌⊎◌, inl, inr, ℕ, ◌<◌, ◌≤◌, max, Bool, true, false, cond, ◌&&◌, ◌==◌, not, refl, sym, ap, ◌∙◌, arith, nat_le, nat_lt, Option, Some, None, option_map, option_map_or, option_and_then, option_or, and_parts, leb-true, ltb-true, not-true, Problem, cost, rota_of, are_legal_rows, row_fault, none_from_legal, low, high, are_prices, bound_of, is_live_class, is_settled, split_class, Node, with_floor, with_split, settled_floor, Post, Plan, Priced, Split, Settled, StepFault, NotLegal, WrongCost, NotBetter, NoNode, IsSplit, NotOpen, NotLive, OutOfRange, NotSettled, Price, NoMemory, Book, is_open, priced, divided, settled, is_better, step, step_fault, Refuses}
use Rattle.break_rules.specs.Causes.{first_cause}
use Rattle.rota_cost.specs.declared.RowFault.{RowFault}
use Rattle.dual_bound.specs.Faults.{price_causes}
use Rattle.dual_bound.proofs.Causes.{faultless}
use Rattle.search_core.proofs.Sound.{cond_some, at_node_some}

-- ---- causes, none of which applies

plan_none : (rows : Option RowFault) (exact most : Bool) (wrong dear : StepFault) → rows ≡ None → exact ≡ true → most ≡ false → option_or (option_map NotLegal rows) (cond (not exact) (Some wrong) (cond most (Some dear) None)) ≡ None
plan_none None true false wrong dear a b c = refl
plan_none None true true wrong dear a b c = absurd (cc)
plan_none None false most wrong dear a b c = absurd (cc)
plan_none (Some fault) exact most wrong dear a b c = absurd (cc)

after_unsplit : (split : Bool) (fault : StepFault) (rest : Option StepFault) → split ≡ false → rest ≡ None → option_or (cond split (Some fault) None) rest ≡ None
after_unsplit true fault rest a b = absurd (cc)
after_unsplit false fault rest a b = b

split_none : (split most live low high : Bool) (a b c d : StepFault) → split ≡ false → most ≡ false → live ≡ true → low ≡ true → high ≡ true
    → option_or (cond split (Some a) (cond most (Some b) None)) (cond (not live) (Some c) (cond (not (low && high)) (Some d) None)) ≡ None
split_none split most live low high a b c d e f g h k = rw e (rw f (rw g (rw h (rw k refl))))

less_not_le : (m n : ℕ) → nat_lt m n ≡ true → nat_le n m ≡ false
less_not_le m n h = let less : m < n = ltb-true m n h in not_le (nat_le n m) refl less
  where
    not_le : (t : Bool) → nat_le n m ≡ t → m < n → nat_le n m ≡ false
    not_le false e less = e
    not_le true e less = let back : n ≤ m = leb-true n m e in absurd (omega (arith, back, less))

-- ---- posts that are allowed

pub allowed_faultless : (i : Problem) (b c : Book) (post : Post) → step i b post ≡ Some c → step_fault i b post ≡ None
allowed_faultless i b c (Plan worker rows n) e =
    let r = cond_some (is_better i b rows n) (record b { best = rows; cost = n }) c e in
    let p2 = and_parts (are_legal_rows i rows && (cost i (rota_of rows) == n)) (nat_lt n b.cost) r.0 in
    let p1 = and_parts (are_legal_rows i rows) (cost i (rota_of rows) == n) p2.0 in
    plan_none (row_fault i rows) (cost i (rota_of rows) == n) (nat_le b.cost n) (WrongCost n (cost i (rota_of rows))) (NotBetter b.cost) (none_from_legal i rows p1.0) p1.1 (less_not_le n b.cost p2.1)
allowed_faultless i b c (Priced worker k prices) e =
    let r = at_node_some b c k (priced i b k prices) e in
    let n = r.0 in
    let q = cond_some (not n.split && are_prices i n.cuts prices) (with_floor b.nodes k n (max n.floor (bound_of i n.cuts prices))) r.2 r.3 in
    let p = and_parts (not n.split) (are_prices i n.cuts prices) q.0 in
    let faults : Option Node → Option StepFault = λ o.
    option_or (option_map_or (λ (n : Node). cond n.split (Some (IsSplit k)) None) o (Some (NoNode k))) (option_and_then (λ (n : Node). option_map Price (first_cause (price_causes i n.cuts prices))) o) in
    ap faults r.1
    ∙ after_unsplit n.split (IsSplit k) (option_map Price (first_cause (price_causes i n.cuts prices))) (not-true n.split p.0) (ap (option_map Price) (faultless i n.cuts prices p.1))
allowed_faultless i b c (Split worker k class m) e =
    let r = at_node_some b c k (divided i b k class m) e in
    let n = r.0 in
    let q = cond_some (is_open b n && is_live_class i class && nat_le (low n.cuts class) m && nat_lt m (high i n.cuts class)) (with_split b.nodes k n class m) r.2 r.3 in
    let p3 = and_parts (is_open b n && is_live_class i class && nat_le (low n.cuts class) m) (nat_lt m (high i n.cuts class)) q.0 in
    let p2 = and_parts (is_open b n && is_live_class i class) (nat_le (low n.cuts class) m) p3.0 in
    let p1 = and_parts (is_open b n) (is_live_class i class) p2.0 in
    let p0 = and_parts (not n.split) (nat_lt n.floor b.cost) p1.0 in
    let faults : Option Node → Option StepFault = λ o.
    option_or (option_map_or (λ (n : Node). cond n.split (Some (IsSplit k)) (cond (nat_le b.cost n.floor) (Some (NotOpen n.floor b.cost)) None)) o (Some (NoNode k)))
    (option_and_then (λ (n : Node). cond (not (is_live_class i class)) (Some (NotLive class)) (cond (not (nat_le (low n.cuts class) m && nat_lt m (high i n.cuts class))) (Some (OutOfRange (low n.cuts class) (high i n.cuts class))) None)) o) in
    ap faults r.1
    ∙ split_none n.split (nat_le b.cost n.floor) (is_live_class i class) (nat_le (low n.cuts class) m) (nat_lt m (high i n.cuts class)) (IsSplit k) (NotOpen n.floor b.cost) (NotLive class) (OutOfRange (low n.cuts class) (high i n.cuts class))
    (not-true n.split p0.0) (less_not_le n.floor b.cost p0.1) p1.1 p2.1 p3.1
allowed_faultless i b c (Settled worker k) e =
    let r = at_node_some b c k (settled i b k) e in
    let n = r.0 in
    let q = cond_some (not n.split && is_settled i n.cuts) (with_floor b.nodes k n (settled_floor i n.cuts)) r.2 r.3 in
    let p = and_parts (not n.split) (is_settled i n.cuts) q.0 in
    let faults : Option Node → Option StepFault = λ o.
    option_or (option_map_or (λ (n : Node). cond n.split (Some (IsSplit k)) None) o (Some (NoNode k))) (option_and_then (λ (n : Node). cond (is_settled i n.cuts) None (option_map NotSettled (split_class i n.cuts))) o) in
    ap faults r.1
    ∙ after_unsplit n.split (IsSplit k) (cond (is_settled i n.cuts) None (option_map NotSettled (split_class i n.cuts))) (not-true n.split p.0) (ap (λ (t : Bool). cond t None (option_map NotSettled (split_class i n.cuts))) p.1)

-- ---- posts that are refused

none_or_some : {X : Type 0} (o : Option X) → (o ≡ None) ⊎ ((x : X) × (o ≡ Some x))
none_or_some None = inl refl
none_or_some (Some x) = inr (x, refl)

-- a post with a fault isn't allowed
pub faulty_refused : (i : Problem) (b : Book) (post : Post) (e : StepFault) → step_fault i b post ≡ Some e → step i b post ≡ None
faulty_refused i b post e fault =
    elim (none_or_some (step i b post)) [ inl none ↦ none | inr r ↦ let not_both : None ≡ Some e = sym (allowed_faultless i b r.0 post r.1) ∙ fault in absurd (cc) ]
