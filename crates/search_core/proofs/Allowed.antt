-- Where no fault of a plan applies, it is allowed.
use Rattle.search_core.proofs.Common.{◌≡◌, ◌∙◌, ◌<◌, ℕ, Bool, true, false, cond, ◌&&◌, ◌==◌, not, List, refl, sym, ap, subst, nat_le, nat_lt, Option, Some, None, IsSome, IsSomeAnd, slice_get, option_map, option_map_or, option_or, and_from, lt-ltb, leb-false, Row, Problem, cost, rota_of, are_legal_rows, Cut, Node, settled_floor, row_fault, legal_from_none, Plan, StepFault, NotLegal, WrongCost, NotBetter, NoNode, IsSplit, NotOpen, NotLive, OutOfRange, NotSettled, Price, NoMemory, Book, is_better, step, plan_fault, Refuses, number_at}

-- ---- causes

or_none : {X : Type 0} (a b : Option X) → option_or a b ≡ None → (a ≡ None) × (b ≡ None)
or_none None b e = (refl, e)
or_none (Some x) b e = absurd (cc)

map_none : {X Y : Type 0} (f : X → Y) (o : Option X) → option_map f o ≡ None → o ≡ None
map_none f None e = refl
map_none f (Some x) e = absurd (cc)

cause_none : {E : Type 0} (b : Bool) (fault : E) (rest : Option E) → cond b (Some fault) rest ≡ None → (b ≡ false) × (rest ≡ None)
cause_none true fault rest e = absurd (cc)
cause_none false fault rest e = (refl, e)

some_of : {X : Type 0} (o : Option X) (x : X) → o ≡ Some x → IsSome o
some_of {X} o x e = subst (λ (o : Option X). IsSome o) (sym e) refl

-- ---- plans

pub plan_allowed : (i : Problem) (b : Book) (worker c best : ℕ) (rows : List Row) → best ≡ b.cost → plan_fault i best rows c ≡ None → IsSome (step i b (Plan worker rows c))
plan_allowed i b worker c best rows same e =
    let p = or_none (option_map NotLegal (row_fault i rows)) _ e in
    let q = cause_none (not (cost i (rota_of rows) == c)) (WrongCost c (cost i (rota_of rows))) _ p.1 in
    let r = cause_none (nat_le best c) (NotBetter best) None q.1 in
    let legal : are_legal_rows i rows ≡ true = legal_from_none i rows (map_none NotLegal (row_fault i rows) p.0) in
    let exact : (cost i (rota_of rows) == c) ≡ true = not_false (cost i (rota_of rows) == c) q.0 in
    let less : nat_lt c b.cost ≡ true = lt-ltb c b.cost (subst (λ n. c < n) same (leb-false best c r.0)) in
    let better : is_better i b rows c ≡ true = and_from (are_legal_rows i rows && (cost i (rota_of rows) == c)) (nat_lt c b.cost) (and_from (are_legal_rows i rows) (cost i (rota_of rows) == c) legal exact) less in
    some_of (step i b (Plan worker rows c)) (record b { best = rows; cost = c }) (ap (λ (t : Bool). cond t (Some (record b { best = rows; cost = c })) None) better)
  where
    not_false : (b : Bool) → not b ≡ false → b ≡ true
    not_false true e = refl
    not_false false e = absurd (cc)

-- the first fault that applies is a refusal
pub refuses : (fault : Option StepFault) (e : StepFault) → fault ≡ Some e → Refuses fault e
refuses fault (NotLegal why) e = e
refuses fault (WrongCost kept found) e = e
refuses fault (NotBetter best) e = e
refuses fault (NoNode node) e = e
refuses fault (IsSplit node) e = e
refuses fault (NotOpen floor best) e = e
refuses fault (NotLive class) e = e
refuses fault (OutOfRange lo hi) e = e
refuses fault (NotSettled class) e = e
refuses fault (Price why) e = e
refuses fault NoMemory e = tt

-- ---- settled nodes

-- the floor of a node that is there, by its cuts
pub settled_value : (i j : Problem) (b : Book) (k : ℕ) (cuts of_node : List Cut) (floor : ℕ) → IsSomeAnd (slice_get b.nodes k) (λ (n : Node). cuts ≡ n.cuts) → floor ≡ settled_floor j of_node → j ≡ i → of_node ≡ cuts
    → floor ≡ number_at b k (λ (n : Node). settled_floor i n.cuts)
settled_value i j b k cuts of_node floor there worth same is = worth ∙ ap (λ (i : Problem). settled_floor i of_node) same ∙ ap (settled_floor i) is ∙ of_node_at (slice_get b.nodes k) there
  where
    of_node_at : (o : Option Node) → IsSomeAnd o (λ (n : Node). cuts ≡ n.cuts) → settled_floor i cuts ≡ option_map_or (λ (n : Node). settled_floor i n.cuts) o 0
    of_node_at None h = absurd h
    of_node_at (Some n) h = ap (settled_floor i) h
