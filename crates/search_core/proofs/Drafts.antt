-- The posts of a step, drafted one after another.
use Rattle.search_core.proofs.Common.{◌≡◌, ℕ, zero, suc, ◌<◌, ◌≤◌, Bool, true, false, cond, ◌&&◌, not, List, [], ◌∷◌, ◌++◌, set, refl, sym, ◌∙◌, ap, subst, nat_le, nat_lt, Option, None, Some, eq-eqb, IfSome, IsTrue, slice_get, slice_set, option_map_or, option_and_then, and_from, lt-ltb, le-leb, append-nil, Problem, are_legal_rows, cost, rota_of, Costing, IsCosted, Class, Cut, Prices, are_prices, bound_of, low, high, Node, settled_floor, with_split, is_live_class, is_settled, Post, Plan, Priced, Split, Settled, Book, book_after, divided, is_better, is_node_and, is_open, priced, settled, step, number_at, book_then, followed_by, plan_posts, where_open, best_with, floor_with, IsAfter}
use Rattle.std.specs.Prelude.{max}
use Rattle.search_core.proofs.Runs.{book_after-append, slice_get_front}

-- ---- posts after posts
pub after_push : (i : Problem) (b : Book) (posts : List Post) (c n : Book) (post : Post) → book_after i b posts ≡ Some c → step i c post ≡ Some n → book_after i b (posts ++ post ∷ []) ≡ Some n
after_push i b posts c n post folds s =
    book_after-append i b posts (post ∷ [])
    ∙ ap (λ (o : Option Book). option_and_then (λ x. book_after i x (post ∷ [])) o) folds
    ∙ ap (λ (o : Option Book). option_and_then (λ x. book_after i x []) o) s

get_set : {X : Type 0} (xs : List X) (k : ℕ) (x y : X) → slice_get xs k ≡ Some x → slice_get (set xs k y) k ≡ Some y
get_set [] k x y at = absurd (cc)
get_set (z ∷ xs) zero x y at = refl
get_set (z ∷ xs) (suc k) x y at = get_set xs k x y at

module _ (i : Problem) (b : Book) (k : ℕ) (cuts : List Cut) (posts : List Post) (best floor : ℕ) where
  pub then_is : (a : IsAfter i b k cuts posts best floor false) → book_then i b posts ≡ a.after
  then_is a = ap (λ (o : Option Book). option_map_or (λ c. c) o b) a.folds

  -- the node is open where its floor is below the best cost
  pub open_is : (a : IsAfter i b k cuts posts best floor false) → is_node_and (book_then i b posts) k (is_open (book_then i b posts)) ≡ nat_lt floor best
  open_is a =
      ap (λ (c : Book). is_node_and c k (is_open c)) (then_is a)
      ∙ ap (λ (o : Option Node). option_map_or (is_open a.after) o false) a.at
      ∙ ap (λ (s : Bool). not s && nat_lt a.node.floor a.after.cost) a.split_is
      ∙ ap (λ (f : ℕ). nat_lt f a.after.cost) (sym a.floor_is)
      ∙ ap (nat_lt floor) (sym a.best_is)

  -- no post
  none_after : (s : Bool) → IsAfter i b k cuts posts best floor s → IsAfter i b k cuts (posts ++ []) best floor s
  none_after s a = subst (λ (l : List Post). IsAfter i b k cuts l best floor s) (sym (append-nil posts)) a

  -- the post of an open node
  pub where_is : (a : IsAfter i b k cuts posts best floor false) (post : Post) → posts ++ cond (nat_lt floor best) (post ∷ []) [] ≡ followed_by i b posts (where_open k post)
  where_is a post = ap (λ (t : Bool). posts ++ cond t (post ∷ []) []) (sym (open_is a))

  -- ---- a plan
  pub plan_step : (w : ℕ) (p : Costing) (a : IsAfter i b k cuts posts best floor false) → IsCosted p → p.instance ≡ i → nat_lt p.cost best ≡ true → step i a.after (Plan w p.rows p.cost) ≡ Some (record a.after { best = p.rows; cost = p.cost })
  plan_step w p a costed same cheaper =
      let legal : are_legal_rows i p.rows ≡ true = subst (λ (j : Problem). IsTrue (are_legal_rows j p.rows)) same costed.legal in
      let exact : cost i (rota_of p.rows) ≡ p.cost = ap (λ (j : Problem). cost j (rota_of p.rows)) (sym same) ∙ sym costed.exact in
      let below : nat_lt p.cost a.after.cost ≡ true = ap (nat_lt p.cost) (sym a.best_is) ∙ cheaper in
      let better : is_better i a.after p.rows p.cost ≡ true = and_from _ _ (and_from _ _ legal (eq-eqb _ _ exact)) below in
      ap (λ (t : Bool). cond t (Some (record a.after { best = p.rows; cost = p.cost })) None) better

  plan_cases : (w : ℕ) (p : Costing) (t : Bool) → IsAfter i b k cuts posts best floor false → IsCosted p → p.instance ≡ i → nat_lt p.cost best ≡ t → IsAfter i b k cuts (posts ++ cond t (Plan w p.rows p.cost ∷ []) []) (cond t p.cost best) floor false
  plan_cases w p false a costed same e = none_after false a
  plan_cases w p true a costed same e = record {
    after = record a.after { best = p.rows; cost = p.cost };
    folds = after_push i b posts a.after _ (Plan w p.rows p.cost) a.folds (plan_step w p a costed same e);
    best_is = refl;
    node = a.node;
    at = a.at;
    cuts_are = a.cuts_are;
    floor_is = a.floor_is;
    split_is = a.split_is;
  }

  pub plan_stage : (w : ℕ) (plan : Option Costing) → IsAfter i b k cuts posts best floor false → IfSome plan IsCosted → IfSome plan (λ p. p.instance ≡ i) → IsAfter i b k cuts (followed_by i b posts (plan_posts w plan)) (best_with plan best) floor false
  plan_stage w None a costed same = none_after false a
  plan_stage w (Some p) a costed same =
      let cost_is : (book_then i b posts).cost ≡ best = ap (λ (c : Book). c.cost) (then_is a) ∙ sym a.best_is in
      subst (λ (l : List Post). IsAfter i b k cuts l (best_with (Some p) best) floor false) (ap (λ (n : ℕ). posts ++ cond (nat_lt p.cost n) (Plan w p.rows p.cost ∷ []) []) (sym cost_is))
      (plan_cases w p (nat_lt p.cost best) a costed same refl)

  -- ---- a post that makes a node of the node
  at_node_is : (a : IsAfter i b k cuts posts best floor false) (f : Node → Option (List Node)) (nodes : List Node) → f a.node ≡ Some nodes → option_and_then (λ ns. Some (record a.after { nodes = ns })) (option_and_then f (slice_get a.after.nodes k)) ≡ Some (record a.after { nodes = nodes })
  at_node_is a f nodes e = ap (λ (o : Option (List Node)). option_and_then (λ ns. Some (record a.after { nodes = ns })) o) (ap (option_and_then f) a.at ∙ e)

  abbrev priced_nodes : Prices → IsAfter i b k cuts posts best floor false → List Node
  priced_nodes prices a = slice_set a.after.nodes k (record a.node { floor = max a.node.floor (bound_of i a.node.cuts prices) })

  pub price_step : (w : ℕ) (prices : Prices) (a : IsAfter i b k cuts posts best floor false) → IsTrue (are_prices i cuts prices) → step i a.after (Priced w k prices) ≡ Some (record a.after { nodes = priced_nodes prices a })
  price_step w prices a passes =
      let fits : are_prices i a.node.cuts prices ≡ true = subst (λ (l : List Cut). are_prices i l prices ≡ true) (sym a.cuts_are) passes in
      let may : (not a.node.split && are_prices i a.node.cuts prices) ≡ true = and_from _ _ (ap not a.split_is) fits in
      at_node_is a (priced i a.after k prices) (priced_nodes prices a) (ap (λ (t : Bool). cond t (Some (priced_nodes prices a)) None) may)

  pub price_value : (prices : Prices) (bound : ℕ) (a : IsAfter i b k cuts posts best floor false) → bound ≡ bound_of i cuts prices → bound ≡ number_at a.after k (λ n. bound_of i n.cuts prices)
  price_value prices bound a exact = exact ∙ ap (λ (l : List Cut). bound_of i l prices) (sym a.cuts_are) ∙ sym (ap (λ (o : Option Node). option_map_or (λ n. bound_of i n.cuts prices) o 0) a.at)

  price_cases : (w : ℕ) (prices : Prices) (bound : ℕ) (t : Bool) → IsAfter i b k cuts posts best floor false → IsTrue (are_prices i cuts prices) → bound ≡ bound_of i cuts prices → IsAfter i b k cuts (posts ++ cond t (Priced w k prices ∷ []) []) best (cond t (max floor bound) floor) false
  price_cases w prices bound false a passes exact = none_after false a
  price_cases w prices bound true a passes exact = record {
    after = record a.after { nodes = priced_nodes prices a };
    folds = after_push i b posts a.after _ (Priced w k prices) a.folds (price_step w prices a passes);
    best_is = a.best_is;
    node = record a.node { floor = max a.node.floor (bound_of i a.node.cuts prices) };
    at = get_set a.after.nodes k a.node _ a.at;
    cuts_are = a.cuts_are;
    floor_is = ap (λ (f : ℕ). max f bound) a.floor_is ∙ ap (max a.node.floor) (exact ∙ ap (λ (l : List Cut). bound_of i l prices) (sym a.cuts_are));
    split_is = a.split_is;
  }

  pub price_stage : (w : ℕ) (prices : Prices) (bound : ℕ) → IsAfter i b k cuts posts best floor false → IsTrue (are_prices i cuts prices) → bound ≡ bound_of i cuts prices → IsAfter i b k cuts (followed_by i b posts (where_open k (Priced w k prices))) best (floor_with bound best floor) false
  price_stage w prices bound a passes exact =
      subst (λ (l : List Post). IsAfter i b k cuts l best (floor_with bound best floor) false) (where_is a (Priced w k prices))
      (price_cases w prices bound (nat_lt floor best) a passes exact)

  -- ---- a split
  abbrev split_nodes : Class → ℕ → IsAfter i b k cuts posts best floor false → List Node
  split_nodes class m a = with_split a.after.nodes k a.node class m

  pub split_step : (w : ℕ) (class : Class) (m : ℕ) (a : IsAfter i b k cuts posts best floor false) → IsTrue (is_live_class i class) → low cuts class ≤ m → m < high i cuts class → nat_lt floor best ≡ true → step i a.after (Split w k class m) ≡ Some (record a.after { nodes = split_nodes class m a })
  split_step w class m a live least most opens =
      let below : nat_lt a.node.floor a.after.cost ≡ true = ap (λ (f : ℕ). nat_lt f a.after.cost) (sym a.floor_is) ∙ ap (nat_lt floor) (sym a.best_is) ∙ opens in
      let here : is_open a.after a.node ≡ true = and_from _ _ (ap not a.split_is) below in
      let from : nat_le (low a.node.cuts class) m ≡ true = ap (λ (l : List Cut). nat_le (low l class) m) a.cuts_are ∙ le-leb _ _ least in
      let to : nat_lt m (high i a.node.cuts class) ≡ true = ap (λ (l : List Cut). nat_lt m (high i l class)) a.cuts_are ∙ lt-ltb _ _ most in
      let may : (is_open a.after a.node && is_live_class i class && nat_le (low a.node.cuts class) m && nat_lt m (high i a.node.cuts class)) ≡ true = and_from _ _ (and_from _ _ (and_from _ _ here live) from) to in
      at_node_is a (divided i a.after k class m) (split_nodes class m a) (ap (λ (t : Bool). cond t (Some (split_nodes class m a)) None) may)

  split_cases : (w : ℕ) (class : Class) (m : ℕ) (t : Bool) → IsAfter i b k cuts posts best floor false → IsTrue (is_live_class i class) → low cuts class ≤ m → m < high i cuts class → nat_lt floor best ≡ t → IsAfter i b k cuts (posts ++ cond t (Split w k class m ∷ []) []) best floor t
  split_cases w class m false a live least most e = none_after false a
  split_cases w class m true a live least most e = record {
    after = record a.after { nodes = split_nodes class m a };
    folds = after_push i b posts a.after _ (Split w k class m) a.folds (split_step w class m a live least most e);
    best_is = a.best_is;
    node = record a.node { split = true };
    at = slice_get_front (slice_set a.after.nodes k (record a.node { split = true })) _ k _ (get_set a.after.nodes k a.node _ a.at);
    cuts_are = a.cuts_are;
    floor_is = a.floor_is;
    split_is = refl;
  }

  pub split_stage : (w : ℕ) (class : Class) (m : ℕ) → IsAfter i b k cuts posts best floor false → IsTrue (is_live_class i class) → low cuts class ≤ m → m < high i cuts class → IsAfter i b k cuts (followed_by i b posts (where_open k (Split w k class m))) best floor (nat_lt floor best)
  split_stage w class m a live least most =
      subst (λ (l : List Post). IsAfter i b k cuts l best floor (nat_lt floor best)) (where_is a (Split w k class m))
      (split_cases w class m (nat_lt floor best) a live least most refl)

  -- ---- a settled node
  abbrev settled_nodes : IsAfter i b k cuts posts best floor false → List Node
  settled_nodes a = slice_set a.after.nodes k (record a.node { floor = settled_floor i a.node.cuts })

  pub settled_step : (w : ℕ) (a : IsAfter i b k cuts posts best floor false) → IsTrue (is_settled i cuts) → step i a.after (Settled w k) ≡ Some (record a.after { nodes = settled_nodes a })
  settled_step w a is =
      let fixed : is_settled i a.node.cuts ≡ true = ap (is_settled i) a.cuts_are ∙ is in
      let may : (not a.node.split && is_settled i a.node.cuts) ≡ true = and_from _ _ (ap not a.split_is) fixed in
      at_node_is a (settled i a.after k) (settled_nodes a) (ap (λ (t : Bool). cond t (Some (settled_nodes a)) None) may)

  settled_cases : (w f : ℕ) (t : Bool) → IsAfter i b k cuts posts best floor false → IsTrue (is_settled i cuts) → f ≡ settled_floor i cuts → IsAfter i b k cuts (posts ++ cond t (Settled w k ∷ []) []) best (cond t f floor) false
  settled_cases w f false a is exact = none_after false a
  settled_cases w f true a is exact = record {
    after = record a.after { nodes = settled_nodes a };
    folds = after_push i b posts a.after _ (Settled w k) a.folds (settled_step w a is);
    best_is = a.best_is;
    node = record a.node { floor = settled_floor i a.node.cuts };
    at = get_set a.after.nodes k a.node _ a.at;
    cuts_are = a.cuts_are;
    floor_is = exact ∙ ap (settled_floor i) (sym a.cuts_are);
    split_is = a.split_is;
  }

  pub settled_stage : (w f : ℕ) → IsAfter i b k cuts posts best floor false → IsTrue (is_settled i cuts) → f ≡ settled_floor i cuts → IsAfter i b k cuts (followed_by i b posts (where_open k (Settled w k))) best (cond (nat_lt floor best) f floor) false
  settled_stage w f a is exact =
      subst (λ (l : List Post). IsAfter i b k cuts l best (cond (nat_lt floor best) f floor) false) (where_is a (Settled w k))
      (settled_cases w f (nat_lt floor best) a is exact)
