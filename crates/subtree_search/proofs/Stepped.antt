-- What the parts of a step make of a search.
use Rattle.subtree_search.proofs.Common.{◌≡◌, ℕ, ◌+◌, ◌<◌, ◌≤◌, Bool, true, false, cond, List, [], ◌∷◌, ◌++◌, length, set, sym, ap, ◌∙◌, subst, arith, Option, Some, None, slice_get, IsTrue, IsSomeAnd, option_map, cond_both, length-append, length-set, slice_get_within, Problem, IsValid, Costing, Class, Cut, AtMost, AtLeast, are_prices, Node, child, settled_floor, with_floor, Advice, Splitting, Proving, IsProved, Settling, Fixing, Open, Done, Split, Settled, set_same, Searching, divided, is_open, offered, priced, settled, top, IsNext, lawful_plan, lawful_prices, priced_node, IsClose, IsClosing, IsDivision, IsOffer, IsSettlement, IsStepBy, by_price, by_division, by_settling}
use Rattle.subtree_search.proofs.Sound.{division_good, offered_nodes}

-- the number of a split is small
pub division_small : {advised : Option Splitting} → (i : Problem) (cuts : List Cut) (class : Class) (m : ℕ) → IsValid i → IsDivision i cuts advised class m → m ≤ 200
division_small i cuts class m valid d = let less : m < 200 = (division_good i cuts class m valid d).1 in omega (arith, less)

-- a node that a search takes is one of its own
pub next_within : (nodes : List Node) (cost k : ℕ) (n : Node) → IsNext nodes cost k n → k < length nodes
next_within nodes cost k n next = slice_get_within nodes k n next.there

settled_longer : (i : Problem) (k : ℕ) (n : Node) (s : Searching) → length s.nodes ≤ length (settled i k n s).nodes
settled_longer i k n s =
    cond_both (is_open (top s) n) (record s { nodes = set s.nodes k (record n { floor = settled_floor i n.cuts }); lines = s.lines ++ Settled k ∷ [] }) s (λ (t : Searching). length s.nodes ≤ length t.nodes)
    (λ e. let same : length (set s.nodes k (record n { floor = settled_floor i n.cuts })) ≡ length s.nodes = length-set s.nodes k (record n { floor = settled_floor i n.cuts }) in omega (arith, same))
    (λ e. omega arith)

-- a close leaves all nodes
pub close_longer : {advised : Option Splitting} → (i : Problem) (k : ℕ) (n : Node) (s t : Searching) → IsClose i advised k n s t → length s.nodes ≤ length t.nodes
close_longer i k n s t (by_price shut) = omega arith
close_longer i k n s t (by_division class m open_one left d) =
    let olds = set s.nodes k (record n { split = true }) in
    let more = child n class AtMost m ∷ child n class AtLeast (m + 1) ∷ [] in
    let all : length (olds ++ more) ≡ length olds + length more = length-append olds more in
    let same : length olds ≡ length s.nodes = length-set s.nodes k (record n { split = true }) in
    omega (arith, all, same)
close_longer i k n s t (by_settling node open_one st) =
    let more : length (offered s node.plan).nodes ≤ length (settled i k n (offered s node.plan)).nodes = settled_longer i k n (offered s node.plan) in
    let same : length (offered s node.plan).nodes ≡ length s.nodes = ap (λ (ns : List Node). length ns) (offered_nodes s node.plan) in
    omega (arith, more, same)

-- ---- how a node is closed

at_offered : (P : Node → Type 0) (s : Searching) (plan : Option Costing) (k : ℕ) → IsSomeAnd (slice_get (offered s plan).nodes k) P → IsSomeAnd (slice_get s.nodes k) P
at_offered P s plan k h = subst (λ (ns : List Node). IsSomeAnd (slice_get ns k) P) (offered_nodes s plan) h

settled_floors : (i : Problem) (cuts : List Cut) (p : Settling) → IsSettlement i cuts p → settled_floor p.instance p.cuts ≡ settled_floor i cuts
settled_floors i cuts p st = ap (λ j. settled_floor j p.cuts) st.instance ∙ ap (λ cs. settled_floor i cs) st.below

-- a node that is open after its plan was offered is settled
pub settled_made : (i : Problem) (k : ℕ) (s o t : Searching) (plan : Option Costing) (p : Settling) (answer : Bool) (floor : ℕ) → o ≡ offered s plan → plan ≡ p.plan → floor ≡ settled_floor p.instance p.cuts
    → IsSomeAnd (slice_get o.nodes k) (λ n. answer ≡ is_open (top o) n) → answer ≡ true → IsSomeAnd (slice_get o.nodes k) (λ n. t ≡ record o { nodes = with_floor o.nodes k n floor; lines = o.lines ++ Settled k ∷ [] })
    → IsSomeAnd (slice_get s.nodes k) (λ n. IsSettlement i n.cuts p → t ≡ settled i k n (offered s p.plan))
settled_made i k s o t plan p answer floor oe pe fe asked hit made =
    let same : o ≡ offered s p.plan = oe ∙ ap (offered s) pe in
    at_offered (λ n. IsSettlement i n.cuts p → t ≡ settled i k n (offered s p.plan)) s p.plan k
    (subst (λ (x : Searching). IsSomeAnd (slice_get x.nodes k) (λ n. IsSettlement i n.cuts p → t ≡ settled i k n x)) same (go (slice_get o.nodes k) asked made))
  where
    go : (found : Option Node) → IsSomeAnd found (λ n. answer ≡ is_open (top o) n) → IsSomeAnd found (λ n. t ≡ record o { nodes = with_floor o.nodes k n floor; lines = o.lines ++ Settled k ∷ [] }) → IsSomeAnd found (λ n. IsSettlement i n.cuts p → t ≡ settled i k n o)
    go None a b = absurd a
    go (Some n) a b = λ st.
        b ∙ ap (λ f. record o { nodes = with_floor o.nodes k n f; lines = o.lines ++ Settled k ∷ [] }) (fe ∙ settled_floors i n.cuts p st)
        ∙ sym (ap (λ x. cond x (record o { nodes = with_floor o.nodes k n (settled_floor i n.cuts); lines = o.lines ++ Settled k ∷ [] }) o) (sym a ∙ hit))

-- the closes of a node, where it is there
pub closed_by_price : (advised : Option Splitting) → (i : Problem) (k : ℕ) (s : Searching) (cuts : List Cut) (answer : Bool) (found : Option Node) → IsSomeAnd found (λ n. answer ≡ is_open (top s) n) → answer ≡ false → IsSomeAnd found (λ n. n.cuts ≡ cuts → IsClose i advised k n s s)
closed_by_price advised i k s cuts answer None asked miss = absurd asked
closed_by_price advised i k s cuts answer (Some n) asked miss = λ same. by_price (sym asked ∙ miss)

pub closed_by_division : (advised : Option Splitting) → (i : Problem) (k : ℕ) (s t : Searching) (cuts : List Cut) (class : Class) (m : ℕ) (found : Option Node) → IsClosing i cuts advised (Open class m) → IsSomeAnd found (λ n. t ≡ divided k n class m s)
    → IsSomeAnd found (λ n. n.cuts ≡ cuts → IsTrue (is_open (top s) n) → IsClose i advised k n s t)
closed_by_division advised i k s t cuts class m None c made = absurd made
closed_by_division advised i k s t cuts class m (Some n) c made = λ same open_one.
    let here : IsClosing i n.cuts advised (Open class m) = subst (λ (cs : List Cut). IsClosing i cs advised (Open class m)) (sym same) c in
    subst (λ (x : Searching). IsClose i advised k n s x) (sym made) (by_division class m open_one here.0 here.1)

pub closed_by_settling : (advised : Option Splitting) → (i : Problem) (k : ℕ) (s t : Searching) (cuts : List Cut) (p : Settling) (found : Option Node) → IsSettlement i cuts p → IsSomeAnd found (λ n. IsSettlement i n.cuts p → t ≡ settled i k n (offered s p.plan))
    → IsSomeAnd found (λ n. n.cuts ≡ cuts → IsTrue (is_open (top s) n) → IsClose i advised k n s t)
closed_by_settling advised i k s t cuts p None c made = absurd made
closed_by_settling advised i k s t cuts p (Some n) c made = λ same open_one.
    let here : IsSettlement i n.cuts p = subst (λ (cs : List Cut). IsSettlement i cs p) (sym same) c in
    subst (λ (x : Searching). IsClose i advised k n s x) (sym (made here)) (by_settling p open_one here)

-- the same, as what settling the cuts gives is looked at
pub closing_small : (advised : Option Splitting) (i : Problem) (cuts : List Cut) (class : Class) (m : ℕ) (f : Fixing) → IsValid i → f ≡ Open class m → IsClosing i cuts advised f → m ≤ 200
closing_small advised i cuts class m f valid is c =
    let here : IsClosing i cuts advised (Open class m) = subst (IsClosing i cuts advised) is c in
    division_small {advised = advised} i cuts class m valid here.1

pub closed_split : (advised : Option Splitting) (i : Problem) (k : ℕ) (s t : Searching) (cuts : List Cut) (class : Class) (m : ℕ) (f : Fixing) → f ≡ Open class m → IsClosing i cuts advised f
    → IsSomeAnd (slice_get s.nodes k) (λ n. t ≡ divided k n class m s) → IsSomeAnd (slice_get s.nodes k) (λ n. n.cuts ≡ cuts → IsTrue (is_open (top s) n) → IsClose i advised k n s t)
closed_split advised i k s t cuts class m f is c made = closed_by_division advised i k s t cuts class m (slice_get s.nodes k) (subst (IsClosing i cuts advised) is c) made

pub closed_settled : (advised : Option Splitting) (i : Problem) (k : ℕ) (s t : Searching) (cuts : List Cut) (p : Settling) (f : Fixing) → f ≡ Done p → IsClosing i cuts advised f
    → IsSomeAnd (slice_get s.nodes k) (λ n. IsSettlement i n.cuts p → t ≡ settled i k n (offered s p.plan)) → IsSomeAnd (slice_get s.nodes k) (λ n. n.cuts ≡ cuts → IsTrue (is_open (top s) n) → IsClose i advised k n s t)
closed_settled advised i k s t cuts p f is c made = closed_by_settling advised i k s t cuts p (slice_get s.nodes k) (subst (IsClosing i cuts advised) is c) made

-- so an open node is closed
pub closed_open : (advised : Option Splitting) → (i : Problem) (k : ℕ) (s t : Searching) (cuts : List Cut) (answer : Bool) (found : Option Node) → IsSomeAnd found (λ n. answer ≡ is_open (top s) n) → answer ≡ true → IsSomeAnd found (λ n. n.cuts ≡ cuts → IsTrue (is_open (top s) n) → IsClose i advised k n s t)
    → IsSomeAnd found (λ n. n.cuts ≡ cuts → IsClose i advised k n s t)
closed_open advised i k s t cuts answer None asked hit close = absurd asked
closed_open advised i k s t cuts answer (Some n) asked hit close = λ same. close same (sym asked ∙ hit)

-- ---- a step

-- what a step does to the node that it takes
pub record Stepped (i : Problem) (s p : Searching) (k : ℕ) (n : Node) (plan : Option Costing) (proved : Proving) : Type 0 where
  pub there : slice_get p.nodes k ≡ Some (priced_node i n proved.prices)
  pub is : p ≡ priced i k n proved.prices (offered s plan)
  pub long : length p.nodes ≡ length s.nodes

-- the node after the offer and the price
pub priced_there : (i : Problem) (s o p : Searching) (k : ℕ) (n : Node) (plan : Option Costing) (proved : Proving)
    → slice_get s.nodes k ≡ Some n → o ≡ offered s plan → proved.instance ≡ i → n.cuts ≡ proved.cuts
    → IsSomeAnd (slice_get o.nodes k) (λ m. m.cuts ≡ proved.cuts → p ≡ priced proved.instance k m proved.prices o) → Stepped i s p k n plan proved
priced_there i s o p k n plan proved at oe pi nc made =
    let at_offered : slice_get (offered s plan).nodes k ≡ Some n = ap (λ (ns : List Node). slice_get ns k) (offered_nodes s plan) ∙ at in
    let at_o : slice_get o.nodes k ≡ Some n = ap (λ (x : Searching). slice_get x.nodes k) oe ∙ at_offered in
    let made_n : n.cuts ≡ proved.cuts → p ≡ priced proved.instance k n proved.prices o =
    subst (λ found. IsSomeAnd found (λ m. m.cuts ≡ proved.cuts → p ≡ priced proved.instance k m proved.prices o)) at_o made in
    let is : p ≡ priced i k n proved.prices (offered s plan) =
    made_n nc ∙ ap (λ j. priced j k n proved.prices o) pi ∙ ap (λ x. priced i k n proved.prices x) oe in
    let same : length (set (offered s plan).nodes k (priced_node i n proved.prices)) ≡ length (offered s plan).nodes = length-set (offered s plan).nodes k (priced_node i n proved.prices) in
    record {
      there = ap (λ (x : Searching). slice_get x.nodes k) is ∙ set_same (offered s plan).nodes k n (priced_node i n proved.prices) at_offered;
      is = is;
      long = ap (λ (x : Searching). length x.nodes) is ∙ same ∙ ap (λ (ns : List Node). length ns) (offered_nodes s plan);
    }

-- and how it is closed
pub closed_as : {advised : Option Splitting} → (i : Problem) (s p t : Searching) (k : ℕ) (n : Node) (cuts : List Cut) (plan : Option Costing) (proved : Proving)
    → Stepped i s p k n plan proved → n.cuts ≡ cuts → IsSomeAnd (slice_get p.nodes k) (λ m. m.cuts ≡ cuts → IsClose i advised k m p t) → IsClose i advised k (priced_node i n proved.prices) p t
closed_as {advised} i s p t k n cuts plan proved st nc close =
    (subst (λ found. IsSomeAnd found (λ m. m.cuts ≡ cuts → IsClose i advised k m p t)) st.there close) nc

-- so it is a step
pub step_is : (i : Problem) (s p t : Searching) (k : ℕ) (n : Node) (advice : Advice) (plan : Option Costing) (proved : Proving)
    → IsNext s.nodes (top s) k n → option_map (λ x. x.rows) plan ≡ lawful_plan i advice.plan → IsOffer i plan → proved.instance ≡ i → n.cuts ≡ proved.cuts → proved.prices ≡ lawful_prices i n.cuts advice.prices → IsProved proved
    → Stepped i s p k n plan proved → IsClose i advice.split k (priced_node i n proved.prices) p t → IsStepBy i k n advice s t
step_is i s p t k n advice plan proved next advised offer pi nc given proves st close = record {
  next = next;
  plan = plan;
  advised = advised;
  offer = offer;
  prices = proved.prices;
  given = given;
  lawful = subst (λ (cs : List Cut). are_prices i cs proved.prices ≡ true) (sym nc) (subst (λ (j : Problem). are_prices j proved.cuts proved.prices ≡ true) pi proves.passes);
  close = subst (λ x. IsClose i advice.split k (priced_node i n proved.prices) x t) st.is close;
}

-- what a step makes of a search, and that no node is lost
pub record StepMade (i : Problem) (k : ℕ) (advice : Advice) (s t : Searching) : Type 0 where
  pub step : IsSomeAnd (slice_get s.nodes k) (λ n. IsStepBy i k n advice s t)
  pub longer : length s.nodes ≤ length t.nodes

pub step_made : (i : Problem) (s o p t : Searching) (k : ℕ) (next : (n : Node) × IsNext s.nodes (top s) k n) (advice : Advice) (cuts : List Cut) (plan : Option Costing) (proved : Proving)
    → IsSomeAnd (slice_get s.nodes k) (λ m. cuts ≡ m.cuts) → option_map (λ x. x.rows) plan ≡ lawful_plan i advice.plan → IsOffer i plan → o ≡ offered s plan
    → (proved.instance ≡ i) × (proved.cuts ≡ cuts) × (proved.prices ≡ lawful_prices i cuts advice.prices) → IsProved proved
    → IsSomeAnd (slice_get o.nodes k) (λ m. m.cuts ≡ proved.cuts → p ≡ priced proved.instance k m proved.prices o)
    → IsSomeAnd (slice_get p.nodes k) (λ m. m.cuts ≡ cuts → IsClose i advice.split k m p t)
    → StepMade i k advice s t
step_made i s o p t k next advice cuts plan proved asked rows offer oe of_proved proves price close =
    let n = next.0 in
    let at = next.1.there in
    let same : cuts ≡ n.cuts = subst (λ found. IsSomeAnd found (λ m. cuts ≡ m.cuts)) at asked in
    let nc : n.cuts ≡ proved.cuts = sym same ∙ sym of_proved.1 in
    let given : proved.prices ≡ lawful_prices i n.cuts advice.prices = of_proved.2 ∙ ap (λ cs. lawful_prices i cs advice.prices) same in
    let st : Stepped i s p k n plan proved = priced_there i s o p k n plan proved at oe of_proved.0 nc price in
    let closed : IsClose i advice.split k (priced_node i n proved.prices) p t = closed_as i s p t k n cuts plan proved st (sym same) close in
    let by : IsStepBy i k n advice s t = step_is i s p t k n advice plan proved next.1 rows offer of_proved.0 nc given proves st closed in
    let more : length p.nodes ≤ length t.nodes = close_longer i k (priced_node i n proved.prices) p t closed in
    let long = st.long in
    record {
      step = subst (λ found. IsSomeAnd found (λ m. IsStepBy i k m advice s t)) (sym at) by;
      longer = omega (arith, more, long);
    }

-- the node is there still after an offer, and after a price
pub there_offered : (s o : Searching) (k : ℕ) → (n : Node) × IsNext s.nodes (top s) k n → o.nodes ≡ s.nodes → k < length o.nodes
there_offered s o k next e =
    let within : k < length s.nodes = next_within s.nodes (top s) k next.0 next.1 in
    let same : length o.nodes ≡ length s.nodes = ap (λ (ns : List Node). length ns) e in
    omega (arith, within, same)
