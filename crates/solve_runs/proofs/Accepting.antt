-- The certificate of a book is accepted, and has a text.
use Rattle.solve_runs.proofs.Common.{◌≡◌, inl, inr, ℕ, zero, suc, ◌<◌, ◌≤◌, ◌^◌, min, max, Bool, true, false, cond, ◌&&◌, ◌==◌, not, List, [], ◌∷◌, length, refl, sym, ap, subst, ◌∙◌, arith, fold, nat_lt, nat_le, Some, None, slice_get, list_all, option_map_or, and_parts, and_from, lt-ltb, le-leb, eqb-true, ltb-true, eq-eqb, not-true, false≢true, cases_Bool, zip, AllByRecursion, Problem, slots, shift_list, IsValid, cost, rota_of, is_legal_rota, is_shift_and, Node, with_floor, with_split, Post, Plan, Priced, Split, Settled, Line, is_split, node_line, node_of, nodes_after, nodes_of, least_floor, is_bound, is_plan, is_accepted, Agrees, AgreesWith, lines_of, Book, opening, floor_of, is_open, is_better, priced, divided, settled, step, book_after, book_of, is_finished, cond_some, bind_some, at_node_some, fold_sound, finished_closed, status_of_book, cert_of}
use Rattle.std.specs.Option.{option_and_then}
use Rattle.std.proofs.lemmas.List.Elements.{All-from_recursion}
use Rattle.break_rules.specs.Breaks.{is_live}
use Rattle.break_rules.specs.Lists.{Has}
use Rattle.shift_instance.specs.declared.TheConstants.{TOP}
use Rattle.rota_cost.proofs.Coverage.{costs_below}
use Rattle.head_splits.specs.declared.Class.{Class}
use Rattle.head_splits.specs.declared.Prices.{Prices}
use Rattle.head_splits.specs.Bound.{are_prices, bound_of, is_slot_price, is_cut_price}
use Rattle.head_splits.specs.declared.Cut.{Cut}
use Rattle.head_splits.specs.Cuts.{low, high}
use Rattle.head_splits.proofs.Splits.{high_most}
use Rattle.head_splits.proofs.Nodes.{floor_at}
use Rattle.head_splits.specs.Settled.{is_live_class}
use Rattle.certificate.specs.declared.proof_lines.Line.TheVariants.{Split as SplitLine, Priced as PricedLine, Settled as SettledLine}
use Rattle.certificate.specs.LineText.{HasSlot}
use Rattle.certificate.specs.declared.CertStatus.TheVariants.{Optimal, Stopped}

-- ---- a split of a search is a good line

there_short : {X : Type 0} (xs : List X) (k : ℕ) (p : X → Bool) → option_map_or p (slice_get xs k) false ≡ true → k < length xs
there_short [] k p h = absurd (false≢true h)
there_short (x ∷ xs) zero p h = omega arith
there_short (x ∷ xs) (suc k) p h = let rest : k < length xs = there_short xs k p h in omega arith

split_good : (i : Problem) (cuts : List Cut) (class : Class) (m : ℕ) → IsValid i → length class.prefix ≤ 48 → is_live_class i class ≡ true → m < high i cuts class → is_split i class m ≡ true
split_good i cuts class m valid few live below =
    let p = and_parts (nat_lt class.day i.days) (is_shift_and i class.shift (λ x. is_live x.1 x.0.len class.prefix)) live in
    let shift : class.shift < length (shift_list i) = there_short (shift_list i) class.shift (λ x. is_live x.1 x.0.len class.prefix) p.1 in
    let most : high i cuts class ≤ i.heads = high_most cuts class i.heads in
    let heads : i.heads ≤ 200 = valid.heads in
    let small : m ≤ 200 = omega arith in
    and_from _ _ (and_from _ _ (and_from _ _ (lt-ltb _ _ shift) p.0) (le-leb _ _ few)) (le-leb _ _ small)

-- ---- the nodes of a book are those that its lines make

-- a line at a node that is there
one_line : (i : Problem) (nodes next : List Node) (line : Line) (lines : List Line) (n : Node) → slice_get nodes (node_of line) ≡ Some n → node_line i nodes n line ≡ Some next
    → nodes_after i nodes (line ∷ lines) ≡ nodes_after i next lines
one_line i nodes next line lines n at good =
    ap (λ o. option_and_then (λ next. nodes_after i next lines) (option_and_then (λ n. node_line i nodes n line) o)) at
    ∙ ap (λ o. option_and_then (λ next. nodes_after i next lines) o) good

-- the prefix of each live class has few breaks
abbrev pub FewBreaks : Problem → Type 0
FewBreaks i = (class : Class) → is_live_class i class ≡ true → length class.prefix ≤ 48

posts_good : (i : Problem) (b c : Book) (posts : List Post) → IsValid i → FewBreaks i → book_after i b posts ≡ Some c → nodes_after i b.nodes (lines_of posts) ≡ Some c.nodes
posts_good i b c [] valid few e = let same : b ≡ c = cc in ap (λ (x : Book). Some x.nodes) same
posts_good i b c (Plan worker rows n ∷ posts) valid few e =
    let r = bind_some (λ next. book_after i next posts) (step i b (Plan worker rows n)) c e in
    let q = cond_some (is_better i b rows n) (record b { best = rows; cost = n }) r.0 r.1 in
    ap (λ (x : Book). nodes_after i x.nodes (lines_of posts)) q.1 ∙ posts_good i r.0 c posts valid few r.2
posts_good i b c (Priced worker k prices ∷ posts) valid few e =
    let r = bind_some (λ next. book_after i next posts) (step i b (Priced worker k prices)) c e in
    let t = at_node_some b r.0 k (priced i b k prices) r.1 in
    one_line i b.nodes t.2 (PricedLine k prices) (lines_of posts) t.0 t.1 t.3
    ∙ ap (λ (x : Book). nodes_after i x.nodes (lines_of posts)) t.4 ∙ posts_good i r.0 c posts valid few r.2
posts_good i b c (Split worker k class m ∷ posts) valid few e =
    let r = bind_some (λ next. book_after i next posts) (step i b (Split worker k class m)) c e in
    let t = at_node_some b r.0 k (divided i b k class m) r.1 in
    let n = t.0 in
    let q = cond_some (is_open b n && is_live_class i class && nat_le (low n.cuts class) m && nat_lt m (high i n.cuts class)) (with_split b.nodes k n class m) t.2 t.3 in
    let p3 = and_parts (is_open b n && is_live_class i class && nat_le (low n.cuts class) m) (nat_lt m (high i n.cuts class)) q.0 in
    let p2 = and_parts (is_open b n && is_live_class i class) (nat_le (low n.cuts class) m) p3.0 in
    let p1 = and_parts (is_open b n) (is_live_class i class) p2.0 in
    let p0 = and_parts (not n.split) (nat_lt n.floor b.cost) p1.0 in
    let good : not n.split && is_split i class m ≡ true = and_from _ _ p0.0 (split_good i n.cuts class m valid (few class p1.1) p1.1 (ltb-true _ _ p3.1)) in
    let line : node_line i b.nodes n (SplitLine k class m) ≡ Some t.2 = ap (λ (x : Bool). cond x (Some (with_split b.nodes k n class m)) None) good ∙ ap Some q.1 in
    one_line i b.nodes t.2 (SplitLine k class m) (lines_of posts) t.0 t.1 line
    ∙ ap (λ (x : Book). nodes_after i x.nodes (lines_of posts)) t.4 ∙ posts_good i r.0 c posts valid few r.2
posts_good i b c (Settled worker k ∷ posts) valid few e =
    let r = bind_some (λ next. book_after i next posts) (step i b (Settled worker k)) c e in
    let t = at_node_some b r.0 k (settled i b k) r.1 in
    one_line i b.nodes t.2 (SettledLine k) (lines_of posts) t.0 t.1 t.3
    ∙ ap (λ (x : Book). nodes_after i x.nodes (lines_of posts)) t.4 ∙ posts_good i r.0 c posts valid few r.2

-- ---- the floor of a book isn't above what the lines find

floors_grow : (nodes : List Node) (f g : ℕ) → f ≤ g → fold (λ f n. cond n.split f (min f n.floor)) f nodes ≤ fold (λ f n. cond n.split f (min f n.floor)) g nodes
floors_grow [] f g le = le
floors_grow (n ∷ nodes) f g le =
    floors_grow nodes (cond n.split f (min f n.floor)) (cond n.split g (min g n.floor))
    (elim (cases_Bool n.split) [
      | inl t ↦ rw t le
      | inr e ↦ rw e (let m : min f n.floor ≤ min g n.floor = omega arith in m)
    ])

pub accepted : (i : Problem) (posts : List Post) (b : Book) → IsValid i → FewBreaks i → book_of i posts ≡ Some b → is_accepted i (cert_of posts b) ≡ true
accepted i posts b valid few folds =
    let sound = fold_sound i posts b folds in
    let nodes : nodes_of i (lines_of posts) ≡ Some b.nodes = posts_good i (opening i) b posts valid few folds in
    let plan : is_plan i (Some (b.cost, b.best)) ≡ true = and_from _ _ sound.legal (eq-eqb _ _ sound.exact) in
    let legal : is_legal_rota i (rota_of b.best) ≡ true = (and_parts _ (is_legal_rota i (rota_of b.best)) sound.legal).1 in
    let below : cost i (rota_of b.best) < 1000000000000000 = costs_below i (rota_of b.best) valid legal in
    let exact : cost i (rota_of b.best) ≡ b.cost = sound.exact in
    let small : b.cost ≤ TOP = omega arith in
    let least : floor_of b ≤ least_floor b.nodes = floors_grow b.nodes b.cost TOP small in
    let bound : is_bound i (lines_of posts) (floor_of b) ≡ true = ap (λ o. option_map_or (λ nodes. nat_le (floor_of b) (least_floor nodes)) o false) nodes ∙ le-leb _ _ least in
    and_from _ _ bound plan

-- ---- the certificate has a text

-- a list of which not all are closed has an open node
some_open : (b : Book) (nodes : List Node) → list_all (λ n. not (is_open b n)) nodes ≡ false → (n : Node) × Has nodes n × (is_open b n ≡ true)
some_open b [] e = absurd (false≢true (sym e))
some_open b (n ∷ nodes) e =
    elim (cases_Bool (is_open b n)) [
      | inl open_ ↦ (n, inl refl, open_)
      | inr shut ↦
          let rest : list_all (λ n. not (is_open b n)) nodes ≡ false = sym (ap (λ (x : Bool). not x && list_all (λ n. not (is_open b n)) nodes) shut) ∙ e in
          let r = some_open b nodes rest in
          (r.0, inr r.1, r.2)
    ]

pub unfinished_below : (b : Book) → is_finished b ≡ false → floor_of b < b.cost
unfinished_below b e =
    let r = some_open b b.nodes e in
    let p = and_parts (not r.0.split) (nat_lt r.0.floor b.cost) r.2 in
    let least : floor_of b ≤ r.0.floor = floor_at b.cost b.nodes r.0 r.1 (not-true r.0.split p.0) in
    let less : r.0.floor < b.cost = ltb-true _ _ p.1 in
    omega arith

said_agrees : (b : Book) → AgreesWith (status_of_book b) (Some (b.cost, b.best)) (floor_of b)
said_agrees b =
    elim (cases_Bool (is_finished b)) [
      | inl done ↦ subst (λ (x : Bool). AgreesWith (cond x Optimal Stopped) (Some (b.cost, b.best)) (floor_of b)) (sym done) (sym (finished_closed b done))
      | inr left ↦ subst (λ (x : Bool). AgreesWith (cond x Optimal Stopped) (Some (b.cost, b.best)) (floor_of b)) (sym left) (unfinished_below b left)
    ]

lines_few : (posts : List Post) → length (lines_of posts) ≤ length posts
lines_few [] = omega arith
lines_few (Plan worker rows n ∷ posts) = let rest : length (lines_of posts) ≤ length posts = lines_few posts in omega arith
lines_few (Priced worker k prices ∷ posts) = let rest : length (lines_of posts) ≤ length posts = lines_few posts in omega arith
lines_few (Split worker k class m ∷ posts) = let rest : length (lines_of posts) ≤ length posts = lines_few posts in omega arith
lines_few (Settled worker k ∷ posts) = let rest : length (lines_of posts) ≤ length posts = lines_few posts in omega arith

-- prices for an instance are some
some_prices : (i : Problem) (cuts : List Cut) (prices : Prices) → IsValid i → are_prices i cuts prices ≡ true → 0 < length prices.slots
some_prices i cuts prices valid h =
    let p4 = and_parts (nat_le 1 prices.q && nat_le prices.q 10000 && (length prices.slots == slots i) && list_all (is_slot_price i prices.q) prices.slots && (length prices.cuts == length cuts)) (list_all is_cut_price (zip cuts prices.cuts)) h in
    let p3 = and_parts (nat_le 1 prices.q && nat_le prices.q 10000 && (length prices.slots == slots i) && list_all (is_slot_price i prices.q) prices.slots) (length prices.cuts == length cuts) p4.0 in
    let p2 = and_parts (nat_le 1 prices.q && nat_le prices.q 10000 && (length prices.slots == slots i)) (list_all (is_slot_price i prices.q) prices.slots) p3.0 in
    let p1 = and_parts (nat_le 1 prices.q && nat_le prices.q 10000) (length prices.slots == slots i) p2.0 in
    let all : length prices.slots ≡ slots i = eqb-true _ _ p1.1 in
    let some : 0 < slots i = valid.some_slots in
    omega arith

posts_slots : (i : Problem) (b c : Book) (posts : List Post) → IsValid i → book_after i b posts ≡ Some c → AllByRecursion HasSlot (lines_of posts)
posts_slots i b c [] valid e = tt
posts_slots i b c (Plan worker rows n ∷ posts) valid e =
    let r = bind_some (λ next. book_after i next posts) (step i b (Plan worker rows n)) c e in
    posts_slots i r.0 c posts valid r.2
posts_slots i b c (Priced worker k prices ∷ posts) valid e =
    let r = bind_some (λ next. book_after i next posts) (step i b (Priced worker k prices)) c e in
    let t = at_node_some b r.0 k (priced i b k prices) r.1 in
    let n = t.0 in
    let q = cond_some (not n.split && are_prices i n.cuts prices) (with_floor b.nodes k n (max n.floor (bound_of i n.cuts prices))) t.2 t.3 in
    let p = and_parts (not n.split) (are_prices i n.cuts prices) q.0 in
    (some_prices i n.cuts prices valid p.1, posts_slots i r.0 c posts valid r.2)
posts_slots i b c (Split worker k class m ∷ posts) valid e =
    let r = bind_some (λ next. book_after i next posts) (step i b (Split worker k class m)) c e in
    (tt, posts_slots i r.0 c posts valid r.2)
posts_slots i b c (Settled worker k ∷ posts) valid e =
    let r = bind_some (λ next. book_after i next posts) (step i b (Settled worker k)) c e in
    (tt, posts_slots i r.0 c posts valid r.2)

pub has_text : (i : Problem) (posts : List Post) (b : Book) → IsValid i → length posts < 2 ^ 32 → length b.best < 2 ^ 32 → book_of i posts ≡ Some b → Agrees (cert_of posts b)
has_text i posts b valid few rows folds = record {
  status = said_agrees b;
  few = rows;
  few_lines = let l : length (lines_of posts) ≤ length posts = lines_few posts in omega arith;
  slots = All-from_recursion HasSlot (lines_of posts) (posts_slots i (opening i) b posts valid folds);
}
