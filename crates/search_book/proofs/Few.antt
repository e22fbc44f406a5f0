-- A journal of a small file has few posts.
use Rattle.search_book.proofs.Common.{◌≡◌, ℕ, zero, suc, set, Some, sym, ◌∙◌, ◌+◌, ◌*◌, ◌≤◌, List, [], ◌∷◌, ◌++◌, length, refl, ap, arith, length-append, AllZip, flat_map, flat_map-append, gated, Five, Post, Plan, Priced, Split, Settled, breaks_bytes, class_bytes, post_bytes, prices_bytes, row_bytes, rows_bytes, spelling, Spells, u16_bytes, u32_bytes, u64_bytes, Class, Problem, Book, book_after, book_of, divided, is_better, opening, priced, settled, step, at_node_some, bind_some, cond_some, bytes_used, joined, SpellPosts}

u16_size : (n : ℕ) → length (u16_bytes n) ≡ 2
unfolding u16_bytes
u16_size n = refl

u32_size : (n : ℕ) → length (u32_bytes n) ≡ 4
unfolding u32_bytes
u32_size n = refl

-- a post has at least four bytes
post_size : (post : Post) → 4 ≤ length (post_bytes Five post)
post_size (Plan worker rows cost) = omega (arith, u16_size worker, u32_size (length rows), length-append (u16_bytes worker ++ u64_bytes cost) (rows_bytes rows), length-append (u16_bytes worker) (u64_bytes cost), length-append (u32_bytes (length rows)) (flat_map row_bytes rows))
post_size (Priced worker node prices) = omega (arith, u16_size worker, u32_size node, length-append (u16_bytes worker ++ u32_bytes node) (prices_bytes Five prices), length-append (u16_bytes worker) (u32_bytes node))
post_size (Split worker node class m) = omega (arith, u16_size worker, u32_size node, length-append ((u16_bytes worker ++ u32_bytes node) ++ class_bytes class) (u16_bytes m), length-append (u16_bytes worker ++ u32_bytes node) (class_bytes class), length-append (u16_bytes worker) (u32_bytes node))
post_size (Settled worker node) = omega (arith, u16_size worker, u32_size node, length-append (u16_bytes worker) (u32_bytes node))

split_size : (worker node : ℕ) (class : Class) (m : ℕ) → 12 ≤ length (post_bytes Five (Split worker node class m))
split_size worker node class m = omega (arith, u16_size worker, u32_size node, u16_size class.shift, u16_size m, length-append ((u16_bytes worker ++ u32_bytes node) ++ class_bytes class) (u16_bytes m), length-append (u16_bytes worker ++ u32_bytes node) (class_bytes class), length-append (u16_bytes worker) (u32_bytes node), length-append (u16_bytes class.shift ++ class.day ∷ []) (breaks_bytes class.prefix), length-append (u16_bytes class.shift) (class.day ∷ []))

posts_size : (posts : List Post) → 4 * length posts ≤ length (flat_map (post_bytes Five) posts)
posts_size [] = omega arith
posts_size (p ∷ posts) = omega (arith, post_size p, posts_size posts, length-append (post_bytes Five p) (flat_map (post_bytes Five) posts))

batch_size : (bytes : List ℕ) (posts : List Post) → Spells bytes posts → 4 * length posts ≤ length bytes
batch_size bytes posts s =
    let size : length bytes ≡ length (spelling posts) = ap length s.is in
    omega (arith, posts_size posts, length-append (u16_bytes (length posts)) (flat_map (post_bytes Five) posts))

batches_size : (records : List (List ℕ)) (batches : List (List Post)) → AllZip Spells records batches → 4 * length (joined batches) ≤ length (gated records)
batches_size [] [] z = omega arith
batches_size [] (b ∷ batches) z = absurd z
batches_size (r ∷ records) [] z = absurd z
batches_size (r ∷ records) (b ∷ batches) z =
    omega (arith, batch_size r b z.0, batches_size records batches z.1, length-append b (joined batches), length-append r (gated records))

pub few_posts : (head : List ℕ) (records : List (List ℕ)) (posts : List Post) → SpellPosts records posts → 4 * length posts + 13 ≤ bytes_used head records
unfolding bytes_used
few_posts head records posts s =
    let size : length (joined s.batches) ≡ length posts = ap length s.all in
    omega (arith, batches_size records s.batches s.spelled, length-append head (gated records))

-- ---- a split makes two nodes, and its post has more than twelve bytes
length_set : {X : Type 0} (xs : List X) (k : ℕ) (x : X) → length (set xs k x) ≡ length xs
length_set [] k x = refl
length_set (y ∷ xs) zero x = refl
length_set (y ∷ xs) (suc k) x = ap suc (length_set xs k x)

step_nodes : (i : Problem) (b c : Book) (post : Post) → step i b post ≡ Some c → 6 * length c.nodes ≤ 6 * length b.nodes + length (post_bytes Five post)
step_nodes i b c (Plan worker rows n) e =
    let r = cond_some (is_better i b rows n) (record b { best = rows; cost = n }) c e in
    let same : length b.nodes ≡ length c.nodes = ap (λ (x : Book). length x.nodes) r.1 in
    omega arith
step_nodes i b c (Priced worker k prices) e =
    let r = at_node_some b c k (priced i b k prices) e in
    let q = cond_some _ _ _ r.3 in
    let same : length r.2 ≡ length b.nodes = ap length (sym q.1) ∙ length_set b.nodes k _ in
    let nodes : length r.2 ≡ length c.nodes = ap (λ (x : Book). length x.nodes) r.4 in
    omega arith
step_nodes i b c (Split worker k class m) e =
    let r = at_node_some b c k (divided i b k class m) e in
    let q = cond_some _ _ _ r.3 in
    let same : length r.2 ≡ length b.nodes + 2 = ap length (sym q.1) ∙ length-append (set b.nodes k _) _ ∙ ap (λ (n : ℕ). n + 2) (length_set b.nodes k _) in
    let nodes : length r.2 ≡ length c.nodes = ap (λ (x : Book). length x.nodes) r.4 in
    omega (arith, split_size worker k class m)
step_nodes i b c (Settled worker k) e =
    let r = at_node_some b c k (settled i b k) e in
    let q = cond_some _ _ _ r.3 in
    let same : length r.2 ≡ length b.nodes = ap length (sym q.1) ∙ length_set b.nodes k _ in
    let nodes : length r.2 ≡ length c.nodes = ap (λ (x : Book). length x.nodes) r.4 in
    omega arith

after_nodes : (i : Problem) (b c : Book) (posts : List Post) → book_after i b posts ≡ Some c → 6 * length c.nodes ≤ 6 * length b.nodes + length (flat_map (post_bytes Five) posts)
after_nodes i b c [] e = let same : length b.nodes ≡ length c.nodes = let s : b ≡ c = cc (e) in ap (λ (x : Book). length x.nodes) s in omega arith
after_nodes i b c (p ∷ posts) e =
    let r = bind_some (λ (next : Book). book_after i next posts) (step i b p) c e in
    omega (arith, step_nodes i b r.0 p r.1, after_nodes i r.0 c posts r.2, length-append (post_bytes Five p) (flat_map (post_bytes Five) posts))

-- the posts of records have no more bytes than the records
batches_bytes : (records : List (List ℕ)) (batches : List (List Post)) → AllZip Spells records batches → length (flat_map (post_bytes Five) (joined batches)) ≤ length (gated records)
batches_bytes [] [] z = omega arith
batches_bytes [] (b ∷ batches) z = absurd z
batches_bytes (r ∷ records) [] z = absurd z
batches_bytes (r ∷ records) (b ∷ batches) z =
    let size : length r ≡ length (spelling b) = ap length z.0.is in
    let here : length (flat_map (post_bytes Five) b) ≤ length r = omega (arith, length-append (u16_bytes (length b)) (flat_map (post_bytes Five) b)) in
    let parts : length (flat_map (post_bytes Five) (b ++ joined batches)) ≡ length (flat_map (post_bytes Five) b) + length (flat_map (post_bytes Five) (joined batches)) =
    ap length (flat_map-append (post_bytes Five) b (joined batches)) ∙ length-append (flat_map (post_bytes Five) b) (flat_map (post_bytes Five) (joined batches)) in
    omega (arith, here, parts, batches_bytes records batches z.1, length-append r (gated records))

-- a journal of a small file has few nodes
pub few_nodes : (i : Problem) (head : List ℕ) (records : List (List ℕ)) (posts : List Post) (b : Book) → SpellPosts records posts → book_of i posts ≡ Some b → 6 * length b.nodes ≤ bytes_used head records
unfolding bytes_used
few_nodes i head records posts b s e =
    let size : length (flat_map (post_bytes Five) (joined s.batches)) ≡ length (flat_map (post_bytes Five) posts) = ap (λ (l : List Post). length (flat_map (post_bytes Five) l)) s.all in
    omega (arith, after_nodes i (opening i) b posts e, batches_bytes records s.batches s.spelled, size, length-append head (gated records))
