-- The nodes that a tree of cuts keeps: one by one, and after a further division.
use Rattle.recovery.proofs.Common.{◌≡◌, ◌⊎◌, inl, inr, ℕ, zero, suc, ◌+◌, ◌-◌, ◌*◌, ◌/◌, ◌%◌, ◌<◌, ◌≤◌, Bool, true, false, cond, ◌&&◌, ◌==◌, nat_lt, List, [], ◌∷◌, ◌++◌, length, fold, reverse, refl, sym, ap, ◌∙◌, subst, append_assoc, arith, Option, Some, slice_get, option_map_or, eqb-true, eqb-false, lt-ltb, length-append, append-nil, fold-append, Class, Cut, Division, cut_of, nodes_in, AreOlder, cuts_at, divided, with_parts}

-- ---- lists

pub get_front : {X : Type 0} (xs ys : List X) (k : ℕ) → k < length xs → slice_get (xs ++ ys) k ≡ slice_get xs k
get_front [] ys k h = absurd (omega (arith, h))
get_front (x ∷ xs) ys zero h = refl
get_front (x ∷ xs) ys (suc k) h = get_front xs ys k (omega (arith, h))

pub get_seam : {X : Type 0} (xs ys : List X) (y : X) → slice_get (xs ++ y ∷ ys) (length xs) ≡ Some y
get_seam [] ys y = refl
get_seam (x ∷ xs) ys y = get_seam xs ys y

pub get_next : {X : Type 0} (xs ys : List X) (y z : X) → slice_get (xs ++ y ∷ z ∷ ys) (suc (length xs)) ≡ Some z
get_next [] ys y z = refl
get_next (x ∷ xs) ys y z = get_next xs ys y z

-- ---- the nodes that divisions make

abbrev pub more : List (List Cut) → Division → List (List Cut)
more nodes d = with_parts nodes d.node d.class d.m

abbrev pub parts_of : List (List Cut) → Division → List (List Cut)
parts_of nodes d = (cuts_at nodes d.node ++ cut_of d true ∷ []) ∷ (cuts_at nodes d.node ++ cut_of d false ∷ []) ∷ []

pub grown : (base : List (List Cut)) (ds : List Division) → (r : List (List Cut)) × (fold more base ds ≡ base ++ r)
grown base [] = ([], sym (append-nil base))
grown base (d ∷ ds) = let g = grown (more base d) ds in (parts_of base d ++ g.0, g.1 ∙ append_assoc base (parts_of base d) g.0)

front_kept : (base : List (List Cut)) (ds : List Division) (k : ℕ) → k < length base → slice_get (fold more base ds) k ≡ slice_get base k
front_kept base ds k h =
    let g = grown base ds in
    ap (λ (l : List (List Cut)). slice_get l k) g.1 ∙ get_front base g.0 k h

pub count_from : (base : List (List Cut)) (ds : List Division) → length (fold more base ds) ≡ length base + 2 * length ds
count_from base [] = omega arith
count_from base (d ∷ ds) =
    let rest = count_from (more base d) ds in
    omega (arith, rest, length-append base (parts_of base d))

pub count_is : (ds : List Division) → length (nodes_in ds) ≡ 1 + 2 * length ds
count_is ds = count_from ([] ∷ []) ds

-- the two parts of a division of a node that stands before them
record AreParts (base : List (List Cut)) (ds : List Division) (j : ℕ) (d : Division) : Type 0 where
  first : slice_get (fold more base ds) (length base + 2 * j) ≡ Some (cuts_at (fold more base ds) d.node ++ cut_of d true ∷ [])
  second : slice_get (fold more base ds) (suc (length base + 2 * j)) ≡ Some (cuts_at (fold more base ds) d.node ++ cut_of d false ∷ [])

here : (base : List (List Cut)) (ds : List Division) (d : Division) → d.node < length base → AreParts base (d ∷ ds) zero d
here base ds d h =
    let len : length (more base d) ≡ length base + 2 = length-append base (parts_of base d) in
    let at : length base + 2 * zero ≡ length base = omega arith in
    let same : cuts_at base d.node ≡ cuts_at (fold more (more base d) ds) d.node =
    ap (λ (o : Option (List Cut)). option_map_or (λ cuts. cuts) o [])
    (sym (get_front base (parts_of base d) d.node h) ∙ sym (front_kept (more base d) ds d.node (omega (arith, len, h)))) in
    record {
      first =
          ap (λ k. slice_get (fold more (more base d) ds) k) at
          ∙ front_kept (more base d) ds (length base) (omega (arith, len))
          ∙ get_seam base ((cuts_at base d.node ++ cut_of d false ∷ []) ∷ []) (cuts_at base d.node ++ cut_of d true ∷ [])
          ∙ ap (λ (cuts : List Cut). Some (cuts ++ cut_of d true ∷ [])) same;
      second =
          ap (λ k. slice_get (fold more (more base d) ds) (suc k)) at
          ∙ front_kept (more base d) ds (suc (length base)) (omega (arith, len))
          ∙ get_next base [] (cuts_at base d.node ++ cut_of d true ∷ []) (cuts_at base d.node ++ cut_of d false ∷ [])
          ∙ ap (λ (cuts : List Cut). Some (cuts ++ cut_of d false ∷ [])) same;
    }

parts_from : (base : List (List Cut)) (ds : List Division) (j : ℕ) (d : Division) → slice_get ds j ≡ Some d → d.node < length base + 2 * j → AreParts base ds j d
parts_from base [] j d e h = absurd (cc)
parts_from base (x ∷ ds) zero d e h =
    let same : d ≡ x = cc in
    subst (λ (y : Division). AreParts base (x ∷ ds) zero y) (sym same) (here base ds x (subst (λ (y : Division). y.node < length base) same (omega (arith, h))))
parts_from base (x ∷ ds) (suc j) d e h =
    let len : length (more base x) ≡ length base + 2 = length-append base (parts_of base x) in
    let rest = parts_from (more base x) ds j d e (omega (arith, len, h)) in
    let at : length (more base x) + 2 * j ≡ length base + 2 * suc j = omega (arith, len) in
    record {
      first = ap (λ k. slice_get (fold more (more base x) ds) k) (sym at) ∙ rest.first;
      second = ap (λ k. slice_get (fold more (more base x) ds) (suc k)) (sym at) ∙ rest.second;
    }

-- the cuts of a node that isn't the root: those of the node of whose division it is a part, and that part's cut
pub part_is : (ds : List Division) (k : ℕ) (d : Division) → AreOlder ds → 0 < k → slice_get ds ((k - 1) / 2) ≡ Some d → k % 2 ≡ 1 → cuts_at (nodes_in ds) k ≡ cuts_at (nodes_in ds) d.node ++ cut_of d true ∷ []
part_is ds k d older h e odd =
    let j = (k - 1) / 2 in
    let within = (older j d e).0 in
    let p = parts_from ([] ∷ []) ds j d e (omega (arith, within)) in
    let at : 1 + 2 * j ≡ k = omega (arith, h, odd) in
    ap (λ (o : Option (List Cut)). option_map_or (λ cuts. cuts) o []) (ap (λ n. slice_get (nodes_in ds) n) (sym at) ∙ p.first)

pub other_is : (ds : List Division) (k : ℕ) (d : Division) → AreOlder ds → 0 < k → slice_get ds ((k - 1) / 2) ≡ Some d → k % 2 ≡ 0 → cuts_at (nodes_in ds) k ≡ cuts_at (nodes_in ds) d.node ++ cut_of d false ∷ []
other_is ds k d older h e even =
    let j = (k - 1) / 2 in
    let within = (older j d e).0 in
    let p = parts_from ([] ∷ []) ds j d e (omega (arith, within)) in
    let at : suc (1 + 2 * j) ≡ k = omega (arith, h, even) in
    ap (λ (o : Option (List Cut)). option_map_or (λ cuts. cuts) o []) (ap (λ n. slice_get (nodes_in ds) n) (sym at) ∙ p.second)

-- ---- a further division

pub more_is : (ds : List Division) (d : Division) → nodes_in (ds ++ d ∷ []) ≡ more (nodes_in ds) d
more_is ds d = fold-append more ([] ∷ []) ds (d ∷ [])

pub get_more : {X : Type 0} (xs : List X) (y : X) (k : ℕ) (x : X) → slice_get (xs ++ y ∷ []) k ≡ Some x → (slice_get xs k ≡ Some x) ⊎ ((k ≡ length xs) × (x ≡ y))
get_more [] y zero x e = inr (refl, cc)
get_more [] y (suc k) x e = absurd (cc)
get_more (z ∷ xs) y zero x e = inl e
get_more (z ∷ xs) y (suc k) x e = elim (get_more xs y k x e) [
  | inl a ↦ inl a
  | inr b ↦ inr (ap suc b.0, b.1)
]

pub older_more : (ds : List Division) (d : Division) → AreOlder ds → d.node ≤ 2 * length ds → d.m < 65535 → AreOlder (ds ++ d ∷ [])
older_more ds d older h small j x e = elim (get_more ds d j x e) [
  | inl a ↦ older j x a
  | inr b ↦ (
    subst (λ (y : Division). y.node ≤ 2 * j) (sym b.1) (subst (λ n. d.node ≤ 2 * n) (sym b.0) h),
    subst (λ (y : Division). y.m < 65535) (sym b.1) small,
  )
]

-- ---- what is known of a node of a tree

-- the root has no cut
pub root_is : (ds : List Division) → cuts_at (nodes_in ds) 0 ≡ []
root_is ds = ap (λ (o : Option (List Cut)). option_map_or (λ cuts. cuts) o []) (front_kept ([] ∷ []) ds 0 (omega arith))

pub whole_cuts : (nodes : List (List Cut)) (k at : ℕ) (list : List Cut) → cuts_at nodes 0 ≡ [] → at ≡ 0 → cuts_at nodes at ++ reverse list ≡ cuts_at nodes k → reverse list ≡ cuts_at nodes k
whole_cuts nodes k at list root none e = sym (ap (λ (l : List Cut). l ++ reverse list) (ap (λ n. cuts_at nodes n) none ∙ root)) ∙ e

-- the division of which a node is a part
pub place_there : (ds : List Division) (k : ℕ) → 0 < k → k < length (nodes_in ds) → (k - 1) / 2 < length ds
place_there ds k some there = omega (arith, some, there, count_is ds)

-- the node that is divided stands before its part, and the part has one more cut
pub above_is : (ds : List Division) (k : ℕ) (d : Division) (first : Bool) (cut : Cut) → AreOlder ds → 0 < k → slice_get ds ((k - 1) / 2) ≡ Some d → first ≡ (k % 2 == 1) → cut ≡ cut_of d first
    → (d.node < k) × (cuts_at (nodes_in ds) k ≡ cuts_at (nodes_in ds) d.node ++ cut ∷ [])
above_is ds k d true cut older some e odd is = (
  (let within = (older ((k - 1) / 2) d e).0 in omega (arith, within, some)),
  part_is ds k d older some e (eqb-true (k % 2) 1 (sym odd)) ∙ ap (λ (c : Cut). cuts_at (nodes_in ds) d.node ++ c ∷ []) (sym is),
)
above_is ds k d false cut older some e odd is = (
  (let within = (older ((k - 1) / 2) d e).0 in omega (arith, within, some)),
  other_is ds k d older some e (let not_one = eqb-false (k % 2) 1 (sym odd) in omega (arith, not_one)) ∙ ap (λ (c : Cut). cuts_at (nodes_in ds) d.node ++ c ∷ []) (sym is),
)

-- ---- a node that is split

pub there_divided : (nodes : List (List Cut)) (k : ℕ) (class : Class) (m : ℕ) → k < length nodes → m < 65535 → divided nodes k class m ≡ with_parts nodes k class m
there_divided nodes k class m h small =
    ap (λ b. cond (b && nat_lt m 65535) (with_parts nodes k class m) nodes) (lt-ltb k (length nodes) h)
    ∙ ap (λ b. cond (true && b) (with_parts nodes k class m) nodes) (lt-ltb m 65535 small)

pub older_after : (ds more : List Division) (d : Division) → more ≡ ds ++ d ∷ [] → d.node < length (nodes_in ds) → d.m < 65535 → AreOlder ds → AreOlder more
older_after ds more d e there small older = subst (λ (l : List Division). AreOlder l) (sym e) (older_more ds d older (omega (arith, there, count_is ds)) small)

pub divided_is : (ds more : List Division) (d : Division) → more ≡ ds ++ d ∷ [] → d.node < length (nodes_in ds) → d.m < 65535 → nodes_in more ≡ divided (nodes_in ds) d.node d.class d.m
divided_is ds more d e there small = ap (λ (l : List Division). nodes_in l) e ∙ more_is ds d ∙ sym (there_divided (nodes_in ds) d.node d.class d.m there small)
