-- The nodes that are kept: one by one, after a write, and after further ones.
use Rattle.cert_check.proofs.Common.{max, not, ◌≡◌, ◌⊎◌, inl, inr, ℕ, zero, suc, ◌+◌, ◌<◌, ◌≤◌, min, cond, true, false, List, [], ◌∷◌, ◌++◌, length, set, fold, refl, sym, ap, ◌∙◌, subst, append_assoc, arith, Option, Some, None, slice_get, IsSomeAnd, option_map, option_map_or, length-append, set-append_left, fold-append, slice_get_within, slice_get_past, set-append_seam, TOP, is_some_and_at, is_some_and_from, Class, Cut, Node, child, with_floor, with_split, least_floor, KeptNode, Part, cuts_at, cuts_with, node_with, nodes_in, ArePartsOlder, IsCutAbove}
use Rattle.std.proofs.lemmas.List.{append-nil}
use Rattle.head_splits.specs.declared.Side.TheVariants.{AtMost, AtLeast}

-- the nodes after one more
abbrev more : List Node → KeptNode → List Node
more nodes n = nodes ++ node_with nodes n ∷ []

-- the node above is one of so many
abbrev IsWithin : Option Part → ℕ → Type 0
IsWithin part n = (p : Part) → part ≡ Some p → p.above < n

-- ---- lists

front_get : {X : Type 0} (xs ys : List X) (k : ℕ) → k < length xs → slice_get (xs ++ ys) k ≡ slice_get xs k
front_get [] ys k h = absurd (omega arith)
front_get (x ∷ xs) ys zero h = refl
front_get (x ∷ xs) ys (suc k) h = front_get xs ys k (omega arith)

last_get : {X : Type 0} (xs : List X) (x : X) (ys : List X) → slice_get (xs ++ x ∷ ys) (length xs) ≡ Some x
last_get [] x ys = refl
last_get (z ∷ xs) x ys = last_get xs x ys

-- what stands behind a write, and behind an append
get_set : {X : Type 0} (xs : List X) (k : ℕ) (y : X) (j : ℕ) (x : X) → slice_get (set xs k y) j ≡ Some x → ((y ≡ x) × (j ≡ k)) ⊎ (slice_get xs j ≡ Some x)
get_set [] k y j x e = inr e
get_set (z ∷ xs) zero y zero x e = let same : y ≡ x = cc in inl (same, refl)
get_set (z ∷ xs) zero y (suc j) x e = inr e
get_set (z ∷ xs) (suc k) y zero x e = inr e
get_set (z ∷ xs) (suc k) y (suc j) x e = elim (get_set xs k y j x e) [ inl p ↦ inl (p.0, ap suc p.1) | inr q ↦ inr q ]

get_more : {X : Type 0} (xs : List X) (y : X) (j : ℕ) (x : X) → slice_get (xs ++ y ∷ []) j ≡ Some x → ((y ≡ x) × (j ≡ length xs)) ⊎ (slice_get xs j ≡ Some x)
get_more [] y zero x e = let same : y ≡ x = cc in inl (same, refl)
get_more [] y (suc j) x e = absurd (cc)
get_more (z ∷ xs) y zero x e = inr e
get_more (z ∷ xs) y (suc j) x e = elim (get_more xs y j x e) [ inl p ↦ inl (p.0, ap suc p.1) | inr q ↦ inr q ]

-- ---- cuts

cuts_front : (xs ys : List Node) (k : ℕ) → k < length xs → cuts_at (xs ++ ys) k ≡ cuts_at xs k
cuts_front xs ys k h = ap (λ (o : Option Node). option_map_or (λ (n : Node). n.cuts) o []) (front_get xs ys k h)

with_front : (xs ys : List Node) (part : Option Part) → IsWithin part (length xs) → cuts_with (xs ++ ys) part ≡ cuts_with xs part
with_front xs ys None h = refl
with_front xs ys (Some p) h = ap (λ (cuts : List Cut). cuts ++ p.cut ∷ []) (cuts_front xs ys p.above (h p refl))

cuts_set : (xs : List Node) (k : ℕ) (n y : Node) → slice_get xs k ≡ Some n → y.cuts ≡ n.cuts → (x : ℕ) → cuts_at (set xs k y) x ≡ cuts_at xs x
cuts_set [] k n y e c x = refl
cuts_set (z ∷ xs) zero n y e c zero = let same : z ≡ n = cc in c ∙ ap (λ (m : Node). m.cuts) (sym same)
cuts_set (z ∷ xs) zero n y e c (suc x) = refl
cuts_set (z ∷ xs) (suc k) n y e c zero = refl
cuts_set (z ∷ xs) (suc k) n y e c (suc x) = cuts_set xs k n y e c x

with_set : (xs : List Node) (k : ℕ) (n y : Node) → slice_get xs k ≡ Some n → y.cuts ≡ n.cuts → (part : Option Part) → cuts_with (set xs k y) part ≡ cuts_with xs part
with_set xs k n y e c None = refl
with_set xs k n y e c (Some p) = ap (λ (cuts : List Cut). cuts ++ p.cut ∷ []) (cuts_set xs k n y e c p.above)

same_cuts : (n : KeptNode) (one other : List Cut) → one ≡ other → ◌≡◌ {A = Node} (record { cuts = one; floor = n.floor; split = n.split }) (record { cuts = other; floor = n.floor; split = n.split })
same_cuts n one other e = ap (λ (cuts : List Cut). record { cuts = cuts; floor = n.floor; split = n.split }) e

-- ---- the nodes one by one

grown : (base : List Node) (kept : List KeptNode) → (rest : List Node) × (fold more base kept ≡ base ++ rest) × (length rest ≡ length kept)
grown base [] = ([], sym (append-nil base), refl)
grown base (n ∷ kept) =
    let r = grown (more base n) kept in
    (node_with base n ∷ r.0, r.1 ∙ append_assoc base (node_with base n ∷ []) r.0, ap suc r.2)

pub count_is : (kept : List KeptNode) → length (nodes_in kept) ≡ length kept
count_is kept = let r = grown [] kept in ap length r.1 ∙ r.2

get_is : (base : List Node) (kept : List KeptNode) (k : ℕ) (n : KeptNode) → slice_get kept k ≡ Some n → IsWithin n.part (length base + k)
    → slice_get (fold more base kept) (length base + k) ≡ Some (node_with (fold more base kept) n)
get_is base [] k n e h = absurd (cc)
get_is base (x ∷ kept) zero n e h =
    let same : x ≡ n = cc in
    let r = grown (more base x) kept in
    let ys = node_with base x ∷ r.0 in
    let all : fold more (more base x) kept ≡ base ++ ys = r.1 ∙ append_assoc base (node_with base x ∷ []) r.0 in
    let at : length base + 0 ≡ length base = omega arith in
    let cuts : cuts_with (base ++ ys) n.part ≡ cuts_with base n.part = with_front base ys n.part (λ p q. let less = h p q in omega arith) in
    subst (λ (nodes : List Node). slice_get nodes (length base + 0) ≡ Some (node_with nodes n)) (sym all)
    (ap (slice_get (base ++ ys)) at ∙ last_get base (node_with base x) r.0 ∙ ap (λ (m : KeptNode). Some (node_with base m)) same ∙ ap Some (same_cuts n (cuts_with base n.part) (cuts_with (base ++ ys) n.part) (sym cuts)))
get_is base (x ∷ kept) (suc k) n e h =
    let len : length (more base x) ≡ length base + 1 = length-append base (node_with base x ∷ []) in
    let at : length (more base x) + k ≡ length base + suc k = omega (arith, len) in
    subst (λ j. slice_get (fold more (more base x) kept) j ≡ Some (node_with (fold more (more base x) kept) n)) at
    (get_is (more base x) kept k n e (λ p q. subst (λ j. p.above < j) (sym at) (h p q)))

pub node_is : (kept : List KeptNode) (k : ℕ) (n : KeptNode) → ArePartsOlder kept → slice_get kept k ≡ Some n → slice_get (nodes_in kept) k ≡ Some (node_with (nodes_in kept) n)
node_is kept k n older e =
    let at : 0 + k ≡ k = omega arith in
    subst (λ j. slice_get (nodes_in kept) j ≡ Some (node_with (nodes_in kept) n)) at (get_is [] kept k n e (λ p q. subst (λ j. p.above < j) (sym at) (older k n p e q)))

-- the cut of a node beside those of the node above
above_with : (kept : List KeptNode) (k : ℕ) (n : KeptNode) (part : Option Part) → ArePartsOlder kept → slice_get kept k ≡ Some n → n.part ≡ part → IsCutAbove (nodes_in kept) k (option_map (λ (p : Part). (p.above, p.cut)) part)
above_with kept k n None older e q =
    ap (λ (o : Option Node). option_map_or (λ (n : Node). n.cuts) o []) (node_is kept k n older e) ∙ ap (cuts_with (nodes_in kept)) q
above_with kept k n (Some p) older e q =
    (older k n p e q, ap (λ (o : Option Node). option_map_or (λ (n : Node). n.cuts) o []) (node_is kept k n older e) ∙ ap (cuts_with (nodes_in kept)) q)

pub above_is : (kept : List KeptNode) (nodes : List Node) (k : ℕ) (n : KeptNode) (above : Option (ℕ × Cut)) → ArePartsOlder kept → nodes_in kept ≡ nodes → slice_get kept k ≡ Some n
    → above ≡ option_map (λ (p : Part). (p.above, p.cut)) n.part → IsCutAbove nodes k above
above_is kept nodes k n above older v e q =
    subst (λ (ns : List Node). IsCutAbove ns k above) v (subst (IsCutAbove (nodes_in kept) k) (sym q) (above_with kept k n n.part older e refl))

pub same_some : {X : Type 0} (x y : X) → Some x ≡ Some y → x ≡ y
same_some x y e = cc

-- ---- a write

fold_set : (xs : List Node) (k : ℕ) (n y : Node) (kept : List KeptNode) → slice_get xs k ≡ Some n → y.cuts ≡ n.cuts → fold more (set xs k y) kept ≡ set (fold more xs kept) k y
fold_set xs k n y [] e c = refl
fold_set xs k n y (x ∷ kept) e c =
    let within = slice_get_within xs k n e in
    let one : more (set xs k y) x ≡ set (more xs x) k y =
    ap (λ (m : Node). set xs k y ++ m ∷ []) (same_cuts x (cuts_with (set xs k y) x.part) (cuts_with xs x.part) (with_set xs k n y e c x.part))
    ∙ sym (set-append_left xs (node_with xs x ∷ []) k y within) in
    ap (λ (nodes : List Node). fold more nodes kept) one ∙ fold_set (more xs x) k n y kept (front_get xs (node_with xs x ∷ []) k within ∙ e) c

set_from : (base : List Node) (kept : List KeptNode) (k : ℕ) (x y : KeptNode) (n : Node) → slice_get kept k ≡ Some x → y.part ≡ x.part → slice_get (fold more base kept) (length base + k) ≡ Some n
    → fold more base (set kept k y) ≡ set (fold more base kept) (length base + k) (record n { floor = y.floor; split = y.split })
set_from base [] k x y n e q g = absurd (cc)
set_from base (z ∷ kept) zero x y n e q g =
    let same : z ≡ x = cc in
    let r = grown (more base z) kept in
    let at : length base + 0 ≡ length base = omega arith in
    let all : fold more (more base z) kept ≡ base ++ node_with base z ∷ r.0 = r.1 ∙ append_assoc base (node_with base z ∷ []) r.0 in
    let here : slice_get (fold more (more base z) kept) (length base + 0) ≡ Some (node_with base z) =
    ap (λ (nodes : List Node). slice_get nodes (length base + 0)) all ∙ ap (slice_get (base ++ node_with base z ∷ r.0)) at ∙ last_get base (node_with base z) r.0 in
    let is : Some (node_with base z) ≡ Some n = sym here ∙ g in
    let node : node_with base z ≡ n = cc in
    let parts : cuts_with base y.part ≡ cuts_with base z.part = ap (cuts_with base) (q ∙ ap (λ (m : KeptNode). m.part) (sym same)) in
    let cuts : cuts_with base y.part ≡ n.cuts = parts ∙ ap (λ (m : Node). m.cuts) node in
    ap (λ (nodes : List Node). fold more nodes kept) (sym (set-append_seam base (node_with base z) [] (node_with base y)))
    ∙ fold_set (more base z) (length base) (node_with base z) (node_with base y) kept (last_get base (node_with base z) []) parts
    ∙ ap (λ j. set (fold more (more base z) kept) j (node_with base y)) (sym at)
    ∙ ap (set (fold more (more base z) kept) (length base + 0)) (same_cuts y (cuts_with base y.part) n.cuts cuts)
set_from base (z ∷ kept) (suc k) x y n e q g =
    let len : length (more base z) ≡ length base + 1 = length-append base (node_with base z ∷ []) in
    let at : length (more base z) + k ≡ length base + suc k = omega (arith, len) in
    let there : slice_get (fold more (more base z) kept) (length (more base z) + k) ≡ Some n = ap (slice_get (fold more (more base z) kept)) at ∙ g in
    set_from (more base z) kept k x y n e q there ∙ ap (λ j. set (fold more (more base z) kept) j (record n { floor = y.floor; split = y.split })) at

pub set_is : (kept : List KeptNode) (k : ℕ) (x y : KeptNode) (n : Node) → slice_get kept k ≡ Some x → y.part ≡ x.part → slice_get (nodes_in kept) k ≡ Some n
    → nodes_in (set kept k y) ≡ set (nodes_in kept) k (record n { floor = y.floor; split = y.split })
set_is kept k x y n e q g =
    let at : 0 + k ≡ k = omega arith in
    subst (λ j. nodes_in (set kept k y) ≡ set (nodes_in kept) j (record n { floor = y.floor; split = y.split })) at (set_from [] kept k x y n e q (ap (slice_get (nodes_in kept)) at ∙ g))

pub older_set : (kept : List KeptNode) (k : ℕ) (x y : KeptNode) → ArePartsOlder kept → slice_get kept k ≡ Some x → y.part ≡ x.part → ArePartsOlder (set kept k y)
older_set kept k x y older e q j n p f r =
    elim (get_set kept k y j n f) [
      | inl s ↦ subst (λ i. p.above < i) (sym s.1) (older k x p e (sym q ∙ ap (λ (m : KeptNode). m.part) s.0 ∙ r))
      | inr there ↦ older j n p there r
    ]

pub within_kept : (kept : List KeptNode) (nodes : List Node) (k n : ℕ) → nodes_in kept ≡ nodes → n ≡ length kept → k < length nodes → k < n
within_kept kept nodes k n e len h =
    let a = count_is kept in
    let b : length (nodes_in kept) ≡ length nodes = ap length e in
    omega (arith, a, b, len, h)

pub not_within : (kept : List KeptNode) (nodes : List Node) (k n : ℕ) → nodes_in kept ≡ nodes → n ≡ length kept → n ≤ k → option_map_or (λ (n : Node). not n.split) (slice_get nodes k) false ≡ false
not_within kept nodes k n e len h =
    let a = count_is kept in
    let b : length (nodes_in kept) ≡ length nodes = ap length e in
    ap (λ (o : Option Node). option_map_or (λ (n : Node). not n.split) o false) (slice_get_past nodes k (omega (arith, a, b, len, h)))

-- whether a node is split
pub unsplit_is : (kept : List KeptNode) (nodes : List Node) (k : ℕ) (x : KeptNode) → ArePartsOlder kept → nodes_in kept ≡ nodes → slice_get kept k ≡ Some x → option_map_or (λ (n : Node). not n.split) (slice_get nodes k) false ≡ not x.split
unsplit_is kept nodes k x older e g =
    ap (λ (ns : List Node). option_map_or (λ (n : Node). not n.split) (slice_get ns k) false) (sym e)
    ∙ ap (λ (o : Option Node). option_map_or (λ (n : Node). not n.split) o false) (node_is kept k x older g)

-- a new floor
pub floor_set : (kept : List KeptNode) (nodes : List Node) (k : ℕ) (x : KeptNode) (floor : ℕ) → ArePartsOlder kept → nodes_in kept ≡ nodes → slice_get kept k ≡ Some x
    → IsSomeAnd (slice_get nodes k) (λ (n : Node). nodes_in (set kept k (record { part = x.part; floor = floor; split = x.split })) ≡ with_floor nodes k n floor)
floor_set kept nodes k x floor older e g =
    let y : KeptNode = record { part = x.part; floor = floor; split = x.split } in
    let n = node_with (nodes_in kept) x in
    let at = node_is kept k x older g in
    subst (λ (ns : List Node). IsSomeAnd (slice_get ns k) (λ (n : Node). nodes_in (set kept k y) ≡ with_floor ns k n floor)) e
    (is_some_and_from (slice_get (nodes_in kept) k) (λ (n : Node). nodes_in (set kept k y) ≡ with_floor (nodes_in kept) k n floor) n at (set_is kept k x y n g refl at))

-- a floor that is raised
pub floor_raised : (kept : List KeptNode) (nodes new : List Node) (k : ℕ) (x : KeptNode) (floor greater : ℕ) → ArePartsOlder kept → nodes_in kept ≡ nodes → slice_get kept k ≡ Some x → greater ≡ max x.floor floor
    → IsSomeAnd (slice_get nodes k) (λ (n : Node). new ≡ with_floor nodes k n greater) → IsSomeAnd (slice_get nodes k) (λ (n : Node). new ≡ with_floor nodes k n (max n.floor floor))
floor_raised kept nodes new k x floor greater older e g m s =
    let n = node_with (nodes_in kept) x in
    let at : slice_get nodes k ≡ Some n = ap (λ (ns : List Node). slice_get ns k) (sym e) ∙ node_is kept k x older g in
    let is = is_some_and_at (slice_get nodes k) (λ (n : Node). new ≡ with_floor nodes k n greater) n at s in
    is_some_and_from (slice_get nodes k) (λ (n : Node). new ≡ with_floor nodes k n (max n.floor floor)) n at (is ∙ ap (λ f. with_floor nodes k n f) m)

-- ---- further nodes

more_is : (kept : List KeptNode) (n : KeptNode) → nodes_in (kept ++ n ∷ []) ≡ more (nodes_in kept) n
more_is kept n = fold-append more [] kept (n ∷ [])

older_more : (kept : List KeptNode) (y : KeptNode) → ArePartsOlder kept → IsWithin y.part (length kept) → ArePartsOlder (kept ++ y ∷ [])
older_more kept y older h j n p f r =
    elim (get_more kept y j n f) [
      | inl s ↦ subst (λ i. p.above < i) (sym s.1) (h p (ap (λ (m : KeptNode). m.part) s.0 ∙ r))
      | inr there ↦ older j n p there r
    ]

abbrev pub part_at : ℕ → Cut → ℕ → KeptNode
part_at k cut floor = record { part = Some (record { above = k; cut = cut }); floor = floor; split = false }

part_within : (k : ℕ) (cut : Cut) (n : ℕ) → k < n → IsWithin (Some (record { above = k; cut = cut })) n
part_within k cut n h p e = let same : ◌≡◌ {A = Part} (record { above = k; cut = cut }) p = cc in subst (λ (q : Part). q.above < n) same h

set_within : {X : Type 0} (xs : List X) (k : ℕ) (n y : X) → slice_get xs k ≡ Some n → k < length (set xs k y)
set_within [] k n y e = absurd (cc)
set_within (z ∷ xs) zero n y e = omega arith
set_within (z ∷ xs) (suc k) n y e = let rest = set_within xs k n y e in omega (arith, rest)

-- a split node and its two parts
pub split_is : (kept : List KeptNode) (k : ℕ) (x : KeptNode) (n : Node) (class : Class) (m : ℕ) → slice_get kept k ≡ Some x → slice_get (nodes_in kept) k ≡ Some n → x.floor ≡ n.floor
    → nodes_in ((set kept k (record x { split = true }) ++ part_at k (record { class = class; side = AtMost; m = m }) x.floor ∷ []) ++ part_at k (record { class = class; side = AtLeast; m = m + 1 }) x.floor ∷ [])
    ≡ with_split (nodes_in kept) k n class m
split_is kept k x n class m e g f =
    let a = part_at k (record { class = class; side = AtMost; m = m }) x.floor in
    let b = part_at k (record { class = class; side = AtLeast; m = m + 1 }) x.floor in
    let y : KeptNode = record x { split = true } in
    let s : Node = record n { split = true } in
    let nodes = nodes_in kept in
    let new = set nodes k s in
    let one : nodes_in (set kept k y) ≡ new =
    set_is kept k x y n e refl g ∙ ap (λ floor. set nodes k (record n { floor = floor; split = true })) f in
    let cuts : cuts_at new k ≡ n.cuts = cuts_set nodes k n s g refl k ∙ ap (λ (o : Option Node). option_map_or (λ (n : Node). n.cuts) o []) g in
    let within : k < length new = set_within nodes k n s g in
    let first : node_with new a ≡ child n class AtMost m =
    ap (λ (cuts : List Cut). record { cuts = cuts ++ record { class = class; side = AtMost; m = m } ∷ []; floor = x.floor; split = false }) cuts
    ∙ ap (λ floor. record { cuts = n.cuts ++ record { class = class; side = AtMost; m = m } ∷ []; floor = floor; split = false }) f in
    let second : node_with (new ++ child n class AtMost m ∷ []) b ≡ child n class AtLeast (m + 1) =
    ap (λ (cuts : List Cut). record { cuts = cuts ++ record { class = class; side = AtLeast; m = m + 1 } ∷ []; floor = x.floor; split = false }) (cuts_front new (child n class AtMost m ∷ []) k within ∙ cuts)
    ∙ ap (λ floor. record { cuts = n.cuts ++ record { class = class; side = AtLeast; m = m + 1 } ∷ []; floor = floor; split = false }) f in
    more_is (set kept k y ++ a ∷ []) b
    ∙ ap (λ (xs : List Node). more xs b) (more_is (set kept k y) a ∙ ap (λ (xs : List Node). more xs a) one ∙ ap (λ (c : Node). new ++ c ∷ []) first)
    ∙ ap (λ (c : Node). (new ++ child n class AtMost m ∷ []) ++ c ∷ []) second
    ∙ append_assoc new (child n class AtMost m ∷ []) (child n class AtLeast (m + 1) ∷ [])

-- a node that is split, as it is kept
pub split_kept : (kept last : List KeptNode) (nodes : List Node) (k : ℕ) (x a b : KeptNode) (class : Class) (m floor : ℕ) → ArePartsOlder kept → nodes_in kept ≡ nodes → slice_get kept k ≡ Some x → floor ≡ x.floor
    → a ≡ part_at k (record { class = class; side = AtMost; m = m }) floor → b ≡ part_at k (record { class = class; side = AtLeast; m = m + 1 }) floor
    → last ≡ (set kept k (record { part = x.part; floor = x.floor; split = true }) ++ a ∷ []) ++ b ∷ []
    → ArePartsOlder last × IsSomeAnd (slice_get nodes k) (λ (n : Node). nodes_in last ≡ with_split nodes k n class m)
split_kept kept last nodes k x a b class m floor older v e f p q l =
    let one : Cut = record { class = class; side = AtMost; m = m } in
    let other : Cut = record { class = class; side = AtLeast; m = m + 1 } in
    let y : KeptNode = record { part = x.part; floor = x.floor; split = true } in
    let first : a ≡ part_at k one x.floor = p ∙ ap (part_at k one) f in
    let second : b ≡ part_at k other x.floor = q ∙ ap (part_at k other) f in
    let is : last ≡ (set kept k y ++ part_at k one x.floor ∷ []) ++ part_at k other x.floor ∷ [] =
    l ∙ ap (λ (z : KeptNode). (set kept k y ++ z ∷ []) ++ b ∷ []) first ∙ ap (λ (z : KeptNode). (set kept k y ++ part_at k one x.floor ∷ []) ++ z ∷ []) second in
    let n = node_with (nodes_in kept) x in
    let at = node_is kept k x older e in
    let within : k < length (set kept k y) = set_within kept k x y e in
    let longer : k < length (set kept k y ++ part_at k one x.floor ∷ []) = omega (arith, within, length-append (set kept k y) (part_at k one x.floor ∷ [])) in
    let olds =
    older_more (set kept k y ++ part_at k one x.floor ∷ []) (part_at k other x.floor)
    (older_more (set kept k y) (part_at k one x.floor) (older_set kept k x y older e refl) (part_within k one (length (set kept k y)) within))
    (part_within k other (length (set kept k y ++ part_at k one x.floor ∷ [])) longer) in (
      subst ArePartsOlder (sym is) olds,
      subst (λ (ns : List Node). IsSomeAnd (slice_get ns k) (λ (n : Node). nodes_in last ≡ with_split ns k n class m)) v
          (is_some_and_from (slice_get (nodes_in kept) k) (λ (n : Node). nodes_in last ≡ with_split (nodes_in kept) k n class m) n at (ap nodes_in is ∙ split_is kept k x n class m e at refl)),
    )

-- ---- the least floor

least_from : (f : ℕ) (base : List Node) (kept : List KeptNode) → fold (λ f (n : Node). cond n.split f (min f n.floor)) f (fold more base kept) ≡ fold (λ f (n : KeptNode). cond n.split f (min f n.floor)) (fold (λ f (n : Node). cond n.split f (min f n.floor)) f base) kept
least_from f base [] = refl
least_from f base (n ∷ kept) =
    least_from f (more base n) kept
    ∙ ap (λ z. fold (λ f (n : KeptNode). cond n.split f (min f n.floor)) z kept) (fold-append (λ f (n : Node). cond n.split f (min f n.floor)) f base (node_with base n ∷ []))

pub least_is : (kept : List KeptNode) → least_floor (nodes_in kept) ≡ fold (λ f (n : KeptNode). cond n.split f (min f n.floor)) TOP kept
least_is kept = least_from TOP [] kept
