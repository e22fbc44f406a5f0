-- How many nodes and beginnings there are, each counted once.
use Rattle.pricing.proofs.Common.{◌≡◌, inl, inr, ℕ, suc, ◌+◌, ◌-◌, ◌<◌, ◌≤◌, Bool, true, false, List, [], ◌∷◌, ◌++◌, map, filter, length, take, cond, get_or, refl, sym, ap, ◌∙◌, subst, arith, nat_le, length-append, leb-true, ℤ, arc_value, count_by, IsDistinct, AllByRecursion, false≢true, cond_both, length-map, length-filter, sum_by-take-drop, IsDistinct-head, IsDistinct-tail, Break, Rule, Spot, same_list, end_of_all, spot_of, Has, Has-append_cases, Has-append_left, Has-append_right, from_map, from_filter, same_list_decides, Node, IsGraph, node_at, leads_further, HaveSpotsUpTo, HaveBeginnings, AreStepsUpTo, KeptSearch, OverGraph, ByLayers, AreBeginnings, IsGraphKept, nodes_of}
use Rattle.break_rules.specs.Live.{place_of}
use Rattle.pricing.proofs.Leaving.{place_in}

-- the first elements that pass a test are no more than all that do
pub count_first : {X : Type 0} (p : X → Bool) (i : ℕ) (xs : List X) → count_by p (take i xs) ≤ count_by p xs
count_first p i xs =
    let parts = sum_by-take-drop (λ x. cond (p x) 1 0) xs i in
    omega (arith, parts)

-- no element stands twice
abbrev StandOnce : {X : Type 0} → List X → Type 0
StandOnce [] = Unit {0}
StandOnce (x ∷ xs) = (Has xs x → ⊥) × StandOnce xs

-- a list around one of its elements
around : {X : Type 0} (ys : List X) (x : X) → Has ys x → (front : List X) × (back : List X) × (ys ≡ front ++ x ∷ back)
around [] x m = absurd m
around (y ∷ ys) x m = elim m [
  | inl e ↦ ([], ys, ap (λ z. z ∷ ys) e)
  | inr t ↦ let r = around ys x t in (y ∷ r.0, r.1, ap (λ l. y ∷ l) r.2)
]

-- elements of a list that stand once among themselves are no more than it has
pub no_more : {X : Type 0} (xs ys : List X) → StandOnce xs → ((x : X) → Has xs x → Has ys x) → length xs ≤ length ys
no_more [] ys once each = omega arith
no_more {X} (x ∷ xs) ys once each =
    let a = around ys x (each x (inl refl)) in
    let rest : length xs ≤ length (a.0 ++ a.1) = no_more xs (a.0 ++ a.1) once.1 (λ z m. other a.0 a.1 z m (subst (λ l. Has l z) a.2 (each z (inr m)))) in
    let whole : length ys ≡ length a.0 + length (x ∷ a.1) = ap length a.2 ∙ length-append a.0 (x ∷ a.1) in
    let parts : length (a.0 ++ a.1) ≡ length a.0 + length a.1 = length-append a.0 a.1 in
    omega arith
  where
    other : (front back : List X) (z : X) → Has xs z → Has (front ++ x ∷ back) z → Has (front ++ back) z
    other front back z m h = elim (Has-append_cases front (x ∷ back) z h) [
      | inl f ↦ Has-append_left front back z f
      | inr t ↦ elim t [ inl e ↦ absurd (once.0 (subst (Has xs) (sym e) m)) | inr b ↦ Has-append_right front back z b ]
    ]

-- each element has a greater number than those before it
abbrev Rises : {X : Type 0} → (X → ℕ) → List X → Type 0
Rises f [] = Unit {0}
Rises f (x ∷ xs) = ((y : _) → Has xs y → f x < f y) × Rises f xs

rises_from : {X : Type 0} (f : X → ℕ) (d : X) (xs : List X) → ((j k : ℕ) → j < k → k < length xs → f (get_or xs j d) < f (get_or xs k d)) → Rises f xs
rises_from f d [] h = tt
rises_from f d (x ∷ xs) h = (
  λ y m. let at = place_in xs y d m in subst (λ z. f x < f z) at.2 (h 0 (suc at.0) (omega arith) (omega (arith, at.1))),
  rises_from f d xs (λ j k l m. h (suc j) (suc k) (omega (arith, l)) (omega (arith, m))),
)

rises_filter : {X : Type 0} (f : X → ℕ) (p : X → Bool) (xs : List X) → Rises f xs → Rises f (filter p xs)
rises_filter f p [] r = tt
rises_filter f p (x ∷ xs) r =
    cond_both (p x) (x ∷ filter p xs) (filter p xs) (Rises f)
    (λ t. (λ y m. r.0 y (from_filter p xs y m).0, rises_filter f p xs r.1))
    (λ n. rises_filter f p xs r.1)

once_map : {X Y : Type 0} (g : X → Y) (f : Y → ℕ) (xs : List X) → Rises (λ x. f (g x)) xs → StandOnce (map g xs)
once_map g f [] r = tt
once_map g f (x ∷ xs) r = (
  λ m. let at = from_map g xs (g x) m in let l : f (g x) < f (g at.0) = r.0 at.0 at.1 in let e : f (g at.0) ≡ f (g x) = ap f at.2 in absurd (omega arith),
  once_map g f xs r.1,
)

-- the nodes up to an offset are no more than the spots there
pub nodes_within : (rule : Rule) (len last : ℕ) (nodes : List Node) (spots : List Spot) → IsGraph rule len nodes → HaveSpotsUpTo rule len last spots
    → count_by (λ n. nat_le n.spot.offset last) nodes ≤ length spots
nodes_within rule len last nodes spots graph have =
    let d : Node = node_at [] 0 in
    let low : Node → Bool = λ n. nat_le n.spot.offset last in
    let chosen = filter low nodes in
    let rises : Rises (λ (n : Node). place_of len n.spot) nodes = rises_from (λ (n : Node). place_of len n.spot) d nodes graph.order in
    let once : StandOnce (map (λ (n : Node). n.spot) chosen) = once_map (λ (n : Node). n.spot) (place_of len) chosen (rises_filter (λ (n : Node). place_of len n.spot) low nodes rises) in
    let many : length (map (λ (n : Node). n.spot) chosen) ≡ count_by low nodes = length-map chosen (λ (n : Node). n.spot) ∙ length-filter low nodes in
    let few : length (map (λ (n : Node). n.spot) chosen) ≤ length spots =
    no_more (map (λ (n : Node). n.spot) chosen) spots once (λ s m.
    let n = from_map (λ (n : Node). n.spot) chosen s m in
    let f = from_filter low nodes n.0 n.1 in
    let at = place_in nodes n.0 d f.0 in
    let on = graph.reached at.0 at.1 in
    let same : (node_at nodes at.0).spot ≡ n.0.spot = ap (λ (x : Node). x.spot) at.2 in
    let is : spot_of rule on.0 ≡ s = sym on.1.spot ∙ same ∙ n.2 in
    let within : n.0.spot.offset ≤ last = leb-true _ _ f.1 in
    let end : end_of_all on.0 ≡ n.0.spot.offset = ap (λ (s : Spot). s.offset) (sym on.1.spot ∙ same) in
    subst (Has spots) is (have on.0 on.1.walk (omega arith))) in
    omega arith

once_lists : (lists : List (List Break)) → IsDistinct same_list lists → StandOnce lists
once_lists [] d = tt
once_lists (x ∷ xs) d = (none xs (IsDistinct-head same_list x xs d), once_lists xs (IsDistinct-tail same_list x xs d))
  where
    none : (ys : List (List Break)) → AllByRecursion (λ y. same_list x y ≡ false) ys → Has ys x → ⊥
    none [] a m = m
    none (y ∷ ys) a m = elim m [ inl e ↦ false≢true (sym a.0 ∙ (same_list_decides x y).1 (sym e)) | inr t ↦ none ys a.1 t ]

-- the beginnings are no more than those of any list that has them
pub beginnings_within : (kept bonus : List (List Break × ℤ)) (beginnings lists : List (List Break)) → AreBeginnings kept beginnings → ((front : List Break) → leads_further kept front ≡ true → leads_further bonus front ≡ true)
    → HaveBeginnings bonus lists → length beginnings ≤ length lists
beginnings_within kept bonus beginnings lists are same have =
    no_more beginnings lists (once_lists beginnings are.once) (λ list m.
    let e = are.each list m in
    subst (Has lists) (sym e.2) (have e.0 e.1 (subst (λ (l : List Break). leads_further bonus l ≡ true) e.2 (same list e.3))))

-- so are those of a graph that is kept
kept_within : (rule : Rule) (len last : ℕ) (kept : KeptSearch) (spots : List Spot) → IsGraphKept rule len kept → HaveSpotsUpTo rule len last spots → count_by (λ n. nat_le n.spot.offset last) (nodes_of kept) ≤ length spots
kept_within rule len last (OverGraph graph values) spots is have = nodes_within rule len last (arc_value graph) spots is have
kept_within rule len last ByLayers spots is have = omega arith

-- steps for the nodes up to an offset and for the beginnings
pub steps_within : (rule : Rule) (len last bound : ℕ) (kept : KeptSearch) (entries bonus : List (List Break × ℤ)) (beginnings : List (List Break)) (old new : ℕ) → IsGraphKept rule len kept → last ≤ bound
    → AreBeginnings entries beginnings → ((front : List Break) → leads_further entries front ≡ true → leads_further bonus front ≡ true)
    → new ≤ old + (count_by (λ n. nat_le n.spot.offset last) (nodes_of kept) + length beginnings) → AreStepsUpTo rule len bound bonus (new - old)
steps_within rule len last bound kept entries bonus beginnings old new graph low are same steps spots lists have has =
    let a : count_by (λ n. nat_le n.spot.offset last) (nodes_of kept) ≤ length spots = kept_within rule len last kept spots graph (λ list walk end. have list walk (omega (arith, end))) in
    let b : length beginnings ≤ length lists = beginnings_within entries bonus beginnings lists are same has in
    omega arith
