-- The graphs of break lists that an instance keeps, one more at a time.
use Rattle.shift_instance.proofs.Common.{◌≡◌, ◌⊎◌, inl, inr, ℕ, ◌+◌, ◌-◌, ◌<◌, ◌≤◌, List, [], ◌∷◌, ◌++◌, length, get_or, refl, sym, ap, ◌∙◌, subst, arith, Option, Some, None, MatchOption, Bor, slice_get, IsSomeAnd, IfSome, cases_lt, slice_get_within, get_or_from_slice_get, slice_get-get_or, Rule, Node, IsGraph, Shift, Kind, Problem, shift_list, AreGraphsOf, AreGraphs}
use Rattle.std.proofs.lemmas.List.{length-append}
use Rattle.std.proofs.Math.ListN.{get_or-append}
use Rattle.std.proofs.Math.Seq.{get_or-append_seam}
use Rattle.shift_instance.proofs.Shifts.{some_at, Has_at, get_or_some, kind_of, is_some_and_from, is_some_and_at}

-- what stands in a list with an element more stood there before, or is that element
last_or : {X : Type 0} (xs : List X) (x y : X) (j : ℕ) → slice_get (xs ++ x ∷ []) j ≡ Some y → (slice_get xs j ≡ Some y) ⊎ ((j ≡ length xs) × (x ≡ y))
last_or {X} xs x y j h =
    let inside = slice_get_within (xs ++ x ∷ []) j y h in
    let read : get_or (xs ++ x ∷ []) j y ≡ y = get_or_from_slice_get (xs ++ x ∷ []) j y y h in
    elim (cases_lt j (length xs)) [
      | inl l ↦ inl (slice_get-get_or xs j y l ∙ ap Some (sym (get_or-append xs (x ∷ []) y j l) ∙ read))
      | inr g ↦
          let at : j ≡ length xs = omega (arith, length-append xs (x ∷ [])) in
          inr (at, sym (ap (λ (k : ℕ). get_or (xs ++ x ∷ []) k y) at ∙ get_or-append_seam xs x [] y) ∙ read)
    ]

-- the graph of a length more
pub graphs_more : (kind : Kind) (rule : Rule) (low len : ℕ) (list new : List (List Node)) (graph : List Node) → rule ≡ kind.rule → low ≡ kind.len_min → low ≤ len → length list ≡ len - low
    → AreGraphsOf kind list → IsGraph rule len graph → new ≡ list ++ graph ∷ [] → AreGraphsOf kind new
graphs_more kind rule low len list new graph same least from many made is e j nodes h =
    elim (last_or list graph nodes j (sym (ap (λ (gs : List (List Node)). slice_get gs j) e) ∙ h)) [
      | inl before ↦ made j nodes before
      | inr last ↦
          let at : len ≡ kind.len_min + j = omega (arith, last.0) in
          subst (IsGraph kind.rule (kind.len_min + j)) last.1 (subst (λ n. IsGraph kind.rule n graph) at (subst (λ (r : Rule). IsGraph r len graph) same is))
    ]

-- what stands at the place of a length among the graphs of a type with a rule is the graph of both
pub graph_at : {V : Type 0} (nodes_of : V → List Node) (kind : Kind) (rule : Rule) (len above : ℕ) (of : List (List Node)) (found : Option (Bor V)) → AreGraphsOf kind of → kind.rule ≡ rule → kind.len_min + above ≡ len
    → MatchOption found (slice_get of above ≡ None) (λ g. slice_get of above ≡ Some (nodes_of g.now)) → IfSome found (λ g. IsGraph rule len (nodes_of g.now))
graph_at nodes_of kind rule len above of None made same long there = tt
graph_at nodes_of kind rule len above of (Some g) made same long there = subst (λ (r : Rule). IsGraph r len (nodes_of g.now)) same (subst (λ n. IsGraph kind.rule n (nodes_of g.now)) long (made above (nodes_of g.now) there))

-- the graphs of a type more
pub types_more : (kinds : List Kind) (list new : List (List (List Node))) (of : List (List Node)) (k : ℕ) (kind : Kind) → slice_get kinds k ≡ Some kind → length list ≡ k
    → AreGraphs kinds list → AreGraphsOf kind of → new ≡ list ++ of ∷ [] → AreGraphs kinds new
types_more kinds list new of k kind stands many made is e j other there at h =
    elim (last_or list of there j (sym (ap (λ (gs : List (List (List Node))). slice_get gs j) e) ∙ h)) [
      | inl before ↦ made j other there at before
      | inr last ↦
          let same : ◌≡◌ {A = Option Kind} (Some kind) (Some other) = sym stands ∙ ap (λ (n : ℕ). slice_get kinds n) (sym (last.0 ∙ many)) ∙ at in
          let alike : kind ≡ other = cc in
          subst (AreGraphsOf other) last.1 (subst (λ (q : Kind). AreGraphsOf q of) alike is)
    ]

-- what stands at the place of a shift's type and length is its graph
pub kept_found : (i j : Problem) (s : ℕ) (y : Shift) (kind : Kind) (above : ℕ) (graphs : List (List (List Node))) (of : List (List Node)) (nodes : List Node) → i ≡ j → AreGraphs i.kinds graphs
    → s < length (shift_list j) → IsSomeAnd (slice_get (shift_list j) s) (λ x. y ≡ x.0) → kind ≡ get_or i.kinds y.kind kind → y.len ≡ kind.len_min + above
    → slice_get graphs y.kind ≡ Some of → slice_get of above ≡ Some nodes → IsSomeAnd (slice_get (shift_list j) s) (λ x. IsGraph x.1 x.0.len nodes)
kept_found i j s y kind above graphs of nodes same drawn small found read len here there =
    let x = some_at (shift_list j) s small in
    let e : y ≡ x.0.0 = is_some_and_at _ (λ x. y ≡ x.0) x.0 x.1 found in
    let k = kind_of j x.0 (Has_at (shift_list j) s x.0 x.1) in
    let at : slice_get i.kinds y.kind ≡ Some k.0 = ap (λ (q : Problem). slice_get q.kinds y.kind) same ∙ ap (λ (q : Shift). slice_get j.kinds q.kind) e ∙ k.1.at in
    let alike : kind ≡ k.0 = read ∙ (get_or_some i.kinds y.kind k.0 kind at).1 in
    let long : k.0.len_min + above ≡ x.0.0.len = ap (λ (q : Kind). q.len_min + above) (sym alike) ∙ sym len ∙ ap (λ (q : Shift). q.len) e in
    is_some_and_from _ (λ x. IsGraph x.1 x.0.len nodes) x.0 x.1
    (subst (λ (r : Rule). IsGraph r x.0.0.len nodes) (sym k.1.rule) (subst (λ n. IsGraph k.0.rule n nodes) long (drawn y.kind k.0 of at here above nodes there)))

-- a pair by its parts
pub same_pair : (x y : ℕ × ℕ) → y.0 ≡ x.0 → y.1 ≡ x.1 → y ≡ x
same_pair x y a b = ap (λ (n : ℕ). (n, y.1)) a ∙ ap (λ (n : ℕ). (x.0, n)) b

-- a graph that is kept, if one is, is that of the shift
pub graph_found : {V : Type 0} (nodes_of : V → List Node) (i j : Problem) (s : ℕ) (y : Shift) (kind : Kind) (above : ℕ) (graphs : List (List (List Node))) (of : List (List Node)) (found : Option (Bor V)) → i ≡ j → AreGraphs i.kinds graphs
    → s < length (shift_list j) → IsSomeAnd (slice_get (shift_list j) s) (λ x. y ≡ x.0) → kind ≡ get_or i.kinds y.kind kind → y.len ≡ kind.len_min + above → slice_get graphs y.kind ≡ Some of
    → MatchOption found (slice_get of above ≡ None) (λ g. slice_get of above ≡ Some (nodes_of g.now)) → IfSome found (λ g. IsSomeAnd (slice_get (shift_list j) s) (λ x. IsGraph x.1 x.0.len (nodes_of g.now)))
graph_found nodes_of i j s y kind above graphs of None same drawn small found read long here there = tt
graph_found nodes_of i j s y kind above graphs of (Some g) same drawn small found read long here there = kept_found i j s y kind above graphs of (nodes_of g.now) same drawn small found read long here there
