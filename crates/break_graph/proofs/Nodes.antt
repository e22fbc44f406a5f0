-- One node more: its edges lead to the live lists with a break more, and those made so far stay.
use Rattle.break_graph.proofs.Common.{◌≡◌, ◌≢◌, ◌⊎◌, inl, inr, ℕ, ◌+◌, ◌-◌, ◌*◌, ◌<◌, ◌≤◌, Bool, true, false, ◌==◌, List, [], ◌∷◌, ◌++◌, length, map, filter, refl, sym, ap, ◌∙◌, subst, arith, slice_get, append_assoc, Option, Some, None, MatchOption, if◌then◌else◌, filter_map, cons_option, list_any, false≢true, cases_Bool, cases_lt, cond_both, ne_eqb, length-append, get_or_past, nil_from_length, Break, Rule, is_legal, is_live, is_lunch, IsRule, place_of, nexts_of, spot_of, is_walk, bits_of, Has, live_rest, no_longer_list, walk_on, later_place, live_cases, live_back, live_legal, Edge, Node, node_at, live_nexts, StandsAt, IsGraph, number_at, AreBelow, LeadBelow, edge_to, edges_by, node_if, node_by, IsNodeOf, AreDrafted}
use Rattle.std.proofs.Math.ListN.{get_or-append}
use Rattle.std.proofs.Math.Seq.{get_or-append_seam}
use Rattle.break_rules.specs.declared.Lunch.{Lunch}
use Rattle.break_rules.specs.declared.Spot.{Spot}
use Rattle.break_graph.proofs.Elements.{Has-get}
use Rattle.break_graph.proofs.Fronts.{live_front}

-- the edge by a break leads below where its number does
pub below_one : (bound : ℕ) (numbers : List (Option ℕ)) (place : ℕ) (b : Break) (number : Option ℕ) (e : Edge) → AreBelow bound numbers → number_at numbers place ≡ number
    → Has (filter_map (edge_to b) (number ∷ [])) e → e.next < bound
below_one bound numbers place b None e below at m = absurd m
below_one bound numbers place b (Some k) e below at m = elim m [ inl s ↦ subst (λ (x : Edge). x.next < bound) s (below place k at) | inr none ↦ absurd none ]

-- ---- the edges of a list, by what is known of the lists with a break more

-- what a number tells of a list: the list stands at its node, or isn't live where there is none
abbrev pub Tells : Rule → ℕ → List Node → List Break → Option ℕ → Type 0
Tells rule len nodes list number = MatchOption number (is_live rule len list ≡ false) (λ k. StandsAt rule len nodes k list)

module _ (rule : Rule) (len : ℕ) (nodes : List Node) (list : List Break) (number : Break → Option ℕ) where
  stops_with : (b : Break) (n : Option ℕ) (es : List Edge) (bs : List Break) → Tells rule len nodes (list ++ b ∷ []) n → map (λ (e : Edge). e.stop) es ≡ filter (λ b. is_live rule len (list ++ b ∷ [])) bs
      → map (λ (e : Edge). e.stop) (cons_option (edge_to b n) es) ≡ filter (λ b. is_live rule len (list ++ b ∷ [])) (b ∷ bs)
  stops_with b None es bs t h = h ∙ ap (λ q. if q then b ∷ filter (λ b. is_live rule len (list ++ b ∷ [])) bs else filter (λ b. is_live rule len (list ++ b ∷ [])) bs) (sym t)
  stops_with b (Some k) es bs t h =
      ap (λ (l : List Break). b ∷ l) h ∙ ap (λ q. if q then b ∷ filter (λ b. is_live rule len (list ++ b ∷ [])) bs else filter (λ b. is_live rule len (list ++ b ∷ [])) bs) (sym t.live)

  pub stops : (bs : List Break) → ((b : Break) → Has bs b → Tells rule len nodes (list ++ b ∷ []) (number b))
      → map (λ (e : Edge). e.stop) (filter_map (λ b. edge_to b (number b)) bs) ≡ filter (λ b. is_live rule len (list ++ b ∷ [])) bs
  stops [] t = refl
  stops (b ∷ bs) t = stops_with b (number b) (filter_map (λ b. edge_to b (number b)) bs) bs (t b (inl refl)) (stops bs (λ x m. t x (inr m)))

  lead_with : (b : Break) (n : Option ℕ) (es : List Edge) → Tells rule len nodes (list ++ b ∷ []) n → ((e : Edge) → Has es e → StandsAt rule len nodes e.next (list ++ e.stop ∷ []))
      → (e : Edge) → Has (cons_option (edge_to b n) es) e → StandsAt rule len nodes e.next (list ++ e.stop ∷ [])
  lead_with b None es t h e m = h e m
  lead_with b (Some k) es t h e m = elim m [ inl s ↦ subst (λ (x : Edge). StandsAt rule len nodes x.next (list ++ x.stop ∷ [])) s t | inr r ↦ h e r ]

  pub lead : (bs : List Break) → ((b : Break) → Has bs b → Tells rule len nodes (list ++ b ∷ []) (number b))
      → (e : Edge) → Has (filter_map (λ b. edge_to b (number b)) bs) e → StandsAt rule len nodes e.next (list ++ e.stop ∷ [])
  lead [] t e m = absurd m
  lead (b ∷ bs) t e m = lead_with b (number b) (filter_map (λ b. edge_to b (number b)) bs) (t b (inl refl)) (lead bs (λ x m. t x (inr m))) e m

-- ---- a list by its edges

-- where a list is legal no edge leads on from it
live_none : (rule : Rule) (len : ℕ) (list : List Break) (bs : List Break) → is_legal rule len list ≡ true → filter (λ b. is_live rule len (list ++ b ∷ [])) bs ≡ []
live_none rule len list [] h = refl
live_none rule len list (b ∷ bs) h =
    ap (λ q. if q then b ∷ filter (λ b. is_live rule len (list ++ b ∷ [])) bs else filter (λ b. is_live rule len (list ++ b ∷ [])) bs) dead ∙ live_none rule len list bs h
  where
    dead : is_live rule len (list ++ b ∷ []) ≡ false
    dead = elim (cases_Bool (is_live rule len (list ++ b ∷ []))) [
      | inl t ↦
          let r = live_rest rule len (list ++ b ∷ []) t in
          let none : (b ∷ r.0) ≡ [] = no_longer_list rule len list (b ∷ r.0) h (sym (ap (is_legal rule len) (append_assoc list (b ∷ []) r.0)) ∙ r.1) in
          absurd (cc)
      | inr f ↦ f
    ]

none_mapped : {X Y : Type 0} (f : X → Y) (xs : List X) → map f xs ≡ [] → xs ≡ []
none_mapped f [] h = refl
none_mapped f (x ∷ xs) h = absurd (cc)

none_filtered : {X : Type 0} (p : X → Bool) (xs : List X) (x : X) → filter p xs ≡ [] → Has xs x → p x ≡ false
none_filtered p [] x h m = absurd m
none_filtered {X} p (y ∷ ys) x h m =
    cond_both (p y) (y ∷ filter p ys) (filter p ys) (λ zs. zs ≡ [] → p x ≡ false)
    (λ q g. absurd (cc))
    (λ q g. elim m [ inl s ↦ ap p (sym s) ∙ q | inr n ↦ none_filtered p ys x g n ]) h

some_length : {X : Type 0} (x : X) (xs : List X) → (length (x ∷ xs) == 0) ≡ false
some_length x xs = let some : length (x ∷ xs) ≢ 0 = λ e. omega arith in ne_eqb (length (x ∷ xs)) 0 some

-- a node that is made
pub record IsRight (rule : Rule) (len : ℕ) (nodes : List Node) (list : List Break) (n : Node) : Type 0 where
  pub spot : n.spot ≡ spot_of rule list
  pub live : is_live rule len list ≡ true
  pub edges : map (λ (e : Edge). e.stop) n.edges ≡ live_nexts rule len list
  pub behind : (e : Edge) → Has n.edges e → StandsAt rule len nodes e.next (list ++ e.stop ∷ [])
  pub ends : (length n.edges == 0) ≡ is_legal rule len list

-- what is told of a list at its place: a right node, or none where it isn't live
pub node_told : (rule : Rule) (len : ℕ) (nodes : List Node) (list : List Break) (es : List Edge) (legal : Bool)
    → map (λ (e : Edge). e.stop) es ≡ live_nexts rule len list → ((e : Edge) → Has es e → StandsAt rule len nodes e.next (list ++ e.stop ∷ [])) → is_legal rule len list ≡ legal
    → MatchOption (node_if legal (spot_of rule list) es) (is_live rule len list ≡ false) (λ n. IsRight rule len nodes list n)
node_told rule len nodes list [] true map_is leads is = record { spot = refl; live = live_legal rule len list is; edges = map_is; behind = leads; ends = sym is }
node_told rule len nodes list [] false map_is leads is =
    elim (cases_Bool (is_live rule len list)) [
      | inl t ↦ elim (live_cases rule len list t) [
        | inl legal ↦ absurd (false≢true (sym is ∙ legal))
        | inr next ↦ absurd (false≢true (sym (none_filtered (λ b. is_live rule len (list ++ b ∷ [])) (nexts_of rule len (spot_of rule list)) next.0 (sym map_is) next.2) ∙ next.1))
      ]
      | inr f ↦ f
    ]
node_told rule len nodes list (e ∷ es) true map_is leads is =
    let none : (e ∷ es) ≡ [] = none_mapped (λ (e : Edge). e.stop) (e ∷ es) (map_is ∙ live_none rule len list (nexts_of rule len (spot_of rule list)) is) in
    absurd (cc)
node_told rule len nodes list (e ∷ es) false map_is leads is =
    record { spot = refl; live = live_back rule len list e.stop (leads e (inl refl)).live; edges = map_is; behind = leads; ends = some_length e es ∙ sym is }

-- ---- one place more

-- the nodes made so far stay, and the new one comes behind them
same_before : (nodes : List Node) (n : Node) (k : ℕ) → k < length nodes → node_at (nodes ++ n ∷ []) k ≡ node_at nodes k
same_before nodes n k l = get_or-append nodes (n ∷ []) _ k l

same_last : (nodes : List Node) (n : Node) (k : ℕ) → k ≡ length nodes → node_at (nodes ++ n ∷ []) k ≡ n
same_last nodes n k e = ap (λ (j : ℕ). node_at (nodes ++ n ∷ []) j) e ∙ get_or-append_seam nodes n [] _

one_longer : (nodes : List Node) (n : Node) → length (nodes ++ n ∷ []) ≡ length nodes + 1
one_longer nodes n = length-append nodes (n ∷ [])

module _ (rule : Rule) (len : ℕ) (nodes : List Node) (n : Node) where
  -- a list stands where it stood
  pub stands_on : (k : ℕ) (list : List Break) → StandsAt rule len nodes k list → StandsAt rule len (nodes ++ n ∷ []) k list
  stands_on k list s = record {
    within = omega (arith, s.within, one_longer nodes n);
    walk = s.walk;
    spot = ap (λ (m : Node). m.spot) (same_before nodes n k s.within) ∙ s.spot;
    live = s.live;
  }

  stood : (k : ℕ) (list : List Break) → k < length nodes → StandsAt rule len (nodes ++ n ∷ []) k list → StandsAt rule len nodes k list
  stood k list l s = record { within = l; walk = s.walk; spot = sym (ap (λ (m : Node). m.spot) (same_before nodes n k l)) ∙ s.spot; live = s.live }

  told_on : (list : List Break) (number : Option ℕ) → Tells rule len nodes list number → Tells rule len (nodes ++ n ∷ []) list number
  told_on list None t = t
  told_on list (Some k) t = stands_on k list t

cases_last : (k n : ℕ) → k < n + 1 → (k < n) ⊎ (k ≡ n)
cases_last k n h = elim (cases_lt k n) [ inl l ↦ inl l | inr g ↦ inr (omega arith) ]

number_before : (numbers : List (Option ℕ)) (x : Option ℕ) (place : ℕ) → place < length numbers → number_at (numbers ++ x ∷ []) place ≡ number_at numbers place
number_before numbers x place l = get_or-append numbers (x ∷ []) None place l

number_here : (numbers : List (Option ℕ)) (x : Option ℕ) (place : ℕ) → place ≡ length numbers → number_at (numbers ++ x ∷ []) place ≡ x
number_here numbers x place e = ap (number_at (numbers ++ x ∷ [])) e ∙ get_or-append_seam numbers x [] None

number_past : (numbers : List (Option ℕ)) (place : ℕ) → length numbers ≤ place → number_at numbers place ≡ None
number_past numbers place l = get_or_past numbers place None l

below_more : (bound more : ℕ) (numbers : List (Option ℕ)) (x : Option ℕ) → AreBelow bound numbers → bound ≤ more → ((k : ℕ) → x ≡ Some k → k < more) → AreBelow more (numbers ++ x ∷ [])
below_more bound more numbers x below rises new place k at =
    elim (cases_lt place (length numbers)) [
      | inl l ↦ let b = below place k (sym (number_before numbers x place l) ∙ at) in omega arith
      | inr g ↦ elim (cases_lt (length numbers) place) [
        | inl l ↦
            let none : ◌≡◌ {A = Option ℕ} None (Some k) = sym (number_past (numbers ++ x ∷ []) place (omega (arith, length-append numbers (x ∷ [])))) ∙ at in
            absurd (cc)
        | inr e ↦ new k (sym (number_here numbers x place (omega arith)) ∙ at)
      ]
    ]

module _ (rule : Rule) (len place : ℕ) (nodes : List Node) (numbers : List (Option ℕ)) (drafted : AreDrafted rule len place nodes numbers) where
  -- what is told of the lists at a place by the nodes of those with a break more
  pub told_here : (list : List Break) → IsRule rule → is_walk rule len list ≡ true → place_of len (spot_of rule list) ≡ place
      → MatchOption (node_by rule len numbers list) (is_live rule len list ≡ false) (λ m. IsRight rule len nodes list m)
  told_here list r walk at =
      let number : Break → Option ℕ = λ b. number_at numbers (place_of len (spot_of rule (list ++ b ∷ []))) in
      let bs = nexts_of rule len (spot_of rule list) in
      let tells : (b : Break) → Has bs b → Tells rule len nodes (list ++ b ∷ []) (number b) =
      λ b m. let more = walk_on rule len list b walk m in let less = later_place rule len list b r more m in drafted.known (list ++ b ∷ []) more (omega arith) in
      node_told rule len nodes list (edges_by rule len numbers list bs) (is_legal rule len list) (stops rule len nodes list number bs tells) (lead rule len nodes list number bs tells) refl

  -- a place without a node
  pub draft_none : length numbers ≡ place → ((list : List Break) → is_walk rule len list ≡ true → place_of len (spot_of rule list) ≡ place → is_live rule len list ≡ false)
      → AreDrafted rule len (place + 1) nodes (numbers ++ None ∷ [])
  draft_none many dead = record {
    within = below_more (length nodes) (length nodes) numbers None drafted.within (omega arith) (λ k e. absurd (cc));
    known = λ list walk less. elim (cases_last (place_of len (spot_of rule list)) place less) [
      | inl l ↦ subst (Tells rule len nodes list) (sym (number_before numbers None (place_of len (spot_of rule list)) (omega arith))) (drafted.known list walk l)
      | inr e ↦ subst (Tells rule len nodes list) (sym (number_here numbers None (place_of len (spot_of rule list)) (e ∙ sym many))) (dead list walk e)
    ];
    edges = drafted.edges;
    back = drafted.back;
    behind = drafted.behind;
    ends = drafted.ends;
    reached = drafted.reached;
    placed = λ k l. let p = drafted.placed k l in omega arith;
    order = drafted.order;
  }

  -- a place with a node
  module _ (n : Node) (many : length numbers ≡ place) (at : place_of len n.spot ≡ place) (back : LeadBelow (length nodes) n.edges)
      (some_list : (list : List Break) × (is_walk rule len list ≡ true) × (place_of len (spot_of rule list) ≡ place))
      (right : (list : List Break) → is_walk rule len list ≡ true → place_of len (spot_of rule list) ≡ place → IsRight rule len nodes list n) where
    right_at : (k : ℕ) (list : List Break) → k ≡ length nodes → StandsAt rule len (nodes ++ n ∷ []) k list → IsRight rule len nodes list n
    right_at k list e s =
        right list s.walk (ap (place_of len) (sym s.spot ∙ ap (λ (m : Node). m.spot) (same_last nodes n k e)) ∙ at)

    inside : (k : ℕ) → k < length (nodes ++ n ∷ []) → (k < length nodes) ⊎ (k ≡ length nodes)
    inside k l = cases_last k (length nodes) (omega (arith, one_longer nodes n))

    -- where a list stands whose place is that of the new node
    stands_last : (list : List Break) → is_walk rule len list ≡ true → place_of len (spot_of rule list) ≡ place → StandsAt rule len (nodes ++ n ∷ []) (length nodes) list
    stands_last list walk e =
        let made = right list walk e in
        record {
          within = omega (arith, one_longer nodes n);
          walk = walk;
          spot = ap (λ (m : Node). m.spot) (same_last nodes n (length nodes) refl) ∙ made.spot;
          live = made.live;
        }

    place_before : (k : ℕ) → k < length nodes → place_of len (node_at (nodes ++ n ∷ []) k).spot < place
    place_before k l = subst (λ (m : Node). place_of len m.spot < place) (sym (same_before nodes n k l)) (drafted.placed k l)

    place_last : (k : ℕ) → k ≡ length nodes → place_of len (node_at (nodes ++ n ∷ []) k).spot ≡ place
    place_last k e = ap (λ (m : Node). place_of len m.spot) (same_last nodes n k e) ∙ at

    pub draft_some : AreDrafted rule len (place + 1) (nodes ++ n ∷ []) (numbers ++ Some (length nodes) ∷ [])
    draft_some = record {
      within = below_more (length nodes) (length (nodes ++ n ∷ [])) numbers (Some (length nodes)) drafted.within (omega (arith, one_longer nodes n))
          (λ k e. let same : length nodes ≡ k = cc in omega (arith, one_longer nodes n));
      known = λ list walk less. elim (cases_last (place_of len (spot_of rule list)) place less) [
        | inl l ↦ subst (Tells rule len (nodes ++ n ∷ []) list) (sym (number_before numbers (Some (length nodes)) (place_of len (spot_of rule list)) (omega arith)))
            (told_on rule len nodes n list (number_at numbers (place_of len (spot_of rule list))) (drafted.known list walk l))
        | inr e ↦ subst (Tells rule len (nodes ++ n ∷ []) list) (sym (number_here numbers (Some (length nodes)) (place_of len (spot_of rule list)) (e ∙ sym many)))
            (stands_last list walk e)
      ];
      edges = λ k list s. elim (inside k s.within) [
        | inl l ↦ ap (λ (m : Node). map (λ (e : Edge). e.stop) m.edges) (same_before nodes n k l) ∙ drafted.edges k list (stood rule len nodes n k list l s)
        | inr e ↦ ap (λ (m : Node). map (λ (e : Edge). e.stop) m.edges) (same_last nodes n k e) ∙ (right_at k list e s).edges
      ];
      back = λ k l i x h. elim (inside k l) [
        | inl before ↦ drafted.back k before i x (sym (ap (λ (m : Node). slice_get m.edges i) (same_before nodes n k before)) ∙ h)
        | inr e ↦ let b = back i x (sym (ap (λ (m : Node). slice_get m.edges i) (same_last nodes n k e)) ∙ h) in omega arith
      ];
      behind = λ k i x list s h. elim (inside k s.within) [
        | inl l ↦ stands_on rule len nodes n x.next (list ++ x.stop ∷ [])
            (drafted.behind k i x list (stood rule len nodes n k list l s) (sym (ap (λ (m : Node). slice_get m.edges i) (same_before nodes n k l)) ∙ h))
        | inr e ↦ stands_on rule len nodes n x.next (list ++ x.stop ∷ [])
            ((right_at k list e s).behind x (Has-get n.edges i x (sym (ap (λ (m : Node). slice_get m.edges i) (same_last nodes n k e)) ∙ h)))
      ];
      ends = λ k list s. elim (inside k s.within) [
        | inl l ↦ ap (λ (m : Node). length m.edges == 0) (same_before nodes n k l) ∙ drafted.ends k list (stood rule len nodes n k list l s)
        | inr e ↦ ap (λ (m : Node). length m.edges == 0) (same_last nodes n k e) ∙ (right_at k list e s).ends
      ];
      reached = λ k l. elim (inside k l) [
        | inl before ↦ let r = drafted.reached k before in (r.0, stands_on rule len nodes n k r.0 r.1)
        | inr e ↦ (some_list.0, subst (λ j. StandsAt rule len (nodes ++ n ∷ []) j some_list.0) (sym e) (stands_last some_list.0 some_list.1 some_list.2))
      ];
      placed = λ k l. elim (inside k l) [
        | inl before ↦ let p = place_before k before in omega arith
        | inr e ↦ let p = place_last k e in omega arith
      ];
      order = λ j k less l. elim (inside k l) [
        | inl before ↦
            let first : j < length nodes = omega arith in
            subst (λ (m : Node). place_of len (node_at (nodes ++ n ∷ []) j).spot < place_of len m.spot) (sym (same_before nodes n k before))
            (subst (λ (m : Node). place_of len m.spot < place_of len (node_at nodes k).spot) (sym (same_before nodes n j first)) (drafted.order j k less before))
        | inr e ↦ let p = place_before j (omega arith) in let q = place_last k e in omega arith
      ];
    }

-- ---- the node of a place

node_from : (legal : Bool) (spot : Spot) (es : List Edge) → (legal ≡ true) ⊎ (length es ≢ 0) → ◌≡◌ {A = Option Node} (Some (record { spot = spot; edges = es })) (node_if legal spot es)
node_from true spot es h = refl
node_from false spot (e ∷ es) h = refl
node_from false spot [] h = elim h [ inl t ↦ absurd (false≢true t) | inr some ↦ absurd (some refl) ]

no_node_from : (legal : Bool) (spot : Spot) (es : List Edge) → legal ≡ false → length es ≡ 0 → ◌≡◌ {A = Option Node} None (node_if legal spot es)
no_node_from false spot [] h l = refl
no_node_from false spot (e ∷ es) h l = absurd (omega arith)
no_node_from true spot es h l = absurd (false≢true (sym h))

module _ (rule : Rule) (len : ℕ) (numbers : List (Option ℕ)) (list : List Break) (spot : Spot) (es : List Edge) (is : spot ≡ spot_of rule list) (exact : es ≡ edges_by rule len numbers list (nexts_of rule len spot)) where
  same_node : node_if (is_legal rule len list) spot es ≡ node_by rule len numbers list
  same_node =
      ap (λ (xs : List Edge). node_if (is_legal rule len list) spot xs) exact
      ∙ ap (λ (s : Spot). node_if (is_legal rule len list) s (edges_by rule len numbers list (nexts_of rule len s))) is

  pub a_node : (is_legal rule len list ≡ true) ⊎ (length es ≢ 0) → ◌≡◌ {A = Option Node} (Some (record { spot = spot; edges = es })) (node_by rule len numbers list)
  a_node h = node_from (is_legal rule len list) spot es h ∙ same_node

  pub no_node : is_legal rule len list ≡ false → length es ≡ 0 → ◌≡◌ {A = Option Node} None (node_by rule len numbers list)
  no_node h l = no_node_from (is_legal rule len list) spot es h l ∙ same_node

-- the nodes with that of a place more
pub draft_more : (rule : Rule) (len place : ℕ) (nodes new : List Node) (numbers more : List (Option ℕ)) (found : Option Node) (number : Option ℕ) → IsRule rule
    → AreDrafted rule len place nodes numbers → length numbers ≡ place → IsNodeOf rule len place numbers found
    → (found ≡ None → (number ≡ None) × (new ≡ nodes)) → ((n : Node) → found ≡ Some n → (number ≡ Some (length nodes)) × (new ≡ nodes ++ n ∷ [])) → more ≡ numbers ++ number ∷ []
    → AreDrafted rule len (place + 1) new more
draft_more rule len place nodes new numbers more None number r d many of none some e =
    let n = none refl in
    let told : (list : List Break) → is_walk rule len list ≡ true → place_of len (spot_of rule list) ≡ place → is_live rule len list ≡ false =
    λ list walk at. subst (λ (o : Option Node). MatchOption o (is_live rule len list ≡ false) (λ m. IsRight rule len nodes list m)) (sym (of.exact list walk at)) (told_here rule len place nodes numbers d list r walk at) in
    subst (λ (ns : List Node). AreDrafted rule len (place + 1) ns more) (sym n.1)
    (subst (AreDrafted rule len (place + 1) nodes) (ap (λ (x : Option ℕ). numbers ++ x ∷ []) (sym n.0) ∙ sym e) (draft_none rule len place nodes numbers d many told))
draft_more rule len place nodes new numbers more (Some m) number r d many of none some e =
    let n = some m refl in
    let told : (list : List Break) → is_walk rule len list ≡ true → place_of len (spot_of rule list) ≡ place → IsRight rule len nodes list m =
    λ list walk at. subst (λ (o : Option Node). MatchOption o (is_live rule len list ≡ false) (λ m. IsRight rule len nodes list m)) (sym (of.exact list walk at)) (told_here rule len place nodes numbers d list r walk at) in
    subst (λ (ns : List Node). AreDrafted rule len (place + 1) ns more) (sym n.1)
    (subst (AreDrafted rule len (place + 1) (nodes ++ m ∷ [])) (ap (λ (x : Option ℕ). numbers ++ x ∷ []) (sym n.0) ∙ sym e)
    (draft_some rule len place nodes numbers d m many (of.at m refl) (of.back (length nodes) m d.within refl) (of.reached m refl) told))

-- the whole graph, when the place of the opening spot has been looked at
opening_place : (rule : Rule) (len : ℕ) → place_of len (spot_of rule []) ≡ 256 * len
opening_place rule len = let none = bits_none rule.lunches in omega arith
  where
    bits_none : (es : List Lunch) → bits_of (λ e. list_any (is_lunch e) []) es ≡ 0
    bits_none [] = refl
    bits_none (e ∷ es) = let rest = bits_none es in omega arith

module _ (rule : Rule) (len before : ℕ) (nodes : List Node) (numbers : List (Option ℕ)) (drafted : AreDrafted rule len before nodes numbers) (all : before ≡ 256 * len + 1) where
  no_opening : is_live rule len [] ≡ false → nodes ≢ [] → ⊥
  no_opening dead some =
      elim (cases_lt 0 (length nodes)) [
        | inl l ↦ let r = drafted.reached 0 l in false≢true (sym dead ∙ live_front rule len [] r.0 r.1.live)
        | inr g ↦ some (nil_from_length nodes (omega arith))
      ]

  opening_last : (k : ℕ) → StandsAt rule len nodes k [] → k ≡ length nodes - 1
  opening_last k s =
      let within = s.within in
      elim (cases_lt k (length nodes - 1)) [
        | inl l ↦
            let less = drafted.order k (length nodes - 1) l (omega arith) in
            let last = drafted.placed (length nodes - 1) (omega arith) in
            let here : place_of len (node_at nodes k).spot ≡ 256 * len = ap (place_of len) s.spot ∙ opening_place rule len in
            absurd (omega arith)
        | inr g ↦ omega arith
      ]

  opening_told : (number : Option ℕ) → Tells rule len nodes [] number → (nodes ≡ [] → is_live rule len [] ≡ false) × (nodes ≢ [] → StandsAt rule len nodes (length nodes - 1) [])
  opening_told None dead = (λ e. dead, λ some. absurd (no_opening dead some))
  opening_told (Some k) s =
      (λ e. absurd (let within = s.within in let none : length nodes ≡ 0 = ap length e in omega arith), λ some. subst (λ j. StandsAt rule len nodes j []) (opening_last k s) s)

  pub whole_graph : IsGraph rule len nodes
  whole_graph =
      let opening = opening_told (number_at numbers (place_of len (spot_of rule []))) (drafted.known [] refl (omega (arith, opening_place rule len))) in
      record {
        none = opening.0;
        opening = opening.1;
        edges = drafted.edges;
        back = λ k i e l h. drafted.back k l i e h;
        behind = drafted.behind;
        ends = drafted.ends;
        reached = drafted.reached;
        order = drafted.order;
      }
