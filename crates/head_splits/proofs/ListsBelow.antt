-- The legal lists that begin with some breaks are, in order, those that begin with these and each next break.
use Rattle.head_splits.proofs.Common.{◌≡◌, inl, inr, ℕ, true, false, ◌&&◌, List, [], ◌∷◌, ◌++◌, filter, refl, sym, ap, ◌∙◌, subst, append_assoc, append-nil, flat_map, and_from, or_left, or_right, false≢true, Break, Rule, same_break, is_less_break, is_less_list, is_legal, is_live, legal_lists, breaks_between, begins_with, Has, Sorted, from_flat_map, Has-flat_map, from_filter, Has-filter, begins_rest, begins_from, no_longer_list, same_break_decides, from_legal_lists, Has-legal_lists, Sorted-filter, Sorted-flat_map, Sorted-breaks, Sorted-legal_lists, IsLess, IsLessBreak, less_apart, rest_first}
use Rattle.break_rules.specs.Walk.{may_follow, nexts_of, spot_of}
use Rattle.break_graph.specs.Graph.{live_nexts}

-- lists in a strict order are the same where they have the same elements
sorted_same : {X : Type 0} (R : X → X → Type 0) (xs ys : List X) → ((x y : X) → R x y → R y x → ⊥) → Sorted R xs → Sorted R ys
    → ((x : X) → Has xs x → Has ys x) → ((x : X) → Has ys x → Has xs x) → xs ≡ ys
sorted_same R [] [] apart s t h g = refl
sorted_same R [] (y ∷ ys) apart s t h g = absurd (g y (inl refl))
sorted_same R (x ∷ xs) [] apart s t h g = absurd (h x (inl refl))
sorted_same {X} R (x ∷ xs) (y ∷ ys) apart s t h g =
    let e : x ≡ y = elim (h x (inl refl)) [
      | inl e ↦ sym e
      | inr m ↦ elim (g y (inl refl)) [ inl e ↦ e | inr n ↦ absurd (apart x y (s.0 y n) (t.0 x m)) ]
    ] in
    let rest : xs ≡ ys = sorted_same R xs ys apart s.1 t.1
    (λ z m. elim (h z (inr m)) [
      | inl f ↦ let r : R x x = subst (R x) (sym (e ∙ f)) (s.0 z m) in absurd (apart x x r r)
      | inr n ↦ n
    ])
    (λ z m. elim (g z (inr m)) [
      | inl f ↦ let r : R y y = subst (R y) (sym (sym e ∙ f)) (t.0 z m) in absurd (apart y y r r)
      | inr n ↦ n
    ]) in
    ap (λ z. z ∷ xs) e ∙ ap (λ zs. y ∷ zs) rest

-- the order behind a common front
less_behind : (front xs ys : List Break) → is_less_list xs ys ≡ true → is_less_list (front ++ xs) (front ++ ys) ≡ true
less_behind [] xs ys h = h
less_behind (b ∷ bs) xs ys h =
    or_right (is_less_break b b) (same_break b b && is_less_list (bs ++ xs) (bs ++ ys)) (and_from (same_break b b) (is_less_list (bs ++ xs) (bs ++ ys)) ((same_break_decides b b).1 refl) (less_behind bs xs ys h))

module _ (rule : Rule) (len : ℕ) where
  -- the legal lists that begin with a list
  abbrev pub below_list : List Break → List (List Break)
  below_list list = filter (λ l. begins_with l list) (legal_lists rule len)

  pub record Longer (list whole : List Break) : Type 0 where
    pub legal : is_legal rule len whole ≡ true
    pub rest : List Break
    pub is : whole ≡ list ++ rest

  pub from_below_list : (list whole : List Break) → Has (below_list list) whole → Longer list whole
  from_below_list list whole m =
      let f = from_filter (λ l. begins_with l list) (legal_lists rule len) whole m in
      record { legal = from_legal_lists rule len whole f.0; rest = _; is = begins_rest whole list f.1 }

  pub Has-below_list : (list rest whole : List Break) → whole ≡ list ++ rest → is_legal rule len whole ≡ true → Has (below_list list) whole
  Has-below_list list rest whole e h = Has-filter (λ l. begins_with l list) (legal_lists rule len) whole (Has-legal_lists rule len whole h) (begins_from whole list rest e)

  Sorted-below_list : (list : List Break) → Sorted IsLess (below_list list)
  Sorted-below_list list = Sorted-filter IsLess (λ l. begins_with l list) (legal_lists rule len) (Sorted-legal_lists rule len)

  -- a legal list is the only one that begins with it
  pub below_whole : (list : List Break) → is_legal rule len list ≡ true → below_list list ≡ list ∷ []
  below_whole list h =
      sorted_same IsLess (below_list list) (list ∷ []) less_apart (Sorted-below_list list) (λ y m. absurd m, tt)
      (λ x m.
      let l = from_below_list list x m in
      let nil : l.rest ≡ [] = no_longer_list rule len list l.rest h (ap (is_legal rule len) (sym l.is) ∙ l.legal) in
      inl (sym (l.is ∙ ap (λ r. list ++ r) nil ∙ append-nil list)))
      (λ x m. elim m [ inl e ↦ subst (Has (below_list list)) e (Has-below_list list [] list (sym (append-nil list)) h) | inr n ↦ absurd n ])

  next_listed : (list whole : List Break) → is_legal rule len list ≡ false → Longer list whole → Has (flat_map (λ b. below_list (list ++ b ∷ [])) (live_nexts rule len list)) whole
  next_listed list whole part l = cases l.rest l.is
    where
      cases : (rest : List Break) → whole ≡ list ++ rest → Has (flat_map (λ b. below_list (list ++ b ∷ [])) (live_nexts rule len list)) whole
      cases [] e = absurd (false≢true (sym part ∙ ap (is_legal rule len) (sym (append-nil list)) ∙ ap (is_legal rule len) (sym e) ∙ l.legal))
      cases (b ∷ bs) e =
          let r = rest_first rule len list b bs (ap (is_legal rule len) (sym e) ∙ l.legal) in
          Has-flat_map (λ b. below_list (list ++ b ∷ [])) (live_nexts rule len list) b whole
          (Has-filter (λ b. is_live rule len (list ++ b ∷ [])) (nexts_of rule len (spot_of rule list)) b r.1 r.0)
          (Has-below_list (list ++ b ∷ []) bs whole (e ∙ sym (append_assoc list (b ∷ []) bs)) l.legal)

  -- the others begin with it and a next break
  pub below_parts : (list : List Break) → is_legal rule len list ≡ false → below_list list ≡ flat_map (λ b. below_list (list ++ b ∷ [])) (live_nexts rule len list)
  below_parts list part =
      let f : Break → List (List Break) = λ b. below_list (list ++ b ∷ []) in
      sorted_same IsLess (below_list list) (flat_map f (live_nexts rule len list)) less_apart (Sorted-below_list list)
      (Sorted-flat_map IsLessBreak IsLess f (live_nexts rule len list)
      (λ b m. Sorted-below_list (list ++ b ∷ []))
      (λ b c less x y p q.
      let l = from_below_list (list ++ b ∷ []) x p in
      let r = from_below_list (list ++ c ∷ []) y q in
      subst (λ z. is_less_list z y ≡ true) (sym (l.is ∙ append_assoc list (b ∷ []) l.rest))
      (subst (λ z. is_less_list (list ++ b ∷ l.rest) z ≡ true) (sym (r.is ∙ append_assoc list (c ∷ []) r.rest))
      (less_behind list (b ∷ l.rest) (c ∷ r.rest) (or_left (is_less_break b c) (same_break b c && is_less_list l.rest r.rest) less))))
      (Sorted-filter IsLessBreak (λ b. is_live rule len (list ++ b ∷ [])) (nexts_of rule len (spot_of rule list))
      (Sorted-filter IsLessBreak (may_follow rule len (spot_of rule list).offset (spot_of rule list).used) (breaks_between (spot_of rule list).offset len) (Sorted-breaks (spot_of rule list).offset len))))
      (λ x m. next_listed list x part (from_below_list list x m))
      (λ x m.
      let b = from_flat_map f (live_nexts rule len list) x m in
      let l = from_below_list (list ++ b.0 ∷ []) x b.2 in
      Has-below_list list (b.0 ∷ l.rest) x (l.is ∙ append_assoc list (b.0 ∷ []) l.rest) l.legal)
