-- Bonuses that are added one after another.
use Rattle.pricing.proofs.Common.{◌≡◌, ◌⊎◌, inl, inr, ℕ, ◌+◌, ◌<◌, ℤ, pos, ◌+ℤ◌, Bool, true, false, cond, ◌||◌, List, [], ◌∷◌, ◌++◌, length, take, get_or, refl, sym, ap, ◌∙◌, arith, list_any, ints, cases_Bool, cond-true, cond-false, cond_both, or_cases, or_left, or_right, false≢true, take_more, Break, same_list, begins_with, same_list_decides, int_sum_by-cons, int_sum_by-append, with_added, share_of, bonus_of, leads_further}
use Rattle.std.proofs.lemmas.List.Folds.{list_any-append}

share_sum : (list prefix : List Break) (a b : ℤ) → share_of list (prefix, a +ℤ b) ≡ share_of list (prefix, a) +ℤ share_of list (prefix, b)
share_sum list prefix a b = by (begins_with list prefix)
  where
    by : (t : Bool) → cond t (a +ℤ b) (pos 0) ≡ cond t a (pos 0) +ℤ cond t b (pos 0)
    by true = refl
    by false = refl

-- an addition adds its share
bonus_added : (es : List (List Break × ℤ)) (prefix : List Break) (x : ℤ) (list : List Break) → bonus_of (with_added es prefix x) list ≡ bonus_of es list +ℤ share_of list (prefix, x)
bonus_added [] prefix x list = let one : bonus_of ((prefix, x) ∷ []) list ≡ share_of list (prefix, x) +ℤ bonus_of [] list = int_sum_by-cons (share_of list) (prefix, x) [] in omega (arith, ints)
bonus_added (e ∷ es) prefix x list =
    let all : bonus_of (e ∷ es) list ≡ share_of list e +ℤ bonus_of es list = int_sum_by-cons (share_of list) e es in
    elim (cases_Bool (same_list prefix e.0)) [
      | inl s ↦
          let same : e.0 ≡ prefix = sym ((same_list_decides prefix e.0).0 s) in
          let found : bonus_of (with_added (e ∷ es) prefix x) list ≡ bonus_of ((e.0, e.1 +ℤ x) ∷ es) list = ap (λ (l : List (List Break × ℤ)). bonus_of l list) (cond-true _ ((e.0, e.1 +ℤ x) ∷ es) (e ∷ with_added es prefix x) s) in
          let one : bonus_of ((e.0, e.1 +ℤ x) ∷ es) list ≡ share_of list (e.0, e.1 +ℤ x) +ℤ bonus_of es list = int_sum_by-cons (share_of list) (e.0, e.1 +ℤ x) es in
          let two : share_of list (e.0, e.1 +ℤ x) ≡ share_of list e +ℤ share_of list (e.0, x) = share_sum list e.0 e.1 x in
          let three : share_of list (e.0, x) ≡ share_of list (prefix, x) = ap (λ (l : List Break). share_of list (l, x)) same in
          omega (arith, ints)
      | inr s ↦
          let found : bonus_of (with_added (e ∷ es) prefix x) list ≡ bonus_of (e ∷ with_added es prefix x) list = ap (λ (l : List (List Break × ℤ)). bonus_of l list) (cond-false _ ((e.0, e.1 +ℤ x) ∷ es) (e ∷ with_added es prefix x) s) in
          let one : bonus_of (e ∷ with_added es prefix x) list ≡ share_of list e +ℤ bonus_of (with_added es prefix x) list = int_sum_by-cons (share_of list) e (with_added es prefix x) in
          let two : bonus_of (with_added es prefix x) list ≡ bonus_of es list +ℤ share_of list (prefix, x) = bonus_added es prefix x list in
          omega (arith, ints)
    ]

leads_added : (es : List (List Break × ℤ)) (prefix : List Break) (x : ℤ) (front : List Break) → leads_further (with_added es prefix x) front ≡ true → (leads_further es front ≡ true) ⊎ (begins_with prefix front ≡ true)
leads_added [] prefix x front h = elim (or_cases (begins_with prefix front) false h) [ inl a ↦ inr a | inr b ↦ absurd (false≢true b) ]
leads_added (e ∷ es) prefix x front h =
    elim (cases_Bool (same_list prefix e.0)) [
      | inl s ↦ inl (sym (ap (λ (l : List (List Break × ℤ)). leads_further l front) (cond-true _ ((e.0, e.1 +ℤ x) ∷ es) (e ∷ with_added es prefix x) s)) ∙ h)
      | inr s ↦
          let g : leads_further (e ∷ with_added es prefix x) front ≡ true = sym (ap (λ (l : List (List Break × ℤ)). leads_further l front) (cond-false _ ((e.0, e.1 +ℤ x) ∷ es) (e ∷ with_added es prefix x) s)) ∙ h in
          elim (or_cases (begins_with e.0 front) (leads_further (with_added es prefix x) front) g) [
            | inl a ↦ inl (or_left (begins_with e.0 front) (leads_further es front) a)
            | inr b ↦ elim (leads_added es prefix x front b) [ inl c ↦ inl (or_right (begins_with e.0 front) (leads_further es front) c) | inr d ↦ inr d ]
          ]
    ]

-- what prefixes begin with stays when a number is added
leads_kept : (es : List (List Break × ℤ)) (prefix : List Break) (x : ℤ) (front : List Break) → leads_further es front ≡ true → leads_further (with_added es prefix x) front ≡ true
leads_kept [] prefix x front h = absurd (false≢true h)
leads_kept (e ∷ es) prefix x front h =
    cond_both (same_list prefix e.0) ((e.0, e.1 +ℤ x) ∷ es) (e ∷ with_added es prefix x) (λ l. leads_further l front ≡ true)
    (λ s. h)
    (λ s. elim (or_cases (begins_with e.0 front) (leads_further es front) h) [
      | inl a ↦ or_left (begins_with e.0 front) (leads_further (with_added es prefix x) front) a
      | inr b ↦ or_right (begins_with e.0 front) (leads_further (with_added es prefix x) front) (leads_kept es prefix x front b)
    ])

leads_new : (es : List (List Break × ℤ)) (prefix : List Break) (x : ℤ) (front : List Break) → begins_with prefix front ≡ true → leads_further (with_added es prefix x) front ≡ true
leads_new [] prefix x front h = or_left (begins_with prefix front) false h
leads_new (e ∷ es) prefix x front h =
    cond_both (same_list prefix e.0) ((e.0, e.1 +ℤ x) ∷ es) (e ∷ with_added es prefix x) (λ l. leads_further l front ≡ true)
    (λ s. or_left (begins_with e.0 front) (leads_further es front) (ap (λ (l : List Break). begins_with l front) (sym ((same_list_decides prefix e.0).0 s)) ∙ h))
    (λ s. or_right (begins_with e.0 front) (leads_further (with_added es prefix x) front) (leads_new es prefix x front h))

-- one bonus more
module _ (bonus : List (List Break × ℤ)) (i : ℕ) (d : List Break × ℤ) (inside : i < length bonus) (es : List (List Break × ℤ)) where
  pub sums_more : ((list : List Break) → bonus_of es list ≡ bonus_of (take i bonus) list)
      → (list : List Break) → bonus_of (with_added es (get_or bonus i d).0 (get_or bonus i d).1) list ≡ bonus_of (take (i + 1) bonus) list
  sums_more before list =
      let e = get_or bonus i d in
      let one : bonus_of (with_added es e.0 e.1) list ≡ bonus_of es list +ℤ share_of list e = bonus_added es e.0 e.1 list in
      let two : bonus_of (take (i + 1) bonus) list ≡ bonus_of (take i bonus ++ e ∷ []) list = ap (λ (l : List (List Break × ℤ)). bonus_of l list) (take_more bonus i d inside) in
      let three : bonus_of (take i bonus ++ e ∷ []) list ≡ bonus_of (take i bonus) list +ℤ bonus_of (e ∷ []) list = int_sum_by-append (share_of list) (take i bonus) (e ∷ []) in
      let four : bonus_of (e ∷ []) list ≡ share_of list e +ℤ pos 0 = int_sum_by-cons (share_of list) e [] in
      let five : bonus_of es list ≡ bonus_of (take i bonus) list = before list in
      omega (arith, ints)

  pub prefixes_more : ((front : List Break) → leads_further es front ≡ true → leads_further (take i bonus) front ≡ true)
      → (front : List Break) → leads_further (with_added es (get_or bonus i d).0 (get_or bonus i d).1) front ≡ true → leads_further (take (i + 1) bonus) front ≡ true
  prefixes_more before front h =
      let e = get_or bonus i d in
      let test : List Break × ℤ → Bool = λ e. begins_with e.0 front in
      ap (λ (l : List (List Break × ℤ)). leads_further l front) (take_more bonus i d inside) ∙ list_any-append test (take i bonus) (e ∷ [])
      ∙ elim (leads_added es e.0 e.1 front h) [
        | inl a ↦ or_left (list_any test (take i bonus)) (list_any test (e ∷ [])) (before front a)
        | inr b ↦ or_right (list_any test (take i bonus)) (list_any test (e ∷ [])) (or_left (begins_with e.0 front) false b)
      ]

  -- the prefixes of the entries begin with whatever the prefixes of the bonuses begin with
  pub prefixes_kept : ((front : List Break) → leads_further (take i bonus) front ≡ true → leads_further es front ≡ true)
      → (front : List Break) → leads_further (take (i + 1) bonus) front ≡ true → leads_further (with_added es (get_or bonus i d).0 (get_or bonus i d).1) front ≡ true
  prefixes_kept before front h =
      let e = get_or bonus i d in
      let test : List Break × ℤ → Bool = λ e. begins_with e.0 front in
      let parts : (list_any test (take i bonus) || list_any test (e ∷ [])) ≡ true = sym (list_any-append test (take i bonus) (e ∷ [])) ∙ sym (ap (λ (l : List (List Break × ℤ)). leads_further l front) (take_more bonus i d inside)) ∙ h in
      elim (or_cases (list_any test (take i bonus)) (list_any test (e ∷ [])) parts) [
        | inl a ↦ leads_kept es e.0 e.1 front (before front a)
        | inr b ↦ elim (or_cases (begins_with e.0 front) false b) [ inl begins ↦ leads_new es e.0 e.1 front begins | inr none ↦ absurd (false≢true none) ]
      ]
