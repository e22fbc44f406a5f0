-- The first legal list, break by break.
use Rattle.break_rules.proofs.Common.{◌≡◌, ◌⊎◌, inl, inr, ℕ, ◌-◌, ◌<◌, arith, Bool, true, false, ◌&&◌, List, [], ◌∷◌, ◌++◌, refl, sym, ap, ◌∙◌, subst, append_assoc, append-nil, Option, Some, None, MatchOption, slice_get, find, fold-append, and_from, false≢true, or_left, or_right, cond_both, cases_Bool, Break, Rule, Spot, same_break, is_less_break, is_less_list, is_legal, is_live, legal_lists, breaks_between, end_of, may_follow, nexts_of, spot_of, is_walk, end_of_all, IsLeastLegal, Has, Sorted}
use Rattle.break_rules.proofs.LegalLists.{live_rest, live_from, no_longer_list, same_break_decides, from_legal_lists, Has-legal_lists}
use Rattle.break_rules.proofs.Ordered.{Sorted-filter, Sorted-breaks, IsLessBreak, least_legal}
use Rattle.break_rules.proofs.Steps.{bounds, from_next}
use Rattle.break_rules.proofs.Reaching.{rest_first}

-- a list by its first element
first_split : {X : Type 0} (xs : List X) (x : X) → slice_get xs 0 ≡ Some x → (rest : List X) × (xs ≡ x ∷ rest)
first_split [] x h = cc
first_split (y ∷ ys) x h = (ys, let e : y ≡ x = cc in ap (λ z. z ∷ ys) e)

-- the first legal list is legal, and no legal list is less
pub first_legal : (rule : Rule) (len : ℕ) (list : List Break) → slice_get (legal_lists rule len) 0 ≡ Some list → is_legal rule len list ≡ true
first_legal rule len list h =
    let s = first_split (legal_lists rule len) list h in
    from_legal_lists rule len list (subst (λ ls. Has ls list) (sym s.1) (inl refl))

pub first_least : (rule : Rule) (len : ℕ) (list other : List Break) → slice_get (legal_lists rule len) 0 ≡ Some list → is_legal rule len other ≡ true → is_less_list other list ≡ false
first_least rule len list other h g = let s = first_split (legal_lists rule len) list h in least_legal rule len list s.0 other s.1 g

-- where no list is live there is none
some_first : {X : Type 0} (xs : List X) (x : X) → Has xs x → (y : X) × (slice_get xs 0 ≡ Some y)
some_first [] x h = absurd h
some_first (y ∷ ys) x h = (y, refl)

pub first_start : (rule : Rule) (len : ℕ) → is_live rule len [] ≡ true → (tail : List Break) × (slice_get (legal_lists rule len) 0 ≡ Some ([] ++ tail))
first_start rule len h = let r = live_rest rule len [] h in some_first (legal_lists rule len) r.0 (Has-legal_lists rule len r.0 r.1)

pub first_none : (rule : Rule) (len : ℕ) → is_live rule len [] ≡ false → slice_get (legal_lists rule len) 0 ≡ None
first_none rule len h = cases (legal_lists rule len) refl
  where
    cases : (xs : List (List Break)) → xs ≡ legal_lists rule len → slice_get xs 0 ≡ None
    cases [] e = refl
    cases (x ∷ xs) e =
        absurd (false≢true (sym h ∙ live_from rule len [] x (from_legal_lists rule len x (subst (λ ls. Has ls x) e (inl refl)))))

-- what is found first
pub find_has : {X : Type 0} (p : X → Bool) (xs : List X) (x : X) → find p xs ≡ Some x → Has xs x × (p x ≡ true)
find_has p [] x h = cc
find_has {X} p (y ∷ ys) x h =
    cond_both (p y) (Some y) (find p ys) (λ o. o ≡ Some x → Has (y ∷ ys) x × (p x ≡ true))
    (λ q g. let e : y ≡ x = cc in (inl e, ap p (sym e) ∙ q))
    (λ q g. let r = find_has p ys x g in (inr r.0, r.1)) h

find_sorted : {X : Type 0} (R : X → X → Type 0) (p : X → Bool) (xs : List X) (x y : X) → Sorted R xs → find p xs ≡ Some x → Has xs y → p y ≡ true → (x ≡ y) ⊎ R x y
find_sorted R p [] x y s h m t = absurd m
find_sorted {X} R p (z ∷ zs) x y s h m t =
    cond_both (p z) (Some z) (find p zs) (λ o. o ≡ Some x → (x ≡ y) ⊎ R x y)
    (λ q g. let e : z ≡ x = cc in elim m [ inl f ↦ inl (sym e ∙ f) | inr n ↦ inr (subst (λ w. R w y) e (s.0 y n)) ])
    (λ q g. elim m [ inl f ↦ absurd (false≢true (sym q ∙ ap p f ∙ t)) | inr n ↦ find_sorted R p zs x y s.1 g n t ]) h

pub find_none_at : {X : Type 0} (p : X → Bool) (xs : List X) (x : X) → find p xs ≡ None → Has xs x → p x ≡ false
find_none_at p xs x h m = elim (cases_Bool (p x)) [ inl t ↦ absurd (some p xs x m t h) | inr f ↦ f ]
  where
    some : {X : Type 0} (p : X → Bool) (xs : List X) (x : X) → Has xs x → p x ≡ true → find p xs ≡ None → ⊥
    some p [] x m t h = absurd m
    some p (y ∷ ys) x m t h =
        cond_both (p y) (Some y) (find p ys) (λ o. o ≡ None → ⊥) (λ q g. cc)
        (λ q g. elim m [ inl e ↦ absurd (false≢true (sym q ∙ ap p e ∙ t)) | inr n ↦ some p ys x n t g ]) h

-- the order behind a common front
less_behind : (front xs ys : List Break) → is_less_list xs ys ≡ true → is_less_list (front ++ xs) (front ++ ys) ≡ true
less_behind [] xs ys h = h
less_behind (b ∷ bs) xs ys h =
    or_right (is_less_break b b) (same_break b b && is_less_list (bs ++ xs) (bs ++ ys)) (and_from (same_break b b) (is_less_list (bs ++ xs) (bs ++ ys)) ((same_break_decides b b).1 refl) (less_behind bs xs ys h))

-- the first break behind which a legal list is reached is the next one of the first legal list
pub first_step : (rule : Rule) (len : ℕ) (list : List Break) (b : Break) (tail : List Break) → slice_get (legal_lists rule len) 0 ≡ Some (list ++ tail)
    → find (λ n. is_live rule len (list ++ n ∷ [])) (nexts_of rule len (spot_of rule list)) ≡ Some b
    → (rest : List Break) × (slice_get (legal_lists rule len) 0 ≡ Some ((list ++ b ∷ []) ++ rest))
first_step rule len list b [] h f =
    let legal : is_legal rule len list ≡ true = sym (ap (is_legal rule len) (append-nil list)) ∙ first_legal rule len (list ++ []) h in
    let r = live_rest rule len (list ++ b ∷ []) (find_has (λ n. is_live rule len (list ++ n ∷ [])) (nexts_of rule len (spot_of rule list)) b f).1 in
    let none : (b ∷ r.0) ≡ [] = no_longer_list rule len list (b ∷ r.0) legal (sym (ap (is_legal rule len) (append_assoc list (b ∷ []) r.0)) ∙ r.1) in
    cc
first_step rule len list b (c ∷ cs) h f =
    let at = spot_of rule list in
    let p : Break → Bool = λ n. is_live rule len (list ++ n ∷ []) in
    let next = rest_first rule len list c cs (first_legal rule len (list ++ c ∷ cs) h) in
    let sorted : Sorted IsLessBreak (nexts_of rule len at) = Sorted-filter IsLessBreak (may_follow rule len at.offset at.used) (breaks_between at.offset len) (Sorted-breaks at.offset len) in
    elim (find_sorted IsLessBreak p (nexts_of rule len at) b c sorted f next.1 next.0) [
      | inl e ↦ (cs, h ∙ ap (λ (x : Break). Some (list ++ x ∷ cs)) (sym e) ∙ ap Some (sym (append_assoc list (b ∷ []) cs)))
      | inr less ↦
          let r = live_rest rule len (list ++ b ∷ []) (find_has p (nexts_of rule len at) b f).1 in
          let legal : is_legal rule len (list ++ b ∷ r.0) ≡ true = sym (ap (is_legal rule len) (append_assoc list (b ∷ []) r.0)) ∙ r.1 in
          let before : is_less_list (list ++ b ∷ r.0) (list ++ c ∷ cs) ≡ true = less_behind list (b ∷ r.0) (c ∷ cs) (or_left (is_less_break b c) (same_break b c && is_less_list r.0 cs) less) in
          absurd (false≢true (sym (first_least rule len (list ++ c ∷ cs) (list ++ b ∷ r.0) h legal) ∙ before))
    ]

-- where no next break leads on, the list is whole
pub first_end : (rule : Rule) (len : ℕ) (list tail : List Break) → slice_get (legal_lists rule len) 0 ≡ Some (list ++ tail)
    → find (λ n. is_live rule len (list ++ n ∷ [])) (nexts_of rule len (spot_of rule list)) ≡ None → slice_get (legal_lists rule len) 0 ≡ Some list
first_end rule len list [] h f = h ∙ ap Some (append-nil list)
first_end rule len list (c ∷ cs) h f =
    let next = rest_first rule len list c cs (first_legal rule len (list ++ c ∷ cs) h) in
    absurd (false≢true (sym (find_none_at (λ n. is_live rule len (list ++ n ∷ [])) (nexts_of rule len (spot_of rule list)) c f next.1) ∙ next.0))

-- what is found at the spot of a walk
pub found_at : (rule : Rule) (len same : ℕ) (list : List Break) (spot : Spot) (found : Option Break) → same ≡ len
    → ((other : List Break) → is_walk rule same other ≡ true → spot ≡ spot_of rule other → found ≡ find (λ n. is_live rule same (other ++ n ∷ [])) (nexts_of rule same spot))
    → is_walk rule len list ≡ true → spot ≡ spot_of rule list → found ≡ find (λ n. is_live rule len (list ++ n ∷ [])) (nexts_of rule len (spot_of rule list))
found_at rule len same list spot found e h walk is =
    h list (ap (λ n. is_walk rule n list) e ∙ walk) is
    ∙ ap (λ n. find (λ b. is_live rule n (list ++ b ∷ [])) (nexts_of rule n spot)) e
    ∙ ap (λ (s : Spot). find (λ b. is_live rule len (list ++ b ∷ [])) (nexts_of rule len s)) is

pub found_next : (rule : Rule) (len : ℕ) (list : List Break) (b : Break) → Some b ≡ find (λ n. is_live rule len (list ++ n ∷ [])) (nexts_of rule len (spot_of rule list)) → Has (nexts_of rule len (spot_of rule list)) b
found_next rule len list b e = (find_has (λ n. is_live rule len (list ++ n ∷ [])) (nexts_of rule len (spot_of rule list)) b (sym e)).0

-- the spot behind a next break is nearer to the end
pub nearer : (rule : Rule) (len : ℕ) (list : List Break) (spot behind : Spot) (b : Break) → spot ≡ spot_of rule list → behind ≡ spot_of rule (list ++ b ∷ []) → Has (nexts_of rule len (spot_of rule list)) b
    → len - behind.offset < len - spot.offset
nearer rule len list spot behind b is at m =
    let f = bounds rule len (spot_of rule list).offset (spot_of rule list).used b (from_next rule len (spot_of rule list) b m) in
    let before : spot.offset ≡ end_of_all list = ap (λ (s : Spot). s.offset) is in
    let after : behind.offset ≡ end_of b = ap (λ (s : Spot). s.offset) at ∙ fold-append (λ (at : ℕ) (c : Break). end_of c) 0 list (b ∷ []) in
    omega arith

-- the first legal list is the least, and where there is none no list is legal
pub least_of : (rule : Rule) (len : ℕ) (found : Option (List Break)) → found ≡ slice_get (legal_lists rule len) 0
    → MatchOption found ((list : List Break) → is_legal rule len list ≡ false) (λ list. IsLeastLegal rule len list)
least_of rule len None e = λ list. elim (cases_Bool (is_legal rule len list)) [
  | inl t ↦ let first = some_first (legal_lists rule len) list (Has-legal_lists rule len list t) in let wrong : ◌≡◌ {A = Option (List Break)} None (Some first.0) = e ∙ first.1 in cc
  | inr f ↦ f
]
least_of rule len (Some list) e = record { legal = first_legal rule len list (sym e); least = λ other h. first_least rule len list other (sym e) h }
