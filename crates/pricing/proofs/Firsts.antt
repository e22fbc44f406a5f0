-- The beginnings of the prefixes of bonuses.
use Rattle.pricing.proofs.Common.{◌≡◌, ◌⊎◌, inl, inr, ℕ, ◌+◌, ◌<◌, ◌≤◌, ℤ, pos, Bool, true, false, cond, ◌||◌, append-nil, List, [], ◌∷◌, ◌++◌, map, length, take, drop, get_or, refl, sym, ap, ◌∙◌, subst, arith, add-one, list_any, IsDistinct, AllByRecursion, cond_both, take-append-drop, IsDistinct-head, IsDistinct-tail, insert_key, Break, begins_with, share_of, bonus_of, int_sum_by-same, Has, Has-map, Has-append_cases, Has-append_left, Has-append_right, any_at, any_some, begins_from, leads_further, IsBeginning, HaveFirst, AreBeginnings}
use Rattle.pricing.proofs.Leaving.{first_of, place_in}
use Rattle.pricing.proofs.Most.{has_at}
use Rattle.pricing.proofs.ByEdges.{map-append}

-- a prefix begins with its beginnings
begins_take : (prefix : List Break) (n : ℕ) → begins_with prefix (take n prefix) ≡ true
begins_take prefix n = begins_from prefix (take n prefix) (drop n prefix) (sym (take-append-drop n prefix))

-- and none of these is empty
some_first : (prefix : List Break) (k : ℕ) → k < length prefix → (b : Break) × (bs : List Break) × (take (k + 1) prefix ≡ b ∷ bs)
some_first [] k l = absurd (omega arith)
some_first (b ∷ bs) k l = (b, take k bs, ap (λ n. take n (b ∷ bs)) (add-one k))

-- each of some lists is a beginning of one of the first prefixes
abbrev pub AreOfFirst : List (List Break × ℤ) → ℕ → List (List Break) → Type 0
AreOfFirst bonus many lists = (list : List Break) → Has lists list → (j : ℕ) × (j < many) × IsBeginning (get_or bonus j ([], pos 0)).0 list

-- among some lists are all beginnings of the first prefixes
abbrev pub HaveAllFirst : List (List Break × ℤ) → ℕ → List (List Break) → Type 0
HaveAllFirst bonus many lists = (j : ℕ) → j < many → HaveFirst lists (get_or bonus j ([], pos 0)).0 (length (get_or bonus j ([], pos 0)).0)

-- the beginnings of all prefixes
pub beginnings_of : (bonus : List (List Break × ℤ)) (many : ℕ) (lists : List (List Break)) → many ≤ length bonus → length bonus ≤ many → AreOfFirst bonus many lists → HaveAllFirst bonus many lists
    → ((list : List Break) → Has lists list → (b : Break) × (bs : List Break) × (list ≡ b ∷ bs) × (leads_further bonus list ≡ true)) × ((b : Break) (bs : List Break) → leads_further bonus (b ∷ bs) ≡ true → Has lists (b ∷ bs))
beginnings_of bonus many lists some all each first = (
  λ list m.
      let of = each list m in
      let e : List Break × ℤ = get_or bonus of.0 ([], pos 0) in
      let is = of.2 in
      let one = some_first e.0 is.0 is.1 in
      (one.0, one.1, is.2 ∙ one.2, any_at (λ (e : List Break × ℤ). begins_with e.0 list) bonus e (has_at bonus of.0 ([], pos 0) (omega (arith, of.1))) (ap (begins_with e.0) is.2 ∙ begins_take e.0 (is.0 + 1))),
  λ b bs leads.
      let e = any_some (λ (e : List Break × ℤ). begins_with e.0 (b ∷ bs)) bonus leads in
      let at = place_in bonus e.0 ([], pos 0) e.1 in
      elim (first_of e.0.0 (b ∷ bs) e.2) [
        | inl none ↦ absurd (let n : length (b ∷ bs) ≡ 0 = ap length none in omega arith)
        | inr k ↦
            let here : (get_or bonus at.0 ([], pos 0)).0 ≡ e.0.0 = ap (λ (x : List Break × ℤ). x.0) at.2 in
            subst (Has lists) (ap (take (k.0 + 1)) here ∙ k.2) (first at.0 (omega (arith, at.1)) k.0 (subst (λ (l : List Break). k.0 < length l) (sym here) k.1))
      ],
)

-- where no prefix has a beginning all lists get the same bonuses
pub alike_without : (bonus : List (List Break × ℤ)) (lists : List (List Break)) → AreBeginnings bonus lists → length lists ≡ 0 → (list : List Break) → bonus_of bonus list ≡ bonus_of bonus []
alike_without bonus lists are none list = int_sum_by-same (share_of list) (share_of []) bonus (λ e m. one e.0 e.1 m)
  where
    one : (prefix : List Break) (x : ℤ) → Has bonus (prefix, x) → share_of list (prefix, x) ≡ share_of [] (prefix, x)
    one [] x m = ap (λ t. cond t x (pos 0)) (begins_from list [] list refl ∙ sym (begins_from [] [] [] refl))
    one (b ∷ bs) x m =
        let leads : leads_further bonus (b ∷ bs) ≡ true = any_at (λ (e : List Break × ℤ). begins_with e.0 (b ∷ bs)) bonus (b ∷ bs, x) m (begins_from (b ∷ bs) (b ∷ bs) [] (sym (append-nil (b ∷ bs)))) in
        let at = place_in lists (b ∷ bs) [] (are.all b bs leads) in
        absurd (omega (arith, at.1, none))

-- lists that differ by a test of what they are seen as
pub distinct_map : {X Y : Type 0} (f : X → Y) (eq : Y → Y → Bool) (xs : List X) → IsDistinct (λ a b. eq (f a) (f b)) xs → IsDistinct eq (map f xs)
unfolding IsDistinct
distinct_map f eq [] d = tt
distinct_map {X = X} f eq (x ∷ xs) d = (all_map xs (IsDistinct-head (λ a b. eq (f a) (f b)) x xs d), distinct_map f eq xs (IsDistinct-tail (λ a b. eq (f a) (f b)) x xs d))
  where
    all_map : (ys : List X) → AllByRecursion (λ y. eq (f x) (f y) ≡ false) ys → AllByRecursion (λ y. eq (f x) y ≡ false) (map f ys)
    all_map [] a = tt
    all_map (y ∷ ys) a = (a.0, all_map ys a.1)

-- a key that is inserted into keys without two that are equal
module _ {K : Type 0} (items : K → List Break) (eq : K → K → Bool) (same : (a b : K) → eq a b ≡ true → items a ≡ items b) (keys : List K) (key : K) where
  longer : map items (keys ++ key ∷ []) ≡ map items keys ++ items key ∷ []
  longer = map-append items keys (key ∷ [])

  pub has_inserted : Has (map items (insert_key eq keys key)) (items key)
  has_inserted =
      cond_both (list_any (eq key) keys) keys (keys ++ key ∷ []) (λ ks. Has (map items ks) (items key))
      (λ t. let x = any_some (eq key) keys t in subst (Has (map items keys)) (sym (same key x.0 x.2)) (Has-map items keys x.0 x.1))
      (λ n. subst (λ l. Has l (items key)) (sym longer) (Has-append_right (map items keys) (items key ∷ []) (items key) (inl refl)))

  pub keeps_inserted : (other : List Break) → Has (map items keys) other → Has (map items (insert_key eq keys key)) other
  keeps_inserted other m =
      cond_both (list_any (eq key) keys) keys (keys ++ key ∷ []) (λ ks. Has (map items ks) other)
      (λ t. m)
      (λ n. subst (λ l. Has l other) (sym longer) (Has-append_left (map items keys) (items key ∷ []) other m))

  pub only_inserted : (other : List Break) → Has (map items (insert_key eq keys key)) other → Has (map items keys) other ⊎ (other ≡ items key)
  only_inserted other =
      cond_both (list_any (eq key) keys) keys (keys ++ key ∷ []) (λ ks. Has (map items ks) other → Has (map items keys) other ⊎ (other ≡ items key))
      (λ t m. inl m)
      (λ n m. elim (Has-append_cases (map items keys) (items key ∷ []) other (subst (λ l. Has l other) longer m)) [
        | inl a ↦ inl a
        | inr b ↦ elim b [ inl e ↦ inr (sym e) | inr none ↦ absurd none ]
      ])

-- some element passes where what it is seen as does
pub any_map : {X Y : Type 0} (f : X → Y) (p : Y → Bool) (xs : List X) → list_any (λ x. p (f x)) xs ≡ list_any p (map f xs)
any_map f p [] = refl
any_map f p (x ∷ xs) = ap (λ b. p (f x) || b) (any_map f p xs)
