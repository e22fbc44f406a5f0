-- What the advisers of a run were told, from what their seats count.
use Rattle.solve_runs.proofs.Common.{◌≡◌, ℕ, zero, suc, ◌+◌, ◌<◌, ◌^◌, All, List, [], ◌∷◌, ◌++◌, length, map, take, get_or, sum_by, refl, sym, ap, ◌∙◌, subst, arith, get_or-map, length-map, sum-map, sum_by-cons, workers_for, AreTold, AreUntold}

-- the type of a list's elements
abbrev pub Element : {A : Type 0} → List A → Type 0
Element {A} xs = A

module _ {S : Type 0} where
  -- counts that are the same element by element
  same_sum : (f g : S → ℕ) (xs : List S) → All (λ s. f s ≡ g s) xs → sum_by f xs ≡ sum_by g xs
  same_sum f g [] each = refl
  same_sum f g (x ∷ xs) each =
      let a : f x ≡ g x = each 0 x (omega arith) in
      let b : sum_by f xs ≡ sum_by g xs = same_sum f g xs (λ k d low. each (suc k) d (omega arith)) in
      omega (arith, sum_by-cons f x xs, sum_by-cons g x xs)

  -- seats that were told as often as they have commits
  pub are_told : (teller told share : S → ℕ) (workers : ℕ) (before after : List S) → length before ≡ workers → length after ≡ workers → All (λ s. told s ≡ share s) after
      → ((i : ℕ) (d : S) → i < workers → teller (get_or before i d) < 2 ^ 63 → teller (get_or after i d) ≡ teller (get_or before i d) + told (get_or after i d))
      → AreTold workers (sum_by share after) (record { before = map teller before; after = map teller after })
  are_told teller told share workers before after many same each grown = record {
    served = length-map after teller ∙ same;
    grown = map told after;
    all = length-map after told ∙ same;
    each = λ k low small. grows before after k low (omega (arith, low, many)) (omega (arith, low, same)) grown small;
    together = sum-map told after ∙ same_sum told share after each;
  }
    where
      grows : (xs ys : List S) (k : ℕ) → k < workers → k < length xs → k < length ys
          → ((i : ℕ) (d : S) → i < workers → teller (get_or xs i d) < 2 ^ 63 → teller (get_or ys i d) ≡ teller (get_or xs i d) + told (get_or ys i d))
          → get_or (map teller xs) k 0 < 2 ^ 63 → get_or (map teller ys) k 0 ≡ get_or (map teller xs) k 0 + get_or (map told ys) k 0
      grows [] ys k low here there grown small = absurd (omega (arith, here))
      grows (x ∷ xs) ys k low here there grown small =
          let was : get_or (map teller (x ∷ xs)) k 0 ≡ teller (get_or (x ∷ xs) k x) = get_or-map teller (x ∷ xs) k x 0 here in
          let is : get_or (map teller ys) k 0 ≡ teller (get_or ys k x) = get_or-map teller ys k x 0 there in
          let more : get_or (map told ys) k 0 ≡ told (get_or ys k x) = get_or-map told ys k x 0 there in
          let grew = grown k x low (subst (λ (n : ℕ). n < 2 ^ 63) was small) in
          omega (arith, was, is, more, grew)

-- ---- advisers that serve are the first of all

first_same : (xs : List ℕ) (workers k : ℕ) → k < workers → get_or (take workers xs) k 0 ≡ get_or xs k 0
first_same xs zero k low = absurd (omega arith)
first_same [] (suc workers) k low = refl
first_same (x ∷ xs) (suc workers) zero low = refl
first_same (x ∷ xs) (suc workers) (suc k) low = first_same xs workers k (omega arith)

pub told_of_all : (workers commits : ℕ) (before after : List ℕ) → AreTold workers commits (record { before = take workers before; after = after }) → AreTold workers commits (record { before = before; after = after })
told_of_all workers commits before after t = record {
  served = t.served;
  grown = t.grown;
  all = t.all;
  each = λ k low small.
      let same : get_or (take workers before) k 0 ≡ get_or before k 0 = first_same before workers k low in
      t.each k low (subst (λ (n : ℕ). n < 2 ^ 63) (sym same) small) ∙ ap (λ (n : ℕ). n + get_or t.grown k 0) same;
  together = t.together;
}

take_again : (xs : List ℕ) (n : ℕ) → take n (take n xs) ≡ take n xs
take_again xs zero = refl
take_again [] (suc n) = refl
take_again (x ∷ xs) (suc n) = ap (λ (l : List ℕ). x ∷ l) (take_again xs n)

pub untold_of_all : (workers : ℕ) (before after : List ℕ) → AreUntold workers (record { before = take workers before; after = after }) → AreUntold workers (record { before = before; after = after })
untold_of_all workers before after same = same ∙ take_again before workers

-- advisers that nobody asked come back as they were
pub untold : (xs : List ℕ) → AreUntold (length xs) (record { before = xs; after = xs })
untold [] = refl
untold (x ∷ xs) = ap (λ (l : List ℕ). x ∷ l) (untold xs)

pub untold_of : {A : Type 0} (f : A → ℕ) (n : ℕ) (xs : List A) → n ≡ length xs → AreUntold n (record { before = map f xs; after = map f xs })
untold_of f n xs same =
    let many : length (map f xs) ≡ n = length-map xs f ∙ sym same in
    subst (λ (k : ℕ). AreUntold k (record { before = map f xs; after = map f xs })) many (untold (map f xs))

-- what is made of elements through a part of each
module _ {A B : Type 0} (f : A → B) (g : B → ℕ) where
  through : (xs : List A) → map (λ x. g (f x)) xs ≡ map g (map f xs)
  through [] = refl
  through (x ∷ xs) = ap (λ (l : List ℕ). g (f x) ∷ l) (through xs)

  pub map_through : (xs : List A) (ys : List B) → map f xs ≡ ys → map (λ x. g (f x)) xs ≡ map g ys
  map_through xs ys same = through xs ∙ ap (map g) same

-- what is made of the first elements
pub map_take : {A : Type 0} (f : A → ℕ) (n : ℕ) (xs : List A) → map f (take n xs) ≡ take n (map f xs)
map_take f zero xs = refl
map_take f (suc n) [] = refl
map_take f (suc n) (x ∷ xs) = ap (λ (l : List ℕ). f x ∷ l) (map_take f n xs)

-- what is made of the one element of a list, and of one behind none
pub map_single : {A : Type 0} (f : A → ℕ) (xs : List A) (x : A) → length xs ≡ 1 → x ≡ get_or xs 0 x → map f xs ≡ f x ∷ []
map_single f [] x one is = absurd (omega (arith, one))
map_single f (y ∷ []) x one is = ap (λ z. f z ∷ []) (sym is)
map_single f (y ∷ z ∷ zs) x one is = absurd (omega (arith, one))

pub map_last : {A : Type 0} (f : A → ℕ) (xs ys : List A) (y : A) → length xs ≡ 0 → ys ≡ xs ++ y ∷ [] → map f ys ≡ f y ∷ []
map_last f [] ys y none is = ap (map f) is
map_last f (x ∷ xs) ys y none is = absurd (omega (arith, none))

-- for how many workers there are advisers
pub have_same : {A : Type 0} (f : A → ℕ) (xs ys : List A) (n : ℕ) → n ≡ workers_for (map f xs) → xs ≡ ys → n ≡ workers_for (map f ys)
have_same f xs ys n all same = subst (λ l. n ≡ workers_for (map f l)) same all
