-- The entries that cuts with their prices make, and their sizes.
use Rattle.dual_bound.proofs.Common.{◌≡◌, inl, inr, ℕ, ◌+◌, ◌<◌, ◌≤◌, ℤ, Bool, true, false, cond, not, ◌&&◌, ◌==◌, List, [], ◌∷◌, ◌++◌, length, map, get_or, All, refl, sym, ap, ◌∙◌, subst, arith, append_assoc, unsigned_abs, list_all, zip, filter, All-nil, All-cons, Break, Has, from_map, from_filter, all_at, Cut, is_nil, signed_price, entries_of, is_cut_price, pairs_from, pairs_next, cut_limit, signed_small}

-- whether a cut is one of a shift on a day, with some prefix; and its entry
abbrev pub is_of : ℕ → ℕ → Cut × ℕ → Bool
is_of s day c = not (is_nil c.0.class.prefix) && (s == c.0.class.shift) && (day == c.0.class.day)

abbrev pub entry_of : Cut × ℕ → List Break × ℤ
entry_of c = (c.0.class.prefix, signed_price c.0.side c.1)

-- the entries of a first cut, and those of the others
entries_apart : (s day : ℕ) (c : Cut × ℕ) (cs : List (Cut × ℕ)) → entries_of (c ∷ cs) s day ≡ entries_of (c ∷ []) s day ++ entries_of cs s day
entries_apart s day c cs = go (is_of s day c)
  where
    go : (b : Bool) → map entry_of (cond b (c ∷ filter (is_of s day) cs) (filter (is_of s day) cs)) ≡ map entry_of (cond b (c ∷ []) []) ++ map entry_of (filter (is_of s day) cs)
    go true = refl
    go false = refl

-- the entries of one cut more
pub entries_next : (cuts : List Cut) (prices : List ℕ) (s day k : ℕ) (cut : Cut) (items more all : List (List Break × ℤ)) → k < length cuts → length prices ≡ length cuts → cut ≡ get_or cuts k cut
    → items ++ entries_of (pairs_from cuts prices k) s day ≡ all
    → more ≡ items ++ entries_of ((cut, get_or prices k 0) ∷ []) s day
    → more ++ entries_of (pairs_from cuts prices (k + 1)) s day ≡ all
entries_next cuts prices s day k cut items more all inside count is so_far added =
    let c : Cut × ℕ = (cut, get_or prices k 0) in
    ap (λ (es : List (List Break × ℤ)). es ++ entries_of (pairs_from cuts prices (k + 1)) s day) added
    ∙ append_assoc items (entries_of (c ∷ []) s day) (entries_of (pairs_from cuts prices (k + 1)) s day)
    ∙ ap (λ (es : List (List Break × ℤ)). items ++ es)
    (sym (ap (λ (cs : List (Cut × ℕ)). entries_of cs s day) (pairs_next cuts prices k cut inside count is) ∙ entries_apart s day c (pairs_from cuts prices (k + 1))))
    ∙ so_far

-- the entries, read through slices
pub same_entries : (shown items : List (List Break × ℤ)) (a cuts : List Cut) (b prices : List ℕ) (s day : ℕ) → shown ≡ items → items ≡ entries_of (zip a b) s day → a ≡ cuts → b ≡ prices → shown ≡ entries_of (zip cuts prices) s day
same_entries shown items a cuts b prices s day one two same_cuts same_prices =
    one ∙ two ∙ ap (λ (xs : List Cut). entries_of (zip xs b) s day) same_cuts ∙ ap (λ (ys : List ℕ). entries_of (zip cuts ys) s day) same_prices

-- each entry is at most 10^12
pub entry_small : (cuts : List Cut) (prices : List ℕ) (s day : ℕ) → list_all is_cut_price (zip cuts prices) ≡ true → (e : List Break × ℤ) → Has (entries_of (zip cuts prices) s day) e → unsigned_abs e.1 ≤ 1000000000000
entry_small cuts prices s day h e m =
    let c = from_map entry_of (filter (is_of s day) (zip cuts prices)) e m in
    let f = from_filter (is_of s day) (zip cuts prices) c.0 c.1 in
    subst (λ (x : List Break × ℤ). unsigned_abs x.1 ≤ 1000000000000) c.2
    (signed_small c.0.0.side c.0.1 1000000000000 (cut_limit c.0 (all_at is_cut_price (zip cuts prices) c.0 h f.0)))

pub all_from_has : {X : Type 0} (P : X → Type 0) (xs : List X) → ((x : X) → Has xs x → P x) → All P xs
all_from_has P [] h = All-nil P
all_from_has P (x ∷ xs) h = All-cons P x xs (h x (inl refl)) (all_from_has P xs (λ y m. h y (inr m)))

kept_few : {X : Type 0} (b : Bool) (x : X) (some xs : List X) → length some ≤ length xs → length (cond b (x ∷ some) some) ≤ length (x ∷ xs)
kept_few true x some xs h = omega arith
kept_few false x some xs h = omega arith

filter_few : {X : Type 0} (p : X → Bool) (xs : List X) → length (filter p xs) ≤ length xs
filter_few p [] = omega arith
filter_few p (x ∷ xs) = kept_few (p x) x (filter p xs) xs (filter_few p xs)

zip_few : {X Y : Type 0} (xs : List X) (ys : List Y) → length (zip xs ys) ≤ length xs
zip_few [] ys = omega arith
zip_few (x ∷ xs) [] = omega arith
zip_few (x ∷ xs) (y ∷ ys) = let r = zip_few xs ys in omega arith

map_length : {X Y : Type 0} (f : X → Y) (xs : List X) → length (map f xs) ≡ length xs
map_length f [] = refl
map_length f (x ∷ xs) = let r = map_length f xs in omega arith

-- there are no more entries than cuts
pub entries_few : (cuts : List Cut) (prices : List ℕ) (s day : ℕ) → length (entries_of (zip cuts prices) s day) ≤ length cuts
entries_few cuts prices s day =
    let one = map_length entry_of (filter (is_of s day) (zip cuts prices)) in
    let two = filter_few (is_of s day) (zip cuts prices) in
    let three = zip_few cuts prices in
    omega arith
