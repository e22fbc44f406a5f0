-- Records and the batches that they spell.
use Rattle.post_codec.proofs.Common.{◌≡◌, ℕ, zero, suc, ◌+◌, ◌<◌, List, [], ◌∷◌, ◌++◌, length, map, take, get_or, refl, sym, ◌∙◌, ap, subst, arith, AllZip, append-nil, map_more, flat_map-append, PriceWidth, Post, SpellsBy, EachSpellsOnce}
use Rattle.post_codec.specs.Batches.{joined, SpellPostsBy}

-- ---- lists that go together, place by place
pub zip_push : {A B : Type 0} (R : A → B → Type 0) (xs : List A) (ys : List B) (x : A) (y : B) → AllZip R xs ys → R x y → AllZip R (xs ++ x ∷ []) (ys ++ y ∷ [])
zip_push R [] [] x y z r = (r, tt)
zip_push R [] (b ∷ bs) x y z r = absurd z
zip_push R (a ∷ xs) [] x y z r = absurd z
zip_push R (a ∷ xs) (b ∷ ys) x y z r = (z.0, zip_push R xs ys x y z.1 r)

pub zip_length : {A B : Type 0} (R : A → B → Type 0) (xs : List A) (ys : List B) → AllZip R xs ys → length xs ≡ length ys
zip_length R [] [] z = refl
zip_length R [] (b ∷ bs) z = absurd z
zip_length R (a ∷ xs) [] z = absurd z
zip_length R (a ∷ xs) (b ∷ ys) z = ap suc (zip_length R xs ys z.1)

pub zip_take : {A B : Type 0} (R : A → B → Type 0) (n : ℕ) (xs : List A) (ys : List B) → AllZip R xs ys → AllZip R (take n xs) (take n ys)
zip_take R zero xs ys z = tt
zip_take R (suc n) [] [] z = tt
zip_take R (suc n) [] (b ∷ bs) z = absurd z
zip_take R (suc n) (a ∷ xs) [] z = absurd z
zip_take R (suc n) (a ∷ xs) (b ∷ ys) z = (z.0, zip_take R n xs ys z.1)

pub zip_append : {A B : Type 0} (R : A → B → Type 0) (xs us : List A) (ys vs : List B) → AllZip R xs ys → AllZip R us vs → AllZip R (xs ++ us) (ys ++ vs)
zip_append R [] us [] vs z w = w
zip_append R [] us (b ∷ bs) vs z w = absurd z
zip_append R (a ∷ xs) us [] vs z w = absurd z
zip_append R (a ∷ xs) us (b ∷ ys) vs z w = (z.0, zip_append R xs us ys vs z.1 w)

pub zip_left : {A B : Type 0} (R : A → B → Type 0) (xs : List A) (ys : List B) → AllZip R xs ys → ys ≡ [] → xs ≡ []
zip_left R [] ys z e = refl
zip_left R (a ∷ xs) [] z e = absurd z
zip_left R (a ∷ xs) (b ∷ ys) z e = absurd (cc)

pub zip_right : {A B : Type 0} (R : A → B → Type 0) (xs : List A) (ys : List B) → AllZip R xs ys → xs ≡ [] → ys ≡ []
zip_right R xs [] z e = refl
zip_right R [] (b ∷ ys) z e = absurd z
zip_right R (a ∷ xs) (b ∷ ys) z e = absurd (cc)

-- ---- records spell one list of batches
pub batches_once : {w : PriceWidth} → EachSpellsOnce w → (records : List (List ℕ)) (one other : List (List Post)) → AllZip (SpellsBy w) records one → AllZip (SpellsBy w) records other → one ≡ other
batches_once once [] [] [] a b = refl
batches_once once [] [] (y ∷ ys) a b = absurd b
batches_once once [] (x ∷ xs) ys a b = absurd a
batches_once once (r ∷ rs) [] ys a b = absurd a
batches_once once (r ∷ rs) (x ∷ xs) [] a b = absurd b
batches_once once (r ∷ rs) (x ∷ xs) (y ∷ ys) a b =
    let first : x ≡ y = once r x y a.0 b.0 in
    let others : xs ≡ ys = batches_once once rs xs ys a.1 b.1 in
    cc

pub posts_once : {w : PriceWidth} → EachSpellsOnce w → (records : List (List ℕ)) (one other : List Post) → SpellPostsBy w records one → SpellPostsBy w records other → one ≡ other
posts_once once records one other a b = sym a.all ∙ ap joined (batches_once once records a.batches b.batches a.spelled b.spelled) ∙ b.all

pub none_spelled : {w : PriceWidth} → SpellPostsBy w [] []
none_spelled = record { batches = []; spelled = tt; all = refl }

-- one record more
pub spell_more : {w : PriceWidth} (records : List (List ℕ)) (posts : List Post) (bytes : List ℕ) (batch : List Post) → SpellPostsBy w records posts → SpellsBy w bytes batch → SpellPostsBy w (records ++ bytes ∷ []) (posts ++ batch)
spell_more {w} records posts bytes batch s b = record {
  batches = s.batches ++ batch ∷ [];
  spelled = zip_push (SpellsBy w) records s.batches bytes batch s.spelled b;
  all = flat_map-append (λ (l : List Post). l) s.batches (batch ∷ []) ∙ ap (λ (l : List Post). joined s.batches ++ l) (append-nil batch) ∙ ap (λ (l : List Post). l ++ batch) s.all;
}

-- the same at a place of a list of records
pub spell_next : {w : PriceWidth} {V : Type 0} (f : V → List ℕ) (records : List V) (k : ℕ) (x : V) (posts batch : List Post) → k < length records → x ≡ get_or records k x → SpellPostsBy w (map f (take k records)) posts → SpellsBy w (f x) batch → SpellPostsBy w (map f (take (k + 1) records)) (posts ++ batch)
spell_next {w} {V} f records k x posts batch small at s b =
    let more : map f (take (k + 1) records) ≡ map f (take k records) ++ f x ∷ [] = map_more f records k x small ∙ ap (λ (y : V). map f (take k records) ++ f y ∷ []) (sym at) in
    subst (λ (l : List (List ℕ)). SpellPostsBy w l (posts ++ batch)) (sym more) (spell_more (map f (take k records)) posts (f x) batch s b)
