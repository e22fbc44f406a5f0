-- Lists of numbers that are added up, and histories that grow.
use Rattle.turn_lock.proofs.Common.{◌≡◌, ◌≢◌, ◌⊎◌, ℕ, zero, suc, ◌+◌, ◌≤◌, eqb, cond, Bool, true, false, List, [], ◌∷◌, ◌++◌, set, sym, refl, ap, ◌∙◌, inl, inr, ⊎_elim, arith, append_assoc, append-nil, ne_eqb, eq-eqb, some, some-injective, some-ne-none, get_elem?, Pass, Part, of_number, AddsAtMostOne, IsPrefix, one_if, times_in, total, AreKnown}

-- ---- numbers added up

pub total_set : {V : Type 0} (f : V → ℕ) (l : List V) (i : ℕ) (a b : V) → get_elem? l i ≡ some a → total f (set l i b) + f a ≡ total f l + f b
total_set f [] i a b e = absurd (some-ne-none a (sym e))
total_set f (x ∷ xs) zero a b e = let same : f x ≡ f a = ap f (some-injective x a e) in omega arith
total_set f (x ∷ xs) (suc i) a b e = let h = total_set f xs i a b e in omega arith

pub total_snoc : {V : Type 0} (f : V → ℕ) (l : List V) (a : V) → total f (l ++ a ∷ []) ≡ total f l + f a
total_snoc f [] a = omega arith
total_snoc f (x ∷ xs) a = let h = total_snoc f xs a in omega arith

pub total_at : {V : Type 0} (f : V → ℕ) (l : List V) (i : ℕ) (a : V) → get_elem? l i ≡ some a → f a ≤ total f l
total_at f [] i a e = absurd (some-ne-none a (sym e))
total_at f (x ∷ xs) zero a e = let same : f x ≡ f a = ap f (some-injective x a e) in omega arith
total_at f (x ∷ xs) (suc i) a e = let h = total_at f xs i a e in omega arith

pub total_two : {V : Type 0} (f : V → ℕ) (l : List V) (i j : ℕ) (a b : V) → i ≢ j → get_elem? l i ≡ some a → get_elem? l j ≡ some b → f a + f b ≤ total f l
total_two f [] i j a b ne p q = absurd (some-ne-none a (sym p))
total_two f (x ∷ xs) zero zero a b ne p q = absurd (ne refl)
total_two f (x ∷ xs) zero (suc j) a b ne p q = let same : f x ≡ f a = ap f (some-injective x a p) in let h = total_at f xs j b q in omega arith
total_two f (x ∷ xs) (suc i) zero a b ne p q = let same : f x ≡ f b = ap f (some-injective x b q) in let h = total_at f xs i a p in omega arith
total_two f (x ∷ xs) (suc i) (suc j) a b ne p q = let h = total_two f xs i j a b (λ e. ne (ap suc e)) p q in omega arith

pub set_at : {A : Type 0} (l : List A) (i : ℕ) (a b : A) → get_elem? l i ≡ some a → get_elem? (set l i b) i ≡ some b
set_at [] i a b e = absurd (some-ne-none a (sym e))
set_at (x ∷ xs) zero a b e = refl
set_at (x ∷ xs) (suc i) a b e = set_at xs i a b e

-- ---- histories

-- of two beginnings of one list one begins the other
pub comparable : (xs ys log : List Pass) → IsPrefix xs log → IsPrefix ys log → IsPrefix xs ys ⊎ IsPrefix ys xs
comparable [] ys log p q = inl (ys, refl)
comparable (x ∷ xs) [] log p q = inr (x ∷ xs, refl)
comparable (x ∷ xs) (y ∷ ys) [] p q = absurd (cc (p.1))
comparable (x ∷ xs) (y ∷ ys) (z ∷ zs) p q =
    let a : z ∷ zs ≡ x ∷ (xs ++ p.0) = p.1 in let b : z ∷ zs ≡ y ∷ (ys ++ q.0) = q.1 in
    let xz : x ≡ y = cc in
    let az : zs ≡ xs ++ p.0 = cc in let bz : zs ≡ ys ++ q.0 = cc in
    ⊎_elim
    (λ (r : IsPrefix xs ys). inl (r.0, (λ i. sym xz i ∷ r.1 i)))
    (λ (r : IsPrefix ys xs). inr (r.0, (λ i. xz i ∷ r.1 i)))
    (comparable xs ys zs (p.0, az) (q.0, bz))

pub grows : (xs log new : List Pass) → IsPrefix xs log → IsPrefix xs (log ++ new)
grows xs log new p = (p.0 ++ new, ap (λ (l : List Pass). l ++ new) p.1 ∙ append_assoc xs p.0 new)

cond_append : (b : Bool) (p : Pass) (xs ys : List Pass) → cond b (p ∷ xs) xs ++ ys ≡ cond b (p ∷ (xs ++ ys)) (xs ++ ys)
cond_append true p xs ys = refl
cond_append false p xs ys = refl

pub of_number-append : (n : ℕ) (xs ys : List Pass) → of_number n (xs ++ ys) ≡ of_number n xs ++ of_number n ys
of_number-append n [] ys = refl
of_number-append n (p ∷ ps) ys =
    ap (λ (l : List Pass). cond (eqb p.seat n) (p ∷ l) l) (of_number-append n ps ys) ∙ sym (cond_append (eqb p.seat n) p (of_number n ps) (of_number n ys))

-- the passes of one turn: none, or one of this number
pub data New (n : ℕ) : List Pass → Type 0 where
  none_new : New n []
  one_new : (p : Pass) → p.seat ≡ n → New n (p ∷ [])

pub added : (n : ℕ) (before after : List Pass) → AddsAtMostOne n before after → (new : List Pass) × New n new × (after ≡ before ++ new)
added n before after adds =
    ⊎_elim
    (λ (same : after ≡ before). ([], none_new, same ∙ sym (append-nil before)))
    (λ (one : (p : Pass) × (p.seat ≡ n) × (after ≡ before ++ p ∷ [])). (one.0 ∷ [], one_new one.0 one.1, one.2))
    adds

-- a turn adds its passes to those of its number
pub own_new : (n : ℕ) (new : List Pass) → New n new → of_number n new ≡ new
own_new n _ none_new = refl
own_new n _ (one_new p e) = ap (λ (b : Bool). cond b (p ∷ []) []) (eq-eqb p.seat n e)

-- and none to those of another number
other_new : (n m : ℕ) (new : List Pass) → New n new → m ≢ n → of_number m new ≡ []
other_new n m _ none_new ne = refl
other_new n m _ (one_new p e) ne = ap (λ (b : Bool). cond b (p ∷ []) []) (ne_eqb p.seat m (λ q. ne (sym q ∙ e)))

pub other_stays : (n m : ℕ) (log new : List Pass) → New n new → m ≢ n → of_number m (log ++ new) ≡ of_number m log
other_stays n m log new fresh ne =
    of_number-append m log new ∙ ap (λ (l : List Pass). of_number m log ++ l) (other_new n m new fresh ne) ∙ append-nil (of_number m log)

-- where no part is counted for a number, none has it
pub differs : (a b : ℕ) → one_if (eqb a b) ≡ 0 → a ≢ b
differs a b none e = let one : one_if (eqb a b) ≡ 1 = ap one_if (eq-eqb a b e) in absurd (omega arith)

-- a turn of another number leaves all that is known of parts
pub parts_grow : {R : Type 0} (key : R) (n : ℕ) (log new : List Pass) (ps : List (Part R)) → New n new → times_in n ps ≡ 0 → AreKnown key log ps → AreKnown key (log ++ new) ps
parts_grow key n log new [] fresh none h = tt
parts_grow key n log new (p ∷ ps) fresh none h =
    let here : one_if (eqb p.number n) ≡ 0 = omega arith in
    let others : times_in n ps ≡ 0 = omega arith in (
      (h.0.0, grows p.known log new h.0.1, other_stays n p.number log new fresh (differs p.number n here) ∙ h.0.2),
      parts_grow key n log new ps fresh others h.1,
    )
