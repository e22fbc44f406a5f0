-- Lists that grow with a number.
use Rattle.advisers.proofs.Common.{◌≡◌, ℕ, ◌+◌, ℤ, List, [], ◌∷◌, ◌++◌, length, map, sym, ap, ◌∙◌, arith, flat_map, map-range_with_len_more, flat_map-append, Duty, Problem, shift_list, slots, below, cover, Cut, balance_price, forced_of, forced_prices, forced_rota}
use Rattle.std.proofs.lemmas.List.{append-nil, append_assoc}
use Rattle.head_splits.proofs.WholeWalk.{below_next}

flat_next : {X : Type 0} (f : ℕ → List X) (n : ℕ) → flat_map f (below n) ++ f n ≡ flat_map f (below (n + 1))
flat_next f n = sym (ap (flat_map f) (below_next n) ∙ flat_map-append f (below n) (n ∷ []) ∙ ap (λ l. flat_map f (below n) ++ l) (append-nil (f n)))

-- one number more
pub flat_more : {X : Type 0} (f : ℕ → List X) (n : ℕ) (front now next : List X) → now ≡ front ++ flat_map f (below n) → next ≡ now ++ f n → next ≡ front ++ flat_map f (below (n + 1))
flat_more f n front now next before more =
    more ∙ ap (λ l. l ++ f n) before ∙ append_assoc front (flat_map f (below n)) (f n) ∙ ap (λ l. front ++ l) (flat_next f n)

pub flat_more_alone : {X : Type 0} (f : ℕ → List X) (n : ℕ) (now next : List X) → now ≡ flat_map f (below n) → next ≡ now ++ f n → next ≡ flat_map f (below (n + 1))
flat_more_alone f n now next before more = more ∙ ap (λ l. l ++ f n) before ∙ flat_next f n

pub rota_is : (i : Problem) (cuts : List Cut) (duties : List Duty) (n : ℕ) → duties ≡ flat_map (forced_of i cuts) (below n) → n ≡ length (shift_list i) → duties ≡ forced_rota i cuts
unfolding forced_rota
rota_is i cuts duties n are all = are ∙ ap (λ k. flat_map (forced_of i cuts) (below k)) all

-- the prices of one slot more, and of all
abbrev price_at : Problem → List Cut → ℕ → ℤ
price_at i cuts t = balance_price i t (cover i (forced_rota i cuts) t)

pub prices_more : (i : Problem) (cuts : List Cut) (t c : ℕ) (prices more : List ℤ) (v : ℤ) → prices ≡ map (price_at i cuts) (below t) → more ≡ prices ++ v ∷ [] → v ≡ balance_price i t c → c ≡ cover i (forced_rota i cuts) t
    → more ≡ map (price_at i cuts) (below (t + 1))
prices_more i cuts t c prices more v are pushed price working =
    pushed ∙ ap (λ (l : List ℤ). l ++ v ∷ []) are ∙ ap (λ (z : ℤ). map (price_at i cuts) (below t) ++ z ∷ []) (price ∙ ap (balance_price i t) working) ∙ sym (map-range_with_len_more (price_at i cuts) 0 t t (omega arith))

pub prices_are : (i : Problem) (cuts : List Cut) (t : ℕ) (prices : List ℤ) → prices ≡ map (price_at i cuts) (below t) → t ≡ slots i → prices ≡ forced_prices i cuts
unfolding forced_prices
prices_are i cuts t prices are all = are ∙ ap (λ n. map (price_at i cuts) (below n)) all
