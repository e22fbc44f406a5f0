-- What the advisers of workers are told last, through the stages of a run.
use Rattle.worker_gate.proofs.Common.{◌≡◌, inl, inr, ℕ, zero, suc, ◌+◌, ◌<◌, ◌≤◌, ◌&&◌, not, Bool, true, List, [], ◌∷◌, length, map, get_or, set, refl, sym, ap, ◌∙◌, subst, arith, Option, Some, ∥∥₁_map, list_all, cases_Bool, length-map, Told, Kept, StepPosts, BoardView, Commits, BoardRoot, AreTurns, news_of, IsNews, IsToldLast}
use Rattle.board_lock.specs.declared.view.View.{View}
use Rattle.worker_gate.proofs.Pointwise.{any_default, set_each}

-- a commit on a board that turns have made is news
pub news_made : (workers : ℕ) (first before after : BoardView) (commits number : ℕ) (step : StepPosts) (kept : Kept) → ∥ AreTurns workers first before commits ∥₁ → Commits number step before after kept
    → ∥ IsNews workers first number (news_of step.node kept) ∥₁
news_made workers first before after commits number step kept turns made =
    let news : AreTurns workers first before commits → IsNews workers first number (news_of step.node kept) =
    λ there. record { before = before; commits = commits; turns = there; step = step; kept = kept; after = after; makes = made; is = refl } in
    ∥∥₁_map turns news

module _ (workers : ℕ) (first : BoardView) (number : ℕ) where
  told_more : (a b : ℕ) (x y : Option Told) → IsToldLast workers first number a b x y → a ≤ b
  told_more a b x y t =
      elim t [
        | inl s ↦ let e : b ≡ a = s.0 in omega arith
        | inr s ↦ let e : a < b = s.0 in omega arith
      ]

  -- from one state to a second, and from there to a third
  pub told_on : (a b c : ℕ) (x y z : Option Told) → IsToldLast workers first number a b x y → IsToldLast workers first number b c y z → IsToldLast workers first number a c x z
  told_on a b c x y z one two =
      elim two [
        | inl s ↦
            elim one [
              | inl t ↦ inl (s.0 ∙ t.0, s.1 ∙ t.1)
              | inr t ↦
                  let same : c ≡ b = s.0 in
                  let less : a < b = t.0 in
                  let e : a < c = omega arith in
                  inr (e, (t.1.0, s.1 ∙ t.1.1, t.1.2))
            ]
        | inr s ↦
            let more : a ≤ b = told_more a b x y one in
            let less : b < c = s.0 in
            let e : a < c = omega arith in
            inr (e, s.1)
      ]

module _ {A : Type 0} (Q : ℕ → A → A → Type 0) where
  abbrev pub Each : List A → List A → Type 0
  Each xs ys = (i : ℕ) (d : A) → i < length xs → Q i (get_or xs i d) (get_or ys i d)

  -- the first place alone is changed
  pub first_each : (xs : List A) (x y : A) → ((i : ℕ) (z : A) → Q i z z) → x ≡ get_or xs 0 x → Q 0 x y → Each xs (set xs 0 y)
  first_each [] x y same is one i d low = absurd (omega arith)
  first_each (z ∷ xs) x y same is one zero d low = subst (λ (p : A). Q 0 p y) is one
  first_each (z ∷ xs) x y same is one (suc i) d low = same (suc i) (get_or xs i d)

  module _ (on : (i : ℕ) (x y z : A) → Q i x y → Q i y z → Q i x z) where
    pub each_on : (xs ys zs : List A) → length ys ≡ length xs → Each xs ys → Each ys zs → Each xs zs
    each_on xs ys zs same first then i d low = on i (get_or xs i d) (get_or ys i d) (get_or zs i d) (first i d low) (then i d (omega arith))

    -- all places, and then the first one alone
    pub each_then_first : (xs zs : List A) (x y : A) → ((i : ℕ) (z : A) → Q i z z) → length zs ≡ length xs → Each xs zs → x ≡ get_or zs 0 x → Q 0 x y → Each xs (set zs 0 y)
    each_then_first xs zs x y same many first is one = each_on xs zs (set zs 0 y) many first (first_each zs x y same is one)

  -- the place of one number alone is changed
  module _ (on : (i : ℕ) (x y z : A) → Q i x y → Q i y z → Q i x z) where
    pub set_more : (xs ys : List A) (at : ℕ) (here p : A) → at < length ys → ((i : ℕ) (d : A) → i < length ys → Q i (get_or xs i d) (get_or ys i d)) → Q at (get_or ys at here) p
        → (i : ℕ) (d : A) → i < length (set ys at p) → Q i (get_or xs i d) (get_or (set ys at p) i d)
    set_more xs ys at here p low each q =
        set_each (λ (j : ℕ) (e z : A). Q j (get_or xs j e) z) ys at p
        (λ e. on at (get_or xs at e) (get_or ys at e) p (each at e low) (subst (λ (z : A). Q at z p) (any_default ys at here e low) q)) each

module _ {A : Type 0} (told : A → ℕ) (last : A → Option Told) (workers : ℕ) (first : BoardView) where
  -- what the adviser at a place was told last, from one state of the place to a later one
  abbrev pub Tells : ℕ → A → A → Type 0
  Tells number x y = IsToldLast workers first number (told x) (told y) (last x) (last y)

  pub tells_same : (number : ℕ) (x : A) → Tells number x x
  tells_same number x = inl (refl, refl)

  pub tells_on : (number : ℕ) (x y z : A) → Tells number x y → Tells number y z → Tells number x z
  tells_on number x y z one two = told_on workers first number (told x) (told y) (told z) (last x) (last y) (last z) one two

module _ {A B : Type 0} where
  -- a relation between elements at one place passes on to what f makes of them
  pub pairs_at : (xs zs : List A) (f : A → B) (Q : ℕ → B → B → Type 0) → length zs ≡ length xs → ((i : ℕ) (d : A) → i < length xs → Q i (f (get_or xs i d)) (f (get_or zs i d)))
      → (i : ℕ) (d : B) → i < length xs → Q i (get_or (map f xs) i d) (get_or (map f zs) i d)
  pairs_at [] zs f Q n h i d l = absurd (omega arith)
  pairs_at (x ∷ xs) [] f Q n h i d l = absurd (omega arith)
  pairs_at (x ∷ xs) (z ∷ zs) f Q n h zero d l = h 0 x l
  pairs_at (x ∷ xs) (z ∷ zs) f Q n h (suc i) d l = pairs_at xs zs f (λ j. Q (suc j)) (omega arith) (λ j e m. h (suc j) e (omega arith)) i d (omega arith)

  -- seats come back from their places
  pub each_through : (seat : A → B) (Q : ℕ → B → B → Type 0) (xs zs : List A) (old new : List B) → map seat xs ≡ old → new ≡ map seat zs → length zs ≡ length xs
      → ((i : ℕ) (d : A) → i < length xs → Q i (seat (get_or xs i d)) (seat (get_or zs i d)))
      → (i : ℕ) (d : B) → i < length old → Q i (get_or old i d) (get_or new i d)
  each_through seat Q xs zs old new was is same each i d low =
      let many : length old ≡ length xs = ap length (sym was) ∙ length-map xs seat in
      let there : i < length xs = omega arith in
      let q : Q i (get_or (map seat xs) i d) (get_or (map seat zs) i d) = pairs_at xs zs seat Q same each i d there in
      let r : Q i (get_or old i d) (get_or (map seat zs) i d) = subst (λ (l : List B). Q i (get_or l i d) (get_or (map seat zs) i d)) was q in
      subst (λ (l : List B). Q i (get_or old i d) (get_or l i d)) (sym is) r

module _ (workers : ℕ) (first : BoardView) (number : ℕ) where
  -- the adviser was told nothing more
  pub told_nothing : (a b : ℕ) (x y : Option Told) → b ≡ a → y ≡ x → IsToldLast workers first number a b x y
  told_nothing a b x y e f = inl (e, f)

  -- it was told the news of one commit more
  pub told_news : (a b : ℕ) (x y : Option Told) (news : Told) → b ≡ a + 1 → y ≡ Some news → ∥ IsNews workers first number news ∥₁ → IsToldLast workers first number a b x y
  told_news a b x y news e f made = let less : a < b = omega arith in inr (less, (news, f, made))

module _ {B : Type 0} (seen : B → BoardView) where
  -- what is known of one root is known of the same
  pub news_at : (r s : BoardRoot B) (number : ℕ) (news : Told) → s ≡ r → ∥ IsNews s.workers (seen s.opened.value) number news ∥₁ → ∥ IsNews r.workers (seen r.opened.value) number news ∥₁
  news_at r s number news same made = subst (λ (q : BoardRoot B). ∥ IsNews q.workers (seen q.opened.value) number news ∥₁) same made

  pub told_at : (r s : BoardRoot B) (m n a b : ℕ) (x y : Option Told) → s ≡ r → n ≡ m → IsToldLast s.workers (seen s.opened.value) n a b x y → IsToldLast r.workers (seen r.opened.value) m a b x y
  told_at r s m n a b x y same is told =
      subst (λ (k : ℕ). IsToldLast r.workers (seen r.opened.value) k a b x y) is (subst (λ (q : BoardRoot B). IsToldLast q.workers (seen q.opened.value) n a b x y) same told)
