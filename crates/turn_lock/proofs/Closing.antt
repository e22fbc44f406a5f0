-- A lock is closed once one seat has taken in all others.
use Rattle.turn_lock.proofs.Common.{◌≡◌, ℕ, ◌+◌, List, [], ◌∷◌, All, length, sym, refl, ap, ◌∙◌, subst, arith, Option, Some, None, MatchOption, some, some-injective, get_elem?, Final, Seen, TableId, Pass, View, SeatView, Fits, IsRuled}
use Rattle.turn_lock.proofs.Seated.{agree, Agrees, IsGathered}
use Rattle.turn_lock.proofs.Steps.{closes}

empty : {S : Type 0} (items : List S) → length items ≡ 0 → items ≡ []
empty [] e = refl
empty (x ∷ xs) e = absurd (omega (arith, e))

-- where nothing is taken out of a list, it is empty
pub nothing_left : {S : Type 0} (n m : ℕ) (r : Option S) (items : List S) → MatchOption r ((n ≡ 0) × (m ≡ 0)) (λ _. m + 1 ≡ n) → r ≡ None → n ≡ length items → items ≡ []
nothing_left {S} n m r items cases is len =
    let zero : n ≡ 0 = (subst (λ (q : Option S). MatchOption q ((n ≡ 0) × (m ≡ 0)) (λ _. m + 1 ≡ n)) is cases).0 in
    empty items (omega (arith, len, zero))

module _ {R T : Type 0} (root : T → R) (passes : T → List Pass) where
  at_home : (key : R) (seats id : ℕ) (lock : TableId) (count : ℕ) (all left : List (SeatView R)) (v : View R) (ws : List ℕ) (xs : List (Option T)) → IsGathered lock count all left v → left ≡ [] → seats ≡ count → Final (Seen (IsRuled root passes key seats) id v) ws xs
      → (value : T) × (get_elem? xs 0 ≡ some (Some value)) × (root value ≡ key) × Fits key (passes value) v
  at_home key seats id lock count all left v ws xs h nothing same f =
      closes root passes key seats id v ws xs h.stage (omega (arith, h.parts, same, ap (λ (l : List (SeatView R)). length l) nothing)) f

  -- the slot isn't empty
  pub never_empty : (key : R) (seats id : ℕ) (lock : TableId) (count : ℕ) (all left : List (SeatView R)) (v : View R) (ws : List ℕ) (xs : List (Option T)) (taken : Option T) → IsGathered lock count all left v → left ≡ [] → seats ≡ count → Final (Seen (IsRuled root passes key seats) id v) ws xs → get_elem? xs 0 ≡ some taken
      → (value : T) × (taken ≡ Some value)
  never_empty key seats id lock count all left v ws xs taken h nothing same f found =
      let home = at_home key seats id lock count all left v ws xs h nothing same f in
      (home.0, some-injective taken (Some home.0) (sym found ∙ home.1))

  -- and its value agrees with what each seat knows
  pub closed_all : (key : R) (seats id : ℕ) (lock : TableId) (count : ℕ) (all left : List (SeatView R)) (v : View R) (ws : List ℕ) (xs : List (Option T)) (taken : Option T) (value : T) → IsGathered lock count all left v → left ≡ [] → seats ≡ count → Final (Seen (IsRuled root passes key seats) id v) ws xs → get_elem? xs 0 ≡ some taken → taken ≡ Some value
      → All (Agrees (root value) (passes value)) all
  closed_all key seats id lock count all left v ws xs taken value h nothing same f found is =
      let home = at_home key seats id lock count all left v ws xs h nothing same f in
      let y : T = home.0 in
      let both : Some y ≡ Some value = sym (some-injective taken (Some y) (sym found ∙ home.1)) ∙ is in
      let one : y ≡ value = cc in
      let rooted : root y ≡ key = home.2 in
      subst (λ (z : T). All (Agrees (root z) (passes z)) all) one
      (subst (λ (k : R). All (Agrees k (passes y)) all) (sym rooted)
      (agree key (passes y) lock count all v (subst (λ (l : List (SeatView R)). IsGathered lock count all l v) nothing h) home.3))
