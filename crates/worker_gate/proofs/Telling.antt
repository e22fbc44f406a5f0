-- What an adviser is told is counted at its seat, through the stages of a run.
use Rattle.worker_gate.proofs.Common.{◌≡◌, ℕ, zero, suc, ◌+◌, ◌<◌, ◌^◌, All, List, [], ◌∷◌, length, map, get_or, set, refl, sym, ap, ◌∙◌, subst, arith, length-map}
use Rattle.worker_gate.proofs.Moved.{pairs}

module _ {A : Type 0} (told count : A → ℕ) where
  -- from one state of a place to a later one, its adviser was told as often as its seat counts
  abbrev pub Counts : A → A → Type 0
  Counts x y = told x < 2 ^ 63 + count x → told y + count x ≡ told x + count y

  pub counts_on : (x y z : A) → Counts x y → Counts y z → Counts x z
  counts_on x y z first then low =
      let a : told y + count x ≡ told x + count y = first low in
      let mid : told y < 2 ^ 63 + count y = omega arith in
      let b : told z + count y ≡ told y + count z = then mid in
      omega arith

  abbrev pub AllCount : List A → List A → Type 0
  AllCount xs ys = (i : ℕ) (d : A) → i < length xs → Counts (get_or xs i d) (get_or ys i d)

  pub all_on : (xs ys zs : List A) → length ys ≡ length xs → AllCount xs ys → AllCount ys zs → AllCount xs zs
  all_on xs ys zs same first then i d low = counts_on (get_or xs i d) (get_or ys i d) (get_or zs i d) (first i d low) (then i d (omega arith))

  -- the first place alone is changed
  pub first_counts : (xs : List A) (x y : A) → x ≡ get_or xs 0 x → Counts x y → AllCount xs (set xs 0 y)
  first_counts [] x y is one i d low = absurd (omega arith)
  first_counts (z ∷ xs) x y is one zero d low = subst (λ (p : A). Counts p y) is one
  first_counts (z ∷ xs) x y is one (suc i) d low = λ small. refl

  -- all places, and then the first one alone
  pub first_then : (xs zs : List A) (x y : A) → length zs ≡ length xs → AllCount xs zs → x ≡ get_or zs 0 x → Counts x y → AllCount xs (set zs 0 y)
  first_then xs zs x y same first is one = all_on xs zs (set zs 0 y) same first (first_counts zs x y is one)

module _ {P S : Type 0} (seat : P → S) (told count : S → ℕ) where
  -- seats that counted nothing come back from their places: each counts what its adviser was told
  pub told_through : (xs ys zs : List P) (old new : List S) → map seat xs ≡ old → new ≡ map seat zs → length ys ≡ length xs → length zs ≡ length ys → All (λ s. count s ≡ 0) old
      → AllCount (λ p. told (seat p)) (λ p. count (seat p)) xs ys → AllCount (λ p. told (seat p)) (λ p. count (seat p)) ys zs
      → (i : ℕ) (d : S) → i < length old → told (get_or old i d) < 2 ^ 63 → told (get_or new i d) ≡ told (get_or old i d) + count (get_or new i d)
  told_through xs ys zs old new was is more last none first then i d low small =
      let all : AllCount (λ p. told (seat p)) (λ p. count (seat p)) xs zs = all_on (λ p. told (seat p)) (λ p. count (seat p)) xs ys zs more first then in
      let many : length old ≡ length xs = ap length (sym was) ∙ length-map xs seat in
      let there : i < length xs = omega arith in
      let same : length zs ≡ length xs = last ∙ more in
      let q : Counts told count (get_or (map seat xs) i d) (get_or (map seat zs) i d) = pairs xs zs seat (Counts told count) same all i d there in
      let r : Counts told count (get_or old i d) (get_or (map seat zs) i d) = subst (λ (l : List S). Counts told count (get_or l i d) (get_or (map seat zs) i d)) was q in
      let s : Counts told count (get_or old i d) (get_or new i d) = subst (λ (l : List S). Counts told count (get_or old i d) (get_or l i d)) (sym is) r in
      let zero : count (get_or old i d) ≡ 0 = none i d low in
      let e : told (get_or new i d) + count (get_or old i d) ≡ told (get_or old i d) + count (get_or new i d) = s (omega arith) in
      omega arith
