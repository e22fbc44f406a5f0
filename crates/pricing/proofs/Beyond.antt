-- The breaks that may come next behind some breaks, and the best lists that go on with one.
use Rattle.pricing.proofs.Common.{◌≡◌, ◌⊎◌, inl, inr, ℕ, zero, suc, ◌+◌, ◌<◌, ◌≤◌, get_or, ℤ, pos, ◌+ℤ◌, ◌≤ℤ◌, true, false, List, [], ◌∷◌, ◌++◌, length, take, refl, sym, ap, ◌∙◌, subst, arith, append_assoc, Option, ints, false≢true, false_from_ne_true, Break, Rule, is_legal, is_live, begins_with, bonus_of, IsRule, IfOk, Has, any_some, live_from, Found, Completes, price_in, earned_from, IsBestRest, IsBestFrom, IsBestList, Priced, rest_worth, IsValue, IsLegal, worth_of, IsFound, Covers, Keeps, CoversFrom, CoversAlong, IsBestFound, leads_further, AreBeginnings}
use Rattle.std.specs.Prelude.{Result, Ok, Err}
use Rattle.pricing.proofs.Best.{best_more}
use Rattle.pricing.proofs.ByEdges.{same_worth}
use Rattle.pricing.proofs.Covered.{keeps_from, best_found, covers_on}
use Rattle.pricing.proofs.Leaving.{covers_tail, all_covered, first_of, place_in}

-- where no legal list begins with none, none is legal
pub none_legal : (rule : Rule) (len : ℕ) → is_live rule len [] ≡ false → (list : List Break) → is_legal rule len list ≡ false
none_legal rule len dead list = false_from_ne_true (is_legal rule len list) (λ h. false≢true (sym dead ∙ live_from rule len [] list h))

-- the best list by prices
pub best_prices : (p : Priced) (v value : ℤ) (new whole list : List Break) → new ≡ [] → list ≡ whole → value ≡ v
    → IsValue p.rule p.len p.sums [] v → IsBestFrom p.rule p.len p.sums new whole → IsBestRest (IsLegal p) (worth_of p []) value list
best_prices p v value new whole list none is kept own_value from =
    let own : IsBestFrom p.rule p.len p.sums [] whole = subst (λ (l : List Break). IsBestFrom p.rule p.len p.sums l whole) none from in
    let worth : ℤ = own.2.0 in
    let best : IsBestRest (Completes p.rule p.len []) (rest_worth p.sums p.rule p.len []) worth own.0 = own.2.1 in
    let equal : worth ≡ v = same_worth (Completes p.rule p.len []) (rest_worth p.sums p.rule p.len []) worth v own.0 own_value.0 best own_value.1 in
    let at : list ≡ own.0 = is ∙ own.1 in
    let more : value ≡ pos 0 +ℤ worth = omega (arith, ints) in
    subst (IsBestRest (IsLegal p) (worth_of p []) value) (sym at)
    (best_more (Completes p.rule p.len []) (rest_worth p.sums p.rule p.len []) (worth_of p []) worth value (pos 0) own.0
    (λ r h. let x = rest_worth p.sums p.rule p.len [] r in let k : x +ℤ pos 0 ≡ pos 0 +ℤ x = omega (arith, ints) in k) more best)

-- what goes on with one break more is covered
pub covers_next : (p : Priced) (entries : List (List Break × ℤ)) (best : Option Found) (front : List Break) (next : Break) (list whole : List Break) → IsRule p.rule
    → list ≡ front ++ next ∷ [] → IsBestFrom p.rule p.len p.sums list whole → Covers p entries best whole
    → (bs : List Break) → IsLegal p (front ++ next ∷ bs) → leads_further entries (front ++ next ∷ []) ≡ false → Covers p entries best (front ++ next ∷ bs)
covers_next p entries best front next list whole r longer from c bs legal none =
    let q = front ++ next ∷ [] in
    let own : IsBestFrom p.rule p.len p.sums q whole = subst (λ (l : List Break). IsBestFrom p.rule p.len p.sums l whole) longer from in
    subst (Covers p entries best) (append_assoc front (next ∷ []) bs)
    (covers_tail p entries r best q bs own.0 whole none own.2 own.1 (ap (is_legal p.rule p.len) (append_assoc front (next ∷ []) bs) ∙ legal) c)

pub any_default : {X : Type 0} (xs : List X) (i : ℕ) (d e : X) → i < length xs → get_or xs i d ≡ get_or xs i e
any_default [] i d e h = absurd (omega arith)
any_default (x ∷ xs) zero d e h = refl
any_default (x ∷ xs) (suc i) d e h = any_default xs i d e (omega arith)

pub below_or_at : (j i : ℕ) → j < i + 1 → (j < i) ⊎ (j ≡ i)
below_or_at j i h = grind arith

-- one beginning more of a prefix
pub along_further : (p : Priced) (entries : List (List Break × ℤ)) (old new : Option Found) (prefix : List Break) (i : ℕ) → Keeps p entries old new → CoversAlong p entries old prefix i → CoversFrom p entries new (take (i + 1) prefix)
    → CoversAlong p entries new prefix (i + 1)
along_further p entries old new prefix i keeps before here k h =
    elim (below_or_at k i h) [
      | inl l ↦ keeps_from p entries old new (take (k + 1) prefix) keeps (before k l)
      | inr e ↦ subst (λ n. CoversFrom p entries new (take (n + 1) prefix)) (sym e) here
    ]

-- one prefix more
pub along_more : (p : Priced) (entries bonus : List (List Break × ℤ)) (old new : Option Found) (i : ℕ) (item d : List Break × ℤ) (prefix : List Break) → i < length bonus → item ≡ get_or bonus i item → prefix ≡ item.0 → Keeps p entries old new
    → ((j : ℕ) → j < i → CoversAlong p entries old (get_or bonus j d).0 (length (get_or bonus j d).0)) → CoversAlong p entries new prefix (length prefix)
    → (j : ℕ) → j < i + 1 → CoversAlong p entries new (get_or bonus j d).0 (length (get_or bonus j d).0)
along_more p entries bonus old new i item d prefix inside is at keeps before here j h =
    elim (below_or_at j i h) [
      | inl l ↦ λ k m. keeps_from p entries old new (take (k + 1) (get_or bonus j d).0) keeps (before j l k m)
      | inr e ↦
          let same : prefix ≡ (get_or bonus j d).0 = at ∙ ap (λ (x : List Break × ℤ). x.0) (is ∙ any_default bonus i item d inside) ∙ ap (λ n. (get_or bonus n d).0) (sym e) in
          subst (λ (l : List Break). CoversAlong p entries new l (length l)) same here
    ]

-- what covers from none and along each prefix is the best
pub best_of_all : (p : Priced) (entries bonus : List (List Break × ℤ)) (best : Option Found) (d : List Break × ℤ) (many : ℕ) → length bonus ≤ many → IsFound p entries best → CoversFrom p entries best []
    → ((j : ℕ) → j < many → CoversAlong p entries best (get_or bonus j d).0 (length (get_or bonus j d).0))
    → ((front : List Break) → leads_further entries front ≡ true → leads_further bonus front ≡ true) → IsBestFound p entries best
best_of_all p entries bonus best d many all found start along prefixes =
    best_found p entries best found (all_covered p entries best from)
  where
    along_of : (front : List Break) (e : List Break × ℤ) → Has bonus e → begins_with e.0 front ≡ true → CoversFrom p entries best front
    along_of front e m begins =
        let at = place_in bonus e d m in
        elim (first_of e.0 front begins) [
          | inl none ↦ subst (CoversFrom p entries best) (sym none) start
          | inr some ↦
              let inside : some.0 < length (get_or bonus at.0 d).0 = subst (λ (x : List Break × ℤ). some.0 < length x.0) (sym at.2) some.1 in
              subst (CoversFrom p entries best) (ap (λ (x : List Break × ℤ). take (some.0 + 1) x.0) at.2 ∙ some.2) (along at.0 (omega (arith, at.1)) some.0 inside)
        ]

    from : (front : List Break) → (front ≡ []) ⊎ (leads_further entries front ≡ true) → CoversFrom p entries best front
    from front h = elim h [
      | inl none ↦ subst (CoversFrom p entries best) (sym none) start
      | inr leads ↦ let e = any_some (λ (e : List Break × ℤ). begins_with e.0 front) bonus (prefixes front leads) in along_of front e.0 e.1 e.2
    ]

-- what covers from none and from each beginning is the best
pub best_of_beginnings : (p : Priced) (entries : List (List Break × ℤ)) (best : Option Found) (lists : List (List Break)) (many : ℕ) → length lists ≤ many → AreBeginnings entries lists → IsFound p entries best → CoversFrom p entries best []
    → ((j : ℕ) → j < many → CoversFrom p entries best (get_or lists j [])) → IsBestFound p entries best
best_of_beginnings p entries best lists many all are found start along = best_found p entries best found (all_covered p entries best from)
  where
    from : (front : List Break) → (front ≡ []) ⊎ (leads_further entries front ≡ true) → CoversFrom p entries best front
    from [] h = start
    from (b ∷ bs) h = elim h [
      | inl none ↦ absurd (cc)
      | inr leads ↦ let at = place_in lists (b ∷ bs) [] (are.all b bs leads) in subst (CoversFrom p entries best) at.2 (along at.0 (omega (arith, at.1)))
    ]

-- where all lists get the same bonuses the best list by prices is the best
pub best_where_alike : (p : Priced) (entries : List (List Break × ℤ)) (best : Option Found) (list : List Break) (value : ℤ) → ((l : List Break) → bonus_of entries l ≡ bonus_of entries [])
    → IsFound p entries best → Covers p entries best list → IsBestList p.rule p.len p.sums (list, value) → IsBestFound p entries best
best_where_alike p entries best list value alike found covers b =
    let earned : List Break → ℤ = earned_from (price_in p.sums) p.rule p.len 0 in
    let worth : earned list ≡ value = b.is_worth in
    best_found p entries best found (λ other legal.
    let most : earned other ≤ℤ value = b.greatest other legal in
    let same : bonus_of entries other ≡ bonus_of entries list = alike other ∙ sym (alike list) in
    covers_on p entries best list other covers
    (omega (arith, ints))
    (λ e. b.least other legal (let s : earned other ≡ value = omega (arith, ints) in s)))

pub ok_map : {X E : Type 0} (r : Result X E) (P Q : X → Type 0) → ((x : X) → P x → Q x) → IfOk r P → IfOk r Q
ok_map (Ok x) P Q f h = f x h
ok_map (Err e) P Q f h = h
