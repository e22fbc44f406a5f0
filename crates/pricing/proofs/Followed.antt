-- The lists that are followed along a graph, day by day, are the best ones.
use Rattle.pricing.proofs.Common.{◌≡◌, inl, inr, ℕ, ◌+◌, ◌<◌, ◌≤◌, ℤ, get_or, List, [], ◌∷◌, ◌++◌, length, sym, ap, ◌∙◌, subst, arith, Some, slice_get, IsSomeAnd, get_or-append, get_or-append_seam, cases_lt, Break, Rule, IsRule, Shift, Problem, shift_list, IsValid, IsShift, Node, IsGraph, AreSums, sums_on, AreSumsByDay, some_at, AreValues, AreBestRests, AreBestByDay, IsBestBy, best_at}
use Rattle.pricing.proofs.Worths.{some_of, short_shift, best_is}

-- what holds of each of some elements by its place, and of one more behind them
pub each_more : {X : Type 0} (P : ℕ → X → Type 0) (d : X) (xs : List X) (x : X) (many : ℕ) → length xs ≡ many → ((k : ℕ) → k < many → P k (get_or xs k d)) → P many x
    → (k : ℕ) → k < many + 1 → P k (get_or (xs ++ x ∷ []) k d)
each_more P d xs x many count before here k less =
    elim (cases_lt k many) [
      | inl l ↦ subst (P k) (sym (get_or-append xs (x ∷ []) d k (omega arith))) (before k l)
      | inr g ↦
          let same : k ≡ many = omega arith in
          subst (P k) (sym (ap (λ n. get_or (xs ++ x ∷ []) n d) (same ∙ sym count) ∙ get_or-append_seam xs x [] d))
          (subst (λ n. P n x) (sym same) here)
    ]

-- the sums along a shift are small on each day
pub sums_of_days : (i : Problem) (s : ℕ) (prices : List ℤ) (lanes : List (List ℤ)) (shift : Shift) → IsSomeAnd (slice_get (shift_list i) s) (λ y. shift ≡ y.0)
    → ((x : Shift × Rule) → slice_get (shift_list i) s ≡ Some x → AreSumsByDay i x.0 prices lanes) → (day : ℕ) → day < i.days → AreSums shift.len (sums_on day lanes)
sums_of_days i s prices lanes shift own_shift of day less =
    let some = some_of (slice_get (shift_list i) s) (λ y. shift ≡ y.0) own_shift in
    let x = some.0 in
    let same : shift ≡ x.0 = some_at (slice_get (shift_list i) s) x (λ y. shift ≡ y.0) some.1 own_shift in
    subst (λ (z : Shift). AreSums z.len (sums_on day lanes)) (sym same) ((of x some.1).small day less)

-- what is known of the best rests along a shift, on each day
pub rests_of_days : (i : Problem) (s : ℕ) (prices : List ℤ) (lanes values : List (List ℤ)) (shift : Shift) (rule : Rule) (nodes : List Node)
    → IsSomeAnd (slice_get (shift_list i) s) (λ y. shift ≡ y.0) → IsRule rule → IsGraph rule shift.len nodes
    → ((x : Shift × Rule) → slice_get (shift_list i) s ≡ Some x → AreSumsByDay i x.0 prices lanes)
    → ((day : ℕ) → day < 8 → AreSums shift.len (sums_on day lanes) → AreValues rule shift.len (sums_on day lanes) nodes (length nodes) (sums_on day values))
    → i.days ≤ 8 → (day : ℕ) → day < i.days → AreBestRests rule shift.len nodes (sums_on day lanes) (sums_on day values)
rests_of_days i s prices lanes values shift rule nodes own_shift well graph of known few day less =
    let small : AreSums shift.len (sums_on day lanes) = sums_of_days i s prices lanes shift own_shift of day less in
    record { well_formed = well; graph = graph; small = small; known = known day (omega (arith, less, few)) small }

-- the best lists for a shift's rule and length are the shift's
pub bests_of_days : (i : Problem) (s : ℕ) (prices : List ℤ) (lanes : List (List ℤ)) (shift : Shift) (rule : Rule) (bests : List (List Break × ℤ))
    → IsSomeAnd (slice_get (shift_list i) s) (λ y. shift ≡ y.0) → IsSomeAnd (slice_get (shift_list i) s) (λ y. rule ≡ y.1) → IsValid i → IsShift i shift
    → ((x : Shift × Rule) → slice_get (shift_list i) s ≡ Some x → AreSumsByDay i x.0 prices lanes)
    → length bests ≡ i.days → ((day : ℕ) → day < i.days → IsBestBy rule shift.len (sums_on day lanes) (best_at bests day))
    → AreBestByDay i s prices i.days bests
bests_of_days i s prices lanes shift rule bests own_shift own_rule valid inside of many each =
    let some = some_of (slice_get (shift_list i) s) (λ y. shift ≡ y.0) own_shift in
    let x = some.0 in
    let same_shift : shift ≡ x.0 = some_at (slice_get (shift_list i) s) x (λ y. shift ≡ y.0) some.1 own_shift in
    let same_rule : rule ≡ x.1 = some_at (slice_get (shift_list i) s) x (λ y. rule ≡ y.1) some.1 own_rule in
    record {
      count = many;
      each = λ day less.
          let sums : List ℤ = sums_on day lanes in
          let best = best_at bests day in
          let own : IsBestBy x.1 x.0.len sums best =
          subst (λ (z : Shift). IsBestBy x.1 z.len sums best) same_shift (subst (λ (r : Rule). IsBestBy r shift.len sums best) same_rule (each day less)) in
          best_is i s day prices sums x some.1 (short_shift i x.0 valid (subst (IsShift i) same_shift inside)) ((of x some.1).each day less) [] best.0 best.1 own;
    }
