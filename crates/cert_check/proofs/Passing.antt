-- Walks over legal duties that say whether cuts fix the number of each.
use Rattle.cert_check.proofs.Common.{◌≡◌, ◌<◌, ℕ, Bool, true, false, cond, not, ◌&&◌, List, [], ◌∷◌, ◌++◌, refl, sym, ap, ◌∙◌, subst, ◌+◌, nat_lt, Option, Some, None, is_some, IsOk, ◌↔◌, flat_map, find, false≢true, and_parts, same_tests, Duty, Row, TOP, Problem, below, cost, rota_of, is_legal_rota, are_legal_rows, Cut, Break, low, high, meets, settled_rows, settled_plan, is_settled, class_of, all_duties, row_of, settled_floor, IsWalked, IsClear, duties_below, is_open, more_walked, stop_walked, whole_walked, duty, next_walked, stopped, settled_where_none, open_where_some, IsPassed}
use Rattle.std.specs.Prelude.{Result, Ok, Err}
use Rattle.std.specs.Result.{is_err}
use Rattle.head_splits.proofs.PlanRows.{rota_of-settled_rows, settled_rows_legal}

none_found : {X : Type 0} (o : Option X) (fixed : Bool) → fixed ≡ not (is_some o) → fixed ≡ true → o ≡ None
none_found None fixed e t = refl
none_found (Some x) fixed e t = absurd (false≢true (sym e ∙ t))

some_found : {X : Type 0} (o : Option X) (fixed : Bool) → fixed ≡ not (is_some o) → fixed ≡ false → is_some o ≡ true
some_found None fixed e f = absurd (false≢true (sym f ∙ e))
some_found (Some x) fixed e f = refl

module _ (i : Problem) (cuts : List Cut) where
  -- without an open duty
  pub all_passed : (ds : List Duty) (before after : List Row) → IsWalked i cuts ds None before after → IsPassed i cuts ds true before after
  all_passed ds before after h = (None, h, refl)

  pub none_open : (ds : List Duty) (fixed : Bool) (before after : List Row) → IsPassed i cuts ds fixed before after → fixed ≡ true → IsWalked i cuts ds None before after
  none_open ds fixed before after h t = subst (λ (o : Option Duty). IsWalked i cuts ds o before after) (none_found h.0 fixed h.2 t) h.1

  -- some duties more
  pub more_passed : (ds es : List Duty) (fixed : Bool) (before mid after : List Row) → IsWalked i cuts ds None before mid → IsPassed i cuts es fixed mid after → IsPassed i cuts (ds ++ es) fixed before after
  more_passed ds es fixed before mid after h g = (g.0, more_walked i cuts ds es g.0 before mid after h g.1, g.2)

  -- where an open duty is found the walk needn't go on
  pub stop_passed : (ds rest : List Duty) (fixed : Bool) (before after : List Row) → fixed ≡ false → IsPassed i cuts ds fixed before after → IsPassed i cuts (ds ++ rest) fixed before after
  stop_passed ds rest fixed before after f h = (h.0, stop_walked i cuts ds rest h.0 before after (some_found h.0 fixed h.2 f) h.1, h.2)

  -- the same over numbers
  pub next_passed : (f : ℕ → List Duty) (k : ℕ) (fixed : Bool) (before mid after : List Row)
      → IsWalked i cuts (flat_map f (below k)) None before mid → IsPassed i cuts (f k) fixed mid after → IsPassed i cuts (flat_map f (below (k + 1))) fixed before after
  next_passed f k fixed before mid after h g = (g.0, next_walked i cuts f k g.0 before mid after h g.1, g.2)

  pub stopped_passed : (f : ℕ → List Duty) (n k : ℕ) (fixed : Bool) (before after : List Row) → k < n → fixed ≡ false
      → IsPassed i cuts (flat_map f (below (k + 1))) fixed before after → IsPassed i cuts (flat_map f (below n)) fixed before after
  stopped_passed f n k fixed before after l e h = (h.0, stopped i cuts f n k h.0 before after l (some_found h.0 fixed h.2 e) h.1, h.2)

  -- a whole list is passed by its own number
  pub whole_passed : (s day : ℕ) (list : List Break) (fixed : Bool) (before after : List Row) (lo hi : ℕ) → IsClear i cuts s day list → 0 < high i cuts (class_of s day list)
      → duties_below i s day list ≡ duty i cuts s day list ∷ [] → lo ≡ low cuts (class_of s day list) → hi ≡ high i cuts (class_of s day list)
      → fixed ≡ not (nat_lt lo hi)
      → (fixed ≡ true → after ≡ before ++ cond (nat_lt 0 lo) (row_of (duty i cuts s day list) lo ∷ []) [])
      → IsPassed i cuts (duties_below i s day list) fixed before after
  whole_passed s day list fixed before after lo hi clear room only is_low is_high is rows =
      let found : Option Duty = cond (nat_lt lo hi) (Some (duty i cuts s day list)) None in
      let answer : fixed ≡ not (is_some found) = is ∙ ap not (sym (some_or_none (nat_lt lo hi) (duty i cuts s day list))) in (
        found,
        whole_walked i cuts s day list found before after clear room only
            (ap (λ (n : ℕ). cond (nat_lt n hi) (Some (duty i cuts s day list)) None) is_low ∙ ap (λ (n : ℕ). cond (nat_lt (low cuts (class_of s day list)) n) (Some (duty i cuts s day list)) None) is_high)
            (λ none. rows (answer ∙ ap (λ (o : Option Duty). not (is_some o)) none) ∙ ap (λ (n : ℕ). before ++ cond (nat_lt 0 n) (row_of (duty i cuts s day list) n ∷ []) []) is_low),
        answer,
      )
    where
      some_or_none : (b : Bool) (d : Duty) → is_some (cond b (Some d) None) ≡ b
      some_or_none true d = refl
      some_or_none false d = refl

  -- the rows of a settled node's plan are legal exactly where the plan is
  rows_legal : are_legal_rows i (settled_rows i cuts) ≡ is_legal_rota i (settled_plan i cuts)
  rows_legal =
      same_tests (are_legal_rows i (settled_rows i cuts)) (is_legal_rota i (settled_plan i cuts))
      (λ h. sym (ap (is_legal_rota i) (rota_of-settled_rows i cuts)) ∙ (and_parts _ (is_legal_rota i (rota_of (settled_rows i cuts))) h).1)
      (settled_rows_legal i cuts)

  -- the floor by the tests of the rows
  pub floor_illegal : (rows : List Row) → rows ≡ settled_rows i cuts → are_legal_rows i rows ≡ false → TOP ≡ settled_floor i cuts
  floor_illegal rows is h =
      let legal : is_legal_rota i (settled_plan i cuts) ≡ false = sym rows_legal ∙ sym (ap (are_legal_rows i) is) ∙ h in
      sym (ap (λ b. cond (not (b && meets (settled_plan i cuts) cuts)) TOP (cost i (settled_plan i cuts))) legal)

  pub floor_unmet : (rows : List Row) → rows ≡ settled_rows i cuts → are_legal_rows i rows ≡ true → meets (rota_of rows) cuts ≡ false → TOP ≡ settled_floor i cuts
  floor_unmet rows is h m =
      let legal : is_legal_rota i (settled_plan i cuts) ≡ true = sym rows_legal ∙ sym (ap (are_legal_rows i) is) ∙ h in
      let rota : rota_of rows ≡ settled_plan i cuts = ap rota_of is ∙ rota_of-settled_rows i cuts in
      let unmet : meets (settled_plan i cuts) cuts ≡ false = sym (ap (λ r. meets r cuts) rota) ∙ m in
      sym (ap (λ b. cond (not (b && meets (settled_plan i cuts) cuts)) TOP (cost i (settled_plan i cuts))) legal ∙ ap (λ b. cond (not b) TOP (cost i (settled_plan i cuts))) unmet)

  pub floor_cost : (rows : List Row) → rows ≡ settled_rows i cuts → are_legal_rows i rows ≡ true → meets (rota_of rows) cuts ≡ true → cost i (rota_of rows) ≡ settled_floor i cuts
  floor_cost rows is h m =
      let legal : is_legal_rota i (settled_plan i cuts) ≡ true = sym rows_legal ∙ sym (ap (are_legal_rows i) is) ∙ h in
      let rota : rota_of rows ≡ settled_plan i cuts = ap rota_of is ∙ rota_of-settled_rows i cuts in
      let met : meets (settled_plan i cuts) cuts ≡ true = sym (ap (λ r. meets r cuts) rota) ∙ m in
      ap (cost i) rota ∙ sym (ap (λ b. cond (not (b && meets (settled_plan i cuts) cuts)) TOP (cost i (settled_plan i cuts))) legal ∙ ap (λ b. cond (not b) TOP (cost i (settled_plan i cuts))) met)

-- whether an answer is Ok, by a test that says the same
pub refused : {T E : Type 0} (r : Result T E) (b : Bool) → IsOk r ↔ (b ≡ true) → is_err r ≡ true → b ≡ false
refused (Ok x) b h e = absurd (false≢true e)
refused (Err e) b h t = by b refl
  where
    by : (c : Bool) → b ≡ c → b ≡ false
    by true q = absurd (false≢true (h.1 q))
    by false q = q

pub granted : {T E : Type 0} (r : Result T E) (b : Bool) → IsOk r ↔ (b ≡ true) → is_err r ≡ false → b ≡ true
granted (Ok x) b h e = h.0 refl
granted (Err e) b h t = absurd (false≢true (sym t))

-- what a walk over all legal duties says
module _ (i : Problem) (cuts : List Cut) where
  pub is_settled_passed : (fixed : Bool) (rows : List Row) → IsPassed i cuts (all_duties i) fixed [] rows → fixed ≡ true → (is_settled i cuts ≡ true) × (rows ≡ settled_rows i cuts)
  is_settled_passed fixed rows h t = let w = none_open i cuts (all_duties i) fixed [] rows h t in (settled_where_none i cuts w.first, w.rows refl)

  pub not_settled_passed : (fixed : Bool) (rows : List Row) → IsPassed i cuts (all_duties i) fixed [] rows → fixed ≡ false → is_settled i cuts ≡ false
  not_settled_passed fixed rows h f = by h.0 h.1.first (some_found h.0 fixed h.2 f)
    where
      by : (o : Option Duty) → o ≡ find (is_open i cuts) (all_duties i) → is_some o ≡ true → is_settled i cuts ≡ false
      by None e s = absurd (false≢true s)
      by (Some d) e s = (open_where_some i cuts d e).0
