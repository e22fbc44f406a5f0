-- Walks over the legal duties of a day, of a shift and of an instance.
use Rattle.head_splits.proofs.Common.{◌≡◌, inl, inr, ℕ, zero, suc, ◌+◌, ◌-◌, ◌<◌, ◌≤◌, Bool, true, false, cond, not, ◌||◌, List, [], ◌∷◌, ◌++◌, map, filter, refl, sym, ap, ◌∙◌, subst, arith, append-nil, Option, Some, None, slice_get, is_some, option_map_or, flat_map, find, range_with_len, cases_Bool, false≢true, flat_map-append, Break, is_live, legal_lists, begins_with, Has, all_from, all_at, from_legal_lists, live_from, Walks, Duty, Row, Problem, shift_list, below, lists_of, Cut, is_closed, is_fixed, is_settled, all_duties, duties_below, is_open, IsWalked, AreWalksOf, IsClear, shift_duties}
use Rattle.break_rules.proofs.FirstList.{find_has, find_none_at}
use Rattle.head_splits.proofs.Walked.{known, more_walked, stop_walked}

-- ---- lists of numbers

pub range_append : (a n m : ℕ) → range_with_len a (n + m) ≡ range_with_len a n ++ range_with_len (a + n) m
range_append a zero m =
    let none : zero + m ≡ m = omega arith in
    let same : a ≡ a + zero = omega arith in
    ap (range_with_len a) none ∙ ap (λ k. range_with_len k m) same
range_append a (suc n) m =
    let one : suc n + m ≡ suc (n + m) = omega arith in
    let more : (a + 1) + n ≡ a + suc n = omega arith in
    ap (range_with_len a) one ∙ ap (λ xs. a ∷ xs) (range_append (a + 1) n m ∙ ap (λ k. range_with_len (a + 1) n ++ range_with_len k m) more)

pub below_next : (n : ℕ) → below (n + 1) ≡ below n ++ n ∷ []
below_next n = let same : 0 + n ≡ n = omega arith in range_append 0 n 1 ∙ ap (λ k. below n ++ k ∷ []) same

pub below_split : (n k : ℕ) → k ≤ n → below n ≡ below k ++ range_with_len k (n - k)
below_split n k l =
    let whole : n ≡ k + (n - k) = omega arith in
    let same : 0 + k ≡ k = omega arith in
    ap (range_with_len 0) whole ∙ range_append 0 k (n - k) ∙ ap (λ a. below k ++ range_with_len a (n - k)) same

filter_all : {X : Type 0} (p : X → Bool) (xs : List X) → ((x : X) → p x ≡ true) → filter p xs ≡ xs
filter_all p [] h = refl
filter_all p (x ∷ xs) h = ap (λ b. cond b (x ∷ filter p xs) (filter p xs)) (h x) ∙ ap (λ ys. x ∷ ys) (filter_all p xs h)

flat_map_none : {X Y : Type 0} (f : X → List Y) (xs : List X) → ((x : X) → f x ≡ []) → flat_map f xs ≡ []
flat_map_none f [] h = refl
flat_map_none f (x ∷ xs) h = ap (λ ys. ys ++ flat_map f xs) (h x) ∙ flat_map_none f xs h

nothing_in : {X : Type 0} (xs : List X) → ((x : X) → Has xs x → ⊥) → xs ≡ []
nothing_in [] h = refl
nothing_in (x ∷ xs) h = absurd (h x (inl refl))

begins_with_none : (list : List Break) → begins_with list [] ≡ true
begins_with_none [] = refl
begins_with_none (b ∷ bs) = refl

module _ (i : Problem) (cuts : List Cut) where
  -- ---- walks over numbers

  pub next_walked : (f : ℕ → List Duty) (k : ℕ) (found : Option Duty) (before mid after : List Row)
      → IsWalked i cuts (flat_map f (below k)) None before mid → IsWalked i cuts (f k) found mid after → IsWalked i cuts (flat_map f (below (k + 1))) found before after
  next_walked f k found before mid after h g =
      subst (λ ds. IsWalked i cuts ds found before after)
      (ap (λ ds. flat_map f (below k) ++ ds) (sym (append-nil (f k))) ∙ sym (flat_map-append f (below k) (k ∷ [])) ∙ ap (flat_map f) (sym (below_next k)))
      (more_walked i cuts (flat_map f (below k)) (f k) found before mid after h g)

  pub stopped : (f : ℕ → List Duty) (n k : ℕ) (found : Option Duty) (before after : List Row) → k < n → is_some found ≡ true
      → IsWalked i cuts (flat_map f (below (k + 1))) found before after → IsWalked i cuts (flat_map f (below n)) found before after
  stopped f n k found before after l some h =
      subst (λ ds. IsWalked i cuts ds found before after)
      (sym (ap (flat_map f) (below_split n (k + 1) (omega arith)) ∙ flat_map-append f (below (k + 1)) (range_with_len (k + 1) (n - (k + 1)))))
      (stop_walked i cuts (flat_map f (below (k + 1))) (flat_map f (range_with_len (k + 1) (n - (k + 1)))) found before after some h)

  -- ---- from the start of a shift on

  pub clear_opening : (s day : ℕ) → IsClear i cuts s day []
  clear_opening s day n l = absurd (omega arith)

  pub day_duties : (s day : ℕ) → duties_below i s day [] ≡ map (λ list. record { shift = s; day = day; breaks = list }) (lists_of i s)
  day_duties s day = ap (map (λ list. record { shift = s; day = day; breaks = list })) (filter_all (λ list. begins_with list []) (lists_of i s) begins_with_none)

  -- a shift has no legal duty where no legal list begins with none
  pub no_duties : (s : ℕ) (walks : Walks) → AreWalksOf i s walks → is_live walks.rule walks.len [] ≡ false → shift_duties i s ≡ []
  no_duties s walks h none =
      let x = known (slice_get (shift_list i) s) (λ x. (walks.rule ≡ x.1) × (walks.len ≡ x.0.len)) h in
      let dead : is_live x.0.1 x.0.0.len [] ≡ false = ap (λ r. is_live r x.0.0.len []) (sym x.2.0) ∙ ap (λ n. is_live walks.rule n []) (sym x.2.1) ∙ none in
      let empty : lists_of i s ≡ [] =
      ap (λ o. option_map_or (λ x. legal_lists x.1 x.0.len) o []) x.1
      ∙ nothing_in (legal_lists x.0.1 x.0.0.len) (λ list m. false≢true (sym dead ∙ live_from x.0.1 x.0.0.len [] list (from_legal_lists x.0.1 x.0.0.len list m))) in
      flat_map_none (λ day. map (λ list. record { shift = s; day = day; breaks = list }) (lists_of i s)) (below i.days) (λ day. ap (map (λ list. record { shift = s; day = day; breaks = list })) empty)

  -- ---- what a whole walk says

  pub settled_where_none : None ≡ find (is_open i cuts) (all_duties i) → is_settled i cuts ≡ true
  settled_where_none h =
      all_from (λ d. is_closed i cuts d || is_fixed i cuts d) (all_duties i) (λ d m.
      closed_from (is_closed i cuts d || is_fixed i cuts d) (find_none_at (is_open i cuts) (all_duties i) d (sym h) m))
    where
      closed_from : (b : Bool) → not b ≡ false → b ≡ true
      closed_from true h = refl
      closed_from false h = absurd (false≢true (sym h))

  pub open_where_some : (d : Duty) → Some d ≡ find (is_open i cuts) (all_duties i) → (is_settled i cuts ≡ false) × (is_open i cuts d ≡ true)
  open_where_some d h =
      let f = find_has (is_open i cuts) (all_duties i) d (sym h) in (
        elim (cases_Bool (is_settled i cuts)) [
          | inl t ↦ absurd (both (is_closed i cuts d || is_fixed i cuts d) (all_at (λ d. is_closed i cuts d || is_fixed i cuts d) (all_duties i) d t f.0) f.1)
          | inr e ↦ e
        ],
        f.1,
      )
    where
      both : (b : Bool) → b ≡ true → not b ≡ true → ⊥
      both true h g = false≢true g
      both false h g = false≢true h

  pub shift_days : (s : ℕ) → flat_map (λ day. duties_below i s day []) (below i.days) ≡ shift_duties i s
  shift_days s = same (λ day. duties_below i s day []) (λ day. map (λ list. record { shift = s; day = day; breaks = list }) (lists_of i s)) (below i.days) (day_duties s)
    where
      same : {X Y : Type 0} (f g : X → List Y) (xs : List X) → ((x : X) → f x ≡ g x) → flat_map f xs ≡ flat_map g xs
      same f g [] h = refl
      same f g (x ∷ xs) h = ap (λ ys. ys ++ flat_map f xs) (h x) ∙ ap (λ ys. g x ++ ys) (same f g xs h)
