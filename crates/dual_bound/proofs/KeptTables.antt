-- Tables that are kept: the changes that bring them to other prices, and what they say there.
use Rattle.dual_bound.proofs.Common.{◌≡◌, ℕ, suc, ◌+◌, ◌<◌, ◌≤◌, ◌^◌, ℤ, true, false, List, [], ◌∷◌, ◌++◌, length, map, take, get_or, refl, sym, ap, ◌∙◌, subst, arith, append_assoc, All, inl, inr, set, slice_set, Vec, enumerate_from, zip, take-suc, set-append_seam, map-append, length-map, length-set, get_or-set_other, with_items_is, cases_eq, with_items, Global, each_more, All-nil, All-cons, All-append, All-tail, Break, Problem, below, is_list_of, lists_of, IsValid, IsBest, Cut, Prices, are_prices, entries_of, is_nil, repriced, IsBestOn, DayTables, AreKept, AreKeptOrNone, AreKeptBelow, AreTablesBelow, IsKept, IsAt, place_of}
use Rattle.std.proofs.lemmas.List.{length-append}
use Rattle.std.proofs.lemmas.Grind.{get_or-set_at}
use Rattle.std.proofs.lemmas.List.FromFn.{get_or-map-range_with_len}
use Rattle.std.proofs.Math.ListN.{get_or-map}
use Rattle.shift_instance.proofs.Ranges.{below_next}
use Rattle.dual_bound.proofs.BestLists.{best_found}
use Rattle.dual_bound.proofs.Values.{length_below, nil_without, value_of_best}

-- one element more, with its index
pub enumerate_more : {X : Type 0} (n : ℕ) (xs : List X) (x : X) → enumerate_from n (xs ++ x ∷ []) ≡ enumerate_from n xs ++ (n + length xs, x) ∷ []
enumerate_more n [] x = ap (λ k. (k, x) ∷ []) (omega arith)
enumerate_more n (y ∷ ys) x =
    ap (λ l. (n, y) ∷ l) (enumerate_more (n + 1) ys x ∙ ap (λ k. enumerate_from (n + 1) ys ++ (k, x) ∷ []) (omega arith))

-- changes that name each slot give their prices, whatever the prices were
changed_behind : (front old new : List ℤ) (n : ℕ) → n ≡ length front → length old ≡ length new → repriced (front ++ old) (enumerate_from n new) ≡ front ++ new
changed_behind front [] [] n at same = refl
changed_behind front [] (x ∷ xs) n at same = absurd (omega arith)
changed_behind front (y ∷ ys) [] n at same = absurd (omega arith)
changed_behind front (y ∷ ys) (x ∷ xs) n at same =
    ap (λ l. repriced l (enumerate_from (n + 1) xs)) (ap (λ k. slice_set (front ++ y ∷ ys) k x) at ∙ set-append_seam front y ys x ∙ sym (append_assoc front (x ∷ []) ys))
    ∙ changed_behind (front ++ x ∷ []) ys xs (n + 1) (omega (arith, length-append front (x ∷ []))) (omega arith)
    ∙ append_assoc front (x ∷ []) xs

pub repriced_to : (old new : List ℤ) → length old ≡ length new → repriced old (enumerate_from 0 new) ≡ new
repriced_to old new same = changed_behind [] old new 0 refl same

-- each of them names a slot, and gives one of the prices
pub slots_named : {X : Type 0} (n m : ℕ) (xs : List X) → n + length xs ≡ m → All (λ (c : ℕ × X). c.0 < m) (enumerate_from n xs)
slots_named n m [] same = All-nil (λ c. c.0 < m)
slots_named n m (x ∷ xs) same = All-cons (λ c. c.0 < m) (n, x) (enumerate_from (n + 1) xs) (omega arith) (slots_named (n + 1) m xs (omega arith))

pub prices_named : {X : Type 0} (P : X → Type 0) (n : ℕ) (xs : List X) → All P xs → All (λ (c : ℕ × X). P c.1) (enumerate_from n xs)
prices_named P n [] each = All-nil (λ c. P c.1)
prices_named P n (x ∷ xs) each = All-cons (λ c. P c.1) (n, x) (enumerate_from (n + 1) xs) (each 0 x (omega arith)) (prices_named P (n + 1) xs (All-tail P x xs each))

-- the tables of one day more
pub kept_more : (i : Problem) (s days : ℕ) (tables : List DayTables) (t : DayTables) → AreKept i s days tables → place_of t ≡ (s, days) → IsKept i t → AreKept i s (days + 1) (tables ++ t ∷ [])
kept_more i s days tables t kept place own = record {
  places =
      map-append place_of tables (t ∷ []) ∙ ap (λ l. l ++ place_of t ∷ []) kept.places ∙ ap (λ p. map (λ day. (s, day)) (below days) ++ p ∷ []) place
      ∙ sym (ap (map (λ day. (s, day))) (below_next days) ∙ map-append (λ day. (s, day)) (below days) (days ∷ []));
  each = All-append (IsKept i) tables (t ∷ []) kept.each (All-cons (IsKept i) t [] own (All-nil (IsKept i)));
}

pub all_more : {X : Type 0} (P : X → Type 0) (xs : List X) (x : X) → All P xs → P x → All P (xs ++ x ∷ [])
all_more P xs x each own = All-append P xs (x ∷ []) each (All-cons P x [] own (All-nil P))

-- there are as many tables as days
pub kept_count : (i : Problem) (s days : ℕ) (tables : List DayTables) → AreKept i s days tables → length tables ≡ days
kept_count i s days tables kept =
    sym (length-map tables place_of) ∙ ap length kept.places ∙ length-map (below days) (λ day. (s, day)) ∙ length_below 0 days

-- the shift and the day of tables among these
pub place_at : (i : Problem) (s days : ℕ) (tables : List DayTables) (k : ℕ) (t : DayTables) → AreKept i s days tables → k < length tables → place_of (get_or tables k t) ≡ (s, k)
place_at i s days tables k t kept inside =
    let count = kept_count i s days tables kept in
    sym (get_or-map place_of tables k t) ∙ ap (λ l. get_or l k (place_of t)) kept.places ∙ get_or-map-range_with_len (λ day. (s, day)) 0 days k k (place_of t) (omega arith) (omega arith)

module _ (i : Problem) (cuts : List Cut) (prices : Prices) (s day : ℕ) (t : DayTables) (kept : IsKept i t) (at : IsAt cuts prices t) (place : place_of t ≡ (s, day)) where
  shift_is : t.shift ≡ s
  shift_is = ap (λ (p : ℕ × ℕ). p.0) place

  day_is : t.day ≡ day
  day_is = ap (λ (p : ℕ × ℕ). p.1) place

  entries_are : t.entries.items ≡ entries_of (zip cuts prices.cuts) s day
  entries_are = at.entries ∙ ap (λ n. entries_of (zip cuts prices.cuts) n t.day) shift_is ∙ ap (λ n. entries_of (zip cuts prices.cuts) s n) day_is

  -- the best list of tables is the best one at the prices at which they are
  pub best_of_kept : (list : List Break) (value : ℤ) → IsValid i → are_prices i cuts prices ≡ true → length cuts ≤ 2 ^ 33
      → IsBest t.tables.instance t.tables.shift t.tables.day t.tables.prices t.entries.items list value → IsBestOn i cuts prices s day list value
  best_of_kept list value valid h few best =
      let one : IsBest i t.tables.shift t.tables.day t.tables.prices t.entries.items list value = subst (λ (j : Problem). IsBest j t.tables.shift t.tables.day t.tables.prices t.entries.items list value) kept.instance best in
      let two : IsBest i s t.tables.day t.tables.prices t.entries.items list value = subst (λ n. IsBest i n t.tables.day t.tables.prices t.entries.items list value) (kept.shift ∙ shift_is) one in
      let three : IsBest i s day t.tables.prices t.entries.items list value = subst (λ n. IsBest i s n t.tables.prices t.entries.items list value) (kept.day ∙ day_is) two in
      let four : IsBest i s day prices.slots t.entries.items list value = subst (λ (xs : List ℤ). IsBest i s day xs t.entries.items list value) at.slots three in
      let own : IsBest i s day prices.slots (entries_of (zip cuts prices.cuts) s day) list value = subst (λ (es : List (List Break × ℤ)). IsBest i s day prices.slots es list value) entries_are four in
      record { best = best_found i cuts prices s day list value own; valued = value_of_best i cuts prices s day list value valid h few own }

  -- without a best list no list is legal
  pub none_of_kept : ((list : List Break) → is_list_of t.tables.instance t.tables.shift list ≡ false) → is_nil (lists_of i s) ≡ true
  none_of_kept none =
      nil_without i s (λ list. sym (ap (λ j. is_list_of j t.tables.shift list) kept.instance ∙ ap (λ n. is_list_of i n list) (kept.shift ∙ shift_is)) ∙ none list)

-- the tables of one shift more
pub tables_more : (i : Problem) (cuts : List Cut) (prices : Prices) (n : ℕ) (all : List (Vec DayTables Global)) (v : Vec DayTables Global)
    → AreTablesBelow i cuts prices n all → AreKeptOrNone i n v.items → All (IsAt cuts prices) v.items → AreTablesBelow i cuts prices (n + 1) (all ++ v ∷ [])
tables_more i cuts prices n all v so_far own at =
    let count = so_far.kept.count in
    record {
      kept = record {
        count = length-append all (v ∷ []) ∙ omega arith;
        each = λ s d less.
            let longer = length-append all (v ∷ []) in
            each_more (λ k (w : Vec DayTables Global). AreKeptOrNone i k w.items) d all v n count (λ k below_n. so_far.kept.each k d (omega arith)) own s (omega arith);
      };
      at = all_more (λ (w : Vec DayTables Global). All (IsAt cuts prices) w.items) all v so_far.at at;
    }

module _ (i : Problem) (shifts k : ℕ) (all : List (Vec DayTables Global)) (v : Vec DayTables Global) (ws : List DayTables) where
  abbrev changed : Vec DayTables Global
  changed = with_items (get_or all k v) ws

  -- tables in their places stand in the list as they are
  pub items_of_changed : map place_of ws ≡ map place_of (get_or all k v).items → (with_items (get_or all k v) ws).items ≡ ws
  items_of_changed places =
      with_items_is (get_or all k v) ws (sym (length-map ws place_of) ∙ ap length places ∙ length-map (get_or all k v).items place_of ∙ sym (get_or all k v).ok.0)

  -- the tables of a shift are changed, and each of them is for the shift and day that it was for
  pub kept_changed : AreKeptBelow i shifts all → k < length all → map place_of ws ≡ map place_of (get_or all k v).items → All (IsKept i) ws
      → AreKeptBelow i shifts (set all k (with_items (get_or all k v) ws))
  kept_changed kept inside places each =
      let old = kept.each k v inside in
      let own : AreKeptOrNone i k (with_items (get_or all k v) ws).items =
      subst (AreKeptOrNone i k) (sym (items_of_changed places)) (old.0, old.1, record { places = places ∙ old.2.places; each = each }) in
      record {
        count = length-set all k changed ∙ kept.count;
        each = λ s d less.
            elim (cases_eq s k) [
              | inl e ↦
                  subst (λ (w : Vec DayTables Global). AreKeptOrNone i s w.items) (sym (get_or-set_at all k s changed d e inside))
                  (subst (λ n. AreKeptOrNone i n (with_items (get_or all k v) ws).items) (sym e) own)
              | inr other ↦
                  let same = length-set all k changed in
                  subst (λ (w : Vec DayTables Global). AreKeptOrNone i s w.items) (sym (get_or-set_other all k s changed d other)) (kept.each s d (omega arith))
            ];
      }
