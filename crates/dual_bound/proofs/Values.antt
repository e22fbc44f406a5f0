-- The value of a duty.
use Rattle.dual_bound.proofs.Common.{◌≡◌, inl, ℕ, zero, suc, ◌+◌, ◌*◌, ◌^◌, ◌≤◌, ℤ, pos, Bool, true, false, cond, List, [], ◌∷◌, length, refl, sym, ◌∙◌, subst, arith, None, MatchOption, unsigned_abs, zip, range_with_len, false≢true, Break, Has, Problem, slots, below, lists_of, is_list_of, works, price_of, earned, worth, IsBest, IsValid, Has-lists_of, from_lists_of, Cut, Prices, is_nil, entries_of, are_prices, best_is_value, IsValue, sum_size, priced, slot_small}
use Rattle.std.specs.Prelude.{Option, Some}
use Rattle.break_rules.specs.Breaks.{begins_with}
use Rattle.shift_instance.specs.declared.Duty.{Duty}
use Rattle.break_rules.specs.Bonuses.{bonus_of}
use Rattle.break_rules.proofs.Sizes.{abs_add}
use Rattle.dual_bound.proofs.Entries.{entry_small, entries_few}

not_nil : {X : Type 0} (xs : List X) (x : X) → Has xs x → is_nil xs ≡ false
not_nil [] x h = absurd h
not_nil (y ∷ ys) x h = refl

-- a shift none of whose lists is legal has no list
pub nil_without : (i : Problem) (s : ℕ) → ((list : List Break) → is_list_of i s list ≡ false) → is_nil (lists_of i s) ≡ true
nil_without i s none = go (lists_of i s) (λ x h. false≢true (sym (none x) ∙ from_lists_of i s x h))
  where
    go : (xs : List (List Break)) → ((x : List Break) → Has xs x → ⊥) → is_nil xs ≡ true
    go [] h = refl
    go (x ∷ xs) h = absurd (h x (inl refl))

picked : (b : Bool) (z : ℤ) (n : ℕ) → unsigned_abs z ≤ n → unsigned_abs (cond b z (pos 0)) ≤ n
picked true z n h = h
picked false z n h = omega arith

pub length_below : (a n : ℕ) → length (range_with_len a n) ≡ n
length_below a zero = refl
length_below a (suc n) = let r = length_below (a + 1) n in omega arith

-- the size of a duty's worth
worth_small : (i : Problem) (cuts : List Cut) (prices : Prices) (d : Duty) → IsValid i → are_prices i cuts prices ≡ true → length cuts ≤ 2 ^ 33 → unsigned_abs (worth i prices.slots (entries_of (zip cuts prices.cuts) d.shift d.day) d) ≤ 2 ^ 74
worth_small i cuts prices d valid h few =
    let entries = entries_of (zip cuts prices.cuts) d.shift d.day in
    let one : unsigned_abs (earned i prices.slots d) ≤ length (below (slots i)) * 10000000000 =
    sum_size (λ t. cond (works i d t) (price_of prices.slots t) (pos 0)) (below (slots i)) 10000000000 (λ t m. picked (works i d t) (price_of prices.slots t) 10000000000 (slot_small i cuts prices valid h t)) in
    let two : unsigned_abs (bonus_of entries d.breaks) ≤ length entries * 1000000000000 =
    sum_size (λ (e : List Break × ℤ). cond (begins_with d.breaks e.0) e.1 (pos 0)) entries 1000000000000 (λ e m. picked (begins_with d.breaks e.0) e.1 1000000000000 (entry_small cuts prices.cuts d.shift d.day (priced i cuts prices h).cut_prices e m)) in
    let all = abs_add (earned i prices.slots d) (bonus_of entries d.breaks) (length (below (slots i)) * 10000000000) (length entries * 1000000000000) one two in
    let count = length_below 0 (slots i) in
    let short = valid.few_slots in
    let some = entries_few cuts prices.cuts d.shift d.day in
    omega arith

-- the worth of the best list is the value
pub value_of_best : (i : Problem) (cuts : List Cut) (prices : Prices) (s day : ℕ) (list : List Break) (v : ℤ) → IsValid i → are_prices i cuts prices ≡ true → length cuts ≤ 2 ^ 33
    → IsBest i s day prices.slots (entries_of (zip cuts prices.cuts) s day) list v → IsValue i cuts prices s day v
value_of_best i cuts prices s day list v valid h few best =
    let d : Duty = record { shift = s; day = day; breaks = list } in
    record {
      some = not_nil (lists_of i s) list (Has-lists_of i s list best.legal);
      is = best_is_value i cuts prices s day list v best;
      small = subst (λ (z : ℤ). unsigned_abs z ≤ 2 ^ 74) (sym best.is_worth) (worth_small i cuts prices d valid h few);
    }

pub at_some : {A : Type 0} (o : Option A) (x : A) (P : Type 0) (Q : A → Type 0) → o ≡ Some x → MatchOption o P Q → Q x
at_some o x P Q is h = subst (λ (o : Option _). MatchOption o P Q) is h

pub none_at : {A : Type 0} (o : Option A) (P : Type 0) (Q : A → Type 0) → o ≡ None → MatchOption o P Q → P
none_at o P Q is h = subst (λ (o : Option _). MatchOption o P Q) is h
