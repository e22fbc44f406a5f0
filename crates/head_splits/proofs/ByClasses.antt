-- A node is settled exactly where the classes of all duties of each shift and day are, one break after another.
use Rattle.head_splits.proofs.Common.{◌≡◌, inl, inr, ℕ, zero, suc, ◌+◌, ◌<◌, ◌≤◌, true, false, List, [], ◌∷◌, ◌++◌, length, arith, nat_lt, Option, Some, None, slice_get, ◌↔◌, option_map_or, cases_Bool, false≢true, and_parts, and_from, lt-ltb, length-append, Break, Rule, is_legal, is_live, legal_in_order, few_breaks, live_rest, live_from, Shift, Problem, shift_list, lists_of, is_shift_and, Has-lists_of, Cut, is_nil, class_of, is_settled, is_live_class, IsSettledClass, without_duties, of_fixed_number, of_settled_extensions}
use Rattle.head_splits.proofs.Duality.{none_in}
use Rattle.head_splits.proofs.Recursion.{IsSettledFrom, settled_closed, settled_whole, settled_parts, settled_cases, settled_each, settled_from_each}

-- the length of a shift, by its number
size_of : Option (Shift × Rule) → ℕ
size_of o = option_map_or (λ x. x.0.len) o 0

live_within : (o : Option (Shift × Rule)) (list : List Break) → option_map_or (λ x. is_live x.1 x.0.len list) o false ≡ true → length list ≤ size_of o
unfolding size_of
live_within None list h = absurd (false≢true h)
live_within (Some x) list h =
    let r = live_rest x.1 x.0.len list h in
    let few : length (list ++ r.0) ≤ x.0.len = few_breaks x.0.len (list ++ r.0) (legal_in_order x.1 x.0.len (list ++ r.0) r.1) in
    let both : length (list ++ r.0) ≡ length list + length r.0 = length-append list r.0 in
    omega arith

live_of_legal : (o : Option (Shift × Rule)) (list rest : List Break) → option_map_or (λ x. is_legal x.1 x.0.len (list ++ rest)) o false ≡ true → option_map_or (λ x. is_live x.1 x.0.len list) o false ≡ true
live_of_legal None list rest h = absurd (false≢true h)
live_of_legal (Some x) list rest h = live_from x.1 x.0.len list rest h

module _ (i : Problem) (cuts : List Cut) (s day : ℕ) where
  -- an extension by a break is settled where it is live, and has no legal list where it isn't
  extended : (prefix : List Break) → day < i.days → (is_live_class i (class_of s day prefix) ≡ true → IsSettledFrom i cuts s day prefix) → IsSettledFrom i cuts s day prefix
  extended prefix within h rest l =
      h (and_from (nat_lt day i.days) (is_shift_and i s (λ x. is_live x.1 x.0.len prefix)) (lt-ltb day i.days within) (live_of_legal (slice_get (shift_list i) s) prefix rest l)) rest l

  pub from_class : day < i.days → (prefix : List Break) → IsSettledClass i cuts s day prefix → IsSettledFrom i cuts s day prefix
  from_class within _ (without_duties prefix none) = settled_closed i cuts s day prefix none
  from_class within _ (of_fixed_number prefix whole fixed) = settled_whole i cuts s day prefix whole fixed
  from_class within _ (of_settled_extensions prefix part h) =
      settled_parts i cuts s day prefix part (λ b. extended (prefix ++ b ∷ []) within (λ live. from_class within (prefix ++ b ∷ []) (h b live)))

  to_class : (n : ℕ) (prefix : List Break) → size_of (slice_get (shift_list i) s) ≤ length prefix + n → IsSettledFrom i cuts s day prefix → IsSettledClass i cuts s day prefix
  to_class zero prefix long h =
      elim (settled_cases i cuts s day prefix h) [
        | inl none ↦ without_duties prefix none
        | inr some ↦ elim some [
          | inl whole ↦ of_fixed_number prefix whole.0 whole.1
          | inr part ↦ of_settled_extensions prefix part.0 (λ b live.
              let few : length (prefix ++ b ∷ []) ≤ size_of (slice_get (shift_list i) s) = live_within (slice_get (shift_list i) s) (prefix ++ b ∷ []) (and_parts (nat_lt day i.days) (is_shift_and i s (λ x. is_live x.1 x.0.len (prefix ++ b ∷ []))) live).1 in
              let both : length (prefix ++ b ∷ []) ≡ length prefix + 1 = length-append prefix (b ∷ []) in
              absurd (omega arith))
        ]
      ]
  to_class (suc n) prefix long h =
      elim (settled_cases i cuts s day prefix h) [
        | inl none ↦ without_duties prefix none
        | inr some ↦ elim some [
          | inl whole ↦ of_fixed_number prefix whole.0 whole.1
          | inr part ↦ of_settled_extensions prefix part.0 (λ b live.
              let both : length (prefix ++ b ∷ []) ≡ length prefix + 1 = length-append prefix (b ∷ []) in
              to_class n (prefix ++ b ∷ []) (omega arith) (part.1 b))
        ]
      ]

-- a shift without a legal list has none to settle
nothing_to_settle : (i : Problem) (cuts : List Cut) (s day : ℕ) → is_nil (lists_of i s) ≡ true → IsSettledFrom i cuts s day []
nothing_to_settle i cuts s day nil rest l = absurd (none_in (lists_of i s) rest nil (Has-lists_of i s rest l))

pub settled_by_classes : (i : Problem) (cuts : List Cut) → (is_settled i cuts ≡ true) ↔ ((s day : ℕ) → is_nil (lists_of i s) ≡ false → day < i.days → IsSettledClass i cuts s day [])
settled_by_classes i cuts = (
  λ h s day some within. to_class i cuts s day (size_of (slice_get (shift_list i) s)) [] (omega arith) (settled_each i cuts h s day within),
  λ h. settled_from_each i cuts (λ s day known within.
      elim (cases_Bool (is_nil (lists_of i s))) [
        | inl nil ↦ nothing_to_settle i cuts s day nil
        | inr some ↦ from_class i cuts s day within [] (h s day some within)
      ]),
)
