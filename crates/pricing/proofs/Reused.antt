-- Values that no changed price reaches.
use Rattle.pricing.proofs.Common.{◌≡◌, ℕ, ◌-◌, ◌<◌, ◌≤◌, ℤ, ◌≤ℤ◌, pos, cond, List, length, sym, ap, ◌∙◌, subst, arith, range_with_len, Break, Rule, Spot, works_at, end_of_all, from_range, int_sum_by-same, Node, node_at, sum_at, price_in, resumes, resumes_skip, IsValue, AreValues, rest_worth, AreValuesAbove}

module _ (rule : Rule) (len : ℕ) (sums other : List ℤ) (list : List Break) (same : (o : ℕ) → end_of_all list ≤ o → o < len → price_in other o ≡ price_in sums o) where
  -- a rest is worth as much where the prices behind the list are the same
  same_rest : (rest : List Break) → rest_worth other rule len list rest ≡ rest_worth sums rule len list rest
  same_rest rest =
      let from = resumes rule (end_of_all list) in
      let skip = resumes_skip rule (end_of_all list) in
      int_sum_by-same (λ o. cond (works_at rule len rest o) (price_in other o) (pos 0)) (λ o. cond (works_at rule len rest o) (price_in sums o) (pos 0)) (range_with_len from (len - from)) (λ o m.
      let r = from_range from (len - from) o m in
      let low : end_of_all list ≤ o = omega (arith, skip.2, r.0) in
      let high : o < len = omega (arith, r.0, r.1) in
      ap (λ (z : ℤ). cond (works_at rule len rest o) z (pos 0)) (same o low high))

  pub same_value : (v : ℤ) → IsValue rule len sums list v → IsValue rule len other list v
  same_value v h =
      let b = h.1 in (
        h.0,
        record {
          allowed = b.allowed;
          is_worth = same_rest h.0 ∙ b.is_worth;
          greatest = λ r c. subst (λ (z : ℤ). z ≤ℤ v) (sym (same_rest r)) (b.greatest r c);
          least = λ r c e. b.least r c (sym (same_rest r) ∙ e);
        },
      )

-- the values of the nodes behind an offset are the same where the prices there are
pub values_above : (rule : Rule) (len last : ℕ) (sums other values : List ℤ) (nodes : List Node) → ((o : ℕ) → last < o → o < len → price_in other o ≡ price_in sums o) → AreValues rule len sums nodes (length nodes) values
    → AreValuesAbove rule len other nodes last values
values_above rule len last sums other values nodes same known k list above st =
    let end : (node_at nodes k).spot.offset ≡ end_of_all list = ap (λ (s : Spot). s.offset) st.spot in
    same_value rule len sums other list (λ o low high. same o (omega (arith, above, end, low)) high) (sum_at values k) (known k list st.within st)
