-- The plain rule's only legal list is the empty one.
use Rattle.break_rules.proofs.Common.{◌≡◌, inl, inr, ℕ, ◌+◌, ◌-◌, ◌≤◌, true, cond, ◌&&◌, List, [], ◌∷◌, refl, ap, ◌∙◌, arith, nat_le, count_by, pointwise, and_from, le-leb, sum_by-cons, Break, same_break, is_legal, legal_lists, plain_rule, Has}
use Rattle.break_rules.proofs.LegalLists.{legal_from, legal_parts, legal_in_order, no_rest, from_legal_lists}
use Rattle.break_rules.proofs.Once.{once_legal}

-- without breaks a shift of a length from 1 to 288 is legal
pub plain_legal : (len : ℕ) → 1 ≤ len → len ≤ 288 → is_legal plain_rule len [] ≡ true
plain_legal len some short =
    let least : nat_le 1 (len - 0) ≡ true = le-leb 1 (len - 0) (omega arith) in
    let most : nat_le (len - 0) 288 ≡ true = le-leb (len - 0) 288 (omega arith) in
    legal_from plain_rule len [] (record {
      ordered = and_from (nat_le 0 len) true (le-leb 0 len (omega arith)) refl;
      some = refl;
      ends = refl;
      lunched = refl;
      work = and_from (nat_le 1 (len - 0) && nat_le (len - 0) 288) true (and_from _ _ least most) refl;
      rested = refl;
      sizes = refl;
      total = refl;
    })

-- a legal list has no break
pub plain_empty : (len : ℕ) (list : List Break) → is_legal plain_rule len list ≡ true → list ≡ []
plain_empty len list h = no_rest 0 len list (legal_in_order plain_rule len list h) (legal_parts plain_rule len list h).total

all_empty : (lists : List (List Break)) → ((list : List Break) → Has lists list → list ≡ []) → count_by (pointwise same_break []) lists ≡ 0 → lists ≡ []
all_empty [] h n = refl
all_empty (x ∷ lists) h n =
    let e : x ≡ [] = h x (inl refl) in
    let c : count_by (pointwise same_break []) (x ∷ lists) ≡ cond (pointwise same_break [] x) 1 0 + count_by (pointwise same_break []) lists = sum_by-cons (λ x. cond (pointwise same_break [] x) 1 0) x lists in
    let one : ◌≡◌ {A = ℕ} (cond (pointwise same_break [] x) 1 0) 1 = ap (λ (y : List Break). cond (pointwise same_break [] y) 1 0) e in
    absurd (omega arith)

one_empty : (lists : List (List Break)) → ((list : List Break) → Has lists list → list ≡ []) → count_by (pointwise same_break []) lists ≡ 1 → lists ≡ [] ∷ []
one_empty [] h n = absurd (omega arith)
one_empty (x ∷ lists) h n =
    let e : x ≡ [] = h x (inl refl) in
    let c : count_by (pointwise same_break []) (x ∷ lists) ≡ cond (pointwise same_break [] x) 1 0 + count_by (pointwise same_break []) lists = sum_by-cons (λ x. cond (pointwise same_break [] x) 1 0) x lists in
    let one : ◌≡◌ {A = ℕ} (cond (pointwise same_break [] x) 1 0) 1 = ap (λ (y : List Break). cond (pointwise same_break [] y) 1 0) e in
    let rest : lists ≡ [] = all_empty lists (λ list m. h list (inr m)) (omega arith) in
    ap (λ (y : List Break). y ∷ lists) e ∙ ap (λ (ys : List (List Break)). [] ∷ ys) rest

-- the only legal list is the empty one
pub legal_lists-plain : (len : ℕ) → 1 ≤ len → len ≤ 288 → legal_lists plain_rule len ≡ [] ∷ []
legal_lists-plain len some short =
    one_empty (legal_lists plain_rule len) (λ list m. plain_empty len list (from_legal_lists plain_rule len list m)) (once_legal plain_rule len [] (plain_legal len some short))
