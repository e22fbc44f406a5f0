-- Break lists in their order, break by break.
use Rattle.break_rules.proofs.Common.{◌≡◌, inl, inr, ℕ, ◌+◌, ◌-◌, ◌<◌, ◌≤◌, true, false, ◌&&◌, ◌==◌, List, [], ◌∷◌, length, drop, get_or, refl, sym, ap, ◌∙◌, arith, nat_lt, and_parts, le-ltb, ltb-true, lt-ltb, eqb-true, or_cases, or_from, and_left, and_right, ne_eqb, cases_lt, at_drop_more, drop_all, length-drop, Break, same_break, is_less_break, is_less_list}

pub less_once : (x y : Break) → is_less_break y x ≡ true → (is_less_break x y ≡ false) × (same_break x y ≡ false)
less_once x y h =
    elim (or_cases (nat_lt y.start x.start) ((y.start == x.start) && nat_lt y.len x.len) h) [
      | inl l ↦
          let low : y.start < x.start = ltb-true _ _ l in
          let differ : (x.start == y.start) ≡ false = ne_eqb x.start y.start (λ e. omega arith) in
          (or_from _ _ (le-ltb x.start y.start (omega arith)) (and_left _ (nat_lt x.len y.len) differ), and_left _ (x.len == y.len) differ)
      | inr b ↦
          let p = and_parts (y.start == x.start) (nat_lt y.len x.len) b in
          let same : y.start ≡ x.start = eqb-true _ _ p.0 in
          let low : y.len < x.len = ltb-true _ _ p.1 in (
            or_from _ _ (le-ltb x.start y.start (omega arith)) (and_right (x.start == y.start) _ (le-ltb x.len y.len (omega arith))),
            and_right (x.start == y.start) _ (ne_eqb x.len y.len (λ e. omega arith)),
          )
    ]

pub less_stop : (a b : List Break) (i : ℕ) (d e : Break) → i < length a → i < length b → is_less_list (drop i a) (drop i b) ≡ is_less_list a b → is_less_break (get_or b i e) (get_or a i d) ≡ true → false ≡ is_less_list a b
less_stop a b i d e la lb rest less =
    let x = get_or a i d in
    let y = get_or b i e in
    let o = less_once x y less in
    let one : is_less_list (drop i a) (drop i b) ≡ is_less_list (x ∷ drop (i + 1) a) (drop i b) = at_drop_more (λ xs. is_less_list xs (drop i b)) a i d la in
    let two : is_less_list (x ∷ drop (i + 1) a) (drop i b) ≡ is_less_list (x ∷ drop (i + 1) a) (y ∷ drop (i + 1) b) = at_drop_more (λ ys. is_less_list (x ∷ drop (i + 1) a) ys) b i e lb in
    sym (sym rest ∙ one ∙ two ∙ or_from (is_less_break x y) _ o.0 (and_left (same_break x y) _ o.1))

pub less_out : (a b : List Break) (i : ℕ) (d : Break) → i < length a → length b ≤ i → is_less_list (drop i a) (drop i b) ≡ is_less_list a b → false ≡ is_less_list a b
less_out a b i d la lb rest =
    let one : is_less_list (drop i a) (drop i b) ≡ is_less_list (get_or a i d ∷ drop (i + 1) a) (drop i b) = at_drop_more (λ xs. is_less_list xs (drop i b)) a i d la in
    let two : is_less_list (get_or a i d ∷ drop (i + 1) a) (drop i b) ≡ false = ap (λ ys. is_less_list (get_or a i d ∷ drop (i + 1) a) ys) (drop_all i b lb) in
    sym (sym rest ∙ one ∙ two)

none_less : (ys : List Break) → is_less_list [] ys ≡ nat_lt 0 (length ys)
none_less [] = refl
none_less (y ∷ ys) = sym (lt-ltb 0 (length (y ∷ ys)) (omega arith))

pub less_end : (a b : List Break) (i : ℕ) → length a ≤ i → i ≤ length a → is_less_list (drop i a) (drop i b) ≡ is_less_list a b → nat_lt (length a) (length b) ≡ is_less_list a b
less_end a b i long short rest =
    let one : is_less_list (drop i a) (drop i b) ≡ is_less_list [] (drop i b) = ap (λ xs. is_less_list xs (drop i b)) (drop_all i a long) in
    let len : length (drop i b) ≡ length b - i = length-drop i b in
    let same : nat_lt 0 (length (drop i b)) ≡ nat_lt (length a) (length b) =
    elim (cases_lt (length a) (length b)) [
      | inl l ↦ lt-ltb 0 (length (drop i b)) (omega arith) ∙ sym (lt-ltb (length a) (length b) l)
      | inr g ↦ le-ltb 0 (length (drop i b)) (omega arith) ∙ sym (le-ltb (length a) (length b) g)
    ] in
    sym same ∙ sym (none_less (drop i b)) ∙ sym one ∙ rest
