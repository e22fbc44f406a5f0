-- The used shifts among one number more.
use Rattle.rota_sheets.proofs.Common.{◌≡◌, ℕ, ◌+◌, Bool, true, false, cond, Option, None, Some, List, [], ◌∷◌, ◌++◌, filter, sym, ap, ◌∙◌, append-nil, IsSomeAnd, slice_get, flat_map, option_map_or, flat_map_more, Rule, Duty, Shift, Problem, below, shift_list, is_used, UsedShift, shift_with_number}
use Rattle.std.proofs.lemmas.List.Elements.{filter-append}
use Rattle.shift_instance.proofs.Ranges.{below_next}

-- the used shifts of the numbers below one
abbrev pub used_below : Problem → List Duty → ℕ → List UsedShift
used_below i rota n = flat_map (shift_with_number i) (filter (is_used rota) (below n))

numbers_more : (i : Problem) (rota : List Duty) (n : ℕ) → used_below i rota (n + 1) ≡ flat_map (shift_with_number i) (filter (is_used rota) (below n) ++ cond (is_used rota n) (n ∷ []) [])
numbers_more i rota n =
    ap (λ (ns : List ℕ). flat_map (shift_with_number i) (filter (is_used rota) ns)) (below_next n)
    ∙ ap (flat_map (shift_with_number i)) (filter-append (is_used rota) (below n) (n ∷ []))

with_number : (n : ℕ) (o : Option (Shift × Rule)) (s : Shift) → IsSomeAnd o (λ x. s ≡ x.0) → option_map_or {U = List UsedShift} (λ x. record { number = n; shift = x.0 } ∷ []) o [] ≡ record { number = n; shift = s } ∷ []
with_number n None s h = absurd h
with_number n (Some x) s h = ap (λ (y : Shift). record { number = n; shift = y } ∷ []) (sym h)

-- one number more, of a used shift
pub used_more : (i : Problem) (rota : List Duty) (n : ℕ) (s : Shift) → is_used rota n ≡ true → IsSomeAnd (slice_get (shift_list i) n) (λ x. s ≡ x.0) → used_below i rota (n + 1) ≡ used_below i rota n ++ record { number = n; shift = s } ∷ []
used_more i rota n s used h =
    let ns : List ℕ = filter (is_used rota) (below n) in
    numbers_more i rota n
    ∙ ap (λ (b : Bool). flat_map (shift_with_number i) (ns ++ cond b (n ∷ []) [])) used
    ∙ sym (flat_map_more (shift_with_number i) [] ns n)
    ∙ ap (λ (us : List UsedShift). used_below i rota n ++ us) (with_number n (slice_get (shift_list i) n) s h)

-- one number more, of a shift that isn't used
pub unused_more : (i : Problem) (rota : List Duty) (n : ℕ) → is_used rota n ≡ false → used_below i rota (n + 1) ≡ used_below i rota n
unused_more i rota n unused =
    let ns : List ℕ = filter (is_used rota) (below n) in
    numbers_more i rota n
    ∙ ap (λ (b : Bool). flat_map (shift_with_number i) (ns ++ cond b (n ∷ []) [])) unused
    ∙ ap (flat_map (shift_with_number i)) (append-nil ns)
