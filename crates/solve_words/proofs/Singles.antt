-- Parts of which each kind stands at most once.
use Rattle.solve_words.proofs.Common.{◌≡◌, ◌∙◌, inl, inr, sym, subst, refl, ℕ, ◌+◌, ◌≤◌, true, false, List, [], ◌∷◌, ◌++◌, arith, if◌then◌else◌, bytes_eq, cases_Bool, or_parts, bytes_eq-Decides, has_row, Text, Part}
use Rattle.solve_words.proofs.Rows.{id_of, rows_for}

-- how many parts have an id
abbrev pub times : Text → List Part → ℕ
times id [] = 0
times id (part ∷ parts) = if bytes_eq (id_of part) id then 1 + times id parts else times id parts

abbrev pub Single : List Part → Type 0
Single parts = (id : Text) → times id parts ≤ 1

-- an id without a row is no part's
pub no_times : (id : Text) (parts : List Part) → has_row id (rows_for parts) ≡ false → times id parts ≡ 0
no_times id [] none = refl
no_times id (part ∷ parts) none =
    let e = or_parts (bytes_eq (id_of part) id) (has_row id (rows_for parts)) none in
    rw e.0 (no_times id parts e.1)

-- and an id that is no part's has no row
pub no_row : (id : Text) (parts : List Part) → times id parts ≡ 0 → has_row id (rows_for parts) ≡ false
no_row id [] none = refl
no_row id (part ∷ parts) none = elim (cases_Bool (bytes_eq (id_of part) id)) [
  | inl e ↦ let some : times id (part ∷ parts) ≡ 1 + times id parts = rw e refl in absurd (omega (arith, some, none))
  | inr e ↦ let rest : times id parts ≡ 0 = sym (let same : times id (part ∷ parts) ≡ times id parts = rw e refl in same) ∙ none in rw e (no_row id parts rest)
]

pub times-append : (id : Text) (xs ys : List Part) → times id (xs ++ ys) ≡ times id xs + times id ys
times-append id [] ys = omega arith
times-append id (x ∷ xs) ys = let rest = times-append id xs ys in elim (bytes_eq (id_of x) id) as (λ b. (if b then 1 + times id (xs ++ ys) else times id (xs ++ ys)) ≡ (if b then 1 + times id xs else times id xs) + times id ys) [
  | true ↦ omega (arith, rest)
  | false ↦ rest
]

pub none_single : Single []
none_single id = omega arith

-- a part of a new kind
pub one_more : (parts : List Part) (part : Part) → Single parts → has_row (id_of part) (rows_for parts) ≡ false → Single (parts ++ part ∷ [])
one_more parts part single new id = elim (cases_Bool (bytes_eq (id_of part) id)) [
  | inl e ↦
      let none : times id parts ≡ 0 = subst (λ (i : Text). times i parts ≡ 0) ((bytes_eq-Decides (id_of part) id).0 e) (no_times (id_of part) parts new) in
      let one : times id (part ∷ []) ≡ 1 = rw e refl in
      let all = times-append id parts (part ∷ []) in
      omega (arith, all, none, one)
  | inr e ↦
      let one : times id (part ∷ []) ≡ 0 = rw e refl in
      let all = times-append id parts (part ∷ []) in
      let few = single id in
      omega (arith, all, few, one)
]
