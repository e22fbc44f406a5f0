-- The duties of legal rows, row by row.
use Rattle.plan_tables.proofs.Common.{◌≡◌, ℕ, zero, suc, ◌+◌, ◌*◌, ◌<◌, ◌≤◌, true, List, [], ◌∷◌, ◌++◌, length, get_or, map, take, replicate, refl, sym, ap, ◌∙◌, subst, arith, append_assoc, append-nil, add-one, length-append, length-replicate, map-append, Duty, Row, Problem, shift_list, duty_of, rota_of, are_legal_rows, is_legal_rota, legal_rows_parts, row_duty, unbroken}
use Rattle.std.proofs.Math.Nat.{mul-le-mul_right}
use Rattle.shift_instance.specs.Valid.{IsValid}
use Rattle.rota_cost.proofs.Lengths.{legal_length}

-- the duties of the first rows and of one more
pub rota_more : (rows : List Row) (k : ℕ) (r : Row) → k < length rows → r ≡ get_or rows k r → rota_of (take (suc k) rows) ≡ rota_of (take k rows) ++ replicate r.count (duty_of r)
rota_more [] k r l e = absurd (omega arith)
rota_more (x ∷ xs) zero r l e = append-nil (replicate x.count (duty_of x)) ∙ ap (λ (z : Row). replicate z.count (duty_of z)) (sym e)
rota_more (x ∷ xs) (suc k) r l e = ap (λ ds. replicate x.count (duty_of x) ++ ds) (rota_more xs k r (omega arith) e) ∙ sym (append_assoc (replicate x.count (duty_of x)) (rota_of (take k xs)) (replicate r.count (duty_of r)))

-- the first rows have no more duties than all
part_length : (rows : List Row) (k : ℕ) → length (rota_of (take k rows)) ≤ length (rota_of rows)
part_length rows zero = omega arith
part_length [] (suc k) = omega arith
part_length (x ∷ xs) (suc k) =
    let a : length (replicate x.count (duty_of x) ++ rota_of (take k xs)) ≡ length (replicate x.count (duty_of x)) + length (rota_of (take k xs)) = length-append (replicate x.count (duty_of x)) (rota_of (take k xs)) in
    let b : length (replicate x.count (duty_of x) ++ rota_of xs) ≡ length (replicate x.count (duty_of x)) + length (rota_of xs) = length-append (replicate x.count (duty_of x)) (rota_of xs) in
    omega (arith, part_length xs k)

few_duties : (i : Problem) (rota : List Duty) → IsValid i → is_legal_rota i rota ≡ true → length rota ≤ 2000000
few_duties i rota valid legal =
    let most : length rota ≤ length (shift_list i) * i.days * i.heads = legal_length i rota legal in
    let b : length (shift_list i) * i.days ≤ 1024 * i.days = mul-le-mul_right i.days valid.shifts in
    let days : i.days ≤ 7 = valid.days in
    let c : length (shift_list i) * i.days ≤ 7168 = omega arith in
    let d : length (shift_list i) * i.days * i.heads ≤ 7168 * i.heads = mul-le-mul_right i.heads c in
    let few : i.heads ≤ 200 = valid.heads in
    omega arith

-- what is known of a row of legal rows
pub record IsRowAt (i : Problem) (rows : List Row) (k : ℕ) (r : Row) : Type 0 where
  pub shift : r.shift < length (shift_list i)
  pub day : r.day < i.days
  pub few : length (rota_of (take k rows)) + r.count ≤ 2000000
  pub more : rota_of (take (k + 1) rows) ≡ rota_of (take k rows) ++ replicate r.count (duty_of r)

pub row_at : (i : Problem) (slice rows : List Row) (k : ℕ) (r : Row) → slice ≡ rows → IsValid i → are_legal_rows i rows ≡ true → k < length slice → r ≡ get_or slice k r → IsRowAt i rows k r
row_at i slice rows k r same valid h l e =
    from (subst (λ (xs : List Row). k < length xs) same l) (e ∙ ap (λ (xs : List Row). get_or xs k r) same)
  where
    from : k < length rows → r ≡ get_or rows k r → IsRowAt i rows k r
    from l e =
        let own = row_duty i rows h k r l in
        let more : rota_of (take (suc k) rows) ≡ rota_of (take k rows) ++ replicate r.count (duty_of r) = rota_more rows k r l e in
        record {
          shift = subst (λ (x : Row). x.shift < length (shift_list i)) (sym e) own.shift;
          day = subst (λ (x : Row). x.day < i.days) (sym e) own.day;
          few =
              let a : length (rota_of (take (suc k) rows)) ≤ length (rota_of rows) = part_length rows (suc k) in
              let b : length (rota_of rows) ≤ 2000000 = few_duties i (rota_of rows) valid (legal_rows_parts i rows h).legal in
              let c : length (rota_of (take (suc k) rows)) ≡ length (rota_of (take k rows)) + r.count = ap (λ ds. length ds) more ∙ length-append (rota_of (take k rows)) (replicate r.count (duty_of r)) ∙ ap (λ n. length (rota_of (take k rows)) + n) (length-replicate r.count (duty_of r)) in
              omega arith;
          more = ap (λ n. rota_of (take n rows)) (add-one k) ∙ more;
        }

-- duties that are alike, each without its breaks
pub map-replicate : (n : ℕ) (d : Duty) → map unbroken (replicate n d) ≡ replicate n (unbroken d)
map-replicate zero d = refl
map-replicate (suc n) d = ap (λ ds. unbroken d ∷ ds) (map-replicate n d)

pub unbroken_more : (ds : List Duty) (n : ℕ) (d : Duty) → map unbroken (ds ++ replicate n d) ≡ map unbroken ds ++ replicate n (unbroken d)
unbroken_more ds n d = map-append unbroken ds (replicate n d) ∙ ap (λ es. map unbroken ds ++ es) (map-replicate n d)
