-- How many duties legal rows have, and what sums and counts over them are.
use Rattle.rota_cost.proofs.Common.{◌≡◌, inl, inr, ℕ, zero, suc, ◌+◌, ◌*◌, ◌<◌, ◌≤◌, true, ◌&&◌, List, [], ◌∷◌, length, take, drop, get_or, replicate, refl, sym, ap, ◌∙◌, subst, arith, sum_by, nat_lt, list_all, zip, and_parts, false≢true, sum_by_more, sum_by_more_le, take_all, Has, Has-flat_map, all_at, from_below, sum_by_same, Duty, Row, Problem, shift_list, slots, below, is_legal_rota, rota_of, duty_of, cover, slot_cost, shifts_used, cost, are_legal_rows, is_before, IsValid, legal_duties, LegalDuty, cover_rows, working}
use Rattle.rota_cost.proofs.Coverage.{few_at_once}

pub Has_copy : {X : Type 0} (n : ℕ) (x : X) → nat_lt 0 n ≡ true → Has (replicate n x) x
Has_copy zero x h = absurd (false≢true h)
Has_copy (suc n) x h = inl refl

-- ---- what legal rows are
pub record LegalRows (i : Problem) (rows : List Row) : Type 0 where
  pub sorted : list_all (λ p. is_before p.0 p.1) (zip rows (drop 1 rows)) ≡ true
  pub counted : list_all (λ r. nat_lt 0 r.count) rows ≡ true
  pub legal : is_legal_rota i (rota_of rows) ≡ true

pub legal_rows_parts : (i : Problem) (rows : List Row) → are_legal_rows i rows ≡ true → LegalRows i rows
legal_rows_parts i rows h =
    let q = and_parts (list_all (λ p. is_before p.0 p.1) (zip rows (drop 1 rows)) && list_all (λ r. nat_lt 0 r.count) rows) (is_legal_rota i (rota_of rows)) h in
    let p = and_parts (list_all (λ p. is_before p.0 p.1) (zip rows (drop 1 rows))) (list_all (λ r. nat_lt 0 r.count) rows) q.0 in
    record { sorted = p.0; counted = p.1; legal = q.1 }

Has_get : {X : Type 0} (xs : List X) (k : ℕ) (d : X) → k < length xs → Has xs (get_or xs k d)
Has_get [] k d h = absurd (omega arith)
Has_get (x ∷ xs) zero d h = inl refl
Has_get (x ∷ xs) (suc k) d h = let small : k < length xs = omega arith in inr (Has_get xs k d small)

-- a row's duty is one of the rota's, so its shift is in the list
pub row_duty : (i : Problem) (rows : List Row) → are_legal_rows i rows ≡ true → (k : ℕ) (d : Row) → k < length rows → LegalDuty i (duty_of (get_or rows k d))
row_duty i rows h k d small =
    let p = legal_rows_parts i rows h in
    let r = get_or rows k d in
    let m = Has_get rows k d small in
    legal_duties i (rota_of rows) p.legal (duty_of r) (Has-flat_map (λ r. replicate r.count (duty_of r)) rows r (duty_of r) m (Has_copy r.count (duty_of r) (all_at (λ r. nat_lt 0 r.count) rows r p.counted m)))

pub cover_small : (i : Problem) (rows : List Row) (t : ℕ) → IsValid i → are_legal_rows i rows ≡ true → sum_by (working i t) rows ≤ 204800
cover_small i rows t valid h =
    let a : cover i (rota_of rows) t ≤ 204800 = few_at_once i (rota_of rows) t valid (legal_rows_parts i rows h).legal in
    let b : cover i (rota_of rows) t ≡ sum_by (working i t) rows = cover_rows i rows t in
    omega arith

pub cover_room : (i : Problem) (rows : List Row) (t k : ℕ) (d : Row) → IsValid i → are_legal_rows i rows ≡ true → k < length rows → sum_by (working i t) (take k rows) + working i t (get_or rows k d) ≤ 204800
cover_room i rows t k d valid h small =
    let a : sum_by (working i t) (take k rows) + working i t (get_or rows k d) ≤ sum_by (working i t) rows = sum_by_more_le (working i t) rows k d small in
    let b : sum_by (working i t) rows ≤ 204800 = cover_small i rows t valid h in
    omega arith

-- a row at its place
pub record RowAt (i : Problem) (rows : List Row) (k : ℕ) (x : Row) : Type 0 where
  pub shift : x.shift < length (shift_list i)
  pub more : (t : ℕ) → sum_by (working i t) (take (k + 1) rows) ≡ sum_by (working i t) (take k rows) + working i t x
  pub few : (t : ℕ) → sum_by (working i t) (take k rows) ≤ 204800
  pub small : k < length rows
  pub at : x ≡ get_or rows k x

pub row_at : (i : Problem) (rows items : List Row) (k : ℕ) (x : Row) → IsValid i → are_legal_rows i rows ≡ true → items ≡ rows → k < length items → x ≡ get_or items k x → RowAt i rows k x
row_at i rows items k x valid h same small read =
    let low : k < length rows = subst (λ (xs : List Row). k < length xs) same small in
    let at : x ≡ get_or rows k x = read ∙ ap (λ (xs : List Row). get_or xs k x) same in
    let known : (get_or rows k x).shift < length (shift_list i) = (row_duty i rows h k x low).shift in
    record {
      shift = subst (λ (r : Row). r.shift < length (shift_list i)) (sym at) known;
      more = λ t. sum_by_more (working i t) rows k x low ∙ ap (λ (r : Row). sum_by (working i t) (take k rows) + working i t r) (sym at);
      few = λ t.
          let room : sum_by (working i t) (take k rows) + working i t (get_or rows k x) ≤ 204800 = cover_room i rows t k x valid h low in
          omega arith;
      small = low;
      at = at;
    }

pub cover_end : (i : Problem) (rows items : List Row) (t k sum : ℕ) → items ≡ rows → length items ≤ k → sum ≡ sum_by (working i t) (take k rows) → sum ≡ cover i (rota_of rows) t
cover_end i rows items t k sum same long e =
    let far : length rows ≤ k = subst (λ (xs : List Row). length xs ≤ k) same long in
    e ∙ ap (sum_by (working i t)) (take_all k rows far) ∙ sym (cover_rows i rows t)

pub cover_few : (i : Problem) (rows : List Row) (t : ℕ) → IsValid i → are_legal_rows i rows ≡ true → cover i (rota_of rows) t ≤ 204800
cover_few i rows t valid h =
    let a : cover i (rota_of rows) t ≡ sum_by (working i t) rows = cover_rows i rows t in
    let b : sum_by (working i t) rows ≤ 204800 = cover_small i rows t valid h in omega arith

-- the parts of a cost
pub cost_from : (i : Problem) (rota : List Duty) (counts : List ℕ) (n w used : ℕ) → n ≡ sum_by (λ t. slot_cost i t (get_or counts t 0)) (below (slots i)) → ((t : ℕ) → t < slots i → get_or counts t 0 ≡ cover i rota t) → w ≡ i.shift → used ≡ shifts_used i rota → n + w * used ≡ cost i rota
cost_from i rota counts n w used summed covers weight all =
    let same : sum_by (λ t. slot_cost i t (get_or counts t 0)) (below (slots i)) ≡ sum_by (λ t. slot_cost i t (cover i rota t)) (below (slots i)) =
    sum_by_same _ _ (below (slots i)) (λ t m. ap (slot_cost i t) (covers t (from_below (slots i) t m))) in
    ap (λ (k : ℕ). k + w * used) (summed ∙ same) ∙ ap (λ (k : ℕ). sum_by (λ t. slot_cost i t (cover i rota t)) (below (slots i)) + k) (ap (λ (k : ℕ). k * used) weight ∙ ap (λ (k : ℕ). i.shift * k) all)
