-- A plan's duties and heads, row by row.
use Rattle.local_moves.proofs.Common.{◌≡◌, ℕ, zero, suc, ◌+◌, ◌*◌, ◌<◌, ◌≤◌, Bool, cond, ◌&&◌, ◌==◌, List, [], ◌∷◌, ◌++◌, length, get_or, set, take, replicate, refl, sym, ap, ◌∙◌, subst, arith, append_assoc, append-nil, add-one, eq-eqb, true, count_by, and_from, length-append, length-replicate, count_by-append, count_by-replicate, Duty, Row, Problem, shift_list, is_on, heads_on, duty_of, rota_of, are_legal_rows, is_legal_rota, heads_within, legal_rows_parts, row_duty, Covering, IsDraft, rows_of, few_duties}
use Rattle.shift_instance.specs.Valid.{IsValid}
use Rattle.local_moves.proofs.OwnRows.{own_rows}
use Rattle.local_moves.proofs.Taking.{headed_set}

-- the duties of rows and of one row more
pub rota_more : (rows : List Row) (k : ℕ) (r : Row) → k < length rows → r ≡ get_or rows k r → rota_of (take (suc k) rows) ≡ rota_of (take k rows) ++ replicate r.count (duty_of r)
rota_more [] k r l e = absurd (omega arith)
rota_more (x ∷ xs) zero r l e = append-nil (replicate x.count (duty_of x)) ∙ ap (λ (z : Row). replicate z.count (duty_of z)) (sym e)
rota_more (x ∷ xs) (suc k) r l e = ap (λ ds. replicate x.count (duty_of x) ++ ds) (rota_more xs k r (omega arith) e) ∙ sym (append_assoc (replicate x.count (duty_of x)) (rota_of (take k xs)) (replicate r.count (duty_of r)))

-- the first rows have no more duties than all of them
part_count : (p : Duty → Bool) (rows : List Row) (k : ℕ) → count_by p (rota_of (take k rows)) ≤ count_by p (rota_of rows)
part_count p rows zero = omega arith
part_count p [] (suc k) = omega arith
part_count p (x ∷ xs) (suc k) =
    let a = count_by-append p (replicate x.count (duty_of x)) (rota_of (take k xs)) in
    let b = count_by-append p (replicate x.count (duty_of x)) (rota_of xs) in
    omega (arith, part_count p xs k)

part_length : (rows : List Row) (k : ℕ) → length (rota_of (take k rows)) ≤ length (rota_of rows)
part_length rows zero = omega arith
part_length [] (suc k) = omega arith
part_length (x ∷ xs) (suc k) =
    let a : length (replicate x.count (duty_of x) ++ rota_of (take k xs)) ≡ length (replicate x.count (duty_of x)) + length (rota_of (take k xs)) = length-append (replicate x.count (duty_of x)) (rota_of (take k xs)) in
    let b : length (replicate x.count (duty_of x) ++ rota_of xs) ≡ length (replicate x.count (duty_of x)) + length (rota_of xs) = length-append (replicate x.count (duty_of x)) (rota_of xs) in
    omega (arith, part_length xs k)

-- what is known of the next row of legal rows
pub record IsNextRow (i : Problem) (rows : List Row) (k : ℕ) (r : Row) : Type 0 where
  pub shift : r.shift < length (shift_list i)
  pub day : r.day < i.days
  pub few : length (rota_of (take k rows)) + r.count ≤ 2000000
  pub heads : heads_on (rota_of (take k rows)) r.shift r.day + r.count ≤ 200
  pub more : rota_of (take (k + 1) rows) ≡ rota_of (take k rows) ++ replicate r.count (duty_of r)

pub next_row : (i : Problem) (slice rows : List Row) (k : ℕ) (r : Row) → slice ≡ rows → IsValid i → are_legal_rows i rows ≡ true → k < length slice → r ≡ get_or slice k r → IsNextRow i slice k r
next_row i slice rows k r same valid h l e = from slice (ap (are_legal_rows i) same ∙ h) l e
  where
    from : (rows : List Row) → are_legal_rows i rows ≡ true → k < length rows → r ≡ get_or rows k r → IsNextRow i rows k r
    from rows h l e =
        let legal = (legal_rows_parts i rows h).legal in
        let own = row_duty i rows h k r l in
        let more : rota_of (take (suc k) rows) ≡ rota_of (take k rows) ++ replicate r.count (duty_of r) = rota_more rows k r l e in
        record {
          shift = subst (λ (x : Row). x.shift < length (shift_list i)) (sym e) own.shift;
          day = subst (λ (x : Row). x.day < i.days) (sym e) own.day;
          few =
              let a : length (rota_of (take (suc k) rows)) ≤ length (rota_of rows) = part_length rows (suc k) in
              let b : length (rota_of rows) ≤ 2000000 = few_duties i (rota_of rows) valid legal in
              let c : length (rota_of (take (suc k) rows)) ≡ length (rota_of (take k rows)) + r.count = ap (λ ds. length ds) more ∙ length-append (rota_of (take k rows)) (replicate r.count (duty_of r)) ∙ ap (λ n. length (rota_of (take k rows)) + n) (length-replicate r.count (duty_of r)) in
              omega arith;
          heads =
              let a : heads_on (rota_of (take (suc k) rows)) r.shift r.day ≤ heads_on (rota_of rows) r.shift r.day = part_count (is_on r.shift r.day) rows (suc k) in
              let b : heads_on (rota_of rows) r.shift r.day ≤ i.heads = heads_within i (rota_of rows) legal r.shift r.day in
              let few : i.heads ≤ 200 = valid.heads in
              let c : heads_on (rota_of (take (suc k) rows)) r.shift r.day ≡ heads_on (rota_of (take k rows)) r.shift r.day + r.count =
              ap (λ ds. heads_on ds r.shift r.day) more ∙ count_by-append (is_on r.shift r.day) (rota_of (take k rows)) (replicate r.count (duty_of r))
              ∙ ap (λ n. heads_on (rota_of (take k rows)) r.shift r.day + n) (count_by-replicate (is_on r.shift r.day) r.count (duty_of r) ∙ ap (λ b. cond b r.count 0) (and_from (r.shift == r.shift) (r.day == r.day) (eq-eqb r.shift r.shift refl) (eq-eqb r.day r.day refl))) in
              omega arith;
          more = ap (λ n. rota_of (take n rows)) (add-one k) ∙ more;
        }

-- the heads with one row more
pub heads_more : (i : Problem) (rows : List Row) (k : ℕ) (r : Row) (heads : List ℕ) (at n s day : ℕ) → IsNextRow i rows k r → length heads ≡ length (shift_list i) * i.days
    → ((s day : ℕ) → s < length (shift_list i) → day < i.days → get_or heads (s * i.days + day) 0 ≡ heads_on (rota_of (take k rows)) s day)
    → at ≡ r.shift * i.days + r.day → n ≡ get_or heads at 0 + r.count → s < length (shift_list i) → day < i.days
    → get_or (set heads at n) (s * i.days + day) 0 ≡ heads_on (rota_of (take (k + 1) rows)) s day
heads_more i rows k r heads at n s day next len h place new hs hd =
    let grown : (k2 d2 : ℕ) → heads_on (rota_of (take (k + 1) rows)) k2 d2 ≡ heads_on (rota_of (take k rows)) k2 d2 + cond (is_on k2 d2 (duty_of r)) r.count 0 = λ k2 d2.
    ap (λ ds. heads_on ds k2 d2) next.more ∙ count_by-append (is_on k2 d2) (rota_of (take k rows)) (replicate r.count (duty_of r))
    ∙ ap (λ n. heads_on (rota_of (take k rows)) k2 d2 + n) (count_by-replicate (is_on k2 d2) r.count (duty_of r)) in
    let yes : ◌≡◌ {A = ℕ} (cond (is_on r.shift r.day (duty_of r)) r.count 0) r.count = ap (λ b. cond b r.count 0) (and_from (r.shift == r.shift) (r.day == r.day) (eq-eqb r.shift r.shift refl) (eq-eqb r.day r.day refl)) in
    let here : get_or heads at 0 ≡ heads_on (rota_of (take k rows)) r.shift r.day = ap (λ j. get_or heads j 0) place ∙ h r.shift r.day next.shift next.day in
    ap (λ j. get_or (set heads j n) (s * i.days + day) 0) place
    ∙ headed_set i (heads_on (rota_of (take k rows))) (heads_on (rota_of (take (k + 1) rows))) heads r.shift r.day n s day next.shift next.day hd len (h s day hs hd)
    (omega (arith, grown r.shift r.day))
    (λ f. let no : ◌≡◌ {A = ℕ} (cond (is_on s day (duty_of r)) r.count 0) 0 = ap (λ b. cond b r.count 0) f in omega (arith, grown s day))

-- the draft of legal rows
pub draft_new : (i : Problem) (cover : Covering) (heads : List ℕ) (rows : List Row) → IsValid i → are_legal_rows i rows ≡ true → cover.instance ≡ i → cover.duties ≡ rota_of rows → length heads ≡ length (shift_list i) * i.days
    → ((s day : ℕ) → s < length (shift_list i) → day < i.days → get_or heads (s * i.days + day) 0 ≡ heads_on (rota_of rows) s day) → IsDraft cover.instance cover heads rows
draft_new i cover heads rows valid legal same duties len h =
    subst (λ (j : Problem). IsDraft j cover heads rows) (sym same)
    (record {
      valid = valid;
      instance = same;
      all_shifts = len;
      headed = λ s day hs hd. h s day hs hd ∙ ap (λ ds. heads_on ds s day) (sym duties);
      legal = ap (is_legal_rota i) duties ∙ (legal_rows_parts i rows legal).legal;
      listed = own_rows i rows legal ∙ ap (rows_of i) (sym duties);
    })
