-- Counts of the duties of rows, one row more at a time.
use Rattle.rota_sheets.proofs.Common.{◌≡◌, ℕ, ◌+◌, ◌<◌, ◌≤◌, Bool, true, cond, List, length, get_or, take, replicate, count_by, ap, ◌∙◌, arith, Duty, Row, Problem, shift_list, are_legal_rows, duty_of, rota_of, row_at}
use Rattle.std.proofs.lemmas.List.Sums.{count_by-le-length}
use Rattle.break_rules.proofs.Counts.{count_by-append, count_by-replicate}
use Rattle.shift_instance.specs.Valid.{IsValid}

-- a row of legal rows: its shift is in the shift list, and its duties add to a count of those before it where they pass
pub record CountsRow (i : Problem) (p : Duty → Bool) (rows : List Row) (k : ℕ) (r : Row) : Type 0 where
  pub shift : r.shift < length (shift_list i)
  pub few : count_by p (rota_of (take k rows)) + r.count ≤ 2000000
  pub more : count_by p (rota_of (take (k + 1) rows)) ≡ count_by p (rota_of (take k rows)) + cond (p (duty_of r)) r.count 0

pub counts_row : (i : Problem) (p : Duty → Bool) (slice rows : List Row) (k : ℕ) (r : Row) → slice ≡ rows → IsValid i → are_legal_rows i rows ≡ true → k < length slice → r ≡ get_or slice k r → CountsRow i p rows k r
counts_row i p slice rows k r same valid legal l e =
    let at = row_at i slice rows k r same valid legal l e in
    let before : count_by p (rota_of (take k rows)) ≤ length (rota_of (take k rows)) = count_by-le-length p (rota_of (take k rows)) in
    record {
      shift = at.shift;
      few = omega (arith, at.few);
      more =
          ap (count_by p) at.more
          ∙ count_by-append p (rota_of (take k rows)) (replicate r.count (duty_of r))
          ∙ ap (λ (n : ℕ). count_by p (rota_of (take k rows)) + n) (count_by-replicate p r.count (duty_of r));
    }
