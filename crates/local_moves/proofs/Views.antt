-- Drafts that are the same to contracts.
use Rattle.local_moves.proofs.Common.{◌≡◌, ℕ, ◌+◌, ◌≤◌, true, not, List, ap, ◌∙◌, subst, arith, list_all, count_by, and_parts, all_by_count, Duty, Row, Problem, same_duty, count_of, heads_on, is_legal_duty, is_legal_rota, rota_of, are_legal_rows, Drafting, IsExchanged}
use Rattle.std.specs.Prelude.{nat_le}
use Rattle.local_moves.proofs.OwnRows.{same_legal_rows}

pub same_drafting : (a b : Drafting) → a.instance ≡ b.instance → a.rows ≡ b.rows → a ≡ b
same_drafting a b e f = ap (λ (i : Problem). mk i a.rows) e ∙ ap (λ (rs : List Row). mk b.instance rs) f
  where
    mk : Problem → List Row → Drafting
    mk i rs = record { instance = i; rows = rs }

pub legal_for : (i : Problem) (v : Drafting) → v.instance ≡ i → are_legal_rows v.instance v.rows ≡ true → are_legal_rows i v.rows ≡ true
legal_for i v e h = subst (λ (j : Problem). are_legal_rows j v.rows ≡ true) e h

-- ---- one plan in place of another
pub all_legal : (i : Problem) (rota : List Duty) → is_legal_rota i rota ≡ true → count_by (λ d. not (is_legal_duty i d)) rota ≡ 0
all_legal i rota legal =
    let p = and_parts (list_all (is_legal_duty i) rota) (list_all (λ d. nat_le (heads_on rota d.shift d.day) i.heads) rota) legal in
    all_by_count (is_legal_duty i) rota p.0

pub assigned_rows : (i : Problem) (old other new : List Row) → are_legal_rows i other ≡ true → are_legal_rows i new ≡ true → IsExchanged (rota_of old) (rota_of old) (rota_of other) (rota_of new) → new ≡ other
assigned_rows i old other new legal own h =
    same_legal_rows i new other own legal (λ d.
    let a : count_of (rota_of new) d + count_of (rota_of old) d ≡ count_of (rota_of old) d + count_of (rota_of other) d = h (same_duty d) in
    omega arith)
