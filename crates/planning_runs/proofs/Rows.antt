-- A certificate with other legal rows has a text, and is accepted.
use Rattle.planning_runs.proofs.Common.{◌≡◌, inl, inr, ℕ, ◌≤◌, Bool, cond, ◌&&◌, ◌==◌, List, refl, sym, ap, subst, arith, nat_le, Option, Some, ◌∙◌, Row, cost, rota_of, are_legal_rows, Cert, is_bound, is_plan, is_accepted, Spells, Agrees, AgreesWith}
use Rattle.std.specs.Prelude.{IsTrue}
use Rattle.std.proofs.Props.{props}
use Rattle.std.proofs.Math.Logic.{∥∥₁_elim}
use Rattle.std.proofs.lemmas.Bool.{and_parts, and_from, cases_Bool, eq-eqb, leb-true, leb-false}
use Rattle.shift_instance.specs.Problem.{Problem}
use Rattle.shift_instance.specs.Valid.{IsValid}
use Rattle.rota_cost.proofs.Counting.{legal_rows_parts}
use Rattle.search_core.proofs.Fits.{rows_fit}
use Rattle.certificate.specs.declared.CertStatus.{CertStatus}
use Rattle.certificate.specs.declared.CertStatus.TheVariants.{Optimal, Stopped}
use Rattle.certificate.specs.declared.proof_lines.Line.{Line}
use Rattle.certificate.specs.declared.proof_lines.Line.TheVariants.{Split, Priced, Settled}
use Rattle.certificate.specs.LineText.{HasSlot}
use Rattle.certificate.proofs.Acceptance.{bounds}
use Rattle.planning_runs.specs.Reports.{status_beside, with_rows}

-- the status beside the bound agrees with it, since no legal plan costs less
status_agrees : (bound paid : ℕ) (rows : List Row) → bound ≤ paid → AgreesWith (status_beside bound paid) (Some (paid, rows)) bound
status_agrees bound paid rows most = elim (cases_Bool (nat_le paid bound)) [
  | inl low ↦ subst (λ (b : Bool). AgreesWith (cond b Optimal Stopped) (Some (paid, rows)) bound) (sym low) (let l : paid ≤ bound = leb-true paid bound low in omega (arith, l, most))
  | inr high ↦ subst (λ (b : Bool). AgreesWith (cond b Optimal Stopped) (Some (paid, rows)) bound) (sym high) (leb-false paid bound high)
]

pub accepted : (i : Problem) (c : Cert) (rows : List Row) → IsTrue (is_accepted i c) → IsTrue (are_legal_rows i rows) → IsTrue (is_accepted i (with_rows i c rows))
accepted i c rows old legal =
    let paid = cost i (rota_of rows) in
    let parts = and_parts (is_bound i c.lines c.bound) (is_plan i c.plan) old in
    and_from (is_bound i c.lines c.bound) (are_legal_rows i rows && (paid == paid)) parts.0
    (and_from (are_legal_rows i rows) (paid == paid) legal (eq-eqb paid paid refl))

-- that a price set has a price for some slot is one fact
one_slot : (line : Line) → IsProp (HasSlot line)
one_slot (Split node class m) = hlevel props
one_slot (Priced node prices) = hlevel props
one_slot (Settled node) = hlevel props

pub agrees : (i : Problem) (c : Cert) (rows : List Row) (text : List ℕ) → IsValid i → ∥ Spells text c ∥₁ → IsTrue (is_accepted i c) → IsTrue (are_legal_rows i rows) → Agrees (with_rows i c rows)
agrees i c rows text valid spelled old legal = record {
  status = status_agrees c.bound (cost i (rota_of rows)) rows (bounds i c old (rota_of rows) (legal_rows_parts i rows legal).legal);
  few = (rows_fit i rows valid legal).0;
  few_lines = ∥∥₁_elim spelled (hlevel props) (λ s. s.is_text.has.agrees.few_lines);
  slots = ∥∥₁_elim spelled (hlevel (props, one_slot)) (λ s. s.is_text.has.agrees.slots);
}

-- a certificate with that status and cost is the one with these rows
pub is_with_rows : (i : Problem) (c : Cert) (rows : List Row) (status : CertStatus) (paid : ℕ) → status ≡ status_beside c.bound paid → paid ≡ cost i (rota_of rows)
    → record { status = status; plan = Some (paid, rows); bound = c.bound; lines = c.lines } ≡ with_rows i c rows
is_with_rows i c rows status paid said costs =
    ap (λ (s : CertStatus). record { status = s; plan = Some (paid, rows); bound = c.bound; lines = c.lines }) said
    ∙ ap (λ (n : ℕ). record { status = status_beside c.bound n; plan = Some (n, rows); bound = c.bound; lines = c.lines }) costs

-- the rows of a plan are one list
pub rows_of_plan : (m n : ℕ) (xs ys : List Row) → ◌≡◌ {A = Option (ℕ × List Row)} (Some (m, xs)) (Some (n, ys)) → xs ≡ ys
rows_of_plan m n xs ys same =
    let both : ◌≡◌ {A = ℕ × List Row} (m, xs) (n, ys) = cc in
    ap (λ (p : ℕ × List Row). p.1) both
