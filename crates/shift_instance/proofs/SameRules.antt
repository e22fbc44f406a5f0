-- Tests of sameness on the parts of rules.
use Rattle.shift_instance.proofs.Common.{◌≡◌, ℕ, ◌==◌, ◌&&◌, ap, eq-eqb, Decides, and_parts, and_from, eqb-true}
use Rattle.break_rules.specs.declared.Lunch.{Lunch}
use Rattle.shift_instance.proofs.KeptGraphs.{same_pair}

pub same_pair_decides : (a b : ℕ × ℕ) → Decides ((a.0 == b.0) && (a.1 == b.1)) (a ≡ b)
same_pair_decides a b = (
  λ h. let p = and_parts (a.0 == b.0) (a.1 == b.1) h in same_pair b a (eqb-true _ _ p.0) (eqb-true _ _ p.1),
  λ e. and_from (a.0 == b.0) (a.1 == b.1) (eq-eqb a.0 b.0 (ap (λ (x : ℕ × ℕ). x.0) e)) (eq-eqb a.1 b.1 (ap (λ (x : ℕ × ℕ). x.1) e)),
)

same_lunch : (x y : Lunch) → x.from_len ≡ y.from_len → x.size ≡ y.size → x.first ≡ y.first → x.last ≡ y.last → x ≡ y
same_lunch x y from_len size first last =
    let made : ℕ → ℕ → ℕ → ℕ → Lunch = λ a b c d. record { from_len = a; size = b; first = c; last = d } in
    let same : made x.from_len x.size x.first x.last ≡ made y.from_len y.size y.first y.last = cc in
    same

pub same_lunch_decides : (a b : Lunch) → Decides ((a.from_len == b.from_len) && ((a.size == b.size) && ((a.first == b.first) && (a.last == b.last)))) (a ≡ b)
same_lunch_decides a b = (
  λ h.
      let p = and_parts (a.from_len == b.from_len) ((a.size == b.size) && ((a.first == b.first) && (a.last == b.last))) h in
      let q = and_parts (a.size == b.size) ((a.first == b.first) && (a.last == b.last)) p.1 in
      let r = and_parts (a.first == b.first) (a.last == b.last) q.1 in
      same_lunch a b (eqb-true _ _ p.0) (eqb-true _ _ q.0) (eqb-true _ _ r.0) (eqb-true _ _ r.1),
  λ e.
      and_from (a.from_len == b.from_len) ((a.size == b.size) && ((a.first == b.first) && (a.last == b.last))) (eq-eqb a.from_len b.from_len (ap (λ (x : Lunch). x.from_len) e))
      (and_from (a.size == b.size) ((a.first == b.first) && (a.last == b.last)) (eq-eqb a.size b.size (ap (λ (x : Lunch). x.size) e))
      (and_from (a.first == b.first) (a.last == b.last) (eq-eqb a.first b.first (ap (λ (x : Lunch). x.first) e)) (eq-eqb a.last b.last (ap (λ (x : Lunch). x.last) e)))),
)
