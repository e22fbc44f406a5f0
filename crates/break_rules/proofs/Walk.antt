-- A list is legal exactly where it is a walk that may end.
use Rattle.break_rules.proofs.Common.{◌≡◌, ℕ, ◌+◌, true, false, ◌&&◌, ◌==◌, List, [], ◌∷◌, refl, ap, ◌∙◌, arith, sum_by, nat_le, nat_lt, fold, eq-eqb, list_all, zip, and_parts, and_from, le-leb, eqb-true, sum_by-cons, Break, Rule, end_of, work_periods_from, keeps_ends, has_work, has_size, is_rested, is_lunched, is_legal, total_of, end_of_all, may_follow, is_walk_from, may_end}
use Rattle.break_rules.proofs.Lists.{same_tests}
use Rattle.break_rules.proofs.LegalLists.{legal_parts, legal_from}

-- the parts of legality from an offset on, with that much break time before
record From (rule : Rule) (len from used : ℕ) (list : List Break) : Type 0 where
  ordered : list_all (λ p. nat_le p.0 p.1) (work_periods_from from len list) ≡ true
  some : list_all (λ b. nat_lt 0 b.len) list ≡ true
  ends : list_all (keeps_ends rule len) list ≡ true
  work : list_all (has_work rule) (work_periods_from from len list) ≡ true
  rested : list_all (is_rested rule) (zip (work_periods_from from len list) list) ≡ true
  sizes : list_all (has_size rule) list ≡ true
  total : used + sum_by (λ b. b.len) list ≡ total_of rule len

-- what may follow
pub record Follows (rule : Rule) (len offset used : ℕ) (b : Break) : Type 0 where
  pub later : nat_le offset b.start ≡ true
  pub some : nat_lt 0 b.len ≡ true
  pub ends : keeps_ends rule len b ≡ true
  pub work : has_work rule (offset, b.start) ≡ true
  pub rested : is_rested rule ((offset, b.start), b) ≡ true
  pub size : has_size rule b ≡ true
  pub within : nat_le (used + b.len) (total_of rule len) ≡ true

pub follows_parts : (rule : Rule) (len offset used : ℕ) (b : Break) → may_follow rule len offset used b ≡ true → Follows rule len offset used b
follows_parts rule len offset used b h =
    let p6 = and_parts (nat_le offset b.start && nat_lt 0 b.len && keeps_ends rule len b && has_work rule (offset, b.start) && is_rested rule ((offset, b.start), b) && has_size rule b) (nat_le (used + b.len) (total_of rule len)) h in
    let p5 = and_parts (nat_le offset b.start && nat_lt 0 b.len && keeps_ends rule len b && has_work rule (offset, b.start) && is_rested rule ((offset, b.start), b)) (has_size rule b) p6.0 in
    let p4 = and_parts (nat_le offset b.start && nat_lt 0 b.len && keeps_ends rule len b && has_work rule (offset, b.start)) (is_rested rule ((offset, b.start), b)) p5.0 in
    let p3 = and_parts (nat_le offset b.start && nat_lt 0 b.len && keeps_ends rule len b) (has_work rule (offset, b.start)) p4.0 in
    let p2 = and_parts (nat_le offset b.start && nat_lt 0 b.len) (keeps_ends rule len b) p3.0 in
    let p1 = and_parts (nat_le offset b.start) (nat_lt 0 b.len) p2.0 in
    record { later = p1.0; some = p1.1; ends = p2.1; work = p3.1; rested = p4.1; size = p5.1; within = p6.1 }

pub follows_from : (rule : Rule) (len offset used : ℕ) (b : Break) → Follows rule len offset used b → may_follow rule len offset used b ≡ true
follows_from rule len offset used b f =
    and_from _ _ (and_from _ _ (and_from _ _ (and_from _ _ (and_from _ _ (and_from _ _ f.later f.some) f.ends) f.work) f.rested) f.size) f.within

-- the end of a list from an offset on
abbrev end_from : ℕ → List Break → ℕ
end_from at list = fold (λ at b. end_of b) at list

record Ends (rule : Rule) (len from used : ℕ) (list : List Break) : Type 0 where
  inside : nat_le (end_from from list) len ≡ true
  last : has_work rule (end_from from list, len) ≡ true
  total : used + sum_by (λ b. b.len) list ≡ total_of rule len

walk_of : (rule : Rule) (len from used : ℕ) (list : List Break) → From rule len from used list → (is_walk_from rule len from used list ≡ true) × Ends rule len from used list
walk_of rule len from used [] f =
    (refl, record { inside = (and_parts (nat_le from len) true f.ordered).0; last = (and_parts (has_work rule (from, len)) true f.work).0; total = f.total })
walk_of rule len from used (b ∷ bs) f =
    let o = and_parts (nat_le from b.start) (list_all (λ (p : ℕ × ℕ). nat_le p.0 p.1) (work_periods_from (end_of b) len bs)) f.ordered in
    let s = and_parts (nat_lt 0 b.len) (list_all (λ (b : Break). nat_lt 0 b.len) bs) f.some in
    let e = and_parts (keeps_ends rule len b) (list_all (keeps_ends rule len) bs) f.ends in
    let w = and_parts (has_work rule (from, b.start)) (list_all (has_work rule) (work_periods_from (end_of b) len bs)) f.work in
    let r = and_parts (is_rested rule ((from, b.start), b)) (list_all (is_rested rule) (zip (work_periods_from (end_of b) len bs) bs)) f.rested in
    let z = and_parts (has_size rule b) (list_all (has_size rule) bs) f.sizes in
    let t : sum_by (λ b. b.len) (b ∷ bs) ≡ b.len + sum_by (λ b. b.len) bs = sum_by-cons (λ b. b.len) b bs in
    let all : used + sum_by (λ b. b.len) (b ∷ bs) ≡ total_of rule len = f.total in
    let rest = walk_of rule len (end_of b) (used + b.len) bs (record { ordered = o.1; some = s.1; ends = e.1; work = w.1; rested = r.1; sizes = z.1; total = omega arith }) in (
      and_from _ _ (follows_from rule len from used b (record { later = o.0; some = s.0; ends = e.0; work = w.0; rested = r.0; size = z.0; within = le-leb _ _ (omega arith) })) rest.0,
      record { inside = rest.1.inside; last = rest.1.last; total = all },
    )

from_walk : (rule : Rule) (len from used : ℕ) (list : List Break) → is_walk_from rule len from used list ≡ true → Ends rule len from used list → From rule len from used list
from_walk rule len from used [] h e =
    record { ordered = and_from (nat_le from len) true e.inside refl; some = refl; ends = refl; work = and_from (has_work rule (from, len)) true e.last refl; rested = refl; sizes = refl; total = e.total }
from_walk rule len from used (b ∷ bs) h e =
    let p = and_parts (may_follow rule len from used b) (is_walk_from rule len (end_of b) (used + b.len) bs) h in
    let f = follows_parts rule len from used b p.0 in
    let t : sum_by (λ b. b.len) (b ∷ bs) ≡ b.len + sum_by (λ b. b.len) bs = sum_by-cons (λ b. b.len) b bs in
    let all : used + sum_by (λ b. b.len) (b ∷ bs) ≡ total_of rule len = e.total in
    let r = from_walk rule len (end_of b) (used + b.len) bs p.1 (record { inside = e.inside; last = e.last; total = omega arith }) in
    record {
      ordered = and_from (nat_le from b.start) _ f.later r.ordered;
      some = and_from (nat_lt 0 b.len) _ f.some r.some;
      ends = and_from (keeps_ends rule len b) _ f.ends r.ends;
      work = and_from (has_work rule (from, b.start)) _ f.work r.work;
      rested = and_from (is_rested rule ((from, b.start), b)) _ f.rested r.rested;
      sizes = and_from (has_size rule b) _ f.size r.sizes;
      total = all;
    }

-- a legal list is a walk that may end
pub walk_from_legal : (rule : Rule) (len : ℕ) (list : List Break) → is_legal rule len list ≡ true → (is_walk_from rule len 0 0 list ≡ true) × (may_end rule len list ≡ true)
walk_from_legal rule len list h =
    let l = legal_parts rule len list h in
    let w = walk_of rule len 0 0 list (record { ordered = l.ordered; some = l.some; ends = l.ends; work = l.work; rested = l.rested; sizes = l.sizes; total = omega (arith, l.total) }) in
    (w.0, and_from _ _ (and_from _ _ (and_from _ _ w.1.inside w.1.last) (eq-eqb (sum_by (λ b. b.len) list) (total_of rule len) l.total)) l.lunched)

-- and a walk that may end is legal
pub legal_from_walk : (rule : Rule) (len : ℕ) (list : List Break) → is_walk_from rule len 0 0 list ≡ true → may_end rule len list ≡ true → is_legal rule len list ≡ true
legal_from_walk rule len list h e =
    let p3 = and_parts (nat_le (end_of_all list) len && has_work rule (end_of_all list, len) && (sum_by (λ b. b.len) list == total_of rule len)) (list_all (is_lunched len list) rule.lunches) e in
    let p2 = and_parts (nat_le (end_of_all list) len && has_work rule (end_of_all list, len)) (sum_by (λ b. b.len) list == total_of rule len) p3.0 in
    let p1 = and_parts (nat_le (end_of_all list) len) (has_work rule (end_of_all list, len)) p2.0 in
    let t : sum_by (λ b. b.len) list ≡ total_of rule len = eqb-true _ _ p2.1 in
    let f = from_walk rule len 0 0 list h (record { inside = p1.0; last = p1.1; total = omega arith }) in
    legal_from rule len list (record { ordered = f.ordered; some = f.some; ends = f.ends; lunched = p3.1; work = f.work; rested = f.rested; sizes = f.sizes; total = t })

pub legal_is_walk : (rule : Rule) (len : ℕ) (list : List Break) → is_legal rule len list ≡ (is_walk_from rule len 0 0 list && may_end rule len list)
legal_is_walk rule len list =
    same_tests (is_legal rule len list) (is_walk_from rule len 0 0 list && may_end rule len list)
    (λ h. let w = walk_from_legal rule len list h in and_from _ _ w.0 w.1)
    (λ h. let p = and_parts (is_walk_from rule len 0 0 list) (may_end rule len list) h in legal_from_walk rule len list p.0 p.1)

-- a list in which some break may not follow isn't legal, and a walk is legal where it may end
pub not_legal : (rule : Rule) (len : ℕ) (list : List Break) → is_walk_from rule len 0 0 list ≡ false → is_legal rule len list ≡ false
not_legal rule len list h = legal_is_walk rule len list ∙ ap (λ b. b && may_end rule len list) h

pub legal_by_end : (rule : Rule) (len : ℕ) (list : List Break) → is_walk_from rule len 0 0 list ≡ true → is_legal rule len list ≡ may_end rule len list
legal_by_end rule len list h = legal_is_walk rule len list ∙ ap (λ b. b && may_end rule len list) h
