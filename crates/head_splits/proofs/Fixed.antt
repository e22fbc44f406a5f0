-- Settled nodes: all legal rotas below one have the same duties, and those of its plan.
use Rattle.head_splits.proofs.Common.{◌≡◌, inl, inr, ℕ, ◌+◌, ◌*◌, ◌≤◌, true, false, cond, ◌&&◌, ◌||◌, ◌==◌, not, List, [], ◌++◌, replicate, length, take, drop, refl, sym, ap, ◌∙◌, subst, arith, eq-eqb, Option, Some, None, slice_get, option_map_or, list_all, count_by, and_parts, and_from, leb-true, cases_Bool, false≢true, take-append-drop, Break, Rule, is_legal, same_list, begins_with, Has, from_map, from_flat_map, all_at, all_from, any_some, from_replicate, count_by_same, count_by_at_most, sum_by_same, sum_by_if, count_by-flat_map, count_by-replicate, begins_rest, begins_from, no_longer_list, same_list_decides, Shift, Duty, Problem, shift_list, below, same_duty, count_of, is_list_of, is_legal_duty, is_legal_rota, is_on, cost, Has-all_duties, from_all_duties, no_count, once_in_duties, legal_duty_parts, legal_duties, same_tests, Cut, holds, class_count, meets, meets_cut, keeps_to, low, high, prefixes, class_of, is_closed, is_fixed, is_settled, fixed_count, settled_plan, is_empty, all_duties}
use Rattle.std.proofs.lemmas.Bool.{eqb-true}
use Rattle.std.proofs.lemmas.List.{append-nil}
use Rattle.break_rules.proofs.Once.{cond_same}
use Rattle.shift_instance.proofs.Alike.{same_duty_decides, AreAlike, alike_from_counts, alike_cost, alike_legal}
use Rattle.head_splits.proofs.Duality.{low_at_most, high_at_least}

-- ---- legal lists of one shift

pub no_longer_of : (o : Option (Shift × Rule)) (list rest : List Break) → option_map_or (λ x. is_legal x.1 x.0.len list) o false ≡ true → option_map_or (λ x. is_legal x.1 x.0.len (list ++ rest)) o false ≡ true → rest ≡ []
no_longer_of None list rest h g = absurd (false≢true h)
no_longer_of (Some x) list rest h g = no_longer_list x.1 x.0.len list rest h g

-- a legal list that begins with another one of the same shift is that list
same_from_begins : (i : Problem) (s : ℕ) (list prefix : List Break) → is_list_of i s prefix ≡ true → is_list_of i s list ≡ true → begins_with list prefix ≡ true → list ≡ prefix
same_from_begins i s list prefix h g b =
    let e = begins_rest list prefix b in
    let nil : drop (length prefix) list ≡ [] = no_longer_of (slice_get (shift_list i) s) prefix (drop (length prefix) list) h (subst (λ l. is_list_of i s l ≡ true) e g) in
    e ∙ ap (λ r. prefix ++ r) nil ∙ append-nil prefix

-- ---- counts of a duty, and of its prefixes' classes

-- the duties that the class of a whole legal list holds are of that list
whole_list_count : (i : Problem) (rota : List Duty) (d : Duty) → is_legal_rota i rota ≡ true → is_legal_duty i d ≡ true → class_count rota (class_of d.shift d.day d.breaks) ≡ count_of rota d
whole_list_count i rota d legal h =
    let whole = (legal_duty_parts i d h).breaks in
    count_by_same (holds (class_of d.shift d.day d.breaks)) (same_duty d) rota (λ x m.
    same_tests (holds (class_of d.shift d.day d.breaks) x) (same_duty d x)
    (λ t.
    let p2 = and_parts (is_on d.shift d.day x) (begins_with x.breaks d.breaks) t in
    let p1 = and_parts (x.shift == d.shift) (x.day == d.day) p2.0 in
    let s : x.shift ≡ d.shift = eqb-true _ _ p1.0 in
    let y : x.day ≡ d.day = eqb-true _ _ p1.1 in
    let l : x.breaks ≡ d.breaks = same_from_begins i d.shift x.breaks d.breaks whole (subst (λ k. is_list_of i k x.breaks ≡ true) s (legal_duties i rota legal x m).breaks) p2.1 in
    and_from ((d.shift == x.shift) && (d.day == x.day)) (same_list d.breaks x.breaks)
    (and_from (d.shift == x.shift) (d.day == x.day) (eq-eqb d.shift x.shift (sym s)) (eq-eqb d.day x.day (sym y)))
    ((same_list_decides d.breaks x.breaks).1 (sym l)))
    (λ t.
    let e : d ≡ x = (same_duty_decides d x).0 t in
    subst (λ z. holds (class_of d.shift d.day d.breaks) z ≡ true) e
    (and_from (is_on d.shift d.day d) (begins_with d.breaks d.breaks)
    (and_from (d.shift == d.shift) (d.day == d.day) (eq-eqb d.shift d.shift refl) (eq-eqb d.day d.day refl))
    (begins_from d.breaks d.breaks [] (sym (append-nil d.breaks))))))

-- a duty stands no more often than its prefixes' classes have duties
prefix_count : (rota : List Duty) (d : Duty) (n : ℕ) → count_of rota d ≤ class_count rota (class_of d.shift d.day (take n d.breaks))
prefix_count rota d n =
    count_by_at_most (same_duty d) (holds (class_of d.shift d.day (take n d.breaks))) rota (λ x m t.
    let e : d ≡ x = (same_duty_decides d x).0 t in
    subst (λ z. holds (class_of d.shift d.day (take n d.breaks)) z ≡ true) e
    (and_from (is_on d.shift d.day d) (begins_with d.breaks (take n d.breaks))
    (and_from (d.shift == d.shift) (d.day == d.day) (eq-eqb d.shift d.shift refl) (eq-eqb d.day d.day refl))
    (begins_from d.breaks (take n d.breaks) (drop n d.breaks) (sym (take-append-drop n d.breaks)))))

-- ---- the law

-- a legal rota below a settled node has the fixed number of each legal duty
pub settled_count : (i : Problem) (cuts : List Cut) (rota : List Duty) (d : Duty) → is_settled i cuts ≡ true → is_legal_rota i rota ≡ true → meets rota cuts ≡ true → is_legal_duty i d ≡ true → count_of rota d ≡ fixed_count i cuts d
settled_count i cuts rota d settled legal meeting h =
    let either = all_at (λ d. is_closed i cuts d || is_fixed i cuts d) (all_duties i) d settled (Has-all_duties i d h) in
    let c = low cuts (class_of d.shift d.day d.breaks) in
    elim (is_closed i cuts d) as (λ b. is_closed i cuts d ≡ b → (b || is_fixed i cuts d) ≡ true → count_of rota d ≡ cond b 0 c) [
      | true ↦ λ closed some.
          let r = any_some (λ prefix. high i cuts (class_of d.shift d.day prefix) == 0) (prefixes d.breaks) closed in
          let n = from_map (λ n. take n d.breaks) (below (length d.breaks + 1)) r.0 r.1 in
          let none : high i cuts (class_of d.shift d.day (take n.0 d.breaks)) ≡ 0 = subst (λ p. high i cuts (class_of d.shift d.day p) ≡ 0) (sym n.2) (eqb-true _ 0 r.2) in
          let few : count_of rota d ≤ class_count rota (class_of d.shift d.day (take n.0 d.breaks)) = prefix_count rota d n.0 in
          let most : class_count rota (class_of d.shift d.day (take n.0 d.breaks)) ≤ high i cuts (class_of d.shift d.day (take n.0 d.breaks)) = high_at_least i rota (class_of d.shift d.day (take n.0 d.breaks)) cuts legal meeting in
          omega arith
      | false ↦ λ unclosed fixed.
          let same : class_count rota (class_of d.shift d.day d.breaks) ≡ count_of rota d = whole_list_count i rota d legal h in
          let one : high i cuts (class_of d.shift d.day d.breaks) ≤ low cuts (class_of d.shift d.day d.breaks) = leb-true _ _ fixed in
          let least : low cuts (class_of d.shift d.day d.breaks) ≤ class_count rota (class_of d.shift d.day d.breaks) = low_at_most rota (class_of d.shift d.day d.breaks) cuts meeting in
          let most : class_count rota (class_of d.shift d.day d.breaks) ≤ high i cuts (class_of d.shift d.day d.breaks) = high_at_least i rota (class_of d.shift d.day d.breaks) cuts legal meeting in
          omega arith
    ] refl either

-- the plan has the fixed number of each legal duty
pub plan_count : (i : Problem) (cuts : List Cut) (d : Duty) → is_legal_duty i d ≡ true → count_of (settled_plan i cuts) d ≡ fixed_count i cuts d
plan_count i cuts d h =
    count_by-flat_map (same_duty d) (λ e. replicate (fixed_count i cuts e) e) (all_duties i)
    ∙ sum_by_same (λ e. count_by (same_duty d) (replicate (fixed_count i cuts e) e)) (λ e. cond (same_duty d e) (fixed_count i cuts d) 0) (all_duties i) (λ e m.
    count_by-replicate (same_duty d) (fixed_count i cuts e) e
    ∙ cond_same (same_duty d e) (fixed_count i cuts e) (fixed_count i cuts d) (λ t. ap (fixed_count i cuts) (sym ((same_duty_decides d e).0 t))))
    ∙ sum_by_if (same_duty d) (fixed_count i cuts d) (all_duties i)
    ∙ ap (λ n. fixed_count i cuts d * n) (once_in_duties i d h) ∙ omega arith

-- the plan's duties are legal
plan_legal : (i : Problem) (cuts : List Cut) (d : Duty) → Has (settled_plan i cuts) d → is_legal_duty i d ≡ true
plan_legal i cuts d m =
    let a = from_flat_map (λ e. replicate (fixed_count i cuts e) e) (all_duties i) d m in
    subst (λ x. is_legal_duty i x ≡ true) (from_replicate (fixed_count i cuts a.0) a.0 d a.2) (from_all_duties i a.0 a.1)

-- a legal rota below a settled node has the duties of its plan
pub settled_alike : (i : Problem) (cuts : List Cut) (rota : List Duty) → is_settled i cuts ≡ true → is_legal_rota i rota ≡ true → meets rota cuts ≡ true → AreAlike rota (settled_plan i cuts)
settled_alike i cuts rota settled legal meeting =
    alike_from_counts rota (settled_plan i cuts) (λ d.
    elim (cases_Bool (is_legal_duty i d)) [
      | inl t ↦ settled_count i cuts rota d settled legal meeting t ∙ sym (plan_count i cuts d t)
      | inr f ↦
          no_count i rota d (λ x m. all_at (is_legal_duty i) rota x (and_parts (list_all (is_legal_duty i) rota) _ legal).0 m) f
          ∙ sym (no_count i (settled_plan i cuts) d (plan_legal i cuts) f)
    ])

alike_meets : (xs ys : List Duty) (cuts : List Cut) → AreAlike xs ys → meets xs cuts ≡ true → meets ys cuts ≡ true
alike_meets xs ys cuts h m =
    all_from (meets_cut ys) cuts (λ c n. subst (λ k. keeps_to c.side c.m k ≡ true) (h (holds c.class)) (all_at (meets_cut xs) cuts c m n))

-- where a legal rota lies below a settled node, the plan is legal, lies below it too, and costs as much
pub record IsPlanOf (i : Problem) (cuts : List Cut) (rota : List Duty) : Type 0 where
  pub legal : is_legal_rota i (settled_plan i cuts) ≡ true
  pub meeting : meets (settled_plan i cuts) cuts ≡ true
  pub cost : cost i rota ≡ cost i (settled_plan i cuts)
  pub some : is_empty i cuts ≡ false

pub settled_is_plan : (i : Problem) (cuts : List Cut) (rota : List Duty) → is_settled i cuts ≡ true → is_legal_rota i rota ≡ true → meets rota cuts ≡ true → IsPlanOf i cuts rota
settled_is_plan i cuts rota settled legal meeting =
    let alike = settled_alike i cuts rota settled legal meeting in
    let l = alike_legal i rota (settled_plan i cuts) alike legal in
    let m = alike_meets rota (settled_plan i cuts) cuts alike meeting in
    record { legal = l; meeting = m; cost = alike_cost i rota (settled_plan i cuts) alike; some = ap not (and_from (is_legal_rota i (settled_plan i cuts)) (meets (settled_plan i cuts) cuts) l m) }

-- two legal rotas below a settled node have the same number of each duty
pub settled_same : (i : Problem) (cuts : List Cut) (one other : List Duty) (d : Duty) → is_settled i cuts ≡ true → is_legal_rota i one ≡ true → meets one cuts ≡ true → is_legal_rota i other ≡ true → meets other cuts ≡ true → count_of one d ≡ count_of other d
settled_same i cuts one other d settled l m l' m' =
    settled_alike i cuts one settled l m (same_duty d) ∙ sym (settled_alike i cuts other settled l' m' (same_duty d))

pub settled_cost : (i : Problem) (cuts : List Cut) (rota : List Duty) → is_settled i cuts ≡ true → is_legal_rota i rota ≡ true → meets rota cuts ≡ true → cost i rota ≡ cost i (settled_plan i cuts)
settled_cost i cuts rota settled legal meeting = (settled_is_plan i cuts rota settled legal meeting).cost

pub settled_some : (i : Problem) (cuts : List Cut) (rota : List Duty) → is_settled i cuts ≡ true → is_legal_rota i rota ≡ true → meets rota cuts ≡ true → is_empty i cuts ≡ false
settled_some i cuts rota settled legal meeting = (settled_is_plan i cuts rota settled legal meeting).some
