-- Legal rows of an instance have a spelling.
use Rattle.search_core.proofs.Common.{◌≡◌, inl, inr, ℕ, ◌*◌, ◌<◌, ◌≤◌, ◌^◌, true, false, cond, List, [], ◌∷◌, ◌++◌, length, replicate, refl, arith, sum_by, fold, nat_lt, nat_le, Option, Some, None, All, IsTrue, slice_get, option_map_or, list_all, AllByRecursion, and_parts, ltb-true, false≢true, cond_both, length-replicate, sum_by-cons, All-from_recursion, recursion_from_All, mul-le-mul, Has, Has-flat_map, all_at, Duty, Row, Problem, shift_list, Class, is_live_class, is_shift_and, is_list_of, is_legal_rota, duty_of, rota_of, are_legal_rows, IsValid, legal_duties, CountsFitRow, CountsFitRows}
use Rattle.std.proofs.Common.{length-append}
use Rattle.break_rules.specs.declared.Break.{Break}
use Rattle.break_rules.specs.declared.Rule.{Rule}
use Rattle.break_rules.specs.Breaks.{is_legal, is_live, total_in}
use Rattle.break_rules.specs.Ranges.{IsRule, IsTotal}
use Rattle.break_rules.proofs.LegalLists.{legal_parts, live_rest}
use Rattle.break_rules.proofs.Ranges.{ranges_from_none}
use Rattle.shift_instance.specs.declared.Shift.{Shift}
use Rattle.shift_instance.proofs.Shifts.{Has_at, rule_passes}
use Rattle.rota_cost.proofs.Counting.{Has_copy, legal_rows_parts}
use Rattle.rota_cost.proofs.Lengths.{legal_length}

-- ---- how many breaks a row has
totals_small : (len : ℕ) (totals : List (ℕ × ℕ)) (t : ℕ) → t ≤ 48 → AllByRecursion IsTotal totals → fold (λ t e. cond (nat_le e.0 len) e.1 t) t totals ≤ 48
totals_small len [] t small all = small
totals_small len (e ∷ totals) t small all =
    totals_small len totals (cond (nat_le e.0 len) e.1 t) (cond_both (nat_le e.0 len) e.1 t (λ x. x ≤ 48) (λ is. all.0.total) (λ not. small)) all.1

total_small : (len : ℕ) (totals : List (ℕ × ℕ)) → All IsTotal totals → total_in totals len ≤ 48
total_small len totals all = totals_small len totals 0 (omega arith) (recursion_from_All IsTotal totals all)

-- each break takes time
breaks_time : (list : List Break) → list_all (λ b. nat_lt 0 b.len) list ≡ true → length list ≤ sum_by (λ b. b.len) list
breaks_time [] some = omega arith
breaks_time (b ∷ bs) some =
    let parts = and_parts (nat_lt 0 b.len) (list_all (λ b. nat_lt 0 b.len) bs) some in
    let here : 0 < b.len = ltb-true 0 b.len parts.0 in
    let rest : length bs ≤ sum_by (λ b. b.len) bs = breaks_time bs parts.1 in
    omega (arith, sum_by-cons (λ (b : Break). b.len) b bs)

few_of_shift : (o : Option (Shift × Rule)) (list : List Break) → ((x : Shift × Rule) → o ≡ Some x → IsRule x.1) → option_map_or (λ x. is_legal x.1 x.0.len list) o false ≡ true → length list ≤ 48
few_of_shift None list rule h = absurd (false≢true h)
few_of_shift (Some x) list rule h =
    let p = legal_parts x.1 x.0.len list h in
    omega (arith, breaks_time list p.some, p.total, total_small x.0.len x.1.totals (rule x refl).totals)

few_breaks : (i : Problem) (s : ℕ) (list : List Break) → IsValid i → is_list_of i s list ≡ true → length list ≤ 48
few_breaks i s list valid h = few_of_shift (slice_get (shift_list i) s) list (λ x at. ranges_from_none x.1 (rule_passes i valid x (Has_at (shift_list i) s x at))) h

-- ---- how many duties a legal rota has
few_duties : (i : Problem) (rota : List Duty) → IsValid i → is_legal_rota i rota ≡ true → length rota ≤ 1433600
few_duties i rota valid h =
    let most : length rota ≤ length (shift_list i) * i.days * i.heads = legal_length i rota h in
    let days : length (shift_list i) * i.days ≤ 1024 * 7 = mul-le-mul valid.shifts valid.days in
    let heads : length (shift_list i) * i.days * i.heads ≤ 1024 * 7 * 200 = mul-le-mul days valid.heads in
    omega arith

-- no row stands for no duty
rows_within : (rows : List Row) → list_all (λ r. nat_lt 0 r.count) rows ≡ true → length rows ≤ length (rota_of rows)
rows_within [] some = omega arith
rows_within (r ∷ rows) some =
    let parts = and_parts (nat_lt 0 r.count) (list_all (λ r. nat_lt 0 r.count) rows) some in
    let here : 0 < r.count = ltb-true 0 r.count parts.0 in
    omega (arith, rows_within rows parts.1, length-append (replicate r.count (duty_of r)) (rota_of rows), length-replicate r.count (duty_of r))

-- ---- the spelling
each_fits : (rows : List Row) → ((r : Row) → Has rows r → length r.breaks < 2 ^ 8) → AllByRecursion CountsFitRow rows
each_fits [] h = tt
each_fits (r ∷ rows) h = (h r (inl refl), each_fits rows (λ s m. h s (inr m)))

pub rows_fit : (i : Problem) (rows : List Row) → IsValid i → are_legal_rows i rows ≡ true → CountsFitRows rows
rows_fit i rows valid h =
    let p = legal_rows_parts i rows h in (
      omega (arith, rows_within rows p.counted, few_duties i (rota_of rows) valid p.legal),
      All-from_recursion CountsFitRow rows (each_fits rows (λ r m.
          let copy = Has_copy r.count (duty_of r) (all_at (λ r. nat_lt 0 r.count) rows r p.counted m) in
          let duty = legal_duties i (rota_of rows) p.legal (duty_of r) (Has-flat_map (λ r. replicate r.count (duty_of r)) rows r (duty_of r) m copy) in
          omega (arith, few_breaks i r.shift r.breaks valid duty.breaks))),
    )

-- ---- a live class has few breaks
live_few : (o : Option (Shift × Rule)) (prefix : List Break) → ((x : Shift × Rule) → o ≡ Some x → IsRule x.1) → option_map_or (λ x. is_live x.1 x.0.len prefix) o false ≡ true → length prefix ≤ 48
live_few None prefix rule h = absurd (false≢true h)
live_few (Some x) prefix rule h =
    let whole = live_rest x.1 x.0.len prefix h in
    let few : length (prefix ++ whole.0) ≤ 48 = few_of_shift (Some x) (prefix ++ whole.0) rule whole.1 in
    omega (arith, length-append prefix whole.0)

pub class_few : (i : Problem) (class : Class) → IsValid i → IsTrue (is_live_class i class) → length class.prefix ≤ 48
class_few i class valid live =
    let there = (and_parts (nat_lt class.day i.days) (is_shift_and i class.shift (λ x. is_live x.1 x.0.len class.prefix)) live).1 in
    live_few (slice_get (shift_list i) class.shift) class.prefix (λ x at. ranges_from_none x.1 (rule_passes i valid x (Has_at (shift_list i) class.shift x at))) there

pub class_fits : (i : Problem) (class : Class) → IsValid i → IsTrue (is_live_class i class) → length class.prefix < 2 ^ 8
class_fits i class valid live = let few : length class.prefix ≤ 48 = class_few i class valid live in omega arith
