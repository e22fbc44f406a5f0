-- A rule without a fault is within the ranges.
use Rattle.break_rules.proofs.Common.{◌≡◌, ℕ, ◌+◌, ◌≤◌, true, false, ◌&&◌, ◌||◌, List, [], ◌∷◌, length, drop, nat_le, nat_lt, None, All, list_all, list_any, zip, and_parts, or_parts, leb-true, ltb-true, ltb-false, not-false, All-nil, All-cons, Lunch, Rule, first_cause, rule_causes, is_range, has_room, is_large_total, is_large_lunch, IsTotal, IsLunch, IsRule}
use Rattle.break_rules.proofs.Causes.{no_cause}

record IsRange (low high limit : ℕ) : Type 0 where
  some : 1 ≤ low
  order : low ≤ high
  most : high ≤ limit

range_parts : (low high limit : ℕ) → is_range low high limit ≡ true → IsRange low high limit
range_parts low high limit h =
    let p = and_parts (nat_le 1 low && nat_le low high) (nat_le high limit) h in
    let q = and_parts (nat_le 1 low) (nat_le low high) p.0 in
    record { some = leb-true _ _ q.0; order = leb-true _ _ q.1; most = leb-true _ _ p.1 }

totals_within : (totals : List (ℕ × ℕ)) → list_any is_large_total totals ≡ false → All IsTotal totals
totals_within [] h = All-nil IsTotal
totals_within (e ∷ totals) h =
    let p = or_parts (is_large_total e) (list_any is_large_total totals) h in
    let q = or_parts (nat_lt 288 e.0) (nat_lt 48 e.1) p.0 in
    All-cons IsTotal e totals (record { from = ltb-false _ _ q.0; total = ltb-false _ _ q.1 }) (totals_within totals p.1)

lunches_within : (lunches : List Lunch) → list_all has_room lunches ≡ true → list_any is_large_lunch lunches ≡ false → All IsLunch lunches
lunches_within [] h g = All-nil IsLunch
lunches_within (l ∷ lunches) h g =
    let p = and_parts (has_room l) (list_all has_room lunches) h in
    let r = and_parts (nat_lt 0 l.size) (nat_le (l.first + l.size) l.last) p.0 in
    let q = or_parts (is_large_lunch l) (list_any is_large_lunch lunches) g in
    let s = or_parts (nat_lt 288 l.from_len) (nat_lt 288 l.last) q.0 in
    All-cons IsLunch l lunches (record { from_len = ltb-false _ _ s.0; some_size = ltb-true _ _ r.0; room = leb-true _ _ r.1; last = ltb-false _ _ s.1 }) (lunches_within lunches p.1 q.1)

pub ranges_from_none : (rule : Rule) → first_cause (rule_causes rule) ≡ None → IsRule rule
unfolding rule_causes
ranges_from_none rule h =
    let none = no_cause (rule_causes rule) h in
    let work = range_parts rule.work_min rule.work_max 288 (not-false _ none.0) in
    let sizes = range_parts rule.size_min rule.size_max 48 (not-false _ none.1.0) in
    let order = not-false _ none.1.1.1.0 in
    let rooms = and_parts (list_all has_room rule.lunches) (list_all (λ p. nat_le p.0.last p.1.first) (zip rule.lunches (drop 1 rule.lunches))) order in
    let resettle = or_parts (nat_lt 1 rule.resettle) (nat_lt rule.work_min rule.resettle) none.1.1.1.1.0 in
    let a = nat_lt 288 rule.lead in
    let b = nat_lt 288 rule.tail in
    let c = nat_lt 288 rule.long_work in
    let d = nat_lt 48 rule.long_rest in
    let e = list_any is_large_total rule.totals in
    let f = list_any is_large_lunch rule.lunches in
    let g = nat_lt 16 (length rule.totals) in
    let p7 = or_parts (a || b || c || d || e || f || g) (nat_lt 2 (length rule.lunches)) none.1.1.1.1.1.0 in
    let p6 = or_parts (a || b || c || d || e || f) g p7.0 in
    let p5 = or_parts (a || b || c || d || e) f p6.0 in
    let p4 = or_parts (a || b || c || d) e p5.0 in
    let p3 = or_parts (a || b || c) d p4.0 in
    let p2 = or_parts (a || b) c p3.0 in
    let p1 = or_parts a b p2.0 in
    record {
      some_work = work.some;
      work = work.order;
      work_limit = work.most;
      some_size = sizes.some;
      sizes = sizes.order;
      size_limit = sizes.most;
      rising = not-false _ none.1.1.0;
      lunch_order = order;
      resettle_limit = ltb-false _ _ resettle.0;
      resettles_in_work = ltb-false _ _ resettle.1;
      lead = ltb-false _ _ p1.0;
      tail = ltb-false _ _ p1.1;
      long_work = ltb-false _ _ p2.1;
      long_rest = ltb-false _ _ p3.1;
      few_totals = ltb-false _ _ p6.1;
      few_lunches = ltb-false _ _ p7.1;
      totals = totals_within rule.totals p4.1;
      lunches = lunches_within rule.lunches rooms.0 p5.1;
    }
