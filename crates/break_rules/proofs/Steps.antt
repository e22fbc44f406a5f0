-- One break more: what may follow, and the spot behind it.
use Rattle.break_rules.proofs.Left.{skip_rest, skip_starts, from_size}
use Rattle.break_rules.proofs.Common.{◌≡◌, refl, ◌⊎◌, inl, inr, ℕ, max, min, ◌+◌, ◌-◌, ◌<◌, ◌≤◌, Bool, true, false, ◌&&◌, ◌||◌, List, [], ◌∷◌, ◌++◌, length, sym, ap, ◌∙◌, arith, nat_le, ◌==◌, bit_or, sum_by, fold, if◌then◌else◌, ◌^◌, filter, list_any, list_all, range_with_len, AllByRecursion, and_parts, cases_Bool, leb-true, ltb-true, le-leb, lt-ltb, or_left, or_right, or_cases, and_from, false≢true, sum_by-cons, sum_by-append, fold-append, recursion_from_All, Break, Rule, Spot, end_of, has_work, is_lunch, is_lunched, is_legal, total_of, breaks_between, is_rested, IsRule, IsTotal, IsAt, shortest_of, breaks_left, may_follow, nexts_of, spot_of, end_of_all, bits_of, is_walk, Has}
use Rattle.std.proofs.Math.Bool.{or-false}
use Rattle.std.proofs.lemmas.List.Folds.{list_any-append}
use Rattle.break_rules.proofs.Lists.{Has-flat_map, Has-map, Has-filter, Has-range, from_filter}
use Rattle.break_rules.proofs.Walk.{follows_parts, legal_by_end, follows_from}
use Rattle.break_rules.proofs.Bits.{bits_same, bits_or}

-- what may follow, by its numbers
pub record Bounds (rule : Rule) (len offset used : ℕ) (b : Break) : Type 0 where
  pub later : offset ≤ b.start
  pub some : 0 < b.len
  pub lead : rule.lead ≤ b.start
  pub tail : b.start + b.len + rule.tail ≤ len
  pub least_work : rule.work_min ≤ b.start - offset
  pub most_work : b.start - offset ≤ rule.work_max
  pub least_size : rule.size_min ≤ b.len
  pub most_size : b.len ≤ rule.size_max
  pub within : used + b.len ≤ total_of rule len

pub bounds : (rule : Rule) (len offset used : ℕ) (b : Break) → may_follow rule len offset used b ≡ true → Bounds rule len offset used b
bounds rule len offset used b h =
    let f = follows_parts rule len offset used b h in
    let ends = and_parts (nat_le rule.lead b.start) (nat_le (end_of b + rule.tail) len) f.ends in
    let work = and_parts (nat_le rule.work_min (b.start - offset)) (nat_le (b.start - offset) rule.work_max) f.work in
    let size = and_parts (nat_le rule.size_min b.len) (nat_le b.len rule.size_max) f.size in
    record {
      later = leb-true _ _ f.later;
      some = ltb-true _ _ f.some;
      lead = leb-true _ _ ends.0;
      tail = leb-true _ _ ends.1;
      least_work = leb-true _ _ work.0;
      most_work = leb-true _ _ work.1;
      least_size = leb-true _ _ size.0;
      most_size = leb-true _ _ size.1;
      within = leb-true _ _ f.within;
    }

-- a break out of these bounds may not follow
pub not_next : (rule : Rule) (len offset used : ℕ) (b : Break) → (Bounds rule len offset used b → ⊥) → may_follow rule len offset used b ≡ false
not_next rule len offset used b h =
    elim (cases_Bool (may_follow rule len offset used b)) [ inl t ↦ absurd (h (bounds rule len offset used b t)) | inr f ↦ f ]

-- what may follow is among the breaks that may come next, and nothing else is
pub has_next : (rule : Rule) (len : ℕ) (spot : Spot) (b : Break) → may_follow rule len spot.offset spot.used b ≡ true → Has (nexts_of rule len spot) b
has_next rule len spot b h =
    let p = bounds rule len spot.offset spot.used b h in
    Has-filter (may_follow rule len spot.offset spot.used) (breaks_between spot.offset len) b
    (Has-flat_map _ (range_with_len spot.offset (len - spot.offset)) b.start b
    (Has-range spot.offset (len - spot.offset) b.start p.later (omega (arith, p.tail, p.some)))
    (Has-map (λ size. record { start = b.start; len = size }) (range_with_len 1 (len - b.start)) b.len (Has-range 1 (len - b.start) b.len p.some (omega (arith, p.tail)))))
    h

pub from_next : (rule : Rule) (len : ℕ) (spot : Spot) (b : Break) → Has (nexts_of rule len spot) b → may_follow rule len spot.offset spot.used b ≡ true
from_next rule len spot b h = (from_filter (may_follow rule len spot.offset spot.used) (breaks_between spot.offset len) b h).1

-- the total break time of a rule within the ranges is small
total_at_most : (totals : List (ℕ × ℕ)) (len total : ℕ) → AllByRecursion IsTotal totals → total ≤ 48 → fold (λ t (e : ℕ × ℕ). if nat_le e.0 len then e.1 else t) total totals ≤ 48
total_at_most [] len total h s = s
total_at_most (e ∷ es) len total h s =
    total_at_most es len (if nat_le e.0 len then e.1 else total) h.1
    (elim (nat_le e.0 len) as (λ b. (if b then e.1 else total) ≤ 48) [ true ↦ h.0.total | false ↦ s ])

pub total_small : (rule : Rule) (len : ℕ) → IsRule rule → total_of rule len ≤ 48
total_small rule len r = total_at_most rule.totals len 0 (recursion_from_All IsTotal rule.totals r.totals) (omega arith)

-- the spot behind a list with a break more
pub spot_more : (rule : Rule) (list : List Break) (b : Break) → length rule.lunches ≤ 2
    → spot_of rule (list ++ b ∷ []) ≡ record { offset = end_of b; used = (spot_of rule list).used + b.len; lunches = bit_or (spot_of rule list).lunches (bits_of (λ e. is_lunch e b) rule.lunches) }
spot_more rule list b few =
    let end : end_of_all (list ++ b ∷ []) ≡ end_of b = fold-append (λ (at : ℕ) (c : Break). end_of c) 0 list (b ∷ []) in
    let sums : sum_by (λ c. c.len) (list ++ b ∷ []) ≡ sum_by (λ c. c.len) list + b.len =
    omega (arith, sum_by-append (λ (c : Break). c.len) list (b ∷ []), sum_by-cons (λ (c : Break). c.len) b []) in
    let bits : bits_of (λ e. list_any (is_lunch e) (list ++ b ∷ [])) rule.lunches ≡ bit_or (bits_of (λ e. list_any (is_lunch e) list) rule.lunches) (bits_of (λ e. is_lunch e b) rule.lunches) =
    bits_same (λ e. list_any (is_lunch e) (list ++ b ∷ [])) (λ e. list_any (is_lunch e) list || is_lunch e b) rule.lunches
    (λ e. list_any-append (is_lunch e) list (b ∷ []) ∙ ap (λ t. list_any (is_lunch e) list || t) (or-false (is_lunch e b)))
    ∙ sym (bits_or (λ e. list_any (is_lunch e) list) (λ e. is_lunch e b) rule.lunches few) in
    let spot : ℕ → ℕ → ℕ → Spot = λ o u l. record { offset = o; used = u; lunches = l } in
    ap (λ o. spot o (sum_by (λ c. c.len) (list ++ b ∷ [])) (bits_of (λ e. list_any (is_lunch e) (list ++ b ∷ [])) rule.lunches)) end
    ∙ ap (λ u. spot (end_of b) u (bits_of (λ e. list_any (is_lunch e) (list ++ b ∷ [])) rule.lunches)) sums
    ∙ ap (λ l. spot (end_of b) (sum_by (λ c. c.len) list + b.len) l) bits

-- at the spot of a walk the list is legal where the shift may end there and each lunch entry that applies is met
pub legal_at : (rule : Rule) (len : ℕ) (list : List Break) (spot : Spot) → is_walk rule len list ≡ true → spot ≡ spot_of rule list
    → is_legal rule len list ≡ ((nat_le spot.offset len && has_work rule (spot.offset, len) && (spot.used == total_of rule len)) && list_all (is_lunched len list) rule.lunches)
legal_at rule len list spot walk is =
    legal_by_end rule len list walk
    ∙ sym (ap (λ (s : Spot). (nat_le s.offset len && has_work rule (s.offset, len) && (s.used == total_of rule len)) && list_all (is_lunched len list) rule.lunches) is)

pub legal_by_stop : (rule : Rule) (len : ℕ) (list : List Break) (spot : Spot) (stop : Bool) → is_walk rule len list ≡ true → spot ≡ spot_of rule list
    → stop ≡ (nat_le spot.offset len && has_work rule (spot.offset, len) && (spot.used == total_of rule len))
    → is_legal rule len list ≡ (stop && list_all (is_lunched len list) rule.lunches)
legal_by_stop rule len list spot stop walk is e = legal_at rule len list spot walk is ∙ sym (ap (λ b. b && list_all (is_lunched len list) rule.lunches) e)

-- the least length that a break has there is enough
rested_from : (rule : Rule) (offset start size : ℕ) → shortest_of rule offset start ≤ size → (rule.size_min ≤ size) × (is_rested rule ((offset, start), record { start = start; len = size }) ≡ true)
rested_from rule offset start size h = cases (nat_le (start - offset) rule.long_work) refl h
  where
    cases : (short : Bool) → nat_le (start - offset) rule.long_work ≡ short → (if short then rule.size_min else max rule.size_min rule.long_rest) ≤ size
        → (rule.size_min ≤ size) × (is_rested rule ((offset, start), record { start = start; len = size }) ≡ true)
    cases true e h = (h, or_left (nat_le (start - offset) rule.long_work) (nat_le rule.long_rest size) e)
    cases false e h = (omega arith, or_right (nat_le (start - offset) rule.long_work) (nat_le rule.long_rest size) (le-leb _ _ (omega arith)))

-- and a shorter one may not follow
pub too_short : (rule : Rule) (len offset used start size : ℕ) → size < shortest_of rule offset start → may_follow rule len offset used (record { start = start; len = size }) ≡ false
too_short rule len offset used start size h =
    elim (cases_Bool (may_follow rule len offset used (record { start = start; len = size }))) [ inl t ↦ absurd (cases (nat_le (start - offset) rule.long_work) refl h t) | inr f ↦ f ]
  where
    cases : (short : Bool) → nat_le (start - offset) rule.long_work ≡ short → size < (if short then rule.size_min else max rule.size_min rule.long_rest)
        → may_follow rule len offset used (record { start = start; len = size }) ≡ true → ⊥
    cases true e h t = let f = bounds rule len offset used (record { start = start; len = size }) t in omega arith
    cases false e h t =
        let f = bounds rule len offset used (record { start = start; len = size }) t in
        let r : is_rested rule ((offset, start), record { start = start; len = size }) ≡ true = (follows_parts rule len offset used (record { start = start; len = size }) t).rested in
        elim (or_cases (nat_le (start - offset) rule.long_work) (nat_le rule.long_rest size) r) [
          | inl s ↦ false≢true (sym e ∙ s)
          | inr l ↦ let long : rule.long_rest ≤ size = leb-true _ _ l in omega arith
        ]

-- the break at a place may follow
pub follows_at : (rule : Rule) (len offset used stop latest longest start size : ℕ) → IsAt rule len offset used stop latest longest start size → start < stop → size ≤ longest → start + size ≤ latest
    → may_follow rule len offset used (record { start = start; len = size }) ≡ true
follows_at rule len offset used stop latest longest start size at before short inside =
    let r = rested_from rule offset start size at.least in
    follows_from rule len offset used (record { start = start; len = size }) (record {
      later = le-leb _ _ (omega arith);
      some = lt-ltb _ _ (omega (arith, r.0));
      ends = and_from (nat_le rule.lead start) (nat_le (start + size + rule.tail) len) (le-leb _ _ at.lead) (le-leb _ _ (omega (arith, r.0)));
      work = and_from (nat_le rule.work_min (start - offset)) (nat_le (start - offset) rule.work_max) (le-leb _ _ (omega arith)) (le-leb _ _ (omega arith));
      rested = r.1;
      size = and_from (nat_le rule.size_min size) (nat_le size rule.size_max) (le-leb _ _ r.0) (le-leb _ _ (omega arith));
      within = le-leb _ _ (omega (arith, r.0));
    })

pub shortest_some : (rule : Rule) (offset start : ℕ) → 1 ≤ rule.size_min → 1 ≤ shortest_of rule offset start
shortest_some rule offset start h = elim (nat_le (start - offset) rule.long_work) as (λ b. 1 ≤ (if b then rule.size_min else max rule.size_min rule.long_rest)) [ true ↦ h | false ↦ omega arith ]

pub shortest_small : (rule : Rule) (offset start : ℕ) → rule.size_min ≤ 48 → rule.long_rest ≤ 48 → shortest_of rule offset start ≤ 48
shortest_small rule offset start h g = elim (nat_le (start - offset) rule.long_work) as (λ b. (if b then rule.size_min else max rule.size_min rule.long_rest) ≤ 48) [ true ↦ h | false ↦ omega arith ]

-- behind the longest break of a start, or the last that ends in time, the next start comes
pub next_start : (rule : Rule) (len offset used stop latest longest start size : ℕ) → IsAt rule len offset used stop latest longest start size → (longest < size) ⊎ (latest < start + size)
    → filter (may_follow rule len offset used) (breaks_left start size len) ≡ filter (may_follow rule len offset used) (breaks_left (start + 1) (shortest_of rule offset (start + 1)) len)
next_start rule len offset used stop latest longest start size at over =
    skip_rest (may_follow rule len offset used) start size len (λ k low high. not_next rule len offset used (record { start = start; len = k })
    (λ b. elim over [ inl l ↦ omega arith | inr l ↦ omega arith ]))
    ∙ from_size (may_follow rule len offset used) (start + 1) (shortest_of rule offset (start + 1)) len (shortest_some rule offset (start + 1) at.some_size) (λ k less. too_short rule len offset used (start + 1) k less)

-- the place at the next start
pub at_next : (rule : Rule) (len offset used stop latest longest start size : ℕ) → IsAt rule len offset used stop latest longest start size → start < stop
    → IsAt rule len offset used stop latest longest (start + 1) (shortest_of rule offset (start + 1))
at_next rule len offset used stop latest longest start size at before =
    let small = shortest_small rule offset (start + 1) at.small_size at.small_rest in
    record {
      some_size = at.some_size;
      small_size = at.small_size;
      small_rest = at.small_rest;
      stops = at.stops;
      early = at.early;
      last_work = at.last_work;
      end = at.end;
      short = at.short;
      most = at.most;
      small_longest = at.small_longest;
      lead = omega (arith, at.lead);
      first_work = omega (arith, at.first_work);
      near = omega (arith, at.early, at.short);
      least = omega arith;
      size_limit = omega arith;
    }

-- the breaks left at the first place are all that may come next
pub first_place : (rule : Rule) (len : ℕ) (spot : Spot) (start : ℕ) → IsRule rule → start ≡ max rule.lead (spot.offset + rule.work_min)
    → filter (may_follow rule len spot.offset spot.used) (breaks_left start (shortest_of rule spot.offset start) len) ≡ nexts_of rule len spot
first_place rule len spot start r from =
    let p = may_follow rule len spot.offset spot.used in
    sym (skip_starts p spot.offset (start - spot.offset) len (λ b low high. not_next rule len spot.offset spot.used b (λ f. omega arith))
    ∙ ap (λ n. filter p (breaks_between n len)) (let e : spot.offset + (start - spot.offset) ≡ start = omega arith in e)
    ∙ from_size p start (shortest_of rule spot.offset start) len (shortest_some rule spot.offset start r.some_size) (λ k less. too_short rule len spot.offset spot.used start k less))

-- the spot with these numbers is the one behind the list with the break
pub spot_with : (rule : Rule) (list : List Break) (spot : Spot) (b : Break) (offset used bits : ℕ) → length rule.lunches ≤ 2 → spot ≡ spot_of rule list
    → offset ≡ end_of b → used ≡ spot.used + b.len → bits ≡ bits_of (λ e. is_lunch e b) rule.lunches
    → ◌≡◌ {A = Spot} (record { offset = offset; used = used; lunches = bit_or spot.lunches bits }) (spot_of rule (list ++ b ∷ []))
spot_with rule list spot b offset used bits few is at time met =
    ap (λ o. record { offset = o; used = used; lunches = bit_or spot.lunches bits }) at
    ∙ ap (λ u. record { offset = end_of b; used = u; lunches = bit_or spot.lunches bits }) time
    ∙ ap (λ n. record { offset = end_of b; used = spot.used + b.len; lunches = bit_or spot.lunches n }) met
    ∙ ap (λ (s : Spot). record { offset = end_of b; used = s.used + b.len; lunches = bit_or s.lunches (bits_of (λ e. is_lunch e b) rule.lunches) }) is
    ∙ sym (spot_more rule list b few)
