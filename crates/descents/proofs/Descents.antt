-- Which moves lower the cost of a plan, and what is known where none was found.
use Rattle.descents.proofs.Common.{◌≡◌, ◌⊎◌, inl, inr, ℕ, zero, suc, ◌+◌, ◌*◌, ◌/◌, ◌%◌, ◌<◌, ◌≤◌, Bool, true, false, not, ◌==◌, nat_lt, List, [], ◌∷◌, ◌++◌, length, get_or, Option, Some, None, refl, sym, ap, ◌∙◌, subst, arith, slice_get, cases_Bool, ltb-true, lt-ltb, ltb-false, le-ltb, false≢true, div-mul-add, mod-mul-add, mul-add-lt, Break, first_cause, no_cause, none_from_no_cause, Duty, Row, Problem, shift_list, same_duty, count_of, heads_on, is_list_of, is_used, duty_of, rota_of, cost, alike_from_counts, alike_cost, without, duties_of, duty, Part, Rows, Shifts, Days, Move, Add, Drop, Rebreak, Reshift, Drafting, IsNoGain, IsLocalOptimum, IsDutyOptimal, IsBestRebreak, IsOptimalAt, IsPlace, places, Answers, AreSameDuties, is_known, pair_causes, move_causes, moved, unused_by_count, pair_parts}
use Rattle.std.proofs.lemmas.Option.{slice_get_read, slice_get_past}
use Rattle.break_rules.proofs.Counts.{count_by-append}
use Rattle.break_rules.specs.Lists.{Has}
use Rattle.local_moves.specs.declared.moves.MoveFault.{MoveFault}
use Rattle.local_moves.specs.declared.moves.MoveFault.TheVariants.{UnknownShift, Day, Breaks, Absent, HeadsOver, OtherKind, NotNear, NoMemory}
use Rattle.local_moves.proofs.RowPlaces.{some_of}

-- ---- refusals
some_none : (x : MoveFault) → Some x ≡ None → ⊥
some_none x h = absurd (cc)

-- a move that is refused has a cause
pub not_none : (fault : MoveFault) (cause : Option MoveFault) → Answers fault cause → (fault ≡ NoMemory → ⊥) → cause ≡ None → ⊥
not_none NoMemory cause h g e = g refl
not_none UnknownShift cause h g e = some_none UnknownShift (sym h ∙ e)
not_none Day cause h g e = some_none Day (sym h ∙ e)
not_none Breaks cause h g e = some_none Breaks (sym h ∙ e)
not_none Absent cause h g e = some_none Absent (sym h ∙ e)
not_none (HeadsOver n) cause h g e = some_none (HeadsOver n) (sym h ∙ e)
not_none OtherKind cause h g e = some_none OtherKind (sym h ∙ e)
not_none NotNear cause h g e = some_none NotNear (sym h ∙ e)

true_not : (b : Bool) → b ≡ true → not b ≡ false
true_not true h = refl
true_not false h = absurd (false≢true h)

not_true : (b : Bool) → not b ≡ false → b ≡ true
not_true true h = refl
not_true false h = absurd (false≢true (sym h))

-- ---- costs
pub same_cost : (i : Problem) (a b : List Duty) → AreSameDuties a b → cost i a ≡ cost i b
same_cost i a b h = alike_cost i a b (alike_from_counts a b h)

with_same : (i : Problem) (a b : List Duty) (e : Duty) → AreSameDuties a b → cost i (a ++ e ∷ []) ≡ cost i (b ++ e ∷ [])
with_same i a b e h =
    same_cost i (a ++ e ∷ []) (b ++ e ∷ []) (λ d.
    count_by-append (same_duty d) a (e ∷ []) ∙ ap (λ n. n + count_of (e ∷ []) d) (h d) ∙ sym (count_by-append (same_duty d) b (e ∷ [])))

-- a move that was made and didn't lower the cost
pub no_gain : (i : Problem) (rota new : List Duty) (m : Move) (before after : ℕ) → AreSameDuties new (moved i m rota) → before ≡ cost i rota → after ≡ cost i new → before ≤ after → IsNoGain i rota m
no_gain i rota new m before after h e f l accepted = let g : cost i new ≡ cost i (moved i m rota) = same_cost i new (moved i m rota) h in omega arith

-- ---- breaks of a duty
rebreak_parts : (i : Problem) (rota : List Duty) (d : Duty) (to : List Break) → first_cause (move_causes i rota (Rebreak d.shift d.day d.breaks to)) ≡ None → (first_cause (move_causes i rota (Drop d.shift d.day d.breaks)) ≡ None) × (is_list_of i d.shift to ≡ true)
rebreak_parts i rota d to h =
    let n = no_cause (move_causes i rota (Rebreak d.shift d.day d.breaks to)) h in
    (none_from_no_cause (move_causes i rota (Drop d.shift d.day d.breaks)) (n.0, (n.1.0, (n.1.1.1.0, tt))), not_true (is_list_of i d.shift to) n.1.1.0)

rebreak_accepted : (i : Problem) (rota : List Duty) (d : Duty) (to : List Break) → first_cause (move_causes i rota (Drop d.shift d.day d.breaks)) ≡ None → is_list_of i d.shift to ≡ true → first_cause (move_causes i rota (Rebreak d.shift d.day d.breaks to)) ≡ None
rebreak_accepted i rota d to h legal =
    let n = no_cause (move_causes i rota (Drop d.shift d.day d.breaks)) h in
    none_from_no_cause (move_causes i rota (Rebreak d.shift d.day d.breaks to)) (n.0, (n.1.0, (true_not (is_list_of i d.shift to) legal, (n.1.1.0, tt))))

-- a duty that can't go can't get other breaks
pub no_rebreak : (i : Problem) (rota : List Duty) (d : Duty) → (first_cause (move_causes i rota (Drop d.shift d.day d.breaks)) ≡ None → ⊥) → (list : List Break) → IsNoGain i rota (Rebreak d.shift d.day d.breaks list)
no_rebreak i rota d h list accepted = absurd (h (rebreak_parts i rota d list accepted).0)

pub no_list : (i : Problem) (rota : List Duty) (d : Duty) → ((list : List Break) → is_list_of i d.shift list ≡ false) → (list : List Break) → IsNoGain i rota (Rebreak d.shift d.day d.breaks list)
no_list i rota d h list accepted = absurd (false≢true (sym (h list) ∙ (rebreak_parts i rota d list accepted).1))

-- the best list of a duty more is that of a duty with other breaks
pub best_other : (i : Problem) (rota less : List Duty) (d : Duty) (list : List Break) (n : ℕ) → first_cause (move_causes i rota (Drop d.shift d.day d.breaks)) ≡ None → AreSameDuties less (without d rota)
    → is_list_of i d.shift list ≡ true → n ≡ cost i (less ++ duty d.shift d.day list ∷ []) → ((other : List Break) → is_list_of i d.shift other ≡ true → n ≤ cost i (less ++ duty d.shift d.day other ∷ []))
    → IsBestRebreak i rota d list n
best_other i rota less d list n there same legal exact least = record {
  accepted = rebreak_accepted i rota d list there legal;
  exact = exact ∙ with_same i less (without d rota) (duty d.shift d.day list) same;
  least = λ other accepted.
      let a : n ≤ cost i (less ++ duty d.shift d.day other ∷ []) = least other (rebreak_parts i rota d other accepted).1 in
      let b : cost i (less ++ duty d.shift d.day other ∷ []) ≡ cost i (without d rota ++ duty d.shift d.day other ∷ []) = with_same i less (without d rota) (duty d.shift d.day other) same in
      omega arith;
}

-- where the best other breaks don't lower the cost none do
pub not_better : (i : Problem) (rota : List Duty) (d : Duty) (list : List Break) (n : ℕ) → IsBestRebreak i rota d list n → cost i rota ≤ n → (other : List Break) → IsNoGain i rota (Rebreak d.shift d.day d.breaks other)
not_better i rota d list n b l other accepted = let a = b.least other accepted in omega arith

pub best_no_better : (i : Problem) (rota : List Duty) (d : Duty) (list : List Break) (n : ℕ) → IsBestRebreak i rota d list n → IsNoGain i rota (Rebreak d.shift d.day d.breaks list) → (other : List Break) → IsNoGain i rota (Rebreak d.shift d.day d.breaks other)
best_no_better i rota d list n b h other accepted = let a = b.least other accepted in let e = b.exact in let g = h b.accepted in omega arith

-- ---- all duties of a shift
pub unused_refused : (i : Problem) (rota : List Duty) (from to : ℕ) → duties_of rota from ≡ 0 → IsNoGain i rota (Reshift from to)
unused_refused i rota from to none accepted =
    let n = no_cause (move_causes i rota (Reshift from to)) accepted in
    absurd (false≢true (sym (unused_by_count rota from none) ∙ not_true (is_used rota from) n.1.1.1.1.0))

-- ---- one duty more
record AddParts (i : Problem) (rota : List Duty) (s day : ℕ) (list : List Break) : Type 0 where
  known : s < length (shift_list i)
  within : day < i.days
  legal : is_list_of i s list ≡ true
  heads : heads_on rota s day < i.heads

add_parts : (i : Problem) (rota : List Duty) (s day : ℕ) (list : List Break) → first_cause (move_causes i rota (Add s day list)) ≡ None → AddParts i rota s day list
add_parts i rota s day list h =
    let n = no_cause (move_causes i rota (Add s day list)) h in
    let few : heads_on rota s day + 1 ≤ i.heads = ltb-false i.heads (heads_on rota s day + 1) n.1.1.1.0 in
    record {
      known = ltb-true s (length (shift_list i)) (not_true (is_known i s) n.0);
      within = ltb-true day i.days (not_true (nat_lt day i.days) n.1.0);
      legal = not_true (is_list_of i s list) n.1.1.0;
      heads = omega arith;
    }

add_accepted : (i : Problem) (rota : List Duty) (s day : ℕ) (list : List Break) → s < length (shift_list i) → day < i.days → is_list_of i s list ≡ true → heads_on rota s day < i.heads → first_cause (move_causes i rota (Add s day list)) ≡ None
add_accepted i rota s day list hs hd legal few =
    none_from_no_cause (move_causes i rota (Add s day list))
    (true_not (is_known i s) (lt-ltb s (length (shift_list i)) hs), (true_not (nat_lt day i.days) (lt-ltb day i.days hd), (true_not (is_list_of i s list) legal, (le-ltb i.heads (heads_on rota s day + 1) (omega arith), tt))))

pub full_refused : (i : Problem) (rota : List Duty) (s day : ℕ) → i.heads ≤ heads_on rota s day → (list : List Break) → IsNoGain i rota (Add s day list)
full_refused i rota s day full list accepted = let few : heads_on rota s day < i.heads = (add_parts i rota s day list accepted).heads in absurd (omega arith)

pub none_refused : (i : Problem) (rota : List Duty) (s day : ℕ) → ((list : List Break) → is_list_of i s list ≡ false) → (list : List Break) → IsNoGain i rota (Add s day list)
none_refused i rota s day none list accepted = absurd (false≢true (sym (none list) ∙ (add_parts i rota s day list accepted).legal))

pub add_no_better : (i : Problem) (rota : List Duty) (s day n : ℕ) → ((list : List Break) → is_list_of i s list ≡ true → n ≤ cost i (rota ++ duty s day list ∷ [])) → cost i rota ≤ n → (list : List Break) → IsNoGain i rota (Add s day list)
add_no_better i rota s day n least l list accepted = let a : n ≤ cost i (rota ++ duty s day list ∷ []) = least list (add_parts i rota s day list accepted).legal in omega arith

pub best_add_no_better : (i : Problem) (rota : List Duty) (s day n : ℕ) (best : List Break) → s < length (shift_list i) → day < i.days → heads_on rota s day < i.heads → is_list_of i s best ≡ true → n ≡ cost i (rota ++ duty s day best ∷ [])
    → ((list : List Break) → is_list_of i s list ≡ true → n ≤ cost i (rota ++ duty s day list ∷ [])) → IsNoGain i rota (Add s day best) → (list : List Break) → IsNoGain i rota (Add s day list)
best_add_no_better i rota s day n best hs hd few legal exact least h list accepted =
    let a : n ≤ cost i (rota ++ duty s day list ∷ []) = least list (add_parts i rota s day list accepted).legal in
    let b : cost i rota ≤ cost i (rota ++ duty s day best ∷ []) = h (add_accepted i rota s day best hs hd legal few) in
    omega arith

-- ---- places
-- the row at a place
pub row_optimal : (i : Problem) (rows : List Row) (k : ℕ) (r : Row) → k < length rows → r ≡ get_or rows k r → IsDutyOptimal i (rota_of rows) (duty_of r) → IsOptimalAt i rows Rows k
row_optimal i rows k r l e h x f =
    let both : Some r ≡ Some x = sym (slice_get_read rows (length rows) k r refl l e) ∙ f in
    let same : r ≡ x = cc in
    subst (λ (z : Row). IsDutyOptimal i (rota_of rows) (duty_of z)) same h

pub no_row : (i : Problem) (rows : List Row) (k : ℕ) → length rows ≤ k → IsOptimalAt i rows Rows k
no_row i rows k l x f = let e : Some x ≡ None = sym f ∙ slice_get_past rows k l in absurd (cc)

-- a place of a part is one
pub place_of : (i : Problem) (rows : List Row) (part : Part) (k : ℕ) → k < places i rows part → IsPlace i part k
place_of i rows Rows k h = tt
place_of i rows Shifts k h = h
place_of i rows Days k h = h

-- ---- counting down
-- what is known once some places were looked at
pub record IsLooked (i : Problem) (old new : Drafting) (part : Part) (start left place : ℕ) : Type 0 where
  pub instance : new.instance ≡ old.instance
  pub cheaper : cost i (rota_of new.rows) + start ≤ cost i (rota_of old.rows) + left
  pub down : left ≤ start
  pub none : left ≡ start → 0 < start → (new ≡ old) × ((k : ℕ) → k < place → IsOptimalAt i old.rows part k)

-- ---- all parts
-- a duty of a plan stands in a row
row_of_duty : (rows : List Row) (d : Duty) → 0 < count_of (rota_of rows) d → (k : ℕ) × (r : Row) × (k < length rows) × (slice_get rows k ≡ Some r) × (duty_of r ≡ d)
row_of_duty rows d some =
    let x = some_of d rows some in
    let k = place rows x.0 x.1 in
    (k.0, x.0, k.1, k.2, x.2)
  where
    place : (rows : List Row) (r : Row) → Has rows r → (k : ℕ) × (k < length rows) × (slice_get rows k ≡ Some r)
    place [] r m = absurd m
    place (y ∷ ys) r (inl e) = (0, omega arith, ap (λ z. Some z) e)
    place (y ∷ ys) r (inr m) = let k = place ys r m in (suc k.0, (let l : k.0 < length ys = k.1 in omega arith), k.2)

pub some_by_test : (n : ℕ) → (n == 0) ≡ false → 0 < n
some_by_test zero h = absurd (false≢true (sym h))
some_by_test (suc n) h = omega arith

pub local_optimum : (i : Problem) (rows : List Row)
    → ((k : ℕ) → k < length rows → IsOptimalAt i rows Rows k)
    → ((k : ℕ) → k < length (shift_list i) * length (shift_list i) → IsOptimalAt i rows Shifts k)
    → ((k : ℕ) → k < length (shift_list i) * i.days → IsOptimalAt i rows Days k)
    → IsLocalOptimum i (rota_of rows)
local_optimum i rows hr hs hd (Add s day list) accepted =
    let p = add_parts i (rota_of rows) s day list accepted in
    let small : s * i.days + day < i.days * length (shift_list i) = mul-add-lt s i.days day (length (shift_list i)) p.known p.within in
    let at : s * i.days + day < length (shift_list i) * i.days = omega arith in
    let h = hd (s * i.days + day) at list in
    let t : (s * i.days + day) / i.days ≡ s = div-mul-add s i.days day p.within in
    let u : (s * i.days + day) % i.days ≡ day = mod-mul-add s i.days day p.within in
    subst (λ (a : ℕ). IsNoGain i (rota_of rows) (Add a day list)) t (subst (λ (b : ℕ). IsNoGain i (rota_of rows) (Add ((s * i.days + day) / i.days) b list)) u h) accepted
local_optimum i rows hr hs hd (Drop s day list) accepted =
    let n = no_cause (move_causes i (rota_of rows) (Drop s day list)) accepted in
    let x = row_of_duty rows (duty s day list) (some_by_test (count_of (rota_of rows) (duty s day list)) n.1.1.0) in
    let h = (hr x.0 x.2 x.1 x.3).0 in
    subst (λ (d : Duty). IsNoGain i (rota_of rows) (Drop d.shift d.day d.breaks)) x.4 h accepted
local_optimum i rows hr hs hd (Rebreak s day from to) accepted =
    let n = no_cause (move_causes i (rota_of rows) (Rebreak s day from to)) accepted in
    let x = row_of_duty rows (duty s day from) (some_by_test (count_of (rota_of rows) (duty s day from)) n.1.1.1.0) in
    let h = (hr x.0 x.2 x.1 x.3).1 to in
    subst (λ (d : Duty). IsNoGain i (rota_of rows) (Rebreak d.shift d.day d.breaks to)) x.4 h accepted
local_optimum i rows hr hs hd (Reshift from to) accepted =
    let count = length (shift_list i) in
    let n = no_cause (move_causes i (rota_of rows) (Reshift from to)) accepted in
    let p = pair_parts i from to (none_from_no_cause (pair_causes i from to) (n.0, (n.1.0, (n.1.1.0, tt)))) in
    let at : from * count + to < count * count = mul-add-lt from count to count p.from_known p.to_known in
    let t : (from * count + to) / count ≡ from = div-mul-add from count to p.to_known in
    let u : (from * count + to) % count ≡ to = mod-mul-add from count to p.to_known in
    subst (λ (a : ℕ). IsNoGain i (rota_of rows) (Reshift a to)) t (subst (λ (b : ℕ). IsNoGain i (rota_of rows) (Reshift ((from * count + to) / count) b)) u (hs (from * count + to) at)) accepted

-- going through all parts in turn
pub all_parts : (i : Problem) (a b c d : Drafting) (start one two three : ℕ) → three ≡ start → 0 < start → three ≤ two → two ≤ one → one ≤ start
    → (one ≡ start → 0 < start → (b ≡ a) × ((k : ℕ) → k < places i a.rows Rows → IsOptimalAt i a.rows Rows k))
    → (two ≡ one → 0 < one → (c ≡ b) × ((k : ℕ) → k < places i b.rows Shifts → IsOptimalAt i b.rows Shifts k))
    → (three ≡ two → 0 < two → (d ≡ c) × ((k : ℕ) → k < places i c.rows Days → IsOptimalAt i c.rows Days k))
    → (d ≡ a) × IsLocalOptimum i (rota_of a.rows)
all_parts i a b c d start one two three e some h g f x y z =
    let p = x (omega arith) some in
    let q = y (omega arith) (omega arith) in
    let r = z (omega arith) (omega arith) in
    let same : c ≡ a = q.0 ∙ p.0 in (
      r.0 ∙ same,
      local_optimum i a.rows p.1
          (subst (λ (w : Drafting). (k : ℕ) → k < places i w.rows Shifts → IsOptimalAt i w.rows Shifts k) p.0 q.1)
          (subst (λ (w : Drafting). (k : ℕ) → k < places i w.rows Days → IsOptimalAt i w.rows Days k) same r.1),
    )
