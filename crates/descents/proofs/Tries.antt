-- What is known of a draft once a move was tried on it.
use Rattle.descents.proofs.Common.{◌≡◌, ℕ, zero, suc, ◌*◌, ◌/◌, ◌%◌, ◌<◌, ◌≤◌, Bool, true, false, List, [], ◌∷◌, ◌++◌, length, get_or, Option, Some, None, sym, ap, ◌∙◌, subst, arith, IfSome, IsTrue, MatchBool, MatchOption, OnFalse, div_below, mod_below, Break, first_cause, Duty, Row, Problem, shift_list, are_legal_rows, cost, duty_of, heads_on, is_list_of, rota_of, without, duty, Part, Rows, Shifts, Days, Move, Add, Drop, Rebreak, Reshift, Drafting, IsNoGain, IsDutyOptimal, IsBestRebreak, IsLocalOptimum, IsOptimalAt, IsPlace, AreSameDuties, move_causes, moved}
use Rattle.rota_cost.proofs.Counting.{row_duty}
use Rattle.local_moves.specs.declared.changes.Change.{Change}
use Rattle.local_moves.specs.Changes.{IsDone}
use Rattle.local_moves.proofs.Views.{same_drafting}
use Rattle.descents.proofs.Descents.{no_gain, no_list, best_other, not_better, best_no_better, best_add_no_better, row_optimal}

-- ---- costs and what is undone
pub cost_at : (i : Problem) (v : Drafting) (n : ℕ) → v.instance ≡ i → n ≡ cost v.instance (rota_of v.rows) → n ≡ cost i (rota_of v.rows)
cost_at i v n e h = h ∙ ap (λ (j : Problem). cost j (rota_of v.rows)) e

pub legal_at : (i : Problem) (v : Drafting) → v.instance ≡ i → are_legal_rows v.instance v.rows ≡ true → are_legal_rows i v.rows ≡ true
legal_at i v e h = subst (λ (j : Problem). are_legal_rows j v.rows ≡ true) e h

pub undone_same : (i : Problem) (old mid new : Drafting) (done : List Change) → old.instance ≡ i → mid.instance ≡ old.instance → new.instance ≡ mid.instance → are_legal_rows old.instance old.rows ≡ true → IsDone (rota_of old.rows) (rota_of mid.rows) done
    → ((before : List Row) → IsTrue (are_legal_rows i before) → IsDone (rota_of before) (rota_of mid.rows) done → new.rows ≡ before) → new ≡ old
undone_same i old mid new done e f g legal d h = same_drafting new old (g ∙ f) (h old.rows (legal_at i old e legal) d)

pub tried_none : (i : Problem) (old mid : Drafting) (m : Move) (before after : ℕ) → old.instance ≡ i → mid.instance ≡ old.instance → AreSameDuties (rota_of mid.rows) (moved i m (rota_of old.rows))
    → before ≡ cost old.instance (rota_of old.rows) → after ≡ cost mid.instance (rota_of mid.rows) → before ≤ after → IsNoGain i (rota_of old.rows) m
tried_none i old mid m before after e f same b a l = no_gain i (rota_of old.rows) (rota_of mid.rows) m before after same (cost_at i old before e b) (cost_at i mid after (f ∙ e) a) l

-- ---- a test's answer
pub false_weaker : (b : Bool) (P Q : Type 0) → (P → Q) → OnFalse b P → OnFalse b Q
false_weaker true P Q f h = tt
false_weaker false P Q f h = f h

pub lower_from : (i : Problem) (b : Bool) (old mid new : Drafting) → mid ≡ old → MatchBool b (cost i (rota_of new.rows) < cost i (rota_of mid.rows)) (new ≡ mid) → MatchBool b (cost i (rota_of new.rows) < cost i (rota_of old.rows)) (new ≡ old)
lower_from i true old mid new e h = subst (λ (v : Drafting). cost i (rota_of new.rows) < cost i (rota_of v.rows)) e h
lower_from i false old mid new e h = h ∙ e

-- what holds of the value that there is
pub some_at : {X : Type 0} (o : Option X) (A : Type 0) (B : X → Type 0) (x : X) → o ≡ Some x → MatchOption o A B → B x
some_at {X} o A B x e h = subst (λ (p : Option X). MatchOption p A B) e h

pub if_some_at : {X : Type 0} (o : Option X) (B : X → Type 0) (x : X) → o ≡ Some x → IfSome o B → B x
if_some_at {X} o B x e h = subst (λ (p : Option X). IfSome p B) e h

-- ---- breaks of a duty
pub rebreak_found : (i : Problem) (rota less : List Duty) (d : Duty) (found : Option (List Break × ℕ)) → first_cause (move_causes i rota (Drop d.shift d.day d.breaks)) ≡ None → AreSameDuties less (without (duty d.shift d.day d.breaks) rota)
    → MatchOption found ((list : List Break) → is_list_of i d.shift list ≡ false) (λ b. b.1 ≡ cost i (less ++ duty d.shift d.day b.0 ∷ []))
    → IfSome found (λ b. IsTrue (is_list_of i d.shift b.0))
    → IfSome found (λ b. (list : List Break) → IsTrue (is_list_of i d.shift list) → b.1 ≤ cost i (less ++ duty d.shift d.day list ∷ []))
    → MatchOption found ((list : List Break) → IsNoGain i rota (Rebreak d.shift d.day d.breaks list)) (λ b. IsBestRebreak i rota d b.0 b.1)
rebreak_found i rota less d None there same exact legal least = no_list i rota d exact
rebreak_found i rota less d (Some b) there same exact legal least = best_other i rota less d b.0 b.1 there same legal exact least

pub duty_none : (i : Problem) (old mid : Drafting) (d : Duty) → mid ≡ old → IsNoGain i (rota_of old.rows) (Drop d.shift d.day d.breaks) → ((list : List Break) → IsNoGain i (rota_of mid.rows) (Rebreak d.shift d.day d.breaks list))
    → IsDutyOptimal i (rota_of old.rows) d
duty_none i old mid d e drop other = (drop, subst (λ (v : Drafting). (list : List Break) → IsNoGain i (rota_of v.rows) (Rebreak d.shift d.day d.breaks list)) e other)

pub duty_as_dear : (i : Problem) (old mid low : Drafting) (d : Duty) (list : List Break) (n now : ℕ) → mid ≡ old → low ≡ mid → old.instance ≡ i → IsNoGain i (rota_of old.rows) (Drop d.shift d.day d.breaks)
    → IsBestRebreak i (rota_of mid.rows) d list n → now ≡ cost low.instance (rota_of low.rows) → now ≤ n → IsDutyOptimal i (rota_of old.rows) d
duty_as_dear i old mid low d list n now e f g drop best h l =
    let a : now ≡ cost i (rota_of mid.rows) = cost_at i low now (ap (λ (v : Drafting). v.instance) (f ∙ e) ∙ g) h ∙ ap (λ (v : Drafting). cost i (rota_of v.rows)) f in
    duty_none i old mid d e drop (not_better i (rota_of mid.rows) d list n best (omega arith))

pub duty_no_better : (i : Problem) (old mid low : Drafting) (d : Duty) (list : List Break) (n : ℕ) → mid ≡ old → low ≡ mid → IsNoGain i (rota_of old.rows) (Drop d.shift d.day d.breaks) → IsBestRebreak i (rota_of mid.rows) d list n
    → IsNoGain i (rota_of low.rows) (Rebreak d.shift d.day d.breaks list) → IsDutyOptimal i (rota_of old.rows) d
duty_no_better i old mid low d list n e f drop best h =
    duty_none i old mid d e drop (best_no_better i (rota_of mid.rows) d list n best (subst (λ (v : Drafting). IsNoGain i (rota_of v.rows) (Rebreak d.shift d.day d.breaks list)) f h))

-- ---- duties of rows
pub shift_known : (i : Problem) (v : Drafting) (rows : List Row) (k : ℕ) (r : Row) (d : Duty) → v.instance ≡ i → are_legal_rows v.instance v.rows ≡ true → rows ≡ v.rows → k < length rows → r ≡ get_or rows k r → d ≡ duty_of r → d.shift < length (shift_list i)
shift_known i v rows k r d e legal same l at own =
    let here : k < length v.rows = subst (λ (rs : List Row). k < length rs) same l in
    let row : r ≡ get_or v.rows k r = at ∙ ap (λ (rs : List Row). get_or rs k r) same in
    let there = row_duty i v.rows (legal_at i v e legal) k r here in
    subst (λ (x : Duty). x.shift < length (shift_list i)) (ap duty_of (sym row) ∙ sym own) there.shift

pub row_optimal_at : (i : Problem) (rows slice : List Row) (k : ℕ) (r : Row) (d : Duty) → slice ≡ rows → k < length slice → r ≡ get_or slice k r → d ≡ duty_of r → IsDutyOptimal i (rota_of rows) d → IsOptimalAt i rows Rows k
row_optimal_at i rows slice k r d same l at own h =
    row_optimal i rows k r (subst (λ (rs : List Row). k < length rs) same l) (at ∙ ap (λ (rs : List Row). get_or rs k r) same) (subst (λ (x : Duty). IsDutyOptimal i (rota_of rows) x) own h)

-- ---- one duty more
pub add_tried : (i : Problem) (v : Drafting) (s day n limit heads : ℕ) (best : List Break) → s < length (shift_list i) → day < i.days → limit ≡ i.heads → heads ≡ heads_on (rota_of v.rows) s day → heads < limit → is_list_of i s best ≡ true
    → n ≡ cost i (rota_of v.rows ++ duty s day best ∷ []) → ((list : List Break) → IsTrue (is_list_of i s list) → n ≤ cost i (rota_of v.rows ++ duty s day list ∷ [])) → IsNoGain i (rota_of v.rows) (Add s day best) → (list : List Break) → IsNoGain i (rota_of v.rows) (Add s day list)
add_tried i v s day n limit heads best hs hd e f few legal exact least h = best_add_no_better i (rota_of v.rows) s day n best hs hd (let l : heads_on (rota_of v.rows) s day < i.heads = omega arith in l) legal exact least h

pub optimal_at_rows : (i : Problem) (rows : List Row) (part : Part) (k : ℕ) → part ≡ Rows → IsOptimalAt i rows Rows k → IsOptimalAt i rows part k
optimal_at_rows i rows part k e h = subst (λ (p : Part). IsOptimalAt i rows p k) (sym e) h

pub optimal_at_shifts : (i : Problem) (rows : List Row) (part : Part) (k n : ℕ) → part ≡ Shifts → n ≡ length (shift_list i) → IsNoGain i (rota_of rows) (Reshift (k / n) (k % n)) → IsOptimalAt i rows part k
optimal_at_shifts i rows part k n e f h = subst (λ (p : Part). IsOptimalAt i rows p k) (sym e) (subst (λ (m : ℕ). IsNoGain i (rota_of rows) (Reshift (k / m) (k % m))) f h)

pub optimal_at_days : (i : Problem) (rows : List Row) (part : Part) (k n : ℕ) → part ≡ Days → n ≡ i.days → ((list : List Break) → IsNoGain i (rota_of rows) (Add (k / n) (k % n) list)) → IsOptimalAt i rows part k
optimal_at_days i rows part k n e f h = subst (λ (p : Part). IsOptimalAt i rows p k) (sym e) (subst (λ (m : ℕ). (list : List Break) → IsNoGain i (rota_of rows) (Add (k / m) (k % m) list)) f h)

-- ---- descents
-- what holds of the rows of two drafts holds of rows that are theirs
pub of_rows : (P : List Row → List Row → Type 0) (i : Problem) (rows new : List Row) (start after : Drafting) → start ≡ record { instance = i; rows = rows } → new ≡ after.rows → P after.rows start.rows → P new rows
of_rows P i rows new start after e f h = subst (λ (rs : List Row). P rs rows) (sym f) (subst (λ (rs : List Row). P after.rows rs) (ap (λ (v : Drafting). v.rows) e) h)

pub still_optimum : (i : Problem) (old new : Drafting) → (new ≡ old) × IsLocalOptimum i (rota_of old.rows) → IsLocalOptimum i (rota_of new.rows)
still_optimum i old new h = subst (λ (v : Drafting). IsLocalOptimum i (rota_of v.rows)) (sym h.0) h.1
