-- What the numbers and rows of a draft say of its duties.
use Rattle.local_moves.proofs.Common.{◌≡◌, ◌⊎◌, inl, inr, ℕ, zero, suc, cond, not, [], ◌∷◌, ◌++◌, take, refl, add-one, ◌+◌, ◌*◌, length, get_or, ◌<◌, ◌≤◌, Bool, true, ◌&&◌, ◌==◌, List, sym, ap, ◌∙◌, subst, arith, eq-eqb, count_by, and_from, cases_Bool, sum_by-cons, sum_by_push, mul-add-lt, count_by_at_most, Sorted, Duty, Row, Problem, shift_list, same_duty, count_of, is_on, heads_on, is_legal_duty, rota_of, are_legal_rows, cost, cover, works, same_duty_decides, AreAlike, Covering, without, with_removed, IsDraft, rows_alike, rows_legal, rota_costs, Drafting, IsExchanged, IsBefore}
use Rattle.std.proofs.Math.Nat.{mul-le-mul}
use Rattle.local_moves.proofs.OwnRows.{legal_sorted}

pub draft_legal : (i : Problem) (cover : Covering) (heads : List ℕ) (rows : List Row) → IsDraft i cover heads rows → are_legal_rows i rows ≡ true
draft_legal i cover heads rows h = ap (are_legal_rows i) h.listed ∙ rows_legal i cover.duties h.legal

pub draft_sorted : (i : Problem) (cover : Covering) (heads : List ℕ) (rows : List Row) → IsDraft i cover heads rows → Sorted IsBefore rows
draft_sorted i cover heads rows h = legal_sorted i rows (draft_legal i cover heads rows h)

-- the rows stand for the duties
pub draft_alike : (i : Problem) (cover : Covering) (heads : List ℕ) (rows : List Row) → IsDraft i cover heads rows → AreAlike cover.duties (rota_of rows)
draft_alike i cover heads rows h p = rows_alike i cover.duties h.legal p ∙ ap (λ (rs : List Row). count_by p (rota_of rs)) (sym h.listed)

pub draft_costs : (i : Problem) (cover : Covering) (heads : List ℕ) (rows : List Row) → IsDraft i cover heads rows → cost i cover.duties ≡ cost i (rota_of rows)
draft_costs i cover heads rows h = sym (rota_costs i cover.duties h.legal) ∙ ap (λ (rs : List Row). cost i (rota_of rs)) (sym h.listed)

-- a duty stands in a plan no more often than its shift has duties on its day
pub count_heads : (rota : List Duty) (d : Duty) → count_of rota d ≤ heads_on rota d.shift d.day
count_heads rota d =
    count_by_at_most (same_duty d) (is_on d.shift d.day) rota (λ x m t.
    let e : d ≡ x = (same_duty_decides d x).0 t in
    and_from (x.shift == d.shift) (x.day == d.day) (eq-eqb x.shift d.shift (ap (λ (y : Duty). y.shift) (sym e))) (eq-eqb x.day d.day (ap (λ (y : Duty). y.day) (sym e))))

-- ---- what is read of a draft
pub view_legal : (v : Drafting) (cover : Covering) (heads : List ℕ) (rows : List Row) → IsDraft cover.instance cover heads rows → record { instance = cover.instance; rows = rows } ≡ v → are_legal_rows v.instance v.rows ≡ true
view_legal v cover heads rows h e = subst (λ (w : Drafting). are_legal_rows w.instance w.rows ≡ true) e (draft_legal cover.instance cover heads rows h)

pub view_cost : (v : Drafting) (cover : Covering) (heads : List ℕ) (rows : List Row) → IsDraft cover.instance cover heads rows → record { instance = cover.instance; rows = rows } ≡ v → cost cover.instance cover.duties ≡ cost v.instance (rota_of v.rows)
view_cost v cover heads rows h e = draft_costs cover.instance cover heads rows h ∙ ap (λ (w : Drafting). cost w.instance (rota_of w.rows)) e

pub view_cover : (v : Drafting) (working : Covering) (heads : List ℕ) (rows : List Row) (t : ℕ) → IsDraft working.instance working heads rows → record { instance = working.instance; rows = rows } ≡ v → cover working.instance working.duties t ≡ cover v.instance (rota_of v.rows) t
view_cover v working heads rows t h e = draft_alike working.instance working heads rows h (λ d. works working.instance d t) ∙ ap (λ (w : Drafting). cover w.instance (rota_of w.rows) t) e

pub view_heads : (i : Problem) (v : Drafting) (cover : Covering) (heads : List ℕ) (rows : List Row) (s day k : ℕ) → IsDraft cover.instance cover heads rows → record { instance = cover.instance; rows = rows } ≡ v → v.instance ≡ i
    → s < length (shift_list i) → day < i.days → k ≡ s * i.days + day → (k < length heads) × (get_or heads k 0 ≡ heads_on (rota_of v.rows) s day)
view_heads i v cover heads rows s day k h e own hs hd at =
    let same : cover.instance ≡ i = ap (λ (w : Drafting). w.instance) e ∙ own in
    let ks : s < length (shift_list cover.instance) = subst (λ (j : Problem). s < length (shift_list j)) (sym same) hs in
    let kd : day < cover.instance.days = subst (λ (j : Problem). day < j.days) (sym same) hd in
    let place : k ≡ s * cover.instance.days + day = at ∙ ap (λ (j : Problem). s * j.days + day) (sym same) in
    let small : s * cover.instance.days + day < cover.instance.days * length (shift_list cover.instance) = mul-add-lt s cover.instance.days day (length (shift_list cover.instance)) ks kd in
    let all : length heads ≡ length (shift_list cover.instance) * cover.instance.days = h.all_shifts in (
      omega arith,
      ap (λ j. get_or heads j 0) place ∙ h.headed s day ks kd ∙ draft_alike cover.instance cover heads rows h (is_on s day)
          ∙ ap (λ (w : Drafting). heads_on (rota_of w.rows) s day) e,
    )

-- the number of a shift and day among the heads
pub heads_place : (i : Problem) (cover : Covering) (heads : List ℕ) (rows : List Row) (s day k : ℕ) → IsDraft i cover heads rows → s < length (shift_list i) → day < i.days → k ≡ s * i.days + day → (k < length heads) × (get_or heads k 0 ≡ heads_on cover.duties s day) × (k < 7168)
heads_place i cover heads rows s day k h hs hd at =
    let small : s * i.days + day < i.days * length (shift_list i) = mul-add-lt s i.days day (length (shift_list i)) hs hd in
    let all : length heads ≡ length (shift_list i) * i.days = h.all_shifts in
    let most : i.days * length (shift_list i) ≤ 7 * 1024 = mul-le-mul h.valid.days h.valid.shifts in
    (omega arith, ap (λ j. get_or heads j 0) at ∙ h.headed s day hs hd, omega arith)

-- ---- duties one after another
pub count_next : (p : Duty → Bool) (ds : List Duty) (k : ℕ) (d : Duty) → k < length ds → d ≡ get_or ds k d → count_by p (take (k + 1) ds) ≡ count_by p (take k ds) + cond (p d) 1 0
count_next p ds k d l e = ap (count_by p) (take_one_more ds k d l e) ∙ sum_by_push (λ x. cond (p x) 1 0) (take k ds) d
  where
    take_one_more : (ds : List Duty) (k : ℕ) (d : Duty) → k < length ds → d ≡ get_or ds k d → take (k + 1) ds ≡ take k ds ++ d ∷ []
    take_one_more [] k d l e = absurd (omega arith)
    take_one_more (x ∷ xs) zero d l e = ap (λ n. take n (x ∷ xs)) (add-one 0) ∙ ap (λ (z : Duty). z ∷ []) (sym e)
    take_one_more (x ∷ xs) (suc k) d l e = ap (λ n. take n (x ∷ xs)) (add-one (suc k)) ∙ ap (λ zs. x ∷ zs) (ap (λ n. take n xs) (sym (add-one k)) ∙ take_one_more xs k d (omega arith) e)

pub count_part : (p : Duty → Bool) (ds : List Duty) (k : ℕ) → count_by p (take k ds) ≤ count_by p ds
count_part p ds zero = omega arith
count_part p [] (suc k) = omega arith
count_part p (x ∷ xs) (suc k) =
    let a = sum_by-cons (λ y. cond (p y) 1 0) x (take k xs) in
    let b = sum_by-cons (λ y. cond (p y) 1 0) x xs in
    omega (arith, count_part p xs k)

-- the next duty to be taken is there
pub next_there : (start now gone : List Duty) (k : ℕ) (d : Duty) → IsExchanged start (take k gone) [] now → ((d : Duty) → count_of gone d ≤ count_of start d) → k < length gone → d ≡ get_or gone k d → 0 < count_of now d
next_there start now gone k d h there l e =
    let a : count_of now d + count_of (take k gone) d ≡ count_of start d + count_of [] d = h (same_duty d) in
    let none : count_of [] d ≡ 0 = refl in
    let b : count_of (take (k + 1) gone) d ≡ count_of (take k gone) d + cond (same_duty d d) 1 0 = count_next (same_duty d) gone k d l e in
    let one : ◌≡◌ {A = ℕ} (cond (same_duty d d) 1 0) 1 = ap (λ b. cond b 1 0) ((same_duty_decides d d).1 refl) in
    omega (arith, there d, count_part (same_duty d) gone (k + 1))

pub taken_more : (start now next gone : List Duty) (k : ℕ) (d : Duty) → IsExchanged start (take k gone) [] now → 0 < count_of now d → next ≡ without d now → k < length gone → d ≡ get_or gone k d → IsExchanged start (take (k + 1) gone) [] next
taken_more start now next gone k d h some e l at p =
    let a : count_by p now + count_by p (take k gone) ≡ count_by p start + count_by p [] = h p in
    let b : count_by p (take (k + 1) gone) ≡ count_by p (take k gone) + cond (p d) 1 0 = count_next p gone k d l at in
    let c : count_by p now ≡ count_by p (without d now) + cond (p d) 1 0 = (with_removed now d some).each p in
    let g : count_by p next ≡ count_by p (without d now) = ap (count_by p) e in
    omega arith

-- ---- duties that are still to be added
abbrev pub AreLeft : List Duty → List Duty → List Duty → List Duty → Type 0
AreLeft start all now rest = (p : Duty → Bool) → count_by p now + count_by p rest ≡ count_by p start + count_by p all

last_counts : (p : Duty → Bool) (all rest : List Duty) (d : Duty) → all ≡ rest ++ d ∷ [] → count_by p all ≡ count_by p rest + cond (p d) 1 0
last_counts p all rest d e = ap (count_by p) e ∙ sum_by_push (λ x. cond (p x) 1 0) rest d

pub next_legal : (i : Problem) (left rest : List Duty) (d : Duty) → left ≡ rest ++ d ∷ [] → count_by (λ d. not (is_legal_duty i d)) left ≡ 0 → is_legal_duty i d ≡ true
next_legal i left rest d e none = elim (cases_Bool (is_legal_duty i d)) [
  | inl t ↦ t
  | inr f ↦
      let a = last_counts (λ d. not (is_legal_duty i d)) left rest d e in
      let one : ◌≡◌ {A = ℕ} (cond (not (is_legal_duty i d)) 1 0) 1 = ap (λ b. cond (not b) 1 0) f in
      absurd (omega (arith, a, none, one))
]

pub next_heads : (i : Problem) (start all now left rest : List Duty) (d : Duty) → AreLeft start all now left → left ≡ rest ++ d ∷ [] → ((s day : ℕ) → heads_on start s day + heads_on all s day ≤ i.heads) → heads_on now d.shift d.day < i.heads
next_heads i start all now left rest d h e room =
    let a : heads_on now d.shift d.day + heads_on left d.shift d.day ≡ heads_on start d.shift d.day + heads_on all d.shift d.day = h (is_on d.shift d.day) in
    let b = last_counts (is_on d.shift d.day) left rest d e in
    let one : ◌≡◌ {A = ℕ} (cond (is_on d.shift d.day d) 1 0) 1 = ap (λ b. cond b 1 0) (and_from (d.shift == d.shift) (d.day == d.day) (eq-eqb d.shift d.shift refl) (eq-eqb d.day d.day refl)) in
    omega (arith, a, b, one, room d.shift d.day)
