-- What one duty more, one less and other breaks of a duty need and give.
use Rattle.local_moves.proofs.Common.{◌≡◌, ◌⊎◌, inl, inr, ℕ, ◌+◌, ◌<◌, ◌≤◌, Bool, true, false, cond, not, ◌&&◌, ◌==◌, nat_lt, List, [], ◌∷◌, ◌++◌, Option, Some, refl, sym, ap, ◌∙◌, subst, arith, eqb-true, eq-eqb, count_by, and_parts, and_from, cases_Bool, ltb-true, ltb-false, false≢true, sum_by-cons, Duty, Problem, same_duty, count_of, is_on, heads_on, is_list_of, is_legal_duty, is_legal_rota, are_legal_rows, rota_of, same_duty_decides, heads_within, without, legal_rows_parts, with_pushed, with_removed, UnknownShift, Day, Breaks, Absent, HeadsOver, OtherKind, NotNear, NoMemory, Drafting, IsExchanged, Answers, AreSameDuties}
use Rattle.local_moves.specs.declared.moves.MoveFault.{MoveFault}

-- a plan that is kept is legal
pub now_legal : (v : Drafting) (i : Problem) → v.instance ≡ i → are_legal_rows v.instance v.rows ≡ true → is_legal_rota i (rota_of v.rows) ≡ true
now_legal v i e h = (legal_rows_parts i v.rows (subst (λ (j : Problem). are_legal_rows j v.rows ≡ true) e h)).legal

pub answers : (fault : MoveFault) (cause : Option MoveFault) → Some fault ≡ cause → Answers fault cause
answers UnknownShift cause e = sym e
answers Day cause e = sym e
answers Breaks cause e = sym e
answers Absent cause e = sym e
answers (HeadsOver heads) cause e = sym e
answers OtherKind cause e = sym e
answers NotNear cause e = sym e
answers NoMemory cause e = tt

from_not_true : (b : Bool) → not b ≡ false → b ≡ true
from_not_true true h = refl
from_not_true false h = absurd (false≢true (sym h))

one_count : (p : Duty → Bool) (d : Duty) → count_by p (d ∷ []) ≡ cond (p d) 1 0
one_count p d = let a : count_by p (d ∷ []) ≡ cond (p d) 1 0 + 0 = sum_by-cons (λ x. cond (p x) 1 0) d [] in omega arith

-- one legal duty
pub one_legal : (i : Problem) (d : Duty) → not (nat_lt d.day i.days) ≡ false → not (is_list_of i d.shift d.breaks) ≡ false → count_by (λ x. not (is_legal_duty i x)) (d ∷ []) ≡ 0
one_legal i d h g =
    one_count (λ x. not (is_legal_duty i x)) d
    ∙ ap (λ b. cond (not b) 1 0) (and_from (nat_lt d.day i.days) (is_list_of i d.shift d.breaks) (from_not_true _ h) (from_not_true _ g))

-- a duty more of which there is room
pub one_room : (i : Problem) (rota : List Duty) (d : Duty) → is_legal_rota i rota ≡ true → nat_lt i.heads (heads_on rota d.shift d.day + 1) ≡ false → (s day : ℕ) → heads_on rota s day + heads_on (d ∷ []) s day ≤ i.heads + heads_on [] s day
one_room i rota d legal h s day =
    let own : heads_on (d ∷ []) s day ≡ cond (is_on s day d) 1 0 = one_count (is_on s day) d in
    let room : heads_on rota d.shift d.day + 1 ≤ i.heads = ltb-false i.heads (heads_on rota d.shift d.day + 1) h in
    let old : heads_on rota s day ≤ i.heads = heads_within i rota legal s day in
    let none : heads_on [] s day ≡ 0 = refl in
    elim (cases_Bool (is_on s day d)) [
      | inl t ↦
          let q = and_parts (d.shift == s) (d.day == day) t in
          let here : heads_on rota s day + 1 ≤ i.heads = subst (λ (n : ℕ). heads_on rota n day + 1 ≤ i.heads) (eqb-true d.shift s q.0) (subst (λ (n : ℕ). heads_on rota d.shift n + 1 ≤ i.heads) (eqb-true d.day day q.1) room) in
          let one : ◌≡◌ {A = ℕ} (cond (is_on s day d) 1 0) 1 = ap (λ b. cond b 1 0) t in
          omega arith
      | inr f ↦ let no : ◌≡◌ {A = ℕ} (cond (is_on s day d) 1 0) 0 = ap (λ b. cond b 1 0) f in omega arith
    ]

-- a duty less, and other breaks of a duty: its shift has no more duties on its day
pub no_more_heads : (i : Problem) (rota made gone : List Duty) → is_legal_rota i rota ≡ true → ((s day : ℕ) → heads_on made s day ≤ heads_on gone s day) → (s day : ℕ) → heads_on rota s day + heads_on made s day ≤ i.heads + heads_on gone s day
no_more_heads i rota made gone legal h s day = let a : heads_on rota s day ≤ i.heads = heads_within i rota legal s day in let b = h s day in omega arith

pub same_place_heads : (a b : Duty) → a.shift ≡ b.shift → a.day ≡ b.day → (s day : ℕ) → heads_on (a ∷ []) s day ≤ heads_on (b ∷ []) s day
same_place_heads a b e f s day =
    let x : heads_on (a ∷ []) s day ≡ cond (is_on s day a) 1 0 = one_count (is_on s day) a in
    let y : heads_on (b ∷ []) s day ≡ cond (is_on s day b) 1 0 = one_count (is_on s day) b in
    let z : ◌≡◌ {A = ℕ} (cond (is_on s day a) 1 0) (cond (is_on s day b) 1 0) = ap (λ (n : ℕ). cond ((n == s) && (a.day == day)) 1 0) e ∙ ap (λ (n : ℕ). cond ((b.shift == s) && (n == day)) 1 0) f in
    omega arith

-- a duty that is there can go
pub one_there : (rota : List Duty) (d : Duty) → (count_of rota d == 0) ≡ false → (x : Duty) → count_of (d ∷ []) x ≤ count_of rota x
one_there rota d h x =
    let own : count_of (d ∷ []) x ≡ cond (same_duty x d) 1 0 = one_count (same_duty x) d in
    elim (cases_Bool (same_duty x d)) [
      | inl t ↦
          let one : ◌≡◌ {A = ℕ} (cond (same_duty x d) 1 0) 1 = ap (λ b. cond b 1 0) t in
          let some : 0 < count_of rota d = above (count_of rota d) h in
          let there : 0 < count_of rota x = subst (λ (z : Duty). 0 < count_of rota z) (sym ((same_duty_decides x d).0 t)) some in
          omega arith
      | inr f ↦ let no : ◌≡◌ {A = ℕ} (cond (same_duty x d) 1 0) 0 = ap (λ b. cond b 1 0) f in omega arith
    ]
  where
    above : (n : ℕ) → (n == 0) ≡ false → 0 < n
    above n f = elim (cases_Bool (nat_lt 0 n)) [
      | inl t ↦ ltb-true 0 n t
      | inr g ↦ let z : n ≡ 0 = omega (arith, ltb-false 0 n g) in absurd (false≢true (sym f ∙ eq-eqb n 0 z))
    ]

some_there : (rota : List Duty) (d : Duty) → (count_of rota d == 0) ≡ false → 0 < count_of rota d
some_there rota d h =
    let a : count_of (d ∷ []) d ≤ count_of rota d = one_there rota d h d in
    let b : count_of (d ∷ []) d ≡ 1 = one_count (same_duty d) d ∙ ap (λ b. cond b 1 0) ((same_duty_decides d d).1 refl) in
    omega arith

-- what exchanges of single duties make
pub added : (rota new : List Duty) (d : Duty) → IsExchanged rota [] (d ∷ []) new → AreSameDuties new (rota ++ d ∷ [])
added rota new d h x =
    let a : count_of new x + count_of [] x ≡ count_of rota x + count_of (d ∷ []) x = h (same_duty x) in
    let none : count_of [] x ≡ 0 = refl in
    let b : count_of (rota ++ d ∷ []) x ≡ count_of rota x + cond (same_duty x d) 1 0 = (with_pushed rota d).each (same_duty x) in
    let c : count_of (d ∷ []) x ≡ cond (same_duty x d) 1 0 = one_count (same_duty x) d in
    omega arith

pub dropped : (rota new : List Duty) (d : Duty) → (count_of rota d == 0) ≡ false → IsExchanged rota (d ∷ []) [] new → AreSameDuties new (without d rota)
dropped rota new d some h x =
    let a : count_of new x + count_of (d ∷ []) x ≡ count_of rota x + count_of [] x = h (same_duty x) in
    let none : count_of [] x ≡ 0 = refl in
    let b : count_of rota x ≡ count_of (without d rota) x + cond (same_duty x d) 1 0 = (with_removed rota d (some_there rota d some)).each (same_duty x) in
    let c : count_of (d ∷ []) x ≡ cond (same_duty x d) 1 0 = one_count (same_duty x) d in
    omega arith

pub rebroken : (rota new : List Duty) (d e : Duty) → (count_of rota d == 0) ≡ false → IsExchanged rota (d ∷ []) (e ∷ []) new → AreSameDuties new (without d rota ++ e ∷ [])
rebroken rota new d e some h x =
    let a : count_of new x + count_of (d ∷ []) x ≡ count_of rota x + count_of (e ∷ []) x = h (same_duty x) in
    let b : count_of rota x ≡ count_of (without d rota) x + cond (same_duty x d) 1 0 = (with_removed rota d (some_there rota d some)).each (same_duty x) in
    let k : count_of (without d rota ++ e ∷ []) x ≡ count_of (without d rota) x + cond (same_duty x e) 1 0 = (with_pushed (without d rota) e).each (same_duty x) in
    let c : count_of (d ∷ []) x ≡ cond (same_duty x d) 1 0 = one_count (same_duty x) d in
    let m : count_of (e ∷ []) x ≡ cond (same_duty x e) 1 0 = one_count (same_duty x) e in
    omega arith
