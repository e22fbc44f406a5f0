-- Counts of slots after the offsets of a duty's shift so far.
use Rattle.rota_cost.proofs.Common.{◌≡◌, inl, inr, ℕ, ◌+◌, ◌*◌, ◌<◌, ◌≤◌, Bool, true, false, cond, ◌&&◌, ◌||◌, ◌==◌, List, length, get_or, set, refl, sym, ap, ◌∙◌, subst, arith, Some, eq-eqb, length-set, get_or-set_same, get_or-set_other, slice_get, IsSomeAnd, option_map_or, list_any, and_parts, and_left, eqb-true, cases_Bool, cases_eq, ne_eqb, and_right, Rule, works_at, any_some, from_below, Shift, Duty, Problem, shift_list, slots, day_slots, slot_of, below, works, IsValid, same_offset, some_at, is_some_and_at, Has_at, shift_short, any_below_more}
use Rattle.break_rules.specs.declared.Break.{Break}

-- whether a duty works at an offset of its shift that stands at a slot
abbrev pub at : Problem → Shift × Rule → Duty → ℕ → ℕ → Bool
at i x d t k = works_at x.1 x.0.len d.breaks k && (slot_of i x.0 d.day k == t)

-- the count of each slot is changed where the duty works at some offset so far
pub record IsMarked (i : Problem) (d : Duty) (f : ℕ → ℕ) (old new : List ℕ) (o : ℕ) : Type 0 where
  pub counts : (x : Shift × Rule) → slice_get (shift_list i) d.shift ≡ Some x → (t : ℕ) → t < slots i → get_or new t 0 ≡ cond (list_any (at i x d t) (below o)) (f (get_or old t 0)) (get_or old t 0)
  pub same : length new ≡ length old

-- what is known of a duty's shift
pub record IsFor (i : Problem) (d : Duty) (shift : Shift) (rule : Rule) (list : List Break) : Type 0 where
  pub valid : IsValid i
  pub known : d.shift < length (shift_list i)
  pub is_shift : IsSomeAnd (slice_get (shift_list i) d.shift) (λ x. shift ≡ x.0)
  pub is_rule : IsSomeAnd (slice_get (shift_list i) d.shift) (λ x. rule ≡ x.1)
  pub breaks : list ≡ d.breaks

tested : (i : Problem) (d : Duty) (shift : Shift) (rule : Rule) (list : List Break) (o : ℕ) (x : Shift × Rule) → IsFor i d shift rule list → slice_get (shift_list i) d.shift ≡ Some x → works_at rule shift.len list o ≡ works_at x.1 x.0.len d.breaks o
tested i d shift rule list o x h e =
    ap (λ q. works_at q shift.len list o) (is_some_and_at _ (λ x. rule ≡ x.1) x e h.is_rule)
    ∙ ap (λ (q : Shift). works_at x.1 q.len list o) (is_some_and_at _ (λ x. shift ≡ x.0) x e h.is_shift)
    ∙ ap (λ bs. works_at x.1 x.0.len bs o) h.breaks

or_false : (b : Bool) → (b || false) ≡ b
or_false true = refl
or_false false = refl

or_true : (b : Bool) → (b || true) ≡ true
or_true true = refl
or_true false = refl

pub marked_skip : (i : Problem) (d : Duty) (f : ℕ → ℕ) (shift : Shift) (rule : Rule) (list : List Break) (old new : List ℕ) (o : ℕ) → IsFor i d shift rule list → works_at rule shift.len list o ≡ false → IsMarked i d f old new o → IsMarked i d f old new (o + 1)
marked_skip i d f shift rule list old new o h off m = record {
  counts = λ x e t small.
      let no : at i x d t o ≡ false = and_left _ (slot_of i x.0 d.day o == t) (sym (tested i d shift rule list o x h e) ∙ off) in
      let same : list_any (at i x d t) (below (o + 1)) ≡ list_any (at i x d t) (below o) = any_below_more (at i x d t) o ∙ ap (λ b. list_any (at i x d t) (below o) || b) no ∙ or_false _ in
      m.counts x e t small ∙ ap (λ b. cond b (f (get_or old t 0)) (get_or old t 0)) (sym same);
  same = m.same;
}

-- no offset before stands at the slot of an offset
fresh : (i : Problem) (d : Duty) (x : Shift × Rule) (o : ℕ) → o < slots i → list_any (at i x d (slot_of i x.0 d.day o)) (below o) ≡ false
fresh i d x o short =
    elim (cases_Bool (list_any (at i x d (slot_of i x.0 d.day o)) (below o))) [
      | inl some ↦
          let k = any_some (at i x d (slot_of i x.0 d.day o)) (below o) some in
          let low : k.0 < o = from_below o k.0 k.1 in
          let q = and_parts (works_at x.1 x.0.len d.breaks k.0) (slot_of i x.0 d.day k.0 == slot_of i x.0 d.day o) k.2 in
          let same : k.0 ≡ o = same_offset (d.day * day_slots i + x.0.start) k.0 o (slots i) (omega arith) short (eqb-true _ _ q.1) in
          absurd (omega arith)
      | inr none ↦ none
    ]

pub found : (i : Problem) (d : Duty) (shift : Shift) (rule : Rule) (list : List Break) (o : ℕ) → IsFor i d shift rule list → o < shift.len → (x : Shift × Rule) × (slice_get (shift_list i) d.shift ≡ Some x) × (o < slots i)
found i d shift rule list o h small =
    let x = some_at (shift_list i) d.shift h.known in
    let e : shift ≡ x.0.0 = is_some_and_at _ (λ x. shift ≡ x.0) x.0 x.1 h.is_shift in
    let l : shift.len ≡ x.0.0.len = ap (λ (q : Shift). q.len) e in
    let short : x.0.0.len ≤ slots i = shift_short i h.valid x.0 (Has_at (shift_list i) d.shift x.0 x.1) in
    (x.0, x.1, omega arith)

-- a slot that no offset before stands at has the count that it had
pub unmarked : (i : Problem) (d : Duty) (f : ℕ → ℕ) (shift : Shift) (rule : Rule) (list : List Break) (old new : List ℕ) (o slot : ℕ) → IsFor i d shift rule list → o < shift.len → slot < slots i → IsSomeAnd (slice_get (shift_list i) d.shift) (λ x. slot ≡ slot_of i x.0 d.day o) → IsMarked i d f old new o → get_or new slot 0 ≡ get_or old slot 0
unmarked i d f shift rule list old new o slot h small low stands m =
    let x = found i d shift rule list o h small in
    let s : slot ≡ slot_of i x.0.0 d.day o = is_some_and_at _ (λ x. slot ≡ slot_of i x.0 d.day o) x.0 x.1 stands in
    let none : list_any (at i x.0 d slot) (below o) ≡ false = ap (λ (t : ℕ). list_any (at i x.0 d t) (below o)) s ∙ fresh i d x.0 o x.2 in
    m.counts x.0 x.1 slot low ∙ ap (λ b. cond b (f (get_or old slot 0)) (get_or old slot 0)) none

pub marked_more : (i : Problem) (d : Duty) (f : ℕ → ℕ) (shift : Shift) (rule : Rule) (list : List Break) (old new : List ℕ) (o slot n : ℕ) → IsFor i d shift rule list → o < shift.len → slot < slots i → slots i ≤ length new → IsSomeAnd (slice_get (shift_list i) d.shift) (λ x. slot ≡ slot_of i x.0 d.day o)
    → works_at rule shift.len list o ≡ true → n ≡ f (get_or new slot 0) → IsMarked i d f old new o → IsMarked i d f old (set new slot n) (o + 1)
marked_more i d f shift rule list old new o slot n h small low room stands on written m = record {
  counts = λ x e t within.
      let s : slot ≡ slot_of i x.0 d.day o = is_some_and_at _ (λ x. slot ≡ slot_of i x.0 d.day o) x e stands in
      let w : works_at x.1 x.0.len d.breaks o ≡ true = sym (tested i d shift rule list o x h e) ∙ on in
      elim (cases_eq slot t) [
        | inl here ↦
            let place : slot < length new = omega arith in
            let all : list_any (at i x d slot) (below (o + 1)) ≡ true =
            any_below_more (at i x d slot) o ∙ ap (λ b. list_any (at i x d slot) (below o) || (b && (slot_of i x.0 d.day o == slot))) w
            ∙ ap (λ b. list_any (at i x d slot) (below o) || b) (eq-eqb (slot_of i x.0 d.day o) slot (sym s)) ∙ or_true _ in
            let before : get_or new slot 0 ≡ get_or old slot 0 = unmarked i d f shift rule list old new o slot h small low stands m in
            let value : get_or (set new slot n) slot 0 ≡ n = get_or-set_same new slot n 0 place in
            let there : get_or (set new slot n) slot 0 ≡ cond (list_any (at i x d slot) (below (o + 1))) (f (get_or old slot 0)) (get_or old slot 0) =
            value ∙ written ∙ ap f before ∙ ap (λ b. cond b (f (get_or old slot 0)) (get_or old slot 0)) (sym all) in
            subst (λ (k : ℕ). get_or (set new slot n) k 0 ≡ cond (list_any (at i x d k) (below (o + 1))) (f (get_or old k 0)) (get_or old k 0)) here there
        | inr off ↦
            let no : at i x d t o ≡ false = and_right (works_at x.1 x.0.len d.breaks o) _ (ne_eqb (slot_of i x.0 d.day o) t (λ q. off (s ∙ q))) in
            let same : list_any (at i x d t) (below (o + 1)) ≡ list_any (at i x d t) (below o) = any_below_more (at i x d t) o ∙ ap (λ b. list_any (at i x d t) (below o) || b) no ∙ or_false _ in
            get_or-set_other new slot t n 0 (λ q. off (sym q)) ∙ m.counts x e t within ∙ ap (λ b. cond b (f (get_or old t 0)) (get_or old t 0)) (sym same)
      ];
  same = length-set new slot n ∙ m.same;
}

-- no count is changed twice
pub marked_most : (i : Problem) (d : Duty) (f : ℕ → ℕ) (shift : Shift) (rule : Rule) (list : List Break) (old new : List ℕ) (o most : ℕ) → IsFor i d shift rule list → ((n : ℕ) → f n ≤ n + 1) → ((t : ℕ) → t < slots i → get_or old t 0 ≤ most) → IsMarked i d f old new o → (t : ℕ) → t < slots i → get_or new t 0 ≤ most + 1
marked_most i d f shift rule list old new o most h grows few m t small =
    let x = some_at (shift_list i) d.shift h.known in
    let e : get_or new t 0 ≡ cond (list_any (at i x.0 d t) (below o)) (f (get_or old t 0)) (get_or old t 0) = m.counts x.0 x.1 t small in
    let l : get_or old t 0 ≤ most = few t small in
    let g : f (get_or old t 0) ≤ get_or old t 0 + 1 = grows (get_or old t 0) in
    let c : cond (list_any (at i x.0 d t) (below o)) (f (get_or old t 0)) (get_or old t 0) ≤ get_or old t 0 + 1 = either (list_any (at i x.0 d t) (below o)) _ _ _ g (omega arith) in
    omega arith
  where
    either : (b : Bool) (m n k : ℕ) → m ≤ k → n ≤ k → cond b m n ≤ k
    either true m n k p q = p
    either false m n k p q = q

-- after all offsets the count of each slot is changed where the duty works
pub marked_all : (i : Problem) (d : Duty) (f : ℕ → ℕ) (shift : Shift) (rule : Rule) (list : List Break) (old new : List ℕ) (o : ℕ) → IsFor i d shift rule list → o ≡ shift.len → IsMarked i d f old new o → (t : ℕ) → t < slots i → get_or new t 0 ≡ cond (works i d t) (f (get_or old t 0)) (get_or old t 0)
marked_all i d f shift rule list old new o h whole m t small =
    let x = some_at (shift_list i) d.shift h.known in
    let e : shift ≡ x.0.0 = is_some_and_at _ (λ x. shift ≡ x.0) x.0 x.1 h.is_shift in
    let l : o ≡ x.0.0.len = whole ∙ ap (λ (q : Shift). q.len) e in
    let w : works i d t ≡ list_any (at i x.0 d t) (below o) =
    ap (λ q. option_map_or (λ (x : Shift × Rule). list_any (λ k. works_at x.1 x.0.len d.breaks k && (slot_of i x.0 d.day k == t)) (below x.0.len)) q false) x.1
    ∙ ap (λ (k : ℕ). list_any (at i x.0 d t) (below k)) (sym l) in
    m.counts x.0 x.1 t small ∙ ap (λ b. cond b (f (get_or old t 0)) (get_or old t 0)) (sym w)
