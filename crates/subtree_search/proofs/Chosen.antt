-- Which node a search takes next, found node by node.
use Rattle.subtree_search.proofs.Common.{◌≡◌, ◌⊎◌, inl, inr, ℕ, ◌+◌, ◌<◌, ◌≤◌, Bool, true, false, not, List, length, refl, sym, ap, ◌∙◌, subst, arith, nat_lt, Option, Some, None, slice_get, MatchOption, IsSomeAnd, IsFalse, and_parts, and_from, cases_Bool, cases_lt, lt-ltb, ltb-true, false≢true, not-true, slice_get_within, Node, same_some, is_open, IsNext}

-- an open node is unsplit, and its floor is less
pub open_parts : (cost : ℕ) (n : Node) → is_open cost n ≡ true → (n.split ≡ false) × (n.floor < cost)
open_parts cost n e = let p = and_parts (not n.split) (nat_lt n.floor cost) e in (not-true n.split p.0, ltb-true n.floor cost p.1)

pub open_from : (cost : ℕ) (n : Node) → n.split ≡ false → n.floor < cost → is_open cost n ≡ true
open_from cost n unsplit less = and_from (not n.split) (nat_lt n.floor cost) (ap not unsplit) (lt-ltb n.floor cost less)

-- what is known of the nodes below a number: the node found, with its floor, or the cost where none was found
pub record Found (nodes : List Node) (cost n : ℕ) (next : Option ℕ) (floor : ℕ) : Type 0 where
  pub most : floor ≤ cost
  pub best : MatchOption next (floor ≡ cost) (λ k. (x : Node) × (k < n) × (slice_get nodes k ≡ Some x) × (is_open cost x ≡ true) × (x.floor ≡ floor))
  pub least : (j : ℕ) (m : Node) → j < n → slice_get nodes j ≡ Some m → is_open cost m ≡ true → (floor < m.floor) ⊎ ((floor ≡ m.floor) × IsSomeAnd next (λ k. k ≤ j))

-- an open node of less floor is found
pub found_better : (nodes : List Node) (cost n : ℕ) (next : Option ℕ) (floor : ℕ) (x : Node) → Found nodes cost n next floor → slice_get nodes n ≡ Some x → is_open floor x ≡ true → Found nodes cost (n + 1) (Some n) x.floor
found_better nodes cost n next floor x f at e =
    let p = open_parts floor x e in
    let less : x.floor < floor = p.1 in
    let most : floor ≤ cost = f.most in
    record {
      most = omega (arith, less, most);
      best = (x, omega arith, at, open_from cost x p.0 (omega (arith, less, most)), refl);
      least = λ j m q atj h.
          elim (cases_lt j n) [
            | inl before ↦
                inl (elim (f.least j m before atj h) [
                  | inl a ↦ (let r : x.floor < m.floor = omega (arith, a, less) in r)
                  | inr a ↦ (let same : floor ≡ m.floor = a.0 in let r : x.floor < m.floor = omega (arith, same, less) in r)
                ])
            | inr after ↦
                let same_place : j ≡ n = omega (arith, q, after) in
                let same : x ≡ m = same_some x m (sym at ∙ ap (slice_get nodes) (sym same_place) ∙ atj) in
                inr (ap (λ (z : Node). z.floor) same, omega (arith, same_place))
          ];
    }

some_before : (nodes : List Node) (cost n : ℕ) (next : Option ℕ) (floor : ℕ) → MatchOption next (floor ≡ cost) (λ k. (x : Node) × (k < n) × (slice_get nodes k ≡ Some x) × (is_open cost x ≡ true) × (x.floor ≡ floor))
    → floor < cost → (j : ℕ) → n ≤ j → IsSomeAnd next (λ k. k ≤ j)
some_before nodes cost n None floor b less j p = let e : floor ≡ cost = b in absurd (omega (arith, e, less))
some_before nodes cost n (Some k) floor b less j p = let l : k < n = b.1 in omega (arith, l, p)

best_later : (nodes : List Node) (cost n : ℕ) (next : Option ℕ) (floor : ℕ) → MatchOption next (floor ≡ cost) (λ k. (x : Node) × (k < n) × (slice_get nodes k ≡ Some x) × (is_open cost x ≡ true) × (x.floor ≡ floor))
    → MatchOption next (floor ≡ cost) (λ k. (x : Node) × (k < n + 1) × (slice_get nodes k ≡ Some x) × (is_open cost x ≡ true) × (x.floor ≡ floor))
best_later nodes cost n None floor b = b
best_later nodes cost n (Some k) floor b = let l : k < n = b.1 in (b.0, omega (arith, l), b.2, b.3, b.4)

-- any other node is passed over
pub found_before : (nodes : List Node) (cost n : ℕ) (next : Option ℕ) (floor : ℕ) (x : Node) → Found nodes cost n next floor → slice_get nodes n ≡ Some x → is_open floor x ≡ false → Found nodes cost (n + 1) next floor
found_before nodes cost n next floor x f at shut = record {
  most = f.most;
  best = best_later nodes cost n next floor f.best;
  least = λ j m q atj h.
      elim (cases_lt j n) [
        | inl before ↦ f.least j m before atj h
        | inr after ↦
            let same_place : j ≡ n = omega (arith, q, after) in
            let same : x ≡ m = same_some x m (sym at ∙ ap (slice_get nodes) (sym same_place) ∙ atj) in
            let p = open_parts cost m h in
            let shut_m : is_open floor m ≡ false = subst (λ (z : Node). is_open floor z ≡ false) same shut in
            let low : m.floor < cost = p.1 in
            elim (cases_lt m.floor floor) [
              | inl less ↦ absurd (false≢true (sym shut_m ∙ open_from floor m p.0 less))
              | inr more ↦
                  elim (cases_lt floor m.floor) [
                    | inl less ↦ inl less
                    | inr other ↦ inr (omega (arith, more, other), some_before nodes cost n next floor f.best (omega (arith, more, other, low)) j after)
                  ]
            ]
      ];
}

-- what is known at the end
pub chosen : (nodes : List Node) (cost n : ℕ) (next : Option ℕ) (floor : ℕ) → length nodes ≤ n → Found nodes cost n next floor
    → MatchOption next ((j : ℕ) (m : Node) → slice_get nodes j ≡ Some m → IsFalse (is_open cost m)) (λ k. (x : Node) × IsNext nodes cost k x)
chosen nodes cost n None floor all f = λ j m at.
    elim (cases_Bool (is_open cost m)) [
      | inr shut ↦ shut
      | inl open_one ↦
          let within : j < length nodes = slice_get_within nodes j m at in
          let low : m.floor < cost = (open_parts cost m open_one).1 in
          let same : floor ≡ cost = f.best in
          elim (f.least j m (omega (arith, within, all)) at open_one) [ inl a ↦ absurd (omega (arith, a, same, low)) | inr a ↦ absurd (a.1) ]
    ]
chosen nodes cost n (Some k) floor all f =
    let x = f.best.0 in
    let here : x.floor ≡ floor = f.best.4 in (
      x,
      record {
        there = f.best.2;
        opens = f.best.3;
        least = λ j m at e.
            let within : j < length nodes = slice_get_within nodes j m at in
            elim (f.least j m (omega (arith, within, all)) at e) [
              | inl a ↦ inl (let r : x.floor < m.floor = omega (arith, a, here) in r)
              | inr a ↦ inr (here ∙ a.0, a.1)
            ];
      },
    )

-- the same where a loop has both in variables of its own
pub taken_over : (nodes : List Node) (cost n : ℕ) (next after : Option ℕ) (floor low : ℕ) (x : Node) (answer : Bool) → Found nodes cost n next floor → slice_get nodes n ≡ Some x → answer ≡ is_open floor x → answer ≡ true → after ≡ Some n → low ≡ x.floor
    → Found nodes cost (n + 1) after low
taken_over nodes cost n next after floor low x answer f at is hit same lower =
    subst (λ (o : Option ℕ). Found nodes cost (n + 1) o low) (sym same) (subst (λ (l : ℕ). Found nodes cost (n + 1) (Some n) l) (sym lower) (found_better nodes cost n next floor x f at (sym is ∙ hit)))

pub passed_over : (nodes : List Node) (cost n : ℕ) (next after : Option ℕ) (floor low : ℕ) (x : Node) (answer : Bool) → Found nodes cost n next floor → slice_get nodes n ≡ Some x → answer ≡ is_open floor x → answer ≡ false → after ≡ next → low ≡ floor
    → Found nodes cost (n + 1) after low
passed_over nodes cost n next after floor low x answer f at is miss same lower =
    subst (λ (o : Option ℕ). Found nodes cost (n + 1) o low) (sym same) (subst (λ (l : ℕ). Found nodes cost (n + 1) next l) (sym lower) (found_before nodes cost n next floor x f at (sym is ∙ miss)))
