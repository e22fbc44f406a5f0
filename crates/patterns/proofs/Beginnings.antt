-- With which prefixes a list begins that is one break longer.
use Rattle.patterns.proofs.Common.{◌≡◌, ◌⊎◌, inl, inr, ◌+◌, ℤ, pos, ◌+ℤ◌, true, false, cond, List, [], ◌∷◌, ◌++◌, length, drop, refl, sym, ap, ◌∙◌, arith, append_assoc, append-nil, length-append, false≢true, false_from_ne_true, cases_Bool, cond-true, cond-false, ints, Break, same_list, begins_with, same_list_decides, begins_rest, begins_from, share_of}

-- the number of an entry, if its prefix is the whole list, and else 0
abbrev pub own_of : List Break → List Break × ℤ → ℤ
own_of list entry = cond (same_list list entry.0) entry.1 (pos 0)

-- where a list with one more element is cut, nothing is left or the cut lies before that element
cut : {X : Type 0} (front : List X) (last : X) (q r : List X) → front ++ last ∷ [] ≡ q ++ r → (r ≡ []) ⊎ ((rest : List X) × (front ≡ q ++ rest))
cut [] last [] r e = inr ([], refl)
cut [] last (q ∷ []) r e = inl (cc)
cut [] last (q ∷ p ∷ qs) r e = absurd (cc)
cut (f ∷ fs) last [] r e = inr (f ∷ fs, refl)
cut {X} (f ∷ fs) last (q ∷ qs) r e =
    let heads : f ≡ q = cc in
    let tails : fs ++ last ∷ [] ≡ qs ++ r = cc in
    elim (cut fs last qs r tails) [ inl n ↦ inl n | inr s ↦ inr (s.0, ap (λ (x : X). x ∷ fs) heads ∙ ap (λ (xs : List X). q ∷ xs) s.1) ]

module _ (front : List Break) (last : Break) (q : List Break) where
  begins_still : begins_with front q ≡ true → begins_with (front ++ last ∷ []) q ≡ true
  begins_still h =
      let r = drop (length q) front in
      begins_from (front ++ last ∷ []) q (r ++ last ∷ []) (ap (λ (xs : List Break). xs ++ last ∷ []) (begins_rest front q h) ∙ append_assoc q r (last ∷ []))

  not_whole : begins_with front q ≡ true → same_list (front ++ last ∷ []) q ≡ false
  not_whole h =
      false_from_ne_true (same_list (front ++ last ∷ []) q)
      (λ s.
      let whole : length (front ++ last ∷ []) ≡ length q = ap length ((same_list_decides (front ++ last ∷ []) q).0 s) in
      let one : length (front ++ last ∷ []) ≡ length front + 1 = length-append front (last ∷ []) in
      let part : length front ≡ length (q ++ drop (length q) front) = ap length (begins_rest front q h) in
      let two : length (q ++ drop (length q) front) ≡ length q + length (drop (length q) front) = length-append q (drop (length q) front) in
      omega arith)

  begins_whole : same_list (front ++ last ∷ []) q ≡ true → begins_with (front ++ last ∷ []) q ≡ true
  begins_whole s = begins_from (front ++ last ∷ []) q [] ((same_list_decides (front ++ last ∷ []) q).0 s ∙ sym (append-nil q))

  begins_not : begins_with front q ≡ false → same_list (front ++ last ∷ []) q ≡ false → begins_with (front ++ last ∷ []) q ≡ false
  begins_not n s =
      false_from_ne_true (begins_with (front ++ last ∷ []) q)
      (λ h.
      let r = drop (length q) (front ++ last ∷ []) in
      elim (cut front last q r (begins_rest (front ++ last ∷ []) q h)) [
        | inl none ↦ false≢true (sym s ∙ (same_list_decides (front ++ last ∷ []) q).1 (begins_rest (front ++ last ∷ []) q h ∙ ap (λ (xs : List Break). q ++ xs) none ∙ append-nil q))
        | inr some ↦ false≢true (sym n ∙ begins_from front q some.0 some.1)
      ])

-- a break more adds the number of the entry whose prefix is the whole list
pub share_more : (front : List Break) (last : Break) (e : List Break × ℤ) → share_of (front ++ last ∷ []) e ≡ share_of front e +ℤ own_of (front ++ last ∷ []) e
share_more front last e =
    elim (cases_Bool (begins_with front e.0)) [
      | inl h ↦
          let one : share_of (front ++ last ∷ []) e ≡ e.1 = cond-true _ e.1 (pos 0) (begins_still front last e.0 h) in
          let two : share_of front e ≡ e.1 = cond-true _ e.1 (pos 0) h in
          let three : own_of (front ++ last ∷ []) e ≡ pos 0 = cond-false _ e.1 (pos 0) (not_whole front last e.0 h) in
          omega (arith, ints)
      | inr n ↦
          let two : share_of front e ≡ pos 0 = cond-false _ e.1 (pos 0) n in
          elim (cases_Bool (same_list (front ++ last ∷ []) e.0)) [
            | inl s ↦
                let one : share_of (front ++ last ∷ []) e ≡ e.1 = cond-true _ e.1 (pos 0) (begins_whole front last e.0 s) in
                let three : own_of (front ++ last ∷ []) e ≡ e.1 = cond-true _ e.1 (pos 0) s in
                omega (arith, ints)
            | inr s ↦
                let one : share_of (front ++ last ∷ []) e ≡ pos 0 = cond-false _ e.1 (pos 0) (begins_not front last e.0 n s) in
                let three : own_of (front ++ last ∷ []) e ≡ pos 0 = cond-false _ e.1 (pos 0) s in
                omega (arith, ints)
          ]
    ]

-- the empty list begins with no other prefix than itself
pub share_empty : (e : List Break × ℤ) → share_of [] e ≡ own_of [] e
share_empty ([], n) = refl
share_empty (b ∷ bs, n) =
    let one : begins_with [] (b ∷ bs) ≡ false = false_from_ne_true (begins_with [] (b ∷ bs)) (λ h. let e : [] ≡ (b ∷ bs) ++ drop (length (b ∷ bs)) [] = begins_rest [] (b ∷ bs) h in absurd (cc)) in
    cond-false (begins_with [] (b ∷ bs)) n (pos 0) one
