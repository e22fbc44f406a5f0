-- The best list by layers is the best one by prices alone.
use Rattle.pricing.proofs.Common.{◌≡◌, inl, inr, ℕ, ℤ, pos, ◌+ℤ◌, true, false, List, [], ◌∷◌, Option, Some, None, refl, ap, subst, ◌∙◌, arith, MatchOption, IsTrue, cases_Bool, ints, Break, Rule, Spot, is_legal, is_live, is_less_list, legal_lists, is_walk, spot_of, Has, Sorted, Has-legal_lists, from_legal_lists, IsLess, Sorted-legal_lists, price_in, earned_from, IsBestFrom, IsBestList, IsMostEarned, Priced, rest_worth, same_or, IsValue, worth_of, IsBestBy}
use Rattle.break_layers.proofs.Following.{best_whole, none_legal}
use Rattle.pricing.proofs.Best.{best_more, not_less}

pub plain_best : (rule : Rule) (len : ℕ) (sums : List ℤ) (list : List Break) (value wide : ℤ) → wide ≡ value → IsBestList rule len sums (list, value) → IsBestBy rule len sums (list, wide)
plain_best rule len sums list value wide same best =
    let p : Priced = record { rule = rule; len = len; sums = sums } in
    let earned : List Break → ℤ = earned_from (price_in sums) rule len 0 in
    let more : wide ≡ pos 0 +ℤ value = omega (arith, same, ints) in
    best_more (λ l. is_legal rule len l ≡ true) earned (worth_of p []) value wide (pos 0) list
    (λ r h. let x = earned r in let k : x +ℤ pos 0 ≡ pos 0 +ℤ x = omega (arith, ints) in k) more best

-- of lists in their order, the least of those of some worth
least_with : (worth : List Break → ℤ) (value : ℤ) (lists : List (List Break)) → Sorted IsLess lists → (list : List Break) → Has lists list → worth list ≡ value
    → (least : List Break) × Has lists least × (worth least ≡ value) × ((other : List Break) → Has lists other → worth other ≡ value → is_less_list other least ≡ false)
least_with worth value [] s list m e = absurd m
least_with worth value (x ∷ xs) s list m e =
    elim (same_or (worth x) value) [
      | inl here ↦ (x, inl refl, here, λ other n g. elim n [ inl i ↦ subst (λ o. is_less_list o x ≡ false) i not_less_itself | inr k ↦ not_less x other (s.0 other k) ])
      | inr apart ↦ elim m [
        | inl i ↦ absurd (apart (ap worth i ∙ e))
        | inr k ↦
            let w = least_with worth value xs s.1 list k e in
            (w.0, inr w.1, w.2, λ other n g. elim n [ inl i ↦ absurd (apart (ap worth i ∙ g)) | inr j ↦ w.3 other j g ])
      ]
    ]
  where
    not_less_itself : is_less_list x x ≡ false
    not_less_itself = elim (cases_Bool (is_less_list x x)) [ inl t ↦ not_less x x t | inr f ↦ f ]

-- the most that the rests of no breaks earn is what the least of the best ones earns
pub value_of_most : (rule : Rule) (len : ℕ) (sums : List ℤ) (value : ℤ) → IsMostEarned rule len sums [] value → IsValue rule len sums [] value
value_of_most rule len sums value m =
    let w = least_with (rest_worth sums rule len []) value (legal_lists rule len) (Sorted-legal_lists rule len) m.reached.0 (Has-legal_lists rule len m.reached.0 m.reached.1) m.reached.2 in (
      w.0,
      record { allowed = from_legal_lists rule len w.0 w.1; is_worth = w.2; greatest = m.greatest; least = λ other legal g. w.3 other (Has-legal_lists rule len other legal) g },
    )

-- what is known at the opening spot, where no list is legal or the rests of no breaks earn something
pub most_at_opening : (p : Priced) (rule : Rule) (len : ℕ) (sums : List ℤ) (spot : Spot) (found : Option ℤ) → p ≡ record { rule = rule; len = len; sums = sums } → spot ≡ spot_of rule []
    → ((list : List Break) → IsTrue (is_walk p.rule p.len list) → spot ≡ spot_of p.rule list → MatchOption found (is_live p.rule p.len list ≡ false) (IsMostEarned p.rule p.len p.sums list))
    → MatchOption found ((list : List Break) → is_legal rule len list ≡ false) (IsMostEarned rule len sums [])
most_at_opening p rule len sums spot found made at known =
    by found
    (subst (λ (q : Priced). (list : List Break) → IsTrue (is_walk q.rule q.len list) → spot ≡ spot_of q.rule list → MatchOption found (is_live q.rule q.len list ≡ false) (IsMostEarned q.rule q.len q.sums list)) made known [] refl at)
  where
    by : (o : Option ℤ) → MatchOption o (is_live rule len [] ≡ false) (IsMostEarned rule len sums []) → MatchOption o ((list : List Break) → is_legal rule len list ≡ false) (IsMostEarned rule len sums [])
    by None dead = none_legal rule len dead
    by (Some v) most = most

-- the best rest of no breaks is the best list
pub best_of_value : (rule : Rule) (len : ℕ) (sums : List ℤ) (value : ℤ) (start list : List Break) → start ≡ [] → IsValue rule len sums [] value → IsBestFrom rule len sums start list → IsBestList rule len sums (list, value)
best_of_value rule len sums value start list none own from =
    best_whole rule len sums value start list none (record { reached = (own.0, own.1.allowed, own.1.is_worth); greatest = own.1.greatest }) from
