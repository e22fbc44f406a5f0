-- The first break that reaches as much as a best rest begins the least of the best rests.
use Rattle.break_layers.proofs.Common.{◌≡◌, inl, inr, ℕ, ◌*◌, ◌≤◌, ℤ, ◌+ℤ◌, ◌-ℤ◌, ◌≤ℤ◌, true, false, ◌&&◌, List, [], ◌∷◌, ◌++◌, refl, sym, ap, ◌∙◌, subst, arith, append-nil, FitsSigned, w64, unsigned_abs, ints, fits_signed_from_abs, and_parts, or_cases, or_left, false≢true, false_from_ne_true, cases_Bool, Break, Rule, is_legal, is_live, is_less_break, is_less_list, same_break, IsRule, end_of_all, nexts_of, spot_of, Has, Sorted, Has-append_cases, live_from, no_longer_list, rest_first, has_middle, abs_add, sum_at, AreSums, resumes, Completes, earned_end, spaced_rest, NOTHING, IsMostEarned, IsBestRest, IsBestTail, IsBestFrom, IsBestList, LeadsOn, rest_worth, IsReachBy, CompletesWith, reach_worth}
use Rattle.break_rules.proofs.Ordered.{Sorted-filter, Sorted-breaks, IsLessBreak, less_apart}
use Rattle.break_layers.proofs.Reach.{longer, not_above, reach_more, some_reach, worth_size}

-- each of some breaks reaches some other number
abbrev pub ReachOthers : Rule → ℕ → List ℤ → List Break → ℤ → List Break → Type 0
ReachOthers rule len sums list whole breaks = (b : Break) → Has breaks b → (x : ℤ) × IsReachBy rule len sums list b x × (x ≡ whole → ⊥)

-- one break more
pub others_more : (rule : Rule) (len : ℕ) (sums : List ℤ) (list : List Break) (whole : ℤ) (breaks : List Break) (b : Break) (x : ℤ) → ReachOthers rule len sums list whole breaks
    → IsReachBy rule len sums list b x → (x ≡ whole → ⊥) → ReachOthers rule len sums list whole (breaks ++ b ∷ [])
others_more rule len sums list whole breaks b x before here other c m =
    elim (Has-append_cases breaks (b ∷ []) c m) [
      | inl p ↦ before c p
      | inr q ↦ elim q [ inl e ↦ subst (λ (y : Break). (z : ℤ) × IsReachBy rule len sums list y z × (z ≡ whole → ⊥)) e (x, here, other) | inr none ↦ absurd none ]
    ]

-- where a list is less than another, the other isn't less than it
not_less : (xs ys : List Break) → is_less_list xs ys ≡ true → is_less_list ys xs ≡ false
not_less xs ys h = elim (cases_Bool (is_less_list ys xs)) [ inl t ↦ absurd (less_apart xs ys h t) | inr f ↦ f ]

-- behind one break the order is that of the rests
less_rests : (b : Break) (xs ys : List Break) → is_less_list xs ys ≡ false → is_less_list (b ∷ xs) (b ∷ ys) ≡ false
less_rests b xs ys h =
    elim (cases_Bool (is_less_list (b ∷ xs) (b ∷ ys))) [
      | inl t ↦ elim (or_cases (is_less_break b b) (same_break b b && is_less_list xs ys) t) [
        | inl l ↦ absurd (less_apart (b ∷ []) (b ∷ []) (or_left (is_less_break b b) _ l) (or_left (is_less_break b b) _ l))
        | inr p ↦ absurd (false≢true (sym h ∙ (and_parts (same_break b b) (is_less_list xs ys) p).1))
      ]
      | inr f ↦ f
    ]

-- the breaks behind one in rising order are greater
less_behind_it : (xs : List Break) (b : Break) (ys : List Break) → Sorted IsLessBreak (xs ++ b ∷ ys) → (y : Break) → Has ys y → is_less_break b y ≡ true
less_behind_it [] b ys s y m = s.0 y m
less_behind_it (z ∷ zs) b ys s y m = less_behind_it zs b ys s.1 y m

module _ (rule : Rule) (len : ℕ) (sums : List ℤ) (list : List Break) (r : IsRule rule) (s : AreSums len sums) (value whole : ℤ)
    (m : IsMostEarned rule len sums list value) (is : whole ≡ value +ℤ sum_at sums (resumes rule (end_of_all list))) where
  -- no rest reaches more than the whole
  below_whole : (rest : List Break) → Completes rule len list rest → reach_worth sums rule len list rest ≤ℤ whole
  below_whole rest h = let g : rest_worth sums rule len list rest ≤ℤ value = m.greatest rest h in omega (arith, ints)

  -- a break with which a rest reaches the whole reaches it
  reaches_whole : (b : Break) (rest : List Break) (x : ℤ) → Completes rule len list (b ∷ rest) → rest_worth sums rule len list (b ∷ rest) ≡ value → IsReachBy rule len sums list b x → x ≡ whole
  reaches_whole b rest x h worth by =
      let g = by.greatest (b ∷ rest) (refl, h) in
      let up : reach_worth sums rule len list (b ∷ rest) ≤ℤ x = g.1 in
      let here : reach_worth sums rule len list (b ∷ rest) ≡ whole = omega (arith, ints) in
      elim by.reached [
        | inl none ↦ absurd (not_above (reach_worth sums rule len list (b ∷ rest)) g.0 (subst (λ (z : ℤ). reach_worth sums rule len list (b ∷ rest) ≤ℤ z) none up))
        | inr f ↦ at f.0 f.1 f.2 here up
      ]
    where
      at : (other : List Break) → CompletesWith rule len list (λ c. c ≡ b) other → reach_worth sums rule len list other ≡ x → reach_worth sums rule len list (b ∷ rest) ≡ whole
          → reach_worth sums rule len list (b ∷ rest) ≤ℤ x → x ≡ whole
      at [] h e here up = absurd h
      at (c ∷ cs) h e here up =
          let low : reach_worth sums rule len list (c ∷ cs) ≤ℤ whole = below_whole (c ∷ cs) h.1 in
          omega (arith, ints)

  -- where no next break reaches the whole the list is legal
  pub legal_without : ReachOthers rule len sums list whole (nexts_of rule len (spot_of rule list)) → is_legal rule len list ≡ true
  legal_without others = by m.reached.0 m.reached.1 m.reached.2
    where
      by : (rest : List Break) → Completes rule len list rest → rest_worth sums rule len list rest ≡ value → is_legal rule len list ≡ true
      by [] h e = sym (ap (is_legal rule len) (append-nil list)) ∙ h
      by (b ∷ rest) h e =
          let o = others b (rest_first rule len list b rest h).1 in
          absurd (o.2 (reaches_whole b rest o.0 h e o.1))

  -- the first break that reaches the whole leads on
  pub first_leads : (before : List Break) (b : Break) (after : List Break) (x : ℤ) → nexts_of rule len (spot_of rule list) ≡ before ++ b ∷ after → ReachOthers rule len sums list whole before
      → IsReachBy rule len sums list b x → x ≡ whole → LeadsOn rule len sums list b
  first_leads before b after x split others by e = record {
    follows = subst (λ bs. Has bs b) (sym split) (has_middle before after b);
    live = live;
    best = λ tail t. (value, best tail t.0 t.1);
  }
    where
      -- some rest that begins with the break reaches the whole
      some : (rest : List Break) × Completes rule len list (b ∷ rest) × (reach_worth sums rule len list (b ∷ rest) ≡ whole)
      some = elim by.reached [
        | inl none ↦ absurd (above (sym e ∙ none))
        | inr f ↦ at f.0 f.1 (f.2 ∙ e)
      ]
        where
          above : whole ≡ NOTHING → ⊥
          above none =
              let g = some_reach rule len sums list r s m.reached.0 in
              let up = below_whole m.reached.0 m.reached.1 in
              not_above (reach_worth sums rule len list m.reached.0) g (subst (λ (z : ℤ). reach_worth sums rule len list m.reached.0 ≤ℤ z) none up)

          at : (other : List Break) → CompletesWith rule len list (λ c. c ≡ b) other → reach_worth sums rule len list other ≡ whole
              → (rest : List Break) × Completes rule len list (b ∷ rest) × (reach_worth sums rule len list (b ∷ rest) ≡ whole)
          at [] h e = absurd h
          at (c ∷ cs) h e = (
            cs,
            subst (λ (y : Break). Completes rule len list (y ∷ cs)) h.0 h.1,
            subst (λ (y : Break). reach_worth sums rule len list (y ∷ cs) ≡ whole) h.0 e,
          )

      live : is_live rule len (list ++ b ∷ []) ≡ true
      live = live_from rule len (list ++ b ∷ []) some.0 (longer rule len list b some.0 ∙ some.1)

      best : (tail : List Break) (w : ℤ) → IsBestRest (Completes rule len (list ++ b ∷ [])) (rest_worth sums rule len (list ++ b ∷ [])) w tail
          → IsBestRest (Completes rule len list) (rest_worth sums rule len list) value (b ∷ tail)
      best tail w t =
          let allowed : Completes rule len list (b ∷ tail) = sym (longer rule len list b tail) ∙ t.allowed in
          let own : reach_worth sums rule len list (b ∷ tail) ≡ rest_worth sums rule len (list ++ b ∷ []) tail +ℤ sum_at sums b.start = reach_more rule len sums list r s b tail allowed in
          let other : reach_worth sums rule len list (b ∷ some.0) ≡ rest_worth sums rule len (list ++ b ∷ []) some.0 +ℤ sum_at sums b.start = reach_more rule len sums list r s b some.0 some.1 in
          let full : reach_worth sums rule len list (b ∷ some.0) ≡ whole = some.2 in
          let worth : rest_worth sums rule len (list ++ b ∷ []) tail ≡ w = t.is_worth in
          let most : rest_worth sums rule len (list ++ b ∷ []) some.0 ≤ℤ w = t.greatest some.0 (longer rule len list b some.0 ∙ some.1) in
          let up : reach_worth sums rule len list (b ∷ tail) ≤ℤ whole = below_whole (b ∷ tail) allowed in
          let exact : reach_worth sums rule len list (b ∷ tail) ≡ whole = omega (arith, ints) in
          record {
            allowed = allowed;
            is_worth = (let v : rest_worth sums rule len list (b ∷ tail) ≡ value = omega (arith, ints) in v);
            greatest = m.greatest;
            least = least;
          }
        where
          least : (other : List Break) → Completes rule len list other → rest_worth sums rule len list other ≡ value → is_less_list other (b ∷ tail) ≡ false
          least [] h v =
              let legal : is_legal rule len list ≡ true = sym (ap (is_legal rule len) (append-nil list)) ∙ h in
              let none : b ∷ tail ≡ [] = no_longer_list rule len list (b ∷ tail) legal (sym (longer rule len list b tail) ∙ t.allowed) in
              cc
          least (c ∷ cs) h v =
              let nexts = nexts_of rule len (spot_of rule list) in
              let has : Has (before ++ b ∷ after) c = subst (λ bs. Has bs c) split (rest_first rule len list c cs h).1 in
              let rising : Sorted IsLessBreak (before ++ b ∷ after) = subst (Sorted IsLessBreak) split (Sorted-filter IsLessBreak _ _ (Sorted-breaks (spot_of rule list).offset len)) in
              elim (Has-append_cases before (b ∷ after) c has) [
                | inl p ↦ let o = others c p in absurd (o.2 (reaches_whole c cs o.0 h v o.1))
                | inr q ↦ elim q [
                  | inl same ↦
                      let h' : Completes rule len list (b ∷ cs) = subst (λ (y : Break). Completes rule len list (y ∷ cs)) (sym same) h in
                      let v' : rest_worth sums rule len list (b ∷ cs) ≡ value = subst (λ (y : Break). rest_worth sums rule len list (y ∷ cs) ≡ value) (sym same) v in
                      subst (λ (y : Break). is_less_list (y ∷ cs) (b ∷ tail) ≡ false) same (less_rests b cs tail (behind cs h' v'))
                  | inr later ↦
                      let l : is_less_break b c ≡ true = less_behind_it before b after rising c later in
                      not_less (b ∷ tail) (c ∷ cs) (or_left (is_less_break b c) (same_break b c && is_less_list tail cs) l)
                ]
              ]
            where
              behind : (cs : List Break) → Completes rule len list (b ∷ cs) → rest_worth sums rule len list (b ∷ cs) ≡ value → is_less_list cs tail ≡ false
              behind cs h v =
                  let allowed : Completes rule len list (b ∷ tail) = sym (longer rule len list b tail) ∙ t.allowed in
                  let own : reach_worth sums rule len list (b ∷ tail) ≡ rest_worth sums rule len (list ++ b ∷ []) tail +ℤ sum_at sums b.start = reach_more rule len sums list r s b tail allowed in
                  let mine : reach_worth sums rule len list (b ∷ cs) ≡ rest_worth sums rule len (list ++ b ∷ []) cs +ℤ sum_at sums b.start = reach_more rule len sums list r s b cs h in
                  let worth : rest_worth sums rule len (list ++ b ∷ []) tail ≡ w = t.is_worth in
                  let most : rest_worth sums rule len (list ++ b ∷ []) cs ≤ℤ w = t.greatest cs (longer rule len list b cs ∙ h) in
                  let up : reach_worth sums rule len list (b ∷ tail) ≤ℤ whole = below_whole (b ∷ tail) allowed in
                  t.least cs (longer rule len list b cs ∙ h) (let e : rest_worth sums rule len (list ++ b ∷ []) cs ≡ w = omega (arith, ints) in e)

-- what a rest earns and the prices before it fit
pub earned_fits : (rule : Rule) (len : ℕ) (sums : List ℤ) (list : List Break) → IsRule rule → AreSums len sums → (x : ℤ) → IsMostEarned rule len sums list x
    → FitsSigned w64 (x +ℤ sum_at sums (resumes rule (end_of_all list)))
earned_fits rule len sums list r s x m =
    let from = resumes rule (end_of_all list) in
    let size : unsigned_abs x ≤ 10000000000 * 65535 = subst (λ (z : ℤ). unsigned_abs z ≤ 10000000000 * 65535) m.reached.2 (worth_size rule len sums list r s m.reached.0) in
    let both = abs_add x (sum_at sums from) (10000000000 * 65535) (10000000000 * 65536) size (s.size from) in
    fits_signed_from_abs w64 (x +ℤ sum_at sums from) (omega arith)

pub earned_small : (rule : Rule) (len : ℕ) (sums : List ℤ) (list : List Break) → IsRule rule → AreSums len sums → (x : ℤ) → IsMostEarned rule len sums list x → FitsSigned w64 x
earned_small rule len sums list r s x m =
    let size : unsigned_abs x ≤ 10000000000 * 65535 = subst (λ (z : ℤ). unsigned_abs z ≤ 10000000000 * 65535) m.reached.2 (worth_size rule len sums list r s m.reached.0) in
    fits_signed_from_abs w64 x (omega arith)

-- a legal list has the empty rest alone
pub best_at_end : (rule : Rule) (len : ℕ) (sums : List ℤ) (list : List Break) → IsRule rule → is_legal rule len list ≡ true → IsBestTail rule len sums list []
best_at_end rule len sums list r h =
    let from = resumes rule (end_of_all list) in
    let empty : Completes rule len list [] = ap (is_legal rule len) (append-nil list) ∙ h in
    let worth : rest_worth sums rule len list [] ≡ sum_at sums len -ℤ sum_at sums from = earned_end sums rule len from (spaced_rest rule len list [] r empty) in
    let only : (other : List Break) → Completes rule len list other → other ≡ [] = λ other k. no_longer_list rule len list other h k in (
      sum_at sums len -ℤ sum_at sums from,
      record {
        allowed = empty;
        is_worth = worth;
        greatest = λ other k. subst (λ (l : List Break). rest_worth sums rule len list l ≤ℤ (sum_at sums len -ℤ sum_at sums from)) (sym (only other k)) (let w : rest_worth sums rule len list [] ≤ℤ (sum_at sums len -ℤ sum_at sums from) = omega (arith, ints) in w);
        least = λ other k g. subst (λ (l : List Break). is_less_list l [] ≡ false) (sym (only other k)) refl;
      },
    )

-- some legal list begins with a list whose rests earn something
pub most_live : (rule : Rule) (len : ℕ) (sums : List ℤ) (list : List Break) (x : ℤ) → IsMostEarned rule len sums list x → is_live rule len list ≡ true
most_live rule len sums list x m = live_from rule len list m.reached.0 m.reached.1

-- the best rest of the empty list is the best list
pub best_whole : (rule : Rule) (len : ℕ) (sums : List ℤ) (value : ℤ) (start list : List Break) → start ≡ [] → IsMostEarned rule len sums [] value → IsBestFrom rule len sums start list → IsBestList rule len sums (list, value)
best_whole rule len sums value start list none m from =
    let own : IsBestFrom rule len sums [] list = subst (λ (l : List Break). IsBestFrom rule len sums l list) none from in
    let rest = own.0 in
    let v : ℤ = own.2.0 in
    let best : IsBestRest (Completes rule len []) (rest_worth sums rule len []) v rest = own.2.1 in
    let up : v ≤ℤ value = subst (λ (z : ℤ). z ≤ℤ value) best.is_worth (m.greatest rest best.allowed) in
    let down : value ≤ℤ v = subst (λ (z : ℤ). z ≤ℤ v) m.reached.2 (best.greatest m.reached.0 m.reached.1) in
    let equal : v ≡ value = omega (arith, ints) in
    subst (λ (l : List Break). IsBestList rule len sums (l, value)) (sym own.1)
    (subst (λ (z : ℤ). IsBestRest (Completes rule len []) (rest_worth sums rule len []) z rest) equal best)

-- where no legal list begins with none, none is legal
pub none_legal : (rule : Rule) (len : ℕ) → is_live rule len [] ≡ false → (list : List Break) → is_legal rule len list ≡ false
none_legal rule len dead list = false_from_ne_true (is_legal rule len list) (λ h. false≢true (sym dead ∙ live_from rule len [] list h))
