-- What the best rest of a list earns: nothing more where the list is legal, and else what the breaks reach that may come next.
use Rattle.break_layers.proofs.Common.{◌≡◌, ◌≢◌, inl, inr, ℕ, ◌+◌, ◌-◌, ◌*◌, ◌<◌, ◌≤◌, ℤ, ◌+ℤ◌, ◌-ℤ◌, ◌≤ℤ◌, true, false, List, [], ◌∷◌, ◌++◌, sym, ap, ◌∙◌, subst, arith, append-nil, FitsSigned, length, w64, unsigned_abs, ints, fits_signed_from_abs, false≢true, false_from_ne_true, cases_lt, mul-le-mul_right, get_or-append, get_or-append_seam, Break, Rule, Spot, is_legal, is_live, total_of, IsRule, end_of_all, is_walk, spot_of, live_rest, no_longer_list, walk_small, abs_sub, sum_at, AreSums, resumes, Completes, earned_end, spaced_rest, NOTHING, Layer, IsMost, rest_worth, number_in, IsValueOrNothing, AreLayersBefore, AreLayers, layer_number, layer_count, layer_of, layer_place, reach_worth, CompletesWith, IsReachOfAll}
use Rattle.break_layers.proofs.Reach.{above_nothing, not_above, same_or, some_worth, worth_size}
use Rattle.break_layers.proofs.Table.{earlier_layer, same_layer, walk_used}

module _ (rule : Rule) (len : ℕ) (sums : List ℤ) (list : List Break) (r : IsRule rule) (s : AreSums len sums) where
  abbrev from : ℕ
  from = resumes rule (end_of_all list)

  -- a sum of prices isn't the number that stands for nothing
  pub sum_some : (offset : ℕ) → sum_at sums offset ≢ NOTHING
  sum_some offset e = let size = s.size offset in let low = above_nothing (sum_at sums offset) (omega arith) in omega (arith, ints)

  -- a legal list has the empty rest alone
  pub value_legal : (z : ℤ) → is_legal rule len list ≡ true → (FitsSigned w64 (sum_at sums len -ℤ sum_at sums (resumes rule (end_of_all list))) → z ≡ sum_at sums len -ℤ sum_at sums (resumes rule (end_of_all list)))
      → IsValueOrNothing rule len sums list z
  value_legal z h is =
      let empty : Completes rule len list [] = ap (is_legal rule len) (append-nil list) ∙ h in
      let worth : rest_worth sums rule len list [] ≡ sum_at sums len -ℤ sum_at sums from = earned_end sums rule len from (spaced_rest rule len list [] r empty) in
      let both = abs_sub (sum_at sums len) (sum_at sums from) (10000000000 * 65536) (10000000000 * 65536) (s.size len) (s.size from) in
      let e : z ≡ sum_at sums len -ℤ sum_at sums from = is (fits_signed_from_abs w64 (sum_at sums len -ℤ sum_at sums from) (omega arith)) in
      let most : rest_worth sums rule len list [] ≤ℤ z = omega (arith, ints) in
      record {
        reached = inr ([], empty, worth ∙ sym e);
        greatest = λ rest k. (some_worth rule len sums list r s rest, subst (λ (l : List Break). rest_worth sums rule len list l ≤ℤ z) (sym (no_longer_list rule len list rest h k)) most);
      }

  first_of : is_legal rule len list ≡ false → (rest : List Break) → Completes rule len list rest → CompletesWith rule len list (λ b. Unit {0}) rest
  first_of unfinished [] h = false≢true (sym unfinished ∙ sym (ap (is_legal rule len) (append-nil list)) ∙ h)
  first_of unfinished (b ∷ rest) h = (tt, h)

  back_from : (rest : List Break) → CompletesWith rule len list (λ b. Unit {0}) rest → Completes rule len list rest
  back_from [] h = absurd h
  back_from (b ∷ rest) h = h.1

  -- another list goes on with some break
  pub value_open : (most z : ℤ) → is_legal rule len list ≡ false → IsReachOfAll rule len sums list most → (most ≡ NOTHING → z ≡ NOTHING)
      → (most ≢ NOTHING → FitsSigned w64 (most -ℤ sum_at sums (resumes rule (end_of_all list))) → z ≡ most -ℤ sum_at sums (resumes rule (end_of_all list))) → IsValueOrNothing rule len sums list z
  value_open most z unfinished m nothing difference = elim (same_or most NOTHING) [
    | inl none ↦ record {
      reached = inl (nothing none);
      greatest = λ rest h.
          let g = m.greatest rest (first_of unfinished rest h) in
          absurd (not_above (reach_worth sums rule len list rest) g.0 (subst (λ (v : ℤ). reach_worth sums rule len list rest ≤ℤ v) none g.1));
    }
    | inr some ↦ elim m.reached [
      | inl none ↦ absurd (some none)
      | inr f ↦
          let is : rest_worth sums rule len list f.0 +ℤ sum_at sums from ≡ most = f.2 in
          let back : rest_worth sums rule len list f.0 ≡ most -ℤ sum_at sums from = omega (arith, ints) in
          let small : unsigned_abs (most -ℤ sum_at sums from) ≤ 10000000000 * 65535 = subst (λ (v : ℤ). unsigned_abs v ≤ 10000000000 * 65535) back (worth_size rule len sums list r s f.0) in
          let e : z ≡ most -ℤ sum_at sums from = difference some (fits_signed_from_abs w64 (most -ℤ sum_at sums from) (omega arith)) in
          record {
            reached = inr (f.0, back_from f.0 f.1, back ∙ sym e);
            greatest = λ rest h.
                let g : (rest_worth sums rule len list rest +ℤ sum_at sums from) ≤ℤ most = (m.greatest rest (first_of unfinished rest h)).1 in
                (some_worth rule len sums list r s rest, (let l : rest_worth sums rule len list rest ≤ℤ z = omega (arith, ints) in l));
          }
    ]
  ]

  -- a value is what the best rest earns, and where there is none no legal list begins with the list
  pub value_some : (x : ℤ) → x ≢ NOTHING → IsValueOrNothing rule len sums list x → IsMost (Completes rule len list) (rest_worth sums rule len list) x
  value_some x some v = record {
    reached = elim v.reached [ inl none ↦ absurd (some none) | inr f ↦ f ];
    greatest = λ rest h. (v.greatest rest h).1;
  }

  pub value_none : IsValueOrNothing rule len sums list NOTHING → is_live rule len list ≡ false
  value_none v = false_from_ne_true (is_live rule len list) (λ live.
      let rest = live_rest rule len list live in
      let g = v.greatest rest.0 rest.1 in
      not_above (rest_worth sums rule len list rest.0) g.0 g.1)

same_spot : (offset used lunches : ℕ) (at : Spot) → at.offset ≡ offset → at.used ≡ used → at.lunches ≡ lunches → ◌≡◌ {A = Spot} (record { offset = offset; used = used; lunches = lunches }) at
same_spot offset used lunches at e f g =
    ap (λ n. record { offset = n; used = used; lunches = lunches }) (sym e)
    ∙ ap (λ n. record { offset = at.offset; used = n; lunches = lunches }) (sym f)
    ∙ ap (λ n. record { offset = at.offset; used = at.used; lunches = n }) (sym g)

-- one place more
pub layers_more : (rule : Rule) (len : ℕ) (sums table : List ℤ) (layer : Layer) (offset : ℕ) (x : ℤ) → IsRule rule → offset ≤ len → layer.used ≤ total_of rule len → layer.lunches ≤ 3
    → length table ≡ layer_number rule len layer * (len + 1) + offset → AreLayersBefore rule len sums (layer_number rule len layer * (len + 1) + offset) table
    → ((list : List Break) → is_walk rule len list ≡ true → ◌≡◌ {A = Spot} (record { offset = offset; used = layer.used; lunches = layer.lunches }) (spot_of rule list) → IsValueOrNothing rule len sums list x)
    → AreLayersBefore rule len sums (layer_number rule len layer * (len + 1) + (offset + 1)) (table ++ x ∷ [])
layers_more rule len sums table layer offset x r inside used lunches many known here list walk less =
    let place = layer_place rule len (spot_of rule list) in
    elim (cases_lt place (layer_number rule len layer * (len + 1) + offset)) [
      | inl l ↦ subst (IsValueOrNothing rule len sums list) (sym (get_or-append table (x ∷ []) NOTHING place (omega (arith, l, many)))) (known list walk l)
      | inr g ↦
          let small = walk_small rule len list r walk in
          let within = walk_used rule len list walk in
          let at = spot_of rule list in
          let same : place ≡ layer_number rule len layer * (len + 1) + offset = omega (arith, less, g) in
          let both = same_layer ((total_of rule len - at.used) * 4 + at.lunches) (layer_number rule len layer) at.offset offset len small.offset inside same in
          let one : at.used ≡ layer.used = omega (arith, both.0, within, small.lunches) in
          let two : at.lunches ≡ layer.lunches = omega (arith, both.0, within, small.lunches) in
          let spot = same_spot offset layer.used layer.lunches at both.1 one two in
          subst (IsValueOrNothing rule len sums list) (sym (ap (λ n. number_in (table ++ x ∷ []) n) (same ∙ sym many) ∙ get_or-append_seam table x [] NOTHING)) (here list walk spot)
    ]

same_as : (layer : Layer) (used lunches : ℕ) → layer.used ≡ used → layer.lunches ≡ lunches → ◌≡◌ {A = Layer} layer (record { used = used; lunches = lunches })
same_as layer used lunches e f = ap (λ n. record { used = n; lunches = layer.lunches }) e ∙ ap (λ n. record { used = used; lunches = n }) f

-- one layer more, in which no spot lies
pub dead_layer : (rule : Rule) (len : ℕ) (sums table new : List ℤ) (layer : Layer) → IsRule rule → layer.used ≤ total_of rule len → layer.lunches ≤ 3
    → ((k : ℕ) → k < layer_number rule len layer * (len + 1) → number_in new k ≡ number_in table k) → AreLayersBefore rule len sums (layer_number rule len layer * (len + 1)) table
    → ((list : List Break) → is_walk rule len list ≡ true → layer ≡ layer_of rule list → ⊥)
    → AreLayersBefore rule len sums ((layer_number rule len layer + 1) * (len + 1)) new
dead_layer rule len sums table new layer r used lunches kept known none list walk less =
    let place = layer_place rule len (spot_of rule list) in
    elim (cases_lt place (layer_number rule len layer * (len + 1))) [
      | inl l ↦ subst (IsValueOrNothing rule len sums list) (sym (kept place l)) (known list walk l)
      | inr g ↦
          let small = walk_small rule len list r walk in
          let within = walk_used rule len list walk in
          let at = spot_of rule list in
          let own = (total_of rule len - at.used) * 4 + at.lunches in
          let same : own ≡ layer_number rule len layer = elim (cases_lt own (layer_number rule len layer)) [
            | inl l ↦ let before = earlier_layer own (layer_number rule len layer) at.offset len l small.offset in absurd (omega (arith, before, g))
            | inr h ↦ elim (cases_lt (layer_number rule len layer) own) [
              | inl l ↦ let product : (layer_number rule len layer + 1) * (len + 1) ≤ own * (len + 1) = mul-le-mul_right (len + 1) (let e : layer_number rule len layer + 1 ≤ own = omega (arith, l) in e) in absurd (omega (arith, product, less))
              | inr k ↦ omega (arith, h, k)
            ]
          ] in
          let one : layer.used ≡ at.used = omega (arith, same, within, small.lunches) in
          let two : layer.lunches ≡ at.lunches = omega (arith, same, within, small.lunches) in
          absurd (none list walk (same_as layer at.used at.lunches one two))
    ]

-- a table of all layers knows each walk
pub layer_known : (rule : Rule) (len : ℕ) (sums : List ℤ) (list : List Break) → IsRule rule → (table : List ℤ) (spot : Spot) → AreLayers rule len sums table
    → is_walk rule len list ≡ true → spot ≡ spot_of rule list → IsValueOrNothing rule len sums list (number_in table (layer_place rule len spot))
layer_known rule len sums list r table spot layers walk is =
    let small = walk_small rule len list r walk in
    let within = walk_used rule len list walk in
    let at = spot_of rule list in
    let inside : layer_place rule len at < layer_count rule len * (len + 1) =
    earlier_layer ((total_of rule len - at.used) * 4 + at.lunches) (layer_count rule len) at.offset len (omega (arith, within, small.lunches)) small.offset in
    subst (λ (p : Spot). IsValueOrNothing rule len sums list (number_in table (layer_place rule len p))) (sym is) (layers list walk inside)

-- a list with which some legal list begins has a value at any prices
pub live_some : (rule : Rule) (len : ℕ) (sums : List ℤ) (list rest : List Break) (x : ℤ) → Completes rule len list rest → IsValueOrNothing rule len sums list x → x ≢ NOTHING
live_some rule len sums list rest x h v none =
    let g = v.greatest rest h in
    not_above (rest_worth sums rule len list rest) g.0 (subst (λ (z : ℤ). rest_worth sums rule len list rest ≤ℤ z) none g.1)
