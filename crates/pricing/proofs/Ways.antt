-- The best of the ways on behind some breaks, by what their best rests reach.
use Rattle.pricing.proofs.Common.{◌≡◌, inl, inr, ℕ, zero, suc, ◌*◌, ◌<◌, ◌≤◌, ℤ, pos, ◌+ℤ◌, ◌-ℤ◌, ◌≤ℤ◌, Bool, true, false, cond, ◌&&◌, List, [], ◌∷◌, ◌++◌, map, take, drop, length, get_or, refl, sym, ap, ◌∙◌, subst, arith, append_assoc, append-nil, int_lt, Option, Some, None, MatchOption, unwrap_or, w64, unsigned_abs, ints, fits_signed_from_abs, cases_Bool, false≢true, false_from_ne_true, or_left, or_from, and_left, Break, is_legal, is_live, is_less_break, is_less_list, same_break, same_list, begins_with, bonus_of, share_of, IsRule, end_of_all, nexts_of, spot_of, Has, Sorted, Has-map, Has-append_cases, Has-append_left, Has-append_right, Has-filter, any_at, any_none, any_some, same_tests, begins_from, begins_rest, same_break_decides, same_list_decides, IsLessBreak, less_apart, rest_first, int_sum_by-same, abs_add, AreSums, sum_at, price_in, resumes, earned_from, Completes, IsBestFrom, IsBestRest, IsMostEarned, Priced, rest_worth, live_stops, worth_size, Found, IsLegal, Covers, CoversFrom, AreBestAround, leads_further, AreBeginnings, AreEnoughAround, IsBestStop, Reaches, better_way, is_named}
use Rattle.std.specs.Prelude.{FitsSigned}
use Rattle.pricing.specs.Keeping.{IsBestBy}
use Rattle.pricing.proofs.Best.{less_rests}
use Rattle.pricing.proofs.ByEdges.{worth_more}
use Rattle.pricing.proofs.Covered.{covers_on}
use Rattle.pricing.proofs.Leaving.{front_worth, split_two}
use Rattle.pricing.proofs.Lesser.{less_behind}
use Rattle.pricing.proofs.Most.{has_at}
use Rattle.pricing.proofs.Onward.{covers_around}

-- the best lists in each way are enough
pub enough_of_all : (p : Priced) (named : List (List Break)) (front : List Break) (lists : List (List Break)) → AreBestAround p front lists → AreEnoughAround p named front lists
enough_of_all p named front lists h = record { legal = h.legal; covers = λ entries best are covers. covers_around p front entries best lists h covers }

-- a break leads to a prefix exactly where it leads to a named list
module _ (entries : List (List Break × ℤ)) (named : List (List Break)) (are : AreBeginnings entries named) where
  named_leads : (list : List Break) → is_named named list ≡ true → leads_further entries list ≡ true
  named_leads list t =
      let x = any_some (same_list list) named t in
      let same : list ≡ x.0 = (same_list_decides list x.0).0 x.2 in
      let e = are.each x.0 x.1 in
      subst (λ (l : List Break). leads_further entries l ≡ true) (sym same) e.3

  pub leads_named : (front : List Break) (b : Break) → is_named named (front ++ b ∷ []) ≡ false → leads_further entries (front ++ b ∷ []) ≡ false
  leads_named front b f = by (front ++ b ∷ []) (shape front b) f
    where
      shape : (front : List Break) (b : Break) → (x : Break) × (xs : List Break) × (front ++ b ∷ [] ≡ x ∷ xs)
      shape [] b = (b, [], refl)
      shape (y ∷ ys) b = (y, ys ++ b ∷ [], refl)

      by : (l : List Break) → (x : Break) × (xs : List Break) × (l ≡ x ∷ xs) → is_named named l ≡ false → leads_further entries l ≡ false
      by l s f =
          false_from_ne_true (leads_further entries l) (λ t.
          let has : Has named l = subst (Has named) (sym s.2) (are.all s.0 s.1 (subst (λ (l : List Break). leads_further entries l ≡ true) s.2 t)) in
          false≢true (sym f ∙ any_at (same_list l) named l has ((same_list_decides l l).1 refl)))

  pub apart_named : (list : List Break) → leads_further entries list ≡ false → is_named named list ≡ false
  apart_named list f = false_from_ne_true (is_named named list) (λ t. false≢true (sym f ∙ named_leads list t))

-- where a list leaves all prefixes directly behind some breaks it gets their bonus
pub bonus_leaving : (entries : List (List Break × ℤ)) (front : List Break) (b : Break) (bs : List Break) → leads_further entries (front ++ b ∷ []) ≡ false → bonus_of entries (front ++ b ∷ bs) ≡ bonus_of entries front
bonus_leaving entries front b bs none =
    int_sum_by-same (share_of (front ++ b ∷ bs)) (share_of front) entries (λ e m.
    let out : begins_with e.0 (front ++ b ∷ []) ≡ false = any_none (λ (e : List Break × ℤ). begins_with e.0 (front ++ b ∷ [])) entries e none m in
    ap (λ t. cond t e.1 (pos 0)) (same_tests (begins_with (front ++ b ∷ bs) e.0) (begins_with front e.0) (back e.0 out) (on e.0)))
  where
    on : (prefix : List Break) → begins_with front prefix ≡ true → begins_with (front ++ b ∷ bs) prefix ≡ true
    on prefix t =
        let rest = drop (length prefix) front in
        begins_from (front ++ b ∷ bs) prefix (rest ++ b ∷ bs) (ap (λ (l : List Break). l ++ b ∷ bs) (begins_rest front prefix t) ∙ append_assoc prefix rest (b ∷ bs))

    further : (prefix r s : List Break) → front ++ b ∷ bs ≡ prefix ++ r → prefix ≡ front ++ s → begins_with prefix (front ++ b ∷ []) ≡ false → begins_with front prefix ≡ true
    further prefix r [] e is out = begins_from front prefix [] (sym (append-nil front) ∙ sym is ∙ sym (append-nil prefix))
    further prefix r (c ∷ cs) e is out =
        let heads : b ∷ bs ≡ (c ∷ cs) ++ r = tails front (b ∷ bs) ((c ∷ cs) ++ r) (e ∙ ap (λ (l : List Break). l ++ r) is ∙ append_assoc front (c ∷ cs) r) in
        let same : b ≡ c = cc in
        absurd (false≢true (sym out ∙ begins_from prefix (front ++ b ∷ []) cs (is ∙ ap (λ (x : Break). front ++ x ∷ cs) (sym same) ∙ sym (append_assoc front (b ∷ []) cs))))
      where
        tails : (xs ys zs : List Break) → xs ++ ys ≡ xs ++ zs → ys ≡ zs
        tails [] ys zs e = e
        tails (x ∷ xs) ys zs e = tails xs ys zs (cc)

    back : (prefix : List Break) → begins_with prefix (front ++ b ∷ []) ≡ false → begins_with (front ++ b ∷ bs) prefix ≡ true → begins_with front prefix ≡ true
    back prefix out t =
        let r = drop (length prefix) (front ++ b ∷ bs) in
        let e : front ++ b ∷ bs ≡ prefix ++ r = begins_rest (front ++ b ∷ bs) prefix t in
        elim (split_two front (b ∷ bs) prefix r e) [
          | inl s ↦ begins_from front prefix s.0 s.1
          | inr s ↦ further prefix r s.0 e s.1 out
        ]

-- the order of breaks is no order both ways
less_break_apart : (a b : Break) → is_less_break a b ≡ true → is_less_break b a ≡ true → ⊥
less_break_apart a b h g = less_apart (a ∷ []) (b ∷ []) (or_left (is_less_break a b) _ h) (or_left (is_less_break b a) _ g)

-- of some elements in rising order those before a place are less than the one there
pub sorted_before : {W : Type 0} (f : W → Break) (ws : List W) (i : ℕ) (d : W) → Sorted IsLessBreak (map f ws) → i < length ws → (x : Break) → Has (map f (take i ws)) x → is_less_break x (f (get_or ws i d)) ≡ true
sorted_before f [] i d s l x m = absurd (omega arith)
sorted_before f (w ∷ ws) zero d s l x m = absurd m
sorted_before f (w ∷ ws) (suc i) d s l x m =
    elim m [
      | inl e ↦ subst (λ (y : Break). is_less_break y (f (get_or ws i d)) ≡ true) e (s.0 (f (get_or ws i d)) (Has-map f ws (get_or ws i d) (has_at ws i d (omega arith))))
      | inr t ↦ sorted_before f ws i d s.1 (omega arith) x t
    ]

module _ {W : Type 0} (stop : W → Break) (Fits : W → Type 0) (p : Priced) (named : List (List Break)) (front : List Break) where
  -- a way to a named list changes nothing
  pub way_named : (stops : List Break) (b : Break) (best : Option (W × ℤ)) → is_named named (front ++ b ∷ []) ≡ true → IsBestBy stop Fits p named front stops best → IsBestBy stop Fits p named front (stops ++ b ∷ []) best
  way_named stops b None t h = λ c m. elim (Has-append_cases stops (b ∷ []) c m) [
    | inl a ↦ h c a
    | inr e ↦ elim e [ inl s ↦ subst (λ (x : Break). is_named named (front ++ x ∷ []) ≡ true) s t | inr none ↦ absurd none ]
  ]
  way_named stops b (Some best) t h = (
    record {
      among = Has-append_left stops (b ∷ []) (stop best.0) h.0.among;
      leaves = h.0.leaves;
      reaches = h.0.reaches;
      greatest = λ c m f. elim (Has-append_cases stops (b ∷ []) c m) [
        | inl a ↦ h.0.greatest c a f
        | inr e ↦ elim e [ inl s ↦ absurd (false≢true (sym f ∙ subst (λ (x : Break). is_named named (front ++ x ∷ []) ≡ true) s t)) | inr none ↦ absurd none ]
      ];
    },
    h.1,
  )

  not_itself : (b : Break) → is_less_break b b ≡ false
  not_itself b = false_from_ne_true (is_less_break b b) (λ t. less_break_apart b b t t)

  -- the better of what was found so far and a later way
  pub way_more : (stops : List Break) (w : W) (reach : ℤ) (best : Option (W × ℤ)) → is_named named (front ++ stop w ∷ []) ≡ false → ((x : Break) → Has stops x → is_less_break x (stop w) ≡ true)
      → Reaches p front (stop w) reach → Fits w → IsBestBy stop Fits p named front stops best → IsBestBy stop Fits p named front (stops ++ stop w ∷ []) (better_way best w reach)
  way_more stops w reach None f rising own spot h = (
    record {
      among = Has-append_right stops (stop w ∷ []) (stop w) (inl refl);
      leaves = f;
      reaches = own;
      greatest = λ c m g. elim (Has-append_cases stops (stop w ∷ []) c m) [
        | inl a ↦ absurd (false≢true (sym g ∙ h c a))
        | inr e ↦ elim e [
          | inl s ↦ subst (λ (x : Break). (other : ℤ) × Reaches p front x other × (other ≤ℤ reach) × (other ≡ reach → is_less_break x (stop w) ≡ false)) s (reach, own, omega (arith, ints), λ e. not_itself (stop w))
          | inr none ↦ absurd none
        ]
      ];
    },
    spot,
  )
  way_more stops w reach (Some best) f rising own spot h = by (int_lt best.1 reach) refl
    where
      P : Option (W × ℤ) → Type 0
      P o = IsBestBy stop Fits p named front (stops ++ stop w ∷ []) o

      by : (t : Bool) → int_lt best.1 reach ≡ t → P (cond t (Some (w, reach)) (Some best))
      by true less = (
        record {
          among = Has-append_right stops (stop w ∷ []) (stop w) (inl refl);
          leaves = f;
          reaches = own;
          greatest = λ c m g. elim (Has-append_cases stops (stop w ∷ []) c m) [
            | inl a ↦
                let o = h.0.greatest c a g in
                let low : o.0 ≤ℤ best.1 = o.2 in
                let more : (best.1 +ℤ pos 1) ≤ℤ reach = above best.1 reach less in
                (o.0, o.1, omega (arith, ints), λ e. absurd (let same : o.0 ≡ reach = e in omega (arith, ints)))
            | inr e ↦ elim e [
              | inl s ↦ subst (λ (x : Break). (other : ℤ) × Reaches p front x other × (other ≤ℤ reach) × (other ≡ reach → is_less_break x (stop w) ≡ false)) s (reach, own, omega (arith, ints), λ e. not_itself (stop w))
              | inr none ↦ absurd none
            ]
          ];
        },
        spot,
      )
        where
          above : (x y : ℤ) → int_lt x y ≡ true → (x +ℤ pos 1) ≤ℤ y
          above x y h = grind (arith, ints)
      by false more = (
        record {
          among = Has-append_left stops (stop w ∷ []) (stop best.0) h.0.among;
          leaves = h.0.leaves;
          reaches = h.0.reaches;
          greatest = λ c m g. elim (Has-append_cases stops (stop w ∷ []) c m) [
            | inl a ↦ h.0.greatest c a g
            | inr e ↦ elim e [
              | inl s ↦ subst (λ (x : Break). (other : ℤ) × Reaches p front x other × (other ≤ℤ best.1) × (other ≡ best.1 → is_less_break x (stop best.0) ≡ false)) s
                  (reach, own, below best.1 reach more, λ e. false_from_ne_true (is_less_break (stop w) (stop best.0)) (λ t. less_break_apart (stop w) (stop best.0) t (rising (stop best.0) h.0.among)))
              | inr none ↦ absurd none
            ]
          ];
        },
        h.1,
      )
        where
          below : (x y : ℤ) → int_lt x y ≡ false → y ≤ℤ x
          below x y h = grind (arith, ints)

module _ (p : Priced) (named : List (List Break)) (front : List Break) where
  module _ (stops : List Break) (unfinished : is_legal p.rule p.len front ≡ false) (all : stops ≡ live_stops p.rule p.len front) where
    some_stop : (b : Break) (bs : List Break) → IsLegal p (front ++ b ∷ bs) → Has stops b
    some_stop b bs legal =
        let first = rest_first p.rule p.len front b bs legal in
        subst (λ l. Has l b) (sym all) (Has-filter (λ c. is_live p.rule p.len (front ++ c ∷ [])) (nexts_of p.rule p.len (spot_of p.rule front)) b first.1 first.0)

    not_whole : IsLegal p (front ++ []) → ⊥
    not_whole legal = false≢true (sym unfinished ∙ ap (is_legal p.rule p.len) (sym (append-nil front)) ∙ legal)

    -- where each way leads to a named list none is enough
    pub enough_none : (lists : List (List Break)) → lists ≡ [] → ((b : Break) → Has stops b → is_named named (front ++ b ∷ []) ≡ true) → AreEnoughAround p named front lists
    enough_none lists none h =
        subst (AreEnoughAround p named front) (sym none)
        (record { legal = λ list m. absurd m; covers = by })
      where
        by : (entries : List (List Break × ℤ)) (best : Option Found) → AreBeginnings entries named → ((list : List Break) → Has [] list → Covers p entries best list) → CoversFrom p entries best front
        by entries best are covers [] legal leaving = absurd (not_whole legal)
        by entries best are covers (b ∷ bs) legal leaving = absurd (false≢true (sym (apart_named entries named are (front ++ b ∷ []) leaving) ∙ h b (some_stop b bs legal)))

    module _ (c : Break) (reach : ℤ) (t : List Break) (tv : ℤ) (r : IsRule p.rule) (h : IsBestStop p named front stops c reach)
        (tail : IsBestRest (Completes p.rule p.len (front ++ c ∷ [])) (rest_worth p.sums p.rule p.len (front ++ c ∷ [])) tv t) where
      legal_tail : IsLegal p (front ++ c ∷ t)
      legal_tail = sym (ap (is_legal p.rule p.len) (append_assoc front (c ∷ []) t)) ∙ tail.allowed

      -- the best rest behind the best way reaches what is known of it
      tail_value : reach ≡ sum_at p.sums c.start +ℤ tv
      tail_value =
          let v : ℤ = h.reaches.0 in
          let most = h.reaches.1 in
          let up : tv ≤ℤ v = subst (λ (z : ℤ). z ≤ℤ v) tail.is_worth (most.greatest t tail.allowed) in
          let down : v ≤ℤ tv = subst (λ (z : ℤ). z ≤ℤ tv) most.reached.2 (tail.greatest most.reached.0 most.reached.1) in
          let is : reach ≡ sum_at p.sums c.start +ℤ v = h.reaches.2 in
          omega (arith, ints)

      module _ (entries : List (List Break × ℤ)) (best : Option Found) (are : AreBeginnings entries named) (covers : Covers p entries best (front ++ c ∷ t)) where
        onward_covers : (b : Break) (bs : List Break) → IsLegal p (front ++ b ∷ bs) → leads_further entries (front ++ b ∷ []) ≡ false → Covers p entries best (front ++ b ∷ bs)
        onward_covers b bs legal leaving =
            let k = front_worth p.rule p.len p.sums [] front r in
            let one : earned_from (price_in p.sums) p.rule p.len 0 (front ++ b ∷ bs) ≡ k.0 +ℤ rest_worth p.sums p.rule p.len front (b ∷ bs) = k.1 (b ∷ bs) legal in
            let two : earned_from (price_in p.sums) p.rule p.len 0 (front ++ c ∷ t) ≡ k.0 +ℤ rest_worth p.sums p.rule p.len front (c ∷ t) = k.1 (c ∷ t) legal_tail in
            let from : ℤ = sum_at p.sums (resumes p.rule (end_of_all front)) in
            let wb : ℤ = rest_worth p.sums p.rule p.len (front ++ b ∷ []) bs in
            let b_worth : rest_worth p.sums p.rule p.len front (b ∷ bs) ≡ (sum_at p.sums b.start -ℤ from) +ℤ wb = worth_more p.rule p.len front b p.sums bs r legal in
            let c_worth : rest_worth p.sums p.rule p.len front (c ∷ t) ≡ (sum_at p.sums c.start -ℤ from) +ℤ rest_worth p.sums p.rule p.len (front ++ c ∷ []) t = worth_more p.rule p.len front c p.sums t r legal_tail in
            let c_tail : rest_worth p.sums p.rule p.len (front ++ c ∷ []) t ≡ tv = tail.is_worth in
            let behind : Completes p.rule p.len (front ++ b ∷ []) bs = ap (is_legal p.rule p.len) (append_assoc front (b ∷ []) bs) ∙ legal in
            let g = h.greatest b (some_stop b bs legal) (apart_named entries named are (front ++ b ∷ []) leaving) in
            let v : ℤ = g.1.0 in
            let b_most : wb ≤ℤ v = g.1.1.greatest bs behind in
            let b_reach : g.0 ≡ sum_at p.sums b.start +ℤ v = g.1.2 in
            let low : g.0 ≤ℤ reach = g.2 in
            let c_reach : reach ≡ sum_at p.sums c.start +ℤ tv = tail_value in
            let same : bonus_of entries (front ++ b ∷ bs) ≡ bonus_of entries (front ++ c ∷ t) = bonus_leaving entries front b bs leaving ∙ sym (bonus_leaving entries front c t (leads_named entries named are front c h.leaves)) in
            covers_on p entries best (front ++ c ∷ t) (front ++ b ∷ bs) covers
            (omega (arith, ints))
            (λ e. less_behind front (b ∷ bs) (c ∷ t)
            (no_less b bs (g.3 (let s : g.0 ≡ reach = omega (arith, ints) in s)) behind (let s : (sum_at p.sums b.start +ℤ wb) ≡ sum_at p.sums c.start +ℤ tv = omega (arith, ints) in s)))
          where
            no_less : (b : Break) (bs : List Break) → is_less_break b c ≡ false → Completes p.rule p.len (front ++ b ∷ []) bs
                → (sum_at p.sums b.start +ℤ rest_worth p.sums p.rule p.len (front ++ b ∷ []) bs) ≡ sum_at p.sums c.start +ℤ tv → is_less_list (b ∷ bs) (c ∷ t) ≡ false
            no_less b bs first behind equal =
                elim (cases_Bool (same_break b c)) [
                  | inr f ↦ or_from (is_less_break b c) (same_break b c && is_less_list bs t) first (and_left (same_break b c) (is_less_list bs t) f)
                  | inl s ↦
                      let is : b ≡ c = (same_break_decides b c).0 s in
                      let own : Completes p.rule p.len (front ++ c ∷ []) bs = subst (λ (x : Break). Completes p.rule p.len (front ++ x ∷ []) bs) is behind in
                      let e : (sum_at p.sums c.start +ℤ rest_worth p.sums p.rule p.len (front ++ c ∷ []) bs) ≡ sum_at p.sums c.start +ℤ tv =
                      subst (λ (x : Break). (sum_at p.sums x.start +ℤ rest_worth p.sums p.rule p.len (front ++ x ∷ []) bs) ≡ sum_at p.sums c.start +ℤ tv) is equal in
                      subst (λ (x : Break). is_less_list (x ∷ bs) (c ∷ t) ≡ false) (sym is)
                      (less_rests c bs t (tail.least bs own (let w : rest_worth p.sums p.rule p.len (front ++ c ∷ []) bs ≡ tv = omega (arith, ints) in w)))
                ]

    -- the list that goes on by the best way is enough
    pub enough_onward : (c : Break) (reach : ℤ) (start whole : List Break) (lists : List (List Break)) → IsRule p.rule → start ≡ front ++ c ∷ [] → IsBestFrom p.rule p.len p.sums start whole
        → lists ≡ whole ∷ [] → IsBestStop p named front stops c reach → AreEnoughAround p named front lists
    enough_onward c reach start whole lists r is from only h =
        let own : IsBestFrom p.rule p.len p.sums (front ++ c ∷ []) whole = subst (λ (l : List Break). IsBestFrom p.rule p.len p.sums l whole) is from in
        let t = own.0 in
        let at : whole ≡ front ++ c ∷ t = own.1 ∙ append_assoc front (c ∷ []) t in
        let legal : IsLegal p whole = ap (is_legal p.rule p.len) at ∙ legal_tail c reach t own.2.0 r h own.2.1 in
        subst (AreEnoughAround p named front) (sym only)
        (record {
          legal = λ list m. elim m [ inl s ↦ subst (IsLegal p) s legal | inr none ↦ absurd none ];
          covers = λ entries best are covers rest.
              by entries best are t own.2.0 own.2.1 (subst (Covers p entries best) at (covers whole (inl refl))) rest;
        })
      where
        by : (entries : List (List Break × ℤ)) (best : Option Found) → AreBeginnings entries named → (t : List Break) (tv : ℤ) → IsBestRest (Completes p.rule p.len (front ++ c ∷ [])) (rest_worth p.sums p.rule p.len (front ++ c ∷ [])) tv t
            → Covers p entries best (front ++ c ∷ t) → CoversFrom p entries best front
        by entries best are t tv tail covers [] legal leaving = absurd (not_whole legal)
        by entries best are t tv tail covers (b ∷ bs) legal leaving = onward_covers c reach t tv r h tail entries best are covers b bs legal leaving

-- what a way reaches, by the value of the spot behind it
pub reach_made : (p : Priced) (front : List Break) (b : Break) (found : Option ℤ) (behind before result : ℤ) → IsRule p.rule → AreSums p.len p.sums → is_live p.rule p.len (front ++ b ∷ []) ≡ true
    → MatchOption found (is_live p.rule p.len (front ++ b ∷ []) ≡ false) (IsMostEarned p.rule p.len p.sums (front ++ b ∷ [])) → behind ≡ unwrap_or found (pos 0) → before ≡ sum_at p.sums b.start
    → (FitsSigned w64 (before +ℤ behind) → result ≡ before +ℤ behind) → Reaches p front b result
reach_made p front b None behind before result r s live known is at sum = absurd (false≢true (sym known ∙ live))
reach_made p front b (Some v) behind before result r s live known is at sum =
    let size : unsigned_abs v ≤ 10000000000 * 65535 = subst (λ (z : ℤ). unsigned_abs z ≤ 10000000000 * 65535) known.reached.2 (worth_size p.rule p.len p.sums (front ++ b ∷ []) r s known.reached.0) in
    let both = abs_add (sum_at p.sums b.start) v (10000000000 * 65536) (10000000000 * 65535) (s.size b.start) size in
    let fits : FitsSigned w64 (sum_at p.sums b.start +ℤ v) = fits_signed_from_abs w64 (sum_at p.sums b.start +ℤ v) (omega arith) in
    let same : before +ℤ behind ≡ sum_at p.sums b.start +ℤ v = ap (λ (z : ℤ). z +ℤ behind) at ∙ ap (λ (z : ℤ). sum_at p.sums b.start +ℤ z) is in
    (v, known, sum (subst (FitsSigned w64) (sym same) fits) ∙ same)
