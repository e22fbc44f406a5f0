-- What the duties that begin with some breaks are worth, with what cuts add.
use Rattle.cert_check.proofs.Common.{◌≡◌, inl, inr, ℕ, zero, suc, ◌+◌, ◌*◌, ◌^◌, ◌≤◌, ℤ, pos, ◌+ℤ◌, ◌≤ℤ◌, Bool, true, false, cond, not, ◌&&◌, ◌==◌, nat_lt, List, [], ◌∷◌, ◌++◌, length, get_or, refl, sym, ap, ◌∙◌, subst, arith, append_assoc, append-nil, Option, unsigned_abs, zip, ints, and_from, and_parts, and_right, cases_Bool, false≢true, lt-ltb, ltb-true, Break, Rule, begins_with, same_break, is_legal, IsRule, Has, any_at, any_none, any_some, same_tests, int_sum_by-same, int_sum_by_zero, same_break_decides, no_longer_list, Cut, is_nil, bonus, signed_price, AreSums, Completes, rest_worth, Through, IsGreatest, IsGreatestOf, greater_of, duty_with, bonuses, whole_worth, is_further, goes_further, has_prefix_cut, abs_add, sum_size, signed_small}
use Rattle.cert_check.proofs.Greatest.{greatest_more}
use Rattle.cert_check.proofs.Values.{before_of, worth_more, rest_small}

-- a list and what follows it begin with a prefix alike, unless the prefix is longer and begins with the list
begins_alike : (list rest prefix : List Break) → (nat_lt (length list) (length prefix) && begins_with prefix list) ≡ false → begins_with (list ++ rest) prefix ≡ begins_with list prefix
begins_alike [] rest [] h = refl
begins_alike [] rest (q ∷ qs) h = absurd (false≢true (sym h ∙ and_from (nat_lt 0 (length (q ∷ qs))) (begins_with (q ∷ qs) []) (lt-ltb 0 (length (q ∷ qs)) (omega arith)) refl))
begins_alike (x ∷ xs) rest [] h = refl
begins_alike (x ∷ xs) rest (q ∷ qs) h = by (same_break q x) refl (λ inner. begins_alike xs rest qs inner)
  where
    by : (t : Bool) → same_break q x ≡ t → ((nat_lt (length xs) (length qs) && begins_with qs xs) ≡ false → begins_with (xs ++ rest) qs ≡ begins_with xs qs)
        → begins_with (x ∷ xs ++ rest) (q ∷ qs) ≡ begins_with (x ∷ xs) (q ∷ qs)
    by false e go = ap (λ t. t && begins_with (xs ++ rest) qs) e ∙ sym (ap (λ t. t && begins_with xs qs) e)
    by true e go =
        let same : q ≡ x = (same_break_decides q x).0 e in
        let turned : same_break x q ≡ true = (same_break_decides x q).1 (sym same) in
        let less : nat_lt (length (x ∷ xs)) (length (q ∷ qs)) ≡ nat_lt (length xs) (length qs) =
        same_tests (nat_lt (length (x ∷ xs)) (length (q ∷ qs))) (nat_lt (length xs) (length qs)) (λ g. let l = ltb-true (length (x ∷ xs)) (length (q ∷ qs)) g in lt-ltb (length xs) (length qs) (omega arith)) (λ g. let l = ltb-true (length xs) (length qs) g in lt-ltb (length (x ∷ xs)) (length (q ∷ qs)) (omega arith)) in
        let inner : (nat_lt (length xs) (length qs) && begins_with qs xs) ≡ false =
        sym (ap (λ t. nat_lt (length xs) (length qs) && (t && begins_with qs xs)) turned) ∙ sym (ap (λ t. t && (same_break x q && begins_with qs xs)) less) ∙ h in
        ap (λ t. same_break q x && t) (go inner)

under : (on x y : Bool) → (on ≡ true → x ≡ y) → (on && x) ≡ (on && y)
under true x y h = h refl
under false x y h = refl

off : (on l p : Bool) → ((on && l) && p) ≡ false → on ≡ true → (l && p) ≡ false
off true l p h e = h
off false l p h e = absurd (false≢true e)

-- a cut that doesn't go further adds as much to each duty that begins with the list
bonus_alike : (s day : ℕ) (list rest : List Break) (c : Cut × ℕ) → is_further s day list c.0 ≡ false → bonus (duty_with s day (list ++ rest)) c ≡ bonus (duty_with s day list) c
bonus_alike s day list rest c h =
    let prefix = c.0.class.prefix in
    let on = (s == c.0.class.shift) && (day == c.0.class.day) in
    ap (λ t. cond (not (is_nil prefix) && t) (signed_price c.0.side c.1) (pos 0))
    (under on (begins_with (list ++ rest) prefix) (begins_with list prefix) (λ e. begins_alike list rest prefix (off on (nat_lt (length list) (length prefix)) (begins_with prefix list) h e)))

has_first : (cuts : List Cut) (prices : List ℕ) (c : Cut × ℕ) → Has (zip cuts prices) c → Has cuts c.0
has_first [] prices c h = absurd h
has_first (x ∷ xs) [] c h = absurd h
has_first (x ∷ xs) (p ∷ ps) c h = elim h [ inl e ↦ inl (ap (λ (q : Cut × ℕ). q.0) e) | inr r ↦ inr (has_first xs ps c r) ]

pub bonuses_alike : (cuts : List Cut) (prices : List ℕ) (s day : ℕ) (list rest : List Break) → goes_further cuts s day list ≡ false → bonuses cuts prices (duty_with s day (list ++ rest)) ≡ bonuses cuts prices (duty_with s day list)
bonuses_alike cuts prices s day list rest h =
    int_sum_by-same (bonus (duty_with s day (list ++ rest))) (bonus (duty_with s day list)) (zip cuts prices)
    (λ c m. bonus_alike s day list rest c (any_none (is_further s day list) cuts c.0 h (has_first cuts prices c m)))

-- cuts add nothing to a duty without breaks
bonus_none : (s day : ℕ) (c : Cut × ℕ) → bonus (duty_with s day []) c ≡ pos 0
bonus_none s day c = by c.0.class.prefix
  where
    by : (prefix : List Break) → cond (not (is_nil prefix) && (((s == c.0.class.shift) && (day == c.0.class.day)) && begins_with [] prefix)) (signed_price c.0.side c.1) (pos 0) ≡ pos 0
    by [] = refl
    by (b ∷ bs) = ap (λ t. cond t (signed_price c.0.side c.1) (pos 0)) (and_right ((s == c.0.class.shift) && (day == c.0.class.day)) false refl)

pub bonuses_none : (cuts : List Cut) (prices : List ℕ) (s day : ℕ) → bonuses cuts prices (duty_with s day []) ≡ pos 0
bonuses_none cuts prices s day =
    int_sum_by-same (bonus (duty_with s day [])) (λ c. pos 0) (zip cuts prices) (λ c m. bonus_none s day c) ∙ int_sum_by_zero (zip cuts prices)

-- the size of what cuts add
price_small : (cuts : List Cut) (prices : List ℕ) (n : ℕ) → ((k : ℕ) → get_or prices k 0 ≤ n) → (c : Cut × ℕ) → Has (zip cuts prices) c → c.1 ≤ n
price_small [] prices n small c h = absurd h
price_small (x ∷ xs) [] n small c h = absurd h
price_small (x ∷ xs) (p ∷ ps) n small c h = elim h [
  | inl e ↦ subst (λ (q : Cut × ℕ). q.1 ≤ n) e (small zero)
  | inr r ↦ price_small xs ps n (λ k. small (suc k)) c r
]

zip_few : {X Y : Type 0} (xs : List X) (ys : List Y) → length (zip xs ys) ≤ length xs
zip_few [] ys = omega arith
zip_few (x ∷ xs) [] = omega arith
zip_few (x ∷ xs) (y ∷ ys) = let r = zip_few xs ys in omega arith

picked : (b : Bool) (z : ℤ) (n : ℕ) → unsigned_abs z ≤ n → unsigned_abs (cond b z (pos 0)) ≤ n
picked true z n h = h
picked false z n h = omega arith

pub bonuses_small : (cuts : List Cut) (prices : List ℕ) (s day : ℕ) (list : List Break) → length cuts ≤ 2 ^ 33 → ((k : ℕ) → get_or prices k 0 ≤ 1000000000000) → unsigned_abs (bonuses cuts prices (duty_with s day list)) ≤ 2 ^ 73
bonuses_small cuts prices s day list few small =
    let one = sum_size (bonus (duty_with s day list)) (zip cuts prices) 1000000000000
    (λ c m. picked (not (is_nil c.0.class.prefix) && (((s == c.0.class.shift) && (day == c.0.class.day)) && begins_with list c.0.class.prefix)) (signed_price c.0.side c.1) 1000000000000
    (signed_small c.0.side c.1 1000000000000 (price_small cuts prices 1000000000000 small c m))) in
    let two = zip_few cuts prices in
    omega arith

module _ (cuts : List Cut) (prices : List ℕ) (s day : ℕ) (sums : List ℤ) (rule : Rule) (len : ℕ) (list : List Break) where
  -- the size of the worth of a whole list
  pub whole_small : (rest : List Break) → AreSums len sums → length cuts ≤ 2 ^ 33 → ((k : ℕ) → get_or prices k 0 ≤ 1000000000000) → unsigned_abs (whole_worth cuts prices s day sums rule len list rest) ≤ 2 ^ 74
  whole_small rest a few small =
      let both : unsigned_abs (whole_worth cuts prices s day sums rule len list rest) ≤ 10000000000 * 65535 + 2 ^ 73 =
      abs_add (rest_worth sums rule len list rest) (bonuses cuts prices (duty_with s day (list ++ rest))) (10000000000 * 65535) (2 ^ 73) (rest_small sums rule len list rest a) (bonuses_small cuts prices s day (list ++ rest) few small) in
      omega arith

  pub greatest_whole_small : (v : ℤ) → AreSums len sums → length cuts ≤ 2 ^ 33 → ((k : ℕ) → get_or prices k 0 ≤ 1000000000000) → IsGreatest (Completes rule len list) (whole_worth cuts prices s day sums rule len list) v → unsigned_abs v ≤ 2 ^ 74
  greatest_whole_small v a few small g = subst (λ (z : ℤ). unsigned_abs z ≤ 2 ^ 74) g.reached.2 (whole_small g.reached.0 a few small)

  -- where the cuts add as much to each rest, the greatest worth is the greatest of what rests earn, and that
  pub whole_alone : (v b : ℤ) → ((rest : List Break) → Completes rule len list rest → bonuses cuts prices (duty_with s day (list ++ rest)) ≡ b)
      → IsGreatest (Completes rule len list) (rest_worth sums rule len list) v → IsGreatest (Completes rule len list) (whole_worth cuts prices s day sums rule len list) (v +ℤ b)
  whole_alone v b same g =
      record {
        reached = (g.reached.0, g.reached.1, ap (λ (z : ℤ). z +ℤ bonuses cuts prices (duty_with s day (list ++ g.reached.0))) g.reached.2 ∙ ap (λ (z : ℤ). v +ℤ z) (same g.reached.0 g.reached.1));
        greatest = λ other h.
            let low : rest_worth sums rule len list other ≤ℤ v = g.greatest other h in
            let is : bonuses cuts prices (duty_with s day (list ++ other)) ≡ b = same other h in
            omega (arith, ints);
      }

  -- cuts that don't go further, and a list that is legal
  pub whole_stops : (v : ℤ) → goes_further cuts s day list ≡ false → IsGreatest (Completes rule len list) (rest_worth sums rule len list) v
      → IsGreatest (Completes rule len list) (whole_worth cuts prices s day sums rule len list) (v +ℤ bonuses cuts prices (duty_with s day list))
  whole_stops v h = whole_alone v (bonuses cuts prices (duty_with s day list)) (λ rest c. bonuses_alike cuts prices s day list rest h)

  pub whole_ends : (v : ℤ) → Completes rule len list [] → IsGreatest (Completes rule len list) (rest_worth sums rule len list) v
      → IsGreatest (Completes rule len list) (whole_worth cuts prices s day sums rule len list) (v +ℤ bonuses cuts prices (duty_with s day list))
  whole_ends v h =
      let whole : is_legal rule len list ≡ true = sym (ap (is_legal rule len) (append-nil list)) ∙ h in
      whole_alone v (bonuses cuts prices (duty_with s day list)) (λ rest c.
      ap (λ (r : List Break). bonuses cuts prices (duty_with s day (list ++ r))) (no_longer_list rule len list rest whole c) ∙ ap (λ (l : List Break). bonuses cuts prices (duty_with s day l)) (append-nil list))

  -- a break more
  pub whole_more : (b : Break) (bs : List Break) → IsRule rule → Completes rule len (list ++ b ∷ []) bs
      → whole_worth cuts prices s day sums rule len list (b ∷ bs) ≡ before_of sums rule list b +ℤ whole_worth cuts prices s day sums rule len (list ++ b ∷ []) bs
  whole_more b bs r h =
      let one : rest_worth sums rule len list (b ∷ bs) ≡ before_of sums rule list b +ℤ rest_worth sums rule len (list ++ b ∷ []) bs = worth_more sums rule len list r b bs h in
      let two : bonuses cuts prices (duty_with s day (list ++ b ∷ bs)) ≡ bonuses cuts prices (duty_with s day ((list ++ b ∷ []) ++ bs)) = ap (λ (l : List Break). bonuses cuts prices (duty_with s day l)) (sym (append_assoc list (b ∷ []) bs)) in
      omega (arith, ints)

  pub whole_via : (done : List Break) (b : Break) (best : Option ℤ) (w v : ℤ) → IsRule rule
      → IsGreatestOf (Through rule len list done) (whole_worth cuts prices s day sums rule len list) best
      → IsGreatest (Completes rule len (list ++ b ∷ [])) (whole_worth cuts prices s day sums rule len (list ++ b ∷ [])) w
      → v ≡ before_of sums rule list b +ℤ w
      → IsGreatest (Through rule len list (done ++ b ∷ [])) (whole_worth cuts prices s day sums rule len list) (greater_of best v)
  whole_via done b best w v r so_far behind is =
      greatest_more rule len list (whole_worth cuts prices s day sums rule len list) (whole_worth cuts prices s day sums rule len (list ++ b ∷ [])) done b w (before_of sums rule list b) v behind
      (λ bs h. whole_more b bs r h) is best so_far

-- a cut that goes further than no break bounds duties that begin with some break
prefix_further : (s day : ℕ) (c : Cut) → is_further s day [] c ≡ true → (not (is_nil c.class.prefix) && (s == c.class.shift)) ≡ true
prefix_further s day c h =
    let on = (s == c.class.shift) && (day == c.class.day) in
    let p = and_parts (on && nat_lt 0 (length c.class.prefix)) (begins_with c.class.prefix []) h in
    let q = and_parts on (nat_lt 0 (length c.class.prefix)) p.0 in
    let r = and_parts (s == c.class.shift) (day == c.class.day) q.0 in
    and_from (not (is_nil c.class.prefix)) (s == c.class.shift) (some c.class.prefix q.1) r.0
  where
    some : (prefix : List Break) → nat_lt 0 (length prefix) ≡ true → not (is_nil prefix) ≡ true
    some [] e = e
    some (b ∷ bs) e = refl

none_further : (cuts : List Cut) (s day : ℕ) → has_prefix_cut cuts s ≡ false → goes_further cuts s day [] ≡ false
none_further cuts s day h =
    elim (cases_Bool (goes_further cuts s day [])) [
      | inl t ↦
          let x = any_some (is_further s day []) cuts t in
          absurd (false≢true (sym h ∙ any_at (λ (c : Cut). not (is_nil c.class.prefix) && (s == c.class.shift)) cuts x.0 x.1 (prefix_further s day x.0 x.2)))
      | inr f ↦ f
    ]

-- where no cut bounds duties that begin with some break, whole lists are worth what they earn
pub whole_uncut : (cuts : List Cut) (prices : List ℕ) (s day : ℕ) (sums : List ℤ) (rule : Rule) (len : ℕ) (v : ℤ) → has_prefix_cut cuts s ≡ false
    → IsGreatest (Completes rule len []) (rest_worth sums rule len []) v → IsGreatest (Completes rule len []) (whole_worth cuts prices s day sums rule len []) v
whole_uncut cuts prices s day sums rule len v h g =
    let none : bonuses cuts prices (duty_with s day []) ≡ pos 0 = bonuses_none cuts prices s day in
    let alone : v +ℤ bonuses cuts prices (duty_with s day []) ≡ v = omega (arith, ints) in
    subst (IsGreatest (Completes rule len []) (whole_worth cuts prices s day sums rule len [])) alone (whole_stops cuts prices s day sums rule len [] v (none_further cuts s day h) g)
