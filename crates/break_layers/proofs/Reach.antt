-- What the rests of a list earn that begin with some break, by what is earned behind it.
use Rattle.break_layers.proofs.Common.{◌≡◌, ◌≢◌, ◌⊎◌, inl, inr, ℕ, ◌+◌, ◌-◌, ◌*◌, ◌<◌, ◌≤◌, ℤ, ◌+ℤ◌, ◌-ℤ◌, ◌≤ℤ◌, ◌<ℤ◌, Bool, true, false, List, [], ◌∷◌, ◌++◌, nat_le, refl, sym, ap, ◌∙◌, subst, arith, append_assoc, min, cond, FitsSigned, w64, int_max, unsigned_abs, ints, fits_signed_from_abs, fold-append, false≢true, cases_Bool, and_from, or_cases, or_left, or_right, cases_lt, le-leb, lt-ltb, leb-true, Break, Rule, end_of, is_legal, is_rested, keeps_ends, IsRule, end_of_all, may_follow, spot_of, rest_first, abs_add, Bounds, bounds, from_next, sum_at, price_in, AreSums, resumes, earned_from, Completes, earned_more, earned_small, spaced_rest, resumes_behind, NOTHING, Layer, rest_worth, number_in, IsMostIn, IsMostOrNothing, IsValueOrNothing, layer_of, longest_work_of, size_limit_of, IsSizeIn, AreSizesIn, IsInWindow, reach_worth, behind_worth, CompletesWith, IsBehindBy, IsBehindAt, IsReachBy, IsReachAt, IsReachOfSizes, IsReachOfAll}
use Rattle.std.specs.Ordering.{int_eq}
use Rattle.std.proofs.lemmas.Bool.Decides.{Decides-int_eq}
use Rattle.break_rules.proofs.Walk.{follows_from, follows_parts}
use Rattle.break_layers.specs.declared.sizes.Sizes.{Sizes}
use Rattle.break_layers.proofs.Sliding.{max_above, max_cases, below_left, below_right}

pub longer : (rule : Rule) (len : ℕ) (list : List Break) (b : Break) (bs : List Break) → is_legal rule len ((list ++ b ∷ []) ++ bs) ≡ is_legal rule len (list ++ b ∷ bs)
longer rule len list b bs = ap (is_legal rule len) (append_assoc list (b ∷ []) bs)

-- a rest that begins with a break earns the stretch before it and what is earned behind it
pub worth_more : (rule : Rule) (len : ℕ) (list : List Break) (b : Break) (sums : List ℤ) (bs : List Break) → IsRule rule → Completes rule len list (b ∷ bs)
    → rest_worth sums rule len list (b ∷ bs) ≡ (sum_at sums b.start -ℤ sum_at sums (resumes rule (end_of_all list))) +ℤ rest_worth sums rule len (list ++ b ∷ []) bs
worth_more rule len list b sums bs r c =
    let end : end_of_all (list ++ b ∷ []) ≡ end_of b = fold-append (λ (at : ℕ) (c : Break). end_of c) 0 list (b ∷ []) in
    let next = bounds rule len _ _ b (from_next rule len (spot_of rule list) b (rest_first rule len list b bs c).1) in
    let some : 0 < end_of b = omega (arith, next.some) in
    earned_more sums rule len (resumes rule (end_of_all list)) b bs (spaced_rest rule len list (b ∷ bs) r c)
    ∙ ap (λ k. (sum_at sums b.start -ℤ sum_at sums (resumes rule (end_of_all list))) +ℤ earned_from (price_in sums) rule len k bs)
    (sym (ap (resumes rule) end ∙ resumes_behind rule (end_of b) some))

-- sums of prices lie above the number that stands for nothing
pub above_nothing : (z : ℤ) → unsigned_abs z ≤ 10000000000 * 131071 → NOTHING <ℤ z
above_nothing z h = grind (arith, ints)

pub not_above : (z : ℤ) → NOTHING <ℤ z → z ≤ℤ NOTHING → ⊥
not_above z h g = omega (arith, ints)

-- one number is another, or not
pub same_or : (x y : ℤ) → (x ≡ y) ⊎ (x ≢ y)
same_or x y = elim (cases_Bool (int_eq x y)) [ inl t ↦ inl ((Decides-int_eq x y).0 t) | inr f ↦ inr (λ e. false≢true (sym f ∙ (Decides-int_eq x y).1 e)) ]

-- the greater of two numbers, for lists of one kind or another
pub most_join : (A B C : List Break → Type 0) (worth : List Break → ℤ) (x y : ℤ) → ((rest : List Break) → C rest → A rest ⊎ B rest) → ((rest : List Break) → A rest → C rest) → ((rest : List Break) → B rest → C rest)
    → IsMostOrNothing A worth x → IsMostOrNothing B worth y → IsMostOrNothing C worth (int_max x y)
most_join A B C worth x y split one two p q = record {
  reached = elim (max_cases x y) [
    | inl e ↦ elim p.reached [ inl n ↦ inl (e ∙ n) | inr f ↦ inr (f.0, one f.0 f.1, f.2 ∙ sym e) ]
    | inr e ↦ elim q.reached [ inl n ↦ inl (e ∙ n) | inr f ↦ inr (f.0, two f.0 f.1, f.2 ∙ sym e) ]
  ];
  greatest = λ rest c. elim (split rest c) [
    | inl a ↦ let g = p.greatest rest a in (g.0, below_left x y (worth rest) g.1)
    | inr b ↦ let g = q.greatest rest b in (g.0, below_right x y (worth rest) g.1)
  ];
}

-- nothing is the least that lists earn
most_above : (A : List Break → Type 0) (worth : List Break → ℤ) (x : ℤ) → IsMostOrNothing A worth x → NOTHING ≤ℤ x
most_above A worth x p = elim p.reached [
  | inl none ↦ subst (λ (z : ℤ). NOTHING ≤ℤ z) (sym none) (let e : NOTHING ≤ℤ NOTHING = omega (arith, ints) in e)
  | inr f ↦ let low : NOTHING <ℤ worth f.0 = (p.greatest f.0 f.1).0 in let is : worth f.0 ≡ x = f.2 in omega (arith, ints)
]

-- where no list is allowed there is nothing
pub most_none : (A : List Break → Type 0) (worth : List Break → ℤ) → ((rest : List Break) → A rest → ⊥) → IsMostOrNothing A worth NOTHING
most_none A worth none = record { reached = inl refl; greatest = λ rest a. absurd (none rest a) }

-- the same lists, in other words
pub most_same : (A B : List Break → Type 0) (worth : List Break → ℤ) (x : ℤ) → ((rest : List Break) → A rest → B rest) → ((rest : List Break) → B rest → A rest)
    → IsMostOrNothing A worth x → IsMostOrNothing B worth x
most_same A B worth x to from p = record {
  reached = elim p.reached [ inl n ↦ inl n | inr f ↦ inr (f.0, to f.0 f.1, f.2) ];
  greatest = λ rest b. p.greatest rest (from rest b);
}

module _ (rule : Rule) (len : ℕ) (sums : List ℤ) (list : List Break) (r : IsRule rule) (s : AreSums len sums) where
  pub worth_size : (rest : List Break) → unsigned_abs (rest_worth sums rule len list rest) ≤ 10000000000 * 65535
  worth_size rest = let own = earned_small sums rule len (resumes rule (end_of_all list)) rest s in let short : len ≤ 65535 = s.short in omega arith

  pub reach_size : (rest : List Break) → unsigned_abs (reach_worth sums rule len list rest) ≤ 10000000000 * 131071
  reach_size rest =
      let both = abs_add (rest_worth sums rule len list rest) (sum_at sums (resumes rule (end_of_all list))) (10000000000 * 65535) (10000000000 * 65536) (worth_size rest) (s.size (resumes rule (end_of_all list))) in
      omega arith

  pub some_worth : (rest : List Break) → NOTHING <ℤ rest_worth sums rule len list rest
  some_worth rest = let small = worth_size rest in above_nothing (rest_worth sums rule len list rest) (omega arith)

  pub some_reach : (rest : List Break) → NOTHING <ℤ reach_worth sums rule len list rest
  some_reach rest = above_nothing (reach_worth sums rule len list rest) (reach_size rest)

  pub reach_more : (b : Break) (bs : List Break) → Completes rule len list (b ∷ bs) → reach_worth sums rule len list (b ∷ bs) ≡ rest_worth sums rule len (list ++ b ∷ []) bs +ℤ sum_at sums b.start
  reach_more b bs c =
      let more : rest_worth sums rule len list (b ∷ bs) ≡ (sum_at sums b.start -ℤ sum_at sums (resumes rule (end_of_all list))) +ℤ rest_worth sums rule len (list ++ b ∷ []) bs = worth_more rule len list b sums bs r c in
      omega (arith, ints)

  -- what a break reaches, by what is earned behind it
  pub reach_by : (b : Break) (x z : ℤ) → IsValueOrNothing rule len sums (list ++ b ∷ []) x → (x ≡ NOTHING → z ≡ NOTHING)
      → (x ≢ NOTHING → FitsSigned w64 (x +ℤ sum_at sums b.start) → z ≡ x +ℤ sum_at sums b.start) → IsReachBy rule len sums list b z
  reach_by b x z behind nothing total = elim (same_or x NOTHING) [
    | inl none ↦ record { reached = inl (nothing none); greatest = λ rest h. absurd (dead none rest h) }
    | inr some ↦ elim behind.reached [
      | inl none ↦ absurd (some none)
      | inr f ↦
          let whole : Completes rule len list (b ∷ f.0) = sym (longer rule len list b f.0) ∙ f.1 in
          let more : reach_worth sums rule len list (b ∷ f.0) ≡ rest_worth sums rule len (list ++ b ∷ []) f.0 +ℤ sum_at sums b.start = reach_more b f.0 whole in
          let is : reach_worth sums rule len list (b ∷ f.0) ≡ x +ℤ sum_at sums b.start = more ∙ ap (λ (v : ℤ). v +ℤ sum_at sums b.start) f.2 in
          let small : unsigned_abs (x +ℤ sum_at sums b.start) ≤ 10000000000 * 131071 = subst (λ (v : ℤ). unsigned_abs v ≤ 10000000000 * 131071) is (reach_size (b ∷ f.0)) in
          let e : z ≡ x +ℤ sum_at sums b.start = total some (fits_signed_from_abs w64 (x +ℤ sum_at sums b.start) (omega arith)) in
          record { reached = inr (b ∷ f.0, (refl, whole), is ∙ sym e); greatest = λ rest h. (some_reach rest, most e rest h) }
    ]
  ]
    where
      dead : x ≡ NOTHING → (rest : List Break) → CompletesWith rule len list (λ c. c ≡ b) rest → ⊥
      dead none [] h = h
      dead none (c ∷ rest) h =
          let whole : Completes rule len list (b ∷ rest) = subst (λ (y : Break). Completes rule len list (y ∷ rest)) h.0 h.1 in
          let g = behind.greatest rest (longer rule len list b rest ∙ whole) in
          not_above (rest_worth sums rule len (list ++ b ∷ []) rest) g.0 (subst (λ (v : ℤ). rest_worth sums rule len (list ++ b ∷ []) rest ≤ℤ v) none g.1)

      most : z ≡ x +ℤ sum_at sums b.start → (rest : List Break) → CompletesWith rule len list (λ c. c ≡ b) rest → reach_worth sums rule len list rest ≤ℤ z
      most e [] h = absurd h
      most e (c ∷ rest) h =
          let whole : Completes rule len list (b ∷ rest) = subst (λ (y : Break). Completes rule len list (y ∷ rest)) h.0 h.1 in
          let more : reach_worth sums rule len list (b ∷ rest) ≡ rest_worth sums rule len (list ++ b ∷ []) rest +ℤ sum_at sums b.start = reach_more b rest whole in
          let g : rest_worth sums rule len (list ++ b ∷ []) rest ≤ℤ x = (behind.greatest rest (longer rule len list b rest ∙ whole)).1 in
          let here : reach_worth sums rule len list (b ∷ rest) ≤ℤ z = omega (arith, ints) in
          subst (λ (y : Break). reach_worth sums rule len list (y ∷ rest) ≤ℤ z) (sym h.0) here

  -- what is earned behind a break is what its best rest earns
  pub behind_by : (b : Break) (x : ℤ) → IsValueOrNothing rule len sums (list ++ b ∷ []) x → IsBehindBy rule len sums list b x
  behind_by b x v = record { reached = elim v.reached [ inl none ↦ inl none | inr f ↦ inr (b ∷ f.0, (refl, whole f.0 f.1), worth f.0 f.1 ∙ f.2) ]; greatest = greatest }
    where
      whole : (rest : List Break) → Completes rule len (list ++ b ∷ []) rest → Completes rule len list (b ∷ rest)
      whole rest h = sym (longer rule len list b rest) ∙ h

      worth : (rest : List Break) → Completes rule len (list ++ b ∷ []) rest → behind_worth sums rule len list b.start (b ∷ rest) ≡ rest_worth sums rule len (list ++ b ∷ []) rest
      worth rest h =
          let more : reach_worth sums rule len list (b ∷ rest) ≡ rest_worth sums rule len (list ++ b ∷ []) rest +ℤ sum_at sums b.start = reach_more b rest (whole rest h) in
          omega (arith, ints)

      greatest : (rest : List Break) → CompletesWith rule len list (λ c. c ≡ b) rest → (NOTHING <ℤ behind_worth sums rule len list b.start rest) × (behind_worth sums rule len list b.start rest ≤ℤ x)
      greatest [] h = absurd h
      greatest (c ∷ rest) h =
          let own : Completes rule len (list ++ b ∷ []) rest = longer rule len list b rest ∙ subst (λ (y : Break). Completes rule len list (y ∷ rest)) h.0 h.1 in
          subst (λ (y : Break). (NOTHING <ℤ behind_worth sums rule len list b.start (y ∷ rest)) × (behind_worth sums rule len list b.start (y ∷ rest) ≤ℤ x)) (sym h.0)
          (subst (λ (z : ℤ). (NOTHING <ℤ z) × (z ≤ℤ x)) (sym (worth rest own)) (v.greatest rest own))

  -- with the prices before a start it is what the breaks of that start reach
  pub with_sum : (start from to : ℕ) (x z : ℤ) → IsBehindAt rule len sums list start from to x → (x ≡ NOTHING → z ≡ NOTHING)
      → (x ≢ NOTHING → FitsSigned w64 (x +ℤ sum_at sums start) → z ≡ x +ℤ sum_at sums start) → IsReachAt rule len sums list start from to z
  with_sum start from to x z p nothing total = elim (same_or x NOTHING) [
    | inl none ↦ record {
      reached = inl (nothing none);
      greatest = λ rest h.
          let g = p.greatest rest h in
          absurd (not_above (behind_worth sums rule len list start rest) g.0 (subst (λ (v : ℤ). behind_worth sums rule len list start rest ≤ℤ v) none g.1));
    }
    | inr some ↦ elim p.reached [
      | inl none ↦ absurd (some none)
      | inr f ↦
          let is : reach_worth sums rule len list f.0 -ℤ sum_at sums start ≡ x = f.2 in
          let back : reach_worth sums rule len list f.0 ≡ x +ℤ sum_at sums start = omega (arith, ints) in
          let small : unsigned_abs (x +ℤ sum_at sums start) ≤ 10000000000 * 131071 = subst (λ (v : ℤ). unsigned_abs v ≤ 10000000000 * 131071) back (reach_size f.0) in
          let e : z ≡ x +ℤ sum_at sums start = total some (fits_signed_from_abs w64 (x +ℤ sum_at sums start) (omega arith)) in
          record {
            reached = inr (f.0, f.1, back ∙ sym e);
            greatest = λ rest h.
                let g : (reach_worth sums rule len list rest -ℤ sum_at sums start) ≤ℤ x = (p.greatest rest h).1 in
                (some_reach rest, (let l : reach_worth sums rule len list rest ≤ℤ z = omega (arith, ints) in l));
          }
    ]
  ]

  -- the first break of a rest may follow
  first_follows : (b : Break) (rest : List Break) → Completes rule len list (b ∷ rest) → may_follow rule len (end_of_all list) (spot_of rule list).used b ≡ true
  first_follows b rest h = from_next rule len (spot_of rule list) b (rest_first rule len list b rest h).1

  -- nothing is earned behind a break that doesn't keep its distance
  pub behind_none : (b : Break) → keeps_ends rule len b ≡ false → IsBehindBy rule len sums list b NOTHING
  behind_none b far = most_none (CompletesWith rule len list (λ c. c ≡ b)) (behind_worth sums rule len list b.start) none
    where
      none : (rest : List Break) → CompletesWith rule len list (λ c. c ≡ b) rest → ⊥
      none [] h = h
      none (c ∷ rest) h =
          false≢true (sym far ∙ ap (keeps_ends rule len) (sym h.0) ∙ (follows_parts rule len (end_of_all list) (spot_of rule list).used c (first_follows c rest h.1)).ends)

  -- breaks that begin behind the end of the shift reach nothing
  pub reach_late : (start from to : ℕ) → len < start → IsReachAt rule len sums list start from to NOTHING
  reach_late start from to late = most_none (CompletesWith rule len list (λ c. (c.start ≡ start) × (from ≤ c.len) × (c.len < to))) (reach_worth sums rule len list) none
    where
      none : (rest : List Break) → CompletesWith rule len list (λ c. (c.start ≡ start) × (from ≤ c.len) × (c.len < to)) rest → ⊥
      none [] h = h
      none (c ∷ rest) h = let p = bounds rule len (end_of_all list) (spot_of rule list).used c (first_follows c rest h.1) in omega (arith, p.tail, h.0.0)

  -- a break that may follow begins in the window of its length
  in_window : (b : Break) → may_follow rule len (end_of_all list) (spot_of rule list).used b ≡ true → IsInWindow rule list b
  in_window b h = record { earliest = omega (arith, p.later, p.least_work, r.some_work); latest = latest (nat_le rule.long_rest b.len) refl }
    where
      p : Bounds rule len (end_of_all list) (spot_of rule list).used b
      p = bounds rule len (end_of_all list) (spot_of rule list).used b h

      latest : (long : Bool) → nat_le rule.long_rest b.len ≡ long → b.start ≤ end_of_all list + longest_work_of rule b.len
      latest true e = subst (λ t. b.start ≤ end_of_all list + cond t rule.work_max (min rule.work_max rule.long_work)) (sym e) (omega (arith, p.most_work, p.later))
      latest false e =
          subst (λ t. b.start ≤ end_of_all list + cond t rule.work_max (min rule.work_max rule.long_work)) (sym e)
          (elim (or_cases (nat_le (b.start - end_of_all list) rule.long_work) (nat_le rule.long_rest b.len) (follows_parts rule len (end_of_all list) (spot_of rule list).used b h).rested) [
            | inl short ↦ let few : b.start - end_of_all list ≤ rule.long_work = leb-true _ _ short in omega (arith, p.most_work, p.later)
            | inr long ↦ absurd (false≢true (sym e ∙ long))
          ])

  -- a break in the window of its length may follow, where the layer has that length and the break keeps its distance
  pub may_follow_in : (layer : Layer) (b : Break) → layer ≡ layer_of rule list → IsSizeIn rule len layer b.len → IsInWindow rule list b → keeps_ends rule len b ≡ true
      → may_follow rule len (end_of_all list) (spot_of rule list).used b ≡ true
  may_follow_in layer b is size window ends =
      let used : layer.used ≡ (spot_of rule list).used = ap (λ (l : Layer). l.used) is in
      let most : b.len ≤ size_limit_of rule len layer = size.most in
      let work : longest_work_of rule b.len ≤ rule.work_max = short (nat_le rule.long_rest b.len) in
      follows_from rule len (end_of_all list) (spot_of rule list).used b (record {
        later = le-leb _ _ (omega (arith, window.earliest));
        some = lt-ltb _ _ (omega (arith, size.least, r.some_size));
        ends = ends;
        work = and_from (nat_le rule.work_min (b.start - end_of_all list)) (nat_le (b.start - end_of_all list) rule.work_max) (le-leb _ _ (omega (arith, window.earliest))) (le-leb _ _ (omega (arith, window.latest)));
        rested = rested (nat_le rule.long_rest b.len) refl;
        size = and_from (nat_le rule.size_min b.len) (nat_le b.len rule.size_max) (le-leb _ _ size.least) (le-leb _ _ (omega arith));
        within = le-leb _ _ (omega (arith, size.least, r.some_size));
      })
    where
      short : (long : Bool) → cond long rule.work_max (min rule.work_max rule.long_work) ≤ rule.work_max
      short true = omega arith
      short false = omega arith

      rested : (long : Bool) → nat_le rule.long_rest b.len ≡ long → is_rested rule ((end_of_all list, b.start), b) ≡ true
      rested true e = or_right (nat_le (b.start - end_of_all list) rule.long_work) (nat_le rule.long_rest b.len) e
      rested false e =
          let latest : b.start ≤ end_of_all list + cond false rule.work_max (min rule.work_max rule.long_work) =
          subst (λ t. b.start ≤ end_of_all list + cond t rule.work_max (min rule.work_max rule.long_work)) e window.latest in
          or_left (nat_le (b.start - end_of_all list) rule.long_work) (nat_le rule.long_rest b.len) (le-leb _ _ (omega arith))

  -- no break has a length in an empty range
  pub none_at : (start from : ℕ) → IsBehindAt rule len sums list start from from NOTHING
  none_at start from = most_none (CompletesWith rule len list (λ c. (c.start ≡ start) × (from ≤ c.len) × (c.len < from))) (behind_worth sums rule len list start) none
    where
      none : (rest : List Break) → CompletesWith rule len list (λ c. (c.start ≡ start) × (from ≤ c.len) × (c.len < from)) rest → ⊥
      none [] h = h
      none (c ∷ rest) h = omega (arith, h.0.1, h.0.2)

  pub none_of_sizes : (from : ℕ) → IsReachOfSizes rule len sums list from from NOTHING
  none_of_sizes from = most_none (CompletesWith rule len list (λ c. (from ≤ c.len) × (c.len < from))) (reach_worth sums rule len list) none
    where
      none : (rest : List Break) → CompletesWith rule len list (λ c. (from ≤ c.len) × (c.len < from)) rest → ⊥
      none [] h = h
      none (c ∷ rest) h = omega (arith, h.0.0, h.0.1)

  -- one length more of a start
  pub size_more : (start from size : ℕ) (x y : ℤ) → from ≤ size → IsBehindAt rule len sums list start from size x → IsBehindBy rule len sums list (record { start = start; len = size }) y
      → IsBehindAt rule len sums list start from (size + 1) (int_max x y)
  size_more start from size x y low p q =
      most_join (CompletesWith rule len list (λ c. (c.start ≡ start) × (from ≤ c.len) × (c.len < size))) (CompletesWith rule len list (λ c. c ≡ record { start = start; len = size }))
      (CompletesWith rule len list (λ c. (c.start ≡ start) × (from ≤ c.len) × (c.len < size + 1))) (behind_worth sums rule len list start) x y split one two p q
    where
      split : (rest : List Break) → CompletesWith rule len list (λ c. (c.start ≡ start) × (from ≤ c.len) × (c.len < size + 1)) rest
          → CompletesWith rule len list (λ c. (c.start ≡ start) × (from ≤ c.len) × (c.len < size)) rest ⊎ CompletesWith rule len list (λ c. c ≡ record { start = start; len = size }) rest
      split [] h = absurd h
      split (c ∷ rest) h = elim (cases_lt c.len size) [
        | inl l ↦ inl ((h.0.0, h.0.1, l), h.1)
        | inr g ↦
            let same : c.len ≡ size = omega (arith, h.0.2) in
            inr (ap (λ (n : ℕ). record { start = n; len = c.len }) h.0.0 ∙ ap (λ (n : ℕ). record { start = start; len = n }) same, h.1)
      ]

      one : (rest : List Break) → CompletesWith rule len list (λ c. (c.start ≡ start) × (from ≤ c.len) × (c.len < size)) rest → CompletesWith rule len list (λ c. (c.start ≡ start) × (from ≤ c.len) × (c.len < size + 1)) rest
      one [] h = h
      one (c ∷ rest) h = ((h.0.0, h.0.1, omega (arith, h.0.2)), h.1)

      two : (rest : List Break) → CompletesWith rule len list (λ c. c ≡ record { start = start; len = size }) rest → CompletesWith rule len list (λ c. (c.start ≡ start) × (from ≤ c.len) × (c.len < size + 1)) rest
      two [] h = h
      two (c ∷ rest) h =
          let length : c.len ≡ size = ap (λ (b : Break). b.len) h.0 in
          ((ap (λ (b : Break). b.start) h.0, omega arith, omega arith), h.1)

  pub size_raised : (start from size : ℕ) (x y z : ℤ) → from ≤ size → (z ≡ int_max x y) ⊎ ((y ≡ NOTHING) × (z ≡ x)) → IsBehindAt rule len sums list start from size x
      → IsBehindBy rule len sums list (record { start = start; len = size }) y → IsBehindAt rule len sums list start from (size + 1) z
  size_raised start from size x y z low e p q =
      let more = size_more start from size x y low p q in
      let same : z ≡ int_max x y = elim e [
        | inl m ↦ m
        | inr k ↦ k.1 ∙ sym (max_above x NOTHING (most_above (CompletesWith rule len list (λ c. (c.start ≡ start) × (from ≤ c.len) × (c.len < size))) (behind_worth sums rule len list start) x p)) ∙ ap (int_max x) (sym k.0)
      ] in
      subst (IsBehindAt rule len sums list start from (size + 1)) (sym same) more

  -- two ranges of lengths that meet
  pub sizes_join : (from mid to : ℕ) (x y : ℤ) → from ≤ mid → mid ≤ to → IsReachOfSizes rule len sums list from mid x → IsReachOfSizes rule len sums list mid to y → IsReachOfSizes rule len sums list from to (int_max x y)
  sizes_join from mid to x y low high p q =
      most_join (CompletesWith rule len list (λ c. (from ≤ c.len) × (c.len < mid))) (CompletesWith rule len list (λ c. (mid ≤ c.len) × (c.len < to)))
      (CompletesWith rule len list (λ c. (from ≤ c.len) × (c.len < to))) (reach_worth sums rule len list) x y split one two p q
    where
      split : (rest : List Break) → CompletesWith rule len list (λ c. (from ≤ c.len) × (c.len < to)) rest
          → CompletesWith rule len list (λ c. (from ≤ c.len) × (c.len < mid)) rest ⊎ CompletesWith rule len list (λ c. (mid ≤ c.len) × (c.len < to)) rest
      split [] h = absurd h
      split (c ∷ rest) h = elim (cases_lt c.len mid) [ inl l ↦ inl ((h.0.0, l), h.1) | inr g ↦ inr ((g, h.0.1), h.1) ]

      one : (rest : List Break) → CompletesWith rule len list (λ c. (from ≤ c.len) × (c.len < mid)) rest → CompletesWith rule len list (λ c. (from ≤ c.len) × (c.len < to)) rest
      one [] h = h
      one (c ∷ rest) h = ((h.0.0, omega (arith, h.0.1)), h.1)

      two : (rest : List Break) → CompletesWith rule len list (λ c. (mid ≤ c.len) × (c.len < to)) rest → CompletesWith rule len list (λ c. (from ≤ c.len) × (c.len < to)) rest
      two [] h = h
      two (c ∷ rest) h = ((omega (arith, h.0.0), h.0.1), h.1)

  -- the most over the window of some lengths is the most of these lengths
  module _ (layer : Layer) (sizes : Sizes) (alike : AreSizesIn rule len layer sizes) where
    -- a rest that begins with such a break begins in the window
    sizes_window : (b : Break) (rest : List Break) → Completes rule len list (b ∷ rest) → sizes.from ≤ b.len → b.len < sizes.to → IsInWindow rule list (record { start = b.start; len = sizes.from })
    sizes_window b rest h low high =
        let window = in_window b (first_follows b rest h) in
        record { earliest = window.earliest; latest = subst (λ n. b.start ≤ end_of_all list + n) (alike.alike b.len low high) window.latest }

    pub most_of_sizes : (width : ℕ) (row : List ℤ) (most : ℤ) → rule.work_min + width ≡ longest_work_of rule sizes.from + 1
        → ((start : ℕ) → IsInWindow rule list (record { start = start; len = sizes.from }) → IsReachAt rule len sums list start sizes.from sizes.to (number_in row start))
        → IsMostIn row (end_of_all list + rule.work_min) width most → IsReachOfSizes rule len sums list sizes.from sizes.to most
    most_of_sizes width row most wide each m = record { reached = reached; greatest = greatest }
      where
        inside : (start : ℕ) → end_of_all list + rule.work_min ≤ start → start < end_of_all list + rule.work_min + width → IsInWindow rule list (record { start = start; len = sizes.from })
        inside start low high = record { earliest = low; latest = omega arith }

        reached : (most ≡ NOTHING) ⊎ ((rest : List Break) × CompletesWith rule len list (λ b. (sizes.from ≤ b.len) × (b.len < sizes.to)) rest × (reach_worth sums rule len list rest ≡ most))
        reached =
            let k = m.reached.0 in
            let here = each k (inside k m.reached.1 m.reached.2) in
            elim here.reached [
              | inl none ↦ inl (sym m.reached.3 ∙ none)
              | inr f ↦ inr (f.0, with_sizes f.0 k f.1, f.2 ∙ m.reached.3)
            ]
          where
            with_sizes : (rest : List Break) (k : ℕ) → CompletesWith rule len list (λ c. (c.start ≡ k) × (sizes.from ≤ c.len) × (c.len < sizes.to)) rest
                → CompletesWith rule len list (λ c. (sizes.from ≤ c.len) × (c.len < sizes.to)) rest
            with_sizes [] k h = h
            with_sizes (c ∷ rest) k h = ((h.0.1, h.0.2), h.1)

        greatest : (rest : List Break) → CompletesWith rule len list (λ b. (sizes.from ≤ b.len) × (b.len < sizes.to)) rest → (NOTHING <ℤ reach_worth sums rule len list rest) × (reach_worth sums rule len list rest ≤ℤ most)
        greatest [] h = absurd h
        greatest (c ∷ rest) h =
            let window = sizes_window c rest h.1 h.0.0 h.0.1 in
            let latest : c.start ≤ end_of_all list + longest_work_of rule sizes.from = window.latest in
            let here = (each c.start window).greatest (c ∷ rest) ((refl, h.0.0, h.0.1), h.1) in
            let up : number_in row c.start ≤ℤ most = m.greatest c.start window.earliest (omega arith) in
            let low : reach_worth sums rule len list (c ∷ rest) ≤ℤ number_in row c.start = here.1 in
            (here.0, omega (arith, ints))

    -- where no work period is short enough there is nothing of these lengths
    pub none_short : longest_work_of rule sizes.from < rule.work_min → IsReachOfSizes rule len sums list sizes.from sizes.to NOTHING
    none_short less = most_none (CompletesWith rule len list (λ c. (sizes.from ≤ c.len) × (c.len < sizes.to))) (reach_worth sums rule len list) none
      where
        none : (rest : List Break) → CompletesWith rule len list (λ c. (sizes.from ≤ c.len) × (c.len < sizes.to)) rest → ⊥
        none [] h = h
        none (c ∷ rest) h =
            let window = sizes_window c rest h.1 h.0.0 h.0.1 in
            let latest : c.start ≤ end_of_all list + longest_work_of rule sizes.from = window.latest in
            omega (arith, window.earliest)

  -- no break is shorter than the least length or longer than the greatest
  pub all_sizes : (layer : Layer) (to : ℕ) (x : ℤ) → layer ≡ layer_of rule list → size_limit_of rule len layer < to → IsReachOfSizes rule len sums list rule.size_min to x → IsReachOfAll rule len sums list x
  all_sizes layer to x is far = most_same (CompletesWith rule len list (λ c. (rule.size_min ≤ c.len) × (c.len < to))) (CompletesWith rule len list (λ c. Unit {0})) (reach_worth sums rule len list) x one two
    where
      one : (rest : List Break) → CompletesWith rule len list (λ c. (rule.size_min ≤ c.len) × (c.len < to)) rest → CompletesWith rule len list (λ c. Unit {0}) rest
      one [] h = h
      one (c ∷ rest) h = (tt, h.1)

      two : (rest : List Break) → CompletesWith rule len list (λ c. Unit {0}) rest → CompletesWith rule len list (λ c. (rule.size_min ≤ c.len) × (c.len < to)) rest
      two [] h = h
      two (c ∷ rest) h =
          let p = bounds rule len (end_of_all list) (spot_of rule list).used c (first_follows c rest h.1) in
          let used : layer.used ≡ (spot_of rule list).used = ap (λ (l : Layer). l.used) is in
          ((p.least_size, omega (arith, p.most_size, p.within)), h.1)
