-- Steps of the rounds of the greedy plan.
use Rattle.greedy.proofs.Common.{◌≡◌, inl, inr, ℕ, suc, ◌+◌, ◌-◌, ◌*◌, ◌<◌, ◌≤◌, ℤ, pos, neg_ℤ, ◌+ℤ◌, ◌-ℤ◌, ◌≤ℤ◌, Bool, true, false, cond, not, ◌&&◌, Option, Some, None, List, [], ◌∷◌, ◌++◌, map, filter, length, get_or, refl, sym, ap, ◌∙◌, subst, arith, int_lt, MatchBool, list_any, ints, cases_lt, append-nil, get_or_past, length-map-range_with_len, get_or-map-range_with_len, Break, int_sum_by, from_below, Duty, Row, Problem, slots, need_at, need_max_at, shift_list, below, cover, heads_on, is_used, are_legal_rows, cost, rota_of, IsValid, Leads, LeadsToGreedy, duty, marginal_price, marginal_prices, best_list, best_duty, day_value, value_on, is_wanted, counts, gain, first_greatest, next_shift, new_duties, greedy_after, greedy_rota, greedy_rows, rows_of, AreRowsAfterRounds, IsAfterRounds, IsWithin, ArePrices, int_sum_below_more}
use Rattle.std.specs.Prelude.{nat_lt}
use Rattle.greedy.proofs.Falls.{rounds_cheaper}
use Rattle.greedy.proofs.Growing.{heads_before}
use Rattle.greedy.proofs.Leading.{leads_all}
use Rattle.greedy.proofs.PlanRows.{rows_legal, rota_costs}
use Rattle.greedy.proofs.Ranges.{map_push, filter_more}
use Rattle.greedy.proofs.Rounds.{used_is, find_some, round_some, round_none, rounds_more, rounds_none, greedy_after_legal}

-- ---- prices
-- a marginal price is no larger than a weight
price_small : (i : Problem) (t c : ℕ) → IsValid i → IsWithin 1000000 (marginal_price i t c)
price_small i t c valid =
    let a : i.excess ≤ 1000000 = valid.excess in
    let b : i.shortage ≤ 1000000 = valid.shortage in
    elim (nat_lt c (need_at i t)) as (λ b. IsWithin 1000000 (cond b (pos i.shortage) (cond (nat_lt c (need_max_at i t)) (pos 0) (neg_ℤ (pos i.excess))))) [
      | true ↦ record { above = omega (arith, ints); below = omega (arith, ints) }
      | false ↦ elim (nat_lt c (need_max_at i t)) as (λ b. IsWithin 1000000 (cond b (pos 0) (neg_ℤ (pos i.excess)))) [
        | true ↦ record { above = omega (arith, ints); below = omega (arith, ints) }
        | false ↦ record { above = omega (arith, ints); below = omega (arith, ints) }
      ]
    ]

pub prices_small : (i : Problem) (rota : List Duty) (prices : List ℤ) → IsValid i → prices ≡ marginal_prices i rota → ArePrices i prices
unfolding marginal_prices
prices_small i rota prices valid e =
    let f : ℕ → ℤ = λ t. marginal_price i t (cover i rota t) in
    let n : length (map f (below (slots i))) ≡ slots i = length-map-range_with_len f 0 (slots i) in
    record {
      valid = valid;
      all_slots = ap (λ (ps : List ℤ). length ps) e ∙ n;
      small = λ t. subst (λ (ps : List ℤ). IsWithin 1000000 (get_or ps t (pos 0))) (sym e) (elim (cases_lt t (slots i)) [
        | inl l ↦ subst (IsWithin 1000000) (sym (get_or-map-range_with_len f 0 (slots i) t t (pos 0) l (omega arith))) (price_small i t (cover i rota t) valid)
        | inr g ↦ subst (IsWithin 1000000) (sym (get_or_past (map f (below (slots i))) t (pos 0) (omega arith))) (record { above = omega (arith, ints); below = omega (arith, ints) })
      ]);
    }

-- ---- gains
pub counts_is : (i : Problem) (rota : List Duty) (prices : List ℤ) (s day n : ℕ) (v : ℤ) (b : Bool) → b ≡ is_wanted i n v → n ≡ heads_on rota s day → v ≡ day_value i prices s day → prices ≡ marginal_prices i rota → counts i rota s day ≡ b
unfolding counts
counts_is i rota prices s day n v b h en ev ep =
    sym (h ∙ ap (λ k. is_wanted i k v) en ∙ ap (is_wanted i (heads_on rota s day)) (ev ∙ ap (λ p. day_value i p s day) ep))

-- the gain over the days so far, with one more day
pub gain_more : (i : Problem) (rota : List Duty) (prices : List ℤ) (s day : ℕ) (gain v w : ℤ) (b : Bool)
    → gain ≡ int_sum_by (λ day. cond (counts i rota s day) (value_on i rota s day) (pos 0)) (below day)
    → counts i rota s day ≡ b → v ≡ day_value i prices s day → prices ≡ marginal_prices i rota → w ≡ gain +ℤ cond b v (pos 0)
    → w ≡ int_sum_by (λ day. cond (counts i rota s day) (value_on i rota s day) (pos 0)) (below (day + 1))
gain_more i rota prices s day gain v w b h eb ev ep ew =
    let f : ℕ → ℤ = λ day. cond (counts i rota s day) (value_on i rota s day) (pos 0) in
    ew ∙ ap (λ z. z +ℤ cond b v (pos 0)) h ∙ ap (λ z. int_sum_by f (below day) +ℤ cond b z (pos 0)) (ev ∙ ap (λ p. day_value i p s day) ep)
    ∙ ap (λ c. int_sum_by f (below day) +ℤ cond c (value_on i rota s day) (pos 0)) (sym eb) ∙ sym (int_sum_below_more f day)

pub within_more : (day b : ℕ) (gain v : ℤ) → IsWithin (day * b) gain → IsWithin b v → IsWithin ((day + 1) * b) (gain +ℤ v)
within_more day b gain v g w =
    let a : neg_ℤ (pos (day * b)) ≤ℤ gain = g.above in
    let c : gain ≤ℤ pos (day * b) = g.below in
    let d : neg_ℤ (pos b) ≤ℤ v = w.above in
    let e : v ≤ℤ pos b = w.below in
    let m : (day + 1) * b ≡ day * b + b = omega arith in
    record { above = omega (arith, ints); below = omega (arith, ints) }

pub within_same : (day b : ℕ) (gain : ℤ) → IsWithin (day * b) gain → IsWithin ((day + 1) * b) gain
within_same day b gain g =
    let a : neg_ℤ (pos (day * b)) ≤ℤ gain = g.above in
    let c : gain ≤ℤ pos (day * b) = g.below in
    let m : (day + 1) * b ≡ day * b + b = omega arith in
    record { above = omega (arith, ints); below = omega (arith, ints) }

-- the gain over all days
pub gain_all : (i : Problem) (rota : List Duty) (s n : ℕ) (g w : ℤ) (b : Bool)
    → g ≡ int_sum_by (λ day. cond (counts i rota s day) (value_on i rota s day) (pos 0)) (below n) → n ≡ i.days
    → b ≡ is_used rota s → w ≡ g -ℤ cond b (pos 0) (pos i.shift)
    → w ≡ gain i rota s
unfolding gain
gain_all i rota s n g w b h en eb ew =
    let f : ℕ → ℤ = λ day. cond (counts i rota s day) (value_on i rota s day) (pos 0) in
    ew ∙ ap (λ z. z -ℤ cond b (pos 0) (pos i.shift)) (h ∙ ap (λ k. int_sum_by f (below k)) en)
    ∙ ap (λ c. int_sum_by f (below i.days) -ℤ cond c (pos 0) (pos i.shift)) eb

-- what leads all shifts is the next shift
pub next_all : (i : Problem) (rota : List Duty) (n : ℕ) (best : Option ℕ) (top : ℤ) → Leads (gain i rota) n best top → n ≡ length (shift_list i) → best ≡ next_shift i rota
unfolding next_shift
next_all i rota n best top h e = leads_all (gain i rota) n best top h ∙ ap (first_greatest (gain i rota)) e

-- the shift that a round takes is in the shift list
pub taken_below : (i : Problem) (rota : List Duty) (s : ℕ) → Some s ≡ next_shift i rota → s < length (shift_list i)
unfolding next_shift
taken_below i rota s e =
    let f = gain i rota in
    let n = length (shift_list i) in
    from_below n s (find_some (λ s. int_lt (pos 0) (f s) && not (list_any (λ k. int_lt (f s) (f k)) (below n))) (below n) s (sym e)).0

-- ---- new duties
-- the duties of the days so far, with one more day
pub duties_more : (i : Problem) (rota now next : List Duty) (prices : List ℤ) (s day : ℕ) → prices ≡ marginal_prices i rota
    → now ≡ rota ++ map (best_duty i prices s) (filter (counts i rota s) (below day))
    → next ≡ now ++ cond (is_wanted i (heads_on now s day) (day_value i prices s day)) (best_duty i prices s day ∷ []) []
    → next ≡ rota ++ map (best_duty i prices s) (filter (counts i rota s) (below (day + 1)))
unfolding counts
duties_more i rota now next prices s day ep h e =
    let of = best_duty i prices s in
    let p = counts i rota s in
    let done = map of (filter p (below day)) in
    let heads : heads_on now s day ≡ heads_on rota s day = ap (λ ds. heads_on ds s day) h ∙ heads_before rota s day p (λ day. (of day).breaks) in
    let test : is_wanted i (heads_on now s day) (day_value i prices s day) ≡ p day =
    ap (λ n. is_wanted i n (day_value i prices s day)) heads ∙ ap (λ ps. is_wanted i (heads_on rota s day) (day_value i ps s day)) ep in
    e ∙ ap (λ b. now ++ cond b (of day ∷ []) []) test
    ∙ ap (λ zs. zs ++ cond (p day) (of day ∷ []) []) h
    ∙ join (p day) rota done (of day)
    ∙ ap (λ zs. rota ++ zs) (sym (ap (map of) (filter_more p day) ∙ last (p day) (filter p (below day))))
  where
    assoc : (xs ys zs : List Duty) → (xs ++ ys) ++ zs ≡ xs ++ (ys ++ zs)
    assoc [] ys zs = refl
    assoc (x ∷ xs) ys zs = ap (λ ws. x ∷ ws) (assoc xs ys zs)

    join : (b : Bool) (xs ys : List Duty) (d : Duty) → (xs ++ ys) ++ cond b (d ∷ []) [] ≡ xs ++ (ys ++ cond b (d ∷ []) [])
    join b xs ys d = assoc xs ys (cond b (d ∷ []) [])

    last : (b : Bool) (days : List ℕ) → map (best_duty i prices s) (days ++ cond b (day ∷ []) []) ≡ map (best_duty i prices s) days ++ cond b (best_duty i prices s day ∷ []) []
    last true days = map_push (best_duty i prices s) days day
    last false days = ap (map (best_duty i prices s)) (append-nil days) ∙ sym (append-nil (map (best_duty i prices s) days))

pub duties_all : (i : Problem) (rota now : List Duty) (prices : List ℤ) (s day : ℕ) → prices ≡ marginal_prices i rota
    → now ≡ rota ++ map (best_duty i prices s) (filter (counts i rota s) (below day)) → day ≡ i.days → now ≡ rota ++ new_duties i rota s
unfolding new_duties
duties_all i rota now prices s day ep h e =
    h ∙ ap (λ n. rota ++ map (best_duty i prices s) (filter (counts i rota s) (below n))) e
    ∙ ap (λ ps. rota ++ map (best_duty i ps s) (filter (counts i rota s) (below i.days))) ep

-- a day that counts has a new duty
pub day_added : (i : Problem) (prices : List ℤ) (s day n : ℕ) (v : ℤ) (b : Bool) (list : List Break) (old new : List Duty) → b ≡ is_wanted i n v → b ≡ true → n ≡ heads_on old s day → v ≡ day_value i prices s day
    → best_list i prices s day ≡ Some list → new ≡ old ++ duty s day list ∷ []
    → new ≡ old ++ cond (is_wanted i (heads_on old s day) (day_value i prices s day)) (best_duty i prices s day ∷ []) []
day_added i prices s day n v b list old new h t en ev best e =
    e ∙ ap (λ l. old ++ duty s day l ∷ []) (sym (used_is i prices s day list best))
    ∙ ap (λ c. old ++ cond c (best_duty i prices s day ∷ []) []) (sym (sym (h ∙ ap (λ k. is_wanted i k v) en ∙ ap (is_wanted i (heads_on old s day)) ev) ∙ t))

-- another day has none
pub day_left : (i : Problem) (prices : List ℤ) (s day n : ℕ) (v : ℤ) (b : Bool) (old new : List Duty) → b ≡ is_wanted i n v → b ≡ false → n ≡ heads_on old s day → v ≡ day_value i prices s day → new ≡ old
    → new ≡ old ++ cond (is_wanted i (heads_on old s day) (day_value i prices s day)) (best_duty i prices s day ∷ []) []
day_left i prices s day n v b old new h f en ev e =
    e ∙ sym (append-nil old)
    ∙ ap (λ c. old ++ cond c (best_duty i prices s day ∷ []) []) (sym (sym (h ∙ ap (λ k. is_wanted i k v) en ∙ ap (is_wanted i (heads_on old s day)) ev) ∙ f))

-- without a legal list no day counts
pub not_wanted : (i : Problem) (prices : List ℤ) (s day n : ℕ) (v : ℤ) (b : Bool) → b ≡ is_wanted i n v → v ≡ day_value i prices s day → pos 0 ≡ day_value i prices s day → b ≡ false
not_wanted i prices s day n v b h ev none = h ∙ ap (is_wanted i n) (ev ∙ sym none) ∙ and_no (nat_lt n i.heads)
  where
    and_no : (b : Bool) → (b && false) ≡ false
    and_no true = refl
    and_no false = refl

-- ---- rounds
pub opening_leads : (i : Problem) (n : ℕ) (rota : List Duty) → rota ≡ [] → n ≡ length (shift_list i) * i.days * i.heads → LeadsToGreedy i n rota
unfolding greedy_rota
opening_leads i n rota none e = ap (λ k. greedy_after i k rota) e ∙ ap (greedy_after i (length (shift_list i) * i.days * i.heads)) none

-- a round that finds no shift to take leaves the greedy plan
pub round_ends : (i : Problem) (rounds : ℕ) (rota : List Duty) → None ≡ next_shift i rota → LeadsToGreedy i (rounds + 1) rota → LeadsToGreedy i 0 rota
unfolding greedy_after
round_ends i rounds rota e h = sym (round_none i (rounds + 1) rota (sym e)) ∙ h

-- a round that takes a shift leaves one round less
pub round_goes_on : (i : Problem) (rounds s : ℕ) (rota next : List Duty) → Some s ≡ next_shift i rota → next ≡ rota ++ new_duties i rota s → LeadsToGreedy i (rounds + 1) rota → LeadsToGreedy i rounds next
round_goes_on i rounds s rota next e step h =
    let one : rounds + 1 ≡ suc rounds = omega arith in
    ap (greedy_after i rounds) step ∙ sym (round_some i rounds rota s (sym e)) ∙ ap (λ k. greedy_after i k rota) (sym one) ∙ h

-- the round that takes no shift: it leaves the greedy plan, if what it says of that holds
pub last_round : (A : Type 0) (i : Problem) (n k : ℕ) (rota next : List Duty) (more : Bool) → k < n → more ≡ false
    → ((rounds : ℕ) → LeadsToGreedy i (rounds + 1) rota → MatchBool more (LeadsToGreedy i rounds next) (A → LeadsToGreedy i 0 next))
    → LeadsToGreedy i (n - k) rota → A → LeadsToGreedy i 0 next
last_round A i n k rota next more l e step h =
    let one : n - k ≡ n - k - 1 + 1 = omega arith in
    subst (λ b. MatchBool b (LeadsToGreedy i (n - k - 1) next) (A → LeadsToGreedy i 0 next)) e
    (step (n - k - 1) (subst (λ (r : ℕ). LeadsToGreedy i r rota) one h))

-- a round that takes one
pub next_round : (A : Type 0) (i : Problem) (n k : ℕ) (rota next : List Duty) (more : Bool) → k < n → more ≡ true
    → ((rounds : ℕ) → LeadsToGreedy i (rounds + 1) rota → MatchBool more (LeadsToGreedy i rounds next) (A → LeadsToGreedy i 0 next))
    → LeadsToGreedy i (n - k) rota → LeadsToGreedy i (n - (k + 1)) next
next_round A i n k rota next more l e step h =
    let one : n - k ≡ n - (k + 1) + 1 = omega arith in
    subst (λ b. MatchBool b (LeadsToGreedy i (n - (k + 1)) next) (A → LeadsToGreedy i 0 next)) e
    (step (n - (k + 1)) (subst (λ (r : ℕ). LeadsToGreedy i r rota) one h))

-- no round is ahead when all are made
pub rounds_done : (i : Problem) (n k : ℕ) (rota : List Duty) → n ≤ k → LeadsToGreedy i (n - k) rota → LeadsToGreedy i 0 rota
rounds_done i n k rota l h = let none : n - k ≡ 0 = omega arith in subst (λ (r : ℕ). LeadsToGreedy i r rota) none h

-- ---- some number of rounds
pub opening_after : (i : Problem) (rota : List Duty) → rota ≡ [] → IsAfterRounds i rota
opening_after i rota none = (0, none ∙ sym (rounds_none i []))

-- a round that takes a shift is one more
pub one_after : (i : Problem) (s : ℕ) (rota next : List Duty) → Some s ≡ next_shift i rota → next ≡ rota ++ new_duties i rota s → IsAfterRounds i rota → IsAfterRounds i next
one_after i s rota next e step h = (
  suc h.0,
  step ∙ ap (λ (ds : List Duty). ds ++ new_duties i ds s) h.1
      ∙ sym (rounds_more i h.0 [] s (sym (ap (next_shift i) h.1) ∙ sym e)),
)

-- ---- the plan
pub plan_rows : (i : Problem) (rota : List Duty) (rows : List Row) → LeadsToGreedy i 0 rota → rows ≡ rows_of i rota → rows ≡ greedy_rows i
unfolding greedy_rows greedy_after
plan_rows i rota rows h e = e ∙ ap (rows_of i) h

pub rows_after : (i : Problem) (rota : List Duty) (rows : List Row) → IsAfterRounds i rota → rows ≡ rows_of i rota → AreRowsAfterRounds i rows
rows_after i rota rows h e = (h.0, e ∙ ap (rows_of i) h.1)

pub plan_legal : (i : Problem) (rows : List Row) → AreRowsAfterRounds i rows → are_legal_rows i rows ≡ true
plan_legal i rows h = ap (are_legal_rows i) h.1 ∙ rows_legal i (greedy_after i h.0 []) (greedy_after_legal i h.0 [] refl)

pub plan_cheaper : (i : Problem) (rows : List Row) → IsValid i → AreRowsAfterRounds i rows → cost i (rota_of rows) ≤ cost i []
plan_cheaper i rows valid h =
    let rota = greedy_after i h.0 [] in
    let same : cost i (rota_of rows) ≡ cost i rota = ap (λ zs. cost i (rota_of zs)) h.1 ∙ rota_costs i rota (greedy_after_legal i h.0 [] refl) in
    let l : cost i rota ≤ cost i [] = rounds_cheaper i h.0 [] valid in
    omega arith
