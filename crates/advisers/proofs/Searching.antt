-- The best of the rounds, found one after another.
use Rattle.advisers.proofs.Common.{◌≡◌, inl, inr, ℕ, zero, suc, ◌+◌, ◌<◌, ◌≤◌, Bool, true, false, cond, not, List, Option, Some, refl, sym, ap, ◌∙◌, subst, arith, nat_lt, nat_le, unwrap_or, option_map_or, list_any, find, range_with_len, cases_Bool, cases_eq, lt-ltb, ltb-true, leb-true, Has-below, from_below, any_at, any_some, Problem, below, Cut, Valued, best_prices, first_prices, greatest_round, next_prices, prices_in, rounds_made, step_in, value_in, IsRound, IsSearched, Leads, better, pricing_in, valued_of}
use Rattle.greedy.proofs.Leading.{find_none}

not_most : (a b : ℕ) → b < a → nat_le a b ≡ false
not_most a b h = grind arith

is_most : (a b : ℕ) → a ≤ b → nat_le a b ≡ true
is_most a b h = grind arith

find_first : (p : ℕ → Bool) (a n b : ℕ) → a ≤ b → b < a + n → p b ≡ true → ((j : ℕ) → a ≤ j → j < b → p j ≡ false) → find p (range_with_len a n) ≡ Some b
find_first p a zero b low high passes fails = absurd (omega arith)
find_first p a (suc n) b low high passes fails =
    elim (cases_eq a b) [
      | inl e ↦ ap (λ c. cond c (Some a) (find p (range_with_len (a + 1) n))) (ap p e ∙ passes) ∙ ap Some e
      | inr ne ↦
          let less : a < b = omega arith in
          ap (λ c. cond c (Some a) (find p (range_with_len (a + 1) n))) (fails a (omega arith) less)
          ∙ find_first p (a + 1) n b (omega arith) (omega arith) passes (λ j l m. fails j (omega arith) m)
    ]

-- the round that leads is the one of greatest value
greatest_is : (value : ℕ → ℕ) (last leader : ℕ) → Leads value last leader → greatest_round value (last + 1) ≡ leader
unfolding greatest_round
greatest_is value last leader h =
    let within : leader < last + 1 = (let w : leader ≤ last = h.within in omega arith) in
    ap (λ (o : Option ℕ). unwrap_or o 0)
    (find_first (λ round. not (list_any (λ other. nat_lt (value round) (value other)) (below (last + 1)))) 0 (last + 1) leader (omega arith) (omega arith)
    (elim (cases_Bool (list_any (λ other. nat_lt (value leader) (value other)) (below (last + 1)))) [
      | inl t ↦
          let k = any_some (λ other. nat_lt (value leader) (value other)) (below (last + 1)) t in
          let in_range : k.0 < last + 1 = from_below (last + 1) k.0 k.1 in
          let more : value leader < value k.0 = ltb-true (value leader) (value k.0) k.2 in
          let less : value k.0 ≤ value leader = h.most k.0 (omega arith) in
          absurd (omega arith)
      | inr e ↦ ap not e
    ])
    (λ j l m. ap not (any_at (λ other. nat_lt (value j) (value other)) (below (last + 1)) leader (Has-below (last + 1) leader within) (lt-ltb (value j) (value leader) (h.first j m)))))

-- where the rounds before one are short of the goal, and it isn't or is the last, they and it are made
made_at : (value : ℕ → ℕ) (goal most round : ℕ) → ((k : ℕ) → k < round → value k < goal) → goal ≤ value round → round < most → rounds_made value goal most ≡ round + 1
unfolding rounds_made
made_at value goal most round short reached inside =
    ap (λ (o : Option ℕ). option_map_or (λ (r : ℕ). r + 1) o most)
    (find_first (λ r. nat_le goal (value r)) 0 most round (omega arith) (omega arith) (is_most goal (value round) reached) (λ j l m. not_most goal (value j) (short j m)))

made_all : (value : ℕ → ℕ) (goal last : ℕ) → ((k : ℕ) → k < last → value k < goal) → rounds_made value goal (last + 1) ≡ last + 1
unfolding rounds_made
made_all value goal last short =
    elim (cases_Bool (nat_le goal (value last))) [
      | inl t ↦ made_at value goal (last + 1) last short (leb-true goal (value last) t) (omega arith)
      | inr e ↦ ap (λ (o : Option ℕ). option_map_or (λ (r : ℕ). r + 1) o (last + 1))
          (find_none (λ r. nat_le goal (value r)) (below (last + 1)) (λ k m.
          let in_range : k < last + 1 = from_below (last + 1) k m in
          elim (cases_eq k last) [
            | inl same ↦ ap (λ (n : ℕ). nat_le goal (value n)) same ∙ e
            | inr other ↦ let less : k < last = omega arith in not_most goal (value k) (short k less)
          ]))
    ]

leads_first : (value : ℕ → ℕ) → Leads value 0 0
leads_first value = record {
  within = omega arith;
  most = λ k h. let e : k ≡ 0 = omega arith in subst (λ (n : ℕ). value n ≤ value 0) (sym e) (omega arith);
  first = λ k h. absurd (omega arith);
}

module _ (value : ℕ → ℕ) (last leader : ℕ) (h : Leads value last leader) where
  leads_more : value leader < value (last + 1) → Leads value (last + 1) (last + 1)
  leads_more more = record {
    within = omega arith;
    most = λ k l. elim (cases_eq k (last + 1)) [
      | inl e ↦ subst (λ (n : ℕ). value n ≤ value (last + 1)) (sym e) (omega arith)
      | inr ne ↦ let b : value k ≤ value leader = h.most k (omega arith) in omega arith
    ];
    first = λ k l. let b : value k ≤ value leader = h.most k (omega arith) in omega arith;
  }

  leads_still : value (last + 1) ≤ value leader → Leads value (last + 1) leader
  leads_still no_more = record {
    within = (let w : leader ≤ last = h.within in omega arith);
    most = λ k l. elim (cases_eq k (last + 1)) [
      | inl e ↦ subst (λ (n : ℕ). value n ≤ value leader) (sym e) no_more
      | inr ne ↦ h.most k (omega arith)
    ];
    first = h.first;
  }

-- ---- the search
pub first_round : (i : Problem) (cuts : List Cut) (q : ℕ) → prices_in i cuts q 0 ≡ first_prices i cuts q
unfolding prices_in
first_round i cuts q = refl

pub next_round : (i : Problem) (cuts : List Cut) (q round : ℕ) → prices_in i cuts q (round + 1) ≡ next_prices i cuts (step_in q round) (prices_in i cuts q round)
unfolding prices_in
next_round i cuts q round = ap (prices_in i cuts q) (let e : round + 1 ≡ suc round = omega arith in e)

-- a pricer of a round has the round's prices with their value
pub round_of : (i : Problem) (cuts : List Cut) (q round : ℕ) (v : Valued) → v ≡ valued_of (pricing_in i cuts q round) → IsRound i cuts q round v
round_of i cuts q round v same = record {
  prices = ap (λ (w : Valued). w.prices) same;
  value = ap (λ (w : Valued). w.value) same;
}

pub searched_first : (i : Problem) (cuts : List Cut) (q goal : ℕ) (best : Valued) → IsRound i cuts q 0 best → IsSearched i cuts q goal 0 best
searched_first i cuts q goal best here = record {
  leader = 0;
  led = here;
  leads = leads_first (value_in i cuts q);
  short = λ k h. absurd (omega arith);
}

pub searched_next : (i : Problem) (cuts : List Cut) (q goal round : ℕ) (best next new : Valued) → IsSearched i cuts q goal round best → value_in i cuts q round < goal → IsRound i cuts q (round + 1) next
    → new ≡ better best next → IsSearched i cuts q goal (round + 1) new
searched_next i cuts q goal round best next new h below_goal there is =
    let value : ℕ → ℕ = value_in i cuts q in
    let two : best.value ≡ value h.leader = h.led.value in
    let three : next.value ≡ value (round + 1) = there.value in
    let short : (k : ℕ) → k < round + 1 → value k < goal = λ k l. elim (cases_eq k round) [
      | inl e ↦ subst (λ (n : ℕ). value n < goal) (sym e) below_goal
      | inr ne ↦ h.short k (omega arith)
    ] in
    elim (cases_Bool (nat_lt best.value next.value)) [
      | inl t ↦ record {
        leader = round + 1;
        led = subst (λ (v : Valued). IsRound i cuts q (round + 1) v) (sym (is ∙ ap (λ (b : Bool). cond b next best) t)) there;
        leads = leads_more value round h.leader h.leads (let m : best.value < next.value = ltb-true best.value next.value t in omega arith);
        short = short;
      }
      | inr e ↦ record {
        leader = h.leader;
        led = subst (λ (v : Valued). IsRound i cuts q h.leader v) (sym (is ∙ ap (λ (b : Bool). cond b next best) e)) h.led;
        leads = leads_still value round h.leader h.leads (let m : next.value ≤ best.value = no_less best.value next.value e in omega arith);
        short = short;
      }
    ]
  where
    no_less : (a b : ℕ) → nat_lt a b ≡ false → b ≤ a
    no_less a b e = grind arith

pub searched_reached : (i : Problem) (cuts : List Cut) (q goal round most : ℕ) (best : Valued) → IsSearched i cuts q goal round best → goal ≤ value_in i cuts q round → round < most → best.prices ≡ best_prices i cuts q goal most
unfolding best_prices
searched_reached i cuts q goal round most best h reached inside =
    let value : ℕ → ℕ = value_in i cuts q in
    let made : rounds_made value goal most ≡ round + 1 = made_at value goal most round h.short reached inside in
    h.led.prices ∙ sym (ap (λ (n : ℕ). prices_in i cuts q (greatest_round value n)) made ∙ ap (prices_in i cuts q) (greatest_is value round h.leader h.leads))

pub searched_last : (i : Problem) (cuts : List Cut) (q goal last most : ℕ) (best : Valued) → IsSearched i cuts q goal last best → most ≡ last + 1 → best.prices ≡ best_prices i cuts q goal most
unfolding best_prices
searched_last i cuts q goal last most best h all =
    let value : ℕ → ℕ = value_in i cuts q in
    h.led.prices
    ∙ sym (ap (λ (n : ℕ). prices_in i cuts q (greatest_round value (rounds_made value goal n))) all
    ∙ ap (λ (n : ℕ). prices_in i cuts q (greatest_round value n)) (made_all value goal last h.short)
    ∙ ap (prices_in i cuts q) (greatest_is value last h.leader h.leads))
