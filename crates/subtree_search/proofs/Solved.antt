-- The run of a search that has ended.
use Rattle.subtree_search.proofs.Common.{◌≡◌, ◌⊎◌, inl, inr, ℕ, ◌+◌, ◌-◌, ◌<◌, ◌≤◌, ◌^◌, Bool, true, false, List, length, refl, sym, ap, ◌∙◌, subst, arith, Option, Some, None, slice_get, IsSomeAnd, IsTrue, MatchOption, false≢true, slice_get_within, TOP, Problem, IsValid, Cut, Node, Advice, greedy_advice, kept_after, plan_with_cost, IsOwn, Run, is_finished, IsSound, Searching, opening, top, IsNext, run_of, steps_enough, AreGreedySteps, AreSteps, IsGreedyRun, IsGreedyStep, IsSearched, IsStep, IsStepBy, WhyEnds, none, one_more, no_step, greedy_step}
use Rattle.advisers.specs.declared.greedy_plan.GreedyPlan.{GreedyPlan}
use Rattle.subtree_search.proofs.Enough.{enough_steps, none_open, step_closes}
use Rattle.subtree_search.proofs.Sound.{cuts_few, number_small, run_sound, steps_hold}

-- the cuts of the next node can be priced
pub next_few : (i : Problem) (base : List Cut) (limit budget : ℕ) (s : Searching) (k : ℕ) (n : Node) → IsValid i → AreSteps i base limit s → s.taken ≤ budget → budget ≤ 10 ^ 9 → length base ≤ 2 ^ 28 → slice_get s.nodes k ≡ Some n → length n.cuts ≤ 2 ^ 33
next_few i base limit budget s k n valid steps within small short at = cuts_few i base limit s k n (steps_hold i base limit s valid steps) (omega (arith, within, small)) short at

-- and its number fits
pub next_number : (i : Problem) (base : List Cut) (limit budget : ℕ) (s : Searching) (k : ℕ) (n : Node) → IsValid i → AreSteps i base limit s → s.taken ≤ budget → budget ≤ 10 ^ 9 → IsNext s.nodes (top s) k n → k < 2 ^ 32
next_number i base limit budget s k n valid steps within small next = number_small i base limit s k n (steps_hold i base limit s valid steps) (omega (arith, within, small)) next.there

-- a step counts as one
pub one_taken : (i : Problem) (base : List Cut) (limit : ℕ) (s t : Searching) → IsValid i → limit ≤ TOP → AreSteps i base limit s → IsStep i s t → t.taken ≡ s.taken + 1
one_taken i base limit s t valid le steps st = (step_closes i base limit s t le (steps_hold i base limit s valid steps) st).0

pub within_budget : (i : Problem) (base : List Cut) (limit budget : ℕ) (s t : Searching) → IsValid i → limit ≤ TOP → AreSteps i base limit s → IsStep i s t → s.taken < budget → t.taken ≤ budget
within_budget i base limit budget s t valid le steps st less = let one : t.taken ≡ s.taken + 1 = one_taken i base limit s t valid le steps st in omega (arith, one, less)

-- a node that a search takes, before the budget is spent
pub record Takes (budget : ℕ) (s : Searching) (k : ℕ) : Type 0 where
  pub less : s.taken < budget
  pub node : Node
  pub next : IsNext s.nodes (top s) k node

pub takes : (budget : ℕ) (asks : Bool) (s : Searching) (found : Option ℕ) (k : ℕ) → found ≡ Some k → MatchOption found (WhyEnds budget asks s) (λ j. (s.taken < budget) × ((n : Node) × IsNext s.nodes (top s) j n)) → Takes budget s k
takes budget asks s found k is m =
    let h : (s.taken < budget) × ((n : Node) × IsNext s.nodes (top s) k n) = subst (λ (o : Option ℕ). MatchOption o (WhyEnds budget asks s) (λ j. (s.taken < budget) × ((n : Node) × IsNext s.nodes (top s) j n))) is m in
    record { less = h.0; node = h.1.0; next = h.1.1 }

pub stops : (budget : ℕ) (asks : Bool) (s : Searching) (found : Option ℕ) → found ≡ None → MatchOption found (WhyEnds budget asks s) (λ j. (s.taken < budget) × ((n : Node) × IsNext s.nodes (top s) j n)) → WhyEnds budget asks s
stops budget asks s found is m = subst (λ (o : Option ℕ). MatchOption o (WhyEnds budget asks s) (λ j. (s.taken < budget) × ((n : Node) × IsNext s.nodes (top s) j n))) is m

-- it is one of the search's own
pub takes_within : (budget : ℕ) (s : Searching) (k : ℕ) → Takes budget s k → k < length s.nodes
takes_within budget s k t = slice_get_within s.nodes k t.node t.next.there

-- an adviser can be asked for it
pub asked_few : (i : Problem) (base : List Cut) (limit budget : ℕ) (s : Searching) (k : ℕ) (cuts : List Cut) → IsValid i → AreSteps i base limit s → s.taken ≤ budget → budget ≤ 10 ^ 9 → length base ≤ 2 ^ 28 → Takes budget s k → IsSomeAnd (slice_get s.nodes k) (λ n. cuts ≡ n.cuts) → length cuts ≤ 2 ^ 33
asked_few i base limit budget s k cuts valid steps within small short t asked =
    let same : cuts ≡ t.node.cuts = subst (λ (found : Option Node). IsSomeAnd found (λ n. cuts ≡ n.cuts)) t.next.there asked in
    let few : length t.node.cuts ≤ 2 ^ 33 = next_few i base limit budget s k t.node valid steps within small short t.next.there in
    subst (λ (cs : List Cut). length cs ≤ 2 ^ 33) (sym same) few

-- a search before its first step has taken none
pub opened : (i : Problem) (base : List Cut) (limit : ℕ) (s : Searching) → s ≡ opening base limit → AreSteps i base limit s
opened i base limit s is = subst (AreSteps i base limit) (sym is) none

pub opened_greedy : (i : Problem) (base : List Cut) (limit : ℕ) (s : Searching) → s ≡ opening base limit → AreGreedySteps i base limit s
opened_greedy i base limit s is = subst (AreGreedySteps i base limit) (sym is) no_step

pub opened_within : (base : List Cut) (limit budget : ℕ) (s : Searching) → s ≡ opening base limit → s.taken ≤ budget
opened_within base limit budget s is = let e : s.taken ≡ 0 = ap (λ (x : Searching). x.taken) is in omega (arith, e)

-- no step loses a node
pub within_longer : (k : ℕ) (s t : Searching) → k < length s.nodes → length s.nodes ≤ length t.nodes → k < length t.nodes
within_longer k s t inside longer = omega (arith, inside, longer)

-- and each leaves fewer for the next
pub step_smaller : (i : Problem) (base : List Cut) (limit budget : ℕ) (s t : Searching) → IsValid i → limit ≤ TOP → AreSteps i base limit s → IsStep i s t → s.taken < budget → budget - t.taken < budget - s.taken
step_smaller i base limit budget s t valid le steps st less = let one : t.taken ≡ s.taken + 1 = one_taken i base limit s t valid le steps st in omega (arith, one, less)

-- ---- a step, and one by the greedy adviser

pub is_step : (i : Problem) (k : ℕ) (n : Node) (advice : Advice) (s t : Searching) → slice_get s.nodes k ≡ Some n → IsSomeAnd (slice_get s.nodes k) (λ m. IsStepBy i k m advice s t) → IsStep i s t
is_step i k n advice s t at st = record {
  number = k;
  node = n;
  advice = advice;
  step = subst (λ (found : Option Node). IsSomeAnd found (λ m. IsStepBy i k m advice s t)) at st;
}

pub is_greedy : (i : Problem) (k : ℕ) (n : Node) (cuts : List Cut) (advice : Advice) (s t : Searching) → slice_get s.nodes k ≡ Some n → IsSomeAnd (slice_get s.nodes k) (λ m. cuts ≡ m.cuts) → advice ≡ greedy_advice i cuts
    → IsSomeAnd (slice_get s.nodes k) (λ m. IsStepBy i k m advice s t) → IsGreedyStep i s t
is_greedy i k n cuts advice s t at asked greedy st =
    let same : cuts ≡ n.cuts = subst (λ (found : Option Node). IsSomeAnd found (λ m. cuts ≡ m.cuts)) at asked in
    let by : IsStepBy i k n advice s t = subst (λ (found : Option Node). IsSomeAnd found (λ m. IsStepBy i k m advice s t)) at st in
    record {
      number = k;
      node = n;
      step = subst (λ (a : Advice). IsStepBy i k n a s t) (greedy ∙ ap (greedy_advice i) same) by;
    }

pub greedy_is : (i : Problem) (s t : Searching) → IsGreedyStep i s t → IsStep i s t
greedy_is i s t st = record { number = st.number; node = st.node; advice = greedy_advice i st.node.cuts; step = st.step }

pub greedy_are : (i : Problem) (base : List Cut) (limit : ℕ) (s : Searching) → AreGreedySteps i base limit s → AreSteps i base limit s
greedy_are i base limit s no_step = none
greedy_are i base limit s (greedy_step r t before st) = one_more r t (greedy_are i base limit r before) (greedy_is i r t st)

-- the greedy adviser stays the instance's own
pub own_after : (i : Problem) (keeps : Bool) (kept : Option GreedyPlan) → IsOwn kept i → IsOwn (kept_after keeps kept (plan_with_cost i)) i
own_after i true kept own = own
own_after i false kept own = own

pub own_opening : (i : Problem) (kept : Option GreedyPlan) → kept ≡ None → IsOwn kept i
own_opening i kept is = subst (λ (o : Option GreedyPlan). IsOwn o i) (sym is) refl

pub greedy_run : (i : Problem) (base : List Cut) (limit : ℕ) (s : Searching) (r : Run) → AreGreedySteps i base limit s → r ≡ run_of i s → IsGreedyRun i base limit r
greedy_run i base limit s r steps is = record { search = s; steps = steps; run = is }

-- ---- the end

-- the run is sound
pub sound_run : (i : Problem) (base : List Cut) (limit budget : ℕ) (s : Searching) → IsValid i → AreSteps i base limit s → s.taken ≤ budget → budget ≤ 10 ^ 9 → IsSound (run_of i s)
sound_run i base limit budget s valid steps within small = run_sound i base limit s valid steps (omega (arith, within, small))

pub searched_run : (i : Problem) (base : List Cut) (limit budget : ℕ) (s : Searching) (r : Run) → AreSteps i base limit s → s.taken ≤ budget → r ≡ run_of i s → IsSearched i base limit budget r
searched_run i base limit budget s r steps within is =
    let taken : r.taken ≡ s.taken = ap (λ (x : Run). x.taken) is in
    record { search = s; steps = steps; run = is; within = omega (arith, taken, within) }

-- why it ends
pub run_ends : (i : Problem) (budget : ℕ) (asks : Bool) (s : Searching) (r : Run) → WhyEnds budget asks s → r ≡ run_of i s → IsTrue (is_finished r) ⊎ ((r.taken ≡ budget) ⊎ (asks ≡ true))
run_ends i budget asks s r (inl shut) is = inl (ap is_finished is ∙ none_open i s shut)
run_ends i budget asks s r (inr (inl spent)) is = inr (inl (ap (λ (x : Run). x.taken) is ∙ spent))
run_ends i budget asks s r (inr (inr asked)) is = inr (inr asked)

-- where the budget is enough, no node is open
pub run_finished : (i : Problem) (base : List Cut) (limit budget : ℕ) (asks : Bool) (s : Searching) (r : Run) → IsValid i → limit ≤ TOP → AreSteps i base limit s → steps_enough i base ≤ budget → WhyEnds budget asks s → r ≡ run_of i s
    → IsTrue (is_finished r) ⊎ (asks ≡ true)
run_finished i base limit budget asks s r valid le steps enough (inl shut) is = inl (ap is_finished is ∙ none_open i s shut)
run_finished i base limit budget asks s r valid le steps enough (inr (inl spent)) is = inl (ap is_finished is ∙ enough_steps i base limit budget s valid le steps spent enough)
run_finished i base limit budget asks s r valid le steps enough (inr (inr asked)) is = inr asked

-- a stop that can't ask is no reason
pub never_ends : (A B : Type 0) → A ⊎ (B ⊎ (false ≡ true)) → A ⊎ B
never_ends A B (inl a) = inl a
never_ends A B (inr (inl b)) = inr b
never_ends A B (inr (inr e)) = absurd (false≢true e)

pub never_asked : (A : Type 0) → A ⊎ (false ≡ true) → A
never_asked A (inl a) = a
never_asked A (inr e) = absurd (false≢true e)
