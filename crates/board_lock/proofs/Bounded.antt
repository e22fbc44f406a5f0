-- How many commits turns make: each has posted prices or a plan, or another worker's plan had closed its node in the hand.
use Rattle.board_lock.proofs.Common.{◌≡◌, ◌≢◌, ◌⊎◌, inl, inr, ℕ, zero, suc, ◌+◌, ◌-◌, ◌*◌, ◌<◌, ◌≤◌, Bool, true, false, cond, ◌&&◌, ◌==◌, not, List, [], ◌∷◌, ◌++◌, length, drop, get_or, set, refl, sym, ap, ◌∙◌, subst, arith, nat_lt, Option, Some, None, and_parts, cases_Bool, eqb-true, false≢true, append-nil, append_assoc, Problem, Post, Plan, Priced, Split, Settled, StepPosts, Kept, Taken, Closed, Finished, Halted, Spent, Idle, CommitFault, DiskFault, Full, NotHeld, Shut, NotClosing, OtherCuts, NoMemory, book_at, posts_at, yields, BoardView, Commits, CommitRefuses, IsSoundBoard, TakeMakes, book_after, book_of, divided, is_node_and, is_open, priced, settled, step, Book, full_hands, IsCall, IsFresh, a_commit, a_refusal, a_take, a_yield, hand, is_node, is_of, HoldsApart, book_then, close_posts, followed_by, plan_of, plan_posts, posts_of, where_open, book_is, front_folds, hand_set, hand_some, slice_get_front, slice_get_other, at_node_some, bind_some, cond_some, is_plan, is_prices, plans_since, prices_since, AreEmptyFrom, AreTurns, none, one_more}
use Rattle.search_core.specs.declared.board.Taken.TheVariants.{Node as TakenNode}
use Rattle.std.specs.Prelude.{slice_get, count_by}
use Rattle.std.specs.Option.{is_some, option_map_or, option_and_then}
use Rattle.std.specs.List.{list_all, list_any}
use Rattle.std.proofs.lemmas.List.Sums.{sum_by-cons}
use Rattle.std.proofs.lemmas.Option.{slice_get-get_or}
use Rattle.std.proofs.Math.Nat.{mul-add, mul-one}
use Rattle.break_rules.proofs.Counts.{count_by-append}
use Rattle.rota_cost.specs.Costed.{Costing}
use Rattle.head_splits.specs.declared.Prices.{Prices}
use Rattle.head_splits.specs.Nodes.{Node}
use Rattle.search_core.specs.State.{book_or_opening}
use Rattle.search_core.proofs.Boards.{step_of_worker}
use Rattle.search_core.proofs.Closed.{some_node}
use Rattle.search_core.proofs.FewNodes.{sum_set}
use Rattle.board_lock.proofs.Turned.{clear_of}

-- what a test counts for
abbrev one_if : Bool → ℕ
one_if t = cond t 1 0

-- ---- hands whose node is closed

-- whether a hand holds a node that isn't open
abbrev pub is_shut : Book → Option ℕ → Bool
is_shut b h = option_map_or (λ k. not (is_node_and b k (is_open b))) h false

abbrev pub shut_hands : Book → List (Option ℕ) → ℕ
shut_hands b hands = count_by (is_shut b) hands

set_counts : (p : Option ℕ → Bool) (hands : List (Option ℕ)) (w : ℕ) (old new : Option ℕ) → slice_get hands w ≡ Some old → count_by p (set hands w new) + cond (p old) 1 0 ≡ count_by p hands + cond (p new) 1 0
set_counts p hands w old new at = sum_set (λ h. cond (p h) 1 0) hands w old new at

empty_at : (hands : List (Option ℕ)) (w : ℕ) → w < length hands → hand hands w ≡ None → slice_get hands w ≡ Some None
empty_at hands w low empty =
    let at : slice_get hands w ≡ Some (get_or hands w None) = slice_get-get_or hands w None low in
    let is : hand hands w ≡ get_or hands w None = ap (option_and_then (λ (h : Option ℕ). h)) at in
    at ∙ ap Some (sym is ∙ empty)

-- a hand that takes an open node isn't shut
take_shut : (b : Book) (hands : List (Option ℕ)) (w k : ℕ) → w < length hands → hand hands w ≡ None → is_node_and b k (is_open b) ≡ true → shut_hands b (set hands w (Some k)) ≡ shut_hands b hands
take_shut b hands w k low empty opened =
    let e : shut_hands b (set hands w (Some k)) + 0 ≡ shut_hands b hands + cond (not (is_node_and b k (is_open b))) 1 0 = set_counts (is_shut b) hands w None (Some k) (empty_at hands w low empty) in
    let not_shut : one_if (not (is_node_and b k (is_open b))) ≡ 0 = ap (λ (t : Bool). one_if (not t)) opened in
    omega arith

-- a hand that lets go of its node takes that one out of the count
drop_shut : (b : Book) (hands : List (Option ℕ)) (w x : ℕ) → hand hands w ≡ Some x → shut_hands b (set hands w None) + cond (not (is_node_and b x (is_open b))) 1 0 ≡ shut_hands b hands
drop_shut b hands w x held =
    let e : shut_hands b (set hands w None) + cond (not (is_node_and b x (is_open b))) 1 0 ≡ shut_hands b hands + 0 = set_counts (is_shut b) hands w (Some x) None (hand_some hands w x held) in
    omega arith

drop_full : (hands : List (Option ℕ)) (w x : ℕ) → hand hands w ≡ Some x → full_hands (set hands w None) + 1 ≡ full_hands hands
drop_full hands w x held =
    let e : full_hands (set hands w None) + 1 ≡ full_hands hands + 0 = set_counts is_some hands w (Some x) None (hand_some hands w x held) in
    omega arith

yield_shut : (b : Book) (hands : List (Option ℕ)) (w : ℕ) → w < length hands → shut_hands b (set hands w None) ≤ shut_hands b hands
yield_shut b hands w low =
    let h : Option ℕ = get_or hands w None in
    let e : shut_hands b (set hands w None) + cond (is_shut b h) 1 0 ≡ shut_hands b hands + 0 = set_counts (is_shut b) hands w h None (slice_get-get_or hands w None low) in
    omega arith

-- no more hands are shut than full
shut_one : (b : Book) (h : Option ℕ) → cond (is_shut b h) 1 0 ≤ cond (is_some h) 1 0
shut_one b None = omega arith
shut_one b (Some k) = elim (not (is_node_and b k (is_open b))) as (λ t. cond t 1 0 ≤ 1) [ true ↦ omega arith | false ↦ omega arith ]

shut_full : (b : Book) (hands : List (Option ℕ)) → shut_hands b hands ≤ full_hands hands
shut_full b [] = omega arith
shut_full b (h ∷ hands) =
    let shut : shut_hands b (h ∷ hands) ≡ cond (is_shut b h) 1 0 + shut_hands b hands = sum_by-cons (λ x. cond (is_shut b x) 1 0) h hands in
    let full : full_hands (h ∷ hands) ≡ cond (is_some h) 1 0 + full_hands hands = sum_by-cons (λ x. cond (is_some x) 1 0) h hands in
    let one = shut_one b h in
    let rest = shut_full b hands in
    omega arith

-- no more hands are full than there are workers
fill_one : (h : Option ℕ) → cond (is_some h) 1 0 ≤ 1
fill_one None = omega arith
fill_one (Some k) = omega arith

full_below : (hands : List (Option ℕ)) (workers : ℕ) → AreEmptyFrom workers hands → full_hands hands ≤ workers
full_below [] workers clear = omega arith
full_below (h ∷ hands) zero clear =
    let first : h ≡ None = clear 0 (omega arith) in
    let empty : one_if (is_some h) ≡ 0 = ap (λ (x : Option ℕ). one_if (is_some x)) first in
    let full : full_hands (h ∷ hands) ≡ cond (is_some h) 1 0 + full_hands hands = sum_by-cons (λ x. cond (is_some x) 1 0) h hands in
    let rest : full_hands hands ≤ 0 = full_below hands zero (λ w far. clear (suc w) (omega arith)) in
    omega arith
full_below (h ∷ hands) (suc workers) clear =
    let full : full_hands (h ∷ hands) ≡ cond (is_some h) 1 0 + full_hands hands = sum_by-cons (λ x. cond (is_some x) 1 0) h hands in
    let one = fill_one h in
    let rest : full_hands hands ≤ workers = full_below hands workers (λ w far. clear (suc w) (let more : suc workers ≤ suc w = omega arith in more)) in
    omega arith

count_same : (p q : Option ℕ → Bool) (hands : List (Option ℕ)) → ((v : ℕ) (h : Option ℕ) → slice_get hands v ≡ Some h → p h ≡ q h) → count_by p hands ≡ count_by q hands
count_same p q [] same = refl
count_same p q (h ∷ hands) same =
    let one : cond (p h) 1 0 + count_by p hands ≡ cond (q h) 1 0 + count_by p hands = ap (λ (t : Bool). cond t 1 0 + count_by p hands) (same 0 h refl) in
    let rest : count_by p hands ≡ count_by q hands = count_same p q hands (λ v g at. same (suc v) g at) in
    let a : count_by p (h ∷ hands) ≡ cond (p h) 1 0 + count_by p hands = sum_by-cons (λ x. cond (p x) 1 0) h hands in
    let b : count_by q (h ∷ hands) ≡ cond (q h) 1 0 + count_by q hands = sum_by-cons (λ x. cond (q x) 1 0) h hands in
    omega arith

-- ---- posts without a plan leave the best cost and each other node

plain_step : (i : Problem) (b c : Book) (post : Post) (w x j : ℕ) (n : Node) → is_of w x post ≡ true → is_plan post ≡ false → j ≢ x → slice_get b.nodes j ≡ Some n → step i b post ≡ Some c → (c.cost ≡ b.cost) × (slice_get c.nodes j ≡ Some n)
plain_step i b c (Plan worker rows cost) w x j n o no_plan ne there e = absurd (false≢true (sym no_plan))
plain_step i b c (Priced worker k prices) w x j n o no_plan ne there e =
    let r = at_node_some b c k (priced i b k prices) e in
    let q = cond_some _ _ r.2 r.3 in
    let at : k ≡ x = eqb-true k x (and_parts (worker == w) (k == x) o).1 in (
      sym (ap (λ (d : Book). d.cost) r.4),
      subst (λ (d : Book). slice_get d.nodes j ≡ Some n) r.4
          (subst (λ (nodes : List Node). slice_get nodes j ≡ Some n) q.1 (slice_get_other b.nodes k j _ (λ (s : j ≡ k). ne (s ∙ at)) ∙ there)),
    )
plain_step i b c (Split worker k class m) w x j n o no_plan ne there e =
    let r = at_node_some b c k (divided i b k class m) e in
    let q = cond_some _ _ r.2 r.3 in
    let at : k ≡ x = eqb-true k x (and_parts (worker == w) (k == x) o).1 in (
      sym (ap (λ (d : Book). d.cost) r.4),
      subst (λ (d : Book). slice_get d.nodes j ≡ Some n) r.4
          (subst (λ (nodes : List Node). slice_get nodes j ≡ Some n) q.1 (slice_get_front _ _ j n (slice_get_other b.nodes k j _ (λ (s : j ≡ k). ne (s ∙ at)) ∙ there))),
    )
plain_step i b c (Settled worker k) w x j n o no_plan ne there e =
    let r = at_node_some b c k (settled i b k) e in
    let q = cond_some _ _ r.2 r.3 in
    let at : k ≡ x = eqb-true k x (and_parts (worker == w) (k == x) o).1 in (
      sym (ap (λ (d : Book). d.cost) r.4),
      subst (λ (d : Book). slice_get d.nodes j ≡ Some n) r.4
          (subst (λ (nodes : List Node). slice_get nodes j ≡ Some n) q.1 (slice_get_other b.nodes k j _ (λ (s : j ≡ k). ne (s ∙ at)) ∙ there)),
    )

no_plan_first : (post : Post) (posts : List Post) → count_by is_plan (post ∷ posts) ≡ 0 → (is_plan post ≡ false) × (count_by is_plan posts ≡ 0)
no_plan_first post posts nothing =
    let all : count_by is_plan (post ∷ posts) ≡ cond (is_plan post) 1 0 + count_by is_plan posts = sum_by-cons (λ x. cond (is_plan x) 1 0) post posts in
    let rest : count_by is_plan posts ≡ 0 = omega arith in
    elim (cases_Bool (is_plan post)) [
      | inl hit ↦ let one : one_if (is_plan post) ≡ 1 = ap one_if hit in absurd (omega arith)
      | inr miss ↦ (miss, rest)
    ]

plain_posts : (i : Problem) (b c : Book) (posts : List Post) (w x j : ℕ) (n : Node) → list_all (is_of w x) posts ≡ true → count_by is_plan posts ≡ 0 → j ≢ x → slice_get b.nodes j ≡ Some n → book_after i b posts ≡ Some c → (c.cost ≡ b.cost) × (slice_get c.nodes j ≡ Some n)
plain_posts i b c [] w x j n own nothing ne there e =
    let same : b ≡ c = cc (e) in (sym (ap (λ (d : Book). d.cost) same), subst (λ (d : Book). slice_get d.nodes j ≡ Some n) same there)
plain_posts i b c (post ∷ posts) w x j n own nothing ne there e =
    let p = and_parts (is_of w x post) (list_all (is_of w x) posts) own in
    let q = no_plan_first post posts nothing in
    let r = bind_some (λ d. book_after i d posts) (step i b post) c e in
    let s = plain_step i b r.0 post w x j n p.0 q.0 ne there r.1 in
    let t = plain_posts i r.0 c posts w x j n p.1 q.1 ne s.1 r.2 in
    (t.0 ∙ s.0, t.1)

-- so a node in another hand is open after them just where it was
same_shut : (b c : Book) (j : ℕ) (n : Node) → slice_get b.nodes j ≡ Some n → slice_get c.nodes j ≡ Some n → c.cost ≡ b.cost → is_shut c (Some j) ≡ is_shut b (Some j)
same_shut b c j n here there cost =
    ap (λ (o : Option Node). not (option_map_or (is_open c) o false)) there ∙ ap (λ (t : ℕ). not (not n.split && nat_lt n.floor t)) cost
    ∙ sym (ap (λ (o : Option Node). not (option_map_or (is_open b) o false)) here)

module _ (i : Problem) (b c : Book) (hands : List (Option ℕ)) (w x : ℕ) (posts : List Post) (apart : HoldsApart b hands) (held : hand hands w ≡ Some x) (own : list_all (is_of w x) posts ≡ true) (nothing : count_by is_plan posts ≡ 0) (after : book_after i b posts ≡ Some c) where
  other_shut : (v : ℕ) (h : Option ℕ) → slice_get (set hands w None) v ≡ Some h → is_shut c h ≡ is_shut b h
  other_shut v None at = refl
  other_shut v (Some j) at =
      elim (hand_set hands w v None j (ap (option_and_then (λ (h : Option ℕ). h)) at)) [
        | inl p ↦ absurd (cc (p.1))
        | inr p ↦
            let other : j ≢ x = λ (s : j ≡ x). p.0 (apart.distinct v w x (p.1 ∙ ap Some s) held) in
            let found = some_node (λ (n : Node). not n.split) (slice_get b.nodes j) (apart.unsplit v j p.1) in
            let r = plain_posts i b c posts w x j found.0 own nothing other found.1 after in
            same_shut b c j found.0 found.1 r.1 r.0
      ]

  plain_hands : shut_hands c (set hands w None) ≡ shut_hands b (set hands w None)
  plain_hands = count_same (is_shut c) (is_shut b) (set hands w None) other_shut

-- ---- a step for an open node posts a plan or prices

abbrev told : List Post → ℕ
told posts = count_by is_plan posts + count_by is_prices posts

told_append : (xs ys : List Post) → told (xs ++ ys) ≡ told xs + told ys
told_append xs ys =
    let plans : count_by is_plan (xs ++ ys) ≡ count_by is_plan xs + count_by is_plan ys = count_by-append is_plan xs ys in
    let prices : count_by is_prices (xs ++ ys) ≡ count_by is_prices xs + count_by is_prices ys = count_by-append is_prices xs ys in
    omega arith

plans_none : (w : ℕ) (plan : Option Costing) (b : Book) → (plan_posts w plan b ≡ []) ⊎ (1 ≤ told (plan_posts w plan b))
plans_none w None b = inl refl
plans_none w (Some p) b = elim (nat_lt p.cost b.cost) as (λ t. (cond t (Plan w p.rows p.cost ∷ []) [] ≡ []) ⊎ (1 ≤ told (cond t (Plan w p.rows p.cost ∷ []) []))) [ true ↦ inr (omega arith) | false ↦ inl refl ]

open_told : (k w : ℕ) (prices : Prices) (b : Book) → is_node_and b k (is_open b) ≡ true → 1 ≤ told (where_open k (Priced w k prices) b)
open_told k w prices b opened = subst (λ (t : Bool). 1 ≤ told (cond t (Priced w k prices ∷ []) [])) (sym opened) (omega arith)

module _ (i : Problem) (b : Book) where
  told_on : (posts : List Post) (next : Book → List Post) → 1 ≤ told posts → 1 ≤ told (followed_by i b posts next)
  told_on posts next some =
      let both : told (posts ++ next (book_then i b posts)) ≡ told posts + told (next (book_then i b posts)) = told_append posts (next (book_then i b posts)) in
      let more : 1 ≤ told (posts ++ next (book_then i b posts)) = omega arith in
      more

  after_none : (posts : List Post) (next : Book → List Post) → posts ≡ [] → followed_by i b posts next ≡ next b
  after_none posts next nothing = ap (λ (l : List Post). followed_by i b l next) nothing

  step_told : (w : ℕ) (step : StepPosts) → is_node_and b step.node (is_open b) ≡ true → 1 ≤ told (posts_of i b w step)
  step_told w step opened =
      let first : List Post = plan_posts w step.plan b in
      let settles : Book → List Post = plan_posts w (plan_of step.close) in
      let prices : Book → List Post = where_open step.node (Priced w step.node step.proved.prices) in
      let plans : List Post = followed_by i b first settles in
      told_on (followed_by i b plans prices) (close_posts w step.node step.close)
      (elim (plans_none w step.plan b) [
        | inr more ↦ told_on plans prices (told_on first settles more)
        | inl nothing ↦
            let same : plans ≡ settles b = after_none first settles nothing in
            elim (plans_none w (plan_of step.close) b) [
              | inr more ↦ told_on plans prices (subst (λ (l : List Post). 1 ≤ told l) (sym same) more)
              | inl no_more ↦ subst (λ (l : List Post). 1 ≤ told l) (sym (after_none plans prices (same ∙ no_more))) (open_told step.node w step.proved.prices b opened)
            ]
      ])

-- ---- how commits are bounded

times_sum : (all one rest first more workers : ℕ) → all ≡ one + rest → one ≡ first + more → more ≡ workers → first + workers ≤ all
times_sum all one rest first more workers a b c = omega arith

-- a plan more is worth a commit of each worker
times_more : (workers plans more : ℕ) → 1 ≤ more → workers * plans + workers ≤ workers * (plans + more)
times_more workers plans more some =
    let split : plans + more ≡ (plans + 1) + (more - 1) = omega arith in
    times_sum (workers * (plans + more)) (workers * (plans + 1)) (workers * (more - 1)) (workers * plans) (workers * 1) workers
    (ap (λ n. workers * n) split ∙ mul-add workers (plans + 1) (more - 1)) (mul-add workers plans 1) (mul-one workers)

times_none : (workers plans more : ℕ) → more ≡ 0 → workers * (plans + more) ≡ workers * plans
times_none workers plans more nothing = ap (λ n. workers * n) (let e : plans + more ≡ plans = omega arith in e)

with_plan : (commits shut shut' full full' workers prices more times times' : ℕ) → commits + shut ≤ prices + times → full ≤ workers → shut' ≤ full' → full' + 1 ≡ full → times + workers ≤ times' → commits + 1 + shut' ≤ prices + more + times'
with_plan commits shut shut' full full' workers prices more times times' few below less one grows = omega arith

with_prices : (commits shut shut' prices more times times' out : ℕ) → commits + shut ≤ prices + times → shut' + out ≡ shut → 1 ≤ more + out → times' ≡ times → commits + 1 + shut' ≤ prices + more + times'
with_prices commits shut shut' prices more times times' out few one some same = omega arith

sums : (n shut' shut prices' prices plans' plans : ℕ) → shut' ≡ shut → prices' ≡ prices → plans' ≡ plans → n + shut ≤ prices + plans → n + shut' ≤ prices' + plans'
sums n shut' shut prices' prices plans' plans a c d e = omega arith

none_yet : (shut most : ℕ) → shut ≡ 0 → 0 + shut ≤ most
none_yet shut most e = omega arith

less : (n shut most : ℕ) → n + shut ≤ most → n ≤ most
less n shut most e = omega arith

fewer : (n shut' shut most : ℕ) → n + shut ≤ most → shut' ≤ shut → n + shut' ≤ most
fewer n shut' shut most e f = omega arith

zero_or_more : (n : ℕ) → (n ≡ 0) ⊎ (1 ≤ n)
zero_or_more zero = inl refl
zero_or_more (suc n) = inr (omega arith)

-- what turns have posted so far
pub record Bound (workers : ℕ) (old v : BoardView) (commits : ℕ) : Type 0 where
  rest : List Post
  posts : old.history ++ rest ≡ v.history
  few : commits + shut_hands (book_at v) v.hands ≤ count_by is_prices rest + workers * count_by is_plan rest

-- a call that posts nothing, and shuts no hand
quiet : (workers : ℕ) (old v new : BoardView) (commits : ℕ) → Bound workers old v commits → new.instance ≡ v.instance → new.history ≡ v.history → shut_hands (book_at v) new.hands ≤ shut_hands (book_at v) v.hands → Bound workers old new commits
quiet workers old v new commits b instance history no_more =
    let same : book_at new ≡ book_at v = ap (λ (i : Problem). book_or_opening i new.history) instance ∙ ap (book_or_opening v.instance) history in
    let shut : shut_hands (book_at new) new.hands ≡ shut_hands (book_at v) new.hands = ap (λ (c : Book). shut_hands c new.hands) same in
    let now : shut_hands (book_at new) new.hands ≤ shut_hands (book_at v) v.hands = omega arith in
    record {
      rest = b.rest;
      posts = b.posts ∙ sym history;
      few = fewer commits (shut_hands (book_at new) new.hands) (shut_hands (book_at v) v.hands) (count_by is_prices b.rest + workers * count_by is_plan b.rest) b.few now;
    }

take_bound : (answer : Taken) (workers w : ℕ) (old v new : BoardView) (commits : ℕ) → Bound workers old v commits → IsSoundBoard v → w < 16 → hand v.hands w ≡ None → TakeMakes answer w v new → Bound workers old new commits
take_bound Closed workers w old v new commits b s low empty m = subst (λ (u : BoardView). Bound workers old u commits) (sym m.1) b
take_bound Finished workers w old v new commits b s low empty m = subst (λ (u : BoardView). Bound workers old u commits) (sym m.2) b
take_bound Halted workers w old v new commits b s low empty m = subst (λ (u : BoardView). Bound workers old u commits) (sym m.3) b
take_bound Spent workers w old v new commits b s low empty m = subst (λ (u : BoardView). Bound workers old u commits) (sym m.4) b
take_bound (TakenNode k floor best) workers w old v new commits b s low empty m =
    let free = and_parts (is_node_and (book_at v) k (is_open (book_at v))) (not (list_any (is_node k) v.hands)) m.1.free in
    let below : w < length v.hands = let e = s.sixteen in omega arith in
    let shut : shut_hands (book_at v) (set v.hands w (Some k)) ≡ shut_hands (book_at v) v.hands = take_shut (book_at v) v.hands w k below empty free.0 in
    subst (λ (u : BoardView). Bound workers old u commits) (sym m.4)
    (quiet workers old v (record v { hands = set v.hands w (Some k); taken = v.taken + 1 }) commits b refl refl (let same_many : shut_hands (book_at v) (set v.hands w (Some k)) ≤ shut_hands (book_at v) v.hands = omega arith in same_many))
take_bound Idle workers w old v new commits b s low empty m = subst (λ (u : BoardView). Bound workers old u commits) (sym m.2) b

refusal_bound : (fault : CommitFault) (workers w : ℕ) (step : StepPosts) (old v new : BoardView) (commits : ℕ) → Bound workers old v commits → CommitRefuses w step v new fault → Bound workers old new commits
refusal_bound DiskFault workers w step old v new commits b m = subst (λ (u : BoardView). Bound workers old u commits) (sym m.1) (record { rest = b.rest; posts = b.posts; few = b.few })
refusal_bound (Full end limit) workers w step old v new commits b m = subst (λ (u : BoardView). Bound workers old u commits) (sym m.4) (record { rest = b.rest; posts = b.posts; few = b.few })
refusal_bound (NotHeld held) workers w step old v new commits b m = subst (λ (u : BoardView). Bound workers old u commits) (sym m.3) b
refusal_bound Shut workers w step old v new commits b m = subst (λ (u : BoardView). Bound workers old u commits) (sym m.1) b
refusal_bound (NotClosing floor best back) workers w step old v new commits b m = subst (λ (u : BoardView). Bound workers old u commits) (sym m.6) b
refusal_bound (OtherCuts place) workers w step old v new commits b m = subst (λ (u : BoardView). Bound workers old u commits) (sym m.3) b
refusal_bound NoMemory workers w step old v new commits b m = subst (λ (u : BoardView). Bound workers old u commits) (sym m) b

module _ (workers w : ℕ) (old v new : BoardView) (commits : ℕ) (step : StepPosts) (kept : Kept) (b : Bound workers old v commits) (s : IsSoundBoard v) (t : IsSoundBoard new) (clear : AreEmptyFrom workers v.hands) (m : Commits w step v new kept) where
  abbrev posts : List Post
  posts = posts_at v w step

  abbrev emptied : List (Option ℕ)
  emptied = set v.hands w None

  grows : new.history ≡ v.history ++ posts
  grows = ap (λ (u : BoardView). u.history) m.makes

  folds_after : book_of v.instance (v.history ++ posts) ≡ Some t.book
  folds_after =
      subst (λ (l : List Post). book_of v.instance l ≡ Some t.book) grows
      (subst (λ (j : Problem). book_of j new.history ≡ Some t.book) (ap (λ (u : BoardView). u.instance) m.makes) t.folds)

  after : book_after v.instance (book_at v) posts ≡ Some t.book
  after =
      let front = front_folds v.instance v.history posts t.book folds_after in
      subst (λ (c : Book). book_after v.instance c posts ≡ Some t.book) (sym (book_is v.instance v.history front.0 front.1)) front.2

  apart : HoldsApart (book_at v) v.hands
  apart = subst (λ (c : Book). HoldsApart c v.hands) (sym (book_is v.instance v.history s.book s.folds)) s.hands

  full : full_hands emptied + 1 ≡ full_hands v.hands
  full = drop_full v.hands w step.node m.holds.held

  out : shut_hands (book_at v) emptied + cond (not (is_node_and (book_at v) step.node (is_open (book_at v)))) 1 0 ≡ shut_hands (book_at v) v.hands
  out = drop_shut (book_at v) v.hands w step.node m.holds.held

  -- a step without a plan has posted prices, or its node was closed
  some_prices : count_by is_plan posts ≡ 0 → 1 ≤ count_by is_prices posts + cond (not (is_node_and (book_at v) step.node (is_open (book_at v)))) 1 0
  some_prices no_plan =
      elim (cases_Bool (is_node_and (book_at v) step.node (is_open (book_at v)))) [
        | inl opened ↦ let told_some : 1 ≤ told posts = step_told v.instance (book_at v) w step opened in omega arith
        | inr shut ↦ let one : one_if (not (is_node_and (book_at v) step.node (is_open (book_at v)))) ≡ 1 = ap (λ (u : Bool). one_if (not u)) shut in omega arith
      ]

  commit_few : commits + 1 + shut_hands t.book emptied ≤ count_by is_prices b.rest + count_by is_prices posts + workers * (count_by is_plan b.rest + count_by is_plan posts)
  commit_few =
      elim (zero_or_more (count_by is_plan posts)) [
        | inl no_plan ↦
            let same : shut_hands t.book emptied ≡ shut_hands (book_at v) emptied = plain_hands v.instance (book_at v) t.book v.hands w step.node posts apart m.holds.held (step_of_worker v.instance (book_at v) w step) no_plan after in
            let closed : shut_hands t.book emptied + cond (not (is_node_and (book_at v) step.node (is_open (book_at v)))) 1 0 ≡ shut_hands (book_at v) v.hands = ap (λ n. n + cond (not (is_node_and (book_at v) step.node (is_open (book_at v)))) 1 0) same ∙ out in
            with_prices commits (shut_hands (book_at v) v.hands) (shut_hands t.book emptied) (count_by is_prices b.rest) (count_by is_prices posts) (workers * count_by is_plan b.rest)
            (workers * (count_by is_plan b.rest + count_by is_plan posts)) (cond (not (is_node_and (book_at v) step.node (is_open (book_at v)))) 1 0) b.few closed (some_prices no_plan)
            (times_none workers (count_by is_plan b.rest) (count_by is_plan posts) no_plan)
        | inr plan ↦
            with_plan commits (shut_hands (book_at v) v.hands) (shut_hands t.book emptied) (full_hands v.hands) (full_hands emptied) workers (count_by is_prices b.rest) (count_by is_prices posts) (workers * count_by is_plan b.rest)
            (workers * (count_by is_plan b.rest + count_by is_plan posts)) b.few (full_below v.hands workers clear) (shut_full t.book emptied) full
            (times_more workers (count_by is_plan b.rest) (count_by is_plan posts) plan)
      ]

  commit_bound : Bound workers old new (commits + 1)
  commit_bound =
      let prices : count_by is_prices (b.rest ++ posts) ≡ count_by is_prices b.rest + count_by is_prices posts = count_by-append is_prices b.rest posts in
      let plans : workers * count_by is_plan (b.rest ++ posts) ≡ workers * (count_by is_plan b.rest + count_by is_plan posts) = ap (λ n. workers * n) (count_by-append is_plan b.rest posts) in
      let new_at : book_at new ≡ t.book = book_is new.instance new.history t.book t.folds in
      let hands : new.hands ≡ emptied = ap (λ (u : BoardView). u.hands) m.makes in
      let shut : shut_hands (book_at new) new.hands ≡ shut_hands t.book emptied = ap (λ (c : Book). shut_hands c new.hands) new_at ∙ ap (shut_hands t.book) hands in
      record {
        rest = b.rest ++ posts;
        posts = sym (append_assoc old.history b.rest posts) ∙ ap (λ (l : List Post). l ++ posts) b.posts ∙ sym grows;
        few = sums (commits + 1) (shut_hands (book_at new) new.hands) (shut_hands t.book emptied) (count_by is_prices (b.rest ++ posts)) (count_by is_prices b.rest + count_by is_prices posts)
            (workers * count_by is_plan (b.rest ++ posts)) (workers * (count_by is_plan b.rest + count_by is_plan posts)) shut prices plans commit_few;
      }

as_many : (workers : ℕ) (old new : BoardView) (commits : ℕ) → Bound workers old new commits → Bound workers old new (commits + 0)
as_many workers old new commits b = subst (λ (n : ℕ). Bound workers old new n) (let e : commits ≡ commits + 0 = omega arith in e) b

call_bound : (workers : ℕ) (old v new : BoardView) (before more : ℕ) → Bound workers old v before → IsSoundBoard v → IsSoundBoard new → AreEmptyFrom workers v.hands → IsCall v new more → Bound workers old new (before + more)
call_bound workers old v new before more b s t clear (a_take w answer low free m) = as_many workers old new before (take_bound answer workers w old v new before b s low free m)
call_bound workers old v new before more b s t clear (a_commit w step kept m) = commit_bound workers w old v new before step kept b s t clear m
call_bound workers old v new before more b s t clear (a_refusal w step fault m) = as_many workers old new before (refusal_bound fault workers w step old v new before b m)
call_bound workers old v new before more b s t clear (a_yield w low m) =
    let below : w < length v.hands = let e = s.sixteen in omega arith in
    as_many workers old new before (subst (λ (u : BoardView). Bound workers old u before) (sym m) (quiet workers old v (yields w v) before b refl refl (yield_shut (book_at v) v.hands w below)))

-- ---- turns one after another

turns_bound : (workers : ℕ) (old new : BoardView) (commits : ℕ) → IsFresh old → AreTurns workers old new commits → Bound workers old new commits × IsSoundBoard new
turns_bound workers old new commits f none = (
  record {
    rest = [];
    posts = append-nil old.history;
    few =
        let nothing : shut_hands (book_at old) old.hands ≡ 0 = ap (shut_hands (book_at old)) f.empty in
        none_yet (shut_hands (book_at old) old.hands) (count_by is_prices [] + workers * count_by is_plan []) nothing;
  },
  f.sound,
)
turns_bound workers old new commits f (one_more mid next before more turns call sound clear) =
    let r = turns_bound workers old mid before f turns in
    (call_bound workers old mid new before more r.0 r.1 sound (clear_of workers old mid before f.empty turns) call, sound)

drop_front : {X : Type 0} (xs ys : List X) → drop (length xs) (xs ++ ys) ≡ ys
drop_front [] ys = refl
drop_front (x ∷ xs) ys = drop_front xs ys

pub commits_few : (workers : ℕ) (old new : BoardView) (commits : ℕ) → IsFresh old → AreTurns workers old new commits → commits ≤ prices_since old.history new.history + workers * plans_since old.history new.history
commits_few workers old new commits f turns =
    let b = (turns_bound workers old new commits f turns).0 in
    let rest : b.rest ≡ drop (length old.history) new.history = sym (drop_front old.history b.rest) ∙ ap (drop (length old.history)) b.posts in
    subst (λ (l : List Post). commits ≤ count_by is_prices l + workers * count_by is_plan l) rest (less commits (shut_hands (book_at new) new.hands) (count_by is_prices b.rest + workers * count_by is_plan b.rest) b.few)
