-- The definitions, computed on an instance whose costs are known by hand: a shift that is used costs 3, and 8 without it.
use Rattle.search_core.proofs.Common.{◌≡◌, ℕ, List, [], ◌∷◌, ◌++◌, replicate, refl, map, length, Some, None, Option, option_map, whole_class, Node, Prices, Post, Plan, Priced, Split, Settled, Event, Take, Commit, Yield, Crash, book_of, floor_of, Core, start, run}
use Rattle.std.specs.Prelude.{pos}
use Rattle.shift_instance.proofs.Examples.{one_morning, row}

-- the price 2 in the slots from 8 to 12
abbrev prices : Prices
prices = record { q = 1; slots = replicate 8 (pos 0) ++ replicate 4 (pos 2) ++ replicate 12 (pos 0); cuts = [] }

floors : List Post → Option (List ℕ)
floors posts = option_map (λ b. map (λ (n : Node). n.floor) b.nodes) (book_of one_morning posts)

abbrev split_root : Post
split_root = Split 0 0 (whole_class 0 0) 0

root_split : floors (split_root ∷ []) ≡ Some (0 ∷ 0 ∷ 0 ∷ [])
unfolding floors
root_split = refl

both_settled : floors (split_root ∷ Settled 0 1 ∷ Settled 0 2 ∷ []) ≡ Some (0 ∷ 8 ∷ 3 ∷ [])
unfolding floors
both_settled = refl

split_again : floors (split_root ∷ split_root ∷ []) ≡ None
unfolding floors
split_again = refl

no_second_duty : floors (Split 0 0 (whole_class 0 0) 1 ∷ []) ≡ None
unfolding floors
no_second_duty = refl

not_cheaper : floors (Plan 0 [] 8 ∷ []) ≡ None
unfolding floors
not_cheaper = refl

not_there : floors (Settled 0 1 ∷ []) ≡ None
unfolding floors
not_there = refl

abbrev plan_and_prices : List Post
plan_and_prices = Plan 0 (row 1 ∷ []) 3 ∷ Priced 0 0 prices ∷ []

-- a plan and prices close the root
closed_root : option_map floor_of (book_of one_morning plan_and_prices) ≡ Some 3
closed_root = refl

-- how many posts a core has after events, and how many are acknowledged
posts_after : List Event → Option (ℕ × ℕ)
posts_after events = option_map (λ (c : Core). (length c.history, c.acked)) (run one_morning start events)

committed : posts_after (Take 0 0 ∷ Commit 0 plan_and_prices ∷ []) ≡ Some (2, 0)
unfolding posts_after
committed = refl

acknowledged : posts_after (Take 0 0 ∷ Commit 0 plan_and_prices ∷ Yield 1 ∷ []) ≡ Some (2, 2)
unfolding posts_after
acknowledged = refl

lost : posts_after (Take 0 0 ∷ Commit 0 plan_and_prices ∷ Crash 1 ∷ []) ≡ Some (1, 1)
unfolding posts_after
lost = refl

-- what is acknowledged isn't lost, a node is in one hand, and a commit closes its node
kept : posts_after (Take 0 0 ∷ Commit 0 plan_and_prices ∷ Yield 1 ∷ Crash 1 ∷ []) ≡ None
unfolding posts_after
kept = refl

in_one_hand : posts_after (Take 0 0 ∷ Take 1 0 ∷ []) ≡ None
unfolding posts_after
in_one_hand = refl

left_open : posts_after (Take 0 0 ∷ Commit 0 (Plan 0 (row 1 ∷ []) 3 ∷ []) ∷ []) ≡ None
unfolding posts_after
left_open = refl
