-- Why a post isn't allowed.
use Rattle.std.specs.Prelude.{◌≡◌, ⊤, ℕ, ◌-◌, ◌&&◌, ◌==◌, not, nat_lt, nat_le, List, [], ◌∷◌, ◌++◌, Option, Some, None, slice_get, if◌then◌else◌}
use Rattle.std.specs.Option.{option_map, option_map_or, option_and_then, option_or}
use Rattle.break_rules.specs.Causes.{first_cause}
use Rattle.shift_instance.specs.declared.Row.{Row}
use Rattle.shift_instance.specs.Problem.{Problem}
use Rattle.shift_instance.specs.Rota.{cost, rota_of}
use Rattle.head_splits.specs.declared.Class.{Class}
use Rattle.head_splits.specs.Cuts.{low, high}
use Rattle.head_splits.specs.declared.Prices.{Prices}
use Rattle.head_splits.specs.Settled.{is_live_class, is_settled, split_class}
use Rattle.dual_bound.specs.declared.PriceFault.{PriceFault}
use Rattle.dual_bound.specs.declared.PriceFault.TheVariants.{Scale, SlotCount, SlotPrice, CutCount, CutPrice, NoMemory as NoMemoryForBound}
use Rattle.dual_bound.specs.Faults.{price_causes}
use Rattle.rota_cost.specs.RowFaults.{row_fault}
use Rattle.post_codec.specs.declared.post.Post.{Post}
use Rattle.search_core.specs.declared.fault.StepFault.{StepFault}
use Rattle.search_core.specs.declared.fault.StepFault.TheVariants.{NotLegal, WrongCost, NotBetter, NoNode, IsSplit, NotOpen, NotLive, OutOfRange, NotSettled, Price, NoMemory}
use Rattle.post_codec.specs.declared.post.Post.TheVariants.{Plan, Priced, Split, Settled}
use Rattle.search_core.specs.Book.{Book, step}
use Rattle.search_core.specs.State.{StateView}

-- why a plan of that cost isn't better than a best rota: its rows, its cost, and a best rota that costs no more
abbrev pub plan_fault : Problem → ℕ → List Row → ℕ → Option StepFault
plan_fault i best rows c =
    option_or (option_map NotLegal (row_fault i rows)) (first_cause (
    (not (cost i (rota_of rows) == c), WrongCost c (cost i (rota_of rows)))
    ∷ (nat_le best c, NotBetter best)
    ∷ []
    ))

-- why a node isn't unsplit: there is none of that number, or it is split
abbrev pub unsplit_fault : Book → ℕ → Option StepFault
unsplit_fault b k = option_map_or (λ n. if n.split then Some (IsSplit k) else None) (slice_get b.nodes k) (Some (NoNode k))

-- the fault of prices, as a refusal of the post with them
abbrev pub of_price_fault : PriceFault → StepFault
of_price_fault Scale = Price Scale
of_price_fault SlotCount = Price SlotCount
of_price_fault (SlotPrice slot) = Price (SlotPrice slot)
of_price_fault CutCount = Price CutCount
of_price_fault (CutPrice cut) = Price (CutPrice cut)
of_price_fault NoMemoryForBound = NoMemory

-- why a node isn't priced: it isn't unsplit, or the prices aren't a price set for its cuts
abbrev pub priced_fault : Problem → Book → ℕ → Prices → Option StepFault
priced_fault i b k prices =
    option_or (unsplit_fault b k) (option_and_then (λ n. option_map Price (first_cause (price_causes i n.cuts prices))) (slice_get b.nodes k))

-- why a node isn't settled: it isn't unsplit, or its cuts leave the number of a class open by which to split it
abbrev pub settled_fault : Problem → Book → ℕ → Option StepFault
settled_fault i b k =
    option_or (unsplit_fault b k) (option_and_then (λ n. if is_settled i n.cuts then None else option_map NotSettled (split_class i n.cuts)) (slice_get b.nodes k))

-- why a node isn't open: there is none of that number, or it is split, or its floor isn't below the best cost
abbrev pub open_fault : Book → ℕ → Option StepFault
open_fault b k =
    option_map_or (λ n. first_cause ((n.split, IsSplit k) ∷ (nat_le b.cost n.floor, NotOpen n.floor b.cost) ∷ [])) (slice_get b.nodes k) (Some (NoNode k))

-- why a node isn't split by the number of a class: it isn't open, the class isn't live, or the node's cuts don't leave the number open
abbrev pub split_fault : Problem → Book → ℕ → Class → ℕ → Option StepFault
split_fault i b k class m =
    option_or (open_fault b k) (option_and_then (λ n. first_cause (
    (not (is_live_class i class), NotLive class)
    ∷ (not (nat_le (low n.cuts class) m && nat_lt m (high i n.cuts class)), OutOfRange (low n.cuts class) (high i n.cuts class))
    ∷ []
    )) (slice_get b.nodes k))

-- why a post isn't allowed, the first cause in the order of its kind
abbrev pub step_fault : Problem → Book → Post → Option StepFault
step_fault i b (Plan worker rows c) = plan_fault i b.cost rows c
step_fault i b (Priced worker k prices) = priced_fault i b k prices
step_fault i b (Split worker k class m) = split_fault i b k class m
step_fault i b (Settled worker k) = settled_fault i b k

-- a refusal is the first that applies, or running out of memory
abbrev pub Refuses : Option StepFault → StepFault → Type 0
Refuses fault NoMemory = ⊤
Refuses fault why = fault ≡ Some why

-- a state after a post that its book allows
abbrev pub Steps : StateView → StateView → Post → Type 0
Steps old new post =
    (step old.instance old.book post ≡ Some new.book)
    × (new ≡ record old { history = old.history ++ post ∷ []; book = new.book; spare = old.spare - 1 })
