-- Why prices aren't a price set for some cuts. Source: this project's profile.
use Rattle.std.specs.Prelude.{◌≡◌, ◌⊎◌, ℕ, ℤ, Bool, not, ◌&&◌, ◌==◌, nat_le, List, [], ◌∷◌, ◌++◌, map, length, Option, Some, None, codes}
use Rattle.std.specs.List.{enumerate_from, zip}
use Rattle.std.specs.Fmt.{decimal}
use Rattle.shift_instance.specs.Problem.{Problem, slots}
use Rattle.head_splits.specs.declared.Cut.{Cut}
use Rattle.head_splits.specs.declared.Prices.{Prices}
use Rattle.head_splits.specs.Bound.{is_slot_price, is_cut_price}
use Rattle.dual_bound.specs.declared.PriceFault.{PriceFault}
use Rattle.dual_bound.specs.declared.PriceFault.TheVariants.{Scale, SlotCount, SlotPrice, CutCount, CutPrice, NoMemory}

-- a price outside its slot's range, by the slot
abbrev pub slot_cause : Problem → ℕ → ℕ × ℤ → Bool × PriceFault
slot_cause i q p = (not (is_slot_price i q p.1), SlotPrice p.0)

-- a price outside its cut's range, by the cut
abbrev pub cut_cause : ℕ × (Cut × ℕ) → Bool × PriceFault
cut_cause p = (not (is_cut_price p.1), CutPrice p.0)

-- the causes that concern the slots' prices
abbrev pub slot_causes : Problem → ℕ → List ℤ → List (Bool × PriceFault)
slot_causes i q prices = map (slot_cause i q) (enumerate_from 0 prices)

-- the causes that concern the cuts' prices
abbrev pub cut_causes : List Cut → List ℕ → List (Bool × PriceFault)
cut_causes cuts prices = map cut_cause (enumerate_from 0 (zip cuts prices))

-- the causes that concern the scale and the number of the slots' prices
abbrev pub size_causes : Problem → Prices → List (Bool × PriceFault)
size_causes i prices =
    (not (nat_le 1 prices.q && nat_le prices.q 10000), Scale)
    ∷ (not (length prices.slots == slots i), SlotCount)
    ∷ []

-- the causes in the order in which they are answered
unfoldable pub price_causes : Problem → List Cut → Prices → List (Bool × PriceFault)
price_causes i cuts prices =
    size_causes i prices
    ++ slot_causes i prices.q prices.slots
    ++ (not (length prices.cuts == length cuts), CutCount) ∷ []
    ++ cut_causes cuts prices.cuts

-- a fault is the first cause's, or there is none and it is running out of memory
abbrev pub Answers : PriceFault → Option PriceFault → Type 0
Answers fault cause = (cause ≡ Some fault) ⊎ ((fault ≡ NoMemory) × (cause ≡ None))

-- a fault's number, and then its field, separated by a space
abbrev pub price_fault_text : PriceFault → List ℕ
price_fault_text Scale = codes "1"
price_fault_text SlotCount = codes "2"
price_fault_text (SlotPrice slot) = codes "3 " ++ decimal slot
price_fault_text CutCount = codes "4"
price_fault_text (CutPrice cut) = codes "5 " ++ decimal cut
price_fault_text NoMemory = codes "no memory"
