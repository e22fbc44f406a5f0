-- The text of rows and of proof lines, line by line. A line stands without its line feed.
-- Source: this project's own format.
use Rattle.std.specs.Prelude.{ℕ, ◌<◌, ◌^◌, List, [], ◌∷◌, ◌++◌, length, All, codes, FitsSigned}
use Rattle.std.specs.List.{flat_map, join_with_byte}
use Rattle.std.specs.Fmt.{decimal, signed_decimal}
use Rattle.std.specs.Int.{w64}
use Rattle.break_rules.specs.declared.Break.{Break}
use Rattle.shift_instance.specs.declared.Row.{Row}
use Rattle.head_splits.specs.declared.Class.{Class}
use Rattle.head_splits.specs.declared.Prices.{Prices}
use Rattle.certificate.specs.declared.proof_lines.Line.{Line as ProofLine}
use Rattle.certificate.specs.declared.proof_lines.Line.TheVariants.{Split, Priced, Settled}

-- the bytes of a line, without its line feed
abbrev pub Line : Type 0
Line = List ℕ

-- a break as `start+length`
abbrev pub break_text : Break → List ℕ
break_text b = decimal b.start ++ 43 ∷ decimal b.len

-- texts with commas between them
abbrev pub joined : {A : Type 0} → (A → List ℕ) → List A → List ℕ
joined text [] = []
joined text (x ∷ xs) = text x ++ flat_map (λ next. 44 ∷ text next) xs

-- texts with commas between them, and `-` where there are none
abbrev pub joined_or_dash : {A : Type 0} → (A → List ℕ) → List A → List ℕ
joined_or_dash text [] = codes "-"
joined_or_dash text (x ∷ xs) = joined text (x ∷ xs)

-- breaks with commas between them, and `-` where there are none
abbrev pub breaks_text : List Break → List ℕ
breaks_text bs = joined_or_dash break_text bs

-- the line of a row: `row SHIFT DAY COUNT BREAKS`
abbrev pub row_line : Row → Line
row_line r = join_with_byte 32 (codes "row" ∷ decimal r.shift ∷ decimal r.day ∷ decimal r.count ∷ breaks_text r.breaks ∷ [])

-- the line of a split: `split NODE SHIFT DAY BREAKS M`
abbrev pub split_line : ℕ → Class → ℕ → Line
split_line node class m = join_with_byte 32 (codes "split" ∷ decimal node ∷ decimal class.shift ∷ decimal class.day ∷ breaks_text class.prefix ∷ decimal m ∷ [])

-- the line of a priced node: `priced NODE SCALE SLOTS CUTS`, where SLOTS are the prices of the slots, and CUTS those of the cuts
abbrev pub priced_line : ℕ → Prices → Line
priced_line node prices = join_with_byte 32 (codes "priced" ∷ decimal node ∷ decimal prices.q ∷ joined signed_decimal prices.slots ∷ joined_or_dash decimal prices.cuts ∷ [])

-- the line of a settled node: `settled NODE`
abbrev pub settled_line : ℕ → Line
settled_line node = join_with_byte 32 (codes "settled" ∷ decimal node ∷ [])

-- a proof line
abbrev pub proof_line : ProofLine → Line
proof_line (Split node class m) = split_line node class m
proof_line (Priced node prices) = priced_line node prices
proof_line (Settled node) = settled_line node

-- a line with its line feed
abbrev pub line_text : Line → List ℕ
line_text line = line ++ 10 ∷ []

-- lines, each with its line feed
abbrev pub lines_text : List Line → List ℕ
lines_text lines = flat_map line_text lines

-- a price set has a price for some slot
abbrev pub HasSlot : ProofLine → Type 0
HasSlot (Split node class m) = Unit {0}
HasSlot (Priced node prices) = 0 < length prices.slots
HasSlot (Settled node) = Unit {0}

-- each number of a break fits its field
abbrev pub FitsBreak : Break → Type 0
FitsBreak b = (b.start < 2 ^ 16) × (b.len < 2 ^ 16)

-- each number of a row fits its field
abbrev pub FitsRow : Row → Type 0
FitsRow r = (r.shift < 2 ^ 16) × (r.day < 2 ^ 8) × (r.count < 2 ^ 16) × All FitsBreak r.breaks

-- each number of a class fits its field
abbrev pub FitsClass : Class → Type 0
FitsClass c = (c.shift < 2 ^ 16) × (c.day < 2 ^ 8) × All FitsBreak c.prefix

-- each number of a price set fits its field
abbrev pub FitsPrices : Prices → Type 0
FitsPrices p = (p.q < 2 ^ 16) × All (FitsSigned w64) p.slots × All (λ price. price < 2 ^ 64) p.cuts

-- each number of a proof line fits its field
abbrev pub FitsLine : ProofLine → Type 0
FitsLine (Split node class m) = (node < 2 ^ 32) × FitsClass class × (m < 2 ^ 16)
FitsLine (Priced node prices) = (node < 2 ^ 32) × FitsPrices prices
FitsLine (Settled node) = node < 2 ^ 32
