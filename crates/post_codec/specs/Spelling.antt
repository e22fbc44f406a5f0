-- The spellings of lists of posts: by each width of a price, each list has one.
-- Source: this project's own format.
use Rattle.std.specs.Prelude.{◌≡◌, ℕ, ℤ, pos, negsuc, suc, ◌-◌, ◌<◌, ◌^◌, List, [], ◌∷◌, ◌++◌, length, take, All, ⊤}
use Rattle.std.specs.List.{flat_map}
use Rattle.std.specs.Int.{w16, w32, w64, to_le_bytes}
use Rattle.break_rules.specs.declared.Break.{Break}
use Rattle.shift_instance.specs.declared.Row.{Row}
use Rattle.head_splits.specs.declared.Class.{Class}
use Rattle.head_splits.specs.declared.Prices.{Prices}
use Rattle.post_codec.specs.declared.price_width.PriceWidth.{PriceWidth}
use Rattle.post_codec.specs.declared.price_width.PriceWidth.TheVariants.{Five, Eight}
use Rattle.post_codec.specs.declared.post.Post.{Post}
use Rattle.post_codec.specs.declared.post.Post.TheVariants.{Plan, Priced, Split, Settled}

-- a number in two bytes, the least byte first
unfoldable pub u16_bytes : ℕ → List ℕ
u16_bytes n = to_le_bytes w16 n

-- a number in four bytes, the least byte first
unfoldable pub u32_bytes : ℕ → List ℕ
u32_bytes n = to_le_bytes w32 n

-- a number in eight bytes, the least byte first
unfoldable pub u64_bytes : ℕ → List ℕ
u64_bytes n = to_le_bytes w64 n

-- a break: its start and its length
abbrev pub break_bytes : Break → List ℕ
break_bytes b = u16_bytes b.start ++ u16_bytes b.len

-- breaks: their number in one byte, and each of them
abbrev pub breaks_bytes : List Break → List ℕ
breaks_bytes bs = length bs ∷ flat_map break_bytes bs

-- a row: its shift, its day, its count and its breaks
abbrev pub row_bytes : Row → List ℕ
row_bytes r = u16_bytes r.shift ++ (r.day ∷ []) ++ u16_bytes r.count ++ breaks_bytes r.breaks

-- rows: their number, and each of them
abbrev pub rows_bytes : List Row → List ℕ
rows_bytes rs = u32_bytes (length rs) ++ flat_map row_bytes rs

-- a class: its shift, its day and its breaks
abbrev pub class_bytes : Class → List ℕ
class_bytes c = u16_bytes c.shift ++ (c.day ∷ []) ++ breaks_bytes c.prefix

-- how many bytes a price takes
abbrev pub bytes_in : PriceWidth → ℕ
bytes_in Five = 5
bytes_in Eight = 8

-- how many numbers the bytes of a price tell apart
abbrev pub room : PriceWidth → ℕ
room Five = 2 ^ 40
room Eight = 2 ^ 64

-- half of them
abbrev pub half : PriceWidth → ℕ
half Five = 2 ^ 39
half Eight = 2 ^ 63

-- a number in the bytes of a price, the least byte first: the first of its eight
unfoldable pub price_bytes : PriceWidth → ℕ → List ℕ
price_bytes w n = take (bytes_in w) (u64_bytes n)

-- the number that stands for a price of a slot in two's complement
abbrev pub twos_complement : PriceWidth → ℤ → ℕ
twos_complement w (pos n) = n
twos_complement w (negsuc n) = room w - suc n

-- the price of a slot, in two's complement
abbrev pub slot_bytes : PriceWidth → ℤ → List ℕ
slot_bytes w price = price_bytes w (twos_complement w price)

-- prices of slots: their number, and each of them
abbrev pub slots_bytes : PriceWidth → List ℤ → List ℕ
slots_bytes w prices = u32_bytes (length prices) ++ flat_map (slot_bytes w) prices

-- prices of cuts: their number, and each of them
abbrev pub cuts_bytes : PriceWidth → List ℕ → List ℕ
cuts_bytes w prices = u32_bytes (length prices) ++ flat_map (price_bytes w) prices

-- prices: their scale, those of the slots and those of the cuts
abbrev pub prices_bytes : PriceWidth → Prices → List ℕ
prices_bytes w p = u16_bytes p.q ++ slots_bytes w p.slots ++ cuts_bytes w p.cuts

-- a plan: its tag, its worker, its cost and its rows
abbrev pub plan_bytes : ℕ → ℕ → List Row → List ℕ
plan_bytes worker cost rows = 1 ∷ u16_bytes worker ++ u64_bytes cost ++ rows_bytes rows

-- a priced node: its tag, its worker, its number and its prices
abbrev pub priced_bytes : PriceWidth → ℕ → ℕ → Prices → List ℕ
priced_bytes w worker node prices = 2 ∷ u16_bytes worker ++ u32_bytes node ++ prices_bytes w prices

-- a split: its tag, its worker, its node, its class and the number of the class's duties
abbrev pub split_bytes : ℕ → ℕ → Class → ℕ → List ℕ
split_bytes worker node class m = 3 ∷ u16_bytes worker ++ u32_bytes node ++ class_bytes class ++ u16_bytes m

-- a settled node: its tag, its worker and its number
abbrev pub settled_bytes : ℕ → ℕ → List ℕ
settled_bytes worker node = 4 ∷ u16_bytes worker ++ u32_bytes node

-- a post, which begins with the tag of its kind
abbrev pub post_bytes : PriceWidth → Post → List ℕ
post_bytes w (Plan worker rows cost) = plan_bytes worker cost rows
post_bytes w (Priced worker node prices) = priced_bytes w worker node prices
post_bytes w (Split worker node class m) = split_bytes worker node class m
post_bytes w (Settled worker node) = settled_bytes worker node

-- posts by a width of a price: their number, and each of them
abbrev pub spelling_by : PriceWidth → List Post → List ℕ
spelling_by w ps = u16_bytes (length ps) ++ flat_map (post_bytes w) ps

-- posts as journals keep them, with prices of five bytes
abbrev pub spelling : List Post → List ℕ
spelling ps = spelling_by Five ps

-- each number of a break fits its field
abbrev pub FitsBreak : Break → Type 0
FitsBreak b = (b.start < 2 ^ 16) × (b.len < 2 ^ 16)

-- each number of these breaks fits its field
abbrev pub FitsBreaks : List Break → Type 0
FitsBreaks bs = (length bs < 2 ^ 8) × All FitsBreak bs

-- each number of a row fits its field
abbrev pub FitsRow : Row → Type 0
FitsRow r = (r.shift < 2 ^ 16) × (r.day < 2 ^ 8) × (r.count < 2 ^ 16) × FitsBreaks r.breaks

-- each number of these rows fits its field
abbrev pub FitsRows : List Row → Type 0
FitsRows rs = (length rs < 2 ^ 32) × All FitsRow rs

-- each number of a class fits its field
abbrev pub FitsClass : Class → Type 0
FitsClass c = (c.shift < 2 ^ 16) × (c.day < 2 ^ 8) × FitsBreaks c.prefix

-- the price of a slot is one of the numbers of its field: from -2^39 to 2^39 - 1 in five bytes, from -2^63 to 2^63 - 1 in eight
abbrev pub FitsSlot : PriceWidth → ℤ → Type 0
FitsSlot w (pos n) = n < half w
FitsSlot w (negsuc n) = n < half w

-- the price of a cut is one of the numbers of its field: below 2^40 in five bytes, below 2^64 in eight
abbrev pub FitsCut : PriceWidth → ℕ → Type 0
FitsCut w n = n < room w

-- these prices of slots and their number fit their fields
abbrev pub FitsSlots : PriceWidth → List ℤ → Type 0
FitsSlots w prices = (length prices < 2 ^ 32) × All (FitsSlot w) prices

-- these prices of cuts and their number fit their fields
abbrev pub FitsCuts : PriceWidth → List ℕ → Type 0
FitsCuts w prices = (length prices < 2 ^ 32) × All (FitsCut w) prices

-- each number of these prices fits its field
abbrev pub FitsPrices : PriceWidth → Prices → Type 0
FitsPrices w p = (p.q < 2 ^ 16) × FitsSlots w p.slots × FitsCuts w p.cuts

-- each number of a post fits its field
abbrev pub FitsPost : PriceWidth → Post → Type 0
FitsPost w (Plan worker rows cost) = (worker < 2 ^ 16) × (cost < 2 ^ 64) × FitsRows rows
FitsPost w (Priced worker node prices) = (worker < 2 ^ 16) × (node < 2 ^ 32) × FitsPrices w prices
FitsPost w (Split worker node class m) = (worker < 2 ^ 16) × (node < 2 ^ 32) × FitsClass class × (m < 2 ^ 16)
FitsPost w (Settled worker node) = (worker < 2 ^ 16) × (node < 2 ^ 32)

-- each number of these posts fits its field
abbrev pub FitsPosts : PriceWidth → List Post → Type 0
FitsPosts w ps = (length ps < 2 ^ 16) × All (FitsPost w) ps

-- the bytes are the spelling of the posts by a width of a price
pub record SpellsBy (w : PriceWidth) (bytes : List ℕ) (ps : List Post) : Type 0 where
  pub fits : FitsPosts w ps
  pub is : bytes ≡ spelling_by w ps

-- the bytes are the spelling of the posts as journals keep them
abbrev pub Spells : List ℕ → List Post → Type 0
Spells bytes ps = SpellsBy Five bytes ps

-- a row has at most 255 breaks
abbrev pub CountsFitRow : Row → Type 0
CountsFitRow r = length r.breaks < 2 ^ 8

-- the number of rows fits its field, and so do those of their breaks
abbrev pub CountsFitRows : List Row → Type 0
CountsFitRows rs = (length rs < 2 ^ 32) × All CountsFitRow rs

-- a class has at most 255 breaks
abbrev pub CountsFitClass : Class → Type 0
CountsFitClass c = length c.prefix < 2 ^ 8

-- prices have a spelling: the numbers of prices of slots and of cuts fit their fields, and so does each price
abbrev pub CanSpellPrices : Prices → Type 0
CanSpellPrices p = FitsSlots Five p.slots × FitsCuts Five p.cuts

-- a post has a spelling: the numbers of things in it fit their fields, and so does each price
abbrev pub CanSpellPost : Post → Type 0
CanSpellPost (Plan worker rows cost) = CountsFitRows rows
CanSpellPost (Priced worker node prices) = CanSpellPrices prices
CanSpellPost (Split worker node class m) = CountsFitClass class
CanSpellPost (Settled worker node) = ⊤

-- there are at most 65,535 posts, and each has a spelling
abbrev pub CanSpell : List Post → Type 0
CanSpell ps = (length ps < 2 ^ 16) × All CanSpellPost ps

-- no bytes spell two lists
abbrev pub EachSpellsOnce : PriceWidth → Type 0
EachSpellsOnce w = (bytes : List ℕ) (ps qs : List Post) → SpellsBy w bytes ps → SpellsBy w bytes qs → ps ≡ qs

-- no list has two spellings
abbrev pub EachIsSpelledOnce : PriceWidth → Type 0
EachIsSpelledOnce w = (one other : List ℕ) (ps : List Post) → SpellsBy w one ps → SpellsBy w other ps → one ≡ other
