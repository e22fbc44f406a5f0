-- How the parts of a spelling are read, one after the other. Contracts of functions that read speak of it; what `read` answers is told without it.
use Rattle.std.specs.Prelude.{◌≡◌, ℕ, ℤ, pos, negsuc, zero, suc, ◌-◌, List, [], ◌∷◌, length, take, drop, Result, Ok, Err, Vec, nat_lt, ◌==◌, if◌then◌else◌}
use Rattle.std.specs.declared.alloc.Global.{Global}
use Rattle.std.specs.Int.{Width, w16, w32, w64, byte_len, from_le_bytes}
use Rattle.break_rules.specs.declared.Break.{Break}
use Rattle.shift_instance.specs.declared.Row.{Row}
use Rattle.head_splits.specs.declared.Class.{Class}
use Rattle.head_splits.specs.declared.Prices.{Prices}
use Rattle.post_codec.specs.declared.price_width.PriceWidth.{PriceWidth}
use Rattle.post_codec.specs.declared.post.Post.{Post}
use Rattle.post_codec.specs.declared.post.Post.TheVariants.{Plan, Priced, Split, Settled}
use Rattle.post_codec.specs.declared.fault.CodecFault.{CodecFault}
use Rattle.post_codec.specs.declared.fault.CodecFault.TheVariants.{Departs, NoMemory}
use Rattle.post_codec.specs.declared.fault.Stop.{Stop}
use Rattle.post_codec.specs.declared.fault.Stop.TheVariants.{Memory, Left}
use Rattle.post_codec.specs.Spelling.{bytes_in, room, half}

-- the value at the front and the bytes after it, or the number of bytes from the faulty place to the end
abbrev pub Reader : Type 0 → Type 0
Reader A = List ℕ → Result (A × List ℕ) ℕ

-- the next step, where this one met no fault
infixl 10 ◌>>=◌
abbrev pub ◌>>=◌ : {A B : Type 0} → Result A ℕ → (A → Result B ℕ) → Result B ℕ
(Ok x) >>= f = f x
(Err e) >>= f = Err e

-- one value and then another
infixr 12 ◌then◌
abbrev pub ◌then◌ : {A B : Type 0} → Reader A → Reader B → Reader (A × B)
(f then g) bytes = f bytes >>= λ a. g a.1 >>= λ b. Ok ((a.0, b.0), b.1)

-- a value that is made of what is read
abbrev pub made : {A B : Type 0} → (A → B) → Reader A → Reader B
made f read bytes = read bytes >>= λ a. Ok (f a.0, a.1)

-- so many values
unfoldable pub times : {A : Type 0} → Reader A → ℕ → Reader (List A)
times read zero bytes = Ok ([], bytes)
times read (suc n) bytes = read bytes >>= λ first. times read n first.1 >>= λ others. Ok (first.0 ∷ others.0, others.1)

-- a number, and so many values
abbrev pub counted : {A : Type 0} → Reader ℕ → Reader A → Reader (List A)
counted number read bytes = number bytes >>= λ n. times read n.0 n.1

-- one byte
abbrev pub byte_at : Reader ℕ
byte_at [] = Err 0
byte_at (b ∷ rest) = Ok (b, rest)

-- a number of so many bytes; the fault is at its first byte
abbrev pub sized_at : ℕ → (List ℕ → ℕ) → Reader ℕ
sized_at size from bytes = if nat_lt (length bytes) size then Err (length bytes) else Ok (from (take size bytes), drop size bytes)

-- a number of that width, the least byte first
abbrev pub number_at : Width → Reader ℕ
number_at w bytes = sized_at (byte_len w) (from_le_bytes w) bytes

-- a number in the bytes of a price, the least byte first
abbrev pub price_at : PriceWidth → Reader ℕ
price_at w bytes = sized_at (bytes_in w) (from_le_bytes w64) bytes

-- the break of a start and a length
abbrev pub to_break : ℕ × ℕ → Break
to_break x = record { start = x.0; len = x.1 }

-- a break
unfoldable pub break_at : Reader Break
break_at bytes = made to_break (number_at w16 then number_at w16) bytes

-- breaks
unfoldable pub breaks_at : Reader (List Break)
breaks_at bytes = counted byte_at break_at bytes

-- the row of a shift, a day, a count and breaks
abbrev pub to_row : ℕ × (ℕ × (ℕ × List Break)) → Row
to_row x = record { shift = x.0; day = x.1.0; breaks = x.1.1.1; count = x.1.1.0 }

-- a row
unfoldable pub row_at : Reader Row
row_at bytes = made to_row (number_at w16 then (byte_at then (number_at w16 then breaks_at))) bytes

-- rows
unfoldable pub rows_at : Reader (List Row)
rows_at bytes = counted (number_at w32) row_at bytes

-- the class of a shift, a day and breaks
abbrev pub to_class : ℕ × (ℕ × List Break) → Class
to_class x = record { shift = x.0; day = x.1.0; prefix = x.1.1 }

-- a class
unfoldable pub class_at : Reader Class
class_at bytes = made to_class (number_at w16 then (byte_at then breaks_at)) bytes

-- the price of a slot that a number stands for in two's complement
abbrev pub to_slot : PriceWidth → ℕ → ℤ
to_slot w n = if nat_lt n (half w) then pos n else negsuc (room w - suc n)

-- the price of a slot
unfoldable pub slot_at : PriceWidth → Reader ℤ
slot_at w bytes = made (to_slot w) (price_at w) bytes

-- prices of slots
unfoldable pub slots_at : PriceWidth → Reader (List ℤ)
slots_at w bytes = counted (number_at w32) (slot_at w) bytes

-- prices of cuts
unfoldable pub cuts_at : PriceWidth → Reader (List ℕ)
cuts_at w bytes = counted (number_at w32) (price_at w) bytes

-- the prices of a scale, of slots and of cuts
abbrev pub to_prices : ℕ × (List ℤ × List ℕ) → Prices
to_prices x = record { q = x.0; slots = x.1.0; cuts = x.1.1 }

-- prices
unfoldable pub prices_at : PriceWidth → Reader Prices
prices_at w bytes = made to_prices (number_at w16 then (slots_at w then cuts_at w)) bytes

-- the plan of a worker, a cost and rows
abbrev pub to_plan : ℕ × (ℕ × List Row) → Post
to_plan x = Plan x.0 x.1.1 x.1.0

-- a plan behind its tag
unfoldable pub plan_at : Reader Post
plan_at bytes = made to_plan (number_at w16 then (number_at w64 then rows_at)) bytes

-- the priced node of a worker, a node and prices
abbrev pub to_priced : ℕ × (ℕ × Prices) → Post
to_priced x = Priced x.0 x.1.0 x.1.1

-- a priced node behind its tag
unfoldable pub priced_at : PriceWidth → Reader Post
priced_at w bytes = made to_priced (number_at w16 then (number_at w32 then prices_at w)) bytes

-- the split of a worker, a node, a class and a number of duties
abbrev pub to_split : ℕ × (ℕ × (Class × ℕ)) → Post
to_split x = Split x.0 x.1.0 x.1.1.0 x.1.1.1

-- a split behind its tag
unfoldable pub split_at : Reader Post
split_at bytes = made to_split (number_at w16 then (number_at w32 then (class_at then number_at w16))) bytes

-- the settled node of a worker and a node
abbrev pub to_settled : ℕ × ℕ → Post
to_settled x = Settled x.0 x.1

-- a settled node behind its tag
unfoldable pub settled_at : Reader Post
settled_at bytes = made to_settled (number_at w16 then number_at w32) bytes

-- the post behind that tag, where it is a tag
abbrev pub tagged_at : PriceWidth → ℕ → List ℕ → Result (Post × List ℕ) ℕ → Result (Post × List ℕ) ℕ
tagged_at w tag bytes none = if tag == 1 then plan_at bytes else (if tag == 2 then priced_at w bytes else (if tag == 3 then split_at bytes else (if tag == 4 then settled_at bytes else none)))

-- a tag, and the post of that tag; the fault of an unknown tag is at the tag
unfoldable pub post_at : PriceWidth → Reader Post
post_at w bytes = byte_at bytes >>= λ tag. tagged_at w tag.0 tag.1 (Err (length bytes))

-- posts
unfoldable pub posts_at : PriceWidth → Reader (List Post)
posts_at w bytes = counted (number_at w16) (post_at w) bytes

-- nothing may follow
abbrev pub ended : {A : Type 0} → A × List ℕ → Result A ℕ
ended (x, []) = Ok x
ended (x, b ∷ rest) = Err (length (b ∷ rest))

-- a fault by its offset from the beginning
abbrev pub by_offset : {A : Type 0} → ℕ → Result A ℕ → Result A ℕ
by_offset len (Ok x) = Ok x
by_offset len (Err left) = Err (len - left)

-- the posts of all of the bytes, or the number of bytes from the first fault to the end
abbrev pub whole : PriceWidth → List ℕ → Result (List Post) ℕ
whole w bytes = posts_at w bytes >>= ended

-- the posts of all of the bytes, or the offset of the first fault
abbrev pub reading : PriceWidth → List ℕ → Result (List Post) ℕ
reading w bytes = by_offset (length bytes) (whole w bytes)

-- a reason to stop is the fault that was met, or running out of memory
abbrev pub Stops : {Y : Type 0} → Stop → Result Y ℕ → Type 0
Stops Memory read = Unit {0}
Stops (Left n) read = read ≡ Err n

-- what a function returned, seen by view, is what was to be read, unless memory ran out
abbrev pub Gives : {X Y : Type 0} → (X → Y) → Result X Stop → Result Y ℕ → Type 0
Gives view (Ok x) read = read ≡ Ok (view x)
Gives view (Err e) read = Stops e read

-- a fault is the one that was met, or running out of memory
abbrev pub Tells : CodecFault → Result (List Post) ℕ → Type 0
Tells (Departs at) read = read ≡ Err at
Tells NoMemory read = Unit {0}

-- the answer is what was to be read, unless memory ran out
abbrev pub IsRead : Result (Vec Post Global) CodecFault → Result (List Post) ℕ → Type 0
IsRead (Ok v) read = read ≡ Ok v.items
IsRead (Err e) read = Tells e read
