-- How the words of a line are read, and one line after another. Contracts of private functions speak of it.
use Rattle.std.specs.Prelude.{◌≡◌, ℕ, ℤ, pos, negsuc, zero, suc, ◌-◌, ◌^◌, Bool, true, false, not, ◌&&◌, nat_lt, nat_le, ◌==◌, if◌then◌else◌, List, [], ◌∷◌, ◌++◌, All, FitsSigned, length, take, drop, bytes_eq, Option, Some, None, option_map, Result, Ok, Err, codes}
use Rattle.std.specs.List.{slice_split}
use Rattle.std.specs.Char.{is_ascii_digit}
use Rattle.std.specs.Fmt.{decimal, signed_decimal}
use Rattle.std.specs.Int.{w64}
use Rattle.std.specs.Str.Parse.{digits_value}
use Rattle.break_rules.specs.declared.Break.{Break}
use Rattle.shift_instance.specs.declared.Row.{Row}
use Rattle.certificate.specs.LineText.{joined}
use Rattle.certificate.specs.declared.proof_lines.Line.{Line as ProofLine}
use Rattle.certificate.specs.declared.proof_lines.Line.TheVariants.{Split, Priced, Settled}
use Rattle.post_codec.specs.Reading.{Reader}
use Rattle.post_codec.specs.declared.fault.Stop.{Stop}
use Rattle.post_codec.specs.declared.fault.Stop.TheVariants.{Memory, Left}

-- ---- a whole text as a value

-- the value that a text is the spelling of
abbrev pub Words : Type 0 → Type 0
Words A = List ℕ → Option A

-- the next step, where there is a value
abbrev pub given : {A B : Type 0} → Option A → (A → Option B) → Option B
given None f = None
given (Some x) f = f x

-- a value that passes a test
abbrev pub kept : {A : Type 0} → (A → Bool) → Option A → Option A
kept test None = None
kept test (Some x) = if test x then Some x else None

-- the text before the first such byte, and the text behind it
unfoldable pub cut_at : ℕ → List ℕ → Option (List ℕ × List ℕ)
cut_at by [] = None
cut_at by (b ∷ bs) = if b == by then Some ([], bs) else option_map (λ p. (b ∷ p.0, p.1)) (cut_at by bs)

-- whether a text begins with a digit, which stands alone where it is 0
abbrev pub begins_number : List ℕ → Bool
begins_number [] = false
begins_number (b ∷ []) = is_ascii_digit b
begins_number (b ∷ c ∷ rest) = is_ascii_digit b && not (b == 48)

-- a number below 2^64
unfoldable pub plain_number : Words ℕ
plain_number text = if bytes_eq text (decimal (digits_value 10 text)) && nat_lt (digits_value 10 text) (2 ^ 64) then Some (digits_value 10 text) else None

-- a number up to a limit
abbrev pub number_in : ℕ → Words ℕ
number_in most text = kept (λ n. nat_le n most) (plain_number text)

-- nothing but a word
abbrev pub word_in : List ℕ → Words (Unit {0})
word_in word text = if bytes_eq text word then Some tt else None

-- the text behind a beginning
abbrev pub behind : List ℕ → Words (List ℕ)
behind front text = if bytes_eq (take (length front) text) front then Some (drop (length front) text) else None

-- a value behind a beginning
abbrev pub led_by : {A : Type 0} → List ℕ → Words A → Words A
led_by front read text = given (behind front text) read

-- the value of the text behind a beginning, where there is one, and else another
abbrev pub behind_or : {A : Type 0} → Option (List ℕ) → Words A → Option A → Option A
behind_or None read other = other
behind_or (Some text) read other = read text

-- a value behind a beginning, and one of another kind where the text doesn't begin so
abbrev pub led_or : {A : Type 0} → List ℕ → Words A → Words A → Words A
led_or front read other text = behind_or (behind front text) read (other text)

-- a value on each side of the first such byte
abbrev pub both_sides : {A B : Type 0} → ℕ → Words A → Words B → Words (A × B)
both_sides by f g text = given (cut_at by text) (λ p. given (f p.0) (λ a. given (g p.1) (λ b. Some (a, b))))

-- a value for each word
abbrev pub each_in : {A : Type 0} → Words A → List (List ℕ) → Option (List A)
each_in read [] = Some []
each_in read (w ∷ ws) = given (read w) (λ a. given (each_in read ws) (λ others. Some (a ∷ others)))

-- values with commas between them
abbrev pub parts_in : {A : Type 0} → Words A → Words (List A)
parts_in read text = each_in read (slice_split (λ b. b == 44) text)

-- values with commas between them, and none for `-`
abbrev pub parts_or_dash : {A : Type 0} → Words A → Words (List A)
parts_or_dash read text = if bytes_eq text (codes "-") then Some [] else parts_in read text

-- the break of a start and a length
abbrev pub to_break : ℕ × ℕ → Break
to_break x = record { start = x.0; len = x.1 }

-- a break
unfoldable pub break_in : Words Break
break_in text = option_map to_break (both_sides 43 (number_in 65535) (number_in 65535) text)

-- breaks
unfoldable pub breaks_in : Words (List Break)
breaks_in text = parts_or_dash break_in text

-- the row of a shift, a day, a count and breaks
abbrev pub to_row : ℕ × (ℕ × (ℕ × List Break)) → Row
to_row x = record { shift = x.0; day = x.1.0; breaks = x.1.1.1; count = x.1.1.0 }

-- a row
unfoldable pub row_in : Words Row
row_in line = option_map to_row (led_by (codes "row ") (both_sides 32 (number_in 65535) (both_sides 32 (number_in 255) (both_sides 32 (number_in 65535) breaks_in))) line)

-- the number below 0 of a size above 0
abbrev pub minus : ℕ → ℤ
minus size = negsuc (size - 1)

-- the price of a slot, from -2^63 to 2^63 - 1
unfoldable pub slot_price_in : Words ℤ
slot_price_in text =
    led_or (codes "-") (λ size. option_map minus (kept (λ n. nat_lt 0 n) (number_in (2 ^ 63) size))) (λ n. option_map pos (number_in (2 ^ 63 - 1) n)) text

-- values with commas between them, and none for nothing
abbrev pub parts_or_none : {A : Type 0} → Words A → Words (List A)
parts_or_none read [] = Some []
parts_or_none read (b ∷ bs) = parts_in read (b ∷ bs)

-- the price of each slot
unfoldable pub slots_in : Words (List ℤ)
slots_in text = parts_or_none slot_price_in text

-- a text is the prices of some slots with commas between them, a blank and more text
pub record IsSlotsBefore (text : List ℕ) (prices : List ℤ) (rest : List ℕ) : Type 0 where
  pub is : text ≡ joined signed_decimal prices ++ 32 ∷ rest
  pub fit : All (FitsSigned w64) prices

-- the price of each cut
unfoldable pub cuts_in : Words (List ℕ)
cuts_in text = parts_or_dash (number_in (2 ^ 64 - 1)) text

-- the split of a node by a class
abbrev pub to_split : ℕ × (ℕ × (ℕ × (List Break × ℕ))) → ProofLine
to_split x = Split x.0 (record { shift = x.1.0; day = x.1.1.0; prefix = x.1.1.1.0 }) x.1.1.1.1

-- a split, behind its word
unfoldable pub split_in : Words ProofLine
split_in text = option_map to_split (both_sides 32 (number_in 4294967295) (both_sides 32 (number_in 65535) (both_sides 32 (number_in 255) (both_sides 32 breaks_in (number_in 65535)))) text)

-- a node with its prices
abbrev pub to_priced : ℕ × (ℕ × (List ℤ × List ℕ)) → ProofLine
to_priced x = Priced x.0 (record { q = x.1.0; slots = x.1.1.0; cuts = x.1.1.1 })

-- a priced node, behind its word
unfoldable pub priced_in : Words ProofLine
priced_in text = option_map to_priced (both_sides 32 (number_in 4294967295) (both_sides 32 (number_in 65535) (both_sides 32 slots_in cuts_in)) text)

-- a settled node, behind its word
unfoldable pub settled_in : Words ProofLine
settled_in text = option_map Settled (number_in 4294967295 text)

-- a proof line, also one of prices for no slot
unfoldable pub any_line_in : Words ProofLine
any_line_in line = led_or (codes "split ") split_in (led_or (codes "priced ") priced_in (led_by (codes "settled ") settled_in)) line

-- whether prices, where a proof line has them, are for some slot
abbrev pub has_slot : ProofLine → Bool
has_slot (Split node class m) = true
has_slot (Priced node prices) = nat_lt 0 (length prices.slots)
has_slot (Settled node) = true

-- a proof line of a report
unfoldable pub proof_line_in : Words ProofLine
proof_line_in line = kept has_slot (any_line_in line)

-- a number of proof lines
unfoldable pub proof_count_in : Words ℕ
proof_count_in line = led_by (codes "proof ") (number_in 4294967295) line

-- ---- lines

-- the next step, where this one met no fault
abbrev pub later : {A B : Type 0} → Result A ℕ → (A → Result B ℕ) → Result B ℕ
later (Ok x) f = f x
later (Err e) f = Err e

-- a value with the bytes after its line, or a fault
abbrev pub or_fault : {A : Type 0} → ℕ → List ℕ → Option A → Result (A × List ℕ) ℕ
or_fault left rest None = Err left
or_fault left rest (Some a) = Ok (a, rest)

-- the value of a line, if there is a line
abbrev pub on_line : {A : Type 0} → ℕ → Words A → Option (List ℕ × List ℕ) → Result (A × List ℕ) ℕ
on_line left read None = Err left
on_line left read (Some p) = or_fault left p.1 (read p.0)

-- the value of the first line; a fault is at its first byte
abbrev pub line_at : {A : Type 0} → Words A → Reader A
line_at read bytes = on_line (length bytes) read (cut_at 10 bytes)

-- one value, and another that may depend on it
abbrev pub next : {A B : Type 0} → Reader A → (A → Reader B) → Reader (A × B)
next f g bytes = later (f bytes) (λ a. later (g a.0 a.1) (λ b. Ok ((a.0, b.0), b.1)))

-- a value that is made of what is read
abbrev pub made : {A B : Type 0} → (A → B) → Reader A → Reader B
made f read bytes = later (read bytes) (λ a. Ok (f a.0, a.1))

-- so many values
unfoldable pub times : {A : Type 0} → Reader A → ℕ → Reader (List A)
times read zero bytes = Ok ([], bytes)
times read (suc n) bytes = made (λ p. p.0 ∷ p.1) (next read (λ _. times read n)) bytes

-- the bytes behind what is read
abbrev pub rest_of : {A : Type 0} → Result (A × List ℕ) ℕ → Result (List ℕ) ℕ
rest_of (Ok x) = Ok x.1
rest_of (Err left) = Err left

-- ---- what a function returned

-- a reason to stop is that the text has no value, with so many bytes left, or running out of memory
abbrev pub Misses : {Y : Type 0} → ℕ → Stop → Option Y → Type 0
Misses left Memory read = Unit {0}
Misses left (Left n) read = (n ≡ left) × (read ≡ None)

-- what a function returned, seen by view, is the value of a text, unless memory ran out
abbrev pub Finds : {X Y : Type 0} → (X → Y) → ℕ → Result X Stop → Option Y → Type 0
Finds view left (Ok x) read = read ≡ Some (view x)
Finds view left (Err e) read = Misses left e read
