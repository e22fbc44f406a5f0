-- The fields of a spelling, and where bytes depart from every spelling.
-- Source: this project's own format.
use Rattle.std.specs.Prelude.{◌≡◌, ℕ, ℤ, ◌≤◌, List, [], ◌∷◌, ◌++◌, length, take, ⊤, Result, Ok, Err, Vec}
use Rattle.std.specs.declared.alloc.Global.{Global}
use Rattle.std.specs.List.{flat_map}
use Rattle.break_rules.specs.declared.Break.{Break}
use Rattle.shift_instance.specs.declared.Row.{Row}
use Rattle.head_splits.specs.declared.Class.{Class}
use Rattle.head_splits.specs.declared.Prices.{Prices}
use Rattle.post_codec.specs.declared.price_width.PriceWidth.{PriceWidth}
use Rattle.post_codec.specs.declared.post.Post.{Post}
use Rattle.post_codec.specs.declared.post.Post.TheVariants.{Plan, Priced, Split, Settled}
use Rattle.post_codec.specs.declared.fault.CodecFault.{CodecFault}
use Rattle.post_codec.specs.declared.fault.CodecFault.TheVariants.{Departs, NoMemory}
use Rattle.post_codec.specs.Spelling.{u16_bytes, u32_bytes, u64_bytes, price_bytes, slot_bytes, spelling_by, FitsPosts, SpellsBy}

-- a break: its start and its length
abbrev pub break_fields : Break → List (List ℕ)
break_fields b = u16_bytes b.start ∷ u16_bytes b.len ∷ []

-- breaks: their number, and the fields of each
abbrev pub breaks_fields : List Break → List (List ℕ)
breaks_fields bs = (length bs ∷ []) ∷ flat_map break_fields bs

-- a row: its shift, its day, its count and its breaks
abbrev pub row_fields : Row → List (List ℕ)
row_fields r = u16_bytes r.shift ∷ (r.day ∷ []) ∷ u16_bytes r.count ∷ breaks_fields r.breaks

-- rows: their number, and the fields of each
abbrev pub rows_fields : List Row → List (List ℕ)
rows_fields rs = u32_bytes (length rs) ∷ flat_map row_fields rs

-- a class: its shift, its day and its breaks
abbrev pub class_fields : Class → List (List ℕ)
class_fields c = u16_bytes c.shift ∷ (c.day ∷ []) ∷ breaks_fields c.prefix

-- prices of slots: their number, and each of them
abbrev pub slots_fields : PriceWidth → List ℤ → List (List ℕ)
slots_fields w prices = u32_bytes (length prices) ∷ flat_map (λ price. slot_bytes w price ∷ []) prices

-- prices of cuts: their number, and each of them
abbrev pub cuts_fields : PriceWidth → List ℕ → List (List ℕ)
cuts_fields w prices = u32_bytes (length prices) ∷ flat_map (λ price. price_bytes w price ∷ []) prices

-- prices: their scale, those of the slots and those of the cuts
abbrev pub prices_fields : PriceWidth → Prices → List (List ℕ)
prices_fields w p = u16_bytes p.q ∷ slots_fields w p.slots ++ cuts_fields w p.cuts

-- a post: its tag, which is 1 for a plan, 2 for prices, 3 for a split and 4 for a settled node; its worker; and then the
-- cost and the rows of a plan, or the node with its prices, or with its class and the number of its duties, or alone
abbrev pub post_fields : PriceWidth → Post → List (List ℕ)
post_fields w (Plan worker rows cost) = (1 ∷ []) ∷ u16_bytes worker ∷ u64_bytes cost ∷ rows_fields rows
post_fields w (Priced worker node prices) = (2 ∷ []) ∷ u16_bytes worker ∷ u32_bytes node ∷ prices_fields w prices
post_fields w (Split worker node class m) = (3 ∷ []) ∷ u16_bytes worker ∷ u32_bytes node ∷ class_fields class ++ u16_bytes m ∷ []
post_fields w (Settled worker node) = (4 ∷ []) ∷ u16_bytes worker ∷ u32_bytes node ∷ []

-- posts: their number, and the fields of each
abbrev pub posts_fields : PriceWidth → List Post → List (List ℕ)
posts_fields w ps = u16_bytes (length ps) ∷ flat_map (post_fields w) ps

-- the bytes of fields, one field after the other
abbrev pub bytes_of : List (List ℕ) → List ℕ
bytes_of fields = flat_map (λ field. field) fields

-- a list's fields are its spelling in pieces
abbrev pub FieldsSpell : PriceWidth → Type 0
FieldsSpell w = (ps : List Post) → bytes_of (posts_fields w ps) ≡ spelling_by w ps

-- these bytes are the first fields of the spelling of some posts, each of them whole
pub record AreFirstFields (w : PriceWidth) (bytes : List ℕ) : Type 0 where
  pub posts : List Post
  pub fits : FitsPosts w posts
  pub count : ℕ
  pub is : bytes ≡ bytes_of (take count (posts_fields w posts))

-- the bytes spell no posts; up to this offset, and to none behind it, they are first fields of some posts
pub record DepartAt (w : PriceWidth) (bytes : List ℕ) (at : ℕ) : Type 0 where
  pub none : (ps : List Post) → SpellsBy w bytes ps → ⊥
  pub within : at ≤ length bytes
  pub before : AreFirstFields w (take at bytes)
  pub last : (n : ℕ) → n ≤ length bytes → AreFirstFields w (take n bytes) → n ≤ at

-- why bytes aren't read: they depart from every spelling there, or no memory is left
abbrev pub IsFaultOf : PriceWidth → List ℕ → CodecFault → Type 0
IsFaultOf w bytes (Departs at) = DepartAt w bytes at
IsFaultOf w bytes NoMemory = ⊤

-- the answer is these posts, unless memory ran out
abbrev pub GivesPosts : Result (Vec Post Global) CodecFault → List Post → Type 0
GivesPosts (Ok v) posts = v.items ≡ posts
GivesPosts (Err (Departs at)) posts = ⊥
GivesPosts (Err NoMemory) posts = ⊤
