-- What a journal's file stands for. The format has two versions, which differ in one byte of the mark: a digit, 49 (`1`) or 50 (`2`).
use Rattle.std.specs.Prelude.{◌≡◌, ◌≢◌, ◌⊎◌, ℕ, ◌+◌, ◌≤◌, List, [], ◌∷◌, ◌++◌, length, take}
use Rattle.std.specs.Int.{w32, to_le_bytes}

-- `SHIFTJ`, the digit of a version and a line feed
abbrev pub mark_of : ℕ → List ℕ
mark_of digit = 83 ∷ 72 ∷ 73 ∷ 70 ∷ 84 ∷ 74 ∷ digit ∷ 10 ∷ []

-- the mark of the journals that are written now
abbrev pub mark : List ℕ
mark = mark_of 50

-- four bytes of length, and that many bytes
abbrev pub framed : List ℕ → List ℕ
framed bytes = to_le_bytes w32 (length bytes) ++ bytes

-- records behind open gates
abbrev pub gated : List (List ℕ) → List ℕ
gated [] = []
gated (record_ ∷ records) = 1 ∷ framed record_ ++ gated records

-- the mark of a version, the header and the records
abbrev pub spelled_in : ℕ → List ℕ → List (List ℕ) → List ℕ
spelled_in digit head records = mark_of digit ++ framed head ++ gated records

-- the same in the version that is written now
abbrev pub spelled : List ℕ → List (List ℕ) → List ℕ
spelled head records = spelled_in 50 head records

-- A file of a version stands for a header and records where it is no longer than the limit and spells them, then has a gate
-- that isn't open, and then anything.
pub record StandsIn (digit limit : ℕ) (head : List ℕ) (records : List (List ℕ)) (file : List ℕ) : Type 0 where
  pub gate : ℕ
  pub rest : List ℕ
  pub spells : file ≡ spelled_in digit head records ++ gate ∷ rest
  pub closed : gate ≢ 1
  pub within : length file ≤ limit

-- a file of the version that is written now does
abbrev pub StandsFor : ℕ → List ℕ → List (List ℕ) → List ℕ → Type 0
StandsFor limit head records file = StandsIn 50 limit head records file

-- a file of the first version does
abbrev pub StoodFor : ℕ → List ℕ → List (List ℕ) → List ℕ → Type 0
StoodFor limit head records file = StandsIn 49 limit head records file

-- the file stands for these records, or for these and one more behind them
abbrev pub IsBeforeOrAfter : ℕ → List ℕ → List (List ℕ) → List ℕ → List ℕ → Type 0
IsBeforeOrAfter limit head records bytes file = StandsFor limit head records file ⊎ StandsFor limit head (records ++ bytes ∷ []) file

-- where the file ends, its closed gate included, once one more record of this many bytes is in it
abbrev pub end_after : List ℕ → List (List ℕ) → ℕ → ℕ
end_after head records count = length (spelled head records) + 6 + count

-- a new journal: the mark, the header and a closed gate
abbrev pub fresh : List ℕ → List ℕ
fresh head = mark ++ framed head ++ 0 ∷ []

-- the file has at most this many bytes
abbrev pub IsNoLonger : ℕ → List ℕ → Type 0
IsNoLonger n file = length file ≤ n

-- one byte or none, or bytes of which the first isn't that of the mark
abbrev pub IsUnfinished : List ℕ → Type 0
IsUnfinished file = (length file ≤ 1) ⊎ (take 1 file ≢ 83 ∷ [])

-- an unfinished file, or one that stands for this header and these records
abbrev pub IsUnfinishedOr : ℕ → List ℕ → List (List ℕ) → List ℕ → Type 0
IsUnfinishedOr limit head records file = IsUnfinished file ⊎ StandsFor limit head records file
