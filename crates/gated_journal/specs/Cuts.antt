-- Files that stand for no journal.
use Rattle.std.specs.Prelude.{◌≡◌, ◌≢◌, ◌⊎◌, ℕ, ◌+◌, ◌≤◌, ◌<◌, List, [], ◌∷◌, ◌++◌, length, take, drop, ⊤}
use Rattle.std.specs.Int.{w32, from_le_bytes}
use Rattle.gated_journal.specs.Format.{mark_of, spelled_in}

-- the number in the first four bytes
abbrev pub size_of : List ℕ → ℕ
size_of bytes = from_le_bytes w32 (take 4 bytes)

-- the length or the bytes pass the end
abbrev pub IsUnframed : List ℕ → Type 0
IsUnframed bytes = (length bytes < 4) ⊎ (length bytes < 4 + size_of bytes)

-- too short, or without the mark of a version, or the header passes the end
abbrev pub IsNoneIn : ℕ → List ℕ → Type 0
IsNoneIn digit file = (length file < 12) ⊎ ((take 8 file ≢ mark_of digit) ⊎ (length file < 12 + size_of (drop 8 file)))

-- so in the version that is written now
abbrev pub IsNoJournal : List ℕ → Type 0
IsNoJournal file = IsNoneIn 50 file

-- at least 8 bytes, and the first 8 are the mark of the first version
abbrev pub IsOldVersion : List ℕ → Type 0
IsOldVersion file = take 8 file ≡ mark_of 49

-- behind an open gate the length, the bytes or the next gate passes the end
abbrev pub IsShort : List ℕ → Type 0
IsShort tail = (length tail < 4) ⊎ (length tail ≤ 4 + size_of tail)

-- no gate, or a closed one, or an open one without a whole record
abbrev pub IsRecordsEnd : List ℕ → Type 0
IsRecordsEnd [] = ⊤
IsRecordsEnd (gate ∷ tail) = (gate ≢ 1) ⊎ IsShort tail

-- behind these records no gate stands, or an open one without a whole record
abbrev pub IsCut : List (List ℕ) → List ℕ → Type 0
IsCut records [] = records ≡ []
IsCut records (gate ∷ tail) = (gate ≡ 1) × IsShort tail

-- a file of a version that begins with this header and some records, and is cut off at this place behind them
pub record IsCutAt (digit : ℕ) (head file : List ℕ) (at : ℕ) : Type 0 where
  pub records : List (List ℕ)
  pub rest : List ℕ
  pub spells : file ≡ spelled_in digit head records ++ rest
  pub place : at ≡ length (spelled_in digit head records)
  pub cut : IsCut records rest

-- a start with the mark of a version and this length of a header
abbrev pub IsMarked : ℕ → List ℕ → ℕ → Type 0
IsMarked digit start n = (12 ≤ length start) × (take 8 start ≡ mark_of digit) × (n ≡ size_of (drop 8 start))

-- a start without the mark or without a length
abbrev pub IsUnmarked : ℕ → List ℕ → Type 0
IsUnmarked digit start = (length start < 12) ⊎ (take 8 start ≢ mark_of digit)
