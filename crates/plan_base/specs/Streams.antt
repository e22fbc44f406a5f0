-- What a source has lost and a sink has gained where a run of calls fails, and the objects in memory as contracts see them.
use Rattle.std.specs.Prelude.{ℕ, ◌<◌, List, length, take, Option}
use Rattle.std.specs.Io.KnownBytes.{Consumes, Appends}

-- some bytes are gone from the front of what was left
abbrev pub LosesFront : Option (List ℕ) → Option (List ℕ) → Type 0
LosesFront before now = (front : List ℕ) × Consumes before now front

-- the first of these bytes came behind what was held, but not all of them
abbrev pub AppendsPart : Option (List ℕ) → Option (List ℕ) → List ℕ → Type 0
AppendsPart before now bytes = (count : ℕ) × (count < length bytes) × Appends before now (take count bytes)

-- the bytes still to come, the numbers of the reads that fail, the most bytes a read moves, and the two counts
pub record MemSourceView : Type 0 where
  pub left : List ℕ
  pub fails : List ℕ
  pub most : ℕ
  pub calls : ℕ
  pub faults : ℕ

-- the bytes taken so far, the numbers of the writes that fail, the most bytes a write moves, and the two counts
pub record MemSinkView : Type 0 where
  pub held : List ℕ
  pub fails : List ℕ
  pub most : ℕ
  pub calls : ℕ
  pub faults : ℕ
