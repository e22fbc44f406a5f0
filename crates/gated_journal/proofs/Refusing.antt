-- Why a file is refused, by its first bytes.
use Rattle.gated_journal.proofs.Common.{◌≡◌, ◌⊎◌, inl, inr, ℕ, ◌+◌, ◌<◌, List, length, take, drop, refl, sym, ◌∙◌, ap, subst, arith, take-take, drop-take, length-take, Option, None, Some, IfSome, IsMarked, IsNoneIn, IsOldVersion, IsUnmarked, size_of, OpenFails, OpenV1Fails, ReadFails, StartFails, JournalFault, DiskFault, NotAJournal, Damaged, Full, NoMemory, OldVersion}
use Rattle.std.specs.Int.{w32, from_le_bytes}

-- the first 8 of the first 12 bytes, and the number behind them
front_mark : (file start : List ℕ) → start ≡ take 12 file → take 8 start ≡ take 8 file
front_mark file start is = ap (take 8) is ∙ take-take 8 12 file (omega arith)

front_size : (file start : List ℕ) → start ≡ take 12 file → size_of (drop 8 start) ≡ size_of (drop 8 file)
front_size file start is =
    ap (λ (l : List ℕ). size_of (drop 8 l)) is ∙ ap size_of (drop-take 8 4 file) ∙ ap (from_le_bytes w32) (take-take 4 4 (drop 8 file) (omega arith))

-- the first 12 bytes have no mark or no length, or the header behind them passes the end
abbrev pub IsRefusedStart : ℕ → ℕ → List ℕ → Type 0
IsRefusedStart digit len start = IsUnmarked digit start ⊎ ((n : ℕ) × IsMarked digit start n × (len < 12 + n))

none_by_start : (digit len : ℕ) (file start : List ℕ) → start ≡ take 12 file → len ≡ length file → IsRefusedStart digit len start → IsNoneIn digit file
none_by_start digit len file start is size (inl (inl short)) = inl (omega (arith, short, ap length is, length-take 12 file))
none_by_start digit len file start is size (inl (inr other)) = inr (inl (λ e. other (front_mark file start is ∙ e)))
none_by_start digit len file start is size (inr past) = inr (inr (omega (arith, past.2, size, past.1.2, front_size file start is)))

-- a file that is longer than the limit
pub refused_long : (digit limit : ℕ) (reads : Option (List ℕ)) (before now len : ℕ) (start : List ℕ) → IfSome reads (λ file. start ≡ take 12 file) → IfSome reads (λ file. len ≡ length file) → IsRefusedStart digit len start
    → (e : JournalFault) → StartFails digit start e → ReadFails digit limit reads before now e
refused_long digit limit None before now len start is size why OldVersion fails = (fails.0, tt)
refused_long digit limit None before now len start is size why NotAJournal fails = tt
refused_long digit limit (Some file) before now len start is size why OldVersion fails = (fails.0, sym (front_mark file start is) ∙ fails.1)
refused_long digit limit (Some file) before now len start is size why NotAJournal fails =
    (λ second old. fails second (front_mark file start is ∙ old), none_by_start digit len file start is size why)
refused_long digit limit reads before now len start is size why (Damaged at) fails = absurd fails
refused_long digit limit reads before now len start is size why DiskFault fails = absurd fails
refused_long digit limit reads before now len start is size why NoMemory fails = absurd fails
refused_long digit limit reads before now len start is size why (Full e l) fails = absurd fails

-- a file that is read whole
pub refused_whole : (digit limit : ℕ) (reads : Option (List ℕ)) (before now : ℕ) (bytes : List ℕ) → IfSome reads (λ file. bytes ≡ file) → IsNoneIn digit bytes
    → (e : JournalFault) → StartFails digit bytes e → ReadFails digit limit reads before now e
refused_whole digit limit None before now bytes is none OldVersion fails = (fails.0, tt)
refused_whole digit limit None before now bytes is none NotAJournal fails = tt
refused_whole digit limit (Some file) before now bytes is none OldVersion fails = (fails.0, subst IsOldVersion is fails.1)
refused_whole digit limit (Some file) before now bytes is none NotAJournal fails =
    subst (λ (l : List ℕ). (digit ≡ 50 → IsOldVersion l → ⊥) × IsNoneIn digit l) is (fails, none)
refused_whole digit limit reads before now bytes is none (Damaged at) fails = absurd fails
refused_whole digit limit reads before now bytes is none DiskFault fails = absurd fails
refused_whole digit limit reads before now bytes is none NoMemory fails = absurd fails
refused_whole digit limit reads before now bytes is none (Full e l) fails = absurd fails

-- so in either version
pub second_fails : (limit : ℕ) (reads : Option (List ℕ)) (before now : ℕ) (e : JournalFault) → ReadFails 50 limit reads before now e → OpenFails limit reads before now e
second_fails limit reads before now OldVersion fails = fails.1
second_fails limit None before now NotAJournal fails = tt
second_fails limit (Some file) before now NotAJournal fails = (fails.0 refl, fails.1)
second_fails limit reads before now (Damaged at) fails = fails
second_fails limit reads before now DiskFault fails = fails
second_fails limit reads before now NoMemory fails = tt
second_fails limit reads before now (Full e l) fails = absurd fails

pub first_fails : (limit : ℕ) (reads : Option (List ℕ)) (before now : ℕ) (e : JournalFault) → ReadFails 49 limit reads before now e → OpenV1Fails limit reads before now e
first_fails limit reads before now OldVersion fails = absurd (omega (arith, fails.0))
first_fails limit None before now NotAJournal fails = tt
first_fails limit (Some file) before now NotAJournal fails = fails.1
first_fails limit reads before now (Damaged at) fails = fails
first_fails limit reads before now DiskFault fails = fails
first_fails limit reads before now NoMemory fails = tt
first_fails limit reads before now (Full e l) fails = absurd fails
