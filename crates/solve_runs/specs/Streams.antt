-- What shows of the sink of a run.
use Rattle.std.specs.Prelude.{ℕ, List, Option}

-- what shows of a run's sink: what it holds before and after the run (none where it doesn't tell), and its counts of faults then
pub record SinkMet : Type 0 where
  pub held : Option (List ℕ)
  pub held_after : Option (List ℕ)
  pub faults : ℕ × ℕ

-- what shows of a sink from one of its states to a later one
abbrev pub sink_of : {K : Type 0} → (K → Option (List ℕ)) → (K → ℕ) → K → K → SinkMet
sink_of held faults old new = record { held = held old; held_after = held new; faults = (faults old, faults new) }
